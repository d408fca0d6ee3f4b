-- The vectors that steps take, made element by element.
use Rattle.std.proofs.Common.{◌≡◌, ℕ, ℤ, ◌+◌, ◌<◌, ◌≤◌, ◌^◌, unsigned_abs, neg_ℤ, List, [], ◌∷◌, ◌++◌, length, take}
use Rattle.std.proofs.Common.{get_or, refl, ap, arith, sym, subst, ◌∙◌, Some, slice_get, length-take, Vec, Global, ◌↔◌}
use Rattle.std.proofs.Common.{max}
use Rattle.std.specs.List.{All}
use Rattle.std.proofs.lemmas.List.{take_more, take_all, map_push, append_assoc, get_or-map, length-map}
use Rattle.std.proofs.lemmas.List.Elements.{All-push, All-take, All-map, All-weaker}
use Rattle.std.proofs.lemmas.Option.{slice_get_within, get_or_from_slice_get}
use Rattle.lattice_theory.specs.Vectors.{Vector, opposite}
use Rattle.lattice_theory.specs.Lattices.{first_parts}
use Rattle.lattice_theory.specs.BasisLimits.{IsNarrow}
use Rattle.lattice_laws.proofs.Conformal.{length-opposite}
use Rattle.lattice_laws.proofs.Signs.{abs_opposite}
use Rattle.fold_theory.specs.Programs.{Program, widest}
use Rattle.step_lengths.specs.Lengths.{IsLengthCount}
use Rattle.brick_phase.specs.declared.moves.Moves.{Moves}
use Rattle.brick_phase.specs.Moves.{vectors, with_opposites, AreMoves}
use Rattle.brick_phase.specs.Offers.{FitMoves}

-- one more vector, and its opposite
with_opposites-push : (vs : List Vector) (v : Vector) → with_opposites (vs ++ v ∷ []) ≡ with_opposites vs ++ v
    ∷ opposite v ∷ []
with_opposites-push [] v = refl
with_opposites-push (u ∷ vs) v = ap (λ us. u ∷ opposite u ∷ us) (with_opposites-push vs v)

-- the vector at a place
pub vectors-at : (kept shown : List (Vec ℤ Global)) (i : ℕ) (x : Vec ℤ Global) → shown ≡ kept → i < length shown →
    x ≡ get_or shown i x →
    get_or (vectors kept) i [] ≡ x.items
vectors-at kept shown i x is low there =
    ap (λ vs. get_or (vectors vs) i []) (sym is) ∙ get_or-map (λ (v : Vec ℤ Global). v.items) shown i x [] low
    ∙ ap (λ (v : Vec ℤ Global). v.items) (sym there)

-- each vector at a place fits
pub FitMoves-at : (p : Program) (m : Moves) (i : ℕ) (v u : Vector) → FitMoves p m → i < length m.vectors.items →
    get_or (vectors m.vectors.items) i [] ≡ v → u ≡ v →
    (length u ≡ p.link.cols) × IsNarrow u
FitMoves-at p m i v u fit low is same =
    subst (λ w. (length w ≡ p.link.cols) × IsNarrow w) (is ∙ sym same)
    (fit.sizes i [] (omega (arith, low, length-map m.vectors.items (λ (w : Vec ℤ Global). w.items))))

-- ---- two more vectors: the first part of an element, and its opposite

-- the vectors of all elements before i
pub record ArePartsOf (cols : ℕ) (basis : List Vector) (i : ℕ) (kept : List (Vec ℤ Global)) : Type 0 where
  pub parts : vectors kept ≡ with_opposites (first_parts cols (take i basis))
  pub sizes : All (λ v. (length v ≡ cols) × IsNarrow v) (vectors kept)

pub ArePartsOf-more : (cols : ℕ) (basis : List Vector) (i : ℕ) (z part : Vector) (first second : Vec ℤ Global)
    (old mid new : List (Vec ℤ Global)) →
    slice_get basis i ≡ Some z → cols ≤ length z → IsNarrow z → part ≡ take cols z → first.items ≡ part →
    second.items ≡ opposite part →
    mid ≡ old ++ first ∷ [] → new ≡ mid ++ second ∷ [] → ArePartsOf cols basis i old → ArePartsOf cols basis (i + 1) new
ArePartsOf-more cols basis i z part first second old mid new there wide narrow is first_is second_is one two so_far =
    let low : i < length basis = slice_get_within basis i z there in
    let size : length part ≡ cols = omega (arith, wide, ap length is, length-take cols z) in
    let IsSmall : ℤ → Type 0 = λ a. unsigned_abs a < 2 ^ 31 in
    let thin : IsNarrow part = subst IsNarrow (sym is) (All-take IsSmall cols z narrow) in
    let back : IsNarrow (opposite part) =
    All-map IsSmall neg_ℤ part (All-weaker IsSmall (λ a. IsSmall (neg_ℤ a)) (λ a small. omega (
      arith,
      small,
      abs_opposite a,
    )) part thin) in
    let Fits : Vector → Type 0 = λ v. (length v ≡ cols) × IsNarrow v in
    let pushed : (more : Vec ℤ Global) (v : Vector) (before after : List (Vec ℤ Global)) → more.items ≡ v →
    after ≡ before ++ more ∷ [] → vectors after ≡ vectors before ++ v ∷ [] =
    λ more v before after same e. ap vectors e ∙ map_push (λ (u : Vec ℤ Global). u.items) before more
    ∙ ap (λ u. vectors before ++ u ∷ []) same in
    let first_pushed = pushed first part old mid first_is one in
    let second_pushed = pushed second (opposite part) mid new second_is two in
    record {
      parts =
          second_pushed ∙ ap (λ vs. vs ++ opposite part ∷ []) (first_pushed ∙ ap (λ vs. vs ++ part ∷ []) so_far.parts)
          ∙ append_assoc (with_opposites (first_parts cols (take i basis))) (part ∷ []) (opposite part ∷ [])
          ∙ sym (with_opposites-push (first_parts cols (take i basis)) part)
          ∙ ap (λ v. with_opposites (first_parts cols (take i basis) ++ v ∷ [])) (is
          ∙ ap (take cols) (sym (get_or_from_slice_get basis i z [] there)))
          ∙ ap with_opposites (sym (ap (first_parts cols) (take_more basis i [] low)
          ∙ map_push (take cols) (take i basis) (get_or basis i [])));
      sizes =
          subst (All Fits) (sym second_pushed)
          (All-push Fits (vectors mid) (opposite part)
          (subst (All Fits) (sym first_pushed) (All-push Fits (vectors old) part so_far.sizes (size, thin)))
          (omega (arith, size, length-opposite part), back));
    }

-- the vectors of all elements, with the lengths of the program
pub AreMoves-all : (p : Program) (basis : List Vector) (n : ℕ) (m : Moves) (range : ℕ) → p.brick.cols ≡ p.link.cols →
    length basis ≤ n →
    ArePartsOf p.link.cols basis n m.vectors.items → range ≡ widest p → IsLengthCount range m.lengths → m.lengths ≤ 64 →
    AreMoves p basis m
AreMoves-all p basis n m range same all so_far is lengths few = record {
  parts = so_far.parts ∙ ap (λ vs. with_opposites (first_parts p.link.cols vs)) (take_all n basis all)
      ∙ ap (λ cols. with_opposites (first_parts cols basis)) (sym same);
  sizes = so_far.sizes;
  lengths = λ k. subst (λ w. (k < m.lengths) ↔ (2 ^ k ≤ max 1 w)) is (lengths k);
  few = few;
}
