-- The sum of two vectors, entry by entry, and where it is listed.
use Rattle.std.proofs.Common.{◌≡◌, ℕ, zero, suc, ◌+◌, ◌<◌, ◌≤◌, ℤ, pos, negsuc, ◌+ℤ◌, List, [], ◌∷◌, length, refl, ap}
use Rattle.std.proofs.Common.{arith, sym, ◌∙◌, Option, Some, None, subst, All, Contains, inl, inr, get_or, set}
use Rattle.std.proofs.Common.{FitsSigned, w64}
use Rattle.std.specs.Prelude.{MatchOption, slice_get}
use Rattle.std.proofs.lemmas.Int.{ints}
use Rattle.std.proofs.lemmas.Bool.{cases_lt}
use Rattle.std.proofs.lemmas.List.{same_lists, get_or-set_same, get_or-set_other, length-set, get_or_default}
use Rattle.std.proofs.lemmas.List.Elements.{All-contains}
use Rattle.std.proofs.lemmas.Option.{slice_get_within, get_or_from_slice_get}
use Rattle.lattice_theory.specs.Vectors.{Vector, add}
use Rattle.lattice_laws.proofs.Places.{same_value}
use Rattle.lattice_laws.proofs.Conformal.{length-add}
use Rattle.sieve_laws.specs.Sieve.{Leads, IsTarget}
use Rattle.layer_sieve.specs.Targets.{IsWord}

pub word_of : (a : ℤ) → FitsSigned w64 a → IsWord a
word_of (pos n) h = (omega (arith, ints), omega (arith, ints, h.sfits))
word_of (negsuc n) h = (omega (arith, ints, h.sfits), omega (arith, ints))

pub of_word : (a : ℤ) → IsWord a → FitsSigned w64 a
of_word (pos n) h = record { sfits = omega (arith, ints, h.1) }
of_word (negsuc n) h = record { sfits = omega (arith, ints, h.0) }

entry-add : (u w : Vector) (k : ℕ) (d : ℤ) → length u ≡ length w → k < length u →
    get_or (add u w) k d ≡ get_or u k (pos 0) +ℤ get_or w k (pos 0)
entry-add [] w k d same low = absurd (omega arith)
entry-add (a ∷ u) [] k d same low = absurd (omega arith)
entry-add (a ∷ u) (b ∷ w) zero d same low = refl
entry-add (a ∷ u) (b ∷ w) (suc k) d same low = entry-add u w k d (omega arith) (omega arith)

-- the first entries are those of the sum
pub record IsWritten (into first second : Vector) (n : ℕ) : Type 0 where
  pub size : length into ≡ length first
  pub entries : (k : ℕ) → k < n → get_or into k (pos 0) ≡ get_or first k (pos 0) +ℤ get_or second k (pos 0)

pub written_more : (into next first second : Vector) (n : ℕ) (x : ℤ) → n < length into → next ≡ set into n x →
    x ≡ get_or first n (pos 0) +ℤ get_or second n (pos 0) → IsWritten into first second n →
    IsWritten next first second (n + 1)
written_more into next first second n x inside is entry so_far = record {
  size = ap length is ∙ length-set into n x ∙ so_far.size;
  entries = λ k low. ap (λ v. get_or v k (pos 0)) is ∙ elim (cases_lt k n) [
    | inl before ↦ let other : k ≡ n → ⊥ = (λ e. omega (arith, before, e)) in
        get_or-set_other into n k x (pos 0) other ∙ so_far.entries k before
    | inr high ↦
        let last : k ≡ n = omega (arith, low, high) in
        ap (λ j. get_or (set into n x) j (pos 0)) last ∙ get_or-set_same into n x (pos 0) inside ∙ entry
        ∙ ap (λ j. get_or first j (pos 0) +ℤ get_or second j (pos 0)) (sym last)
  ];
}

pub written_all : (into first second : Vector) (n : ℕ) → length first ≡ length second → length first ≤ n →
    IsWritten into first second n → into ≡ add first second
written_all into first second n same all written =
    same_lists into (add first second) (written.size ∙ sym (length-add first second (length first) refl (sym same)))
    (λ k d low.
    let inside : k < length first = omega (arith, low, written.size) in
    sym (get_or_default into k (pos 0) d low) ∙ written.entries k (omega (arith, inside, all))
    ∙ sym (entry-add first second k d same inside))

-- an entry that no word holds
pub wide_entry : (first second : Vector) (n : ℕ) → length first ≡ length second → n < length first →
    (FitsSigned w64 (get_or first n (pos 0) +ℤ get_or second n (pos 0)) → ⊥) → All IsWord (add first second) → ⊥
wide_entry first second n same low wide words =
    let word : IsWord (get_or (add first second) n (pos 0)) =
    words n (pos 0) (omega (arith, low, length-add first second (length first) refl (sym same))) in
    wide (of_word _ (subst IsWord (entry-add first second n (pos 0) same low) word))

-- ---- targets

module _ (zs : List Vector) (h w : ℕ) (from by : Vector) (start : slice_get zs w ≡ Some from)
    (move : slice_get zs h ≡ Some by) where
  ends : (j : ℕ) → Leads zs h w j → slice_get zs j ≡ Some (add from by)
  ends j leads =
      let starts = same_value (slice_get zs w) leads.from from leads.start start in
      let moves = same_value (slice_get zs h) leads.by by leads.move move in
      leads.end ∙ ap Some (λ k. add (starts k) (moves k))

  -- a sum with an entry that no word holds is not listed
  pub target_wide : All (All IsWord) zs → (All IsWord (add from by) → ⊥) → IsTarget zs h w None
  target_wide words wide j leads =
      let end = ends j leads in
      wide (All-contains (All IsWord) zs (add from by) words
      (j, slice_get_within zs j (add from by) end, get_or_from_slice_get zs j (add from by) (add from by) end))

  -- what a search for the sum answers
  pub target_found : (sum : Vector) (o : Option ℕ) → sum ≡ add from by →
      MatchOption o (Contains zs sum → ⊥) (λ i. slice_get zs i ≡ Some sum) → IsTarget zs h w o
  target_found sum None is absent = none
    where
      none : (j : ℕ) → Leads zs h w j → ⊥
      none j leads =
          let end = ends j leads ∙ ap Some (sym is) in
          absent (j, slice_get_within zs j sum end, get_or_from_slice_get zs j sum sum end)
  target_found sum (Some j) is found = record {
    from = from;
    start = start;
    by = by;
    move = move;
    end =
        found ∙ ap Some is;
  }
