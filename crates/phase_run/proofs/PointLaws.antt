-- Points that steps lead from and to: their sizes, their bounds, and their entries one after the other.
use Rattle.std.proofs.Common.{◌≡◌, ℕ, ◌+◌, ◌-◌, ◌*◌, ℤ, ◌≤ℤ◌, length, get_or, ap, arith, sym, ◌∙◌, Some, None, Option}
use Rattle.std.proofs.Common.{slice_get, subst, All, flat_map}
use Rattle.std.specs.Prelude.{Vec}
use Rattle.std.specs.List.{AllZip}
use Rattle.std.specs.declared.alloc.Global.{Global}
use Rattle.std.proofs.lemmas.Option.{slice_get_within, get_or_from_slice_get, same_Some}
use Rattle.std.proofs.lemmas.List.Elements.{All-contains}
use Rattle.lattice_theory.specs.Vectors.{Vector}
use Rattle.lattice_theory.specs.Matrices.{rows_of}
use Rattle.lattice_theory.specs.SignedSums.{vectors}
use Rattle.fold_theory.specs.Programs.{Program, IsProgram, Brick, Bricks, AreWithin}
use Rattle.run_theory.specs.Steps.{Move, IsBest, moved}
use Rattle.run_theory.specs.Folds.{FoldValue}
use Rattle.lattice_laws.proofs.Places.{same_value}
use Rattle.fold_laws.proofs.Points.{within_at}
use Rattle.fold_program.specs.Places.{OfBrick}
use Rattle.fold_program.proofs.PointLaws.{shape_of}
use Rattle.step_targets.specs.Targets.{after, AreBetween, Leads}
use Rattle.pottier.proofs.BasisLaws.{rows_again, entries_fit}

-- the sizes of a point and of a move
pub record StepSizes (t : ℕ) (x h : Bricks) : Type 0 where
  pub same : length h ≡ length x
  pub point : All (λ v. length v ≡ t) x
  pub parts : All (λ v. length v ≡ t) h

pub step_sizes : (f : FoldValue) (x : Bricks) (m : Move) → IsProgram f.program → AreWithin f.program.bricks x →
    All (λ w. length w ≡ f.program.brick.cols) (vectors f.sums) → IsBest f.program f.phase (vectors f.sums) x m →
    StepSizes f.program.link.cols x m.bricks
step_sizes f x m program within widths best = record {
  same = best.augments.candidate.walk.size;
  point = (shape_of f.program x program within).widths;
  parts = λ i d low.
      All-contains (λ w. length w ≡ f.program.brick.cols) (vectors f.sums) (get_or m.bricks i d) widths
      (best.augments.candidate.walk.moves i d low)
      ∙ program.brick_shape.width;
}

-- where the rule's step leads a brick is within its bounds
pub part_within : (f : FoldValue) (x : Bricks) (m : Move) (i k : ℕ) (v part lower upper : Vector) →
    IsBest f.program f.phase (vectors f.sums) x m → k ≡ m.k →
    slice_get (moved x m.k m.bricks) i ≡ Some (after m.k v part) → OfBrick f.program (i + 1) (λ b. lower ≡ b.lower) →
    OfBrick f.program (i + 1) (λ b. upper ≡ b.upper) → AreBetween lower upper (after k v part)
part_within f x m i k v part lower upper best same there lowers uppers =
    let index : i + 1 - 1 ≡ i = omega arith in
    let b = lowers.0 in
    let brick : slice_get f.program.bricks i ≡ Some b = ap (slice_get f.program.bricks) (sym index) ∙ lowers.1 in
    let within = within_at f.program.bricks (moved x m.k m.bricks) i b
    (after m.k v part) best.augments.candidate.walk.within brick there in
    let upper_is : upper ≡ b.upper = uppers.2 ∙ ap (λ (c : Brick).
    c.upper) (same_value (slice_get f.program.bricks (i + 1 - 1)) uppers.0 b uppers.1 lowers.1) in
    subst (λ n. AreBetween lower upper (after n v part)) (sym same) (
      subst (λ l. AllZip ◌≤ℤ◌ l (after m.k v part)) (sym lowers.2) within.0,
      subst (λ u. AllZip ◌≤ℤ◌ (after m.k v part) u) (sym upper_is) within.1,
    )

pub leads_somewhere : (lower upper end : Vector) (o : Option (Vec ℤ Global)) → Leads lower upper end o → o ≡ None →
    AreBetween lower upper end → ⊥
leads_somewhere lower upper end None h e between = h between
leads_somewhere lower upper end (Some v) h e between = absurd (cc)

pub leads_there : (lower upper end : Vector) (o : Option (Vec ℤ Global)) (v : Vec ℤ Global) → Leads lower upper end o →
    o ≡ Some v → v.items ≡ end
leads_there lower upper end None v h e = absurd (cc)
leads_there lower upper end (Some u) v h e =
    let same : u ≡ v = same_Some u v e in
    sym (ap (λ (w : Vec ℤ Global). w.items) same) ∙ h.1

pub sized_at : (vs : Bricks) (t i : ℕ) (v : Vector) → All (λ v. length v ≡ t) vs → slice_get vs i ≡ Some v →
    length v ≡ t
sized_at vs t i v widths there = ap length (sym (get_or_from_slice_get vs i v v there))
    ∙ widths i v (slice_get_within vs i v there)

-- a brick of a point within the bounds is as wide as the program that is read
pub width_at : (p q : Program) (x : Bricks) (i : ℕ) (v : Vector) → q ≡ p → IsProgram q → AreWithin p.bricks x →
    slice_get x i ≡ Some v → length v ≡ q.link.cols
width_at p q x i v same program within there =
    sized_at x q.link.cols i v
    (shape_of q x program (subst (λ (r : Program). AreWithin r.bricks x) (sym same) within)).widths there

-- the entries of a point within the bounds, one after the other, make that point
pub rows_of_point : (p : Program) (y : Bricks) (entries : Vector) → IsProgram p → AreWithin p.bricks y →
    entries ≡ flat_map (λ v. v) y →
    rows_of (length p.bricks) p.link.cols entries ≡ y
rows_of_point p y entries program within are =
    let shape = shape_of p y program within in
    rows_again (length p.bricks) p.link.cols y entries (sym shape.bricks) are shape.widths

pub length-entries : (p : Program) (y : Bricks) (entries : Vector) → IsProgram p → AreWithin p.bricks y →
    entries ≡ flat_map (λ v. v) y →
    length entries ≡ length p.bricks * p.link.cols
length-entries p y entries program within are =
    let shape = shape_of p y program within in
    entries_fit (length p.bricks) p.link.cols y entries (sym shape.bricks) are shape.widths
