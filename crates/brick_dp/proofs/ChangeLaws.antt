-- What the moves of a brick change its cost by, one move after the other.
use Rattle.std.proofs.Common.{◌≡◌, ℕ, ◌≤◌, ℤ, ◌-ℤ◌, ◌≤ℤ◌, unsigned_abs, List, length, ap, arith, sym, ◌∙◌, Some, None}
use Rattle.std.proofs.Common.{Option, slice_get, subst, All, pos, ◌^◌}
use Rattle.std.proofs.lemmas.Option.{slice_get_within, get_or_from_slice_get, same_Some}
use Rattle.std.proofs.lemmas.Int.{ints}
use Rattle.std.specs.Prelude.{Vec}
use Rattle.std.specs.declared.alloc.Global.{Global}
use Rattle.std.specs.List.{AllZip}
use Rattle.fold_theory.specs.declared.Phase.TheVariants.{Closed}
use Rattle.lattice_theory.specs.Vectors.{Vector, scale}
use Rattle.lattice_laws.proofs.Conformal.{length-add}
use Rattle.lattice_laws.proofs.Multiples.{length-scale}
use Rattle.lattice_laws.proofs.Places.{same_value}
use Rattle.fold_theory.specs.Programs.{Program, Brick, brick_cost}
use Rattle.fold_program.specs.Places.{OfBrick}
use Rattle.fold_program.specs.Refusals.{brick_magnitude, total_magnitude}
use Rattle.fold_program.proofs.PlaceLaws.{small_in_total}
use Rattle.step_targets.specs.Targets.{after, AreBetween, Leads}
use Rattle.brick_dp.specs.Changes.{IsChange}

pub sized_at : (zs : List Vector) (t : ℕ) (i : ℕ) (w : Vector) → All (λ z. length z ≡ t) zs → slice_get zs i ≡ Some w →
    length w ≡ t
sized_at zs t i w widths there =
    sym (ap length (get_or_from_slice_get zs i w w there)) ∙ widths i w (slice_get_within zs i w there)

pub length-after : (k : ℕ) (v d : Vector) (n : ℕ) → length v ≡ n → length d ≡ n → length (after k v d) ≡ n
length-after k v d n e f = length-add v (scale (pos (2 ^ k)) d) n e (length-scale (pos (2 ^ k)) d ∙ f)

-- where a move leads within the bounds, it leads there
pub led_to : (lower upper end : Vector) (o : Option (Vec ℤ Global)) (v : Vec ℤ Global) → Leads lower upper end o →
    o ≡ Some v → AreBetween lower upper end × (v.items ≡ end)
led_to lower upper end None v h e = absurd (cc)
led_to lower upper end (Some u) v h e =
    let same : u ≡ v = same_Some u v e in
    (h.0, sym (ap (λ (w : Vec ℤ Global). w.items) same) ∙ h.1)

-- the change of a move, from the costs before and after
pub closed_change : (p : Program) (i : ℕ) (k : ℕ) (v d end lower upper : Vector) (after_cost before_cost : ℤ) →
    OfBrick p i (λ b. lower ≡ b.lower) → OfBrick p i (λ b. upper ≡ b.upper) → AreBetween lower upper (after k v d) →
    end ≡ after k v d →
    OfBrick p i (λ b. after_cost ≡ brick_cost b end) → OfBrick p i (λ b. unsigned_abs after_cost ≤ brick_magnitude b) →
    OfBrick p i (λ b. before_cost ≡ brick_cost b v) → OfBrick p i (λ b. unsigned_abs before_cost ≤ brick_magnitude b) →
    OfBrick p i (λ b. IsChange Closed k b v d (Some (after_cost -ℤ before_cost)))
closed_change p i k v d end lower upper after_cost before_cost lowers uppers between led after_is after_low before_is
    before_low = (
      b,
      lowers.1,
      (
        (
          subst (λ l. AllZip ◌≤ℤ◌ l (after k v d)) lowers.2 between.0,
          subst (λ u. AllZip ◌≤ℤ◌ (after k v d) u)
              (uppers.2 ∙ ap (λ (c : Brick). c.upper) (same_value _ uppers.0 b uppers.1 lowers.1)) between.1,
        ),
        λ k. after_here k -ℤ before_here k,
        omega (
          arith,
          ints,
          ap brick_magnitude (same_value _ after_low.0 b after_low.1 lowers.1),
          after_low.2,
          ap brick_magnitude (same_value _ before_low.0 b before_low.1 lowers.1),
          before_low.2,
        ),
      ),
    )
  where
    b : Brick
    b = lowers.0

    after_here : after_cost ≡ brick_cost b (after k v d)
    after_here = after_is.2 ∙ ap (λ c. brick_cost c end) (same_value _ after_is.0 b after_is.1 lowers.1)
        ∙ ap (brick_cost b) led

    before_here : before_cost ≡ brick_cost b v
    before_here = before_is.2 ∙ ap (λ c. brick_cost c v) (same_value _ before_is.0 b before_is.1 lowers.1)

-- such a change fits
pub change_fits : (p : Program) (i : ℕ) (a b : ℤ) → total_magnitude p ≤ 2 ^ 120 →
    OfBrick p i (λ b. unsigned_abs a ≤ brick_magnitude b) →
    OfBrick p i (λ c. unsigned_abs b ≤ brick_magnitude c) → unsigned_abs (a -ℤ b) ≤ 2 ^ 121
change_fits p i a b most first second =
    let left = small_in_total p i a most first in
    let right = small_in_total p i b most second in
    omega (arith, ints, left, right)
