-- What is left to gain at a point: no other point that is where the phase wants it is better by more than the bound
-- number times the greatest gain of a candidate step.
use Rattle.std.proofs.Common.{◌≡◌, ℕ, zero, suc, ◌+◌, ◌*◌, ◌<◌, ◌≤◌, pos, ◌+ℤ◌, ◌-ℤ◌, ◌≤ℤ◌, List, [], ◌∷◌, length, refl}
use Rattle.std.proofs.Common.{ap, arith, sym, ◌∙◌, inl, inr, subst}
use Rattle.std.proofs.lemmas.Int.{ints}
use Rattle.std.proofs.lemmas.Bool.{cases_lt}
use Rattle.std.proofs.Math.Nat.{mul-le-mul_left, mul-pos}
use Rattle.fold_theory.specs.declared.Phase.{Phase}
use Rattle.lattice_theory.specs.Vectors.{Vector, ◌⊑◌, sub, scale}
use Rattle.lattice_laws.proofs.Products.{length-rows}
use Rattle.fold_theory.specs.Programs.{Program, Bricks, phase_cost, IsProgram}
use Rattle.run_theory.specs.Steps.{Augments, gain}
use Rattle.run_theory.specs.Outcomes.{widest_entry, bound_number}
use Rattle.lattice_laws.specs.VectorLists.{sum_of, weight, AreSized}
use Rattle.piece_laws.specs.Points.{back, way, image}
use Rattle.piece_laws.proofs.Points.{parts-sized, image-back, nearer, same_point}
use Rattle.piece_laws.proofs.OnePiece.{Frame}
use Rattle.count_laws.proofs.Clipped.{clipped, clipped_most, times, all_clipped, all_clipped_most}
use Rattle.count_laws.proofs.Times.{weight-times, image-times, times-still}
use Rattle.count_laws.proofs.UsedUp.{UsesUp, uses_up, moves_narrow, image_narrow, back_swap}
use Rattle.piece_laws.proofs.Starts.{sized, same_length, Ends, ends_of, way-sized, back_start}
use Rattle.count_laws.proofs.Gains.{twice_gained}
use Rattle.run_theory.specs.Starts.{IsStart}
use Rattle.piece_laws.specs.Pieces.{Piece}
use Rattle.piece_laws.proofs.Least.{piece_of_way}
use Rattle.std.proofs.lemmas.List.Elements.{length_all_zip}
use Rattle.fold_laws.proofs.Points.{point-length}

module _ (p : Program) (phase : Phase) (program : IsProgram p) (x : Bricks) (at_x : IsStart p phase x)
    (gens zs : List Vector) (bound : ℕ) (frame : Frame p phase gens zs bound) (most : ℕ)
    (gains : (k : ℕ) (d : Bricks) → Augments p phase zs x k d → gain p phase x k d ≤ℤ pos most) where
  abbrev t : ℕ
  t = p.brick.cols

  -- how far y is, where each entry counts up to the widest entry
  abbrev far : Bricks → ℕ
  far y = all_clipped (widest_entry p zs) (way x y) + clipped (widest_entry p zs) (image p (way x y))

  -- a nearer point, and what is lost on the way to it
  record Nearer (y : Bricks) : Type 0 where
    point : Bricks
    start : IsStart p phase point
    near : weight (way x point) < weight (way x y)
    less : suc (far point) ≤ far y
    costs : phase_cost p phase point ≤ℤ (phase_cost p phase y +ℤ pos most +ℤ pos most)

  -- by a piece of the way, as often as it fits
  module _ (y : Bricks) (at_y : IsStart p phase y) (q : Piece p zs (way x y))
      (u : UsesUp (widest_entry p zs) q.move (way x y) (image p q.move) (image p (way x y))) where
    abbrev m : ℕ
    m = u.m

    abbrev h : Bricks
    h = times m q.move

    sway : AreSized t (way x y)
    sway = way-sized p phase program x y at_x at_y

    ends : Ends p phase program x y at_x at_y h
    ends =
        ends_of p phase program x y at_x at_y h (record {
          bricks = u.parts;
          links = subst (λ v. v ⊑ image p (way x y)) (sym (image-times p t m q.move)) u.part;
        })

    rest : way x (back y h) ≡ back (way x y) h
    rest = back_swap y x h

    rest_image : image p (way x (back y h)) ≡ sub (image p (way x y)) (scale (pos m) (image p q.move))
    rest_image =
        ap (image p) rest
        ∙ image-back t p (way x y) h sway (parts-sized t h (way x y) u.parts sway)
        (length_all_zip ◌⊑◌ h (way x y) u.parts)
        ∙ ap (sub (image p (way x y))) (image-times p t m q.move)

    nearer_by : Nearer y
    nearer_by =
        let twice = twice_gained p phase program x y at_x at_y zs q m u.parts u.part most u.some gains in
        record {
          point = back y h;
          start = back_start p phase program x y at_x at_y h ends (times-still p m q.move q.still);
          near =
              omega (
                arith,
                nearer h x y u.parts,
                weight-times m q.move,
                mul-pos u.some q.nonzero,
              );
          less =
              omega (
                arith,
                u.less,
                ap (all_clipped (widest_entry p zs)) rest,
                ap (clipped (widest_entry p zs)) rest_image,
              );
          costs = omega (arith, ints, ends.costs, twice);
        }

  nearer_point : (y : Bricks) → IsStart p phase y → 0 < weight (way x y) → Nearer y
  nearer_point y at_y some =
      let q = piece_of_way p phase gens zs bound frame x y program at_x at_y some in
      let sh = parts-sized t q.move (way x y) q.below (way-sized p phase program x y at_x at_y) in
      nearer_by y at_y q
      (uses_up (widest_entry p zs) q.move (way x y) (image p q.move) (image p (way x y))
      (moves_narrow p zs q.move q.moves) (image_narrow p zs t q.move sh q.nonzero q.sums) q.below q.links q.nonzero)

  -- by the distance
  left_within : (k : ℕ) (y : Bricks) → weight (way x y) < k → IsStart p phase y →
      (phase_cost p phase x -ℤ phase_cost p phase y) ≤ℤ pos (2 * (far y * most))
  left_within zero y near at_y = absurd (omega (arith, near))
  left_within (suc k) y near at_y = elim (cases_lt 0 (weight (way x y))) [
    | inr none ↦
        let same : x ≡ y =
        same_point t x y (sized p program x at_x.within) (sized p program y at_y.within)
        (same_length p program x y at_x.within at_y.within) (omega (arith, none)) in
        omega (arith, ints, ap (phase_cost p phase) same)
    | inl some ↦
        let r = nearer_point y at_y some in
        let rest = left_within k r.point (omega (arith, r.near, near)) r.start in
        let more = one_more (far r.point) (far y) r.less in
        omega (arith, ints, rest, more, r.costs)
  ]
    where
      one_more : (a b : ℕ) → suc a ≤ b → most + a * most ≤ b * most
      one_more a b low = grind (arith, mul-le-mul_left most low)

  -- how far any point is
  far_most : (y : Bricks) → IsStart p phase y →
      far y ≤ (length p.bricks * t + length p.link.rows) * widest_entry p zs
  far_most y at_y =
      let widest = widest_entry p zs in
      let same = same_length p program x y at_x.within at_y.within in
      let bricks : length (way x y) ≡ length p.bricks =
      back-length y x (sym same) ∙ point-length p.bricks y at_y.within in
      omega (
        arith,
        all_clipped_most widest t (way x y) (way-sized p phase program x y at_x at_y),
        ap (λ k. (k * t) * widest) bricks,
        clipped_most widest (image p (way x y)),
        ap (λ k. k * widest) (length-rows p.link.rows (sum_of t (way x y))),
        both (length p.bricks * t) (length p.link.rows) widest,
      )
    where
      back-length : (y h : Bricks) → length h ≡ length y → length (back y h) ≡ length y
      back-length [] h size = refl
      back-length (v ∷ y) [] size = absurd (omega arith)
      back-length (v ∷ y) (d ∷ h) size = ap suc (back-length y h (omega arith))

      both : (a b g : ℕ) → (a + b) * g ≡ a * g + b * g
      both a b g = grind arith

  -- no start is better by more than the bound number times the greatest gain
  pub left_to_gain : (y : Bricks) → IsStart p phase y →
      (phase_cost p phase x -ℤ phase_cost p phase y) ≤ℤ pos (bound_number p zs * most)
  left_to_gain y at_y =
      let entries = length p.bricks * t + length p.link.rows in
      let whole = twice_most (far y) entries (widest_entry p zs) (far_most y at_y) in
      omega (
        arith,
        ints,
        left_within (suc (weight (way x y))) y (omega arith) at_y,
        whole,
      )
    where
      twice_most : (f n g : ℕ) → f ≤ n * g → 2 * (f * most) ≤ (2 * n * g) * most
      twice_most f n g low =
          let more = mul-le-mul_left most low in
          let turned : most * f ≡ f * most = grind arith in
          let whole : 2 * (most * (n * g)) ≡ (2 * n * g) * most = grind arith in
          omega (arith, more, turned, whole)
