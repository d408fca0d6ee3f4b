-- What a part of the way to another point gains. The gains along a piece of the way have falling increments, so what so
-- many times a piece gains is at most twice the greatest gain of a candidate step.
use Rattle.std.proofs.Common.{◌≡◌, ℕ, suc, ◌+◌, ◌-◌, ◌<◌, ◌≤◌, ◌^◌, ℤ, pos, ◌+ℤ◌, ◌-ℤ◌, ◌≤ℤ◌, true, false, List, []}
use Rattle.std.proofs.Common.{◌∷◌, length, refl, ap, arith, sym, ◌∙◌, Contains, inl, inr, subst}
use Rattle.std.proofs.lemmas.Int.{ints, by_lt_z}
use Rattle.std.proofs.lemmas.List.Elements.{All-from_recursion}
use Rattle.std.specs.List.{list_all}
use Rattle.fold_theory.specs.declared.Phase.{Phase}
use Rattle.lattice_theory.specs.Vectors.{Vector, ◌⊑◌, is_zero, add, sub, scale, zeros}
use Rattle.lattice_laws.proofs.Tests.{true_or_false, and_true}
use Rattle.lattice_laws.proofs.Conformal.{norm_of_zero}
use Rattle.lattice_laws.proofs.Products.{length-rows}
use Rattle.fold_theory.specs.Programs.{Program, Bricks, AreWithin, phase_cost, IsProgram}
use Rattle.run_theory.specs.Steps.{partial_sums, AllowsEnd, IsCandidate, Augments, gain}
use Rattle.lattice_laws.specs.VectorLists.{sum_of, weight, AreSized}
use Rattle.piece_laws.specs.Points.{way, ArePartsOf, image, IsPartOfWay}
use Rattle.piece_laws.proofs.Points.{forth-sized, parts-sized, image-forth, image-back}
use Rattle.count_laws.proofs.Half.{Concave, half}
use Rattle.count_laws.proofs.PowersOfTwo.{power_some, power_below}
use Rattle.count_laws.proofs.Clipped.{times}
use Rattle.count_laws.proofs.Times.{vector_twice, length-times, times-sized, image-times, fewer_below, fewer_times}
use Rattle.count_laws.proofs.Times.{along, moved_along, along_none, along_next, along_back, along_parts, length-along}
use Rattle.count_laws.proofs.Lengths.{times_fit}
use Rattle.run_theory.specs.Starts.{IsStart}
use Rattle.piece_laws.specs.Pieces.{Piece}
use Rattle.piece_laws.proofs.Starts.{sized, way-sized, Ends, ends_of, parts_cost}

-- a move with a nonzero weight is not all zeros
nonzero_move : (h : Bricks) → 0 < weight h → list_all is_zero h ≡ false
nonzero_move h some = elim (true_or_false (list_all is_zero h)) [
  | inl none ↦ absurd (omega (arith, some, all_none h none))
  | inr e ↦ e
]
  where
    all_none : (h : Bricks) → list_all is_zero h ≡ true → weight h ≡ 0
    all_none [] none = refl
    all_none (d ∷ h) none =
        let q = and_true (is_zero d) (list_all is_zero h) none in omega (arith, norm_of_zero d q.0, all_none h q.1)

module _ (p : Program) (phase : Phase) (program : IsProgram p) (x y : Bricks) (at_x : IsStart p phase x)
    (at_y : IsStart p phase y) (zs : List Vector) (piece : Piece p zs (way x y)) (m : ℕ)
    (fits : ArePartsOf (times m piece.move) x y) (links : scale (pos m) (image p piece.move) ⊑ image p (way x y)) where
  abbrev t : ℕ
  t = p.brick.cols

  abbrev h : Bricks
  h = piece.move

  -- what a times the piece gains
  abbrev gained : ℕ → ℤ
  gained a = phase_cost p phase x -ℤ phase_cost p phase (along x h a)

  part_at : (a : ℕ) → a ≤ m → IsPartOfWay p x y (times a h)
  part_at a low = record {
    bricks = fewer_times a m h (way x y) low fits;
    links =
        subst (λ v. v ⊑ image p (way x y)) (sym (image-times p t a h))
        (fewer_below a m (image p h) (image p (way x y)) low links);
  }

  ends_at : (a : ℕ) → a ≤ m → Ends p phase program x y at_x at_y (times a h)
  ends_at a low = ends_of p phase program x y at_x at_y (times a h) (part_at a low)

  sx : AreSized t x
  sx = sized p program x at_x.within

  size : length h ≡ length x
  size = sym (length-times m h) ∙ (ends_at m (omega arith)).size

  small : AreSized t h
  small = parts-sized t h (way x y) piece.below (way-sized p phase program x y at_x at_y)

  length-image : (u : Bricks) → length (image p u) ≡ length p.link.rows
  length-image u = length-rows p.link.rows (sum_of t u)

  along-sized : (a : ℕ) → AreSized t (along x h a)
  along-sized a = forth-sized t x (times a h) sx (times-sized t a h small)

  image-along : (a : ℕ) → image p (along x h a) ≡ add (image p x) (scale (pos a) (image p h))
  image-along a =
      image-forth t p x (times a h) sx (times-sized t a h small) (length-times a h ∙ size)
      ∙ ap (add (image p x)) (image-times p t a h)

  -- once more is a part of the way between two points along the piece
  step_part : (a : ℕ) → IsPartOfWay p (along x h a) (along x h (suc (suc a))) h
  step_part a =
      let u = along x h a in
      let v = along x h (suc (suc a)) in
      let same : length u ≡ length v = length-along x h a size ∙ sym (length-along x h (suc (suc a)) size) in
      let is_sub : image p (way u v)
      ≡ sub (add (image p x) (scale (pos (suc (suc a))) (image p h))) (add (image p x) (scale (pos a) (image p h))) =
      image-back t p v u (along-sized (suc (suc a))) (along-sized a) same
      ∙ (λ i. sub (image-along (suc (suc a)) i) (image-along a i)) in
      record {
        bricks = along_parts t a x h sx small size;
        links =
            subst (λ w. image p h ⊑ w) (sym is_sub)
            (vector_twice a (image p x) (image p h) (length-image h ∙ sym (length-image x)));
      }

  step_costs : (a : ℕ) → suc (suc a) ≤ m →
      (phase_cost p phase (along x h (suc a)) +ℤ phase_cost p phase (along x h (suc a)))
      ≤ℤ (phase_cost p phase (along x h a) +ℤ phase_cost p phase (along x h (suc (suc a))))
  step_costs a low =
      omega (
        arith,
        ints,
        parts_cost p program (along x h a) (along x h (suc (suc a))) h (ends_at a (omega (arith, low))).forth_within
            (ends_at (suc (suc a)) low).forth_within (step_part a) phase,
        ap (phase_cost p phase) (along_next a x h),
        ap (phase_cost p phase) (along_back a x h),
      )

  concave : Concave gained m
  concave a low =
      let once : a + 1 ≡ suc a = omega arith in
      let twice : a + 2 ≡ suc (suc a) = omega arith in
      omega (arith, ints, step_costs a (omega (arith, low)), ap gained once, ap gained twice)

  gained_none : gained 0 ≡ pos 0
  gained_none = omega (arith, ints, ap (phase_cost p phase) (along_none t x h sx small size))

  -- a power of 2 that is no more is a step length
  candidate : (k : ℕ) → 2 ^ k ≤ m → IsCandidate p phase zs x k h
  candidate k low =
      let once = sym (moved_along x h k) in
      let e = ends_at (2 ^ k) low in
      record {
        nonzero = nonzero_move h piece.nonzero;
        walk = record {
          size = size;
          moves = All-from_recursion (Contains zs) h piece.moves;
          sums = All-from_recursion (Contains zs) (partial_sums (zeros t) h) piece.sums;
          within = subst (AreWithin p.bricks) once e.forth_within;
        };
        length =
            omega (
              arith,
              times_fit (2 ^ k) p.bricks x y h at_x.within at_y.within (part_at (2 ^ k) low).bricks piece.nonzero,
            );
        end = subst (AllowsEnd p phase) once e.forth_end;
      }

  -- m times the piece gains at most twice the greatest gain
  pub twice_gained : (most : ℕ) → 1 ≤ m →
      ((k : ℕ) (d : Bricks) → Augments p phase zs x k d → gain p phase x k d ≤ℤ pos most) →
      (phase_cost p phase x -ℤ phase_cost p phase (along x h m)) ≤ℤ (pos most +ℤ pos most)
  twice_gained most some bound =
      let r = power_below m some in
      let l = 2 ^ r.k - 1 in
      let top : l + 1 ≡ 2 ^ r.k = omega (arith, power_some r.k) in
      let at_top : gain p phase x r.k h ≤ℤ pos most =
      by_lt_z (pos 0) (gain p phase x r.k h)
      (λ lower. bound r.k h (record { candidate = candidate r.k r.low; lowers = lower }))
      (λ low. omega (arith, ints, low)) in
      half gained m concave gained_none l (omega (arith, top, r.low)) (omega (arith, top, r.high)) (pos most)
      (omega (arith, ints))
      (omega (arith, ints, at_top, ap gained top, ap (phase_cost p phase) (moved_along x h r.k)))
