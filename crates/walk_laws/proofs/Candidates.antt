-- Walks from zero through all layers are the candidate steps, and what a walk costs is what the phase cost changes by.
use Rattle.std.proofs.Common.{◌≡◌, ℕ, ◌^◌, ℤ, pos, ◌+ℤ◌, ◌-ℤ◌, ◌*ℤ◌, Bool, true, false, cond, nat_eq, List, [], ◌∷◌}
use Rattle.std.proofs.Common.{length, map, refl, ap, arith, sym, ◌∙◌, Some, None, All, get_or}
use Rattle.std.proofs.lemmas.Int.{ints}
use Rattle.std.proofs.lemmas.List.Elements.{All-head, All-tail, All-contains}
use Rattle.std.proofs.lemmas.Bool.Decides.{nat_tests}
use Rattle.std.specs.List.{list_all}
use Rattle.std.proofs.Math.IntN.{*ℤ-zero}
use Rattle.std.proofs.lemmas.Option.{same_Some}
use Rattle.fold_theory.specs.declared.Phase.{Phase}
use Rattle.fold_theory.specs.declared.Phase.TheVariants.{Closed, Counted}
use Rattle.lattice_theory.specs.Lists.{total, zip_with, sum_zip}
use Rattle.lattice_theory.specs.Vectors.{Vector, add, sub, scale, dot, zeros, is_zero}
use Rattle.lattice_theory.specs.Matrices.{product}
use Rattle.lattice_laws.proofs.Tests.{and_true}
use Rattle.lattice_laws.proofs.Products.{times_sum, dot-add, dot-zeros, zeros_is, length-zeros}
use Rattle.lattice_laws.proofs.Conformal.{length-add}
use Rattle.lattice_laws.proofs.Multiples.{scale-zeros, length-scale, dot-scale}
use Rattle.lattice_laws.proofs.Sums.{add_zeros}
use Rattle.fold_theory.specs.Programs.{Program, Brick, Bricks, brick_cost, link_rests, link_miss, phase_cost}
use Rattle.run_theory.specs.Steps.{moved, IsWalk, AllowsEnd}
use Rattle.run_theory.specs.Walks.{walk_change, walk_end, WalkCosts}

-- ---- what the linking rows miss after a step

row_moved : (t k : ℕ) (row : Vector) (x h : Bricks) (w : Vector) → length h ≡ length x → length w ≡ t →
    All (λ v. length v ≡ t) x → All (λ v. length v ≡ t) h →
    total (map (dot row) (moved x k h)) +ℤ pos (2 ^ k) *ℤ dot row w ≡ total (map (dot row) x) +ℤ pos (2 ^ k) *ℤ dot row
    (walk_end w h)
row_moved t k row [] [] w same size wx wh = refl
row_moved t k row [] (d ∷ h) w same size wx wh = absurd (omega arith)
row_moved t k row (v ∷ x) [] w same size wx wh = absurd (omega arith)
row_moved t k row (v ∷ x) (d ∷ h) w same size wx wh =
    let P = λ (v : Vector). length v ≡ t in
    let l = pos (2 ^ k) in
    let ev : length v ≡ t = All-head P v x wx in
    let ed : length d ≡ t = All-head P d h wh in
    let head : dot row (add v (scale l d)) ≡ dot row v +ℤ l *ℤ dot row d =
    dot-add row v (scale l d) (ev ∙ sym (length-scale l d ∙ ed)) ∙ ap (λ z. dot row v +ℤ z) (dot-scale l row d) in
    let next : dot row (add w d) ≡ dot row w +ℤ dot row d = dot-add row w d (size ∙ sym ed) in
    let more = row_moved t k row x h (add w d) (omega arith) (length-add w d t size ed) (All-tail P v x wx)
    (All-tail P d h wh) in
    omega (arith, ints, head, ap (λ z. l *ℤ z) next, times_sum l (dot row w) (dot row d), more)

rests_by_row : (l : ℤ) (rows : List Vector) (rights : Vector) (x y : Bricks) (e : Vector) →
    ((row : Vector) → total (map (dot row) y) ≡ total (map (dot row) x) +ℤ l *ℤ dot row e) →
    zip_with (λ row right. right -ℤ total (map (dot row) y)) rows rights
    ≡ sub (zip_with (λ row right. right -ℤ total (map (dot row) x)) rows rights) (scale l (map (λ row. dot row e) rows))
rests_by_row l [] rights x y e each = refl
rests_by_row l (row ∷ rows) [] x y e each = refl
rests_by_row l (row ∷ rows) (right ∷ rights) x y e each =
    let here : right -ℤ total (map (dot row) y) ≡ (right -ℤ total (map (dot row) x)) -ℤ l *ℤ dot row e =
    omega (arith, ints, each row) in
    λ i. here i ∷ rests_by_row l rows rights x y e each i

-- a step changes what the linking rows miss by the image of the sum at which its walk ends
pub rests_moved : (p : Program) (t k : ℕ) (x h : Bricks) → length h ≡ length x → All (λ v. length v ≡ t) x →
    All (λ v. length v ≡ t) h →
    link_rests p (moved x k h) ≡ sub (link_rests p x) (scale (pos (2 ^ k)) (product p.link (walk_end (zeros t) h)))
rests_moved p t k x h same wx wh = rests_by_row (pos (2 ^ k)) p.link.rows p.link_right x (moved x k h)
    (walk_end (zeros t) h) each
  where
    each : (row : Vector) → total (map (dot row) (moved x k h)) ≡ total (map (dot row) x) +ℤ pos (2 ^ k) *ℤ dot row
        (walk_end (zeros t) h)
    each row =
        let none : pos (2 ^ k) *ℤ dot row (zeros t) ≡ pos 0 = ap (λ z. pos (2 ^ k) *ℤ z) (dot-zeros row t)
        ∙ *ℤ-zero (pos (2 ^ k)) in
        omega (arith, ints, none, row_moved t k row x h (zeros t) same (length-zeros t) wx wh)

-- ---- what a step costs

closed_change : (k : ℕ) (bs : List Brick) (x h : Bricks) → length h ≡ length x →
    walk_change Closed k bs x h ≡ sum_zip brick_cost bs (moved x k h) -ℤ sum_zip brick_cost bs x
closed_change k [] x h same = refl
closed_change k (b ∷ bs) [] h same = refl
closed_change k (b ∷ bs) (v ∷ x) [] same = absurd (omega arith)
closed_change k (b ∷ bs) (v ∷ x) (d ∷ h) same = omega (arith, ints, closed_change k bs x h (omega arith))

counted_change : (k : ℕ) (bs : List Brick) (x h : Bricks) → walk_change Counted k bs x h ≡ pos 0
counted_change k [] x h = refl
counted_change k (b ∷ bs) [] h = refl
counted_change k (b ∷ bs) (v ∷ x) [] = refl
counted_change k (b ∷ bs) (v ∷ x) (d ∷ h) = omega (arith, ints, counted_change k bs x h)

free_end : (b : Bool) (a : ℤ) → b ≡ true → cond b (Some (pos 0)) None ≡ Some a → a ≡ pos 0
free_end true a e h = cc
free_end false a e h = absurd (cc)

no_end : (b : Bool) (a : ℤ) → b ≡ false → cond b (Some (pos 0)) None ≡ Some a → ⊥
no_end true a e h = absurd (cc)
no_end false a e h = absurd (cc)

-- a step that moves nothing leaves the point
pub moved_nothing : (t k : ℕ) (x h : Bricks) → length h ≡ length x → All (λ v. length v ≡ t) x →
    All (λ v. length v ≡ t) h →
    list_all is_zero h ≡ true → moved x k h ≡ x
moved_nothing t k [] [] same wx wh zero = refl
moved_nothing t k [] (d ∷ h) same wx wh zero = absurd (omega arith)
moved_nothing t k (v ∷ x) [] same wx wh zero = absurd (omega arith)
moved_nothing t k (v ∷ x) (d ∷ h) same wx wh zero =
    let P = λ (v : Vector). length v ≡ t in
    let parts = and_true (is_zero d) (list_all is_zero h) zero in
    let none : scale (pos (2 ^ k)) d ≡ zeros (length d) = ap (scale (pos (2 ^ k))) (zeros_is d parts.0)
    ∙ scale-zeros (pos (2 ^ k)) (length d) in
    let here : add v (scale (pos (2 ^ k)) d) ≡ v = ap (add v) none
    ∙ add_zeros v (length d) (All-head P v x wx ∙ sym (All-head P d h wh)) in
    λ i. here i ∷ moved_nothing t k x h (omega arith) (All-tail P v x wx) (All-tail P d h wh) parts.1 i

module _ (p : Program) (zs : List Vector) (t k : ℕ) (x : Bricks) (wx : All (λ v. length v ≡ t) x) where
  -- what a walk costs is what the phase cost changes by, and the phase allows its end
  pub sized_walk_steps : (phase : Phase) (h : Bricks) (c : ℤ) → All (λ v. length v ≡ t) h →
      WalkCosts p phase zs k (link_rests p x) p.bricks x (zeros t) h c →
      AllowsEnd p phase (moved x k h) × (c ≡ phase_cost p phase (moved x k h) -ℤ phase_cost p phase x)
  sized_walk_steps Closed h c wh wc = by (nat_eq (link_miss p now) 0) refl
    where
      now : Vector
      now = sub (link_rests p x) (scale (pos (2 ^ k)) (product p.link (walk_end (zeros t) h)))

      rests : link_rests p (moved x k h) ≡ now
      rests = rests_moved p t k x h wc.walk.size wx wh

      by : (b : Bool) → nat_eq (link_miss p now) 0 ≡ b → AllowsEnd p Closed (moved x k h)
          × (c ≡ phase_cost p Closed (moved x k h) -ℤ phase_cost p Closed x)
      by true e =
          let met : link_miss p now ≡ 0 = grind (arith, nat_tests) in
          let free : wc.last ≡ pos 0 = free_end (nat_eq (link_miss p now) 0) wc.last e wc.ends in
          (ap (link_miss p) rests ∙ met, omega (arith, ints, wc.is, free, closed_change k p.bricks x h wc.walk.size))
      by false e = absurd (no_end (nat_eq (link_miss p now) 0) wc.last e wc.ends)
  sized_walk_steps Counted h c wh wc = (
    tt,
    let rests : link_rests p (moved x k h) ≡ sub (link_rests p x)
        (scale (pos (2 ^ k)) (product p.link (walk_end (zeros t) h))) =
        rests_moved p t k x h wc.walk.size wx wh in
        let last : wc.last ≡ pos (link_miss p (link_rests p (moved x k h))) -ℤ pos (link_miss p (link_rests p x)) =
        sym (same_Some _ _ wc.ends) ∙ ap (λ r. pos (link_miss p r) -ℤ pos (link_miss p (link_rests p x))) (sym rests) in
        omega (arith, ints, wc.is, last, counted_change k p.bricks x h),
  )

  -- a walk to an end that the phase allows costs what the phase cost changes by
  pub sized_step_walks : (phase : Phase) (h : Bricks) → All (λ v. length v ≡ t) h → IsWalk zs k p.bricks x (zeros t) h →
      AllowsEnd p phase (moved x k h) →
      WalkCosts p phase zs k (link_rests p x) p.bricks x (zeros t) h
      (phase_cost p phase (moved x k h) -ℤ phase_cost p phase x)
  sized_step_walks Closed h wh w allowed =
      let rests = rests_moved p t k x h w.size wx wh in
      let met : link_miss p (sub (link_rests p x) (scale (pos (2 ^ k)) (product p.link (walk_end (zeros t) h)))) ≡ 0 =
      ap (link_miss p) (sym rests) ∙ allowed in
      record {
        walk = w;
        last = pos 0;
        ends = ap (λ n. cond (nat_eq n 0) (Some (pos 0)) None) met;
        is = omega (arith, ints, closed_change k p.bricks x h w.size);
      }
  sized_step_walks Counted h wh w allowed =
      let rests = rests_moved p t k x h w.size wx wh in
      record {
        walk = w;
        last = pos (link_miss p (link_rests p (moved x k h))) -ℤ pos (link_miss p (link_rests p x));
        ends = ap (λ r. Some (pos (link_miss p r) -ℤ pos (link_miss p (link_rests p x)))) (sym rests);
        is = omega (arith, ints, counted_change k p.bricks x h);
      }

-- the same by the widths of the listed sums
module _ (p : Program) (zs : List Vector) (t k : ℕ) (x : Bricks) (wx : All (λ v. length v ≡ t) x)
    (widths : All (λ z. length z ≡ t) zs) where
  moves_sized : (h : Bricks) → IsWalk zs k p.bricks x (zeros t) h → All (λ v. length v ≡ t) h
  moves_sized h w i d low = All-contains (λ v. length v ≡ t) zs (get_or h i d) widths (w.moves i d low)

  pub walk_steps : (phase : Phase) (h : Bricks) (c : ℤ) →
      WalkCosts p phase zs k (link_rests p x) p.bricks x (zeros t) h c →
      AllowsEnd p phase (moved x k h) × (c ≡ phase_cost p phase (moved x k h) -ℤ phase_cost p phase x)
  walk_steps phase h c wc = sized_walk_steps p zs t k x wx phase h c (moves_sized h wc.walk) wc

  pub step_walks : (phase : Phase) (h : Bricks) → IsWalk zs k p.bricks x (zeros t) h → AllowsEnd p phase (moved x k h) →
      WalkCosts p phase zs k (link_rests p x) p.bricks x (zeros t) h
      (phase_cost p phase (moved x k h) -ℤ phase_cost p phase x)
  step_walks phase h w allowed = sized_step_walks p zs t k x wx phase h (moves_sized h w) w allowed
