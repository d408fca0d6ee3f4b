-- No walk of length 1 from the zero vector lowers the phase cost where the rule has no step: a walk that lowers it is a
-- step that augments. So the potential at the beginning is not negative.
use Rattle.std.proofs.Common.{◌≡◌, ℕ, ◌^◌, nat_eq, ℤ, pos, negsuc, ◌-ℤ◌, ◌≤ℤ◌, Bool, true, false, cond, List, [], ◌∷◌}
use Rattle.std.proofs.Common.{length, refl, ap, arith, sym, ◌∙◌, Contains, Option, Some, None, inl, inr}
use Rattle.std.proofs.lemmas.Int.{ints}
use Rattle.std.proofs.lemmas.Bool.Decides.{nat_tests}
use Rattle.std.proofs.lemmas.List.Elements.{recursion_from_All}
use Rattle.std.specs.List.{list_all, AllByRecursion}
use Rattle.fold_theory.specs.declared.Phase.{Phase}
use Rattle.fold_theory.specs.declared.Phase.TheVariants.{Closed, Counted}
use Rattle.lattice_theory.specs.Lists.{sum_zip}
use Rattle.lattice_theory.specs.Vectors.{Vector, is_zero, sub, scale, zeros}
use Rattle.lattice_theory.specs.Matrices.{product}
use Rattle.lattice_laws.proofs.Tests.{true_or_false, int_le_of}
use Rattle.lattice_laws.proofs.Products.{length-zeros}
use Rattle.fold_theory.specs.Programs.{Program, Brick, Bricks, IsBrick, brick_cost, link_rests, link_miss, phase_cost}
use Rattle.run_theory.specs.Steps.{moved, AllowsEnd, NoneAugments}
use Rattle.run_theory.specs.Walks.{walk_change, walk_end, WalkCosts}
use Rattle.run_theory.specs.Checker.{at_most, starts_at_zero}
use Rattle.lattice_laws.proofs.Sums.{zeros_add, sub_sub}
use Rattle.lattice_laws.specs.VectorLists.{sum_of, AreSized}
use Rattle.lattice_laws.proofs.Multiples.{scale_once}
use Rattle.lattice_laws.proofs.VectorLists.{length-sum}
use Rattle.piece_laws.specs.Points.{forth}
use Rattle.piece_laws.proofs.Points.{forth-sized, rests_are, image-forth, walk_end_is, moved_once, forth_none}
use Rattle.certificate_laws.proofs.BrickRuns.{one_length}
use Rattle.certificate_laws.proofs.BrickSums.{IsStill}
use Rattle.certificate_laws.proofs.Potentials.{IsLeastWalk, LeastRows, some_rows, first_row, has_cell, cell_at}

-- the changes along a walk are the change of the cost, or 0 where the cost does not count
change_closed : (bs : List Brick) (x h : Bricks) → length x ≡ length bs → length h ≡ length x →
    walk_change Closed 0 bs x h ≡ sum_zip brick_cost bs (moved x 0 h) -ℤ sum_zip brick_cost bs x
change_closed [] x h ex eh = omega (arith, ints)
change_closed (b ∷ bs) [] h ex eh = absurd (omega arith)
change_closed (b ∷ bs) (v ∷ x) [] ex eh = absurd (omega arith)
change_closed (b ∷ bs) (v ∷ x) (d ∷ h) ex eh = omega (arith, ints, change_closed bs x h (omega arith) (omega arith))

change_counted : (bs : List Brick) (x h : Bricks) → walk_change Counted 0 bs x h ≡ pos 0
change_counted [] x h = refl
change_counted (b ∷ bs) [] h = refl
change_counted (b ∷ bs) (v ∷ x) [] = refl
change_counted (b ∷ bs) (v ∷ x) (d ∷ h) = omega (arith, ints, change_counted bs x h)

module _ (p : Program) (zs : List Vector) (x : Bricks) where
  abbrev t : ℕ
  t = p.brick.cols

  abbrev Costs : Phase → Bricks → ℤ → Type 0
  Costs phase h c = WalkCosts p phase zs 0 (link_rests p x) p.bricks x (zeros t) h c

  module _ (s : ℕ) (is : AllByRecursion (IsBrick t s) p.bricks)
      (still : (w : Vector) → Contains zs w → IsStill p.brick w) (sx : AreSized t x)
      (same : length x ≡ length p.bricks) where
    all_sized : (h : Bricks) → AllByRecursion (Contains zs) h → AreSized t h
    all_sized [] all = tt
    all_sized (d ∷ h) all = ((still d all.0).size, all_sized h all.1)

    -- what the linking rows miss behind the move
    rests-moved : (h : Bricks) → AreSized t h → length h ≡ length x →
        sub (link_rests p x) (scale (pos (2 ^ 0)) (product p.link (walk_end (zeros t) h))) ≡ link_rests p (moved x 0 h)
    rests-moved h small size =
        let end : walk_end (zeros t) h ≡ sum_of t h =
        walk_end_is t (zeros t) h (length-zeros t) small ∙ zeros_add (sum_of t h) t (length-sum t h small) in
        ap (sub (link_rests p x)) (scale_once (product p.link (walk_end (zeros t) h)))
        ∙ (λ i. sub (rests_are t p x sx i) (product p.link (end i)))
        ∙ sub_sub p.link_right (product p.link (sum_of t x)) (product p.link (sum_of t h))
        ∙ ap (sub p.link_right) (sym (image-forth t p x h sx small size))
        ∙ sym (rests_are t p (forth x h) (forth-sized t x h sx small))
        ∙ ap (link_rests p) (sym (moved_once x h))

    -- a walk costs what the phase cost changes by, and the phase allows its end
    record IsChange (phase : Phase) (h : Bricks) (c : ℤ) : Type 0 where
      change : c ≡ phase_cost p phase (moved x 0 h) -ℤ phase_cost p phase x
      end : AllowsEnd p phase (moved x 0 h)

    change_of : (phase : Phase) (h : Bricks) (c : ℤ) → Costs phase h c → AreSized t h → IsChange phase h c
    change_of Counted h c costs small =
        let rests = rests-moved h small costs.walk.size in
        let miss = λ (r : Vector). pos (link_miss p r) -ℤ pos (link_miss p (link_rests p x)) in
        let last : miss (link_rests p (moved x 0 h)) ≡ costs.last =
        some_same (miss (link_rests p (moved x 0 h))) costs.last (ap (λ r. Some (miss r)) (sym rests) ∙ costs.ends) in
        record {
          change = omega (arith, ints, costs.is, change_counted p.bricks x h, last);
          end = tt;
        }
      where
        some_same : (a b : ℤ) → Some a ≡ Some b → a ≡ b
        some_same a b e = cc
    change_of Closed h c costs small =
        let rests = rests-moved h small costs.walk.size in
        let ended = by (nat_eq (link_miss p (link_rests p (moved x 0 h))) 0) refl
        (ap (λ r. cond (nat_eq (link_miss p r) 0) (Some (pos 0)) None) (sym rests) ∙ costs.ends) in
        record {
          change = omega (arith, ints, costs.is, change_closed p.bricks x h same costs.walk.size, ended.0);
          end = ended.1;
        }
      where
        none_missed : (n : ℕ) → nat_eq n 0 ≡ true → n ≡ 0
        none_missed n e = grind (arith, nat_tests)

        by : (b : Bool) → nat_eq (link_miss p (link_rests p (moved x 0 h))) 0 ≡ b →
            cond b (Some (pos 0)) None ≡ Some costs.last →
            (costs.last ≡ pos 0) × (link_miss p (link_rests p (moved x 0 h)) ≡ 0)
        by true e k = (cc, none_missed (link_miss p (link_rests p (moved x 0 h))) e)
        by false e k = absurd (cc)

    -- no walk lowers the phase cost
    no_lower : (phase : Phase) → NoneAugments p phase zs x → (h : Bricks) (c : ℤ) → Costs phase h c → pos 0 ≤ℤ c
    no_lower phase none h (pos n) costs = omega (arith, ints)
    no_lower phase none h (negsuc n) costs =
        let small = all_sized h (recursion_from_All (Contains zs) h costs.walk.moves) in
        absurd (lowered small (change_of phase h (negsuc n) costs small))
      where
        moves : AreSized t h → IsChange phase h (negsuc n) → list_all is_zero h ≡ true → ⊥
        moves small is none_moved =
            let back : moved x 0 h ≡ x = moved_once x h ∙ forth_none t x h sx small costs.walk.size none_moved in
            omega (arith, ints, is.change, ap (phase_cost p phase) back)

        lowered : AreSized t h → IsChange phase h (negsuc n) → ⊥
        lowered small is = elim (true_or_false (list_all is_zero h)) [
          | inl all ↦ moves small is all
          | inr some ↦
              none 0 h (record {
                candidate = record { nonzero = some; walk = costs.walk; length = one_length p; end = is.end };
                lowers = omega (arith, ints, is.change);
              })
        ]

    -- the potential at the beginning
    pub starts : (phase : Phase) → NoneAugments p phase zs x → Contains zs (zeros t) → (rows : List (List (Option ℤ))) →
        LeastRows p phase zs (link_rests p x) p.bricks x rows → starts_at_zero p zs rows ≡ true
    starts phase none listed [] all = absurd (some_rows p phase zs (link_rests p x) p.bricks x all)
    starts phase none listed (row ∷ rows) all =
        let rests = link_rests p x in
        let least = first_row p phase zs rests p.bricks x row rows all in
        let cell = has_cell (IsLeastWalk p phase zs rests p.bricks x) zs row (zeros t) least listed in
        ap (λ o. elim o [ None ↦ false | Some first ↦ at_most (Some (pos 0)) first ]) cell.1
        ∙ above cell.0 (cell_at (IsLeastWalk p phase zs rests p.bricks x) zs row (zeros t) cell.0 least cell.1)
      where
        above : (first : Option ℤ) → IsLeastWalk p phase zs (link_rests p x) p.bricks x (zeros t) first →
            at_most (Some (pos 0)) first ≡ true
        above None h = refl
        above (Some a) h = int_le_of (pos 0) a (no_lower phase none h.0.0 a h.0.1)
