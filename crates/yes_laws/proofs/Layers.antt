-- Listed potentials that hold layer by layer bound the cost of each walk of length 1 from below.
use Rattle.std.proofs.Common.{◌≡◌, ℤ, ◌+ℤ◌, Bool, true, false, ◌||◌, not, cond, List, [], ◌∷◌, refl, ap, arith, sym}
use Rattle.std.proofs.Common.{Contains, Option, Some, None, inl, inr, subst, ◌∙◌}
use Rattle.std.proofs.lemmas.Int.{ints}
use Rattle.std.specs.List.{list_all}
use Rattle.fold_theory.specs.declared.Phase.{Phase}
use Rattle.lattice_theory.specs.Vectors.{Vector, add, same}
use Rattle.lattice_theory.specs.Matrices.{product}
use Rattle.lattice_laws.proofs.Tests.{and_true, same_true, same_refl, int_le_true, int_le_of}
use Rattle.lattice_laws.proofs.Members.{contains_cases, list_all_at}
use Rattle.fold_theory.specs.Programs.{Program, Brick, Bricks, is_within, IsWithin}
use Rattle.run_theory.specs.Walks.{brick_change, end_cost, WalkCosts}
use Rattle.run_theory.specs.Checker.{at_most, plus, potential_of, layer_holds, layers_hold}
use Rattle.lattice_theory.specs.Lists.{all_zip}
use Rattle.walk_laws.proofs.Walks.{front_of}
use Rattle.lattice_laws.proofs.Multiples.{scale_once}
use Rattle.fold_laws.proofs.Bounds.{is_within_of}

-- ---- cells

-- where a test passes at each listed vector and its cell, it passes at the cell that is looked up
looked_up : (test : Vector → Option ℤ → Bool) (zs : List Vector) (row : List (Option ℤ)) (w : Vector)
    (here : Option ℤ) → all_zip test zs row ≡ true → potential_of zs row w ≡ Some here → test w here ≡ true
looked_up test [] row w here passes e = absurd (cc)
looked_up test (z ∷ zs) [] w here passes e = absurd (cc)
looked_up test (z ∷ zs) (a ∷ row) w here passes e =
    let p = and_true (test z a) (all_zip test zs row) passes in
    by (same z w) refl e p.0 (λ k. looked_up test zs row w here p.1 k)
  where
    by : (t : Bool) → same z w ≡ t → cond t (Some a) (potential_of zs row w) ≡ Some here → test z a ≡ true →
        (potential_of zs row w ≡ Some here → test w here ≡ true) → test w here ≡ true
    by true s there q rest =
        let v : z ≡ w = same_true z w s in
        let b : a ≡ here = cc in
        subst (λ u. test u here ≡ true) v (subst (λ c. test z c ≡ true) b q)
    by false s there q rest = rest there

-- the row has a cell for this vector
abbrev HasCell : List Vector → List (Option ℤ) → Vector → Type 0
HasCell zs row w = (here : Option ℤ) × (potential_of zs row w ≡ Some here)

-- where a test passes at each listed vector and its cell, each listed vector has a cell
has_cell : (test : Vector → Option ℤ → Bool) (zs : List Vector) (row : List (Option ℤ)) (w : Vector) →
    all_zip test zs row ≡ true → Contains zs w → HasCell zs row w
has_cell test [] row w passes (k, low, e) = absurd (omega arith)
has_cell test (z ∷ zs) [] w passes c = absurd (cc)
has_cell test (z ∷ zs) (a ∷ row) w passes c =
    by (same z w) refl (λ d. has_cell test zs row w (and_true (test z a) (all_zip test zs row) passes).1 d)
  where
    by : (t : Bool) → same z w ≡ t → (Contains zs w → HasCell zs row w) →
        (here : Option ℤ) × (cond t (Some a) (potential_of zs row w) ≡ Some here)
    by true s rest = (a, refl)
    by false s rest = elim (contains_cases z zs w c) [
      | inl e ↦ absurd (cc (ap (λ v. same v w) e, same_refl w, s))
      | inr d ↦ rest d
    ]

at_most_plus : (a b : Option ℤ) (d c : ℤ) → at_most a (plus d b) ≡ true → at_most b (Some c) ≡ true →
    at_most a (Some (d +ℤ c)) ≡ true
at_most_plus a None d c passes test = absurd (cc)
at_most_plus None (Some b) d c passes test = absurd (cc)
at_most_plus (Some a) (Some b) d c passes test =
    let p = int_le_true a (d +ℤ b) passes in
    let q = int_le_true b c test in
    int_le_of a (d +ℤ c) (omega (arith, ints, p, q))

-- ---- walks

module _ (p : Program) (phase : Phase) (zs : List Vector) (rests : Vector) where
  -- the first of the rows has a cell for each listed sum
  first_cell : (bs : List Brick) (x : Bricks) (row : List (Option ℤ)) (rows : List (List (Option ℤ))) (w : Vector) →
      layers_hold p phase zs rests bs x (row ∷ rows) ≡ true → Contains zs w → HasCell zs row w
  first_cell [] [] row [] w passes c = has_cell _ zs row w passes c
  first_cell [] [] row (next ∷ rows) w passes c = absurd (cc)
  first_cell [] (v ∷ x) row rows w passes c = absurd (cc)
  first_cell (b ∷ bs) [] row rows w passes c = absurd (cc)
  first_cell (b ∷ bs) (v ∷ x) row [] w passes c = absurd (cc)
  first_cell (b ∷ bs) (v ∷ x) row (next ∷ rows) w passes c =
      let p = and_true (layer_holds phase zs b v row next) (layers_hold p phase zs rests bs x (next ∷ rows)) passes in
      has_cell _ zs row w p.0 c

  -- one layer: what the move d costs from the sum w, and then the potential of the sum behind it
  layer_bound : (b : Brick) (v : Vector) (row next : List (Option ℤ)) (w d : Vector) (here there : Option ℤ) →
      layer_holds phase zs b v row next ≡ true → potential_of zs row w ≡ Some here →
      potential_of zs next (add w d) ≡ Some there → Contains zs d → IsWithin b (add v d) →
      at_most here (plus (brick_change phase b v (add v d)) there) ≡ true
  layer_bound b v row next w d here there holds e cell listed within =
      let at_w = looked_up moves zs row w here holds e in
      let at_d = list_all_at (move w here) zs d at_w listed in
      allowed (potential_of zs next (add w d)) cell (is_within b (add v d)) (is_within_of b (add v d) within) at_d
    where
      move : Vector → Option ℤ → Vector → Bool
      move u a h = elim (potential_of zs next (add u h)) [
        | None ↦ true
        | Some o ↦ not (is_within b (add v h)) || at_most a (plus (brick_change phase b v (add v h)) o)
      ]

      moves : Vector → Option ℤ → Bool
      moves u a = list_all (move u a) zs

      change : ℤ
      change = brick_change phase b v (add v d)

      allowed : (o : Option (Option ℤ)) → o ≡ Some there → (t : Bool) → t ≡ true →
          elim o [ None ↦ true | Some a ↦ not t || at_most here (plus change a) ] ≡ true →
          at_most here (plus change there) ≡ true
      allowed None q t s passes = absurd (cc)
      allowed (Some a) q true s passes =
          let same_cell : a ≡ there = cc in subst (λ g. at_most here (plus change g) ≡ true) same_cell passes
      allowed (Some a) q false s passes = absurd (cc)

  -- at the last layer a walk has no move, and costs what its end costs
  last_bound : (row : List (Option ℤ)) (w : Vector) (here : Option ℤ) (h : Bricks) (c : ℤ) →
      layers_hold p phase zs rests [] [] (row ∷ []) ≡ true → potential_of zs row w ≡ Some here →
      WalkCosts p phase zs 0 rests [] [] w h c → at_most here (Some c) ≡ true
  last_bound row w here [] c holds e walk =
      let at_w = looked_up (λ w here. at_most here (end_cost p phase rests (product p.link w))) zs row w here holds e in
      let ends : end_cost p phase rests (product p.link w) ≡ Some walk.last =
      ap (end_cost p phase rests) (sym (scale_once (product p.link w))) ∙ walk.ends in
      let is : walk.last ≡ c = omega (arith, ints, walk.is) in
      subst (λ a. at_most here (Some a) ≡ true) is (subst (λ o. at_most here o ≡ true) ends at_w)
  last_bound row w here (d ∷ h) c holds e walk = absurd (omega (arith, walk.walk.size))

  -- the listed potential of a sum is at most the cost of each walk from it
  pub walk_bound : (bs : List Brick) (x : Bricks) (row : List (Option ℤ)) (rows : List (List (Option ℤ)))
      (w : Vector) (here : Option ℤ) (h : Bricks) (c : ℤ) → layers_hold p phase zs rests bs x (row ∷ rows) ≡ true →
      potential_of zs row w ≡ Some here → WalkCosts p phase zs 0 rests bs x w h c → at_most here (Some c) ≡ true
  walk_bound [] [] row [] w here h c holds e walk = last_bound row w here h c holds e walk
  walk_bound [] [] row (next ∷ rows) w here h c holds e walk = absurd (cc)
  walk_bound [] (v ∷ x) row rows w here h c holds e walk = absurd (cc)
  walk_bound (b ∷ bs) [] row rows w here h c holds e walk = absurd (cc)
  walk_bound (b ∷ bs) (v ∷ x) row [] w here h c holds e walk = absurd (cc)
  walk_bound (b ∷ bs) (v ∷ x) row (next ∷ rows) w here [] c holds e walk = absurd (omega (arith, walk.walk.size))
  walk_bound (b ∷ bs) (v ∷ x) row (next ∷ rows) w here (d ∷ h) c holds e walk =
      let f = front_of p phase zs 0 rests b bs v x w d h c walk in
      let once = ap (add v) (scale_once d) in
      let change = brick_change phase b v (add v d) in
      let after = layers_hold p phase zs rests bs x (next ∷ rows) in
      let parts = and_true (layer_holds phase zs b v row next) after holds in
      let cell = first_cell bs x next rows (add w d) parts.1 f.sum in
      let rest = walk_bound bs x next rows (add w d) cell.0 h f.rest parts.1 cell.1 f.walk in
      let within : IsWithin b (add v d) = subst (IsWithin b) once f.within in
      let step = layer_bound b v row next w d here cell.0 parts.0 e cell.1 f.move within in
      let is : c ≡ change +ℤ f.rest = f.is ∙ ap (λ u. brick_change phase b v u +ℤ f.rest) once in
      subst (λ k. at_most here (Some k) ≡ true) (sym is) (at_most_plus here cell.0 change f.rest step rest)
