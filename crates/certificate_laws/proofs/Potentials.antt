-- The least costs of walks of length 1 hold layer by layer: a move and a least walk behind it are a walk.
use Rattle.std.proofs.Common.{◌≡◌, ℕ, suc, ◌+◌, ◌^◌, ◌≤◌, ℤ, pos, ◌+ℤ◌, ◌≤ℤ◌, Bool, true, false, ◌||◌, not, cond, List}
use Rattle.std.proofs.Common.{[], ◌∷◌, length, drop, refl, ap, arith, sym, ◌∙◌, Contains, Option, Some, None, slice_get}
use Rattle.std.proofs.Common.{inl, inr, subst}
use Rattle.std.proofs.lemmas.Int.{ints}
use Rattle.std.proofs.lemmas.List.Elements.{All-cons, All-nil}
use Rattle.std.specs.List.{AllZip, AllByRecursion, list_all}
use Rattle.std.proofs.lemmas.Bool.{and_from}
use Rattle.fold_theory.specs.declared.Phase.{Phase}
use Rattle.lattice_theory.specs.Lists.{all_zip}
use Rattle.lattice_theory.specs.Vectors.{Vector, add, scale, same}
use Rattle.lattice_theory.specs.Matrices.{product}
use Rattle.lattice_laws.proofs.Tests.{same_true, same_refl, int_le_of}
use Rattle.lattice_laws.proofs.Members.{contains_cases, contains_head, contains_tail, list_all_of}
use Rattle.fold_theory.specs.Programs.{Program, Brick, Bricks, IsWithin, is_within}
use Rattle.run_theory.specs.Steps.{partial_sums}
use Rattle.run_theory.specs.Walks.{brick_change, end_cost, WalkCosts}
use Rattle.run_theory.specs.Checker.{at_most, plus, potential_of, layer_holds, layers_hold}
use Rattle.lattice_laws.proofs.Multiples.{scale_once}
use Rattle.fold_laws.proofs.Bounds.{is_within_true}
use Rattle.certificate_laws.proofs.Passing.{all_zip_of}
use Rattle.certificate_laws.proofs.BrickRuns.{one_step}

-- ---- cells

-- what has a cell is listed
listed_at : (zs : List Vector) (row : List (Option ℤ)) (w : Vector) (here : Option ℤ) →
    potential_of zs row w ≡ Some here → Contains zs w
listed_at [] row w here e = absurd (cc)
listed_at (z ∷ zs) [] w here e = absurd (cc)
listed_at (z ∷ zs) (a ∷ row) w here e =
    by (same z w) refl e (λ k. contains_tail z zs w (listed_at zs row w here k))
  where
    by : (t : Bool) → same z w ≡ t → cond t (Some a) (potential_of zs row w) ≡ Some here →
        (potential_of zs row w ≡ Some here → Contains (z ∷ zs) w) → Contains (z ∷ zs) w
    by true s k rest = subst (Contains (z ∷ zs)) (same_true z w s) (contains_head z zs)
    by false s k rest = rest k

-- what each listed vector has with its cell, the one that is looked up has
module _ (R : Vector → Option ℤ → Type 0) where
  pub cell_at : (zs : List Vector) (row : List (Option ℤ)) (w : Vector) (here : Option ℤ) → AllZip R zs row →
      potential_of zs row w ≡ Some here → R w here
  cell_at [] row w here all e = absurd (cc)
  cell_at (z ∷ zs) [] w here all e = absurd all
  cell_at (z ∷ zs) (a ∷ row) w here all e = by (same z w) refl e (λ k. cell_at zs row w here all.1 k)
    where
      by : (t : Bool) → same z w ≡ t → cond t (Some a) (potential_of zs row w) ≡ Some here →
          (potential_of zs row w ≡ Some here → R w here) → R w here
      by true s k rest =
          let v : z ≡ w = same_true z w s in
          let b : a ≡ here = cc in
          subst (λ u. R u here) v (subst (R z) b all.0)
      by false s k rest = rest k

  pub has_cell : (zs : List Vector) (row : List (Option ℤ)) (w : Vector) → AllZip R zs row → Contains zs w →
      (here : Option ℤ) × (potential_of zs row w ≡ Some here)
  has_cell [] row w all (k, low, e) = absurd (omega arith)
  has_cell (z ∷ zs) [] w all c = absurd all
  has_cell (z ∷ zs) (a ∷ row) w all c = by (same z w) refl (λ d. has_cell zs row w all.1 d)
    where
      by : (t : Bool) → same z w ≡ t →
          (Contains zs w → (here : Option ℤ) × (potential_of zs row w ≡ Some here)) →
          (here : Option ℤ) × (cond t (Some a) (potential_of zs row w) ≡ Some here)
      by true s rest = (a, refl)
      by false s rest = elim (contains_cases z zs w c) [
        | inl e ↦ absurd (cc (ap (λ v. same v w) e, same_refl w, s))
        | inr d ↦ rest d
      ]

  -- by the places of the row
  pub row_by_places : (zs : List Vector) (row : List (Option ℤ)) → length row ≡ length zs →
      ((j : ℕ) (w : Vector) → slice_get zs j ≡ Some w →
      (cell : Option ℤ) × (slice_get row j ≡ Some cell) × R w cell) → AllZip R zs row
  row_by_places [] [] size at = tt
  row_by_places [] (a ∷ row) size at = absurd (omega arith)
  row_by_places (z ∷ zs) [] size at = absurd (omega arith)
  row_by_places (z ∷ zs) (a ∷ row) size at =
      let first = at 0 z refl in
      let is : first.0 ≡ a = cc (first.1) in
      (subst (R z) is first.2, row_by_places zs row (omega arith) (λ j w e. at (suc j) w e))

-- ---- layers

module _ (p : Program) (phase : Phase) (zs : List Vector) (rests : Vector) where
  -- a walk of length 1
  abbrev pub UnitCosts : List Brick → Bricks → Vector → Bricks → ℤ → Type 0
  UnitCosts bs x w h c = WalkCosts p phase zs 0 rests bs x w h c

  -- the least cost of a walk from w through these bricks, or none where there is none
  abbrev pub IsLeastWalk : List Brick → Bricks → Vector → Option ℤ → Type 0
  IsLeastWalk bs x w None = (h : Bricks) (c : ℤ) → UnitCosts bs x w h c → ⊥
  IsLeastWalk bs x w (Some a) =
      ((h : Bricks) × UnitCosts bs x w h a) × ((h : Bricks) (c : ℤ) → UnitCosts bs x w h c → a ≤ℤ c)

  -- a walk bounds the least cost
  bounded : (bs : List Brick) (x : Bricks) (w : Vector) (here : Option ℤ) (h : Bricks) (c : ℤ) →
      IsLeastWalk bs x w here → UnitCosts bs x w h c → at_most here (Some c) ≡ true
  bounded bs x w None h c least walk = absurd (least h c walk)
  bounded bs x w (Some a) h c least walk = int_le_of a c (least.1 h c walk)

  -- a move, and a walk behind it
  walk_of : (b : Brick) (bs : List Brick) (v : Vector) (x : Bricks) (w d : Vector) (h : Bricks) (r : ℤ) →
      Contains zs d → Contains zs (add w d) → IsWithin b (add v d) → UnitCosts bs x (add w d) h r →
      UnitCosts (b ∷ bs) (v ∷ x) w (d ∷ h) (brick_change phase b v (add v d) +ℤ r)
  walk_of b bs v x w d h r listed sum within costs =
      let change : brick_change phase b v (add v (scale (pos (2 ^ 0)) d)) ≡ brick_change phase b v (add v d) =
      ap (brick_change phase b v) (one_step v d) in
      record {
        walk = record {
          size = omega (arith, costs.walk.size);
          moves = All-cons (Contains zs) d h listed costs.walk.moves;
          sums = All-cons (Contains zs) (add w d) (partial_sums (add w d) h) sum costs.walk.sums;
          within = (subst (IsWithin b) (sym (one_step v d)) within, costs.walk.within);
        };
        last = costs.last;
        ends = costs.ends;
        is = omega (arith, ints, costs.is, change);
      }

  -- the walk that ends at once
  end_walk : (w : Vector) (c : ℤ) → end_cost p phase rests (product p.link w) ≡ Some c → UnitCosts [] [] w [] c
  end_walk w c e = record {
    walk = record { size = refl; moves = All-nil (Contains zs); sums = All-nil (Contains zs); within = tt };
    last = c;
    ends = ap (end_cost p phase rests) (scale_once (product p.link w)) ∙ e;
    is = omega (arith, ints);
  }

  abbrev pub LeastRow : List Brick → Bricks → List (Option ℤ) → Type 0
  LeastRow bs x row = AllZip (IsLeastWalk bs x) zs row

  -- one layer over the next
  module _ (b : Brick) (bs : List Brick) (v : Vector) (x : Bricks) (next : List (Option ℤ))
      (after : LeastRow bs x next) where
    abbrev move : Vector → Option ℤ → Vector → Bool
    move w here d = elim (potential_of zs next (add w d)) [
      | None ↦ true
      | Some there ↦ not (is_within b (add v d)) || at_most here (plus (brick_change phase b v (add v d)) there)
    ]

    -- the least cost at w is at most that of the move d and what is least behind it
    behind : (w d : Vector) (here there : Option ℤ) → IsLeastWalk (b ∷ bs) (v ∷ x) w here → Contains zs d →
        Contains zs (add w d) → IsWithin b (add v d) → IsLeastWalk bs x (add w d) there →
        at_most here (plus (brick_change phase b v (add v d)) there) ≡ true
    behind w d here None least listed sum within rest = refl
    behind w d here (Some r) least listed sum within rest =
        bounded (b ∷ bs) (v ∷ x) w here (d ∷ rest.0.0) (brick_change phase b v (add v d) +ℤ r) least
        (walk_of b bs v x w d rest.0.0 r listed sum within rest.0.1)

    move_holds : (w d : Vector) (here : Option ℤ) → IsLeastWalk (b ∷ bs) (v ∷ x) w here → Contains zs d →
        move w here d ≡ true
    move_holds w d here least listed = by (potential_of zs next (add w d)) refl
      where
        change : ℤ
        change = brick_change phase b v (add v d)

        inside : (there : Option ℤ) → potential_of zs next (add w d) ≡ Some there → (t : Bool) →
            is_within b (add v d) ≡ t → (not t || at_most here (plus change there)) ≡ true
        inside there e false k = refl
        inside there e true k =
            behind w d here there least listed (listed_at zs next (add w d) there e) (is_within_true b (add v d) k)
            (cell_at (IsLeastWalk bs x) zs next (add w d) there after e)

        by : (o : Option (Option ℤ)) → potential_of zs next (add w d) ≡ o →
            elim o [ None ↦ true | Some there ↦ not (is_within b (add v d)) || at_most here (plus change there) ] ≡ true
        by None e = refl
        by (Some there) e = inside there e (is_within b (add v d)) refl

    layer : (row : List (Option ℤ)) → LeastRow (b ∷ bs) (v ∷ x) row → layer_holds phase zs b v row next ≡ true
    layer row least =
        all_zip_of (IsLeastWalk (b ∷ bs) (v ∷ x)) (λ w here. list_all (move w here) zs)
        (λ w here h. list_all_of (move w here) zs (λ d c. move_holds w d here h c)) zs row least

  -- the last layer
  last_layer : (row : List (Option ℤ)) → LeastRow [] [] row →
      all_zip (λ w here. at_most here (end_cost p phase rests (product p.link w))) zs row ≡ true
  last_layer row least =
      all_zip_of (IsLeastWalk [] []) (λ w here. at_most here (end_cost p phase rests (product p.link w)))
      (λ w here h. by w here h (end_cost p phase rests (product p.link w)) refl) zs row least
    where
      by : (w : Vector) (here : Option ℤ) → IsLeastWalk [] [] w here → (o : Option ℤ) →
          end_cost p phase rests (product p.link w) ≡ o → at_most here o ≡ true
      by w here h None e = refl
      by w here h (Some c) e = bounded [] [] w here [] c h (end_walk w c e)

  -- ---- all layers

  -- the rows of a table, from these bricks on
  abbrev pub LeastRows : List Brick → Bricks → List (List (Option ℤ)) → Type 0
  LeastRows [] [] (row ∷ []) = LeastRow [] [] row
  LeastRows (b ∷ bs) (v ∷ x) (row ∷ rows) = LeastRow (b ∷ bs) (v ∷ x) row × LeastRows bs x rows
  LeastRows bs x rows = ⊥

  pub some_rows : (bs : List Brick) (x : Bricks) → LeastRows bs x [] → ⊥
  some_rows [] [] all = all
  some_rows [] (v ∷ x) all = all
  some_rows (b ∷ bs) [] all = all
  some_rows (b ∷ bs) (v ∷ x) all = all

  pub first_row : (bs : List Brick) (x : Bricks) (row : List (Option ℤ)) (rows : List (List (Option ℤ))) →
      LeastRows bs x (row ∷ rows) → LeastRow bs x row
  first_row [] [] row [] all = all
  first_row [] [] row (next ∷ rows) all = absurd all
  first_row [] (v ∷ x) row rows all = absurd all
  first_row (b ∷ bs) [] row rows all = absurd all
  first_row (b ∷ bs) (v ∷ x) row rows all = all.0

  pub layers : (bs : List Brick) (x : Bricks) (rows : List (List (Option ℤ))) → LeastRows bs x rows →
      layers_hold p phase zs rests bs x rows ≡ true
  layers bs x [] all = absurd (some_rows bs x all)
  layers [] [] (row ∷ []) all = last_layer row all
  layers [] [] (row ∷ next ∷ rows) all = absurd all
  layers [] (v ∷ x) (row ∷ rows) all = absurd all
  layers (b ∷ bs) [] (row ∷ rows) all = absurd all
  layers (b ∷ bs) (v ∷ x) (row ∷ []) all = absurd (some_rows bs x all.1)
  layers (b ∷ bs) (v ∷ x) (row ∷ next ∷ rows) all =
      and_from (layer_holds phase zs b v row next) (layers_hold p phase zs rests bs x (next ∷ rows))
      (layer b bs v x next (first_row bs x next rows all.1) row all.0) (layers bs x (next ∷ rows) all.1)

  -- by the places of the table
  abbrev pub AreCells : List Brick → Bricks → List (List (Option ℤ)) → Type 0
  AreCells bs x rows = (i j : ℕ) (w : Vector) → i ≤ length bs → slice_get zs j ≡ Some w →
      (row : List (Option ℤ)) × (cell : Option ℤ) × (slice_get rows i ≡ Some row) × (slice_get row j ≡ Some cell)
      × IsLeastWalk (drop i bs) (drop i x) w cell

  row_of_cells : (bs : List Brick) (x : Bricks) (row : List (Option ℤ)) (rows : List (List (Option ℤ))) →
      length row ≡ length zs → AreCells bs x (row ∷ rows) → LeastRow bs x row
  row_of_cells bs x row rows size cells =
      row_by_places (IsLeastWalk bs x) zs row size
      (λ j w e.
      let c = cells 0 j w (omega arith) e in
      let is : c.0 ≡ row = cc (c.2) in
      (c.1, subst (λ r. slice_get r j ≡ Some c.1) is c.3, c.4))

  pub rows_of_cells : (bs : List Brick) (x : Bricks) (rows : List (List (Option ℤ))) → length x ≡ length bs →
      length rows ≡ length bs + 1 → AllByRecursion (λ row. length row ≡ length zs) rows → AreCells bs x rows →
      LeastRows bs x rows
  rows_of_cells bs x [] same size sized cells = absurd (omega arith)
  rows_of_cells [] [] (row ∷ []) same size sized cells = row_of_cells [] [] row [] sized.0 cells
  rows_of_cells [] [] (row ∷ next ∷ rows) same size sized cells = absurd (omega arith)
  rows_of_cells [] (v ∷ x) (row ∷ rows) same size sized cells = absurd (omega arith)
  rows_of_cells (b ∷ bs) [] (row ∷ rows) same size sized cells = absurd (omega arith)
  rows_of_cells (b ∷ bs) (v ∷ x) (row ∷ rows) same size sized cells = (
    row_of_cells (b ∷ bs) (v ∷ x) row rows sized.0 cells,
    rows_of_cells bs x rows (omega arith) (omega arith) sized.1
        (λ i j w low e. cells (suc i) j w (omega (arith, low)) e),
  )
