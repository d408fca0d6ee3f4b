-- Two points where a phase starts, and parts of the way between them: the two ends of a part are such points too, and
-- together they cost no more than the two.
use Rattle.std.proofs.Common.{◌≡◌, ℕ, ◌+◌, ◌≤◌, ◌+ℤ◌, ◌≤ℤ◌, List, [], ◌∷◌, length, arith, sym, ◌∙◌, subst}
use Rattle.std.specs.List.{AllZip, AllByRecursion}
use Rattle.std.proofs.lemmas.List.Elements.{recursion_from_All}
use Rattle.fold_theory.specs.declared.Phase.{Phase}
use Rattle.fold_theory.specs.declared.Phase.TheVariants.{Closed, Counted}
use Rattle.lattice_theory.specs.Vectors.{sub}
use Rattle.lattice_theory.specs.Matrices.{product}
use Rattle.lattice_laws.specs.VectorLists.{AreSized}
use Rattle.lattice_laws.proofs.Sums.{sub_itself, sub_zeros}
use Rattle.lattice_laws.proofs.Products.{rows-sub}
use Rattle.fold_theory.specs.Programs.{Program, Brick, Bricks, IsBrick, IsProgram, AreWithin, link_rests, link_miss}
use Rattle.fold_theory.specs.Programs.{phase_cost}
use Rattle.run_theory.specs.Steps.{AllowsEnd}
use Rattle.run_theory.specs.Starts.{IsStart}
use Rattle.fold_laws.proofs.Points.{point-length}
use Rattle.piece_laws.specs.Points.{forth, back, way, image, IsPartOfWay}
use Rattle.piece_laws.specs.Pieces.{IsStill}
use Rattle.piece_laws.proofs.LinkMisses.{IsTight}
use Rattle.piece_laws.proofs.Points.{back-sized, parts-sized, miss_parts, way_kept, parts-length, parts_within}
use Rattle.piece_laws.proofs.Points.{phase_parts, points_sized}

-- the bricks of a program, with the columns of the brick matrix
pub bricks_of : (p : Program) → IsProgram p → AllByRecursion (IsBrick p.brick.cols (length p.brick.rows)) p.bricks
bricks_of p program =
    subst (λ t. AllByRecursion (IsBrick t (length p.brick.rows)) p.bricks) (sym program.brick_shape.width)
    (recursion_from_All (IsBrick p.link.cols (length p.brick.rows)) p.bricks program.each_brick)

-- ---- the brick rows

module _ (p : Program) where
  abbrev t : ℕ
  t = p.brick.cols

  abbrev s : ℕ
  s = length p.brick.rows

  abbrev Meet : List Brick → Bricks → Type 0
  Meet bs x = AllZip (λ b v. product p.brick v ≡ b.right) bs x

  -- between two points that meet the brick rows no brick row changes
  way_still : (bs : List Brick) (x y : Bricks) → AllByRecursion (IsBrick t s) bs → AreSized t x → AreSized t y →
      Meet bs x → Meet bs y → IsStill p (way x y)
  way_still [] [] [] is sx sy mx my = tt
  way_still [] [] (v ∷ y) is sx sy mx my = absurd my
  way_still [] (u ∷ x) y is sx sy mx my = absurd mx
  way_still (b ∷ bs) [] y is sx sy mx my = absurd mx
  way_still (b ∷ bs) (u ∷ x) [] is sx sy mx my = absurd my
  way_still (b ∷ bs) (u ∷ x) (v ∷ y) is sx sy mx my = (
    rows-sub p.brick.rows v u (sy.0 ∙ sym sx.0) ∙ (λ i. sub (my.0 i) (mx.0 i)) ∙ sub_itself b.right s is.0.right_size,
    way_still bs x y is.1 sx.1 sy.1 mx.1 my.1,
  )

  -- a move that changes no brick row keeps them met
  back_meets : (bs : List Brick) (y h : Bricks) → AllByRecursion (IsBrick t s) bs → AreSized t y → AreSized t h →
      length h ≡ length y → Meet bs y → IsStill p h → Meet bs (back y h)
  back_meets [] [] h is sy sh size my still = tt
  back_meets [] (v ∷ y) h is sy sh size my still = absurd my
  back_meets (b ∷ bs) [] h is sy sh size my still = absurd my
  back_meets (b ∷ bs) (v ∷ y) [] is sy sh size my still = absurd (omega arith)
  back_meets (b ∷ bs) (v ∷ y) (d ∷ h) is sy sh size my still = (
    rows-sub p.brick.rows v d (sy.0 ∙ sym sh.0) ∙ (λ i. sub (my.0 i) (still.0 i)) ∙ sub_zeros b.right s is.0.right_size,
    back_meets bs y h is.1 sy.1 sh.1 (omega arith) my.1 still.1,
  )

-- ---- points within the bounds

module _ (p : Program) (program : IsProgram p) where
  -- the bricks of a point within the bounds have as many entries as a brick has columns, and are as many as the bricks
  pub sized : (x : Bricks) → AreWithin p.bricks x → AreSized p.brick.cols x
  sized x within = points_sized p.brick.cols (length p.brick.rows) p.bricks x (bricks_of p program) within

  pub same_length : (x y : Bricks) → AreWithin p.bricks x → AreWithin p.bricks y → length y ≡ length x
  same_length x y wx wy = point-length p.bricks y wy ∙ sym (point-length p.bricks x wx)

  module _ (x y h : Bricks) (wx : AreWithin p.bricks x) (wy : AreWithin p.bricks y) (part : IsPartOfWay p x y h) where
    pub part-length : length h ≡ length x
    part-length = parts-length h x y part.bricks (same_length x y wx wy)

    pub part-sized : AreSized p.brick.cols h
    part-sized =
        parts-sized p.brick.cols h (way x y) part.bricks (back-sized p.brick.cols y x (sized y wy) (sized x wx))

    -- the two ends of a part together miss the linking rows by no more
    pub parts_miss : link_miss p (link_rests p (forth x h)) + link_miss p (link_rests p (back y h))
        ≤ link_miss p (link_rests p x) + link_miss p (link_rests p y)
    parts_miss =
        miss_parts p.brick.cols p x y h program.right_size (sized x wx) (sized y wy) part-sized part-length
        (same_length x y wx wy) part.links

    -- and they cost no more
    pub parts_cost : (phase : Phase) → (phase_cost p phase (forth x h) +ℤ phase_cost p phase (back y h))
        ≤ℤ (phase_cost p phase x +ℤ phase_cost p phase y)
    parts_cost phase =
        phase_parts p.brick.cols (length p.brick.rows) p phase x y h (bricks_of p program) wx wy part.bricks parts_miss

-- two parts of the phase cost
pub parts_cost_no_more : (p : Program) (phase : Phase) (x y h : Bricks) → IsProgram p → AreWithin p.bricks x →
    AreWithin p.bricks y → IsPartOfWay p x y h →
    (phase_cost p phase (forth x h) +ℤ phase_cost p phase (back y h)) ≤ℤ (phase_cost p phase x +ℤ phase_cost p phase y)
parts_cost_no_more p phase x y h program wx wy part = parts_cost p program x y h wx wy part phase

-- ---- points where the phase starts

module _ (p : Program) (phase : Phase) (program : IsProgram p) (x y : Bricks) (at_x : IsStart p phase x)
    (at_y : IsStart p phase y) where
  sx : AreSized p.brick.cols x
  sx = sized p program x at_x.within

  sy : AreSized p.brick.cols y
  sy = sized p program y at_y.within

  -- the way has the width of a brick in each brick
  pub way-sized : AreSized p.brick.cols (way x y)
  way-sized = back-sized p.brick.cols y x sy sx

  -- the way changes no brick row
  pub still_way : IsStill p (way x y)
  still_way = way_still p p.bricks x y (bricks_of p program) sx sy at_x.brick_rows at_y.brick_rows

  -- and the linking rows as the phase wants it
  pub tight_way : IsTight phase p.relations (image p (way x y))
  tight_way = by phase at_x.end at_y.end
    where
      by : (f : Phase) → AllowsEnd p f x → AllowsEnd p f y → IsTight f p.relations (image p (way x y))
      by Counted ex ey = tt
      by Closed ex ey =
          way_kept p.brick.cols p x y program.right_size program.relations_size sx sy
          (same_length p program x y at_x.within at_y.within) ex ey

  -- the ends of a part of the way, x + h and y - h
  pub record Ends (h : Bricks) : Type 0 where
    pub size : length h ≡ length x
    pub small : AreSized p.brick.cols h
    pub forth_within : AreWithin p.bricks (forth x h)
    pub forth_end : AllowsEnd p phase (forth x h)
    pub back_within : AreWithin p.bricks (back y h)
    pub back_end : AllowsEnd p phase (back y h)
    pub costs : (phase_cost p phase (forth x h) +ℤ phase_cost p phase (back y h))
        ≤ℤ (phase_cost p phase x +ℤ phase_cost p phase y)

  -- a part of the way has such ends
  pub ends_of : (h : Bricks) → IsPartOfWay p x y h → Ends h
  ends_of h part =
      let both = parts_within p.bricks h x y part.bricks at_x.within at_y.within in
      record {
        size = part-length p program x y h at_x.within at_y.within part;
        small = part-sized p program x y h at_x.within at_y.within part;
        forth_within = both.0;
        forth_end = forth_by phase at_x.end at_y.end;
        back_within = both.1;
        back_end = back_by phase at_x.end at_y.end;
        costs = parts_cost p program x y h at_x.within at_y.within part phase;
      }
    where
      forth_by : (f : Phase) → AllowsEnd p f x → AllowsEnd p f y → AllowsEnd p f (forth x h)
      forth_by Counted ex ey = tt
      forth_by Closed ex ey = omega (arith, parts_miss p program x y h at_x.within at_y.within part, ex, ey)

      back_by : (f : Phase) → AllowsEnd p f x → AllowsEnd p f y → AllowsEnd p f (back y h)
      back_by Counted ex ey = tt
      back_by Closed ex ey = omega (arith, parts_miss p program x y h at_x.within at_y.within part, ex, ey)

  -- where the part changes no brick row, the phase starts at y - h too
  pub back_start : (h : Bricks) → Ends h → IsStill p h → IsStart p phase (back y h)
  back_start h ends still = record {
    within = ends.back_within;
    brick_rows =
        back_meets p p.bricks y h (bricks_of p program) sy ends.small
        (ends.size ∙ sym (same_length p program x y at_x.within at_y.within)) at_y.brick_rows still;
    end = ends.back_end;
  }
