-- Points of several bricks: their sums, what the linking rows miss at them, and two parts of the phase cost.
use Rattle.std.proofs.Common.{◌≡◌, ℕ, suc, ◌+◌, ◌≤◌, ◌+ℤ◌, ◌-ℤ◌, ◌≤ℤ◌, true, List, [], ◌∷◌, length, map, refl, ap}
use Rattle.std.proofs.Common.{arith, sym, ◌∙◌, subst}
use Rattle.std.proofs.lemmas.Int.{ints}
use Rattle.std.specs.List.{AllZip, AllByRecursion, list_all}
use Rattle.fold_theory.specs.declared.Phase.{Phase}
use Rattle.fold_theory.specs.declared.Phase.TheVariants.{Closed, Counted}
use Rattle.lattice_theory.specs.Lists.{total, zip_with}
use Rattle.lattice_theory.specs.Vectors.{Vector, ◌⊑◌, norm1, add, sub, zeros, dot, is_zero}
use Rattle.lattice_theory.specs.Matrices.{product}
use Rattle.lattice_laws.proofs.Products.{dot-add, dot-zeros, rows-add, length-rows, length-zeros, rows-sub, zeros_is}
use Rattle.lattice_laws.proofs.Conformal.{length_below, norm_split, norm_none, length-add}
use Rattle.fold_theory.specs.Programs.{Program, Brick, Bricks, IsBrick, AreWithin, link_rests, link_miss}
use Rattle.fold_theory.specs.Programs.{keeps_equations, phase_cost}
use Rattle.lattice_laws.proofs.Sums.{add_zeros, length-sub, sub_swap, same_vector, sub_itself, interchange}
use Rattle.lattice_laws.proofs.Sums.{sub_interchange, add_assoc_v}
use Rattle.piece_laws.proofs.Bounds.{within_parts}
use Rattle.piece_laws.proofs.LinkMisses.{missed_parts, equations_kept}
use Rattle.lattice_laws.specs.VectorLists.{sum_of, weight, AreSized}
use Rattle.lattice_laws.proofs.VectorLists.{length-sum}
use Rattle.piece_laws.proofs.PointParts.{point_parts}
use Rattle.piece_laws.specs.Points.{forth, back, ArePartsOf, way}
use Rattle.run_theory.specs.Walks.{walk_end}
use Rattle.run_theory.specs.Steps.{moved}
use Rattle.lattice_laws.proofs.Multiples.{scale_once}
use Rattle.lattice_laws.proofs.Tests.{and_true}
use Rattle.fold_laws.proofs.Bounds.{length-within}

module _ (t : ℕ) where
  -- the vectors of x + h, of y - h, and of parts have t entries
  pub forth-sized : (x h : Bricks) → AreSized t x → AreSized t h → AreSized t (forth x h)
  forth-sized [] h a b = tt
  forth-sized (u ∷ x) [] a b = tt
  forth-sized (u ∷ x) (d ∷ h) a b = (length-add u d t a.0 b.0, forth-sized x h a.1 b.1)

  pub back-sized : (y h : Bricks) → AreSized t y → AreSized t h → AreSized t (back y h)
  back-sized [] h a b = tt
  back-sized (u ∷ y) [] a b = tt
  back-sized (u ∷ y) (d ∷ h) a b = (length-sub u d t a.0 b.0, back-sized y h a.1 b.1)

  pub parts-sized : (h ds : List Vector) → AllZip ◌⊑◌ h ds → AreSized t ds → AreSized t h
  parts-sized [] [] below sized = tt
  parts-sized [] (d ∷ ds) below sized = absurd below
  parts-sized (k ∷ h) [] below sized = absurd below
  parts-sized (k ∷ h) (d ∷ ds) below sized =
      (length_below k d below.0 ∙ sized.0, parts-sized h ds below.1 sized.1)

  -- the sums of x + h and of y - h
  pub sum-forth : (x h : Bricks) → length h ≡ length x → sum_of t (forth x h) ≡ add (sum_of t x) (sum_of t h)
  sum-forth [] [] size = sym (add_zeros (zeros t) t (length-zeros t))
  sum-forth [] (d ∷ h) size = absurd (omega arith)
  sum-forth (u ∷ x) [] size = absurd (omega arith)
  sum-forth (u ∷ x) (d ∷ h) size =
      ap (add (add u d)) (sum-forth x h (omega arith)) ∙ interchange u d (sum_of t x) (sum_of t h)

  -- and of y - h
  pub sum-back : (y h : Bricks) → length h ≡ length y → sum_of t (back y h) ≡ sub (sum_of t y) (sum_of t h)
  sum-back [] [] size = sym (sub_itself (zeros t) t (length-zeros t))
  sum-back [] (d ∷ h) size = absurd (omega arith)
  sum-back (u ∷ y) [] size = absurd (omega arith)
  sum-back (u ∷ y) (d ∷ h) size =
      ap (add (sub u d)) (sum-back y h (omega arith)) ∙ sym (sub_interchange u (sum_of t y) d (sum_of t h))

  -- ---- what the linking rows miss

  -- the products of a row with the bricks add up to that with their sum
  total-dot : (row : Vector) (x : Bricks) → AreSized t x → total (map (dot row) x) ≡ dot row (sum_of t x)
  total-dot row [] sized = sym (dot-zeros row t)
  total-dot row (u ∷ x) sized =
      omega (
        arith,
        ints,
        dot-add row u (sum_of t x) (sized.0 ∙ sym (length-sum t x sized.1)),
        total-dot row x sized.1,
      )

  -- the rests by the sum of the point
  pub rests_are : (p : Program) (x : Bricks) → AreSized t x →
      link_rests p x ≡ sub p.link_right (product p.link (sum_of t x))
  rests_are p x sized = by p.link.rows p.link_right
    where
      by : (rows : List Vector) (right : Vector) →
          zip_with (λ row r. r -ℤ total (map (dot row) x)) rows right
          ≡ sub right (map (λ row. dot row (sum_of t x)) rows)
      by [] [] = refl
      by [] (r ∷ right) = refl
      by (row ∷ rows) [] = refl
      by (row ∷ rows) (r ∷ right) = λ i. (r -ℤ total-dot row x sized i) ∷ by rows right i

  -- the link miss by the sum of the point
  pub miss_is : (p : Program) (x : Bricks) → AreSized t x →
      link_miss p (link_rests p x) ≡ link_miss p (sub p.link_right (product p.link (sum_of t x)))
  miss_is p x sized = ap (link_miss p) (rests_are p x sized)

  -- the images of x + h and of y - h
  pub image-forth : (p : Program) (x h : Bricks) → AreSized t x → AreSized t h → length h ≡ length x →
      product p.link (sum_of t (forth x h)) ≡ add (product p.link (sum_of t x)) (product p.link (sum_of t h))
  image-forth p x h sx sh size =
      ap (product p.link) (sum-forth x h size)
      ∙ rows-add p.link.rows (sum_of t x) (sum_of t h) (length-sum t x sx ∙ sym (length-sum t h sh))

  pub image-back : (p : Program) (y h : Bricks) → AreSized t y → AreSized t h → length h ≡ length y →
      product p.link (sum_of t (back y h)) ≡ sub (product p.link (sum_of t y)) (product p.link (sum_of t h))
  image-back p y h sy sh size =
      ap (product p.link) (sum-back y h size)
      ∙ rows-sub p.link.rows (sum_of t y) (sum_of t h) (length-sum t y sy ∙ sym (length-sum t h sh))

  -- two parts of what the linking rows miss
  pub miss_parts : (p : Program) (x y h : Bricks) → length p.link_right ≡ length p.link.rows → AreSized t x →
      AreSized t y → AreSized t h → length h ≡ length x → length y ≡ length x →
      product p.link (sum_of t h) ⊑ product p.link (sum_of t (way x y)) →
      link_miss p (link_rests p (forth x h)) + link_miss p (link_rests p (back y h))
      ≤ link_miss p (link_rests p x) + link_miss p (link_rests p y)
  miss_parts p x y h right sx sy sh size same below =
      let image = λ (u : Bricks). product p.link (sum_of t u) in
      let part : image h ⊑ sub (image y) (image x) =
      subst (λ v. image h ⊑ v) (image-back p y x sy sx (sym same)) below in
      omega (
        arith,
        miss_is p (forth x h) (forth-sized x h sx sh),
        ap (λ v. link_miss p (sub p.link_right v)) (image-forth p x h sx sh size),
        miss_is p (back y h) (back-sized y h sy sh),
        ap (λ v. link_miss p (sub p.link_right v)) (image-back p y h sy sh (size ∙ sym same)),
        miss_is p x sx,
        miss_is p y sy,
        missed_parts p.relations p.link_right (image x) (image y) (image h) part (as_long x) (as_long y),
      )
    where
      as_long : (u : Bricks) → length (product p.link (sum_of t u)) ≡ length p.link_right
      as_long u = length-rows p.link.rows (sum_of t u) ∙ sym right

  -- between two points that miss no linking row no equation changes
  pub way_kept : (p : Program) (x y : Bricks) → length p.link_right ≡ length p.link.rows →
      length p.relations ≡ length p.link.rows → AreSized t x → AreSized t y → length y ≡ length x →
      link_miss p (link_rests p x) ≡ 0 → link_miss p (link_rests p y) ≡ 0 →
      keeps_equations p.relations (product p.link (sum_of t (way x y))) ≡ true
  way_kept p x y right relations sx sy same at_x at_y =
      let image = λ (u : Bricks). product p.link (sum_of t u) in
      ap (keeps_equations p.relations) (image-back p y x sy sx (sym same))
      ∙ equations_kept p.relations p.link_right (image x) (image y) (right ∙ sym relations) (as_long x) (as_long y)
      (sym (miss_is p x sx) ∙ at_x) (sym (miss_is p y sy) ∙ at_y)
    where
      as_long : (u : Bricks) → length (product p.link (sum_of t u)) ≡ length p.relations
      as_long u = length-rows p.link.rows (sum_of t u) ∙ sym relations

-- ---- two parts of the phase cost

-- a part has as many bricks as the points
pub parts-length : (h x y : Bricks) → ArePartsOf h x y → length y ≡ length x → length h ≡ length x
parts-length [] [] [] below size = refl
parts-length [] [] (v ∷ y) below size = absurd (omega arith)
parts-length [] (u ∷ x) [] below size = absurd (omega arith)
parts-length [] (u ∷ x) (v ∷ y) below size = absurd below
parts-length (k ∷ h) [] [] below size = absurd below
parts-length (k ∷ h) [] (v ∷ y) below size = absurd (omega arith)
parts-length (k ∷ h) (u ∷ x) [] below size = absurd (omega arith)
parts-length (k ∷ h) (u ∷ x) (v ∷ y) below size = ap suc (parts-length h x y below.1 (omega arith))

-- both ends are within the bounds
pub parts_within : (bs : List Brick) (h x y : Bricks) → ArePartsOf h x y → AreWithin bs x → AreWithin bs y →
    AreWithin bs (forth x h) × AreWithin bs (back y h)
parts_within [] [] [] [] below wx wy = (tt, tt)
parts_within [] (k ∷ h) [] [] below wx wy = absurd below
parts_within [] h [] (v ∷ y) below wx wy = absurd wy
parts_within [] h (u ∷ x) y below wx wy = absurd wx
parts_within (b ∷ bs) h [] y below wx wy = absurd wx
parts_within (b ∷ bs) h (u ∷ x) [] below wx wy = absurd wy
parts_within (b ∷ bs) [] (u ∷ x) (v ∷ y) below wx wy = absurd below
parts_within (b ∷ bs) (k ∷ h) (u ∷ x) (v ∷ y) below wx wy =
    let here = within_parts b u v k wx.0 wy.0 below.0 in
    let rest = parts_within bs h x y below.1 wx.1 wy.1 in
    ((here.0, rest.0), (here.1, rest.1))

-- the two ends together cost no more, in each phase
pub phase_parts : (t s : ℕ) (p : Program) (phase : Phase) (x y h : Bricks) → AllByRecursion (IsBrick t s) p.bricks →
    AreWithin p.bricks x → AreWithin p.bricks y → ArePartsOf h x y →
    link_miss p (link_rests p (forth x h)) + link_miss p (link_rests p (back y h))
    ≤ link_miss p (link_rests p x) + link_miss p (link_rests p y) →
    (phase_cost p phase (forth x h) +ℤ phase_cost p phase (back y h)) ≤ℤ (phase_cost p phase x +ℤ phase_cost p phase y)
phase_parts t s p Closed x y h is wx wy below misses = point_parts t s p.bricks x y h is wx wy below
phase_parts t s p Counted x y h is wx wy below misses = omega (arith, ints, misses)

-- ---- the distance

-- y - h is nearer to x
pub nearer : (h x y : Bricks) → ArePartsOf h x y → weight h + weight (way x (back y h)) ≡ weight (way x y)
nearer [] [] [] below = refl
nearer [] [] (v ∷ y) below = refl
nearer [] (u ∷ x) [] below = refl
nearer [] (u ∷ x) (v ∷ y) below = absurd below
nearer (k ∷ h) [] [] below = absurd below
nearer (k ∷ h) [] (v ∷ y) below = absurd below
nearer (k ∷ h) (u ∷ x) [] below = absurd below
nearer (k ∷ h) (u ∷ x) (v ∷ y) below =
    omega (
      arith,
      ap norm1 (sub_swap v k u),
      norm_split k (sub v u) below.0,
      nearer h x y below.1,
    )

-- where the distance is 0 the two are one point
pub same_point : (t : ℕ) (x y : Bricks) → AreSized t x → AreSized t y → length y ≡ length x → weight (way x y) ≡ 0 →
    x ≡ y
same_point t [] [] sx sy size none = refl
same_point t [] (v ∷ y) sx sy size none = absurd (omega arith)
same_point t (u ∷ x) [] sx sy size none = absurd (omega arith)
same_point t (u ∷ x) (v ∷ y) sx sy size none =
    let here : u ≡ v =
    same_vector u v (sx.0 ∙ sym sy.0) (norm_none (sub v u) (omega (arith, none))) in
    λ i. here i ∷ same_point t x y sx.1 sy.1 (omega arith) (omega (arith, none)) i

-- ---- points of a program

-- within the bounds of bricks of t columns stand vectors of t entries, as many as there are bricks
pub points_sized : (t s : ℕ) (bs : List Brick) (x : Bricks) → AllByRecursion (IsBrick t s) bs → AreWithin bs x →
    AreSized t x
points_sized t s [] [] is within = tt
points_sized t s [] (v ∷ x) is within = absurd within
points_sized t s (b ∷ bs) [] is within = absurd within
points_sized t s (b ∷ bs) (v ∷ x) is within =
    (length-within b v within.0 ∙ is.0.lower_size, points_sized t s bs x is.1 within.1)

-- ---- walks

-- a walk ends at the sum of its moves
pub walk_end_is : (t : ℕ) (w : Vector) (h : Bricks) → length w ≡ t → AreSized t h → walk_end w h ≡ add w (sum_of t h)
walk_end_is t w [] size sized = sym (add_zeros w t size)
walk_end_is t w (d ∷ h) size sized =
    walk_end_is t (add w d) h (length-add w d t size sized.0) sized.1 ∙ sym (add_assoc_v w d (sum_of t h))

-- ---- steps of length 1

-- after once the move
pub moved_once : (x h : Bricks) → moved x 0 h ≡ forth x h
moved_once [] h = refl
moved_once (v ∷ x) [] = refl
moved_once (v ∷ x) (d ∷ h) = λ i. add v (scale_once d i) ∷ moved_once x h i

-- a move of zeros leads nowhere
pub forth_none : (t : ℕ) (x h : Bricks) → AreSized t x → AreSized t h → length h ≡ length x →
    list_all is_zero h ≡ true → forth x h ≡ x
forth_none t [] h sx sh size none = refl
forth_none t (v ∷ x) [] sx sh size none = absurd (omega arith)
forth_none t (v ∷ x) (d ∷ h) sx sh size none =
    let q = and_true (is_zero d) (list_all is_zero h) none in
    let here : add v d ≡ v = ap (add v) (zeros_is d q.0 ∙ ap zeros sh.0) ∙ add_zeros v t sx.0 in
    λ i. here i ∷ forth_none t x h sx.1 sh.1 (omega arith) q.1 i
