-- The n-fold program, its points, what a point breaks and what it costs.
use Rattle.std.specs.Prelude.{◌≡◌, ℕ, suc, ◌^◌, ◌≤◌, max, ℤ, pos, negsuc, ◌-ℤ◌, ◌≤ℤ◌, int_le, unsigned_abs, Bool, true}
use Rattle.std.specs.Prelude.{◌&&◌, List, map, length, sum, flat_map, All}
use Rattle.std.specs.List.{AllZip}
use Rattle.std.specs.Ordering.{int_eq}
use Rattle.fold_theory.specs.declared.Cost.{Cost}
use Rattle.fold_theory.specs.declared.Phase.{Phase}
use Rattle.fold_theory.specs.declared.Phase.TheVariants.{Closed, Counted}
use Rattle.fold_theory.specs.declared.Relation.{Relation}
use Rattle.fold_theory.specs.declared.Relation.TheVariants.{Equal, Less, Greater}
use Rattle.lattice_theory.specs.Lists.{zip_with, sum_zip, total, greatest, all_zip}
use Rattle.lattice_theory.specs.Vectors.{Vector, dot, norm1, sub}
use Rattle.lattice_theory.specs.Matrices.{Matrix, product, HasShape}
use Rattle.fold_theory.specs.Costs.{value, IsConvexOn}

-- one brick: its bounds, the right sides of its rows, and the cost of each coordinate
pub record Brick : Type 0 where
  pub lower : Vector
  pub upper : Vector
  pub right : Vector
  pub costs : List Cost

-- the program: the linking matrix with its right sides and relations, the matrix of all bricks, and the bricks
pub record Program : Type 0 where
  pub link : Matrix
  pub link_right : Vector
  pub relations : List Relation
  pub brick : Matrix
  pub bricks : List Brick

-- a point is one vector for each brick
abbrev pub Bricks : Type 0
Bricks = List Vector

-- the parts of a brick fit t columns and s rows, no bounds cross, and each cost is convex on its bounds
pub record IsBrick (t s : ℕ) (b : Brick) : Type 0 where
  pub lower_size : length b.lower ≡ t
  pub upper_size : length b.upper ≡ t
  pub right_size : length b.right ≡ s
  pub uncrossed : AllZip ◌≤ℤ◌ b.lower b.upper
  pub costs_size : length b.costs ≡ t
  pub convex : AllZip {A = Cost} {B = ℤ × ℤ} (λ c bounds. IsConvexOn (value c) bounds.0 bounds.1) b.costs
      (zip_with (λ l u. (l, u)) b.lower b.upper)

pub record IsProgram (p : Program) : Type 0 where
  pub link_shape : HasShape (length p.link.rows) p.link.cols p.link
  pub brick_shape : HasShape (length p.brick.rows) p.link.cols p.brick
  pub right_size : length p.link_right ≡ length p.link.rows
  pub relations_size : length p.relations ≡ length p.link.rows
  pub each_brick : All (IsBrick p.link.cols (length p.brick.rows)) p.bricks

-- v is within the bounds of the brick
abbrev pub IsWithin : Brick → Vector → Type 0
IsWithin b v = AllZip ◌≤ℤ◌ b.lower v × AllZip ◌≤ℤ◌ v b.upper

abbrev pub is_within : Brick → Vector → Bool
is_within b v = all_zip int_le b.lower v && all_zip int_le v b.upper

-- each brick of the point is within its bounds
abbrev pub AreWithin : List Brick → Bricks → Type 0
AreWithin bs x = AllZip IsWithin bs x

-- what each row of the brick misses of its right side
abbrev pub brick_rests : Program → Brick → Vector → Vector
brick_rests p b v = sub b.right (product p.brick v)

-- how far the brick is from meeting its rows
abbrev pub brick_residual : Program → Brick → Vector → ℕ
brick_residual p b v = norm1 (brick_rests p b v)

-- each brick of the point meets its rows
abbrev pub MeetsBrickRows : Program → Bricks → Type 0
MeetsBrickRows p x = AllZip (λ b v. product p.brick v ≡ b.right) p.bricks x

-- what each linking row misses of its right side
abbrev pub link_rests : Program → Bricks → Vector
link_rests p x = zip_with (λ row right. right -ℤ total (map (dot row) x)) p.link.rows p.link_right

-- how far a row is from being met, where its right side less its sum is this
abbrev pub dist : Relation → ℤ → ℕ
dist Equal rest = unsigned_abs rest
dist Less (pos rest) = 0
dist Less (negsuc rest) = suc rest
dist Greater (pos rest) = rest
dist Greater (negsuc rest) = 0

-- how far each linking row with these rests is from being met
abbrev pub link_misses : Program → Vector → List ℕ
link_misses p rests = zip_with dist p.relations rests

-- how far the linking rows with these rests are from being met, in all
abbrev pub link_miss : Program → Vector → ℕ
link_miss p rests = sum (link_misses p rests)

-- a row that changes by this much rests as it was, where it is an equation
abbrev pub keeps_row : Relation → ℤ → Bool
keeps_row Equal change = int_eq change (pos 0)
keeps_row Less change = true
keeps_row Greater change = true

-- so does each linking row
abbrev pub keeps_equations : List Relation → Vector → Bool
keeps_equations relations image = all_zip keeps_row relations image

-- every linking row is met
abbrev pub MeetsLinkRows : Program → Bricks → Type 0
MeetsLinkRows p x = link_miss p (link_rests p x) ≡ 0

-- within the bounds, and every row is met
pub record IsFeasible (p : Program) (x : Bricks) : Type 0 where
  pub within : AreWithin p.bricks x
  pub brick_rows : MeetsBrickRows p x
  pub link_rows : MeetsLinkRows p x

-- the cost of a brick: the sum over its columns
abbrev pub brick_cost : Brick → Vector → ℤ
brick_cost b v = sum_zip value b.costs v

-- the cost of a point: the sum over all bricks and columns
abbrev pub cost : Program → Bricks → ℤ
cost p x = sum_zip brick_cost p.bricks x

-- the phase cost
abbrev pub phase_cost : Program → Phase → Bricks → ℤ
phase_cost p Closed x = cost p x
phase_cost p Counted x = pos (link_miss p (link_rests p x))

-- the greatest difference of an upper and a lower bound
abbrev pub widest : Program → ℕ
widest p = greatest (flat_map (λ b. zip_with (λ l u. unsigned_abs (u -ℤ l)) b.lower b.upper) p.bricks)

-- 2 ^ k is a step length of the program
abbrev pub IsLength : Program → ℕ → Type 0
IsLength p k = 2 ^ k ≤ max 1 (widest p)
