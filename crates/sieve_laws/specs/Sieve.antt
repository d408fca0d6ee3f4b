-- Layers of least costs over lists of sums, the moves of a brick between them, and what a layer is over the next one.
use Rattle.std.specs.Prelude.{◌≡◌, ℕ, ◌^◌, ◌<◌, ℤ, pos, ◌+ℤ◌, ◌≤ℤ◌, int_le, cond, List, length, map, Option, Some, None}
use Rattle.std.specs.Prelude.{slice_get}
use Rattle.std.specs.Int.{int_min}
use Rattle.fold_theory.specs.declared.Phase.{Phase}
use Rattle.lattice_theory.specs.Vectors.{Vector, add, scale}
use Rattle.fold_theory.specs.Programs.{Program, Brick, Bricks, IsWithin}
use Rattle.run_theory.specs.Walks.{brick_change, WalkCosts}
use Rattle.sieve_laws.specs.declared.PricedMove.{PricedMove}

-- the least cost of a walk from each sum to the end, in the order of the sums; none where there is no walk
abbrev pub Layer : Type 0
Layer = List (Option ℤ)

-- the cost, where it is at most the limit
abbrev pub under : ℤ → Option ℤ → Option ℤ
under limit None = None
under limit (Some a) = cond (int_le a limit) (Some a) None

-- the live cells of a layer: those that cost at most the limit
abbrev pub live : ℤ → Layer → Layer
live limit layer = map (under limit) layer

-- the moves of a brick in the order of the sums, each with what it changes the cost by
abbrev pub Menu : Type 0
Menu = List PricedMove

-- the vector after 2 ^ k times the move
abbrev pub after : ℕ → Vector → Vector → Vector
after k v d = add v (scale (pos (2 ^ k)) d)

-- the menu of a brick at the vector v: each listed move that stays within the bounds, once
pub record IsMenu (phase : Phase) (zs : List Vector) (k : ℕ) (b : Brick) (v : Vector) (menu : Menu) : Type 0 where
  pub sound : (i : ℕ) (m : PricedMove) → slice_get menu i ≡ Some m →
      (d : Vector) × (slice_get zs m.place ≡ Some d) × IsWithin b (after k v d)
      × (m.change ≡ brick_change phase b v (after k v d))
  pub complete : (h : ℕ) (d : Vector) → slice_get zs h ≡ Some d → IsWithin b (after k v d) →
      (i : ℕ) × (m : PricedMove) × (slice_get menu i ≡ Some m) × (m.place ≡ h)
  pub rising : (i j : ℕ) (a b : PricedMove) → i < j → slice_get menu i ≡ Some a → slice_get menu j ≡ Some b →
      a.place < b.place

-- the sum at place w and the one at place h add up to the one at place j
pub record Leads (zs : List Vector) (h w j : ℕ) : Type 0 where
  pub from : Vector
  pub start : slice_get zs w ≡ Some from
  pub by : Vector
  pub move : slice_get zs h ≡ Some by
  pub end : slice_get zs j ≡ Some (add from by)

-- the place to which the move at place h leads from w; none where it leads to no sum
abbrev pub IsTarget : List Vector → ℕ → ℕ → Option ℕ → Type 0
IsTarget zs h w None = (j : ℕ) → Leads zs h w j → ⊥
IsTarget zs h w (Some j) = Leads zs h w j

-- the move leads from w to a sum from which walks cost at least a
pub record Reaches (zs : List Vector) (next : Layer) (h w : ℕ) (a : ℤ) : Type 0 where
  pub to : ℕ
  pub leads : Leads zs h w to
  pub cell : slice_get next to ≡ Some (Some a)

-- what walks cost from w that begin with this move; none where it reaches nothing
abbrev pub IsOffer : List Vector → Layer → PricedMove → ℕ → Option ℤ → Type 0
IsOffer zs next m w None = (a : ℤ) → Reaches zs next m.place w a → ⊥
IsOffer zs next m w (Some c) = (a : ℤ) × Reaches zs next m.place w a × (c ≡ (m.change +ℤ a))

-- the lesser cost, where none is more than any
abbrev pub lesser : Option ℤ → Option ℤ → Option ℤ
lesser None b = b
lesser (Some a) None = Some a
lesser (Some a) (Some b) = Some (int_min a b)

-- each cell is the lesser of the one before and what the move offers there
pub record IsLoweredBy (zs : List Vector) (next : Layer) (m : PricedMove) (before layer : Layer) : Type 0 where
  pub size : length layer ≡ length before
  pub cells : (w : ℕ) (kept : Option ℤ) → slice_get before w ≡ Some kept →
      (offer : Option ℤ) × IsOffer zs next m w offer × (slice_get layer w ≡ Some (lesser kept offer))

-- the cell at w is there, and at most c
abbrev pub IsAtMost : Layer → ℕ → ℤ → Type 0
IsAtMost layer w c = (a : ℤ) × (slice_get layer w ≡ Some (Some a)) × (a ≤ℤ c)

-- the move lowers no cell: where it reaches a source, the cell is at most what it offers
abbrev pub IsIdle : List Vector → Layer → Layer → PricedMove → Type 0
IsIdle zs from next m = (w : ℕ) (a : ℤ) → Reaches zs from m.place w a → IsAtMost next w (m.change +ℤ a)

-- the same for each move of a menu
abbrev pub AreIdle : List Vector → Layer → Layer → Menu → Type 0
AreIdle zs from next menu = (i : ℕ) (m : PricedMove) → slice_get menu i ≡ Some m → IsIdle zs from next m

-- the same for a move of each place, where it changes the cost by what stands there
abbrev pub AreIdleAt : List Vector → Layer → Layer → List (Option ℤ) → Type 0
AreIdleAt zs from next changes =
    (h : ℕ) (change : ℤ) → slice_get changes h ≡ Some (Some change) →
    IsIdle zs from next (record { place = h; change = change })

-- no sum costs more than this above the source that the move at place h reaches from there
abbrev pub IsTop : List Vector → Layer → Layer → ℕ → ℤ → Type 0
IsTop zs from next h top = (w : ℕ) (a : ℤ) → Reaches zs from h w a → IsAtMost next w (top +ℤ a)

-- of each move, by its place, where a bound is known
pub record AreTops (zs : List Vector) (from next : Layer) (tops : List (Option ℤ)) : Type 0 where
  pub size : length tops ≡ length zs
  pub each : (h : ℕ) (top : ℤ) → slice_get tops h ≡ Some (Some top) → IsTop zs from next h top

-- the first move of the menu at place i leads on, and together they cost c
pub record Goes (zs : List Vector) (menu : Menu) (next : Layer) (w i : ℕ) (c : ℤ) : Type 0 where
  pub move : PricedMove
  pub there : slice_get menu i ≡ Some move
  pub rest : ℤ
  pub reach : Reaches zs next move.place w rest
  pub is : c ≡ (move.change +ℤ rest)

-- each cost of the next layer is that of a move of the menu too, as it is where a brick may stay where it is
abbrev pub MayStay : List Vector → Menu → Layer → Type 0
MayStay zs menu next = (w : ℕ) (c : ℤ) → slice_get next w ≡ Some (Some c) → (i : ℕ) × Goes zs menu next w i c

-- the layer over the next one: each cost is that of a move of the menu and what stands behind it, and none is more
-- than by the moves to sources
pub record IsLayerOver (zs : List Vector) (menu : Menu) (from next layer : Layer) : Type 0 where
  pub size : length layer ≡ length zs
  pub attained : (w : ℕ) (c : ℤ) → slice_get layer w ≡ Some (Some c) → (i : ℕ) × Goes zs menu next w i c
  pub least : (w i : ℕ) (c : ℤ) → Goes zs menu from w i c → IsAtMost layer w c
  pub kept : (w : ℕ) (c : ℤ) → slice_get next w ≡ Some (Some c) → IsAtMost layer w c

-- each cost of the layer is that of a walk, and where a walk costs at most the limit, the cell costs no more
pub record IsLayerUnder (p : Program) (phase : Phase) (zs : List Vector) (k : ℕ) (rests : Vector) (bs : List Brick)
    (x : Bricks) (limit : ℤ) (layer : Layer) : Type 0 where
  pub size : length layer ≡ length zs
  pub walks : (j : ℕ) (w : Vector) (c : ℤ) → slice_get zs j ≡ Some w → slice_get layer j ≡ Some (Some c) →
      (h : Bricks) × WalkCosts p phase zs k rests bs x w h c
  pub least : (j : ℕ) (w : Vector) (h : Bricks) (c : ℤ) → slice_get zs j ≡ Some w →
      WalkCosts p phase zs k rests bs x w h c → c ≤ℤ limit → IsAtMost layer j c

-- the move of the menu at place i is the first of those that cost c
pub record IsFirst (zs : List Vector) (menu : Menu) (next : Layer) (w i : ℕ) (c : ℤ) : Type 0 where
  pub goes : Goes zs menu next w i c
  pub none_before : (j : ℕ) → j < i → Goes zs menu next w j c → ⊥
