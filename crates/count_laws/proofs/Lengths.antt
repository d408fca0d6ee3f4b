-- A multiple of a move that is not 0, as a part of the way between two points within the bounds, is a step length.
use Rattle.std.proofs.Common.{◌≡◌, ℕ, ◌*◌, ◌<◌, ◌≤◌, max, ℤ, pos, ◌-ℤ◌, ◌*ℤ◌, ◌≤ℤ◌, unsigned_abs, true, List, [], ◌∷◌}
use Rattle.std.proofs.Common.{ap, arith, ◌∙◌, inl, inr}
use Rattle.std.proofs.lemmas.Int.{ints, unsigned_abs-mul}
use Rattle.std.proofs.lemmas.Bool.{cases_lt}
use Rattle.std.proofs.lemmas.List.Concat.{flat_map-cons}
use Rattle.std.specs.List.{AllZip, flat_map}
use Rattle.lattice_theory.specs.Lists.{greatest, zip_with}
use Rattle.lattice_theory.specs.Vectors.{Vector, ◌⊑◌, conforms, is_between, norm1, sub, scale}
use Rattle.lattice_laws.proofs.Tests.{and_true}
use Rattle.lattice_laws.proofs.Signs.{abs_split}
use Rattle.lattice_laws.proofs.Conformal.{norm1-cons}
use Rattle.fold_theory.specs.Programs.{Brick, Bricks, AreWithin}
use Rattle.lattice_laws.specs.VectorLists.{weight}
use Rattle.lattice_laws.proofs.Members.{greatest-append}
use Rattle.piece_laws.specs.Points.{way}
use Rattle.count_laws.proofs.Clipped.{times}
use Rattle.std.proofs.Math.Nat.{le-mul_of_pos_right}

-- the widths of the bounds
abbrev widths : Vector → Vector → List ℕ
widths lower upper = zip_with (λ l u. unsigned_abs (u -ℤ l)) lower upper

-- by one entry that is not 0
entry_fits : (m : ℕ) (l u x y k : ℤ) → l ≤ℤ x → l ≤ℤ y → x ≤ℤ u → y ≤ℤ u →
    is_between (pos m *ℤ k) (y -ℤ x) ≡ true → 0 < unsigned_abs k → m ≤ unsigned_abs (u -ℤ l)
entry_fits m l u x y k lx ly ux uy part some =
    let all : m ≤ m * unsigned_abs k = le-mul_of_pos_right m some in
    let inside : unsigned_abs (y -ℤ x) ≤ unsigned_abs (u -ℤ l) = omega (arith, ints, lx, ly, ux, uy) in
    omega (arith, all, inside, unsigned_abs-mul (pos m) k, abs_split (y -ℤ x) (pos m *ℤ k) part)

vector_fits : (m : ℕ) (lower upper x y d : Vector) → AllZip ◌≤ℤ◌ lower x → AllZip ◌≤ℤ◌ x upper → AllZip ◌≤ℤ◌ lower y →
    AllZip ◌≤ℤ◌ y upper → scale (pos m) d ⊑ sub y x → 0 < norm1 d → m ≤ greatest (widths lower upper)
vector_fits m lower upper x y [] lx ux ly uy below some = absurd (omega (arith, some))
vector_fits m [] upper [] y (k ∷ d) lx ux ly uy below some = absurd (by y ly below)
  where
    by : (y : Vector) → AllZip ◌≤ℤ◌ [] y → scale (pos m) (k ∷ d) ⊑ sub y [] → ⊥
    by [] a b = absurd (cc)
    by (q ∷ y) a b = absurd a
vector_fits m [] upper (p ∷ x) y (k ∷ d) lx ux ly uy below some = absurd lx
vector_fits m (l ∷ lower) upper [] y (k ∷ d) lx ux ly uy below some = absurd lx
vector_fits m (l ∷ lower) [] (p ∷ x) y (k ∷ d) lx ux ly uy below some = absurd ux
vector_fits m (l ∷ lower) (u ∷ upper) (p ∷ x) [] (k ∷ d) lx ux ly uy below some = absurd ly
vector_fits m (l ∷ lower) (u ∷ upper) (p ∷ x) (q ∷ y) (k ∷ d) lx ux ly uy below some =
    let parts = and_true (is_between (pos m *ℤ k) (q -ℤ p)) (conforms (scale (pos m) d) (sub y x)) below in
    elim (cases_lt 0 (unsigned_abs k)) [
      | inl here ↦ omega (arith, entry_fits m l u p q k lx.0 ly.0 ux.0 uy.0 parts.0 here)
      | inr none ↦
          omega (
            arith,
            vector_fits m lower upper x y d lx.1 ux.1 ly.1 uy.1 parts.1 (omega (arith, none, some, norm1-cons k d)),
          )
    ]

abbrev all_widths : List Brick → ℕ
all_widths bs = greatest (flat_map (λ b. widths b.lower b.upper) bs)

all_widths-cons : (b : Brick) (bs : List Brick) →
    all_widths (b ∷ bs) ≡ max (greatest (widths b.lower b.upper)) (all_widths bs)
all_widths-cons b bs =
    ap greatest (flat_map-cons (λ b. widths b.lower b.upper) b bs)
    ∙ greatest-append (widths b.lower b.upper) (flat_map (λ b. widths b.lower b.upper) bs)

-- a multiple of a move that is not 0, as a part of the way, is at most the widest bounds
pub times_fit : (m : ℕ) (bs : List Brick) (x y h : Bricks) → AreWithin bs x → AreWithin bs y →
    AllZip ◌⊑◌ (times m h) (way x y) → 0 < weight h → m ≤ all_widths bs
times_fit m bs x y [] wx wy below some = absurd (omega (arith, some))
times_fit m bs [] y (d ∷ h) wx wy below some = absurd (by y wx wy below)
  where
    by : (y : Bricks) → AreWithin bs [] → AreWithin bs y → AllZip ◌⊑◌ (times m (d ∷ h)) (way [] y) → ⊥
    by [] a b c = absurd c
    by (v ∷ y) a b c = by_bricks bs a b
      where
        by_bricks : (bs : List Brick) → AreWithin bs [] → AreWithin bs (v ∷ y) → ⊥
        by_bricks [] a b = absurd b
        by_bricks (e ∷ bs) a b = absurd a
times_fit m bs (u ∷ x) [] (d ∷ h) wx wy below some = absurd below
times_fit m [] (u ∷ x) (v ∷ y) (d ∷ h) wx wy below some = absurd wx
times_fit m (b ∷ bs) (u ∷ x) (v ∷ y) (d ∷ h) wx wy below some = elim (cases_lt 0 (norm1 d)) [
  | inl here ↦
      omega (
        arith,
        all_widths-cons b bs,
        vector_fits m b.lower b.upper u v d wx.0.0 wx.0.1 wy.0.0 wy.0.1 below.0 here,
      )
  | inr none ↦
      omega (arith, all_widths-cons b bs, times_fit m bs x y h wx.1 wy.1 below.1 (omega (arith, none, some)))
]
