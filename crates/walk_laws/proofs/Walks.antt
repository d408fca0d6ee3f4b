-- Walks through the layers: the first move of a walk and the walk after it.
use Rattle.std.proofs.Common.{◌≡◌, ℕ, ◌^◌, ℤ, pos, ◌+ℤ◌, List, [], ◌∷◌, refl, arith, Contains, Some}
use Rattle.std.proofs.lemmas.Int.{ints}
use Rattle.std.proofs.lemmas.List.Elements.{All-head, All-tail, All-cons, All-nil}
use Rattle.fold_theory.specs.declared.Phase.{Phase}
use Rattle.lattice_theory.specs.Vectors.{Vector, add, scale}
use Rattle.lattice_theory.specs.Matrices.{product}
use Rattle.fold_theory.specs.Programs.{Program, Brick, Bricks, IsWithin}
use Rattle.run_theory.specs.Steps.{partial_sums}
use Rattle.run_theory.specs.Walks.{brick_change, end_cost, walk_change, WalkCosts}

module _ (p : Program) (phase : Phase) (zs : List Vector) (k : ℕ) (rests : Vector) where
  -- the brick's vector after 2 ^ k times the move
  abbrev pub there : Vector → Vector → Vector
  there v d = add v (scale (pos (2 ^ k)) d)

  -- the first move of a walk, and the walk after it
  pub record Front (b : Brick) (bs : List Brick) (v : Vector) (x : Bricks) (w d : Vector) (h : Bricks) (c : ℤ) : Type 0
    where
      pub move : Contains zs d
      pub sum : Contains zs (add w d)
      pub within : IsWithin b (there v d)
      pub rest : ℤ
      pub walk : WalkCosts p phase zs k rests bs x (add w d) h rest
      pub is : c ≡ (brick_change phase b v (there v d) +ℤ rest)

  pub front_of : (b : Brick) (bs : List Brick) (v : Vector) (x : Bricks) (w d : Vector) (h : Bricks) (c : ℤ) →
      WalkCosts p phase zs k rests (b ∷ bs) (v ∷ x) w (d ∷ h) c → Front b bs v x w d h c
  front_of b bs v x w d h c wc = record {
    move = All-head (Contains zs) d h wc.walk.moves;
    sum = All-head (Contains zs) (add w d) (partial_sums (add w d) h) wc.walk.sums;
    within = wc.walk.within.0;
    rest = walk_change phase k bs x h +ℤ wc.last;
    walk = record {
      walk = record {
        size = omega (arith, wc.walk.size);
        moves = All-tail (Contains zs) d h wc.walk.moves;
        sums = All-tail (Contains zs) (add w d) (partial_sums (add w d) h) wc.walk.sums;
        within = wc.walk.within.1;
      };
      last = wc.last;
      ends = wc.ends;
      is = refl;
    };
    is = omega (arith, ints, wc.is);
  }

  pub walk_of : (b : Brick) (bs : List Brick) (v : Vector) (x : Bricks) (w d : Vector) (h : Bricks) (c r : ℤ) →
      Contains zs d → Contains zs (add w d) → IsWithin b (there v d) → WalkCosts p phase zs k rests bs x (add w d) h r →
      c ≡ (brick_change phase b v (there v d) +ℤ r) → WalkCosts p phase zs k rests (b ∷ bs) (v ∷ x) w (d ∷ h) c
  walk_of b bs v x w d h c r m s i wc e = record {
    walk = record {
      size = omega (arith, wc.walk.size);
      moves = All-cons (Contains zs) d h m wc.walk.moves;
      sums = All-cons (Contains zs) (add w d) (partial_sums (add w d) h) s wc.walk.sums;
      within = (i, wc.walk.within);
    };
    last = wc.last;
    ends = wc.ends;
    is = omega (arith, ints, wc.is, e);
  }

  -- the walk without a move, at the last layer
  pub walk_none : (w : Vector) (a : ℤ) → end_cost p phase rests (scale (pos (2 ^ k)) (product p.link w)) ≡ Some a →
      WalkCosts p phase zs k rests [] [] w [] a
  walk_none w a e = record {
    walk = record { size = refl; moves = All-nil (Contains zs); sums = All-nil (Contains zs); within = tt };
    last = a;
    ends = e;
    is = omega (arith, ints);
  }
