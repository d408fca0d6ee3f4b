-- A layer, cell by cell, and counts that rise by at most so much in each round.
use Rattle.std.proofs.Common.{◌≡◌, ℕ, ◌+◌, ◌*◌, ◌≤◌, ℤ, List, [], ◌∷◌, ◌++◌, length, refl, ap, arith, sym, ◌∙◌, Some}
use Rattle.std.proofs.Common.{Option, slice_get, subst, ◌⊎◌, inl, inr}
use Rattle.std.proofs.Math.Nat.{mul-le-mul_right}
use Rattle.std.proofs.lemmas.List.{length-append}
use Rattle.std.proofs.lemmas.Option.{slice_get_within}
use Rattle.lattice_theory.specs.Vectors.{Vector}
use Rattle.lattice_laws.proofs.Places.{same_value, slice_get-push}

-- ---- a list that has a fact for each place

module _ (P : Vector → Option ℤ → Type 0) (zs : List Vector) where
  -- the fact for the first places
  pub record NodesUpTo (layer : List (Option ℤ)) (n : ℕ) : Type 0 where
    pub size : length layer ≡ n
    pub nodes : (i : ℕ) (w : Vector) (cell : Option ℤ) → slice_get zs i ≡ Some w → slice_get layer i ≡ Some cell →
        P w cell

  pub nodes_none : NodesUpTo [] 0
  nodes_none = record {
    size = refl;
    nodes =
        λ i w cell there e. absurd (omega (arith, slice_get_within {A = Option ℤ} [] i cell e));
  }

  pub nodes_more : (layer next : List (Option ℤ)) (n : ℕ) (w : Vector) (cell : Option ℤ) → slice_get zs n ≡ Some w →
      P w cell →
      next ≡ layer ++ cell ∷ [] → NodesUpTo layer n → NodesUpTo next (n + 1)
  nodes_more layer next n w cell there fact is so_far = record {
    size = ap length is ∙ length-append layer (cell ∷ []) ∙ ap (λ m. m + 1) so_far.size;
    nodes = λ i v other listed e. by i v other listed
        (slice_get-push layer cell other i (ap (λ xs. slice_get xs i) (sym is) ∙ e));
  }
    where
      by : (i : ℕ) (v : Vector) (other : Option ℤ) → slice_get zs i ≡ Some v → (slice_get layer i ≡ Some other) ⊎
          ((i ≡ length layer) × (cell ≡ other)) → P v other
      by i v other listed (inl before) = so_far.nodes i v other listed before
      by i v other listed (inr last) =
          let place : i ≡ n = last.0 ∙ so_far.size in
          let same : w ≡ v = same_value (slice_get zs n) w v there (ap (slice_get zs) (sym place) ∙ listed) in
          subst (λ u. P u other) same (subst (λ o. P w o) last.1 fact)

-- ---- counting

-- more rounds in which nothing counts
pub count_most : (a m len i more : ℕ) → m ≤ a + i * len → i ≤ more → m ≤ a + more * len
count_most a m len i more so_far less = let all = mul-le-mul_right len less in omega (arith, so_far, all)

-- a round of at most len moves that each count at most len times
pub count_round : (m n few len : ℕ) → n ≤ m + few * len → few ≤ len → n ≤ m + len * len
count_round m n few len here low = let most : few * len ≤ len * len =
    mul-le-mul_right len low in omega (arith, here, most)

pub count_all : (a n i all each : ℕ) → n ≤ a + i * each → i ≤ all → n ≤ a + all * each
count_all a n i all each so_far low = let most : i * each ≤ all * each =
    mul-le-mul_right each low in omega (arith, so_far, most)
