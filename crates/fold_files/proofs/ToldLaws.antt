-- Facts of what is told.
use Rattle.std.proofs.Common.{Option, Some, None}
use Rattle.fold_shelf.specs.Outside.{ForTold}

module _ {A : Type 0} where
  -- what holds of all holds of what is told
  pub ForTold-all : (told : Option A) (P : A → Type 0) → ((a : A) → P a) → ForTold told P
  ForTold-all None P each = tt
  ForTold-all (Some a) P each = each a

  -- what follows from a fact holds of what is told
  pub ForTold-weaker : (told : Option A) (P Q : A → Type 0) → ((a : A) → P a → Q a) → ForTold told P → ForTold told Q
  ForTold-weaker None P Q follows p = tt
  ForTold-weaker (Some a) P Q follows p = follows a p
