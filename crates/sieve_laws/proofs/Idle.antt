-- A brick all of whose moves are idle leaves the layer as it is.
use Rattle.std.proofs.Common.{◌≡◌, ℕ, ◌+◌, ◌<◌, ◌≤◌, ℤ, ◌≤ℤ◌, List, length, ap, arith, ◌∙◌, Option, Some, subst, ◌⊎◌}
use Rattle.std.proofs.Common.{inl, inr}
use Rattle.std.specs.Prelude.{slice_get}
use Rattle.std.proofs.lemmas.Int.{ints}
use Rattle.std.proofs.lemmas.Bool.{cases_lt}
use Rattle.std.proofs.lemmas.Option.{slice_get_within}
use Rattle.lattice_theory.specs.Vectors.{Vector}
use Rattle.sieve_laws.specs.declared.PricedMove.{PricedMove}
use Rattle.sieve_laws.specs.Sieve.{Layer, Menu, IsAtMost, IsIdle, AreIdle, AreIdleAt, MayStay, IsLayerOver, live}
use Rattle.sieve_laws.proofs.Live.{reaches_less}

module _ (zs : List Vector) (next : Layer) where
  -- over moves that are idle the layer itself is least
  pub idle_over : (menu : Menu) (from : Layer) → length next ≡ length zs → MayStay zs menu next →
      AreIdle zs from next menu →
      IsLayerOver zs menu from next next
  idle_over menu from size stays idle = record {
    size = size;
    attained = stays;
    least = λ w i c goes.
        let (a, cell, low) = idle i goes.move goes.there w goes.rest goes.reach in
        (a, cell, omega (arith, ints, low, goes.is));
    kept = λ w c cell. (c, cell, omega (arith, ints));
  }

  -- a move that changes the cost by no less than one that is idle is idle
  pub idle_above : (from : Layer) (changes : List (Option ℤ)) (menu : Menu) → AreIdleAt zs from next changes →
      ((i : ℕ) (m : PricedMove) → slice_get menu i ≡ Some m → IsAtMost changes m.place m.change) →
      AreIdle zs from next menu
  idle_above from changes menu idle below i m there w a reach =
      let (change, at, less) = below i m there in
      let (b, cell, low) = idle m.place change at w a reach in
      (b, cell, omega (arith, ints, low, less))

  -- idle moves stay idle where fewer cells are live
  pub idle_less : (less limit : ℤ) (menu : Menu) → less ≤ℤ limit → AreIdle zs (live limit next) next menu →
      AreIdle zs (live less next) next menu
  idle_less less limit menu below idle i m there w a reach =
      idle i m there w a (reaches_less zs next less limit m.place w a below reach)

-- ---- going through the places

module _ (zs : List Vector) (from next : Layer) (changes : List (Option ℤ)) where
  -- as AreIdleAt, for the first n places
  abbrev pub AreIdleUpTo : ℕ → Type 0
  AreIdleUpTo n =
      (h : ℕ) (change : ℤ) → h < n → slice_get changes h ≡ Some (Some change) →
      IsIdle zs from next (record { place = h; change = change })

  pub idle_none : AreIdleUpTo 0
  idle_none h change low = absurd (omega (arith, low))

  pub idle_more : (n : ℕ) → ((change : ℤ) → slice_get changes n ≡ Some (Some change) →
      IsIdle zs from next (record { place = n; change = change })) →
      AreIdleUpTo n → AreIdleUpTo (n + 1)
  idle_more n last so_far h change low there = by (cases_lt h n)
    where
      by : (h < n) ⊎ (n ≤ h) → IsIdle zs from next (record { place = h; change = change })
      by (inl before) = so_far h change before there
      by (inr high) =
          let same : n ≡ h = omega (arith, low, high) in
          subst (λ at. IsIdle zs from next (record { place = at; change = change })) same
          (last change (ap (slice_get changes) same ∙ there))

  -- behind the last sum there is no move
  pub idle_all : (n : ℕ) → length zs ≤ n → AreIdleUpTo n → AreIdleAt zs from next changes
  idle_all n all so_far h change there w a reach =
      so_far h change (omega (arith, all, slice_get_within zs h reach.leads.by reach.leads.move)) there w a reach
