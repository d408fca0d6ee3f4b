-- Live cells of a layer, and moves that lead to them.
use Rattle.std.proofs.Common.{◌≡◌, ℕ, zero, suc, ℤ, ◌≤ℤ◌, int_le, List, [], ◌∷◌, length, ap, arith, ◌∙◌, Option, Some}
use Rattle.std.proofs.Common.{None, subst}
use Rattle.std.proofs.lemmas.Int.{ints}
use Rattle.std.proofs.lemmas.List.{length-map}
use Rattle.std.proofs.lemmas.Bool.{cond-true}
use Rattle.std.proofs.lemmas.Option.{cond_some}
use Rattle.std.specs.Prelude.{slice_get}
use Rattle.lattice_theory.specs.Vectors.{Vector}
use Rattle.lattice_laws.proofs.Tests.{int_le_of, int_le_true}
use Rattle.sieve_laws.specs.Sieve.{Layer, Menu, Reaches, Goes, under, live}

-- a cost that is under the limit is the same cost, and at most the limit
pub under_is : (limit : ℤ) (o : Option ℤ) (c : ℤ) → under limit o ≡ Some c → (o ≡ Some c) × (c ≤ℤ limit)
under_is limit None c e = absurd (cc)
under_is limit (Some a) c e =
    let (low, same) = cond_some (int_le a limit) a c e in
    (ap Some same, subst (λ b. b ≤ℤ limit) same (int_le_true a limit low))

-- a cost that is at most the limit is under it
pub is_under : (limit c : ℤ) → c ≤ℤ limit → under limit (Some c) ≡ Some c
is_under limit c low = cond-true (int_le c limit) (Some c) None (int_le_of c limit low)

pub live_size : (limit : ℤ) (layer : Layer) → length (live limit layer) ≡ length layer
live_size limit layer = length-map layer (under limit)

-- a live cell is one of the layer, and costs at most the limit
pub live_is : (limit : ℤ) (layer : Layer) (j : ℕ) (c : ℤ) → slice_get (live limit layer) j ≡ Some (Some c) →
    (slice_get layer j ≡ Some (Some c)) × (c ≤ℤ limit)
live_is limit [] j c e = absurd (cc)
live_is limit (o ∷ layer) zero c e =
    let (is, low) = under_is limit o c (cc) in
    (ap Some is, low)
live_is limit (o ∷ layer) (suc j) c e = live_is limit layer j c e

-- a cell that costs at most the limit is live
pub is_live : (limit : ℤ) (layer : Layer) (j : ℕ) (c : ℤ) → slice_get layer j ≡ Some (Some c) → c ≤ℤ limit →
    slice_get (live limit layer) j ≡ Some (Some c)
is_live limit [] j c e low = absurd (cc)
is_live limit (o ∷ layer) zero c e low =
    let same : o ≡ Some c = cc in
    ap Some (ap (under limit) same ∙ is_under limit c low)
is_live limit (o ∷ layer) (suc j) c e low = is_live limit layer j c e low

-- a lesser limit has fewer live cells
pub live_less : (less limit : ℤ) (layer : Layer) (j : ℕ) (c : ℤ) → less ≤ℤ limit →
    slice_get (live less layer) j ≡ Some (Some c) →
    slice_get (live limit layer) j ≡ Some (Some c)
live_less less limit layer j c below e =
    let (is, low) = live_is less layer j c e in
    is_live limit layer j c is (omega (arith, ints, low, below))

module _ (zs : List Vector) (next : Layer) where
  -- what is reached of the live cells is reached of all, and costs at most the limit
  pub reaches_live : (limit : ℤ) (h w : ℕ) (a : ℤ) → Reaches zs (live limit next) h w a →
      Reaches zs next h w a × (a ≤ℤ limit)
  reaches_live limit h w a reach =
      let (is, low) = live_is limit next reach.to a reach.cell in
      (record { to = reach.to; leads = reach.leads; cell = is }, low)

  -- and the other way round
  pub live_reaches : (limit : ℤ) (h w : ℕ) (a : ℤ) → Reaches zs next h w a → a ≤ℤ limit →
      Reaches zs (live limit next) h w a
  live_reaches limit h w a reach low =
      record { to = reach.to; leads = reach.leads; cell = is_live limit next reach.to a reach.cell low }

  pub reaches_less : (less limit : ℤ) (h w : ℕ) (a : ℤ) → less ≤ℤ limit → Reaches zs (live less next) h w a →
      Reaches zs (live limit next) h w a
  reaches_less less limit h w a below reach = record {
    to = reach.to;
    leads = reach.leads;
    cell = live_less less limit next reach.to a below reach.cell;
  }

  -- a move to a live cell is one of the whole layer
  pub goes_live : (limit : ℤ) (menu : Menu) (w i : ℕ) (c : ℤ) → Goes zs menu (live limit next) w i c →
      Goes zs menu next w i c
  goes_live limit menu w i c goes = record {
    move = goes.move;
    there = goes.there;
    rest = goes.rest;
    reach = (reaches_live limit goes.move.place w goes.rest goes.reach).0;
    is = goes.is;
  }

  -- and the other way round
  pub live_goes : (limit : ℤ) (menu : Menu) (w i : ℕ) (c : ℤ) → (goes : Goes zs menu next w i c) →
      goes.rest ≤ℤ limit → Goes zs menu (live limit next) w i c
  live_goes limit menu w i c goes low = record {
    move = goes.move;
    there = goes.there;
    rest = goes.rest;
    reach = live_reaches limit goes.move.place w goes.rest goes.reach low;
    is = goes.is;
  }
