-- What a move reaches, and what it offers.
use Rattle.std.proofs.Common.{◌≡◌, ℕ, ◌+◌, ◌^◌, ◌<◌, ◌≤◌, ℤ, ◌+ℤ◌, ◌-ℤ◌, ◌≤ℤ◌, true, List, length, refl, ap, arith, sym}
use Rattle.std.proofs.Common.{◌∙◌, Option, Some, None, slice_get, subst, ◌⊎◌, inl, inr, get_or, unsigned_abs}
use Rattle.std.proofs.Common.{FitsSigned, pos, negsuc}
use Rattle.std.specs.Int.{w128}
use Rattle.std.proofs.lemmas.Int.{ints}
use Rattle.std.proofs.lemmas.Option.{slice_get-get_or, slice_get_within}
use Rattle.std.proofs.lemmas.List.{length-map}
use Rattle.std.proofs.lemmas.Bool.{cases_lt}
use Rattle.lattice_theory.specs.Vectors.{Vector, is_rising}
use Rattle.lattice_theory.specs.SignedSums.{Sum, vectors}
use Rattle.lattice_laws.proofs.Places.{same_value}
use Rattle.sieve_laws.specs.declared.PricedMove.{PricedMove}
use Rattle.sieve_laws.specs.Sieve.{Layer, Menu, Leads, Reaches, IsTarget, Goes, live}
use Rattle.sieve_laws.proofs.Cells.{not_none}
use Rattle.sieve_laws.proofs.Live.{live_is, is_live, reaches_live}
use Rattle.sieve_laws.proofs.Lowering.{leads_once, reaches_once}
use Rattle.layer_sieve.specs.declared.reaching.Reach.{Reach}
use Rattle.layer_sieve.specs.Reaching.{IsReach, IsChoice}

pub read_at : {A : Type 0} (xs : List A) (i : ℕ) (d x : A) → i < length xs → get_or xs i d ≡ x → slice_get xs i ≡ Some x
read_at xs i d x low is = slice_get-get_or xs i d low ∙ ap Some is

-- a listed vector stands at a place below the number of sums
pub place_low : (fs : List Sum) (place : ℕ) (v : Vector) → slice_get (vectors fs) place ≡ Some v → place < length fs
place_low fs place v there =
    let low = slice_get_within (vectors fs) place v there in
    omega (arith, low, length-map {A = Sum} {B = Vector} fs (λ s. s.vector))

pub target_low : (fs : List Sum) (h w j : ℕ) → Leads (vectors fs) h w j → j < length fs
target_low fs h w j leads = place_low fs j _ leads.end

pub size_vectors : (fs : List Sum) → length (vectors fs) ≡ length fs
size_vectors fs = length-map {A = Sum} {B = Vector} fs (λ s. s.vector)

module _ (zs : List Vector) (next : Layer) (h w : ℕ) where
  pub reach_nowhere : (o : Option ℕ) → o ≡ None → IsTarget zs h w o → IsReach zs next h w None
  reach_nowhere None e none = λ a reach. none reach.to reach.leads
  reach_nowhere (Some j) e leads = absurd (cc)

  pub reach_end : is_rising zs ≡ true → (to : ℕ) → Leads zs h w to → slice_get next to ≡ Some None →
      IsReach zs next h w None
  reach_end rising to leads cell a reach =
      let same : to ≡ reach.to = leads_once zs rising h w to reach.to leads reach.leads in
      let other : Some a ≡ None = same_value (slice_get next to) (Some a) None
      (ap (slice_get next) same ∙ reach.cell) cell in
      not_none (Some a) a refl other

  pub reach_some : (o : Option ℕ) (to : ℕ) → o ≡ Some to → IsTarget zs h w o → Leads zs h w to
  reach_some None to e none = absurd (cc)
  reach_some (Some j) to e leads = subst (Leads zs h w) (same_value (Some j) j to refl e) leads

  -- what is reached
  pub reached : (o : Option Reach) (r : Reach) → o ≡ Some r → IsReach zs next h w o → Reaches zs next h w r.rest
  reached None r e none = absurd (cc)
  reached (Some q) r e (leads, cell) =
      let same : q ≡ r = same_value (Some q) q r refl e in
      subst (λ (r : Reach). Reaches zs next h w r.rest) same (record { to = q.to; leads = leads; cell = cell })

  pub unreached : (o : Option Reach) → o ≡ None → IsReach zs next h w o → (a : ℤ) → Reaches zs next h w a → ⊥
  unreached None e none = none
  unreached (Some q) e both = absurd (cc)

  -- a sum is live where walks from there cost at most the limit
  pub reach_live : (limit : ℤ) (r : Reach) → IsReach zs next h w (Some r) → r.rest ≤ℤ limit →
      IsReach zs (live limit next) h w (Some r)
  reach_live limit r (leads, cell) low = (leads, is_live limit next r.to r.rest cell low)

  pub reach_dead : is_rising zs ≡ true → (limit : ℤ) (r : Reach) → IsReach zs next h w (Some r) →
      (r.rest ≤ℤ limit → ⊥) → IsReach zs (live limit next) h w None
  reach_dead rising limit r (leads, cell) high a reach =
      let (whole, low) = reaches_live zs next limit h w a reach in
      let same : a ≡ r.rest =
      reaches_once zs rising next h w a r.rest whole (record { to = r.to; leads = leads; cell = cell }) in
      high (subst (λ b. b ≤ℤ limit) same low)

  pub reach_none : (limit : ℤ) (o : Option Reach) → o ≡ None → IsReach zs next h w o →
      IsReach zs (live limit next) h w None
  reach_none limit None e none = λ a reach. none a (reaches_live zs next limit h w a reach).0
  reach_none limit (Some r) e reach = absurd (cc)

  -- what is reached live stands in the whole layer
  pub whole_cell : (limit : ℤ) (r : Reach) → IsReach zs (live limit next) h w (Some r) →
      slice_get next r.to ≡ Some (Some r.rest)
  whole_cell limit r (leads, cell) = (live_is limit next r.to r.rest cell).0

-- ---- numbers that 128 bits hold

small_fits : (a : ℤ) → unsigned_abs a ≤ 2 ^ 124 → FitsSigned w128 a
small_fits (pos n) small = record { sfits = omega (arith, ints, small) }
small_fits (negsuc n) small = record { sfits = omega (arith, ints, small) }

pub sum_fits : (a b : ℤ) → unsigned_abs a ≤ 2 ^ 121 → unsigned_abs b ≤ 2 ^ 122 → FitsSigned w128 (a +ℤ b)
sum_fits a b first second = small_fits (a +ℤ b) (omega (arith, ints, first, second))

pub difference_fits : (a b : ℤ) → unsigned_abs a ≤ 2 ^ 122 → unsigned_abs b ≤ 2 ^ 122 → FitsSigned w128 (a -ℤ b)
difference_fits a b first second = small_fits (a -ℤ b) (omega (arith, ints, first, second))

-- ---- choices

module _ (zs : List Vector) (rising : is_rising zs ≡ true) (menu : Menu) (next : Layer) (w : ℕ) (c : ℤ) where
  -- none of the first n moves costs this much
  abbrev pub NoneOf : ℕ → Type 0
  NoneOf n = (i : ℕ) → i < n → Goes zs menu next w i c → ⊥

  pub choice_here : (n : ℕ) (m : PricedMove) (r : Reach) → slice_get menu n ≡ Some m → Leads zs m.place w r.to →
      slice_get next r.to ≡ Some (Some r.rest) →
      c ≡ (m.change +ℤ r.rest) → NoneOf n →
      IsChoice zs menu next w c (record { place = m.place; to = r.to; rest = r.rest })
  choice_here n m r there leads cell is none = record {
    i = n;
    first = record {
      goes = record {
        move = m;
        there = there;
        rest = r.rest;
        reach = record { to = r.to; leads = leads; cell = cell };
        is = is;
      };
      none_before = none;
    };
    place = refl;
    to = refl;
    rest = refl;
  }

  pub choice_later : (n : ℕ) (m : PricedMove) (o : Option Reach) → slice_get menu n ≡ Some m →
      IsReach zs next m.place w o →
      ((r : Reach) → o ≡ Some r → c ≡ (m.change +ℤ r.rest) → ⊥) → NoneOf n → NoneOf (n + 1)
  choice_later n m o there is other so_far i low goes = by (cases_lt i n)
    where
      here : i ≡ n → ⊥
      here same = at o is other reach
        where
          moves : goes.move ≡ m
          moves = same_value (slice_get menu n) goes.move m (ap (slice_get menu) (sym same) ∙ goes.there) there

          reach : Reaches zs next m.place w goes.rest
          reach = subst (λ (m : PricedMove). Reaches zs next m.place w goes.rest) moves goes.reach

          cost : c ≡ (m.change +ℤ goes.rest)
          cost = goes.is ∙ ap (λ (m : PricedMove). m.change +ℤ goes.rest) moves

          at : (o : Option Reach) → IsReach zs next m.place w o →
              ((r : Reach) → o ≡ Some r → c ≡ (m.change +ℤ r.rest) → ⊥) → Reaches zs next m.place w goes.rest → ⊥
          at None none other reach = none goes.rest reach
          at (Some r) (leads, cell) other reach =
              let same_rest : goes.rest ≡ r.rest =
              reaches_once zs rising next m.place w goes.rest r.rest reach
              (record { to = r.to; leads = leads; cell = cell }) in
              other r refl (cost ∙ ap (λ a. m.change +ℤ a) same_rest)

      by : (i < n) ⊎ (n ≤ i) → ⊥
      by (inl before) = so_far i before goes
      by (inr high) = here (omega (arith, low, high))
