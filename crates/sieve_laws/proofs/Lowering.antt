-- A layer is lowered by one move of the menu after the other; a move that is idle is left out.
use Rattle.std.proofs.Common.{◌≡◌, ◌≢◌, ℕ, ◌+◌, ◌<◌, ◌≤◌, ℤ, ◌+ℤ◌, ◌≤ℤ◌, Bool, true, false, cond, int_lt, List, length}
use Rattle.std.proofs.Common.{refl, ap, arith, sym, ◌∙◌, Option, Some, None, subst, ◌⊎◌, inl, inr}
use Rattle.std.proofs.lemmas.Int.{ints}
use Rattle.std.proofs.lemmas.Bool.{cases_lt, cases_order}
use Rattle.std.proofs.lemmas.List.{length-set}
use Rattle.std.proofs.lemmas.Option.{slice_get_within}
use Rattle.std.proofs.Math.ListN.{set}
use Rattle.std.specs.Prelude.{slice_get}
use Rattle.lattice_theory.specs.Vectors.{Vector, add, is_rising}
use Rattle.lattice_laws.proofs.Rising.{lex_less_irrefl, rising_places}
use Rattle.lattice_laws.proofs.Places.{same_value, there_at}
use Rattle.sieve_laws.proofs.Cells.{slice_get-set_same, slice_get-set_other}
use Rattle.sieve_laws.specs.declared.PricedMove.{PricedMove}
use Rattle.sieve_laws.specs.Sieve.{Layer, Menu, Leads, Reaches, IsOffer, lesser, IsLoweredBy, IsAtMost, IsIdle, Goes}
use Rattle.sieve_laws.specs.Sieve.{MayStay, IsLayerOver, live}
use Rattle.sieve_laws.proofs.Live.{goes_live}

-- ---- the lesser of two costs

lesser_none : (kept : Option ℤ) → lesser kept None ≡ kept
lesser_none None = refl
lesser_none (Some a) = refl

pub lesser_kept : (c : ℤ) (offer : Option ℤ) → (a : ℤ) × (lesser (Some c) offer ≡ Some a) × (a ≤ℤ c)
lesser_kept c None = (c, refl, omega (arith, ints))
lesser_kept c (Some b) = by (int_lt b c) refl
  where
    by : (t : Bool) → int_lt b c ≡ t → (a : ℤ) × (Some (cond t b c) ≡ Some a) × (a ≤ℤ c)
    by true e = (b, refl, grind (arith, ints))
    by false e = (c, refl, omega (arith, ints))

pub lesser_offer : (kept : Option ℤ) (c : ℤ) → (a : ℤ) × (lesser kept (Some c) ≡ Some a) × (a ≤ℤ c)
lesser_offer None c = (c, refl, omega (arith, ints))
lesser_offer (Some b) c = by (int_lt c b) refl
  where
    by : (t : Bool) → int_lt c b ≡ t → (a : ℤ) × (Some (cond t c b) ≡ Some a) × (a ≤ℤ c)
    by true e = (c, refl, omega (arith, ints))
    by false e = (b, refl, grind (arith, ints))

lesser_from : (kept offer : Option ℤ) (c : ℤ) → lesser kept offer ≡ Some c → (kept ≡ Some c) ⊎ (offer ≡ Some c)
lesser_from None offer c e = inr e
lesser_from (Some b) None c e = inl e
lesser_from (Some b) (Some a) c e = by (int_lt a b) e
  where
    by : (t : Bool) → Some (cond t a b) ≡ Some c → (Some b ≡ Some c) ⊎ (Some a ≡ Some c)
    by true e = inr e
    by false e = inl e

-- ---- one move, sum by sum

module _ (zs : List Vector) (next : Layer) (m : PricedMove) (before : Layer) where
  -- as IsLoweredBy, for the first n sums; the other cells are as before
  pub record IsLoweredUpTo (layer : Layer) (n : ℕ) : Type 0 where
    pub size : length layer ≡ length before
    pub done : (w : ℕ) (kept : Option ℤ) → w < n → slice_get before w ≡ Some kept →
        (offer : Option ℤ) × IsOffer zs next m w offer × (slice_get layer w ≡ Some (lesser kept offer))
    pub rest : (w : ℕ) → n ≤ w → slice_get layer w ≡ slice_get before w

  pub sums_none : IsLoweredUpTo before 0
  sums_none = record { size = refl; done = λ w kept low. absurd (omega (arith, low)); rest = λ w high. refl }

  one_more : (layer more : Layer) (n : ℕ) (kept offer : Option ℤ) → slice_get layer n ≡ Some kept →
      IsOffer zs next m n offer →
      length more ≡ length layer → slice_get more n ≡ Some (lesser kept offer) →
      ((w : ℕ) → w ≢ n → slice_get more w ≡ slice_get layer w) →
      IsLoweredUpTo layer n → IsLoweredUpTo more (n + 1)
  one_more layer more n kept offer here is size now others so_far = record {
    size = size ∙ so_far.size;
    done = λ w old low there. by w old low there (cases_order w n);
    rest = λ w high. others w (λ same. omega (arith, high, same)) ∙ so_far.rest w (omega (arith, high));
  }
    where
      by : (w : ℕ) (old : Option ℤ) → w < n + 1 → slice_get before w ≡ Some old → (w ≡ n) ⊎ ((w < n) ⊎ (n < w)) →
          (offer : Option ℤ) × IsOffer zs next m w offer × (slice_get more w ≡ Some (lesser old offer))
      by w old low there (inl same) =
          let olds : kept ≡ old =
          same_value (slice_get before n) kept old (sym (so_far.rest n (omega arith)) ∙ here)
          (ap (slice_get before) (sym same) ∙ there) in (
            offer,
            subst (λ u. IsOffer zs next m u offer) (sym same) is,
            ap (slice_get more) same ∙ now ∙ ap (λ o. Some (lesser o offer)) olds,
          )
      by w old low there (inr (inl under)) =
          let old_offer = so_far.done w old under there in
          (old_offer.0, old_offer.1, others w (λ same. omega (arith, under, same)) ∙ old_offer.2)
      by w old low there (inr (inr over)) = absurd (omega (arith, low, over))

  -- the cell of one more sum is the lesser of what it was and what the move offers
  pub sums_more : (layer more : Layer) (n : ℕ) (kept offer : Option ℤ) → slice_get layer n ≡ Some kept →
      IsOffer zs next m n offer →
      more ≡ set layer n (lesser kept offer) → IsLoweredUpTo layer n → IsLoweredUpTo more (n + 1)
  sums_more layer more n kept offer here is new =
      let low = slice_get_within layer n kept here in
      one_more layer more n kept offer here is (ap length new ∙ length-set layer n (lesser kept offer))
      (ap (λ l. slice_get l n) new ∙ slice_get-set_same layer n (lesser kept offer) low)
      (λ w other. ap (λ l. slice_get l w) new ∙ slice_get-set_other layer n w (lesser kept offer) other)

  -- from one more sum the move reaches nothing
  pub sums_unreached : (layer : Layer) (n : ℕ) (kept : Option ℤ) → slice_get layer n ≡ Some kept →
      IsOffer zs next m n None →
      IsLoweredUpTo layer n → IsLoweredUpTo layer (n + 1)
  sums_unreached layer n kept here is =
      one_more layer layer n kept None here is refl (here ∙ ap Some (sym (lesser_none kept))) (λ w other. refl)

  pub sums_all : (layer : Layer) (n : ℕ) → length before ≤ n → IsLoweredUpTo layer n →
      IsLoweredBy zs next m before layer
  sums_all layer n all so_far = record {
    size = so_far.size;
    cells = λ w kept there. so_far.done w kept (omega (arith, all, slice_get_within before w kept there)) there;
  }

-- ---- one move after the other

-- the layer after the first n moves of the menu, where each that is left out is idle
pub record IsLowered (zs : List Vector) (menu : Menu) (limit : ℤ) (next : Layer) (n : ℕ) (layer : Layer) : Type 0 where
  pub size : length layer ≡ length zs
  pub attained : (w : ℕ) (c : ℤ) → slice_get layer w ≡ Some (Some c) → (i : ℕ) × Goes zs menu next w i c
  pub least : (w i : ℕ) (c : ℤ) → i < n → Goes zs menu (live limit next) w i c → IsAtMost layer w c
  pub below : (w : ℕ) (c : ℤ) → slice_get next w ≡ Some (Some c) → IsAtMost layer w c

-- ---- where a move leads

module _ (zs : List Vector) (rising : is_rising zs ≡ true) where
  -- a vector stands at one place
  pub one_place : (i j : ℕ) (u : Vector) → slice_get zs i ≡ Some u → slice_get zs j ≡ Some u → i ≡ j
  one_place i j u here there = by (cases_order i j)
    where
      by : (i ≡ j) ⊎ ((i < j) ⊎ (j < i)) → i ≡ j
      by (inl same) = same
      by (inr (inl before)) = absurd (lex_less_irrefl u (rising_places zs i j u u rising before here there))
      by (inr (inr behind)) = absurd (lex_less_irrefl u (rising_places zs j i u u rising behind there here))

  -- a move leads to one place
  pub leads_once : (h w i j : ℕ) → Leads zs h w i → Leads zs h w j → i ≡ j
  leads_once h w i j one two =
      let starts : one.from ≡ two.from = same_value (slice_get zs w) one.from two.from one.start two.start in
      let moves : one.by ≡ two.by = same_value (slice_get zs h) one.by two.by one.move two.move in
      let ends : add one.from one.by ≡ add two.from two.by = λ k. add (starts k) (moves k) in
      one_place i j (add two.from two.by) (one.end ∙ ap Some ends) two.end

  -- and so reaches one cost
  pub reaches_once : (next : Layer) (h w : ℕ) (a b : ℤ) → Reaches zs next h w a → Reaches zs next h w b → a ≡ b
  reaches_once next h w a b one two =
      let same : one.to ≡ two.to = leads_once h w one.to two.to one.leads two.leads in
      let cells : slice_get next two.to ≡ Some (Some a) = ap (slice_get next) (sym same) ∙ one.cell in
      same_value (Some a) a b refl (same_value (slice_get next two.to) (Some a) (Some b) cells two.cell)

  pub lowered_none : (menu : Menu) (limit : ℤ) (next : Layer) → length next ≡ length zs → MayStay zs menu next →
      IsLowered zs menu limit next 0 next
  lowered_none menu limit next size stay = record {
    size = size;
    attained = stay;
    least = λ w i c low goes. absurd (omega (arith, low));
    below = λ w c cell. (c, cell, omega (arith, ints));
  }

  goes_by : (menu : Menu) (next : Layer) (w i n : ℕ) (c : ℤ) (m : PricedMove) → slice_get menu n ≡ Some m → i ≡ n →
      Goes zs menu next w i c →
      (a : ℤ) × Reaches zs next m.place w a × (c ≡ (m.change +ℤ a))
  goes_by menu next w i n c m there same goes =
      let moves : goes.move ≡ m = same_value (slice_get menu n) goes.move m (ap (slice_get menu) (sym same)
      ∙ goes.there) there in (
        goes.rest,
        subst (λ (m : PricedMove). Reaches zs next m.place w goes.rest) moves goes.reach,
        goes.is ∙ ap (λ (m : PricedMove). m.change +ℤ goes.rest) moves,
      )

  -- a move that is idle is left out
  pub lowered_idle : (menu : Menu) (limit : ℤ) (next layer : Layer) (n : ℕ) (m : PricedMove) →
      slice_get menu n ≡ Some m → IsIdle zs (live limit next) next m →
      IsLowered zs menu limit next n layer → IsLowered zs menu limit next (n + 1) layer
  lowered_idle menu limit next layer n m there idle so_far = record {
    size = so_far.size;
    attained = so_far.attained;
    least = λ w i c low goes. by w i c goes (cases_lt i n) low;
    below = so_far.below;
  }
    where
      by : (w i : ℕ) (c : ℤ) → Goes zs menu (live limit next) w i c → (i < n) ⊎ (n ≤ i) → i < n + 1 → IsAtMost layer w c
      by w i c goes (inl before) low = so_far.least w i c before goes
      by w i c goes (inr high) low =
          let offer = goes_by menu (live limit next) w i n c m there (omega (arith, low, high)) goes in
          let kept = idle w offer.0 offer.1 in
          let cell = so_far.below w kept.0 kept.1 in
          (cell.0, cell.1, omega (arith, ints, cell.2, kept.2, offer.2))

  -- a move that is not left out lowers each cell to what it offers there
  pub lowered_more : (menu : Menu) (limit : ℤ) (next layer lower : Layer) (n : ℕ) (m : PricedMove) →
      slice_get menu n ≡ Some m → IsLoweredBy zs (live limit next) m layer lower →
      IsLowered zs menu limit next n layer → IsLowered zs menu limit next (n + 1) lower
  lowered_more menu limit next layer lower n m there by_move so_far = record {
    size = by_move.size ∙ so_far.size;
    attained = attained;
    least = λ w i c low goes. by w i c goes (cases_lt i n) low;
    below = λ w c cell. from_kept w c (so_far.below w c cell);
  }
    where
      from_kept : (w : ℕ) (c : ℤ) → IsAtMost layer w c → IsAtMost lower w c
      from_kept w c (a, cell, low) =
          let new = by_move.cells w (Some a) cell in
          let less = lesser_kept a new.0 in
          (less.0, new.2 ∙ ap Some less.1, omega (arith, ints, low, less.2))

      by : (w i : ℕ) (c : ℤ) → Goes zs menu (live limit next) w i c → (i < n) ⊎ (n ≤ i) → i < n + 1 → IsAtMost lower w c
      by w i c goes (inl before) low = from_kept w c (so_far.least w i c before goes)
      by w i c goes (inr high) low = told new.0 new.1 new.2
        where
          offer : (a : ℤ) × Reaches zs (live limit next) m.place w a × (c ≡ (m.change +ℤ a))
          offer = goes_by menu (live limit next) w i n c m there (omega (arith, low, high)) goes

          kept : (o : Option ℤ) × (slice_get layer w ≡ Some o)
          kept = there_at layer w
              (omega (arith, so_far.size, slice_get_within zs w offer.1.leads.from offer.1.leads.start))

          new : (o : Option ℤ) × IsOffer zs (live limit next) m w o × (slice_get lower w ≡ Some (lesser kept.0 o))
          new = by_move.cells w kept.0 kept.1

          told : (o : Option ℤ) → IsOffer zs (live limit next) m w o → slice_get lower w ≡ Some (lesser kept.0 o) →
              IsAtMost lower w c
          told None none e = absurd (none offer.0 offer.1)
          told (Some d) (b, other, costs) e =
              let same : offer.0 ≡ b = reaches_once (live limit next) m.place w offer.0 b offer.1 other in
              let less = lesser_offer kept.0 d in
              (less.0, e ∙ ap Some less.1, omega (arith, ints, less.2, offer.2, costs, same))

      attained : (w : ℕ) (c : ℤ) → slice_get lower w ≡ Some (Some c) → (i : ℕ) × Goes zs menu next w i c
      attained w c cell = told kept.0 kept.1 (by_move.cells w (kept.0) (kept.1))
        where
          kept : (o : Option ℤ) × (slice_get layer w ≡ Some o)
          kept = there_at layer w (omega (arith, by_move.size, slice_get_within lower w (Some c) cell))

          offered : (offer : Option ℤ) → IsOffer zs (live limit next) m w offer → offer ≡ Some c →
              (i : ℕ) × Goes zs menu next w i c
          offered None none e = absurd (cc)
          offered (Some d) (a, reach, costs) e =
              let same : d ≡ c = same_value (Some d) d c refl e in (
                n,
                goes_live zs next limit menu w n c
                    (record { move = m; there = there; rest = a; reach = reach; is = sym same ∙ costs }),
              )

          from : (o offer : Option ℤ) → slice_get layer w ≡ Some o → IsOffer zs (live limit next) m w offer →
              (o ≡ Some c) ⊎ (offer ≡ Some c) → (i : ℕ) × Goes zs menu next w i c
          from o offer here is (inl e) = so_far.attained w c (here ∙ ap Some e)
          from o offer here is (inr e) = offered offer is e

          told : (o : Option ℤ) → slice_get layer w ≡ Some o →
              (offer : Option ℤ) × IsOffer zs (live limit next) m w offer
              × (slice_get lower w ≡ Some (lesser o offer)) →
              (i : ℕ) × Goes zs menu next w i c
          told o here (offer, is, e) =
              from o offer here is (lesser_from o offer c
              (same_value (slice_get lower w) (lesser o offer) (Some c) e cell))

  -- after the whole menu the layer is that over the next one
  pub lowered_all : (menu : Menu) (limit : ℤ) (next layer : Layer) → IsLowered zs menu limit next (length menu) layer →
      IsLayerOver zs menu (live limit next) next layer
  lowered_all menu limit next layer all = record {
    size = all.size;
    attained = all.attained;
    least = λ w i c goes. all.least w i c (slice_get_within menu i goes.move goes.there) goes;
    kept = all.below;
  }
