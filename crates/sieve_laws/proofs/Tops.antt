-- Bounds on how much a sum costs above what a move reaches from there, and when a move is idle.
use Rattle.std.proofs.Common.{◌≡◌, ℕ, ◌+◌, ◌<◌, ◌≤◌, ℤ, true, ◌+ℤ◌, ◌-ℤ◌, ◌≤ℤ◌, List, length, refl, ap, arith, sym, ◌∙◌}
use Rattle.std.proofs.Common.{Option, Some, None, subst, ◌⊎◌, inl, inr}
use Rattle.std.proofs.lemmas.Int.{ints}
use Rattle.std.proofs.lemmas.Bool.{cases_lt, cases_order}
use Rattle.std.proofs.lemmas.List.{length-set}
use Rattle.std.proofs.Math.ListN.{set}
use Rattle.std.proofs.lemmas.Option.{slice_get_within}
use Rattle.std.specs.Prelude.{slice_get}
use Rattle.lattice_theory.specs.Vectors.{Vector, is_rising}
use Rattle.lattice_laws.proofs.Places.{same_value}
use Rattle.sieve_laws.specs.declared.PricedMove.{PricedMove}
use Rattle.sieve_laws.specs.Sieve.{Layer, Reaches, IsAtMost, IsIdle, IsTop, AreTops, live}
use Rattle.sieve_laws.proofs.Cells.{not_none, slice_get-set_same, slice_get-set_other}
use Rattle.sieve_laws.proofs.Live.{live_size, reaches_less}
use Rattle.sieve_laws.proofs.Lowering.{reaches_once}

module _ (zs : List Vector) (from next : Layer) where
  -- as IsTop, for the first n sums
  abbrev pub IsTopUpTo : ℕ → ℤ → ℕ → Type 0
  IsTopUpTo h top n = (w : ℕ) (a : ℤ) → w < n → Reaches zs from h w a → IsAtMost next w (top +ℤ a)

  pub top_none : (h : ℕ) (top : ℤ) → IsTopUpTo h top 0
  top_none h top w a low reach = absurd (omega (arith, low))

  last_or_before : (h : ℕ) (top : ℤ) (n : ℕ) → IsTopUpTo h top n →
      ((a : ℤ) → Reaches zs from h n a → IsAtMost next n (top +ℤ a)) →
      IsTopUpTo h top (n + 1)
  last_or_before h top n so_far last w a low reach = by (cases_lt w n)
    where
      by : (w < n) ⊎ (n ≤ w) → IsAtMost next w (top +ℤ a)
      by (inl before) = so_far w a before reach
      by (inr high) =
          let same : n ≡ w = omega (arith, low, high) in
          subst (λ u. Reaches zs from h u a → IsAtMost next u (top +ℤ a)) same (last a) reach

  -- a sum from which the move reaches nothing
  pub top_unreached : (h : ℕ) (top : ℤ) (n : ℕ) → ((a : ℤ) → Reaches zs from h n a → ⊥) → IsTopUpTo h top n →
      IsTopUpTo h top (n + 1)
  top_unreached h top n none so_far = last_or_before h top n so_far (λ a reach. absurd (none a reach))

  higher : (h : ℕ) (top more : ℤ) (n : ℕ) → top ≤ℤ more → IsTopUpTo h top n → IsTopUpTo h more n
  higher h top more n above so_far w a low reach =
      let cell = so_far w a low reach in
      (cell.0, cell.1, omega (arith, ints, above, cell.2))

  -- a sum that costs b, from which it reaches one that costs a
  pub top_more : (h : ℕ) (top more : ℤ) (n : ℕ) (a b : ℤ) → is_rising zs ≡ true → Reaches zs from h n a →
      slice_get next n ≡ Some (Some b) →
      top ≤ℤ more → (b -ℤ a) ≤ℤ more → IsTopUpTo h top n → IsTopUpTo h more (n + 1)
  top_more h top more n a b rising reach cell above fall so_far =
      last_or_before h more n (higher h top more n above so_far) last
    where
      last : (e : ℤ) → Reaches zs from h n e → IsAtMost next n (more +ℤ e)
      last e other =
          let same : e ≡ a = reaches_once zs rising from h n e a other reach in
          (b, cell, omega (arith, ints, fall, same))

  pub top_all : (h : ℕ) (top : ℤ) (n : ℕ) → length zs ≤ n → IsTopUpTo h top n → IsTop zs from next h top
  top_all h top n all so_far w a reach =
      so_far w a (omega (arith, all, slice_get_within zs w reach.leads.from reach.leads.start)) reach

  -- a move that costs no less than the bound is idle
  pub top_idle : (m : PricedMove) (top : ℤ) → IsTop zs from next m.place top → top ≤ℤ m.change → IsIdle zs from next m
  top_idle m top is_top enough w a reach =
      let cell = is_top w a reach in
      (cell.0, cell.1, omega (arith, ints, enough, cell.2))

  -- no bound is known yet
  pub tops_none : (tops : List (Option ℤ)) → length tops ≡ length zs →
      ((h : ℕ) (o : Option ℤ) → slice_get tops h ≡ Some o → o ≡ None) → AreTops zs from next tops
  tops_none tops size none = record {
    size = size;
    each = λ h top there. let e = none h (Some top) there in absurd (cc);
  }

  -- one more bound
  pub tops_more : (tops more : List (Option ℤ)) (h : ℕ) (found : Option ℤ) → h < length tops → more ≡ set tops h found →
      ((top : ℤ) → found ≡ Some top → IsTop zs from next h top) → AreTops zs from next tops → AreTops zs from next more
  tops_more tops more h found low is new are = record {
    size = ap length is ∙ length-set tops h found ∙ are.size;
    each = λ i top there. by i top (ap (λ xs. slice_get xs i) (sym is) ∙ there) (cases_order i h);
  }
    where
      by : (i : ℕ) (top : ℤ) → slice_get (set tops h found) i ≡ Some (Some top) → (i ≡ h) ⊎ ((i < h) ⊎ (h < i)) →
          IsTop zs from next i top
      by i top there (inl same) =
          let here : slice_get (set tops h found) h ≡ Some (Some top) =
          ap (slice_get (set tops h found)) (sym same) ∙ there in
          let set_here : slice_get (set tops h found) h ≡ Some found = slice_get-set_same tops h found low in
          subst (λ j. IsTop zs from next j top) (sym same)
          (new top (same_value (slice_get (set tops h found) h) found (Some top) set_here here))
      by i top there (inr (inl before)) =
          are.each i top (sym (slice_get-set_other tops h i found (λ e. omega (arith, before, e))) ∙ there)
      by i top there (inr (inr behind)) =
          are.each i top (sym (slice_get-set_other tops h i found (λ e. omega (arith, behind, e))) ∙ there)

-- bounds over the sources under a limit are bounds over those under a lesser one, which are fewer
pub tops_less : (zs : List Vector) (less limit : ℤ) (next : Layer) (tops : List (Option ℤ)) → less ≤ℤ limit →
    AreTops zs (live limit next) next tops → AreTops zs (live less next) next tops
tops_less zs less limit next tops below are = record {
  size = are.size;
  each = λ h top there w a reach. are.each h top there w a (reaches_less zs next less limit h w a below reach);
}

-- ---- bounds over a layer from those over the next one

module _ (next layer : Layer) where
  -- each cell that is there in both, among the first n, fell by at least so much
  abbrev pub FallsLeast : ℤ → ℕ → Type 0
  FallsLeast least n =
      (w : ℕ) (b a : ℤ) → w < n → slice_get next w ≡ Some (Some b) → slice_get layer w ≡ Some (Some a) →
      least ≤ℤ (b -ℤ a)

  -- each live cell among the first n fell from a live one of the next layer, by at most so much
  abbrev pub FallsMost : ℤ → ℤ → ℕ → Type 0
  FallsMost limit most n =
      (w : ℕ) (a : ℤ) → w < n → slice_get (live limit layer) w ≡ Some (Some a) →
      (b : ℤ) × (slice_get (live limit next) w ≡ Some (Some b)) × ((b -ℤ a) ≤ℤ most)

  pub least_none : (least : ℤ) → FallsLeast least 0
  least_none least w b a low before now = absurd (omega (arith, low))

  least_last : (least : ℤ) (n : ℕ) → FallsLeast least n →
      ((b a : ℤ) → slice_get next n ≡ Some (Some b) → slice_get layer n ≡ Some (Some a) → least ≤ℤ (b -ℤ a)) →
      FallsLeast least (n + 1)
  least_last least n so_far last w b a low before now = by (cases_lt w n)
    where
      by : (w < n) ⊎ (n ≤ w) → least ≤ℤ (b -ℤ a)
      by (inl first) = so_far w b a first before now
      by (inr high) =
          let same : w ≡ n = omega (arith, low, high) in
          last b a (ap (slice_get next) (sym same) ∙ before) (ap (slice_get layer) (sym same) ∙ now)

  -- a cell that was not there
  pub least_new : (least : ℤ) (n : ℕ) → slice_get next n ≡ Some None → FallsLeast least n → FallsLeast least (n + 1)
  least_new least n none so_far = least_last least n so_far (λ b a before now.
      not_none (Some b) b refl (same_value (slice_get next n) (Some b) None before none))

  -- one that is not there
  pub least_empty : (least : ℤ) (n : ℕ) → slice_get layer n ≡ Some None → FallsLeast least n →
      FallsLeast least (n + 1)
  least_empty least n none so_far = least_last least n so_far (λ b a before now.
      not_none (Some a) a refl (same_value (slice_get layer n) (Some a) None now none))

  -- one that fell from b to a
  pub least_more : (least less : ℤ) (n : ℕ) (b a : ℤ) → slice_get next n ≡ Some (Some b) →
      slice_get layer n ≡ Some (Some a) →
      less ≤ℤ least → less ≤ℤ (b -ℤ a) → FallsLeast least n → FallsLeast less (n + 1)
  least_more least less n b a here there down low so_far =
      least_last less n (λ w c e under before now. omega (arith, ints, down, so_far w c e under before now)) last
    where
      last : (c e : ℤ) → slice_get next n ≡ Some (Some c) → slice_get layer n ≡ Some (Some e) → less ≤ℤ (c -ℤ e)
      last c e before now =
          let first : b ≡ c = same_value (Some b) b c refl (same_value (slice_get next n) (Some b) (Some c) here
          before) in
          let second : a ≡ e = same_value (Some a) a e refl (same_value (slice_get layer n) (Some a) (Some e) there
          now) in
          omega (arith, ints, low, first, second)

  pub most_none : (limit most : ℤ) → FallsMost limit most 0
  most_none limit most w a low there = absurd (omega (arith, low))

  most_last : (limit most : ℤ) (n : ℕ) → FallsMost limit most n →
      ((a : ℤ) → slice_get (live limit layer) n ≡ Some (Some a) →
      (b : ℤ) × (slice_get (live limit next) n ≡ Some (Some b)) × ((b -ℤ a) ≤ℤ most)) →
      FallsMost limit most (n + 1)
  most_last limit most n so_far last w a low there = by (cases_lt w n)
    where
      by : (w < n) ⊎ (n ≤ w) → (b : ℤ) × (slice_get (live limit next) w ≡ Some (Some b)) × ((b -ℤ a) ≤ℤ most)
      by (inl first) = so_far w a first there
      by (inr high) =
          let same : w ≡ n = omega (arith, low, high) in
          let (b, before, most_here) = last a (ap (slice_get (live limit layer)) (sym same) ∙ there) in
          (b, ap (slice_get (live limit next)) same ∙ before, most_here)

  -- a cell that is not live
  pub most_dead : (limit most : ℤ) (n : ℕ) → slice_get (live limit layer) n ≡ Some None → FallsMost limit most n →
      FallsMost limit most (n + 1)
  most_dead limit most n none so_far = most_last limit most n so_far (λ a there.
      not_none (Some a) a refl (same_value (slice_get (live limit layer) n) (Some a) None there none))

  -- a live one that fell from b to a
  pub most_more : (limit most more : ℤ) (n : ℕ) (b a : ℤ) → slice_get (live limit next) n ≡ Some (Some b) →
      slice_get (live limit layer) n ≡ Some (Some a) →
      most ≤ℤ more → (b -ℤ a) ≤ℤ more → FallsMost limit most n → FallsMost limit more (n + 1)
  most_more limit most more n b a before here up high so_far = most_last limit more n above last
    where
      above : FallsMost limit more n
      above w e low there =
          let (c, was, most_here) = so_far w e low there in
          (c, was, omega (arith, ints, up, most_here))

      last : (e : ℤ) → slice_get (live limit layer) n ≡ Some (Some e) →
          (c : ℤ) × (slice_get (live limit next) n ≡ Some (Some c)) × ((c -ℤ e) ≤ℤ more)
      last e there =
          let same : a ≡ e =
          same_value (Some a) a e refl (same_value (slice_get (live limit layer) n) (Some a) (Some e) here there) in
          (b, before, omega (arith, ints, high, same))

  -- where no cell rose or went, a bound over the next layer and the spread of the falls are a bound over the layer
  pub top_wider : (zs : List Vector) (limit : ℤ) (h : ℕ) (top least most : ℤ) → FallsLeast least (length layer) →
      FallsMost limit most (length layer) →
      ((w : ℕ) (b : ℤ) → slice_get next w ≡ Some (Some b) → IsAtMost layer w b) →
      IsTop zs (live limit next) next h top →
      IsTop zs (live limit layer) layer h (top +ℤ (most -ℤ least))
  top_wider zs limit h top least most down up kept is_top w a reach =
      let inside = slice_get_within (live limit layer) reach.to (Some a) reach.cell in
      let (p, before, most_there) = up reach.to a (omega (arith, inside, live_size limit layer)) reach.cell in
      let (b, under, low) = is_top w p (record { to = reach.to; leads = reach.leads; cell = before }) in
      let (q, now, _) = kept w b under in
      let least_here = down w b q (slice_get_within layer w (Some q) now) under now in
      (q, now, omega (arith, ints, most_there, low, least_here))
