-- One seat stepped: what the board shows after it, and what the other seats know.
use Rattle.std.proofs.Common.{◌≡◌, ◌≢◌, ℕ, ◌<◌, ◌⊎◌, Bool, true, ◌&&◌, List, length, set, Option, Some, IsTrue, sum_by}
use Rattle.std.proofs.Common.{ap, sym, ◌∙◌, subst, arith, ⊎_elim, length-set}
use Rattle.std.proofs.lemmas.List.{length-map}
use Rattle.std.proofs.lemmas.List.Elements.{All-weaker}
use Rattle.std.proofs.lemmas.Option.{same_Some}
use mathlib.Core.Option.{some}
use lib.ListN.{get_elem?}
use Rattle.atomic_table.proofs.Lists.{at_set}
use Rattle.round_core.specs.declared.parts.Length.{Length}
use Rattle.round_core.specs.declared.parts.Worker.{Worker}
use Rattle.round_core.specs.Rounds.{Round, length_at, owner_at, worker_at, gains_of}
use Rattle.round_core.specs.Steps.{with_length}
use Rattle.round_core.proofs.Places.{same_or_else, length_here, length_else}
use Rattle.board_laws.specs.declared.views.View.{View}
use Rattle.board_laws.specs.Views.{made_in, seats_in}
use Rattle.board_laws.specs.Boards.{claims, best, high, low, IsSeat, Owns, Knows, Shows}
use Rattle.board_laws.proofs.Seats.{place_within, sum-set}

-- several tests hold
pub both : (a b : Bool) → a ≡ true → b ≡ true → IsTrue (a && b)
both a b p q = λ t. p t && q t

pub all_three : (a b c : Bool) → a ≡ true → b ≡ true → c ≡ true → IsTrue (a && b && c)
all_three a b c p q s = λ t. p t && q t && s t

pub all_four : (a b c d : Bool) → a ≡ true → b ≡ true → c ≡ true → d ≡ true → IsTrue (a && b && c && d)
all_four a b c d p q s u = λ t. p t && q t && s t && u t

-- what holds of the new length and held of the others holds of all
pub each_length : (P : ℕ → Length → Type 0) (r : Round) (k : ℕ) (l : Length) → k < length r.lengths → P k l
    → ((j : ℕ) → j ≢ k → P j (length_at r j)) → (j : ℕ) → P j (length_at (with_length r k l) j)
each_length P r k l room here else j = ⊎_elim
    (λ e. subst (λ i. P i (length_at (with_length r k l) i)) (sym e) (subst (P k) (sym (length_here r k l room)) here))
    (λ n. subst (P j) (sym (length_else r k j l n)) (else j n))
    (same_or_else j k)

-- the round has as many lengths as there are gains
pub lengths_are : (gains : List (Option ℕ)) (r : Round) → gains_of r ≡ gains → length r.lengths ≡ length gains
lengths_are gains r same = sym (length-map r.lengths (λ (l : Length). l.gain)) ∙ ap length same

-- a length that the worker owns now, and that no other one owned before
abbrev pub Touched : Round → Round → ℕ → ℕ → Type 0
Touched r r' id k = (owner_at r' k ≡ Some id) × ((j : ℕ) → owner_at r k ≡ Some j → j ≡ id)

-- the length is what it was, or the worker's
abbrev pub Left : Round → Round → ℕ → ℕ → Type 0
Left r r' id k = (length_at r' k ≡ length_at r k) ⊎ Touched r r' id k

-- another worker knows what it knew
pub knows_else : (r r' : Round) (id : ℕ) → ((k : ℕ) → Left r r' id k) → (j : ℕ) → j ≢ id
    → worker_at r' j ≡ worker_at r j → (u : View) → Knows r j u → Knows r' j u
knows_else r r' id lengths j other worker u know = record {
  stands = know.stands ∙ sym (ap (λ (s : Worker). s.stand) worker);
  sees = λ live. know.sees live ∙ sym (ap (λ (s : Worker). s.seen) worker);
  owns = All-weaker (Owns r j) (Owns r' j) (λ e o. ⊎_elim
      (λ (same : length_at r' e.k ≡ length_at r e.k).
      (ap (λ (l : Length). l.owner) same ∙ o.0, ap (λ (l : Length). l.fate) same ∙ o.1))
      (λ (t : Touched r r' id e.k). absurd (other (t.1 j o.0)))
      (lengths e.k)) u.owned know.owns;
  owns_all = λ k o. ⊎_elim
      (λ (same : length_at r' k ≡ length_at r k). know.owns_all k (sym (ap (λ (l : Length). l.owner) same) ∙ o))
      (λ (t : Touched r r' id k). absurd (other (sym (same_Some id j (sym t.0 ∙ o)))))
      (lengths k);
  numbered = know.numbered;
  first_made = know.first_made;
  few_made = know.few_made;
  spent = know.spent;
}

module _ (gains : List (Option ℕ)) (words : List ℕ) (views : List View) (r : Round) (h : Shows gains words views r)
    (id : ℕ) (v : View) (at : IsSeat views id v) where
  -- the seat that steps is that of a worker
  pub seat_room : IsSeat views id v → id < length views
  seat_room is = place_within views id v is

  -- what each seat knows after one has another view
  pub each_knows : (r' : Round) (w : View) → Knows r' id w
      → ((i : ℕ) (u : View) → i ≢ id → IsSeat views i u → Knows r' i u)
      → (i : ℕ) (u : View) → IsSeat (set views id w) i u → Knows r' i u
  each_knows r' w mine else i u is = ⊎_elim
      (λ (x : (i ≡ id) × (w ≡ u)). subst (λ (y : ℕ × View). Knows r' y.0 y.1) (λ t. (sym x.0 t, x.1 t)) mine)
      (λ (x : (i ≢ id) × (get_elem? views i ≡ some u)). else i u x.0 x.1)
      (at_set views id i w u is)

  -- the seat knows w, the other workers are what they were, and so are all lengths but the seat's
  pub step_shows : (words' : List ℕ) (r' : Round) (w : View)
      → ((j : ℕ) → j ≢ id → worker_at r' j ≡ worker_at r j) → ((k : ℕ) → Left r r' id k) → Knows r' id w
      → w.made ≡ v.made → seats_in w ≡ seats_in v → length words' ≡ length words
      → gains_of r' ≡ gains_of r → length r'.workers ≡ length r.workers
      → r'.claims ≡ claims words' → r'.best ≡ best words'
      → ((k : ℕ) → k < length gains → ((length_at r' k).high ≡ high words' k) × ((length_at r' k).low ≡ low words' k))
      → Shows gains words' (set views id w) r'
  step_shows words' r' w workers lengths mine made seats long same_gains same_count claimed named halves =
      let s = sum-set made_in views id v w at in
      let t = sum-set seats_in views id v w at in
      let a = h.counted in
      let n = h.numbers in
      let sum_is : sum_by made_in (set views id w) ≡ sum_by made_in views = omega (arith, s, made) in
      let count = length-set views id w in
      let room = seat_room at in record {
        words_are = long ∙ h.words_are;
        few = h.few;
        gains_are = same_gains ∙ h.gains_are;
        workers_are = same_count ∙ h.workers_are;
        claims_are = claimed;
        best_is = named;
        halves = halves;
        seats = each_knows r' w mine (λ i u other is. knows_else r r' id lengths i other (workers i other) u
            (h.seats i u is));
        absent = λ i past. ap (λ (s : Worker). s.stand) (workers i (λ e. absurd (omega (arith, e, past, count, room))))
            ∙ h.absent i (omega (arith, past, count));
        counted = omega (arith, sum_is, a, t, seats);
        numbers = omega (arith, count, n, sum_is);
      }
