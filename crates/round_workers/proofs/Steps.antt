-- What a worker does to its seat and its steps.
use Rattle.std.proofs.Common.{◌≡◌, ◌≢◌, ℕ, ◌-◌, ◌<◌, ◌≤◌, cond, eqb, List, [], ◌∷◌, ◌++◌, refl, ap, sym, ◌∙◌, subst}
use Rattle.std.proofs.Common.{arith, ⊎_elim, eq-eqb, ne_eqb}
use Rattle.std.specs.List.{All, Contains}
use Rattle.std.proofs.lemmas.List.Elements.{All-head, All-tail, All-push, All-weaker, Contains-append_left}
use Rattle.std.proofs.lemmas.List.Elements.{Contains-append_right, Contains-push}
use Rattle.round_core.proofs.Places.{same_or_else}
use Rattle.fold_theory.specs.Programs.{Bricks}
use Rattle.run_theory.specs.Outcomes.{Step}
use Rattle.run_theory.specs.Folds.{FoldValue}
use Rattle.run_theory.specs.Bests.{IsFound}
use Rattle.round_core.specs.declared.parts.Fate.{Fate}
use Rattle.round_core.specs.declared.parts.Fate.TheVariants.{Open, Offered, Beaten}
use Rattle.board_laws.specs.declared.views.Owned.{Owned}
use Rattle.board_laws.specs.declared.views.View.{View}
use Rattle.board_laws.specs.Views.{owned, HasFate, marked, taking_view, finished_view, seeing_view, settling_view}
use Rattle.board_laws.specs.Closing.{IsSettled}
use Rattle.board_laws.proofs.Fates.{All-marked}
use Rattle.round_workers.specs.Workers.{WorkerValue, HasSteps, Keeps, HasTried, ceiling}

-- the length that was claimed last is the seat's
pub claimed_has : (v : View) (k : ℕ) → HasFate k Open (taking_view v k).owned
claimed_has v k = Contains-push v.owned (owned k Open)

-- a step found is that of its length
pub found_length : (f : FoldValue) (x : Bricks) (k : ℕ) (s : Step) → IsFound f x k s → s.k ≡ k
found_length f x k s found = ap (λ (t : Step). t.k) found.2

offered_beaten : Beaten ≡ Offered → ⊥
offered_beaten e = cc

module _ (steps more : List Step) where
  -- steps are not lost
  pub HasSteps-append_left : (es : List Owned) → HasSteps steps es → HasSteps (steps ++ more) es
  HasSteps-append_left es has =
      All-weaker (λ e. e.fate ≡ Offered → (s : Step) × Contains steps s × (s.k ≡ e.k))
      (λ e. e.fate ≡ Offered → (s : Step) × Contains (steps ++ more) s × (s.k ≡ e.k))
      (λ e had is. let t = had is in (t.0, Contains-append_left steps more t.0 t.1, t.2)) es has

  pub HasSteps-append_right : (es : List Owned) → HasSteps more es → HasSteps (steps ++ more) es
  HasSteps-append_right es has =
      All-weaker (λ e. e.fate ≡ Offered → (s : Step) × Contains more s × (s.k ≡ e.k))
      (λ e. e.fate ≡ Offered → (s : Step) × Contains (steps ++ more) s × (s.k ≡ e.k))
      (λ e had is. let t = had is in (t.0, Contains-append_right steps more t.0 t.1, t.2)) es has

-- ---- one turn

-- the seat that looked and then settled its length has settled it
pub looked_settled : (v b r : View) (k : ℕ) (fate : Fate) → b ≡ seeing_view v b.seen → r ≡ settling_view b k fate r.seen
    → r ≡ settling_view v k fate r.seen
looked_settled v b r k fate looked is = is ∙ ap (λ (u : View). settling_view u k fate r.seen) looked

-- what holds of all lengths before, and of the one that was claimed and settled, holds of all after
settled_all : (P Q : Owned → Type 0) (v w : View) (k : ℕ) (fate : Fate)
    → w ≡ settling_view (taking_view v k) k fate w.seen → ((e : Owned) → P e → Q e) → Q (owned k fate) → All P v.owned
    → All Q w.owned
settled_all P Q v w k fate is keep here all =
    subst (All Q) (sym (ap (λ (u : View). u.owned) is))
    (All-marked (λ e. e.k ≢ k → Q e) Q k fate (v.owned ++ owned k Open ∷ []) here (λ e other q. q other)
    (All-push (λ e. e.k ≢ k → Q e) v.owned (owned k Open)
    (All-weaker P (λ e. e.k ≢ k → Q e) (λ e p _. keep e p) v.owned all) (λ other. absurd (other refl))))

module _ (f : FoldValue) (x : Bricks) (k : ℕ) (w c r : WorkerValue) (keeps : Keeps f x w)
    (claimed : c.held.view ≡ taking_view w.held.view k) (same : c.steps ≡ w.steps) (tried : HasTried f x k c r) where
  beaten_is : r.held.view ≡ settling_view c.held.view k Beaten r.held.view.seen
      → r.held.view ≡ settling_view (taking_view w.held.view k) k Beaten r.held.view.seen
  beaten_is is = is ∙ ap (λ (u : View). settling_view u k Beaten r.held.view.seen) claimed

  offered_is : r.held.view ≡ settling_view c.held.view k Offered r.held.view.seen
      → r.held.view ≡ settling_view (taking_view w.held.view k) k Offered r.held.view.seen
  offered_is is = is ∙ ap (λ (u : View). settling_view u k Offered r.held.view.seen) claimed

  abbrev Has : List Step → Owned → Type 0
  Has steps e = e.fate ≡ Offered → (s : Step) × Contains steps s × (s.k ≡ e.k)

  -- the worker keeps what it is to keep
  pub tried_keeps : Keeps f x r
  tried_keeps = ⊎_elim
      (λ (b : (r.held.view ≡ settling_view c.held.view k Beaten r.held.view.seen) × (r.steps ≡ c.steps)).
      let steps : r.steps ≡ w.steps = b.1 ∙ same in record {
        settled = settled_all IsSettled IsSettled w.held.view r.held.view k Beaten (beaten_is b.0) (λ e p. p) refl
            keeps.settled;
        kept = settled_all (Has w.steps) (Has r.steps) w.held.view r.held.view k Beaten (beaten_is b.0)
            (λ e p. subst (λ ss. Has ss e) (sym steps) p) (λ e. absurd (offered_beaten e)) keeps.kept;
        found = subst (All (λ s. IsFound f x s.k s)) (sym steps) keeps.found;
      })
      (λ (o : (s : Step) × IsFound f x k s × (r.held.view ≡ settling_view c.held.view k Offered r.held.view.seen)
      × (r.steps ≡ (c.steps ++ s ∷ []))).
      let steps : r.steps ≡ (w.steps ++ o.0 ∷ []) = o.3 ∙ ap (λ ss. ss ++ o.0 ∷ []) same in
      let is : o.0.k ≡ k = found_length f x k o.0 o.1 in record {
        settled = settled_all IsSettled IsSettled w.held.view r.held.view k Offered (offered_is o.2) (λ e p. p) refl
            keeps.settled;
        kept = subst (λ ss. HasSteps ss r.held.view.owned) (sym steps)
            (settled_all (Has w.steps) (Has (w.steps ++ o.0 ∷ [])) w.held.view r.held.view k Offered (offered_is o.2)
            (λ e p q. let t = p q in (t.0, Contains-append_left w.steps (o.0 ∷ []) t.0 t.1, t.2))
            (λ _. (o.0, Contains-push w.steps o.0, is)) keeps.kept);
        found = subst (All (λ s. IsFound f x s.k s)) (sym steps)
            (All-push (λ s. IsFound f x s.k s) w.steps o.0 keeps.found (subst (λ j. IsFound f x j o.0) (sym is) o.1));
      })
      tried.fate

  -- nothing else of its seat is another
  abbrev Same : {A : Type 0} → (View → A) → Type 0
  Same part = part r.held.view ≡ part w.held.view

  pub tried_same : {A : Type 0} (part : View → A)
      → ((v : View) (fate : Fate) (i : ℕ) → part (settling_view (taking_view v k) k fate i) ≡ part v) → Same part
  tried_same part stays = ⊎_elim
      (λ (b : (r.held.view ≡ settling_view c.held.view k Beaten r.held.view.seen) × (r.steps ≡ c.steps)).
      ap part (beaten_is b.0) ∙ stays w.held.view Beaten r.held.view.seen)
      (λ (o : (s : Step) × IsFound f x k s × (r.held.view ≡ settling_view c.held.view k Offered r.held.view.seen)
      × (r.steps ≡ (c.steps ++ s ∷ []))).
      ap part (offered_is o.2) ∙ stays w.held.view Offered r.held.view.seen)
      tried.fate

  tried_owned : (fate : Fate) × (r.held.view.owned ≡ marked k fate (w.held.view.owned ++ owned k Open ∷ []))
  tried_owned = ⊎_elim
      (λ (b : (r.held.view ≡ settling_view c.held.view k Beaten r.held.view.seen) × (r.steps ≡ c.steps)).
      (Beaten, ap (λ (u : View). u.owned) (beaten_is b.0)))
      (λ (o : (s : Step) × IsFound f x k s × (r.held.view ≡ settling_view c.held.view k Offered r.held.view.seen)
      × (r.steps ≡ (c.steps ++ s ∷ []))).
      (Offered, ap (λ (u : View). u.owned) (offered_is o.2)))
      tried.fate

  -- the greatest length that it owns rises
  pub tried_ceiling : k < ceiling r.held.view.owned
  tried_ceiling =
      subst (λ es. k < ceiling es) (sym tried_owned.1) (last tried_owned.0 w.held.view.owned) where
        mark_length : (fate : Fate) (e : Owned) → (cond (eqb e.k k) (owned k fate) e).k ≡ e.k
        mark_length fate e = ⊎_elim
            (λ is. ap (λ b. (cond b (owned k fate) e).k) (eq-eqb e.k k is) ∙ sym is)
            (λ n. ap (λ b. (cond b (owned k fate) e).k) (ne_eqb e.k k n))
            (same_or_else e.k k)

        last : (fate : Fate) (es : List Owned) → k < ceiling (marked k fate (es ++ owned k Open ∷ []))
        last fate [] = let m = mark_length fate (owned k Open) in omega (arith, m)
        last fate (e ∷ es) = let r = last fate es in omega (arith, r)

pub ceiling_below : (k : ℕ) (es : List Owned) → All (λ e. e.k < k) es → ceiling es ≤ k
ceiling_below k [] all = omega arith
ceiling_below k (e ∷ es) all =
    let a = All-head (λ (e : Owned). e.k < k) e es all in
    let r = ceiling_below k es (All-tail (λ (e : Owned). e.k < k) e es all) in omega (arith, a, r)

pub nearer : (top k a b : ℕ) → k < top → a ≤ k → k < b → top - b < top - a
nearer top k a b low le above = omega (arith, low, le, above)

-- a claim past the last length ends the work
pub finished_keeps : (f : FoldValue) (x : Bricks) (w r : WorkerValue) → Keeps f x w
    → r.held.view ≡ finished_view w.held.view → r.steps ≡ w.steps → Keeps f x r
finished_keeps f x w r keeps view steps = record {
  settled = subst (All IsSettled) (sym (ap (λ (v : View). v.owned) view)) keeps.settled;
  kept = subst (λ ss. HasSteps ss r.held.view.owned) (sym steps)
      (subst (HasSteps w.steps) (sym (ap (λ (v : View). v.owned) view)) keeps.kept);
  found = subst (All (λ s. IsFound f x s.k s)) (sym steps) keeps.found;
}
