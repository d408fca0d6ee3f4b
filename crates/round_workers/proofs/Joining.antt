-- The workers after their work, of whom the last is the opening one.
use Rattle.std.proofs.Common.{◌≡◌, ◌≢◌, ℕ, zero, suc, ◌+◌, ◌<◌, List, [], ◌∷◌, ◌++◌, length, map, slice_index_or, Ok}
use Rattle.std.proofs.Common.{Result, IfOk, IfSome, IfNone, Option, Some, None, refl, ap, sym, ◌∙◌, subst, arith, inl}
use Rattle.std.proofs.Common.{false, true≢false}
use Rattle.std.specs.List.{All, Contains}
use Rattle.std.proofs.lemmas.List.{length-map, length-append}
use Rattle.std.proofs.lemmas.List.Elements.{All-nil, All-cons, All-head, All-tail, All-append, All-push, All-pop}
use Rattle.std.proofs.lemmas.List.Elements.{All-contains}
use Rattle.atomic_table.specs.Seated.{TableId}
use Rattle.fold_theory.specs.Programs.{Bricks}
use Rattle.run_theory.specs.Outcomes.{Step}
use Rattle.run_theory.specs.Folds.{FoldValue}
use Rattle.run_theory.specs.Bests.{IsFound, IsBestByGains, IsRuleStep}
use Rattle.rule_laws.proofs.Gains.{best_gain}
use Rattle.round_core.specs.declared.parts.Fate.TheVariants.{Offered}
use Rattle.round_core.specs.declared.parts.Stand.TheVariants.{Finished}
use Rattle.round_core.specs.Steps.{joined_stand}
use Rattle.board_laws.specs.declared.views.Owned.{Owned}
use Rattle.board_laws.specs.declared.views.View.{View}
use Rattle.board_laws.specs.Views.{owned, HasFate, opening_view, splitting_view, fresh_view, joined_view}
use Rattle.board_laws.specs.Closing.{IsSettled, MayClose}
use Rattle.incumbent.specs.Seats.{Held}
use Rattle.round_workers.specs.Tasks.{HasGains}
use Rattle.round_workers.specs.Workers.{WorkerValue, HasSteps, Keeps, KnowsBest, IsReady, IsDone, IsSplitOff, IsOpening}
use Rattle.round_workers.specs.Workers.{IsSplitting, IsTeam, IsTaking}
use Rattle.round_workers.proofs.Steps.{HasSteps-append_left, HasSteps-append_right}

-- a length that was offered has its step among these
abbrev Has : List Step → Owned → Type 0
Has steps e = e.fate ≡ Offered → (s : Step) × Contains steps s × (s.k ≡ e.k)

module _ (f : FoldValue) (x : Bricks) where
  -- the second list is what the work of the first leaves
  abbrev Left : List WorkerValue → List WorkerValue → Type 0
  Left [] [] = Unit {0}
  Left [] (r ∷ rs) = ⊥
  Left (w ∷ ws) [] = ⊥
  Left (w ∷ ws) (r ∷ rs) = IsDone f x w r × Left ws rs

  left_by : (ws rs : List WorkerValue) → length rs ≡ length ws
      → ((i : ℕ) (d : WorkerValue) → i < length ws → IsDone f x (slice_index_or ws i d) (slice_index_or rs i d))
      → Left ws rs
  left_by [] [] same each = tt
  left_by [] (r ∷ rs) same each = absurd (omega (arith, same))
  left_by (w ∷ ws) [] same each = absurd (omega (arith, same))
  left_by (w ∷ ws) (r ∷ rs) same each =
      (each 0 w (omega arith), left_by ws rs (omega (arith, same)) (λ i d lt. each (suc i) d (omega (arith, lt))))

  left_last : (ws rs : List WorkerValue) (w r : WorkerValue) → Left (ws ++ w ∷ []) (rs ++ r ∷ [])
      → Left ws rs × IsDone f x w r
  left_last [] [] w r h = (tt, h.0)
  left_last [] (b ∷ []) w r h = absurd h.1
  left_last [] (b ∷ c ∷ rs) w r h = absurd h.1
  left_last (a ∷ []) [] w r h = absurd h.1
  left_last (a ∷ c ∷ ws) [] w r h = absurd h.1
  left_last (a ∷ ws) (b ∷ rs) w r h = let t = left_last ws rs w r h.1 in ((h.0, t.0), t.1)

  left_split : (table : TableId) (ws rs : List WorkerValue) → Left ws rs → All (IsSplitOff f x table) ws
      → All (IsSplitOff f x table) rs
  left_split table [] [] h all = All-nil (IsSplitOff f x table)
  left_split table [] (r ∷ rs) h all = absurd h
  left_split table (w ∷ ws) [] h all = absurd h
  left_split table (w ∷ ws) (r ∷ rs) h all =
      let d = h.0 in
      let s = All-head (IsSplitOff f x table) w ws all in
      All-cons (IsSplitOff f x table) r rs
      (record {
        of = d.of ∙ s.of;
        keeps = d.keeps;
        number = λ z. s.number (sym d.number ∙ z);
        joined = d.joined ∙ s.joined;
      })
      (left_split table ws rs h.1 (All-tail (IsSplitOff f x table) w ws all))

  left_count : (ws rs : List WorkerValue) → Left ws rs → length rs ≡ length ws
  left_count [] [] h = refl
  left_count [] (r ∷ rs) h = absurd h
  left_count (w ∷ ws) [] h = absurd h
  left_count (w ∷ ws) (r ∷ rs) h = ap suc (left_count ws rs h.1)

  -- the team after its work
  pub record TeamDone (table : TableId) (rest : List WorkerValue) (last : WorkerValue) : Type 0 where
    pub opening : IsOpening f x table (length rest) last
    pub finished : last.held.view.stand ≡ Finished
    pub split : All (IsSplitOff f x table) rest

  team_done : (table : TableId) (ws rs rest : List WorkerValue) (last : WorkerValue) → IsTeam f x table ws
      → length rs ≡ length ws
      → ((i : ℕ) (d : WorkerValue) → i < length ws → IsDone f x (slice_index_or ws i d) (slice_index_or rs i d))
      → rs ≡ (rest ++ last ∷ []) → TeamDone table rest last
  team_done table ws rs rest last team same each is =
      let h : Left (team.rest ++ team.opening ∷ []) (rest ++ last ∷ []) =
      subst (λ zs. Left zs (rest ++ last ∷ [])) team.all (subst (Left ws) is (left_by ws rs same each)) in
      let t = left_last team.rest rest team.opening last h in
      let d = t.1 in
      let o = team.first in
      let n = left_count team.rest rest t.0 in record {
        opening = record {
          of = d.of ∙ o.of;
          keeps = d.keeps;
          number = d.number ∙ o.number;
          joined = d.joined ∙ o.joined;
          made = d.made ∙ o.made ∙ sym n;
        };
        finished = d.finished;
        split = left_split table team.rest rest t.0 team.split;
      }

  -- ---- a worker takes in another one

  joined_keeps : (gains : List (Option ℕ)) (w o j : WorkerValue) → Keeps f x w → Keeps f x o
      → j.held.view ≡ joined_view gains w.held.view o.held.view → j.steps ≡ (w.steps ++ o.steps)
      → Keeps f x j
  joined_keeps gains w o j mine theirs view steps =
      let owned_is : j.held.view.owned ≡ (w.held.view.owned ++ o.held.view.owned) = ap (λ (v : View). v.owned) view in
      record {
        settled = subst (All IsSettled) (sym owned_is)
            (All-append IsSettled w.held.view.owned o.held.view.owned mine.settled theirs.settled);
        kept = subst (λ ss. HasSteps ss j.held.view.owned) (sym steps)
            (subst (HasSteps (w.steps ++ o.steps)) (sym owned_is)
            (All-append (Has (w.steps ++ o.steps)) w.held.view.owned o.held.view.owned
            (HasSteps-append_left w.steps o.steps w.held.view.owned mine.kept)
            (HasSteps-append_right w.steps o.steps o.held.view.owned theirs.kept)));
        found = subst (All (λ s. IsFound f x s.k s)) (sym steps)
            (All-append (λ s. IsFound f x s.k s) w.steps o.steps mine.found theirs.found);
      }

  -- ---- the end

  module _ (gains : List (Option ℕ)) (are : HasGains f x gains) (w : WorkerValue)
      (keeps : Keeps f x w) where
    -- the best length has a step
    best_kept : (k : ℕ) → HasFate k Offered w.held.view.owned → (s : Step) × Contains w.steps s × (s.k ≡ k)
    best_kept k has = All-contains (Has w.steps) w.held.view.owned (owned k Offered) keeps.kept has refl

    -- a step of the best length is the rule's
    best_rule : (k : ℕ) (s : Step) → IsBestByGains gains (Some k) → Contains w.steps s → s.k ≡ k
        → IsRuleStep f x (Some s)
    best_rule k s best has is =
        best_gain f x gains are k s best
        (subst (λ j. IsFound f x j s) is (All-contains (λ s. IsFound f x s.k s) w.steps s keeps.found has))

    -- what is found among the steps by the best length is the rule's step
    pub found_rule : (k : ℕ) (r : Option Step) → IsBestByGains gains (Some k) → HasFate k Offered w.held.view.owned
        → IfSome r (λ s. Contains w.steps s × (s.k ≡ k)) → IfNone r (All (λ s. s.k ≢ k) w.steps) → IsRuleStep f x r
    found_rule k None best has _ none =
        let t = best_kept k has in absurd (All-contains (λ s. s.k ≢ k) w.steps t.0 none t.1 t.2)
    found_rule k (Some s) best has found _ = best_rule k s best found.0 found.1

-- ---- no worker wanted memory

at_ok : (E : Type 0) (ws : List WorkerValue) (i : ℕ) (d : WorkerValue)
    → let o : Result WorkerValue E = Ok d in slice_index_or (map Ok ws) i o ≡ Ok (slice_index_or ws i d)
at_ok E [] i d = refl
at_ok E (w ∷ ws) zero d = refl
at_ok E (w ∷ ws) (suc i) d = at_ok E ws i d

all_are_done : (E : Type 0) (f : FoldValue) (x : Bricks) (ws : List WorkerValue) (rs : List (Result WorkerValue E))
    (vs : List WorkerValue) → map Ok vs ≡ rs
    → ((i : ℕ) (d : WorkerValue) (e : Result WorkerValue E) → i < length ws
    → IfOk (slice_index_or rs i e) (IsDone f x (slice_index_or ws i d)))
    → (i : ℕ) (d : WorkerValue) → i < length ws → IsDone f x (slice_index_or ws i d) (slice_index_or vs i d)
all_are_done E f x ws rs vs is each i d lt =
    subst (λ (r : Result WorkerValue E). IfOk r (IsDone f x (slice_index_or ws i d)))
    (ap (λ zs. slice_index_or zs i (Ok d)) (sym is) ∙ at_ok E vs i d) (each i d (Ok d) lt)

done_count : (E : Type 0) (ws : List WorkerValue) (rs : List (Result WorkerValue E)) (vs : List WorkerValue)
    → map Ok vs ≡ rs → length rs ≡ length ws → length vs ≡ length ws
done_count E ws rs vs is same = sym (length-map vs Ok) ∙ ap length is ∙ same

pub team_is_done : (E : Type 0) (f : FoldValue) (x : Bricks) (table : TableId) (ws : List WorkerValue)
    (rs : List (Result WorkerValue E)) (vs rest : List WorkerValue) (last : WorkerValue) → IsTeam f x table ws
    → length rs ≡ length ws
    → ((i : ℕ) (d : WorkerValue) (e : Result WorkerValue E) → i < length ws
    → IfOk (slice_index_or rs i e) (IsDone f x (slice_index_or ws i d)))
    → map Ok vs ≡ rs → vs ≡ (rest ++ last ∷ []) → TeamDone f x table rest last
team_is_done E f x table ws rs vs rest last team count each ok is =
    team_done f x table ws vs rest last team (done_count E ws rs vs ok count) (all_are_done E f x ws rs vs ok each) is

-- ---- the beginning

-- a seat that owns nothing keeps all that a worker is to keep
nothing_kept : (f : FoldValue) (x : Bricks) (w : WorkerValue) → w.held.view.owned ≡ [] → w.steps ≡ [] → Keeps f x w
nothing_kept f x w none no_steps = record {
  settled = subst (All IsSettled) (sym none) (All-nil IsSettled);
  kept = subst (HasSteps w.steps) (sym none) (All-nil (Has w.steps));
  found = subst (All (λ s. IsFound f x s.k s)) (sym no_steps) (All-nil (λ (s : Step). IsFound f x s.k s));
}

-- a worker that does not know the point as a best one claims nothing of it
nothing_known : (f : FoldValue) (x : Bricks) (w : WorkerValue) → w.at_best ≡ false → KnowsBest f x w
nothing_known f x w unknown = λ known. absurd (true≢false (sym known ∙ unknown))

module _ (f : FoldValue) (x : Bricks) (table : TableId) (w : WorkerValue) (of : w.held.table ≡ table)
    (no_steps : w.steps ≡ []) (unknown : w.at_best ≡ false) where
  fresh_ready : (v : View) → w.held.view ≡ fresh_view v → IsReady f x table w
  fresh_ready v is = record {
    of = of;
    working = ap (λ (u : View). u.stand) is;
    keeps = nothing_kept f x w (ap (λ (u : View). u.owned) is) no_steps;
    best = nothing_known f x w unknown;
  }

  fresh_split : (v : View) → w.held.view ≡ fresh_view v → IsSplitOff f x table w
  fresh_split v is = record {
    of = of;
    keeps = nothing_kept f x w (ap (λ (u : View). u.owned) is) no_steps;
    number = λ z. absurd (omega (arith, sym (ap (λ (u : View). u.number) is) ∙ z));
    joined = ap (λ (u : View). u.joined) is;
  }

  module _ (others : ℕ) (is : w.held.view ≡ record opening_view { made = others }) where
    opening_ready : IsReady f x table w
    opening_ready = record {
      of = of;
      working = ap (λ (u : View). u.stand) is;
      keeps = nothing_kept f x w (ap (λ (u : View). u.owned) is) no_steps;
      best = nothing_known f x w unknown;
    }

    opening_first : IsOpening f x table others w
    opening_first = record {
      of = of;
      keeps = nothing_kept f x w (ap (λ (u : View). u.owned) is) no_steps;
      number = ap (λ (u : View). u.number) is;
      joined = ap (λ (u : View). u.joined) is;
      made = ap (λ (u : View). u.made) is;
    }

module _ (f : FoldValue) (x : Bricks) (table : TableId) where
  pub splitting_none : (o : Held) → o.table ≡ table → o.view ≡ opening_view → IsSplitting f x table o []
  splitting_none o of view = record {
    of = of;
    view = view;
    ready = All-nil (IsReady f x table);
    split = All-nil (IsSplitOff f x table);
  }

  pub splitting_more : (o p : Held) (workers more : List WorkerValue) (w : WorkerValue)
      → IsSplitting f x table o workers → p.table ≡ o.table → p.view ≡ splitting_view o.view
      → w.held.table ≡ o.table → w.held.view ≡ fresh_view o.view
      → w.steps ≡ [] → w.at_best ≡ false → more ≡ (workers ++ w ∷ []) → IsSplitting f x table p more
  splitting_more o p workers more w h of view fresh_of fresh no_steps unknown is =
      let count : suc (length workers) ≡ length more =
      let n = ap length is ∙ length-append workers (w ∷ []) in omega (arith, n) in record {
        of = of ∙ h.of;
        view = view ∙ ap splitting_view h.view ∙ ap (λ n. record opening_view { made = n }) count;
        ready = subst (All (IsReady f x table)) (sym is)
            (All-push (IsReady f x table) workers w h.ready
            (fresh_ready f x table w (fresh_of ∙ h.of) no_steps unknown o.view fresh));
        split = subst (All (IsSplitOff f x table)) (sym is)
            (All-push (IsSplitOff f x table) workers w h.split
            (fresh_split f x table w (fresh_of ∙ h.of) no_steps unknown o.view fresh));
      }

  module _ (o : Held) (workers all : List WorkerValue) (w : WorkerValue) (h : IsSplitting f x table o workers)
      (held : w.held ≡ o) (no_steps : w.steps ≡ []) (unknown : w.at_best ≡ false) (is : all ≡ (workers ++ w ∷ [])) where
    view_is : w.held.view ≡ record opening_view { made = length workers }
    view_is = ap (λ (u : Held). u.view) held ∙ h.view

    table_is : w.held.table ≡ table
    table_is = ap (λ (u : Held). u.table) held ∙ h.of

    pub team_ready : All (IsReady f x table) all
    team_ready = subst (All (IsReady f x table)) (sym is)
        (All-push (IsReady f x table) workers w h.ready
        (opening_ready f x table w table_is no_steps unknown (length workers) view_is))

    pub team_whole : IsTeam f x table all
    team_whole = record {
      rest = workers;
      opening = w;
      all = is;
      split = h.split;
      first = opening_first f x table w table_is no_steps unknown (length workers) view_is;
    }

-- ---- the opening worker takes in the others

module _ (f : FoldValue) (x : Bricks) (table : TableId) where
  pub taking_first : (w : WorkerValue) (others : List WorkerValue) → IsOpening f x table (length others) w
      → w.held.view.stand ≡ Finished → All (IsSplitOff f x table) others → IsTaking f x table w others
  taking_first w others opening finished split = record {
    of = opening.of;
    finished = finished;
    number = opening.number;
    counted = let a = opening.joined in let b = opening.made in omega (arith, a, b);
    keeps = opening.keeps;
    split = split;
  }

  pub taking_next : (gains : List (Option ℕ)) (w o j : WorkerValue) (others rest : List WorkerValue)
      → IsTaking f x table w others → others ≡ (rest ++ o ∷ []) → j.held.table ≡ w.held.table
      → j.held.view ≡ joined_view gains w.held.view o.held.view → j.steps ≡ (w.steps ++ o.steps)
      → IsTaking f x table j rest
  taking_next gains w o j others rest t is of view steps =
      let split = All-pop (IsSplitOff f x table) others rest (Some o) is t.split in
      let theirs : IsSplitOff f x table o = split.1 in
      let count = ap length is ∙ length-append rest (o ∷ []) in
      let joined : j.held.view.joined ≡ suc (w.held.view.joined + o.held.view.joined) =
      ap (λ (v : View). v.joined) view in
      let made : j.held.view.made ≡ w.held.view.made = ap (λ (v : View). v.made) view in
      let none = theirs.joined in
      let all = t.counted in record {
        of = of ∙ t.of;
        finished = ap (λ (v : View). v.stand) view ∙ ap (λ s. joined_stand s o.held.view.stand) t.finished;
        number = ap (λ (v : View). v.number) view ∙ t.number;
        counted = omega (arith, count, joined, made, none, all);
        keeps = joined_keeps f x gains w o j t.keeps theirs.keeps view steps;
        split = split.0;
      }

  -- the one that comes next was split off
  pub taking_number : (w o : WorkerValue) (others rest : List WorkerValue) → IsTaking f x table w others
      → others ≡ (rest ++ o ∷ []) → (o.held.table ≡ table) × (o.held.view.number ≢ 0)
  taking_number w o others rest t is =
      let theirs : IsSplitOff f x table o = (All-pop (IsSplitOff f x table) others rest (Some o) is t.split).1 in
      (theirs.of, theirs.number)

  pub taking_last : (gains : List (Option ℕ)) (w : WorkerValue) (others : List WorkerValue)
      → IsTaking f x table w others → others ≡ [] → MayClose gains w.held.view
  taking_last gains w others t is = record {
    opening = t.number;
    alone = let n = ap length is in let c = t.counted in omega (arith, n, c);
    settled = t.keeps.settled;
    past = inl t.finished;
  }
