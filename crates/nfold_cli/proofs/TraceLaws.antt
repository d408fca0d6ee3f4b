-- The runs of the bricks, one after the other, and the parts of a step.
use Rattle.std.proofs.Common.{◌≡◌, ℕ, zero, suc, ◌<◌, ◌≤◌, min, List, [], ◌∷◌, ◌++◌, length, map, take, drop, get_or}
use Rattle.std.proofs.Common.{append_assoc, codes, All, refl, ap, sym, subst, ◌∙◌, inl, inr, arith}
use Rattle.std.specs.Fmt.{decimal}
use Rattle.std.proofs.lemmas.Bool.{cases_lt}
use Rattle.std.proofs.lemmas.List.{append-nil, take_all, drop_all}
use Rattle.std.proofs.lemmas.List.Elements.{All-head, All-tail}
use Rattle.lattice_theory.specs.Vectors.{Vector}
use Rattle.run_theory.specs.BrickRuns.{BrickMove}
use Rattle.nfold_cli.specs.RunTexts.{spaced_text, parts_text}

-- what holds of all runs holds of each
pub of_each : {V : Type 0} (f : V → List BrickMove) (P : List BrickMove → Type 0) (runs : List V) (i : ℕ) (run : V)
    → All P (map f runs)
    → i < length runs → run ≡ get_or runs i run → P (f run)
of_each f P [] i run all inside there = absurd (omega arith)
of_each f P (r ∷ runs) zero run all inside there =
    subst (λ x. P (f x)) (sym there) (All-head P (f r) (map f runs) all)
of_each f P (r ∷ runs) (suc i) run all inside there =
    of_each f P runs i run (All-tail P (f r) (map f runs) all) (omega arith) there

-- ---- the parts of a step: what is written, and then the parts that are left, is the whole

-- as many entries as there are, where more are asked for
pub clipped : (k t : ℕ) (v : Vector) → k ≡ min (length v) t → (take k v ≡ take t v) × (drop k v ≡ drop t v)
clipped k t v is = elim (cases_lt (length v) t) [
  | inl short ↦
      let few : length v ≤ k = omega (arith, short, is) in
      let less : length v ≤ t = omega (arith, short) in
      (take_all k v few ∙ sym (take_all t v less), drop_all k v few ∙ sym (drop_all t v less))
  | inr long ↦
      let same : k ≡ t = omega (arith, long, is) in
      (ap (λ n. take n v) same, ap (λ n. drop n v) same)
]

regrouped : (a b c d e : List ℕ) → a ++ b ++ c ++ d ++ e ≡ a ++ (b ++ c ++ d ++ e)
regrouped a b c d e = simp append_assoc

drop_more : (bs : List ℕ) (i d : ℕ) → i < length bs → drop i bs ≡ get_or bs i d ∷ drop (suc i) bs
drop_more [] i d inside = absurd (omega arith)
drop_more (b ∷ bs) zero d inside = refl
drop_more (b ∷ bs) (suc i) d inside = drop_more bs i d (omega arith)

module _ (t : ℕ) (bricks whole : List ℕ) where
  -- one part more
  pub part_more : (left part rest : Vector) (before after : List ℕ) (i b : ℕ) → i < length bricks
      → b ≡ get_or bricks i b
      → part ≡ take t left → rest ≡ drop t left → before ++ parts_text t (drop i bricks) left ≡ whole
      → after ≡ before ++ codes " at " ++ decimal b ++ spaced_text part
      → after ++ parts_text t (drop (suc i) bricks) rest ≡ whole
  part_more left part rest before after i b inside there first last written more =
      let next = parts_text t (drop (suc i) bricks) (drop t left) in
      let here : drop i bricks ≡ b ∷ drop (suc i) bricks =
      drop_more bricks i b inside ∙ ap (λ c. c ∷ drop (suc i) bricks) (sym there) in
      ap (λ (v : Vector). after ++ parts_text t (drop (suc i) bricks) v) last
      ∙ ap (λ u. u ++ next) more
      ∙ ap (λ (v : Vector). before ++ codes " at " ++ decimal b ++ spaced_text v ++ next) first
      ∙ regrouped before (codes " at ") (decimal b) (spaced_text (take t left)) next
      ∙ ap (λ bs. before ++ parts_text t bs left) (sym here) ∙ written

  pub parts_end : (left : Vector) (text : List ℕ) (i : ℕ) → length bricks ≤ i
      → text ++ parts_text t (drop i bricks) left ≡ whole
      → text ≡ whole
  parts_end left text i all written =
      sym (append-nil text) ∙ ap (λ bs. text ++ parts_text t bs left) (sym (drop_all i bricks all)) ∙ written
