-- Laws of the rules of the claims on all bricks: the first that is broken, and the answer.
use Rattle.std.proofs.Common.{◌≡◌, ℕ, ◌+◌, ◌≤◌, ◌^◌, nat_eq, nat_le, nat_lt, Bool, true, false, ◌&&◌, List, [], ◌∷◌}
use Rattle.std.proofs.Common.{◌++◌, length, Option, Some, None, cond, refl, ap, sym, ◌∙◌, All, IfSome, ℤ, map}
use Rattle.std.proofs.Common.{unsigned_abs}
use Rattle.std.specs.List.{list_all, AllByRecursion}
use Rattle.std.proofs.lemmas.List.Elements.{All-nil, All-map, All-weaker, recursion_from_All}
use Rattle.std.proofs.lemmas.Bool.{and_parts}
use Rattle.fold_theory.specs.declared.Phase.{Phase}
use Rattle.fold_theory.specs.declared.Phase.TheVariants.{Closed, Counted}
use Rattle.run_theory.specs.declared.Rule.{Rule}
use Rattle.run_theory.specs.declared.Rule.TheVariants.{C1, C2, C3, C4, C5, C6, C7}
use Rattle.fold_theory.specs.declared.Verdict.TheVariants.{Optimal, InfeasibleLink}
use Rattle.lattice_theory.specs.Vectors.{Vector}
use Rattle.lattice_theory.specs.Matrices.{Matrix, has_shape}
use Rattle.fold_theory.specs.Programs.{Program, Bricks, is_within, brick_residual, link_rests, link_miss, cost}
use Rattle.fold_theory.specs.declared.Relation.{Relation}
use Rattle.lattice_theory.specs.Lists.{all_zip}
use Rattle.lattice_theory.specs.Lattices.{is_complete_for}
use Rattle.run_theory.specs.Links.{complexity}
use Rattle.run_theory.specs.Certificates.{FoldPart, Certificate, Table, listed_sums, sum_of_row}
use Rattle.run_theory.specs.Checker.{first_failing, first_broken, fold_rules, parts_fit, point_fits, claimed_verdict}
use Rattle.run_theory.specs.Checker.{listed_generators, listed_links, layers_hold, starts_at_zero, sums_are_closed}
use Rattle.lattice_theory.specs.SignedSums.{vectors}
use Rattle.lattice_laws.proofs.Tests.{nat_eq_of, nat_eq_true}
use Rattle.certificate.specs.Readable.{IsSumRow, IsCell}
use Rattle.listed_sums.specs.Places.{vectors_of, sums_of, IsModest}
use Rattle.listed_potentials.specs.Sizes.{AreSmall}
use Rattle.cert_checker.specs.declared.answer.Check.TheVariants.{Yes, No}
use Rattle.cert_checker.specs.Answers.{checked}
use Rattle.cert_checker.specs.Folds.{claim_of, brick_parts_fit, fold_parts_fit, meets_links, list_rules, verdict_of}

-- ---- the first test that fails

abbrev pub Tests : Type 0
Tests = List (Rule × Bool)

pub first-of : (rule : Rule) (t : Bool) (tests : Tests) → t ≡ false → Some rule ≡ first_failing ((rule, t) ∷ tests)
first-of rule t tests fails = sym (λ k. cond (fails k) (first_failing tests) (Some rule))

pub next-of : (rule : Rule) (t : Bool) (tests : Tests) → t ≡ true
    → first_failing ((rule, t) ∷ tests) ≡ first_failing tests
next-of rule t tests passes = λ k. cond (passes k) (first_failing tests) (Some rule)

-- the first of those of two lists
abbrev or_else : Option Rule → Option Rule → Option Rule
or_else None o = o
or_else (Some rule) o = Some rule

first-step : (rule : Rule) (b : Bool) (whole part rest : Option Rule) → whole ≡ or_else part rest
    → cond b whole (Some rule) ≡ or_else (cond b part (Some rule)) rest
first-step rule true whole part rest is = is
first-step rule false whole part rest is = refl

first-append : (tests others : Tests) → first_failing (tests ++ others)
    ≡ or_else (first_failing tests) (first_failing others)
first-append [] others = refl
first-append (test ∷ tests) others = first-step test.0 test.1 _ _ _ (first-append tests others)

-- ---- the rules on the lists

-- the first of the four whose test fails
abbrev chain : Bool → Bool → Bool → Bool → Option Rule
chain two three four five = cond two (cond three (cond four (cond five None (Some C5)) (Some C4)) (Some C3)) (Some C2)

pub third-breaks : (a b c d : Bool) → a ≡ true → b ≡ false → Some C3 ≡ chain a b c d
third-breaks a b c d one two = sym (λ k. chain (one k) (two k) c d)

pub fourth-breaks : (a b c d : Bool) → a ≡ true → b ≡ true → c ≡ false → Some C4 ≡ chain a b c d
fourth-breaks a b c d one two three = sym (λ k. chain (one k) (two k) (three k) d)

pub fifth-breaks : (a b c d : Bool) → a ≡ true → b ≡ true → c ≡ true → d ≡ false → Some C5 ≡ chain a b c d
fifth-breaks a b c d one two three four = sym (λ k. chain (one k) (two k) (three k) (four k))

pub none-breaks : (a b c d : Bool) → a ≡ true → b ≡ true → c ≡ true → d ≡ true → None ≡ chain a b c d
none-breaks a b c d one two three four = sym (λ k. chain (one k) (two k) (three k) (four k))

-- where none of them fails, the last does not
pub last-passes : (a b c d : Bool) → None ≡ chain a b c d → d ≡ true
last-passes true true true true none = refl
last-passes true true true false none = absurd (cc)
last-passes true true false d none = absurd (cc)
last-passes true false c d none = absurd (cc)
last-passes false b c d none = absurd (cc)

-- the tests, as they are found of what the parts of the program and the certificate are read as
pub brick-test : (p : Program) (c : Certificate) (m bricks : Matrix) (b t : Bool) → m ≡ p.brick → bricks ≡ c.bricks
    → b ≡ is_complete_for m bricks.rows → b ≡ t → is_complete_for p.brick c.bricks.rows ≡ t
brick-test p c m bricks b t one two is same = sym (λ k. is_complete_for (one k) (two k).rows) ∙ sym is ∙ same

pub links-test : (p : Program) (c : Certificate) (f : FoldPart) (m links : Matrix) (b t : Bool) → m ≡ listed_links p c
    → links ≡ f.links → b ≡ is_complete_for m links.rows → b ≡ t
    → is_complete_for (listed_links p c) f.links.rows ≡ t
links-test p c f m links b t one two is same = sym (λ k. is_complete_for (one k) (two k).rows) ∙ sym is ∙ same

pub light-test : (p : Program) (phase : Phase) (c : Certificate) (f : FoldPart) (relations : List Relation)
    (m links : Matrix) (bound : ℕ) (b t : Bool) → relations ≡ p.relations → m ≡ listed_links p c → links ≡ f.links
    → bound ≡ f.bound → b ≡ nat_le (complexity phase relations m links.rows) bound → b ≡ t
    → nat_le (complexity phase p.relations (listed_links p c) f.links.rows) f.bound ≡ t
light-test p phase c f relations m links bound b t one two three four is same =
    sym (λ k. nat_le (complexity phase (one k) (two k) (three k).rows) (four k)) ∙ sym is ∙ same

pub closed-test : (p : Program) (c : Certificate) (f : FoldPart) (cols : ℕ) (gens : List Vector) (bound : ℕ)
    (sums : Matrix) (b t : Bool) → cols ≡ p.brick.cols → gens ≡ listed_generators p c → bound ≡ f.bound
    → sums ≡ f.sums → b ≡ sums_are_closed cols gens bound (sums_of sums.rows) → b ≡ t
    → sums_are_closed p.brick.cols (listed_generators p c) f.bound (listed_sums f) ≡ t
closed-test p c f cols gens bound sums b t one two three four is same =
    sym (λ k. sums_are_closed (one k) (two k) (three k) (map sum_of_row (four k).rows)) ∙ sym is ∙ same

-- ---- the sums and the table of a certificate

pub all-modest : (rows : List Vector) → All IsSumRow rows → All IsModest (vectors_of rows)
all-modest rows good =
    All-map IsModest (λ s. s.vector) (map sum_of_row rows)
    (All-map (λ s. IsModest s.vector) sum_of_row rows (All-weaker IsSumRow (λ row. IsModest (sum_of_row row).vector)
    here rows good))
  where
    here : (row : Vector) → IsSumRow row → IsModest (sum_of_row row).vector
    here [] h = All-nil (λ a. unsigned_abs a ≤ 2 ^ 47)
    here (a ∷ v) h = h.2

pub all-small : (rows : List (List (Option ℤ))) → All (λ row. All IsCell row) rows → All (AreSmall (2 ^ 124)) rows
all-small rows good =
    All-weaker (λ row. All IsCell row) (AreSmall (2 ^ 124))
    (λ row cells. All-weaker IsCell (λ c. IfSome c (λ a. unsigned_abs a ≤ 2 ^ 124)) here row cells) rows good
  where
    here : (cell : Option ℤ) → IsCell cell → IfSome cell (λ a. unsigned_abs a ≤ 2 ^ 124)
    here None h = tt
    here (Some a) h = h

-- ---- the parts

table-even : (n : ℕ) (cols : ℕ) → cols ≡ n → (rows : List (List (Option ℤ)))
    → AllByRecursion (λ row. length row ≡ cols) rows → list_all (λ row. nat_eq (length row) n) rows ≡ true
table-even n cols same [] h = refl
table-even n cols same (row ∷ rows) h =
    ap (λ t. t && list_all (λ r. nat_eq (length r) n) rows) (nat_eq_of (length row) n (h.0 ∙ same))
    ∙ table-even n cols same rows h.1

pub and-false : (a b : Bool) → b ≡ false → (a && b) ≡ false
and-false true b fails = fails
and-false false b fails = refl

-- the table has a column for each sum
pub cols-fit : (p : Program) (f : FoldPart) (generators : ℕ) → fold_parts_fit p f generators ≡ true
    → f.potentials.cols ≡ length f.sums.rows
cols-fit p f generators h =
    nat_eq_true f.potentials.cols (length f.sums.rows)
    (and_parts (has_shape (length f.links.rows) (generators + length p.link.rows) f.links && has_shape
    (length f.sums.rows) (1 + p.brick.cols) f.sums && nat_eq (length f.potentials.rows) (1 + length p.bricks))
    (nat_eq f.potentials.cols (length f.sums.rows)) h).1

regroup : (x c d e g h : Bool) → (g ≡ true → h ≡ true)
    → (x && c && d && e && g && h) ≡ (x && (c && d && e && g))
regroup false c d e g h is = refl
regroup true false d e g h is = refl
regroup true true false e g h is = refl
regroup true true true false g h is = refl
regroup true true true true false h is = refl
regroup true true true true true h is = is refl

-- the tests of the sixth rule and of the last
abbrev potentials_test : Program → Phase → Certificate → FoldPart → Bool
potentials_test p phase c f =
    layers_hold p phase (vectors (listed_sums f)) (link_rests p c.point.rows) p.bricks c.point.rows f.potentials.rows
    && starts_at_zero p (vectors (listed_sums f)) f.potentials.rows

abbrev seventh : Program → Phase → Certificate → Tests
seventh p phase c =
    (C7, elim phase [ Closed ↦ true | Counted ↦ nat_lt 0 (link_miss p (link_rests p c.point.rows)) ]) ∷ []

abbrev end_rules : Program → Phase → Certificate → FoldPart → Tests
end_rules p phase c f = (C6, potentials_test p phase c f) ∷ seventh p phase c

module _ (p : Program) (phase : Phase) (c : Certificate) (f : FoldPart) where
  -- the parts fit where those on the bricks do and those on the linking rows
  pub parts-are : (generators : ℕ) → generators ≡ length (listed_generators p c)
      → All (λ row. length row ≡ f.potentials.cols) f.potentials.rows
      → parts_fit p c f ≡ (brick_parts_fit p c && fold_parts_fit p f generators)
  parts-are generators many even =
      regroup (brick_parts_fit p c)
      (has_shape (length f.links.rows) (length (listed_generators p c) + length p.link.rows) f.links)
      (has_shape (length f.sums.rows) (1 + p.brick.cols) f.sums)
      (nat_eq (length f.potentials.rows) (1 + length p.bricks))
      (nat_eq f.potentials.cols (length f.sums.rows))
      (list_all (λ row. nat_eq (length row) (length f.sums.rows)) f.potentials.rows)
      (λ same. table-even (length f.sums.rows) f.potentials.cols (nat_eq_true _ _ same) f.potentials.rows
      (recursion_from_All (λ row. length row ≡ f.potentials.cols) f.potentials.rows even))
      ∙ ap (λ n. brick_parts_fit p c && fold_parts_fit p f n) (sym many)

  -- the first rule, by the tests that it consists of
  pub all-fit : (generators : ℕ) → generators ≡ length (listed_generators p c)
      → All (λ row. length row ≡ f.potentials.cols) f.potentials.rows → brick_parts_fit p c ≡ true
      → fold_parts_fit p f generators ≡ true → all_zip is_within p.bricks c.point.rows ≡ true
      → all_zip (λ b v. nat_eq (brick_residual p b v) 0) p.bricks c.point.rows ≡ true
      → meets_links p phase c.point.rows ≡ true → (parts_fit p c f && point_fits p phase c.point.rows) ≡ true
  all-fit generators many even bricks fold within rows links =
      (λ k. parts-are generators many even k && point_fits p phase c.point.rows)
      ∙ (λ k. (bricks k && fold k) && (within k && rows k && links k))

  pub not-within : all_zip is_within p.bricks c.point.rows ≡ false
      → (parts_fit p c f && point_fits p phase c.point.rows) ≡ false
  not-within fails =
      and-false (parts_fit p c f) (point_fits p phase c.point.rows)
      (λ k. fails k && all_zip (λ b v. nat_eq (brick_residual p b v) 0) p.bricks c.point.rows && meets_links p phase
      c.point.rows)

  pub misses-rows : all_zip (λ b v. nat_eq (brick_residual p b v) 0) p.bricks c.point.rows ≡ false
      → (parts_fit p c f && point_fits p phase c.point.rows) ≡ false
  misses-rows fails =
      let within = all_zip is_within p.bricks c.point.rows in
      let rows = all_zip (λ b v. nat_eq (brick_residual p b v) 0) p.bricks c.point.rows in
      and-false (parts_fit p c f) (point_fits p phase c.point.rows)
      (λ k. and-false within rows fails k && meets_links p phase c.point.rows)

  pub misses-links : meets_links p phase c.point.rows ≡ false
      → (parts_fit p c f && point_fits p phase c.point.rows) ≡ false
  misses-links fails =
      let within = all_zip is_within p.bricks c.point.rows in
      let rows = all_zip (λ b v. nat_eq (brick_residual p b v) 0) p.bricks c.point.rows in
      and-false (parts_fit p c f) (point_fits p phase c.point.rows)
      (and-false (within && rows) (meets_links p phase c.point.rows) fails)

  -- the sixth rule, as it is found
  pub held-test : (x : Bricks) (sums : Matrix) (table : Table) (b t : Bool) → x ≡ c.point.rows → sums ≡ f.sums
      → table ≡ f.potentials
      → b ≡ (layers_hold p phase (vectors_of sums.rows) (link_rests p x) p.bricks x table.rows && starts_at_zero p
      (vectors_of sums.rows) table.rows)
      → b ≡ t → potentials_test p phase c f ≡ t
  held-test x sums table b t one two three is same =
      sym (λ k. layers_hold p phase (vectors_of (two k).rows) (link_rests p (one k)) p.bricks (one k) (three k).rows &&
      starts_at_zero p (vectors_of (two k).rows) (three k).rows)
      ∙ sym is ∙ same

  -- ---- the answer

  first_broken-is : c.claim ≡ claim_of phase → c.fold ≡ Some f
      → first_broken p c ≡ first_failing (fold_rules p phase c f)
  first_broken-is claims has = by phase claims
    where
      by : (q : Phase) → c.claim ≡ claim_of q → first_broken p c ≡ first_failing (fold_rules p q c f)
      by Closed is = rw (is, has) refl
      by Counted is = rw (is, has) refl

  answer-no : (rule : Rule) → c.claim ≡ claim_of phase → c.fold ≡ Some f
      → Some rule ≡ first_failing (fold_rules p phase c f) → No rule ≡ checked p c
  answer-no rule claims has broken =
      let is : first_broken p c ≡ Some rule = first_broken-is claims has ∙ sym broken in
      sym (λ k. elim (is k) [ None ↦ Yes (claimed_verdict p c) | Some r ↦ No r ])

  -- the first rule
  pub first-breaks : c.claim ≡ claim_of phase → c.fold ≡ Some f
      → (parts_fit p c f && point_fits p phase c.point.rows) ≡ false → No C1 ≡ checked p c
  first-breaks claims has fails =
      answer-no C1 claims has (first-of C1 (parts_fit p c f && point_fits p phase c.point.rows) (list_rules p phase c f
      ++ end_rules p phase c f) fails)

  -- where it holds, a rule on the lists
  pub list-breaks : (rule : Rule) → c.claim ≡ claim_of phase → c.fold ≡ Some f
      → (parts_fit p c f && point_fits p phase c.point.rows) ≡ true
      → Some rule ≡ first_failing (list_rules p phase c f) → No rule ≡ checked p c
  list-breaks rule claims has fits broken =
      let tests = list_rules p phase c f in
      let others = end_rules p phase c f in
      answer-no rule claims has
      (sym (next-of C1 (parts_fit p c f && point_fits p phase c.point.rows) (tests ++ others) fits
      ∙ first-append tests others ∙ sym (λ k. or_else (broken k) (first_failing others))))

  rest-is : (parts_fit p c f && point_fits p phase c.point.rows) ≡ true → None ≡ first_failing (list_rules p phase c f)
      → first_failing (fold_rules p phase c f) ≡ first_failing (end_rules p phase c f)
  rest-is fits none =
      let tests = list_rules p phase c f in
      let others = end_rules p phase c f in
      next-of C1 (parts_fit p c f && point_fits p phase c.point.rows) (tests ++ others) fits
      ∙ first-append tests others ∙ sym (λ k. or_else (none k) (first_failing others))

  -- where those hold too, the rule on the potentials
  pub potentials-break : c.claim ≡ claim_of phase → c.fold ≡ Some f
      → (parts_fit p c f && point_fits p phase c.point.rows) ≡ true → None ≡ first_failing (list_rules p phase c f)
      → potentials_test p phase c f ≡ false → No C6 ≡ checked p c
  potentials-break claims has fits none fails =
      answer-no C6 claims has
      (first-of C6 (potentials_test p phase c f) (seventh p phase c) fails ∙ sym (rest-is fits none))

  -- where only the last is left
  pub last-decides : (x : Bricks) → c.claim ≡ claim_of phase → c.fold ≡ Some f
      → (parts_fit p c f && point_fits p phase c.point.rows) ≡ true → None ≡ first_failing (list_rules p phase c f)
      → potentials_test p phase c f ≡ true → x ≡ c.point.rows → verdict_of p phase x ≡ checked p c
  last-decides x claims has fits none held is =
      ap (verdict_of p phase) is
      ∙ by phase claims (first_broken-is claims has ∙ rest-is fits none
      ∙ next-of C6 (potentials_test p phase c f) (seventh p phase c) held)
    where
      on : (m : ℕ) (b : Bool) → cond b (Yes (InfeasibleLink m)) (No C7)
          ≡ elim (cond b None (Some C7)) [ None ↦ Yes (InfeasibleLink m) | Some r ↦ No r ]
      on m true = refl
      on m false = refl

      by : (q : Phase) → c.claim ≡ claim_of q → first_broken p c ≡ first_failing (seventh p q c)
          → verdict_of p q c.point.rows ≡ checked p c
      by Closed claimed broken =
          let verdict : claimed_verdict p c ≡ Optimal (cost p c.point.rows) = rw claimed refl in
          sym (λ k. elim (broken k) [ None ↦ Yes (verdict k) | Some r ↦ No r ])
      by Counted claimed broken =
          let missed = link_miss p (link_rests p c.point.rows) in
          let verdict : claimed_verdict p c ≡ InfeasibleLink missed = rw claimed refl in
          on missed (nat_lt 0 missed) ∙ sym (λ k. elim (broken k) [ None ↦ Yes (verdict k) | Some r ↦ No r ])
