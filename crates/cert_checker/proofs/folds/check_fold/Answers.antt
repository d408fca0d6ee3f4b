use Rattle.std.proofs.Common.{◌≡◌, ◌&&◌, length, nat_eq, true, false, All, sym, ap, ◌∙◌, subst}
use Rattle.lattice_theory.specs.Lists.{all_zip}
use Rattle.lattice_theory.specs.Lattices.{kernel}
use Rattle.fold_theory.specs.Programs.{AreWithin, is_within, brick_residual}
use Rattle.run_theory.specs.Checker.{listed_generators, parts_fit, point_fits}
use Rattle.fold_laws.proofs.Bounds.{all_within_true}
use Rattle.certificate.specs.Readable.{IsSumRow}
use Rattle.cert_checker.specs.Folds.{IsPointOf, meets_links}
use Rattle.cert_checker.proofs.FoldLaws.{all-modest, cols-fit, all-fit, not-within, misses-rows, misses-links}
use Rattle.cert_checker.proofs.FoldLaws.{held-test, first-breaks, list-breaks, potentials-break, last-decides}
use Rattle.cert_checker.proofs.folds.check_fold.Goals as goal
use Rattle.cert_checker.proofs.folds.check_fold.Goals.{Else-not-are_within, In-Some, After-broken_list}

-- the point of the certificate is within the bounds
point_within : (c : Else-not-are_within) → all_zip is_within c.args.program.now.bricks c.args.c.now.point.rows ≡ true
point_within c =
    sym (λ k. all_zip is_within c.args.program.now.bricks (c.point.ensures.point k).rows)
    ∙ sym c.are_within.ensures ∙ c.if-not-are_within.false

-- the point that is read is that of the certificate
point_read : (c : In-Some) → c.in-Some.point ≡ c.args.c.now.point.rows
point_read c =
    subst (IsPointOf c.point-2.result.now.rows) c.in-Some.is c.in_ok-point.ensures.rows
    ∙ ap (λ m. m.rows) c.point-2.ensures.point

-- so it is within the bounds
read_within : (c : In-Some) → all_zip is_within c.args.program.now.bricks c.args.c.now.point.rows ≡ true →
    AreWithin c.args.program.now.bricks c.in-Some.point
read_within c within =
    subst (AreWithin c.args.program.now.bricks) (sym (point_read c))
    (all_within_true c.args.program.now.bricks c.args.c.now.point.rows within)

-- the first rule is met
first_holds : (c : After-broken_list) → all_zip is_within c.args.program.now.bricks c.args.c.now.point.rows ≡ true →
    c.in-Some.point ≡ c.args.c.now.point.rows →
    (parts_fit c.args.program.now c.args.c.now c.args.fold.now
    && point_fits c.args.program.now c.args.phase c.args.c.now.point.rows) ≡ true
first_holds c within is =
    let many : c.rows.result ≡ length (listed_generators c.args.program.now c.args.c.now) =
    c.rows.ensures ∙ ap length c.in_ok-generators.ensures.rows
    ∙ (λ k. length (kernel (c.t.ensures.brick_cols k) (c.bricks.ensures.bricks k).rows)) in
    let bricks = sym c.brick_parts_fit.ensures ∙ c.if-not-brick_parts_fit.false in
    let fold = sym c.fold_parts_fit.ensures.fit ∙ c.if-not-fold_parts_fit.false in
    let rows : all_zip (λ b v. nat_eq (brick_residual c.args.program.now b v) 0) c.args.program.now.bricks
    c.args.c.now.point.rows ≡ true =
    sym (λ k. all_zip (λ b v. nat_eq (brick_residual c.args.program.now b v) 0) c.args.program.now.bricks
    (c.point-3.ensures.point k).rows)
    ∙ sym c.meet_brick_rows.ensures ∙ c.if-not-meet_brick_rows.false in
    let links : meets_links c.args.program.now c.args.phase c.args.c.now.point.rows ≡ true =
    sym (λ k. meets_links c.args.program.now c.args.phase (is k)) ∙ sym c.meets_links.ensures
    ∙ c.if-not-meets_links.false in
    all-fit c.args.program.now c.args.phase c.args.c.now c.args.fold.now c.rows.result many
    c.fold_parts_fit.ensures.even bricks fold within rows links

pub returns-then-not-are_within : goal.returns-then-not-are_within
returns-then-not-are_within c =
    let within : all_zip is_within c.args.program.now.bricks c.args.c.now.point.rows ≡ false =
    sym (λ k. all_zip is_within c.args.program.now.bricks (c.point.ensures.point k).rows) ∙ sym c.are_within.ensures
    ∙ c.if-not-are_within.true in
    record {
      answer = first-breaks c.args.program.now c.args.phase c.args.c.now c.args.fold.now c.requires.claim
          c.requires.fold (not-within c.args.program.now c.args.phase c.args.c.now c.args.fold.now within);
    }

pub point_of-requires-clause-within : goal.point_of-requires-clause-within
point_of-requires-clause-within c =
    let past = goal.at.point_of-requires-clause-within c in
    subst (λ m. AreWithin c.args.program.now.bricks m.rows) (sym c.point-2.ensures.point)
    (all_within_true c.args.program.now.bricks c.args.c.now.point.rows (point_within past.Else-not-are_within))

pub returns-then-not-meet_brick_rows : goal.returns-then-not-meet_brick_rows
returns-then-not-meet_brick_rows c =
    let rows : all_zip (λ b v. nat_eq (brick_residual c.args.program.now b v) 0) c.args.program.now.bricks
    c.args.c.now.point.rows ≡ false =
    sym (λ k. all_zip (λ b v. nat_eq (brick_residual c.args.program.now b v) 0) c.args.program.now.bricks
    (c.point-3.ensures.point k).rows)
    ∙ sym c.meet_brick_rows.ensures ∙ c.if-not-meet_brick_rows.true in
    record {
      answer = first-breaks c.args.program.now c.args.phase c.args.c.now c.args.fold.now c.requires.claim
          c.requires.fold (misses-rows c.args.program.now c.args.phase c.args.c.now c.args.fold.now rows);
    }

pub returns-then-not-meets_links : goal.returns-then-not-meets_links
returns-then-not-meets_links c =
    let past = goal.at.returns-then-not-meets_links c in
    let is = point_read past.In-Some in
    let links : meets_links c.args.program.now c.args.phase c.args.c.now.point.rows ≡ false =
    sym (λ k. meets_links c.args.program.now c.args.phase (is k)) ∙ sym c.meets_links.ensures
    ∙ c.if-not-meets_links.true in
    record {
      answer = first-breaks c.args.program.now c.args.phase c.args.c.now c.args.fold.now c.requires.claim
          c.requires.fold (misses-links c.args.program.now c.args.phase c.args.c.now c.args.fold.now links);
    }

pub returns-in-Some-2 : goal.returns-in-Some-2
returns-in-Some-2 c =
    let past = goal.at.returns-in-Some-2 c in
    let fits = first_holds past.After-broken_list (point_within past.Else-not-are_within) (point_read past.In-Some) in
    record {
      answer = list-breaks c.args.program.now c.args.phase c.args.c.now c.args.fold.now c.in-Some-2.rule
          c.requires.claim c.requires.fold fits (sym c.in-Some-2.is ∙ c.in_ok-rule.ensures);
    }

pub potentials_hold-requires-clause-within : goal.potentials_hold-requires-clause-within
potentials_hold-requires-clause-within c =
    let past = goal.at.potentials_hold-requires-clause-within c in
    read_within past.In-Some (point_within past.Else-not-are_within)

pub potentials_hold-requires-clause-modest : goal.potentials_hold-requires-clause-modest
potentials_hold-requires-clause-modest c =
    all-modest c.sums.result.now.rows (subst (λ m. All IsSumRow m.rows) (sym c.sums.ensures.sums)
    c.sums.ensures.entries)

pub potentials_hold-requires-clause-cols : goal.potentials_hold-requires-clause-cols
potentials_hold-requires-clause-cols c =
    let fold = sym c.fold_parts_fit.ensures.fit ∙ c.if-not-fold_parts_fit.false in
    ap (λ t. t.cols) c.potentials.ensures.potentials ∙ cols-fit c.args.program.now c.args.fold.now c.rows.result fold
    ∙ sym (λ k. length (c.sums.ensures.sums k).rows)

pub returns-then-not-branch : goal.returns-then-not-branch
returns-then-not-branch c =
    let past = goal.at.returns-then-not-branch c in
    let is = point_read past.In-Some in
    let fits = first_holds past.After-broken_list (point_within past.Else-not-are_within) is in
    let none = sym c.in_default-2.is ∙ c.in_ok-rule.ensures in
    let held = held-test c.args.program.now c.args.phase c.args.c.now c.args.fold.now c.in-Some.point c.sums.result.now
    c.potentials.result.now c.in_ok-potentials_hold.field-0 false is c.sums.ensures.sums
    c.potentials.ensures.potentials c.in_ok-potentials_hold.ensures c.if-not-branch.true in
    record {
      answer = potentials-break c.args.program.now c.args.phase c.args.c.now c.args.fold.now c.requires.claim
          c.requires.fold fits none held;
    }

pub last_answer-requires-clause-within : goal.last_answer-requires-clause-within
last_answer-requires-clause-within c =
    let past = goal.at.last_answer-requires-clause-within c in
    read_within past.In-Some (point_within past.Else-not-are_within)

pub returns : goal.returns
returns c =
    let past = goal.at.returns c in
    let is = point_read past.In-Some in
    let fits = first_holds past.After-broken_list (point_within past.Else-not-are_within) is in
    let none = sym c.in_default-2.is ∙ c.in_ok-rule.ensures in
    let held = held-test c.args.program.now c.args.phase c.args.c.now c.args.fold.now c.in-Some.point c.sums.result.now
    c.potentials.result.now c.in_ok-potentials_hold.field-0 true is c.sums.ensures.sums
    c.potentials.ensures.potentials c.in_ok-potentials_hold.ensures c.if-not-branch.false in
    record {
      answer = c.last_answer.ensures ∙ last-decides c.args.program.now c.args.phase c.args.c.now c.args.fold.now
          c.in-Some.point c.requires.claim c.requires.fold fits none held is;
    }
