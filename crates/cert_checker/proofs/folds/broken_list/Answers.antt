use Rattle.std.proofs.Common.{◌≡◌, nat_le, true, false, All, sym, ◌∙◌, subst}
use Rattle.lattice_theory.specs.Lattices.{is_complete_for}
use Rattle.run_theory.specs.Links.{link_matrix, complexity}
use Rattle.run_theory.specs.Checker.{listed_links}
use Rattle.certificate.specs.Readable.{IsSumRow}
use Rattle.listed_links.specs.Images.{IsLinkMatrix}
use Rattle.listed_links.proofs.ImageLaws.{wide-incomplete}
use Rattle.cert_checker.proofs.FoldLaws.{third-breaks, fourth-breaks, fifth-breaks, none-breaks, brick-test, links-test}
use Rattle.cert_checker.proofs.FoldLaws.{light-test, closed-test, all-modest}
use Rattle.cert_checker.proofs.folds.broken_list.Goals as goal
use Rattle.cert_checker.proofs.folds.broken_list.Goals.{In-Some, Else-not-branch}
use Rattle.cert_checker.proofs.folds.broken_list.Goals.{Else-not-branch-2, Else-not-is_bound}

-- the basis of a brick is complete
second_holds : (c : Else-not-branch) → is_complete_for c.args.program.now.brick c.args.c.now.bricks.rows ≡ true
second_holds c =
    brick-test c.args.program.now c.args.c.now c.brick.result.now c.bricks.result.now c.in_ok-is_complete.field-0 true
    c.brick.ensures.brick c.bricks.ensures.bricks c.in_ok-is_complete.ensures c.if-not-branch.false

-- the matrix that is read is that of the listed links
matrix_read : (c : In-Some) → c.in-Some.matrix ≡ listed_links c.args.program.now c.args.c.now
matrix_read c =
    (subst (IsLinkMatrix c.link.result.now c.args.generators.now.rows) c.in-Some.is c.in_ok-matrix.ensures).0
    ∙ (λ k. link_matrix (c.link.ensures.link k) (c.requires.generators k))

-- the listed links are complete
third_holds : (c : Else-not-branch-2) → c.in-Some.matrix ≡ listed_links c.args.program.now c.args.c.now →
    is_complete_for (listed_links c.args.program.now c.args.c.now) c.args.fold.now.links.rows ≡ true
third_holds c matrix =
    links-test c.args.program.now c.args.c.now c.args.fold.now c.in-Some.matrix c.links-links.result.now
    c.in_ok-is_complete-2.field-0 true matrix c.links-links.ensures.links c.in_ok-is_complete-2.ensures
    c.if-not-branch-2.false

-- none of them is above the bound
fourth_holds : (c : Else-not-is_bound) → c.in-Some.matrix ≡ listed_links c.args.program.now c.args.c.now →
    nat_le (complexity c.args.phase c.args.program.now.relations (listed_links c.args.program.now c.args.c.now)
    c.args.fold.now.links.rows) c.args.fold.now.bound ≡ true
fourth_holds c matrix =
    light-test c.args.program.now c.args.phase c.args.c.now c.args.fold.now c.relations.result.now c.in-Some.matrix
    c.links-links.result.now c.bound.result c.is_bound.result true c.relations.ensures.relations matrix
    c.links-links.ensures.links c.bound.ensures.bound c.is_bound.ensures c.if-not-is_bound.false

pub returns-in_default : goal.returns-in_default
returns-in_default c =
    let past = goal.at.returns-in_default c in
    let two = second_holds past.Else-not-branch in
    let wide = subst (IsLinkMatrix c.link.result.now c.args.generators.now.rows) c.in_default.is
    c.in_ok-matrix.ensures in
    let three : is_complete_for (listed_links c.args.program.now c.args.c.now) c.args.fold.now.links.rows ≡ false =
    sym (λ k. is_complete_for (link_matrix (c.link.ensures.link k) (c.requires.generators k))
    c.args.fold.now.links.rows)
    ∙ wide-incomplete c.link.result.now c.args.generators.now.rows c.args.fold.now.links.rows
    c.links-links.ensures.narrow wide in
    third-breaks _ _ _ _ two three

pub returns-then-not-branch-2 : goal.returns-then-not-branch-2
returns-then-not-branch-2 c =
    let past = goal.at.returns-then-not-branch-2 c in
    let two = second_holds past.Else-not-branch in
    let matrix = matrix_read past.In-Some in
    let three = links-test c.args.program.now c.args.c.now c.args.fold.now c.in-Some.matrix c.links-links.result.now
    c.in_ok-is_complete-2.field-0 false matrix c.links-links.ensures.links c.in_ok-is_complete-2.ensures
    c.if-not-branch-2.true in
    third-breaks _ _ _ _ two three

pub returns-then-not-is_bound : goal.returns-then-not-is_bound
returns-then-not-is_bound c =
    let past = goal.at.returns-then-not-is_bound c in
    let two = second_holds past.Else-not-branch in
    let matrix = matrix_read past.In-Some in
    let three = third_holds past.Else-not-branch-2 matrix in
    let four = light-test c.args.program.now c.args.phase c.args.c.now c.args.fold.now c.relations.result.now
    c.in-Some.matrix c.links-links.result.now c.bound.result c.is_bound.result false c.relations.ensures.relations
    matrix c.links-links.ensures.links c.bound.ensures.bound c.is_bound.ensures c.if-not-is_bound.true in
    fourth-breaks _ _ _ _ two three four

pub are_closed-requires-clause-modest : goal.are_closed-requires-clause-modest
are_closed-requires-clause-modest c =
    all-modest c.sums.result.now.rows (subst (λ m. All IsSumRow m.rows) (sym c.sums.ensures.sums)
    c.sums.ensures.entries)

pub returns-then-not-branch-3 : goal.returns-then-not-branch-3
returns-then-not-branch-3 c =
    let past = goal.at.returns-then-not-branch-3 c in
    let two = second_holds past.Else-not-branch in
    let matrix = matrix_read past.In-Some in
    let three = third_holds past.Else-not-branch-2 matrix in
    let four = fourth_holds past.Else-not-is_bound matrix in
    let five = closed-test c.args.program.now c.args.c.now c.args.fold.now c.args.generators.now.cols
    c.args.generators.now.rows c.bound-2.result c.sums.result.now c.in_ok-are_closed.field-0 false (c.requires.cols
    ∙ sym c.t-cols.ensures.cols ∙ c.t-cols.ensures.brick_cols) c.requires.generators c.bound-2.ensures.bound
    c.sums.ensures.sums c.in_ok-are_closed.ensures c.if-not-branch-3.true in
    fifth-breaks _ _ _ _ two three four five

pub returns : goal.returns
returns c =
    let past = goal.at.returns c in
    let two = second_holds past.Else-not-branch in
    let matrix = matrix_read past.In-Some in
    let three = third_holds past.Else-not-branch-2 matrix in
    let four = fourth_holds past.Else-not-is_bound matrix in
    let five = closed-test c.args.program.now c.args.c.now c.args.fold.now c.args.generators.now.cols
    c.args.generators.now.rows c.bound-2.result c.sums.result.now c.in_ok-are_closed.field-0 true (c.requires.cols
    ∙ sym c.t-cols.ensures.cols ∙ c.t-cols.ensures.brick_cols) c.requires.generators c.bound-2.ensures.bound
    c.sums.ensures.sums c.in_ok-are_closed.ensures c.if-not-branch-3.false in
    none-breaks _ _ _ _ two three four five
