use Rattle.std.proofs.Common.{◌≡◌, ◌+◌, ◌∙◌, [], ◌∷◌, None, sym, subst, length, All}
use Rattle.std.proofs.lemmas.List.Elements.{All-nil, All-cons}
use Rattle.lattice_theory.specs.Matrices.{Matrix}
use Rattle.lattice_theory.specs.Vectors.{IsBoundedRow}
use Rattle.run_theory.specs.declared.Claim.TheVariants as claim
use Rattle.run_theory.specs.Outcomes.{matrix_of_bricks, point_matrix}
use Rattle.augment_run.proofs.RowLists.{within_width, within_bounded, one_row}
use Rattle.augment_run.proofs.certifying.certificate_on_brick.Goals as goal

pub on_brick-requires-clause-bounded : goal.on_brick-requires-clause-bounded
on_brick-requires-clause-bounded c =
    let p = c.args.program.now in
    let v = c.args.point.now in
    let width : length v ≡ c.t.result = within_width p c.args.brick v c.n.ensures.program c.requires.within
    ∙ sym c.t.ensures.cols in
    let row = one_row c.t.result v c.in_ok-entries.entries.items c.in_ok-entries.ensures.items width in
    let bounded : All IsBoundedRow (v ∷ []) =
    All-cons IsBoundedRow v [] (within_bounded p c.args.brick v c.n.ensures.bounded c.requires.within)
    (All-nil IsBoundedRow) in
    subst (λ (m : Matrix). All IsBoundedRow m.rows) (sym c.new-point.ensures)
    (subst (All IsBoundedRow) (sym row) bounded)

pub returns : goal.returns
returns c =
    let p = c.args.program.now in
    let v = c.args.point.now in
    let elements = c.args.bricks.now.elements in
    let width : length v ≡ c.t.result = within_width p c.args.brick v c.n.ensures.program c.requires.within
    ∙ sym c.t.ensures.cols in
    let row = one_row c.t.result v c.in_ok-entries.entries.items c.in_ok-entries.ensures.items width in
    let cols = c.t.ensures.brick_cols in
    let point : c.new-point.result ≡ point_matrix p (v ∷ []) = c.new-point.ensures
    ∙ (λ i. record { cols = cols i; rows = row i }) in
    let wide = c.t-2.ensures.brick_cols in
    let high = c.s.ensures.rows in
    let bricks : c.in_ok-bricks.bricks ≡ matrix_of_bricks p elements =
    c.in_ok-bricks.ensures.matrix ∙ (λ i. record { cols = wide i + high i; rows = elements }) in
    c.on_brick.ensures
    ∙ (λ i. record { claim = claim.InfeasibleBrick c.args.brick; point = point i; bricks = bricks i; fold = None })
