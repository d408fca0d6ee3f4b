use Rattle.std.proofs.Common.{arith, ◌≡◌, ◌≤◌, ◌+◌, ◌&&◌, ◌∙◌, sym, ap, subst, length, map, Some, slice_get, Option, ℤ}
use Rattle.std.proofs.Common.{Vec, Global, List}
use Rattle.std.specs.List.{All}
use Rattle.std.proofs.lemmas.List.{length-map}
use Rattle.std.proofs.lemmas.Result.{IfOk-weaker}
use Rattle.fold_theory.specs.Programs.{link_rests}
use Rattle.run_theory.specs.Checker.{layers_hold}
use Rattle.listed_sums.specs.Places.{vectors_of}
use Rattle.listed_sums.proofs.RowLaws.{length-vectors_of}
use Rattle.listed_potentials.specs.Moves.{all_changes}
use Rattle.listed_potentials.specs.Columns.{columns_hold}
use Rattle.listed_potentials.specs.Ends.{ends_hold}
use Rattle.listed_potentials.proofs.RowLaws.{layers-decide, ends-fail, ends-pass, widths-of, length-changes}
use Rattle.listed_potentials.proofs.RowLaws.{changes-of-width, unmapped}
use Rattle.listed_potentials.proofs.layers.layers_hold.Goals as goal
use Rattle.listed_potentials.proofs.layers.layers_hold.Goals.{After-row-last}

-- the layers hold where the columns do and the ends
decided : (c : After-row-last) →
    layers_hold c.args.program.now c.args.phase (vectors_of c.args.sums.now.rows)
    (link_rests c.args.program.now c.args.point.now) c.args.program.now.bricks c.args.point.now
    c.args.potentials.now.rows
    ≡ (columns_hold (all_changes c.args.phase (vectors_of c.args.sums.now.rows) c.args.program.now.bricks
    c.args.point.now) (vectors_of c.args.sums.now.rows) c.args.potentials.now.rows 0
    (vectors_of c.args.sums.now.rows)
    && ends_hold c.args.program.now c.args.phase (vectors_of c.args.sums.now.rows)
    (link_rests c.args.program.now c.args.point.now) c.row-last.result.now)
decided c =
    let p = c.args.program.now in
    let rows = c.args.potentials.now.rows in
    let x = c.args.point.now in
    let widths = widths-of c.args.sums.now.rows rows _ c.cols.ensures.each_row (c.cols.ensures.cols
    ∙ c.requires.cols) in
    layers-decide p c.args.phase (vectors_of c.args.sums.now.rows) (link_rests p x) x rows c.row-last.result.now
    c.requires.shape.bricks c.requires.layers widths (ap (slice_get rows) (sym c.n.ensures.bricks)
    ∙ c.row-last.ensures.cells)

pub returns-then-not-branch : goal.returns-then-not-branch
returns-then-not-branch c =
    let past = goal.at.returns-then-not-branch c in
    ends-fail _ _ _ (decided past.After-row-last)
    (sym c.in_ok-ends_hold.ensures ∙ c.if-not-branch.true)

pub columns_hold-requires-clause-layers : goal.columns_hold-requires-clause-layers
columns_hold-requires-clause-layers c =
    let items = λ (v : Vec (Option ℤ) Global). v.items in
    let p = c.args.program.now in
    let zs = vectors_of c.args.sums.now.rows in
    omega (
      arith,
      c.requires.layers,
      ap length c.deref.ensures.value,
      length-map c.in_ok-changes.changes.items items,
      ap length c.in_ok-changes.ensures.changes,
      length-changes c.args.phase zs p.bricks c.args.point.now c.requires.shape.bricks,
    )

pub columns_hold-requires-clause-bricks : goal.columns_hold-requires-clause-bricks
columns_hold-requires-clause-bricks c =
    let items = λ (v : Vec (Option ℤ) Global). v.items in
    let p = c.args.program.now in
    let zs = vectors_of c.args.sums.now.rows in
    omega (
      arith,
      c.n.ensures.bricks,
      c.n.ensures.to,
      ap length c.deref.ensures.value,
      length-map c.in_ok-changes.changes.items items,
      ap length c.in_ok-changes.ensures.changes,
      length-changes c.args.phase zs p.bricks c.args.point.now c.requires.shape.bricks,
    )

pub columns_hold-requires-clause-widths : goal.columns_hold-requires-clause-widths
columns_hold-requires-clause-widths c =
    let items = λ (v : Vec (Option ℤ) Global). v.items in
    let p = c.args.program.now in
    let zs = vectors_of c.args.sums.now.rows in
    let wide = changes-of-width c.args.phase zs p.bricks c.args.point.now (map items c.in_ok-changes.changes.items)
    c.in_ok-changes.ensures.changes in
    let each = unmapped items (λ cs. length cs ≡ length zs) c.in_ok-changes.changes.items wide in
    subst (λ n. All (λ (cs : Vec (Option ℤ) Global). length cs.items ≡ n) c.deref.result.now)
    (length-vectors_of c.args.sums.now.rows)
    (subst (All (λ (cs : Vec (Option ℤ) Global). length cs.items ≡ length zs)) (sym c.deref.ensures.value) each)

pub returns : goal.returns
returns c =
    let items = λ (v : Vec (Option ℤ) Global). v.items in
    let p = c.args.program.now in
    let zs = vectors_of c.args.sums.now.rows in
    let rows = c.args.potentials.now.rows in
    let x = c.args.point.now in
    let past = goal.at.returns c in
    let changes = ap (map items) c.deref.ensures.value ∙ c.in_ok-changes.ensures.changes in
    IfOk-weaker c.columns_hold.result
    (λ b. b ≡ columns_hold (map items c.deref.result.now) zs rows 0 zs)
    (λ b. b ≡ layers_hold p c.args.phase zs (link_rests p x) p.bricks x rows)
    (λ b is. is ∙ ap (λ cs. columns_hold cs zs rows 0 zs) changes
    ∙ ends-pass _ _ _ (decided past.After-row-last)
    (sym c.in_ok-ends_hold.ensures ∙ c.if-not-branch.false))
    c.columns_hold.ensures
