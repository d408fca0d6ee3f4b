use Rattle.std.proofs.Common.{◌≡◌, ◌+◌, ◌*◌, ◌^◌, ◌-◌, subst, sym, ap, ◌∙◌, Ok, length}
use Rattle.lattice_theory.specs.Matrices.{Matrix}
use Rattle.mat_files.specs.declared.Shape.{Shape}
use Rattle.mat_files.specs.MatrixText.{Admits}
use Rattle.fold_shelf.specs.Outside.{ForTold, OnlyReads}
use Rattle.fold_shelf.proofs.Counts.{reads_then}
use Rattle.fold_program.specs.declared.FileKind.TheVariants as file
use Rattle.fold_program.specs.declared.Parts.{Parts}
use Rattle.fold_program.specs.Parts.{program_of, related}
use Rattle.fold_files.specs.Reading.{shaped, exactly, matrix_of, relations_of, costs_of}
use Rattle.fold_files.specs.Faults.{whole_fault}
use Rattle.fold_files.proofs.CauseLaws.{of_error, read_as, refused_as}
use Rattle.fold_files.proofs.ProgramLaws.{link_of, brick_of, lower_of, upper_of, right_of, relations_for, costs_for}
use Rattle.fold_files.proofs.ProgramLaws.{brick_refused, lower_refused, upper_refused, right_refused, relations_refused}
use Rattle.fold_files.proofs.ProgramLaws.{cost_file_refused, whole_refused, program_read, accepted_whole, AreShaped}
use Rattle.fold_files.proofs.ProgramLaws.{within_limits, none_misshaped, program_refused, whole_of_no_file}
use Rattle.fold_files.proofs.files.read_program.Goals as goal
use Rattle.fold_files.proofs.files.read_program.Goals.{After-shape, After-shape-2, After-shape-3, After-shape-4}
use Rattle.fold_files.proofs.files.read_program.Goals.{After-read_matrix-2, After-read_matrix-3, After-read_matrix-4}
use Rattle.fold_files.proofs.files.read_program.Goals.{After-read_matrix-5, After-read_relations, After-read_costs}
use Rattle.fold_files.proofs.files.read_program.Goals.{In_ok-link, In_ok-brick, In_ok-lower, In_ok-upper, In_ok-right}
use Rattle.fold_files.proofs.files.read_program.Goals.{In_ok-relations, In_ok-costs}

-- ---- the shapes that are asked for

abbrev brick_shape : Matrix → Shape
brick_shape link = shaped 0 16 link.cols link.cols (2 ^ 31 - 1)

abbrev lower_shape : Matrix → Shape
lower_shape link = shaped 1 10000 link.cols link.cols (2 ^ 62)

abbrev upper_shape : Matrix → Matrix → Shape
upper_shape link lower = exactly (length lower.rows) link.cols

abbrev right_shape : Matrix → Matrix → Matrix → Shape
right_shape link brick lower = exactly 1 (length link.rows + length lower.rows * length brick.rows)

brick_shape_is : (g : _) (c : After-shape g) → c.shape.result ≡ brick_shape c.in_ok-link.link
brick_shape_is g c = c.shape.ensures ∙ (λ i. shaped 0 16 (c.cols-t.ensures.cols i) (c.cols-t.ensures.cols i)
    (2 ^ 31 - 1))

lower_shape_is : (g : _) (c : After-shape-2 g) → c.shape-2.result ≡ lower_shape c.in_ok-link.link
lower_shape_is g c = c.shape-2.ensures ∙ (λ i. shaped 1 10000 (c.cols-t.ensures.cols i) (c.cols-t.ensures.cols i)
    (2 ^ 62))

upper_shape_is : (g : _) (c : After-shape-3 g) → c.shape-3.result ≡ upper_shape c.in_ok-link.link c.in_ok-lower.lower
upper_shape_is g c = c.shape-3.ensures ∙ (λ i. exactly (c.rows-n.ensures i) (c.cols-t.ensures.cols i))

right_shape_is : (g : _) (c : After-shape-4 g) →
    c.shape-4.result ≡ right_shape c.in_ok-link.link c.in_ok-brick.brick c.in_ok-lower.lower
right_shape_is g c = c.shape-4.ensures ∙ (λ i. exactly 1 (c.rows.ensures i + c.rows-n.ensures i * c.rows-2.ensures i))

-- ---- nothing is written on the way

reads_brick : (g : _) (c : After-read_matrix-2 g) → OnlyReads (g.S.Shelf.seen c.args.shelf.now)
    (g.S.Shelf.seen c.read_matrix-2.new.shelf)
reads_brick g c = reads_then _ _ _ c.read_matrix.ensures.reads c.read_matrix-2.ensures.reads

reads_lower : (g : _) (c : After-read_matrix-3 g) → OnlyReads (g.S.Shelf.seen c.args.shelf.now)
    (g.S.Shelf.seen c.read_matrix-3.new.shelf)
reads_lower g c = reads_then _ _ _ (reads_then _ _ _ c.read_matrix.ensures.reads c.read_matrix-2.ensures.reads)
    c.read_matrix-3.ensures.reads

reads_upper : (g : _) (c : After-read_matrix-4 g) → OnlyReads (g.S.Shelf.seen c.args.shelf.now)
    (g.S.Shelf.seen c.read_matrix-4.new.shelf)
reads_upper g c =
    reads_then _ _ _ (reads_then _ _ _ (reads_then _ _ _ c.read_matrix.ensures.reads c.read_matrix-2.ensures.reads)
    c.read_matrix-3.ensures.reads) c.read_matrix-4.ensures.reads

reads_right : (g : _) (c : After-read_matrix-5 g) → OnlyReads (g.S.Shelf.seen c.args.shelf.now)
    (g.S.Shelf.seen c.read_matrix-5.new.shelf)
reads_right g c =
    reads_then _ _ _
    (reads_then _ _ _ (reads_then _ _ _ (reads_then _ _ _ c.read_matrix.ensures.reads c.read_matrix-2.ensures.reads)
    c.read_matrix-3.ensures.reads) c.read_matrix-4.ensures.reads) c.read_matrix-5.ensures.reads

reads_relations : (g : _) (c : After-read_relations g)
    → OnlyReads (g.S.Shelf.seen c.args.shelf.now) (g.S.Shelf.seen c.read_relations.new.shelf)
reads_relations g c =
    reads_then _ _ _
    (reads_then _ _ _
    (reads_then _ _ _ (reads_then _ _ _ (reads_then _ _ _ c.read_matrix.ensures.reads c.read_matrix-2.ensures.reads)
    c.read_matrix-3.ensures.reads) c.read_matrix-4.ensures.reads) c.read_matrix-5.ensures.reads)
    c.read_relations.ensures.reads

reads_costs : (g : _) (c : After-read_costs g) → OnlyReads (g.S.Shelf.seen c.args.shelf.now)
    (g.S.Shelf.seen c.read_costs.new.shelf)
reads_costs g c =
    reads_then _ _ _
    (reads_then _ _ _
    (reads_then _ _ _
    (reads_then _ _ _ (reads_then _ _ _ (reads_then _ _ _ c.read_matrix.ensures.reads c.read_matrix-2.ensures.reads)
    c.read_matrix-3.ensures.reads) c.read_matrix-4.ensures.reads) c.read_matrix-5.ensures.reads)
    c.read_relations.ensures.reads) c.read_costs.ensures.reads

-- ---- each file, after those before it

link_told : (g : _) (c : In_ok-link g) → ForTold (g.S.Shelf.seen c.args.shelf.now).files
    (λ fs. link_of c.args.prefix.now c.args.relations fs ≡ Ok c.in_ok-link.link)
link_told g c =
    subst (λ (s : Shape). ForTold (g.S.Shelf.seen c.args.shelf.now).files
    (λ fs. matrix_of fs c.args.prefix.now file.Link s ≡ Ok c.in_ok-link.link)) c.plain_shape.ensures
    c.in_ok-link.ensures.matrix

brick_told : (g : _) (c : In_ok-brick g) → ForTold (g.S.Shelf.seen c.args.shelf.now).files
    (λ fs. brick_of c.args.prefix.now c.args.relations c.in_ok-link.link fs ≡ Ok c.in_ok-brick.brick)
brick_told g c =
    let past = goal.at.In_ok-brick g c in
    read_as (λ i fs. matrix_of fs c.args.prefix.now file.Brick (brick_shape_is g past.After-shape i))
    (g.S.Shelf.seen c.args.shelf.now) (g.S.Shelf.seen c.read_matrix.new.shelf) c.read_matrix.ensures.reads
    c.in_ok-brick.brick c.in_ok-brick.ensures.matrix

pub returns-in_err-brick-clause-refused : goal.returns-in_err-brick-clause-refused
returns-in_err-brick-clause-refused g c =
    let past = goal.at.returns-in_err-brick-clause-refused g c in
    let fault = c.in_err-brick.field-0.0 in
    let cause = refused_as (λ i fs. matrix_of fs c.args.prefix.now file.Brick (brick_shape_is g past.After-shape i))
    (g.S.Shelf.seen c.args.shelf.now) (g.S.Shelf.seen c.read_matrix.new.shelf) c.read_matrix.ensures.reads
    (g.S.Shelf.seen c.read_matrix-2.new.shelf) c.args.prefix.now fault c.in_err-brick.ensures.refused in
    of_error c.from_residual-in_err-brick.result fault _ c.from_residual-in_err-brick.ensures.1
    (brick_refused (g.S.Shelf.seen c.args.shelf.now) (g.S.Shelf.seen c.read_matrix-2.new.shelf) c.args.prefix.now
    c.args.relations fault c.in_ok-link.link (link_told g past.In_ok-link)
    c.in_err-brick.ensures.file cause)

lower_told : (g : _) (c : In_ok-lower g) → ForTold (g.S.Shelf.seen c.args.shelf.now).files
    (λ fs. lower_of c.args.prefix.now c.args.relations c.in_ok-link.link fs ≡ Ok c.in_ok-lower.lower)
lower_told g c =
    let past = goal.at.In_ok-lower g c in
    read_as (λ i fs. matrix_of fs c.args.prefix.now file.Lower (lower_shape_is g past.After-shape-2 i))
    (g.S.Shelf.seen c.args.shelf.now) (g.S.Shelf.seen c.read_matrix-2.new.shelf)
    (reads_brick g past.After-read_matrix-2) c.in_ok-lower.lower c.in_ok-lower.ensures.matrix

pub returns-in_err-lower-clause-refused : goal.returns-in_err-lower-clause-refused
returns-in_err-lower-clause-refused g c =
    let past = goal.at.returns-in_err-lower-clause-refused g c in
    let fault = c.in_err-lower.field-0.0 in
    let cause = refused_as (λ i fs. matrix_of fs c.args.prefix.now file.Lower (lower_shape_is g past.After-shape-2 i))
    (g.S.Shelf.seen c.args.shelf.now) (g.S.Shelf.seen c.read_matrix-2.new.shelf)
    (reads_brick g past.After-read_matrix-2) (g.S.Shelf.seen c.read_matrix-3.new.shelf) c.args.prefix.now fault
    c.in_err-lower.ensures.refused in
    of_error c.from_residual-in_err-lower.result fault _ c.from_residual-in_err-lower.ensures.1
    (lower_refused (g.S.Shelf.seen c.args.shelf.now) (g.S.Shelf.seen c.read_matrix-3.new.shelf) c.args.prefix.now
    c.args.relations fault c.in_ok-link.link (link_told g past.In_ok-link) c.in_ok-brick.brick
    (brick_told g past.In_ok-brick)
    c.in_err-lower.ensures.file cause)

upper_told : (g : _) (c : In_ok-upper g) → ForTold (g.S.Shelf.seen c.args.shelf.now).files
    (λ fs. upper_of c.args.prefix.now c.args.relations c.in_ok-link.link c.in_ok-lower.lower fs ≡ Ok
    c.in_ok-upper.upper)
upper_told g c =
    let past = goal.at.In_ok-upper g c in
    read_as (λ i fs. matrix_of fs c.args.prefix.now file.Upper (upper_shape_is g past.After-shape-3 i))
    (g.S.Shelf.seen c.args.shelf.now) (g.S.Shelf.seen c.read_matrix-3.new.shelf)
    (reads_lower g past.After-read_matrix-3) c.in_ok-upper.upper c.in_ok-upper.ensures.matrix

pub returns-in_err-upper-clause-refused : goal.returns-in_err-upper-clause-refused
returns-in_err-upper-clause-refused g c =
    let past = goal.at.returns-in_err-upper-clause-refused g c in
    let fault = c.in_err-upper.field-0.0 in
    let cause = refused_as (λ i fs. matrix_of fs c.args.prefix.now file.Upper (upper_shape_is g past.After-shape-3 i))
    (g.S.Shelf.seen c.args.shelf.now) (g.S.Shelf.seen c.read_matrix-3.new.shelf)
    (reads_lower g past.After-read_matrix-3) (g.S.Shelf.seen c.read_matrix-4.new.shelf) c.args.prefix.now fault
    c.in_err-upper.ensures.refused in
    of_error c.from_residual-in_err-upper.result fault _ c.from_residual-in_err-upper.ensures.1
    (upper_refused (g.S.Shelf.seen c.args.shelf.now) (g.S.Shelf.seen c.read_matrix-4.new.shelf) c.args.prefix.now
    c.args.relations fault c.in_ok-link.link (link_told g past.In_ok-link) c.in_ok-brick.brick
    (brick_told g past.In_ok-brick) c.in_ok-lower.lower (lower_told g past.In_ok-lower)
    c.in_err-upper.ensures.file cause)

right_told : (g : _) (c : In_ok-right g) → ForTold (g.S.Shelf.seen c.args.shelf.now).files
    (λ fs. right_of c.args.prefix.now c.args.relations c.in_ok-link.link c.in_ok-brick.brick c.in_ok-lower.lower fs ≡ Ok
    c.in_ok-right.right)
right_told g c =
    let past = goal.at.In_ok-right g c in
    read_as (λ i fs. matrix_of fs c.args.prefix.now file.Right (right_shape_is g past.After-shape-4 i))
    (g.S.Shelf.seen c.args.shelf.now) (g.S.Shelf.seen c.read_matrix-4.new.shelf)
    (reads_upper g past.After-read_matrix-4) c.in_ok-right.right c.in_ok-right.ensures.matrix

pub returns-in_err-right-clause-refused : goal.returns-in_err-right-clause-refused
returns-in_err-right-clause-refused g c =
    let past = goal.at.returns-in_err-right-clause-refused g c in
    let fault = c.in_err-right.field-0.0 in
    let cause = refused_as (λ i fs. matrix_of fs c.args.prefix.now file.Right (right_shape_is g past.After-shape-4 i))
    (g.S.Shelf.seen c.args.shelf.now) (g.S.Shelf.seen c.read_matrix-4.new.shelf)
    (reads_upper g past.After-read_matrix-4) (g.S.Shelf.seen c.read_matrix-5.new.shelf) c.args.prefix.now fault
    c.in_err-right.ensures.refused in
    of_error c.from_residual-in_err-right.result fault _ c.from_residual-in_err-right.ensures.1
    (right_refused (g.S.Shelf.seen c.args.shelf.now) (g.S.Shelf.seen c.read_matrix-5.new.shelf) c.args.prefix.now
    c.args.relations fault c.in_ok-link.link (link_told g past.In_ok-link) c.in_ok-brick.brick
    (brick_told g past.In_ok-brick) c.in_ok-lower.lower (lower_told g past.In_ok-lower) c.in_ok-upper.upper
    (upper_told g past.In_ok-upper)
    c.in_err-right.ensures.file cause)

relations_told : (g : _) (c : In_ok-relations g) → ForTold (g.S.Shelf.seen c.args.shelf.now).files
    (λ fs. relations_for c.args.prefix.now c.args.relations c.in_ok-link.link fs ≡ Ok c.in_ok-relations.relations.items)
relations_told g c =
    let past = goal.at.In_ok-relations g c in
    read_as (λ i fs. relations_of fs c.args.prefix.now c.args.relations (c.rows-3.ensures i))
    (g.S.Shelf.seen c.args.shelf.now) (g.S.Shelf.seen c.read_matrix-5.new.shelf)
    (reads_right g past.After-read_matrix-5) c.in_ok-relations.relations.items c.in_ok-relations.ensures.relations

pub returns-in_err-relations-clause-refused : goal.returns-in_err-relations-clause-refused
returns-in_err-relations-clause-refused g c =
    let past = goal.at.returns-in_err-relations-clause-refused g c in
    let fault = c.in_err-relations.field-0.0 in
    let cause = refused_as (λ i fs. relations_of fs c.args.prefix.now c.args.relations (c.rows-3.ensures i))
    (g.S.Shelf.seen c.args.shelf.now) (g.S.Shelf.seen c.read_matrix-5.new.shelf)
    (reads_right g past.After-read_matrix-5) (g.S.Shelf.seen c.read_relations.new.shelf) c.args.prefix.now fault
    c.in_err-relations.ensures.refused in
    of_error c.from_residual-in_err-relations.result fault _ c.from_residual-in_err-relations.ensures.1
    (relations_refused (g.S.Shelf.seen c.args.shelf.now) (g.S.Shelf.seen c.read_relations.new.shelf) c.args.prefix.now
    c.args.relations fault c.in_ok-link.link (link_told g past.In_ok-link) c.in_ok-brick.brick
    (brick_told g past.In_ok-brick) c.in_ok-lower.lower (lower_told g past.In_ok-lower) c.in_ok-upper.upper
    (upper_told g past.In_ok-upper) c.in_ok-right.right (right_told g past.In_ok-right)
    c.in_err-relations.ensures.file cause)

costs_told : (g : _) (c : In_ok-costs g) → ForTold (g.S.Shelf.seen c.args.shelf.now).files
    (λ fs. costs_for c.args.prefix.now c.args.relations c.in_ok-link.link c.in_ok-lower.lower fs ≡ Ok
    c.in_ok-costs.costs.items)
costs_told g c =
    let past = goal.at.In_ok-costs g c in
    read_as (λ i fs. costs_of fs c.args.prefix.now (c.rows-n.ensures i) (c.cols-t.ensures.cols i))
    (g.S.Shelf.seen c.args.shelf.now) (g.S.Shelf.seen c.read_relations.new.shelf)
    (reads_relations g past.After-read_relations) c.in_ok-costs.costs.items c.in_ok-costs.ensures.costs

pub returns-in_err-costs-clause-refused : goal.returns-in_err-costs-clause-refused
returns-in_err-costs-clause-refused g c =
    let past = goal.at.returns-in_err-costs-clause-refused g c in
    let fault = c.in_err-costs.field-0.0 in
    let cause = refused_as (λ i fs. costs_of fs c.args.prefix.now (c.rows-n.ensures i) (c.cols-t.ensures.cols i))
    (g.S.Shelf.seen c.args.shelf.now) (g.S.Shelf.seen c.read_relations.new.shelf)
    (reads_relations g past.After-read_relations) (g.S.Shelf.seen c.read_costs.new.shelf) c.args.prefix.now fault
    c.in_err-costs.ensures.refused in
    of_error c.from_residual-in_err-costs.result fault _ c.from_residual-in_err-costs.ensures.1
    (cost_file_refused (g.S.Shelf.seen c.args.shelf.now) (g.S.Shelf.seen c.read_costs.new.shelf) c.args.prefix.now
    c.args.relations fault c.in_ok-link.link (link_told g past.In_ok-link) c.in_ok-brick.brick
    (brick_told g past.In_ok-brick) c.in_ok-lower.lower (lower_told g past.In_ok-lower) c.in_ok-upper.upper
    (upper_told g past.In_ok-upper) c.in_ok-right.right (right_told g past.In_ok-right)
    c.in_ok-relations.relations.items (relations_told g past.In_ok-relations)
    c.in_err-costs.ensures.file cause)

-- ---- the program that they make

-- the parts that were read
abbrev read_parts : (g : _) → In_ok-costs g → Parts
read_parts g c = record {
  link = c.in_ok-link.link;
  brick = c.in_ok-brick.brick;
  lower = c.in_ok-lower.lower;
  upper = c.in_ok-upper.upper;
  right = c.in_ok-right.right;
  costs = c.in_ok-costs.costs;
}

-- they have the shapes that were asked for
parts_shaped : (g : _) (c : In_ok-costs g) → AreShaped (read_parts g c)
parts_shaped g c =
    let past = goal.at.In_ok-costs g c in record {
      link = subst (λ (s : Shape). Admits s c.in_ok-link.link) c.plain_shape.ensures c.in_ok-link.ensures.shape;
      brick = subst (λ (s : Shape). Admits s c.in_ok-brick.brick) (brick_shape_is g past.After-shape)
          c.in_ok-brick.ensures.shape;
      lower = subst (λ (s : Shape). Admits s c.in_ok-lower.lower) (lower_shape_is g past.After-shape-2)
          c.in_ok-lower.ensures.shape;
      upper = subst (λ (s : Shape). Admits s c.in_ok-upper.upper) (upper_shape_is g past.After-shape-3)
          c.in_ok-upper.ensures.shape;
      right = subst (λ (s : Shape). Admits s c.in_ok-right.right) (right_shape_is g past.After-shape-4)
          c.in_ok-right.ensures.shape;
      costs = c.in_ok-costs.ensures.bounded;
      many = c.in_ok-costs.ensures.many ∙ (λ i. c.rows-n.ensures i * c.cols-t.ensures.cols i);
    }

pub new-requires : goal.new-requires
new-requires g c = record { limits = within_limits _ (parts_shaped g c) }

pub returns-in_err-program-clause-refused : goal.returns-in_err-program-clause-refused
returns-in_err-program-clause-refused g c =
    let past = goal.at.returns-in_err-program-clause-refused g c in
    let fault = c.in_err-program.field-0.0 in
    let cause = program_refused (g.S.Shelf.seen c.args.shelf.now) (g.S.Shelf.seen c.read_costs.new.shelf)
    c.args.prefix.now c.in_ok-relations.relations.items (read_parts g past.In_ok-costs)
    (none_misshaped _ (parts_shaped g past.In_ok-costs)) fault c.in_err-program.ensures.refused in
    of_error c.from_residual-in_err-program.result (whole_fault fault) _ c.from_residual-in_err-program.ensures.1
    (whole_refused (g.S.Shelf.seen c.args.shelf.now) (g.S.Shelf.seen c.read_costs.new.shelf) c.args.prefix.now
    c.args.relations (whole_fault fault) c.in_ok-link.link (link_told g past.In_ok-link) c.in_ok-brick.brick
    (brick_told g past.In_ok-brick) c.in_ok-lower.lower (lower_told g past.In_ok-lower) c.in_ok-upper.upper
    (upper_told g past.In_ok-upper) c.in_ok-right.right (right_told g past.In_ok-right)
    c.in_ok-relations.relations.items (relations_told g past.In_ok-relations) c.in_ok-costs.costs.items
    (costs_told g past.In_ok-costs)
    (whole_of_no_file file.Plain fault) cause)

pub returns-clause-program : goal.returns-clause-program
returns-clause-program g c =
    let past = goal.at.returns-clause-program g c in
    let parts = read_parts g past.In_ok-costs in
    let relations = c.in_ok-relations.relations.items in
    let is : c.with_relations.result ≡ related relations (program_of parts) =
    c.with_relations.ensures ∙ ap (related relations) c.in_ok-program.ensures.made in
    program_read (g.S.Shelf.seen c.args.shelf.now).files c.args.prefix.now c.args.relations c.in_ok-link.link
    c.in_ok-brick.brick c.in_ok-lower.lower
    c.in_ok-upper.upper c.in_ok-right.right relations c.in_ok-costs.costs.items c.with_relations.result
    (link_told g past.In_ok-link) (brick_told g past.In_ok-brick) (lower_told g past.In_ok-lower)
    (upper_told g past.In_ok-upper)
    (right_told g past.In_ok-right) (relations_told g past.In_ok-relations) (costs_told g past.In_ok-costs)
    (accepted_whole (related relations (program_of parts)) c.in_ok-program.ensures.accepted.1 ∙ ap Ok (sym is))
