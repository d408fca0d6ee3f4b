use Rattle.std.proofs.Common.{◌≡◌, ◌∙◌, ◌*◌, ◌+◌, sym, ap, subst, refl, All, IsTrue, length, pos, replicate}
use Rattle.std.proofs.lemmas.List.Elements.{All-replicate}
use Rattle.lattice_theory.specs.Vectors.{is_bounded, IsBoundedRow}
use Rattle.lattice_theory.specs.Matrices.{Matrix}
use Rattle.lattice_laws.proofs.VectorLists.{length_rows_of}
use Rattle.fold_program.proofs.PointLaws.{bounded_rows}
use Rattle.fold_gen.proofs.TransportLaws.{length-uppers, length-costs, program_made}
use Rattle.fold_gen.proofs.AcceptedLaws.{well_shaped}
use Rattle.fold_gen.proofs.programs.parts.Goals as goal

pub new-requires-2 : goal.new-requires-2
new-requires-2 c = ap length c.in_ok-upper.ensures.uppers ∙ length-uppers c.args.customers.now

pub returns-clause-limits : goal.returns-clause-limits
returns-clause-limits c =
    let n = length c.args.customers.now in
    let zeros : c.in_ok-lower.lower.items ≡ replicate (3 * n) (pos 0) =
    c.in_ok-lower.ensures.items_if_clones_equal (λ y e. e) in
    let small : IsBoundedRow c.in_ok-lower.lower.items =
    subst IsBoundedRow (sym zeros) (All-replicate (λ a. IsTrue (is_bounded a)) (3 * n) (pos 0) refl) in
    record {
      link = c.in_ok-link.ensures.narrow;
      brick = c.in_ok-brick.ensures.narrow;
      lower =
          subst (λ (m : Matrix). All IsBoundedRow m.rows) (sym c.new.ensures)
          (bounded_rows n 3 c.in_ok-lower.lower.items small);
      upper =
          subst (λ (m : Matrix). All IsBoundedRow m.rows) (sym c.new-2.ensures)
          (bounded_rows n 3 c.in_ok-upper.upper.items c.in_ok-upper.ensures.bounded);
      right =
          subst (λ (m : Matrix). All IsBoundedRow m.rows) (sym c.new-3.ensures)
          (bounded_rows 1 (3 + n) c.in_ok-right.right.items c.in_ok-right.ensures.bounded);
      costs = c.in_ok-costs.ensures.numbers;
    }

pub returns-clause-program : goal.returns-clause-program
returns-clause-program c =
    let n = length c.args.customers.now in
    let zeros : c.in_ok-lower.lower.items ≡ replicate (3 * n) (pos 0) =
    c.in_ok-lower.ensures.items_if_clones_equal (λ y e. e) in
    rw (
      c.in_ok-link.ensures.links,
      c.in_ok-brick.ensures.shares,
      c.new.ensures,
      c.new-2.ensures,
      c.new-3.ensures,
      zeros,
      c.in_ok-upper.ensures.uppers,
      c.in_ok-costs.ensures.costs,
    )
    (program_made c.args.customers.now c.in_ok-right.right.items c.in_ok-right.ensures.rights)

pub returns-clause-shaped : goal.returns-clause-shaped
returns-clause-shaped c =
    let n = length c.args.customers.now in
    well_shaped (record {
      link = c.in_ok-link.link;
      brick = c.in_ok-brick.brick;
      lower = c.new.result;
      upper = c.new-2.result;
      right = c.new-3.result;
      costs = c.in_ok-costs.costs;
    }) n
    c.requires.some c.requires.few c.in_ok-link.ensures.links c.in_ok-brick.ensures.shares
    (ap (λ (m : Matrix). length m.rows) c.new.ensures ∙ length_rows_of n 3 c.in_ok-lower.lower.items)
    (ap (λ (m : Matrix). m.cols) c.new.ensures)
    (ap (λ (m : Matrix). length m.rows) c.new-2.ensures ∙ length_rows_of n 3 c.in_ok-upper.upper.items)
    (ap (λ (m : Matrix). m.cols) c.new-2.ensures)
    (ap (λ (m : Matrix). length m.rows) c.new-3.ensures) (ap (λ (m : Matrix). m.cols) c.new-3.ensures)
    (ap length c.in_ok-costs.ensures.costs ∙ length-costs c.args.customers.now)
