use Rattle.std.proofs.Common.{arith, ◌≡◌, ◌∙◌, sym, ap, length, IsTrue}
use Rattle.std.proofs.lemmas.List.Elements.{recursion_from_All}
use Rattle.lattice_theory.specs.Lists.{greatest}
use Rattle.lattice_theory.specs.Vectors.{is_bounded}
use Rattle.fold_theory.specs.Programs.{widest}
use Rattle.lattice_laws.specs.VectorLists.{flat}
use Rattle.fold_program.proofs.PartsLaws.{bounded_flat}
use Rattle.fold_program.proofs.CostLaws.{differences_are, differences_small}
use Rattle.fold_program.proofs.program.Program.widest.Goals as goal

pub returns-clause-widest : goal.returns-clause-widest
returns-clause-widest c =
    let t = c.self.inside.link.cols in
    let low = recursion_from_All (λ row. length row ≡ t) c.self.inside.lower.rows c.self.invariant.lower_widths in
    let high = recursion_from_All (λ row. length row ≡ t) c.self.inside.upper.rows c.self.invariant.upper_widths in
    let is = rw (c.entries.ensures, c.entries-2.ensures) at c.widest_of.ensures in
    let all = differences_are t (length c.self.inside.brick.rows) c.self.inside.lower.rows c.self.inside.upper.rows _ _
    low high c.self.invariant.upper_rows in
    is ∙ sym (ap greatest all) ∙ ap widest c.self.view_is

pub returns-clause-small : goal.returns-clause-small
returns-clause-small c =
    let is = rw (c.entries.ensures, c.entries-2.ensures) at c.widest_of.ensures in
    let low = recursion_from_All (λ a. IsTrue (is_bounded a)) (flat c.self.inside.lower.rows)
    (bounded_flat c.self.inside.lower.rows c.self.invariant.lower_bounded) in
    let high = recursion_from_All (λ a. IsTrue (is_bounded a)) (flat c.self.inside.upper.rows)
    (bounded_flat c.self.inside.upper.rows c.self.invariant.upper_bounded) in
    let small = differences_small _ _ low high in
    omega (arith, is, small)
