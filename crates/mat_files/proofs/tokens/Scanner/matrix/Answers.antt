use Rattle.std.proofs.Common.{◌≡◌, ◌*◌, ◌≤◌, ℤ, All, length, unsigned_abs, ap, ◌∙◌, subst, sym, refl}
use Rattle.lattice_theory.specs.Matrices.{Matrix}
use Rattle.lattice_laws.proofs.VectorLists.{length_rows_of}
use Rattle.mat_files.proofs.ShapeLaws.{numbers_read, All-rows_of}
use Rattle.mat_files.proofs.tokens.Scanner.matrix.Goals as goal

pub new-requires : goal.new-requires
new-requires c =
    let product : c.from.result * c.from-2.result ≡ c.args.rows * c.args.cols = rw (c.from.ensures, c.from-2.ensures)
    refl in
    (numbers_read c.args.largest (c.from.result * c.from-2.result) c.args.self.now c.add_numbers.new.self
    c.new-entries.result.items
    c.add_numbers.new.numbers.items c.new-entries.ensures.items c.in_ok-add_numbers.ensures.read).0 ∙ product

pub returns-clause-height : goal.returns-clause-height
returns-clause-height c =
    ap (λ (m : Matrix). length m.rows) c.new.ensures ∙ length_rows_of c.args.rows c.args.cols
    c.add_numbers.new.numbers.items

pub returns-clause-small : goal.returns-clause-small
returns-clause-small c =
    let small = λ (a : ℤ). unsigned_abs a ≤ c.args.largest in
    let all =
    (numbers_read c.args.largest (c.from.result * c.from-2.result) c.args.self.now c.add_numbers.new.self
    c.new-entries.result.items
    c.add_numbers.new.numbers.items c.new-entries.ensures.items c.in_ok-add_numbers.ensures.read).1 in
    subst (λ (m : Matrix). All (λ row. All small row) m.rows) (sym c.new.ensures)
    (All-rows_of small c.args.rows c.args.cols c.add_numbers.new.numbers.items all)
