use Rattle.std.proofs.Common.{arith, ◌≡◌, ◌≤◌, ◌+◌, ◌-◌, ◌*◌, ◌++◌, ◌∙◌, sym, ap, length, map, take, subst, option_map}
use Rattle.std.proofs.Common.{Some, None}
use Rattle.std.specs.List.{All}
use Rattle.std.proofs.lemmas.List.{take_all}
use Rattle.lattice_theory.specs.Vectors.{Vector, dot}
use Rattle.lattice_theory.specs.Matrices.{Matrix, rows_of}
use Rattle.lattice_theory.specs.BasisLimits.{IsNarrow}
use Rattle.listed_links.specs.Images.{AreImages}
use Rattle.listed_links.proofs.RowLaws.{stands-length, stands-rows}
use Rattle.listed_links.proofs.ImageLaws.{not-all-narrow, matrix-more}
use Rattle.listed_links.proofs.images.link_matrix.Goals as goal

pub returns-in_default : goal.returns-in_default
returns-in_default c =
    let place : c.loop-row.row + 1 - 1 ≡ c.loop-row.row = omega arith in
    let there = rw place at c.row.ensures.entries in
    let gens = c.args.generators.now.rows in
    not-all-narrow c.args.link.now.rows (λ r. map (dot r) gens) c.loop-row.row c.row.result.now there
    (subst (λ o. AreImages c.row.result.now gens (option_map (λ v. v.items) o)) c.in_default.is c.in_ok-images.ensures)

pub loop-row-preserved : goal.loop-row-preserved
loop-row-preserved c =
    let place : c.loop-row.row + 1 - 1 ≡ c.loop-row.row = omega arith in
    let there = rw place at c.row.ensures.entries in
    let gens = c.args.generators.now.rows in
    let are = subst (λ o. AreImages c.row.result.now gens (option_map (λ v. v.items) o)) c.in-Some.is
    c.in_ok-images.ensures in
    let added = c.in_ok-extend_from_slice.ensures.items
    ∙ ap (λ v. c.loop-row.entries.items ++ v) c.deref.ensures.value in
    let more = matrix-more c.args.link.now.rows gens c.loop-row.row c.row.result.now c.in-Some.images.items
    c.extend_from_slice.new.self.items c.loop-row.entries.items there are.0 are.1 added c.loop-row.invariant.stands
    c.loop-row.invariant.narrow in
    record { stands = more.0; narrow = more.1 }

pub new-requires : goal.new-requires
new-requires c =
    let all : c.loop-row.row ≡ c.rows.result =
    omega (arith, c.rows.ensures, c.rows-row-end.ensures, c.loop-row-test.false, c.loop-row.auto.row-end) in
    stands-length (length c.args.generators.now.rows) _ c.loop-row.row c.loop-row.entries.items
    c.loop-row.invariant.stands
    ∙ (λ i. all i * sym c.rows-2.ensures i)

pub returns : goal.returns
returns c =
    let link = c.args.link.now.rows in
    let gens = c.args.generators.now.rows in
    let f = λ (r : Vector). map (dot r) gens in
    let all : c.loop-row.row ≡ c.rows.result =
    omega (arith, c.rows.ensures, c.rows-row-end.ensures, c.loop-row-test.false, c.loop-row.auto.row-end) in
    let past : length link ≤ c.loop-row.row = omega (arith, c.rows-row-end.ensures, c.loop-row-test.false) in
    let whole : map f (take c.loop-row.row link) ≡ map f link = ap (map f) (take_all c.loop-row.row link past) in
    let rows : rows_of c.rows.result c.rows-2.result c.loop-row.entries.items ≡ map f link =
    (λ i. rows_of (sym all i) (c.rows-2.ensures i) c.loop-row.entries.items)
    ∙ stands-rows (length gens) _ c.loop-row.row c.loop-row.entries.items c.loop-row.invariant.stands ∙ whole in
    let matrix = c.new.ensures ∙ (λ i. record { cols = c.rows-2.ensures i; rows = rows i }) in
    (matrix, subst (λ m. All IsNarrow m.rows) (sym matrix) (subst (All IsNarrow) whole c.loop-row.invariant.narrow))
