use Rattle.std.proofs.Common.{◌≡◌, ◌≤◌, ◌+◌, ◌-◌, arith, rules, refl, length, FitsSigned, w64}
use Rattle.std.proofs.lemmas.Int.{to_z-of_z}
use Rattle.lattice_theory.specs.BasisLimits.{IsNarrow}
use Rattle.lattice_laws.proofs.Places.{slice_get-All}
use Rattle.graver_complexity.proofs.LinkLaws.{products_none, products_more, products_all, wide_product}
use Rattle.graver_complexity.proofs.images.add_row.Goals as goal

pub loop-j-init : goal.loop-j-init
loop-j-init c = products_none c.args.link.now c.args.g2.now.rows c.args.entries.now.items

pub loop-j-preserved : goal.loop-j-preserved
loop-j-preserved c =
    let place : c.loop-j.j + 1 - 1 ≡ c.loop-j.j = omega arith in
    let told = c.in-Some.ensures in
    let fits : FitsSigned w64 c.in-Some.entry = search rules in
    let pushed = simp to_z-of_z at c.in_ok-push.ensures.items in
    products_more c.args.link.now c.args.g2.now.rows c.loop-j.j c.row.result.now c.args.entries.now.items
    c.loop-j.entries.items c.push.new.self.items c.in-Some.entry (rw place at c.row.ensures.entries) told.1 told.0
    pushed
    c.loop-j.invariant

pub narrow_product-requires-clause-second : goal.narrow_product-requires-clause-second
narrow_product-requires-clause-second c =
    slice_get-All IsNarrow c.args.g2.now.rows _ _ c.row.ensures.entries c.requires.kernel

pub returns-in_default-clause-refused : goal.returns-in_default-clause-refused
returns-in_default-clause-refused c =
    let place : c.loop-j.j + 1 - 1 ≡ c.loop-j.j = omega arith in (
      refl,
      wide_product c.args.link.now c.args.g2.now.rows c.loop-j.j c.row.result.now c.args.entries.now.items
          c.loop-j.entries.items _ (rw place at c.row.ensures.entries) refl c.in_default.ensures c.loop-j.invariant,
    )

pub returns : goal.returns
returns c =
    let all : length c.args.g2.now.rows ≤ c.loop-j.j = omega (arith, c.rows-j-end.ensures, c.loop-j-test.false) in
    let both =
    products_all c.args.link.now c.args.g2.now.rows c.loop-j.j c.args.entries.now.items c.loop-j.entries.items all
    c.loop-j.invariant in
    record { products = both.0; small = both.1; refused = tt }
