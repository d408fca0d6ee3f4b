use Rattle.std.proofs.Common.{◌∙◌, sym, subst, ◌≡◌, false, ap}
use Rattle.std.specs.List.{Contains}
use Rattle.lattice_theory.specs.SignedSums.{vectors}
use Rattle.brick_sums.specs.Levels.{sums_of, kept}
use Rattle.brick_sums.proofs.FoundLaws.{has_key, key-there, found-there, found-came}
use Rattle.brick_sums.proofs.growth.offer.Goals as goal

pub returns-then-contains_key : goal.returns-then-contains_key
returns-then-contains_key c =
    let es = c.args.found.now.levels.entries in
    found-there c.args.level c.args.vector.items es (kept c.args.found.now.last.items) c.requires
    (subst (Contains (vectors (sums_of es))) c.as_slice.ensures.value
    (key-there c.as_slice.result.now es (sym c.contains_key.ensures ∙ c.if-contains_key.true)))

pub returns : goal.returns
returns c =
    let es = c.args.found.now.levels.entries in
    let lacks : has_key c.args.vector.items es ≡ false = ap (λ v. has_key v es) (sym c.as_slice.ensures.value)
    ∙ sym c.contains_key.ensures ∙ c.if-contains_key.false in
    found-came c.args.level c.args.vector c.in_ok-from_slice.field-0 es c.insert.new.self.entries
    c.args.found.now.last.items c.push.new.self.items c.in_ok-insert.ensures.entries c.in_ok-insert.ensures.ordered
    lacks
    c.in_ok-push.ensures.items (c.in_ok-from_slice.ensures.items ∙ c.deref.ensures.value)
