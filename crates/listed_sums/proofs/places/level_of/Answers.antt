use Rattle.std.proofs.Common.{rules, arith, ◌≡◌, ◌+◌, ◌-◌, sym, pos, get_or, IfSome, slice_get, subst, w64, FitsSigned}
use Rattle.std.proofs.lemmas.Int.{to_z-of_z}
use Rattle.listed_sums.specs.Places.{sums_of}
use Rattle.listed_sums.proofs.RowLaws.{level-at}
use Rattle.listed_sums.proofs.places.level_of.Goals as goal

pub returns : goal.returns
returns c =
    let place : c.args.place + 1 - 1 ≡ c.args.place = omega arith in
    let there = rw place at c.row.ensures.entries in
    let fits : FitsSigned w64 (get_or c.row.result.now 0 (pos 0)) = search rules in
    let read = simp to_z-of_z at c.unsigned_abs.ensures.value in
    subst (λ n. IfSome (slice_get (sums_of c.args.sums.now.rows) c.args.place) (λ s. s.level ≡ n)) (sym read)
    (level-at c.args.sums.now.rows c.args.place c.row.result.now there)
