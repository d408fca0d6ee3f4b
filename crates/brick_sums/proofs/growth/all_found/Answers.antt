use Rattle.std.proofs.Common.{◌≡◌, ◌≤◌, ◌∷◌, [], ◌∙◌, arith, ap, sym, subst, length, suc}
use Rattle.std.proofs.lemmas.List.{length-map}
use Rattle.std.proofs.lemmas.Result.{err_from_is_err_and}
use Rattle.lattice_theory.specs.Vectors.{zeros}
use Rattle.lattice_theory.specs.SignedSums.{Sum, AreSums}
use Rattle.brick_sums.specs.Levels.{sums_of, kept, AreLast}
use Rattle.brick_sums.proofs.LevelLaws.{AreSums-stopped, IsSumsFault-more}
use Rattle.brick_sums.proofs.FoundLaws.{AreSums-zero, AreLast-zero}
use Rattle.brick_sums.proofs.growth.all_found.Goals as goal

pub loop-level-init : goal.loop-level-init
loop-level-init c =
    let t = c.args.gens.now.cols in
    let gens = c.args.gens.now.rows in
    let sums : sums_of c.in_ok-found.found.levels.entries ≡ record { level = 0; vector = zeros t } ∷ [] =
    c.in_ok-found.ensures.0 ∙ ap (λ n. record { level = 0; vector = zeros n } ∷ []) c.cols.ensures.cols in
    let last : kept c.in_ok-found.found.last.items ≡ zeros t ∷ [] = c.in_ok-found.ensures.1
    ∙ ap (λ n. zeros n ∷ []) c.cols.ensures.cols in
    let one : length (sums_of c.in_ok-found.found.levels.entries) ≡ 1 = ap length sums in
    record {
      listed = subst (AreSums t gens 0) (sym sums) (AreSums-zero t gens);
      last = subst (λ ss. AreLast t gens 0 ss (kept c.in_ok-found.found.last.items)) (sym sums)
          (subst (AreLast t gens 0 (record { level = 0; vector = zeros t } ∷ [])) (sym last) (AreLast-zero t gens));
      longer = omega (arith, one);
      few = omega (arith, one, c.requires.least);
    }

pub returns-in_err-add_level-clause-refused : goal.returns-in_err-add_level-clause-refused
returns-in_err-add_level-clause-refused c =
    let below : suc c.loop-level.level ≤ c.args.g = omega arith in
    let fault = err_from_is_err_and c.from_residual-in_err-add_level.result
    c.from_residual-in_err-add_level.ensures.1 in
    rw (fault.1, fault.2) (IsSumsFault-more c.args.gens.now _ c.args.g c.args.most _ below
    c.in_err-add_level.ensures.refused)

-- the level added nothing
pub returns-then-len-before-clause-sums : goal.returns-then-len-before-clause-sums
returns-then-len-before-clause-sums c =
    let old = c.loop-level.found.levels.entries in
    let new = c.add_level.new.found.levels.entries in
    let below : c.loop-level.level ≤ c.args.g = omega arith in
    let same : length (sums_of new) ≡ length (sums_of old) =
    omega (
      arith,
      c.len.ensures.len,
      c.len-before.ensures.len,
      c.if-len-before.true,
      length-map {B = Sum} old (λ e. record { level = e.1; vector = e.0.items }),
      length-map {B = Sum} new (λ e. record { level = e.1; vector = e.0.items }),
    ) in
    AreSums-stopped _ _ c.loop-level.level c.args.g _ _ below same c.in_ok-add_level.ensures.grown
    c.loop-level.invariant.listed c.in_ok-add_level.ensures.sums
