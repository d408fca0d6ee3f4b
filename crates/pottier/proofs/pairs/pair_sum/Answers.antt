use Rattle.std.proofs.Common.{rules, arith, ◌≡◌, ◌∙◌, ◌^◌, cond, ap, sym}
use Rattle.std.proofs.lemmas.Result.{IfOk-weaker}
use Rattle.lattice_theory.specs.Vectors.{add, sub, opposite}
use Rattle.lattice_laws.proofs.Signs.{agrees}
use Rattle.lattice_laws.proofs.Completion.{new_entry}
use Rattle.lattice_laws.proofs.Conformal.{sub-opposite}
use Rattle.vector_sums.proofs.CallerLemmas.{IsSmall-below, IsBounded-below}
use Rattle.pottier.specs.Partners.{partner, sum_of_pair}
use Rattle.pottier.proofs.pairs.pair_sum.Goals as goal

pub difference-requires-clause-bounded : goal.difference-requires-clause-bounded
difference-requires-clause-bounded c = IsBounded-below (2 ^ 31) c.args.p.now (omega arith) c.requires.narrow

pub difference-requires-clause-small : goal.difference-requires-clause-small
difference-requires-clause-small c = IsSmall-below (2 ^ 31) c.args.q.now (omega arith) c.requires.narrower

pub sum-requires-clause-bounded : goal.sum-requires-clause-bounded
sum-requires-clause-bounded c = IsBounded-below (2 ^ 31) c.args.p.now (omega arith) c.requires.narrow

pub sum-requires-clause-small : goal.sum-requires-clause-small
sum-requires-clause-small c = IsSmall-below (2 ^ 31) c.args.q.now (omega arith) c.requires.narrower

pub returns-then-agrees : goal.returns-then-agrees
returns-then-agrees c =
    let p = c.args.p.now in
    let q = c.args.q.now in
    let same : c.agrees.result ≡ agrees (new_entry c.args.at p) (new_entry c.args.at q) = search rules in
    let turned : partner c.args.at p q ≡ opposite q = ap (λ b. cond b (opposite q) q) (sym same ∙ c.if-agrees.true) in
    IfOk-weaker c.difference.result (λ z. z.items ≡ sub p q) (λ z. z.items ≡ sum_of_pair c.args.at p q)
    (λ z is. is ∙ sub-opposite p q ∙ ap (add p) (sym turned)) c.difference.ensures
