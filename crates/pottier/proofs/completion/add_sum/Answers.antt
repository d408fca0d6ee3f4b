use Rattle.std.proofs.Common.{◌∙◌, ◌<◌, ◌≤◌, ◌∷◌, ◌++◌, [], List, arith, ap, sym, subst, length}
use Rattle.lattice_theory.specs.Vectors.{Vector}
use Rattle.lattice_theory.specs.BasisLimits.{IsNarrow}
use Rattle.lattice_laws.proofs.SlackBases.{IsReducible}
use Rattle.pottier.specs.Stages.{AreFitting, IsStage}
use Rattle.pottier.proofs.StageLaws.{added_stage, exceeds_by_added, exceeds_by_wide, fitting_push, either_length}
use Rattle.pottier.proofs.StageLaws.{added_reducible, not_reducible_same}
use Rattle.pottier.proofs.completion.add_sum.Goals as goal
use Rattle.pottier.proofs.completion.add_sum.Goals.{then-len-limit-via-then-len-limit}
use Rattle.pottier.proofs.completion.add_sum.Goals.{then-len-limit-via-else-len-limit+then-not-is_narrow}

pub returns-then-len-limit-clause-refused : goal.returns-then-len-limit-clause-refused
returns-then-len-limit-clause-refused c =
    λ m stage due.
    let at = c.args.at in
    let vs = c.args.members.now in
    let z = c.args.sum.items in
    let member = c.leading-member.result.items in
    let none = not_reducible_same m at vs c.deref-2.result.now z c.deref-2.ensures.value stage due
    c.if-is_reducible.ensures in
    let leads = c.leading-member.ensures.leads due.nonzero in
    elim c.then-len-limit.branch [
      | then-len-limit-via-then-len-limit w ↦
          let full : c.args.limit ≤ length vs = omega (arith, c.len.ensures, w.if-len-limit.true) in
          exceeds_by_added m at vs stage z member due none c.leading-member.ensures.either leads c.args.limit full
      | then-len-limit-via-else-len-limit+then-not-is_narrow w ↦
          exceeds_by_wide m at vs stage z member due none c.leading-member.ensures.either leads c.args.limit
          (subst (λ (v : Vector). IsNarrow v → ⊥) w.deref-else-len-limit.ensures.value w.if-not-is_narrow.ensures)
    ]

pub returns-clause-fitting : goal.returns-clause-fitting
returns-clause-fitting c =
    let vs = c.args.members.now in
    let member = c.leading-member.result.items in
    let room : length vs < c.args.limit = omega (
      arith,
      c.len.ensures,
      c.if-len-limit.false,
      c.requires.fitting.short,
    ) in
    subst (AreFitting (length c.args.sum.items) c.args.limit)
    (sym (c.in_ok-push.ensures ∙ ap (λ (v : Vector). vs ++ v ∷ []) c.deref-4.ensures.value))
    (fitting_push (length c.args.sum.items) c.args.limit vs member c.requires.fitting
    (either_length member c.args.sum.items c.leading-member.ensures.either)
    (subst IsNarrow c.deref-else-len-limit.ensures.value c.if-not-is_narrow.ensures) room)

pub returns-clause-reducible : goal.returns-clause-reducible
returns-clause-reducible c =
    let vs = c.args.members.now in
    subst (λ (us : List Vector). IsReducible us c.args.sum.items)
    (sym (c.in_ok-push.ensures ∙ ap (λ (v : Vector). vs ++ v ∷ []) c.deref-4.ensures.value))
    (added_reducible vs c.leading-member.result.items c.args.sum.items c.leading-member.ensures.either)

pub returns-clause-stage : goal.returns-clause-stage
returns-clause-stage c =
    λ m stage due.
    let at = c.args.at in
    let vs = c.args.members.now in
    let z = c.args.sum.items in
    let none = not_reducible_same m at vs c.deref-2.result.now z c.deref-2.ensures.value stage due
    c.if-is_reducible.ensures in
    subst (IsStage m at)
    (sym (c.in_ok-push.ensures ∙ ap (λ (v : Vector). vs ++ v ∷ []) c.deref-4.ensures.value))
    (added_stage m at vs stage z c.leading-member.result.items due none c.leading-member.ensures.either
    (c.leading-member.ensures.leads due.nonzero))
