use Rattle.std.proofs.Common.{◌≡◌, ◌∙◌, ◌*◌, ◌<◌, ◌≤◌, ◌⊎◌, inl, inr, arith, ap, sym, subst, length, Some, ◌+◌}
use Rattle.std.specs.Prelude.{slice_get}
use Rattle.std.proofs.lemmas.Bool.{cases_lt}
use Rattle.std.proofs.lemmas.Option.{slice_get-get_or}
use Rattle.sieve_laws.specs.Sieve.{Layer}
use Rattle.layer_sieve.specs.Falls.{AreKept}
use Rattle.brick_dp.specs.Blocks.{IsBelowAll}
use Rattle.brick_dp.proofs.BlockLaws.{block_more, block_all}
use Rattle.brick_dp.proofs.FillLaws.{buffer}
use Rattle.brick_dp.proofs.blocks.Block.new.Goals as goal

pub loop-at-preserved : goal.loop-at-preserved
loop-at-preserved c =
    let written = buffer c.note.new.changes c.loop-at.changes.items c.loop-at.changes.len
    (omega (arith, c.note.ensures.size, c.deref_mut.ensures.len, c.loop-at.changes.ok.0)) c.loop-at.changes.ok.0 in
    let inside : c.loop-at.at < length c.args.menus.now = omega (arith, c.loop-at-test.true, c.min-to.ensures) in
    let here : slice_get c.args.menus.now c.loop-at.at ≡ Some c.moves.result.now =
    slice_get-get_or c.args.menus.now c.loop-at.at c.index-menus-at.result inside
    ∙ ap Some (sym c.index-menus-at.is ∙ sym c.moves.ensures) in
    let kept : AreKept c.loop-at.changes.items c.note.new.changes =
    subst (λ (l : Layer). AreKept l c.note.new.changes) c.deref_mut.ensures.value c.note.ensures.kept in
    subst (λ (l : Layer). record {
      below : IsBelowAll c.args.menus.now (16 * c.args.block) (c.loop-at.at + 1) l;
      size : length l ≡ c.args.sums;
    }) (sym written) (record {
      below = block_more c.args.menus.now (16 * c.args.block) c.loop-at.at c.loop-at.changes.items c.note.new.changes
          c.moves.result.now here kept c.note.ensures.below c.loop-at.invariant.below;
      size = omega (arith, c.note.ensures.size, ap length c.deref_mut.ensures.value, c.loop-at.invariant.size);
    })

pub returns : goal.returns
returns c =
    let all : (c.loop-at.at ≡ 16 * c.args.block + 16) ⊎ (length c.args.menus.now ≤ c.loop-at.at) =
    elim (cases_lt (16 * c.args.block + 16) (length c.args.menus.now)) [
      | inl more ↦ inl (omega (
        arith,
        more,
        c.loop-at-test.false,
        c.loop-at.auto.at-end,
        c.min-to.ensures,
        c.requires.few,
      ))
      | inr less ↦ inr (omega (arith, less, c.loop-at-test.false, c.min-to.ensures))
    ] in
    block_all c.args.menus.now (16 * c.args.block) c.loop-at.at (16 * c.args.block + 16) c.loop-at.changes.items all
    c.loop-at.invariant.below
