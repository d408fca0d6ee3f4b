use Rattle.std.proofs.Common.{arith, ◌≡◌, ◌<◌, ◌≤◌, ◌+◌, ◌-◌, ◌∙◌, sym, ap, subst, length, Some, slice_get}
use Rattle.std.specs.List.{All}
use Rattle.std.proofs.lemmas.List.Elements.{All-nil}
use Rattle.lattice_theory.specs.Vectors.{Vector}
use Rattle.complete_lists.specs.declared.ranked.Ranked.{Ranked}
use Rattle.complete_lists.specs.Ranks.{rows_in}
use Rattle.complete_lists.proofs.RankLaws.{rows-more, rows-sorted, widths-more, widths-sorted}
use Rattle.complete_lists.proofs.ranked.by_norm.Goals as goal

pub loop-place-init : goal.loop-place-init
loop-place-init c = record {
  rows = ap rows_in c.in_ok-ranked.ensures.items;
  widths =
      subst (λ rs. All (λ (v : Vector). length v ≡ c.args.basis.now.cols) (rows_in rs))
      (sym c.in_ok-ranked.ensures.items) (All-nil (λ (v : Vector). length v ≡ c.args.basis.now.cols));
}

pub loop-place-preserved : goal.loop-place-preserved
loop-place-preserved c =
    let rows = c.args.basis.now.rows in
    let i = c.loop-place.place in
    let place : i + 1 - 1 ≡ i = omega arith in
    let there : slice_get rows i ≡ Some c.in_ok-row.row.items =
    ap (slice_get rows) (sym place) ∙ c.row.ensures.entries ∙ ap Some (sym c.in_ok-row.ensures.items) in
    let ranked : Ranked = record { norm = c.norm1.result; row = c.in_ok-row.row } in
    let low : i < length rows = omega (arith, c.loop-place-test.true, c.rows-place-end.ensures) in
    record {
      rows =
          rows-more rows c.loop-place.ranked.items c.push.new.self.items i ranked there low
          c.loop-place.invariant.rows c.in_ok-push.ensures.items;
      widths =
          widths-more c.args.basis.now.cols c.loop-place.ranked.items c.push.new.self.items ranked
          (ap length c.in_ok-row.ensures.items ∙ c.row.ensures.width) c.loop-place.invariant.widths
          c.in_ok-push.ensures.items;
    }

pub returns : goal.returns
returns c =
    let rows = c.args.basis.now.rows in
    let past : length rows ≤ c.loop-place.place = omega (arith, c.loop-place-test.false, c.rows-place-end.ensures) in
    record {
      rows =
          rows-sorted rows c.loop-place.ranked.items c.sort.new.self.items c.loop-place.place
          c.loop-place.invariant.rows past c.sort.ensures.permutation;
      widths =
          widths-sorted c.args.basis.now.cols c.loop-place.ranked.items c.sort.new.self.items
          c.sort.ensures.permutation c.loop-place.invariant.widths;
    }
