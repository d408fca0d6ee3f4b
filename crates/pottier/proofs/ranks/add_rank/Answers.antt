use Rattle.std.proofs.Common.{rules, leb, true, false, ◌≡◌, ◌≤◌, ◌++◌, ◌∷◌, [], ap, arith, subst, sym, length}
use Rattle.std.specs.List.Sorted.{IsNonDecreasingBy, IsPartitionPoint}
use Rattle.std.proofs.lemmas.List.Sorted.{IsPartitionedBy-leb, IsPartitionPoint-from_clause}
use Rattle.pottier.specs.declared.ranks.Rank.{Rank}
use Rattle.pottier.specs.Ranks.{AreRanks}
use Rattle.pottier.proofs.RankLaws.{ranks-more}
use Rattle.pottier.proofs.ranks.add_rank.Goals as goal

pub returns : goal.returns
returns c = λ vs h place.
    let rs = c.args.ranks.now.items in
    let norm = c.norm1-norm.result in
    let behind = c.partition_point-behind.result in
    let sorted = subst (IsNonDecreasingBy (λ (y : Rank). y.norm)) (sym c.deref.ensures.value) h.sorted in
    let point = IsPartitionPoint-from_clause (λ y. leb y.norm norm) _ _ c.partition_point-behind.ensures.partitioned
    (IsPartitionedBy-leb (λ y. y.norm) _ norm sorted) (λ a r q k. search rules) in
    let here = subst (λ ys. IsPartitionPoint (λ y. leb y.norm norm ≡ true) (λ y. leb y.norm norm ≡ false) ys behind)
    c.deref.ensures.value point in
    let low : behind ≤ length rs = omega (
      arith,
      c.partition_point-behind.ensures.bound,
      ap length c.deref.ensures.value,
    ) in
    subst (AreRanks c.args.at (vs ++ c.args.member.now ∷ [])) (sym c.in_ok-insert.ensures.items)
    (ranks-more c.args.at vs rs c.args.member.now behind
    (record { norm = norm; place = c.args.place; signs = c.signs_of.result }) h c.norm1-norm.ensures place
    c.signs_of.ensures low here)
