use Rattle.std.proofs.Common.{rules, leb, ltb, ◌≡◌, ◌-◌, ◌/◌, false, arith, subst, take, drop}
use Rattle.std.specs.List.{All}
use Rattle.std.proofs.lemmas.List.Sorted.{IsPartitionedBy-leb, IsPartitionedBy-ltb, IsPartitionPoint-from_clause}
use Rattle.lattice_theory.specs.Matrices.{Matrix}
use Rattle.lattice_laws.proofs.SlackBases.{IsReducible}
use Rattle.pottier.specs.Stages.{IsStage, IsDue}
use Rattle.pottier.specs.Ranks.{lies_below, ranked_in}
use Rattle.pottier.proofs.RankLaws.{none-below, no_as, begins_before, AllWithin-part}
use Rattle.pottier.proofs.below.is_reducible.Goals as goal

pub slice_bounds-has_below-count : goal.slice_bounds-has_below-count
slice_bounds-has_below-count c =
    let rs = c.args.ranks.now in
    let norm = c.norm1-norm.result in
    let sorted = c.requires.ranks.sorted in
    let less = IsPartitionPoint-from_clause (λ y. ltb y.norm norm) _ _ c.partition_point-same.ensures.partitioned
    (IsPartitionedBy-ltb (λ y. y.norm) _ norm sorted) (λ a r q k. search rules) in
    let same = IsPartitionPoint-from_clause (λ y. leb y.norm norm) _ _ c.partition_point-past.ensures.partitioned
    (IsPartitionedBy-leb (λ y. y.norm) _ norm sorted) (λ a r q k. search rules) in
    let ordered = begins_before rs norm c.partition_point-same.result c.partition_point-past.result less same
    c.partition_point-same.ensures.bound in
    omega (arith, ordered)

pub slice_bounds-has_below-start : goal.slice_bounds-has_below-start
slice_bounds-has_below-start c =
    let rs = c.args.ranks.now in
    let norm = c.norm1-norm.result in
    let sorted = c.requires.ranks.sorted in
    let less = IsPartitionPoint-from_clause (λ y. ltb y.norm norm) _ _ c.partition_point-same.ensures.partitioned
    (IsPartitionedBy-ltb (λ y. y.norm) _ norm sorted) (λ a r q k. search rules) in
    let same = IsPartitionPoint-from_clause (λ y. leb y.norm norm) _ _ c.partition_point-past.ensures.partitioned
    (IsPartitionedBy-leb (λ y. y.norm) _ norm sorted) (λ a r q k. search rules) in
    begins_before rs norm c.partition_point-same.result c.partition_point-past.result less same
    c.partition_point-same.ensures.bound

pub returns : goal.returns
returns c =
    let at = c.args.at in
    let vs = c.args.members.now in
    let z = c.args.z.now in
    let rs = c.args.ranks.now in
    let norm = c.norm1-norm.result in
    let sorted = c.requires.ranks.sorted in
    let less = IsPartitionPoint-from_clause (λ y. ltb y.norm norm) _ _ c.partition_point-same.ensures.partitioned
    (IsPartitionedBy-ltb (λ y. y.norm) _ norm sorted) (λ a r q k. search rules) in
    let same = IsPartitionPoint-from_clause (λ y. leb y.norm norm) _ _ c.partition_point-past.ensures.partitioned
    (IsPartitionedBy-leb (λ y. y.norm) _ norm sorted) (λ a r q k. search rules) in
    let half = c.partition_point-half.result in
    let from = c.partition_point-same.result in
    let to = c.partition_point-past.result in
    let light = IsPartitionPoint-from_clause (λ y. leb y.norm (norm / 2)) _ _
    c.partition_point-half.ensures.partitioned (IsPartitionedBy-leb (λ y. y.norm) _ (norm / 2) sorted)
    (λ a r q k. search rules) in
    let whole : half ≡ half - 0 = omega arith in
    let few = AllWithin-part (λ r. lies_below (ranked_in vs r) z ≡ false) rs 0 half
    c.partition_point-half.ensures.bound
    (subst (λ n. All (λ r. lies_below (ranked_in vs r) z ≡ false) (take n rs)) whole c.if-has_below.ensures) in
    no_as c.has_below-2.result (IsReducible vs z)
    (All (λ r. lies_below (ranked_in vs r) z ≡ false) (take (to - from) (drop from rs)))
    ((m : Matrix) → IsStage m at vs → IsDue m at vs z → IsReducible vs z → ⊥)
    c.has_below-2.ensures
    (λ equal m stage due. none-below m at vs z stage due rs norm half from to c.requires.ranks
    c.norm1-norm.ensures light less same few
    (AllWithin-part (λ r. lies_below (ranked_in vs r) z ≡ false) rs from to c.partition_point-past.ensures.bound equal))
