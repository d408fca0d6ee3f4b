use Rattle.std.proofs.Common.{◌<◌, arith, rules, sym, None, Some, subst, length, List, Option, ℤ, get_or, FitsSigned}
use Rattle.std.specs.Prelude.{IfSome}
use Rattle.std.specs.Int.{w128}
use Rattle.std.proofs.lemmas.Int.{to_z-of_z}
use Rattle.std.proofs.lemmas.Bool.{OnTrue_from, OnTrue_at}
use Rattle.lattice_theory.specs.SignedSums.{vectors}
use Rattle.lattice_laws.proofs.Places.{if_some}
use Rattle.sieve_laws.specs.Sieve.{AreTops, IsTop, live}
use Rattle.sieve_laws.proofs.Tops.{tops_more, top_idle}
use Rattle.layer_sieve.specs.Falls.{IsLow}
use Rattle.layer_sieve.proofs.ReachLaws.{read_at, size_vectors}
use Rattle.layer_sieve.proofs.tops.is_idle.Goals as goal
use Rattle.layer_sieve.proofs.tops.is_idle.Goals.{then-not-is_low, else-not-is_low}

pub returns-clause-tops : goal.returns-clause-tops
returns-clause-tops c =
    let limit : FitsSigned w128 c.args.limit = search rules in
    elim c.if-not-is_low.branch [
      | then-not-is_low w ↦
          let top : IfSome w.top.result (IsTop (vectors c.args.targets.now) (live c.args.limit c.args.next.now)
          c.args.next.now c.args.m.place) = simp to_z-of_z at w.top.ensures in
          tops_more (vectors c.args.targets.now) (live c.args.limit c.args.next.now) c.args.next.now c.args.tops.now
          c.if-not-is_low.tops c.args.m.place w.top.result
          (omega (arith, c.requires.tops.size, size_vectors c.args.targets.now, c.requires.listed)) w.tops-is
          (λ most e. if_some (IsTop (vectors c.args.targets.now) (live c.args.limit c.args.next.now) c.args.next.now
          c.args.m.place) w.top.result most e top) c.requires.tops
      | else-not-is_low w ↦
          subst (λ (ts : List (Option ℤ)). AreTops (vectors c.args.targets.now) (live c.args.limit c.args.next.now)
          c.args.next.now ts)
          (sym w.tops-is) c.requires.tops
    ]

pub returns-clause-idle : goal.returns-clause-idle
returns-clause-idle c =
    let are : AreTops (vectors c.args.targets.now) (live c.args.limit c.args.next.now) c.args.next.now
    c.if-not-is_low.tops = returns-clause-tops c in
    let low : c.args.m.place < length c.if-not-is_low.tops =
    omega (arith, are.size, size_vectors c.args.targets.now, c.requires.listed) in
    let change : FitsSigned w128 c.args.m.change = search rules in
    let told = simp to_z-of_z at c.is_low-2.ensures in
    OnTrue_from _ _ (λ e.
    let known : IsLow (get_or c.if-not-is_low.tops c.args.m.place None) c.args.m.change = OnTrue_at e told in
    top_idle (vectors c.args.targets.now) (live c.args.limit c.args.next.now) c.args.next.now c.args.m known.0
    (are.each c.args.m.place known.0 (read_at c.if-not-is_low.tops c.args.m.place None (Some known.0) low known.1))
    known.2)
