use Rattle.std.proofs.Common.{◌≡◌, ◌∙◌, ◌-◌, ◌+◌, ◌*◌, ◌/◌, ◌<◌, length, Some, ap, arith, sym, subst, List, set}
use Rattle.std.specs.Prelude.{slice_get}
use Rattle.fold_theory.specs.Programs.{Brick}
use Rattle.lattice_laws.proofs.Places.{there_at}
use Rattle.sieve_laws.specs.Sieve.{Menu}
use Rattle.brick_dp.specs.Blocks.{IsBelowAll}
use Rattle.brick_dp.specs.Menus.{AreListed, IsBrickMenu, IsRenewed}
use Rattle.brick_dp.proofs.MenuLaws.{renewed_by, listed_renewed}
use Rattle.brick_dp.proofs.BlockLaws.{blocks_forgotten, blocks_known}
use Rattle.brick_dp.proofs.menus.Menus.renew.Goals as goal

pub new-requires-clause-low : goal.new-requires-clause-low
new-requires-clause-low c =
    let f = c.args.fold.now in
    let brick : (b : Brick) × (slice_get f.program.bricks (c.args.brick - 1) ≡ Some b) =
    there_at f.program.bricks (c.args.brick - 1) (omega (arith, c.requires.from, c.requires.to)) in
    let is : IsBrickMenu f c.args.k brick.0 c.args.at.now c.in_ok-menu.menu = c.in_ok-menu.ensures brick.0 brick.1 in
    let sums : c.len.result ≡ length f.sums = c.len.ensures ∙ ap length c.sums.ensures.sums in
    subst (λ (ms : List Menu). AreListed c.len.result ms) (sym c.deref.ensures.value)
    (subst (λ n. AreListed n (set c.self.inside.menus.items (c.args.brick - 1) c.in_ok-menu.menu)) (sym sums)
    (listed_renewed (length f.sums) (c.args.brick - 1) c.self.inside.menus.items c.in_ok-menu.menu is.low
    (subst (AreListed (length f.sums)) (sym c.self.view_is) c.requires.listed)))

pub invariant_of-self : goal.invariant_of-self
invariant_of-self c =
    blocks_forgotten c.self.inside.menus.items c.self.inside.blocks.items (c.args.brick - 1) c.in_ok-menu.menu
    c.self.invariant

pub invariant_of-self-2 : goal.invariant_of-self-2
invariant_of-self-2 c =
    let below : IsBelowAll (set c.self.inside.menus.items (c.args.brick - 1) c.in_ok-menu.menu)
    (16 * ((c.args.brick - 1) / 16)) (16 * ((c.args.brick - 1) / 16) + 16) c.in_ok-new.field-0 =
    subst (λ (ms : List Menu). IsBelowAll ms (16 * ((c.args.brick - 1) / 16)) (16 * ((c.args.brick - 1) / 16) + 16)
    c.in_ok-new.field-0) c.deref.ensures.value c.in_ok-new.ensures in
    blocks_known _ _ ((c.args.brick - 1) / 16) c.in_ok-new.field-0 below
    (blocks_forgotten c.self.inside.menus.items c.self.inside.blocks.items (c.args.brick - 1) c.in_ok-menu.menu
    c.self.invariant)

pub returns : goal.returns
returns c =
    let kept : c.self.inside.menus.items ≡ c.args.self.now = c.self.view_is in
    let low : c.args.brick - 1 < length c.self.inside.menus.items =
    omega (arith, c.requires.from, c.requires.to, c.requires.count, ap length kept) in
    subst (λ (ms : List Menu). IsRenewed c.args.fold.now c.args.k c.args.brick c.args.at.now ms
    (set c.self.inside.menus.items (c.args.brick - 1) c.in_ok-menu.menu)) kept
    (renewed_by c.args.fold.now c.args.k c.args.brick c.args.at.now c.self.inside.menus.items c.in_ok-menu.menu low
    c.in_ok-menu.ensures)
