use Rattle.round_workers.proofs.MenuLaws.{first_more}
use Rattle.round_workers.proofs.menus.RunMenus.new.Goals as goal

pub loop-k-preserved : goal.loop-k-preserved
loop-k-preserved c =
    first_more c.args.fold.now c.args.point.now c.loop-k.menus.items c.push.new.self.items c.loop-k.k _
    c.in_ok-new.ensures c.in_ok-push.ensures.items
    c.loop-k.invariant
