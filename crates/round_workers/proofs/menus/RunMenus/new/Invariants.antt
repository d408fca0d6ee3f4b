use Rattle.round_workers.proofs.MenuLaws.{AreFirstMenus}
use Rattle.round_workers.proofs.menus.RunMenus.new.Given as goal

abbrev pub invariant-loop-k : goal.invariant-loop-k
invariant-loop-k l = AreFirstMenus l.fold l.point l.menus.items l.k
