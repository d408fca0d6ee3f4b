use Rattle.brick_dp.proofs.MenuLaws.{MenusUpTo}
use Rattle.brick_dp.proofs.menus.Menus.new.Given as goal

abbrev pub invariant-loop-done : goal.invariant-loop-done
invariant-loop-done l = MenusUpTo l.fold l.point l.k l.menus.items l.done
