use Rattle.brick_dp.proofs.MenuLaws.{AreFollowing}
use Rattle.brick_dp.proofs.menus.Menus.follow.Given as goal

abbrev pub invariant-loop-done : goal.invariant-loop-done
invariant-loop-done l = AreFollowing l.fold l._before l.after l.k l.self l.done
