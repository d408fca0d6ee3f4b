use Rattle.std.proofs.Common.{◌≡◌, ◌≤◌, length}
use Rattle.round_workers.proofs.MenuLaws.{AreFollowing}
use Rattle.round_workers.proofs.menus.RunMenus.follow.Given as goal

abbrev pub invariant-loop-at : goal.invariant-loop-at
invariant-loop-at l = record {
  targets : l.self.targets ≡ l.fold.sums;
  few : length l.self.menus.items ≤ 64;
  size : length l.self.menus.items ≡ l.at-end;
  menus : AreFollowing l.fold l.before l.after l.self.menus.items l.at;
}
