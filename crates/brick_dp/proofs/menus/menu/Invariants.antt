use Rattle.fold_program.specs.Places.{ForBrick}
use Rattle.brick_dp.proofs.MenuLaws.{MenuUpTo}
use Rattle.brick_dp.proofs.menus.menu.Given as goal

abbrev pub invariant-loop-place : goal.invariant-loop-place
invariant-loop-place l = ForBrick l.fold.program l.brick (λ b. MenuUpTo l.fold l.k b l.at l.menu.items l.place)
