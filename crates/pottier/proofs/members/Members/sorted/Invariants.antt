use Rattle.std.proofs.Common.{◌≡◌, take}
use Rattle.pottier.proofs.MemberLaws.{lent}
use Rattle.pottier.proofs.members.Members.sorted.Given as goal

abbrev pub invariant-loop-place : goal.invariant-loop-place
invariant-loop-place l = lent l.order.items ≡ take l.place l.self

abbrev pub invariant-loop-member : goal.invariant-loop-member
invariant-loop-member l = l.sorted ≡ take l.member-index (lent l.member-items)
