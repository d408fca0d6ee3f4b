use Rattle.std.proofs.Common.{◌-◌}
use Rattle.listed_sums.specs.Places.{vectors_of}
use Rattle.listed_sums.proofs.PlaceLaws.{Between}
use Rattle.listed_sums.proofs.places.place_of.Given as goal

abbrev pub invariant-loop-low : goal.invariant-loop-low
invariant-loop-low l = Between (vectors_of l.sums.rows) l.w l.low l.high

abbrev pub decreases-loop-low : goal.decreases-loop-low
decreases-loop-low l = l.high - l.low
