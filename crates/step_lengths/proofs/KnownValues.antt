-- How many lengths there are, at ranges worked by hand.
use Rattle.std.proofs.Common.{zero, suc, ◌^◌, ◌≤◌, arith, lit<, lit≤}
use Rattle.std.proofs.Math.Pow.{pow_mono}
use Rattle.step_lengths.specs.Lengths.{IsLengthCount}

-- there is 2 ^ 0 where no range is left
one_at_zero : IsLengthCount 0 1
one_at_zero zero = (λ _. lit≤ tt, λ _. lit< tt)
one_at_zero (suc k) = (
  λ low. absurd (omega (arith, low)),
  λ power. let twice : 2 ^ 1 ≤ 2 ^ suc k = pow_mono {i = 1} {j = suc k} (omega arith) in
      absurd (omega (arith, twice, power)),
)
