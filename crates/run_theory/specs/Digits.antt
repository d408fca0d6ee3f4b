-- The number of binary digits.
use Rattle.std.specs.Prelude.{ℕ, length}
use Rattle.std.specs.Int.Digits.{digits_of}

-- how many binary digits the number has, and 0 of 0
abbrev pub binary_digits : ℕ → ℕ
binary_digits n = length (digits_of 2 n)
