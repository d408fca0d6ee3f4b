-- The numbers that digits spell.
use Rattle.std.proofs.Common.{◌≡◌, ℕ, zero, suc, ◌+◌, ◌-◌, ◌*◌, ◌^◌, ◌<◌, ◌≤◌, min, Bool, cond, leb, List, [], ◌∷◌}
use Rattle.std.proofs.Common.{length, take, Some, None, refl, arith}
use Rattle.std.specs.List.{fold, list_all}
use Rattle.std.proofs.lemmas.Bool.{lt-leb}
use Rattle.mat_files.specs.Tokens.{is_digit, is_digits, digits_value}

-- what is not empty is digits where each byte is one
pub is_digits_where_each : (ds : List ℕ) (each : Bool) → 0 < length ds → each ≡ list_all is_digit ds
    → each ≡ is_digits ds
is_digits_where_each [] each some is = absurd (omega arith)
is_digits_where_each (d ∷ ds) each some is = is

-- one digit more
abbrev step : ℕ → ℕ → ℕ
step n d = 10 * n + (d - 48)

-- digits make a number no less
grows : (n : ℕ) (ds : List ℕ) → n ≤ fold step n ds
grows n [] = omega arith
grows n (d ∷ ds) = let more : 10 * n + (d - 48) ≤ fold step (10 * n + (d - 48)) ds = grows (10 * n + (d - 48)) ds in
    omega arith

-- and one digit makes it ten times as large
ten_times : (n : ℕ) (ds : List ℕ) (i : ℕ) → i < length ds → 10 * fold step n (take i ds) ≤ fold step n ds
ten_times n [] i inside = absurd (omega arith)
ten_times n (d ∷ ds) zero inside =
    let more : 10 * n + (d - 48) ≤ fold step (10 * n + (d - 48)) ds = grows (10 * n + (d - 48)) ds in omega arith
ten_times n (d ∷ ds) (suc i) inside = ten_times (10 * n + (d - 48)) ds i (omega arith)

-- digits that spell too much so far spell too much
pub too_many_digits : (ds : List ℕ) (i value most largest : ℕ) → i < length ds → value ≡ digits_value (take i ds)
    → most ≡ min largest (2 ^ 124) → most < value → largest ≤ 2 ^ 126
    → None ≡ cond (leb (digits_value ds) largest) (Some (digits_value ds)) None
too_many_digits ds i value most largest inside is least past limit =
    let more : 10 * digits_value (take i ds) ≤ digits_value ds = ten_times 0 ds i inside in
    let wide : largest < digits_value ds = omega arith in
    rw (lt-leb _ _ wide) refl
