-- What is known of a prefix.
use Rattle.std.proofs.Common.{◌≡◌, ℕ, ◌<◌, Bool, true, false, ◌&&◌, List, [], ◌∷◌, Result, Ok, Err, Some, ap, Bor}
use Rattle.std.proofs.Common.{arith}
use Rattle.std.specs.List.{list_all}
use Rattle.std.specs.Option.{option_map}
use Rattle.std.specs.Result.{MatchResult, result_ok}
use Rattle.std.specs.Str.{IsAscii, IsUtf8}
use Rattle.std.proofs.lemmas.Bool.Decides.{nat_tests}
use Rattle.std.proofs.lemmas.Str.{IsUtf8-from_ascii}
use Rattle.std.proofs.lemmas.Str.Ascii.{IsAscii-nil, IsAscii-cons}
use Rattle.nfold_cli.specs.Words.{Word, is_name_byte, is_prefix}

-- each byte of a name is below 128
name_byte_ascii : (b : ℕ) → is_name_byte b ≡ true → b < 128
name_byte_ascii b is = grind (arith, nat_tests)

-- a list of such bytes is ASCII
name_bytes_ascii : (w : Word) → list_all is_name_byte w ≡ true → IsAscii w
name_bytes_ascii [] all = IsAscii-nil
name_bytes_ascii (b ∷ bs) all =
    let first : is_name_byte b ≡ true = grind arith in
    let rest : list_all is_name_byte bs ≡ true = grind arith in
    IsAscii-cons b bs (name_byte_ascii b first) (name_bytes_ascii bs rest)

-- the last of two tests that hold
last_holds : (x y : Bool) → (x && y) ≡ true → y ≡ true
last_holds true y both = both
last_holds false y both = absurd (cc)

-- a prefix is a text
pub prefix_is_utf8 : (w : Word) → is_prefix w ≡ true → IsUtf8 w
prefix_is_utf8 w is = IsUtf8-from_ascii w (name_bytes_ascii w (last_holds _ _ is))

-- bytes that are UTF-8 are read as a text
pub read_as_text : {E : Type 0} (P : E → Type 0) (w : List ℕ) (r : Result (Bor (List ℕ)) E) → IsUtf8 w
    → MatchResult r (λ s. (s.now ≡ w) × IsUtf8 w) (λ e. ¬ (IsUtf8 w) × P e)
    → option_map (λ (s : Bor (List ℕ)). s.now) (result_ok r) ≡ Some w
read_as_text P w (Ok s) utf8 cases = ap Some cases.0
read_as_text P w (Err e) utf8 cases = absurd (cases.0 utf8)
