-- Tokens of a file, and the numbers that they spell.
use Rattle.std.specs.Prelude.{◌≡◌, ℕ, suc, ◌+◌, ◌-◌, ◌*◌, ◌≤◌, ℤ, pos, neg_ℤ, unsigned_abs, nat_eq, nat_le, Bool, true}
use Rattle.std.specs.Prelude.{false, ◌&&◌, ◌||◌, not, List, [], ◌∷◌, cond, Option, Some, None, Result, Ok, Err, fold}
use Rattle.std.specs.Prelude.{length}
use Rattle.std.specs.List.{list_all}
use Rattle.mat_files.specs.declared.tokens.Token as rust
use Rattle.mat_files.specs.declared.numbers.Spelled.{Spelled}
use Rattle.mat_files.specs.declared.numbers.Spelled.TheVariants.{NotNumber, TooBig, Value}

-- white space is any of the bytes 9 to 13 and 32
abbrev pub is_white : ℕ → Bool
is_white b = (nat_le 9 b && nat_le b 13) || nat_eq b 32

-- a token, and the place of its first byte
pub record Token : Type 0 where
  pub at : ℕ
  pub text : List ℕ

-- whether a token goes on in these bytes
abbrev pub goes_on : List ℕ → Bool
goes_on [] = false
goes_on (b ∷ bs) = not (is_white b)

-- the byte b, which is no white space, before the tokens of the bytes after it
abbrev pub put_before : ℕ → ℕ → Bool → List Token → List Token
put_before n b false tokens = record { at = n; text = b ∷ [] } ∷ tokens
put_before n b true [] = record { at = n; text = b ∷ [] } ∷ []
put_before n b true (t ∷ tokens) = record { at = n; text = b ∷ t.text } ∷ tokens

-- the longest runs of bytes other than white space, where the first byte is at place n
abbrev pub tokens_from : ℕ → List ℕ → List Token
tokens_from n [] = []
tokens_from n (b ∷ bs) =
    cond (is_white b) (tokens_from (suc n) bs) (put_before n b (goes_on bs) (tokens_from (suc n) bs))

-- the tokens of a whole text
abbrev pub tokens : List ℕ → List Token
tokens bytes = tokens_from 0 bytes

-- what is left of a text: the tokens to come, and the place where the text ends
pub record Left : Type 0 where
  pub tokens : List Token
  pub end : ℕ

-- all of a text is left
abbrev pub whole : List ℕ → Left
whole bytes = record { tokens = tokens bytes; end = length bytes }

-- a token that code holds
abbrev pub seen : rust.Token → Token
seen t = record { at = t.at; text = t.text.now }

-- the token is the first of those before, and those after are the others; or none is left
abbrev pub IsNext : Left → Option rust.Token → Left → Type 0
IsNext before None after = (before.tokens ≡ []) × (after ≡ before)
IsNext before (Some t) after = before ≡ record { tokens = seen t ∷ after.tokens; end = after.end }

-- a decimal digit
abbrev pub is_digit : ℕ → Bool
is_digit b = nat_le 48 b && nat_le b 57

-- one or more digits
abbrev pub is_digits : List ℕ → Bool
is_digits [] = false
is_digits (b ∷ bs) = list_all is_digit (b ∷ bs)

-- the number that digits spell in base ten
abbrev pub digits_value : List ℕ → ℕ
digits_value ds = fold (λ n d. 10 * n + (d - 48)) 0 ds

-- the number that the bytes spell, where all are digits
abbrev pub digits_of : List ℕ → Option ℕ
digits_of ds = cond (is_digits ds) (Some (digits_value ds)) None

-- a number as a whole number, with the sign that f gives it
abbrev pub signed : (ℕ → ℤ) → Option ℕ → Option ℤ
signed f None = None
signed f (Some n) = Some (f n)

-- the number that the token spells: a sign, if there is one, and then digits
abbrev pub number_of : List ℕ → Option ℤ
number_of [] = None
number_of (b ∷ bs) =
    cond (nat_eq b 43) (signed pos (digits_of bs))
    (cond (nat_eq b 45) (signed (λ n. neg_ℤ (pos n)) (digits_of bs)) (signed pos (digits_of (b ∷ bs))))

-- the count that the token spells: a number without a minus sign
abbrev pub count_of : List ℕ → Option ℕ
count_of [] = None
count_of (b ∷ bs) = cond (nat_eq b 43) (digits_of bs) (digits_of (b ∷ bs))

-- the number, where there is one and it is at most so much in absolute value
abbrev pub spelled : ℕ → Option ℤ → Spelled
spelled largest None = NotNumber
spelled largest (Some a) = cond (nat_le (unsigned_abs a) largest) (Value a) TooBig

-- a number that was read is at most so much in absolute value
abbrev pub IsAtMost : ℕ → Spelled → Type 0
IsAtMost largest NotNumber = Unit {0}
IsAtMost largest TooBig = Unit {0}
IsAtMost largest (Value a) = unsigned_abs a ≤ largest

-- first this, and then that on what it gives
abbrev pub and_then : {A B E : Type 0} → Result A E → (A → Result B E) → Result B E
and_then (Err e) f = Err e
and_then (Ok a) f = f a
