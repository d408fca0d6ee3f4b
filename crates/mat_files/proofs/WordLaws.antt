-- Words in a text, and the numbers that printed words spell. The crates above may cite this file.
use Rattle.std.proofs.Common.{◌≡◌, ℕ, suc, ◌+◌, ◌-◌, ◌*◌, ◌/◌, ◌%◌, ◌^◌, ◌<◌, ◌≤◌, ℤ, pos, negsuc, neg_ℤ, unsigned_abs}
use Rattle.std.proofs.Common.{true, false, not, eqb, leb, List, [], ◌∷◌, ◌++◌, length, Some, refl, ap, ◌∙◌, subst}
use Rattle.std.proofs.Common.{arith, codes}
use Rattle.std.specs.Fmt.{decimal, signed_decimal}
use Rattle.std.specs.List.{fold, list_all}
use Rattle.std.specs.Str.{bytes_eq}
use Rattle.std.proofs.lemmas.Bool.{le-leb, leb-true, ne_eqb, and_parts, not-true}
use Rattle.std.proofs.lemmas.Bool.Decides.{nat_tests}
use Rattle.std.proofs.lemmas.Fmt.{decimal_by_steps_wide}
use Rattle.std.proofs.lemmas.List.{length-append}
use Rattle.mat_files.specs.Tokens.{is_white, Token, put_before, tokens_from, is_digit, digits_value, number_of}
use Rattle.mat_files.specs.Tokens.{count_of}

-- ---- words

-- one or more bytes, none of which is white space
pub record IsWord (text : List ℕ) : Type 0 where
  pub some : 0 < length text
  pub black : list_all (λ b. not (is_white b)) text ≡ true

-- a word that is given by its bytes
pub word_of : (text : List ℕ) → 0 < length text → list_all (λ b. not (is_white b)) text ≡ true → IsWord text
word_of text some black = record { some = some; black = black }

-- one byte more before a token
one_byte_more : (n b d : ℕ) (text bytes : List ℕ) (tokens : List Token) → is_white b ≡ false → is_white d ≡ false
    → tokens_from (suc n) (d ∷ bytes) ≡ record { at = suc n; text = text } ∷ tokens
    → tokens_from n (b ∷ d ∷ bytes) ≡ record { at = n; text = b ∷ text } ∷ tokens
one_byte_more n b d text bytes tokens black next is =
    let put = put_before n b (not (is_white d)) in
    let first : tokens_from n (b ∷ d ∷ bytes) ≡ put (tokens_from (suc n) (d ∷ bytes)) = rw black refl in
    let whole : put (record { at = suc n; text = text } ∷ tokens) ≡ record { at = n; text = b ∷ text } ∷ tokens =
    rw next refl in
    first ∙ ap put is ∙ whole

-- a word with white space after it is the first token
pub first_word : (text : List ℕ) (n white : ℕ) (rest : List ℕ) → IsWord text → is_white white ≡ true
    → (k : ℕ) × (tokens_from n (text ++ white ∷ rest) ≡ record { at = n; text = text } ∷ tokens_from k rest)
first_word [] n white rest word space = absurd (let some : 0 < 0 = word.some in omega arith)
first_word (b ∷ []) n white rest word space =
    let black = not-true (is_white b) (and_parts (not (is_white b)) true word.black).0 in
    (suc (suc n), rw (black, space) refl)
first_word (b ∷ d ∷ text) n white rest word space =
    let black = and_parts (not (is_white b)) (list_all (λ x. not (is_white x)) (d ∷ text)) word.black in
    let none = not-true (is_white b) black.0 in
    let next = and_parts (not (is_white d)) (list_all (λ x. not (is_white x)) text) black.1 in
    let later = first_word (d ∷ text) (suc n) white rest (record { some = omega arith; black = black.1 }) space in (
      later.0,
      one_byte_more n b d (d ∷ text) (text ++ white ∷ rest) (tokens_from later.0 rest) none
          (not-true (is_white d) next.0) later.1,
    )

-- ---- printed digits

-- digits, which spell the number
record AreDigitsOf (n : ℕ) (ds : List ℕ) : Type 0 where
  some : 0 < length ds
  digits : list_all is_digit ds ≡ true
  value : digits_value ds ≡ n

-- one digit
one_digit : (n : ℕ) → n < 10 → is_digit (48 + n) ≡ true
one_digit n small = rw (le-leb 48 (48 + n) (omega arith), le-leb (48 + n) 57 (omega arith)) refl

first_digit : (n : ℕ) → n < 10 → AreDigitsOf n ((48 + n) ∷ [])
first_digit n small = record {
  some = omega arith;
  digits = rw (one_digit n small) refl;
  value = omega arith;
}

-- a digit more behind digits
digits-push : (ds : List ℕ) (d : ℕ) → list_all is_digit ds ≡ true → is_digit d ≡ true
    → list_all is_digit (ds ++ d ∷ []) ≡ true
digits-push [] d all digit = rw digit refl
digits-push (b ∷ ds) d all digit =
    let both = and_parts (is_digit b) (list_all is_digit ds) all in rw (both.0, digits-push ds d both.1 digit) refl

value-push : (ds : List ℕ) (d n : ℕ)
    → fold (λ m b. 10 * m + (b - 48)) n (ds ++ d ∷ []) ≡ 10 * fold (λ m b. 10 * m + (b - 48)) n ds + (d - 48)
value-push [] d n = refl
value-push (b ∷ ds) d n = value-push ds d (10 * n + (b - 48))

last_digit : (n : ℕ) (ds : List ℕ) → 10 ≤ n → AreDigitsOf (n / 10) ds → AreDigitsOf n (ds ++ ((48 + n % 10) ∷ []))
last_digit n ds more front = record {
  some = omega (arith, length-append ds ((48 + n % 10) ∷ []));
  digits = digits-push ds (48 + n % 10) front.digits (one_digit (n % 10) (omega arith));
  value = omega (arith, value-push ds (48 + n % 10) 0, front.value);
}

-- a printed count is digits that spell it
decimal_digits : (n : ℕ) → n < 10 ^ 64 → AreDigitsOf n (decimal n)
decimal_digits n below = decimal_by_steps_wide AreDigitsOf first_digit last_digit n below

-- ---- printed numbers

-- a word that spells the count
pub record SpellsCount (text : List ℕ) (n : ℕ) : Type 0 where
  pub word : IsWord text
  pub spelled : count_of text ≡ Some n

-- a word that spells the number, and is no star
pub record SpellsNumber (text : List ℕ) (a : ℤ) : Type 0 where
  pub word : IsWord text
  pub no_star : bytes_eq text (codes "*") ≡ false
  pub spelled : number_of text ≡ Some a

-- no digit is white space, a sign or a star
plain_digit : (b : ℕ) → is_digit b ≡ true
    → (is_white b ≡ false) × (eqb b 42 ≡ false) × (eqb b 43 ≡ false) × (eqb b 45 ≡ false)
plain_digit b digit =
    let range = and_parts (leb 48 b) (leb b 57) digit in
    let low : 48 ≤ b = leb-true 48 b range.0 in
    let high : b ≤ 57 = leb-true b 57 range.1 in
    (grind (arith, nat_tests), ne_eqb b 42 (omega arith), ne_eqb b 43 (omega arith), ne_eqb b 45 (omega arith))

-- digits have no white space among them
black_digits : (ds : List ℕ) → list_all is_digit ds ≡ true → list_all (λ b. not (is_white b)) ds ≡ true
black_digits [] all = refl
black_digits (d ∷ ds) all =
    let both = and_parts (is_digit d) (list_all is_digit ds) all in
    let plain = plain_digit d both.0 in
    rw (plain.0, black_digits ds both.1) refl

-- digits spell a count
digits_count : (ds : List ℕ) → 0 < length ds → list_all is_digit ds ≡ true → SpellsCount ds (digits_value ds)
digits_count [] some all = absurd (omega arith)
digits_count (d ∷ ds) some all =
    let plain = plain_digit d (and_parts (is_digit d) (list_all is_digit ds) all).0 in
    record {
      word = record { some = some; black = black_digits (d ∷ ds) all };
      spelled = rw (plain.2, all) refl;
    }

-- and a number
digits_number : (ds : List ℕ) → 0 < length ds → list_all is_digit ds ≡ true → SpellsNumber ds (pos (digits_value ds))
digits_number [] some all = absurd (omega arith)
digits_number (d ∷ ds) some all =
    let plain = plain_digit d (and_parts (is_digit d) (list_all is_digit ds) all).0 in
    record {
      word = record { some = some; black = black_digits (d ∷ ds) all };
      no_star = rw plain.1 refl;
      spelled = rw (plain.2, plain.3, all) refl;
    }

-- and with a minus sign the opposite number
minus_digits_number : (ds : List ℕ) → 0 < length ds → list_all is_digit ds ≡ true
    → SpellsNumber (45 ∷ ds) (neg_ℤ (pos (digits_value ds)))
minus_digits_number [] some all = absurd (omega arith)
minus_digits_number (d ∷ ds) some all = record {
  word = record { some = omega arith; black = black_digits (d ∷ ds) all };
  no_star = refl;
  spelled = rw all refl;
}

-- a printed count spells that count
pub printed_count : (n : ℕ) → n < 10 ^ 64 → SpellsCount (decimal n) n
printed_count n below =
    let are = decimal_digits n below in subst (SpellsCount (decimal n)) are.value
    (digits_count (decimal n) are.some are.digits)

-- a printed number spells that number
pub printed_number : (a : ℤ) → unsigned_abs a < 10 ^ 64 → SpellsNumber (signed_decimal a) a
printed_number (pos n) below =
    let are = decimal_digits n below in
    subst (λ k. SpellsNumber (decimal n) (pos k)) are.value (digits_number (decimal n) are.some are.digits)
printed_number (negsuc n) below =
    let are = decimal_digits (suc n) below in
    subst (λ k. SpellsNumber (45 ∷ decimal (suc n)) (neg_ℤ (pos k))) are.value
    (minus_digits_number (decimal (suc n)) are.some are.digits)
