-- The first token of a text: what stands after the white space at the front, up to the next white space.
use Rattle.std.proofs.Common.{◌≡◌, ℕ, suc, ◌+◌, ◌<◌, true, false, not, List, [], ◌∷◌, length, take, drop, refl, ap, sym}
use Rattle.std.proofs.Common.{◌∙◌, arith, inl, inr, add-one, one-add, ◌-◌}
use Rattle.std.specs.List.{prefix_len}
use Rattle.std.proofs.lemmas.Bool.{cases_Bool}
use Rattle.std.proofs.lemmas.List.{drop-drop, take_all, length-drop, length-take}
use Rattle.mat_files.specs.Tokens.{is_white, Token, goes_on, put_before, tokens_from}

-- how many bytes of white space stand at the front
abbrev pub white_len : List ℕ → ℕ
white_len bs = prefix_len is_white bs

-- how many bytes stand before the first white space
abbrev pub token_len : List ℕ → ℕ
token_len bs = prefix_len (λ b. not (is_white b)) bs

-- ---- one byte, which is white space or, if not, black

white_len-white : (b : ℕ) (bs : List ℕ) → is_white b ≡ true → white_len (b ∷ bs) ≡ 1 + white_len bs
white_len-white b bs white = rw white refl

white_len-black : (b : ℕ) (bs : List ℕ) → is_white b ≡ false → white_len (b ∷ bs) ≡ 0
white_len-black b bs black = rw black refl

token_len-white : (b : ℕ) (bs : List ℕ) → is_white b ≡ true → token_len (b ∷ bs) ≡ 0
token_len-white b bs white = rw white refl

token_len-black : (b : ℕ) (bs : List ℕ) → is_white b ≡ false → token_len (b ∷ bs) ≡ 1 + token_len bs
token_len-black b bs black = rw black refl

pub tokens_from-white : (n b : ℕ) (bs : List ℕ) → is_white b ≡ true → tokens_from n (b ∷ bs) ≡ tokens_from (suc n) bs
tokens_from-white n b bs white = rw white refl

tokens_from-black : (n b : ℕ) (bs : List ℕ) → is_white b ≡ false
    → tokens_from n (b ∷ bs) ≡ put_before n b (goes_on bs) (tokens_from (suc n) bs)
tokens_from-black n b bs black = rw black refl

-- ---- white space at the front

-- it makes no token
skip_white : (n : ℕ) (bs : List ℕ) → tokens_from n bs ≡ tokens_from (n + white_len bs) (drop (white_len bs) bs)
skip_white n [] = refl
skip_white n (b ∷ bs) =
    elim (cases_Bool (is_white b)) [
      | inl white ↦
          let count : n + (1 + white_len bs) ≡ suc n + white_len bs = omega arith in
          let same : tokens_from (n + (1 + white_len bs)) (drop (1 + white_len bs) (b ∷ bs))
          ≡ tokens_from (suc n + white_len bs) (drop (white_len bs) bs) = rw (count, one-add) refl in
          tokens_from-white n b bs white ∙ skip_white (suc n) bs ∙ sym same
          ∙ ap (λ k. tokens_from (n + k) (drop k (b ∷ bs))) (sym (white_len-white b bs white))
      | inr black ↦
          let none : n ≡ n + 0 = omega arith in
          ap (λ m. tokens_from m (b ∷ bs)) none ∙ ap (λ k. tokens_from (n + k) (drop k (b ∷ bs)))
          (sym (white_len-black b bs black))
    ]

-- no white space stands after it
no_white_left : (bs : List ℕ) → white_len (drop (white_len bs) bs) ≡ 0
no_white_left [] = refl
no_white_left (b ∷ bs) =
    elim (cases_Bool (is_white b)) [
      | inl white ↦ ap (λ k. white_len (drop k (b ∷ bs))) (white_len-white b bs white ∙ one-add (white_len bs))
          ∙ no_white_left bs
      | inr black ↦ ap (λ k. white_len (drop k (b ∷ bs))) (white_len-black b bs black) ∙ white_len-black b bs black
    ]

-- ---- the token

-- a token, and those of the bytes after it
abbrev pub first_then : ℕ → List ℕ → ℕ → List Token
first_then n bs k = record { at = n; text = take k bs } ∷ tokens_from (n + k) (drop k bs)

-- one more byte in front of a token
longer : (n b : ℕ) (bs : List ℕ) (k : ℕ)
    → put_before n b true (first_then (suc n) bs (suc k)) ≡ first_then n (b ∷ bs) (suc (suc k))
longer n b bs k =
    let place : suc n + suc k ≡ n + suc (suc k) = omega arith in
    ap (λ m. record { at = n; text = b ∷ take (suc k) bs } ∷ tokens_from m (drop (suc k) bs)) place

-- what begins with no white space begins with a token
pub token_front : (n b : ℕ) (bs : List ℕ) → is_white b ≡ false
    → tokens_from n (b ∷ bs) ≡ first_then n (b ∷ bs) (suc (token_len bs))
token_front n b [] black = tokens_from-black n b [] black
token_front n b (c ∷ cs) black =
    elim (cases_Bool (is_white c)) [
      | inl white ↦
          tokens_from-black n b (c ∷ cs) black
          ∙ ap (λ goes. put_before n b (not goes) (tokens_from (suc n) (c ∷ cs))) white
          ∙ ap (λ m. record { at = n; text = b ∷ [] } ∷ tokens_from m (c ∷ cs)) (sym (add-one n))
          ∙ ap (λ k. first_then n (b ∷ c ∷ cs) (suc k)) (sym (token_len-white c cs white))
      | inr goes ↦
          tokens_from-black n b (c ∷ cs) black
          ∙ ap (λ white. put_before n b (not white) (tokens_from (suc n) (c ∷ cs))) goes
          ∙ ap (put_before n b true) (token_front (suc n) c cs goes)
          ∙ longer n b (c ∷ cs) (token_len cs)
          ∙ ap (λ k. first_then n (b ∷ c ∷ cs) (suc k)) (sym (one-add (token_len cs)) ∙ sym (token_len-black c cs goes))
    ]

-- where no white space is at the front, a token is, or nothing
pub token_at : (n : ℕ) (left : List ℕ) → white_len left ≡ 0 → 0 < length left
    → tokens_from n left ≡ first_then n left (token_len left)
token_at n [] none some = absurd (omega arith)
token_at n (b ∷ bs) none some =
    elim (cases_Bool (is_white b)) [
      | inl white ↦ let one = white_len-white b bs white in absurd (omega arith)
      | inr black ↦ token_front n b bs black ∙ ap (first_then n (b ∷ bs)) (sym (one-add (token_len bs))
          ∙ sym (token_len-black b bs black))
    ]

-- where neither white space nor a token is at the front, nothing is
nothing_left : (left : List ℕ) → white_len left ≡ 0 → token_len left ≡ 0 → left ≡ []
nothing_left [] none no_token = refl
nothing_left (b ∷ bs) none no_token =
    elim (cases_Bool (is_white b)) [
      | inl white ↦ let one = white_len-white b bs white in absurd (omega arith)
      | inr black ↦ let one = token_len-black b bs black in absurd (omega arith)
    ]

-- ---- what a scanner does with the bytes from a place on

-- all bytes from a place on
slice_to_end : (at : ℕ) (bytes : List ℕ) → take (length bytes - at) (drop at bytes) ≡ drop at bytes
slice_to_end at bytes = take_all (length bytes - at) (drop at bytes) (omega (arith, length-drop at bytes))

-- white space, a token, and what follows
pub record IsScanned (at white size : ℕ) (bytes left text : List ℕ) : Type 0 where
  pub white_is : white ≡ white_len (take (length bytes - at) (drop at bytes))
  pub left_is : left ≡ drop white (take (length bytes - at) (drop at bytes))
  pub size_is : size ≡ token_len left
  pub text_is : text ≡ take size left

module _ {at white size : ℕ} {bytes left text : List ℕ} (scanned : IsScanned at white size bytes left text) where
  -- what is left is what stands after the white space
  left_from : left ≡ drop (at + white) bytes
  left_from = scanned.left_is ∙ ap (drop white) (slice_to_end at bytes) ∙ drop-drop white at bytes

  -- the white space makes no token
  skipped : tokens_from at (drop at bytes) ≡ tokens_from (at + white) left
  skipped =
      let white_is : white ≡ white_len (drop at bytes) = scanned.white_is ∙ ap white_len (slice_to_end at bytes) in
      skip_white at (drop at bytes) ∙ ap (λ k. tokens_from (at + k) (drop k (drop at bytes))) (sym white_is)
      ∙ ap (λ bs. tokens_from (at + white) (drop white bs)) (sym (slice_to_end at bytes))
      ∙ ap (tokens_from (at + white)) (sym scanned.left_is)

  -- no white space is left at the front
  black : white_len left ≡ 0
  black =
      ap white_len scanned.left_is
      ∙ ap (λ k. white_len (drop k (take (length bytes - at) (drop at bytes)))) scanned.white_is
      ∙ no_white_left (take (length bytes - at) (drop at bytes))

  -- the token is the first, and those after it are the rest
  pub scanned_token : 0 < length text
      → tokens_from at (drop at bytes)
      ≡ record { at = at + white; text = text } ∷ tokens_from (at + white + size) (drop (at + white + size) bytes)
  scanned_token some =
      let long : 0 < length left = omega (arith, ap length scanned.text_is, length-take size left) in
      let after : drop size left ≡ drop (at + white + size) bytes = ap (drop size) left_from
      ∙ drop-drop size (at + white) bytes in
      skipped ∙ token_at (at + white) left black long ∙ ap (first_then (at + white) left) (sym scanned.size_is)
      ∙ (λ i. record { at = at + white; text = sym scanned.text_is i } ∷ tokens_from (at + white + size) (after i))

  -- where the token is empty, nothing is left
  pub scanned_nothing : size ≡ 0
      → (tokens_from at (drop at bytes) ≡ []) × (tokens_from (at + white + size) (drop (at + white + size) bytes) ≡ [])
  scanned_nothing none =
      let nothing : left ≡ [] = nothing_left left black (sym scanned.size_is ∙ none) in
      let same : at + white ≡ at + white + size = omega arith in (
        skipped ∙ ap (tokens_from (at + white)) nothing,
        ap (λ k. tokens_from k (drop k bytes)) (sym same) ∙ ap (tokens_from (at + white)) (sym left_from ∙ nothing),
      )
