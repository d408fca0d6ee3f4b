-- What is written line by line, and word by word. The crates above may cite this file.
use Rattle.std.proofs.Common.{◌≡◌, ℕ, zero, suc, ◌+◌, ◌<◌, ◌≤◌, List, [], ◌∷◌, ◌++◌, length, get_or, take, map}
use Rattle.std.proofs.Common.{flat_map, Some, slice_get, refl, ap, sym, ◌∙◌, append_assoc, arith, All, below_more}
use Rattle.std.specs.List.{join_with_byte}
use Rattle.std.proofs.lemmas.List.{map_push, take_more, append-nil}
use Rattle.std.proofs.Math.Seq.{take-length}
use Rattle.std.proofs.lemmas.List.Elements.{All-from_get_or}
use Rattle.std.proofs.lemmas.Grind.{flat_map-append}
use Rattle.std.proofs.lemmas.Option.{get_or_from_slice_get}

-- what stands before a text that is added
abbrev separator : List (List ℕ) → List ℕ
separator [] = []
separator (x ∷ xs) = 32 ∷ []

-- a text that is added stands behind a space, where it is not the first
join-push : (xs : List (List ℕ)) (x : List ℕ)
    → join_with_byte 32 (xs ++ x ∷ []) ≡ (join_with_byte 32 xs ++ separator xs) ++ x
join-push [] x = refl
join-push (y ∷ []) x = sym (append_assoc y (32 ∷ []) x)
join-push (y ∷ z ∷ xs) x =
    ap (λ (t : List ℕ). y ++ 32 ∷ t) (join-push (z ∷ xs) x) ∙ simp append_assoc

module _ {A : Type 0} (word : A → List ℕ) where
  -- ---- words

  -- the words of a row's front
  abbrev pub front_text : List A → ℕ → List ℕ
  front_text row i = join_with_byte 32 (map word (take i row))

  -- one word more
  front_text_more : (row : List A) (i : ℕ) (d : A) → i < length row
      → front_text row (i + 1) ≡ (front_text row i ++ separator (map word (take i row))) ++ word (get_or row i d)
  front_text_more row i d inside =
      ap (λ v. join_with_byte 32 (map word v)) (take_more row i d inside)
      ∙ ap (join_with_byte 32) (map_push word (take i row) (get_or row i d))
      ∙ join-push (map word (take i row)) (word (get_or row i d))

  -- the first word
  pub first_word_written : (row : List A) (i : ℕ) (d : A) (old before : List ℕ) → i < length row → i ≤ 0
      → before ≡ old ++ front_text row i
      → before ++ word (get_or row i d) ≡ old ++ front_text row (i + 1)
  first_word_written [] i d old before inside first written = absurd (omega arith)
  first_word_written (a ∷ row) (suc i) d old before inside first written = absurd (omega arith)
  first_word_written (a ∷ row) zero d old before inside first written =
      ap (λ (t : List ℕ). t ++ word a) (written ∙ append-nil old)

  -- a word after others
  pub next_word_written : (row : List A) (i : ℕ) (d : A) (old before spaced : List ℕ) → i < length row → 0 < i
      → before ≡ old ++ front_text row i
      → spaced ≡ before ++ 32 ∷ [] → spaced ++ word (get_or row i d) ≡ old ++ front_text row (i + 1)
  next_word_written row zero d old before spaced inside later written space = absurd (omega arith)
  next_word_written [] (suc i) d old before spaced inside later written space = absurd (omega arith)
  next_word_written (a ∷ row) (suc i) d old before spaced inside later written space =
      rw (space, written, front_text_more (a ∷ row) (suc i) d inside) (simp append_assoc)

  -- ---- lines

  -- words with one space between them, and a line feed
  abbrev pub line : List A → List ℕ
  line row = join_with_byte 32 (map word row) ++ 10 ∷ []

  -- a line more
  line_more : (rows : List (List A)) (row : List A) (i : ℕ) (head before : List ℕ) → i < length rows
      → slice_get rows i ≡ Some row
      → before ≡ head ++ flat_map line (take i rows)
      → before ++ line row ≡ head ++ flat_map line (take (i + 1) rows)
  line_more rows row i head before inside is written =
      let front : take (i + 1) rows ≡ take i rows ++ row ∷ [] =
      take_more rows i row inside ∙ ap (λ (r : List A). take i rows ++ r ∷ [])
      (get_or_from_slice_get rows i row row is) in
      rw (front, flat_map-append line (take i rows) (row ∷ []), written) (simp (append_assoc, append-nil))

  module _ (P : List A → Type 0) where
    -- the first i rows stand in the text behind the head, and each is as P says
    pub record AreWritten (head : List ℕ) (rows : List (List A)) (text : List ℕ) (i : ℕ) : Type 0 where
      pub written : text ≡ head ++ flat_map line (take i rows)
      pub each : (k : ℕ) → k < i → P (get_or rows k [])

    -- before the first row
    pub no_row : (head : List ℕ) (rows : List (List A)) (text : List ℕ) → text ≡ head → AreWritten head rows text 0
    no_row head rows text is = record { written = is ∙ sym (append-nil head); each = λ k below. absurd (omega arith) }

    -- a row more
    pub one_row_more : (head : List ℕ) (rows : List (List A)) (row : List A) (before after : List ℕ) (i j : ℕ)
        → i < length rows → j ≡ i + 1
        → slice_get rows i ≡ Some row → P row → after ≡ before ++ line row
        → AreWritten head rows before i → AreWritten head rows after j
    one_row_more head rows row before after i j inside next is holds added so_far = record {
      written = rw next (added ∙ line_more rows row i head before inside is so_far.written);
      each = rw next (below_more _ _ so_far.each (rw (get_or_from_slice_get rows i row [] is) holds));
    }

    -- all rows
    pub all_written : (head : List ℕ) (rows : List (List A)) (text : List ℕ) → AreWritten head rows text (length rows)
        → (text ≡ head ++ flat_map line rows) × All P rows
    all_written head rows text so_far = (
      so_far.written ∙ ap (λ rs. head ++ flat_map line rs) (take-length rows),
      All-from_get_or P rows [] so_far.each,
    )
