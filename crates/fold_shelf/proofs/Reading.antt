-- A file is read from its front to its end.
use Rattle.std.proofs.Common.{◌≡◌, ℕ, ◌+◌, ◌<◌, ◌≤◌, List, ◌++◌, length, take, drop, Option, Some, None, sym, ap, ◌∙◌}
use Rattle.std.proofs.Common.{⊎_elim, arith, length-append, length-take}
use Rattle.std.proofs.Math.Seq.{take-add}
use Rattle.std.proofs.lemmas.List.{take_all, length-take-le}
use Rattle.fold_shelf.specs.Outside.{File, file_named, ForTold, ReadFrom, IsWhole}

-- what follows from two facts holds of what is told
pub ForTold-both : {A : Type 0} (told : Option A) (P Q R : A → Type 0) → ((a : A) → P a → Q a → R a) →
    ForTold told P → ForTold told Q → ForTold told R
ForTold-both None P Q R follows p q = tt
ForTold-both (Some a) P Q R follows p q = follows a p q

-- these bytes are the front of the named file, where there is one
abbrev pub IsFront : List ℕ → List ℕ → List File → Type 0
IsFront name bytes files = (file : List ℕ) → file_named files name ≡ Some file → bytes ≡ take (length bytes) file

-- the front of a buffer makes bytes longer by no more than its size
pub longer_by_front : (now bytes buffer : List ℕ) (n : ℕ) → now ≡ bytes ++ take n buffer → length now ≤ length bytes + n
longer_by_front now bytes buffer n is = rw (is, length-append, length-take) (omega arith)

-- after these bytes a read gives n more, or none
module _ (name bytes buffer : List ℕ) (n : ℕ) where
  abbrev GoesOn : List File → Type 0
  GoesOn files = ReadFrom files name (length bytes) buffer n

  front_next : (files : List File) → IsFront name bytes files → GoesOn files
      → IsFront name (bytes ++ take n buffer) files
  front_next files front read file there =
      let same : read.bytes ≡ file = cc (read.there) in
      let piece : take n buffer ≡ take n (drop (length bytes) file) =
      read.front ∙ ap (λ f. take n (drop (length bytes) f)) same in
      let now : bytes ++ take n buffer ≡ take (length bytes + n) file =
      (λ i. front file there i ++ piece i) ∙ sym (take-add (length bytes) n file) in
      let long : length (take n buffer) ≡ n =
      ap length read.front ∙ length-take-le n (drop (length bytes) read.bytes) read.inside in
      let width : length (bytes ++ take n buffer) ≡ length bytes + n =
      length-append bytes (take n buffer) ∙ ap (λ k. length bytes + k) long in
      now ∙ ap (λ k. take k file) (sym width)

  -- a read takes the front n bytes further
  pub front_more : (told : Option (List File)) → ForTold told (IsFront name bytes) →
      ForTold told (λ files. ReadFrom files name (length bytes) buffer n)
      → ForTold told (IsFront name (bytes ++ take n buffer))
  front_more told = ForTold-both told _ _ _ front_next

  whole_at_end : (most : ℕ) → n ≡ 0 → 0 < length buffer → length bytes ≤ most →
      (files : List File) → IsFront name bytes files → GoesOn files → IsWhole name most bytes files
  whole_at_end most none room short files front read =
      let end : length read.bytes ≤ length bytes =
      ⊎_elim (λ empty. absurd (omega arith)) (λ past. past) (read.some none) in
      let all : bytes ≡ read.bytes = front read.bytes read.there ∙ take_all (length bytes) read.bytes end in
      record { there = read.there ∙ ap Some (sym all); short = short }

  -- a read of nothing into a buffer with room is at the end
  pub front_whole : (told : Option (List File)) (most : ℕ) → n ≡ 0 → 0 < length buffer → length bytes ≤ most →
      ForTold told (IsFront name bytes) → ForTold told (λ files. ReadFrom files name (length bytes) buffer n) →
      ForTold told (IsWhole name most bytes)
  front_whole told most none room short = ForTold-both told _ _ _ (whole_at_end most none room short)
