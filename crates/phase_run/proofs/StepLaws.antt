-- The point after a step, brick by brick: what was recorded of the step is read beside the point.
use Rattle.std.proofs.Common.{◌≡◌, ℕ, zero, suc, ◌+◌, ◌-◌, ◌^◌, ◌<◌, ◌≤◌, pos, Bool, true, false, List, [], ◌∷◌, ◌++◌}
use Rattle.std.proofs.Common.{length, take, drop, get_or, refl, ap, arith, sym, subst, ◌∙◌, Some, slice_get, All}
use Rattle.std.proofs.Common.{flat_map, append-nil}
use Rattle.std.proofs.lemmas.List.{take_more, take_all, length-append, length-drop}
use Rattle.std.proofs.Math.Seq.{take-append_seam, drop-append_seam}
use Rattle.std.proofs.lemmas.Grind.{flat_map-append}
use Rattle.std.proofs.lemmas.Option.{slice_get_within, get_or_from_slice_get}
use Rattle.lattice_theory.specs.Vectors.{Vector, add, scale, zeros, is_zero}
use Rattle.lattice_laws.proofs.Products.{zeros_is}
use Rattle.lattice_laws.proofs.Multiples.{scale-zeros}
use Rattle.lattice_laws.proofs.Sums.{add_zeros}
use Rattle.lattice_laws.proofs.Places.{drop-at, there_at, same_value}
use Rattle.lattice_theory.specs.SignedSums.{vectors}
use Rattle.fold_theory.specs.Programs.{Program, IsProgram, Bricks, AreWithin}
use Rattle.run_theory.specs.Folds.{FoldValue}
use Rattle.run_theory.specs.Steps.{Move, IsBest, moved}
use Rattle.run_theory.specs.Outcomes.{nonzero_from, nonzero_entries}
use Rattle.fold_program.proofs.PointLaws.{shape_of}
use Rattle.phase_run.proofs.PointLaws.{step_sizes}

-- ---- lists

-- what a part up to the end of a list is
pub rest_of : {A : Type 0} (n : ℕ) (xs ys : List A) → ys ≡ take (length xs - n) (drop n xs) → ys ≡ drop n xs
rest_of n xs ys is = is ∙ take_all (length xs - n) (drop n xs) (omega (arith, length-drop n xs))

-- ---- what is recorded of a step

-- what is recorded from brick i on, by whether its part is zero
named_zero : (i : ℕ) (d : Vector) (h : Bricks) → is_zero d ≡ true →
    (nonzero_from (suc i) (d ∷ h) ≡ nonzero_from (suc (suc i)) h) × (nonzero_entries (d ∷ h) ≡ nonzero_entries h)
named_zero i d h none =
    let next : suc i + 1 ≡ suc (suc i) = omega arith in (
      ap (λ b. elim b [ true ↦ nonzero_from (suc i + 1) h | false ↦ suc i ∷ nonzero_from (suc i + 1) h ]) none
          ∙ ap (λ n. nonzero_from n h) next,
      ap (λ b. elim b [ true ↦ nonzero_entries h | false ↦ d ++ nonzero_entries h ]) none,
    )

named_some : (i : ℕ) (d : Vector) (h : Bricks) → is_zero d ≡ false →
    (nonzero_from (suc i) (d ∷ h) ≡ suc i ∷ nonzero_from (suc (suc i)) h)
    × (nonzero_entries (d ∷ h) ≡ d ++ nonzero_entries h)
named_some i d h some =
    let next : suc i + 1 ≡ suc (suc i) = omega arith in (
      ap (λ b. elim b [ true ↦ nonzero_from (suc i + 1) h | false ↦ suc i ∷ nonzero_from (suc i + 1) h ]) some
          ∙ ap (λ n. suc i ∷ nonzero_from n h) next,
      ap (λ b. elim b [ true ↦ nonzero_entries h | false ↦ d ++ nonzero_entries h ]) some,
    )

-- the bricks that are named come after the one before
named_behind : (i : ℕ) (h : Bricks) (j : ℕ) → slice_get (nonzero_from (suc i) h) 0 ≡ Some j → i < j
named_behind i [] j e = absurd (cc)
named_behind i (d ∷ h) j e = by (is_zero d) refl (λ later. named_behind (suc i) h j later)
  where
    by : (b : Bool) → is_zero d ≡ b → (slice_get (nonzero_from (suc (suc i)) h) 0 ≡ Some j → suc i < j) → i < j
    by true none behind =
        let low = behind (ap (λ ns. slice_get ns 0) (sym (named_zero i d h none).0) ∙ e) in
        omega (arith, low)
    by false some behind =
        let same : suc i ≡ j = same_value (Some (suc i)) (suc i) j refl
        (ap (λ ns. slice_get ns 0) (sym (named_some i d h some).0) ∙ e) in
        omega (arith, same)

-- ---- the point, brick by brick

module _ (t k : ℕ) (x h : Bricks) where
  -- the point was written up to brick i, and these names and parts are left
  pub record SteppedUpTo (i : ℕ) (names : List ℕ) (parts entries : Vector) : Type 0 where
    pub so_far : entries ≡ flat_map (λ v. v) (take i (moved x k h))
    pub names_left : names ≡ nonzero_from (suc i) (drop i h)
    pub parts_left : parts ≡ nonzero_entries (drop i h)

  pub stepped_none : (names : List ℕ) (parts entries : Vector) → names ≡ nonzero_from 1 h → parts ≡ nonzero_entries h →
      entries ≡ [] →
      SteppedUpTo 0 names parts entries
  stepped_none names parts entries are hold none = record { so_far = none; names_left = are; parts_left = hold }

  module _ (same : length h ≡ length x) (wx : All (λ v. length v ≡ t) x) (wh : All (λ v. length v ≡ t) h) where
    sized : (vs : Bricks) (i : ℕ) (v : Vector) → All (λ v. length v ≡ t) vs → slice_get vs i ≡ Some v → length v ≡ t
    sized vs i v widths there = ap length (sym (get_or_from_slice_get vs i v v there))
        ∙ widths i v (slice_get_within vs i v there)

    pub moved_there : (i : ℕ) (v d : Vector) → slice_get x i ≡ Some v → slice_get h i ≡ Some d →
        slice_get (moved x k h) i ≡ Some (add v (scale (pos (2 ^ k)) d))
    moved_there i v d at move = by x h i at move
      where
        by : (x h : Bricks) (i : ℕ) → slice_get x i ≡ Some v → slice_get h i ≡ Some d →
            slice_get (moved x k h) i ≡ Some (add v (scale (pos (2 ^ k)) d))
        by [] h i at move = absurd (cc)
        by (u ∷ x) [] i at move = absurd (cc)
        by (u ∷ x) (e ∷ h) zero at move =
            let first : u ≡ v = same_value (Some u) u v refl at in
            let second : e ≡ d = same_value (Some e) e d refl move in
            λ j. Some (add (first j) (scale (pos (2 ^ k)) (second j)))
        by (u ∷ x) (e ∷ h) (suc i) at move = by x h i at move

    written : (i : ℕ) (v d end entries : Vector) → slice_get x i ≡ Some v → slice_get h i ≡ Some d →
        end ≡ add v (scale (pos (2 ^ k)) d) →
        entries ≡ flat_map (λ u. u) (take i (moved x k h)) →
        entries ++ end ≡ flat_map (λ u. u) (take (i + 1) (moved x k h))
    written i v d end entries at move is so_far =
        let y : Bricks = moved x k h in
        let there = moved_there i v d at move in
        let low = slice_get_within y i (add v (scale (pos (2 ^ k)) d)) there in
        let here : get_or y i [] ≡ end = get_or_from_slice_get y i (add v (scale (pos (2 ^ k)) d)) [] there ∙ sym is in
        (λ j. so_far j ++ end)
        ∙ ap (λ (e : Vector). flat_map (λ u. u) (take i y) ++ e) (sym (append-nil end))
        ∙ sym (flat_map-append (λ (u : Vector). u) (take i y) (end ∷ []))
        ∙ ap (λ (u : Vector). flat_map (λ w. w) (take i y ++ u ∷ [])) (sym here)
        ∙ ap (flat_map (λ (u : Vector). u)) (sym (take_more y i [] low))

    -- the part of brick i in the move, with an entry for each column
    record IsMove (i : ℕ) : Type 0 where
      part : Vector
      there : slice_get h i ≡ Some part
      here : drop i h ≡ part ∷ drop (i + 1) h
      number : i + 1 ≡ suc i
      width : length part ≡ t

    move_at : (i : ℕ) → i < length x → IsMove i
    move_at i low =
        let found = there_at h i (omega (arith, low, same)) in
        record {
          part = found.0;
          there = found.1;
          here = drop-at h i found.0 found.1;
          number = omega arith;
          width = sized h i found.0 wh found.1;
        }

    -- where brick i is named, the first of the parts that are left are its own
    pub record IsPart (i : ℕ) (names : List ℕ) (parts : Vector) : Type 0 where
      pub part : Vector
      pub there : slice_get h i ≡ Some part
      pub is : take t parts ≡ part
      pub room : t ≤ length parts
      pub names_after : drop 1 names ≡ nonzero_from (suc (i + 1)) (drop (i + 1) h)
      pub parts_after : drop t parts ≡ nonzero_entries (drop (i + 1) h)

    pub part_of : (i : ℕ) (names : List ℕ) (parts entries : Vector) → i < length x → slice_get names 0 ≡ Some (i + 1) →
        SteppedUpTo i names parts entries → IsPart i names parts
    part_of i names parts entries low named so_far = by (is_zero d) refl
      where
        move : IsMove i
        move = move_at i low

        d : Vector
        d = move.part

        rest : Bricks
        rest = drop (i + 1) h

        by : (b : Bool) → is_zero d ≡ b → IsPart i names parts
        by true none =
            let names_are : names ≡ nonzero_from (suc (suc i)) rest =
            so_far.names_left ∙ ap (nonzero_from (suc i)) move.here ∙ (named_zero i d rest none).0 in
            let behind = named_behind (suc i) rest (i + 1) (ap (λ ns. slice_get ns 0) (sym names_are) ∙ named) in
            absurd (omega (arith, behind))
        by false some =
            let names_are : names ≡ suc i ∷ nonzero_from (suc (suc i)) rest =
            so_far.names_left ∙ ap (nonzero_from (suc i)) move.here ∙ (named_some i d rest some).0 in
            let parts_are : parts ≡ d ++ nonzero_entries rest =
            so_far.parts_left ∙ ap nonzero_entries move.here ∙ (named_some i d rest some).1 in
            let long : length parts ≡ length d + length (nonzero_entries rest) =
            ap length parts_are ∙ length-append d (nonzero_entries rest) in
            record {
              part = d;
              there = move.there;
              is = ap (take t) parts_are ∙ ap (λ n. take n (d ++ nonzero_entries rest)) (sym move.width)
                  ∙ take-append_seam d (nonzero_entries rest);
              room = omega (arith, long, move.width);
              names_after = ap (drop 1) names_are ∙ ap (λ n. nonzero_from (suc n) rest) (sym move.number);
              parts_after = ap (drop t) parts_are ∙ ap (λ n. drop n (d ++ nonzero_entries rest)) (sym move.width)
                  ∙ drop-append_seam d (nonzero_entries rest);
            }

    -- a brick that is named moves by its part
    pub stepped_moved : (i : ℕ) (v end entries next : Vector) (names next_names : List ℕ) (parts next_parts : Vector) →
        slice_get x i ≡ Some v →
        slice_get names 0 ≡ Some (i + 1) → end ≡ add v (scale (pos (2 ^ k)) (take t parts)) → next ≡ entries ++ end →
        next_names ≡ drop 1 names →
        next_parts ≡ drop t parts → SteppedUpTo i names parts entries → SteppedUpTo (i + 1) next_names next_parts next
    stepped_moved i v end entries next names next_names parts next_parts at named is pushed fewer less so_far =
        let p = part_of i names parts entries (slice_get_within x i v at) named so_far in
        record {
          so_far = pushed ∙ written i v p.part end entries at p.there
              (is ∙ ap (λ d. add v (scale (pos (2 ^ k)) d)) p.is) so_far.so_far;
          names_left = fewer ∙ p.names_after;
          parts_left = less ∙ p.parts_after;
        }

    -- a brick that is not named stays
    pub stepped_still : (i : ℕ) (v entries next : Vector) (names next_names : List ℕ) (parts next_parts : Vector) →
        slice_get x i ≡ Some v →
        (slice_get names 0 ≡ Some (i + 1) → ⊥) → next ≡ entries ++ v → next_names ≡ names → next_parts ≡ parts →
        SteppedUpTo i names parts entries →
        SteppedUpTo (i + 1) next_names next_parts next
    stepped_still i v entries next names next_names parts next_parts at unnamed pushed names_kept parts_kept so_far =
        by (is_zero d) refl
      where
        move : IsMove i
        move = move_at i (slice_get_within x i v at)

        d : Vector
        d = move.part

        rest : Bricks
        rest = drop (i + 1) h

        by : (b : Bool) → is_zero d ≡ b → SteppedUpTo (i + 1) next_names next_parts next
        by true none =
            let names_are : names ≡ nonzero_from (suc (suc i)) rest =
            so_far.names_left ∙ ap (nonzero_from (suc i)) move.here ∙ (named_zero i d rest none).0 in
            let parts_are : parts ≡ nonzero_entries rest =
            so_far.parts_left ∙ ap nonzero_entries move.here ∙ (named_zero i d rest none).1 in
            let width : length v ≡ length d = sized x i v wx at ∙ sym (sized h i d wh move.there) in
            let nothing : scale (pos (2 ^ k)) d ≡ zeros (length d) =
            ap (scale (pos (2 ^ k))) (zeros_is d none) ∙ scale-zeros (pos (2 ^ k)) (length d) in
            let still : v ≡ add v (scale (pos (2 ^ k)) d) = sym (ap (add v) nothing ∙ add_zeros v (length d) width) in
            record {
              so_far = pushed ∙ written i v d v entries at move.there still so_far.so_far;
              names_left = names_kept ∙ names_are ∙ ap (λ n. nonzero_from (suc n) rest) (sym move.number);
              parts_left = parts_kept ∙ parts_are;
            }
        by false some =
            let names_are : names ≡ suc i ∷ nonzero_from (suc (suc i)) rest =
            so_far.names_left ∙ ap (nonzero_from (suc i)) move.here ∙ (named_some i d rest some).0 in
            absurd (unnamed (ap (λ ns. slice_get ns 0) names_are ∙ ap Some (sym move.number)))

    -- all bricks
    pub stepped_all : (i : ℕ) (names : List ℕ) (parts entries : Vector) → length x ≤ i →
        SteppedUpTo i names parts entries → entries ≡ flat_map (λ v. v) (moved x k h)
    stepped_all i names parts entries all so_far =
        let long : length (moved x k h) ≤ i = omega (arith, all, length-moved x h) in
        so_far.so_far ∙ ap (flat_map (λ (v : Vector). v)) (take_all i (moved x k h) long)
      where
        length-moved : (x h : Bricks) → length (moved x k h) ≤ length x
        length-moved [] h = omega arith
        length-moved (v ∷ x) [] = omega arith
        length-moved (v ∷ x) (d ∷ h) = omega (arith, length-moved x h)

-- ---- the part of a brick that is named, where a program of n bricks with t columns is read

pub record NamedPart (h : Bricks) (t i : ℕ) (parts : Vector) : Type 0 where
  pub part : Vector
  pub there : slice_get h i ≡ Some part
  pub is : take t parts ≡ part
  pub room : t ≤ length parts

pub named_part : (f : FoldValue) (x : Bricks) (m : Move) (p : Program) (n t i : ℕ) (names : List ℕ)
    (parts entries : Vector) → p ≡ f.program → IsProgram p → n ≡ length p.bricks → t ≡ p.link.cols →
    AreWithin f.program.bricks x → All (λ w. length w ≡ f.program.brick.cols) (vectors f.sums) →
    IsBest f.program f.phase (vectors f.sums) x m → i < n → slice_get names 0 ≡ Some (i + 1) →
    SteppedUpTo f.program.link.cols m.k x m.bricks i names parts entries → NamedPart m.bricks t i parts
named_part f x m p n t i names parts entries same is_program bricks cols within widths best low named so_far =
    let program : IsProgram f.program = subst IsProgram same is_program in
    let sizes = step_sizes f x m program within widths best in
    let shape = shape_of f.program x program within in
    let inside : i < length x =
    omega (arith, low, bricks, ap (λ (q : Program). length q.bricks) same, shape.bricks) in
    let width : t ≡ f.program.link.cols = cols ∙ ap (λ (q : Program). q.link.cols) same in
    let own =
    part_of f.program.link.cols m.k x m.bricks sizes.same sizes.point sizes.parts i names parts entries inside named
    so_far in
    record {
      part = own.part;
      there = own.there;
      is = ap (λ c. take c parts) width ∙ own.is;
      room = omega (arith, width, own.room);
    }
