-- Blocks of bricks: the least changes of their moves, as they are made and when a brick gets another menu.
use Rattle.std.proofs.Common.{◌≡◌, ◌≢◌, ℕ, ◌+◌, ◌*◌, ◌/◌, ◌<◌, ◌≤◌, ℤ, List, length, refl, ap, arith, sym, ◌∙◌, Option}
use Rattle.std.proofs.Common.{Some, None, subst, get_or, ◌⊎◌, inl, inr, ◌++◌, [], ◌∷◌}
use Rattle.std.specs.Prelude.{slice_get}
use Rattle.std.proofs.lemmas.Int.{ints}
use Rattle.std.proofs.lemmas.Bool.{cases_lt, cases_order}
use Rattle.std.proofs.lemmas.List.{length-set, length-append}
use Rattle.std.proofs.lemmas.Option.{slice_get_within, slice_get-get_or}
use Rattle.std.proofs.Math.ListN.{set}
use Rattle.lattice_laws.proofs.Places.{same_value, slice_get-push}
use Rattle.sieve_laws.specs.declared.PricedMove.{PricedMove}
use Rattle.sieve_laws.specs.Sieve.{Layer, Menu, IsAtMost, lesser}
use Rattle.sieve_laws.proofs.Cells.{slice_get-set_same, slice_get-set_other}
use Rattle.sieve_laws.proofs.Lowering.{lesser_kept, lesser_offer}
use Rattle.layer_sieve.specs.Falls.{AreKept}
use Rattle.brick_dp.specs.Blocks.{IsBelow, IsBelowAll, AreInBlocks}

-- ---- one menu

pub kept_same : (changes : Layer) → AreKept changes changes
kept_same changes w c there = (c, there, omega (arith, ints))

pub kept_on : (changes more most : Layer) → AreKept changes more → AreKept more most → AreKept changes most
kept_on changes more most first then w c there =
    let (b, next, low) = first w c there in
    let (a, last, less) = then w b next in
    (a, last, omega (arith, ints, low, less))

at_most_kept : (changes more : Layer) (h : ℕ) (c : ℤ) → AreKept changes more → IsAtMost changes h c → IsAtMost more h c
at_most_kept changes more h c kept (b, there, low) =
    let (a, now, less) = kept h b there in
    (a, now, omega (arith, ints, low, less))

-- as IsBelow, for the first n moves
abbrev pub IsBelowUpTo : Layer → Menu → ℕ → Type 0
IsBelowUpTo changes menu n =
    (i : ℕ) (m : PricedMove) → i < n → slice_get menu i ≡ Some m → IsAtMost changes m.place m.change

pub below_none : (changes : Layer) (menu : Menu) → IsBelowUpTo changes menu 0
below_none changes menu i m low = absurd (omega (arith, low))

pub below_more : (changes more : Layer) (menu : Menu) (n : ℕ) (m : PricedMove) → slice_get menu n ≡ Some m →
    AreKept changes more → IsAtMost more m.place m.change → IsBelowUpTo changes menu n → IsBelowUpTo more menu (n + 1)
below_more changes more menu n m here kept new so_far i e low there = by (cases_lt i n)
  where
    by : (i < n) ⊎ (n ≤ i) → IsAtMost more e.place e.change
    by (inl before) = at_most_kept changes more e.place e.change kept (so_far i e before there)
    by (inr high) =
        let last : n ≡ i = omega (arith, low, high) in
        let same : m ≡ e = same_value (slice_get menu n) m e here (ap (slice_get menu) last ∙ there) in
        subst (λ (m : PricedMove). IsAtMost more m.place m.change) same new

pub below_all : (changes : Layer) (menu : Menu) (n : ℕ) → length menu ≤ n → IsBelowUpTo changes menu n →
    IsBelow changes menu
below_all changes menu n all so_far i m there = so_far i m (omega (arith, all, slice_get_within menu i m there)) there

-- a cell that is lowered to a cost
pub lowered_cell : (changes : Layer) (h : ℕ) (first new : Option ℤ) (c : ℤ) → h < length changes →
    new ≡ lesser (get_or changes h first) (Some c) → AreKept changes (set changes h new) × IsAtMost (set changes h new)
    h c
lowered_cell changes h first new c inside is =
    subst (λ o. AreKept changes (set changes h o) × IsAtMost (set changes h o) h c) (sym is) (kept, low)
  where
    old : Option ℤ
    old = get_or changes h first

    here : slice_get changes h ≡ Some old
    here = slice_get-get_or changes h first inside

    now : slice_get (set changes h (lesser old (Some c))) h ≡ Some (lesser old (Some c))
    now = slice_get-set_same changes h (lesser old (Some c)) (slice_get_within changes h old here)

    low : IsAtMost (set changes h (lesser old (Some c))) h c
    low =
        let (a, e, less) = lesser_offer old c in
        (a, now ∙ ap Some e, less)

    kept : AreKept changes (set changes h (lesser old (Some c)))
    kept w b there = by (cases_order w h)
      where
        apart : w ≢ h → IsAtMost (set changes h (lesser old (Some c))) w b
        apart other = (b, slice_get-set_other changes h w (lesser old (Some c)) other ∙ there, omega (arith, ints))

        by : (w ≡ h) ⊎ ((w < h) ⊎ (h < w)) → IsAtMost (set changes h (lesser old (Some c))) w b
        by (inl same) =
            let was : old ≡ Some b =
            same_value (slice_get changes h) old (Some b) here (ap (slice_get changes) (sym same) ∙ there) in
            let (a, e, less) = lesser_kept b (Some c) in
            let cell : lesser old (Some c) ≡ Some a = ap (λ o. lesser o (Some c)) was ∙ e in
            (a, ap (slice_get (set changes h (lesser old (Some c)))) same ∙ now ∙ ap Some cell, less)
        by (inr (inl before)) = apart (λ e. omega (arith, before, e))
        by (inr (inr behind)) = apart (λ e. omega (arith, behind, e))

-- ---- the menus of a block

pub block_none : (menus : List Menu) (from : ℕ) (changes : Layer) → IsBelowAll menus from from changes
block_none menus from changes i menu high low = absurd (omega (arith, high, low))

pub block_more : (menus : List Menu) (from at : ℕ) (changes more : Layer) (menu : Menu) →
    slice_get menus at ≡ Some menu →
    AreKept changes more → IsBelow more menu → IsBelowAll menus from at changes → IsBelowAll menus from (at + 1) more
block_more menus from at changes more menu here kept new so_far i other high low there = by (cases_lt i at)
  where
    by : (i < at) ⊎ (at ≤ i) → IsBelow more other
    by (inl before) = λ j m move.
        at_most_kept changes more m.place m.change kept (so_far i other high before there j m move)
    by (inr behind) =
        let last : at ≡ i = omega (arith, low, behind) in
        let same : menu ≡ other = same_value (slice_get menus at) menu other here (ap (slice_get menus) last ∙ there) in
        subst (λ (m : Menu). IsBelow more m) same new

-- behind the last brick there is none
pub block_all : (menus : List Menu) (from to past : ℕ) (changes : Layer) → (to ≡ past) ⊎ (length menus ≤ to) →
    IsBelowAll menus from to changes → IsBelowAll menus from past changes
block_all menus from to past changes (inl same) is = subst (λ n. IsBelowAll menus from n changes) same is
block_all menus from to past changes (inr all) is = λ i menu high low there.
    is i menu high (omega (arith, all, slice_get_within menus i menu there)) there

-- ---- all blocks

-- what is kept of the first n blocks
pub record AreBlocksUpTo (menus : List Menu) (blocks : List (Option Layer)) (n : ℕ) : Type 0 where
  pub count : length blocks ≡ n
  pub each : (block : ℕ) (changes : Layer) → slice_get blocks block ≡ Some (Some changes) →
      IsBelowAll menus (16 * block) (16 * block + 16) changes

pub blocks_none : (menus : List Menu) (blocks : List (Option Layer)) → blocks ≡ [] → AreBlocksUpTo menus blocks 0
blocks_none menus blocks is = record {
  count = ap length is;
  each = λ block changes there. absurd (omega (
    arith,
    slice_get_within blocks block (Some changes) there,
    ap length is,
  ));
}

pub blocks_more : (menus : List Menu) (blocks more : List (Option Layer)) (n : ℕ) (changes : Layer) →
    IsBelowAll menus (16 * n) (16 * n + 16) changes → more ≡ blocks ++ Some changes ∷ [] →
    AreBlocksUpTo menus blocks n →
    AreBlocksUpTo menus more (n + 1)
blocks_more menus blocks more n changes new is so_far = record {
  count = ap length is ∙ length-append blocks (Some changes ∷ []) ∙ ap (λ m. m + 1) so_far.count;
  each = λ block other there.
      by block other (slice_get-push blocks (Some changes) (Some other) block
      (ap (λ bs. slice_get bs block) (sym is) ∙ there));
}
  where
    by : (block : ℕ) (other : Layer) →
        (slice_get blocks block ≡ Some (Some other)) ⊎ ((block ≡ length blocks) × (Some changes ≡ Some other)) →
        IsBelowAll menus (16 * block) (16 * block + 16) other
    by block other (inl before) = so_far.each block other before
    by block other (inr last) =
        let place : n ≡ block = sym (last.0 ∙ so_far.count) in
        let same : changes ≡ other = same_value (Some changes) changes other refl last.1 in
        subst (λ b. IsBelowAll menus (16 * b) (16 * b + 16) other) place
        (subst (IsBelowAll menus (16 * n) (16 * n + 16)) same new)

pub blocks_all : (menus : List Menu) (blocks : List (Option Layer)) (n : ℕ) → length menus ≤ 16 * n →
    AreBlocksUpTo menus blocks n → AreInBlocks menus blocks
blocks_all menus blocks n all so_far = record {
  count = omega (arith, all, so_far.count);
  each = so_far.each;
}

-- where menus of one block alone are others, what is kept of the others stays right
pub blocks_set : (menus more : List Menu) (blocks others : List (Option Layer)) (n : ℕ) (kept : Option Layer) →
    length more ≡ length menus → others ≡ set blocks n kept →
    ((i : ℕ) (menu : Menu) → (i < 16 * n) ⊎ (16 * n + 16 ≤ i) → slice_get more i ≡ Some menu →
    slice_get menus i ≡ Some menu) →
    ((changes : Layer) → kept ≡ Some changes → IsBelowAll more (16 * n) (16 * n + 16) changes) →
    AreInBlocks menus blocks → AreInBlocks more others
blocks_set menus more blocks others n kept size is outside new are = record {
  count = omega (arith, size, ap length is, length-set blocks n kept, are.count);
  each = λ block changes there. by block changes (ap (λ bs. slice_get bs block) (sym is) ∙ there) (cases_order block n);
}
  where
    apart : (block : ℕ) (changes : Layer) → slice_get (set blocks n kept) block ≡ Some (Some changes) → block ≢ n →
        IsBelowAll more (16 * block) (16 * block + 16) changes
    apart block changes there other i menu high low at =
        are.each block changes (sym (slice_get-set_other blocks n block kept other) ∙ there) i menu high low
        (outside i menu (side (cases_lt i (16 * n))) at)
      where
        side : (i < 16 * n) ⊎ (16 * n ≤ i) → (i < 16 * n) ⊎ (16 * n + 16 ≤ i)
        side (inl before) = inl before
        side (inr behind) = elim (cases_lt i (16 * n + 16)) [
          | inl inside ↦ absurd (other (omega (arith, high, low, behind, inside)))
          | inr past ↦ inr past
        ]

    by : (block : ℕ) (changes : Layer) → slice_get (set blocks n kept) block ≡ Some (Some changes) →
        (block ≡ n) ⊎ ((block < n) ⊎ (n < block)) → IsBelowAll more (16 * block) (16 * block + 16) changes
    by block changes there (inl same) =
        let inside : n < length blocks = omega (
          arith,
          same,
          slice_get_within (set blocks n kept) block (Some changes) there,
          length-set blocks n kept,
        ) in
        let here : slice_get (set blocks n kept) n ≡ Some (Some changes) =
        ap (slice_get (set blocks n kept)) (sym same) ∙ there in
        let known : kept ≡ Some changes =
        same_value (slice_get (set blocks n kept) n) kept (Some changes) (slice_get-set_same blocks n kept inside)
        here in
        subst (λ b. IsBelowAll more (16 * b) (16 * b + 16) changes) (sym same) (new changes known)
    by block changes there (inr (inl before)) = apart block changes there (λ e. omega (arith, before, e))
    by block changes there (inr (inr behind)) = apart block changes there (λ e. omega (arith, behind, e))

-- a brick has another menu, and nothing is known of its block
pub blocks_forgotten : (menus : List Menu) (blocks : List (Option Layer)) (place : ℕ) (menu : Menu) →
    AreInBlocks menus blocks → AreInBlocks (set menus place menu) (set blocks (place / 16) None)
blocks_forgotten menus blocks place menu are =
    blocks_set menus (set menus place menu) blocks (set blocks (place / 16) None) (place / 16) None
    (length-set menus place menu) refl outside (λ changes none. absurd (cc)) are
  where
    apart : (i : ℕ) → (i < 16 * (place / 16)) ⊎ (16 * (place / 16) + 16 ≤ i) → i ≢ place
    apart i (inl before) = λ e. omega (arith, before, e)
    apart i (inr behind) = λ e. omega (arith, behind, e)

    outside : (i : ℕ) (other : Menu) → (i < 16 * (place / 16)) ⊎ (16 * (place / 16) + 16 ≤ i) →
        slice_get (set menus place menu) i ≡ Some other → slice_get menus i ≡ Some other
    outside i other side there = sym (slice_get-set_other menus place i menu (apart i side)) ∙ there

-- what is known of a block again
pub blocks_known : (menus : List Menu) (blocks : List (Option Layer)) (n : ℕ) (changes : Layer) →
    IsBelowAll menus (16 * n) (16 * n + 16) changes → AreInBlocks menus blocks →
    AreInBlocks menus (set blocks n (Some changes))
blocks_known menus blocks n changes below are =
    blocks_set menus menus blocks (set blocks n (Some changes)) n (Some changes) refl refl (λ i menu side there. there)
    (λ other same. subst (IsBelowAll menus (16 * n) (16 * n + 16)) (same_value (Some changes) changes other refl same)
    below)
    are
