-- Layers of which equal ones are kept once: what one more leaves.
use Rattle.std.proofs.Common.{◌≡◌, ℕ, zero, suc, ◌<◌, List, [], ◌∷◌, ◌++◌, length, map, refl, ap, arith, sym, ◌∙◌, All}
use Rattle.std.proofs.Common.{Some, slice_get, subst}
use Rattle.std.proofs.lemmas.List.Elements.{All-head, All-tail, All-cons, All-nil, All-push}
use Rattle.std.proofs.lemmas.List.{length-append}
use Rattle.std.proofs.lemmas.Option.{slice_get_within, get_or_from_slice_get}
use Rattle.lattice_laws.proofs.Places.{same_value}
use Rattle.sieve_laws.specs.Sieve.{Layer}
use Rattle.layer_sieve.specs.Layers.{Row, row_at, AreKept}

row_at-before : (rows : List Row) (row : Row) (i : ℕ) → i < length rows → row_at (rows ++ row ∷ []) i ≡ row_at rows i
row_at-before [] row i low = absurd (omega arith)
row_at-before (r ∷ rows) row zero low = refl
row_at-before (r ∷ rows) row (suc i) low = row_at-before rows row i (omega arith)

row_at-last : (rows : List Row) (row : Row) → row_at (rows ++ row ∷ []) (length rows) ≡ row.items
row_at-last [] row = refl
row_at-last (r ∷ rows) row = row_at-last rows row

-- the layers that were there stay
map-before : (rows : List Row) (row : Row) (places : List ℕ) → All (λ i. i < length rows) places →
    map (row_at (rows ++ row ∷ [])) places ≡ map (row_at rows) places
map-before rows row [] low = refl
map-before rows row (i ∷ places) low =
    let P = λ (i : ℕ). i < length rows in
    let here = row_at-before rows row i (All-head P i places low) in
    let more = map-before rows row places (All-tail P i places low) in
    λ k. here k ∷ more k

further : (rows : List Row) (row : Row) (places : List ℕ) → All (λ i. i < length rows) places →
    All (λ i. i < length (rows ++ row ∷ [])) places
further rows row [] low = All-nil (λ i. i < length (rows ++ row ∷ []))
further rows row (i ∷ places) low =
    let P = λ (i : ℕ). i < length rows in
    let here = All-head P i places low in
    All-cons (λ i. i < length (rows ++ row ∷ [])) i places (omega (arith, here, length-append rows (row ∷ [])))
    (further rows row places (All-tail P i places low))

pub kept_one : (rows : List Row) (places : List ℕ) (row : Row) → rows ≡ row ∷ [] → places ≡ 0 ∷ [] →
    AreKept rows places × (map (row_at rows) places ≡ row.items ∷ [])
kept_one rows places row is at =
    subst (λ rs. AreKept rs places × (map (row_at rs) places ≡ row.items ∷ [])) (sym is)
    (subst (λ ps. AreKept (row ∷ []) ps × (map (row_at (row ∷ [])) ps ≡ row.items ∷ [])) (sym at) (
      record {
        some = omega arith;
        low = All-cons (λ i. i < length (row ∷ [])) 0 [] (omega arith)
            (All-nil (λ i. i < length (row ∷ [])));
      },
      refl,
    ))

-- a new row, which no place names yet
pub kept_row : (rows more : List Row) (places : List ℕ) (row : Row) → more ≡ rows ++ row ∷ [] → AreKept rows places →
    AreKept more places × (map (row_at more) places ≡ map (row_at rows) places)
kept_row rows more places row is kept =
    subst (λ rs. AreKept rs places × (map (row_at rs) places ≡ map (row_at rows) places)) (sym is) (
      record { some = kept.some; low = further rows row places kept.low },
      map-before rows row places kept.low,
    )

-- one more place
pub kept_place : (rows : List Row) (places more : List ℕ) (i : ℕ) → more ≡ places ++ i ∷ [] → i < length rows →
    AreKept rows places →
    AreKept rows more × (map (row_at rows) more ≡ map (row_at rows) places ++ row_at rows i ∷ [])
kept_place rows places more i is low kept =
    subst (λ ps. AreKept rows ps × (map (row_at rows) ps ≡ map (row_at rows) places ++ row_at rows i ∷ [])) (sym is) (
      record {
        some = omega (arith, length-append places (i ∷ []));
        low = All-push (λ i. i < length rows) places i kept.low low;
      },
      map-push places,
    )
  where
    map-push : (ps : List ℕ) → map (row_at rows) (ps ++ i ∷ []) ≡ map (row_at rows) ps ++ row_at rows i ∷ []
    map-push [] = refl
    map-push (p ∷ ps) = ap (λ ls. row_at rows p ∷ ls) (map-push ps)

-- the layer at a place
pub slice_get-layers : (rows : List Row) (places : List ℕ) (at i : ℕ) → slice_get places at ≡ Some i →
    slice_get (map (row_at rows) places) at ≡ Some (row_at rows i)
slice_get-layers rows [] at i there = absurd (cc)
slice_get-layers rows (p ∷ places) zero i there = ap (λ j. Some (row_at rows j)) (same_value (Some p) p i refl there)
slice_get-layers rows (p ∷ places) (suc at) i there = slice_get-layers rows places at i there

pub row_at-get : (rows : List Row) (i : ℕ) (row : Row) → slice_get rows i ≡ Some row → row_at rows i ≡ row.items
row_at-get [] i row there = absurd (cc)
row_at-get (r ∷ rows) zero row there = ap (λ (r : Row). r.items) (same_value (Some r) r row refl there)
row_at-get (r ∷ rows) (suc i) row there = row_at-get rows i row there

-- each place is one of a layer that is kept
pub place_low : (rows : List Row) (places : List ℕ) (at i : ℕ) → slice_get places at ≡ Some i → AreKept rows places →
    i < length rows
place_low rows places at i there kept =
    subst (λ j. j < length rows) (get_or_from_slice_get places at i i there)
    (kept.low at i (slice_get_within places at i there))

-- one more layer
pub pushed : (rows more : List Row) (places next : List ℕ) (row : Row) (i : ℕ) → more ≡ rows ++ row ∷ [] →
    next ≡ places ++ i ∷ [] → i ≡ length rows →
    AreKept rows places → AreKept more next × (map (row_at more) next ≡ map (row_at rows) places ++ row.items ∷ [])
pushed rows more places next row i is at last kept =
    let first = kept_row rows more places row is kept in
    let second = kept_place more places next i at (omega (arith, last, ap length is, length-append rows (row ∷ [])))
    first.0 in
    let here : row_at more i ≡ row.items = ap (λ rs. row_at rs i) is ∙ ap (row_at (rows ++ row ∷ [])) last
    ∙ row_at-last rows row in (
      second.0,
      second.1 ∙ ap (λ ls. ls ++ row_at more i ∷ []) first.1
          ∙ ap (λ l. map (row_at rows) places ++ l ∷ []) here,
    )

-- the last layer once more
pub repeated : (rows : List Row) (places next : List ℕ) (at i : ℕ) → slice_get places at ≡ Some i →
    next ≡ places ++ i ∷ [] → AreKept rows places →
    AreKept rows next × ((layer : Layer) → slice_get (map (row_at rows) places) at ≡ Some layer →
    map (row_at rows) next ≡ map (row_at rows) places ++ layer ∷ [])
repeated rows places next at i there is kept =
    let low : i < length rows = place_low rows places at i there kept in
    let more = kept_place rows places next i is low kept in (
      more.0,
      λ layer here. more.1 ∙ ap (λ l. map (row_at rows) places ++ l ∷ [])
          (same_value (slice_get (map (row_at rows) places) at) (row_at rows i) layer
          (slice_get-layers rows places at i there) here),
    )
