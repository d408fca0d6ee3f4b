-- Where moves lead, row by row.
use Rattle.std.proofs.Common.{◌≡◌, ℕ, ◌+◌, ◌<◌, ◌≤◌, List, [], ◌∷◌, ◌++◌, length, zero, suc, ap, arith, sym, ◌∙◌}
use Rattle.std.proofs.Common.{Option, Some, None, slice_get, subst, ◌⊎◌, inl, inr, All, get_or}
use Rattle.std.proofs.lemmas.List.{length-append}
use Rattle.std.proofs.lemmas.Option.{slice_get_within, slice_get-get_or}
use Rattle.std.proofs.lemmas.Bool.{cases_lt}
use Rattle.std.specs.Prelude.{Vec}
use Rattle.std.specs.declared.alloc.Global.{Global}
use Rattle.lattice_theory.specs.Vectors.{Vector}
use Rattle.lattice_theory.specs.SignedSums.{Sum, vectors}
use Rattle.lattice_laws.proofs.Places.{same_value, slice_get-push}
use Rattle.sieve_laws.specs.Sieve.{IsTarget}
use Rattle.brick_sums.specs.Places.{width}
use Rattle.layer_sieve.specs.Targets.{IsTargetRow, IsWord, AreTargetsOf}

-- the targets from the first n sums
pub record RowUpTo (zs : List Vector) (h : ℕ) (row : List (Option ℕ)) (n : ℕ) : Type 0 where
  pub size : length row ≡ n
  pub each : (w : ℕ) (to : Option ℕ) → slice_get row w ≡ Some to → IsTarget zs h w to

pub row_none : (zs : List Vector) (h : ℕ) (row : List (Option ℕ)) → row ≡ [] → RowUpTo zs h row 0
row_none zs h row is = record {
  size = ap length is;
  each = λ w to there. absurd (omega (arith, slice_get_within row w to there, ap length is));
}

pub row_more : (zs : List Vector) (h : ℕ) (row more : List (Option ℕ)) (n : ℕ) (to : Option ℕ) → more ≡ row ++ to ∷ [] →
    IsTarget zs h n to →
    RowUpTo zs h row n → RowUpTo zs h more (n + 1)
row_more zs h row more n to is leads so_far = record {
  size = ap length is ∙ length-append row (to ∷ []) ∙ ap (λ m. m + 1) so_far.size;
  each = λ w other there. by w other (slice_get-push row to other w (ap (λ r. slice_get r w) (sym is) ∙ there));
}
  where
    by : (w : ℕ) (other : Option ℕ) → (slice_get row w ≡ Some other) ⊎ ((w ≡ length row) × (to ≡ other)) →
        IsTarget zs h w other
    by w other (inl before) = so_far.each w other before
    by w other (inr (place, same)) =
        subst (IsTarget zs h w) same (subst (λ u. IsTarget zs h u to) (sym (place ∙ so_far.size)) leads)

pub row_all : (zs : List Vector) (h : ℕ) (row : List (Option ℕ)) (n : ℕ) → n ≡ length zs → RowUpTo zs h row n →
    IsTargetRow zs h row
row_all zs h row n all so_far = record { size = so_far.size ∙ all; each = so_far.each }

abbrev pub Row : Type 0
Row = Vec (Option ℕ) Global

-- the rows of the first n moves
pub record RowsUpTo (zs : List Vector) (rows : List Row) (n : ℕ) : Type 0 where
  pub size : length rows ≡ n
  pub each : (h : ℕ) (row : Row) → slice_get rows h ≡ Some row → IsTargetRow zs h row.items

pub rows_none : (zs : List Vector) (rows : List Row) → rows ≡ [] → RowsUpTo zs rows 0
rows_none zs rows is = record {
  size = ap length is;
  each = λ h row there. absurd (omega (arith, slice_get_within rows h row there, ap length is));
}

pub rows_more : (zs : List Vector) (rows more : List Row) (n : ℕ) (row : Row) → more ≡ rows ++ row ∷ [] →
    IsTargetRow zs n row.items →
    RowsUpTo zs rows n → RowsUpTo zs more (n + 1)
rows_more zs rows more n row is leads so_far = record {
  size = ap length is ∙ length-append rows (row ∷ []) ∙ ap (λ m. m + 1) so_far.size;
  each = λ h other there. by h other (slice_get-push rows row other h (ap (λ r. slice_get r h) (sym is) ∙ there));
}
  where
    by : (h : ℕ) (other : Row) → (slice_get rows h ≡ Some other) ⊎ ((h ≡ length rows) × (row ≡ other)) →
        IsTargetRow zs h other.items
    by h other (inl before) = so_far.each h other before
    by h other (inr (place, same)) =
        subst (λ (r : Row). IsTargetRow zs h r.items) same
        (subst (λ g. IsTargetRow zs g row.items) (sym (place ∙ so_far.size)) leads)

pub rows_all : (fs : List Sum) (rows : List Row) (n : ℕ) → (n ≡ length fs) ⊎ (width fs ≤ 32) →
    All (All IsWord) (vectors fs) → All (λ v. length v ≡ width fs) (vectors fs) → RowsUpTo (vectors fs) rows n →
    AreTargetsOf fs rows
rows_all fs rows n kept words widths so_far = record {
  targets = so_far.each;
  words = words;
  widths = widths;
  all = elim kept [ inl same ↦ inl (so_far.size ∙ same) | inr narrow ↦ inr narrow ];
}

-- a move without a row is one of narrow sums
pub no_row : (fs : List Sum) (rows : List Row) (h : ℕ) → AreTargetsOf fs rows → h < length fs →
    slice_get rows h ≡ None →
    width fs ≤ 32
no_row fs rows h are low none = elim are.all [
  | inl same ↦ absurd (none_within rows h (omega (arith, same, low)) none)
  | inr narrow ↦ narrow
]
  where
    none_within : (rs : List Row) (i : ℕ) → i < length rs → slice_get rs i ≡ None → ⊥
    none_within [] i within e = omega (arith, within)
    none_within (r ∷ rs) zero within e = absurd (cc)
    none_within (r ∷ rs) (suc i) within e = none_within rs i (omega (arith, within)) e

-- ---- what holds of each vector, one after the other

module _ (P : Vector → Type 0) (vs : List Vector) where
  -- it holds of the first n
  abbrev pub HoldsUpTo : ℕ → Type 0
  HoldsUpTo n = (j : ℕ) (u : Vector) → j < n → slice_get vs j ≡ Some u → P u

  pub holds_more : (n : ℕ) (v : Vector) → slice_get vs n ≡ Some v → P v → HoldsUpTo n → HoldsUpTo (n + 1)
  holds_more n v here holds so_far j u low there = elim (cases_lt j n) [
    | inl before ↦ so_far j u before there
    | inr high ↦
        let last : j ≡ n = omega (arith, low, high) in
        subst P (same_value (slice_get vs n) v u here (ap (slice_get vs) (sym last) ∙ there)) holds
  ]

  pub holds_all : (n : ℕ) → length vs ≤ n → HoldsUpTo n → All P vs
  holds_all n all so_far i d low =
      so_far i (get_or vs i d) (omega (arith, low, all)) (slice_get-get_or vs i d low)
