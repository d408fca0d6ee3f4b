-- Laws of members, which stand one behind the other in one block: the one at a place, and one more.
use Rattle.std.proofs.Common.{◌≡◌, ℕ, ◌+◌, ◌-◌, ◌*◌, ◌<◌, ◌≤◌, List, [], ◌∷◌, ◌++◌, length, take, drop, refl, ap, arith}
use Rattle.std.proofs.Common.{sym, ◌∙◌, subst, Some, slice_get, flat_map, map, get_or, Bor}
use Rattle.std.specs.List.{All}
use Rattle.std.specs.List.Sorted.{IsSorted, IsPermutation}
use Rattle.std.specs.Ordering.{is_lt}
use Rattle.std.proofs.lemmas.List.{length_push, length-map, get_or-map, map_push, take_more, take_all}
use Rattle.std.proofs.lemmas.List.Elements.{All-from_recursion, All-push, All-take}
use Rattle.std.proofs.lemmas.List.Sorted.{All-permutation, IsPermutation-map}
use Rattle.std.proofs.lemmas.Option.{get_or_from_slice_get, slice_get_within}
use Rattle.lattice_theory.specs.Vectors.{Vector, lex_cmp}
use Rattle.lattice_theory.specs.Matrices.{rows_of}
use Rattle.lattice_laws.proofs.VectorLists.{length_rows_of}
use Rattle.mat_files.proofs.MatrixLaws.{row_of_rows, all_rows, even_rows}
use Rattle.pottier.proofs.BasisLaws.{entries_fit, rows_again, flat_push}

-- ---- the member at a place

-- what a slice of the block from a member's start on gives is that member
pub member_read : (place count width : ℕ) (entries now : Vector) → place < count → now ≡ entries →
    slice_get (rows_of count width entries) place
    ≡ Some (take (place * width + width - place * width) (drop (place * width) now))
member_read place count width entries now low same =
    let size : place * width + width - place * width ≡ width = omega arith in
    rw (size, same) (row_of_rows count width entries place low)

-- one member more is taken
pub taken_more : (vs : List Vector) (i : ℕ) (v : Vector) → slice_get vs i ≡ Some v →
    take (i + 1) vs ≡ take i vs ++ v ∷ []
taken_more vs i v is =
    take_more vs i [] (slice_get_within vs i v is)
    ∙ ap (λ u. take i vs ++ u ∷ []) (get_or_from_slice_get vs i v [] is)

-- all members have one width
pub one_width : (count width : ℕ) (entries : Vector) (vs : List Vector) → length entries ≡ count * width →
    rows_of count width entries ≡ vs → All (λ v. length v ≡ width) vs
one_width count width entries vs fits is =
    subst (All (λ v. length v ≡ width)) is
    (All-from_recursion (λ v. length v ≡ width) (rows_of count width entries) (even_rows count width entries fits))

-- so all have the length of each
pub same_width : (width place : ℕ) (vs : List Vector) (member : Vector) → All (λ v. length v ≡ width) vs →
    slice_get vs place ≡ Some member → All (λ v. length v ≡ length member) vs
same_width width place vs member even is =
    subst (λ n. All (λ v. length v ≡ n) vs)
    (sym (even place [] (slice_get_within vs place member is))
    ∙ ap length (get_or_from_slice_get vs place member [] is))
    even

-- ---- one member more

module _ (count width : ℕ) (entries member longer : Vector) (fits : length entries ≡ count * width)
    (same : All (λ v. length v ≡ length member) (rows_of count width entries)) (added : longer ≡ entries ++ member)
  where
    one_more : (count + 1) ≡ length (rows_of count width entries ++ member ∷ [])
    one_more = omega (arith, length_push (rows_of count width entries) member, length_rows_of count width entries)

    flat : longer ≡ flat_map (λ row. row) (rows_of count width entries ++ member ∷ [])
    flat =
        added ∙ ap (λ t. t ++ member) (sym (all_rows count width entries fits))
        ∙ sym (flat_push (rows_of count width entries) member)

    even : All (λ v. length v ≡ length member) (rows_of count width entries ++ member ∷ [])
    even = All-push (λ v. length v ≡ length member) (rows_of count width entries) member same refl

    pub more_fit : length longer ≡ (count + 1) * length member
    more_fit =
        entries_fit (count + 1) (length member) (rows_of count width entries ++ member ∷ []) longer one_more flat even

    pub members_more : rows_of (count + 1) (length member) longer ≡ rows_of count width entries ++ member ∷ []
    members_more =
        rows_again (count + 1) (length member) (rows_of count width entries ++ member ∷ []) longer one_more flat even

-- ---- members in another order

-- the members that are lent, in order
abbrev pub lent : List (Bor Vector) → List Vector
lent order = map (λ v. v.now) order

pub lent_sorted : (order : List (Bor Vector)) → IsSorted (λ x y. lex_cmp x.now y.now) order →
    IsSorted lex_cmp (lent order)
lent_sorted [] s k d low high = absurd (omega (arith, high))
lent_sorted (x ∷ xs) s k d low high =
    let size : length (lent (x ∷ xs)) ≡ length (x ∷ xs) = length-map (x ∷ xs) (λ v. v.now) in
    let there : k + 1 < length (x ∷ xs) = omega (arith, high, size) in
    let one : k < length (x ∷ xs) = omega (arith, there) in
    let first : get_or (lent (x ∷ xs)) k d ≡ (get_or (x ∷ xs) k x).now = get_or-map (λ v. v.now) (x ∷ xs) k x d one in
    let second : get_or (lent (x ∷ xs)) (k + 1) d ≡ (get_or (x ∷ xs) (k + 1) x).now =
    get_or-map (λ v. v.now) (x ∷ xs) (k + 1) x d there in
    (λ i. is_lt (lex_cmp (second i) (first i))) ∙ s k x low there

pub lent_push : (vs : List Vector) (order longer : List (Bor Vector)) (x : Bor Vector) (i : ℕ) →
    lent order ≡ take i vs →
    longer ≡ order ++ x ∷ [] → slice_get vs i ≡ Some x.now → lent longer ≡ take (i + 1) vs
lent_push vs order longer x i so_far added is =
    ap lent added ∙ map_push (λ v. v.now) order x ∙ ap (λ us. us ++ x.now ∷ []) so_far
    ∙ sym (taken_more vs i x.now is)

-- all are lent, and then put into another order
pub lent_order : (vs : List Vector) (first order : List (Bor Vector)) (i : ℕ) → lent first ≡ take i vs → length vs ≤ i →
    IsPermutation first order → IsPermutation vs (lent order)
lent_order vs first order i taken all permuted =
    subst (λ us. IsPermutation us (lent order)) (taken ∙ take_all i vs all)
    (IsPermutation-map (λ v. v.now) first order permuted)

-- those in the new order have the width of all
pub lent_width : (width : ℕ) (vs : List Vector) (order : List (Bor Vector)) (so_far : List Vector) (i : ℕ)
    (d : Bor Vector) →
    All (λ v. length v ≡ width) vs → IsPermutation vs (lent order) → so_far ≡ take i (lent order) → i < length order →
    All (λ v. length v ≡ length (get_or order i d).now) so_far
lent_width width vs order so_far i d even permuted taken low =
    subst (λ n. All (λ v. length v ≡ n) so_far) (sym size)
    (subst (All (λ v. length v ≡ width)) (sym taken) (All-take (λ v. length v ≡ width) i (lent order) each))
  where
    each : All (λ v. length v ≡ width) (lent order)
    each = All-permutation (λ v. length v ≡ width) vs (lent order) permuted even

    size : length (get_or order i d).now ≡ width
    size =
        ap length (sym (get_or-map (λ v. v.now) order i d [] low))
        ∙ each i [] (omega (arith, low, length-map order (λ v. v.now)))

pub lent_more : (order : List (Bor Vector)) (so_far next : List Vector) (i : ℕ) (d : Bor Vector) →
    so_far ≡ take i (lent order) → next ≡ so_far ++ (get_or order i d).now ∷ [] → i < length order →
    next ≡ take (i + 1) (lent order)
lent_more order so_far next i d taken added low =
    added ∙ (λ k. taken k ++ sym (get_or-map (λ v. v.now) order i d [] low) k ∷ [])
    ∙ sym (take_more (lent order) i [] (omega (arith, low, length-map order (λ v. v.now))))

pub lent_all : (order : List (Bor Vector)) (so_far : List Vector) (i : ℕ) → so_far ≡ take i (lent order) →
    length order ≤ i → so_far ≡ lent order
lent_all order so_far i taken all =
    taken ∙ take_all i (lent order) (omega (arith, all, length-map order (λ v. v.now)))
