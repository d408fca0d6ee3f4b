-- Reading the same thing again and again, as a loop does. The crates above may cite this file.
use Rattle.std.proofs.Common.{◌≡◌, ℕ, zero, suc, ◌+◌, ◌<◌, List, [], ◌∷◌, ◌++◌, Result, Ok, Err, refl, sym, ap, ◌∙◌}
use Rattle.std.proofs.Common.{arith, add-one, inl, inr, length, All, subst}
use Rattle.std.proofs.lemmas.List.Elements.{All-nil, All-cons}
use Rattle.mat_files.specs.declared.fault.TokenFault.{TokenFault}
use Rattle.mat_files.specs.Tokens.{Left, and_then}
use Rattle.mat_files.specs.Reading.{Read, repeated, IsTokenFault}

-- ---- answers that are no fault

-- where the second gives something, the first does
pub both_ok : {A B E : Type 0} (first : Result A E) (next : A → Result B E) (b : B) → and_then first next ≡ Ok b
    → (a : A) × (first ≡ Ok a) × (next a ≡ Ok b)
both_ok (Ok a) next b is = (a, refl, is)
both_ok (Err f) next b is = absurd (cc)

-- what is given is one thing
pub same_ok : {A E : Type 0} (a b : A) → ◌≡◌ {A = Result A E} (Ok a) (Ok b) → a ≡ b
same_ok a b is = cc

-- ---- one more

module _ {A : Type 0} (read : Left → Read A) where
  -- so many are read, and then one more
  pub repeated_more : (n : ℕ) (start now after : Left) (items : List A) (a : A)
      → repeated read n start ≡ Ok (items, now) → read now ≡ Ok (a, after)
      → repeated read (suc n) start ≡ Ok (items ++ a ∷ [], after)
  repeated_more zero start now after items a so_far next =
      let same : ([], start) ≡ (items, now) = same_ok _ _ so_far in
      let none : [] ≡ items = ap (λ (p : List A × Left). p.0) same in
      let here : start ≡ now = ap (λ (p : List A × Left). p.1) same in
      rw (here, next) (ap (λ (xs : List A). Ok (xs ++ a ∷ [], after)) none)
  repeated_more (suc n) start now after items a so_far next =
      let first = both_ok (read start) _ (items, now) so_far in
      let others = both_ok (repeated read n first.0.1) (λ rest. Ok (first.0.0 ∷ rest.0, rest.1)) (items, now) first.2 in
      let same = same_ok (first.0.0 ∷ others.0.0, others.0.1) (items, now) others.2 in
      let all : first.0.0 ∷ others.0.0 ≡ items = ap (λ (p : List A × Left). p.0) same in
      let here : others.0.1 ≡ now = ap (λ (p : List A × Left). p.1) same in
      let more = repeated_more n first.0.1 now after others.0.0 a (others.1 ∙ ap (λ l. Ok (others.0.0, l)) here) next in
      let put : A → Read (List A) → Read (List A) = λ x rest. and_then rest (λ r. Ok (x ∷ r.0, r.1)) in
      ap (λ (r : Read A). and_then r (λ x. put x.0 (repeated read (suc n) x.1))) first.1 ∙ ap (put first.0.0) more
      ∙ ap (λ (xs : List A). Ok (xs ++ a ∷ [], after)) all

  -- so many are read, and the next one is refused
  pub repeated_refused : (n count : ℕ) (start now : Left) (items : List A) (f : TokenFault) → n < count
      → repeated read n start ≡ Ok (items, now) → read now ≡ Err f → repeated read count start ≡ Err f
  repeated_refused n zero start now items f inside so_far refused = absurd (omega arith)
  repeated_refused zero (suc count) start now items f inside so_far refused =
      let here : start ≡ now = ap (λ (p : List A × Left). p.1) (same_ok ([], start) (items, now) so_far) in
      rw (here, refused) refl
  repeated_refused (suc n) (suc count) start now items f inside so_far refused =
      let first = both_ok (read start) _ (items, now) so_far in
      let others = both_ok (repeated read n first.0.1) (λ rest. Ok (first.0.0 ∷ rest.0, rest.1)) (items, now) first.2 in
      let here : others.0.1 ≡ now =
      ap (λ (p : List A × Left). p.1) (same_ok (first.0.0 ∷ others.0.0, others.0.1) (items, now) others.2) in
      let more = repeated_refused n count first.0.1 now others.0.0 f (omega arith) (others.1
      ∙ ap (λ l. Ok (others.0.0, l)) here) refused in
      let put : A → Read (List A) → Read (List A) = λ x rest. and_then rest (λ r. Ok (x ∷ r.0, r.1)) in
      ap (λ (r : Read A). and_then r (λ x. put x.0 (repeated read count x.1))) first.1 ∙ ap (put first.0.0) more

  -- there are as many as are asked for
  pub repeated_many : (n : ℕ) (start after : Left) (items : List A) → repeated read n start ≡ Ok (items, after)
      → length items ≡ n
  repeated_many zero start after items is =
      ap (λ (p : List A × Left). length p.0) (sym (same_ok ([], start) (items, after) is))
  repeated_many (suc n) start after items is =
      let first = both_ok (read start) _ (items, after) is in
      let others = both_ok (repeated read n first.0.1) (λ rest. Ok (first.0.0 ∷ rest.0, rest.1)) (items, after)
      first.2 in
      let same = same_ok (first.0.0 ∷ others.0.0, others.0.1) (items, after) others.2 in
      ap (λ (p : List A × Left). length p.0) (sym same) ∙ ap suc
      (repeated_many n first.0.1 others.0.1 others.0.0 others.1)

  -- what holds of whatever is read holds of all
  pub repeated_all : (P : A → Type 0) → ((now after : Left) (a : A) → read now ≡ Ok (a, after) → P a)
      → (n : ℕ) (start after : Left) (items : List A) → repeated read n start ≡ Ok (items, after) → All P items
  repeated_all P each zero start after items is =
      subst (λ (p : List A × Left). All P p.0) (same_ok ([], start) (items, after) is) (All-nil P)
  repeated_all P each (suc n) start after items is =
      let first = both_ok (read start) _ (items, after) is in
      let others = both_ok (repeated read n first.0.1) (λ rest. Ok (first.0.0 ∷ rest.0, rest.1)) (items, after)
      first.2 in
      subst (λ (p : List A × Left). All P p.0) (same_ok (first.0.0 ∷ others.0.0, others.0.1) (items, after) others.2)
      (All-cons P first.0.0 others.0.0 (each start first.0.1 first.0.0 first.1)
      (repeated_all P each n first.0.1 others.0.1 others.0.0 others.1))

  -- as a loop counts
  pub one_more_read : (i : ℕ) (start now after : Left) (items : List A) (a : A)
      → repeated read i start ≡ Ok (items, now) → read now ≡ Ok (a, after)
      → repeated read (i + 1) start ≡ Ok (items ++ a ∷ [], after)
  one_more_read i start now after items a so_far next =
      rw (add-one i) (repeated_more i start now after items a so_far next)

  -- the fault of the next one is the fault of all
  pub refused_so_far : (i count : ℕ) (start now : Left) (items : List A) (f : TokenFault) → i < count
      → repeated read i start ≡ Ok (items, now) → IsTokenFault (read now) f → IsTokenFault (repeated read count start) f
  refused_so_far i count start now items f inside so_far (inl memory) = inl memory
  refused_so_far i count start now items f inside so_far (inr refused) =
      inr (repeated_refused i count start now items f inside so_far refused)
