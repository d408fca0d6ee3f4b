-- The counts of one piece. Where two count vectors have different signs at a place, a unit of the one and its opposite
-- of the other; where all of them agree, shares of a vector below their sum.
use Rattle.std.proofs.Common.{◌≡◌, ℕ, zero, suc, ◌+◌, ◌<◌, ◌≤◌, ℤ, pos, negsuc, Bool, true, false, ◌&&◌, List, [], ◌∷◌}
use Rattle.std.proofs.Common.{length, refl, ap, arith, sym, ◌∙◌, ◌⊎◌, inl, inr, subst}
use Rattle.std.proofs.lemmas.Int.{ints}
use Rattle.std.proofs.lemmas.Bool.Decides.{nat_tests}
use Rattle.lattice_theory.specs.Vectors.{Vector, ◌⊑◌, conforms, is_between, norm1, add, opposite, zeros}
use Rattle.lattice_laws.proofs.Signs.{agrees, between_zero, clash}
use Rattle.lattice_laws.proofs.Conformal.{agree, length_below, norm1-cons, norm-opposite, length-opposite, sub-opposite}
use Rattle.lattice_laws.proofs.Products.{length-zeros}
use Rattle.lattice_laws.proofs.Sums.{add_zeros, zeros_add, opposite-zeros, norm-zeros, sub_itself, zeros_below}
use Rattle.lattice_laws.proofs.Sums.{zeros_below_sized}
use Rattle.lattice_laws.specs.VectorLists.{sum_of, weight, AreSized}
use Rattle.lattice_laws.proofs.VectorLists.{agreeing_weight, norm_sum_of, ClashesWithOne, ClashingPair}
use Rattle.lattice_laws.proofs.VectorLists.{agreeing_or_clashing}
use Rattle.piece_laws.proofs.Shares.{StayWithin, Shares, shares_of}

-- ---- units

-- 1 is between 0 and the one number, and -1 between 0 and the other
abbrev AreApart : ℤ → ℤ → Type 0
AreApart a b = (is_between (pos 1) a ≡ true) × (is_between (negsuc 0) b ≡ true)

apart : (a b : ℤ) → agrees a b ≡ false → AreApart a b ⊎ AreApart b a
apart (pos a) (pos b) clash = absurd (grind (arith, nat_tests, ints))
apart (pos zero) (negsuc b) clash = absurd (grind (arith, nat_tests, ints))
apart (pos (suc a)) (negsuc b) clash = inl (grind (arith, nat_tests, ints), grind (arith, nat_tests, ints))
apart (negsuc a) (pos zero) clash = absurd (grind (arith, nat_tests, ints))
apart (negsuc a) (pos (suc b)) clash = inr (grind (arith, nat_tests, ints), grind (arith, nat_tests, ints))
apart (negsuc a) (negsuc b) clash = absurd (grind (arith, nat_tests, ints))

-- a unit below u whose opposite is below v
record Meeting (u v : Vector) : Type 0 where
  unit : Vector
  in_first : unit ⊑ u
  in_second : opposite unit ⊑ v
  one : norm1 unit ≡ 1

meeting : (u v : Vector) → length u ≡ length v → agree u v ≡ false → Meeting u v
meeting [] [] size clash = absurd (cc)
meeting [] (b ∷ v) size clash = absurd (omega arith)
meeting (a ∷ u) [] size clash = absurd (omega arith)
meeting (a ∷ u) (b ∷ v) size clash = by (agrees a b) refl clash (λ k. meeting u v (omega arith) k)
  where
    n : ℕ
    n = length u

    behind : zeros n ⊑ v
    behind = zeros_below_sized v n (omega arith)

    turned : opposite (zeros n) ⊑ v
    turned = subst (λ w. w ⊑ v) (sym (opposite-zeros n)) behind

    further : Meeting u v → Meeting (a ∷ u) (b ∷ v)
    further r = record {
      unit = pos 0 ∷ r.unit;
      in_first = ap (λ t. t && conforms r.unit u) (between_zero a) ∙ r.in_first;
      in_second = ap (λ t. t && conforms (opposite r.unit) v) (between_zero b) ∙ r.in_second;
      one = omega (arith, norm1-cons (pos 0) r.unit, r.one);
    }

    here : AreApart a b ⊎ AreApart b a → Meeting (a ∷ u) (b ∷ v)
    here (inl s) = record {
      unit = pos 1 ∷ zeros n;
      in_first = ap (λ t. t && conforms (zeros n) u) s.0 ∙ zeros_below u;
      in_second = ap (λ t. t && conforms (opposite (zeros n)) v) s.1 ∙ turned;
      one = omega (arith, norm1-cons (pos 1) (zeros n), norm-zeros n);
    }
    here (inr s) = record {
      unit = negsuc 0 ∷ zeros n;
      in_first = ap (λ t. t && conforms (zeros n) u) s.1 ∙ zeros_below u;
      in_second = ap (λ t. t && conforms (opposite (zeros n)) v) s.0 ∙ turned;
      one = omega (arith, norm1-cons (negsuc 0) (zeros n), norm-zeros n);
    }

    by : (t : Bool) → agrees a b ≡ t → (t && agree u v) ≡ false → (agree u v ≡ false → Meeting u v) →
        Meeting (a ∷ u) (b ∷ v)
    by true p q rest = further (rest q)
    by false p q rest = here (apart a b p)

-- ---- a unit and its opposite

-- a vector and its opposite cancel each other
cancelled : (u : Vector) (n : ℕ) → length u ≡ n → add u (opposite u) ≡ zeros n
cancelled u n size = sym (sub-opposite u u) ∙ sub_itself u n size

module _ (n most : ℕ) where
  -- nothing of each of the counts
  idle : (b : Vector) → length b ≡ n → norm1 b ≤ most → (counts : List Vector) → AreSized n counts →
      Shares n most b (zeros n) counts
  idle b size light [] sized = record { parts = []; below = tt; whole = refl; within = tt }
  idle b size light (c ∷ counts) sized =
      let r = idle b size light counts sized.1 in
      let same : add b (zeros n) ≡ b = add_zeros b n size in
      record {
        parts = zeros n ∷ r.parts;
        below = (zeros_below_sized c n sized.0, r.below);
        whole = ap (add (zeros n)) r.whole ∙ add_zeros (zeros n) n (length-zeros n);
        within = (
          omega (arith, norm-zeros n),
          omega (arith, ap norm1 same, light),
          subst (λ w. StayWithin most w r.parts) (sym same) r.within,
        );
      }

  -- a unit below u, and its opposite as a share of the counts
  record Answer (u : Vector) (counts : List Vector) : Type 0 where
    unit : Vector
    in_first : unit ⊑ u
    one : norm1 unit ≡ 1
    shares : Shares n most unit (opposite unit) counts

  answer : 1 ≤ most → (u : Vector) → length u ≡ n → (counts : List Vector) → AreSized n counts →
      ClashesWithOne u counts → Answer u counts
  answer some u size [] sized c = absurd c
  answer some u size (v ∷ counts) sized (inl c) =
      let m = meeting u v (size ∙ sym sized.0) c in
      let long : length m.unit ≡ n = length_below m.unit u m.in_first ∙ size in
      let none : add m.unit (opposite m.unit) ≡ zeros n = cancelled m.unit n long in
      let r = idle (zeros n) (length-zeros n) (omega (arith, norm-zeros n)) counts sized.1 in
      record {
        unit = m.unit;
        in_first = m.in_first;
        one = m.one;
        shares = record {
          parts = opposite m.unit ∷ r.parts;
          below = (m.in_second, r.below);
          whole = ap (add (opposite m.unit)) r.whole ∙ add_zeros (opposite m.unit) n (length-opposite m.unit ∙ long);
          within = (
            omega (arith, norm-opposite m.unit, m.one, some),
            omega (arith, ap norm1 none, norm-zeros n),
            subst (λ w. StayWithin most w r.parts) (sym none) r.within,
          );
        };
      }
  answer some u size (v ∷ counts) sized (inr c) =
      let a = answer some u size counts sized.1 c in
      let long : length a.unit ≡ n = length_below a.unit u a.in_first ∙ size in
      let same : add a.unit (zeros n) ≡ a.unit = add_zeros a.unit n long in
      record {
        unit = a.unit;
        in_first = a.in_first;
        one = a.one;
        shares = record {
          parts = zeros n ∷ a.shares.parts;
          below = (zeros_below_sized v n sized.0, a.shares.below);
          whole =
              ap (add (zeros n)) a.shares.whole ∙ zeros_add (opposite a.unit) n (length-opposite a.unit ∙ long);
          within = (
            omega (arith, norm-zeros n),
            omega (arith, ap norm1 same, a.one, some),
            subst (λ w. StayWithin most w a.shares.parts) (sym same) a.shares.within,
          );
        };
      }

  -- shares of the counts that are not all 0
  pub record Counts (q : Vector) (counts : List Vector) : Type 0 where
    pub shares : Shares n most (zeros n) q counts
    pub nonzero : 0 < weight shares.parts

  pair : 1 ≤ most → (counts : List Vector) → AreSized n counts → ClashingPair counts → Counts (zeros n) counts
  pair some [] sized c = absurd c
  pair some (u ∷ counts) sized (inl c) =
      let a = answer some u sized.0 counts sized.1 c in
      let long : length a.unit ≡ n = length_below a.unit u a.in_first ∙ sized.0 in
      let same : add (zeros n) a.unit ≡ a.unit = zeros_add a.unit n long in
      record {
        shares = record {
          parts = a.unit ∷ a.shares.parts;
          below = (a.in_first, a.shares.below);
          whole = ap (add a.unit) a.shares.whole ∙ cancelled a.unit n long;
          within = (
            omega (arith, a.one, some),
            omega (arith, ap norm1 same, a.one, some),
            subst (λ w. StayWithin most w a.shares.parts) (sym same) a.shares.within,
          );
        };
        nonzero = omega (arith, a.one);
      }
  pair some (u ∷ counts) sized (inr c) =
      let r = pair some counts sized.1 c in
      let same : add (zeros n) (zeros n) ≡ zeros n = add_zeros (zeros n) n (length-zeros n) in
      record {
        shares = record {
          parts = zeros n ∷ r.shares.parts;
          below = (zeros_below_sized u n sized.0, r.shares.below);
          whole = ap (add (zeros n)) r.shares.whole ∙ same;
          within = (
            omega (arith, norm-zeros n),
            omega (arith, ap norm1 same, norm-zeros n),
            subst (λ w. StayWithin most w r.shares.parts) (sym same) r.shares.within,
          );
        };
        nonzero = omega (arith, r.nonzero);
      }

-- ---- the counts of a piece

-- a vector below w, with a property, that is not 0 and at most so heavy
pub record LightPart (most : ℕ) (P : Vector → Type 0) (w : Vector) : Type 0 where
  pub vector : Vector
  pub below : vector ⊑ w
  pub nonzero : 0 < norm1 vector
  pub light : norm1 vector ≤ most
  pub has : P vector

-- shares that are not all 0, whose sum has the property
pub record PieceShares (n most : ℕ) (P : Vector → Type 0) (counts : List Vector) : Type 0 where
  pub whole : Vector
  pub has : P whole
  pub counts_of : Counts n most whole counts

-- where the sum of the counts, if it is not 0, has such a part, and 0 has the property
pub piece_counts : (n most : ℕ) (P : Vector → Type 0) (counts : List Vector) → 1 ≤ most → P (zeros n) →
    AreSized n counts → 0 < weight counts →
    (0 < norm1 (sum_of n counts) → LightPart most P (sum_of n counts)) → PieceShares n most P counts
piece_counts n most P counts some zero_has sized nonzero given = elim (agreeing_or_clashing counts) [
  | inr c ↦ record { whole = zeros n; has = zero_has; counts_of = pair n most some counts sized c }
  | inl agreeing ↦
      let g = given (omega (arith, agreeing_weight n counts sized agreeing, nonzero)) in
      let light : norm1 (zeros n) + norm1 g.vector ≤ most = omega (arith, norm-zeros n, g.light) in
      let r = shares_of n most counts sized agreeing (zeros n) g.vector g.below light in
      record {
        whole = g.vector;
        has = g.has;
        counts_of = record {
          shares = r;
          nonzero = omega (arith, norm_sum_of n r.parts, ap norm1 r.whole, g.nonzero);
        };
      }
]
