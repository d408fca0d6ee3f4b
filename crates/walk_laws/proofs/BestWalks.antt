-- Least and best walks, layer by layer from the last one back: what the offers of a layer are, and that the first of
-- the least ones begins the best walk.
use Rattle.std.proofs.Common.{◌≡◌, ℕ, ◌<◌, ◌^◌, ℤ, pos, ◌+ℤ◌, ◌-ℤ◌, ◌≤ℤ◌, ◌<ℤ◌, true, List, [], ◌∷◌, ◌++◌, length, refl}
use Rattle.std.proofs.Common.{ap, arith, sym, ◌∙◌, Contains, Option, Some, None, subst, ◌⊎◌, inl, inr, IsTrue, All}
use Rattle.std.proofs.Common.{get_or, append_assoc}
use Rattle.std.proofs.lemmas.Int.{ints}
use Rattle.std.proofs.lemmas.Bool.{cases_order}
use Rattle.std.proofs.lemmas.Option.{slice_get_within, slice_get-get_or, get_or_from_slice_get}
use Rattle.std.proofs.lemmas.List.Elements.{All-contains}
use Rattle.std.specs.Prelude.{slice_get}
use Rattle.std.specs.Ordering.{is_le, is_lt}
use Rattle.std.specs.Cmp.Lexicographic.{slice_cmp}
use Rattle.fold_theory.specs.declared.Phase.{Phase}
use Rattle.lattice_theory.specs.Vectors.{Vector, lex_cmp, lex_less, is_rising, add, sub, scale}
use Rattle.lattice_theory.specs.Matrices.{product}
use Rattle.lattice_laws.proofs.Conformal.{add_sub}
use Rattle.lattice_laws.proofs.Rising.{rising_places}
use Rattle.fold_theory.specs.Programs.{Program, Brick, Bricks, IsWithin}
use Rattle.run_theory.specs.Walks.{brick_change, end_cost, WalkCosts}
use Rattle.walk_laws.proofs.Orders.{lex_cmp-sub, first_decides, tails_decide}
use Rattle.walk_laws.proofs.Walks.{there, Front, front_of, walk_of, walk_none}

-- a vector less w, after w
sub_add : (w d : Vector) → length d ≡ length w → sub (add w d) w ≡ d
sub_add [] [] e = refl
sub_add [] (b ∷ d) e = absurd (omega arith)
sub_add (a ∷ w) [] e = absurd (omega arith)
sub_add (a ∷ w) (b ∷ d) e =
    let here : (a +ℤ b) -ℤ a ≡ b = omega (arith, ints) in
    λ i. here i ∷ sub_add w d (omega arith) i

clash : {A P : Type 0} (o : Option A) (a : A) → o ≡ Some a → o ≡ None → P
clash o a p q = absurd (cc)

same_some : (o : Option Vector) (a b : Vector) → o ≡ Some a → o ≡ Some b → a ≡ b
same_some o a b p q = cc

same_number : (o : Option ℤ) (a b : ℤ) → o ≡ Some a → o ≡ Some b → a ≡ b
same_number o a b p q = cc

same_some_cell : (o : Option (Option ℤ)) (a b : ℤ) → o ≡ Some (Some a) → o ≡ Some (Some b) → a ≡ b
same_some_cell o a b p q = cc

-- a listed vector stands at some place
place_of : (vs : List Vector) (v : Vector) → Contains vs v → (j : ℕ) × (j < length vs) × (slice_get vs j ≡ Some v)
place_of vs v (j, low, e) = (j, low, slice_get-get_or vs j v low ∙ ap Some e)

-- a row as long as the list has a cell at each of its places
cell_at : (row : List (Option ℤ)) (n j : ℕ) → length row ≡ n → j < n → (o : Option ℤ) × (slice_get row j ≡ Some o)
cell_at row n j size low = (get_or row j None, slice_get-get_or row j None (omega (arith, size)))

module _ (p : Program) (phase : Phase) (zs : List Vector) (k : ℕ) (rests : Vector) where
  abbrev pub Costs : List Brick → Bricks → Vector → Bricks → ℤ → Type 0
  Costs bs x w h c = WalkCosts p phase zs k rests bs x w h c

  -- the least cost of a walk from w through these bricks, or none where there is none
  abbrev pub IsLeastWalk : List Brick → Bricks → Vector → Option ℤ → Type 0
  IsLeastWalk bs x w None = (h : Bricks) (c : ℤ) → Costs bs x w h c → ⊥
  IsLeastWalk bs x w (Some a) = ((h : Bricks) × Costs bs x w h a) × ((h : Bricks) (c : ℤ) → Costs bs x w h c → a ≤ℤ c)

  -- a walk of least cost, and the first of these
  pub record IsBestWalk (bs : List Brick) (x : Bricks) (w : Vector) (h : Bricks) (c : ℤ) : Type 0 where
    pub walk : Costs bs x w h c
    pub least : (g : Bricks) (e : ℤ) → Costs bs x w g e → c ≤ℤ e
    pub first : (g : Bricks) → Costs bs x w g c → IsTrue (is_le (slice_cmp lex_cmp h g))

  -- the cells of a layer are the least costs of walks from its sums
  pub record IsLeastRow (bs : List Brick) (x : Bricks) (row : List (Option ℤ)) : Type 0 where
    pub size : length row ≡ length zs
    pub cells : (j : ℕ) (w : Vector) (o : Option ℤ) → slice_get zs j ≡ Some w → slice_get row j ≡ Some o →
        IsLeastWalk bs x w o

  -- a move from w to the sum at place j, and the least walk after it, cost c
  pub record Offers (b : Brick) (v w : Vector) (row : List (Option ℤ)) (j : ℕ) (c : ℤ) : Type 0 where
    pub sum : Vector
    pub listed : slice_get zs j ≡ Some sum
    pub move : Contains zs (sub sum w)
    pub within : IsWithin b (there p phase zs k rests v (sub sum w))
    pub rest : ℤ
    pub cell : slice_get row j ≡ Some (Some rest)
    pub is : c ≡ (brick_change phase b v (there p phase zs k rests v (sub sum w)) +ℤ rest)

  -- none of the first so many places offers anything
  abbrev pub OffersNone : Brick → Vector → Vector → List (Option ℤ) → ℕ → Type 0
  OffersNone b v w row places = (j : ℕ) (c : ℤ) → j < places → Offers b v w row j c → ⊥

  -- the place is the first of those that offer the least cost
  pub record IsChoice (b : Brick) (v w : Vector) (row : List (Option ℤ)) (places : ℕ) (c : ℤ) (j : ℕ) : Type 0 where
    pub low : j < places
    pub offer : Offers b v w row j c
    pub least : (i : ℕ) (e : ℤ) → i < places → Offers b v w row i e → c ≤ℤ e
    pub first : (i : ℕ) (e : ℤ) → i < j → Offers b v w row i e → c <ℤ e

  module _ (t : ℕ) (widths : All (λ z. length z ≡ t) zs) where
    -- what a walk's first move offers: at the place of its sum a cost that is at most its own
    record Offered (b : Brick) (bs : List Brick) (v : Vector) (x : Bricks) (w d : Vector) (h : Bricks)
        (row : List (Option ℤ)) (c : ℤ) : Type 0 where
      place : ℕ
      low : place < length zs
      cost : ℤ
      offer : Offers b v w row place cost
      sum_is : offer.sum ≡ add w d
      most : cost ≤ℤ c
      rest : ℤ
      walk : Costs bs x (add w d) h rest
      above : offer.rest ≤ℤ rest
      is : c ≡ (brick_change phase b v (there p phase zs k rests v d) +ℤ rest)

    offered : (b : Brick) (bs : List Brick) (v : Vector) (x : Bricks) (w d : Vector) (h : Bricks)
        (row : List (Option ℤ)) (c : ℤ) →
        length w ≡ t → IsLeastRow bs x row → Costs (b ∷ bs) (v ∷ x) w (d ∷ h) c → Offered b bs v x w d h row c
    offered b bs v x w d h row c size least wc = by (cell_at row (length zs) at.0 least.size at.1)
      where
        f : Front p phase zs k rests b bs v x w d h c
        f = front_of p phase zs k rests b bs v x w d h c wc

        at : (j : ℕ) × (j < length zs) × (slice_get zs j ≡ Some (add w d))
        at = place_of zs (add w d) f.sum

        back : sub (add w d) w ≡ d
        back = sub_add w d (All-contains (λ z. length z ≡ t) zs d widths f.move ∙ sym size)

        by : (o : Option ℤ) × (slice_get row at.0 ≡ Some o) → Offered b bs v x w d h row c
        by (None, e) = absurd (least.cells at.0 (add w d) None at.2 e h f.rest f.walk)
        by (Some m, e) =
            let low : m ≤ℤ f.rest = (least.cells at.0 (add w d) (Some m) at.2 e).1 h f.rest f.walk in
            record {
              place = at.0;
              low = at.1;
              cost = brick_change phase b v (there p phase zs k rests v d) +ℤ m;
              offer = record {
                sum = add w d;
                listed = at.2;
                move = subst (λ z. Contains zs z) (sym back) f.move;
                within = subst (λ z. IsWithin b (there p phase zs k rests v z)) (sym back) f.within;
                rest = m;
                cell = e;
                is = ap (λ z. brick_change phase b v (there p phase zs k rests v z) +ℤ m) (sym back);
              };
              sum_is = refl;
              most = omega (arith, ints, low, f.is);
              rest = f.rest;
              walk = f.walk;
              above = low;
              is = f.is;
            }

    -- an offer is the begin of a walk
    taken : (b : Brick) (bs : List Brick) (v : Vector) (x : Bricks) (w : Vector) (row : List (Option ℤ)) (j : ℕ) (c : ℤ)
        (h : Bricks) →
        length w ≡ t → (o : Offers b v w row j c) → Costs bs x o.sum h o.rest →
        Costs (b ∷ bs) (v ∷ x) w (sub o.sum w ∷ h) c
    taken b bs v x w row j c h size o wc =
        let width : length o.sum ≡ t =
        sym (ap length (get_or_from_slice_get zs j o.sum o.sum o.listed))
        ∙ widths j o.sum (slice_get_within zs j o.sum o.listed) in
        let forward : add w (sub o.sum w) ≡ o.sum = add_sub w o.sum (size ∙ sym width) in
        let listed : Contains zs o.sum = (
          j,
          slice_get_within zs j o.sum o.listed,
          get_or_from_slice_get zs j o.sum o.sum o.listed,
        ) in
        walk_of p phase zs k rests b bs v x w (sub o.sum w) h c o.rest o.move
        (subst (λ z. Contains zs z) (sym forward) listed)
        o.within
        (subst (λ z. Costs bs x z h o.rest) (sym forward) wc)
        o.is

    -- where no place offers anything, there is no walk
    pub least_none : (b : Brick) (bs : List Brick) (v : Vector) (x : Bricks) (w : Vector) (row : List (Option ℤ)) →
        length w ≡ t → IsLeastRow bs x row → OffersNone b v w row (length zs) → IsLeastWalk (b ∷ bs) (v ∷ x) w None
    least_none b bs v x w row size least none = walks
      where
        walks : (h : Bricks) (c : ℤ) → Costs (b ∷ bs) (v ∷ x) w h c → ⊥
        walks [] c wc = absurd (omega (arith, wc.walk.size))
        walks (d ∷ h) c wc =
            let o = offered b bs v x w d h row c size least wc in
            none o.place o.cost o.low o.offer

    -- the least offer is the least cost of a walk
    pub least_some : (b : Brick) (bs : List Brick) (v : Vector) (x : Bricks) (w : Vector) (row : List (Option ℤ))
        (c : ℤ) (j : ℕ) →
        length w ≡ t → IsLeastRow bs x row → IsChoice b v w row (length zs) c j →
        IsLeastWalk (b ∷ bs) (v ∷ x) w (Some c)
    least_some b bs v x w row c j size least choice = (there_is, walks)
      where
        rest : (h : Bricks) × Costs bs x (choice.offer.sum) h (choice.offer.rest)
        rest = (least.cells j choice.offer.sum (Some choice.offer.rest) choice.offer.listed choice.offer.cell).0

        there_is : (h : Bricks) × Costs (b ∷ bs) (v ∷ x) w h c
        there_is = (sub choice.offer.sum w ∷ rest.0, taken b bs v x w row j c rest.0 size choice.offer rest.1)

        walks : (h : Bricks) (e : ℤ) → Costs (b ∷ bs) (v ∷ x) w h e → c ≤ℤ e
        walks [] e wc = absurd (omega (arith, wc.walk.size))
        walks (d ∷ h) e wc =
            let o = offered b bs v x w d h row e size least wc in
            let low = choice.least o.place o.cost o.low o.offer in
            omega (arith, ints, low, o.most)

    -- the first of the least offers, and then the best walk after it, is the best walk
    pub best_more : (b : Brick) (bs : List Brick) (v : Vector) (x : Bricks) (w : Vector) (row : List (Option ℤ)) (c : ℤ)
        (j : ℕ) (h : Bricks) →
        length w ≡ t → is_rising zs ≡ true → IsLeastRow bs x row → (choice : IsChoice b v w row (length zs) c j) →
        IsBestWalk bs x choice.offer.sum h choice.offer.rest →
        IsBestWalk (b ∷ bs) (v ∷ x) w (sub choice.offer.sum w ∷ h) c
    best_more b bs v x w row c j h size rising least choice best = record {
      walk = taken b bs v x w row j c h size choice.offer best.walk;
      least = (least_some b bs v x w row c j size least choice).1;
      first = firsts;
    }
      where
        s : Vector
        s = choice.offer.sum

        firsts : (g : Bricks) → Costs (b ∷ bs) (v ∷ x) w g c → IsTrue (is_le (slice_cmp lex_cmp (sub s w ∷ h) g))
        firsts [] wc = absurd (omega (arith, wc.walk.size))
        firsts (d ∷ g) wc = by (cases_order j o.place)
          where
            o : Offered b bs v x w d g row c
            o = offered b bs v x w d g row c size least wc

            width : (i : ℕ) (z : Vector) → slice_get zs i ≡ Some z → length z ≡ length w
            width i z e = sym (ap length (get_or_from_slice_get zs i z z e)) ∙ widths i z (slice_get_within zs i z e)
                ∙ sym size

            back : sub (add w d) w ≡ d
            back = sub_add w d (All-contains (λ z. length z ≡ t) zs d widths
                (front_of p phase zs k rests b bs v x w d g c wc).move ∙ sym size)

            by : (j ≡ o.place) ⊎ ((j < o.place) ⊎ (o.place < j)) →
                IsTrue (is_le (slice_cmp lex_cmp (sub s w ∷ h) (d ∷ g)))
            by (inl same) =
                let sums : s ≡ add w d = same_some (slice_get zs j) s (add w d) choice.offer.listed
                (ap (slice_get zs) same ∙ o.offer.listed ∙ ap Some o.sum_is) in
                let cells : choice.offer.rest ≡ o.offer.rest =
                same_some_cell (slice_get row j) choice.offer.rest o.offer.rest choice.offer.cell
                (ap (slice_get row) same ∙ o.offer.cell) in
                let heads : sub s w ≡ d = ap (λ z. sub z w) sums ∙ back in
                let change : c ≡ (brick_change phase b v (there p phase zs k rests v d) +ℤ choice.offer.rest) =
                choice.offer.is ∙ ap (λ z. brick_change phase b v (there p phase zs k rests v z) +ℤ choice.offer.rest)
                heads in
                let costs : o.rest ≡ choice.offer.rest = omega (arith, ints, o.is, change) in
                let tail : Costs bs x s g choice.offer.rest = subst (λ e. Costs bs x s g e) costs
                (subst (λ z. Costs bs x z g o.rest) (sym sums) o.walk) in
                subst (λ z. IsTrue (is_le (slice_cmp lex_cmp (sub s w ∷ h) (z ∷ g)))) heads
                (tails_decide (sub s w) h g (best.first g tail))
            by (inr (inl before)) =
                let less : lex_less s (add w d) ≡ true = rising_places zs j o.place s (add w d) rising before
                choice.offer.listed (o.offer.listed ∙ ap Some o.sum_is) in
                let moved : lex_less (sub s w) d ≡ true =
                ap is_lt (ap (lex_cmp (sub s w)) (sym back) ∙ lex_cmp-sub s (add w d) w (width j s choice.offer.listed)
                (width o.place (add w d) (o.offer.listed ∙ ap Some o.sum_is))) ∙ less in
                first_decides (sub s w) d h g moved
            by (inr (inr behind)) =
                let low = choice.first o.place o.cost behind o.offer in
                absurd (omega (arith, ints, low, o.most))

  -- at the last layer the walk without a move is the only one
  pub least_end : (w : Vector) (o : Option ℤ) → end_cost p phase rests (scale (pos (2 ^ k)) (product p.link w)) ≡ o →
      IsLeastWalk [] [] w o
  least_end w None e = none
    where
      none : (h : Bricks) (c : ℤ) → Costs [] [] w h c → ⊥
      none [] c wc = clash _ wc.last wc.ends e
      none (d ∷ h) c wc = absurd (omega (arith, wc.walk.size))
  least_end w (Some a) e = (([], walk_none p phase zs k rests w a e), low)
    where
      low : (h : Bricks) (c : ℤ) → Costs [] [] w h c → a ≤ℤ c
      low [] c wc = let q : wc.last ≡ a = same_number _ wc.last a wc.ends e in omega (arith, ints, wc.is, q)
      low (d ∷ h) c wc = absurd (omega (arith, wc.walk.size))

  pub best_end : (w : Vector) (a : ℤ) → end_cost p phase rests (scale (pos (2 ^ k)) (product p.link w)) ≡ Some a →
      IsBestWalk [] [] w [] a
  best_end w a e = record {
    walk = walk_none p phase zs k rests w a e;
    least = (least_end w (Some a) e).1;
    first = firsts;
  }
    where
      firsts : (g : Bricks) → Costs [] [] w g a → IsTrue (is_le (slice_cmp lex_cmp [] g))
      firsts [] wc = refl
      firsts (d ∷ g) wc = refl

  -- the moves so far begin the best walk of all bricks, whatever the best walk is that goes on from w
  pub record BeginsBest (bricks bs : List Brick) (whole x : Bricks) (start w : Vector) (total c : ℤ) (front : Bricks) :
      Type 0 where
    pub goes_on : (h : Bricks) → IsBestWalk bs x w h c → IsBestWalk bricks whole start (front ++ h) total

  pub begins_none : (bricks : List Brick) (whole : Bricks) (start : Vector) (total : ℤ) →
      BeginsBest bricks bricks whole whole start start total total []
  begins_none bricks whole start total = record { goes_on = λ h best. best }

  pub begins_more : (t : ℕ) → All (λ z. length z ≡ t) zs →
      (bricks bs : List Brick) (whole x : Bricks) (start w : Vector) (total c : ℤ) (front : Bricks)
      (b : Brick) (v : Vector) (row : List (Option ℤ)) (j : ℕ) → length w ≡ t → is_rising zs ≡ true →
      IsLeastRow bs x row →
      (choice : IsChoice b v w row (length zs) c j) → BeginsBest bricks (b ∷ bs) whole (v ∷ x) start w total c front →
      BeginsBest bricks bs whole x start choice.offer.sum total choice.offer.rest (front ++ sub choice.offer.sum w ∷ [])
  begins_more t widths bricks bs whole x start w total c front b v row j size rising least choice begins = record {
    goes_on = λ h best.
        subst
        (λ g. IsBestWalk bricks whole start g total)
        (sym (append_assoc front (sub choice.offer.sum w ∷ []) h))
        (begins.goes_on (sub choice.offer.sum w ∷ h) (best_more t widths b bs v x w row c j h size rising least choice
        best));
  }
