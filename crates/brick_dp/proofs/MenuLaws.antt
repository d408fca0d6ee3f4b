-- The menu of a brick, one listed sum after the other, and those of all bricks.
use Rattle.std.proofs.Common.{◌≡◌, ◌≢◌, ℕ, zero, suc, ◌+◌, ◌-◌, ◌<◌, ◌≤◌, ℤ, pos, Bool, true, false, not, List, [], ◌∷◌}
use Rattle.std.proofs.Common.{◌++◌, length, refl, ap, arith, sym, ◌∙◌, Some, slice_get, subst, ◌⊎◌, inl, inr, get_or}
use Rattle.std.proofs.Common.{All}
use Rattle.std.proofs.lemmas.List.{length-append, length-map, length-set}
use Rattle.std.proofs.Math.ListN.{set}
use Rattle.std.proofs.lemmas.Option.{slice_get_within, slice_get-get_or}
use Rattle.std.proofs.lemmas.Bool.{cases_lt, cases_order}
use Rattle.lattice_theory.specs.Vectors.{Vector}
use Rattle.lattice_theory.specs.SignedSums.{Sum, vectors}
use Rattle.fold_theory.specs.Programs.{Brick, Bricks, IsWithin}
use Rattle.fold_program.specs.Places.{ForBrick}
use Rattle.run_theory.specs.Folds.{FoldValue}
use Rattle.lattice_laws.proofs.Places.{same_value, slice_get-push, there_at}
use Rattle.sieve_laws.specs.declared.PricedMove.{PricedMove}
use Rattle.sieve_laws.specs.Sieve.{Menu, after}
use Rattle.sieve_laws.proofs.Cells.{slice_get-set_same, slice_get-set_other}
use Rattle.brick_dp.specs.Changes.{IsChange}
use Rattle.brick_dp.specs.Menus.{IsBrickMenu, AreMenus, AreListed, IsRenewed}

module _ {A : Type 0} where
  slice_get-before : (xs : List A) (x y : A) (i : ℕ) → slice_get xs i ≡ Some y → slice_get (xs ++ x ∷ []) i ≡ Some y
  slice_get-before [] x y i there = absurd (cc)
  slice_get-before (z ∷ xs) x y zero there = there
  slice_get-before (z ∷ xs) x y (suc i) there = slice_get-before xs x y i there

  pub slice_get-last : (xs : List A) (x : A) → slice_get (xs ++ x ∷ []) (length xs) ≡ Some x
  slice_get-last [] x = refl
  slice_get-last (z ∷ xs) x = slice_get-last xs x

-- a move of the menu, or the one behind it
abbrev IsAt : Menu → PricedMove → ℕ → PricedMove → Type 0
IsAt menu new i m = (slice_get menu i ≡ Some m) ⊎ ((i ≡ length menu) × (new ≡ m))

module _ (f : FoldValue) (k : ℕ) (b : Brick) (v : Vector) where
  abbrev zs : List Vector
  zs = vectors f.sums

  -- the moves to the first n sums
  pub record MenuUpTo (menu : Menu) (n : ℕ) : Type 0 where
    pub sound : (i : ℕ) (m : PricedMove) → slice_get menu i ≡ Some m → (d : Vector) × (slice_get zs m.place ≡ Some d) ×
        IsChange f.phase k b v d (Some m.change)
    pub low : (i : ℕ) (m : PricedMove) → slice_get menu i ≡ Some m → m.place < n
    pub complete : (h : ℕ) (d : Vector) → h < n → slice_get zs h ≡ Some d → IsWithin b (after k v d) →
        (i : ℕ) × (m : PricedMove) × (slice_get menu i ≡ Some m) × (m.place ≡ h)
    pub rising : (i j : ℕ) (a c : PricedMove) → i < j → slice_get menu i ≡ Some a → slice_get menu j ≡ Some c →
        a.place < c.place

  pub menu_none : (menu : Menu) → menu ≡ [] → MenuUpTo menu 0
  menu_none menu is = record {
    sound = λ i m there. absurd (none i m there);
    low = λ i m there. absurd (none i m there);
    complete = λ h d low. absurd (omega (arith, low));
    rising = λ i j a c before here. absurd (none i a here);
  }
    where
      none : (i : ℕ) (m : PricedMove) → slice_get menu i ≡ Some m → ⊥
      none i m there = omega (arith, slice_get_within menu i m there, ap length is)

  -- a move that leaves the bounds
  pub menu_outside : (menu : Menu) (n : ℕ) (d : Vector) → slice_get zs n ≡ Some d → (IsWithin b (after k v d) → ⊥) →
      MenuUpTo menu n → MenuUpTo menu (n + 1)
  menu_outside menu n d there outside so_far = record {
    sound = so_far.sound;
    low = λ i m here. omega (arith, so_far.low i m here);
    complete = λ h e low listed within. by h e low listed within (cases_lt h n);
    rising = so_far.rising;
  }
    where
      by : (h : ℕ) (e : Vector) → h < n + 1 → slice_get zs h ≡ Some e → IsWithin b (after k v e) → (h < n) ⊎ (n ≤ h) →
          (i : ℕ) × (m : PricedMove) × (slice_get menu i ≡ Some m) × (m.place ≡ h)
      by h e low listed within (inl before) = so_far.complete h e before listed within
      by h e low listed within (inr high) =
          let last : h ≡ n = omega (arith, low, high) in
          let same : e ≡ d = same_value (slice_get zs n) e d (ap (slice_get zs) (sym last) ∙ listed) there in
          absurd (outside (subst (λ u. IsWithin b (after k v u)) same within))

  -- one that stays within them
  pub menu_more : (menu more : Menu) (n : ℕ) (d : Vector) (c : ℤ) → slice_get zs n ≡ Some d →
      IsChange f.phase k b v d (Some c) →
      more ≡ menu ++ (record { place = n; change = c }) ∷ [] → MenuUpTo menu n → MenuUpTo more (n + 1)
  menu_more menu more n d c there change is so_far =
      subst (λ menu. MenuUpTo menu (n + 1)) (sym is) (record {
        sound = λ i m here. sound i m (slice_get-push menu new m i here);
        low = λ i m here. low i m (slice_get-push menu new m i here);
        complete = λ h e under listed within. complete h e under listed within (cases_lt h n);
        rising = λ i j a b before here then. rising i j a b before (slice_get-push menu new a i here)
            (slice_get-push menu new b j then);
      })
    where
      new : PricedMove
      new = record { place = n; change = c }

      sound : (i : ℕ) (m : PricedMove) → IsAt menu new i m → (d : Vector) × (slice_get zs m.place ≡ Some d) × IsChange
          f.phase k b v d (Some m.change)
      sound i m (inl before) = so_far.sound i m before
      sound i m (inr last) =
          subst (λ (m : PricedMove). (d : Vector) × (slice_get zs m.place ≡ Some d) × IsChange f.phase k b v d
          (Some m.change)) last.1 (d, there, change)

      low : (i : ℕ) (m : PricedMove) → IsAt menu new i m → m.place < n + 1
      low i m (inl before) = omega (arith, so_far.low i m before)
      low i m (inr last) = let place = ap (λ (m : PricedMove). m.place) last.1 in omega (arith, place)

      complete : (h : ℕ) (e : Vector) → h < n + 1 → slice_get zs h ≡ Some e → IsWithin b (after k v e) →
          (h < n) ⊎ (n ≤ h) →
          (i : ℕ) × (m : PricedMove) × (slice_get (menu ++ new ∷ []) i ≡ Some m) × (m.place ≡ h)
      complete h e under listed within (inl before) =
          let old = so_far.complete h e before listed within in
          (old.0, old.1, slice_get-before menu new old.1 old.0 old.2, old.3)
      complete h e under listed within (inr high) =
          (length menu, new, slice_get-last menu new, omega (arith, under, high))

      rising : (i j : ℕ) (a b : PricedMove) → i < j → IsAt menu new i a → IsAt menu new j b → a.place < b.place
      rising i j a b before (inl here) (inl then) = so_far.rising i j a b before here then
      rising i j a b before (inl here) (inr last) =
          let place = ap (λ (m : PricedMove). m.place) last.1 in omega (arith, place, so_far.low i a here)
      rising i j a b before (inr last) (inl then) =
          absurd (omega (arith, before, last.0, slice_get_within menu j b then))
      rising i j a b before (inr last) (inr also) = absurd (omega (arith, before, last.0, also.0))

  pub menu_all : (menu : Menu) (n : ℕ) → n ≡ length f.sums → MenuUpTo menu n → IsBrickMenu f k b v menu
  menu_all menu n all so_far = record {
    moves = record {
      sound = λ i m there. let known = so_far.sound i m there in (known.0, known.1, known.2.0, known.2.1);
      complete = λ h d there within. so_far.complete h d (omega (arith, all, count, slice_get_within zs h d there))
          there within;
      rising = so_far.rising;
    };
    low = λ i m low. subst (λ n. (get_or menu i m).place < n) all
        (so_far.low i (get_or menu i m) (slice_get-get_or menu i m low));
    small = λ i m low. (so_far.sound i (get_or menu i m) (slice_get-get_or menu i m low)).2.2;
  }
    where
      count : length zs ≡ length f.sums
      count = length-map {A = Sum} {B = Vector} f.sums (λ s. s.vector)

-- ---- the menus of all bricks

-- the menus of the first n bricks
pub record MenusUpTo (f : FoldValue) (x : Bricks) (k : ℕ) (menus : List Menu) (n : ℕ) : Type 0 where
  pub size : length menus ≡ n
  pub each : (i : ℕ) (b : Brick) (v : Vector) (menu : Menu) → slice_get f.program.bricks i ≡ Some b →
      slice_get x i ≡ Some v → slice_get menus i ≡ Some menu →
      IsBrickMenu f k b v menu

pub menus_none : (f : FoldValue) (x : Bricks) (k : ℕ) (menus : List Menu) → menus ≡ [] → MenusUpTo f x k menus 0
menus_none f x k menus is = record {
  size = ap length is;
  each = λ i b v menu brick at there. absurd (omega (arith, slice_get_within menus i menu there, ap length is));
}

pub menus_more : (f : FoldValue) (x : Bricks) (k : ℕ) (menus more : List Menu) (n : ℕ) (v : Vector) (menu : Menu) →
    slice_get x n ≡ Some v →
    ((b : Brick) → slice_get f.program.bricks n ≡ Some b → IsBrickMenu f k b v menu) → more ≡ menus ++ menu ∷ [] →
    MenusUpTo f x k menus n → MenusUpTo f x k more (n + 1)
menus_more f x k menus more n v menu at is_menu is so_far = record {
  size = ap length is ∙ length-append menus (menu ∷ []) ∙ ap (λ m. m + 1) so_far.size;
  each = λ i b u other brick here there. by i b u other brick here
      (slice_get-push menus menu other i (ap (λ ms. slice_get ms i) (sym is) ∙ there));
}
  where
    by : (i : ℕ) (b : Brick) (u : Vector) (other : Menu) → slice_get f.program.bricks i ≡ Some b →
        slice_get x i ≡ Some u →
        (slice_get menus i ≡ Some other) ⊎ ((i ≡ length menus) × (menu ≡ other)) → IsBrickMenu f k b u other
    by i b u other brick here (inl before) = so_far.each i b u other brick here before
    by i b u other brick here (inr last) =
        let place : i ≡ n = last.0 ∙ so_far.size in
        let vectors_same : v ≡ u = same_value (slice_get x n) v u at (ap (slice_get x) (sym place) ∙ here) in
        subst (λ (m : Menu). IsBrickMenu f k b u m) last.1 (
        subst (λ w. IsBrickMenu f k b w menu) vectors_same (is_menu b (ap (slice_get f.program.bricks) (sym place)
        ∙ brick))
        )

pub menus_all : (f : FoldValue) (x : Bricks) (k : ℕ) (menus : List Menu) (n : ℕ) → n ≡ length f.program.bricks →
    MenusUpTo f x k menus n → AreMenus f x k menus
menus_all f x k menus n all so_far = record {
  size = so_far.size ∙ all;
  each = so_far.each;
}

-- a menu has at most as many moves as there are sums
pub menu_short : (f : FoldValue) (k : ℕ) (b : Brick) (v : Vector) (menu : Menu) → IsBrickMenu f k b v menu →
    length menu ≤ length f.sums
menu_short f k b v menu is = by (length menu) refl
  where
    above : (i : ℕ) (m : PricedMove) → slice_get menu i ≡ Some m → i ≤ m.place
    above zero m there = omega arith
    above (suc i) m there =
        let before : (m : PricedMove) × (slice_get menu i ≡ Some m) =
        (get_or menu i m, slice_get-get_or menu i m (omega (arith, slice_get_within menu (suc i) m there))) in
        let low = above i before.0 before.1 in
        let next = is.moves.rising i (suc i) before.0 m (omega arith) before.1 there in
        omega (arith, low, next)

    by : (n : ℕ) → length menu ≡ n → length menu ≤ length f.sums
    by zero size = omega (arith, size)
    by (suc n) size =
        let none : PricedMove = record { place = 0; change = pos 0 } in
        let there = slice_get-get_or menu n none (omega (arith, size)) in
        let high = above n (get_or menu n none) there in
        let low = is.low n none (omega (arith, size)) in
        omega (arith, size, high, low)

-- ---- from the menus at one point to those at another

-- the first n menus are those at the second point, the others at the first
pub record AreFollowing (f : FoldValue) (x y : Bricks) (k : ℕ) (menus : List Menu) (n : ℕ) : Type 0 where
  pub size : length menus ≡ length f.program.bricks
  pub done : (i : ℕ) (b : Brick) (v : Vector) (menu : Menu) → i < n → slice_get f.program.bricks i ≡ Some b →
      slice_get y i ≡ Some v →
      slice_get menus i ≡ Some menu → IsBrickMenu f k b v menu
  pub rest : (i : ℕ) (b : Brick) (v : Vector) (menu : Menu) → n ≤ i → slice_get f.program.bricks i ≡ Some b →
      slice_get x i ≡ Some v →
      slice_get menus i ≡ Some menu → IsBrickMenu f k b v menu

pub following_none : (f : FoldValue) (x y : Bricks) (k : ℕ) (menus : List Menu) → AreMenus f x k menus →
    AreFollowing f x y k menus 0
following_none f x y k menus are = record {
  size = are.size;
  done = λ i b v menu low. absurd (omega (arith, low));
  rest = λ i b v menu low. are.each i b v menu;
}

-- a brick whose vector is the same keeps its menu
pub following_same : (f : FoldValue) (x y : Bricks) (k : ℕ) (menus : List Menu) (n : ℕ) →
    slice_get x n ≡ slice_get y n → AreFollowing f x y k menus n → AreFollowing f x y k menus (n + 1)
following_same f x y k menus n same so_far = record {
  size = so_far.size;
  done = λ i b u menu low brick at there. by i b u menu low brick at there (cases_lt i n);
  rest = λ i b u menu low. so_far.rest i b u menu (omega (arith, low));
}
  where
    by : (i : ℕ) (b : Brick) (u : Vector) (menu : Menu) → i < n + 1 → slice_get f.program.bricks i ≡ Some b →
        slice_get y i ≡ Some u → slice_get menus i ≡ Some menu → (i < n) ⊎ (n ≤ i) → IsBrickMenu f k b u menu
    by i b u menu low brick at there (inl before) = so_far.done i b u menu before brick at there
    by i b u menu low brick at there (inr high) =
        let last : i ≡ n = omega (arith, low, high) in
        so_far.rest i b u menu high brick
        (ap (slice_get x) last ∙ same ∙ ap (slice_get y) (sym last) ∙ at) there

-- another brick gets a new one
pub following_new : (f : FoldValue) (x y : Bricks) (k : ℕ) (menus more : List Menu) (n : ℕ) (v : Vector) →
    slice_get y n ≡ Some v → IsRenewed f k (n + 1) v menus more → AreFollowing f x y k menus n →
    AreFollowing f x y k more (n + 1)
following_new f x y k menus more n v here new so_far = record {
  size = new.size ∙ so_far.size;
  done = λ i b u other under brick at there. by i b u other under brick at there (cases_order i n);
  rest = λ i b u other under brick at there.
      so_far.rest i b u other (omega (arith, under)) brick at (others i other (λ e. omega (arith, under, e)) there);
}
  where
    place : n + 1 - 1 ≡ n
    place = omega arith

    others : (i : ℕ) (other : Menu) → i ≢ n → slice_get more i ≡ Some other → slice_get menus i ≡ Some other
    others i other apart there = new.others i other (λ e. apart (e ∙ place)) there

    by : (i : ℕ) (b : Brick) (u : Vector) (other : Menu) → i < n + 1 → slice_get f.program.bricks i ≡ Some b →
        slice_get y i ≡ Some u → slice_get more i ≡ Some other → (i ≡ n) ⊎ ((i < n) ⊎ (n < i)) →
        IsBrickMenu f k b u other
    by i b u other under brick at there (inl same) =
        let index : i ≡ n + 1 - 1 = same ∙ sym place in
        let vectors_same : v ≡ u = same_value (slice_get y n) v u here (ap (slice_get y) (sym same) ∙ at) in
        subst (λ w. IsBrickMenu f k b w other) vectors_same (
        new.new other (ap (slice_get more) (sym index) ∙ there) b
        (ap (slice_get f.program.bricks) (sym index) ∙ brick)
        )
    by i b u other under brick at there (inr (inl before)) =
        so_far.done i b u other before brick at (others i other (λ e. omega (arith, before, e)) there)
    by i b u other under brick at there (inr (inr behind)) = absurd (omega (arith, under, behind))

pub following_all : (f : FoldValue) (x y : Bricks) (k : ℕ) (menus : List Menu) (n : ℕ) → length f.program.bricks ≤ n →
    AreFollowing f x y k menus n →
    AreMenus f y k menus
following_all f x y k menus n all so_far = record {
  size = so_far.size;
  each = λ i b v menu brick at there.
      let low = slice_get_within f.program.bricks i b brick in
      so_far.done i b v menu (omega (arith, low, all)) brick at there;
}

-- the moves of each menu are listed sums
listed_menus : (f : FoldValue) (k : ℕ) (menus : List Menu) → length menus ≤ length f.program.bricks →
    ((i : ℕ) (b : Brick) (menu : Menu) → slice_get f.program.bricks i ≡ Some b → slice_get menus i ≡ Some menu →
    (v : Vector) × IsBrickMenu f k b v menu) →
    AreListed (length f.sums) menus
listed_menus f k menus all each i menu there =
    let (b, brick) = there_at f.program.bricks i (omega (arith, all, slice_get_within menus i menu there)) in
    let (v, is) = each i b menu brick there in
    is.low

pub up_to_listed : (f : FoldValue) (x : Bricks) (k : ℕ) (menus : List Menu) → length x ≡ length f.program.bricks →
    MenusUpTo f x k menus (length f.program.bricks) → AreListed (length f.sums) menus
up_to_listed f x k menus size so_far = listed_menus f k menus (omega (arith, so_far.size)) (λ i b menu brick there.
    let (v, at) = there_at x i (omega (arith, size, slice_get_within f.program.bricks i b brick)) in
    (v, so_far.each i b v menu brick at there))

pub following_listed : (f : FoldValue) (x y : Bricks) (k : ℕ) (menus : List Menu) (n : ℕ) →
    length x ≡ length f.program.bricks → length y ≡ length f.program.bricks → AreFollowing f x y k menus n →
    AreListed (length f.sums) menus
following_listed f x y k menus n first second so_far =
    listed_menus f k menus (omega (arith, so_far.size)) (λ i b menu brick there. by i b menu brick there (cases_lt i n))
  where
    by : (i : ℕ) (b : Brick) (menu : Menu) → slice_get f.program.bricks i ≡ Some b → slice_get menus i ≡ Some menu →
        (i < n) ⊎ (n ≤ i) → (v : Vector) × IsBrickMenu f k b v menu
    by i b menu brick there (inl before) =
        let (v, at) = there_at y i (omega (arith, second, slice_get_within f.program.bricks i b brick)) in
        (v, so_far.done i b v menu before brick at there)
    by i b menu brick there (inr high) =
        let (v, at) = there_at x i (omega (arith, first, slice_get_within f.program.bricks i b brick)) in
        (v, so_far.rest i b v menu high brick at there)

-- one brick has another menu
pub renewed_by : (f : FoldValue) (k brick : ℕ) (v : Vector) (menus : List Menu) (menu : Menu) →
    brick - 1 < length menus → ForBrick f.program brick (λ b. IsBrickMenu f k b v menu) →
    IsRenewed f k brick v menus (set menus (brick - 1) menu)
renewed_by f k brick v menus menu low is = record {
  size = length-set menus (brick - 1) menu;
  others = λ i other apart there. sym (slice_get-set_other menus (brick - 1) i menu apart) ∙ there;
  new = λ other there.
      let here = slice_get-set_same menus (brick - 1) menu low in
      let same : menu ≡ other = same_value (slice_get (set menus (brick - 1) menu) (brick - 1)) menu other here there in
      subst (λ (m : Menu). ForBrick f.program brick (λ b. IsBrickMenu f k b v m)) same is;
}

pub listed_renewed : (sums place : ℕ) (menus : List Menu) (menu : Menu) → All (λ m. m.place < sums) menu →
    AreListed sums menus → AreListed sums (set menus place menu)
listed_renewed sums place menus menu new are i other there = by (cases_order i place)
  where
    apart : i ≢ place → All (λ m. m.place < sums) other
    apart other_place = are i other (sym (slice_get-set_other menus place i menu other_place) ∙ there)

    by : (i ≡ place) ⊎ ((i < place) ⊎ (place < i)) → All (λ m. m.place < sums) other
    by (inl same) =
        let low : place < length menus = omega (
          arith,
          same,
          slice_get_within (set menus place menu) i other there,
          length-set menus place menu,
        ) in
        let is : menu ≡ other = same_value (slice_get (set menus place menu) place) menu other
        (slice_get-set_same menus place menu low) (ap (slice_get (set menus place menu)) (sym same) ∙ there) in
        subst (λ (m : Menu). All (λ e. e.place < sums) m) is new
    by (inr (inl before)) = apart (λ e. omega (arith, before, e))
    by (inr (inr behind)) = apart (λ e. omega (arith, behind, e))

-- ---- which bricks changed

pub not_false : (b : Bool) → false ≡ not b → b ≡ true
not_false true e = refl
not_false false e = absurd (cc)

-- one more brick, whose vectors were compared
pub marked_more : (x y : Bricks) (changed more : List Bool) (n : ℕ) (mark : Bool) → length changed ≡ n →
    more ≡ changed ++ mark ∷ [] → (mark ≡ false → slice_get x n ≡ slice_get y n) →
    ((i : ℕ) → slice_get changed i ≡ Some false → slice_get x i ≡ slice_get y i) →
    (i : ℕ) → slice_get more i ≡ Some false → slice_get x i ≡ slice_get y i
marked_more x y changed more n mark size is new so_far i there =
    by (slice_get-push changed mark false i (ap (λ bs. slice_get bs i) (sym is) ∙ there))
  where
    by : (slice_get changed i ≡ Some false) ⊎ ((i ≡ length changed) × (mark ≡ false)) → slice_get x i ≡ slice_get y i
    by (inl before) = so_far i before
    by (inr last) =
        let place : n ≡ i = sym (last.0 ∙ size) in
        subst (λ i. slice_get x i ≡ slice_get y i) place (new last.1)
