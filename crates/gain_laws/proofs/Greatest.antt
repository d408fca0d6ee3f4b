-- The greatest gain of the moves of one length, by going through all of them.
use Rattle.std.proofs.Common.{◌≡◌, ℕ, zero, suc, ◌<◌, ◌≤◌, ℤ, pos, negsuc, ◌<ℤ◌, unsigned_abs, List, [], ◌∷◌, ◌++◌, map}
use Rattle.std.proofs.Common.{length, Option, Some, None, refl, subst, arith, ⊎_elim, le_refl}
use Rattle.std.proofs.lemmas.Int.{ints}
use Rattle.std.proofs.lemmas.Bool.Decides.{leb_tells}
use Rattle.std.proofs.lemmas.List.Elements.{All-nil, All-cons, All-head, All-tail, All-weaker, All-contains}
use Rattle.std.proofs.lemmas.List.Elements.{Contains-append_left, Contains-append_right, Contains-append_cases}
use Rattle.std.proofs.lemmas.List.Elements.{Contains-push, Contains-push_cases}
use Rattle.std.specs.List.{All, Contains}
use Rattle.fold_theory.specs.declared.Phase.{Phase}
use Rattle.lattice_theory.specs.Vectors.{Vector}
use Rattle.fold_theory.specs.Programs.{Program, Bricks}
use Rattle.run_theory.specs.Steps.{gain, Augments, IsGain}
use Rattle.gain_laws.proofs.Decisions.{decided_augments}

-- ---- all moves of so many bricks

-- these lists, each with one of the vectors before it
abbrev with_first : List Vector → List Bricks → List Bricks
with_first [] hs = []
with_first (z ∷ zs) hs = map (λ h. z ∷ h) hs ++ with_first zs hs

abbrev pub all_moves : List Vector → ℕ → List Bricks
all_moves zs zero = [] ∷ []
all_moves zs (suc n) = with_first zs (all_moves zs n)

in_map : (z : Vector) (hs : List Bricks) (h : Bricks) → Contains hs h → Contains (map (λ g. z ∷ g) hs) (z ∷ h)
in_map z [] h has = let lt : has.0 < 0 = has.1 in absurd (omega (arith, lt))
in_map z (g ∷ hs) h has = ⊎_elim
    (λ one. ⊎_elim
    (λ none. let lt : none.0 < 0 = none.1 in absurd (omega (arith, lt)))
    (λ (e : g ≡ h). subst (λ y. Contains ((z ∷ g) ∷ map (λ g. z ∷ g) hs) (z ∷ y)) e
    (Contains-append_left ((z ∷ g) ∷ []) (map (λ g. z ∷ g) hs) (z ∷ g) (Contains-push [] (z ∷ g))))
    (Contains-push_cases [] g h one))
    (λ rest. Contains-append_right ((z ∷ g) ∷ []) (map (λ g. z ∷ g) hs) (z ∷ h) (in_map z hs h rest))
    (Contains-append_cases (g ∷ []) hs h has)

in_with_first : (zs : List Vector) (hs : List Bricks) (z : Vector) (h : Bricks) → Contains zs z → Contains hs h
    → Contains (with_first zs hs) (z ∷ h)
in_with_first [] hs z h has _ = let lt : has.0 < 0 = has.1 in absurd (omega (arith, lt))
in_with_first (y ∷ zs) hs z h has inside = ⊎_elim
    (λ one. ⊎_elim
    (λ none. let lt : none.0 < 0 = none.1 in absurd (omega (arith, lt)))
    (λ (e : y ≡ z). Contains-append_left (map (λ g. y ∷ g) hs) (with_first zs hs) (z ∷ h)
    (subst (λ v. Contains (map (λ g. y ∷ g) hs) (v ∷ h)) e (in_map y hs h inside)))
    (Contains-push_cases [] y z one))
    (λ rest. Contains-append_right (map (λ g. y ∷ g) hs) (with_first zs hs) (z ∷ h)
    (in_with_first zs hs z h rest inside))
    (Contains-append_cases (y ∷ []) zs z has)

-- a move of listed vectors is one of them
pub in_all_moves : (zs : List Vector) (h : Bricks) → All (Contains zs) h → Contains (all_moves zs (length h)) h
in_all_moves zs [] all = Contains-push [] []
in_all_moves zs (d ∷ h) all =
    in_with_first zs (all_moves zs (length h)) d h (All-head (Contains zs) d h all)
    (in_all_moves zs h (All-tail (Contains zs) d h all))

-- ---- the greatest gain

positive : (z : ℤ) → pos 0 <ℤ z → z ≡ pos (unsigned_abs z)
positive (pos n) lt = refl
positive (negsuc n) lt = absurd (omega (arith, ints, lt))

module _ (p : Program) (phase : Phase) (zs : List Vector) (x : Bricks) (k : ℕ) where
  abbrev Gaining : Bricks → Type 0
  Gaining h = Augments p phase zs x k h

  abbrev worth : Bricks → ℕ
  worth h = unsigned_abs (gain p phase x k h)

  -- the greatest gain of these moves
  abbrev IsTop : List Bricks → Option ℕ → Type 0
  IsTop hs None = All (λ h. Gaining h → ⊥) hs
  IsTop hs (Some g) = ((h : Bricks) × Gaining h × (gain p phase x k h ≡ pos g)) × All (λ h. Gaining h → worth h ≤ g) hs

  -- one move more, which gains nothing
  top_else : (h : Bricks) (hs : List Bricks) → (Gaining h → ⊥) → (g : Option ℕ) → IsTop hs g → IsTop (h ∷ hs) g
  top_else h hs not None top = All-cons (λ y. Gaining y → ⊥) h hs not top
  top_else h hs not (Some g) top = (top.0, All-cons (λ y. Gaining y → worth y ≤ g) h hs (λ a. absurd (not a)) top.1)

  -- one move more, which gains
  top_with : (h : Bricks) (hs : List Bricks) → Gaining h → (g : Option ℕ) → IsTop hs g →
      (g' : Option ℕ) × IsTop (h ∷ hs) g'
  top_with h hs a None top = (
    Some (worth h),
    (
      (h, a, positive (gain p phase x k h) a.lowers),
      All-cons (λ y. Gaining y → worth y ≤ worth h) h hs (λ _. le_refl _)
          (All-weaker (λ y. Gaining y → ⊥) (λ y. Gaining y → worth y ≤ worth h) (λ y none b. absurd (none b)) hs top),
    ),
  )
  top_with h hs a (Some g) top = ⊎_elim
      (λ t. (Some g, (top.0, All-cons (λ y. Gaining y → worth y ≤ g) h hs (λ _. t.1) top.1)))
      (λ t. (
        Some (worth h),
        (
          (h, a, positive (gain p phase x k h) a.lowers),
          All-cons (λ y. Gaining y → worth y ≤ worth h) h hs (λ _. le_refl _)
              (All-weaker (λ y. Gaining y → worth y ≤ g) (λ y. Gaining y → worth y ≤ worth h)
              (λ y most b. let m = most b in let lt = t.1 in omega (arith, m, lt)) hs top.1),
        ),
      ))
      (leb_tells (worth h) g)

  top_of : (hs : List Bricks) → (g : Option ℕ) × IsTop hs g
  top_of [] = (None, All-nil (λ h. Gaining h → ⊥))
  top_of (h ∷ hs) = let rest = top_of hs in ⊎_elim
      (λ a. top_with h hs a rest.0 rest.1)
      (λ not. (rest.0, top_else h hs not rest.0 rest.1))
      (decided_augments p phase zs x k h)

  -- a move that augments is one of them
  among : (h : Bricks) → Gaining h → Contains (all_moves zs (length x)) h
  among h a =
      subst (λ n. Contains (all_moves zs n) h) a.candidate.walk.size (in_all_moves zs h a.candidate.walk.moves)

  top_gain : (g : Option ℕ) → IsTop (all_moves zs (length x)) g → IsGain p phase zs x k g
  top_gain None top = λ h a. All-contains (λ y. Gaining y → ⊥) (all_moves zs (length x)) h top (among h a) a
  top_gain (Some g) top = (
    top.0,
    λ h a. All-contains (λ y. Gaining y → worth y ≤ g) (all_moves zs (length x)) h top.1
        (among h a) a,
  )

  pub has_gain : (g : Option ℕ) × IsGain p phase zs x k g
  has_gain = let top = top_of (all_moves zs (length x)) in (top.0, top_gain top.0 top.1)

  -- the gain of the length: the greatest one of all moves
  abbrev pub length_gain : Option ℕ
  length_gain = has_gain.0

  pub length_gain_is : IsGain p phase zs x k length_gain
  length_gain_is = has_gain.1
