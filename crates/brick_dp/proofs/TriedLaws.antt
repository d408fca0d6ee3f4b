-- Live nodes at which moves were tried: those of one layer after those of the layers behind it.
use Rattle.std.proofs.Common.{◌≡◌, ℕ, suc, ◌+◌, ◌-◌, ◌*◌, ◌<◌, ◌≤◌, ◌^◌, ◌≤ℤ◌, unsigned_abs, ℤ, pos, ◌-ℤ◌, true, List}
use Rattle.std.proofs.Common.{[], ◌∷◌, ◌++◌, length, map, get_or, ap, arith, sym, ◌∙◌, Option, Some, slice_get, subst}
use Rattle.std.proofs.Common.{Contains, All, inl, inr}
use Rattle.std.proofs.Math.Nat.{mul-le-mul_right}
use Rattle.std.proofs.lemmas.List.{length-append, length-map}
use Rattle.std.proofs.lemmas.List.Elements.{All-append, All-map, All-weaker, All-nil, All-contains}
use Rattle.std.proofs.lemmas.List.Elements.{Contains-append_cases}
use Rattle.std.proofs.lemmas.Option.{slice_get-get_or, slice_get_within}
use Rattle.lattice_theory.specs.Vectors.{Vector, is_rising}
use Rattle.lattice_laws.proofs.Members.{mapped_from}
use Rattle.fold_theory.specs.declared.Phase.{Phase}
use Rattle.fold_theory.specs.Programs.{Program, Bricks}
use Rattle.run_theory.specs.declared.Key.{Key}
use Rattle.run_theory.specs.Live.{Node, IsLive, TriesLiveNodes, least_before}
use Rattle.run_theory.specs.Keys.{IsNoWorse}
use Rattle.run_theory.specs.Folds.{FoldValue}
use Rattle.lattice_theory.specs.SignedSums.{Sum, vectors}
use Rattle.fold_program.specs.Refusals.{total_magnitude}
use Rattle.sieve_laws.specs.Sieve.{Layer, IsAtMost}
use Rattle.sieve_laws.proofs.Lowering.{one_place}
use Rattle.gain_laws.proofs.Keys.{no_worse_through}
use Rattle.layer_sieve.specs.Tried.{AreDifferent, IsTried}
use Rattle.brick_dp.specs.Needs.{IsNeeded, HasHope, AreLayersUnder}
use Rattle.brick_dp.specs.Tables.{limit_at, IsLayer}
use Rattle.brick_dp.proofs.UnderLaws.{node_lives}

-- no element stands in the list twice
abbrev pub AreApart : {A : Type 0} → List A → Type 0
AreApart [] = Unit {0}
AreApart (a ∷ more) = (Contains more a → ⊥) × AreApart more

-- what is built like that holds of a list in which nothing stands twice
apart_holds : {A : Type 0} (P : List A → Type 0) → (Unit {0} → P []) →
    ((a : A) (more : List A) → (Contains more a → ⊥) → P more → P (a ∷ more)) →
    (all : List A) → AreApart all → P all
apart_holds P none add [] apart = none tt
apart_holds P none add (a ∷ more) apart = add a more apart.0 (apart_holds P none add more apart.1)

both : {A B : Type 0} → A → B → A × B
both a b = (a, b)

-- with what else holds of the list
list_with : {A : Type 0} (L P F : List A → Type 0) → (Unit {0} → P []) →
    ((a : A) (more : List A) → (Contains more a → ⊥) → P more → P (a ∷ more)) →
    (all : List A) → L all → AreApart all → F all → (xs : List A) × L xs × P xs × F xs
list_with L P F none add all first apart last = (all, first, apart_holds P none add all apart, last)

module _ (p : Program) (phase : Phase) (zs : List Vector) (x : Bricks) (k : ℕ) (bound : Option Key) where
  -- the moves so far are at most the number of sums for each of some live nodes, which lie behind layer i
  pub record TriedBehind (i moves : ℕ) : Type 0 where
    pub nodes : List Node
    pub live : All (λ n. IsLive p phase zs x k bound n.0 n.1) nodes
    pub behind : All (λ n. i < n.0) nodes
    pub apart : AreApart nodes
    pub few : moves ≤ length zs * length nodes

  pub tried_none : (i : ℕ) → TriedBehind i 0
  tried_none i = record {
    nodes = [];
    live = All-nil (λ n. IsLive p phase zs x k bound n.0 n.1);
    behind = All-nil (λ n. i < n.0);
    apart = tt;
    few = omega arith;
  }

  -- what lies behind a layer lies behind those before it
  pub tried_less : (i moves : ℕ) → TriedBehind i moves → (h : ℕ) → h ≤ i → TriedBehind h moves
  tried_less i moves tried h low = record {
    nodes = tried.nodes;
    live = tried.live;
    behind = λ m d under. omega (arith, low, tried.behind m d under);
    apart = tried.apart;
    few = tried.few;
  }

  pub tried_all : (i moves : ℕ) → TriedBehind i moves → TriesLiveNodes p phase zs x k bound moves
  tried_all i moves tried =
      list_with (All (λ n. IsLive p phase zs x k bound n.0 n.1)) _ (λ nodes. moves ≤ length zs * length nodes)
      (λ none. none) (λ n ns new rest. both new rest)
      tried.nodes tried.live tried.apart tried.few

  -- the node at a place of layer i
  abbrev node_at : ℕ → ℕ → Node
  node_at i j = (i, get_or zs j [])

  module _ (i : ℕ) (rising : is_rising zs ≡ true) where
    -- nodes at different places differ, and from those behind
    nodes_apart : (places : List ℕ) (nodes : List Node) → All (λ j. j < length zs) places → AreDifferent places →
        All (λ n. i < n.0) nodes → AreApart nodes →
        AreApart (map (node_at i) places ++ nodes)
    nodes_apart [] nodes low apart behind others = others
    nodes_apart (j ∷ places) nodes low apart behind others = (
      new,
      nodes_apart places nodes
          (λ m d less. low (suc m) d (omega (arith, less))) apart.1 behind others,
    )
      where
        read : (m : ℕ) → m < length zs → slice_get zs m ≡ Some (get_or zs m [])
        read m less = slice_get-get_or zs m [] less

        new : Contains (map (node_at i) places ++ nodes) (node_at i j) → ⊥
        new there = elim (Contains-append_cases (map (node_at i) places) nodes (node_at i j) there) [
          | inl here ↦
              let (m, stands, is) = mapped_from (node_at i) places (node_at i j) here in
              let vectors_same : get_or zs m [] ≡ get_or zs j [] = ap (λ (n : Node). n.1) is in
              let m_low = All-contains (λ j. j < length zs) places m
              (λ m d less. low (suc m) d (omega (arith, less))) stands in
              let same : m ≡ j =
              one_place zs rising m j (get_or zs j []) (read m m_low ∙ ap Some vectors_same)
              (read j (low 0 j (omega arith))) in
              apart.0 (subst (λ u. Contains places u) same stands)
          | inr after ↦
              let more = All-contains (λ n. i < n.0) nodes (node_at i j) behind after in
              omega (arith, more)
        ]

    -- the moves tried at live nodes of layer i come to those that were tried behind it
    pub tried_more : (before more few : ℕ) (places : List ℕ) → TriedBehind i before →
        All (λ j. j < length zs) places → AreDifferent places →
        All (λ j. IsLive p phase zs x k bound i (get_or zs j [])) places → more ≤ few * length places →
        few ≤ length zs → (h : ℕ) → h < i →
        TriedBehind h (before + more)
    tried_more before more few places tried low apart lives count short h less = record {
      nodes = map (node_at i) places ++ tried.nodes;
      live = All-append (λ n. IsLive p phase zs x k bound n.0 n.1) (map (node_at i) places) tried.nodes
          (All-map (λ n. IsLive p phase zs x k bound n.0 n.1) (node_at i) places lives) tried.live;
      behind = All-append (λ n. h < n.0) (map (node_at i) places) tried.nodes
          (All-map (λ n. h < n.0) (node_at i) places (λ m d under. less))
          (λ m d under. omega (arith, less, tried.behind m d under));
      apart = nodes_apart places tried.nodes low apart tried.behind tried.apart;
      few =
          let all : few * length places ≤ length zs * length places = mul-le-mul_right (length places) short in
          let size : length (map (node_at i) places ++ tried.nodes) ≡ length places + length tried.nodes =
          length-append (map (node_at i) places) tried.nodes ∙ ap (λ m. m + length tried.nodes)
          (length-map places (node_at i)) in
          let sum : length zs * (length places + length tried.nodes) ≡ length zs * length places + length zs * length
          tried.nodes = omega arith in
          subst (λ m. before + more ≤ length zs * m) (sym size) (omega (arith, sum, all, count, tried.few));
    }

-- what a layer's live cells were tried for
pub tried_layer : (f : FoldValue) (x : Bricks) (k i h : ℕ) (need limit : ℤ) (layer : Layer) (old new : Option Key)
    (before more few : ℕ) →
    is_rising (vectors f.sums) ≡ true → h < i → i ≤ length f.program.bricks → total_magnitude f.program ≤ 2 ^ 120 →
    unsigned_abs (least_before f.program f.phase (vectors f.sums) x k i) ≤ 2 ^ 122 → IsLayer f x k i need layer →
    IsNeeded k new need →
    IsNoWorse old new → limit ≡ limit_at f x k need i → few ≤ length (vectors f.sums) → IsTried few layer limit more →
    TriedBehind f.program f.phase (vectors f.sums) x k old i before →
    TriedBehind f.program f.phase (vectors f.sums) x k old h (before + more)
tried_layer f x k i h need limit layer old new before more few rising less inside most floor is needed better at
    short (places, apart, cells, count) tried =
    tried_more f.program f.phase zs x k old i rising before more few places tried
    (All-weaker (λ j. IsAtMost layer j limit) (λ j. j < length zs) low places cells) apart
    (All-weaker (λ j. IsAtMost layer j limit) (λ j. IsLive f.program f.phase zs x k old i (get_or zs j [])) lives
    places cells) count short h less
  where
    zs : List Vector
    zs = vectors f.sums

    low : (j : ℕ) → IsAtMost layer j limit → j < length zs
    low j (a, cell, _) = omega (arith, is.under.size, slice_get_within layer j (Some a) cell)

    lives : (j : ℕ) → IsAtMost layer j limit → IsLive f.program f.phase zs x k old i (get_or zs j [])
    lives j (a, cell, under) =
        node_lives f x k i need layer old new j (get_or zs j []) a (omega (arith, less)) inside most floor is needed
        better
        (slice_get-get_or zs j [] (low j (a, cell, under))) cell (subst (λ l. a ≤ℤ l) at under)

-- the moves of one more sweep over a brick
pub tried_next : (f : FoldValue) (x : Bricks) (k done : ℕ) (floor limit : ℤ) (layers : List Layer) (layer : Layer)
    (old bound now : Option Key)
    (start before after few : ℕ) → is_rising (vectors f.sums) ≡ true → done < length f.program.bricks →
    total_magnitude f.program ≤ 2 ^ 120 →
    unsigned_abs floor ≤ 2 ^ 122 → floor ≡ least_before f.program f.phase (vectors f.sums) x k
    (length f.program.bricks - done) →
    AreLayersUnder f x k (done + 1) bound layers → slice_get layers done ≡ Some layer → IsNoWorse old bound →
    IsNoWorse bound now →
    HasHope k now layer floor limit → few ≤ length f.sums → start ≤ before → before ≤ after →
    IsTried few layer limit (after - before) →
    TriedBehind f.program f.phase (vectors f.sums) x k old (length f.program.bricks - done) (before - start) →
    TriedBehind f.program f.phase (vectors f.sums) x k old (length f.program.bricks - (done + 1)) (after - start)
tried_next f x k done floor limit layers layer old bound now start before after few rising low most small lowest
    layers_are there so_far better
    (need, needed, is, _) short first second tried nodes =
    let n = length f.program.bricks in
    let layer_is = (layers_are now need better needed).each done layer there in
    let size : length (vectors f.sums) ≡ length f.sums = length-map {A = Sum} {B = Vector} f.sums (λ s. s.vector) in
    let all : (before - start) + (after - before) ≡ after - start = omega (arith, first, second) in
    subst (TriedBehind f.program f.phase (vectors f.sums) x k old (n - (done + 1))) all (
    tried_layer f x k (n - done) (n - (done + 1)) need limit layer old now (before - start) (after - before) few
    rising (omega (arith, low)) (omega arith) most
    (subst (λ (a : ℤ). unsigned_abs a ≤ 2 ^ 122) lowest small) layer_is needed
    (no_worse_through old bound now so_far better)
    (is ∙ ap (λ (a : ℤ). (pos 0 -ℤ need) -ℤ a) lowest) (omega (arith, short, size)) tried nodes
    )
