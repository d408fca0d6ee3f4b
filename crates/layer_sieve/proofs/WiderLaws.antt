-- Bounds that widen, one after the other.
use Rattle.std.proofs.Common.{◌≡◌, ℕ, ◌+◌, ◌<◌, ◌≤◌, ℤ, ◌+ℤ◌, ◌-ℤ◌, List, length, refl, ap, arith, sym, ◌∙◌, Option}
use Rattle.std.proofs.Common.{Some, None, slice_get, subst, ◌⊎◌, inl, inr, set, get_or, option_map}
use Rattle.std.specs.Prelude.{IfSome, SomeIff}
use Rattle.std.proofs.lemmas.Bool.{cases_order}
use Rattle.std.proofs.lemmas.List.{length-set}
use Rattle.std.proofs.lemmas.Option.{slice_get_within, slice_get-map, slice_get-get_or}
use Rattle.lattice_theory.specs.Vectors.{Vector}
use Rattle.lattice_laws.proofs.Places.{same_value, if_some}
use Rattle.sieve_laws.specs.Sieve.{Layer, IsTop, AreTops, live, under}
use Rattle.sieve_laws.proofs.Cells.{slice_get-set_same, slice_get-set_other}
use Rattle.sieve_laws.proofs.Live.{live_size}
use Rattle.sieve_laws.proofs.Tops.{FallsLeast as LowFalls, FallsMost as TopFalls, top_wider}
use Rattle.layer_sieve.specs.Falls.{AreKept, FallsLeast, FallsMost, IsSpread, IsWider}

-- the first n bounds are wider, the others as they were
pub record AreWider (tops : List (Option ℤ)) (spread : Option ℤ) (now : List (Option ℤ)) (n : ℕ) : Type 0 where
  pub size : length now ≡ length tops
  pub done : (h : ℕ) (wide : ℤ) → h < n → slice_get now h ≡ Some (Some wide) →
      (top : Option ℤ) × (slice_get tops h ≡ Some top) × IsWider top spread wide
  pub rest : (h : ℕ) → n ≤ h → slice_get now h ≡ slice_get tops h

pub wider_none : (tops : List (Option ℤ)) (spread : Option ℤ) → AreWider tops spread tops 0
wider_none tops spread = record { size = refl; done = λ h wide low. absurd (omega (arith, low)); rest = λ h high. refl }

pub wider_more : (tops : List (Option ℤ)) (spread : Option ℤ) (now more : List (Option ℤ)) (n : ℕ)
    (top new : Option ℤ) → slice_get now n ≡ Some top →
    IfSome new (IsWider top spread) → more ≡ set now n new → AreWider tops spread now n →
    AreWider tops spread more (n + 1)
wider_more tops spread now more n top new here is_wider is so_far = record {
  size = ap length is ∙ length-set now n new ∙ so_far.size;
  done = λ h wide low there. by h wide low there (cases_order h n);
  rest = λ h high. ap (λ ts. slice_get ts h) is ∙ slice_get-set_other now n h new (λ e. omega (arith, high, e))
      ∙ so_far.rest h (omega (arith, high));
}
  where
    by : (h : ℕ) (wide : ℤ) → h < n + 1 → slice_get more h ≡ Some (Some wide) → (h ≡ n) ⊎ ((h < n) ⊎ (n < h)) →
        (top : Option ℤ) × (slice_get tops h ≡ Some top) × IsWider top spread wide
    by h wide low there (inl same) =
        let found : new ≡ Some wide =
        same_value (slice_get more n) new (Some wide)
        (ap (λ ts. slice_get ts n) is ∙ slice_get-set_same now n new (slice_get_within now n top here))
        (ap (slice_get more) (sym same) ∙ there) in (
          top,
          ap (slice_get tops) same ∙ sym (so_far.rest n (omega arith))
              ∙ here,
          if_some (IsWider top spread) new wide found is_wider,
        )
    by h wide low there (inr (inl before)) =
        so_far.done h wide before (sym (slice_get-set_other now n h new (λ e. omega (arith, before, e)))
        ∙ ap (λ ts. slice_get ts h) (sym is) ∙ there)
    by h wide low there (inr (inr behind)) = absurd (omega (arith, low, behind))

-- bounds that are wider by the spread of the falls are bounds over the layer
pub wider_all : (zs : List Vector) (limit : ℤ) (next layer : Layer) (tops now : List (Option ℤ)) (spread : Option ℤ)
    (n : ℕ) → length tops ≤ n → AreKept next layer →
    IfSome spread (IsSpread next limit layer) → AreTops zs (live limit next) next tops → AreWider tops spread now n →
    AreTops zs (live limit layer) layer now
wider_all zs limit next layer tops now spread n all kept is_spread are wider = record {
  size = wider.size ∙ are.size;
  each = λ h wide there.
      let low = slice_get_within now h (Some wide) there in
      let (top, before, (a, b, top_is, spread_is, wide_is)) =
      wider.done h wide (omega (arith, all, low, wider.size)) there in
      let (least, most, down, up, is) = if_some (IsSpread next limit layer) spread b spread_is is_spread in
      let bound = top_wider next layer zs limit h a least most (λ w c e inside. down w c e) (λ w c inside. up w c) kept
      (are.each h a (before ∙ ap Some top_is)) in
      subst (λ t. IsTop zs (live limit layer) layer h t) (sym (wide_is ∙ ap (λ s. a +ℤ s) is)) bound;
}

-- what a cell is of a layer's live ones
pub live_cell : (limit : ℤ) (layer : Layer) (j : ℕ) (o : Option ℤ) → j < length layer →
    o ≡ under limit (get_or layer j None) → slice_get (live limit layer) j ≡ Some o
live_cell limit layer j o low is =
    slice_get-map (under limit) layer j ∙ ap (option_map (under limit)) (slice_get-get_or layer j None low)
    ∙ ap Some (sym is)

-- what holds of all places up to the end holds of all
pub most_all : (next : Layer) (limit : ℤ) (layer : Layer) (most : ℤ) (n : ℕ) → length layer ≤ n →
    TopFalls next layer limit most n → FallsMost next limit layer most
most_all next limit layer most n all falls w a there =
    let low = slice_get_within (live limit layer) w (Some a) there in
    falls w a (omega (arith, all, low, live_size limit layer)) there

pub least_all : (next layer : Layer) (least : ℤ) (n : ℕ) → length layer ≤ n → LowFalls next layer least n →
    FallsLeast next layer least
least_all next layer least n all falls w b a before now =
    falls w b a (omega (arith, all, slice_get_within layer w (Some a) now)) before now

pub some_iff : (o : Option ℤ) (P : Type 0) (v x : ℤ) → SomeIff o P v → o ≡ Some x → x ≡ v
some_iff None P v x h e = absurd (cc)
some_iff (Some y) P v x h e = sym (same_value (Some y) y x refl e) ∙ h.1

pub spread_some : (o : Option ℤ) (P : Type 0) (next : Layer) (limit : ℤ) (layer : Layer) (least most : ℤ) →
    SomeIff o P (most -ℤ least) →
    FallsLeast next layer least → FallsMost next limit layer most → IfSome o (IsSpread next limit layer)
spread_some None P next limit layer least most h down up = tt
spread_some (Some y) P next limit layer least most h down up = (least, most, down, up, h.1)
