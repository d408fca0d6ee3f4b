-- What a flag says that tells whether a layer was changed, and counts that rise by at most so much in each round.
use Rattle.std.proofs.Common.{◌≡◌, ℕ, ◌+◌, ◌*◌, ◌≤◌, ℤ, Bool, true, false, ◌||◌, get_or, ap, arith, sym, ◌∙◌, Option}
use Rattle.std.proofs.Common.{None, subst}
use Rattle.std.specs.Bool.{OnFalse}
use Rattle.std.proofs.Math.ListN.{set}
use Rattle.std.proofs.lemmas.List.{set-get_or}
use Rattle.sieve_laws.specs.Sieve.{Layer}

-- nothing was changed before, and nothing now
pub same_more : (before now : Bool) (first layer more : Layer) → OnFalse before (layer ≡ first) →
    OnFalse now (more ≡ layer) → OnFalse (before || now) (more ≡ first)
same_more true now first layer more so_far here = tt
same_more false true first layer more so_far here = tt
same_more false false first layer more so_far here = here ∙ so_far

-- a cell that is as it was leaves the layer as it was
pub same_cell : (now : Bool) (layer more : Layer) (n : ℕ) (cell : Option ℤ) → more ≡ set layer n cell →
    OnFalse now (cell ≡ get_or layer n None) → OnFalse now (more ≡ layer)
same_cell true layer more n cell is here = tt
same_cell false layer more n cell is here = is ∙ ap (set layer n) here ∙ set-get_or layer n None

pub same_kept : (before now : Bool) (first layer more : Layer) → now ≡ before → more ≡ layer →
    OnFalse before (layer ≡ first) → OnFalse now (more ≡ first)
same_kept before now first layer more flag is so_far =
    subst (λ b. OnFalse b (more ≡ first)) (sym flag) (subst (λ l. OnFalse before (l ≡ first)) (sym is) so_far)

pub same_told : (told now : Bool) (first more : Layer) → told ≡ now → OnFalse now (more ≡ first) →
    OnFalse told (more ≡ first)
same_told told now first more flag here = subst (λ b. OnFalse b (more ≡ first)) (sym flag) here

pub count_more : (a m n len i : ℕ) → m ≤ a + i * len → n ≤ m + len → n ≤ a + (i + 1) * len
count_more a m n len i so_far here = omega (arith, so_far, here)
