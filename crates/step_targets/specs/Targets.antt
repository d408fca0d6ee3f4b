-- Where a step of one brick leads.
use Rattle.std.specs.Prelude.{◌≡◌, ℕ, ◌^◌, ℤ, pos, ◌≤ℤ◌, Option, MatchOption, Vec}
use Rattle.std.specs.List.{AllZip}
use Rattle.std.specs.declared.alloc.Global.{Global}
use Rattle.lattice_theory.specs.Vectors.{Vector, add, scale}

-- the vector after 2 ^ k times the move
abbrev pub after : ℕ → Vector → Vector → Vector
after k v d = add v (scale (pos (2 ^ k)) d)

-- the vector is within these bounds
abbrev pub AreBetween : Vector → Vector → Vector → Type 0
AreBetween lower upper v = AllZip ◌≤ℤ◌ lower v × AllZip ◌≤ℤ◌ v upper

-- the answer is this vector where it is within the bounds, and none where it is not
abbrev pub Leads : Vector → Vector → Vector → Option (Vec ℤ Global) → Type 0
Leads lower upper end result = MatchOption result (AreBetween lower upper end → ⊥) (λ v. AreBetween lower upper end
    × (v.items ≡ end))
