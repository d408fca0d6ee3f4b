-- The definitions at values worked by hand.
use Rattle.std.specs.Prelude.{◌≡◌, ℕ, ℤ, pos, neg_ℤ, true, false, List, [], ◌∷◌, Some, None, refl}
use Rattle.std.specs.declared.cmp.Ordering.TheVariants.{Less, Greater}
use Rattle.lattice_theory.specs.Vectors.{Vector, conforms, norm1, leads_positive, lex_cmp, is_rising, add, dot}
use Rattle.lattice_theory.specs.Vectors.{first_unbounded}
use Rattle.lattice_theory.specs.Matrices.{Matrix, rows_of, element}
use Rattle.lattice_theory.specs.Lattices.{is_complete_for, kernel, greatest_multiple}

-- a number below 0
abbrev pub minus : ℕ → ℤ
minus n = neg_ℤ (pos n)

abbrev pub two : ℤ → ℤ → Vector
two a b = a ∷ b ∷ []

abbrev pub three : ℤ → ℤ → ℤ → Vector
three a b c = a ∷ b ∷ c ∷ []

abbrev pub four : ℤ → ℤ → ℤ → ℤ → Vector
four a b c d = a ∷ b ∷ c ∷ d ∷ []

abbrev pub six : ℤ → ℤ → ℤ → ℤ → ℤ → ℤ → Vector
six a b c d e f = a ∷ b ∷ c ∷ d ∷ e ∷ f ∷ []

-- ---- vectors

pub below : conforms (three (pos 1) (pos 0) (minus 2)) (three (pos 1) (pos 7) (minus 3)) ≡ true
below = refl

pub other_sign : conforms (two (pos 1) (minus 1)) (two (pos 1) (pos 1)) ≡ false
other_sign = refl

pub larger : conforms (two (pos 2) (pos 0)) (two (pos 1) (pos 1)) ≡ false
larger = refl

pub other_length : conforms (two (pos 0) (pos 0)) (pos 0 ∷ []) ≡ false
other_length = refl

pub its_norm : norm1 (three (pos 1) (pos 0) (minus 2)) ≡ 3
its_norm = refl

pub leads : leads_positive (three (pos 0) (pos 1) (minus 2)) ≡ true
leads = refl

pub leads_not : leads_positive (three (pos 0) (minus 1) (pos 2)) ≡ false
leads_not = refl

pub zero_leads_not : leads_positive (two (pos 0) (pos 0)) ≡ false
zero_leads_not = refl

pub first_entry_decides : lex_cmp (two (minus 1) (pos 5)) (two (pos 0) (minus 5)) ≡ Less
first_entry_decides = refl

pub then_the_second : lex_cmp (two (pos 0) (pos 1)) (two (pos 0) (minus 1)) ≡ Greater
then_the_second = refl

pub not_twice : is_rising (two (pos 0) (pos 1) ∷ two (pos 0) (pos 1) ∷ []) ≡ false
not_twice = refl

pub its_product : dot (three (pos 1) (pos 2) (pos 1)) (three (pos 1) (minus 1) (pos 1)) ≡ pos 0
its_product = refl

pub its_sum : add (two (pos 1) (minus 1)) (two (pos 1) (pos 0)) ≡ two (pos 2) (minus 1)
its_sum = refl

pub at_the_limit : first_unbounded (two (pos 4611686018427387904) (minus 4611686018427387904)) ≡ None
at_the_limit = refl

pub past_the_limit : first_unbounded (two (pos 1) (minus 4611686018427387905)) ≡ Some 1
past_the_limit = refl

pub twice_below : greatest_multiple (three (pos 1) (pos 0) (minus 2)) (three (pos 3) (pos 1) (minus 5)) ≡ 2
twice_below = refl

-- ---- matrices and their slack bases

pub rows_in_order : rows_of 2 3 (six (pos 1) (pos 2) (pos 3) (pos 4) (pos 5) (pos 6)) ≡ three (pos 1) (pos 2) (pos 3)
    ∷ three (pos 4) (pos 5) (pos 6) ∷ []
rows_in_order = refl

abbrev pub matrix : ℕ → List Vector → Matrix
matrix cols rows = record { cols = cols; rows = rows }

pub with_its_image : element (matrix 2 (two (pos 1) (pos 1) ∷ [])) (two (pos 1) (minus 1)) ≡ three (pos 1) (minus 1)
    (pos 0)
with_its_image = refl

-- the row (1 1)
abbrev pub basis_11 : List Vector
basis_11 = three (pos 0) (pos 1) (pos 1) ∷ three (pos 1) (minus 1) (pos 0) ∷ three (pos 1) (pos 0) (pos 1) ∷ []

pub complete_11 : is_complete_for (matrix 2 (two (pos 1) (pos 1) ∷ [])) basis_11 ≡ true
complete_11 = refl

-- without its member in the kernel it is not
pub incomplete_11 : is_complete_for (matrix 2 (two (pos 1) (pos 1) ∷ [])) (three (pos 0) (pos 1) (pos 1)
    ∷ three (pos 1) (pos 0) (pos 1) ∷ []) ≡ false
incomplete_11 = refl

pub kernel_11 : kernel 2 basis_11 ≡ two (pos 1) (minus 1) ∷ []
kernel_11 = refl

-- no row: the unit vectors
pub complete_without_rows : is_complete_for (matrix 2 []) (two (pos 0) (pos 1) ∷ two (pos 1) (pos 0) ∷ []) ≡ true
complete_without_rows = refl

-- the row (1 2 1): nine elements, of which four are in the kernel
abbrev pub basis_121 : List Vector
basis_121 =
    four (pos 0) (pos 0) (pos 1) (pos 1) ∷ four (pos 0) (pos 1) (minus 2) (pos 0)
    ∷ four (pos 0) (pos 1) (minus 1) (pos 1)
    ∷ four (pos 0) (pos 1) (pos 0) (pos 2) ∷ four (pos 1) (minus 1) (pos 0) (minus 1)
    ∷ four (pos 1) (minus 1) (pos 1) (pos 0)
    ∷ four (pos 1) (pos 0) (minus 1) (pos 0) ∷ four (pos 1) (pos 0) (pos 0) (pos 1)
    ∷ four (pos 2) (minus 1) (pos 0) (pos 0) ∷ []

pub complete_121 : is_complete_for (matrix 3 (three (pos 1) (pos 2) (pos 1) ∷ [])) basis_121 ≡ true
complete_121 = refl

pub kernel_121 : kernel 3 basis_121 ≡ three (pos 0) (pos 1) (minus 2) ∷ three (pos 1) (minus 1) (pos 1)
    ∷ three (pos 1) (pos 0) (minus 1) ∷ three (pos 2) (minus 1) (pos 0) ∷ []
kernel_121 = refl
