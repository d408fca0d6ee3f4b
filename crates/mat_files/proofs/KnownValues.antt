-- The definitions at values worked by hand.
use Rattle.std.specs.Prelude.{◌≡◌, ℕ, ◌^◌, ℤ, pos, neg_ℤ, List, [], ◌∷◌, Some, None, Result, Ok, Err, codes, refl}
use Rattle.std.specs.Fmt.{digits}
use Rattle.lattice_theory.specs.Vectors.{Vector}
use Rattle.lattice_theory.specs.Matrices.{Matrix}
use Rattle.mat_files.specs.declared.shape.Shape.{Shape}
use Rattle.mat_files.specs.declared.fault.MatFault.{MatFault}
use Rattle.mat_files.specs.declared.fault.MatFault.TheVariants as fault
use Rattle.mat_files.specs.declared.numbers.Spelled.TheVariants.{TooBig, Value}
use Rattle.mat_files.specs.Tokens.{Token, tokens, number_of, count_of, spelled}
use Rattle.mat_files.specs.MatrixText.{parsed_matrix, matrix_text}

-- a number below 0
abbrev minus : ℕ → ℤ
minus n = neg_ℤ (pos n)

-- ---- tokens and numbers

abbrev token : ℕ → List ℕ → Token
token n bytes = record { at = n; text = bytes }

pub two_tokens : tokens (codes " ab\tc\n") ≡ token 1 (codes "ab") ∷ token 4 (codes "c") ∷ []
two_tokens = refl

-- the bytes 9 to 13 and 32 are white space, and 8, 14 and 0 are not
pub white_bytes : tokens (8 ∷ 9 ∷ 14 ∷ 10 ∷ 0 ∷ 11 ∷ 12 ∷ 13 ∷ 32 ∷ [])
    ≡ token 0 (8 ∷ []) ∷ token 2 (14 ∷ []) ∷ token 4 (0 ∷ []) ∷ []
white_bytes = refl

pub no_token : tokens (codes " \n") ≡ []
no_token = refl

pub plus_three : number_of (codes "+3") ≡ Some (pos 3)
plus_three = refl

pub leading_zeros : number_of (codes "007") ≡ Some (pos 7)
leading_zeros = refl

pub minus_zero : number_of (codes "-0") ≡ Some (pos 0)
minus_zero = refl

pub two_signs : number_of (codes "+-1") ≡ None
two_signs = refl

pub sign_alone : number_of (codes "-") ≡ None
sign_alone = refl

pub with_exponent : number_of (codes "1e3") ≡ None
with_exponent = refl

-- the bytes beside the digits
pub beside_digits : number_of (codes "1/") ≡ None
beside_digits = refl

pub beside_digits_above : number_of (codes ":1") ≡ None
beside_digits_above = refl

pub no_minus_in_counts : count_of (codes "-1") ≡ None
no_minus_in_counts = refl

pub plus_in_counts : count_of (codes "+010") ≡ Some 10
plus_in_counts = refl

-- the value decides, whatever the number of digits
pub at_the_limit : spelled (2 ^ 62) (number_of (codes "-00000000000000000000000000000000000000004611686018427387904"))
    ≡ Value (minus 4611686018427387904)
at_the_limit = refl

pub past_the_limit : spelled (2 ^ 62) (number_of (codes "4611686018427387905")) ≡ TooBig
past_the_limit = refl

pub far_past_the_limit : spelled (2 ^ 62)
    (number_of (codes "1000000000000000000000000000000000000000000000000000000000000")) ≡ TooBig
far_past_the_limit = refl

-- ---- matrix files

-- up to 16 rows of so many columns
abbrev shaped : ℕ → ℕ → ℕ → Shape
shaped cols_from cols_to largest = record {
  rows_from = 0;
  rows_to = 16;
  cols_from = cols_from;
  cols_to = cols_to;
  largest = largest;
}

abbrev parsed : List ℕ → Result Matrix MatFault
parsed bytes = parsed_matrix (shaped 1 32 (2 ^ 31)) bytes

abbrev matrix : ℕ → List Vector → Matrix
matrix cols rows = record { cols = cols; rows = rows }

pub one_row : parsed (codes "1 2\n1 0\n") ≡ Ok (matrix 2 ((pos 1 ∷ pos 0 ∷ []) ∷ []))
one_row = refl

pub two_rows : parsed (codes "2\t+02 1\n-0 3 \n -4") ≡ Ok (matrix 2
    ((pos 1 ∷ pos 0 ∷ []) ∷ (pos 3 ∷ minus 4 ∷ []) ∷ []))
two_rows = refl

pub no_row : parsed (codes "0 2") ≡ Ok (matrix 2 [])
no_row = refl

pub no_column : parsed_matrix (shaped 0 32 1) (codes "2 0") ≡ Ok (matrix 0 ([] ∷ [] ∷ []))
no_column = refl

pub no_bound : parsed (codes "2 2\n0 *") ≡ Err (fault.NoBound 6)
no_bound = refl

pub ends_early : parsed (codes "1 2\n") ≡ Err (fault.EndsEarly 4)
ends_early = refl

pub empty_file : parsed [] ≡ Err (fault.EndsEarly 0)
empty_file = refl

pub extra : parsed (codes "1 2\n1 1 5") ≡ Err (fault.Extra 8)
extra = refl

-- whatever the token is
pub extra_star : parsed (codes "1 2\n1 1 *") ≡ Err (fault.Extra 8)
extra_star = refl

pub no_number : parsed (codes "1 2\n1 +-1") ≡ Err (fault.NotNumber 6)
no_number = refl

pub too_big : parsed_matrix (shaped 1 32 5) (codes "1 2\n-6 x") ≡ Err (fault.TooBig 4)
too_big = refl

pub at_most : parsed_matrix (shaped 1 32 5) (codes "1 1\n-5") ≡ Ok (matrix 1 ((minus 5 ∷ []) ∷ []))
at_most = refl

-- a size is first a number, then within 2 ^ 62, and then within its range
pub star_for_a_size : parsed (codes "*") ≡ Err (fault.NoBound 0)
star_for_a_size = refl

pub size_too_big : parsed (codes "4611686018427387905 2") ≡ Err (fault.TooBig 0)
size_too_big = refl

pub too_many_rows : parsed (codes "17 x") ≡ Err (fault.Shape 0 (pos 17) 0 16)
too_many_rows = refl

pub rows_below_zero : parsed (codes "-1") ≡ Err (fault.Shape 0 (minus 1) 0 16)
rows_below_zero = refl

pub too_few_columns : parsed (codes "2 0") ≡ Err (fault.Shape 2 (pos 0) 1 32)
too_few_columns = refl

pub printed : matrix_text (matrix 3 ((pos 1 ∷ minus 20 ∷ pos 0 ∷ []) ∷ (pos 7 ∷ pos 8 ∷ pos 9 ∷ []) ∷ []))
    ≡ codes "2 3\n1 -20 0\n7 8 9\n"
unfolding digits
printed = refl

pub printed_without_columns : matrix_text (matrix 0 ([] ∷ [] ∷ [])) ≡ codes "2 0\n\n\n"
unfolding digits
printed_without_columns = refl
