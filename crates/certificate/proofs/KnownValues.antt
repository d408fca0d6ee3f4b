-- The definitions at values worked by hand.
use Rattle.std.specs.Prelude.{◌≡◌, ℕ, ℤ, pos, neg_ℤ, List, [], ◌∷◌, ◌++◌, Option, Some, None, Result, Ok, Err, codes}
use Rattle.std.specs.Prelude.{refl}
use Rattle.std.specs.Fmt.{digits}
use Rattle.lattice_theory.specs.Vectors.{Vector}
use Rattle.lattice_theory.specs.Matrices.{Matrix}
use Rattle.run_theory.specs.declared.Claim.{Claim}
use Rattle.run_theory.specs.declared.Claim.TheVariants as claim
use Rattle.run_theory.specs.Certificates.{Certificate, FoldPart, Table, table_of}
use Rattle.certificate.specs.declared.fault.CertKind.{CertKind}
use Rattle.certificate.specs.declared.fault.CertKind.TheVariants as kind
use Rattle.certificate.specs.declared.fault.CertFault.{CertFault}
use Rattle.certificate.specs.CertificateText.{certificate_text, parsed_certificate}

-- a number below 0
abbrev minus : ℕ → ℤ
minus n = neg_ℤ (pos n)

abbrev matrix : ℕ → List Vector → Matrix
matrix cols rows = record { cols = cols; rows = rows }

abbrev certificate : Claim → Matrix → Matrix → Option FoldPart → Certificate
certificate claim point bricks fold = record { claim = claim; point = point; bricks = bricks; fold = fold }

-- the slack basis of one row of two ones
abbrev basis : Matrix
basis = matrix 3 ((pos 0 ∷ pos 1 ∷ pos 1 ∷ []) ∷ (pos 1 ∷ minus 1 ∷ pos 0 ∷ []) ∷ (pos 1 ∷ pos 0 ∷ pos 1 ∷ []) ∷ [])

-- a brick whose two variables are at most 4 cannot have the sum 9
abbrev stuck_brick : Certificate
stuck_brick = certificate (claim.InfeasibleBrick 1) (matrix 2 ((pos 4 ∷ pos 4 ∷ []) ∷ [])) basis None

abbrev stuck_text : List ℕ
stuck_text =
    codes "nfold-certificate 1\nclaim infeasible-brick 1\npoint\n1 2\n4 4\nbricks\n3 3\n0 1 1\n1 -1 0\n1 0 1\nend\n"

-- ---- printing

pub brick_printed : certificate_text stuck_brick ≡ stuck_text
unfolding digits
brick_printed = refl

-- two bricks of this kind, whose first variables have the sum 3
abbrev best_point : Matrix
best_point = matrix 2 ((pos 1 ∷ pos 3 ∷ []) ∷ (pos 2 ∷ pos 2 ∷ []) ∷ [])

abbrev best_fold : FoldPart
best_fold = record {
  links = matrix 2 ((pos 1 ∷ pos 1 ∷ []) ∷ []);
  bound = 2;
  sums = matrix 3 ((pos 2 ∷ minus 2 ∷ pos 2 ∷ []) ∷ (pos 1 ∷ minus 1 ∷ pos 1 ∷ []) ∷ (pos 0 ∷ pos 0 ∷ pos 0 ∷ [])
      ∷ (pos 1 ∷ pos 1 ∷ minus 1 ∷ []) ∷ (pos 2 ∷ pos 2 ∷ minus 2 ∷ []) ∷ []);
  potentials = record {
    cols = 5;
    rows = (Some (pos 8) ∷ Some (pos 3) ∷ Some (pos 0) ∷ Some (minus 3) ∷ Some (minus 4) ∷ [])
        ∷ (Some (pos 12) ∷ Some (pos 5) ∷ Some (pos 0) ∷ Some (minus 3) ∷ Some (minus 4) ∷ [])
        ∷ (None ∷ None ∷ Some (pos 0) ∷ None ∷ None ∷ []) ∷ [];
  };
}

-- what stands behind the claim
abbrev best_parts : List ℕ
best_parts =
    codes "point\n2 2\n1 3\n2 2\nbricks\n3 3\n0 1 1\n1 -1 0\n1 0 1\nlinks\n1 2\n1 1\nbound 2\n"
    ++ codes "sums\n5 3\n2 -2 2\n1 -1 1\n0 0 0\n1 1 -1\n2 2 -2\n"
    ++ codes "potentials\n3 5\n8 3 0 -3 -4\n12 5 0 -3 -4\nnone none 0 none none\nend\n"

pub best_printed : certificate_text (certificate claim.Optimal best_point basis (Some best_fold))
    ≡ codes "nfold-certificate 1\nclaim optimal\n" ++ best_parts
unfolding digits
best_printed = refl

pub link_printed : certificate_text (certificate claim.InfeasibleLink best_point basis (Some best_fold))
    ≡ codes "nfold-certificate 1\nclaim infeasible-link\n" ++ best_parts
unfolding digits
link_printed = refl

-- ---- reading

pub brick_read : parsed_certificate stuck_text ≡ Ok stuck_brick
brick_read = refl

pub best_read : parsed_certificate (codes "nfold-certificate 1\nclaim optimal\n" ++ best_parts)
    ≡ Ok (certificate claim.Optimal best_point basis (Some best_fold))
best_read = refl

pub link_read : parsed_certificate (codes "nfold-certificate 1\nclaim infeasible-link\n" ++ best_parts)
    ≡ Ok (certificate claim.InfeasibleLink best_point basis (Some best_fold))
link_read = refl

-- signs, leading zeros and other white space are accepted, and there may be no row
pub other_spelling : parsed_certificate
    (codes "\tnfold-certificate 1 claim infeasible-brick +010 point 1\t02 +4 -04 bricks 0 48 end")
    ≡ Ok (certificate (claim.InfeasibleBrick 10) (matrix 2 ((pos 4 ∷ minus 4 ∷ []) ∷ [])) (matrix 48 []) None)
other_spelling = refl

-- the largest numbers of their places
pub greatest : parsed_certificate
    (codes "nfold-certificate 1 claim infeasible-brick 10000 point 1 1 -4611686018427387904 bricks 1 1 2147483647 end")
    ≡ Ok (certificate (claim.InfeasibleBrick 10000) (matrix 1 ((minus 4611686018427387904 ∷ []) ∷ []))
    (matrix 1 ((pos 2147483647 ∷ []) ∷ [])) None)
greatest = refl

-- ---- faults

abbrev refused : ℕ → CertKind → Result Certificate CertFault
refused at kind = Err (record { at = at; kind = kind })

pub empty : parsed_certificate [] ≡ refused 0 kind.EndsEarly
empty = refl

pub extra : parsed_certificate (stuck_text ++ codes " x") ≡ refused 94 kind.Extra
extra = refl

-- the second word is fixed, and no number
pub first_line : parsed_certificate (codes "nfold-certificate 01 claim") ≡ refused 18 kind.Word
first_line = refl

-- what stands behind the word `claim`, which is followed by byte 26
abbrev claimed : List ℕ → Result Certificate CertFault
claimed rest = parsed_certificate (codes "nfold-certificate 1 claim " ++ rest)

pub other_claim : claimed (codes "feasible point") ≡ refused 26 kind.Word
other_claim = refl

-- a word that begins like the one that is wanted
pub longer_word : claimed (codes "infeasible-bricks 1") ≡ refused 26 kind.Word
longer_word = refl

pub brick_too_big : claimed (codes "infeasible-brick 10001") ≡ refused 43 kind.TooBig
brick_too_big = refl

pub no_count : claimed (codes "infeasible-brick -0") ≡ refused 43 kind.NotNumber
no_count = refl

-- what stands behind the claim, which is followed by byte 45
abbrev followed : List ℕ → Result Certificate CertFault
followed rest = claimed (codes "infeasible-brick 1 " ++ rest)

pub too_many_rows : followed (codes "point 10001 x") ≡ refused 51 kind.TooMany
too_many_rows = refl

pub too_many_columns : followed (codes "point 1 33") ≡ refused 53 kind.TooMany
too_many_columns = refl

-- however large the number is
pub far_too_many : followed (codes "point 1 100000000000000000000") ≡ refused 53 kind.TooMany
far_too_many = refl

pub star : followed (codes "point 1 1 *") ≡ refused 55 kind.NotNumber
star = refl

pub entry_too_big : followed (codes "point 1 1 4611686018427387905") ≡ refused 55 kind.TooBig
entry_too_big = refl

pub ends_early : followed (codes "point 1 2 4 ") ≡ refused 57 kind.EndsEarly
ends_early = refl

pub wide_element : followed (codes "point 0 1 bricks 1 1 -2147483648") ≡ refused 66 kind.TooBig
wide_element = refl

pub no_end : followed (codes "point 0 1 bricks 0 1 links") ≡ refused 66 kind.Word
no_end = refl

-- what stands behind the bricks of a claim on all bricks, which are followed by byte 55
abbrev linked : List ℕ → Result Certificate CertFault
linked rest = claimed (codes "optimal point 0 1 bricks 0 1 " ++ rest)

-- the parts stand in their order
pub no_links : linked (codes "bound 1") ≡ refused 55 kind.Word
no_links = refl

pub wide_entry : linked (codes "links 1 1 2147483648") ≡ refused 65 kind.TooBig
wide_entry = refl

pub too_wide : linked (codes "links 0 2017") ≡ refused 63 kind.TooMany
too_wide = refl

pub bound_too_big : linked (codes "links 0 1 bound 4611686018427387905") ≡ refused 71 kind.TooBig
bound_too_big = refl

-- a level is a count
pub negative_level : linked (codes "links 0 1 bound 1 sums 1 2 -1 0") ≡ refused 82 kind.NotNumber
negative_level = refl

pub level_too_big : linked (codes "links 0 1 bound 1 sums 1 2 4611686018427387905 0") ≡ refused 82 kind.TooBig
level_too_big = refl

pub sum_too_big : linked (codes "links 0 1 bound 1 sums 1 2 0 140737488355329") ≡ refused 84 kind.TooBig
sum_too_big = refl

pub no_sum : linked (codes "links 0 1 bound 1 sums 1 2 0 none") ≡ refused 84 kind.NotNumber
no_sum = refl

pub too_many_layers : linked (codes "links 0 1 bound 1 sums 0 2 potentials 10002 1") ≡ refused 93 kind.TooMany
too_many_layers = refl

-- 10,001 rows of 105 are more than 2 ^ 20
pub table_too_large : linked (codes "links 0 1 bound 1 sums 0 2 potentials 10001 105") ≡ refused 99 kind.TooMany
table_too_large = refl

pub no_potential : linked (codes "links 0 1 bound 1 sums 0 2 potentials 1 1 nine") ≡ refused 97 kind.NotNumber
no_potential = refl

pub potential_too_big : linked
    (codes "links 0 1 bound 1 sums 0 2 potentials 1 1 21267647932558653966460912964485513217")
    ≡ refused 97 kind.TooBig
potential_too_big = refl

pub second_end : linked (codes "links 0 1 bound 1 sums 0 2 potentials 0 1 end end") ≡ refused 101 kind.Extra
second_end = refl

-- a claim on one brick has no parts about the linking rows
pub brick_without_links : claimed (codes "infeasible-brick 1 point 0 1 bricks 0 1 links") ≡ refused 66 kind.Word
brick_without_links = refl

-- ---- tables

abbrev table : Table
table = table_of 2 2 (Some (pos 8) ∷ None ∷ None ∷ Some (minus 3) ∷ [])

pub by_rows : table.rows ≡ (Some (pos 8) ∷ None ∷ []) ∷ (None ∷ Some (minus 3) ∷ []) ∷ []
by_rows = refl
