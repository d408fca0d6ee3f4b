-- The definitions at values worked by hand.
use Rattle.std.proofs.Common.{◌≡◌, ◌-◌, ◌^◌, true, false, List, [], ◌∷◌, Some, refl, lit≤, arith}
use Rattle.fold_shelf.specs.declared.shelf.ShelfFault.TheVariants as shelf
use Rattle.fold_shelf.specs.declared.loading.LoadFault.TheVariants as loading
use Rattle.fold_shelf.specs.Outside.{File, file_named, Lacks, names_differ, without, load_fault, Rose}

-- the file 'a' with one byte, 'ab' with two, and another 'a' that is empty
abbrev pub a_file : File
a_file = record { name = 97 ∷ []; bytes = 7 ∷ [] }

abbrev pub ab_file : File
ab_file = record { name = 97 ∷ 98 ∷ []; bytes = 8 ∷ 9 ∷ [] }

abbrev pub other_a_file : File
other_a_file = record { name = 97 ∷ []; bytes = [] }

abbrev pub three_files : List File
three_files = ab_file ∷ a_file ∷ other_a_file ∷ []

-- the first of two files of the name counts
pub first_of_two : file_named three_files (97 ∷ []) ≡ Some (7 ∷ [])
first_of_two = refl

pub whole_name : file_named three_files (97 ∷ 98 ∷ []) ≡ Some (8 ∷ 9 ∷ [])
whole_name = refl

pub no_such_file : Lacks three_files (98 ∷ [])
no_such_file = refl

pub two_alike : names_differ three_files ≡ false
two_alike = refl

pub a_name_and_its_front : names_differ (a_file ∷ ab_file ∷ []) ≡ true
a_name_and_its_front = refl

pub all_of_that_name : without three_files (97 ∷ []) ≡ ab_file ∷ []
all_of_that_name = refl

pub missing_stays_missing : load_fault shelf.Missing ≡ loading.Missing
missing_stays_missing = refl

pub rose_by_one : Rose 3 4
rose_by_one = lit≤ tt

pub stands_at_its_end : Rose (2 ^ 64 - 1) (2 ^ 64 - 1)
stands_at_its_end = lit≤ tt

pub stands_before_its_end : Rose 3 3 → ⊥
stands_before_its_end rose = omega arith
