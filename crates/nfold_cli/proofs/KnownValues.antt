-- The definitions at values worked by hand.
use Rattle.std.specs.Prelude.{◌≡◌, false, true, List, [], ◌∷◌, ◌++◌, pos, neg_ℤ, Some, None, codes, replicate, refl}
use Rattle.std.specs.Fmt.{digits}
use Rattle.fold_theory.specs.declared.Broken.TheVariants.{Below, Above, BrickRow, LinkRow}
use Rattle.mat_files.specs.declared.fault.MatFault.TheVariants as mat
use Rattle.convex_costs.specs.declared.fault.CostFault.TheVariants as cost
use Rattle.nfold_cli.specs.Words.{Word, PointForm, GraverForm, SolveForm, CheckForm, TrialForm, form_of}
use Rattle.nfold_cli.specs.Texts.{point_text, at_byte, at_column, mat_fault_text, cost_fault_text, input_text}
use Rattle.nfold_cli.specs.Texts.{read_text}

-- ---- words

abbrev point_and : List Word → List Word
point_and rest = codes "point" ∷ rest

pub point_with_a_prefix : form_of (point_and (codes "a_-./Z9" ∷ [])) ≡ Some (PointForm (codes "a_-./Z9") false)
point_with_a_prefix = refl

pub no_words : form_of [] ≡ None
no_words = refl

pub no_prefix : form_of (point_and []) ≡ None
no_prefix = refl

pub empty_prefix : form_of (point_and ([] ∷ [])) ≡ None
empty_prefix = refl

pub dash_first : form_of (point_and (codes "-t" ∷ [])) ≡ None
dash_first = refl

pub two_prefixes : form_of (point_and (codes "t" ∷ codes "t" ∷ [])) ≡ None
two_prefixes = refl

abbrev graver_and : List Word → List Word
graver_and rest = codes "graver" ∷ codes "m" ∷ rest

pub graver_without_a_limit : form_of (graver_and []) ≡ Some (GraverForm (codes "m") 500)
graver_without_a_limit = refl

pub graver_with_a_limit : form_of (graver_and (codes "--max-basis" ∷ codes "0008" ∷ [])) ≡ Some
    (GraverForm (codes "m") 8)
graver_with_a_limit = refl

abbrev solve_and : List Word → List Word
solve_and rest = codes "solve" ∷ codes "t" ∷ rest

pub solve_without_options : form_of (solve_and []) ≡ Some
    (SolveForm (codes "t") 1 (record { basis = 500; sums = 5000; relations = false; trace = false }))
solve_without_options = refl

pub solve_with_all_options :
    form_of (solve_and (codes "--max-sums" ∷ codes "4" ∷ codes "--rel" ∷ codes "--workers" ∷ codes "3" ∷ codes
    "--max-basis" ∷ codes "07" ∷ codes "--trace" ∷ []))
    ≡ Some (SolveForm (codes "t") 3 (record { basis = 7; sums = 4; relations = true; trace = true }))
solve_with_all_options = refl

pub a_trace_is_no_number : form_of (solve_and (codes "--max-sums" ∷ codes "--trace" ∷ [])) ≡ None
a_trace_is_no_number = refl

pub too_many_sums : form_of (solve_and (codes "--max-sums" ∷ codes "20001" ∷ [])) ≡ None
too_many_sums = refl

pub no_trace_twice : form_of (solve_and (codes "--trace" ∷ codes "--trace" ∷ [])) ≡ None
no_trace_twice = refl

pub trial_of_two_bricks : form_of (codes "trial" ∷ codes "65535" ∷ codes "2" ∷ []) ≡ Some (TrialForm 65535 2)
trial_of_two_bricks = refl

pub no_brick : form_of (codes "trial" ∷ codes "1" ∷ codes "0" ∷ []) ≡ None
no_brick = refl

pub greatest_limit : form_of (graver_and (codes "--max-basis" ∷ codes "2000" ∷ [])) ≡ Some (GraverForm (codes "m") 2000)
greatest_limit = refl

pub limit_too_great : form_of (graver_and (codes "--max-basis" ∷ codes "2001" ∷ [])) ≡ None
limit_too_great = refl

pub limit_of_none : form_of (graver_and (codes "--max-basis" ∷ codes "0" ∷ [])) ≡ None
limit_of_none = refl

pub ten_digits : form_of (graver_and (codes "--max-basis" ∷ codes "0000000008" ∷ [])) ≡ None
ten_digits = refl

pub limit_with_a_sign : form_of (graver_and (codes "--max-basis" ∷ codes "+8" ∷ [])) ≡ None
limit_with_a_sign = refl

pub limit_without_a_value : form_of (graver_and (codes "--max-basis" ∷ [])) ≡ None
limit_without_a_value = refl

pub limit_twice : form_of (graver_and (codes "--max-basis" ∷ codes "8" ∷ codes "--max-basis" ∷ codes "8" ∷ [])) ≡ None
limit_twice = refl

pub graver_with_relations : form_of (graver_and (codes "--rel" ∷ [])) ≡ None
graver_with_relations = refl

abbrev rel : Word
rel = codes "--rel"

pub point_with_relations : form_of (point_and (codes "t" ∷ rel ∷ [])) ≡ Some (PointForm (codes "t") true)
point_with_relations = refl

pub relations_twice : form_of (point_and (codes "t" ∷ rel ∷ rel ∷ [])) ≡ None
relations_twice = refl

pub relations_before_the_prefix : form_of (point_and (rel ∷ codes "t" ∷ [])) ≡ None
relations_before_the_prefix = refl

pub point_with_a_limit : form_of (point_and (codes "t" ∷ rel ∷ codes "--max-basis" ∷ codes "8" ∷ [])) ≡ None
point_with_a_limit = refl

pub check_with_relations : form_of (codes "check" ∷ codes "t" ∷ rel ∷ []) ≡ Some (CheckForm (codes "t") true)
check_with_relations = refl

pub check_with_a_prefix : form_of (codes "check" ∷ codes "t" ∷ []) ≡ Some (CheckForm (codes "t") false)
check_with_a_prefix = refl

abbrev solve_by : List Word → List Word
solve_by rest = solve_and (codes "--workers" ∷ rest)

pub most_workers : form_of (solve_by (codes "16" ∷ [])) ≡ Some
    (SolveForm (codes "t") 16 (record { basis = 500; sums = 5000; relations = false; trace = false }))
most_workers = refl

pub no_worker : form_of (solve_by (codes "0" ∷ [])) ≡ None
no_worker = refl

pub too_many_workers : form_of (solve_by (codes "17" ∷ [])) ≡ None
too_many_workers = refl

pub workers_twice : form_of (solve_by (codes "2" ∷ codes "--workers" ∷ codes "2" ∷ [])) ≡ None
workers_twice = refl

pub workers_in_one_word : form_of (solve_and (codes "--workers=2" ∷ [])) ≡ None
workers_in_one_word = refl

pub graver_with_workers : form_of (graver_and (codes "--workers" ∷ codes "2" ∷ [])) ≡ None
graver_with_workers = refl

pub point_with_workers : form_of (point_and (codes "t" ∷ codes "--workers" ∷ codes "2" ∷ [])) ≡ None
point_with_workers = refl

pub another_case : form_of (codes "Point" ∷ codes "t" ∷ []) ≡ None
another_case = refl

pub two_hundred_bytes : form_of (point_and (replicate 200 116 ∷ [])) ≡ Some (PointForm (replicate 200 116) false)
two_hundred_bytes = refl

pub one_byte_too_many : form_of (point_and (replicate 201 116 ∷ [])) ≡ None
one_byte_too_many = refl

pub space_in_a_prefix : form_of (point_and (codes "t t" ∷ [])) ≡ None
space_in_a_prefix = refl

pub past_ascii : form_of (point_and ((116 ∷ 195 ∷ 164 ∷ []) ∷ [])) ≡ None
past_ascii = refl

-- ---- texts

pub feasible : point_text None (neg_ℤ (pos 12)) ≡ codes "feasible\ncost -12\n"
unfolding digits
feasible = refl

pub below : point_text (Some (Below 1 20)) (pos 0) ≡ codes "broken below brick 1 column 20\n"
unfolding digits
below = refl

pub above : point_text (Some (Above 3 2)) (pos 0) ≡ codes "broken above brick 3 column 2\n"
unfolding digits
above = refl

pub brick_row : point_text (Some (BrickRow 2 1)) (pos 0) ≡ codes "broken brick 2 row 1\n"
unfolding digits
brick_row = refl

pub link_row : point_text (Some (LinkRow 1)) (pos 0) ≡ codes "broken link row 1\n"
unfolding digits
link_row = refl

pub bound_missing : input_text (codes "t.lb") (mat_fault_text (mat.NoBound 6)) ≡ codes "input: t.lb: no-bound at 6\n"
unfolding digits
bound_missing = refl

pub mat_faults : mat_fault_text (mat.NotNumber 0) ++ mat_fault_text (mat.TooBig 1) ++ mat_fault_text (mat.EndsEarly 2)
    ++ mat_fault_text (mat.Extra 3) ++ mat_fault_text (mat.Shape 4 (pos 9) 0 8) ++ mat_fault_text mat.Memory
    ≡ codes "not-number at 0too-big at 1ends-early at 2extra at 3shape at 4"
unfolding digits
mat_faults = refl

pub slope_not_whole : input_text (codes "t.cost") (cost_fault_text 1 1 (cost.SlopeNotWhole 2)) ≡ codes
    "input: t.cost: slope-not-whole at brick 1 column 1 point 2\n"
unfolding digits
slope_not_whole = refl

pub cost_faults : cost_fault_text 1 2 (cost.NotRising 3) ++ cost_fault_text 4 5 (cost.NotConvex 0) ++ cost_fault_text 6
    7 cost.NotCovered ++ cost_fault_text 8 9 cost.TooLarge
    ≡ codes "not-rising at brick 1 column 2 point 3not-convex at brick 4 column 5 point 0"
    ++ codes "not-covered at brick 6 column 7too-large at brick 8 column 9"
unfolding digits
cost_faults = refl

pub crossed_bounds : input_text (codes "t.ub") (at_column (codes "crossed") 2 1) ≡ codes
    "input: t.ub: crossed at brick 2 column 1\n"
unfolding digits
crossed_bounds = refl

pub cost_syntax : input_text (codes "t.cost") (at_byte (codes "syntax") 17) ≡ codes "input: t.cost: syntax at 17\n"
unfolding digits
cost_syntax = refl

pub too_long : input_text (codes "t.rhs") (codes "too-long") ≡ codes "input: t.rhs: too-long\n"
too_long = refl

pub unreadable : read_text (codes "t.pt") ≡ codes "read: t.pt\n"
unreadable = refl
