-- The words of the command line: which of the forms they are.
use Rattle.std.specs.Prelude.{ℕ, ◌≤◌, nat_eq, nat_le, Bool, true, false, ◌&&◌, ◌||◌, not, List, [], ◌∷◌, length}
use Rattle.std.specs.Prelude.{slice_index, cond, Option, Some, None, is_none, unwrap_or, IfSome, codes}
use Rattle.std.specs.Char.{is_ascii_alphanumeric}
use Rattle.std.specs.Cmp.Lexicographic.{pointwise}
use Rattle.std.specs.List.{list_all}
use Rattle.std.specs.Option.{option_map}
use Rattle.mat_files.specs.Tokens.{is_digits, digits_value}
use Rattle.nfold_cli.specs.declared.words.Form.{Form}
use Rattle.nfold_cli.specs.declared.words.Form.TheVariants.{Point, Graver, Solve, Check, Trial}
use Rattle.nfold_cli.specs.declared.words.SolveOptions.{SolveOptions}
use Rattle.nfold_cli.specs.declared.words.Options.{Options}

-- the bytes of one word
abbrev pub Word : Type 0
Word = List ℕ

-- a letter or digit of ASCII, or one of _ - . /
abbrev pub is_name_byte : ℕ → Bool
is_name_byte b = is_ascii_alphanumeric b || nat_eq b 95 || nat_eq b 45 || nat_eq b 46 || nat_eq b 47

-- 1 to 200 such bytes, the first of which is no dash
abbrev pub is_prefix : Word → Bool
is_prefix w = nat_le 1 (length w) && nat_le (length w) 200 && not (nat_eq (slice_index w 0) 45) && list_all is_name_byte
    w

-- the value of 1 to 9 digits, where it is from the one number to the other
abbrev pub number_within : ℕ → ℕ → Word → Option ℕ
number_within from to w =
    cond (is_digits w && nat_le (length w) 9 && nat_le from (digits_value w) && nat_le (digits_value w) to)
    (Some (digits_value w)) None

-- a form of the command line, with what it is about
pub data FormValue : Type 0 where
  PointForm : Word → Bool → FormValue
  GraverForm : Word → ℕ → FormValue
  SolveForm : Word → ℕ → SolveOptions → FormValue
  CheckForm : Word → Bool → FormValue
  TrialForm : ℕ → ℕ → FormValue

-- what a form of the code says
abbrev pub form_value : Form → FormValue
form_value (Point prefix relations) = PointForm prefix.now relations
form_value (Graver prefix limit) = GraverForm prefix.now limit
form_value (Solve prefix workers options) = SolveForm prefix.now workers options
form_value (Check prefix relations) = CheckForm prefix.now relations
form_value (Trial number bricks) = TrialForm number bricks

-- how many workers seek the steps of a solve
abbrev pub IsWorkerCount : ℕ → Type 0
IsWorkerCount workers = (1 ≤ workers) × (workers ≤ 16)

-- how many elements a slack basis may have
abbrev pub IsBasisLimit : ℕ → Type 0
IsBasisLimit limit = (1 ≤ limit) × (limit ≤ 2000)

-- how many brick sums there may be
abbrev pub IsSumLimit : ℕ → Type 0
IsSumLimit limit = (1 ≤ limit) × (limit ≤ 20000)

pub record HasSolveLimits (o : SolveOptions) : Type 0 where
  pub basis : IsBasisLimit o.basis
  pub sums : IsSumLimit o.sums

-- the number of a trial, and how many bricks it has
pub record IsTrial (number bricks : ℕ) : Type 0 where
  pub small : number ≤ 65535
  pub some : 1 ≤ bricks
  pub few : bricks ≤ 10000

-- the numbers in a form are in their ranges
abbrev pub HasLimits : Form → Type 0
HasLimits (Point prefix relations) = Unit {0}
HasLimits (Graver prefix limit) = IsBasisLimit limit
HasLimits (Solve prefix workers options) = IsWorkerCount workers × HasSolveLimits options
HasLimits (Check prefix relations) = Unit {0}
HasLimits (Trial number bricks) = IsTrial number bricks

-- the word is this one
abbrev pub is_word : Word → List ℕ → Bool
is_word w text = pointwise nat_eq w text

-- the numbers in the options are in their ranges
pub record AreInRange (o : Options) : Type 0 where
  pub workers : IfSome o.workers IsWorkerCount
  pub basis : IfSome o.basis IsBasisLimit
  pub sums : IfSome o.sums IsSumLimit

-- the options with this one, a word alone: `--rel` or `--trace`, where it is not there yet
abbrev pub with_flag : Options → Word → Option Options
with_flag o w =
    cond (is_word w (codes "--rel") && not o.relations) (Some (record o { relations = true }))
    (cond (is_word w (codes "--trace") && not o.trace) (Some (record o { trace = true })) None)

-- the options with this one, a word and its value, where it is not there yet: `--workers` with a number of 1 to 16,
-- `--max-basis` with one of 1 to 2,000, or `--max-sums` with one of 1 to 20,000
abbrev pub with_number : Options → Word → Word → Option Options
with_number o w v =
    cond (is_word w (codes "--workers") && is_none o.workers)
    (option_map (λ n. record o { workers = Some n }) (number_within 1 16 v))
    (cond (is_word w (codes "--max-basis") && is_none o.basis)
    (option_map (λ n. record o { basis = Some n }) (number_within 1 2000 v))
    (cond (is_word w (codes "--max-sums") && is_none o.sums)
    (option_map (λ n. record o { sums = Some n }) (number_within 1 20000 v)) None))

-- the options in these words, added to those before; each comes at most once
abbrev pub options_in : Options → List Word → Option Options
options_in o [] = Some o
options_in o (w ∷ []) = with_flag o w
options_in o (w ∷ v ∷ ws) =
    elim (with_flag o w) [
      | Some more ↦ options_in more (v ∷ ws)
      | None ↦ elim (with_number o w v) [ None ↦ None | Some more ↦ options_in more ws ]
    ]

-- no option
abbrev pub no_options : Options
no_options = record { workers = None; basis = None; sums = None; relations = false; trace = false }

-- no option but `--rel`
abbrev pub has_relations_at_most : Options → Bool
has_relations_at_most o = is_none o.workers && is_none o.basis && is_none o.sums && not o.trace

-- no option but `--max-basis`
abbrev pub has_a_basis_at_most : Options → Bool
has_a_basis_at_most o = is_none o.workers && is_none o.sums && not o.relations && not o.trace

-- what the options ask of a solve; a basis has at most 500 elements and there are at most 5,000 sums where no option
-- says it
abbrev pub of_a_solve : Options → SolveOptions
of_a_solve o = record {
  basis = unwrap_or o.basis 500;
  sums = unwrap_or o.sums 5000;
  relations = o.relations;
  trace = o.trace;
}

-- the form, where these options may stand in it
abbrev pub allowed : Bool → FormValue → Option FormValue
allowed may form = cond may (Some form) None

-- the form of a command with this prefix and these options: `point P [--rel]`, `graver M [--max-basis B]`,
-- `solve P [--workers W] [--max-basis B] [--max-sums Q] [--rel] [--trace]` and `check P [--rel]`; there is one worker,
-- and a basis has at most 500 elements, where no option says it
abbrev pub command_form : Word → Word → Options → Option FormValue
command_form command prefix o =
    cond (is_word command (codes "point")) (allowed (has_relations_at_most o) (PointForm prefix o.relations))
    (cond (is_word command (codes "graver"))
    (allowed (has_a_basis_at_most o) (GraverForm prefix (unwrap_or o.basis 500)))
    (cond (is_word command (codes "solve")) (Some (SolveForm prefix (unwrap_or o.workers 1) (of_a_solve o)))
    (cond (is_word command (codes "check")) (allowed (has_relations_at_most o) (CheckForm prefix o.relations)) None)))

abbrev pub form_with : Word → Word → Option Options → Option FormValue
form_with command prefix None = None
form_with command prefix (Some o) = command_form command prefix o

abbrev pub trial_with : Option ℕ → Option ℕ → Option FormValue
trial_with (Some number) (Some bricks) = Some (TrialForm number bricks)
trial_with number bricks = None

-- the form `trial NUMBER N`: a number of 0 to 65,535, and 1 to 10,000 bricks
abbrev pub trial_form : Word → List Word → Option FormValue
trial_form number [] = None
trial_form number (bricks ∷ []) = trial_with (number_within 0 65535 number) (number_within 1 10000 bricks)
trial_form number (bricks ∷ w ∷ ws) = None

-- the form that the words are: a command, a prefix and options, or a trial
abbrev pub form_of : List Word → Option FormValue
form_of [] = None
form_of (command ∷ []) = None
form_of (command ∷ word ∷ rest) =
    cond (is_word command (codes "trial")) (trial_form word rest)
    (cond (is_prefix word) (form_with command word (options_in no_options rest)) None)
