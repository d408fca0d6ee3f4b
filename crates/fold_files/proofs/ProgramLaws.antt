-- A program is read file by file: where one is refused, so is the program.
use Rattle.std.proofs.Common.{◌≡◌, ℕ, ◌+◌, ◌-◌, ◌*◌, ◌^◌, ◌<◌, ◌≤◌, unsigned_abs, Bool, true, List, length, Option}
use Rattle.std.proofs.Common.{Some, None, Result, Ok, Err, All, IsTrue, refl, eq-eqb, arith}
use Rattle.std.proofs.lemmas.Bool.{le-leb}
use Rattle.std.proofs.lemmas.List.Elements.{All-weaker}
use Rattle.lattice_theory.specs.Vectors.{Vector, is_bounded, IsBoundedRow}
use Rattle.lattice_theory.specs.Matrices.{Matrix}
use Rattle.lattice_theory.specs.BasisLimits.{IsNarrow}
use Rattle.fold_theory.specs.declared.Cost.{Cost}
use Rattle.fold_theory.specs.declared.Relation.{Relation}
use Rattle.fold_theory.specs.Programs.{Program, IsProgram}
use Rattle.convex_costs.specs.Bounds.{AreBounded}
use Rattle.fold_shelf.specs.Outside.{File, Folder, ForTold}
use Rattle.fold_files.proofs.ToldLaws.{ForTold-all}
use Rattle.mat_files.specs.Tokens.{and_then}
use Rattle.mat_files.specs.MatrixText.{Admits}
use Rattle.fold_program.specs.declared.Parts.{Parts}
use Rattle.fold_program.specs.declared.FileKind.{FileKind}
use Rattle.fold_program.specs.declared.FileKind.TheVariants as file
use Rattle.fold_program.specs.declared.ProgramFault.{ProgramFault}
use Rattle.fold_program.specs.declared.ProgramFault.TheVariants as program
use Rattle.fold_program.specs.Parts.{fold_of, program_of, related}
use Rattle.fold_program.specs.Refusals.{in_shape, first_misshaped, program_refusal}
use Rattle.fold_program.specs.Faults.{AreWithinLimits, IsProgramFault}
use Rattle.fold_files.specs.declared.fault.ReadFault.{ReadFault}
use Rattle.fold_files.specs.declared.fault.ReadFault.TheVariants as read
use Rattle.fold_files.specs.Reading.{shaped, exactly, matrix_of, relations_of, costs_of, as_program, program_in}
use Rattle.fold_files.specs.Faults.{whole_fault}
use Rattle.fold_files.specs.Causes.{IsReadCause, IsOfFile}
use Rattle.fold_files.proofs.FileLaws.{Differ, matrix_of_others, relations_of_others, costs_of_others}
use Rattle.fold_files.proofs.CauseLaws.{cause_first, cause_rest}

-- ---- what each file gives, after those before it

module _ (prefix : List ℕ) (asked : Bool) where
  abbrev pub link_of : List File → Result Matrix ReadFault
  link_of fs = matrix_of fs prefix file.Link (shaped 0 16 1 32 (2 ^ 31 - 1))

  abbrev pub brick_of : Matrix → List File → Result Matrix ReadFault
  brick_of link fs = matrix_of fs prefix file.Brick (shaped 0 16 link.cols link.cols (2 ^ 31 - 1))

  abbrev pub lower_of : Matrix → List File → Result Matrix ReadFault
  lower_of link fs = matrix_of fs prefix file.Lower (shaped 1 10000 link.cols link.cols (2 ^ 62))

  abbrev pub upper_of : Matrix → Matrix → List File → Result Matrix ReadFault
  upper_of link lower fs = matrix_of fs prefix file.Upper (exactly (length lower.rows) link.cols)

  abbrev pub right_of : Matrix → Matrix → Matrix → List File → Result Matrix ReadFault
  right_of link brick lower fs = matrix_of fs prefix file.Right
      (exactly 1 (length link.rows + length lower.rows * length brick.rows))

  abbrev pub relations_for : Matrix → List File → Result (List Relation) ReadFault
  relations_for link fs = relations_of fs prefix asked (length link.rows)

  abbrev pub costs_for : Matrix → Matrix → List File → Result (List Cost) ReadFault
  costs_for link lower fs = costs_of fs prefix (length lower.rows) link.cols

  -- the rest of reading, after the costs, the relations, and so on up to the first file
  abbrev pub with_costs : Matrix → Matrix → Matrix → Matrix → Matrix → List Relation → List Cost → List File
      → Result Program ReadFault
  with_costs link brick lower upper right relations costs fs =
      as_program (fold_of link brick lower upper right relations costs)

  abbrev pub with_relations : Matrix → Matrix → Matrix → Matrix → Matrix → List Relation → List File
      → Result Program ReadFault
  with_relations link brick lower upper right relations fs =
      and_then (costs_for link lower fs) (λ costs. with_costs link brick lower upper right relations costs fs)

  abbrev pub with_right : Matrix → Matrix → Matrix → Matrix → Matrix → List File → Result Program ReadFault
  with_right link brick lower upper right fs =
      and_then (relations_for link fs) (λ relations. with_relations link brick lower upper right relations fs)

  abbrev pub with_upper : Matrix → Matrix → Matrix → Matrix → List File → Result Program ReadFault
  with_upper link brick lower upper fs = and_then (right_of link brick lower fs)
      (λ right. with_right link brick lower upper right fs)

  abbrev pub with_lower : Matrix → Matrix → Matrix → List File → Result Program ReadFault
  with_lower link brick lower fs = and_then (upper_of link lower fs) (λ upper. with_upper link brick lower upper fs)

  abbrev pub with_brick : Matrix → Matrix → List File → Result Program ReadFault
  with_brick link brick fs = and_then (lower_of link fs) (λ lower. with_lower link brick lower fs)

  abbrev pub with_link : Matrix → List File → Result Program ReadFault
  with_link link fs = and_then (brick_of link fs) (λ brick. with_brick link brick fs)

-- ---- the first fault of one file is that of the program

module _ (before now : Folder) (prefix : List ℕ) (asked : Bool) (f : ReadFault) where
  -- the fault is the first one of all files
  abbrev pub OfProgram : Type 0
  OfProgram = IsReadCause (λ fs. program_in fs prefix asked) before now prefix f

  -- the fault is the first one of what is read here
  abbrev pub Of : {A : Type 0} → (List File → Result A ReadFault) → Type 0
  Of found = IsReadCause found before now prefix f

  abbrev pub Gives : {A : Type 0} → (List File → Result A ReadFault) → A → Type 0
  Gives found a = ForTold before.files (λ fs. found fs ≡ Ok a)

  module _ (link : Matrix) (link_read : Gives (link_of prefix asked) link) where
    past_link : (kind : FileKind) → Differ kind file.Link → IsOfFile kind f → Of (with_link prefix asked link)
        → OfProgram
    past_link kind differ same cause =
        cause_rest (link_of prefix asked) (with_link prefix asked) before now prefix kind link
        (record {
          told = link_read;
          others = λ fs. matrix_of_others fs prefix file.Link (shaped 0 16 1 32 (2 ^ 31 - 1))
              kind differ;
        }) f same cause

    pub brick_refused : IsOfFile file.Brick f → Of (brick_of prefix asked link) → OfProgram
    brick_refused same cause =
        past_link file.Brick refl same
        (cause_first (brick_of prefix asked link) (with_brick prefix asked link) before now prefix f cause)

    module _ (brick : Matrix) (brick_read : Gives (brick_of prefix asked link) brick) where
      past_brick : (kind : FileKind) → Differ kind file.Link → Differ kind file.Brick → IsOfFile kind f
          → Of (with_brick prefix asked link brick) → OfProgram
      past_brick kind link_differs differ same cause =
          past_link kind link_differs same
          (cause_rest (brick_of prefix asked link) (with_brick prefix asked link) before now prefix kind brick
          (record {
            told = brick_read;
            others = λ fs. matrix_of_others fs prefix file.Brick
                (shaped 0 16 link.cols link.cols (2 ^ 31 - 1)) kind differ;
          }) f same cause)

      pub lower_refused : IsOfFile file.Lower f → Of (lower_of prefix asked link) → OfProgram
      lower_refused same cause =
          past_brick file.Lower refl refl same
          (cause_first (lower_of prefix asked link) (with_lower prefix asked link brick) before now prefix f cause)

      module _ (lower : Matrix) (lower_read : Gives (lower_of prefix asked link) lower) where
        past_lower : (kind : FileKind) → Differ kind file.Link → Differ kind file.Brick → Differ kind file.Lower
            → IsOfFile kind f → Of (with_lower prefix asked link brick lower) → OfProgram
        past_lower kind link_differs brick_differs differ same cause =
            past_brick kind link_differs brick_differs same
            (cause_rest (lower_of prefix asked link) (with_lower prefix asked link brick) before now prefix kind lower
            (record {
              told = lower_read;
              others = λ fs. matrix_of_others fs prefix file.Lower
                  (shaped 1 10000 link.cols link.cols (2 ^ 62)) kind differ;
            }) f same cause)

        pub upper_refused : IsOfFile file.Upper f → Of (upper_of prefix asked link lower) → OfProgram
        upper_refused same cause =
            past_lower file.Upper refl refl refl same
            (cause_first (upper_of prefix asked link lower) (with_upper prefix asked link brick lower) before now prefix
            f cause)

        module _ (upper : Matrix) (upper_read : Gives (upper_of prefix asked link lower) upper) where
          past_upper : (kind : FileKind) → Differ kind file.Link → Differ kind file.Brick → Differ kind file.Lower
              → Differ kind file.Upper → IsOfFile kind f → Of (with_upper prefix asked link brick lower upper)
              → OfProgram
          past_upper kind link_differs brick_differs lower_differs differ same cause =
              past_lower kind link_differs brick_differs lower_differs same
              (cause_rest (upper_of prefix asked link lower) (with_upper prefix asked link brick lower) before now
              prefix kind upper
              (record {
                told = upper_read;
                others = λ fs. matrix_of_others fs prefix file.Upper
                    (exactly (length lower.rows) link.cols) kind differ;
              }) f same cause)

          pub right_refused : IsOfFile file.Right f → Of (right_of prefix asked link brick lower) → OfProgram
          right_refused same cause =
              past_upper file.Right refl refl refl refl same
              (cause_first (right_of prefix asked link brick lower) (with_right prefix asked link brick lower upper)
              before now prefix f cause)

          module _ (right : Matrix) (right_read : Gives (right_of prefix asked link brick lower) right) where
            past_right : (kind : FileKind) → Differ kind file.Link → Differ kind file.Brick → Differ kind file.Lower
                → Differ kind file.Upper → Differ kind file.Right → IsOfFile kind f
                → Of (with_right prefix asked link brick lower upper right) → OfProgram
            past_right kind link_differs brick_differs lower_differs upper_differs differ same cause =
                past_upper kind link_differs brick_differs lower_differs upper_differs same
                (cause_rest (right_of prefix asked link brick lower) (with_right prefix asked link brick lower upper)
                before now prefix kind right
                (record {
                  told = right_read;
                  others = λ fs. matrix_of_others fs prefix file.Right
                      (exactly 1 (length link.rows + length lower.rows * length brick.rows)) kind differ;
                }) f same cause)

            pub relations_refused : IsOfFile file.Relations f → Of (relations_for prefix asked link) → OfProgram
            relations_refused same cause =
                past_right file.Relations refl refl refl refl refl same
                (cause_first (relations_for prefix asked link)
                (with_relations prefix asked link brick lower upper right) before now prefix f cause)

            module _ (relations : List Relation) (relations_read : Gives (relations_for prefix asked link) relations)
              where
                past_relations : (kind : FileKind) → Differ kind file.Link → Differ kind file.Brick
                    → Differ kind file.Lower → Differ kind file.Upper → Differ kind file.Right
                    → Differ kind file.Relations → IsOfFile kind f
                    → Of (with_relations prefix asked link brick lower upper right relations) → OfProgram
                past_relations kind link_differs brick_differs lower_differs upper_differs right_differs differ same
                    cause
                    =
                    past_right kind link_differs brick_differs lower_differs upper_differs right_differs same
                    (cause_rest (relations_for prefix asked link)
                    (with_relations prefix asked link brick lower upper right) before now prefix kind relations
                    (record {
                      told = relations_read;
                      others =
                          λ fs. relations_of_others fs prefix kind asked (length link.rows) differ;
                    }) f same cause)

                pub cost_file_refused : IsOfFile file.Costs f → Of (costs_for prefix asked link lower) → OfProgram
                cost_file_refused same cause =
                    past_relations file.Costs refl refl refl refl refl refl same
                    (cause_first (costs_for prefix asked link lower)
                    (with_costs prefix asked link brick lower upper right relations) before now prefix f cause)

                -- a fault of the program as a whole is of no file, so not of this one either
                pub whole_refused : (costs : List Cost) → Gives (costs_for prefix asked link lower) costs
                    → IsOfFile file.Plain f → Of (with_costs prefix asked link brick lower upper right relations costs)
                    → OfProgram
                whole_refused costs costs_read same cause =
                    past_relations file.Plain refl refl refl refl refl refl same
                    (cause_rest (costs_for prefix asked link lower)
                    (with_costs prefix asked link brick lower upper right relations) before now prefix file.Plain
                    costs
                    (record {
                      told = costs_read;
                      others =
                          λ fs. costs_of_others fs prefix file.Plain (length lower.rows) link.cols refl;
                    }) f same cause)

-- what each file gives makes the program
pub program_read : (files : Option (List File)) (prefix : List ℕ) (asked : Bool) (link brick lower upper right : Matrix)
    (relations : List Relation) (costs : List Cost) (p : Program)
    → ForTold files (λ fs. link_of prefix asked fs ≡ Ok link)
    → ForTold files (λ fs. brick_of prefix asked link fs ≡ Ok brick)
    → ForTold files (λ fs. lower_of prefix asked link fs ≡ Ok lower)
    → ForTold files (λ fs. upper_of prefix asked link lower fs ≡ Ok upper)
    → ForTold files (λ fs. right_of prefix asked link brick lower fs ≡ Ok right)
    → ForTold files (λ fs. relations_for prefix asked link fs ≡ Ok relations)
    → ForTold files (λ fs. costs_for prefix asked link lower fs ≡ Ok costs)
    → as_program (fold_of link brick lower upper right relations costs) ≡ Ok p
    → ForTold files (λ fs. program_in fs prefix asked ≡ Ok p)
program_read None prefix asked link brick lower upper right relations costs p l b lo up r rs cs made = tt
program_read (Some fs) prefix asked link brick lower upper right relations costs p l b lo up r rs cs made =
    rw (l, b, lo, up, r, rs, cs) made

-- ---- the parts as they are read

-- each part has the shape that those before it ask for
pub record AreShaped (p : Parts) : Type 0 where
  pub link : Admits (shaped 0 16 1 32 (2 ^ 31 - 1)) p.link
  pub brick : Admits (shaped 0 16 p.link.cols p.link.cols (2 ^ 31 - 1)) p.brick
  pub lower : Admits (shaped 1 10000 p.link.cols p.link.cols (2 ^ 62)) p.lower
  pub upper : Admits (exactly (length p.lower.rows) p.link.cols) p.upper
  pub right : Admits (exactly 1 (length p.link.rows + length p.lower.rows * length p.brick.rows)) p.right
  pub costs : All AreBounded p.costs.items
  pub many : length p.costs.items ≡ length p.lower.rows * p.link.cols

narrow_rows : (rows : List Vector) → All (λ row. All (λ a. unsigned_abs a ≤ 2 ^ 31 - 1) row) rows → All IsNarrow rows
narrow_rows rows small =
    All-weaker (All (λ a. unsigned_abs a ≤ 2 ^ 31 - 1)) IsNarrow
    (λ row. All-weaker (λ a. unsigned_abs a ≤ 2 ^ 31 - 1) (λ a. unsigned_abs a < 2 ^ 31) (λ a s. omega arith) row)
    rows small

bounded_rows : (rows : List Vector) → All (λ row. All (λ a. unsigned_abs a ≤ 2 ^ 62) row) rows → All IsBoundedRow rows
bounded_rows rows small =
    All-weaker (All (λ a. unsigned_abs a ≤ 2 ^ 62)) IsBoundedRow
    (λ row. All-weaker (λ a. unsigned_abs a ≤ 2 ^ 62) (λ a. IsTrue (is_bounded a))
    (λ a s. le-leb (unsigned_abs a) (2 ^ 62) s) row) rows small

-- then the numbers are within their limits
pub within_limits : (p : Parts) → AreShaped p → AreWithinLimits p
within_limits p are = record {
  link = narrow_rows p.link.rows are.link.entries;
  brick = narrow_rows p.brick.rows are.brick.entries;
  lower = bounded_rows p.lower.rows are.lower.entries;
  upper = bounded_rows p.upper.rows are.upper.entries;
  right = bounded_rows p.right.rows are.right.entries;
  costs = are.costs;
}

in_shape_admits : (a b c d largest : ℕ) (m : Matrix) → Admits (shaped a b c d largest) m → in_shape a b c d m ≡ true
in_shape_admits a b c d largest m admits =
    rw (
      le-leb a (length m.rows) admits.least_rows,
      le-leb (length m.rows) b admits.most_rows,
      le-leb c m.cols admits.least_cols,
      le-leb m.cols d admits.most_cols,
    ) refl

-- and no part is misshaped
pub none_misshaped : (p : Parts) → AreShaped p → first_misshaped p ≡ None
none_misshaped p are =
    let t = p.link.cols in
    let n = length p.lower.rows in
    let wide = length p.link.rows + n * length p.brick.rows in
    rw (
      in_shape_admits 0 16 1 32 (2 ^ 31 - 1) p.link are.link,
      in_shape_admits 0 16 t t (2 ^ 31 - 1) p.brick are.brick,
      in_shape_admits 1 10000 t t (2 ^ 62) p.lower are.lower,
      in_shape_admits n n t t (2 ^ 62) p.upper are.upper,
      in_shape_admits 1 1 wide wide (2 ^ 62) p.right are.right,
      eq-eqb (length p.costs.items) (n * t) are.many,
    ) refl

refused_whole : (p : Program) (r : ProgramFault) → program_refusal p ≡ Some r → as_program p ≡ Err (read.Program r)
refused_whole p r is = rw (is, as_program) refl

stops_whole : (files : Option (List File)) (p : Program) (r : ProgramFault) → program_refusal p ≡ Some r →
    ForTold files (λ fs. as_program p ≡ Err (read.Program r))
stops_whole files p r refused = ForTold-all files _ (λ fs. refused_whole p r refused)

-- a program of which nothing is refused is given as it is
pub accepted_whole : (p : Program) → program_refusal p ≡ None → as_program p ≡ Ok p
accepted_whole p is = rw (is, as_program) refl

-- which is one with each list of relations
pub related_is_program : (relations : List Relation) (p : Program) → length relations ≡ length p.link.rows
    → IsProgram p →
    IsProgram (related relations p)
related_is_program relations p many is = record {
  link_shape = is.link_shape;
  brick_shape = is.brick_shape;
  right_size = is.right_size;
  relations_size = many;
  each_brick = is.each_brick;
}

-- a fault of parts that are shaped is one of the program as a whole
module _ (before now : Folder) (prefix : List ℕ) (relations : List Relation) (parts : Parts)
    (shaped : first_misshaped parts ≡ None) where
  pub program_refused : (fault : ProgramFault) → IsProgramFault parts fault →
      IsReadCause (λ fs. as_program (related relations (program_of parts))) before now prefix (whole_fault fault)
  program_refused (program.Shape kind) cause = absurd (cc)
  program_refused (program.CrossedBounds i j) cause =
      (tt, stops_whole before.files (related relations (program_of parts)) (program.CrossedBounds i j) cause.1)
  program_refused (program.Cost i j f) cause =
      (tt, stops_whole before.files (related relations (program_of parts)) (program.Cost i j f) cause.1)
  program_refused program.CostSumTooLarge cause =
      (tt, stops_whole before.files (related relations (program_of parts)) program.CostSumTooLarge cause.1)
  program_refused program.Memory cause = tt

-- and of no file
pub whole_of_no_file : (kind : FileKind) (fault : ProgramFault) → IsOfFile kind (whole_fault fault)
whole_of_no_file kind (program.Shape k) = tt
whole_of_no_file kind (program.CrossedBounds i j) = tt
whole_of_no_file kind (program.Cost i j f) = tt
whole_of_no_file kind program.CostSumTooLarge = tt
whole_of_no_file kind program.Memory = tt
