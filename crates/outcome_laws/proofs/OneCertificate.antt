-- An outcome has at most one certificate.
use Rattle.std.proofs.Common.{◌≡◌, ℕ, suc, ◌+◌, ℤ, List, [], ◌∷◌, length, map, get_or, Option, Some, None, slice_get}
use Rattle.std.proofs.Common.{refl, ap, arith, sym, ◌∙◌, subst}
use Rattle.std.proofs.lemmas.Int.{ints}
use Rattle.std.proofs.lemmas.Option.{slice_get_within, slice_get-get_or, get_or_from_slice_get}
use Rattle.std.proofs.lemmas.List.Elements.{All-contains}
use Rattle.fold_theory.specs.declared.Phase.{Phase}
use Rattle.fold_theory.specs.declared.Phase.TheVariants.{Closed, Counted}
use Rattle.fold_theory.specs.declared.Verdict.{Verdict}
use Rattle.fold_theory.specs.declared.Verdict.TheVariants.{Optimal, InfeasibleBrick, InfeasibleLink}
use Rattle.lattice_theory.specs.Vectors.{Vector}
use Rattle.lattice_theory.specs.Matrices.{Matrix}
use Rattle.lattice_theory.specs.SignedSums.{Sum, vectors}
use Rattle.lattice_laws.proofs.SlackBases.{slack_basis_unique}
use Rattle.fold_theory.specs.Programs.{Program, Bricks}
use Rattle.run_theory.specs.Links.{Bases, AreBases}
use Rattle.run_theory.specs.Walks.{IsPotential}
use Rattle.run_theory.specs.Certificates.{Certificate, FoldPart, Table}
use Rattle.run_theory.specs.Outcomes.{Outcome, ArePotentials, row_of_sum, IsFoldPart, matrix_of_bricks, IsCertificate}
use Rattle.outcome_laws.proofs.OneOutcome.{bases_unique, brick_sums_unique, saying}

-- lists of one length that have the same at each place are one list
same_places : {X : Type 0} (xs ys : List X) → length xs ≡ length ys →
    ((i : ℕ) (x y : X) → slice_get xs i ≡ Some x → slice_get ys i ≡ Some y → x ≡ y) → xs ≡ ys
same_places [] [] size each = refl
same_places [] (y ∷ ys) size each = absurd (omega arith)
same_places (x ∷ xs) [] size each = absurd (omega arith)
same_places (x ∷ xs) (y ∷ ys) size each =
    let here : x ≡ y = each 0 x y refl refl in
    let rest : xs ≡ ys = same_places xs ys (omega arith) (λ i u w. each (suc i) u w) in
    λ i. here i ∷ rest i

module _ (p : Program) (phase : Phase) where
  -- ---- potentials

  -- of two least costs each is at most the other
  potential_unique : (zs : List Vector) (x : Bricks) (k i : ℕ) (w : Vector) (c d : Option ℤ) →
      IsPotential p phase zs x k i w c → IsPotential p phase zs x k i w d → c ≡ d
  potential_unique zs x k i w None None first second = refl
  potential_unique zs x k i w None (Some b) first second = absurd (first second.0.0 b second.0.1)
  potential_unique zs x k i w (Some a) None first second = absurd (second first.0.0 a first.0.1)
  potential_unique zs x k i w (Some a) (Some b) first second =
      let low = first.1 second.0.0 b second.0.1 in
      let high = second.1 first.0.0 a first.0.1 in
      let same : a ≡ b = omega (arith, ints, low, high) in
      ap Some same

  module _ (zs : List Vector) (x : Bricks) where
    -- what a table has in a row at a place of the sums
    cell_is : (table : Table) → ArePotentials p phase zs x table → (i j : ℕ) (row : List (Option ℤ)) (cell : Option ℤ)
        (w : Vector) → slice_get table.rows i ≡ Some row → slice_get row j ≡ Some cell → slice_get zs j ≡ Some w →
        IsPotential p phase zs x 0 i w cell
    cell_is table are i j row cell w there at listed =
        let inside = slice_get_within table.rows i row there in
        let r = are.cells i j w (omega (arith, inside, are.height)) listed in
        let same_row : r.0 ≡ row = by_place (sym r.2 ∙ there) in
        let same_cell : r.1 ≡ cell = by_place (sym r.3 ∙ ap (λ u. slice_get u j) same_row ∙ at) in
        subst (IsPotential p phase zs x 0 i w) same_cell r.4
      where
        by_place : {X : Type 0} {a b : X} → Some a ≡ Some b → a ≡ b
        by_place e = cc

    row_size : (table : Table) → ArePotentials p phase zs x table → (i : ℕ) (row : List (Option ℤ)) →
        slice_get table.rows i ≡ Some row → length row ≡ length zs
    row_size table are i row there =
        All-contains (λ row. length row ≡ length zs) table.rows row are.each_row
        (i, slice_get_within table.rows i row there, get_or_from_slice_get table.rows i row row there)

    pub potentials_unique : (a b : Table) → ArePotentials p phase zs x a → ArePotentials p phase zs x b → a ≡ b
    potentials_unique a b first second =
        let cols : a.cols ≡ b.cols = first.width ∙ sym second.width in
        let rows : a.rows ≡ b.rows = same_places a.rows b.rows (first.height ∙ sym second.height) same_row in
        λ i. record { cols = cols i; rows = rows i }
      where
        same_row : (i : ℕ) (u w : List (Option ℤ)) → slice_get a.rows i ≡ Some u → slice_get b.rows i ≡ Some w → u ≡ w
        same_row i u w here there =
            let size = row_size a first i u here in
            same_places u w (size ∙ sym (row_size b second i w there)) (λ j c d at other.
            let listed = slice_get-get_or zs j [] (omega (arith, slice_get_within u j c at, size)) in
            potential_unique zs x 0 i (get_or zs j []) c d
            (cell_is a first i j u c (get_or zs j []) here at listed)
            (cell_is b second i j w d (get_or zs j []) there other listed))

  -- ---- the part about the linking rows

  fold_part_unique : (b : Bases) (x : Bricks) (f g : FoldPart) → IsFoldPart p phase b x f → IsFoldPart p phase b x g →
      f ≡ g
  fold_part_unique b x f g first second =
      let sums = brick_sums_unique p phase b first.sums second.sums first.sums_are second.sums_are in
      let links = first.links ∙ sym second.links in
      let bound = first.bound ∙ sym second.bound in
      let matrix : List Sum → Matrix = λ ss. record { cols = 1 + p.brick.cols; rows = map row_of_sum ss } in
      let rows = first.rows_are ∙ ap matrix sums ∙ sym second.rows_are in
      let table =
      potentials_unique (vectors second.sums) x f.potentials g.potentials
      (subst (λ ss. ArePotentials p phase (vectors ss) x f.potentials) sums first.potentials) second.potentials in
      λ i. record { links = links i; bound = bound i; sums = rows i; potentials = table i }

  -- the parts of the certificate that stand on bases are one, and so are the bricks
  pub parts_unique : (x : Bricks) (b c : Bases) (f g : FoldPart) → AreBases p b → AreBases p c →
      IsFoldPart p phase b x f → IsFoldPart p phase c x g →
      (matrix_of_bricks p b.brick ≡ matrix_of_bricks p c.brick) × (f ≡ g)
  parts_unique x b c f g bases others first second =
      let same : b ≡ c = bases_unique p b c bases others in (
        ap (λ (a : Bases). matrix_of_bricks p a.brick) same,
        fold_part_unique c x f g (subst (λ a. IsFoldPart p phase a x f) same first) second,
      )

-- ---- by the verdict

pub certificate_unique : (p : Program) (o : Outcome) (c d : Certificate) → IsCertificate p o c → IsCertificate p o d →
    c ≡ d
certificate_unique p o c d first second = by o.verdict first second
  where
    by : (v : Verdict) → IsCertificate p (saying p o v) c → IsCertificate p (saying p o v) d → c ≡ d
    by (InfeasibleBrick number residual) (point, (basis, slack, bricks, claim, fold))
        (point', (basis', slack', bricks', claim', fold')) =
        let same = slack_basis_unique p.brick basis basis' slack slack' in
        λ i. record {
          claim = (claim ∙ sym claim') i;
          point = (point ∙ sym point') i;
          bricks = (bricks ∙ ap (matrix_of_bricks p) same ∙ sym bricks') i;
          fold = (fold ∙ sym fold') i;
        }
    by (InfeasibleLink residual) (point, (b, f, bases, bricks, claim, fold, part))
        (point', (b', g, bases', bricks', claim', fold', part')) =
        let same = parts_unique p Counted o.point b b' f g bases bases' part part' in
        λ i. record {
          claim = (claim ∙ sym claim') i;
          point = (point ∙ sym point') i;
          bricks = (bricks ∙ same.0 ∙ sym bricks') i;
          fold = (fold ∙ ap Some same.1 ∙ sym fold') i;
        }
    by (Optimal value) (point, (b, f, bases, bricks, claim, fold, part))
        (point', (b', g, bases', bricks', claim', fold', part')) =
        let same = parts_unique p Closed o.point b b' f g bases bases' part part' in
        λ i. record {
          claim = (claim ∙ sym claim') i;
          point = (point ∙ sym point') i;
          bricks = (bricks ∙ same.0 ∙ sym bricks') i;
          fold = (fold ∙ ap Some same.1 ∙ sym fold') i;
        }
