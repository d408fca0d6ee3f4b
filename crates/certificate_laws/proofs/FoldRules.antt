-- The rules on all bricks hold of the certificate of a point that a run ends at.
use Rattle.std.proofs.Common.{◌≡◌, ℕ, ◌+◌, nat_eq, nat_lt, ℤ, Bool, true, ◌&&◌, List, [], ◌∷◌, length, map, drop}
use Rattle.std.proofs.Common.{Option, Some, None, refl, arith, sym, ◌∙◌, Contains, subst}
use Rattle.std.proofs.lemmas.List.{length-map}
use Rattle.std.proofs.lemmas.List.Elements.{recursion_from_All}
use Rattle.std.specs.List.{list_all, AllByRecursion}
use Rattle.std.proofs.lemmas.Bool.{and_from}
use Rattle.fold_theory.specs.declared.Phase.{Phase}
use Rattle.fold_theory.specs.declared.Phase.TheVariants.{Closed, Counted}
use Rattle.run_theory.specs.declared.Claim.{Claim}
use Rattle.lattice_theory.specs.Lists.{all_zip}
use Rattle.lattice_theory.specs.Vectors.{Vector, dot}
use Rattle.lattice_theory.specs.Matrices.{has_shape}
use Rattle.lattice_theory.specs.SignedSums.{Sum, vectors}
use Rattle.lattice_laws.proofs.Members.{contains_head, contains_tail}
use Rattle.fold_theory.specs.Programs.{Program, Bricks, IsBrick, IsProgram, IsWithin, is_within, brick_residual}
use Rattle.fold_theory.specs.Programs.{link_rests, link_miss}
use Rattle.run_theory.specs.Links.{Bases, AreBases, generators, links_of, fold_complexity}
use Rattle.run_theory.specs.Steps.{AllowsEnd}
use Rattle.run_theory.specs.Walks.{IsPotential}
use Rattle.run_theory.specs.BrickSums.{AreBrickSums}
use Rattle.run_theory.specs.Certificates.{Certificate, FoldPart, Table, listed_sums}
use Rattle.run_theory.specs.Outcomes.{ArePotentials, row_of_sum, matrix_of_bricks, point_matrix}
use Rattle.run_theory.specs.Checker.{point_fits, parts_fit, layers_hold, starts_at_zero, sums_are_closed, fold_rules}
use Rattle.run_theory.specs.Checker.{first_failing}
use Rattle.lattice_laws.specs.VectorLists.{AreSized}
use Rattle.lattice_laws.proofs.Tests.{nat_eq_of, nat_le_of}
use Rattle.piece_laws.proofs.Points.{points_sized}
use Rattle.piece_laws.proofs.Starts.{bricks_of}
use Rattle.certificate_laws.proofs.Passing.{all_zip_of, sized_of, has_shape_of, none_failing}
use Rattle.cover_laws.proofs.SlackBases.{slack_basis_complete}
use Rattle.fold_laws.proofs.Bounds.{is_within_of}
use Rattle.fold_laws.proofs.Points.{point-length}
use Rattle.certificate_laws.proofs.StuckBricks.{basis_sized}
use Rattle.certificate_laws.proofs.BrickSums.{IsStill, listed_still, sums_closed, zero_in, read_back}
use Rattle.certificate_laws.proofs.PhaseRuns.{IsDone}
use Rattle.certificate_laws.proofs.Potentials.{IsLeastWalk, LeastRows, AreCells, rows_of_cells, layers}
use Rattle.certificate_laws.proofs.Beginnings.{starts}

-- the parts of the certificate about the linking rows
abbrev pub fold_part : Program → Phase → Bases → List Sum → Table → FoldPart
fold_part p phase b sums table = record {
  links = record { cols = length (generators p b.brick) + length p.link.rows; rows = b.links };
  bound = fold_complexity p phase b;
  sums = record { cols = 1 + p.brick.cols; rows = map row_of_sum sums };
  potentials = table;
}

abbrev pub fold_certificate : Program → Claim → Bases → Bricks → FoldPart → Certificate
fold_certificate p k b x f = record {
  claim = k;
  point = point_matrix p x;
  bricks = matrix_of_bricks p b.brick;
  fold = Some f;
}

-- the rows of sums have one length
rows_sized : (t : ℕ) (sums : List Sum) → AreSized t (vectors sums) → AreSized (1 + t) (map row_of_sum sums)
rows_sized t [] sized = tt
rows_sized t (s ∷ sums) sized = (omega (arith, sized.0), rows_sized t sums sized.1)

rows_many : (sums : List Sum) → length (map row_of_sum sums) ≡ length (vectors sums)
rows_many [] = refl
rows_many (s ∷ sums) = omega (arith, rows_many sums)

each_sized : (t : ℕ) (ws : List Vector) → ((w : Vector) → Contains ws w → length w ≡ t) → AreSized t ws
each_sized t [] h = tt
each_sized t (w ∷ ws) h = (h w (contains_head w ws), each_sized t ws (λ v c. h v (contains_tail w ws v c)))

module _ (p : Program) (phase : Phase) (k : Claim) (b : Bases) (x : Bricks) (sums : List Sum) (table : Table)
    (program : IsProgram p) (bases : AreBases p b) (all : AreBrickSums p phase b sums)
    (potentials : ArePotentials p phase (vectors sums) x table) (done : IsDone p phase (vectors sums) x) where
  abbrev f : FoldPart
  f = fold_part p phase b sums table

  abbrev c : Certificate
  c = fold_certificate p k b x f

  abbrev t : ℕ
  t = p.brick.cols

  abbrev s : ℕ
  s = length p.brick.rows

  abbrev zs : List Vector
  zs = vectors sums

  bricks : AllByRecursion (IsBrick t s) p.bricks
  bricks = bricks_of p program

  still : (w : Vector) → Contains zs w → IsStill p.brick w
  still w listed = listed_still p.brick b.brick bases.brick (fold_complexity p phase b) sums all w listed

  sx : AreSized t x
  sx = points_sized t s p.bricks x bricks done.met.within

  many : length x ≡ length p.bricks
  many = point-length p.bricks x done.met.within

  -- ---- the sizes

  parts : parts_fit p c f ≡ true
  parts =
      let gens = generators p b.brick in
      let width = length gens + length p.link.rows in
      let points = has_shape (length p.bricks) t c.point in
      let members = has_shape (length b.brick) (t + s) c.bricks in
      let links = has_shape (length b.links) width f.links in
      let listed = has_shape (length f.sums.rows) (1 + t) f.sums in
      let high = nat_eq (length table.rows) (1 + length p.bricks) in
      let wide = nat_eq table.cols (length f.sums.rows) in
      let each = list_all (λ row. nat_eq (length row) (length f.sums.rows)) table.rows in
      let sized = each_sized t zs (λ w d. (still w d).size) in
      let points_fit = has_shape_of (length p.bricks) t x many sx in
      let members_fit =
      has_shape_of (length b.brick) (t + s) b.brick refl (basis_sized p.brick b.brick bases.brick) in
      let links_fit = has_shape_of (length b.links) width b.links refl (links_sized bases) in
      let listed_fit = has_shape_of (length f.sums.rows) (1 + t) f.sums.rows refl (rows_sized t sums sized) in
      let high_fits = nat_eq_of (length table.rows) (1 + length p.bricks) (omega (arith, potentials.height)) in
      let wide_fits = nat_eq_of table.cols (length f.sums.rows) (potentials.width ∙ sym (rows_many sums)) in
      let each_fits = sized_of (length f.sums.rows) table.rows row_sizes in
      and_from (points && members && links && listed && high && wide) each
      (and_from (points && members && links && listed && high) wide
      (and_from (points && members && links && listed) high
      (and_from (points && members && links) listed
      (and_from (points && members) links (and_from points members points_fit members_fit) links_fit) listed_fit)
      high_fits) wide_fits) each_fits
    where
      links_sized : AreBases p b → AreSized (length (generators p b.brick) + length p.link.rows) b.links
      links_sized is =
          subst (λ n. AreSized (length (generators p b.brick) + n) b.links)
          (length-map p.link.rows (λ row. map (dot row) (generators p b.brick)))
          (basis_sized (links_of p b.brick) b.links is.links)

      row_sizes : AllByRecursion (λ row. length row ≡ length f.sums.rows) table.rows
      row_sizes =
          subst (λ n. AllByRecursion (λ row. length row ≡ n) table.rows) (sym (rows_many sums))
          (recursion_from_All (λ row. length row ≡ length zs) table.rows potentials.each_row)

  -- ---- the point

  point : point_fits p phase x ≡ true
  point =
      let within = all_zip is_within p.bricks x in
      let meets = all_zip (λ a v. nat_eq (brick_residual p a v) 0) p.bricks x in
      let all_within = all_zip_of IsWithin is_within is_within_of p.bricks x done.met.within in
      let all_meet =
      all_zip_of (λ a v. brick_residual p a v ≡ 0) (λ a v. nat_eq (brick_residual p a v) 0)
      (λ a v e. nat_eq_of (brick_residual p a v) 0 e) p.bricks x done.met.rows in
      and_from (within && meets) (ends_test phase) (and_from within meets all_within all_meet) (by phase done.met.ends)
    where
      ends_test : Phase → Bool
      ends_test h = elim h [ Closed ↦ nat_eq (link_miss p (link_rests p x)) 0 | Counted ↦ true ]

      by : (h : Phase) → AllowsEnd p h x → ends_test h ≡ true
      by Closed e = nat_eq_of (link_miss p (link_rests p x)) 0 e
      by Counted e = refl

  -- ---- sums and potentials

  closed : sums_are_closed t (generators p b.brick) f.bound (listed_sums f) ≡ true
  closed =
      subst (λ us. sums_are_closed t (generators p b.brick) f.bound us ≡ true) (sym (read_back sums))
      (sums_closed t (generators p b.brick) f.bound sums all)

  cells : AreCells p phase zs (link_rests p x) p.bricks x table.rows
  cells i j w low e =
      let c = potentials.cells i j w low e in (c.0, c.1, c.2, c.3, least i w c.1 c.4)
    where
      least : (i : ℕ) (w : Vector) (cell : Option ℤ) → IsPotential p phase zs x 0 i w cell →
          IsLeastWalk p phase zs (link_rests p x) (drop i p.bricks) (drop i x) w cell
      least i w None h = h
      least i w (Some a) h = h

  rows : LeastRows p phase zs (link_rests p x) p.bricks x table.rows
  rows =
      rows_of_cells p phase zs (link_rests p x) p.bricks x table.rows many potentials.height
      (recursion_from_All (λ row. length row ≡ length zs) table.rows potentials.each_row) cells

  -- what the rule on potentials tests, over these sums
  abbrev potentials_hold : List Sum → Bool
  potentials_hold us =
      layers_hold p phase (vectors us) (link_rests p x) p.bricks x table.rows
      && starts_at_zero p (vectors us) table.rows

  held : potentials_hold (listed_sums f) ≡ true
  held =
      let rests = link_rests p x in
      let listed = zero_in t (generators p b.brick) (fold_complexity p phase b) sums all in
      subst (λ us. potentials_hold us ≡ true) (sym (read_back sums))
      (and_from (layers_hold p phase zs rests p.bricks x table.rows) (starts_at_zero p zs table.rows)
      (layers p phase zs rests p.bricks x table.rows rows)
      (starts p zs x s bricks still sx many phase done.none listed table.rows rows))

  -- each rule's test passes
  pub fold_rules_hold : elim phase [ Closed ↦ true | Counted ↦ nat_lt 0 (link_miss p (link_rests p x)) ] ≡ true →
      first_failing (fold_rules p phase c f) ≡ None
  fold_rules_hold misses =
      none_failing (fold_rules p phase c f) (
        and_from (parts_fit p c f) (point_fits p phase x) parts point,
        (
          slack_basis_complete p.brick b.brick bases.brick,
          (
            slack_basis_complete (links_of p b.brick) b.links bases.links,
            (
              nat_le_of (fold_complexity p phase b) (fold_complexity p phase b) (omega arith),
              (closed, (held, (misses, tt))),
            ),
          ),
        ),
      )
