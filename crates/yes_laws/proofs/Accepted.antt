-- A certificate that breaks no rule shows what it claims.
use Rattle.std.proofs.Common.{◌≡◌, ◌<◌, ◌≤◌, nat_eq, nat_lt, ◌≤ℤ◌, Bool, true, ◌&&◌, List, [], ◌∷◌, length, Option}
use Rattle.std.proofs.Common.{Some, None, refl, arith, sym, ◌∙◌}
use Rattle.std.proofs.lemmas.Int.{ints}
use Rattle.std.specs.List.{AllZip, AllByRecursion}
use Rattle.fold_theory.specs.declared.Phase.{Phase}
use Rattle.fold_theory.specs.declared.Phase.TheVariants.{Closed, Counted}
use Rattle.run_theory.specs.declared.Claim.{Claim}
use Rattle.fold_theory.specs.declared.Verdict.TheVariants.{Optimal, InfeasibleLink}
use Rattle.lattice_theory.specs.Vectors.{Vector, sub}
use Rattle.lattice_theory.specs.Matrices.{product}
use Rattle.lattice_theory.specs.Lattices.{is_complete_for}
use Rattle.lattice_theory.specs.SignedSums.{vectors}
use Rattle.lattice_laws.proofs.Tests.{and_true, le_true, lt_true, nat_eq_true}
use Rattle.lattice_laws.proofs.Conformal.{norm_none}
use Rattle.lattice_laws.proofs.Products.{length-rows}
use Rattle.fold_theory.specs.Programs.{Program, Brick, Bricks, IsBrick, IsProgram, AreWithin, MeetsBrickRows, is_within}
use Rattle.fold_theory.specs.Programs.{brick_residual, link_rests, link_miss, cost, phase_cost}
use Rattle.run_theory.specs.Steps.{AllowsEnd}
use Rattle.run_theory.specs.Links.{complexity}
use Rattle.run_theory.specs.Certificates.{Certificate, FoldPart, listed_sums}
use Rattle.run_theory.specs.Checker.{layers_hold, starts_at_zero, sums_are_closed, point_fits, parts_fit, fold_rules}
use Rattle.run_theory.specs.Checker.{first_failing, listed_generators, listed_links, Accept, claimed_verdict}
use Rattle.fold_theory.specs.Verdicts.{Holds}
use Rattle.lattice_laws.proofs.Sums.{same_vector}
use Rattle.yes_laws.proofs.BrickMisses.{all_pass, accepted_holds}
use Rattle.yes_laws.proofs.ListedSums.{all_listed}
use Rattle.piece_laws.proofs.Least.{least}
use Rattle.lattice_theory.specs.Lists.{all_zip}
use Rattle.run_theory.specs.Starts.{IsStart}
use Rattle.fold_laws.proofs.Bounds.{all_within_true}
use Rattle.piece_laws.specs.Points.{forth}
use Rattle.piece_laws.specs.Pieces.{IsUnitStep}
use Rattle.piece_laws.proofs.Starts.{bricks_of}
use Rattle.piece_laws.proofs.Frames.{AreFrameLists, frame_of_lists}
use Rattle.yes_laws.proofs.Potentials.{no_unit_step_gains}
use Rattle.run_theory.specs.declared.Claim.TheVariants as claim

-- ---- what the rules say

-- the parts of the rules that the argument uses
record Rules (p : Program) (phase : Phase) (c : Certificate) (f : FoldPart) : Type 0 where
  point : point_fits p phase c.point.rows ≡ true
  bricks : is_complete_for p.brick c.bricks.rows ≡ true
  links : is_complete_for (listed_links p c) f.links.rows ≡ true
  light : complexity phase p.relations (listed_links p c) f.links.rows ≤ f.bound
  closed : sums_are_closed p.brick.cols (listed_generators p c) f.bound (listed_sums f) ≡ true
  layers : layers_hold p phase (vectors (listed_sums f)) (link_rests p c.point.rows) p.bricks c.point.rows
      f.potentials.rows ≡ true
  starts : starts_at_zero p (vectors (listed_sums f)) f.potentials.rows ≡ true
  misses : elim phase [ Closed ↦ true | Counted ↦ nat_lt 0 (link_miss p (link_rests p c.point.rows)) ] ≡ true

-- where none of the rules is the first to fail, each part holds
rules_say : (p : Program) (phase : Phase) (c : Certificate) (f : FoldPart) →
    first_failing (fold_rules p phase c f) ≡ None → Rules p phase c f
rules_say p phase c f nothing =
    let pass = all_pass (fold_rules p phase c f) nothing in
    let fits = and_true (parts_fit p c f) (point_fits p phase c.point.rows) pass.0 in
    let zs = vectors (listed_sums f) in
    let held = layers_hold p phase zs (link_rests p c.point.rows) p.bricks c.point.rows f.potentials.rows in
    let potentials = and_true held (starts_at_zero p zs f.potentials.rows) pass.1.1.1.1.1.0 in
    record {
      point = fits.1;
      bricks = pass.1.0;
      links = pass.1.1.0;
      light = le_true (complexity phase p.relations (listed_links p c) f.links.rows) f.bound pass.1.1.1.0;
      closed = pass.1.1.1.1.0;
      layers = potentials.0;
      starts = potentials.1;
      misses = pass.1.1.1.1.1.1.0;
    }

-- ---- the frame

-- the rules on lists, bound and sums give what pieces are found by
lists_of : (p : Program) (phase : Phase) (c : Certificate) (f : FoldPart) → Rules p phase c f →
    AreFrameLists p phase c.bricks.rows f.links.rows (vectors (listed_sums f)) f.bound
lists_of p phase c f rules = record {
  bricks_complete = rules.bricks;
  links_complete = rules.links;
  heavy = rules.light;
  sums = all_listed p.brick.cols (listed_generators p c) f.bound (listed_sums f) rules.closed;
}

-- ---- the point

module _ (p : Program) where
  abbrev residual_none : Brick → Vector → Bool
  residual_none b v = nat_eq (brick_residual p b v) 0

  meets_of : (bs : List Brick) (x : Bricks) → AllByRecursion (IsBrick p.brick.cols (length p.brick.rows)) bs →
      all_zip residual_none bs x ≡ true → AllZip (λ b v. product p.brick v ≡ b.right) bs x
  meets_of [] [] is passes = tt
  meets_of [] (v ∷ x) is passes = absurd (cc)
  meets_of (b ∷ bs) [] is passes = absurd (cc)
  meets_of (b ∷ bs) (v ∷ x) is passes =
      let q = and_true (residual_none b v) (all_zip residual_none bs x) passes in
      let none = nat_eq_true (brick_residual p b v) 0 q.0 in (
        same_vector (product p.brick v) b.right (length-rows p.brick.rows v ∙ sym is.0.right_size)
            (norm_none (sub b.right (product p.brick v)) none),
        meets_of bs x is.1 q.1,
      )

  -- by the rule on the point it is where the phase starts
  start_of : (phase : Phase) (x : Bricks) → IsProgram p → point_fits p phase x ≡ true → IsStart p phase x
  start_of phase x program passes =
      let last = and_true (all_zip is_within p.bricks x && all_zip residual_none p.bricks x) (ends_test phase) passes in
      let both = and_true (all_zip is_within p.bricks x) (all_zip residual_none p.bricks x) last.0 in
      record {
        within = all_within_true p.bricks x both.0;
        brick_rows = meets_of p.bricks x (bricks_of p program) both.1;
        end = by phase last.1;
      }
    where
      ends_test : Phase → Bool
      ends_test f = elim f [ Closed ↦ nat_eq (link_miss p (link_rests p x)) 0 | Counted ↦ true ]

      by : (f : Phase) → ends_test f ≡ true → AllowsEnd p f x
      by Closed passes = nat_eq_true (link_miss p (link_rests p x)) 0 passes
      by Counted passes = tt

-- ---- the verdicts

module _ (p : Program) (phase : Phase) (c : Certificate) (f : FoldPart) (program : IsProgram p)
    (rules : Rules p phase c f) where
  -- no unit step from the point of the certificate leads to a lower phase cost
  held : (h : Bricks) → IsUnitStep p phase (vectors (listed_sums f)) c.point.rows h →
      phase_cost p phase c.point.rows ≤ℤ phase_cost p phase (forth c.point.rows h)
  held h step =
      no_unit_step_gains p phase (vectors (listed_sums f)) c.point.rows f.potentials.rows program
      (start_of p phase c.point.rows program rules.point).within rules.layers rules.starts h step

  -- no point where the phase starts costs less than the point of the certificate
  shown_least : (y : Bricks) → IsStart p phase y → phase_cost p phase c.point.rows ≤ℤ phase_cost p phase y
  shown_least y start =
      least p phase (vectors (listed_sums f)) c.point.rows program (start_of p phase c.point.rows program rules.point)
      held (listed_generators p c) f.bound
      (frame_of_lists p phase c.bricks.rows f.links.rows (vectors (listed_sums f)) f.bound (lists_of p phase c f rules))
      y start

-- of the least cost
optimum : (p : Program) (c : Certificate) (f : FoldPart) → IsProgram p → Rules p Closed c f →
    Holds p (Optimal (cost p c.point.rows))
optimum p c f program rules =
    let x = c.point.rows in
    let start = start_of p Closed x program rules.point in
    record {
      reached = (x, record { within = start.within; brick_rows = start.brick_rows; link_rows = start.end }, refl);
      least = λ y feasible.
          shown_least p Closed c f program rules y
          (record { within = feasible.within; brick_rows = feasible.brick_rows; end = feasible.link_rows });
    }

-- of linking rows that cannot be met
link_miss_holds : (p : Program) (c : Certificate) (f : FoldPart) → IsProgram p → Rules p Counted c f →
    Holds p (InfeasibleLink (link_miss p (link_rests p c.point.rows)))
link_miss_holds p c f program rules = (
  record {
    above = above;
    reached = (x, start.within, start.brick_rows, refl);
    least = no_less;
  },
  λ y feasible.
      omega (arith, above, no_less y feasible.within feasible.brick_rows, feasible.link_rows),
)
  where
    x : Bricks
    x = c.point.rows

    start : IsStart p Counted x
    start = start_of p Counted x program rules.point

    above : 0 < link_miss p (link_rests p x)
    above = lt_true 0 (link_miss p (link_rests p x)) rules.misses

    no_less : (y : Bricks) → AreWithin p.bricks y → MeetsBrickRows p y →
        link_miss p (link_rests p x) ≤ link_miss p (link_rests p y)
    no_less y within meets =
        let other : IsStart p Counted y = record { within = within; brick_rows = meets; end = tt } in
        let low = shown_least p Counted c f program rules y other in
        omega (arith, ints, low)

-- the certificate with this claim and these parts about the linking rows
abbrev claiming : Certificate → Claim → Option FoldPart → Certificate
claiming c k o = record { claim = k; point = c.point; bricks = c.bricks; fold = o }

-- what a certificate claims that breaks no rule
pub yes_holds : (p : Program) (c : Certificate) → IsProgram p → Accept p c → Holds p (claimed_verdict p c)
yes_holds p c program accepted = by c.claim c.fold accepted
  where
    by : (k : Claim) (o : Option FoldPart) → Accept p (claiming c k o) → Holds p (claimed_verdict p (claiming c k o))
    by claim.Optimal None h = absurd (cc)
    by claim.Optimal (Some f) h = optimum p c f program (rules_say p Closed c f h)
    by claim.InfeasibleLink None h = absurd (cc)
    by claim.InfeasibleLink (Some f) h = link_miss_holds p c f program (rules_say p Counted c f h)
    by (claim.InfeasibleBrick i) o h = accepted_holds p (claiming c (claim.InfeasibleBrick i) o) i program refl h
