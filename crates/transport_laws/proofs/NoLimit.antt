-- A transport program passes no limit, since all bases and sums of it are known.
use Rattle.std.proofs.Common.{◌≡◌, ℕ, ◌+◌, ◌*◌, ◌^◌, ◌<◌, ◌≤◌, unsigned_abs, nat_lt, Bool, true, List, length, refl}
use Rattle.std.proofs.Common.{arith, ◌∙◌, subst}
use Rattle.std.specs.List.{All, list_all}
use Rattle.std.proofs.lemmas.List.{length-map}
use Rattle.std.proofs.lemmas.List.Elements.{All-map, All-weaker}
use Rattle.std.proofs.Math.Nat.{mul-le-mul_left}
use Rattle.std.proofs.lemmas.List.Sums.{AllPass-from_list_all}
use Rattle.fold_theory.specs.declared.Phase.{Phase}
use Rattle.run_theory.specs.declared.SolveFault.{SolveFault}
use Rattle.run_theory.specs.declared.SolveFault.TheVariants.{BrickBasis, LinkEntry, LinkBasis, Sums, Table, Memory}
use Rattle.lattice_theory.specs.Vectors.{Vector}
use Rattle.lattice_theory.specs.Lattices.{IsSlackBasis}
use Rattle.lattice_theory.specs.BasisLimits.{IsNarrow, ExceedsBasis, IsBasisWithin}
use Rattle.lattice_theory.specs.SignedSums.{Sum, HasLevel, AreSums, ExceedsSumsOf, vectors}
use Rattle.lattice_laws.proofs.Tests.{lt_true}
use Rattle.lattice_laws.proofs.SlackBases.{slack_basis_unique, within_or_exceeds}
use Rattle.fold_theory.specs.Programs.{Program, Bricks}
use Rattle.run_theory.specs.Links.{Bases, links_of}
use Rattle.run_theory.specs.BrickSums.{AreBrickSums, ExceedsSums}
use Rattle.run_theory.specs.Limits.{Caps, IsFirstWide, LinkStageWithin, IsLimit}
use Rattle.outcome_laws.proofs.OneLimit.{no_wide_in_narrow}
use Rattle.run_theory.proofs.KnownValues.{supplier_basis, supplier_link_basis}
use Rattle.fold_gen.specs.Draws.{customers}
use Rattle.fold_gen.specs.Transports.{shares, brick_of, transport}
use Rattle.fold_gen.proofs.DrawLaws.{length-customers}
use Rattle.transport_laws.proofs.SupplierBases.{bricks_slack, columns, links_slack, supplier_bases, brick_basis_is}
use Rattle.transport_laws.proofs.SupplierBases.{complexity_is}
use Rattle.transport_laws.proofs.SupplierSums.{gens, IsSumOfThree, at_most_thirty_seven}

-- ---- narrow entries

abbrev is_narrow : Vector → Bool
is_narrow v = list_all (λ a. nat_lt (unsigned_abs a) (2 ^ 31)) v

narrow : (v : Vector) → is_narrow v ≡ true → IsNarrow v
narrow v passes =
    All-weaker (λ a. nat_lt (unsigned_abs a) (2 ^ 31) ≡ true) (λ a. unsigned_abs a < 2 ^ 31)
    (λ a low. lt_true (unsigned_abs a) (2 ^ 31) low) v
    (AllPass-from_list_all (λ a. nat_lt (unsigned_abs a) (2 ^ 31)) v passes)

all_narrow : (vs : List Vector) → list_all is_narrow vs ≡ true → All IsNarrow vs
all_narrow vs passes =
    All-weaker (λ v. is_narrow v ≡ true) IsNarrow narrow vs (AllPass-from_list_all is_narrow vs passes)

-- ---- the bases are within

six_within : (limit : ℕ) → 7 ≤ limit → IsBasisWithin shares limit supplier_basis
six_within limit room = record {
  slack = bricks_slack;
  short = omega (arith, room);
  narrow = all_narrow supplier_basis refl;
}

seven_within : (limit : ℕ) → 7 ≤ limit → IsBasisWithin columns limit supplier_link_basis
seven_within limit room = record {
  slack = links_slack;
  short = omega (arith, room);
  narrow = all_narrow supplier_link_basis refl;
}

-- ---- the sums are few

-- a list of all sums of a phase
listed_sums : (sums : List Sum) → AreSums 3 gens 3 sums → length sums ≤ 37
listed_sums sums are =
    let each =
    All-map IsSumOfThree (λ (s : Sum). s.vector) sums
    (All-weaker (λ (s : Sum). (s.level ≤ 3) × HasLevel 3 gens s) (λ (s : Sum). IsSumOfThree s.vector)
    (λ s is. (s.level, is.0, is.1.reached)) sums are.sound) in
    omega (arith, at_most_thirty_seven (vectors sums) are.rising each, length-map sums (λ (s : Sum). s.vector))

never_many : (most : ℕ) → 37 ≤ most → ExceedsSumsOf 3 gens 3 most → ⊥
never_many most room (zs, rising, many, each) = omega (arith, room, many, at_most_thirty_seven zs rising each)

-- ---- no limit

-- so many rows of so few cells
small_table : (n s : ℕ) → n ≤ 10000 → s ≤ 37 → 2 ^ 20 < (n + 1) * s → ⊥
small_table n s few low large =
    let rows : (n + 1) * s ≤ (n + 1) * 37 = mul-le-mul_left (n + 1) low in
    omega (arith, few, rows, large)

module _ (number bricks : ℕ) (c : Caps) (few : bricks ≤ 10000) (basis_room : 7 ≤ c.basis)
    (sums_room : 37 ≤ c.sums) where
  abbrev p : Program
  p = transport number bricks

  -- the bases of a stage
  bases_are : (b : Bases) (x : Bricks) → LinkStageWithin p c b x → b ≡ supplier_bases
  bases_are b x stage =
      let brick = brick_basis_is b.brick stage.bricks.within.slack in
      let links =
      slack_basis_unique columns b.links supplier_link_basis
      (subst (λ zs. IsSlackBasis (links_of p zs) b.links) brick stage.basis.slack) links_slack in
      λ i. record { brick = brick i; links = links i }

  brick_sums : (phase : Phase) (sums : List Sum) → AreBrickSums p phase supplier_bases sums → length sums ≤ 37
  brick_sums phase sums are =
      listed_sums sums (subst (λ g. AreSums 3 gens g sums) (complexity_is number bricks phase) are)

  pub none_passed : (f : SolveFault) → IsLimit p c f → ⊥
  none_passed BrickBasis is = within_or_exceeds shares c.basis supplier_basis (six_within c.basis basis_room) is
  none_passed (LinkEntry row col) (basis, x, stage, wide) =
      let same = brick_basis_is basis stage.within.slack in
      no_wide_in_narrow columns row col (all_narrow columns.rows refl)
      (subst (λ zs. IsFirstWide (links_of p zs) row col) same wide)
  none_passed LinkBasis (basis, x, stage, entries, exceeds) =
      let same = brick_basis_is basis stage.within.slack in
      within_or_exceeds columns c.basis supplier_link_basis (seven_within c.basis basis_room)
      (subst (λ zs. ExceedsBasis (links_of p zs) c.basis) same exceeds)
  none_passed (Sums phase) (b, x, stage, begins, counted, exceeds) =
      let there = subst (λ a. ExceedsSums p phase a c.sums) (bases_are b x stage) exceeds in
      never_many c.sums sums_room (subst (λ g. ExceedsSumsOf 3 gens g c.sums) (complexity_is number bricks phase) there)
  none_passed (Table phase) (b, x, sums, stage, begins, counted, all, large) =
      let are = subst (λ a. AreBrickSums p phase a sums) (bases_are b x stage) all.all in
      let size : length p.bricks ≡ bricks =
      length-map (customers bricks number) brick_of ∙ length-customers bricks number in
      small_table (length p.bricks) (length sums) (omega (arith, size, few)) (brick_sums phase sums are) large
  none_passed Memory is = absurd is
