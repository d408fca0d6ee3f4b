-- One piece of the way between two points, where the generators, the bound and the listed sums have what it takes.
use Rattle.std.proofs.Common.{◌≡◌, ℕ, ◌<◌, ◌≤◌, List, [], ◌∷◌, length, map, refl, ap, arith, sym, ◌∙◌, Contains, inl}
use Rattle.std.proofs.Common.{inr, subst}
use Rattle.std.proofs.lemmas.Bool.{cases_lt}
use Rattle.std.specs.List.{AllZip, AllByRecursion}
use Rattle.fold_theory.specs.declared.Phase.{Phase}
use Rattle.lattice_theory.specs.Vectors.{Vector, ◌⊑◌, norm1, add, zeros}
use Rattle.lattice_theory.specs.Matrices.{Matrix, product}
use Rattle.lattice_laws.proofs.Conformal.{norm_none, length-add}
use Rattle.lattice_laws.proofs.Products.{rows-zeros, length-rows, length-zeros, zeros_is}
use Rattle.fold_theory.specs.Programs.{Program}
use Rattle.run_theory.specs.Links.{link_matrix}
use Rattle.run_theory.specs.Steps.{partial_sums}
use Rattle.lattice_laws.specs.VectorLists.{sum_of, weight, AreSized}
use Rattle.piece_laws.proofs.Shares.{StayWithin}
use Rattle.lattice_laws.proofs.Sums.{norm-zeros, zeros_below_sized}
use Rattle.piece_laws.proofs.PieceCounts.{LightPart, piece_counts}
use Rattle.piece_laws.proofs.Combinations.{combined, combined-add, combined-zeros, combined-sum, product-combined}
use Rattle.piece_laws.proofs.Combinations.{rows-combined, IsWritten, Written, part_below, part_weighs}
use Rattle.lattice_laws.proofs.VectorLists.{length-sum}
use Rattle.piece_laws.proofs.Points.{parts-sized}
use Rattle.piece_laws.proofs.LinkMisses.{IsTight}
use Rattle.piece_laws.specs.Pieces.{IsStill, Piece}

-- what the generators, the bound and the listed sums must have, for pieces to be found
pub record Frame (p : Program) (phase : Phase) (gens zs : List Vector) (bound : ℕ) : Type 0 where
  pub some : 1 ≤ bound
  pub sized : AreSized p.brick.cols gens
  pub nonzero : AllByRecursion (λ g. 0 < norm1 g) gens
  pub still : IsStill p gens
  pub writes : (d : Vector) → length d ≡ p.brick.cols → product p.brick d ≡ zeros (length p.brick.rows) →
      Written p.brick.cols gens d
  pub light : (w : Vector) → length w ≡ length gens → 0 < norm1 w →
      IsTight phase p.relations (product (link_matrix p.link gens) w) →
      LightPart bound (λ q. product (link_matrix p.link gens) q ⊑ product (link_matrix p.link gens) w) w
  pub listed : (c : Vector) → norm1 c ≤ bound → Contains zs (combined p.brick.cols gens c)

module _ (p : Program) (phase : Phase) (gens zs : List Vector) (bound : ℕ) (frame : Frame p phase gens zs bound) where
  abbrev t : ℕ
  t = p.brick.cols

  abbrev n : ℕ
  n = length gens

  abbrev links : Matrix
  links = link_matrix p.link gens

  -- counts that write the vectors, one by one
  abbrev Write : List Vector → List Vector → Type 0
  Write counts ds = AllZip (λ c d. IsWritten t gens d c) counts ds

  -- counts that write each brick of the way
  record AllWritten (ds : List Vector) : Type 0 where
    counts : List Vector
    each : Write counts ds

  all_written : (ds : List Vector) → AreSized t ds → IsStill p ds → AllWritten ds
  all_written [] sized still = record { counts = []; each = tt }
  all_written (d ∷ ds) sized still =
      let here = frame.writes d sized.0 still.0 in
      let rest = all_written ds sized.1 still.1 in
      record { counts = here.0 ∷ rest.counts; each = (here.1, rest.each) }

  counts_sized : (counts ds : List Vector) → Write counts ds → AreSized n counts
  counts_sized [] ds each = tt
  counts_sized (c ∷ counts) [] each = absurd each
  counts_sized (c ∷ counts) (d ∷ ds) each = (each.0.size, counts_sized counts ds each.1)

  counts_sums : (counts ds : List Vector) → Write counts ds →
      map (combined t gens) counts ≡ ds
  counts_sums [] [] each = refl
  counts_sums [] (d ∷ ds) each = absurd each
  counts_sums (c ∷ counts) [] each = absurd each
  counts_sums (c ∷ counts) (d ∷ ds) each = λ i. each.0.sum i ∷ counts_sums counts ds each.1 i

  -- where the way is not 0, nor are all counts
  written_none : (c d : Vector) → IsWritten t gens d c → norm1 c ≡ 0 → norm1 d ≡ 0
  written_none c d w none =
      let all : combined t gens c ≡ zeros t =
      ap (combined t gens) (zeros_is c (norm_none c none)) ∙ combined-zeros t gens (length c) frame.sized in
      omega (arith, ap norm1 (sym w.sum ∙ all), norm-zeros t)

  all_none : (counts ds : List Vector) → Write counts ds → weight counts ≡ 0 →
      weight ds ≡ 0
  all_none [] [] each none = refl
  all_none [] (d ∷ ds) each none = absurd each
  all_none (c ∷ counts) [] each none = absurd each
  all_none (c ∷ counts) (d ∷ ds) each none =
      omega (arith, written_none c d each.0 (omega (arith, none)), all_none counts ds each.1 (omega (arith, none)))

  counts_some : (counts ds : List Vector) → Write counts ds → 0 < weight ds →
      0 < weight counts
  counts_some counts ds each some = elim (cases_lt 0 (weight counts)) [
    | inl more ↦ more
    | inr none ↦ absurd (omega (arith, all_none counts ds each (omega (arith, none)), some))
  ]

  -- ---- what parts of the counts give

  move_below : (parts counts ds : List Vector) → AllZip ◌⊑◌ parts counts → Write counts ds →
      AllZip ◌⊑◌ (map (combined t gens) parts) ds
  move_below [] [] [] below each = tt
  move_below [] [] (d ∷ ds) below each = absurd each
  move_below [] (c ∷ counts) ds below each = absurd below
  move_below (a ∷ parts) [] ds below each = absurd below
  move_below (a ∷ parts) (c ∷ counts) [] below each = absurd each
  move_below (a ∷ parts) (c ∷ counts) (d ∷ ds) below each =
      (part_below t gens frame.sized d c a each.0 below.0, move_below parts counts ds below.1 each.1)

  move_weighs : (parts counts ds : List Vector) → AllZip ◌⊑◌ parts counts → Write counts ds →
      weight parts ≤ weight (map (combined t gens) parts)
  move_weighs [] counts ds below each = omega arith
  move_weighs (a ∷ parts) [] ds below each = absurd below
  move_weighs (a ∷ parts) (c ∷ counts) [] below each = absurd each
  move_weighs (a ∷ parts) (c ∷ counts) (d ∷ ds) below each =
      omega (
        arith,
        part_weighs t gens frame.sized d c a frame.nonzero each.0 below.0,
        move_weighs parts counts ds below.1 each.1,
      )

  move_listed : (b : Vector) (parts : List Vector) → StayWithin bound b parts →
      AllByRecursion (Contains zs) (map (combined t gens) parts)
  move_listed b [] within = tt
  move_listed b (a ∷ parts) within = (frame.listed a within.0, move_listed (add b a) parts within.2)

  sums_listed : (b : Vector) (parts : List Vector) → length b ≡ n → AreSized n parts → StayWithin bound b parts →
      AllByRecursion (Contains zs) (partial_sums (combined t gens b) (map (combined t gens) parts))
  sums_listed b [] size sized within = tt
  sums_listed b (a ∷ parts) size sized within =
      let rest = map (combined t gens) parts in
      let next : length (add b a) ≡ n = length-add b a n size sized.0 in
      subst (λ w. AllByRecursion (Contains zs) (w ∷ partial_sums w rest))
      (combined-add t gens b a (size ∙ sym sized.0))
      (frame.listed (add b a) within.1, sums_listed (add b a) parts next sized.1 within.2)

  move_still : (parts : List Vector) → IsStill p (map (combined t gens) parts)
  move_still [] = tt
  move_still (a ∷ parts) = (rows-combined t p.brick.rows gens a frame.sized frame.still, move_still parts)

  -- the link matrix times the sum of counts is the image of the sum of the moves
  image_of_counts : (counts : List Vector) → AreSized n counts →
      product links (sum_of n counts) ≡ product p.link (sum_of t (map (combined t gens) counts))
  image_of_counts counts sized =
      product-combined t p.link.rows gens (sum_of n counts) frame.sized
      ∙ ap (product p.link) (combined-sum t gens n counts frame.sized sized)

  -- ---- the piece

  -- a way that changes no brick row, and the linking rows as the phase wants it, has a piece
  pub one_piece : (ds : List Vector) → AreSized t ds → IsStill p ds →
      IsTight phase p.relations (product p.link (sum_of t ds)) → 0 < weight ds → Piece p zs ds
  one_piece ds sized still tight some =
      let w = all_written ds sized still in
      let sizes = counts_sized w.counts ds w.each in
      let whole = sum_of n w.counts in
      let image : product links whole ≡ product p.link (sum_of t ds) =
      image_of_counts w.counts sizes ∙ ap (λ v. product p.link (sum_of t v)) (counts_sums w.counts ds w.each) in
      let zero_has : product links (zeros n) ⊑ product links whole =
      subst (λ v. v ⊑ product links whole) (sym (rows-zeros links.rows n))
      (zeros_below_sized (product links whole) (length links.rows) (length-rows links.rows whole)) in
      let piece =
      piece_counts n bound (λ q. product links q ⊑ product links whole) w.counts frame.some zero_has sizes
      (counts_some w.counts ds w.each some)
      (λ more.
      frame.light whole (length-sum n w.counts sizes) more (subst (IsTight phase p.relations) (sym image) tight)) in
      let shares = piece.counts_of.shares in
      let parts = shares.parts in
      let small : AreSized n parts = parts-sized n parts w.counts shares.below sizes in
      let end : product links piece.whole ≡ product p.link (sum_of t (map (combined t gens) parts)) =
      ap (product links) (sym shares.whole) ∙ image_of_counts parts small in
      record {
        move = map (combined t gens) parts;
        nonzero = omega (arith, piece.counts_of.nonzero, move_weighs parts w.counts ds shares.below w.each);
        below = move_below parts w.counts ds shares.below w.each;
        moves = move_listed (zeros n) parts shares.within;
        sums =
            subst (λ v. AllByRecursion (Contains zs) (partial_sums v (map (combined t gens) parts)))
            (combined-zeros t gens n frame.sized)
            (sums_listed (zeros n) parts (length-zeros n) small shares.within);
        still = move_still parts;
        links =
            subst (λ v. v ⊑ product p.link (sum_of t ds)) end
            (subst (λ v. product links piece.whole ⊑ v) image piece.has);
      }
