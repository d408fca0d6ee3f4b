use Rattle.std.proofs.Common.{◌≡◌, ◌++◌, ℕ, List, ap, ◌∙◌, append_assoc, codes, refl}
use Rattle.std.specs.Fmt.{decimal}
use Rattle.mat_files.specs.MatrixText.{matrix_text}
use Rattle.certificate.specs.CertificateText.{table_text}
use Rattle.certificate.proofs.certificate.printing.print_part.Goals as goal

-- pieces are added, one after the other
all_added : (old t1 t2 t3 t4 t5 t6 t7 t8 links_word links bound_word bound sums_word sums potentials_word potentials :
    List ℕ)
    → t1 ≡ old ++ links_word → t2 ≡ t1 ++ links → t3 ≡ t2 ++ bound_word → t4 ≡ t3 ++ bound → t5 ≡ t4 ++ sums_word
    → t6 ≡ t5 ++ sums → t7 ≡ t6 ++ potentials_word → t8 ≡ t7 ++ potentials
    → t8 ≡ old ++ (((((((links_word ++ links) ++ bound_word) ++ bound) ++ sums_word) ++ sums) ++ potentials_word) ++
    potentials)
all_added old t1 t2 t3 t4 t5 t6 t7 t8 p1 p2 p3 p4 p5 p6 p7 p8 e1 e2 e3 e4 e5 e6 e7 e8 =
    rw (e8, e7, e6, e5, e4, e3, e2, e1) (simp append_assoc)

pub returns : goal.returns
returns c =
    let f = c.args.fold.now in
    let links : c.deref.result.now ≡ matrix_text f.links =
    c.deref.ensures.value ∙ c.in_ok-links.ensures.text ∙ ap matrix_text c.links.ensures.links in
    let bound : c.as_bytes.result.now ≡ decimal f.bound =
    c.as_bytes.ensures.value ∙ c.format.ensures.text ∙ ap decimal c.bound.ensures.bound in
    let sums : c.deref-2.result.now ≡ matrix_text f.sums =
    c.deref-2.ensures.value ∙ c.in_ok-sums.ensures.text ∙ ap matrix_text c.sums.ensures.sums in
    all_added c.args.out.now.items _ _ _ _ _ _ _ c.print_table.new.out.items (codes "links\n") (matrix_text f.links)
    (codes "bound ")
    (decimal f.bound) (codes "\nsums\n") (matrix_text f.sums) (codes "potentials\n") (table_text f.potentials)
    c.in_ok-extend_from_slice.ensures.items
    (c.in_ok-extend_from_slice-2.ensures.items ∙ ap (λ (t : List ℕ). c.extend_from_slice.new.self.items ++ t) links)
    c.in_ok-extend_from_slice-3.ensures.items
    (c.in_ok-extend_from_slice-4.ensures.items ∙ ap (λ (t : List ℕ). c.extend_from_slice-3.new.self.items ++ t) bound)
    c.in_ok-extend_from_slice-5.ensures.items
    (c.in_ok-extend_from_slice-6.ensures.items ∙ ap (λ (t : List ℕ). c.extend_from_slice-5.new.self.items ++ t) sums)
    c.in_ok-extend_from_slice-7.ensures.items
    (c.in_ok-print_table.ensures ∙ ap (λ t. c.extend_from_slice-7.new.self.items ++ table_text t)
    c.potentials.ensures.potentials)
