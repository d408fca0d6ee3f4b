use Rattle.std.proofs.Common.{◌≡◌, ◌∙◌, ◌++◌, ◌∷◌, [], All, List, ap, arith, length, subst, sym}
use Rattle.lattice_theory.specs.Vectors.{Vector}
use Rattle.lattice_laws.proofs.VectorLists.{length_rows_of}
use Rattle.pottier.proofs.MemberLaws.{more_fit, members_more}
use Rattle.pottier.proofs.members.Members.push.Goals as goal

pub overflow_add-self : goal.overflow_add-self
overflow_add-self c =
    omega (
      arith,
      ap length c.self.view_is,
      length_rows_of c.self.inside.count c.self.inside.width c.self.inside.entries.items,
      c.requires.room,
    )

pub invariant_of-self-2 : goal.invariant_of-self-2
invariant_of-self-2 c =
    more_fit c.self.inside.count c.self.inside.width c.self.inside.entries.items c.args.member.now _ c.self.invariant
    (subst (λ (vs : List Vector). All (λ v. length v ≡ length c.args.member.now) vs) (sym c.self.view_is)
    c.requires.width) c.in_ok-extend_from_slice.ensures.items

pub returns : goal.returns
returns c =
    members_more c.self.inside.count c.self.inside.width c.self.inside.entries.items c.args.member.now _
    c.self.invariant
    (subst (λ (vs : List Vector). All (λ v. length v ≡ length c.args.member.now) vs) (sym c.self.view_is)
    c.requires.width) c.in_ok-extend_from_slice.ensures.items
    ∙ ap (λ vs. vs ++ c.args.member.now ∷ []) c.self.view_is
