use Rattle.std.proofs.Common.{◌∙◌, ◌<◌, ap, arith, length, slice_get, sym}
use Rattle.lattice_laws.proofs.VectorLists.{length_rows_of}
use Rattle.pottier.proofs.MemberLaws.{member_read, one_width, same_width}
use Rattle.pottier.proofs.members.Members.get.Goals as goal

pub returns-clause-member : goal.returns-clause-member
returns-clause-member c =
    let low : c.args.place < c.self.inside.count = omega (
      arith,
      ap length c.self.view_is,
      length_rows_of c.self.inside.count c.self.inside.width c.self.inside.entries.items,
      c.requires,
    ) in
    sym (ap (λ vs. slice_get vs c.args.place) c.self.view_is) ∙ member_read _ _ _ _ _ low c.deref.ensures.value

pub returns-clause-width : goal.returns-clause-width
returns-clause-width c =
    let low : c.args.place < c.self.inside.count = omega (
      arith,
      ap length c.self.view_is,
      length_rows_of c.self.inside.count c.self.inside.width c.self.inside.entries.items,
      c.requires,
    ) in
    same_width c.self.inside.width c.args.place _ _
    (one_width c.self.inside.count c.self.inside.width _ _ c.self.invariant c.self.view_is)
    (sym (ap (λ vs. slice_get vs c.args.place) c.self.view_is) ∙ member_read _ _ _ _ _ low c.deref.ensures.value)
