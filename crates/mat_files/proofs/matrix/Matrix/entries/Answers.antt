use Rattle.std.proofs.Common.{ap, ◌∙◌, sym, flat_map}
use Rattle.mat_files.proofs.MatrixLaws.{all_rows}
use Rattle.mat_files.proofs.matrix.Matrix.entries.Goals as goal

pub returns : goal.returns
returns c = c.as_slice.ensures.value ∙ sym (all_rows _ _ _ c.self.invariant)
    ∙ ap (λ m. flat_map (λ row. row) m.rows) c.self.view_is
