use Rattle.std.proofs.Common.{◌≡◌, ◌++◌, List, ℕ, append_assoc, ◌∙◌}
use Rattle.certificate.proofs.certificate.printing.print_claim.Goals as goal

-- two pieces are added
two_added : (old before after word text number : List ℕ) → before ≡ old ++ word → after ≡ before ++ text → text ≡ number
    → after ≡ old ++ (word ++ number)
two_added old before after word text number first second is = rw (second, first, is) (simp append_assoc)

pub returns-in_ok-extend_from_slice-in-InfeasibleBrick-2 : goal.returns-in_ok-extend_from_slice-in-InfeasibleBrick-2
returns-in_ok-extend_from_slice-in-InfeasibleBrick-2 c =
    rw c.in-InfeasibleBrick.is (two_added _ _ _ _ _ _ c.in_ok-extend_from_slice-in-InfeasibleBrick.ensures.items
    c.in_ok-extend_from_slice-in-InfeasibleBrick-2.ensures.items (c.as_bytes.ensures.value ∙ c.format.ensures.text))
