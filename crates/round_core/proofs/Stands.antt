-- Stands of workers: which are live, and which have ended.
use Rattle.std.proofs.Common.{◌≡◌, ℕ, ◌≤◌, ◌⊎◌, IsTrue, refl, ap, arith, inl, inr}
use Rattle.round_core.specs.declared.parts.Stand.{Stand}
use Rattle.round_core.specs.declared.parts.Stand.TheVariants.{Absent, Working, Finished, Joined}
use Rattle.round_core.specs.declared.parts.Worker.{Worker}
use Rattle.round_core.specs.Allowed.{is_live}
use Rattle.round_core.specs.Steps.{joined_stand}
use Rattle.round_core.specs.Sound.{ended}
use Rattle.round_core.proofs.Decided.{not_true}

pub live_working : (s : Stand) → s ≡ Working → IsTrue (is_live s)
live_working s e = ap is_live e

pub working_finished : Working ≡ Finished → ⊥
working_finished e = cc

pub joined_not_finished : Joined ≡ Finished → ⊥
joined_not_finished e = cc

pub absent_finished : Absent ≡ Finished → ⊥
absent_finished e = cc

pub ended_working : (s : Worker) → s.stand ≡ Working → ended s ≡ 0
ended_working s e = ap (λ x. ended (record { stand = x; seen = s.seen })) e

pub ended_absent : (s : Worker) → s.stand ≡ Absent → ended s ≡ 0
ended_absent s e = ap (λ x. ended (record { stand = x; seen = s.seen })) e

pub ended_once : (s : Worker) → ended s ≤ 1
ended_once s = by s.stand where
  by : (a : Stand) → ended (record { stand = a; seen = s.seen }) ≤ 1
  by Absent = omega arith
  by Working = omega arith
  by Finished = omega arith
  by Joined = omega arith

-- ---- one worker that takes over another

pub joined_live : (a b : Stand) → IsTrue (is_live (joined_stand a b))
joined_live Absent b = refl
joined_live Working Absent = refl
joined_live Working Working = refl
joined_live Working Finished = refl
joined_live Working Joined = refl
joined_live Finished b = refl
joined_live Joined b = refl

pub joined_ended : (a b : Stand) (i j : ℕ) → IsTrue (is_live a)
    → ended (record { stand = a; seen = i }) ≤ ended (record { stand = joined_stand a b; seen = j })
joined_ended Absent b i j h = not_true h
joined_ended Working b i j h = omega arith
joined_ended Finished b i j h = omega arith
joined_ended Joined b i j h = not_true h

pub joined_finished : (a b : Stand) → IsTrue (is_live a) → IsTrue (is_live b)
    → joined_stand a b ≡ Finished → (a ≡ Finished) ⊎ (b ≡ Finished)
joined_finished Absent b p q e = not_true p
joined_finished Working Absent p q e = not_true q
joined_finished Working Working p q e = absurd (working_finished e)
joined_finished Working Finished p q e = inr refl
joined_finished Working Joined p q e = not_true q
joined_finished Finished b p q e = inl refl
joined_finished Joined b p q e = not_true p
