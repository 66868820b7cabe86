use Rattle.std.specs.Prelude.{◌≡◌, ℕ, ◌+◌, ◌≤◌, ◌^◌, max, Option, Some, None, MatchOption, IfSome}
use Rattle.machine_frames.specs.Tokens.{highest, highest_in}
use Rattle.machine_statics.specs.Announcing.{NumbersNext}
use Rattle.machine_statics.proofs.Tops.{last_frame, numbers_next}
use Rattle.machine_statics.proofs.announcing.number_of_next.Goals as goal

pub returns : goal.returns
returns c = by c.next_number.result c.next_number.ensures where
  n : ℕ
  n = 1 + max (highest c.in_ok-frame.frame.now.operands.values) (highest_in c.in_ok-frame.frame.now.locals)

  by : (o : Option ℕ) → MatchOption o (2 ^ 64 ≤ n) (λ x. x ≡ n) → IfSome o (λ number. NumbersNext c.args.state.now number)
  by None e = tt
  by (Some x) e =
      numbers_next c.args.state.now c.in_ok-frame.frame.now x
      (last_frame c.args.state.now.frames.items c.deref.result.now c.in_ok-frame.frame.now c.deref.ensures.value c.in_ok-frame.ensures.value) e
