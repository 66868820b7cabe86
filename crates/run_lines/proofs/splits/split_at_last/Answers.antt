use Rattle.std.proofs.Common.{◌≡◌, ◌+◌, ◌-◌, ℕ, false, ap, ◌∙◌, drop, arith}
use Rattle.run_lines.specs.Splits.{has}
use Rattle.run_lines.proofs.Cuts.{rest_from, last_made, last_only}
use Rattle.run_lines.proofs.splits.split_at_last.Goals as goal

pub returns-then-text-place : goal.returns-then-text-place
returns-then-text-place c =
    let text = c.args.text.now in
    let byte = c.args.byte in
    let place : ℕ = c.loop-place.place - 1 in
    let same : place + 1 ≡ c.loop-place.place = omega arith in
    let none : has byte (drop (place + 1) text) ≡ false = ap (λ (n : ℕ). has byte (drop n text)) same ∙ c.loop-place.invariant.1 in
    let made = last_made byte place text (omega arith) c.if-text-place.true none in
    (made, last_only byte text _ (rest_from (place + 1) text) made)
