use Rattle.std.proofs.Common.{◌+◌, ◌≡◌, ◌∙◌, ℕ, Bool, true, false, refl, sym, ap, if◌then◌else◌}
use mir.Val.{bool_byte}
use Rattle.std.proofs.lemmas.Bool.{le-leb, lt-leb}
use Rattle.aj_names.proofs.Whole.{method_decided, method_undecided, slots_found}
use Rattle.aj_names.proofs.reading.method_slots.Goals as goal

bits : (b : Bool) → bool_byte b ≡ (if b then 1 else 0)
bits true = refl
bits false = refl

pub returns-then-slots-le255-clause-some : goal.returns-then-slots-le255-clause-some
returns-then-slots-le255-clause-some c = method_decided c.args.text.now c.in-Ok.slots true c.in-Ok.ensures (sym (le-leb c.in-Ok.slots 255 c.if-slots-le255.true))

pub returns-then-slots-le255-clause-count : goal.returns-then-slots-le255-clause-count
returns-then-slots-le255-clause-count c = slots_found c.args.text.now c.in-Ok.slots c.args.receiver (c.from.result + c.in-Ok.slots) c.in-Ok.ensures c.if-slots-le255.true (ap (λ (x : ℕ). x + c.in-Ok.slots) (c.from.ensures ∙ bits c.args.receiver))

pub returns-else-slots-le255-clause-some : goal.returns-else-slots-le255-clause-some
returns-else-slots-le255-clause-some c = method_decided c.args.text.now c.in-Ok.slots false c.in-Ok.ensures (sym (lt-leb c.in-Ok.slots 255 c.if-slots-le255.false))

pub returns-in-Err-clause-some : goal.returns-in-Err-clause-some
returns-in-Err-clause-some c = (λ h. absurd cc, λ d. absurd (method_undecided c.args.text.now c.in-Err.field-0 c.in-Err.ensures d))
