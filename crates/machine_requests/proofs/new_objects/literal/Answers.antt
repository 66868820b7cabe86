use Rattle.std.proofs.Common.{ℕ, sym, subst}
use Rattle.class_machine.specs.Values as machine
use Rattle.machine_values.specs.Things.{Things}
use Rattle.machine_requests.specs.Objects.{Finds, StaysFilled}
use Rattle.machine_requests.proofs.Fills.{literal_filled}
use Rattle.machine_requests.proofs.NewArrays.{literal_found}
use Rattle.machine_requests.proofs.new_objects.literal.Goals as goal

pub returns-clause-ok : goal.returns-clause-ok
returns-clause-ok c = subst (λ (p : ℕ × Things). Finds (machine.Literal c.args.units.now) c.args.heap.now p.1 (record { 0 = p.0 })) (sym c.in_ok-at.ensures.ok) (literal_found c.args.heap.now c.args.units.now)

pub returns-clause-filled : goal.returns-clause-filled
returns-clause-filled c s = subst (λ (p : ℕ × Things). StaysFilled c.args.heap.now p.1 s) (sym c.in_ok-at.ensures.ok) (literal_filled c.args.heap.now c.args.units.now s)
