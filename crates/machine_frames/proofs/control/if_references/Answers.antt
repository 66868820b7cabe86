use Rattle.std.proofs.Common.{true, false, sym, ◌∙◌}
use Rattle.machine_frames.proofs.Branches.{goes_by_places}
use Rattle.machine_frames.proofs.control.if_references.Goals as goal

pub returns-then-agrees-clause-done : goal.returns-then-agrees-clause-done
returns-then-agrees-clause-done c = goes_by_places c.args.operands.now c.pop_reference.new.operands c.pop_reference-2.new.operands c.in-Some-pop_reference.a c.in-Some.b c.args.same c.is_same-found.result true c.in-Some.ensures.popped c.in-Some-pop_reference.ensures.popped c.pop_reference.ensures.within c.in-Some.ensures.known c.in-Some-pop_reference.ensures.known c.is_same-found.ensures (sym c.agrees.ensures ∙ c.if-agrees.true)

pub returns-else-agrees-clause-done : goal.returns-else-agrees-clause-done
returns-else-agrees-clause-done c = goes_by_places c.args.operands.now c.pop_reference.new.operands c.pop_reference-2.new.operands c.in-Some-pop_reference.a c.in-Some.b c.args.same c.is_same-found.result false c.in-Some.ensures.popped c.in-Some-pop_reference.ensures.popped c.pop_reference.ensures.within c.in-Some.ensures.known c.in-Some-pop_reference.ensures.known c.is_same-found.ensures (sym c.agrees.ensures ∙ c.if-agrees.false)
