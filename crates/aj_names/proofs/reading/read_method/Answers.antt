use Rattle.std.proofs.Common.{◌≡◌, ◌-◌, length, arith, subst}
use Rattle.aj_names.specs.Faults.{IsMethodFault}
use Rattle.aj_names.specs.declared.reading.Stopped.{Stopped}
use Rattle.aj_names.specs.Reading.{Stops, whole, method_at}
use Rattle.aj_names.proofs.Whole.{method, method_same, many_slots, method_fault, method_refuses}
use Rattle.aj_names.proofs.reading.read_method.Goals as goal

pub returns-then-slots-le255-clause-found : goal.returns-then-slots-le255-clause-found
returns-then-slots-le255-clause-found c =
    let f = (method c.args.text.now).found c.in-Ok.m c.in-Ok.ensures in
    let few = c.if-slots-le255.true in
    let count = c.slots.ensures in
    (f.0, omega arith, f.1)

pub returns-then-slots-le255-clause-only : goal.returns-then-slots-le255-clause-only
returns-then-slots-le255-clause-only c = λ m formed few e. method_same c.args.text.now c.in-Ok.m m c.in-Ok.ensures formed e

pub returns-else-slots-le255-clause-only : goal.returns-else-slots-le255-clause-only
returns-else-slots-le255-clause-only c = λ m formed few e.
    let many = c.if-slots-le255.false in
    let count = c.slots.ensures in
    absurd ((many_slots c.args.text.now c.in-Ok.m c.in-Ok.ensures (omega arith)).none (record { value = m; formed = formed; few = few; spelled = e }))

pub returns-else-slots-le255-clause-fault : goal.returns-else-slots-le255-clause-fault
returns-else-slots-le255-clause-fault c =
    let many = c.if-slots-le255.false in
    let count = c.slots.ensures in
    let all : length c.args.text.now ≡ length c.args.text.now - 0 = omega arith in
    method_refuses c.args.text.now (length c.args.text.now - 0) c.bad_descriptor.result c.bad_descriptor.ensures
    (subst (IsMethodFault c.args.text.now) all (many_slots c.args.text.now c.in-Ok.m c.in-Ok.ensures (omega arith)))

pub returns-in-Err-Left-clause-only : goal.returns-in-Err-Left-clause-only
returns-in-Err-Left-clause-only c = λ m formed few e. absurd ((method_fault c.args.text.now c.in-Err-Left.left (subst (λ (s : Stopped). Stops s (whole (method_at c.args.text.now))) c.in-Err-Left.field-0-is c.in-Err-Left.ensures)).none (record { value = m; formed = formed; few = few; spelled = e }))

pub returns-in-Err-Left-clause-fault : goal.returns-in-Err-Left-clause-fault
returns-in-Err-Left-clause-fault c =
    method_refuses c.args.text.now (length c.args.text.now - c.in-Err-Left.left) c.bad_descriptor-in-Err-Left.result c.bad_descriptor-in-Err-Left.ensures (method_fault c.args.text.now c.in-Err-Left.left (subst (λ (s : Stopped). Stops s (whole (method_at c.args.text.now))) c.in-Err-Left.field-0-is c.in-Err-Left.ensures))
