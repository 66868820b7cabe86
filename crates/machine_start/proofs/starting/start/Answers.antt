use Rattle.std.proofs.Common.{List, sym, ◌∙◌, subst}
use Rattle.std.specs.Prelude.{map}
use Rattle.std.specs.List.{AllByRecursion}
use Rattle.class_machine.specs.Classes.{Method}
use Rattle.machine_values.specs.declared.script.EntryArg.{EntryArg}
use Rattle.machine_values.specs.declared.state.MachineState.{MachineState}
use Rattle.machine_values.specs.declared.values.Value.{Value}
use Rattle.machine_values.specs.Standing.{Settled}
use Rattle.machine_invocations.specs.Methods.{Sees}
use Rattle.machine_start.specs.Arguments.{argument_of, MakesValues}
use Rattle.machine_start.specs.Opening.{Opens, by_code}
use Rattle.machine_start.proofs.Opened.{heap_formed, starts_native, starts_code}
use Rattle.machine_start.proofs.starting.start.Goals as goal

pub open_native-requires-clause-formed : goal.open_native-requires-clause-formed
open_native-requires-clause-formed c = heap_formed c.args.world.now c.in_ok-state.state c.make_arguments.new.heap c.in_ok-state.ensures.formed

pub open_native-requires-clause-given : goal.open_native-requires-clause-given
open_native-requires-clause-given c = c.in_ok-given.ensures.settled

pub returns-then-is_native-clause-starts : goal.returns-then-is_native-clause-starts
returns-then-is_native-clause-starts c =
    let k = c.args.world.now in
    let first = c.in_ok-state.state in
    let makes = subst (λ (args : List EntryArg). MakesValues k first.heap (map argument_of args) c.make_arguments.new.heap c.in_ok-given.given) c.as_slice.ensures c.in_ok-given.ensures in
    starts_native k c.args.entry.now first c.make_arguments.new.heap c.in_ok-given.given c.open_native.new.state c.in_ok-state.ensures.first makes
    (λ callee sees. sym c.if-is_native.true ∙ c.is_native.ensures callee sees) c.in_ok-open_native.ensures.ok

pub open_code-requires-clause-formed : goal.open_code-requires-clause-formed
open_code-requires-clause-formed c = heap_formed c.args.world.now c.in_ok-state.state c.make_arguments.new.heap c.in_ok-state.ensures.formed

pub open_code-requires-clause-given : goal.open_code-requires-clause-given
open_code-requires-clause-given c = subst (AllByRecursion (Settled _)) (sym c.as_slice-2.ensures) c.in_ok-given.ensures.settled

pub returns-clause-starts : goal.returns-clause-starts
returns-clause-starts c =
    let k = c.args.world.now in
    let first = c.in_ok-state.state in
    let ready : MachineState = record first { heap = c.make_arguments.new.heap } in
    let makes = subst (λ (args : List EntryArg). MakesValues k first.heap (map argument_of args) c.make_arguments.new.heap c.in_ok-given.given) c.as_slice.ensures c.in_ok-given.ensures in
    let opens = subst (λ (vs : List Value). (callee : Method) → Sees k c.args.entry.now.method.0 callee → Opens k ready c.open_code.new.state (by_code callee vs ready)) c.as_slice-2.ensures c.in_ok-open_code.ensures.ok in
    starts_code k c.args.entry.now first c.make_arguments.new.heap c.in_ok-given.given c.open_code.new.state c.in_ok-state.ensures.first makes
    (λ callee sees. sym c.if-is_native.false ∙ c.is_native.ensures callee sees) opens
