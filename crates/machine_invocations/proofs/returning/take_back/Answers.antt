use Rattle.std.specs.Prelude.{◌<◌, ◌-◌, Bool, Some, None, take, length, refl}
use Rattle.std.proofs.Common.{arith, sym, ap, ◌∙◌, subst}
use Rattle.std.proofs.lemmas.Option.{slice_get_read}
use Rattle.machine_code.specs.Views.{code_seen}
use Rattle.class_machine.specs.ClassFiles.{next_pc}
use Rattle.machine_values.specs.declared.frames.Frame.{Frame}
use Rattle.machine_steps.specs.Moves.{Moves}
use Rattle.machine_steps.specs.Running.{split_last}
use Rattle.machine_invocations.specs.Returning.{takes_back}
use Rattle.machine_invocations.proofs.Returned.{no_code_breaks, back_plain, back_super, last_is}
use Rattle.machine_invocations.proofs.returning.take_back.Goals as goal

pub returns-in_default-clause-taken : goal.returns-in_default-clause-taken
returns-in_default-clause-taken c = no_code_breaks c.args.world.now c.args.state.now c.args.state.now c.args.super_call c.args.value None c.in_default.ensures.code refl

pub returns-then-super_call-clause-taken : goal.returns-then-super_call-clause-taken
returns-then-super_call-clause-taken c =
    let old = c.args.state.now in
    let marks = c.mark_constructed.ensures in
    let x = c.index.result.now in
    let code = c.in-Some.code in
    let top = c.len-top.result - 1 in
    let some : 0 < length old.frames.items = c.in-Some.ensures.frames in
    let there = slice_get_read old.frames.items c.len-top.result top x (omega (arith, old.frames.ok.0)) (omega arith) c.index.ensures in
    let same = last_is old.frames.items marks.rest marks.frame x top marks.turned.before there (omega (arith, old.frames.ok.0, some)) in
    subst (λ (b : Bool). Moves c.args.world.now old c.go_on_with.new.state c.go_on_with.result (takes_back b c.args.value old)) (sym c.if-super_call.true)
    (back_super c.args.world.now old marks.rest marks.frame code c.next_place-pc.result marks.turned.before c.in-Some.ensures.code (c.next_place-pc.ensures ∙ ap (λ (y : Frame). next_pc y.pc (Some (code_seen code))) same)
    c.mark_constructed.new.state c.go_on_with.new.state c.go_on_with.result c.args.value marks.turned c.go_on_with.ensures.gone)

pub returns-clause-taken : goal.returns-clause-taken
returns-clause-taken c =
    let old = c.args.state.now in
    let x = c.index.result.now in
    let code = c.in-Some.code in
    let top = c.len-top.result - 1 in
    let some : 0 < length old.frames.items = c.in-Some.ensures.frames in
    let there = slice_get_read old.frames.items c.len-top.result top x (omega (arith, old.frames.ok.0)) (omega arith) c.index.ensures in
    subst (λ (b : Bool). Moves c.args.world.now old c.go_on_with-2.new.state c.go_on_with-2.result (takes_back b c.args.value old)) (sym c.if-super_call.false)
    (back_plain c.args.world.now old (take top old.frames.items) x code c.next_place-pc.result (split_last old.frames.items top x (omega (arith, old.frames.ok.0, some)) there) c.in-Some.ensures.code
    c.next_place-pc.ensures c.go_on_with-2.new.state c.go_on_with-2.result c.args.value c.go_on_with-2.ensures.gone)
