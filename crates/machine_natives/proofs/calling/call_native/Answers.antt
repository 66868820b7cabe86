use Rattle.std.proofs.Common.{subst, ap}
use Rattle.machine_values.specs.declared.script.Script.{Script}
use Rattle.machine_values.specs.Things.{Things}
use Rattle.machine_steps.specs.Runs.{answers_left}
use Rattle.machine_natives.specs.declared.response.Response.{Response}
use Rattle.machine_natives.specs.Responses.{Responds, lacks}
use Rattle.machine_natives.proofs.Answered.{returns_called, throws_called, lacks_called}
use Rattle.machine_natives.proofs.calling.call_native.Goals as goal

pub returns-in-Returns-clause-called : goal.returns-in-Returns-clause-called
returns-in-Returns-clause-called c callee sees =
    let k = c.args.world.now in
    let left = answers_left c.args.script.now in
    let rest = answers_left c.respond.new.script in
    let heap = c.respond.new.heap in
    let came = subst (λ (r : Response). Responds k c.args.state.now.heap left c.args.method.0 heap rest r) c.in-Returns.is c.in_ok-response.ensures.responds in
    returns_called k c.args.state.now heap left rest c.args.method.0 c.args.receiver c.args.given.now c.args.super_call c.in_ok-event.event c.come_back-step.new.state c.in_ok-event.ensures callee sees
    c.come_back-step.result c.in-Returns.value came c.come_back-step.ensures.comes

pub returns-in-Ok-clause-called : goal.returns-in-Ok-clause-called
returns-in-Ok-clause-called c callee sees =
    let k = c.args.world.now in
    let left = answers_left c.args.script.now in
    let rest = answers_left c.respond.new.script in
    let heap = c.respond.new.heap in
    let came = subst (λ (r : Response). Responds k c.args.state.now.heap left c.args.method.0 heap rest r) c.in-Throws.is c.in_ok-response.ensures.responds in
    throws_called k c.args.state.now heap left rest c.args.method.0 c.args.receiver c.args.given.now c.args.super_call c.in_ok-event.event c.go_out.new.state c.in_ok-event.ensures callee sees
    c.in-Ok.step c.in-Throws.x came c.in-Ok.ensures.goes

pub returns-in-Lacks-clause-called : goal.returns-in-Lacks-clause-called
returns-in-Lacks-clause-called c callee sees =
    let k = c.args.world.now in
    let old = c.args.state.now in
    let left = answers_left c.args.script.now in
    let rest = answers_left c.respond.new.script in
    let heap = c.respond.new.heap in
    let came = subst (λ (r : Response). Responds k old.heap left c.args.method.0 heap rest r) c.in-Lacks.is c.in_ok-response.ensures.responds in
    let same = c.in_ok-response.ensures.lacks (ap lacks c.in-Lacks.is) in
    lacks_called k old heap left rest c.args.method.0 c.args.receiver c.args.given.now c.args.super_call c.in_ok-event.event (record old { heap = heap }) c.in_ok-event.ensures callee sees
    came (ap (λ (h : Things). record old { heap = h }) same.0) (ap (λ (s : Script). answers_left s) same.1)
