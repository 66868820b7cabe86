use Rattle.std.proofs.Common.{◌≡◌, ◌+◌, ◌<◌, ℕ, true, length, refl, ap, rules, tests}
use Rattle.machine_values.specs.declared.script.Script.{Script}
use Rattle.run_lines.proofs.Refusing.{emptied}
use Rattle.run_lines.proofs.ScriptRead.{read_more, script_made, script_only, other_made, other_only, no_script}
use Rattle.run_lines.proofs.script.read_script.Goals as goal

pub loop-rest-preserved : goal.loop-rest-preserved
loop-rest-preserved c =
    read_more c.args.text.now c.loop-rest.rest.now c.in-Ok.behind.now c.loop-rest.answers c.push.new.self c.in-Ok.answer c.loop-rest.invariant c.in-Ok.ensures.0 c.in-Ok.ensures.1 c.in_ok-push-in-Ok.ensures.ok

pub returns-in-Err-Form : goal.returns-in-Err-Form
returns-in-Err-Form c =
    let start = c.args.text.now in let now = c.loop-rest.rest.now in let out = c.loop-rest.answers in
    let number : ℕ = c.len.result + 1 in
    let some : 0 < length now = search (rules, tests) in
    let n : number ≡ length out + 1 = ap (λ (k : ℕ). k + 1) c.len.ensures in
    let nothing = rw c.in-Err-Form.field-0-is at c.in-Err-Form.ensures in
    (other_made start now out number c.loop-rest.invariant some nothing n, other_only start now out number c.loop-rest.invariant nothing n, no_script start now out c.loop-rest.invariant some nothing)

pub returns : goal.returns
returns c =
    let start = c.args.text.now in let now = c.loop-rest.rest.now in
    let script : Script = record { answers = c.loop-rest.answers; next = 0 } in
    let yes : c.is_empty.result ≡ true = search (rules, tests) in
    let none = emptied now c.is_empty.result c.is_empty.ensures yes in
    (script_made start now script c.loop-rest.invariant none refl, script_only start now script c.loop-rest.invariant none refl)
