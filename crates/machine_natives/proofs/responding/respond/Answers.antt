use Rattle.std.proofs.Common.{rules, ◌≡◌, suc, drop, sym, ◌∙◌, ap, subst}
use Rattle.std.specs.Prelude.{ℕ}
use Rattle.std.specs.Option.{option_copied}
use Rattle.class_machine.specs.Classes.{Method}
use Rattle.class_machine.specs.Descriptors.{result_in}
use Rattle.machine_natives.specs.Responses.{Responds}
use Rattle.machine_natives.proofs.Fits.{script_lacks, answer_taken, answer_left}
use Rattle.machine_natives.proofs.responding.respond.Goals as goal

pub returns-in_default-get-clause-responds : goal.returns-in_default-get-clause-responds
returns-in_default-get-clause-responds c =
    script_lacks c.args.world.now c.args.method.0 (option_copied c.result_type-result.result)
    (λ callee sees. ap (λ (x : Method). result_in x.name.member.descriptor) (c.declared-declaration.ensures.seen callee sees) ∙ sym (c.result_type-result.ensures ∙ ap result_in c.as_slice.ensures))
    c.args.script.now.answers c.args.script.now.next c.args.heap.now (sym c.in_default-get.ensures.value)

pub returns-then-not-lacks-clause-responds : goal.returns-then-not-lacks-clause-responds
returns-then-not-lacks-clause-responds c =
    let k = c.args.world.now in
    let answers = c.args.script.now.answers in
    let next = c.args.script.now.next in
    let same : c.in-Some.next ≡ suc next = search rules in
    subst (λ (n : ℕ). Responds k c.args.heap.now (drop next answers) c.args.method.0 c.fitted.new.heap (drop n answers) c.in_ok-response.response) (sym same)
    (answer_taken k c.args.method.0 (option_copied c.result_type-result.result)
    (λ callee sees. ap (λ (x : Method). result_in x.name.member.descriptor) (c.declared-declaration.ensures.seen callee sees) ∙ sym (c.result_type-result.ensures ∙ ap result_in c.as_slice.ensures))
    answers next c.in-Some-get.answer.now (sym c.in-Some-get.ensures.value) c.args.heap.now c.fitted.new.heap c.in_ok-response.response (sym c.lacks.ensures ∙ c.if-not-lacks.true) c.in_ok-response.ensures.comes)

pub returns-else-not-lacks-clause-responds : goal.returns-else-not-lacks-clause-responds
returns-else-not-lacks-clause-responds c =
    let k = c.args.world.now in
    answer_left k c.args.method.0 (option_copied c.result_type-result.result)
    (λ callee sees. ap (λ (x : Method). result_in x.name.member.descriptor) (c.declared-declaration.ensures.seen callee sees) ∙ sym (c.result_type-result.ensures ∙ ap result_in c.as_slice.ensures))
    c.args.script.now.answers c.args.script.now.next c.in-Some-get.answer.now (sym c.in-Some-get.ensures.value) c.args.heap.now c.fitted.new.heap c.in_ok-response.response (sym c.lacks.ensures ∙ c.if-not-lacks.false) c.in_ok-response.ensures.comes
