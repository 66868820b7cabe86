use Rattle.std.proofs.Common.{◌≡◌, sym, ap, ◌∙◌, List, ℕ}
use Rattle.std.proofs.lemmas.Result.{IfOk-weaker}
use Rattle.class_machine.specs.Classes.{Method, reference, member_text}
use Rattle.machine_works.proofs.Entered.{native_text, enters_text}
use Rattle.machine_works.proofs.finishing.call_within.Goals as goal

pub returns-then-is_native-clause-moves : goal.returns-then-is_native-clause-moves
returns-then-is_native-clause-moves c callee sees =
    let k = c.args.world.now in
    let old = c.args.state.now in
    let seen = c.declared-place.ensures.seen callee sees in
    native_text k old old callee c.args.object c.args.wait c.in_ok-text.text (sym (c.is_native.ensures callee sees) ∙ c.if-is_native.true)
    (c.in_ok-text.ensures c.declared-place.result.method.now.name.descriptor
    ∙ ap (λ (class : List ℕ). member_text (reference class c.as_slice-2.result.now c.declared-place.result.method.now.name.descriptor)) c.as_slice.ensures
    ∙ ap (λ (name : List ℕ). member_text (reference c.declared-place.result.head.now.name name c.declared-place.result.method.now.name.descriptor)) c.as_slice-2.ensures
    ∙ ap member_text (sym (ap (λ (x : Method). x.name) seen)))

pub returns-clause-moves : goal.returns-clause-moves
returns-clause-moves c =
    let k = c.args.world.now in
    let old = c.args.state.now in
    let head = c.declared-place.result.head.now in
    let name = c.declared-place.result.method.now.name in
    let r = reference c.as_slice.result.now c.as_slice-2.result.now c.as_slice-3.result.now in
    let same : r ≡ reference head.name name.name name.descriptor =
    ap (λ (class : List ℕ). reference class c.as_slice-2.result.now c.as_slice-3.result.now) c.as_slice.ensures
    ∙ ap (λ (x : List ℕ). reference head.name x c.as_slice-3.result.now) c.as_slice-2.ensures ∙ ap (reference head.name name.name) c.as_slice-3.ensures in
    IfOk-weaker c.enter.result _ _
    (λ step moves callee sees. enters_text k old c.enter.new.state callee c.args.object c.args.wait step r (sym (c.is_native.ensures callee sees) ∙ c.if-is_native.false)
    (same ∙ sym (ap (λ (x : Method). x.name) (c.declared-place.ensures.seen callee sees))) (moves callee sees)) c.enter.ensures.entered
