use Rattle.std.proofs.Common.{◌<◌, ◌+◌, List, ℕ, sym, ap, ◌∙◌, arith}
use Rattle.std.specs.Prelude.{nat_eq}
use Rattle.std.proofs.lemmas.List.{drop_all}
use Rattle.class_machine.specs.Start.{takes}
use Rattle.machine_code.specs.TypeLengths.{type_length}
use Rattle.machine_invocations.specs.Methods.{classes_in}
use Rattle.machine_start.specs.Arguments.{argument_of}
use Rattle.machine_start.proofs.Types.{left_take, none_left, first_refuses, first_takes, at_end}
use Rattle.machine_start.proofs.taking.takes_all.Goals as goal

pub loop-arg-init : goal.loop-arg-init
loop-arg-init c = ap (λ (bytes : List ℕ). left_take (classes_in c.args.world.now) c.args.args.now bytes 0) c.parameters-rest.ensures

pub returns-then-length-eq0 : goal.returns-then-length-eq0
returns-then-length-eq0 c =
    sym (none_left (classes_in c.args.world.now) c.args.args.now c.loop-arg.rest.now c.loop-arg.arg-index c.arg-item.result c.arg-item.result c.loop-arg-test.true c.arg-item.is (sym c.type_length-length.ensures.length ∙ c.if-length-eq0.true))
    ∙ c.loop-arg.invariant

pub returns-then-not-takes : goal.returns-then-not-takes
returns-then-not-takes c =
    let cs = classes_in c.args.world.now in
    let bytes = c.loop-arg.rest.now in
    let arg = c.arg-item.result in
    let some : 0 < type_length bytes = let e = c.type_length-length.ensures.length in let n = c.if-length-eq0.false in omega arith in
    let refuses = ap (λ (type : List ℕ). takes cs type (argument_of arg)) (sym c.first_type.ensures) ∙ sym c.takes.ensures ∙ c.if-not-takes.true in
    sym (first_refuses cs c.args.args.now bytes c.loop-arg.arg-index arg arg c.loop-arg-test.true c.arg-item.is some refuses) ∙ c.loop-arg.invariant

pub loop-arg-preserved : goal.loop-arg-preserved
loop-arg-preserved c =
    let cs = classes_in c.args.world.now in
    let bytes = c.loop-arg.rest.now in
    let i = c.loop-arg.arg-index in
    let arg = c.arg-item.result in
    let some : 0 < type_length bytes = let e = c.type_length-length.ensures.length in let n = c.if-length-eq0.false in omega arith in
    let accepts = ap (λ (type : List ℕ). takes cs type (argument_of arg)) (sym c.first_type.ensures) ∙ sym c.takes.ensures ∙ c.if-not-takes.false in
    ap (λ (rest : List ℕ). left_take cs c.args.args.now rest (i + 1)) c.behind_first-rest.ensures
    ∙ sym (first_takes cs c.args.args.now bytes i arg arg c.loop-arg-test.true c.arg-item.is some accepts) ∙ c.loop-arg.invariant

pub returns : goal.returns
returns c =
    let bytes = c.loop-arg.rest.now in
    ap (λ (n : ℕ). nat_eq n 0) c.type_length.ensures.length
    ∙ sym (at_end (classes_in c.args.world.now) c.args.args.now bytes c.loop-arg.arg-index (drop_all c.loop-arg.arg-index c.args.args.now (omega arith))) ∙ c.loop-arg.invariant
