use Rattle.std.proofs.Common.{Option, sym, ◌∙◌, subst}
use Rattle.std.specs.Prelude.{Some, None}
use Rattle.class_machine.specs.declared.kinds.Kind.{Kind}
use Rattle.machine_values.specs.declared.values.Value.{Value}
use Rattle.machine_statics.specs.Returns.{IsOnTop, IsResult, Results}
use Rattle.machine_statics.proofs.OnTop.{gives_result, lacks_result}
use Rattle.machine_statics.proofs.returning.result_of.Goals as goal

pub returns-in_err-value-in-Some-Some : goal.returns-in_err-value-in-Some-Some
returns-in_err-value-in-Some-Some c =
    let f = c.args.frame.now in
    let k = c.in-Some-Some.kind in
    let r = c.in-Some-Some.returns in
    subst (λ (o : Option (Option Value)). IsResult f c.args.kind c.args.returns o) (sym c.from_residual.ensures)
    (subst (λ (o : Option Kind). IsResult f o c.args.returns None) (sym c.in-Some-Some.is-0)
    (subst (λ (o : Option Kind). IsResult f (Some k) o None) (sym c.in-Some-Some.is-1)
    (lacks_result f k r (subst (IsOnTop f k) c.in_err-value-in-Some-Some.was c.value_on_top.ensures))))

pub returns-in_ok-value-in-Some-Some : goal.returns-in_ok-value-in-Some-Some
returns-in_ok-value-in-Some-Some c =
    let f = c.args.frame.now in
    let k = c.in-Some-Some.kind in
    let r = c.in-Some-Some.returns in
    let v = c.in_ok-value-in-Some-Some.value in
    subst (λ (o : Option Kind). Results f o c.args.returns (Some v)) (sym c.in-Some-Some.is-0)
    (subst (λ (o : Option Kind). Results f (Some k) o (Some v)) (sym c.in-Some-Some.is-1)
    (gives_result f k r (sym c.is_same_kind.ensures ∙ c.if-not-is_same_kind.false) v (subst (IsOnTop f k) c.in_ok-value-in-Some-Some.was c.value_on_top.ensures)))
