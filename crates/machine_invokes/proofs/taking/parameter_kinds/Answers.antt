use Rattle.std.specs.Prelude.{◌≡◌, ℕ, Some, None, length, slice_get}
use Rattle.std.specs.Option.{option_map}
use Rattle.std.proofs.Common.{sym, ◌∙◌, subst, arith}
use Rattle.class_machine.specs.Descriptors.{kind_in, parameters_in}
use Rattle.machine_invokes.proofs.Taken.{Gathers, gathers_none, gathers_more, gathers_all, one_less}
use Rattle.machine_invokes.proofs.taking.parameter_kinds.Goals as goal

pub kinds-init : goal.kinds-init
kinds-init c = subst (Gathers (parameters_in c.args.descriptor.now)) (sym c.new-kinds.ensures.items) (gathers_none (parameters_in c.args.descriptor.now))

pub kinds-preserved : goal.kinds-preserved
kinds-preserved c =
    let types = parameters_in c.args.descriptor.now in
    let len : c.len.result ≡ length c.kinds.kinds.items = c.len.ensures ∙ omega (arith, c.kinds.kinds.ok.0) in
    subst (Gathers types) (sym c.in_ok-push.ensures.items) (gathers_more types c.kinds.kinds.items c.in-Some.kind (subst (λ (n : ℕ). Some c.in-Some.kind ≡ option_map kind_in (slice_get types n)) len c.in-Some.ensures) c.kinds.invariant)

pub kinds-smaller : goal.kinds-smaller
kinds-smaller c =
    let types = parameters_in c.args.descriptor.now in
    let len : c.len.result ≡ length c.kinds.kinds.items = c.len.ensures ∙ omega (arith, c.kinds.kinds.ok.0) in
    one_less types c.kinds.kinds.items c.push.new.self.items c.in-Some.kind (subst (λ (n : ℕ). Some c.in-Some.kind ≡ option_map kind_in (slice_get types n)) len c.in-Some.ensures) c.in_ok-push.ensures.items

pub returns : goal.returns
returns c =
    let types = parameters_in c.args.descriptor.now in
    let len : c.len.result ≡ length c.kinds.kinds.items = c.len.ensures ∙ omega (arith, c.kinds.kinds.ok.0) in
    gathers_all types c.kinds.kinds.items (subst (λ (n : ℕ). None ≡ option_map kind_in (slice_get types n)) len c.in_default.ensures) c.kinds.invariant
