use Rattle.std.specs.Prelude.{◌≡◌, ◌+◌, ◌-◌, ℕ, length, slice_get, Some}
use Rattle.std.proofs.Common.{sym, ◌∙◌, ap, arith, subst}
use Rattle.std.specs.List.{list_all}
use Rattle.std.proofs.lemmas.Option.{slice_get_read}
use Rattle.class_file.specs.Lookup.{reference_seen}
use Rattle.machine_values.specs.Standing.{is_settled}
use Rattle.machine_invokes.specs.Choosing.{ChoosesStatic, RunsMethod}
use Rattle.machine_invokes.specs.Starting.{StartsClass, StartsAtTop}
use Rattle.machine_invokes.proofs.Started.{unsettled_starts, missing_starts, broken_starts, class_starts, all_found, if_ok}
use Rattle.machine_invokes.proofs.Taken.{same_last}
use Rattle.machine_invokes.proofs.starting.start_static.Goals as goal

pub returns-then-not-are_settled-clause-started : goal.returns-then-not-are_settled-clause-started
returns-then-not-are_settled-clause-started c =
    unsettled_starts c.args.world.now c.args.state.now (reference_seen c.args.named) c.args.given.now
    (ap (λ (n : ℕ). list_all (is_settled n) c.args.given.now) (sym c.count.ensures.count) ∙ sym c.are_settled.ensures ∙ c.if-not-are_settled.true)

pub returns-in-Missing-clause-started : goal.returns-in-Missing-clause-started
returns-in-Missing-clause-started c =
    let k = c.args.world.now in
    let old = c.args.state.now in
    let r = reference_seen c.args.named in
    let given = c.args.given.now in
    let f = c.index.result.now in
    let top : ℕ = c.len-top.result - 1 in
    let last : top + 1 ≡ length old.frames.items = omega (arith, old.frames.ok.0, c.requires.there) in
    let there : slice_get old.frames.items top ≡ Some f = slice_get_read old.frames.items c.len-top.result top f (omega (arith, old.frames.ok.0)) (omega arith) c.index.ensures in
    missing_starts k old r given f (λ rest g at. same_last old.frames.items rest top f g last there at) (subst (ChoosesStatic k f r given) c.in-Missing.is c.choose_static.ensures.chosen)

pub returns-in-Breaks-clause-started : goal.returns-in-Breaks-clause-started
returns-in-Breaks-clause-started c =
    let k = c.args.world.now in
    let old = c.args.state.now in
    let r = reference_seen c.args.named in
    let given = c.args.given.now in
    let f = c.index.result.now in
    let top : ℕ = c.len-top.result - 1 in
    let last : top + 1 ≡ length old.frames.items = omega (arith, old.frames.ok.0, c.requires.there) in
    let there : slice_get old.frames.items top ≡ Some f = slice_get_read old.frames.items c.len-top.result top f (omega (arith, old.frames.ok.0)) (omega arith) c.index.ensures in
    broken_starts k old r given f (λ rest g at. same_last old.frames.items rest top f g last there at) (subst (ChoosesStatic k f r given) c.in-Breaks.is c.choose_static.ensures.chosen)

pub start_class-requires-clause-method : goal.start_class-requires-clause-method
start_class-requires-clause-method c = subst (RunsMethod c.args.world.now) c.in-Runs.is c.choose_static.ensures.method

pub returns-in-Runs-clause-started : goal.returns-in-Runs-clause-started
returns-in-Runs-clause-started c =
    let k = c.args.world.now in
    let old = c.args.state.now in
    let r = reference_seen c.args.named in
    let given = c.args.given.now in
    let f = c.index.result.now in
    let top : ℕ = c.len-top.result - 1 in
    let last : top + 1 ≡ length old.frames.items = omega (arith, old.frames.ok.0, c.requires.there) in
    let there : slice_get old.frames.items top ≡ Some f = slice_get_read old.frames.items c.len-top.result top f (omega (arith, old.frames.ok.0)) (omega arith) c.index.ensures in
    let settled = ap (λ (n : ℕ). list_all (is_settled n) given) (sym c.count.ensures.count) ∙ sym c.are_settled.ensures ∙ c.if-not-are_settled.false in
    if_ok c.start_class.result (StartsClass k old c.start_class.new.state c.in-Runs.method.0) (StartsAtTop k old c.start_class.new.state r given)
    (λ start starts.
    class_starts k old r given f (λ rest g at. same_last old.frames.items rest top f g last there at) c.start_class.new.state c.in-Runs.method start
    (subst (ChoosesStatic k f r given) c.in-Runs.is c.choose_static.ensures.chosen) (all_found (is_settled (length old.heap.names)) given settled) starts)
    c.start_class.ensures.started
