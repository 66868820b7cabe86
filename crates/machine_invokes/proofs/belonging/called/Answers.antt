use Rattle.std.specs.Prelude.{None}
use Rattle.std.proofs.Common.{sym, ◌∙◌}
use Rattle.class_file.specs.Lookup.{reference_seen}
use Rattle.machine_invocations.proofs.Seen.{seen_method}
use Rattle.machine_invokes.proofs.Taken.{last_stands, none_stand}
use Rattle.machine_invokes.proofs.Invoked.{called_nowhere, nothing_found, called_on_none, called_on_object, running_method}
use Rattle.machine_invokes.proofs.belonging.called.Goals as goal

pub returns-in_default-clause-found : goal.returns-in_default-clause-found
returns-in_default-clause-found c =
    called_nowhere c.args.world.now c.args.state.now c.args.mode (reference_seen c.args.named) None
    (sym c.deref.ensures.value ∙ none_stand c.deref.result.now c.in_default.ensures.value)

pub returns-in_default-find_method-clause-found : goal.returns-in_default-find_method-clause-found
returns-in_default-find_method-clause-found c = nothing_found c.args.world.now c.args.state.now c.args.mode (reference_seen c.args.named) c.in_default-find_method.ensures

pub returns-in_default-receiver_of-clause-found : goal.returns-in_default-receiver_of-clause-found
returns-in_default-receiver_of-clause-found c =
    called_on_none c.args.world.now c.args.state.now c.args.mode (reference_seen c.args.named) _ c.in-Some.frame.now (sym c.deref.ensures.value ∙ last_stands c.deref.result.now c.in-Some.frame.now c.in-Some.ensures.value)
    c.in-Some-find_method.found c.in_default-receiver_of.ensures c.in-Some-find_method.ensures

pub returns-in_default-receiver_of-clause-method : goal.returns-in_default-receiver_of-clause-method
returns-in_default-receiver_of-clause-method c = seen_method c.args.world.now c.in-Some-find_method.found.0 c.in-Some-find_method.ensures.method c.in-Some-find_method.ensures.sees

pub selected_on-requires-clause-frame : goal.selected_on-requires-clause-frame
selected_on-requires-clause-frame c =
    running_method c.args.world.now c.args.state.now _ c.in-Some.frame.now (sym c.deref.ensures.value ∙ last_stands c.deref.result.now c.in-Some.frame.now c.in-Some.ensures.value) c.requires.formed.frames

pub selected_on-requires-clause-found : goal.selected_on-requires-clause-found
selected_on-requires-clause-found c = seen_method c.args.world.now c.in-Some-find_method.found.0 c.in-Some-find_method.ensures.method c.in-Some-find_method.ensures.sees

pub returns-clause-found : goal.returns-clause-found
returns-clause-found c =
    called_on_object c.args.world.now c.args.state.now c.args.mode (reference_seen c.args.named) _ c.in-Some.frame.now (sym c.deref.ensures.value ∙ last_stands c.deref.result.now c.in-Some.frame.now c.in-Some.ensures.value)
    c.in-Some-find_method.found c.in-Some-receiver_of.at c.selected_on.result c.in-Some-receiver_of.ensures c.in-Some-find_method.ensures c.selected_on.ensures.selected
