use Rattle.std.specs.Prelude.{Some, ℤ}
use Rattle.std.proofs.Common.{rules, ap, ◌∙◌}
use Rattle.std.specs.Int.{w32}
use Rattle.std.proofs.lemmas.Int.{to_z-of_z}
use Rattle.class_machine.specs.ClassFiles.{target_pc}
use Rattle.class_machine.specs.Effect as definition
use Rattle.class_machine.specs.Effect.{key_target}
use Rattle.class_machine.specs.Operations.{Switch}
use Rattle.machine_code.specs.Keys.{keys_at}
use Rattle.machine_code.specs.Views.{code_seen}
use Rattle.machine_objects.proofs.Asked.{breaks_moves}
use Rattle.machine_objects.proofs.Switched.{switch_form, no_code, switch_moves, frame_pc}
use Rattle.machine_objects.proofs.switches.switch.Goals as goal

pub returns-in_default-clause-moves : goal.returns-in_default-clause-moves
returns-in_default-clause-moves c keys stands = no_code c.args.world.now c.args.state.now c.args.state.now keys c.in_default.ensures.code stands

pub returns-in_default-take_key-clause-moves : goal.returns-in_default-take_key-clause-moves
returns-in_default-take_key-clause-moves c keys stands =
    breaks_moves c.args.world.now c.args.state.now c.take_key.new.state (Switch keys) (λ room. definition.switch keys) (switch_form keys) (c.in_default-take_key.ensures.taken keys)

pub returns-clause-moves : goal.returns-clause-moves
returns-clause-moves c keys stands =
    let old = c.args.state.now in
    let switches = c.in-Some-take_key.ensures.taken in
    let x = c.index.result.now in
    switch_moves c.args.world.now old c.take_key.new.state c.in-Some-take_key.key keys switches c.in-Some.code c.in-Some.ensures.code stands x.pc c.switch_target.result
    (frame_pc old c.take_key.new.state c.in-Some-take_key.key switches c.in-Some-top_of.top x c.in-Some-top_of.ensures.top c.index.ensures)
    (c.switch_target.ensures.target ∙ ap (λ (i : ℤ). target_pc x.pc (key_target (keys_at (code_seen c.in-Some.code) x.pc) i 1) (Some (code_seen c.in-Some.code))) (to_z-of_z w32 c.in-Some-take_key.key (search rules)))
    c.switch_target.ensures.keys
    c.go_on.new.state c.go_on.result c.go_on.ensures.moves
