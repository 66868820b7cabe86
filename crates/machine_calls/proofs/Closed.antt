-- The step of a state without frames is that of the calls.
use Rattle.std.specs.Prelude.{◌≡◌, List, [], ◌∷◌, map, reverse, length, refl}
use Rattle.std.proofs.Common.{sym, ap, ◌∙◌, subst, arith}
use Rattle.class_world.specs.Tables.{Known}
use Rattle.class_machine.specs.ClassFiles.{Place}
use Rattle.class_machine.specs.Turn.{Frame}
use Rattle.machine_natives.specs.Closing.{Closes}
use Rattle.machine_steps.specs.declared.step.Step.{Step}
use Rattle.machine_steps.specs.Parts.{Part, is_part, part_of_frames, TakesOr, Takes}
use Rattle.machine_steps.specs.Running.{seen_by}
use Rattle.machine_values.specs.declared.frames.Frame as kept
use Rattle.machine_values.specs.declared.script.Answer.{Answer}
use Rattle.machine_values.specs.declared.state.MachineState.{MachineState}

nothing : {X : Type 0} (xs : List X) → length xs ≡ 0 → xs ≡ []
nothing [] e = refl
nothing (x ∷ xs) e = absurd (omega arith)

pub takes_closed : (k : Known) (old new : MachineState) (before after : List Answer) (step : Step) → length old.frames.items ≡ 0 → Closes k old new before after step → Takes Part.Calls k old new before after step
takes_closed k old new before after step none closes m t is runs =
    let empty : t.frames ≡ [] = runs.frames.frames ∙ ap (λ (fs : List kept.Frame). map (seen_by m old.heap.names) (reverse fs)) (nothing old.frames.items none) in
    subst (λ b. TakesOr b m old new before after step t) (sym (ap (λ (fs : List (Frame Place)). is_part (part_of_frames m.files m.setting.classes fs) Part.Calls) empty)) (closes m t is runs empty)
