-- A part takes its step where it executes its instruction, and leaves any other one.
use Rattle.std.specs.Prelude.{◌≡◌, ◌<◌, Bool, true, false, List, [], ◌∷◌, map, reverse, length, Option, Some, None, refl}
use Rattle.std.proofs.Common.{sym, ap, ◌∙◌, subst, arith}
use Rattle.std.specs.Option.{option_map}
use Rattle.std.proofs.lemmas.List.{length-map, length-reverse}
use Rattle.std.proofs.lemmas.Option.{same_Some}
use Rattle.class_file.specs.declared.pool.PoolEntry.{PoolEntry}
use Rattle.class_world.specs.Tables.{Known}
use Rattle.class_machine.specs.ClassFiles.{Place, class_code}
use Rattle.class_machine.specs.Machine as machines
use Rattle.class_machine.specs.Machine.{State, moved}
use Rattle.class_machine.specs.Operations.{Operation}
use Rattle.class_machine.specs.Turn.{Frame, executed}
use Rattle.machine_code.specs.declared.operation.Operation as code
use Rattle.machine_values.specs.declared.observed.Ending.TheVariants.{Broken}
use Rattle.machine_values.specs.declared.script.Answer.{Answer}
use Rattle.machine_values.specs.declared.state.MachineState.{MachineState}
use Rattle.machine_steps.specs.declared.step.Step.{Step}
use Rattle.machine_steps.specs.declared.step.Step.TheVariants.{Ended, NotMine}
use Rattle.machine_steps.specs.Executing.{executes, MovesOver}
use Rattle.machine_steps.specs.Moves.{moved_by, Moves}
use Rattle.machine_steps.specs.Parts.{Part, is_part, part_of_operation, part_of_line, part_of_frames, part_of, TakesOr, Takes}
use Rattle.machine_steps.specs.Programs.{Machine}
use Rattle.machine_steps.specs.Running.{seen_by}
use Rattle.machine_steps.specs.Runs.{Stepped}
use Rattle.machine_parts.specs.Lines.{HasLine, IsAt, Executes, TakesLine, TakesForm}

pub no_frames : {A B : Type 0} (f : A → B) (xs : List A) → map f (reverse xs) ≡ [] → 0 < length xs → ⊥
no_frames f xs none some = let n = length-map (reverse xs) f in let r = length-reverse xs in let e = ap length none in omega arith

module _ (k : Known) (old new : MachineState) (before after : List Answer) (step : Step) (part : Part) where
  -- ---- an instruction

  -- it isn't the part's
  pub leaves : (m : Machine) (t : State Place) (f : Frame Place) (below : List (Frame Place)) (operation : Operation) → step ≡ NotMine → new ≡ old → after ≡ before
      → is_part (part_of_operation m.files m.setting.classes f operation) part ≡ false
      → Executes (is_part (part_of_operation m.files m.setting.classes f operation) part) m old new before after step t f below operation
  leaves m t f below operation own same left other = subst (λ b. Executes b m old new before after step t f below operation) (sym other) (own, same, left)

  -- it is the part's
  pub executes_own : (m : Machine) (t : State Place) (f : Frame Place) (below : List (Frame Place)) (operation : Operation) → Stepped m new after step (moved_by (executes operation) m t f below)
      → is_part (part_of_operation m.files m.setting.classes f operation) part ≡ true
      → Executes (is_part (part_of_operation m.files m.setting.classes f operation) part) m old new before after step t f below operation
  executes_own m t f below operation stepped own = subst (λ b. Executes b m old new before after step t f below operation) (sym own) stepped

  -- the same, of whatever state
  pub leaves_line : (operation : Operation) → step ≡ NotMine → new ≡ old → after ≡ before → ((m : Machine) (f : Frame Place) → is_part (part_of_operation m.files m.setting.classes f operation) part ≡ false) → TakesLine part k old new before after step operation
  leaves_line operation own same left other m t f below is runs some = leaves m t f below operation own same left (other m f)

  pub executes_line : (operation : Operation) → MovesOver k old new before after step (executes operation) → ((m : Machine) (f : Frame Place) → is_part (part_of_operation m.files m.setting.classes f operation) part ≡ true) → TakesLine part k old new before after step operation
  executes_line operation moves own m t f below is runs some = executes_own m t f below operation (moves m t f below is runs some) (own m f)

  -- what the pool names
  pub named_line : {A : Type 0} (g : A → Operation) (found : Option A) (a : A) (operation : Operation) → Some a ≡ found → TakesLine part k old new before after step (g a) → option_map g found ≡ Some operation → TakesLine part k old new before after step operation
  named_line g found a operation is takes e = subst (λ (o : Operation). TakesLine part k old new before after step o) (same_Some (g a) operation (ap (option_map g) is ∙ e)) takes

  pub nothing_named : {A : Type 0} (g : A → Operation) (found : Option A) (operation : Operation) → None ≡ found → option_map g found ≡ Some operation → TakesLine part k old new before after step operation
  nothing_named g found operation is e = let none : None ≡ Some operation = ap (option_map g) is ∙ e in absurd cc

  -- ---- the step

  -- what the machine makes of the instruction at the place is its step
  executed_step : (m : Machine) (t : State Place) (f : Frame Place) (below : List (Frame Place)) (line : Option Operation) → t.frames ≡ f ∷ below → (class_code m.files).line f.place ≡ line
      → Stepped m new after step (moved (class_code m.files) m.setting.classes t.due (executed (class_code m.files) m.setting.classes f t.world line) t.world f below)
      → Stepped m new after step (machines.step (class_code m.files) m.setting.classes t)
  executed_step m t f below line some there stepped =
      let P = λ (s : machines.Step (State Place)). Stepped m new after step s in
      subst (λ (all : List (Frame Place)). P (machines.stepped (class_code m.files) m.setting.classes t.due t.world all)) (sym some)
      (subst (λ (x : Option Operation). P (moved (class_code m.files) m.setting.classes t.due (executed (class_code m.files) m.setting.classes f t.world x) t.world f below)) (sym there) stepped)

  line_taken : (b : Bool) (m : Machine) (t : State Place) (f : Frame Place) (below : List (Frame Place)) (operation : Operation) → t.frames ≡ f ∷ below → (class_code m.files).line f.place ≡ Some operation
      → Executes b m old new before after step t f below operation → TakesOr b m old new before after step t
  line_taken true m t f below operation some there stepped = executed_step m t f below (Some operation) some there stepped
  line_taken false m t f below operation some there left = left

  -- of a state at whose place the instruction stands
  pub takes_form : (pool : List PoolEntry) (form : code.Operation) → IsAt k old pool form → TakesForm part k old new before after step pool form → Takes part k old new before after step
  takes_form pool form at takes m t is runs = by_frames t.frames refl where
    by_frames : (all : List (Frame Place)) → t.frames ≡ all → TakesOr (is_part (part_of m t) part) m old new before after step t
    by_frames [] none = absurd (no_frames (seen_by m old.heap.names) old.frames.items (sym runs.frames.frames ∙ none) at.some)
    by_frames (f ∷ below) some =
        subst (λ b. TakesOr b m old new before after step t)
        (sym (ap (λ (fs : List (Frame Place)). is_part (part_of_frames m.files m.setting.classes fs) part) some
        ∙ ap (λ (line : Option Operation). is_part (part_of_line m.files m.setting.classes f line) part) (at.stands m before t f below is runs some)))
        (line_taken (is_part (part_of_operation m.files m.setting.classes f at.operation) part) m t f below at.operation some (at.stands m before t f below is runs some)
        (takes at.bytes at.operation at.is at.stands m t f below is runs some))

  -- a state without an instruction isn't the part's
  pub leaves_nowhere : step ≡ NotMine → new ≡ old → after ≡ before → is_part Part.Calls part ≡ false → HasLine k old None → Takes part k old new before after step
  leaves_nowhere own same left other nowhere m t is runs = by_frames t.frames refl where
    left_alone : (of : Part) → is_part of part ≡ false → TakesOr (is_part of part) m old new before after step t
    left_alone of none = subst (λ b. TakesOr b m old new before after step t) (sym none) (own, same, left)

    by_frames : (all : List (Frame Place)) → t.frames ≡ all → TakesOr (is_part (part_of m t) part) m old new before after step t
    by_frames [] none = left_alone (part_of m t) (ap (λ (fs : List (Frame Place)). is_part (part_of_frames m.files m.setting.classes fs) part) none ∙ other)
    by_frames (f ∷ below) some = left_alone (part_of m t)
        (ap (λ (fs : List (Frame Place)). is_part (part_of_frames m.files m.setting.classes fs) part) some
        ∙ ap (λ (line : Option Operation). is_part (part_of_line m.files m.setting.classes f line) part) (nowhere m before t f below is runs some) ∙ other)

-- where it is that of the calls, the run is Broken
pub breaks_nowhere : (k : Known) (old new : MachineState) (before after : List Answer) → 0 < length old.frames.items → HasLine k old None → Takes Part.Calls k old new before after (Ended Broken)
breaks_nowhere k old new before after many nowhere m t is runs = by_frames t.frames refl where
  by_frames : (all : List (Frame Place)) → t.frames ≡ all → TakesOr (is_part (part_of m t) Part.Calls) m old new before after (Ended Broken) t
  by_frames [] none = absurd (no_frames (seen_by m old.heap.names) old.frames.items (sym runs.frames.frames ∙ none) many)
  by_frames (f ∷ below) some =
      let there = nowhere m before t f below is runs some in
      subst (λ b. TakesOr b m old new before after (Ended Broken) t)
      (sym (ap (λ (fs : List (Frame Place)). is_part (part_of_frames m.files m.setting.classes fs) Part.Calls) some ∙ ap (λ (line : Option Operation). is_part (part_of_line m.files m.setting.classes f line) Part.Calls) there))
      (executed_step k old new before after (Ended Broken) Part.Calls m t f below None some there refl)

-- ---- from what calls promise

-- the script's answers are as they were
pub moves_over : (k : Known) (old new : MachineState) (before : List Answer) (step : Step) (operation : Operation) → Moves k old new step (executes operation) → MovesOver k old new before before step (executes operation)
moves_over k old new before step operation moves m t f below is runs some = moves m before t f below is runs some
