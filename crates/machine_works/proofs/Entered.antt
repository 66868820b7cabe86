-- Into the method that gives a text.
use Rattle.std.specs.Prelude.{◌≡◌, Bool, true, false, if◌then◌else◌, nat_le, List, ℕ, [], ◌∷◌, Option, Some, None, refl}
use Rattle.std.proofs.Common.{sym, ap, subst}
use Rattle.class_file.specs.Pool.{Reference}
use Rattle.class_world.specs.Tables.{Known}
use Rattle.class_machine.specs.Classes.{Method, member_text}
use Rattle.class_machine.specs.ClassFiles.{Place, class_code}
use Rattle.class_machine.specs.Events as events
use Rattle.class_machine.specs.Machine.{State, moved}
use Rattle.class_machine.specs.Turn as turns
use Rattle.class_machine.specs.Turn.{stops, enters}
use Rattle.class_machine.specs.LibraryCalls as calls
use Rattle.class_machine.specs.Values as machine
use Rattle.class_machine.specs.World.{World}
use Rattle.machine_values.specs.declared.frames.Purpose.TheVariants.{Within}
use Rattle.machine_values.specs.declared.frames.Wait.{Wait}
use Rattle.machine_values.specs.declared.observed.Ending.TheVariants.{Unresolved}
use Rattle.machine_values.specs.declared.state.MachineState.{MachineState}
use Rattle.machine_values.specs.declared.values.Ref.{Ref}
use Rattle.machine_values.specs.declared.values.Value.TheVariants.{Reference as Pointer}
use Rattle.machine_values.specs.Standing.{name_of}
use Rattle.machine_values.specs.States.{machine_wait}
use Rattle.machine_steps.specs.declared.step.Step.{Step}
use Rattle.machine_steps.specs.declared.step.Step.TheVariants.{Ended}
use Rattle.machine_steps.specs.Moves.{Moves}
use Rattle.machine_steps.specs.Programs.{Machine}
use Rattle.machine_steps.specs.Runs.{Stepped}
use Rattle.machine_invocations.specs.Entering.{enters_with}
use Rattle.machine_works.specs.Finishing.{calls_within}
use Rattle.machine_works.proofs.Ended.{is_quiet}

module _ (k : Known) (old new : MachineState) (callee : Method) (object : Ref) (wait : Wait) where
  pub native_text : (text : List ℕ) → callee.is_native ≡ true → text ≡ member_text callee.name → Moves k old new (Ended (Unresolved text)) (calls_within callee object wait old)
  native_text text native same m left t f below is runs top =
      subst (λ (b : Bool). Stepped m new left (Ended (Unresolved text)) (moved (class_code m.files) m.setting.classes t.due
      (if b then stops (events.Unresolved (member_text callee.name)) else enters (class_code m.files) m.setting.classes (turns.Within (machine_wait m.setting.heads m.methods old.heap.names wait)) f.content t.world callee.name callee
      (Some (name_of m.setting.heads old.heap.names object)) (machine.Reference (name_of m.setting.heads old.heap.names object) ∷ []) ((class_code m.files).method callee.name)) t.world f below))
      (sym native) (ap events.Unresolved same)

  pub enters_text : (step : Step) (r : Reference) → callee.is_native ≡ false → r ≡ callee.name → Moves k old new step (enters_with r callee (Some object) (Pointer object ∷ []) (Within wait) old) → Moves k old new step (calls_within callee object wait old)
  enters_text step r native same moves m left t f below is runs top =
      subst (λ (b : Bool). Stepped m new left step (moved (class_code m.files) m.setting.classes t.due
      (if b then stops (events.Unresolved (member_text callee.name)) else enters (class_code m.files) m.setting.classes (turns.Within (machine_wait m.setting.heads m.methods old.heap.names wait)) f.content t.world callee.name callee
      (Some (name_of m.setting.heads old.heap.names object)) (machine.Reference (name_of m.setting.heads old.heap.names object) ∷ []) ((class_code m.files).method callee.name)) t.world f below))
      (sym native)
      (subst (λ (n : Reference). Stepped m new left step (moved (class_code m.files) m.setting.classes t.due
      (enters (class_code m.files) m.setting.classes (turns.Within (machine_wait m.setting.heads m.methods old.heap.names wait)) f.content t.world n callee
      (Some (name_of m.setting.heads old.heap.names object)) (machine.Reference (name_of m.setting.heads old.heap.names object) ∷ []) ((class_code m.files).method callee.name)) t.world f below))
      same (moves m left t f below is runs top))

-- ---- what gives a text says nothing

module _ (m : Machine) (t : State Place) (f : turns.Frame Place) (below : List (turns.Frame Place)) (w : World) (callee : Method) (a : machine.Name) (wait : calls.Wait) where
  abbrev at_entry : Option (turns.Entry Place) → turns.Turn Place
  at_entry e = enters (class_code m.files) m.setting.classes (turns.Within wait) f.content w callee.name callee (Some a) (machine.Reference a ∷ []) e

  fitting : (b : Bool) (e : turns.Entry Place) → is_quiet m t f below (if b then turns.Enters (turns.entered (turns.Within wait) callee (Some a) (machine.Reference a ∷ []) e) f.content (turns.entering (turns.lock_of callee (Some a)) w) else stops events.Broken) ≡ true
  fitting true e = refl
  fitting false e = refl

  entry_quiet : (o : Option (turns.Entry Place)) → is_quiet m t f below (at_entry o) ≡ true
  entry_quiet None = refl
  entry_quiet (Some e) = fitting (nat_le (machine.arguments_width (machine.Reference a ∷ [])) e.locals) e

  native_or : (b : Bool) → is_quiet m t f below (if b then stops (events.Unresolved (member_text callee.name)) else at_entry ((class_code m.files).method callee.name)) ≡ true
  native_or true = refl
  native_or false = entry_quiet ((class_code m.files).method callee.name)

  pub within_quiet : is_quiet m t f below (turns.enter_within (class_code m.files) m.setting.classes f.content w callee a wait) ≡ true
  within_quiet = native_or callee.is_native
