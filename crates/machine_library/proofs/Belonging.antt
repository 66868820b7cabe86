-- Which instructions are the library's.
use Rattle.std.specs.Prelude.{◌≡◌, ℕ, suc, ◌-◌, ◌<◌, false, List, [], ◌∷◌, map, reverse, take, length, slice_get, Option, Some, None, refl}
use Rattle.std.specs.Option.{option_map}
use Rattle.std.proofs.Common.{sym, ap, ◌∙◌, subst, arith}
use Rattle.std.proofs.lemmas.Option.{same_Some}
use Rattle.class_file.specs.declared.pool.PoolEntry.{PoolEntry}
use Rattle.class_file.specs.declared.types.ClassFile.{ClassFile}
use Rattle.class_file.specs.Pool.{Reference, class_at, field_at}
use Rattle.class_machine.specs.declared.kinds.Access.{Access}
use Rattle.class_machine.specs.declared.kinds.Access.TheVariants as access
use Rattle.class_machine.specs.Classes.{Classes}
use Rattle.class_machine.specs.ClassFiles.{Place}
use Rattle.class_machine.specs.Machine.{State}
use Rattle.class_machine.specs.Operations.{Operation, FieldAccess, New}
use Rattle.class_machine.specs.Turn as turns
use Rattle.machine_code.specs.declared.operation.Operation as code
use Rattle.machine_code.specs.declared.operation.Operation.TheVariants as form
use Rattle.machine_code.specs.Operations.{seen}
use Rattle.machine_parts.specs.Forms.{IsNoBasic, IsNoCall, form_core}
use Rattle.machine_steps.specs.Parts.{Part, is_part, part_of_return, part_of_operation}
use Rattle.machine_steps.specs.Programs.{Machine}
use Rattle.machine_steps.specs.Running.{seen_by, first_same, frames_are, split_last}
use Rattle.machine_steps.specs.Runs.{Runs}
use Rattle.machine_values.specs.declared.frames.Frame.{Frame}
use Rattle.machine_values.specs.declared.frames.Purpose.{Purpose}
use Rattle.machine_values.specs.declared.frames.Purpose.TheVariants.{Ordinary, Constructs, Initialises, Within}
use Rattle.machine_values.specs.declared.names.Name.{Name}
use Rattle.machine_values.specs.declared.script.Answer.{Answer}
use Rattle.machine_values.specs.declared.state.MachineState.{MachineState}
use Rattle.machine_values.specs.States.{machine_purpose}
use Rattle.machine_returns.specs.Returns.{is_within, waits_below, brings_text}

-- ---- all else is left

module _ (files : List ClassFile) (cs : Classes) (f : turns.Frame Place) where
  access_left : (how : Access) (r : Reference) → is_part (part_of_operation files cs f (FieldAccess how r)) Part.Library ≡ false
  access_left access.GetStatic r = refl
  access_left access.PutStatic r = refl
  access_left access.GetField r = refl
  access_left access.PutField r = refl

  named_left : {A : Type 0} (g : A → Operation) (found : Option A) (operation : Operation) → ((a : A) → is_part (part_of_operation files cs f (g a)) Part.Library ≡ false) → option_map g found ≡ Some operation → is_part (part_of_operation files cs f operation) Part.Library ≡ false
  named_left g None operation each e = absurd cc
  named_left g (Some a) operation each e = subst (λ (o : Operation). is_part (part_of_operation files cs f o) Part.Library ≡ false) (same_Some (g a) operation e) (each a)

  pub form_left : (pool : List PoolEntry) (bytes : List ℕ) (x : code.Operation) (operation : Operation) → IsNoBasic x → IsNoCall x → seen pool bytes x ≡ Some operation → is_part (part_of_operation files cs f operation) Part.Library ≡ false
  form_left pool bytes (form.Do b) operation no_basic no_call e = absurd (no_basic b refl)
  form_left pool bytes (form.Invoke mode index) operation no_basic no_call e = absurd (no_call mode index refl)
  form_left pool bytes (form.FieldAccess how index) operation no_basic no_call e = named_left (FieldAccess how) (field_at pool index) operation (access_left how) e
  form_left pool bytes (form.New index) operation no_basic no_call e = named_left New (class_at pool index) operation (λ class. refl) e
  form_left pool bytes x operation no_basic no_call e = ap (λ part. is_part part Part.Library) (form_core files cs f pool bytes x operation no_basic (λ how index same. cc) no_call (λ index same. cc) e)

-- ---- returns

module _ (m : Machine) (names : List Name) where
  purpose_part : (purpose : Purpose) → is_part (part_of_return m.files m.setting.classes (machine_purpose m.setting.heads m.methods names purpose)) Part.Library ≡ is_within purpose
  purpose_part Ordinary = refl
  purpose_part Constructs = refl
  purpose_part (Initialises class) = refl
  purpose_part (Within wait) = refl

last_or_none : {X : Type 0} (xs : List X) → 0 < length xs → (x : X) × (slice_get xs (length xs - 1) ≡ Some x)
last_or_none [] some = absurd (omega arith)
last_or_none (x ∷ []) some = (x, refl)
last_or_none (x ∷ y ∷ ys) some =
    let r = last_or_none (y ∷ ys) (let e : 0 < suc (length ys) = omega arith in e) in
    (r.0, ap (slice_get (x ∷ y ∷ ys)) (let e : suc (suc (length ys)) - 1 ≡ suc (suc (length ys) - 1) = omega arith in e) ∙ r.1)

no_frames : {A B : Type 0} (g : A → B) (xs : List A) (y : B) (ys : List B) → map g (reverse xs) ≡ y ∷ ys → 0 < length xs
no_frames g [] y ys e = absurd cc
no_frames g (x ∷ xs) y ys e = omega arith

-- a return is the library's where the frame's result goes to a call of the library
pub return_part : (state : MachineState) (m : Machine) (left : List Answer) (t : State Place) (f : turns.Frame Place) (below : List (turns.Frame Place)) → Runs m state left t → t.frames ≡ f ∷ below
    → is_part (part_of_return m.files m.setting.classes f.purpose) Part.Library ≡ brings_text state
return_part state m left t f below runs some =
    let xs = state.frames.items in
    let many = no_frames (seen_by m state.heap.names) xs f below (sym runs.frames.frames ∙ some) in
    let last = last_or_none xs many in
    let g = last.0 in
    let rest = take (length xs - 1) xs in
    let split = split_last xs (length xs - 1) g (omega arith) last.1 in
    let same : seen_by m state.heap.names g ≡ f = first_same _ _ _ _ (sym (frames_are m state left t rest g runs split) ∙ some) in
    subst (λ (h : turns.Frame Place). is_part (part_of_return m.files m.setting.classes h.purpose) Part.Library ≡ brings_text state) same
    (purpose_part m state.heap.names g.purpose ∙ sym (ap waits_below last.1))
