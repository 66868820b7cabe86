-- To which part an instruction belongs.
use Rattle.std.specs.Prelude.{◌≡◌, ℕ, Bool, true, false, not, if◌then◌else◌, is_none, List, [], ◌∷◌, Option, Some, None, refl}
use Rattle.std.proofs.Common.{sym, ap, ◌∙◌, subst}
use Rattle.std.proofs.lemmas.Bool.{false≢true}
use Rattle.std.proofs.lemmas.Option.{same_Some}
use Rattle.class_file.specs.declared.pool.PoolEntry.{PoolEntry}
use Rattle.class_file.specs.declared.types.ClassFile.{ClassFile}
use Rattle.class_file.specs.Pool.{Reference, field_at}
use Rattle.class_world.specs.Tables.{Known}
use Rattle.class_machine.specs.declared.kinds.Access.{Access}
use Rattle.class_machine.specs.declared.meaning.Basic.{Basic}
use Rattle.class_machine.specs.declared.meaning.Basic.TheVariants as basic
use Rattle.class_machine.specs.Classes.{Method, Classes}
use Rattle.class_machine.specs.ClassFiles.{Place, file_named}
use Rattle.class_machine.specs.Operations.{Operation, Do, FieldAccess}
use Rattle.class_machine.specs.Turn.{Purpose, Ordinary, Constructs, Initialises, Within, Frame}
use Rattle.machine_code.specs.declared.operation.Operation as code
use Rattle.machine_code.specs.declared.operation.Operation.TheVariants as form
use Rattle.machine_code.specs.Operations.{seen}
use Rattle.machine_values.specs.declared.state.MachineState.{MachineState}
use Rattle.machine_steps.specs.Parts.{Part, is_part, part_of_method, part_of_return, part_of_operation, part_of_line, part_of_frames, part_of}
use Rattle.machine_steps.specs.Running.{seen_by}
use Rattle.machine_basics.specs.Performed.{is_return}
use Rattle.machine_parts.specs.Forms.{basic_core, form_core, named_core}
use Rattle.machine_parts.specs.Lines.{IsAt}
use Rattle.machine_parts.specs.Taken.{no_frames}
use Rattle.machine_core.specs.Taking.{is_of_object, is_core_form, IsOwn}

module _ (files : List ClassFile) (cs : Classes) where
  of_return : (purpose : Purpose) → is_part (part_of_return files cs purpose) Part.Core ≡ false
  of_return Ordinary = refl
  of_return Constructs = refl
  of_return (Initialises class) = refl
  of_return (Within wait) = refl

  of_file : (library : Bool) → is_part (if library then Part.Library else Part.Calls) Part.Core ≡ false
  of_file true = refl
  of_file false = refl

  pub of_method : (found : Option Method) → is_part (part_of_method files cs found) Part.Core ≡ false
  of_method None = refl
  of_method (Some m) = of_file (is_none (file_named files m.name.class))

  -- ---- an instruction

  module _ (f : Frame Place) where
    -- a return is that of another part
    pub basic_other : (b : Basic) → is_return b ≡ true → is_part (part_of_operation files cs f (Do b)) Part.Core ≡ false
    basic_other (basic.Return kind) return = of_return f.purpose
    basic_other _ return = absurd cc

    -- and all else that names nothing in the pool is the core's
    pub basic_own : (b : Basic) → is_return b ≡ false → part_of_operation files cs f (Do b) ≡ Part.Core
    basic_own b other = basic_core files cs f b (λ kind is. false≢true (sym other ∙ ap is_return is))

    pub access_own : (access : Access) (r : Reference) → is_of_object access ≡ true → part_of_operation files cs f (FieldAccess access r) ≡ Part.Core
    access_own Access.GetField r object = refl
    access_own Access.PutField r object = refl
    access_own Access.GetStatic r object = absurd cc
    access_own Access.PutStatic r object = absurd cc

    pub access_other : (access : Access) (r : Reference) → is_of_object access ≡ false → is_part (part_of_operation files cs f (FieldAccess access r)) Part.Core ≡ false
    access_other Access.GetField r static = absurd cc
    access_other Access.PutField r static = absurd cc
    access_other Access.GetStatic r static = refl
    access_other Access.PutStatic r static = refl

    no_return : (b : Basic) → not (is_return b) ≡ true → is_return b ≡ false
    no_return b other = by (is_return b) other where
      by : (return : Bool) → not return ≡ true → return ≡ false
      by true e = absurd cc
      by false e = refl

    -- it is told by the form alone
    own_form : (pool : List PoolEntry) (bytes : List ℕ) (x : code.Operation) (operation : Operation) → is_core_form x ≡ true → seen pool bytes x ≡ Some operation → part_of_operation files cs f operation ≡ Part.Core
    own_form pool bytes (form.Do b) operation own e = subst (λ (o : Operation). part_of_operation files cs f o ≡ Part.Core) (same_Some (Do b) operation e) (basic_own b (no_return b own))
    own_form pool bytes (form.FieldAccess access index) operation own e = named_core files cs f (FieldAccess access) (field_at pool index) operation (λ r. access_own access r own) e
    own_form pool bytes (form.Invoke mode index) operation own e = absurd cc
    own_form pool bytes (form.New index) operation own e = absurd cc
    own_form pool bytes x operation own e = form_core files cs f pool bytes x operation (λ b is. absurd cc) (λ access index is. absurd cc) (λ mode index is. absurd cc) (λ index is. absurd cc) e

-- ---- a step

-- the step is the core's by the form of the instruction
pub own_step : (k : Known) (state : MachineState) (pool : List PoolEntry) (form : code.Operation) → IsAt k state pool form → is_core_form form ≡ true → IsOwn k state
own_step k state pool form at own m left t is runs = by_frames t.frames refl where
  by_frames : (all : List (Frame Place)) → t.frames ≡ all → is_part (part_of m t) Part.Core ≡ true
  by_frames [] none = absurd (no_frames (seen_by m state.heap.names) state.frames.items (sym runs.frames.frames ∙ none) at.some)
  by_frames (f ∷ below) some =
      ap (λ (fs : List (Frame Place)). is_part (part_of_frames m.files m.setting.classes fs) Part.Core) some
      ∙ ap (λ (line : Option Operation). is_part (part_of_line m.files m.setting.classes f line) Part.Core) (at.stands m left t f below is runs some)
      ∙ ap (λ part. is_part part Part.Core) (own_form m.files m.setting.classes f pool at.bytes form at.operation own at.is)
