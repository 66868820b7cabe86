-- The part of an instruction by its form.
use Rattle.std.specs.Prelude.{◌≡◌, ℕ, List, Option, Some, None, refl}
use Rattle.std.specs.Option.{option_map}
use Rattle.std.proofs.Common.{subst}
use Rattle.std.proofs.lemmas.Option.{same_Some}
use Rattle.class_file.specs.declared.pool.PoolEntry.{PoolEntry}
use Rattle.class_file.specs.declared.types.ClassFile.{ClassFile}
use Rattle.class_file.specs.Pool.{string_at, class_at}
use Rattle.class_machine.specs.declared.kinds.Access.{Access}
use Rattle.class_machine.specs.declared.kinds.Kind.{Kind}
use Rattle.class_machine.specs.declared.kinds.Mode.{Mode}
use Rattle.class_machine.specs.declared.meaning.Basic.{Basic}
use Rattle.class_machine.specs.declared.meaning.Basic.TheVariants as basic
use Rattle.class_machine.specs.Classes.{Classes}
use Rattle.class_machine.specs.ClassFiles.{Place, table_keys, pair_keys}
use Rattle.class_machine.specs.Operations.{Operation, Do, Switch, Refer, ReferClass, NewReferenceArray, NewArrays, CheckCast, InstanceOf}
use Rattle.class_machine.specs.Texts.{units_of}
use Rattle.class_machine.specs.Turn.{Frame}
use Rattle.class_machine.specs.Values.{Literal}
use Rattle.machine_code.specs.declared.operation.KeyTable.TheVariants.{Range, Pairs}
use Rattle.machine_code.specs.declared.operation.Operation as code
use Rattle.machine_code.specs.declared.operation.Operation.TheVariants as form
use Rattle.machine_code.specs.Operations.{seen}
use Rattle.machine_steps.specs.Parts.{Part, part_of_operation}

-- ---- what the form is not

abbrev pub IsNoBasic : code.Operation → Type 0
IsNoBasic x = (b : Basic) → x ≡ form.Do b → ⊥

abbrev pub IsNoAccess : code.Operation → Type 0
IsNoAccess x = (access : Access) (index : ℕ) → x ≡ form.FieldAccess access index → ⊥

abbrev pub IsNoCall : code.Operation → Type 0
IsNoCall x = (mode : Mode) (index : ℕ) → x ≡ form.Invoke mode index → ⊥

abbrev pub IsNoAnnouncement : code.Operation → Type 0
IsNoAnnouncement x = (index : ℕ) → x ≡ form.New index → ⊥

module _ (files : List ClassFile) (cs : Classes) (f : Frame Place) where
  abbrev part : Operation → Part
  part = part_of_operation files cs f

  -- all that names nothing in the pool, but a return
  pub basic_core : (b : Basic) → ((kind : Option Kind) → b ≡ basic.Return kind → ⊥) → part_of_operation files cs f (Do b) ≡ Part.Core
  basic_core (basic.Return kind) other = absurd (other kind refl)
  basic_core _ other = refl

  pub named_core : {A : Type 0} (g : A → Operation) (found : Option A) (operation : Operation) → ((a : A) → part (g a) ≡ Part.Core) → option_map g found ≡ Some operation → part operation ≡ Part.Core
  named_core g None operation each e = absurd cc
  named_core g (Some a) operation each e = subst (λ (o : Operation). part o ≡ Part.Core) (same_Some (g a) operation e) (each a)

  switch_core : (keys operation : Operation) → part keys ≡ Part.Core → Some keys ≡ Some operation → part operation ≡ Part.Core
  switch_core keys operation is e = subst (λ (o : Operation). part o ≡ Part.Core) (same_Some keys operation e) is

  -- all that is no access of a field, no call and no announcement of an object
  pub form_core : (pool : List PoolEntry) (bytes : List ℕ) (x : code.Operation) (operation : Operation) → IsNoBasic x → IsNoAccess x → IsNoCall x → IsNoAnnouncement x → seen pool bytes x ≡ Some operation
      → part_of_operation files cs f operation ≡ Part.Core
  form_core pool bytes (form.Do b) operation no_basic no_access no_call no_new e = absurd (no_basic b refl)
  form_core pool bytes (form.Switch (Range table)) operation no_basic no_access no_call no_new e = switch_core (Switch (table_keys bytes table)) operation refl e
  form_core pool bytes (form.Switch (Pairs table)) operation no_basic no_access no_call no_new e = switch_core (Switch (pair_keys bytes table)) operation refl e
  form_core pool bytes (form.Refer index) operation no_basic no_access no_call no_new e = named_core (λ text. Refer (Literal (units_of text))) (string_at pool index) operation (λ a. refl) e
  form_core pool bytes (form.ReferClass index) operation no_basic no_access no_call no_new e = named_core ReferClass (class_at pool index) operation (λ a. refl) e
  form_core pool bytes (form.FieldAccess access index) operation no_basic no_access no_call no_new e = absurd (no_access access index refl)
  form_core pool bytes (form.Invoke mode index) operation no_basic no_access no_call no_new e = absurd (no_call mode index refl)
  form_core pool bytes (form.New index) operation no_basic no_access no_call no_new e = absurd (no_new index refl)
  form_core pool bytes (form.NewReferenceArray index) operation no_basic no_access no_call no_new e = named_core NewReferenceArray (class_at pool index) operation (λ a. refl) e
  form_core pool bytes (form.NewArrays index dims) operation no_basic no_access no_call no_new e = named_core (λ type. NewArrays type dims) (class_at pool index) operation (λ a. refl) e
  form_core pool bytes (form.CheckCast index) operation no_basic no_access no_call no_new e = named_core CheckCast (class_at pool index) operation (λ a. refl) e
  form_core pool bytes (form.InstanceOf index) operation no_basic no_access no_call no_new e = named_core InstanceOf (class_at pool index) operation (λ a. refl) e
