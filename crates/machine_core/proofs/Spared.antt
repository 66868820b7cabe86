-- The core is refused only at an instruction that may need memory.
use Rattle.std.specs.Prelude.{◌≡◌, ℕ, Bool, true, false, List, Option, Some, None, refl}
use Rattle.std.specs.Option.{option_map}
use Rattle.std.proofs.Common.{sym, ◌∙◌, subst}
use Rattle.std.proofs.lemmas.Option.{same_Some}
use Rattle.class_file.specs.declared.pool.PoolEntry.{PoolEntry}
use Rattle.class_file.specs.Pool.{string_at, class_at, field_at}
use Rattle.class_world.specs.Tables.{Known}
use Rattle.class_machine.specs.declared.meaning.Basic.{Basic}
use Rattle.class_machine.specs.ClassFiles.{Place, invoked}
use Rattle.class_machine.specs.Operations.{Operation, Do, Refer, ReferClass, FieldAccess, Invoke, New, NewReferenceArray, NewArrays, CheckCast, InstanceOf}
use Rattle.class_machine.specs.Texts.{units_of}
use Rattle.class_machine.specs.Turn.{Frame}
use Rattle.class_machine.specs.Values.{Literal}
use Rattle.class_machine.specs.World.{World}
use Rattle.machine_code.specs.declared.operation.Operation as code
use Rattle.machine_code.specs.declared.operation.Operation.TheVariants as form
use Rattle.machine_values.specs.declared.state.MachineState.{MachineState}
use Rattle.machine_steps.specs.Programs.{Machine}
use Rattle.machine_parts.specs.Lines.{IsAt}
use Rattle.machine_basics.specs.Sparing.{NeedsMemory}
use Rattle.machine_core.specs.Sparing.{needs_memory_at, MayNeed, MayNeedBy}

-- the instruction names something in the constant pool
abbrev pub names_something : code.Operation → Bool
names_something (form.Do basic) = false
names_something (form.Switch keys) = false
names_something _ = true

-- what the pool names may need memory, if each thing of the kind may
named : {A : Type 0} (m : Machine) (w : World) (f : Frame Place) (g : A → Operation) (found : Option A) (operation : Operation) → ((a : A) → needs_memory_at m w f (g a) ≡ true) → option_map g found ≡ Some operation → needs_memory_at m w f operation ≡ true
named m w f g None operation each e = absurd cc
named m w f g (Some a) operation each e = subst (λ (o : Operation). needs_memory_at m w f o ≡ true) (same_Some (g a) operation e) (each a)

module _ (k : Known) (old : MachineState) (pool : List PoolEntry) where
  pub named_needs : (x : code.Operation) → names_something x ≡ true → MayNeedBy k old pool x
  named_needs (form.Do basic) own bytes operation e m left t f below is runs same = absurd cc
  named_needs (form.Switch keys) own bytes operation e m left t f below is runs same = absurd cc
  named_needs (form.Refer index) own bytes operation e m left t f below is runs same = named m t.world f (λ (text : List ℕ). Refer (Literal (units_of text))) (string_at pool index) operation (λ text. refl) e
  named_needs (form.ReferClass index) own bytes operation e m left t f below is runs same = named m t.world f ReferClass (class_at pool index) operation (λ class. refl) e
  named_needs (form.FieldAccess access index) own bytes operation e m left t f below is runs same = named m t.world f (FieldAccess access) (field_at pool index) operation (λ r. refl) e
  named_needs (form.Invoke mode index) own bytes operation e m left t f below is runs same = named m t.world f (Invoke mode) (invoked pool index mode) operation (λ r. refl) e
  named_needs (form.New index) own bytes operation e m left t f below is runs same = named m t.world f New (class_at pool index) operation (λ class. refl) e
  named_needs (form.NewReferenceArray index) own bytes operation e m left t f below is runs same = named m t.world f NewReferenceArray (class_at pool index) operation (λ class. refl) e
  named_needs (form.NewArrays index dims) own bytes operation e m left t f below is runs same = named m t.world f (λ (type : List ℕ). NewArrays type dims) (class_at pool index) operation (λ class. refl) e
  named_needs (form.CheckCast index) own bytes operation e m left t f below is runs same = named m t.world f CheckCast (class_at pool index) operation (λ class. refl) e
  named_needs (form.InstanceOf index) own bytes operation e m left t f below is runs same = named m t.world f InstanceOf (class_at pool index) operation (λ class. refl) e

  pub basic_needs : (basic : Basic) → NeedsMemory k old (Do basic) → MayNeedBy k old pool (form.Do basic)
  basic_needs basic needs bytes operation e m left t f below is runs same =
      subst (λ (o : Operation). needs_memory_at m t.world f o ≡ true) (same_Some (Do basic) operation e) (needs m left t f below is runs same)

  -- the instruction is that at the running frame's place
  pub may_need : (x : code.Operation) → IsAt k old pool x → MayNeedBy k old pool x → MayNeed k old
  may_need x at needs m left t f below operation is runs same line =
      let stands : Some at.operation ≡ Some operation = sym (at.stands m left t f below is runs same) ∙ line in
      subst (λ (o : Operation). needs_memory_at m t.world f o ≡ true) (same_Some at.operation operation stands) (needs at.bytes at.operation at.is m left t f below is runs same)
