-- What becomes of a state by an instruction of a form.
use Rattle.std.specs.Prelude.{◌≡◌, ℕ, Bool, true, false, not, ◌⊎◌, List, Option, Some, None, Result, Ok, IfOk, OnErr, ℤ, refl}
use Rattle.std.specs.Option.{option_map}
use Rattle.std.proofs.Common.{sym, ap, ◌∙◌, subst, inl, inr}
use Rattle.std.proofs.lemmas.Option.{same_Some}
use Rattle.std.proofs.lemmas.Result.{IfOk-weaker}
use Rattle.class_file.specs.declared.pool.PoolEntry.{PoolEntry}
use Rattle.class_file.specs.Pool.{Reference, class_at, field_at}
use Rattle.class_world.specs.Tables.{Known}
use Rattle.class_machine.specs.declared.kinds.Access.{Access}
use Rattle.class_machine.specs.declared.kinds.Mode.{Mode}
use Rattle.class_machine.specs.declared.meaning.Basic.{Basic}
use Rattle.class_machine.specs.ClassFiles.{Place, table_keys, pair_keys, invoked}
use Rattle.class_machine.specs.Operations.{Operation, Do, Switch, ReferClass, FieldAccess, Invoke, New, NewReferenceArray, NewArrays, CheckCast, InstanceOf}
use Rattle.class_machine.specs.Turn.{Frame}
use Rattle.machine_code.specs.declared.operation.KeyTable.{KeyTable}
use Rattle.machine_code.specs.declared.operation.KeyTable.TheVariants.{Range, Pairs}
use Rattle.machine_code.specs.declared.operation.Operation as forms
use Rattle.machine_code.specs.declared.operation.Operation.TheVariants as code
use Rattle.machine_code.specs.Operations.{seen}
use Rattle.machine_values.specs.declared.script.Answer.{Answer}
use Rattle.machine_values.specs.declared.state.MachineState.{MachineState}
use Rattle.machine_steps.specs.declared.step.Step.{Step}
use Rattle.machine_steps.specs.declared.step.Step.TheVariants.{NotMine}
use Rattle.machine_steps.specs.Executing.{executes}
use Rattle.machine_steps.specs.Moves.{Moves}
use Rattle.machine_steps.specs.Parts.{Part, is_part, part_of_operation, method_called}
use Rattle.machine_steps.specs.Programs.{Machine}
use Rattle.machine_invocations.proofs.Begun.{on_err}
use Rattle.machine_basics.specs.Performed.{is_return}
use Rattle.machine_objects.specs.Switching.{StandsThere}
use Rattle.machine_parts.specs.Lines.{HasLine, TakesLine}
use Rattle.machine_parts.specs.Taken.{leaves_line, executes_line, named_line, nothing_named, moves_over}
use Rattle.machine_core.specs.declared.executing.ClassForm.{ClassForm}
use Rattle.machine_core.specs.Taking.{is_of_object, TakesCore}
use Rattle.machine_core.specs.ClassForms.{on_class}
use Rattle.machine_core.proofs.Standing.{of_method, basic_other, basic_own, access_own, access_other}

-- a return is left, and so never refused
pub basic_taking : {E : Type 0} (basic : Basic) (r : Result Step E) (return : Bool) → is_return basic ≡ return → (is_return basic ≡ true → r ≡ Ok NotMine) → OnErr r (not (is_return basic) ≡ true)
basic_taking {E} basic r true is left = subst (λ (x : Result Step E). OnErr x (not (is_return basic) ≡ true)) (sym (left is)) tt
basic_taking basic r false is left = on_err r (ap not is)

module _ (k : Known) (old new : MachineState) (step : Step) where
  -- ---- an instruction

  executed : (operation : Operation) → ((m : Machine) (f : Frame Place) → part_of_operation m.files m.setting.classes f operation ≡ Part.Core) → Moves k old new step (executes operation)
      → (left : List Answer) → TakesLine Part.Core k old new left left step operation
  executed operation own moves left =
      executes_line k old new left left step Part.Core operation (moves_over k old new left step operation moves) (λ m f. ap (λ part. is_part part Part.Core) (own m f))

  -- what the form is seen as
  same_line : (left : List Answer) (operation other : Operation) → Some operation ≡ Some other → TakesLine Part.Core k old new left left step operation → TakesLine Part.Core k old new left left step other
  same_line left operation other e takes = subst (λ (o : Operation). TakesLine Part.Core k old new left left step o) (same_Some operation other e) takes

  -- what the pool names, and what is left whatever it names
  module _ {A : Type 0} (g : A → Operation) (found : Option A) where
    pub names_core : (a : A) → Some a ≡ found → ((m : Machine) (f : Frame Place) → part_of_operation m.files m.setting.classes f (g a) ≡ Part.Core) → Moves k old new step (executes (g a))
        → (left : List Answer) (operation : Operation) → option_map g found ≡ Some operation → TakesLine Part.Core k old new left left step operation
    names_core a is own moves left operation e = named_line k old new left left step Part.Core g found a operation is (executed (g a) own moves left) e

    pub names_none : None ≡ found → (left : List Answer) (operation : Operation) → option_map g found ≡ Some operation → TakesLine Part.Core k old new left left step operation
    names_none is left operation e = nothing_named k old new left left step Part.Core g found operation is e

  names_other : {A : Type 0} (g : A → Operation) (found : Option A) → step ≡ NotMine → new ≡ old → ((a : A) (m : Machine) (f : Frame Place) → is_part (part_of_operation m.files m.setting.classes f (g a)) Part.Core ≡ false)
      → (left : List Answer) (operation : Operation) → option_map g found ≡ Some operation → TakesLine Part.Core k old new left left step operation
  names_other g None own same other left operation e = absurd cc
  names_other g (Some a) own same other left operation e = same_line left (g a) operation e (leaves_line k old new left left step Part.Core (g a) own same refl (other a))

  -- ---- what the code alone says

  pub switch_taken : (pool : List PoolEntry) (table : KeyTable) → ((keys : List ℤ) → StandsThere k old (Switch keys) → Moves k old new step (executes (Switch keys))) → TakesCore k old new step pool (code.Switch table)
  switch_taken pool table moves left bytes other e stands = by table e where
    by_keys : (keys : List ℤ) → Some (Switch keys) ≡ Some other → TakesLine Part.Core k old new left left step other
    by_keys keys is =
        let here : HasLine k old (Some (Switch keys)) = subst (λ o. HasLine k old o) (sym is) stands in
        same_line left (Switch keys) other is (executed (Switch keys) (λ m f. refl) (moves keys here) left)

    by : (keys : KeyTable) → seen pool bytes (code.Switch keys) ≡ Some other → TakesLine Part.Core k old new left left step other
    by (Range at) is = by_keys (table_keys bytes at) is
    by (Pairs at) is = by_keys (pair_keys bytes at) is

  -- calls and what announces an object are left
  pub call_left : (pool : List PoolEntry) (form : forms.Operation) → step ≡ NotMine → new ≡ old → ((mode : Mode) × (index : ℕ) × (form ≡ code.Invoke mode index)) ⊎ ((index : ℕ) × (form ≡ code.New index))
      → TakesCore k old new step pool form
  call_left pool form own same (inl call) = subst (λ (o : forms.Operation). TakesCore k old new step pool o) (sym call.2)
      (λ left bytes operation e stands. names_other (Invoke call.0) (invoked pool call.1 call.0) own same (λ r m f. of_method m.files m.setting.classes (method_called m.files m.setting.classes f call.0 r)) left operation e)
  call_left pool form own same (inr made) = subst (λ (o : forms.Operation). TakesCore k old new step pool o) (sym made.1)
      (λ left bytes operation e stands. names_other New (class_at pool made.0) own same (λ class m f. refl) left operation e)

-- a return is left, and all else that names nothing is executed
pub basic_taken : {E : Type 0} (k : Known) (old new : MachineState) (basic : Basic) (r : Result Step E) (pool : List PoolEntry) (return : Bool) → is_return basic ≡ return
    → (is_return basic ≡ true → r ≡ Ok NotMine) → (is_return basic ≡ true → new ≡ old) → (is_return basic ≡ false → IfOk r (λ step. Moves k old new step (executes (Do basic))))
    → IfOk r (λ step. TakesCore k old new step pool (code.Do basic))
basic_taken {E} k old new basic r pool true is left same moves =
    subst (λ (x : Result Step E). IfOk x (λ step. TakesCore k old new step pool (code.Do basic))) (sym (left is))
    (λ answers bytes operation e stands. same_line k old new NotMine answers (Do basic) operation e
    (leaves_line k old new answers answers NotMine Part.Core (Do basic) refl (same is) refl (λ m f. basic_other m.files m.setting.classes f basic is)))
basic_taken k old new basic r pool false is left same moves =
    IfOk-weaker r (λ step. Moves k old new step (executes (Do basic))) (λ step. TakesCore k old new step pool (code.Do basic))
    (λ step moved answers bytes operation e stands. same_line k old new step answers (Do basic) operation e
    (executed k old new step (Do basic) (λ m f. basic_own m.files m.setting.classes f basic is) moved answers)) (moves is)

-- ---- fields of objects, and classes

pub field_taken : {E : Type 0} (k : Known) (old new : MachineState) (result : Result Step E) (pool : List PoolEntry) (access this : Access) (index : ℕ) (r : Reference) → access ≡ this → is_of_object this ≡ true
    → Some r ≡ field_at pool index → IfOk result (λ step. Moves k old new step (executes (FieldAccess this r))) → IfOk result (λ step. TakesCore k old new step pool (code.FieldAccess access index))
field_taken k old new result pool access this index r same own is moves =
    IfOk-weaker result (λ step. Moves k old new step (executes (FieldAccess this r))) (λ step. TakesCore k old new step pool (code.FieldAccess access index))
    (λ step moved. subst (λ (a : Access). TakesCore k old new step pool (code.FieldAccess a index)) (sym same)
    (λ left bytes operation e stands. names_core k old new step (FieldAccess this) (field_at pool index) r is (λ m f. access_own m.files m.setting.classes f this r own) moved left operation e)) moves

pub field_left : (k : Known) (old : MachineState) (pool : List PoolEntry) (access this : Access) (index : ℕ) → access ≡ this → is_of_object this ≡ false → TakesCore k old old NotMine pool (code.FieldAccess access index)
field_left k old pool access this index same other left bytes operation e stands =
    names_other k old old NotMine (FieldAccess access) (field_at pool index) refl refl (λ r m f. access_other m.files m.setting.classes f access r (ap is_of_object same ∙ other)) left operation e

-- the instruction, with the name of the class
abbrev pub class_operation : ClassForm → List ℕ → Operation
class_operation ClassForm.Refer class = ReferClass class
class_operation ClassForm.NewReferenceArray class = NewReferenceArray class
class_operation (ClassForm.NewArrays dims) class = NewArrays class dims
class_operation ClassForm.CheckCast class = CheckCast class
class_operation ClassForm.InstanceOf class = InstanceOf class

class_named : (k : Known) (old new : MachineState) (step : Step) (pool : List PoolEntry) (form : ClassForm) (index : ℕ) (class : List ℕ) → Some class ≡ class_at pool index
    → Moves k old new step (executes (class_operation form class)) → TakesCore k old new step pool (on_class form index)
class_named k old new step pool ClassForm.Refer index class is moves left bytes other e stands = names_core k old new step ReferClass (class_at pool index) class is (λ m f. refl) moves left other e
class_named k old new step pool ClassForm.NewReferenceArray index class is moves left bytes other e stands = names_core k old new step NewReferenceArray (class_at pool index) class is (λ m f. refl) moves left other e
class_named k old new step pool (ClassForm.NewArrays dims) index class is moves left bytes other e stands = names_core k old new step (λ (named : List ℕ). NewArrays named dims) (class_at pool index) class is (λ m f. refl) moves left other e
class_named k old new step pool ClassForm.CheckCast index class is moves left bytes other e stands = names_core k old new step CheckCast (class_at pool index) class is (λ m f. refl) moves left other e
class_named k old new step pool ClassForm.InstanceOf index class is moves left bytes other e stands = names_core k old new step InstanceOf (class_at pool index) class is (λ m f. refl) moves left other e

pub class_taken : {E : Type 0} (k : Known) (old new : MachineState) (result : Result Step E) (pool : List PoolEntry) (form this : ClassForm) (index : ℕ) (class : List ℕ) → form ≡ this → Some class ≡ class_at pool index
    → IfOk result (λ step. Moves k old new step (executes (class_operation this class))) → IfOk result (λ step. TakesCore k old new step pool (on_class form index))
class_taken k old new result pool form this index class same is moves =
    IfOk-weaker result (λ step. Moves k old new step (executes (class_operation this class))) (λ step. TakesCore k old new step pool (on_class form index))
    (λ step moved. subst (λ (f : ClassForm). TakesCore k old new step pool (on_class f index)) (sym same) (class_named k old new step pool this index class is moved)) moves

-- the pool names no class there
pub class_nowhere : (k : Known) (old : MachineState) (pool : List PoolEntry) (form : ClassForm) (index : ℕ) → None ≡ class_at pool index → TakesCore k old old NotMine pool (on_class form index)
class_nowhere k old pool ClassForm.Refer index is left bytes other e stands = names_none k old old NotMine ReferClass (class_at pool index) is left other e
class_nowhere k old pool ClassForm.NewReferenceArray index is left bytes other e stands = names_none k old old NotMine NewReferenceArray (class_at pool index) is left other e
class_nowhere k old pool (ClassForm.NewArrays dims) index is left bytes other e stands = names_none k old old NotMine (λ (named : List ℕ). NewArrays named dims) (class_at pool index) is left other e
class_nowhere k old pool ClassForm.CheckCast index is left bytes other e stands = names_none k old old NotMine CheckCast (class_at pool index) is left other e
class_nowhere k old pool ClassForm.InstanceOf index is left bytes other e stands = names_none k old old NotMine InstanceOf (class_at pool index) is left other e

-- the instruction was of that form
pub form_taken : {E : Type 0} (k : Known) (old new : MachineState) (result : Result Step E) (pool : List PoolEntry) (form this : forms.Operation) → form ≡ this → IfOk result (λ step. TakesCore k old new step pool this)
    → IfOk result (λ step. TakesCore k old new step pool form)
form_taken k old new result pool form this same takes = subst (λ (o : forms.Operation). IfOk result (λ step. TakesCore k old new step pool o)) (sym same) takes
