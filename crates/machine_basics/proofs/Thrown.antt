-- Objects that are thrown.
use Rattle.std.specs.Prelude.{◌≡◌, ℕ, ◌==◌, ◌||◌, Bool, true, false, if◌then◌else◌, nat_lt, is_some, List, [], ◌∷◌, length, slice_get, Option, Some, None, refl}
use Rattle.std.specs.Option.{option_map}
use Rattle.std.specs.Str.{bytes_eq}
use Rattle.std.proofs.Common.{sym, ◌∙◌, ap, subst}
use Rattle.std.proofs.lemmas.Bool.{and_parts, ltb-true, false≢true}
use Rattle.aj_names.specs.declared.ids.ClassId.{ClassId}
use Rattle.aj_names.specs.declared.types.FieldType.{FieldType}
use Rattle.class_heads.specs.declared.types.ClassHead.{ClassHead}
use Rattle.class_heads.specs.Hierarchy.{TypeName, before_semicolon, type_named, type_of_descriptor, is_array, place_of, name_at, is_among_supertypes, is_type_below, is_subtype}
use Rattle.class_world.specs.Tables.{Known}
use Rattle.class_machine.specs.Values.{class_of, throwable_class, string_class, class_class}
use Rattle.class_machine.specs.Classes.{Classes}
use Rattle.class_machine.specs.Events as events
use Rattle.class_machine.specs.Turn as turns
use Rattle.class_machine.specs.Machine.{State, moved}
use Rattle.class_machine.specs.ClassFiles.{Place, class_code}
use Rattle.machine_values.specs.declared.values.Ref.{Ref}
use Rattle.machine_values.specs.declared.names.Maker.{Maker}
use Rattle.machine_values.specs.declared.names.Maker.TheVariants.{Class, Array}
use Rattle.machine_values.specs.declared.names.Name.{Name}
use Rattle.machine_values.specs.declared.names.Name.TheVariants.{Made, Literal, ClassObject}
use Rattle.machine_values.specs.declared.observed.Ending.TheVariants.{Broken}
use Rattle.machine_values.specs.declared.script.Answer.{Answer}
use Rattle.machine_values.specs.declared.state.MachineState.{MachineState}
use Rattle.machine_values.specs.Standing.{maker_name, name_in, name_of}
use Rattle.machine_values.specs.Types.{type_name}
use Rattle.machine_requests.specs.Telling.{AreDistinct, AreFit, is_plain_base, is_fit_maker}
use Rattle.machine_requests.specs.TellingLaws.{array_is_array, fit_at}
use Rattle.machine_steps.specs.declared.step.Step.{Step}
use Rattle.machine_steps.specs.declared.step.Step.TheVariants.{Ended}
use Rattle.machine_steps.specs.Moves.{Moves, MovesWithLocals, raises}
use Rattle.machine_steps.specs.Programs.{Machine, IsMachine}
use Rattle.machine_steps.specs.Runs.{Runs, Stepped}
use Rattle.machine_basics.specs.Turns.{throws}

-- ---- types that are no Throwable

-- no array is one
array_below : (heads : List ClassHead) (low : List ℕ) → is_array low ≡ true → is_subtype heads low throwable_class ≡ false
array_below heads [] h = absurd (false≢true h)
array_below heads (b ∷ bytes) h = by (b == 91) h where
  by : (bracket : Bool) → bracket ≡ true
      → is_type_below heads (if bracket then (if bracket then TypeName.Array (type_of_descriptor bytes) else (if b == 76 then TypeName.Class (before_semicolon bytes) else TypeName.Primitive (b ∷ bytes))) else TypeName.Class (b ∷ bytes)) (type_named throwable_class)
      ≡ false
  by true e = refl
  by false e = absurd (false≢true e)

-- nor is a class that isn't there
missing_below : (heads : List ClassHead) (low : List ℕ) → is_array low ≡ false → bytes_eq low throwable_class ≡ false → place_of heads low ≡ None → is_subtype heads low throwable_class ≡ false
missing_below heads low class other none =
    ap (λ (b : Bool). is_type_below heads (if b then type_of_descriptor low else TypeName.Class low) (type_named throwable_class)) class
    ∙ ap (λ (b : Bool). b || is_among_supertypes heads (place_of heads low) (place_of heads throwable_class)) other
    ∙ ap (λ o. is_among_supertypes heads o (place_of heads throwable_class)) none

pub is_some_number : (o : Option ClassId) → is_some (option_map (λ (class : ClassId). class.0) o) ≡ is_some o
is_some_number None = refl
is_some_number (Some class) = refl

none_of : (o : Option ℕ) → is_some o ≡ false → o ≡ None
none_of None h = refl
none_of (Some x) h = absurd (false≢true (sym h))

module _ (heads : List ClassHead) (distinct : AreDistinct heads) (maker : Maker) (fit : is_fit_maker (length heads) maker ≡ true) where
  pub no_class : (class : ClassId) → maker ≡ Class class → is_some (place_of heads (name_at heads class.0)) ≡ false → is_subtype heads (maker_name heads maker) throwable_class ≡ false
  no_class class is none =
      let within = sym (ap (is_fit_maker (length heads)) is) ∙ fit in
      let found = distinct.different class.0 (ltb-true class.0 (length heads) within) in
      absurd (false≢true (sym none ∙ ap is_some found))

  pub no_array : (type : FieldType) → maker ≡ Array type → is_subtype heads (maker_name heads maker) throwable_class ≡ false
  no_array type is =
      let array = and_parts (is_plain_base type.base) (nat_lt 0 type.dims) (sym (ap (is_fit_maker (length heads)) is) ∙ fit) in
      ap (λ x. is_subtype heads (maker_name heads x) throwable_class) is ∙ array_below heads (type_name type) (array_is_array type array.1)

module _ (heads : List ClassHead) (names : List Name) (at : ℕ) (distinct : AreDistinct heads) (fit : AreFit (length heads) names) where
  pub fit_there : (maker : Maker) (k : ℕ) → slice_get names at ≡ Some (Made maker k) → is_fit_maker (length heads) maker ≡ true
  fit_there maker k there = fit_at heads distinct names at (Made maker k) fit there

  pub no_literal : (units : List ℕ) → slice_get names at ≡ Some (Literal units) → is_some (place_of heads string_class) ≡ false → is_subtype heads (class_of (name_in heads (slice_get names at))) throwable_class ≡ false
  no_literal units there none = ap (λ o. is_subtype heads (class_of (name_in heads o)) throwable_class) there ∙ missing_below heads string_class refl refl (none_of (place_of heads string_class) none)

  pub no_class_object : (type : FieldType) → slice_get names at ≡ Some (ClassObject type) → is_some (place_of heads class_class) ≡ false → is_subtype heads (class_of (name_in heads (slice_get names at))) throwable_class ≡ false
  no_class_object type there none = ap (λ o. is_subtype heads (class_of (name_in heads o)) throwable_class) there ∙ missing_below heads class_class refl refl (none_of (place_of heads class_class) none)

-- ---- what becomes of the state

abbrev pub Tells : Known → MachineState → Ref → Bool → Type 0
Tells k old x below = AreDistinct k.heads → AreFit (length k.heads) old.heap.names → is_subtype k.heads (class_of (name_of k.heads old.heap.names x)) throwable_class ≡ below

module _ (k : Known) (old new : MachineState) (x : Ref) where
  test_is : (below : Bool) → Tells k old x below → (m : Machine) (left : List Answer) (t : State Place) → IsMachine k m → Runs m old left t
      → m.setting.classes.is_subtype (class_of (name_of m.setting.heads old.heap.names x)) throwable_class ≡ below
  test_is below tells m left t is runs =
      ap (λ (cs : Classes). cs.is_subtype (class_of (name_of m.setting.heads old.heap.names x)) throwable_class) is.classes
      ∙ ap (λ (heads : List ClassHead). is_subtype k.heads (class_of (name_of heads old.heap.names x)) throwable_class) is.heads
      ∙ tells is.distinct (subst (λ (heads : List ClassHead). AreFit (length heads) old.heap.names) is.heads runs.shares.fit)

  abbrev by_test : Bool → Machine → State Place → turns.Frame Place → turns.Turn Place
  by_test b m t f = if b then turns.Raises None (name_of m.setting.heads old.heap.names x) f.content t.world else turns.stops events.Broken

  pub no_throwable : Tells k old x false → Moves k old new (Ended Broken) (throws old x)
  no_throwable tells m left t f below is runs same =
      subst (λ (b : Bool). Stepped m new left (Ended Broken) (moved (class_code m.files) m.setting.classes t.due (by_test b m t f) t.world f below)) (sym (test_is false tells m left t is runs)) refl

  pub throwable : (step : Step) → Tells k old x true → MovesWithLocals k old new step (raises (λ m. name_of m.setting.heads old.heap.names x)) → Moves k old new step (throws old x)
  throwable step tells moves m left t f below is runs same =
      subst (λ (b : Bool). Stepped m new left step (moved (class_code m.files) m.setting.classes t.due (by_test b m t f) t.world f below)) (sym (test_is true tells m left t is runs))
      (moves m left t f below f.content is runs same refl)
