-- What the machine makes of a method that is to run, by what it is.
use Rattle.std.specs.Prelude.{◌≡◌, ℕ, ◌&&◌, ◌||◌, not, Bool, true, false, if◌then◌else◌, is_some, List, [], ◌∷◌, map, Option, Some, None, refl}
use Rattle.std.specs.List.{AllByRecursion}
use Rattle.std.specs.Option.{option_map}
use Rattle.std.proofs.Common.{sym, ap, ◌∙◌, subst}
use Rattle.boot_library.specs.declared.rule.LibraryRule.{LibraryRule}
use Rattle.class_file.specs.Pool.{Reference}
use Rattle.class_world.specs.Tables.{Known}
use Rattle.class_machine.specs.Classes.{Method}
use Rattle.class_machine.specs.ClassFiles.{Place, class_code}
use Rattle.class_machine.specs.Events as events
use Rattle.class_machine.specs.Machine.{State, moved}
use Rattle.class_machine.specs.Natives.{respond, native_event}
use Rattle.class_machine.specs.Turn as turns
use Rattle.class_machine.specs.Turn.{Turn, stops, has_result_room, is_frameless, with_receiver, is_this_or_super, responded, ruled, worked, enters, by_body, by_kind}
use Rattle.class_machine.specs.Values.{Name, Held}
use Rattle.machine_values.specs.declared.frames.Purpose.{Purpose}
use Rattle.machine_values.specs.declared.frames.Purpose.TheVariants as purpose
use Rattle.machine_values.specs.declared.observed.Event.{Event}
use Rattle.machine_values.specs.declared.script.Answer.{Answer}
use Rattle.machine_values.specs.declared.state.MachineState.{MachineState}
use Rattle.machine_values.specs.declared.values.Ref.{Ref}
use Rattle.machine_values.specs.declared.values.Value.{Value}
use Rattle.machine_values.specs.Standing.{name_of, held, Settled}
use Rattle.machine_values.specs.States.{machine_purpose, is_known_object}
use Rattle.machine_steps.specs.declared.step.Step.{Step}
use Rattle.machine_steps.specs.Moves.{Moves}
use Rattle.machine_steps.specs.Programs.{Machine, IsMachine}
use Rattle.machine_steps.specs.Runs.{Runs, Stepped}
use Rattle.machine_invocations.specs.Entering.{enters_with}
use Rattle.machine_natives.specs.Calls.{values_given, calls_native, CallsNative}
use Rattle.machine_natives.specs.declared.calling.Called.TheVariants as called
use Rattle.machine_invokes.specs.declared.invocation.Invocation.{Invocation}
use Rattle.machine_invokes.specs.Preparing.{runs_call, is_own}
use Rattle.machine_calling.specs.Ran.{constructs, HasRoom, Goes, LacksAnswer}
use Rattle.machine_calling.proofs.Owned.{enters_own, responded_own}

pub given_settled : (n : ℕ) (o : Option Ref) (vs : List Value) → is_known_object n o ≡ true → AllByRecursion (Settled n) vs → AllByRecursion (Settled n) (values_given o vs)
given_settled n None vs known all = all
given_settled n (Some at) vs known all = (known, all)

super_is : (m : Machine) (old : MachineState) (p : Purpose) → constructs p ≡ is_this_or_super (class_code m.files) m.setting.classes (machine_purpose m.setting.heads m.methods old.heap.names p)
super_is m old purpose.Ordinary = refl
super_is m old purpose.Constructs = refl
super_is m old (purpose.Initialises class) = refl
super_is m old (purpose.Within wait) = refl

module _ (old : MachineState) (r : Reference) (callee : Method) (call : Invocation) (m : Machine) (t : State Place) (f : turns.Frame Place) where
  abbrev pub receiver : Option Name
  receiver = option_map (name_of m.setting.heads old.heap.names) call.receiver

  abbrev pub given : List Held
  given = map (held m.setting.heads old.heap.names) call.arguments.items

  abbrev kept : turns.Purpose
  kept = machine_purpose m.setting.heads m.methods old.heap.names call.purpose

  abbrev super : Bool
  super = is_this_or_super (class_code m.files) m.setting.classes kept

  abbrev answered : Turn Place
  answered = responded (class_code m.files) m.setting.classes f f.content super (native_event t.world callee.name (with_receiver receiver given)) (respond m.setting.classes t.world callee.name)

  abbrev by_rule : Option LibraryRule → Turn Place
  by_rule o = by_body (class_code m.files) m.setting.classes kept f f.content t.world r callee receiver given o

  -- there is room for the result, where the method has no frame
  abbrev Roomy : Type 0
  Roomy = (is_frameless callee && not (has_result_room (class_code m.files) m.setting.classes f f.content callee)) ≡ false

  roomy : Roomy → runs_call r callee call old m t f ≡ (if callee.is_native then answered else by_rule callee.rule)
  roomy room = ap (λ (b : Bool). if b then stops events.Broken else (if callee.is_native then answered else by_rule callee.rule)) room

  -- a native method
  pub native_turn : Roomy → callee.is_native ≡ true → runs_call r callee call old m t f ≡ calls_native callee call.receiver call.arguments.items (constructs call.purpose) old m t f
  native_turn room native =
      roomy room ∙ ap (λ (b : Bool). if b then answered else by_rule callee.rule) native
      ∙ ap (λ (b : Bool). responded (class_code m.files) m.setting.classes f f.content b (native_event t.world callee.name (with_receiver receiver given)) (respond m.setting.classes t.world callee.name)) (sym (super_is m old call.purpose))

  -- what the rule says
  pub rule_turn : (rule : LibraryRule) → Roomy → callee.is_native ≡ false → callee.rule ≡ Some rule
      → runs_call r callee call old m t f ≡ worked (class_code m.files) m.setting.classes f f.content t.world (constructs call.purpose) (ruled (class_code m.files) m.setting.classes t.world rule receiver given)
  rule_turn rule room plain has =
      roomy room ∙ ap (λ (b : Bool). if b then answered else by_rule callee.rule) plain ∙ ap by_rule has
      ∙ ap (λ (b : Bool). worked (class_code m.files) m.setting.classes f f.content t.world b (ruled (class_code m.files) m.setting.classes t.world rule receiver given)) (sym (super_is m old call.purpose))

  -- a method with code
  values_same : (o : Option Ref) → with_receiver (option_map (name_of m.setting.heads old.heap.names) o) given ≡ map (held m.setting.heads old.heap.names) (values_given o call.arguments.items)
  values_same None = refl
  values_same (Some at) = refl

  pub enter_turn : callee.is_native ≡ false → callee.rule ≡ None → runs_call r callee call old m t f ≡ enters_with r callee call.receiver (values_given call.receiver call.arguments.items) call.purpose old m t f
  enter_turn plain none =
      let bare : is_frameless callee ≡ false = ap (λ (b : Bool). b || is_some callee.rule) plain ∙ ap (λ (o : Option LibraryRule). is_some o) none in
      roomy (ap (λ (b : Bool). b && not (has_result_room (class_code m.files) m.setting.classes f f.content callee)) bare)
      ∙ ap (λ (b : Bool). if b then answered else by_rule callee.rule) plain ∙ ap by_rule none
      ∙ ap (λ (vs : List Held). enters (class_code m.files) m.setting.classes kept f.content t.world r callee receiver vs ((class_code m.files).method callee.name)) (values_same call.receiver)

-- ---- what running them comes to

module _ (k : Known) (old new : MachineState) (r : Reference) (callee : Method) (call : Invocation) where
  pub enter_goes : (step : Step) (left : List Answer) → callee.is_native ≡ false → callee.rule ≡ None → Moves k old new step (enters_with r callee call.receiver (values_given call.receiver call.arguments.items) call.purpose old)
      → Goes k old new left left step (runs_call r callee call old)
  enter_goes step left plain none moves = record {
    moves = λ m t f below is runs top.
        subst (λ (x : Turn Place). Stepped m new left step (moved (class_code m.files) m.setting.classes t.due x t.world f below)) (sym (enter_turn old r callee call m t f plain none)) (moves m left t f below is runs top);
    own = λ m t f below is runs top.
        ap is_own (enter_turn old r callee call m t f plain none)
        ∙ enters_own m f (machine_purpose m.setting.heads m.methods old.heap.names call.purpose) t.world r callee (receiver old r callee call m t f) (map (held m.setting.heads old.heap.names) (values_given call.receiver call.arguments.items))
        ((class_code m.files).method callee.name);
  }

  module _ (before after : List Answer) (room : HasRoom k old before callee) (native : callee.is_native ≡ true) where
    pub native_goes : (step : Step) → CallsNative k old new before after callee call.receiver call.arguments.items (constructs call.purpose) (called.Done step) → Goes k old new before after step (runs_call r callee call old)
    native_goes step takes = record {
      moves = λ m t f below is runs top.
          subst (λ (x : Turn Place). Stepped m new after step (moved (class_code m.files) m.setting.classes t.due x t.world f below)) (sym (native_turn old r callee call m t f (room m t f below is runs top) native)) (takes.moves m t f below is runs top);
      own = λ m t f below is runs top.
          ap is_own (native_turn old r callee call m t f (room m t f below is runs top) native)
          ∙ responded_own m f (constructs call.purpose) (native_event t.world callee.name (with_receiver (receiver old r callee call m t f) (given old r callee call m t f))) (respond m.setting.classes t.world callee.name) (takes.fits m t is runs);
    }

    pub native_lacks : (event : Event) → CallsNative k old new before after callee call.receiver call.arguments.items (constructs call.purpose) (called.Lacks event) → LacksAnswer k old new before after event (runs_call r callee call old)
    native_lacks event lacks = record {
      same = lacks.same;
      answers = lacks.answers;
      turn = λ m t f below is runs top. native_turn old r callee call m t f (room m t f below is runs top) native ∙ lacks.turn m t f is runs;
    }
