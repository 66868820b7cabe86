-- A call on a receiver, from the taking of the receiver and the arguments on.
use Rattle.std.specs.Prelude.{◌≡◌, ℕ, ◌&&◌, not, Bool, true, false, if◌then◌else◌, List, [], ◌∷◌, ◌++◌, map, reverse, length, Option, Some, None, refl}
use Rattle.std.specs.List.{AllByRecursion}
use Rattle.std.specs.Option.{option_map}
use Rattle.std.proofs.Common.{sym, ◌∙◌, ap, subst}
use Rattle.class_file.specs.Pool.{Reference}
use Rattle.class_world.specs.Tables.{Known}
use Rattle.class_machine.specs.declared.kinds.Fault.{Fault}
use Rattle.class_machine.specs.declared.kinds.Kind.{Kind}
use Rattle.class_machine.specs.declared.kinds.Mode.{Mode}
use Rattle.class_machine.specs.ClassFiles.{Place, field_constant, class_code}
use Rattle.class_machine.specs.Classes.{Method, is_constructor}
use Rattle.class_machine.specs.Effect as definition
use Rattle.class_machine.specs.Effect.{Effect}
use Rattle.class_machine.specs.Events as events
use Rattle.class_machine.specs.Machine.{State, moved}
use Rattle.class_machine.specs.Operations.{Invoke}
use Rattle.class_machine.specs.Turn as turns
use Rattle.class_machine.specs.Turn.{Turn, resolved, purpose_of, is_frameless, has_result_room, stops}
use Rattle.class_machine.specs.World.{World}
use Rattle.machine_code.specs.CodeLaws.{method_seen}
use Rattle.machine_code.specs.FirstLaws.{first_is_numbered}
use Rattle.machine_code.specs.NumberLaws.{one_numbered}
use Rattle.class_heads.specs.Hierarchy.{name_at}
use Rattle.class_heads.specs.Numbers.{IsNumbered, method_counts}
use Rattle.class_heads.specs.Searches.{MemberPlace}
use Rattle.std.proofs.lemmas.Option.{same_Some}
use Rattle.machine_values.specs.declared.frames.Frame.{Frame}
use Rattle.machine_values.specs.declared.frames.Purpose.{Purpose}
use Rattle.machine_values.specs.declared.frames.Purpose.TheVariants.{Ordinary, Constructs}
use Rattle.machine_values.specs.declared.names.Name.{Name}
use Rattle.machine_values.specs.declared.observed.Ending.{Ending}
use Rattle.machine_values.specs.declared.observed.Ending.TheVariants.{Broken}
use Rattle.machine_values.specs.declared.script.Answer.{Answer}
use Rattle.machine_values.specs.declared.state.MachineState.{MachineState}
use Rattle.machine_values.specs.declared.values.Ref.{Ref}
use Rattle.machine_values.specs.declared.values.Value.{Value}
use Rattle.machine_values.specs.Observed.{machine_ending}
use Rattle.machine_values.specs.Standing.{name_of, held, Settled}
use Rattle.machine_values.specs.States.{machine_purpose, is_known_object, is_known_purpose, IsFrameWithin}
use Rattle.machine_frames.specs.declared.calls.Receiver.{Receiver}
use Rattle.machine_frames.specs.declared.calls.Receiver.TheVariants.{Object, Announced}
use Rattle.machine_frames.specs.Calls.{kinds_for, called, is_receiver_within}
use Rattle.machine_frames.specs.Naming.{Naming}
use Rattle.machine_frames.specs.Undoing.{receiver_value}
use Rattle.machine_steps.specs.declared.step.Step.{Step}
use Rattle.machine_steps.specs.declared.step.Step.TheVariants.{Ended}
use Rattle.machine_steps.specs.Executing.{executes}
use Rattle.machine_steps.specs.Giving.{with_values}
use Rattle.machine_steps.specs.Going.{turned_runs}
use Rattle.machine_steps.specs.Moves.{Moves, MovesWithLocals, moved_by, faults}
use Rattle.machine_steps.specs.Programs.{Machine, IsMachine}
use Rattle.machine_steps.specs.Running.{seen_by, waiting, first_same, others_same, frames_are, moves_at, all_last}
use Rattle.machine_steps.specs.Runs.{IsMethod, Runs, Stepped}
use Rattle.machine_invocations.specs.Keeping.{Keeps, keeps_runs}
use Rattle.machine_invocations.specs.Methods.{classes_in, method_in, Sees}
use Rattle.machine_invocations.specs.Standards.{machine_of, by_machine}
use Rattle.machine_invocations.proofs.Locked.{seen_there}
use Rattle.machine_invokes.specs.declared.callees.Callee.TheVariants.{Null}
use Rattle.machine_invokes.specs.declared.invocation.Before.TheVariants as before_call
use Rattle.machine_invokes.specs.declared.invocation.Invocation.{Invocation}
use Rattle.machine_invokes.specs.Callees.{receiver_turn, StandsThere, Comes, CalleeIs, RunsOn}
use Rattle.machine_invokes.specs.Preparing.{runs_call, ReadyIn, Prepares, calls_on, purpose_for}
use Rattle.machine_invokes.specs.Taking.{Takes, TakesOn, TakeBreaks}
use Rattle.machine_invokes.specs.Undoing.{UndoneBy, CanUndo}
use Rattle.machine_invokes.proofs.SameTurn.{linked_same, token_same}

-- ---- one method has a number

pub one_seen : (k : Known) (number : ℕ) (m n : Method) → Sees k number m → Sees k number n → m ≡ n
one_seen k number m n sees other =
    let P : MemberPlace → Type 0 = λ place. method_in k place ≡ Some m in
    let counts = method_counts k.heads in
    let same : sees.place ≡ other.place =
    one_numbered counts number sees.place other.place (subst (λ x. IsNumbered counts x sees.place) (sym sees.numbered) (first_is_numbered k.heads sees.place sees.first))
    (subst (λ x. IsNumbered counts x other.place) (sym other.numbered) (first_is_numbered k.heads other.place other.first)) in
    same_Some m n (sym (subst P same sees.seen) ∙ other.seen)

-- ---- the purpose

pub purpose_seen : (k : Known) (m : Machine) (names : List Name) (special : Bool) (r : Reference)
    → machine_purpose m.setting.heads m.methods names (purpose_for special r) ≡ purpose_of (class_code m.files) m.setting.classes special r
purpose_seen k m names special r = by (special && is_constructor r) where
  by : (b : Bool) → machine_purpose m.setting.heads m.methods names (if b then Constructs else Ordinary) ≡ (if b then turns.Constructs else turns.Ordinary)
  by true = refl
  by false = refl

purpose_known : (count : ℕ) (special : Bool) (r : Reference) → is_known_purpose count (purpose_for special r) ≡ true
purpose_known count special r = by (special && is_constructor r) where
  by : (b : Bool) → is_known_purpose count (if b then Constructs else Ordinary) ≡ true
  by true = refl
  by false = refl

-- the effect of the instructions that call methods of objects
by_mode : (m : Machine) (r : Reference) (t : State Place) (f : turns.Frame Place) (mode : Mode) (special : Bool) → calls_on mode ≡ Some special
    → executes (Invoke mode r) m t f ≡ resolved (class_code m.files) m.setting.classes f t.world (definition.invoke_on special r f.content.operands f.content.locals)
by_mode m r t f Mode.Static special e = absurd (let bad : None ≡ Some special = e in cc)
by_mode m r t f Mode.Special true e = refl
by_mode m r t f Mode.Special false e = absurd (let bad : Some true ≡ Some false = e in cc)
by_mode m r t f Mode.Virtual false e = refl
by_mode m r t f Mode.Virtual true e = absurd (let bad : Some false ≡ Some true = e in cc)
by_mode m r t f Mode.Interface false e = refl
by_mode m r t f Mode.Interface true e = absurd (let bad : Some false ≡ Some true = e in cc)

module _ (k : Known) (old mid : MachineState) (special : Bool) (r : Reference) (kinds : List Kind) (receiver : Receiver) (given : List Value) (same : kinds_for r ≡ kinds) (takes : TakesOn kinds old receiver given mid) where
  abbrev before : Frame
  before = takes.takes.before

  abbrev after : Frame
  after = with_values takes.takes.before takes.takes.left

  pub names_same : mid.heap.names ≡ old.heap.names
  names_same = ap (λ (s : MachineState). s.heap.names) takes.takes.turned.same

  abbrev taken_state : (fields methods : ℕ → Reference) → State Place → State Place
  taken_state fields methods t = record t { frames = seen_by (machine_of k fields methods) old.heap.names after ∷ waiting (machine_of k fields methods) old.heap.names takes.takes.rest }

  module _ (fields methods : ℕ → Reference) (is : IsMachine k (machine_of k fields methods)) (left : List Answer) (t : State Place) (runs : Runs (machine_of k fields methods) old left t) where
    abbrev was : turns.Frame Place
    was = seen_by (machine_of k fields methods) old.heap.names before

    abbrev now : turns.Frame Place
    now = seen_by (machine_of k fields methods) old.heap.names after

    pub taken_runs : Runs (machine_of k fields methods) mid left (taken_state fields methods t)
    taken_runs = turned_runs (machine_of k fields methods) old mid left t takes.takes.rest before after takes.takes.turned (takes.takes.within (length old.heap.names)) runs

    within : IsFrameWithin (length old.heap.names) before
    within =
        let n = length old.heap.names in
        all_last (IsFrameWithin n) takes.takes.rest before (subst (AllByRecursion (IsFrameWithin n)) takes.takes.turned.before runs.frames.frames_within)

    pub stands_there : StandsThere k after old.heap.names special r receiver given fields methods
    stands_there = record {
      machine = is;
      fit = runs.shares.fit;
      known = takes.known.known (length old.heap.names) within.operands;
      fine = takes.settled.settled (length old.heap.names) within.operands;
    }

    by_receiver : (x : Receiver)
        → let c = called (record { heads = k.heads; methods = methods; names = old.heap.names }) special r x (map (held k.heads old.heap.names) given) now.content in
        resolved (class_code k.files) (classes_in k) was t.world c ≡ resolved (class_code k.files) (classes_in k) now t.world c
    by_receiver (Object a) =
        linked_same (class_code k.files) (classes_in k) was now.content now.content special r (map (held k.heads old.heap.names) given) t.world (option_map (name_of k.heads old.heap.names) a)
        (turns.instance_method (class_code k.files) (classes_in k) r ((classes_in k).method r))
    by_receiver (Announced class number) =
        token_same (class_code k.files) (classes_in k) was now.content now.content r (name_at k.heads class.0) number (map (held k.heads old.heap.names) given) t.world special

    -- what is executed
    pub executing : (mode : Mode) → calls_on mode ≡ Some special → executes (Invoke mode r) (machine_of k fields methods) t was ≡ receiver_turn k after old.heap.names special r receiver given fields methods t.world
    executing mode on =
        let n : Naming = record { heads = k.heads; methods = methods; names = old.heap.names } in
        by_mode (machine_of k fields methods) r t was mode special on ∙ ap (resolved (class_code k.files) (classes_in k) was t.world) (takes.calls n special r same) ∙ by_receiver receiver

  -- ---- the run is over

  pub on_ended : (new : MachineState) (ending : Ending) (other : events.Ending) → machine_ending ending ≡ other → Comes k after mid.heap.names special r receiver given (λ fields methods w. stops other)
      → (mode : Mode) → calls_on mode ≡ Some special → Moves k old new (Ended ending) (executes (Invoke mode r))
  on_ended new ending other ends comes mode on =
      let at_old = subst (λ (names : List Name). Comes k after names special r receiver given (λ fields methods w. stops other)) names_same comes in
      moves_at k old new (Ended ending) (executes (Invoke mode r)) takes.takes.rest before takes.takes.turned.before (λ m left t is runs.
      by_machine k (λ x. Runs x old left t → Stepped x new left (Ended ending) (moved_by (executes (Invoke mode r)) x t (seen_by x old.heap.names before) (waiting x old.heap.names takes.takes.rest))) m
      (λ fields methods there here.
      let x = machine_of k fields methods in
      subst (λ (turn : Turn Place). Stepped x new left (Ended ending) (moved (class_code k.files) (classes_in k) t.due turn t.world (seen_by x old.heap.names before) (waiting x old.heap.names takes.takes.rest)))
      (sym (executing fields methods there left t here mode on ∙ at_old fields methods (stands_there fields methods there left t here) t.world)) ends) is runs)

  -- ---- null

  pub on_null : (back new : MachineState) (step : Step) → Keeps k old back → MovesWithLocals k back new step (faults Fault.NullPointer) → CalleeIs k after mid.heap.names special r receiver given Null
      → (mode : Mode) → calls_on mode ≡ Some special → Moves k old new step (executes (Invoke mode r))
  on_null back new step keeps fails comes mode on =
      let at_old = subst (λ (names : List Name). CalleeIs k after names special r receiver given Null) names_same comes in
      moves_at k old new step (executes (Invoke mode r)) takes.takes.rest before takes.takes.turned.before (λ m left t is runs.
      by_machine k (λ x. Runs x old left t → Stepped x new left step (moved_by (executes (Invoke mode r)) x t (seen_by x old.heap.names before) (waiting x old.heap.names takes.takes.rest))) m
      (λ fields methods there here.
      let x = machine_of k fields methods in
      let below = waiting x old.heap.names takes.takes.rest in
      let f = seen_by x old.heap.names before in
      subst (λ (turn : Turn Place). Stepped x new left step (moved (class_code k.files) (classes_in k) t.due turn t.world f below))
      (sym (executing fields methods there left t here mode on ∙ at_old fields methods (stands_there fields methods there left t here) t.world))
      (fails x left t f below (seen_by x old.heap.names after).content there (keeps_runs k old back keeps x left t there here) (frames_are x old left t takes.takes.rest before here takes.takes.turned.before) refl)) is runs)

  -- ---- a method runs on the object

  module _ (number : ℕ) (at : Ref) (method : IsMethod k number) (on : RunsOn k after mid.heap.names special r receiver given number at) where
    callee : (m : Method) × Sees k number m
    callee = (method_seen k.heads (length k.files) (field_constant k.files) method.place method.first, seen_there k number method)

    abbrev runs_at : Machine → turns.Frame Place → World → Option Ref → List Value → Purpose → Turn Place
    runs_at x g w o values purpose =
        turns.runs (class_code x.files) x.setting.classes (machine_purpose x.setting.heads x.methods mid.heap.names purpose) g g.content w r callee.0
        (option_map (name_of x.setting.heads mid.heap.names) o) (map (held x.setting.heads mid.heap.names) values)

    pub on_prepares : (call : Invocation) → call.method.0 ≡ number → call.receiver ≡ Some at → call.arguments.items ≡ given → call.purpose ≡ purpose_for special r → (mode : Mode) → calls_on mode ≡ Some special → Prepares k old mid mode r call
    on_prepares call numbered object arguments purpose mode is_on = record {
      callee = callee.0;
      sees = subst (λ (n : ℕ). Sees k n callee.0) (sym numbered) callee.1;
      receiver = ap (is_known_object (length mid.heap.names)) object ∙ on.known;
      purpose = ap (is_known_purpose (length mid.heap.names)) purpose ∙ purpose_known (length mid.heap.names) special r;
      arguments = subst (AllByRecursion (Settled (length mid.heap.names))) (sym arguments) on.fine;
      room = λ m left t f below is runs top.
          by_machine k (λ x. Runs x mid left t → (is_frameless callee.0 && not (has_result_room (class_code x.files) x.setting.classes f f.content callee.0)) ≡ false) m
          (λ fields methods there here.
          let x = machine_of k fields methods in
          let goes = on.there fields methods (record { machine = there; fit = here.shares.fit; known = ap (is_receiver_within (length mid.heap.names)) on.receiver_is ∙ on.known; fine = on.fine }) in
          let is_frame : seen_by x mid.heap.names after ≡ f = first_same _ _ _ _ (sym (frames_are x mid left t takes.takes.rest after here takes.takes.turned.after) ∙ top) in
          subst (λ (g : turns.Frame Place). (is_frameless callee.0 && not (has_result_room (class_code k.files) (classes_in k) g g.content callee.0)) ≡ false) is_frame
          (goes.roomy fields methods mid.heap.names callee.0 callee.1)) is runs;
      ready = λ m left t f below is runs top.
          by_machine k (λ x. Runs x old left t → ReadyIn x mid left t f below (executes (Invoke mode r) x t f) (runs_call r callee.0 call mid)) m
          (λ fields methods there here.
          let x = machine_of k fields methods in
          let was_there = seen_by x old.heap.names before in
          let now_there = seen_by x old.heap.names after in
          let frames : was_there ∷ waiting x old.heap.names takes.takes.rest ≡ f ∷ below = sym (frames_are x old left t takes.takes.rest before here takes.takes.turned.before) ∙ top in
          let is_frame : was_there ≡ f = first_same _ _ _ _ frames in
          let are_below : waiting x old.heap.names takes.takes.rest ≡ below = others_same _ _ _ _ frames in
          let stands : StandsThere k after mid.heap.names special r receiver given fields methods = subst (λ (names : List Name). StandsThere k after names special r receiver given fields methods) (sym names_same) (stands_there fields methods there left t here) in
          let goes = on.there fields methods stands in
          let turn : executes (Invoke mode r) x t was_there ≡ receiver_turn k after mid.heap.names special r receiver given fields methods t.world =
          executing fields methods there left t here mode is_on ∙ ap (λ (names : List Name). receiver_turn k after names special r receiver given fields methods t.world) (sym names_same) in
          let at_mid : seen_by x mid.heap.names after ≡ now_there = ap (λ (names : List Name). seen_by x names after) names_same in
          subst (λ (g : turns.Frame Place). ReadyIn x mid left t g below (executes (Invoke mode r) x t g) (runs_call r callee.0 call mid)) is_frame
          (record {
            content = now_there.content;
            world = t.world;
            runs = subst (λ (fs : List (turns.Frame Place)). Runs x mid left (record { frames = now_there ∷ fs; world = t.world; due = t.due })) are_below (taken_runs fields methods there left t here);
            same =
                turn ∙ goes.turn t.world
                ∙ ap (λ (c : Method). turns.runs (class_code k.files) (classes_in k) (purpose_of (class_code k.files) (classes_in k) special r) (seen_by x mid.heap.names after) (seen_by x mid.heap.names after).content t.world r c (Some (name_of k.heads mid.heap.names at)) (map (held k.heads mid.heap.names) given))
                (one_seen k number goes.method callee.0 goes.sees callee.1)
                ∙ ap (λ (g : turns.Frame Place). turns.runs (class_code k.files) (classes_in k) (purpose_of (class_code k.files) (classes_in k) special r) g g.content t.world r callee.0 (Some (name_of k.heads mid.heap.names at)) (map (held k.heads mid.heap.names) given)) at_mid
                ∙ ap (λ (p : turns.Purpose). turns.runs (class_code k.files) (classes_in k) p now_there now_there.content t.world r callee.0 (Some (name_of k.heads mid.heap.names at)) (map (held k.heads mid.heap.names) given)) (sym (purpose_seen k x mid.heap.names special r))
                ∙ ap (λ (p : Purpose). runs_at x now_there t.world (Some at) given p) (sym purpose)
                ∙ ap (λ (o : Option Ref). runs_at x now_there t.world o given call.purpose) (sym object)
                ∙ ap (λ (vs : List Value). runs_at x now_there t.world call.receiver vs call.purpose) (sym arguments);
          })) is runs;
    }

    pub on_undone : (call : Invocation) → call.receiver ≡ Some at → call.arguments.items ≡ given → call.before ≡ before_call.Receiver → CanUndo old mid call
    on_undone call object arguments is = record {
      undone = subst (UndoneBy old mid call) (sym is)
          (subst (λ (vs : List Value). Takes old mid (reverse vs ++ receiver_value (Object call.receiver) ∷ [])) (sym arguments)
          (subst (λ (x : Receiver). Takes old mid (reverse given ++ receiver_value x ∷ [])) (on.receiver_is ∙ ap Object (sym object)) takes.takes));
    }

-- ---- by what the calls give

-- no arguments of these kinds, or no receiver, are on top
pub call_breaks : (k : Known) (old mid new : MachineState) (special : Bool) (r : Reference) (kinds : List Kind) → kinds_for r ≡ kinds → TakeBreaks kinds old mid → (mode : Mode) → calls_on mode ≡ Some special
    → Moves k old new (Ended Broken) (executes (Invoke mode r))
call_breaks k old mid new special r kinds same broken mode on =
    moves_at k old new (Ended Broken) (executes (Invoke mode r)) broken.rest broken.before broken.turned.before (λ m left t is runs.
    let n : Naming = record { heads = m.setting.heads; methods = m.methods; names = old.heap.names } in
    let f = seen_by m old.heap.names broken.before in
    subst (λ (turn : Turn Place). Stepped m new left (Ended Broken) (moved (class_code m.files) m.setting.classes t.due turn t.world f (waiting m old.heap.names broken.rest)))
    (sym (by_mode m r t f mode special on ∙ ap (resolved (class_code m.files) m.setting.classes f t.world) (broken.breaks n special r same))) refl)
