-- A call on a token: the constructor runs on a new object.
use Rattle.std.specs.Prelude.{◌≡◌, ℕ, ◌+◌, ◌≤◌, ◌&&◌, not, Bool, true, false, if◌then◌else◌, nat_lt, List, [], ◌∷◌, ◌++◌, map, length, Option, Some, refl}
use Rattle.std.specs.List.{AllByRecursion}
use Rattle.std.specs.Option.{option_map}
use Rattle.std.proofs.Common.{sym, ◌∙◌, ap, subst, arith, length-append}
use Rattle.std.proofs.lemmas.Bool.{lt-ltb, ltb-true}
use Rattle.aj_names.specs.declared.ids.ClassId.{ClassId}
use Rattle.class_file.specs.Pool.{Reference}
use Rattle.class_heads.specs.Hierarchy.{name_at}
use Rattle.class_world.specs.Tables.{Known}
use Rattle.class_machine.specs.declared.kinds.Kind.{Kind}
use Rattle.class_machine.specs.declared.kinds.Mode.{Mode}
use Rattle.class_machine.specs.ClassFiles.{Place, field_constant, class_code}
use Rattle.class_machine.specs.Classes.{Method}
use Rattle.class_machine.specs.Events as events
use Rattle.class_machine.specs.Machine.{State, moved}
use Rattle.class_machine.specs.Operations.{Invoke}
use Rattle.class_machine.specs.Turn as turns
use Rattle.class_machine.specs.Turn.{Turn, frame_at, by_kind, built, build_made, is_frameless, has_result_room, stops}
use Rattle.class_machine.specs.Values as machine
use Rattle.class_machine.specs.Values.{Content, Held, filled_in, filled_local}
use Rattle.class_machine.specs.World.{World, make}
use Rattle.machine_code.specs.CodeLaws.{method_seen}
use Rattle.machine_values.specs.declared.frames.Frame.{Frame}
use Rattle.machine_values.specs.declared.frames.Purpose.{Purpose}
use Rattle.machine_values.specs.declared.frames.Purpose.TheVariants.{Ordinary}
use Rattle.machine_values.specs.declared.names.Name.{Name}
use Rattle.machine_values.specs.declared.observed.Ending.TheVariants.{Broken}
use Rattle.machine_values.specs.declared.script.Answer.{Answer}
use Rattle.machine_values.specs.declared.state.MachineState.{MachineState}
use Rattle.machine_values.specs.declared.values.Local.{Local}
use Rattle.machine_values.specs.declared.values.Ref.{Ref}
use Rattle.machine_values.specs.declared.values.Value.{Value}
use Rattle.machine_values.specs.Standing.{name_of, held, Settled}
use Rattle.machine_values.specs.States.{machine_purpose, is_known_object, is_known_purpose, IsFrameWithin}
use Rattle.machine_frames.specs.declared.calls.Receiver.TheVariants.{Announced}
use Rattle.machine_frames.specs.Calls.{kinds_for}
use Rattle.machine_frames.specs.Effects.{operands_of, locals_of}
use Rattle.machine_frames.specs.Naming.{Naming, object}
use Rattle.machine_requests.specs.Growth.{all_held_stay, frame_stays}
use Rattle.machine_requests.specs.Objects.{IsNew}
use Rattle.machine_requests.specs.Shares.{Others, Shares, others_of}
use Rattle.machine_steps.specs.declared.step.Step.TheVariants.{Ended}
use Rattle.machine_steps.specs.Executing.{executes}
use Rattle.machine_steps.specs.Giving.{with_values}
use Rattle.machine_steps.specs.Going.{goes_on_runs}
use Rattle.machine_steps.specs.Moves.{Moves, moved_by}
use Rattle.machine_steps.specs.Programs.{Machine, IsMachine}
use Rattle.machine_steps.specs.Running.{seen_by, waiting, first_same, others_same, frames_are, moves_at, all_last}
use Rattle.machine_steps.specs.Runs.{IsMethod, Runs, Stepped}
use Rattle.machine_steps.specs.Within.{settled_more, frame_more}
use Rattle.machine_invocations.specs.Methods.{classes_in, Sees}
use Rattle.machine_invocations.specs.Standards.{machine_of, by_machine}
use Rattle.machine_invocations.proofs.Locked.{seen_there}
use Rattle.machine_invokes.specs.declared.invocation.Invocation.{Invocation}
use Rattle.machine_invokes.specs.Building.{IsMade, FillsFrame, FillsToken}
use Rattle.machine_invokes.specs.Callees.{BuildsThere, Builds}
use Rattle.machine_invokes.specs.Choosing.{LacksRoom}
use Rattle.machine_invokes.specs.Preparing.{runs_call, ReadyIn, Prepares, calls_on}
use Rattle.machine_invokes.specs.Taking.{TakesOn}
use Rattle.machine_invokes.proofs.OnCalls.{one_seen, names_same, taken_runs, stands_there, executing}
use Rattle.machine_invokes.proofs.SameTurn.{runs_same}

module _ (k : Known) (old mid new : MachineState) (special : Bool) (r : Reference) (kinds : List Kind) (class : ClassId) (token : ℕ) (given : List Value) (same : kinds_for r ≡ kinds)
    (takes : TakesOn kinds old (Announced class token) given mid) (at : Ref) (operands : List Value) (locals : List Local) (fills : FillsToken token mid new at operands locals) (is_made : IsMade k class.0 mid.heap new.heap at)
    (number : ℕ) (method : IsMethod k number) (builds : Builds k (with_values takes.takes.before takes.takes.left) mid.heap.names special r (Announced class token) given number class token) where
  abbrev before : Frame
  before = takes.takes.before

  abbrev after : Frame
  after = with_values takes.takes.before takes.takes.left

  abbrev frame : FillsFrame token at operands locals new takes.takes.rest after
  frame = fills.frames takes.takes.rest after takes.takes.turned.after

  abbrev name : Name
  name = fills.added.name

  mid_names : mid.heap.names ≡ old.heap.names
  mid_names = names_same k old mid special r kinds (Announced class token) given same takes

  names_more : new.heap.names ≡ old.heap.names ++ name ∷ []
  names_more = fills.added.names ∙ ap (λ (names : List Name). names ++ name ∷ []) mid_names

  at_within : nat_lt at.0 (length new.heap.names) ≡ true
  at_within =
      let len : length new.heap.names ≡ length mid.heap.names + 1 = ap length fills.added.names ∙ length-append mid.heap.names (name ∷ []) in
      let place = fills.added.place in
      lt-ltb at.0 (length new.heap.names) (omega arith)

  module _ (fields methods : ℕ → Reference) (is : IsMachine k (machine_of k fields methods)) (left : List Answer) (t : State Place) (runs : Runs (machine_of k fields methods) old left t) where
    abbrev x : Machine
    x = machine_of k fields methods

    abbrev class_there : List ℕ
    class_there = name_at k.heads class.0

    abbrev made : machine.Name × World
    made = make (classes_in k) t.world class_there

    abbrev now : turns.Frame Place
    now = seen_by x old.heap.names after

    abbrev filled : turns.Frame Place
    filled = seen_by x new.heap.names frame.after

    abbrev begun : turns.Frame Place
    begun = frame_at now now.place filled.content

    mid_runs : Runs x mid left (record t { frames = now ∷ waiting x old.heap.names takes.takes.rest })
    mid_runs = taken_runs k old mid special r kinds (Announced class token) given same takes fields methods is left t runs

    is_new : IsNew x.setting class_there t.world new.heap (others_of mid) at
    is_new = is_made.there x (others_of mid) t.world is mid_runs.shares

    after_within : IsFrameWithin (length old.heap.names) after
    after_within =
        let n = length old.heap.names in
        takes.takes.within n (all_last (IsFrameWithin n) takes.takes.rest before (subst (AllByRecursion (IsFrameWithin n)) takes.takes.turned.before runs.frames.frames_within))

    stays : seen_by x new.heap.names after ≡ now
    stays = ap (λ (names : List Name). seen_by x names after) names_more ∙ frame_stays k.heads old.heap.names (name ∷ []) methods after after_within

    abbrev rebuilt : Frame
    rebuilt = record after { operands = frame.after.operands; locals = frame.after.locals }

    frame_is : filled ≡ begun
    frame_is =
        ap (λ (f : Frame). seen_by x new.heap.names f) frame.filled.rest
        ∙ ap (λ (room : ℕ). record (seen_by x new.heap.names after) { content = (seen_by x new.heap.names rebuilt).content; room = room }) frame.filled.room
        ∙ ap (λ (f : Frame). record (seen_by x new.heap.names after) { content = (seen_by x new.heap.names f).content }) (sym frame.filled.rest)
        ∙ ap (λ (g : turns.Frame Place). frame_at g g.place filled.content) stays

    abbrev built_with : machine.Name → Content Place → Content Place
    built_with a c = built (class_code k.files) (classes_in k) token (machine.Reference a) c

    content_is : filled.content ≡ built_with made.0 now.content
    content_is =
        let n : Naming = record { heads = k.heads; methods = methods; names = new.heap.names } in
        ap (λ (ops : List (machine.Value Place)). machine.content ops (locals_of n frame.after)) (frame.filled.operands n)
        ∙ ap (machine.content (map (filled_in token (machine.Reference (object n at))) (operands_of n after))) (frame.filled.locals n)
        ∙ ap (λ (a : machine.Name). built_with a (seen_by x new.heap.names after).content) is_new.name
        ∙ ap (λ (g : turns.Frame Place). built_with made.0 g.content) stays

    new_runs : Runs x new left (record { frames = begun ∷ waiting x old.heap.names takes.takes.rest; world = made.1; due = t.due })
    new_runs =
        let n = length old.heap.names in
        let m = length new.heap.names in
        let more : n ≤ m = let e = ap length names_more ∙ length-append old.heap.names (name ∷ []) in omega arith in
        subst (λ (names : List Name). Runs x new left (record { frames = begun ∷ waiting x names takes.takes.rest; world = made.1; due = t.due })) mid_names
        (subst (λ (g : turns.Frame Place). Runs x new left (record { frames = g ∷ waiting x mid.heap.names takes.takes.rest; world = made.1; due = t.due })) frame_is
        (goes_on_runs x mid new left left (record t { frames = now ∷ waiting x old.heap.names takes.takes.rest }) made.1 takes.takes.rest after frame.after mid_runs takes.takes.turned.after
        (record {
          frames = frame.are;
          longer = (name ∷ [], fills.added.names);
          due = ap (λ (s : MachineState). s.due) fills.same;
          within = frame.filled.within m (ltb-true at.0 m at_within) (frame_more n m more after after_within);
        })
        (subst (λ (o : Others). Shares x.setting new.heap o made.1) (sym (ap others_of fills.same)) is_new.shares)
        mid_runs.answers
        (is_made.filled x (others_of mid) t.world is mid_runs.shares mid_runs.filled)))

    abbrev at_old : Builds k after old.heap.names special r (Announced class token) given number class token
    at_old = subst (λ (names : List Name). Builds k after names special r (Announced class token) given number class token) mid_names builds

    abbrev goes : BuildsThere k after old.heap.names special r (Announced class token) given fields methods number class token
    goes = at_old.there fields methods (stands_there k old mid special r kinds (Announced class token) given same takes fields methods is left t runs)

    -- the method runs in the frame with the object
    abbrev runs_there : turns.Frame Place → Method → machine.Name → List Held → Turn Place
    runs_there g m a values = turns.runs (class_code k.files) (classes_in k) turns.Ordinary g g.content made.1 r m (Some a) values

    pub built_turn : (mode : Mode) → calls_on mode ≡ Some special → (m : Method) → Sees k number m
        → executes (Invoke mode r) x t (seen_by x old.heap.names before) ≡ runs_there begun m made.0 (map (held k.heads old.heap.names) given)
    built_turn mode on m sees =
        let values = map (held k.heads old.heap.names) given in
        executing k old mid special r kinds (Announced class token) given same takes fields methods is left t runs mode on ∙ goes.turn t.world
        ∙ runs_same (class_code k.files) (classes_in k) now filled.content turns.Ordinary (built_with made.0 now.content) made.1 r goes.method (Some made.0) values
        ∙ ap (λ (c : Content Place). turns.runs (class_code k.files) (classes_in k) turns.Ordinary begun c made.1 r goes.method (Some made.0) values) (sym content_is)
        ∙ ap (λ (c : Method). runs_there begun c made.0 values) (one_seen k number goes.method m goes.sees sees)

  callee : (m : Method) × Sees k number m
  callee = (method_seen k.heads (length k.files) (field_constant k.files) method.place method.first, seen_there k number method)

  given_more : (n m : ℕ) → n ≤ m → (vs : List Value) → AllByRecursion (Settled n) vs → AllByRecursion (Settled m) vs
  given_more n m more [] all = tt
  given_more n m more (v ∷ vs) all = (settled_more n m more v all.0, given_more n m more vs all.1)

  fine_there : AllByRecursion (Settled (length new.heap.names)) given
  fine_there =
      let e = ap length fills.added.names ∙ length-append mid.heap.names (name ∷ []) in
      given_more (length mid.heap.names) (length new.heap.names) (omega (arith, e)) given builds.fine

  -- ---- the run is over, where there is no room for a result

  pub token_ended : (final : MachineState) → LacksRoom k frame.after number true → (mode : Mode) → calls_on mode ≡ Some special → Moves k old final (Ended Broken) (executes (Invoke mode r))
  token_ended final lacks mode on =
      moves_at k old final (Ended Broken) (executes (Invoke mode r)) takes.takes.rest before takes.takes.turned.before (λ m left t is runs.
      by_machine k (λ x. Runs x old left t → Stepped x final left (Ended Broken) (moved_by (executes (Invoke mode r)) x t (seen_by x old.heap.names before) (waiting x old.heap.names takes.takes.rest))) m
      (λ fields methods there here.
      let x = machine_of k fields methods in
      let g = begun fields methods there left t here in
      let w = (made fields methods there left t here).1 in
      let a = (made fields methods there left t here).0 in
      let values = map (held k.heads old.heap.names) given in
      let lacking : (is_frameless callee.0 && not (has_result_room (class_code k.files) (classes_in k) g g.content callee.0)) ≡ true =
      subst (λ (f : turns.Frame Place). (is_frameless callee.0 && not (has_result_room (class_code k.files) (classes_in k) f f.content callee.0)) ≡ true) (frame_is fields methods there left t here)
      (lacks fields methods new.heap.names callee.0 callee.1) in
      subst (λ (turn : Turn Place). Stepped x final left (Ended Broken) (moved (class_code k.files) (classes_in k) t.due turn t.world (seen_by x old.heap.names before) (waiting x old.heap.names takes.takes.rest)))
      (sym (built_turn fields methods there left t here mode on callee.0 callee.1
      ∙ ap (λ (b : Bool). if b then stops events.Broken else by_kind (class_code k.files) (classes_in k) turns.Ordinary g g.content w r callee.0 (Some a) values) lacking)) refl) is runs)

  -- ---- the constructor is to run

  abbrev runs_at : Machine → turns.Frame Place → World → Option Ref → List Value → Purpose → Turn Place
  runs_at m g w o values purpose =
      turns.runs (class_code m.files) m.setting.classes (machine_purpose m.setting.heads m.methods new.heap.names purpose) g g.content w r callee.0
      (option_map (name_of m.setting.heads new.heap.names) o) (map (held m.setting.heads new.heap.names) values)

  pub token_prepares : (call : Invocation) → LacksRoom k frame.after number false → call.method.0 ≡ number → call.receiver ≡ Some at → call.arguments.items ≡ given → call.purpose ≡ Ordinary
      → (mode : Mode) → calls_on mode ≡ Some special → Prepares k old new mode r call
  token_prepares call roomy numbered receiver arguments purpose mode on = record {
    callee = callee.0;
    sees = subst (λ (n : ℕ). Sees k n callee.0) (sym numbered) callee.1;
    receiver = ap (is_known_object (length new.heap.names)) receiver ∙ at_within;
    purpose = ap (is_known_purpose (length new.heap.names)) purpose;
    arguments = subst (AllByRecursion (Settled (length new.heap.names))) (sym arguments) fine_there;
    room = λ m left t f below is runs top.
        by_machine k (λ x. Runs x new left t → (is_frameless callee.0 && not (has_result_room (class_code x.files) x.setting.classes f f.content callee.0)) ≡ false) m
        (λ fields methods there here.
        let x = machine_of k fields methods in
        let is_frame : seen_by x new.heap.names frame.after ≡ f = first_same _ _ _ _ (sym (frames_are x new left t takes.takes.rest frame.after here frame.are) ∙ top) in
        subst (λ (g : turns.Frame Place). (is_frameless callee.0 && not (has_result_room (class_code k.files) (classes_in k) g g.content callee.0)) ≡ false) is_frame
        (roomy fields methods new.heap.names callee.0 callee.1)) is runs;
    ready = λ m left t f below is runs top.
        by_machine k (λ x. Runs x old left t → ReadyIn x new left t f below (executes (Invoke mode r) x t f) (runs_call r callee.0 call new)) m
        (λ fields methods there here.
        let x = machine_of k fields methods in
        let was = seen_by x old.heap.names before in
        let g = begun fields methods there left t here in
        let w = (made fields methods there left t here).1 in
        let frames : was ∷ waiting x old.heap.names takes.takes.rest ≡ f ∷ below = sym (frames_are x old left t takes.takes.rest before here takes.takes.turned.before) ∙ top in
        let is_frame : was ≡ f = first_same _ _ _ _ frames in
        let are_below : waiting x old.heap.names takes.takes.rest ≡ below = others_same _ _ _ _ frames in
        let values_stay : map (held k.heads old.heap.names) given ≡ map (held k.heads new.heap.names) given =
        sym (ap (λ (names : List Name). map (held k.heads names) given) names_more ∙ all_held_stay k.heads old.heap.names (name ∷ []) given (stands_there k old mid special r kinds (Announced class token) given same takes fields methods there left t here).fine) in
        subst (λ (h : turns.Frame Place). ReadyIn x new left t h below (executes (Invoke mode r) x t h) (runs_call r callee.0 call new)) is_frame
        (record {
          content = (filled fields methods there left t here).content;
          world = w;
          runs = subst (λ (fs : List (turns.Frame Place)). Runs x new left (record { frames = g ∷ fs; world = w; due = t.due })) are_below (new_runs fields methods there left t here);
          same =
              built_turn fields methods there left t here mode on callee.0 callee.1
              ∙ ap (runs_there fields methods there left t here g callee.0 (made fields methods there left t here).0) values_stay
              ∙ ap (λ (a : machine.Name). runs_there fields methods there left t here g callee.0 a (map (held k.heads new.heap.names) given)) (sym (is_new fields methods there left t here).name)
              ∙ ap (λ (p : Purpose). runs_at x g w (Some at) given p) (sym purpose)
              ∙ ap (λ (o : Option Ref). runs_at x g w o given call.purpose) (sym receiver)
              ∙ ap (λ (vs : List Value). runs_at x g w call.receiver vs call.purpose) (sym arguments);
        })) is runs;
  }
