-- A static call, from the taking of its arguments on.
use Rattle.std.specs.Prelude.{◌≡◌, ℕ, ◌+◌, ◌<◌, ◌&&◌, not, Bool, false, List, [], ◌∷◌, ◌++◌, map, reverse, length, Option, Some, None, refl}
use Rattle.std.specs.Option.{option_map}
use Rattle.std.specs.List.{AllByRecursion}
use Rattle.std.proofs.Common.{sym, ◌∙◌, ap, subst, arith, append_assoc, length-append}
use Rattle.class_file.specs.Pool.{Reference}
use Rattle.class_world.specs.Tables.{Known}
use Rattle.class_machine.specs.declared.kinds.Kind.{Kind}
use Rattle.class_machine.specs.declared.kinds.Mode.{Mode}
use Rattle.class_machine.specs.ClassFiles.{Place, class_code}
use Rattle.class_machine.specs.Effect as definition
use Rattle.class_machine.specs.Events as events
use Rattle.class_machine.specs.Machine.{State, moved}
use Rattle.class_machine.specs.Operations.{Invoke}
use Rattle.class_machine.specs.Turn as turns
use Rattle.class_machine.specs.Values.{Held}
use Rattle.class_machine.specs.Turn.{Turn, Link, Refused, Needs, linked, resolved, initialised, with_method, is_frameless, has_result_room}
use Rattle.class_machine.specs.World.{World, begin}
use Rattle.class_machine.specs.Classes.{Method}
use Rattle.machine_values.specs.declared.frames.Frame.{Frame}
use Rattle.machine_values.specs.declared.frames.Purpose.{Purpose}
use Rattle.machine_values.specs.declared.frames.Purpose.TheVariants.{Ordinary}
use Rattle.machine_values.specs.declared.values.Ref.{Ref}
use Rattle.machine_values.specs.Things.{Things}
use Rattle.machine_values.specs.declared.names.Name.{Name}
use Rattle.machine_values.specs.declared.observed.Ending.{Ending}
use Rattle.machine_values.specs.declared.observed.Ending.TheVariants.{Broken}
use Rattle.machine_values.specs.declared.script.Answer.{Answer}
use Rattle.machine_values.specs.declared.state.MachineState.{MachineState}
use Rattle.machine_values.specs.declared.values.Value.{Value}
use Rattle.machine_values.specs.Observed.{machine_ending}
use Rattle.machine_values.specs.Standing.{name_of, held, Settled}
use Rattle.machine_values.specs.States.{machine_purpose, is_known_object, is_known_purpose, IsFrameWithin}
use Rattle.machine_frames.specs.Calls.{kinds_for}
use Rattle.machine_frames.specs.Naming.{Naming}
use Rattle.machine_steps.specs.declared.step.Step.TheVariants.{Went, Ended}
use Rattle.machine_steps.specs.Executing.{executes}
use Rattle.machine_steps.specs.Giving.{with_values}
use Rattle.machine_steps.specs.Moves.{Moves, moved_by}
use Rattle.machine_steps.specs.Programs.{Machine, IsMachine}
use Rattle.machine_steps.specs.Going.{turned_runs, formed_turned}
use Rattle.machine_steps.specs.Running.{seen_by, waiting, first_same, others_same, frames_are, moves_at, all_last}
use Rattle.machine_steps.specs.Runs.{IsFormed, Runs, Stepped}
use Rattle.machine_invocations.specs.Methods.{classes_in, Sees}
use Rattle.machine_invocations.specs.Standards.{machine_of, by_machine}
use Rattle.machine_invokes.specs.Choosing.{static_link}
use Rattle.machine_invokes.specs.declared.invocation.Before.TheVariants as before_call
use Rattle.machine_invokes.specs.declared.invocation.Invocation.{Invocation}
use Rattle.machine_invokes.specs.Preparing.{runs_with, runs_call, ReadyIn, Prepares}
use Rattle.machine_invokes.specs.declared.starting.Start.{Start}
use Rattle.machine_invokes.specs.Starting.{AreFine, LinkIs, RunsSo, BeginsSo, Starts, StartsAtTop}
use Rattle.machine_invokes.specs.Undoing.{AreSaved, UndoneBy, CanUndo}
use Rattle.machine_invokes.specs.Taking.{Takes, TakesStatic, StaticTakeBreaks, PutsBack}
use Rattle.machine_invokes.proofs.Restored.{formed_back, back_runs}
use Rattle.machine_invokes.proofs.SameTurn.{static_same, runs_same}

module _ (k : Known) (old mid : MachineState) (r : Reference) (kinds : List Kind) (given : List Value) (same : kinds_for r ≡ kinds) (takes : TakesStatic kinds old given mid) where
  abbrev before : Frame
  before = takes.takes.before

  abbrev after : Frame
  after = with_values takes.takes.before takes.takes.left

  names_same : mid.heap.names ≡ old.heap.names
  names_same = ap (λ (s : MachineState). s.heap.names) takes.takes.turned.same

  module _ (fields methods : ℕ → Reference) (is : IsMachine k (machine_of k fields methods)) (left : List Answer) (t : State Place) (runs : Runs (machine_of k fields methods) old left t) where
    abbrev was : turns.Frame Place
    was = seen_by (machine_of k fields methods) old.heap.names before

    abbrev now : turns.Frame Place
    now = seen_by (machine_of k fields methods) old.heap.names after

    abbrev given_held : List Held
    given_held = map (held k.heads old.heap.names) given

    fine : AreFine mid given
    fine =
        let n = length old.heap.names in
        let within : IsFrameWithin n before = all_last (IsFrameWithin n) takes.takes.rest before (subst (AllByRecursion (IsFrameWithin n)) takes.takes.turned.before runs.frames.frames_within) in
        subst (λ (ns : List Name). AllByRecursion (Settled (length ns)) given) (sym names_same) (takes.settled.settled n within.operands)

    -- what is executed, by what the search comes to
    pub executing : (link : Link) → LinkIs k after r given mid link
        → executes (Invoke Mode.Static r) (machine_of k fields methods) t was ≡ linked (class_code k.files) (classes_in k) was t.world (definition.CallStatic r given_held now.content) link
    executing link comes =
        let n : Naming = record { heads = k.heads; methods = methods; names = old.heap.names } in
        ap (resolved (class_code k.files) (classes_in k) was t.world) (takes.calls n r same)
        ∙ ap (linked (class_code k.files) (classes_in k) was t.world (definition.CallStatic r given_held now.content))
        (static_same (class_code k.files) (classes_in k) was now.content now.content r given_held ((classes_in k).method r)
        ∙ subst (λ (ns : List Name). static_link k after fields methods ns r given ≡ link) names_same (comes fields methods is fine))

  -- where the search doesn't find a method that may be called, the run is over
  pub static_ended : (new : MachineState) (ending : Ending) (other : events.Ending) → machine_ending ending ≡ other → LinkIs k after r given mid (Refused other) → Moves k old new (Ended ending) (executes (Invoke Mode.Static r))
  static_ended new ending other ends comes =
      moves_at k old new (Ended ending) (executes (Invoke Mode.Static r)) takes.takes.rest before takes.takes.turned.before (λ m left t is runs.
      by_machine k (λ x. Runs x old left t → Stepped x new left (Ended ending) (moved_by (executes (Invoke Mode.Static r)) x t (seen_by x old.heap.names before) (waiting x old.heap.names takes.takes.rest))) m
      (λ fields methods there here.
      subst (λ (turn : Turn Place). Stepped (machine_of k fields methods) new left (Ended ending) (moved (class_code k.files) (classes_in k) t.due turn t.world (was fields methods there left t here) (waiting (machine_of k fields methods) old.heap.names takes.takes.rest)))
      (sym (executing fields methods there left t here (Refused other) comes)) ends) is runs)

  after_at : mid.frames.items ≡ takes.takes.rest ++ after ∷ []
  after_at = takes.takes.turned.after

  -- the state, once the arguments are taken
  abbrev taken_state : (fields methods : ℕ → Reference) → State Place → State Place
  taken_state fields methods t = record t { frames = seen_by (machine_of k fields methods) old.heap.names after ∷ waiting (machine_of k fields methods) old.heap.names takes.takes.rest }

  taken_runs : (fields methods : ℕ → Reference) (left : List Answer) (t : State Place) → Runs (machine_of k fields methods) old left t → Runs (machine_of k fields methods) mid left (taken_state fields methods t)
  taken_runs fields methods left t runs =
      turned_runs (machine_of k fields methods) old mid left t takes.takes.rest before after takes.takes.turned (takes.takes.within (length old.heap.names)) runs

  -- ---- initialisers come first: the arguments are put back, below their frames

  module _ (new final : MachineState) (begins : BeginsSo k after r given mid new) (puts : PutsBack (length takes.takes.rest) (reverse given) new final) where
    waiting_at : new.frames.items ≡ takes.takes.rest ++ after ∷ begins.waiting.put.own
    waiting_at =
        begins.waiting.put.frames ∙ ap (λ (fs : List Frame). fs ++ begins.waiting.put.own) after_at
        ∙ append_assoc takes.takes.rest (after ∷ []) begins.waiting.put.own

    names_there : new.heap.names ≡ old.heap.names
    names_there = ap (λ (s : MachineState). s.heap.names) begins.waiting.put.same ∙ names_same

    pub begins_formed : IsFormed k old → IsFormed k new → IsFormed k final
    begins_formed were are = formed_back k old mid new final (reverse given) takes.takes (length takes.takes.rest) refl puts begins.waiting.put.own waiting_at were are

    pub begins_moves : Moves k old final Went (executes (Invoke Mode.Static r))
    begins_moves =
        moves_at k old final Went (executes (Invoke Mode.Static r)) takes.takes.rest before takes.takes.turned.before (λ m left t is runs.
        by_machine k (λ x. Runs x old left t → Stepped x final left Went (moved_by (executes (Invoke Mode.Static r)) x t (seen_by x old.heap.names before) (waiting x old.heap.names takes.takes.rest))) m
        (λ fields methods there here.
        let x = machine_of k fields methods in
        let was = seen_by x old.heap.names before in
        let below = waiting x old.heap.names takes.takes.rest in
        let waits = begins.waiting.there x left (taken_state fields methods t) there (taken_runs fields methods left t here) in
        let initialisers = waits.first ∷ waits.others in
        let w = begin (classes_in k) t.world begins.class in
        let turn : executes (Invoke Mode.Static r) x t was ≡ turns.Begins initialisers w =
        executing fields methods there left t here (Needs begins.class) begins.link
        ∙ ap (initialised (class_code k.files) (classes_in k) was t.world (definition.CallStatic r (map (held k.heads old.heap.names) given) (seen_by x old.heap.names after).content) begins.class) waits.some in
        let n = length old.heap.names in
        let at_new : List Name → Type 0 = λ names. Runs x final left (record { frames = initialisers ++ seen_by x names before ∷ waiting x names takes.takes.rest; world = w; due = t.due }) in
        subst (λ (turn : Turn Place). Stepped x final left Went (moved (class_code k.files) (classes_in k) t.due turn t.world was below)) (sym turn)
        (subst at_new names_there
        (back_runs x old new final left (record { frames = initialisers ++ (taken_state fields methods t).frames; world = w; due = t.due }) takes.takes.rest begins.waiting.put.own before after initialisers
        (subst (λ (names : List Name). AllByRecursion (IsFrameWithin (length names)) (takes.takes.rest ++ before ∷ [])) (sym names_there) (subst (AllByRecursion (IsFrameWithin n)) takes.takes.turned.before here.frames.frames_within))
        waiting_at
        (puts.frames takes.takes.rest begins.waiting.put.own before after refl waiting_at takes.takes.taken)
        puts.same
        (subst (λ (fs : List (turns.Frame Place)). Runs x new left (record { frames = fs ++ (taken_state fields methods t).frames; world = w; due = t.due })) waits.some waits.runs)
        (ap (λ (names : List Name). initialisers ++ seen_by x names after ∷ waiting x names takes.takes.rest) (sym names_there)))))
        is runs)

  -- ---- the method is to run

  module _ (new : MachineState) (number : ℕ) (saved : Option (List Bool)) (goes : RunsSo k after r given mid new number saved) where
    saved_heap : (o : Option (List Bool)) → AreSaved mid new o → new.heap ≡ mid.heap
    saved_heap None same = ap (λ (s : MachineState). s.heap) same
    saved_heap (Some begun) same = ap (λ (s : MachineState). s.heap) same.1

    saved_items : (o : Option (List Bool)) → AreSaved mid new o → new.frames.items ≡ mid.frames.items
    saved_items None same = ap (λ (s : MachineState). s.frames.items) same
    saved_items (Some begun) same = same.2

    names_kept : new.heap.names ≡ old.heap.names
    names_kept = ap (λ (h : Things). h.names) (saved_heap saved goes.triggers.same) ∙ names_same

    abbrev runs_at : Machine → turns.Frame Place → World → Method → Option Ref → List Value → Purpose → List Name → Turn Place
    runs_at x g w callee receiver values purpose names =
        turns.runs (class_code x.files) x.setting.classes (machine_purpose x.setting.heads x.methods names purpose) g g.content w r callee
        (option_map (name_of x.setting.heads names) receiver) (map (held x.setting.heads names) values)

    pub static_prepares : (call : Invocation) → call.method.0 ≡ number → call.receiver ≡ None → call.arguments.items ≡ given → call.purpose ≡ Ordinary → Prepares k old new Mode.Static r call
    static_prepares call method receiver arguments purpose = record {
      callee = goes.method;
      sees = subst (λ (n : ℕ). Sees k n goes.method) (sym method) goes.sees;
      receiver = ap (is_known_object (length new.heap.names)) receiver;
      purpose = ap (is_known_purpose (length new.heap.names)) purpose;
      arguments = subst (AllByRecursion (Settled (length new.heap.names))) (sym arguments) (subst (λ (h : Things). AllByRecursion (Settled (length h.names)) given) (sym (saved_heap saved goes.triggers.same)) goes.fine);
      room = λ m left t f below is runs same.
          by_machine k (λ x. Runs x new left t → (is_frameless goes.method && not (has_result_room (class_code x.files) x.setting.classes f f.content goes.method)) ≡ false) m
          (λ fields methods there here.
          let x = machine_of k fields methods in
          let is_frame : seen_by x new.heap.names after ≡ f =
          first_same _ _ _ _ (sym (frames_are x new left t takes.takes.rest after here (saved_items saved goes.triggers.same ∙ after_at)) ∙ same) in
          subst (λ (g : turns.Frame Place). (is_frameless goes.method && not (has_result_room (class_code k.files) (classes_in k) g g.content goes.method)) ≡ false) is_frame
          (goes.roomy fields methods new.heap.names goes.method goes.sees)) is runs;
      ready = λ m left t f below is runs same.
          by_machine k (λ x. Runs x old left t → ReadyIn x new left t f below (executes (Invoke Mode.Static r) x t f) (runs_call r goes.method call new)) m
          (λ fields methods there here.
          let x = machine_of k fields methods in
          let was = seen_by x old.heap.names before in
          let now = seen_by x old.heap.names after in
          let frames : was ∷ waiting x old.heap.names takes.takes.rest ≡ f ∷ below = sym (frames_are x old left t takes.takes.rest before here takes.takes.turned.before) ∙ same in
          let is_frame : was ≡ f = first_same _ _ _ _ frames in
          let are_below : waiting x old.heap.names takes.takes.rest ≡ below = others_same _ _ _ _ frames in
          let goes_on = goes.triggers.there x left (taken_state fields methods t) there (taken_runs fields methods left t here) in
          let w = begin (classes_in k) t.world goes.method.name.class in
          let given_held = map (held k.heads old.heap.names) given in
          let turn : executes (Invoke Mode.Static r) x t was ≡ turns.runs (class_code k.files) (classes_in k) turns.Ordinary now now.content w r goes.method None given_held =
          executing fields methods there left t here (Needs goes.method.name.class) goes.link
          ∙ ap (initialised (class_code k.files) (classes_in k) was t.world (definition.CallStatic r given_held now.content) goes.method.name.class) goes_on.none
          ∙ ap (λ (o : Option Method). with_method (class_code k.files) (classes_in k) o (λ (found : Method). turns.runs (class_code k.files) (classes_in k) turns.Ordinary was now.content w r found None given_held)) goes.found
          ∙ runs_same (class_code k.files) (classes_in k) was now.content turns.Ordinary now.content w r goes.method None given_held in
          let called : turns.runs (class_code k.files) (classes_in k) turns.Ordinary now now.content w r goes.method None given_held
          ≡ runs_with r goes.method call.receiver call.arguments.items call.purpose new x (record { frames = now ∷ waiting x old.heap.names takes.takes.rest; world = w; due = t.due }) now =
          ap (λ (names : List Name). runs_at x now w goes.method None given Ordinary names) (sym names_kept)
          ∙ ap (λ (o : Option Ref). runs_at x now w goes.method o given Ordinary new.heap.names) (sym receiver)
          ∙ ap (λ (vs : List Value). runs_at x now w goes.method call.receiver vs Ordinary new.heap.names) (sym arguments)
          ∙ ap (λ (p : Purpose). runs_at x now w goes.method call.receiver call.arguments.items p new.heap.names) (sym purpose) in
          subst (λ (g : turns.Frame Place). ReadyIn x new left t g below (executes (Invoke Mode.Static r) x t g) (runs_call r goes.method call new)) is_frame
          (record {
            content = now.content;
            world = w;
            runs = subst (λ (fs : List (turns.Frame Place)). Runs x new left (record { frames = now ∷ fs; world = w; due = t.due })) are_below goes_on.runs;
            same = turn ∙ called;
          })) is runs;
    }

    pub static_undone : (call : Invocation) → call.arguments.items ≡ given → call.before ≡ before_call.Arguments saved → CanUndo old new call
    static_undone call arguments same = record {
      undone = subst (UndoneBy old new call) (sym same) (record { mid = mid; takes = subst (λ (vs : List Value). Takes old mid (reverse vs)) (sym arguments) takes.takes; marked = goes.triggers.same });
    }

-- ---- by what the calls give

-- no arguments of these kinds are on top
pub static_breaks : (k : Known) (old mid new : MachineState) (r : Reference) (kinds : List Kind) → kinds_for r ≡ kinds → StaticTakeBreaks kinds old mid → Moves k old new (Ended Broken) (executes (Invoke Mode.Static r))
static_breaks k old mid new r kinds same broken =
    moves_at k old new (Ended Broken) (executes (Invoke Mode.Static r)) broken.rest broken.before broken.turned.before (λ m left t is runs.
    let n : Naming = record { heads = m.setting.heads; methods = m.methods; names = old.heap.names } in
    let f = seen_by m old.heap.names broken.before in
    subst (λ (turn : Turn Place). Stepped m new left (Ended Broken) (moved (class_code m.files) m.setting.classes t.due turn t.world f (waiting m old.heap.names broken.rest)))
    (sym (ap (resolved (class_code m.files) m.setting.classes f t.world) (broken.breaks n r same))) refl)

module _ (old mid : MachineState) (vs : List Value) (takes : Takes old mid vs) where
  pub some_frames : 0 < length mid.frames.items
  some_frames = let e = ap length takes.turned.after ∙ length-append takes.rest (with_values takes.before takes.left ∷ []) in omega (arith, e)

  pub top_place : (top : ℕ) → top + 1 ≡ length mid.frames.items → length takes.rest ≡ top
  top_place top last = let e = ap length takes.turned.after ∙ length-append takes.rest (with_values takes.before takes.left ∷ []) in omega (arith, e, last)

  pub taken_formed : (k : Known) → IsFormed k old → IsFormed k mid
  taken_formed k formed = formed_turned k old mid takes.rest takes.before (with_values takes.before takes.left) takes.turned refl formed

  pub puts_there : (top : ℕ) (us : List Value) (new final : MachineState) → top + 1 ≡ length mid.frames.items → us ≡ vs → PutsBack top us new final → PutsBack (length takes.rest) vs new final
  puts_there top us new final last same puts =
      subst (λ (n : ℕ). PutsBack n vs new final) (sym (top_place top last)) (subst (λ (ws : List Value). PutsBack top ws new final) same puts)

pub started_there : (k : Known) (old mid new : MachineState) (r : Reference) (given us : List Value) (takes : Takes old mid (reverse given)) (start other : Start) → us ≡ given → other ≡ start → StartsAtTop k mid new r us other
    → Starts k (with_values takes.before takes.left) r given mid new start
started_there k old mid new r given us takes start other same is starts =
    subst (Starts k (with_values takes.before takes.left) r given mid new) is
    (subst (λ (ws : List Value). Starts k (with_values takes.before takes.left) r ws mid new other) same (starts takes.rest (with_values takes.before takes.left) takes.turned.after))
