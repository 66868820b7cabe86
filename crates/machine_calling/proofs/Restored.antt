-- An invocation, from the state before it.
use Rattle.std.specs.Prelude.{◌≡◌, ℕ, ◌<◌, ◌≤◌, Bool, true, false, List, [], ◌∷◌, ◌++◌, map, reverse, length, Option, Some, None, refl}
use Rattle.std.specs.List.{AllByRecursion}
use Rattle.std.proofs.Common.{sym, ap, ◌∙◌, subst, arith, length-append}
use Rattle.std.proofs.lemmas.List.{append-nil, map-append, reverse-append, append_assoc, append_cancel_right}
use Rattle.class_file.specs.Pool.{Reference}
use Rattle.class_world.specs.Tables.{Known}
use Rattle.class_machine.specs.declared.kinds.Mode.{Mode}
use Rattle.class_machine.specs.ClassFiles.{Place, class_code}
use Rattle.class_machine.specs.Events as events
use Rattle.class_machine.specs.Machine as machines
use Rattle.class_machine.specs.Machine.{State, moved}
use Rattle.class_machine.specs.Operations.{Invoke}
use Rattle.class_machine.specs.Turn as turns
use Rattle.class_machine.specs.Turn.{Turn, Finishes, frame_at}
use Rattle.class_machine.specs.World.{World}
use Rattle.event_machine.specs.Outcome as outcomes
use Rattle.machine_values.specs.declared.frames.Frame.{Frame}
use Rattle.machine_values.specs.declared.names.Name.{Name}
use Rattle.machine_values.specs.declared.observed.Event.{Event}
use Rattle.machine_values.specs.declared.script.Answer.{Answer}
use Rattle.machine_values.specs.declared.state.MachineState.{MachineState}
use Rattle.machine_values.specs.declared.values.Value.{Value}
use Rattle.machine_values.specs.Observed.{machine_answer, machine_event}
use Rattle.machine_values.specs.States.{IsFrameWithin}
use Rattle.machine_values.specs.Things.{Things}
use Rattle.machine_requests.specs.Replies.{IsLonger}
use Rattle.machine_steps.specs.declared.step.Step.{Step}
use Rattle.machine_steps.specs.declared.step.Step.TheVariants.{Went}
use Rattle.machine_steps.specs.Executing.{executes, MovesOver}
use Rattle.machine_steps.specs.Giving.{with_values}
use Rattle.machine_steps.specs.Going.{waiting_stay}
use Rattle.machine_steps.specs.Moves.{Turning}
use Rattle.machine_steps.specs.Programs.{Machine, IsMachine}
use Rattle.machine_steps.specs.Running.{seen_by, waiting, frames_are}
use Rattle.machine_steps.specs.Runs.{IsMethod, IsDueFormed, IsFormed, Runs, Stepped}
use Rattle.machine_steps.specs.Within.{frames_more}
use Rattle.machine_invocations.specs.Keeping.{Keeps, keeps_runs}
use Rattle.machine_invocations.specs.Keeping.{IsSame, same_keeps}
use Rattle.machine_natives.specs.Calls.{EndsScript}
use Rattle.machine_works.proofs.Kept.{longer_both}
use Rattle.machine_invokes.specs.declared.invocation.Before.{Before}
use Rattle.machine_invokes.specs.declared.invocation.Before.TheVariants as kind
use Rattle.machine_invokes.specs.declared.invocation.Invocation.{Invocation}
use Rattle.machine_invokes.specs.Preparing.{runs_call, Prepares, prepared_moves}
use Rattle.machine_invokes.specs.Undoing.{AreSaved, UndoneBy, CanUndo}
use Rattle.machine_parts.specs.Lines.{StandsForOne}
use Rattle.machine_calling.specs.declared.ran.Ran.{Ran}
use Rattle.machine_calling.specs.declared.ran.Ran.TheVariants as of_ran
use Rattle.machine_calling.specs.Ran.{Goes, BeginsFirst, LacksAnswer, HasRoom, RanBy, is_done}

-- ---- frames on top of others

waiting_both : (m : Machine) (names : List Name) (xs ys : List Frame) → waiting m names (xs ++ ys) ≡ waiting m names ys ++ waiting m names xs
waiting_both m names xs ys = ap (map (seen_by m names)) (reverse-append xs ys) ∙ map-append (seen_by m names) (reverse ys) (reverse xs)

all_append : (P : Frame → Type 0) (xs ys : List Frame) → AllByRecursion P xs → AllByRecursion P ys → AllByRecursion P (xs ++ ys)
all_append P [] ys h g = g
all_append P (x ∷ xs) ys h g = (h.0, all_append P xs ys h.1 g)

-- the last of all
all_behind : (P : Frame → Type 0) (xs ys : List Frame) → AllByRecursion P (xs ++ ys) → AllByRecursion P ys
all_behind P [] ys h = h
all_behind P (x ∷ xs) ys h = all_behind P xs ys h.1

pub keeps_formed : (k : Known) (old new : MachineState) → Keeps k old new → IsFormed k old → IsFormed k new
keeps_formed k old new keeps formed = record {
  statics = ap (length {A = Option Value}) keeps.statics ∙ formed.statics;
  begun = ap (length {A = Bool}) keeps.begun ∙ formed.begun;
  frames = subst (AllByRecursion (λ (f : Frame). IsMethod k f.method.0)) (sym keeps.frames) formed.frames;
  due = subst (IsDueFormed k) (sym keeps.due) formed.due;
}

pub same_equal : (old new : MachineState) → new ≡ old → IsSame old new
same_equal old new is = subst (IsSame old) (sym is) (record { rest = refl; frames = refl })

pub same_formed : (k : Known) (old new : MachineState) → IsSame old new → IsFormed k old → IsFormed k new
same_formed k old new same formed = keeps_formed k old new (same_keeps k old new same) formed

-- with the frames below as they were
pub restored_formed : (k : Known) (before mid s1 s2 : MachineState) (own : List Frame) → s1.frames.items ≡ mid.frames.items ++ own → s2 ≡ record s1 { frames = s2.frames } → s2.frames.items ≡ before.frames.items ++ own
    → IsFormed k before → IsFormed k s1 → IsFormed k s2
restored_formed k before mid s1 s2 own frames same items formed there =
    let P : Frame → Type 0 = λ (f : Frame). IsMethod k f.method.0 in
    let top : AllByRecursion P own = all_behind P mid.frames.items own (subst (AllByRecursion P) frames there.frames) in
    subst (IsFormed k) (sym same) (record {
      statics = there.statics;
      begun = there.begun;
      frames = subst (AllByRecursion P) (sym items) (all_append P before.frames.items own formed.frames top);
      due = there.due;
    })

module _ (k : Known) (before mid new : MachineState) (left rest : List Answer) (mode : Mode) (r : Reference) (call : Invocation) (prepares : Prepares k before mid mode r call) where
  pub roomy : HasRoom k mid left prepares.callee
  roomy m t f below is runs top = prepares.room m left t f below is runs top

  -- the step is done
  pub done_moves : (step : Step) → Goes k mid new left rest step (runs_call r prepares.callee call mid) → MovesOver k before new left rest step (executes (Invoke mode r))
  done_moves step goes = prepared_moves k before mid new left rest step mode r call prepares goes.own goes.moves

  -- the script ends: from the state before
  pub lacks_moves : (left_so undone : MachineState) (event : Event) (step : Step) → Keeps k before undone → LacksAnswer k mid left_so left rest event (runs_call r prepares.callee call mid) → EndsScript undone new event step → MovesOver k before new left rest step (executes (Invoke mode r))
  lacks_moves left_so undone event step keeps lacks ends m t f below is runs top =
      let ready = prepares.ready m left t f below is runs top in
      let g = frame_at f f.place ready.content in
      let turn : executes (Invoke mode r) m t f ≡ Finishes (Some (machine_event event)) events.ScriptEnds =
      ready.same ∙ lacks.turn m (record { frames = g ∷ below; world = ready.world; due = t.due }) g below is ready.runs refl in
      subst (λ (x : Turn Place). Stepped m new rest step (moved (class_code m.files) m.setting.classes t.due x t.world f below)) (sym turn)
      (subst (λ (l : List Answer). Stepped m new l step (outcomes.Said (machine_event event) (record { frames = []; world = t.world; due = machines.Finally events.ScriptEnds }))) (sym lacks.answers)
      (ends m left t (keeps_runs k before undone keeps m left t is runs)))

  -- initialisers come first: the frame below them is as it was
  module _ (s1 : MachineState) (first : BeginsFirst k mid s1 left rest (runs_call r prepares.callee call mid)) (longer : IsLonger before.heap mid.heap) (same : new ≡ record s1 { frames = new.frames }) (items : new.frames.items ≡ before.frames.items ++ first.own) where
    all_longer : IsLonger before.heap s1.heap
    all_longer = longer_both before.heap mid.heap s1.heap longer first.names

    -- as the machine has them
    on_top : (m : Machine) (t : State Place) (f : turns.Frame Place) (below : List (turns.Frame Place)) (frames : List (turns.Frame Place)) (w : World) → Runs m before left t → t.frames ≡ f ∷ below
        → (waited : State Place) → Runs m mid left waited → waited.due ≡ t.due → Runs m s1 left (record waited { frames = frames ++ waited.frames; world = w })
        → Runs m new rest (record { frames = frames ++ (f ∷ below); world = w; due = t.due })
    on_top m t f below frames w runs top waited mids due begun =
        let names = s1.heap.names in
        let own = first.own in
        let P : Frame → Type 0 = IsFrameWithin (length names) in
        let many : length before.heap.names ≤ length names = let e = ap length all_longer.1 in let n = length-append before.heap.names all_longer.0 in omega arith in
        let mid_is : waiting m names mid.frames.items ≡ waited.frames =
        ap (λ (all : List Name). waiting m all mid.frames.items) first.names.1 ∙ waiting_stay m mid.heap.names first.names.0 mid.frames.items mids.frames.frames_within ∙ sym mids.frames.frames in
        let before_is : waiting m names before.frames.items ≡ f ∷ below =
        ap (λ (all : List Name). waiting m all before.frames.items) all_longer.1 ∙ waiting_stay m before.heap.names all_longer.0 before.frames.items runs.frames.frames_within ∙ sym runs.frames.frames ∙ top in
        let own_is : frames ≡ waiting m names own =
        append_cancel_right frames (waiting m names own) waited.frames
        (begun.frames.frames ∙ ap (waiting m names) first.frames ∙ waiting_both m names mid.frames.items own ∙ ap (λ (l : List (turns.Frame Place)). waiting m names own ++ l) mid_is) in
        subst (λ (s : MachineState). Runs m s rest (record { frames = frames ++ (f ∷ below); world = w; due = t.due })) (sym same)
        (record {
          shares = begun.shares;
          frames = record {
            frames = ap (λ (l : List (turns.Frame Place)). l ++ (f ∷ below)) own_is ∙ ap (λ (l : List (turns.Frame Place)). waiting m names own ++ l) (sym before_is)
                ∙ sym (ap (waiting m names) items ∙ waiting_both m names before.frames.items own);
            due = sym due ∙ begun.frames.due;
            frames_within = subst (AllByRecursion P) (sym items)
                (all_append P before.frames.items own (frames_more (length before.heap.names) (length names) many before.frames.items runs.frames.frames_within)
                (all_behind P mid.frames.items own (subst (AllByRecursion P) first.frames begun.frames.frames_within)));
            due_within = begun.frames.due_within;
          };
          answers = begun.answers ∙ ap (map machine_answer) (sym first.answers);
          filled = begun.filled;
        })

    pub begins_moves : MovesOver k before new left rest Went (executes (Invoke mode r))
    begins_moves m t f below is runs top =
        let ready = prepares.ready m left t f below is runs top in
        let g = frame_at f f.place ready.content in
        let waited : State Place = record { frames = g ∷ below; world = ready.world; due = t.due } in
        let begins = first.there m waited g below is ready.runs refl in
        let turn : executes (Invoke mode r) m t f ≡ turns.Begins begins.frames begins.world = ready.same ∙ begins.same in
        subst (λ (x : Turn Place). Stepped m new rest Went (moved (class_code m.files) m.setting.classes t.due x t.world f below)) (sym turn) (on_top m t f below begins.frames begins.world runs top waited ready.runs refl begins.runs)

-- ---- the prepared state

-- it has a running frame, and no object is gone
pub record Grows (old new : MachineState) : Type 0 where
  pub some : 0 < length new.frames.items
  pub heap : IsLonger old.heap new.heap

some_last : (rest : List Frame) (f : Frame) (items : List Frame) → items ≡ rest ++ f ∷ [] → 0 < length items
some_last rest f items is = let e = ap length is ∙ length-append rest (f ∷ []) in let one : length (f ∷ []) ≡ 1 = refl in omega (arith, e, one)

same_longer : (old new : Things) → new ≡ old → IsLonger old new
same_longer old new is = ([], ap (λ (t : Things). t.names) is ∙ sym (append-nil old.names))

saved_items : (mid after : MachineState) (o : Option (List Bool)) → AreSaved mid after o → after.frames.items ≡ mid.frames.items
saved_items mid after None same = ap (λ (s : MachineState). s.frames.items) same
saved_items mid after (Some begun) same = same.2

saved_heap : (mid after : MachineState) (o : Option (List Bool)) → AreSaved mid after o → after.heap ≡ mid.heap
saved_heap mid after None same = ap (λ (s : MachineState). s.heap) same
saved_heap mid after (Some begun) same = ap (λ (s : MachineState). s.heap) same.1

grows_by : (old new : MachineState) (call : Invocation) (b : Before) → UndoneBy old new call b → Grows old new
grows_by old new call (kind.Arguments saved) undone = record {
  some = some_last undone.takes.rest (with_values undone.takes.before undone.takes.left) new.frames.items (saved_items undone.mid new saved undone.marked ∙ undone.takes.turned.after);
  heap = same_longer old.heap new.heap (saved_heap undone.mid new saved undone.marked ∙ ap (λ (s : MachineState). s.heap) undone.takes.turned.same);
}
grows_by old new call (kind.Token class number operands locals) undone =
    let frame = undone.fills.frames undone.takes.rest (with_values undone.takes.before undone.takes.left) undone.takes.turned.after in
    record {
      some = some_last undone.takes.rest frame.after new.frames.items frame.are;
      heap = (undone.fills.added.name ∷ [], undone.fills.added.names ∙ ap (λ (s : MachineState). s.heap.names ++ undone.fills.added.name ∷ []) undone.takes.turned.same);
    }
grows_by old new call kind.Receiver undone = record {
  some = some_last undone.rest (with_values undone.before undone.left) new.frames.items undone.turned.after;
  heap = same_longer old.heap new.heap (ap (λ (s : MachineState). s.heap) undone.turned.same);
}

pub grows : (old new : MachineState) (call : Invocation) → CanUndo old new call → Grows old new
grows old new call can = grows_by old new call call.before can.undone

-- it has a running frame, as it had before
record HasTop (state : MachineState) : Type 0 where
  rest : List Frame
  frame : Frame
  top : state.frames.items ≡ rest ++ frame ∷ []

top_by : (old new : MachineState) (call : Invocation) (b : Before) → UndoneBy old new call b → HasTop old
top_by old new call (kind.Arguments saved) undone = record { rest = undone.takes.rest; frame = undone.takes.before; top = undone.takes.turned.before }
top_by old new call (kind.Token class number operands locals) undone = record { rest = undone.takes.rest; frame = undone.takes.before; top = undone.takes.turned.before }
top_by old new call kind.Receiver undone = record { rest = undone.rest; frame = undone.before; top = undone.turned.before }

pub prepared_stands : (k : Known) (before mid : MachineState) (mode : Mode) (r : Reference) (call : Invocation) → Prepares k before mid mode r call → CanUndo before mid call → StandsForOne k before → StandsForOne k mid
prepared_stands k before mid mode r call prepares can somewhere =
    let m = somewhere.machine in
    let t = somewhere.there in
    let top = top_by before mid call call.before can.undone in
    let f = seen_by m before.heap.names top.frame in
    let below = waiting m before.heap.names top.rest in
    let ready = prepares.ready m somewhere.left t f below somewhere.is somewhere.runs (frames_are m before somewhere.left t top.rest top.frame somewhere.runs top.top) in
    record {
      machine = m;
      left = somewhere.left;
      there = record { frames = frame_at f f.place ready.content ∷ below; world = ready.world; due = t.due };
      is = somewhere.is;
      runs = ready.runs;
    }

-- ---- while the method ran

-- the frames are at least as many
pub ran_frames : (k : Known) (old new : MachineState) (left rest : List Answer) (turning : Turning) (ran : Ran) (index : ℕ) → index < length old.frames.items → RanBy k old new left rest turning ran → is_done ran ≡ false → index < length new.frames.items
ran_frames k old new left rest turning (of_ran.Done step) index less by going = absurd (let e : true ≡ false = going in cc)
ran_frames k old new left rest turning of_ran.Begins index less by going = let e = ap length by.frames ∙ length-append old.frames.items by.own in omega (arith, e, less)
ran_frames k old new left rest turning (of_ran.Lacks event) index less by going = subst (λ (s : MachineState). index < length s.frames.items) (sym by.same) less

pub same_frames : (old new : MachineState) → IsSame old new → 0 < length old.frames.items → 0 < length new.frames.items
same_frames old new same less = let e = ap length same.frames in omega (arith, e, less)
