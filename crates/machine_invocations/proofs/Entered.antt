-- The state after a call.
use Rattle.std.specs.Prelude.{◌≡◌, ℕ, ◌≤◌, Bool, true, false, if◌then◌else◌, nat_le, List, [], ◌∷◌, ◌++◌, map, reverse, length, Option, Some, None, refl}
use Rattle.std.proofs.Common.{sym, ap, ◌∙◌, subst, arith, length-append}
use Rattle.std.specs.List.{AllByRecursion}
use Rattle.std.specs.Option.{option_map}
use Rattle.aj_names.specs.declared.ids.MethodId.{MethodId}
use Rattle.class_file.specs.Pool.{Reference}
use Rattle.class_world.specs.Tables.{Known}
use Rattle.class_machine.specs.Classes.{Method, member_text}
use Rattle.class_machine.specs.ClassFiles.{Place, place_in, method_code, entry_of, class_code}
use Rattle.class_machine.specs.Events as events
use Rattle.class_machine.specs.Machine as machines
use Rattle.class_machine.specs.Machine.{State, moved}
use Rattle.class_machine.specs.Turn as turns
use Rattle.class_machine.specs.Turn.{Turn, Enters, lock_of, entering, entered, filled, enters, stops}
use Rattle.class_machine.specs.Values as machine
use Rattle.class_machine.specs.World.{World}
use Rattle.machine_code.specs.declared.method_code.MethodCode as lent
use Rattle.machine_code.specs.declared.method_code.MethodEntry.{MethodEntry}
use Rattle.machine_code.specs.Views.{code_seen, entry_seen}
use Rattle.machine_values.specs.declared.frames.Frame.{Frame}
use Rattle.machine_values.specs.declared.frames.Purpose.{Purpose}
use Rattle.machine_values.specs.declared.names.Name.{Name}
use Rattle.machine_values.specs.declared.observed.Ending.TheVariants.{Unresolved, Broken}
use Rattle.machine_values.specs.declared.script.Answer.{Answer}
use Rattle.machine_values.specs.declared.state.MachineState.{MachineState}
use Rattle.machine_values.specs.declared.values.Ref.{Ref}
use Rattle.machine_values.specs.declared.values.Value.{Value}
use Rattle.machine_values.specs.declared.values.Local.{Local}
use Rattle.machine_values.specs.Stacks.{Stack, weight}
use Rattle.machine_values.specs.Standing.{name_of, held, Settled}
use Rattle.machine_values.specs.States.{machine_frame, machine_purpose, machine_due, local_in, is_known_purpose, IsFrameWithin, IsDueWithin}
use Rattle.machine_requests.specs.Growth.{frame_stays, due_stays}
use Rattle.machine_requests.specs.Objects.{AreFilled}
use Rattle.machine_requests.specs.Replies.{IsLonger}
use Rattle.machine_requests.specs.Shares.{Shares, others_of}
use Rattle.machine_steps.specs.declared.step.Step.TheVariants.{Went, Ended}
use Rattle.machine_steps.specs.Moves.{Moves, moved_by}
use Rattle.machine_steps.specs.Programs.{Machine, IsMachine}
use Rattle.machine_steps.specs.Running.{seen_by, waiting, top_first, all_pushed, HasCode}
use Rattle.machine_steps.specs.Runs.{IsMethod, IsDueFormed, IsFormed, Runs, Stepped}
use Rattle.machine_steps.specs.Within.{frame_more, frames_more, due_more}
use Rattle.machine_steps.specs.Going.{waiting_stay}
use Rattle.machine_invocations.specs.Methods.{classes_in, Sees}
use Rattle.machine_invocations.specs.Standards.{machine_of, by_machine}
use Rattle.machine_invocations.specs.Entering.{filled_with, beginning, PushesCall, enters_with}
use Rattle.machine_invocations.proofs.Filled.{weight_same, filled_same, known_filled, under}
use Rattle.machine_invocations.proofs.Initialised.{called_so}

-- ---- one more frame

pub pushed_runs : (m : Machine) (old new : MachineState) (left : List Answer) (t : State Place) (w : World) (g : Frame) → Runs m old left t → new.frames.items ≡ old.frames.items ++ g ∷ [] → IsLonger old.heap new.heap
    → new.due ≡ old.due → IsFrameWithin (length new.heap.names) g → Shares m.setting new.heap (others_of new) w → w.answers ≡ t.world.answers → AreFilled new.heap m.setting
    → Runs m new left (record { frames = seen_by m new.heap.names g ∷ t.frames; world = w; due = t.due })
pushed_runs m old new left t w g runs items longer due within shares same filled =
    let names = old.heap.names in
    let more = longer.0 in
    let many : length names ≤ length new.heap.names = let e = ap length longer.1 in let n = length-append names more in omega arith in
    record {
      shares = shares;
      frames = record {
        frames = sym (
            ap (λ fs. map (seen_by m new.heap.names) (reverse fs)) items ∙ top_first (seen_by m new.heap.names) old.frames.items g
            ∙ ap (λ fs. seen_by m new.heap.names g ∷ fs) (ap (λ (all : List Name). waiting m all old.frames.items) longer.1 ∙ waiting_stay m names more old.frames.items runs.frames.frames_within ∙ sym runs.frames.frames)
            );
        due = runs.frames.due ∙ sym (
            ap (machine_due m.setting.heads m.methods new.heap.names) due ∙ ap (λ (all : List Name). machine_due m.setting.heads m.methods all old.due) longer.1
            ∙ due_stays m.setting.heads names more m.methods old.due runs.frames.due_within
            );
        frames_within = subst (AllByRecursion (IsFrameWithin (length new.heap.names))) (sym items)
            (all_pushed (IsFrameWithin (length new.heap.names)) old.frames.items g (frames_more (length names) (length new.heap.names) many old.frames.items runs.frames.frames_within) within);
        due_within = subst (IsDueWithin (length new.heap.names)) (sym due) (due_more (length names) (length new.heap.names) many old.due runs.frames.due_within);
      };
      answers = same ∙ runs.answers;
      filled = filled;
    }

answers_stay : (lock : Option machine.Name) (w : World) → (entering lock w).answers ≡ w.answers
answers_stay None w = refl
answers_stay (Some a) w = refl

-- ---- the frame

module _ (k : Known) (method : MethodId) (entry : MethodEntry) (given : List Value) (purpose : Purpose) (callee : Method) (sees : Sees k method.0 callee) where
  abbrev fresh : Frame
  fresh = beginning method entry given purpose

  pub fresh_within : (count : ℕ) → AllByRecursion (Settled count) given → is_known_purpose count purpose ≡ true → IsFrameWithin count fresh
  fresh_within count settled known = record { operands = tt; locals = known_filled count entry.locals given settled; monitor = refl; purpose = known }

  module _ (fields methods : ℕ → Reference) (is : IsMachine k (machine_of k fields methods)) (names more : List Name) (receiver monitor : Option Ref)
      (settled : AllByRecursion (Settled (length names)) given) (known : is_known_purpose (length names) purpose ≡ true)
      (locked : option_map (name_of k.heads (names ++ more)) monitor ≡ lock_of callee (option_map (name_of k.heads names) receiver)) where
    abbrev shape : Reference → List (machine.Local Place) → Option machine.Name → turns.Frame Place
    shape r locals lock = record { method = r; place = place_in r 0; content = machine.content [] locals; room = entry.room; monitor = lock; constructed = false; purpose = machine_purpose k.heads methods names purpose }

    pub frame_is : machine_frame k.heads methods (names ++ more) (record fresh { monitor = monitor })
        ≡ entered (machine_purpose k.heads methods names purpose) callee (option_map (name_of k.heads names) receiver) (map (held k.heads names) given) (entry_seen callee.name entry)
    frame_is =
        ap (λ (x : turns.Frame Place). record x { monitor = option_map (name_of k.heads (names ++ more)) monitor }) (frame_stays k.heads names more methods fresh (fresh_within (length names) settled known))
        ∙ ap (shape (methods method.0) (map (local_in k.heads methods names method.0) (filled_with entry.locals given))) locked
        ∙ ap (λ ls. shape (methods method.0) ls (lock_of callee (option_map (name_of k.heads names) receiver))) (filled_same k.heads names methods method.0 entry.locals given settled)
        ∙ ap (λ r. shape r (filled entry.locals (map (held k.heads names) given)) (lock_of callee (option_map (name_of k.heads names) receiver))) (called_so k fields methods method.0 callee is sees)

-- ---- the turn

module _ (k : Known) (old : MachineState) (method : MethodId) (callee : Method) (sees : Sees k method.0 callee) (r : Reference) (receiver : Option Ref) (given : List Value) (purpose : Purpose) where
  code_there : (fields methods : ℕ → Reference) (code : Option lent.MethodCode) → IsMachine k (machine_of k fields methods) → HasCode k method.0 code
      → (class_code k.files).method callee.name ≡ option_map (entry_of callee.name) (option_map code_seen code)
  code_there fields methods code is has =
      ap (λ n. option_map (entry_of callee.name) (method_code k.files n)) (sym (called_so k fields methods method.0 callee is sees)) ∙ ap (option_map (entry_of callee.name)) (sym (has (machine_of k fields methods) is))

  module _ (fields methods : ℕ → Reference) where
    abbrev turn_to : State Place → turns.Frame Place → Option (turns.Entry Place) → Turn Place
    turn_to t f entry =
        enters (class_code k.files) (classes_in k) (machine_purpose k.heads methods old.heap.names purpose) f.content t.world r callee
        (option_map (name_of k.heads old.heap.names) receiver) (map (held k.heads old.heap.names) given) entry

    abbrev moved_to : State Place → turns.Frame Place → List (turns.Frame Place) → Turn Place → machines.Step (State Place)
    moved_to t f below turn = moved (class_code k.files) (classes_in k) t.due turn t.world f below

  pub unresolved : (new : MachineState) (code : Option lent.MethodCode) (text : List ℕ) → HasCode k method.0 code → code ≡ None → text ≡ member_text r → Moves k old new (Ended (Unresolved text)) (enters_with r callee receiver given purpose old)
  unresolved new code text has none same m left t f below is runs top =
      by_machine k (λ x. Stepped x new left (Ended (Unresolved text)) (moved_by (enters_with r callee receiver given purpose old) x t f below)) m
      (λ fields methods there.
      subst (λ (o : Option (turns.Entry Place)). Stepped (machine_of k fields methods) new left (Ended (Unresolved text)) (moved_to fields methods t f below (turn_to fields methods t f o)))
      (sym (code_there fields methods code there has ∙ ap (λ o. option_map (entry_of callee.name) (option_map code_seen o)) none)) (ap events.Unresolved same)) is

  module _ (code : lent.MethodCode) (entry : MethodEntry) (has : HasCode k method.0 (Some code)) (seen : entry_seen callee.name entry ≡ entry_of callee.name (code_seen code)) where
    entry_there : (fields methods : ℕ → Reference) → IsMachine k (machine_of k fields methods) → (class_code k.files).method callee.name ≡ Some (entry_seen callee.name entry)
    entry_there fields methods is = code_there fields methods (Some code) is has ∙ ap Some (sym seen)

    abbrev by_room : (ℕ → Reference) → (ℕ → Reference) → State Place → turns.Frame Place → Bool → Turn Place
    by_room fields methods t f b =
        let names = old.heap.names in
        if b then Enters (entered (machine_purpose k.heads methods names purpose) callee (option_map (name_of k.heads names) receiver) (map (held k.heads names) given) (entry_seen callee.name entry)) f.content
        (entering (lock_of callee (option_map (name_of k.heads names) receiver)) t.world) else stops events.Broken

    pub too_few : (new : MachineState) → false ≡ nat_le (weight given) entry.locals → Moves k old new (Ended Broken) (enters_with r callee receiver given purpose old)
    too_few new few m left t f below is runs top =
        by_machine k (λ x. Stepped x new left (Ended Broken) (moved_by (enters_with r callee receiver given purpose old) x t f below)) m
        (λ fields methods there.
        subst (λ (o : Option (turns.Entry Place)). Stepped (machine_of k fields methods) new left (Ended Broken) (moved_to fields methods t f below (turn_to fields methods t f o))) (sym (entry_there fields methods there))
        (subst (λ (b : Bool). Stepped (machine_of k fields methods) new left (Ended Broken) (moved_to fields methods t f below (by_room fields methods t f b)))
        (few ∙ ap (λ n. nat_le n entry.locals) (sym (weight_same k.heads old.heap.names given))) refl)) is

    pub entered_moves : (new : MachineState) → weight given ≤ entry.locals → AllByRecursion (Settled (length old.heap.names)) given → is_known_purpose (length old.heap.names) purpose ≡ true
        → PushesCall k old new callee receiver (beginning method entry given purpose) → Moves k old new Went (enters_with r callee receiver given purpose old)
    entered_moves new room settled known pushes m left t f below is runs top =
        by_machine k (λ x. Runs x old left t → Stepped x new left Went (moved_by (enters_with r callee receiver given purpose old) x t f below)) m
        (λ fields methods there here.
        subst (λ (o : Option (turns.Entry Place)). Stepped (machine_of k fields methods) new left Went (moved_to fields methods t f below (turn_to fields methods t f o))) (sym (entry_there fields methods there))
        (subst (λ (b : Bool). Stepped (machine_of k fields methods) new left Went (moved_to fields methods t f below (by_room fields methods t f b)))
        (under (weight given) entry.locals room ∙ ap (λ n. nat_le n entry.locals) (sym (weight_same k.heads old.heap.names given)))
        (goes fields methods there here))) is runs where
          goes : (fields methods : ℕ → Reference) → IsMachine k (machine_of k fields methods) → Runs (machine_of k fields methods) old left t
              → Runs (machine_of k fields methods) new left (record {
                frames = entered (machine_purpose k.heads methods old.heap.names purpose) callee (option_map (name_of k.heads old.heap.names) receiver) (map (held k.heads old.heap.names) given) (entry_seen callee.name entry) ∷ f ∷ below;
                world = entering (lock_of callee (option_map (name_of k.heads old.heap.names) receiver)) t.world;
                due = t.due;
              })
          goes fields methods there here =
              let x = machine_of k fields methods in
              let names = old.heap.names in
              let lock = lock_of callee (option_map (name_of k.heads names) receiver) in
              let more = pushes.names.0 in
              let longer = pushes.names.1 in
              let many : length names ≤ length new.heap.names = let e = ap length longer in let n = length-append names more in omega arith in
              let inside = pushes.locks.there x (others_of old) t.world there refl here.shares in
              let g = record (beginning method entry given purpose) { monitor = pushes.monitor } in
              let before = frame_more (length names) (length new.heap.names) many (beginning method entry given purpose) (fresh_within k method entry given purpose callee sees (length names) settled known) in
              let within : IsFrameWithin (length new.heap.names) g = record { operands = before.operands; locals = before.locals; monitor = pushes.locks.known; purpose = before.purpose } in
              let shares = subst (λ (s : MachineState). Shares x.setting new.heap (others_of s) (entering lock t.world)) (sym pushes.rest) inside.shares in
              let due = ap (λ (s : MachineState). s.due) pushes.rest in
              let done = pushed_runs x old new left t (entering lock t.world) g here pushes.frames pushes.names due within shares (answers_stay lock t.world) (inside.filled here.filled) in
              let named = ap (λ (all : List Name). option_map (name_of k.heads all) pushes.monitor) (sym longer) ∙ inside.named in
              let same = ap (λ (all : List Name). machine_frame k.heads methods all g) longer ∙ frame_is k method entry given purpose callee sees fields methods there names more receiver pushes.monitor settled known named in
              subst (λ (fs : List (turns.Frame Place)). Runs x new left (record { frames = fs; world = entering lock t.world; due = t.due }))
              (ap (λ (first : turns.Frame Place). first ∷ t.frames) same ∙ ap (λ (fs : List (turns.Frame Place)). entered (machine_purpose k.heads methods names purpose) callee (option_map (name_of k.heads names) receiver) (map (held k.heads names) given) (entry_seen callee.name entry) ∷ fs) top) done

-- ---- what holds of it by itself

pub entered_formed : (k : Known) (old new : MachineState) (callee : Method) (receiver : Option Ref) (frame : Frame) → PushesCall k old new callee receiver frame → IsMethod k frame.method.0 → IsFormed k old → IsFormed k new
entered_formed k old new callee receiver frame pushes method formed =
    subst (IsFormed k) (sym pushes.rest)
    (record {
      statics = formed.statics;
      begun = formed.begun;
      frames = subst (AllByRecursion (λ (f : Frame). IsMethod k f.method.0)) (sym pushes.frames) (all_pushed (λ (f : Frame). IsMethod k f.method.0) old.frames.items (record frame { monitor = pushes.monitor }) formed.frames method);
      due = formed.due;
    })

pub keeps_formed : (k : Known) (old new : MachineState) → new.frames.items ≡ old.frames.items → new.due ≡ old.due → new.statics ≡ old.statics → new.begun ≡ old.begun → IsFormed k old → IsFormed k new
keeps_formed k old new frames due statics begun formed = record {
  statics = ap length statics ∙ formed.statics;
  begun = ap length begun ∙ formed.begun;
  frames = subst (AllByRecursion (λ (f : Frame). IsMethod k f.method.0)) (sym frames) formed.frames;
  due = subst (IsDueFormed k) (sym due) formed.due;
}

pub beginning_is : (method : MethodId) (entry : MethodEntry) (given : List Value) (purpose : Purpose) (operands : Stack) (locals : List Local) → operands.room ≡ entry.room → operands.values ≡ [] → locals ≡ filled_with entry.locals given
    → record (beginning method entry given purpose) { operands = operands; locals = locals } ≡ beginning method entry given purpose
beginning_is method entry given purpose operands locals room values same =
    ap (λ (n : ℕ). record (beginning method entry given purpose) { operands = record { room = n; values = operands.values }; locals = locals }) room
    ∙ ap (λ (vs : List Value). record (beginning method entry given purpose) { operands = record { room = entry.room; values = vs }; locals = locals }) values
    ∙ ap (λ (ls : List Local). record (beginning method entry given purpose) { locals = ls }) same
