-- The first state of a run, part by part.
use Rattle.std.specs.Prelude.{◌≡◌, ℕ, zero, suc, ◌+◌, ◌<◌, ◌≤◌, Bool, true, false, if◌then◌else◌, nat_le, List, [], ◌∷◌, ◌++◌, map, replicate, take, length, slice_get, get_or, Option, Some, None, refl}
use Rattle.std.specs.List.{AllByRecursion, sum}
use Rattle.std.specs.Option.{option_map}
use Rattle.std.proofs.Common.{sym, ◌∙◌, ap, subst, arith}
use Rattle.std.proofs.lemmas.Grind.{common_steps}
use Rattle.std.proofs.lemmas.Option.{same_Some}
use Rattle.aj_names.specs.declared.ids.MethodId.{MethodId}
use Rattle.class_heads.specs.declared.types.ClassHead.{ClassHead}
use Rattle.class_heads.specs.Hierarchy.{name_at}
use Rattle.class_heads.specs.Numbers.{field_counts}
use Rattle.class_world.specs.Tables.{Known}
use Rattle.class_file.specs.Pool.{Reference}
use Rattle.class_machine.specs.Classes.{Method, member_text}
use Rattle.class_machine.specs.ClassFiles.{Place, method_code, entry_of, class_code}
use Rattle.class_machine.specs.Events as events
use Rattle.class_machine.specs.Machine as machines
use Rattle.class_machine.specs.Machine.{State}
use Rattle.class_machine.specs.Start as starts
use Rattle.class_machine.specs.Start.{EntryArgument, first_world, argument, arguments, texts_from}
use Rattle.class_machine.specs.Turn as turns
use Rattle.class_machine.specs.Turn.{lock_of, entering, entered}
use Rattle.class_machine.specs.Values as machine
use Rattle.class_machine.specs.Values.{Held}
use Rattle.class_machine.specs.World.{World, add_text}
use Rattle.machine_code.specs.declared.method_code.MethodCode as lent
use Rattle.machine_code.specs.declared.method_code.MethodEntry.{MethodEntry}
use Rattle.machine_code.specs.Views.{code_seen, entry_seen}
use Rattle.machine_values.specs.declared.frames.Frame.{Frame}
use Rattle.machine_values.specs.declared.frames.Purpose.TheVariants.{Ordinary}
use Rattle.machine_values.specs.declared.names.Name.{Name}
use Rattle.machine_values.specs.declared.observed.Ending.TheVariants.{Unresolved, Broken}
use Rattle.machine_values.specs.declared.script.Answer.{Answer}
use Rattle.machine_values.specs.declared.script.Entry.{Entry}
use Rattle.machine_values.specs.declared.state.Due.{Due}
use Rattle.machine_values.specs.declared.state.Due.TheVariants as due
use Rattle.machine_values.specs.declared.state.MachineState.{MachineState}
use Rattle.machine_values.specs.declared.values.Value.{Value}
use Rattle.machine_values.specs.Observed.{machine_answer}
use Rattle.machine_values.specs.Stacks.{weight}
use Rattle.machine_values.specs.Standing.{name_of, held, Settled}
use Rattle.machine_values.specs.States.{machine_frame, machine_due, IsFrameWithin, IsDueWithin}
use Rattle.machine_values.specs.Things.{Things}
use Rattle.machine_requests.specs.Shares.{Others, Shares, others_of}
use Rattle.machine_steps.specs.Going.{waiting_stay}
use Rattle.machine_steps.specs.Programs.{Machine, IsMachine}
use Rattle.machine_steps.specs.Running.{waiting, HasCode}
use Rattle.machine_steps.specs.Runs.{IsMethod, IsDueFormed, IsFormed, Runs}
use Rattle.machine_steps.specs.Within.{frame_more, frames_more, due_more}
use Rattle.machine_invocations.specs.Entering.{beginning, PushesCall}
use Rattle.machine_invocations.specs.Initialising.{begun_state, Begins}
use Rattle.machine_invocations.specs.Methods.{Sees}
use Rattle.machine_invocations.specs.Standards.{machine_of, by_machine}
use Rattle.machine_invocations.proofs.Entered.{pushed_runs, fresh_within, frame_is}
use Rattle.machine_invocations.proofs.Filled.{weight_same, under}
use Rattle.machine_invocations.proofs.Initialised.{seen_name}
use Rattle.machine_start.specs.Arguments.{argument_of, MakesValues}
use Rattle.machine_start.specs.Opening.{idle, unused, HasOutput, IsFirstState, Opens, Triggers, natively, by_code, Starts}
use Rattle.machine_start.proofs.Made.{many_more}

-- ---- without an entry

length_replicate : {X : Type 0} (n : ℕ) (x : X) → length (replicate n x) ≡ n
length_replicate zero x = refl
length_replicate (suc n) x = ap suc (length_replicate n x)

replicate_one : {X : Type 0} (n : ℕ) (x : X) → replicate (suc n) x ≡ replicate n x ++ x ∷ []
replicate_one zero x = refl
replicate_one (suc n) x = ap (λ xs. x ∷ xs) (replicate_one n x)

pub replicate_more : {X : Type 0} (n : ℕ) (x : X) → replicate (n + 1) x ≡ replicate n x ++ x ∷ []
replicate_more n x = ap (λ (m : ℕ). replicate m x) (let e : n + 1 ≡ suc n = omega arith in e) ∙ replicate_one n x

replicate_both : {X : Type 0} (a b : ℕ) (x : X) → replicate (a + b) x ≡ replicate a x ++ replicate b x
replicate_both zero b x = ap (λ (m : ℕ). replicate m x) (let e : 0 + b ≡ b = omega arith in e)
replicate_both (suc a) b x = ap (λ (m : ℕ). replicate m x) (let e : suc a + b ≡ suc (a + b) = omega arith in e) ∙ ap (λ xs. x ∷ xs) (replicate_both a b x)

sum_next : (ns : List ℕ) (i : ℕ) → i < length ns → sum (take (i + 1) ns) ≡ sum (take i ns) + get_or ns i 0
sum_next ns i within = grind (arith, common_steps)

count_at : (heads : List ClassHead) (class : ℕ) (head : ClassHead) → slice_get heads class ≡ Some head → (class < length (field_counts heads)) × (get_or (field_counts heads) class 0 ≡ length head.fields)
count_at [] class head h = absurd cc
count_at (c ∷ heads) zero head h = (omega arith, ap (λ (x : ClassHead). length x.fields) (same_Some c head h))
count_at (c ∷ heads) (suc class) head h = let rest = count_at heads class head h in ((let below = rest.0 in omega arith), rest.1)

counts_next : (heads : List ClassHead) (class : ℕ) (head : ClassHead) → slice_get heads class ≡ Some head → sum (take (class + 1) (field_counts heads)) ≡ sum (take class (field_counts heads)) + length head.fields
counts_next heads class head h =
    let at = count_at heads class head h in
    sum_next (field_counts heads) class at.0 ∙ ap (λ (n : ℕ). sum (take class (field_counts heads)) + n) at.1

pub statics_next : (heads : List ClassHead) (class : ℕ) (head : ClassHead) (old new : List (Option Value)) → slice_get heads class ≡ Some head → old ≡ replicate (sum (take class (field_counts heads))) None
    → new ≡ old ++ replicate (length head.fields) None → new ≡ replicate (sum (take (class + 1) (field_counts heads))) None
statics_next heads class head old new there so_far next =
    next ∙ ap (λ (os : List (Option Value)). os ++ replicate (length head.fields) None) so_far
    ∙ sym (replicate_both (sum (take class (field_counts heads))) (length head.fields) None) ∙ ap (λ (n : ℕ). replicate n None) (sym (counts_next heads class head there))

module _ (k : Known) (state : MachineState) (fields classes : ℕ) (frames : state.frames.items ≡ []) (none : state.due ≡ due.Nothing)
    (statics : state.statics ≡ replicate fields None) (begun : state.begun ≡ replicate classes false) (monitors : state.monitors ≡ []) where
  others_are : others_of state ≡ unused fields classes
  others_are =
      ap (λ (x : List (Option Value)). record { statics = x; begun = state.begun; monitors = state.monitors }) statics
      ∙ ap (λ (x : List Bool). record { statics = replicate fields None; begun = x; monitors = state.monitors }) begun
      ∙ ap (λ (x : List ℕ). record { statics = replicate fields None; begun = replicate classes false; monitors = x }) monitors

  pub first_there : HasOutput k state.heap → IsFirstState k state
  first_there has m left is =
      let output = has m fields classes left is in
      record {
        shares = subst (λ (o : Others). Shares m.setting state.heap o (first_world (map machine_answer left))) (sym others_are) output.shares;
        frames = record {
          frames = sym (ap (waiting m state.heap.names) frames);
          due = sym (ap (machine_due m.setting.heads m.methods state.heap.names) none);
          frames_within = subst (AllByRecursion (IsFrameWithin (length state.heap.names))) (sym frames) tt;
          due_within = subst (IsDueWithin (length state.heap.names)) (sym none) tt;
        };
        answers = refl;
        filled = output.filled;
      }

  pub first_formed : fields ≡ sum (field_counts k.heads) → classes ≡ length k.heads → IsFormed k state
  first_formed as_fields as_classes = record {
    statics = ap length statics ∙ length_replicate fields None ∙ as_fields;
    begun = ap length begun ∙ length_replicate classes false ∙ as_classes;
    frames = subst (AllByRecursion (λ (f : Frame). IsMethod k f.method.0)) (sym frames) tt;
    due = subst (IsDueFormed k) (sym none) tt;
  }

-- ---- with the arguments

texts_answers : (texts : List (List ℕ)) (w : World) → (texts_from texts w).1.answers ≡ w.answers
texts_answers [] w = refl
texts_answers (units ∷ texts) w = texts_answers texts (add_text w units).1

argument_answers : (x : EntryArgument) (w : World) → (argument x w).1.answers ≡ w.answers
argument_answers (starts.Int n) w = refl
argument_answers (starts.Long n) w = refl
argument_answers starts.Null w = refl
argument_answers (starts.Text units) w = refl
argument_answers (starts.Texts texts) w = texts_answers texts _

arguments_answers : (xs : List EntryArgument) (w : World) → (arguments xs w).1.answers ≡ w.answers
arguments_answers [] w = refl
arguments_answers (x ∷ xs) w = arguments_answers xs (argument x w).1 ∙ argument_answers x w

pub given_runs : (k : Known) (old : MachineState) (heap : Things) (xs : List EntryArgument) (vs : List Value) → MakesValues k old.heap xs heap vs
    → (m : Machine) (left : List Answer) (w : World) → IsMachine k m → Runs m old left (idle w) → Runs m (record old { heap = heap }) left (idle (arguments xs w).1)
given_runs k old heap xs vs makes m left w is runs =
    let names = old.heap.names in
    let more = makes.longer.0 in
    let many = many_more old.heap heap makes.longer in
    let there = makes.there m (others_of old) w is (record { shares = runs.shares; filled = runs.filled }) in
    record {
      shares = there.holds.shares;
      frames = record {
        frames = runs.frames.frames ∙ sym (
            ap (λ (all : List Name). waiting m all old.frames.items) makes.longer.1
            ∙ waiting_stay m names more old.frames.items runs.frames.frames_within
            );
        due = idle_due m old left w runs heap;
        frames_within = frames_more (length names) (length heap.names) many old.frames.items runs.frames.frames_within;
        due_within = due_more (length names) (length heap.names) many old.due runs.frames.due_within;
      };
      answers = arguments_answers xs w ∙ runs.answers;
      filled = there.holds.filled;
    } where
      by : (m : Machine) (heap' : Things) (d : Due) → machines.Nothing ≡ machine_due m.setting.heads m.methods old.heap.names d → machines.Nothing ≡ machine_due m.setting.heads m.methods heap'.names d
      by m heap' due.Nothing e = refl
      by m heap' (due.NativeEntry method given) e = absurd cc
      by m heap' (due.Finally ending) e = absurd cc

      idle_due : (m : Machine) (old' : MachineState) (left : List Answer) (w : World) → Runs m old left (idle w) → (heap' : Things) → machines.Nothing ≡ machine_due m.setting.heads m.methods heap'.names old.due
      idle_due m old' left w runs heap' = by m heap' old.due runs.frames.due

-- ---- what is due

due_runs : (m : Machine) (old : MachineState) (left : List Answer) (w : World) (d : Due) (e : machines.Due) → Runs m old left (idle w)
    → e ≡ machine_due m.setting.heads m.methods old.heap.names d → IsDueWithin (length old.heap.names) d → Runs m (record old { due = d }) left (record { frames = []; world = w; due = e })
due_runs m old left w d e runs same within = record {
  shares = runs.shares;
  frames = record { frames = runs.frames.frames; due = same; frames_within = runs.frames.frames_within; due_within = within };
  answers = runs.answers;
  filled = runs.filled;
}

pub due_formed : (k : Known) (old : MachineState) (d : Due) → IsFormed k old → IsDueFormed k d → IsFormed k (record old { due = d })
due_formed k old d formed due = record { statics = formed.statics; begun = formed.begun; frames = formed.frames; due = due }

-- ---- initialisers

pub triggers : (k : Known) (old new : MachineState) (class : ℕ) (callee : Method) (some : Bool) → name_at k.heads class ≡ callee.name.class
    → ((m : Machine) (answers : List Answer) (t : State Place) → IsMachine k m → Runs m old answers t → Begins m new answers t (name_at k.heads class) some) → Triggers k old new callee
triggers k old new class callee some named begins m left t is runs =
    subst (λ (n : List ℕ). Runs m new left (begun_state m t n)) named (begins m left t is runs).runs

-- ---- native entries

called : (k : Known) (m : Machine) (number : ℕ) (callee : Method) → IsMachine k m → Sees k number callee → m.methods number ≡ callee.name
called k m number callee is sees = ap m.methods sees.numbered ∙ is.methods sees.place sees.first ∙ seen_name k number callee sees

pub opened_native : (k : Known) (old new : MachineState) (method : MethodId) (given : List Value) (callee : Method) → Sees k method.0 callee → AllByRecursion (Settled (length old.heap.names)) given
    → Triggers k (record old { due = due.NativeEntry method given }) new callee → Opens k old new (natively callee given old)
opened_native k old new method given callee sees settled begins m left w is runs =
    let names = old.heap.names in
    begins m left (record { frames = []; world = w; due = machines.NativeEntry callee.name (map (held m.setting.heads names) given) }) is
    (due_runs m old left w (due.NativeEntry method given) (machines.NativeEntry callee.name (map (held m.setting.heads names) given)) runs
    (ap (λ (r : Reference). machines.NativeEntry r (map (held m.setting.heads names) given)) (sym (called k m method.0 callee is sees))) settled)

-- ---- entries with code

answers_stay : (lock : Option machine.Name) (w : World) → (entering lock w).answers ≡ w.answers
answers_stay None w = refl
answers_stay (Some a) w = refl

module _ (k : Known) (old : MachineState) (method : MethodId) (callee : Method) (sees : Sees k method.0 callee) (given : List Value) where
  code_there : (m : Machine) (code : Option lent.MethodCode) → IsMachine k m → HasCode k method.0 code → (class_code m.files).method callee.name ≡ option_map (entry_of callee.name) (option_map code_seen code)
  code_there m code is has =
      ap (λ (r : Reference). option_map (entry_of callee.name) (method_code m.files r)) (sym (called k m method.0 callee is sees)) ∙ ap (option_map (entry_of callee.name)) (sym (has m is))

  abbrev opening : Machine → World → Option (turns.Entry Place) → State Place
  opening m w entry = starts.at_entry (class_code m.files) m.setting.classes callee (map (held m.setting.heads old.heap.names) given) w entry

  pub opened_codeless : (code : Option lent.MethodCode) (text : List ℕ) → HasCode k method.0 code → code ≡ None → text ≡ member_text callee.name
      → Opens k old (record old { due = due.Finally (Unresolved text) }) (by_code callee given old)
  opened_codeless code text has none same m left w is runs =
      subst (λ (o : Option (turns.Entry Place)). Runs m (record old { due = due.Finally (Unresolved text) }) left (opening m w o))
      (sym (code_there m code is has ∙ ap (λ (o : Option lent.MethodCode). option_map (entry_of callee.name) (option_map code_seen o)) none))
      (due_runs m old left w (due.Finally (Unresolved text)) (machines.Finally (events.Unresolved (member_text callee.name))) runs (ap (λ (t : List ℕ). machines.Finally (events.Unresolved t)) (sym same)) tt)

  module _ (code : lent.MethodCode) (entry : MethodEntry) (has : HasCode k method.0 (Some code)) (seen : entry_seen callee.name entry ≡ entry_of callee.name (code_seen code)) where
    entry_there : (m : Machine) → IsMachine k m → (class_code m.files).method callee.name ≡ Some (entry_seen callee.name entry)
    entry_there m is = code_there m (Some code) is has ∙ ap Some (sym seen)

    abbrev by_room : Machine → World → Bool → State Place
    by_room m w b =
        let held_so = map (held m.setting.heads old.heap.names) given in
        if b then starts.above (class_code m.files) m.setting.classes (entering (lock_of callee None) w) callee (entered turns.Ordinary callee None held_so (entry_seen callee.name entry) ∷ []) machines.Nothing
        else starts.over (class_code m.files) m.setting.classes w events.Broken

    pub opened_small : false ≡ nat_le (weight given) entry.locals → Opens k old (record old { due = due.Finally Broken }) (by_code callee given old)
    opened_small few m left w is runs =
        subst (λ (o : Option (turns.Entry Place)). Runs m (record old { due = due.Finally Broken }) left (opening m w o)) (sym (entry_there m is))
        (subst (λ (b : Bool). Runs m (record old { due = due.Finally Broken }) left (by_room m w b))
        (few ∙ ap (λ n. nat_le n entry.locals) (sym (weight_same m.setting.heads old.heap.names given)))
        (due_runs m old left w (due.Finally Broken) (machines.Finally events.Broken) runs refl tt))

    abbrev entry_state : Machine → World → State Place
    entry_state m w = record {
      frames = entered turns.Ordinary callee None (map (held m.setting.heads old.heap.names) given) (entry_seen callee.name entry) ∷ [];
      world = entering (lock_of callee None) w;
      due = machines.Nothing;
    }

    pushed : (mid : MachineState) → AllByRecursion (Settled (length old.heap.names)) given → PushesCall k old mid callee None (beginning method entry given Ordinary)
        → (fields methods : ℕ → Reference) → IsMachine k (machine_of k fields methods) → (left : List Answer) (w : World) → Runs (machine_of k fields methods) old left (idle w)
        → Runs (machine_of k fields methods) mid left (entry_state (machine_of k fields methods) w)
    pushed mid settled pushes fields methods there left w here =
        let x = machine_of k fields methods in
        let names = old.heap.names in
        let lock = lock_of callee None in
        let more = pushes.names.0 in
        let longer = pushes.names.1 in
        let many = many_more old.heap mid.heap pushes.names in
        let inside = pushes.locks.there x (others_of old) w there refl here.shares in
        let first = beginning method entry given Ordinary in
        let g = record first { monitor = pushes.monitor } in
        let before = frame_more (length names) (length mid.heap.names) many first (fresh_within k method entry given Ordinary callee sees (length names) settled refl) in
        let within : IsFrameWithin (length mid.heap.names) g = record { operands = before.operands; locals = before.locals; monitor = pushes.locks.known; purpose = before.purpose } in
        let shares = subst (λ (s : MachineState). Shares x.setting mid.heap (others_of s) (entering lock w)) (sym pushes.rest) inside.shares in
        let due = ap (λ (s : MachineState). s.due) pushes.rest in
        let done = pushed_runs x old mid left (idle w) (entering lock w) g here pushes.frames pushes.names due within shares (answers_stay lock w) (inside.filled here.filled) in
        let named = ap (λ (all : List Name). option_map (name_of k.heads all) pushes.monitor) (sym longer) ∙ inside.named in
        let same = ap (λ (all : List Name). machine_frame k.heads methods all g) longer ∙ frame_is k method entry given Ordinary callee sees fields methods there names more None pushes.monitor settled refl named in
        subst (λ (f : turns.Frame Place). Runs x mid left (record { frames = f ∷ []; world = entering lock w; due = machines.Nothing })) same done

    pub opened_code : (mid new : MachineState) → weight given ≤ entry.locals → AllByRecursion (Settled (length old.heap.names)) given → PushesCall k old mid callee None (beginning method entry given Ordinary)
        → Triggers k mid new callee → Opens k old new (by_code callee given old)
    opened_code mid new room settled pushes begins m left w is runs =
        subst (λ (o : Option (turns.Entry Place)). Runs m new left (opening m w o)) (sym (entry_there m is))
        (subst (λ (b : Bool). Runs m new left (by_room m w b))
        (under (weight given) entry.locals room ∙ ap (λ n. nat_le n entry.locals) (sym (weight_same m.setting.heads old.heap.names given)))
        (begins m left (entry_state m w) is
        (by_machine k (λ x. Runs x old left (idle w) → Runs x mid left (entry_state x w)) m (λ fields methods there. pushed mid settled pushes fields methods there left w) is runs)))

-- ---- the whole

module _ (k : Known) (entry : Entry) (first : MachineState) (heap : Things) (vs : List Value) (new : MachineState)
    (fresh : IsFirstState k first) (makes : MakesValues k first.heap (map argument_of entry.args) heap vs) where
  abbrev ready : MachineState
  ready = record first { heap = heap }

  abbrev words : List EntryArgument
  words = map argument_of entry.args

  abbrev made : List Answer → List Held × World
  made left = arguments words (first_world (map machine_answer left))

  ready_runs : (m : Machine) (left : List Answer) → IsMachine k m → Runs m ready left (idle (made left).1)
  ready_runs m left is = given_runs k first heap words vs makes m left (first_world (map machine_answer left)) is (fresh m left is)

  values_are : (m : Machine) (left : List Answer) → IsMachine k m → map (held m.setting.heads heap.names) vs ≡ (made left).0
  values_are m left is =
      let runs = fresh m left is in
      (makes.there m (others_of first) (first_world (map machine_answer left)) is (record { shares = runs.shares; filled = runs.filled })).values

  abbrev by_kind : Machine → List Answer → Method → Bool → State Place
  by_kind m left callee native =
      if native then starts.above (class_code m.files) m.setting.classes (made left).1 callee [] (machines.NativeEntry callee.name (made left).0)
      else starts.at_entry (class_code m.files) m.setting.classes callee (made left).0 (made left).1 ((class_code m.files).method callee.name)

  pub starts_native : ((callee : Method) → Sees k entry.method.0 callee → true ≡ callee.is_native) → ((callee : Method) → Sees k entry.method.0 callee → Opens k ready new (natively callee vs ready)) → Starts k entry new
  starts_native native opens m left callee is sees =
      subst (λ (b : Bool). Runs m new left (by_kind m left callee b)) (native callee sees)
      (subst (λ (hs : List Held). Runs m new left (starts.above (class_code m.files) m.setting.classes (made left).1 callee [] (machines.NativeEntry callee.name hs))) (values_are m left is)
      (opens callee sees m left (made left).1 is (ready_runs m left is)))

  pub starts_code : ((callee : Method) → Sees k entry.method.0 callee → false ≡ callee.is_native) → ((callee : Method) → Sees k entry.method.0 callee → Opens k ready new (by_code callee vs ready)) → Starts k entry new
  starts_code native opens m left callee is sees =
      subst (λ (b : Bool). Runs m new left (by_kind m left callee b)) (native callee sees)
      (subst (λ (hs : List Held). Runs m new left (starts.at_entry (class_code m.files) m.setting.classes callee hs (made left).1 ((class_code m.files).method callee.name))) (values_are m left is)
      (opens callee sees m left (made left).1 is (ready_runs m left is)))

pub heap_formed : (k : Known) (old : MachineState) (heap : Things) → IsFormed k old → IsFormed k (record old { heap = heap })
heap_formed k old heap formed = record { statics = formed.statics; begun = formed.begun; frames = formed.frames; due = formed.due }
