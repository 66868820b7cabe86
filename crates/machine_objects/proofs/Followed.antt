-- What becomes of the running frame behind its instruction.
use Rattle.std.specs.Prelude.{◌≡◌, ℕ, ◌+◌, ◌-◌, ◌≤◌, Bool, true, false, if◌then◌else◌, is_some, List, [], ◌∷◌, ◌++◌, length, Option, refl}
use Rattle.std.specs.Option.{option_map}
use Rattle.std.specs.List.{AllByRecursion}
use Rattle.std.proofs.Common.{sym, ap, ◌∙◌, subst, arith, length-append}
use Rattle.class_world.specs.Tables.{Known}
use Rattle.class_machine.specs.declared.kinds.Fault.{Fault}
use Rattle.class_machine.specs.Answers as answers
use Rattle.class_machine.specs.ClassFiles.{Place, place_in, next_pc, class_code}
use Rattle.class_machine.specs.Events as events
use Rattle.class_machine.specs.Machine as machines
use Rattle.class_machine.specs.Machine.{State, moved}
use Rattle.class_machine.specs.Turn as turns
use Rattle.class_machine.specs.Turn.{stays, stops, fails}
use Rattle.class_machine.specs.Values.{Held, held_width, Plain, Content, pushed_on, has_room}
use Rattle.class_machine.specs.World.{World}
use Rattle.machine_code.specs.declared.method_code.MethodCode as lent
use Rattle.machine_code.specs.Views.{code_seen}
use Rattle.machine_frames.specs.Effects.{locals_of}
use Rattle.machine_frames.specs.Named.{content_of}
use Rattle.machine_values.specs.declared.frames.Frame.{Frame}
use Rattle.machine_values.specs.declared.names.Name.{Name}
use Rattle.machine_values.specs.declared.observed.Ending.TheVariants.{Broken}
use Rattle.machine_values.specs.declared.script.Answer.{Answer}
use Rattle.machine_values.specs.declared.state.MachineState.{MachineState}
use Rattle.machine_values.specs.declared.values.Value.{Value}
use Rattle.machine_values.specs.Standing.{held, Settled}
use Rattle.machine_values.specs.States.{IsFrameWithin}
use Rattle.machine_requests.specs.declared.reply.Reply.TheVariants.{Gives, Done, Faults, Refuses}
use Rattle.machine_requests.specs.Growth.{frame_stays}
use Rattle.machine_requests.specs.Objects.{AreFilled}
use Rattle.machine_requests.specs.Replies.{Replies, IsLonger}
use Rattle.machine_requests.specs.Shares.{Shares, others_of}
use Rattle.machine_steps.specs.declared.step.Step.{Step}
use Rattle.machine_steps.specs.declared.step.Step.TheVariants.{Ended}
use Rattle.machine_steps.specs.Giving.{naming_of}
use Rattle.machine_steps.specs.Going.{goes_on_runs}
use Rattle.machine_steps.specs.Moves.{Moves, MovesWithLocals, goes_on, goes_on_with, faults}
use Rattle.machine_steps.specs.Programs.{Machine, IsMachine}
use Rattle.machine_steps.specs.Raised.{grown_runs}
use Rattle.machine_steps.specs.Running.{seen_by, waiting, first_same, all_last, frames_are, split_last, set_last, HasRunningCode}
use Rattle.machine_steps.specs.Runs.{Runs, Stepped}
use Rattle.machine_steps.specs.Within.{frame_more}
use Rattle.machine_objects.specs.Taking.{IsTakenFrom}
use Rattle.machine_objects.specs.Following.{TellsNext, goes_next, goes_next_with, front_of, replied_step, Follows}

-- ---- the place behind the instruction

pub tells_next : (k : Known) (state : MachineState) (rest : List Frame) (x : Frame) (code : Option lent.MethodCode) (pc : ℕ) → state.frames.items ≡ rest ++ x ∷ [] → HasRunningCode k state code
    → pc ≡ next_pc x.pc (option_map code_seen code) → TellsNext k state pc
tells_next k state rest x code pc split has is_next m left t f below is runs same =
    let there = frames_are m state left t rest x runs split in
    let e : seen_by m state.heap.names x ≡ f = first_same _ _ _ _ (sym there ∙ same) in
    subst (λ (g : turns.Frame Place). (class_code m.files).next g.place ≡ place_in g.method pc) e
    (ap (place_in (m.methods x.method.0)) (ap (next_pc x.pc) (sym (has m left t (seen_by m state.heap.names x) (waiting m state.heap.names rest) is runs there)) ∙ sym is_next))

pub next_goes : (k : Known) (old new : MachineState) (step : Step) (pc : ℕ) → TellsNext k old pc → Moves k old new step (goes_on pc) → Moves k old new step goes_next
next_goes k old new step pc tells moves m left t f below is runs same =
    subst (λ p. Stepped m new left step (moved (class_code m.files) m.setting.classes t.due (stays (class_code m.files) m.setting.classes p f.content t.world) t.world f below))
    (sym (tells m left t f below is runs same)) (moves m left t f below is runs same)

pub next_gives : (k : Known) (old new : MachineState) (step : Step) (pc : ℕ) (value : Machine → State Place → Held) → TellsNext k old pc → Moves k old new step (goes_on_with value pc) → Moves k old new step (goes_next_with value)
next_gives k old new step pc value tells moves m left t f below is runs same =
    subst (λ p. Stepped m new left step (moved (class_code m.files) m.setting.classes t.due
    (if has_room f.room (held_width (value m t)) f.content.operands then stays (class_code m.files) m.setting.classes p (pushed_on (Plain (value m t)) f.content) t.world else stops events.Broken) t.world f below))
    (sym (tells m left t f below is runs same)) (moves m left t f below is runs same)

-- ---- the frame that lacks what was taken

pub stay_same : (m : Machine) (due : machines.Due) (below : List (turns.Frame Place)) (f : turns.Frame Place) (c : Content Place) (b : Bool) (p : Place) (d : Content Place) (after w u : World)
    → moved (class_code m.files) m.setting.classes due (if b then turns.Stays p d after else stops events.Broken) w (record f { content = c }) below
    ≡ moved (class_code m.files) m.setting.classes due (if b then turns.Stays p d after else stops events.Broken) u f below
stay_same m due below f c true p d after w u = refl
stay_same m due below f c false p d after w u = refl

given_same : (m : Machine) (due : machines.Due) (below : List (turns.Frame Place)) (f : turns.Frame Place) (c : Content Place) (room b : Bool) (p : Place) (d : Content Place) (after w u : World)
    → moved (class_code m.files) m.setting.classes due (if room then (if b then turns.Stays p d after else stops events.Broken) else stops events.Broken) w (record f { content = c }) below
    ≡ moved (class_code m.files) m.setting.classes due (if room then (if b then turns.Stays p d after else stops events.Broken) else stops events.Broken) u f below
given_same m due below f c true b p d after w u = stay_same m due below f c b p d after w u
given_same m due below f c false b p d after w u = refl

module _ (vs : List Value) (old mid : MachineState) (from : IsTakenFrom vs old mid) where
  last : length old.frames.items - 1 + 1 ≡ length old.frames.items
  last = let some = from.some in omega arith

  pub split : old.frames.items ≡ front_of old ++ from.frame ∷ []
  split = split_last old.frames.items (length old.frames.items - 1) from.frame last from.there

  pub split_after : mid.frames.items ≡ front_of old ++ from.left ∷ []
  split_after = ap (λ v. v.items) from.set ∙ set_last old.frames.items (length old.frames.items - 1) from.left last

module _ (m : Machine) (left : List Answer) (t : State Place) (vs : List Value) (old mid : MachineState) (from : IsTakenFrom vs old mid) (runs : Runs m old left t)
    (same : mid ≡ record old { frames = mid.frames; heap = mid.heap }) (longer : IsLonger old.heap mid.heap) where
  abbrev seen : turns.Frame Place
  seen = seen_by m old.heap.names from.frame

  abbrev kept : Content Place
  kept = content_of (naming_of m old) from.left

  abbrev below : List (turns.Frame Place)
  below = waiting m old.heap.names (front_of old)

  within_before : IsFrameWithin (length old.heap.names) from.frame
  within_before = all_last (IsFrameWithin (length old.heap.names)) (front_of old) from.frame (subst (AllByRecursion (IsFrameWithin (length old.heap.names))) (split vs old mid from) runs.frames.frames_within)

  many : length old.heap.names ≤ length mid.heap.names
  many = let e = ap length longer.1 in let n = length-append old.heap.names longer.0 in omega arith

  -- it is the one that there was, with what is left
  frame_as : seen_by m mid.heap.names from.left ≡ record seen { content = kept }
  frame_as =
      ap (λ (all : List Name). seen_by m all from.left) longer.1
      ∙ frame_stays m.setting.heads old.heap.names longer.0 m.methods from.left (from.within (length old.heap.names) within_before)
      ∙ ap (λ (h : Frame). record (seen_by m old.heap.names h) { content = kept }) from.taken.rest
      ∙ ap (λ (r : ℕ). record seen { room = r; content = kept }) from.taken.taken.room

  mid_runs : (w : World) → Shares m.setting mid.heap (others_of mid) w → w.answers ≡ t.world.answers → AreFilled mid.heap m.setting
      → Runs m mid left (record { frames = seen_by m mid.heap.names from.left ∷ below; world = w; due = t.due })
  mid_runs w shares answered filled =
      goes_on_runs m old mid left left t w (front_of old) from.frame from.left runs (split vs old mid from)
      (record {
        frames = split_after vs old mid from;
        longer = longer;
        due = ap (λ (s : MachineState). s.due) same;
        within = frame_more (length old.heap.names) (length mid.heap.names) many from.left (from.within (length old.heap.names) within_before);
      })
      shares (answered ∙ runs.answers) filled

  given : (k : Known) (new : MachineState) (step : Step) (v : Value) (h : Held) (w : World) → IsMachine k m → (Settled (length mid.heap.names) v → Moves k mid new step (goes_next_with (λ x u. held x.setting.heads mid.heap.names v)))
      → Replies m.setting mid.heap (others_of mid) t.world (Gives v) (answers.Gives h w) → AreFilled mid.heap m.setting → w.answers ≡ t.world.answers
      → Stepped m new left step (replied_step m t.due t.world seen kept below (answers.Gives h w))
  given k new step v h w is moves replies filled answered =
      let code = class_code m.files in
      let cs = m.setting.classes in
      let h0 = held m.setting.heads mid.heap.names v in
      let g = seen_by m mid.heap.names from.left in
      let next = code.next seen.place in
      let stepped = moves replies.1 m left (record { frames = g ∷ below; world = w; due = t.due }) g below is (mid_runs w replies.2 answered filled) refl in
      subst (Stepped m new left step) (
      ap (λ (x : turns.Frame Place). moved code cs t.due (if has_room x.room (held_width h0) x.content.operands then stays code cs (code.next x.place) (pushed_on (Plain h0) x.content) w else stops events.Broken) w x below) frame_as
      ∙ ap (λ (x : Held). moved code cs t.due (if has_room seen.room (held_width x) kept.operands then stays code cs next (pushed_on (Plain x) kept) w else stops events.Broken) w (record seen { content = kept }) below) replies.0
      ∙ given_same m t.due below seen kept (has_room seen.room (held_width h) kept.operands) (is_some (code.line next)) next (pushed_on (Plain h) kept) w w t.world
      ) stepped

  done : (k : Known) (new : MachineState) (step : Step) (w : World) → IsMachine k m → Moves k mid new step goes_next
      → Shares m.setting mid.heap (others_of mid) w → AreFilled mid.heap m.setting → w.answers ≡ t.world.answers
      → Stepped m new left step (replied_step m t.due t.world seen kept below (answers.Done w))
  done k new step w is moves shares filled answered =
      let code = class_code m.files in
      let cs = m.setting.classes in
      let g = seen_by m mid.heap.names from.left in
      let next = code.next seen.place in
      let stepped = moves m left (record { frames = g ∷ below; world = w; due = t.due }) g below is (mid_runs w shares answered filled) refl in
      subst (Stepped m new left step) (
      ap (λ (x : turns.Frame Place). moved code cs t.due (stays code cs (code.next x.place) x.content w) w x below) frame_as
      ∙ stay_same m t.due below seen kept (is_some (code.line next)) next kept w w t.world
      ) stepped

  thrown : (k : Known) (r new : MachineState) (step : Step) (fault : Fault) → r ≡ record mid { frames = old.frames } → IsMachine k m → MovesWithLocals k r new step (faults fault)
      → Shares m.setting mid.heap (others_of mid) t.world → AreFilled mid.heap m.setting
      → Stepped m new left step (replied_step m t.due t.world seen kept below (answers.Faults fault))
  thrown k r new step fault back is moves shares filled =
      let r' : MachineState = record old { heap = mid.heap } in
      let q : r ≡ r' = back ∙ ap (λ (s : MachineState). record s { frames = old.frames }) same in
      let shares' : Shares m.setting mid.heap (others_of old) t.world = subst (λ (s : MachineState). Shares m.setting mid.heap (others_of s) t.world) same shares in
      let runs' = grown_runs m old r' left t t.world refl longer shares' refl filled runs in
      subst (λ (s : MachineState). MovesWithLocals k s new step (faults fault)) q moves m left t seen below kept is runs' (frames_are m old left t (front_of old) from.frame runs (split vs old mid from))
      (ap (locals_of (naming_of m old)) from.taken.rest)

-- ---- replies

module _ (k : Known) (mid new : MachineState) (step : Step) (vs : List Value) where
  pub follows_gives : (v : Value) → (Settled (length mid.heap.names) v → Moves k mid new step (goes_next_with (λ x u. held x.setting.heads mid.heap.names v))) → Follows k mid new step (Gives v) vs
  follows_gives v moves m left t old (answers.Gives h w) from is runs same longer replies filled answered = given m left t vs old mid from runs same longer k new step v h w is moves replies filled answered.kept
  follows_gives v moves m left t old (answers.Done w) from is runs same longer replies filled answered = absurd replies
  follows_gives v moves m left t old (answers.Faults fault) from is runs same longer replies filled answered = absurd replies
  follows_gives v moves m left t old answers.Refuses from is runs same longer replies filled answered = absurd replies

  pub follows_done : Moves k mid new step goes_next → Follows k mid new step Done vs
  follows_done moves m left t old (answers.Done w) from is runs same longer replies filled answered = done m left t vs old mid from runs same longer k new step w is moves replies filled answered.kept
  follows_done moves m left t old (answers.Gives h w) from is runs same longer replies filled answered = absurd replies
  follows_done moves m left t old (answers.Faults fault) from is runs same longer replies filled answered = absurd replies
  follows_done moves m left t old answers.Refuses from is runs same longer replies filled answered = absurd replies

  pub follows_faults : (r : MachineState) (fault : Fault) → ((before : MachineState) → IsTakenFrom vs before mid → r ≡ record mid { frames = before.frames }) → MovesWithLocals k r new step (faults fault) → Follows k mid new step (Faults fault) vs
  follows_faults r fault back moves m left t old (answers.Faults other) from is runs same longer replies filled answered =
      subst (λ (x : Fault). Stepped m new left step (replied_step m t.due t.world (seen_by m old.heap.names from.frame) (content_of (naming_of m old) from.left) (waiting m old.heap.names (front_of old)) (answers.Faults x))) replies.0
      (thrown m left t vs old mid from runs same longer k r new step fault (back old from) is moves replies.1 filled)
  follows_faults r fault back moves m left t old (answers.Gives h w) from is runs same longer replies filled answered = absurd replies
  follows_faults r fault back moves m left t old (answers.Done w) from is runs same longer replies filled answered = absurd replies
  follows_faults r fault back moves m left t old answers.Refuses from is runs same longer replies filled answered = absurd replies

pub follows_refuses : (k : Known) (mid new : MachineState) (vs : List Value) → Follows k mid new (Ended Broken) Refuses vs
follows_refuses k mid new vs m left t old answers.Refuses from is runs same longer replies filled answered = refl
follows_refuses k mid new vs m left t old (answers.Gives h w) from is runs same longer replies filled answered = absurd replies
follows_refuses k mid new vs m left t old (answers.Done w) from is runs same longer replies filled answered = absurd replies
follows_refuses k mid new vs m left t old (answers.Faults fault) from is runs same longer replies filled answered = absurd replies
