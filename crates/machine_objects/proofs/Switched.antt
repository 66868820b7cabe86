-- Where a switch leads.
use Rattle.std.specs.Prelude.{◌≡◌, ℕ, ◌+◌, ◌-◌, is_some, List, [], ◌∷◌, map, reverse, take, length, slice_get, Option, Some, None, ℤ, refl}
use Rattle.std.specs.Option.{option_and_then}
use Rattle.std.proofs.Common.{get_or, sym, ap, ◌∙◌, subst, arith}
use Rattle.std.proofs.lemmas.Option.{same_Some}
use Rattle.class_world.specs.Tables.{Known}
use Rattle.class_machine.specs.ClassFiles.{Place, MethodCode, place_in, line_at, target_pc, method_code, class_code}
use Rattle.class_machine.specs.Effect as definition
use Rattle.class_machine.specs.Effect.{key_target}
use Rattle.class_machine.specs.Machine.{State, moved}
use Rattle.class_machine.specs.Operations.{Switch}
use Rattle.class_machine.specs.Turn as turns
use Rattle.class_machine.specs.Turn.{stays, stops, resolved}
use Rattle.class_machine.specs.Values.{Content}
use Rattle.machine_code.specs.declared.method_code.MethodCode as lent
use Rattle.machine_code.specs.Keys.{keys_at}
use Rattle.machine_code.specs.Views.{code_seen}
use Rattle.machine_frames.specs.Named.{content_of}
use Rattle.machine_values.specs.declared.frames.Frame.{Frame}
use Rattle.machine_values.specs.declared.names.Name.{Name}
use Rattle.machine_values.specs.declared.observed.Ending.TheVariants.{Broken}
use Rattle.machine_values.specs.declared.script.Answer.{Answer}
use Rattle.machine_values.specs.declared.state.MachineState.{MachineState}
use Rattle.machine_steps.specs.declared.step.Step.{Step}
use Rattle.machine_steps.specs.declared.step.Step.TheVariants.{Ended}
use Rattle.machine_steps.specs.Executing.{executes}
use Rattle.machine_steps.specs.Giving.{naming_of}
use Rattle.machine_steps.specs.Going.{moves_turned}
use Rattle.machine_steps.specs.Moves.{Moves, moved_by, goes_on}
use Rattle.machine_steps.specs.Programs.{Machine, IsMachine}
use Rattle.machine_steps.specs.Running.{seen_by, waiting, first_same, frames_are, turned_at, Turned, HasRunningCode}
use Rattle.machine_steps.specs.Runs.{Runs}
use Rattle.machine_objects.specs.Switching.{StandsThere}
use Rattle.machine_objects.specs.Taking.{Switches}
use Rattle.machine_objects.proofs.Asked.{IsForm}
use Rattle.machine_objects.proofs.Followed.{stay_same}
use Rattle.machine_objects.proofs.Taken.{there, last_is}

pub switch_form : (keys : List ℤ) → IsForm (Switch keys) (λ room. definition.switch keys)
switch_form keys = record { is = λ s ops ls. refl }

-- the frame is the one that was read
pub frame_pc : (old mid : MachineState) (n : ℤ) (switches : Switches n old mid) (top : ℕ) (x : Frame) → top + 1 ≡ length old.frames.items → x ≡ get_or old.frames.items top x → x.pc ≡ switches.frame.pc
frame_pc old mid n switches top x last read =
    ap (λ (f : Frame). f.pc) (same_Some x switches.frame (sym (there old top x last read) ∙ ap (slice_get old.frames.items) (last_is old top x last read) ∙ switches.there))

standing : (m : Machine) (names : List Name) (xs : List Frame) (f : turns.Frame Place) (below : List (turns.Frame Place)) → map (seen_by m names) xs ≡ f ∷ below → f.place.method ≡ f.method
standing m names [] f below e = absurd cc
standing m names (x ∷ xs) f below e = subst (λ (y : turns.Frame Place). y.place.method ≡ y.method) (first_same (seen_by m names x) f (map (seen_by m names) xs) below e) refl

pub no_code : (k : Known) (old new : MachineState) (keys : List ℤ) → HasRunningCode k old None → StandsThere k old (Switch keys) → Moves k old new (Ended Broken) (executes (Switch keys))
no_code k old new keys has stands m left t f below is runs same =
    let here = standing m old.heap.names (reverse old.frames.items) f below (sym runs.frames.frames ∙ same) in
    let none : None ≡ Some (Switch keys) =
    ap (λ (o : Option MethodCode). option_and_then (line_at f.place.pc) o) (has m left t f below is runs same) ∙ ap (λ r. option_and_then (line_at f.place.pc) (method_code m.files r)) (sym here) ∙ stands m left t f below is runs same in
    absurd cc

module _ (k : Known) (old mid : MachineState) (x : ℤ) (keys : List ℤ) (switches : Switches x old mid) (code : lent.MethodCode) (has : HasRunningCode k old (Some code)) (stands : StandsThere k old (Switch keys)) (pc to : ℕ)
    (here : pc ≡ switches.frame.pc) (target : to ≡ target_pc pc (key_target (keys_at (code_seen code) pc) x 1) (Some (code_seen code)))
    (of_keys : (others : List ℤ) → line_at pc (code_seen code) ≡ Some (Switch others) → keys_at (code_seen code) pc ≡ others) where
  abbrev rest : List Frame
  rest = take (length old.frames.items - 1) old.frames.items

  last : length old.frames.items - 1 + 1 ≡ length old.frames.items
  last = let some = switches.some in omega arith

  turned : Turned old mid rest switches.frame switches.left
  turned = turned_at old mid (length old.frames.items - 1) switches.frame switches.left last switches.there switches.same (ap (λ v. v.items) switches.set)

  module _ (m : Machine) (left : List Answer) (t : State Place) (is : IsMachine k m) (runs : Runs m old left t) where
    abbrev f : turns.Frame Place
    f = seen_by m old.heap.names switches.frame

    abbrev below : List (turns.Frame Place)
    below = waiting m old.heap.names rest

    abbrev c : Content Place
    c = content_of (naming_of m old) switches.left

    top : t.frames ≡ f ∷ below
    top = frames_are m old left t rest switches.frame runs turned.before

    code_is : Some (code_seen code) ≡ method_code m.files f.method
    code_is = has m left t f below is runs top

    keys_are : keys_at (code_seen code) pc ≡ keys
    keys_are =
        of_keys keys (ap (λ i. line_at i (code_seen code)) here ∙ ap (λ (o : Option MethodCode). option_and_then (line_at switches.frame.pc) o) code_is ∙ stands m left t f below is runs top)

    place_is : place_in f.method to ≡ (class_code m.files).target f.place (key_target keys x 1)
    place_is =
        ap (place_in f.method) (target ∙ ap (λ i. target_pc i (key_target (keys_at (code_seen code) pc) x 1) (Some (code_seen code))) here
        ∙ ap (λ (ks : List ℤ). target_pc switches.frame.pc (key_target ks x 1) (Some (code_seen code))) keys_are ∙ ap (target_pc switches.frame.pc (key_target keys x 1)) code_is)

    frame_as : seen_by m old.heap.names switches.left ≡ record f { content = c }
    frame_as =
        ap (λ (h : Frame). record (seen_by m old.heap.names h) { content = c }) switches.rest ∙ ap (λ (r : ℕ). record f { room = r; content = c }) switches.room

    same_turn : moved_by (goes_on to) m (record t { frames = seen_by m old.heap.names switches.left ∷ below }) (seen_by m old.heap.names switches.left) below ≡ moved_by (executes (Switch keys)) m t f below
    same_turn =
        let cc' = class_code m.files in
        let cs = m.setting.classes in
        let p = cc'.target f.place (key_target keys x 1) in
        ap (λ (g : turns.Frame Place). moved cc' cs t.due (stays cc' cs (place_in g.method to) g.content t.world) t.world g below) frame_as
        ∙ ap (λ (q : Place). moved cc' cs t.due (stays cc' cs q c t.world) t.world (record f { content = c }) below) place_is
        ∙ stay_same m t.due below f c (is_some (cc'.line p)) p c t.world t.world t.world
        ∙ ap (λ e. moved cc' cs t.due (resolved cc' cs f t.world e) t.world f below) (sym (switches.jumps (naming_of m old) keys))

  pub switch_moves : (new : MachineState) (step : Step) → Moves k mid new step (goes_on to) → Moves k old new step (executes (Switch keys))
  switch_moves new step moves =
      moves_turned k old mid new step (goes_on to) (executes (Switch keys)) rest switches.frame switches.left turned (switches.within (length old.heap.names)) moves (λ m left t is runs. same_turn m left t is runs)
