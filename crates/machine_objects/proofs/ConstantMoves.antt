-- Constants and new arrays, as the machine gives them.
use Rattle.std.specs.Prelude.{◌≡◌, ℕ, zero, suc, ◌||◌, Bool, true, false, if◌then◌else◌, List, [], ◌∷◌, ◌++◌, length, Option, Some, None, ℤ, refl}
use Rattle.std.proofs.Common.{sym, ap, ◌∙◌, subst}
use Rattle.class_world.specs.Tables.{Known}
use Rattle.class_machine.specs.declared.kinds.Fault.{Fault}
use Rattle.class_machine.specs.Answers as answers
use Rattle.class_machine.specs.Answers.{answer, is_negative, in_turn, make_arrays, with_elements, new_arrays}
use Rattle.class_machine.specs.Classes.{dotted}
use Rattle.class_machine.specs.ClassFiles.{Place, class_code}
use Rattle.class_machine.specs.Descriptors.{array_of, elements_of}
use Rattle.class_machine.specs.Effect as definition
use Rattle.class_machine.specs.Effect.{LoadClass, MakeArray}
use Rattle.class_machine.specs.Events as events
use Rattle.class_machine.specs.Machine.{State, moved}
use Rattle.class_machine.specs.Operations.{Refer, ReferClass, NewReferenceArray}
use Rattle.class_machine.specs.Turn as turns
use Rattle.class_machine.specs.Turn.{stays, stops, resolved}
use Rattle.class_machine.specs.Values as machine
use Rattle.class_machine.specs.Values.{Held, Literal, ClassObject, Plain, Content, content, pushed_on, held_width, has_room}
use Rattle.class_machine.specs.World.{World, with_object, next_name}
use Rattle.class_machine.specs.World as worlds
use Rattle.machine_frames.specs.Effects.{operands_of, locals_of}
use Rattle.machine_frames.specs.Named.{content_of}
use Rattle.machine_frames.specs.Naming.{Naming}
use Rattle.machine_values.specs.declared.observed.Ending.TheVariants.{Broken, Unresolved}
use Rattle.machine_values.specs.declared.state.MachineState.{MachineState}
use Rattle.machine_values.specs.declared.values.Ref.{Ref}
use Rattle.machine_values.specs.declared.values.Value.TheVariants.{Int, Reference}
use Rattle.machine_values.specs.Standing.{held, Settled}
use Rattle.machine_values.specs.Things.{Things}
use Rattle.machine_requests.specs.declared.reply.Reply.{Reply}
use Rattle.machine_requests.specs.Objects.{StaysFilled, Finds}
use Rattle.machine_requests.specs.Replies.{Replies, IsAnswer, IsLonger}
use Rattle.machine_requests.specs.Shares.{Setting, Others, others_of}
use Rattle.machine_requests.specs.Telling.{AreDistinct}
use Rattle.machine_steps.specs.declared.step.Step.{Step}
use Rattle.machine_steps.specs.declared.step.Step.TheVariants.{Ended}
use Rattle.machine_steps.specs.Executing.{executes}
use Rattle.machine_steps.specs.Moves.{Moves, MovesWithLocals, faults}
use Rattle.machine_steps.specs.Programs.{IsRunnable, Machine, IsMachine}
use Rattle.machine_steps.specs.Raised.{grown_runs}
use Rattle.machine_steps.specs.Runs.{Stepped}
use Rattle.machine_invocations.specs.Methods.{classes_in}
use Rattle.machine_objects.specs.Taking.{RoomForm, Breaks, IsTakenFrom, Takes}
use Rattle.machine_objects.specs.Following.{goes_next_with, has_space, HasRoom, LacksRoom, front_of}
use Rattle.machine_objects.specs.Making.{FollowsNew}
use Rattle.machine_objects.proofs.Asked.{IsForm, breaks_moves, refused_moves, fault_moves}
use Rattle.machine_objects.proofs.Bare.{bare_types}
use Rattle.machine_objects.proofs.Followed.{split}
use Rattle.machine_objects.proofs.Made.{new_moves, reference_form, no_room, some_room, nothing_taken}
use Rattle.machine_objects.proofs.TypeMoves.{class_free, class_missing}
use Rattle.machine_objects.proofs.Unchanged.{names_are, kept_shares, kept_filled}

distinct_in : (k : Known) (m : Machine) → IsMachine k m → AreDistinct m.setting.heads
distinct_in k m is = subst AreDistinct (sym is.heads) is.distinct

-- ---- literals

module _ (k : Known) (runnable : IsRunnable k) (old : MachineState) (units : List ℕ) (heap : Things) (at : Ref) (finds : Finds (Literal units) old.heap heap at) (longer : IsLonger old.heap heap) (filled : (s : Setting) → StaysFilled old.heap heap s) where
  abbrev mid : MachineState
  mid = record old { heap = heap }

  module _ (m : Machine) (t : State Place) (f : turns.Frame Place) where
    abbrev pushing : Held → Bool → turns.Turn Place
    pushing h b = if b then stays (class_code m.files) m.setting.classes ((class_code m.files).next f.place) (pushed_on (Plain h) f.content) t.world else stops events.Broken

    refer_turn : (h : Held) (b : Bool) → pushing h b
        ≡ resolved (class_code m.files) m.setting.classes f t.world (definition.given (if b then Some (Plain h ∷ f.content.operands) else None) (λ all. definition.on all f.content.locals))
    refer_turn h true = refl
    refer_turn h false = refl

  pub refer_moves : (new : MachineState) (step : Step) → (Settled (length heap.names) (Reference at) → Moves k mid new step (goes_next_with (λ x u. held x.setting.heads heap.names (Reference at)))) → Moves k old new step (executes (Refer (Literal units)))
  refer_moves new step moves m left t f below is runs same =
      let there = finds m.setting (others_of old) t.world (distinct_in k m is) runs.shares in
      let runs' = grown_runs m old mid left t t.world refl longer there.shares refl (filled m.setting (bare_types k runnable m is) runs.shares.heap.objects.whole runs.filled) runs in
      let h = machine.Reference (Literal units) in
      let By : turns.Turn Place → Type 0 = λ turn. Stepped m new left step (moved (class_code m.files) m.setting.classes t.due turn t.world f below) in
      subst By (refer_turn m t f h (has_room f.room (held_width h) f.content.operands))
      (subst (λ (n : machine.Name). By (pushing m t f (machine.Reference n) (has_room f.room (held_width (machine.Reference n)) f.content.operands))) there.named (moves there.within m left t f below is runs' same))

-- ---- classes

module _ (k : Known) (runnable : IsRunnable k) (old : MachineState) (class : List ℕ) where
  class_form : IsForm (ReferClass class) (reference_form (LoadClass class))
  class_form = record { is = λ s ops ls. refl }

  pub class_breaks : (new : MachineState) → LacksRoom old → Moves k old new (Ended Broken) (executes (ReferClass class))
  class_breaks new lacks = breaks_moves k old new (ReferClass class) (reference_form (LoadClass class)) class_form (no_room old (LoadClass class) lacks)

  module _ (mid : MachineState) (same : mid ≡ record old { heap = mid.heap }) (can : HasRoom old) where
    abbrev from : IsTakenFrom [] old mid
    from = nothing_taken old mid can.some (ap (λ (s : MachineState). s.frames) same)

    room : has_space from.frame ≡ true
    room = can.room (front_of old) from.frame (split [] old mid from)

    asks : (n : Naming) → reference_form (LoadClass class) from.frame.operands.room (operands_of n from.frame) (locals_of n from.frame) ≡ definition.Ask (LoadClass class) (content_of n from.left)
    asks n = some_room n from.frame (LoadClass class) room

    pub load_missing : (new : MachineState) → false ≡ (classes_in k).knows class → Moves k old new (Ended (Unresolved (dotted class))) (executes (ReferClass class))
    load_missing new e = refused_moves k old mid new (ReferClass class) (reference_form (LoadClass class)) (λ n. LoadClass class) [] class_form from asks (Unresolved (dotted class)) (λ m is. class_missing k class m is (sym e))

    pub load_moves : (new : MachineState) (step : Step) (reply : Reply) (name : List ℕ) → name ≡ class → true ≡ (classes_in k).knows class → IsLonger old.heap mid.heap
        → ((others : Others) → IsAnswer old.heap others (λ s names. LoadClass name) mid.heap others reply) → ((s : Setting) → StaysFilled old.heap mid.heap s)
        → FollowsNew k mid new step reply [] → Moves k old new step (executes (ReferClass class))
    load_moves new step reply name named known longer answered filled follows =
        new_moves k old mid new (ReferClass class) (reference_form (LoadClass class)) (λ n. LoadClass class) [] class_form from asks step reply
        (same ∙ ap (λ (s : MachineState). record old { frames = s.frames; heap = mid.heap }) (sym same)) longer
        (λ m is. class_free k class m is (sym known))
        (λ m left t is runs. record {
          name = ClassObject class;
          after = t.world;
          is = refl;
          replies = subst (λ (c : List ℕ). Replies m.setting mid.heap (others_of mid) t.world reply (answers.Gives (machine.Reference (ClassObject c)) t.world)) named
              (subst (λ (o : Others). Replies m.setting mid.heap o t.world reply (answers.Gives (machine.Reference (ClassObject name)) t.world)) (sym (ap others_of same)) (answered (others_of old) m.setting t.world (distinct_in k m is) runs.shares));
          filled = filled m.setting (bare_types k runnable m is) runs.shares.heap.objects.whole runs.filled;
          kept = refl;
        }) follows

-- ---- arrays

turn_keeps : (type : List ℕ) (n : ℕ) (w : World) → (in_turn (make_arrays type []) n w).1.answers ≡ w.answers
turn_keeps type zero w = refl
turn_keeps type (suc n) w = turn_keeps type n w

module _ (k : Known) (runnable : IsRunnable k) (old : MachineState) (class : List ℕ) (size : ℤ) where
  abbrev pub array_form : RoomForm
  array_form slots = definition.new_array (Some class) (array_of class) 1

  is_array_form : IsForm (NewReferenceArray class) array_form
  is_array_form = record { is = λ s ops ls. refl }

  pub array_breaks : (new : MachineState) → Breaks array_form old → Moves k old new (Ended Broken) (executes (NewReferenceArray class))
  array_breaks new breaks = breaks_moves k old new (NewReferenceArray class) array_form is_array_form breaks

  module _ (mid : MachineState) (takes : Takes array_form (λ n. MakeArray (Some class) (array_of class) (size ∷ [])) (Int size ∷ []) old mid) where
    pub array_missing : (new : MachineState) → false ≡ (classes_in k).knows class → Moves k old new (Ended (Unresolved (dotted class))) (executes (NewReferenceArray class))
    array_missing new e =
        refused_moves k old mid new (NewReferenceArray class) array_form (λ n. MakeArray (Some class) (array_of class) (size ∷ [])) (Int size ∷ []) is_array_form takes.from takes.asks (Unresolved (dotted class))
        (λ m is. class_missing k class m is (sym e))

    pub array_negative : (new : MachineState) (step : Step) → true ≡ (classes_in k).knows class → is_negative size ≡ true → MovesWithLocals k old new step (faults Fault.NegativeArraySize) → Moves k old new step (executes (NewReferenceArray class))
    array_negative new step known negative moves =
        fault_moves k old mid new (NewReferenceArray class) array_form (λ n. MakeArray (Some class) (array_of class) (size ∷ [])) (Int size ∷ []) is_array_form takes.from takes.asks step Fault.NegativeArraySize
        (λ m is. class_free k class m is (sym known))
        (λ m w. ap (λ (b : Bool). if (b || false) then answers.Faults Fault.NegativeArraySize else answers.Gives (make_arrays (array_of class) (size ∷ []) w).0 (make_arrays (array_of class) (size ∷ []) w).1) negative) moves

    module _ (heap : Things) where
      abbrev after : MachineState
      after = record mid { heap = heap }

      abbrev from_after : IsTakenFrom (Int size ∷ []) old after
      from_after = record { frame = takes.from.frame; left = takes.from.left; some = takes.from.some; there = takes.from.there; set = takes.from.set; taken = takes.from.taken; within = takes.from.within }

      abbrev made_in : World → Held × World
      made_in w = make_arrays (array_of class) (size ∷ []) w

      array_given : (m : Machine) (w : World) → is_negative size ≡ false
          → answer m.setting.classes w (MakeArray (Some class) (array_of class) (size ∷ [])) ≡ answers.Gives (machine.Reference (next_name w (array_of class))) (made_in w).1
      array_given m w positive = ap (λ (b : Bool). if (b || false) then answers.Faults Fault.NegativeArraySize else answers.Gives (machine.Reference (next_name w (array_of class))) (made_in w).1) positive

      pub array_moves : (new : MachineState) (step : Step) (reply : Reply) → true ≡ (classes_in k).knows class → is_negative size ≡ false → IsLonger mid.heap heap
          → ((others : Others) (named : Option (List ℕ)) → IsAnswer mid.heap others (λ s names. MakeArray named (array_of class) (size ∷ [])) heap others reply) → ((s : Setting) → StaysFilled mid.heap heap s)
          → FollowsNew k after new step reply (Int size ∷ []) → Moves k old new step (executes (NewReferenceArray class))
      array_moves new step reply known positive longer answered filled follows =
          new_moves k old after new (NewReferenceArray class) array_form (λ n. MakeArray (Some class) (array_of class) (size ∷ [])) (Int size ∷ []) is_array_form from_after takes.asks step reply
          (ap (λ (s : MachineState). record s { heap = heap }) takes.same) (longer.0, longer.1 ∙ ap (λ names. names ++ longer.0) (names_are old mid takes.same))
          (λ m is. class_free k class m is (sym known))
          (λ m left t is runs.
          let shares = kept_shares old mid takes.same m left t runs in
          record {
            name = next_name t.world (array_of class);
            after = (made_in t.world).1;
            is = array_given m t.world positive;
            replies = subst (Replies m.setting heap (others_of mid) t.world reply) (array_given m t.world positive) (answered (others_of mid) (Some class) m.setting t.world (distinct_in k m is) shares);
            filled = filled m.setting (bare_types k runnable m is) shares.heap.objects.whole (kept_filled old mid takes.same m left t runs);
            kept = turn_keeps (elements_of (array_of class)) (answers.size_of size) (with_object t.world (next_name t.world (array_of class)) (worlds.Array []));
          }) follows
