-- The running frame goes on behind the instruction, once its operands and the static fields have changed.
use Rattle.std.specs.Prelude.{◌≡◌, ℕ, Bool, true, false, if◌then◌else◌, is_some, List, [], ◌∷◌, ◌++◌, length, Option, Some, None, refl}
use Rattle.std.specs.List.{AllByRecursion}
use Rattle.std.proofs.Common.{sym, ap, ◌∙◌, subst}
use Rattle.std.proofs.lemmas.List.{append-nil}
use Rattle.aj_names.specs.declared.ids.ClassId.{ClassId}
use Rattle.class_file.specs.Pool.{Reference}
use Rattle.class_heads.specs.Hierarchy.{name_at}
use Rattle.class_world.specs.Tables.{Known}
use Rattle.class_machine.specs.declared.kinds.Access.TheVariants as access
use Rattle.class_machine.specs.declared.kinds.Element.{Element}
use Rattle.class_machine.specs.declared.kinds.Kind.{Kind}
use Rattle.class_machine.specs.ClassFiles.{Place, class_code}
use Rattle.class_machine.specs.Effect as definition
use Rattle.class_machine.specs.Effect.{Effect, Ask, Announce}
use Rattle.class_machine.specs.Events as events
use Rattle.class_machine.specs.Machine.{State, went, moved}
use Rattle.class_machine.specs.Operations.{FieldAccess, New}
use Rattle.class_machine.specs.Turn as turns
use Rattle.class_machine.specs.Turn.{Stays, stops, stays, taken}
use Rattle.class_machine.specs.Values as machine
use Rattle.class_machine.specs.Values.{Content, fresh}
use Rattle.class_machine.specs.World.{World}
use Rattle.machine_values.specs.declared.frames.Frame.{Frame}
use Rattle.machine_values.specs.declared.observed.Ending.TheVariants.{Broken}
use Rattle.machine_values.specs.declared.script.Answer.{Answer}
use Rattle.machine_values.specs.declared.state.MachineState.{MachineState}
use Rattle.machine_values.specs.declared.values.Value.{Value}
use Rattle.machine_values.specs.declared.values.Value.TheVariants.{Token}
use Rattle.machine_values.specs.Stacks.{Stack}
use Rattle.machine_values.specs.Standing.{held, Settled}
use Rattle.machine_values.specs.States.{IsFrameWithin}
use Rattle.machine_values.specs.Things.{Things}
use Rattle.machine_requests.specs.declared.reply.Reply.{Reply}
use Rattle.machine_requests.specs.Objects.{AreFilled}
use Rattle.machine_requests.specs.Replies.{IsAnswerWhere}
use Rattle.machine_requests.specs.Shares.{Others, Shares, others_of}
use Rattle.machine_requests.specs.Statics.{IsField, AreApart, with_statics}
use Rattle.machine_steps.specs.declared.step.Step.{Step}
use Rattle.machine_steps.specs.declared.step.Step.TheVariants.{Ended}
use Rattle.machine_steps.specs.Giving.{naming_of}
use Rattle.machine_steps.specs.Going.{goes_on_runs}
use Rattle.machine_steps.specs.Moves.{Moves, moved_by}
use Rattle.machine_steps.specs.Programs.{Machine, IsMachine}
use Rattle.machine_steps.specs.Running.{seen_by, waiting, all_last}
use Rattle.machine_steps.specs.Runs.{Runs, Stepped}
use Rattle.machine_invocations.specs.Returning.{takes_back}
use Rattle.machine_invocations.proofs.Locked.{distinct_in, entered_shares}
use Rattle.machine_statics.specs.Announcing.{IsNext}
use Rattle.machine_statics.specs.StaticFields.{Stores}
use Rattle.machine_statics.specs.Tops.{with_operands, TakesTop, LacksTop, IsIdle, PutOn, IsFull}
use Rattle.machine_statics.specs.Triggers.{effect_of, takes, MovesWhere}
use Rattle.machine_statics.proofs.Triggered.{at_last, none_runs}

-- ---- behind the instruction, with other operands and static fields

module _ (k : Known) (old mid new : MachineState) (step : Step) (statics : List (Option Value)) (rest : List Frame) (g : Frame) (s : Stack) (split : old.frames.items ≡ rest ++ g ∷ []) (after : mid.frames.items ≡ rest ++ with_operands g s ∷ [])
    (same : mid ≡ record old { frames = mid.frames; statics = statics }) (room : s.room ≡ g.operands.room) (within : (count : ℕ) → IsFrameWithin count g → IsFrameWithin count (with_operands g s)) (moves : Moves k mid new step (takes_back false None mid)) where
  abbrev h : Frame
  h = with_operands g s

  mid_heap : mid.heap ≡ old.heap
  mid_heap = ap (λ (x : MachineState). x.heap) same

  module _ (m : Machine) (left : List Answer) (t : State Place) (is : IsMachine k m) (runs : Runs m old left t) (w : World) (shares : Shares m.setting old.heap (with_statics (others_of old) statics) w) (answers : w.answers ≡ t.world.answers) where
    abbrev f : turns.Frame Place
    f = seen_by m old.heap.names g

    abbrev below : List (turns.Frame Place)
    below = waiting m old.heap.names rest

    abbrev state : State Place
    state = record t { frames = seen_by m old.heap.names h ∷ below; world = w }

    mid_runs : Runs m mid left state
    mid_runs =
        let was : IsFrameWithin (length old.heap.names) g = all_last (IsFrameWithin (length old.heap.names)) rest g (subst (AllByRecursion (IsFrameWithin (length old.heap.names))) split runs.frames.frames_within) in
        subst (λ (x : Things). Runs m mid left (record t { frames = seen_by m x.names h ∷ below; world = w })) mid_heap
        (goes_on_runs m old mid left left t w rest g h runs split
        (record {
          frames = after;
          longer = ([], ap (λ (x : Things). x.names) mid_heap ∙ sym (append-nil old.heap.names));
          due = ap (λ (x : MachineState). x.due) same;
          within = subst (λ (x : Things). IsFrameWithin (length x.names) h) (sym mid_heap) (within (length old.heap.names) was);
        })
        (subst (λ (x : MachineState). Shares m.setting x.heap (others_of x) w) (sym same) shares) (answers ∙ runs.answers)
        (subst (λ (x : Things). AreFilled x m.setting) (sym mid_heap) runs.filled))

    went_same : (b : Bool) (p : Place) (c : Content Place) → c ≡ (seen_by m old.heap.names h).content
        → moved (class_code m.files) m.setting.classes t.due (if b then Stays p (seen_by m old.heap.names h).content w else stops events.Broken) w (seen_by m old.heap.names h) below
        ≡ moved (class_code m.files) m.setting.classes t.due (if b then Stays p c w else stops events.Broken) t.world f below
    went_same true p c e =
        ap (λ (n : ℕ). went (class_code m.files) m.setting.classes t.due w (record f { place = p; content = (seen_by m old.heap.names h).content; room = n } ∷ below)) room
        ∙ ap (λ (x : Content Place). went (class_code m.files) m.setting.classes t.due w (record f { place = p; content = x } ∷ below)) (sym e)
    went_same false p c e = refl

    pub behind : (c : Content Place) → c ≡ (seen_by m old.heap.names h).content
        → Stepped m new left step (moved (class_code m.files) m.setting.classes t.due (stays (class_code m.files) m.setting.classes ((class_code m.files).next f.place) c w) t.world f below)
    behind c e =
        subst (Stepped m new left step) (went_same (is_some ((class_code m.files).line ((class_code m.files).next f.place))) ((class_code m.files).next f.place) c e)
        (moves m left state (seen_by m old.heap.names h) below is mid_runs refl)

-- ---- stores

abbrev pub Puts : MachineState → ℕ → Element → Value → List (Option Value) → Reply → Type 0
Puts old number e v statics reply =
    (things : Things) (others : Others) (r : Reference) → others.statics ≡ old.statics → Settled (length things.names) v
    → IsAnswerWhere (λ s. IsField r number e s × AreApart (length others.statics) s) things others (λ s names. definition.PutStatic r (held s.heads names v)) things (with_statics others statics) reply

module _ (k : Known) (old : MachineState) (r : Reference) (number : ℕ) (e : Element) (kind : Kind) where
  pub store_moves : (popped mid new : MachineState) (step : Step) (v : Value) (statics : List (Option Value)) (reply : Reply) → TakesTop old kind popped v → Puts old number e v statics reply → mid ≡ record popped { statics = statics }
      → Moves k mid new step (takes_back false None mid) → MovesWhere k (Stores r number e kind (length old.statics)) old new step (takes (FieldAccess access.PutStatic r))
  store_moves popped mid new step v statics reply top puts same moves =
      at_last k old (λ m left t f below. Stores r number e kind (length old.statics) m f → Stepped m new left step (moved_by (takes (FieldAccess access.PutStatic r)) m t f below)) top.rest top.frame top.turned.before there where
        whole : mid ≡ record old { frames = mid.frames; statics = statics }
        whole =
            same ∙ ap (λ (x : MachineState). record x { statics = statics }) top.turned.same
            ∙ ap (λ (x : MachineState). record old { frames = x.frames; statics = statics }) (sym same)

        after : mid.frames.items ≡ top.rest ++ with_operands top.frame top.operands ∷ []
        after = ap (λ (x : MachineState). x.frames.items) same ∙ top.turned.after

        there : (m : Machine) (left : List Answer) (t : State Place) → IsMachine k m → Runs m old left t → Stores r number e kind (length old.statics) m (seen_by m old.heap.names top.frame)
            → Stepped m new left step (moved_by (takes (FieldAccess access.PutStatic r)) m t (seen_by m old.heap.names top.frame) (waiting m old.heap.names top.rest))
        there m left t is runs stores =
            let f = seen_by m old.heap.names top.frame in
            let below = waiting m old.heap.names top.rest in
            let h = held m.setting.heads old.heap.names v in
            let c = (seen_by m old.heap.names (with_operands top.frame top.operands)).content in
            let was : IsFrameWithin (length old.heap.names) top.frame = all_last (IsFrameWithin (length old.heap.names)) top.rest top.frame (subst (AllByRecursion (IsFrameWithin (length old.heap.names))) top.turned.before runs.frames.frames_within) in
            let effect : effect_of (FieldAccess access.PutStatic r) m f ≡ Ask (definition.PutStatic r h) c =
            ap (λ q. definition.access_field f.room access.PutStatic r q f.content.operands f.content.locals) stores.fits ∙ top.puts (naming_of m old) r in
            let answered = puts old.heap (others_of old) r refl (top.known (length old.heap.names) was) m.setting t.world (stores.field, stores.apart) (distinct_in k m is) runs.shares in
            subst (λ x. Stepped m new left step (moved (class_code m.files) m.setting.classes t.due (taken (class_code m.files) m.setting.classes f t.world x) t.world f below)) (sym effect)
            (behind k old mid new step statics top.rest top.frame top.operands top.turned.before after whole top.room top.within moves m left t is runs _
            (entered_shares m.setting old.heap (with_statics (others_of old) statics) t.world _ reply answered) refl c refl)

  pub store_breaks : (new : MachineState) → LacksTop old kind new → MovesWhere k (Stores r number e kind (length old.statics)) old new (Ended Broken) (takes (FieldAccess access.PutStatic r))
  store_breaks new lacks =
      at_last k old (λ m left t f below. Stores r number e kind (length old.statics) m f → Stepped m new left (Ended Broken) (moved_by (takes (FieldAccess access.PutStatic r)) m t f below)) lacks.rest lacks.frame lacks.turned.before
      (λ m left t is runs stores.
      let f = seen_by m old.heap.names lacks.frame in
      let below = waiting m old.heap.names lacks.rest in
      subst (λ x. Stepped m new left (Ended Broken) (moved (class_code m.files) m.setting.classes t.due (taken (class_code m.files) m.setting.classes f t.world x) t.world f below))
      (sym (ap (λ q. definition.access_field f.room access.PutStatic r q f.content.operands f.content.locals) stores.fits ∙ lacks.breaks (naming_of m old) r)) refl)

  pub store_idle : (new : MachineState) (step : Step) → IsIdle old new → MovesWhere k (Stores r number e kind (length old.statics)) old new step (takes (FieldAccess access.PutStatic r))
  store_idle new step idle m left t f below is runs top stores = absurd (none_runs m old left t f below idle.none runs top)

-- ---- announcements

module _ (k : Known) (old : MachineState) (name : List ℕ) (class : ClassId) (number : ℕ) where
  abbrev token : Value
  token = Token class number

  module _ (m : Machine) (g : Frame) (next : IsNext name class.0 number m (seen_by m old.heap.names g)) where
    abbrev seen : turns.Frame Place
    seen = seen_by m old.heap.names g

    abbrev go : List (machine.Value Place) → Effect Place
    go all = Announce name (machine.content all seen.content.locals)

    effect_is : (o : Option (List (machine.Value Place))) → definition.pushed seen.room (machine.Token (name_at m.setting.heads class.0) number) seen.content.operands ≡ o → effect_of (New name) m seen ≡ definition.given o go
    effect_is o e =
        ap (λ q. definition.given (definition.pushed seen.room (machine.Token name q) seen.content.operands) go) (sym next.numbered)
        ∙ ap (λ q. definition.given (definition.pushed seen.room (machine.Token q number) seen.content.operands) go) (sym next.named)
        ∙ ap (λ q. definition.given q go) e

  pub announce_moves : (mid new : MachineState) (step : Step) → PutOn old token mid → Moves k mid new step (takes_back false None mid) → MovesWhere k (IsNext name class.0 number) old new step (takes (New name))
  announce_moves mid new step put moves =
      at_last k old (λ m left t f below. IsNext name class.0 number m f → Stepped m new left step (moved_by (takes (New name)) m t f below)) put.rest put.frame put.turned.before
      (λ m left t is runs next.
      let f = seen_by m old.heap.names put.frame in
      let below = waiting m old.heap.names put.rest in
      let c = (seen_by m old.heap.names (with_operands put.frame put.operands)).content in
      subst (λ x. Stepped m new left step (moved (class_code m.files) m.setting.classes t.due (taken (class_code m.files) m.setting.classes f t.world x) t.world f below))
      (sym (effect_is m put.frame next (Some c.operands) (put.pushes (naming_of m old) put.frame.method.0)))
      (behind k old mid new step old.statics put.rest put.frame put.operands put.turned.before put.turned.after put.turned.same put.room (λ count. put.within count refl) moves m left t is runs t.world runs.shares refl c refl))

  pub announce_full : (new : MachineState) → IsFull old token new → MovesWhere k (IsNext name class.0 number) old new (Ended Broken) (takes (New name))
  announce_full new full =
      at_last k old (λ m left t f below. IsNext name class.0 number m f → Stepped m new left (Ended Broken) (moved_by (takes (New name)) m t f below)) full.rest full.frame full.turned.before
      (λ m left t is runs next.
      let f = seen_by m old.heap.names full.frame in
      let below = waiting m old.heap.names full.rest in
      subst (λ x. Stepped m new left (Ended Broken) (moved (class_code m.files) m.setting.classes t.due (taken (class_code m.files) m.setting.classes f t.world x) t.world f below))
      (sym (effect_is m full.frame next None (full.full (naming_of m old) full.frame.method.0))) refl)

  pub announce_idle : (new : MachineState) (step : Step) → IsIdle old new → MovesWhere k (IsNext name class.0 number) old new step (takes (New name))
  announce_idle new step idle m left t f below is runs top next = absurd (none_runs m old left t f below idle.none runs top)
