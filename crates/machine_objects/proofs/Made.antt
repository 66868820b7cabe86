-- New references on the operands.
use Rattle.std.specs.Prelude.{◌≡◌, suc, ◌+◌, ◌-◌, ◌<◌, Bool, true, if◌then◌else◌, nat_le, List, [], ◌∷◌, ◌++◌, length, slice_get, Some, ◌⊎◌, refl}
use Rattle.std.proofs.Common.{sym, ap, ◌∙◌, subst, arith, inl, inr}
use Rattle.class_world.specs.Tables.{Known}
use Rattle.class_machine.specs.declared.kinds.Kind.{Kind}
use Rattle.class_machine.specs.Answers as answers
use Rattle.class_machine.specs.Answers.{answer}
use Rattle.class_machine.specs.ClassFiles.{Place, class_code}
use Rattle.class_machine.specs.Effect as definition
use Rattle.class_machine.specs.Machine.{State, moved}
use Rattle.class_machine.specs.Turn as turns
use Rattle.class_machine.specs.Turn.{Free, asked_link, replied}
use Rattle.class_machine.specs.Values as machine
use Rattle.class_machine.specs.Values.{held_width, has_room, kind_width, content}
use Rattle.class_machine.specs.World.{World}
use Rattle.machine_frames.specs.Effects.{operands_of, locals_of}
use Rattle.machine_frames.specs.Named.{content_of}
use Rattle.machine_frames.specs.Naming.{Naming}
use Rattle.machine_frames.proofs.Pushing.{weight-values}
use Rattle.machine_values.specs.declared.frames.Frame.{Frame}
use Rattle.machine_values.specs.declared.script.Answer.{Answer}
use Rattle.machine_values.specs.declared.state.MachineState.{MachineState}
use Rattle.machine_values.specs.declared.values.Value.{Value}
use Rattle.machine_requests.specs.declared.reply.Reply.{Reply}
use Rattle.machine_requests.specs.declared.reply.Reply.TheVariants.{Gives, Done, Faults, Refuses}
use Rattle.machine_requests.specs.Objects.{AreFilled}
use Rattle.machine_requests.specs.Replies.{Replies, IsLonger}
use Rattle.machine_requests.specs.Shares.{others_of}
use Rattle.machine_steps.specs.declared.step.Step.{Step}
use Rattle.machine_steps.specs.Executing.{executes}
use Rattle.machine_steps.specs.Giving.{naming_of}
use Rattle.machine_steps.specs.Moves.{Moves}
use Rattle.machine_steps.specs.Programs.{Machine, IsMachine}
use Rattle.machine_steps.specs.Running.{seen_by, waiting, first_same, frames_are, moves_at}
use Rattle.machine_steps.specs.Runs.{Runs, Stepped}
use Rattle.class_machine.specs.Operations.{Operation}
use Rattle.machine_objects.specs.Taking.{RoomForm, Breaks, IsTakenFrom}
use Rattle.machine_objects.specs.Following.{goes_next_with, has_space, LacksRoom, front_of}
use Rattle.machine_objects.specs.Making.{FollowsNew}
use Rattle.machine_objects.proofs.Taken.{no_frame}
use Rattle.machine_objects.proofs.Followed.{split, follows_gives}
use Rattle.machine_objects.proofs.Asked.{IsForm, free_turn}
use Rattle.machine_objects.proofs.Vectors.{item_same}
use Rattle.machine_values.specs.Standing.{held, Settled}

-- ---- what becomes of the reply

module _ (k : Known) (mid new : MachineState) (step : Step) (vs : List Value) where
  pub new_given : (v : Value) → (Settled (length mid.heap.names) v → Moves k mid new step (goes_next_with (λ x u. held x.setting.heads mid.heap.names v))) → FollowsNew k mid new step (Gives v) vs
  new_given v moves m left t old a w from is runs same longer replies filled kept =
      follows_gives k mid new step vs v moves m left t old (answers.Gives (machine.Reference a) w) from is runs same longer replies filled (record { kept = kept })

  pub new_other : (reply : Reply) → ((v : Value) → reply ≡ Gives v → ⊥) → FollowsNew k mid new step reply vs
  new_other (Gives v) other m left t old a w from is runs same longer replies filled kept = absurd (other v refl)
  new_other Done other m left t old a w from is runs same longer replies filled kept = absurd replies
  new_other (Faults f) other m left t old a w from is runs same longer replies filled kept = absurd replies
  new_other Refuses other m left t old a w from is runs same longer replies filled kept = absurd replies

-- ---- the step

-- the machine gives a reference
pub record New (m : Machine) (mid : MachineState) (t : State Place) (reply : Reply) (request : definition.Request) : Type 0 where
  pub name : machine.Name
  pub after : World
  pub is : answer m.setting.classes t.world request ≡ answers.Gives (machine.Reference name) after
  pub replies : Replies m.setting mid.heap (others_of mid) t.world reply (answers.Gives (machine.Reference name) after)
  pub filled : AreFilled mid.heap m.setting
  pub kept : after.answers ≡ t.world.answers

pub new_moves : (k : Known) (old mid new : MachineState) (operation : Operation) (form : RoomForm) (request : Naming → definition.Request) (vs : List Value) → IsForm operation form → (from : IsTakenFrom vs old mid)
    → ((n : Naming) → form from.frame.operands.room (operands_of n from.frame) (locals_of n from.frame) ≡ definition.Ask (request n) (content_of n from.left))
    → (step : Step) (reply : Reply) → mid ≡ record old { frames = mid.frames; heap = mid.heap } → IsLonger old.heap mid.heap
    → ((m : Machine) → IsMachine k m → asked_link (class_code m.files) m.setting.classes (request (naming_of m old)) ≡ Free)
    → ((m : Machine) (left : List Answer) (t : State Place) → IsMachine k m → Runs m old left t → New m mid t reply (request (naming_of m old)))
    → FollowsNew k mid new step reply vs → Moves k old new step (executes operation)
new_moves k old mid new operation form request vs is from asks step reply same longer free given follows =
    moves_at k old new step (executes operation) (front_of old) from.frame (split vs old mid from) (λ m left t there runs.
    let a = given m left t there runs in
    let f = seen_by m old.heap.names from.frame in
    let c = content_of (naming_of m old) from.left in
    subst (λ turn. Stepped m new left step (moved (class_code m.files) m.setting.classes t.due turn t.world f (waiting m old.heap.names (front_of old)))) (sym (
    free_turn m f t.world operation form is (request (naming_of m old)) c (asks (naming_of m old)) (free m there)
    ∙ ap (replied (class_code m.files) m.setting.classes f c t.world) a.is
    ))
    (follows m left t old a.name a.after from there runs same longer a.replies a.filled a.kept))

-- ---- room for a reference

nothing : {X : Type 0} (ys : List X) → length ys ≡ 0 → ys ≡ []
nothing [] e = refl
nothing (y ∷ ys) e = absurd (omega arith)

one_more : {X : Type 0} (x : X) (xs : List X) → (length xs ≡ 0) ⊎ ((rest : List X) × (y : X) × (xs ≡ rest ++ y ∷ [])) → (length (x ∷ xs) ≡ 0) ⊎ ((rest : List X) × (y : X) × (x ∷ xs ≡ rest ++ y ∷ []))
one_more x xs (inl none) = inr ([], x, ap (λ ys. x ∷ ys) (nothing xs none))
one_more x xs (inr found) = inr (x ∷ found.0, found.1, ap (λ ys. x ∷ ys) found.2)

last_of : {X : Type 0} (xs : List X) → (length xs ≡ 0) ⊎ ((rest : List X) × (x : X) × (xs ≡ rest ++ x ∷ []))
last_of [] = inl refl
last_of (x ∷ xs) = one_more x xs (last_of xs)

pub room_is : (n : Naming) (f : Frame) → has_room f.operands.room (kind_width Kind.Reference) (operands_of n f) ≡ has_space f
room_is n f = ap (λ w. nat_le (1 + w) f.operands.room) (weight-values n f.method.0 f.operands.values)

-- what asks only where there is room for a reference
abbrev pub reference_form : definition.Request → RoomForm
reference_form request room ops ls = definition.room_for room Kind.Reference ops (definition.Ask request (content ops ls))

pub no_room : (old : MachineState) (request : definition.Request) → LacksRoom old → Breaks (reference_form request) old
no_room old request lacks m left t f below runs same = by (last_of old.frames.items) where
  by : (length old.frames.items ≡ 0) ⊎ ((rest : List Frame) × (x : Frame) × (old.frames.items ≡ rest ++ x ∷ [])) → reference_form request f.room f.content.operands f.content.locals ≡ definition.Broken
  by (inl none) = absurd (no_frame old m left t f below none runs same)
  by (inr found) =
      let x = found.1 in
      let e : seen_by m old.heap.names x ≡ f = first_same _ _ _ _ (sym (frames_are m old left t found.0 x runs found.2) ∙ same) in
      subst (λ (g : turns.Frame Place). reference_form request g.room g.content.operands g.content.locals ≡ definition.Broken) e
      (ap (λ (b : Bool). if b then definition.Ask request (content_of (naming_of m old) x) else definition.Broken) (room_is (naming_of m old) x ∙ lacks found.0 x found.2))

pub some_room : (n : Naming) (f : Frame) (request : definition.Request) → has_space f ≡ true → reference_form request f.operands.room (operands_of n f) (locals_of n f) ≡ definition.Ask request (content_of n f)
some_room n f request room = ap (λ (b : Bool). if b then definition.Ask request (content_of n f) else definition.Broken) (room_is n f ∙ room)

-- ---- nothing is taken

pub last_get : {X : Type 0} (xs : List X) → 0 < length xs → (x : X) × (slice_get xs (length xs - 1) ≡ Some x)
last_get [] h = absurd (omega arith)
last_get (x ∷ []) h = (x, refl)
last_get (x ∷ y ∷ ys) h =
    let r = last_get (y ∷ ys) (let e : 0 < suc (length ys) = omega arith in e) in
    (r.0, ap (slice_get (x ∷ y ∷ ys)) (let e : suc (suc (length ys)) - 1 ≡ suc (suc (length ys) - 1) = omega arith in e) ∙ r.1)

abbrev pub nothing_taken : (old mid : MachineState) → 0 < length old.frames.items → mid.frames ≡ old.frames → IsTakenFrom [] old mid
nothing_taken old mid some same =
    let top = last_get old.frames.items some in
    record {
      frame = top.0;
      left = top.0;
      some = some;
      there = top.1;
      set = same ∙ sym (item_same old.frames (length old.frames.items - 1) top.0 top.1);
      taken = record { rest = refl; taken = record { room = refl; values = refl; fits = λ h. absurd (omega arith) } };
      within = λ count w. w;
    }
