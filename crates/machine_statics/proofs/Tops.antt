-- The running frame with other operands.
use Rattle.std.specs.Prelude.{◌≡◌, ℕ, max, ◌+◌, ◌-◌, ◌⊎◌, Bool, true, false, not, if◌then◌else◌, List, [], ◌∷◌, ◌++◌, take, length, slice_get, slice_set, Option, Some, None, MatchOption, IfSome, refl}
use Rattle.std.specs.Bool.{MatchBool}
use Rattle.std.specs.List.{AllByRecursion}
use Rattle.std.proofs.Common.{sym, ap, ◌∙◌, subst, inl, inr, arith, length-append}
use Rattle.class_file.specs.Pool.{Reference}
use Rattle.class_world.specs.Tables.{Known}
use Rattle.class_machine.specs.declared.kinds.Access.TheVariants as access
use Rattle.class_machine.specs.declared.kinds.Kind.{Kind}
use Rattle.class_machine.specs.declared.kinds.Kind.TheVariants as kind
use Rattle.class_machine.specs.ClassFiles.{Place}
use Rattle.class_machine.specs.Descriptors.{kind_in}
use Rattle.class_machine.specs.Effect as definition
use Rattle.class_machine.specs.Effect.{Effect, Ask, is_broken}
use Rattle.class_machine.specs.Machine.{State}
use Rattle.class_machine.specs.Operations.{FieldAccess, New}
use Rattle.class_machine.specs.Turn as turns
use Rattle.class_machine.specs.Values as machine
use Rattle.machine_values.specs.declared.frames.Frame.{Frame}
use Rattle.machine_values.specs.declared.script.Answer.{Answer}
use Rattle.machine_values.specs.declared.state.MachineState.{MachineState}
use Rattle.machine_values.specs.declared.values.Value.{Value}
use Rattle.machine_values.specs.Stacks as stacks
use Rattle.machine_values.specs.Stacks.{Stack}
use Rattle.machine_values.specs.Standing.{is_settled}
use Rattle.machine_values.specs.States.{is_known, IsFrameWithin}
use Rattle.machine_frames.specs.Effects.{operands_of, locals_of}
use Rattle.machine_frames.specs.Named.{AccessBreaks, PutsStatic}
use Rattle.machine_frames.specs.Tokens.{highest, highest_in}
use Rattle.machine_frames.proofs.Fresh.{fresh-values}
use Rattle.machine_frames.proofs.Pushing.{pushes, overflows}
use Rattle.machine_steps.specs.Giving.{naming_of}
use Rattle.machine_steps.specs.Going.{formed_turned}
use Rattle.machine_steps.specs.Programs.{Machine, IsMachine}
use Rattle.machine_steps.specs.Running.{seen_by, turned_at}
use Rattle.machine_steps.specs.Runs.{IsFormed, Runs}
use Rattle.machine_invocations.proofs.Returned.{last_is}
use Rattle.machine_statics.specs.Announcing.{NumbersNext}
use Rattle.machine_statics.specs.Tops.{TellsRoom, TellsPut, with_operands, TakesTop, LacksTop, IsIdle, PutsOn}
use Rattle.machine_statics.specs.Triggers.{effect_of}
use Rattle.machine_statics.proofs.Triggered.{at_top}

-- ---- the last frame

pub last_frame : (items xs : List Frame) (x : Frame) → xs ≡ items → Some x ≡ slice_get xs (length xs - 1) → (rest : List Frame) (g : Frame) → items ≡ rest ++ g ∷ [] → x ≡ g
last_frame items xs x same at rest g split =
    let many = ap (length {A = Frame}) (same ∙ split) in
    let more = length-append rest (g ∷ []) in
    last_is xs rest g x (length xs - 1) (same ∙ split) (sym at) (omega arith)

pub numbers_next : (state : MachineState) (x : Frame) (number : ℕ) → ((rest : List Frame) (g : Frame) → state.frames.items ≡ rest ++ g ∷ [] → x ≡ g)
    → number ≡ 1 + max (highest x.operands.values) (highest_in x.locals) → NumbersNext state number
numbers_next state x number last is rest g split n =
    is ∙ sym (fresh-values n x.method.0 x.operands.values x.locals) ∙ ap (λ (y : Frame). machine.fresh (operands_of n y) (locals_of n y)) (last rest g split)

-- ---- a value on top

module _ (old new : MachineState) (top : ℕ) (x : Frame) (last : top + 1 ≡ length old.frames.items) (there : slice_get old.frames.items top ≡ Some x) (same : new ≡ record old { frames = new.frames }) where
  pub put_on_is : (v : Value) (s : Stack) (b : Bool) → new.frames.items ≡ slice_set old.frames.items top (with_operands x s) → s.room ≡ x.operands.room
      → MatchBool b (stacks.Pushes x.operands v s) (stacks.Overflows x.operands v s) → PutsOn old v new b
  put_on_is v s true set room p = record {
    rest = take top old.frames.items;
    frame = x;
    operands = s;
    turned = turned_at old new top x (with_operands x s) last there same set;
    room = room;
    pushes = pushes x.operands v s p;
    within = λ count known w. record { operands = subst (AllByRecursion (λ u. is_known count u ≡ true)) (sym p.pushed) (known, w.operands); locals = w.locals; monitor = w.monitor; purpose = w.purpose };
  }
  put_on_is v s false set room p = inr (record {
    rest = take top old.frames.items;
    frame = x;
    operands = s;
    turned = turned_at old new top x (with_operands x s) last there same set;
    full = overflows x.operands v s p;
  })

  -- ---- a value that is taken

  module _ (y : Frame) (kind : Kind) (kept : y ≡ record x { operands = y.operands }) (set : new.frames.items ≡ slice_set old.frames.items top y) (room : y.operands.room ≡ x.operands.room)
      (within : (count : ℕ) → IsFrameWithin count x → IsFrameWithin count y) where
    set_it : new.frames.items ≡ slice_set old.frames.items top (with_operands x y.operands)
    set_it = set ∙ ap (slice_set old.frames.items top) kept

    pub take_top_is : (o : Option Value) → MatchOption o (AccessBreaks access.PutStatic kind x) (λ v. PutsStatic kind x v y) → IfSome o (λ v. (count : ℕ) → IsFrameWithin count x → is_settled count v ≡ true)
        → MatchOption o (IsIdle old new ⊎ LacksTop old kind new) (λ v. TakesTop old kind new v)
    take_top_is None breaks known = inr (record {
      rest = take top old.frames.items;
      frame = x;
      operands = y.operands;
      turned = turned_at old new top x (with_operands x y.operands) last there same set_it;
      breaks = breaks;
    })
    take_top_is (Some v) puts known = record {
      rest = take top old.frames.items;
      frame = x;
      operands = y.operands;
      turned = turned_at old new top x (with_operands x y.operands) last there same set_it;
      room = room;
      puts = subst (λ (z : Frame). PutsStatic kind x v z) kept puts;
      within = λ count w. subst (IsFrameWithin count) kept (within count w);
      known = known;
    }

pub idle_there : (old : MachineState) → length old.frames.items ≡ 0 → IsIdle old old
idle_there old none = record { none = empty old.frames.items none; same = refl } where
  empty : (xs : List Frame) → length xs ≡ 0 → xs ≡ []
  empty [] e = refl
  empty (x ∷ xs) e = absurd (omega arith)

-- ---- what holds of it by itself

pub put_formed : (k : Known) (old new : MachineState) (v : Value) (b : Bool) → PutsOn old v new b → IsFormed k old → IsFormed k new
put_formed k old new v true put formed = formed_turned k old new put.rest put.frame (with_operands put.frame put.operands) put.turned refl formed
put_formed k old new v false (inl idle) formed = subst (IsFormed k) (sym idle.same) formed
put_formed k old new v false (inr full) formed = formed_turned k old new full.rest full.frame (with_operands full.frame full.operands) full.turned refl formed

pub lacks_formed : (k : Known) (old new : MachineState) (kind : Kind) → IsIdle old new ⊎ LacksTop old kind new → IsFormed k old → IsFormed k new
lacks_formed k old new kind (inl idle) formed = subst (IsFormed k) (sym idle.same) formed
lacks_formed k old new kind (inr lacks) formed = formed_turned k old new lacks.rest lacks.frame (with_operands lacks.frame lacks.operands) lacks.turned refl formed

pub takes_formed : (k : Known) (old popped new : MachineState) (kind : Kind) (v : Value) (statics : List (Option Value)) → TakesTop old kind popped v → new ≡ record popped { statics = statics } → length statics ≡ length popped.statics → IsFormed k old → IsFormed k new
takes_formed k old popped new kind v statics takes same len formed =
    let was = formed_turned k old popped takes.rest takes.frame (with_operands takes.frame takes.operands) takes.turned refl formed in
    subst (IsFormed k) (sym same) (record { statics = len ∙ was.statics; begun = was.begun; frames = was.frames; due = was.due })

-- ---- whether the effect is Broken

not_broken : (e : Effect Place) (b : Bool) → is_broken (if b then e else definition.Broken) ≡ (if b then is_broken e else true)
not_broken e true = refl
not_broken e false = refl

negated : (b : Bool) → (if b then false else true) ≡ not b
negated true = refl
negated false = refl

module _ (k : Known) (old : MachineState) (b : Bool) where
  abbrev pub TellsBroken : (Machine → turns.Frame Place → Effect Place) → Type 0
  TellsBroken effect = (m : Machine) (left : List Answer) (t : State Place) (f : turns.Frame Place) (below : List (turns.Frame Place)) → IsMachine k m → Runs m old left t → t.frames ≡ f ∷ below → is_broken (effect m f) ≡ not b

  pub get_tells : (r : Reference) (kind : Kind) → kind ≡ kind_in r.member.descriptor → TellsRoom old kind b → TellsBroken (effect_of (FieldAccess access.GetStatic r))
  get_tells r kind same tells =
      at_top k old (λ m left t f below. is_broken (effect_of (FieldAccess access.GetStatic r) m f) ≡ not b)
      (λ rest g split m left t is runs.
      let f = seen_by m old.heap.names g in
      ap (λ (q : Kind). is_broken (definition.access_field f.room access.GetStatic r q f.content.operands f.content.locals)) (sym same)
      ∙ ap (λ (x : Bool). is_broken (if x then Ask (definition.GetStatic r) f.content else definition.Broken)) (tells rest g split (naming_of m old))
      ∙ not_broken (Ask (definition.GetStatic r) f.content) b ∙ negated b)

  pub put_tells : (r : Reference) (kind : Kind) → kind ≡ kind_in r.member.descriptor → TellsPut old kind b → TellsBroken (effect_of (FieldAccess access.PutStatic r))
  put_tells r kind same tells =
      at_top k old (λ m left t f below. is_broken (effect_of (FieldAccess access.PutStatic r) m f) ≡ not b)
      (λ rest g split m left t is runs.
      let f = seen_by m old.heap.names g in
      ap (λ (q : Kind). is_broken (definition.access_field f.room access.PutStatic r q f.content.operands f.content.locals)) (sym same)
      ∙ tells rest g split (naming_of m old) r)

  new_broken : (class : List ℕ) (f : turns.Frame Place) (x : Bool)
      → is_broken (definition.given {P = Place} (if x then Some (machine.Token class (machine.fresh f.content.operands f.content.locals) ∷ f.content.operands) else None) (λ all. definition.Announce class (machine.content all f.content.locals))) ≡ not x
  new_broken class f true = refl
  new_broken class f false = refl

  pub new_tells : (class : List ℕ) → TellsRoom old kind.Reference b → TellsBroken (effect_of (New class))
  new_tells class tells =
      at_top k old (λ m left t f below. is_broken (effect_of (New class) m f) ≡ not b)
      (λ rest g split m left t is runs.
      let f = seen_by m old.heap.names g in
      new_broken class f (machine.has_room f.room 1 f.content.operands) ∙ ap not (tells rest g split (naming_of m old)))
