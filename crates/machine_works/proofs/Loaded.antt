-- The class that a call loads.
use Rattle.std.specs.Prelude.{◌≡◌, ℕ, ◌&&◌, ◌||◌, Bool, true, false, if◌then◌else◌, nat_lt, is_some, List, [], ◌∷◌, ◌++◌, Some, None, refl}
use Rattle.std.proofs.Common.{sym, ap, ◌∙◌, subst}
use Rattle.std.proofs.lemmas.Bool.{and_parts}
use Rattle.aj_names.specs.declared.types.Base.TheVariants as base
use Rattle.aj_names.specs.declared.types.FieldType.{FieldType}
use Rattle.aj_names.specs.Descriptors.{field_spelling}
use Rattle.class_heads.specs.Hierarchy.{is_array, place_of, is_known, type_named, type_of_descriptor, TypeName}
use Rattle.class_world.specs.Tables.{Known}
use Rattle.class_machine.specs.Answers as answers
use Rattle.class_machine.specs.Classes.{Classes}
use Rattle.class_machine.specs.ClassFiles.{Place, class_code}
use Rattle.class_machine.specs.Declarations.{is_type_name}
use Rattle.class_machine.specs.Machine.{State, moved}
use Rattle.class_machine.specs.Turn as turns
use Rattle.class_machine.specs.Turn.{Turn, given_back, completes, gives_class, loads, pending}
use Rattle.class_machine.specs.Values as machine
use Rattle.class_machine.specs.World.{World, begin}
use Rattle.machine_values.specs.declared.names.Name.TheVariants.{ClassObject}
use Rattle.machine_values.specs.declared.script.Answer.{Answer}
use Rattle.machine_values.specs.declared.state.MachineState.{MachineState}
use Rattle.machine_values.specs.declared.values.Ref.{Ref}
use Rattle.machine_values.specs.declared.values.Value.TheVariants.{Reference as Pointer}
use Rattle.machine_values.specs.Standing.{held}
use Rattle.machine_values.specs.Things.{Things, Placed, with_constant}
use Rattle.machine_values.specs.Types.{type_name, base_name}
use Rattle.machine_requests.specs.Objects.{AreFilled}
use Rattle.machine_requests.specs.declared.reply.Reply.TheVariants.{Gives}
use Rattle.machine_requests.specs.Replies.{IsLonger, Replies}
use Rattle.machine_requests.specs.Shares.{Shares, others_of}
use Rattle.machine_requests.specs.Telling.{is_plain, is_plain_base, is_class, is_class_type}
use Rattle.machine_requests.specs.TellingLaws.{plain_no_array, array_is_array}
use Rattle.machine_requests.proofs.NewArrays.{class_given}
use Rattle.machine_steps.specs.declared.step.Step.{Step}
use Rattle.machine_steps.specs.declared.step.Step.TheVariants.{Went}
use Rattle.machine_steps.specs.Moves.{Moves}
use Rattle.machine_steps.specs.Programs.{IsRunnable, Machine, IsMachine}
use Rattle.machine_steps.specs.Runs.{Runs, Stepped}
use Rattle.machine_invocations.specs.Initialising.{AddsFrames, Begins, begun_state, has_frame}
use Rattle.machine_invocations.specs.Keeping.{Keeps, keeps_runs}
use Rattle.machine_invocations.specs.Returning.{takes_back}
use Rattle.machine_invocations.proofs.Fieldless.{class_fields, with_class_object}
use Rattle.machine_invocations.proofs.Locked.{distinct_in}
use Rattle.machine_works.specs.Finishing.{MovesToClass, ComesFirst, BeginsClass}
use Rattle.machine_works.proofs.Ended.{ending, anywhere, ending_quiet, ends_silent}

-- ---- the name of a class

module _ (type : FieldType) (name : List ℕ) (named : type.base ≡ base.Class name) (flat : nat_lt 0 type.dims ≡ false) where
  pub flat_name : type_name type ≡ name
  flat_name = ap (λ (x : Bool). if x then field_spelling type else base_name type.base) flat ∙ ap base_name named

  flat_plain : is_class_type type ≡ true → is_plain name ≡ true
  flat_plain h = sym (ap is_plain_base named) ∙ (and_parts (is_plain_base type.base) (nat_lt 0 type.dims || is_class type.base) h).0

  pub flat_no_array : is_class_type type ≡ true → is_array (type_name type) ≡ false
  flat_no_array h = ap is_array flat_name ∙ plain_no_array name (flat_plain h)

  -- a class that the machine knows is in the world
  pub known_there : (k : Known) (m : Machine) → IsMachine k m → is_class_type type ≡ true → m.setting.classes.knows (type_name type) ≡ true → is_some (place_of k.heads name) ≡ true
  known_there k m is h knows =
      let here : (is_type_name (type_name type) && is_known k.heads (type_named (type_name type))) ≡ true = sym (ap (λ (cs : Classes). cs.knows (type_name type)) is.classes) ∙ knows in
      let known = (and_parts (is_type_name (type_name type)) (is_known k.heads (type_named (type_name type))) here).1 in
      let plain : type_named name ≡ TypeName.Class name = ap (λ (x : Bool). if x then type_of_descriptor name else TypeName.Class name) (plain_no_array name (flat_plain h)) in
      sym (ap (λ (n : List ℕ). is_known k.heads (type_named n)) flat_name ∙ ap (is_known k.heads) plain) ∙ known

-- ---- the object that stands for the class

module _ (k : Known) (old : MachineState) (type : FieldType) (heap : Things) (at : Ref) (fit : is_class_type type ≡ true) (made : (at.0, heap) ≡ with_constant old.heap (ClassObject type)) where
  abbrev mid : MachineState
  mid = record old { heap = heap }

  module _ (m : Machine) (w : World) (is : IsMachine k m) (shares : Shares m.setting old.heap (others_of old) w) where
    given : Replies m.setting (with_constant old.heap (ClassObject type)).1 (others_of old) w (Gives (Pointer (record { 0 = (with_constant old.heap (ClassObject type)).0 })))
        (answers.Gives (machine.Reference (machine.ClassObject (type_name type))) w)
    given = class_given old.heap (others_of old) type fit m.setting w (distinct_in k m is) shares

    object_shares : Shares m.setting heap (others_of old) w
    object_shares = subst (λ (p : Placed). Shares m.setting p.1 (others_of old) w) (sym made) given.2

    pub object_named : held m.setting.heads heap.names (Pointer at) ≡ machine.Reference (machine.ClassObject (type_name type))
    object_named = subst (λ (p : Placed). held m.setting.heads p.1.names (Pointer (record { 0 = p.0 })) ≡ machine.Reference (machine.ClassObject (type_name type))) (sym made) given.0

  pub keeps_object : IsRunnable k → IsLonger old.heap heap → Keeps k old mid
  keeps_object runnable longer = record {
    frames = refl;
    due = refl;
    statics = refl;
    begun = refl;
    names = longer;
    shares = λ m w is shares. object_shares m w is shares;
    filled = λ m w is shares filled.
        subst (λ (p : Placed). AreFilled p.1 m.setting) (sym made)
        (with_class_object m.setting (ap (λ (cs : Classes). cs.fields machine.class_class) is.classes ∙ class_fields k runnable) old.heap shares.heap.objects.whole filled type);
  }

  -- ---- the turns

  module _ (new : MachineState) (step : Step) (m : Machine) (left : List Answer) (t : State Place) (f : turns.Frame Place) (below : List (turns.Frame Place)) where
    abbrev class : List ℕ
    class = type_name type

    abbrev Comes : World → Turn Place → Type 0
    Comes w turn = Stepped m new left step (moved (class_code m.files) m.setting.classes t.due turn w f below)

    -- on with the object, in a world
    given_turn : (u w : World) (h : machine.Held) → h ≡ machine.Reference (machine.ClassObject class)
        → Comes u (given_back (class_code m.files) m.setting.classes f (Some h) f.content (λ all. completes (class_code m.files) m.setting.classes None false ((class_code m.files).next f.place) all w))
        → Comes u (gives_class (class_code m.files) m.setting.classes f f.content w class)
    given_turn u w h e c = subst (λ (x : machine.Held). Comes u (given_back (class_code m.files) m.setting.classes f (Some x) f.content (λ all. completes (class_code m.files) m.setting.classes None false ((class_code m.files).next f.place) all w))) e c

    -- ... of an array type
    pub gives_array : IsRunnable k → IsLonger old.heap heap → IsMachine k m → Runs m old left t → t.frames ≡ f ∷ below → nat_lt 0 type.dims ≡ true → Moves k mid new step (takes_back false (Some (Pointer at)) mid)
        → Comes t.world (if is_array class then gives_class (class_code m.files) m.setting.classes f f.content t.world class
        else loads (class_code m.files) m.setting.classes f f.content t.world class (pending (class_code m.files) m.setting.classes t.world class))
    gives_array runnable longer is runs top dims moves =
        subst (λ (b : Bool). Comes t.world (if b then gives_class (class_code m.files) m.setting.classes f f.content t.world class else loads (class_code m.files) m.setting.classes f f.content t.world class (pending (class_code m.files) m.setting.classes t.world class)))
        (sym (array_is_array type dims))
        (given_turn t.world t.world (held m.setting.heads heap.names (Pointer at)) (object_named m t.world is runs.shares)
        (ends_silent k mid false (Some (Pointer at)) new step moves m left t f below is (keeps_runs k old mid (keeps_object runnable longer) m left t is runs) top))

    -- ... of a class, once its initialisation began and none was pending
    module _ (none : is_array class ≡ false) where
      flat_turn : Comes t.world (loads (class_code m.files) m.setting.classes f f.content t.world class (pending (class_code m.files) m.setting.classes t.world class))
          → Comes t.world (if is_array class then gives_class (class_code m.files) m.setting.classes f f.content t.world class
          else loads (class_code m.files) m.setting.classes f f.content t.world class (pending (class_code m.files) m.setting.classes t.world class))
      flat_turn c =
          subst (λ (b : Bool). Comes t.world (if b then gives_class (class_code m.files) m.setting.classes f f.content t.world class else loads (class_code m.files) m.setting.classes f f.content t.world class (pending (class_code m.files) m.setting.classes t.world class)))
          (sym none) c

      begun_at : (mid2 : MachineState) → mid2.heap ≡ heap → IsMachine k m → Shares m.setting old.heap (others_of old) t.world → (p : List (turns.Frame Place)) → pending (class_code m.files) m.setting.classes t.world class ≡ p → has_frame p ≡ false
          → Runs m mid2 left (begun_state m t class) → t.frames ≡ f ∷ below → Moves k mid2 new step (takes_back false (Some (Pointer at)) mid2)
          → Comes t.world (loads (class_code m.files) m.setting.classes f f.content t.world class p)
      begun_at mid2 same is shares (g ∷ gs) e some runs top moves = absurd cc
      begun_at mid2 same is shares [] e some runs top moves =
          let w = begin m.setting.classes t.world class in
          let t2 = begun_state m t class in
          let h = held m.setting.heads mid2.heap.names (Pointer at) in
          let front : t2.frames ≡ f ∷ below = ap (λ (xs : List (turns.Frame Place)). xs ++ t.frames) e ∙ top in
          let named : h ≡ machine.Reference (machine.ClassObject class) = ap (λ (things : Things). held m.setting.heads things.names (Pointer at)) same ∙ object_named m t.world is shares in
          given_turn t.world w h named
          (subst (Stepped m new left step) (anywhere m t f below (ending m t f below None false (Some h) w) (ending_quiet m t f below None false (Some h) w) w t.world)
          (ends_silent k mid2 false (Some (Pointer at)) new step moves m left t2 f below is runs front))

      pub begun_gives : (mid2 : MachineState) → mid2.heap ≡ heap → IsMachine k m → Shares m.setting old.heap (others_of old) t.world → (begins : Begins m mid2 left t class false) → t.frames ≡ f ∷ below
          → Moves k mid2 new step (takes_back false (Some (Pointer at)) mid2)
          → Comes t.world (if is_array class then gives_class (class_code m.files) m.setting.classes f f.content t.world class
          else loads (class_code m.files) m.setting.classes f f.content t.world class (pending (class_code m.files) m.setting.classes t.world class))
      begun_gives mid2 same is shares begins top moves = flat_turn (begun_at mid2 same is shares (pending (class_code m.files) m.setting.classes t.world class) refl begins.pushed begins.runs top moves)

-- ---- the initialisers come first

module _ (type : FieldType) (new : MachineState) (m : Machine) (left : List Answer) (t : State Place) (f : turns.Frame Place) (below : List (turns.Frame Place)) (none : is_array (type_name type) ≡ false) where
  began_at : (p : List (turns.Frame Place)) → pending (class_code m.files) m.setting.classes t.world (type_name type) ≡ p → has_frame p ≡ true → Runs m new left (begun_state m t (type_name type)) → t.frames ≡ f ∷ below
      → Stepped m new left Went (moved (class_code m.files) m.setting.classes t.due (loads (class_code m.files) m.setting.classes f f.content t.world (type_name type) p) t.world f below)
  began_at [] e some runs top = absurd cc
  began_at (g ∷ gs) e some runs top =
      subst (λ (xs : List (turns.Frame Place)). Runs m new left (record t { frames = xs; world = begin m.setting.classes t.world (type_name type) }))
      (ap (λ (xs : List (turns.Frame Place)). xs ++ t.frames) e ∙ ap (λ (xs : List (turns.Frame Place)). (g ∷ gs) ++ xs) top) runs

  began_first : Begins m new left t (type_name type) true → t.frames ≡ f ∷ below
      → Stepped m new left Went (moved (class_code m.files) m.setting.classes t.due
      (if is_array (type_name type) then gives_class (class_code m.files) m.setting.classes f f.content t.world (type_name type)
      else loads (class_code m.files) m.setting.classes f f.content t.world (type_name type) (pending (class_code m.files) m.setting.classes t.world (type_name type))) t.world f below)
  began_first begins top =
      subst (λ (b : Bool). Stepped m new left Went (moved (class_code m.files) m.setting.classes t.due
      (if b then gives_class (class_code m.files) m.setting.classes f f.content t.world (type_name type)
      else loads (class_code m.files) m.setting.classes f f.content t.world (type_name type) (pending (class_code m.files) m.setting.classes t.world (type_name type))) t.world f below))
      (sym none) (began_at (pending (class_code m.files) m.setting.classes t.world (type_name type)) refl begins.pushed begins.runs top)

-- whatever state of the machine it was, that is its step
pub began_moves : (k : Known) (old new : MachineState) (type : FieldType) → BeginsClass k old new type → MovesToClass k old new Went type
began_moves k old new type begins m left t f below is runs top knows = let first = begins.there m left t is runs in began_first type new m left t f below first.flat first.begins top

-- the frames of initialisers stand on top, once the object that stands for the class is there
pub begins_class : (k : Known) (old new : MachineState) (type : FieldType) (heap : Things) → IsLonger old.heap heap → AddsFrames (record old { heap = heap }) new true → ((m : Machine) (left : List Answer) (t : State Place) → IsMachine k m → Runs m old left t → ComesFirst m new left t (type_name type))
    → BeginsClass k old new type
begins_class k old new type heap longer adds there = record {
  own = adds.own;
  frames = adds.frames;
  same = adds.same ∙ ap (λ (h : Things). record old { frames = new.frames; begun = new.begun; heap = h }) (sym (ap (λ (s : MachineState). s.heap) adds.same));
  names = subst (IsLonger old.heap) (sym (ap (λ (s : MachineState). s.heap) adds.same)) longer;
  there = there;
}
