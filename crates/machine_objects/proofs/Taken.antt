-- Operands that are taken from the running frame.
use Rattle.std.specs.Prelude.{◌≡◌, ℕ, zero, suc, ◌+◌, ◌-◌, ◌<◌, List, [], ◌∷◌, ◌++◌, map, reverse, take, length, slice_get, slice_set, Option, Some, None, MatchOption, IfSome, ℤ, refl}
use Rattle.std.proofs.Common.{get_or, sym, ap, ◌∙◌, subst, arith}
use Rattle.std.proofs.Math.ListN.{length-set}
use Rattle.std.specs.List.{AllByRecursion}
use Rattle.std.specs.Vec.{with_item}
use Rattle.std.proofs.lemmas.Option.{same_Some, slice_get_read}
use Rattle.class_world.specs.Tables.{Known}
use Rattle.class_machine.specs.ClassFiles.{Place}
use Rattle.class_machine.specs.Effect as definition
use Rattle.class_machine.specs.Machine.{State}
use Rattle.class_machine.specs.Turn as turns
use Rattle.machine_frames.specs.Effects.{operands_of, locals_of}
use Rattle.machine_frames.specs.Named.{content_of}
use Rattle.machine_frames.specs.Named as named
use Rattle.machine_frames.specs.Sizes.{Sizes, SizesBreak}
use Rattle.machine_frames.specs.Naming.{Naming}
use Rattle.machine_frames.specs.Undoing.{IsTaken}
use Rattle.machine_values.specs.declared.frames.Frame.{Frame}
use Rattle.machine_values.specs.declared.script.Answer.{Answer}
use Rattle.machine_values.specs.declared.state.MachineState.{MachineState}
use Rattle.machine_values.specs.declared.values.Value.{Value}
use Rattle.machine_values.specs.declared.values.Value.TheVariants.{Int}
use Rattle.machine_values.specs.States.{IsFrameWithin}
use Rattle.machine_steps.specs.Giving.{naming_of}
use Rattle.machine_steps.specs.Going.{formed_turned}
use Rattle.machine_steps.specs.Programs.{Machine}
use Rattle.machine_steps.specs.Running.{seen_by, first_same, all_front, all_last, all_pushed, frames_are, split_last, set_last, Turned, turned_at}
use Rattle.machine_steps.specs.Runs.{IsMethod, IsFormed, Runs}
use Rattle.machine_objects.specs.Taking.{RoomForm, Breaks, IsTakenFrom, Takes, Switches}
use Rattle.machine_objects.proofs.Vectors.{item_back}

-- ---- no frame

none_of : {X : Type 0} (xs : List X) → length xs ≡ 0 → xs ≡ []
none_of [] e = refl
none_of (x ∷ xs) e = absurd (omega arith)

pub no_frame : (old : MachineState) (m : Machine) (left : List Answer) (t : State Place) (f : turns.Frame Place) (below : List (turns.Frame Place)) → length old.frames.items ≡ 0 → Runs m old left t → t.frames ≡ f ∷ below → ⊥
no_frame old m left t f below none runs same =
    let e : [] ≡ f ∷ below = sym (runs.frames.frames ∙ ap (λ (fs : List Frame). map (seen_by m old.heap.names) (reverse fs)) (none_of old.frames.items none)) ∙ same in absurd cc

pub nowhere : (form : RoomForm) (old : MachineState) → length old.frames.items ≡ 0 → Breaks form old
nowhere form old none m left t f below runs same = absurd (no_frame old m left t f below none runs same)

-- ---- the running frame

module _ (old : MachineState) (top : ℕ) (x : Frame) (last : top + 1 ≡ length old.frames.items) (read : x ≡ get_or old.frames.items top x) where
  pub there : slice_get old.frames.items top ≡ Some x
  there = slice_get_read old.frames.items (length old.frames.items) top x refl (omega arith) read

  pub split : old.frames.items ≡ take top old.frames.items ++ x ∷ []
  split = split_last old.frames.items top x last there

  pub last_is : top ≡ length old.frames.items - 1
  last_is = omega arith

  pub within_top : (m : Machine) (left : List Answer) (t : State Place) → Runs m old left t → IsFrameWithin (length old.heap.names) x
  within_top m left t runs = all_last (IsFrameWithin (length old.heap.names)) (take top old.frames.items) x (subst (AllByRecursion (IsFrameWithin (length old.heap.names))) split runs.frames.frames_within)

  pub breaks : (form : RoomForm) → ((n : Naming) → form x.operands.room (operands_of n x) (locals_of n x) ≡ definition.Broken) → Breaks form old
  breaks form broken m left t f below runs same =
      let e : seen_by m old.heap.names x ≡ f = first_same _ _ _ _ (sym (frames_are m old left t (take top old.frames.items) x runs split) ∙ same) in
      subst (λ (g : turns.Frame Place). form g.room g.content.operands g.content.locals ≡ definition.Broken) e (broken (naming_of m old))

  -- what isn't there can't have been there
  pub unknown : (form : RoomForm) → ((m : Machine) (left : List Answer) (t : State Place) → Runs m old left t → ⊥) → Breaks form old
  unknown form never m left t f below runs same = absurd (never m left t runs)

  module _ (p : Frame) where
    abbrev pub after : MachineState
    after = record old { frames = with_item old.frames top p }

    pub turned : Turned old after (take top old.frames.items) x p
    turned = turned_at old after top x p last there refl refl

    pub formed : p ≡ record x { operands = p.operands } → (k : Known) → IsFormed k old → IsFormed k after
    formed rest k is = formed_turned k old after (take top old.frames.items) x p turned (ap (λ (f : Frame). f.method) rest) is

    abbrev pub taken_from : (vs : List Value) → IsTaken x vs p → ((count : ℕ) → IsFrameWithin count x → IsFrameWithin count p) → IsTakenFrom vs old after
    taken_from vs taken within = record {
      frame = x;
      left = p;
      some = (let e : 0 < length old.frames.items = omega arith in e);
      there = subst (λ i. slice_get old.frames.items i ≡ Some x) last_is there;
      set = ap (λ i. with_item old.frames i p) last_is;
      taken = taken;
      within = within;
    }

    pub takes : (form : RoomForm) (request : Naming → definition.Request) (vs : List Value) → IsTaken x vs p → ((count : ℕ) → IsFrameWithin count x → IsFrameWithin count p)
        → ((n : Naming) → form x.operands.room (operands_of n x) (locals_of n x) ≡ definition.Ask (request n) (content_of n p)) → Takes form request vs old after
    takes form request vs taken within asks = record { from = taken_from vs taken within; same = refl; asks = asks }

-- ---- ints

module _ (old : MachineState) (top : ℕ) (x : Frame) (last : top + 1 ≡ length old.frames.items) (read : x ≡ get_or old.frames.items top x) (p : Frame) where
  pub size_taken : (o : Option ℤ) → MatchOption o (SizesBreak 1 x) (λ n. Sizes 1 x (n ∷ []) p) → IfSome o (λ n. IsTaken x (Int n ∷ []) p) → ((count : ℕ) → IsFrameWithin count x → IsFrameWithin count p)
      → MatchOption o ((named : Option (List ℕ)) (type : List ℕ) → Breaks (λ room. definition.new_array named type 1) old)
      (λ n. (named : Option (List ℕ)) (type : List ℕ) → Takes (λ room. definition.new_array named type 1) (λ m. definition.MakeArray named type (n ∷ [])) (Int n ∷ []) old (after old top x last read p))
  size_taken None broken popped within = λ named type. breaks old top x last read (λ room. definition.new_array named type 1) (λ n. broken n named type)
  size_taken (Some n) sizes popped within = λ named type.
      takes old top x last read p (λ room. definition.new_array named type 1) (λ m. definition.MakeArray named type (n ∷ [])) (Int n ∷ []) popped within (λ m. sizes m named type)

  pub key_taken : (o : Option ℤ) → p ≡ record x { operands = p.operands } → p.operands.room ≡ x.operands.room → MatchOption o (named.SwitchBreaks x) (λ n. named.Switches x n p) → ((count : ℕ) → IsFrameWithin count x → IsFrameWithin count p)
      → MatchOption o ((keys : List ℤ) → Breaks (λ room. definition.switch keys) old) (λ n. Switches n old (after old top x last read p))
  key_taken None rest room broken within = λ keys. breaks old top x last read (λ room. definition.switch keys) (λ n. broken n keys)
  key_taken (Some n) rest room switches within = record {
    frame = x;
    left = p;
    some = (let e : 0 < length old.frames.items = omega arith in e);
    there = subst (λ i. slice_get old.frames.items i ≡ Some x) (last_is old top x last read) (there old top x last read);
    set = ap (λ i. with_item old.frames i p) (last_is old top x last read);
    rest = rest;
    room = room;
    within = within;
    same = refl;
    jumps = switches;
  }

-- ---- what was taken is put back

get_set : {X : Type 0} (xs : List X) (i : ℕ) (b : X) → i < length xs → slice_get (slice_set xs i b) i ≡ Some b
get_set [] i b h = absurd (omega arith)
get_set (x ∷ xs) zero b h = refl
get_set (x ∷ xs) (suc i) b h = get_set xs i b (omega arith)

pub same_count : (vs : List Value) (before mid : MachineState) (from : IsTakenFrom vs before mid) → length mid.frames.items ≡ length before.frames.items
same_count vs before mid from = ap (λ v. length v.items) from.set ∙ length-set before.frames.items (length before.frames.items - 1) from.left

pub restored : (vs : List Value) (before mid : MachineState) (top : ℕ) (x p : Frame) (from : IsTakenFrom vs before mid) → top + 1 ≡ length mid.frames.items → x ≡ get_or mid.frames.items top x
    → ((f : Frame) → IsTaken f vs x → p ≡ f) → record mid { frames = with_item mid.frames top p } ≡ record mid { frames = before.frames }
restored vs before mid top x p from last read put =
    let i = length before.frames.items - 1 in
    let count = same_count vs before mid from in
    let some = from.some in
    let at : top ≡ i = omega arith in
    let is_left : x ≡ from.left =
    same_Some x from.left (sym (there mid top x last read) ∙ ap (λ v. slice_get v.items top) from.set ∙ ap (slice_get (slice_set before.frames.items i from.left)) at ∙ get_set before.frames.items i from.left (omega arith)) in
    let is_frame : p ≡ from.frame = put from.frame (subst (IsTaken from.frame vs) (sym is_left) from.taken) in
    ap (λ v. record mid { frames = v }) (
    ap (λ v. with_item v top p) from.set ∙ ap (λ j. with_item (with_item before.frames i from.left) j p) at ∙ ap (with_item (with_item before.frames i from.left) i) is_frame
    ∙ item_back before.frames i from.frame from.left from.there
    )

pub still_formed : (k : Known) (vs : List Value) (before mid : MachineState) (from : IsTakenFrom vs before mid) → IsFormed k mid → IsFormed k (record mid { frames = before.frames })
still_formed k vs before mid from is =
    let i = length before.frames.items - 1 in
    let P : List Frame → Type 0 = AllByRecursion (λ (h : Frame). IsMethod k h.method.0) in
    let some = from.some in
    let last : i + 1 ≡ length before.frames.items = omega arith in
    let items : mid.frames.items ≡ take i before.frames.items ++ from.left ∷ [] = ap (λ v. v.items) from.set ∙ set_last before.frames.items i from.left last in
    let all : P (take i before.frames.items ++ from.left ∷ []) = subst P items is.frames in
    let one : IsMethod k from.left.method.0 = all_last (λ (h : Frame). IsMethod k h.method.0) (take i before.frames.items) from.left all in
    record {
      statics = is.statics;
      begun = is.begun;
      frames = subst P (sym (split_last before.frames.items i from.frame last from.there))
          (all_pushed (λ (h : Frame). IsMethod k h.method.0) (take i before.frames.items) from.frame (all_front (λ (h : Frame). IsMethod k h.method.0) (take i before.frames.items) from.left all)
          (subst (λ (f : Frame). IsMethod k f.method.0) from.taken.rest one));
      due = is.due;
    }
