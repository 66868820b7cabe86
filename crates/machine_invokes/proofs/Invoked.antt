-- The method that a call is to run.
use Rattle.std.specs.Prelude.{◌≡◌, ℕ, ◌<◌, Bool, true, false, is_none, if◌then◌else◌, List, [], ◌∷◌, ◌++◌, length, Option, Some, None, IfSome, option_and_then, refl}
use Rattle.std.specs.List.{AllByRecursion}
use Rattle.std.specs.Option.{option_map}
use Rattle.std.proofs.Common.{sym, ◌∙◌, ap, subst}
use Rattle.aj_names.specs.declared.ids.ClassId.{ClassId}
use Rattle.aj_names.specs.declared.ids.MethodId.{MethodId}
use Rattle.class_file.specs.declared.types.ClassFile.{ClassFile}
use Rattle.class_file.specs.Pool.{Reference}
use Rattle.class_heads.specs.Hierarchy.{name_at}
use Rattle.class_world.specs.Tables.{Known}
use Rattle.class_machine.specs.declared.kinds.Mode.{Mode}
use Rattle.class_machine.specs.ClassFiles.{Place, file_named, class_code}
use Rattle.class_machine.specs.Descriptors.{parameters_in}
use Rattle.class_machine.specs.Classes.{Method, select, select_special}
use Rattle.class_machine.specs.Machine.{State}
use Rattle.class_machine.specs.Turn as turns
use Rattle.class_machine.specs.Values.{class_of}
use Rattle.class_machine.specs.Values as machine
use Rattle.machine_fields.specs.ProgramLaws.{program_is_distinct}
use Rattle.machine_values.specs.declared.frames.Frame.{Frame}
use Rattle.machine_values.specs.declared.script.Answer.{Answer}
use Rattle.machine_values.specs.declared.state.MachineState.{MachineState}
use Rattle.machine_values.specs.declared.values.Ref.{Ref}
use Rattle.machine_values.specs.Standing.{name_of}
use Rattle.machine_values.specs.declared.names.Name.{Name}
use Rattle.machine_values.specs.States.{is_known_object, IsFrameWithin}
use Rattle.machine_values.specs.Things.{Things}
use Rattle.machine_requests.specs.Telling.{AreDistinct, AreFit}
use Rattle.machine_steps.specs.Parts.{Part, is_part, is_special, receiver_below, from_object, method_called, part_of_method}
use Rattle.machine_steps.specs.Programs.{IsRunnable, IsMachine}
use Rattle.machine_steps.specs.Running.{seen_by, waiting, first_same, frames_are, all_last}
use Rattle.machine_steps.specs.Runs.{IsMethod, Runs}
use Rattle.machine_invocations.specs.Methods.{classes_in, members_in, Sees, Finds, IsFound}
use Rattle.machine_invocations.specs.Standards.{machine_of, by_machine}
use Rattle.machine_invocations.proofs.Initialised.{called_so}
use Rattle.machine_invocations.proofs.Locked.{seen_there}
use Rattle.machine_invocations.proofs.Names.{class_has_members}
use Rattle.machine_invocations.proofs.Seen.{seen_method}
use Rattle.machine_invokes.specs.Belonging.{SelectsOn, FindsCalled, TellsLibrary}
use Rattle.machine_invokes.specs.Peeking.{receiver_in}
use Rattle.machine_invokes.specs.Selecting.{Selects}
use Rattle.machine_invokes.proofs.Peeked.{below_seen, receiver_known}

pub runnable_distinct : (k : Known) → IsRunnable k → AreDistinct k.heads
runnable_distinct k runnable = program_is_distinct k.files k.heads runnable.library runnable.program.different runnable.program.formed

pub found_method : (k : Known) (id : Option MethodId) (found : Option Method) → Finds k id found → IfSome id (λ m. IsMethod k m.0)
found_method k None found finds = tt
found_method k (Some id) found finds = seen_method k id.0 finds.method finds.sees

-- a type that has the members of that class, or none
pub type_of : (k : Known) (class : Option ClassId) → AreDistinct k.heads → IfSome class (λ c. c.0 < length k.heads) → (type : List ℕ) × (members_in k type ≡ option_map (λ c. c.0) class)
type_of k None distinct within = (91 ∷ [], refl)
type_of k (Some class) distinct within = (name_at k.heads class.0, class_has_members k class.0 distinct within)

-- ---- selections

module _ (k : Known) (heap : Things) (current : ℕ) (at : Ref) (found : ℕ) (result : Option MethodId) where
  abbrev one_of : (ℕ → Reference) → (ℕ → Reference) → turns.Frame Place → Method → Bool → Option Method
  one_of fields methods f m special = turns.selection (class_code k.files) (classes_in k) f special (name_of k.heads heap.names at) m

  pub special_selects : (special : Bool) (class : ℕ) → special ≡ true → IsMethod k current → ((m : Method) → Sees k current m → name_at k.heads class ≡ m.name.class)
      → ((m : Method) → AreDistinct k.heads → Sees k found m → Finds k result (select_special (classes_in k) (name_at k.heads class) m)) → Selects k heap current special at found result
  special_selects special class holds method named finds fields methods f m is fit same sees =
      let there = seen_there k current method in
      let of_class : f.method.class ≡ name_at k.heads class = ap (λ (r : Reference). r.class) (same ∙ called_so k fields methods current _ is there) ∙ sym (named _ there) in
      subst (Finds k result) (sym (ap (one_of fields methods f m) holds ∙ ap (λ (c : List ℕ). select_special (classes_in k) c m) of_class)) (finds m is.distinct sees)

  pub object_selects : (special : Bool) (class : Option ClassId) → special ≡ false → (AreDistinct k.heads → AreFit (length k.heads) heap.names → option_map (λ c. c.0) class ≡ members_in k (class_of (name_of k.heads heap.names at)))
      → ((type : List ℕ) (m : Method) → members_in k type ≡ option_map (λ c. c.0) class → Sees k found m → Finds k result (select (classes_in k) type m)) → Selects k heap current special at found result
  object_selects special class isnt place finds fields methods f m is fit same sees =
      subst (Finds k result) (sym (ap (one_of fields methods f m) isnt)) (finds (class_of (name_of k.heads heap.names at)) m (sym (place is.distinct fit)) sees)

pub special_method : (k : Known) (class found : ℕ) (result : Option MethodId) → IsRunnable k → IsMethod k found
    → ((m : Method) → AreDistinct k.heads → Sees k found m → Finds k result (select_special (classes_in k) (name_at k.heads class) m)) → IfSome result (λ m. IsMethod k m.0)
special_method k class found result runnable method finds = found_method k result _ (finds _ (runnable_distinct k runnable) (seen_there k found method))

pub object_method : (k : Known) (class : Option ClassId) (found : ℕ) (result : Option MethodId) → IsRunnable k → IsMethod k found → IfSome class (λ c. c.0 < length k.heads)
    → ((type : List ℕ) (m : Method) → members_in k type ≡ option_map (λ c. c.0) class → Sees k found m → Finds k result (select (classes_in k) type m)) → IfSome result (λ m. IsMethod k m.0)
object_method k class found result runnable method within finds =
    let type = type_of k class (runnable_distinct k runnable) within in
    found_method k result _ (finds type.0 _ type.1 (seen_there k found method))

-- ---- the method that a call is to run

-- what lies below the arguments, where the call is on an object
abbrev received : turns.Frame Place → Mode → Reference → Option machine.Name
received f Mode.Static r = None
received f mode r = receiver_below (length (parameters_in r.member.descriptor)) f.content.operands

module _ (k : Known) where
  -- from what the search finds, on the object if there is one
  abbrev called_by : turns.Frame Place → Mode → Reference → Option machine.Name → Option Method
  called_by f mode r object = option_and_then (from_object k.files (classes_in k) f (is_special mode) object) ((classes_in k).method r)

  on_none : (f : turns.Frame Place) (special : Bool) (o : Option Method) → o ≡ option_and_then (from_object k.files (classes_in k) f special None) o
  on_none f special None = refl
  on_none f special (Some m) = refl

  called_is : (f : turns.Frame Place) (mode : Mode) (r : Reference) → method_called k.files (classes_in k) f mode r ≡ called_by f mode r (received f mode r)
  called_is f Mode.Static r = on_none f false ((classes_in k).method r)
  called_is f Mode.Special r = refl
  called_is f Mode.Virtual r = refl
  called_is f Mode.Interface r = refl

  received_seen : (fields methods : ℕ → Reference) (names : List Name) (g : Frame) (mode : Mode) (r : Reference)
      → received (seen_by (machine_of k fields methods) names g) mode r ≡ option_map (name_of k.heads names) (receiver_in mode r.member.descriptor g)
  received_seen fields methods names g Mode.Static r = refl
  received_seen fields methods names g Mode.Special r = below_seen k.heads methods names g (length (parameters_in r.member.descriptor))
  received_seen fields methods names g Mode.Virtual r = below_seen k.heads methods names g (length (parameters_in r.member.descriptor))
  received_seen fields methods names g Mode.Interface r = below_seen k.heads methods names g (length (parameters_in r.member.descriptor))

module _ (k : Known) (state : MachineState) (mode : Mode) (r : Reference) (result : Option MethodId) where
  -- by what the running frame is
  called_at : (rest : List Frame) (g : Frame) (object : Option Ref) → state.frames.items ≡ rest ++ g ∷ [] → object ≡ receiver_in mode r.member.descriptor g
      → ((fields methods : ℕ → Reference) (left : List Answer) (t : State Place) → IsMachine k (machine_of k fields methods) → Runs (machine_of k fields methods) state left t
      → Finds k result (called_by k (seen_by (machine_of k fields methods) state.heap.names g) mode r (option_map (name_of k.heads state.heap.names) object)))
      → FindsCalled k state mode r result
  called_at rest g object top lies finds m left t f below is runs same =
      by_machine k (λ x. Runs x state left t → Finds k result (method_called x.files x.setting.classes f mode r)) m (λ fields methods there here.
      let x = machine_of k fields methods in
      let seen = seen_by x state.heap.names g in
      let is_frame : seen ≡ f = first_same _ _ _ _ (sym (frames_are x state left t rest g here top) ∙ same) in
      subst (λ (y : turns.Frame Place). Finds k result (method_called k.files (classes_in k) y mode r)) is_frame
      (subst (Finds k result)
      (sym (called_is k seen mode r ∙ ap (called_by k seen mode r) (received_seen k fields methods state.heap.names g mode r ∙ ap (option_map (name_of k.heads state.heap.names)) (sym lies))))
      (finds fields methods left t there here))) is runs

  pub called_nowhere : state.frames.items ≡ [] → FindsCalled k state mode r result
  called_nowhere none m left t f below is runs same =
      let empty : t.frames ≡ [] = runs.frames.frames ∙ ap (λ (fs : List Frame). waiting m state.heap.names fs) none in
      absurd (let e : f ∷ below ≡ [] = sym same ∙ empty in cc)

pub nothing_found : (k : Known) (state : MachineState) (mode : Mode) (r : Reference) → (classes_in k).method r ≡ None → FindsCalled k state mode r None
nothing_found k state mode r none m left t f below is runs same =
    by_machine k (λ x. method_called x.files x.setting.classes f mode r ≡ None) m
    (λ fields methods there. called_is k f mode r ∙ ap (option_and_then (from_object k.files (classes_in k) f (is_special mode) (received f mode r))) none) is

-- ---- the running frame

module _ (k : Known) (state : MachineState) (mode : Mode) (r : Reference) (rest : List Frame) (g : Frame) (top : state.frames.items ≡ rest ++ g ∷ []) where
  pub called_on_none : (found : MethodId) → None ≡ receiver_in mode r.member.descriptor g → Finds k (Some found) ((classes_in k).method r) → FindsCalled k state mode r (Some found)
  called_on_none found lies finds =
      called_at k state mode r (Some found) rest g None top lies (λ fields methods left t is runs.
      subst (Finds k (Some found)) (on_none k (seen_by (machine_of k fields methods) state.heap.names g) (is_special mode) ((classes_in k).method r)) finds)

  pub called_on_object : (found : MethodId) (at : Ref) (result : Option MethodId) → Some at ≡ receiver_in mode r.member.descriptor g → (one : IsFound k found.0 ((classes_in k).method r))
      → SelectsOn k state.heap g mode at found.0 result → FindsCalled k state mode r result
  called_on_object found at result lies one selects =
      called_at k state mode r result rest g (Some at) top lies (λ fields methods left t is runs.
      let f = seen_by (machine_of k fields methods) state.heap.names g in
      let a = name_of k.heads state.heap.names at in
      let count = length state.heap.names in
      let within : IsFrameWithin count g = all_last (IsFrameWithin count) rest g (subst (AllByRecursion (IsFrameWithin count)) top runs.frames.frames_within) in
      let known : is_known_object count (Some at) ≡ true = ap (is_known_object count) lies ∙ receiver_known mode r.member.descriptor g count within in
      subst (Finds k result) (sym (ap (option_and_then (from_object k.files (classes_in k) f (is_special mode) (Some a))) one.is))
      (selects fields methods f one.method is runs.shares.fit refl one.sees known))

-- ---- whether it is the library's

module _ (k : Known) (state : MachineState) (mode : Mode) (r : Reference) where
  pub no_library : FindsCalled k state mode r None → TellsLibrary k state mode r false
  no_library finds m left t f below is runs same = sym (ap (λ (o : Option Method). is_part (part_of_method m.files m.setting.classes o) Part.Library) (finds m left t f below is runs same))

  tells : (b : Bool) → b ≡ is_part (if b then Part.Library else Part.Calls) Part.Library
  tells true = refl
  tells false = refl

  pub library_tells : (id : MethodId) (library : Bool) → FindsCalled k state mode r (Some id) → ((m : Method) → Sees k id.0 m → library ≡ is_none (file_named k.files m.name.class)) → TellsLibrary k state mode r library
  library_tells id library finds so m left t f below is runs same =
      let found = finds m left t f below is runs same in
      tells library
      ∙ ap (λ (b : Bool). is_part (if b then Part.Library else Part.Calls) Part.Library) (so found.method found.sees ∙ ap (λ (files : List ClassFile). is_none (file_named files found.method.name.class)) (sym is.files))
      ∙ sym (ap (λ (o : Option Method). is_part (part_of_method m.files m.setting.classes o) Part.Library) found.is)

pub running_method : (k : Known) (state : MachineState) (rest : List Frame) (g : Frame) → state.frames.items ≡ rest ++ g ∷ [] → AllByRecursion (λ (f : Frame). IsMethod k f.method.0) state.frames.items → IsMethod k g.method.0
running_method k state rest g top all = all_last (λ (f : Frame). IsMethod k f.method.0) rest g (subst (AllByRecursion (λ (f : Frame). IsMethod k f.method.0)) top all)
