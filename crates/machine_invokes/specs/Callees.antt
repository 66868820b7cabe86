-- What a call on a receiver is to run, once the receiver and the arguments are taken.
use Rattle.std.specs.Prelude.{◌≡◌, ℕ, ◌<◌, Bool, true, false, List, map, length, nat_lt, Some}
use Rattle.std.specs.List.{AllByRecursion}
use Rattle.aj_names.specs.declared.ids.ClassId.{ClassId}
use Rattle.class_file.specs.Pool.{Reference}
use Rattle.class_heads.specs.Hierarchy.{name_at}
use Rattle.class_world.specs.Tables.{Known}
use Rattle.class_machine.specs.ClassFiles.{Place, class_code}
use Rattle.class_machine.specs.Classes.{Method, member_text}
use Rattle.class_machine.specs.Events as events
use Rattle.class_machine.specs.Turn.{Turn, resolved, build_made, stops}
use Rattle.class_machine.specs.World.{World, make}
use Rattle.machine_values.specs.declared.frames.Frame.{Frame}
use Rattle.machine_values.specs.declared.names.Name.{Name}
use Rattle.machine_values.specs.declared.values.Ref.{Ref}
use Rattle.machine_values.specs.declared.values.Value.{Value}
use Rattle.machine_values.specs.Standing.{name_of, held, Settled}
use Rattle.machine_frames.specs.declared.calls.Receiver.{Receiver}
use Rattle.machine_frames.specs.declared.calls.Receiver.TheVariants.{Object, Announced}
use Rattle.machine_frames.specs.Calls.{called, is_receiver_within}
use Rattle.machine_requests.specs.Telling.{AreFit}
use Rattle.machine_steps.specs.Programs.{IsMachine}
use Rattle.machine_steps.specs.Runs.{IsMethod}
use Rattle.machine_invocations.specs.Methods.{classes_in, Sees}
use Rattle.machine_invocations.specs.Standards.{machine_of}
use Rattle.machine_invokes.specs.declared.callees.Callee.{Callee}
use Rattle.machine_invokes.specs.declared.callees.Callee.TheVariants.{Missing, Breaks, Null, On, Built}
use Rattle.machine_invokes.specs.Choosing.{LacksRoom, seen_as, null_turn, run_turn}

abbrev pub IsCallee : Known → Callee → Type 0
IsCallee k (On method at) = IsMethod k method.0
IsCallee k (Built method class number) = IsMethod k method.0
IsCallee k callee = Unit {0}

module _ (k : Known) (g : Frame) (names : List Name) (special : Bool) (r : Reference) (receiver : Receiver) (given : List Value) where
  -- what is made of the call by the frame, where the fields and the methods have these names
  abbrev pub receiver_turn : (ℕ → Reference) → (ℕ → Reference) → World → Turn Place
  receiver_turn fields methods w =
      let f = seen_as k g fields methods names in
      resolved (class_code k.files) (classes_in k) f w (called (record { heads = k.heads; methods = methods; names = names }) special r receiver (map (held k.heads names) given) f.content)

  -- what is known where the state stands for one of the machine
  pub record StandsThere (fields methods : ℕ → Reference) : Type 0 where
    pub machine : IsMachine k (machine_of k fields methods)
    pub fit : AreFit (length k.heads) names
    pub known : is_receiver_within (length names) receiver ≡ true
    pub fine : AllByRecursion (Settled (length names)) given

  abbrev pub Comes : ((ℕ → Reference) → (ℕ → Reference) → World → Turn Place) → Type 0
  Comes turn = (fields methods : ℕ → Reference) → StandsThere fields methods → (w : World) → receiver_turn fields methods w ≡ turn fields methods w

  -- the method runs on the object
  pub record RunsThere (fields methods : ℕ → Reference) (number : ℕ) (at : Ref) : Type 0 where
    pub method : Method
    pub sees : Sees k number method
    pub turn : (w : World) → receiver_turn fields methods w ≡ run_turn k g fields methods names w special r method (name_of k.heads names at) (map (held k.heads names) given)
    pub roomy : LacksRoom k g number false

  pub record RunsOn (number : ℕ) (at : Ref) : Type 0 where
    pub receiver_is : receiver ≡ Object (Some at)
    pub known : nat_lt at.0 (length names) ≡ true
    pub fine : AllByRecursion (Settled (length names)) given
    pub there : (fields methods : ℕ → Reference) → StandsThere fields methods → RunsThere fields methods number at

  -- a new object of the class is what the constructor runs on
  pub record BuildsThere (fields methods : ℕ → Reference) (number : ℕ) (class : ClassId) (token : ℕ) : Type 0 where
    pub method : Method
    pub sees : Sees k number method
    pub turn : (w : World)
        → receiver_turn fields methods w
        ≡ build_made (class_code k.files) (classes_in k) (seen_as k g fields methods names) (seen_as k g fields methods names).content r token method (map (held k.heads names) given) (make (classes_in k) w (name_at k.heads class.0))

  pub record Builds (number : ℕ) (class : ClassId) (token : ℕ) : Type 0 where
    pub receiver_is : receiver ≡ Announced class token
    pub within : class.0 < length k.heads
    pub fine : AllByRecursion (Settled (length names)) given
    pub there : (fields methods : ℕ → Reference) → StandsThere fields methods → BuildsThere fields methods number class token

  abbrev pub CalleeIs : Callee → Type 0
  CalleeIs Missing = Comes (λ fields methods w. stops (events.Unresolved (member_text r)))
  CalleeIs Breaks = Comes (λ fields methods w. stops events.Broken)
  CalleeIs Null = Comes (λ fields methods w. null_turn k g fields methods names w)
  CalleeIs (On method at) = RunsOn method.0 at
  CalleeIs (Built method class number) = Builds method.0 class number
