-- The class of an exception that is thrown.
use Rattle.std.specs.Prelude.{◌≡◌, ℕ, true, is_some, List, length, Option, Some, None}
use Rattle.std.specs.Option.{option_map}
use Rattle.std.proofs.Common.{sym, ◌∙◌, ap, subst}
use Rattle.aj_names.specs.declared.ids.ClassId.{ClassId}
use Rattle.class_heads.specs.declared.types.ClassHead.{ClassHead}
use Rattle.class_heads.specs.Hierarchy.{name_at, place_of}
use Rattle.class_heads.specs.PlaceLaws.{place-named}
use Rattle.class_world.specs.Tables.{Known}
use Rattle.class_machine.specs.Values.{class_of}
use Rattle.class_machine.specs.Machine.{State}
use Rattle.class_machine.specs.ClassFiles.{Place}
use Rattle.machine_values.specs.declared.values.Ref.{Ref}
use Rattle.machine_values.specs.declared.script.Answer.{Answer}
use Rattle.machine_values.specs.declared.state.MachineState.{MachineState}
use Rattle.machine_values.specs.Standing.{name_of}
use Rattle.machine_requests.specs.Telling.{AreDistinct, AreFit}
use Rattle.machine_steps.specs.Programs.{Machine, IsMachine}
use Rattle.machine_steps.specs.Runs.{Runs}

abbrev pub number_in : Option ClassId → Option ℕ
number_in o = option_map (λ (class : ClassId). class.0) o

-- what is found of the class of an object
abbrev pub FoundClass : Known → MachineState → Ref → Option ClassId → Type 0
FoundClass k state x o = AreDistinct k.heads → AreFit (length k.heads) state.heap.names → number_in o ≡ place_of k.heads (class_of (name_of k.heads state.heap.names x))

module _ (k : Known) (state : MachineState) (x : Ref) (m : Machine) (answers : List Answer) (t : State Place) (is : IsMachine k m) (runs : Runs m state answers t) where
  fit : AreFit (length k.heads) state.heap.names
  fit = subst (λ (heads : List ClassHead). AreFit (length heads) state.heap.names) is.heads runs.shares.fit

  pub class_is : (class : ClassId) → FoundClass k state x (Some class) → class_of (name_of m.setting.heads state.heap.names x) ≡ name_at k.heads class.0
  class_is class found =
      ap (λ (heads : List ClassHead). class_of (name_of heads state.heap.names x)) is.heads
      ∙ sym (place-named k.heads (class_of (name_of k.heads state.heap.names x)) class.0 (sym (found is.distinct fit)))

  pub class_there : FoundClass k state x None → is_some (place_of k.heads (class_of (name_of k.heads state.heap.names x))) ≡ true → ⊥
  class_there found there = let none = found is.distinct fit in absurd (let e : is_some (number_in None) ≡ true = ap is_some none ∙ there in cc)
