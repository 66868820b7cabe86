-- What the heap and the monitors answer to the running frame of a state.
use Rattle.std.specs.Prelude.{◌≡◌, ℕ, Bool, true, false, Option, Some, None}
use Rattle.aj_names.specs.declared.types.Base.{Base}
use Rattle.aj_names.specs.Descriptors.{base_spelling}
use Rattle.class_world.specs.Tables.{Known}
use Rattle.class_machine.specs.declared.kinds.Element.{Element}
use Rattle.class_machine.specs.Answers.{answer}
use Rattle.class_machine.specs.Descriptors.{primitive}
use Rattle.class_machine.specs.World.{World}
use Rattle.machine_values.specs.declared.state.MachineState.{MachineState}
use Rattle.machine_values.specs.Standing.{Settled}
use Rattle.machine_requests.specs.declared.reply.Reply.{Reply}
use Rattle.machine_requests.specs.declared.reply.Reply.TheVariants.{Gives, Faults}
use Rattle.machine_requests.specs.Telling.{is_plain_base}
use Rattle.machine_requests.specs.Objects.{AreFilled}
use Rattle.machine_requests.specs.Replies.{Replies, IsLonger}
use Rattle.machine_requests.specs.Shares.{Shares, others_of}
use Rattle.machine_frames.specs.declared.effect.Request.{Request}
use Rattle.machine_frames.specs.Effects.{request_in}
use Rattle.machine_steps.specs.Giving.{naming_of}
use Rattle.machine_steps.specs.Programs.{Machine, IsMachine}

-- the reply is a value that names no object but one that there is
abbrev pub IsSettledReply : ℕ → Reply → Type 0
IsSettledReply count (Gives v) = Settled count v
IsSettledReply count reply = Unit {0}

-- the reply is an exception
abbrev pub is_fault : Reply → Bool
is_fault (Faults fault) = true
is_fault reply = false

-- The reply stands for the machine's, whatever world of the machine the heap and the tables stood for; nothing else changed.
pub record IsReply (k : Known) (old : MachineState) (request : Request) (new : MachineState) (reply : Reply) : Type 0 where
  pub same : new ≡ record old { heap = new.heap; monitors = new.monitors }
  pub names : IsLonger old.heap new.heap
  pub replies : (m : Machine) (w : World) → IsMachine k m → Shares m.setting old.heap (others_of old) w
      → Replies m.setting new.heap (others_of new) w reply (answer m.setting.classes w (request_in (naming_of m old) request))
  pub filled : (m : Machine) (w : World) → IsMachine k m → Shares m.setting old.heap (others_of old) w → AreFilled old.heap m.setting → AreFilled new.heap m.setting

-- the primitive type of the elements; none is of references
abbrev pub IsBaseOf : Element → Option Base → Type 0
IsBaseOf e None = e ≡ Element.Reference
IsBaseOf e (Some b) = (base_spelling b ≡ primitive e) × (is_plain_base b ≡ true)
