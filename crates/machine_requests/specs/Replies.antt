-- What a reply stands for, with what there is after it.
use Rattle.std.specs.Prelude.{◌≡◌, List, ◌++◌, length, Option}
use Rattle.std.specs.Option.{option_map}
use Rattle.class_machine.specs.Values as machine
use Rattle.class_machine.specs.World.{World}
use Rattle.class_machine.specs.Effect.{Request}
use Rattle.class_machine.specs.Answers.{answer}
use Rattle.class_machine.specs.Answers as answers
use Rattle.machine_values.specs.declared.values.Ref.{Ref}
use Rattle.machine_values.specs.declared.names.Name.{Name}
use Rattle.machine_values.specs.Things.{Things}
use Rattle.machine_values.specs.Standing.{name_of, held, Settled}
use Rattle.machine_requests.specs.declared.reply.Reply.{Reply}
use Rattle.machine_requests.specs.declared.reply.Reply.TheVariants.{Gives, Done, Faults, Refuses}
use Rattle.machine_requests.specs.Telling.{AreDistinct}
use Rattle.machine_requests.specs.Shares.{Setting, Others, Shares}

-- The reply stands for the machine's, and the heap and the others for the world that the machine goes on with, which was
-- this one before.
abbrev pub Replies : Setting → Things → Others → World → Reply → answers.Reply → Type 0
Replies s things others before (Gives v) (answers.Gives h w) = (held s.heads things.names v ≡ h) × Settled (length things.names) v × Shares s things others w
Replies s things others before Done (answers.Done w) = Shares s things others w
Replies s things others before (Faults f) (answers.Faults g) = (f ≡ g) × Shares s things others before
Replies s things others before Refuses answers.Refuses = Unit {0}
Replies s things others before reply other = ⊥

-- what is asked, where the classes and the objects have these names
abbrev pub Asked : Type 0
Asked = Setting → List Name → Request

-- Whatever world the heap and the others stood for, the reply, and the heap and the others then, stand for the machine's
-- answer.
abbrev pub IsAnswer : Things → Others → Asked → Things → Others → Reply → Type 0
IsAnswer things others asked things' others' reply =
    (s : Setting) (w : World) → AreDistinct s.heads → Shares s things others w → Replies s things' others' w reply (answer s.classes w (asked s things.names))

-- a reference that may be null
abbrev pub object : Setting → List Name → Option Ref → Option machine.Name
object s names a = option_map (name_of s.heads names) a

-- what was there keeps its place
abbrev pub IsLonger : Things → Things → Type 0
IsLonger before after = (more : List Name) × (after.names ≡ before.names ++ more)

-- the same, where the classes, the objects and the fields are such
abbrev pub IsAnswerWhere : (Setting → Type 0) → Things → Others → Asked → Things → Others → Reply → Type 0
IsAnswerWhere Holds things others asked things' others' reply =
    (s : Setting) (w : World) → Holds s → AreDistinct s.heads → Shares s things others w → Replies s things' others' w reply (answer s.classes w (asked s things.names))
