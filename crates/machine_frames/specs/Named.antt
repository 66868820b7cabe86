-- What the functions for instructions that name something do to the frame, whatever it is that they name.
use Rattle.std.specs.Prelude.{◌≡◌, ℤ, List, Option}
use Rattle.class_file.specs.Pool.{Reference}
use Rattle.class_machine.specs.declared.kinds.Kind.{Kind}
use Rattle.class_machine.specs.declared.kinds.Access.{Access}
use Rattle.class_machine.specs.Values as machine
use Rattle.class_machine.specs.ClassFiles.{Place}
use Rattle.class_machine.specs.Effect as definition
use Rattle.machine_values.specs.declared.values.Ref.{Ref}
use Rattle.machine_values.specs.declared.values.Value.{Value}
use Rattle.machine_values.specs.declared.frames.Frame.{Frame}
use Rattle.machine_frames.specs.Naming.{Naming, reference, held}
use Rattle.machine_frames.specs.Effects.{Form, operands_of, locals_of}

-- the effect of the form on the frame
abbrev pub effect_on : Naming → Frame → Form → definition.Effect Place
effect_on n f form = form (operands_of n f) (locals_of n f)

abbrev pub content_of : Naming → Frame → machine.Content Place
content_of n f = machine.content (operands_of n f) (locals_of n f)

abbrev pub Breaks : Naming → Frame → Form → Type 0
Breaks n f form = effect_on n f form ≡ definition.Broken

-- ---- switches

abbrev pub SwitchBreaks : Frame → Type 0
SwitchBreaks f = (n : Naming) (keys : List ℤ) → Breaks n f (definition.switch keys)

abbrev pub Switches : Frame → ℤ → Frame → Type 0
Switches f x g = (n : Naming) (keys : List ℤ) → effect_on n f (definition.switch keys) ≡ definition.Jump (definition.key_target keys x 1) (content_of n g)

-- ---- questions about an object

abbrev pub QuestionBreaks : Frame → Type 0
QuestionBreaks f = (n : Naming) (question : Option machine.Name → definition.Request) → Breaks n f (definition.ask_of question)

abbrev pub Questions : Frame → Option Ref → Frame → Type 0
Questions f a g = (n : Naming) (question : Option machine.Name → definition.Request) → effect_on n f (definition.ask_of question) ≡ definition.Ask (question (reference n a)) (content_of n g)

-- ---- fields

-- the instruction's access of any field of the kind
abbrev pub access : Frame → Access → Reference → Kind → Form
access f how r kind ops ls = definition.access_field f.operands.room how r kind ops ls

abbrev pub AccessBreaks : Access → Kind → Frame → Type 0
AccessBreaks how kind f = (n : Naming) (r : Reference) → Breaks n f (access f how r kind)

abbrev pub GetsField : Kind → Frame → Option Ref → Frame → Type 0
GetsField kind f a g = (n : Naming) (r : Reference) → effect_on n f (access f Access.GetField r kind) ≡ definition.Ask (definition.GetField r (reference n a)) (content_of n g)

abbrev pub PutsStatic : Kind → Frame → Value → Frame → Type 0
PutsStatic kind f v g = (n : Naming) (r : Reference) → effect_on n f (access f Access.PutStatic r kind) ≡ definition.Ask (definition.PutStatic r (held n v)) (content_of n g)

abbrev pub PutsField : Kind → Frame → Option Ref → Value → Frame → Type 0
PutsField kind f a v g = (n : Naming) (r : Reference) → effect_on n f (access f Access.PutField r kind) ≡ definition.Ask (definition.PutField r (reference n a) (held n v)) (content_of n g)
