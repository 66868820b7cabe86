-- The method that an invocation comes to, and the step of the class machine.
use Rattle.std.specs.Prelude.{Bool, false, is_some, Option, Some, None, option_and_then}
use Rattle.class_file.specs.Pool.{Reference}
use Rattle.class_machine.specs.ClassFiles.{Place, class_code}
use Rattle.class_machine.specs.Classes.{Method}
use Rattle.class_machine.specs.Effect.{Effect, CallOn}
use Rattle.class_machine.specs.Machine as machines
use Rattle.class_machine.specs.Machine.{State}
use Rattle.class_machine.specs.Turn.{Frame, selection}
use Rattle.machine_steps.specs.Programs.{Machine}

-- a method of the library that isn't native has a rule
abbrev pub has_rule : Option Method → Bool
has_rule None = false
has_rule (Some m) = is_some m.rule

-- what the search finds, and on an object the selection from that
abbrev pub invoked : Machine → Frame Place → Reference → Effect Place → Option Method
invoked m f r (CallOn special named (Some a) given c) =
    option_and_then (λ found. selection (class_code m.files) m.setting.classes f special a found) (m.setting.classes.method r)
invoked m f r e = m.setting.classes.method r

-- the step of the class machine
abbrev pub step_of : Machine → State Place → machines.Step (State Place)
step_of m t = machines.step (class_code m.files) m.setting.classes t
