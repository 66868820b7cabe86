-- What becomes of the running frame of a state, by the effect that an instruction had on it and by what it is answered.
use Rattle.std.specs.Prelude.{ℕ, false, if◌then◌else◌, Some, None}
use Rattle.class_machine.specs.declared.kinds.Fault.{Fault}
use Rattle.class_machine.specs.Values.{class_of, throwable_class, ReturnAddress, pushed_on, has_room}
use Rattle.class_machine.specs.Events as events
use Rattle.class_machine.specs.Answers.{answer}
use Rattle.class_machine.specs.Turn.{Raises, stops, stays, fails, replied}
use Rattle.class_machine.specs.ClassFiles.{class_code}
use Rattle.machine_values.specs.declared.values.Ref.{Ref}
use Rattle.machine_values.specs.declared.state.MachineState.{MachineState}
use Rattle.machine_values.specs.Standing.{name_of}
use Rattle.machine_requests.specs.declared.reply.Reply.{Reply}
use Rattle.machine_requests.specs.declared.reply.Reply.TheVariants as reply
use Rattle.machine_frames.specs.declared.effect.Request.{Request}
use Rattle.machine_frames.specs.declared.effect.Effect.{Effect}
use Rattle.machine_frames.specs.declared.effect.Effect.TheVariants as effect
use Rattle.machine_frames.specs.Effects.{request_in}
use Rattle.machine_steps.specs.Giving.{naming_of}
use Rattle.machine_steps.specs.Moves.{Turning, goes_on}
use Rattle.machine_invocations.specs.Returning.{takes_back}

-- on behind the instruction, with what the frame holds
abbrev pub goes_next : Turning
goes_next m t f = stays (class_code m.files) m.setting.classes ((class_code m.files).next f.place) f.content t.world

-- on at the target of that number
abbrev pub jumps : ℕ → Turning
jumps i m t f = stays (class_code m.files) m.setting.classes ((class_code m.files).target f.place i) f.content t.world

-- the same, with the place behind the instruction as a return address on top, where there is room
abbrev pub enters : ℕ → Turning
enters i m t f =
    if has_room f.room 1 f.content.operands
    then stays (class_code m.files) m.setting.classes ((class_code m.files).target f.place i) (pushed_on (ReturnAddress ((class_code m.files).next f.place)) f.content) t.world else stops events.Broken

-- the machine makes an exception
abbrev pub fails_with : Fault → Turning
fails_with fault m t f = fails (class_code m.files) m.setting.classes fault f.content t.world

-- the object is thrown, if it is a Throwable
abbrev pub throws : MachineState → Ref → Turning
throws old x m t f =
    if m.setting.classes.is_subtype (class_of (name_of m.setting.heads old.heap.names x)) throwable_class
    then Raises None (name_of m.setting.heads old.heap.names x) f.content t.world else stops events.Broken

-- the run is over
abbrev pub ends_with : events.Ending → Turning
ends_with ending m t f = stops ending

-- what the frame asks is answered, and it goes on by that
abbrev pub asks : MachineState → Request → Turning
asks old request m t f = replied (class_code m.files) m.setting.classes f f.content t.world (answer m.setting.classes t.world (request_in (naming_of m old) request))

-- by a reply; a value that is given goes on top, where there is room
abbrev pub follows : MachineState → Reply → Turning
follows old (reply.Gives v) = takes_back false (Some v) old
follows old reply.Done = goes_next
follows old (reply.Faults fault) = fails_with fault
follows old reply.Refuses = ends_with events.Broken

-- by an effect that is no return
abbrev pub takes : MachineState → Effect → Turning
takes old effect.On = goes_next
takes old (effect.Jump i) = jumps i
takes old (effect.Enter i) = enters i
takes old (effect.Back pc) = goes_on pc
takes old (effect.Ask request) = asks old request
takes old (effect.Leave result) = ends_with events.Broken
takes old (effect.Fail fault) = fails_with fault
takes old (effect.Throw x) = throws old x
takes old (effect.Unmodelled op) = ends_with (events.Unmodelled op)
takes old effect.Broken = ends_with events.Broken
