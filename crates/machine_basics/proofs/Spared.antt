-- An instruction is refused only where executing it needs memory.
use Rattle.std.specs.Prelude.{◌≡◌, true, false, ◌∷◌, length, None, refl}
use Rattle.std.specs.Option.{option_map}
use Rattle.std.proofs.Common.{sym, ◌∙◌, ap, subst}
use Rattle.class_world.specs.Tables.{Known}
use Rattle.class_machine.specs.declared.kinds.Fault.{Fault}
use Rattle.class_machine.specs.declared.meaning.Basic.{Basic}
use Rattle.class_machine.specs.Answers as answers
use Rattle.class_machine.specs.Answers.{answer}
use Rattle.class_machine.specs.ClassFiles.{Place, class_code}
use Rattle.class_machine.specs.Descriptors.{kind_in, result_in}
use Rattle.class_machine.specs.Operations.{Do}
use Rattle.class_machine.specs.Turn as turns
use Rattle.class_machine.specs.Turn.{effect_at}
use Rattle.class_machine.specs.World.{World}
use Rattle.machine_values.specs.declared.state.MachineState.{MachineState}
use Rattle.machine_values.specs.Things.{Things}
use Rattle.machine_requests.specs.declared.reply.Reply.{Reply}
use Rattle.machine_requests.specs.declared.reply.Reply.TheVariants.{Gives, Done, Faults, Refuses}
use Rattle.machine_requests.specs.Replies.{Replies}
use Rattle.machine_requests.specs.Shares.{Setting, Others, others_of}
use Rattle.machine_frames.specs.declared.effect.Effect.{Effect}
use Rattle.machine_frames.specs.declared.effect.Request.{Request}
use Rattle.machine_frames.specs.declared.effect.Request.TheVariants.{MakeArray, ArrayLoad, ArrayStore, ArrayLength, EnterMonitor, LeaveMonitor}
use Rattle.machine_frames.specs.Naming.{Naming}
use Rattle.machine_frames.specs.Effects.{request_in, operands_of, locals_of}
use Rattle.machine_steps.specs.Giving.{naming_of}
use Rattle.machine_steps.specs.Running.{seen_by, waiting, frames_are, first_same}
use Rattle.machine_basics.specs.Performed.{is_return, IsPerformed}
use Rattle.machine_basics.specs.Replied.{IsReply, is_fault}
use Rattle.machine_basics.specs.Sparing.{asks_for_memory, needs_memory, NeedsMemory, AsksForMemory, TakesMemory}
use Rattle.machine_basics.proofs.Executed.{faithful, frame_within}
use Rattle.machine_basics.proofs.Returnless.{unconcerned}

-- ---- what is asked

-- an exception takes memory, whatever was asked
fault_taken : (n : Naming) (request : Request) (fault : Fault) → asks_for_memory (request_in n request) (answers.Faults fault) ≡ true
fault_taken n (MakeArray e size) fault = refl
fault_taken n (ArrayLoad e a i) fault = refl
fault_taken n (ArrayStore e a i v) fault = refl
fault_taken n (ArrayLength a) fault = refl
fault_taken n (EnterMonitor a) fault = refl
fault_taken n (LeaveMonitor a) fault = refl

fault_answered : (n : Naming) (request : Request) (s : Setting) (things : Things) (others : Others) (w : World) (reply : Reply) (r : answers.Reply) → is_fault reply ≡ true → Replies s things others w reply r → asks_for_memory (request_in n request) r ≡ true
fault_answered n request s things others w (Faults f) (answers.Faults g) e h = fault_taken n request g
fault_answered n request s things others w (Faults f) (answers.Gives v u) e h = absurd h
fault_answered n request s things others w (Faults f) (answers.Done u) e h = absurd h
fault_answered n request s things others w (Faults f) answers.Refuses e h = absurd h
fault_answered n request s things others w (Gives v) r e h = absurd cc
fault_answered n request s things others w Done r e h = absurd cc
fault_answered n request s things others w Refuses r e h = absurd cc

pub asks_fault : (k : Known) (old mid : MachineState) (request : Request) (reply : Reply) → IsReply k old request mid reply → is_fault reply ≡ true → AsksForMemory k old request
asks_fault k old mid request reply is fault m w machine shares =
    fault_answered (naming_of m old) request m.setting mid.heap (others_of mid) w reply (answer m.setting.classes w (request_in (naming_of m old) request)) fault (is.replies m w machine shares)

-- ---- the instruction

pub performed_needs : (k : Known) (old mid : MachineState) (basic : Basic) (e : Effect) → IsPerformed old mid basic e → is_return basic ≡ false → TakesMemory k mid e → NeedsMemory k old (Do basic)
performed_needs k old mid basic e performed returns takes m left t f below is runs same =
    let before = performed.before in
    let after = performed.after in
    let top = performed.turned.before in
    let n = naming_of m old in
    let was = seen_by m old.heap.names before in
    let kind = option_map kind_in (result_in was.method.member.descriptor) in
    let does = performed.done n (length old.heap.names) (faithful k m old left t is runs) (frame_within m old left t performed.rest before top runs) in
    let here = subst (λ (s : MachineState). TakesMemory k s e) performed.turned.same takes in
    let all : was ∷ waiting m old.heap.names performed.rest ≡ f ∷ below = sym (frames_are m old left t performed.rest before runs top) ∙ same in
    subst (λ (x : turns.Frame Place). needs_memory m t.world (effect_at (class_code m.files) m.setting.classes x (Do basic)) ≡ true) (first_same _ _ _ _ all)
    (sym (ap (needs_memory m t.world) (does.same ∙ unconcerned before.operands.room None kind basic was.content.operands was.content.locals returns))
    ∙ here m t.world before.method.0 (operands_of n after) (locals_of n after) is runs.shares)
