-- What refused calls leave of a state.
use Rattle.std.specs.Prelude.{◌≡◌, Bool, true, false, List, [], length, Option, Result, Ok, Err, IfOk, OnErr}
use Rattle.std.proofs.Common.{sym, ◌∙◌, ap, subst}
use Rattle.std.specs.List.{AllByRecursion}
use Rattle.std.proofs.lemmas.List.{append-nil}
use Rattle.class_heads.specs.declared.types.ClassHead.{ClassHead}
use Rattle.class_world.specs.Tables.{Known}
use Rattle.class_machine.specs.Classes.{Classes}
use Rattle.class_machine.specs.World.{World}
use Rattle.class_machine.specs.declared.meaning.Basic.{Basic}
use Rattle.class_machine.specs.Answers as answers
use Rattle.class_machine.specs.Answers.{answer, may_hold}
use Rattle.machine_values.specs.Things.{Things}
use Rattle.machine_values.specs.Types.{type_name}
use Rattle.machine_values.specs.Standing.{held}
use Rattle.machine_values.specs.declared.values.Ref.{Ref}
use Rattle.machine_values.specs.declared.values.Value.{Value}
use Rattle.machine_requests.specs.Arrays.{Holds}
use Rattle.machine_requests.specs.Telling.{AreDistinct, AreFit}
use Rattle.machine_fields.specs.Settings.{world_setting}
use Rattle.machine_values.specs.declared.frames.Frame.{Frame}
use Rattle.machine_values.specs.declared.state.MachineState.{MachineState}
use Rattle.machine_requests.specs.declared.reply.Reply.{Reply}
use Rattle.machine_requests.specs.declared.reply.Reply.TheVariants.{Gives, Done, Faults, Refuses}
use Rattle.machine_requests.specs.Objects.{AreFilled}
use Rattle.machine_requests.specs.Replies.{Replies, IsLonger}
use Rattle.machine_requests.specs.Shares.{Setting, Shares, Others, others_of}
use Rattle.machine_frames.specs.declared.effect.Effect.{Effect}
use Rattle.machine_frames.specs.declared.effect.Request.{Request}
use Rattle.machine_frames.specs.Effects.{request_in}
use Rattle.machine_frames.specs.Undoing.{is_plain}
use Rattle.machine_steps.specs.Giving.{naming_of}
use Rattle.machine_steps.specs.Programs.{Machine, IsMachine}
use Rattle.machine_steps.specs.Runs.{IsMethod, IsDueFormed, IsFormed}
use Rattle.machine_invocations.specs.Keeping.{Keeps}
use Rattle.machine_basics.specs.Performed.{IsPerformed, Restores}
use Rattle.machine_basics.specs.Replied.{IsReply, is_fault}

pub longer_by_none : (a b : Things) → b.names ≡ a.names → IsLonger a b
longer_by_none a b e = ([], e ∙ sym (append-nil a.names))

-- ---- results

pub if_err : {A E : Type 0} (P Q : Type 0) (r : Result A E) → (P → Q) → OnErr r P → OnErr r Q
if_err P Q (Ok x) each h = tt
if_err P Q (Err e) each h = each h

pub both_ok : {A E : Type 0} (P Q : A → Type 0) (r : Result A E) → IfOk r P → IfOk r Q → IfOk r (λ x. P x × Q x)
both_ok P Q (Ok x) p q = (p, q)
both_ok P Q (Err e) p q = tt

pub both_err : {A E : Type 0} (P Q : Type 0) (r : Result A E) → OnErr r P → OnErr r Q → OnErr r (P × Q)
both_err P Q (Ok x) p q = tt
both_err P Q (Err e) p q = (p, q)

pub ok_under : {A E : Type 0} (S : Type 0) (P : A → Type 0) (r : Result A E) → (S → IfOk r P) → IfOk r (λ x. S → P x)
ok_under S P (Ok x) h = h
ok_under S P (Err e) h = tt

-- ---- what is known where the state stands for the machine's

pub distinct_of : (k : Known) (m : Machine) → IsMachine k m → AreDistinct m.setting.heads
distinct_of k m is = subst AreDistinct (sym is.heads) is.distinct

pub fit_of : (k : Known) (m : Machine) → IsMachine k m → (things : Things) (others : Others) (w : World) → Shares m.setting things others w → AreFit (length k.heads) things.names
fit_of k m is things others w shares = subst (λ (heads : List ClassHead). AreFit (length heads) things.names) is.heads shares.fit

-- what an array may hold
pub holds_here : (k : Known) (m : Machine) → IsMachine k m → (things : Things) (array : Option Ref) (v : Value) (fits : Bool) → Holds things array v fits (world_setting k) → Holds things array v fits m.setting
holds_here k m is things array v fits holds = record {
  may = λ at type here there.
      ap (λ (cs : Classes). may_hold cs (type_name type) (held m.setting.heads things.names v)) is.classes
      ∙ ap (λ (heads : List ClassHead). may_hold (world_setting k).classes (type_name type) (held heads things.names v)) is.heads
      ∙ holds.may at type here there;
}

-- nothing changed
pub keeps_same : (k : Known) (old new : MachineState) → new ≡ old → Keeps k old new
keeps_same k old new same = record {
  frames = ap (λ (s : MachineState). s.frames.items) same;
  due = ap (λ (s : MachineState). s.due) same;
  statics = ap (λ (s : MachineState). s.statics) same;
  begun = ap (λ (s : MachineState). s.begun) same;
  names = longer_by_none old.heap new.heap (ap (λ (s : MachineState). s.heap.names) same);
  shares = λ m w is shares. subst (λ (s : MachineState). Shares m.setting s.heap (others_of s) w) (sym same) shares;
  filled = λ m w is shares filled. subst (λ (s : MachineState). AreFilled s.heap m.setting) (sym same) filled;
}

pub formed_keeps : (k : Known) (old new : MachineState) → Keeps k old new → IsFormed k old → IsFormed k new
formed_keeps k old new keeps formed = record {
  statics = ap length keeps.statics ∙ formed.statics;
  begun = ap length keeps.begun ∙ formed.begun;
  frames = subst (AllByRecursion (λ (f : Frame). IsMethod k f.method.0)) (sym keeps.frames) formed.frames;
  due = subst (IsDueFormed k) (sym keeps.due) formed.due;
}

module _ (k : Known) (old : MachineState) (request : Request) (new : MachineState) where
  pub formed_replied : (reply : Reply) → IsReply k old request new reply → IsFormed k old → IsFormed k new
  formed_replied reply is formed = subst (IsFormed k) (sym is.same) (record { statics = formed.statics; begun = formed.begun; frames = formed.frames; due = formed.due })

  -- where an exception is answered, the world is as it was
  fault_shares : (s : Setting) (things : Things) (others : Others) (w : World) (reply : Reply) (r : answers.Reply) → is_fault reply ≡ true → Replies s things others w reply r → Shares s things others w
  fault_shares s things others w (Faults f) (answers.Faults g) e h = h.1
  fault_shares s things others w (Faults f) (answers.Gives v u) e h = absurd h
  fault_shares s things others w (Faults f) (answers.Done u) e h = absurd h
  fault_shares s things others w (Faults f) answers.Refuses e h = absurd h
  fault_shares s things others w (Gives v) r e h = absurd cc
  fault_shares s things others w Done r e h = absurd cc
  fault_shares s things others w Refuses r e h = absurd cc

  pub keeps_fault : (reply : Reply) → IsReply k old request new reply → is_fault reply ≡ true → Keeps k old new
  keeps_fault reply is fault = record {
    frames = ap (λ (s : MachineState). s.frames.items) is.same;
    due = ap (λ (s : MachineState). s.due) is.same;
    statics = ap (λ (s : MachineState). s.statics) is.same;
    begun = ap (λ (s : MachineState). s.begun) is.same;
    names = is.names;
    shares = λ m w machine shares. fault_shares m.setting new.heap (others_of new) w reply (answer m.setting.classes w (request_in (naming_of m old) request)) fault (is.replies m w machine shares);
    filled = is.filled;
  }

pub formed_reply : {E : Type 0} (k : Known) (old : MachineState) (request : Request) (new : MachineState) (r : Result Reply E) → IfOk r (λ reply. IsReply k old request new reply) → OnErr r (Keeps k old new) → IsFormed k old → IsFormed k new
formed_reply k old request new (Ok reply) is keeps formed = formed_replied k old request new reply is formed
formed_reply k old request new (Err e) is keeps formed = formed_keeps k old new keeps formed

-- the frame got back what was taken
pub keeps_restored : (k : Known) (old mid left new : MachineState) (basic : Basic) (e : Effect) → IsPerformed old mid basic e → Keeps k mid left → Restores left e new → is_plain e ≡ false → Keeps k old new
keeps_restored k old mid left new basic e performed keeps restores fails =
    let heap : mid.heap ≡ old.heap = ap (λ (s : MachineState). s.heap) performed.turned.same in
    record {
      frames = restores.frames performed.rest performed.before performed.after (keeps.frames ∙ performed.turned.after) performed.undone fails ∙ sym performed.turned.before;
      due = ap (λ (s : MachineState). s.due) restores.same ∙ keeps.due ∙ ap (λ (s : MachineState). s.due) performed.turned.same;
      statics = ap (λ (s : MachineState). s.statics) restores.same ∙ keeps.statics ∙ ap (λ (s : MachineState). s.statics) performed.turned.same;
      begun = ap (λ (s : MachineState). s.begun) restores.same ∙ keeps.begun ∙ ap (λ (s : MachineState). s.begun) performed.turned.same;
      names = subst (λ (h : Things). IsLonger h new.heap) heap (subst (λ (h : Things). IsLonger mid.heap h) (sym (ap (λ (s : MachineState). s.heap) restores.same)) keeps.names);
      shares = λ m w is shares. subst (λ (s : MachineState). Shares m.setting s.heap (others_of s) w) (sym restores.same)
          (keeps.shares m w is (subst (λ (s : MachineState). Shares m.setting s.heap (others_of s) w) (sym performed.turned.same) shares));
      filled = λ m w is shares filled. subst (λ (s : MachineState). AreFilled s.heap m.setting) (sym restores.same)
          (keeps.filled m w is (subst (λ (s : MachineState). Shares m.setting s.heap (others_of s) w) (sym performed.turned.same) shares)
          (subst (λ (s : MachineState). AreFilled s.heap m.setting) (sym performed.turned.same) filled));
    }
