use Rattle.std.specs.Prelude.{ℤ, length, IfOk, refl}
use Rattle.std.specs.Int.{w32}
use Rattle.std.proofs.lemmas.Int.{to_z-of_z}
use Rattle.machine_frames.specs.declared.effect.Request.TheVariants.{MakeArray, ArrayLoad, ArrayStore}
use Rattle.std.proofs.Common.{rules, sym, ◌∙◌, ap, subst}
use Rattle.std.proofs.lemmas.Bool.{and_parts}
use Rattle.machine_values.specs.Standing.{is_settled}
use Rattle.machine_values.specs.States.{is_known_object}
use Rattle.machine_requests.specs.declared.reply.Reply.{Reply}
use Rattle.machine_frames.specs.declared.effect.Request.{Request}
use Rattle.machine_frames.specs.Effects.{is_request_within}
use Rattle.machine_invocations.proofs.Begun.{on_err}
use Rattle.machine_basics.specs.Replied.{IsReply}
use Rattle.machine_basics.specs.Sparing.{AsksForMemory}
use Rattle.machine_basics.proofs.Kept.{if_err, keeps_same, formed_replied, formed_reply}
use Rattle.machine_basics.proofs.Restored.{if_ok}
use Rattle.machine_basics.proofs.replies.reply_to.Goals as goal

pub load-requires : goal.load-requires
load-requires c = sym (ap (is_request_within (length c.args.state.now.heap.names)) c.in-ArrayLoad.is) ∙ c.requires.known

pub count-requires : goal.count-requires
count-requires c = sym (ap (is_request_within (length c.args.state.now.heap.names)) c.in-ArrayLength.is) ∙ c.requires.known

pub enter-requires : goal.enter-requires
enter-requires c = sym (ap (is_request_within (length c.args.state.now.heap.names)) c.in-EnterMonitor.is) ∙ c.requires.known

pub leave-requires : goal.leave-requires
leave-requires c = sym (ap (is_request_within (length c.args.state.now.heap.names)) c.in-LeaveMonitor.is) ∙ c.requires.known

pub store-requires-clause-known : goal.store-requires-clause-known
store-requires-clause-known c =
    let n = length c.args.state.now.heap.names in
    (and_parts (is_known_object n c.in-ArrayStore.array) (is_settled n c.in-ArrayStore.value) (sym (ap (is_request_within n) c.in-ArrayStore.is) ∙ c.requires.known)).0

pub store-requires-clause-settled : goal.store-requires-clause-settled
store-requires-clause-settled c =
    let n = length c.args.state.now.heap.names in
    (and_parts (is_known_object n c.in-ArrayStore.array) (is_settled n c.in-ArrayStore.value) (sym (ap (is_request_within n) c.in-ArrayStore.is) ∙ c.requires.known)).1

-- ---- what is answered

pub returns-in-MakeArray-clause-replied : goal.returns-in-MakeArray-clause-replied
returns-in-MakeArray-clause-replied c = subst (λ (r : Request). IfOk c.make.result (λ (reply : Reply). IsReply c.args.world.now c.args.state.now r c.make.new.state reply)) (sym c.in-MakeArray.is)
    (subst (λ (i : ℤ). IfOk c.make.result (λ (reply : Reply). IsReply c.args.world.now c.args.state.now (MakeArray c.in-MakeArray.element i) c.make.new.state reply)) (to_z-of_z w32 c.in-MakeArray.size (search rules)) c.make.ensures.made)

pub returns-in-ArrayLoad-clause-replied : goal.returns-in-ArrayLoad-clause-replied
returns-in-ArrayLoad-clause-replied c = subst (λ (r : Request). IsReply c.args.world.now c.args.state.now r c.args.state.now c.load.result) (sym c.in-ArrayLoad.is)
    (subst (λ (i : ℤ). IsReply c.args.world.now c.args.state.now (ArrayLoad c.in-ArrayLoad.element c.in-ArrayLoad.array i) c.args.state.now c.load.result) (to_z-of_z w32 c.in-ArrayLoad.index (search rules)) (c.load.ensures c.args.world.now))

pub returns-in-ArrayStore-clause-replied : goal.returns-in-ArrayStore-clause-replied
returns-in-ArrayStore-clause-replied c = subst (λ (r : Request). IsReply c.args.world.now c.args.state.now r c.store.new.state c.store.result) (sym c.in-ArrayStore.is)
    (subst (λ (i : ℤ). IsReply c.args.world.now c.args.state.now (ArrayStore c.in-ArrayStore.element c.in-ArrayStore.array i c.in-ArrayStore.value) c.store.new.state c.store.result) (to_z-of_z w32 c.in-ArrayStore.index (search rules)) c.store.ensures)

pub returns-in-ArrayLength-clause-replied : goal.returns-in-ArrayLength-clause-replied
returns-in-ArrayLength-clause-replied c = subst (λ (r : Request). IsReply c.args.world.now c.args.state.now r c.args.state.now c.count.result) (sym c.in-ArrayLength.is) (c.count.ensures c.args.world.now)

pub returns-in-EnterMonitor-clause-replied : goal.returns-in-EnterMonitor-clause-replied
returns-in-EnterMonitor-clause-replied c =
    subst (λ (r : Request). IfOk c.enter.result (λ (reply : Reply). IsReply c.args.world.now c.args.state.now r c.enter.new.state reply)) (sym c.in-EnterMonitor.is) (if_ok _ _ c.enter.result (λ reply is. is c.args.world.now) c.enter.ensures.entered)

pub returns-in-LeaveMonitor-clause-replied : goal.returns-in-LeaveMonitor-clause-replied
returns-in-LeaveMonitor-clause-replied c = subst (λ (r : Request). IsReply c.args.world.now c.args.state.now r c.leave.new.state c.leave.result) (sym c.in-LeaveMonitor.is) (c.leave.ensures c.args.world.now)

-- ---- where there is no memory

pub returns-in-MakeArray-clause-err : goal.returns-in-MakeArray-clause-err
returns-in-MakeArray-clause-err c = if_err _ _ c.make.result (keeps_same c.args.world.now c.args.state.now c.make.new.state) c.make.ensures.err

pub returns-in-EnterMonitor-clause-err : goal.returns-in-EnterMonitor-clause-err
returns-in-EnterMonitor-clause-err c = if_err _ _ c.enter.result (λ keeps. keeps c.args.world.now) c.enter.ensures.err

pub returns-in-MakeArray-clause-spared : goal.returns-in-MakeArray-clause-spared
returns-in-MakeArray-clause-spared c = on_err c.make.result (subst (λ (r : Request). AsksForMemory c.args.world.now c.args.state.now r) (sym c.in-MakeArray.is) (λ m w is shares. refl))

pub returns-in-EnterMonitor-clause-spared : goal.returns-in-EnterMonitor-clause-spared
returns-in-EnterMonitor-clause-spared c = on_err c.enter.result (subst (λ (r : Request). AsksForMemory c.args.world.now c.args.state.now r) (sym c.in-EnterMonitor.is) (λ m w is shares. refl))

-- ---- the tables

pub returns-in-MakeArray-clause-formed : goal.returns-in-MakeArray-clause-formed
returns-in-MakeArray-clause-formed c = formed_reply c.args.world.now c.args.state.now _ c.make.new.state c.make.result c.make.ensures.made (if_err _ _ c.make.result (keeps_same c.args.world.now c.args.state.now c.make.new.state) c.make.ensures.err) c.requires.formed

pub returns-in-ArrayStore-clause-formed : goal.returns-in-ArrayStore-clause-formed
returns-in-ArrayStore-clause-formed c = formed_replied c.args.world.now c.args.state.now _ c.store.new.state c.store.result c.store.ensures c.requires.formed

pub returns-in-EnterMonitor-clause-formed : goal.returns-in-EnterMonitor-clause-formed
returns-in-EnterMonitor-clause-formed c =
    formed_reply c.args.world.now c.args.state.now _ c.enter.new.state c.enter.result (if_ok _ _ c.enter.result (λ reply is. is c.args.world.now) c.enter.ensures.entered) (if_err _ _ c.enter.result (λ keeps. keeps c.args.world.now) c.enter.ensures.err) c.requires.formed

pub returns-in-LeaveMonitor-clause-formed : goal.returns-in-LeaveMonitor-clause-formed
returns-in-LeaveMonitor-clause-formed c = formed_replied c.args.world.now c.args.state.now _ c.leave.new.state c.leave.result (c.leave.ensures c.args.world.now) c.requires.formed
