-- What an invocation of a method of an object comes to.
use Rattle.std.specs.Prelude.{◌≡◌, ℕ, ◌+◌, Bool, List, [], ◌∷◌, ◌++◌, reverse, length, slice_get, Some, Result, Ok, Err, OnErr, IsOk, refl}
use Rattle.std.specs.List.{AllByRecursion}
use Rattle.std.proofs.Common.{sym, ap, subst}
use Rattle.aj_names.specs.declared.ids.ClassId.{ClassId}
use Rattle.aj_names.specs.declared.ids.MethodId.{MethodId}
use Rattle.class_file.specs.Pool.{Reference}
use Rattle.class_world.specs.Tables.{Known}
use Rattle.class_machine.specs.declared.kinds.Kind.{Kind}
use Rattle.class_machine.specs.declared.kinds.Mode.{Mode}
use Rattle.class_machine.specs.Operations.{Invoke}
use Rattle.machine_values.specs.declared.frames.Frame.{Frame}
use Rattle.machine_values.specs.declared.state.MachineState.{MachineState}
use Rattle.machine_values.specs.declared.values.Value.{Value}
use Rattle.machine_frames.specs.declared.calls.Receiver.{Receiver}
use Rattle.machine_frames.specs.declared.calls.Receiver.TheVariants.{Announced}
use Rattle.machine_frames.specs.Calls.{kinds_for}
use Rattle.machine_frames.specs.Undoing.{receiver_value}
use Rattle.machine_steps.specs.declared.step.Step.{Step}
use Rattle.machine_steps.specs.Executing.{executes}
use Rattle.machine_steps.specs.Giving.{with_values}
use Rattle.machine_steps.specs.Moves.{Moves}
use Rattle.machine_steps.specs.Parts.{is_special}
use Rattle.machine_steps.specs.Running.{all_last}
use Rattle.machine_steps.specs.Runs.{IsMethod, IsFormed}
use Rattle.machine_invocations.specs.Keeping.{Keeps}
use Rattle.machine_invocations.proofs.Begun.{keeps_same}
use Rattle.machine_invokes.specs.declared.callees.Callee.{Callee}
use Rattle.machine_invokes.specs.declared.invocation.Prepared.{Prepared}
use Rattle.machine_invokes.specs.declared.invocation.Prepared.TheVariants.{Done, Runs as IsToRun}
use Rattle.machine_invokes.specs.Building.{BuildsBy}
use Rattle.machine_invokes.specs.Callees.{CalleeIs, Builds}
use Rattle.machine_invokes.specs.Preparing.{ReadiesOn, calls_on}
use Rattle.machine_invokes.specs.Taking.{Takes, TakesOn, PutsBack}
use Rattle.machine_invokes.specs.Undoing.{UndoneBy}
use Rattle.machine_invokes.proofs.Restored.{keeps_back, formed_back}
use Rattle.machine_invokes.proofs.StaticCalls.{puts_there}
use Rattle.machine_invokes.proofs.Taken.{same_last}
use Rattle.machine_invokes.proofs.Tokens.{token_ended, token_prepares}

pub on_err_more : {X E P Q : Type 0} (r : Result X E) → (P → Q) → OnErr r P → OnErr r Q
on_err_more (Ok x) f p = tt
on_err_more (Err e) f p = f p

pub either_way : {X E P Q : Type 0} (r : Result X E) → (IsOk r → Q) → (P → Q) → OnErr r P → Q
either_way (Ok x) f g p = f refl
either_way (Err e) f g p = g p

-- ---- the frame that a call was taken from

module _ (old mid : MachineState) (vs : List Value) (takes : Takes old mid vs) (top : ℕ) (f : Frame) (last : top + 1 ≡ length mid.frames.items) (there : slice_get mid.frames.items top ≡ Some f) where
  abbrev now : Frame
  now = with_values takes.before takes.left

  pub is_taken_frame : f ≡ now
  is_taken_frame = same_last mid.frames.items takes.rest top f now last there takes.turned.after

  pub taken_method : (k : Known) → IsFormed k mid → IsMethod k f.method.0
  taken_method k formed =
      let P : Frame → Type 0 = λ g. IsMethod k g.method.0 in
      subst P (sym is_taken_frame) (all_last P takes.rest now (subst (AllByRecursion P) takes.turned.after formed.frames))

  pub callee_there : (k : Known) (special : Bool) (r : Reference) (receiver : Receiver) (given : List Value) (callee other : Callee) → other ≡ callee → CalleeIs k f mid.heap.names special r receiver given other
      → CalleeIs k now mid.heap.names special r receiver given callee
  callee_there k special r receiver given callee other same is =
      subst (CalleeIs k now mid.heap.names special r receiver given) same (subst (λ (g : Frame). CalleeIs k g mid.heap.names special r receiver given other) is_taken_frame is)

-- ---- put back

module _ (k : Known) (old mid final : MachineState) (vs us : List Value) (takes : Takes old mid vs) (top : ℕ) (last : top + 1 ≡ length mid.frames.items) (same : us ≡ vs) (puts : PutsBack top us mid final) where
  there_puts : PutsBack (length takes.rest) vs mid final
  there_puts = puts_there old mid vs takes top us mid final last same puts

  pub back_keeps : Keeps k old final
  back_keeps = keeps_back k old mid mid final vs takes (length takes.rest) refl there_puts (keeps_same k mid mid refl refl)

  pub back_formed : IsFormed k old → IsFormed k mid → IsFormed k final
  back_formed were are = formed_back k old mid mid final vs takes (length takes.rest) refl there_puts [] takes.turned.after were are

-- ---- a token

module _ (k : Known) (old mid new : MachineState) (special : Bool) (r : Reference) (kinds : List Kind) (given : List Value) (same : kinds_for r ≡ kinds) (method : MethodId) (class : ClassId) (number : ℕ) (is_method : IsMethod k method.0) where
  -- where the token is what the call is on
  by_token : (takes : TakesOn kinds old (Announced class number) given mid) → Builds k (with_values takes.takes.before takes.takes.left) mid.heap.names special r (Announced class number) given method.0 class number
      → (prepared : Prepared) → BuildsBy k method class number given mid new prepared → ReadiesOn k old new special r prepared
  by_token takes builds (Done step) by mode on =
      let now = with_values takes.takes.before takes.takes.left in
      let frame = by.fills.frames takes.takes.rest now takes.takes.turned.after in
      subst (λ (s : Step). Moves k old new s (executes (Invoke mode r))) (sym by.ended)
      (token_ended k old mid new special r kinds class number given same takes by.at by.operands by.locals by.fills by.made method.0 is_method builds new (by.room takes.takes.rest frame.after frame.are) mode on)
  by_token takes builds (IsToRun call) by mode on =
      let now = with_values takes.takes.before takes.takes.left in
      let frame = by.fills.frames takes.takes.rest now takes.takes.turned.after in (
        token_prepares k old mid new special r kinds class number given same takes by.at by.operands by.locals by.fills by.made method.0 is_method builds call (by.room takes.takes.rest frame.after frame.are)
            (ap (λ (m : MethodId). m.0) by.method_is) by.receiver_is by.arguments_are by.purpose_is mode on,
        record {
          undone = subst (UndoneBy old new call) (sym by.before_is)
              (record {
                mid = mid;
                takes = subst (λ (vs : List Value). Takes old mid (reverse vs ++ receiver_value (Announced class number) ∷ [])) (sym by.arguments_are) takes.takes;
                at = by.at;
                receiver = by.receiver_is;
                fills = by.fills;
              });
        },
      )

  pub token_readies : (receiver : Receiver) (takes : TakesOn kinds old receiver given mid) → Builds k (with_values takes.takes.before takes.takes.left) mid.heap.names special r receiver given method.0 class number
      → (prepared : Prepared) → BuildsBy k method class number given mid new prepared → ReadiesOn k old new special r prepared
  token_readies receiver takes builds =
      let P : Receiver → Type 0 = λ x. (t : TakesOn kinds old x given mid) → Builds k (with_values t.takes.before t.takes.left) mid.heap.names special r x given method.0 class number
      → (prepared : Prepared) → BuildsBy k method class number given mid new prepared → ReadiesOn k old new special r prepared in
      subst P (sym builds.receiver_is) by_token takes builds

-- ---- all modes

pub others_on : (mode : Mode) (special : Bool) → (mode ≡ Mode.Static → ⊥) → special ≡ is_special mode → calls_on mode ≡ Some special
others_on Mode.Static special other is = absurd (other refl)
others_on Mode.Special special other is = ap Some (sym is)
others_on Mode.Virtual special other is = ap Some (sym is)
others_on Mode.Interface special other is = ap Some (sym is)
