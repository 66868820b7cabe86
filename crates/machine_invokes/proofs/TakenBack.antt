-- The state is as it was before an invocation.
use Rattle.std.specs.Prelude.{◌≡◌, ℕ, suc, Bool, List, [], length, Option, Some, None}
use Rattle.std.proofs.Common.{sym, ◌∙◌, ap, subst}
use Rattle.std.proofs.lemmas.List.{append-nil}
use Rattle.machine_values.specs.declared.state.MachineState.{MachineState}
use Rattle.machine_values.specs.Things.{Things}
use Rattle.machine_invocations.specs.Keeping.{IsSame}
use Rattle.machine_invokes.specs.declared.invocation.Before.{Before}
use Rattle.machine_invokes.specs.declared.invocation.Before.TheVariants.{Arguments, Receiver, Token}
use Rattle.machine_invokes.specs.declared.invocation.Invocation.{Invocation}
use Rattle.machine_invokes.specs.Undoing.{AreSaved, CanUndo, RestoresFrame, TakesBack, UndoneBy}

-- but for its frames, which are those before it, the state is the one after the invocation
module _ (before after state : MachineState) (same : state ≡ record after { frames = state.frames }) (items : state.frames.items ≡ before.frames.items) where
  as_before : (final : MachineState) → after ≡ record before { frames = after.frames } → final ≡ state → IsSame before final
  as_before final is back =
      subst (λ (s : MachineState). IsSame before s) (sym back)
      (record { rest = same ∙ ap (λ (s : MachineState). record s { frames = state.frames }) is; frames = items })

  -- whatever the marks and the heap were after it
  with_both : (b : List Bool) (h : Things) → after ≡ record before { frames = after.frames; begun = b; heap = h } → (begun : List Bool) (heap : Things) → begun ≡ before.begun → heap ≡ before.heap → IsSame before (record state { begun = begun; heap = heap })
  with_both b h is begun heap marks things = record {
    rest =
        ap (λ (s : MachineState). record s { begun = begun; heap = heap }) (same ∙ ap (λ (s : MachineState). record s { frames = state.frames }) is)
        ∙ ap (λ (bs : List Bool). record before { frames = state.frames; begun = bs; heap = heap }) marks
        ∙ ap (λ (t : Things). record before { frames = state.frames; heap = t }) things;
    frames = items;
  }

  arguments_back : (saved : Option (List Bool)) (mid final : MachineState) → mid ≡ record before { frames = mid.frames } → AreSaved mid after saved → TakesBack state final (Arguments saved) → IsSame before final
  arguments_back None mid final taken marked back =
      as_before final (marked ∙ taken ∙ ap (λ (s : MachineState). record before { frames = s.frames }) (sym marked)) back
  arguments_back (Some begun) mid final taken marked back =
      let is : after ≡ record before { frames = after.frames; begun = after.begun } = marked.1 ∙ ap (λ (s : MachineState). record s { frames = after.frames; begun = after.begun }) taken in
      subst (λ (s : MachineState). IsSame before s) (sym back)
      (with_both after.begun before.heap is begun state.heap (marked.0 ∙ ap (λ (s : MachineState). s.begun) taken) (ap (λ (s : MachineState). s.heap) (same ∙ ap (λ (s : MachineState). record s { frames = state.frames }) is)))

  undone_by : (call : Invocation) (kind : Before) (final : MachineState) → UndoneBy before after call kind → TakesBack state final kind → IsSame before final
  undone_by call (Arguments saved) final took back = arguments_back saved took.mid final took.takes.turned.same took.marked back
  undone_by call (Token class number operands locals) final took back =
      let added = took.fills.added in
      let taken = took.takes.turned.same in
      let is : after ≡ record before { frames = after.frames; heap = after.heap } = took.fills.same ∙ ap (λ (s : MachineState). record s { frames = after.frames; heap = after.heap }) taken in
      let there : state.heap ≡ after.heap = ap (λ (s : MachineState). s.heap) same in
      let forgotten : final.heap ≡ took.mid.heap = back.1 took.mid.heap added.name added.content (ap (λ (t : Things). t.names) there ∙ added.names) (ap (λ (t : Things). t.contents) there ∙ added.contents) in
      subst (λ (s : MachineState). IsSame before s) (sym back.0)
      (with_both before.begun after.heap is state.begun final.heap (ap (λ (s : MachineState). s.begun) (same ∙ ap (λ (s : MachineState). record s { frames = state.frames }) is)) (forgotten ∙ ap (λ (s : MachineState). s.heap) taken))
  undone_by call Receiver final takes back = as_before final takes.turned.same back

pub undone : (before after old state final : MachineState) (call : Invocation) (top : ℕ) → CanUndo before after call → IsSame after old → length after.frames.items ≡ suc top → RestoresFrame top call old state → TakesBack state final call.before → IsSame before final
undone before after old state final call top can same len restores back =
    let is : state ≡ record after { frames = state.frames } = restores.same ∙ ap (λ (s : MachineState). record s { frames = state.frames }) same.rest in
    let items : state.frames.items ≡ before.frames.items =
    restores.frames before after [] can (same.frames ∙ sym (append-nil after.frames.items)) len ∙ append-nil before.frames.items in
    undone_by before after state is items call call.before final can.undone back
