-- A state whose frames alone changed.
use Rattle.std.specs.Prelude.{◌≡◌, List, []}
use Rattle.std.proofs.Common.{sym, ap, ◌∙◌, subst}
use Rattle.std.proofs.lemmas.List.{append-nil}
use Rattle.class_machine.specs.ClassFiles.{Place}
use Rattle.class_machine.specs.Machine.{State}
use Rattle.machine_values.specs.declared.script.Answer.{Answer}
use Rattle.machine_values.specs.declared.state.MachineState.{MachineState}
use Rattle.machine_values.specs.Things.{Things}
use Rattle.machine_requests.specs.Objects.{AreFilled}
use Rattle.machine_requests.specs.Replies.{IsLonger}
use Rattle.machine_requests.specs.Shares.{Shares, others_of}
use Rattle.machine_steps.specs.Programs.{Machine}
use Rattle.machine_steps.specs.Runs.{Runs}

module _ (old mid : MachineState) (same : mid ≡ record old { frames = mid.frames }) where
  pub heap_is : mid.heap ≡ old.heap
  heap_is = ap (λ (s : MachineState). s.heap) same

  pub names_are : mid.heap.names ≡ old.heap.names
  names_are = ap (λ (h : Things). h.names) heap_is

  pub same_but : mid ≡ record old { frames = mid.frames; heap = mid.heap }
  same_but = same ∙ ap (λ (s : MachineState). record old { frames = mid.frames; heap = s.heap }) (sym same)

  pub no_longer : IsLonger old.heap mid.heap
  no_longer = ([], names_are ∙ sym (append-nil old.heap.names))

  module _ (m : Machine) (left : List Answer) (t : State Place) (runs : Runs m old left t) where
    pub kept_shares : Shares m.setting mid.heap (others_of mid) t.world
    kept_shares = subst (λ (s : MachineState). Shares m.setting s.heap (others_of s) t.world) (sym same) runs.shares

    pub kept_filled : AreFilled mid.heap m.setting
    kept_filled = subst (λ (s : MachineState). AreFilled s.heap m.setting) (sym same) runs.filled
