-- A state as it was, once what was taken is put back.
use Rattle.std.specs.Prelude.{◌≡◌, List, Result, Ok, Err, IfOk, OnErr}
use Rattle.std.proofs.Common.{ap, ◌∙◌}
use Rattle.machine_frames.specs.Naming.{Naming}
use Rattle.class_machine.specs.Effect as definition
use Rattle.machine_values.specs.declared.state.MachineState.{MachineState}
use Rattle.machine_values.specs.declared.values.Value.{Value}
use Rattle.machine_values.specs.Things.{Things}
use Rattle.machine_objects.specs.Taking.{RoomForm, IsTakenFrom, Takes}

pub back_to : (form : RoomForm) (request : Naming → definition.Request) (vs : List Value) (old mid r : MachineState) → Takes form request vs old mid
    → ((before : MachineState) → IsTakenFrom vs before mid → r ≡ record mid { frames = before.frames }) → r ≡ old
back_to form request vs old mid r takes put = put old takes.from ∙ ap (λ (s : MachineState). record s { frames = old.frames }) takes.same

pub if_err : {T E P Q : Type 0} (r : Result T E) → (P → Q) → OnErr r P → OnErr r Q
if_err (Ok x) f h = tt
if_err (Err e) f h = f h

pub on_err : {T E P : Type 0} (r : Result T E) → P → OnErr r P
on_err (Ok x) p = tt
on_err (Err e) p = p

pub if_ok : {T E : Type 0} (r : Result T E) (P Q : T → Type 0) → ((x : T) → P x → Q x) → IfOk r P → IfOk r Q
if_ok (Ok x) P Q f h = f x h
if_ok (Err e) P Q f h = tt

-- where the heap is the same after all
pub none_written : (form : RoomForm) (request : Naming → definition.Request) (vs : List Value) (old mid : MachineState) (heap : Things) (r : MachineState) → Takes form request vs old mid → heap ≡ mid.heap
    → ((before : MachineState) → IsTakenFrom vs before (record mid { heap = heap }) → r ≡ record mid { heap = heap; frames = before.frames }) → r ≡ old
none_written form request vs old mid heap r takes same put =
    put old (record { frame = takes.from.frame; left = takes.from.left; some = takes.from.some; there = takes.from.there; set = takes.from.set; taken = takes.from.taken; within = takes.from.within })
    ∙ ap (λ (h : Things). record mid { heap = h; frames = old.frames }) same ∙ ap (λ (s : MachineState). record s { frames = old.frames }) takes.same
