-- The frame that takes an exception goes on with it.
use Rattle.std.specs.Prelude.{◌≡◌, ℕ, zero, suc, ◌<◌, List, [], ◌∷◌, ◌++◌, reverse, take, drop, length, slice_get, slice_set, Some, refl}
use Rattle.std.proofs.Common.{get_or, sym, ◌∙◌, ap, subst, arith}
use Rattle.std.proofs.lemmas.Option.{get_or_from_slice_get}
use Rattle.class_world.specs.Tables.{Known}
use Rattle.class_machine.specs.Machine as machines
use Rattle.class_machine.specs.Machine.{State}
use Rattle.class_machine.specs.ClassFiles.{Place}
use Rattle.machine_values.specs.declared.values.Ref.{Ref}
use Rattle.machine_values.specs.declared.values.Value.TheVariants as values
use Rattle.machine_values.specs.declared.names.Name.{Name}
use Rattle.machine_values.specs.declared.frames.Frame.{Frame}
use Rattle.machine_values.specs.declared.state.MachineState.{MachineState}
use Rattle.machine_values.specs.Standing.{held, name_of}
use Rattle.machine_steps.specs.declared.step.Step.{Step}
use Rattle.machine_steps.specs.Programs.{Machine}
use Rattle.machine_steps.specs.Runs.{Runs, Stepped}
use Rattle.machine_steps.specs.Moves.{moved_by, Moves, goes_on_with}
use Rattle.machine_steps.specs.Running.{seen_by, waiting, Turned}
use Rattle.machine_steps.specs.Going.{turned_runs}
use Rattle.machine_steps.specs.Giving.{with_values}
use Rattle.machine_steps.specs.Leaving.{left_by, Drops}
use Rattle.machine_steps.specs.Dropped.{dropped_runs}
use Rattle.machine_steps.specs.Unwinding.{Catches, Unwinds}
use Rattle.machine_steps.specs.Unwound.{thrown, down_to, taken_there}

take_one : {A : Type 0} (xs : List A) (i : ℕ) (x : A) → slice_get xs i ≡ Some x → take (suc i) xs ≡ take i xs ++ x ∷ []
take_one [] i x at = absurd cc
take_one (y ∷ xs) zero x at = let e : y ≡ x = cc in ap (λ z. z ∷ []) e
take_one (y ∷ xs) (suc i) x at = ap (λ zs. y ∷ zs) (take_one xs i x at)

set_one : {A : Type 0} (xs : List A) (i : ℕ) (x y : A) → slice_get xs i ≡ Some x → slice_set (take (suc i) xs) i y ≡ take i xs ++ y ∷ []
set_one [] i x y at = absurd cc
set_one (z ∷ xs) zero x y at = refl
set_one (z ∷ xs) (suc i) x y at = ap (λ zs. z ∷ zs) (set_one xs i x y at)

get_taken : {A : Type 0} (xs : List A) (i : ℕ) → slice_get (take (suc i) xs) i ≡ slice_get xs i
get_taken [] i = refl
get_taken (y ∷ xs) zero = refl
get_taken (y ∷ xs) (suc i) = get_taken xs i

pub caught_by : (k : Known) (old mid alone new : MachineState) (step : Step) (class index pc count : ℕ) (at : Ref) (f : Frame) → count ≡ suc index → Drops old mid count → Catches k class old.frames.items index pc
    → f ≡ get_or mid.frames.items index f → alone ≡ record mid { frames = alone.frames } → alone.frames.items ≡ slice_set mid.frames.items index (with_values f [])
    → Moves k alone new step (goes_on_with (λ m t. held m.setting.heads alone.heap.names (values.Reference at)) pc) → Unwinds k old new step class at
caught_by k old mid alone new step class index pc count at f one dropped catches read same set moves m answers t is of_class runs =
    let drops = subst (Drops old mid) one dropped in
    let names = old.heap.names in
    let items = old.frames.items in
    let low = take index items in
    let g = catches.frame in
    let w = left_by m.setting names (reverse (drop (suc index) items)) t.world in
    let x = name_of m.setting.heads names at in
    let there : slice_get mid.frames.items index ≡ Some g = ap (λ (fs : List Frame). slice_get fs index) drops.frames ∙ get_taken items index ∙ catches.there in
    let is_g : f ≡ g = read ∙ get_or_from_slice_get mid.frames.items index g f there in
    let turned : Turned mid alone low g (with_values g []) = record {
      before = drops.frames ∙ take_one items index g catches.there;
      after = set ∙ ap (λ (h : Frame). slice_set mid.frames.items index (with_values h [])) is_g ∙ ap (λ (fs : List Frame). slice_set fs index (with_values g [])) drops.frames ∙ set_one items index g (with_values g []) catches.there;
      same = same;
    } in
    let left : State Place = record { frames = waiting m names (take (suc index) items); world = w; due = t.due } in
    let runs' = turned_runs m mid alone answers left low g (with_values g []) turned (λ h. record { operands = tt; locals = h.locals; monitor = h.monitor; purpose = h.purpose }) (dropped_runs k m old mid answers t (suc index) is drops runs) in
    let heap : mid.heap.names ≡ names = ap (λ (s : MachineState). s.heap.names) drops.rest in
    let heap' : alone.heap.names ≡ names = ap (λ (s : MachineState). s.heap.names) same ∙ heap in
    let Q : List Name → Type 0 = λ all. Runs m alone answers (record left { frames = seen_by m all (with_values g []) ∷ waiting m all low }) in
    let now : State Place = record left { frames = seen_by m names (with_values g []) ∷ waiting m names low } in
    let stepped = moves m answers now (seen_by m names (with_values g [])) (waiting m names low) is (subst Q heap runs') refl in
    let R : List Name → Type 0 = λ all. Stepped m new answers step (moved_by (goes_on_with (λ m' t'. held m'.setting.heads all (values.Reference at)) pc) m now (seen_by m names (with_values g [])) (waiting m names low)) in
    subst (Stepped m new answers step)
    (taken_there k m is names class x of_class t.due g at pc w (waiting m names low) catches.handler refl ∙ sym (
    ap (thrown k m is names class x of_class t.due t.world) runs.frames.frames ∙ down_to k m is names class x of_class t.due items index g t.world catches.there catches.passed
    ))
    (subst R heap' stepped)
