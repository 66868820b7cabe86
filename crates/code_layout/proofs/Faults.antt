-- Faults handed on.
use Rattle.std.proofs.Common.{◌≡◌, ℕ, ◌+◌, ◌<◌, List, length, take, drop, get_or, add-one}
use Rattle.std.specs.Prelude.{Option, Some, None, Result, Ok, Err}
use Rattle.std.specs.List.{AllZip, Any}
use Rattle.opcode_table.specs.declared.fault.CodeFault.{CodeFault}
use Rattle.class_file.specs.declared.types.ExceptionEntry.{ExceptionEntry}
use Rattle.code_layout.specs.declared.fault.TakeApartFault.{TakeApartFault}
use Rattle.code_layout.specs.declared.fault.TakeApartFault.TheVariants as faults
use Rattle.code_layout.specs.declared.method_code.Jump.{Jump}
use Rattle.code_layout.specs.declared.method_code.CodeEntry.{CodeEntry}
use Rattle.code_layout.specs.declared.walk.Step.{Step}
use Rattle.code_layout.specs.Numbers.{FaultIs, IsJump, LeadsAstray, FirstAstray, FirstStray, entry_by, or_target, and_then, start_by, bound_by}
use Rattle.code_layout.proofs.Zips.{split_at}

-- it names a place
abbrev IsTargetFault : TakeApartFault → Type 0
IsTargetFault (faults.Target pc) = Unit {0}
IsTargetFault _ = ⊥

pub first_astray_at : (code : List ℕ) (numbers : List (Option ℕ)) (steps : List Step) (jumps : List (Jump ℕ)) (i : ℕ) (d : Step) (fault : TakeApartFault) → i < length steps → AllZip (IsJump code numbers) (take i steps) jumps
    → FaultIs (λ _. ⊥) (λ place. (place ≡ (get_or steps i d).pc) × LeadsAstray code numbers (get_or steps i d)) fault → FaultIs (λ _. ⊥) (FirstAstray code numbers steps) fault
first_astray_at code numbers steps jumps i d (faults.Code fault) lt all is = is
first_astray_at code numbers steps jumps i d (faults.Target pc) lt all is = record {
  before = take i steps;
  step = get_or steps i d;
  behind = drop (i + 1) steps;
  all = rw add-one (split_at steps i d lt);
  jumps = jumps;
  well = all;
  astray = is.1;
  place = is.0;
}
first_astray_at code numbers steps jumps i d faults.Memory lt all is = tt

-- an entry is refused for a place that it names
chain_target : {X : Type 0} (o : Option ℕ) (place : ℕ) (next : ℕ → Result X TakeApartFault) (fault : TakeApartFault) → ((n : ℕ) → next n ≡ Err fault → IsTargetFault fault) → and_then (or_target o place) next ≡ Err fault → IsTargetFault fault
chain_target (Some n) place next fault rest is = rest n is
chain_target None place next (faults.Target pc) rest is = tt
chain_target None place next (faults.Code f) rest is = cc
chain_target None place next faults.Memory rest is = cc

target_fault : (numbers : List (Option ℕ)) (count : ℕ) (e : ExceptionEntry) (fault : TakeApartFault) → entry_by numbers count e ≡ Err fault → IsTargetFault fault
target_fault numbers count e fault is =
    chain_target (start_by numbers e.start) e.start _ fault
    (λ start is'. chain_target (bound_by numbers count e.end) e.end _ fault
    (λ end is''. chain_target (start_by numbers e.handler) e.handler _ fault (λ handler never. cc) is'') is') is

stray_of : (numbers : List (Option ℕ)) (count : ℕ) (entries : List ExceptionEntry) (found : List CodeEntry) (i : ℕ) (d : ExceptionEntry) (fault : TakeApartFault) → i < length entries
    → AllZip (λ (e : ExceptionEntry) x. entry_by numbers count e ≡ Ok x) (take i entries) found → entry_by numbers count (get_or entries i d) ≡ Err fault → IsTargetFault fault → FaultIs (λ _. ⊥) (FirstStray numbers count entries) fault
stray_of numbers count entries found i d (faults.Target pc) lt all is named = record {
  before = take i entries;
  entry = get_or entries i d;
  behind = drop (i + 1) entries;
  all = rw add-one (split_at entries i d lt);
  found = found;
  well = all;
  stray = is;
}
stray_of numbers count entries found i d (faults.Code f) lt all is named = absurd named
stray_of numbers count entries found i d faults.Memory lt all is named = tt

pub first_stray_at : (numbers : List (Option ℕ)) (count : ℕ) (entries : List ExceptionEntry) (found : List CodeEntry) (i : ℕ) (d : ExceptionEntry) (fault : TakeApartFault) → i < length entries
    → AllZip (λ (e : ExceptionEntry) x. entry_by numbers count e ≡ Ok x) (take i entries) found → entry_by numbers count (get_or entries i d) ≡ Err fault → FaultIs (λ _. ⊥) (FirstStray numbers count entries) fault
first_stray_at numbers count entries found i d fault lt all is = stray_of numbers count entries found i d fault lt all is (target_fault numbers count (get_or entries i d) fault is)
