-- What it is that a form is read exactly: what is found is of the form and nothing else is, and none is found only where
-- nothing is.
use Rattle.std.specs.Prelude.{◌≡◌, Option, Some, None, Result, Ok, Err}
use Rattle.run_lines.specs.declared.fault.WordFault.{WordFault}
use Rattle.run_lines.specs.declared.fault.WordFault.TheVariants as faults

-- nothing is of the form
abbrev pub IsOfNothing : {Y : Type 0} → (Y → Type 0) → Type 0
IsOfNothing {Y} R = (y : Y) → ¬ (R y)

-- each value of the form is this one
abbrev pub IsOfNoOther : {Y : Type 0} → (Y → Type 0) → Y → Type 0
IsOfNoOther {Y} R x = (y : Y) → R y → y ≡ x

-- view reads what is found as a value of the form
abbrev pub Finds : {X Y : Type 0} → (X → Y) → (Y → Type 0) → Option X → Type 0
Finds view R None = IsOfNothing R
Finds view R (Some x) = R (view x) × IsOfNoOther R (view x)

-- not of the form; nothing is known where memory ran out
abbrev pub Refuses : {Y : Type 0} → (Y → Type 0) → WordFault → Type 0
Refuses R faults.Form = IsOfNothing R
Refuses R faults.Memory = Unit {0}

-- what is read is of the form R, and no other value of the narrower form is
abbrev pub ReadsAs : {X Y : Type 0} → (X → Y) → (Y → Type 0) → (Y → Type 0) → Result X WordFault → Type 0
ReadsAs view R Narrower (Ok x) = R (view x) × IsOfNoOther Narrower (view x)
ReadsAs view R Narrower (Err fault) = Refuses Narrower fault

abbrev pub Reads : {X Y : Type 0} → (X → Y) → (Y → Type 0) → Result X WordFault → Type 0
Reads view R result = ReadsAs view R R result
