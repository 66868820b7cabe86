-- What a function returned is what a definition says is read.
use Rattle.std.specs.Prelude.{◌≡◌, ◌≢◌, Result, Ok, Err}
use Rattle.class_format.specs.declared.fault.ClassFault.{ClassFault}
use Rattle.class_format.specs.declared.fault.ClassFault.TheVariants.{Memory}

-- what is read is this fault, unless memory ran out
abbrev pub Fails : {Y : Type 0} → ClassFault → Result Y ClassFault → Type 0
Fails fault read = fault ≢ Memory → read ≡ Err fault

-- what a function returned, seen by view, is what is read, unless memory ran out
abbrev pub GivesBy : {X Y : Type 0} → (X → Y) → Result X ClassFault → Result Y ClassFault → Type 0
GivesBy view (Ok x) read = read ≡ Ok (view x)
GivesBy view (Err e) read = Fails e read

-- the result is what is read, unless memory ran out
abbrev pub Gives : {X : Type 0} → Result X ClassFault → Result X ClassFault → Type 0
Gives result read = GivesBy (λ x. x) result read
