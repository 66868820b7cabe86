-- Calls that wait for a text.
use Rattle.std.specs.Prelude.{ℕ, List, [], ◌++◌, codes, Option, Some, None}
use Rattle.class_machine.specs.Classes.{reference}
use Rattle.class_machine.specs.LibraryCalls as calls
use Rattle.machine_values.specs.declared.frames.Wait.{Wait}
use Rattle.machine_values.specs.declared.names.Name.{Name}
use Rattle.machine_values.specs.States.{machine_wait}
use Rattle.machine_requests.specs.Shares.{Setting}

-- a wait, by the names of its objects
abbrev pub wait_of : Setting → List Name → Wait → calls.Wait
wait_of s names wait = machine_wait s.heads (λ n. reference [] [] []) names wait

-- what a description has behind the class
abbrev pub behind_class : Option (List ℕ) → List ℕ
behind_class None = []
behind_class (Some message) = codes ": " ++ message
