-- What the values of this crate stand for.
use Rattle.std.specs.Prelude.{ℕ, List, [], ◌∷◌, map, drop, Option, Some, None}
use Rattle.std.specs.List.{filter}
use Rattle.std.specs.Option.{option_copied}
use Rattle.class_file.specs.Pool.{Reference}
use Rattle.class_machine.specs.Turn as turns
use Rattle.class_machine.specs.ClassFiles.{Place, MethodCode, place_in, covers, handler_at}
use Rattle.machine_code.specs.declared.method_code.MethodCode as lent
use Rattle.machine_code.specs.declared.method_code.MethodEntry.{MethodEntry}
use Rattle.machine_code.specs.declared.handlers.Handler.{Handler}

abbrev pub code_seen : lent.MethodCode → MethodCode
code_seen m = record { pool = m.pool.now; code = m.code.now }

-- in the code of a method
abbrev pub entry_seen : Reference → MethodEntry → turns.Entry Place
entry_seen method e = record { start = place_in method 0; room = e.room; locals = e.locals }

abbrev pub handler_seen : Reference → Handler → turns.Handler Place
handler_seen method h = record { catch = option_copied h.catch; place = place_in method h.pc }

-- the entries that cover the place, from entry number `from` on
abbrev pub handlers_from : Reference → ℕ → MethodCode → ℕ → List (turns.Handler Place)
handlers_from method pc m from = map (handler_at method m.pool) (filter (covers pc) (drop from m.code.entries))

-- the first of those that cover the place, and then those behind it
abbrev pub first_and_rest : Reference → ℕ → MethodCode → Option Handler → List (turns.Handler Place)
first_and_rest method pc m None = []
first_and_rest method pc m (Some h) = handler_seen method h ∷ handlers_from method pc m h.next
