use Rattle.std.proofs.Common.{◌≡◌, take}
use Rattle.std.specs.Prelude.{Ok}
use Rattle.std.specs.List.{AllZip}
use Rattle.class_file.specs.declared.types.ExceptionEntry.{ExceptionEntry}
use Rattle.code_layout.specs.Numbers.{entry_by}
use Rattle.code_layout.proofs.tables.entries.Given as goal

abbrev pub invariant-loop-row : goal.invariant-loop-row
invariant-loop-row l = AllZip (λ (e : ExceptionEntry) found. entry_by l.numbers l.count e ≡ Ok found) (take l.row-index l.rows) l.all.items
