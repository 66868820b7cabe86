use Rattle.std.proofs.Common.{◌≤◌, List, Ok, Err, ℕ, length, subst, arith}
use Rattle.run_lines.specs.declared.fault.ScriptFault.TheVariants as faults
use Rattle.run_lines.specs.ScriptLines.{ReadsScript}
use Rattle.ajweave.proofs.Scripts.{lines_taken, line_refused}
use Rattle.ajweave.proofs.script.script_in.Goals as goal

pub returns-in-Ok-clause-taken : goal.returns-in-Ok-clause-taken
returns-in-Ok-clause-taken c =
    let few : length c.args.file.bytes.items ≤ 16777216 = omega arith in
    lines_taken c.args.file.name c.args.file.bytes.items c.in-Ok.script few
    (subst (λ (bytes : List ℕ). ReadsScript bytes (Ok c.in-Ok.script)) c.as_slice.ensures.value c.in-Ok.ensures)

pub returns-in-Err-Line-clause-stopped : goal.returns-in-Err-Line-clause-stopped
returns-in-Err-Line-clause-stopped c =
    let few : length c.args.file.bytes.items ≤ 16777216 = omega arith in
    line_refused c.args.file.name c.args.file.bytes.items c.in-Err-Line.line few
    (subst (λ (bytes : List ℕ). ReadsScript bytes (Err (faults.Line c.in-Err-Line.line))) c.as_slice.ensures.value (rw c.in-Err-Line.field-0-is at c.in-Err-Line.ensures))
