use Rattle.std.proofs.Common.{◌≡◌, arith, sym}
use Rattle.std.specs.Prelude.{Ok}
use Rattle.class_file.specs.declared.types.ExceptionEntry.{ExceptionEntry}
use Rattle.code_layout.specs.Numbers.{entry_by}
use Rattle.code_layout.proofs.Zips.{zip_more}
use Rattle.code_layout.proofs.Faults.{first_stray_at}
use Rattle.code_layout.proofs.tables.entries.Goals as goal

pub loop-row-preserved : goal.loop-row-preserved
loop-row-preserved c =
    zip_more (λ (e : ExceptionEntry) found. entry_by c.args.numbers.now c.args.count e ≡ Ok found) c.args.rows.now _ _ c.loop-row.row-index _ _ (omega arith) c.loop-row.invariant (sym c.in-Ok.ensures) c.in_ok-push-in-Ok.ensures.items

pub returns-in-Err-clause-fault : goal.returns-in-Err-clause-fault
returns-in-Err-clause-fault c = first_stray_at c.args.numbers.now c.args.count c.args.rows.now c.loop-row.all.items c.loop-row.row-index _ _ (omega arith) c.loop-row.invariant (sym c.in-Err.ensures)
