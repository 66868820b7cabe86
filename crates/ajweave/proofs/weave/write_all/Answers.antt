use Rattle.std.proofs.Common.{◌<◌, length, ◌∙◌, arith}
use Rattle.aj_outside.specs.CountLaws.{stood_still}
use Rattle.ajweave.proofs.Writing.{PutsSomeTold-at, OnStop-always, held_after-more}
use Rattle.ajweave.proofs.weave.write_all.Goals as goal

pub returns-in_err-write_file-clause-some : goal.returns-in_err-write_file-clause-some
returns-in_err-write_file-clause-some g c =
    let within : c.loop-file.file-index < length c.args.files.now = omega arith in
    OnStop-always c.from_residual.result _ (PutsSomeTold-at c.args.files.now c.loop-file.file-index c.file-item.result (g.S.Shelf.held c.args.shelf.now) (g.S.Shelf.held c.loop-file.shelf) (g.S.Shelf.held c.write_file.new.shelf) within c.file-item.is c.loop-file.invariant.held c.in_err-write_file.ensures.refused)

pub loop-file-preserved : goal.loop-file-preserved
loop-file-preserved g c =
    let within : c.loop-file.file-index < length c.args.files.now = omega arith in
    record {
      held = held_after-more c.args.files.now c.loop-file.file-index c.file-item.result (g.S.Shelf.held c.args.shelf.now) (g.S.Shelf.held c.loop-file.shelf) (g.S.Shelf.held c.write_file.new.shelf) within c.file-item.is c.loop-file.invariant.held c.in_ok-write_file.ensures.written;
      write_faults = stood_still _ _ _ c.in_ok-write_file.ensures.failed (λ h. cc) ∙ c.loop-file.invariant.write_faults;
      faults = c.in_ok-write_file.ensures.reads.0 ∙ c.loop-file.invariant.faults;
      missing = c.in_ok-write_file.ensures.reads.1 ∙ c.loop-file.invariant.missing;
    }
