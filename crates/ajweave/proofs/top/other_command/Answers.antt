use Rattle.std.proofs.Common.{refl}
use Rattle.ajweave.specs.declared.status.Status.TheVariants as status
use Rattle.ajweave.specs.Words.{texts}
use Rattle.ajweave.specs.Steps.{run_of}
use Rattle.ajweave.proofs.Running.{RunAnswered-run, RunAnswered-usage, RunAnswered-memory, memory_never_prints}
use Rattle.ajweave.proofs.top.other_command.Goals as goal

pub returns-in-Ok-Some : goal.returns-in-Ok-Some
returns-in-Ok-Some g c =
    let found = rw c.in-Ok-Some.field-0-is at c.in-Ok-Some.ensures in
    let ended = c.run_command-ended.ensures in
    let a = RunAnswered-run (texts c.args.words.now) (g.S.Shelf.held c.args.shelf.now) (run_of c.in-Ok-Some.run') c.run_command-ended.result c.report_run.result (g.O.Sink.written c.args.out.now) (g.O.Sink.written c.report_run.new.out) (g.S.Shelf.faults c.args.shelf.now) (g.S.Shelf.faults c.run_command-ended.new.shelf) (g.S.Shelf.missing c.args.shelf.now) (g.S.Shelf.missing c.run_command-ended.new.shelf) (record { says = found.0; only = found.1; ends = ended.ended; own = ended.own; read = ended.read; failed = ended.failed; missed = ended.missed; lost = ended.no_script }) c.report_run.ensures.reported in
    record {
      usage = a.usage;
      usage_only = a.usage_only;
      read_fault = a.read_fault;
      read_failed = a.read_failed;
      read_missed = a.read_missed;
      write_fault = (a.never_written, ended.writes);
      print_fault = c.report_run.ensures.failed;
      refused_only = a.refused_only;
      no_script = a.no_script;
      never_done = a.never_done;
      ran = a.ran;
      ran_exactly = a.ran_exactly;
      ran_only = a.ran_only;
      kept = ended.kept;
    }

pub returns-in-Ok-None : goal.returns-in-Ok-None
returns-in-Ok-None g c =
    let none = rw c.in-Ok-None.field-0-is at c.in-Ok-None.ensures in
    let a = RunAnswered-usage (texts c.args.words.now) (g.S.Shelf.held c.args.shelf.now) c.usage.result (g.O.Sink.written c.args.out.now) (g.O.Sink.written c.usage.new.out) (g.S.Shelf.faults c.args.shelf.now) (g.S.Shelf.missing c.args.shelf.now) none c.usage.ensures.printed in
    record {
      usage = a.usage;
      usage_only = a.usage_only;
      read_fault = a.read_fault;
      read_failed = a.read_failed;
      read_missed = a.read_missed;
      write_fault = (a.never_written, refl);
      print_fault = c.usage.ensures.failed;
      refused_only = a.refused_only;
      no_script = a.no_script;
      never_done = a.never_done;
      ran = a.ran;
      ran_exactly = a.ran_exactly;
      ran_only = a.ran_only;
      kept = refl;
    }

pub returns-in-Err : goal.returns-in-Err
returns-in-Err g c =
    let a = RunAnswered-memory (texts c.args.words.now) (g.S.Shelf.held c.args.shelf.now) status.OutOfMemory (g.O.Sink.written c.args.out.now) (g.S.Shelf.faults c.args.shelf.now) (g.S.Shelf.missing c.args.shelf.now) refl in
    record {
      usage = a.usage;
      usage_only = a.usage_only;
      read_fault = a.read_fault;
      read_failed = a.read_failed;
      read_missed = a.read_missed;
      write_fault = (a.never_written, refl);
      print_fault = memory_never_prints (g.O.Sink.faults c.args.out.now);
      refused_only = a.refused_only;
      no_script = a.no_script;
      never_done = a.never_done;
      ran = a.ran;
      ran_exactly = a.ran_exactly;
      ran_only = a.ran_only;
      kept = refl;
    }
