use Rattle.std.proofs.Common.{inl, inr}
use Rattle.ajweave.specs.Words.{texts, command_of}
use Rattle.ajweave.proofs.Answering.{command_never_observed, command_never_unscripted}
use Rattle.ajweave.proofs.Answered.{Answered-command, Answered-other, read_fault, write_fault, fault_comes, never_written}
use Rattle.ajweave.proofs.Running.{RunAnswered, weaving_says_no_run}
use Rattle.ajweave.proofs.top.weaver_main.Goals as goal

pub returns-in-None : goal.returns-in-None
returns-in-None g c =
    let e = c.other_command.ensures in
    let r : RunAnswered (texts c.args.words.now) (g.S.Shelf.held c.args.shelf.now) c.other_command.result (g.O.Sink.written c.args.out.now) (g.O.Sink.written c.other_command.new.out) (g.S.Shelf.faults c.args.shelf.now) (g.S.Shelf.faults c.other_command.new.shelf) (g.S.Shelf.missing c.args.shelf.now) (g.S.Shelf.missing c.other_command.new.shelf) =
    record {
      usage = e.usage;
      usage_only = e.usage_only;
      read_fault = e.read_fault;
      read_failed = e.read_failed;
      read_missed = e.read_missed;
      never_written = e.write_fault.0;
      refused_only = e.refused_only;
      no_script = e.no_script;
      never_done = e.never_done;
      ran = e.ran;
      ran_exactly = e.ran_exactly;
      ran_only = e.ran_only;
    } in
    let a = Answered-other (texts c.args.words.now) (command_of (texts c.args.words.now)) (g.S.Shelf.held c.args.shelf.now) (g.S.Shelf.held c.other_command.new.shelf) c.other_command.result (g.O.Sink.written c.args.out.now) (g.O.Sink.written c.other_command.new.out) (g.S.Shelf.faults c.args.shelf.now) (g.S.Shelf.faults c.other_command.new.shelf) (g.S.Shelf.missing c.args.shelf.now) (g.S.Shelf.missing c.other_command.new.shelf) c.in-None.ensures.read r e.kept in
    record {
      headline = a.headline;
      behaves = a.behaves;
      written = a.written;
      untouched = a.untouched;
      declared = a.declared;
      usage = λ none. a.usage none.no_weaving none.no_run;
      usage_only = λ d. record { no_weaving = (a.usage_only d).0; no_run = (a.usage_only d).1 };
      read_fault = e.read_fault;
      read_failed = e.read_failed;
      read_missed = e.read_missed;
      write_fault = never_written c.other_command.result (g.S.Shelf.write_faults c.args.shelf.now) (g.S.Shelf.write_faults c.other_command.new.shelf) e.write_fault.0 e.write_fault.1;
      print_fault = fault_comes _ _ _ e.print_fault c.requires.can_print;
      refused = a.refused;
      refused_only = a.refused_only;
      no_script = e.no_script;
      complete = a.complete;
      done_only = a.done_only;
      ran = e.ran;
      ran_exactly = e.ran_exactly;
      ran_only = e.ran_only;
      shelf_kept = a.shelf_kept;
      written_some = a.written_some;
      without_memory = a.without_memory;
      printed = a.printed;
    }

pub returns-in-Some : goal.returns-in-Some
returns-in-Some g c =
    let words = texts c.args.words.now in
    let held = g.S.Shelf.held c.args.shelf.now in
    let before = g.O.Sink.written c.args.out.now in
    let now = g.O.Sink.written c.report.new.out in
    let ended = c.weave-ended.result in
    let result = c.report.result in
    let reported = c.report.ensures.reported in
    let no_run = weaving_says_no_run words (record { input = c.in-Some.command.input.now; output = c.in-Some.command.output.now }) c.in-Some.ensures.read in
    let read = read_fault ended result before now _ reported c.weave-ended.ensures.read in
    let a = Answered-command words (command_of words) (record { input = c.in-Some.command.input.now; output = c.in-Some.command.output.now }) held (g.S.Shelf.held c.weave-ended.new.shelf) ended result before now c.in-Some.ensures.read reported c.weave-ended.ensures.ended c.weave-ended.ensures.own in
    record {
      headline = a.headline;
      behaves = a.behaves;
      written = a.written;
      untouched = a.untouched;
      declared = a.declared;
      usage = λ none. a.usage none.no_weaving none.no_run;
      usage_only = λ d. record { no_weaving = (a.usage_only d).0; no_run = (a.usage_only d).1 };
      read_fault = read.0;
      read_failed = λ rose. read.1 (inl rose);
      read_missed = λ untold rose. inl (read.1 (inr (untold, rose)));
      write_fault = write_fault ended result before now (g.S.Shelf.write_faults c.args.shelf.now) (g.S.Shelf.write_faults c.weave-ended.new.shelf) reported c.weave-ended.ensures.failed c.requires.can_write;
      print_fault = fault_comes _ _ _ c.report.ensures.failed c.requires.can_print;
      refused = a.refused;
      refused_only = a.refused_only;
      no_script = λ name d. absurd (command_never_unscripted name ended result before now reported c.weave-ended.ensures.own d);
      complete = a.complete;
      done_only = a.done_only;
      ran = λ run says. absurd (no_run run says);
      ran_exactly = λ run says. absurd (no_run run says);
      ran_only = λ i. absurd (command_never_observed ended result before now reported i);
      shelf_kept = a.shelf_kept;
      written_some = a.written_some;
      without_memory = a.without_memory;
      printed = a.printed;
    }
