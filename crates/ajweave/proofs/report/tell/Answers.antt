use Rattle.ajweave.proofs.Telling.{tells}
use Rattle.ajweave.proofs.report.tell.Goals as goal

pub returns-in-Ok-clause-printed : goal.returns-in-Ok-clause-printed
returns-in-Ok-clause-printed g c =
    tells c.args.seen.now c.answer_of_ending.result c.as_slice.result.now c.in-Ok.text.items c.as_slice-in-Ok.result.now c.printed.result (g.O.Sink.written c.args.out.now) (g.O.Sink.written c.printed.new.out) c.as_slice.ensures.value c.in-Ok.ensures c.as_slice-in-Ok.ensures.value c.answer_of_ending.ensures c.printed.ensures.printed
