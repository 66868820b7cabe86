use Rattle.std.proofs.Common.{sym, ◌∙◌, ap, arith}
use Rattle.std.specs.Prelude.{is_some}
use Rattle.machine_rules.proofs.Finished.{made_appended, made_misused, restored, text_stays}
use Rattle.machine_rules.proofs.Filling.{made_and_set}
use Rattle.machine_rules.proofs.finishing.make_and_append.Goals as goal

pub append-requires-clause-text : goal.append-requires-clause-text
append-requires-clause-text c =
    ap is_some (text_stays c.args.heap.now c.make_string.new.heap c.args.buffer.0 c.in_ok-make_string.ensures.grown c.requires.buffer (omega (arith, c.count-count.ensures.count, c.count-count.ensures.contents, c.requires.buffer)))
    ∙ sym c.has_text.ensures ∙ c.if-not-has_text.false

pub returns-then-not-has_text-clause-work : goal.returns-then-not-has_text-clause-work
returns-then-not-has_text-clause-work c =
    made_misused c.args.world.now c.args.heap.now c.args.buffer c.args.units.now c.requires.library (sym c.has_text.ensures ∙ c.if-not-has_text.true) c.requires.buffer

pub returns-in-Ok-clause-work : goal.returns-in-Ok-clause-work
returns-in-Ok-clause-work c =
    made_appended c.args.world.now c.args.heap.now c.args.buffer c.args.units.now c.make_string.new.heap c.append.new.heap c.in_ok-make_string.field-0 c.in_ok-make_string.ensures.made c.make_string.ensures.names
    (ap is_some (text_stays c.args.heap.now c.make_string.new.heap c.args.buffer.0 c.in_ok-make_string.ensures.grown c.requires.buffer (omega (arith, c.count-count.ensures.count, c.count-count.ensures.contents, c.requires.buffer)))
    ∙ sym c.has_text.ensures ∙ c.if-not-has_text.false)
    c.in-Ok.ensures.ok c.append.ensures.names c.requires.buffer

pub returns-in-Err-clause-err : goal.returns-in-Err-clause-err
returns-in-Err-clause-err c =
    restored c.args.heap.now c.make_string.new.heap c.append.new.heap c.truncate.new.self c.count-count.result c.in_ok-make_string.ensures.grown c.in-Err.ensures.err c.count-count.ensures.count c.count-count.ensures.contents c.truncate.ensures.names c.truncate.ensures.contents

pub returns-in-Ok-clause-filled : goal.returns-in-Ok-clause-filled
returns-in-Ok-clause-filled c =
    made_and_set c.args.world.now c.args.heap.now c.make_string.new.heap c.append.new.heap c.in_ok-make_string.ensures.filled c.in-Ok.ensures.filled
