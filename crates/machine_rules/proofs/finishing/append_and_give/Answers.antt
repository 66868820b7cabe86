use Rattle.std.proofs.Common.{sym, ◌∙◌}
use Rattle.machine_rules.proofs.Finished.{appended_done, append_misused}
use Rattle.machine_rules.proofs.finishing.append_and_give.Goals as goal

pub returns-then-not-has_text-clause-work : goal.returns-then-not-has_text-clause-work
returns-then-not-has_text-clause-work c k = append_misused k c.args.heap.now c.args.buffer c.args.units.now (sym c.has_text.ensures ∙ c.if-not-has_text.true) c.requires

pub returns-clause-work : goal.returns-clause-work
returns-clause-work c k =
    appended_done k c.args.heap.now c.args.buffer c.args.units.now c.append.new.heap (sym c.has_text.ensures ∙ c.if-not-has_text.false) c.in_ok-append.ensures.ok c.append.ensures.names c.requires
