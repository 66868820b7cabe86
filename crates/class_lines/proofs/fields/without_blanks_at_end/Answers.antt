use Rattle.std.proofs.Common.{◌∙◌, sym}
use Rattle.std.proofs.lemmas.Bool.{not-true, not-false}
use Rattle.class_lines.specs.Fields.{is_blank}
use Rattle.class_lines.proofs.Trimmed.{trimmed_less, trimmed_whole}
use Rattle.class_lines.proofs.fields.without_blanks_at_end.Goals as goal

pub returns-then-is_inside : goal.returns-then-is_inside
returns-then-is_inside c = sym (trimmed_whole c.loop-last.front.now c.in-Some.before.now c.in-Some.last.now c.in-Some.ensures.cases.0 (not-true (is_blank c.in-Some.last.now) (sym c.is_inside.ensures ∙ c.if-is_inside.true))) ∙ c.loop-last.invariant

pub loop-last-preserved : goal.loop-last-preserved
loop-last-preserved c = trimmed_less c.loop-last.front.now c.in-Some.before.now c.in-Some.last.now c.in-Some.ensures.cases.0 (not-false (is_blank c.in-Some.last.now) (sym c.is_inside.ensures ∙ c.if-is_inside.false)) ∙ c.loop-last.invariant
