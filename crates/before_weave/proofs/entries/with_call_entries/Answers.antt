use Rattle.std.proofs.Common.{ap, ◌∙◌}
use Rattle.class_file.specs.declared.pool.PoolEntry.TheVariants as entry
use Rattle.before_weave.proofs.Appended.{pushed}
use Rattle.before_weave.proofs.entries.with_call_entries.Goals as goal

pub returns : goal.returns
returns c =
    pushed c.args.aspect.now c.args.pool c.push.new.self c.push-2.new.self c.push-3.new.self c.push-4.new.self c.push-5.new.self c.push-6.new.self c.len.result
    c.in_ok-utf8.field-0 c.in_ok-utf8-2.field-0 c.in_ok-utf8-3.field-0 c.len.ensures
    (c.in_ok-utf8.ensures ∙ ap entry.Utf8 c.as_slice.ensures) c.in_ok-push.ensures.ok c.in_ok-push-2.ensures.ok
    c.in_ok-utf8-2.ensures c.in_ok-push-3.ensures.ok c.in_ok-utf8-3.ensures c.in_ok-push-4.ensures.ok c.in_ok-push-5.ensures.ok c.in_ok-push-6.ensures.ok
