use Rattle.std.proofs.Common.{ap, ◌∙◌}
use Rattle.class_file.specs.declared.pool.PoolEntry.TheVariants as entry
use Rattle.before_weave.proofs.Appended.{aspect_pool_is}
use Rattle.before_weave.proofs.advice.aspect_pool.Goals as goal

pub returns : goal.returns
returns c =
    aspect_pool_is c.args.aspect.now _ c.in_ok-utf8.field-0 c.in_ok-utf8-2.field-0 c.in_ok-utf8-3.field-0 c.in_ok-utf8-4.field-0 c.in_ok-utf8-5.field-0 c.in_ok-utf8-6.field-0
    c.in_ok-utf8-7.field-0 c.in_ok-utf8-8.field-0 c.in_ok-utf8-9.field-0 c.in_ok-utf8-10.field-0 c.in_ok-utf8-11.field-0 c.in_ok-utf8-12.field-0
    c.in_ok-pool.ensures.items (c.in_ok-utf8.ensures ∙ ap entry.Utf8 c.as_slice.ensures) c.in_ok-utf8-2.ensures c.in_ok-utf8-3.ensures c.in_ok-utf8-4.ensures c.in_ok-utf8-5.ensures c.in_ok-utf8-6.ensures
    c.in_ok-utf8-7.ensures c.in_ok-utf8-8.ensures (c.in_ok-utf8-9.ensures ∙ ap entry.Utf8 c.as_slice-2.ensures) c.in_ok-utf8-10.ensures c.in_ok-utf8-11.ensures c.in_ok-utf8-12.ensures
