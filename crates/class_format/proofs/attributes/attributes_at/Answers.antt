use Rattle.std.proofs.Common.{[]}
use Rattle.std.specs.List.{cons_option}
use Rattle.std.proofs.lemmas.Result.{err_from_is_err_and}
use Rattle.class_file.specs.Pool.{text_at}
use Rattle.class_format.specs.Kinds.{kinds_in, position_in}
use Rattle.class_format.specs.PartReading.{attribute, attributes, with_name}
use Rattle.class_format.proofs.Loop.{turn_list_begins, turns_go_on, turns_end, turns_done}
use Rattle.class_format.proofs.attributes.attributes_at.Goals as goal

pub loop-init : goal.loop-init
unfolding attributes
loop-init c = (
  [],
  (
    c.none-seen.ensures,
    rw c.new-attributes.ensures (turn_list_begins (attribute (kinds_in c.args.place) c.args.known.now.major c.args.known.now.pool.now (position_in c.args.place)) (with_name c.args.known.now.pool.now) [] c.args.bytes.now c.in_ok-count.ensures),
  ),
)

pub returns-in_err-attribute : goal.returns-in_err-attribute
returns-in_err-attribute c =
    let p = err_from_is_err_and c.from_residual-in_err-attribute.result c.from_residual-in_err-attribute.ensures.1 in
    rw (p.1, p.2) (turns_end c.in_err-attribute.field-0.0 c.loop.invariant.1.1 c.loop-test.true (c.in_err-attribute.ensures c.loop.invariant.0 c.loop.invariant.1.0))

pub loop-preserved : goal.loop-preserved
loop-preserved c = (
  cons_option (text_at c.args.known.now.pool.now c.in_ok-attribute.attribute.name) c.loop.invariant.0,
  (
    c.seen_with-seen.ensures c.loop.invariant.0 c.loop.invariant.1.0,
    rw c.in_ok-push.ensures.ok (turns_go_on c.in_ok-attribute.attribute c.in_ok-attribute.after.now c.loop.invariant.1.1 c.loop-test.true (c.in_ok-attribute.ensures c.loop.invariant.0 c.loop.invariant.1.0)),
  ),
)

pub returns : goal.returns
returns c = turns_done c.loop.invariant.1.1 c.loop-test.false
