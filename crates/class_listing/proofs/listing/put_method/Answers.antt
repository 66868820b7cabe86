use Rattle.std.specs.Option.{option_copied}
use Rattle.class_listing.proofs.Lists.{on_ok, method_put}
use Rattle.class_listing.proofs.listing.put_method.Goals as goal

pub returns : goal.returns
returns c =
    on_ok c.put_method_attributes.result c.put_method_attributes.ensures (λ e.
    method_put c.args.pool.now c.args.member.now c.in_ok-head.head (option_copied c.code_of.result) c.method_line.result c.as_slice-attributes.result.now
    c.args.listing.now c.push.new.self c.put_method_attributes.new.listing
    c.in_ok-head.ensures c.as_slice-attributes.ensures c.code_of.ensures c.method_line.ensures c.in_ok-push.ensures.ok e)
