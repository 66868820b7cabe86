use Rattle.std.proofs.Common.{◌++◌, sym}
use Rattle.class_lines.specs.Utf8.{utf8_of}
use Rattle.class_lines.proofs.Decoded.{pair_more, byte_more, at_end}
use Rattle.class_lines.proofs.utf8.put_utf8.Goals as goal

pub loop-rest-preserved-in-Some : goal.loop-rest-preserved-in-Some
loop-rest-preserved-in-Some c =
    pair_more (c.args.out.now.items ++ utf8_of c.args.bytes.now) c.loop-rest.out.items c.loop-rest.rest.now c.extend_from_slice.new.self.items c.four_bytes-character.result c.in-Some.high c.in-Some.low c.in-Some.behind.now (sym c.in-Some.ensures.split) c.four_bytes-character.ensures c.in_ok-extend_from_slice-in-Some.ensures.items c.loop-rest.invariant

pub loop-rest-preserved : goal.loop-rest-preserved
loop-rest-preserved c =
    byte_more (c.args.out.now.items ++ utf8_of c.args.bytes.now) c.loop-rest.out.items c.loop-rest.rest.now c.push.new.self.items c.in-len1-up.len_at_least (sym c.in-None.ensures.split) c.in_ok-push-in-None.ensures.items c.loop-rest.invariant

pub returns : goal.returns
returns c = at_end (c.args.out.now.items ++ utf8_of c.args.bytes.now) c.loop-rest.out.items c.loop-rest.rest.now c.in_default.len_below c.loop-rest.invariant
