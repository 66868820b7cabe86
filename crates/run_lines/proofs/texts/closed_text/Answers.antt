use Rattle.std.proofs.Common.{sym, subst}
use Rattle.run_lines.proofs.Closing.{IsAlong, along_begins, along_more, along_closes, along_only, along_fails}
use Rattle.run_lines.proofs.texts.closed_text.Goals as goal

pub loop-behind-init : goal.loop-behind-init
loop-behind-init c = subst (IsAlong c.args.text.now c.args.text.now) (sym c.new-bytes.ensures.items) (along_begins c.args.text.now)

pub returns-in-Some : goal.returns-in-Some
returns-in-Some c =
    let start = c.args.text.now in let now = c.loop-behind.rest.now in let behind = c.in-Some.behind.now in let out = c.loop-behind.bytes.items in
    (along_closes start now behind out c.loop-behind.invariant c.in-Some.ensures.0, along_only start now behind out c.loop-behind.invariant c.in-Some.ensures.0)

pub returns-in_default-escaped_byte : goal.returns-in_default-escaped_byte
returns-in_default-escaped_byte c = along_fails c.args.text.now c.loop-behind.rest.now c.loop-behind.bytes.items c.loop-behind.invariant c.in_default.ensures c.in_default-escaped_byte.ensures.exact

pub loop-behind-preserved : goal.loop-behind-preserved
loop-behind-preserved c =
    along_more c.args.text.now c.loop-behind.rest.now c.in-Some-escaped_byte.behind.now c.loop-behind.bytes.items c.push.new.self.items c.in-Some-escaped_byte.byte
    c.loop-behind.invariant c.in_default.ensures c.in-Some-escaped_byte.ensures.exact.0 c.in-Some-escaped_byte.ensures.exact.1 c.in_ok-push.ensures.items
