use Rattle.std.proofs.Common.{sym, rules}
use Rattle.class_lines.proofs.PieceLists.{written_more}
use Rattle.class_lines.proofs.quotes.unescaped.Goals as goal

pub loop-rest-preserved : goal.loop-rest-preserved
loop-rest-preserved c =
    written_more c.args.written.now c.loop-rest.rest.now c.loop-rest.out.items c.in-Some.behind.now c.put_piece.new.out.items c.in-Some.found c.loop-rest.invariant (search rules) (sym c.in-Some.ensures.exact) c.in-Some.ensures.shorter c.in_ok-put_piece-in-Some.ensures
