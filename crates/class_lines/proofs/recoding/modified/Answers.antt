use Rattle.std.proofs.Common.{sym, rules}
use Rattle.class_lines.proofs.CodeLists.{recoded_more}
use Rattle.class_lines.proofs.recoding.modified.Goals as goal

pub loop-rest-preserved : goal.loop-rest-preserved
loop-rest-preserved c =
    recoded_more c.args.line.now c.loop-rest.rest.now c.loop-rest.out.items c.in-Some.behind.now c.put_code.new.out.items c.in-Some.code c.loop-rest.invariant (search rules) (sym c.in-Some.ensures.exact) c.in-Some.ensures.shorter c.in_ok-put_code-in-Some.ensures
