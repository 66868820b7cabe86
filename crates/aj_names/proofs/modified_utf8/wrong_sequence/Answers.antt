use Rattle.aj_names.proofs.Texts.{reads_more}
use Rattle.std.proofs.Common.{◌++◌, ◌∷◌, []}
use Rattle.aj_names.proofs.modified_utf8.wrong_sequence.Goals as goal

pub loop-rest-preserved : goal.loop-rest-preserved
loop-rest-preserved c =
    let before = c.loop-rest.invariant in
    let unit = c.in-Some.field-0-0 in
    record {
      units = before.units ++ unit ∷ [];
      reads = reads_more c.args.bytes.now before.units c.loop-rest.rest.now unit c.in-Some.after.now before.reads c.in-Some.ensures.0 c.in-Some.ensures.1;
    }
