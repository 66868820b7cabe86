use Rattle.aj_names.proofs.Texts.{is_text}
use Rattle.aj_names.proofs.modified_utf8.is_utf8.Goals as goal

pub returns : goal.returns
returns c = is_text c.args.bytes.now c.wrong_sequence.result c.is_none.result c.wrong_sequence.ensures c.is_none.ensures
