use Rattle.std.specs.Prelude.{codes}
use Rattle.std.proofs.lemmas.Str.Pattern.{ends_text}
use Rattle.ajweave.proofs.input.is_class_file.Goals as goal

pub returns : goal.returns
returns c = ends_text c.ends_with.result (codes ".class") c.args.name.now c.ends_with.ensures.cases
