use Rattle.aspect_form.specs.Reading.{is_taken}
use Rattle.aspect_form.proofs.tokens.is_reserved.Goals as goal

pub returns : goal.returns
unfolding is_taken
returns c = c.is_among.ensures
