use Rattle.class_text.proofs.WellFormed.{given_well_formed, given_means}
use Rattle.class_text.proofs.reading.to_class.Goals as goal

pub returns : goal.returns
returns c = record {
  exact = c.class_of_text.ensures;
  well_formed = given_well_formed c.class_of_text.result c.args.text.now c.class_of_text.ensures;
  means = given_means c.class_of_text.result c.args.text.now c.class_of_text.ensures;
}
