use Rattle.class_listing.proofs.ComesBack.{given_back}
use Rattle.class_listing.proofs.listing.to_text.Goals as goal

pub returns-clause-back : goal.returns-clause-back
returns-clause-back c = given_back c.class_text.result (λ x. x.items) c.args.class.now c.class_text.ensures
