-- What `filter_map` gives of one more element.
use Rattle.std.proofs.lemmas.Grind.{common_steps}
use Rattle.std.proofs.lemmas.List.Elements.{filter_map-append}

pub ruleset filtered = (common_steps, filter_map-append)
