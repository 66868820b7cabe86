use Rattle.code_layout.proofs.Positions.{one_length, length_short}
use Rattle.code_layout.proofs.layout.lay_out.Goals as goal

pub returns-clause-one : goal.returns-clause-one
returns-clause-one c = one_length c.args.blocks.now

pub returns-clause-short : goal.returns-clause-short
returns-clause-short c = length_short c.args.blocks.now
