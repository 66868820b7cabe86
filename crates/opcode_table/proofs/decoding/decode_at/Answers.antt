-- What is decoded stands there.
use Rattle.opcode_table.specs.DecodedStands.{answer_stands}
use Rattle.opcode_table.proofs.decoding.decode_at.Goals as goal

pub returns-clause-stands : goal.returns-clause-stands
returns-clause-stands c = answer_stands c.args.code.now c.args.pc c.decoded.result (λ i. (c.type_inv.code i).fits) c.decoded.ensures
