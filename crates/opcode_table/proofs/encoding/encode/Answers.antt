-- What is written is decoded again.
use Rattle.std.proofs.Common.{drop, length}
use Rattle.opcode_table.specs.Spelling.{spelling}
use Rattle.opcode_table.specs.DecodedAgain.{decoded_after}
use Rattle.opcode_table.proofs.encoding.encode.Goals as goal

pub returns-clause-read_back : goal.returns-clause-read_back
returns-clause-read_back c front =
    rw (c.put_insn.ensures.written, c.put_insn.ensures.size)
    (decoded_after front c.args.insn.now (drop (length (spelling c.args.insn.now)) c.args.out.now) c.requires.valid c.requires.single)
