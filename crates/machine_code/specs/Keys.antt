-- The keys of the instruction at a place.
use Rattle.std.specs.Prelude.{ℕ, List, [], Ok, Err, ℤ}
use Rattle.opcode_table.specs.declared.insn.Insn.{Insn}
use Rattle.opcode_table.specs.declared.insn.Insn.TheVariants.{TableSwitch, LookupSwitch}
use Rattle.opcode_table.specs.Decoding.{Decoded, decoded}
use Rattle.class_machine.specs.ClassFiles.{MethodCode, table_keys, pair_keys}

abbrev pub insn_keys : List ℕ → Insn → List ℤ
insn_keys code (TableSwitch table) = table_keys code table
insn_keys code (LookupSwitch table) = pair_keys code table
insn_keys code _ = []

abbrev pub decoded_keys : List ℕ → Decoded → List ℤ
decoded_keys code (Ok d) = insn_keys code d.0
decoded_keys code (Err fault) = []

-- none where no switch stands at the place
abbrev pub keys_at : MethodCode → ℕ → List ℤ
keys_at m pc = decoded_keys m.code.code (decoded m.code.code pc)
