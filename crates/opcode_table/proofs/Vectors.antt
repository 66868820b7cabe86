-- Instructions that are decoded by the definition alone.
use Rattle.std.proofs.Common.{◌≡◌, true, [], ◌∷◌, Ok, Err, refl}
use Rattle.std.specs.Prelude.{negsuc, codes}
use Rattle.opcode_table.specs.declared.insn.Insn.TheVariants as Insn
use Rattle.opcode_table.specs.declared.fault.CodeFault.TheVariants.{Opcode, Cut, Wide, Switch}
use Rattle.opcode_table.specs.Table.{opcode, mnemonic_of}
use Rattle.opcode_table.specs.Decoding.{decoded}

iconst_1 : decoded (4 ∷ []) 0 ≡ Ok (Insn.Plain 4, 1)
unfolding decoded opcode
iconst_1 = refl

iconst_1_name : mnemonic_of 4 ≡ codes "iconst_1"
unfolding opcode
iconst_1_name = refl

unused : decoded (186 ∷ []) 0 ≡ Err (Opcode 0 186)
unfolding decoded opcode
unused = refl

sipush_cut : decoded (17 ∷ 0 ∷ []) 0 ≡ Err (Cut 0)
unfolding decoded opcode
sipush_cut = refl

goto_back : decoded (0 ∷ 167 ∷ 255 ∷ 253 ∷ []) 1 ≡ Ok (Insn.Branch 167 (negsuc 2), 3)
unfolding decoded opcode
goto_back = refl

iinc_wide : decoded (196 ∷ 132 ∷ 1 ∷ 0 ∷ 255 ∷ 255 ∷ []) 0 ≡ Ok (Insn.Iinc 256 (negsuc 0) true, 6)
unfolding decoded opcode
iinc_wide = refl

wide_alone : decoded (196 ∷ 4 ∷ []) 0 ≡ Err (Wide 0)
unfolding decoded opcode
wide_alone = refl

-- from 1 to 0
switch_wrong : decoded (0 ∷ 0 ∷ 0 ∷ 170 ∷ 0 ∷ 0 ∷ 0 ∷ 0 ∷ 0 ∷ 0 ∷ 0 ∷ 1 ∷ 0 ∷ 0 ∷ 0 ∷ 0 ∷ []) 3 ≡ Err (Switch 3)
unfolding decoded opcode
switch_wrong = refl

-- one pair, with one byte of padding
switch_by_key : decoded (0 ∷ 0 ∷ 171 ∷ 9 ∷ 0 ∷ 0 ∷ 0 ∷ 0 ∷ 0 ∷ 0 ∷ 0 ∷ 1 ∷ 255 ∷ 255 ∷ 255 ∷ 255 ∷ 0 ∷ 0 ∷ 0 ∷ 8 ∷ []) 2 ≡ Ok (Insn.LookupSwitch 4, 18)
unfolding decoded opcode
switch_by_key = refl
