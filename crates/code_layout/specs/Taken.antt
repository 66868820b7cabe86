-- Code without a fault has instruction numbers.
use Rattle.std.proofs.Common.{◌≡◌, ℕ, Bool, true, false, cond, List, Option, Some, None, Result, Ok, Err, refl, sym, ap, ◌∙◌, subst}
use Rattle.std.specs.Prelude.{IsOk, IfErr}
use Rattle.opcode_table.specs.declared.fault.CodeFault.{CodeFault}
use Rattle.class_file.specs.declared.pool.PoolEntry.{PoolEntry}
use Rattle.class_file.specs.declared.types.CodeAttr.{CodeAttr}
use Rattle.class_file.specs.Code.{Placed, instructions, or_else, has_operand, leads_well, first_failing, first_stray, place_of, fault_among, is_sized, code_fault}
use Rattle.code_layout.specs.declared.method_code.MethodCode.{MethodCode}
use Rattle.code_layout.specs.declared.fault.TakeApartFault.{TakeApartFault}
use Rattle.code_layout.specs.declared.fault.TakeApartFault.TheVariants as faults
use Rattle.code_layout.specs.Apart.{apart, apart_of, unless_astray, method_code, first_astray, Gives}

pub or_else_none : (a b : Option ℕ) → or_else a b ≡ None → (a ≡ None) × (b ≡ None)
or_else_none None b e = (refl, e)
or_else_none (Some n) b e = absurd cc

among : (major : ℕ) (pool : List PoolEntry) (c : CodeAttr) (insns : Result (List Placed) CodeFault) → fault_among major pool c insns ≡ None → (m : MethodCode) × (apart_of c insns ≡ Ok m)
among major pool c (Err fault) e = absurd cc
among major pool c (Ok insns) e =
    let rest = or_else_none (first_failing (λ (p : Placed). has_operand major pool p.insn) insns) (first_astray c insns) e in
    (method_code c insns, ap (λ (o : Option ℕ). unless_astray o (method_code c insns)) rest.1)

sized : (b : Bool) (o : Option ℕ) → cond b o (Some 0) ≡ None → o ≡ None
sized true o e = e
sized false o e = absurd cc

-- Code in which no class finds a fault is taken apart.
pub apart_without_fault : (major : ℕ) (pool : List PoolEntry) (c : CodeAttr) → code_fault major pool c ≡ None → (m : MethodCode) × (apart c ≡ Ok m)
apart_without_fault major pool c e = among major pool c (instructions c.code) (sized (is_sized c.code) (fault_among major pool c (instructions c.code)) e)

given_whole : (result : Result MethodCode TakeApartFault) (c : CodeAttr) (m : MethodCode) → apart c ≡ Ok m → Gives result (apart c) → IfErr result (λ fault. fault ≡ faults.Memory)
given_whole (Ok x) c m e given = tt
given_whole (Err faults.Memory) c m e given = refl
given_whole (Err (faults.Code f)) c m e given = absurd cc
given_whole (Err (faults.Target pc)) c m e given = absurd cc

-- It is refused for want of memory alone.
pub refused_for_memory : (major : ℕ) (pool : List PoolEntry) (c : CodeAttr) (result : Result MethodCode TakeApartFault) → code_fault major pool c ≡ None → Gives result (apart c) → IfErr result (λ fault. fault ≡ faults.Memory)
refused_for_memory major pool c result e given = let m = apart_without_fault major pool c e in given_whole result c m.0 m.1 given
