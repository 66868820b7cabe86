use Rattle.std.proofs.Common.{rules, subst, ◌∙◌}
use Rattle.std.specs.Prelude.{FitsSigned}
use Rattle.std.specs.Int.{w32}
use Rattle.std.proofs.lemmas.Int.{to_z-of_z}
use Rattle.opcode_table.specs.declared.insn.Insn.{Insn}
use Rattle.code_layout.specs.Blocks.{Leads}
use Rattle.code_layout.proofs.Putting.{on_ok, lookup_put, branch_put}
use Rattle.code_layout.proofs.laid_bytes.put_narrow.Goals as goal

pub returns-in_ok-put_head-in-LookupSwitch : goal.returns-in_ok-put_head-in-LookupSwitch
returns-in_ok-put_head-in-LookupSwitch c =
    on_ok c.put_lookup.result (lookup_put c.args.places.now c.args.i c.args.row.now.insn c.in-LookupSwitch.table c.args.row.now.jump.keys _ c.args.row.now.jump.to _ c.args.out.now.items _ _ c.in-LookupSwitch.is c.as_slice-keys.ensures c.as_slice-to.ensures c.in_ok-put_head-in-LookupSwitch.ensures) c.put_lookup.ensures

pub returns-in-Branch : goal.returns-in-Branch
returns-in-Branch c =
    let fits : FitsSigned w32 c.way.result = search rules in
    let leads = subst (λ (q : Insn). Leads q c.args.row.now.jump) c.in-Branch.is c.requires.valid.leads in
    on_ok c.put_branch.result (branch_put c.args.places.now c.args.i c.args.row.now.insn c.in-Branch.op c.in-Branch.offset _ c.args.row.now.jump.keys c.args.row.now.jump.to _ c.args.out.now.items _ c.in-Branch.is c.as_slice-to.ensures leads.1.1 (to_z-of_z w32 c.way.result fits ∙ c.way.ensures)) c.put_branch.ensures
