use Rattle.std.proofs.Common.{◌≡◌, ◌-◌, ◌≤◌, length}
use Rattle.class_file.specs.FirstForm.{insns_pass, is_form_insn, names_in}
use Rattle.class_file.proofs.first_form.insns_pass.Given as goal

abbrev pub invariant-loop : goal.invariant-loop
invariant-loop l =
    (insns_pass (is_form_insn l.pool l.own (names_in l.pool l.methods)) l.code (length l.code - l.counter) l.pc ≡ insns_pass (is_form_insn l.pool l.own (names_in l.pool l.methods)) l.code (length l.code) 0)
    × (l.pc ≤ length l.code)
