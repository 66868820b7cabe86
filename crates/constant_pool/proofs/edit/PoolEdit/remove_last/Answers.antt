use Rattle.std.proofs.Common.{◌+◌, List, sym, ◌∙◌, subst, arith}
use Rattle.class_file.specs.declared.pool.PoolEntry.{PoolEntry}
use Rattle.constant_pool.specs.Places.{IsIndexed}
use Rattle.constant_pool.proofs.Indexed.{popped_again, popped_last, is_place, is_no_place}
use Rattle.constant_pool.proofs.edit.PoolEdit.remove_last.Goals as goal

pub invariant_of-self : goal.invariant_of-self
invariant_of-self c =
    let before = subst (λ (p : List PoolEntry). IsIndexed p c.self.inside.places) c.in-Some.ensures.items c.self.invariant in
    popped_last c.pop.new.self.items c.self.inside.places c.swap_remove.new.self c.in-Some.last (c.len.result + 1) before
    (omega (arith, c.pop.new.self.ok.0, c.len.ensures))
    (sym c.get.ensures.value ∙ sym c.copied.ensures ∙ is_place c.copied.result (c.len.result + 1) (sym c.if-eq.ensures))
    c.swap_remove.ensures.updates.0

pub invariant_of-self-else-eq : goal.invariant_of-self-else-eq
invariant_of-self-else-eq c =
    let before = subst (λ (p : List PoolEntry). IsIndexed p c.self.inside.places) c.in-Some.ensures.items c.self.invariant in
    popped_again c.pop.new.self.items c.self.inside.places c.in-Some.last (c.len.result + 1) before
    (omega (arith, c.pop.new.self.ok.0, c.len.ensures))
    (λ e. is_no_place c.copied.result (c.len.result + 1) (sym c.if-eq.ensures) (c.copied.ensures ∙ c.get.ensures.value ∙ e))
