use Rattle.std.proofs.Common.{◌≡◌, ◌+◌, ◌<◌, Some, cond, List, length, sym, subst, arith}
use Rattle.indexmap.specs.IndexMap.{get}
use Rattle.class_file.specs.declared.pool.PoolEntry.{PoolEntry}
use Rattle.constant_pool.specs.Edit.{same_entry}
use Rattle.constant_pool.proofs.Indexed.{pushed_again, pushed_new}
use Rattle.constant_pool.proofs.edit.PoolEdit.append.Goals as goal

pub invariant_of-self-then-contains_key : goal.invariant_of-self-then-contains_key
invariant_of-self-then-contains_key c =
    let room = subst (λ (p : List PoolEntry). length p < 65534) (sym c.self.view_is) c.requires in
    rw c.in_ok-push.ensures.items (pushed_again c.self.inside.entries.items c.self.inside.places c.args.entry c.self.invariant room (sym c.if-contains_key.ensures))

pub invariant_of-self-2 : goal.invariant_of-self-2
invariant_of-self-2 c =
    let room = subst (λ (p : List PoolEntry). length p < 65534) (sym c.self.view_is) c.requires in
    let updates = subst (λ (k : PoolEntry). (q : PoolEntry) → get same_entry c.insert.new.self q ≡ cond (same_entry k q) (Some (c.len.result + 1)) (get same_entry c.self.inside.places q))
    c.in_ok-key.ensures c.in_ok-insert.ensures.updates.0 in
    rw (c.push_reserved.ensures.items, c.in_ok-reserve.ensures.items)
    (pushed_new c.self.inside.entries.items c.self.inside.places c.insert.new.self c.args.entry (c.len.result + 1) c.self.invariant room (sym c.if-contains_key.ensures)
    (omega (arith, c.self.inside.entries.ok.0, c.len.ensures)) updates)
