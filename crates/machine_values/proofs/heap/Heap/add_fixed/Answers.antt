use Rattle.std.proofs.Common.{◌≡◌, ◌+◌, ◌<◌, ◌^◌, Some, None, cond, List, length, sym, subst, ap, ◌∙◌, arith}
use Rattle.indexmap.specs.IndexMap.{get}
use Rattle.machine_values.specs.declared.names.Name.{Name}
use Rattle.machine_values.specs.declared.content.Content.TheVariants.{Fixed}
use Rattle.machine_values.specs.Things.{Things, same_name, place_of}
use Rattle.machine_values.proofs.Indexed.{pushed_constant}
use Rattle.machine_values.proofs.heap.Heap.add_fixed.Goals as goal

pub invariant_of-self-2 : goal.invariant_of-self-2
invariant_of-self-2 c =
    let updates = subst (λ (k : Name). (q : Name) → get same_name c.insert.new.self q ≡ cond (same_name k q) (Some c.len-place.result) (get same_name c.self.inside.places q))
    c.in_ok-key.ensures c.in_ok-insert.ensures.updates.0 in
    let absent : get same_name c.self.inside.places c.args.name ≡ None = c.self.invariant.placed c.args.name c.requires.constant ∙ ap (λ (t : Things). place_of t.names c.args.name) c.self.view_is ∙ c.requires.absent in
    rw (c.push_reserved.ensures.items, c.in_ok-reserve.ensures.items, c.push_reserved-2.ensures.items, c.in_ok-reserve-2.ensures.items)
    (pushed_constant c.self.inside.names.items c.self.inside.contents.items c.self.inside.counts c.self.inside.places c.insert.new.self c.args.name Fixed c.len-place.result c.self.invariant
    (omega (arith, c.self.inside.names.ok.0, c.len-place.ensures, c.if-place-gt-MOST.false)) c.requires.constant absent (omega (arith, c.self.inside.names.ok.0, c.len-place.ensures)) updates)
