use Rattle.std.proofs.Common.{◌≡◌, ◌+◌, ◌<◌, ◌^◌, Some, cond, List, length, sym, subst, ap, ◌∙◌, suc, arith}
use Rattle.indexmap.specs.IndexMap.{get}
use Rattle.machine_values.specs.declared.names.Maker.{Maker}
use Rattle.machine_values.specs.Things.{Things, same_maker, made}
use Rattle.machine_values.specs.NameLaws.{made_few}
use Rattle.machine_values.proofs.Indexed.{pushed_made}
use Rattle.machine_values.proofs.heap.Heap.add_made.Goals as goal

pub overflow_add-number : goal.overflow_add-number
overflow_add-number c =
    let counted : c.made-count.result ≡ made c.self.inside.names.items c.args.maker = c.made-count.ensures ∙ ap (λ (t : Things). made t.names c.args.maker) (sym c.self.view_is) in
    omega (arith, counted, made_few c.self.inside.names.items c.args.maker, c.self.invariant.fits)

pub invariant_of-self-2 : goal.invariant_of-self-2
invariant_of-self-2 c =
    let updates = subst (λ (k : Maker). (q : Maker) → get same_maker c.insert.new.self q ≡ cond (same_maker k q) (Some (c.made-count.result + 1)) (get same_maker c.self.inside.counts q))
    c.in_ok-key.ensures c.in_ok-insert.ensures.updates.0 in
    let counted : c.made-count.result ≡ made c.self.inside.names.items c.args.maker = c.made-count.ensures ∙ ap (λ (t : Things). made t.names c.args.maker) (sym c.self.view_is) in
    rw (c.push_reserved.ensures.items, c.in_ok-reserve.ensures.items, c.push_reserved-2.ensures.items, c.in_ok-reserve-2.ensures.items)
    (pushed_made c.self.inside.names.items c.self.inside.contents.items c.self.inside.counts c.insert.new.self c.self.inside.places c.args.maker c.args.content (c.made-count.result + 1) c.self.invariant
    (omega (arith, c.self.inside.names.ok.0, c.len-place.ensures, c.if-place-gt-MOST.false)) (omega (arith, counted)) updates)
