use Rattle.std.proofs.Common.{◌≡◌, refl, sym, ◌∙◌, ◌-◌, ap, length, take, vec_len, arith}
use Rattle.machine_values.proofs.Indexed.{last_counted, forgotten}
use Rattle.machine_values.proofs.heap.Heap.forget_last.Goals as goal

pub forget-requires : goal.forget-requires
forget-requires c = last_counted c.pop.new.self.items c.self.inside.names.items c.self.inside.contents.items c.self.inside.counts c.self.inside.places c.in-Some.name c.in-Some.ensures.items c.self.invariant

pub invariant_of-self-2 : goal.invariant_of-self-2
invariant_of-self-2 c =
    forgotten c.pop.new.self.items c.self.inside.names.items c.self.inside.contents.items c.pop-content.new.self.items c.self.inside.counts c.forget.new.counts c.self.inside.places c.forget.new.places c.in-Some.name
    c.in-Some.ensures.items c.self.invariant (let size : vec_len c.self.inside.contents ≡ length c.self.inside.contents.items = omega (arith, c.self.inside.contents.ok.0) in c.pop-content.ensures.rest ∙ ap (λ n. take (n - 1) c.self.inside.contents.items) size) c.forget.ensures.counted (λ ns same. c.forget.ensures.placed ns (let left : vec_len c.pop.new.self ≡ length c.pop.new.self.items = omega (arith, c.pop.new.self.ok.0) in same ∙ sym left ∙ sym c.len.ensures))
