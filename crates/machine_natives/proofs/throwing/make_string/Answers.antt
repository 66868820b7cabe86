use Rattle.std.proofs.lemmas.Result.{IfOk-weaker}
use Rattle.machine_natives.proofs.Strings.{string_made}
use Rattle.machine_natives.proofs.throwing.make_string.Goals as goal

pub returns-clause-made : goal.returns-clause-made
returns-clause-made c =
    let class = c.string_class.result in
    IfOk-weaker c.make_text.result _ _ (λ at added.
    string_made c.args.world.now c.requires c.args.heap.now c.args.units.now class c.string_class.ensures.named c.string_class.ensures.within at c.make_text.new.self added) c.make_text.ensures.ok
