use Rattle.std.proofs.Common.{◌≡◌, List, subst, length}
use Rattle.std.specs.Prelude.{Some, replicate, slice_get}
use Rattle.machine_values.specs.declared.content.Content.TheVariants.{Values}
use Rattle.machine_values.specs.declared.values.Value.{Value}
use Rattle.machine_values.specs.declared.values.Value.TheVariants.{Null}
use Rattle.machine_values.specs.Things.{changed}
use Rattle.machine_start.proofs.Arrays.{array_from}
use Rattle.machine_start.proofs.arguments.make_array.Goals as goal

pub returns : goal.returns
returns c =
    array_from c.args.world.now c.requires c.args.heap.now c.make_array.new.self c.make_texts.new.heap c.fill_array.new.heap c.in_ok-at.at c.in_ok-class.class (length c.args.texts.now) c.args.texts.now c.in_ok-values.values
    c.in_ok-class.ensures c.in_ok-at.ensures.ok c.in_ok-values.ensures.made c.in_ok-values.ensures.kept c.in_ok-values.ensures.many
    c.fill_array.ensures.names c.fill_array.ensures.filled
    (subst (λ (vs : List Value). slice_get c.make_texts.new.heap.contents c.in_ok-at.at.0 ≡ Some (Values (replicate (length vs) Null)) → c.fill_array.new.heap ≡ changed c.make_texts.new.heap c.in_ok-at.at.0 (Values vs)) c.as_slice.ensures c.fill_array.ensures.elements)
