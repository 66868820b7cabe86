use Rattle.std.proofs.Common.{List, ◌∙◌, ap, subst}
use Rattle.std.proofs.lemmas.Result.{IfOk-weaker}
use Rattle.aj_names.specs.declared.types.FieldType.{FieldType}
use Rattle.class_machine.specs.World.{is_text_class}
use Rattle.machine_values.specs.declared.names.Maker.TheVariants.{Class}
use Rattle.machine_values.specs.Things.{with_made}
use Rattle.machine_requests.specs.Objects.{Makes, new_content}
use Rattle.machine_fields.proofs.NewOnes.{makes_of, keeps_filled, placed_within, on_ok_from}
use Rattle.machine_fields.proofs.new_objects.make_object.Goals as goal

pub returns-clause-made : goal.returns-clause-made
returns-clause-made c = IfOk-weaker c.make.result _ _ (λ at makes.
    makes_of c.args.world.now c.args.class.0 c.has_text.result c.in_ok-types.types.items c.args.heap.now c.make.new.heap at c.requires
    (c.has_text.ensures ∙ ap is_text_class c.name_of.ensures) c.in_ok-types.ensures
    (λ others. subst (λ (types : List FieldType). Makes c.args.class.0 c.has_text.result types c.args.heap.now others c.make.new.heap at) c.as_slice.ensures.value (makes others))) c.make.ensures.ok

pub returns-clause-filled : goal.returns-clause-filled
returns-clause-filled c = on_ok_from c.make.result _ _ (λ at added.
    keeps_filled c.args.world.now c.args.class c.in_ok-types.types.items c.has_text.result c.args.heap.now c.make.new.heap at.0 c.requires
    (c.has_text.ensures ∙ ap is_text_class c.name_of.ensures) c.in_ok-types.ensures
    (added ∙ ap (λ (types : List FieldType). with_made c.args.heap.now (Class c.args.class) (new_content c.has_text.result types)) c.as_slice.ensures.value)) c.make.ensures.added

pub returns-clause-within : goal.returns-clause-within
returns-clause-within c = IfOk-weaker c.make.result _ _ (λ at added. placed_within c.args.heap.now c.make.new.heap c.args.class _ at.0 added) c.make.ensures.added
