use Rattle.std.proofs.Common.{List, sym, ◌∙◌, ap, subst}
use Rattle.std.proofs.lemmas.Result.{IfOk-weaker}
use Rattle.aj_names.specs.declared.types.FieldType.{FieldType}
use Rattle.std.specs.Prelude.{false}
use Rattle.machine_values.specs.declared.names.Maker.TheVariants.{Class}
use Rattle.machine_values.specs.Things.{with_made}
use Rattle.machine_requests.specs.Objects.{Makes, new_content}
use Rattle.machine_fields.proofs.NewOnes.{makes_of, keeps_filled, on_ok_from}
use Rattle.machine_rules.proofs.ExceptionWork.{last_one}
use Rattle.machine_rules.proofs.exceptions.make_exception.Goals as goal

pub returns-clause-made : goal.returns-clause-made
returns-clause-made c = IfOk-weaker c.make.result _ _ (λ at makes.
    makes_of c.args.world.now c.args.class.0 false c.in_ok-types.types.items c.args.heap.now c.make.new.heap at c.requires.class (sym c.requires.plain) c.in_ok-types.ensures
    (λ others. subst (λ (types : List FieldType). Makes c.args.class.0 false types c.args.heap.now others c.make.new.heap at) c.as_slice.ensures.value (makes others))) c.make.ensures.ok

pub returns-clause-filled : goal.returns-clause-filled
returns-clause-filled c = on_ok_from c.make.result _ _ (λ at added.
    keeps_filled c.args.world.now c.args.class c.in_ok-types.types.items false c.args.heap.now c.make.new.heap at.0 c.requires.class (sym c.requires.plain) c.in_ok-types.ensures
    (added ∙ ap (λ (types : List FieldType). with_made c.args.heap.now (Class c.args.class) (new_content false types)) c.as_slice.ensures.value)) c.make.ensures.added

pub returns-clause-last : goal.returns-clause-last
returns-clause-last c = IfOk-weaker c.make.result _ _ (λ at added.
    last_one c.args.heap.now c.make.new.heap c.args.class _ at c.count-count.result c.count-count.ensures.count c.count-count.ensures.contents added) c.make.ensures.added
