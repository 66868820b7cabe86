use Rattle.std.proofs.Common.{sym, ◌∙◌, ap, subst}
use Rattle.std.specs.Prelude.{length, Option, Some, refl}
use Rattle.std.proofs.lemmas.Bool.{ltb-true}
use Rattle.machine_values.specs.States.{is_known_object}
use Rattle.machine_values.specs.declared.values.Ref.{Ref}
use Rattle.machine_objects.specs.Fields.{Reads}
use Rattle.machine_objects.proofs.Places.{reads_there, reads_lacking}
use Rattle.machine_objects.proofs.reading.read.Goals as goal

pub returns-in-Some-place_in : goal.returns-in-Some-place_in
returns-in-Some-place_in c =
    let things = c.args.heap.now in
    let known = ltb-true c.in-Some.at.0 (length things.names) (sym (ap (is_known_object (length things.names)) c.in-Some.is) ∙ c.requires.known) in
    subst (λ (o : Option Ref). Reads c.args.world.now things c.args.found.class.0 c.args.found.position o c.get_field.result) (sym c.in-Some.is) (
    reads_there c.args.world.now things c.args.found.class.0 c.args.found.position (Some c.in-Some.at) c.in-Some.at refl known c.class_name.result.now c.class_name.ensures c.is_object_below-instance.result c.is_object_below-instance.ensures
    c.in-Some-place_in.index c.get_field.result c.in-Some-place_in.ensures c.get_field.ensures
    )

pub returns-in-None : goal.returns-in-None
returns-in-None c =
    let things = c.args.heap.now in
    let known = ltb-true c.in-Some.at.0 (length things.names) (sym (ap (is_known_object (length things.names)) c.in-Some.is) ∙ c.requires.known) in
    reads_lacking c.args.world.now things c.args.found.class.0 c.args.found.position c.args.object c.in-Some.at c.in-Some.is known c.class_name.result.now c.class_name.ensures c.is_object_below-instance.result c.is_object_below-instance.ensures
    c.read_lacking.result c.in-None.ensures c.read_lacking.ensures
