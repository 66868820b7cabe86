use Rattle.std.specs.Prelude.{◌<◌, ◌^◌, length, Some, refl}
use Rattle.std.proofs.Common.{Bool, subst, arith}
use Rattle.machine_requests.specs.declared.reply.Reply.TheVariants.{Done}
use Rattle.machine_requests.specs.Objects.{IsBelow}
use Rattle.machine_values.specs.Things.{values_at}
use Rattle.machine_fields.specs.Settings.{world_setting}
use Rattle.machine_objects.proofs.Places.{writes_there, writes_else, writes_lacking}
use Rattle.machine_objects.proofs.reading.write.Goals as goal

pub returns-in_default-clause-written : goal.returns-in_default-clause-written
returns-in_default-clause-written c =
    let k = c.args.world.now in
    let before = c.args.heap.now in
    let few : length (values_at before c.args.at.0) < 2 ^ 32 = omega (arith, c.len-fewer.ensures, c.len-fewer.type_inv) in
    writes_lacking k before before c.args.found.class.0 c.args.found.position c.args.descriptor.now c.args.at c.args.value c.class_name.result.now c.class_name.ensures
    (λ d fit. subst (λ (b : Bool). IsBelow before (Some c.args.at) c.class_name.result.now b (world_setting k)) c.if-not-is_object_below.false (c.is_object_below.ensures d fit))
    c.requires.known c.in_default.ensures few refl

pub returns-in-Done-clause-written : goal.returns-in-Done-clause-written
returns-in-Done-clause-written c =
    let k = c.args.world.now in
    let before = c.args.heap.now in
    writes_there k before c.put_field.new.heap c.args.found.class.0 c.args.found.position c.args.descriptor.now c.args.at c.args.value c.class_name.result.now c.class_name.ensures
    (λ d fit. subst (λ (b : Bool). IsBelow before (Some c.args.at) c.class_name.result.now b (world_setting k)) c.if-not-is_object_below.false (c.is_object_below.ensures d fit))
    c.in-Some.index c.in-Some.ensures c.element_of-element.result c.element_of-element.ensures Done c.in-Done.ensures.answer c.put_field.ensures.filled

pub returns-in_default-matches : goal.returns-in_default-matches
returns-in_default-matches c =
    let k = c.args.world.now in
    let before = c.args.heap.now in
    record {
      written = writes_else k before c.put_field.new.heap c.args.found.class.0 c.args.found.position c.args.descriptor.now c.args.at c.args.value c.class_name.result.now c.class_name.ensures
          (λ d fit. subst (λ (b : Bool). IsBelow before (Some c.args.at) c.class_name.result.now b (world_setting k)) c.if-not-is_object_below.false (c.is_object_below.ensures d fit))
          c.in-Some.index c.in-Some.ensures c.element_of-element.result c.element_of-element.ensures c.put_field.result c.put_field.ensures.answer c.put_field.ensures.filled c.in_default-matches.not-Done;
      names = c.put_field.ensures.names;
    }
