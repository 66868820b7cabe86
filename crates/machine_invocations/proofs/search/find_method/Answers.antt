use Rattle.std.proofs.Common.{sym, ap, ◌∙◌, subst}
use Rattle.std.specs.Prelude.{Option}
use Rattle.std.specs.Option.{option_map}
use Rattle.aj_names.specs.declared.ids.ClassId.{ClassId}
use Rattle.aj_names.specs.declared.ids.MethodId.{MethodId}
use Rattle.class_file.specs.Lookup.{reference_seen}
use Rattle.machine_invocations.specs.Methods.{classes_in, Finds}
use Rattle.machine_invocations.proofs.Searched.{method_found, method_missing}
use Rattle.machine_invocations.proofs.search.find_method.Goals as goal

pub returns-in_err-class : goal.returns-in_err-class
returns-in_err-class c =
    subst (λ (id : Option MethodId). Finds c.args.world.now id ((classes_in c.args.world.now).method (reference_seen c.args.reference))) (sym c.from_residual.ensures)
    (method_missing c.args.world.now (reference_seen c.args.reference) (sym c.class_of_members.ensures.place ∙ ap (option_map (λ (x : ClassId). x.0)) c.in_err-class.was))

pub returns : goal.returns
returns c =
    method_found c.args.world.now (reference_seen c.args.reference) c.in_ok-class.class.0 c.find_method_named.result
    (sym c.class_of_members.ensures.place ∙ ap (option_map (λ (x : ClassId). x.0)) c.in_ok-class.was) c.find_method_named.ensures.number
