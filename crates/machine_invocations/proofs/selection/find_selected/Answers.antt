use Rattle.std.proofs.Common.{◌≡◌, arith, sym, ap, ◌∙◌, subst}
use Rattle.std.specs.Prelude.{Option, Some, None, []}
use Rattle.std.specs.Option.{option_map, option_to_list}
use Rattle.aj_names.specs.declared.ids.ClassId.{ClassId}
use Rattle.aj_names.specs.declared.ids.MethodId.{MethodId}
use Rattle.class_heads.specs.Hierarchy.{superclass_at}
use Rattle.class_heads.specs.Numbers.{number_of, method_counts}
use Rattle.class_heads.specs.Searches.{selectable_in}
use Rattle.machine_invocations.specs.Methods.{classes_in, Finds}
use Rattle.machine_invocations.specs.Selections.{member_named, type_named}
use Rattle.machine_invocations.proofs.Searched.{selected_found}
use Rattle.machine_invocations.proofs.Upward.{found_upward, none_here, search_tops, search_goes_on, search_ends}
use Rattle.machine_invocations.proofs.selection.find_selected.Goals as goal

pub returns-in-Some : goal.returns-in-Some
returns-in-Some c type at =
    selected_found c.args.world.now type (type_named c.args.name.now c.args.descriptor.now) c.in_ok-at.at.0 (Some c.in-Some.method) (at ∙ ap (option_map (λ (x : ClassId). x.0)) c.in_ok-at.was)
    (found_upward c.args.world.now (member_named c.args.name.now c.args.descriptor.now) c.in_ok-at.at.0 c.upward._turn c.upward.at.0 c.in-Some.method.0 c.upward.invariant (omega arith) c.in-Some.ensures)

pub returns-in_err-at-2 : goal.returns-in_err-at-2
returns-in_err-at-2 c type at =
    let k = c.args.world.now in
    let search = selectable_in k.heads (member_named c.args.name.now c.args.descriptor.now) in
    let up : [] ≡ superclass_at k.heads c.upward.at.0 = sym (ap (λ (o : Option ClassId). option_to_list (option_map (λ (x : ClassId). x.0) o)) c.in_err-at-2.was) ∙ c.superclass_of.ensures.next in
    subst (λ (r : Option MethodId). Finds k r ((classes_in k).selected type (type_named c.args.name.now c.args.descriptor.now))) (sym c.from_residual-in_err-at-2.ensures)
    (selected_found k type (type_named c.args.name.now c.args.descriptor.now) c.in_ok-at.at.0 None (at ∙ ap (option_map (λ (x : ClassId). x.0)) c.in_ok-at.was)
    (sym (ap (option_map (number_of (method_counts k.heads))) (search_tops k.heads search c.in_ok-at.at.0 c.upward._turn c.upward.at.0 c.upward.invariant (omega arith) (none_here k (member_named c.args.name.now c.args.descriptor.now) c.upward.at.0 (sym (ap (option_map (λ (x : MethodId). x.0)) c.in_default.is) ∙ c.selectable_in.ensures)) up))))

pub upward-preserved : goal.upward-preserved
upward-preserved c =
    let k = c.args.world.now in
    search_goes_on k.heads (selectable_in k.heads (member_named c.args.name.now c.args.descriptor.now)) c.in_ok-at.at.0 c.upward._turn c.upward.at.0 c.upward.invariant c.in_ok-at-2.at.0 (omega arith) c.in_ok-at-2.ensures.within
    (none_here k (member_named c.args.name.now c.args.descriptor.now) c.upward.at.0 (sym (ap (option_map (λ (x : MethodId). x.0)) c.in_default.is) ∙ c.selectable_in.ensures)) c.in_ok-at-2.ensures.next

pub returns : goal.returns
returns c type at =
    let k = c.args.world.now in
    let search = selectable_in k.heads (member_named c.args.name.now c.args.descriptor.now) in
    selected_found k type (type_named c.args.name.now c.args.descriptor.now) c.in_ok-at.at.0 None (at ∙ ap (option_map (λ (x : ClassId). x.0)) c.in_ok-at.was)
    (sym (ap (option_map (number_of (method_counts k.heads))) (search_ends k.heads search c.in_ok-at.at.0 c.upward._turn c.upward.at.0 c.upward.invariant (omega arith))))
