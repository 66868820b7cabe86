use Rattle.std.proofs.Common.{Bool, sym, ap, ◌∙◌, subst}
use Rattle.std.specs.Prelude.{if◌then◌else◌, Some}
use Rattle.machine_invocations.specs.Methods.{classes_in, Finds}
use Rattle.machine_invocations.specs.Selections.{type_named}
use Rattle.machine_invocations.proofs.Seen.{member_is, select_goes}
use Rattle.machine_invocations.proofs.selection.select.Goals as goal

pub returns-then-is_private : goal.returns-then-is_private
returns-then-is_private c type m at sees = record {
  method = m;
  sees = sees;
  is = ap (λ (b : Bool). if b then Some m else (classes_in c.args.world.now).selected type m.name.member) (sym (c.is_private.ensures m sees) ∙ c.if-is_private.true);
}

pub returns : goal.returns
returns c type m at sees =
    let k = c.args.world.now in
    subst (Finds k c.find_selected.result)
    (sym (select_goes k type m (type_named c.as_slice.result.now c.as_slice-2.result.now) (sym (c.is_private.ensures m sees) ∙ c.if-is_private.false)
    (member_is k c.declared.result.class.0 c.declared.result.head.now c.declared.result.method.now m c.as_slice.result.now c.as_slice-2.result.now (c.declared.ensures.seen m sees) c.as_slice.ensures c.as_slice-2.ensures)))
    (c.find_selected.ensures type at)
