use Rattle.std.proofs.Common.{◌≡◌, sym, ap, ◌∙◌, subst}
use Rattle.std.specs.Prelude.{Option, List, [], ◌-◌, ℕ, map, length}
use Rattle.std.specs.Option.{option_map, option_to_list}
use Rattle.aj_names.specs.declared.ids.ClassId.{ClassId}
use Rattle.class_heads.specs.Graph.{walk}
use Rattle.class_heads.specs.Hierarchy.{name_at, superclass_at}
use Rattle.class_machine.specs.Classes.{Method, is_among}
use Rattle.machine_invocations.specs.Methods.{classes_in, Finds}
use Rattle.machine_invocations.specs.Initialising.{names_upward}
use Rattle.machine_invocations.proofs.Seen.{member_is, itself, not_itself}
use Rattle.machine_invocations.proofs.Upward.{direct_up, direct_top, above_other, above_selected}
use Rattle.machine_invocations.proofs.Names.{superclasses_named, class_has_members}
use Rattle.machine_invocations.proofs.selection.select_special.Goals as goal

pub returns-then-is_itself : goal.returns-then-is_itself
returns-then-is_itself c m distinct sees = record {
  method = m;
  sees = sees;
  is = itself c.args.world.now (name_at c.args.world.now.heads c.args.current.0) m (sym (c.is_itself.ensures m distinct sees) ∙ c.if-is_itself.true);
}

pub returns-in_default : goal.returns-in_default
returns-in_default c m distinct sees =
    let k = c.args.world.now in
    let up : [] ≡ superclass_at k.heads c.args.current.0 = sym (ap (λ (o : Option ClassId). option_to_list (option_map (λ (x : ClassId). x.0) o)) c.in_default.is) ∙ c.superclass_of.ensures.next in
    record {
      method = m;
      sees = sees;
      is = not_itself k (name_at k.heads c.args.current.0) m (names_upward k c.args.current.0) [] (sym (c.is_itself.ensures m distinct sees) ∙ c.if-is_itself.false)
          (superclasses_named k c.args.current.0 distinct c.requires.current) (direct_top k.heads c.args.current.0 c.requires.current up);
    }

pub returns-then-not-is_upward : goal.returns-then-not-is_upward
returns-then-not-is_upward c m distinct sees =
    let k = c.args.world.now in
    let above = c.in-Some.above.0 in
    let classes = map (name_at k.heads) (walk (superclass_at k.heads) (length k.heads - 1) above) in
    let named = c.as_slice.ensures ∙ sym (ap (λ (x : Method). x.name.class) (c.declared-place.ensures.seen m sees)) in
    record {
      method = m;
      sees = sees;
      is = not_itself k (name_at k.heads c.args.current.0) m (names_upward k c.args.current.0) classes (sym (c.is_itself.ensures m distinct sees) ∙ c.if-is_itself.false)
          (superclasses_named k c.args.current.0 distinct c.requires.current) (direct_up k.heads c.args.current.0 above c.requires.current c.in-Some.ensures.next)
          ∙ above_other (classes_in k) classes m (sym (ap (λ (name : List ℕ). is_among classes name) named) ∙ sym c.is_upward.ensures ∙ c.if-not-is_upward.true);
    }

pub returns : goal.returns
returns c m distinct sees =
    let k = c.args.world.now in
    let above = c.in-Some.above.0 in
    let classes = map (name_at k.heads) (walk (superclass_at k.heads) (length k.heads - 1) above) in
    let named = c.as_slice.ensures ∙ sym (ap (λ (x : Method). x.name.class) (c.declared-place.ensures.seen m sees)) in
    let member = member_is k c.declared-place.result.class.0 c.declared-place.result.head.now c.declared-place.result.method.now m c.as_slice-2.result.now c.as_slice-3.result.now (c.declared-place.ensures.seen m sees) c.as_slice-2.ensures c.as_slice-3.ensures in
    subst (Finds k c.find_selected.result)
    (sym (not_itself k (name_at k.heads c.args.current.0) m (names_upward k c.args.current.0) classes (sym (c.is_itself.ensures m distinct sees) ∙ c.if-is_itself.false)
    (superclasses_named k c.args.current.0 distinct c.requires.current) (direct_up k.heads c.args.current.0 above c.requires.current c.in-Some.ensures.next)
    ∙ above_selected (classes_in k) (superclass_at k.heads) (name_at k.heads) (length k.heads - 1) above m (sym (ap (λ (name : List ℕ). is_among classes name) named) ∙ sym c.is_upward.ensures ∙ c.if-not-is_upward.false)
    ∙ ap ((classes_in k).selected (name_at k.heads above)) member))
    (c.find_selected.ensures (name_at k.heads above) (class_has_members k above distinct c.in-Some.ensures.within))
