use Rattle.std.proofs.Common.{◌≡◌, ◌<◌, List, ℕ, sym, ap, ◌∙◌, subst, length, get_or}
use Rattle.std.specs.Prelude.{◌&&◌, true, false, map}
use Rattle.std.specs.Option.{option_map}
use Rattle.std.specs.Str.{bytes_eq}
use Rattle.std.proofs.lemmas.Option.{same_Some}
use Rattle.class_heads.specs.declared.types.ClassHead.{ClassHead}
use Rattle.class_heads.specs.declared.types.MethodHead.{MethodHead}
use Rattle.class_heads.specs.Numbers.{number_of, method_counts}
use Rattle.class_heads.specs.Searches.{is_static, in_class, method_in}
use Rattle.class_world.specs.Found.{member_named}
use Rattle.class_machine.specs.Descriptors.{parameters_in}
use Rattle.class_machine.specs.Start.{takes_all}
use Rattle.machine_fields.specs.Settings.{is_at}
use Rattle.machine_invocations.specs.Methods.{classes_in, Finds}
use Rattle.machine_start.specs.Arguments.{argument_of}
use Rattle.machine_start.specs.Entries.{first_position}
use Rattle.machine_start.proofs.Named.{found, passed}
use Rattle.machine_start.proofs.entries.find_in.Goals as goal

pub returns-then-is_it : goal.returns-then-is_it
returns-then-is_it c c' at =
    let k = c.args.world.now in
    let name = c.args.name.now in
    let words = map argument_of c.args.args.now in
    let place = c.args.class.0 in
    let i = c.loop-position.position in
    let m = c.index-methods-position.result in
    let same : c.head.result.now ≡ c' = same_Some c.head.result.now c' (sym c.head.ensures ∙ at) in
    let listed : c.as_slice-methods.result.now ≡ c'.methods = c.as_slice-methods.ensures ∙ ap (λ (h : ClassHead). h.methods) same in
    let there = subst (λ (l : List MethodHead). m ≡ get_or l i m) listed c.index-methods-position.is in
    let within = subst (λ (l : List MethodHead). i < length l) listed c.loop-position-test.true in
    let it = subst (λ (l : List MethodHead). ((is_static m && (bytes_eq m.name.name name && takes_all (classes_in k) (parameters_in m.name.descriptor) words)) && is_at (first_position m.name l) i) ≡ true) listed (sym c.is_it.ensures ∙ c.if-is_it.true) in
    let numbered =
    c.declared_method.ensures.number
    ∙ ap (λ (n : List ℕ). option_map (λ position. number_of (method_counts k.heads) (in_class place position)) (method_in k.heads (member_named n c.as_slice-then-is_it.result.now) place)) c.as_slice.ensures
    ∙ ap (λ (d : List ℕ). option_map (λ position. number_of (method_counts k.heads) (in_class place position)) (method_in k.heads (member_named m.name.name d) place)) c.as_slice-then-is_it.ensures in
    subst (Finds k c.declared_method.result) (c.loop-position.invariant c' at) (found k name words place c' i m m within there at it c.declared_method.result numbered)

pub loop-position-preserved : goal.loop-position-preserved
loop-position-preserved c c' at =
    let k = c.args.world.now in
    let name = c.args.name.now in
    let words = map argument_of c.args.args.now in
    let place = c.args.class.0 in
    let i = c.loop-position.position in
    let m = c.index-methods-position.result in
    let same : c.head.result.now ≡ c' = same_Some c.head.result.now c' (sym c.head.ensures ∙ at) in
    let listed : c.as_slice-methods.result.now ≡ c'.methods = c.as_slice-methods.ensures ∙ ap (λ (h : ClassHead). h.methods) same in
    let there = subst (λ (l : List MethodHead). m ≡ get_or l i m) listed c.index-methods-position.is in
    let within = subst (λ (l : List MethodHead). i < length l) listed c.loop-position-test.true in
    let none = subst (λ (l : List MethodHead). ((is_static m && (bytes_eq m.name.name name && takes_all (classes_in k) (parameters_in m.name.descriptor) words)) && is_at (first_position m.name l) i) ≡ false) listed (sym c.is_it.ensures ∙ c.if-is_it.false) in
    sym (passed k name words place c' i m m within there none) ∙ c.loop-position.invariant c' at
