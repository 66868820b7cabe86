use Rattle.std.proofs.Common.{◌≡◌, ◌+◌, List, arith, refl, ap, subst, ◌∙◌}
use Rattle.std.specs.List.{list_all}
use Rattle.class_file.specs.declared.pool.PoolEntry.{PoolEntry}
use Rattle.class_file.specs.declared.types.ClassFile.{ClassFile}
use Rattle.class_file.specs.declared.types.Member.{Member}
use Rattle.before_weave.specs.Marks.{marks_of}
use Rattle.before_weave.specs.Walk.{is_straight_method, AreMarkedMethods}
use Rattle.before_weave.specs.Weaving.{with_calls, IsClassWeaving}
use Rattle.before_weave.proofs.WovenClass.{woven_class, kept_class, ok_weaker}
use Rattle.before_weave.proofs.Forms.{short_parts, straight_methods}
use Rattle.before_weave.proofs.weave.weave_class.Goals as goal

pub overflow_add-index : goal.overflow_add-index
overflow_add-index c = let few = (short_parts c.args.class c.requires).pool in omega arith

pub weave_methods-requires : goal.weave_methods-requires
weave_methods-requires c = ap (list_all is_straight_method) c.as_slice-2.ensures ∙ straight_methods c.args.class c.requires

pub with_calls-requires : goal.with_calls-requires
with_calls-requires c = (short_parts c.args.class c.requires).pool

pub returns-then-woven : goal.returns-then-woven
returns-then-woven c =
    let marks : c.deref.result.now ≡ marks_of c.args.class.pool c.args.aspect.now = c.deref.ensures.value ∙ c.in_ok-marks.ensures ∙ ap (λ (p : List PoolEntry). marks_of p c.args.aspect.now) c.as_slice.ensures in
    let made : AreMarkedMethods c.deref.result.now (c.len.result + 6) c.args.class.methods c.in_ok-woven.woven.members.items c.in_ok-woven.woven.advised =
    subst (λ (l : List Member). AreMarkedMethods c.deref.result.now (c.len.result + 6) l c.in_ok-woven.woven.members.items c.in_ok-woven.woven.advised) c.as_slice-2.ensures c.in_ok-woven.ensures in
    ok_weaker c.with_calls.result (λ (w : ClassFile). w ≡ with_calls c.args.aspect.now c.args.class c.in_ok-woven.woven.members.items) (λ (w : ClassFile). IsClassWeaving c.args.aspect.now c.args.class w)
    (λ (w : ClassFile) (is : w ≡ with_calls c.args.aspect.now c.args.class c.in_ok-woven.woven.members.items). woven_class c.args.aspect.now c.args.class w c.requires c.deref.result.now (c.len.result + 6) c.in_ok-woven.woven.members.items c.in_ok-woven.woven.advised
    marks (ap (λ n. n + 6) c.len.ensures) made c.if-woven.true is)
    c.with_calls.ensures

pub returns : goal.returns
returns c =
    let marks : c.deref.result.now ≡ marks_of c.args.class.pool c.args.aspect.now = c.deref.ensures.value ∙ c.in_ok-marks.ensures ∙ ap (λ (p : List PoolEntry). marks_of p c.args.aspect.now) c.as_slice.ensures in
    let made : AreMarkedMethods c.deref.result.now (c.len.result + 6) c.args.class.methods c.in_ok-woven.woven.members.items c.in_ok-woven.woven.advised =
    subst (λ (l : List Member). AreMarkedMethods c.deref.result.now (c.len.result + 6) l c.in_ok-woven.woven.members.items c.in_ok-woven.woven.advised) c.as_slice-2.ensures c.in_ok-woven.ensures in
    kept_class c.args.aspect.now c.args.class c.args.class c.requires c.deref.result.now (c.len.result + 6) c.in_ok-woven.woven.members.items c.in_ok-woven.woven.advised marks made c.if-woven.false refl
