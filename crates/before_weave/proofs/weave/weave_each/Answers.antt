use Rattle.std.proofs.Common.{List, [], ◌∷◌, ◌++◌, IsTrue, subst, sym, ap, ◌∙◌, append_assoc}
use Rattle.std.specs.List.{AllZip, AllByRecursion}
use Rattle.std.proofs.lemmas.List.Elements.{AllZip-push}
use Rattle.class_file.specs.declared.types.ClassFile.{ClassFile}
use Rattle.class_file.specs.FirstForm.{is_first_form}
use Rattle.before_weave.specs.Weaving.{IsClassWeaving}
use Rattle.before_weave.proofs.weave.weave_each.Goals as goal

-- what holds of each holds of one behind others
holds_behind : {X : Type 0} (P : X → Type 0) (front rest : List X) (x : X) → AllByRecursion P (front ++ x ∷ rest) → P x
holds_behind P [] rest x all = all.0
holds_behind P (y ∷ front) rest x all = holds_behind P front rest x all.1

pub loop-class-init : goal.loop-class-init
loop-class-init c = record {
  woven = subst (λ (l : List ClassFile). AllZip (IsClassWeaving c.args.aspect.now) [] l) (sym c.in_ok-woven.ensures.items) tt;
  left = sym c.into_iter-class-iterator.ensures.into_iter_gives.0;
}

pub weave_class-requires : goal.weave_class-requires
weave_class-requires c =
    holds_behind (λ (c : ClassFile). IsTrue (is_first_form c)) c.loop-class.yielded c.next.new.self.rest.items c.in-Some.class
    (subst (λ (xs : List ClassFile). AllByRecursion (λ c. IsTrue (is_first_form c)) xs)
    (c.loop-class.invariant.left ∙ ap (λ (xs : List ClassFile). c.loop-class.yielded ++ xs) c.in-Some.ensures.steps.0) c.requires)

pub loop-class-preserved : goal.loop-class-preserved
loop-class-preserved c = record {
  woven = subst (λ (l : List ClassFile). AllZip (IsClassWeaving c.args.aspect.now) (c.loop-class.yielded ++ c.in-Some.class ∷ []) l) (sym c.in_ok-push.ensures.items)
      (AllZip-push (IsClassWeaving c.args.aspect.now) c.loop-class.yielded c.loop-class.woven.items c.in-Some.class c.in_ok-weave_class.field-0 c.loop-class.invariant.woven c.in_ok-weave_class.ensures);
  left = c.loop-class.invariant.left ∙ ap (λ (xs : List ClassFile). c.loop-class.yielded ++ xs) c.in-Some.ensures.steps.0 ∙ sym (append_assoc c.loop-class.yielded (c.in-Some.class ∷ []) c.next.new.self.rest.items);
}
