use Rattle.std.proofs.Common.{List, [], ◌∷◌, subst, sym}
use Rattle.class_file.specs.declared.types.ClassFile.{ClassFile}
use Rattle.jp_model.specs.AspectText.{aspect_of}
use Rattle.jp_model.specs.Headline.{IsWeaving}
use Rattle.before_weave.proofs.Whole.{all_woven}
use Rattle.before_weave.proofs.weave.weave_classes.Goals as goal

pub returns : goal.returns
returns c = record {
  weaving = subst (λ (written : List ClassFile). IsWeaving c.args.classes.items (aspect_of c.args.aspect.now ∷ []) written) (sym c.in_ok-push.ensures.items)
      (all_woven c.args.aspect.now c.args.classes.items c.in_ok-written.written.items c.in_ok-aspect_class.field-0 c.requires.class_forms c.requires.aspect_form c.requires.names c.in_ok-written.ensures c.in_ok-aspect_class.ensures.value);
}
