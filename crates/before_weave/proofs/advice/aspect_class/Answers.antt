use Rattle.std.proofs.Common.{sym, ap, subst}
use Rattle.class_file.specs.declared.types.ClassFile.{ClassFile}
use Rattle.class_file.specs.Pool.{this_name}
use Rattle.jp_model.specs.AspectText.{aspect_of}
use Rattle.jp_model.specs.Headline.{IsAspectClass, IsWritten}
use Rattle.before_weave.proofs.Writable.{aspect_is_class}
use Rattle.before_weave.proofs.Formed.{aspect_formed}
use Rattle.before_weave.proofs.advice.aspect_class.Goals as goal

pub returns-clause-written : goal.returns-clause-written
returns-clause-written c = subst (λ (w : ClassFile). IsWritten w) (sym c.in_ok-class.ensures) (aspect_formed c.args.aspect.now c.requires)

pub returns-clause-declared : goal.returns-clause-declared
returns-clause-declared c = subst (λ (w : ClassFile). IsAspectClass (aspect_of c.args.aspect.now) w) (sym c.in_ok-class.ensures) (aspect_is_class c.args.aspect.now)

pub returns-clause-named : goal.returns-clause-named
returns-clause-named c = ap this_name c.in_ok-class.ensures
