use Rattle.weave_plan.proofs.Read.{class_more, aspect_more, other_more}
use Rattle.weave_plan.proofs.planning.sorted_out.Goals as goal

pub loop-file-preserved-in-Continue-1 : goal.loop-file-preserved-in-Continue-1
loop-file-preserved-in-Continue-1 c =
    class_more c.loop-file.yielded c.in-Some.file c.in-Class.found c.in-Class.field-1 c.loop-file.classes.items c.push.new.self.items c.loop-file.aspect c.in-Class.is c.loop-file.invariant c.in_ok-push-in-Class.ensures.items

pub loop-file-preserved-in-Aspect : goal.loop-file-preserved-in-Aspect
loop-file-preserved-in-Aspect c = aspect_more c.loop-file.yielded c.in-Some.file c.in-Aspect.found c.loop-file.classes.items c.loop-file.aspect c.in-Aspect.is c.loop-file.invariant

pub loop-file-preserved : goal.loop-file-preserved
loop-file-preserved c = other_more c.loop-file.yielded c.in-Some.file c.loop-file.classes.items c.loop-file.aspect c.in-Other.is c.loop-file.invariant
