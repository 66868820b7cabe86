use Rattle.std.proofs.Common.{sym, subst, ◌∙◌}
use Rattle.class_heads.specs.Faults.{IsLibrary}
use Rattle.run_plan.proofs.Entering.{runnable_world}
use Rattle.run_plan.proofs.running.world_of.Goals as goal

pub returns-in-Ok-clause-runnable : goal.returns-in-Ok-clause-runnable
returns-in-Ok-clause-runnable c =
    runnable_world c.args.classes.items c.as_slice.result.now c.in-Ok.world (c.as_slice.ensures.value ∙ c.in_ok-library.ensures.exact)
    (subst IsLibrary (sym c.as_slice.ensures.value) c.in_ok-library.ensures.library) c.requires c.in-Ok.ensures.heads c.in-Ok.ensures.files c.in-Ok.ensures.sound
