use Rattle.std.proofs.Common.{List, [], sym, ap, subst, ◌∙◌}
use Rattle.std.specs.List.{AllByRecursion}
use Rattle.std.proofs.lemmas.Result.{err_from_is_err_and}
use Rattle.weave_plan.specs.declared.parsing.Parsed.{Parsed}
use Rattle.weave_plan.specs.Faults.{AreRefused}
use Rattle.weave_plan.specs.Parsed.{IsFormed, first_refused}
use Rattle.weave_plan.specs.Plan.{files_of}
use Rattle.weave_plan.proofs.Read.{err_of}
use Rattle.weave_plan.proofs.Refused.{not_built, fit_of, planned_of, taken_of}
use Rattle.weave_plan.proofs.SoundClasses.{all_formed, sound_files, refused_world}
use Rattle.weave_plan.proofs.planning.plan.Goals as goal

pub first_not_built-not_built-requires : goal.first_not_built-not_built-requires
first_not_built-not_built-requires c =
    subst (AllByRecursion IsFormed) (sym c.as_slice.ensures.value) (all_formed (files_of c.args.inputs.now) c.in_ok-parsed.parsed.items c.in_ok-parsed.ensures.parsed)

pub returns-in_err-classes-2-clause-refused : goal.returns-in_err-classes-2-clause-refused
returns-in_err-classes-2-clause-refused c =
    let files = files_of c.args.inputs.now in
    let p = err_from_is_err_and c.from_residual-in_err-classes-2.result c.from_residual-in_err-classes-2.ensures.1 in
    err_of (AreRefused files) c.from_residual-in_err-classes-2.result p.0 c.in_err-classes-2.field-0.0 p.1 p.2
    (refused_world files c.in_ok-parsed.parsed.items c.in_ok-parsed.ensures.parsed c.in_ok-parsed.ensures.read c.in_ok-classes.classes.items c.in_ok-classes.ensures.classes c.in_err-classes-2.field-0.0 c.in_err-classes-2.ensures.fault)

pub planned-requires : goal.planned-requires
planned-requires c =
    let e = sym (ap (λ (x : List Parsed). first_refused x [] 0 x) c.as_slice.ensures.value) ∙ sym c.first_not_built-not_built.ensures ∙ c.in-None.is in
    fit_of (files_of c.args.inputs.now) c.in_ok-parsed.parsed.items c.in_ok-classes.classes.items c.in_ok-classes-2.classes.items c.in_ok-classes.aspect
    c.in_ok-parsed.ensures.parsed e c.in_ok-classes.ensures.classes c.in_ok-classes.ensures.aspect c.in_ok-classes-2.ensures.same c.in_ok-classes-2.ensures.sound

pub returns-in-Some-clause-refused : goal.returns-in-Some-clause-refused
returns-in-Some-clause-refused c =
    let files = files_of c.args.inputs.now in
    let first = not_built files c.in_ok-parsed.parsed.items c.in_ok-parsed.ensures.parsed c.in-Some.place
    (sym (sym c.in-Some.is ∙ c.first_not_built-not_built.ensures ∙ ap (λ (x : List Parsed). first_refused x [] 0 x) c.as_slice.ensures.value)) in (
      first.0,
      sound_files files c.in_ok-parsed.parsed.items c.in_ok-parsed.ensures.parsed c.in_ok-parsed.ensures.read c.in_ok-classes.classes.items c.in_ok-classes.ensures.classes c.in_ok-classes-2.ensures.sound,
      first.1,
    )

pub returns-in_ok-planned-in-None-clause-planned : goal.returns-in_ok-planned-in-None-clause-planned
returns-in_ok-planned-in-None-clause-planned c =
    let e = sym (ap (λ (x : List Parsed). first_refused x [] 0 x) c.as_slice.ensures.value) ∙ sym c.first_not_built-not_built.ensures ∙ c.in-None.is in
    planned_of (files_of c.args.inputs.now) c.in_ok-parsed.parsed.items c.args.output.now (files_of c.in_ok-planned-in-None.field-0.items) c.in_ok-classes-2.classes.items c.in_ok-classes.aspect
    c.in_ok-parsed.ensures.parsed e (c.in_ok-classes-2.ensures.same ∙ c.in_ok-classes.ensures.classes) c.in_ok-classes.ensures.aspect c.in_ok-planned-in-None.ensures

pub returns-in_ok-planned-in-None-clause-taken : goal.returns-in_ok-planned-in-None-clause-taken
returns-in_ok-planned-in-None-clause-taken c =
    let files = files_of c.args.inputs.now in
    let e = sym (ap (λ (x : List Parsed). first_refused x [] 0 x) c.as_slice.ensures.value) ∙ sym c.first_not_built-not_built.ensures ∙ c.in-None.is in
    taken_of files c.in_ok-parsed.parsed.items c.in_ok-parsed.ensures.parsed
    (sound_files files c.in_ok-parsed.parsed.items c.in_ok-parsed.ensures.parsed c.in_ok-parsed.ensures.read c.in_ok-classes.classes.items c.in_ok-classes.ensures.classes c.in_ok-classes-2.ensures.sound) e
