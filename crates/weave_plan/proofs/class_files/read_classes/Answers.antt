use Rattle.std.proofs.Common.{List, Vec, Global, ap, ◌∙◌}
use Rattle.std.proofs.lemmas.Result.{err_from_is_err_and}
use Rattle.class_file.specs.declared.types.ClassFile.{ClassFile}
use Rattle.weave_plan.specs.Faults.{AreUnread}
use Rattle.weave_plan.specs.Plan.{files_of}
use Rattle.weave_plan.proofs.ReadClasses.{first_unread, unread_of, class_read, none_read}
use Rattle.weave_plan.proofs.class_files.read_classes.Goals.{in-Some+in_ok-push, in_default}
use Rattle.weave_plan.proofs.class_files.read_classes.Goals as goal

abbrev items_of : Vec ClassFile Global → List ClassFile
items_of classes = classes.items

pub returns-in_err-class-clause-unread : goal.returns-in_err-class-clause-unread
returns-in_err-class-clause-unread c =
    let p = err_from_is_err_and c.from_residual.result c.from_residual.ensures.1 in
    unread_of (AreUnread (files_of c.args.files.now)) c.from_residual.result p.0 c.in_err-class.field-0.0 p.1 p.2
    (first_unread c.args.files.now c.loop-place.place c.index-files-place.result c.in_err-class.field-0.0 c.loop-place-test.true c.index-files-place.is c.loop-place.invariant.read c.in_err-class.ensures.unread)

pub loop-place-preserved : goal.loop-place-preserved
loop-place-preserved c = elim c.match-branch-2.branch [
  | in-Some+in_ok-push w ↦
      class_read c.args.files.now c.loop-place.classes.items c.match-branch-2.classes.items c.loop-place.place c.index-files-place.result c.in_ok-class.field-0 w.in-Some.class
      c.loop-place-test.true c.index-files-place.is c.loop-place.invariant c.in_ok-class.ensures.class w.in-Some.is (ap items_of w.classes-is ∙ w.in_ok-push.ensures.items)
  | in_default w ↦
      none_read c.args.files.now c.loop-place.classes.items c.match-branch-2.classes.items c.loop-place.place c.index-files-place.result c.in_ok-class.field-0
      c.loop-place-test.true c.index-files-place.is c.loop-place.invariant c.in_ok-class.ensures.class w.in_default.is (ap items_of w.classes-is)
]
