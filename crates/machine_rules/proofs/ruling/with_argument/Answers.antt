use Rattle.std.proofs.Common.{sym, subst}
use Rattle.std.proofs.lemmas.Result.{IfOk-weaker}
use Rattle.boot_library.specs.declared.rule.LibraryRule.{LibraryRule}
use Rattle.class_machine.specs.LibraryCalls as calls
use Rattle.machine_values.specs.Standing.{name_of, held}
use Rattle.machine_rules.specs.Fields.{AreWhole}
use Rattle.machine_rules.specs.Works.{Does}
use Rattle.machine_rules.proofs.RuledWork.{whole_still, unchanged}
use Rattle.machine_rules.proofs.ruling.with_argument.Goals as goal

pub returns-in-Append-clause-work : goal.returns-in-Append-clause-work
returns-in-Append-clause-work c =
    let k = c.args.world.now in
    let things = c.args.heap.now in
    IfOk-weaker c.append_value.result _ _ (λ work done. subst (λ (r : LibraryRule). AreWhole k things → Does k things (λ s ns w. calls.with_argument s.classes w r (name_of s.heads ns c.args.at) (held s.heads ns c.args.value)) c.append_value.new.heap work) (sym c.in-Append.is) (λ whole. done)) c.append_value.ensures.work

pub returns-in-Print-clause-work : goal.returns-in-Print-clause-work
returns-in-Print-clause-work c =
    let k = c.args.world.now in
    let things = c.args.heap.now in
    IfOk-weaker c.print_value.result _ _ (λ work done. subst (λ (r : LibraryRule). AreWhole k things → Does k things (λ s ns w. calls.with_argument s.classes w r (name_of s.heads ns c.args.at) (held s.heads ns c.args.value)) c.print_value.new.heap work) (sym c.in-Print.is) (λ whole. done)) c.print_value.ensures.work

pub returns-in-Concat-clause-filled : goal.returns-in-Concat-clause-filled
returns-in-Concat-clause-filled c =
    IfOk-weaker c.concat.result _ _ (λ work fills. whole_still c.args.world.now c.args.heap.now c.concat.new.heap c.requires.library fills) c.concat.ensures.filled

pub returns-in-Print-clause-filled : goal.returns-in-Print-clause-filled
returns-in-Print-clause-filled c =
    IfOk-weaker c.print_value.result _ _ (λ work fills. whole_still c.args.world.now c.args.heap.now c.print_value.new.heap c.requires.library fills) c.print_value.ensures.filled

pub returns-in-Append-clause-filled : goal.returns-in-Append-clause-filled
returns-in-Append-clause-filled c =
    IfOk-weaker c.append_value.result _ _ (λ work fills. whole_still c.args.world.now c.args.heap.now c.append_value.new.heap c.requires.library fills) c.append_value.ensures.filled

pub returns-in-SameObject-clause-changes : goal.returns-in-SameObject-clause-changes
returns-in-SameObject-clause-changes c = unchanged c.args.heap.now c.same_object.result

pub returns-in-CharAt-clause-changes : goal.returns-in-CharAt-clause-changes
returns-in-CharAt-clause-changes c = unchanged c.args.heap.now c.char_of.result

pub returns-in-SameText-clause-changes : goal.returns-in-SameText-clause-changes
returns-in-SameText-clause-changes c = unchanged c.args.heap.now c.same_text.result

pub returns-in-SameBox-clause-changes : goal.returns-in-SameBox-clause-changes
returns-in-SameBox-clause-changes c = unchanged c.args.heap.now c.same_box.result
