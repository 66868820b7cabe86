use Rattle.std.proofs.Common.{List, [], subst}
use Rattle.std.proofs.lemmas.Result.{err_from_is_err_and}
use Rattle.machine_values.specs.declared.script.EntryArg.{EntryArg}
use Rattle.run_lines.specs.declared.entry.EntryWords.{EntryWords}
use Rattle.run_lines.specs.Splits.{Text, IsLastSplit}
use Rattle.run_lines.specs.Lists.{IsListAt}
use Rattle.run_lines.specs.Names.{IsDottedClass, IsMethodText}
use Rattle.run_lines.specs.Arguments.{IsArgument}
use Rattle.run_lines.specs.EntryWord.{IsEntryWord}
use Rattle.run_lines.proofs.Refusing.{refused, emptied, not_emptied, left, right}
use Rattle.run_lines.proofs.EntryRead.{cut_made, entry_made, entry_parts, entry_is}
use Rattle.run_lines.proofs.entry.entry_words.Goals as goal

pub returns-in_default : goal.returns-in_default
returns-in_default c = λ y h. c.in_default.ensures (h.name, h.arguments) h.bracket

pub returns-in_default-split_at_last : goal.returns-in_default-split_at_last
returns-in_default-split_at_last c = λ y h.
    c.in_default-split_at_last.ensures (h.class, h.method)
    (subst (λ (n : Text). IsLastSplit 46 n h.class h.method) (left c.in-Some.name.now h.name c.in-Some.args.now h.arguments (c.in-Some.ensures.1 (h.name, h.arguments) h.bracket)) h.dot)

pub returns-in_err-class : goal.returns-in_err-class
returns-in_err-class c =
    let p = err_from_is_err_and c.from_residual.result c.from_residual.ensures.1 in
    let word = c.args.word.now in let class = c.in-Some-split_at_last.class.now in let method = c.in-Some-split_at_last.method.now in let arguments = c.in-Some.args.now in
    let cut = cut_made word c.in-Some.name.now class method arguments c.in-Some.ensures.0 c.in-Some-split_at_last.ensures.0 in
    rw (p.1, p.2) (refused (λ (y : EntryWords). IsEntryWord y word) (λ (z : Text). IsDottedClass z class) _ (λ y h. (y.class, (entry_parts word class method arguments y cut h).is_class)) c.in_err-class.ensures)

pub returns-in_err-method : goal.returns-in_err-method
returns-in_err-method c =
    let p = err_from_is_err_and c.from_residual-in_err-method.result c.from_residual-in_err-method.ensures.1 in
    let word = c.args.word.now in let class = c.in-Some-split_at_last.class.now in let method = c.in-Some-split_at_last.method.now in let arguments = c.in-Some.args.now in
    let cut = cut_made word c.in-Some.name.now class method arguments c.in-Some.ensures.0 c.in-Some-split_at_last.ensures.0 in
    rw (p.1, p.2) (refused (λ (y : EntryWords). IsEntryWord y word) (λ (z : Text). IsMethodText z method) _ (λ y h. (y.method, (entry_parts word class method arguments y cut h).is_method)) c.in_err-method.ensures)

pub returns-in_err-args : goal.returns-in_err-args
returns-in_err-args c =
    let p = err_from_is_err_and c.from_residual-in_err-args.result c.from_residual-in_err-args.ensures.1 in
    let word = c.args.word.now in let class = c.in-Some-split_at_last.class.now in let method = c.in-Some-split_at_last.method.now in let arguments = c.in-Some.args.now in
    let cut = cut_made word c.in-Some.name.now class method arguments c.in-Some.ensures.0 c.in-Some-split_at_last.ensures.0 in
    rw (p.1, p.2) (refused (λ (y : EntryWords). IsEntryWord y word) (λ (z : List EntryArg × Text). IsListAt IsArgument 41 arguments z.0 z.1) _ (λ y h. ((y.args, []), (entry_parts word class method arguments y cut h).are_arguments)) c.in_err-args.ensures)

pub returns-then-is_empty : goal.returns-then-is_empty
returns-then-is_empty c =
    let word = c.args.word.now in let class = c.in-Some-split_at_last.class.now in let method = c.in-Some-split_at_last.method.now in let arguments = c.in-Some.args.now in
    let cut = cut_made word c.in-Some.name.now class method arguments c.in-Some.ensures.0 c.in-Some-split_at_last.ensures.0 in
    let args = c.in_ok-args.args in let behind = c.in_ok-args.behind.now in
    let none = emptied behind c.is_empty.result c.is_empty.ensures c.if-is_empty.true in
    let entry : EntryWords = record { class = c.in_ok-class.class; method = c.in_ok-method.method; args = args } in (
      entry_made word class method arguments entry cut (record {
        is_class = c.in_ok-class.ensures.0;
        is_method = c.in_ok-method.ensures.0;
        are_arguments = subst (λ (b : Text). IsListAt IsArgument 41 arguments args b) none c.in_ok-args.ensures.0;
      }),
      λ y h. let parts = entry_parts word class method arguments y cut h in
          entry_is y entry (c.in_ok-class.ensures.1 y.class parts.is_class) (c.in_ok-method.ensures.1 y.method parts.is_method) (left args y.args behind [] (c.in_ok-args.ensures.1 (y.args, []) parts.are_arguments)),
    )

pub returns-else-is_empty : goal.returns-else-is_empty
returns-else-is_empty c =
    let word = c.args.word.now in let class = c.in-Some-split_at_last.class.now in let method = c.in-Some-split_at_last.method.now in let arguments = c.in-Some.args.now in
    let cut = cut_made word c.in-Some.name.now class method arguments c.in-Some.ensures.0 c.in-Some-split_at_last.ensures.0 in
    let args = c.in_ok-args.args in let behind = c.in_ok-args.behind.now in
    λ y h. let parts = entry_parts word class method arguments y cut h in
    not_emptied behind c.is_empty.result c.is_empty.ensures c.if-is_empty.false (right args y.args behind [] (c.in_ok-args.ensures.1 (y.args, []) parts.are_arguments))
