use Rattle.std.proofs.Common.{List, ◌∷◌, arith}
use Rattle.std.proofs.lemmas.Result.{err_from_is_err_and}
use Rattle.machine_values.specs.declared.script.EntryArg.{EntryArg}
use Rattle.run_lines.specs.Splits.{Text}
use Rattle.run_lines.specs.Lists.{IsListAt}
use Rattle.run_lines.specs.Arguments.{IsArgument, IsEndedAt}
use Rattle.run_lines.proofs.Refusing.{refused}
use Rattle.run_lines.proofs.Listing.{empty_read, behind_begins, behind_more, behind_closes, behind_only, behind_stuck, behind_leads}
use Rattle.run_lines.proofs.ArgumentWords.{unlike_argument, one_argument, ended_at}
use Rattle.run_lines.proofs.entry.closed_arguments.Goals as goal

pub returns-in-Some : goal.returns-in-Some
returns-in-Some c = empty_read IsArgument 41 unlike_argument c.args.text.now c.in-Some.behind.now c.new-args.result c.new-args.ensures c.in-Some.ensures.0

pub loop-args-init : goal.loop-args-init
loop-args-init c = behind_begins IsArgument 41 c.args.text.now c.new-args.result c.new-args.ensures c.in_default.ensures

pub returns-in_err-arg : goal.returns-in_err-arg
returns-in_err-arg c =
    let p = err_from_is_err_and c.from_residual.result c.from_residual.ensures.1 in
    let start = c.args.text.now in let now = c.loop-args.rest.now in
    rw (p.1, p.2) (refused (λ (y : List EntryArg × Text). IsListAt IsArgument 41 start y.0 y.1) (λ (z : EntryArg × Text). IsEndedAt now z.0 z.1) _
    (λ y l. let s = behind_leads IsArgument 41 start now c.loop-args.args c.loop-args.invariant y l in ((s.value, s.stop ∷ s.rest), ended_at now s.value s.stop s.rest s.is s.at)) c.in_err-arg.ensures)

pub returns-in-Some-behind_byte : goal.returns-in-Some-behind_byte
returns-in-Some-behind_byte c =
    let start = c.args.text.now in let now = c.loop-args.rest.now in let out = c.loop-args.args in let x = c.in_ok-arg.arg in
    let behind = c.in_ok-arg.behind.now in let after = c.in-Some-behind_byte.behind.now in (
      behind_closes IsArgument 41 start now behind after out c.push.new.self x c.loop-args.invariant c.in_ok-arg.ensures.0 c.in-Some-behind_byte.ensures.0 c.in_ok-push.ensures.ok,
      behind_only IsArgument 41 (λ n. omega (arith, n)) start now behind after out c.push.new.self x c.loop-args.invariant (one_argument now behind x c.in_ok-arg.ensures.1) c.in-Some-behind_byte.ensures.0 c.in_ok-push.ensures.ok,
    )

pub returns-in_default-behind_byte-2 : goal.returns-in_default-behind_byte-2
returns-in_default-behind_byte-2 c =
    let start = c.args.text.now in let now = c.loop-args.rest.now in let out = c.loop-args.args in let x = c.in_ok-arg.arg in
    let behind = c.in_ok-arg.behind.now in
    behind_stuck IsArgument 41 start now behind out x c.loop-args.invariant (one_argument now behind x c.in_ok-arg.ensures.1) c.in_default-behind_byte.ensures c.in_default-behind_byte-2.ensures

pub loop-args-preserved : goal.loop-args-preserved
loop-args-preserved c =
    let start = c.args.text.now in let now = c.loop-args.rest.now in let out = c.loop-args.args in let x = c.in_ok-arg.arg in
    let behind = c.in_ok-arg.behind.now in
    behind_more IsArgument 41 (λ n. omega (arith, n)) start now behind c.in-Some-behind_byte-2.next.now out c.push.new.self x c.loop-args.invariant c.in_ok-arg.ensures.0 (one_argument now behind x c.in_ok-arg.ensures.1) c.in-Some-behind_byte-2.ensures.0 c.in_ok-push.ensures.ok
