use Rattle.std.proofs.Common.{sym, ◌∙◌}
use Rattle.std.proofs.lemmas.Bool.{false≢true}
use Rattle.std.proofs.lemmas.Result.{IfOk-weaker}
use Rattle.machine_statics.proofs.Returned.{frame_split}
use Rattle.machine_returns.proofs.Brought.{frame_within, wait_known, text_returned, return_broken, brings, brings_other, brings_none}
use Rattle.machine_returns.proofs.returning.return_text.Goals as goal

pub leave_within-requires-clause-wait : goal.leave_within-requires-clause-wait
leave_within-requires-clause-wait c =
    let old = c.args.state.now in
    let g = c.in-Some.frame.now in
    wait_known c.args.world.now old c.requires.there _ g (frame_split old.frames.items c.deref.result.now g c.deref.ensures.value c.in-Some.ensures.value) c.in-Within.wait c.in-Within.is

pub leave_within-requires-clause-settled : goal.leave_within-requires-clause-settled
leave_within-requires-clause-settled c =
    let old = c.args.state.now in
    let g = c.in-Some.frame.now in
    c.in-Some-result_of.ensures.known _ (frame_within c.args.world.now old c.requires.there _ g (frame_split old.frames.items c.deref.result.now g c.deref.ensures.value c.in-Some.ensures.value))

pub returns-in_default-clause-moves : goal.returns-in_default-clause-moves
returns-in_default-clause-moves c brought =
    absurd (false≢true (sym (brings_none c.args.state.now.frames.items c.deref.result.now c.deref.ensures.value c.in_default.ensures.value) ∙ brought))

pub returns-in_default-purpose-clause-moves : goal.returns-in_default-purpose-clause-moves
returns-in_default-purpose-clause-moves c brought =
    absurd (false≢true (sym (brings_other c.args.state.now.frames.items c.deref.result.now c.in-Some.frame.now c.deref.ensures.value c.in-Some.ensures.value c.in_default-purpose.not-Within) ∙ brought))

pub returns-in-Some-result_of-clause-moves : goal.returns-in-Some-result_of-clause-moves
returns-in-Some-result_of-clause-moves c brought =
    let k = c.args.world.now in
    let old = c.args.state.now in
    let g = c.in-Some.frame.now in
    IfOk-weaker c.leave_within.result _ _ (λ step moves.
    text_returned k old c.args.kind c.result_kind-returns.result c.in-Within.wait _ g (frame_split old.frames.items c.deref.result.now g c.deref.ensures.value c.in-Some.ensures.value) c.in-Within.is c.result_kind-returns.ensures
    c.leave_within.new.state step c.in-Some-result_of.value c.in-Some-result_of.ensures moves) c.leave_within.ensures.moves

pub returns-in-Some-result_of-clause-others : goal.returns-in-Some-result_of-clause-others
returns-in-Some-result_of-clause-others c other =
    absurd (false≢true (sym other ∙ brings c.args.state.now.frames.items c.deref.result.now c.in-Some.frame.now c.in-Within.wait c.deref.ensures.value c.in-Some.ensures.value c.in-Within.is))

pub returns-in-None-clause-moves : goal.returns-in-None-clause-moves
returns-in-None-clause-moves c brought =
    let k = c.args.world.now in
    let old = c.args.state.now in
    let g = c.in-Some.frame.now in
    return_broken k old c.args.kind c.result_kind-returns.result c.in-Within.wait _ g (frame_split old.frames.items c.deref.result.now g c.deref.ensures.value c.in-Some.ensures.value) c.in-Within.is c.result_kind-returns.ensures
    old c.in-None.ensures

pub returns-in-None-clause-others : goal.returns-in-None-clause-others
returns-in-None-clause-others c other =
    absurd (false≢true (sym other ∙ brings c.args.state.now.frames.items c.deref.result.now c.in-Some.frame.now c.in-Within.wait c.deref.ensures.value c.in-Some.ensures.value c.in-Within.is))
