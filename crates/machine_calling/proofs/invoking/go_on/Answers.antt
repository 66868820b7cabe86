use Rattle.std.proofs.Common.{ap, subst, arith}
use Rattle.machine_invocations.specs.Keeping.{same_keeps}
use Rattle.machine_invokes.specs.Preparing.{runs_call}
use Rattle.machine_calling.specs.Ran.{RanBy, is_done}
use Rattle.machine_calling.proofs.Restored.{same_equal, same_formed, restored_formed, grows, done_moves, lacks_moves, begins_moves}
use Rattle.machine_calling.proofs.invoking.go_on.Goals as goal

pub restore_frame-requires : goal.restore_frame-requires
restore_frame-requires c = c.requires.there (ap is_done c.in-Begins.is)

pub undo-requires : goal.undo-requires
undo-requires c = let there = c.requires.there (ap is_done c.in-Lacks.is) in omega arith

pub returns-in-Done-clause-moves : goal.returns-in-Done-clause-moves
returns-in-Done-clause-moves c k before prepared left rest mode r prepares can counted ran =
    let old = c.args.state.now in
    let call = c.args.call in
    done_moves k before prepared old left rest mode r call prepares c.in-Done.step (subst (RanBy k prepared old left rest (runs_call r prepares.callee call prepared)) c.in-Done.is ran)

pub returns-in-Begins-clause-moves : goal.returns-in-Begins-clause-moves
returns-in-Begins-clause-moves c k before prepared left rest mode r prepares can counted ran =
    let old = c.args.state.now in
    let call = c.args.call in
    let first = subst (RanBy k prepared old left rest (runs_call r prepares.callee call prepared)) c.in-Begins.is ran in
    begins_moves k before prepared c.restore_frame.new.state left rest mode r call prepares old first (grows before prepared call can).heap c.restore_frame.ensures.same
    (c.restore_frame.ensures.frames before prepared first.own can first.frames counted)

pub returns-in-Lacks-clause-moves : goal.returns-in-Lacks-clause-moves
returns-in-Lacks-clause-moves c k before prepared left rest mode r prepares can counted ran =
    let old = c.args.state.now in
    let call = c.args.call in
    let lacks = subst (RanBy k prepared old left rest (runs_call r prepares.callee call prepared)) c.in-Lacks.is ran in
    let undone = c.undo.ensures before prepared can (same_equal prepared old lacks.same) in
    lacks_moves k before prepared c.end_script.new.state left rest mode r call prepares old c.undo.new.state c.in-Lacks.event c.end_script.result (same_keeps k before c.undo.new.state undone) lacks c.end_script.ensures.ends

pub returns-in-Begins-clause-formed : goal.returns-in-Begins-clause-formed
returns-in-Begins-clause-formed c k before prepared left rest turning can counted ran formed there =
    let old = c.args.state.now in
    let first = subst (RanBy k prepared old left rest turning) c.in-Begins.is ran in
    restored_formed k before prepared old c.restore_frame.new.state first.own first.frames c.restore_frame.ensures.same
    (c.restore_frame.ensures.frames before prepared first.own can first.frames counted) formed there

pub returns-in-Lacks-clause-formed : goal.returns-in-Lacks-clause-formed
returns-in-Lacks-clause-formed c k before prepared left rest turning can counted ran formed there =
    let old = c.args.state.now in
    let lacks = subst (RanBy k prepared old left rest turning) c.in-Lacks.is ran in
    c.end_script.ensures.formed k (same_formed k before c.undo.new.state (c.undo.ensures before prepared can (same_equal prepared old lacks.same)) formed)
