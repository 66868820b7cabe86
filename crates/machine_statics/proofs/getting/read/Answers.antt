use Rattle.std.proofs.Common.{sym, ◌∙◌}
use Rattle.machine_statics.proofs.Reading.{read_given, read_unsettled, read_broken}
use Rattle.machine_statics.proofs.getting.read.Goals as goal

pub returns-then-is_settled-clause-moves : goal.returns-then-is_settled-clause-moves
returns-then-is_settled-clause-moves c r =
    read_given c.args.world.now c.args.state.now c.take_back.new.state r c.args.field.0 c.args.element c.args.initial c.get_static-reply.result c.get_static-reply.ensures c.in-Gives.value c.in-Gives.is c.take_back.result c.take_back.ensures.taken

pub returns-else-is_settled-clause-moves : goal.returns-else-is_settled-clause-moves
returns-else-is_settled-clause-moves c r =
    read_unsettled c.args.world.now c.args.state.now c.args.state.now r c.args.field.0 c.args.element c.args.initial c.get_static-reply.result c.get_static-reply.ensures c.in-Gives.value c.in-Gives.is (sym c.is_settled.ensures ∙ c.if-is_settled.false)

pub returns-in_default-clause-moves : goal.returns-in_default-clause-moves
returns-in_default-clause-moves c r =
    read_broken c.args.world.now c.args.state.now c.args.state.now r c.args.field.0 c.args.element c.args.initial c.get_static-reply.result c.get_static-reply.ensures c.in_default.not-Gives
