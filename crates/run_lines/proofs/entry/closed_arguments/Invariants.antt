use Rattle.std.proofs.Common.{length}
use Rattle.run_lines.specs.Arguments.{IsArgument}
use Rattle.run_lines.proofs.Listing.{IsBehind}
use Rattle.run_lines.proofs.entry.closed_arguments.Given as goal

abbrev pub invariant-loop-args : goal.invariant-loop-args
invariant-loop-args l = IsBehind IsArgument 41 l.text l.rest l.args

abbrev pub decreases-loop-args : goal.decreases-loop-args
decreases-loop-args l = length l.rest
