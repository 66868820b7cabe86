use Rattle.std.proofs.Common.{◌≡◌, take}
use Rattle.machine_frames.specs.Tokens.{highest_in}
use Rattle.machine_frames.proofs.tokens.highest_in.Given as goal

abbrev pub invariant-loop-local : goal.invariant-loop-local
invariant-loop-local l = l.most ≡ highest_in (take l.local-index l.locals)
