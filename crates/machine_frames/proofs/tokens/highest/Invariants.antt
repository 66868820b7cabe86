use Rattle.std.proofs.Common.{◌≡◌, take}
use Rattle.machine_frames.specs.Tokens.{highest}
use Rattle.machine_frames.proofs.tokens.highest.Given as goal

abbrev pub invariant-loop-held : goal.invariant-loop-held
invariant-loop-held l = l.most ≡ highest (take l.held-index l.values)
