use Rattle.std.proofs.Common.{length}
use Rattle.run_lines.proofs.printing.+put_type_name.Given as goal

abbrev pub decreases-put_type_name : goal.decreases-put_type_name
decreases-put_type_name l = length l.descriptor.now
