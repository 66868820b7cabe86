use Rattle.class_lines.proofs.LinesRead.{line_read}
use Rattle.class_lines.proofs.printing.put_line.Goals as goal

pub returns-clause-read_back : goal.returns-clause-read_back
returns-clause-read_back c = line_read c.args.line.now
