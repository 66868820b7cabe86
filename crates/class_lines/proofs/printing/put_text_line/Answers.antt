use Rattle.class_lines.proofs.TextLines.{line_heard, line_is_one}
use Rattle.class_lines.proofs.printing.put_text_line.Goals as goal

pub returns-clause-heard_back : goal.returns-clause-heard_back
returns-clause-heard_back c = line_heard c.args.line.now

pub returns-clause-one_line : goal.returns-clause-one_line
returns-clause-one_line c = line_is_one c.args.line.now

pub returns-in_err-put_text-clause-heard_back : goal.returns-in_err-put_text-clause-heard_back
returns-in_err-put_text-clause-heard_back c = line_heard c.args.line.now

pub returns-in_err-put_text-clause-one_line : goal.returns-in_err-put_text-clause-one_line
returns-in_err-put_text-clause-one_line c = line_is_one c.args.line.now
