-- What a line in UTF-8 says.
use Rattle.std.specs.Prelude.{Option}
use Rattle.class_lines.specs.declared.line.Line.{Line}
use Rattle.class_lines.specs.Words.{◌>>=◌, Text}
use Rattle.class_lines.specs.Recoding.{modified}
use Rattle.class_lines.specs.Reading.{read_as}

-- nothing is said by a line of blanks alone and by a comment
unfoldable pub heard : Text → Option (Option Line)
heard line = modified line >>= read_as
