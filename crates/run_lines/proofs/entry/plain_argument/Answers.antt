use Rattle.std.specs.Int.{w64}
use Rattle.std.proofs.lemmas.Int.{to_z-of_z}
use Rattle.run_lines.proofs.ArgumentWords.{null_only, long_leads, long_read}
use Rattle.run_lines.proofs.entry.plain_argument.Goals as goal

pub returns-then-is_word : goal.returns-then-is_word
returns-then-is_word c = let e = c.is_word.ensures.0 c.if-is_word.true in (e, null_only c.args.word.now e)

pub returns-in-Some-read_long : goal.returns-in-Some-read_long
returns-in-Some-read_long c =
    let whole = to_z-of_z w64 c.in-Some-read_long.number c.in-Some-read_long.ensures.0.0 in
    rw whole (long_read c.args.word.now c.in-Some.digits.now c.in-Some-read_long.number c.in-Some.ensures.0 c.in-Some.ensures.1 c.in-Some-read_long.ensures.0 c.in-Some-read_long.ensures.1)

pub returns-in-None : goal.returns-in-None
returns-in-None c = λ y h. let l = long_leads c.args.word.now c.in-Some.digits.now c.in-Some.ensures.0 c.in-Some.ensures.1 y h in c.in-None.ensures l.n l.is_long
