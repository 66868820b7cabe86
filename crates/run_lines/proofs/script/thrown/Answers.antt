use Rattle.std.proofs.Common.{ℕ, List, ap, ◌∙◌}
use Rattle.std.proofs.lemmas.Result.{err_from_is_err_and}
use Rattle.machine_values.specs.declared.script.Answer.{Answer}
use Rattle.machine_values.specs.declared.script.Answer.TheVariants as answer
use Rattle.run_lines.specs.Splits.{Text}
use Rattle.run_lines.specs.Texts.{IsText}
use Rattle.run_lines.specs.Names.{IsDottedClass}
use Rattle.run_lines.specs.ScriptLines.{IsThrown}
use Rattle.run_lines.proofs.Refusing.{refused}
use Rattle.run_lines.proofs.ScriptRead.{thrown_of, throw_in, throw_made}
use Rattle.run_lines.proofs.script.thrown.Goals as goal

pub returns-in_default : goal.returns-in_default
returns-in_default c = λ y h. let t = thrown_of y c.args.words.now h in c.in_default.ensures (t.thrown.name, t.thrown.quoted) t.thrown.blank

pub returns-in_err-class : goal.returns-in_err-class
returns-in_err-class c =
    let p = err_from_is_err_and c.from_residual.result c.from_residual.ensures.1 in
    let words = c.args.words.now in let name = c.in-Some.class.now in let quoted = c.in-Some.message.now in
    rw (p.1, p.2) (refused (λ (y : Answer). IsThrown y words) (λ (z : Text). IsDottedClass z name) _
    (λ y h. let t = thrown_of y words h in (t.class, (throw_in words name quoted t.class t.message c.in-Some.ensures.0 t.thrown).is_class)) c.in_err-class.ensures)

pub returns-in_err-message : goal.returns-in_err-message
returns-in_err-message c =
    let p = err_from_is_err_and c.from_residual-in_err-message.result c.from_residual-in_err-message.ensures.1 in
    let words = c.args.words.now in let name = c.in-Some.class.now in let quoted = c.in-Some.message.now in
    rw (p.1, p.2) (refused (λ (y : Answer). IsThrown y words) (λ (z : List ℕ). IsText z quoted) _
    (λ y h. let t = thrown_of y words h in (t.message, (throw_in words name quoted t.class t.message c.in-Some.ensures.0 t.thrown).is_message)) c.in_err-message.ensures)

pub returns : goal.returns
returns c =
    let words = c.args.words.now in let name = c.in-Some.class.now in let quoted = c.in-Some.message.now in
    let class = c.in_ok-class.class in let message = c.in_ok-message.message in (
      throw_made words name quoted class message c.in-Some.ensures.0 c.in_ok-class.ensures.0 c.in_ok-message.ensures.0,
      λ y h. let t = thrown_of y words h in let parts = throw_in words name quoted t.class t.message c.in-Some.ensures.0 t.thrown in
          t.are ∙ ap (λ (z : Text). answer.Throw z t.message) (c.in_ok-class.ensures.1 t.class parts.is_class) ∙ ap (λ (z : List ℕ). answer.Throw class z) (c.in_ok-message.ensures.1 t.message parts.is_message),
    )
