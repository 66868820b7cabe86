use Rattle.std.proofs.lemmas.Result.{err_from_is_err_and}
use Rattle.run_lines.specs.Splits.{Text}
use Rattle.run_lines.specs.Names.{IsModified, IsMethodText}
use Rattle.run_lines.proofs.Refusing.{refused}
use Rattle.run_lines.proofs.names.read_method.Goals as goal

pub returns-in_err-name : goal.returns-in_err-name
returns-in_err-name c =
    let p = err_from_is_err_and c.from_residual.result c.from_residual.ensures.1 in
    rw (p.1, p.2) (refused (λ (method : Text). IsMethodText method c.args.text.now) (λ (bytes : Text). IsModified bytes c.args.text.now) _ (λ y h. (y, h.is_modified)) c.in_err-name.ensures)
