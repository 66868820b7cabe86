use Rattle.std.proofs.Common.{◌++◌, ℕ, List, ap, ◌∙◌}
use Rattle.std.specs.Prelude.{codes}
use Rattle.std.proofs.lemmas.Result.{on_ok_weaker}
use Rattle.class_machine.specs.Classes.{dotted}
use Rattle.run_lines.proofs.Printed.{joined}
use Rattle.run_lines.proofs.values.put_init_failed.Goals as goal

pub returns : goal.returns
returns c =
    let old = c.args.out.now.items in
    on_ok_weaker c.put_dotted.result
    (λ e. joined old c.put.new.out.items c.put_dotted.new.out.items (codes "init-failed ") _ c.in_ok-put.ensures e ∙ ap (λ (n : List ℕ). old ++ (codes "init-failed " ++ dotted n)) c.as_slice.ensures) c.put_dotted.ensures
