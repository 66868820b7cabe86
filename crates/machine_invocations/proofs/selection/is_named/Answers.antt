use Rattle.std.proofs.Common.{sym, ap, ◌∙◌}
use Rattle.std.specs.Prelude.{Option, [], unwrap_or}
use Rattle.std.specs.Option.{option_map}
use Rattle.std.specs.Str.{bytes_eq}
use Rattle.class_heads.specs.declared.types.ClassHead.{ClassHead}
use Rattle.machine_invocations.proofs.selection.is_named.Goals as goal

pub returns : goal.returns
returns c =
    c.are_same.ensures ∙ ap (bytes_eq c.args.name.now)
    (c.as_slice.ensures ∙ sym (ap (λ (o : Option ClassHead). unwrap_or (option_map (λ (x : ClassHead). x.name) o) []) c.head.ensures))
