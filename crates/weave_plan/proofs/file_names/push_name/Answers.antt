use Rattle.std.proofs.Common.{IsUtf8, subst, sym, ◌∙◌}
use Rattle.weave_plan.proofs.Utf8.{name_is_text}
use Rattle.weave_plan.proofs.file_names.push_name.Goals as goal

pub unreachable-requires : goal.unreachable-requires
unreachable-requires c = c.in-Err.ensures.cases.0 (subst IsUtf8 (sym (c.as_slice.ensures.value ∙ c.in_ok-bytes.ensures)) (name_is_text c.args.name.now c.requires))
