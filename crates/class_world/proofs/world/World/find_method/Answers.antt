use Rattle.std.specs.Prelude.{List, ℕ}
use Rattle.std.proofs.Common.{ap, ◌∙◌}
use Rattle.std.specs.Option.{option_map}
use Rattle.aj_names.specs.declared.types.MemberName.{MemberName}
use Rattle.class_heads.specs.Searches.{find_method}
use Rattle.class_heads.specs.Numbers.{number_of, method_counts}
use Rattle.class_world.specs.Found.{member_named}
use Rattle.class_world.proofs.world.World.find_method.Goals as goal

pub returns-clause-number : goal.returns-clause-number
returns-clause-number c =
    let heads = c.args.self.now.heads in
    let wanted = λ (member : MemberName). option_map (number_of (method_counts heads)) (find_method heads c.args.class.0 member) in
    c.find_method_named.ensures.number
    ∙ ap (λ (name : List ℕ). wanted (member_named name c.as_slice-2.result.now)) c.as_slice.ensures
    ∙ ap (λ (descriptor : List ℕ). wanted (member_named c.args.member.now.name descriptor)) c.as_slice-2.ensures
