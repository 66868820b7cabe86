use Rattle.std.specs.Prelude.{ℕ, ℤ, nat_lt, List, [], ◌∷◌, None, refl}
use Rattle.std.proofs.Common.{ap, subst}
use Rattle.std.proofs.lemmas.Bool.{and_from}
use Rattle.std.specs.Int.{w32}
use Rattle.std.proofs.lemmas.Int.{to_z-of_z}
use Rattle.aj_names.specs.Descriptors.{base_spelling}
use Rattle.class_machine.specs.Answers.{answer}
use Rattle.class_machine.specs.Effect.{MakeArray}
use Rattle.machine_requests.specs.Replies.{Replies}
use Rattle.machine_requests.specs.Shares.{others_of}
use Rattle.machine_requests.specs.Telling.{is_plain_base}
use Rattle.machine_basics.proofs.Bare.{bare_types}
use Rattle.machine_basics.proofs.Kept.{distinct_of, both_ok}
use Rattle.machine_basics.proofs.Restored.{if_ok}
use Rattle.machine_basics.proofs.asking.make.Goals as goal

pub make_array-requires : goal.make_array-requires
make_array-requires c = and_from (is_plain_base c.in-Some.base) (nat_lt 0 1) c.in-Some.ensures.1 refl

pub returns-clause-made : goal.returns-clause-made
returns-clause-made c =
    let old = c.args.state.now in
    let k = c.args.world.now in
    if_ok _ _ c.make_array.result (λ reply both. record {
      same = refl;
      names = c.make_array.ensures.names;
      replies = λ m w is shares. subst (λ (type : List ℕ). Replies m.setting c.make_array.new.heap (others_of old) w reply (answer m.setting.classes w (MakeArray None type (c.args.size ∷ [])))) (ap (λ l. 91 ∷ l) c.in-Some.ensures.0)
          (subst (λ (i : ℤ). Replies m.setting c.make_array.new.heap (others_of old) w reply (answer m.setting.classes w (MakeArray None (91 ∷ base_spelling c.in-Some.base) (i ∷ [])))) (to_z-of_z w32 c.args.size c.ranges.size)
          (both.0 (others_of old) None m.setting w (distinct_of k m is) shares));
      filled = λ m w is shares filled. both.1 m.setting (bare_types k c.requires m is) shares.heap.objects.whole filled;
    }) (both_ok _ _ c.make_array.result c.make_array.ensures.ok c.make_array.ensures.filled)
