use Rattle.std.proofs.Common.{ℕ, List, refl, ap, sym, ◌∙◌}
use Rattle.std.specs.Int.{w32}
use mir.Val.{to_z, of_z}
use Rattle.std.proofs.lemmas.Int.{to_z-of_z}
use Rattle.class_machine.specs.Values as machine
use Rattle.class_machine.specs.Numbers.{count_int}
use Rattle.class_machine.specs.LibraryCalls.{text_hash}
use Rattle.class_machine.specs.LibraryCalls as calls
use Rattle.machine_values.specs.Standing.{name_of}
use Rattle.machine_values.specs.declared.values.Value.TheVariants.{Int}
use Rattle.machine_rules.proofs.Giving.{given_value, units_same}
use Rattle.machine_rules.proofs.strings.hash_of_text.Goals as goal

pub returns : goal.returns
returns c k =
    let things = c.args.heap.now in
    let n = c.text_hash.result in
    given_value k things (Int (to_z w32 (of_z w32 n))) (λ s ns w. machine.Int (count_int (text_hash (calls.units_in w (name_of s.heads ns c.args.at))))) refl
    (λ names others w distinct holds. ap machine.Int (to_z-of_z w32 n (record { sfits = c.text_hash.type_inv }) ∙ c.text_hash.ensures ∙ ap (λ (l : List ℕ). count_int (text_hash l)) (c.units_at.ensures ∙ sym (units_same k names things others w c.args.at distinct holds c.requires))))
