-- What Strings do.
use Rattle.std.specs.Prelude.{◌≡◌, ℕ, ◌-◌, ◌<◌, ◌&&◌, ◌++◌, Bool, true, false, if◌then◌else◌, nat_le, List, length, take, drop, Option, Some, None, refl, ℤ, pos, negsuc}
use Rattle.std.specs.Str.{bytes_eq}
use Rattle.std.proofs.Common.{sym, ◌∙◌, ap, subst}
use Rattle.std.proofs.lemmas.Bool.{ltb-true}
use Rattle.class_file.specs.Pool.{Reference}
use Rattle.boot_library.specs.declared.rule.LibraryRule.TheVariants as rule
use Rattle.class_world.specs.Tables.{Known}
use Rattle.class_machine.specs.declared.kinds.Fault.{Fault}
use Rattle.class_machine.specs.Values as machine
use Rattle.class_machine.specs.World.{World}
use Rattle.class_machine.specs.Answers.{truth}
use Rattle.class_machine.specs.LibraryCalls as calls
use Rattle.machine_values.specs.declared.values.Ref.{Ref}
use Rattle.machine_values.specs.declared.values.Value.{Value}
use Rattle.machine_values.specs.declared.values.Value.TheVariants.{Int, Long, Float, Double, Null, Reference as Pointer, Token, ReturnAddress}
use Rattle.machine_values.specs.Things.{Things}
use Rattle.machine_values.specs.Standing.{name_of, held, Settled}
use Rattle.machine_requests.specs.Shares.{Others}
use Rattle.machine_requests.specs.Telling.{AreDistinct}
use Rattle.machine_rules.specs.declared.work.Work.{Work}
use Rattle.machine_rules.specs.declared.work.Work.TheVariants.{Results, Faults}
use Rattle.machine_rules.specs.Texts.{units_at, argument_at, unit_in, part_in, same_units_as, truth_value}
use Rattle.machine_rules.specs.Works.{setting_of, Holds, Does}
use Rattle.machine_rules.proofs.Giving.{given_value, units_same, argument_same, argued, done_same, fault_done, truth_same, truth_settled}

-- ---- a unit

char_cases : (w : World) (units : List ℕ) (i : ℤ) → calls.char_in w units i ≡ calls.char_at w (unit_in units i)
char_cases w units (pos i) = refl
char_cases w units (negsuc i) = refl

char_same : (k : Known) (names : ℕ → Reference) (things : Things) (others : Others) (w : World) (at : Ref) (i : ℤ) → AreDistinct k.heads → Holds (setting_of k names) things others w → at.0 < length things.names
    → calls.char_in w (calls.units_in w (name_of k.heads things.names at)) i ≡ calls.char_at w (unit_in (units_at things at.0) i)
char_same k names things others w at i distinct holds known =
    ap (λ units. calls.char_in w units i) (units_same k names things others w at distinct holds known) ∙ char_cases w (units_at things at.0) i

pub char_given : (k : Known) (things : Things) (at : Ref) (i : ℤ) (unit : ℕ) (v : Value) → at.0 < length things.names → unit_in (units_at things at.0) i ≡ Some unit → v ≡ Int (pos unit)
    → Does k things (λ s ns w. calls.char_in w (calls.units_in w (name_of s.heads ns at)) i) things (Results None (Some v))
char_given k things at i unit v known is same =
    done_same k things (λ s ns w. calls.gives (machine.Int (pos unit)) w) (λ s ns w. calls.char_in w (calls.units_in w (name_of s.heads ns at)) i) things (Results None (Some v))
    (λ names others w distinct holds. char_same k names things others w at i distinct holds known ∙ ap (calls.char_at w) is)
    (subst (λ (v' : Value). Does k things (λ s ns w. calls.gives (machine.Int (pos unit)) w) things (Results None (Some v'))) (sym same)
    (given_value k things (Int (pos unit)) (λ s ns w. machine.Int (pos unit)) refl (λ names others w distinct holds. refl)))

pub char_missing : (k : Known) (things : Things) (at : Ref) (i : ℤ) → at.0 < length things.names → unit_in (units_at things at.0) i ≡ None
    → Does k things (λ s ns w. calls.char_in w (calls.units_in w (name_of s.heads ns at)) i) things (Faults Fault.StringIndex)
char_missing k things at i known is =
    done_same k things (λ s ns w. calls.Faults Fault.StringIndex) (λ s ns w. calls.char_in w (calls.units_in w (name_of s.heads ns at)) i) things (Faults Fault.StringIndex)
    (λ names others w distinct holds. char_same k names things others w at i distinct holds known ∙ ap (calls.char_at w) is)
    (fault_done k things Fault.StringIndex)

-- ---- equal texts

pub same_units_same : (k : Known) (names : ℕ → Reference) (things : Things) (others : Others) (w : World) (at : Ref) (v : Value) → AreDistinct k.heads → Holds (setting_of k names) things others w
    → at.0 < length things.names → Settled (length things.names) v
    → same_units_as k.heads things (units_at things at.0) v ≡ calls.same_units w (calls.units_in w (name_of k.heads things.names at)) (held k.heads things.names v)
same_units_same k names things others w at (Pointer b) distinct holds known other =
    ap (λ l. calls.is_string (name_of k.heads things.names b) && bytes_eq l (units_at things b.0)) (sym (units_same k names things others w at distinct holds known))
    ∙ ap (λ l. calls.is_string (name_of k.heads things.names b) && bytes_eq (calls.units_in w (name_of k.heads things.names at)) l) (sym (units_same k names things others w b distinct holds (ltb-true b.0 (length things.names) other)))
same_units_same k names things others w at Null distinct holds known other = refl
same_units_same k names things others w at (Int n) distinct holds known other = refl
same_units_same k names things others w at (Long n) distinct holds known other = refl
same_units_same k names things others w at (Float bits) distinct holds known other = refl
same_units_same k names things others w at (Double bits) distinct holds known other = refl
same_units_same k names things others w at (Token class number) distinct holds known other = refl
same_units_same k names things others w at (ReturnAddress pc) distinct holds known other = refl

pub same_given : (k : Known) (things : Things) (at : Ref) (v : Value) (b : Bool) → at.0 < length things.names → Settled (length things.names) v → b ≡ same_units_as k.heads things (units_at things at.0) v
    → Does k things (λ s ns w. calls.with_argument s.classes w rule.SameText (name_of s.heads ns at) (held s.heads ns v)) things (Results None (Some (truth_value b)))
same_given k things at v b known other is =
    given_value k things (truth_value b) (λ s ns w. truth (calls.same_units w (calls.units_in w (name_of s.heads ns at)) (held s.heads ns v))) (truth_settled (length things.names) b)
    (λ names others w distinct holds. truth_same k.heads things.names b ∙ ap truth (is ∙ same_units_same k names things others w at v distinct holds known other))

-- ---- texts, one behind the other

abbrev pub concatenated : List ℕ → Option (List ℕ) → World → calls.Work
concatenated units text w = calls.unless_null_text text (λ more. calls.new_text (units ++ more) w)

concat_same : (k : Known) (names : ℕ → Reference) (things : Things) (others : Others) (w : World) (at : Ref) (v : Value) (text : Option (Option (List ℕ))) → AreDistinct k.heads → Holds (setting_of k names) things others w
    → at.0 < length things.names → Settled (length things.names) v → argument_at k.heads things v ≡ text
    → calls.with_argument (setting_of k names).classes w rule.Concat (name_of k.heads things.names at) (held k.heads things.names v) ≡ argued text (λ o. concatenated (units_at things at.0) o w)
concat_same k names things others w at v text distinct holds known other is =
    argument_same k names things others w v (λ o. concatenated (calls.units_in w (name_of k.heads things.names at)) o w) distinct holds other
    ∙ ap (λ t. argued t (λ o. concatenated (calls.units_in w (name_of k.heads things.names at)) o w)) is
    ∙ ap (λ l. argued text (λ o. concatenated l o w)) (units_same k names things others w at distinct holds known)

pub concat_done : (k : Known) (things : Things) (at : Ref) (v : Value) (text : Option (Option (List ℕ))) (after : Things) (work : Work) → at.0 < length things.names → Settled (length things.names) v
    → argument_at k.heads things v ≡ text → Does k things (λ s ns w. argued text (λ o. concatenated (units_at things at.0) o w)) after work
    → Does k things (λ s ns w. calls.with_argument s.classes w rule.Concat (name_of s.heads ns at) (held s.heads ns v)) after work
concat_done k things at v text after work known other is done =
    done_same k things (λ s ns w. argued text (λ o. concatenated (units_at things at.0) o w)) (λ s ns w. calls.with_argument s.classes w rule.Concat (name_of s.heads ns at) (held s.heads ns v)) after work
    (λ names others w distinct holds. concat_same k names things others w at v text distinct holds known other is) done

-- ---- a part

abbrev pub of_part : World → Option (List ℕ) → calls.Work
of_part w None = calls.Faults Fault.StringIndex
of_part w (Some units) = calls.new_text units w

part_cases : (w : World) (units : List ℕ) (begin end : ℤ) → calls.substring w units begin end ≡ of_part w (part_in units begin end)
part_cases w units (pos begin) (pos end) = by (nat_le begin end && nat_le end (length units)) where
  by : (b : Bool) → (if b then calls.new_text (take (end - begin) (drop begin units)) w else calls.Faults Fault.StringIndex) ≡ of_part w (if b then Some (take (end - begin) (drop begin units)) else None)
  by true = refl
  by false = refl
part_cases w units (pos begin) (negsuc end) = refl
part_cases w units (negsuc begin) (pos end) = refl
part_cases w units (negsuc begin) (negsuc end) = refl

pub part_done : (k : Known) (things : Things) (at : Ref) (begin end : ℤ) (part : Option (List ℕ)) (after : Things) (work : Work) → at.0 < length things.names
    → part_in (units_at things at.0) begin end ≡ part → Does k things (λ s ns w. of_part w part) after work
    → Does k things (λ s ns w. calls.substring w (calls.units_in w (name_of s.heads ns at)) begin end) after work
part_done k things at begin end part after work known is done =
    done_same k things (λ s ns w. of_part w part) (λ s ns w. calls.substring w (calls.units_in w (name_of s.heads ns at)) begin end) after work
    (λ names others w distinct holds. ap (λ units. calls.substring w units begin end) (units_same k names things others w at distinct holds known) ∙ part_cases w (units_at things at.0) begin end ∙ ap (of_part w) is) done
