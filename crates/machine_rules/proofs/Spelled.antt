-- Values as texts.
use Rattle.std.specs.Prelude.{◌≡◌, ℕ, List, length, Option, Some, None, refl}
use Rattle.std.specs.Option.{option_map}
use Rattle.std.proofs.Common.{sym, ◌∙◌, ap}
use Rattle.boot_library.specs.declared.rule.Spelling.{Spelling}
use Rattle.boot_library.specs.declared.rule.Spelling.TheVariants.{OfText, OfObject, OfInt, OfLong, OfChar, OfBoolean}
use Rattle.class_world.specs.Tables.{Known}
use Rattle.class_machine.specs.Classes.{Classes}
use Rattle.class_machine.specs.LibraryCalls as calls
use Rattle.class_machine.specs.World.{World}
use Rattle.machine_values.specs.declared.frames.Destination.{Destination}
use Rattle.machine_values.specs.declared.values.Value.{Value}
use Rattle.machine_values.specs.declared.values.Value.TheVariants.{Int, Long, Float, Double, Null, Reference as Pointer, Token, ReturnAddress}
use Rattle.machine_values.specs.declared.names.Name.{Name}
use Rattle.machine_values.specs.Standing.{held, Settled}
use Rattle.machine_values.specs.Things.{Things}
use Rattle.machine_rules.specs.declared.work.Work.{Work}
use Rattle.machine_rules.specs.Finishing.{destination_of}
use Rattle.machine_rules.specs.Spelling.{number_text, plain_text}
use Rattle.machine_rules.specs.Texts.{argument_at}
use Rattle.machine_rules.specs.Works.{setting_of, Does}
use Rattle.machine_rules.proofs.Giving.{argument_same, argued, done_same}
use Rattle.class_heads.specs.declared.types.ClassHead.{ClassHead}

-- what is done with a text that there is
abbrev pub of_text : Option (List ℕ) → calls.Wait → World → calls.Work
of_text None wait w = calls.Misuses
of_text (Some units) wait w = calls.finish_units wait units w

-- ---- numbers

module _ (heads : List ClassHead) (names : List Name) (cs : Classes) (w : World) (wait : calls.Wait) where
  of_int : (v : Value) → calls.spelled cs w OfInt (held heads names v) wait ≡ of_text (number_text OfInt v) wait w
  of_int (Int n) = refl
  of_int (Long n) = refl
  of_int (Float bits) = refl
  of_int (Double bits) = refl
  of_int Null = refl
  of_int (Pointer at) = refl
  of_int (Token class number) = refl
  of_int (ReturnAddress pc) = refl

  of_long : (v : Value) → calls.spelled cs w OfLong (held heads names v) wait ≡ of_text (number_text OfLong v) wait w
  of_long (Int n) = refl
  of_long (Long n) = refl
  of_long (Float bits) = refl
  of_long (Double bits) = refl
  of_long Null = refl
  of_long (Pointer at) = refl
  of_long (Token class number) = refl
  of_long (ReturnAddress pc) = refl

  of_char : (v : Value) → calls.spelled cs w OfChar (held heads names v) wait ≡ of_text (number_text OfChar v) wait w
  of_char (Int n) = refl
  of_char (Long n) = refl
  of_char (Float bits) = refl
  of_char (Double bits) = refl
  of_char Null = refl
  of_char (Pointer at) = refl
  of_char (Token class number) = refl
  of_char (ReturnAddress pc) = refl

  of_boolean : (v : Value) → calls.spelled cs w OfBoolean (held heads names v) wait ≡ of_text (number_text OfBoolean v) wait w
  of_boolean (Int n) = refl
  of_boolean (Long n) = refl
  of_boolean (Float bits) = refl
  of_boolean (Double bits) = refl
  of_boolean Null = refl
  of_boolean (Pointer at) = refl
  of_boolean (Token class number) = refl
  of_boolean (ReturnAddress pc) = refl

-- ---- Strings

null_text : (o : Option (Option (List ℕ))) (wait : calls.Wait) (w : World) → argued o (λ units. calls.finish_units wait (calls.text_or_null units) w) ≡ of_text (option_map calls.text_or_null o) wait w
null_text None wait w = refl
null_text (Some units) wait w = refl

-- ---- all but objects

pub plain_spelled : (k : Known) (things : Things) (how : Spelling) (v : Value) (to : Destination) (text : Option (List ℕ)) (after : Things) (work : Work) → (how ≡ OfObject → ⊥) → Settled (length things.names) v
    → text ≡ plain_text k.heads things how v → Does k things (λ s ns w. of_text text (destination_of s ns to) w) after work
    → Does k things (λ s ns w. calls.spelled s.classes w how (held s.heads ns v) (destination_of s ns to)) after work
plain_spelled k things OfObject v to text after work other known is done = absurd (other refl)
plain_spelled k things OfText v to text after work other known is done =
    done_same k things (λ s ns w. of_text text (destination_of s ns to) w) (λ s ns w. calls.spelled s.classes w OfText (held s.heads ns v) (destination_of s ns to)) after work
    (λ names others w distinct holds.
    let wait = destination_of (setting_of k names) things.names to in
    argument_same k names things others w v (λ units. calls.finish_units wait (calls.text_or_null units) w) distinct holds known ∙ null_text (argument_at k.heads things v) wait w
    ∙ ap (λ (o : Option (List ℕ)). of_text o wait w) (sym is)) done
plain_spelled k things OfInt v to text after work other known is done =
    done_same k things (λ s ns w. of_text text (destination_of s ns to) w) (λ s ns w. calls.spelled s.classes w OfInt (held s.heads ns v) (destination_of s ns to)) after work
    (λ names others w distinct holds.
    let s = setting_of k names in
    let wait = destination_of s things.names to in
    of_int k.heads things.names s.classes w wait v ∙ ap (λ (o : Option (List ℕ)). of_text o wait w) (sym is)) done
plain_spelled k things OfLong v to text after work other known is done =
    done_same k things (λ s ns w. of_text text (destination_of s ns to) w) (λ s ns w. calls.spelled s.classes w OfLong (held s.heads ns v) (destination_of s ns to)) after work
    (λ names others w distinct holds.
    let s = setting_of k names in
    let wait = destination_of s things.names to in
    of_long k.heads things.names s.classes w wait v ∙ ap (λ (o : Option (List ℕ)). of_text o wait w) (sym is)) done
plain_spelled k things OfChar v to text after work other known is done =
    done_same k things (λ s ns w. of_text text (destination_of s ns to) w) (λ s ns w. calls.spelled s.classes w OfChar (held s.heads ns v) (destination_of s ns to)) after work
    (λ names others w distinct holds.
    let s = setting_of k names in
    let wait = destination_of s things.names to in
    of_char k.heads things.names s.classes w wait v ∙ ap (λ (o : Option (List ℕ)). of_text o wait w) (sym is)) done
plain_spelled k things OfBoolean v to text after work other known is done =
    done_same k things (λ s ns w. of_text text (destination_of s ns to) w) (λ s ns w. calls.spelled s.classes w OfBoolean (held s.heads ns v) (destination_of s ns to)) after work
    (λ names others w distinct holds.
    let s = setting_of k names in
    let wait = destination_of s things.names to in
    of_boolean k.heads things.names s.classes w wait v ∙ ap (λ (o : Option (List ℕ)). of_text o wait w) (sym is)) done
