-- Work that gives a value, and work that does nothing to the heap.
use Rattle.std.specs.Prelude.{◌≡◌, ℕ, ◌<◌, Bool, true, false, if◌then◌else◌, List, [], length, Option, Some, None, refl}
use Rattle.std.specs.Option.{unwrap_or}
use Rattle.std.proofs.Common.{sym, ◌∙◌, ap, subst}
use Rattle.std.proofs.lemmas.Bool.{lt-ltb, ltb-true, false≢true}
use Rattle.class_file.specs.Pool.{Reference}
use Rattle.class_heads.specs.declared.types.ClassHead.{ClassHead}
use Rattle.class_world.specs.Tables.{Known}
use Rattle.class_machine.specs.Answers.{truth}
use Rattle.class_machine.specs.declared.kinds.Fault.{Fault}
use Rattle.class_machine.specs.Values as machine
use Rattle.class_machine.specs.Values.{Held}
use Rattle.class_machine.specs.World as worlds
use Rattle.class_machine.specs.World.{World}
use Rattle.class_machine.specs.LibraryCalls as calls
use Rattle.machine_values.specs.declared.values.Ref.{Ref}
use Rattle.machine_values.specs.declared.values.Value.{Value}
use Rattle.machine_values.specs.declared.values.Value.TheVariants.{Int, Long, Float, Double, Null, Reference as Pointer, Token, ReturnAddress}
use Rattle.machine_values.specs.declared.names.Name.{Name}
use Rattle.machine_values.specs.Things.{Things}
use Rattle.machine_values.specs.Standing.{name_of, held, Settled}
use Rattle.machine_requests.specs.Shares.{Setting, Others}
use Rattle.machine_requests.specs.Telling.{AreDistinct}
use Rattle.machine_rules.specs.declared.work.Work.{Work}
use Rattle.machine_rules.specs.declared.work.Work.TheVariants.{Results, Faults, Misuses}
use Rattle.machine_rules.specs.Texts.{text_at, units_at, string_of, argument_at, truth_value}
use Rattle.machine_rules.specs.Works.{setting_of, Holds, Asked, Works, Does, AddsText}
use Rattle.machine_rules.proofs.Standing.{text_same}

-- ---- values

abbrev pub Valued : Type 0
Valued = Setting → List Name → World → Held

-- whatever world the heap stands for, the value is that one
abbrev pub IsValue : Known → Things → Value → Valued → Type 0
IsValue k things v value =
    (names : ℕ → Reference) (others : Others) (w : World) → AreDistinct k.heads → Holds (setting_of k names) things others w
    → held k.heads things.names v ≡ value (setting_of k names) things.names w

pub given_value : (k : Known) (things : Things) (v : Value) (value : Valued) → Settled (length things.names) v → IsValue k things v value
    → Does k things (λ s ns w. calls.gives (value s ns w) w) things (Results None (Some v))
given_value k things v value settled is names others w distinct holds = record {
  world = w;
  same = ap (λ h. calls.gives h w) (sym (is names others w distinct holds));
  settled = settled;
  holds = holds;
}

pub units_same : (k : Known) (names : ℕ → Reference) (things : Things) (others : Others) (w : World) (at : Ref) → AreDistinct k.heads → Holds (setting_of k names) things others w → at.0 < length things.names
    → calls.units_in w (name_of k.heads things.names at) ≡ units_at things at.0
units_same k names things others w at distinct holds known = ap (λ o. unwrap_or o []) (text_same (setting_of k names) things others w at.0 distinct holds.shares known)

-- ---- arguments

abbrev pub argued : Option (Option (List ℕ)) → (Option (List ℕ) → calls.Work) → calls.Work
argued None go = calls.Misuses
argued (Some units) go = go units

pub argument_same : (k : Known) (names : ℕ → Reference) (things : Things) (others : Others) (w : World) (v : Value) (go : Option (List ℕ) → calls.Work) → AreDistinct k.heads → Holds (setting_of k names) things others w
    → Settled (length things.names) v → calls.text_argument w (held k.heads things.names v) go ≡ argued (argument_at k.heads things v) go
argument_same k names things others w Null go distinct holds known = refl
argument_same k names things others w (Pointer at) go distinct holds known =
    ap (λ o. if calls.is_string (name_of k.heads things.names at) then go o else calls.Misuses) (text_same (setting_of k names) things others w at.0 distinct holds.shares (ltb-true at.0 (length things.names) known))
    ∙ by (calls.is_string (name_of k.heads things.names at)) where
      by : (is : Bool) → (if is then go (text_at things at.0) else calls.Misuses) ≡ argued (string_of is (text_at things at.0)) go
      by true = refl
      by false = refl
argument_same k names things others w (Int n) go distinct holds known = refl
argument_same k names things others w (Long n) go distinct holds known = refl
argument_same k names things others w (Float bits) go distinct holds known = refl
argument_same k names things others w (Double bits) go distinct holds known = refl
argument_same k names things others w (Token class number) go distinct holds known = absurd (false≢true known)
argument_same k names things others w (ReturnAddress pc) go distinct holds known = absurd (false≢true known)

-- ---- new Strings

pub given_text : (k : Known) (before : Things) (units : List ℕ) (after : Things) (at : Ref) → AddsText k before units after at
    → Does k before (λ s ns w. calls.new_text units w) after (Results None (Some (Pointer at)))
given_text k before units after at added names others w distinct holds =
    let new = added names others w distinct holds in
    record {
      world = (worlds.add_text w units).1;
      same = ap (λ a. calls.gives (machine.Reference a) (worlds.add_text w units).1) (sym new.name);
      settled = lt-ltb at.0 (length after.names) new.within;
      holds = new.holds;
    }

-- ---- the same work

-- what is asked is the same as what was done
pub done_same : (k : Known) (things : Things) (asked other : Asked) (after : Things) (work : Work)
    → ((names : ℕ → Reference) (others : Others) (w : World) → AreDistinct k.heads → Holds (setting_of k names) things others w → other (setting_of k names) things.names w ≡ asked (setting_of k names) things.names w)
    → Does k things asked after work → Does k things other after work
done_same k things asked other after work same done names others w distinct holds =
    subst (Works k (setting_of k names) after others w work) (sym (same names others w distinct holds)) (done names others w distinct holds)

-- nothing is done
pub fault_done : (k : Known) (things : Things) (fault : Fault) → Does k things (λ s ns w. calls.Faults fault) things (Faults fault)
fault_done k things fault names others w distinct holds = record { same = refl; holds = holds }

pub misuse_done : (k : Known) (things : Things) → Does k things (λ s ns w. calls.Misuses) things Misuses
misuse_done k things names others w distinct holds = record { same = refl; holds = holds }

-- ---- truths

pub truth_same : (heads : List ClassHead) (ns : List Name) (b : Bool) → held heads ns (truth_value b) ≡ truth b
truth_same heads ns true = refl
truth_same heads ns false = refl

pub truth_settled : (n : ℕ) (b : Bool) → Settled n (truth_value b)
truth_settled n true = refl
truth_settled n false = refl
