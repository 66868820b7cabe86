-- New objects that get a value in a field that the library keeps of its own.
use Rattle.std.specs.Prelude.{◌≡◌, ℕ, ◌<◌, ◌≤◌, false, List, length, refl}
use Rattle.std.proofs.Common.{sym, ◌∙◌, ap, subst, arith, length-append}
use Rattle.std.proofs.lemmas.Bool.{ltb-true, lt-ltb}
use Rattle.class_file.specs.Pool.{Reference}
use Rattle.class_heads.specs.Hierarchy.{name_at}
use Rattle.class_world.specs.Tables.{Known}
use Rattle.class_machine.specs.Values as machine
use Rattle.class_machine.specs.Values.{class_of, Held}
use Rattle.class_machine.specs.Descriptors.{element_of, narrowed}
use Rattle.class_machine.specs.World.{World, write_field, make, is_text_class}
use Rattle.machine_values.specs.declared.names.Name.{Name}
use Rattle.machine_values.specs.declared.values.Ref.{Ref}
use Rattle.machine_values.specs.declared.values.Value.{Value}
use Rattle.machine_values.specs.declared.values.Value.TheVariants as value
use Rattle.machine_values.specs.Standing.{name_of, held, Settled}
use Rattle.machine_values.specs.Things.{Things}
use Rattle.machine_requests.specs.Growth.{held_stays, settled_known}
use Rattle.machine_requests.specs.Objects.{AreFilled}
use Rattle.machine_requests.specs.Replies.{IsLonger}
use Rattle.machine_requests.specs.Shares.{Setting, Others}
use Rattle.machine_requests.specs.Telling.{AreDistinct}
use Rattle.machine_fields.specs.NewObjects as fields
use Rattle.machine_fields.specs.NewObjects.{MakesOf, KeepsFilled}
use Rattle.machine_rules.specs.Fields.{AreWhole, Writes, StaysWhole}
use Rattle.machine_rules.specs.Works.{setting_of, Holds}

pub is_setting : (k : Known) (names : ℕ → Reference) → AreDistinct k.heads → fields.IsSettingOf k (setting_of k names)
is_setting k names distinct = record { heads = refl; classes = refl; distinct = distinct }

-- more objects, and the same values
settled_more : (n m : ℕ) → n ≤ m → (v : Value) → Settled n v → Settled m v
settled_more n m h (value.Reference at) settled = lt-ltb at.0 m (let below = ltb-true at.0 n settled in omega arith)
settled_more n m h (value.Int i) settled = settled
settled_more n m h (value.Long i) settled = settled
settled_more n m h (value.Float bits) settled = settled
settled_more n m h (value.Double bits) settled = settled
settled_more n m h value.Null settled = settled
settled_more n m h (value.Token class number) settled = settled
settled_more n m h (value.ReturnAddress pc) settled = settled

pub longer_settled : (before after : Things) (v : Value) → IsLonger before after → Settled (length before.names) v → Settled (length after.names) v
longer_settled before after v longer settled =
    settled_more (length before.names) (length after.names) (let e = ap (λ (ns : List Name). length ns) longer.1 in let more = length-append before.names longer.0 in omega arith) v settled

pub longer_held : (k : Known) (before after : Things) (v : Value) → IsLonger before after → Settled (length before.names) v → held k.heads after.names v ≡ held k.heads before.names v
longer_held k before after v longer settled =
    ap (λ (ns : List Name). held k.heads ns v) longer.1 ∙ held_stays k.heads before.names longer.0 v (settled_known (length before.names) v settled)

-- the new object has the value in its field
pub record IsWritten (k : Known) (s : Setting) (after : Things) (others : Others) (at : Ref) (r : Reference) (h : Held) (made : machine.Name × World) : Type 0 where
  pub name : name_of k.heads after.names at ≡ made.0
  pub within : at.0 < length after.names
  pub holds : Holds s after others (write_field made.1 made.0 r h)

pub new_written : (k : Known) (things mid after : Things) (class : ℕ) (name : List ℕ) (at : Ref) (r : Reference) (v : Value)
    → name_at k.heads class ≡ name → is_text_class name ≡ false → MakesOf k class things mid at → KeepsFilled k class things mid → IsLonger things mid → (AreWhole k mid → Writes k mid at r v after) → after.names ≡ mid.names → Settled (length things.names) v
    → (names : ℕ → Reference) (others : Others) (w : World) → AreDistinct k.heads → AreWhole k things → Holds (setting_of k names) things others w
    → IsWritten k (setting_of k names) after others at r (narrowed (element_of r.member.descriptor) (held k.heads things.names v)) (make (setting_of k names).classes w name)
new_written k things mid after class name at r v named plain makes keeps longer writes same settled names others w distinct whole holds =
    let s = setting_of k names in
    let fits = is_setting k names distinct in
    let new = makes s others w fits holds.shares in
    let filled = keeps s others w fits (ap is_text_class named ∙ plain) holds.shares (record { each = whole.each }) in
    let is : name_of k.heads mid.names at ≡ (make s.classes w name).0 = new.name ∙ ap (λ (n : List ℕ). (make s.classes w n).0) named in
    let mid_holds : Holds s mid others (make s.classes w name).1 = subst (λ (n : List ℕ). Holds s mid others (make s.classes w n).1) named (record { shares = new.shares }) in
    let done = writes (record { each = filled.each }) names others (make s.classes w name).1 distinct mid_holds in
    record {
      name = ap (λ (ns : List Name). name_of k.heads ns at) same ∙ is;
      within = subst (λ (ns : List Name). at.0 < length ns) (sym same) (ltb-true at.0 (length mid.names) new.within);
      holds = subst (λ (a : machine.Name). Holds s after others (write_field (make s.classes w name).1 a r (narrowed (element_of r.member.descriptor) (held k.heads things.names v)))) is
          (subst (λ (x : Held). Holds s after others (write_field (make s.classes w name).1 (name_of k.heads mid.names at) r (narrowed (element_of r.member.descriptor) x))) (longer_held k things mid v longer settled) done);
    }

-- each object has a value for each field still
pub new_whole : (k : Known) (things mid after : Things) (class : ℕ) (name : List ℕ) → name_at k.heads class ≡ name → is_text_class name ≡ false → KeepsFilled k class things mid → ((s : Setting) → AreFilled mid s → AreFilled after s) → StaysWhole k things after
new_whole k things mid after class name named plain keeps still s others w is shares filled =
    still s (keeps s others w (record { heads = is.heads; classes = is.classes; distinct = is.distinct }) (ap is_text_class named ∙ plain) shares filled)
