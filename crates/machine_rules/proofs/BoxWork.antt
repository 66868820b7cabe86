-- What boxes do.
use Rattle.std.specs.Prelude.{◌≡◌, ℕ, ◌<◌, ◌&&◌, Bool, true, false, List, [], length, slice_get, Some, None, refl}
use Rattle.std.specs.Str.{bytes_eq}
use Rattle.std.specs.Cmp.Lexicographic.{bytes_decides}
use Rattle.std.proofs.Common.{sym, ◌∙◌, ap, subst}
use Rattle.std.proofs.lemmas.Bool.{cases_Bool, false≢true}
use Rattle.std.proofs.Common.{inl, inr}
use Rattle.class_file.specs.Pool.{Reference}
use Rattle.boot_library.specs.declared.rule.Primitive.{Primitive}
use Rattle.boot_library.specs.declared.rule.Primitive.TheVariants as boxed
use Rattle.boot_library.specs.declared.rule.LibraryRule.TheVariants as rule
use Rattle.class_heads.specs.declared.types.ClassHead.{ClassHead}
use Rattle.class_heads.specs.Hierarchy.{is_array}
use Rattle.class_world.specs.Tables.{Known}
use Rattle.class_machine.specs.declared.kinds.Element.{Element}
use Rattle.class_machine.specs.Values as machine
use Rattle.class_machine.specs.Values.{class_of, Held}
use Rattle.class_machine.specs.Answers.{truth}
use Rattle.class_machine.specs.Descriptors.{element, element_of, narrowed}
use Rattle.class_machine.specs.LibraryCalls as calls
use Rattle.class_machine.specs.World.{World, read_field, write_field, make, box_class, value_field, is_text_class}
use Rattle.machine_values.specs.declared.names.Maker.TheVariants.{Class, Array}
use Rattle.machine_values.specs.declared.names.Name.{Name}
use Rattle.machine_values.specs.declared.names.Name.TheVariants.{Made, Literal, ClassObject}
use Rattle.machine_values.specs.declared.values.Ref.{Ref}
use Rattle.machine_values.specs.declared.values.Value.{Value}
use Rattle.machine_values.specs.declared.values.Value.TheVariants.{Int, Long, Float, Double, Null, Reference as Pointer, Token, ReturnAddress}
use Rattle.machine_values.specs.Standing.{name_in, name_of, held, Settled}
use Rattle.machine_values.specs.Things.{Things}
use Rattle.machine_values.specs.Types.{type_name}
use Rattle.machine_requests.specs.Shares.{Others}
use Rattle.machine_requests.specs.Telling.{AreDistinct, AreFit}
use Rattle.machine_requests.specs.TellingLaws.{named_at, fit_at, array_is_array}
use Rattle.std.proofs.lemmas.Bool.{and_parts, lt-ltb}
use Rattle.machine_rules.specs.declared.work.Work.TheVariants.{Results}
use Rattle.machine_rules.specs.Boxes.{is_box_name, hash_value, same_values, TellsSameBox}
use Rattle.machine_rules.specs.Fields.{AreWhole, Reads, Writes}
use Rattle.machine_rules.specs.Texts.{truth_value}
use Rattle.machine_rules.specs.Works.{setting_of, Holds, Does}
use Rattle.machine_rules.proofs.Giving.{truth_same, truth_settled}
use Rattle.machine_rules.proofs.NewWork.{IsWritten}

-- ---- values

module _ (heads : List ClassHead) (names : List Name) where
  abbrev HashSame : Primitive → Value → Type 0
  HashSame type v = held heads names (hash_value type v) ≡ calls.box_hash type (held heads names v)

  -- by the kinds of values
  each_value : (P : Value → Type 0) → ((n : _) → P (Int n)) → ((n : _) → P (Long n)) → ((n : _) → P (Float n)) → ((n : _) → P (Double n)) → P Null → ((a : Ref) → P (Pointer a)) → ((c : _) (n : _) → P (Token c n)) → ((p : _) → P (ReturnAddress p)) → (v : Value) → P v
  each_value P i l f d n r t a (Int x) = i x
  each_value P i l f d n r t a (Long x) = l x
  each_value P i l f d n r t a (Float x) = f x
  each_value P i l f d n r t a (Double x) = d x
  each_value P i l f d n r t a Null = n
  each_value P i l f d n r t a (Pointer x) = r x
  each_value P i l f d n r t a (Token x y) = t x y
  each_value P i l f d n r t a (ReturnAddress x) = a x

  pub hash_same : (type : Primitive) (v : Value) → held heads names (hash_value type v) ≡ calls.box_hash type (held heads names v)
  hash_same boxed.Boolean v = each_value (HashSame boxed.Boolean) (λ n. refl) (λ n. refl) (λ n. refl) (λ n. refl) refl (λ a. refl) (λ c n. refl) (λ p. refl) v
  hash_same boxed.Byte v = each_value (HashSame boxed.Byte) (λ n. refl) (λ n. refl) (λ n. refl) (λ n. refl) refl (λ a. refl) (λ c n. refl) (λ p. refl) v
  hash_same boxed.Char v = each_value (HashSame boxed.Char) (λ n. refl) (λ n. refl) (λ n. refl) (λ n. refl) refl (λ a. refl) (λ c n. refl) (λ p. refl) v
  hash_same boxed.Short v = each_value (HashSame boxed.Short) (λ n. refl) (λ n. refl) (λ n. refl) (λ n. refl) refl (λ a. refl) (λ c n. refl) (λ p. refl) v
  hash_same boxed.Int v = each_value (HashSame boxed.Int) (λ n. refl) (λ n. refl) (λ n. refl) (λ n. refl) refl (λ a. refl) (λ c n. refl) (λ p. refl) v
  hash_same boxed.Long v = each_value (HashSame boxed.Long) (λ n. refl) (λ n. refl) (λ n. refl) (λ n. refl) refl (λ a. refl) (λ c n. refl) (λ p. refl) v
  hash_same boxed.Float v = each_value (HashSame boxed.Float) (λ n. refl) (λ n. refl) (λ n. refl) (λ n. refl) refl (λ a. refl) (λ c n. refl) (λ p. refl) v
  hash_same boxed.Double v = each_value (HashSame boxed.Double) (λ n. refl) (λ n. refl) (λ n. refl) (λ n. refl) refl (λ a. refl) (λ c n. refl) (λ p. refl) v

  abbrev SameAlike : Value → Value → Type 0
  SameAlike v u = same_values v u ≡ calls.same_value (held heads names v) (held heads names u)

  pub same_alike : (v u : Value) → same_values v u ≡ calls.same_value (held heads names v) (held heads names u)
  same_alike (Int m) u = each_value (SameAlike (Int m)) (λ n. refl) (λ n. refl) (λ n. refl) (λ n. refl) refl (λ a. refl) (λ c n. refl) (λ p. refl) u
  same_alike (Long m) u = each_value (SameAlike (Long m)) (λ n. refl) (λ n. refl) (λ n. refl) (λ n. refl) refl (λ a. refl) (λ c n. refl) (λ p. refl) u
  same_alike (Float m) u = each_value (SameAlike (Float m)) (λ n. refl) (λ n. refl) (λ n. refl) (λ n. refl) refl (λ a. refl) (λ c n. refl) (λ p. refl) u
  same_alike (Double m) u = each_value (SameAlike (Double m)) (λ n. refl) (λ n. refl) (λ n. refl) (λ n. refl) refl (λ a. refl) (λ c n. refl) (λ p. refl) u
  same_alike Null u = each_value (SameAlike Null) (λ n. refl) (λ n. refl) (λ n. refl) (λ n. refl) refl (λ a. refl) (λ c n. refl) (λ p. refl) u
  same_alike (Pointer m) u = each_value (SameAlike (Pointer m)) (λ n. refl) (λ n. refl) (λ n. refl) (λ n. refl) refl (λ a. refl) (λ c n. refl) (λ p. refl) u
  same_alike (Token d m) u = each_value (SameAlike (Token d m)) (λ n. refl) (λ n. refl) (λ n. refl) (λ n. refl) refl (λ a. refl) (λ c n. refl) (λ p. refl) u
  same_alike (ReturnAddress m) u = each_value (SameAlike (ReturnAddress m)) (λ n. refl) (λ n. refl) (λ n. refl) (λ n. refl) refl (λ a. refl) (λ c n. refl) (λ p. refl) u

-- the hash is no reference where the value is none
hash_settled : (n : ℕ) (type : Primitive) (v : Value) → Settled n v → Settled n (hash_value type v)
hash_settled n boxed.Boolean v = each_value [] [] (λ u. Settled n u → Settled n (hash_value boxed.Boolean u)) (λ i h. refl) (λ i h. refl) (λ i h. h) (λ i h. h) (λ h. h) (λ a h. h) (λ c i h. h) (λ p h. h) v
hash_settled n boxed.Byte v = each_value [] [] (λ u. Settled n u → Settled n (hash_value boxed.Byte u)) (λ i h. refl) (λ i h. refl) (λ i h. h) (λ i h. h) (λ h. h) (λ a h. h) (λ c i h. h) (λ p h. h) v
hash_settled n boxed.Char v = each_value [] [] (λ u. Settled n u → Settled n (hash_value boxed.Char u)) (λ i h. refl) (λ i h. refl) (λ i h. h) (λ i h. h) (λ h. h) (λ a h. h) (λ c i h. h) (λ p h. h) v
hash_settled n boxed.Short v = each_value [] [] (λ u. Settled n u → Settled n (hash_value boxed.Short u)) (λ i h. refl) (λ i h. refl) (λ i h. h) (λ i h. h) (λ h. h) (λ a h. h) (λ c i h. h) (λ p h. h) v
hash_settled n boxed.Int v = each_value [] [] (λ u. Settled n u → Settled n (hash_value boxed.Int u)) (λ i h. refl) (λ i h. refl) (λ i h. h) (λ i h. h) (λ h. h) (λ a h. h) (λ c i h. h) (λ p h. h) v
hash_settled n boxed.Long v = each_value [] [] (λ u. Settled n u → Settled n (hash_value boxed.Long u)) (λ i h. refl) (λ i h. refl) (λ i h. h) (λ i h. h) (λ h. h) (λ a h. h) (λ c i h. h) (λ p h. h) v
hash_settled n boxed.Float v = each_value [] [] (λ u. Settled n u → Settled n (hash_value boxed.Float u)) (λ i h. refl) (λ i h. refl) (λ i h. h) (λ i h. h) (λ h. h) (λ a h. h) (λ c i h. h) (λ p h. h) v
hash_settled n boxed.Double v = each_value [] [] (λ u. Settled n u → Settled n (hash_value boxed.Double u)) (λ i h. refl) (λ i h. refl) (λ i h. h) (λ i h. h) (λ h. h) (λ a h. h) (λ c i h. h) (λ p h. h) v

pub hash_given : (k : Known) (things : Things) (type : Primitive) (at : Ref) (v shown : Value) → Reads k things at (value_field type) v → shown ≡ hash_value type v
    → Does k things (λ s ns w. calls.on_object s.classes w (rule.BoxHash type) (name_of s.heads ns at)) things (Results None (Some shown))
hash_given k things type at v shown reads is names others w distinct holds =
    let read = reads names others w distinct holds in
    record {
      world = w;
      same = ap (λ (h : Held). calls.gives h w) (ap (calls.box_hash type) (sym read.same) ∙ sym (hash_same k.heads things.names type v) ∙ ap (held k.heads things.names) (sym is));
      settled = subst (Settled (length things.names)) (sym is) (hash_settled (length things.names) type v read.settled);
      holds = holds;
    }

-- ---- the same box

differs : (a b : List ℕ) → is_array a ≡ true → is_array b ≡ false → bytes_eq a b ≡ false
differs a b array flat = elim (cases_Bool (bytes_eq a b)) [
  | inl same ↦ absurd (false≢true (sym flat ∙ ap is_array (sym ((bytes_decides a b).0 same)) ∙ array))
  | inr other ↦ other
]

box_flat : (type : Primitive) → is_array (box_class type) ≡ false
box_flat boxed.Boolean = refl
box_flat boxed.Byte = refl
box_flat boxed.Char = refl
box_flat boxed.Short = refl
box_flat boxed.Int = refl
box_flat boxed.Long = refl
box_flat boxed.Float = refl
box_flat boxed.Double = refl

no_string : (type : Primitive) → bytes_eq machine.string_class (box_class type) ≡ false
no_string boxed.Boolean = refl
no_string boxed.Byte = refl
no_string boxed.Char = refl
no_string boxed.Short = refl
no_string boxed.Int = refl
no_string boxed.Long = refl
no_string boxed.Float = refl
no_string boxed.Double = refl

no_class : (type : Primitive) → bytes_eq machine.class_class (box_class type) ≡ false
no_class boxed.Boolean = refl
no_class boxed.Byte = refl
no_class boxed.Char = refl
no_class boxed.Short = refl
no_class boxed.Int = refl
no_class boxed.Long = refl
no_class boxed.Float = refl
no_class boxed.Double = refl

box_name : (k : Known) (names : List Name) (at : Ref) (type : Primitive) → AreDistinct k.heads → AreFit (length k.heads) names → at.0 < length names
    → is_box_name k.heads type (slice_get names at.0) ≡ bytes_eq (class_of (name_of k.heads names at)) (box_class type)
box_name k names at type distinct fit known = let name = named_at names at.0 known in by name.0 name.1 where
  by : (n : Name) → slice_get names at.0 ≡ Some n → is_box_name k.heads type (slice_get names at.0) ≡ bytes_eq (class_of (name_of k.heads names at)) (box_class type)
  by (Made (Class class) j) there = ap (is_box_name k.heads type) there ∙ sym (ap (λ o. bytes_eq (class_of (name_in k.heads o)) (box_class type)) there)
  by (Made (Array array) j) there =
      let dims = (and_parts _ _ (fit_at k.heads distinct names at.0 (Made (Array array) j) fit there)).1 in
      ap (is_box_name k.heads type) there ∙ sym (ap (λ o. bytes_eq (class_of (name_in k.heads o)) (box_class type)) there ∙ differs (type_name array) (box_class type) (array_is_array array dims) (box_flat type))
  by (Literal units) there = ap (is_box_name k.heads type) there ∙ sym (ap (λ o. bytes_eq (class_of (name_in k.heads o)) (box_class type)) there ∙ no_string type)
  by (ClassObject class) there = ap (is_box_name k.heads type) there ∙ sym (ap (λ o. bytes_eq (class_of (name_in k.heads o)) (box_class type)) there ∙ no_class type)

pub same_box_told : (k : Known) (things : Things) (type : Primitive) (at b : Ref) (v u : Value) (is : Bool) → b.0 < length things.names → Reads k things at (value_field type) v → Reads k things b (value_field type) u
    → is ≡ (is_box_name k.heads type (slice_get things.names b.0) && same_values v u) → TellsSameBox k things type at (Pointer b) is
same_box_told k things type at b v u is known mine others_ tells names others w distinct holds =
    let one = mine names others w distinct holds in
    let two = others_ names others w distinct holds in
    tells
    ∙ ap (λ (x : Bool). x && same_values v u) (box_name k things.names b type distinct holds.shares.fit known)
    ∙ ap (λ (x : Bool). bytes_eq (class_of (name_of k.heads things.names b)) (box_class type) && x)
    (same_alike k.heads things.names v u ∙ ap (λ (h : Held). calls.same_value h (held k.heads things.names u)) one.same ∙ ap (calls.same_value (read_field w (name_of k.heads things.names at) (value_field type))) two.same)

pub other_box_told : (k : Known) (things : Things) (type : Primitive) (at b : Ref) (is : Bool) → b.0 < length things.names → is_box_name k.heads type (slice_get things.names b.0) ≡ false → is ≡ false → TellsSameBox k things type at (Pointer b) is
other_box_told k things type at b is known other told names others w distinct holds =
    told
    ∙ sym (ap (λ (x : Bool). x && calls.same_value (read_field w (name_of k.heads things.names at) (value_field type)) (read_field w (name_of k.heads things.names b) (value_field type)))
    (sym (box_name k things.names b type distinct holds.shares.fit known) ∙ other))

pub other_told : (k : Known) (things : Things) (type : Primitive) (at : Ref) (v : Value) → ((b : Ref) → v ≡ Pointer b → ⊥) → TellsSameBox k things type at v false
other_told k things type at v none names others w distinct holds = by v none where
  by : (v : Value) → ((b : Ref) → v ≡ Pointer b → ⊥) → false ≡ calls.same_box w type (name_of k.heads things.names at) (held k.heads things.names v)
  by (Pointer b) none = absurd (none b refl)
  by Null none = refl
  by (Int n) none = refl
  by (Long n) none = refl
  by (Float n) none = refl
  by (Double n) none = refl
  by (Token c n) none = refl
  by (ReturnAddress p) none = refl

pub same_box_given : (k : Known) (things : Things) (type : Primitive) (at : Ref) (v : Value) (is : Bool) (shown : Value) → TellsSameBox k things type at v is → shown ≡ truth_value is
    → Does k things (λ s ns w. calls.with_argument s.classes w (rule.SameBox type) (name_of s.heads ns at) (held s.heads ns v)) things (Results None (Some shown))
same_box_given k things type at v is shown tells told names others w distinct holds = record {
  world = w;
  same = ap (λ (h : Held). calls.gives h w) (ap truth (sym (tells names others w distinct holds)) ∙ sym (truth_same k.heads things.names is) ∙ ap (held k.heads things.names) (sym told));
  settled = subst (Settled (length things.names)) (sym told) (truth_settled (length things.names) is);
  holds = holds;
}

-- ---- what boxes are given

pub field_element : (type : Primitive) → element_of (value_field type).member.descriptor ≡ element type
field_element boxed.Boolean = refl
field_element boxed.Byte = refl
field_element boxed.Char = refl
field_element boxed.Short = refl
field_element boxed.Int = refl
field_element boxed.Long = refl
field_element boxed.Float = refl
field_element boxed.Double = refl

pub box_set : (k : Known) (things after : Things) (type : Primitive) (at : Ref) (v : Value) → (AreWhole k things → Writes k things at (value_field type) v after) → AreWhole k things
    → Does k things (λ s ns w. calls.with_argument s.classes w (rule.SetBox type) (name_of s.heads ns at) (held s.heads ns v)) after (Results None None)
box_set k things after type at v writes whole names others w distinct holds =
    let a = name_of k.heads things.names at in
    let h = held k.heads things.names v in
    record {
      world = write_field w a (value_field type) (narrowed (element type) h);
      same = refl;
      settled = tt;
      holds = subst (λ (e : Element). Holds (setting_of k names) after others (write_field w a (value_field type) (narrowed e h))) (field_element type) (writes whole names others w distinct holds);
    }

pub box_text : (type : Primitive) → is_text_class (box_class type) ≡ false
box_text boxed.Boolean = refl
box_text boxed.Byte = refl
box_text boxed.Char = refl
box_text boxed.Short = refl
box_text boxed.Int = refl
box_text boxed.Long = refl
box_text boxed.Float = refl
box_text boxed.Double = refl

pub box_made : (k : Known) (things after : Things) (type : Primitive) (at : Ref) (v : Value)
    → ((names : ℕ → Reference) (others : Others) (w : World) → AreDistinct k.heads → AreWhole k things → Holds (setting_of k names) things others w
    → IsWritten k (setting_of k names) after others at (value_field type) (narrowed (element_of (value_field type).member.descriptor) (held k.heads things.names v)) (make (setting_of k names).classes w (box_class type)))
    → AreWhole k things → Does k things (λ s ns w. calls.box_of w type (held s.heads ns v) (make s.classes w (box_class type))) after (Results None (Some (Pointer at)))
box_made k things after type at v written whole names others w distinct holds =
    let s = setting_of k names in
    let made = make s.classes w (box_class type) in
    let h = held k.heads things.names v in
    let one = written names others w distinct whole holds in
    record {
      world = write_field made.1 made.0 (value_field type) (narrowed (element type) h);
      same = ap (λ (a : machine.Name). calls.gives (machine.Reference a) (write_field made.1 made.0 (value_field type) (narrowed (element type) h))) (sym one.name);
      settled = lt-ltb at.0 (length after.names) one.within;
      holds = subst (λ (e : Element). Holds s after others (write_field made.1 made.0 (value_field type) (narrowed e h))) (field_element type) one.holds;
    }
