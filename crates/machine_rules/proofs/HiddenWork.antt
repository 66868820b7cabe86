-- Fields that the library keeps of its own: what the machine reads and writes.
use Rattle.std.specs.Prelude.{◌≡◌, ℕ, zero, suc, ◌<◌, ◌≤◌, ◌^◌, Bool, true, false, if◌then◌else◌, nat_lt, List, [], ◌∷◌, map, take, length, slice_get, slice_set, Option, Some, None, refl}
use Rattle.std.specs.List.{zip}
use Rattle.std.specs.Option.{unwrap_or, option_map}
use Rattle.std.proofs.Common.{sym, ◌∙◌, ap, subst, arith}
use Rattle.std.proofs.lemmas.List.{length-map}
use Rattle.std.proofs.lemmas.Option.{none-some, same_Some, slice_get_past}
use Rattle.aj_names.specs.declared.ids.ClassId.{ClassId}
use Rattle.class_file.specs.Pool.{Reference}
use Rattle.class_heads.specs.Hierarchy.{name_at}
use Rattle.class_world.specs.Tables.{Known}
use Rattle.class_machine.specs.declared.kinds.Element.{Element}
use Rattle.class_machine.specs.Values as machine
use Rattle.class_machine.specs.Values.{class_of, same_name, Held}
use Rattle.class_machine.specs.Classes.{same_member}
use Rattle.class_machine.specs.Descriptors.{element_of, narrowed}
use Rattle.class_machine.specs.Effect.{GetField, PutField}
use Rattle.class_machine.specs.Answers as answers
use Rattle.class_machine.specs.LibraryCalls as calls
use Rattle.class_machine.specs.World as worlds
use Rattle.class_machine.specs.World.{World, find_made, with_changed, set_object, with_field, stored, written, read_field, write_field, field_of}
use Rattle.machine_values.specs.declared.names.Maker.{Maker}
use Rattle.machine_values.specs.declared.names.Maker.TheVariants.{Class, Array}
use Rattle.machine_values.specs.declared.names.Name.{Name}
use Rattle.machine_values.specs.declared.names.Name.TheVariants.{Made, Literal, ClassObject}
use Rattle.machine_values.specs.declared.content.Content.{Content}
use Rattle.machine_values.specs.declared.content.Content.TheVariants.{Values, Text, Fixed}
use Rattle.machine_values.specs.declared.values.Ref.{Ref}
use Rattle.machine_values.specs.declared.values.Value.{Value}
use Rattle.machine_values.specs.declared.values.Value.TheVariants as value
use Rattle.machine_values.specs.declared.values.Value.TheVariants.{Null}
use Rattle.machine_values.specs.Standing.{machine_name, name_in, name_of, held, Settled, object_of}
use Rattle.machine_values.specs.Things.{Things, changed, values_of, values_at}
use Rattle.machine_requests.specs.declared.reply.Reply.{Reply}
use Rattle.machine_requests.specs.declared.reply.Reply.TheVariants.{Gives, Done, Faults, Refuses}
use Rattle.machine_requests.specs.Objects.{fields_in, fields_at, field_place, HasField, HoldsSuch, AreFilled}
use Rattle.machine_requests.specs.Replies.{Replies, IsAnswerWhere, object}
use Rattle.machine_requests.specs.Shares.{Setting, Others, Shares}
use Rattle.machine_requests.specs.Telling.{AreDistinct}
use Rattle.machine_requests.specs.TellingLaws.{named_at, fit_at}
use Rattle.machine_requests.proofs.ArrayLaws.{content_at}
use Rattle.machine_requests.proofs.Found.{made_found}
use Rattle.machine_requests.proofs.Reading.{read_same, read_none}
use Rattle.machine_requests.specs.Arrays.{kept_value}
use Rattle.machine_requests.proofs.Counts.{same_is}
use Rattle.machine_requests.proofs.Writing.{write_shares}
use Rattle.machine_fields.specs.Positions.{IsPlace, fields_of_class}
use Rattle.machine_rules.specs.declared.work.Work.TheVariants.{Results}
use Rattle.machine_rules.specs.Fields.{made_class, IsRead, IsAtPlace, Reads, AreWhole, Writes}
use Rattle.machine_rules.specs.Works.{setting_of, Holds, Does}
use Rattle.machine_rules.proofs.Buffers.{kept}

-- ---- a setting in which each object is one of each class, and fields are by the names that they are asked for

abbrev free : Setting → Setting
free s = record { heads = s.heads; classes = record s.classes { is_subtype = λ low high. true; field = λ r. None }; field_names = s.field_names }

free_shares : (s : Setting) (things : Things) (others : Others) (w : World) → Shares s things others w → Shares (free s) things others w
free_shares s things others w shares = record {
  heap = shares.heap;
  fit = shares.fit;
  statics = shares.statics;
  statics_within = shares.statics_within;
  begun = shares.begun;
  monitors = shares.monitors;
  monitors_within = shares.monitors_within;
  unentered = shares.unentered;
}

shares_free : (s : Setting) (things : Things) (others : Others) (w : World) → Shares (free s) things others w → Shares s things others w
shares_free s things others w shares = record {
  heap = shares.heap;
  fit = shares.fit;
  statics = shares.statics;
  statics_within = shares.statics_within;
  begun = shares.begun;
  monitors = shares.monitors;
  monitors_within = shares.monitors_within;
  unentered = shares.unentered;
}

free_field : (s : Setting) (things : Things) (at : Ref) (r : Reference) (index : ℕ) → field_place (s.classes.fields (class_of (name_of s.heads things.names at))) r ≡ Some index → HasField things (Some at) r true index (free s)
free_field s things at r index place = record {
  is = λ other same. refl;
  place = λ other same yes. ap (λ (a : Ref). field_place (s.classes.fields (class_of (name_of s.heads things.names a))) r) (sym (same_Some at other same)) ∙ place;
}

-- ---- the value at a place

abbrev Answers : Things → Ref → ℕ → Reply → Type 0
Answers things at index reply =
    (others : Others) (r : Reference) → IsAnswerWhere (HasField things (Some at) r true index) things others (λ s names. GetField r (object s names (Some at))) things others reply

abbrev Told : Setting → Things → Others → World → Ref → Reference → Reply → Type 0
Told s things others w at r reply = Replies (free s) things others w reply (answers.Gives (read_field w (name_of s.heads things.names at) r) w)

told : (things : Things) (at : Ref) (index : ℕ) (reply : Reply) → Answers things at index reply → (s : Setting) (others : Others) (w : World) (r : Reference) → AreDistinct s.heads → Shares s things others w
    → field_place (s.classes.fields (class_of (name_of s.heads things.names at))) r ≡ Some index → Told s things others w at r reply
told things at index reply given s others w r distinct shares place = given others r (free s) w (free_field s things at r index place) distinct (free_shares s things others w shares)

pub value_given : (things : Things) (at : Ref) (index : ℕ) (reply : Reply) (v : Value) → Answers things at index reply → reply ≡ Gives v → IsAtPlace things at index v
value_given things at index reply v given is s others w r distinct shares place =
    let got : Told s things others w at r (Gives v) = subst (Told s things others w at r) is (told things at index reply given s others w r distinct shares place) in
    record { same = got.0; settled = got.1 }

pub value_missing : (things : Things) (at : Ref) (index : ℕ) (reply : Reply) → Answers things at index reply → ((v : Value) → reply ≡ Gives v → ⊥) → IsAtPlace things at index Null
value_missing things at index reply given none s others w r distinct shares place = by reply (told things at index reply given s others w r distinct shares place) none where
  by : (reply : Reply) → Told s things others w at r reply → ((v : Value) → reply ≡ Gives v → ⊥) → IsRead s things w at r Null
  by (Gives v) got none = absurd (none v refl)
  by Done got none = absurd got
  by (Faults fault) got none = absurd got
  by Refuses got none = absurd got

-- ---- the class of an object

pub made_at : (count : ℕ) (o : Option Name) (class : ℕ) → made_class count o ≡ Some class → (k : ℕ) × (o ≡ Some (Made (Class (record { 0 = class })) k))
made_at count None class e = absurd (none-some class e)
made_at count (Some (Made (Class c) k)) class e = by (nat_lt c.0 count) e where
  by : (b : Bool) → (if b then Some c.0 else None) ≡ Some class → (j : ℕ) × (Some (Made (Class c) k) ≡ Some (Made (Class (record { 0 = class })) j))
  by true h = (k, ap (λ (i : ℕ). Some (Made (Class (record { 0 = i })) k)) (same_Some c.0 class h))
  by false h = absurd (none-some class h)
made_at count (Some (Made (Array type) k)) class e = absurd (none-some class e)
made_at count (Some (Literal units)) class e = absurd (none-some class e)
made_at count (Some (ClassObject type)) class e = absurd (none-some class e)

-- an object of a class of the world has such a one
no_class : (s : Setting) (things : Things) (others : Others) (w : World) (at class k : ℕ) → AreDistinct s.heads → Shares s things others w → made_class (length s.heads) (slice_get things.names at) ≡ None
    → slice_get things.names at ≡ Some (Made (Class (record { 0 = class })) k) → ⊥
no_class s things others w at class k distinct shares none there =
    none-some class (sym none ∙ ap (made_class (length s.heads)) there ∙ ap (λ (b : Bool). if b then Some class else None) (fit_at s.heads distinct things.names at (Made (Class (record { 0 = class })) k) shares.fit there))

class_name : (k : Known) (things : Things) (at : Ref) (class : ℕ) → made_class (length k.heads) (slice_get things.names at.0) ≡ Some class → class_of (name_of k.heads things.names at) ≡ name_at k.heads class
class_name k things at class is = let made = made_at (length k.heads) (slice_get things.names at.0) class is in ap (λ (o : Option Name). class_of (name_in k.heads o)) made.1

-- ---- what is read

-- of any other object the machine reads null
read_elsewhere : (s : Setting) (things : Things) (others : Others) (w : World) (at : Ref) (r : Reference) → AreDistinct s.heads → Shares s things others w → at.0 < length things.names
    → made_class (length s.heads) (slice_get things.names at.0) ≡ None → read_field w (name_of s.heads things.names at) r ≡ machine.Null
read_elsewhere s things others w at r distinct shares known none =
    let name = named_at things.names at.0 known in
    let whole = shares.heap.objects.whole in
    let content = content_at things.contents at.0 (omega arith) in
    by name.0 content.0 name.1 content.1 where
      by : (n : Name) (c : Content) → slice_get things.names at.0 ≡ Some n → slice_get things.contents at.0 ≡ Some c → read_field w (name_of s.heads things.names at) r ≡ machine.Null
      by (Made (Class class) k) c there holds = absurd (no_class s things others w at.0 class.0 k distinct shares none there)
      by (Made (Array type) k) (Values vs) there holds = ap (λ o. read_field w (name_in s.heads o) r) there ∙ ap (λ o. field_of o r) (made_found s things others w at.0 (Array type) k (Values vs) distinct shares there holds)
      by (Made (Array type) k) (Text units) there holds = ap (λ o. read_field w (name_in s.heads o) r) there ∙ ap (λ o. field_of o r) (made_found s things others w at.0 (Array type) k (Text units) distinct shares there holds)
      by (Made (Array type) k) Fixed there holds = ap (λ o. read_field w (name_in s.heads o) r) there ∙ ap (λ o. field_of o r) (made_found s things others w at.0 (Array type) k Fixed distinct shares there holds)
      by (Literal units) c there holds = ap (λ o. read_field w (name_in s.heads o) r) there
      by (ClassObject type) c there holds = ap (λ o. read_field w (name_in s.heads o) r) there

pub reads_elsewhere : (k : Known) (things : Things) (at : Ref) (r : Reference) → at.0 < length things.names → made_class (length k.heads) (slice_get things.names at.0) ≡ None → Reads k things at r Null
reads_elsewhere k things at r known none names others w distinct holds = record {
  same = sym (read_elsewhere (setting_of k names) things others w at r distinct holds.shares known none);
  settled = refl;
}

pub reads_there : (k : Known) (things : Things) (at : Ref) (r : Reference) (class index : ℕ) (v : Value) → made_class (length k.heads) (slice_get things.names at.0) ≡ Some class
    → (AreDistinct k.heads → IsPlace (fields_of_class k class) r (Some index)) → IsAtPlace things at index v → Reads k things at r v
reads_there k things at r class index v made place value names others w distinct holds =
    value (setting_of k names) others w r distinct holds.shares (ap (λ (n : List ℕ). field_place ((setting_of k names).classes.fields n) r) (class_name k things at class made) ∙ place distinct)

few_fields : (name : Option Name) (c : Option Content) → length (fields_in name c) ≤ length (values_of c)
few_fields None c = omega arith
few_fields (Some (Made (Class class) k)) None = omega arith
few_fields (Some (Made (Class class) k)) (Some (Values vs)) = omega arith
few_fields (Some (Made (Class class) k)) (Some (Text units)) = omega arith
few_fields (Some (Made (Class class) k)) (Some Fixed) = omega arith
few_fields (Some (Made (Array type) k)) c = omega arith
few_fields (Some (Literal units)) c = omega arith
few_fields (Some (ClassObject type)) c = omega arith

-- where the field has no place below 2^32
pub reads_nowhere : (k : Known) (things : Things) (at : Ref) (r : Reference) (class : ℕ) → at.0 < length things.names → made_class (length k.heads) (slice_get things.names at.0) ≡ Some class
    → (AreDistinct k.heads → IsPlace (fields_of_class k class) r None) → length (values_at things at.0) < 2 ^ 32 → Reads k things at r Null
reads_nowhere k things at r class known made far few names others w distinct holds = record {
  same = sym (by (field_place ((setting_of k names).classes.fields (class_of (name_of k.heads things.names at))) r) refl);
  settled = refl;
} where
  by : (o : Option ℕ) → field_place ((setting_of k names).classes.fields (class_of (name_of k.heads things.names at))) r ≡ o → read_field w (name_of k.heads things.names at) r ≡ machine.Null
  by None place = read_none (setting_of k names) things others w at.0 r distinct holds.shares known place
  by (Some p) place =
      let past : 2 ^ 32 ≤ p = far distinct p (ap (λ (n : List ℕ). field_place ((setting_of k names).classes.fields n) r) (sym (class_name k things at class made)) ∙ place) in
      let most = few_fields (slice_get things.names at.0) (slice_get things.contents at.0) in
      read_same (setting_of k names) things others w at.0 p r distinct holds.shares known place
      ∙ ap (λ (o : Option Value). held k.heads things.names (unwrap_or o Null)) (slice_get_past (fields_at things at.0) p (omega arith))

pub hidden_given : (k : Known) (things : Things) (at : Ref) (r : Reference) (v : Value) → Reads k things at r v
    → Does k things (λ s names w. calls.gives (read_field w (name_of s.heads names at) r) w) things (Results None (Some v))
hidden_given k things at r v reads names others w distinct holds =
    let read = reads names others w distinct holds in
    record { world = w; same = ap (λ (h : Held). calls.gives h w) (sym read.same); settled = read.settled; holds = holds }

-- ---- a field that the object lacks

-- a field that isn't among them
absent_zip : (fs : List Reference) (hs : List Held) (r : Reference) (h : Held) → ((p : ℕ) → field_place fs r ≡ Some p → length hs ≤ p) → with_field (zip fs hs) r h ≡ zip fs hs
absent_zip [] hs r h far = refl
absent_zip (f ∷ fs) [] r h far = refl
absent_zip (f ∷ fs) (g ∷ hs) r h far = by (same_member f r) refl (λ further. absent_zip fs hs r h further) where
  by : (hit : Bool) → same_member f r ≡ hit → (((p : ℕ) → field_place fs r ≡ Some p → length hs ≤ p) → with_field (zip fs hs) r h ≡ zip fs hs) → (if hit then (r, h) ∷ zip fs hs else (f, g) ∷ with_field (zip fs hs) r h) ≡ (f, g) ∷ zip fs hs
  by true is rest = let none : suc (length hs) ≤ 0 = far 0 (ap (λ (hit : Bool). if hit then Some 0 else option_map suc (field_place fs r)) is) in absurd (omega arith)
  by false is rest =
      ap (λ l. (f, g) ∷ l) (rest (λ p there.
      let more : suc (length hs) ≤ suc p = far (suc p) (ap (λ (hit : Bool). if hit then Some 0 else option_map suc (field_place fs r)) is ∙ ap (option_map suc) there) in omega arith))

-- the object that is there already
with_same : (heap : List (machine.Name × worlds.Object)) (a : machine.Name) (o : worlds.Object) → find_made heap a ≡ Some o → with_changed heap a o ≡ heap
with_same [] a o found = absurd (none-some o found)
with_same (x ∷ heap) a o found = by (same_name x.0 a) refl found (λ later. with_same heap a o later) where
  by : (hit : Bool) → same_name x.0 a ≡ hit → (if hit then Some x.1 else find_made heap a) ≡ Some o → (find_made heap a ≡ Some o → with_changed heap a o ≡ heap) → (if hit then (a, o) ∷ heap else x ∷ with_changed heap a o) ≡ x ∷ heap
  by true is e rest = ap (λ (b : machine.Name). (b, o) ∷ heap) (sym (same_is x.0 a is)) ∙ ap (λ (p : worlds.Object). (x.0, p) ∷ heap) (sym (same_Some x.1 o e))
  by false is e rest = ap (λ l. x ∷ l) (rest e)

module _ (s : Setting) (things : Things) (others : Others) (w : World) (at : ℕ) (r : Reference) (h : Held) (distinct : AreDistinct s.heads) (shares : Shares s things others w) (known : at < length things.names) where
  abbrev Unwritten : Type 0
  Unwritten = Shares s things others (write_field w (name_in s.heads (slice_get things.names at)) r h)

  unwritten_made : (maker : Maker) (k : ℕ) (c : Content) → slice_get things.names at ≡ Some (Made maker k) → slice_get things.contents at ≡ Some c
      → stored (object_of s.heads s.classes.fields things.names maker c) r h ≡ object_of s.heads s.classes.fields things.names maker c → Unwritten
  unwritten_made maker k c there holds same =
      let a = machine_name s.heads (Made maker k) in
      let o = object_of s.heads s.classes.fields things.names maker c in
      let found = made_found s things others w at maker k c distinct shares there holds in
      subst (λ (b : machine.Name). Shares s things others (write_field w b r h)) (sym (ap (name_in s.heads) there))
      (subst (λ (x : Option worlds.Object). Shares s things others (written w a r h x)) (sym found)
      (subst (λ (x : worlds.Object). Shares s things others (set_object w a x)) (sym same)
      (subst (λ (heap : List (machine.Name × worlds.Object)). Shares s things others (record w { heap = heap })) (sym (with_same w.heap a o found)) shares)))

  -- where the fields that an object of a class has values for are without it
  pub unwritten : ((class : ClassId) (k : ℕ) (vs : List Value) → slice_get things.names at ≡ Some (Made (Class class) k) → slice_get things.contents at ≡ Some (Values vs) → (p : ℕ) → field_place (s.classes.fields (name_at s.heads class.0)) r ≡ Some p → length vs ≤ p)
      → Unwritten
  unwritten lacks =
      let name = named_at things.names at known in
      let whole = shares.heap.objects.whole in
      let content = content_at things.contents at (omega arith) in
      by name.0 content.0 name.1 content.1 where
        by : (n : Name) (c : Content) → slice_get things.names at ≡ Some n → slice_get things.contents at ≡ Some c → Unwritten
        by (Made (Class class) k) (Values vs) there holds =
            unwritten_made (Class class) k (Values vs) there holds
            (ap worlds.Instance (absent_zip (s.classes.fields (name_at s.heads class.0)) (map (held s.heads things.names) vs) r h (λ p place. let few = lacks class k vs there holds p place in let many = length-map vs (held s.heads things.names) in omega arith)))
        by (Made (Class class) k) (Text units) there holds = unwritten_made (Class class) k (Text units) there holds refl
        by (Made (Class class) k) Fixed there holds = unwritten_made (Class class) k Fixed there holds refl
        by (Made (Array type) k) (Values vs) there holds = unwritten_made (Array type) k (Values vs) there holds refl
        by (Made (Array type) k) (Text units) there holds = unwritten_made (Array type) k (Text units) there holds refl
        by (Made (Array type) k) Fixed there holds = unwritten_made (Array type) k Fixed there holds refl
        by (Literal units) c there holds =
            subst (λ (b : machine.Name). Shares s things others (write_field w b r h)) (sym (ap (name_in s.heads) there)) (kept s things others w (machine.Literal units) (worlds.Text units) (λ maker k. refl) shares)
        by (ClassObject type) c there holds =
            subst (λ (b : machine.Name). Shares s things others (write_field w b r h)) (sym (ap (name_in s.heads) there)) (kept s things others w (machine_name s.heads (ClassObject type)) (worlds.Instance []) (λ maker k. refl) shares)

-- ---- what is written

abbrev world_with : Known → Things → Ref → Reference → Value → World → World
world_with k things at r v w = write_field w (name_of k.heads things.names at) r (narrowed (element_of r.member.descriptor) (held k.heads things.names v))

module _ (k : Known) (things : Things) (at : Ref) (r : Reference) (v : Value) (known : at.0 < length things.names) where
  pub written_elsewhere : made_class (length k.heads) (slice_get things.names at.0) ≡ None → Writes k things at r v things
  written_elsewhere none names others w distinct holds =
      let s = setting_of k names in record {
        shares = unwritten s things others w at.0 r (narrowed (element_of r.member.descriptor) (held k.heads things.names v)) distinct holds.shares known
            (λ class j vs there values p place. absurd (no_class s things others w at.0 class.0 j distinct holds.shares none there));
      }

  -- where the field's place isn't among those of the object's values
  pub written_past : (class : ℕ) → made_class (length k.heads) (slice_get things.names at.0) ≡ Some class
      → ((p : ℕ) → AreDistinct k.heads → field_place (fields_of_class k class) r ≡ Some p → length (values_at things at.0) ≤ p) → Writes k things at r v things
  written_past class made past names others w distinct holds =
      let s = setting_of k names in record {
        shares = unwritten s things others w at.0 r (narrowed (element_of r.member.descriptor) (held k.heads things.names v)) distinct holds.shares known
            (λ other j vs there values p place.
            let same : name_at k.heads class ≡ name_at k.heads other.0 = sym (class_name k things at class made) ∙ ap (λ (o : Option Name). class_of (name_in k.heads o)) there in
            let far = past p distinct (ap (λ (n : List ℕ). field_place ((setting_of k names).classes.fields n) r) same ∙ place) in
            let count : length (values_at things at.0) ≡ length vs = ap (λ (o : Option Content). length (values_of o)) values in
            omega arith);
      }

  pub written_nowhere : (class : ℕ) → made_class (length k.heads) (slice_get things.names at.0) ≡ Some class → (AreDistinct k.heads → IsPlace (fields_of_class k class) r None) → length (values_at things at.0) < 2 ^ 32 → Writes k things at r v things
  written_nowhere class made far few = written_past class made (λ p distinct place. let past : 2 ^ 32 ≤ p = far distinct p place in omega arith)

  pub written_short : (class index : ℕ) → made_class (length k.heads) (slice_get things.names at.0) ≡ Some class → (AreDistinct k.heads → IsPlace (fields_of_class k class) r (Some index)) → length (values_at things at.0) ≤ index → Writes k things at r v things
  written_short class index made is short = written_past class made (λ p distinct place. let same = same_Some index p (sym (is distinct) ∙ place) in omega arith)

  kept_reference : (u : Value) → kept_value Element.Reference u ≡ u
  kept_reference (value.Int n) = refl
  kept_reference (value.Long n) = refl
  kept_reference (value.Float bits) = refl
  kept_reference (value.Double bits) = refl
  kept_reference value.Null = refl
  kept_reference (value.Reference a) = refl
  kept_reference (value.Token c n) = refl
  kept_reference (value.ReturnAddress p) = refl

  fields_there : (o : Option Name) (c : Option Content) (class : ClassId) (j index : ℕ) → o ≡ Some (Made (Class class) j) → index < length (values_of c) → index < length (fields_in o c)
  fields_there o None class j index there below = absurd (omega arith)
  fields_there o (Some (Values vs)) class j index there below = subst (λ (x : Option Name). index < length (fields_in x (Some (Values vs)))) (sym there) below
  fields_there o (Some (Text units)) class j index there below = absurd (omega arith)
  fields_there o (Some Fixed) class j index there below = absurd (omega arith)

  -- a field of references
  pub reference_written : (class index : ℕ) → made_class (length k.heads) (slice_get things.names at.0) ≡ Some class → (AreDistinct k.heads → IsPlace (fields_of_class k class) r (Some index)) → element_of r.member.descriptor ≡ Element.Reference
      → Settled (length things.names) v → index < length (values_at things at.0) → Writes k things at r v (changed things at.0 (Values (slice_set (values_at things at.0) index v)))
  reference_written class index made is such settled below names others w distinct holds =
      let s = setting_of k names in
      let there = made_at (length k.heads) (slice_get things.names at.0) class made in
      let here : field_place ((setting_of k names).classes.fields (class_of (name_of k.heads things.names at))) r ≡ Some index =
      ap (λ (n : List ℕ). field_place ((setting_of k names).classes.fields n) r) (class_name k things at class made) ∙ is distinct in
      let within = fields_there (slice_get things.names at.0) (slice_get things.contents at.0) (record { 0 = class }) there.0 index there.1 below in
      subst (λ (u : Value). Holds s (changed things at.0 (Values (slice_set (values_at things at.0) index u))) others (world_with k things at r v w)) (kept_reference v)
      (record { shares = write_shares s things others w distinct holds.shares at.0 index r Element.Reference v here such settled known within })

abbrev Puts : Things → Things → Ref → ℕ → Element → Value → Reply → Type 0
Puts things after at index e v reply =
    (others : Others) (r : Reference) → IsAnswerWhere (λ s. HasField things (Some at) r true index s × HoldsSuch r e s × AreFilled things s) things others (λ s names. PutField r (object s names (Some at)) (held s.heads names v)) after others reply

shares_done : (s : Setting) (things after : Things) (others : Others) (before w : World) (reply : Reply) → Replies s after others before reply (answers.Done w) → Shares s after others w
shares_done s things after others before w (Gives u) got = absurd got
shares_done s things after others before w Done got = got
shares_done s things after others before w (Faults fault) got = absurd got
shares_done s things after others before w Refuses got = absurd got

pub written_there : (k : Known) (things after : Things) (at : Ref) (r : Reference) (class index : ℕ) (e : Element) (v : Value) (reply : Reply) → made_class (length k.heads) (slice_get things.names at.0) ≡ Some class
    → (AreDistinct k.heads → IsPlace (fields_of_class k class) r (Some index)) → e ≡ element_of r.member.descriptor → Puts things after at index e v reply → AreWhole k things → Writes k things at r v after
written_there k things after at r class index e v reply made place such puts whole names others w distinct holds =
    let s = setting_of k names in
    let here : field_place ((setting_of k names).classes.fields (class_of (name_of k.heads things.names at))) r ≡ Some index =
    ap (λ (n : List ℕ). field_place ((setting_of k names).classes.fields n) r) (class_name k things at class made) ∙ place distinct in
    let got = puts others r (free s) w (free_field s things at r index here, record { element = sym such }, record { each = whole.each }) distinct (free_shares s things others w holds.shares) in
    record { shares = shares_free s after others (world_with k things at r v w) (shares_done (free s) things after others w (world_with k things at r v w) reply got) }

take_set : (cs : List Content) (at count : ℕ) (c : Content) → count ≤ at → take count (slice_set cs at c) ≡ take count cs
take_set cs at zero c h = refl
take_set [] at (suc count) c h = refl
take_set (d ∷ cs) zero (suc count) c h = absurd (omega arith)
take_set (d ∷ cs) (suc at) (suc count) c h = ap (λ l. d ∷ l) (take_set cs at count c (omega arith))

-- the objects before it stay
pub before_stay : (things after : Things) (at : Ref) (c : Content) → after ≡ changed things at.0 c → (count : ℕ) → count ≤ at.0 → take count after.contents ≡ take count things.contents
before_stay things after at c same count h = ap (λ (t : Things). take count t.contents) same ∙ take_set things.contents at.0 count c h
