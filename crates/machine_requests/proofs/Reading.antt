-- What the class machine answers of fields of objects.
use Rattle.std.specs.Prelude.{◌≡◌, ℕ, zero, suc, ◌<◌, Bool, true, false, if◌then◌else◌, List, [], ◌∷◌, map, length, slice_get, Option, Some, None, refl}
use Rattle.std.specs.List.{zip}
use Rattle.std.specs.Option.{option_map, unwrap_or}
use Rattle.std.proofs.Common.{sym, ◌∙◌, ap, subst, arith}
use Rattle.std.proofs.lemmas.Bool.{ltb-true}
use Rattle.std.proofs.lemmas.Option.{none-some, same_Some, slice_get-map}
use Rattle.class_file.specs.Pool.{Reference}
use Rattle.class_machine.specs.Values as machine
use Rattle.class_machine.specs.Values.{Held, class_of}
use Rattle.class_machine.specs.Classes.{same_member}
use Rattle.class_machine.specs.World.{World, find_field, field_of, read_field, text_in, units_at}
use Rattle.class_machine.specs.Effect.{GetField}
use Rattle.class_machine.specs.Answers as answers
use Rattle.class_machine.specs.Answers.{declared, if_instance}
use Rattle.machine_values.specs.declared.values.Ref.{Ref}
use Rattle.machine_values.specs.declared.values.Value.{Value}
use Rattle.machine_values.specs.declared.values.Value.TheVariants.{Null}
use Rattle.machine_values.specs.declared.names.Maker.{Maker}
use Rattle.machine_values.specs.declared.names.Maker.TheVariants.{Class, Array}
use Rattle.machine_values.specs.declared.names.Name.{Name}
use Rattle.machine_values.specs.declared.names.Name.TheVariants.{Made, Literal, ClassObject}
use Rattle.machine_values.specs.declared.content.Content.{Content}
use Rattle.machine_values.specs.declared.content.Content.TheVariants.{Values, Text, Fixed}
use Rattle.machine_values.specs.Things.{Things, values_of}
use Rattle.machine_values.specs.Standing.{name_in, held, Settled, object_of}
use Rattle.machine_values.specs.States.{is_known_object}
use Rattle.machine_requests.specs.declared.reply.Reply.{Reply}
use Rattle.machine_requests.specs.declared.reply.Reply.TheVariants.{Gives, Refuses}
use Rattle.machine_requests.specs.Telling.{AreDistinct}
use Rattle.machine_requests.specs.TellingLaws.{named_at}
use Rattle.machine_requests.specs.Shares.{Setting, Others, Shares}
use Rattle.machine_requests.specs.Replies.{Replies, IsAnswerWhere, object}
use Rattle.machine_requests.specs.Objects.{fields_in, fields_at, field_place, get_reply, HasField}
use Rattle.machine_requests.specs.Texts.{text_seen}
use Rattle.machine_requests.proofs.Found.{made_found}
use Rattle.machine_requests.proofs.ArrayLaws.{place_name, content_at, value_settled}

abbrev first_of : Bool → Held → Option Held → Option Held
first_of hit h rest = if hit then Some h else rest

-- a field is found at its place
find_zip : (fs : List Reference) (hs : List Held) (r : Reference) (p : ℕ) → field_place fs r ≡ Some p → find_field (zip fs hs) r ≡ slice_get hs p
find_zip [] hs r p e = absurd (none-some p e)
find_zip (f ∷ fs) [] r p e = refl
find_zip (f ∷ fs) (h ∷ hs) r p e = by (same_member f r) e (find_zip fs hs r) where
  later : (o : Option ℕ) → option_map suc o ≡ Some p → ((q : ℕ) → o ≡ Some q → find_field (zip fs hs) r ≡ slice_get hs q) → find_field (zip fs hs) r ≡ slice_get (h ∷ hs) p
  later None k rest = absurd (none-some p k)
  later (Some q) k rest = rest q refl ∙ ap (slice_get (h ∷ hs)) (same_Some (suc q) p k)

  by : (hit : Bool) → (if hit then Some 0 else option_map suc (field_place fs r)) ≡ Some p → ((q : ℕ) → field_place fs r ≡ Some q → find_field (zip fs hs) r ≡ slice_get hs q)
      → first_of hit h (find_field (zip fs hs) r) ≡ slice_get (h ∷ hs) p
  by true k rest = ap (slice_get (h ∷ hs)) (same_Some 0 p k)
  by false k rest = later (field_place fs r) k rest

no_value : (p : ℕ) → slice_get {X = Value} [] p ≡ None
no_value zero = refl
no_value (suc p) = refl

value_or_null : (s : Setting) (names : List Name) (o : Option Value) → unwrap_or (option_map (held s.heads names) o) machine.Null ≡ held s.heads names (unwrap_or o Null)
value_or_null s names None = refl
value_or_null s names (Some v) = refl

-- what the machine reads
pub read_same : (s : Setting) (things : Things) (others : Others) (w : World) (at p : ℕ) (r : Reference) → AreDistinct s.heads → Shares s things others w → at < length things.names
    → field_place (s.classes.fields (class_of (place_name s things at))) r ≡ Some p → read_field w (place_name s things at) r ≡ held s.heads things.names (unwrap_or (slice_get (fields_at things at) p) Null)
read_same s things others w at p r distinct shares known place =
    let name = named_at things.names at known in
    let whole = shares.heap.objects.whole in
    let content = content_at things.contents at (omega arith) in
    by name.0 content.0 name.1 content.1
    ∙ ap (λ (vs : List Value). held s.heads things.names (unwrap_or (slice_get vs p) Null)) (sym (ap (λ o. fields_in o (slice_get things.contents at)) name.1 ∙ ap (fields_in (Some name.0)) content.1)) where
      nothing : held s.heads things.names (unwrap_or (slice_get {X = Value} [] p) Null) ≡ machine.Null
      nothing = ap (λ (o : Option Value). held s.heads things.names (unwrap_or o Null)) (no_value p)

      at_made : (maker : Maker) (k : ℕ) (c : Content) → slice_get things.names at ≡ Some (Made maker k) → slice_get things.contents at ≡ Some c
          → read_field w (place_name s things at) r ≡ field_of (Some (object_of s.heads s.classes.fields things.names maker c)) r
      at_made maker k c there holds = ap (λ o. read_field w (name_in s.heads o) r) there ∙ ap (λ o. field_of o r) (made_found s things others w at maker k c distinct shares there holds)

      by : (n : Name) (c : Content) → slice_get things.names at ≡ Some n → slice_get things.contents at ≡ Some c
          → read_field w (place_name s things at) r ≡ held s.heads things.names (unwrap_or (slice_get (fields_in (Some n) (Some c)) p) Null)
      by (Made (Class class) k) (Values vs) there holds =
          at_made (Class class) k (Values vs) there holds
          ∙ ap (λ (o : Option Held). unwrap_or o machine.Null) (find_zip _ (map (held s.heads things.names) vs) r p (ap (λ o. field_place (s.classes.fields (class_of (name_in s.heads o))) r) (sym there) ∙ place) ∙ slice_get-map (held s.heads things.names) vs p)
          ∙ value_or_null s things.names (slice_get vs p)
      by (Made (Class class) k) (Text units) there holds = at_made (Class class) k (Text units) there holds ∙ sym nothing
      by (Made (Class class) k) Fixed there holds = at_made (Class class) k Fixed there holds ∙ sym nothing
      by (Made (Array type) k) (Values vs) there holds = at_made (Array type) k (Values vs) there holds ∙ sym nothing
      by (Made (Array type) k) (Text units) there holds = at_made (Array type) k (Text units) there holds ∙ sym nothing
      by (Made (Array type) k) Fixed there holds = at_made (Array type) k Fixed there holds ∙ sym nothing
      by (Literal units) c there holds = ap (λ o. read_field w (name_in s.heads o) r) there ∙ sym nothing
      by (ClassObject type) c there holds = ap (λ o. read_field w (name_in s.heads o) r) there ∙ sym nothing

-- a field's value is settled
settled_in : (n : ℕ) (o : Option Name) (c : Option Content) (p : ℕ) (v : Value) → ((v' : Value) → slice_get (values_of c) p ≡ Some v' → Settled n v') → slice_get (fields_in o c) p ≡ Some v → Settled n v
settled_in n (Some (Made (Class class) k)) (Some (Values vs)) p v h e = h v e
settled_in n (Some (Made (Class class) k)) (Some (Text units)) p v h e = absurd (none-some v (sym (no_value p) ∙ e))
settled_in n (Some (Made (Class class) k)) (Some Fixed) p v h e = absurd (none-some v (sym (no_value p) ∙ e))
settled_in n (Some (Made (Class class) k)) None p v h e = absurd (none-some v (sym (no_value p) ∙ e))
settled_in n (Some (Made (Array type) k)) c p v h e = absurd (none-some v (sym (no_value p) ∙ e))
settled_in n (Some (Literal units)) c p v h e = absurd (none-some v (sym (no_value p) ∙ e))
settled_in n (Some (ClassObject type)) c p v h e = absurd (none-some v (sym (no_value p) ∙ e))
settled_in n None c p v h e = absurd (none-some v (sym (no_value p) ∙ e))

settled_or_null : (n : ℕ) (o : Option Value) → ((v : Value) → o ≡ Some v → Settled n v) → Settled n (unwrap_or o Null)
settled_or_null n None h = refl
settled_or_null n (Some v) h = h v refl

get_gives : (o : Option Value) → Gives (unwrap_or o Null) ≡ get_reply o
get_gives None = refl
get_gives (Some v) = refl

pub get_answer : (things : Things) (others : Others) (r : Reference) (at : Ref) (index : ℕ) → is_known_object (length things.names) (Some at) ≡ true
    → IsAnswerWhere (HasField things (Some at) r true index) things others (λ s names. GetField r (object s names (Some at))) things others (get_reply (slice_get (fields_at things at.0) index))
get_answer things others r at index known s w has distinct shares =
    let below = ltb-true at.0 (length things.names) known in
    let o = slice_get (fields_at things at.0) index in
    let q = declared s.classes r in
    subst (λ (reply : Reply). Replies s things others w reply (if_instance s.classes (place_name s things at.0) q.class (answers.Gives (read_field w (place_name s things at.0) q) w))) (get_gives o)
    (subst (λ (b : Bool). Replies s things others w (Gives (unwrap_or o Null)) (if b then answers.Gives (read_field w (place_name s things at.0) q) w else answers.Refuses)) (sym (has.is at refl)) (
      sym (read_same s things others w at.0 index q distinct shares below (has.place at refl refl)),
      settled_or_null (length things.names) o (λ v e. settled_in (length things.names) (slice_get things.names at.0) (slice_get things.contents at.0) index v (λ v' f. value_settled s things others w at.0 index v' shares f) e),
      shares,
    ))

pub get_refused : (things : Things) (others : Others) (r : Reference) (at : Ref) (index : ℕ)
    → IsAnswerWhere (HasField things (Some at) r false index) things others (λ s names. GetField r (object s names (Some at))) things others Refuses
get_refused things others r at index s w has distinct shares =
    subst (λ (b : Bool). Replies s things others w Refuses (if b then answers.Gives (read_field w (place_name s things at.0) (declared s.classes r)) w else answers.Refuses)) (sym (has.is at refl)) tt

find_zip_none : (fs : List Reference) (hs : List Held) (r : Reference) → field_place fs r ≡ None → find_field (zip fs hs) r ≡ None
find_zip_none [] hs r none = refl
find_zip_none (f ∷ fs) [] r none = refl
find_zip_none (f ∷ fs) (h ∷ hs) r none = by (same_member f r) refl (λ e. find_zip_none fs hs r e) where
  by : (b : Bool) → same_member f r ≡ b → (field_place fs r ≡ None → find_field (zip fs hs) r ≡ None) → (if b then Some h else find_field (zip fs hs) r) ≡ None
  by true e rest = absurd (none-some zero (sym (ap (λ (hit : Bool). if hit then Some 0 else option_map suc (field_place fs r)) (sym e) ∙ none)))
  by false e rest = rest (unmapped (field_place fs r) (ap (λ (hit : Bool). if hit then Some 0 else option_map suc (field_place fs r)) (sym e) ∙ none)) where
    unmapped : (o : Option ℕ) → option_map suc o ≡ None → o ≡ None
    unmapped None same = refl
    unmapped (Some p) same = absurd cc

-- of a field that objects of the class lack, the machine reads null
pub read_none : (s : Setting) (things : Things) (others : Others) (w : World) (at : ℕ) (r : Reference) → AreDistinct s.heads → Shares s things others w → at < length things.names
    → field_place (s.classes.fields (class_of (place_name s things at))) r ≡ None → read_field w (place_name s things at) r ≡ machine.Null
read_none s things others w at r distinct shares known none =
    let name = named_at things.names at known in
    let whole = shares.heap.objects.whole in
    let content = content_at things.contents at (omega arith) in
    by name.0 content.0 name.1 content.1 where
      at_made : (maker : Maker) (k : ℕ) (c : Content) → slice_get things.names at ≡ Some (Made maker k) → slice_get things.contents at ≡ Some c
          → read_field w (place_name s things at) r ≡ field_of (Some (object_of s.heads s.classes.fields things.names maker c)) r
      at_made maker k c there holds = ap (λ o. read_field w (name_in s.heads o) r) there ∙ ap (λ o. field_of o r) (made_found s things others w at maker k c distinct shares there holds)

      by : (n : Name) (c : Content) → slice_get things.names at ≡ Some n → slice_get things.contents at ≡ Some c → read_field w (place_name s things at) r ≡ machine.Null
      by (Made (Class class) k) (Values vs) there holds =
          at_made (Class class) k (Values vs) there holds
          ∙ ap (λ (o : Option Held). unwrap_or o machine.Null) (find_zip_none _ (map (held s.heads things.names) vs) r (ap (λ o. field_place (s.classes.fields (class_of (name_in s.heads o))) r) (sym there) ∙ none))
      by (Made (Class class) k) (Text units) there holds = at_made (Class class) k (Text units) there holds
      by (Made (Class class) k) Fixed there holds = at_made (Class class) k Fixed there holds
      by (Made (Array type) k) (Values vs) there holds = at_made (Array type) k (Values vs) there holds
      by (Made (Array type) k) (Text units) there holds = at_made (Array type) k (Text units) there holds
      by (Made (Array type) k) Fixed there holds = at_made (Array type) k Fixed there holds
      by (Literal units) c there holds = ap (λ o. read_field w (name_in s.heads o) r) there
      by (ClassObject type) c there holds = ap (λ o. read_field w (name_in s.heads o) r) there

-- ---- texts

-- the text that the machine reads
pub text_read : (s : Setting) (things : Things) (others : Others) (w : World) (at : ℕ) → AreDistinct s.heads → Shares s things others w → at < length things.names
    → units_at w (place_name s things at) ≡ text_seen (slice_get things.names at) (slice_get things.contents at)
text_read s things others w at distinct shares known =
    let name = named_at things.names at known in
    let whole = shares.heap.objects.whole in
    let content = content_at things.contents at (omega arith) in
    by name.0 content.0 name.1 content.1 ∙ sym (ap (λ o. text_seen o (slice_get things.contents at)) name.1 ∙ ap (text_seen (Some name.0)) content.1) where
      at_made : (maker : Maker) (k : ℕ) (c : Content) → slice_get things.names at ≡ Some (Made maker k) → slice_get things.contents at ≡ Some c
          → units_at w (place_name s things at) ≡ text_in (Some (object_of s.heads s.classes.fields things.names maker c))
      at_made maker k c there holds = ap (λ o. units_at w (name_in s.heads o)) there ∙ ap text_in (made_found s things others w at maker k c distinct shares there holds)

      by : (n : Name) (c : Content) → slice_get things.names at ≡ Some n → slice_get things.contents at ≡ Some c → units_at w (place_name s things at) ≡ text_seen (Some n) (Some c)
      by (Made (Class class) k) (Values vs) there holds = at_made (Class class) k (Values vs) there holds
      by (Made (Class class) k) (Text units) there holds = at_made (Class class) k (Text units) there holds
      by (Made (Class class) k) Fixed there holds = at_made (Class class) k Fixed there holds
      by (Made (Array type) k) (Values vs) there holds = at_made (Array type) k (Values vs) there holds
      by (Made (Array type) k) (Text units) there holds = at_made (Array type) k (Text units) there holds
      by (Made (Array type) k) Fixed there holds = at_made (Array type) k Fixed there holds
      by (Literal units) c there holds = ap (λ o. units_at w (name_in s.heads o)) there
      by (ClassObject type) c there holds = ap (λ o. units_at w (name_in s.heads o)) there
