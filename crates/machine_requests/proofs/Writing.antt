-- What the class machine makes of a write to a field of an object.
use Rattle.std.specs.Prelude.{◌≡◌, ℕ, zero, suc, ◌<◌, Bool, true, false, if◌then◌else◌, List, [], ◌∷◌, map, length, slice_get, slice_set, Option, Some, None, is_some, refl}
use Rattle.std.specs.List.{AllByRecursion, zip}
use Rattle.std.specs.Option.{option_map}
use Rattle.std.proofs.Common.{sym, ◌∙◌, ap, subst, arith}
use Rattle.std.proofs.lemmas.Bool.{ltb-true, false≢true}
use Rattle.std.proofs.lemmas.List.{length-map}
use Rattle.std.proofs.lemmas.Option.{none-some, same_Some}
use Rattle.class_file.specs.Pool.{Reference}
use Rattle.class_machine.specs.declared.kinds.Element.{Element}
use Rattle.class_machine.specs.Values as machine
use Rattle.class_machine.specs.Values.{Held, class_of}
use Rattle.class_machine.specs.Descriptors.{element_of, narrowed}
use Rattle.class_machine.specs.Classes.{same_member}
use Rattle.class_machine.specs.World as worlds
use Rattle.class_machine.specs.World.{World, object_at, set_object, with_changed, with_field, stored, written as write_in, write_field}
use Rattle.class_machine.specs.Effect.{PutField}
use Rattle.class_machine.specs.Answers as answers
use Rattle.class_machine.specs.Answers.{declared}
use Rattle.machine_values.specs.declared.values.Ref.{Ref}
use Rattle.machine_values.specs.declared.values.Value.{Value}
use Rattle.machine_values.specs.declared.names.Maker.TheVariants.{Class, Array}
use Rattle.machine_values.specs.declared.names.Name.{Name}
use Rattle.machine_values.specs.declared.names.Name.TheVariants.{Made, Literal, ClassObject}
use Rattle.machine_values.specs.declared.content.Content.{Content}
use Rattle.machine_values.specs.declared.content.Content.TheVariants.{Values, Text, Fixed}
use Rattle.machine_values.specs.Things.{Things, changed, values_of, values_at}
use Rattle.machine_values.specs.Standing.{machine_name, name_in, held, Settled, object_of}
use Rattle.machine_values.specs.States.{is_known_object}
use Rattle.machine_requests.specs.declared.reply.Reply.TheVariants.{Done, Refuses}
use Rattle.machine_requests.specs.Telling.{AreDistinct}
use Rattle.machine_requests.specs.TellingLaws.{named_at}
use Rattle.machine_requests.specs.Shares.{Setting, Others, Shares}
use Rattle.machine_requests.specs.Growing.{store_shares}
use Rattle.machine_requests.specs.Replies.{Replies, IsAnswerWhere, object}
use Rattle.machine_requests.specs.Arrays.{kept_value}
use Rattle.machine_requests.specs.Objects.{fields_in, fields_at, field_place, HasField, HoldsSuch, AreFilled}
use Rattle.machine_requests.proofs.Found.{made_found}
use Rattle.machine_requests.proofs.ArrayLaws.{place_name, content_at}
use Rattle.machine_requests.proofs.StaticLaws.{member_is, kept_same, kept_settled}
use Rattle.machine_requests.proofs.Stores.{map_set, all_set, all_at}

-- ---- the place of a field

pub place_below : (fs : List Reference) (r : Reference) (p : ℕ) → field_place fs r ≡ Some p → p < length fs
place_below [] r p e = absurd (none-some p e)
place_below (f ∷ fs) r p e = by (λ q k. place_below fs r q k) (same_member f r) e where
  later : (o : Option ℕ) → ((q : ℕ) → o ≡ Some q → q < length fs) → option_map suc o ≡ Some p → p < suc (length fs)
  later None rest k = absurd (none-some p k)
  later (Some q) rest k = let below = rest q refl in let same = same_Some (suc q) p k in omega arith

  by : ((q : ℕ) → field_place fs r ≡ Some q → q < length fs) → (hit : Bool) → (if hit then Some 0 else option_map suc (field_place fs r)) ≡ Some p → p < suc (length fs)
  by rest true k = let same = same_Some 0 p k in omega arith
  by rest false k = later (field_place fs r) rest k

-- the field that is written is the one at its place
set_zip : (fs : List Reference) (hs : List Held) (r : Reference) (p : ℕ) (h : Held) → field_place fs r ≡ Some p → p < length hs → with_field (zip fs hs) r h ≡ zip fs (slice_set hs p h)
set_zip [] hs r p h e below = absurd (none-some p e)
set_zip (f ∷ fs) [] r p h e below = absurd (omega arith)
set_zip (f ∷ fs) (g ∷ hs) r p h e below = by (λ q k less. set_zip fs hs r q h k less) (same_member f r) refl e where
  later : (o : Option ℕ) → ((q : ℕ) → o ≡ Some q → q < length hs → with_field (zip fs hs) r h ≡ zip fs (slice_set hs q h)) → option_map suc o ≡ Some p → (f, g) ∷ with_field (zip fs hs) r h ≡ zip (f ∷ fs) (slice_set (g ∷ hs) p h)
  later None rest k = absurd (none-some p k)
  later (Some q) rest k =
      let same = same_Some (suc q) p k in
      ap (λ l. (f, g) ∷ l) (rest q refl (omega arith)) ∙ ap (λ i. zip (f ∷ fs) (slice_set (g ∷ hs) i h)) same

  by : ((q : ℕ) → field_place fs r ≡ Some q → q < length hs → with_field (zip fs hs) r h ≡ zip fs (slice_set hs q h)) → (hit : Bool) → same_member f r ≡ hit → (if hit then Some 0 else option_map suc (field_place fs r)) ≡ Some p
      → (if hit then (r, h) ∷ zip fs hs else (f, g) ∷ with_field (zip fs hs) r h) ≡ zip (f ∷ fs) (slice_set (g ∷ hs) p h)
  by rest true is k = ap (λ x. (x, h) ∷ zip fs hs) (sym (member_is f r is)) ∙ ap (λ i. zip (f ∷ fs) (slice_set (g ∷ hs) i h)) (same_Some 0 p k)
  by rest false is k = later (field_place fs r) rest k

pub none_where : {X : Type 0} (o : Option X) → is_some o ≡ false → o ≡ None
none_where None e = refl
none_where (Some x) e = absurd (false≢true (sym e))

pub where_some : {X : Type 0} (xs : List X) (i : ℕ) → is_some (slice_get xs i) ≡ true → i < length xs
where_some [] i e = absurd (false≢true e)
where_some (x ∷ xs) zero e = omega arith
where_some (x ∷ xs) (suc i) e = let below = where_some xs i e in omega arith

-- ---- what is written

abbrev written : Things → ℕ → ℕ → Element → Value → Content
written things at k e v = Values (slice_set (values_at things at) k (kept_value e v))

nothing_below : (k : ℕ) → k < length {A = Value} [] → ⊥
nothing_below k h = omega arith

module _ (s : Setting) (things : Things) (others : Others) (w : World) (distinct : AreDistinct s.heads) (shares : Shares s things others w) (at index : ℕ) (r : Reference) (e : Element) (v : Value)
    (place : field_place (s.classes.fields (class_of (place_name s things at))) r ≡ Some index) (such : element_of r.member.descriptor ≡ e) (settled : Settled (length things.names) v) where
  abbrev new_held : Held
  new_held = narrowed (element_of r.member.descriptor) (held s.heads things.names v)

  abbrev Written : Content → Type 0
  Written c = Shares s (changed things at (Values (slice_set (values_of (Some c)) index (kept_value e v)))) others (write_field w (place_name s things at) r new_held)

  same_held : held s.heads things.names (kept_value e v) ≡ new_held
  same_held = kept_same s.heads things.names e v ∙ ap (λ x. narrowed x (held s.heads things.names v)) (sym such)

  all_settled : (c : Content) → slice_get things.contents at ≡ Some c → AllByRecursion (Settled (length things.names)) (slice_set (values_of (Some c)) index (kept_value e v))
  all_settled c holds =
      all_set (length things.names) (values_of (Some c)) index (kept_value e v)
      (subst (λ (o : Option Content). AllByRecursion (Settled (length things.names)) (values_of o)) holds (all_at (length things.names) things.contents at shares.heap.objects.settled))
      (kept_settled (length things.names) e v settled)

  in_object : (class k : ℕ) (vs : List Value) → slice_get things.names at ≡ Some (Made (Class (record { 0 = class })) k) → slice_get things.contents at ≡ Some (Values vs) → index < length vs → Written (Values vs)
  in_object class k vs there holds below =
      let name = Made (Class (record { 0 = class })) k in
      let c = Values (slice_set vs index (kept_value e v)) in
      let fs = s.classes.fields (class_of (machine_name s.heads name)) in
      let f = held s.heads things.names in
      let placed : field_place fs r ≡ Some index = ap (λ (o : Option Name). field_place (s.classes.fields (class_of (name_in s.heads o))) r) (sym there) ∙ place in
      let found = made_found s things others w at (Class (record { 0 = class })) k (Values vs) distinct shares there holds in
      let more = length-map vs f in
      let old = object_of s.heads s.classes.fields things.names (Class (record { 0 = class })) (Values vs) in
      let same : stored old r new_held ≡ object_of s.heads s.classes.fields things.names (Class (record { 0 = class })) c =
      ap worlds.Instance (set_zip fs (map f vs) r index new_held placed (omega arith) ∙ ap (zip fs) (sym (map_set f vs index (kept_value e v) ∙ ap (slice_set (map f vs) index) same_held))) in
      subst (λ (a : machine.Name). Shares s (changed things at c) others (write_field w a r new_held)) (sym (ap (name_in s.heads) there))
      (subst (λ (o : Option worlds.Object). Shares s (changed things at c) others (write_in w (machine_name s.heads name) r new_held o)) (sym found)
      (subst (λ (o : worlds.Object). Shares s (changed things at c) others (record w { heap = with_changed w.heap (machine_name s.heads name) o })) (sym same)
      (store_shares s things others w at (Class (record { 0 = class })) k c distinct shares there (all_settled (Values vs) holds))))

  by_name : (n : Name) (c : Content) → slice_get things.names at ≡ Some n → slice_get things.contents at ≡ Some c → index < length (fields_in (Some n) (Some c)) → Written c
  by_name (Made (Class class) k) (Values vs) there holds below = in_object class.0 k vs there holds below
  by_name (Made (Class class) k) (Text units) there holds below = absurd (nothing_below index below)
  by_name (Made (Class class) k) Fixed there holds below = absurd (nothing_below index below)
  by_name (Made (Array type) k) c there holds below = absurd (nothing_below index below)
  by_name (Literal units) c there holds below = absurd (nothing_below index below)
  by_name (ClassObject type) c there holds below = absurd (nothing_below index below)

  pub write_shares : at < length things.names → index < length (fields_at things at) → Shares s (changed things at (written things at index e v)) others (write_field w (place_name s things at) r new_held)
  write_shares known below =
      let name = named_at things.names at known in
      let whole = shares.heap.objects.whole in
      let content = content_at things.contents at (omega arith) in
      let within = subst (λ (o : Option Content). index < length (fields_in (Some name.0) o)) content.1 (subst (λ (o : Option Name). index < length (fields_in o (slice_get things.contents at))) name.1 below) in
      subst (λ (o : Option Content). Shares s (changed things at (Values (slice_set (values_of o) index (kept_value e v)))) others (write_field w (place_name s things at) r new_held)) (sym content.1)
      (by_name name.0 content.0 name.1 content.1 within)

-- ---- answers

abbrev pub Writes : Things → Option Ref → Reference → Bool → ℕ → Element → Setting → Type 0
Writes things a r instance index e s = HasField things a r instance index s × HoldsSuch r e s × AreFilled things s

abbrev put_reply : Bool → Setting → World → machine.Name → Reference → Held → answers.Reply
put_reply b s w a r h = if b then answers.Done (write_field w a r h) else answers.Refuses

pub put_done : (things : Things) (others : Others) (r : Reference) (at : Ref) (index : ℕ) (e : Element) (v : Value) → is_known_object (length things.names) (Some at) ≡ true → Settled (length things.names) v → index < length (fields_at things at.0)
    → IsAnswerWhere (Writes things (Some at) r true index e) things others (λ s names. PutField r (object s names (Some at)) (held s.heads names v)) (changed things at.0 (Values (slice_set (values_at things at.0) index (kept_value e v)))) others Done
put_done things others r at index e v known settled below s w has distinct shares =
    let q = declared s.classes r in
    let h = narrowed (element_of q.member.descriptor) (held s.heads things.names v) in
    let after = changed things at.0 (Values (slice_set (values_at things at.0) index (kept_value e v))) in
    subst (λ (b : Bool). Replies s after others w Done (put_reply b s w (place_name s things at.0) q h)) (sym (has.0.is at refl))
    (write_shares s things others w distinct shares at.0 index q e v (has.0.place at refl refl) has.1.element settled (ltb-true at.0 (length things.names) known) below)

pub put_refused : (things : Things) (others : Others) (r : Reference) (at : Ref) (index : ℕ) (e : Element) (v : Value)
    → IsAnswerWhere (Writes things (Some at) r false index e) things others (λ s names. PutField r (object s names (Some at)) (held s.heads names v)) things others Refuses
put_refused things others r at index e v s w has distinct shares =
    let q = declared s.classes r in
    subst (λ (b : Bool). Replies s things others w Refuses (put_reply b s w (place_name s things at.0) q (narrowed (element_of q.member.descriptor) (held s.heads things.names v)))) (sym (has.0.is at refl)) tt

-- the object has the field
pub put_within : (things : Things) (others : Others) (r : Reference) (at : Ref) (index : ℕ) (e : Element) (v : Value) → is_known_object (length things.names) (Some at) ≡ true → slice_get (fields_at things at.0) index ≡ None
    → IsAnswerWhere (Writes things (Some at) r true index e) things others (λ s names. PutField r (object s names (Some at)) (held s.heads names v)) things others Refuses
put_within things others r at index e v known none s w has distinct shares =
    let filled = has.2.each at.0 (ltb-true at.0 (length things.names) known) in
    let below = place_below (s.classes.fields (class_of (place_name s things at.0))) (declared s.classes r) index (has.0.place at refl refl) in
    let there = slice_get_there (fields_at things at.0) index (omega arith) in
    absurd (none-some there.0 (sym none ∙ there.1)) where
      slice_get_there : (vs : List Value) (i : ℕ) → i < length vs → (x : Value) × (slice_get vs i ≡ Some x)
      slice_get_there [] i h = absurd (omega arith)
      slice_get_there (x ∷ vs) zero h = (x, refl)
      slice_get_there (x ∷ vs) (suc i) h = slice_get_there vs i (omega arith)
