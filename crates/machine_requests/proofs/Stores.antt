-- What the class machine answers of stores into arrays.
use Rattle.std.specs.Prelude.{◌≡◌, ℕ, zero, suc, ◌<◌, Bool, true, false, if◌then◌else◌, nat_lt, List, [], ◌∷◌, map, length, slice_get, slice_set, Option, Some, None, refl, ℤ, pos, negsuc}
use Rattle.std.specs.List.{AllByRecursion}
use Rattle.std.specs.Option.{option_map}
use Rattle.std.proofs.Common.{sym, ◌∙◌, ap, subst, arith}
use Rattle.std.proofs.lemmas.Bool.{ltb-true}
use Rattle.std.proofs.lemmas.Option.{none-some, same_Some, slice_get-map}
use Rattle.std.proofs.lemmas.List.{length-map}
use Rattle.aj_names.specs.declared.types.FieldType.{FieldType}
use Rattle.class_machine.specs.declared.kinds.Element.{Element}
use Rattle.class_machine.specs.declared.kinds.Fault.{Fault}
use Rattle.class_machine.specs.Values as machine
use Rattle.class_machine.specs.Values.{class_of}
use Rattle.class_machine.specs.Descriptors.{held_in, narrowed}
use Rattle.class_machine.specs.Classes.{Classes}
use Rattle.class_machine.specs.World as worlds
use Rattle.class_machine.specs.World.{World, object_at, set_object, with_changed}
use Rattle.class_machine.specs.Effect.{ArrayStore}
use Rattle.class_machine.specs.Answers as answers
use Rattle.class_machine.specs.Answers.{serves, may_hold, at_index}
use Rattle.machine_values.specs.declared.values.Ref.{Ref}
use Rattle.machine_values.specs.declared.values.Value.{Value}
use Rattle.machine_values.specs.declared.names.Maker.TheVariants.{Class, Array}
use Rattle.machine_values.specs.declared.names.Name.{Name}
use Rattle.machine_values.specs.declared.names.Name.TheVariants.{Made, Literal, ClassObject}
use Rattle.machine_values.specs.declared.content.Content.{Content}
use Rattle.machine_values.specs.declared.content.Content.TheVariants.{Values, Text, Fixed}
use Rattle.machine_values.specs.Things.{Things, changed, values_of, values_at}
use Rattle.machine_values.specs.Types.{type_name}
use Rattle.machine_values.specs.Standing.{machine_name, name_in, held, Settled, IsSettledContent}
use Rattle.machine_values.specs.States.{is_known_object}
use Rattle.machine_requests.specs.declared.reply.Reply.{Reply}
use Rattle.machine_requests.specs.declared.reply.Reply.TheVariants.{Done, Faults, Refuses}
use Rattle.machine_requests.specs.Telling.{AreDistinct}
use Rattle.machine_requests.specs.Shares.{Setting, Others, Shares}
use Rattle.machine_requests.specs.Growing.{store_shares}
use Rattle.machine_requests.specs.Replies.{Replies, IsAnswerWhere, object}
use Rattle.machine_requests.specs.Arrays.{type_of_array, array_type, array_element, index_in, kept_value, Holds}
use Rattle.machine_requests.proofs.ArrayLaws.{place_name, IsArray, array_there, none_there, at_array, held_in_array, index_outside, index_inside}
use Rattle.machine_requests.proofs.StaticLaws.{kept_same, kept_settled}

-- ---- which object it is

type_at : (o : Option Name) (p : Option Content) (type : FieldType) → type_of_array o p ≡ Some type → (k : ℕ) × (o ≡ Some (Made (Array type) k))
type_at (Some (Made (Array other) k)) (Some (Values vs)) type h = (k, ap (λ t. Some (Made (Array t) k)) (same_Some other type h))
type_at (Some (Made (Array other) k)) (Some (Text units)) type h = absurd (none-some type h)
type_at (Some (Made (Array other) k)) (Some Fixed) type h = absurd (none-some type h)
type_at (Some (Made (Array other) k)) None type h = absurd (none-some type h)
type_at (Some (Made (Class class) k)) p type h = absurd (none-some type h)
type_at (Some (Literal units)) p type h = absurd (none-some type h)
type_at (Some (ClassObject other)) p type h = absurd (none-some type h)
type_at None p type h = absurd (none-some type h)

pub map_set : (f : Value → machine.Held) (xs : List Value) (k : ℕ) (x : Value) → map f (slice_set xs k x) ≡ slice_set (map f xs) k (f x)
map_set f [] k x = refl
map_set f (y ∷ xs) zero x = refl
map_set f (y ∷ xs) (suc k) x = ap (λ l. f y ∷ l) (map_set f xs k x)

pub all_set : (n : ℕ) (xs : List Value) (k : ℕ) (x : Value) → AllByRecursion (Settled n) xs → Settled n x → AllByRecursion (Settled n) (slice_set xs k x)
all_set n [] k x h j = tt
all_set n (y ∷ xs) zero x h j = (j, h.1)
all_set n (y ∷ xs) (suc k) x h j = (h.0, all_set n xs k x h.1 j)

pub all_at : (n : ℕ) (cs : List Content) (at : ℕ) → AllByRecursion (IsSettledContent n) cs → AllByRecursion (Settled n) (values_of (slice_get cs at))
all_at n [] at h = tt
all_at n (Values vs ∷ cs) zero h = h.0
all_at n (Text units ∷ cs) zero h = tt
all_at n (Fixed ∷ cs) zero h = tt
all_at n (c ∷ cs) (suc at) h = all_at n cs at h.1

-- ---- what is stored

abbrev kept : Things → ℕ → FieldType → ℕ → Value → Content
kept things at type k v = Values (slice_set (values_at things at) k (kept_value (array_element type) v))

-- the machine's world with the element
abbrev with_element : World → machine.Name → List machine.Held → ℕ → machine.Held → World
with_element w a elements k h = set_object w a (worlds.Array (slice_set elements k (narrowed (held_in (class_of a)) h)))

pub kept_shares : (s : Setting) (things : Things) (others : Others) (w : World) (at : ℕ) (type : FieldType) (k : ℕ) (v : Value) → AreDistinct s.heads → Shares s things others w → IsArray s things w at type
    → array_type things at ≡ Some type → Settled (length things.names) v
    → Shares s (changed things at (kept things at type k v)) others (with_element w (place_name s things at) (map (held s.heads things.names) (values_at things at)) k (held s.heads things.names v))
kept_shares s things others w at type k v distinct shares is array settled =
    let named = type_at (slice_get things.names at) (slice_get things.contents at) type array in
    let c = kept things at type k v in
    let f = held s.heads things.names in
    let settled_all = all_set (length things.names) (values_at things at) k (kept_value (array_element type) v) (all_at (length things.names) things.contents at shares.heap.objects.settled) (kept_settled (length things.names) (array_element type) v settled) in
    let name : place_name s things at ≡ machine_name s.heads (Made (Array type) named.0) = ap (name_in s.heads) named.1 in
    let element : held_in (class_of (place_name s things at)) ≡ array_element type = ap held_in is.class ∙ held_in_array type is.fit in
    let same : map (held s.heads things.names) (slice_set (values_at things at) k (kept_value (array_element type) v))
    ≡ slice_set (map (held s.heads things.names) (values_at things at)) k (narrowed (held_in (class_of (place_name s things at))) (held s.heads things.names v)) =
    map_set (held s.heads things.names) (values_at things at) k (kept_value (array_element type) v)
    ∙ ap (slice_set (map (held s.heads things.names) (values_at things at)) k) (kept_same s.heads things.names (array_element type) v ∙ ap (λ e. narrowed e (held s.heads things.names v)) (sym element)) in
    subst (λ (l : List machine.Held). Shares s (changed things at c) others (record w { heap = with_changed w.heap (place_name s things at) (worlds.Array l) })) same
    (subst (λ (a : machine.Name). Shares s (changed things at c) others (record w { heap = with_changed w.heap a (worlds.Array (map (held s.heads things.names) (slice_set (values_at things at) k (kept_value (array_element type) v)))) })) (sym name)
    (store_shares s things others w at (Array type) named.0 c distinct shares named.1 settled_all))

-- ---- stores

abbrev store_at : Classes → World → machine.Name → machine.Held → List machine.Held → ℕ → machine.Held → answers.Reply
store_at cs w a v elements k old = if may_hold cs (class_of a) v then answers.Done (with_element w a elements k v) else answers.Faults Fault.ArrayStore

abbrev store_go : Classes → World → machine.Name → ℤ → machine.Held → List machine.Held → answers.Reply
store_go cs w a i v elements = at_index i elements (store_at cs w a v elements)

pub store_null : (Holds : Setting → Type 0) (things : Things) (others : Others) (e : Element) (i : ℤ) (v : Value) → IsAnswerWhere Holds things others (λ s names. ArrayStore e (object s names None) i (held s.heads names v)) things others (Faults Fault.NullPointer)
store_null Holds things others e i v s w holds distinct shares = (refl, shares)

pub store_refused : (Holds : Setting → Type 0) (things : Things) (others : Others) (e : Element) (at : Ref) (i : ℤ) (v : Value) → is_known_object (length things.names) (Some at) ≡ true → array_type things at.0 ≡ None
    → IsAnswerWhere Holds things others (λ s names. ArrayStore e (object s names (Some at)) i (held s.heads names v)) things others Refuses
store_refused Holds things others e at i v known none s w holds distinct shares =
    subst (Replies s things others w Refuses) (sym (none_there s things others w at.0 _ distinct shares (ltb-true at.0 (length things.names) known) none)) tt

stored : (s : Setting) (things things' : Things) (others : Others) (w : World) (e : Element) (at : ℕ) (i : ℤ) (v : Value) (type : FieldType) (reply : Reply) → AreDistinct s.heads → Shares s things others w → at < length things.names
    → array_type things at ≡ Some type
    → Replies s things' others w reply (if serves e (array_element type) then store_go s.classes w (place_name s things at) i (held s.heads things.names v) (map (held s.heads things.names) (values_at things at)) else answers.Refuses)
    → Replies s things' others w reply (answers.array_store s.classes w e (place_name s things at) i (held s.heads things.names v))
stored s things things' others w e at i v type reply distinct shares known array given =
    let is = array_there s things others w at type distinct shares known array in
    subst (Replies s things' others w reply) (sym (at_array s things others w e at type (store_go s.classes w (place_name s things at) i (held s.heads things.names v)) is)) given

pub store_unserved : (Holds : Setting → Type 0) (things : Things) (others : Others) (e : Element) (at : Ref) (i : ℤ) (v : Value) (type : FieldType) → is_known_object (length things.names) (Some at) ≡ true → array_type things at.0 ≡ Some type
    → serves e (array_element type) ≡ false → IsAnswerWhere Holds things others (λ s names. ArrayStore e (object s names (Some at)) i (held s.heads names v)) things others Refuses
store_unserved Holds things others e at i v type known array other s w holds distinct shares =
    stored s things things others w e at.0 i v type Refuses distinct shares (ltb-true at.0 (length things.names) known) array
    (subst (λ (b : Bool). Replies s things others w Refuses (if b then store_go s.classes w (place_name s things at.0) i (held s.heads things.names v) (map (held s.heads things.names) (values_at things at.0)) else answers.Refuses)) (sym other) tt)

pub store_outside : (Holds : Setting → Type 0) (things : Things) (others : Others) (e : Element) (at : Ref) (i : ℤ) (v : Value) (type : FieldType) → is_known_object (length things.names) (Some at) ≡ true → array_type things at.0 ≡ Some type
    → serves e (array_element type) ≡ true → index_in i (length (values_at things at.0)) ≡ None
    → IsAnswerWhere Holds things others (λ s names. ArrayStore e (object s names (Some at)) i (held s.heads names v)) things others (Faults Fault.ArrayIndex)
store_outside Holds things others e at i v type known array served outside s w holds distinct shares =
    let elements = map (held s.heads things.names) (values_at things at.0) in
    stored s things things others w e at.0 i v type (Faults Fault.ArrayIndex) distinct shares (ltb-true at.0 (length things.names) known) array
    (subst (λ (b : Bool). Replies s things others w (Faults Fault.ArrayIndex) (if b then store_go s.classes w (place_name s things at.0) i (held s.heads things.names v) (map (held s.heads things.names) (values_at things at.0)) else answers.Refuses)) (sym served)
    (subst (Replies s things others w (Faults Fault.ArrayIndex))
    (sym (index_outside i elements (store_at s.classes w (place_name s things at.0) (held s.heads things.names v) elements) (ap (index_in i) (length-map (values_at things at.0) (held s.heads things.names)) ∙ outside))) (refl, shares)))

-- within the array, by whether it may hold the value
stored_within : (s : Setting) (things things' : Things) (others : Others) (w : World) (e : Element) (at : Ref) (i : ℤ) (v : Value) (type : FieldType) (k : ℕ) (old : Value) (fits : Bool) (reply : Reply) → AreDistinct s.heads → Shares s things others w
    → is_known_object (length things.names) (Some at) ≡ true → array_type things at.0 ≡ Some type → serves e (array_element type) ≡ true → index_in i (length (values_at things at.0)) ≡ Some k → slice_get (values_at things at.0) k ≡ Some old
    → may_hold s.classes (type_name type) (held s.heads things.names v) ≡ fits
    → Replies s things' others w reply (if fits then answers.Done (with_element w (place_name s things at.0) (map (held s.heads things.names) (values_at things at.0)) k (held s.heads things.names v)) else answers.Faults Fault.ArrayStore)
    → Replies s things' others w reply (answers.array_store s.classes w e (place_name s things at.0) i (held s.heads things.names v))
stored_within s things things' others w e at i v type k old fits reply distinct shares known array served inside there may given =
    let elements = map (held s.heads things.names) (values_at things at.0) in
    let a = place_name s things at.0 in
    let h = held s.heads things.names v in
    let is = array_there s things others w at.0 type distinct shares (ltb-true at.0 (length things.names) known) array in
    stored s things things' others w e at.0 i v type reply distinct shares (ltb-true at.0 (length things.names) known) array
    (subst (λ (b : Bool). Replies s things' others w reply (if b then store_go s.classes w (place_name s things at.0) i (held s.heads things.names v) (map (held s.heads things.names) (values_at things at.0)) else answers.Refuses)) (sym served)
    (subst (Replies s things' others w reply)
    (sym (index_inside i elements (store_at s.classes w a h elements) k (held s.heads things.names old) (ap (index_in i) (length-map (values_at things at.0) (held s.heads things.names)) ∙ inside)
    (slice_get-map (held s.heads things.names) (values_at things at.0) k ∙ ap (option_map (held s.heads things.names)) there)
    ∙ ap (λ (b : Bool). if b then answers.Done (with_element w a elements k h) else answers.Faults Fault.ArrayStore) (ap (λ c. may_hold s.classes c h) is.class ∙ may))) given))

pub store_wrong : (things : Things) (others : Others) (e : Element) (at : Ref) (i : ℤ) (v : Value) (type : FieldType) (k : ℕ) (old : Value) → is_known_object (length things.names) (Some at) ≡ true → array_type things at.0 ≡ Some type
    → serves e (array_element type) ≡ true → index_in i (length (values_at things at.0)) ≡ Some k → slice_get (values_at things at.0) k ≡ Some old
    → IsAnswerWhere (Holds things (Some at) v false) things others (λ s names. ArrayStore e (object s names (Some at)) i (held s.heads names v)) things others (Faults Fault.ArrayStore)
store_wrong things others e at i v type k old known array served inside there s w holds distinct shares =
    stored_within s things things others w e at i v type k old false (Faults Fault.ArrayStore) distinct shares known array served inside there (holds.may at type refl array) (refl, shares)

pub store_done : (things : Things) (others : Others) (e : Element) (at : Ref) (i : ℤ) (v : Value) (type : FieldType) (k : ℕ) (old : Value) → is_known_object (length things.names) (Some at) ≡ true → array_type things at.0 ≡ Some type
    → serves e (array_element type) ≡ true → index_in i (length (values_at things at.0)) ≡ Some k → slice_get (values_at things at.0) k ≡ Some old → Settled (length things.names) v
    → IsAnswerWhere (Holds things (Some at) v true) things others (λ s names. ArrayStore e (object s names (Some at)) i (held s.heads names v)) (changed things at.0 (kept things at.0 type k v)) others Done
store_done things others e at i v type k old known array served inside there settled s w holds distinct shares =
    let is = array_there s things others w at.0 type distinct shares (ltb-true at.0 (length things.names) known) array in
    stored_within s things (changed things at.0 (kept things at.0 type k v)) others w e at i v type k old true Done distinct shares known array served inside there (holds.may at type refl array)
    (kept_shares s things others w at.0 type k v distinct shares is array settled)

get_within : (xs : List Value) (i : ℕ) → i < length xs → (x : Value) × (slice_get xs i ≡ Some x)
get_within [] i h = absurd (omega arith)
get_within (x ∷ xs) zero h = (x, refl)
get_within (x ∷ xs) (suc i) h = get_within xs i (omega arith)

-- what an index says is within
pub index_below : (i : ℤ) (n k : ℕ) → index_in i n ≡ Some k → k < n
index_below (negsuc m) n k h = absurd (none-some k h)
index_below (pos m) n k h = by (nat_lt m n) refl h where
  by : (within : Bool) → nat_lt m n ≡ within → (if within then Some m else None) ≡ Some k → k < n
  by true e f = let same = same_Some m k f in let below = ltb-true m n e in omega arith
  by false e f = absurd (none-some k f)

pub stored_wrong : (things : Things) (others : Others) (e : Element) (at : Ref) (i : ℤ) (v : Value) (type : FieldType) (k : ℕ) → is_known_object (length things.names) (Some at) ≡ true → array_type things at.0 ≡ Some type
    → serves e (array_element type) ≡ true → index_in i (length (values_at things at.0)) ≡ Some k
    → IsAnswerWhere (Holds things (Some at) v false) things others (λ s names. ArrayStore e (object s names (Some at)) i (held s.heads names v)) things others (Faults Fault.ArrayStore)
stored_wrong things others e at i v type k known array served inside =
    let old = get_within (values_at things at.0) k (index_below i (length (values_at things at.0)) k inside) in store_wrong things others e at i v type k old.0 known array served inside old.1

pub stored_done : (things : Things) (others : Others) (e : Element) (at : Ref) (i : ℤ) (v : Value) (type : FieldType) (k : ℕ) → is_known_object (length things.names) (Some at) ≡ true → array_type things at.0 ≡ Some type
    → serves e (array_element type) ≡ true → index_in i (length (values_at things at.0)) ≡ Some k → Settled (length things.names) v
    → IsAnswerWhere (Holds things (Some at) v true) things others (λ s names. ArrayStore e (object s names (Some at)) i (held s.heads names v))
    (changed things at.0 (Values (slice_set (values_at things at.0) k (kept_value (array_element type) v)))) others Done
stored_done things others e at i v type k known array served inside settled =
    let old = get_within (values_at things at.0) k (index_below i (length (values_at things at.0)) k inside) in store_done things others e at i v type k old.0 known array served inside old.1 settled
