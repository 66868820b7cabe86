-- What the class machine answers of arrays.
use Rattle.std.specs.Prelude.{◌≡◌, ℕ, zero, suc, ◌<◌, ◌%◌, ◌^◌, Bool, true, false, if◌then◌else◌, nat_lt, List, [], ◌∷◌, ◌++◌, map, replicate, length, slice_get, Option, Some, None, refl, ℤ, pos, negsuc}
use Rattle.std.specs.List.{AllByRecursion}
use Rattle.std.specs.Option.{option_map}
use Rattle.std.proofs.Common.{sym, ◌∙◌, ap, subst, arith}
use Rattle.std.proofs.lemmas.Bool.{and_parts, false≢true, ltb-true, ltb-false, lt-ltb}
use Rattle.std.proofs.lemmas.Option.{none-some, same_Some, slice_get-map, slice_get_past}
use Rattle.std.proofs.lemmas.List.{length-map}
use Rattle.aj_names.specs.declared.types.Base.{Base}
use Rattle.aj_names.specs.declared.types.Base.TheVariants as base
use Rattle.aj_names.specs.declared.types.FieldType.{FieldType}
use Rattle.aj_names.specs.Descriptors.{base_spelling}
use Rattle.class_machine.specs.declared.kinds.Element.{Element}
use Rattle.class_machine.specs.declared.kinds.Fault.{Fault}
use Rattle.class_machine.specs.Values as machine
use Rattle.class_machine.specs.Values.{class_of}
use Rattle.class_machine.specs.Numbers.{count_int}
use Rattle.std.specs.Int.{w32, cast_signed}
use Rattle.class_machine.specs.Descriptors.{element_of, elements_of, held_in}
use Rattle.class_machine.specs.World as worlds
use Rattle.class_machine.specs.World.{World, object_at}
use Rattle.class_machine.specs.Effect.{ArrayLength, ArrayLoad}
use Rattle.class_machine.specs.Answers as answers
use Rattle.class_machine.specs.Answers.{serves, elements_in, array_at, at_index, element_or_fault}
use Rattle.machine_values.specs.declared.values.Ref.{Ref}
use Rattle.machine_values.specs.declared.values.Value.{Value}
use Rattle.machine_values.specs.declared.values.Value.TheVariants.{Int}
use Rattle.machine_values.specs.declared.names.Maker.{Maker}
use Rattle.machine_values.specs.declared.names.Maker.TheVariants.{Class, Array}
use Rattle.machine_values.specs.declared.names.Name.{Name}
use Rattle.machine_values.specs.declared.names.Name.TheVariants.{Made, Literal, ClassObject}
use Rattle.machine_values.specs.declared.content.Content.{Content}
use Rattle.machine_values.specs.declared.content.Content.TheVariants.{Values, Text, Fixed}
use Rattle.machine_values.specs.Things.{Things, values_of, values_at}
use Rattle.machine_values.specs.Types.{type_name}
use Rattle.machine_values.specs.Standing.{name_in, held, Settled, IsSettledContent, object_of}
use Rattle.machine_values.specs.States.{is_known_object}
use Rattle.machine_requests.specs.declared.reply.Reply.{Reply}
use Rattle.machine_requests.specs.declared.reply.Reply.TheVariants.{Gives, Faults, Refuses}
use Rattle.machine_requests.specs.Telling.{AreDistinct, is_array_type, is_plain_base}
use Rattle.machine_requests.specs.TellingLaws.{named_at, array_name, fit_at}
use Rattle.machine_requests.specs.Shares.{Setting, Others, Shares}
use Rattle.machine_requests.specs.Replies.{Replies, IsAnswer, object}
use Rattle.machine_requests.specs.Arrays.{type_of_array, array_type, base_element, type_element, array_element, index_in}
use Rattle.machine_requests.proofs.Found.{made_found}

-- ---- what an array holds

behind_base : (b : Base) → element_of (base_spelling b) ≡ base_element b
behind_base base.Boolean = refl
behind_base base.Byte = refl
behind_base base.Char = refl
behind_base base.Short = refl
behind_base base.Int = refl
behind_base base.Long = refl
behind_base base.Float = refl
behind_base base.Double = refl
behind_base (base.Class name) = refl

behind_brackets : (n : ℕ) (b : Base) → element_of (replicate n 91 ++ base_spelling b) ≡ type_element (record { base = b; dims = n })
behind_brackets zero b = behind_base b
behind_brackets (suc n) b = ap (λ (more : Bool). if more then Element.Reference else base_element b) (sym (lt-ltb 0 (suc n) (omega arith)))

inside_array : (n : ℕ) (b : Base) → nat_lt 0 n ≡ true → element_of (elements_of (replicate n 91 ++ base_spelling b)) ≡ array_element (record { base = b; dims = n })
inside_array zero b h = absurd (false≢true h)
inside_array (suc zero) b h = behind_base b
inside_array (suc (suc n)) b h = ap (λ (more : Bool). if more then Element.Reference else base_element b) (sym (lt-ltb 1 (suc (suc n)) (omega arith)))

pub held_in_array : (type : FieldType) → is_array_type type ≡ true → held_in (type_name type) ≡ array_element type
held_in_array type h =
    let array = (and_parts (is_plain_base type.base) (nat_lt 0 type.dims) h).1 in
    ap held_in (array_name type array) ∙ inside_array type.dims type.base array

-- ---- where an array is

abbrev pub place_name : Setting → Things → ℕ → machine.Name
place_name s things at = name_in s.heads (slice_get things.names at)

-- the array that the class machine has
pub record IsArray (s : Setting) (things : Things) (w : World) (at : ℕ) (type : FieldType) : Type 0 where
  pub fit : is_array_type type ≡ true
  pub class : class_of (place_name s things at) ≡ type_name type
  pub elements : object_at w (place_name s things at) ≡ Some (worlds.Array (map (held s.heads things.names) (values_at things at)))

is_array_there : (s : Setting) (things : Things) (others : Others) (w : World) (at : ℕ) (type : FieldType) (k : ℕ) (values : List Value) → AreDistinct s.heads → Shares s things others w
    → slice_get things.names at ≡ Some (Made (Array type) k) → slice_get things.contents at ≡ Some (Values values) → IsArray s things w at type
is_array_there s things others w at type k values distinct shares there holds = record {
  fit = fit_at s.heads distinct things.names at (Made (Array type) k) shares.fit there;
  class = ap (λ o. class_of (name_in s.heads o)) there;
  elements = ap (λ o. object_at w (name_in s.heads o)) there ∙ made_found s things others w at (Array type) k (Values values) distinct shares there holds
      ∙ ap (λ o. Some (worlds.Array (map (held s.heads things.names) (values_of o)))) (sym holds);
}

pub content_at : (cs : List Content) (at : ℕ) → at < length cs → (c : Content) × (slice_get cs at ≡ Some c)
content_at [] at h = absurd (omega arith)
content_at (c ∷ cs) zero h = (c, refl)
content_at (c ∷ cs) (suc at) h = content_at cs at (omega arith)

-- the array, where code sees one
pub array_there : (s : Setting) (things : Things) (others : Others) (w : World) (at : ℕ) (type : FieldType) → AreDistinct s.heads → Shares s things others w → at < length things.names
    → array_type things at ≡ Some type → IsArray s things w at type
array_there s things others w at type distinct shares known is =
    let name = named_at things.names at known in
    let whole = shares.heap.objects.whole in
    let content = content_at things.contents at (omega arith) in
    by name.0 content.0 name.1 content.1 (sym (ap (λ o. type_of_array o (slice_get things.contents at)) name.1 ∙ ap (type_of_array (Some name.0)) content.1) ∙ is) where
      by : (n : Name) (c : Content) → slice_get things.names at ≡ Some n → slice_get things.contents at ≡ Some c → type_of_array (Some n) (Some c) ≡ Some type → IsArray s things w at type
      by (Made (Array other) k) (Values values) there holds e =
          subst (IsArray s things w at) (same_Some other type e) (is_array_there s things others w at other k values distinct shares there holds)
      by (Made (Array other) k) (Text units) there holds e = absurd (none-some type e)
      by (Made (Array other) k) Fixed there holds e = absurd (none-some type e)
      by (Made (Class class) k) c there holds e = absurd (none-some type e)
      by (Literal units) c there holds e = absurd (none-some type e)
      by (ClassObject other) c there holds e = absurd (none-some type e)

-- where code sees none, the machine has none
pub none_there : (s : Setting) (things : Things) (others : Others) (w : World) (at : ℕ) (go : List machine.Held → answers.Reply) → AreDistinct s.heads → Shares s things others w → at < length things.names
    → array_type things at ≡ None → elements_in (object_at w (place_name s things at)) go ≡ answers.Refuses
none_there s things others w at go distinct shares known is =
    let name = named_at things.names at known in
    let whole = shares.heap.objects.whole in
    let content = content_at things.contents at (omega arith) in
    by name.0 content.0 name.1 content.1 (sym (ap (λ o. type_of_array o (slice_get things.contents at)) name.1 ∙ ap (type_of_array (Some name.0)) content.1) ∙ is) where
      at_made : (maker : Maker) (k : ℕ) (c : Content) → slice_get things.names at ≡ Some (Made maker k) → slice_get things.contents at ≡ Some c
          → elements_in (object_at w (place_name s things at)) go ≡ elements_in (Some (object_of s.heads s.classes.fields things.names maker c)) go
      at_made maker k c there holds =
          ap (λ o. elements_in (object_at w (name_in s.heads o)) go) there ∙ ap (λ o. elements_in o go) (made_found s things others w at maker k c distinct shares there holds)

      by : (n : Name) (c : Content) → slice_get things.names at ≡ Some n → slice_get things.contents at ≡ Some c → type_of_array (Some n) (Some c) ≡ None → elements_in (object_at w (place_name s things at)) go ≡ answers.Refuses
      by (Made (Array other) k) (Values values) there holds e = absurd (none-some other (sym e))
      by (Made (Array other) k) (Text units) there holds e = at_made (Array other) k (Text units) there holds
      by (Made (Array other) k) Fixed there holds e = at_made (Array other) k Fixed there holds
      by (Made (Class class) k) (Values values) there holds e = at_made (Class class) k (Values values) there holds
      by (Made (Class class) k) (Text units) there holds e = at_made (Class class) k (Text units) there holds
      by (Made (Class class) k) Fixed there holds e = at_made (Class class) k Fixed there holds
      by (Literal units) c there holds e = ap (λ o. elements_in (object_at w (name_in s.heads o)) go) there
      by (ClassObject other) c there holds e = ap (λ o. elements_in (object_at w (name_in s.heads o)) go) there

-- ---- lengths

pub length_null : (things : Things) (others : Others) → IsAnswer things others (λ s names. ArrayLength (object s names None)) things others (Faults Fault.NullPointer)
length_null things others s w distinct shares = (refl, shares)

pub length_refused : (things : Things) (others : Others) (at : Ref) → is_known_object (length things.names) (Some at) ≡ true → array_type things at.0 ≡ None
    → IsAnswer things others (λ s names. ArrayLength (object s names (Some at))) things others Refuses
length_refused things others at known none s w distinct shares =
    subst (Replies s things others w Refuses)
    (sym (none_there s things others w at.0 (λ elements. answers.Gives (machine.Int (count_int (length elements))) w) distinct shares (ltb-true at.0 (length things.names) known) none)) tt

pub length_given : (things : Things) (others : Others) (at : Ref) (type : FieldType) (n : ℕ) → is_known_object (length things.names) (Some at) ≡ true → array_type things at.0 ≡ Some type
    → n ≡ length (values_at things at.0) → n < 2 ^ 32
    → IsAnswer things others (λ s names. ArrayLength (object s names (Some at))) things others (Gives (Int (cast_signed w32 n)))
length_given things others at type n known array counted few s w distinct shares =
    let is = array_there s things others w at.0 type distinct shares (ltb-true at.0 (length things.names) known) array in
    let elements = map (held s.heads things.names) (values_at things at.0) in
    let same : length elements % 2 ^ 32 ≡ n = ap (λ m. m % 2 ^ 32) (length-map (values_at things at.0) (held s.heads things.names) ∙ sym counted) ∙ mod_small n few in
    subst (Replies s things others w (Gives (Int (cast_signed w32 n))))
    (sym (ap (λ o. elements_in o (λ elements. answers.Gives (machine.Int (count_int (length elements))) w)) is.elements))
    (ap (λ m. machine.Int (cast_signed w32 m)) (sym same), refl, shares) where
      mod_small : (m : ℕ) → m < 2 ^ 32 → m % 2 ^ 32 ≡ m
      mod_small m h = omega arith

-- ---- loads

pub load_null : (things : Things) (others : Others) (e : Element) (i : ℤ) → IsAnswer things others (λ s names. ArrayLoad e (object s names None) i) things others (Faults Fault.NullPointer)
load_null things others e i s w distinct shares = (refl, shares)

pub load_refused : (things : Things) (others : Others) (e : Element) (at : Ref) (i : ℤ) → is_known_object (length things.names) (Some at) ≡ true → array_type things at.0 ≡ None
    → IsAnswer things others (λ s names. ArrayLoad e (object s names (Some at)) i) things others Refuses
load_refused things others e at i known none s w distinct shares =
    subst (Replies s things others w Refuses)
    (sym (none_there s things others w at.0 _ distinct shares (ltb-true at.0 (length things.names) known) none)) tt

-- an instruction's array and what is done with its elements
abbrev served : World → Element → List ℕ → Option worlds.Object → (List machine.Held → answers.Reply) → answers.Reply
served w e class o go = elements_in o (λ elements. if serves e (held_in class) then go elements else answers.Refuses)

pub at_array : (s : Setting) (things : Things) (others : Others) (w : World) (e : Element) (at : ℕ) (type : FieldType) (go : List machine.Held → answers.Reply) → IsArray s things w at type
    → array_at w e (place_name s things at) go ≡ (if serves e (array_element type) then go (map (held s.heads things.names) (values_at things at)) else answers.Refuses)
at_array s things others w e at type go is =
    ap (λ o. served w e (class_of (place_name s things at)) o go) is.elements
    ∙ ap (λ held. if serves e held then go (map (held_ s things) (values_at things at)) else answers.Refuses) (ap held_in is.class ∙ held_in_array type is.fit) where
      held_ : Setting → Things → Value → machine.Held
      held_ s things = held s.heads things.names

pub load_unserved : (things : Things) (others : Others) (e : Element) (at : Ref) (i : ℤ) (type : FieldType) → is_known_object (length things.names) (Some at) ≡ true → array_type things at.0 ≡ Some type
    → serves e (array_element type) ≡ false → IsAnswer things others (λ s names. ArrayLoad e (object s names (Some at)) i) things others Refuses
load_unserved things others e at i type known array other s w distinct shares =
    let is = array_there s things others w at.0 type distinct shares (ltb-true at.0 (length things.names) known) array in
    let go = λ (elements : List machine.Held). at_index i elements (λ k v. answers.Gives v w) in
    subst (Replies s things others w Refuses)
    (sym (at_array s things others w e at.0 type go is ∙ ap (λ b. if b then go (map (held s.heads things.names) (values_at things at.0)) else answers.Refuses) other)) tt

-- ---- indices

get_within : {X : Type 0} (xs : List X) (i : ℕ) → i < length xs → (x : X) × (slice_get xs i ≡ Some x)
get_within [] i h = absurd (omega arith)
get_within (x ∷ xs) zero h = (x, refl)
get_within (x ∷ xs) (suc i) h = get_within xs i (omega arith)

pub index_outside : (i : ℤ) (elements : List machine.Held) (go : ℕ → machine.Held → answers.Reply) → index_in i (length elements) ≡ None → at_index i elements go ≡ answers.Faults Fault.ArrayIndex
index_outside (negsuc n) elements go h = refl
index_outside (pos n) elements go h = by (nat_lt n (length elements)) refl h where
  by : (within : Bool) → nat_lt n (length elements) ≡ within → (if within then Some n else None) ≡ None → at_index (pos n) elements go ≡ answers.Faults Fault.ArrayIndex
  by true e k = absurd (none-some n (sym k))
  by false e k = ap (λ o. element_or_fault o (go n)) (slice_get_past elements n (ltb-false n (length elements) e))

pub index_inside : (i : ℤ) (elements : List machine.Held) (go : ℕ → machine.Held → answers.Reply) (k : ℕ) (h : machine.Held) → index_in i (length elements) ≡ Some k → slice_get elements k ≡ Some h → at_index i elements go ≡ go k h
index_inside (negsuc n) elements go k h e there = absurd (none-some k e)
index_inside (pos n) elements go k h e there = by (nat_lt n (length elements)) e where
  by : (within : Bool) → (if within then Some n else None) ≡ Some k → at_index (pos n) elements go ≡ go k h
  by true f = ap (λ m. at_index (pos m) elements go) (same_Some n k f) ∙ ap (λ o. element_or_fault o (go k)) there
  by false f = absurd (none-some k f)

-- ---- values that are held are settled

in_values : (n : ℕ) (vs : List Value) (k : ℕ) (v : Value) → AllByRecursion (Settled n) vs → slice_get vs k ≡ Some v → Settled n v
in_values n [] k v h there = absurd (none-some v there)
in_values n (x ∷ vs) zero v h there = subst (Settled n) (same_Some x v there) h.0
in_values n (x ∷ vs) (suc k) v h there = in_values n vs k v h.1 there

in_contents : (n : ℕ) (cs : List Content) (at k : ℕ) (v : Value) → AllByRecursion (IsSettledContent n) cs → slice_get (values_of (slice_get cs at)) k ≡ Some v → Settled n v
in_contents n [] at k v h there = absurd (none-some v there)
in_contents n (Values vs ∷ cs) zero k v h there = in_values n vs k v h.0 there
in_contents n (Text units ∷ cs) zero k v h there = absurd (none-some v there)
in_contents n (Fixed ∷ cs) zero k v h there = absurd (none-some v there)
in_contents n (c ∷ cs) (suc at) k v h there = in_contents n cs at k v h.1 there

pub value_settled : (s : Setting) (things : Things) (others : Others) (w : World) (at k : ℕ) (v : Value) → Shares s things others w → slice_get (values_at things at) k ≡ Some v → Settled (length things.names) v
value_settled s things others w at k v shares there = in_contents (length things.names) things.contents at k v shares.heap.objects.settled there

-- ---- loads, at an index

abbrev load_go : World → ℤ → List machine.Held → answers.Reply
load_go w i elements = at_index i elements (λ k v. answers.Gives v w)

loaded : (s : Setting) (things : Things) (others : Others) (w : World) (e : Element) (at : ℕ) (i : ℤ) (type : FieldType) (reply : Reply) → AreDistinct s.heads → Shares s things others w → at < length things.names
    → array_type things at ≡ Some type → serves e (array_element type) ≡ true → Replies s things others w reply (load_go w i (map (held s.heads things.names) (values_at things at)))
    → Replies s things others w reply (answers.array_load w e (place_name s things at) i)
loaded s things others w e at i type reply distinct shares known array served given =
    let is = array_there s things others w at type distinct shares known array in
    subst (Replies s things others w reply)
    (sym (at_array s things others w e at type (load_go w i) is ∙ ap (λ b. if b then load_go w i (map (held s.heads things.names) (values_at things at)) else answers.Refuses) served)) given

pub load_outside : (things : Things) (others : Others) (e : Element) (at : Ref) (i : ℤ) (type : FieldType) → is_known_object (length things.names) (Some at) ≡ true → array_type things at.0 ≡ Some type
    → serves e (array_element type) ≡ true → index_in i (length (values_at things at.0)) ≡ None → IsAnswer things others (λ s names. ArrayLoad e (object s names (Some at)) i) things others (Faults Fault.ArrayIndex)
load_outside things others e at i type known array served outside s w distinct shares =
    let elements = map (held s.heads things.names) (values_at things at.0) in
    loaded s things others w e at.0 i type (Faults Fault.ArrayIndex) distinct shares (ltb-true at.0 (length things.names) known) array served
    (subst (Replies s things others w (Faults Fault.ArrayIndex))
    (sym (index_outside i elements (λ k v. answers.Gives v w) (ap (index_in i) (length-map (values_at things at.0) (held s.heads things.names)) ∙ outside))) (refl, shares))

pub load_given : (things : Things) (others : Others) (e : Element) (at : Ref) (i : ℤ) (type : FieldType) (k : ℕ) (v : Value) → is_known_object (length things.names) (Some at) ≡ true → array_type things at.0 ≡ Some type
    → serves e (array_element type) ≡ true → index_in i (length (values_at things at.0)) ≡ Some k → slice_get (values_at things at.0) k ≡ Some v
    → IsAnswer things others (λ s names. ArrayLoad e (object s names (Some at)) i) things others (Gives v)
load_given things others e at i type k v known array served inside there s w distinct shares =
    let elements = map (held s.heads things.names) (values_at things at.0) in
    loaded s things others w e at.0 i type (Gives v) distinct shares (ltb-true at.0 (length things.names) known) array served
    (subst (Replies s things others w (Gives v))
    (sym (index_inside i elements (λ k v. answers.Gives v w) k (held s.heads things.names v)
    (ap (index_in i) (length-map (values_at things at.0) (held s.heads things.names)) ∙ inside)
    (slice_get-map (held s.heads things.names) (values_at things at.0) k ∙ ap (option_map (held s.heads things.names)) there)))
    (refl, value_settled s things others w at.0 k v shares there, shares))
