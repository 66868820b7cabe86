-- Fields by their numbers: each that a search finds has a name of its own.
use Rattle.std.specs.Prelude.{◌≡◌, ℕ, zero, suc, ◌+◌, ◌-◌, ◌<◌, ◌==◌, ◌&&◌, Bool, true, false, if◌then◌else◌, List, [], ◌∷◌, ◌++◌, take, length, replicate, slice_get, Option, Some, None, option_and_then, refl}
use Rattle.std.specs.List.{position_from, sum}
use Rattle.std.specs.Option.{option_map, option_or, unwrap_or}
use Rattle.std.specs.Str.{bytes_eq}
use Rattle.std.proofs.Common.{get_or, sym, ◌∙◌, ap, subst, arith, inl, inr, cond, eq-eqb}
use Rattle.std.proofs.lemmas.Bool.{cases_Bool, cases_lt, false≢true, and_parts, eqb-true, ne_eqb}
use Rattle.std.proofs.lemmas.List.{length-map}
use Rattle.std.proofs.lemmas.List.Sums.{sum_by-cons}
use Rattle.std.proofs.lemmas.Option.{none-some, same_Some, option_and_then_some, slice_get-map, slice_get_within, get_or_from_slice_get}
use Rattle.std.specs.Cmp.Lexicographic.{bytes_decides}
use Rattle.aj_names.specs.declared.types.MemberName.{MemberName}
use Rattle.class_file.specs.Pool.{Reference}
use Rattle.class_heads.specs.declared.types.FieldHead.{FieldHead}
use Rattle.class_heads.specs.declared.types.ClassHead.{ClassHead}
use Rattle.class_heads.specs.Hierarchy.{name_at, place_of, order}
use Rattle.class_heads.specs.Searches.{MemberPlace, in_class, same_name, field_position, field_in, first_found, find_field}
use Rattle.class_heads.specs.Numbers.{first_number, number_of, field_counts, IsNumbered}
use Rattle.class_machine.specs.Classes.{reference, same_type, same_member}
use Rattle.class_machine.specs.Declarations as run
use Rattle.class_machine.specs.Declarations.{declared_in, member_name}
use Rattle.class_machine.specs.ClassFiles.{field_constant}
use Rattle.class_machine.specs.Descriptors.{element_of}
use Rattle.class_machine.specs.Answers.{declared_name}
use Rattle.class_world.specs.Tables.{Known}
use Rattle.machine_requests.specs.Statics.{IsField, AreApart}
use Rattle.machine_requests.specs.Telling.{is_plain, AreDistinct}
use Rattle.machine_fields.specs.Settings.{is_at, first_name, names_from, field_names, no_field, name_or_none, field_name, world_setting}

-- ---- lists

get_front : {X : Type 0} (xs ys : List X) (k : ℕ) → k < length xs → slice_get (xs ++ ys) k ≡ slice_get xs k
get_front [] ys k lt = absurd (omega arith)
get_front (x ∷ xs) ys zero lt = refl
get_front (x ∷ xs) ys (suc k) lt = get_front xs ys k (omega arith)

get_behind : {X : Type 0} (xs ys : List X) (k : ℕ) → slice_get (xs ++ ys) (length xs + k) ≡ slice_get ys k
get_behind [] ys k = ap (slice_get ys) (let e : 0 + k ≡ k = omega arith in e)
get_behind (x ∷ xs) ys k = ap (slice_get (x ∷ xs ++ ys)) (let e : suc (length xs) + k ≡ suc (length xs + k) = omega arith in e) ∙ get_behind xs ys k

sum_cons : (x : ℕ) (xs : List ℕ) → sum (x ∷ xs) ≡ x + sum xs
sum_cons x xs = sum_by-cons (λ n. n) x xs

-- ---- names by numbers

names_length : (c : ClassHead) (p : ℕ) (fields : List FieldHead) → length (names_from c p fields) ≡ length fields
names_length c p [] = refl
names_length c p (field ∷ fields) = ap suc (names_length c (suc p) fields)

names_at : (c : ClassHead) (p : ℕ) (fields : List FieldHead) (i : ℕ) → slice_get (names_from c p fields) i ≡ option_map (first_name c (p + i)) (slice_get fields i)
names_at c p [] i = refl
names_at c p (field ∷ fields) zero = ap (λ q. Some (first_name c q field)) (let e : p ≡ p + 0 = omega arith in e)
names_at c p (field ∷ fields) (suc i) = names_at c (suc p) fields i ∙ ap (λ q. option_map (first_name c q) (slice_get fields i)) (let e : suc p + i ≡ p + suc i = omega arith in e)

-- the name that a class gives the field at the position
own_name : ClassHead → ℕ → Option (Option Reference)
own_name c i = option_map (first_name c i) (slice_get c.fields i)

own_at : (c : ClassHead) (i : ℕ) → slice_get (names_from c 0 c.fields) i ≡ own_name c i
unfolding own_name
own_at c i = names_at c 0 c.fields i ∙ ap (λ q. option_map (first_name c q) (slice_get c.fields i)) (let e : 0 + i ≡ i = omega arith in e)

first_there : (heads : List ClassHead) (c : ClassHead) (p i : ℕ) → slice_get heads p ≡ Some c → i < length c.fields → slice_get (field_names heads) (number_of (field_counts heads) (in_class p i)) ≡ own_name c i
first_there [] c p i at within = absurd (none-some c at)
first_there (d ∷ heads) c zero i at within =
    let same : d ≡ c = same_Some d c at in
    let size = names_length d 0 d.fields in
    let fewer : i < length d.fields = subst (λ (x : ClassHead). i < length x.fields) (sym same) within in
    let number : 0 + i ≡ i = omega arith in
    ap (slice_get (field_names (d ∷ heads))) number
    ∙ get_front (names_from d 0 d.fields) (field_names heads) i (omega arith)
    ∙ own_at d i ∙ ap (λ x. own_name x i) same
first_there (d ∷ heads) c (suc p) i at within =
    let size = names_length d 0 d.fields in
    let total = sum_cons (length d.fields) (take p (field_counts heads)) in
    let number : number_of (field_counts (d ∷ heads)) (in_class (suc p) i) ≡ length (names_from d 0 d.fields) + number_of (field_counts heads) (in_class p i) = omega arith in
    ap (slice_get (field_names (d ∷ heads))) number
    ∙ get_behind (names_from d 0 d.fields) (field_names heads) (number_of (field_counts heads) (in_class p i))
    ∙ first_there heads c p i at within

-- a field that is the first of its name and descriptor in its class
pub record IsFirstField (heads : List ClassHead) (m : MemberPlace) : Type 0 where
  pub head : ClassHead
  pub field : FieldHead
  pub class : slice_get heads m.class ≡ Some head
  pub stands : slice_get head.fields m.position ≡ Some field
  pub first : field_position field.name head ≡ Some m.position

pub first_field_numbered : (heads : List ClassHead) (m : MemberPlace) → IsFirstField heads m → IsNumbered (field_counts heads) (number_of (field_counts heads) m) m
first_field_numbered heads m first =
    let within = slice_get_within heads m.class first.head first.class in
    let inside = slice_get_within first.head.fields m.position first.field first.stands in
    let count : get_or (field_counts heads) m.class 0 ≡ length first.head.fields =
    get_or_from_slice_get (field_counts heads) m.class (length first.head.fields) 0 (slice_get-map (λ (c : ClassHead). length c.fields) heads m.class ∙ ap (option_map (λ (c : ClassHead). length c.fields)) first.class) in
    record { known = omega (arith, length-map heads (λ (c : ClassHead). length c.fields)); within = omega arith; numbered = refl }

-- has its name by its number
pub first_field_named : (heads : List ClassHead) (m : MemberPlace) (first : IsFirstField heads m) → field_name heads (number_of (field_counts heads) m) ≡ declared_in first.head.name first.field.name
unfolding own_name
first_field_named heads m first =
    ap (λ o. name_or_none o (number_of (field_counts heads) m)) (first_there heads first.head m.class m.position first.class (slice_get_within first.head.fields m.position first.field first.stands)
    ∙ ap (option_map (first_name first.head m.position)) first.stands
    ∙ ap (λ (o : Option ℕ). Some (if is_at o m.position then Some (declared_in first.head.name first.field.name) else None)) first.first
    ∙ ap (λ (b : Bool). Some (if b then Some (declared_in first.head.name first.field.name) else None)) (eq-eqb m.position m.position refl))

-- ---- which field has a number

pub record IsNamed (heads : List ClassHead) (n : ℕ) (r : Reference) : Type 0 where
  pub place : MemberPlace
  pub first : IsFirstField heads place
  pub number : n ≡ number_of (field_counts heads) place
  pub name : r ≡ declared_in first.head.name first.field.name

later : (d : ClassHead) (heads : List ClassHead) (n k : ℕ) (r : Reference) → n ≡ length d.fields + k → IsNamed heads k r → IsNamed (d ∷ heads) n r
later d heads n k r e is = record {
  place = in_class (suc is.place.class) is.place.position;
  first = record { head = is.first.head; field = is.first.field; class = is.first.class; stands = is.first.stands; first = is.first.first };
  number = let number = is.number in let total = sum_cons (length d.fields) (take is.place.class (field_counts heads)) in omega arith;
  name = is.name;
}

same_option : (a b : Reference) → Some a ≡ Some b → a ≡ b
same_option a b e = cc

no_name : (r : Reference) (o : Option Reference) → o ≡ None → Some o ≡ Some (Some r) → ⊥
no_name r None e k = cc
no_name r (Some q) e k = cc

here : (d : ClassHead) (heads : List ClassHead) (n : ℕ) (r : Reference) → own_name d n ≡ Some (Some r) → IsNamed (d ∷ heads) n r
unfolding own_name
here d heads n r e = of_field (slice_get d.fields n) refl e where
  of_position : (field : FieldHead) (o : Option ℕ) → slice_get d.fields n ≡ Some field → field_position field.name d ≡ o → Some (if is_at o n then Some (declared_in d.name field.name) else None) ≡ Some (Some r) → IsNamed (d ∷ heads) n r
  of_position field None at first k = absurd cc
  of_position field (Some i) at first k = elim (cases_Bool (i == n)) [
    | inl same ↦
        let there : i ≡ n = eqb-true i n same in
        let named : Some (Some (declared_in d.name field.name)) ≡ Some (Some r) = sym (ap (λ (b : Bool). Some (if b then Some (declared_in d.name field.name) else None)) same) ∙ k in
        let one : Some (declared_in d.name field.name) ≡ Some r = cc in
        record {
          place = in_class 0 n;
          first = record { head = d; field = field; class = refl; stands = at; first = first ∙ ap (λ (j : ℕ). Some j) there };
          number = (let e : n ≡ 0 + n = omega arith in e);
          name = sym (same_option (declared_in d.name field.name) r one);
        }
    | inr other ↦
        absurd (no_name r (if i == n then Some (declared_in d.name field.name) else None) (ap (λ (b : Bool). if b then Some (declared_in d.name field.name) else None) other) k)
  ]

  of_field : (o : Option FieldHead) → slice_get d.fields n ≡ o → option_map (first_name d n) o ≡ Some (Some r) → IsNamed (d ∷ heads) n r
  of_field None at k = absurd cc
  of_field (Some field) at k = of_position field (field_position field.name d) at refl k

pub named_by_number : (heads : List ClassHead) (n : ℕ) (r : Reference) → slice_get (field_names heads) n ≡ Some (Some r) → IsNamed heads n r
named_by_number [] n r e = absurd cc
named_by_number (d ∷ heads) n r e =
    let size = names_length d 0 d.fields in
    elim (cases_lt n (length d.fields)) [
      | inl within ↦ here d heads n r (sym (own_at d n) ∙ sym (get_front (names_from d 0 d.fields) (field_names heads) n (omega arith)) ∙ e)
      | inr past ↦
          let k : ℕ = n - length d.fields in
          let split : n ≡ length (names_from d 0 d.fields) + k = omega arith in
          later d heads n k r (omega arith)
          (named_by_number heads k r (sym (get_behind (names_from d 0 d.fields) (field_names heads) k) ∙ sym (ap (slice_get (field_names (d ∷ heads))) split) ∙ e))
    ]

-- ---- names are apart

head_named : (heads : List ClassHead) (place : ℕ) (head : ClassHead) → slice_get heads place ≡ Some head → name_at heads place ≡ head.name
head_named heads place head at = ap (λ (o : Option ClassHead). unwrap_or (option_map (λ (c : ClassHead). c.name) o) []) at

member_equal : (a b : Reference) → same_member a b ≡ true → a ≡ b
member_equal a b h =
    let both = and_parts (same_type a.member b.member) (bytes_eq a.class b.class) h in
    let member = and_parts (bytes_eq a.member.name b.member.name) (bytes_eq a.member.descriptor b.member.descriptor) both.0 in
    let class = (bytes_decides a.class b.class).0 both.1 in
    let name = (bytes_decides a.member.name b.member.name).0 member.0 in
    let descriptor = (bytes_decides a.member.descriptor b.member.descriptor).0 member.1 in
    ap (λ c. reference c a.member.name a.member.descriptor) class ∙ ap (λ m. reference b.class m a.member.descriptor) name ∙ ap (reference b.class b.member.name) descriptor

member_itself : (a : Reference) → same_member a a ≡ true
member_itself a =
    ap (λ x. (x && bytes_eq a.member.descriptor a.member.descriptor) && bytes_eq a.class a.class) ((bytes_decides a.member.name a.member.name).1 refl)
    ∙ ap (λ x. x && bytes_eq a.class a.class) ((bytes_decides a.member.descriptor a.member.descriptor).1 refl) ∙ (bytes_decides a.class a.class).1 refl

module _ (heads : List ClassHead) (distinct : AreDistinct heads) where
  one_place : (a b : ℕ) (r q : Reference) → r ≡ q → IsNamed heads a r → IsNamed heads b q → a ≡ b
  one_place a b r q e x y =
      let classes : x.first.head.name ≡ y.first.head.name = ap (λ (t : Reference). t.class) (sym x.name ∙ e ∙ y.name) in
      let below_x = slice_get_within heads x.place.class x.first.head x.first.class in
      let below_y = slice_get_within heads y.place.class y.first.head y.first.class in
      let place : x.place.class ≡ y.place.class =
      same_Some x.place.class y.place.class (sym (distinct.different x.place.class below_x)
      ∙ ap (place_of heads) (head_named heads x.place.class x.first.head x.first.class ∙ classes ∙ sym (head_named heads y.place.class y.first.head y.first.class)) ∙ distinct.different y.place.class below_y) in
      let head : x.first.head ≡ y.first.head = same_Some x.first.head y.first.head (sym x.first.class ∙ ap (slice_get heads) place ∙ y.first.class) in
      let names : x.first.field.name ≡ y.first.field.name = ap (λ (t : Reference). member_name t.member) (sym x.name ∙ e ∙ y.name) in
      let position : x.place.position ≡ y.place.position =
      same_Some x.place.position y.place.position (sym x.first.first ∙ ap (λ (n : MemberName). field_position n x.first.head) names ∙ ap (field_position y.first.field.name) head ∙ y.first.first) in
      x.number ∙ ap (λ (p : ℕ). first_number (field_counts heads) p + x.place.position) place ∙ ap (λ (i : ℕ). first_number (field_counts heads) y.place.class + i) position ∙ sym y.number

  class_no_bracket : (n : ℕ) (r : Reference) → IsNamed heads n r → r.class ≡ 91 ∷ [] → ⊥
  class_no_bracket n r x e =
      let below = slice_get_within heads x.place.class x.first.head x.first.class in
      let same : name_at heads x.place.class ≡ 91 ∷ [] = head_named heads x.place.class x.first.head x.first.class ∙ sym (ap (λ (t : Reference). t.class) x.name) ∙ e in
      let bracket : is_plain (91 ∷ []) ≡ false = refl in
      false≢true (sym bracket ∙ ap is_plain (sym same) ∙ distinct.plain x.place.class below)

  as_long : (a b : ℕ) → no_field a ≡ no_field b → a ≡ b
  as_long a b e = sym (length_replicated a) ∙ ap (λ (t : Reference). length {A = ℕ} t.member.name) e ∙ length_replicated b where
    length_replicated : (n : ℕ) → length {A = ℕ} (replicate n 0) ≡ n
    length_replicated zero = refl
    length_replicated (suc n) = ap suc (length_replicated n)

  one_number : (a b : ℕ) (o p : Option (Option Reference)) → slice_get (field_names heads) a ≡ o → slice_get (field_names heads) b ≡ p → name_or_none o a ≡ name_or_none p b → a ≡ b
  one_number a b (Some (Some r)) (Some (Some q)) x y e = one_place a b r q e (named_by_number heads a r x) (named_by_number heads b q y)
  one_number a b (Some (Some r)) (Some None) x y e = absurd (class_no_bracket a r (named_by_number heads a r x) (ap (λ (t : Reference). t.class) e))
  one_number a b (Some (Some r)) None x y e = absurd (class_no_bracket a r (named_by_number heads a r x) (ap (λ (t : Reference). t.class) e))
  one_number a b (Some None) (Some (Some q)) x y e = absurd (class_no_bracket b q (named_by_number heads b q y) (ap (λ (t : Reference). t.class) (sym e)))
  one_number a b None (Some (Some q)) x y e = absurd (class_no_bracket b q (named_by_number heads b q y) (ap (λ (t : Reference). t.class) (sym e)))
  one_number a b (Some None) (Some None) x y e = as_long a b e
  one_number a b (Some None) None x y e = as_long a b e
  one_number a b None (Some None) x y e = as_long a b e
  one_number a b None None x y e = as_long a b e

  pub names_apart : (a b : ℕ) → same_member (field_name heads a) (field_name heads b) ≡ (a == b)
  names_apart a b = elim (cases_Bool (same_member (field_name heads a) (field_name heads b))) [
    | inl same ↦ same ∙ sym (eq-eqb a b (one_number a b _ _ refl refl (member_equal (field_name heads a) (field_name heads b) same)))
    | inr differ ↦ differ ∙ sym (ne_eqb a b (λ e. false≢true (sym differ ∙ ap (λ k. same_member (field_name heads a) (field_name heads k)) (sym e) ∙ member_itself (field_name heads a))))
  ]

pub fields_apart : (known : Known) (count : ℕ) → AreDistinct known.heads → AreApart count (world_setting known)
fields_apart known count distinct = record { apart = λ a b h k. names_apart known.heads distinct a b }

-- ---- what a search finds

passes_there : {X : Type 0} (test : X → Bool) (s k : ℕ) (xs : List X) → position_from test s xs ≡ Some k → (i : ℕ) × (x : X) × (k ≡ s + i) × (slice_get xs i ≡ Some x) × (test x ≡ true)
passes_there test s k [] at = absurd cc
passes_there {X} test s k (x ∷ xs) at = by (λ e. passes_there test (s + 1) k xs e) (test x) refl at where
  by : (position_from test (s + 1) xs ≡ Some k → (i : ℕ) × (y : X) × (k ≡ s + 1 + i) × (slice_get xs i ≡ Some y) × (test y ≡ true)) → (b : Bool) → test x ≡ b → cond b (Some s) (position_from test (s + 1) xs) ≡ Some k
      → (i : ℕ) × (y : X) × (k ≡ s + i) × (slice_get (x ∷ xs) i ≡ Some y) × (test y ≡ true)
  by later true is h = let same = same_Some s k h in (zero, x, (let e : k ≡ s + 0 = omega arith in e), refl, is)
  by later false is h = let r = later h in (suc r.0, r.1, (let e = r.2 in omega arith), r.3, r.4)

name_equal : (a b : MemberName) → same_name a b ≡ true → a ≡ b
name_equal a b same =
    let parts = and_parts (bytes_eq a.name b.name) (bytes_eq a.descriptor b.descriptor) same in
    ap (λ (n : List ℕ). named n a.descriptor) ((bytes_decides a.name b.name).0 parts.0) ∙ ap (named b.name) ((bytes_decides a.descriptor b.descriptor).0 parts.1) where
      named : List ℕ → List ℕ → MemberName
      named n d = record { name = n; descriptor = d }

found_or : (search : ℕ → Option ℕ) (class : ℕ) (m : MemberPlace) (found : Option ℕ) (rest : Option MemberPlace) → search class ≡ found → option_or (option_map (in_class class) found) rest ≡ Some m → (rest ≡ Some m → search m.class ≡ Some m.position) → search m.class ≡ Some m.position
found_or search class m None rest e h more = more h
found_or search class m (Some position) rest e h more =
    let same : in_class class position ≡ m = cc in
    subst (λ (n : MemberPlace). search n.class ≡ Some n.position) same e

found_in : (search : ℕ → Option ℕ) (classes : List ℕ) (m : MemberPlace) → first_found search classes ≡ Some m → search m.class ≡ Some m.position
found_in search [] m h = absurd cc
found_in search (class ∷ classes) m h = found_or search class m (search class) (first_found search classes) refl h (λ r. found_in search classes m r)

-- such a field, of that name
pub record IsFound (heads : List ClassHead) (member : MemberName) (m : MemberPlace) : Type 0 where
  pub first : IsFirstField heads m
  pub named : first.field.name ≡ member

pub found_is_first : (heads : List ClassHead) (place : ℕ) (member : MemberName) (m : MemberPlace) → find_field heads place member ≡ Some m → IsFound heads member m
found_is_first heads place member m found =
    option_and_then_some (field_position member) (slice_get heads m.class) m.position (found_in (field_in heads member) (order heads place) m found)
    (λ head at own.
    let there = passes_there (λ (f : FieldHead). same_name f.name member) 0 m.position head.fields own in
    let here : there.0 ≡ m.position = let e = there.2 in omega arith in
    let named : there.1.name ≡ member = name_equal there.1.name member there.4 in
    record {
      first = record {
        head = head;
        field = there.1;
        class = at;
        stands = subst (λ (i : ℕ). slice_get head.fields i ≡ Some there.1) here there.3;
        first = subst (λ (n : MemberName). field_position n head ≡ Some m.position) (sym named) own;
      };
      named = named;
    })

-- the field that a reference names has its name by its number
pub found_is_field : (known : Known) (r : Reference) (place : ℕ) (m : MemberPlace) → run.members_at known.heads (length known.files) (field_constant known.files) r.class ≡ Some place → find_field known.heads place (member_name r.member) ≡ Some m
    → IsField r (number_of (field_counts known.heads) m) (element_of r.member.descriptor) (world_setting known)
found_is_field known r place m members found =
    let is = found_is_first known.heads place (member_name r.member) m found in
    let first = is.first in
    let name = first_field_named known.heads m first in
    let field : run.field_at known.heads (length known.files) (field_constant known.files) m ≡ Some (run.field_found first.head first.field) =
    ap (option_and_then (λ (c : ClassHead). option_map (run.field_found c) (slice_get c.fields m.position))) first.class ∙ ap (option_map (run.field_found first.head)) first.stands in
    let searched : (world_setting known).classes.field r ≡ Some (run.field_found first.head first.field) =
    ap (λ (o : Option ℕ). option_and_then (run.field_at known.heads (length known.files) (field_constant known.files)) (option_and_then (λ p. find_field known.heads p (member_name r.member)) o)) members
    ∙ ap (option_and_then (run.field_at known.heads (length known.files) (field_constant known.files))) found ∙ field in
    record {
      declared = ap (declared_name r) searched ∙ sym name;
      element = ap (λ (t : Reference). element_of t.member.descriptor) name ∙ ap (λ (n : MemberName). element_of n.descriptor) is.named;
    }
