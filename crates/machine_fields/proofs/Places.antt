-- The first place of a field in a list of fields.
use Rattle.std.specs.Prelude.{◌≡◌, ℕ, suc, ◌+◌, Bool, true, false, not, ◌&&◌, cond, List, [], ◌∷◌, ◌++◌, map, length, Option, Some, None, if◌then◌else◌, refl}
use Rattle.std.specs.List.{AllByRecursion, filter, find, position_from}
use Rattle.std.specs.Option.{option_map, option_or, option_to_list}
use Rattle.std.specs.Str.{bytes_eq}
use Rattle.std.proofs.Common.{sym, ◌∙◌, ap, subst, inl, inr, arith}
use Rattle.std.proofs.lemmas.Bool.{cases_Bool, false≢true}
use Rattle.std.proofs.lemmas.List.{length-map}
use Rattle.std.proofs.lemmas.Option.{none-some}
use Rattle.std.specs.Cmp.Lexicographic.{bytes_decides}
use Rattle.boot_library.specs.declared.rule.Primitive.{Primitive}
use Rattle.boot_library.specs.declared.rule.Primitive.TheVariants as boxed
use Rattle.class_file.specs.Pool.{Reference}
use Rattle.class_heads.specs.declared.types.FieldHead.{FieldHead}
use Rattle.class_heads.specs.declared.types.ClassHead.{ClassHead}
use Rattle.class_heads.specs.Searches.{same_name}
use Rattle.class_machine.specs.Values.{throwable_class}
use Rattle.class_machine.specs.Classes.{reference, same_type, same_member}
use Rattle.class_machine.specs.Declarations.{declared_in, is_static_field, own_fields, box_types, hidden_fields}
use Rattle.class_machine.specs.World.{box_class, message_field, cause_field, value_field}
use Rattle.class_world.specs.Found.{member_named}
use Rattle.machine_requests.specs.Objects.{field_place}
use Rattle.machine_fields.specs.Positions.{in_head, boxed_in}

-- ---- two lists

abbrev placed : Bool → Option ℕ → Option ℕ
placed hit o = if hit then Some 0 else option_map suc o

placed_or : (hit : Bool) (n : ℕ) (o p : Option ℕ) → placed hit (option_or o (option_map (λ i. n + i) p)) ≡ option_or (placed hit o) (option_map (λ i. suc n + i) p)
placed_or true n o p = refl
placed_or false n (Some i) p = refl
placed_or false n None (Some i) = ap Some (let e : suc (n + i) ≡ suc n + i = omega arith in e)
placed_or false n None None = refl

same_option : (o : Option ℕ) → option_map (λ i. 0 + i) o ≡ o
same_option None = refl
same_option (Some i) = ap Some (let e : 0 + i ≡ i = omega arith in e)

pub place_both : (xs ys : List Reference) (r : Reference) → field_place (xs ++ ys) r ≡ option_or (field_place xs r) (option_map (λ i. length xs + i) (field_place ys r))
place_both [] ys r = sym (same_option (field_place ys r))
place_both (x ∷ xs) ys r = ap (placed (same_member x r)) (place_both xs ys r) ∙ placed_or (same_member x r) (length xs) (field_place xs r) (field_place ys r)

pub place_first : (xs ys : List Reference) (r : Reference) (p : ℕ) → field_place xs r ≡ Some p → field_place (xs ++ ys) r ≡ Some p
place_first xs ys r p e = place_both xs ys r ∙ ap (λ o. option_or o (option_map (λ i. length xs + i) (field_place ys r))) e

pub place_second : (xs ys : List Reference) (r : Reference) → field_place xs r ≡ None → field_place (xs ++ ys) r ≡ option_map (λ i. length xs + i) (field_place ys r)
place_second xs ys r e = place_both xs ys r ∙ ap (λ o. option_or o (option_map (λ i. length xs + i) (field_place ys r))) e

-- ---- fields of one class

itself : (a : List ℕ) → bytes_eq a a ≡ true
itself a = (bytes_decides a a).1 refl

and_true : (b c : Bool) → c ≡ true → (b && c) ≡ b
and_true true c e = e
and_true false c e = refl

and_false : (b c : Bool) → c ≡ false → (b && c) ≡ false
and_false true c e = e
and_false false c e = refl

position_later : {X : Type 0} (test : X → Bool) (i : ℕ) (xs : List X) → position_from test (i + 1) xs ≡ option_map suc (position_from test i xs)
position_later test i [] = refl
position_later {X} test i (x ∷ xs) = by (test x) (position_later test (i + 1) xs) where
  by : (hit : Bool) → position_from test (i + 1 + 1) xs ≡ option_map suc (position_from test (i + 1) xs) → cond hit (Some (i + 1)) (position_from test (i + 1 + 1) xs) ≡ option_map suc (cond hit (Some i) (position_from test (i + 1) xs))
  by true rest = ap Some (let e : i + 1 ≡ suc i = omega arith in e)
  by false rest = rest

abbrev is_wanted : List ℕ → List ℕ → FieldHead → Bool
is_wanted name descriptor field = same_name field.name (member_named name descriptor)

pub own_placed : (class name descriptor : List ℕ) (fields : List FieldHead) → field_place (map (λ field. declared_in class field.name) fields) (reference class name descriptor) ≡ position_from (λ field. same_name field.name (member_named name descriptor)) 0 fields
own_placed class name descriptor [] = refl
own_placed class name descriptor (field ∷ fields) =
    ap (λ hit. placed hit (field_place (map (λ f. declared_in class f.name) fields) (reference class name descriptor))) (and_true (is_wanted name descriptor field) (bytes_eq class class) (itself class))
    ∙ ap (placed (is_wanted name descriptor field)) (own_placed class name descriptor fields)
    ∙ ap (λ o. cond (is_wanted name descriptor field) (Some 0) o) (sym (position_later (is_wanted name descriptor) 0 fields))

-- of another class
pub placed_nowhere : (class : List ℕ) (fs : List Reference) (r : Reference) → AllByRecursion (λ f. f.class ≡ class) fs → bytes_eq class r.class ≡ false → field_place fs r ≡ None
placed_nowhere class [] r h differ = refl
placed_nowhere class (f ∷ fs) r h differ =
    ap (λ hit. placed hit (field_place fs r)) (and_false (same_type f.member r.member) (bytes_eq f.class r.class) (ap (λ c. bytes_eq c r.class) h.0 ∙ differ))
    ∙ ap (option_map suc) (placed_nowhere class fs r h.1 differ)

-- ---- what the library keeps

one_box : (t : Primitive) (types : List Primitive) → filter (λ type. bytes_eq (box_class type) (box_class t)) types ≡ []
    → ((class : List ℕ) → filter (λ type. bytes_eq (box_class type) class) types ≡ option_to_list (find (λ type. bytes_eq (box_class type) class) types))
    → (class : List ℕ) → filter (λ type. bytes_eq (box_class type) class) (t ∷ types) ≡ option_to_list (find (λ type. bytes_eq (box_class type) class) (t ∷ types))
one_box t types alone rest class =
    elim (cases_Bool (bytes_eq (box_class t) class)) [
      | inl same ↦
          ap (λ hit. cond hit (t ∷ filter (λ type. bytes_eq (box_class type) class) types) (filter (λ type. bytes_eq (box_class type) class) types)) same
          ∙ ap (λ l. t ∷ l) (ap (λ c. filter (λ type. bytes_eq (box_class type) c) types) (sym ((bytes_decides (box_class t) class).0 same)) ∙ alone)
          ∙ sym (ap (λ hit. option_to_list (cond hit (Some t) (find (λ type. bytes_eq (box_class type) class) types))) same)
      | inr differ ↦
          ap (λ hit. cond hit (t ∷ filter (λ type. bytes_eq (box_class type) class) types) (filter (λ type. bytes_eq (box_class type) class) types)) differ
          ∙ rest class
          ∙ sym (ap (λ hit. option_to_list (cond hit (Some t) (find (λ type. bytes_eq (box_class type) class) types))) differ)
    ]

boxes : (class : List ℕ) → filter (λ type. bytes_eq (box_class type) class) box_types ≡ option_to_list (boxed_in class)
boxes = one_box boxed.Boolean (boxed.Byte ∷ boxed.Char ∷ boxed.Short ∷ boxed.Int ∷ boxed.Long ∷ boxed.Float ∷ boxed.Double ∷ []) refl (one_box boxed.Byte (boxed.Char ∷ boxed.Short ∷ boxed.Int ∷ boxed.Long ∷ boxed.Float ∷ boxed.Double ∷ []) refl (one_box boxed.Char (boxed.Short ∷ boxed.Int ∷ boxed.Long ∷ boxed.Float ∷ boxed.Double ∷ []) refl (one_box boxed.Short (boxed.Int ∷ boxed.Long ∷ boxed.Float ∷ boxed.Double ∷ []) refl (one_box boxed.Int (boxed.Long ∷ boxed.Float ∷ boxed.Double ∷ []) refl (one_box boxed.Long (boxed.Float ∷ boxed.Double ∷ []) refl (one_box boxed.Float (boxed.Double ∷ []) refl (one_box boxed.Double ([]) refl (λ class. refl))))))))

found_passes : (test : Primitive → Bool) (types : List Primitive) (t : Primitive) → find test types ≡ Some t → test t ≡ true
found_passes test [] t e = absurd (none-some t e)
found_passes test (x ∷ types) t e = by (test x) refl e (found_passes test types t) where
  by : (hit : Bool) → test x ≡ hit → cond hit (Some x) (find test types) ≡ Some t → (find test types ≡ Some t → test t ≡ true) → test t ≡ true
  by true is k rest = let same : x ≡ t = cc in ap test (sym same) ∙ is
  by false is k rest = rest k

pub box_is : (class : List ℕ) (t : Primitive) → boxed_in class ≡ Some t → box_class t ≡ class
box_is class t e = (bytes_decides (box_class t) class).0 (found_passes (λ type. bytes_eq (box_class type) class) box_types t e)

abbrev hidden_by : Bool → List ℕ → List Reference
hidden_by throwable class = if throwable then message_field ∷ cause_field ∷ [] else map value_field (filter (λ type. bytes_eq (box_class type) class) box_types)

pub hidden_thrown : (class : List ℕ) → bytes_eq class throwable_class ≡ true → hidden_fields class ≡ message_field ∷ cause_field ∷ []
hidden_thrown class e = ap (λ b. hidden_by b class) e

pub hidden_boxed : (class : List ℕ) → bytes_eq class throwable_class ≡ false → hidden_fields class ≡ map value_field (option_to_list (boxed_in class))
hidden_boxed class e = ap (λ b. hidden_by b class) e ∙ ap (map value_field) (boxes class)

pub hidden_none : (class : List ℕ) → bytes_eq class throwable_class ≡ false → boxed_in class ≡ None → hidden_fields class ≡ []
hidden_none class e none = hidden_boxed class e ∙ ap (λ o. map value_field (option_to_list o)) none

pub hidden_one : (class : List ℕ) (t : Primitive) → bytes_eq class throwable_class ≡ false → boxed_in class ≡ Some t → hidden_fields class ≡ value_field t ∷ []
hidden_one class t e some = hidden_boxed class e ∙ ap (λ o. map value_field (option_to_list o)) some

in_box : (class : List ℕ) (o : Option Primitive) → boxed_in class ≡ o → AllByRecursion (λ f. f.class ≡ class) (map value_field (option_to_list o))
in_box class None e = tt
in_box class (Some t) e = (box_is class t e, tt)

hidden_in : (class : List ℕ) → AllByRecursion (λ f. f.class ≡ class) (hidden_fields class)
hidden_in class = elim (cases_Bool (bytes_eq class throwable_class)) [
  | inl same ↦
      let is = sym ((bytes_decides class throwable_class).0 same) in
      subst (AllByRecursion (λ f. f.class ≡ class)) (sym (hidden_thrown class same)) (is, (is, tt))
  | inr differ ↦ subst (AllByRecursion (λ f. f.class ≡ class)) (sym (hidden_boxed class differ)) (in_box class (boxed_in class) refl)
]

-- ---- what a class adds

all_both : (P : Reference → Type 0) (xs ys : List Reference) → AllByRecursion P xs → AllByRecursion P ys → AllByRecursion P (xs ++ ys)
all_both P [] ys h k = k
all_both P (x ∷ xs) ys h k = (h.0, all_both P xs ys h.1 k)

all_own : (class : List ℕ) (fields : List FieldHead) → AllByRecursion (λ f. f.class ≡ class) (map (λ field. declared_in class field.name) fields)
all_own class [] = tt
all_own class (field ∷ fields) = (refl, all_own class fields)

pub elsewhere : (c : ClassHead) (r : Reference) → bytes_eq c.name r.class ≡ false → field_place (in_head c) r ≡ None
elsewhere c r differ = placed_nowhere c.name (in_head c) r (all_both _ (own_fields c) (hidden_fields c.name) (all_own c.name (filter (λ field. not (is_static_field field)) c.fields)) (hidden_in c.name)) differ

-- ---- where a field of the class is

not_false : (b : Bool) → not b ≡ false → b ≡ true
not_false true e = refl
not_false false e = absurd (false≢true (sym e))

not_true : (b : Bool) → not b ≡ true → b ≡ false
not_true true e = absurd (false≢true e)
not_true false e = refl

abbrev is_own : FieldHead → Bool
is_own field = not (is_static_field field)

pub not_in : (c : ClassHead) (declaring name descriptor n : List ℕ) → n ≡ c.name → not (bytes_eq n declaring) ≡ true → None ≡ field_place (in_head c) (reference declaring name descriptor)
not_in c declaring name descriptor n same differ =
    sym (elsewhere c (reference declaring name descriptor) (ap (λ m. bytes_eq m declaring) (sym same) ∙ not_true (bytes_eq n declaring) differ))

module _ (c : ClassHead) (declaring name descriptor n : List ℕ) (fields : List FieldHead) (named : n ≡ c.name) (same : not (bytes_eq n declaring) ≡ false) (all : fields ≡ c.fields) where
  is_declaring : c.name ≡ declaring
  is_declaring = sym named ∙ (bytes_decides n declaring).0 (not_false (bytes_eq n declaring) same)

  own_place : field_place (own_fields c) (reference declaring name descriptor) ≡ position_from (λ field. same_name field.name (member_named name descriptor)) 0 (filter (λ field. not (is_static_field field)) fields)
  own_place =
      ap (λ d. field_place (own_fields c) (reference d name descriptor)) (sym is_declaring)
      ∙ own_placed c.name name descriptor (filter (λ field. not (is_static_field field)) c.fields)
      ∙ ap (λ fs. position_from (λ field. same_name field.name (member_named name descriptor)) 0 (filter (λ field. not (is_static_field field)) fs)) (sym all)

  pub in_own : (p : ℕ) → position_from (λ field. same_name field.name (member_named name descriptor)) 0 (filter (λ field. not (is_static_field field)) fields) ≡ Some p → field_place (in_head c) (reference declaring name descriptor) ≡ Some p
  in_own p found = place_first (own_fields c) (hidden_fields c.name) (reference declaring name descriptor) p (own_place ∙ found)

  pub in_hidden : position_from (λ field. same_name field.name (member_named name descriptor)) 0 (filter (λ field. not (is_static_field field)) fields) ≡ None
      → field_place (in_head c) (reference declaring name descriptor) ≡ option_map (λ i. length (filter (λ field. not (is_static_field field)) fields) + i) (field_place (hidden_fields declaring) (reference declaring name descriptor))
  in_hidden none =
      let size : length (own_fields c) ≡ length (filter (λ field. not (is_static_field field)) fields) =
      length-map (filter (λ field. not (is_static_field field)) c.fields) (λ field. declared_in c.name field.name) ∙ ap (λ fs. length (filter (λ field. not (is_static_field field)) fs)) (sym all) in
      place_second (own_fields c) (hidden_fields c.name) (reference declaring name descriptor) (own_place ∙ none)
      ∙ ap (λ k. option_map (λ i. k + i) (field_place (hidden_fields c.name) (reference declaring name descriptor))) size
      ∙ ap (λ d. option_map (λ i. length (filter (λ field. not (is_static_field field)) fields) + i) (field_place (hidden_fields d) (reference declaring name descriptor))) is_declaring

-- ---- where what the library keeps is

pub box_placed : (class name descriptor : List ℕ) (t : Primitive) (b : Bool) → bytes_eq class throwable_class ≡ false → boxed_in class ≡ Some t → same_type (value_field t).member (reference [] name descriptor).member ≡ b
    → field_place (hidden_fields class) (reference class name descriptor) ≡ (if b then Some 0 else None)
box_placed class name descriptor t b apart boxed is =
    ap (λ l. field_place l (reference class name descriptor)) (hidden_one class t apart boxed)
    ∙ ap (λ hit. placed hit None) (and_true (same_type (value_field t).member (reference [] name descriptor).member) (bytes_eq (box_class t) class) ((bytes_decides (box_class t) class).1 (box_is class t boxed)) ∙ is)
    ∙ by b where
      by : (b : Bool) → placed b None ≡ (if b then Some 0 else None)
      by true = refl
      by false = refl
