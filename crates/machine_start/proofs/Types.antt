-- The types of a method's parameters, one after the other, and the arguments that they take.
use Rattle.std.specs.Prelude.{◌≡◌, ℕ, zero, suc, ◌+◌, ◌<◌, ◌==◌, ◌||◌, ◌&&◌, Bool, true, false, cond, if◌then◌else◌, List, [], ◌∷◌, map, take, drop, length, slice_get, get_or, unwrap_or, Option, Some, None, refl}
use Rattle.std.specs.Option.{option_map}
use Rattle.std.specs.Str.{bytes_eq}
use Rattle.std.specs.Cmp.Lexicographic.{bytes_decides}
use Rattle.std.proofs.Common.{sym, ◌∙◌, ap, arith, drop-cons}
use Rattle.std.proofs.lemmas.Bool.{false≢true, ne_eqb}
use Rattle.class_heads.specs.declared.types.ClassHead.{ClassHead}
use Rattle.class_heads.specs.Hierarchy.{TypeName, is_array, before_semicolon, type_of_descriptor, name_at, place_of, is_among_supertypes, is_type_below, is_subtype}
use Rattle.class_world.specs.Tables.{Known}
use Rattle.class_machine.specs.Classes.{Classes}
use Rattle.class_machine.specs.Descriptors.{ahead, types_in}
use Rattle.class_machine.specs.Start.{takes, takes_all}
use Rattle.class_machine.specs.Values.{string_class}
use Rattle.machine_code.specs.TypeLengths.{class_length, type_length}
use Rattle.machine_values.specs.declared.script.EntryArg.{EntryArg}
use Rattle.machine_steps.specs.Programs.{IsRunnable}
use Rattle.machine_natives.proofs.Library.{strings_there}
use Rattle.machine_start.specs.Arguments.{argument_of}

-- ---- the first type

behind_class : (b : ℕ) (bytes : List ℕ) → ahead b (types_in true bytes) ≡ (b ∷ take (class_length bytes) bytes) ∷ types_in false (drop (class_length bytes) bytes)
behind_class b [] = refl
behind_class b (c ∷ bytes) = by (c == 59) (behind_class c bytes) where
  by : (test : Bool) → ahead c (types_in true bytes) ≡ (c ∷ take (class_length bytes) bytes) ∷ types_in false (drop (class_length bytes) bytes)
      → ahead b (cond test ((c ∷ []) ∷ types_in false bytes) (ahead c (types_in true bytes)))
      ≡ (b ∷ take (cond test 1 (1 + class_length bytes)) (c ∷ bytes)) ∷ types_in false (drop (cond test 1 (1 + class_length bytes)) (c ∷ bytes))
  by true rest = refl
  by false rest =
      ap (ahead b) rest
      ∙ ap (λ (n : ℕ). (b ∷ take n (c ∷ bytes)) ∷ types_in false (drop n (c ∷ bytes))) (let e : suc (class_length bytes) ≡ 1 + class_length bytes = omega arith in e)

behind_bracket : (b : ℕ) (bytes : List ℕ) → ahead b (types_in false bytes) ≡ (b ∷ take (type_length bytes) bytes) ∷ types_in false (drop (type_length bytes) bytes)
behind_bracket b [] = refl
behind_bracket b (c ∷ bytes) = by (c == 41) (c == 91) (c == 76) refl (behind_bracket c bytes) where
  by : (x y z : Bool) → (c == 41) ≡ x → ahead c (types_in false bytes) ≡ (c ∷ take (type_length bytes) bytes) ∷ types_in false (drop (type_length bytes) bytes)
      → ahead b (cond x [] (cond y (ahead c (types_in false bytes)) (cond z (ahead c (types_in true bytes)) ((c ∷ []) ∷ types_in false bytes))))
      ≡ (b ∷ take (cond x 0 (cond y (1 + type_length bytes) (cond z (1 + class_length bytes) 1))) (c ∷ bytes))
      ∷ types_in false (drop (cond x 0 (cond y (1 + type_length bytes) (cond z (1 + class_length bytes) 1))) (c ∷ bytes))
  by true y z is rest =
      sym (ap (λ (x : Bool). (b ∷ []) ∷ cond x [] (cond (c == 91) (ahead c (types_in false bytes)) (cond (c == 76) (ahead c (types_in true bytes)) ((c ∷ []) ∷ types_in false bytes)))) is)
  by false true z is rest =
      ap (ahead b) rest
      ∙ ap (λ (n : ℕ). (b ∷ take n (c ∷ bytes)) ∷ types_in false (drop n (c ∷ bytes))) (let e : suc (type_length bytes) ≡ 1 + type_length bytes = omega arith in e)
  by false false true is rest =
      ap (ahead b) (behind_class c bytes)
      ∙ ap (λ (n : ℕ). (b ∷ take n (c ∷ bytes)) ∷ types_in false (drop n (c ∷ bytes))) (let e : suc (class_length bytes) ≡ 1 + class_length bytes = omega arith in e)
  by false false false is rest = refl

first_type : (bytes : List ℕ) → 0 < type_length bytes → types_in false bytes ≡ take (type_length bytes) bytes ∷ types_in false (drop (type_length bytes) bytes)
first_type [] some = absurd (omega arith)
first_type (b ∷ bytes) some = by (b == 41) (b == 91) (b == 76) some where
  by : (x y z : Bool) → 0 < cond x 0 (cond y (1 + type_length bytes) (cond z (1 + class_length bytes) 1))
      → cond x [] (cond y (ahead b (types_in false bytes)) (cond z (ahead b (types_in true bytes)) ((b ∷ []) ∷ types_in false bytes)))
      ≡ take (cond x 0 (cond y (1 + type_length bytes) (cond z (1 + class_length bytes) 1))) (b ∷ bytes)
      ∷ types_in false (drop (cond x 0 (cond y (1 + type_length bytes) (cond z (1 + class_length bytes) 1))) (b ∷ bytes))
  by true y z some = absurd (omega arith)
  by false true z some =
      behind_bracket b bytes ∙ ap (λ (n : ℕ). take n (b ∷ bytes) ∷ types_in false (drop n (b ∷ bytes))) (let e : suc (type_length bytes) ≡ 1 + type_length bytes = omega arith in e)
  by false false true some =
      behind_class b bytes ∙ ap (λ (n : ℕ). take n (b ∷ bytes) ∷ types_in false (drop n (b ∷ bytes))) (let e : suc (class_length bytes) ≡ 1 + class_length bytes = omega arith in e)
  by false false false some = refl

no_type : (bytes : List ℕ) → type_length bytes ≡ 0 → types_in false bytes ≡ []
no_type [] none = refl
no_type (b ∷ bytes) none = by (b == 41) (b == 91) (b == 76) none where
  by : (x y z : Bool) → cond x 0 (cond y (1 + type_length bytes) (cond z (1 + class_length bytes) 1)) ≡ 0
      → cond x [] (cond y (ahead b (types_in false bytes)) (cond z (ahead b (types_in true bytes)) ((b ∷ []) ∷ types_in false bytes))) ≡ []
  by true y z none = refl
  by false true z none = absurd (omega arith)
  by false false true none = absurd (omega arith)
  by false false false none = absurd (omega arith)

-- ---- the arguments that are left

pub drop_next : {X : Type 0} (xs : List X) (i : ℕ) (d : X) → i < length xs → drop i xs ≡ get_or xs i d ∷ drop (i + 1) xs
drop_next xs i d within = drop-cons xs i d within ∙ ap (λ (n : ℕ). get_or xs i d ∷ drop n xs) (let e : suc i ≡ i + 1 = omega arith in e)

module _ (cs : Classes) (args : List EntryArg) where
  -- whether the types at the front take those from there on
  abbrev pub left_take : List ℕ → ℕ → Bool
  left_take bytes i = takes_all cs (types_in false bytes) (map argument_of (drop i args))

  next_argument : (i : ℕ) (d x : EntryArg) → i < length args → x ≡ get_or args i d → map argument_of (drop i args) ≡ argument_of x ∷ map argument_of (drop (i + 1) args)
  next_argument i d x within here = ap (map argument_of) (drop_next args i d within ∙ ap (λ (y : EntryArg). y ∷ drop (i + 1) args) (sym here))

  pub none_left : (bytes : List ℕ) (i : ℕ) (d x : EntryArg) → i < length args → x ≡ get_or args i d → type_length bytes ≡ 0 → left_take bytes i ≡ false
  none_left bytes i d x within here none = ap (λ types. takes_all cs types (map argument_of (drop i args))) (no_type bytes none) ∙ ap (takes_all cs []) (next_argument i d x within here)

  both_there : (bytes : List ℕ) (i : ℕ) (d x : EntryArg) → i < length args → x ≡ get_or args i d → 0 < type_length bytes
      → left_take bytes i ≡ (takes cs (take (type_length bytes) bytes) (argument_of x) && left_take (drop (type_length bytes) bytes) (i + 1))
  both_there bytes i d x within here some =
      ap (λ types. takes_all cs types (map argument_of (drop i args))) (first_type bytes some)
      ∙ ap (takes_all cs (take (type_length bytes) bytes ∷ types_in false (drop (type_length bytes) bytes))) (next_argument i d x within here)

  pub first_refuses : (bytes : List ℕ) (i : ℕ) (d x : EntryArg) → i < length args → x ≡ get_or args i d → 0 < type_length bytes → takes cs (take (type_length bytes) bytes) (argument_of x) ≡ false → left_take bytes i ≡ false
  first_refuses bytes i d x within here some refuses = both_there bytes i d x within here some ∙ ap (λ b. b && left_take (drop (type_length bytes) bytes) (i + 1)) refuses

  pub first_takes : (bytes : List ℕ) (i : ℕ) (d x : EntryArg) → i < length args → x ≡ get_or args i d → 0 < type_length bytes → takes cs (take (type_length bytes) bytes) (argument_of x) ≡ true
      → left_take bytes i ≡ left_take (drop (type_length bytes) bytes) (i + 1)
  first_takes bytes i d x within here some takes_it = both_there bytes i d x within here some ∙ ap (λ b. b && left_take (drop (type_length bytes) bytes) (i + 1)) takes_it

  pub at_end : (bytes : List ℕ) (i : ℕ) → drop i args ≡ [] → left_take bytes i ≡ (type_length bytes == 0)
  at_end bytes i past = ap (λ rest. takes_all cs (types_in false bytes) (map argument_of rest)) past ∙ by (type_length bytes) refl where
    by : (n : ℕ) → type_length bytes ≡ n → takes_all cs (types_in false bytes) [] ≡ (n == 0)
    by zero e = ap (λ types. takes_all cs types []) (no_type bytes e)
    by (suc n) e = ap (λ types. takes_all cs types []) (first_type bytes (omega arith)) ∙ sym (ne_eqb (suc n) 0 (λ h. omega arith))

-- ---- Strings

pub head_named : (heads : List ClassHead) (place : ℕ) (c : ClassHead) (name : List ℕ) → slice_get heads place ≡ Some c → name_at heads place ≡ name → c.name ≡ name
head_named heads place c name there named = sym (ap (λ (o : Option ClassHead). unwrap_or (option_map (λ (x : ClassHead). x.name) o) []) there) ∙ named

below_array : (heads : List ClassHead) (name : List ℕ) → is_array name ≡ true → is_subtype heads string_class name ≡ false
below_array heads [] h = absurd (false≢true h)
below_array heads (b ∷ bytes) h =
    ap (λ (x : Bool). is_type_below heads (TypeName.Class string_class)
    (if x then (if x then TypeName.Array (type_of_descriptor bytes) else (if b == 76 then TypeName.Class (before_semicolon bytes) else TypeName.Primitive (b ∷ bytes))) else TypeName.Class (b ∷ bytes))) h

no_supertype : (heads : List ClassHead) (low : Option ℕ) → is_among_supertypes heads low None ≡ false
no_supertype heads None = refl
no_supertype heads (Some place) = refl

-- a String is no value of a class that isn't there
pub not_below : (k : Known) → IsRunnable k → (class : List ℕ) → place_of k.heads class ≡ None → is_subtype k.heads string_class class ≡ false
not_below k runnable class none = by (is_array class) refl where
  other : bytes_eq string_class class ≡ false
  other = elim_bool (bytes_eq string_class class) refl where
    elim_bool : (b : Bool) → bytes_eq string_class class ≡ b → b ≡ false
    elim_bool false e = refl
    elim_bool true e = absurd (strings_there k runnable (ap (place_of k.heads) ((bytes_decides string_class class).0 e) ∙ none))

  by : (b : Bool) → is_array class ≡ b → is_subtype k.heads string_class class ≡ false
  by true e = below_array k.heads class e
  by false e =
      ap (λ (x : Bool). is_type_below k.heads (TypeName.Class string_class) (if x then type_of_descriptor class else TypeName.Class class)) e
      ∙ ap (λ (x : Bool). x || is_among_supertypes k.heads (place_of k.heads string_class) (place_of k.heads class)) other
      ∙ ap (is_among_supertypes k.heads (place_of k.heads string_class)) none ∙ no_supertype k.heads (place_of k.heads string_class)
