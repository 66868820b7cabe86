-- What the class machine finds of the library, and of the methods of classes without initialisers, whatever classes
-- with names of one part are given.
use Rattle.std.proofs.Common.{◌≡◌, ℕ, zero, suc, ◌+◌, ◌-◌, ◌<◌, ◌≤◌, Bool, true, false, not, ◌==◌, ◌||◌, nat_lt, nat_eq, if◌then◌else◌, cond, List, [], ◌∷◌, ◌++◌, length, length-append, Option, Some, None, is_none, refl, sym, ap, ◌∙◌, arith, slice_get, option_and_then, bytes_eq, codes}
use Rattle.std.specs.List.{find, filter, flat_map, filter_map, cons_option, list_any, list_all, position_from, AllByRecursion}
use Rattle.std.specs.Option.{option_map, option_or, unwrap_or}
use Rattle.std.proofs.lemmas.Bool.{false_from_ne_true, ltb-true, lt-ltb, eqb-true, and_parts}
use Rattle.std.proofs.lemmas.Slice.Eq.{bytes_eq-Decides}
use Rattle.class_file.specs.FirstForm.{is_identifier}
use Rattle.class_file.specs.Text.{is_field_descriptor}
use Rattle.class_file.specs.Pool.{NamedType, Reference}
use Rattle.class_heads.specs.declared.types.MethodHead.{MethodHead}
use Rattle.class_heads.specs.declared.types.ClassHead.{ClassHead}
use Rattle.class_heads.specs.Graph.{walk, each_once}
use Rattle.class_heads.specs.Hierarchy.{TypeName, type_of_descriptor, object_name, is_array, is_named, is_interface, place_of, super_names, superclass_at, supers_at, superclasses, order, is_among_supertypes, class_of_members}
use Rattle.class_heads.specs.Faults.{is_class_that}
use Rattle.class_heads.specs.PlaceLaws.{class_named-place}
use Rattle.class_heads.specs.Searches.{same_name, in_class, field_position, method_position, first_found, field_in, method_in, find_field, find_method, is_interface_at, selectable_of, selectable_in}
use Rattle.boot_library.specs.declared.rule.LibraryRule.{LibraryRule}
use Rattle.boot_library.specs.declared.rule.LibraryRule.TheVariants as rule
use Rattle.boot_library.specs.declared.rule.Spelling.TheVariants.{OfText}
use Rattle.boot_library.specs.Library as library
use Rattle.boot_library.specs.Heads.{library_heads, class_head, method_head}
use Rattle.boot_library.specs.Rules.{rule_of}
use Rattle.class_machine.specs.Values.{system_class, print_stream_class, string_class, Held, Reference as Pointer}
use Rattle.class_machine.specs.Descriptors.{blank, element_of}
use Rattle.class_machine.specs.Classes.{reference, Field, Method, Classes}
use Rattle.class_machine.specs.Declarations.{member_name, field_found, method_found, output_field, library_constant, classes_of, rule_at, field_at, method_at, find_selectable, initial_at, if_static}
use Rattle.class_machine.specs.Start.{output}
use Rattle.woven_calls.specs.Laws.Pools.{slice_front, slice_back}

-- ---- what is found

-- println of a text
abbrev pub println : Reference
println = reference print_stream_class (codes "println") (codes "(Ljava/lang/String;)V")

abbrev pub println_method : Method
println_method =
    record { name = println; is_static = false; is_private = false; is_synchronized = false; is_native = false; rule = Some (rule.Print OfText true) }

abbrev pub system_out : Field
system_out = record { name = output_field; is_static = true }

-- a static method with code
abbrev pub own_found : Reference → Bool → Method
own_found r private = record { name = r; is_static = true; is_private = private; is_synchronized = false; is_native = false; rule = None }

-- The classes have the library's output and its println, and no initialiser.
pub record Knows (cs : Classes) : Type 0 where
  pub field : cs.field output_field ≡ Some system_out
  pub initial : cs.initial output_field ≡ Pointer output
  pub method : cs.method println ≡ Some println_method
  pub selected : cs.selected print_stream_class println.member ≡ Some println_method
  pub interface : cs.is_interface print_stream_class ≡ false
  pub stream : cs.is_subtype print_stream_class print_stream_class ≡ true
  pub text : cs.is_subtype string_class print_stream_class ≡ false
  pub initialiser : (class : List ℕ) → cs.initialiser class ≡ None

-- ---- places

-- the first element that passes, and its place
record FoundAt {X : Type 0} (t : X → Bool) (i : ℕ) (xs : List X) (x : X) : Type 0 where
  k : ℕ
  place : position_from t i xs ≡ Some (i + k)
  stands : slice_get xs k ≡ Some x
  within : k < length xs

found_at : {X : Type 0} (t : X → Bool) (i : ℕ) (xs : List X) (x : X) → find t xs ≡ Some x → FoundAt t i xs x
found_at t i [] x e = absurd cc
found_at {X} t i (y ∷ xs) x e = go (found_at t (i + 1) xs x) (t y) refl e
  where
    go : (find t xs ≡ Some x → FoundAt t (i + 1) xs x) → (b : Bool) → t y ≡ b → cond b (Some y) (find t xs) ≡ Some x → FoundAt t i (y ∷ xs) x
    go later true is e =
        record { k = 0; place = ap (λ (b : Bool). cond b (Some i) (position_from t (i + 1) xs)) is ∙ ap Some (let none : i ≡ i + 0 = omega arith in none); stands = e; within = omega arith }
    go later false is e =
        let r = later e in
        let n = r.within in
        record {
          k = suc r.k;
          place = ap (λ (b : Bool). cond b (Some i) (position_from t (i + 1) xs)) is ∙ r.place ∙ ap Some (let more : i + 1 + r.k ≡ i + suc r.k = omega arith in more);
          stands = r.stands;
          within = omega arith;
        }

-- what is found in front is found in the whole
position_front : {X : Type 0} (t : X → Bool) (i : ℕ) (xs ys : List X) (p : ℕ) → position_from t i xs ≡ Some p → position_from t i (xs ++ ys) ≡ Some p
position_front t i [] ys p e = absurd cc
position_front {X} t i (x ∷ xs) ys p e = go (position_front t (i + 1) xs ys p) (t x) refl e
  where
    go : (position_from t (i + 1) xs ≡ Some p → position_from t (i + 1) (xs ++ ys) ≡ Some p) → (b : Bool) → t x ≡ b → cond b (Some i) (position_from t (i + 1) xs) ≡ Some p → cond (t x) (Some i) (position_from t (i + 1) (xs ++ ys)) ≡ Some p
    go later true is e = ap (λ (b : Bool). cond b (Some i) (position_from t (i + 1) (xs ++ ys))) is ∙ e
    go later false is e = ap (λ (b : Bool). cond b (Some i) (position_from t (i + 1) (xs ++ ys))) is ∙ later e

-- where none passes in front, what is found is behind it
position_behind : {X : Type 0} (t : X → Bool) (i : ℕ) (xs ys : List X) → AllByRecursion (λ x. t x ≡ false) xs → position_from t i (xs ++ ys) ≡ position_from t (i + length xs) ys
position_behind t i [] ys none = ap (λ (k : ℕ). position_from t k ys) (let same : i ≡ i + 0 = omega arith in same)
position_behind t i (x ∷ xs) ys none =
    ap (λ (b : Bool). cond b (Some i) (position_from t (i + 1) (xs ++ ys))) none.0 ∙ position_behind t (i + 1) xs ys none.1
    ∙ ap (λ (k : ℕ). position_from t k ys) (let same : i + 1 + length xs ≡ i + suc (length xs) = omega arith in same)

-- ---- names

-- an initialiser's name and descriptor (JVMS 3.9)
abbrev pub initialiser_type : NamedType
initialiser_type = record { name = codes "<clinit>"; descriptor = codes "()V" }

-- a class with a name of one part, without an initialiser
pub record Plain (c : ClassHead) : Type 0 where
  pub identifier : is_identifier c.name ≡ true
  pub silent : method_position (member_name initialiser_type) c ≡ None

other_name : (x name : List ℕ) → is_identifier x ≡ true → is_identifier name ≡ false → bytes_eq x name ≡ false
other_name x name h other =
    false_from_ne_true (bytes_eq x name) (λ same. let apart : true ≡ false = sym h ∙ ap is_identifier ((bytes_eq-Decides x name).0 same) ∙ other in absurd cc)

others : (front : List ClassHead) (name : List ℕ) → AllByRecursion Plain front → is_identifier name ≡ false → AllByRecursion (λ c. is_named name c ≡ false) front
others [] name plain other = tt
others (c ∷ front) name plain other = (other_name c.name name plain.0.identifier other, others front name plain.1 other)

-- ---- the table

-- the walk begins with its place
walk_first : (steps : ℕ → List ℕ) (most p : ℕ) → p < most → (rest : List ℕ) × (walk steps most p ≡ p ∷ rest)
walk_first steps zero p lt = absurd (omega arith)
walk_first steps (suc most) p lt = (flat_map (walk steps most) (steps p), refl)

-- a search ends at the first place where it finds one
first_place : (search : ℕ → Option ℕ) (p k : ℕ) (places rest : List ℕ) → places ≡ p ∷ rest → search p ≡ Some k → first_found search places ≡ Some (in_class p k)
first_place search p k places rest e found = ap (first_found search) e ∙ ap (λ (o : Option ℕ). option_or (option_map (in_class p) o) (first_found search rest)) found

silent_at : (heads : List ClassHead) (p : ℕ) → AllByRecursion (λ c. method_position (member_name initialiser_type) c ≡ None) heads → option_and_then (method_position (member_name initialiser_type)) (slice_get heads p) ≡ None
silent_at [] p all = refl
silent_at (c ∷ heads) zero all = all.0
silent_at (c ∷ heads) (suc p) all = silent_at heads p all.1

-- a class of this name, at its place
pub record Stands (heads : List ClassHead) (name : List ℕ) (c : ClassHead) : Type 0 where
  pub p : ℕ
  pub place : place_of heads name ≡ Some p
  pub stands : slice_get heads p ≡ Some c
  pub within : p < length heads

module _ (heads : List ClassHead) (given : ℕ) (constant : Reference → Option Held) where
  abbrev cs : Classes
  cs = classes_of heads given constant

  -- the method that a class declares itself
  found_method : (r : Reference) (c : ClassHead) (k : ℕ) (m : MethodHead) (o : Option LibraryRule) → is_array r.class ≡ false → (s : Stands heads r.class c) → method_position (member_name r.member) c ≡ Some k → slice_get c.methods k ≡ Some m
      → rule_at heads given constant s.p c m ≡ o → cs.method r ≡ Some (method_found o c m)
  found_method r c k m o plain s at stands rule =
      let walked = walk_first (superclass_at heads) (length heads) s.p s.within in
      let here : option_and_then (method_position (member_name r.member)) (slice_get heads s.p) ≡ Some k = ap (option_and_then (method_position (member_name r.member))) s.stands ∙ at in
      let places : superclasses heads s.p ++ filter (is_interface_at heads) (order heads s.p) ≡ s.p ∷ (walked.0 ++ filter (is_interface_at heads) (order heads s.p)) =
      ap (λ (l : List ℕ). l ++ filter (is_interface_at heads) (order heads s.p)) walked.1 in
      ap (λ (b : Bool). option_and_then (method_at heads given constant) (option_and_then (λ place. find_method heads place (member_name r.member)) (if (if b then is_field_descriptor r.class else true) then class_of_members heads (if b then type_of_descriptor r.class else TypeName.Class r.class) else None))) plain
      ∙ ap (λ (o : Option ℕ). option_and_then (method_at heads given constant) (option_and_then (λ place. find_method heads place (member_name r.member)) o)) s.place
      ∙ ap (option_and_then (method_at heads given constant)) (first_place (method_in heads (member_name r.member)) s.p k (superclasses heads s.p ++ filter (is_interface_at heads) (order heads s.p)) _ places here)
      ∙ ap (option_and_then (λ c. option_map (λ m. method_found (rule_at heads given constant s.p c m) c m) (slice_get c.methods k))) s.stands
      ∙ ap (option_map (λ m. method_found (rule_at heads given constant s.p c m) c m)) stands
      ∙ ap (λ o. Some (method_found o c m)) rule

-- ---- the library behind given classes

no_method : AllByRecursion (λ c. method_position (member_name initialiser_type) c ≡ None) library_heads
no_method = each library_heads refl
  where
    each : (heads : List ClassHead) → list_all (λ c. is_none (method_position (member_name initialiser_type) c)) heads ≡ true → AllByRecursion (λ c. method_position (member_name initialiser_type) c ≡ None) heads
    each [] h = tt
    each (c ∷ heads) h =
        let parts = and_parts (is_none (method_position (member_name initialiser_type) c)) (list_all (λ c. is_none (method_position (member_name initialiser_type) c)) heads) h in
        (none (method_position (member_name initialiser_type) c) parts.0, each heads parts.1)
      where
        none : (o : Option ℕ) → is_none o ≡ true → o ≡ None
        none None h = refl
        none (Some k) h = absurd cc

abbrev stream_head : ClassHead
stream_head = class_head library.print_stream

abbrev system_head : ClassHead
system_head = class_head library.system

abbrev string_head : ClassHead
string_head = class_head library.string

abbrev object_head : ClassHead
object_head = class_head library.object

stream_listed : find (is_named print_stream_class) library_heads ≡ Some stream_head
stream_listed = refl

system_listed : find (is_named system_class) library_heads ≡ Some system_head
system_listed = refl

string_listed : find (is_named string_class) library_heads ≡ Some string_head
string_listed = refl

object_listed : find (is_named object_name) library_heads ≡ Some object_head
object_listed = refl

-- println, the seventh method of its class
abbrev println_head : MethodHead
println_head = method_head (library.instance (codes "println") (codes "(Ljava/lang/String;)V") (rule.Print OfText true))

println_at : method_position (member_name println.member) stream_head ≡ Some 6
println_at = refl

module _ (front : List ClassHead) (plain : AllByRecursion Plain front) (given : ℕ) (all : given ≡ length front) (constant : Reference → Option Held) where
  abbrev heads : List ClassHead
  heads = front ++ library_heads

  abbrev table : Classes
  table = classes_of heads given constant

  -- a class of the library, behind the given ones
  record Behind (name : List ℕ) (c : ClassHead) : Type 0 where
    there : Stands heads name c
    late : length front ≤ there.p

  behind : (name : List ℕ) (c : ClassHead) → is_identifier name ≡ false → find (is_named name) library_heads ≡ Some c → Behind name c
  behind name c other listed =
      let f = found_at (is_named name) (0 + length front) library_heads c listed in
      let n : 0 + length front + f.k ≡ length front + f.k = omega arith in
      let inside = f.within in
      let whole = length-append front library_heads in
      record {
        there = record {
          p = length front + f.k;
          place = position_behind (is_named name) 0 front library_heads (others front name plain other) ∙ f.place ∙ ap Some n;
          stands = slice_back front library_heads f.k ∙ f.stands;
          within = omega arith;
        };
        late = omega arith;
      }

  stream : Behind print_stream_class stream_head
  stream = behind print_stream_class stream_head refl stream_listed

  system : Behind system_class system_head
  system = behind system_class system_head refl system_listed

  texts : Behind string_class string_head
  texts = behind string_class string_head refl string_listed

  root : Behind object_name object_head
  root = behind object_name object_head refl object_listed

  -- a place of the library isn't given
  not_given : (p : ℕ) → length front ≤ p → nat_lt p given ≡ false
  not_given p late = ltb-false-of p given (omega arith)
    where
      ltb-false-of : (a b : ℕ) → b ≤ a → nat_lt a b ≡ false
      ltb-false-of a b le = false_from_ne_true (nat_lt a b) (λ lt. let below = ltb-true a b lt in absurd (omega arith))

  rule_is : rule_at heads given constant stream.there.p stream_head println_head ≡ Some (rule.Print OfText true)
  rule_is = ap (λ (b : Bool). if b then None else rule_of stream_head.name println_head.name) (not_given stream.there.p stream.late)

  method_is : table.method println ≡ Some println_method
  method_is = found_method heads given constant println stream_head 6 println_head (Some (rule.Print OfText true)) refl stream.there println_at refl rule_is

  selected_is : table.selected print_stream_class println.member ≡ Some println_method
  selected_is =
      let s = stream.there in
      let walked = walk_first (superclass_at heads) (length heads) s.p s.within in
      let here : selectable_in heads (member_name println.member) s.p ≡ Some 6 = ap (option_and_then (selectable_of heads (member_name println.member))) s.stands in
      ap (λ (o : Option ℕ). option_and_then (method_at heads given constant) (option_and_then (find_selectable heads given constant (member_name println.member)) o)) s.place
      ∙ ap (option_and_then (method_at heads given constant)) (first_place (selectable_in heads (member_name println.member)) s.p 6 (superclasses heads s.p) walked.0 walked.1 here)
      ∙ ap (option_and_then (λ c. option_map (λ m. method_found (rule_at heads given constant s.p c m) c m) (slice_get c.methods 6))) s.stands
      ∙ ap (λ o. Some (method_found o stream_head println_head)) rule_is

  field_is : table.field output_field ≡ Some system_out
  field_is =
      let s = system.there in
      let walked = walk_first (supers_at heads) (length heads) s.p s.within in
      let here : field_in heads (member_name output_field.member) s.p ≡ Some 0 = ap (option_and_then (field_position (member_name output_field.member))) s.stands in
      ap (λ (o : Option ℕ). option_and_then (field_at heads given constant) (option_and_then (λ place. find_field heads place (member_name output_field.member)) o)) s.place
      ∙ ap (option_and_then (field_at heads given constant)) (first_place (field_in heads (member_name output_field.member)) s.p 0 (order heads s.p) walked.0 walked.1 here)
      ∙ ap (option_and_then (λ c. option_map (field_found c) (slice_get c.fields 0))) s.stands

  initial_is : table.initial output_field ≡ Pointer output
  initial_is =
      ap (λ (o : Option ℕ). unwrap_or (option_and_then (initial_at heads given constant output_field) o) (blank (element_of output_field.member.descriptor))) system.there.place
      ∙ ap (λ (b : Bool). unwrap_or (if b then constant output_field else library_constant output_field) (blank (element_of output_field.member.descriptor))) (not_given system.there.p system.late)

  class_is : table.is_interface print_stream_class ≡ false
  class_is =
      ap (is_class_that is_interface) (class_named-place heads print_stream_class)
      ∙ ap (λ (o : Option ℕ). is_class_that is_interface (option_and_then (slice_get heads) o)) stream.there.place
      ∙ ap (is_class_that is_interface) stream.there.stands

  -- ---- no text is an output

  -- the supertypes of String
  text_order : order heads texts.there.p ≡ texts.there.p ∷ root.there.p ∷ []
  text_order =
      let ps = texts.there.p in
      let po = root.there.p in
      let whole = length-append front library_heads in
      let enough : length heads ≡ suc (suc (length front + (length library_heads - 2))) = omega arith in
      let most = length front + (length library_heads - 2) in
      let up : supers_at heads ps ≡ po ∷ [] =
      ap (λ (o : Option ClassHead). filter_map (place_of heads) (super_names o)) texts.there.stands ∙ ap (λ (o : Option ℕ). cons_option o []) root.there.place in
      let top : supers_at heads po ≡ [] = ap (λ (o : Option ClassHead). filter_map (place_of heads) (super_names o)) root.there.stands in
      ap (λ (n : ℕ). walk (supers_at heads) n ps) enough
      ∙ ap (λ (l : List ℕ). ps ∷ flat_map (walk (supers_at heads) (suc most)) l) up
      ∙ ap (λ (l : List ℕ). ps ∷ po ∷ (flat_map (walk (supers_at heads) most) l ++ [])) top

  apart_from : (name : List ℕ) (c : ClassHead) (s : Stands heads name c) → is_named print_stream_class c ≡ false → nat_eq stream.there.p s.p ≡ false
  apart_from name c s other =
      false_from_ne_true (nat_eq stream.there.p s.p) (λ same.
      let at : Some stream_head ≡ Some c = sym stream.there.stands ∙ ap (slice_get heads) (eqb-true stream.there.p s.p same) ∙ s.stands in
      let apart : true ≡ false = ap (is_class_that (is_named print_stream_class)) at ∙ other in absurd cc)

  text_is : table.is_subtype string_class print_stream_class ≡ false
  text_is =
      let ps = texts.there.p in
      let po = root.there.p in
      let pp = stream.there.p in
      ap (λ (o : Option ℕ). is_among_supertypes heads o (place_of heads print_stream_class)) texts.there.place
      ∙ ap (λ (o : Option ℕ). is_among_supertypes heads (Some ps) o) stream.there.place
      ∙ ap (λ (l : List ℕ). list_any (nat_eq pp) (each_once l)) text_order
      ∙ ap (λ (b : Bool). b || list_any (nat_eq pp) (filter (λ other. not (ps == other)) (po ∷ []))) (apart_from string_class string_head texts.there refl)
      ∙ rest (not (ps == po)) (apart_from object_name object_head root.there refl)
    where
      rest : (b : Bool) → nat_eq stream.there.p root.there.p ≡ false → list_any (nat_eq stream.there.p) (if b then root.there.p ∷ [] else []) ≡ false
      rest true other = ap (λ (b : Bool). b || false) other
      rest false other = refl

  -- ---- no class has an initialiser

  silent_front : (front : List ClassHead) → AllByRecursion Plain front → AllByRecursion (λ c. method_position (member_name initialiser_type) c ≡ None) (front ++ library_heads)
  silent_front [] plain = no_method
  silent_front (c ∷ front) plain = (plain.0.silent, silent_front front plain.1)

  initialiser_is : (class : List ℕ) → table.initialiser class ≡ None
  initialiser_is class = go (place_of heads class)
    where
      go : (o : Option ℕ) → option_and_then (if_static heads given constant) (option_and_then (λ place. option_and_then (λ position. method_at heads given constant (in_class place position)) (method_in heads (member_name initialiser_type) place)) o) ≡ None
      go None = refl
      go (Some p) =
          let at : Option ℕ → Option Method = λ o. option_and_then (λ position. method_at heads given constant (in_class p position)) o in
          ap (λ (o : Option ℕ). option_and_then (if_static heads given constant) (at o)) (silent_at heads p (silent_front front plain))

  pub knows : Knows table
  knows = record {
    field = field_is;
    initial = initial_is;
    method = method_is;
    selected = selected_is;
    interface = class_is;
    stream = refl;
    text = text_is;
    initialiser = initialiser_is;
  }

-- a method of a class among the given ones
module _ (front back : List ClassHead) (given : ℕ) (all : given ≡ length front) (constant : Reference → Option Held) where
  pub given_method : (r : Reference) (c : ClassHead) (m : MethodHead) → is_array r.class ≡ false → find (is_named r.class) front ≡ Some c → find (λ x. same_name x.name (member_name r.member)) c.methods ≡ Some m
      → (classes_of (front ++ back) given constant).method r ≡ Some (method_found None c m)
  given_method r c m plain listed declared =
      let f = found_at (is_named r.class) 0 front c listed in
      let d = found_at (λ (x : MethodHead). same_name x.name (member_name r.member)) 0 c.methods m declared in
      let inside = f.within in
      let whole = length-append front back in
      let here : 0 + f.k ≡ f.k = omega arith in
      let there : 0 + d.k ≡ d.k = omega arith in
      let early : nat_lt (0 + f.k) given ≡ true = lt-ltb (0 + f.k) given (omega arith) in
      let s : Stands (front ++ back) r.class c = record {
        p = 0 + f.k;
        place = position_front (is_named r.class) 0 front back (0 + f.k) f.place;
        stands = slice_front front back (0 + f.k) c (ap (slice_get front) here ∙ f.stands);
        within = omega arith;
      } in
      found_method (front ++ back) given constant r c (0 + d.k) m None plain s d.place (ap (slice_get c.methods) there ∙ d.stands) (ap (λ (b : Bool). if b then None else rule_of c.name m.name) early)
