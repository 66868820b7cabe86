-- An array of new Strings.
use Rattle.std.specs.Prelude.{◌≡◌, ℕ, zero, suc, ◌++◌, List, [], ◌∷◌, map, replicate, length, slice_get, Option, Some, None, option_and_then, refl}
use Rattle.std.specs.List.{AllByRecursion}
use Rattle.std.proofs.Common.{sym, ◌∙◌, ap, subst, arith, lit<}
use Rattle.std.proofs.lemmas.Bool.{false≢true, lt-ltb}
use Rattle.aj_names.specs.declared.types.FieldType.{FieldType}
use Rattle.boot_library.specs.Heads.{library_heads}
use Rattle.class_heads.specs.declared.types.ClassHead.{ClassHead}
use Rattle.class_heads.specs.Hierarchy.{object_name, place_of, class_named}
use Rattle.class_heads.specs.PlaceLaws.{place-within, place-named, class_named-place}
use Rattle.class_world.specs.Tables.{Known}
use Rattle.class_machine.specs.ClassFiles.{field_constant}
use Rattle.class_machine.specs.Classes.{Classes}
use Rattle.class_machine.specs.Declarations as run
use Rattle.class_machine.specs.Declarations.{own_fields, fields_of, hidden_fields}
use Rattle.class_machine.specs.Descriptors.{array_of}
use Rattle.class_machine.specs.Start.{Text, Texts, argument, arguments, with_elements, texts_array}
use Rattle.class_machine.specs.Values as machine
use Rattle.class_machine.specs.Values.{string_class, Held}
use Rattle.class_machine.specs.World as worlds
use Rattle.class_machine.specs.World.{World, with_object, set_object}
use Rattle.machine_values.specs.declared.values.Ref.{Ref}
use Rattle.machine_values.specs.declared.values.Value.{Value}
use Rattle.machine_values.specs.declared.values.Value.TheVariants.{Null, Reference as Pointer}
use Rattle.machine_values.specs.declared.names.Maker.TheVariants.{Array}
use Rattle.machine_values.specs.declared.names.Name.{Name}
use Rattle.machine_values.specs.declared.content.Content.{Content}
use Rattle.machine_values.specs.declared.content.Content.TheVariants.{Values}
use Rattle.machine_values.specs.First.{first_element}
use Rattle.machine_values.specs.NumberLaws.{made_alike}
use Rattle.machine_values.specs.StandingLaws.{length-push}
use Rattle.machine_values.specs.Standing.{machine_name, name_in, held, Settled}
use Rattle.machine_values.specs.Things.{Things, Placed, made as made_of, next_name, with_made, changed}
use Rattle.machine_requests.specs.Growing.{make_shares, store_shares}
use Rattle.machine_requests.specs.Growth.{get_before}
use Rattle.machine_requests.specs.Objects.{AreFilled}
use Rattle.machine_requests.specs.Replies.{IsLonger}
use Rattle.machine_requests.specs.Shares.{Setting, Others, Shares}
use Rattle.machine_requests.specs.Telling.{is_plain, AreDistinct}
use Rattle.machine_requests.specs.TellingLaws.{all_told}
use Rattle.machine_requests.proofs.Fills.{grown_filled}
use Rattle.machine_requests.proofs.NewArrays.{longer_made, ref}
use Rattle.machine_steps.specs.Programs.{IsRunnable, Machine, IsMachine}
use Rattle.machine_invocations.specs.Methods.{classes_in}
use Rattle.machine_invocations.proofs.Fieldless.{classed}
use Rattle.machine_natives.specs.Throwables.{Holds}
use Rattle.machine_natives.proofs.Strings.{distinct_in}
use Rattle.machine_start.specs.Arguments.{array_type, KeepsContents, IsValue, MakesValue, MakesValues}
use Rattle.machine_start.proofs.Listed.{texts_are, array_alike}
use Rattle.machine_start.proofs.Made.{many_more, longer_both}

-- ---- the type

abbrev pub strings : FieldType
strings = array_type string_class

-- arrays have no fields
module _ (k : Known) (runnable : IsRunnable k) (distinct : AreDistinct k.heads) where
  unplaced : (o : Option ℕ) → place_of k.heads (array_of string_class) ≡ o → o ≡ None
  unplaced None e = refl
  unplaced (Some place) e =
      absurd (false≢true (ap is_plain (sym (place-named k.heads (array_of string_class) place e)) ∙ distinct.plain place (place-within k.heads (array_of string_class) place e)))

  unclassed : class_named k.heads (array_of string_class) ≡ None
  unclassed = class_named-place k.heads (array_of string_class) ∙ ap (option_and_then (slice_get k.heads)) (unplaced (place_of k.heads (array_of string_class)) refl)

  by_object : (object : ClassHead) → slice_get library_heads 0 ≡ Some object → object.name ≡ object_name → own_fields object ≡ [] → (classes_in k).fields (array_of string_class) ≡ []
  by_object object at named none =
      let inside = run.in_superclass k.heads (length k.files) (field_constant k.files) in
      let classed_object : class_named k.heads object_name ≡ Some object = ap (class_named k.heads) (sym named) ∙ classed k runnable 0 object at (lit< tt) in
      ap (λ (o : Option ClassHead). (fields_of o ++ hidden_fields (array_of string_class)) ++ (inside object_name ++ [])) unclassed
      ∙ ap (λ (o : Option ClassHead). (fields_of o ++ hidden_fields object_name) ++ []) classed_object
      ∙ ap (λ fs. (fs ++ hidden_fields object_name) ++ []) none

  pub array_fields : (classes_in k).fields (array_of string_class) ≡ []
  array_fields = by_object _ refl refl refl

-- ---- with nulls

last_one : {X : Type 0} (xs : List X) (x : X) → slice_get (xs ++ x ∷ []) (length xs) ≡ Some x
last_one [] x = refl
last_one (y ∷ xs) x = last_one xs x

settled_nulls : (n count : ℕ) → AllByRecursion (Settled n) (replicate count Null)
settled_nulls n zero = tt
settled_nulls n (suc count) = (refl, settled_nulls n count)

module _ (k : Known) (runnable : IsRunnable k) (before : Things) (count : ℕ) where
  abbrev fresh : Name
  fresh = next_name before.names (Array strings)

  abbrev nulls : List Value
  nulls = replicate count Null

  abbrev with_nulls : Things
  with_nulls = (with_made before (Array strings) (Values nulls)).1

  record HasArray (m : Machine) (others : Others) (w : World) : Type 0 where
    name : machine_name m.setting.heads fresh ≡ worlds.next_name w (array_of string_class)
    holds : Holds m with_nulls others (with_object w (worlds.next_name w (array_of string_class)) (worlds.Array (map (held m.setting.heads before.names) nulls)))

  has_array : (m : Machine) (others : Others) (w : World) → IsMachine k m → Holds m before others w → HasArray m others w
  has_array m others w is holds =
      let s = m.setting in
      let told = all_told s.heads (distinct_in k m is) (Array strings) before.names refl holds.shares.fit in
      let numbers : worlds.made w.heap (array_of string_class) ≡ made_of before.names (Array strings) = made_alike s.heads s.classes.fields before w.heap (Array strings) holds.shares.heap.objects told in
      let fields : s.classes.fields (array_of string_class) ≡ [] = ap (λ (cs : Classes). cs.fields (array_of string_class)) is.classes ∙ array_fields k runnable is.distinct in
      record {
        name = ap (λ n. machine.Made (array_of string_class) (suc n)) (sym numbers);
        holds = record {
          shares = make_shares s before others w (Array strings) (Values nulls) (distinct_in k m is) holds.shares refl (settled_nulls (length before.names) count);
          filled = grown_filled before fresh (Values nulls) s holds.shares.heap.objects.whole holds.filled (sym (ap length fields));
        };
      }

  -- ---- with Strings

  -- what the array holds once the texts are made
  nulls_are : (mid : Things) → length before.contents ≡ length before.names → KeepsContents with_nulls mid → slice_get mid.contents (length before.names) ≡ Some (Values nulls)
  nulls_are mid whole kept =
      ap (slice_get mid.contents) (sym whole)
      ∙ ap (λ (cs : List Content). slice_get cs (length before.contents)) kept.1
      ∙ get_before with_nulls.contents kept.0 (length before.contents) (let more = length-push before.contents (Values nulls) in omega arith)
      ∙ last_one before.contents (Values nulls)

  module _ (texts : List (List ℕ)) (mid after : Things) (vs : List Value) (makes : MakesValues k with_nulls (map Text texts) mid vs) (kept : KeepsContents with_nulls mid) (many : length vs ≡ count)
      (names : after.names ≡ mid.names) (filled : (s : Setting) → AreFilled mid s → AreFilled after s)
      (elements : slice_get mid.contents (length before.names) ≡ Some (Values (replicate (length vs) Null)) → after ≡ changed mid (length before.names) (Values vs)) where
    there : slice_get mid.names (length before.names) ≡ Some fresh
    there =
        ap (λ (names : List Name). slice_get names (length before.names)) makes.longer.1
        ∙ get_before with_nulls.names makes.longer.0 (length before.names) (let more = length-push before.names fresh in omega arith) ∙ last_one before.names fresh

    array_there : (m : Machine) (others : Others) (w : World) → IsMachine k m → Holds m before others w → IsValue m after others (Pointer (ref (length before.names))) (argument (Texts texts) w)
    array_there m others w is holds =
        let s = m.setting in
        let a = worlds.next_name w (array_of string_class) in
        let o = worlds.Array (map (held s.heads before.names) nulls) in
        let first = has_array m others w is holds in
        let made = makes.there m others (with_object w a o) is first.holds in
        let listed = texts_are texts (with_object w a o) in
        let array = elements (nulls_are mid holds.shares.heap.objects.whole kept ∙ ap (λ (n : ℕ). Some (Values (replicate n Null))) (sym many)) in
        let stored : Shares s (changed mid (length before.names) (Values vs)) others (set_object (arguments (map Text texts) (with_object w a o)).1 (machine_name s.heads fresh) (worlds.Array (map (held s.heads mid.names) vs))) =
        store_shares s mid others (arguments (map Text texts) (with_object w a o)).1 (length before.names) (Array strings) (suc (made_of before.names (Array strings))) (Values vs) (distinct_in k m is) made.holds.shares there makes.settled in
        let same : (machine.Reference (machine_name s.heads fresh), set_object (arguments (map Text texts) (with_object w a o)).1 (machine_name s.heads fresh) (worlds.Array (map (held s.heads mid.names) vs))) ≡ texts_array texts w a =
        ap (λ (hs : List Held). (machine.Reference (machine_name s.heads fresh), set_object (arguments (map Text texts) (with_object w a o)).1 (machine_name s.heads fresh) (worlds.Array hs))) made.values
        ∙ ap (λ (n : machine.Name). with_elements n (arguments (map Text texts) (with_object w a o))) first.name
        ∙ ap (with_elements a) listed
        ∙ array_alike texts w (suc (worlds.made w.heap (array_of string_class))) o in
        subst (IsValue m after others (Pointer (ref (length before.names)))) same (record {
          value = ap (λ (all : List Name). machine.Reference (name_in s.heads (slice_get all (length before.names)))) names ∙ ap (λ (n : Option Name). machine.Reference (name_in s.heads n)) there;
          holds = record {
            shares = subst (λ (h : Things). Shares s h others (set_object (arguments (map Text texts) (with_object w a o)).1 (machine_name s.heads fresh) (worlds.Array (map (held s.heads mid.names) vs)))) (sym array) stored;
            filled = filled s made.holds.filled;
          };
        })

    array_longer : IsLonger before after
    array_longer =
        let more = longer_both before with_nulls mid (longer_made before (Array strings) (Values nulls)) makes.longer in
        (more.0, names ∙ more.1)

    pub array_made : MakesValue k before (Texts texts) after (Pointer (ref (length before.names)))
    array_made = record {
      there = array_there;
      settled =
          let more = length-push before.names fresh in
          let many = many_more with_nulls mid makes.longer in
          let same = ap length names in
          lt-ltb (length before.names) (length after.names) (omega arith);
      longer = array_longer;
    }

-- the array and what is there then, by the call that made it
pub array_from : (k : Known) (runnable : IsRunnable k) (before first mid after : Things) (at : Ref) (class : FieldType) (count : ℕ) (texts : List (List ℕ)) (vs : List Value) → class ≡ strings
    → (at.0, first) ≡ with_made before (Array class) (Values (replicate count (first_element class))) → MakesValues k first (map Text texts) mid vs → KeepsContents first mid → length vs ≡ count
    → after.names ≡ mid.names → ((s : Setting) → AreFilled mid s → AreFilled after s)
    → (slice_get mid.contents at.0 ≡ Some (Values (replicate (length vs) Null)) → after ≡ changed mid at.0 (Values vs)) → MakesValue k before (Texts texts) after (Pointer at)
array_from k runnable before first mid after at class count texts vs typed added makes kept many names filled elements =
    let e : (at.0, first) ≡ with_made before (Array strings) (Values (replicate count Null)) = added ∙ ap (λ (t : FieldType). with_made before (Array t) (Values (replicate count (first_element t)))) typed in
    let place : at.0 ≡ length before.names = ap (λ (p : Placed). p.0) e in
    let there : first ≡ (with_made before (Array strings) (Values (replicate count Null))).1 = ap (λ (p : Placed). p.1) e in
    subst (λ (n : ℕ). MakesValue k before (Texts texts) after (Pointer (ref n))) (sym place)
    (array_made k runnable before count texts mid after vs (subst (λ (h : Things). MakesValues k h (map Text texts) mid vs) there makes) (subst (λ (h : Things). KeepsContents h mid) there kept) many names filled
    (subst (λ (n : ℕ). slice_get mid.contents n ≡ Some (Values (replicate (length vs) Null)) → after ≡ changed mid n (Values vs)) place elements))
