-- An array that is filled with arrays, one after the other.
use Rattle.std.specs.Prelude.{◌≡◌, ℕ, zero, suc, ◌-◌, ◌<◌, ◌≤◌, true, List, [], ◌∷◌, ◌++◌, map, replicate, length, slice_get, slice_set, Option, Some, ℤ, refl}
use Rattle.std.specs.List.{AllByRecursion}
use Rattle.std.proofs.Common.{sym, ◌∙◌, ap, subst, inl, inr, arith, append-nil, append_assoc, length-append}
use Rattle.std.proofs.lemmas.Bool.{lt-ltb, cases_lt}
use Rattle.aj_names.specs.declared.types.FieldType.{FieldType}
use Rattle.class_machine.specs.Values as machine
use Rattle.class_machine.specs.Values.{class_of, Held}
use Rattle.class_machine.specs.Descriptors.{elements_of, held_in, blank}
use Rattle.class_machine.specs.World as worlds
use Rattle.class_machine.specs.World.{World, with_object, set_object, with_changed}
use Rattle.class_machine.specs.Answers.{in_turn, make_arrays, size_of}
use Rattle.machine_values.specs.declared.values.Ref.{Ref}
use Rattle.machine_values.specs.declared.values.Value.{Value}
use Rattle.machine_values.specs.declared.values.Value.TheVariants.{Reference as Pointer}
use Rattle.machine_values.specs.declared.names.Maker.{Maker}
use Rattle.machine_values.specs.declared.names.Maker.TheVariants.{Array}
use Rattle.machine_values.specs.declared.names.Name.{Name}
use Rattle.machine_values.specs.declared.names.Name.TheVariants.{Made}
use Rattle.machine_values.specs.declared.content.Content.{Content}
use Rattle.machine_values.specs.declared.content.Content.TheVariants.{Values}
use Rattle.machine_values.specs.First.{first_element}
use Rattle.machine_values.specs.NumberLaws.{made_alike}
use Rattle.machine_values.specs.StandingLaws.{length-push}
use Rattle.machine_values.specs.Things.{Things, next_name, with_made, changed, values_of, values_at}
use Rattle.machine_values.specs.Types.{type_name}
use Rattle.machine_values.specs.Standing.{machine_name, name_in, held, Settled}
use Rattle.machine_requests.specs.Growing.{make_shares, store_shares}
use Rattle.machine_requests.specs.Growth.{all_held_stay, get_before}
use Rattle.machine_requests.specs.Objects.{fields_in, AreFilled}
use Rattle.machine_requests.specs.Shares.{Setting, Others, Shares}
use Rattle.machine_requests.specs.Telling.{AreDistinct, is_array_type}
use Rattle.machine_requests.specs.TellingLaws.{all_told, array_is_array}
use Rattle.machine_steps.specs.Within.{settled_more}
use Rattle.machine_arrays.specs.Made.{element_type, IsMade, Makes, Extends, KeepsFilled}
use Rattle.machine_arrays.proofs.Worlds.{set_twice, set_new, makes_beside, turn_beside, next_there, turn_next, turn_many, makes_one}
use Rattle.machine_arrays.proofs.Lists.{get_at, set_at, length_set, map_set, map_replicate, all_replicate, all_set, all_more, left_next}
use Rattle.machine_arrays.proofs.Elements.{has_dims, blank_held, settled_first, null_first, element_name}

abbrev pub ref : ℕ → Ref
ref n = record { 0 = n }

-- ---- what is there still

pub extends_itself : (things : Things) → length things.contents ≡ length things.names → Extends things things
extends_itself things whole = record { names = ([], sym (append-nil things.names)); contents = []; longer = sym (append-nil things.contents); whole = whole }

pub extends_made : (things : Things) (maker : Maker) (c : Content) → length things.contents ≡ length things.names → Extends things (with_made things maker c).1
extends_made things maker c whole = record {
  names = (next_name things.names maker ∷ [], refl);
  contents = c ∷ [];
  longer = refl;
  whole = let a = length-push things.names (next_name things.names maker) in let b = length-push things.contents c in omega arith;
}

pub extends_both : (a b c : Things) → Extends a b → Extends b c → Extends a c
extends_both a b c h k = record {
  names = (h.names.0 ++ k.names.0, k.names.1 ∙ ap (λ (l : List Name). l ++ k.names.0) h.names.1 ∙ append_assoc a.names h.names.0 k.names.0);
  contents = h.contents ++ k.contents;
  longer = k.longer ∙ ap (λ (l : List Content). l ++ k.contents) h.longer ∙ append_assoc a.contents h.contents k.contents;
  whole = k.whole;
}

pub extends_within : (a b : Things) (at : ℕ) → Extends a b → at < length a.names → at < length b.names
extends_within a b at h below = let e = ap length h.names.1 in let n = length-append a.names h.names.0 in omega arith

-- ---- objects keep a value for each field of their class

last_one : {X : Type 0} (xs : List X) (x : X) → slice_get (xs ++ x ∷ []) (length xs) ≡ Some x
last_one [] x = refl
last_one (y ∷ xs) x = last_one xs x

pub made_filled : (things : Things) (type : FieldType) (values : List Value) (s : Setting) → is_array_type type ≡ true → KeepsFilled things (with_made things (Array type) (Values values)).1 s
made_filled things type values s array bare whole filled = record {
  each = λ at below. elim (cases_lt at (length things.names)) [
    | inl old ↦
        let n = get_before things.names (x ∷ []) at old in
        let d = get_before things.contents (c ∷ []) at (omega arith) in
        ap (λ (o : Option Name). length (fields_in o (slice_get (things.contents ++ c ∷ []) at))) n ∙ ap (λ (p : Option Content). length (fields_in (slice_get things.names at) p)) d
        ∙ filled.each at old ∙ ap (λ (o : Option Name). length (s.classes.fields (class_of (name_in s.heads o)))) (sym n)
    | inr new ↦
        let more = length-append things.names (x ∷ []) in
        let last : at ≡ length things.names = omega arith in
        let n : slice_get (things.names ++ x ∷ []) at ≡ Some x = ap (slice_get (things.names ++ x ∷ [])) last ∙ last_one things.names x in
        ap (λ (o : Option Name). length (fields_in o (slice_get (things.contents ++ c ∷ []) at))) n
        ∙ sym (ap length (bare (type_name type) (array_is_array type (has_dims type array)))) ∙ ap (λ (o : Option Name). length (s.classes.fields (class_of (name_in s.heads o)))) (sym n)
  ];
} where
  x : Name
  x = next_name things.names (Array type)

  c : Content
  c = Values values

-- an array that holds something else has no fields still
other_place : (ns : List Name) (cs : List Content) (at i : ℕ) (type : FieldType) (k : ℕ) (c : Content) → slice_get ns at ≡ Some (Made (Array type) k)
    → length (fields_in (slice_get ns i) (slice_get (slice_set cs at c) i)) ≡ length (fields_in (slice_get ns i) (slice_get cs i))
other_place ns [] at i type k c there = refl
other_place [] (d ∷ cs) at i type k c there = refl
other_place (n ∷ ns) (d ∷ cs) zero zero type k c there = by n c d (some_equal n (Made (Array type) k) there) where
  some_equal : (x y : Name) → Some x ≡ Some y → x ≡ y
  some_equal x y e = cc

  none : (c : Content) → length (fields_in (Some (Made (Array type) k)) (Some c)) ≡ 0
  none c = refl

  by : (n : Name) (c d : Content) → n ≡ Made (Array type) k → length (fields_in (Some n) (Some c)) ≡ length (fields_in (Some n) (Some d))
  by n c d e = ap (λ (m : Name). length (fields_in (Some m) (Some c))) e ∙ none c ∙ sym (none d) ∙ sym (ap (λ (m : Name). length (fields_in (Some m) (Some d))) e)
other_place (n ∷ ns) (d ∷ cs) zero (suc i) type k c there = refl
other_place (n ∷ ns) (d ∷ cs) (suc at) zero type k c there = refl
other_place (n ∷ ns) (d ∷ cs) (suc at) (suc i) type k c there = other_place ns cs at i type k c there

stored_filled : (things : Things) (at : ℕ) (type : FieldType) (k : ℕ) (c : Content) (s : Setting) → slice_get things.names at ≡ Some (Made (Array type) k) → AreFilled things s → AreFilled (changed things at c) s
stored_filled things at type k c s there filled = record { each = λ i below. other_place things.names things.contents at i type k c there ∙ filled.each i below }

-- ---- the array

-- its name in the machine
abbrev named : World → FieldType → machine.Name
named w type = worlds.next_name w (type_name type)

-- the arrays that the machine has made by then, in a world that has the array with nothing in it
abbrev so_far : World → FieldType → List ℤ → ℕ → List Held × World
so_far w type inner i = in_turn (make_arrays (elements_of (type_name type)) inner) i (with_object w (named w type) (worlds.Array []))

-- those, and null for the rest
abbrev elements : World → FieldType → List ℤ → ℕ → ℕ → List Held
elements w type inner count i = (so_far w type inner i).0 ++ replicate (count - i) machine.Null

-- what the heap stands for then
record HasFilled (s : Setting) (others : Others) (w : World) (type : FieldType) (inner : List ℤ) (count i : ℕ) (x : Name) (values : List Value) (now : Things) : Type 0 where
  shares : Shares s now others (set_object (so_far w type inner i).1 (named w type) (worlds.Array (elements w type inner count i)))
  holds : map (held s.heads now.names) values ≡ elements w type inner count i
  name : machine_name s.heads x ≡ named w type

pub record Filling (before : Things) (type : FieldType) (inner : List ℤ) (count i at : ℕ) (now : Things) : Type 0 where
  place : at ≡ length before.names
  pub whole : length now.contents ≡ length now.names
  more : List Name
  names : now.names ≡ before.names ++ next_name before.names (Array type) ∷ more
  objects : List Content
  values : List Value
  contents : now.contents ≡ before.contents ++ Values values ∷ objects
  many : length values ≡ count
  settled : AllByRecursion (Settled (length now.names)) values
  stands : (s : Setting) (others : Others) (w : World) → AreDistinct s.heads → Shares s before others w → HasFilled s others w type inner count i (next_name before.names (Array type)) values now
  filled : (s : Setting) → KeepsFilled before now s

-- ---- at first

made_name : (s : Setting) (others : Others) (w : World) (things : Things) (type : FieldType) → AreDistinct s.heads → Shares s things others w → is_array_type type ≡ true
    → machine_name s.heads (next_name things.names (Array type)) ≡ named w type
made_name s others w things type distinct shares array =
    ap (λ (k : ℕ). machine.Made (type_name type) (suc k)) (sym (made_alike s.heads s.classes.fields things w.heap (Array type) shares.heap.objects (all_told s.heads distinct (Array type) things.names array shares.fit)))

module _ (before : Things) (type : FieldType) (count : ℕ) (array : is_array_type type ≡ true) (whole : length before.contents ≡ length before.names) where
  abbrev firsts : List Value
  firsts = replicate count (first_element type)

  abbrev after : Things
  after = (with_made before (Array type) (Values firsts)).1

  firsts_settled : (n : ℕ) → AllByRecursion (Settled n) firsts
  firsts_settled n = all_replicate (Settled n) count (first_element type) (settled_first n type)

  shares_first : (s : Setting) (others : Others) (w : World) → AreDistinct s.heads → Shares s before others w → Shares s after others (with_object w (named w type) (worlds.Array (map (held s.heads before.names) firsts)))
  shares_first s others w distinct shares = make_shares s before others w (Array type) (Values firsts) distinct shares array (firsts_settled (length before.names))

  -- with no arrays in it
  pub one_made : (inner : List ℤ) (size : ℤ) → count ≡ size_of size → inner ≡ [] → Makes before after type (size ∷ inner) (ref (length before.names))
  one_made inner size counted none s others w distinct shares =
      let bytes = type_name type in
      let x = next_name before.names (Array type) in
      let same : map (held s.heads before.names) firsts ≡ replicate (size_of size) (blank (held_in bytes)) =
      map_replicate (held s.heads before.names) count (first_element type) ∙ ap (λ (h : Held). replicate count h) (sym (blank_held s.heads before.names type array)) ∙ ap (λ (n : ℕ). replicate n (blank (held_in bytes))) counted in
      let is : make_arrays bytes (size ∷ inner) w ≡ (machine.Reference (named w type), with_object w (named w type) (worlds.Array (replicate (size_of size) (blank (held_in bytes))))) =
      ap (λ (l : List ℤ). make_arrays bytes (size ∷ l) w) none ∙ makes_one w bytes size in
      subst (IsMade s after others (ref (length before.names))) (sym is) (record {
        value = ap machine.Reference (ap (name_in s.heads) (last_one before.names x) ∙ made_name s others w before type distinct shares array);
        shares = subst (λ (l : List Held). Shares s after others (with_object w (named w type) (worlds.Array l))) same (shares_first s others w distinct shares);
      })

  -- to be filled
  pub filling_first : (inner : List ℤ) → 1 < type.dims → Filling before type inner count 0 (length before.names) after
  filling_first inner deep = record {
    place = refl;
    whole = let a = length-push before.names (next_name before.names (Array type)) in let b = length-push before.contents (Values firsts) in omega arith;
    more = [];
    names = refl;
    objects = [];
    values = firsts;
    contents = refl;
    many = length_of count (first_element type);
    settled = firsts_settled (length after.names);
    stands = λ s others w distinct shares.
        let a = named w type in
        let all : (names : List Name) → map (held s.heads names) firsts ≡ elements w type inner count 0 = λ names.
        map_replicate (held s.heads names) count (first_element type) ∙ ap (λ (v : Value). replicate count (held s.heads names v)) (null_first type deep)
        ∙ ap (λ (n : ℕ). replicate n machine.Null) (let n : count ≡ count - 0 = omega arith in n) in
        record {
          shares = subst (λ (v : World). Shares s after others v) (sym (set_new w a (worlds.Array []) (worlds.Array (elements w type inner count 0))))
              (subst (λ (l : List Held). Shares s after others (with_object w a (worlds.Array l))) (all before.names) (shares_first s others w distinct shares));
          holds = all after.names;
          name = made_name s others w before type distinct shares array;
        };
    filled = λ s. made_filled before type firsts s array;
  } where
    length_of : (n : ℕ) (v : Value) → length (replicate n v) ≡ n
    length_of zero v = refl
    length_of (suc n) v = ap suc (length_of n v)

-- ---- one more

module _ (before now : Things) (type : FieldType) (inner : List ℤ) (count i at : ℕ) (whole : length before.contents ≡ length before.names) (h : Filling before type inner count i at now) where
  abbrev x : Name
  x = next_name before.names (Array type)

  pub filling_extends : Extends before now
  filling_extends = record { names = (x ∷ h.more, h.names); contents = Values h.values ∷ h.objects; longer = h.contents; whole = h.whole }

  pub filling_within : at < length now.names
  filling_within = let p = h.place in let n = ap length h.names in let m = length-append before.names (x ∷ h.more) in omega arith

  -- the array, where more was made behind it
  module _ (mid : Things) (grown : Extends now mid) where
    named_there : slice_get mid.names at ≡ Some x
    named_there =
        ap (slice_get mid.names) h.place
        ∙ ap (λ (l : List Name). slice_get l (length before.names)) (grown.names.1 ∙ ap (λ (l : List Name). l ++ grown.names.0) h.names ∙ append_assoc before.names (x ∷ h.more) grown.names.0)
        ∙ get_at before.names x (h.more ++ grown.names.0)

    content_is : mid.contents ≡ before.contents ++ Values h.values ∷ (h.objects ++ grown.contents)
    content_is = grown.longer ∙ ap (λ (l : List Content). l ++ grown.contents) h.contents ∙ append_assoc before.contents (Values h.values ∷ h.objects) grown.contents

    place_content : at ≡ length before.contents
    place_content = h.place ∙ sym whole

    values_there : values_at mid at ≡ h.values
    values_there =
        ap (λ (n : ℕ). values_of (slice_get mid.contents n)) place_content ∙ ap (λ (l : List Content). values_of (slice_get l (length before.contents))) content_is
        ∙ ap values_of (get_at before.contents (Values h.values) (h.objects ++ grown.contents))

    pub within_there : i < count → i < length (values_at mid at)
    within_there below = let e = ap length values_there in let m = h.many in omega arith

    more_names : length now.names ≤ length mid.names
    more_names = let e = ap length grown.names.1 in let n = length-append now.names grown.names.0 in omega arith

    abbrev with_array : Ref → Things
    with_array array = changed mid at (Values (slice_set (values_at mid at) i (Pointer array)))

    abbrev values_then : Ref → List Value
    values_then array = slice_set h.values i (Pointer array)

    then_is : (array : Ref) → with_array array ≡ changed mid at (Values (values_then array))
    then_is array = ap (λ (vs : List Value). changed mid at (Values (slice_set vs i (Pointer array)))) values_there

    settled_then : (array : Ref) → array.0 < length mid.names → AllByRecursion (Settled (length mid.names)) (values_then array)
    settled_then array known =
        all_set (Settled (length mid.names)) h.values i (Pointer array)
        (all_more (Settled (length now.names)) (Settled (length mid.names)) (settled_more (length now.names) (length mid.names) more_names) h.values h.settled) (lt-ltb array.0 (length mid.names) known)

    module _ (array : Ref) (known : array.0 < length mid.names) (deep : 1 < type.dims) (makes : Makes now mid (element_type type) inner array) (below : i < count)
        (s : Setting) (others : Others) (w : World) (distinct : AreDistinct s.heads) (shares : Shares s before others w) where
      abbrev bytes : List ℕ
      bytes = elements_of (type_name type)

      abbrev one : World → Held × World
      one = make_arrays bytes inner

      abbrev was : List Held × World
      was = so_far w type inner i

      abbrev made_then : Held × World
      made_then = one was.1

      was_filled : HasFilled s others w type inner count i x h.values now
      was_filled = h.stands s others w distinct shares

      -- the array doesn't count for those in it
      beside : one (set_object was.1 (named w type) (worlds.Array (elements w type inner count i))) ≡ (made_then.0, set_object made_then.1 (named w type) (worlds.Array (elements w type inner count i)))
      beside = makes_beside bytes inner (type_name type) _ was.1 (worlds.Array (elements w type inner count i))
          (turn_beside bytes inner (type_name type) _ i (with_object w (named w type) (worlds.Array [])) (next_there w (type_name type) (worlds.Array [])))

      made_there : IsMade s mid others array (made_then.0, set_object made_then.1 (named w type) (worlds.Array (elements w type inner count i)))
      made_there = subst (IsMade s mid others array) (ap (λ (b : List ℕ). make_arrays b inner (set_object was.1 (named w type) (worlds.Array (elements w type inner count i)))) (sym (element_name type deep)) ∙ beside)
          (makes s others (set_object was.1 (named w type) (worlds.Array (elements w type inner count i))) distinct was_filled.shares)

      -- what the array holds then
      holds_then : map (held s.heads mid.names) (values_then array) ≡ (was.0 ++ made_then.0 ∷ []) ++ replicate (count - suc i) machine.Null
      holds_then =
          let f = held s.heads mid.names in
          let stay : map f h.values ≡ elements w type inner count i =
          ap (λ (l : List Name). map (held s.heads l) h.values) grown.names.1 ∙ all_held_stay s.heads now.names grown.names.0 h.values h.settled ∙ was_filled.holds in
          map_set f h.values i (Pointer array) ∙ ap (λ (l : List Held). slice_set l i (f (Pointer array))) stay
          ∙ ap (λ (v : Held). slice_set (elements w type inner count i) i v) made_there.value
          ∙ ap (λ (l : List Held). slice_set (was.0 ++ l) i made_then.0) (left_next count i machine.Null below)
          ∙ ap (λ (n : ℕ). slice_set (was.0 ++ machine.Null ∷ replicate (count - suc i) machine.Null) n made_then.0) (sym (turn_many one i (with_object w (named w type) (worlds.Array []))))
          ∙ set_at was.0 machine.Null made_then.0 (replicate (count - suc i) machine.Null)
          ∙ sym (append_assoc was.0 (made_then.0 ∷ []) (replicate (count - suc i) machine.Null))

      next_is : so_far w type inner (suc i) ≡ (was.0 ++ made_then.0 ∷ [], made_then.1)
      next_is = turn_next one i (with_object w (named w type) (worlds.Array []))

      elements_then : elements w type inner count (suc i) ≡ (was.0 ++ made_then.0 ∷ []) ++ replicate (count - suc i) machine.Null
      elements_then = ap (λ (p : List Held × World). p.0 ++ replicate (count - suc i) machine.Null) next_is

      shares_then : Shares s (changed mid at (Values (values_then array))) others (set_object made_then.1 (named w type) (worlds.Array (map (held s.heads mid.names) (values_then array))))
      shares_then =
          let o = worlds.Array (map (held s.heads mid.names) (values_then array)) in
          let stored = store_shares s mid others (set_object made_then.1 (named w type) (worlds.Array (elements w type inner count i))) at (Array type) _ (Values (values_then array)) distinct made_there.shares named_there (settled_then array known) in
          subst (Shares s (changed mid at (Values (values_then array))) others) (
          ap (λ (a : machine.Name). set_object (set_object made_then.1 (named w type) (worlds.Array (elements w type inner count i))) a o) was_filled.name
          ∙ set_twice made_then.1 (named w type) (worlds.Array (elements w type inner count i)) o
          ) stored

      filled_then : HasFilled s others w type inner count (suc i) x (values_then array) (changed mid at (Values (values_then array)))
      filled_then = record {
        shares = subst (Shares s (changed mid at (Values (values_then array))) others) (
            ap (λ (l : List Held). set_object made_then.1 (named w type) (worlds.Array l)) (holds_then ∙ sym elements_then)
            ∙ ap (λ (v : World). set_object v (named w type) (worlds.Array (elements w type inner count (suc i)))) (sym (ap (λ (p : List Held × World). p.1) next_is))
            ) shares_then;
        holds = holds_then ∙ sym elements_then;
        name = was_filled.name;
      }

    filling_then : (array : Ref) → array.0 < length mid.names → 1 < type.dims → Makes now mid (element_type type) inner array → ((s : Setting) → KeepsFilled now mid s) → i < count
        → Filling before type inner count (suc i) at (changed mid at (Values (values_then array)))
    filling_then array known deep makes filled below = record {
      place = h.place;
      whole = length_set mid.contents at (Values (values_then array)) ∙ grown.whole;
      more = h.more ++ grown.names.0;
      names = grown.names.1 ∙ ap (λ (l : List Name). l ++ grown.names.0) h.names ∙ append_assoc before.names (x ∷ h.more) grown.names.0;
      objects = h.objects ++ grown.contents;
      values = values_then array;
      contents = ap (λ (l : List Content). slice_set l at (Values (values_then array))) content_is ∙ ap (λ (n : ℕ). slice_set (before.contents ++ Values h.values ∷ (h.objects ++ grown.contents)) n (Values (values_then array))) place_content
          ∙ set_at before.contents (Values h.values) (Values (values_then array)) (h.objects ++ grown.contents);
      many = length_set h.values i (Pointer array) ∙ h.many;
      settled = settled_then array known;
      stands = λ s others w distinct shares. filled_then array known deep makes below s others w distinct shares;
      filled = λ s bare all were. stored_filled mid at type _ (Values (values_then array)) s named_there (filled s bare h.whole (h.filled s bare all were));
    }

    pub filling_next : (array : Ref) (n : ℕ) → array.0 < length mid.names → 1 < type.dims → Makes now mid (element_type type) inner array → ((s : Setting) → KeepsFilled now mid s) → i < count → n ≡ suc i
        → Filling before type inner count n at (with_array array)
    filling_next array n known deep makes filled below next =
        subst (λ (m : ℕ). Filling before type inner count m at (with_array array)) (sym next)
        (subst (Filling before type inner count (suc i) at) (sym (then_is array)) (filling_then array known deep makes filled below))

-- ---- in the end

pub all_filled : (before now : Things) (type : FieldType) (size : ℤ) (inner : List ℤ) (count i at : ℕ) → Filling before type inner count i at now → i ≡ count → count ≡ size_of size → Makes before now type (size ∷ inner) (ref at)
all_filled before now type size inner count i at h done counted s others w distinct shares =
    let x = next_name before.names (Array type) in
    let n = size_of size in
    let a = named w type in
    let is = h.stands s others w distinct shares in
    let all : so_far w type inner i ≡ so_far w type inner n = ap (so_far w type inner) (done ∙ counted) in
    let full : elements w type inner count i ≡ (so_far w type inner n).0 =
    ap (λ (m : ℕ). (so_far w type inner i).0 ++ replicate m machine.Null) (let m : count - i ≡ 0 = omega arith in m) ∙ append-nil (so_far w type inner i).0 ∙ ap (λ (p : List Held × World). p.0) all in
    record {
      value = ap machine.Reference (
          ap (λ (m : ℕ). name_in s.heads (slice_get now.names m)) h.place ∙ ap (λ (l : List Name). name_in s.heads (slice_get l (length before.names))) h.names
          ∙ ap (name_in s.heads) (get_at before.names x h.more) ∙ is.name
          );
      shares = subst (Shares s now others) (
          ap (λ (p : List Held × World). set_object p.1 a (worlds.Array (elements w type inner count i))) all ∙ ap (λ (l : List Held). set_object (so_far w type inner n).1 a (worlds.Array l)) full
          ) is.shares;
    }

pub all_kept : (before now : Things) (type : FieldType) (inner : List ℤ) (count i at : ℕ) → Filling before type inner count i at now → (s : Setting) → KeepsFilled before now s
all_kept before now type inner count i at h = h.filled
