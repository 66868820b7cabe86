-- What searches and selections come to.
use Rattle.std.specs.Prelude.{◌≡◌, ℕ, Bool, true, false, if◌then◌else◌, nat_lt, List, map, length, Option, Some, None, refl}
use Rattle.std.proofs.Common.{sym, ◌∙◌, ap, subst}
use Rattle.aj_names.specs.declared.ids.MethodId.{MethodId}
use Rattle.class_file.specs.Pool.{Reference}
use Rattle.class_world.specs.Tables.{Known}
use Rattle.class_machine.specs.ClassFiles.{Place, class_code}
use Rattle.class_machine.specs.Classes.{Method, member_text}
use Rattle.class_machine.specs.Effect as definition
use Rattle.class_machine.specs.Events as events
use Rattle.class_machine.specs.Turn as turns
use Rattle.class_machine.specs.Turn.{Link, Free, Refused, Needs, Entry, missing_member, instance_method, static_method, entry_fits, is_frameless, stops, linked, with_method, runs_selected, purpose_of}
use Rattle.class_machine.specs.Values.{Held, Name as Object}
use Rattle.class_machine.specs.World.{World}
use Rattle.machine_values.specs.declared.frames.Frame.{Frame}
use Rattle.machine_values.specs.declared.names.Name.{Name}
use Rattle.machine_values.specs.declared.values.Ref.{Ref}
use Rattle.machine_values.specs.declared.values.Value.{Value}
use Rattle.machine_values.specs.Standing.{held}
use Rattle.machine_values.specs.Things.{Things}
use Rattle.machine_requests.specs.Telling.{AreFit}
use Rattle.machine_steps.specs.Programs.{IsMachine}
use Rattle.machine_steps.specs.Runs.{IsMethod}
use Rattle.machine_invocations.specs.Methods.{classes_in, Sees, Finds, IsFound}
use Rattle.machine_invocations.specs.Standards.{machine_of}
use Rattle.machine_invokes.specs.declared.choosing.Choice.{Choice}
use Rattle.machine_invokes.specs.declared.choosing.Choice.TheVariants.{Missing, Breaks, Runs}
use Rattle.machine_invokes.specs.Choosing.{RunsMethod, FindsOne, FindsInstance, HasLocals, seen_as, result_room, HasRoom, LacksRoom, goes_by, call_link, IsRoomy, IsCalled, static_link, ChoosesStatic, call_turn, by_null, null_turn, ChoosesNull, object_there, ByChoice, found_turn, ChoosesFrom, ComesTo, ChoosesOn}
use Rattle.machine_invokes.specs.Selecting.{ServesAs, Selects}

module _ (k : Known) (g : Frame) where
  -- ---- a static method that is called

  module _ (given : List Value) (number : ℕ) where
    module _ (frameless : Bool) (is : (m : Method) → Sees k number m → frameless ≡ is_frameless m) where
      abbrev by_room : (ℕ → Reference) → (ℕ → Reference) → List Name → Reference → Method → Link → Bool → Bool → Link
      by_room fields methods names r m onward a b =
          if a then (if b then onward else Refused events.Broken)
          else entry_fits (class_code k.files) (classes_in k) r (map (held k.heads names) given) onward ((class_code k.files).method m.name)

      pub frameless_called : (has : Bool) (choice : Choice) → frameless ≡ true → HasRoom k g number has → ((r : Reference) (onward : Link) → (if has then onward else Refused events.Broken) ≡ goes_by k g r choice onward) → IsRoomy k g number choice → IsCalled k g given number choice
      frameless_called has choice holds room goes roomy = record {
        called = λ r. record {
          link = λ fields methods names m onward machine sees.
              ap (λ (a : Bool). by_room fields methods names r m onward a (result_room k g fields methods names m)) (sym (is m sees) ∙ holds)
              ∙ ap (λ (b : Bool). if b then onward else Refused events.Broken) (room fields methods names m sees) ∙ goes r onward;
        };
        roomy = roomy;
      }

      framed : frameless ≡ false → (r : Reference) (fields methods : ℕ → Reference) (names : List Name) (m : Method) (onward : Link) → Sees k number m
          → call_link k g fields methods names r given m onward ≡ entry_fits (class_code k.files) (classes_in k) r (map (held k.heads names) given) onward ((class_code k.files).method m.name)
      framed isnt r fields methods names m onward sees = ap (λ (a : Bool). by_room fields methods names r m onward a (result_room k g fields methods names m)) (sym (is m sees) ∙ isnt)

      pub codeless_called : frameless ≡ false → HasLocals k number given None → IsCalled k g given number Missing
      codeless_called isnt none = record {
        called = λ r. record {
          link = λ fields methods names m onward machine sees.
              framed isnt r fields methods names m onward sees
              ∙ ap (entry_fits (class_code k.files) (classes_in k) r (map (held k.heads names) given) onward) (none fields methods m machine sees);
        };
        roomy = tt;
      }

      pub coded_called : (fit : Bool) (choice : Choice) → frameless ≡ false → HasLocals k number given (Some fit) → ((r : Reference) (onward : Link) → (if fit then onward else Refused events.Broken) ≡ goes_by k g r choice onward) → IsRoomy k g number choice → IsCalled k g given number choice
      coded_called fit choice isnt has goes roomy = record {
        called = λ r. record {
          link = λ fields methods names m onward machine sees.
              let takes = has fields methods names m machine sees in
              framed isnt r fields methods names m onward sees
              ∙ ap (entry_fits (class_code k.files) (classes_in k) r (map (held k.heads names) given) onward) takes.code
              ∙ ap (λ (b : Bool). if b then onward else Refused events.Broken) takes.fits ∙ goes r onward;
        };
        roomy = roomy;
      }

  -- ---- the search for a static method

  module _ (r : Reference) (given : List Value) where
    link_by : (fields methods : ℕ → Reference) (names : List Name) (found : Option Method) → (classes_in k).method r ≡ found
        → static_link k g fields methods names r given ≡ static_method (class_code k.files) (classes_in k) (seen_as k g fields methods names) (seen_as k g fields methods names).content r (map (held k.heads names) given) found
    link_by fields methods names found e =
        ap (static_method (class_code k.files) (classes_in k) (seen_as k g fields methods names) (seen_as k g fields methods names).content r (map (held k.heads names) given)) e

    abbrev if_static : (ℕ → Reference) → (ℕ → Reference) → List Name → Method → Bool → Link
    if_static fields methods names m b = if b then call_link k g fields methods names r given m (Needs m.name.class) else missing_member r

    pub none_static : (classes_in k).method r ≡ None → ChoosesStatic k g r given Missing
    none_static none fields methods names is = link_by fields methods names None none

    pub instance_static : (number : ℕ) (static : Bool) → IsFound k number ((classes_in k).method r) → ((m : Method) → Sees k number m → static ≡ m.is_static) → static ≡ false → ChoosesStatic k g r given Missing
    instance_static number static found is isnt fields methods names machine =
        link_by fields methods names (Some found.method) found.is ∙ ap (if_static fields methods names found.method) (sym (is found.method found.sees) ∙ isnt)

    pub called_static : (number : ℕ) (static : Bool) (choice : Choice) → IsFound k number ((classes_in k).method r) → ((m : Method) → Sees k number m → static ≡ m.is_static) → static ≡ true → IsCalled k g given number choice → ChoosesStatic k g r given choice
    called_static number static choice found is holds called = by choice called where
      goes : (x : Choice) → IsCalled k g given number x → (fields methods : ℕ → Reference) (names : List Name) → IsMachine k (machine_of k fields methods)
          → static_link k g fields methods names r given ≡ goes_by k g r x (Needs found.method.name.class)
      goes x so fields methods names machine =
          link_by fields methods names (Some found.method) found.is ∙ ap (if_static fields methods names found.method) (sym (is found.method found.sees) ∙ holds)
          ∙ (so.called r).link fields methods names found.method (Needs found.method.name.class) machine found.sees

      by : (x : Choice) → IsCalled k g given number x → ChoosesStatic k g r given x
      by Missing so = goes Missing so
      by Breaks so = goes Breaks so
      by (Runs method) so = record {
        method = found.method;
        sees = subst (λ n. Sees k n found.method) (sym so.roomy.0) found.sees;
        found = found.is;
        link = goes (Runs method) so;
        roomy = subst (λ n. LacksRoom k g n false) (sym so.roomy.0) so.roomy.1;
      }

  pub called_method : (given : List Value) (number : ℕ) (choice : Choice) → IsMethod k number → IsCalled k g given number choice → RunsMethod k choice
  called_method given number Missing is called = tt
  called_method given number Breaks is called = tt
  called_method given number (Runs method) is called = subst (IsMethod k) (sym called.roomy.0) is

-- ---- the search for a method of objects

module _ (k : Known) (r : Reference) where
  abbrev link_of : Option Method → Link
  link_of found = instance_method (class_code k.files) (classes_in k) r found

  pub none_instance : (classes_in k).method r ≡ None → FindsInstance k r None
  none_instance none = ap link_of none

  pub static_instance : (number : ℕ) (static : Bool) → IsFound k number ((classes_in k).method r) → ((m : Method) → Sees k number m → static ≡ m.is_static) → static ≡ true → FindsInstance k r None
  static_instance number static found is holds = ap link_of found.is ∙ ap (λ (b : Bool). if b then missing_member r else Free) (sym (is found.method found.sees) ∙ holds)

  pub one_instance : (number : ℕ) (static : Bool) → IsFound k number ((classes_in k).method r) → ((m : Method) → Sees k number m → static ≡ m.is_static) → static ≡ false → FindsOne k r number
  one_instance number static found is isnt = record { method = found.method; sees = found.sees; found = found.is; instance = sym (is found.method found.sees) ∙ isnt }

  free : (number : ℕ) (one : FindsOne k r number) → link_of ((classes_in k).method r) ≡ Free
  free number one = ap link_of one.found ∙ ap (λ (b : Bool). if b then missing_member r else Free) one.instance

  module _ (g : Frame) where
    module _ (fields methods : ℕ → Reference) (names : List Name) (w : World) (special : Bool) (a : Option Object) (given : List Held) where
      abbrev f : turns.Frame Place
      f = seen_as k g fields methods names

      pub missing_turn : FindsInstance k r None → call_turn k g fields methods names w special r a given ≡ stops (events.Unresolved (member_text r))
      missing_turn none = ap (linked (class_code k.files) (classes_in k) f w (definition.CallOn special r a given f.content)) none

      pub found_on : (number : ℕ) (one : FindsOne k r number) → call_turn k g fields methods names w special r a given ≡ turns.call_on (class_code k.files) (classes_in k) f f.content w special r one.method given a
      found_on number one =
          ap (linked (class_code k.files) (classes_in k) f w (definition.CallOn special r a given f.content)) (free number one)
          ∙ ap (λ (o : Option Method). with_method (class_code k.files) (classes_in k) o (λ m. turns.call_on (class_code k.files) (classes_in k) f f.content w special r m given a)) one.found

    -- ---- on null

    pub missing_null : FindsInstance k r None → ChoosesNull k g r Missing
    missing_null none fields methods names w special given = missing_turn fields methods names w special None given none

    pub found_null : (number : ℕ) (lacks : Bool) (choice : Choice) → FindsOne k r number → LacksRoom k g number lacks
        → ((fields methods : ℕ → Reference) (names : List Name) (w : World) → (if lacks then stops events.Broken else null_turn k g fields methods names w) ≡ by_null k g fields methods names w r choice) → ChoosesNull k g r choice
    found_null number lacks choice one room goes fields methods names w special given =
        found_on fields methods names w special None given number one
        ∙ ap (λ (b : Bool). if b then stops events.Broken else null_turn k g fields methods names w) (room fields methods names one.method one.sees) ∙ goes fields methods names w

    -- ---- on an object

    pub missing_on : (heap : Things) (special : Bool) (at : Ref) → FindsInstance k r None → ChoosesOn k g heap special at r Missing
    missing_on heap special at none fields methods is fit known w given = missing_turn fields methods heap.names w special (Some (object_there k g heap special at)) given none

    pub chosen_on : (heap : Things) (special : Bool) (at : Ref) (number : ℕ) (choice : Choice) → FindsOne k r number → ChoosesFrom k g heap special at number choice → ChoosesOn k g heap special at r choice
    chosen_on heap special at number choice one chooses fields methods is fit known = by choice (chooses fields methods one.method is fit known one.sees) where
      onto : (w : World) (given : List Held) → call_turn k g fields methods heap.names w special r (Some (object_there k g heap special at)) given ≡ found_turn k g heap special at one.method fields methods w r given
      onto w given = found_on fields methods heap.names w special (Some (object_there k g heap special at)) given number one

      by : (x : Choice) → ByChoice k g heap special at (found_turn k g heap special at one.method) fields methods x → ComesTo k g heap special at r fields methods x
      by Missing goes = λ w given. onto w given ∙ goes w r given
      by Breaks goes = λ w given. onto w given ∙ goes w r given
      by (Runs method) goes = record { method = goes.method; sees = goes.sees; turn = λ w given. onto w given ∙ goes.turn w r given; roomy = goes.roomy }

-- ---- the selection

module _ (k : Known) (g : Frame) (heap : Things) (special : Bool) (at : Ref) (number : ℕ) where
  abbrev seen : (ℕ → Reference) → (ℕ → Reference) → turns.Frame Place
  seen fields methods = seen_as k g fields methods heap.names

  abbrev selects : (ℕ → Reference) → (ℕ → Reference) → World → Reference → List Held → Option Method → turns.Turn Place
  selects fields methods w r given found =
      runs_selected (class_code k.files) (classes_in k) (purpose_of (class_code k.files) (classes_in k) special r) (seen fields methods) (seen fields methods).content w r (object_there k g heap special at) given found

  pub unknown_breaks : nat_lt at.0 (length heap.names) ≡ false → ChoosesFrom k g heap special at number Breaks
  unknown_breaks isnt fields methods found is fit known sees = absurd (let e : true ≡ false = sym known ∙ isnt in cc)

  serving : (serves : Bool) → ServesAs k heap at number serves → (fields methods : ℕ → Reference) (found : Method) → IsMachine k (machine_of k fields methods) → AreFit (length k.heads) heap.names → Sees k number found → (w : World) (r : Reference) (given : List Held)
      → found_turn k g heap special at found fields methods w r given
      ≡ (if serves then selects fields methods w r given (turns.selection (class_code k.files) (classes_in k) (seen fields methods) special (object_there k g heap special at) found) else stops events.Broken)
  serving serves so fields methods found is fit sees w r given =
      ap (λ (b : Bool). if b then selects fields methods w r given (turns.selection (class_code k.files) (classes_in k) (seen fields methods) special (object_there k g heap special at) found) else stops events.Broken)
      (so fields methods found is fit sees)

  pub unserving_breaks : (serves : Bool) → ServesAs k heap at number serves → serves ≡ false → ChoosesFrom k g heap special at number Breaks
  unserving_breaks serves so isnt fields methods found is fit known sees w r given =
      serving serves so fields methods found is fit sees w r given
      ∙ ap (λ (b : Bool). if b then selects fields methods w r given (turns.selection (class_code k.files) (classes_in k) (seen fields methods) special (object_there k g heap special at) found) else stops events.Broken) isnt

  module _ (serves : Bool) (so : ServesAs k heap at number serves) (holds : serves ≡ true) where
    selecting : (fields methods : ℕ → Reference) (found : Method) → IsMachine k (machine_of k fields methods) → AreFit (length k.heads) heap.names → Sees k number found → (w : World) (r : Reference) (given : List Held)
        → found_turn k g heap special at found fields methods w r given ≡ selects fields methods w r given (turns.selection (class_code k.files) (classes_in k) (seen fields methods) special (object_there k g heap special at) found)
    selecting fields methods found is fit sees w r given =
        serving serves so fields methods found is fit sees w r given
        ∙ ap (λ (b : Bool). if b then selects fields methods w r given (turns.selection (class_code k.files) (classes_in k) (seen fields methods) special (object_there k g heap special at) found) else stops events.Broken) holds

    pub unselected_missing : (id : Option MethodId) → id ≡ None → Selects k heap g.method.0 special at number id → ChoosesFrom k g heap special at number Missing
    unselected_missing id none finds fields methods found is fit known sees w r given =
        selecting fields methods found is fit sees w r given
        ∙ ap (selects fields methods w r given) (subst (λ (o : Option MethodId). Finds k o (turns.selection (class_code k.files) (classes_in k) (seen fields methods) special (object_there k g heap special at) found)) none (finds fields methods (seen fields methods) found is fit refl sees))

    module _ (method : MethodId) (finds : Selects k heap g.method.0 special at number (Some method)) where
      one : (fields methods : ℕ → Reference) (found : Method) → IsMachine k (machine_of k fields methods) → AreFit (length k.heads) heap.names → Sees k number found
          → IsFound k method.0 (turns.selection (class_code k.files) (classes_in k) (seen fields methods) special (object_there k g heap special at) found)
      one fields methods found is fit sees = finds fields methods (seen fields methods) found is fit refl sees

      pub selected_breaks : (lacks : Bool) → LacksRoom k g method.0 lacks → lacks ≡ true → ChoosesFrom k g heap special at number Breaks
      selected_breaks lacks room holds' fields methods found is fit known sees w r given =
          let o = one fields methods found is fit sees in
          selecting fields methods found is fit sees w r given ∙ ap (selects fields methods w r given) o.is
          ∙ ap (λ (b : Bool). if b then stops events.Broken else turns.by_kind (class_code k.files) (classes_in k) (purpose_of (class_code k.files) (classes_in k) special r) (seen fields methods) (seen fields methods).content w r o.method (Some (object_there k g heap special at)) given)
          (room fields methods heap.names o.method o.sees ∙ holds')

      pub selected_runs : (lacks : Bool) → LacksRoom k g method.0 lacks → lacks ≡ false → ChoosesFrom k g heap special at number (Runs method)
      selected_runs lacks room isnt fields methods found is fit known sees =
          let o = one fields methods found is fit sees in
          record {
            method = o.method;
            sees = o.sees;
            turn = λ w r given. selecting fields methods found is fit sees w r given ∙ ap (selects fields methods w r given) o.is;
            roomy = λ fields' methods' names m sees'. room fields' methods' names m sees' ∙ isnt;
          }
