-- From every entry method the written classes run as the join point machine does on the classes and the aspect.
use Rattle.std.proofs.Common.{◌≡◌, ◌≢◌, ℕ, Bool, true, ◌&&◌, bytes_eq, IsTrue, inr, List, [], ◌∷◌, ◌++◌, length, map, Option, Some, None, refl, sym, ap, ap₂, ◌∙◌, subst, subst₂, option_and_then, if◌then◌else◌}
use Rattle.std.specs.Option.{option_map, unwrap_or}
use Rattle.std.specs.List.{list_any, AllByRecursion, AllZip}
use Rattle.std.proofs.lemmas.Bool.{and_parts}
use Rattle.std.proofs.lemmas.List.{length-map, map-append}
use Rattle.std.proofs.lemmas.Option.{same_Some}
use Rattle.event_machine.specs.Outcome.{Outcome, Ended}
use Rattle.event_machine.specs.Equivalent.{Equivalent}
use Rattle.event_machine.specs.Follows.{no_waits}
use Rattle.event_machine.specs.Laws.{simulated, locked}
use Rattle.class_file.specs.declared.types.ClassFile.{ClassFile}
use Rattle.class_file.specs.FirstForm.{is_printable_text, is_identifier, is_own_method, method_names, no_arguments}
use Rattle.class_file.specs.Pool.{Reference}
use Rattle.class_heads.specs.declared.types.ClassHead.{ClassHead}
use Rattle.class_heads.specs.Heads.{head_of, method_head}
use Rattle.class_heads.specs.Searches.{is_private}
use Rattle.boot_library.specs.Heads.{library_heads}
use Rattle.class_machine.specs.Values.{content}
use Rattle.class_machine.specs.Events.{Event, Ending, Answer, Unresolved, Broken, is_broken}
use Rattle.class_machine.specs.Classes.{reference, member_text, Method, Classes}
use Rattle.class_machine.specs.World.{begin}
use Rattle.class_machine.specs.Turn.{Entry, Code, Frame, filled, pending}
use Rattle.class_machine.specs.Machine.{Nothing, State}
use Rattle.class_machine.specs.Start.{EntryArgument, first_world, entry_among, state, over, at_entry, start}
use Rattle.class_machine.specs.Declarations.{method_found}
use Rattle.class_machine.specs.ClassFiles.{Place, MethodCode, place_in, entry_of, file_named, code_declared, method_code, field_constant, class_code}
use Rattle.class_machine.specs.Run.{class_table, class_step, class_start}
use Rattle.jp_model.specs.declared.first_aspect.FirstAspect.{FirstAspect}
use Rattle.jp_model.specs.AspectText.{aspect_of}
use Rattle.jp_model.specs.Aspects.{Aspect}
use Rattle.jp_model.specs.JoinPointMachine.{as_activations, aspect_step}
use Rattle.jp_model.specs.Headline.{methods_of, entry_in, RunsAlike, Behaves}
use Rattle.woven_calls.specs.Woven.{aspect_class}
use Rattle.woven_calls.specs.Laws.Pools.{found_through}
use Rattle.woven_calls.specs.Laws.Tables.{own_found, Plain, Knows, knows, given_method}
use Rattle.woven_calls.specs.Laws.Turns.{frame, least, pending_none}
use Rattle.woven_calls.specs.Laws.Carries.{SameEntry}
use Rattle.woven_calls.specs.Laws.Steps.{carried}
use Rattle.woven_calls.specs.Laws.AspectClass.{advice_reference, no_array, not_empty, head_found, speaks}
use Rattle.woven_calls.specs.Laws.Forms.{same_bytes}
use Rattle.woven_calls.specs.Laws.Places.{Callable, At, carries}
use Rattle.woven_calls.specs.Laws.Lookups.{BothOrNone, both_weaker, IsCarriedCode, IsCarriedClass, declared_pair, file_is_named, classes_found, written_named, aspect_not_named}
use Rattle.woven_calls.specs.Laws.Methods.{declared, found_as, entry_found}

-- ---- the first state

module _ {P : Type 0} (code : Code P) (cs : Classes) (known : Knows cs) (r : Reference) (private : Bool) (answers : List Answer) where
  -- with the entry's frame alone, or over where the method has no code
  abbrev pub started : Option (Entry P) → State P
  started None = over code cs (first_world answers) (Unresolved (member_text r))
  started (Some e) = state code cs (frame r e.start (content [] (filled e.locals [])) e.room ∷ []) (begin cs (first_world answers) r.class) Nothing

  pub start_is : (o : Option (Entry P)) → code.method r ≡ o → start code cs answers (own_found r private) [] ≡ started o
  start_is None e = ap (at_entry code cs (own_found r private) [] (first_world answers)) e
  start_is (Some e) is =
      let f = frame r e.start (content [] (filled e.locals [])) e.room in
      let w = begin cs (first_world answers) r.class in
      ap (at_entry code cs (own_found r private) [] (first_world answers)) is
      ∙ ap (λ (b : Bool). if b then state code cs (pending code cs (first_world answers) r.class ++ f ∷ []) w Nothing else over code cs (first_world answers) Broken) (least e.locals)
      ∙ ap (λ (fs : List (Frame P)). state code cs (fs ++ f ∷ []) w Nothing) (pending_none code cs known (first_world answers) r.class)

-- runs that are over with the same ending
ended_both : {S T : Type 0} (first : S → Outcome Event Ending S) (second : T → Outcome Event Ending T) (s : S) (t : T) (ending : Ending) → first s ≡ Ended ending → second t ≡ Ended ending → Equivalent is_broken first s second t
ended_both {S} {T} first second s t ending e e' =
    let Here : S → T → Type 0 = λ s' t'. (s' ≡ s) × (t' ≡ t) in
    simulated is_broken first second Here no_waits
    (λ s' t' said here. locked is_broken first second Here no_waits s' t' said (rw (here.0, here.1, e, e') (inr refl))) s t (refl, refl)

-- ---- the classes

-- the heads of the written classes are those of the classes
heads_same : (a : FirstAspect) (cs ws : List ClassFile) → AllZip (IsCarriedClass a) cs ws → map head_of ws ≡ map head_of cs
heads_same a [] [] all = refl
heads_same a [] (w ∷ ws) all = absurd all
heads_same a (c ∷ cs) [] all = absurd all
heads_same a (c ∷ cs) (w ∷ ws) all = ap₂ (λ h hs. h ∷ hs) all.0.head (heads_same a cs ws all.1)

plain_more : (hs : List ClassHead) (h : ClassHead) → AllByRecursion Plain hs → Plain h → AllByRecursion Plain (hs ++ h ∷ [])
plain_more [] h all p = (p, tt)
plain_more (x ∷ hs) h all p = (all.0, plain_more hs h all.1 p)

module _ (a : FirstAspect) (aspect : IsTrue (is_identifier a.name)) (printable : IsTrue (is_printable_text a.text)) (before woven : List ClassFile) (h : AllZip (IsCarriedClass a) before woven) (plain : AllByRecursion Plain (map head_of before)) where
  abbrev after : List ClassFile
  after = woven ++ aspect_class a ∷ []

  abbrev cs : Classes
  cs = class_table before

  abbrev cs' : Classes
  cs' = class_table after

  abbrev old : Code Place
  old = class_code before

  abbrev new : Code Place
  new = class_code after

  abbrev Places : Place → Place → Type 0
  Places = At a before after

  known : Knows cs
  known = knows (map head_of before) plain (length before) (sym (length-map before head_of)) (field_constant before)

  plain' : AllByRecursion Plain (map head_of after)
  plain' =
      let aspect_plain : Plain (head_of (aspect_class a)) = record { identifier = aspect; silent = refl } in
      subst (AllByRecursion Plain) (sym (map-append head_of woven (aspect_class a ∷ []) ∙ ap (λ hs. hs ++ head_of (aspect_class a) ∷ []) (heads_same a before woven h)))
      (plain_more (map head_of before) (head_of (aspect_class a)) plain aspect_plain)

  known' : Knows cs'
  known' = knows (map head_of after) plain' (length after) (sym (length-map after head_of)) (field_constant after)

  -- ---- methods

  -- a method of the classes, and the method that is written for it
  record IsPair (r : Reference) (m m' : MethodCode) : Type 0 where
    c : ClassFile
    w : ClassFile
    class : IsCarriedClass a c w
    found : file_named before r.class ≡ Some c
    found' : file_named after r.class ≡ Some w
    code : IsCarriedCode a class.own (method_names c) m m'

  method_pair : (r : Reference) → r.class ≢ a.name → BothOrNone (IsPair r) (method_code before r) (method_code after r)
  method_pair r apart = go (file_named before r.class) (file_named after r.class) refl refl (classes_found a r.class apart before woven h)
    where
      go : (o o' : Option ClassFile) → file_named before r.class ≡ o → file_named after r.class ≡ o' → BothOrNone (IsCarriedClass a) o o' → BothOrNone (IsPair r) (option_and_then (code_declared r.member) o) (option_and_then (code_declared r.member) o')
      go None None e e' x = tt
      go (Some c) (Some w) e e' x =
          both_weaker (IsCarriedCode a x.own (method_names c)) (IsPair r) (λ m m' code. record { c = c; w = w; class = x; found = e; found' = e'; code = code }) (code_declared r.member c) (code_declared r.member w) (declared_pair a c w x r.member)
      go None (Some w) e e' x = absurd x
      go (Some c) None e e' x = absurd x

  -- the class's own name
  own_is : (name : List ℕ) (c w : ClassFile) (x : IsCarriedClass a c w) → file_named before name ≡ Some c → x.own ≡ name
  own_is name c w x found = same_Some x.own name (sym x.named ∙ file_is_named before name c found)

  -- the name in the head
  head_name : (c w : ClassFile) (x : IsCarriedClass a c w) → (head_of c).name ≡ x.own
  head_name c w x = ap (λ (o : Option (List ℕ)). unwrap_or o []) x.named

  -- both machines find the class's own methods
  called : (name : List ℕ) (c w : ClassFile) (x : IsCarriedClass a c w) → file_named before name ≡ Some c → file_named after name ≡ Some w → (r : Reference) → is_own_method x.own (method_names c) r ≡ true → (r.class ≡ x.own) × Callable cs cs' r
  called name c w x found found' r passes =
      let outer = and_parts (bytes_eq r.class x.own) (list_any (bytes_eq r.member.name) (method_names c) && bytes_eq r.member.descriptor no_arguments) passes in
      let inner = and_parts (list_any (bytes_eq r.member.name) (method_names c)) (bytes_eq r.member.descriptor no_arguments) outer.1 in
      let same_class : r.class ≡ x.own = same_bytes r.class x.own outer.0 in
      let same_descriptor : r.member.descriptor ≡ no_arguments = same_bytes r.member.descriptor no_arguments inner.1 in
      let at : name ≡ r.class = sym (own_is name c w x found) ∙ sym same_class in
      let d = declared c.pool x.own (method_names c) r.member.name c.methods x.methods inner.0 in
      let q : Reference = reference r.class r.member.name no_arguments in
      let same : q ≡ r = ap (reference r.class r.member.name) (sym same_descriptor) in
      let identifier : is_identifier r.class ≡ true = ap is_identifier same_class ∙ x.identifier in
      let method : method_found None (head_of c) (method_head c.pool d.x) ≡ own_found q (is_private (method_head c.pool d.x)) =
      found_as c.pool x.own (method_names c) (head_of c) r.member.name d.x d.form d.named
      ∙ ap (λ (n : List ℕ). own_found (reference n r.member.name no_arguments) (is_private (method_head c.pool d.x))) (head_name c w x ∙ sym same_class) in
      let here : cs.method q ≡ Some (own_found q (is_private (method_head c.pool d.x))) =
      given_method (map head_of before) library_heads (length before) (sym (length-map before head_of)) (field_constant before) q (head_of c) (method_head c.pool d.x) (no_array r.class identifier)
      (head_found before r.class c (not_empty r.class identifier) (ap (file_named before) (sym at) ∙ found)) d.found ∙ ap Some method in
      let there : cs'.method q ≡ Some (own_found q (is_private (method_head c.pool d.x))) =
      given_method (map head_of after) library_heads (length after) (sym (length-map after head_of)) (field_constant after) q (head_of c) (method_head c.pool d.x) (no_array r.class identifier)
      (head_found after r.class w (not_empty r.class identifier) (ap (file_named after) (sym at) ∙ found') ∙ ap Some x.head) d.found ∙ ap Some method in (
        same_class,
        subst (Callable cs cs') same (record { private = is_private (method_head c.pool d.x); here = here; there = there; parameters = refl }),
      )

  -- both methods begin at places that stand for each other
  starts : (r : Reference) (m m' : MethodCode) → method_code before r ≡ Some m → method_code after r ≡ Some m' → (x : IsPair r m m') → Places (place_in r 0) (place_in r 0)
  starts r m m' found found' x = record {
    m = m;
    m' = m';
    found = found;
    found' = found';
    own = x.class.own;
    methods = method_names x.c;
    apart = x.class.apart;
    called = called r.class x.c x.w x.class x.found x.found';
    bytes = x.code.bytes;
    rest = x.code.insns;
    carried = x.code.carried;
    stands = x.code.before;
    stands' = x.code.after;
  }

  looks : (r : Reference) → r.class ≢ a.name → SameEntry Places (old.method r) (new.method r)
  looks r apart = go (method_code before r) (method_code after r) refl refl (method_pair r apart)
    where
      go : (o o' : Option MethodCode) → method_code before r ≡ o → method_code after r ≡ o' → BothOrNone (IsPair r) o o' → SameEntry Places (option_map (entry_of r) o) (option_map (entry_of r) o')
      go None None e e' x = tt
      go (Some m) (Some m') e e' x = (starts r m m' e e' x, x.code.stack, x.code.locals)
      go None (Some m') e e' x = absurd x
      go (Some m) None e e' x = absurd x

  -- ---- runs

  abbrev aspects : List Aspect
  aspects = aspect_of a ∷ []

  abbrev Runs : State Place → State Place → Type 0
  Runs s t = Equivalent is_broken (aspect_step before aspects) (as_activations s) (class_step after) t

  runs : (r : Reference) (private : Bool) (answers : List Answer) → r.class ≢ a.name → Runs (class_start before answers (own_found r private) []) (class_start after answers (own_found r private) [])
  runs r private answers apart = go (old.method r) (new.method r) refl refl (looks r apart)
    where
      go : (o o' : Option (Entry Place)) → old.method r ≡ o → new.method r ≡ o' → SameEntry Places o o' → Runs (class_start before answers (own_found r private) []) (class_start after answers (own_found r private) [])
      go None None e e' same =
          subst₂ Runs (sym (start_is old cs known r private answers None e)) (sym (start_is new cs' known' r private answers None e'))
          (ended_both (aspect_step before aspects) (class_step after) (as_activations (started old cs known r private answers None)) (started new cs' known' r private answers None) (Unresolved (member_text r)) refl refl)
      go (Some e) (Some d) is is' same =
          let speech = speaks woven a (written_named a before woven h) Places before printable aspect in
          let whole = carries a before after looks speech in
          let both = carried Places old new cs cs' known known' aspects (advice_reference a) a.text whole r e.start d.start (filled e.locals []) e.room (begin cs (first_world answers) r.class) (begin cs' (first_world answers) r.class) refl refl same.0 in
          subst₂ Runs (sym (start_is old cs known r private answers (Some e) is))
          (ap₂ (λ (room locals : ℕ). state new cs' (frame r d.start (content [] (filled locals [])) room ∷ []) (begin cs' (first_world answers) r.class) Nothing) same.1 same.2 ∙ sym (start_is new cs' known' r private answers (Some d) is'))
          both
      go None (Some d) e e' same = absurd same
      go (Some e) None is e' same = absurd same

  -- ---- entries

  pub behaves : Behaves before aspects after
  behaves class name words m entry =
      let f = found_through (file_named before class) (λ c. entry_among cs name words (methods_of c)) m entry.found in
      go f.0 f.1 f.2 (file_named after class) refl (subst (λ (o : Option ClassFile). BothOrNone (IsCarriedClass a) o (file_named after class)) f.1 (classes_found a class (own_class f.0 f.1) before woven h))
    where
      -- a class of the input isn't the aspect's
      own_class : (c : ClassFile) → file_named before class ≡ Some c → class ≢ a.name
      own_class c found same = let apart : None ≡ Some c = sym (ap (file_named before) same ∙ aspect_not_named a before woven h) ∙ found in absurd cc

      go : (c : ClassFile) → file_named before class ≡ Some c → entry_among cs name words (methods_of c) ≡ Some m → (o : Option ClassFile) → file_named after class ≡ o → BothOrNone (IsCarriedClass a) (Some c) o → RunsAlike before aspects after class name words m
      go c found listed None e x = absurd x
      go c found listed (Some w) e x =
          let own = entry_found c.pool x.own (method_names c) cs cs' (head_of c) name words c.methods m x.methods listed in
          let r : Reference = reference (head_of c).name own.n no_arguments in
          let named : (head_of c).name ≡ class = head_name c w x ∙ own_is class c w x found in
          let there : entry_in after class name words ≡ Some m =
          ap (option_and_then (λ c. entry_among cs' name words (methods_of c))) e
          ∙ ap (λ (head : ClassHead). entry_among cs' name words (map (method_found None head) head.methods)) x.head ∙ own.found in
          let none = own.none in
          record {
            method = m;
            found = there;
            same = λ answers.
                subst (λ (words : List EntryArgument). Runs (class_start before answers m words) (class_start after answers m words)) (sym none)
                (subst (λ (m : Method). Runs (class_start before answers m []) (class_start after answers m [])) (sym own.is) (runs r own.private answers (λ same. own_class c found (sym named ∙ same))));
          }
