-- Texts that are printed, appended or given.
use Rattle.std.specs.Prelude.{◌≡◌, ℕ, zero, suc, ◌<◌, ◌++◌, Bool, true, false, nat_lt, is_some, List, [], ◌∷◌, length, take, slice_get, Option, Some, None, refl}
use Rattle.std.specs.Option.{option_map, unwrap_or}
use Rattle.std.proofs.Common.{sym, ◌∙◌, ap, subst, arith, length-append}
use Rattle.std.proofs.lemmas.List.{get_or_append_left}
use Rattle.std.proofs.lemmas.Option.{slice_get-get_or}
use Rattle.std.proofs.lemmas.Bool.{lt-ltb, false≢true}
use Rattle.aj_names.specs.declared.ids.ClassId.{ClassId}
use Rattle.class_heads.specs.Hierarchy.{place_of}
use Rattle.class_heads.specs.PlaceLaws.{place-named, place-within}
use Rattle.class_world.specs.Tables.{Known}
use Rattle.class_machine.specs.Values as machine
use Rattle.class_machine.specs.Values.{string_class}
use Rattle.class_machine.specs.World as worlds
use Rattle.class_machine.specs.World.{World, set_object}
use Rattle.class_machine.specs.LibraryCalls as calls
use Rattle.class_machine.specs.LibraryCalls.{line_feed}
use Rattle.machine_values.specs.declared.frames.Destination.{Destination}
use Rattle.machine_values.specs.declared.frames.Destination.TheVariants.{Prints, Appends, Gives}
use Rattle.machine_values.specs.declared.observed.Event.{Event}
use Rattle.machine_values.specs.declared.observed.Event.TheVariants.{Print}
use Rattle.machine_values.specs.declared.names.Name.{Name}
use Rattle.machine_values.specs.declared.names.Name.TheVariants.{Literal}
use Rattle.machine_values.specs.declared.content.Content.{Content}
use Rattle.machine_values.specs.declared.content.Content.TheVariants.{Text}
use Rattle.machine_values.specs.declared.names.Maker.TheVariants.{Class}
use Rattle.machine_values.specs.declared.values.Ref.{Ref}
use Rattle.machine_values.specs.declared.values.Value.{Value}
use Rattle.machine_values.specs.declared.values.Value.TheVariants.{Null, Reference as Pointer}
use Rattle.machine_values.specs.Observed.{machine_event}
use Rattle.machine_values.specs.Standing.{name_in, name_of}
use Rattle.machine_values.specs.States.{is_known_object}
use Rattle.machine_values.specs.Things.{Things, next_name, with_made}
use Rattle.machine_requests.specs.Replies.{IsLonger}
use Rattle.machine_rules.specs.declared.work.Work.{Work}
use Rattle.machine_rules.specs.declared.work.Work.TheVariants.{Results, Misuses}
use Rattle.machine_rules.specs.Finishing.{Sets, destination_of, reference_to}
use Rattle.machine_rules.specs.Texts.{text_in, text_at, units_at}
use Rattle.machine_rules.specs.Works.{setting_of, Does, IsResult, AddsText, Grows}
use Rattle.machine_rules.specs.Library.{HasLibrary}
use Rattle.machine_rules.proofs.Giving.{given_value}
use Rattle.machine_rules.proofs.Library.{knows_strings}
use Rattle.machine_rules.proofs.LibraryClasses.{known_place}
use Rattle.machine_rules.proofs.Standing.{text_same, string_made, string_grows}

pub printed_done : (k : Known) (things : Things) (units : List ℕ) (line : Bool) (event : Event) → event ≡ Print (units ++ line_feed line)
    → Does k things (λ s ns w. calls.printed units line w) things (Results (Some event) None)
printed_done k things units line event is names others w distinct holds = record {
  world = w;
  same = ap (λ (e : Event). calls.Results (Some (machine_event e)) None w) (sym is);
  settled = tt;
  holds = holds;
}

-- what the machine makes of a buffer with that text
abbrev pub appended_to : List ℕ → machine.Name → World → Option (List ℕ) → calls.Work
appended_to units a w None = calls.Misuses
appended_to units a w (Some old) = calls.gives (machine.Reference a) (set_object w a (worlds.Text (old ++ units)))

some_there : (o : Option (List ℕ)) → is_some o ≡ true → o ≡ Some (unwrap_or o [])
some_there None is = absurd (false≢true is)
some_there (Some units) is = refl

none_there : (o : Option (List ℕ)) → is_some o ≡ false → o ≡ None
none_there None is = refl
none_there (Some units) is = absurd (false≢true (sym is))

pub appended_done : (k : Known) (before : Things) (buffer : Ref) (units : List ℕ) (after : Things) → is_some (text_at before buffer.0) ≡ true → Sets before buffer (units_at before buffer.0 ++ units) after → after.names ≡ before.names
    → buffer.0 < length before.names → Does k before (λ s ns w. calls.appended units (name_of s.heads ns buffer) w) after (Results None (Some (Pointer buffer)))
appended_done k before buffer units after text sets same known names others w distinct holds =
    let a = name_of k.heads before.names buffer in
    let kept = text_same (setting_of k names) before others w buffer.0 distinct holds.shares known in
    record {
      world = set_object w a (worlds.Text (units_at before buffer.0 ++ units));
      same = ap (appended_to units a w) (kept ∙ some_there (text_at before buffer.0) text)
          ∙ ap (λ (ns : List Name). calls.gives (machine.Reference (name_of k.heads ns buffer)) (set_object w a (worlds.Text (units_at before buffer.0 ++ units)))) (sym same);
      settled = ap (λ (ns : List Name). nat_lt buffer.0 (length ns)) same ∙ lt-ltb buffer.0 (length before.names) known;
      holds = record { shares = sets (setting_of k names) others w distinct holds.shares };
    }

-- what holds no text is no buffer
pub append_misused : (k : Known) (before : Things) (buffer : Ref) (units : List ℕ) → is_some (text_at before buffer.0) ≡ false → buffer.0 < length before.names
    → Does k before (λ s ns w. calls.appended units (name_of s.heads ns buffer) w) before Misuses
append_misused k before buffer units none known names others w distinct holds = record {
  same = ap (appended_to units (name_of k.heads before.names buffer) w) (text_same (setting_of k names) before others w buffer.0 distinct holds.shares known ∙ none_there (text_at before buffer.0) none);
  holds = holds;
}

-- ---- a String is made first

pub made_printed : (k : Known) (before : Things) (units : List ℕ) (line : Bool) (event : Event) (after : Things) (at : Ref) → event ≡ Print (units ++ line_feed line) → AddsText k before units after at
    → Does k before (λ s ns w. calls.finish_made (calls.Prints line) w (Some units)) after (Results (Some event) None)
made_printed k before units line event after at is added names others w distinct holds =
    let new = added names others w distinct holds in
    record {
      world = (worlds.add_text w units).1;
      same = ap (λ (e : Event). calls.Results (Some (machine_event e)) None (worlds.add_text w units).1) (sym is);
      settled = tt;
      holds = new.holds;
    }

buffer_stays : (k : Known) (before mid : Things) (buffer : Ref) → IsLonger before mid → buffer.0 < length before.names → name_of k.heads mid.names buffer ≡ name_of k.heads before.names buffer
buffer_stays k before mid buffer longer known =
    ap (λ (ns : List Name). name_of k.heads ns buffer) longer.1
    ∙ ap (name_in k.heads) (slice_get-get_or (before.names ++ longer.0) buffer.0 (Literal []) (let more = length-append before.names longer.0 in omega arith) ∙ ap Some (get_or_append_left before.names longer.0 (Literal []) buffer.0 known) ∙ sym (slice_get-get_or before.names buffer.0 (Literal []) known))

pub made_appended : (k : Known) (before : Things) (buffer : Ref) (units : List ℕ) (mid after : Things) (at : Ref) → AddsText k before units mid at → IsLonger before mid → is_some (text_at mid buffer.0) ≡ true
    → Sets mid buffer (units_at mid buffer.0 ++ units) after → after.names ≡ mid.names → buffer.0 < length before.names
    → Does k before (λ s ns w. calls.finish_made (calls.Appends (name_of s.heads ns buffer)) w (Some units)) after (Results None (Some (Pointer buffer)))
made_appended k before buffer units mid after at added longer text sets same known names others w distinct holds =
    let new = added names others w distinct holds in
    let w' = (worlds.add_text w units).1 in
    let below : buffer.0 < length mid.names = let e = ap (λ (ns : List Name). length ns) longer.1 in let more = length-append before.names longer.0 in omega arith in
    subst (λ (a : machine.Name). IsResult (setting_of k names) after others None (Some (Pointer buffer)) (calls.appended units a w')) (buffer_stays k before mid buffer longer known)
    (appended_done k mid buffer units after text sets same below names others w' distinct new.holds)

-- ---- texts stay when objects are added

slice_get-take : {X : Type 0} (n : ℕ) (xs : List X) (i : ℕ) → i < n → slice_get (take n xs) i ≡ slice_get xs i
slice_get-take zero xs i h = absurd (omega arith)
slice_get-take (suc n) [] i h = refl
slice_get-take (suc n) (x ∷ xs) zero h = refl
slice_get-take (suc n) (x ∷ xs) (suc i) h = slice_get-take n xs i (omega arith)

pub text_stays : (before mid : Things) (at : ℕ) → Grows before mid → at < length before.names → at < length before.contents → text_at mid at ≡ text_at before at
text_stays before mid at grows known within =
    let name : slice_get mid.names at ≡ slice_get before.names at = sym (slice_get-take (length before.names) mid.names at known) ∙ ap (λ (ns : List Name). slice_get ns at) grows.names in
    let content : slice_get mid.contents at ≡ slice_get before.contents at = sym (slice_get-take (length before.contents) mid.contents at within) ∙ ap (λ (cs : List Content). slice_get cs at) grows.contents in
    ap (λ o. text_in o (slice_get mid.contents at)) name ∙ ap (text_in (slice_get before.names at)) content

pub made_misused : (k : Known) (before : Things) (buffer : Ref) (units : List ℕ) → HasLibrary k → is_some (text_at before buffer.0) ≡ false → buffer.0 < length before.names
    → Does k before (λ s ns w. calls.finish_made (calls.Appends (name_of s.heads ns buffer)) w (Some units)) before Misuses
made_misused k before buffer units has none known names others w distinct holds =
    let there = known_place (place_of k.heads string_class) (knows_strings k has) in
    let class : ClassId = record { 0 = there.0 } in
    let new = string_made k before units class (place-named k.heads string_class there.0 there.1) (place-within k.heads string_class there.0 there.1) names others w distinct holds in
    let mid : Things = (with_made before (Class class) (Text units)).1 in
    let longer : IsLonger before mid = (next_name before.names (Class class) ∷ [], refl) in
    let below : buffer.0 < length mid.names = let more = length-append before.names longer.0 in omega arith in
    let whole = holds.shares.heap.objects.whole in
    let text : text_at mid buffer.0 ≡ text_at before buffer.0 = text_stays before mid buffer.0 (string_grows before units class) known (omega arith) in
    let still : is_some (text_at mid buffer.0) ≡ false = ap is_some text ∙ none in
    let w' = (worlds.add_text w units).1 in
    let misused = append_misused k mid buffer units still below names others w' distinct new.holds in
    record {
      same = ap (λ (a : machine.Name). calls.appended units a w') (sym (buffer_stays k before mid buffer longer known)) ∙ misused.same;
      holds = holds;
    }

-- ---- the heap as it was

both_parts : (a b : Things) → a.names ≡ b.names → a.contents ≡ b.contents → a ≡ b
both_parts a b p q =
    let with_names : List Name → Things = λ ns. record { names = ns; contents = a.contents } in
    let with_contents : List Content → Things = λ cs. record { names = b.names; contents = cs } in
    ap with_names p ∙ ap with_contents q

pub restored : (before mid kept new : Things) (count : ℕ) → Grows before mid → kept ≡ mid → count ≡ length before.names → count ≡ length before.contents → new.names ≡ take count kept.names → new.contents ≡ take count kept.contents → new ≡ before
restored before mid kept new count grows same names contents p q =
    both_parts new before
    (p ∙ ap (λ (t : Things). take count t.names) same ∙ ap (λ n. take n mid.names) names ∙ grows.names)
    (q ∙ ap (λ (t : Things). take count t.contents) same ∙ ap (λ n. take n mid.contents) contents ∙ grows.contents)

-- ---- a String that there is

pub given_reference : (k : Known) (things : Things) (text : Option Ref) (units : Option (List ℕ)) (v : Value) → is_known_object (length things.names) text ≡ true → v ≡ reference_to text
    → Does k things (λ s ns w. calls.finish_text calls.Gives (option_map (name_of s.heads ns) text) units w) things (Results None (Some v))
given_reference k things None units v known is = subst (λ (x : Value). Does k things (λ s ns w. calls.gives machine.Null w) things (Results None (Some x))) (sym is)
    (given_value k things Null (λ s ns w. machine.Null) refl (λ names others w distinct holds. refl))
given_reference k things (Some at) units v known is = subst (λ (x : Value). Does k things (λ s ns w. calls.gives (machine.Reference (name_of s.heads ns at)) w) things (Results None (Some x))) (sym is)
    (given_value k things (Pointer at) (λ s ns w. machine.Reference (name_of s.heads ns at)) known (λ names others w distinct holds. refl))

-- printed or appended as a text that no String holds
pub finished_printed : (k : Known) (things : Things) (line : Bool) (text : Option Ref) (o : Option (List ℕ)) (units : List ℕ) (after : Things) (work : Work) → units ≡ calls.text_or_null o
    → Does k things (λ s ns w. calls.finish_units (calls.Prints line) units w) after work → Does k things (λ s ns w. calls.finish_text (calls.Prints line) (option_map (name_of s.heads ns) text) o w) after work
finished_printed k things line text o units after work is done =
    subst (λ (l : List ℕ). Does k things (λ s ns w. calls.finish_units (calls.Prints line) l w) after work) is done

pub finished_appended : (k : Known) (things : Things) (buffer : Ref) (text : Option Ref) (o : Option (List ℕ)) (units : List ℕ) (after : Things) (work : Work) → units ≡ calls.text_or_null o
    → Does k things (λ s ns w. calls.finish_units (calls.Appends (name_of s.heads ns buffer)) units w) after work
    → Does k things (λ s ns w. calls.finish_text (calls.Appends (name_of s.heads ns buffer)) (option_map (name_of s.heads ns) text) o w) after work
finished_appended k things buffer text o units after work is done =
    subst (λ (l : List ℕ). Does k things (λ s ns w. calls.finish_units (calls.Appends (name_of s.heads ns buffer)) l w) after work) is done

pub finished_as_units : (k : Known) (things : Things) (to : Destination) (text : Option Ref) (o : Option (List ℕ)) (units : List ℕ) (after : Things) (work : Work) → (to ≡ Gives → ⊥) → units ≡ calls.text_or_null o
    → Does k things (λ s ns w. calls.finish_units (destination_of s ns to) units w) after work
    → Does k things (λ s ns w. calls.finish_text (destination_of s ns to) (option_map (name_of s.heads ns) text) o w) after work
finished_as_units k things (Prints line) text o units after work other is done = finished_printed k things line text o units after work is done
finished_as_units k things (Appends buffer) text o units after work other is done = finished_appended k things buffer text o units after work is done
finished_as_units k things Gives text o units after work other is done = absurd (other refl)
