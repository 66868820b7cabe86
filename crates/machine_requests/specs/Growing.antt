-- How the heap and the others go on standing for the machine's world as objects come and change.
use Rattle.std.specs.Prelude.{◌≡◌, ℕ, zero, suc, ◌≤◌, true, nat_lt, List, [], ◌∷◌, ◌++◌, length, slice_get, slice_index, slice_index_or, Option, Some, None, refl}
use Rattle.std.specs.List.{AllByRecursion}
use Rattle.std.specs.Option.{option_map}
use Rattle.std.proofs.Common.{sym, ◌∙◌, ap, subst, inl, inr, arith}
use Rattle.std.proofs.lemmas.Bool.{cases_Bool, ltb-true, ltb-false, ne_eqb}
use Rattle.class_heads.specs.declared.types.ClassHead.{ClassHead}
use Rattle.class_machine.specs.Values as machine
use Rattle.class_machine.specs.World as worlds
use Rattle.class_machine.specs.World.{World, with_changed, count_in}
use Rattle.machine_values.specs.declared.values.Value.{Value}
use Rattle.machine_values.specs.declared.names.Maker.{Maker}
use Rattle.machine_values.specs.declared.names.Name.{Name}
use Rattle.machine_values.specs.declared.names.Name.TheVariants.{Made}
use Rattle.machine_values.specs.declared.content.Content.{Content}
use Rattle.machine_values.specs.declared.content.Content.TheVariants.{Fixed}
use Rattle.machine_values.specs.Things.{Things, with_thing, with_made, next_name, changed, is_constant, place_of, placed_at, with_constant}
use Rattle.machine_values.specs.Standing.{maker_name, machine_name, name_in, held, IsSettledContent, object_of, Stands}
use Rattle.machine_values.specs.StandingLaws.{length-push, slice_get-push, settled_push}
use Rattle.machine_values.specs.HeapLaws.{make_stands, constant_stands, store_stands}
use Rattle.machine_values.specs.States.{IsStaticWithin}
use Rattle.machine_requests.specs.Telling.{AreDistinct, is_fit_maker, is_fit, AreFit}
use Rattle.machine_requests.specs.TellingLaws.{all_told, places_tell, fit_at}
use Rattle.machine_requests.specs.Shares.{Setting, Others, IsNowhere, Shares}
use Rattle.machine_requests.specs.Growth.{held_stays, settled_known}

fit_push : (count : ℕ) (names : List Name) (x : Name) → AreFit count names → is_fit count x ≡ true → AreFit count (names ++ x ∷ [])
fit_push count [] x h k = (k, tt)
fit_push count (name ∷ names) x h k = (h.0, fit_push count names x h.1 k)

past_end : (ms : List ℕ) (n : ℕ) → length ms ≤ n → slice_index ms n ≡ 0
past_end [] zero h = refl
past_end [] (suc n) h = refl
past_end (m ∷ ms) zero h = absurd (omega arith)
past_end (m ∷ ms) (suc n) h = past_end ms n (omega arith)

get_last : (names : List Name) (x : Name) → slice_get (names ++ x ∷ []) (length names) ≡ Some x
get_last [] x = refl
get_last (name ∷ names) x = get_last names x

static_push : (n : ℕ) (o : Option Value) → IsStaticWithin n o → IsStaticWithin (suc n) o
static_push n None h = tt
static_push n (Some v) h = settled_push n v h

statics_push : (n : ℕ) (os : List (Option Value)) → AllByRecursion (IsStaticWithin n) os → AllByRecursion (IsStaticWithin (suc n)) os
statics_push n [] h = tt
statics_push n (o ∷ os) h = (static_push n o h.0, statics_push n os h.1)

static_at : (n : ℕ) (os : List (Option Value)) (i : ℕ) → AllByRecursion (IsStaticWithin n) os → IsStaticWithin n (slice_index_or os i None)
static_at n [] zero h = tt
static_at n [] (suc i) h = tt
static_at n (o ∷ os) zero h = h.0
static_at n (o ∷ os) (suc i) h = static_at n os i h.1

static_stays : (heads : List ClassHead) (names : List Name) (x : Name) (o : Option Value) → IsStaticWithin (length names) o → option_map (held heads names) o ≡ option_map (held heads (names ++ x ∷ [])) o
static_stays heads names x None h = refl
static_stays heads names x (Some v) h = ap Some (sym (held_stays heads names (x ∷ []) v (settled_known (length names) v h)))

-- one more object, where the heap stands for one of the machine's
pub grown : (s : Setting) (things : Things) (others : Others) (w : World) (x : Name) (c : Content) (heap : List (machine.Name × worlds.Object)) → AreDistinct s.heads → Shares s things others w
    → Stands s.heads s.classes.fields (with_thing things x c) heap → is_fit (length s.heads) x ≡ true → Shares s (with_thing things x c) others (record w { heap = heap })
grown s things others w x c heap distinct shares stands fit = record {
  heap = stands;
  fit = fits;
  statics = λ n below. shares.statics n below ∙ static_stays s.heads things.names x (slice_index_or others.statics n None) (static_at (length things.names) others.statics n shares.statics_within);
  statics_within = subst (λ n. AllByRecursion (IsStaticWithin n) others.statics) (sym (length-push things.names x)) (statics_push (length things.names) others.statics shares.statics_within);
  begun = shares.begun;
  monitors = λ n below. elim (cases_Bool (nat_lt n (length things.names))) [
    | inl old ↦ ap (λ o. count_in w.monitors (name_in s.heads o)) (slice_get-push things.names x n (ltb-true n (length things.names) old)) ∙ shares.monitors n (ltb-true n (length things.names) old)
    | inr new ↦
        let least = ltb-false n (length things.names) new in
        let more = length-push things.names x in
        let last : length things.names ≡ n = omega arith in
        subst (λ i. count_in w.monitors (name_in s.heads (slice_get (things.names ++ x ∷ []) i)) ≡ slice_index others.monitors i) last
        (shares.unentered (name_in s.heads (slice_get (things.names ++ x ∷ []) (length things.names))) nowhere ∙ sym (past_end others.monitors (length things.names) shares.monitors_within))
  ];
  monitors_within = let few = shares.monitors_within in let more = length-push things.names x in omega arith;
  unentered = λ a none. shares.unentered a (λ place below. sym (ap (λ o. machine.same_name (name_in s.heads o) a) (slice_get-push things.names x place below)) ∙ none place (let more = length-push things.names x in omega arith));
} where
  fits : AreFit (length s.heads) (things.names ++ x ∷ [])
  fits = fit_push (length s.heads) things.names x shares.fit fit

  nowhere : IsNowhere s.heads things.names (name_in s.heads (slice_get (things.names ++ x ∷ []) (length things.names)))
  nowhere place below =
      let more = length-push things.names x in
      sym (ap (λ o. machine.same_name (name_in s.heads o) (name_in s.heads (slice_get (things.names ++ x ∷ []) (length things.names)))) (slice_get-push things.names x place below))
      ∙ places_tell s.heads (things.names ++ x ∷ []) distinct stands.numbered fits place (length things.names) (omega arith) (omega arith)
      ∙ ne_eqb place (length things.names) (λ e. omega arith)

-- the next object of a class or array type
pub make_shares : (s : Setting) (things : Things) (others : Others) (w : World) (maker : Maker) (c : Content) → AreDistinct s.heads → Shares s things others w
    → is_fit_maker (length s.heads) maker ≡ true → IsSettledContent (length things.names) c
    → Shares s (with_made things maker c).1 others (worlds.add w (maker_name s.heads maker) (object_of s.heads s.classes.fields things.names maker c)).1
make_shares s things others w maker c distinct shares fit settled =
    grown s things others w (next_name things.names maker) c (worlds.add w (maker_name s.heads maker) (object_of s.heads s.classes.fields things.names maker c)).1.heap distinct shares
    (make_stands s.heads s.classes.fields things w maker c shares.heap (all_told s.heads distinct maker things.names fit shares.fit) settled) fit

-- the String of a literal, or the object that stands for a class
pub constant_shares : (s : Setting) (things : Things) (others : Others) (w : World) (name : Name) → AreDistinct s.heads → Shares s things others w
    → is_constant name ≡ true → is_fit (length s.heads) name ≡ true → Shares s (with_constant things name).1 others w
constant_shares s things others w name distinct shares constant fit =
    by (place_of things.names name) (constant_stands s.heads s.classes.fields things w.heap name shares.heap constant) where
      by : (o : Option ℕ) → Stands s.heads s.classes.fields (placed_at things name o).1 w.heap → Shares s (placed_at things name o).1 others w
      by None stands = grown s things others w name Fixed w.heap distinct shares stands fit
      by (Some place) stands = shares

-- an object that holds something else
pub store_shares : (s : Setting) (things : Things) (others : Others) (w : World) (at : ℕ) (maker : Maker) (k : ℕ) (c : Content) → AreDistinct s.heads → Shares s things others w
    → slice_get things.names at ≡ Some (Made maker k) → IsSettledContent (length things.names) c
    → Shares s (changed things at c) others (record w { heap = with_changed w.heap (machine_name s.heads (Made maker k)) (object_of s.heads s.classes.fields things.names maker c) })
store_shares s things others w at maker k c distinct shares there settled = record {
  heap = store_stands s.heads s.classes.fields things w.heap at maker k c shares.heap (all_told s.heads distinct maker things.names (fit_at s.heads distinct things.names at (Made maker k) shares.fit there) shares.fit) there settled;
  fit = shares.fit;
  statics = shares.statics;
  statics_within = shares.statics_within;
  begun = shares.begun;
  monitors = shares.monitors;
  monitors_within = shares.monitors_within;
  unentered = shares.unentered;
}
