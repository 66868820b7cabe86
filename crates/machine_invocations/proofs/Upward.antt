-- Walks from a class upward.
use Rattle.std.specs.Prelude.{◌≡◌, ℕ, zero, suc, ◌+◌, ◌-◌, ◌<◌, ◌≤◌, ◌||◌, Bool, true, false, if◌then◌else◌, List, [], ◌∷◌, length, map, slice_get, Option, Some, None, refl}
use Rattle.std.proofs.Common.{sym, ap, ◌∙◌, subst, arith}
use Rattle.std.specs.List.{flat_map}
use Rattle.std.specs.Option.{option_map, option_and_then}
use Rattle.std.specs.Str.{bytes_eq}
use Rattle.std.proofs.lemmas.Bool.{false≢true}
use Rattle.std.proofs.lemmas.List.{append-nil}
use Rattle.std.proofs.lemmas.Option.{same_Some, none-some}
use Rattle.class_heads.specs.declared.types.ClassHead.{ClassHead}
use Rattle.class_heads.specs.Graph.{walk}
use Rattle.class_heads.specs.Hierarchy.{superclass_at, superclasses, name_at}
use Rattle.aj_names.specs.declared.types.MemberName.{MemberName}
use Rattle.class_heads.specs.declared.types.MethodHead.{MethodHead}
use Rattle.class_heads.specs.Numbers.{number_of, IsNumbered, method_counts}
use Rattle.class_heads.specs.Searches.{MemberPlace, in_class, first_found, method_position, method_in, is_selectable, if_selectable, selectable_of, selectable_in}
use Rattle.class_world.specs.Tables.{Known}
use Rattle.machine_code.specs.FirstLaws.{declared_is_first, first_is_numbered}
use Rattle.machine_code.specs.NumberLaws.{one_numbered}
use Rattle.machine_steps.specs.Runs.{IsMethod}
use Rattle.machine_invocations.specs.Methods.{StandsIn}
use Rattle.class_machine.specs.Classes.{Method, Classes, is_among, direct_superclass, selected_above}

-- ---- one step

left_over : (most turn : ℕ) → turn < most → most - turn ≡ suc (most - (turn + 1))
left_over most turn h = omega arith

module _ (steps : ℕ → List ℕ) where
  pub walk_up : (left at next : ℕ) → next ∷ [] ≡ steps at → walk steps (suc left) at ≡ at ∷ walk steps left next
  walk_up left at next e = ap (λ (places : List ℕ). at ∷ flat_map (walk steps left) places) (sym e) ∙ ap (λ (rest : List ℕ). at ∷ rest) (append-nil (walk steps left next))

  pub walk_top : (left at : ℕ) → [] ≡ steps at → walk steps (suc left) at ≡ at ∷ []
  walk_top left at e = ap (λ (places : List ℕ). at ∷ flat_map (walk steps left) places) (sym e)

-- ---- a search

module _ (search : ℕ → Option ℕ) where
  pub first_here : (place position : ℕ) (places : List ℕ) → search place ≡ Some position → first_found search (place ∷ places) ≡ Some (in_class place position)
  first_here place position places e = rw e refl

  pub first_later : (place : ℕ) (places : List ℕ) → search place ≡ None → first_found search (place ∷ places) ≡ first_found search places
  first_later place places e = rw e refl

-- what is left of the walk decides
pub record Searches (heads : List ClassHead) (search : ℕ → Option ℕ) (start turn at : ℕ) : Type 0 where
  pub within : at < length heads
  pub same : first_found search (walk (superclass_at heads) (length heads - turn) at) ≡ first_found search (superclasses heads start)

module _ (heads : List ClassHead) (search : ℕ → Option ℕ) (start : ℕ) where
  pub search_begins : start < length heads → Searches heads search start 0 start
  search_begins h = record {
    within = h;
    same = ap (λ n. first_found search (walk (superclass_at heads) n start)) (let e : length heads - 0 ≡ length heads = omega arith in e);
  }

  module _ (turn at : ℕ) (is : Searches heads search start turn at) where
    here : turn < length heads → first_found search (walk (superclass_at heads) (suc (length heads - (turn + 1))) at) ≡ first_found search (superclasses heads start)
    here h = subst (λ n. first_found search (walk (superclass_at heads) n at) ≡ first_found search (superclasses heads start)) (left_over (length heads) turn h) is.same

    pub search_finds : (position : ℕ) → turn < length heads → search at ≡ Some position → first_found search (superclasses heads start) ≡ Some (in_class at position)
    search_finds position h e = sym (here h) ∙ first_here search at position (flat_map (walk (superclass_at heads) (length heads - (turn + 1))) (superclass_at heads at)) e

    pub search_goes_on : (next : ℕ) → turn < length heads → next < length heads → search at ≡ None → next ∷ [] ≡ superclass_at heads at → Searches heads search start (turn + 1) next
    search_goes_on next h within e up = record {
      within = within;
      same = sym (ap (first_found search) (walk_up (superclass_at heads) (length heads - (turn + 1)) at next up) ∙ first_later search at (walk (superclass_at heads) (length heads - (turn + 1)) next) e) ∙ here h;
    }

    pub search_tops : turn < length heads → search at ≡ None → [] ≡ superclass_at heads at → first_found search (superclasses heads start) ≡ None
    search_tops h e up = sym (here h) ∙ ap (first_found search) (walk_top (superclass_at heads) (length heads - (turn + 1)) at up) ∙ first_later search at [] e

    pub search_ends : length heads ≤ turn → first_found search (superclasses heads start) ≡ None
    search_ends h = sym (subst (λ n. first_found search (walk (superclass_at heads) n at) ≡ first_found search (superclasses heads start)) (let e : length heads - turn ≡ 0 = omega arith in e) is.same)

-- a number that stands for what is found
pub found_position : (number : ℕ → ℕ) (id : ℕ) (o : Option ℕ) → Some id ≡ option_map number o → (position : ℕ) × (o ≡ Some position) × (id ≡ number position)
found_position number id None e = absurd (none-some id (sym e))
found_position number id (Some position) e = (position, refl, same_Some id (number position) e)

pub none_found : (number : ℕ → ℕ) (o : Option ℕ) → None ≡ option_map number o → o ≡ None
none_found number None e = refl
none_found number (Some position) e = absurd (none-some (number position) e)

-- ---- names upward

pub among_here : (name class : List ℕ) (classes : List (List ℕ)) → bytes_eq name class ≡ true → is_among (class ∷ classes) name ≡ true
among_here name class classes e = ap (λ b. b || is_among classes name) e

pub among_later : (name class : List ℕ) (classes : List (List ℕ)) → bytes_eq name class ≡ false → is_among (class ∷ classes) name ≡ is_among classes name
among_later name class classes e = ap (λ b. b || is_among classes name) e

pub record Looks (heads : List ClassHead) (name : List ℕ) (start turn at : ℕ) : Type 0 where
  pub within : at < length heads
  pub same : is_among (map (name_at heads) (walk (superclass_at heads) (length heads - turn) at)) name ≡ is_among (map (name_at heads) (walk (superclass_at heads) (length heads - 1) start)) name

module _ (heads : List ClassHead) (name : List ℕ) (start turn at : ℕ) (is : Looks heads name start turn at) where
  abbrev whole : Bool
  whole = is_among (map (name_at heads) (walk (superclass_at heads) (length heads - 1) start)) name

  look_here : turn < length heads → is_among (map (name_at heads) (walk (superclass_at heads) (suc (length heads - (turn + 1))) at)) name ≡ whole
  look_here h = subst (λ n. is_among (map (name_at heads) (walk (superclass_at heads) n at)) name ≡ whole) (left_over (length heads) turn h) is.same

  pub look_finds : turn < length heads → bytes_eq name (name_at heads at) ≡ true → true ≡ whole
  look_finds h e = sym (among_here name (name_at heads at) (map (name_at heads) (flat_map (walk (superclass_at heads) (length heads - (turn + 1))) (superclass_at heads at))) e) ∙ look_here h

  pub look_goes_on : (next : ℕ) → turn < length heads → next < length heads → bytes_eq name (name_at heads at) ≡ false → next ∷ [] ≡ superclass_at heads at → Looks heads name start (turn + 1) next
  look_goes_on next h within e up = record {
    within = within;
    same = sym (ap (λ places. is_among (map (name_at heads) places) name) (walk_up (superclass_at heads) (length heads - (turn + 1)) at next up)
        ∙ among_later name (name_at heads at) (map (name_at heads) (walk (superclass_at heads) (length heads - (turn + 1)) next)) e) ∙ look_here h;
  }

  pub look_tops : turn < length heads → bytes_eq name (name_at heads at) ≡ false → [] ≡ superclass_at heads at → false ≡ whole
  look_tops h e up =
      sym (ap (λ places. is_among (map (name_at heads) places) name) (walk_top (superclass_at heads) (length heads - (turn + 1)) at up) ∙ among_later name (name_at heads at) [] e) ∙ look_here h

  pub look_ends : length heads ≤ turn → false ≡ whole
  look_ends h = subst (λ n. is_among (map (name_at heads) (walk (superclass_at heads) n at)) name ≡ whole) (let e : length heads - turn ≡ 0 = omega arith in e) is.same

-- ---- `invokespecial`

pub above_other : (cs : Classes) (classes : List (List ℕ)) (m : Method) → is_among classes m.name.class ≡ false → selected_above cs classes m ≡ Some m
above_other cs [] m e = refl
above_other cs (class ∷ classes) m e = ap (λ (b : Bool). if b then cs.selected class m.name.member else Some m) e

pub above_selected : (cs : Classes) (steps : ℕ → List ℕ) (names : ℕ → List ℕ) (left above : ℕ) (m : Method) → is_among (map names (walk steps left above)) m.name.class ≡ true
    → selected_above cs (map names (walk steps left above)) m ≡ cs.selected (names above) m.name.member
above_selected cs steps names zero above m e = absurd (false≢true e)
above_selected cs steps names (suc left) above m e = ap (λ (b : Bool). if b then cs.selected (names above) m.name.member else Some m) e

-- ---- what a class declares

selectable_step : (heads : List ClassHead) (c : ClassHead) (position : ℕ) (m : MethodHead) → slice_get c.methods position ≡ Some m → if_selectable heads c position ≡ (if is_selectable m then Some position else None)
selectable_step heads c position m e = rw e refl

chosen : (number : ℕ) (number_in : ℕ → ℕ) (b : Bool) (position : ℕ) → number ≡ number_in position → option_map number_in (if b then Some position else None) ≡ (if b then Some number else None)
chosen number number_in true position same = ap Some (sym same)
chosen number number_in false position same = refl

module _ (k : Known) (member : MemberName) (class : ℕ) where
  abbrev pub number_in : ℕ → ℕ
  number_in position = number_of (method_counts k.heads) (in_class class position)

  pub declared_is_method : (number : ℕ) → Some number ≡ option_map number_in (method_in k.heads member class) → IsMethod k number
  declared_is_method number e =
      let found = found_position number_in number (method_in k.heads member class) e in
      record { place = in_class class found.0; first = declared_is_first k.heads member class found.0 found.1; numbered = found.2 }

  undeclared : method_in k.heads member class ≡ None → selectable_in k.heads member class ≡ None
  undeclared e = by (slice_get k.heads class) refl e where
    by : (o : Option ClassHead) → slice_get k.heads class ≡ o → option_and_then (method_position member) o ≡ None → option_and_then (selectable_of k.heads member) o ≡ None
    by None at none = refl
    by (Some c) at none = ap (option_and_then (if_selectable k.heads c)) none

  pub selects_none : None ≡ option_map number_in (method_in k.heads member class) → None ≡ option_map number_in (selectable_in k.heads member class)
  selects_none e = sym (ap (option_map number_in) (undeclared (none_found number_in (method_in k.heads member class) e)))

  selects : (number place : ℕ) (c : ClassHead) (m : MethodHead) → Some number ≡ option_map number_in (method_in k.heads member class) → StandsIn k number place c m
      → option_map number_in (selectable_in k.heads member class) ≡ (if is_selectable m then Some number else None)
  selects number place c m e stands =
      let found = found_position number_in number (method_in k.heads member class) e in
      let first = declared_is_first k.heads member class found.0 found.1 in
      let here : in_class class found.0 ≡ in_class place stands.position =
      one_numbered (method_counts k.heads) number (in_class class found.0) (in_class place stands.position) (subst (λ n. IsNumbered (method_counts k.heads) n (in_class class found.0)) (sym found.2) (first_is_numbered k.heads (in_class class found.0) first)) stands.numbered in
      let at : slice_get k.heads class ≡ Some c = ap (λ (p : MemberPlace). slice_get k.heads p.class) here ∙ stands.at in
      let there : slice_get c.methods found.0 ≡ Some m = ap (λ (p : MemberPlace). slice_get c.methods p.position) here ∙ stands.stands in
      let named : method_position member c ≡ Some found.0 = sym (ap (option_and_then (method_position member)) at) ∙ found.1 in
      ap (λ o. option_map number_in (option_and_then (selectable_of k.heads member) o)) at
      ∙ ap (λ o. option_map number_in (option_and_then (if_selectable k.heads c) o)) named
      ∙ ap (option_map number_in) (selectable_step k.heads c found.0 m there)
      ∙ chosen number number_in (is_selectable m) found.0 found.2

  pub selects_it : (number place : ℕ) (c : ClassHead) (m : MethodHead) → Some number ≡ option_map number_in (method_in k.heads member class) → StandsIn k number place c m → is_selectable m ≡ true
      → Some number ≡ option_map number_in (selectable_in k.heads member class)
  selects_it number place c m e stands passes = sym (selects number place c m e stands ∙ ap (λ (b : Bool). if b then Some number else None) passes)

  pub passes_it : (number place : ℕ) (c : ClassHead) (m : MethodHead) → Some number ≡ option_map number_in (method_in k.heads member class) → StandsIn k number place c m → is_selectable m ≡ false
      → None ≡ option_map number_in (selectable_in k.heads member class)
  passes_it number place c m e stands fails = sym (selects number place c m e stands ∙ ap (λ (b : Bool). if b then Some number else None) fails)

-- the number of what is found upward
pub found_upward : (k : Known) (member : MemberName) (start turn at number : ℕ) → Searches k.heads (selectable_in k.heads member) start turn at → turn < length k.heads
    → Some number ≡ option_map (number_in k member at) (selectable_in k.heads member at) → Some number ≡ option_map (number_of (method_counts k.heads)) (first_found (selectable_in k.heads member) (superclasses k.heads start))
found_upward k member start turn at number is h e =
    let found = found_position (number_in k member at) number (selectable_in k.heads member at) e in
    ap Some found.2 ∙ sym (ap (option_map (number_of (method_counts k.heads))) (search_finds k.heads (selectable_in k.heads member) start turn at is found.0 h found.1))

pub none_here : (k : Known) (member : MemberName) (at : ℕ) → None ≡ option_map (number_in k member at) (selectable_in k.heads member at) → selectable_in k.heads member at ≡ None
none_here k member at e = none_found (number_in k member at) (selectable_in k.heads member at) e

-- ---- from the direct superclass upward

pub direct_up : (heads : List ClassHead) (current above : ℕ) → current < length heads → above ∷ [] ≡ superclass_at heads current
    → direct_superclass (map (name_at heads) (superclasses heads current)) ≡ map (name_at heads) (walk (superclass_at heads) (length heads - 1) above)
direct_up heads current above h up =
    ap (λ n. direct_superclass (map (name_at heads) (walk (superclass_at heads) n current))) (let e : length heads ≡ suc (length heads - 1) = omega arith in e)
    ∙ ap (λ places. direct_superclass (map (name_at heads) places)) (walk_up (superclass_at heads) (length heads - 1) current above up)

pub direct_top : (heads : List ClassHead) (current : ℕ) → current < length heads → [] ≡ superclass_at heads current → direct_superclass (map (name_at heads) (superclasses heads current)) ≡ []
direct_top heads current h up =
    ap (λ n. direct_superclass (map (name_at heads) (walk (superclass_at heads) n current))) (let e : length heads ≡ suc (length heads - 1) = omega arith in e)
    ∙ ap (λ places. direct_superclass (map (name_at heads) places)) (walk_top (superclass_at heads) (length heads - 1) current up)
