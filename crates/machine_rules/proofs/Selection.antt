-- What a search from the class of an object finds, where the method was found in another class.
use Rattle.std.specs.Prelude.{◌≡◌, ℕ, ◌<◌, Bool, false, if◌then◌else◌, nat_lt, zero, suc, List, [], ◌∷◌, slice_get, length, Option, Some, None, option_and_then, MatchOption, refl}
use Rattle.std.specs.Option.{option_map}
use Rattle.std.proofs.Common.{sym, ◌∙◌, ap, subst, inl, inr, arith}
use Rattle.std.proofs.lemmas.Bool.{cases_Bool, lt-ltb, ltb-true}
use Rattle.std.proofs.lemmas.Option.{none-some, same_Some, slice_get_within, option_and_then_some}
use Rattle.aj_names.specs.declared.ids.MethodId.{MethodId}
use Rattle.aj_names.specs.declared.types.MemberName.{MemberName}
use Rattle.boot_library.specs.declared.rule.LibraryRule.{LibraryRule}
use Rattle.boot_library.specs.Rules.{rule_of}
use Rattle.class_file.specs.declared.types.ClassFile.{ClassFile}
use Rattle.class_file.specs.Pool.{NamedType}
use Rattle.class_heads.specs.declared.types.MethodHead.{MethodHead}
use Rattle.class_heads.specs.declared.types.ClassHead.{ClassHead}
use Rattle.class_heads.specs.Hierarchy.{superclasses}
use Rattle.class_heads.specs.Numbers.{number_of, method_counts, IsNumbered}
use Rattle.class_heads.specs.Searches.{MemberPlace, in_class, selectable_in, first_found, selected, select}
use Rattle.class_world.specs.Tables.{Known}
use Rattle.class_machine.specs.Classes.{Method}
use Rattle.class_machine.specs.ClassFiles.{field_constant}
use Rattle.class_machine.specs.Declarations as run
use Rattle.class_machine.specs.Declarations.{member_name, members_at}
use Rattle.machine_code.specs.Programs.{IsFirst}
use Rattle.machine_code.specs.FirstLaws.{declared_is_first, selected_is_first, first_is_numbered}
use Rattle.machine_code.specs.CodeLaws.{method_seen, method_is}
use Rattle.machine_rules.specs.declared.selecting.Selected.{Selected}
use Rattle.machine_rules.specs.declared.selecting.Selected.TheVariants.{Ruled, Bare}
use Rattle.machine_rules.specs.Selecting.{Declares, selected_of, rule_in, IsSelected}

abbrev upward : Known → NamedType → ℕ → Option MemberPlace
upward k member runtime = first_found (selectable_in k.heads (member_name member)) (superclasses k.heads runtime)

abbrev members_of : Known → List ℕ → Option ℕ
members_of k class = members_at k.heads (length k.files) (field_constant k.files) class

abbrev seen_at : Known → MemberPlace → Option Method
seen_at k place = run.method_at k.heads (length k.files) (field_constant k.files) place

selected_from : (k : Known) (class : List ℕ) (member : NamedType) (runtime : ℕ) → members_of k class ≡ Some runtime → selected_of k class member ≡ option_and_then (seen_at k) (upward k member runtime)
selected_from k class member runtime is = ap (λ (o : Option ℕ). option_and_then (seen_at k) (option_and_then (λ place. upward k member place) o)) is

-- the selection goes upward
select_upward : (k : Known) (place : ℕ) (member : NamedType) (runtime : ℕ) (d : Declares k.heads place (member_name member)) → select k.heads runtime (in_class place d.position) ≡ upward k member runtime
select_upward k place member runtime d =
    ap (selected k.heads runtime (in_class place d.position)) (ap (option_and_then (λ (c : ClassHead). slice_get c.methods d.position)) d.class ∙ d.stands)
    ∙ ap (λ (b : Bool). if b then Some (in_class place d.position) else first_found (selectable_in k.heads d.method.name) (superclasses k.heads runtime)) d.open_to_all
    ∙ ap (λ (n : MemberName). first_found (selectable_in k.heads n) (superclasses k.heads runtime)) d.named

pub declared_numbered : (k : Known) (place : ℕ) (member : NamedType) (number : ℕ) (d : Declares k.heads place (member_name member))
    → Some number ≡ option_map (λ position. number_of (method_counts k.heads) (in_class place position)) (Some d.position) → IsNumbered (method_counts k.heads) number (in_class place d.position)
declared_numbered k place member number d is =
    subst (λ n. IsNumbered (method_counts k.heads) n (in_class place d.position)) (sym (same_Some number (number_of (method_counts k.heads) (in_class place d.position)) is))
    (first_is_numbered k.heads (in_class place d.position) (declared_is_first k.heads (member_name member) place d.position d.declared))

none_of : {X : Type 0} (f : X → ℕ) (o : Option X) → None ≡ option_map f o → o ≡ None
none_of f None e = refl
none_of f (Some x) e = absurd (none-some (f x) e)

pub none_selected : (k : Known) (class : List ℕ) (place : ℕ) (member : NamedType) (runtime : ℕ) (d : Declares k.heads place (member_name member)) → members_of k class ≡ Some runtime
    → None ≡ option_map (number_of (method_counts k.heads)) (select k.heads runtime (in_class place d.position)) → selected_of k class member ≡ None
none_selected k class place member runtime d members none =
    selected_from k class member runtime members ∙ ap (option_and_then (seen_at k)) (sym (select_upward k place member runtime d) ∙ none_of (number_of (method_counts k.heads)) (select k.heads runtime (in_class place d.position)) none)

pub some_selected : (k : Known) (class : List ℕ) (place : ℕ) (member : NamedType) (runtime : ℕ) (d : Declares k.heads place (member_name member)) (method : MethodId) (rule : Option LibraryRule) (sel : Selected)
    → members_of k class ≡ Some runtime → Some method.0 ≡ option_map (number_of (method_counts k.heads)) (select k.heads runtime (in_class place d.position))
    → ((p : MemberPlace) (m : Method) → IsNumbered (method_counts k.heads) method.0 p → seen_at k p ≡ Some m → rule ≡ m.rule)
    → MatchOption rule (sel ≡ Bare method) (λ r. sel ≡ Ruled r) → IsSelected k class member (Some sel)
some_selected k class place member runtime d method rule sel members some ruled told =
    by (select k.heads runtime (in_class place d.position)) refl some where
      counts : List ℕ
      counts = method_counts k.heads

      as_told : (p : MemberPlace) (m : Method) (first : IsFirst k.heads p) (r : Option LibraryRule) → method.0 ≡ number_of counts p → seen_at k p ≡ Some m → selected_of k class member ≡ Some m → r ≡ m.rule
          → MatchOption r (sel ≡ Bare method) (λ x. sel ≡ Ruled x) → IsSelected k class member (Some sel)
      as_told p m first None numbered seen found is e =
          subst (λ (x : Selected). IsSelected k class member (Some x)) (sym e)
          (record { method = m; selected = found; called = record { place = p; first = first; numbered = numbered; found = seen; bare = sym is } })
      as_told p m first (Some r) numbered seen found is e =
          subst (λ (x : Selected). IsSelected k class member (Some x)) (sym e) (record { method = m; selected = found; ruled = sym is })

      by : (o : Option MemberPlace) → select k.heads runtime (in_class place d.position) ≡ o → Some method.0 ≡ option_map (number_of counts) o → IsSelected k class member (Some sel)
      by None is e = absurd (none-some method.0 (sym e))
      by (Some p) is e =
          let first : IsFirst k.heads p = selected_is_first k.heads runtime (in_class place d.position) p (declared_is_first k.heads (member_name member) place d.position d.declared) is in
          let m : Method = method_seen k.heads (length k.files) (field_constant k.files) p first in
          let seen : seen_at k p ≡ Some m = method_is k.heads (length k.files) (field_constant k.files) p first in
          let numbered : method.0 ≡ number_of counts p = same_Some method.0 (number_of counts p) e in
          let found : selected_of k class member ≡ Some m = selected_from k class member runtime members ∙ ap (option_and_then (seen_at k)) (sym (select_upward k place member runtime d) ∙ is) ∙ seen in
          as_told p m first rule numbered seen found (ruled p m (subst (λ n. IsNumbered counts n p) (sym numbered) (first_is_numbered k.heads p first)) seen) told

-- ---- rules

get_within : {X : Type 0} (xs : List X) (i : ℕ) → i < length xs → (x : X) × (slice_get xs i ≡ Some x)
get_within [] i h = absurd (omega arith)
get_within (x ∷ xs) zero h = (x, refl)
get_within (x ∷ xs) (suc i) h = get_within xs i (omega arith)

abbrev rule_there : Known → MemberPlace → ClassHead → Option LibraryRule
rule_there k place c = if nat_lt place.class (length k.files) then None else rule_in c place.position

in_head : (k : Known) (place : MemberPlace) (m : Method) (c : ClassHead) (o : Option MethodHead) → slice_get c.methods place.position ≡ o
    → option_map (λ (h : MethodHead). run.method_found (run.rule_at k.heads (length k.files) (field_constant k.files) place.class c h) c h) o ≡ Some m → m.rule ≡ rule_there k place c
in_head k place m c None e h = absurd (none-some m h)
in_head k place m c (Some head) e h =
    ap (λ (x : Method). x.rule) (sym (same_Some (run.method_found (run.rule_at k.heads (length k.files) (field_constant k.files) place.class c head) c head) m h))
    ∙ ap (λ (o : Option MethodHead). if nat_lt place.class (length k.files) then None else option_and_then (λ (x : MethodHead). rule_of c.name x.name) o) (sym e)

seen_rule : (k : Known) (place : MemberPlace) (m : Method) → seen_at k place ≡ Some m → (c : ClassHead) × (slice_get k.heads place.class ≡ Some c) × (m.rule ≡ rule_there k place c)
seen_rule k place m seen =
    option_and_then_some (λ (c : ClassHead). option_map (λ (h : MethodHead). run.method_found (run.rule_at k.heads (length k.files) (field_constant k.files) place.class c h) c h) (slice_get c.methods place.position))
    (slice_get k.heads place.class) m seen (λ c at is. (c, at, in_head k place m c (slice_get c.methods place.position) refl is))

pub given_rule : (k : Known) (place : MemberPlace) (m : Method) (file : ClassFile) → seen_at k place ≡ Some m → Some file ≡ slice_get k.files place.class → None ≡ m.rule
given_rule k place m file seen given =
    let found = seen_rule k place m seen in
    let within = lt-ltb place.class (length k.files) (slice_get_within k.files place.class file (sym given)) in
    sym (found.2 ∙ ap (λ (b : Bool). if b then None else rule_in found.0 place.position) within)

not_given : (files : List ClassFile) (place : ℕ) → None ≡ slice_get files place → nat_lt place (length files) ≡ false
not_given files place none = elim (cases_Bool (nat_lt place (length files))) [
  | inl within ↦ let x = get_within files place (ltb-true place (length files) within) in absurd (none-some x.0 (none ∙ x.1))
  | inr past ↦ past
]

pub library_rule_is : (k : Known) (place : MemberPlace) (m : Method) (c : ClassHead) (rule : Option LibraryRule) → seen_at k place ≡ Some m → None ≡ slice_get k.files place.class → slice_get k.heads place.class ≡ Some c
    → rule ≡ rule_in c place.position → rule ≡ m.rule
library_rule_is k place m c rule seen none at is =
    let found = seen_rule k place m seen in
    is ∙ ap (λ (x : ClassHead). rule_in x place.position) (same_Some c found.0 (sym at ∙ found.1))
    ∙ sym (found.2 ∙ ap (λ (b : Bool). if b then None else rule_in found.0 place.position) (not_given k.files place.class none))
