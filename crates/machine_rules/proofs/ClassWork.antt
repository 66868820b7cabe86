-- The objects that stand for classes, and classes by their dotted names.
use Rattle.std.specs.Prelude.{◌≡◌, ℕ, ◌&&◌, Bool, true, false, is_some, if◌then◌else◌, List, [], ◌∷◌, length, slice_get, Option, Some, None, refl}
use Rattle.std.proofs.Common.{sym, ◌∙◌, ap, subst}
use Rattle.std.proofs.lemmas.Bool.{ltb-true, and_parts, false≢true}
use Rattle.aj_names.specs.declared.types.FieldType.{FieldType}
use Rattle.class_file.specs.Pool.{Reference}
use Rattle.boot_library.specs.declared.rule.LibraryRule.TheVariants as rule
use Rattle.class_file.specs.Text.{is_field_descriptor}
use Rattle.class_heads.specs.Hierarchy.{TypeName, name_at, place_of, is_array, is_known, type_of_descriptor}
use Rattle.class_heads.specs.PlaceLaws.{place-named, place-within}
use Rattle.class_heads.specs.declared.types.ClassHead.{ClassHead}
use Rattle.class_world.specs.Tables.{Known}
use Rattle.class_machine.specs.ClassFiles.{field_constant}
use Rattle.class_machine.specs.Declarations.{knows}
use Rattle.class_machine.specs.Texts.{class_of_text, is_unfit}
use Rattle.class_machine.specs.Values as machine
use Rattle.class_machine.specs.Values.{class_of, Held}
use Rattle.class_machine.specs.Classes.{Classes}
use Rattle.class_machine.specs.LibraryCalls as calls
use Rattle.class_machine.specs.World.{World}
use Rattle.machine_values.specs.declared.names.Maker.TheVariants.{Class, Array}
use Rattle.machine_values.specs.declared.names.Name.{Name}
use Rattle.machine_values.specs.declared.names.Name.TheVariants.{Made, ClassObject}
use Rattle.machine_values.specs.declared.values.Ref.{Ref}
use Rattle.machine_values.specs.declared.values.Value.{Value}
use Rattle.machine_values.specs.declared.values.Value.TheVariants.{Reference as Pointer}
use Rattle.machine_values.specs.Standing.{name_of, held, Settled}
use Rattle.machine_values.specs.Things.{Things, with_constant}
use Rattle.machine_values.specs.Types.{type_name}
use Rattle.machine_requests.specs.Objects.{StaysFilled}
use Rattle.machine_requests.specs.Replies.{IsLonger}
use Rattle.machine_requests.specs.Shares.{Setting}
use Rattle.machine_requests.specs.Telling.{AreDistinct, AreFit, is_plain, is_class_type}
use Rattle.machine_requests.specs.TellingLaws.{fit_at}
use Rattle.machine_requests.proofs.Fills.{class_filled}
use Rattle.machine_requests.proofs.NewArrays.{class_given, longer_constant}
use Rattle.machine_rules.specs.declared.work.Work.{Work}
use Rattle.machine_rules.specs.declared.work.Work.TheVariants.{Results, Loads}
use Rattle.machine_rules.specs.ClassObjects.{class_named, found_by}
use Rattle.machine_rules.specs.Texts.{argument_at}
use Rattle.machine_rules.specs.Works.{setting_of, IsResult, Does}
use Rattle.machine_rules.proofs.Giving.{argued, argument_same, done_same}
use Rattle.machine_rules.proofs.PlainNames.{plain_class, array_class}

-- ---- the class of an object

pub made_plain : (heads : List ClassHead) (names : List Name) (at class k : ℕ) (name : List ℕ) → slice_get names at ≡ Some (Made (Class (record { 0 = class })) k) → name ≡ name_at heads class → AreDistinct heads → AreFit (length heads) names
    → is_class_type (class_named name) ≡ true
made_plain heads names at class k name there named distinct fit =
    plain_class name (ap is_plain named ∙ distinct.plain class (ltb-true class (length heads) (fit_at heads distinct names at (Made (Class (record { 0 = class })) k) fit there)))

pub made_array : (heads : List ClassHead) (names : List Name) (at k : ℕ) (type : FieldType) → slice_get names at ≡ Some (Made (Array type) k) → AreDistinct heads → AreFit (length heads) names → is_class_type type ≡ true
made_array heads names at k type there distinct fit =
    let both = and_parts _ _ (fit_at heads distinct names at (Made (Array type) k) fit there) in
    array_class type both.0 both.1

pub class_object_given : (k : Known) (things after : Things) (at object : Ref) (type : FieldType) → (object.0, after) ≡ with_constant things (ClassObject type) → type_name type ≡ class_of (name_of k.heads things.names at)
    → (AreDistinct k.heads → AreFit (length k.heads) things.names → is_class_type type ≡ true)
    → Does k things (λ s ns w. calls.on_object s.classes w rule.GetClass (name_of s.heads ns at)) after (Results None (Some (Pointer object)))
class_object_given k things after at object type placed named fit names others w distinct holds =
    let s = setting_of k names in
    let given = class_given things others type (fit distinct holds.shares.fit) s w distinct holds.shares in
    let P : ℕ × Things → Type 0 = λ p. IsResult s p.1 others None (Some (Pointer (record { 0 = p.0 }))) (calls.gives (machine.Reference (machine.ClassObject (class_of (name_of k.heads things.names at)))) w) in
    subst P (sym placed) (record {
      world = w;
      same = ap (λ (h : Held). calls.gives h w) (ap (λ (c : List ℕ). machine.Reference (machine.ClassObject c)) (sym named) ∙ sym given.0);
      settled = given.1;
      holds = record { shares = given.2 };
    })

pub placed_longer : (things after : Things) (object : Ref) (type : FieldType) → (object.0, after) ≡ with_constant things (ClassObject type) → IsLonger things after
placed_longer things after object type placed = subst (λ (p : ℕ × Things). IsLonger things p.1) (sym placed) (longer_constant things (ClassObject type))

pub placed_filled : (things after : Things) (object : Ref) (type : FieldType) → (object.0, after) ≡ with_constant things (ClassObject type) → (s : Setting) → StaysFilled things after s
placed_filled things after object type placed s = subst (λ (p : ℕ × Things). StaysFilled things p.1 s) (sym placed) (class_filled things type s)

-- ---- classes by their names

-- what is there has a plain name
pub known_plain : (k : Known) (name : List ℕ) → AreDistinct k.heads → is_array name ≡ false → knows k.heads (length k.files) (field_constant k.files) name ≡ true → is_plain name ≡ true
known_plain k name distinct flat known =
    let test : is_some (place_of k.heads name) ≡ true =
    sym (ap (λ (b : Bool). (if b then is_field_descriptor name else true) && is_known k.heads (if b then type_of_descriptor name else TypeName.Class name)) flat) ∙ known in
    by (place_of k.heads name) refl test where
      by : (o : Option ℕ) → place_of k.heads name ≡ o → is_some o ≡ true → is_plain name ≡ true
      by None there some = absurd (false≢true some)
      by (Some place) there some = ap is_plain (sym (place-named k.heads name place there)) ∙ distinct.plain place (place-within k.heads name place there)

abbrev pub of_found : Classes → World → Held → Option (List ℕ) → calls.Work
of_found cs w h None = calls.not_found cs w h
of_found cs w h (Some class) = calls.Loads class

for_name_cases : (k : Known) (names : ℕ → Reference) (w : World) (h : Held) (units : List ℕ) → calls.for_name (setting_of k names).classes w h units ≡ of_found (setting_of k names).classes w h (found_by k units)
for_name_cases k names w h units = by (is_unfit units) (knows k.heads (length k.files) (field_constant k.files) (class_of_text units)) where
  by : (unfit known : Bool)
      → (if unfit then calls.not_found (setting_of k names).classes w h else (if known then calls.Loads (class_of_text units) else calls.not_found (setting_of k names).classes w h))
      ≡ of_found (setting_of k names).classes w h (if unfit then None else (if known then Some (class_of_text units) else None))
  by true known = refl
  by false true = refl
  by false false = refl

abbrev pub for_text : Setting → World → Held → Option (List ℕ) → calls.Work
for_text s w h text = calls.unless_null_text text (λ units. calls.for_name s.classes w h units)

pub for_name_done : (k : Known) (things : Things) (name : Value) (text : Option (Option (List ℕ))) (after : Things) (work : Work) → Settled (length things.names) name → argument_at k.heads things name ≡ text
    → Does k things (λ s ns w. argued text (for_text s w (held s.heads ns name))) after work
    → Does k things (λ s ns w. calls.by_static_rule s.classes w rule.ForName (held s.heads ns name ∷ [])) after work
for_name_done k things name text after work settled is done =
    done_same k things (λ s ns w. argued text (for_text s w (held s.heads ns name))) (λ s ns w. calls.by_static_rule s.classes w rule.ForName (held s.heads ns name ∷ [])) after work
    (λ names others w distinct holds. argument_same k names things others w name (for_text (setting_of k names) w (held k.heads things.names name)) distinct holds settled
    ∙ ap (λ t. argued t (for_text (setting_of k names) w (held k.heads things.names name))) is) done

pub class_loads : (k : Known) (things : Things) (name : Value) (units : List ℕ) (type : FieldType) → Some (type_name type) ≡ found_by k units → (AreDistinct k.heads → is_class_type type ≡ true)
    → Does k things (λ s ns w. calls.for_name s.classes w (held s.heads ns name) units) things (Loads type)
class_loads k things name units type found fit names others w distinct holds = record {
  same = for_name_cases k names w (held k.heads things.names name) units ∙ ap (of_found (setting_of k names).classes w (held k.heads things.names name)) (sym found);
  class = fit distinct;
  holds = holds;
}

pub class_missing : (k : Known) (things : Things) (name : Value) (units : List ℕ) (after : Things) (work : Work) → None ≡ found_by k units
    → Does k things (λ s ns w. calls.not_found s.classes w (held s.heads ns name)) after work
    → Does k things (λ s ns w. calls.for_name s.classes w (held s.heads ns name) units) after work
class_missing k things name units after work found done =
    done_same k things (λ s ns w. calls.not_found s.classes w (held s.heads ns name)) (λ s ns w. calls.for_name s.classes w (held s.heads ns name) units) after work
    (λ names others w distinct holds. for_name_cases k names w (held k.heads things.names name) units ∙ ap (of_found (setting_of k names).classes w (held k.heads things.names name)) (sym found)) done
