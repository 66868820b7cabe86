-- New objects of classes.
use Rattle.std.specs.Prelude.{◌≡◌, ℕ, suc, Bool, true, false, if◌then◌else◌, nat_lt, List, [], ◌∷◌, ◌++◌, map, length, refl}
use Rattle.std.specs.List.{AllByRecursion, zip}
use Rattle.std.proofs.Common.{sym, ◌∙◌, ap, subst, arith}
use Rattle.std.proofs.lemmas.Bool.{lt-ltb}
use Rattle.aj_names.specs.declared.ids.ClassId.{ClassId}
use Rattle.aj_names.specs.declared.types.FieldType.{FieldType}
use Rattle.class_file.specs.Pool.{Reference}
use Rattle.class_heads.specs.declared.types.ClassHead.{ClassHead}
use Rattle.class_heads.specs.Hierarchy.{name_at}
use Rattle.class_machine.specs.declared.kinds.Element.{Element}
use Rattle.class_machine.specs.Values as machine
use Rattle.class_machine.specs.Values.{Held}
use Rattle.class_machine.specs.Descriptors.{element_of, blank}
use Rattle.class_machine.specs.Classes.{Classes}
use Rattle.class_machine.specs.World as worlds
use Rattle.class_machine.specs.World.{World, is_text_class, blank_fields, new_object}
use Rattle.machine_values.specs.declared.values.Value.TheVariants.{Null}
use Rattle.machine_values.specs.declared.names.Maker.TheVariants.{Class}
use Rattle.machine_values.specs.declared.names.Name.{Name}
use Rattle.machine_values.specs.declared.content.Content.{Content}
use Rattle.machine_values.specs.declared.content.Content.TheVariants.{Values, Text}
use Rattle.machine_values.specs.First.{first_value, first_of_base}
use Rattle.machine_values.specs.NumberLaws.{made_alike}
use Rattle.machine_values.specs.StandingLaws.{length-push}
use Rattle.machine_values.specs.Things.{Things, made, next_name as kept_name, with_made}
use Rattle.machine_values.specs.Standing.{held, Settled, IsSettledContent, object_of}
use Rattle.machine_requests.specs.Telling.{AreDistinct}
use Rattle.machine_requests.specs.TellingLaws.{all_told}
use Rattle.machine_requests.specs.Shares.{Setting, Others, Shares}
use Rattle.machine_requests.specs.Growing.{make_shares}
use Rattle.machine_requests.specs.Arrays.{base_element, type_element}
use Rattle.machine_requests.specs.Objects.{IsNew, Makes}
use Rattle.machine_requests.proofs.NewArrays.{last_name, blank_base, settled_base, ref}

blank_value : (heads : List ClassHead) (names : List Name) (type : FieldType) → blank (type_element type) ≡ held heads names (first_value type)
blank_value heads names type = by (nat_lt 0 type.dims) where
  by : (array : Bool) → blank (if array then Element.Reference else base_element type.base) ≡ held heads names (if array then Null else first_of_base type.base)
  by true = refl
  by false = blank_base heads names type.base

settled_value : (n : ℕ) (type : FieldType) → Settled n (first_value type)
settled_value n type = by (nat_lt 0 type.dims) where
  by : (array : Bool) → Settled n (if array then Null else first_of_base type.base)
  by true = refl
  by false = settled_base n type.base

all_settled : (n : ℕ) (types : List FieldType) → AllByRecursion (Settled n) (map first_value types)
all_settled n [] = tt
all_settled n (type ∷ types) = (settled_value n type, all_settled n types)

-- the fields with their first values
blank_zip : (heads : List ClassHead) (names : List Name) (rs : List Reference) (types : List FieldType) → map (λ (r : Reference). element_of r.member.descriptor) rs ≡ map type_element types
    → zip rs (map (held heads names) (map first_value types)) ≡ blank_fields rs
blank_zip heads names [] types e = refl
blank_zip heads names (r ∷ rs) [] e = absurd (cc)
blank_zip heads names (r ∷ rs) (type ∷ types) e =
    let first : element_of r.member.descriptor ≡ type_element type = cc in
    let others : map (λ (x : Reference). element_of x.member.descriptor) rs ≡ map type_element types = cc in
    ap (λ (h : Held). (r, h) ∷ zip rs (map (held heads names) (map first_value types))) (sym (ap blank first ∙ blank_value heads names type))
    ∙ ap (λ l. (r, blank (element_of r.member.descriptor)) ∷ l) (blank_zip heads names rs types others)

-- an object that the heap adds is the machine's new one, where it holds what that one does
new_made : (s : Setting) (things : Things) (others : Others) (w : World) (class : ClassId) (c : Content) → AreDistinct s.heads → Shares s things others w → nat_lt class.0 (length s.heads) ≡ true
    → IsSettledContent (length things.names) c → object_of s.heads s.classes.fields things.names (Class class) c ≡ new_object s.classes (name_at s.heads class.0)
    → IsNew s (name_at s.heads class.0) w (with_made things (Class class) c).1 others (ref (length things.names))
new_made s things others w class c distinct shares within settled same =
    let name = name_at s.heads class.0 in
    let told = all_told s.heads distinct (Class class) things.names within shares.fit in
    let numbers : worlds.made w.heap name ≡ made things.names (Class class) = made_alike s.heads s.classes.fields things w.heap (Class class) shares.heap.objects told in
    record {
      name = last_name s.heads things.names (kept_name things.names (Class class)) ∙ ap (λ k. machine.Made name (suc k)) (sym numbers);
      within = let more = length-push things.names (kept_name things.names (Class class)) in lt-ltb (length things.names) (length (things.names ++ kept_name things.names (Class class) ∷ [])) (omega arith);
      shares = subst (λ (object : worlds.Object). Shares s (with_made things (Class class) c).1 others (worlds.add w name object).1) same (make_shares s things others w (Class class) c distinct shares within settled);
    }

abbrev either : Classes → List ℕ → Bool → worlds.Object
either cs class text = if text then worlds.Text [] else worlds.Instance (blank_fields (cs.fields class))

pub text_made : (things : Things) (others : Others) (class : ClassId) (types : List FieldType) → Makes class.0 true types things others (with_made things (Class class) (Text [])).1 (ref (length things.names))
text_made things others class types s w is distinct shares =
    new_made s things others w class (Text []) distinct shares is.within tt (ap (either s.classes (name_at s.heads class.0)) (sym is.of_text))

pub object_made : (things : Things) (others : Others) (class : ClassId) (types : List FieldType) → Makes class.0 false types things others (with_made things (Class class) (Values (map first_value types))).1 (ref (length things.names))
object_made things others class types s w is distinct shares =
    new_made s things others w class (Values (map first_value types)) distinct shares is.within (all_settled (length things.names) types)
    (ap worlds.Instance (blank_zip s.heads things.names (s.classes.fields (name_at s.heads class.0)) types is.of_types) ∙ ap (either s.classes (name_at s.heads class.0)) (sym is.of_text))
