-- Objects keep a value for each field of their class where texts are made and appended.
use Rattle.std.specs.Prelude.{◌≡◌, ℕ, zero, suc, ◌<◌, ◌==◌, true, is_some, List, [], ◌∷◌, length, slice_get, slice_set, Option, Some, None, refl}
use Rattle.std.proofs.Common.{sym, ◌∙◌, ap, subst, inl, inr, eq-eqb}
use Rattle.std.proofs.lemmas.Bool.{cases_Bool, eqb-true, false≢true}
use Rattle.aj_names.specs.declared.ids.ClassId.{ClassId}
use Rattle.class_file.specs.Pool.{Reference}
use Rattle.class_heads.specs.declared.types.ClassHead.{ClassHead}
use Rattle.class_heads.specs.Hierarchy.{name_at}
use Rattle.class_world.specs.Tables.{Known}
use Rattle.class_machine.specs.Values.{class_of, string_class}
use Rattle.class_machine.specs.World.{is_text_class}
use Rattle.machine_values.specs.declared.content.Content.{Content}
use Rattle.machine_values.specs.declared.content.Content.TheVariants.{Values, Text, Fixed}
use Rattle.machine_values.specs.declared.names.Maker.TheVariants.{Class, Array}
use Rattle.machine_values.specs.declared.names.Name.{Name}
use Rattle.machine_values.specs.declared.names.Name.TheVariants.{Made, Literal, ClassObject}
use Rattle.machine_values.specs.declared.values.Ref.{Ref}
use Rattle.machine_values.specs.Standing.{name_in}
use Rattle.machine_values.specs.Things.{Things, changed, next_name, with_made}
use Rattle.machine_requests.proofs.Fills.{grown_filled}
use Rattle.machine_requests.specs.Objects.{fields_in, AreFilled}
use Rattle.machine_requests.specs.Shares.{Setting}
use Rattle.machine_rules.specs.Filling.{FillsStill}
use Rattle.machine_rules.specs.Texts.{text_in, text_at}

-- ---- a new String

pub string_filled : (k : Known) (things : Things) (units : List ℕ) (class : ClassId) → name_at k.heads class.0 ≡ string_class → FillsStill k things (with_made things (Class class) (Text units)).1
string_filled k things units class named s is bare whole filled =
    let text : is_text_class (name_at s.heads class.0) ≡ true = ap (λ (heads : List ClassHead). is_text_class (name_at heads class.0)) is.heads ∙ ap is_text_class named in
    grown_filled things (next_name things.names (Class class)) (Text units) s whole filled (sym (ap (length {A = Reference}) (bare.texts (name_at s.heads class.0) text)))

-- ---- another text

no_fields : (o : Option Name) (units : List ℕ) → length (fields_in o (Some (Text units))) ≡ 0
no_fields None units = refl
no_fields (Some (Made (Class class) k)) units = refl
no_fields (Some (Made (Array type) k)) units = refl
no_fields (Some (Literal text)) units = refl
no_fields (Some (ClassObject type)) units = refl

nothing_there : (o : Option Name) → length (fields_in o None) ≡ 0
nothing_there None = refl
nothing_there (Some (Made (Class class) k)) = refl
nothing_there (Some (Made (Array type) k)) = refl
nothing_there (Some (Literal text)) = refl
nothing_there (Some (ClassObject type)) = refl

bare_there : (o : Option Name) (cs : List Content) (at : ℕ) (units : List ℕ) → length (fields_in o (slice_get (slice_set cs at (Text units)) at)) ≡ 0
bare_there o [] at units = nothing_there o
bare_there o (c ∷ cs) zero units = no_fields o units
bare_there o (c ∷ cs) (suc at) units = bare_there o cs at units

same_elsewhere : (cs : List Content) (at i : ℕ) (c : Content) → (i ≡ at → ⊥) → slice_get (slice_set cs at c) i ≡ slice_get cs i
same_elsewhere [] at i c h = refl
same_elsewhere (x ∷ cs) zero zero c h = absurd (h refl)
same_elsewhere (x ∷ cs) zero (suc i) c h = refl
same_elsewhere (x ∷ cs) (suc at) zero c h = refl
same_elsewhere (x ∷ cs) (suc at) (suc i) c h = same_elsewhere cs at i c (λ e. h (ap suc e))

text_empty : (o : Option Name) (c : Option Content) → is_some (text_in o c) ≡ true → length (fields_in o c) ≡ 0
text_empty None c is = refl
text_empty (Some (Made (Class class) k)) None is = refl
text_empty (Some (Made (Class class) k)) (Some (Values vs)) is = absurd (false≢true is)
text_empty (Some (Made (Class class) k)) (Some (Text units)) is = refl
text_empty (Some (Made (Class class) k)) (Some Fixed) is = refl
text_empty (Some (Made (Array type) k)) c is = refl
text_empty (Some (Literal text)) c is = refl
text_empty (Some (ClassObject type)) c is = refl

-- what has a text has no fields
pub text_changed : (things : Things) (at : Ref) (units : List ℕ) → is_some (text_at things at.0) ≡ true → (s : Setting) → AreFilled things s → AreFilled (changed things at.0 (Text units)) s
text_changed things at units text s filled = record {
  each = λ i below. elim (cases_Bool (i == at.0)) [
    | inl same ↦
        let e : i ≡ at.0 = eqb-true i at.0 same in
        subst (λ (j : ℕ). length (fields_in (slice_get things.names j) (slice_get (slice_set things.contents at.0 (Text units)) j)) ≡ length (s.classes.fields (class_of (name_in s.heads (slice_get things.names j))))) (sym e)
        (bare_there (slice_get things.names at.0) things.contents at.0 units ∙ sym (text_empty (slice_get things.names at.0) (slice_get things.contents at.0) text)
        ∙ filled.each at.0 (subst (λ (j : ℕ). j < length things.names) e below))
    | inr differ ↦
        ap (λ (o : Option Content). length (fields_in (slice_get things.names i) o)) (same_elsewhere things.contents at.0 i (Text units) (λ e. false≢true (sym differ ∙ eq-eqb i at.0 e)))
        ∙ filled.each i below
  ];
}

-- ---- texts that go on

pub kept_still : (k : Known) (things : Things) → FillsStill k things things
kept_still k things s is bares whole filled = filled

pub plain_still : (k : Known) (before after : Things) → ((s : Setting) → AreFilled before s → AreFilled after s) → FillsStill k before after
plain_still k before after plain s is bares whole filled = plain s filled

-- a text is made, and then appended
pub made_and_set : (k : Known) (before mid after : Things) → FillsStill k before mid → ((s : Setting) → AreFilled mid s → AreFilled after s) → FillsStill k before after
made_and_set k before mid after made plain s is bares whole filled = plain s (made s is bares whole filled)
