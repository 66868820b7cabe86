-- The reader of the attributes of a class, a field or a method reads the spellings of those that agree.
use Rattle.std.proofs.Common.{◌≡◌, ℕ, Bool, true, false, ◌&&◌, List, [], ◌∷◌, length, Option, Some, None, Ok, refl, sym, ap, subst, ◌∙◌}
use Rattle.std.specs.Prelude.{is_some, is_none}
use Rattle.std.specs.List.{list_all}
use Rattle.std.specs.Int.{w32}
use Rattle.std.proofs.lemmas.Bool.{and_parts, and_from}
use Rattle.class_file.specs.declared.pool.PoolEntry.{PoolEntry}
use Rattle.class_file.specs.declared.types.Attribute.{Attribute}
use Rattle.class_file.specs.declared.types.Content.{Content}
use Rattle.class_file.specs.declared.types.Content.TheVariants as content
use Rattle.class_file.specs.declared.types.CodeAttr.{CodeAttr}
use Rattle.class_file.specs.declared.types.InnerClass.{InnerClass}
use Rattle.class_file.specs.Spelling.{u2, counted, spelled_inner, spelled_code, spelled_content, spelled_attribute}
use Rattle.class_file.specs.Range.{is_u2, is_u4, are_bytes, counted_fits, inner_fits, code_fits, content_fits, attribute_fits}
use Rattle.class_file.specs.Pool.{text_at}
use Rattle.class_file.specs.Sound.{is_some_that}
use Rattle.class_file.specs.Code.{code_fault}
use Rattle.class_file.specs.WellFormed.{Kind, kind_after, is_of_kind, attributes_agree, is_class_index, is_class_or_none, inner_is_sound, code_attribute_is_sound, content_is_sound}
use Rattle.class_format.specs.declared.fault.ClassFault.TheVariants.{Code}
use Rattle.class_format.specs.Readers.{made, listed, index_that, unless, others, behind_length}
use Rattle.class_format.specs.Roles.{is_text_index, is_constant_index}
use Rattle.class_format.specs.PartReading.{inner_class, code, held, kind_at, fault_in, to_attribute, attribute, with_name, attributes}
use Rattle.class_format.specs.LawsCodec.{ok_is, Takes, IsCodec, sized_spelling}
use Rattle.class_format.specs.LawsParts.{followed, followed_codec, followed_by, made_codec, same_codec, index_codec, same_reader, bind_assoc, unless_codec, IsWhole, whole_from, others_whole, kind_whole, length_codec}
use Rattle.class_format.specs.LawsLists.{all_in_turn, counted_codec, sound_listed}
use Rattle.class_format.specs.LawsCode.{same_truth, no_such, inner_codec, code_stands, code_codec}

and_true : (b : Bool) → (b && true) ≡ b
and_true true = refl
and_true false = refl

module _ (pool : List PoolEntry) where
  -- ---- contents

  -- but for the places in code
  abbrev content_stands : Content → Bool
  content_stands (content.Code c) = code_stands pool c
  content_stands (content.ConstantValue constant) = is_constant_index pool constant
  content_stands (content.Exceptions classes) = list_all (is_class_index pool) classes
  content_stands (content.InnerClasses classes) = list_all (inner_is_sound pool) classes
  content_stands _ = true

  abbrev is_held : Kind → Content → Bool
  is_held kind c = content_fits c && (is_of_kind kind c && content_stands c)

  code_back : (c : Content) → is_held Kind.Code c ≡ true → (x : CodeAttr) × ((code_fits x && code_stands pool x) ≡ true) × (content.Code x ≡ c)
  code_back (content.Code x) h = (x, h, refl)
  code_back c h = no_such (content_fits c) h

  constant_back : (c : Content) → is_held Kind.ConstantValue c ≡ true → (x : ℕ) × ((is_u2 x && is_constant_index pool x) ≡ true) × (content.ConstantValue x ≡ c)
  constant_back (content.ConstantValue x) h = (x, h, refl)
  constant_back c h = no_such (content_fits c) h

  exceptions_back : (c : Content) → is_held Kind.Exceptions c ≡ true → (x : List ℕ) × ((counted_fits is_u2 x && list_all (is_class_index pool) x) ≡ true) × (content.Exceptions x ≡ c)
  exceptions_back (content.Exceptions x) h = (x, h, refl)
  exceptions_back c h = no_such (content_fits c) h

  inners_back : (c : Content) → is_held Kind.InnerClasses c ≡ true → (x : List InnerClass) × ((counted_fits inner_fits x && list_all (inner_is_sound pool) x) ≡ true) × (content.InnerClasses x ≡ c)
  inners_back (content.InnerClasses x) h = (x, h, refl)
  inners_back c h = no_such (content_fits c) h

  other_back : (c : Content) → is_held Kind.Other c ≡ true → (x : List ℕ) × (are_bytes x ≡ true) × (content.Other x ≡ c)
  other_back (content.Other x) h = (x, (and_parts (are_bytes x) true h).0, refl)
  other_back c h = no_such (content_fits c) h

  is_the_synthetic : (c : Content) → is_held Kind.Synthetic c ≡ true → content.Synthetic ≡ c
  is_the_synthetic content.Synthetic h = refl
  is_the_synthetic c h = no_such (content_fits c) h

  held_whole : (kind : Kind) → IsWhole (held pool kind) spelled_content (is_held kind)
  unfolding held
  held_whole Kind.Code =
      let c = kind_whole content.Code (code pool) spelled_code (λ x. code_fits x && code_stands pool x) spelled_content (is_held Kind.Code) (λ x h. (refl, h)) code_back (whole_from _ _ _ (code_codec pool)) in
      record { takes = c.takes; again = c.again }
  held_whole Kind.ConstantValue =
      let c = kind_whole content.ConstantValue (index_that (is_constant_index pool)) u2 (λ x. is_u2 x && is_constant_index pool x) spelled_content (is_held Kind.ConstantValue) (λ x h. (refl, h)) constant_back
      (whole_from _ _ _ (index_codec (is_constant_index pool))) in
      record { takes = c.takes; again = c.again }
  held_whole Kind.Exceptions =
      let c = kind_whole content.Exceptions (listed (index_that (is_class_index pool))) (counted u2) (λ x. counted_fits is_u2 x && list_all (is_class_index pool) x) spelled_content (is_held Kind.Exceptions) (λ x h. (refl, h)) exceptions_back
      (whole_from _ _ _ (sound_listed (index_that (is_class_index pool)) u2 is_u2 (is_class_index pool) (index_codec (is_class_index pool)))) in
      record { takes = c.takes; again = c.again }
  held_whole Kind.InnerClasses =
      let c = kind_whole content.InnerClasses (listed (inner_class pool)) (counted spelled_inner) (λ x. counted_fits inner_fits x && list_all (inner_is_sound pool) x) spelled_content (is_held Kind.InnerClasses) (λ x h. (refl, h)) inners_back
      (whole_from _ _ _ (sound_listed (inner_class pool) spelled_inner inner_fits (inner_is_sound pool) (inner_codec pool))) in
      record { takes = c.takes; again = c.again }
  held_whole Kind.Synthetic = record {
    takes = λ scope bytes x fits e.
        subst (λ (y : Content × List ℕ). Takes bytes (spelled_content y.0) y.1 × (is_held Kind.Synthetic y.0 ≡ true)) (ok_is (content.Synthetic, bytes) x e) (record { parts = refl; rest_fits = fits }, refl);
    again = λ scope x fits. subst (λ (y : Content). held pool Kind.Synthetic scope (spelled_content y) ≡ Ok (y, [])) (is_the_synthetic x fits) refl;
  }
  held_whole Kind.Other =
      let c = kind_whole content.Other others (λ b. b) are_bytes spelled_content (is_held Kind.Other) (λ x h. (refl, and_from _ _ h refl)) other_back others_whole in
      record { takes = c.takes; again = c.again }

  -- ---- attributes

  module _ (kind_in : List ℕ → Kind) (major : ℕ) where
    kind_same : (earlier : List (List ℕ)) (c : Content) (o : Option (List ℕ)) → (is_some o && is_of_kind (elim o [ Some name ↦ kind_after kind_in earlier name | None ↦ Kind.Other ]) c) ≡ is_some_that (λ name. is_of_kind (kind_after kind_in earlier name) c) o
    kind_same earlier c (Some name) = refl
    kind_same earlier c None = refl

    and_last : (a b d : Bool) → ((a && b) && d) ≡ (a && (b && d))
    and_last true b d = refl
    and_last false b d = refl

    sound_same : (c : Content) → (content_stands c && is_none (fault_in major pool c)) ≡ content_is_sound major pool c
    sound_same (content.Code c) = and_last (list_all (λ e. is_class_or_none pool e.catch_type) c.entries) (list_all (code_attribute_is_sound pool) c.attributes) (is_none (code_fault major pool c))
    sound_same (content.ConstantValue constant) = and_true (is_constant_index pool constant)
    sound_same (content.Exceptions classes) = and_true (list_all (is_class_index pool) classes)
    sound_same (content.InnerClasses classes) = and_true (list_all (inner_is_sound pool) classes)
    sound_same content.Synthetic = refl
    sound_same (content.Other bytes) = refl

    attribute_same : (n i w f k s d : Bool) → (((n && i) && (w && (f && (k && s)))) && d) ≡ ((n && (w && f)) && ((i && k) && (s && d)))
    attribute_same n i w f k s d =
        same_truth (((n && i) && (w && (f && (k && s)))) && d) ((n && (w && f)) && ((i && k) && (s && d)))
        (λ h.
        let z = and_parts ((n && i) && (w && (f && (k && s)))) d h in
        let a = and_parts (n && i) (w && (f && (k && s))) z.0 in
        let b = and_parts n i a.0 in
        let c = and_parts w (f && (k && s)) a.1 in
        let e = and_parts f (k && s) c.1 in
        let g = and_parts k s e.1 in
        and_from _ _ (and_from _ _ b.0 (and_from _ _ c.0 e.0)) (and_from _ _ (and_from _ _ b.1 g.0) (and_from _ _ g.1 z.1)))
        (λ h.
        let a = and_parts (n && (w && f)) ((i && k) && (s && d)) h in
        let b = and_parts n (w && f) a.0 in
        let c = and_parts w f b.1 in
        let e = and_parts (i && k) (s && d) a.1 in
        let g = and_parts i k e.0 in
        let j = and_parts s d e.1 in
        and_from _ _ (and_from _ _ (and_from _ _ b.0 g.0) (and_from _ _ c.0 (and_from _ _ c.1 (and_from _ _ g.1 j.0)))) j.1)

    abbrev agrees_after : List (List ℕ) → Attribute → Bool
    agrees_after earlier a = attribute_fits a && (is_some_that (λ name. is_of_kind (kind_after kind_in earlier name) a.content) (text_at pool a.name) && content_is_sound major pool a.content)

    module _ (position : ℕ) where
      attribute_codec : (earlier : List (List ℕ)) → IsCodec (attribute kind_in major pool position earlier) spelled_attribute (agrees_after earlier)
      unfolding attribute
      attribute_codec earlier =
          let s = λ (name : ℕ). behind_length (held pool (kind_at kind_in pool earlier name)) in
          let a = followed_codec (index_that (is_text_index pool)) s u2 (λ name c. sized_spelling w32 (spelled_content c)) (λ n. is_u2 n && is_text_index pool n)
          (λ name c. is_u4 (length (spelled_content c)) && is_held (kind_at kind_in pool earlier name) c)
          (index_codec (is_text_index pool)) (λ name h. length_codec (held pool (kind_at kind_in pool earlier name)) spelled_content (is_held (kind_at kind_in pool earlier name)) (held_whole (kind_at kind_in pool earlier name))) in
          let b = made_codec (λ z. to_attribute z.0 z.1) (λ a. (a.name, a.content)) (followed (index_that (is_text_index pool)) s) _ _ (λ x h. refl) (λ a. refl) a in
          let c = unless_codec (λ a. fault_in major pool a.content) (Code position) (made (λ z. to_attribute z.0 z.1) (followed (index_that (is_text_index pool)) s)) _ _ b in
          let d = same_codec _ spelled_attribute _ (agrees_after earlier)
          (λ a.
          attribute_same (is_u2 a.name) (is_text_index pool a.name) (is_u4 (length (spelled_content a.content))) (content_fits a.content) (is_of_kind (kind_at kind_in pool earlier a.name) a.content) (content_stands a.content) (is_none (fault_in major pool a.content))
          ∙ ap (λ (k : Bool). attribute_fits a && (k && (content_stands a.content && is_none (fault_in major pool a.content)))) (kind_same earlier a.content (text_at pool a.name))
          ∙ ap (λ (k : Bool). attribute_fits a && (is_some_that (λ name. is_of_kind (kind_after kind_in earlier name) a.content) (text_at pool a.name) && k)) (sound_same a.content)) c in
          let e = same_reader _ (attribute kind_in major pool position earlier) spelled_attribute (agrees_after earlier)
          (λ scope bytes.
          followed_by (index_that (is_text_index pool)) s (λ z. unless (fault_in major pool z.0.1) (Code position) (to_attribute z.0.0 z.0.1, z.1)) scope bytes
          ∙ sym (bind_assoc (followed (index_that (is_text_index pool)) s scope bytes) (λ z. Ok (to_attribute z.0.0 z.0.1, z.1)) (λ a. unless (fault_in major pool a.0.content) (Code position) a))) d in
          record { takes = e.takes; again = e.again }

      and_cross : (a b c d e : Bool) → ((a && (b && c)) && (d && e)) ≡ ((a && d) && (b && (c && e)))
      and_cross a b c d e =
          same_truth ((a && (b && c)) && (d && e)) ((a && d) && (b && (c && e)))
          (λ h.
          let i = and_parts (a && (b && c)) (d && e) h in
          let j = and_parts a (b && c) i.0 in
          let k = and_parts b c j.1 in
          let m = and_parts d e i.1 in
          and_from _ _ (and_from _ _ j.0 m.0) (and_from _ _ k.0 (and_from _ _ k.1 m.1)))
          (λ h.
          let i = and_parts (a && d) (b && (c && e)) h in
          let j = and_parts a d i.0 in
          let k = and_parts b (c && e) i.1 in
          let m = and_parts c e k.1 in
          and_from _ _ (and_from _ _ j.0 (and_from _ _ k.0 m.0)) (and_from _ _ j.1 m.1))

      all_agree : (earlier : List (List ℕ)) (xs : List Attribute) → all_in_turn agrees_after (with_name pool) earlier xs ≡ (list_all attribute_fits xs && attributes_agree kind_in (content_is_sound major pool) pool earlier xs)
      unfolding all_in_turn
      all_agree earlier [] = refl
      all_agree earlier (a ∷ xs) =
          ap (λ (b : Bool). agrees_after earlier a && b) (all_agree (with_name pool earlier a) xs)
          ∙ and_cross (attribute_fits a) (is_some_that (λ name. is_of_kind (kind_after kind_in earlier name) a.content) (text_at pool a.name)) (content_is_sound major pool a.content) (list_all attribute_fits xs) (attributes_agree kind_in (content_is_sound major pool) pool (with_name pool earlier a) xs)

      pub attributes_codec : IsCodec (attributes kind_in major pool position) (counted spelled_attribute) (λ xs. counted_fits attribute_fits xs && attributes_agree kind_in (content_is_sound major pool) pool [] xs)
      unfolding attributes
      attributes_codec =
          let a = counted_codec (attribute kind_in major pool position) (with_name pool) spelled_attribute agrees_after attribute_codec [] in
          let b = same_codec _ (counted spelled_attribute) _ (λ xs. counted_fits attribute_fits xs && attributes_agree kind_in (content_is_sound major pool) pool [] xs)
          (λ xs. ap (λ (k : Bool). is_u2 (length xs) && k) (all_agree [] xs) ∙ sym (and_last (is_u2 (length xs)) (list_all attribute_fits xs) (attributes_agree kind_in (content_is_sound major pool) pool [] xs))) a in
          record { takes = b.takes; again = b.again }
