-- The readers of fields and methods read the spellings of those that are sound.
use Rattle.std.proofs.Common.{◌≡◌, ℕ, ◌+◌, Bool, ◌&&◌, List, [], ◌++◌, length, Ok, refl, ap, ◌∙◌}
use Rattle.std.specs.List.{list_all}
use Rattle.std.specs.Int.{w16}
use Rattle.std.proofs.lemmas.Bool.{and_parts, and_from}
use Rattle.class_file.specs.declared.pool.PoolEntry.{PoolEntry}
use Rattle.class_file.specs.declared.types.Member.{Member}
use Rattle.class_file.specs.declared.types.Attribute.{Attribute}
use Rattle.class_file.specs.Spelling.{u2, counted, spelled_attribute, spelled_member}
use Rattle.class_file.specs.Range.{is_u2, counted_fits, attribute_fits, member_fits}
use Rattle.class_file.specs.WellFormed.{kind_in_field, kind_in_method, attributes_agree, is_name_index, content_is_sound, field_is_sound, method_is_sound}
use Rattle.class_format.specs.Readers.{Reader, number, both, made, index_that}
use Rattle.class_format.specs.Roles.{is_type_index, is_signature_index}
use Rattle.class_format.specs.PartReading.{Head, head, attributes, to_member, field, method}
use Rattle.class_format.specs.Reading.{fields, methods}
use Rattle.class_format.specs.LawsCodec.{IsCodec, u2_codec}
use Rattle.class_format.specs.LawsParts.{followed, followed_codec, followed_by, both_codec, made_codec, same_codec, index_codec, same_reader}
use Rattle.class_format.specs.LawsLists.{counted_codec, sound_listed, split_all, all_alike, and_assoc}
use Rattle.class_format.specs.LawsCode.{same_truth}
use Rattle.class_format.specs.LawsAttributes.{attributes_codec}

abbrev head_spelling : Head → List ℕ
head_spelling h = u2 h.0 ++ (u2 h.1.0 ++ u2 h.1.1)

module _ (is_type : ℕ → ℕ → Bool) (pool : List PoolEntry) where
  abbrev head_fits : Head → Bool
  head_fits h = is_u2 h.0 && ((is_u2 h.1.0 && is_name_index pool h.1.0) && (is_u2 h.1.1 && is_type h.0 h.1.1))

  head_codec : IsCodec (head is_type pool) head_spelling head_fits
  unfolding head
  head_codec =
      let s = λ (flags : ℕ). both (index_that (is_name_index pool)) (index_that (is_type flags)) in
      let a = followed_codec (number w16) s u2 (λ flags h. u2 h.0 ++ u2 h.1) is_u2 (λ flags h. (is_u2 h.0 && is_name_index pool h.0) && (is_u2 h.1 && is_type flags h.1))
      u2_codec (λ flags h. both_codec (index_that (is_name_index pool)) (index_that (is_type flags)) u2 u2 _ _ (index_codec (is_name_index pool)) (index_codec (is_type flags))) in
      let b = made_codec (λ z. (z.0, z.1)) (λ h. (h.0, h.1)) (followed (number w16) s) _ _ (λ x h. refl) (λ h. refl) a in
      let c = same_reader _ (head is_type pool) head_spelling head_fits (λ scope bytes. followed_by (number w16) s (λ z. Ok ((z.0.0, z.0.1), z.1)) scope bytes) b in
      record { takes = c.takes; again = c.again }

  -- the member fits, and is sound but for its attributes
  member_same : (f n d a i t g : Bool) → ((f && ((n && i) && (d && t))) && (a && g)) ≡ ((f && (n && (d && a))) && (i && (t && g)))
  member_same f n d a i t g =
      same_truth ((f && ((n && i) && (d && t))) && (a && g)) ((f && (n && (d && a))) && (i && (t && g)))
      (λ h.
      let j = and_parts (f && ((n && i) && (d && t))) (a && g) h in
      let k = and_parts f ((n && i) && (d && t)) j.0 in
      let l = and_parts (n && i) (d && t) k.1 in
      let m = and_parts n i l.0 in
      let o = and_parts d t l.1 in
      let p = and_parts a g j.1 in
      and_from _ _ (and_from _ _ k.0 (and_from _ _ m.0 (and_from _ _ o.0 p.0))) (and_from _ _ m.1 (and_from _ _ o.1 p.1)))
      (λ h.
      let j = and_parts (f && (n && (d && a))) (i && (t && g)) h in
      let k = and_parts f (n && (d && a)) j.0 in
      let l = and_parts n (d && a) k.1 in
      let m = and_parts d a l.1 in
      let o = and_parts i (t && g) j.1 in
      let p = and_parts t g o.1 in
      and_from _ _ (and_from _ _ k.0 (and_from _ _ (and_from _ _ l.0 o.0) (and_from _ _ m.0 p.0))) (and_from _ _ m.1 p.1))

  member_codec : (r : Reader (List Attribute)) (agree : List Attribute → Bool) → IsCodec r (counted spelled_attribute) (λ xs. counted_fits attribute_fits xs && agree xs)
      → IsCodec (made to_member (both (head is_type pool) r)) spelled_member (λ m. member_fits m && (is_name_index pool m.name && (is_type m.flags.0 m.descriptor && agree m.attributes)))
  member_codec r agree c =
      let a = both_codec (head is_type pool) r head_spelling (counted spelled_attribute) head_fits _ head_codec c in
      let b = made_codec to_member (λ m. ((m.flags.0, (m.name, m.descriptor)), m.attributes)) (both (head is_type pool) r) _ _ (λ x h. refl) (λ m. refl) a in
      let d = same_codec (made to_member (both (head is_type pool) r)) spelled_member _ (λ m. member_fits m && (is_name_index pool m.name && (is_type m.flags.0 m.descriptor && agree m.attributes)))
      (λ m. member_same (is_u2 m.flags.0) (is_u2 m.name) (is_u2 m.descriptor) (counted_fits attribute_fits m.attributes) (is_name_index pool m.name) (is_type m.flags.0 m.descriptor) (agree m.attributes)) b in
      d

module _ (major : ℕ) (pool : List PoolEntry) where
  field_codec : IsCodec (field major pool) spelled_member (λ m. member_fits m && field_is_sound major pool m)
  unfolding field
  field_codec =
      let c = member_codec (λ flags. is_type_index pool) pool (attributes kind_in_field major pool 0) (attributes_agree kind_in_field (content_is_sound major pool) pool []) (attributes_codec pool kind_in_field major 0) in
      record { takes = c.takes; again = c.again }

  method_codec : (position : ℕ) → IsCodec (method major pool position) spelled_member (λ m. member_fits m && method_is_sound major pool m)
  unfolding method
  method_codec position =
      let c = member_codec (is_signature_index pool) pool (attributes kind_in_method major pool position) (attributes_agree kind_in_method (content_is_sound major pool) pool []) (attributes_codec pool kind_in_method major position) in
      record { takes = c.takes; again = c.again }

  pub fields_codec : IsCodec (fields major pool) (counted spelled_member) (λ ms. counted_fits member_fits ms && list_all (field_is_sound major pool) ms)
  unfolding fields
  fields_codec =
      let c = sound_listed (field major pool) spelled_member member_fits (field_is_sound major pool) field_codec in
      record { takes = c.takes; again = c.again }

  pub methods_codec : IsCodec (methods major pool) (counted spelled_member) (λ ms. counted_fits member_fits ms && list_all (method_is_sound major pool) ms)
  unfolding methods
  methods_codec =
      let p = λ (m : Member). member_fits m && method_is_sound major pool m in
      let next = λ (position : ℕ) (m : Member). position + 1 in
      let a = counted_codec (method major pool) next spelled_member (λ position. p) method_codec 0 in
      let b = same_codec _ (counted spelled_member) _ (λ ms. counted_fits member_fits ms && list_all (method_is_sound major pool) ms)
      (λ ms.
      ap (λ (k : Bool). is_u2 (length ms) && k) (all_alike p next 0 ms ∙ split_all p member_fits (method_is_sound major pool) (λ m. refl) ms)
      ∙ and_assoc (is_u2 (length ms)) (list_all member_fits ms) (list_all (method_is_sound major pool) ms)) a in
      record { takes = b.takes; again = b.again }
