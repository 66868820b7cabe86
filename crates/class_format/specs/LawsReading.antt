-- Reading and spelling are inverse to one another: what is read is a well-formed class, and spelled so,
-- and a well-formed class is read from its spelling.
use Rattle.std.proofs.Common.{◌≡◌, ℕ, ◌-◌, Bool, true, ◌&&◌, eqb, List, [], ◌++◌, length, Result, Ok, Err, refl, sym, ap, subst, ◌∙◌, append-nil}
use Rattle.std.specs.Prelude.{IfOk}
use Rattle.std.specs.List.{list_all}
use Rattle.std.specs.Int.{w16, w32}
use Rattle.std.proofs.lemmas.Bool.{and_parts, and_from, eqb-true}
use Rattle.std.proofs.lemmas.List.{nil_from_length}
use Rattle.class_file.specs.declared.pool.PoolEntry.{PoolEntry}
use Rattle.class_file.specs.declared.types.ClassFile.{ClassFile}
use Rattle.class_file.specs.Spelling.{u2, u4, counted, magic, spelled_pool, spelled_attribute, spelled_member, spelling}
use Rattle.class_file.specs.Range.{is_u2, is_u4, counted_fits, attribute_fits, member_fits, pool_fits}
use Rattle.class_file.specs.Text.{within}
use Rattle.class_file.specs.Sound.{pool_is_sound, entries_agree}
use Rattle.class_file.specs.WellFormed.{kind_in_class, attributes_agree, is_class_index, content_is_sound, field_is_sound, method_is_sound, has_known_version, is_well_formed}
use Rattle.class_format.specs.declared.fault.ClassFault.{ClassFault}
use Rattle.class_format.specs.declared.fault.ClassFault.TheVariants.{Magic, Version, Trailing}
use Rattle.class_format.specs.declared.scope.Scope.{Scope}
use Rattle.class_format.specs.Gives.{Gives}
use Rattle.class_format.specs.Readers.{Reader, number, both, made, judged, listed, index_that}
use Rattle.class_format.specs.PoolReading.{pool}
use Rattle.class_format.specs.PartReading.{attributes}
use Rattle.class_format.specs.Roles.{is_this_index}
use Rattle.class_format.specs.Reading.{magic_number, versions, version, Names, names, fields, methods, Parts, parts, to_class, class, file_scope, ended, reading}
use Rattle.class_format.specs.LawsCodec.{IsBytes, bind_ok, passed, ok_is, IsCodec, u2_codec, u4_codec}
use Rattle.class_format.specs.LawsParts.{bind_same, followed, followed_codec, followed_by, both_codec, made_codec, judged_codec, same_codec, index_codec, same_reader}
use Rattle.class_format.specs.LawsLists.{sound_listed}
use Rattle.class_format.specs.LawsCode.{same_truth}
use Rattle.class_format.specs.LawsPool.{pool_codec}
use Rattle.class_format.specs.LawsAttributes.{attributes_codec}
use Rattle.class_format.specs.LawsMembers.{fields_codec, methods_codec}

-- ---- the version

abbrev version_spelling : ℕ × ℕ → List ℕ
version_spelling v = magic ++ (u2 v.0 ++ u2 v.1)

abbrev version_fits : ℕ × ℕ → Bool
version_fits v = (is_u2 v.0 && is_u2 v.1) && within 46 50 v.1

magic_is : (m : ℕ) (v : ℕ × ℕ) → ((is_u4 m && eqb m 0xCAFEBABE) && version_fits v) ≡ true → ◌≡◌ {A = ℕ × (ℕ × ℕ)} (0xCAFEBABE, v) (m, v)
magic_is m v h = ap (λ (n : ℕ). (n, v)) (sym (eqb-true m 0xCAFEBABE (and_parts (is_u4 m) (eqb m 0xCAFEBABE) (and_parts (is_u4 m && eqb m 0xCAFEBABE) (version_fits v) h).0).1))

version_codec : IsCodec version version_spelling version_fits
unfolding version
version_codec =
    let m = judged_codec (λ n. eqb n 0xCAFEBABE) (λ n. Magic) (number w32) u4 is_u4 u4_codec in
    let n = both_codec (number w16) (number w16) u2 u2 is_u2 is_u2 u2_codec u2_codec in
    let v = judged_codec (λ v. within 46 50 v.1) (λ v. Version v.1) (both (number w16) (number w16)) (λ v. u2 v.0 ++ u2 v.1) (λ v. is_u2 v.0 && is_u2 v.1) n in
    let a = both_codec (judged (λ n. eqb n 0xCAFEBABE) (λ n. Magic) (number w32)) (judged (λ v. within 46 50 v.1) (λ v. Version v.1) (both (number w16) (number w16))) u4 (λ v. u2 v.0 ++ u2 v.1) _ _ m v in
    let b = made_codec (λ x. x.1) (λ v. (0xCAFEBABE, v)) (both magic_number versions) _ _ (λ x h. magic_is x.0 x.1 h) (λ v. refl) a in
    record { takes = b.takes; again = b.again }

-- ---- the parts behind the pool

module _ (major : ℕ) (pool : List PoolEntry) where
  abbrev names_spelling : Names → List ℕ
  names_spelling n = u2 n.0 ++ (u2 n.1.0 ++ (u2 n.1.1.0 ++ counted u2 n.1.1.1))

  abbrev names_fit : Names → Bool
  names_fit n = is_u2 n.0 && ((is_u2 n.1.0 && is_this_index pool n.1.0) && ((is_u2 n.1.1.0 && is_class_index pool n.1.1.0) && (counted_fits is_u2 n.1.1.1 && list_all (is_class_index pool) n.1.1.1)))

  names_codec : IsCodec (names pool) names_spelling names_fit
  unfolding names
  names_codec =
      let l = sound_listed (index_that (is_class_index pool)) u2 is_u2 (is_class_index pool) (index_codec (is_class_index pool)) in
      let a = both_codec (index_that (is_class_index pool)) (listed (index_that (is_class_index pool))) u2 (counted u2) _ _ (index_codec (is_class_index pool)) l in
      let b = both_codec (index_that (is_this_index pool)) _ u2 _ _ _ (index_codec (is_this_index pool)) a in
      let c = both_codec (number w16) _ u2 _ is_u2 _ u2_codec b in
      record { takes = c.takes; again = c.again }

  abbrev parts_spelling : Parts → List ℕ
  parts_spelling p = counted spelled_member p.0 ++ (counted spelled_member p.1.0 ++ counted spelled_attribute p.1.1)

  abbrev parts_fit : Parts → Bool
  parts_fit p =
      (counted_fits member_fits p.0 && list_all (field_is_sound major pool) p.0) && ((counted_fits member_fits p.1.0 && list_all (method_is_sound major pool) p.1.0)
      && (counted_fits attribute_fits p.1.1 && attributes_agree kind_in_class (content_is_sound major pool) pool [] p.1.1))

  parts_codec : IsCodec (parts major pool) parts_spelling parts_fit
  unfolding parts
  parts_codec =
      let a = both_codec (methods major pool) (attributes kind_in_class major pool 0) (counted spelled_member) (counted spelled_attribute) _ _ (methods_codec major pool) (attributes_codec pool kind_in_class major 0) in
      let b = both_codec (fields major pool) _ (counted spelled_member) _ _ _ (fields_codec major pool) a in
      record { takes = b.takes; again = b.again }

  abbrev behind_pool : Reader (Names × Parts)
  behind_pool scope bytes = both (names pool) (parts major pool) scope bytes

  abbrev behind_spelling : Names × Parts → List ℕ
  behind_spelling x = names_spelling x.0 ++ parts_spelling x.1

  abbrev behind_fits : Names × Parts → Bool
  behind_fits x = names_fit x.0 && parts_fit x.1

  behind_codec : IsCodec behind_pool behind_spelling behind_fits
  behind_codec = both_codec (names pool) (parts major pool) names_spelling parts_spelling names_fit parts_fit names_codec parts_codec

-- ---- the class

-- the form's tests, each by its part
module _ (mi ma ver pf en fl th tn su sn ic ia fc fs mc ms ac at : Bool) where
  abbrev as_read : Bool
  as_read = ((mi && ma) && ver) && ((pf && en) && ((fl && ((th && tn) && ((su && sn) && (ic && ia)))) && ((fc && fs) && ((mc && ms) && (ac && at)))))

  abbrev as_stated : Bool
  as_stated = (mi && (ma && (pf && (fl && (th && (su && (ic && (fc && (mc && ac))))))))) && (ver && ((pf && en) && ((tn && (sn && ia)) && (fs && (ms && at)))))

  class_same : as_read ≡ as_stated
  class_same =
      same_truth as_read as_stated
      (λ h.
      let a = and_parts ((mi && ma) && ver) ((pf && en) && ((fl && ((th && tn) && ((su && sn) && (ic && ia)))) && ((fc && fs) && ((mc && ms) && (ac && at))))) h in
      let b = and_parts (mi && ma) ver a.0 in
      let c = and_parts mi ma b.0 in
      let d = and_parts (pf && en) ((fl && ((th && tn) && ((su && sn) && (ic && ia)))) && ((fc && fs) && ((mc && ms) && (ac && at)))) a.1 in
      let e = and_parts pf en d.0 in
      let f = and_parts (fl && ((th && tn) && ((su && sn) && (ic && ia)))) ((fc && fs) && ((mc && ms) && (ac && at))) d.1 in
      let g = and_parts fl ((th && tn) && ((su && sn) && (ic && ia))) f.0 in
      let i = and_parts (th && tn) ((su && sn) && (ic && ia)) g.1 in
      let j = and_parts th tn i.0 in
      let k = and_parts (su && sn) (ic && ia) i.1 in
      let l = and_parts su sn k.0 in
      let m = and_parts ic ia k.1 in
      let n = and_parts (fc && fs) ((mc && ms) && (ac && at)) f.1 in
      let o = and_parts fc fs n.0 in
      let p = and_parts (mc && ms) (ac && at) n.1 in
      let q = and_parts mc ms p.0 in
      let r = and_parts ac at p.1 in
      and_from _ _
      (and_from _ _ c.0 (and_from _ _ c.1 (and_from _ _ e.0 (and_from _ _ g.0 (and_from _ _ j.0 (and_from _ _ l.0 (and_from _ _ m.0 (and_from _ _ o.0 (and_from _ _ q.0 r.0)))))))))
      (and_from _ _ b.1 (and_from _ _ d.0 (and_from _ _ (and_from _ _ j.1 (and_from _ _ l.1 m.1)) (and_from _ _ o.1 (and_from _ _ q.1 r.1))))))
      (λ h.
      let a = and_parts (mi && (ma && (pf && (fl && (th && (su && (ic && (fc && (mc && ac))))))))) (ver && ((pf && en) && ((tn && (sn && ia)) && (fs && (ms && at))))) h in
      let b = and_parts mi (ma && (pf && (fl && (th && (su && (ic && (fc && (mc && ac)))))))) a.0 in
      let c = and_parts ma (pf && (fl && (th && (su && (ic && (fc && (mc && ac))))))) b.1 in
      let d = and_parts pf (fl && (th && (su && (ic && (fc && (mc && ac)))))) c.1 in
      let e = and_parts fl (th && (su && (ic && (fc && (mc && ac))))) d.1 in
      let f = and_parts th (su && (ic && (fc && (mc && ac)))) e.1 in
      let g = and_parts su (ic && (fc && (mc && ac))) f.1 in
      let i = and_parts ic (fc && (mc && ac)) g.1 in
      let j = and_parts fc (mc && ac) i.1 in
      let k = and_parts mc ac j.1 in
      let l = and_parts ver ((pf && en) && ((tn && (sn && ia)) && (fs && (ms && at)))) a.1 in
      let m = and_parts (pf && en) ((tn && (sn && ia)) && (fs && (ms && at))) l.1 in
      let n = and_parts (tn && (sn && ia)) (fs && (ms && at)) m.1 in
      let o = and_parts tn (sn && ia) n.0 in
      let p = and_parts sn ia o.1 in
      let q = and_parts fs (ms && at) n.1 in
      let r = and_parts ms at q.1 in
      and_from _ _ (and_from _ _ (and_from _ _ b.0 c.0) l.0)
      (and_from _ _ m.0
      (and_from _ _ (and_from _ _ e.0 (and_from _ _ (and_from _ _ f.0 o.0) (and_from _ _ (and_from _ _ g.0 p.0) (and_from _ _ i.0 p.1))))
      (and_from _ _ (and_from _ _ j.0 q.0) (and_from _ _ (and_from _ _ k.0 r.0) (and_from _ _ k.1 r.1))))))

well_formed_same : (c : ClassFile) →
    (version_fits (c.minor, c.major) && (pool_is_sound c.pool && behind_fits c.major c.pool ((c.flags.0, (c.this_class, (c.super_class, c.interfaces))), (c.fields, (c.methods, c.attributes))))) ≡ is_well_formed c
well_formed_same c =
    class_same (is_u2 c.minor) (is_u2 c.major) (has_known_version c) (pool_fits c.pool) (entries_agree c.pool) (is_u2 c.flags.0) (is_u2 c.this_class) (is_this_index c.pool c.this_class)
    (is_u2 c.super_class) (is_class_index c.pool c.super_class) (counted_fits is_u2 c.interfaces) (list_all (is_class_index c.pool) c.interfaces)
    (counted_fits member_fits c.fields) (list_all (field_is_sound c.major c.pool) c.fields) (counted_fits member_fits c.methods) (list_all (method_is_sound c.major c.pool) c.methods)
    (counted_fits attribute_fits c.attributes) (attributes_agree kind_in_class (content_is_sound c.major c.pool) c.pool [] c.attributes)

abbrev Whole : Type 0
Whole = (ℕ × ℕ) × (List PoolEntry × (Names × Parts))

abbrev from_class : ClassFile → Whole
from_class c = ((c.minor, c.major), (c.pool, ((c.flags.0, (c.this_class, (c.super_class, c.interfaces))), (c.fields, (c.methods, c.attributes)))))

abbrev made_class : Whole → ClassFile
made_class w = to_class w.0 w.1.0 w.1.1

abbrev behind_version : ℕ × ℕ → Reader (List PoolEntry × (Names × Parts))
behind_version v scope bytes = followed pool (λ p. behind_pool v.1 p) scope bytes

class_is : (scope : Scope) (bytes : List ℕ) → class scope bytes ≡ made made_class (followed version behind_version) scope bytes
unfolding class
class_is scope bytes =
    bind_same (version scope bytes) _ _ (λ v. followed_by pool (λ p. behind_pool v.0.1 p) (λ z. Ok (to_class v.0 z.0.0 z.0.1, z.1)) scope v.1)
    ∙ followed_by version behind_version (λ z. Ok (to_class z.0.0 z.0.1.0 z.0.1.1, z.1)) scope bytes

class_codec : IsCodec class spelling is_well_formed
class_codec =
    let a = λ (v : ℕ × ℕ). followed_codec pool (λ p. behind_pool v.1 p) spelled_pool (λ p. behind_spelling v.1 p) pool_is_sound (λ p. behind_fits v.1 p) pool_codec (λ p h. behind_codec v.1 p) in
    let b = followed_codec version behind_version version_spelling (λ v x. spelled_pool x.0 ++ behind_spelling v.1 x.0 x.1) version_fits (λ v x. pool_is_sound x.0 && behind_fits v.1 x.0 x.1) version_codec (λ v h. a v) in
    let c = made_codec made_class from_class (followed version behind_version) _ _ (λ x h. refl) (λ y. refl) b in
    let d = same_codec (made made_class (followed version behind_version)) spelling _ is_well_formed well_formed_same c in
    same_reader (made made_class (followed version behind_version)) class spelling is_well_formed class_is d

-- ---- the two laws

-- what is read is a well-formed class, and the bytes are its spelling
pub reading_takes : (bytes : List ℕ) (c : ClassFile) → IsBytes bytes → reading bytes ≡ Ok c → (is_well_formed c ≡ true) × (bytes ≡ spelling c)
unfolding reading
reading_takes bytes c fits e =
    let a = bind_ok (class (file_scope (length bytes)) bytes) (ended (length bytes)) c e in
    let g = passed (eqb (length a.0.1) 0) (Trailing (length bytes - length a.0.1)) (Ok a.0.0) c a.2 in
    let t = class_codec.takes (file_scope (length bytes)) bytes a.0 fits a.1 in
    let whole : bytes ≡ spelling a.0.0 = t.0.parts ∙ ap (λ (r : List ℕ). spelling a.0.0 ++ r) (nil_from_length a.0.1 (eqb-true _ _ g.0)) ∙ append-nil (spelling a.0.0) in
    subst (λ (d : ClassFile). (is_well_formed d ≡ true) × (bytes ≡ spelling d)) (ok_is a.0.0 c g.1) (t.1, whole)

-- a well-formed class is read from its spelling
pub reading_again : (c : ClassFile) → is_well_formed c ≡ true → reading (spelling c) ≡ Ok c
unfolding reading
reading_again c h =
    let scope = file_scope (length (spelling c)) in
    let read : class scope (spelling c) ≡ Ok (c, []) = ap (class scope) (sym (append-nil (spelling c))) ∙ class_codec.again scope c [] h in
    rw read refl

-- ---- the same of a result that is what is read

-- what was read is well-formed, and spelled so
pub is_found : (bytes : List ℕ) (r : Result ClassFile ClassFault) → IsBytes bytes → Gives r (reading bytes) → IfOk r (λ c. (is_well_formed c ≡ true) × (bytes ≡ spelling c))
is_found bytes (Ok c) fits given = reading_takes bytes c fits given
is_found bytes (Err e) fits given = tt

-- a well-formed class that is spelled so was read, unless memory ran out
pub is_only : (bytes : List ℕ) (r : Result ClassFile ClassFault) → Gives r (reading bytes) → (c : ClassFile) → is_well_formed c ≡ true → bytes ≡ spelling c → Gives r (Ok c)
is_only bytes r given c fits e = subst (λ (f : Result ClassFile ClassFault). Gives r f) (ap reading e ∙ reading_again c fits) given
