-- Whole descriptors: what is read is spelled so, what is spelled so is read, and which fault it is.
use Rattle.std.proofs.Common.{◌≡◌, ℕ, suc, ◌+◌, ◌-◌, ◌<◌, ◌≤◌, ◌^◌, min, leb, ltb, if◌then◌else◌, Bool, true, false, List, [], ◌∷◌, length, take, Result, Ok, Err, refl, sym, ap, subst, ◌∙◌, arith}
use Rattle.std.specs.Prelude.{IfOk, IfErr, MatchResult, IsTrue, ◌↔◌, is_ok}
use Rattle.std.proofs.lemmas.List.{append-nil}
use Rattle.aj_names.specs.declared.types.FieldType.{FieldType}
use Rattle.aj_names.specs.declared.types.MethodType.{MethodType}
use Rattle.aj_names.specs.declared.types.NameFault.{NameFault}
use Rattle.aj_names.specs.declared.types.NameFault.TheVariants.{BadDescriptor, BadUtf8, Memory}
use Rattle.aj_names.specs.Descriptors.{field_spelling, method_spelling, params_slots, method_slots, IsFieldType, IsMethodType, IsFieldDescriptor, IsMethodDescriptor, IsArrayDescriptor}
use Rattle.aj_names.specs.Faults.{BeginsField, BeginsMethod, IsFieldFault, IsMethodFault, RefusesDescriptor, held_offset}
use Rattle.aj_names.specs.Reading.{field_at, method_at, whole, Answers, Gives, method_counted}
use Rattle.aj_names.specs.declared.descriptors.SpelledType.{SpelledType}
use Rattle.aj_names.specs.Spelled.{type_of}
use Rattle.std.proofs.lemmas.Bool.{leb-true, le-leb, lt-ltb, ltb-true}
use Rattle.aj_names.specs.Slots.{HasSlots}
use Rattle.aj_names.proofs.Readers.{Read, Reads, Beginning, Stop, stop_at, stop_behind}
use Rattle.aj_names.proofs.Fields.{field_type}
use Rattle.aj_names.proofs.Methods.{method_type}

-- what a reader says of a whole text
pub record Decides {X : Type 0} (f : List ℕ → Read X) (spelling : X → List ℕ) (Formed : X → Type 0) (text : List ℕ) : Type 0 where
  pub found : (x : X) → whole (f text) ≡ Ok x → Formed x × (text ≡ spelling x)
  pub again : (x : X) → Formed x → text ≡ spelling x → whole (f text) ≡ Ok x
  pub stops : (left : ℕ) → whole (f text) ≡ Err left → Stop spelling Formed text (length text - left)

decides : {X : Type 0} (f : List ℕ → Read X) (spelling : X → List ℕ) (Formed : X → Type 0) → Reads (λ bytes r. f bytes ≡ r) spelling Formed → (text : List ℕ) → Decides f spelling Formed text
decides {X = X} f spelling Formed reads text = record {
  found = λ x e. find (f text) refl x e;
  again = λ x formed e. ap whole (ap f (e ∙ sym (append-nil (spelling x))) ∙ reads.again x [] formed);
  stops = λ left e. stop (f text) refl left e;
}
  where
    find : (r : Read X) → f text ≡ r → (x : X) → whole r ≡ Ok x → Formed x × (text ≡ spelling x)
    find (Err left) is x e = absurd cc
    find (Ok (y, b ∷ after)) is x e = absurd cc
    find (Ok (y, [])) is x e =
        let t = reads.takes text y [] is in
        let h : y ≡ x = cc in
        subst (λ (z : X). Formed z × (text ≡ spelling z)) h (t.1, t.0 ∙ append-nil (spelling y))

    stop : (r : Read X) → f text ≡ r → (left : ℕ) → whole r ≡ Err left → Stop spelling Formed text (length text - left)
    stop (Err k) is left e = let h : k ≡ left = cc in subst (λ (n : ℕ). Stop spelling Formed text (length text - n)) h (stop_at (λ bytes r. f bytes ≡ r) spelling Formed reads text k is)
    stop (Ok (y, [])) is left e = absurd cc
    stop (Ok (y, b ∷ after)) is left e = let h : suc (length after) ≡ left = cc in subst (λ (n : ℕ). Stop spelling Formed text (length text - n)) h (stop_behind (λ bytes r. f bytes ≡ r) spelling Formed reads text y b after is)

pub field : (text : List ℕ) → Decides field_at field_spelling IsFieldType text
field text = decides field_at field_spelling IsFieldType field_type text

pub method : (text : List ℕ) → Decides method_at method_spelling IsMethodType text
method text = decides method_at method_spelling IsMethodType method_type text

-- ---- fields

field_begins : (bytes : List ℕ) → Beginning field_spelling IsFieldType bytes → BeginsField bytes
field_begins bytes b = record { value = b.value; formed = b.formed; rest = b.rest; spelled = b.spelled }

field_beginning : (bytes : List ℕ) → BeginsField bytes → Beginning field_spelling IsFieldType bytes
field_beginning bytes b = record { value = b.value; formed = b.formed; rest = b.rest; spelled = b.spelled }

field_fault : (text : List ℕ) (n : ℕ) → Stop field_spelling IsFieldType text n → IsFieldFault text n
field_fault text n s = record {
  within = s.within;
  begins = field_begins (take n text) s.begins;
  longest = λ lt b. s.longest lt (field_beginning (take (n + 1) text) b);
  none = λ d. s.none d.value d.formed d.spelled;
}

pub field_found : (text : List ℕ) (r : Result FieldType NameFault) → Answers text r (whole (field_at text)) → IfOk r (λ t. IsFieldType t × (text ≡ field_spelling t))
field_found text (Ok t) a = (field text).found t a
field_found text (Err f) a = tt

pub field_only : (text : List ℕ) (r : Result FieldType NameFault) → Answers text r (whole (field_at text)) → (t : FieldType) → IsFieldType t → text ≡ field_spelling t → MatchResult r (λ x. x ≡ t) (λ f. f ≡ Memory)
field_only text (Ok x) a t formed e = let h = sym a ∙ (field text).again t formed e in cc
field_only text (Err (BadDescriptor at)) a t formed e = absurd (let h = sym a.1 ∙ (field text).again t formed e in cc)
field_only text (Err (BadUtf8 at)) a t formed e = absurd a
field_only text (Err Memory) a t formed e = refl

pub field_faults : (text : List ℕ) (r : Result FieldType NameFault) → Answers text r (whole (field_at text)) → IfErr r (λ f. RefusesDescriptor f (IsFieldFault text))
field_faults text (Ok x) a = tt
field_faults text (Err (BadDescriptor at)) a = (length text - a.0, a.2, field_fault text (length text - a.0) ((field text).stops a.0 a.1))
field_faults text (Err (BadUtf8 at)) a = a
field_faults text (Err Memory) a = tt

pub field_decided : (text : List ℕ) (r : Result FieldType ℕ) → whole (field_at text) ≡ r → IsTrue (is_ok r) ↔ IsFieldDescriptor text
field_decided text (Ok t) is = (λ h. let f = (field text).found t is in record { value = t; formed = f.0; spelled = f.1 }, λ d. refl)
field_decided text (Err left) is = (λ h. absurd cc, λ d. absurd (((field text).stops left is).none d.value d.formed d.spelled))

-- ---- methods

method_begins : (bytes : List ℕ) → Beginning method_spelling IsMethodType bytes → BeginsMethod bytes
method_begins bytes b = record { value = b.value; formed = b.formed; rest = b.rest; spelled = b.spelled }

method_beginning : (bytes : List ℕ) → BeginsMethod bytes → Beginning method_spelling IsMethodType bytes
method_beginning bytes b = record { value = b.value; formed = b.formed; rest = b.rest; spelled = b.spelled }

pub method_fault : (text : List ℕ) (left : ℕ) → whole (method_at text) ≡ Err left → IsMethodFault text (length text - left)
method_fault text left is =
    let s = (method text).stops left is in
    record {
      within = s.within;
      begins = method_begins (take (length text - left) text) s.begins;
      longest = λ lt b. s.longest lt (method_beginning (take (length text - left + 1) text) b);
      none = λ d. s.none d.value d.formed d.spelled;
    }

abbrev ok : MethodType → Result MethodType ℕ
ok x = Ok x

take_all : (text : List ℕ) → take (length text) text ≡ text
take_all [] = refl
take_all (b ∷ text) = ap (λ (x : List ℕ). b ∷ x) (take_all text)

-- a method type of too many slots is refused at the text's length
pub many_slots : (text : List ℕ) (m : MethodType) → whole (method_at text) ≡ Ok m → 255 < params_slots m.params → IsMethodFault text (length text)
many_slots text m is many =
    let f = (method text).found m is in
    record {
      within = omega arith;
      begins = record { value = m; formed = f.0; rest = []; spelled = append-nil (take (length text) text) ∙ take_all text ∙ f.1 };
      longest = λ lt b. omega arith;
      none = λ d. other d.value d.few (sym is ∙ (method text).again d.value d.formed d.spelled);
    }
  where
    other : (n : MethodType) → method_slots n false ≤ 255 → ok m ≡ ok n → ⊥
    other n few e =
        let h : m ≡ n = cc in
        let k : params_slots m.params ≡ params_slots n.params = ap (λ (x : MethodType). params_slots x.params) h in
        omega arith

pub method_refuses : (text : List ℕ) (n : ℕ) (fault : NameFault) → fault ≡ BadDescriptor (held_offset n) → IsMethodFault text n → RefusesDescriptor fault (IsMethodFault text)
method_refuses text n fault e is = subst (λ (f : NameFault). RefusesDescriptor f (IsMethodFault text)) (sym e) (n, refl, is)

pub method_same : (text : List ℕ) (x m : MethodType) → whole (method_at text) ≡ Ok x → IsMethodType m → text ≡ method_spelling m → x ≡ m
method_same text x m is formed e = let h : ok x ≡ ok m = sym is ∙ (method text).again m formed e in cc

pub field_decided_by : (text : List ℕ) (r : Result SpelledType ℕ) (b : Bool) → Gives type_of r (whole (field_at text)) → b ≡ is_ok r → IsTrue b ↔ IsFieldDescriptor text
field_decided_by text (Ok t) b is e = (λ h. (field_decided text (Ok (type_of t)) is).0 refl, λ d. e)
field_decided_by text (Err left) b is e = (λ h. absurd (let k : false ≡ true = sym e ∙ h in cc), λ d. absurd (let k = (field_decided text (Err left) is).1 d in cc))

-- the slots of what was read decide
pub method_decided : (text : List ℕ) (slots : ℕ) (b : Bool) → method_counted (whole (method_at text)) ≡ Ok slots → b ≡ leb slots 255 → IsTrue b ↔ IsMethodDescriptor text
method_decided text slots b e is = by (whole (method_at text)) refl
  where
    by : (r : Result MethodType ℕ) → whole (method_at text) ≡ r → IsTrue b ↔ IsMethodDescriptor text
    by (Err left) same = absurd (let h : method_counted (Err left) ≡ Ok slots = ap method_counted (sym same) ∙ e in cc)
    by (Ok m) same =
        let h : method_counted (ok m) ≡ Ok slots = ap method_counted (sym same) ∙ e in
        let n : min (params_slots m.params) (2 ^ 32 - 1) ≡ slots = cc in
        let f = (method text).found m same in (
          λ on. let le : slots ≤ 255 = leb-true slots 255 (sym is ∙ on) in record { value = m; formed = f.0; few = omega arith; spelled = f.1 },
          λ d.
              let k : m ≡ d.value = method_same text m d.value same d.formed d.spelled in
              let l : params_slots m.params ≡ params_slots d.value.params = ap (λ (x : MethodType). params_slots x.params) k in
              let few = d.few in
              is ∙ le-leb slots 255 (omega arith),
        )

pub method_undecided : (text : List ℕ) (left : ℕ) → method_counted (whole (method_at text)) ≡ Err left → IsMethodDescriptor text → ⊥
method_undecided text left e d = by (whole (method_at text)) refl
  where
    by : (r : Result MethodType ℕ) → whole (method_at text) ≡ r → ⊥
    by (Ok m) same = let h : method_counted (ok m) ≡ Err left = ap method_counted (sym same) ∙ e in cc
    by (Err k) same = (method_fault text k same).none d

abbrev field_ok : FieldType → Result FieldType ℕ
field_ok x = Ok x

pub array_decided : (text : List ℕ) (t : FieldType) (b : Bool) → whole (field_at text) ≡ Ok t → b ≡ ltb 0 t.dims → IsTrue b ↔ IsArrayDescriptor text
array_decided text t b is e =
    let f = (field text).found t is in (
      λ on. record { value = t; formed = f.0; array = ltb-true 0 t.dims (sym e ∙ on); spelled = f.1 },
      λ d.
          let h : field_ok t ≡ field_ok d.value = sym is ∙ (field text).again d.value d.formed d.spelled in
          let k : t ≡ d.value = cc in
          e ∙ lt-ltb 0 t.dims (subst (λ (x : FieldType). 0 < x.dims) (sym k) d.array),
    )

pub array_undecided : (text : List ℕ) (left : ℕ) → whole (field_at text) ≡ Err left → IsArrayDescriptor text → ⊥
array_undecided text left is d = ((field text).stops left is).none d.value d.formed d.spelled

pub slots_found : (text : List ℕ) (slots : ℕ) (receiver : Bool) (n : ℕ) → method_counted (whole (method_at text)) ≡ Ok slots → slots ≤ 255 → n ≡ (if receiver then 1 else 0) + slots → HasSlots text receiver n
slots_found text slots receiver n e le is = by (whole (method_at text)) refl
  where
    by : (r : Result MethodType ℕ) → whole (method_at text) ≡ r → HasSlots text receiver n
    by (Err left) same = absurd (let h : method_counted (Err left) ≡ Ok slots = ap method_counted (sym same) ∙ e in cc)
    by (Ok m) same =
        let h : method_counted (ok m) ≡ Ok slots = ap method_counted (sym same) ∙ e in
        let c : min (params_slots m.params) (2 ^ 32 - 1) ≡ slots = cc in
        let k : params_slots m.params ≡ slots = omega arith in
        let f = (method text).found m same in
        record { value = m; formed = f.0; few = omega arith; spelled = f.1; count = is ∙ ap (λ (x : ℕ). (if receiver then 1 else 0) + x) (sym k) }
