-- Readers of parameters, results and method types.
use Rattle.std.proofs.Common.{◌≡◌, ℕ, zero, suc, ◌<◌, Bool, true, false, cond, eqb, List, [], ◌∷◌, ◌++◌, length, Option, Some, None, Ok, Err, refl, sym, ap, subst, ◌∙◌, append_assoc, arith, inl, inr, length-append}
use Rattle.std.specs.Prelude.{replicate, IfSome}
use Rattle.std.specs.List.{AllByRecursion, flat_map}
use Rattle.std.proofs.lemmas.Bool.{eqb-true, ne_eqb}
use Rattle.std.proofs.lemmas.List.{append-nil}
use Rattle.aj_names.specs.declared.types.Base.{Base}
use Rattle.aj_names.specs.declared.types.Base.TheVariants.{Boolean, Byte, Char, Short, Int, Long, Float, Double, Class}
use Rattle.aj_names.specs.declared.types.FieldType.{FieldType}
use Rattle.aj_names.specs.declared.types.MethodType.{MethodType}
use Rattle.aj_names.specs.Descriptors.{base_spelling, field_spelling, result_spelling, method_spelling, IsFieldType, IsMethodType}
use Rattle.aj_names.specs.Reading.{◌>>=◌, field_at, params_at, result_at, method_at}
use Rattle.aj_names.proofs.Characters.{chosen}
use Rattle.aj_names.proofs.Readers.{Read, read, stopped, bind_ok, bind_err, first, then, ok_is, err_is, Fault, Reads, fault_after, fault_between, fault_through, fault_here, fault_cut}
use Rattle.aj_names.proofs.Fields.{ReadsField, field_type, field_head}

base_long : (base : Base) → 0 < length (base_spelling base)
base_long Boolean = omega arith
base_long Byte = omega arith
base_long Char = omega arith
base_long Short = omega arith
base_long Int = omega arith
base_long Long = omega arith
base_long Float = omega arith
base_long Double = omega arith
base_long (Class name) = omega arith

pub field_long : (t : FieldType) → 0 < length (field_spelling t)
field_long t = omega (arith, base_long t.base, length-append (replicate t.dims 91) (base_spelling t.base))

pub field_rest : (bytes : List ℕ) (t : FieldType) (rest : List ℕ) → field_at bytes ≡ Ok (t, rest) → length rest < length bytes
field_rest bytes t rest e = omega (arith, field_long t, ap length (field_type.takes bytes t rest e).0, length-append (field_spelling t) rest)

-- ---- parameters

abbrev pub ReadsParams : List ℕ → Read (List FieldType) → Type 0
ReadsParams bytes r = (steps : ℕ) → length bytes < steps → params_at steps bytes ≡ r

abbrev pub params_spelling : List FieldType → List ℕ
params_spelling ts = flat_map field_spelling ts ++ 41 ∷ []

abbrev pub AreFieldTypes : List FieldType → Type 0
AreFieldTypes ts = AllByRecursion IsFieldType ts

abbrev pub behind_param : FieldType → Read (List FieldType) → Read (List FieldType)
behind_param t r = r >>= λ ts. Ok (t ∷ ts.0, ts.1)

pub params_step : (steps b : ℕ) (bytes : List ℕ) → eqb b 41 ≡ false → params_at (suc steps) (b ∷ bytes) ≡ (field_at (b ∷ bytes) >>= λ t. behind_param t.0 (params_at steps t.1))
params_step steps b bytes off = ap (λ (c : Bool). cond c (read [] bytes) (field_at (b ∷ bytes) >>= λ t. behind_param t.0 (params_at steps t.1))) off

params_field : (steps : ℕ) (t : FieldType) (q : List ℕ) → IsFieldType t → params_at (suc steps) (field_spelling t ++ q) ≡ behind_param t (params_at steps q)
params_field steps t q is = by (field_spelling t ++ q) refl
  where
    by : (bytes : List ℕ) → field_spelling t ++ q ≡ bytes → params_at (suc steps) bytes ≡ behind_param t (params_at steps q)
    by [] e = absurd (omega (arith, field_long t, ap length e, length-append (field_spelling t) q))
    by (b ∷ bytes) e =
        params_step steps b bytes (ne_eqb b 41 (field_head t q b bytes e).0)
        ∙ ap (λ (r : Read FieldType). r >>= λ t. behind_param t.0 (params_at steps t.1)) (ap field_at (sym e) ∙ field_type.again t q is)

params_takes : (steps : ℕ) (bytes : List ℕ) (ts : List FieldType) (rest : List ℕ) → params_at steps bytes ≡ Ok (ts, rest) → (bytes ≡ params_spelling ts ++ rest) × AreFieldTypes ts
params_takes steps [] ts rest e = absurd cc
params_takes zero (b ∷ bytes) ts rest e = absurd cc
params_takes (suc steps) (b ∷ bytes) ts rest e =
    elim (chosen (eqb b 41) (read [] bytes) (field_at (b ∷ bytes) >>= λ t. behind_param t.0 (params_at steps t.1)) (read ts rest) e) [
      | inl (on, same) ↦
          let q = ok_is [] ts bytes rest same in
          (subst (λ (x : List FieldType). b ∷ bytes ≡ params_spelling x ++ rest) q.0 (ap (λ (x : ℕ). x ∷ bytes) (eqb-true b 41 on) ∙ ap (λ (x : List ℕ). 41 ∷ x) q.1), subst AreFieldTypes q.0 tt)
      | inr (off, same) ↦
          let d = bind_ok (field_at (b ∷ bytes)) (λ t. behind_param t.0 (params_at steps t.1)) (ts, rest) same in
          let f = bind_ok (params_at steps d.0.1) (λ us. read (d.0.0 ∷ us.0) us.1) (ts, rest) d.2 in
          let q = ok_is (d.0.0 ∷ f.0.0) ts f.0.1 rest f.2 in
          let m = field_type.takes (b ∷ bytes) d.0.0 d.0.1 d.1 in
          let n = params_takes steps d.0.1 f.0.0 f.0.1 f.1 in
          let joined : b ∷ bytes ≡ params_spelling (d.0.0 ∷ f.0.0) ++ f.0.1 =
          m.0 ∙ ap (λ (x : List ℕ). field_spelling d.0.0 ++ x) n.0 ∙ sym (append_assoc (field_spelling d.0.0) (params_spelling f.0.0) f.0.1)
          ∙ ap (λ (x : List ℕ). x ++ f.0.1) (sym (append_assoc (field_spelling d.0.0) (flat_map field_spelling f.0.0) (41 ∷ []))) in
          (subst (λ (x : List FieldType). b ∷ bytes ≡ params_spelling x ++ rest) q.0 (joined ∙ ap (λ (x : List ℕ). params_spelling (d.0.0 ∷ f.0.0) ++ x) q.1), subst AreFieldTypes q.0 (m.1, n.1))
    ]

params_cons : (t : FieldType) (ts : List FieldType) (q : List ℕ) → params_spelling (t ∷ ts) ++ q ≡ field_spelling t ++ (params_spelling ts ++ q)
params_cons t ts q = ap (λ (x : List ℕ). x ++ q) (append_assoc (field_spelling t) (flat_map field_spelling ts) (41 ∷ [])) ∙ append_assoc (field_spelling t) (params_spelling ts) q

pub params_again : (ts : List FieldType) (steps : ℕ) (q : List ℕ) → AreFieldTypes ts → length (params_spelling ts ++ q) < steps → params_at steps (params_spelling ts ++ q) ≡ Ok (ts, q)
params_again ts zero q formed lt = absurd (omega arith)
params_again [] (suc steps) q formed lt = refl
params_again (t ∷ ts) (suc steps) q formed lt =
    let c = params_cons t ts q in
    let less : length (params_spelling ts ++ q) < steps = omega (arith, field_long t, ap length c, length-append (field_spelling t) (params_spelling ts ++ q)) in
    ap (params_at (suc steps)) c ∙ params_field steps t (params_spelling ts ++ q) formed.0 ∙ ap (behind_param t) (params_again ts steps q formed.1 less)

params_faults : (steps : ℕ) (bytes : List ℕ) (left : ℕ) → length bytes < steps → params_at steps bytes ≡ Err left → Fault ReadsParams params_spelling AreFieldTypes bytes left
params_faults steps [] left lt e = subst (λ (n : ℕ). Fault ReadsParams params_spelling AreFieldTypes [] n) (err_is (List FieldType) 0 left e) (fault_cut ReadsParams params_spelling AreFieldTypes [] tt)
params_faults zero (b ∷ bytes) left lt e = absurd (omega arith)
params_faults (suc steps) (b ∷ bytes) left lt e =
    elim (chosen (eqb b 41) (read [] bytes) (field_at (b ∷ bytes) >>= λ t. behind_param t.0 (params_at steps t.1)) (stopped (List FieldType) left) e) [
      | inl (on, same) ↦ absurd cc
      | inr (off, same) ↦ elim (bind_err (field_at (b ∷ bytes)) (λ t. behind_param t.0 (params_at steps t.1)) left same) [
        | first h ↦ fault_through ReadsField field_spelling IsFieldType ReadsParams params_spelling AreFieldTypes b (λ t. t ∷ []) (41 ∷ [])
            (λ bytes' left' r n. stops off bytes' left' r n)
            (λ t is. (is, tt)) (λ t. ap (λ (x : List ℕ). x ++ 41 ∷ []) (append-nil (field_spelling t))) bytes left (field_type.fault (b ∷ bytes) left h)
        | then x h k ↦ elim (bind_err (params_at steps x.1) (λ us. read (x.0 ∷ us.0) us.1) left k) [
          | first m ↦
              let t = field_type.takes (b ∷ bytes) x.0 x.1 h in
              let less = field_rest (b ∷ bytes) x.0 x.1 h in
              subst (λ (w : List ℕ). Fault ReadsParams params_spelling AreFieldTypes w left) (sym t.0)
              (fault_after ReadsParams params_spelling AreFieldTypes ReadsParams params_spelling AreFieldTypes (field_spelling x.0) (λ ts. x.0 ∷ ts)
              (λ bytes' left' r n. goes_on x.0 t.1 bytes' left' r n)
              (λ ts are. (t.1, are)) (λ ts. append_assoc (field_spelling x.0) (flat_map field_spelling ts) (41 ∷ [])) x.1 left
              (params_faults steps x.1 left (omega arith) m))
          | then y m n ↦ absurd cc
        ]
      ]
    ]
  where
    stops : eqb b 41 ≡ false → (bytes' : List ℕ) (left' : ℕ) → field_at (b ∷ bytes') ≡ Err left' → (n : ℕ) → length (b ∷ bytes') < n → params_at n (b ∷ bytes') ≡ Err left'
    stops off bytes' left' r zero lt = absurd (omega arith)
    stops off bytes' left' r (suc n) lt = params_step n b bytes' off ∙ ap (λ (r : Read FieldType). r >>= λ t. behind_param t.0 (params_at n t.1)) r

    goes_on : (t : FieldType) → IsFieldType t → (bytes' : List ℕ) (left' : ℕ) → ReadsParams bytes' (Err left') → (n : ℕ) → length (field_spelling t ++ bytes') < n → params_at n (field_spelling t ++ bytes') ≡ Err left'
    goes_on t is bytes' left' r zero lt = absurd (omega arith)
    goes_on t is bytes' left' r (suc n) lt = params_field n t bytes' is ∙ ap (behind_param t) (r n (omega (arith, field_long t, length-append (field_spelling t) bytes')))

-- ---- results

abbrev pub ReadsResult : List ℕ → Read (Option FieldType) → Type 0
ReadsResult bytes r = result_at bytes ≡ r

abbrev pub IsResult : Option FieldType → Type 0
IsResult o = IfSome o IsFieldType

abbrev some_read : Read FieldType → Read (Option FieldType)
some_read r = r >>= λ t. Ok (Some t.0, t.1)

result_takes : (bytes : List ℕ) (o : Option FieldType) (rest : List ℕ) → result_at bytes ≡ Ok (o, rest) → (bytes ≡ result_spelling o ++ rest) × IsResult o
result_takes [] o rest e = absurd cc
result_takes (b ∷ bytes) o rest e =
    elim (chosen (eqb b 86) (read None bytes) (some_read (field_at (b ∷ bytes))) (read o rest) e) [
      | inl (on, same) ↦
          let q = ok_is None o bytes rest same in
          (subst (λ (x : Option FieldType). b ∷ bytes ≡ result_spelling x ++ rest) q.0 (ap (λ (x : ℕ). x ∷ bytes) (eqb-true b 86 on) ∙ ap (λ (x : List ℕ). 86 ∷ x) q.1), subst IsResult q.0 tt)
      | inr (off, same) ↦
          let d = bind_ok (field_at (b ∷ bytes)) (λ t. read (Some t.0) t.1) (o, rest) same in
          let q = ok_is (Some d.0.0) o d.0.1 rest d.2 in
          let m = field_type.takes (b ∷ bytes) d.0.0 d.0.1 d.1 in
          (subst (λ (x : Option FieldType). b ∷ bytes ≡ result_spelling x ++ rest) q.0 (m.0 ∙ ap (λ (x : List ℕ). field_spelling d.0.0 ++ x) q.1), subst IsResult q.0 m.1)
    ]

result_step : (b : ℕ) (bytes : List ℕ) → eqb b 86 ≡ false → result_at (b ∷ bytes) ≡ some_read (field_at (b ∷ bytes))
result_step b bytes off = ap (λ (c : Bool). cond c (read None bytes) (some_read (field_at (b ∷ bytes)))) off

result_again : (o : Option FieldType) (q : List ℕ) → IsResult o → result_at (result_spelling o ++ q) ≡ Ok (o, q)
result_again None q is = refl
result_again (Some t) q is = by (field_spelling t ++ q) refl
  where
    by : (bytes : List ℕ) → field_spelling t ++ q ≡ bytes → result_at bytes ≡ Ok (Some t, q)
    by [] e = absurd (omega (arith, field_long t, ap length e, length-append (field_spelling t) q))
    by (b ∷ bytes) e = result_step b bytes (ne_eqb b 86 (field_head t q b bytes e).1) ∙ ap some_read (ap field_at (sym e) ∙ field_type.again t q is)

result_faults : (bytes : List ℕ) (left : ℕ) → result_at bytes ≡ Err left → Fault ReadsResult result_spelling IsResult bytes left
result_faults [] left e = subst (λ (n : ℕ). Fault ReadsResult result_spelling IsResult [] n) (err_is (Option FieldType) 0 left e) (fault_cut ReadsResult result_spelling IsResult None tt)
result_faults (b ∷ bytes) left e =
    elim (chosen (eqb b 86) (read None bytes) (some_read (field_at (b ∷ bytes))) (stopped (Option FieldType) left) e) [
      | inl (on, same) ↦ absurd cc
      | inr (off, same) ↦ elim (bind_err (field_at (b ∷ bytes)) (λ t. read (Some t.0) t.1) left same) [
        | first h ↦ fault_through ReadsField field_spelling IsFieldType ReadsResult result_spelling IsResult b (λ t. Some t) []
            (λ bytes' left' r. result_step b bytes' off ∙ ap some_read r)
            (λ t is. is) (λ t. sym (append-nil (field_spelling t))) bytes left (field_type.fault (b ∷ bytes) left h)
        | then x h k ↦ absurd cc
      ]
    ]

-- ---- method types

abbrev pub ReadsMethod : List ℕ → Read MethodType → Type 0
ReadsMethod bytes r = method_at bytes ≡ r

abbrev method : List FieldType → Option FieldType → MethodType
method ps o = record { params = ps; result = o }

abbrev with_result : List FieldType → Read (Option FieldType) → Read MethodType
with_result ps r = r >>= λ o. Ok (method ps o.0, o.1)

abbrev with_params : Read (List FieldType) → Read MethodType
with_params r = r >>= λ ps. with_result ps.0 (result_at ps.1)

method_step : (b : ℕ) (bytes : List ℕ) → eqb b 40 ≡ true → method_at (b ∷ bytes) ≡ with_params (params_at (suc (length bytes)) bytes)
method_step b bytes on = ap (λ (c : Bool). cond c (with_params (params_at (suc (length bytes)) bytes)) (stopped MethodType (suc (length bytes)))) on

method_parts : (ps : List FieldType) (o : Option FieldType) (q : List ℕ) → method_spelling (method ps o) ++ q ≡ 40 ∷ (params_spelling ps ++ (result_spelling o ++ q))
method_parts ps o q =
    let all = flat_map field_spelling ps in
    ap (λ (x : List ℕ). 40 ∷ x) (append_assoc all (41 ∷ result_spelling o) q ∙ sym (append_assoc all (41 ∷ []) (result_spelling o ++ q)))

after_params : (ps : List FieldType) (q : List ℕ) → AreFieldTypes ps → method_at (40 ∷ (params_spelling ps ++ q)) ≡ with_result ps (result_at q)
after_params ps q formed = method_step 40 (params_spelling ps ++ q) refl ∙ ap with_params (params_again ps (suc (length (params_spelling ps ++ q))) q formed (omega arith))

method_takes : (bytes : List ℕ) (m : MethodType) (rest : List ℕ) → method_at bytes ≡ Ok (m, rest) → (bytes ≡ method_spelling m ++ rest) × IsMethodType m
method_takes [] m rest e = absurd cc
method_takes (b ∷ bytes) m rest e =
    elim (chosen (eqb b 40) (with_params (params_at (suc (length bytes)) bytes)) (stopped MethodType (suc (length bytes))) (read m rest) e) [
      | inl (on, same) ↦
          let d = bind_ok (params_at (suc (length bytes)) bytes) (λ ps. with_result ps.0 (result_at ps.1)) (m, rest) same in
          let f = bind_ok (result_at d.0.1) (λ o. read (method d.0.0 o.0) o.1) (m, rest) d.2 in
          let q = ok_is (method d.0.0 f.0.0) m f.0.1 rest f.2 in
          let p = params_takes (suc (length bytes)) bytes d.0.0 d.0.1 d.1 in
          let r = result_takes d.0.1 f.0.0 f.0.1 f.1 in
          let joined : b ∷ bytes ≡ method_spelling (method d.0.0 f.0.0) ++ f.0.1 =
          ap (λ (x : ℕ). x ∷ bytes) (eqb-true b 40 on) ∙ ap (λ (x : List ℕ). 40 ∷ x) (p.0 ∙ ap (λ (x : List ℕ). params_spelling d.0.0 ++ x) r.0) ∙ sym (method_parts d.0.0 f.0.0 f.0.1) in
          (subst (λ (x : MethodType). b ∷ bytes ≡ method_spelling x ++ rest) q.0 (joined ∙ ap (λ (x : List ℕ). method_spelling (method d.0.0 f.0.0) ++ x) q.1), subst IsMethodType q.0 (record { params = p.1; result = r.1 }))
      | inr (off, same) ↦ absurd cc
    ]

method_again : (m : MethodType) (q : List ℕ) → IsMethodType m → method_at (method_spelling m ++ q) ≡ Ok (m, q)
method_again m q is =
    ap method_at (method_parts m.params m.result q) ∙ after_params m.params (result_spelling m.result ++ q) is.params ∙ ap (with_result m.params) (result_again m.result q is.result)

method_faults : (bytes : List ℕ) (left : ℕ) → method_at bytes ≡ Err left → Fault ReadsMethod method_spelling IsMethodType bytes left
method_faults [] left e = subst (λ (n : ℕ). Fault ReadsMethod method_spelling IsMethodType [] n) (err_is MethodType 0 left e) (fault_cut ReadsMethod method_spelling IsMethodType (method [] None) (record { params = tt; result = tt }))
method_faults (b ∷ bytes) left e =
    elim (chosen (eqb b 40) (with_params (params_at (suc (length bytes)) bytes)) (stopped MethodType (suc (length bytes))) (stopped MethodType left) e) [
      | inl (on, same) ↦ elim (bind_err (params_at (suc (length bytes)) bytes) (λ ps. with_result ps.0 (result_at ps.1)) left same) [
        | first h ↦ subst (λ (x : ℕ). Fault ReadsMethod method_spelling IsMethodType (x ∷ bytes) left) (sym (eqb-true b 40 on))
            (fault_between ReadsParams params_spelling AreFieldTypes ReadsMethod method_spelling IsMethodType (40 ∷ []) (86 ∷ []) (λ ps. method ps None)
            (λ bytes' left' r. method_step 40 bytes' refl ∙ ap with_params (r (suc (length bytes')) (omega arith)))
            (λ ps are. record { params = are; result = tt }) (λ ps. ap (λ (x : List ℕ). 40 ∷ x) (sym (append_assoc (flat_map field_spelling ps) (41 ∷ []) (86 ∷ [])))) bytes left
            (params_faults (suc (length bytes)) bytes left (omega arith) h))
        | then x h k ↦ elim (bind_err (result_at x.1) (λ o. read (method x.0 o.0) o.1) left k) [
          | first m ↦
              let p = params_takes (suc (length bytes)) bytes x.0 x.1 h in
              subst (λ (w : List ℕ). Fault ReadsMethod method_spelling IsMethodType w left) (ap (λ (y : ℕ). y ∷ (params_spelling x.0 ++ x.1)) (sym (eqb-true b 40 on)) ∙ ap (λ (y : List ℕ). b ∷ y) (sym p.0))
              (fault_after ReadsResult result_spelling IsResult ReadsMethod method_spelling IsMethodType (40 ∷ params_spelling x.0) (λ o. method x.0 o)
              (λ bytes' left' r. after_params x.0 bytes' p.1 ∙ ap (with_result x.0) r)
              (λ o is. record { params = p.1; result = is }) (λ o. ap (λ (y : List ℕ). 40 ∷ y) (sym (append_assoc (flat_map field_spelling x.0) (41 ∷ []) (result_spelling o)))) x.1 left
              (result_faults x.1 left m))
          | then y m n ↦ absurd cc
        ]
      ]
      | inr (off, same) ↦ subst (λ (n : ℕ). Fault ReadsMethod method_spelling IsMethodType (b ∷ bytes) n) (err_is MethodType (suc (length bytes)) left same)
          (fault_here ReadsMethod method_spelling IsMethodType b bytes (method [] None) (record { params = tt; result = tt })
          (λ q. ap (λ (c : Bool). cond c (with_params (params_at (suc (length q)) q)) (stopped MethodType (suc (length q)))) off))
    ]

pub method_type : Reads ReadsMethod method_spelling IsMethodType
method_type = record {
  takes = method_takes;
  again = method_again;
  fault = method_faults;
  once = λ bytes r s p q. sym p ∙ q;
}
