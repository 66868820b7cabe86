-- Readers of class names, bases and field types.
use Rattle.std.proofs.Common.{◌≡◌, ◌≢◌, ℕ, zero, suc, ◌≤◌, ◌⊎◌, Bool, true, false, cond, eqb, ◌&&◌, List, [], ◌∷◌, ◌++◌, length, Option, Some, None, Ok, Err, refl, sym, ap, subst, ◌∙◌, arith, inl, inr}
use Rattle.std.specs.Prelude.{replicate}
use Rattle.std.specs.List.{AllByRecursion}
use Rattle.std.proofs.lemmas.Bool.{eqb-true, eqb-false, ne_eqb, and_parts}
use Rattle.std.proofs.lemmas.List.{append-nil}
use Rattle.aj_names.specs.declared.types.Base.{Base}
use Rattle.aj_names.specs.declared.types.Base.TheVariants.{Boolean, Byte, Char, Short, Int, Long, Float, Double, Class}
use Rattle.aj_names.specs.declared.types.FieldType.{FieldType}
use Rattle.aj_names.specs.declared.names.NameKind.TheVariants as kinds
use Rattle.aj_names.specs.declared.names.NameState.{NameState}
use Rattle.aj_names.specs.declared.names.NameState.TheVariants.{Start, Inside, Last, BehindE0, Middle, BehindED, HighLast, LowLead, LowMiddle}
use Rattle.aj_names.specs.Descriptors.{base_spelling, field_spelling, IsBase, IsFieldType}
use Rattle.aj_names.specs.Reading.{◌>>=◌, name_after, may_end, ends_name, class_at, primitives, base_in, base_at, deeper, type_at, field_at}
use Rattle.aj_names.proofs.Characters.{chosen, class_found, class_again}
use Rattle.aj_names.proofs.Readers.{Read, read, stopped, bind_ok, bind_err, first, then, ok_is, err_is, heads, Fault, Reads, fault_after, fault_through, fault_here, fault_cut}

-- ---- class names

abbrev pub ReadsClass : NameState → List ℕ → Read (List ℕ) → Type 0
ReadsClass s bytes r = class_at s bytes ≡ r

abbrev pub closed : List ℕ → List ℕ
closed name = name ++ 59 ∷ []

abbrev pub EndsName : NameState → List ℕ → Type 0
EndsName s name = ends_name kinds.Class s name ≡ true

-- the step of a reader at a byte, by where the byte leads
abbrev class_step : NameState → ℕ → List ℕ → Option NameState → Read (List ℕ)
class_step s b bytes None = cond (may_end s && eqb b 59) (Ok ([], bytes)) (Err (suc (length bytes)))
class_step s b bytes (Some t) = class_at t bytes >>= λ x. Ok (b ∷ x.0, x.1)

class_steps : (s : NameState) (b : ℕ) (bytes : List ℕ) (o : Option NameState) → name_after kinds.Class s b ≡ o → class_at s (b ∷ bytes) ≡ class_step s b bytes o
class_steps s b bytes o e = subst (λ (p : Option NameState). class_at s (b ∷ bytes) ≡ class_step s b bytes p) e (same (name_after kinds.Class s b))
  where
    same : (p : Option NameState) → elim p [ None ↦ cond (may_end s && eqb b 59) (Ok ([], bytes)) (Err (suc (length bytes))) | Some next ↦ class_at next bytes >>= λ x. Ok (b ∷ x.0, x.1) ] ≡ class_step s b bytes p
    same None = refl
    same (Some t) = refl

ends_step : (s t : NameState) (b : ℕ) (name : List ℕ) → name_after kinds.Class s b ≡ Some t → ends_name kinds.Class s (b ∷ name) ≡ ends_name kinds.Class t name
ends_step s t b name e = ap (λ (o : Option NameState). elim o [ None ↦ false | Some next ↦ ends_name kinds.Class next name ]) e

class_takes : (bytes : List ℕ) (s : NameState) (name rest : List ℕ) → class_at s bytes ≡ Ok (name, rest) → (bytes ≡ closed name ++ rest) × EndsName s name
class_takes [] s name rest e = absurd cc
class_takes (b ∷ bytes) s name rest e = by (λ t. class_takes bytes t) (name_after kinds.Class s b) refl
  where
    by : ((t : NameState) (name rest : List ℕ) → class_at t bytes ≡ Ok (name, rest) → (bytes ≡ closed name ++ rest) × EndsName t name)
        → (o : Option NameState) → name_after kinds.Class s b ≡ o → (b ∷ bytes ≡ closed name ++ rest) × EndsName s name
    by more None is =
        elim (chosen (may_end s && eqb b 59) (read [] bytes) (stopped (List ℕ) (suc (length bytes))) (read name rest) (sym (class_steps s b bytes None is) ∙ e)) [
          | inl (on, same) ↦
              let p = and_parts (may_end s) (eqb b 59) on in
              let q = ok_is [] name bytes rest same in
              let semicolon = eqb-true b 59 p.1 in
              (subst (λ (n : List ℕ). b ∷ bytes ≡ closed n ++ rest) q.0 (let h = q.1 in cc), subst (λ (n : List ℕ). EndsName s n) q.0 p.0)
          | inr (off, same) ↦ absurd cc
        ]
    by more (Some t) is =
        let d = bind_ok (class_at t bytes) (λ x. Ok (b ∷ x.0, x.1)) (name, rest) (sym (class_steps s b bytes (Some t) is) ∙ e) in
        let q = ok_is (b ∷ d.0.0) name d.0.1 rest d.2 in
        let m = more t d.0.0 d.0.1 d.1 in (
          subst (λ (n : List ℕ). b ∷ bytes ≡ closed n ++ rest) q.0 (ap (λ (x : List ℕ). b ∷ x) m.0 ∙ ap (λ (x : List ℕ). b ∷ (closed d.0.0 ++ x)) q.1),
          subst (λ (n : List ℕ). EndsName s n) q.0 (ends_step s t b d.0.0 is ∙ m.1),
        )

class_stops : (s : NameState) (q : List ℕ) → EndsName s [] → class_at s (59 ∷ q) ≡ Ok ([], q)
class_stops Inside q e = refl
class_stops Start q e = absurd cc
class_stops Last q e = absurd cc
class_stops BehindE0 q e = absurd cc
class_stops Middle q e = absurd cc
class_stops BehindED q e = absurd cc
class_stops HighLast q e = absurd cc
class_stops LowLead q e = absurd cc
class_stops LowMiddle q e = absurd cc

class_reads : (name : List ℕ) (s : NameState) (q : List ℕ) → EndsName s name → class_at s (closed name ++ q) ≡ Ok (name, q)
class_reads [] s q e = class_stops s q e
class_reads (b ∷ name) s q e = by (λ t. class_reads name t q) (name_after kinds.Class s b) refl
  where
    by : ((t : NameState) → EndsName t name → class_at t (closed name ++ q) ≡ Ok (name, q)) → (o : Option NameState) → name_after kinds.Class s b ≡ o → class_at s (b ∷ (closed name ++ q)) ≡ Ok (b ∷ name, q)
    by more None is = absurd (let h : ends_name kinds.Class s (b ∷ name) ≡ false = ap (λ (o : Option NameState). elim o [ None ↦ false | Some next ↦ ends_name kinds.Class next name ]) is in cc)
    by more (Some t) is = class_steps s b (closed name ++ q) (Some t) is ∙ ap (λ (r : Read (List ℕ)). r >>= λ x. read (b ∷ x.0) x.1) (more t (sym (ends_step s t b name is) ∙ e))

-- a way to the end of a name from each state
finish : NameState → List ℕ
finish Start = 97 ∷ []
finish Inside = []
finish Last = 128 ∷ []
finish BehindE0 = 160 ∷ 128 ∷ []
finish Middle = 128 ∷ 128 ∷ []
finish BehindED = 128 ∷ 128 ∷ []
finish HighLast = 128 ∷ 237 ∷ 176 ∷ 128 ∷ []
finish LowLead = 237 ∷ 176 ∷ 128 ∷ []
finish LowMiddle = 176 ∷ 128 ∷ []

finishes : (s : NameState) → EndsName s (finish s)
unfolding finish
finishes Start = refl
finishes Inside = refl
finishes Last = refl
finishes BehindE0 = refl
finishes Middle = refl
finishes BehindED = refl
finishes HighLast = refl
finishes LowLead = refl
finishes LowMiddle = refl

class_faults : (bytes : List ℕ) (s : NameState) (left : ℕ) → class_at s bytes ≡ Err left → Fault (ReadsClass s) closed (EndsName s) bytes left
class_faults [] s left e = subst (λ (n : ℕ). Fault (ReadsClass s) closed (EndsName s) [] n) (err_is (List ℕ) 0 left e) (fault_cut (ReadsClass s) closed (EndsName s) (finish s) (finishes s))
class_faults (b ∷ bytes) s left e = by (λ t. class_faults bytes t) (name_after kinds.Class s b) refl
  where
    by : ((t : NameState) (left : ℕ) → class_at t bytes ≡ Err left → Fault (ReadsClass t) closed (EndsName t) bytes left) → (o : Option NameState) → name_after kinds.Class s b ≡ o → Fault (ReadsClass s) closed (EndsName s) (b ∷ bytes) left
    by more None is =
        elim (chosen (may_end s && eqb b 59) (read [] bytes) (stopped (List ℕ) (suc (length bytes))) (stopped (List ℕ) left) (sym (class_steps s b bytes None is) ∙ e)) [
          | inl (on, same) ↦ absurd cc
          | inr (off, same) ↦
              subst (λ (n : ℕ). Fault (ReadsClass s) closed (EndsName s) (b ∷ bytes) n) (err_is (List ℕ) (suc (length bytes)) left same)
              (fault_here (ReadsClass s) closed (EndsName s) b bytes (finish s) (finishes s) (λ q. class_steps s b q None is ∙ ap (λ (c : Bool). cond c (read [] q) (stopped (List ℕ) (suc (length q)))) off))
        ]
    by more (Some t) is =
        elim (bind_err (class_at t bytes) (λ x. read (b ∷ x.0) x.1) left (sym (class_steps s b bytes (Some t) is) ∙ e)) [
          | first h ↦
              fault_after (ReadsClass t) closed (EndsName t) (ReadsClass s) closed (EndsName s) (b ∷ []) (λ name. b ∷ name)
              (λ bytes' left' r. class_steps s b bytes' (Some t) is ∙ ap (λ (r : Read (List ℕ)). r >>= λ x. read (b ∷ x.0) x.1) r)
              (λ name formed. ends_step s t b name is ∙ formed) (λ name. refl) bytes left (more t left h)
          | then x h k ↦ absurd cc
        ]

pub class_name : Reads (ReadsClass Start) closed (EndsName Start)
class_name = record {
  takes = λ bytes name rest r. class_takes bytes Start name rest r;
  again = λ name q formed. class_reads name Start q formed;
  fault = λ bytes left r. class_faults bytes Start left r;
  once = λ bytes r s p q. sym p ∙ q;
}

-- ---- bases

abbrev pub ReadsBase : List ℕ → Read Base → Type 0
ReadsBase bytes r = base_at bytes ≡ r

record IsPrimitive (e : ℕ × Base) : Type 0 where
  spelled : base_spelling e.1 ≡ e.0 ∷ []
  formed : IsBase e.1

all_primitives : AllByRecursion IsPrimitive primitives
all_primitives = (record { spelled = refl; formed = tt }, (record { spelled = refl; formed = tt }, (record { spelled = refl; formed = tt }, (record { spelled = refl; formed = tt }, (record { spelled = refl; formed = tt }, (record { spelled = refl; formed = tt }, (record { spelled = refl; formed = tt }, (record { spelled = refl; formed = tt }, tt))))))))

base_in-is : (b : ℕ) (table : List (ℕ × Base)) (base : Base) → AllByRecursion IsPrimitive table → base_in b table ≡ Some base → IsPrimitive (b, base)
base_in-is b [] base all e = absurd cc
base_in-is b (p ∷ table) base all e =
    elim (chosen (eqb b p.0) (Some p.1) (base_in b table) (Some base) e) [
      | inl (on, same) ↦
          let h : b ≡ p.0 = eqb-true b p.0 on in
          let k : p.1 ≡ base = cc in
          record { spelled = subst (λ (x : Base). base_spelling x ≡ b ∷ []) k (all.0.spelled ∙ ap (λ (x : ℕ). x ∷ []) (sym h)); formed = subst IsBase k all.0.formed }
      | inr (off, same) ↦ base_in-is b table base all.1 same
    ]

abbrev base_step : ℕ → List ℕ → Option Base → Read Base
base_step b bytes (Some base) = Ok (base, bytes)
base_step b bytes None = cond (eqb b 76) (class_at Start bytes >>= λ x. Ok (Class x.0, x.1)) (Err (suc (length bytes)))

base_steps : (b : ℕ) (bytes : List ℕ) (o : Option Base) → base_in b primitives ≡ o → base_at (b ∷ bytes) ≡ base_step b bytes o
base_steps b bytes o e = subst (λ (p : Option Base). base_at (b ∷ bytes) ≡ base_step b bytes p) e (same (base_in b primitives))
  where
    same : (p : Option Base) → elim p [ Some base ↦ Ok (base, bytes) | None ↦ cond (eqb b 76) (class_at Start bytes >>= λ x. Ok (Class x.0, x.1)) (Err (suc (length bytes))) ] ≡ base_step b bytes p
    same None = refl
    same (Some t) = refl

base_takes : (bytes : List ℕ) (base : Base) (rest : List ℕ) → base_at bytes ≡ Ok (base, rest) → (bytes ≡ base_spelling base ++ rest) × IsBase base
base_takes [] base rest e = absurd cc
base_takes (b ∷ bytes) base rest e = by (base_in b primitives) refl
  where
    by : (o : Option Base) → base_in b primitives ≡ o → (b ∷ bytes ≡ base_spelling base ++ rest) × IsBase base
    by (Some x) is =
        let q = ok_is x base bytes rest (sym (base_steps b bytes (Some x) is) ∙ e) in
        let p = base_in-is b primitives x all_primitives is in
        (subst (λ (y : Base). b ∷ bytes ≡ base_spelling y ++ rest) q.0 (sym (ap (λ (y : List ℕ). y ++ rest) p.spelled ∙ ap (λ (y : List ℕ). b ∷ y) (sym q.1))), subst IsBase q.0 p.formed)
    by None is =
        elim (chosen (eqb b 76) (class_at Start bytes >>= λ x. read (Class x.0) x.1) (stopped Base (suc (length bytes))) (read base rest) (sym (base_steps b bytes None is) ∙ e)) [
          | inl (on, same) ↦
              let d = bind_ok (class_at Start bytes) (λ x. read (Class x.0) x.1) (base, rest) same in
              let q = ok_is (Class d.0.0) base d.0.1 rest d.2 in
              let m = class_takes bytes Start d.0.0 d.0.1 d.1 in (
                subst (λ (y : Base). b ∷ bytes ≡ base_spelling y ++ rest) q.0 (ap (λ (x : ℕ). x ∷ bytes) (eqb-true b 76 on) ∙ ap (λ (x : List ℕ). 76 ∷ x) m.0 ∙ ap (λ (x : List ℕ). 76 ∷ (closed d.0.0 ++ x)) q.1),
                subst IsBase q.0 (class_found d.0.0 m.1),
              )
          | inr (off, same) ↦ absurd cc
        ]

base_again : (base : Base) (q : List ℕ) → IsBase base → base_at (base_spelling base ++ q) ≡ Ok (base, q)
base_again Boolean q is = refl
base_again Byte q is = refl
base_again Char q is = refl
base_again Short q is = refl
base_again Int q is = refl
base_again Long q is = refl
base_again Float q is = refl
base_again Double q is = refl
base_again (Class name) q is = ap (λ (r : Read (List ℕ)). r >>= λ x. read (Class x.0) x.1) (class_reads name Start q (class_again name is))

base_faults : (bytes : List ℕ) (left : ℕ) → base_at bytes ≡ Err left → Fault ReadsBase base_spelling IsBase bytes left
base_faults [] left e = subst (λ (n : ℕ). Fault ReadsBase base_spelling IsBase [] n) (err_is Base 0 left e) (fault_cut ReadsBase base_spelling IsBase Int tt)
base_faults (b ∷ bytes) left e = by (base_in b primitives) refl
  where
    by : (o : Option Base) → base_in b primitives ≡ o → Fault ReadsBase base_spelling IsBase (b ∷ bytes) left
    by (Some x) is = absurd (let h = sym (base_steps b bytes (Some x) is) ∙ e in cc)
    by None is =
        elim (chosen (eqb b 76) (class_at Start bytes >>= λ x. read (Class x.0) x.1) (stopped Base (suc (length bytes))) (stopped Base left) (sym (base_steps b bytes None is) ∙ e)) [
          | inl (on, same) ↦ elim (bind_err (class_at Start bytes) (λ x. read (Class x.0) x.1) left same) [
            | first h ↦ subst (λ (x : ℕ). Fault ReadsBase base_spelling IsBase (x ∷ bytes) left) (sym (eqb-true b 76 on))
                (fault_after (ReadsClass Start) closed (EndsName Start) ReadsBase base_spelling IsBase (76 ∷ []) (λ name. Class name)
                (λ bytes' left' r. ap (λ (r : Read (List ℕ)). r >>= λ x. read (Class x.0) x.1) r)
                (λ name formed. class_found name formed) (λ name. refl) bytes left (class_faults bytes Start left h))
            | then x h k ↦ absurd cc
          ]
          | inr (off, same) ↦ subst (λ (n : ℕ). Fault ReadsBase base_spelling IsBase (b ∷ bytes) n) (err_is Base (suc (length bytes)) left same)
              (fault_here ReadsBase base_spelling IsBase b bytes Int tt (λ q. base_steps b q None is ∙ ap (λ (c : Bool). cond c (class_at Start q >>= λ x. read (Class x.0) x.1) (stopped Base (suc (length q)))) off))
        ]

apart : (c d b : ℕ) (x y : List ℕ) → eqb c d ≡ false → c ∷ x ≡ b ∷ y → b ≢ d
apart c d b x y off e h = eqb-false c d off ((heads c b x y e).0 ∙ h)

-- a base begins with no [, no ) and no V
base_head : (base : Base) (q : List ℕ) (b : ℕ) (bytes : List ℕ) → base_spelling base ++ q ≡ b ∷ bytes → (b ≢ 91) × (b ≢ 41) × (b ≢ 86)
base_head Boolean q b bytes e = (apart 90 91 b q bytes refl e, apart 90 41 b q bytes refl e, apart 90 86 b q bytes refl e)
base_head Byte q b bytes e = (apart 66 91 b q bytes refl e, apart 66 41 b q bytes refl e, apart 66 86 b q bytes refl e)
base_head Char q b bytes e = (apart 67 91 b q bytes refl e, apart 67 41 b q bytes refl e, apart 67 86 b q bytes refl e)
base_head Short q b bytes e = (apart 83 91 b q bytes refl e, apart 83 41 b q bytes refl e, apart 83 86 b q bytes refl e)
base_head Int q b bytes e = (apart 73 91 b q bytes refl e, apart 73 41 b q bytes refl e, apart 73 86 b q bytes refl e)
base_head Long q b bytes e = (apart 74 91 b q bytes refl e, apart 74 41 b q bytes refl e, apart 74 86 b q bytes refl e)
base_head Float q b bytes e = (apart 70 91 b q bytes refl e, apart 70 41 b q bytes refl e, apart 70 86 b q bytes refl e)
base_head Double q b bytes e = (apart 68 91 b q bytes refl e, apart 68 41 b q bytes refl e, apart 68 86 b q bytes refl e)
base_head (Class name) q b bytes e = (apart 76 91 b (closed name ++ q) bytes refl e, apart 76 41 b (closed name ++ q) bytes refl e, apart 76 86 b (closed name ++ q) bytes refl e)

-- ---- field types of at most so many dimensions

abbrev pub ReadsType : ℕ → List ℕ → Read FieldType → Type 0
ReadsType most bytes r = type_at most bytes ≡ r

pub record IsTypeWithin (most : ℕ) (t : FieldType) : Type 0 where
  pub base : IsBase t.base
  pub dims : t.dims ≤ most

abbrev flat : Base → FieldType
flat base = record { base = base; dims = 0 }

abbrev flat_read : Read Base → Read FieldType
flat_read r = r >>= λ x. Ok (flat x.0, x.1)

abbrev deep_read : Read FieldType → Read FieldType
deep_read r = r >>= λ x. Ok (deeper x.0, x.1)

type_flat : (most b : ℕ) (bytes : List ℕ) → (most ≡ 0) ⊎ (eqb b 91 ≡ false) → type_at most (b ∷ bytes) ≡ flat_read (base_at (b ∷ bytes))
type_flat zero b bytes off = refl
type_flat (suc most) b bytes (inl h) = absurd (omega arith)
type_flat (suc most) b bytes (inr off) = ap (λ (c : Bool). cond c (deep_read (type_at most bytes)) (flat_read (base_at (b ∷ bytes)))) off

type_deep : (most b : ℕ) (bytes : List ℕ) → eqb b 91 ≡ true → type_at (suc most) (b ∷ bytes) ≡ deep_read (type_at most bytes)
type_deep most b bytes on = ap (λ (c : Bool). cond c (deep_read (type_at most bytes)) (flat_read (base_at (b ∷ bytes)))) on

-- at a byte a type is a base, or goes on behind a [
data Turn (most b : ℕ) : Type 0 where
  as_base : (most ≡ 0) ⊎ (eqb b 91 ≡ false) → Turn most b
  as_array : (less : ℕ) → most ≡ suc less → b ≡ 91 → Turn most b

turn : (most b : ℕ) → Turn most b
turn zero b = as_base (inl refl)
turn (suc less) b = by (eqb b 91) refl
  where
    by : (c : Bool) → eqb b 91 ≡ c → Turn (suc less) b
    by true on = as_array less refl (eqb-true b 91 on)
    by false off = as_base (inr off)

flat_takes : (most : ℕ) (bytes : List ℕ) (t : FieldType) (rest : List ℕ) → flat_read (base_at bytes) ≡ Ok (t, rest) → (bytes ≡ field_spelling t ++ rest) × IsTypeWithin most t
flat_takes most bytes t rest e =
    let d = bind_ok (base_at bytes) (λ x. read (flat x.0) x.1) (t, rest) e in
    let q = ok_is (flat d.0.0) t d.0.1 rest d.2 in
    let m = base_takes bytes d.0.0 d.0.1 d.1 in (
      subst (λ (y : FieldType). bytes ≡ field_spelling y ++ rest) q.0 (m.0 ∙ ap (λ (x : List ℕ). base_spelling d.0.0 ++ x) q.1),
      subst (IsTypeWithin most) q.0 (record { base = m.1; dims = omega arith }),
    )

type_takes : (bytes : List ℕ) (most : ℕ) (t : FieldType) (rest : List ℕ) → type_at most bytes ≡ Ok (t, rest) → (bytes ≡ field_spelling t ++ rest) × IsTypeWithin most t
type_takes [] most t rest e = absurd cc
type_takes (b ∷ bytes) most t rest e = by (λ less. type_takes bytes less) (turn most b)
  where
    by : ((less : ℕ) (t : FieldType) (rest : List ℕ) → type_at less bytes ≡ Ok (t, rest) → (bytes ≡ field_spelling t ++ rest) × IsTypeWithin less t) → Turn most b → (b ∷ bytes ≡ field_spelling t ++ rest) × IsTypeWithin most t
    by more (as_base off) = flat_takes most (b ∷ bytes) t rest (sym (type_flat most b bytes off) ∙ e)
    by more (as_array less is bracket) =
        let e' : type_at (suc less) (b ∷ bytes) ≡ Ok (t, rest) = ap (λ (m : ℕ). type_at m (b ∷ bytes)) (sym is) ∙ e in
        let on : eqb b 91 ≡ true = ap (λ (x : ℕ). eqb x 91) bracket in
        let d = bind_ok (type_at less bytes) (λ x. read (deeper x.0) x.1) (t, rest) (sym (type_deep less b bytes on) ∙ e') in
        let q = ok_is (deeper d.0.0) t d.0.1 rest d.2 in
        let m = more less d.0.0 d.0.1 d.1 in
        let fits = m.1.dims in (
          subst (λ (y : FieldType). b ∷ bytes ≡ field_spelling y ++ rest) q.0 (ap (λ (x : ℕ). x ∷ bytes) bracket ∙ ap (λ (x : List ℕ). 91 ∷ x) m.0 ∙ ap (λ (x : List ℕ). 91 ∷ (field_spelling d.0.0 ++ x)) q.1),
          subst (IsTypeWithin most) q.0 (record { base = m.1.base; dims = omega arith }),
        )

type_again : (dims most : ℕ) (base : Base) (q : List ℕ) → IsBase base → dims ≤ most → type_at most (field_spelling (record { base = base; dims = dims }) ++ q) ≡ Ok (record { base = base; dims = dims }, q)
type_again zero most base q is le = by (base_spelling base ++ q) refl
  where
    by : (bytes : List ℕ) → base_spelling base ++ q ≡ bytes → type_at most bytes ≡ Ok (flat base, q)
    by [] e = absurd (let h = sym (base_again base q is) ∙ ap base_at e in cc)
    by (b ∷ bytes) e = type_flat most b bytes (inr (ne_eqb b 91 (base_head base q b bytes e).0)) ∙ ap (λ (x : List ℕ). flat_read (base_at x)) (sym e) ∙ ap flat_read (base_again base q is)
type_again (suc dims) zero base q is le = absurd (omega arith)
type_again (suc dims) (suc most) base q is le =
    let less : dims ≤ most = omega arith in
    ap deep_read (type_again dims most base q is less)

type_faults : (bytes : List ℕ) (most left : ℕ) → type_at most bytes ≡ Err left → Fault (ReadsType most) field_spelling (IsTypeWithin most) bytes left
type_faults [] most left e =
    subst (λ (n : ℕ). Fault (ReadsType most) field_spelling (IsTypeWithin most) [] n) (err_is FieldType 0 left e)
    (fault_cut (ReadsType most) field_spelling (IsTypeWithin most) (flat Int) (record { base = tt; dims = omega arith }))
type_faults (b ∷ bytes) most left e = by (λ less. type_faults bytes less) (turn most b)
  where
    by : ((less left : ℕ) → type_at less bytes ≡ Err left → Fault (ReadsType less) field_spelling (IsTypeWithin less) bytes left) → Turn most b → Fault (ReadsType most) field_spelling (IsTypeWithin most) (b ∷ bytes) left
    by more (as_base off) =
        elim (bind_err (base_at (b ∷ bytes)) (λ x. read (flat x.0) x.1) left (sym (type_flat most b bytes off) ∙ e)) [
          | first h ↦ fault_through ReadsBase base_spelling IsBase (ReadsType most) field_spelling (IsTypeWithin most) b flat []
              (λ bytes' left' r. type_flat most b bytes' off ∙ ap flat_read r)
              (λ base is. record { base = is; dims = omega arith }) (λ base. sym (append-nil (base_spelling base))) bytes left (base_faults (b ∷ bytes) left h)
          | then x h k ↦ absurd cc
        ]
    by more (as_array less is bracket) =
        let e' : type_at (suc less) (b ∷ bytes) ≡ Err left = ap (λ (m : ℕ). type_at m (b ∷ bytes)) (sym is) ∙ e in
        let on : eqb b 91 ≡ true = ap (λ (x : ℕ). eqb x 91) bracket in
        elim (bind_err (type_at less bytes) (λ x. read (deeper x.0) x.1) left (sym (type_deep less b bytes on) ∙ e')) [
          | first h ↦ subst (λ (x : ℕ). Fault (ReadsType most) field_spelling (IsTypeWithin most) (x ∷ bytes) left) (sym bracket)
              (fault_after (ReadsType less) field_spelling (IsTypeWithin less) (ReadsType most) field_spelling (IsTypeWithin most) (91 ∷ []) deeper
              (λ bytes' left' r. ap (λ (m : ℕ). type_at m (91 ∷ bytes')) is ∙ ap deep_read r)
              (λ t formed. let h = formed.dims in record { base = formed.base; dims = omega arith }) (λ t. refl) bytes left (more less left h))
          | then x h k ↦ absurd cc
        ]

abbrev pub ReadsField : List ℕ → Read FieldType → Type 0
ReadsField bytes r = field_at bytes ≡ r

within_field : (t : FieldType) → IsTypeWithin 255 t → IsFieldType t
within_field t is = let h = is.dims in record { base = is.base; dims = omega arith }

pub field_type : Reads ReadsField field_spelling IsFieldType
unfolding field_at
field_type = record {
  takes = λ bytes t rest r. let m = type_takes bytes 255 t rest r in (m.0, within_field t m.1);
  again = λ t q is. let h = is.dims in type_again t.dims 255 t.base q is.base (omega arith);
  fault = λ bytes left r. let f = type_faults bytes 255 left r in
      record { front = f.front; rest = f.rest; split = f.split; left_is = f.left_is; value = f.value; formed = within_field f.value f.formed; tail = f.tail; begins = f.begins; stays = f.stays };
  once = λ bytes r s p q. sym p ∙ q;
}

-- a type begins with no ) and no V
pub field_head : (t : FieldType) (q : List ℕ) (b : ℕ) (bytes : List ℕ) → field_spelling t ++ q ≡ b ∷ bytes → (b ≢ 41) × (b ≢ 86)
field_head t q b bytes e = by t.dims e
  where
    by : (dims : ℕ) → (replicate dims 91 ++ base_spelling t.base) ++ q ≡ b ∷ bytes → (b ≢ 41) × (b ≢ 86)
    by zero e = let h = base_head t.base q b bytes e in (h.1, h.2)
    by (suc dims) e = (apart 91 41 b ((replicate dims 91 ++ base_spelling t.base) ++ q) bytes refl e, apart 91 86 b ((replicate dims 91 ++ base_spelling t.base) ++ q) bytes refl e)
