-- The kinds of the types of a descriptor, one after the other.
use Rattle.std.specs.Prelude.{◌≡◌, ℕ, zero, suc, ◌+◌, ◌<◌, ◌==◌, Bool, true, false, cond, List, [], ◌∷◌, map, length, drop, slice_get, Some, None, refl}
use Rattle.std.proofs.Common.{sym, ap, ◌∙◌, arith}
use Rattle.std.specs.Option.{option_map}
use Rattle.std.proofs.Math.Seq.{drop-nil}
use Rattle.std.proofs.lemmas.Option.{slice_get-map}
use Rattle.class_machine.specs.declared.kinds.Kind.{Kind}
use Rattle.class_machine.specs.Descriptors.{kind_in, ahead, types_in}
use Rattle.machine_code.specs.TypeLengths.{class_length, type_length}

-- of the types up to the closing bracket
abbrev pub kinds : List ℕ → List Kind
kinds bytes = map kind_in (types_in false bytes)

ahead_kinds : (b : ℕ) (types : List (List ℕ)) → map kind_in (ahead b types) ≡ kind_in (b ∷ []) ∷ drop 1 (map kind_in types)
ahead_kinds b [] = refl
ahead_kinds b (type ∷ types) = refl

-- behind the name of a class
behind_class : (bytes : List ℕ) → drop 1 (map kind_in (types_in true bytes)) ≡ kinds (drop (class_length bytes) bytes)
behind_class [] = refl
behind_class (b ∷ bytes) = by (b == 59) refl (behind_class bytes) where
  by : (test : Bool) → (b == 59) ≡ test → drop 1 (map kind_in (types_in true bytes)) ≡ kinds (drop (class_length bytes) bytes)
      → drop 1 (map kind_in (cond test ((b ∷ []) ∷ types_in false bytes) (ahead b (types_in true bytes)))) ≡ kinds (drop (cond test 1 (1 + class_length bytes)) (b ∷ bytes))
  by true is rest = refl
  by false is rest =
      ap (drop 1) (ahead_kinds b (types_in true bytes)) ∙ rest
      ∙ ap (λ (n : ℕ). kinds (drop n (b ∷ bytes))) (let e : suc (class_length bytes) ≡ 1 + class_length bytes = omega arith in e)

-- the types behind the first
pub behind_first : (bytes : List ℕ) → drop 1 (kinds bytes) ≡ kinds (drop (type_length bytes) bytes)
behind_first [] = refl
behind_first (b ∷ bytes) = by (b == 41) (b == 91) (b == 76) refl (behind_first bytes) where
  by : (x y z : Bool) → (b == 41) ≡ x → drop 1 (kinds bytes) ≡ kinds (drop (type_length bytes) bytes)
      → drop 1 (map kind_in (cond x [] (cond y (ahead b (types_in false bytes)) (cond z (ahead b (types_in true bytes)) ((b ∷ []) ∷ types_in false bytes)))))
      ≡ kinds (drop (cond x 0 (cond y (1 + type_length bytes) (cond z (1 + class_length bytes) 1))) (b ∷ bytes))
  by true y z is rest =
      sym (ap (λ (x : Bool). map kind_in (cond x [] (cond (b == 91) (ahead b (types_in false bytes)) (cond (b == 76) (ahead b (types_in true bytes)) ((b ∷ []) ∷ types_in false bytes))))) is)
  by false true z is rest =
      ap (drop 1) (ahead_kinds b (types_in false bytes)) ∙ rest
      ∙ ap (λ (n : ℕ). kinds (drop n (b ∷ bytes))) (let e : suc (type_length bytes) ≡ 1 + type_length bytes = omega arith in e)
  by false false true is rest =
      ap (drop 1) (ahead_kinds b (types_in true bytes)) ∙ behind_class bytes
      ∙ ap (λ (n : ℕ). kinds (drop n (b ∷ bytes))) (let e : suc (class_length bytes) ≡ 1 + class_length bytes = omega arith in e)
  by false false false is rest = refl

-- no type stands before the closing bracket
pub no_kinds : (bytes : List ℕ) → type_length bytes ≡ 0 → kinds bytes ≡ []
no_kinds [] none = refl
no_kinds (b ∷ bytes) none = by (b == 41) (b == 91) (b == 76) none where
  by : (x y z : Bool) → cond x 0 (cond y (1 + type_length bytes) (cond z (1 + class_length bytes) 1)) ≡ 0
      → map kind_in (cond x [] (cond y (ahead b (types_in false bytes)) (cond z (ahead b (types_in true bytes)) ((b ∷ []) ∷ types_in false bytes)))) ≡ []
  by true y z none = refl
  by false true z none = absurd (omega arith)
  by false false true none = absurd (omega arith)
  by false false false none = absurd (omega arith)

split_ahead : (b : ℕ) (types : List (List ℕ)) → map kind_in (ahead b types) ≡ kind_in (b ∷ []) ∷ drop 1 (map kind_in (ahead b types))
split_ahead b [] = refl
split_ahead b (type ∷ types) = refl

-- the first type
pub first_kind : (bytes : List ℕ) → 0 < type_length bytes → kinds bytes ≡ kind_in bytes ∷ drop 1 (kinds bytes)
first_kind [] some = absurd (omega arith)
first_kind (b ∷ bytes) some = by (b == 41) (b == 91) (b == 76) some where
  by : (x y z : Bool) → 0 < cond x 0 (cond y (1 + type_length bytes) (cond z (1 + class_length bytes) 1))
      → map kind_in (cond x [] (cond y (ahead b (types_in false bytes)) (cond z (ahead b (types_in true bytes)) ((b ∷ []) ∷ types_in false bytes))))
      ≡ kind_in (b ∷ bytes) ∷ drop 1 (map kind_in (cond x [] (cond y (ahead b (types_in false bytes)) (cond z (ahead b (types_in true bytes)) ((b ∷ []) ∷ types_in false bytes)))))
  by true y z some = absurd (omega arith)
  by false true z some = split_ahead b (types_in false bytes)
  by false false true some = split_ahead b (types_in true bytes)
  by false false false some = refl

-- one type after the other
pub next_kinds : (all bytes : List ℕ) (turn : ℕ) → drop turn (kinds all) ≡ kinds bytes → drop (turn + 1) (kinds all) ≡ kinds (drop (type_length bytes) bytes)
next_kinds all bytes turn so_far = drop-drop_one (kinds all) turn ∙ ap (drop 1) so_far ∙ behind_first bytes where
  drop-drop_one : (ks : List Kind) (n : ℕ) → drop (n + 1) ks ≡ drop 1 (drop n ks)
  drop-drop_one ks zero = ap (λ (m : ℕ). drop m ks) (let e : 0 + 1 ≡ 1 = omega arith in e)
  drop-drop_one [] (suc n) = drop-nil (suc n + 1) ∙ sym (ap (drop 1) (drop-nil {A = Kind} (suc n)))
  drop-drop_one (k ∷ ks) (suc n) = ap (λ (m : ℕ). drop m (k ∷ ks)) (let e : suc n + 1 ≡ suc (n + 1) = omega arith in e) ∙ drop-drop_one ks n

get_dropped : (ks : List Kind) (i : ℕ) → slice_get ks i ≡ slice_get (drop i ks) 0
get_dropped ks zero = refl
get_dropped [] (suc i) = refl
get_dropped (k ∷ ks) (suc i) = get_dropped ks i

pub kind_there : (all bytes : List ℕ) (i : ℕ) → drop i (kinds all) ≡ kinds bytes → 0 < type_length bytes → Some (kind_in bytes) ≡ option_map kind_in (slice_get (types_in false all) i)
kind_there all bytes i so_far some =
    sym (ap (λ (ks : List Kind). slice_get ks 0) (first_kind bytes some)) ∙ sym (ap (λ (ks : List Kind). slice_get ks 0) so_far)
    ∙ sym (get_dropped (kinds all) i) ∙ slice_get-map kind_in (types_in false all) i

pub no_kind_there : (all bytes : List ℕ) (i : ℕ) → drop i (kinds all) ≡ kinds bytes → type_length bytes ≡ 0 → None ≡ option_map kind_in (slice_get (types_in false all) i)
no_kind_there all bytes i so_far none =
    sym (ap (λ (ks : List Kind). slice_get ks 0) (no_kinds bytes none)) ∙ sym (ap (λ (ks : List Kind). slice_get ks 0) so_far)
    ∙ sym (get_dropped (kinds all) i) ∙ slice_get-map kind_in (types_in false all) i

-- how many are left
pub one_less : (bytes : List ℕ) → 0 < type_length bytes → length (kinds bytes) ≡ length (kinds (drop (type_length bytes) bytes)) + 1
one_less bytes some =
    ap length (first_kind bytes some) ∙ (let e : suc (length (drop 1 (kinds bytes))) ≡ length (drop 1 (kinds bytes)) + 1 = omega arith in e)
    ∙ ap (λ (ks : List Kind). length ks + 1) (behind_first bytes)
