-- A text is cut at one place.
use Rattle.std.proofs.Common.{◌≡◌, ℕ, ◌+◌, ◌<◌, Bool, true, false, [], ◌∷◌, ◌++◌, refl, sym, ap, ◌∙◌, length, take, drop, get_or, arith, ◌-◌, suc, drop-cons, take_all, add-one, length-drop}
use Rattle.std.specs.Prelude.{◌==◌, ◌||◌}
use Rattle.std.specs.List.{list_any}
use Rattle.std.proofs.lemmas.Bool.{false≢true, eq-eqb}
use Rattle.std.proofs.lemmas.List.{take-append-drop}
use Rattle.run_lines.specs.Splits.{Text, has, is_stop, IsFirstSplit, IsLastSplit, IsStopSplit}
use Rattle.run_lines.proofs.Refusing.{pair_is}

or_left : (x y : Bool) → (x || y) ≡ false → x ≡ false
or_left true y h = h
or_left false y h = refl

or_right : (x y : Bool) → (x || y) ≡ false → y ≡ false
or_right true y h = absurd (false≢true (sym h))
or_right false y h = h

or_true : (x y : Bool) → x ≡ true → (x || y) ≡ true
or_true true y h = refl
or_true false y h = absurd (false≢true h)

or_also : (x y : Bool) → y ≡ true → (x || y) ≡ true
or_also true y h = refl
or_also false y h = h

-- a text that has what passes
pub passes_inside : (p : ℕ → Bool) (a : Text) (x : ℕ) (b : Text) → p x ≡ true → list_any p (a ++ x ∷ b) ≡ true
passes_inside p [] x b h = or_true (p x) (list_any p b) h
passes_inside p (y ∷ a) x b h = or_also (p y) (list_any p (a ++ x ∷ b)) (passes_inside p a x b h)

-- nothing before the first one that passes
pub first_by : (p : ℕ → Bool) (a c : Text) (x y : ℕ) (b d : Text) → list_any p a ≡ false → list_any p c ≡ false → p x ≡ true → p y ≡ true → a ++ x ∷ b ≡ c ++ y ∷ d → (c ≡ a) × (y ∷ d ≡ x ∷ b)
first_by p [] [] x y b d na nc px py e = (refl, sym e)
first_by p [] (z ∷ c) x y b d na nc px py e =
    let same : x ≡ z = cc in absurd (false≢true (sym (or_left (p z) (list_any p c) nc) ∙ ap p (sym same) ∙ px))
first_by p (z ∷ a) [] x y b d na nc px py e =
    let same : z ≡ y = cc in absurd (false≢true (sym (or_left (p z) (list_any p a) na) ∙ ap p same ∙ py))
first_by p (z ∷ a) (w ∷ c) x y b d na nc px py e =
    let tail : a ++ x ∷ b ≡ c ++ y ∷ d = cc in
    let head : w ≡ z = cc in
    let rest = first_by p a c x y b d (or_right (p z) (list_any p a) na) (or_right (p w) (list_any p c) nc) px py tail in
    ((λ i. head i ∷ rest.0 i), rest.1)

same_byte : (byte : ℕ) → (byte == byte) ≡ true
same_byte byte = eq-eqb byte byte refl

-- what stands from a place on, as a slice has it
abbrev pub rest_from : ℕ → Text → Text
rest_from place text = take (length text - place) (drop place text)

rest_is : (place : ℕ) (text : Text) → rest_from place text ≡ drop place text
rest_is place text = take_all (length text - place) (drop place text) (omega (arith, length-drop place text))

cut : (byte place : ℕ) (text : Text) → place < length text → get_or text place 0 ≡ byte → text ≡ take place text ++ byte ∷ rest_from (place + 1) text
cut byte place text lt is =
    sym (take-append-drop place text)
    ∙ ap (λ (r : Text). take place text ++ r) (drop-cons text place 0 lt ∙ ap (λ (b : ℕ). b ∷ drop (suc place) text) is)
    ∙ ap (λ (n : ℕ). take place text ++ byte ∷ drop n text) (sym (add-one place))
    ∙ ap (λ (r : Text). take place text ++ byte ∷ r) (sym (rest_is (place + 1) text))

-- ---- the first byte

pub first_made : (byte place : ℕ) (text : Text) → place < length text → get_or text place 0 ≡ byte → has byte (take place text) ≡ false → IsFirstSplit byte text (take place text) (rest_from (place + 1) text)
first_made byte place text lt is none = record { whole = cut byte place text lt is; first = none }

pub first_only : (byte : ℕ) (text a b : Text) → IsFirstSplit byte text a b → (y : Text × Text) → IsFirstSplit byte text y.0 y.1 → y ≡ (a, b)
first_only byte text a b s y t =
    let both = first_by (λ c. c == byte) a y.0 byte byte b y.1 s.first t.first (same_byte byte) (same_byte byte) (sym s.whole ∙ t.whole) in
    pair_is a y.0 b y.1 both.0 cc

pub first_none : (byte : ℕ) (text : Text) → has byte text ≡ false → (y : Text × Text) → ¬ (IsFirstSplit byte text y.0 y.1)
first_none byte text none y s =
    false≢true (sym none ∙ ap (has byte) s.whole ∙ passes_inside (λ c. c == byte) y.0 byte y.1 (same_byte byte))

-- ---- the last byte

last_by : (byte : ℕ) (a c b d : Text) → has byte b ≡ false → has byte d ≡ false → a ++ byte ∷ b ≡ c ++ byte ∷ d → (c ≡ a) × (d ≡ b)
last_by byte [] [] b d nb nd e = (refl, cc)
last_by byte [] (z ∷ c) b d nb nd e =
    let tail : b ≡ c ++ byte ∷ d = cc in
    absurd (false≢true (sym nb ∙ ap (has byte) tail ∙ passes_inside (λ c. c == byte) c byte d (same_byte byte)))
last_by byte (z ∷ a) [] b d nb nd e =
    let tail : a ++ byte ∷ b ≡ d = cc in
    absurd (false≢true (sym nd ∙ ap (has byte) (sym tail) ∙ passes_inside (λ c. c == byte) a byte b (same_byte byte)))
last_by byte (z ∷ a) (w ∷ c) b d nb nd e =
    let tail : a ++ byte ∷ b ≡ c ++ byte ∷ d = cc in
    let head : w ≡ z = cc in
    let rest = last_by byte a c b d nb nd tail in
    ((λ i. head i ∷ rest.0 i), rest.1)

pub last_only : (byte : ℕ) (text a b : Text) → IsLastSplit byte text a b → (y : Text × Text) → IsLastSplit byte text y.0 y.1 → y ≡ (a, b)
last_only byte text a b s y t =
    let both = last_by byte a y.0 b y.1 s.last t.last (sym s.whole ∙ t.whole) in pair_is a y.0 b y.1 both.0 both.1

pub last_none : (byte : ℕ) (text : Text) → has byte text ≡ false → (y : Text × Text) → ¬ (IsLastSplit byte text y.0 y.1)
last_none byte text none y s =
    false≢true (sym none ∙ ap (has byte) s.whole ∙ passes_inside (λ c. c == byte) y.0 byte y.1 (same_byte byte))

pub last_made : (byte place : ℕ) (text : Text) → place < length text → get_or text place 0 ≡ byte → has byte (drop (place + 1) text) ≡ false → IsLastSplit byte text (take place text) (rest_from (place + 1) text)
last_made byte place text lt is none = record { whole = cut byte place text lt is; last = ap (has byte) (rest_is (place + 1) text) ∙ none }

-- ---- the first stop

pub stop_made : (place : ℕ) (text : Text) → place < length text → is_stop (get_or text place 0) ≡ true → list_any is_stop (take place text) ≡ false → IsStopSplit text (take place text) (rest_from place text)
stop_made place text lt is none = record {
  whole = sym (take-append-drop place text) ∙ ap (λ (r : Text). take place text ++ r) (sym (rest_is place text));
  first = none;
  stop = get_or text place 0;
  is_stop = is;
  more = drop (suc place) text;
  begins = rest_is place text ∙ drop-cons text place 0 lt;
}

pub stop_only : (text a b : Text) → IsStopSplit text a b → (y : Text × Text) → IsStopSplit text y.0 y.1 → y ≡ (a, b)
stop_only text a b s y t =
    let e : a ++ s.stop ∷ s.more ≡ y.0 ++ t.stop ∷ t.more = ap (λ (r : Text). a ++ r) (sym s.begins) ∙ sym s.whole ∙ t.whole ∙ ap (λ (r : Text). y.0 ++ r) t.begins in
    let both = first_by is_stop a y.0 s.stop t.stop s.more t.more s.first t.first s.is_stop t.is_stop e in
    pair_is a y.0 b y.1 both.0 (t.begins ∙ both.1 ∙ sym s.begins)

pub stop_none : (text : Text) → list_any is_stop text ≡ false → (y : Text × Text) → ¬ (IsStopSplit text y.0 y.1)
stop_none text none y s =
    false≢true (sym none ∙ ap (list_any is_stop) (s.whole ∙ ap (λ (r : Text). y.0 ++ r) s.begins) ∙ passes_inside is_stop y.0 s.stop s.more s.is_stop)
