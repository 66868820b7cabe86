-- A text in modified UTF-8 has one spelling, and a wrong sequence stands in none.
use Rattle.std.proofs.Common.{◌≡◌, ℕ, ◌+◌, ◌-◌, ◌/◌, ◌%◌, ◌<◌, List, [], ◌∷◌, ◌++◌, length, take, drop, refl, sym, ap, subst, ◌∙◌, append_assoc, arith, length-append}
use Rattle.std.proofs.lemmas.List.{append-nil, take_at, drop_at, take-append-drop, length-drop}
use Rattle.std.specs.Prelude.{Result, Ok, Err, Option, Some, None, MatchResult, MatchOption, IfOk, IfErr, IsTrue, is_some, ◌↔◌, Bool, true, false, not}
use Rattle.std.specs.Global.{Vec}
use Rattle.aj_names.specs.declared.types.NameFault.{NameFault}
use Rattle.aj_names.specs.declared.types.NameFault.TheVariants.{BadDescriptor, BadUtf8, Memory}
use Rattle.aj_names.specs.ModifiedUtf8.{unit_spelling, text_spelling, IsUnit, AreUnits, IsUtf8Text, IsUtf8Fault, BeginsNoUnit}
use Rattle.aj_names.specs.Faults.{RefusesUtf8}
use Rattle.aj_names.proofs.Units.{Front, one, two, three, front}

-- a unit is told by its spelling
pub unit_split : (u v : ℕ) (x y : List ℕ) → IsUnit u → IsUnit v → unit_spelling u ++ x ≡ unit_spelling v ++ y → (u ≡ v) × (x ≡ y)
unit_split u v x y fu fv e = split_by u v (unit_spelling v ++ y) x y (front u (unit_spelling v ++ y) x fu (sym e)) (front v (unit_spelling v ++ y) y fv refl)
  where
    split_by : (u v : ℕ) (bytes x y : List ℕ) → Front u bytes x → Front v bytes y → (u ≡ v) × (x ≡ y)
    split_by u v bytes x y (one p q s) (one p' q' s') = (cc, cc)
    split_by u v bytes x y (one p q s) (two p' q' s') = let h : u ≡ 192 + v / 64 = cc in absurd (omega arith)
    split_by u v bytes x y (one p q s) (three p' q' s') = let h : u ≡ 224 + v / 4096 = cc in absurd (omega arith)
    split_by u v bytes x y (two p q s) (one p' q' s') = let h : v ≡ 192 + u / 64 = cc in absurd (omega arith)
    split_by u v bytes x y (two p q s) (two p' q' s') =
        let h : 192 + u / 64 ≡ 192 + v / 64 = cc in
        let k : 128 + u % 64 ≡ 128 + v % 64 = cc in
        (omega arith, cc)
    split_by u v bytes x y (two p q s) (three p' q' s') = let h : 192 + u / 64 ≡ 224 + v / 4096 = cc in absurd (omega arith)
    split_by u v bytes x y (three p q s) (one p' q' s') = let h : v ≡ 224 + u / 4096 = cc in absurd (omega arith)
    split_by u v bytes x y (three p q s) (two p' q' s') = let h : 192 + v / 64 ≡ 224 + u / 4096 = cc in absurd (omega arith)
    split_by u v bytes x y (three p q s) (three p' q' s') =
        let h : 224 + u / 4096 ≡ 224 + v / 4096 = cc in
        let k : 128 + u / 64 % 64 ≡ 128 + v / 64 % 64 = cc in
        let l : 128 + u % 64 ≡ 128 + v % 64 = cc in
        (omega arith, cc)

unit_not_nil : (u : ℕ) (x : List ℕ) → IsUnit u → [] ≡ unit_spelling u ++ x → ⊥
unit_not_nil u x fits e = elim (front u [] x fits e) [ one p q s ↦ cc | two p q s ↦ cc | three p q s ↦ cc ]

-- what stands behind the front of a text
pub record Behind (front whole rest : List ℕ) : Type 0 where
  pub units : List ℕ
  pub fit : AreUnits units
  pub spelled : rest ≡ text_spelling units
  pub joined : whole ≡ front ++ units

pub behind : (us vs rest : List ℕ) → AreUnits us → AreUnits vs → text_spelling us ++ rest ≡ text_spelling vs → Behind us vs rest
behind [] vs rest fu fv e = record { units = vs; fit = fv; spelled = e; joined = refl }
behind (u ∷ us) [] rest fu fv e = absurd (unit_not_nil u (text_spelling us ++ rest) fu.0 (sym e ∙ append_assoc (unit_spelling u) (text_spelling us) rest))
behind (u ∷ us) (v ∷ vs) rest fu fv e =
    let s = unit_split u v (text_spelling us ++ rest) (text_spelling vs) fu.0 fv.0 (sym (append_assoc (unit_spelling u) (text_spelling us) rest) ∙ e) in
    let b = behind us vs rest fu.1 fv.1 s.1 in
    record { units = b.units; fit = b.fit; spelled = b.spelled; joined = let h = b.joined in let k = s.0 in cc }

pub text_once : (us vs : List ℕ) → AreUnits us → AreUnits vs → text_spelling us ≡ text_spelling vs → us ≡ vs
text_once us vs fu fv e =
    let b = behind us vs [] fu fv (append-nil (text_spelling us) ∙ e) in
    nothing b.units b.fit b.spelled b.joined
  where
    nothing : (ws : List ℕ) → AreUnits ws → [] ≡ text_spelling ws → vs ≡ us ++ ws → us ≡ vs
    nothing [] fw s j = sym (append-nil us) ∙ sym j
    nothing (w ∷ ws) fw s j = absurd (unit_not_nil w (text_spelling ws) fw.0 s)

-- the offset of what is left
pub record IsCut (bytes before rest : List ℕ) : Type 0 where
  pub before_is : take (length bytes - length rest) bytes ≡ before
  pub rest_is : drop (length bytes - length rest) bytes ≡ rest

pub cut : (bytes before rest : List ℕ) → bytes ≡ before ++ rest → IsCut bytes before rest
cut bytes before rest e =
    let n : length before ≡ length bytes - length rest = omega (arith, ap length e, length-append before rest) in
    record {
      before_is = ap (take (length bytes - length rest)) e ∙ take_at before rest (length bytes - length rest) n;
      rest_is = ap (drop (length bytes - length rest)) e ∙ drop_at before rest (length bytes - length rest) n;
    }

-- so much of the bytes is read, as these units
pub record Reads (bytes units rest : List ℕ) : Type 0 where
  pub fit : AreUnits units
  pub split : bytes ≡ text_spelling units ++ rest

pub reads_none : (bytes : List ℕ) → Reads bytes [] bytes
reads_none bytes = record { fit = tt; split = refl }

text-push : (units : List ℕ) (u : ℕ) → text_spelling (units ++ u ∷ []) ≡ text_spelling units ++ unit_spelling u
text-push [] u = append-nil (unit_spelling u)
text-push (v ∷ units) u = ap (λ (x : List ℕ). unit_spelling v ++ x) (text-push units u) ∙ sym (append_assoc (unit_spelling v) (text_spelling units) (unit_spelling u))

fit-push : (units : List ℕ) (u : ℕ) → AreUnits units → IsUnit u → AreUnits (units ++ u ∷ [])
fit-push [] u fits fit = (fit, tt)
fit-push (v ∷ units) u fits fit = (fits.0, fit-push units u fits.1 fit)

pub reads_more : (bytes units rest : List ℕ) (u : ℕ) (after : List ℕ) → Reads bytes units rest → IsUnit u → rest ≡ unit_spelling u ++ after → Reads bytes (units ++ u ∷ []) after
reads_more bytes units rest u after r fit e = record {
  fit = fit-push units u r.fit fit;
  split = r.split ∙ ap (λ (x : List ℕ). text_spelling units ++ x) e ∙ sym (append_assoc (text_spelling units) (unit_spelling u) after) ∙ ap (λ (x : List ℕ). x ++ after) (sym (text-push units u));
}

pub reads_all : (bytes units rest : List ℕ) → Reads bytes units rest → rest ≡ [] → bytes ≡ text_spelling units
reads_all bytes units rest r e = r.split ∙ ap (λ (x : List ℕ). text_spelling units ++ x) e ∙ append-nil (text_spelling units)

pub fault_at : (bytes units rest : List ℕ) → Reads bytes units rest → 0 < length rest → BeginsNoUnit rest → IsUtf8Fault bytes (length bytes - length rest)
fault_at bytes units rest r some wrong =
    let c = cut bytes (text_spelling units) rest r.split in
    let e = r.split in
    record {
      within = omega (arith, ap length e, length-append (text_spelling units) rest);
      before = record { units = units; fit = r.fit; spelled = c.before_is };
      wrong = subst BeginsNoUnit (sym c.rest_is) wrong;
    }

-- some units are read
pub record IsPartRead (bytes rest : List ℕ) : Type 0 where
  pub units : List ℕ
  pub reads : Reads bytes units rest

-- a text has no wrong sequence
pub no_fault : (bytes : List ℕ) (n : ℕ) → IsUtf8Fault bytes n → IsUtf8Text bytes → ⊥
no_fault bytes n f t =
    let joined : text_spelling f.before.units ++ drop n bytes ≡ text_spelling t.units = ap (λ (x : List ℕ). x ++ drop n bytes) (sym f.before.spelled) ∙ take-append-drop n bytes ∙ t.spelled in
    let b = behind f.before.units t.units (drop n bytes) f.before.fit t.fit joined in
    none b.units b.fit b.spelled
  where
    none : (ws : List ℕ) → AreUnits ws → drop n bytes ≡ text_spelling ws → ⊥
    none [] fw s = let within = f.within in omega (arith, ap length s, length-drop n bytes)
    none (w ∷ ws) fw s = f.wrong w (text_spelling ws) fw.0 s

-- what a reader finds, or refuses, is the one text of the bytes
pub the_text : (bytes : List ℕ) (vs : List ℕ) → AreUnits vs → bytes ≡ text_spelling vs → (us : List ℕ) → AreUnits us → bytes ≡ text_spelling us → us ≡ vs
the_text bytes vs fv e us fu f = text_once us vs fu fv (sym f ∙ e)

pub only_memory : (bytes : List ℕ) (fault : NameFault) → RefusesUtf8 fault (IsUtf8Fault bytes) → IsUtf8Text bytes → fault ≡ Memory
only_memory bytes (BadDescriptor at) r t = absurd r
only_memory bytes (BadUtf8 at) r t = absurd (no_fault bytes r.0 r.2 t)
only_memory bytes Memory r t = refl

pub only_text : (bytes : List ℕ) (r : Result (Vec ℕ) NameFault) → IfOk r (λ read. bytes ≡ text_spelling read.items) → IfOk r (λ read. AreUnits read.items) → IfErr r (λ fault. RefusesUtf8 fault (IsUtf8Fault bytes))
    → (units : List ℕ) → AreUnits units → bytes ≡ text_spelling units → MatchResult r (λ read. read.items ≡ units) (λ fault. fault ≡ Memory)
only_text bytes (Ok read) found fit fault units fits e = the_text bytes units fits e read.items fit found
only_text bytes (Err f) found fit fault units fits e = only_memory bytes f fault (record { units = units; fit = fits; spelled = e })

pub is_text : (bytes : List ℕ) (o : Option ℕ) (b : Bool) → MatchOption o (IsUtf8Text bytes) (IsUtf8Fault bytes) → is_some o ≡ not b → IsTrue b ↔ IsUtf8Text bytes
is_text bytes None true text e = (λ _. text, λ _. refl)
is_text bytes None false text e = absurd cc
is_text bytes (Some n) true fault e = absurd cc
is_text bytes (Some n) false fault e = (λ h. absurd cc, λ text. absurd (no_fault bytes n fault text))
