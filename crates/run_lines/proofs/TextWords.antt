-- Texts in quotes at the front.
use Rattle.std.proofs.Common.{◌≡◌, ℕ, List, [], ◌∷◌, ◌++◌, refl, sym, ap, subst, ◌∙◌, append_assoc}
use Rattle.std.specs.Prelude.{map}
use Rattle.std.specs.List.{flat_map}
use Rattle.std.specs.Str.{IsUtf8, chars}
use Rattle.aj_names.specs.Names.{character_units}
use Rattle.std.proofs.lemmas.List.{append-nil}
use Rattle.run_lines.specs.Splits.{Text}
use Rattle.run_lines.specs.Lists.{IsWordAt}
use Rattle.run_lines.specs.Texts.{escape, quote, IsClosed, AreUnits, IsText}
use Rattle.run_lines.proofs.Refusing.{pair_is}
use Rattle.run_lines.proofs.Listing.{IsOne}

shifted : (text behind : Text) → quote text ++ behind ≡ 34 ∷ (flat_map escape text ++ 34 ∷ behind)
shifted text behind = ap (λ (r : Text). 34 ∷ r) (append_assoc (flat_map escape text) (34 ∷ []) behind)

pub text_made : (text inside raw behind : Text) (units : List ℕ) → text ≡ 34 ∷ inside → IsClosed inside raw behind → AreUnits units raw → IsWordAt IsText text units behind
text_made text inside raw behind units opens closed are = record {
  word = quote raw;
  is_word = record { text = raw; quoted = refl; are_units = are };
  front = opens ∙ ap (λ (r : Text). 34 ∷ r) closed ∙ sym (shifted raw behind);
}

-- what stands between the quotes
pub record IsInside (inside : Text) (units : List ℕ) (behind : Text) : Type 0 where
  pub raw : Text
  pub closed : IsClosed inside raw behind
  pub are_units : AreUnits units raw

pub text_opens : (text behind : Text) (units : List ℕ) → IsWordAt IsText text units behind → (inside : Text) × (text ≡ 34 ∷ inside) × IsInside inside units behind
text_opens text behind units w =
    let raw = w.is_word.text in
    (flat_map escape raw ++ 34 ∷ behind, w.front ∙ ap (λ (r : Text). r ++ behind) w.is_word.quoted ∙ shifted raw behind, record { raw = raw; closed = refl; are_units = w.is_word.are_units })

pub text_inside : (text inside behind : Text) (units : List ℕ) → text ≡ 34 ∷ inside → IsWordAt IsText text units behind → IsInside inside units behind
text_inside text inside behind units opens w =
    let o = text_opens text behind units w in
    let is = o.1 in
    let same : o.0 ≡ inside = cc in
    subst (λ (i : Text). IsInside i units behind) same o.2

-- the units of one text
pub units_only : (units more text : List ℕ) → AreUnits units text → AreUnits more text → more ≡ units
units_only units more text a b = b.same ∙ sym a.same

pub text_only : (text inside raw behind : Text) (units : List ℕ) → text ≡ 34 ∷ inside → AreUnits units raw → ((y : Text × Text) → IsClosed inside y.0 y.1 → y ≡ (raw, behind))
    → (y : List ℕ × Text) → IsWordAt IsText text y.0 y.1 → y ≡ (units, behind)
text_only text inside raw behind units opens are one y w =
    let o = text_inside text inside y.1 y.0 opens w in
    let same = one (o.raw, y.1) o.closed in
    let e : o.raw ≡ raw = ap (λ (z : Text × Text). z.0) same in
    pair_is units y.0 behind y.1 (units_only units y.0 raw are (subst (λ (r : Text). AreUnits y.0 r) e o.are_units)) (ap (λ (z : Text × Text). z.1) same)

-- ---- whole words

pub whole_at : (word : Text) (units : List ℕ) → IsText units word → IsWordAt IsText word units []
whole_at word units t = record { word = word; is_word = t; front = sym (append-nil word) }

pub at_whole : (word behind : Text) (units : List ℕ) → behind ≡ [] → IsWordAt IsText word units behind → IsText units word
at_whole word behind units e w =
    subst (λ (t : Text). IsText units t) (sym (w.front ∙ ap (λ (b : Text). w.word ++ b) e ∙ append-nil w.word)) w.is_word

-- ---- units of a text

same_list : (cs : List ℕ) → map (λ c. c) cs ≡ cs
same_list [] = refl
same_list (c ∷ cs) = ap (λ (r : List ℕ). c ∷ r) (same_list cs)

pub units_read : (text bs units yielded : List ℕ) → bs ≡ text → IsUtf8 text → units ≡ flat_map character_units yielded → map (λ c. c) yielded ≡ chars bs → AreUnits units text × ((y : List ℕ) → AreUnits y text → y ≡ units)
units_read text bs units yielded e utf8 are all =
    let made : AreUnits units text = record { utf8 = utf8; same = are ∙ ap (λ (cs : List ℕ). flat_map character_units cs) (sym (same_list yielded) ∙ all ∙ ap chars e) } in
    (made, λ y a. units_only units y text made a)

-- no quote stands at the front
pub no_text : (text : Text) → ((r : Text) → ¬ (text ≡ 34 ∷ r)) → (y : List ℕ × Text) → ¬ (IsWordAt IsText text y.0 y.1)
no_text text none y w = let o = text_opens text y.1 y.0 w in none o.0 o.1

-- the units of what stands between the quotes
pub text_units : (text inside raw behind : Text) → text ≡ 34 ∷ inside → ((y : Text × Text) → IsClosed inside y.0 y.1 → y ≡ (raw, behind)) → (y : List ℕ × Text) → IsWordAt IsText text y.0 y.1 → AreUnits y.0 raw
text_units text inside raw behind opens one y w =
    let o = text_inside text inside y.1 y.0 opens w in
    let e : o.raw ≡ raw = ap (λ (z : Text × Text). z.0) (one (o.raw, y.1) o.closed) in
    subst (λ (r : Text). AreUnits y.0 r) e o.are_units

pub one_text : (now behind : Text) (units : List ℕ) → ((y : List ℕ × Text) → IsWordAt IsText now y.0 y.1 → y ≡ (units, behind)) → IsOne IsText 93 now units behind
one_text now behind units one = record { comma = λ y rest w. one (y, 44 ∷ rest) w; bracket = λ y rest w. one (y, 93 ∷ rest) w }
