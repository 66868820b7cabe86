-- An aspect that is read is spelled by the text, and one that is spelled there is read.
use Rattle.std.proofs.Common.{◌≡◌, ℕ, Bool, true, not, ◌&&◌, List, [], ◌∷◌, ◌++◌, length, Some, None, refl, sym, ap, subst, ◌∙◌, append-nil, arith}
use Rattle.std.specs.Prelude.{◌==◌, nat_le, if◌then◌else◌, codes}
use Rattle.std.specs.List.{list_all}
use Rattle.std.specs.Str.{bytes_eq}
use Rattle.std.proofs.lemmas.Bool.{and_parts, and_from, eqb-true, eq-eqb}
use Rattle.jp_model.specs.declared.first_aspect.FirstAspect.{FirstAspect}
use Rattle.jp_model.specs.AspectText.{Token, SpellsAspect, tokens_of, is_first_aspect, is_space, is_short_identifier, is_literal, quoted, word, sign}
use Rattle.jp_model.specs.AspectText.Token.{Word, Sign}
use Rattle.aspect_form.specs.Reading.{◌>>=◌, run_of, behind_run, token_at, tokens_at, identifier_at, quoted_at, header_at, pointcut_at, body_at, aspect_at}
use Rattle.aspect_form.proofs.TokenLaws.{bind_some, when_some, run_splits, run_passes, behind_again, is_solid, tokens_take, tokens_again, tokens_join, tokens_split, identifier_takes, identifier_again, identifier_is_solid, quoted_takes, quoted_again}

-- ---- the header

abbrev opening : List Token
opening = word (codes "aspect") ∷ []

abbrev before : List Token
before = sign (codes "{") ∷ word (codes "before") ∷ sign (codes "(") ∷ sign (codes ")") ∷ sign (codes ":") ∷ []

abbrev header_tokens : List ℕ → List Token
header_tokens name = opening ++ (word name ∷ before)

abbrev pub is_own_name : List ℕ → Bool
is_own_name name = not (bytes_eq name (codes "System"))

header_takes : (bytes name rest : List ℕ) → header_at bytes ≡ Some (name, rest) → (tokens_at (header_tokens name) bytes ≡ Some rest) × (is_short_identifier name ≡ true) × (is_own_name name ≡ true)
unfolding header_at
header_takes bytes name rest e =
    let a = bind_some (tokens_at opening bytes) (λ first. identifier_at first >>= (λ n. tokens_at before n.1 >>= (λ r. if is_own_name n.0 then Some (n.0, r) else None))) (name, rest) e in
    let b = bind_some (identifier_at a.0) (λ n. tokens_at before n.1 >>= (λ r. if is_own_name n.0 then Some (n.0, r) else None)) (name, rest) a.2 in
    let c = bind_some (tokens_at before b.0.1) (λ r. if is_own_name b.0.0 then Some (b.0.0, r) else None) (name, rest) b.2 in
    let g = when_some (is_own_name b.0.0) (b.0.0, c.0) (name, rest) c.2 in
    let i = identifier_takes a.0 b.0.0 b.0.1 b.1 in
    let one : token_at (Word b.0.0) a.0 ≡ Some b.0.1 = i.0 in
    let later : tokens_at (word b.0.0 ∷ before) a.0 ≡ Some c.0 = rw one c.1 in
    let all : tokens_at (header_tokens b.0.0) bytes ≡ Some c.0 = tokens_join opening (word b.0.0 ∷ before) bytes a.0 a.1 ∙ later in
    subst (λ (p : List ℕ × List ℕ). (tokens_at (header_tokens p.0) bytes ≡ Some p.1) × (is_short_identifier p.0 ≡ true) × (is_own_name p.0 ≡ true)) g.1 (all, i.1, g.0)

header_again : (bytes name rest : List ℕ) → tokens_at (header_tokens name) bytes ≡ Some rest → is_short_identifier name ≡ true → is_own_name name ≡ true → header_at bytes ≡ Some (name, rest)
unfolding header_at
header_again bytes name rest e h own =
    let a = tokens_split opening (word name ∷ before) bytes rest e in
    let b = bind_some (token_at (Word name) a.0) (tokens_at before) rest a.2 in
    let first : tokens_at opening bytes ≡ Some a.0 = a.1 in
    let found : identifier_at a.0 ≡ Some (name, b.0) = identifier_again a.0 name b.0 b.1 h in
    let later : tokens_at before b.0 ≡ Some rest = b.2 in
    rw (first, found, later, own) refl

-- ---- the pointcut

abbrev calling : List Token
calling = word (codes "call") ∷ sign (codes "(") ∷ word (codes "void") ∷ []

abbrev point : List Token
point = sign (codes ".") ∷ []

abbrev brackets : List Token
brackets = sign (codes "(") ∷ sign (codes ")") ∷ sign (codes ")") ∷ []

abbrev method_tokens : List ℕ → List Token
method_tokens method = word method ∷ brackets

abbrev class_tokens : List ℕ → List ℕ → List Token
class_tokens class method = word class ∷ (point ++ method_tokens method)

abbrev pointcut_tokens : List ℕ → List ℕ → List Token
pointcut_tokens class method = calling ++ class_tokens class method

pointcut_takes : (bytes class method rest : List ℕ) → pointcut_at bytes ≡ Some (class, method, rest)
    → (tokens_at (pointcut_tokens class method) bytes ≡ Some rest) × (is_short_identifier class ≡ true) × (is_short_identifier method ≡ true)
unfolding pointcut_at
pointcut_takes bytes class method rest e =
    let a = bind_some (tokens_at calling bytes) (λ first. identifier_at first >>= (λ c. tokens_at point c.1 >>= (λ p. identifier_at p >>= (λ m. tokens_at brackets m.1 >>= (λ r. Some (c.0, m.0, r)))))) (class, method, rest) e in
    let b = bind_some (identifier_at a.0) (λ c. tokens_at point c.1 >>= (λ p. identifier_at p >>= (λ m. tokens_at brackets m.1 >>= (λ r. Some (c.0, m.0, r))))) (class, method, rest) a.2 in
    let c = bind_some (tokens_at point b.0.1) (λ p. identifier_at p >>= (λ m. tokens_at brackets m.1 >>= (λ r. Some (b.0.0, m.0, r)))) (class, method, rest) b.2 in
    let d = bind_some (identifier_at c.0) (λ m. tokens_at brackets m.1 >>= (λ r. Some (b.0.0, m.0, r))) (class, method, rest) c.2 in
    let f = bind_some (tokens_at brackets d.0.1) (λ r. Some (b.0.0, d.0.0, r)) (class, method, rest) d.2 in
    let g = when_some true (b.0.0, d.0.0, f.0) (class, method, rest) f.2 in
    let i = identifier_takes a.0 b.0.0 b.0.1 b.1 in
    let j = identifier_takes c.0 d.0.0 d.0.1 d.1 in
    let method_is : token_at (Word d.0.0) c.0 ≡ Some d.0.1 = j.0 in
    let third : tokens_at (method_tokens d.0.0) c.0 ≡ Some f.0 = rw method_is f.1 in
    let second : tokens_at (point ++ method_tokens d.0.0) b.0.1 ≡ Some f.0 = tokens_join point (method_tokens d.0.0) b.0.1 c.0 c.1 ∙ third in
    let class_is : token_at (Word b.0.0) a.0 ≡ Some b.0.1 = i.0 in
    let first : tokens_at (class_tokens b.0.0 d.0.0) a.0 ≡ Some f.0 = rw class_is second in
    let all : tokens_at (pointcut_tokens b.0.0 d.0.0) bytes ≡ Some f.0 = tokens_join calling (class_tokens b.0.0 d.0.0) bytes a.0 a.1 ∙ first in
    subst (λ (p : List ℕ × List ℕ × List ℕ). (tokens_at (pointcut_tokens p.0 p.1) bytes ≡ Some p.2) × (is_short_identifier p.0 ≡ true) × (is_short_identifier p.1 ≡ true)) g.1 (all, i.1, j.1)

pointcut_again : (bytes class method rest : List ℕ) → tokens_at (pointcut_tokens class method) bytes ≡ Some rest → is_short_identifier class ≡ true → is_short_identifier method ≡ true
    → pointcut_at bytes ≡ Some (class, method, rest)
unfolding pointcut_at
pointcut_again bytes class method rest e h i =
    let a = tokens_split calling (class_tokens class method) bytes rest e in
    let b = bind_some (token_at (Word class) a.0) (tokens_at (point ++ method_tokens method)) rest a.2 in
    let c = tokens_split point (method_tokens method) b.0 rest b.2 in
    let d = bind_some (token_at (Word method) c.0) (tokens_at brackets) rest c.2 in
    let first : tokens_at calling bytes ≡ Some a.0 = a.1 in
    let class_is : identifier_at a.0 ≡ Some (class, b.0) = identifier_again a.0 class b.0 b.1 h in
    let second : tokens_at point b.0 ≡ Some c.0 = c.1 in
    let method_is : identifier_at c.0 ≡ Some (method, d.0) = identifier_again c.0 method d.0 d.1 i in
    let third : tokens_at brackets d.0 ≡ Some rest = d.2 in
    rw (first, class_is, second, method_is, third) refl

-- ---- the body

abbrev printing : List Token
printing = sign (codes "{") ∷ word (codes "System") ∷ sign (codes ".") ∷ word (codes "out") ∷ sign (codes ".") ∷ word (codes "println") ∷ sign (codes "(") ∷ []

abbrev closing : List Token
closing = sign (codes ")") ∷ sign (codes ";") ∷ sign (codes "}") ∷ []

abbrev text_tokens : List ℕ → List Token
text_tokens text = sign (quoted text) ∷ closing

abbrev body_tokens : List ℕ → List Token
body_tokens text = printing ++ text_tokens text

body_takes : (bytes text rest : List ℕ) → body_at bytes ≡ Some (text, rest) → (tokens_at (body_tokens text) bytes ≡ Some rest) × (is_literal text ≡ true)
unfolding body_at
body_takes bytes text rest e =
    let a = bind_some (tokens_at printing bytes) (λ first. quoted_at first >>= (λ t. tokens_at closing t.1 >>= (λ r. Some (t.0, r)))) (text, rest) e in
    let b = bind_some (quoted_at a.0) (λ t. tokens_at closing t.1 >>= (λ r. Some (t.0, r))) (text, rest) a.2 in
    let c = bind_some (tokens_at closing b.0.1) (λ r. Some (b.0.0, r)) (text, rest) b.2 in
    let g = when_some true (b.0.0, c.0) (text, rest) c.2 in
    let i = quoted_takes a.0 b.0.0 b.0.1 b.1 in
    let text_is : token_at (Sign (quoted b.0.0)) a.0 ≡ Some b.0.1 = i.0 in
    let first : tokens_at (text_tokens b.0.0) a.0 ≡ Some c.0 = rw text_is c.1 in
    let all : tokens_at (body_tokens b.0.0) bytes ≡ Some c.0 = tokens_join printing (text_tokens b.0.0) bytes a.0 a.1 ∙ first in
    subst (λ (p : List ℕ × List ℕ). (tokens_at (body_tokens p.0) bytes ≡ Some p.1) × (is_literal p.0 ≡ true)) g.1 (all, i.1)

body_again : (bytes text rest : List ℕ) → tokens_at (body_tokens text) bytes ≡ Some rest → is_literal text ≡ true → body_at bytes ≡ Some (text, rest)
unfolding body_at
body_again bytes text rest e h =
    let a = tokens_split printing (text_tokens text) bytes rest e in
    let b = bind_some (token_at (Sign (quoted text)) a.0) (tokens_at closing) rest a.2 in
    let first : tokens_at printing bytes ≡ Some a.0 = a.1 in
    let found : quoted_at a.0 ≡ Some (text, b.0) = quoted_again a.0 text b.0 b.1 h in
    let later : tokens_at closing b.0 ≡ Some rest = b.2 in
    rw (first, found, later) refl

-- ---- the whole

abbrev last : List Token
last = sign (codes "}") ∷ []

all_run : (rest behind run : List ℕ) → length behind ≡ 0 → rest ≡ run ++ behind → rest ≡ run
all_run rest [] run h e = e ∙ append-nil run
all_run rest (b ∷ behind) run h e = absurd (omega (arith, h))

-- what stands behind the last token
only_blanks : (rest : List ℕ) → length (behind_run is_space rest) ≡ 0 → list_all is_space rest ≡ true
only_blanks rest h = subst (λ (r : List ℕ). list_all is_space r ≡ true) (sym (all_run rest (behind_run is_space rest) (run_of is_space rest) h (run_splits is_space rest))) (run_passes is_space rest)

nothing_behind : (rest : List ℕ) → list_all is_space rest ≡ true → length (behind_run is_space rest) ≡ 0
nothing_behind rest h = ap length (sym (ap (behind_run is_space) (append-nil rest)) ∙ behind_again is_space rest [] h refl)

abbrev ending : List ℕ → List ℕ → Bool
ending bytes rest = length (behind_run is_space rest) == 0 && nat_le (length bytes) 16777216

abbrev aspect_with : List ℕ → List ℕ → List ℕ → List ℕ → FirstAspect
aspect_with name class method text = record { name = name; class = class; method = method; text = text }

pub aspect_takes : (bytes : List ℕ) (a : FirstAspect) → aspect_at bytes ≡ Some a → SpellsAspect bytes a
unfolding aspect_at
aspect_takes bytes a e =
    let h = bind_some (header_at bytes) (λ h. pointcut_at h.1 >>= (λ p. body_at p.2 >>= (λ b. tokens_at last b.1 >>= (λ r. if ending bytes r then Some (aspect_with h.0 p.0 p.1 b.0) else None)))) a e in
    let p = bind_some (pointcut_at h.0.1) (λ p. body_at p.2 >>= (λ b. tokens_at last b.1 >>= (λ r. if ending bytes r then Some (aspect_with h.0.0 p.0 p.1 b.0) else None))) a h.2 in
    let b = bind_some (body_at p.0.2) (λ b. tokens_at last b.1 >>= (λ r. if ending bytes r then Some (aspect_with h.0.0 p.0.0 p.0.1 b.0) else None)) a p.2 in
    let l = bind_some (tokens_at last b.0.1) (λ r. if ending bytes r then Some (aspect_with h.0.0 p.0.0 p.0.1 b.0.0) else None) a b.2 in
    let g = when_some (ending bytes l.0) (aspect_with h.0.0 p.0.0 p.0.1 b.0.0) a l.2 in
    let ends = and_parts (length (behind_run is_space l.0) == 0) (nat_le (length bytes) 16777216) g.0 in
    let i = header_takes bytes h.0.0 h.0.1 h.1 in
    let j = pointcut_takes h.0.1 p.0.0 p.0.1 p.0.2 p.1 in
    let k = body_takes p.0.2 b.0.0 b.0.1 b.1 in
    let third : tokens_at (body_tokens b.0.0 ++ last) p.0.2 ≡ Some l.0 = tokens_join (body_tokens b.0.0) last p.0.2 b.0.1 k.0 ∙ l.1 in
    let second : tokens_at (pointcut_tokens p.0.0 p.0.1 ++ (body_tokens b.0.0 ++ last)) h.0.1 ≡ Some l.0 = tokens_join (pointcut_tokens p.0.0 p.0.1) (body_tokens b.0.0 ++ last) h.0.1 p.0.2 j.0 ∙ third in
    let all : tokens_at (tokens_of (aspect_with h.0.0 p.0.0 p.0.1 b.0.0)) bytes ≡ Some l.0 = tokens_join (header_tokens h.0.0) (pointcut_tokens p.0.0 p.0.1 ++ (body_tokens b.0.0 ++ last)) bytes h.0.1 i.0 ∙ second in
    let spelled = tokens_take (tokens_of (aspect_with h.0.0 p.0.0 p.0.1 b.0.0)) bytes l.0 all (only_blanks l.0 (eqb-true (length (behind_run is_space l.0)) 0 ends.0)) in
    let formed : is_first_aspect (aspect_with h.0.0 p.0.0 p.0.1 b.0.0) ≡ true =
    and_from (is_short_identifier h.0.0) (is_own_name h.0.0 && (is_short_identifier p.0.0 && (is_short_identifier p.0.1 && is_literal b.0.0))) i.1
    (and_from (is_own_name h.0.0) (is_short_identifier p.0.0 && (is_short_identifier p.0.1 && is_literal b.0.0)) i.2
    (and_from (is_short_identifier p.0.0) (is_short_identifier p.0.1 && is_literal b.0.0) j.1 (and_from (is_short_identifier p.0.1) (is_literal b.0.0) j.2 k.1))) in
    subst (SpellsAspect bytes) g.1 (record { formed = formed; spelled = spelled; bounded = ends.1 })

are_solid : (a : FirstAspect) → is_short_identifier a.name ≡ true → is_short_identifier a.class ≡ true → is_short_identifier a.method ≡ true → list_all is_solid (tokens_of a) ≡ true
are_solid a h i j =
    let name : is_solid (Word a.name) ≡ true = identifier_is_solid a.name h in
    let class : is_solid (Word a.class) ≡ true = identifier_is_solid a.class i in
    let method : is_solid (Word a.method) ≡ true = identifier_is_solid a.method j in
    rw (name, class, method) refl

pub aspect_again : (bytes : List ℕ) (a : FirstAspect) → SpellsAspect bytes a → aspect_at bytes ≡ Some a
unfolding aspect_at
aspect_again bytes a s =
    let o = and_parts (is_short_identifier a.name) (is_own_name a.name && (is_short_identifier a.class && (is_short_identifier a.method && is_literal a.text))) s.formed in
    let p = and_parts (is_own_name a.name) (is_short_identifier a.class && (is_short_identifier a.method && is_literal a.text)) o.1 in
    let q = and_parts (is_short_identifier a.class) (is_short_identifier a.method && is_literal a.text) p.1 in
    let r = and_parts (is_short_identifier a.method) (is_literal a.text) q.1 in
    let t = tokens_again (tokens_of a) bytes (are_solid a o.0 q.0 r.0) s.spelled in
    let h = tokens_split (header_tokens a.name) (pointcut_tokens a.class a.method ++ (body_tokens a.text ++ last)) bytes t.0 t.1 in
    let c = tokens_split (pointcut_tokens a.class a.method) (body_tokens a.text ++ last) h.0 t.0 h.2 in
    let b = tokens_split (body_tokens a.text) last c.0 t.0 c.2 in
    let header : header_at bytes ≡ Some (a.name, h.0) = header_again bytes a.name h.0 h.1 o.0 p.0 in
    let pointcut : pointcut_at h.0 ≡ Some (a.class, a.method, c.0) = pointcut_again h.0 a.class a.method c.0 c.1 q.0 r.0 in
    let body : body_at c.0 ≡ Some (a.text, b.0) = body_again c.0 a.text b.0 b.1 r.1 in
    let rest : tokens_at last b.0 ≡ Some t.0 = b.2 in
    let none : length (behind_run is_space t.0) ≡ 0 = nothing_behind t.0 t.2 in
    let ends : ending bytes t.0 ≡ true = and_from (length (behind_run is_space t.0) == 0) (nat_le (length bytes) 16777216) (eq-eqb (length (behind_run is_space t.0)) 0 none) s.bounded in
    rw (header, pointcut, body, rest, ends) refl
