-- The hash of a text, unit by unit.
use Rattle.std.proofs.Common.{◌≡◌, ℕ, ◌+◌, ◌*◌, ◌^◌, ◌%◌, ◌<◌, List, [], ◌∷◌, ◌++◌, sym, ap, ◌∙◌, length, take, get_or, arith, length-append, mul_assoc}
use Rattle.std.proofs.lemmas.List.{take_more}
use Rattle.std.proofs.lemmas.Nat.{pow-add, mul-mod_first}
use Rattle.std.proofs.Math.Nat.{mod-add-mod}
use Rattle.class_machine.specs.LibraryCalls.{text_hash}

-- with one more unit behind
hash_push : (units : List ℕ) (u : ℕ) → text_hash (units ++ u ∷ []) ≡ text_hash units * 31 + u
hash_push [] u = omega arith
hash_push (v ∷ units) u =
    let longer : length (units ++ u ∷ []) ≡ length units + 1 = omega (arith, length-append units (u ∷ [])) in
    let power : 31 ^ length (units ++ u ∷ []) ≡ 31 ^ length units * 31 = ap (λ n. 31 ^ n) longer ∙ pow-add 31 (length units) 1 in
    let first : v * 31 ^ length (units ++ u ∷ []) ≡ (v * 31 ^ length units) * 31 = ap (λ p. v * p) power ∙ sym (mul_assoc v (31 ^ length units) 31) in
    let others = hash_push units u in
    omega arith

pub hash_step : (units : List ℕ) (i u hash : ℕ) → i < length units → u ≡ get_or units i 0 → hash ≡ text_hash (take i units) % 2 ^ 32
    → (hash * 31 % 4294967296 + u) % 4294967296 ≡ text_hash (take (i + 1) units) % 2 ^ 32
hash_step units i u hash within is h =
    let t = text_hash (take i units) in
    mod-add-mod (hash * 31) 4294967296 u
    ∙ ap (λ n. (n * 31 + u) % 4294967296) h
    ∙ sym (mod-add-mod (t % 2 ^ 32 * 31) 4294967296 u)
    ∙ ap (λ n. (n + u) % 4294967296) (mul-mod_first t 31 4294967296)
    ∙ mod-add-mod (t * 31) 4294967296 u
    ∙ ap (λ n. n % 4294967296) (sym (hash_push (take i units) u))
    ∙ ap (λ d. text_hash (take i units ++ d ∷ []) % 4294967296) is
    ∙ ap (λ l. text_hash l % 4294967296) (sym (take_more units i 0 within))
