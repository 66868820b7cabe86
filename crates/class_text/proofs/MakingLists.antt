-- What is made of lists, one by one: what is made of the rest, behind what was found.
use Rattle.std.proofs.Common.{◌≡◌, ℕ, Bool, true, false, List, [], ◌∷◌, ◌++◌, length, Option, Some, None, refl, sym, ap, ◌∙◌, append_assoc}
use Rattle.std.specs.Prelude.{Ok, Err, if◌then◌else◌}
use Rattle.std.specs.List.{cons_option}
use Rattle.std.proofs.lemmas.List.{append-nil, length-append}
use Rattle.class_file.specs.declared.pool.PoolEntry.{PoolEntry}
use Rattle.class_text.specs.Gives.{◌>>=◌, Making}
use Rattle.class_text.specs.Making.{has_room, counted, count_with}

abbrev pub behind : {X : Type 0} → List X → Making (List X) → Making (List X)
behind found made = made >>= (λ m. Ok (m.0, found ++ m.1))

-- where nothing was found yet
pub begins : {X : Type 0} (made : Making (List X)) → made ≡ behind [] made
begins (Ok m) = refl
begins (Err n) = refl

-- where nothing is left
pub finishes : {X : Type 0} (all : Making (List X)) (found : List X) (pool : List PoolEntry) → all ≡ behind found (Ok (pool, [])) → all ≡ Ok (pool, found)
finishes all found pool e = e ∙ ap (λ (l : List _). Ok (pool, l)) (append-nil found)

put : {X : Type 0} (found : List X) (one : Option X) (more : List X) → (found ++ cons_option one []) ++ more ≡ found ++ cons_option one more
put found None more = ap (λ (l : List _). l ++ more) (append-nil found)
put found (Some x) more = append_assoc found (x ∷ []) more

put_made : {X : Type 0} (found : List X) (one : Option X) (more : Making (List X)) → behind found (more >>= (λ m. Ok (m.0, cons_option one m.1))) ≡ behind (found ++ cons_option one []) more
put_made found one (Ok m) = ap (λ (l : List _). Ok (m.0, l)) (sym (put found one m.1))
put_made found one (Err n) = refl

count_is_length : {X : Type 0} (found : List X) (one : Option X) → count_with (length found) one ≡ length (found ++ cons_option one [])
count_is_length found None = sym (ap length (append-nil found))
count_is_length found (Some x) = sym (length-append found (x ∷ []))

-- what is made of the lines from one on
abbrev one_and : {X : Type 0} → (ℕ → List PoolEntry → Making (List X)) → List X → ℕ → Making (Option X) → Making (List X)
one_and next found line made = behind found (made >>= (λ one. counted line (length found) one.1 (next (count_with (length found) one.1) one.0)))

pub goes_on : {X : Type 0} (next : ℕ → List PoolEntry → Making (List X)) (all : Making (List X)) (found more : List X) (line : ℕ) (made : Making (Option X)) (pool : List PoolEntry) (one : Option X)
    → all ≡ one_and next found line made → made ≡ Ok (pool, one) → has_room (length found) one ≡ true → more ≡ found ++ cons_option one [] → all ≡ behind more (next (length more) pool)
goes_on next all found more line made pool one e is room put =
    e ∙ ap (one_and next found line) is
    ∙ ap (λ (t : Bool). behind found (if t then (next (count_with (length found) one) pool >>= (λ m. Ok (m.0, cons_option one m.1))) else Err line)) room
    ∙ put_made found one (next (count_with (length found) one) pool)
    ∙ ap (λ (n : ℕ). behind (found ++ cons_option one []) (next n pool)) (count_is_length found one)
    ∙ sym (ap (λ (l : List _). behind l (next (length l) pool)) put)

-- the line is wrong
pub fails : {X : Type 0} (next : ℕ → List PoolEntry → Making (List X)) (all : Making (List X)) (found : List X) (line : ℕ) (made : Making (Option X)) (n : ℕ)
    → all ≡ one_and next found line made → made ≡ Err n → all ≡ Err n
fails next all found line made n e is = e ∙ ap (one_and next found line) is

-- there is no room
pub is_full : {X : Type 0} (next : ℕ → List PoolEntry → Making (List X)) (all : Making (List X)) (found : List X) (line : ℕ) (made : Making (Option X)) (pool : List PoolEntry) (one : Option X) (n : ℕ)
    → all ≡ one_and next found line made → made ≡ Ok (pool, one) → has_room (length found) one ≡ false → n ≡ line → all ≡ Err n
is_full next all found line made pool one n e is full same =
    e ∙ ap (one_and next found line) is
    ∙ ap (λ (t : Bool). behind found (if t then (next (count_with (length found) one) pool >>= (λ m. Ok (m.0, cons_option one m.1))) else Err line)) full
    ∙ sym (ap (λ (k : ℕ). Err k) same)

-- ---- bytes

abbrev bytes_and : (List PoolEntry → Making (List ℕ)) → List ℕ → Making (List ℕ) → Making (List ℕ)
bytes_and next found made = behind found (made >>= (λ step. next step.0 >>= (λ more. Ok (more.0, step.1 ++ more.1))))

two : (found bytes : List ℕ) (more : Making (List ℕ)) → behind found (more >>= (λ m. Ok (m.0, bytes ++ m.1))) ≡ behind (found ++ bytes) more
two found bytes (Ok m) = ap (λ (l : List ℕ). Ok (m.0, l)) (sym (append_assoc found bytes m.1))
two found bytes (Err n) = refl

pub bytes_go_on : (next : List PoolEntry → Making (List ℕ)) (all : Making (List ℕ)) (found more bytes : List ℕ) (made : Making (List ℕ)) (pool : List PoolEntry)
    → all ≡ bytes_and next found made → made ≡ Ok (pool, bytes) → more ≡ found ++ bytes → all ≡ behind more (next pool)
bytes_go_on next all found more bytes made pool e is put =
    e ∙ ap (bytes_and next found) is ∙ two found bytes (next pool) ∙ sym (ap (λ (l : List ℕ). behind l (next pool)) put)

pub bytes_fail : (next : List PoolEntry → Making (List ℕ)) (all : Making (List ℕ)) (found : List ℕ) (made : Making (List ℕ)) (n : ℕ) → all ≡ bytes_and next found made → made ≡ Err n → all ≡ Err n
bytes_fail next all found made n e is = e ∙ ap (bytes_and next found) is

-- ---- indices

abbrev index_and : (List PoolEntry → Making (List ℕ)) → List ℕ → Making ℕ → Making (List ℕ)
index_and next found made = behind found (made >>= (λ one. next one.0 >>= (λ more. Ok (more.0, one.1 ∷ more.1))))

pub indices_go_on : (next : List PoolEntry → Making (List ℕ)) (all : Making (List ℕ)) (found more : List ℕ) (index : ℕ) (made : Making ℕ) (pool : List PoolEntry)
    → all ≡ index_and next found made → made ≡ Ok (pool, index) → more ≡ found ++ index ∷ [] → all ≡ behind more (next pool)
indices_go_on next all found more index made pool e is put =
    e ∙ ap (index_and next found) is ∙ two found (index ∷ []) (next pool) ∙ sym (ap (λ (l : List ℕ). behind l (next pool)) put)

pub indices_fail : (next : List PoolEntry → Making (List ℕ)) (all : Making (List ℕ)) (found : List ℕ) (made : Making ℕ) (n : ℕ) → all ≡ index_and next found made → made ≡ Err n → all ≡ Err n
indices_fail next all found made n e is = e ∙ ap (index_and next found) is
