-- Reading items one after the other, as a loop does.
use Rattle.std.proofs.Common.{◌≡◌, ℕ, suc, ◌-◌, ◌+◌, ◌≤◌, ◌<◌, List, [], ◌∷◌, ◌++◌, Result, Ok, Err, refl, sym, ap, ◌∙◌, append_assoc, arith}
use Rattle.std.proofs.lemmas.List.{append-nil}
use Rattle.class_format.specs.declared.fault.ClassFault.{ClassFault}
use Rattle.class_format.specs.declared.scope.Scope.{Scope}
use Rattle.class_format.specs.Gives.{Fails}
use Rattle.std.specs.Int.{w16}
use Rattle.class_format.specs.Readers.{◌>>=◌, Reader, number, times, listed, in_turn}

-- what was read before, and what is still read
abbrev pub with_front : {X : Type 0} → List X → Result (List X × List ℕ) ClassFault → Result (List X × List ℕ) ClassFault
with_front front read = read >>= λ x. Ok (front ++ x.0, x.1)

regroup : {X : Type 0} (front : List X) (x : X) (read : Result (List X × List ℕ) ClassFault) → with_front front (read >>= λ others. Ok (x ∷ others.0, others.1)) ≡ with_front (front ++ x ∷ []) read
regroup front x (Ok others) = ap (λ xs. Ok (xs, others.1)) (simp append_assoc)
regroup front x (Err f) = refl

all_front : {X : Type 0} (read : Result (List X × List ℕ) ClassFault) → with_front [] read ≡ read
all_front (Ok others) = refl
all_front (Err f) = refl

-- ---- items that depend on those before

-- so many items are left, and with those before they are all that is read
pub record IsLeft {S X : Type 0} (r : S → Reader X) (after : S → X → S) (known : S) (n : ℕ) (front : List X) (scope : Scope) (bytes : List ℕ) (total : Result (List X × List ℕ) ClassFault) : Type 0 where
  pub so_far : with_front front (in_turn r after known n scope bytes) ≡ total

pub turns_begin : {S X : Type 0} (r : S → Reader X) (after : S → X → S) (known : S) (n : ℕ) (scope : Scope) (bytes : List ℕ) → IsLeft r after known n [] scope bytes (in_turn r after known n scope bytes)
turns_begin r after known n scope bytes = record { so_far = all_front (in_turn r after known n scope bytes) }

pub turns_go_on : {S X : Type 0} {r : S → Reader X} {after : S → X → S} {known : S} {front : List X} {count i : ℕ} {scope : Scope} {bytes : List ℕ} {total : Result (List X × List ℕ) ClassFault} (x : X) (rest : List ℕ)
    → IsLeft r after known (count - i) front scope bytes total → i < count → r known scope bytes ≡ Ok (x, rest)
    → IsLeft r after (after known x) (count - (i + 1)) (front ++ x ∷ []) scope rest total
unfolding in_turn
turns_go_on {r = r} {after = after} {known = known} {front = front} {count = count} {i = i} {scope = scope} {bytes = bytes} x rest left lt h =
    let k : count - i ≡ suc (count - (i + 1)) = omega arith in
    let one : with_front front (in_turn r after known (count - i) scope bytes) ≡ with_front (front ++ x ∷ []) (in_turn r after (after known x) (count - (i + 1)) scope rest) =
    rw (k, h) (regroup front x (in_turn r after (after known x) (count - (i + 1)) scope rest)) in
    record { so_far = sym one ∙ left.so_far }

pub turns_end : {S X : Type 0} {r : S → Reader X} {after : S → X → S} {known : S} {front : List X} {count i : ℕ} {scope : Scope} {bytes : List ℕ} {total : Result (List X × List ℕ) ClassFault} (e : ClassFault)
    → IsLeft r after known (count - i) front scope bytes total → i < count → Fails e (r known scope bytes) → Fails e total
unfolding in_turn
turns_end {r = r} {after = after} {known = known} {front = front} {count = count} {i = i} {scope = scope} {bytes = bytes} e left lt h real =
    let k : count - i ≡ suc (count - (i + 1)) = omega arith in
    let f : r known scope bytes ≡ Err e = h real in
    let one : with_front front (in_turn r after known (count - i) scope bytes) ≡ Err e = rw (k, f) refl in
    sym left.so_far ∙ one

pub turns_done : {S X : Type 0} {r : S → Reader X} {after : S → X → S} {known : S} {front : List X} {count i : ℕ} {scope : Scope} {bytes : List ℕ} {total : Result (List X × List ℕ) ClassFault}
    → IsLeft r after known (count - i) front scope bytes total → count ≤ i → total ≡ Ok (front, bytes)
unfolding in_turn
turns_done {r = r} {after = after} {known = known} {front = front} {count = count} {i = i} {scope = scope} {bytes = bytes} left le =
    let k : count - i ≡ 0 = omega arith in
    let one : with_front front (in_turn r after known (count - i) scope bytes) ≡ Ok (front, bytes) = rw k (ap (λ xs. Ok (xs, bytes)) (append-nil front)) in
    sym left.so_far ∙ one

-- ---- items that do not

pub record AreLeft {X : Type 0} (r : Reader X) (n : ℕ) (front : List X) (scope : Scope) (bytes : List ℕ) (total : Result (List X × List ℕ) ClassFault) : Type 0 where
  pub so_far : with_front front (times r n scope bytes) ≡ total

pub begin : {X : Type 0} (r : Reader X) (n : ℕ) (scope : Scope) (bytes : List ℕ) → AreLeft r n [] scope bytes (times r n scope bytes)
begin r n scope bytes = record { so_far = all_front (times r n scope bytes) }

pub go_on : {X : Type 0} {r : Reader X} {front : List X} {count i : ℕ} {scope : Scope} {bytes : List ℕ} {total : Result (List X × List ℕ) ClassFault} (x : X) (rest : List ℕ)
    → AreLeft r (count - i) front scope bytes total → i < count → r scope bytes ≡ Ok (x, rest)
    → AreLeft r (count - (i + 1)) (front ++ x ∷ []) scope rest total
unfolding times
go_on {r = r} {front = front} {count = count} {i = i} {scope = scope} {bytes = bytes} x rest left lt h =
    let k : count - i ≡ suc (count - (i + 1)) = omega arith in
    let one : with_front front (times r (count - i) scope bytes) ≡ with_front (front ++ x ∷ []) (times r (count - (i + 1)) scope rest) =
    rw (k, h) (regroup front x (times r (count - (i + 1)) scope rest)) in
    record { so_far = sym one ∙ left.so_far }

pub end : {X : Type 0} {r : Reader X} {front : List X} {count i : ℕ} {scope : Scope} {bytes : List ℕ} {total : Result (List X × List ℕ) ClassFault} (e : ClassFault)
    → AreLeft r (count - i) front scope bytes total → i < count → Fails e (r scope bytes) → Fails e total
unfolding times
end {r = r} {front = front} {count = count} {i = i} {scope = scope} {bytes = bytes} e left lt h real =
    let k : count - i ≡ suc (count - (i + 1)) = omega arith in
    let f : r scope bytes ≡ Err e = h real in
    let one : with_front front (times r (count - i) scope bytes) ≡ Err e = rw (k, f) refl in
    sym left.so_far ∙ one

pub done : {X : Type 0} {r : Reader X} {front : List X} {count i : ℕ} {scope : Scope} {bytes : List ℕ} {total : Result (List X × List ℕ) ClassFault}
    → AreLeft r (count - i) front scope bytes total → count ≤ i → total ≡ Ok (front, bytes)
unfolding times
done {r = r} {front = front} {count = count} {i = i} {scope = scope} {bytes = bytes} left le =
    let k : count - i ≡ 0 = omega arith in
    let one : with_front front (times r (count - i) scope bytes) ≡ Ok (front, bytes) = rw k (ap (λ xs. Ok (xs, bytes)) (append-nil front)) in
    sym left.so_far ∙ one

-- the items of a list behind their count
pub list_begins : {X : Type 0} (r : Reader X) {count : ℕ} {scope : Scope} (bytes : List ℕ) {rest : List ℕ} → number w16 scope bytes ≡ Ok (count, rest) → AreLeft r (count - 0) [] scope rest (listed r scope bytes)
list_begins r {count = count} {scope = scope} bytes {rest = rest} h =
    let k : count - 0 ≡ count = omega arith in
    let one : listed r scope bytes ≡ times r count scope rest = rw h refl in
    record { so_far = rw (k, one) (all_front (times r count scope rest)) }

-- the items of a list behind their count, each of which depends on those before
pub turn_list_begins : {S X : Type 0} (r : S → Reader X) (after : S → X → S) (known : S) {count : ℕ} {scope : Scope} (bytes : List ℕ) {rest : List ℕ} → number w16 scope bytes ≡ Ok (count, rest)
    → IsLeft r after known (count - 0) [] scope rest (number w16 scope bytes >>= λ n. in_turn r after known n.0 scope n.1)
turn_list_begins r after known {count = count} {scope = scope} bytes {rest = rest} h =
    let k : count - 0 ≡ count = omega arith in
    rw (k, h) (turns_begin r after known count scope rest)
