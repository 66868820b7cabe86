-- Readers and the spellings that they read: what is read is the front of the bytes, and what was written is read again.
use Rattle.std.proofs.Common.{◌≡◌, ℕ, zero, suc, ◌+◌, ◌^◌, ◌<◌, ◌≤◌, Bool, true, false, ◌&&◌, cond, ltb, List, [], ◌∷◌, ◌++◌, length, get_or, take, drop, Result, Ok, Err, refl, sym, ap, subst, ◌∙◌, append_assoc, arith, inl, inr}
use Rattle.std.specs.Int.{Width, w16, w32, w64, byte_len, from_be_bytes, to_be_bytes}
use Rattle.std.proofs.lemmas.Bool.{cases_lt, ltb-false, ltb-true, le-ltb, lt-ltb, and_parts, and_from}
use Rattle.std.proofs.lemmas.List.{take_at, drop_at, take-append-drop, length-append, length-take, get_or-drop, get_or-take, get_or_past}
use Rattle.std.proofs.lemmas.Nat.{be_bytes_2, be_bytes_4, be_bytes_8, from_be_bytes-to_be_bytes_2, from_be_bytes-to_be_bytes_4, from_be_bytes-to_be_bytes_8}
use Rattle.class_format.specs.declared.fault.ClassFault.{ClassFault}
use Rattle.class_file.specs.Range.{are_bytes, is_u2, is_u4, is_u8}
use Rattle.class_format.specs.declared.scope.Scope.{Scope}
use Rattle.class_format.specs.Readers.{◌>>=◌, Reader, number, bytes_of, sized}

-- each is a byte
abbrev pub IsBytes : List ℕ → Type 0
IsBytes bytes = (i : ℕ) → get_or bytes i 0 < 256

pub IsBytes-drop : (n : ℕ) (bytes : List ℕ) → IsBytes bytes → IsBytes (drop n bytes)
IsBytes-drop n bytes h i = rw get_or-drop (h (n + i))

pub IsBytes-take : (n : ℕ) (bytes : List ℕ) → IsBytes bytes → IsBytes (take n bytes)
IsBytes-take n bytes h i =
    elim (cases_lt i n) [
      | inl lt ↦ rw (get_or-take n bytes i 0 lt) (h i)
      | inr le ↦ rw (get_or_past (take n bytes) i 0 (omega (arith, length-take n bytes))) (omega arith)
    ]

pub IsBytes-rest : (b : ℕ) (bytes : List ℕ) → IsBytes (b ∷ bytes) → IsBytes bytes
IsBytes-rest b bytes h i = h (suc i)

pub are_bytes_from : (bytes : List ℕ) → IsBytes bytes → are_bytes bytes ≡ true
are_bytes_from [] h = refl
are_bytes_from (b ∷ bytes) h = rw (lt-ltb b 256 (h 0)) (are_bytes_from bytes (IsBytes-rest b bytes h))

pub IsBytes_from : (bytes : List ℕ) → are_bytes bytes ≡ true → IsBytes bytes
IsBytes_from [] h i = omega arith
IsBytes_from (b ∷ bytes) h zero = ltb-true b 256 (and_parts (ltb b 256) (are_bytes bytes) h).0
IsBytes_from (b ∷ bytes) h (suc i) = IsBytes_from bytes (and_parts (ltb b 256) (are_bytes bytes) h).1 i

pub IsBytes-none : IsBytes []
IsBytes-none i = omega arith

-- the value of a step that did not fail
pub bind_ok : {A B : Type 0} (r : Result A ClassFault) (f : A → Result B ClassFault) (y : B) → (r >>= f) ≡ Ok y → (x : A) × (r ≡ Ok x) × (f x ≡ Ok y)
bind_ok (Ok x) f y e = (x, refl, e)
bind_ok (Err d) f y e = absurd cc

-- tests that did not fail
pub not_cut : {A : Type 0} (b : Bool) (fault : ClassFault) (r : Result A ClassFault) (y : A) → cond b (Err fault) r ≡ Ok y → (b ≡ false) × (r ≡ Ok y)
not_cut true fault r y e = absurd cc
not_cut false fault r y e = (refl, e)

pub passed : {A : Type 0} (b : Bool) (fault : ClassFault) (r : Result A ClassFault) (y : A) → cond b r (Err fault) ≡ Ok y → (b ≡ true) × (r ≡ Ok y)
passed true fault r y e = (refl, e)
passed false fault r y e = absurd cc

abbrev pub done : {A : Type 0} → A → Result A ClassFault
done x = Ok x

pub ok_is : {A : Type 0} (x y : A) → done x ≡ done y → x ≡ y
ok_is x y e = cc

-- what a reader took from the front
pub record Takes (bytes text rest : List ℕ) : Type 0 where
  pub parts : bytes ≡ text ++ rest
  pub rest_fits : IsBytes rest

pub Takes-then : (a x b y c : List ℕ) → Takes a x b → Takes b y c → Takes a (x ++ y) c
Takes-then a x b y c p q = record { parts = p.parts ∙ ap (λ (t : List ℕ). x ++ t) q.parts ∙ sym (append_assoc x y c); rest_fits = q.rest_fits }

-- what the reader reads in any scope are the values that fit, each by its spelling
pub record IsCodec {X : Type 0} (r : Reader X) (spell : X → List ℕ) (fits : X → Bool) : Type 0 where
  pub takes : (scope : Scope) (bytes : List ℕ) (x : X × List ℕ) → IsBytes bytes → r scope bytes ≡ Ok x → Takes bytes (spell x.0) x.1 × (fits x.0 ≡ true)
  pub again : (scope : Scope) (x : X) (rest : List ℕ) → fits x ≡ true → r scope (spell x ++ rest) ≡ Ok (x, rest)

-- ---- numbers

pub record IsWide (w : Width) (limit : ℕ) : Type 0 where
  pub len : (n : ℕ) → length (to_be_bytes w n) ≡ byte_len w
  pub back : (bytes : List ℕ) → length bytes ≡ byte_len w → IsBytes bytes → to_be_bytes w (from_be_bytes w bytes) ≡ bytes
  pub again : (n : ℕ) → n < limit → from_be_bytes w (to_be_bytes w n) ≡ n
  pub below : (bytes : List ℕ) → IsBytes bytes → from_be_bytes w bytes < limit

pub wide16 : IsWide w16 (2 ^ 16)
wide16 = record {
  len = λ n. refl;
  back = λ bytes len fits. be_bytes_2 bytes _ len fits refl;
  again = λ n lt. from_be_bytes-to_be_bytes_2 n lt;
  below = λ bytes fits. omega (arith, fits 0, fits 1);
}

pub wide32 : IsWide w32 (2 ^ 32)
wide32 = record {
  len = λ n. refl;
  back = λ bytes len fits. be_bytes_4 bytes _ len fits refl;
  again = λ n lt. from_be_bytes-to_be_bytes_4 n lt;
  below = λ bytes fits. omega (arith, fits 0, fits 1, fits 2, fits 3);
}

pub wide64 : IsWide w64 (2 ^ 64)
wide64 = record {
  len = λ n. refl;
  back = λ bytes len fits. be_bytes_8 bytes _ len fits refl;
  again = λ n lt. from_be_bytes-to_be_bytes_8 n lt;
  below = λ bytes fits. omega (arith, fits 0, fits 1, fits 2, fits 3, fits 4, fits 5, fits 6, fits 7);
}

abbrev pub is_below : ℕ → ℕ → Bool
is_below limit n = ltb n limit

number_takes : (w : Width) (limit : ℕ) → IsWide w limit → (scope : Scope) (bytes : List ℕ) (x : ℕ × List ℕ) → IsBytes bytes → number w scope bytes ≡ Ok x → Takes bytes (to_be_bytes w x.0) x.1 × (is_below limit x.0 ≡ true)
number_takes w limit wide scope bytes (n, rest) fits e =
    let g = not_cut (ltb (length bytes) (byte_len w)) scope.cut (Ok (from_be_bytes w (take (byte_len w) bytes), drop (byte_len w) bytes)) (n, rest) e in
    let is = ok_is (from_be_bytes w (take (byte_len w) bytes), drop (byte_len w) bytes) (n, rest) g.1 in
    let long : byte_len w ≤ length bytes = ltb-false _ _ g.0 in
    let n-is : from_be_bytes w (take (byte_len w) bytes) ≡ n = ap (λ (p : ℕ × List ℕ). p.0) is in
    let rest-is : drop (byte_len w) bytes ≡ rest = ap (λ (p : ℕ × List ℕ). p.1) is in
    let front : to_be_bytes w n ≡ take (byte_len w) bytes = rw (← n-is) (wide.back (take (byte_len w) bytes) (omega (arith, length-take (byte_len w) bytes)) (IsBytes-take (byte_len w) bytes fits)) in
    (record { parts = rw (front, ← rest-is) (sym (take-append-drop (byte_len w) bytes)); rest_fits = rw (← rest-is) (IsBytes-drop (byte_len w) bytes fits) }, lt-ltb n limit (rw (← n-is) (wide.below (take (byte_len w) bytes) (IsBytes-take (byte_len w) bytes fits))))

number_again : (w : Width) (limit : ℕ) → IsWide w limit → (scope : Scope) (n : ℕ) (rest : List ℕ) → is_below limit n ≡ true → number w scope (to_be_bytes w n ++ rest) ≡ Ok (n, rest)
number_again w limit wide scope n rest lt =
    let len = wide.len n in
    let long : ltb (length (to_be_bytes w n ++ rest)) (byte_len w) ≡ false = le-ltb _ _ (omega (arith, length-append (to_be_bytes w n) rest)) in
    rw (long, take_at (to_be_bytes w n) rest (byte_len w) len, drop_at (to_be_bytes w n) rest (byte_len w) len, wide.again n (ltb-true n limit lt)) refl

number_codec : (w : Width) (limit : ℕ) → IsWide w limit → IsCodec (number w) (to_be_bytes w) (is_below limit)
number_codec w limit wide = record { takes = number_takes w limit wide; again = number_again w limit wide }

pub u2_codec : IsCodec (number w16) (to_be_bytes w16) is_u2
u2_codec = number_codec w16 (2 ^ 16) wide16

pub u4_codec : IsCodec (number w32) (to_be_bytes w32) is_u4
u4_codec = number_codec w32 (2 ^ 32) wide32

pub u8_codec : IsCodec (number w64) (to_be_bytes w64) is_u8
u8_codec = number_codec w64 (2 ^ 64) wide64

-- ---- bytes whose number is known

pub bytes_take : (n : ℕ) (scope : Scope) (bytes : List ℕ) (x : List ℕ × List ℕ) → IsBytes bytes → bytes_of n scope bytes ≡ Ok x → Takes bytes x.0 x.1 × ((length x.0 ≡ n) × (are_bytes x.0 ≡ true))
bytes_take n scope bytes x fits e =
    let g = not_cut (ltb (length bytes) n) scope.cut (Ok (take n bytes, drop n bytes)) x e in
    let long : n ≤ length bytes = ltb-false _ _ g.0 in
    let len : length (take n bytes) ≡ n = omega (arith, length-take n bytes) in
    subst (λ (p : List ℕ × List ℕ). Takes bytes p.0 p.1 × ((length p.0 ≡ n) × (are_bytes p.0 ≡ true))) (ok_is (take n bytes, drop n bytes) x g.1)
    (record { parts = sym (take-append-drop n bytes); rest_fits = IsBytes-drop n bytes fits }, (len, are_bytes_from (take n bytes) (IsBytes-take n bytes fits)))

pub bytes_again : (scope : Scope) (text rest : List ℕ) → bytes_of (length text) scope (text ++ rest) ≡ Ok (text, rest)
bytes_again scope text rest =
    let long : ltb (length (text ++ rest)) (length text) ≡ false = le-ltb _ _ (omega (arith, length-append text rest)) in
    rw (long, take_at text rest (length text) refl, drop_at text rest (length text) refl) refl

-- ---- bytes behind their number

abbrev pub sized_spelling : Width → List ℕ → List ℕ
sized_spelling w text = to_be_bytes w (length text) ++ text

abbrev sized_fits : ℕ → List ℕ → Bool
sized_fits limit text = is_below limit (length text) && are_bytes text

sized_takes : (w : Width) (limit : ℕ) → IsWide w limit → (scope : Scope) (bytes : List ℕ) (x : List ℕ × List ℕ) → IsBytes bytes → sized w scope bytes ≡ Ok x → Takes bytes (sized_spelling w x.0) x.1 × (sized_fits limit x.0 ≡ true)
sized_takes w limit wide scope bytes x fits e =
    let a = bind_ok (number w scope bytes) (λ n. bytes_of n.0 scope n.1) x e in
    let t = number_takes w limit wide scope bytes a.0 fits a.1 in
    let u = bytes_take a.0.0 scope a.0.1 x t.0.rest_fits a.2 in
    let whole = Takes-then bytes (to_be_bytes w a.0.0) a.0.1 x.0 x.1 t.0 u.0 in
    (subst (λ (k : ℕ). Takes bytes (to_be_bytes w k ++ x.0) x.1) (sym u.1.0) whole, and_from _ _ (subst (λ (k : ℕ). is_below limit k ≡ true) (sym u.1.0) t.1) u.1.1)

sized_again : (w : Width) (limit : ℕ) → IsWide w limit → (scope : Scope) (text rest : List ℕ) → is_below limit (length text) ≡ true → sized w scope (sized_spelling w text ++ rest) ≡ Ok (text, rest)
sized_again w limit wide scope text rest fits =
    ap (sized w scope) (append_assoc (to_be_bytes w (length text)) text rest)
    ∙ rw (number_again w limit wide scope (length text) (text ++ rest) fits) (bytes_again scope text rest)

sized_codec : (w : Width) (limit : ℕ) → IsWide w limit → IsCodec (sized w) (sized_spelling w) (sized_fits limit)
sized_codec w limit wide = record { takes = sized_takes w limit wide; again = λ scope text rest fits. sized_again w limit wide scope text rest (and_parts (is_below limit (length text)) (are_bytes text) fits).0 }

pub text_codec : IsCodec (sized w16) (sized_spelling w16) (λ text. is_u2 (length text) && are_bytes text)
text_codec = sized_codec w16 (2 ^ 16) wide16

pub bytes_codec : IsCodec (sized w32) (sized_spelling w32) (λ text. is_u4 (length text) && are_bytes text)
bytes_codec = sized_codec w32 (2 ^ 32) wide32

pub bytes_back : (scope : Scope) (text rest : List ℕ) → is_u4 (length text) ≡ true → sized w32 scope (sized_spelling w32 text ++ rest) ≡ Ok (text, rest)
bytes_back = sized_again w32 (2 ^ 32) wide32
