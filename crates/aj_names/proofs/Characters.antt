-- A scan of a name follows its characters.
use Rattle.std.proofs.Common.{◌≡◌, ◌≢◌, ℕ, ◌+◌, ◌-◌, ◌*◌, ◌/◌, ◌%◌, ◌<◌, ◌≤◌, ◌⊎◌, List, [], ◌∷◌, ◌++◌, Bool, true, false, cond, ltb, leb, eqb, ◌&&◌, ◌||◌, Option, Some, None, refl, sym, ap, subst, ◌∙◌, append_assoc, arith, inl, inr}
use Rattle.std.proofs.lemmas.Bool.{lt-ltb, le-ltb, le-leb, ltb-true, ltb-false, leb-true, eqb-true, eqb-false, ne_eqb, and_parts, or_parts, cases_lt, cond-false}
use Rattle.std.proofs.lemmas.List.{append-nil}
use Rattle.std.specs.List.{AllByRecursion, flat_map, join_with_byte}
use Rattle.aj_names.specs.declared.names.NameKind.{NameKind}
use Rattle.aj_names.specs.declared.names.NameKind.TheVariants.{Member, Class}
use Rattle.aj_names.specs.declared.names.NameState.{NameState}
use Rattle.aj_names.specs.declared.names.NameState.TheVariants.{Start, Inside, Last, BehindE0, Middle, BehindED, HighLast, LowLead, LowMiddle}
use Rattle.aj_names.specs.ModifiedUtf8.{unit_spelling}
use Rattle.aj_names.specs.Names.{character_spelling, IsCharacter, IsNameCharacter, IsMemberName, IsClassName}
use Rattle.aj_names.specs.Reading.{within, lead, has_parts, name_after, may_end, ends_name}
use Rattle.aj_names.proofs.Units.{one_byte, two_bytes, three_bytes}

pub chosen : {A : Type 0} (b : Bool) (x y z : A) → cond b x y ≡ z → ((b ≡ true) × (x ≡ z)) ⊎ ((b ≡ false) × (y ≡ z))
chosen true x y z e = inl (refl, e)
chosen false x y z e = inr (refl, e)

-- ---- single bytes

within_yes : (low high b : ℕ) (s : NameState) → low ≤ b → b ≤ high → within low high b s ≡ Some s
within_yes low high b s l h = rw (le-leb low b l, le-leb b high h) refl

pub record IsWithin (low high b : ℕ) (s t : NameState) : Type 0 where
  pub low_is : low ≤ b
  pub high_is : b ≤ high
  pub same : s ≡ t

within_is : (low high b : ℕ) (s t : NameState) → within low high b s ≡ Some t → IsWithin low high b s t
within_is low high b s t e =
    elim (chosen (leb low b && leb b high) (Some s) None (Some t) e) [
      | inl (both, same) ↦ let p = and_parts (leb low b) (leb b high) both in record { low_is = leb-true low b p.0; high_is = leb-true b high p.1; same = cc }
      | inr (off, same) ↦ absurd cc
    ]

pub data Lead (b : ℕ) (t : NameState) : Type 0 where
  lead_one : 0 < b → b < 128 → b ≢ 46 → b ≢ 47 → b ≢ 59 → b ≢ 91 → Inside ≡ t → Lead b t
  lead_two : 194 ≤ b → b ≤ 223 → Last ≡ t → Lead b t
  lead_e0 : b ≡ 224 → BehindE0 ≡ t → Lead b t
  lead_ed : b ≡ 237 → BehindED ≡ t → Lead b t
  lead_three : 225 ≤ b → b ≤ 239 → b ≢ 237 → Middle ≡ t → Lead b t

some_is : (s t : NameState) → Some s ≡ Some t → s ≡ t
some_is s t e = cc

lead_is : (b : ℕ) (t : NameState) → lead b ≡ Some t → Lead b t
lead_is b t e =
    elim (chosen (eqb b 0 || eqb b 46 || eqb b 47 || eqb b 59 || eqb b 91) None _ (Some t) e) [
      | inl (on, same) ↦ absurd cc
      | inr (off, e1) ↦
          let p = or_parts (eqb b 0 || eqb b 46 || eqb b 47 || eqb b 59) (eqb b 91) off in
          let q = or_parts (eqb b 0 || eqb b 46 || eqb b 47) (eqb b 59) p.0 in
          let r = or_parts (eqb b 0 || eqb b 46) (eqb b 47) q.0 in
          let s = or_parts (eqb b 0) (eqb b 46) r.0 in
          let n0 : b ≢ 0 = eqb-false b 0 s.0 in
          elim (chosen (ltb b 0x80) (Some Inside) _ (Some t) e1) [
            | inl (on, same) ↦ lead_one (omega arith) (ltb-true b 0x80 on) (eqb-false b 46 s.1) (eqb-false b 47 r.1) (eqb-false b 59 q.1) (eqb-false b 91 p.1) (some_is Inside t same)
            | inr (off1, e2) ↦ elim (chosen (ltb b 0xC2) None _ (Some t) e2) [
              | inl (on, same) ↦ absurd cc
              | inr (off2, e3) ↦ elim (chosen (ltb b 0xE0) (Some Last) _ (Some t) e3) [
                | inl (on, same) ↦ lead_two (ltb-false b 0xC2 off2) (let h = ltb-true b 0xE0 on in omega arith) (some_is Last t same)
                | inr (off3, e4) ↦ elim (chosen (eqb b 0xE0) (Some BehindE0) _ (Some t) e4) [
                  | inl (on, same) ↦ lead_e0 (eqb-true b 0xE0 on) (some_is BehindE0 t same)
                  | inr (off4, e5) ↦ elim (chosen (eqb b 0xED) (Some BehindED) _ (Some t) e5) [
                    | inl (on, same) ↦ lead_ed (eqb-true b 0xED on) (some_is BehindED t same)
                    | inr (off5, e6) ↦ elim (chosen (ltb b 0xF0) (Some Middle) None (Some t) e6) [
                      | inl (on, same) ↦
                          let h3 = ltb-false b 0xE0 off3 in
                          let h4 : b ≢ 224 = eqb-false b 0xE0 off4 in
                          let h6 = ltb-true b 0xF0 on in
                          lead_three (omega arith) (omega arith) (eqb-false b 0xED off5) (some_is Middle t same)
                      | inr (off6, same) ↦ absurd cc
                    ]
                  ]
                ]
              ]
            ]
          ]
    ]

special_no : (b : ℕ) → b ≢ 0 → b ≢ 46 → b ≢ 47 → b ≢ 59 → b ≢ 91 → (eqb b 0 || eqb b 46 || eqb b 47 || eqb b 59 || eqb b 91) ≡ false
special_no b n0 n46 n47 n59 n91 = rw (ne_eqb b 0 n0, ne_eqb b 46 n46, ne_eqb b 47 n47, ne_eqb b 59 n59, ne_eqb b 91 n91) refl

leads_one : (b : ℕ) → b < 128 → b ≢ 0 → b ≢ 46 → b ≢ 47 → b ≢ 59 → b ≢ 91 → lead b ≡ Some Inside
leads_one b high n0 n46 n47 n59 n91 = rw (special_no b n0 n46 n47 n59 n91, lt-ltb b 0x80 high) refl

leads_two : (b : ℕ) → 194 ≤ b → b ≤ 223 → lead b ≡ Some Last
leads_two b low high =
    let special : (eqb b 0 || eqb b 46 || eqb b 47 || eqb b 59 || eqb b 91) ≡ false = special_no b (λ h. omega arith) (λ h. omega arith) (λ h. omega arith) (λ h. omega arith) (λ h. omega arith) in
    rw (special, le-ltb b 0x80 (omega arith), le-ltb b 0xC2 low, lt-ltb b 0xE0 (omega arith)) refl

leads_three : (b : ℕ) → 225 ≤ b → b ≤ 239 → b ≢ 237 → lead b ≡ Some Middle
leads_three b low high ne =
    let special : (eqb b 0 || eqb b 46 || eqb b 47 || eqb b 59 || eqb b 91) ≡ false = special_no b (λ h. omega arith) (λ h. omega arith) (λ h. omega arith) (λ h. omega arith) (λ h. omega arith) in
    rw (special, le-ltb b 0x80 (omega arith), le-ltb b 0xC2 (omega arith), le-ltb b 0xE0 (omega arith), ne_eqb b 0xE0 (λ h. omega arith), ne_eqb b 0xED ne, lt-ltb b 0xF0 (omega arith)) refl

-- ---- characters of one, two, three and six bytes

one_character : (b : ℕ) → 0 < b → b < 128 → character_spelling b ≡ b ∷ []
one_character b low high = rw (lt-ltb b 0x10000 (omega arith)) (ap (λ (x : List ℕ). x ++ []) (one_byte b low high))

two_character : (c : ℕ) → 128 ≤ c → c < 2048 → character_spelling c ≡ (192 + c / 64) ∷ (128 + c % 64) ∷ []
two_character c low high = rw (lt-ltb c 0x10000 (omega arith)) (ap (λ (x : List ℕ). x ++ []) (two_bytes c (inr low) high))

three_character : (c : ℕ) → 2048 ≤ c → c < 65536 → character_spelling c ≡ (224 + c / 4096) ∷ (128 + c / 64 % 64) ∷ (128 + c % 64) ∷ []
three_character c low high = rw (lt-ltb c 0x10000 high) (ap (λ (x : List ℕ). x ++ []) (three_bytes c low))

-- the six bytes of a character by its offset from 10000
abbrev six_bytes : ℕ → List ℕ
six_bytes v = 237 ∷ (160 + v / 65536) ∷ (128 + v / 1024 % 64) ∷ 237 ∷ (176 + v / 64 % 16) ∷ (128 + v % 64) ∷ []

six_character : (v : ℕ) → v < 1048576 → character_spelling (65536 + v) ≡ six_bytes v
six_character v high =
    let off : (65536 + v) - 65536 ≡ v = omega arith in
    let a : unit_spelling (55296 + v / 1024) ≡ 237 ∷ (160 + v / 65536) ∷ (128 + v / 1024 % 64) ∷ [] =
    three_bytes (55296 + v / 1024) (omega arith) ∙ same 224 (omega arith) (omega arith) (omega arith) in
    let b : unit_spelling (56320 + v % 1024) ≡ 237 ∷ (176 + v / 64 % 16) ∷ (128 + v % 64) ∷ [] =
    three_bytes (56320 + v % 1024) (omega arith) ∙ same 224 (omega arith) (omega arith) (omega arith) in
    rw (le-ltb (65536 + v) 0x10000 (omega arith), off, a, b) refl
  where
    same : {x y z x' y' z' : ℕ} (dummy : ℕ) → x ≡ x' → y ≡ y' → z ≡ z' → x ∷ y ∷ z ∷ [] ≡ x' ∷ y' ∷ z' ∷ []
    same dummy p q r = cc

-- ---- from the bytes to the characters

-- what may stand behind a character of a name: more characters, then more parts
abbrev pub parts_behind : List (List ℕ) → List ℕ
parts_behind [] = []
parts_behind (p ∷ ps) = 47 ∷ join_with_byte 47 (p ∷ ps)

pub record Tail (kind : NameKind) (bytes : List ℕ) : Type 0 where
  pub characters : List ℕ
  pub allowed : AllByRecursion IsNameCharacter characters
  pub parts : List (List ℕ)
  pub names : AllByRecursion IsMemberName parts
  pub may : (parts ≡ []) ⊎ (has_parts kind ≡ true)
  pub spelled : bytes ≡ flat_map character_spelling characters ++ parts_behind parts

pub record Name (kind : NameKind) (bytes : List ℕ) : Type 0 where
  pub first : ℕ
  pub allowed : IsNameCharacter first
  pub after : List ℕ
  pub split : bytes ≡ character_spelling first ++ after
  pub tail : Tail kind after

tail_end : (kind : NameKind) → Tail kind []
tail_end kind = record { characters = []; allowed = tt; parts = []; names = tt; may = inl refl; spelled = refl }

tail_character : (kind : NameKind) (bytes : List ℕ) → Name kind bytes → Tail kind bytes
tail_character kind bytes n =
    let t = n.tail in
    record {
      characters = n.first ∷ t.characters;
      allowed = (n.allowed, t.allowed);
      parts = t.parts;
      names = t.names;
      may = t.may;
      spelled = n.split ∙ ap (λ (x : List ℕ). character_spelling n.first ++ x) t.spelled ∙ sym (append_assoc (character_spelling n.first) (flat_map character_spelling t.characters) (parts_behind t.parts));
    }

joined_part : (p : List ℕ) (ps : List (List ℕ)) → join_with_byte 47 (p ∷ ps) ≡ p ++ parts_behind ps
joined_part p [] = sym (append-nil p)
joined_part p (q ∷ ps) = refl

first_part : (kind : NameKind) (bytes : List ℕ) (n : Name kind bytes) → IsMemberName (character_spelling n.first ++ flat_map character_spelling n.tail.characters)
first_part kind bytes n = record { characters = n.first ∷ n.tail.characters; not_empty = λ h. cc; allowed = (n.allowed, n.tail.allowed); spelled = refl }

name_joined : (kind : NameKind) (bytes : List ℕ) (n : Name kind bytes) → bytes ≡ join_with_byte 47 ((character_spelling n.first ++ flat_map character_spelling n.tail.characters) ∷ n.tail.parts)
name_joined kind bytes n =
    let p = character_spelling n.first ++ flat_map character_spelling n.tail.characters in
    n.split ∙ ap (λ (x : List ℕ). character_spelling n.first ++ x) n.tail.spelled ∙ sym (append_assoc (character_spelling n.first) (flat_map character_spelling n.tail.characters) (parts_behind n.tail.parts)) ∙ sym (joined_part p n.tail.parts)

tail_part : (kind : NameKind) (bytes : List ℕ) → has_parts kind ≡ true → Name kind bytes → Tail kind (47 ∷ bytes)
tail_part kind bytes may n = record {
  characters = [];
  allowed = tt;
  parts = (character_spelling n.first ++ flat_map character_spelling n.tail.characters) ∷ n.tail.parts;
  names = (first_part kind bytes n, n.tail.names);
  may = inr may;
  spelled = ap (λ (x : List ℕ). 47 ∷ x) (name_joined kind bytes n);
}

-- a byte of a range, and what stands behind it
pub record Next (low high : ℕ) (P : List ℕ → Type 0) (bytes : List ℕ) : Type 0 where
  pub byte : ℕ
  pub after : List ℕ
  pub split : bytes ≡ byte ∷ after
  pub low_is : low ≤ byte
  pub high_is : byte ≤ high
  pub holds : P after

-- the bytes that lead from a state to the end of a name
abbrev Goes : NameKind → NameState → List ℕ → Type 0
Goes kind Start = Name kind
Goes kind Inside = Tail kind
Goes kind Last = Next 128 191 (Tail kind)
Goes kind BehindE0 = Next 160 191 (Next 128 191 (Tail kind))
Goes kind Middle = Next 128 191 (Next 128 191 (Tail kind))
Goes kind BehindED = λ bytes. Next 128 159 (Next 128 191 (Tail kind)) bytes ⊎ Next 160 175 (Next 128 191 (Next 237 237 (Next 176 191 (Next 128 191 (Tail kind))))) bytes
Goes kind HighLast = Next 128 191 (Next 237 237 (Next 176 191 (Next 128 191 (Tail kind))))
Goes kind LowLead = Next 237 237 (Next 176 191 (Next 128 191 (Tail kind)))
Goes kind LowMiddle = Next 176 191 (Next 128 191 (Tail kind))

next_of : (kind : NameKind) (low high b : ℕ) (s t : NameState) (bytes : List ℕ) → within low high b s ≡ Some t → Goes kind t bytes → Next low high (Goes kind s) (b ∷ bytes)
next_of kind low high b s t bytes e goes =
    let w = within_is low high b s t e in
    record { byte = b; after = bytes; split = refl; low_is = w.low_is; high_is = w.high_is; holds = subst (λ (x : NameState). Goes kind x bytes) (sym w.same) goes }

name_one : (kind : NameKind) (b : ℕ) (bytes : List ℕ) → 0 < b → b < 128 → b ≢ 46 → b ≢ 47 → b ≢ 59 → b ≢ 91 → Tail kind bytes → Name kind (b ∷ bytes)
name_one kind b bytes low high n46 n47 n59 n91 t = record {
  first = b;
  allowed = record { character = inl (omega arith); not_zero = λ h. omega arith; not_dot = n46; not_slash = n47; not_semicolon = n59; not_bracket = n91 };
  after = bytes;
  split = sym (ap (λ (x : List ℕ). x ++ bytes) (one_character b low high));
  tail = t;
}

name_two : (kind : NameKind) (a b : ℕ) (bytes : List ℕ) → 194 ≤ a → a ≤ 223 → 128 ≤ b → b ≤ 191 → Tail kind bytes → Name kind (a ∷ b ∷ bytes)
name_two kind a b bytes la ha lb hb t =
    let c : ℕ = (a - 192) * 64 + (b - 128) in
    let low : 128 ≤ c = omega arith in
    let high : c < 2048 = omega arith in
    let e1 : 192 + c / 64 ≡ a = omega arith in
    let e2 : 128 + c % 64 ≡ b = omega arith in
    record {
      first = c;
      allowed = record { character = inl (omega arith); not_zero = λ h. omega arith; not_dot = λ h. omega arith; not_slash = λ h. omega arith; not_semicolon = λ h. omega arith; not_bracket = λ h. omega arith };
      after = bytes;
      split = sym (ap (λ (x : List ℕ). x ++ bytes) (two_character c low high) ∙ ap (λ (x : ℕ). x ∷ (128 + c % 64) ∷ bytes) e1 ∙ ap (λ (x : ℕ). a ∷ x ∷ bytes) e2);
      tail = t;
    }

name_three : (kind : NameKind) (a b d : ℕ) (bytes : List ℕ) → 224 ≤ a → a ≤ 239 → 128 ≤ b → b ≤ 191 → 128 ≤ d → d ≤ 191 → 2048 ≤ (a - 224) * 4096 + (b - 128) * 64 + (d - 128) → IsCharacter ((a - 224) * 4096 + (b - 128) * 64 + (d - 128)) → Tail kind bytes → Name kind (a ∷ b ∷ d ∷ bytes)
name_three kind a b d bytes la ha lb hb ld hd low is t =
    let c : ℕ = (a - 224) * 4096 + (b - 128) * 64 + (d - 128) in
    let high : c < 65536 = omega arith in
    let e1 : 224 + c / 4096 ≡ a = omega arith in
    let e2 : 128 + c / 64 % 64 ≡ b = omega arith in
    let e3 : 128 + c % 64 ≡ d = omega arith in
    record {
      first = c;
      allowed = record { character = is; not_zero = λ h. omega arith; not_dot = λ h. omega arith; not_slash = λ h. omega arith; not_semicolon = λ h. omega arith; not_bracket = λ h. omega arith };
      after = bytes;
      split = sym (ap (λ (x : List ℕ). x ++ bytes) (three_character c low high) ∙ ap (λ (x : ℕ). x ∷ (128 + c / 64 % 64) ∷ (128 + c % 64) ∷ bytes) e1 ∙ ap (λ (x : ℕ). a ∷ x ∷ (128 + c % 64) ∷ bytes) e2 ∙ ap (λ (x : ℕ). a ∷ b ∷ x ∷ bytes) e3);
      tail = t;
    }

name_six : (kind : NameKind) (b d f g : ℕ) (bytes : List ℕ) → 160 ≤ b → b ≤ 175 → 128 ≤ d → d ≤ 191 → 176 ≤ f → f ≤ 191 → 128 ≤ g → g ≤ 191 → Tail kind bytes → Name kind (237 ∷ b ∷ d ∷ 237 ∷ f ∷ g ∷ bytes)
name_six kind b d f g bytes lb hb ld hd lf hf lg hg t =
    let v : ℕ = (b - 160) * 65536 + (d - 128) * 1024 + (f - 176) * 64 + (g - 128) in
    let high : v < 1048576 = omega arith in
    let e1 : 160 + v / 65536 ≡ b = omega arith in
    let e2 : 128 + v / 1024 % 64 ≡ d = omega arith in
    let e3 : 176 + v / 64 % 16 ≡ f = omega arith in
    let e4 : 128 + v % 64 ≡ g = omega arith in
    record {
      first = 65536 + v;
      allowed = record { character = inr (omega arith, omega arith); not_zero = λ h. omega arith; not_dot = λ h. omega arith; not_slash = λ h. omega arith; not_semicolon = λ h. omega arith; not_bracket = λ h. omega arith };
      after = bytes;
      split = sym (ap (λ (x : List ℕ). x ++ bytes) (six_character v high) ∙ all_four e1 e2 e3 e4);
      tail = t;
    }
  where
    all_four : {x y z w x' y' z' w' : ℕ} → x ≡ x' → y ≡ y' → z ≡ z' → w ≡ w' → 237 ∷ x ∷ y ∷ 237 ∷ z ∷ w ∷ bytes ≡ 237 ∷ x' ∷ y' ∷ 237 ∷ z' ∷ w' ∷ bytes
    all_four p q r s = cc

goes_lead : (kind : NameKind) (b : ℕ) (t : NameState) (bytes : List ℕ) → Lead b t → Goes kind t bytes → Name kind (b ∷ bytes)
goes_lead kind b t bytes (lead_one low high n46 n47 n59 n91 same) goes =
    let g : Tail kind bytes = subst (λ (x : NameState). Goes kind x bytes) (sym same) goes in
    name_one kind b bytes low high n46 n47 n59 n91 g
goes_lead kind b t bytes (lead_two low high same) goes =
    let g : Next 128 191 (Tail kind) bytes = subst (λ (x : NameState). Goes kind x bytes) (sym same) goes in
    subst (λ (x : List ℕ). Name kind (b ∷ x)) (sym g.split) (name_two kind b g.byte g.after low high g.low_is g.high_is g.holds)
goes_lead kind b t bytes (lead_e0 is same) goes =
    let g : Next 160 191 (Next 128 191 (Tail kind)) bytes = subst (λ (x : NameState). Goes kind x bytes) (sym same) goes in
    let h1 = g.low_is in
    let h2 = g.high_is in
    let h3 = g.holds.low_is in
    let h4 = g.holds.high_is in
    from_three b bytes g.byte g.after g.holds.byte g.holds.after g.split g.holds.split
    (name_three kind b g.byte g.holds.byte g.holds.after (omega arith) (omega arith) (omega arith) h2 h3 h4 (omega arith) (inl (omega arith)) g.holds.holds)
  where
    from_three : (b : ℕ) (bytes : List ℕ) (x : ℕ) (m : List ℕ) (y : ℕ) (n : List ℕ) → bytes ≡ x ∷ m → m ≡ y ∷ n → Name kind (b ∷ x ∷ y ∷ n) → Name kind (b ∷ bytes)
    from_three b bytes x m y n p q name = subst (λ (w : List ℕ). Name kind (b ∷ w)) (let e : x ∷ y ∷ n ≡ bytes = cc in e) name
goes_lead kind b t bytes (lead_ed is same) goes =
    let both = subst (λ (x : NameState). Goes kind x bytes) (sym same) goes in
    behind_ed both
  where
    from_three : (x : ℕ) (m : List ℕ) (y : ℕ) (n : List ℕ) → bytes ≡ x ∷ m → m ≡ y ∷ n → Name kind (b ∷ x ∷ y ∷ n) → Name kind (b ∷ bytes)
    from_three x m y n p q name = subst (λ (w : List ℕ). Name kind (b ∷ w)) (let e : x ∷ y ∷ n ≡ bytes = cc in e) name

    from_six : (x : ℕ) (m : List ℕ) (y : ℕ) (n : List ℕ) (z : ℕ) (o : List ℕ) (v : ℕ) (p : List ℕ) (w : ℕ) (q : List ℕ) → bytes ≡ x ∷ m → m ≡ y ∷ n → n ≡ z ∷ o → o ≡ v ∷ p → p ≡ w ∷ q → z ≡ 237
        → Name kind (237 ∷ x ∷ y ∷ 237 ∷ v ∷ w ∷ q) → Name kind (b ∷ bytes)
    from_six x m y n z o v p w q e1 e2 e3 e4 e5 e6 name = subst (Name kind) (let e : 237 ∷ x ∷ y ∷ 237 ∷ v ∷ w ∷ q ≡ b ∷ bytes = cc in e) name

    behind_ed : Goes kind BehindED bytes → Name kind (b ∷ bytes)
    behind_ed (inl g) =
        let h1 = g.low_is in
        let h2 = g.high_is in
        let h3 = g.holds.low_is in
        let h4 = g.holds.high_is in
        from_three g.byte g.after g.holds.byte g.holds.after g.split g.holds.split
        (name_three kind b g.byte g.holds.byte g.holds.after (omega arith) (omega arith) h1 (omega arith) h3 h4 (omega arith) (inl (omega arith)) g.holds.holds)
    behind_ed (inr g) =
        let a = g.holds in
        let d = a.holds in
        let f = d.holds in
        let i = f.holds in
        let h1 = d.low_is in
        let h2 = d.high_is in
        from_six g.byte g.after a.byte a.after d.byte d.after f.byte f.after i.byte i.after g.split a.split d.split f.split i.split (omega arith)
        (name_six kind g.byte a.byte f.byte i.byte i.after g.low_is g.high_is a.low_is a.high_is f.low_is f.high_is i.low_is i.high_is i.holds)
goes_lead kind b t bytes (lead_three low high ne same) goes =
    let g : Next 128 191 (Next 128 191 (Tail kind)) bytes = subst (λ (x : NameState). Goes kind x bytes) (sym same) goes in
    let h1 = g.low_is in
    let h2 = g.high_is in
    let h3 = g.holds.low_is in
    let h4 = g.holds.high_is in
    let is : IsCharacter ((b - 224) * 4096 + (g.byte - 128) * 64 + (g.holds.byte - 128)) =
    elim (cases_lt b 237) [ inl h ↦ inl (omega arith) | inr h ↦ let far : 238 ≤ b = omega arith in inr (omega arith, omega arith) ] in
    from_three g.byte g.after g.holds.byte g.holds.after g.split g.holds.split
    (name_three kind b g.byte g.holds.byte g.holds.after (omega arith) high h1 h2 h3 h4 (omega arith) is g.holds.holds)
  where
    from_three : (x : ℕ) (m : List ℕ) (y : ℕ) (n : List ℕ) → bytes ≡ x ∷ m → m ≡ y ∷ n → Name kind (b ∷ x ∷ y ∷ n) → Name kind (b ∷ bytes)
    from_three x m y n p q name = subst (λ (w : List ℕ). Name kind (b ∷ w)) (let e : x ∷ y ∷ n ≡ bytes = cc in e) name

goes_step : (kind : NameKind) (s t : NameState) (b : ℕ) (bytes : List ℕ) → name_after kind s b ≡ Some t → Goes kind t bytes → Goes kind s (b ∷ bytes)
goes_step kind Start t b bytes e goes = goes_lead kind b t bytes (lead_is b t e) goes
goes_step kind Inside t b bytes e goes =
    elim (chosen (has_parts kind && eqb b 47) (Some Start) (lead b) (Some t) e) [
      | inl (on, same) ↦
          let p = and_parts (has_parts kind) (eqb b 47) on in
          let s = some_is Start t same in
          let g : Name kind bytes = subst (λ (x : NameState). Goes kind x bytes) (sym s) goes in
          subst (λ (x : ℕ). Tail kind (x ∷ bytes)) (sym (eqb-true b 47 p.1)) (tail_part kind bytes p.0 g)
      | inr (off, e1) ↦ tail_character kind (b ∷ bytes) (goes_lead kind b t bytes (lead_is b t e1) goes)
    ]
goes_step kind Last t b bytes e goes = next_of kind 128 191 b Inside t bytes e goes
goes_step kind BehindE0 t b bytes e goes = next_of kind 160 191 b Last t bytes e goes
goes_step kind Middle t b bytes e goes = next_of kind 128 191 b Last t bytes e goes
goes_step kind BehindED t b bytes e goes =
    elim (chosen (ltb b 0xA0) (within 0x80 0x9F b Last) (within 0xA0 0xAF b HighLast) (Some t) e) [
      | inl (on, e1) ↦ inl (next_of kind 128 159 b Last t bytes e1 goes)
      | inr (off, e1) ↦ inr (next_of kind 160 175 b HighLast t bytes e1 goes)
    ]
goes_step kind HighLast t b bytes e goes = next_of kind 128 191 b LowLead t bytes e goes
goes_step kind LowLead t b bytes e goes = next_of kind 237 237 b LowMiddle t bytes e goes
goes_step kind LowMiddle t b bytes e goes = next_of kind 176 191 b Last t bytes e goes

goes_end : (kind : NameKind) (s : NameState) → may_end s ≡ true → Goes kind s []
goes_end kind Inside e = tail_end kind
goes_end kind Start e = absurd cc
goes_end kind Last e = absurd cc
goes_end kind BehindE0 e = absurd cc
goes_end kind Middle e = absurd cc
goes_end kind BehindED e = absurd cc
goes_end kind HighLast e = absurd cc
goes_end kind LowLead e = absurd cc
goes_end kind LowMiddle e = absurd cc

goes : (kind : NameKind) (s : NameState) (bytes : List ℕ) → ends_name kind s bytes ≡ true → Goes kind s bytes
goes kind s [] e = goes_end kind s e
goes kind s (b ∷ bytes) e = on_step (λ t h. goes kind t bytes h) (name_after kind s b) refl e
  where
    on_step : ((t : NameState) → ends_name kind t bytes ≡ true → Goes kind t bytes) → (o : Option NameState) → name_after kind s b ≡ o → elim o [ None ↦ false | Some next ↦ ends_name kind next bytes ] ≡ true → Goes kind s (b ∷ bytes)
    on_step more None is e = absurd cc
    on_step more (Some t) is e = goes_step kind s t b bytes is (more t e)

pub member_found : (bytes : List ℕ) → ends_name Member Start bytes ≡ true → IsMemberName bytes
member_found bytes e =
    let n = goes Member Start bytes e in
    alone n n.tail.may
  where
    alone : (n : Name Member bytes) → (n.tail.parts ≡ []) ⊎ (false ≡ true) → IsMemberName bytes
    alone n (inl none) = subst IsMemberName (sym (name_joined Member bytes n ∙ ap (λ (x : List (List ℕ)). join_with_byte 47 ((character_spelling n.first ++ flat_map character_spelling n.tail.characters) ∷ x)) none)) (first_part Member bytes n)
    alone n (inr h) = absurd cc

pub class_found : (bytes : List ℕ) → ends_name Class Start bytes ≡ true → IsClassName bytes
class_found bytes e =
    let n = goes Class Start bytes e in
    record {
      parts = (character_spelling n.first ++ flat_map character_spelling n.tail.characters) ∷ n.tail.parts;
      not_empty = λ h. cc;
      names = (first_part Class bytes n, n.tail.names);
      joined = name_joined Class bytes n;
    }

-- ---- from the characters to the bytes

step : (kind : NameKind) (s t : NameState) (b : ℕ) (bytes : List ℕ) → name_after kind s b ≡ Some t → ends_name kind s (b ∷ bytes) ≡ ends_name kind t bytes
step kind s t b bytes e = ap (λ (o : Option NameState). elim o [ None ↦ false | Some next ↦ ends_name kind next bytes ]) e

-- where a character may begin
pub data Begins : NameState → Type 0 where
  at_start : Begins Start
  at_inside : Begins Inside

begin_step : (kind : NameKind) (s t : NameState) (b : ℕ) (bytes : List ℕ) → Begins s → b ≢ 47 → lead b ≡ Some t → ends_name kind s (b ∷ bytes) ≡ ends_name kind t bytes
begin_step kind Start t b bytes begins ne e = step kind Start t b bytes e
begin_step Member Inside t b bytes begins ne e = step Member Inside t b bytes e
begin_step Class Inside t b bytes begins ne e = step Class Inside t b bytes (cond-false (eqb b 47) (Some Start) (lead b) (ne_eqb b 47 ne) ∙ e)
begin_step kind Last t b bytes begins ne e = elim begins [ ]
begin_step kind BehindE0 t b bytes begins ne e = elim begins [ ]
begin_step kind Middle t b bytes begins ne e = elim begins [ ]
begin_step kind BehindED t b bytes begins ne e = elim begins [ ]
begin_step kind HighLast t b bytes begins ne e = elim begins [ ]
begin_step kind LowLead t b bytes begins ne e = elim begins [ ]
begin_step kind LowMiddle t b bytes begins ne e = elim begins [ ]

last_step : (kind : NameKind) (b : ℕ) (bytes : List ℕ) → 128 ≤ b → b ≤ 191 → ends_name kind Last (b ∷ bytes) ≡ ends_name kind Inside bytes
last_step kind b bytes low high = step kind Last Inside b bytes (within_yes 128 191 b Inside low high)

abbrev Over : NameKind → NameState → List ℕ → List ℕ → Type 0
Over kind s front bytes = ends_name kind s (front ++ bytes) ≡ ends_name kind Inside bytes

over_one : (kind : NameKind) (s : NameState) (c : ℕ) (bytes : List ℕ) → Begins s → IsNameCharacter c → c < 128 → Over kind s (c ∷ []) bytes
over_one kind s c bytes begins allowed high = begin_step kind s Inside c bytes begins allowed.not_slash (leads_one c high allowed.not_zero allowed.not_dot allowed.not_slash allowed.not_semicolon allowed.not_bracket)

over_two : (kind : NameKind) (s : NameState) (a b : ℕ) (bytes : List ℕ) → Begins s → 194 ≤ a → a ≤ 223 → 128 ≤ b → b ≤ 191 → Over kind s (a ∷ b ∷ []) bytes
over_two kind s a b bytes begins la ha lb hb = begin_step kind s Last a (b ∷ bytes) begins (λ h. omega arith) (leads_two a la ha) ∙ last_step kind b bytes lb hb

over_e0 : (kind : NameKind) (s : NameState) (b d : ℕ) (bytes : List ℕ) → Begins s → 160 ≤ b → b ≤ 191 → 128 ≤ d → d ≤ 191 → Over kind s (224 ∷ b ∷ d ∷ []) bytes
over_e0 kind s b d bytes begins lb hb ld hd =
    begin_step kind s BehindE0 224 (b ∷ d ∷ bytes) begins (λ h. cc) refl ∙ step kind BehindE0 Last b (d ∷ bytes) (within_yes 160 191 b Last lb hb) ∙ last_step kind d bytes ld hd

over_ed : (kind : NameKind) (s : NameState) (b d : ℕ) (bytes : List ℕ) → Begins s → 128 ≤ b → b ≤ 159 → 128 ≤ d → d ≤ 191 → Over kind s (237 ∷ b ∷ d ∷ []) bytes
over_ed kind s b d bytes begins lb hb ld hd =
    begin_step kind s BehindED 237 (b ∷ d ∷ bytes) begins (λ h. cc) refl ∙ step kind BehindED Last b (d ∷ bytes) (rw (lt-ltb b 0xA0 (omega arith)) (within_yes 128 159 b Last lb hb)) ∙ last_step kind d bytes ld hd

over_middle : (kind : NameKind) (s : NameState) (a b d : ℕ) (bytes : List ℕ) → Begins s → 225 ≤ a → a ≤ 239 → a ≢ 237 → 128 ≤ b → b ≤ 191 → 128 ≤ d → d ≤ 191 → Over kind s (a ∷ b ∷ d ∷ []) bytes
over_middle kind s a b d bytes begins la ha ne lb hb ld hd =
    begin_step kind s Middle a (b ∷ d ∷ bytes) begins (λ h. omega arith) (leads_three a la ha ne) ∙ step kind Middle Last b (d ∷ bytes) (within_yes 128 191 b Last lb hb) ∙ last_step kind d bytes ld hd

over_six : (kind : NameKind) (s : NameState) (b d f g : ℕ) (bytes : List ℕ) → Begins s → 160 ≤ b → b ≤ 175 → 128 ≤ d → d ≤ 191 → 176 ≤ f → f ≤ 191 → 128 ≤ g → g ≤ 191
    → Over kind s (237 ∷ b ∷ d ∷ 237 ∷ f ∷ g ∷ []) bytes
over_six kind s b d f g bytes begins lb hb ld hd lf hf lg hg =
    begin_step kind s BehindED 237 (b ∷ d ∷ 237 ∷ f ∷ g ∷ bytes) begins (λ h. cc) refl
    ∙ step kind BehindED HighLast b (d ∷ 237 ∷ f ∷ g ∷ bytes) (rw (le-ltb b 0xA0 lb) (within_yes 160 175 b HighLast lb hb))
    ∙ step kind HighLast LowLead d (237 ∷ f ∷ g ∷ bytes) (within_yes 128 191 d LowLead ld hd)
    ∙ step kind LowLead LowMiddle 237 (f ∷ g ∷ bytes) refl
    ∙ step kind LowMiddle Last f (g ∷ bytes) (within_yes 176 191 f Last lf hf)
    ∙ last_step kind g bytes lg hg

over_three : (kind : NameKind) (s : NameState) (c : ℕ) (bytes : List ℕ) → Begins s → IsNameCharacter c → 2048 ≤ c → c < 65536 → Over kind s ((224 + c / 4096) ∷ (128 + c / 64 % 64) ∷ (128 + c % 64) ∷ []) bytes
over_three kind s c bytes begins allowed low high = by_lead (cases_lt c 4096) (cases_lt c 53248) (cases_lt c 57344) allowed.character
  where
    lead_at : (a : ℕ) → 224 + c / 4096 ≡ a → Over kind s (a ∷ (128 + c / 64 % 64) ∷ (128 + c % 64) ∷ []) bytes → Over kind s ((224 + c / 4096) ∷ (128 + c / 64 % 64) ∷ (128 + c % 64) ∷ []) bytes
    lead_at a e over = subst (λ (x : ℕ). Over kind s (x ∷ (128 + c / 64 % 64) ∷ (128 + c % 64) ∷ []) bytes) (sym e) over

    by_lead : (c < 4096) ⊎ (4096 ≤ c) → (c < 53248) ⊎ (53248 ≤ c) → (c < 57344) ⊎ (57344 ≤ c) → IsCharacter c → Over kind s ((224 + c / 4096) ∷ (128 + c / 64 % 64) ∷ (128 + c % 64) ∷ []) bytes
    by_lead (inl x) y z is = lead_at 224 (omega arith) (over_e0 kind s (128 + c / 64 % 64) (128 + c % 64) bytes begins (omega arith) (omega arith) (omega arith) (omega arith))
    by_lead (inr x) (inl y) z is = over_middle kind s (224 + c / 4096) (128 + c / 64 % 64) (128 + c % 64) bytes begins (omega arith) (omega arith) (λ h. omega arith) (omega arith) (omega arith) (omega arith) (omega arith)
    by_lead (inr x) (inr y) (inl z) (inl is) = lead_at 237 (omega arith) (over_ed kind s (128 + c / 64 % 64) (128 + c % 64) bytes begins (omega arith) (omega arith) (omega arith) (omega arith))
    by_lead (inr x) (inr y) (inl z) (inr is) = let h = is.0 in absurd (omega arith)
    by_lead (inr x) (inr y) (inr z) is = over_middle kind s (224 + c / 4096) (128 + c / 64 % 64) (128 + c % 64) bytes begins (omega arith) (omega arith) (λ h. omega arith) (omega arith) (omega arith) (omega arith) (omega arith)

pub over_character : (kind : NameKind) (s : NameState) (c : ℕ) (bytes : List ℕ) → Begins s → IsNameCharacter c → Over kind s (character_spelling c) bytes
over_character kind s c bytes begins allowed = by_size (cases_lt c 128) (cases_lt c 2048) (cases_lt c 65536) allowed.character
  where
    spelled : {x : List ℕ} → character_spelling c ≡ x → Over kind s x bytes → Over kind s (character_spelling c) bytes
    spelled e over = subst (λ (x : List ℕ). Over kind s x bytes) (sym e) over

    by_size : (c < 128) ⊎ (128 ≤ c) → (c < 2048) ⊎ (2048 ≤ c) → (c < 65536) ⊎ (65536 ≤ c) → IsCharacter c → Over kind s (character_spelling c) bytes
    by_size (inl x) y z is = let n0 = allowed.not_zero in spelled (one_character c (omega arith) x) (over_one kind s c bytes begins allowed x)
    by_size (inr x) (inl y) z is = spelled (two_character c x y) (over_two kind s (192 + c / 64) (128 + c % 64) bytes begins (omega arith) (omega arith) (omega arith) (omega arith))
    by_size (inr x) (inr y) (inl z) is = spelled (three_character c y z) (over_three kind s c bytes begins allowed y z)
    by_size (inr x) (inr y) (inr z) (inl is) = absurd (omega arith)
    by_size (inr x) (inr y) (inr z) (inr is) =
        let h = is.1 in
        let v : ℕ = c - 65536 in
        let back : 65536 + v ≡ c = omega arith in
        let below : v < 1048576 = omega arith in
        spelled (ap character_spelling (sym back) ∙ six_character v below)
        (over_six kind s (160 + v / 65536) (128 + v / 1024 % 64) (176 + v / 64 % 16) (128 + v % 64) bytes begins (omega arith) (omega arith) (omega arith) (omega arith) (omega arith) (omega arith) (omega arith) (omega arith))

over_inside : (kind : NameKind) (characters bytes : List ℕ) → AllByRecursion IsNameCharacter characters → Over kind Inside (flat_map character_spelling characters) bytes
over_inside kind [] bytes allowed = refl
over_inside kind (c ∷ cs) bytes allowed =
    ap (ends_name kind Inside) (append_assoc (character_spelling c) (flat_map character_spelling cs) bytes)
    ∙ over_character kind Inside c (flat_map character_spelling cs ++ bytes) at_inside allowed.0 ∙ over_inside kind cs bytes allowed.1

over_part : (kind : NameKind) (characters bytes : List ℕ) → characters ≢ [] → AllByRecursion IsNameCharacter characters → Over kind Start (flat_map character_spelling characters) bytes
over_part kind [] bytes some allowed = absurd (some refl)
over_part kind (c ∷ cs) bytes some allowed =
    ap (ends_name kind Start) (append_assoc (character_spelling c) (flat_map character_spelling cs) bytes)
    ∙ over_character kind Start c (flat_map character_spelling cs ++ bytes) at_start allowed.0 ∙ over_inside kind cs bytes allowed.1

over_member : (kind : NameKind) (name bytes : List ℕ) → IsMemberName name → Over kind Start name bytes
over_member kind name bytes is = subst (λ (x : List ℕ). Over kind Start x bytes) (sym is.spelled) (over_part kind is.characters bytes is.not_empty is.allowed)

pub member_again : (kind : NameKind) (bytes : List ℕ) → IsMemberName bytes → ends_name kind Start bytes ≡ true
member_again kind bytes is = ap (ends_name kind Start) (sym (append-nil bytes)) ∙ over_member kind bytes [] is

parts_again : (parts : List (List ℕ)) → parts ≢ [] → AllByRecursion IsMemberName parts → ends_name Class Start (join_with_byte 47 parts) ≡ true
parts_again [] some names = absurd (some refl)
parts_again (p ∷ []) some names = member_again Class p names.0
parts_again (p ∷ q ∷ ps) some names = over_member Class p (47 ∷ join_with_byte 47 (q ∷ ps)) names.0 ∙ parts_again (q ∷ ps) (λ h. cc) names.1

pub class_again : (bytes : List ℕ) → IsClassName bytes → ends_name Class Start bytes ≡ true
class_again bytes is = ap (ends_name Class Start) is.joined ∙ parts_again is.parts is.not_empty is.names
