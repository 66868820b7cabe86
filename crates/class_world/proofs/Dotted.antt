-- A class name against the name that Java source has for it.
use Rattle.std.specs.Prelude.{◌≡◌, ℕ, suc, ◌+◌, ◌-◌, ◌<◌, ◌≤◌, ◌==◌, if◌then◌else◌, Bool, true, false, List, [], ◌∷◌, ◌++◌, length, take, drop, refl}
use Rattle.std.proofs.Common.{get_or, sym, ap, ◌∙◌, arith}
use Rattle.std.specs.List.{AllWithin, Contains}
use Rattle.std.specs.Str.{bytes_eq}
use Rattle.std.proofs.lemmas.List.Elements.{All-contains, All-map}
use Rattle.std.proofs.lemmas.Slice.Eq.{bytes_eq-Decides}
use Rattle.std.proofs.lemmas.Grind.{common_steps}
use Rattle.aj_names.specs.Hierarchy.{dollared, dotted, in_package}
use Rattle.class_heads.specs.declared.types.ClassHead.{ClassHead}
use Rattle.class_heads.specs.Hierarchy.{class_names}

not_true : (b : Bool) → (b ≡ true → ⊥) → false ≡ b
not_true true h = absurd (h refl)
not_true false h = refl

length-dotted : (class : List ℕ) → length (dotted class) ≡ length class
length-dotted [] = refl
length-dotted (b ∷ class) = ap suc (length-dotted class)

length-dollared : (dollars : ℕ) (name : List ℕ) → length (dollared dollars name) ≡ length name
length-dollared dollars [] = refl
length-dollared dollars (b ∷ name) = ap suc (length-dollared dollars name)

-- names of different lengths differ
pub spelled_lengths : (class name : List ℕ) (dollars : ℕ) → (length class ≡ length name → ⊥) → false ≡ bytes_eq (dotted class) (dollared dollars name)
spelled_lengths class name dollars h =
    not_true (bytes_eq (dotted class) (dollared dollars name))
    (λ e. h (sym (length-dotted class) ∙ ap length ((bytes_eq-Decides (dotted class) (dollared dollars name)).0 e) ∙ length-dollared dollars name))

-- what holds of no head's name holds of none of the names
pub none_among : (P : List ℕ → Type 0) (heads : List ClassHead) (index : ℕ) → length heads ≤ index → AllWithin (λ (head : ClassHead). P head.name → ⊥) heads 0 index → (class : List ℕ) → Contains (class_names heads) class → P class → ⊥
none_among P heads index all none class known =
    All-contains (λ name. P name → ⊥) (class_names heads) class
    (All-map (λ name. P name → ⊥) (λ (c : ClassHead). c.name) heads (λ k d h. none k d (omega arith) (omega arith))) known

-- ---- packages

pub take_rest : (n : ℕ) (xs : List ℕ) → n + 1 ≤ length xs → take (length xs - (n + 1)) (drop (n + 1) xs) ≡ drop (suc n) xs
take_rest n xs h = grind (arith, common_steps)

-- a byte of a class name with its / as a dot
abbrev pub dotted_of : ℕ → ℕ
dotted_of b = if b == 47 then 46 else b

in_named_package : (package' name : List ℕ) → (length package' ≡ 0 → ⊥) → in_package package' name ≡ package' ++ 46 ∷ name
in_named_package [] name h = absurd (h refl)
in_named_package (b ∷ bs) name h = refl

same_rest : (front one other : List ℕ) → front ++ one ≡ front ++ other → one ≡ other
same_rest [] one other e = e
same_rest (b ∷ front) one other e = let t : front ++ one ≡ front ++ other = cc in same_rest front one other t

split_name : (package' class : List ℕ) → length package' < length class → dotted (take (length package') class) ≡ package' → dotted_of (get_or class (length package') 0) ≡ 46 → dotted class ≡ package' ++ 46 ∷ dotted (drop (suc (length package')) class)
split_name [] [] lt front dot = absurd (omega arith)
split_name [] (b ∷ class) lt front dot = ap (λ x. x ∷ dotted class) dot
split_name (p ∷ package') [] lt front dot = absurd (omega arith)
split_name (p ∷ package') (b ∷ class) lt front dot =
    let first : dotted_of b ≡ p = cc in
    let others : dotted (take (length package') class) ≡ package' = cc in
    let shorter : length package' < length class = omega arith in
    let e = split_name package' class shorter others dot in
    cc

begins : (package' class name : List ℕ) → dotted class ≡ package' ++ 46 ∷ name → (length package' < length class) × (dotted (take (length package') class) ≡ package') × (dotted_of (get_or class (length package') 0) ≡ 46)
begins [] [] name e = absurd cc
begins [] (b ∷ class) name e = let first : dotted_of b ≡ 46 = cc in (omega arith, refl, first)
begins (p ∷ package') [] name e = absurd cc
begins (p ∷ package') (b ∷ class) name e =
    let first : dotted_of b ≡ p = cc in
    let others : dotted class ≡ package' ++ 46 ∷ name = cc in
    let i = begins package' class name others in
    let shorter : length package' < length class = i.0 in
    let front : dotted (take (length package') class) ≡ package' = i.1 in
    (omega arith, cc, i.2)

-- the class name with the package and a dot before the rest has that rest and no other
pub rest_behind : (package' class rest : List ℕ) → rest ≡ drop (suc (length package')) class → (length package' ≡ 0 → ⊥) → length package' < length class → dotted (take (length package') class) ≡ package' → dotted_of (get_or class (length package') 0) ≡ 46 → (name : List ℕ) → (dotted class ≡ in_package package' name → dotted rest ≡ name) × (dotted rest ≡ name → dotted class ≡ in_package package' name)
rest_behind package' class rest is named lt front dot name =
    let whole : dotted class ≡ package' ++ 46 ∷ dotted rest = split_name package' class lt front dot ∙ ap (λ r. package' ++ 46 ∷ dotted r) (sym is) in (
      λ e. let s : 46 ∷ dotted rest ≡ 46 ∷ name = same_rest package' (46 ∷ dotted rest) (46 ∷ name) (sym whole ∙ e ∙ in_named_package package' name named) in cc,
      λ e. whole ∙ ap (λ r. package' ++ 46 ∷ r) e ∙ sym (in_named_package package' name named),
    )

-- a class name that has the package begins with it
pub begins_with : (package' class name : List ℕ) → (length package' ≡ 0 → ⊥) → dotted class ≡ in_package package' name → (length package' < length class) × (dotted (take (length package') class) ≡ package') × (dotted_of (get_or class (length package') 0) ≡ 46)
begins_with package' class name named e = begins package' class name (e ∙ in_named_package package' name named)
