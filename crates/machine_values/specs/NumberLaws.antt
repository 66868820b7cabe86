-- Objects that were made are numbered from 1 on, by what they were made of: so a name is that of one object, and the next
-- name is the class machine's.
use Rattle.std.specs.Prelude.{◌≡◌, ℕ, zero, suc, ◌+◌, ◌<◌, ◌≤◌, Bool, true, false, ◌&&◌, ◌==◌, ◌⊎◌, List, [], ◌∷◌, ◌++◌, reverse, length, slice_get, Option, Some, None, refl, if◌then◌else◌}
use Rattle.std.specs.List.{AllByRecursion}
use Rattle.std.specs.Str.{bytes_eq}
use Rattle.std.proofs.Common.{sym, ◌∙◌, ap, subst, inl, inr, arith, append-nil, append_assoc, eq-eqb}
use Rattle.std.proofs.lemmas.Bool.{cases_Bool, false≢true, ne_eqb}
use Rattle.std.proofs.lemmas.List.{reverse-append}
use Rattle.std.proofs.lemmas.Option.{none-some}
use Rattle.std.specs.Cmp.Lexicographic.{bytes_decides}
use Rattle.class_heads.specs.declared.types.ClassHead.{ClassHead}
use Rattle.class_file.specs.Pool.{Reference}
use Rattle.class_machine.specs.Values as machine
use Rattle.class_machine.specs.World as worlds
use Rattle.machine_values.specs.declared.names.Maker.{Maker}
use Rattle.machine_values.specs.declared.names.Name.{Name}
use Rattle.machine_values.specs.declared.names.Name.TheVariants.{Made, Literal, ClassObject}
use Rattle.machine_values.specs.declared.content.Content.{Content}
use Rattle.machine_values.specs.Things.{Things, same_maker, is_made_of, made, place_of}
use Rattle.machine_values.specs.NameLaws.{maker_itself, maker_cases, made-hit, made-grows}
use Rattle.machine_values.specs.Standing.{maker_name, machine_name, listed, IsHeapOf, IsAlone, IsNext, AreNumbered}

pub numbered_push : (before names : List Name) (x : Name) → AreNumbered before names → IsNext (before ++ names) x → AreNumbered before (names ++ x ∷ [])
numbered_push before [] x h k = (subst (λ l. IsNext l x) (append-nil before) k, tt)
numbered_push before (name ∷ names) x h k = (h.0, numbered_push (before ++ name ∷ []) names x h.1 (subst (λ l. IsNext l x) (sym (append_assoc before (name ∷ []) names)) k))

-- the class of the name is told from that of the objects made of another class or array type
abbrev pub IsTold : List ClassHead → Maker → Name → Type 0
IsTold heads maker (Made other j) = maker_name heads other ≡ maker_name heads maker → other ≡ maker
IsTold heads maker name = Unit {0}

-- ---- a number is given once

behind : (before names : List Name) (at : ℕ) (maker : Maker) (k : ℕ) → AreNumbered before names → slice_get names at ≡ Some (Made maker k) → made before maker < k
behind before [] at maker k h there = absurd (none-some (Made maker k) there)
behind before (name ∷ names) zero maker k h there = first name h.0 (some_equal name (Made maker k) there) where
  some_equal : (x y : Name) → Some x ≡ Some y → x ≡ y
  some_equal x y e = cc

  first : (n : Name) → IsNext before n → n ≡ Made maker k → made before maker < k
  first n next e = let number : k ≡ suc (made before maker) = subst (IsNext before) e next in omega arith
behind before (name ∷ names) (suc at) maker k h there =
    let later = behind (before ++ name ∷ []) names at maker k h.1 there in let more = made-grows before name maker in omega arith

unlike : (heads : List ClassHead) (maker other : Maker) (k j : ℕ) → (maker_name heads other ≡ maker_name heads maker → other ≡ maker) → (other ≡ maker → j ≡ k → ⊥)
    → machine.same_name (machine_name heads (Made other j)) (machine_name heads (Made maker k)) ≡ false
unlike heads maker other k j told apart = elim (cases_Bool (bytes_eq (maker_name heads other) (maker_name heads maker))) [
  | inl same ↦ ap (λ b. b && bytes_eq (maker_name heads other) (maker_name heads maker)) (ne_eqb j k (apart (told ((bytes_decides (maker_name heads other) (maker_name heads maker)).0 same))))
  | inr differ ↦ ap (λ b. (j == k) && b) differ ∙ and_false (j == k)
] where
  and_false : (b : Bool) → (b && false) ≡ false
  and_false true = refl
  and_false false = refl

later_unlike : (heads : List ClassHead) (before names : List Name) (maker : Maker) (k : ℕ) → AreNumbered before names → AllByRecursion (IsTold heads maker) names → k ≤ made before maker
    → AllByRecursion (λ other. machine.same_name (machine_name heads other) (machine_name heads (Made maker k)) ≡ false) names
later_unlike heads before [] maker k h told few = tt
later_unlike heads before (Made other j ∷ names) maker k h told few = (
  unlike heads maker other k j told.0 (λ e same. let number : j ≡ suc (made before maker) = subst (λ m. j ≡ suc (made before m)) e h.0 in omega arith),
  later_unlike heads (before ++ Made other j ∷ []) names maker k h.1 told.1 (let more = made-grows before (Made other j) maker in omega arith),
)
later_unlike heads before (Literal units ∷ names) maker k h told few = (refl, later_unlike heads (before ++ Literal units ∷ []) names maker k h.1 told.1 (let more = made-grows before (Literal units) maker in omega arith))
later_unlike heads before (ClassObject type ∷ names) maker k h told few = (refl, later_unlike heads (before ++ ClassObject type ∷ []) names maker k h.1 told.1 (let more = made-grows before (ClassObject type) maker in omega arith))

-- of numbered objects the one at the place alone has its name
pub numbered_alone : (heads : List ClassHead) (before names : List Name) (at : ℕ) (maker : Maker) (k : ℕ) → AreNumbered before names → AllByRecursion (IsTold heads maker) names → slice_get names at ≡ Some (Made maker k)
    → IsAlone heads names at (machine_name heads (Made maker k))
numbered_alone heads before [] at maker k h told there = tt
numbered_alone heads before (name ∷ names) zero maker k h told there = first name h.0 h.1 (some_equal name (Made maker k) there) where
  some_equal : (x y : Name) → Some x ≡ Some y → x ≡ y
  some_equal x y e = cc

  first : (n : Name) → IsNext before n → AreNumbered (before ++ n ∷ []) names → n ≡ Made maker k → AllByRecursion (λ other. machine.same_name (machine_name heads other) (machine_name heads (Made maker k)) ≡ false) names
  first n next numbered e =
      let number : k ≡ suc (made before maker) = subst (IsNext before) e next in
      let counted = made-hit before (Made maker k) maker (maker_itself maker) in
      later_unlike heads (before ++ Made maker k ∷ []) names maker k (subst (λ m. AreNumbered (before ++ m ∷ []) names) e numbered) told.1 (omega arith)
numbered_alone heads before (Made other j ∷ names) (suc at) maker k h told there = (
  unlike heads maker other k j told.0 (λ e same.
      let number : j ≡ suc (made before maker) = subst (λ m. j ≡ suc (made before m)) e h.0 in
      let counted : made (before ++ Made other j ∷ []) maker ≡ suc (made before maker) = made-hit before (Made other j) maker (subst (λ m. same_maker maker m ≡ true) (sym e) (maker_itself maker)) in
      let later = behind (before ++ Made other j ∷ []) names at maker k h.1 there in omega arith),
  numbered_alone heads (before ++ Made other j ∷ []) names at maker k h.1 told.1 there,
)
numbered_alone heads before (Literal units ∷ names) (suc at) maker k h told there = (refl, numbered_alone heads (before ++ Literal units ∷ []) names at maker k h.1 told.1 there)
numbered_alone heads before (ClassObject type ∷ names) (suc at) maker k h told there = (refl, numbered_alone heads (before ++ ClassObject type ∷ []) names at maker k h.1 told.1 there)

-- ---- the class machine counts the same

abbrev pub Listing : Type 0
Listing = List (machine.Name × worlds.Object)

abbrev one_more : Bool → ℕ → ℕ
one_more hit n = if hit then suc n else n

one_more-plus : (hit : Bool) (m n k : ℕ) → m ≡ n + k → one_more hit m ≡ one_more hit n + k
one_more-plus true m n k h = omega arith
one_more-plus false m n k h = h

plus-one_more : (hit : Bool) (m n : ℕ) → m ≡ n → m + one_more hit 0 ≡ one_more hit n
plus-one_more true m n h = omega arith
plus-one_more false m n h = omega arith

count_append : (xs ys : Listing) (class : List ℕ) → worlds.made (xs ++ ys) class ≡ worlds.made xs class + worlds.made ys class
count_append [] ys class = omega arith
count_append (x ∷ xs) ys class = one_more-plus (bytes_eq (machine.class_of x.0) class) (worlds.made (xs ++ ys) class) (worlds.made xs class) (worlds.made ys class) (count_append xs ys class)

count_reverse : (xs : Listing) (class : List ℕ) → worlds.made (reverse xs) class ≡ worlds.made xs class
count_reverse [] class = refl
count_reverse (x ∷ xs) class =
    ap (λ l. worlds.made l class) (reverse-append (x ∷ []) xs) ∙ count_append (reverse xs) (x ∷ []) class
    ∙ plus-one_more (bytes_eq (machine.class_of x.0) class) (worlds.made (reverse xs) class) (worlds.made xs class) (count_reverse xs class)

same_test : (heads : List ClassHead) (maker other : Maker) → (maker_name heads other ≡ maker_name heads maker → other ≡ maker) → bytes_eq (maker_name heads other) (maker_name heads maker) ≡ same_maker maker other
same_test heads maker other told = elim (maker_cases maker other) [
  | inl e ↦ (bytes_decides (maker_name heads other) (maker_name heads maker)).1 (ap (maker_name heads) (sym e)) ∙ sym (subst (λ m. same_maker maker m ≡ true) e (maker_itself maker))
  | inr apart ↦ elim (cases_Bool (bytes_eq (maker_name heads other) (maker_name heads maker))) [
    | inl same ↦ absurd (false≢true (sym apart.0 ∙ subst (λ m. same_maker maker m ≡ true) (sym (told ((bytes_decides (maker_name heads other) (maker_name heads maker)).0 same))) (maker_itself maker)))
    | inr differ ↦ differ ∙ sym apart.0
  ]
]

listed_made : (heads : List ClassHead) (fields : List ℕ → List Reference) (all ns : List Name) (cs : List Content) (maker : Maker) → length cs ≡ length ns → AllByRecursion (IsTold heads maker) ns
    → worlds.made (listed heads fields all ns cs) (maker_name heads maker) ≡ made ns maker
listed_made heads fields all [] cs maker h told = refl
listed_made heads fields all (n ∷ ns) [] maker h told = absurd (omega arith)
listed_made heads fields all (Made other j ∷ ns) (c ∷ cs) maker h told =
    ap (λ hit. one_more hit (worlds.made (listed heads fields all ns cs) (maker_name heads maker))) (same_test heads maker other told.0)
    ∙ ap (one_more (same_maker maker other)) (listed_made heads fields all ns cs maker (omega arith) told.1)
listed_made heads fields all (Literal units ∷ ns) (c ∷ cs) maker h told = listed_made heads fields all ns cs maker (omega arith) told.1
listed_made heads fields all (ClassObject type ∷ ns) (c ∷ cs) maker h told = listed_made heads fields all ns cs maker (omega arith) told.1

-- the next object has the same number
pub made_alike : (heads : List ClassHead) (fields : List ℕ → List Reference) (things : Things) (heap : Listing) (maker : Maker) → IsHeapOf heads fields things heap → AllByRecursion (IsTold heads maker) things.names
    → worlds.made heap (maker_name heads maker) ≡ made things.names maker
made_alike heads fields things heap maker h told =
    ap (λ l. worlds.made l (maker_name heads maker)) h.same ∙ count_reverse (listed heads fields things.names things.names things.contents) (maker_name heads maker)
    ∙ listed_made heads fields things.names things.names things.contents maker h.whole told

-- ---- a name is itself

pub name_itself_there : (heads : List ClassHead) (maker : Maker) (k : ℕ) → machine.same_name (machine_name heads (Made maker k)) (machine_name heads (Made maker k)) ≡ true
name_itself_there heads maker k = ap (λ b. b && bytes_eq (maker_name heads maker) (maker_name heads maker)) (eq-eqb k k refl) ∙ (bytes_decides (maker_name heads maker) (maker_name heads maker)).1 refl
