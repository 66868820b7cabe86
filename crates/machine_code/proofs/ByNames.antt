-- Methods by places and by names.
use Rattle.std.specs.Prelude.{◌≡◌, ℕ, zero, suc, ◌+◌, ◌≤◌, ◌&&◌, Bool, true, false, cond, List, [], ◌∷◌, ◌++◌, map, slice_get, Option, Some, None, option_and_then, refl, unwrap_or, IsTrue}
use Rattle.std.proofs.Common.{sym, ap, ◌∙◌, arith}
use Rattle.std.specs.List.{find, position_from, AllByRecursion}
use Rattle.std.specs.Option.{option_map}
use Rattle.std.specs.Str.{bytes_eq}
use Rattle.std.proofs.lemmas.List.{append-nil}
use Rattle.std.proofs.lemmas.Option.{slice_get-map, slice_get_within}
use Rattle.class_file.specs.declared.types.ClassFile.{ClassFile}
use Rattle.class_file.specs.declared.types.Member.{Member}
use Rattle.class_file.specs.Pool.{NamedType, text_at, this_name, member_type}
use Rattle.class_file.specs.Sound.{is_some_that}
use Rattle.class_heads.specs.declared.types.MethodHead.{MethodHead}
use Rattle.class_heads.specs.declared.types.ClassHead.{ClassHead}
use Rattle.class_heads.specs.Heads.{method_head, head_of}
use Rattle.class_heads.specs.Hierarchy.{is_named, place_of, name_at}
use Rattle.class_heads.specs.Searches.{MemberPlace, same_name, method_position}
use Rattle.aj_names.specs.declared.types.MemberName.{MemberName}
use Rattle.class_machine.specs.Classes.{reference}
use Rattle.class_machine.specs.Declarations.{declared_in}
use Rattle.class_machine.specs.ClassFiles as machine
use Rattle.class_machine.specs.ClassFiles.{MethodCode, file_named, member_in, code_declared, method_code}
use Rattle.machine_code.specs.Programs.{code_at, placed_code, name_in_class, method_name, IsFirst, IsProgram}
use Rattle.class_file.specs.WellFormed.{receiver_slots, is_well_formed}
use Rattle.class_file.specs.Text.{is_class_name, is_member_name, is_method_descriptor_with}
use Rattle.machine_code.proofs.Numbered.{get_front}
use Rattle.machine_code.proofs.Formed.{formed_at, names_itself, sound_at, has_name, has_descriptor}

-- ---- the first that passes

some_head : (a b : ClassHead) → Some a ≡ Some b → a ≡ b
some_head a b e = cc

some_at : (a b : ℕ) → Some a ≡ Some b → a ≡ b
some_at a b e = cc

-- a place that is found isn't before those that are searched
not_before : {Y : Type 0} (p : Y → Bool) (s k : ℕ) (ys : List Y) → position_from p s ys ≡ Some k → s ≤ k
not_before p s k [] at = absurd cc
not_before {Y} p s k (y ∷ ys) at = by (λ h. not_before p (s + 1) k ys h) (p y) refl where
  by : (position_from p (s + 1) ys ≡ Some k → s + 1 ≤ k) → (b : Bool) → p y ≡ b → s ≤ k
  by rest true e = let first = some_at s k (sym (ap (λ b. cond b (Some s) (position_from p (s + 1) ys)) e) ∙ at) in omega arith
  by rest false e = let next = rest (sym (ap (λ b. cond b (Some s) (position_from p (s + 1) ys)) e) ∙ at) in omega arith

-- The first of a mapped list and of another behind it, against the first of the list itself.
pub find_by_position : {X Y : Type 0} (f : X → Y) (p : Y → Bool) (q : X → Bool) (xs : List X) (ys : List Y) (s k : ℕ)
    → ((i : ℕ) (x : X) → slice_get xs i ≡ Some x → q x ≡ p (f x))
    → position_from p s (map f xs ++ ys) ≡ Some (s + k) → find q xs ≡ slice_get xs k
find_by_position f p q [] ys s k same at = refl
find_by_position {X} f p q (x ∷ xs) ys s k same at =
    by (λ j h. find_by_position f p q xs ys (s + 1) j (λ i y is. same (suc i) y is) h) k (p (f x)) refl at
  where
    by : ((j : ℕ) → position_from p (s + 1) (map f xs ++ ys) ≡ Some (s + 1 + j) → find q xs ≡ slice_get xs j) → (k : ℕ) → (b : Bool) → p (f x) ≡ b
        → position_from p s (map f (x ∷ xs) ++ ys) ≡ Some (s + k) → find q (x ∷ xs) ≡ slice_get (x ∷ xs) k
    by rest k true e at =
        let first : Some s ≡ Some (s + k) = sym (ap (λ b. cond b (Some s) (position_from p (s + 1) (map f xs ++ ys))) e) ∙ at in
        let zeroth : s ≡ s + k = some_at s (s + k) first in
        let none : k ≡ 0 = omega arith in
        ap (λ b. cond b (Some x) (find q xs)) (same 0 x refl ∙ e) ∙ ap (slice_get (x ∷ xs)) (sym none)
    by rest zero false e at =
        let behind = not_before p (s + 1) (s + 0) (map f xs ++ ys) (sym (ap (λ b. cond b (Some s) (position_from p (s + 1) (map f xs ++ ys))) e) ∙ at) in
        absurd (omega arith)
    by rest (suc k) false e at =
        let next : position_from p (s + 1) (map f xs ++ ys) ≡ Some (s + 1 + k) =
        sym (ap (λ b. cond b (Some s) (position_from p (s + 1) (map f xs ++ ys))) e) ∙ at ∙ ap Some (let n : s + suc k ≡ s + 1 + k = omega arith in n) in
        ap (λ b. cond b (Some x) (find q xs)) (same 0 x refl ∙ e) ∙ rest k next

-- ---- names that are there

bytes_named : (name : List ℕ) (test : List ℕ → Bool) (o : Option (List ℕ)) → is_some_that test o ≡ true → machine.is_named name o ≡ bytes_eq (unwrap_or o []) name
bytes_named name test None there = absurd cc
bytes_named name test (Some found) there = refl

bytes_typed : (type : NamedType) (test other : List ℕ → Bool) (n d : Option (List ℕ)) → is_some_that test n ≡ true → is_some_that other d ≡ true
    → machine.is_typed type (option_and_then (λ (name : List ℕ). option_and_then (λ (descriptor : List ℕ). Some (record { name = name; descriptor = descriptor })) d) n) ≡ (bytes_eq (unwrap_or n []) type.name && bytes_eq (unwrap_or d []) type.descriptor)
bytes_typed type test other None d n_there d_there = absurd cc
bytes_typed type test other (Some n) None n_there d_there = absurd cc
bytes_typed type test other (Some n) (Some d) n_there d_there = refl

class_named_same : (name : List ℕ) (c : ClassFile) → is_well_formed c ≡ true → machine.is_named name (this_name c) ≡ is_named name (head_of c)
class_named_same name c formed = bytes_named name is_class_name (this_name c) (names_itself c formed)

method_named_same : (member : MemberName) (c : ClassFile) → is_well_formed c ≡ true → (i : ℕ) (m : Member) → slice_get c.methods i ≡ Some m
    → machine.is_typed (record { name = member.name; descriptor = member.descriptor }) (member_type c.pool m) ≡ same_name (method_head c.pool m).name member
method_named_same member c formed i m at =
    let sound = sound_at c formed i m at in
    bytes_typed (record { name = member.name; descriptor = member.descriptor }) is_member_name (is_method_descriptor_with (receiver_slots m.flags.0)) (text_at c.pool m.name) (text_at c.pool m.descriptor)
    (has_name c.major c.pool m sound) (has_descriptor c.major c.pool m sound)

-- ---- the code of a method by its names

-- the method in its class
member_found : (member : MemberName) (c : ClassFile) (position : ℕ) → is_well_formed c ≡ true → method_position member (head_of c) ≡ Some position
    → member_in c (record { name = member.name; descriptor = member.descriptor }) ≡ slice_get c.methods position
member_found member c position formed at =
    find_by_position (method_head c.pool) (λ (m : MethodHead). same_name m.name member) (λ (m : Member). machine.is_typed (record { name = member.name; descriptor = member.descriptor }) (member_type c.pool m)) c.methods [] 0 position
    (λ i m is. method_named_same member c formed i m is)
    (ap (position_from (λ (m : MethodHead). same_name m.name member) 0) (append-nil (map (method_head c.pool) c.methods)) ∙ at ∙ ap Some (let e : position ≡ 0 + position = omega arith in e))

-- the class among the files
file_found : (files : List ClassFile) (library : List ClassHead) (name : List ℕ) (place : ℕ) → AllByRecursion (λ c. IsTrue (is_well_formed c)) files → place_of (map head_of files ++ library) name ≡ Some place
    → file_named files name ≡ slice_get files place
file_found files library name place formed at =
    find_by_position head_of (is_named name) (λ (c : ClassFile). machine.is_named name (this_name c)) files library 0 place
    (λ i c is. class_named_same name c (formed_at files i c formed is))
    (at ∙ ap Some (let e : place ≡ 0 + place = omega arith in e))

name_here : (heads : List ClassHead) (place : ℕ) (head : ClassHead) → slice_get heads place ≡ Some head → name_at heads place ≡ head.name
name_here heads place head at = ap (λ (o : Option ClassHead). unwrap_or (option_map (λ (c : ClassHead). c.name) o) []) at

head_given : (files : List ClassFile) (library : List ClassHead) (place : ℕ) (c : ClassFile) → slice_get files place ≡ Some c → slice_get (map head_of files ++ library) place ≡ Some (head_of c)
head_given files library place c at =
    let mapped : slice_get (map head_of files) place ≡ Some (head_of c) = slice_get-map head_of files place ∙ ap (option_map head_of) at in
    get_front (map head_of files) library place (slice_get_within (map head_of files) place (head_of c) mapped) ∙ mapped

module _ (files : List ClassFile) (heads : List ClassHead) (program : IsProgram files heads) (m : MemberPlace) (first : IsFirst heads m) where
  -- the name of the method
  name_is : method_name heads m ≡ declared_in first.head.name first.method.name
  name_is =
      ap (λ (o : Option ClassHead). unwrap_or (option_and_then (name_in_class m.position) o) (reference [] [] [])) first.class
      ∙ ap (λ (o : Option MethodHead). unwrap_or (option_map (λ (method : MethodHead). declared_in first.head.name method.name) o) (reference [] [] [])) first.stands

  file_is : file_named files first.head.name ≡ slice_get files m.class
  file_is =
      let named = name_here heads m.class first.head first.class in
      let at : place_of heads first.head.name ≡ Some m.class = ap (place_of heads) (sym named) ∙ program.different m.class (slice_get_within heads m.class first.head first.class) in
      file_found files program.library first.head.name m.class program.formed (ap (λ (h : List ClassHead). place_of h first.head.name) (sym program.given) ∙ at)

  code_is : (o : Option ClassFile) → slice_get files m.class ≡ o → option_and_then (code_declared (declared_in first.head.name first.method.name).member) o ≡ option_and_then (code_at m.position) o
  code_is None at = refl
  code_is (Some c) at =
      let own : Some first.head ≡ Some (head_of c) = sym first.class ∙ ap (λ (h : List ClassHead). slice_get h m.class) program.given ∙ head_given files program.library m.class c at in
      let same : first.head ≡ head_of c = some_head first.head (head_of c) own in
      let found = member_found first.method.name c m.position (formed_at files m.class c program.formed at) (ap (method_position first.method.name) (sym same) ∙ first.first) in
      ap (λ (o : Option Member). option_map (machine.with_pool c) (option_and_then machine.code_of o)) found

  -- the code that goes by the method's name is that at its place
  pub by_name : method_code files (method_name heads m) ≡ placed_code files m
  by_name =
      ap (method_code files) name_is
      ∙ ap (option_and_then (code_declared (declared_in first.head.name first.method.name).member)) file_is
      ∙ code_is (slice_get files m.class) refl
