-- What is found in classes and in the classes that are written for them.
use Rattle.std.proofs.Common.{◌≡◌, ◌≢◌, ℕ, Bool, true, false, bytes_eq, IsTrue, List, [], ◌∷◌, ◌++◌, flat_map, Option, Some, None, refl, sym, ap, ◌∙◌, subst, subst₂, option_and_then, if◌then◌else◌}
use Rattle.std.specs.Option.{option_map}
use Rattle.std.specs.List.{find, filter_map, list_all, AllByRecursion, AllZip}
use Rattle.std.proofs.lemmas.Option.{same_Some}
use Rattle.std.proofs.lemmas.Slice.Eq.{bytes_eq-Decides}
use Rattle.opcode_table.specs.declared.insn.Insn.{Insn}
use Rattle.opcode_table.specs.Spelling.{spelling}
use Rattle.class_file.specs.declared.types.ClassFile.{ClassFile}
use Rattle.class_file.specs.declared.types.Member.{Member}
use Rattle.class_file.specs.declared.types.Attribute.{Attribute}
use Rattle.class_file.specs.declared.types.CodeAttr.{CodeAttr}
use Rattle.class_file.specs.FirstForm.{is_identifier, is_form_method, method_names}
use Rattle.class_file.specs.Pool.{NamedType, this_name, member_type}
use Rattle.class_heads.specs.Heads.{head_of}
use Rattle.class_machine.specs.Classes.{same_type}
use Rattle.class_machine.specs.ClassFiles.{MethodCode, code_in, code_of, first_of, is_named, is_typed, file_named, member_in, with_pool, code_declared}
use Rattle.jp_model.specs.declared.first_aspect.FirstAspect.{FirstAspect}
use Rattle.woven_calls.specs.Woven.{with_code, aspect_class}
use Rattle.woven_calls.specs.Laws.AspectClass.{NoneNamed, not_named}
use Rattle.woven_calls.specs.Laws.Places.{IsCarried}

-- both are there and go together, or neither is there
abbrev pub BothOrNone : {X Y : Type 0} → (X → Y → Type 0) → Option X → Option Y → Type 0
BothOrNone R None None = Unit {0}
BothOrNone R (Some x) (Some y) = R x y
BothOrNone R None (Some y) = ⊥
BothOrNone R (Some x) None = ⊥

pub both_weaker : {X Y : Type 0} (R S : X → Y → Type 0) → ((x : X) (y : Y) → R x y → S x y) → (o : Option X) (o' : Option Y) → BothOrNone R o o' → BothOrNone S o o'
both_weaker R S h None None b = tt
both_weaker R S h (Some x) (Some y) b = h x y b
both_weaker R S h None (Some y) b = absurd b
both_weaker R S h (Some x) None b = absurd b

-- code, and the code that is written for it
pub record IsCarriedCode (a : FirstAspect) (own : List ℕ) (methods : List (List ℕ)) (m m' : MethodCode) : Type 0 where
  pub stack : m.code.max_stack ≡ m'.code.max_stack
  pub locals : m.code.max_locals ≡ m'.code.max_locals
  pub insns : List Insn
  pub bytes : Insn → List ℕ
  pub carried : AllByRecursion (IsCarried a own methods m m' bytes) insns
  pub before : m.code.code ≡ flat_map spelling insns
  pub after : m'.code.code ≡ flat_map bytes insns

-- a method, and the method that is written for it
pub record IsCarriedMember (a : FirstAspect) (own : List ℕ) (methods : List (List ℕ)) (c w : ClassFile) (m m' : Member) : Type 0 where
  pub type : NamedType
  pub typed : member_type c.pool m ≡ Some type
  pub typed' : member_type w.pool m' ≡ Some type
  pub name : ℕ
  pub name' : ℕ
  pub code : CodeAttr
  pub code' : CodeAttr
  pub attributes : m.attributes ≡ with_code name code
  pub attributes' : m'.attributes ≡ with_code name' code'
  pub carried : IsCarriedCode a own methods (with_pool c code) (with_pool w code')

-- a class, and the class that is written for it
pub record IsCarriedClass (a : FirstAspect) (c w : ClassFile) : Type 0 where
  pub own : List ℕ
  pub named : this_name c ≡ Some own
  pub named' : this_name w ≡ Some own
  pub identifier : IsTrue (is_identifier own)
  pub apart : own ≢ a.name
  pub head : head_of w ≡ head_of c
  pub methods : list_all (is_form_method c.pool own (method_names c)) c.methods ≡ true
  pub members : AllZip (IsCarriedMember a own (method_names c) c w) c.methods w.methods

choice : {X Y : Type 0} (R : X → Y → Type 0) (b : Bool) (x : X) (y : Y) (o : Option X) (o' : Option Y) → R x y → BothOrNone R o o' → BothOrNone R (if b then Some x else o) (if b then Some y else o')
choice R true x y o o' here rest = here
choice R false x y o o' here rest = rest

-- ---- in one class

module _ (a : FirstAspect) (c w : ClassFile) (h : IsCarriedClass a c w) where
  abbrev Members : Member → Member → Type 0
  Members = IsCarriedMember a h.own (method_names c) c w

  abbrev Codes : MethodCode → MethodCode → Type 0
  Codes = IsCarriedCode a h.own (method_names c)

  members_found : (type : NamedType) (ms ms' : List Member) → AllZip Members ms ms' → BothOrNone Members (find (λ m. is_typed type (member_type c.pool m)) ms) (find (λ m. is_typed type (member_type w.pool m)) ms')
  members_found type [] [] all = tt
  members_found type [] (m' ∷ ms') all = absurd all
  members_found type (m ∷ ms) [] all = absurd all
  members_found type (m ∷ ms) (m' ∷ ms') all =
      let x = all.0 in
      subst₂ (λ (o o' : Option NamedType). BothOrNone Members (if is_typed type o then Some m else find (λ m. is_typed type (member_type c.pool m)) ms) (if is_typed type o' then Some m' else find (λ m. is_typed type (member_type w.pool m)) ms'))
      (sym x.typed) (sym x.typed')
      (choice Members (same_type x.type type) m m' _ _ x (members_found type ms ms' all.1))

  through_members : (o o' : Option Member) → BothOrNone Members o o' → BothOrNone Codes (option_map (with_pool c) (option_and_then code_of o)) (option_map (with_pool w) (option_and_then code_of o'))
  through_members None None x = tt
  through_members (Some m) (Some m') x =
      let first : List Attribute → Option CodeAttr = λ l. first_of (filter_map code_in l) in
      subst₂ (λ (o o' : Option CodeAttr). BothOrNone Codes (option_map (with_pool c) o) (option_map (with_pool w) o')) (sym (ap first x.attributes)) (sym (ap first x.attributes')) x.carried
  through_members None (Some m') x = absurd x
  through_members (Some m) None x = absurd x

  pub declared_pair : (type : NamedType) → BothOrNone Codes (code_declared type c) (code_declared type w)
  declared_pair type = through_members (member_in c type) (member_in w type) (members_found type c.methods w.methods h.members)

-- ---- among all classes

-- what is found has the name
pub file_is_named : (files : List ClassFile) (name : List ℕ) (c : ClassFile) → file_named files name ≡ Some c → this_name c ≡ Some name
file_is_named [] name c e = absurd cc
file_is_named (x ∷ files) name c e = go (file_is_named files name c) (this_name x) refl e
  where
    go : (file_named files name ≡ Some c → this_name c ≡ Some name) → (o : Option (List ℕ)) → this_name x ≡ o → (if is_named name (this_name x) then Some x else file_named files name) ≡ Some c → this_name c ≡ Some name
    go later None is e = later (sym (ap (λ (o : Option (List ℕ)). if is_named name o then Some x else file_named files name) is) ∙ e)
    go later (Some found) is e = by (bytes_eq found name) refl (sym (ap (λ (o : Option (List ℕ)). if is_named name o then Some x else file_named files name) is) ∙ e)
      where
        by : (b : Bool) → bytes_eq found name ≡ b → (if b then Some x else file_named files name) ≡ Some c → this_name c ≡ Some name
        by true same e = ap this_name (sym (same_Some x c e)) ∙ is ∙ ap Some ((bytes_eq-Decides found name).0 same)
        by false other e = later e

module _ (a : FirstAspect) where
  pub classes_found : (name : List ℕ) → name ≢ a.name → (cs ws : List ClassFile) → AllZip (IsCarriedClass a) cs ws → BothOrNone (IsCarriedClass a) (file_named cs name) (file_named (ws ++ aspect_class a ∷ []) name)
  classes_found name apart [] [] all =
      let other : is_named name (Some a.name) ≡ false = not_named name (Some a.name) (λ same. apart (sym (same_Some a.name name same))) in
      subst (λ (b : Bool). BothOrNone (IsCarriedClass a) None (if b then Some (aspect_class a) else None)) (sym other) tt
  classes_found name apart [] (w ∷ ws) all = absurd all
  classes_found name apart (c ∷ cs) [] all = absurd all
  classes_found name apart (c ∷ cs) (w ∷ ws) all =
      let x = all.0 in
      subst₂ (λ (o o' : Option (List ℕ)). BothOrNone (IsCarriedClass a) (if is_named name o then Some c else file_named cs name) (if is_named name o' then Some w else file_named (ws ++ aspect_class a ∷ []) name))
      (sym x.named) (sym x.named')
      (choice (IsCarriedClass a) (bytes_eq x.own name) c w _ _ x (classes_found name apart cs ws all.1))

  -- no written class has the aspect's name
  pub written_named : (cs ws : List ClassFile) → AllZip (IsCarriedClass a) cs ws → NoneNamed a.name ws
  written_named [] [] all = tt
  written_named [] (w ∷ ws) all = absurd all
  written_named (c ∷ cs) [] all = absurd all
  written_named (c ∷ cs) (w ∷ ws) all =
      let x = all.0 in ((λ same. x.apart (same_Some x.own a.name (sym x.named' ∙ same))), written_named cs ws all.1)

  pub aspect_not_named : (cs ws : List ClassFile) → AllZip (IsCarriedClass a) cs ws → file_named cs a.name ≡ None
  aspect_not_named [] [] all = refl
  aspect_not_named [] (w ∷ ws) all = absurd all
  aspect_not_named (c ∷ cs) [] all = absurd all
  aspect_not_named (c ∷ cs) (w ∷ ws) all =
      let x = all.0 in
      ap (λ (b : Bool). if b then Some c else file_named cs a.name) (not_named a.name (this_name c) (λ same. x.apart (same_Some x.own a.name (sym x.named ∙ same))))
      ∙ aspect_not_named cs ws all.1
