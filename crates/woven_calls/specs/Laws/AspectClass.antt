-- What the class of the aspect does: its method prints the text and returns.
use Rattle.std.proofs.Common.{◌≡◌, ◌≢◌, ℕ, ◌==◌, Bool, true, false, nat_lt, nat_le, IsTrue, bytes_eq, List, [], ◌∷◌, ◌++◌, map, length, Option, Some, None, refl, sym, ap, ◌∙◌, option_and_then, arith, if◌then◌else◌}
use Rattle.std.specs.List.{find, list_all, AllByRecursion}
use Rattle.std.specs.Option.{option_map, unwrap_or}
use Rattle.std.proofs.lemmas.Bool.{and_parts, cond-true, false_from_ne_true, ltb-true, lt-ltb, eqb-true}
use Rattle.std.proofs.lemmas.List.{length-map}
use Rattle.std.proofs.lemmas.Slice.Eq.{bytes_eq-Decides}
use Rattle.opcode_table.specs.Decoding.{decoded}
use Rattle.opcode_table.specs.Table.{opcode}
use Rattle.class_file.specs.declared.types.ClassFile.{ClassFile}
use Rattle.class_file.specs.declared.types.CodeAttr.{CodeAttr}
use Rattle.class_file.specs.FirstForm.{is_printable, is_printable_text, is_identifier}
use Rattle.class_file.specs.Pool.{Reference, this_name}
use Rattle.class_heads.specs.Heads.{head_of, method_head}
use Rattle.class_heads.specs.Hierarchy.{is_array}
use Rattle.class_heads.specs.Hierarchy as heads
use Rattle.boot_library.specs.Heads.{library_heads}
use Rattle.class_machine.specs.Classes.{reference}
use Rattle.class_machine.specs.Texts.{units_of}
use Rattle.class_machine.specs.ClassFiles.{Place, MethodCode, place_in, is_named, file_named, code_declared, method_code, next_pc, line_at, entry_of, field_constant, class_code}
use Rattle.class_machine.specs.Run.{class_table}
use Rattle.jp_model.specs.declared.first_aspect.FirstAspect.{FirstAspect}
use Rattle.jp_model.specs.JoinPoints.{no_parameters}
use Rattle.woven_calls.specs.Woven.{advice_name, advice_code, aspect_pool, advice_method, aspect_class}
use Rattle.woven_calls.specs.Laws.Tables.{own_found, given_method}
use Rattle.woven_calls.specs.Laws.Turns.{Text, Output, Prints, Back, meaning}
use Rattle.woven_calls.specs.Laws.Carries.{Speaks}

-- ---- texts

small : (b : ℕ) → is_printable b ≡ true → nat_lt b 128 ≡ true
small b h =
    let parts = and_parts (nat_le 32 b) (nat_lt b 127) h in
    lt-ltb b 128 (let below = ltb-true b 127 parts.1 in omega arith)

-- a text of ASCII is its own units
pub units_same : (text : List ℕ) → IsTrue (is_printable_text text) → units_of text ≡ text
units_same [] h = refl
units_same (a ∷ []) h = refl
units_same (a ∷ b ∷ []) h = cond-true (nat_lt a 128) _ _ (small a (and_parts (is_printable a) (list_all is_printable (b ∷ [])) h).0)
units_same (a ∷ b ∷ c ∷ rest) h =
    let parts = and_parts (is_printable a) (list_all is_printable (b ∷ c ∷ rest)) h in
    cond-true (nat_lt a 128) _ _ (small a parts.0) ∙ ap (λ l. a ∷ l) (units_same (b ∷ c ∷ rest) parts.1)

-- ---- names

pub not_named : (name : List ℕ) (o : Option (List ℕ)) → o ≢ Some name → is_named name o ≡ false
not_named name None apart = refl
not_named name (Some other) apart = false_from_ne_true (bytes_eq other name) (λ same. apart (ap Some ((bytes_eq-Decides other name).0 same)))

pub own_named : (name : List ℕ) → is_named name (Some name) ≡ true
own_named name = (bytes_eq-Decides name name).1 refl

-- an identifier is no array type, and not empty
pub no_array : (name : List ℕ) → is_identifier name ≡ true → is_array name ≡ false
no_array [] h = refl
no_array (b ∷ bytes) h = go (b == 91) refl
  where
    go : (test : Bool) → (b == 91) ≡ test → test ≡ false
    go true e = let same : is_identifier (b ∷ bytes) ≡ is_identifier (91 ∷ bytes) = ap (λ (n : ℕ). is_identifier (n ∷ bytes)) (eqb-true b 91 e) in let apart : false ≡ true = sym same ∙ h in absurd cc
    go false e = refl

pub not_empty : (name : List ℕ) → is_identifier name ≡ true → bytes_eq [] name ≡ false
not_empty [] h = let apart : false ≡ true = h in absurd cc
not_empty (b ∷ bytes) h = refl

-- ---- the method

abbrev pub advice_reference : FirstAspect → Reference
advice_reference a = reference a.name advice_name no_parameters

abbrev pub advice_attr : CodeAttr
advice_attr = record { max_stack = 2; max_locals = 0; code = advice_code; entries = []; attributes = [] }

abbrev pub the_advice : FirstAspect → MethodCode
the_advice a = record { pool = aspect_pool a; code = advice_attr }

-- no class has the name
abbrev pub NoneNamed : List ℕ → List ClassFile → Type 0
NoneNamed name classes = AllByRecursion (λ c. this_name c ≢ Some name) classes

-- the search goes past classes of other names
pub past : (front rest : List ClassFile) (name : List ℕ) → NoneNamed name front → file_named (front ++ rest) name ≡ file_named rest name
past [] rest name others = refl
past (c ∷ front) rest name others =
    ap (λ (b : Bool). if b then Some c else file_named (front ++ rest) name) (not_named name (this_name c) others.0) ∙ past front rest name others.1

-- a class file's head is found as the file is
pub head_found : (files : List ClassFile) (name : List ℕ) (c : ClassFile) → bytes_eq [] name ≡ false → file_named files name ≡ Some c → find (heads.is_named name) (map head_of files) ≡ Some (head_of c)
head_found [] name c some e = absurd cc
head_found (x ∷ files) name c some e = by (head_found files name c some) (is_named name (this_name x)) refl e
  where
    named_alike : (o : Option (List ℕ)) → bytes_eq (unwrap_or o []) name ≡ is_named name o
    named_alike None = some
    named_alike (Some found) = refl

    by : (file_named files name ≡ Some c → find (heads.is_named name) (map head_of files) ≡ Some (head_of c)) → (b : Bool) → is_named name (this_name x) ≡ b → (if b then Some x else file_named files name) ≡ Some c → find (heads.is_named name) (map head_of (x ∷ files)) ≡ Some (head_of c)
    by later true same e = ap (λ (b : Bool). if b then Some (head_of x) else find (heads.is_named name) (map head_of files)) (named_alike (this_name x) ∙ same) ∙ ap (option_map head_of) e
    by later false other e = ap (λ (b : Bool). if b then Some (head_of x) else find (heads.is_named name) (map head_of files)) (named_alike (this_name x) ∙ other) ∙ later e

module _ (woven : List ClassFile) (a : FirstAspect) (apart : NoneNamed a.name woven) where
  abbrev classes : List ClassFile
  classes = woven ++ aspect_class a ∷ []

  aspect_named : file_named classes a.name ≡ Some (aspect_class a)
  aspect_named = past woven (aspect_class a ∷ []) a.name apart ∙ ap (λ (b : Bool). if b then Some (aspect_class a) else None) (own_named a.name)

  advice_declared : code_declared (advice_reference a).member (aspect_class a) ≡ Some (the_advice a)
  advice_declared = refl

  advice_found : method_code classes (advice_reference a) ≡ Some (the_advice a)
  advice_found = ap (option_and_then (code_declared (advice_reference a).member)) aspect_named ∙ advice_declared

  -- the search for it finds it
  advice_called : is_identifier a.name ≡ true → (class_table classes).method (advice_reference a) ≡ Some (own_found (advice_reference a) false)
  advice_called identifier =
      given_method (map head_of classes) library_heads (length classes) (sym (length-map classes head_of)) (field_constant classes) (advice_reference a) (head_of (aspect_class a)) (method_head (aspect_pool a) advice_method)
      (no_array a.name identifier) (head_found classes a.name (aspect_class a) (not_empty a.name identifier) aspect_named) refl

  abbrev at_pc : ℕ → Place
  at_pc pc = place_in (advice_reference a) pc

  line_of : (pc : ℕ) → (class_code classes).line (at_pc pc) ≡ line_at pc (the_advice a)
  line_of pc = ap (option_and_then (line_at pc)) advice_found

  next_of : (pc n : ℕ) → next_pc pc (Some (the_advice a)) ≡ n → (class_code classes).next (at_pc pc) ≡ at_pc n
  next_of pc n e = ap (λ (o : Option MethodCode). at_pc (next_pc pc o)) advice_found ∙ ap at_pc e

  line_0 : line_at 0 (the_advice a) ≡ Some (meaning Output)
  unfolding decoded opcode
  line_0 = refl

  line_3 : line_at 3 (the_advice a) ≡ Some (meaning (Text (units_of a.text)))
  unfolding decoded opcode
  line_3 = refl

  line_5 : line_at 5 (the_advice a) ≡ Some (meaning Prints)
  unfolding decoded opcode
  line_5 = refl

  line_8 : line_at 8 (the_advice a) ≡ Some (meaning Back)
  unfolding decoded opcode
  line_8 = refl

  next_0 : (class_code classes).next (at_pc 0) ≡ at_pc 3
  unfolding decoded opcode
  next_0 = next_of 0 3 refl

  next_3 : (class_code classes).next (at_pc 3) ≡ at_pc 5
  unfolding decoded opcode
  next_3 = next_of 3 5 refl

  next_5 : (class_code classes).next (at_pc 5) ≡ at_pc 8
  unfolding decoded opcode
  next_5 = next_of 5 8 refl

  pub speaks : (At : Place → Place → Type 0) (before : List ClassFile) → IsTrue (is_printable_text a.text) → IsTrue (is_identifier a.name) → Speaks At (class_code before) (class_code classes) (class_table before) (class_table classes) (advice_reference a) a.text
  speaks At before printable identifier =
      let next = (class_code classes).next in
      let line = (class_code classes).line in
      let second : next (next (at_pc 0)) ≡ at_pc 5 = ap next next_0 ∙ next_3 in
      let third : next (next (next (at_pc 0))) ≡ at_pc 8 = ap next second ∙ next_5 in
      record {
        start = at_pc 0;
        found = advice_called identifier;
        entry = ap (option_map (entry_of (advice_reference a))) advice_found;
        parameters = refl;
        result = refl;
        out = line_of 0 ∙ line_0;
        constant = ap line next_0 ∙ line_of 3 ∙ line_3 ∙ ap (λ t. Some (meaning (Text t))) (units_same a.text printable);
        print = ap line second ∙ line_of 5 ∙ line_5;
        back = ap line third ∙ line_of 8 ∙ line_8;
      }
