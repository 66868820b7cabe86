-- The marks say where the advice applies.
use Rattle.std.proofs.Common.{◌≡◌, ℕ, zero, suc, Bool, true, false, eqb, not, ◌&&◌, ◌||◌, List, [], ◌∷◌, Option, Some, None, map, get_or, refl, sym, ap, subst, ◌∙◌}
use Rattle.std.specs.Prelude.{slice_get, option_and_then, codes}
use Rattle.std.specs.Option.{option_map}
use Rattle.std.specs.Str.{bytes_eq}
use Rattle.std.proofs.lemmas.Bool.{eqb-true, and_parts, and_right, false_from_ne_true}
use Rattle.std.proofs.lemmas.Slice.Eq.{bytes_eq-Decides}
use Rattle.opcode_table.specs.declared.insn.Insn.{Insn}
use Rattle.opcode_table.specs.declared.insn.Insn.TheVariants as insn
use Rattle.class_file.specs.declared.pool.PoolEntry.{PoolEntry}
use Rattle.class_file.specs.declared.pool.PoolEntry.TheVariants as entry
use Rattle.class_file.specs.FirstForm.{is_identifier, is_println, is_own_method, is_form_operand, is_form_insn}
use Rattle.class_file.specs.Pool.{Reference, entry_at, text_at, as_method, method_at, field_at}
use Rattle.class_file.specs.Sound.{is_some_that}
use Rattle.class_machine.specs.declared.kinds.Access.{Access}
use Rattle.class_machine.specs.declared.kinds.Mode.{Mode}
use Rattle.class_machine.specs.Values.{Literal}
use Rattle.class_machine.specs.Classes.{is_constructor}
use Rattle.class_machine.specs.Texts.{units_of}
use Rattle.class_machine.specs.Operations.{Operation, Refer, ReferClass, FieldAccess, Invoke}
use Rattle.class_machine.specs.ClassFiles.{constant_operation}
use Rattle.jp_model.specs.declared.first_aspect.FirstAspect.{FirstAspect}
use Rattle.jp_model.specs.Aspects.{Aspect}
use Rattle.jp_model.specs.AspectText.{aspect_of}
use Rattle.jp_model.specs.JoinPoints.{no_parameters, matches, chain_of}
use Rattle.woven_calls.specs.Woven.{is_empty, is_unadvised}
use Rattle.before_weave.specs.Marks.{pattern_of, is_match, marks_of, is_marked, is_advised}

-- ---- marks

mark_at : {X : Type 0} (f : X → Bool) (xs : List X) (p : ℕ) (g : X → Option Reference) (test : Reference → Bool) → ((x : X) → f x ≡ is_some_that test (g x))
    → get_or (map f xs) p false ≡ is_some_that test (option_and_then g (slice_get xs p))
mark_at f [] p g test h = refl
mark_at f (x ∷ xs) zero g test h = h x
mark_at f (x ∷ xs) (suc p) g test h = mark_at f xs p g test h

pub marked_is : (pool : List PoolEntry) (a : FirstAspect) (index : ℕ) → is_marked (marks_of pool a) index ≡ is_some_that (matches (pattern_of a)) (method_at pool index)
marked_is pool a zero = refl
marked_is pool a (suc place) = mark_at (is_match pool a) pool place (as_method pool) (matches (pattern_of a)) (λ x. refl)

-- ---- what each kind of instruction has as its chain

module _ (a : FirstAspect) where
  abbrev aspects : List Aspect
  aspects = aspect_of a ∷ []

  abbrev is_free : Option Operation → Bool
  is_free o = is_empty (chain_of aspects o)

  free_text : (o : Option (List ℕ)) → is_free (option_map (λ bytes. Refer (Literal (units_of bytes))) o) ≡ true
  free_text None = refl
  free_text (Some text) = refl

  free_class : (o : Option (List ℕ)) → is_free (option_map ReferClass o) ≡ true
  free_class None = refl
  free_class (Some class) = refl

  free_constant : (pool : List PoolEntry) (e : PoolEntry) → is_free (constant_operation pool e) ≡ true
  free_constant pool (entry.String text) = free_text (text_at pool text)
  free_constant pool (entry.Class name) = free_class (text_at pool name)
  free_constant pool (entry.Integer n) = refl
  free_constant pool (entry.Float bits) = refl
  free_constant pool (entry.Long n) = refl
  free_constant pool (entry.Double bits) = refl
  free_constant pool _ = refl

  free_loaded : (pool : List PoolEntry) (o : Option PoolEntry) → is_free (option_and_then (constant_operation pool) o) ≡ true
  free_loaded pool None = refl
  free_loaded pool (Some e) = free_constant pool e

  free_field : (o : Option Reference) → is_free (option_map (FieldAccess Access.GetStatic) o) ≡ true
  free_field None = refl
  free_field (Some field) = refl

  -- a method of another descriptor does not match
  other_descriptor : (r : Reference) → bytes_eq r.member.descriptor no_parameters ≡ false → matches (pattern_of a) r ≡ false
  other_descriptor r e =
      and_right (bytes_eq r.class a.class) (bytes_eq r.member.name a.method && bytes_eq r.member.descriptor no_parameters)
      (and_right (bytes_eq r.member.name a.method) (bytes_eq r.member.descriptor no_parameters) e)

  chosen : (mode : Mode) (b : Bool) (r : Reference) → is_constructor r ≡ false → matches (pattern_of a) r ≡ b → is_free (Some (Invoke mode r)) ≡ not b
  chosen mode true r other e = rw (other, e) refl
  chosen mode false r other e = rw (other, e) refl

  free_println : (o : Option Reference) → is_some_that is_println o ≡ true → is_free (option_map (Invoke Mode.Virtual) o) ≡ true
  free_println None h = let apart : false ≡ true = h in absurd cc
  free_println (Some r) h =
      let outer = and_parts (bytes_eq r.class (codes "java/io/PrintStream")) (bytes_eq r.member.name (codes "println") && bytes_eq r.member.descriptor (codes "(Ljava/lang/String;)V")) h in
      let inner = and_parts (bytes_eq r.member.name (codes "println")) (bytes_eq r.member.descriptor (codes "(Ljava/lang/String;)V")) outer.1 in
      let named : r.member.name ≡ codes "println" = (bytes_eq-Decides r.member.name (codes "println")).0 inner.0 in
      let typed : r.member.descriptor ≡ codes "(Ljava/lang/String;)V" = (bytes_eq-Decides r.member.descriptor (codes "(Ljava/lang/String;)V")).0 inner.1 in
      chosen Mode.Virtual false r (ap (λ (n : List ℕ). bytes_eq n (codes "<init>")) named) (other_descriptor r (ap (λ (t : List ℕ). bytes_eq t no_parameters) typed))

  -- ---- an instruction of the form

  module _ (pool : List PoolEntry) (code : List ℕ) (own : List ℕ) (names : List (List ℕ)) (named : (r : Reference) → is_own_method own names r ≡ true → is_identifier r.member.name ≡ true) where
    abbrev Agrees : Insn → Type 0
    Agrees i = is_unadvised pool code a i ≡ not (is_advised (marks_of pool a) i)

    agrees_static : (index : ℕ) (o : Option Reference) → method_at pool index ≡ o → is_some_that (is_own_method own names) o ≡ true → Agrees (insn.Pool 184 index)
    agrees_static index None e h = let apart : false ≡ true = h in absurd cc
    agrees_static index (Some r) e h =
        let other : is_constructor r ≡ false =
        false_from_ne_true (is_constructor r) (λ same. let apart : true ≡ false = sym (named r h) ∙ ap is_identifier ((bytes_eq-Decides r.member.name (codes "<init>")).0 same) in absurd cc) in
        ap (λ (o : Option Reference). is_free (option_map (Invoke Mode.Static) o)) e
        ∙ chosen Mode.Static (matches (pattern_of a) r) r other refl
        ∙ ap not (sym (marked_is pool a index ∙ ap (is_some_that (matches (pattern_of a))) e))

    known_as : (op n index : ℕ) → eqb op n ≡ true → Agrees (insn.Pool n index) → Agrees (insn.Pool op index)
    known_as op n index is agrees = subst (λ (k : ℕ). Agrees (insn.Pool k index)) (sym (eqb-true op n is)) agrees

    choice_agrees : (op index : ℕ) (x y z v : Bool) → eqb op 18 ≡ x → eqb op 178 ≡ y → eqb op 182 ≡ z → eqb op 184 ≡ v → is_form_operand pool own names op index ≡ true → Agrees (insn.Pool op index)
    choice_agrees op index true y z v e f g i h = known_as op 18 index e (free_loaded pool (entry_at pool index))
    choice_agrees op index false true z v e f g i h = known_as op 178 index f (free_field (field_at pool index))
    choice_agrees op index false false true v e f g i h =
        known_as op 182 index g (free_println (method_at pool index) (subst (λ (k : ℕ). is_form_operand pool own names k index ≡ true) (eqb-true op 182 g) h))
    choice_agrees op index false false false true e f g i h =
        known_as op 184 index i (agrees_static index (method_at pool index) refl (subst (λ (k : ℕ). is_form_operand pool own names k index ≡ true) (eqb-true op 184 i) h))
    choice_agrees op index false false false false e f g i h = let apart : false ≡ true = sym (none e f g i) ∙ h in absurd cc
      where
        none : eqb op 18 ≡ false → eqb op 178 ≡ false → eqb op 182 ≡ false → eqb op 184 ≡ false → is_form_operand pool own names op index ≡ false
        none e f g i = rw (e, f, g, i) refl

    plain_as : (op n : ℕ) → eqb op n ≡ true → Agrees (insn.Plain n) → Agrees (insn.Plain op)
    plain_as op n is agrees = subst (λ (k : ℕ). Agrees (insn.Plain k)) (sym (eqb-true op n is)) agrees

    plain_agrees : (op : ℕ) (x y : Bool) → eqb op 0 ≡ x → eqb op 177 ≡ y → (x || y) ≡ true → Agrees (insn.Plain op)
    plain_agrees op true y e f h = plain_as op 0 e refl
    plain_agrees op false true e f h = plain_as op 177 f refl
    plain_agrees op false false e f h = let apart : false ≡ true = h in absurd cc

    -- the advice applies at the marked calls and nowhere else
    pub agrees : (i : Insn) → is_form_insn pool own names i ≡ true → Agrees i
    agrees (insn.Pool op index) h = choice_agrees op index (eqb op 18) (eqb op 178) (eqb op 182) (eqb op 184) refl refl refl refl h
    agrees (insn.Plain op) h = plain_agrees op (eqb op 0) (eqb op 177) refl refl h
    agrees _ h = let apart : false ≡ true = h in absurd cc
