-- What a well-formed class has.
use Rattle.std.proofs.Common.{◌≡◌, ℕ, true, List, Option, Some, sym, subst}
use Rattle.std.specs.Prelude.{IsTrue}
use Rattle.std.proofs.lemmas.Bool.{and_parts}
use Rattle.class_file.specs.declared.types.ClassFile.{ClassFile}
use Rattle.class_file.specs.Pool.{this_name}
use Rattle.class_file.specs.Range.{is_writable}
use Rattle.class_file.specs.Sound.{is_some_that, pool_is_sound}
use Rattle.class_file.specs.Text.{is_name_text, is_class_name}
use Rattle.class_file.specs.WellFormed.{has_known_version, has_sound_names, has_sound_parts, is_well_formed}

-- its numbers fit their fields
pub is_writable_of : (c : ClassFile) → IsTrue (is_well_formed c) → IsTrue (is_writable c)
is_writable_of c h = (and_parts (is_writable c) _ h).0

-- it has the name of a class
pub is_named_of : (c : ClassFile) → IsTrue (is_well_formed c) → is_some_that is_class_name (this_name c) ≡ true
is_named_of c h =
    let v = and_parts (is_writable c) _ h in
    let p = and_parts (has_known_version c) _ v.1 in
    let n = and_parts (pool_is_sound c.pool) _ p.1 in
    let s = and_parts (has_sound_names c) (has_sound_parts c) n.1 in
    (and_parts (is_some_that is_class_name (this_name c)) _ s.0).0

named_text : (name : List ℕ) → is_class_name name ≡ true → IsTrue (is_name_text name)
named_text name h = (and_parts (is_name_text name) _ h).0

-- a class's name is a text of names
pub name_text : (c : ClassFile) (name : List ℕ) → IsTrue (is_well_formed c) → Some name ≡ this_name c → IsTrue (is_name_text name)
name_text c name h e = named_text name (subst (λ (o : Option (List ℕ)). is_some_that is_class_name o ≡ true) (sym e) (is_named_of c h))
