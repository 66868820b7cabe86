-- The file of the class that declares a method.
use Rattle.std.specs.Prelude.{◌≡◌, ℕ, ◌+◌, ◌<◌, ◌++◌, Bool, true, IsTrue, map, List, [], length, slice_get, Option, Some, None, refl}
use Rattle.std.specs.List.{AllByRecursion}
use Rattle.std.specs.Option.{unwrap_or}
use Rattle.std.specs.Str.{bytes_eq}
use Rattle.std.proofs.Common.{sym, ap, ◌∙◌, arith}
use Rattle.std.proofs.lemmas.Bool.{false≢true}
use Rattle.class_file.specs.declared.types.ClassFile.{ClassFile}
use Rattle.class_file.specs.Pool.{this_name}
use Rattle.class_file.specs.Sound.{is_some_that}
use Rattle.class_file.specs.Text.{is_class_name}
use Rattle.class_file.specs.WellFormed.{is_well_formed}
use Rattle.class_heads.specs.Heads.{head_of}
use Rattle.class_heads.specs.declared.types.ClassHead.{ClassHead}
use Rattle.class_heads.specs.Hierarchy.{is_named, name_at, place_of}
use Rattle.class_world.specs.Tables.{Known}
use Rattle.class_machine.specs.Classes.{Method}
use Rattle.class_machine.specs.ClassFiles as machine
use Rattle.class_machine.specs.ClassFiles.{file_named}
use Rattle.machine_code.proofs.ByNames.{find_by_position}
use Rattle.machine_code.proofs.Formed.{formed_at, names_itself}
use Rattle.machine_steps.specs.Programs.{IsRunnable}

bytes_named : (name : List ℕ) (test : List ℕ → Bool) (o : Option (List ℕ)) → is_some_that test o ≡ true → machine.is_named name o ≡ bytes_eq (unwrap_or o []) name
bytes_named name test None there = absurd (false≢true there)
bytes_named name test (Some found) there = refl

file_found : (files : List ClassFile) (library : List ClassHead) (name : List ℕ) (place : ℕ) → AllByRecursion (λ c. IsTrue (is_well_formed c)) files → place_of (map head_of files ++ library) name ≡ Some place
    → file_named files name ≡ slice_get files place
file_found files library name place formed at =
    find_by_position head_of (is_named name) (λ (c : ClassFile). machine.is_named name (this_name c)) files library 0 place
    (λ i c is. bytes_named name is_class_name (this_name c) (names_itself c (formed_at files i c formed is)))
    (at ∙ ap Some (let e : place ≡ 0 + place = omega arith in e))

-- the class at a place goes by its name among the files
pub file_there : (k : Known) (class : ℕ) (m : Method) → IsRunnable k → class < length k.heads → name_at k.heads class ≡ m.name.class → file_named k.files m.name.class ≡ slice_get k.files class
file_there k class m runnable within named =
    let placed : place_of k.heads m.name.class ≡ Some class = ap (place_of k.heads) (sym named) ∙ runnable.program.different class within in
    file_found k.files runnable.program.library m.name.class class runnable.program.formed (ap (λ (h : List ClassHead). place_of h m.name.class) (sym runnable.program.given) ∙ placed)
