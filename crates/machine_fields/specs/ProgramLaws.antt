-- The classes of a program have names that tell them apart.
use Rattle.std.specs.Prelude.{◌≡◌, ℕ, zero, suc, ◌<◌, ◌&&◌, true, IsTrue, List, [], ◌∷◌, ◌++◌, map, length, Option, Some, None, refl}
use Rattle.std.specs.List.{AllByRecursion, list_all}
use Rattle.std.specs.Option.{unwrap_or}
use Rattle.std.proofs.Common.{sym, subst, arith}
use Rattle.std.proofs.lemmas.Bool.{and_parts, false≢true}
use Rattle.boot_library.specs.Heads.{library_heads}
use Rattle.class_file.specs.declared.types.ClassFile.{ClassFile}
use Rattle.class_file.specs.Pool.{this_name}
use Rattle.class_file.specs.Range.{is_writable}
use Rattle.class_file.specs.Sound.{is_some_that, pool_is_sound}
use Rattle.class_file.specs.Text.{is_class_name}
use Rattle.class_file.specs.WellFormed.{has_known_version, has_sound_names, has_sound_parts, is_well_formed}
use Rattle.class_heads.specs.declared.types.ClassHead.{ClassHead}
use Rattle.class_heads.specs.Heads.{head_of}
use Rattle.class_heads.specs.Hierarchy.{name_at, place_of}
use Rattle.class_machine.specs.Declarations.{run_heads}
use Rattle.machine_requests.specs.Telling.{is_plain, AreDistinct}
use Rattle.machine_requests.specs.TellingLaws.{class_name_plain}

-- a class file that is well-formed has a class's name
named_plain : (o : Option (List ℕ)) → is_some_that is_class_name o ≡ true → is_plain (unwrap_or o []) ≡ true
named_plain None h = absurd (false≢true h)
named_plain (Some name) h = class_name_plain name h

file_plain : (c : ClassFile) → is_well_formed c ≡ true → is_plain (head_of c).name ≡ true
file_plain c formed =
    let written = and_parts (is_writable c) (has_known_version c && (pool_is_sound c.pool && (has_sound_names c && has_sound_parts c))) formed in
    let version = and_parts (has_known_version c) (pool_is_sound c.pool && (has_sound_names c && has_sound_parts c)) written.1 in
    let pool = and_parts (pool_is_sound c.pool) (has_sound_names c && has_sound_parts c) version.1 in
    let names = and_parts (has_sound_names c) (has_sound_parts c) pool.1 in
    named_plain (this_name c) (and_parts (is_some_that is_class_name (this_name c)) _ names.0).0

abbrev ArePlain : List ClassHead → Type 0
ArePlain heads = (place : ℕ) → place < length heads → is_plain (name_at heads place) ≡ true

-- by computation
library_plain : list_all (λ c. is_plain c.name) library_heads ≡ true
library_plain = refl

all_plain : (heads : List ClassHead) → list_all (λ c. is_plain c.name) heads ≡ true → ArePlain heads
all_plain [] h place below = absurd (omega arith)
all_plain (c ∷ heads) h zero below = (and_parts (is_plain c.name) (list_all (λ d. is_plain d.name) heads) h).0
all_plain (c ∷ heads) h (suc place) below = all_plain heads (and_parts (is_plain c.name) (list_all (λ d. is_plain d.name) heads) h).1 place (omega arith)

given_plain : (files : List ClassFile) (library : List ClassHead) → AllByRecursion (λ c. IsTrue (is_well_formed c)) files → ArePlain library → ArePlain (map head_of files ++ library)
given_plain [] library formed plain place below = plain place below
given_plain (c ∷ files) library formed plain zero below = file_plain c formed.0
given_plain (c ∷ files) library formed plain (suc place) below = given_plain files library formed.1 plain place (omega arith)

-- well-formed files and the library behind them, where each class has a name of its own
pub program_is_distinct : (files : List ClassFile) (heads : List ClassHead) → heads ≡ run_heads (map head_of files) → ((place : ℕ) → place < length heads → place_of heads (name_at heads place) ≡ Some place)
    → AllByRecursion (λ c. IsTrue (is_well_formed c)) files → AreDistinct heads
program_is_distinct files heads is different formed = record {
  plain = subst ArePlain (sym is) (given_plain files library_heads formed (all_plain library_heads library_plain));
  different = different;
}
