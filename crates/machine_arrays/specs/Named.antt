-- Types by their names.
use Rattle.std.specs.Prelude.{ℕ, Bool, List}
use Rattle.class_world.specs.Tables.{Known}
use Rattle.machine_invocations.specs.Methods.{classes_in}

-- the class, or the class of an array type's elements, is there
abbrev pub knows : Known → List ℕ → Bool
knows k class = (classes_in k).knows class
