-- The classes of the library in a world.
use Rattle.std.specs.Prelude.{◌≡◌, map}
use Rattle.class_heads.specs.Heads.{head_of}
use Rattle.class_world.specs.Tables.{Known}
use Rattle.class_machine.specs.Declarations.{run_heads}

-- they stand behind what was given
unfoldable pub HasLibrary : Known → Type 0
HasLibrary k = k.heads ≡ run_heads (map head_of k.files)
