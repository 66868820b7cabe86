-- What a filling of tables comes to.
use Rattle.std.specs.Prelude.{ℕ, List}
use Rattle.class_world.specs.declared.tables.Tables.{Tables}
use Rattle.class_world.specs.declared.tables.Tables.TheVariants.{Whole, Stuck}
use Rattle.class_world.specs.Places.{IsTables, IsStuck}

abbrev pub TablesAre : List (List ℕ) → Tables → Type 0
TablesAre steps (Whole tables) = IsTables steps tables.items
TablesAre steps (Stuck places) = IsStuck steps places.items
