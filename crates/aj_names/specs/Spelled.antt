-- Types whose class names still stand in the text that is read.
use Rattle.aj_names.specs.declared.types.Base.{Base}
use Rattle.aj_names.specs.declared.types.Base.TheVariants as bases
use Rattle.aj_names.specs.declared.types.FieldType.{FieldType}
use Rattle.aj_names.specs.declared.descriptors.SpelledBase.{SpelledBase}
use Rattle.aj_names.specs.declared.descriptors.SpelledBase.TheVariants.{Boolean, Byte, Char, Short, Int, Long, Float, Double, Class}
use Rattle.aj_names.specs.declared.descriptors.SpelledType.{SpelledType}

abbrev pub base_of : SpelledBase → Base
base_of Boolean = bases.Boolean
base_of Byte = bases.Byte
base_of Char = bases.Char
base_of Short = bases.Short
base_of Int = bases.Int
base_of Long = bases.Long
base_of Float = bases.Float
base_of Double = bases.Double
base_of (Class name) = bases.Class name.now

abbrev pub type_of : SpelledType → FieldType
type_of t = record { base = base_of t.base; dims = t.dims }
