-- A class that is made from a text can be written.
use Rattle.std.specs.Prelude.{◌≡◌, true, IsTrue}
use Rattle.class_file.specs.declared.types.ClassFile.{ClassFile}
use Rattle.class_file.specs.Range.{is_writable}
use Rattle.class_file.specs.WellFormed.{is_well_formed}
use Rattle.class_file.specs.FirstFormLaws.{well_formed_is_writable}

pub writable : (c : ClassFile) → is_well_formed c ≡ true → IsTrue (is_writable c)
writable c h = well_formed_is_writable c h
