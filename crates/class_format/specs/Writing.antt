-- The two halves of a class's spelling.
use Rattle.std.specs.Prelude.{Bool, ◌&&◌, List, ℕ, ◌++◌}
use Rattle.class_file.specs.declared.types.ClassFile.{ClassFile}
use Rattle.class_file.specs.Spelling.{magic, u2, spelled_pool, counted, spelled_member, spelled_attribute}
use Rattle.class_file.specs.Range.{counted_fits, is_u2, member_fits, attribute_fits}

-- up to the superclass
abbrev pub spelled_head : ClassFile → List ℕ
spelled_head c = magic ++ (u2 c.minor ++ (u2 c.major ++ (spelled_pool c.pool ++ (u2 c.flags.0 ++ (u2 c.this_class ++ u2 c.super_class)))))

-- the interfaces, members and attributes
abbrev pub spelled_body : ClassFile → List ℕ
spelled_body c = counted u2 c.interfaces ++ (counted spelled_member c.fields ++ (counted spelled_member c.methods ++ counted spelled_attribute c.attributes))

abbrev pub body_fits : ClassFile → Bool
body_fits c = counted_fits is_u2 c.interfaces && (counted_fits member_fits c.fields && (counted_fits member_fits c.methods && counted_fits attribute_fits c.attributes))
