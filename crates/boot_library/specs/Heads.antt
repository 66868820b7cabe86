-- The library's classes as heads. Their version is 46, the newest of this edition (JVMS 4.1), and they declare no
-- exception, no attribute and no interface.
use Rattle.std.specs.Prelude.{ℕ, false, if◌then◌else◌, List, [], map, is_none}
use Rattle.aj_names.specs.declared.types.MemberName.{MemberName}
use Rattle.class_file.specs.declared.access.AccessFlags.{AccessFlags}
use Rattle.class_heads.specs.declared.types.FieldHead.{FieldHead}
use Rattle.class_heads.specs.declared.types.MethodHead.{MethodHead}
use Rattle.class_heads.specs.declared.types.ClassHead.{ClassHead}
use Rattle.boot_library.specs.Library.{LibraryMethod, LibraryField, LibraryClass, Kind, Class, Final, Interface, library}

abbrev pub member : List ℕ → List ℕ → MemberName
member name descriptor = record { name = name; descriptor = descriptor }

abbrev pub flags : ℕ → AccessFlags
flags bits = record { 0 = bits }

-- public (0x0001), and final (0x0010), or an interface (0x0200) and abstract (0x0400) (JVMS 4.1)
abbrev pub class_flags : Kind → AccessFlags
class_flags Class = flags 0x0001
class_flags Final = flags 0x0011
class_flags Interface = flags 0x0601

-- public, static (0x0008) and final (JVMS 4.5)
abbrev pub field_head : LibraryField → FieldHead
field_head f = record { name = member f.name f.descriptor; flags = flags 0x0019; is_synthetic = false; has_constant = false }

-- public, or public and static, or these and native (0x0100) (JVMS 4.6)
abbrev pub method_flags : LibraryMethod → AccessFlags
method_flags m = if is_none m.rule then flags 0x0109 else (if m.is_static then flags 0x0009 else flags 0x0001)

abbrev pub method_head : LibraryMethod → MethodHead
method_head m = record { name = member m.name m.descriptor; flags = method_flags m; exceptions = []; is_synthetic = false }

abbrev pub class_head : LibraryClass → ClassHead
class_head c = record {
  name = c.name;
  version = 46;
  flags = class_flags c.kind;
  super_class = c.super_class;
  interfaces = [];
  fields = map field_head c.fields;
  methods = map method_head c.methods;
}

abbrev pub library_heads : List ClassHead
library_heads = map class_head library
