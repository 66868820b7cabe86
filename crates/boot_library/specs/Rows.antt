-- A row of the code's table, as the class that it stands for.
use Rattle.std.specs.Prelude.{List, map}
use Rattle.std.specs.Option.{option_copied}
use Rattle.boot_library.specs.declared.table.ClassKind.{ClassKind}
use Rattle.boot_library.specs.declared.table.ClassKind.TheVariants as kinds
use Rattle.boot_library.specs.declared.table.MethodRow.{MethodRow}
use Rattle.boot_library.specs.declared.table.MethodRow.TheVariants.{Instance, Static, Native}
use Rattle.boot_library.specs.declared.table.FieldRow.{FieldRow}
use Rattle.boot_library.specs.declared.table.ClassRow.{ClassRow}
use Rattle.boot_library.specs.declared.table.ExceptionRow.{ExceptionRow}
use Rattle.boot_library.specs.Library.{LibraryMethod, LibraryField, LibraryClass, Kind, Class, Final, Interface, instance, static, native, exception}

abbrev pub kind_of : ClassKind → Kind
kind_of kinds.Class = Class
kind_of kinds.Final = Final
kind_of kinds.Interface = Interface

abbrev pub method_of : MethodRow → LibraryMethod
method_of (Instance name descriptor rule) = instance name.now descriptor.now rule
method_of (Static name descriptor rule) = static name.now descriptor.now rule
method_of (Native name descriptor) = native name.now descriptor.now

abbrev pub methods_of : List MethodRow → List LibraryMethod
methods_of rows = map method_of rows

abbrev pub field_of : FieldRow → LibraryField
field_of row = record { name = row.0.now; descriptor = row.1.now }

abbrev pub fields_of : List FieldRow → List LibraryField
fields_of rows = map field_of rows

abbrev pub class_of : ClassRow → LibraryClass
class_of row = record { name = row.name.now; kind = kind_of row.kind; super_class = option_copied row.super_class; fields = fields_of row.fields.now; methods = methods_of row.methods.now }

abbrev pub exception_of : ExceptionRow → LibraryClass
exception_of row = exception row.0.now row.1.now

abbrev pub classes_of : List ClassRow → List LibraryClass
classes_of rows = map class_of rows

abbrev pub exceptions_of : List ExceptionRow → List LibraryClass
exceptions_of rows = map exception_of rows
