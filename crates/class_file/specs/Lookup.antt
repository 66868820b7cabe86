-- What references of the code stand for.
use Rattle.class_file.specs.declared.names.NamedType as lent
use Rattle.class_file.specs.declared.names.Reference as lent_reference
use Rattle.class_file.specs.Pool.{NamedType, Reference}

abbrev pub type_seen : lent.NamedType → NamedType
type_seen t = record { name = t.name.now; descriptor = t.descriptor.now }

abbrev pub reference_seen : lent_reference.Reference → Reference
reference_seen r = record { class = r.class.now; member = type_seen r.member }
