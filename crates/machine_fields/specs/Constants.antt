-- What the fields of class files hold from the start.
use Rattle.std.specs.Prelude.{◌≡◌, ℕ, true, List, length, nat_lt, slice_get, Some}
use Rattle.class_file.specs.Pool.{NamedType}
use Rattle.class_machine.specs.Values as machine
use Rattle.class_heads.specs.declared.types.FieldHead.{FieldHead}
use Rattle.class_heads.specs.declared.types.ClassHead.{ClassHead}
use Rattle.class_machine.specs.ClassFiles.{file_named}
use Rattle.class_machine.specs.Start.{output}
use Rattle.class_machine.specs.Texts.{units_of}
use Rattle.class_machine.specs.World.{World}
use Rattle.class_world.specs.Tables.{Known}
use Rattle.machine_values.specs.declared.values.Ref.{Ref}
use Rattle.machine_values.specs.declared.values.Value.{Value}
use Rattle.machine_values.specs.Standing.{name_of, held, Settled}
use Rattle.machine_values.specs.Things.{Things}
use Rattle.machine_requests.specs.Shares.{Setting, Others, Shares}
use Rattle.machine_fields.specs.declared.constants.Constant.{Constant}
use Rattle.machine_fields.specs.declared.constants.Constant.TheVariants.{Int, Long, Float, Double, Text}

abbrev pub constant_seen : Constant → machine.Held
constant_seen (Int n) = machine.Int n
constant_seen (Long n) = machine.Long n
constant_seen (Float bits) = machine.Float bits
constant_seen (Double bits) = machine.Double bits
constant_seen (Text bytes) = machine.Reference (machine.Literal (units_of bytes.now))

abbrev pub named_type : List ℕ → List ℕ → NamedType
named_type name descriptor = record { name = name; descriptor = descriptor }

-- ---- what static fields hold from the start

-- the value stands for the machine's, and the heap for the world
pub record IsHeld (s : Setting) (h : machine.Held) (things : Things) (others : Others) (w : World) (v : Value) : Type 0 where
  pub same : held s.heads things.names v ≡ h
  pub settled : Settled (length things.names) v
  pub shares : Shares s things others w

-- the field that stands at the position in the class, whose file goes by the class's name
pub record IsDeclared (known : Known) (place position : ℕ) (head : ClassHead) (field : FieldHead) : Type 0 where
  pub class : slice_get known.heads place ≡ Some head
  pub stands : slice_get head.fields position ≡ Some field
  pub file : file_named known.files head.name ≡ slice_get known.files place

-- the object of System.out
pub record IsOutput (known : Known) (things : Things) (at : Ref) : Type 0 where
  pub named : name_of known.heads things.names at ≡ output
  pub within : nat_lt at.0 (length things.names) ≡ true
