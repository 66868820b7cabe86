-- The instructions by their semantic forms, with what their operands and the constant pool say (JVMS 6). Where one jumps,
-- its code says.
use Rattle.std.specs.Prelude.{ℕ, List, ℤ}
use Rattle.class_file.specs.Pool.{Reference}
use Rattle.class_machine.specs.declared.kinds.Access.{Access}
use Rattle.class_machine.specs.declared.kinds.Mode.{Mode}
use Rattle.class_machine.specs.declared.meaning.Basic.{Basic}
use Rattle.class_machine.specs.Values.{Name}

pub data Operation : Type 0 where
  Do : (basic : Basic) → Operation
  -- `tableswitch` and `lookupswitch`: the key at place i of the list has target i + 1, and target 0 is the default's
  Switch : (keys : List ℤ) → Operation
  -- `ldc` of a String
  Refer : (a : Name) → Operation
  -- `ldc` of a class or array type
  ReferClass : (class : List ℕ) → Operation
  FieldAccess : (access : Access) (field : Reference) → Operation
  Invoke : (mode : Mode) (method : Reference) → Operation
  New : (class : List ℕ) → Operation
  -- `anewarray`, with the class or array type of the elements
  NewReferenceArray : (class : List ℕ) → Operation
  -- `multianewarray`, with the type of the array
  NewArrays : (type : List ℕ) (dims : ℕ) → Operation
  CheckCast : (class : List ℕ) → Operation
  InstanceOf : (class : List ℕ) → Operation
