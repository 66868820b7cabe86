-- Which operation of the class machine an operation of this crate is, under a pool and in its code.
use Rattle.std.specs.Prelude.{ℕ, List, Option, Some}
use Rattle.std.specs.Option.{option_map}
use Rattle.class_file.specs.declared.pool.PoolEntry.{PoolEntry}
use Rattle.class_file.specs.Pool.{string_at, class_at, field_at}
use Rattle.class_machine.specs.Values.{Literal}
use Rattle.class_machine.specs.Texts.{units_of}
use Rattle.class_machine.specs.ClassFiles.{table_keys, pair_keys, invoked}
use Rattle.class_machine.specs.Operations as machine
use Rattle.machine_code.specs.declared.operation.KeyTable.{KeyTable}
use Rattle.machine_code.specs.declared.operation.KeyTable.TheVariants.{Range, Pairs}
use Rattle.machine_code.specs.declared.operation.Operation.{Operation}
use Rattle.machine_code.specs.declared.operation.Operation.TheVariants.{Do, Switch, Refer, ReferClass, FieldAccess, Invoke, New, NewReferenceArray, NewArrays, CheckCast, InstanceOf}

-- the keys of a switch in the code
abbrev pub keys_of : List ℕ → KeyTable → machine.Operation
keys_of code (Range table) = machine.Switch (table_keys code table)
keys_of code (Pairs table) = machine.Switch (pair_keys code table)

-- it is none where its index names nothing of the kind
abbrev pub seen : List PoolEntry → List ℕ → Operation → Option machine.Operation
seen pool code (Do basic) = Some (machine.Do basic)
seen pool code (Switch keys) = Some (keys_of code keys)
seen pool code (Refer index) = option_map (λ bytes. machine.Refer (Literal (units_of bytes))) (string_at pool index)
seen pool code (ReferClass index) = option_map machine.ReferClass (class_at pool index)
seen pool code (FieldAccess access index) = option_map (machine.FieldAccess access) (field_at pool index)
seen pool code (Invoke mode index) = option_map (machine.Invoke mode) (invoked pool index mode)
seen pool code (New index) = option_map machine.New (class_at pool index)
seen pool code (NewReferenceArray index) = option_map machine.NewReferenceArray (class_at pool index)
seen pool code (NewArrays index dims) = option_map (λ type. machine.NewArrays type dims) (class_at pool index)
seen pool code (CheckCast index) = option_map machine.CheckCast (class_at pool index)
seen pool code (InstanceOf index) = option_map machine.InstanceOf (class_at pool index)
