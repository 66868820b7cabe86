-- Which values are of a kind.
use Rattle.std.specs.Prelude.{Bool, false}
use Rattle.class_machine.specs.declared.kinds.Kind.{Kind}
use Rattle.class_machine.specs.Values.{same_kind}
use Rattle.machine_values.specs.declared.values.Value.{Value}
use Rattle.machine_values.specs.declared.values.Value.TheVariants.{Int, Long, Float, Double, Null, Reference, Token, ReturnAddress}

-- a plain value of the kind
abbrev pub is_of : Kind → Value → Bool
is_of k (Int n) = same_kind k Kind.Int
is_of k (Long n) = same_kind k Kind.Long
is_of k (Float bits) = same_kind k Kind.Float
is_of k (Double bits) = same_kind k Kind.Double
is_of k Null = same_kind k Kind.Reference
is_of k (Reference at) = same_kind k Kind.Reference
is_of k (Token class number) = false
is_of k (ReturnAddress pc) = false
