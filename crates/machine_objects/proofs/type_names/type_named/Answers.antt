use Rattle.machine_objects.proofs.Back.{if_ok}
use Rattle.machine_objects.proofs.TypeNames.{array_is_class}
use Rattle.machine_objects.proofs.type_names.type_named.Goals as goal

pub returns-then-is_array-clause-class : goal.returns-then-is_array-clause-class
returns-then-is_array-clause-class c = if_ok c.array_type.result _ _ (λ t array. array_is_class t array) c.array_type.ensures.array
