-- Distinct places have distinct names.
use Rattle.std.proofs.Common.{◌≡◌, ℕ, true, ◌==◌, Some, sym}
use Rattle.std.proofs.lemmas.Bool.{ltb-true}
use Rattle.class_machine.specs.Values.{same_object}
use Rattle.machine_values.specs.declared.values.Ref.{Ref}
use Rattle.machine_values.specs.States.{is_known_object}
use Rattle.machine_frames.specs.Naming.{Naming, Faithful, reference}

pub same : (n : Naming) (count : ℕ) (a b : Ref) → Faithful n count → is_known_object count (Some a) ≡ true → is_known_object count (Some b) ≡ true
    → (a.0 == b.0) ≡ same_object (reference n (Some a)) (reference n (Some b))
same n count a b f h k = sym (f.tells_apart a b (ltb-true a.0 count h) (ltb-true b.0 count k))
