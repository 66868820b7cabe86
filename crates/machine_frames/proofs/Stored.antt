-- What locals stand for is read and written where they are.
use Rattle.std.proofs.Common.{◌≡◌, ℕ, ◌+◌, ◌≤◌, Bool, true, false, if◌then◌else◌, List, length, Option, Some, None, nat_le, sym, ◌∙◌, ap, subst}
use Rattle.std.specs.Prelude.{slice_set}
use Rattle.std.proofs.lemmas.Bool.{le-leb}
use Rattle.std.proofs.lemmas.List.{length-map, map-set}
use Rattle.class_machine.specs.Values as machine
use Rattle.class_machine.specs.ClassFiles.{Place}
use Rattle.class_machine.specs.Effect as definition
use Rattle.machine_values.specs.declared.values.Value.{Value}
use Rattle.machine_values.specs.declared.values.Local.{Local}
use Rattle.machine_values.specs.declared.values.Local.TheVariants.{Holds, Second}
use Rattle.machine_values.specs.Stacks as stacks
use Rattle.machine_frames.specs.Naming.{Naming, value, local, locals}
use Rattle.machine_frames.specs.Locals.{Writes}
use Rattle.machine_frames.proofs.Pushing.{is_wide-value, width-value}

-- ---- writes

length_locals : (n : Naming) (method : ℕ) (ls : List Local) → length (locals n method ls) ≡ length ls
length_locals n method ls = length-map ls (local n method)

set_as : (n : Naming) (method : ℕ) (ls : List Local) (i : ℕ) (l : Local) → slice_set (locals n method ls) i (local n method l) ≡ locals n method (slice_set ls i l)
set_as n method ls i l = sym (map-set (local n method) ls i l)

fits_as : (n : Naming) (method : ℕ) (ls : List Local) (i : ℕ) (v : Value) → nat_le (i + machine.width (value n method v)) (length (locals n method ls)) ≡ nat_le (i + stacks.width v) (length ls)
fits_as n method ls i v = ap (λ w. nat_le (i + w) (length (locals n method ls))) (width-value n method v) ∙ ap (nat_le (i + stacks.width v)) (length_locals n method ls)

abbrev chosen : List (machine.Local Place) → Bool → Option (List (machine.Local Place))
chosen set b = if b then Some set else None

-- the locals once the value is stored
abbrev pub stored : List Local → ℕ → Value → Bool → List Local
stored ls i v wide = if wide then slice_set (slice_set ls i (Holds v)) (i + 1) Second else slice_set ls i (Holds v)

abbrev stored_named : Naming → ℕ → List Local → ℕ → Value → Bool → List (machine.Local Place)
stored_named n method ls i v wide = if wide then slice_set (slice_set (locals n method ls) i (machine.Holds (value n method v))) (i + 1) machine.Second else slice_set (locals n method ls) i (machine.Holds (value n method v))

stored_as : (n : Naming) (method : ℕ) (ls : List Local) (i : ℕ) (v : Value) (wide : Bool) → stored_named n method ls i v wide ≡ locals n method (stored ls i v wide)
stored_as n method ls i v true = ap (λ l. slice_set l (i + 1) machine.Second) (set_as n method ls i (Holds v)) ∙ set_as n method (slice_set ls i (Holds v)) (i + 1) Second
stored_as n method ls i v false = set_as n method ls i (Holds v)

with_local-value : (n : Naming) (method : ℕ) (ls : List Local) (i : ℕ) (v : Value) → definition.with_local i (value n method v) (locals n method ls) ≡ locals n method (stored ls i v (stacks.is_wide v))
with_local-value n method ls i v = ap (stored_named n method ls i v) (is_wide-value n method v) ∙ stored_as n method ls i v (stacks.is_wide v)

pub writes : (ls : List Local) (i : ℕ) (v : Value) → i + stacks.width v ≤ length ls → Writes ls i v (stored ls i v (stacks.is_wide v))
writes ls i v h = λ n method.
    ap (chosen (definition.with_local i (value n method v) (locals n method ls))) (fits_as n method ls i v ∙ le-leb (i + stacks.width v) (length ls) h)
    ∙ ap Some (with_local-value n method ls i v)

pub writes_wide : (ls : List Local) (i : ℕ) (v : Value) → i + stacks.width v ≤ length ls → stacks.is_wide v ≡ true → Writes ls i v (slice_set (slice_set ls i (Holds v)) (i + 1) Second)
writes_wide ls i v h w = subst (Writes ls i v) (ap (stored ls i v) w) (writes ls i v h)

pub writes_narrow : (ls : List Local) (i : ℕ) (v : Value) → i + stacks.width v ≤ length ls → stacks.is_wide v ≡ false → Writes ls i v (slice_set ls i (Holds v))
writes_narrow ls i v h w = subst (Writes ls i v) (ap (stored ls i v) w) (writes ls i v h)
