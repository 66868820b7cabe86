-- The setting of a machine of a world, and the classes of its own exceptions there.
use Rattle.std.specs.Prelude.{◌≡◌, ℕ, false, refl}
use Rattle.std.proofs.Common.{◌∙◌, ap}
use Rattle.class_heads.specs.Hierarchy.{name_at}
use Rattle.class_world.specs.Tables.{Known}
use Rattle.class_machine.specs.declared.kinds.Fault.{Fault}
use Rattle.class_machine.specs.Classes.{fault_class}
use Rattle.class_machine.specs.World.{is_text_class}
use Rattle.machine_fields.specs.NewObjects.{IsSettingOf}
use Rattle.machine_steps.specs.Programs.{Machine, IsMachine}

pub setting_of : (k : Known) (m : Machine) → IsMachine k m → IsSettingOf k m.setting
setting_of k m is = record { heads = is.heads; classes = is.classes; distinct = is.distinct }

textless : (fault : Fault) → is_text_class (fault_class fault) ≡ false
textless Fault.NullPointer = refl
textless Fault.Arithmetic = refl
textless Fault.NegativeArraySize = refl
textless Fault.ArrayIndex = refl
textless Fault.ArrayStore = refl
textless Fault.ClassCast = refl
textless Fault.IllegalMonitorState = refl
textless Fault.StringIndex = refl

pub no_text : (k : Known) (fault : Fault) (class : ℕ) → name_at k.heads class ≡ fault_class fault → is_text_class (name_at k.heads class) ≡ false
no_text k fault class named = ap is_text_class named ∙ textless fault
