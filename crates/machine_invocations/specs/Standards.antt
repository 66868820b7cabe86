-- The machine of a world, by its parts.
use Rattle.std.specs.Prelude.{◌≡◌, ℕ, refl}
use Rattle.std.proofs.Common.{sym, ◌∙◌, ap, subst}
use Rattle.class_file.specs.declared.types.ClassFile.{ClassFile}
use Rattle.class_file.specs.Pool.{Reference}
use Rattle.class_heads.specs.declared.types.ClassHead.{ClassHead}
use Rattle.class_machine.specs.Classes.{Classes}
use Rattle.class_world.specs.Tables.{Known}
use Rattle.std.specs.Prelude.{List}
use Rattle.machine_requests.specs.Shares.{Setting}
use Rattle.machine_steps.specs.Programs.{Machine, IsMachine}
use Rattle.machine_invocations.specs.Methods.{classes_in}

-- what the fields and the methods of the world are called
abbrev pub machine_of : Known → (ℕ → Reference) → (ℕ → Reference) → Machine
machine_of k fields methods = record { files = k.files; setting = record { heads = k.heads; classes = classes_in k; field_names = fields }; methods = methods }

setting_is : (s t : Setting) → s.heads ≡ t.heads → s.classes ≡ t.classes → s.field_names ≡ t.field_names → s ≡ t
setting_is s t h c f =
    let one : s ≡ record { heads = t.heads; classes = s.classes; field_names = s.field_names } = ap (λ (x : List ClassHead). record { heads = x; classes = s.classes; field_names = s.field_names }) h in
    let two : record { heads = t.heads; classes = s.classes; field_names = s.field_names } ≡ record { heads = t.heads; classes = t.classes; field_names = s.field_names } = ap (λ (x : Classes). record { heads = t.heads; classes = x; field_names = s.field_names }) c in
    one ∙ two ∙ ap (λ (x : ℕ → Reference). record { heads = t.heads; classes = t.classes; field_names = x }) f

-- a machine of the world is this one
pub machine_is : (k : Known) (m : Machine) → IsMachine k m → machine_of k m.setting.field_names m.methods ≡ m
machine_is k m is =
    ap (λ (files : List ClassFile). record { files = files; setting = (machine_of k m.setting.field_names m.methods).setting; methods = m.methods }) (sym is.files)
    ∙ ap (λ (s : Setting). record { files = m.files; setting = s; methods = m.methods }) (setting_is ((machine_of k m.setting.field_names m.methods).setting) m.setting (sym is.heads) (sym is.classes) refl)

-- so what holds of this one holds of it
pub by_machine : (k : Known) (P : Machine → Type 0) (m : Machine) → ((fields methods : ℕ → Reference) → IsMachine k (machine_of k fields methods) → P (machine_of k fields methods)) → IsMachine k m → P m
by_machine k P m h is =
    let same = machine_is k m is in
    subst P same (h m.setting.field_names m.methods (subst (IsMachine k) (sym same) is))
