-- Names of classes and methods.
use Rattle.std.proofs.Common.{◌≡◌, false, true, sym, ap, subst, ◌∙◌}
use Rattle.std.proofs.lemmas.Bool.{false≢true}
use Rattle.aj_names.specs.ModifiedUtf8.{text_spelling}
use Rattle.aj_names.specs.Names.{IsClassName, IsMemberName}
use Rattle.run_lines.specs.Splits.{Text, has}
use Rattle.run_lines.specs.Texts.{AreUnits}
use Rattle.run_lines.specs.Names.{IsModified, slashed, IsDottedClass, IsMethodText}
use Rattle.run_lines.proofs.TextWords.{units_only}

pub modified_made : (units bytes text : Text) → AreUnits units text → bytes ≡ text_spelling units → IsModified bytes text
modified_made units bytes text are e = record { units = units; are_units = are; spelled = e }

pub modified_only : (bytes text : Text) → IsModified bytes text → (y : Text) → IsModified y text → y ≡ bytes
modified_only bytes text m y n = n.spelled ∙ ap text_spelling (units_only m.units n.units text m.are_units n.are_units) ∙ sym m.spelled

pub class_made : (text modified class : Text) → has 47 text ≡ false → IsModified modified text → class ≡ slashed modified → IsClassName class → IsDottedClass class text
class_made text modified class plain is same named = record { no_slash = plain; modified = modified; is_modified = is; same = same; is_name = named }

pub class_only : (text modified class : Text) → IsModified modified text → class ≡ slashed modified → (y : Text) → IsDottedClass y text → y ≡ class
class_only text modified class is same y d = d.same ∙ ap slashed (modified_only modified text is d.modified d.is_modified) ∙ sym same

pub no_class : (text modified class : Text) → IsModified modified text → class ≡ slashed modified → ¬ (IsClassName class) → (y : Text) → ¬ (IsDottedClass y text)
no_class text modified class is same none y d = none (subst IsClassName (class_only text modified class is same y d) d.is_name)

pub no_slashes : (text : Text) → has 47 text ≡ true → (y : Text) → ¬ (IsDottedClass y text)
no_slashes text h y d = false≢true (sym d.no_slash ∙ h)

pub method_only : (text method : Text) → IsModified method text → (y : Text) → IsMethodText y text → y ≡ method
method_only text method is y m = modified_only method text is y m.is_modified

pub no_method : (text method : Text) → IsModified method text → ¬ (IsMemberName method) → (y : Text) → ¬ (IsMethodText y text)
no_method text method is none y m = none (subst IsMemberName (method_only text method is y m) m.is_name)
