use Rattle.std.proofs.Common.{◌≡◌, ℕ, List, Option, Some, Result, Ok, Err, sym, ◌∙◌}
use Rattle.std.specs.Prelude.{IfOk}
use Rattle.std.proofs.lemmas.Option.{same_Some, none-some}
use Rattle.jp_model.specs.declared.first_aspect.FirstAspect.{FirstAspect}
use Rattle.jp_model.specs.AspectText.{SpellsAspect}
use Rattle.aspect_form.specs.declared.fault.AspectFault.{AspectFault}
use Rattle.aspect_form.specs.declared.fault.AspectFault.TheVariants.{NotBuilt, Memory}
use Rattle.aspect_form.specs.Answer.{Gives, IsReadAs}
use Rattle.aspect_form.specs.Reading.{aspect_at}
use Rattle.aspect_form.proofs.FormLaws.{aspect_takes, aspect_again}
use Rattle.aspect_form.proofs.form.read_aspect.Goals as goal

spelled_where_found : (bytes : List ℕ) (r : Result FirstAspect AspectFault) → Gives r (aspect_at bytes) → IfOk r (SpellsAspect bytes)
spelled_where_found bytes (Ok a) g = aspect_takes bytes a g
spelled_where_found bytes (Err f) g = tt

found_where_spelled : (found : Option FirstAspect) (a : FirstAspect) (r : Result FirstAspect AspectFault) → found ≡ Some a → Gives r found → IsReadAs r a
found_where_spelled found a (Ok b) e g = same_Some b a (sym g ∙ e)
found_where_spelled found a (Err NotBuilt) e g = none-some a (sym g ∙ e)
found_where_spelled found a (Err Memory) e g = tt

pub returns-clause-found : goal.returns-clause-found
returns-clause-found c = spelled_where_found c.args.text.now c.aspect_of.result c.aspect_of.ensures

pub returns-clause-only : goal.returns-clause-only
returns-clause-only c a s = found_where_spelled (aspect_at c.args.text.now) a c.aspect_of.result (aspect_again c.args.text.now a s) c.aspect_of.ensures
