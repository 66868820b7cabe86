use Rattle.std.specs.Prelude.{◌||◌, Bool, Option, is_some}
use Rattle.std.proofs.Common.{sym, ◌∙◌, ap}
use Rattle.boot_library.specs.declared.rule.LibraryRule.{LibraryRule}
use Rattle.machine_invokes.proofs.choosing.is_frameless.Goals as goal

pub returns-then-is_native : goal.returns-then-is_native
returns-then-is_native c m sees = sym (ap (λ (b : Bool). b || is_some m.rule) (sym (c.is_native.ensures m sees) ∙ c.if-is_native.true))

pub returns-in-Some : goal.returns-in-Some
returns-in-Some c m sees =
    sym (ap (λ (b : Bool). b || is_some m.rule) (sym (c.is_native.ensures m sees) ∙ c.if-is_native.false) ∙ ap (λ (o : Option LibraryRule). is_some o) (sym (c.rule_of.ensures m sees) ∙ c.in-Some.is))

pub returns-in-None : goal.returns-in-None
returns-in-None c m sees =
    sym (ap (λ (b : Bool). b || is_some m.rule) (sym (c.is_native.ensures m sees) ∙ c.if-is_native.false) ∙ ap (λ (o : Option LibraryRule). is_some o) (sym (c.rule_of.ensures m sees) ∙ c.in-None.is))
