-- Rules apart from the few that a call tells apart.
use Rattle.std.specs.Prelude.{◌≡◌, Some, refl}
use Rattle.boot_library.specs.declared.rule.LibraryRule.{LibraryRule}
use Rattle.boot_library.specs.declared.rule.LibraryRule.TheVariants as rule
use Rattle.class_machine.specs.Classes.{Method, Classes}
use Rattle.class_machine.specs.LibraryCalls as calls
use Rattle.class_machine.specs.Values.{Name}
use Rattle.class_machine.specs.World.{World}

-- a toString that gives neither its receiver nor a description of an exception
pub made_text_by : (cs : Classes) (w : World) (a : Name) (wait : calls.Wait) (m : Method) (r : LibraryRule) → (r ≡ rule.Itself → ⊥) → (r ≡ rule.DescribeThrowable → ⊥)
    → calls.text_by cs w a wait (Some r) m ≡ calls.finish_made wait w (calls.made_text w r a)
made_text_by cs w a wait m rule.DoNothing itself throwable = refl
made_text_by cs w a wait m rule.SameObject itself throwable = refl
made_text_by cs w a wait m rule.IdentityHash itself throwable = refl
made_text_by cs w a wait m rule.Describe itself throwable = refl
made_text_by cs w a wait m rule.GetClass itself throwable = refl
made_text_by cs w a wait m rule.ClassName itself throwable = refl
made_text_by cs w a wait m rule.ForName itself throwable = refl
made_text_by cs w a wait m rule.Length itself throwable = refl
made_text_by cs w a wait m rule.CharAt itself throwable = refl
made_text_by cs w a wait m rule.SameText itself throwable = refl
made_text_by cs w a wait m rule.TextHash itself throwable = refl
made_text_by cs w a wait m rule.Concat itself throwable = refl
made_text_by cs w a wait m rule.Substring itself throwable = refl
made_text_by cs w a wait m rule.Itself itself throwable = absurd (itself refl)
made_text_by cs w a wait m (rule.ValueOf how) itself throwable = refl
made_text_by cs w a wait m rule.FillBuffer itself throwable = refl
made_text_by cs w a wait m (rule.Append how) itself throwable = refl
made_text_by cs w a wait m rule.Copy itself throwable = refl
made_text_by cs w a wait m rule.SetMessage itself throwable = refl
made_text_by cs w a wait m rule.SetMessageAndCause itself throwable = refl
made_text_by cs w a wait m rule.Message itself throwable = refl
made_text_by cs w a wait m rule.Cause itself throwable = refl
made_text_by cs w a wait m rule.DescribeThrowable itself throwable = absurd (throwable refl)
made_text_by cs w a wait m rule.Exit itself throwable = refl
made_text_by cs w a wait m rule.HashOf itself throwable = refl
made_text_by cs w a wait m (rule.Print how line) itself throwable = refl
made_text_by cs w a wait m rule.PrintLine itself throwable = refl
made_text_by cs w a wait m (rule.SetBox type) itself throwable = refl
made_text_by cs w a wait m (rule.BoxOf type) itself throwable = refl
made_text_by cs w a wait m (rule.Unbox type) itself throwable = refl
made_text_by cs w a wait m (rule.SameBox type) itself throwable = refl
made_text_by cs w a wait m (rule.BoxHash type) itself throwable = refl
made_text_by cs w a wait m (rule.DescribeBox type) itself throwable = refl
