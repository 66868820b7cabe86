-- The rules that a kind of call doesn't serve.
use Rattle.std.specs.Prelude.{◌≡◌, Bool, List, [], ◌∷◌, refl}
use Rattle.boot_library.specs.declared.rule.Primitive.{Primitive}
use Rattle.boot_library.specs.declared.rule.Spelling.{Spelling}
use Rattle.boot_library.specs.declared.rule.LibraryRule.{LibraryRule}
use Rattle.boot_library.specs.declared.rule.LibraryRule.TheVariants as rule
use Rattle.class_machine.specs.Classes.{Classes}
use Rattle.class_machine.specs.LibraryCalls as calls
use Rattle.class_machine.specs.Values as machine
use Rattle.class_machine.specs.Values.{Name, Held}
use Rattle.class_machine.specs.World.{World}

-- without further arguments
pub object_other : (cs : Classes) (w : World) (a : Name) (r : LibraryRule) → (r ≡ rule.DoNothing → ⊥) → (r ≡ rule.IdentityHash → ⊥) → (r ≡ rule.Describe → ⊥) → (r ≡ rule.GetClass → ⊥) → (r ≡ rule.ClassName → ⊥) → (r ≡ rule.Length → ⊥) → (r ≡ rule.TextHash → ⊥) → (r ≡ rule.Itself → ⊥) → (r ≡ rule.Copy → ⊥) → (r ≡ rule.Message → ⊥) → (r ≡ rule.Cause → ⊥) → (r ≡ rule.DescribeThrowable → ⊥) → (r ≡ rule.PrintLine → ⊥) → ((type : Primitive) → r ≡ rule.Unbox type → ⊥) → ((type : Primitive) → r ≡ rule.BoxHash type → ⊥) → ((type : Primitive) → r ≡ rule.DescribeBox type → ⊥)
    → calls.on_object cs w r a ≡ calls.Misuses
object_other cs w a rule.DoNothing no0 no1 no2 no3 no4 no5 no6 no7 no8 no9 no10 no11 no12 no13 no14 no15 = absurd (no0 refl)
object_other cs w a rule.SameObject no0 no1 no2 no3 no4 no5 no6 no7 no8 no9 no10 no11 no12 no13 no14 no15 = refl
object_other cs w a rule.IdentityHash no0 no1 no2 no3 no4 no5 no6 no7 no8 no9 no10 no11 no12 no13 no14 no15 = absurd (no1 refl)
object_other cs w a rule.Describe no0 no1 no2 no3 no4 no5 no6 no7 no8 no9 no10 no11 no12 no13 no14 no15 = absurd (no2 refl)
object_other cs w a rule.GetClass no0 no1 no2 no3 no4 no5 no6 no7 no8 no9 no10 no11 no12 no13 no14 no15 = absurd (no3 refl)
object_other cs w a rule.ClassName no0 no1 no2 no3 no4 no5 no6 no7 no8 no9 no10 no11 no12 no13 no14 no15 = absurd (no4 refl)
object_other cs w a rule.ForName no0 no1 no2 no3 no4 no5 no6 no7 no8 no9 no10 no11 no12 no13 no14 no15 = refl
object_other cs w a rule.Length no0 no1 no2 no3 no4 no5 no6 no7 no8 no9 no10 no11 no12 no13 no14 no15 = absurd (no5 refl)
object_other cs w a rule.CharAt no0 no1 no2 no3 no4 no5 no6 no7 no8 no9 no10 no11 no12 no13 no14 no15 = refl
object_other cs w a rule.SameText no0 no1 no2 no3 no4 no5 no6 no7 no8 no9 no10 no11 no12 no13 no14 no15 = refl
object_other cs w a rule.TextHash no0 no1 no2 no3 no4 no5 no6 no7 no8 no9 no10 no11 no12 no13 no14 no15 = absurd (no6 refl)
object_other cs w a rule.Concat no0 no1 no2 no3 no4 no5 no6 no7 no8 no9 no10 no11 no12 no13 no14 no15 = refl
object_other cs w a rule.Substring no0 no1 no2 no3 no4 no5 no6 no7 no8 no9 no10 no11 no12 no13 no14 no15 = refl
object_other cs w a rule.Itself no0 no1 no2 no3 no4 no5 no6 no7 no8 no9 no10 no11 no12 no13 no14 no15 = absurd (no7 refl)
object_other cs w a (rule.ValueOf how) no0 no1 no2 no3 no4 no5 no6 no7 no8 no9 no10 no11 no12 no13 no14 no15 = refl
object_other cs w a rule.FillBuffer no0 no1 no2 no3 no4 no5 no6 no7 no8 no9 no10 no11 no12 no13 no14 no15 = refl
object_other cs w a (rule.Append how) no0 no1 no2 no3 no4 no5 no6 no7 no8 no9 no10 no11 no12 no13 no14 no15 = refl
object_other cs w a rule.Copy no0 no1 no2 no3 no4 no5 no6 no7 no8 no9 no10 no11 no12 no13 no14 no15 = absurd (no8 refl)
object_other cs w a rule.SetMessage no0 no1 no2 no3 no4 no5 no6 no7 no8 no9 no10 no11 no12 no13 no14 no15 = refl
object_other cs w a rule.SetMessageAndCause no0 no1 no2 no3 no4 no5 no6 no7 no8 no9 no10 no11 no12 no13 no14 no15 = refl
object_other cs w a rule.Message no0 no1 no2 no3 no4 no5 no6 no7 no8 no9 no10 no11 no12 no13 no14 no15 = absurd (no9 refl)
object_other cs w a rule.Cause no0 no1 no2 no3 no4 no5 no6 no7 no8 no9 no10 no11 no12 no13 no14 no15 = absurd (no10 refl)
object_other cs w a rule.DescribeThrowable no0 no1 no2 no3 no4 no5 no6 no7 no8 no9 no10 no11 no12 no13 no14 no15 = absurd (no11 refl)
object_other cs w a rule.Exit no0 no1 no2 no3 no4 no5 no6 no7 no8 no9 no10 no11 no12 no13 no14 no15 = refl
object_other cs w a rule.HashOf no0 no1 no2 no3 no4 no5 no6 no7 no8 no9 no10 no11 no12 no13 no14 no15 = refl
object_other cs w a (rule.Print how line) no0 no1 no2 no3 no4 no5 no6 no7 no8 no9 no10 no11 no12 no13 no14 no15 = refl
object_other cs w a rule.PrintLine no0 no1 no2 no3 no4 no5 no6 no7 no8 no9 no10 no11 no12 no13 no14 no15 = absurd (no12 refl)
object_other cs w a (rule.SetBox type) no0 no1 no2 no3 no4 no5 no6 no7 no8 no9 no10 no11 no12 no13 no14 no15 = refl
object_other cs w a (rule.BoxOf type) no0 no1 no2 no3 no4 no5 no6 no7 no8 no9 no10 no11 no12 no13 no14 no15 = refl
object_other cs w a (rule.Unbox type) no0 no1 no2 no3 no4 no5 no6 no7 no8 no9 no10 no11 no12 no13 no14 no15 = absurd (no13 type refl)
object_other cs w a (rule.SameBox type) no0 no1 no2 no3 no4 no5 no6 no7 no8 no9 no10 no11 no12 no13 no14 no15 = refl
object_other cs w a (rule.BoxHash type) no0 no1 no2 no3 no4 no5 no6 no7 no8 no9 no10 no11 no12 no13 no14 no15 = absurd (no14 type refl)
object_other cs w a (rule.DescribeBox type) no0 no1 no2 no3 no4 no5 no6 no7 no8 no9 no10 no11 no12 no13 no14 no15 = absurd (no15 type refl)

-- with one argument
pub argument_other : (cs : Classes) (w : World) (a : Name) (v : Held) (r : LibraryRule) → (r ≡ rule.SameObject → ⊥) → (r ≡ rule.CharAt → ⊥) → (r ≡ rule.SameText → ⊥) → (r ≡ rule.Concat → ⊥) → (r ≡ rule.FillBuffer → ⊥) → ((how : Spelling) → r ≡ rule.Append how → ⊥) → (r ≡ rule.SetMessage → ⊥) → ((how : Spelling) (line : Bool) → r ≡ rule.Print how line → ⊥) → ((type : Primitive) → r ≡ rule.SetBox type → ⊥) → ((type : Primitive) → r ≡ rule.SameBox type → ⊥)
    → calls.with_argument cs w r a v ≡ calls.Misuses
argument_other cs w a v rule.DoNothing no0 no1 no2 no3 no4 no5 no6 no7 no8 no9 = refl
argument_other cs w a v rule.SameObject no0 no1 no2 no3 no4 no5 no6 no7 no8 no9 = absurd (no0 refl)
argument_other cs w a v rule.IdentityHash no0 no1 no2 no3 no4 no5 no6 no7 no8 no9 = refl
argument_other cs w a v rule.Describe no0 no1 no2 no3 no4 no5 no6 no7 no8 no9 = refl
argument_other cs w a v rule.GetClass no0 no1 no2 no3 no4 no5 no6 no7 no8 no9 = refl
argument_other cs w a v rule.ClassName no0 no1 no2 no3 no4 no5 no6 no7 no8 no9 = refl
argument_other cs w a v rule.ForName no0 no1 no2 no3 no4 no5 no6 no7 no8 no9 = refl
argument_other cs w a v rule.Length no0 no1 no2 no3 no4 no5 no6 no7 no8 no9 = refl
argument_other cs w a v rule.CharAt no0 no1 no2 no3 no4 no5 no6 no7 no8 no9 = absurd (no1 refl)
argument_other cs w a v rule.SameText no0 no1 no2 no3 no4 no5 no6 no7 no8 no9 = absurd (no2 refl)
argument_other cs w a v rule.TextHash no0 no1 no2 no3 no4 no5 no6 no7 no8 no9 = refl
argument_other cs w a v rule.Concat no0 no1 no2 no3 no4 no5 no6 no7 no8 no9 = absurd (no3 refl)
argument_other cs w a v rule.Substring no0 no1 no2 no3 no4 no5 no6 no7 no8 no9 = refl
argument_other cs w a v rule.Itself no0 no1 no2 no3 no4 no5 no6 no7 no8 no9 = refl
argument_other cs w a v (rule.ValueOf how) no0 no1 no2 no3 no4 no5 no6 no7 no8 no9 = refl
argument_other cs w a v rule.FillBuffer no0 no1 no2 no3 no4 no5 no6 no7 no8 no9 = absurd (no4 refl)
argument_other cs w a v (rule.Append how) no0 no1 no2 no3 no4 no5 no6 no7 no8 no9 = absurd (no5 how refl)
argument_other cs w a v rule.Copy no0 no1 no2 no3 no4 no5 no6 no7 no8 no9 = refl
argument_other cs w a v rule.SetMessage no0 no1 no2 no3 no4 no5 no6 no7 no8 no9 = absurd (no6 refl)
argument_other cs w a v rule.SetMessageAndCause no0 no1 no2 no3 no4 no5 no6 no7 no8 no9 = refl
argument_other cs w a v rule.Message no0 no1 no2 no3 no4 no5 no6 no7 no8 no9 = refl
argument_other cs w a v rule.Cause no0 no1 no2 no3 no4 no5 no6 no7 no8 no9 = refl
argument_other cs w a v rule.DescribeThrowable no0 no1 no2 no3 no4 no5 no6 no7 no8 no9 = refl
argument_other cs w a v rule.Exit no0 no1 no2 no3 no4 no5 no6 no7 no8 no9 = refl
argument_other cs w a v rule.HashOf no0 no1 no2 no3 no4 no5 no6 no7 no8 no9 = refl
argument_other cs w a v (rule.Print how line) no0 no1 no2 no3 no4 no5 no6 no7 no8 no9 = absurd (no7 how line refl)
argument_other cs w a v rule.PrintLine no0 no1 no2 no3 no4 no5 no6 no7 no8 no9 = refl
argument_other cs w a v (rule.SetBox type) no0 no1 no2 no3 no4 no5 no6 no7 no8 no9 = absurd (no8 type refl)
argument_other cs w a v (rule.BoxOf type) no0 no1 no2 no3 no4 no5 no6 no7 no8 no9 = refl
argument_other cs w a v (rule.Unbox type) no0 no1 no2 no3 no4 no5 no6 no7 no8 no9 = refl
argument_other cs w a v (rule.SameBox type) no0 no1 no2 no3 no4 no5 no6 no7 no8 no9 = absurd (no9 type refl)
argument_other cs w a v (rule.BoxHash type) no0 no1 no2 no3 no4 no5 no6 no7 no8 no9 = refl
argument_other cs w a v (rule.DescribeBox type) no0 no1 no2 no3 no4 no5 no6 no7 no8 no9 = refl

-- with two arguments
pub arguments_other : (cs : Classes) (w : World) (a : Name) (u v : Held) (r : LibraryRule) → (r ≡ rule.Substring → ⊥) → (r ≡ rule.SetMessageAndCause → ⊥)
    → calls.with_arguments cs w r a u v ≡ calls.Misuses
arguments_other cs w a u v rule.DoNothing no0 no1 = refl
arguments_other cs w a u v rule.SameObject no0 no1 = refl
arguments_other cs w a u v rule.IdentityHash no0 no1 = refl
arguments_other cs w a u v rule.Describe no0 no1 = refl
arguments_other cs w a u v rule.GetClass no0 no1 = refl
arguments_other cs w a u v rule.ClassName no0 no1 = refl
arguments_other cs w a u v rule.ForName no0 no1 = refl
arguments_other cs w a u v rule.Length no0 no1 = refl
arguments_other cs w a u v rule.CharAt no0 no1 = refl
arguments_other cs w a u v rule.SameText no0 no1 = refl
arguments_other cs w a u v rule.TextHash no0 no1 = refl
arguments_other cs w a u v rule.Concat no0 no1 = refl
arguments_other cs w a u v rule.Substring no0 no1 = absurd (no0 refl)
arguments_other cs w a u v rule.Itself no0 no1 = refl
arguments_other cs w a u v (rule.ValueOf how) no0 no1 = refl
arguments_other cs w a u v rule.FillBuffer no0 no1 = refl
arguments_other cs w a u v (rule.Append how) no0 no1 = refl
arguments_other cs w a u v rule.Copy no0 no1 = refl
arguments_other cs w a u v rule.SetMessage no0 no1 = refl
arguments_other cs w a u v rule.SetMessageAndCause no0 no1 = absurd (no1 refl)
arguments_other cs w a u v rule.Message no0 no1 = refl
arguments_other cs w a u v rule.Cause no0 no1 = refl
arguments_other cs w a u v rule.DescribeThrowable no0 no1 = refl
arguments_other cs w a u v rule.Exit no0 no1 = refl
arguments_other cs w a u v rule.HashOf no0 no1 = refl
arguments_other cs w a u v (rule.Print how line) no0 no1 = refl
arguments_other cs w a u v rule.PrintLine no0 no1 = refl
arguments_other cs w a u v (rule.SetBox type) no0 no1 = refl
arguments_other cs w a u v (rule.BoxOf type) no0 no1 = refl
arguments_other cs w a u v (rule.Unbox type) no0 no1 = refl
arguments_other cs w a u v (rule.SameBox type) no0 no1 = refl
arguments_other cs w a u v (rule.BoxHash type) no0 no1 = refl
arguments_other cs w a u v (rule.DescribeBox type) no0 no1 = refl

-- without an object
pub static_other : (cs : Classes) (w : World) (v : Held) (r : LibraryRule) → (r ≡ rule.ForName → ⊥) → ((how : Spelling) → r ≡ rule.ValueOf how → ⊥) → (r ≡ rule.Exit → ⊥) → (r ≡ rule.HashOf → ⊥) → ((type : Primitive) → r ≡ rule.BoxOf type → ⊥)
    → calls.by_static_rule cs w r (v ∷ []) ≡ calls.Misuses
static_other cs w v rule.DoNothing no0 no1 no2 no3 no4 = refl
static_other cs w v rule.SameObject no0 no1 no2 no3 no4 = refl
static_other cs w v rule.IdentityHash no0 no1 no2 no3 no4 = refl
static_other cs w v rule.Describe no0 no1 no2 no3 no4 = refl
static_other cs w v rule.GetClass no0 no1 no2 no3 no4 = refl
static_other cs w v rule.ClassName no0 no1 no2 no3 no4 = refl
static_other cs w v rule.ForName no0 no1 no2 no3 no4 = absurd (no0 refl)
static_other cs w v rule.Length no0 no1 no2 no3 no4 = refl
static_other cs w v rule.CharAt no0 no1 no2 no3 no4 = refl
static_other cs w v rule.SameText no0 no1 no2 no3 no4 = refl
static_other cs w v rule.TextHash no0 no1 no2 no3 no4 = refl
static_other cs w v rule.Concat no0 no1 no2 no3 no4 = refl
static_other cs w v rule.Substring no0 no1 no2 no3 no4 = refl
static_other cs w v rule.Itself no0 no1 no2 no3 no4 = refl
static_other cs w v (rule.ValueOf how) no0 no1 no2 no3 no4 = absurd (no1 how refl)
static_other cs w v rule.FillBuffer no0 no1 no2 no3 no4 = refl
static_other cs w v (rule.Append how) no0 no1 no2 no3 no4 = refl
static_other cs w v rule.Copy no0 no1 no2 no3 no4 = refl
static_other cs w v rule.SetMessage no0 no1 no2 no3 no4 = refl
static_other cs w v rule.SetMessageAndCause no0 no1 no2 no3 no4 = refl
static_other cs w v rule.Message no0 no1 no2 no3 no4 = refl
static_other cs w v rule.Cause no0 no1 no2 no3 no4 = refl
static_other cs w v rule.DescribeThrowable no0 no1 no2 no3 no4 = refl
static_other cs w v rule.Exit no0 no1 no2 no3 no4 = absurd (no2 refl)
static_other cs w v rule.HashOf no0 no1 no2 no3 no4 = absurd (no3 refl)
static_other cs w v (rule.Print how line) no0 no1 no2 no3 no4 = refl
static_other cs w v rule.PrintLine no0 no1 no2 no3 no4 = refl
static_other cs w v (rule.SetBox type) no0 no1 no2 no3 no4 = refl
static_other cs w v (rule.BoxOf type) no0 no1 no2 no3 no4 = absurd (no4 type refl)
static_other cs w v (rule.Unbox type) no0 no1 no2 no3 no4 = refl
static_other cs w v (rule.SameBox type) no0 no1 no2 no3 no4 = refl
static_other cs w v (rule.BoxHash type) no0 no1 no2 no3 no4 = refl
static_other cs w v (rule.DescribeBox type) no0 no1 no2 no3 no4 = refl

-- a static method takes one argument
pub static_none : (cs : Classes) (w : World) (r : LibraryRule) → calls.by_static_rule cs w r [] ≡ calls.Misuses
static_none cs w rule.DoNothing = refl
static_none cs w rule.SameObject = refl
static_none cs w rule.IdentityHash = refl
static_none cs w rule.Describe = refl
static_none cs w rule.GetClass = refl
static_none cs w rule.ClassName = refl
static_none cs w rule.ForName = refl
static_none cs w rule.Length = refl
static_none cs w rule.CharAt = refl
static_none cs w rule.SameText = refl
static_none cs w rule.TextHash = refl
static_none cs w rule.Concat = refl
static_none cs w rule.Substring = refl
static_none cs w rule.Itself = refl
static_none cs w (rule.ValueOf how) = refl
static_none cs w rule.FillBuffer = refl
static_none cs w (rule.Append how) = refl
static_none cs w rule.Copy = refl
static_none cs w rule.SetMessage = refl
static_none cs w rule.SetMessageAndCause = refl
static_none cs w rule.Message = refl
static_none cs w rule.Cause = refl
static_none cs w rule.DescribeThrowable = refl
static_none cs w rule.Exit = refl
static_none cs w rule.HashOf = refl
static_none cs w (rule.Print how line) = refl
static_none cs w rule.PrintLine = refl
static_none cs w (rule.SetBox type) = refl
static_none cs w (rule.BoxOf type) = refl
static_none cs w (rule.Unbox type) = refl
static_none cs w (rule.SameBox type) = refl
static_none cs w (rule.BoxHash type) = refl
static_none cs w (rule.DescribeBox type) = refl

pub static_more : (cs : Classes) (w : World) (r : LibraryRule) (u v : Held) (more : List Held) → calls.by_static_rule cs w r (u ∷ v ∷ more) ≡ calls.Misuses
static_more cs w rule.DoNothing u v more = refl
static_more cs w rule.SameObject u v more = refl
static_more cs w rule.IdentityHash u v more = refl
static_more cs w rule.Describe u v more = refl
static_more cs w rule.GetClass u v more = refl
static_more cs w rule.ClassName u v more = refl
static_more cs w rule.ForName u v more = refl
static_more cs w rule.Length u v more = refl
static_more cs w rule.CharAt u v more = refl
static_more cs w rule.SameText u v more = refl
static_more cs w rule.TextHash u v more = refl
static_more cs w rule.Concat u v more = refl
static_more cs w rule.Substring u v more = refl
static_more cs w rule.Itself u v more = refl
static_more cs w (rule.ValueOf how) u v more = refl
static_more cs w rule.FillBuffer u v more = refl
static_more cs w (rule.Append how) u v more = refl
static_more cs w rule.Copy u v more = refl
static_more cs w rule.SetMessage u v more = refl
static_more cs w rule.SetMessageAndCause u v more = refl
static_more cs w rule.Message u v more = refl
static_more cs w rule.Cause u v more = refl
static_more cs w rule.DescribeThrowable u v more = refl
static_more cs w rule.Exit (machine.Int n) v more = refl
static_more cs w rule.Exit (machine.Long n) v more = refl
static_more cs w rule.Exit (machine.Float n) v more = refl
static_more cs w rule.Exit (machine.Double n) v more = refl
static_more cs w rule.Exit machine.Null v more = refl
static_more cs w rule.Exit (machine.Reference b) v more = refl
static_more cs w rule.HashOf (machine.Int n) v more = refl
static_more cs w rule.HashOf (machine.Long n) v more = refl
static_more cs w rule.HashOf (machine.Float n) v more = refl
static_more cs w rule.HashOf (machine.Double n) v more = refl
static_more cs w rule.HashOf machine.Null v more = refl
static_more cs w rule.HashOf (machine.Reference b) v more = refl
static_more cs w (rule.Print how line) u v more = refl
static_more cs w rule.PrintLine u v more = refl
static_more cs w (rule.SetBox type) u v more = refl
static_more cs w (rule.BoxOf type) u v more = refl
static_more cs w (rule.Unbox type) u v more = refl
static_more cs w (rule.SameBox type) u v more = refl
static_more cs w (rule.BoxHash type) u v more = refl
static_more cs w (rule.DescribeBox type) u v more = refl
