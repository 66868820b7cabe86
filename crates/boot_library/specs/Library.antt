-- The library: the classes that are there without being given, as far as programs here use the API of Java 5. Each
-- with its superclass (java.lang.Object where none is named), its members and their descriptors (JVMS 4.3), and what
-- each method means. All classes and members are public, and no class implements an interface.
use Rattle.std.specs.Prelude.{ℕ, Bool, true, false, List, [], ◌∷◌, ◌++◌, codes, Option, Some, None}
use Rattle.boot_library.specs.declared.rule.Primitive.{Primitive}
use Rattle.boot_library.specs.declared.rule.Primitive.TheVariants as primitive
use Rattle.boot_library.specs.declared.rule.Spelling.{Spelling}
use Rattle.boot_library.specs.declared.rule.Spelling.TheVariants.{OfText, OfObject, OfInt, OfLong, OfChar, OfBoolean}
use Rattle.boot_library.specs.declared.rule.LibraryRule.{LibraryRule}
use Rattle.boot_library.specs.declared.rule.LibraryRule.TheVariants as rule

-- ---- what a class and its members are

pub record LibraryMethod : Type 0 where
  pub name : List ℕ
  pub descriptor : List ℕ
  pub is_static : Bool
  -- none of the native ones
  pub rule : Option LibraryRule

-- a static final field
pub record LibraryField : Type 0 where
  pub name : List ℕ
  pub descriptor : List ℕ

pub data Kind : Type 0 where
  Class : Kind
  -- a class without subclasses
  Final : Kind
  Interface : Kind

pub record LibraryClass : Type 0 where
  pub name : List ℕ
  pub kind : Kind
  -- none of java.lang.Object alone
  pub super_class : Option (List ℕ)
  pub fields : List LibraryField
  pub methods : List LibraryMethod

abbrev pub instance : List ℕ → List ℕ → LibraryRule → LibraryMethod
instance name descriptor meaning = record { name = name; descriptor = descriptor; is_static = false; rule = Some meaning }

abbrev pub static : List ℕ → List ℕ → LibraryRule → LibraryMethod
static name descriptor meaning = record { name = name; descriptor = descriptor; is_static = true; rule = Some meaning }

abbrev pub native : List ℕ → List ℕ → LibraryMethod
native name descriptor = record { name = name; descriptor = descriptor; is_static = true; rule = None }

abbrev pub constructor : List ℕ
constructor = codes "<init>"

abbrev pub equals_by : LibraryRule → LibraryMethod
equals_by meaning = instance (codes "equals") (codes "(Ljava/lang/Object;)Z") meaning

abbrev pub hash_by : LibraryRule → LibraryMethod
hash_by meaning = instance (codes "hashCode") (codes "()I") meaning

abbrev pub to_string_by : LibraryRule → LibraryMethod
to_string_by meaning = instance (codes "toString") (codes "()Ljava/lang/String;") meaning

abbrev pub object_class : List ℕ
object_class = codes "java/lang/Object"

abbrev pub class : List ℕ → Kind → List LibraryMethod → LibraryClass
class name kind methods = record { name = name; kind = kind; super_class = Some object_class; fields = []; methods = methods }

abbrev pub interface : List ℕ → LibraryClass
interface name = class name Interface []

-- ---- java.lang.Object, the root of all classes

abbrev pub object : LibraryClass
object = record {
  name = object_class;
  kind = Class;
  super_class = None;
  fields = [];
  methods =
      instance constructor (codes "()V") rule.DoNothing ∷
      equals_by rule.SameObject ∷
      hash_by rule.IdentityHash ∷
      to_string_by rule.Describe ∷
      instance (codes "getClass") (codes "()Ljava/lang/Class;") rule.GetClass ∷
      [];
}

-- ---- java.lang.Class, which stands for a class at run time

abbrev pub class_of_classes : LibraryClass
class_of_classes = class (codes "java/lang/Class") Final (
    instance (codes "getName") (codes "()Ljava/lang/String;") rule.ClassName ∷
    static (codes "forName") (codes "(Ljava/lang/String;)Ljava/lang/Class;") rule.ForName ∷
    [])

-- ---- java.lang.String, texts that never change

abbrev pub value_of : List ℕ → Spelling → LibraryMethod
value_of parameters how = static (codes "valueOf") (parameters ++ codes "Ljava/lang/String;") (rule.ValueOf how)

abbrev pub string : LibraryClass
string = class (codes "java/lang/String") Final (
    instance (codes "length") (codes "()I") rule.Length ∷
    instance (codes "charAt") (codes "(I)C") rule.CharAt ∷
    equals_by rule.SameText ∷
    hash_by rule.TextHash ∷
    instance (codes "concat") (codes "(Ljava/lang/String;)Ljava/lang/String;") rule.Concat ∷
    instance (codes "substring") (codes "(II)Ljava/lang/String;") rule.Substring ∷
    to_string_by rule.Itself ∷
    value_of (codes "(I)") OfInt ∷
    value_of (codes "(J)") OfLong ∷
    value_of (codes "(C)") OfChar ∷
    value_of (codes "(Z)") OfBoolean ∷
    value_of (codes "(Ljava/lang/Object;)") OfObject ∷
    [])

-- ---- java.lang.StringBuffer, texts that grow, and java.lang.StringBuilder, the same without locks

-- gives the buffer itself
abbrev pub append : List ℕ → List ℕ → Spelling → LibraryMethod
append own parameters how = instance (codes "append") (parameters ++ (codes "L" ++ (own ++ codes ";"))) (rule.Append how)

abbrev pub buffer : List ℕ → LibraryClass
buffer own = class own Final (
    instance constructor (codes "()V") rule.DoNothing ∷
    instance constructor (codes "(Ljava/lang/String;)V") rule.FillBuffer ∷
    append own (codes "(Ljava/lang/String;)") OfText ∷
    append own (codes "(Ljava/lang/Object;)") OfObject ∷
    append own (codes "(I)") OfInt ∷
    append own (codes "(J)") OfLong ∷
    append own (codes "(C)") OfChar ∷
    append own (codes "(Z)") OfBoolean ∷
    instance (codes "length") (codes "()I") rule.Length ∷
    to_string_by rule.Copy ∷
    [])

-- ---- java.lang.Throwable, what can be thrown, with a message and a cause

abbrev pub throwable_constructors : List LibraryMethod
throwable_constructors =
    instance constructor (codes "()V") rule.DoNothing ∷
    instance constructor (codes "(Ljava/lang/String;)V") rule.SetMessage ∷
    instance constructor (codes "(Ljava/lang/String;Ljava/lang/Throwable;)V") rule.SetMessageAndCause ∷
    []

abbrev pub throwable : LibraryClass
throwable = class (codes "java/lang/Throwable") Class (throwable_constructors ++ (
    instance (codes "getMessage") (codes "()Ljava/lang/String;") rule.Message ∷
    instance (codes "getCause") (codes "()Ljava/lang/Throwable;") rule.Cause ∷
    to_string_by rule.DescribeThrowable ∷
    []))

-- ---- java.lang.System: the standard output, the end of the run, and the clocks

abbrev pub system : LibraryClass
system = record {
  name = codes "java/lang/System";
  kind = Final;
  super_class = Some object_class;
  fields = record { name = codes "out"; descriptor = codes "Ljava/io/PrintStream;" } ∷ [];
  methods =
      static (codes "exit") (codes "(I)V") rule.Exit ∷
      static (codes "identityHashCode") (codes "(Ljava/lang/Object;)I") rule.HashOf ∷
      native (codes "currentTimeMillis") (codes "()J") ∷
      native (codes "nanoTime") (codes "()J") ∷
      [];
}

-- ---- java.io.PrintStream, where texts are printed

abbrev pub prints : List ℕ → Bool → List LibraryMethod
prints name line =
    instance name (codes "(Ljava/lang/String;)V") (rule.Print OfText line) ∷
    instance name (codes "(Ljava/lang/Object;)V") (rule.Print OfObject line) ∷
    instance name (codes "(I)V") (rule.Print OfInt line) ∷
    instance name (codes "(J)V") (rule.Print OfLong line) ∷
    instance name (codes "(C)V") (rule.Print OfChar line) ∷
    instance name (codes "(Z)V") (rule.Print OfBoolean line) ∷
    []

abbrev pub print_stream : LibraryClass
print_stream = class (codes "java/io/PrintStream") Class
    (prints (codes "print") false ++ (prints (codes "println") true ++ (instance (codes "println") (codes "()V") rule.PrintLine ∷ [])))

-- ---- the boxes of primitive values

-- the box of a type, by its name, the type's descriptor, and the call that gives the value
abbrev pub box : Primitive → List ℕ → List ℕ → List ℕ → List LibraryMethod → LibraryClass
box type name descriptor value more = class name Final (
    instance constructor (codes "(" ++ (descriptor ++ codes ")V")) (rule.SetBox type) ∷
    instance value (codes "()" ++ descriptor) (rule.Unbox type) ∷
    equals_by (rule.SameBox type) ∷
    static (codes "valueOf") (codes "(" ++ (descriptor ++ (codes ")L" ++ (name ++ codes ";")))) (rule.BoxOf type) ∷
    more)

abbrev pub described : Primitive → List LibraryMethod
described type = hash_by (rule.BoxHash type) ∷ to_string_by (rule.DescribeBox type) ∷ []

abbrev pub boxes : List LibraryClass
boxes =
    box primitive.Int (codes "java/lang/Integer") (codes "I") (codes "intValue") (described primitive.Int) ∷
    box primitive.Long (codes "java/lang/Long") (codes "J") (codes "longValue") (described primitive.Long) ∷
    box primitive.Short (codes "java/lang/Short") (codes "S") (codes "shortValue") (described primitive.Short) ∷
    box primitive.Byte (codes "java/lang/Byte") (codes "B") (codes "byteValue") (described primitive.Byte) ∷
    box primitive.Char (codes "java/lang/Character") (codes "C") (codes "charValue") (described primitive.Char) ∷
    box primitive.Boolean (codes "java/lang/Boolean") (codes "Z") (codes "booleanValue") (described primitive.Boolean) ∷
    []

-- floats and doubles have no text here
abbrev pub float_boxes : List LibraryClass
float_boxes =
    box primitive.Float (codes "java/lang/Float") (codes "F") (codes "floatValue") [] ∷
    box primitive.Double (codes "java/lang/Double") (codes "D") (codes "doubleValue") [] ∷
    []

-- ---- the interfaces, none with a member

abbrev pub interfaces : List LibraryClass
interfaces =
    -- what can be run
    interface (codes "java/lang/Runnable") ∷
    -- what can be cloned, as arrays can (JVMS 2.15)
    interface (codes "java/lang/Cloneable") ∷
    -- what has an order
    interface (codes "java/lang/Comparable") ∷
    -- what has units of text
    interface (codes "java/lang/CharSequence") ∷
    -- what can be written as bytes, as arrays can (JVMS 2.15)
    interface (codes "java/io/Serializable") ∷
    []

-- ---- the exceptions, each with the constructors of Throwable (JVMS 2.16)

-- a class of exceptions and its superclass
abbrev pub exception : List ℕ → List ℕ → LibraryClass
exception name super = record { name = name; kind = Class; super_class = Some super; fields = []; methods = throwable_constructors }

abbrev pub exceptions : List LibraryClass
exceptions =
    -- what a program may want to catch
    exception (codes "java/lang/Exception") (codes "java/lang/Throwable") ∷
    -- what a program does not want to catch
    exception (codes "java/lang/Error") (codes "java/lang/Throwable") ∷
    -- what can be thrown without being declared
    exception (codes "java/lang/RuntimeException") (codes "java/lang/Exception") ∷
    -- no class has the name that was looked up
    exception (codes "java/lang/ClassNotFoundException") (codes "java/lang/Exception") ∷
    -- a class does not fit the classes that it depends on
    exception (codes "java/lang/LinkageError") (codes "java/lang/Error") ∷
    -- a class has no definition, or could not be initialised
    exception (codes "java/lang/NoClassDefFoundError") (codes "java/lang/LinkageError") ∷
    -- an integer was divided by zero
    exception (codes "java/lang/ArithmeticException") (codes "java/lang/RuntimeException") ∷
    -- an object does not fit the type of the array that it was stored to
    exception (codes "java/lang/ArrayStoreException") (codes "java/lang/RuntimeException") ∷
    -- an object is not of the class that it was cast to
    exception (codes "java/lang/ClassCastException") (codes "java/lang/RuntimeException") ∷
    -- a method was passed what it does not take
    exception (codes "java/lang/IllegalArgumentException") (codes "java/lang/RuntimeException") ∷
    -- a method was called at a wrong time
    exception (codes "java/lang/IllegalStateException") (codes "java/lang/RuntimeException") ∷
    -- a monitor was left that was not entered
    exception (codes "java/lang/IllegalMonitorStateException") (codes "java/lang/RuntimeException") ∷
    -- an index is out of range
    exception (codes "java/lang/IndexOutOfBoundsException") (codes "java/lang/RuntimeException") ∷
    -- an array was to have a negative number of elements
    exception (codes "java/lang/NegativeArraySizeException") (codes "java/lang/RuntimeException") ∷
    -- null was used as an object
    exception (codes "java/lang/NullPointerException") (codes "java/lang/RuntimeException") ∷
    -- an operation is not supported
    exception (codes "java/lang/UnsupportedOperationException") (codes "java/lang/RuntimeException") ∷
    -- an index is out of an array
    exception (codes "java/lang/ArrayIndexOutOfBoundsException") (codes "java/lang/IndexOutOfBoundsException") ∷
    -- an index is out of a text
    exception (codes "java/lang/StringIndexOutOfBoundsException") (codes "java/lang/IndexOutOfBoundsException") ∷
    -- an aspect has no instance
    exception (codes "org/aspectj/lang/NoAspectBoundException") (codes "java/lang/RuntimeException") ∷
    []

-- ---- all classes

abbrev pub objects : List LibraryClass
objects = object ∷ class_of_classes ∷ throwable ∷ []

abbrev pub strings : List LibraryClass
strings = string ∷ []

abbrev pub buffers : List LibraryClass
buffers = buffer (codes "java/lang/StringBuffer") ∷ buffer (codes "java/lang/StringBuilder") ∷ []

abbrev pub systems : List LibraryClass
systems = system ∷ print_stream ∷ []

-- those with members of their own kind
abbrev pub classes : List LibraryClass
classes = objects ++ (strings ++ (buffers ++ (systems ++ (boxes ++ (float_boxes ++ interfaces)))))

abbrev pub library : List LibraryClass
library = classes ++ exceptions
