-- What a call of a library method does. It is one step, except that a call of toString or getMessage within it that
-- selects a method of a class outside the library pushes the frame of that method, and the library call ends as it
-- returns.
use Rattle.std.specs.Prelude.{ℕ, ◌+◌, ◌-◌, ◌*◌, ◌/◌, ◌%◌, ◌^◌, ◌==◌, ◌&&◌, Bool, true, false, if◌then◌else◌, List, [], ◌∷◌, ◌++◌, length, take, drop, codes, slice_get, nat_le, bit_xor, is_some, Option, Some, None, ℤ, pos, negsuc}
use Rattle.std.specs.Option.{unwrap_or}
use Rattle.std.specs.Str.{bytes_eq}
use Rattle.std.specs.Int.{w32, w64, cast_unsigned}
use Rattle.class_file.specs.Pool.{NamedType}
use Rattle.boot_library.specs.declared.rule.Primitive.{Primitive}
use Rattle.boot_library.specs.declared.rule.Primitive.TheVariants as boxed
use Rattle.boot_library.specs.declared.rule.Spelling.{Spelling}
use Rattle.boot_library.specs.declared.rule.Spelling.TheVariants.{OfText, OfObject, OfInt, OfLong, OfChar, OfBoolean}
use Rattle.boot_library.specs.declared.rule.LibraryRule.{LibraryRule}
use Rattle.boot_library.specs.declared.rule.LibraryRule.TheVariants as rule
use Rattle.class_machine.specs.declared.kinds.Element.{Element}
use Rattle.class_machine.specs.declared.kinds.Fault.{Fault}
use Rattle.class_machine.specs.Values.{Name, ClassObject, class_of, number_of, same_name, string_class, throwable_class, Held, Int, Long, Float, Double, Null, Reference as Pointer, held_reference}
use Rattle.class_machine.specs.Numbers.{count_int, same_int, decimal, hexadecimal}
use Rattle.class_machine.specs.Descriptors.{element, low_bits, narrowed}
use Rattle.class_machine.specs.Texts.{class_text, class_of_text, is_unfit}
use Rattle.class_machine.specs.Events.{Event}
use Rattle.class_machine.specs.Events as events
use Rattle.class_machine.specs.Classes.{Method, Classes}
use Rattle.class_machine.specs.World.{Text, World, set_object, add_text, make, message_field, cause_field, value_field, box_class, read_field, write_field, units_at}
use Rattle.class_machine.specs.Answers.{truth}

-- what a library call does with the text that it waits for
pub data Wait : Type 0 where
  -- prints it, with a line feed or without
  Prints : (line : Bool) → Wait
  -- appends it to the buffer
  Appends : (buffer : Name) → Wait
  -- gives it
  Gives : Wait
  -- it is the message of the exception: describes that, and goes on with the description
  Describes : (x : Name) (rest : Wait) → Wait

-- what comes of a library call
pub data Work : Type 0 where
  -- it is done, with an event and a result where there is one
  Results : (said : Option Event) (v : Option Held) (w : World) → Work
  -- it throws an exception that it made, and one that the machine makes
  Throws : (x : Name) (w : World) → Work
  Faults : (fault : Fault) → Work
  -- it waits for the text of this method of the object
  Calls : (method : Method) (a : Name) (wait : Wait) (w : World) → Work
  -- it initialises the class and gives its class object
  Loads : (class : List ℕ) → Work
  Exits : (status : ℤ) → Work
  -- an argument is no instance of what the rule needs: the run is Broken
  Misuses : Work

abbrev pub gives : Held → World → Work
gives v w = Results None (Some v) w

abbrev pub does : World → Work
does w = Results None None w

abbrev pub new_text : List ℕ → World → Work
new_text units w = given (add_text w units) where
  given : Name × World → Work
  given made = gives (Pointer made.0) made.1

-- ---- arguments

abbrev pub is_string : Name → Bool
is_string a = bytes_eq (class_of a) string_class

-- the units of an argument that is to be a String, or null
abbrev pub text_argument : World → Held → (Option (List ℕ) → Work) → Work
text_argument w Null go = go None
text_argument w (Pointer a) go = if is_string a then go (units_at w a) else Misuses
text_argument w _ go = Misuses

abbrev pub unless_null_text : Option (List ℕ) → (List ℕ → Work) → Work
unless_null_text None go = Faults Fault.NullPointer
unless_null_text (Some units) go = go units

abbrev pub named : Held → Option Name
named (Pointer a) = Some a
named _ = None

abbrev pub null_text : List ℕ
null_text = codes "null"

abbrev pub text_or_null : Option (List ℕ) → List ℕ
text_or_null units = unwrap_or units null_text

-- ---- what is done with a text

abbrev pub line_feed : Bool → List ℕ
line_feed true = 10 ∷ []
line_feed false = []

abbrev pub printed : List ℕ → Bool → World → Work
printed units line w = Results (Some (events.Print (units ++ line_feed line))) None w

-- an object that holds no text is no buffer
abbrev pub appended : List ℕ → Name → World → Work
appended units buffer w = to (units_at w buffer) where
  to : Option (List ℕ) → Work
  to None = Misuses
  to (Some old) = gives (Pointer buffer) (set_object w buffer (Text (old ++ units)))

abbrev pub filled : List ℕ → Name → World → Work
filled units buffer w = if is_some (units_at w buffer) then does (set_object w buffer (Text units)) else Misuses

-- a text that no String holds yet
abbrev pub finish_units : Wait → List ℕ → World → Work
finish_units (Prints line) units w = printed units line w
finish_units (Appends buffer) units w = appended units buffer w
finish_units Gives units w = new_text units w
finish_units (Describes x rest) units w = Misuses

-- the description of an exception: its class, and its message where it has one
abbrev pub described : Name → Option (List ℕ) → List ℕ
described x None = class_text (class_of x)
described x (Some message) = class_text (class_of x) ++ codes ": " ++ message

-- a String, or null: the units that it holds are given
abbrev pub finish_text : Wait → Option Name → Option (List ℕ) → World → Work
finish_text (Prints line) a units w = printed (text_or_null units) line w
finish_text (Appends buffer) a units w = appended (text_or_null units) buffer w
finish_text Gives a units w = gives (held_reference a) w
finish_text (Describes x rest) a units w =
    let made = add_text w (described x units) in finish_text rest (Some made.0) (Some (described x units)) made.1

-- a method of the library or of a program gave the text
abbrev pub resume : Wait → Held → World → Work
resume wait v w = text_argument w v (λ units. finish_text wait (named v) units w)

-- ---- toString and getMessage

abbrev pub no_parameters : List ℕ → NamedType
no_parameters name = record { name = name; descriptor = codes "()Ljava/lang/String;" }

abbrev pub boolean_text : ℤ → List ℕ
boolean_text n = if same_int n (pos 0) then codes "false" else codes "true"

abbrev pub low_unit : ℤ → ℕ
low_unit n = cast_unsigned w32 n % 2 ^ 16

abbrev pub box_text : Primitive → Held → List ℕ
box_text boxed.Char (Int n) = low_unit n ∷ []
box_text boxed.Boolean (Int n) = boolean_text n
box_text type (Int n) = decimal n
box_text type (Long n) = decimal n
box_text type _ = []

-- the text that a toString of the library makes of an object
abbrev pub made_text : World → LibraryRule → Name → Option (List ℕ)
made_text w rule.Describe a = Some (class_text (class_of a) ++ 64 ∷ hexadecimal (number_of a))
made_text w rule.Copy a = units_at w a
made_text w (rule.DescribeBox type) a = Some (box_text type (read_field w a (value_field type)))
made_text w _ a = None

-- getMessage() of an exception that is being described
abbrev pub message_by : World → Name → Wait → Option LibraryRule → Method → Work
message_by w x rest (Some rule.Message) m = resume (Describes x rest) (read_field w x message_field) w
message_by w x rest (Some _) m = Misuses
message_by w x rest None m = Calls m x (Describes x rest) w

abbrev pub message_of_method : World → Name → Wait → Option Method → Work
message_of_method w x rest None = Misuses
message_of_method w x rest (Some m) = message_by w x rest m.rule m

abbrev pub ask_message : Classes → World → Name → Wait → Work
ask_message cs w x rest = message_of_method w x rest (cs.selected (class_of x) (no_parameters (codes "getMessage")))

abbrev pub finish_made : Wait → World → Option (List ℕ) → Work
finish_made wait w None = Misuses
finish_made wait w (Some units) = go_on (add_text w units) where
  go_on : Name × World → Work
  go_on made = finish_text wait (Some made.0) (Some units) made.1

-- toString() of an object within a call
abbrev pub text_by : Classes → World → Name → Wait → Option LibraryRule → Method → Work
text_by cs w a wait (Some rule.Itself) m = finish_text wait (Some a) (units_at w a) w
text_by cs w a wait (Some rule.DescribeThrowable) m = ask_message cs w a wait
text_by cs w a wait (Some r) m = finish_made wait w (made_text w r a)
text_by cs w a wait None m = Calls m a wait w

abbrev pub text_of_method : Classes → World → Name → Wait → Option Method → Work
text_of_method cs w a wait None = Misuses
text_of_method cs w a wait (Some m) = text_by cs w a wait m.rule m

abbrev pub ask_text : Classes → World → Name → Wait → Work
ask_text cs w a wait = text_of_method cs w a wait (cs.selected (class_of a) (no_parameters (codes "toString")))

-- the text of a value
abbrev pub spelled : Classes → World → Spelling → Held → Wait → Work
spelled cs w OfText v wait = text_argument w v (λ units. finish_units wait (text_or_null units) w)
spelled cs w OfObject Null wait = finish_units wait null_text w
spelled cs w OfObject (Pointer a) wait = ask_text cs w a wait
spelled cs w OfInt (Int n) wait = finish_units wait (decimal n) w
spelled cs w OfLong (Long n) wait = finish_units wait (decimal n) w
spelled cs w OfChar (Int n) wait = finish_units wait (low_unit n ∷ []) w
spelled cs w OfBoolean (Int n) wait = finish_units wait (boolean_text (low_bits Element.Boolean n)) w
spelled cs w _ _ wait = Misuses

-- ---- Object, Class and System

abbrev pub identity_hash : Name → Held
identity_hash a = Int (count_int (number_of a))

abbrev pub same_held : Name → Held → Bool
same_held a (Pointer b) = same_name a b
same_held a _ = false

abbrev pub class_name : World → Name → Work
class_name w (ClassObject class) = new_text (class_text class) w
class_name w _ = Misuses

abbrev pub not_found : Classes → World → Held → Work
not_found cs w name = given (make cs w (codes "java/lang/ClassNotFoundException")) where
  given : Name × World → Work
  given made = Throws made.0 (write_field made.1 made.0 message_field name)

abbrev pub for_name : Classes → World → Held → List ℕ → Work
for_name cs w name units = if is_unfit units then not_found cs w name else (if cs.knows (class_of_text units) then Loads (class_of_text units) else not_found cs w name)

-- ---- texts

abbrev pub char_at : World → Option ℕ → Work
char_at w None = Faults Fault.StringIndex
char_at w (Some unit) = gives (Int (pos unit)) w

abbrev pub char_in : World → List ℕ → ℤ → Work
char_in w units (pos i) = char_at w (slice_get units i)
char_in w units (negsuc i) = Faults Fault.StringIndex

abbrev pub same_units : World → List ℕ → Held → Bool
same_units w units (Pointer b) = is_string b && bytes_eq units (unwrap_or (units_at w b) [])
same_units w units _ = false

-- the sum of the units, each times 31 to the power of the number of units after it
abbrev pub text_hash : List ℕ → ℕ
text_hash [] = 0
text_hash (u ∷ units) = u * 31 ^ length units + text_hash units

abbrev pub substring : World → List ℕ → ℤ → ℤ → Work
substring w units (pos begin) (pos end) = if nat_le begin end && nat_le end (length units) then new_text (take (end - begin) (drop begin units)) w else Faults Fault.StringIndex
substring w units _ _ = Faults Fault.StringIndex

abbrev pub units_in : World → Name → List ℕ
units_in w a = unwrap_or (units_at w a) []

-- ---- boxes

abbrev pub truth_hash : ℤ → ℤ
truth_hash n = if same_int n (pos 0) then pos 1237 else pos 1231

-- the low 32 bits of the value xor its high half
abbrev pub long_hash : ℕ → ℤ
long_hash bits = count_int (bit_xor bits (bits / 2 ^ 32))

abbrev pub box_hash : Primitive → Held → Held
box_hash boxed.Boolean (Int n) = Int (truth_hash n)
box_hash type (Long n) = Int (long_hash (cast_unsigned w64 n))
box_hash type v = v

abbrev pub same_value : Held → Held → Bool
same_value (Int n) (Int m) = same_int n m
same_value (Long n) (Long m) = same_int n m
same_value (Float b) (Float c) = b == c
same_value (Double b) (Double c) = b == c
same_value _ _ = false

-- the same class and value
abbrev pub same_box : World → Primitive → Name → Held → Bool
same_box w type a (Pointer b) = bytes_eq (class_of b) (box_class type) && same_value (read_field w a (value_field type)) (read_field w b (value_field type))
same_box w type a _ = false

abbrev pub box_of : World → Primitive → Held → Name × World → Work
box_of w type v made = gives (Pointer made.0) (write_field made.1 made.0 (value_field type) (narrowed (element type) v))

-- ---- exceptions

abbrev pub set_cause : Classes → World → Name → Held → Held → Work
set_cause cs w x text (Pointer cause) = if cs.is_subtype (class_of cause) throwable_class then does (write_field (write_field w x message_field text) x cause_field (Pointer cause)) else Misuses
set_cause cs w x text Null = does (write_field (write_field w x message_field text) x cause_field Null)
set_cause cs w x text _ = Misuses

-- ---- all rules

-- of a method of an object, without further arguments
abbrev pub on_object : Classes → World → LibraryRule → Name → Work
on_object cs w rule.DoNothing a = does w
on_object cs w rule.IdentityHash a = gives (identity_hash a) w
on_object cs w rule.Describe a = finish_made Gives w (made_text w rule.Describe a)
on_object cs w rule.GetClass a = gives (Pointer (ClassObject (class_of a))) w
on_object cs w rule.ClassName a = class_name w a
on_object cs w rule.Length a = gives (Int (count_int (length (units_in w a)))) w
on_object cs w rule.TextHash a = gives (Int (count_int (text_hash (units_in w a)))) w
on_object cs w rule.Itself a = gives (Pointer a) w
on_object cs w rule.Copy a = finish_made Gives w (made_text w rule.Copy a)
on_object cs w rule.Message a = gives (read_field w a message_field) w
on_object cs w rule.Cause a = gives (read_field w a cause_field) w
on_object cs w rule.DescribeThrowable a = ask_message cs w a Gives
on_object cs w rule.PrintLine a = printed [] true w
on_object cs w (rule.Unbox type) a = gives (read_field w a (value_field type)) w
on_object cs w (rule.BoxHash type) a = gives (box_hash type (read_field w a (value_field type))) w
on_object cs w (rule.DescribeBox type) a = finish_made Gives w (made_text w (rule.DescribeBox type) a)
on_object cs w _ a = Misuses

-- of a method of an object, with one argument
abbrev pub with_argument : Classes → World → LibraryRule → Name → Held → Work
with_argument cs w rule.SameObject a v = gives (truth (same_held a v)) w
with_argument cs w rule.CharAt a (Int i) = char_in w (units_in w a) i
with_argument cs w rule.SameText a v = gives (truth (same_units w (units_in w a) v)) w
with_argument cs w rule.Concat a v = text_argument w v (λ text. unless_null_text text (λ units. new_text (units_in w a ++ units) w))
with_argument cs w rule.FillBuffer a v = text_argument w v (λ text. unless_null_text text (λ units. filled units a w))
with_argument cs w (rule.Append how) a v = spelled cs w how v (Appends a)
with_argument cs w rule.SetMessage a v = text_argument w v (λ text. does (write_field w a message_field v))
with_argument cs w (rule.Print how line) a v = spelled cs w how v (Prints line)
with_argument cs w (rule.SetBox type) a v = does (write_field w a (value_field type) (narrowed (element type) v))
with_argument cs w (rule.SameBox type) a v = gives (truth (same_box w type a v)) w
with_argument cs w _ a v = Misuses

-- of a method of an object, with two arguments
abbrev pub with_arguments : Classes → World → LibraryRule → Name → Held → Held → Work
with_arguments cs w rule.Substring a (Int begin) (Int end) = substring w (units_in w a) begin end
with_arguments cs w rule.SetMessageAndCause a text cause = text_argument w text (λ units. set_cause cs w a text cause)
with_arguments cs w _ a u v = Misuses

-- of a static method
abbrev pub by_static_rule : Classes → World → LibraryRule → List Held → Work
by_static_rule cs w rule.ForName (v ∷ []) = text_argument w v (λ text. unless_null_text text (λ units. for_name cs w v units))
by_static_rule cs w (rule.ValueOf how) (v ∷ []) = spelled cs w how v Gives
by_static_rule cs w rule.Exit (Int status ∷ []) = Exits status
by_static_rule cs w rule.HashOf (Null ∷ []) = gives (Int (pos 0)) w
by_static_rule cs w rule.HashOf (Pointer a ∷ []) = gives (identity_hash a) w
by_static_rule cs w (rule.BoxOf type) (v ∷ []) = box_of w type v (make cs w (box_class type))
by_static_rule cs w _ _ = Misuses

-- of a method of an object
abbrev pub by_rule : Classes → World → LibraryRule → Name → List Held → Work
by_rule cs w r a [] = on_object cs w r a
by_rule cs w r a (v ∷ []) = with_argument cs w r a v
by_rule cs w r a (u ∷ v ∷ []) = with_arguments cs w r a u v
by_rule cs w r a _ = Misuses
