-- What all work of the library is like.
use Rattle.std.specs.Prelude.{◌≡◌, ◌&&◌, ℕ, Bool, true, false, if◌then◌else◌, nat_le, List, [], ◌∷◌, ◌++◌, codes, length, take, drop, ◌-◌, slice_get, is_some, Option, Some, None, ℤ, pos, negsuc, refl}
use Rattle.std.proofs.Common.{◌∙◌}
use Rattle.class_file.specs.Pool.{Reference}
use Rattle.boot_library.specs.declared.rule.LibraryRule.{LibraryRule}
use Rattle.boot_library.specs.declared.rule.LibraryRule.TheVariants as rule
use Rattle.boot_library.specs.declared.rule.Spelling.{Spelling}
use Rattle.boot_library.specs.declared.rule.Spelling.TheVariants.{OfText, OfObject, OfInt, OfLong, OfChar, OfBoolean}
use Rattle.class_machine.specs.Classes.{Method, Classes}
use Rattle.class_machine.specs.LibraryCalls as calls
use Rattle.class_machine.specs.LibraryCalls.{Wait, Prints, Appends, Gives, Describes, Work, Results, Throws, Faults, Calls, Loads, Exits, Misuses}
use Rattle.class_machine.specs.Texts.{class_of_text, is_unfit}
use Rattle.class_machine.specs.Turn as turns
use Rattle.class_machine.specs.Values.{Name, class_of, throwable_class, Held, Int, Long, Float, Double, Null, Reference as Pointer, held_reference}
use Rattle.class_machine.specs.Values as machine
use Rattle.class_machine.specs.Numbers.{decimal}
use Rattle.class_machine.specs.Descriptors.{element, low_bits, narrowed}
use Rattle.class_machine.specs.declared.kinds.Element.{Element}
use Rattle.class_machine.specs.declared.kinds.Fault.{Fault}
use Rattle.class_machine.specs.World.{World, Object, Text, units_at, object_at, read_field, set_object, message_field, cause_field, value_field, box_class, written, write_field, add_text, make}
use Rattle.machine_works.specs.Finishing.{IsSound}

-- a write to a field leaves the answers
write_answers : (w : World) (a : Name) (r : Reference) (v : Held) → (write_field w a r v).answers ≡ w.answers
write_answers w a r v = by (object_at w a) where
  by : (o : Option Object) → (written w a r v o).answers ≡ w.answers
  by None = refl
  by (Some object) = refl

-- what comes of a buffer with that text
abbrev appended_to : List ℕ → Name → World → Option (List ℕ) → Work
appended_to units buffer w None = Misuses
appended_to units buffer w (Some old) = calls.gives (Pointer buffer) (set_object w buffer (Text (old ++ units)))

module _ (cs : Classes) where
  either : (w : World) (b : Bool) (one other : Work) → IsSound cs w one → IsSound cs w other → IsSound cs w (if b then one else other)
  either w true one other p q = p
  either w false one other p q = q

  -- what is sound in a world with the same answers is sound
  later : (w w' : World) → w'.answers ≡ w.answers → (x : Work) → IsSound cs w' x → IsSound cs w x
  later w w' e (Results said v u) h = h ∙ e
  later w w' e (Throws x u) h = (h.0 ∙ e, h.1)
  later w w' e (Faults fault) h = tt
  later w w' e (Calls m a wait u) h = h ∙ e
  later w w' e (Loads class) h = h
  later w w' e (Exits status) h = tt
  later w w' e Misuses h = tt

  -- ---- arguments

  text_argument : (w : World) (v : Held) (go : Option (List ℕ) → Work) → ((text : Option (List ℕ)) → IsSound cs w (go text)) → IsSound cs w (calls.text_argument w v go)
  text_argument w Null go h = h None
  text_argument w (Pointer a) go h = either w (calls.is_string a) (go (units_at w a)) Misuses (h (units_at w a)) tt
  text_argument w (Int n) go h = tt
  text_argument w (Long n) go h = tt
  text_argument w (Float n) go h = tt
  text_argument w (Double n) go h = tt

  unless_null : (w : World) (text : Option (List ℕ)) (go : List ℕ → Work) → ((units : List ℕ) → IsSound cs w (go units)) → IsSound cs w (calls.unless_null_text text go)
  unless_null w None go h = tt
  unless_null w (Some units) go h = h units

  -- ---- texts

  appended : (units : List ℕ) (buffer : Name) (w : World) → IsSound cs w (calls.appended units buffer w)
  appended units buffer w = by (units_at w buffer) where
    by : (o : Option (List ℕ)) → IsSound cs w (appended_to units buffer w o)
    by None = tt
    by (Some old) = refl

  finish_units : (wait : Wait) (units : List ℕ) (w : World) → IsSound cs w (calls.finish_units wait units w)
  finish_units (Prints line) units w = refl
  finish_units (Appends buffer) units w = appended units buffer w
  finish_units Gives units w = refl
  finish_units (Describes x rest) units w = tt

  finish_text : (wait : Wait) (a : Option Name) (units : Option (List ℕ)) (w : World) → IsSound cs w (calls.finish_text wait a units w)
  finish_text (Prints line) a units w = refl
  finish_text (Appends buffer) a units w = appended (calls.text_or_null units) buffer w
  finish_text Gives a units w = refl
  finish_text (Describes x rest) a units w =
      let made = add_text w (calls.described x units) in
      later w made.1 refl (calls.finish_text rest (Some made.0) (Some (calls.described x units)) made.1) (finish_text rest (Some made.0) (Some (calls.described x units)) made.1)

  -- a text came that a call waited for
  pub resumed : (wait : Wait) (v : Held) (w : World) → IsSound cs w (calls.resume wait v w)
  resumed wait v w = text_argument w v (λ units. calls.finish_text wait (calls.named v) units w) (λ units. finish_text wait (calls.named v) units w)

  finish_made : (wait : Wait) (w : World) (units : Option (List ℕ)) → IsSound cs w (calls.finish_made wait w units)
  finish_made wait w None = tt
  finish_made wait w (Some units) =
      let made = add_text w units in
      later w made.1 refl (calls.finish_text wait (Some made.0) (Some units) made.1) (finish_text wait (Some made.0) (Some units) made.1)

  message_by : (w : World) (x : Name) (rest : Wait) (r : Option LibraryRule) (m : Method) → IsSound cs w (calls.message_by w x rest r m)
  message_by w x rest None m = refl
  message_by w x rest (Some rule.DoNothing) m = tt
  message_by w x rest (Some rule.SameObject) m = tt
  message_by w x rest (Some rule.IdentityHash) m = tt
  message_by w x rest (Some rule.Describe) m = tt
  message_by w x rest (Some rule.GetClass) m = tt
  message_by w x rest (Some rule.ClassName) m = tt
  message_by w x rest (Some rule.ForName) m = tt
  message_by w x rest (Some rule.Length) m = tt
  message_by w x rest (Some rule.CharAt) m = tt
  message_by w x rest (Some rule.SameText) m = tt
  message_by w x rest (Some rule.TextHash) m = tt
  message_by w x rest (Some rule.Concat) m = tt
  message_by w x rest (Some rule.Substring) m = tt
  message_by w x rest (Some rule.Itself) m = tt
  message_by w x rest (Some (rule.ValueOf y)) m = tt
  message_by w x rest (Some rule.FillBuffer) m = tt
  message_by w x rest (Some (rule.Append y)) m = tt
  message_by w x rest (Some rule.Copy) m = tt
  message_by w x rest (Some rule.SetMessage) m = tt
  message_by w x rest (Some rule.SetMessageAndCause) m = tt
  message_by w x rest (Some rule.Message) m = resumed (Describes x rest) (read_field w x message_field) w
  message_by w x rest (Some rule.Cause) m = tt
  message_by w x rest (Some rule.DescribeThrowable) m = tt
  message_by w x rest (Some rule.Exit) m = tt
  message_by w x rest (Some rule.HashOf) m = tt
  message_by w x rest (Some (rule.Print how line)) m = tt
  message_by w x rest (Some rule.PrintLine) m = tt
  message_by w x rest (Some (rule.SetBox y)) m = tt
  message_by w x rest (Some (rule.BoxOf y)) m = tt
  message_by w x rest (Some (rule.Unbox y)) m = tt
  message_by w x rest (Some (rule.SameBox y)) m = tt
  message_by w x rest (Some (rule.BoxHash y)) m = tt
  message_by w x rest (Some (rule.DescribeBox y)) m = tt

  message_of : (w : World) (x : Name) (rest : Wait) (m : Option Method) → IsSound cs w (calls.message_of_method w x rest m)
  message_of w x rest None = tt
  message_of w x rest (Some m) = message_by w x rest m.rule m

  ask_message : (w : World) (x : Name) (rest : Wait) → IsSound cs w (calls.ask_message cs w x rest)
  ask_message w x rest = message_of w x rest (cs.selected (class_of x) (calls.no_parameters (codes "getMessage")))

  text_by : (w : World) (a : Name) (wait : Wait) (r : Option LibraryRule) (m : Method) → IsSound cs w (calls.text_by cs w a wait r m)
  text_by w a wait None m = refl
  text_by w a wait (Some rule.DoNothing) m = finish_made wait w (calls.made_text w rule.DoNothing a)
  text_by w a wait (Some rule.SameObject) m = finish_made wait w (calls.made_text w rule.SameObject a)
  text_by w a wait (Some rule.IdentityHash) m = finish_made wait w (calls.made_text w rule.IdentityHash a)
  text_by w a wait (Some rule.Describe) m = finish_made wait w (calls.made_text w rule.Describe a)
  text_by w a wait (Some rule.GetClass) m = finish_made wait w (calls.made_text w rule.GetClass a)
  text_by w a wait (Some rule.ClassName) m = finish_made wait w (calls.made_text w rule.ClassName a)
  text_by w a wait (Some rule.ForName) m = finish_made wait w (calls.made_text w rule.ForName a)
  text_by w a wait (Some rule.Length) m = finish_made wait w (calls.made_text w rule.Length a)
  text_by w a wait (Some rule.CharAt) m = finish_made wait w (calls.made_text w rule.CharAt a)
  text_by w a wait (Some rule.SameText) m = finish_made wait w (calls.made_text w rule.SameText a)
  text_by w a wait (Some rule.TextHash) m = finish_made wait w (calls.made_text w rule.TextHash a)
  text_by w a wait (Some rule.Concat) m = finish_made wait w (calls.made_text w rule.Concat a)
  text_by w a wait (Some rule.Substring) m = finish_made wait w (calls.made_text w rule.Substring a)
  text_by w a wait (Some rule.Itself) m = finish_text wait (Some a) (units_at w a) w
  text_by w a wait (Some (rule.ValueOf x)) m = finish_made wait w (calls.made_text w (rule.ValueOf x) a)
  text_by w a wait (Some rule.FillBuffer) m = finish_made wait w (calls.made_text w rule.FillBuffer a)
  text_by w a wait (Some (rule.Append x)) m = finish_made wait w (calls.made_text w (rule.Append x) a)
  text_by w a wait (Some rule.Copy) m = finish_made wait w (calls.made_text w rule.Copy a)
  text_by w a wait (Some rule.SetMessage) m = finish_made wait w (calls.made_text w rule.SetMessage a)
  text_by w a wait (Some rule.SetMessageAndCause) m = finish_made wait w (calls.made_text w rule.SetMessageAndCause a)
  text_by w a wait (Some rule.Message) m = finish_made wait w (calls.made_text w rule.Message a)
  text_by w a wait (Some rule.Cause) m = finish_made wait w (calls.made_text w rule.Cause a)
  text_by w a wait (Some rule.DescribeThrowable) m = ask_message w a wait
  text_by w a wait (Some rule.Exit) m = finish_made wait w (calls.made_text w rule.Exit a)
  text_by w a wait (Some rule.HashOf) m = finish_made wait w (calls.made_text w rule.HashOf a)
  text_by w a wait (Some (rule.Print how line)) m = finish_made wait w (calls.made_text w (rule.Print how line) a)
  text_by w a wait (Some rule.PrintLine) m = finish_made wait w (calls.made_text w rule.PrintLine a)
  text_by w a wait (Some (rule.SetBox x)) m = finish_made wait w (calls.made_text w (rule.SetBox x) a)
  text_by w a wait (Some (rule.BoxOf x)) m = finish_made wait w (calls.made_text w (rule.BoxOf x) a)
  text_by w a wait (Some (rule.Unbox x)) m = finish_made wait w (calls.made_text w (rule.Unbox x) a)
  text_by w a wait (Some (rule.SameBox x)) m = finish_made wait w (calls.made_text w (rule.SameBox x) a)
  text_by w a wait (Some (rule.BoxHash x)) m = finish_made wait w (calls.made_text w (rule.BoxHash x) a)
  text_by w a wait (Some (rule.DescribeBox x)) m = finish_made wait w (calls.made_text w (rule.DescribeBox x) a)

  text_of : (w : World) (a : Name) (wait : Wait) (m : Option Method) → IsSound cs w (calls.text_of_method cs w a wait m)
  text_of w a wait None = tt
  text_of w a wait (Some m) = text_by w a wait m.rule m

  ask_text : (w : World) (a : Name) (wait : Wait) → IsSound cs w (calls.ask_text cs w a wait)
  ask_text w a wait = text_of w a wait (cs.selected (class_of a) (calls.no_parameters (codes "toString")))

  spelled : (w : World) (how : Spelling) (v : Held) (wait : Wait) → IsSound cs w (calls.spelled cs w how v wait)
  spelled w OfText v wait = text_argument w v (λ units. calls.finish_units wait (calls.text_or_null units) w) (λ units. finish_units wait (calls.text_or_null units) w)
  spelled w OfObject (Int n) wait = tt
  spelled w OfObject (Long n) wait = tt
  spelled w OfObject (Float n) wait = tt
  spelled w OfObject (Double n) wait = tt
  spelled w OfObject Null wait = finish_units wait calls.null_text w
  spelled w OfObject (Pointer a) wait = ask_text w a wait
  spelled w OfInt (Int n) wait = finish_units wait (decimal n) w
  spelled w OfInt (Long n) wait = tt
  spelled w OfInt (Float n) wait = tt
  spelled w OfInt (Double n) wait = tt
  spelled w OfInt Null wait = tt
  spelled w OfInt (Pointer a) wait = tt
  spelled w OfLong (Int n) wait = tt
  spelled w OfLong (Long n) wait = finish_units wait (decimal n) w
  spelled w OfLong (Float n) wait = tt
  spelled w OfLong (Double n) wait = tt
  spelled w OfLong Null wait = tt
  spelled w OfLong (Pointer a) wait = tt
  spelled w OfChar (Int n) wait = finish_units wait (calls.low_unit n ∷ []) w
  spelled w OfChar (Long n) wait = tt
  spelled w OfChar (Float n) wait = tt
  spelled w OfChar (Double n) wait = tt
  spelled w OfChar Null wait = tt
  spelled w OfChar (Pointer a) wait = tt
  spelled w OfBoolean (Int n) wait = finish_units wait (calls.boolean_text (low_bits Element.Boolean n)) w
  spelled w OfBoolean (Long n) wait = tt
  spelled w OfBoolean (Float n) wait = tt
  spelled w OfBoolean (Double n) wait = tt
  spelled w OfBoolean Null wait = tt
  spelled w OfBoolean (Pointer a) wait = tt

  -- ---- classes, texts and exceptions

  class_name : (w : World) (a : Name) → IsSound cs w (calls.class_name w a)
  class_name w (machine.ClassObject class) = refl
  class_name w (machine.Made class k) = tt
  class_name w (machine.Literal text) = tt

  not_found : (w : World) (name : Held) → IsSound cs w (calls.not_found cs w name)
  not_found w name =
      let made = make cs w (codes "java/lang/ClassNotFoundException") in
      (write_answers made.1 made.0 message_field name, refl)

  for_known : (w : World) (name : Held) (class : List ℕ) (b : Bool) → cs.knows class ≡ b → IsSound cs w (if b then Loads class else calls.not_found cs w name)
  for_known w name class true e = e
  for_known w name class false e = not_found w name

  for_name : (w : World) (name : Held) (units : List ℕ) → IsSound cs w (calls.for_name cs w name units)
  for_name w name units =
      either w (is_unfit units) (calls.not_found cs w name) (if cs.knows (class_of_text units) then Loads (class_of_text units) else calls.not_found cs w name) (not_found w name)
      (for_known w name (class_of_text units) (cs.knows (class_of_text units)) refl)

  char_at : (w : World) (unit : Option ℕ) → IsSound cs w (calls.char_at w unit)
  char_at w None = tt
  char_at w (Some unit) = refl

  char_in : (w : World) (units : List ℕ) (i : ℤ) → IsSound cs w (calls.char_in w units i)
  char_in w units (pos i) = char_at w (slice_get units i)
  char_in w units (negsuc i) = tt

  substring : (w : World) (units : List ℕ) (begin end : ℤ) → IsSound cs w (calls.substring w units begin end)
  substring w units (pos begin) (pos end) =
      either w (nat_le begin end && nat_le end (length units)) (calls.new_text (take (end - begin) (drop begin units)) w) (Faults Fault.StringIndex) refl tt
  substring w units (pos begin) (negsuc end) = tt
  substring w units (negsuc begin) (pos end) = tt
  substring w units (negsuc begin) (negsuc end) = tt

  both_written : (w : World) (x : Name) (text cause : Held) → (write_field (write_field w x message_field text) x cause_field cause).answers ≡ w.answers
  both_written w x text cause = write_answers (write_field w x message_field text) x cause_field cause ∙ write_answers w x message_field text

  set_cause : (w : World) (x : Name) (text cause : Held) → IsSound cs w (calls.set_cause cs w x text cause)
  set_cause w x text (Pointer cause) =
      either w (cs.is_subtype (class_of cause) throwable_class) (calls.does (write_field (write_field w x message_field text) x cause_field (Pointer cause))) Misuses
      (both_written w x text (Pointer cause)) tt
  set_cause w x text Null = both_written w x text Null
  set_cause w x text (Int n) = tt
  set_cause w x text (Long n) = tt
  set_cause w x text (Float n) = tt
  set_cause w x text (Double n) = tt

  -- ---- all rules

  on_object : (w : World) (r : LibraryRule) (a : Name) → IsSound cs w (calls.on_object cs w r a)
  on_object w rule.DoNothing a = refl
  on_object w rule.SameObject a = tt
  on_object w rule.IdentityHash a = refl
  on_object w rule.Describe a = finish_made Gives w (calls.made_text w rule.Describe a)
  on_object w rule.GetClass a = refl
  on_object w rule.ClassName a = class_name w a
  on_object w rule.ForName a = tt
  on_object w rule.Length a = refl
  on_object w rule.CharAt a = tt
  on_object w rule.SameText a = tt
  on_object w rule.TextHash a = refl
  on_object w rule.Concat a = tt
  on_object w rule.Substring a = tt
  on_object w rule.Itself a = refl
  on_object w (rule.ValueOf x) a = tt
  on_object w rule.FillBuffer a = tt
  on_object w (rule.Append x) a = tt
  on_object w rule.Copy a = finish_made Gives w (calls.made_text w rule.Copy a)
  on_object w rule.SetMessage a = tt
  on_object w rule.SetMessageAndCause a = tt
  on_object w rule.Message a = refl
  on_object w rule.Cause a = refl
  on_object w rule.DescribeThrowable a = ask_message w a Gives
  on_object w rule.Exit a = tt
  on_object w rule.HashOf a = tt
  on_object w (rule.Print how line) a = tt
  on_object w rule.PrintLine a = refl
  on_object w (rule.SetBox x) a = tt
  on_object w (rule.BoxOf x) a = tt
  on_object w (rule.Unbox x) a = refl
  on_object w (rule.SameBox x) a = tt
  on_object w (rule.BoxHash x) a = refl
  on_object w (rule.DescribeBox x) a = finish_made Gives w (calls.made_text w (rule.DescribeBox x) a)

  with_argument : (w : World) (r : LibraryRule) (a : Name) (v : Held) → IsSound cs w (calls.with_argument cs w r a v)
  with_argument w rule.DoNothing a v = tt
  with_argument w rule.SameObject a v = refl
  with_argument w rule.IdentityHash a v = tt
  with_argument w rule.Describe a v = tt
  with_argument w rule.GetClass a v = tt
  with_argument w rule.ClassName a v = tt
  with_argument w rule.ForName a v = tt
  with_argument w rule.Length a v = tt
  with_argument w rule.CharAt a (Int n) = char_in w (calls.units_in w a) n
  with_argument w rule.CharAt a (Long n) = tt
  with_argument w rule.CharAt a (Float n) = tt
  with_argument w rule.CharAt a (Double n) = tt
  with_argument w rule.CharAt a Null = tt
  with_argument w rule.CharAt a (Pointer b) = tt
  with_argument w rule.SameText a v = refl
  with_argument w rule.TextHash a v = tt
  with_argument w rule.Concat a v = text_argument w v (λ text. calls.unless_null_text text (λ units. calls.new_text (calls.units_in w a ++ units) w)) (λ text. unless_null w text (λ units. calls.new_text (calls.units_in w a ++ units) w) (λ units. refl))
  with_argument w rule.Substring a v = tt
  with_argument w rule.Itself a v = tt
  with_argument w (rule.ValueOf x) a v = tt
  with_argument w rule.FillBuffer a v =
      text_argument w v (λ text. calls.unless_null_text text (λ units. calls.filled units a w)) (λ text.
      unless_null w text (λ units. calls.filled units a w) (λ units. either w (is_some (units_at w a)) (calls.does (set_object w a (Text units))) Misuses refl tt))
  with_argument w (rule.Append x) a v = spelled w x v (Appends a)
  with_argument w rule.Copy a v = tt
  with_argument w rule.SetMessage a v = text_argument w v (λ text. calls.does (write_field w a message_field v)) (λ text. write_answers w a message_field v)
  with_argument w rule.SetMessageAndCause a v = tt
  with_argument w rule.Message a v = tt
  with_argument w rule.Cause a v = tt
  with_argument w rule.DescribeThrowable a v = tt
  with_argument w rule.Exit a v = tt
  with_argument w rule.HashOf a v = tt
  with_argument w (rule.Print how line) a v = spelled w how v (Prints line)
  with_argument w rule.PrintLine a v = tt
  with_argument w (rule.SetBox x) a v = write_answers w a (value_field x) (narrowed (element x) v)
  with_argument w (rule.BoxOf x) a v = tt
  with_argument w (rule.Unbox x) a v = tt
  with_argument w (rule.SameBox x) a v = refl
  with_argument w (rule.BoxHash x) a v = tt
  with_argument w (rule.DescribeBox x) a v = tt

  with_arguments : (w : World) (r : LibraryRule) (a : Name) (u v : Held) → IsSound cs w (calls.with_arguments cs w r a u v)
  with_arguments w rule.DoNothing a u v = tt
  with_arguments w rule.SameObject a u v = tt
  with_arguments w rule.IdentityHash a u v = tt
  with_arguments w rule.Describe a u v = tt
  with_arguments w rule.GetClass a u v = tt
  with_arguments w rule.ClassName a u v = tt
  with_arguments w rule.ForName a u v = tt
  with_arguments w rule.Length a u v = tt
  with_arguments w rule.CharAt a u v = tt
  with_arguments w rule.SameText a u v = tt
  with_arguments w rule.TextHash a u v = tt
  with_arguments w rule.Concat a u v = tt
  with_arguments w rule.Substring a (Int n) (Int m) = substring w (calls.units_in w a) n m
  with_arguments w rule.Substring a (Int n) (Long m) = tt
  with_arguments w rule.Substring a (Int n) (Float m) = tt
  with_arguments w rule.Substring a (Int n) (Double m) = tt
  with_arguments w rule.Substring a (Int n) Null = tt
  with_arguments w rule.Substring a (Int n) (Pointer c) = tt
  with_arguments w rule.Substring a (Long n) v = tt
  with_arguments w rule.Substring a (Float n) v = tt
  with_arguments w rule.Substring a (Double n) v = tt
  with_arguments w rule.Substring a Null v = tt
  with_arguments w rule.Substring a (Pointer b) v = tt
  with_arguments w rule.Itself a u v = tt
  with_arguments w (rule.ValueOf x) a u v = tt
  with_arguments w rule.FillBuffer a u v = tt
  with_arguments w (rule.Append x) a u v = tt
  with_arguments w rule.Copy a u v = tt
  with_arguments w rule.SetMessage a u v = tt
  with_arguments w rule.SetMessageAndCause a u v = text_argument w u (λ units. calls.set_cause cs w a u v) (λ units. set_cause w a u v)
  with_arguments w rule.Message a u v = tt
  with_arguments w rule.Cause a u v = tt
  with_arguments w rule.DescribeThrowable a u v = tt
  with_arguments w rule.Exit a u v = tt
  with_arguments w rule.HashOf a u v = tt
  with_arguments w (rule.Print how line) a u v = tt
  with_arguments w rule.PrintLine a u v = tt
  with_arguments w (rule.SetBox x) a u v = tt
  with_arguments w (rule.BoxOf x) a u v = tt
  with_arguments w (rule.Unbox x) a u v = tt
  with_arguments w (rule.SameBox x) a u v = tt
  with_arguments w (rule.BoxHash x) a u v = tt
  with_arguments w (rule.DescribeBox x) a u v = tt

  by_static_rule : (w : World) (r : LibraryRule) (given : List Held) → IsSound cs w (calls.by_static_rule cs w r given)
  by_static_rule w rule.DoNothing given = tt
  by_static_rule w rule.SameObject given = tt
  by_static_rule w rule.IdentityHash given = tt
  by_static_rule w rule.Describe given = tt
  by_static_rule w rule.GetClass given = tt
  by_static_rule w rule.ClassName given = tt
  by_static_rule w rule.ForName [] = tt
  by_static_rule w rule.ForName (v ∷ []) = text_argument w v (λ text. calls.unless_null_text text (λ units. calls.for_name cs w v units)) (λ text. unless_null w text (λ units. calls.for_name cs w v units) (λ units. for_name w v units))
  by_static_rule w rule.ForName (v ∷ u ∷ given) = tt
  by_static_rule w rule.Length given = tt
  by_static_rule w rule.CharAt given = tt
  by_static_rule w rule.SameText given = tt
  by_static_rule w rule.TextHash given = tt
  by_static_rule w rule.Concat given = tt
  by_static_rule w rule.Substring given = tt
  by_static_rule w rule.Itself given = tt
  by_static_rule w (rule.ValueOf x) [] = tt
  by_static_rule w (rule.ValueOf x) (v ∷ []) = spelled w x v Gives
  by_static_rule w (rule.ValueOf x) (v ∷ u ∷ given) = tt
  by_static_rule w rule.FillBuffer given = tt
  by_static_rule w (rule.Append x) given = tt
  by_static_rule w rule.Copy given = tt
  by_static_rule w rule.SetMessage given = tt
  by_static_rule w rule.SetMessageAndCause given = tt
  by_static_rule w rule.Message given = tt
  by_static_rule w rule.Cause given = tt
  by_static_rule w rule.DescribeThrowable given = tt
  by_static_rule w rule.Exit [] = tt
  by_static_rule w rule.Exit ((Int n) ∷ []) = tt
  by_static_rule w rule.Exit ((Long n) ∷ []) = tt
  by_static_rule w rule.Exit ((Float n) ∷ []) = tt
  by_static_rule w rule.Exit ((Double n) ∷ []) = tt
  by_static_rule w rule.Exit (Null ∷ []) = tt
  by_static_rule w rule.Exit ((Pointer a) ∷ []) = tt
  by_static_rule w rule.Exit (Int n ∷ u ∷ given) = tt
  by_static_rule w rule.Exit (Long n ∷ u ∷ given) = tt
  by_static_rule w rule.Exit (Float n ∷ u ∷ given) = tt
  by_static_rule w rule.Exit (Double n ∷ u ∷ given) = tt
  by_static_rule w rule.Exit (Null ∷ u ∷ given) = tt
  by_static_rule w rule.Exit (Pointer a ∷ u ∷ given) = tt
  by_static_rule w rule.HashOf [] = tt
  by_static_rule w rule.HashOf ((Int n) ∷ []) = tt
  by_static_rule w rule.HashOf ((Long n) ∷ []) = tt
  by_static_rule w rule.HashOf ((Float n) ∷ []) = tt
  by_static_rule w rule.HashOf ((Double n) ∷ []) = tt
  by_static_rule w rule.HashOf (Null ∷ []) = refl
  by_static_rule w rule.HashOf ((Pointer a) ∷ []) = refl
  by_static_rule w rule.HashOf (Int n ∷ u ∷ given) = tt
  by_static_rule w rule.HashOf (Long n ∷ u ∷ given) = tt
  by_static_rule w rule.HashOf (Float n ∷ u ∷ given) = tt
  by_static_rule w rule.HashOf (Double n ∷ u ∷ given) = tt
  by_static_rule w rule.HashOf (Null ∷ u ∷ given) = tt
  by_static_rule w rule.HashOf (Pointer a ∷ u ∷ given) = tt
  by_static_rule w (rule.Print how line) given = tt
  by_static_rule w rule.PrintLine given = tt
  by_static_rule w (rule.SetBox x) given = tt
  by_static_rule w (rule.BoxOf x) [] = tt
  by_static_rule w (rule.BoxOf x) (v ∷ []) =
      let made = make cs w (box_class x) in
      write_answers made.1 made.0 (value_field x) (narrowed (element x) v)
  by_static_rule w (rule.BoxOf x) (v ∷ u ∷ given) = tt
  by_static_rule w (rule.Unbox x) given = tt
  by_static_rule w (rule.SameBox x) given = tt
  by_static_rule w (rule.BoxHash x) given = tt
  by_static_rule w (rule.DescribeBox x) given = tt

  by_rule : (w : World) (r : LibraryRule) (a : Name) (given : List Held) → IsSound cs w (calls.by_rule cs w r a given)
  by_rule w r a [] = on_object w r a
  by_rule w r a (v ∷ []) = with_argument w r a v
  by_rule w r a (u ∷ v ∷ []) = with_arguments w r a u v
  by_rule w r a (u ∷ v ∷ x ∷ given) = tt

module _ {P : Type 0} (code : turns.Code P) (cs : Classes) where
  -- what a call of a method of the library comes to
  pub ruled : (w : World) (r : LibraryRule) (receiver : Option Name) (given : List Held) → IsSound cs w (turns.ruled code cs w r receiver given)
  ruled w r None given = by_static_rule cs w r given
  ruled w r (Some a) given = by_rule cs w r a given
