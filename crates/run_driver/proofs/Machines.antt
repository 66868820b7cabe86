-- Every program has a machine: its fields and methods have names by their numbers.
use Rattle.std.specs.Prelude.{◌≡◌, ℕ, zero, suc, ◌+◌, ◌<◌, List, [], ◌∷◌, ◌++◌, map, take, length, slice_get, Option, Some, option_and_then, refl}
use Rattle.std.specs.List.{flat_map, sum}
use Rattle.std.specs.Option.{option_map, unwrap_or}
use Rattle.std.proofs.Common.{sym, ◌∙◌, ap, subst, arith}
use Rattle.std.proofs.lemmas.List.{length-map}
use Rattle.std.proofs.lemmas.List.Sums.{sum_by-cons}
use Rattle.std.proofs.lemmas.Option.{none-some, same_Some, slice_get-map, slice_get_within}
use Rattle.class_file.specs.Pool.{Reference}
use Rattle.class_heads.specs.declared.types.FieldHead.{FieldHead}
use Rattle.class_heads.specs.declared.types.MethodHead.{MethodHead}
use Rattle.class_heads.specs.declared.types.ClassHead.{ClassHead}
use Rattle.class_heads.specs.Numbers.{number_of, field_counts, method_counts}
use Rattle.class_heads.specs.Searches.{MemberPlace, in_class}
use Rattle.class_world.specs.Tables.{Known}
use Rattle.class_machine.specs.Classes.{Method, Classes, reference}
use Rattle.class_machine.specs.ClassFiles.{class_code, field_constant}
use Rattle.class_machine.specs.Declarations.{declared_in, classes_of}
use Rattle.class_machine.specs.Events as events
use Rattle.class_machine.specs.Machine.{step}
use Rattle.class_machine.specs.Run.{class_observation}
use Rattle.class_machine.specs.Start.{EntryArgument, start}
use Rattle.event_machine.specs.Observation.{observed}
use Rattle.machine_code.specs.CodeLaws.{method_seen, method_is, name_is}
use Rattle.machine_code.specs.Programs.{IsFirst, method_name}
use Rattle.machine_fields.specs.FieldLaws.{IsFirstField, first_field_named, found_is_first, fields_apart}
use Rattle.machine_fields.specs.ProgramLaws.{program_is_distinct}
use Rattle.machine_fields.specs.Settings.{world_setting}
use Rattle.machine_invocations.specs.Invoked.{step_of}
use Rattle.machine_invocations.specs.Methods.{Sees}
use Rattle.machine_steps.specs.Programs.{field_in_class, field_name, Machine, IsMachine, IsRunnable}
use Rattle.machine_steps.specs.Runs.{IsMethod}
use Rattle.run_driver.specs.declared.report.Report.{Report}
use Rattle.run_driver.specs.Reports.{Reports}

-- ---- names of methods by their numbers

names_in : ClassHead → List Reference
names_in c = map (λ (m : MethodHead). declared_in c.name m.name) c.methods

all_names : List ClassHead → List Reference
all_names heads = flat_map names_in heads

name_by_number : List ClassHead → ℕ → Reference
name_by_number heads n = unwrap_or (slice_get (all_names heads) n) (reference [] [] [])

get_front : {X : Type 0} (xs ys : List X) (k : ℕ) → k < length xs → slice_get (xs ++ ys) k ≡ slice_get xs k
get_front [] ys k lt = absurd (omega arith)
get_front (x ∷ xs) ys zero lt = refl
get_front (x ∷ xs) ys (suc k) lt = get_front xs ys k (omega arith)

get_behind : {X : Type 0} (xs ys : List X) (k : ℕ) → slice_get (xs ++ ys) (length xs + k) ≡ slice_get ys k
get_behind [] ys k = ap (slice_get ys) (let e : 0 + k ≡ k = omega arith in e)
get_behind (x ∷ xs) ys k = ap (slice_get (x ∷ xs ++ ys)) (let e : suc (length xs) + k ≡ suc (length xs + k) = omega arith in e) ∙ get_behind xs ys k

names_length : (c : ClassHead) → length (names_in c) ≡ length c.methods
unfolding names_in
names_length c = length-map c.methods (λ (m : MethodHead). declared_in c.name m.name)

name_at : (c : ClassHead) (i : ℕ) (m : MethodHead) → slice_get c.methods i ≡ Some m → slice_get (names_in c) i ≡ Some (declared_in c.name m.name)
unfolding names_in
name_at c i m at = slice_get-map (λ (x : MethodHead). declared_in c.name x.name) c.methods i ∙ ap (option_map (λ (x : MethodHead). declared_in c.name x.name)) at

method_there : (heads : List ClassHead) (c : ClassHead) (m : MethodHead) (p i : ℕ) → slice_get heads p ≡ Some c → slice_get c.methods i ≡ Some m
    → slice_get (all_names heads) (number_of (method_counts heads) (in_class p i)) ≡ Some (declared_in c.name m.name)
unfolding all_names
method_there [] c m p i at stands = absurd (none-some c at)
method_there (d ∷ heads) c m zero i at stands =
    let same : d ≡ c = same_Some d c at in
    let here : slice_get d.methods i ≡ Some m = ap (λ (x : ClassHead). slice_get x.methods i) same ∙ stands in
    let within = slice_get_within d.methods i m here in
    let size = names_length d in
    ap (slice_get (all_names (d ∷ heads))) (let e : 0 + i ≡ i = omega arith in e)
    ∙ get_front (names_in d) (all_names heads) i (omega arith)
    ∙ name_at d i m here ∙ ap (λ (x : ClassHead). Some (declared_in x.name m.name)) same
method_there (d ∷ heads) c m (suc p) i at stands =
    let size = names_length d in
    let total = sum_by-cons (λ n. n) (length d.methods) (take p (method_counts heads)) in
    let number : number_of (method_counts (d ∷ heads)) (in_class (suc p) i) ≡ length (names_in d) + number_of (method_counts heads) (in_class p i) = omega arith in
    ap (slice_get (all_names (d ∷ heads))) number
    ∙ get_behind (names_in d) (all_names heads) (number_of (method_counts heads) (in_class p i))
    ∙ method_there heads c m p i at stands

module _ (k : Known) where
  -- a method as the machine sees it
  abbrev seen : (place : MemberPlace) → IsFirst k.heads place → Method
  seen place first = method_seen k.heads (length k.files) (field_constant k.files) place first

  method_named : (place : MemberPlace) → IsFirst k.heads place → name_by_number k.heads (number_of (method_counts k.heads) place) ≡ method_name k.heads place
  unfolding name_by_number
  method_named place first =
      ap (λ (o : Option Reference). unwrap_or o (reference [] [] [])) (method_there k.heads first.head first.method place.class place.position first.class first.stands)
      ∙ sym (name_is k.heads (length k.files) (field_constant k.files) place first)

  field_named : (place : MemberPlace) (first : IsFirstField k.heads place) → field_name k.heads place ≡ declared_in first.head.name first.field.name
  field_named place first =
      ap (λ (o : Option ClassHead). unwrap_or (option_and_then (field_in_class place.position) o) (reference [] [] [])) first.class
      ∙ ap (λ (o : Option FieldHead). unwrap_or (option_map (λ (f : FieldHead). declared_in first.head.name f.name) o) (reference [] [] [])) first.stands

  pub machine : Machine
  machine = record { files = k.files; setting = world_setting k; methods = name_by_number k.heads }

  pub is_machine : IsRunnable k → IsMachine k machine
  unfolding machine
  is_machine runnable =
      let distinct = program_is_distinct k.files k.heads runnable.library runnable.program.different runnable.program.formed in
      record {
        files = refl;
        heads = refl;
        classes = refl;
        distinct = distinct;
        apart = fields_apart k (sum (field_counts k.heads)) distinct;
        fields = λ class member f found.
            let first = (found_is_first k.heads class member f found).first in
            first_field_named k.heads f first ∙ sym (field_named f first);
        methods = method_named;
      }

  -- a method of the world is seen
  pub method_of : (number : ℕ) → IsMethod k number → Method
  method_of number is = seen is.place is.first

  pub sees_method : (number : ℕ) (is : IsMethod k number) → Sees k number (method_of number is)
  unfolding method_of
  sees_method number is = record { place = is.place; first = is.first; numbered = is.numbered; seen = method_is k.heads (length k.files) (field_constant k.files) is.place is.first }

  -- what is observed of the machine is what is observed of the class files
  pub observed_so : IsRunnable k → (answers : List events.Answer) (method : Method) (words : List EntryArgument) (given : ℕ) (report : Report)
      → Reports (λ n. observed (step_of machine) n (start (class_code machine.files) machine.setting.classes answers method words)) given report
      → Reports (class_observation k.files answers method words) given report
  unfolding machine
  observed_so runnable answers method words given report reports =
      let classes : List ClassHead → Classes = λ heads. classes_of heads (length k.files) (field_constant k.files) in
      subst (λ (heads : List ClassHead). Reports (λ n. observed (step (class_code k.files) (classes heads)) n (start (class_code k.files) (classes heads) answers method words)) given report) runnable.library reports
