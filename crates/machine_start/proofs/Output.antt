-- The heap with the object of System.out, and no other.
use Rattle.std.specs.Prelude.{◌≡◌, ℕ, zero, suc, false, List, [], ◌∷◌, map, replicate, slice_index_or, Option, None, refl}
use Rattle.std.specs.List.{AllByRecursion}
use Rattle.std.specs.Option.{option_map}
use Rattle.std.proofs.Common.{sym, ◌∙◌, ap, subst, arith}
use Rattle.class_file.specs.Pool.{Reference}
use Rattle.class_heads.specs.Hierarchy.{name_at}
use Rattle.class_world.specs.Tables.{Known}
use Rattle.class_machine.specs.Classes.{Classes}
use Rattle.class_machine.specs.Events as events
use Rattle.class_machine.specs.Start.{output, first_world}
use Rattle.class_machine.specs.Values.{print_stream_class}
use Rattle.class_machine.specs.World.{World, Instance, blank_fields, make, is_text_class}
use Rattle.machine_values.specs.declared.values.Ref.{Ref}
use Rattle.machine_values.specs.declared.values.Value.{Value}
use Rattle.machine_values.specs.Observed.{machine_answer}
use Rattle.machine_values.specs.Standing.{held}
use Rattle.machine_values.specs.States.{IsStaticWithin}
use Rattle.machine_values.specs.Things.{Things, nothing}
use Rattle.machine_requests.specs.Objects.{AreFilled}
use Rattle.machine_requests.specs.Shares.{Setting, Shares}
use Rattle.machine_fields.specs.NewObjects.{MakesOf, KeepsFilled}
use Rattle.machine_steps.specs.Programs.{IsRunnable}
use Rattle.machine_steps.proofs.Settings.{setting_of}
use Rattle.machine_natives.proofs.Library.{stream_fields}
use Rattle.machine_start.specs.Opening.{unused, HasOutput}

-- ---- nothing

abbrev empty_world : List events.Answer → World
empty_world answers = record { heap = []; statics = []; begun = []; monitors = []; answers = answers }

abbrev no_value : Option Value
no_value = None

unset : (n i : ℕ) → slice_index_or (replicate n no_value) i no_value ≡ no_value
unset zero zero = refl
unset zero (suc i) = refl
unset (suc n) zero = refl
unset (suc n) (suc i) = unset n i

unmarked : (n i : ℕ) → slice_index_or (replicate n false) i false ≡ false
unmarked zero zero = refl
unmarked zero (suc i) = refl
unmarked (suc n) zero = refl
unmarked (suc n) (suc i) = unmarked n i

unset_within : (count n : ℕ) → AllByRecursion (IsStaticWithin count) (replicate n None)
unset_within count zero = tt
unset_within count (suc n) = (tt, unset_within count n)

empty_shares : (s : Setting) (fields classes : ℕ) (answers : List events.Answer) → Shares s nothing (unused fields classes) (empty_world answers)
empty_shares s fields classes answers = record {
  heap = record { objects = record { whole = refl; settled = tt; same = refl }; numbered = tt };
  fit = tt;
  statics = λ n below. sym (ap (option_map (held s.heads [])) (unset fields n));
  statics_within = unset_within 0 fields;
  begun = λ n below. sym (unmarked classes n);
  monitors = λ n below. absurd (omega arith);
  monitors_within = omega arith;
  unentered = λ a none. refl;
}

empty_filled : (s : Setting) → AreFilled nothing s
empty_filled s = record { each = λ at below. absurd (omega arith) }

-- ---- the one object

-- it has no fields
first_made : (cs : Classes) (answers : List events.Answer) → cs.fields print_stream_class ≡ [] → (make cs (empty_world answers) print_stream_class).1 ≡ first_world answers
first_made cs answers none =
    ap (λ (fields : List Reference). record { heap = (output, Instance (blank_fields fields)) ∷ []; statics = []; begun = []; monitors = []; answers = answers }) none

pub output_there : (k : Known) → IsRunnable k → (class : ℕ) (after : Things) (at : Ref) → name_at k.heads class ≡ print_stream_class
    → MakesOf k class nothing after at → KeepsFilled k class nothing after → HasOutput k after
output_there k runnable class after at named makes keeps m fields classes left is =
    let s = m.setting in
    let answers = map machine_answer left in
    let others = unused fields classes in
    let none : s.classes.fields print_stream_class ≡ [] = ap (λ (cs : Classes). cs.fields print_stream_class) is.classes ∙ stream_fields k runnable in
    let empty = empty_shares s fields classes answers in
    let new = makes s others (empty_world answers) (setting_of k m is) empty in
    record {
      shares = subst (Shares s after others) (ap (λ (n : List ℕ). (make s.classes (empty_world answers) n).1) named ∙ first_made s.classes answers none) new.shares;
      filled = keeps s others (empty_world answers) (setting_of k m is) (ap is_text_class named) empty (empty_filled s);
    }
