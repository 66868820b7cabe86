-- What the code of class files gives at the places of a method, by the code of the method.
use Rattle.std.specs.Prelude.{◌≡◌, ℕ, List, [], slice_get, Option, Some, None, option_and_then}
use Rattle.std.proofs.Common.{ap, ◌∙◌}
use Rattle.std.specs.Option.{option_map, unwrap_or}
use Rattle.class_file.specs.declared.types.ClassFile.{ClassFile}
use Rattle.class_file.specs.Pool.{Reference}
use Rattle.class_heads.specs.declared.types.MethodHead.{MethodHead}
use Rattle.class_heads.specs.declared.types.ClassHead.{ClassHead}
use Rattle.class_heads.specs.Searches.{MemberPlace}
use Rattle.class_machine.specs.Values.{Held}
use Rattle.class_machine.specs.Classes.{Method, reference}
use Rattle.class_machine.specs.Declarations as run
use Rattle.class_machine.specs.ClassFiles.{MethodCode, place_in, line_at, next_pc, target_pc, handlers_at, entry_of, method_code, class_code}
use Rattle.machine_code.specs.Programs.{IsFirst, name_in_class, method_name}

-- ---- the code of a method

pub record Gives (files : List ClassFile) (r : Reference) (m : MethodCode) : Type 0 where
  pub line : (pc : ℕ) → (class_code files).line (place_in r pc) ≡ line_at pc m
  pub next : (pc : ℕ) → (class_code files).next (place_in r pc) ≡ place_in r (next_pc pc (Some m))
  pub target : (pc i : ℕ) → (class_code files).target (place_in r pc) i ≡ place_in r (target_pc pc i (Some m))
  pub handlers : (pc : ℕ) → (class_code files).handlers (place_in r pc) ≡ handlers_at r pc (Some m)
  pub method : (class_code files).method r ≡ Some (entry_of r m)

pub code_gives : (files : List ClassFile) (r : Reference) (m : MethodCode) → method_code files r ≡ Some m → Gives files r m
code_gives files r m is = record {
  line = λ pc. ap (option_and_then (line_at pc)) is;
  next = λ pc. ap (λ (o : Option MethodCode). place_in r (next_pc pc o)) is;
  target = λ pc i. ap (λ (o : Option MethodCode). place_in r (target_pc pc i o)) is;
  handlers = λ pc. ap (handlers_at r pc) is;
  method = ap (option_map (entry_of r)) is;
}

pub no_code_given : (files : List ClassFile) (r : Reference) → method_code files r ≡ None → (class_code files).method r ≡ None
no_code_given files r none = ap (option_map (entry_of r)) none

-- ---- the method at a place

module _ (heads : List ClassHead) (given : ℕ) (constant : Reference → Option Held) (place : MemberPlace) (first : IsFirst heads place) where
  -- as the machine sees it
  abbrev pub method_seen : Method
  method_seen = run.method_found (run.rule_at heads given constant place.class first.head first.method) first.head first.method

  pub method_is : run.method_at heads given constant place ≡ Some method_seen
  method_is =
      ap (option_and_then (λ (c : ClassHead). option_map (λ (m : MethodHead). run.method_found (run.rule_at heads given constant place.class c m) c m) (slice_get c.methods place.position))) first.class
      ∙ ap (option_map (λ (m : MethodHead). run.method_found (run.rule_at heads given constant place.class first.head m) first.head m)) first.stands

  pub name_is : method_name heads place ≡ method_seen.name
  name_is =
      ap (λ (o : Option ClassHead). unwrap_or (option_and_then (name_in_class place.position) o) (reference [] [] [])) first.class
      ∙ ap (λ (o : Option MethodHead). unwrap_or (option_map (λ (m : MethodHead). run.declared_in first.head.name m.name) o) (reference [] [] [])) first.stands
