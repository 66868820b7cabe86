-- The classes of the library are among those of a world.
use Rattle.std.specs.Prelude.{◌≡◌, ℕ, zero, suc, ◌+◌, ◌<◌, ◌≤◌, Bool, true, false, is_some, List, [], ◌∷◌, ◌++◌, map, length, slice_get, Option, Some, None, refl}
use Rattle.std.specs.Option.{option_map, unwrap_or}
use Rattle.std.proofs.Common.{sym, ◌∙◌, ap, subst, arith, length-append}
use Rattle.class_heads.specs.declared.types.ClassHead.{ClassHead}
use Rattle.class_heads.specs.Heads.{head_of}
use Rattle.class_heads.specs.Hierarchy.{place_of, name_at}
use Rattle.class_heads.specs.PlaceLaws.{place-within, place-named}
use Rattle.class_world.specs.Tables.{Known}
use Rattle.boot_library.specs.Heads.{library_heads}
use Rattle.class_machine.specs.declared.kinds.Fault.{Fault}
use Rattle.class_machine.specs.Classes.{fault_class}
use Rattle.machine_steps.specs.Programs.{IsRunnable}

get_behind : {X : Type 0} (xs ys : List X) (i : ℕ) → slice_get (xs ++ ys) (length xs + i) ≡ slice_get ys i
get_behind [] ys i = ap (slice_get ys) (let e : 0 + i ≡ i = omega arith in e)
get_behind (x ∷ xs) ys i = ap (slice_get (x ∷ xs ++ ys)) (let e : suc (length xs) + i ≡ suc (length xs + i) = omega arith in e) ∙ get_behind xs ys i

behind : (given library : List ClassHead) (i : ℕ) → name_at (given ++ library) (length given + i) ≡ name_at library i
behind given library i = ap (λ (o : Option ClassHead). unwrap_or (option_map (λ (c : ClassHead). c.name) o) []) (get_behind given library i)

-- a name that the library has, the world has
pub library_place : (k : Known) (name : List ℕ) (i : ℕ) → IsRunnable k → place_of library_heads name ≡ Some i → place_of k.heads name ≡ Some (length (map head_of k.files) + i)
library_place k name i runnable at =
    let given = map head_of k.files in
    let place = length given + i in
    let short = place-within library_heads name i at in
    let named : name_at k.heads place ≡ name = ap (λ heads. name_at heads place) runnable.library ∙ behind given library_heads i ∙ place-named library_heads name i at in
    let many : length k.heads ≡ length given + length library_heads = ap length runnable.library ∙ length-append given library_heads in
    ap (place_of k.heads) (sym named) ∙ runnable.program.different place (omega arith)

some_of : (o : Option ℕ) → is_some o ≡ true → (i : ℕ) × (o ≡ Some i)
some_of None e = absurd cc
some_of (Some i) e = (i, refl)

listed : (fault : Fault) → is_some (place_of library_heads (fault_class fault)) ≡ true
listed Fault.NullPointer = refl
listed Fault.Arithmetic = refl
listed Fault.NegativeArraySize = refl
listed Fault.ArrayIndex = refl
listed Fault.ArrayStore = refl
listed Fault.ClassCast = refl
listed Fault.IllegalMonitorState = refl
listed Fault.StringIndex = refl

pub fault_there : (k : Known) (fault : Fault) → IsRunnable k → place_of k.heads (fault_class fault) ≡ None → ⊥
fault_there k fault runnable none =
    let at = some_of (place_of library_heads (fault_class fault)) (listed fault) in
    let there = library_place k (fault_class fault) at.0 runnable at.1 in
    let never : Some (length (map head_of k.files) + at.0) ≡ None = sym there ∙ none in absurd cc
