-- Calls that go on with a text.
use Rattle.std.specs.Prelude.{◌≡◌, ℕ, ◌++◌, Bool, true, false, if◌then◌else◌, List, [], codes, length, Option, Some, None, refl}
use Rattle.std.proofs.Common.{sym, ◌∙◌, ap, subst, append_assoc, append-nil}
use Rattle.std.proofs.lemmas.Bool.{false≢true}
use Rattle.class_world.specs.Tables.{Known}
use Rattle.class_machine.specs.LibraryCalls as calls
use Rattle.class_machine.specs.Texts.{class_text}
use Rattle.class_machine.specs.Values as machine
use Rattle.class_machine.specs.Values.{class_of}
use Rattle.class_machine.specs.World.{units_at}
use Rattle.machine_values.specs.declared.frames.Wait.{Wait}
use Rattle.machine_values.specs.declared.values.Ref.{Ref}
use Rattle.machine_values.specs.declared.values.Value.{Value}
use Rattle.machine_values.specs.declared.values.Value.TheVariants.{Int, Long, Float, Double, Null, Reference as Pointer, Token, ReturnAddress}
use Rattle.machine_values.specs.Standing.{name_of, held, Settled}
use Rattle.machine_values.specs.Things.{Things}
use Rattle.machine_rules.specs.declared.work.Work.{Work}
use Rattle.machine_rules.specs.declared.work.Work.TheVariants.{Misuses}
use Rattle.machine_rules.specs.Texts.{argument_at, string_of, text_at}
use Rattle.machine_rules.specs.Waiting.{wait_of, behind_class}
use Rattle.machine_rules.specs.Works.{setting_of, Does}
use Rattle.machine_rules.proofs.Giving.{argument_same, argued, done_same}

-- ---- descriptions of exceptions

behind_same : (x : machine.Name) (o : Option (List ℕ)) → class_text (class_of x) ++ behind_class o ≡ calls.described x o
behind_same x None = append-nil (class_text (class_of x))
behind_same x (Some message) = sym (append_assoc (class_text (class_of x)) (codes ": ") message)

pub described_is : (empty named all class : List ℕ) (x : machine.Name) (o : Option (List ℕ)) → empty ≡ [] → named ≡ empty ++ class_text class → all ≡ named ++ behind_class o → class ≡ class_of x → all ≡ calls.described x o
described_is empty named all class x o e a b is =
    b ∙ ap (λ (l : List ℕ). l ++ behind_class o) (a ∙ ap (λ (l : List ℕ). l ++ class_text class) e ∙ ap class_text is) ∙ behind_same x o

-- ---- a value that is to be a text

resumed : (k : Known) (things : Things) (wait : Wait) (v : Value) (o : Option (Option (List ℕ))) (after : Things) (work : Work) → Settled (length things.names) v → argument_at k.heads things v ≡ o
    → Does k things (λ s ns w. argued o (λ units. calls.finish_text (wait_of s ns wait) (calls.named (held s.heads ns v)) units w)) after work
    → Does k things (λ s ns w. calls.resume (wait_of s ns wait) (held s.heads ns v) w) after work
resumed k things wait v o after work known is done =
    done_same k things (λ s ns w. argued o (λ units. calls.finish_text (wait_of s ns wait) (calls.named (held s.heads ns v)) units w)) (λ s ns w. calls.resume (wait_of s ns wait) (held s.heads ns v) w) after work
    (λ names others w distinct holds.
    let s = setting_of k names in
    let go : Option (List ℕ) → calls.Work = λ units. calls.finish_text (wait_of s things.names wait) (calls.named (held k.heads things.names v)) units w in
    argument_same k names things others w v go distinct holds known ∙ ap (λ (a : Option (Option (List ℕ))). argued a go) is) done

pub resumed_string : (k : Known) (things : Things) (wait : Wait) (v : Value) (at : Ref) (after : Things) (work : Work) → v ≡ Pointer at → Settled (length things.names) v → calls.is_string (name_of k.heads things.names at) ≡ true
    → Does k things (λ s ns w. calls.finish_text (wait_of s ns wait) (Some (name_of s.heads ns at)) (text_at things at.0) w) after work
    → Does k things (λ s ns w. calls.resume (wait_of s ns wait) (held s.heads ns v) w) after work
resumed_string k things wait v at after work is known string done =
    subst (λ (v : Value). Does k things (λ s ns w. calls.resume (wait_of s ns wait) (held s.heads ns v) w) after work) (sym is)
    (resumed k things wait (Pointer at) (Some (text_at things at.0)) after work (subst (Settled (length things.names)) is known) (ap (λ (b : Bool). string_of b (text_at things at.0)) string) done)

pub resumed_null : (k : Known) (things : Things) (wait : Wait) (v : Value) (after : Things) (work : Work) → v ≡ Null → Does k things (λ s ns w. calls.finish_text (wait_of s ns wait) None None w) after work
    → Does k things (λ s ns w. calls.resume (wait_of s ns wait) (held s.heads ns v) w) after work
resumed_null k things wait v after work is done = subst (λ (v : Value). Does k things (λ s ns w. calls.resume (wait_of s ns wait) (held s.heads ns v) w) after work) (sym is) done

-- ---- another value

pub resumed_object : (k : Known) (things : Things) (wait : Wait) (v : Value) (at : Ref) → v ≡ Pointer at → calls.is_string (name_of k.heads things.names at) ≡ false → Does k things (λ s ns w. calls.resume (wait_of s ns wait) (held s.heads ns v) w) things Misuses
resumed_object k things wait v at is other =
    subst (λ (v : Value). Does k things (λ s ns w. calls.resume (wait_of s ns wait) (held s.heads ns v) w) things Misuses) (sym is)
    (λ names others w distinct holds.
    let a = name_of k.heads things.names at in
    record { same = ap (λ (b : Bool). if b then calls.finish_text (wait_of (setting_of k names) things.names wait) (Some a) (units_at w a) w else calls.Misuses) other; holds = holds })

pub resumed_other : (k : Known) (things : Things) (wait : Wait) (v : Value) → Settled (length things.names) v → (v ≡ Null → ⊥) → ((at : Ref) → v ≡ Pointer at → ⊥) → Does k things (λ s ns w. calls.resume (wait_of s ns wait) (held s.heads ns v) w) things Misuses
resumed_other k things wait (Int n) settled one two = λ names others w distinct holds. record { same = refl; holds = holds }
resumed_other k things wait (Long n) settled one two = λ names others w distinct holds. record { same = refl; holds = holds }
resumed_other k things wait (Float n) settled one two = λ names others w distinct holds. record { same = refl; holds = holds }
resumed_other k things wait (Double n) settled one two = λ names others w distinct holds. record { same = refl; holds = holds }
resumed_other k things wait Null settled one two = absurd (one refl)
resumed_other k things wait (Pointer at) settled one two = absurd (two at refl)
resumed_other k things wait (Token c n) settled one two = absurd (false≢true settled)
resumed_other k things wait (ReturnAddress p) settled one two = absurd (false≢true settled)
