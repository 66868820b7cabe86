-- What it takes that a code carries out the advice of another: how the places of the two stand for each other.
use Rattle.std.proofs.Common.{◌≡◌, ℕ, Bool, false, List, [], ◌∷◌, Option, Some, None}
use Rattle.class_file.specs.Pool.{Reference}
use Rattle.class_machine.specs.Classes.{Classes}
use Rattle.class_machine.specs.Descriptors.{parameters_in, result_in}
use Rattle.class_machine.specs.Operations.{Operation}
use Rattle.class_machine.specs.Turn.{Entry, Code}
use Rattle.jp_model.specs.Aspects.{PrintLine as PrintsLine, Advice, Aspect}
use Rattle.jp_model.specs.JoinPoints.{chain_of}
use Rattle.woven_calls.specs.Laws.Tables.{own_found}
use Rattle.woven_calls.specs.Laws.Turns.{Form, Nothing, Text, Output, Prints as PrintsText, Calls, Back, meaning}

module _ {P : Type 0} (At : P → P → Type 0) where
  -- both methods have code, and begin at places that stand for each other
  abbrev pub SameEntry : Option (Entry P) → Option (Entry P) → Type 0
  SameEntry None None = Unit {0}
  SameEntry (Some e) (Some d) = At e.start d.start × (e.room ≡ d.room) × (e.locals ≡ d.locals)
  SameEntry None (Some d) = ⊥
  SameEntry (Some e) None = ⊥

  module _ (old new : Code P) (cs cs' : Classes) where
    -- both find the static method, which has no parameters
    pub record SameCall (r : Reference) : Type 0 where
      pub private : Bool
      pub here : cs.method r ≡ Some (own_found r private)
      pub there : cs'.method r ≡ Some (own_found r private)
      pub parameters : parameters_in r.member.descriptor ≡ []
      pub entry : SameEntry (old.method r) (new.method r)

    abbrev pub CallsSame : Form → Type 0
    CallsSame Nothing = Unit {0}
    CallsSame (Text units) = Unit {0}
    CallsSame Output = Unit {0}
    CallsSame PrintsText = Unit {0}
    CallsSame (Calls r) = SameCall r
    CallsSame Back = Unit {0}

    -- an instruction of the form
    pub record HasForm (op : Operation) : Type 0 where
      pub form : Form
      pub means : op ≡ meaning form
      pub calls : CallsSame form

    -- an operation without a chain stands in both
    pub record IsKept (p q : P) (op : Operation) : Type 0 where
      pub line : new.line q ≡ Some op
      pub next : At (old.next p) (new.next q)

    -- before an operation with a chain a call of the advice's method stands
    pub record IsAdvised (advice : Reference) (text : List ℕ) (p q : P) (op : Operation) (b : Advice) (rest : List Advice) : Type 0 where
      pub single : rest ≡ []
      pub body : b.body ≡ PrintsLine text ∷ []
      pub call : new.line q ≡ Some (meaning (Calls advice))
      pub line : new.line (new.next q) ≡ Some op
      pub next : At (old.next p) (new.next (new.next q))

    -- the method prints a text and returns
    pub record Speaks (advice : Reference) (text : List ℕ) : Type 0 where
      pub start : P
      pub found : cs'.method advice ≡ Some (own_found advice false)
      pub entry : new.method advice ≡ Some (record { start = start; room = 2; locals = 0 })
      pub parameters : parameters_in advice.member.descriptor ≡ []
      pub result : result_in advice.member.descriptor ≡ None
      pub out : new.line start ≡ Some (meaning Output)
      pub constant : new.line (new.next start) ≡ Some (meaning (Text text))
      pub print : new.line (new.next (new.next start)) ≡ Some (meaning PrintsText)
      pub back : new.line (new.next (new.next (new.next start))) ≡ Some (meaning Back)

    -- the new code does what the old one does under the aspects
    pub record Carries (aspects : List Aspect) (advice : Reference) (text : List ℕ) : Type 0 where
      pub forms : (p q : P) (op : Operation) → At p q → old.line p ≡ Some op → HasForm op
      pub kept : (p q : P) (op : Operation) → At p q → old.line p ≡ Some op → chain_of aspects (Some op) ≡ [] → IsKept p q op
      pub advised : (p q : P) (op : Operation) (b : Advice) (rest : List Advice) → At p q → old.line p ≡ Some op
          → chain_of aspects (Some op) ≡ b ∷ rest → IsAdvised advice text p q op b rest
      pub speaks : Speaks advice text
