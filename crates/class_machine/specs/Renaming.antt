-- What a frame holds, as code elsewhere has it: its return addresses are other places, there is more room, and more
-- locals stand behind its own.
use Rattle.std.specs.Prelude.{◌≡◌, ◌≢◌, ℕ, ◌+◌, Bool, true, false, List, [], ◌∷◌, ◌++◌, map}
use Rattle.class_machine.specs.Values.{Value, Plain, Token, ReturnAddress, Local, Unset, Holds, Second, Content, content}
use Rattle.class_machine.specs.Effect.{Setting, Effect, On, Jump, Enter, Back, Ask, Announce, CallStatic, CallOn, Build, Leave, Fail, Throw, Unmodelled, Broken}

module _ {P Q : Type 0} (f : P → Q) where
  abbrev pub renamed : Value P → Value Q
  renamed (Plain h) = Plain h
  renamed (Token class number) = Token class number
  renamed (ReturnAddress place) = ReturnAddress (f place)

  abbrev pub renamed_local : Local P → Local Q
  renamed_local Unset = Unset
  renamed_local (Holds v) = Holds (renamed v)
  renamed_local Second = Second

  module _ (extra : List (Local Q)) where
    abbrev pub more_locals : List (Local P) → List (Local Q)
    more_locals ls = map renamed_local ls ++ extra

    abbrev pub grown : Content P → Content Q
    grown c = content (map renamed c.operands) (more_locals c.locals)

    abbrev pub grown_effect : Effect P → Effect Q
    grown_effect (On c) = On (grown c)
    grown_effect (Jump i c) = Jump i (grown c)
    grown_effect (Enter i c) = Enter i (grown c)
    grown_effect (Back place c) = Back (f place) (grown c)
    grown_effect (Ask request c) = Ask request (grown c)
    grown_effect (Announce class c) = Announce class (grown c)
    grown_effect (CallStatic r given c) = CallStatic r given (grown c)
    grown_effect (CallOn special r a given c) = CallOn special r a given (grown c)
    grown_effect (Build r class number given c) = Build r class number given (grown c)
    grown_effect (Leave v) = Leave v
    grown_effect (Fail fault) = Fail fault
    grown_effect (Throw a) = Throw a
    grown_effect (Unmodelled op) = Unmodelled op
    grown_effect Broken = Broken

    -- where the first isn't Broken, the second is the same with the frame grown
    pub record Kept (e : Effect P) (e' : Effect Q) : Type 0 where
      pub keeps : e ≢ Broken → e' ≡ grown_effect e

-- more room
abbrev pub roomier : ℕ → Setting → Setting
roomier more s = record s { room = s.room + more }

-- locals that hold no token
abbrev pub is_bare : {P : Type 0} → List (Local P) → Bool
is_bare [] = true
is_bare (Unset ∷ ls) = is_bare ls
is_bare (Holds (Plain h) ∷ ls) = is_bare ls
is_bare (Holds (Token class number) ∷ ls) = false
is_bare (Holds (ReturnAddress place) ∷ ls) = is_bare ls
is_bare (Second ∷ ls) = is_bare ls
