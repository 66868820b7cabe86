-- A whole program as a compiler of Java 1.4 writes it:
--     package bank;
--     class Account {
--         int balance;
--         Account(String owner) {}
--         public synchronized void deposit(int n) {
--             if (n <= 0) throw new IllegalArgumentException("amount " + n);
--             balance += n;
--         }
--         int balance() { return balance; }
--         static native int ask();
--         static void main(String[] args) {
--             Account x = new Account("a");
--             try { x.deposit(5); x.deposit(ask()); }
--             catch (IllegalArgumentException e) { System.out.println(e.getMessage()); }
--             finally { System.out.println("balance " + x.balance()); }
--         }
--     }
use Rattle.std.specs.Prelude.{◌≡◌, ℕ, List, [], ◌∷◌, ◌++◌, codes, map, Option, Some, None, pos, negsuc}
use Rattle.std.specs.Option.{option_map}
use Rattle.std.proofs.Common.{refl}
use Rattle.event_machine.specs.Observation.{Observation}
use Rattle.class_file.specs.Pool.{Reference}
use Rattle.class_machine.specs.declared.kinds.Kind.{Kind}
use Rattle.class_machine.specs.declared.kinds.Test.TheVariants.{Greater}
use Rattle.class_machine.specs.declared.kinds.Slots.TheVariants.{Zero, One}
use Rattle.class_machine.specs.declared.kinds.Mode.{Mode}
use Rattle.class_machine.specs.declared.kinds.Access.{Access}
use Rattle.class_machine.specs.declared.meaning.Basic.{Basic}
use Rattle.class_machine.specs.Values.{object_class}
use Rattle.class_machine.specs.Events.{Event, Ending, Answer}
use Rattle.class_machine.specs.Events as events
use Rattle.class_machine.specs.Classes.{reference}
use Rattle.class_machine.specs.Lines.{event_text, ending_text}
use Rattle.class_machine.specs.Operations.{New, FieldAccess}
use Rattle.class_machine.specs.Listed.{Listed, Row, ListedMethod, ListedClass, locked, class, object_field, object_method, static_method, native_method, runs_with}
use Rattle.class_machine.specs.Declarations.{output_field}
use Rattle.class_machine.specs.Examples.{plain, basic, to, int, load, text, add, int_return, void_return, invoke, get_static, print_line, action, make}
use Rattle.class_machine.specs.Examples.LibraryRuns.{buffer, append, to_string}
use Rattle.class_machine.specs.Start as words

abbrev pub account : List ℕ
account = codes "bank/Account"

abbrev pub refused : List ℕ
refused = codes "java/lang/IllegalArgumentException"

abbrev pub takes_string : List ℕ
takes_string = codes "(Ljava/lang/String;)V"

abbrev pub balance_field : Reference
balance_field = reference account (codes "balance") (codes "I")

abbrev pub this : Listed
this = basic (Basic.Load Kind.Reference 0)

abbrev pub get_balance : Listed
get_balance = plain (FieldAccess Access.GetField balance_field)

abbrev pub local : ℕ → Listed
local n = basic (Basic.Load Kind.Reference n)

abbrev pub keep : ℕ → Listed
keep n = basic (Basic.Store Kind.Reference n)

-- a literal and an int, put together
abbrev pub put_together : List ℕ → List Listed → List Listed
put_together word value = make buffer ++ text word ∷ invoke Mode.Virtual (append (codes "Ljava/lang/String;")) ∷ value ++ invoke Mode.Virtual (append (codes "I")) ∷ invoke Mode.Virtual (to_string buffer) ∷ []

-- 3 lines make the exception's token, 8 its message
abbrev pub deposit : ListedMethod
deposit = locked (object_method (codes "deposit") (codes "(I)V") lines []) where
  lines : List Listed
  lines =
      load 1 ∷ to (Basic.IfInt Greater) 14 ∷ plain (New refused) ∷ basic (Basic.Duplicate One Zero) ∷ put_together (codes "amount ") (load 1 ∷ [])
      ++ invoke Mode.Special (reference refused (codes "<init>") takes_string) ∷ basic Basic.Throw
      ∷ this ∷ basic (Basic.Duplicate One Zero) ∷ get_balance ∷ load 1 ∷ add ∷ plain (FieldAccess Access.PutField balance_field) ∷ void_return ∷ []

abbrev pub deposit_call : Listed
deposit_call = invoke Mode.Virtual (reference account (codes "deposit") (codes "(I)V"))

-- the finally at 20 is a subroutine: a jsr leads to it after the try, after the catch, and before an exception goes on
abbrev pub main : ListedMethod
main = static_method (codes "main") (codes "([Ljava/lang/String;)V") lines rows where
  lines : List Listed
  lines =
      plain (New account) ∷ basic (Basic.Duplicate One Zero) ∷ text (codes "a") ∷ invoke Mode.Special (reference account (codes "<init>") takes_string) ∷ keep 1
      ∷ local 1 ∷ int (pos 5) ∷ deposit_call ∷ local 1 ∷ invoke Mode.Static (reference account (codes "ask") (codes "()I")) ∷ deposit_call ∷ to Basic.Jsr 23 ∷ void_return
      ∷ keep 2 ∷ get_static output_field ∷ local 2 ∷ invoke Mode.Virtual (reference refused (codes "getMessage") (codes "()Ljava/lang/String;")) ∷ print_line takes_string ∷ to Basic.Jsr 23 ∷ void_return
      ∷ keep 3 ∷ to Basic.Jsr 23 ∷ to Basic.Goto 37
      ∷ keep 4 ∷ get_static output_field ∷ put_together (codes "balance ") (local 1 ∷ invoke Mode.Virtual (reference account (codes "balance") (codes "()I")) ∷ []) ++ print_line takes_string ∷ basic (Basic.Ret 4)
      ∷ basic Basic.Nothing ∷ local 3 ∷ basic Basic.Throw ∷ []

  rows : List Row
  rows = record { start = 5; end = 11; handler = 13; catch = Some refused } ∷ record { start = 5; end = 20; handler = 20; catch = None } ∷ []

abbrev pub program : List ListedClass
program = class account (object_field (codes "balance") (codes "I") ∷ []) (object_method (codes "<init>") takes_string (this ∷ invoke Mode.Special (action object_class (codes "<init>")) ∷ void_return ∷ []) [] ∷ deposit ∷ object_method (codes "balance") (codes "()I") (this ∷ get_balance ∷ int_return ∷ []) [] ∷ native_method (codes "ask") (codes "()I") ∷ main ∷ []) ∷ []

-- the printed lines of a run
abbrev pub lines_of : Observation Event Ending → List (List ℕ) × Option (List ℕ)
lines_of o = (map event_text o.events, option_map ending_text o.ending)

abbrev pub run : List Answer → List (List ℕ) × Option (List ℕ)
run script = lines_of (runs_with script (words.Texts [] ∷ []) 200 program (reference account (codes "main") (codes "([Ljava/lang/String;)V")))

deposits : run (events.Int (pos 7) ∷ []) ≡ (codes "native bank.Account.ask()" ∷ codes "print \"balance 12\\n\"" ∷ [], Some (codes "returned void"))
deposits = refl

refuses : run (events.Int (negsuc 0) ∷ []) ≡ (codes "native bank.Account.ask()" ∷ codes "print \"amount -1\\n\"" ∷ codes "print \"balance 5\\n\"" ∷ [], Some (codes "returned void"))
refuses = refl

no_answer : run [] ≡ (codes "native bank.Account.ask()" ∷ [], Some (codes "script-ends"))
no_answer = refl

-- the answer throws what isn't caught: the finally runs, and the exception goes on
goes_on : run (events.Throw (codes "java/lang/Error") (codes "e\"") ∷ []) ≡ (codes "native bank.Account.ask()" ∷ codes "print \"balance 5\\n\"" ∷ [], Some (codes "uncaught java.lang.Error \"e\\\"\""))
goes_on = refl
