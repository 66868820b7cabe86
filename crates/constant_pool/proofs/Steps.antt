-- Calls one after another: what the first leaves, the next goes on from.
use Rattle.std.specs.Prelude.{◌≡◌, ℕ, ◌<◌, List, length, Result, Ok, Err, IfOk, OnErr, take}
use Rattle.std.proofs.Common.{sym, ◌∙◌, ap, subst, arith}
use Rattle.class_file.specs.declared.pool.PoolEntry.{PoolEntry}
use Rattle.constant_pool.specs.declared.fault.PoolFault.{PoolFault}
use Rattle.constant_pool.specs.declared.fault.PoolFault.TheVariants.{PoolFull}
use Rattle.constant_pool.specs.Edit.{Placed, Extends}
use Rattle.constant_pool.specs.Answers.{Gives, IsFull}
use Rattle.constant_pool.specs.Laws.{extends-length, extends-take, extends-further, extends-itself}
use Rattle.std.specs.Prelude.{Option, Some}
use Rattle.class_file.specs.Pool.{Reference, field_at}
use Rattle.constant_pool.specs.declared.calls.MemberKind.{MemberKind}
use Rattle.constant_pool.specs.declared.calls.MemberKind.TheVariants as kind
use Rattle.constant_pool.specs.Meaning.{NamesMember, field_named}
use Rattle.std.specs.Result.{IsErrAnd}

-- where the pool is too long already, so is any that extends it
pub full_further : (first last : Placed) (fault : PoolFault) → Extends first.0 last.0 → (fault ≡ PoolFull → 65534 < length first.0) → fault ≡ PoolFull → 65534 < length last.0
full_further first last fault h f e = let more = extends-length first.0 last.0 h in let long = f e in omega arith

-- the step after one that gave this pool and index
pub gives_next : (first : Placed) (next : Placed → Placed) (new : List PoolEntry) (result : Result ℕ PoolFault) (pool : List PoolEntry) (index : ℕ) → (pool, index) ≡ first → Gives (next (pool, index)) new result → Gives (next first) new result
gives_next first next new result pool index e g = subst (λ (p : Placed). Gives (next p) new result) e g

pub full_next : (first : Placed) (next : Placed → Placed) (result : Result ℕ PoolFault) (pool : List PoolEntry) (index : ℕ) → (pool, index) ≡ first → IsFull (next (pool, index)) result → IsFull (next first) result
full_next first next result pool index e g = subst (λ (p : Placed). IsFull (next p) result) e g

-- the pool that was given extends what the wanted one extends
pub extends_given : (old pool : List PoolEntry) (index : ℕ) (wanted : Placed) → (pool, index) ≡ wanted → Extends old wanted.0 → Extends old pool
extends_given old pool index wanted e h = subst (λ (p : Placed). Extends old p.0) (sym e) h

pub kept_next : (old pool new : List PoolEntry) (result : Result ℕ PoolFault) → Extends old pool → OnErr result (new ≡ pool) → OnErr result (Extends old new)
kept_next old pool new (Ok index) h k = tt
kept_next old pool new (Err fault) h k = subst (λ (p : List PoolEntry). Extends old p) (sym k) h

pub kept_error : (old pool new : List PoolEntry) (result : Result ℕ PoolFault) → Extends old pool → Extends pool new → OnErr result (Extends old new)
kept_error old pool new (Ok index) h k = tt
kept_error old pool new (Err fault) h k = extends-further old pool new h k

pub full_error : (stage wanted : Placed) (fault : PoolFault) (result : Result ℕ PoolFault) → Extends stage.0 wanted.0 → (fault ≡ PoolFull → 65534 < length stage.0) → IsErrAnd result (λ e. e ≡ fault) → IsFull wanted result
full_error stage wanted fault (Ok index) h f r = tt
full_error stage wanted fault (Err e) h f r = λ full. full_further stage wanted fault h f (sym r ∙ full)

-- what is cut back to its old length is the old pool
pub cut_back : (old pool new : List PoolEntry) (len : ℕ) → Extends old pool → new ≡ take len pool → len ≡ length old → new ≡ old
cut_back old pool new len h e l = e ∙ ap (λ n. take n pool) l ∙ extends-take old pool h

-- what the wanted index stands for, the answer does
pub given_read : {T : Type 0} (read : List PoolEntry → ℕ → Option T) (wanted : Placed) (new : List PoolEntry) (result : Result ℕ PoolFault) (x : T) → Gives wanted new result → read wanted.0 wanted.1 ≡ Some x → IfOk result (λ index. read new index ≡ Some x)
given_read read wanted new (Ok index) x g h = subst (λ (p : Placed). read p.0 p.1 ≡ Some x) (sym g) h
given_read read wanted new (Err fault) x g h = tt

pub given_names : (wanted : Placed) (new : List PoolEntry) (result : Result ℕ PoolFault) (k : MemberKind) (r : Reference) → Gives wanted new result → NamesMember wanted.0 wanted.1 k r → IfOk result (λ index. NamesMember new index k r)
given_names wanted new (Ok index) k r g h = subst (λ (p : Placed). NamesMember p.0 p.1 k r) (sym g) h
given_names wanted new (Err fault) k r g h = tt

-- whether it is answered or refused, the pool extends the old one
pub given_extends : (old new : List PoolEntry) (wanted : Placed) (result : Result ℕ PoolFault) → Gives wanted new result → OnErr result (new ≡ old) → Extends old wanted.0 → Extends old new
given_extends old new wanted (Ok index) g k h = extends_given old new index wanted g h
given_extends old new wanted (Err fault) g k h = subst (λ (p : List PoolEntry). Extends old p) (sym k) (extends-itself old)

pub cut_extends : (old pool new : List PoolEntry) (len : ℕ) → Extends old pool → new ≡ take len pool → len ≡ length old → Extends old new
cut_extends old pool new len h e l = subst (λ (p : List PoolEntry). Extends old p) (sym (cut_back old pool new len h e l)) (extends-itself old)

pub names_field : (new : List PoolEntry) (result : Result ℕ PoolFault) (r : Reference) → IfOk result (λ index. NamesMember new index kind.Field r) → IfOk result (λ index. field_at new index ≡ Some r)
names_field new (Ok index) r h = field_named new index r h
names_field new (Err fault) r h = tt
