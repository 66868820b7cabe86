-- What the calls of an edit answer.
use Rattle.std.specs.Prelude.{◌≡◌, ℕ, ◌<◌, List, length, Result, IfOk, IfErr}
use Rattle.class_file.specs.declared.pool.PoolEntry.{PoolEntry}
use Rattle.constant_pool.specs.declared.fault.PoolFault.{PoolFault}
use Rattle.constant_pool.specs.declared.fault.PoolFault.TheVariants.{PoolFull}
use Rattle.constant_pool.specs.Edit.{Placed}

-- a call that isn't refused leaves the wanted pool, and answers the wanted index
abbrev pub Gives : Placed → List PoolEntry → Result ℕ PoolFault → Type 0
Gives wanted new result = IfOk result (λ index. (new, index) ≡ wanted)

-- `PoolFull` is answered only where the count of the wanted pool, one more than its length, passes 65,535
abbrev pub IsFull : Placed → Result ℕ PoolFault → Type 0
IsFull wanted result = IfErr result (λ fault. fault ≡ PoolFull → 65534 < length wanted.0)
