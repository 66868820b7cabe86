-- What a function returned is what a definition says.
use Rattle.std.specs.Prelude.{◌≡◌, ℕ, List, ◌++◌, [], Bool, true, false, Option, Result, Ok, Err}
use Rattle.std.specs.List.{cons_option}
use Rattle.class_file.specs.declared.pool.PoolEntry.{PoolEntry}
use Rattle.class_text.specs.declared.fault.TextFault.{TextFault}
use Rattle.class_text.specs.declared.fault.TextFault.TheVariants as faults

infixl 10 ◌>>=◌
abbrev pub ◌>>=◌ : {A B : Type 0} → Result A ℕ → (A → Result B ℕ) → Result B ℕ
(Ok x) >>= f = f x
(Err n) >>= f = Err n

-- the value or the number of the faulty line, unless memory ran out
abbrev pub Gives : {X : Type 0} → Result X TextFault → Result X ℕ → Type 0
Gives (Ok x) found = found ≡ Ok x
Gives (Err (faults.Line n)) found = found ≡ Err n
Gives (Err faults.Memory) found = Unit {0}

-- what is made with a pool, or the number of the faulty line
abbrev pub Making : Type 0 → Type 0
Making X = Result (List PoolEntry × X) ℕ

-- the same, beside the pool that is left
abbrev pub Leaves : {X : Type 0} → List PoolEntry → Result X TextFault → Making X → Type 0
Leaves pool (Ok x) made = made ≡ Ok (pool, x)
Leaves pool (Err (faults.Line n)) made = made ≡ Err n
Leaves pool (Err faults.Memory) made = Unit {0}

-- the bytes that are made are put behind others
abbrev pub Puts : List PoolEntry → List ℕ → List ℕ → Result Unit TextFault → Making (List ℕ) → Type 0
Puts pool before after (Ok x) made = (bytes : List ℕ) × (made ≡ Ok (pool, bytes)) × (after ≡ before ++ bytes)
Puts pool before after (Err (faults.Line n)) made = made ≡ Err n
Puts pool before after (Err faults.Memory) made = Unit {0}

-- one more of a line is put behind others, if it is there; the line is wrong where there is no room for it
abbrev pub Adds : {X : Type 0} → Bool → ℕ → Option X → List X → List X → Result Unit TextFault → Type 0
Adds room line one before after (Ok x) = (room ≡ true) × (after ≡ before ++ cons_option one [])
Adds room line one before after (Err (faults.Line n)) = (room ≡ false) × (n ≡ line)
Adds room line one before after (Err faults.Memory) = Unit {0}
