-- Parts of which readers are made. A reader takes the bytes at hand, and gives a value and the bytes
-- behind it, or the first fault.
use Rattle.std.specs.Prelude.{ℕ, zero, suc, ◌-◌, ◌==◌, Bool, if◌then◌else◌, List, [], ◌∷◌, length, take, drop, Option, Some, None, Result, Ok, Err, nat_lt}
use Rattle.std.specs.Int.{Width, w16, w32, byte_len, from_be_bytes}
use Rattle.class_format.specs.declared.fault.ClassFault.{ClassFault}
use Rattle.class_format.specs.declared.fault.ClassFault.TheVariants.{PoolRef, AttributeLength}
use Rattle.class_format.specs.declared.scope.Scope.{Scope}

infixl 10 ◌>>=◌
abbrev pub ◌>>=◌ : {A B : Type 0} → Result A ClassFault → (A → Result B ClassFault) → Result B ClassFault
(Ok x) >>= f = f x
(Err e) >>= f = Err e

-- The scope is that of the bytes at hand: the offset of their end in the file, and the fault where an
-- item passes that end.
abbrev pub Reader : Type 0 → Type 0
Reader X = Scope → List ℕ → Result (X × List ℕ) ClassFault

-- the offset in the file at which the bytes at hand begin
abbrev pub offset : Scope → List ℕ → ℕ
offset scope bytes = scope.end - length bytes

-- ---- numbers and bytes

abbrev pub byte : Reader ℕ
byte scope [] = Err scope.cut
byte scope (b ∷ bytes) = Ok (b, bytes)

abbrev pub number : Width → Reader ℕ
number w scope bytes = if nat_lt (length bytes) (byte_len w) then Err scope.cut else Ok (from_be_bytes w (take (byte_len w) bytes), drop (byte_len w) bytes)

abbrev pub bytes_of : ℕ → Reader (List ℕ)
bytes_of n scope bytes = if nat_lt (length bytes) n then Err scope.cut else Ok (take n bytes, drop n bytes)

-- bytes behind their number
abbrev pub sized : Width → Reader (List ℕ)
sized w scope bytes = number w scope bytes >>= λ n. bytes_of n.0 scope n.1

-- ---- one after another

abbrev pub both : {X Y : Type 0} → Reader X → Reader Y → Reader (X × Y)
both r s scope bytes = r scope bytes >>= λ x. s scope x.1 >>= λ y. Ok ((x.0, y.0), y.1)

abbrev pub made : {X Y : Type 0} → (X → Y) → Reader X → Reader Y
made f r scope bytes = r scope bytes >>= λ x. Ok (f x.0, x.1)

unfoldable pub times : {X : Type 0} → Reader X → ℕ → Reader (List X)
times r zero scope bytes = Ok ([], bytes)
times r (suc n) scope bytes = r scope bytes >>= λ first. times r n scope first.1 >>= λ others. Ok (first.0 ∷ others.0, others.1)

-- items behind their count
abbrev pub listed : {X : Type 0} → Reader X → Reader (List X)
listed r scope bytes = number w16 scope bytes >>= λ n. times r n.0 scope n.1

-- items that depend on those before: what there is to know of these is given for the first, and grows by each
unfoldable pub in_turn : {S X : Type 0} → (S → Reader X) → (S → X → S) → S → ℕ → Reader (List X)
in_turn r after known zero scope bytes = Ok ([], bytes)
in_turn r after known (suc n) scope bytes =
    r known scope bytes >>= λ first. in_turn r after (after known first.0) n scope first.1 >>= λ others. Ok (first.0 ∷ others.0, others.1)

-- ---- values that are judged once they are read

abbrev pub judged : {X : Type 0} → (X → Bool) → (X → ClassFault) → Reader X → Reader X
judged test fault r scope bytes = r scope bytes >>= λ x. if test x.0 then Ok x else Err (fault x.0)

-- an index of the pool that stands for what may stand there
abbrev pub index_that : (ℕ → Bool) → Reader ℕ
index_that test scope bytes = judged test PoolRef (number w16) scope bytes

-- the value, where there is no fault
abbrev pub unless : {X : Type 0} → Option ℕ → (ℕ → ClassFault) → X → Result X ClassFault
unless None fault x = Ok x
unless (Some n) fault x = Err (fault n)

-- ---- the content of an attribute

-- all that is left
abbrev pub others : Reader (List ℕ)
others scope bytes = Ok (bytes, [])

-- the value of which these are all bytes
abbrev pub exactly : {X : Type 0} → Reader X → Scope → List ℕ → Result X ClassFault
exactly r scope bytes = r scope bytes >>= λ x. if length x.1 == 0 then Ok x.0 else Err scope.cut

-- the scope of the content of an attribute whose length stands at the offset, where this many bytes follow it
abbrev pub inner_scope : Scope → ℕ → ℕ → Scope
inner_scope scope offset following = record { cut = AttributeLength offset; end = scope.end - following }

-- the content behind its length, in a scope of its own
abbrev pub content_bytes : Reader (Scope × List ℕ)
content_bytes scope bytes = sized w32 scope bytes >>= λ c. Ok ((inner_scope scope (offset scope bytes) (length c.1), c.0), c.1)

abbrev pub behind_length : {X : Type 0} → Reader X → Reader X
behind_length r scope bytes = content_bytes scope bytes >>= λ c. exactly r c.0.0 c.0.1 >>= λ x. Ok (x, c.1)
