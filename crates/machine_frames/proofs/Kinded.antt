-- What is of a kind, is popped as one.
use Rattle.std.proofs.Common.{◌≡◌, ℕ, Bool, true, false, if◌then◌else◌, refl, ap}
use Rattle.std.proofs.lemmas.Bool.{false≢true}
use Rattle.class_machine.specs.declared.kinds.Kind.{Kind}
use Rattle.class_machine.specs.Values as machine
use Rattle.class_machine.specs.ClassFiles.{Place}
use Rattle.class_machine.specs.Effect as definition
use Rattle.machine_values.specs.declared.values.Value.{Value}
use Rattle.machine_values.specs.declared.values.Value.TheVariants.{Int, Long, Float, Double, Null, Reference, Token, ReturnAddress}
use Rattle.machine_values.specs.Standing.{is_settled}
use Rattle.machine_values.specs.States.{is_known}
use Rattle.machine_frames.specs.Naming.{Naming, held, value}
use Rattle.machine_frames.specs.Kinds.{is_of}

abbrev Go : Type 0
Go = machine.Held → definition.Effect Place

abbrev chosen : Go → machine.Held → Bool → definition.Effect Place
chosen go h b = if b then go h else definition.Broken

pub takes : (n : Naming) (method : ℕ) (k : Kind) (v : Value) (go : Go) → is_of k v ≡ true → definition.held_in k (value n method v) go ≡ go (held n v)
takes n method k (Int x) go h = ap (chosen go (machine.Int x)) h
takes n method k (Long x) go h = ap (chosen go (machine.Long x)) h
takes n method k (Float bits) go h = ap (chosen go (machine.Float bits)) h
takes n method k (Double bits) go h = ap (chosen go (machine.Double bits)) h
takes n method k Null go h = ap (chosen go machine.Null) h
takes n method k (Reference at) go h = ap (chosen go (held n (Reference at))) h
takes n method k (Token class number) go h = absurd (false≢true h)
takes n method k (ReturnAddress pc) go h = absurd (false≢true h)

pub refuses : (n : Naming) (method : ℕ) (k : Kind) (v : Value) (go : Go) → is_of k v ≡ false → definition.held_in k (value n method v) go ≡ definition.Broken
refuses n method k (Int x) go h = ap (chosen go (machine.Int x)) h
refuses n method k (Long x) go h = ap (chosen go (machine.Long x)) h
refuses n method k (Float bits) go h = ap (chosen go (machine.Float bits)) h
refuses n method k (Double bits) go h = ap (chosen go (machine.Double bits)) h
refuses n method k Null go h = ap (chosen go machine.Null) h
refuses n method k (Reference at) go h = ap (chosen go (held n (Reference at))) h
refuses n method k (Token class number) go h = refl
refuses n method k (ReturnAddress pc) go h = refl

pub settles : (count : ℕ) (k : Kind) (v : Value) → is_of k v ≡ true → is_known count v ≡ true → is_settled count v ≡ true
settles count k (Int x) h e = refl
settles count k (Long x) h e = refl
settles count k (Float bits) h e = refl
settles count k (Double bits) h e = refl
settles count k Null h e = refl
settles count k (Reference at) h e = e
settles count k (Token class number) h e = absurd (false≢true h)
settles count k (ReturnAddress pc) h e = absurd (false≢true h)
