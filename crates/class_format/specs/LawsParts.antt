-- Readers made of parts: what they read are the values whose parts fit, and the spelling is that of the parts.
use Rattle.std.proofs.Common.{Result, ◌≡◌, ℕ, Bool, true, ◌&&◌, cond, eqb, List, [], ◌++◌, length, Ok, Err, refl, sym, ap, subst, ◌∙◌, append_assoc, append-nil, Option, Some, None}
use Rattle.std.specs.Prelude.{is_none}
use Rattle.std.specs.Int.{w16, w32}
use Rattle.std.proofs.lemmas.Bool.{and_parts, and_from, eqb-true}
use Rattle.std.proofs.lemmas.List.{nil_from_length}
use Rattle.class_format.specs.declared.fault.ClassFault.{ClassFault}
use Rattle.class_format.specs.declared.fault.ClassFault.TheVariants.{PoolRef}
use Rattle.class_file.specs.Spelling.{u2}
use Rattle.class_file.specs.Range.{are_bytes, is_u2, is_u4}
use Rattle.class_format.specs.declared.scope.Scope.{Scope}
use Rattle.class_format.specs.Readers.{◌>>=◌, Reader, number, sized, unless, both, made, judged, others, offset, inner_scope, exactly, content_bytes, behind_length, index_that}
use Rattle.class_format.specs.LawsCodec.{IsBytes, IsBytes-none, IsBytes_from, are_bytes_from, bind_ok, passed, done, ok_is, Takes, Takes-then, IsCodec, u2_codec, sized_spelling, bytes_codec, bytes_back}

-- a second part that depends on the first
abbrev pub followed : {X Y : Type 0} → Reader X → (X → Reader Y) → Reader (X × Y)
followed r s scope bytes = r scope bytes >>= λ x. s x.0 scope x.1 >>= λ y. Ok ((x.0, y.0), y.1)

pub followed_codec : {X Y : Type 0} (r : Reader X) (s : X → Reader Y) (f : X → List ℕ) (g : X → Y → List ℕ) (p : X → Bool) (q : X → Y → Bool) → IsCodec r f p → ((x : X) → p x ≡ true → IsCodec (s x) (g x) (q x))
    → IsCodec (followed r s) (λ z. f z.0 ++ g z.0 z.1) (λ z. p z.0 && q z.0 z.1)
followed_codec {X} {Y} r s f g p q c d = record {
  takes = λ scope bytes x fits e.
      let a = bind_ok (r scope bytes) (λ v. s v.0 scope v.1 >>= λ w. Ok ((v.0, w.0), w.1)) x e in
      let b = bind_ok (s a.0.0 scope a.0.1) (λ w. Ok ((a.0.0, w.0), w.1)) x a.2 in
      let t = c.takes scope bytes a.0 fits a.1 in
      let u = (d a.0.0 t.1).takes scope a.0.1 b.0 t.0.rest_fits b.1 in
      subst (λ (y : (X × Y) × List ℕ). Takes bytes (f y.0.0 ++ g y.0.0 y.0.1) y.1 × ((p y.0.0 && q y.0.0 y.0.1) ≡ true)) (ok_is ((a.0.0, b.0.0), b.0.1) x b.2)
      (Takes-then bytes (f a.0.0) a.0.1 (g a.0.0 b.0.0) b.0.1 t.0 u.0, and_from _ _ t.1 u.1);
  again = λ scope x rest fits.
      let h = and_parts (p x.0) (q x.0 x.1) fits in
      ap (followed r s scope) (append_assoc (f x.0) (g x.0 x.1) rest) ∙ rw (c.again scope x.0 (g x.0 x.1 ++ rest) h.0, (d x.0 h.0).again scope x.1 rest h.1) refl;
}

pub both_codec : {X Y : Type 0} (r : Reader X) (s : Reader Y) (f : X → List ℕ) (g : Y → List ℕ) (p : X → Bool) (q : Y → Bool) → IsCodec r f p → IsCodec s g q
    → IsCodec (both r s) (λ x. f x.0 ++ g x.1) (λ x. p x.0 && q x.1)
both_codec r s f g p q c d =
    let t = followed_codec r (λ x. s) f (λ x. g) p (λ x. q) c (λ x h. d) in
    record { takes = t.takes; again = t.again }

-- a value made of what is read, from which that can be had back
pub made_codec : {X Y : Type 0} (h : X → Y) (back : Y → X) (r : Reader X) (f : X → List ℕ) (p : X → Bool) → ((x : X) → p x ≡ true → back (h x) ≡ x) → ((y : Y) → h (back y) ≡ y) → IsCodec r f p
    → IsCodec (made h r) (λ y. f (back y)) (λ y. p (back y))
made_codec {X} {Y} h back r f p left right c = record {
  takes = λ scope bytes y fits e.
      let a = bind_ok (r scope bytes) (λ v. Ok (h v.0, v.1)) y e in
      let t = c.takes scope bytes a.0 fits a.1 in
      subst (λ (z : Y × List ℕ). Takes bytes (f (back z.0)) z.1 × (p (back z.0) ≡ true)) (ok_is (h a.0.0, a.0.1) y a.2)
      (subst (λ (x : X). Takes bytes (f x) a.0.1 × (p x ≡ true)) (sym (left a.0.0 t.1)) t);
  again = λ scope y rest fits. rw (c.again scope (back y) rest fits) (ap (λ (z : Y). done (z, rest)) (right y));
}

-- a judgement of what is read
pub judged_codec : {X : Type 0} (test : X → Bool) (fault : X → ClassFault) (r : Reader X) (f : X → List ℕ) (p : X → Bool) → IsCodec r f p → IsCodec (judged test fault r) f (λ x. p x && test x)
judged_codec {X} test fault r f p c = record {
  takes = λ scope bytes x fits e.
      let a = bind_ok (r scope bytes) (λ v. cond (test v.0) (Ok v) (Err (fault v.0))) x e in
      let g = passed (test a.0.0) (fault a.0.0) (Ok a.0) x a.2 in
      let t = c.takes scope bytes a.0 fits a.1 in
      subst (λ (z : X × List ℕ). Takes bytes (f z.0) z.1 × ((p z.0 && test z.0) ≡ true)) (ok_is a.0 x g.1) (t.0, and_from _ _ t.1 g.0);
  again = λ scope x rest fits. let h = and_parts (p x) (test x) fits in rw (c.again scope x rest h.0, h.1) refl;
}

-- the same test in another form
pub same_codec : {X : Type 0} (r : Reader X) (f : X → List ℕ) (p q : X → Bool) → ((x : X) → p x ≡ q x) → IsCodec r f p → IsCodec r f q
same_codec r f p q same c = record {
  takes = λ scope bytes x fits e. let t = c.takes scope bytes x fits e in (t.0, sym (same x.0) ∙ t.1);
  again = λ scope x rest fits. c.again scope x rest (same x ∙ fits);
}

pub index_codec : (test : ℕ → Bool) → IsCodec (index_that test) u2 (λ n. is_u2 n && test n)
index_codec test =
    let c = judged_codec test PoolRef (number w16) u2 is_u2 u2_codec in
    record { takes = c.takes; again = c.again }

-- a reader that reads the same
pub same_reader : {X : Type 0} (r s : Reader X) (f : X → List ℕ) (p : X → Bool) → ((scope : Scope) (bytes : List ℕ) → s scope bytes ≡ r scope bytes) → IsCodec r f p → IsCodec s f p
same_reader r s f p same c = record {
  takes = λ scope bytes x fits e. c.takes scope bytes x fits (sym (same scope bytes) ∙ e);
  again = λ scope x rest fits. same scope (f x ++ rest) ∙ c.again scope x rest fits;
}

pub bind_assoc : {A B C : Type 0} (m : Result A ClassFault) (f : A → Result B ClassFault) (g : B → Result C ClassFault) → ((m >>= f) >>= g) ≡ (m >>= λ x. f x >>= g)
bind_assoc (Ok x) f g = refl
bind_assoc (Err e) f g = refl

pub bind_same : {A B : Type 0} (m : Result A ClassFault) (f g : A → Result B ClassFault) → ((x : A) → f x ≡ g x) → (m >>= f) ≡ (m >>= g)
bind_same (Ok x) f g same = same x
bind_same (Err e) f g same = refl

-- what both parts make, and what may be done with it
pub followed_by : {X Y Z : Type 0} (r : Reader X) (s : X → Reader Y) (k : (X × Y) × List ℕ → Result (Z × List ℕ) ClassFault) (scope : Scope) (bytes : List ℕ)
    → (r scope bytes >>= λ x. s x.0 scope x.1 >>= λ y. k ((x.0, y.0), y.1)) ≡ (followed r s scope bytes >>= k)
followed_by {X} {Y} r s k scope bytes =
    sym (bind_assoc (r scope bytes) (λ x. s x.0 scope x.1 >>= λ y. Ok ((x.0, y.0), y.1)) k
    ∙ bind_same (r scope bytes) _ _ (λ x. bind_assoc (s x.0 scope x.1) (λ y. Ok ((x.0, y.0), y.1)) k))

-- an optional fault that was not there
pub no_fault : {X : Type 0} (o : Option ℕ) (fault : ℕ → ClassFault) (x y : X) → unless o fault x ≡ Ok y → (o ≡ None) × (x ≡ y)
no_fault None fault x y e = (refl, ok_is x y e)
no_fault (Some n) fault x y e = absurd cc

pub none_is : (o : Option ℕ) → is_none o ≡ true → o ≡ None
none_is None h = refl
none_is (Some n) h = absurd cc

-- a value in which no place is wrong
pub unless_codec : {X : Type 0} (o : X → Option ℕ) (fault : ℕ → ClassFault) (r : Reader X) (f : X → List ℕ) (p : X → Bool) → IsCodec r f p
    → IsCodec (λ scope bytes. r scope bytes >>= λ x. unless (o x.0) fault x) f (λ x. p x && is_none (o x))
unless_codec {X} o fault r f p c = record {
  takes = λ scope bytes x fits e.
      let a = bind_ok (r scope bytes) (λ v. unless (o v.0) fault v) x e in
      let g = no_fault (o a.0.0) fault a.0 x a.2 in
      let t = c.takes scope bytes a.0 fits a.1 in
      subst (λ (z : X × List ℕ). Takes bytes (f z.0) z.1 × ((p z.0 && is_none (o z.0)) ≡ true)) g.1 (t.0, and_from _ _ t.1 (rw g.0 refl));
  again = λ scope x rest fits. let h = and_parts (p x) (is_none (o x)) fits in rw (c.again scope x rest h.0, none_is (o x) h.1) refl;
}

-- ---- content behind its length

-- the same of all bytes in the scope
pub record IsWhole {X : Type 0} (r : Reader X) (spell : X → List ℕ) (fits : X → Bool) : Type 0 where
  pub takes : (scope : Scope) (bytes : List ℕ) (x : X × List ℕ) → IsBytes bytes → r scope bytes ≡ Ok x → Takes bytes (spell x.0) x.1 × (fits x.0 ≡ true)
  pub again : (scope : Scope) (x : X) → fits x ≡ true → r scope (spell x) ≡ Ok (x, [])

pub whole_from : {X : Type 0} (r : Reader X) (f : X → List ℕ) (p : X → Bool) → IsCodec r f p → IsWhole r f p
whole_from r f p c = record {
  takes = c.takes;
  again = λ scope x fits. ap (r scope) (sym (append-nil (f x))) ∙ c.again scope x [] fits;
}

-- all that is left
pub others_whole : IsWhole others (λ bytes. bytes) are_bytes
others_whole = record {
  takes = λ scope bytes x fits e.
      subst (λ (y : List ℕ × List ℕ). Takes bytes y.0 y.1 × (are_bytes y.0 ≡ true)) (ok_is (bytes, []) x e)
      (record { parts = sym (append-nil bytes); rest_fits = λ i. IsBytes-none i }, are_bytes_from bytes fits);
  again = λ scope x fits. refl;
}

-- a value of one kind, made of what is read whole
pub kind_whole : {X Y : Type 0} (h : X → Y) (r : Reader X) (f : X → List ℕ) (p : X → Bool) (g : Y → List ℕ) (q : Y → Bool) → ((x : X) → p x ≡ true → (g (h x) ≡ f x) × (q (h x) ≡ true))
    → ((y : Y) → q y ≡ true → (x : X) × (p x ≡ true) × (h x ≡ y)) → IsWhole r f p → IsWhole (made h r) g q
kind_whole {X} {Y} h r f p g q there back c = record {
  takes = λ scope bytes y fits e.
      let a = bind_ok (r scope bytes) (λ v. Ok (h v.0, v.1)) y e in
      let t = c.takes scope bytes a.0 fits a.1 in
      let k = there a.0.0 t.1 in
      subst (λ (z : Y × List ℕ). Takes bytes (g z.0) z.1 × (q z.0 ≡ true)) (ok_is (h a.0.0, a.0.1) y a.2) (subst (λ (s : List ℕ). Takes bytes s a.0.1) (sym k.0) t.0, k.1);
  again = λ scope y fits.
      let b = back y fits in
      let k = there b.0 b.1 in
      ap (made h r scope) (ap g (sym b.2) ∙ k.0) ∙ rw (c.again scope b.0 b.1) (ap (λ (z : Y). done (z, [])) b.2);
}

-- content that is read whole, behind its length
pub length_codec : {X : Type 0} (r : Reader X) (f : X → List ℕ) (p : X → Bool) → IsWhole r f p → IsCodec (behind_length r) (λ x. sized_spelling w32 (f x)) (λ x. is_u4 (length (f x)) && p x)
length_codec {X} r f p c = record {
  takes = λ scope bytes x fits e.
      let inner = λ (t : List ℕ × List ℕ). inner_scope scope (offset scope bytes) (length t.1) in
      let a = bind_ok (content_bytes scope bytes) (λ t. exactly r t.0.0 t.0.1 >>= λ y. Ok (y, t.1)) x e in
      let b = bind_ok (sized w32 scope bytes) (λ t. Ok ((inner t, t.0), t.1)) a.0 a.1 in
      let a-is = ok_is ((inner b.0, b.0.0), b.0.1) a.0 b.2 in
      let d = bind_ok (exactly r a.0.0.0 a.0.0.1) (λ y. Ok (y, a.0.1)) x a.2 in
      let g = bind_ok (r a.0.0.0 a.0.0.1) (λ y. cond (eqb (length y.1) 0) (Ok y.0) (Err a.0.0.0.cut)) d.0 d.1 in
      let h = passed (eqb (length g.0.1) 0) a.0.0.0.cut (Ok g.0.0) d.0 g.2 in
      let t = bytes_codec.takes scope bytes b.0 fits b.1 in
      let u : Takes bytes (sized_spelling w32 a.0.0.1) a.0.1 × ((is_u4 (length a.0.0.1) && are_bytes a.0.0.1) ≡ true) =
      subst (λ (y : (Scope × List ℕ) × List ℕ). Takes bytes (sized_spelling w32 y.0.1) y.1 × ((is_u4 (length y.0.1) && are_bytes y.0.1) ≡ true)) a-is t in
      let k = and_parts (is_u4 (length a.0.0.1)) (are_bytes a.0.0.1) u.1 in
      let v = c.takes a.0.0.0 a.0.0.1 g.0 (IsBytes_from a.0.0.1 k.1) g.1 in
      let text-is : a.0.0.1 ≡ f g.0.0 = v.0.parts ∙ ap (λ (s : List ℕ). f g.0.0 ++ s) (nil_from_length g.0.1 (eqb-true _ _ h.0)) ∙ append-nil (f g.0.0) in
      let is : (g.0.0, a.0.1) ≡ x = ap (λ (z : X). (z, a.0.1)) (ok_is g.0.0 d.0 h.1) ∙ ok_is (d.0, a.0.1) x d.2 in
      subst (λ (y : X × List ℕ). Takes bytes (sized_spelling w32 (f y.0)) y.1 × ((is_u4 (length (f y.0)) && p y.0) ≡ true)) is
      (subst (λ (s : List ℕ). Takes bytes (sized_spelling w32 s) a.0.1) text-is u.0, and_from _ _ (subst (λ (s : List ℕ). is_u4 (length s) ≡ true) text-is k.0) v.1);
  again = λ scope x rest fits.
      let h = and_parts (is_u4 (length (f x))) (p x) fits in
      rw (bytes_back scope (f x) rest h.0, c.again _ x h.1) refl;
}
