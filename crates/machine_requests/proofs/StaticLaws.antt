-- What the class machine answers of static fields.
use Rattle.std.specs.Prelude.{◌≡◌, ◌≢◌, ℕ, zero, suc, ◌<◌, ◌==◌, Bool, true, false, if◌then◌else◌, List, [], ◌∷◌, length, slice_index_or, slice_set, Option, Some, None, refl}
use Rattle.std.specs.List.{AllByRecursion}
use Rattle.std.specs.Option.{option_map, unwrap_or}
use Rattle.std.specs.Str.{bytes_eq}
use Rattle.std.specs.Cmp.Lexicographic.{bytes_decides}
use Rattle.std.proofs.Common.{sym, ◌∙◌, ap, subst, inl, inr, arith, eq-eqb}
use Rattle.std.proofs.lemmas.Bool.{and_parts, cases_Bool, false≢true, eqb-true}
use Rattle.class_file.specs.Pool.{Reference}
use Rattle.class_heads.specs.declared.types.ClassHead.{ClassHead}
use Rattle.class_machine.specs.declared.kinds.Element.{Element}
use Rattle.class_machine.specs.Values.{Held, is_held}
use Rattle.class_machine.specs.Descriptors.{element_of, element_kind, narrowed, kind_in}
use Rattle.class_machine.specs.Classes.{reference, same_member, same_type}
use Rattle.class_machine.specs.World.{find_field, set_field}
use Rattle.class_machine.specs.Effect.{GetStatic, PutStatic}
use Rattle.class_machine.specs.Answers as answers
use Rattle.class_machine.specs.Answers.{of_type, get_static, put_static}
use Rattle.machine_values.specs.declared.values.Value.{Value}
use Rattle.machine_values.specs.declared.values.Value.TheVariants.{Int, Long, Float, Double, Null, Reference as Pointer, Token, ReturnAddress}
use Rattle.machine_values.specs.declared.names.Name.{Name}
use Rattle.machine_values.specs.Standing.{held, Settled}
use Rattle.machine_values.specs.States.{IsStaticWithin}
use Rattle.machine_values.specs.Things.{Things}
use Rattle.machine_requests.specs.declared.reply.Reply.TheVariants.{Done}
use Rattle.machine_requests.specs.Shares.{Setting, Others, Shares}
use Rattle.machine_requests.specs.Replies.{Replies, IsAnswerWhere}
use Rattle.machine_requests.specs.Arrays.{kept_value}
use Rattle.machine_requests.specs.Statics.{is_of, read_reply, IsField, IsInitial, AreApart, with_statics}

-- ---- members

same_parts : (c d n m t u : List ℕ) → c ≡ d → n ≡ m → t ≡ u → reference c n t ≡ reference d m u
same_parts c d n m t u p q r = ap (λ x. reference x n t) p ∙ ap (λ x. reference d x t) q ∙ ap (λ x. reference d m x) r

pub member_is : (a b : Reference) → same_member a b ≡ true → a ≡ b
member_is a b h =
    let both = and_parts (same_type a.member b.member) (bytes_eq a.class b.class) h in
    let type = and_parts (bytes_eq a.member.name b.member.name) (bytes_eq a.member.descriptor b.member.descriptor) both.0 in
    same_parts a.class b.class a.member.name b.member.name a.member.descriptor b.member.descriptor ((bytes_decides a.class b.class).0 both.1)
    ((bytes_decides a.member.name b.member.name).0 type.0) ((bytes_decides a.member.descriptor b.member.descriptor).0 type.1)

abbrev pick : Bool → Option Held → Option Held → Option Held
pick hit m n = if hit then m else n

-- the fields with that one, by the stored one and the others
pub find_with : (fs : List (Reference × Held)) (r : Reference) (v : Held) (q : Reference) → find_field (set_field fs r v) q ≡ pick (same_member r q) (Some v) (find_field fs q)
find_with [] r v q = refl
find_with (f ∷ fs) r v q = by (same_member f.0 r) refl (find_with fs r v q) where
  twice : (hit : Bool) (x y z : Option Held) → pick hit x z ≡ pick hit x (pick hit y z)
  twice true x y z = refl
  twice false x y z = refl

  other_way : (p q : Bool) (x y z : Option Held) → (p ≡ true → q ≡ true → ⊥) → pick p y (pick q x z) ≡ pick q x (pick p y z)
  other_way true true x y z never = absurd (never refl refl)
  other_way true false x y z never = refl
  other_way false true x y z never = refl
  other_way false false x y z never = refl

  by : (hit : Bool) → same_member f.0 r ≡ hit → find_field (set_field fs r v) q ≡ pick (same_member r q) (Some v) (find_field fs q)
      → find_field (if hit then (r, v) ∷ fs else f ∷ set_field fs r v) q ≡ pick (same_member r q) (Some v) (pick (same_member f.0 q) (Some f.1) (find_field fs q))
  by true e rest =
      let P : Reference → Type 0 = λ x. pick (same_member x q) (Some v) (find_field fs q) ≡ pick (same_member x q) (Some v) (pick (same_member f.0 q) (Some f.1) (find_field fs q)) in
      subst P (member_is f.0 r e) (twice (same_member f.0 q) (Some v) (Some f.1) (find_field fs q))
  by false e rest = ap (pick (same_member f.0 q) (Some f.1)) rest
      ∙ other_way (same_member f.0 q) (same_member r q) (Some v) (Some f.1) (find_field fs q) (λ x y. false≢true (sym e ∙ ap (same_member f.0) (member_is r q y) ∙ x))

-- ---- kinds

kind_same : (heads : List ClassHead) (names : List Name) (n : ℕ) (e : Element) (v : Value) → Settled n v → is_held (element_kind e) (held heads names v) ≡ is_of e v
kind_same heads names n Element.Long (Int k) h = refl
kind_same heads names n Element.Long (Long k) h = refl
kind_same heads names n Element.Long (Float k) h = refl
kind_same heads names n Element.Long (Double k) h = refl
kind_same heads names n Element.Long Null h = refl
kind_same heads names n Element.Long (Pointer at) h = refl
kind_same heads names n Element.Float (Int k) h = refl
kind_same heads names n Element.Float (Long k) h = refl
kind_same heads names n Element.Float (Float k) h = refl
kind_same heads names n Element.Float (Double k) h = refl
kind_same heads names n Element.Float Null h = refl
kind_same heads names n Element.Float (Pointer at) h = refl
kind_same heads names n Element.Double (Int k) h = refl
kind_same heads names n Element.Double (Long k) h = refl
kind_same heads names n Element.Double (Float k) h = refl
kind_same heads names n Element.Double (Double k) h = refl
kind_same heads names n Element.Double Null h = refl
kind_same heads names n Element.Double (Pointer at) h = refl
kind_same heads names n Element.Reference (Int k) h = refl
kind_same heads names n Element.Reference (Long k) h = refl
kind_same heads names n Element.Reference (Float k) h = refl
kind_same heads names n Element.Reference (Double k) h = refl
kind_same heads names n Element.Reference Null h = refl
kind_same heads names n Element.Reference (Pointer at) h = refl
kind_same heads names n e (Token class k) h = absurd (false≢true h)
kind_same heads names n e (ReturnAddress pc) h = absurd (false≢true h)
kind_same heads names n e (Int k) h = refl
kind_same heads names n e (Long k) h = refl
kind_same heads names n e (Float k) h = refl
kind_same heads names n e (Double k) h = refl
kind_same heads names n e Null h = refl
kind_same heads names n e (Pointer at) h = refl

pub kept_same : (heads : List ClassHead) (names : List Name) (e : Element) (v : Value) → held heads names (kept_value e v) ≡ narrowed e (held heads names v)
kept_same heads names e (Int k) = refl
kept_same heads names e (Long k) = refl
kept_same heads names e (Float k) = refl
kept_same heads names e (Double k) = refl
kept_same heads names e Null = refl
kept_same heads names e (Pointer at) = refl
kept_same heads names e (Token class k) = refl
kept_same heads names e (ReturnAddress pc) = refl

pub kept_settled : (n : ℕ) (e : Element) (v : Value) → Settled n v → Settled n (kept_value e v)
kept_settled n e (Int k) h = refl
kept_settled n e (Long k) h = refl
kept_settled n e (Float k) h = refl
kept_settled n e (Double k) h = refl
kept_settled n e Null h = refl
kept_settled n e (Pointer at) h = h
kept_settled n e (Token class k) h = h
kept_settled n e (ReturnAddress pc) h = h

-- ---- static fields

static_at : (n : ℕ) (os : List (Option Value)) (i : ℕ) → AllByRecursion (IsStaticWithin n) os → IsStaticWithin n (slice_index_or os i None)
static_at n [] zero h = tt
static_at n [] (suc i) h = tt
static_at n (o ∷ os) zero h = h.0
static_at n (o ∷ os) (suc i) h = static_at n os i h.1

value_settled : (n : ℕ) (o : Option Value) (initial : Value) → IsStaticWithin n o → Settled n initial → Settled n (unwrap_or o initial)
value_settled n None initial h k = k
value_settled n (Some v) initial h k = h

value_held : (heads : List ClassHead) (names : List Name) (o : Option Value) (initial : Value) (h : Held) → h ≡ held heads names initial → unwrap_or (option_map (held heads names) o) h ≡ held heads names (unwrap_or o initial)
value_held heads names None initial h e = e
value_held heads names (Some v) initial h e = refl

pub static_read : (things : Things) (others : Others) (r : Reference) (n : ℕ) (e : Element) (initial : Value) → n < length others.statics → Settled (length things.names) initial
    → IsAnswerWhere (λ s. IsField r n e s × IsInitial things n initial s) things others (λ s names. GetStatic r) things others
    (read_reply (is_of e (unwrap_or (slice_index_or others.statics n None) initial)) (unwrap_or (slice_index_or others.statics n None) initial))
static_read things others r n e initial known settled s w holds distinct shares =
    let v = unwrap_or (slice_index_or others.statics n None) initial in
    let within : Settled (length things.names) v = value_settled (length things.names) (slice_index_or others.statics n None) initial (static_at (length things.names) others.statics n shares.statics_within) settled in
    let found : unwrap_or (find_field w.statics (s.field_names n)) (s.classes.initial (s.field_names n)) ≡ held s.heads things.names v =
    ap (λ o. unwrap_or o (s.classes.initial (s.field_names n))) (shares.statics n known) ∙ value_held s.heads things.names (slice_index_or others.statics n None) initial (s.classes.initial (s.field_names n)) holds.1.same in
    let fits : is_held (kind_in (s.field_names n).member.descriptor) (held s.heads things.names v) ≡ is_of e v =
    ap (λ f. is_held (element_kind f) (held s.heads things.names v)) holds.0.element ∙ kind_same s.heads things.names (length things.names) e v within in
    subst (λ (a : answers.Reply). Replies s things others w (read_reply (is_of e v) v) a)
    (sym (ap (λ q. get_static s.classes w q) holds.0.declared ∙ ap (λ h. of_type (s.field_names n).member.descriptor h w) found
    ∙ ap (λ (b : Bool). if b then answers.Gives (held s.heads things.names v) w else answers.Refuses) fits))
    (given s v within shares (is_of e v)) where
      given : (s' : Setting) (v : Value) → Settled (length things.names) v → Shares s' things others w → (fits : Bool)
          → Replies s' things others w (read_reply fits v) (if fits then answers.Gives (held s'.heads things.names v) w else answers.Refuses)
      given s' v within shares' true = (refl, within, shares')
      given s' v within shares' false = tt

-- ---- a static field is stored

set_there : (os : List (Option Value)) (i : ℕ) (o : Option Value) → i < length os → slice_index_or (slice_set os i o) i None ≡ o
set_there [] i o h = absurd (omega arith)
set_there (x ∷ os) zero o h = refl
set_there (x ∷ os) (suc i) o h = set_there os i o (omega arith)

set_other : (os : List (Option Value)) (i : ℕ) (o : Option Value) (j : ℕ) → j ≢ i → slice_index_or (slice_set os i o) j None ≡ slice_index_or os j None
set_other [] i o j h = refl
set_other (x ∷ os) zero o zero h = absurd (h refl)
set_other (x ∷ os) zero o (suc j) h = refl
set_other (x ∷ os) (suc i) o zero h = refl
set_other (x ∷ os) (suc i) o (suc j) h = set_other os i o j (λ e. h (ap suc e))

set_length : (os : List (Option Value)) (i : ℕ) (o : Option Value) → length (slice_set os i o) ≡ length os
set_length [] i o = refl
set_length (x ∷ os) zero o = refl
set_length (x ∷ os) (suc i) o = ap suc (set_length os i o)

set_within : (n : ℕ) (os : List (Option Value)) (i : ℕ) (v : Value) → AllByRecursion (IsStaticWithin n) os → Settled n v → AllByRecursion (IsStaticWithin n) (slice_set os i (Some v))
set_within n [] i v h k = tt
set_within n (x ∷ os) zero v h k = (k, h.1)
set_within n (x ∷ os) (suc i) v h k = (h.0, set_within n os i v h.1 k)

pub static_written : (things : Things) (others : Others) (r : Reference) (n : ℕ) (e : Element) (v : Value) → n < length others.statics → Settled (length things.names) v
    → IsAnswerWhere (λ s. IsField r n e s × AreApart (length others.statics) s) things others (λ s names. PutStatic r (held s.heads names v)) things
    (with_statics others (slice_set others.statics n (Some (kept_value e v)))) Done
static_written things others r n e v known settled s w holds distinct shares =
    let stored = held s.heads things.names (kept_value e v) in
    let same : narrowed (element_of (s.field_names n).member.descriptor) (held s.heads things.names v) ≡ stored =
    ap (λ f. narrowed f (held s.heads things.names v)) holds.0.element ∙ sym (kept_same s.heads things.names e v) in
    subst (λ (a : answers.Reply). Replies s things (with_statics others (slice_set others.statics n (Some (kept_value e v)))) w Done a)
    (sym (ap (λ q. put_static w q (held s.heads things.names v)) holds.0.declared ∙ ap (λ h. answers.Done (record w { statics = set_field w.statics (s.field_names n) h })) same))
    (record {
      heap = shares.heap;
      fit = shares.fit;
      statics = λ i below. let len = set_length others.statics n (Some (kept_value e v)) in
          find_with w.statics (s.field_names n) stored (s.field_names i)
          ∙ ap (λ hit. pick hit (Some stored) (find_field w.statics (s.field_names i))) (holds.1.apart n i known (omega arith)) ∙ here s shares i (omega arith);
      statics_within = set_within (length things.names) others.statics n (kept_value e v) shares.statics_within (kept_settled (length things.names) e v settled);
      begun = shares.begun;
      monitors = shares.monitors;
      monitors_within = shares.monitors_within;
      unentered = shares.unentered;
    }) where
      here : (s' : Setting) → Shares s' things others w → (i : ℕ) → i < length others.statics
          → pick (n == i) (Some (held s'.heads things.names (kept_value e v))) (find_field w.statics (s'.field_names i)) ≡ option_map (held s'.heads things.names) (slice_index_or (slice_set others.statics n (Some (kept_value e v))) i None)
      here s' shares' i below = elim (cases_Bool (n == i)) [
        | inl hit ↦ ap (λ b. pick b (Some (held s'.heads things.names (kept_value e v))) (find_field w.statics (s'.field_names i))) hit
            ∙ ap (option_map (held s'.heads things.names)) (sym (set_there others.statics n (Some (kept_value e v)) known))
            ∙ ap (λ j. option_map (held s'.heads things.names) (slice_index_or (slice_set others.statics n (Some (kept_value e v))) j None)) (eqb-true n i hit)
        | inr miss ↦ ap (λ b. pick b (Some (held s'.heads things.names (kept_value e v))) (find_field w.statics (s'.field_names i))) miss ∙ shares'.statics i below
            ∙ ap (option_map (held s'.heads things.names)) (sym (set_other others.statics n (Some (kept_value e v)) i (λ same. false≢true (sym miss ∙ eq-eqb n i (sym same)))))
      ]
