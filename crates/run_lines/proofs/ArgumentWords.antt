-- How the words of arguments begin and end.
use Rattle.std.proofs.Common.{◌≡◌, ◌≢◌, ◌⊎◌, ℕ, ◌<◌, Bool, true, false, List, [], ◌∷◌, ◌++◌, refl, sym, ap, subst, ◌∙◌, length, arith, inl, inr, append_assoc, get_or, length-append}
use Rattle.std.proofs.Math.Seq.{get_or-append_seam}
use Rattle.std.specs.Prelude.{◌==◌, ◌||◌, codes, ℤ}
use Rattle.std.specs.List.{list_any, flat_map, join_with_byte}
use Rattle.std.specs.Fmt.{signed_decimal}
use Rattle.std.proofs.lemmas.Bool.{ne_eqb}
use Rattle.machine_values.specs.declared.script.EntryArg.{EntryArg}
use Rattle.machine_values.specs.declared.script.EntryArg.TheVariants as arg
use Rattle.run_lines.specs.Splits.{Text, is_stop, IsStopSplit}
use Rattle.run_lines.specs.Numbers.{IsInt, IsLong}
use Rattle.run_lines.specs.Lists.{IsWordAt, IsListAt}
use Rattle.run_lines.specs.Texts.{escape, IsText}
use Rattle.run_lines.specs.Arguments.{IsLongArgument, IsPlainArgument, IsTexts, IsArgument, IsEndedAt}
use Rattle.run_lines.proofs.Refusing.{pair_is, left, right}
use Rattle.run_lines.proofs.Listing.{IsOne}
use Rattle.run_lines.proofs.NumberWords.{int_small, long_small, AreNumberBytes, signed_are, signed_some, number_first, number_last, number_starts}

-- none of " ) , and [
abbrev pub IsWordByte : ℕ → Type 0
IsWordByte b = (44 < b) × (b ≢ 91)

abbrev pub AreWordBytes : Text → Type 0
AreWordBytes [] = Unit {0}
AreWordBytes (b ∷ bs) = IsWordByte b × AreWordBytes bs

numbers_are : (bs : Text) → AreNumberBytes bs → AreWordBytes bs
numbers_are [] h = tt
numbers_are (b ∷ bs) h = ((omega (arith, h.0.0), λ e. omega (arith, e, h.0.1)), numbers_are bs h.1)

both_are : (a b : Text) → AreWordBytes a → AreWordBytes b → AreWordBytes (a ++ b)
both_are [] b h k = k
both_are (x ∷ a) b h k = (h.0, both_are a b h.1 k)

pub record IsPlainWord (word : Text) : Type 0 where
  pub bytes : AreWordBytes word
  pub some : 0 < length word

long_word : (digits word : Text) → AreNumberBytes digits → word ≡ digits ++ 76 ∷ [] → IsPlainWord word
long_word digits word h e = subst IsPlainWord (sym e) (record {
  bytes = both_are digits (76 ∷ []) (numbers_are digits h) ((omega arith, λ n. omega (arith, n)), tt);
  some = some digits;
})
  where
    some : (ds : Text) → 0 < length (ds ++ 76 ∷ [])
    some [] = omega arith
    some (d ∷ ds) = omega arith

pub plain_word : (a : EntryArg) (word : Text) → IsPlainArgument a word → IsPlainWord word
plain_word (arg.Int n) word h =
    subst IsPlainWord (sym h.1) (record { bytes = numbers_are (signed_decimal n) (signed_are n (int_small n h.0)); some = signed_some n (int_small n h.0) })
plain_word (arg.Long n) word h =
    long_word h.digits word (subst AreNumberBytes (sym h.is_long.1) (signed_are n (long_small n h.is_long.0))) h.letter
plain_word arg.Null word h = subst IsPlainWord (sym h) (record {
  bytes = ((omega arith, λ n. omega (arith, n)), ((omega arith, λ n. omega (arith, n)), ((omega arith, λ n. omega (arith, n)), ((omega arith, λ n. omega (arith, n)), tt))));
  some = omega arith;
})
plain_word (arg.Text units) word h = absurd h
plain_word (arg.Texts texts) word h = absurd h

no_stop : (bs : Text) → AreWordBytes bs → list_any is_stop bs ≡ false
no_stop [] h = refl
no_stop (b ∷ bs) h =
    ap (λ (t : Bool). (t || (b == 41)) || list_any is_stop bs) (ne_eqb b 44 (λ e. omega (arith, e, h.0.0)))
    ∙ ap (λ (t : Bool). t || list_any is_stop bs) (ne_eqb b 41 (λ e. omega (arith, e, h.0.0)))
    ∙ no_stop bs h.1

-- the first byte of a plain word
pub plain_first : (word rest t : Text) (c : ℕ) → IsPlainWord word → word ++ rest ≡ c ∷ t → IsWordByte c
plain_first word rest t c w e = by word w.bytes w.some e
  where
    by : (bs : Text) → AreWordBytes bs → 0 < length bs → bs ++ rest ≡ c ∷ t → IsWordByte c
    by [] h some e = absurd (omega (arith, some))
    by (b ∷ bs) h some e = let same : b ≡ c = cc in subst IsWordByte same h.0

-- a text begins with a quote, and a list with a bracket
pub quote_first : (units : List ℕ) (word rest t : Text) (c : ℕ) → IsText units word → word ++ rest ≡ c ∷ t → c ≡ 34
quote_first units word rest t c h e = let q = h.quoted in let both : 34 ∷ ((flat_map escape h.text ++ 34 ∷ []) ++ rest) ≡ c ∷ t = ap (λ (w : Text). w ++ rest) (sym q) ∙ e in cc

pub bracket_first : (texts : List (List ℕ)) (word rest t : Text) (c : ℕ) → IsTexts texts word → word ++ rest ≡ c ∷ t → c ≡ 91
bracket_first texts word rest t c h e = let both : 91 ∷ (h.inside ++ rest) ≡ c ∷ t = ap (λ (w : Text). w ++ rest) (sym h.bracket) ∙ e in cc

-- no text begins as the bracket that closes a list, and no argument as the one that closes all
pub unlike_text : (units : List ℕ) (word r t : Text) → IsText units word → ¬ (word ++ r ≡ 93 ∷ t)
unlike_text units word r t h e = let n : 93 ≡ 34 = quote_first units word r t 93 h e in omega (arith, n)

pub unlike_argument : (a : EntryArg) (word r t : Text) → IsArgument a word → ¬ (word ++ r ≡ 41 ∷ t)
unlike_argument (arg.Int n) word r t h e = let p = plain_first word r t 41 (plain_word (arg.Int n) word h) e in omega (arith, p.0)
unlike_argument (arg.Long n) word r t h e = let p = plain_first word r t 41 (plain_word (arg.Long n) word h) e in omega (arith, p.0)
unlike_argument arg.Null word r t h e = let p = plain_first word r t 41 (plain_word arg.Null word h) e in omega (arith, p.0)
unlike_argument (arg.Text units) word r t h e = let n : 41 ≡ 34 = quote_first units word r t 41 h e in omega (arith, n)
unlike_argument (arg.Texts texts) word r t h e = let n : 41 ≡ 91 = bracket_first texts word r t 41 h e in omega (arith, n)

pub plain_argument : (a : EntryArg) (word : Text) → IsPlainArgument a word → IsArgument a word
plain_argument (arg.Int n) word h = h
plain_argument (arg.Long n) word h = h
plain_argument arg.Null word h = h
plain_argument (arg.Text units) word h = absurd h
plain_argument (arg.Texts texts) word h = absurd h

-- ---- a list at the front

pub texts_front : (text inside behind : Text) (texts : List (List ℕ)) → text ≡ 91 ∷ inside → IsListAt IsText 93 inside texts behind → IsWordAt IsArgument text (arg.Texts texts) behind
texts_front text inside behind texts opens l =
    let joined : Text = join_with_byte 44 l.words in record {
      word = 91 ∷ (joined ++ 93 ∷ []);
      is_word = record { inside = joined ++ 93 ∷ []; bracket = refl; listed = record { words = l.words; are_words = l.are_words; front = refl } };
      front = opens ∙ ap (λ (r : Text). 91 ∷ r) (l.front ∙ sym (append_assoc joined (93 ∷ []) behind));
    }

list_on : (inside behind : Text) (texts : List (List ℕ)) → IsListAt IsText 93 inside texts [] → IsListAt IsText 93 (inside ++ behind) texts behind
list_on inside behind texts l =
    let joined : Text = join_with_byte 44 l.words in record {
      words = l.words;
      are_words = l.are_words;
      front = ap (λ (i : Text). i ++ behind) l.front ∙ append_assoc joined (93 ∷ []) behind;
    }

-- what a text is that begins with an opening bracket
pub record IsListed (inside : Text) (a : EntryArg) (behind : Text) : Type 0 where
  pub texts : List (List ℕ)
  pub are : a ≡ arg.Texts texts
  pub listed : IsListAt IsText 93 inside texts behind

pub texts_leads : (text inside behind : Text) (a : EntryArg) → text ≡ 91 ∷ inside → IsWordAt IsArgument text a behind → IsListed inside a behind
texts_leads text inside behind a opens w = by a w.word w.is_word (sym w.front ∙ opens)
  where
    by : (a : EntryArg) (word : Text) → IsArgument a word → word ++ behind ≡ 91 ∷ inside → IsListed inside a behind
    by (arg.Int n) word h e = absurd ((plain_first word behind inside 91 (plain_word (arg.Int n) word h) e).1 refl)
    by (arg.Long n) word h e = absurd ((plain_first word behind inside 91 (plain_word (arg.Long n) word h) e).1 refl)
    by arg.Null word h e = absurd ((plain_first word behind inside 91 (plain_word arg.Null word h) e).1 refl)
    by (arg.Text units) word h e = let n : 91 ≡ 34 = quote_first units word behind inside 91 h e in absurd (omega (arith, n))
    by (arg.Texts texts) word h e =
        let both : 91 ∷ (h.inside ++ behind) ≡ 91 ∷ inside = ap (λ (w : Text). w ++ behind) (sym h.bracket) ∙ e in
        let same : h.inside ++ behind ≡ inside = cc in
        record { texts = texts; are = refl; listed = subst (λ (i : Text). IsListAt IsText 93 i texts behind) same (list_on h.inside behind texts h.listed) }

-- ---- a text at the front

pub text_front : (text behind : Text) (units : List ℕ) → IsWordAt IsText text units behind → IsWordAt IsArgument text (arg.Text units) behind
text_front text behind units w = record { word = w.word; is_word = w.is_word; front = w.front }

pub record IsQuoted (text : Text) (a : EntryArg) (behind : Text) : Type 0 where
  pub units : List ℕ
  pub are : a ≡ arg.Text units
  pub at : IsWordAt IsText text units behind

pub text_leads : (text inside behind : Text) (a : EntryArg) → text ≡ 34 ∷ inside → IsWordAt IsArgument text a behind → IsQuoted text a behind
text_leads text inside behind a opens w = by a w.word w.is_word w.front
  where
    by : (a : EntryArg) (word : Text) → IsArgument a word → text ≡ word ++ behind → IsQuoted text a behind
    by (arg.Int n) word h e = let p = plain_first word behind inside 34 (plain_word (arg.Int n) word h) (sym e ∙ opens) in absurd (omega (arith, p.0))
    by (arg.Long n) word h e = let p = plain_first word behind inside 34 (plain_word (arg.Long n) word h) (sym e ∙ opens) in absurd (omega (arith, p.0))
    by arg.Null word h e = let p = plain_first word behind inside 34 (plain_word arg.Null word h) (sym e ∙ opens) in absurd (omega (arith, p.0))
    by (arg.Text units) word h e = record { units = units; are = refl; at = record { word = word; is_word = h; front = e } }
    by (arg.Texts texts) word h e = let n : 34 ≡ 91 = bracket_first texts word behind inside 34 h (sym e ∙ opens) in absurd (omega (arith, n))

-- ---- another argument at the front

pub record IsPlainAt (text : Text) (a : EntryArg) (behind : Text) : Type 0 where
  pub word : Text
  pub split : IsStopSplit text word behind
  pub plain : IsPlainArgument a word

pub plain_front : (text word behind : Text) (a : EntryArg) → IsStopSplit text word behind → IsPlainArgument a word → IsWordAt IsArgument text a behind
plain_front text word behind a s h = record { word = word; is_word = plain_argument a word h; front = s.whole }

pub plain_leads : (text behind : Text) (a : EntryArg) → ((r : Text) → ¬ (text ≡ 91 ∷ r)) → ((r : Text) → ¬ (text ≡ 34 ∷ r)) → IsEndedAt text a behind → IsPlainAt text a behind
plain_leads text behind a unlisted unquoted h = by a h.at.word h.at.is_word h.at.front
  where
    made : (a : EntryArg) (word : Text) → IsPlainArgument a word → text ≡ word ++ behind → IsPlainAt text a behind
    made a word p e = record {
      word = word;
      split = record { whole = e; first = no_stop word (plain_word a word p).bytes; stop = h.ended.stop; is_stop = h.ended.is_stop; more = h.ended.more; begins = h.ended.begins };
      plain = p;
    }

    by : (a : EntryArg) (word : Text) → IsArgument a word → text ≡ word ++ behind → IsPlainAt text a behind
    by (arg.Int n) word p e = made (arg.Int n) word p e
    by (arg.Long n) word p e = made (arg.Long n) word p e
    by arg.Null word p e = made arg.Null word p e
    by (arg.Text units) word p e = absurd (unquoted ((flat_map escape p.text ++ 34 ∷ []) ++ behind) (e ∙ ap (λ (w : Text). w ++ behind) p.quoted))
    by (arg.Texts texts) word p e = absurd (unlisted (p.inside ++ behind) (e ∙ ap (λ (w : Text). w ++ behind) p.bracket))

-- ---- arguments before a stop

pub ended_at : (now : Text) (a : EntryArg) (stop : ℕ) (rest : Text) → (stop ≡ 44) ⊎ (stop ≡ 41) → IsWordAt IsArgument now a (stop ∷ rest) → IsEndedAt now a (stop ∷ rest)
ended_at now a stop rest is w = record { at = w; ended = record { stop = stop; is_stop = passes stop is; more = rest; begins = refl } }
  where
    passes : (stop : ℕ) → (stop ≡ 44) ⊎ (stop ≡ 41) → is_stop stop ≡ true
    passes stop (inl e) = subst (λ (s : ℕ). is_stop s ≡ true) (sym e) refl
    passes stop (inr e) = subst (λ (s : ℕ). is_stop s ≡ true) (sym e) refl

pub one_argument : (now behind : Text) (a : EntryArg) → ((y : EntryArg × Text) → IsEndedAt now y.0 y.1 → y ≡ (a, behind)) → IsOne IsArgument 41 now a behind
one_argument now behind a one = record {
  comma = λ y rest w. one (y, 44 ∷ rest) (ended_at now y 44 rest (inl refl) w);
  bracket = λ y rest w. one (y, 41 ∷ rest) (ended_at now y 41 rest (inr refl) w);
}

-- ---- which plain argument it is

null_int : (n : ℤ) (word : Text) → word ≡ codes "null" → ¬ (IsInt n word)
null_int n word e h = let p = number_first (signed_decimal n) (codes "ull") 110 (signed_are n (int_small n h.0)) (sym h.1 ∙ e) in omega (arith, p.1)

null_long : (n : ℤ) (word : Text) → word ≡ codes "null" → ¬ (IsLongArgument n word)
null_long n word e h =
    let small = long_small n h.is_long.0 in
    let digits = signed_decimal n in
    let p = number_starts digits (76 ∷ []) (codes "ull") 110 (signed_are n small) (signed_some n small) (ap (λ (d : Text). d ++ 76 ∷ []) (sym h.is_long.1) ∙ sym h.letter ∙ e) in
    omega (arith, p.1)

pub null_only : (word : Text) → word ≡ codes "null" → (y : EntryArg) → IsPlainArgument y word → y ≡ arg.Null
null_only word e (arg.Int n) h = absurd (null_int n word e h)
null_only word e (arg.Long n) h = absurd (null_long n word e h)
null_only word e arg.Null h = refl
null_only word e (arg.Text units) h = absurd h
null_only word e (arg.Texts texts) h = absurd h

-- a word that ends with an L is a long
int_letter : (n : ℤ) (word digits : Text) → word ≡ digits ++ 76 ∷ [] → ¬ (IsInt n word)
int_letter n word digits e h = let p = number_last (signed_decimal n) digits 76 (signed_are n (int_small n h.0)) (sym h.1 ∙ e) in omega (arith, p.1)

null_letter : (word digits : Text) → word ≡ digits ++ 76 ∷ [] → ¬ (word ≡ codes "null")
null_letter word digits e h =
    let both : codes "null" ≡ digits ++ 76 ∷ [] = sym h ∙ e in
    let four : 4 ≡ length (digits ++ 76 ∷ []) = ap length both in
    let three : 3 ≡ length digits = omega (arith, four, length-append digits (76 ∷ [])) in
    let last : ◌≡◌ {A = ℕ} 108 76 = ap (λ (l : Text). get_or l 3 0) both ∙ ap (λ (k : ℕ). get_or (digits ++ 76 ∷ []) k 0) three ∙ get_or-append_seam digits 76 [] 0 in
    omega (arith, last)

-- the long of such a word
pub record IsLongOf (a : EntryArg) (digits : Text) : Type 0 where
  pub n : ℤ
  pub are : a ≡ arg.Long n
  pub is_long : IsLong n digits

pub long_leads : (word digits : Text) → word ≡ digits ++ 76 ∷ [] → ((y : Text) → word ≡ y ++ 76 ∷ [] → y ≡ digits) → (y : EntryArg) → IsPlainArgument y word → IsLongOf y digits
long_leads word digits e one (arg.Int n) h = absurd (int_letter n word digits e h)
long_leads word digits e one (arg.Long n) h = record { n = n; are = refl; is_long = subst (IsLong n) (one h.digits h.letter) h.is_long }
long_leads word digits e one arg.Null h = absurd (null_letter word digits e h)
long_leads word digits e one (arg.Text units) h = absurd h
long_leads word digits e one (arg.Texts texts) h = absurd h

pub long_read : (word digits : Text) (m : ℤ) → word ≡ digits ++ 76 ∷ [] → ((y : Text) → word ≡ y ++ 76 ∷ [] → y ≡ digits) → IsLong m digits → ((n : ℤ) → IsLong n digits → n ≡ m)
    → IsLongArgument m word × ((y : EntryArg) → IsPlainArgument y word → y ≡ arg.Long m)
long_read word digits m e one is same =
    (record { digits = digits; is_long = is; letter = e }, λ y h. let l = long_leads word digits e one y h in l.are ∙ ap (λ (n : ℤ). arg.Long n) (same l.n l.is_long))

-- ---- what is read at the front

pub texts_read : (text inside behind : Text) (texts : List (List ℕ)) → text ≡ 91 ∷ inside → IsListAt IsText 93 inside texts behind → ((y : List (List ℕ) × Text) → IsListAt IsText 93 inside y.0 y.1 → y ≡ (texts, behind))
    → IsWordAt IsArgument text (arg.Texts texts) behind × ((y : EntryArg × Text) → IsEndedAt text y.0 y.1 → y ≡ (arg.Texts texts, behind))
texts_read text inside behind texts opens listed one = (
  texts_front text inside behind texts opens listed,
  λ y h. let l = texts_leads text inside y.1 y.0 opens h.at in let same = one (l.texts, y.1) l.listed in
      pair_is (arg.Texts texts) y.0 behind y.1 (l.are ∙ ap (λ (t : List (List ℕ)). arg.Texts t) (left texts l.texts behind y.1 same)) (right texts l.texts behind y.1 same),
)

pub text_read : (text inside behind : Text) (units : List ℕ) → text ≡ 34 ∷ inside → IsWordAt IsText text units behind → ((y : List ℕ × Text) → IsWordAt IsText text y.0 y.1 → y ≡ (units, behind))
    → IsWordAt IsArgument text (arg.Text units) behind × ((y : EntryArg × Text) → IsEndedAt text y.0 y.1 → y ≡ (arg.Text units, behind))
text_read text inside behind units opens at one = (
  text_front text behind units at,
  λ y h. let q = text_leads text inside y.1 y.0 opens h.at in let same = one (q.units, y.1) q.at in
      pair_is (arg.Text units) y.0 behind y.1 (q.are ∙ ap (λ (u : List ℕ). arg.Text u) (left units q.units behind y.1 same)) (right units q.units behind y.1 same),
)

pub plain_at : (text word behind : Text) → ((r : Text) → ¬ (text ≡ 91 ∷ r)) → ((r : Text) → ¬ (text ≡ 34 ∷ r)) → ((y : Text × Text) → IsStopSplit text y.0 y.1 → y ≡ (word, behind))
    → (y : EntryArg × Text) → IsEndedAt text y.0 y.1 → IsPlainArgument y.0 word × (y.1 ≡ behind)
plain_at text word behind unlisted unquoted one y h =
    let p = plain_leads text y.1 y.0 unlisted unquoted h in
    let same = one (p.word, y.1) p.split in
    (subst (λ (t : Text). IsPlainArgument y.0 t) (left word p.word behind y.1 same) p.plain, right word p.word behind y.1 same)

pub plain_read : (text word behind : Text) (a : EntryArg) → ((r : Text) → ¬ (text ≡ 91 ∷ r)) → ((r : Text) → ¬ (text ≡ 34 ∷ r)) → IsStopSplit text word behind → ((y : Text × Text) → IsStopSplit text y.0 y.1 → y ≡ (word, behind))
    → IsPlainArgument a word → ((b : EntryArg) → IsPlainArgument b word → b ≡ a)
    → IsWordAt IsArgument text a behind × ((y : EntryArg × Text) → IsEndedAt text y.0 y.1 → y ≡ (a, behind))
plain_read text word behind a unlisted unquoted split one plain same = (
  plain_front text word behind a split plain,
  λ y h. let p = plain_at text word behind unlisted unquoted one y h in pair_is a y.0 behind y.1 (same y.0 p.0) p.1,
)
