-- The bytes of instructions, put one behind the other.
use Rattle.std.proofs.Common.{◌≡◌, ℕ, zero, suc, ◌+◌, ◌-◌, ◌%◌, ◌<◌, ◌≤◌, Bool, true, false, List, [], ◌∷◌, ◌++◌, length, map, replicate, get_or, take, drop, Option, Some, None, arith, refl, sym, ap, subst, ◌∙◌, add-one, append_assoc, append-nil, length-append, ℤ, pos, ◌+ℤ◌, ◌-ℤ◌, inl, inr, Result, Ok, Err}
use Rattle.std.specs.Prelude.{OnOk}
use Rattle.std.proofs.lemmas.Bool.{cases_lt}
use Rattle.std.proofs.lemmas.List.{take_all}
use Rattle.opcode_table.specs.declared.insn.Insn.{Insn}
use Rattle.opcode_table.specs.declared.insn.Insn.TheVariants as insn
use Rattle.opcode_table.specs.declared.form.Form.{Form}
use Rattle.opcode_table.specs.Table.{form_of}
use Rattle.opcode_table.specs.Spelling.{spelling, local_bytes, increment_bytes, pool_bytes, branch_bytes, s4_bytes}
use Rattle.class_file.specs.Code.{numbered}
use Rattle.code_layout.specs.Blocks.{Count}
use Rattle.code_layout.specs.Spelled.{words, table_bytes, pairs_bytes, lookup_bytes, padding, narrow_bytes, distance, way, place_in}

-- ---- an instruction has at most eight bytes

few_local : (op index : ℕ) (wide : Bool) → length (local_bytes op index wide) ≤ 8
few_local op index true = omega arith
few_local op index false = omega arith

few_increment : (index : ℕ) (by : ℤ) (wide : Bool) → length (increment_bytes index by wide) ≤ 8
few_increment index by true = omega arith
few_increment index by false = omega arith

few_pool : (found : Option Form) (index : ℕ) → length (pool_bytes found index) ≤ 2
few_pool (Some Form.NarrowPool) index = omega arith
few_pool _ index = omega arith

few_branch : (found : Option Form) (offset : ℤ) → length (branch_bytes found offset) ≤ 4
few_branch (Some Form.WideBranch) offset = omega arith
few_branch _ offset = omega arith

pub spelling_few : (i : Insn) → length (spelling i) ≤ 8
unfolding spelling
spelling_few (insn.Plain op) = omega arith
spelling_few (insn.Bipush value) = omega arith
spelling_few (insn.Sipush value) = omega arith
spelling_few (insn.Local op index wide) = few_local op index wide
spelling_few (insn.Iinc index by wide) = few_increment index by wide
spelling_few (insn.Pool op index) = omega (arith, few_pool (form_of op) index)
spelling_few (insn.Interface index count last) = omega arith
spelling_few (insn.NewArray code) = omega arith
spelling_few (insn.Multi index dims) = omega arith
spelling_few (insn.Branch op offset) = omega (arith, few_branch (form_of op) offset)
spelling_few (insn.TableSwitch table) = omega arith
spelling_few (insn.LookupSwitch table) = omega arith

-- ---- padding

zeros_end : (n : ℕ) → replicate {A = ℕ} (suc n) 0 ≡ replicate {A = ℕ} n 0 ++ 0 ∷ []
zeros_end zero = refl
zeros_end (suc n) = ap (λ (l : List ℕ). 0 ∷ l) (zeros_end n)

pub zeros_more : (start out out' : List ℕ) (n : ℕ) → out ≡ start ++ replicate n 0 → out' ≡ out ++ 0 ∷ [] → out' ≡ start ++ replicate (n + 1) 0
zeros_more start out out' n is more = more ∙ ap (λ (l : List ℕ). l ++ 0 ∷ []) is ∙ append_assoc start (replicate n 0) (0 ∷ []) ∙ ap (λ (l : List ℕ). start ++ l) (sym (zeros_end n)) ∙ ap (λ (k : ℕ). start ++ replicate k 0) (let e : suc n ≡ n + 1 = omega arith in e)

pub head_is : (old start out : List ℕ) (op pc n : ℕ) → start ≡ old ++ op ∷ [] → out ≡ start ++ replicate n 0 → n ≡ 3 - pc % 4 → out ≡ old ++ op ∷ padding pc
head_is old start out op pc n begun is count =
    is ∙ ap (λ (l : List ℕ). l ++ replicate n 0) begun ∙ append_assoc old (op ∷ []) (replicate n 0)
    ∙ ap (λ (k : ℕ). old ++ op ∷ replicate k 0) (omega arith)

-- ---- elements

at_front : (xs ys : List ℤ) (i : ℕ) (d : ℤ) → i < length xs → get_or (xs ++ ys) i d ≡ get_or xs i d
at_front [] ys i d lt = absurd (omega arith)
at_front (x ∷ xs) ys zero d lt = refl
at_front (x ∷ xs) ys (suc i) d lt = at_front xs ys i d (omega arith)

at_end : (xs : List ℤ) (y d : ℤ) → get_or (xs ++ y ∷ []) (length xs) d ≡ y
at_end [] y d = refl
at_end (x ∷ xs) y d = at_end xs y d

numbered_length : (n : ℕ) (g : ℕ → ℤ) → length (numbered n g) ≡ n
numbered_length zero g = refl
numbered_length (suc n) g = omega (arith, length-append (numbered n g) (g n ∷ []), numbered_length n g)

-- ---- words

pub on_ok : {T E P Q : Type 0} (r : Result T E) → (P → Q) → OnOk r P → OnOk r Q
on_ok (Ok v) f p = f p
on_ok (Err e) f p = tt

pub no_pairs : (keys : List ℤ) → pairs_bytes keys [] ≡ []
no_pairs [] = refl
no_pairs (k ∷ keys) = refl

module _ (f : ℕ → ℤ) where
  words_end : (to : List ℕ) (i : ℕ) → i < length to → words (map f (take (suc i) to)) ≡ words (map f (take i to)) ++ s4_bytes (f (get_or to i 0))
  words_end [] i lt = absurd (omega arith)
  words_end (t ∷ to) zero lt = append-nil (s4_bytes (f t))
  words_end (t ∷ to) (suc i) lt = ap (λ (l : List ℕ). s4_bytes (f t) ++ l) (words_end to i (omega arith)) ∙ sym (append_assoc (s4_bytes (f t)) (words (map f (take i to))) (s4_bytes (f (get_or to i 0))))

  pub words_more : (start out out' : List ℕ) (to : List ℕ) (i : ℕ) (w : ℤ) → i < length to → out ≡ start ++ words (map f (take i to)) → w ≡ f (get_or to i 0) → out' ≡ out ++ s4_bytes w → out' ≡ start ++ words (map f (take (i + 1) to))
  words_more start out out' to i w lt is here more =
      more ∙ ap (λ (l : List ℕ). l ++ s4_bytes w) is ∙ ap (λ (n : ℤ). (start ++ words (map f (take i to))) ++ s4_bytes n) here
      ∙ append_assoc start (words (map f (take i to))) (s4_bytes (f (get_or to i 0)))
      ∙ ap (λ (l : List ℕ). start ++ l) (sym (words_end to i lt))
      ∙ ap (λ (k : ℕ). start ++ words (map f (take k to))) (let e : suc i ≡ i + 1 = omega arith in e)

  pairs_end : (keys : List ℤ) (to : List ℕ) (i : ℕ) → i < length to → length to ≡ length keys
      → pairs_bytes keys (map f (take (suc i) to)) ≡ pairs_bytes keys (map f (take i to)) ++ (s4_bytes (get_or keys i (pos 0)) ++ s4_bytes (f (get_or to i 0)))
  pairs_end keys [] i lt count = absurd (omega arith)
  pairs_end [] (t ∷ to) i lt count = absurd (omega arith)
  pairs_end (k ∷ keys) (t ∷ to) zero lt count = ap (λ (l : List ℕ). s4_bytes k ++ (s4_bytes (f t) ++ l)) (no_pairs keys) ∙ ap (λ (l : List ℕ). s4_bytes k ++ l) (append-nil (s4_bytes (f t)))
  pairs_end (k ∷ keys) (t ∷ to) (suc i) lt count =
      let before = pairs_bytes keys (map f (take i to)) in
      let last = s4_bytes (get_or keys i (pos 0)) ++ s4_bytes (f (get_or to i 0)) in
      ap (λ (l : List ℕ). s4_bytes k ++ (s4_bytes (f t) ++ l)) (pairs_end keys to i (omega arith) (omega arith))
      ∙ ap (λ (l : List ℕ). s4_bytes k ++ l) (sym (append_assoc (s4_bytes (f t)) before last))
      ∙ sym (append_assoc (s4_bytes k) (s4_bytes (f t) ++ before) last)

  pub pairs_more : (start out out' out'' : List ℕ) (keys : List ℤ) (to : List ℕ) (i : ℕ) (key w : ℤ) → i < length to → length to ≡ length keys
      → out ≡ start ++ pairs_bytes keys (map f (take i to)) → key ≡ get_or keys i (pos 0) → w ≡ f (get_or to i 0) → out' ≡ out ++ s4_bytes key → out'' ≡ out' ++ s4_bytes w
      → out'' ≡ start ++ pairs_bytes keys (map f (take (i + 1) to))
  pairs_more start out out' out'' keys to i key w lt count is key_is here key_put more =
      let before = pairs_bytes keys (map f (take i to)) in
      let k = s4_bytes (get_or keys i (pos 0)) in
      more ∙ ap (λ (l : List ℕ). l ++ s4_bytes w) (key_put ∙ ap (λ (z : ℤ). out ++ s4_bytes z) key_is ∙ ap (λ (l : List ℕ). l ++ k) is)
      ∙ ap (λ (n : ℤ). ((start ++ before) ++ k) ++ s4_bytes n) here
      ∙ append_assoc (start ++ before) k (s4_bytes (f (get_or to i 0)))
      ∙ append_assoc start before (k ++ s4_bytes (f (get_or to i 0)))
      ∙ ap (λ (l : List ℕ). start ++ l) (sym (pairs_end keys to i lt count))
      ∙ ap (λ (n : ℕ). start ++ pairs_bytes keys (map f (take n to))) (let e : suc i ≡ i + 1 = omega arith in e)

  -- ---- tables

  pub last_key : (n : ℕ) (g : ℕ → ℤ) (i : ℕ) (d : ℤ) → i < n → get_or (numbered n g) i d ≡ g i
  last_key zero g i d lt = absurd (omega arith)
  last_key (suc n) g i d lt =
      elim (cases_lt i n) [
        | inl below ↦ (let within : i < length (numbered n g) = omega (arith, numbered_length n g) in at_front (numbered n g) (g n ∷ []) i d within ∙ last_key n g i d below)
        | inr above ↦ (let last : i ≡ length (numbered n g) = omega (arith, numbered_length n g) in let here : n ≡ i = omega arith in ap (λ (k : ℕ). get_or (numbered n g ++ g n ∷ []) k d) last ∙ at_end (numbered n g) (g n) d ∙ ap g here)
      ]

  tail_is : (t : ℕ) (to : List ℕ) → take (length (t ∷ to) - 1) (drop 1 (t ∷ to)) ≡ to
  tail_is t to = let e : length to ≤ length (t ∷ to) - 1 = omega arith in take_all (length (t ∷ to) - 1) to e

  pub table_is : (old a b c out : List ℕ) (keys : List ℤ) (to : List ℕ) (way_default low high : ℤ) → Count keys → length to ≡ length keys + 1
      → way_default ≡ f (get_or to 0 0) → low ≡ get_or keys 0 (pos 0) → high ≡ get_or keys (length keys - 1) (pos 0)
      → a ≡ old ++ s4_bytes way_default → b ≡ a ++ s4_bytes low → c ≡ b ++ s4_bytes high → out ≡ c ++ words (map f (take (length to - 1) (drop 1 to)))
      → out ≡ old ++ table_bytes keys (map f to)
  table_is old a b c out [] to x y z counted each x_is y_is z_is first low high rest = absurd counted
  table_is old a b c out (k ∷ keys) [] x y z counted each x_is y_is z_is first low high rest = absurd (omega arith)
  table_is old a b c out (k ∷ keys) (t ∷ to) x y z counted each x_is y_is z_is first low high rest =
      let n : ℕ = length keys in
      let top : get_or (k ∷ keys) (length (k ∷ keys) - 1) (pos 0) ≡ k +ℤ pos n =
      ap (λ (l : List ℤ). get_or l (length (k ∷ keys) - 1) (pos 0)) counted
      ∙ last_key (length (k ∷ keys)) (λ i. k +ℤ pos i) (length (k ∷ keys) - 1) (pos 0) (omega arith)
      ∙ ap (λ (m : ℕ). k +ℤ pos m) (let e : length (k ∷ keys) - 1 ≡ length keys = omega arith in e) in
      let a_is : a ≡ old ++ s4_bytes (f t) = first ∙ ap (λ (v : ℤ). old ++ s4_bytes v) x_is in
      let b_is : b ≡ (old ++ s4_bytes (f t)) ++ s4_bytes k = low ∙ ap (λ (v : ℤ). a ++ s4_bytes v) y_is ∙ ap (λ (l : List ℕ). l ++ s4_bytes k) a_is in
      let c_is : c ≡ ((old ++ s4_bytes (f t)) ++ s4_bytes k) ++ s4_bytes (k +ℤ pos n) = high ∙ ap (λ (v : ℤ). b ++ s4_bytes v) (z_is ∙ top) ∙ ap (λ (l : List ℕ). l ++ s4_bytes (k +ℤ pos n)) b_is in
      rest ∙ ap (λ (l : List ℕ). c ++ words (map f l)) (tail_is t to) ∙ ap (λ (l : List ℕ). l ++ words (map f to)) c_is
      ∙ append_assoc ((old ++ s4_bytes (f t)) ++ s4_bytes k) (s4_bytes (k +ℤ pos n)) (words (map f to))
      ∙ append_assoc (old ++ s4_bytes (f t)) (s4_bytes k) (s4_bytes (k +ℤ pos n) ++ words (map f to))
      ∙ append_assoc old (s4_bytes (f t)) (s4_bytes k ++ (s4_bytes (k +ℤ pos n) ++ words (map f to)))

  pub lookup_is : (old a b out : List ℕ) (keys : List ℤ) (to : List ℕ) (way_default count : ℤ) → length to ≡ length keys + 1
      → way_default ≡ f (get_or to 0 0) → count ≡ pos (length keys)
      → a ≡ old ++ s4_bytes way_default → b ≡ a ++ s4_bytes count → out ≡ b ++ pairs_bytes keys (map f (take (length to - 1) (drop 1 to)))
      → out ≡ old ++ lookup_bytes keys (map f to)
  lookup_is old a b out keys [] x y each x_is y_is first count rest = absurd (omega arith)
  lookup_is old a b out keys (t ∷ to) x y each x_is y_is first count rest =
      let a_is : a ≡ old ++ s4_bytes (f t) = first ∙ ap (λ (v : ℤ). old ++ s4_bytes v) x_is in
      let b_is : b ≡ (old ++ s4_bytes (f t)) ++ s4_bytes (pos (length keys)) = count ∙ ap (λ (v : ℤ). a ++ s4_bytes v) y_is ∙ ap (λ (l : List ℕ). l ++ s4_bytes (pos (length keys))) a_is in
      rest ∙ ap (λ (l : List ℕ). b ++ pairs_bytes keys (map f l)) (tail_is t to) ∙ ap (λ (l : List ℕ). l ++ pairs_bytes keys (map f to)) b_is
      ∙ append_assoc (old ++ s4_bytes (f t)) (s4_bytes (pos (length keys))) (pairs_bytes keys (map f to))
      ∙ append_assoc old (s4_bytes (f t)) (s4_bytes (pos (length keys)) ++ pairs_bytes keys (map f to))

-- ---- rows

first_of_map : (f : ℕ → ℤ) (to : List ℕ) → length to ≡ 1 → get_or (map f to) 0 (pos 0) ≡ f (get_or to 0 0)
first_of_map f [] one = absurd (omega arith)
first_of_map f (t ∷ to) one = refl

ways_are : (places : List ℕ) (i : ℕ) (to : List ℕ) → map (way places (place_in places i)) to ≡ map (distance (place_in places) i) to
ways_are places i [] = refl
ways_are places i (t ∷ to) = ap (λ (l : List ℤ). way places (place_in places i) t ∷ l) (ways_are places i to)

module _ (places : List ℕ) (i : ℕ) (found : Insn) where
  pub lookup_put : (table : ℕ) (keys keys' : List ℤ) (to to' old mid out : List ℕ) → found ≡ insn.LookupSwitch table → keys' ≡ keys → to' ≡ to
      → mid ≡ old ++ 171 ∷ padding (place_in places i) → out ≡ mid ++ lookup_bytes keys' (map (way places (place_in places i)) to')
      → out ≡ old ++ narrow_bytes (place_in places i) found keys (map (distance (place_in places) i) to)
  lookup_put table keys keys' to to' old mid out is keys_are to_is head body =
      let pc = place_in places i in
      let made : out ≡ old ++ narrow_bytes pc (insn.LookupSwitch table) keys (map (distance (place_in places) i) to) =
      body ∙ ap (λ (l : List ℕ). l ++ lookup_bytes keys' (map (way places pc) to')) head
      ∙ append_assoc old (171 ∷ padding pc) (lookup_bytes keys' (map (way places pc) to'))
      ∙ ap (λ (k : List ℤ). old ++ ((171 ∷ padding pc) ++ lookup_bytes k (map (way places pc) to'))) keys_are
      ∙ ap (λ (t : List ℕ). old ++ ((171 ∷ padding pc) ++ lookup_bytes keys (map (way places pc) t))) to_is
      ∙ ap (λ (l : List ℤ). old ++ ((171 ∷ padding pc) ++ lookup_bytes keys l)) (ways_are places i to) in
      subst (λ (q : Insn). out ≡ old ++ narrow_bytes pc q keys (map (distance (place_in places) i) to)) (sym is) made

  pub table_put : (table : ℕ) (keys keys' : List ℤ) (to to' old mid out : List ℕ) → found ≡ insn.TableSwitch table → keys' ≡ keys → to' ≡ to
      → mid ≡ old ++ 170 ∷ padding (place_in places i) → out ≡ mid ++ table_bytes keys' (map (way places (place_in places i)) to')
      → out ≡ old ++ narrow_bytes (place_in places i) found keys (map (distance (place_in places) i) to)
  table_put table keys keys' to to' old mid out is keys_are to_is head body =
      let pc = place_in places i in
      let made : out ≡ old ++ narrow_bytes pc (insn.TableSwitch table) keys (map (distance (place_in places) i) to) =
      body ∙ ap (λ (l : List ℕ). l ++ table_bytes keys' (map (way places pc) to')) head
      ∙ append_assoc old (170 ∷ padding pc) (table_bytes keys' (map (way places pc) to'))
      ∙ ap (λ (k : List ℤ). old ++ ((170 ∷ padding pc) ++ table_bytes k (map (way places pc) to'))) keys_are
      ∙ ap (λ (t : List ℕ). old ++ ((170 ∷ padding pc) ++ table_bytes keys (map (way places pc) t))) to_is
      ∙ ap (λ (l : List ℤ). old ++ ((170 ∷ padding pc) ++ table_bytes keys l)) (ways_are places i to) in
      subst (λ (q : Insn). out ≡ old ++ narrow_bytes pc q keys (map (distance (place_in places) i) to)) (sym is) made

  pub branch_put : (op : ℕ) (offset w : ℤ) (keys : List ℤ) (to to' old out : List ℕ) → found ≡ insn.Branch op offset → to' ≡ to → length to ≡ 1
      → w ≡ way places (place_in places i) (get_or to' 0 0) → out ≡ old ++ spelling (insn.Branch op w)
      → out ≡ old ++ narrow_bytes (place_in places i) found keys (map (distance (place_in places) i) to)
  branch_put op offset w keys to to' old out is to_is one w_is body =
      body ∙ ap (λ (z : ℤ). old ++ spelling (insn.Branch op z)) (w_is ∙ ap (λ (t : List ℕ). way places (place_in places i) (get_or t 0 0)) to_is ∙ sym (first_of_map (distance (place_in places) i) to one))
      ∙ ap (λ (q : Insn). old ++ narrow_bytes (place_in places i) q keys (map (distance (place_in places) i) to)) (sym is)
