-- What the methods of a class of the first form are to the class machine: static ones with code, without parameters.
use Rattle.std.proofs.Common.{◌≡◌, ℕ, Bool, true, false, ◌&&◌, ◌||◌, ◌==◌, bytes_eq, List, [], ◌∷◌, map, Option, Some, None, refl, sym, ap, ◌∙◌, bit_and, if◌then◌else◌}
use Rattle.std.specs.Option.{unwrap_or}
use Rattle.std.specs.List.{find, cons_option, list_all, list_any}
use Rattle.std.proofs.lemmas.Bool.{and_parts, false_from_ne_true, eqb-true}
use Rattle.std.proofs.lemmas.Nat.{and_assoc}
use Rattle.std.proofs.lemmas.Option.{same_Some}
use Rattle.std.proofs.lemmas.Slice.Eq.{bytes_eq-Decides}
use Rattle.class_file.specs.declared.pool.PoolEntry.{PoolEntry}
use Rattle.class_file.specs.declared.types.Member.{Member}
use Rattle.class_file.specs.Sound.{is_some_that}
use Rattle.class_file.specs.FirstForm.{is_identifier, is_text, is_single, has_form_flags, is_form_attribute, is_form_method, names_in, no_arguments}
use Rattle.class_file.specs.Pool.{text_at}
use Rattle.class_heads.specs.declared.types.MethodHead.{MethodHead}
use Rattle.class_heads.specs.declared.types.ClassHead.{ClassHead}
use Rattle.class_heads.specs.Heads.{has_flag, method_head}
use Rattle.class_heads.specs.Searches.{same_name, is_private}
use Rattle.class_machine.specs.Classes.{reference, Method, Classes}
use Rattle.class_machine.specs.Declarations.{member_name, method_found}
use Rattle.class_machine.specs.Start.{EntryArgument, takes_all, is_entry}
use Rattle.woven_calls.specs.Laws.Pools.{named_type}
use Rattle.woven_calls.specs.Laws.Grows.{is_there}
use Rattle.woven_calls.specs.Laws.Forms.{same_bytes}
use Rattle.woven_calls.specs.Laws.Tables.{own_found}

-- ---- flags

-- a flag within those of the form
flag_of : (flags flag kept : ℕ) → bit_and 5416 flag ≡ flag → bit_and 8 flag ≡ kept → has_form_flags flags ≡ true → bit_and flags flag ≡ kept
flag_of flags flag kept inside is h =
    let form : bit_and flags 5416 ≡ 8 = eqb-true (bit_and flags 5416) 8 h in
    sym (and_assoc flag flags 5416 ∙ ap (bit_and flags) inside) ∙ ap (λ (n : ℕ). bit_and n flag) form ∙ is

static_flag : (flags : ℕ) → has_form_flags flags ≡ true → has_flag 8 flags ≡ true
static_flag flags h = ap (λ (n : ℕ). n == 8) (flag_of flags 8 8 refl refl h)

other_flag : (flags flag : ℕ) → bit_and 5416 flag ≡ flag → bit_and 8 flag ≡ 0 → (0 == flag) ≡ false → has_form_flags flags ≡ true → has_flag flag flags ≡ false
other_flag flags flag inside none some h = ap (λ (n : ℕ). n == flag) (flag_of flags flag 0 inside none h) ∙ some

-- ---- one method

module _ (pool : List PoolEntry) (own : List ℕ) (names : List (List ℕ)) (x : Member) (form : is_form_method pool own names x ≡ true) where
  form_parts : (has_form_flags x.flags.0 ≡ true) × (is_some_that is_identifier (text_at pool x.name) ≡ true) × (is_text pool no_arguments x.descriptor ≡ true)
  form_parts =
      let p1 = and_parts (has_form_flags x.flags.0) (is_some_that is_identifier (text_at pool x.name) && (is_text pool no_arguments x.descriptor && is_single (is_form_attribute pool own names) x.attributes)) form in
      let p2 = and_parts (is_some_that is_identifier (text_at pool x.name)) (is_text pool no_arguments x.descriptor && is_single (is_form_attribute pool own names) x.attributes) p1.1 in
      let p3 = and_parts (is_text pool no_arguments x.descriptor) (is_single (is_form_attribute pool own names) x.attributes) p2.1 in
      (p1.0, p2.0, p3.0)

  -- its name
  pub form_name : (t : List ℕ) × (text_at pool x.name ≡ Some t) × (is_identifier t ≡ true)
  form_name = is_there is_identifier (text_at pool x.name) form_parts.1

  pub form_descriptor : text_at pool x.descriptor ≡ Some no_arguments
  form_descriptor =
      let d = is_there (bytes_eq no_arguments) (text_at pool x.descriptor) form_parts.2 in
      d.1 ∙ ap Some (sym (same_bytes no_arguments d.0 d.2))

  -- the method as the machine has it
  pub form_found : (c : ClassHead) → method_found None c (method_head pool x) ≡ own_found (reference c.name form_name.0 no_arguments) (is_private (method_head pool x))
  form_found c =
      let made : List ℕ → List ℕ → Bool → Bool → Bool → Method = λ n d s y v. record {
        name = reference c.name n d;
        is_static = s;
        is_private = is_private (method_head pool x);
        is_synchronized = y;
        is_native = v;
        rule = None;
      } in
      ap (λ (n : Option (List ℕ)). made (unwrap_or n []) (unwrap_or (text_at pool x.descriptor) []) (has_flag 8 x.flags.0) (has_flag 0x20 x.flags.0) (has_flag 0x100 x.flags.0)) form_name.1
      ∙ ap (λ (d : Option (List ℕ)). made form_name.0 (unwrap_or d []) (has_flag 8 x.flags.0) (has_flag 0x20 x.flags.0) (has_flag 0x100 x.flags.0)) form_descriptor
      ∙ ap (λ (b : Bool). made form_name.0 no_arguments b (has_flag 0x20 x.flags.0) (has_flag 0x100 x.flags.0)) (static_flag x.flags.0 form_parts.0)
      ∙ ap (λ (b : Bool). made form_name.0 no_arguments true b (has_flag 0x100 x.flags.0)) (other_flag x.flags.0 0x20 refl refl refl form_parts.0)
      ∙ ap (λ (b : Bool). made form_name.0 no_arguments true false b) (other_flag x.flags.0 0x100 refl refl refl form_parts.0)

  -- its name and descriptor, as the search compares them
  same_form : (n : List ℕ) → same_name (method_head pool x).name (member_name (named_type n no_arguments)) ≡ bytes_eq form_name.0 n
  same_form n =
      ap (λ (t : Option (List ℕ)). bytes_eq (unwrap_or t []) n && bytes_eq (unwrap_or (text_at pool x.descriptor) []) no_arguments) form_name.1
      ∙ ap (λ (d : Option (List ℕ)). bytes_eq form_name.0 n && bytes_eq (unwrap_or d []) no_arguments) form_descriptor
      ∙ and_true (bytes_eq form_name.0 n)
    where
      and_true : (b : Bool) → (b && true) ≡ b
      and_true true = refl
      and_true false = refl

-- ---- the methods of a class

module _ (pool : List PoolEntry) (own : List ℕ) (names : List (List ℕ)) where
  abbrev searched : List ℕ → MethodHead → Bool
  searched n y = same_name y.name (member_name (named_type n no_arguments))

  -- the class declares a method of this name
  pub record Declared (n : List ℕ) (ms : List Member) : Type 0 where
    pub x : Member
    pub found : find (searched n) (map (method_head pool) ms) ≡ Some (method_head pool x)
    pub form : is_form_method pool own names x ≡ true
    pub named : text_at pool x.name ≡ Some n

  pub declared : (n : List ℕ) (ms : List Member) → list_all (is_form_method pool own names) ms ≡ true → list_any (bytes_eq n) (names_in pool ms) ≡ true → Declared n ms
  declared n [] forms there = let apart : false ≡ true = there in absurd cc
  declared n (m ∷ ms) forms there =
      let f = and_parts (is_form_method pool own names m) (list_all (is_form_method pool own names) ms) forms in
      let name = form_name pool own names m f.0 in
      let listed : (bytes_eq n name.0 || list_any (bytes_eq n) (names_in pool ms)) ≡ true =
      sym (ap (λ (o : Option (List ℕ)). list_any (bytes_eq n) (cons_option o (names_in pool ms))) name.1) ∙ there in
      go f.0 name.0 name.1 (same_form pool own names m f.0 n) listed (λ later. declared n ms f.1 later) (bytes_eq name.0 n) refl
    where
      go : is_form_method pool own names m ≡ true → (t : List ℕ) → text_at pool m.name ≡ Some t → searched n (method_head pool m) ≡ bytes_eq t n → (bytes_eq n t || list_any (bytes_eq n) (names_in pool ms)) ≡ true
          → (list_any (bytes_eq n) (names_in pool ms) ≡ true → Declared n ms) → (b : Bool) → bytes_eq t n ≡ b → Declared n (m ∷ ms)
      go form t is same listed later true e = record {
        x = m;
        found = ap (λ (b : Bool). if b then Some (method_head pool m) else find (searched n) (map (method_head pool) ms)) (same ∙ e);
        form = form;
        named = is ∙ ap Some (same_bytes t n e);
      }
      go form t is same listed later false e =
          let other : bytes_eq n t ≡ false = false_from_ne_true (bytes_eq n t) (λ eq. let back : bytes_eq t n ≡ true = (bytes_eq-Decides t n).1 (sym (same_bytes n t eq)) in let apart : true ≡ false = sym back ∙ e in absurd cc) in
          let d = later (sym (ap (λ (b : Bool). b || list_any (bytes_eq n) (names_in pool ms)) other) ∙ listed) in
          record {
            x = d.x;
            found = ap (λ (b : Bool). if b then Some (method_head pool m) else find (searched n) (map (method_head pool) ms)) (same ∙ e) ∙ d.found;
            form = d.form;
            named = d.named;
          }

  -- the name that the machine has is that of the class file
  pub found_as : (c : ClassHead) (n : List ℕ) (x : Member) (form : is_form_method pool own names x ≡ true) → text_at pool x.name ≡ Some n → method_found None c (method_head pool x) ≡ own_found (reference c.name n no_arguments) (is_private (method_head pool x))
  found_as c n x form named =
      form_found pool own names x form c
      ∙ ap (λ (t : List ℕ). own_found (reference c.name t no_arguments) (is_private (method_head pool x))) (same_Some _ n (sym (form_name pool own names x form).1 ∙ named))

  -- the name of a declared method is an identifier
  pub own_identifier : (n : List ℕ) (ms : List Member) → list_all (is_form_method pool own names) ms ≡ true → list_any (bytes_eq n) (names_in pool ms) ≡ true → is_identifier n ≡ true
  own_identifier n ms forms there =
      let d = declared n ms forms there in
      let t = form_name pool own names d.x d.form in
      ap is_identifier (same_Some n t.0 (sym d.named ∙ t.1)) ∙ t.2

  -- ---- entries

  takes_alike : (cs cs' : Classes) (words : List EntryArgument) → takes_all cs [] words ≡ takes_all cs' [] words
  takes_alike cs cs' [] = refl
  takes_alike cs cs' (x ∷ xs) = refl

  no_words : (cs : Classes) (words : List EntryArgument) → takes_all cs [] words ≡ true → words ≡ []
  no_words cs [] h = refl
  no_words cs (x ∷ xs) h = let apart : false ≡ true = h in absurd cc

  module _ (cs cs' : Classes) (c : ClassHead) (name : List ℕ) (words : List EntryArgument) where
    abbrev machine_methods : List Member → List Method
    machine_methods ms = map (method_found None c) (map (method_head pool) ms)

    -- the entry has no arguments, and is an entry under the other classes too
    pub record OwnEntry (ms : List Member) (m : Method) : Type 0 where
      pub none : words ≡ []
      pub found : find (is_entry cs' name words) (machine_methods ms) ≡ Some m
      pub n : List ℕ
      pub private : Bool
      pub is : m ≡ own_found (reference c.name n no_arguments) private

    pub entry_found : (ms : List Member) (m : Method) → list_all (is_form_method pool own names) ms ≡ true → find (is_entry cs name words) (machine_methods ms) ≡ Some m → OwnEntry ms m
    entry_found [] m forms e = absurd cc
    entry_found (x ∷ ms) m forms e =
        let f = and_parts (is_form_method pool own names x) (list_all (is_form_method pool own names) ms) forms in
        let t = (form_name pool own names x f.0).0 in
        let y = method_found None c (method_head pool x) in
        let is = form_found pool own names x f.0 c in
        let test : is_entry cs name words y ≡ (bytes_eq t name && takes_all cs [] words) = ap (is_entry cs name words) is in
        let test' : is_entry cs' name words y ≡ (bytes_eq t name && takes_all cs' [] words) = ap (is_entry cs' name words) is in
        let alike : is_entry cs' name words y ≡ is_entry cs name words y = test' ∙ ap (λ (b : Bool). bytes_eq t name && b) (takes_alike cs' cs words) ∙ sym test in
        go t is test alike (λ later. entry_found ms m f.1 later) (is_entry cs name words y) refl e
      where
        go : (t : List ℕ) → method_found None c (method_head pool x) ≡ own_found (reference c.name t no_arguments) (is_private (method_head pool x))
            → is_entry cs name words (method_found None c (method_head pool x)) ≡ (bytes_eq t name && takes_all cs [] words) → is_entry cs' name words (method_found None c (method_head pool x)) ≡ is_entry cs name words (method_found None c (method_head pool x))
            → (find (is_entry cs name words) (machine_methods ms) ≡ Some m → OwnEntry ms m) → (b : Bool) → is_entry cs name words (method_found None c (method_head pool x)) ≡ b
            → (if is_entry cs name words (method_found None c (method_head pool x)) then Some (method_found None c (method_head pool x)) else find (is_entry cs name words) (machine_methods ms)) ≡ Some m → OwnEntry (x ∷ ms) m
        go t is test alike later true yes' e =
            let y = method_found None c (method_head pool x) in
            let first : Some y ≡ Some m = sym (ap (λ (b : Bool). if b then Some y else find (is_entry cs name words) (machine_methods ms)) yes') ∙ e in
            record {
              none = no_words cs words (and_parts (bytes_eq t name) (takes_all cs [] words) (sym test ∙ yes')).1;
              found = ap (λ (b : Bool). if b then Some y else find (is_entry cs' name words) (machine_methods ms)) (alike ∙ yes') ∙ first;
              n = t;
              private = is_private (method_head pool x);
              is = sym (same_Some y m first) ∙ is;
            }
        go t is test alike later false other e =
            let y = method_found None c (method_head pool x) in
            let r = later (sym (ap (λ (b : Bool). if b then Some y else find (is_entry cs name words) (machine_methods ms)) other) ∙ e) in
            record {
              none = r.none;
              found = ap (λ (b : Bool). if b then Some y else find (is_entry cs' name words) (machine_methods ms)) (alike ∙ other) ∙ r.found;
              n = r.n;
              private = r.private;
              is = r.is;
            }
