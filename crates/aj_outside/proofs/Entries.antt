-- A map from texts to bytes, seen as files.
use Rattle.std.proofs.Common.{◌≡◌, ℕ, Bool, true, false, cond, List, [], ◌∷◌, ◌++◌, map, take, Option, Some, None, option_map, refl, ap, sym, ◌∙◌, subst, append_assoc}
use mathlib.Core.Bool.{true≢false}
use denote.Ref.{Bor}
use Rattle.std.specs.declared.alloc.Global.{Global}
use Rattle.std.specs.declared.string.String.{String}
use Rattle.std.specs.declared.vec.Vec.{Vec}
use Rattle.std.specs.declared.cmp.Ordering.{Ordering}
use Rattle.std.specs.declared.cmp.Ordering.TheVariants.{Less, Equal, Greater}
use Rattle.std.specs.Ordering.{nat_cmp, is_eq, match_ordering}
use Rattle.std.specs.Cmp.Lexicographic.{slice_cmp}
use Rattle.std.specs.List.{filter}
use Rattle.std.specs.Map.{lookup, keys_of}
use Rattle.std.specs.Option.{option_copied}
use Rattle.std.specs.String.{string_bytes, string_cmp}
use Rattle.std.specs.BTreeMap.{insert_entry}
use Rattle.std.specs.Option.{MatchOption, is_some}
use Rattle.aj_outside.specs.FileLaws.{AreFiles-none, AreFiles-put, is_under-joined}
use Rattle.aj_outside.specs.Files.{Files, AreFiles, byte_order, names, file_at, put_file, put_each, is_under}
use Rattle.aj_outside.specs.Stored.{stored_files}

-- an insert puts a file
pub stored-insert : (entries : List (String Global × Vec ℕ Global)) (key : String Global) (bytes : Vec ℕ Global) → stored_files (insert_entry string_cmp entries key bytes) ≡ put_file (stored_files entries) (string_bytes key) bytes.items
stored-insert [] key bytes = refl
stored-insert (entry ∷ entries) key bytes = by (stored-insert entries key bytes) (byte_order (string_bytes key) (string_bytes entry.0))
  where
    by : stored_files (insert_entry string_cmp entries key bytes) ≡ put_file (stored_files entries) (string_bytes key) bytes.items → (o : Ordering) → stored_files (match_ordering o ((key, bytes) ∷ entry ∷ entries) ((entry.0, bytes) ∷ entries) (entry ∷ insert_entry string_cmp entries key bytes)) ≡ match_ordering o ((string_bytes key, bytes.items) ∷ stored_files (entry ∷ entries)) ((string_bytes entry.0, bytes.items) ∷ stored_files entries) ((string_bytes entry.0, entry.1.items) ∷ put_file (stored_files entries) (string_bytes key) bytes.items)
    by later Less = refl
    by later Equal = refl
    by later Greater = ap (λ files. (string_bytes entry.0, entry.1.items) ∷ files) later

-- a look-up reads a file
pub stored-lookup : (entries : List (String Global × Vec ℕ Global)) (name : List ℕ) → option_map (λ bytes. bytes.items) (lookup (λ key. is_eq (slice_cmp nat_cmp name (string_bytes key))) entries) ≡ file_at (stored_files entries) name
stored-lookup [] name = refl
stored-lookup (entry ∷ entries) name = by (stored-lookup entries name) (is_eq (byte_order name (string_bytes entry.0)))
  where
    by : option_map (λ bytes. bytes.items) (lookup (λ key. is_eq (slice_cmp nat_cmp name (string_bytes key))) entries) ≡ file_at (stored_files entries) name → (b : Bool) → option_map (λ bytes. bytes.items) (cond b (Some entry.1) (lookup (λ key. is_eq (slice_cmp nat_cmp name (string_bytes key))) entries)) ≡ cond b (Some entry.1.items) (file_at (stored_files entries) name)
    by later true = refl
    by later false = later

copied-items : (found : Option (Bor (Vec ℕ Global))) → option_map (λ bytes. bytes.now.items) found ≡ option_map (λ bytes. bytes.items) (option_copied found)
copied-items None = refl
copied-items (Some bytes) = refl

-- what `get` found is the file
pub found-file : (entries : List (String Global × Vec ℕ Global)) (files : Files) (name : List ℕ) (found : Option (Bor (Vec ℕ Global))) → stored_files entries ≡ files → option_copied found ≡ lookup (λ key. is_eq (slice_cmp nat_cmp name (string_bytes key))) entries → option_map (λ bytes. bytes.now.items) found ≡ file_at files name
found-file entries files name found v e =
    copied-items found ∙ ap (λ o. option_map (λ bytes. bytes.items) o) e ∙ stored-lookup entries name ∙ ap (λ f. file_at f name) v

-- one more file stored, of those that are to be stored
pub stored-more : (entries now : List (String Global × Vec ℕ Global)) (key : String Global) (name : List ℕ) (bytes : Vec ℕ Global) (rest all : Files) → now ≡ insert_entry string_cmp entries key bytes → string_bytes key ≡ name → put_each (stored_files entries) ((name, bytes.items) ∷ rest) ≡ all → put_each (stored_files now) rest ≡ all
stored-more entries now key name bytes rest all e k h =
    ap (λ es. put_each (stored_files es) rest) e ∙ ap (λ files. put_each files rest) (stored-insert entries key bytes) ∙ ap (λ n. put_each (put_file (stored_files entries) n bytes.items) rest) k ∙ h

-- the names of the files are the texts of the keys
pub stored-names : (entries : List (String Global × Vec ℕ Global)) → map string_bytes (keys_of entries) ≡ names (stored_files entries)
stored-names [] = refl
stored-names (entry ∷ entries) = ap (λ ns. string_bytes entry.0 ∷ ns) (stored-names entries)

-- a key that passes goes to the list, and another does not
pub listed-true : (p : List ℕ → Bool) (count : ℕ) (listed : List (List ℕ)) (name : List ℕ) (left all : List (List ℕ)) → p name ≡ true → take count (listed ++ filter p (name ∷ left)) ≡ all → take count ((listed ++ name ∷ []) ++ filter p left) ≡ all
listed-true p count listed name left all t h =
    ap (take count) (append_assoc listed (name ∷ []) (filter p left) ∙ sym (ap (λ b. listed ++ cond b (name ∷ filter p left) (filter p left)) t)) ∙ h

pub listed-false : (p : List ℕ → Bool) (count : ℕ) (listed : List (List ℕ)) (name : List ℕ) (left all : List (List ℕ)) → p name ≡ false → take count (listed ++ filter p (name ∷ left)) ≡ all → take count (listed ++ filter p left) ≡ all
listed-false p count listed name left all t h = ap (take count) (sym (ap (λ b. listed ++ cond b (name ∷ filter p left) (filter p left)) t)) ∙ h

-- no entries are no files, of which none was given either
pub stored-none : (entries : List (String Global × Vec ℕ Global)) (left all : List (List ℕ × Vec ℕ Global)) → entries ≡ [] → left ≡ all → put_each (stored_files entries) (map (λ file. (file.0, file.1.items)) left) ≡ put_each [] (map (λ file. (file.0, file.1.items)) all)
stored-none entries left all e l =
    ap (λ es. put_each (stored_files es) (map (λ file. (file.0, file.1.items)) left)) e ∙ ap (λ fs. put_each [] (map (λ file. (file.0, file.1.items)) fs)) l

pub ordered-none : (entries : List (String Global × Vec ℕ Global)) → entries ≡ [] → AreFiles (stored_files entries)
ordered-none entries e = let P : List (String Global × Vec ℕ Global) → Type 0 = λ es. AreFiles (stored_files es) in subst P (sym e) AreFiles-none

-- an insert keeps the order
pub ordered-insert : (entries now : List (String Global × Vec ℕ Global)) (key : String Global) (bytes : Vec ℕ Global) → now ≡ insert_entry string_cmp entries key bytes → AreFiles (stored_files entries) → AreFiles (stored_files now)
ordered-insert entries now key bytes e h =
    subst AreFiles (sym (ap stored_files e ∙ stored-insert entries key bytes)) (AreFiles-put (stored_files entries) (string_bytes key) bytes.items h)

-- before anything is listed, all keys are left
pub listed-none : (p : List ℕ → Bool) (count : ℕ) (listed : List (List ℕ)) (left : List (String Global)) (entries : List (String Global × Vec ℕ Global)) → listed ≡ [] → left ≡ keys_of entries → take count (listed ++ filter p (map string_bytes left)) ≡ take count (filter p (names (stored_files entries)))
listed-none p count listed left entries e k =
    ap (λ xs. take count (xs ++ filter p (map string_bytes left))) e ∙ ap (λ ks. take count (filter p (map string_bytes ks))) k ∙ ap (λ ns. take count (filter p ns)) (stored-names entries)

-- what is left after the folder's name shows that the name is under the folder
pub passes : (folder text : List ℕ) (rest : Option (Bor (List ℕ))) → is_some rest ≡ true → MatchOption rest (is_under folder text ≡ false) (λ r. text ≡ folder ++ 47 ∷ [] ++ r.now) → is_under folder text ≡ true
passes folder text None t h = absurd (true≢false (sym t))
passes folder text (Some rest) t h = is_under-joined folder rest.now text h

-- an insert puts the file of the key's name and the value's bytes
pub written : (entries now : List (String Global × Vec ℕ Global)) (key : String Global) (value : Vec ℕ Global) (files : Files) (name bytes : List ℕ) → now ≡ insert_entry string_cmp entries key value → stored_files entries ≡ files → string_bytes key ≡ name → value.items ≡ bytes → stored_files now ≡ put_file files name bytes
written entries now key value files name bytes e f n b =
    ap stored_files e ∙ stored-insert entries key value ∙ ap (λ fs. put_file fs (string_bytes key) value.items) f ∙ ap (λ m. put_file files m value.items) n ∙ ap (λ bs. put_file files name bs) b
