-- Files that go to their places among files in the byte order of their names.
use Rattle.std.proofs.Common.{◌≡◌, ℕ, ◌+◌, ◌<◌, List, [], ◌∷◌, ◌++◌, length, take, map, get_or, refl, sym, ap, ◌∙◌}
use Rattle.std.specs.declared.cmp.Ordering.{Ordering}
use Rattle.std.specs.declared.cmp.Ordering.TheVariants.{Less, Equal, Greater}
use Rattle.std.specs.Ordering.{match_ordering}
use Rattle.std.specs.BTreeMap.{insert_entry}
use Rattle.std.proofs.lemmas.List.{take_more, map-append}
use Rattle.aj_outside.specs.Files.{Files, byte_order, put_file, put_each}
use Rattle.class_file.specs.declared.types.ClassFile.{ClassFile}
use Rattle.jp_model.specs.Headline.{output}

-- the files of a map
abbrev pub seen : {V : Type 0} → (V → List ℕ) → List (List ℕ × V) → Files
seen bytes entries = map (λ e. (e.0, bytes e.1)) entries

-- a file that is inserted into a map is put
pub inserted : {V : Type 0} (bytes : V → List ℕ) (entries : List (List ℕ × V)) (name : List ℕ) (v : V) → seen bytes (insert_entry byte_order entries name v) ≡ put_file (seen bytes entries) name (bytes v)
inserted bytes [] name v = refl
inserted {V} bytes (e ∷ entries) name v = by (byte_order name e.0) (inserted bytes entries name v)
  where
    by : (o : Ordering) → seen bytes (insert_entry byte_order entries name v) ≡ put_file (seen bytes entries) name (bytes v) → seen bytes (match_ordering o ((name, v) ∷ e ∷ entries) ((e.0, v) ∷ entries) (e ∷ insert_entry byte_order entries name v)) ≡ match_ordering o ((name, bytes v) ∷ (e.0, bytes e.1) ∷ seen bytes entries) ((e.0, bytes v) ∷ seen bytes entries) ((e.0, bytes e.1) ∷ put_file (seen bytes entries) name (bytes v))
    by Less later = refl
    by Equal later = refl
    by Greater later = ap (λ (fs : Files). (e.0, bytes e.1) ∷ fs) later

put_each_more : (files others : Files) (name bytes : List ℕ) → put_each files (others ++ (name, bytes) ∷ []) ≡ put_file (put_each files others) name bytes
put_each_more files [] name bytes = refl
put_each_more files (other ∷ others) name bytes = put_each_more (put_file files other.0 other.1) others name bytes

-- the file of one more class is put
pub put_more : (folder : List ℕ) (classes : List ClassFile) (i : ℕ) (c : ClassFile) (files new : Files) → i < length classes → c ≡ get_or classes i c → files ≡ put_each [] (map (output folder) (take i classes)) → new ≡ put_file files (output folder c).0 (output folder c).1 → new ≡ put_each [] (map (output folder) (take (i + 1) classes))
put_more folder classes i c files new lt e h n =
    let more : take (i + 1) classes ≡ take i classes ++ c ∷ [] = take_more classes i c lt ∙ ap (λ (x : ClassFile). take i classes ++ x ∷ []) (sym e) in
    let mapped : map (output folder) (take (i + 1) classes) ≡ map (output folder) (take i classes) ++ output folder c ∷ [] =
    ap (map (output folder)) more ∙ map-append (output folder) (take i classes) (c ∷ []) in
    n ∙ ap (λ (x : Files). put_file x (output folder c).0 (output folder c).1) h
    ∙ sym (ap (put_each []) mapped ∙ put_each_more [] (map (output folder) (take i classes)) (output folder c).0 (output folder c).1)
