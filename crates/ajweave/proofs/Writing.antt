-- Files that are written one after the other.
use Rattle.std.proofs.Common.{◌≡◌, ℕ, ◌+◌, ◌<◌, List, [], ◌∷◌, ◌++◌, length, take, get_or, Option, Some, None, Result, Ok, Err, refl, ap, sym, ◌∙◌, subst}
use Rattle.std.specs.Option.{option_map}
use Rattle.std.proofs.lemmas.List.{take_more, take-map, map-append}
use Rattle.std.proofs.lemmas.Option.{slice_get-map, slice_get-get_or}
use Rattle.aj_outside.specs.Files.{Files, put_file, put_each, OthersStay}
use Rattle.weave_plan.specs.declared.planning.NamedFile.{NamedFile}
use Rattle.weave_plan.specs.Plan.{files_of}
use Rattle.ajweave.specs.declared.stop.Stop.{Stop}
use Rattle.ajweave.specs.Steps.{OnStop, PutsSomeTold}

abbrev File : Type 0
File = List ℕ × List ℕ

abbrev record_of : NamedFile → File
record_of f = (f.name, f.bytes.items)

abbrev some_named : NamedFile → Option NamedFile
some_named f = Some f

abbrev some_files : Files → Option Files
some_files files = Some files

put_each-append : (before xs ys : Files) → put_each before (xs ++ ys) ≡ put_each (put_each before xs) ys
put_each-append before [] ys = refl
put_each-append before (x ∷ xs) ys = put_each-append (put_file before x.0 x.1) xs ys

-- the files that are held after the first of these were put
abbrev pub held_after : List NamedFile → ℕ → Option Files → Option Files
held_after files i held = option_map (λ before. put_each before (files_of (take i files))) held

pub held_after-none : (files : List NamedFile) (held : Option Files) → held ≡ held_after files 0 held
held_after-none files None = refl
held_after-none files (Some before) = refl

one_more : (files : List NamedFile) (i : ℕ) (file : NamedFile) (before : Files) → i < length files → file ≡ get_or files i file → put_file (put_each before (files_of (take i files))) file.name file.bytes.items ≡ put_each before (files_of (take (i + 1) files))
one_more files i file before lt is =
    let one : List NamedFile → Files = λ fs. put_each before (files_of fs) in
    sym (ap one (take_more files i file lt) ∙ ap (λ (f : NamedFile). one (take i files ++ f ∷ [])) (sym is) ∙ ap (put_each before) (map-append (λ (f : NamedFile). record_of f) (take i files) (file ∷ [])) ∙ put_each-append before (files_of (take i files)) (record_of file ∷ []))

-- one more file was put
pub held_after-more : (files : List NamedFile) (i : ℕ) (file : NamedFile) (first held now : Option Files) → i < length files → file ≡ get_or files i file → held ≡ held_after files i first → now ≡ option_map (λ fs. put_file fs file.name file.bytes.items) held → now ≡ held_after files (i + 1) first
held_after-more files i file None held now lt is so_far put = put ∙ ap (option_map (λ fs. put_file fs file.name file.bytes.items)) so_far
held_after-more files i file (Some before) held now lt is so_far put =
    put ∙ ap (option_map (λ fs. put_file fs file.name file.bytes.items)) so_far ∙ ap some_files (one_more files i file before lt is)

stays_untold : (name : List ℕ) (now : Option Files) → OthersStay name None now → now ≡ None
stays_untold name None h = refl
stays_untold name (Some files) h = absurd h

-- the next file was not put
pub PutsSomeTold-at : (files : List NamedFile) (i : ℕ) (file : NamedFile) (first held now : Option Files) → i < length files → file ≡ get_or files i file → held ≡ held_after files i first → OthersStay file.name held now → PutsSomeTold (files_of files) first now
PutsSomeTold-at files i file None held now lt is so_far stay =
    stays_untold file.name now (subst (λ (h : Option Files). OthersStay file.name h now) so_far stay)
PutsSomeTold-at files i file (Some before) held now lt is so_far stay = record {
  count = i;
  failing = record_of file;
  next = slice_get-map record_of files i ∙ ap (option_map record_of) (slice_get-get_or files i file lt ∙ ap some_named (sym is));
  others = subst (λ (fs : Files). OthersStay file.name (Some (put_each before fs)) now) (sym (take-map record_of i files)) (subst (λ (h : Option Files). OthersStay file.name h now) so_far stay);
}

-- what holds anyhow holds where a step stopped
pub OnStop-always : {T : Type 0} (r : Result T Stop) (P : Type 0) → P → OnStop r (λ fault. P)
OnStop-always (Ok x) P h = tt
OnStop-always (Err fault) P h = h
