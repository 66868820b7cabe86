-- How weaving ends, from how its steps ended.
use Rattle.std.proofs.Common.{◌≡◌, ◌≢◌, ◌↔◌, ℕ, ◌<◌, inl, inr, List, length, map, Option, Some, None, Result, Ok, Err, ap, sym, ◌∙◌, subst, arith, get_or, slice_get}
use Rattle.std.specs.Prelude.{IfSome, OnOk}
use Rattle.std.specs.Option.{option_map}
use Rattle.std.specs.List.{find}
use Rattle.std.proofs.lemmas.List.{length-map}
use Rattle.std.proofs.lemmas.Option.{same_Some, slice_get_within, slice_get-map, slice_get-get_or}
use Rattle.aj_outside.specs.Counts.{Rose, ComesWithRise, last_count}
use Rattle.aj_outside.specs.Files.{Files, names_under, put_each}
use Rattle.jp_model.specs.Input.{IsFirst, is_big, IsFirstNotBuilt, Reads, inputs_in, is_input}
use Rattle.weave_plan.specs.declared.planning.PlanFault.{PlanFault}
use Rattle.weave_plan.specs.declared.planning.PlanFault.TheVariants as plan_fault
use Rattle.weave_plan.specs.Faults.{IsFirstFault, HaveFirstFault, AreSound, IsFirstUnbuilt, AreTaken, AreRefused}
use Rattle.weave_plan.specs.declared.planning.NamedFile.{NamedFile}
use Rattle.weave_plan.specs.Plan.{IsPlan, files_of}
use Rattle.ajweave.specs.declared.status.Refusal.{Refusal}
use Rattle.ajweave.specs.declared.status.Refusal.TheVariants.{ManyFiles, BigFile, NoScript, Script, Class, World, NotBuilt, NoEntry}
use Rattle.ajweave.specs.declared.stop.Stop.{Stop}
use Rattle.ajweave.specs.declared.stop.Stop.TheVariants as stop
use Rattle.ajweave.specs.Words.{Folders}
use Rattle.ajweave.specs.Answers.{in_folder, ReadFailed, AreReadable, IsRefused, IsValid, WritesWeaving, CommandedTo, CommandedSome, PutsSome}
use Rattle.ajweave.specs.Steps.{OnStop, IsRefusal, IsReadStop, IsWriteStop, IsNoWriteStop, most_bytes, IsMany, IsBig, IsInputRefusal, Ends, PutsSomeTold}
use Rattle.ajweave.proofs.Cut.{cut, IsFirst-from_cut, whole-from_cut}
use Rattle.ajweave.proofs.Reading.{IsCut}

abbrev record_of : NamedFile → List ℕ × List ℕ
record_of f = (f.name, f.bytes.items)

abbrev pub Ended : Type 0
Ended = Result (Unit {0}) Stop

-- ---- when an answer comes

same_fault : {T : Type 0} (a b : Stop) → ◌≡◌ {A = Result T Stop} (Err a) (Err b) → a ≡ b
same_fault a b h = cc

pub err_at : {T : Type 0} (a b : Stop) → a ≡ b → ◌≡◌ {A = Result T Stop} (Err a) (Err b)
err_at a b h = cc

-- a step's stop is passed on
passed_on : {T : Type 0} (r : Result T Stop) (fault answer : Stop) → r ≡ Err fault → (◌≡◌ {A = Ended} (Err fault) (Err answer)) → r ≡ Err answer
passed_on r fault answer was h = was ∙ err_at fault answer (same_fault fault answer h)

passed_back : {T : Type 0} (r : Result T Stop) (fault answer : Stop) → r ≡ Err fault → r ≡ Err answer → ◌≡◌ {A = Ended} (Err fault) (Err answer)
passed_back r fault answer was h = err_at fault answer (same_fault fault answer (sym was ∙ h))

never_rose : (before now : ℕ) → now ≡ before → Rose before now → ⊥
never_rose before now same rose = omega arith

-- the answer came where the list failed
pub read_by_list : {T : Type 0} (r : Result T Stop) (fault : Stop) (held : Option Files) (faults faults_now missing missing_now : ℕ) → r ≡ Err fault → ComesWithRise (r ≡ Err stop.Read) faults faults_now → faults < last_count → missing_now ≡ missing → (◌≡◌ {A = Ended} (Err fault) (Err stop.Read)) ↔ ReadFailed held faults faults_now missing missing_now
read_by_list r fault held faults faults_now missing missing_now was comes below same =
    (λ h. inl (comes.only below (passed_on r fault stop.Read was h)), back)
  where
    back : ReadFailed held faults faults_now missing missing_now → ◌≡◌ {A = Ended} (Err fault) (Err stop.Read)
    back (inl rose) = passed_back r fault stop.Read was (comes.risen rose)
    back (inr p) = absurd (never_rose missing missing_now same p.1)

-- a failed read in a part of a run is one in the run
pub ReadFailed-whole : (held held_mid : Option Files) (a b c m n o : ℕ) → held_mid ≡ held → b ≡ a → n ≡ m → ReadFailed held_mid b c n o → ReadFailed held a c m o
ReadFailed-whole held held_mid a b c m n o h f g (inl rose) = inl (subst (λ (x : ℕ). Rose x c) f rose)
ReadFailed-whole held held_mid a b c m n o h f g (inr p) = inr (sym h ∙ p.0, subst (λ (x : ℕ). Rose x o) g p.1)

pub ReadFailed-part : (held held_mid : Option Files) (a b c m n o : ℕ) → held_mid ≡ held → b ≡ a → n ≡ m → ReadFailed held a c m o → ReadFailed held_mid b c n o
ReadFailed-part held held_mid a b c m n o h f g = ReadFailed-whole held_mid held b a c n m o (sym h) (sym f) (sym g)

-- the answer came where a read failed
pub read_by_reading : {T : Type 0} (r : Result T Stop) (fault : Stop) (held held_mid : Option Files) (a b c m n o : ℕ) → r ≡ Err fault → ((r ≡ Err stop.Read) ↔ ReadFailed held_mid b c n o) → held_mid ≡ held → b ≡ a → n ≡ m → (◌≡◌ {A = Ended} (Err fault) (Err stop.Read)) ↔ ReadFailed held a c m o
read_by_reading r fault held held_mid a b c m n o was iff h f g =
    (λ e. ReadFailed-whole held held_mid a b c m n o h f g (iff.0 (passed_on r fault stop.Read was e)), λ e. passed_back r fault stop.Read was (iff.1 (ReadFailed-part held held_mid a b c m n o h f g e)))

-- no read failed where the reading went well
pub never_failed : {T : Type 0} (r : Result T Stop) (x : T) (held held_mid : Option Files) (a b c m n o : ℕ) → r ≡ Ok x → ((r ≡ Err stop.Read) ↔ ReadFailed held_mid b c n o) → held_mid ≡ held → b ≡ a → n ≡ m → ReadFailed held a c m o → ⊥
never_failed r x held held_mid a b c m n o was iff h f g e =
    differ (sym was ∙ iff.1 (ReadFailed-part held held_mid a b c m n o h f g e))
  where
    differ : ◌≡◌ {A = Result _ Stop} (Ok x) (Err stop.Read) → ⊥
    differ e = cc

-- the answer is another, and no read failed
pub read_never : (ended : Ended) (held : Option Files) (a c d m o p : ℕ) → ended ≢ Err stop.Read → (ReadFailed held a c m o → ⊥) → d ≡ c → p ≡ o → (ended ≡ Err stop.Read) ↔ ReadFailed held a d m p
read_never ended held a c d m o p other never f g =
    (λ e. absurd (other e), λ e. absurd (never (subst (λ (x : ℕ). ReadFailed held a c m x) g (subst (λ (x : ℕ). ReadFailed held a x m p) f e))))

-- nothing was written
pub ComesWithRise-never : (answered : Type 0) (before now : ℕ) → ¬ answered → now ≡ before → ComesWithRise answered before now
ComesWithRise-never answered before now other same = record {
  later = omega arith;
  risen = λ rose. absurd (never_rose before now same rose);
  only = λ below h. absurd (other h);
}

pub ComesWithRise-whole : (answered : Type 0) (first before now : ℕ) → before ≡ first → ComesWithRise answered before now → ComesWithRise answered first now
ComesWithRise-whole answered first before now same h = subst (λ (x : ℕ). ComesWithRise answered x now) same h

pub listing_never_writes : (P : Refusal → Type 0) (fault : Stop) → IsNoWriteStop P fault → (◌≡◌ {A = Ended} (Err fault) (Err stop.Write)) → ⊥
listing_never_writes P stop.Read h e = cc
listing_never_writes P stop.Write h e = h
listing_never_writes P (stop.Refused refusal) h e = cc
listing_never_writes P stop.Memory h e = cc

pub reading_never_writes : (fault : Stop) → IsReadStop fault → (◌≡◌ {A = Ended} (Err fault) (Err stop.Write)) → ⊥
reading_never_writes stop.Read h e = cc
reading_never_writes stop.Write h e = h
reading_never_writes (stop.Refused refusal) h e = absurd h
reading_never_writes stop.Memory h e = cc

pub refusal_never_writes : (P : Refusal → Type 0) (fault : Stop) → IsRefusal P fault → (◌≡◌ {A = Ended} (Err fault) (Err stop.Write)) → ⊥
refusal_never_writes P stop.Read h e = absurd h
refusal_never_writes P stop.Write h e = h
refusal_never_writes P (stop.Refused refusal) h e = cc
refusal_never_writes P stop.Memory h e = cc

pub refusal_never_reads : (P : Refusal → Type 0) (fault : Stop) → IsRefusal P fault → (◌≡◌ {A = Ended} (Err fault) (Err stop.Read)) → ⊥
refusal_never_reads P stop.Read h e = h
refusal_never_reads P stop.Write h e = absurd h
refusal_never_reads P (stop.Refused refusal) h e = cc
refusal_never_reads P stop.Memory h e = cc

pub writing_never_reads : (ended : Ended) → OnStop ended IsWriteStop → ended ≡ Err stop.Read → ⊥
writing_never_reads (Ok x) h e = cc
writing_never_reads (Err stop.Read) h e = h
writing_never_reads (Err stop.Write) h e = cc
writing_never_reads (Err (stop.Refused refusal)) h e = absurd h
writing_never_reads (Err stop.Memory) h e = cc

-- ---- the steps before the plan

too_many : (folders : Folders) (held : Option Files) (refusal : Refusal) → IfSome held (λ files. IsMany (length (names_under folders.input files)) refusal) → IfSome held (λ files. IsRefused folders.input files refusal)
too_many folders None refusal h = h
too_many folders (Some files) refusal h = subst (IsRefused folders.input files) (sym h.0) h.1

pub list_ends : (folders : Folders) (held held_now : Option Files) (fault : Stop) → IsNoWriteStop (λ refusal. IfSome held (λ files. IsMany (length (names_under folders.input files)) refusal)) fault → held_now ≡ held → Ends (Err fault) folders held held_now
list_ends folders held held_now stop.Read h same = same
list_ends folders held held_now stop.Write h same = absurd h
list_ends folders held held_now (stop.Refused refusal) h same = (same, too_many folders held refusal h)
list_ends folders held held_now stop.Memory h same = inl same

pub reading_ends : (folders : Folders) (held held_now : Option Files) (fault : Stop) → IsReadStop fault → held_now ≡ held → Ends (Err fault) folders held held_now
reading_ends folders held held_now stop.Read h same = same
reading_ends folders held held_now stop.Write h same = absurd h
reading_ends folders held held_now (stop.Refused refusal) h same = absurd h
reading_ends folders held held_now stop.Memory h same = inl same

-- ---- too many names

-- too many names are one refusal
pub many_stop : {T : Type 0} (count : ℕ) (r : Result T Stop) → OnStop r (IsRefusal (IsMany count)) → OnStop r (IsNoWriteStop (λ refusal. refusal ≡ ManyFiles))
many_stop count (Ok x) h = tt
many_stop count (Err stop.Read) h = tt
many_stop count (Err stop.Write) h = h
many_stop count (Err (stop.Refused refusal)) h = h.0
many_stop count (Err stop.Memory) h = tt

-- ---- what was read

-- what was read are the first bytes of the inputs, of which there are not too many
abbrev pub IsInput : List ℕ → Option Files → List NamedFile → Type 0
IsInput = IsCut is_input

big : 16777216 < most_bytes
big = omega arith

-- ---- inputs that are too long

big_whole : (folders : Folders) (held : Option Files) (inputs : List NamedFile) (name : List ℕ) → IsInput folders.input held inputs → IsFirst is_big (files_of inputs) (in_folder folders.input name) → IfSome held (λ files. IsRefused folders.input files (BigFile name))
big_whole folders None inputs name i h = tt
big_whole folders (Some files) inputs name i h =
    (i.0, IsFirst-from_cut most_bytes (inputs_in folders.input files) (in_folder folders.input name) big (subst (λ (fs : Files). IsFirst is_big fs (in_folder folders.input name)) i.1 h))

big_ends : (folders : Folders) (held : Option Files) (inputs : List NamedFile) (refusal : Refusal) → IsInput folders.input held inputs → IsBig folders.input (files_of inputs) refusal → IfSome held (λ files. IsRefused folders.input files refusal)
big_ends folders held inputs ManyFiles i h = absurd h
big_ends folders held inputs (BigFile name) i h = big_whole folders held inputs name i h
big_ends folders held inputs (Class name fault) i h = absurd h
big_ends folders held inputs (World fault) i h = absurd h
big_ends folders held inputs (NotBuilt name) i h = absurd h
big_ends folders held inputs (NoScript name) i h = absurd h
big_ends folders held inputs (Script name line) i h = absurd h
big_ends folders held inputs (NoEntry word) i h = absurd h

pub sizes_end : (folders : Folders) (held held_now : Option Files) (inputs : List NamedFile) (fault : Stop) → IsInput folders.input held inputs → IsRefusal (IsBig folders.input (files_of inputs)) fault → held_now ≡ held → Ends (Err fault) folders held held_now
sizes_end folders held held_now inputs stop.Read i h same = absurd h
sizes_end folders held held_now inputs stop.Write i h same = absurd h
sizes_end folders held held_now inputs (stop.Refused refusal) i h same = (same, big_ends folders held inputs refusal i h)
sizes_end folders held held_now inputs stop.Memory i h same = inl same

-- what was read are the inputs, none of which is too long
abbrev pub IsWhole : List ℕ → Option Files → List NamedFile → Type 0
IsWhole folder held inputs = IfSome held (λ files. AreReadable folder files × (files_of inputs ≡ inputs_in folder files))

pub IsWhole-from_input : (folder : List ℕ) (held : Option Files) (inputs : List NamedFile) → IsInput folder held inputs → find is_big (files_of inputs) ≡ None → IsWhole folder held inputs
IsWhole-from_input folder None inputs i h = tt
IsWhole-from_input folder (Some files) inputs i h =
    let small : find is_big (map (cut most_bytes) (inputs_in folder files)) ≡ None = ap (find is_big) (sym i.1) ∙ h in
    let whole = whole-from_cut most_bytes (inputs_in folder files) big small in
    (record { few = i.0; small = ap (find is_big) (sym whole) ∙ small }, i.1 ∙ whole)

-- the same of these inputs, seen as slices
pub IsWhole-seen : (folder : List ℕ) (held : Option Files) (inputs first second : List NamedFile) → first ≡ inputs → second ≡ inputs → IsInput folder held inputs → find is_big (files_of first) ≡ None → IsWhole folder held second
IsWhole-seen folder held inputs first second f s i h =
    subst (λ (xs : List NamedFile). IsWhole folder held xs) (sym s) (IsWhole-from_input folder held inputs i (subst (λ (xs : List NamedFile). find is_big (files_of xs) ≡ None) f h))

-- ---- refused inputs

refused_whole : (folders : Folders) (held : Option Files) (inputs : List NamedFile) (refusal : Refusal) → IsWhole folders.input held inputs → IsInputRefusal folders.input (files_of inputs) refusal → IfSome held (λ files. IsRefused folders.input files refusal)
refused_whole folders None inputs refusal w h = tt
refused_whole folders (Some files) inputs ManyFiles w h = absurd h
refused_whole folders (Some files) inputs (BigFile name) w h = absurd h
refused_whole folders (Some files) inputs (Class name fault) w h = (w.0, subst (λ (fs : Files). IsFirstFault fs (in_folder folders.input name) fault) w.1 h)
refused_whole folders (Some files) inputs (World fault) w h = (w.0, subst (λ (fs : Files). HaveFirstFault fs fault) w.1 h)
refused_whole folders (Some files) inputs (NotBuilt name) w h = (w.0, subst (λ (fs : Files). IsFirstUnbuilt fs (in_folder folders.input name)) w.1 h)
refused_whole folders (Some files) inputs (NoScript name) w h = absurd h
refused_whole folders (Some files) inputs (Script name line) w h = absurd h
refused_whole folders (Some files) inputs (NoEntry word) w h = absurd h

pub refusal_ends : (folders : Folders) (held held_now : Option Files) (inputs : List NamedFile) (fault : Stop) → IsWhole folders.input held inputs → IsRefusal (IsInputRefusal folders.input (files_of inputs)) fault → held_now ≡ held → Ends (Err fault) folders held held_now
refusal_ends folders held held_now inputs stop.Read w h same = absurd h
refusal_ends folders held held_now inputs stop.Write w h same = absurd h
refusal_ends folders held held_now inputs (stop.Refused refusal) w h same = (same, refused_whole folders held inputs refusal w h)
refusal_ends folders held held_now inputs stop.Memory w h same = inl same

-- ---- what was planned is written

valid_whole : (folders : Folders) (held : Option Files) (inputs : List NamedFile) → IsWhole folders.input held inputs → AreTaken (files_of inputs) → IfSome held (λ files. IsValid folders.input files)
valid_whole folders None inputs w h = tt
valid_whole folders (Some files) inputs w h = record { readable = w.0; taken = subst AreTaken w.1 h }

reads_whole : (folders : Folders) (files : Files) (inputs outputs : List NamedFile) → IsWhole folders.input (Some files) inputs → (p : IsPlan (files_of inputs) folders.output (files_of outputs)) → Reads (inputs_in folders.input files) p.classes p.aspects
reads_whole folders files inputs outputs w p = subst (λ (fs : Files). Reads fs p.classes p.aspects) w.1 p.reads

written_whole : (folders : Folders) (held held_now : Option Files) (inputs outputs : List NamedFile) → IsWhole folders.input held inputs → IsPlan (files_of inputs) folders.output (files_of outputs) → held_now ≡ option_map (λ before. put_each before (files_of outputs)) held → CommandedTo (Some folders) held held_now WritesWeaving
written_whole folders None held_now inputs outputs i p put = put
written_whole folders (Some files) held_now inputs outputs i p put =
    subst (λ (h : Option Files). CommandedTo (Some folders) (Some files) h WritesWeaving) (sym put) (record {
      classes = p.classes;
      aspects = p.aspects;
      written = p.written;
      reads = reads_whole folders files inputs outputs i p;
      files = ap (put_each files) p.files;
      holds = p.weaving;
    })

some_whole : (folders : Folders) (held held_now : Option Files) (inputs outputs : List NamedFile) → IsWhole folders.input held inputs → IsPlan (files_of inputs) folders.output (files_of outputs) → PutsSomeTold (files_of outputs) held held_now → CommandedSome (Some folders) held held_now
some_whole folders None held_now inputs outputs i p put = put
some_whole folders (Some files) held_now inputs outputs i p put = record {
  classes = p.classes;
  aspects = p.aspects;
  written = p.written;
  reads = reads_whole folders files inputs outputs i p;
  weaving = p.weaving;
  some = subst (λ (fs : Files). PutsSome fs files held_now) p.files put;
}

pub writing_ends : (folders : Folders) (held held_mid held_now : Option Files) (inputs outputs : List NamedFile) (ended : Ended) → IsWhole folders.input held inputs → IsPlan (files_of inputs) folders.output (files_of outputs) → AreTaken (files_of inputs) → held_mid ≡ held → OnOk ended (held_now ≡ option_map (λ before. put_each before (files_of outputs)) held_mid) → OnStop ended (λ fault. PutsSomeTold (files_of outputs) held_mid held_now) → OnStop ended IsWriteStop → Ends ended folders held held_now
writing_ends folders held held_mid held_now inputs outputs (Ok x) i p built same whole some stopped =
    (written_whole folders held held_now inputs outputs i p (whole ∙ ap (option_map (λ before. put_each before (files_of outputs))) same), valid_whole folders held inputs i built)
writing_ends folders held held_mid held_now inputs outputs (Err stop.Read) i p built same whole some stopped = absurd stopped
writing_ends folders held held_mid held_now inputs outputs (Err stop.Write) i p built same whole some stopped =
    (some_whole folders held held_now inputs outputs i p (subst (λ (h : Option Files). PutsSomeTold (files_of outputs) h held_now) same some), valid_whole folders held inputs i built)
writing_ends folders held held_mid held_now inputs outputs (Err (stop.Refused refusal)) i p built same whole some stopped = absurd stopped
writing_ends folders held held_mid held_now inputs outputs (Err stop.Memory) i p built same whole some stopped =
    inr (some_whole folders held held_now inputs outputs i p (subst (λ (h : Option Files). PutsSomeTold (files_of outputs) h held_now) same some))

-- ---- the name of a refused input

file_at_place : (files : List NamedFile) (i : ℕ) (file : NamedFile) (f : List ℕ × List ℕ) → slice_get (files_of files) i ≡ Some f → (get_or files i file).name ≡ f.0
file_at_place files i file f stands =
    let within : i < length (files_of files) = slice_get_within (files_of files) i f stands in
    let long : length (files_of files) ≡ length files = length-map files record_of in
    let here : slice_get (files_of files) i ≡ Some (record_of (get_or files i file)) =
    slice_get-map record_of files i ∙ ap (option_map record_of) (slice_get-get_or files i file (omega arith)) in
    ap (λ (g : List ℕ × List ℕ). g.0) (same_Some (record_of (get_or files i file)) f (sym here ∙ stands))

named_so : (inputs : Files) (i : ℕ) (f : List ℕ × List ℕ) (name : List ℕ) → f.0 ≡ name → AreSound inputs → IsFirstNotBuilt inputs i f → IsFirstUnbuilt inputs name
named_so inputs i f name same sound first =
    subst (IsFirstUnbuilt inputs) same (record { sound = sound; first = record { place = i; bytes = f.1; first = first } })

pub unbuilt_at : (files : List NamedFile) (folder : List ℕ) (i : ℕ) (file : NamedFile) (name : List ℕ) (fault : PlanFault) → fault ≡ plan_fault.NotBuilt i → (get_or files i file).name ≡ in_folder folder name → AreRefused (files_of files) fault → IsFirstUnbuilt (files_of files) (in_folder folder name)
unbuilt_at files folder i file name fault is named h =
    let r : AreRefused (files_of files) (plan_fault.NotBuilt i) = subst (AreRefused (files_of files)) is h in
    named_so (files_of files) i r.0 (in_folder folder name) (sym (file_at_place files i file r.0 r.2.stands) ∙ named) r.1 r.2
