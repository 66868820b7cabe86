-- When each answer comes, and what the shelf and the sink hold afterwards.
use Rattle.std.specs.Prelude.{◌≡◌, ℕ, ◌<◌, ◌≤◌, ◌⊎◌, List, [], ◌∷◌, ◌++◌, length, map, take, Option, Some, None, slice_get, IfSome}
use Rattle.std.specs.List.{find}
use Rattle.std.specs.Option.{option_map}
use Rattle.aj_outside.specs.Counts.{Rose}
use Rattle.aj_outside.specs.Files.{Files, names_under, put_each, OthersStay, AppendsPrefix}
use Rattle.class_file.specs.declared.types.ClassFile.{ClassFile}
use Rattle.jp_model.specs.declared.first_aspect.FirstAspect.{FirstAspect}
use Rattle.jp_model.specs.AspectText.{aspect_of}
use Rattle.jp_model.specs.Input.{inputs_in, Reads, IsFirst, is_big}
use Rattle.jp_model.specs.Headline.{Behaves, AreExtended, HoldsUntouched, HoldsDeclared, IsWeaving, outputs_of, with_outputs}
use Rattle.weave_plan.specs.Faults.{IsFirstFault, HaveFirstFault, IsFirstUnbuilt, AreTaken}
use Rattle.ajweave.specs.declared.status.Refusal.{Refusal}
use Rattle.ajweave.specs.declared.status.Refusal.TheVariants as refusal
use Rattle.ajweave.specs.declared.status.Status.{Status}
use Rattle.ajweave.specs.declared.status.Status.TheVariants as status
use Rattle.ajweave.specs.Words.{Folders, usage_line, refusal_line}

-- the number of an answer, with which the process ends
abbrev pub code_of : Status → ℕ
code_of status.Done = 0
code_of status.Returned = 0
code_of (status.Refused refusal) = 1
code_of status.Usage = 2
code_of status.ReadFault = 3
code_of status.WriteFault = 4
code_of status.PrintFault = 5
code_of status.OutOfMemory = 7
code_of status.Uncaught = 10
code_of status.InitFailed = 11
code_of status.Exit = 12
code_of status.Unmodelled = 13
code_of status.Unresolved = 14
code_of status.Broken = 15
code_of status.StepsSpent = 16
code_of status.ScriptEnds = 17

-- ---- faults

-- A read failed. On a shelf that doesn't tell what it holds, a listed file that is gone is a failure too.
abbrev pub ReadFailed : Option Files → ℕ → ℕ → ℕ → ℕ → Type 0
ReadFailed held before now missing_before missing_now =
    Rose before now ⊎ ((held ≡ None) × Rose missing_before missing_now)

-- The result is the answer, which prints its text, unless the print failed or memory ran out.
abbrev pub AnswersPrinted : Status → Status → Type 0
AnswersPrinted answer result = (result ≡ answer) ⊎ ((result ≡ status.PrintFault) ⊎ (result ≡ status.OutOfMemory))

-- The result is the answer, unless a read failed before, or its print, or memory ran out.
abbrev pub AnswersRead : Status → Status → Type 0
AnswersRead answer result = (result ≡ status.ReadFault) ⊎ AnswersPrinted answer result

-- The result is Done, unless a read or a write failed, or memory ran out.
abbrev pub AnswersDone : Status → Type 0
AnswersDone result =
    (result ≡ status.Done) ⊎ ((result ≡ status.ReadFault) ⊎ ((result ≡ status.WriteFault) ⊎ (result ≡ status.OutOfMemory)))

-- ---- refusals

-- how many names are listed at most
abbrev pub most_names : ℕ
most_names = 65536

-- OUT/NAME, the name of a file in a folder
abbrev pub in_folder : List ℕ → List ℕ → List ℕ
in_folder folder name = folder ++ (47 ∷ name)

-- not too many files are listed, and no input is too long
pub record AreReadable (folder : List ℕ) (files : Files) : Type 0 where
  pub few : length (names_under folder files) ≤ most_names
  pub small : find is_big (inputs_in folder files) ≡ None

-- The input is refused so, with a file without its folder. Of what is wrong the first counts: too many
-- files, the first one by name that is too long, the first class file that is none, with its first fault,
-- the first fault of the world of classes, and the first file that isn't of a form that is built.
abbrev pub IsRefused : List ℕ → Files → Refusal → Type 0
IsRefused folder files refusal.ManyFiles = most_names < length (names_under folder files)
IsRefused folder files (refusal.BigFile name) =
    (length (names_under folder files) ≤ most_names) × IsFirst is_big (inputs_in folder files) (in_folder folder name)
IsRefused folder files (refusal.Class name fault) =
    AreReadable folder files × IsFirstFault (inputs_in folder files) (in_folder folder name) fault
IsRefused folder files (refusal.World fault) =
    AreReadable folder files × HaveFirstFault (inputs_in folder files) fault
IsRefused folder files (refusal.NotBuilt name) =
    AreReadable folder files × IsFirstUnbuilt (inputs_in folder files) (in_folder folder name)
-- no weaving's
IsRefused folder files _ = ⊥

-- it is one of the refusals that a weaving has
abbrev pub IsOfWeaving : Refusal → Type 0
IsOfWeaving refusal.ManyFiles = Unit {0}
IsOfWeaving (refusal.BigFile name) = Unit {0}
IsOfWeaving (refusal.Class name fault) = Unit {0}
IsOfWeaving (refusal.World fault) = Unit {0}
IsOfWeaving (refusal.NotBuilt name) = Unit {0}
IsOfWeaving _ = ⊥

-- the input is valid: none of these holds
pub record IsValid (folder : List ℕ) (files : Files) : Type 0 where
  pub readable : AreReadable folder files
  pub taken : AreTaken (inputs_in folder files)

-- ---- what weaving leaves

-- P holds of the classes and aspects of the input and of written classes, whose files are those written
pub record Wrote (P : List ClassFile → List FirstAspect → List ClassFile → Type 0) (folders : Folders) (before after : Files) : Type 0 where
  pub classes : List ClassFile
  pub aspects : List FirstAspect
  pub written : List ClassFile
  pub reads : Reads (inputs_in folders.input before) classes aspects
  pub files : after ≡ with_outputs folders.output written before
  pub holds : P classes aspects written

-- from every entry method the written classes run as the join point machine does on the input
abbrev pub BehavesAsWritten : Folders → Files → Files → Type 0
BehavesAsWritten = Wrote (λ classes aspects written. Behaves classes (map aspect_of aspects) written)

-- the written files are exactly one for each class and one for each aspect, each spelled as its class
abbrev pub WritesExactly : Folders → Files → Files → Type 0
WritesExactly = Wrote (λ classes aspects written. AreExtended classes (map aspect_of aspects) written)

-- an untouched class is written byte for byte
abbrev pub WritesUntouched : Folders → Files → Files → Type 0
WritesUntouched = Wrote (λ classes aspects written. HoldsUntouched classes (map aspect_of aspects) written)

-- the written classes hold exactly the declared members
abbrev pub WritesDeclared : Folders → Files → Files → Type 0
WritesDeclared = Wrote (λ classes aspects written. HoldsDeclared classes (map aspect_of aspects) written)

-- all of these at once, of the same written classes
abbrev pub WritesWeaving : Folders → Files → Files → Type 0
WritesWeaving = Wrote (λ classes aspects written. IsWeaving classes (map aspect_of aspects) written)

-- Some first files of these were put; of the next one nothing is known, and all other names stay.
pub record PutsSome (outputs before : Files) (after : Option Files) : Type 0 where
  pub count : ℕ
  pub failing : List ℕ × List ℕ
  pub next : slice_get outputs count ≡ Some failing
  pub others : OthersStay failing.0 (Some (put_each before (take count outputs))) after

-- Some first files of a weaving were written, in byte order; the failing one is unknown, all else stays.
pub record WritesSome (folders : Folders) (before : Files) (after : Option Files) : Type 0 where
  pub classes : List ClassFile
  pub aspects : List FirstAspect
  pub written : List ClassFile
  pub reads : Reads (inputs_in folders.input before) classes aspects
  pub weaving : IsWeaving classes (map aspect_of aspects) written
  pub some : PutsSome (outputs_of folders.output written) before after

-- ---- over any shelf

-- P of the command's folders and of the told files
abbrev pub OnTold : Option Folders → Option Files → (Folders → Files → Type 0) → Type 0
OnTold (Some folders) (Some files) P = P folders files
OnTold _ _ P = Unit {0}

-- There is a command, and where the files are told, P holds of its folders and of them.
abbrev pub Commanded : Option Folders → Option Files → (Folders → Files → Type 0) → Type 0
Commanded None held P = ⊥
Commanded (Some folders) None P = Unit {0}
Commanded (Some folders) (Some files) P = P folders files

-- There is a command, and where the files are told before and after, P holds of its folders and of them.
abbrev pub CommandedTo : Option Folders → Option Files → Option Files → (Folders → Files → Files → Type 0) → Type 0
CommandedTo None before after P = ⊥
CommandedTo (Some folders) None after P = after ≡ None
CommandedTo (Some folders) (Some before) None P = ⊥
CommandedTo (Some folders) (Some before) (Some after) P = P folders before after

-- There is a command, and where the files are told, some of its outputs were written.
abbrev pub CommandedSome : Option Folders → Option Files → Option Files → Type 0
CommandedSome None before after = ⊥
CommandedSome (Some folders) None after = after ≡ None
CommandedSome (Some folders) (Some before) after = WritesSome folders before after

-- Only Done, WriteFault and want of memory change what the shelf holds.
abbrev pub KeepsShelf : Status → Option Files → Option Files → Type 0
KeepsShelf status.Done before now = Unit {0}
KeepsShelf status.WriteFault before now = Unit {0}
KeepsShelf status.OutOfMemory before now = Unit {0}
KeepsShelf _ before now = now ≡ before

-- ---- what is printed

-- The text was printed whole and the answer given, or some of it and the answer is another.
abbrev pub PrintsFor : Status → List ℕ → Status → Option (List ℕ) → Option (List ℕ) → Type 0
PrintsFor answer text result before now =
    ((result ≡ answer) × (now ≡ option_map (λ written. written ++ text) before))
    ⊎ (((result ≡ status.PrintFault) ⊎ (result ≡ status.OutOfMemory)) × ((now ≡ before) ⊎ AppendsPrefix text before now))

-- the text that an answer prints, but for those of a run
abbrev pub printed_by : Status → List ℕ
printed_by (status.Refused refusal) = refusal_line refusal
printed_by status.Usage = usage_line
printed_by _ = []

-- The text that is due: the usage line where the words are no command, else the line of a refusal.
abbrev pub IsDue : Option Folders → Option Files → List ℕ → Type 0
IsDue None held text = text ≡ usage_line
IsDue (Some folders) held text =
    (refusal : Refusal) × (text ≡ refusal_line refusal) × IfSome held (λ files. IsRefused folders.input files refusal)

-- nothing was printed, or some first bytes of the text that is due
abbrev pub PrintsPart : Option Folders → Option Files → Option (List ℕ) → Option (List ℕ) → Type 0
PrintsPart command held before now = (now ≡ before) ⊎ ((text : List ℕ) × IsDue command held text × AppendsPrefix text before now)

-- The whole text of the answer was printed; after a failed print and want of memory some of it.
abbrev pub Prints : Status → Option Folders → Option Files → Option (List ℕ) → Option (List ℕ) → Type 0
Prints status.PrintFault command held before now = PrintsPart command held before now
Prints status.OutOfMemory command held before now = PrintsPart command held before now
Prints result command held before now = now ≡ option_map (λ text. text ++ printed_by result) before
