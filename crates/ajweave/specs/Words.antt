-- The command line.
use Rattle.std.specs.Prelude.{ℕ, ◌==◌, ◌&&◌, not, if◌then◌else◌, Bool, false, List, [], ◌∷◌, ◌++◌, map, codes, Option, Some, None, String}
use Rattle.std.specs.String.{string_bytes}
use Rattle.std.specs.declared.alloc.Global.{Global}
use Rattle.std.specs.Str.{bytes_eq}
use Rattle.std.specs.Fmt.{decimal}
use Rattle.class_format.specs.declared.fault.ClassFault.{ClassFault}
use Rattle.class_format.specs.declared.fault.ClassFault.TheVariants as fault
use Rattle.class_heads.specs.declared.fault.WorldFault.{WorldFault}
use Rattle.class_heads.specs.declared.fault.WorldFault.TheVariants as world_fault
use Rattle.aj_names.specs.Hierarchy.{dotted}
use Rattle.jp_model.specs.Headline.{utf8_of}
use Rattle.ajweave.specs.declared.status.Refusal.{Refusal}
use Rattle.ajweave.specs.declared.status.Refusal.TheVariants as refusal

-- the words, each as the bytes of its text
abbrev pub texts : List (String Global) → List (List ℕ)
texts words = map string_bytes words

-- the folder to read, and the one to write
pub record Folders : Type 0 where
  pub input : List ℕ
  pub output : List ℕ

-- no word is empty or begins with `-`
abbrev pub is_word : List ℕ → Bool
is_word [] = false
is_word (b ∷ text) = not (b == 45)

-- The command `weave IN OUT`. A run has words of its own (`run_lines/specs/CommandWords`).
abbrev pub command_of : List (List ℕ) → Option Folders
command_of (command ∷ input ∷ output ∷ []) =
    if bytes_eq command (codes "weave") && (is_word input && is_word output)
    then Some (record { input = input; output = output }) else None
command_of _ = None

abbrev pub usage_line : List ℕ
usage_line =
    codes "usage: ajweave weave IN OUT | check IN | shadows IN | run IN ENTRY STEPS [SCRIPT] | sample SEED CLASSES" ++ 10 ∷ []

-- ---- the line of a refusal

-- the words of a class file's fault, whose numbers are decimal
abbrev pub fault_words : ClassFault → List ℕ
fault_words fault.Magic = codes "magic"
fault_words (fault.Version major) = codes "version " ++ decimal major
fault_words (fault.Truncated size) = codes "truncated " ++ decimal size
fault_words (fault.Trailing offset) = codes "trailing " ++ decimal offset
fault_words (fault.PoolTag index tag) = codes "pool-tag " ++ (decimal index ++ (codes " " ++ decimal tag))
fault_words (fault.PoolRef index) = codes "pool-ref " ++ decimal index
fault_words (fault.Utf8 index) = codes "utf8 " ++ decimal index
fault_words (fault.AttributeLength offset) = codes "attribute-length " ++ decimal offset
fault_words (fault.Code method pc) = codes "code " ++ (decimal method ++ (codes " " ++ decimal pc))
-- no refusal's
fault_words fault.Memory = codes "memory"

-- what is refused, a class or a file without its folder, and why
abbrev pub refused_name : List ℕ → List ℕ → List ℕ
refused_name name why = name ++ (codes " " ++ why)

-- the name of a class as it is printed: in UTF-8, with dots for `/`
abbrev pub class_text : List ℕ → List ℕ
class_text name = dotted (utf8_of name)

-- the words of a fault of the world of classes
abbrev pub world_words : WorldFault → List ℕ
world_words (world_fault.Duplicate name) = refused_name (class_text name) (codes "duplicate")
world_words (world_fault.Reserved class) = refused_name (class_text class) (codes "reserved")
world_words (world_fault.MissingSuper class name) = refused_name (class_text class) (codes "missing-super " ++ class_text name)
world_words (world_fault.FinalSuper class) = refused_name (class_text class) (codes "final-super")
world_words (world_fault.Circle class) = refused_name (class_text class) (codes "circle")
-- no refusal's
world_words world_fault.Memory = codes "memory"

abbrev pub refusal_words : Refusal → List ℕ
refusal_words refusal.ManyFiles = codes "many-files"
refusal_words (refusal.BigFile name) = refused_name name (codes "big-file")
refusal_words (refusal.Class name why) = refused_name name (fault_words why)
refusal_words (refusal.World why) = world_words why
refusal_words (refusal.NoScript name) = refused_name name (codes "no-script")
refusal_words (refusal.Script name line) = refused_name name (codes "script " ++ decimal line)
refusal_words (refusal.NotBuilt name) = refused_name name (codes "not-built")
refusal_words (refusal.NoEntry word) = refused_name word (codes "no-entry")

abbrev pub refusal_line : Refusal → List ℕ
refusal_line refusal = codes "refused: " ++ (refusal_words refusal ++ 10 ∷ [])
