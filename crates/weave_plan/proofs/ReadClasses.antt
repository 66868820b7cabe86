-- The classes of the files up to a place.
use Rattle.std.proofs.Common.{◌≡◌, ℕ, ◌+◌, ◌<◌, List, [], ◌∷◌, ◌++◌, length, take, get_or, Option, Some, None, Result, Err, sym, ap₂, subst, ◌∙◌, append-nil}
use Rattle.std.specs.Prelude.{IfErr, IsTrue}
use Rattle.std.specs.List.{AllByRecursion, cons_option, find}
use Rattle.std.proofs.lemmas.List.Elements.{filter_map-append}
use Rattle.aj_outside.specs.Files.{Files}
use Rattle.class_file.specs.declared.types.ClassFile.{ClassFile}
use Rattle.class_file.specs.WellFormed.{is_well_formed}
use Rattle.weave_plan.specs.declared.class_files.ReadFault.{ReadFault}
use Rattle.weave_plan.specs.declared.class_files.ReadFault.TheVariants as read_fault
use Rattle.weave_plan.specs.declared.planning.NamedFile.{NamedFile}
use Rattle.weave_plan.specs.declared.planning.PlanFault.TheVariants as plan_fault
use Rattle.weave_plan.specs.Faults.{is_faulty, AreUnread, IsReadOf, IsUnreadAt}
use Rattle.weave_plan.specs.Plan.{files_of}
use Rattle.weave_plan.specs.Worlds.{class_in, classes_of}
use Rattle.weave_plan.proofs.Lists.{find_none_more}
use Rattle.weave_plan.proofs.Read.{record_of, named, refused_at}

abbrev AreFormed : List ClassFile → Type 0
AreFormed classes = AllByRecursion (λ c. IsTrue (is_well_formed c)) classes

-- the classes of these files, each of which was read without a fault
pub record AreClassesOf (files : Files) (classes : List ClassFile) : Type 0 where
  pub said : classes ≡ classes_of files
  pub formed : AllByRecursion (λ c. IsTrue (is_well_formed c)) classes
  pub read : find is_faulty files ≡ None

formed_more : (classes : List ClassFile) (c : ClassFile) → AreFormed classes → IsTrue (is_well_formed c) → AreFormed (classes ++ c ∷ [])
formed_more [] c all one = (one, tt)
formed_more (d ∷ classes) c all one = (all.0, formed_more classes c all.1 one)

said_more : (files : Files) (file : List ℕ × List ℕ) (classes : List ClassFile) (found : Option ClassFile) → AreClassesOf files classes → IsReadOf file found → classes_of (files ++ file ∷ []) ≡ classes ++ cons_option found []
said_more files file classes found r one =
    filter_map-append class_in files (file ∷ []) ∙ ap₂ (λ (x : List ClassFile) (o : Option ClassFile). x ++ cons_option o []) (sym r.said) (sym one.class)

read_none : (files : Files) (file : List ℕ × List ℕ) (found : Option ClassFile) → find is_faulty files ≡ None → IsReadOf file found → find is_faulty (files ++ file ∷ []) ≡ None
read_none files file found none one = find_none_more is_faulty files file none one.sound

-- one more file is read, which says this class
pub class_read : (files : List NamedFile) (classes new : List ClassFile) (i : ℕ) (file : NamedFile) (found : Option ClassFile) (c : ClassFile) → i < length files → file ≡ get_or files i file → AreClassesOf (files_of (take i files)) classes → IsReadOf (record_of file) found → found ≡ Some c → new ≡ classes ++ c ∷ [] → AreClassesOf (files_of (take (i + 1) files)) new
class_read files classes new i file found c lt e r one is grown =
    let this = subst (IsReadOf (record_of file)) is one in
    subst (λ (x : Files). AreClassesOf x new) (sym (named files i file lt e))
    (record {
      said = grown ∙ sym (said_more (files_of (take i files)) (record_of file) classes (Some c) r this);
      formed = subst AreFormed (sym grown) (formed_more classes c r.formed this.formed);
      read = read_none (files_of (take i files)) (record_of file) found r.read one;
    })

-- one more file is read, which says none
pub none_read : (files : List NamedFile) (classes new : List ClassFile) (i : ℕ) (file : NamedFile) (found : Option ClassFile) → i < length files → file ≡ get_or files i file → AreClassesOf (files_of (take i files)) classes → IsReadOf (record_of file) found → found ≡ None → new ≡ classes → AreClassesOf (files_of (take (i + 1) files)) new
none_read files classes new i file found lt e r one is same =
    let this = subst (IsReadOf (record_of file)) is one in
    subst (λ (x : Files). AreClassesOf x new) (sym (named files i file lt e))
    (record {
      said = same ∙ sym (said_more (files_of (take i files)) (record_of file) classes None r this ∙ append-nil classes);
      formed = subst AreFormed (sym same) r.formed;
      read = read_none (files_of (take i files)) (record_of file) found r.read one;
    })

-- the file at a place is the first that is none
pub first_unread : (files : List NamedFile) (i : ℕ) (file : NamedFile) (fault : ReadFault) → i < length files → file ≡ get_or files i file → find is_faulty (files_of (take i files)) ≡ None → IsUnreadAt i (record_of file) fault → AreUnread (files_of files) fault
first_unread files i file (read_fault.Class at fault) lt e none h = refused_at files i file (plan_fault.Class at fault) lt e none h
first_unread files i file read_fault.Memory lt e none h = tt

-- what holds of a fault that is passed on
pub unread_of : {T : Type 0} (P : ReadFault → Type 0) (r : Result T ReadFault) (e fault : ReadFault) → r ≡ Err e → e ≡ fault → P fault → IfErr r P
unread_of {T} P r e fault was same h = subst (λ (x : Result T ReadFault). IfErr x P) (sym was) (subst P (sym same) h)
