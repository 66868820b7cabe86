-- The world of the classes that were read.
use Rattle.std.proofs.Common.{◌≡◌, ℕ, Bool, true, false, ◌&&◌, not, List, [], ◌∷◌, Option, Some, None, Ok, refl, sym, ap, subst, ◌∙◌}
use Rattle.std.specs.Prelude.{IsTrue, if◌then◌else◌}
use Rattle.std.specs.List.{AllByRecursion, AllZip, find, cons_option}
use Rattle.std.specs.Result.{result_ok}
use Rattle.std.proofs.lemmas.Bool.{and_from}
use Rattle.aj_outside.specs.Files.{Files}
use Rattle.boot_library.specs.Heads.{library_heads}
use Rattle.class_file.specs.declared.types.ClassFile.{ClassFile}
use Rattle.class_file.specs.WellFormed.{is_well_formed}
use Rattle.class_format.specs.Reading.{reading}
use Rattle.class_heads.specs.Reserved.{is_reserved}
use Rattle.jp_model.specs.Headline.{IsWritten}
use Rattle.jp_model.specs.Input.{is_class_file}
use Rattle.weave_plan.specs.declared.parsing.Parsed.{Parsed}
use Rattle.weave_plan.specs.declared.parsing.Parsed.TheVariants.{Class, Aspect, Other}
use Rattle.weave_plan.specs.declared.planning.PlanFault.{PlanFault}
use Rattle.weave_plan.specs.declared.planning.PlanFault.TheVariants as plan_fault
use Rattle.weave_plan.specs.Faults.{is_faulty, AreSound, AreRefused}
use Rattle.weave_plan.specs.Parsed.{IsParsed, IsFormed, classes_in}
use Rattle.weave_plan.specs.Worlds as world
use Rattle.weave_plan.proofs.SoundNames.{sound-unreserved}
use Rattle.weave_plan.proofs.Cases.{class_of, aspect_in, other_in, formed_one}

-- ---- the classes

formed_in : (ps : List Parsed) → AllByRecursion IsFormed ps → AllByRecursion IsWritten (classes_in ps)
formed_in [] h = tt
formed_in (Class c n ∷ ps) h = (h.0, formed_in ps h.1)
formed_in (Aspect a ∷ ps) h = formed_in ps h.1
formed_in (Other ∷ ps) h = formed_in ps h.1

-- what was read is well-formed
pub all_formed : (files : Files) (ps : List Parsed) → AllZip IsParsed files ps → AllByRecursion IsFormed ps
all_formed [] [] z = tt
all_formed [] (p ∷ ps) z = absurd z
all_formed (f ∷ files) [] z = absurd z
all_formed (f ∷ files) (p ∷ ps) z = (formed_one f p z.0, all_formed files ps z.1)

pub classes_formed : (files : Files) (ps : List Parsed) → AllZip IsParsed files ps → AllByRecursion IsWritten (classes_in ps)
classes_formed files ps z = formed_in ps (all_formed files ps z)

class_here : (file : List ℕ × List ℕ) (c : ClassFile) → is_class_file file.0 ≡ true → reading file.1 ≡ Ok c → world.class_in file ≡ Some c
class_here file c k r = ap (λ (b : Bool). if b then result_ok (reading file.1) else None) k ∙ ap result_ok r

none_here : (file : List ℕ × List ℕ) → is_class_file file.0 ≡ false → world.class_in file ≡ None
none_here file k = ap (λ (b : Bool). if b then result_ok (reading file.1) else None) k

-- the classes that the files say are those that were read
pub classes_same : (files : Files) (ps : List Parsed) → AllZip IsParsed files ps → world.classes_of files ≡ classes_in ps
classes_same [] [] z = refl
classes_same [] (p ∷ ps) z = absurd z
classes_same (f ∷ files) [] z = absurd z
classes_same (f ∷ files) (Class c n ∷ ps) z =
    let one = class_of f c n z.0 in
    ap (λ (o : Option ClassFile). cons_option o (world.classes_of files)) (class_here f c one.0 one.1.read) ∙ ap (λ (cs : List ClassFile). c ∷ cs) (classes_same files ps z.1)
classes_same (f ∷ files) (Aspect a ∷ ps) z =
    ap (λ (o : Option ClassFile). cons_option o (world.classes_of files)) (none_here f (aspect_in f a z.0).0) ∙ classes_same files ps z.1
classes_same (f ∷ files) (Other ∷ ps) z =
    ap (λ (o : Option ClassFile). cons_option o (world.classes_of files)) (none_here f (other_in f z.0).0) ∙ classes_same files ps z.1

-- ---- sound classes

each_free : (classes : List ClassFile) → AllByRecursion IsWritten classes → AllByRecursion (λ c. is_reserved c ≡ false) classes → AllByRecursion (λ c. IsTrue (is_well_formed c && not (is_reserved c))) classes
each_free [] f h = tt
each_free (c ∷ classes) f h = (and_from (is_well_formed c) (not (is_reserved c)) f.0 (ap not h.0), each_free classes f.1 h.1)

pub sound_free : (classes : List ClassFile) → AllByRecursion IsWritten classes → world.AreSound classes → AllByRecursion (λ c. IsTrue (is_well_formed c && not (is_reserved c))) classes
sound_free classes f h = each_free classes f (sound-unreserved classes library_heads false h refl)

-- ---- the files

module _ (files : Files) (ps : List Parsed) (z : AllZip IsParsed files ps) (read : find is_faulty files ≡ None) (classes : List ClassFile) (same : classes ≡ classes_in ps) where
  said : world.classes_of files ≡ classes
  said = classes_same files ps z ∙ sym same

  -- the files are those of sound classes
  pub sound_files : world.AreSound classes → AreSound files
  sound_files h = record { read = read; world = subst world.AreSound (sym said) h }

  -- a fault of the classes is one of the files
  pub refused_world : (fault : PlanFault) → world.IsFaultOf classes fault → AreRefused files fault
  refused_world (plan_fault.Class place fault) h = absurd h
  refused_world (plan_fault.World fault) h = record { read = read; first = subst (λ (cs : List ClassFile). world.IsFirstFault cs fault) (sym said) h }
  refused_world (plan_fault.NotBuilt place) h = absurd h
  refused_world plan_fault.Memory h = tt
