-- What the files are, up to a place.
use Rattle.std.proofs.Common.{◌≡◌, ℕ, ◌+◌, ◌<◌, Bool, true, false, ◌&&◌, List, [], ◌∷◌, ◌++◌, length, take, drop, get_or, Option, Some, None, Result, Err, refl, sym, ap, subst, ◌∙◌, arith, append-nil}
use Rattle.std.specs.Prelude.{slice_get, MatchBool, IfErr}
use Rattle.std.specs.List.{AllZip, find}
use Rattle.std.specs.Result.{is_err}
use Rattle.std.proofs.lemmas.List.{take_more, map-append, length-take, length-map}
use Rattle.aj_outside.specs.Files.{Files}
use Rattle.class_file.specs.declared.types.ClassFile.{ClassFile}
use Rattle.jp_model.specs.declared.first_aspect.FirstAspect.{FirstAspect}
use Rattle.class_format.specs.Reading.{reading}
use Rattle.jp_model.specs.Input.{is_class_file}
use Rattle.weave_plan.specs.declared.planning.NamedFile.{NamedFile}
use Rattle.weave_plan.specs.declared.parsing.Parsed.{Parsed}
use Rattle.weave_plan.specs.declared.parsing.Parsed.TheVariants.{Class, Aspect, Other}
use Rattle.weave_plan.specs.declared.planning.PlanFault.{PlanFault}
use Rattle.weave_plan.specs.declared.planning.PlanFault.TheVariants as plan_fault
use Rattle.weave_plan.specs.Parsed.{IsParsed, IsFaultOf, classes_in, aspects_in, last_of}
use Rattle.weave_plan.specs.Faults.{is_faulty, AreRefused}
use Rattle.weave_plan.specs.Plan.{files_of}
use Rattle.weave_plan.proofs.Lists.{zip_more, slice_get_behind, find_behind, find_none_more, split_at}

abbrev File : Type 0
File = List ℕ × List ℕ

abbrev pub record_of : NamedFile → List ℕ × List ℕ
record_of f = (f.name, f.bytes.items)

-- the files up to a place, which were read without a fault
pub record AreRead (files : Files) (all : List Parsed) : Type 0 where
  pub parsed : AllZip IsParsed files all
  pub read : find is_faulty files ≡ None

pub named : (files : List NamedFile) (i : ℕ) (file : NamedFile) → i < length files → file ≡ get_or files i file → files_of (take (i + 1) files) ≡ files_of (take i files) ++ record_of file ∷ []
named files i file lt e =
    ap files_of (take_more files i file lt ∙ ap (λ (x : NamedFile). take i files ++ x ∷ []) (sym e)) ∙ map-append record_of (take i files) (file ∷ [])

sound_file : (file : File) (one : Parsed) → IsParsed file one → is_faulty file ≡ false
sound_file file one h = by (is_class_file file.0) one h
  where
    by : (b : Bool) (one : Parsed) → MatchBool b (Rattle.weave_plan.specs.Parsed.IsParsedClass file.1 one) (Rattle.weave_plan.specs.Parsed.IsParsedAspect file.1 one) → (b && is_err (reading file.1)) ≡ false
    by true (Class c count) h = ap is_err h.read
    by true (Aspect a) h = absurd h
    by true Other h = absurd h
    by false one h = refl

-- one more file is read
pub read_more : (files : List NamedFile) (all : List Parsed) (i : ℕ) (file : NamedFile) (one : Parsed) → i < length files → file ≡ get_or files i file → AreRead (files_of (take i files)) all → IsParsed (record_of file) one → AreRead (files_of (take (i + 1) files)) (all ++ one ∷ [])
read_more files all i file one lt e r p =
    subst (λ (x : Files). AreRead x (all ++ one ∷ [])) (sym (named files i file lt e))
    (record {
      parsed = zip_more IsParsed (files_of (take i files)) all (record_of file) one r.parsed p;
      read = find_none_more is_faulty (files_of (take i files)) (record_of file) r.read (sound_file (record_of file) one p);
    })

-- the file at a place is the first that is refused
pub refused_at : (files : List NamedFile) (i : ℕ) (file : NamedFile) (fault : PlanFault) → i < length files → file ≡ get_or files i file → find is_faulty (files_of (take i files)) ≡ None → IsFaultOf i (record_of file) fault → AreRefused (files_of files) fault
refused_at files i file (plan_fault.Class at fault) lt e none h =
    let whole : files_of files ≡ files_of (take i files) ++ record_of file ∷ files_of (drop (i + 1) files) =
    ap files_of (split_at files i file lt e) ∙ map-append record_of (take i files) (file ∷ drop (i + 1) files) in
    let long : length (files_of (take i files)) ≡ at = (let l : length (files_of (take i files)) ≡ length (take i files) = length-map (take i files) record_of in omega (arith, l, length-take i files, h.0)) in
    let stands : slice_get (files_of files) at ≡ Some (record_of file) =
    ap (λ (x : Files). slice_get x at) whole ∙ ap (slice_get (files_of (take i files) ++ record_of file ∷ files_of (drop (i + 1) files))) (sym long) ∙ slice_get_behind (files_of (take i files)) (files_of (drop (i + 1) files)) (record_of file) in
    let faulty : is_faulty (record_of file) ≡ true = ap (λ (b : Bool). b && is_err (reading file.bytes.items)) h.1 ∙ ap is_err h.2 in (
      record_of file,
      stands,
      record {
        bytes = file.bytes.items;
        first = ap (find is_faulty) whole ∙ find_behind is_faulty (files_of (take i files)) (files_of (drop (i + 1) files)) (record_of file) none faulty;
        read = h.2;
      },
    )
refused_at files i file (plan_fault.World fault) lt e none h = absurd h
refused_at files i file (plan_fault.NotBuilt at) lt e none h = absurd h
refused_at files i file plan_fault.Memory lt e none h = tt

-- what holds of a fault that is passed on
pub err_of : {T : Type 0} (P : PlanFault → Type 0) (r : Result T PlanFault) (e fault : PlanFault) → r ≡ Err e → e ≡ fault → P fault → IfErr r P
err_of {T} P r e fault was same h = subst (λ (x : Result T PlanFault). IfErr x P) (sym was) (subst P (sym same) h)

-- ---- the classes and the last aspect

last_more : {X : Type 0} (found : Option X) (xs : List X) (x : X) → last_of found (xs ++ x ∷ []) ≡ Some x
last_more found [] x = refl
last_more found (y ∷ xs) x = last_more (Some y) xs x

classes_append : (xs ys : List Parsed) → classes_in (xs ++ ys) ≡ classes_in xs ++ classes_in ys
classes_append [] ys = refl
classes_append (Class c n ∷ xs) ys = ap (λ t. c ∷ t) (classes_append xs ys)
classes_append (Aspect a ∷ xs) ys = classes_append xs ys
classes_append (Other ∷ xs) ys = classes_append xs ys

aspects_append : (xs ys : List Parsed) → aspects_in (xs ++ ys) ≡ aspects_in xs ++ aspects_in ys
aspects_append [] ys = refl
aspects_append (Class c n ∷ xs) ys = aspects_append xs ys
aspects_append (Aspect a ∷ xs) ys = ap (λ t. a ∷ t) (aspects_append xs ys)
aspects_append (Other ∷ xs) ys = aspects_append xs ys

-- the classes and the last aspect of these files
abbrev pub AreParts : List ClassFile → Option FirstAspect → List Parsed → Type 0
AreParts classes aspect files = (classes ≡ classes_in files) × (aspect ≡ last_of None (aspects_in files))

pub class_more : (files : List Parsed) (file : Parsed) (c : ClassFile) (n : ℕ) (classes new : List ClassFile) (aspect : Option FirstAspect) → file ≡ Class c n → AreParts classes aspect files → new ≡ classes ++ c ∷ [] → AreParts new aspect (files ++ file ∷ [])
class_more files file c n classes new aspect is h e =
    subst (λ (f : Parsed). AreParts new aspect (files ++ f ∷ [])) (sym is) (
      e ∙ ap (λ (cs : List ClassFile). cs ++ c ∷ []) h.0 ∙ sym (classes_append files (Class c n ∷ [])),
      h.1 ∙ ap (last_of None) (sym (aspects_append files (Class c n ∷ []) ∙ append-nil (aspects_in files))),
    )

pub aspect_more : (files : List Parsed) (file : Parsed) (a : FirstAspect) (classes : List ClassFile) (aspect : Option FirstAspect) → file ≡ Aspect a → AreParts classes aspect files → AreParts classes (Some a) (files ++ file ∷ [])
aspect_more files file a classes aspect is h =
    subst (λ (f : Parsed). AreParts classes (Some a) (files ++ f ∷ [])) (sym is) (
      h.0 ∙ sym (classes_append files (Aspect a ∷ []) ∙ append-nil (classes_in files)),
      sym (ap (last_of None) (aspects_append files (Aspect a ∷ [])) ∙ last_more None (aspects_in files) a),
    )

pub other_more : (files : List Parsed) (file : Parsed) (classes : List ClassFile) (aspect : Option FirstAspect) → file ≡ Other → AreParts classes aspect files → AreParts classes aspect (files ++ file ∷ [])
other_more files file classes aspect is h =
    subst (λ (f : Parsed). AreParts classes aspect (files ++ f ∷ [])) (sym is) (
      h.0 ∙ sym (classes_append files (Other ∷ []) ∙ append-nil (classes_in files)),
      h.1 ∙ ap (last_of None) (sym (aspects_append files (Other ∷ []) ∙ append-nil (aspects_in files))),
    )
