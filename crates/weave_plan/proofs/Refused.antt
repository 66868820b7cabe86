-- The first file that isn't built, and what all files say where each is built.
use Rattle.std.proofs.Common.{◌≡◌, ◌≢◌, ℕ, zero, suc, ◌+◌, ◌<◌, Bool, true, false, cond, ◌||◌, not, List, [], ◌∷◌, ◌++◌, length, take, map, Option, Some, None, refl, sym, ap, ap₂, subst, ◌∙◌, arith, inl, inr, append_assoc, length-append}
use Rattle.std.specs.Prelude.{codes, slice_get, IsTrue, nat_le}
use Rattle.std.specs.List.{AllZip, AllByRecursion}
use Rattle.std.specs.Option.{option_to_list}
use Rattle.std.specs.Str.{bytes_eq}
use Rattle.std.proofs.Math.Logic.{⊎_elim}
use Rattle.std.proofs.Math.Seq.{take-append_seam}
use Rattle.std.proofs.lemmas.Bool.{and_parts, or_cases, or_left, or_right, cases_lt, true≢false}
use Rattle.std.proofs.lemmas.List.Folds.{list_any-append}
use Rattle.std.proofs.lemmas.Option.{slice_get_within}
use Rattle.std.proofs.lemmas.Slice.Eq.{bytes_eq-Decides}
use Rattle.aj_outside.specs.Files.{Files}
use Rattle.boot_library.specs.Heads.{library_heads}
use Rattle.class_file.specs.declared.types.ClassFile.{ClassFile}
use Rattle.class_file.specs.Pool.{this_name}
use Rattle.class_file.specs.Sound.{is_some_that}
use Rattle.class_file.specs.FirstForm.{is_first_form}
use Rattle.jp_model.specs.declared.first_aspect.FirstAspect.{FirstAspect}
use Rattle.jp_model.specs.AspectText.{is_first_aspect, aspect_of}
use Rattle.jp_model.specs.Input.{is_class_file, is_other_file, has_aspects, has_built_form, SpellsClass, Reads, HasClassNamed, IsBuiltClass, IsBuiltAspect, IsBuiltAt, AllBuilt, IsFirstNotBuilt}
use Rattle.jp_model.specs.Headline.{AreApart, IsWeaving}
use Rattle.weave_plan.specs.declared.parsing.Parsed.{Parsed}
use Rattle.weave_plan.specs.declared.parsing.Parsed.TheVariants.{Class, Aspect, Other}
use Rattle.weave_plan.specs.Faults.{AreSound, AreTaken}
use Rattle.weave_plan.specs.Parsed.{IsParsed, is_class_named, has_class_named, is_aspect, has_aspect, has_form, is_hidden, is_built, first_refused, classes_in, aspects_in, last_of}
use Rattle.weave_plan.specs.Fit.{Fit, IsWoven}
use Rattle.weave_plan.specs.Plan.{IsPlan}
use Rattle.weave_plan.specs.Worlds as world
use Rattle.weave_plan.proofs.SoundNames.{sound-apart}
use Rattle.weave_plan.proofs.Lists.{slice_get_behind, zip_more}
use Rattle.weave_plan.proofs.Cases.{match_true, match_false, of_true, of_false, or_false, not_only, not_not, cond_none, some_same, some_of, class_of, aspect_in, other_in}
use Rattle.weave_plan.proofs.SoundClasses.{classes_formed, sound_free}

abbrev File : Type 0
File = List ℕ × List ℕ

-- ---- classes with a name

later : (f : File) (files : Files) (name : List ℕ) → HasClassNamed files name → HasClassNamed (f ∷ files) name
later f files name h =
    record { place = suc h.place; file = h.file; stands = h.stands; kind = h.kind; class = h.class; spelled = h.spelled; named = h.named }

here : (f : File) (files : Files) (p : Parsed) (name : List ℕ) → IsParsed f p → is_class_named name p ≡ true → HasClassNamed (f ∷ files) name
here f files (Class c n) name q h =
    let own = some_of (λ found. bytes_eq found name) (this_name c) h in
    let kind = class_of f c n q in
    record {
      place = zero;
      file = f;
      stands = refl;
      kind = kind.0;
      class = c;
      spelled = kind.1.spelled;
      named = own.1 ∙ ap (λ n. Some n) ((bytes_eq-Decides own.0 name).0 own.2);
    }
here f files (Aspect a) name q h = absurd cc
here f files Other name q h = absurd cc

named_found : (files : Files) (ps : List Parsed) (name : List ℕ) → AllZip IsParsed files ps → has_class_named ps name ≡ true → HasClassNamed files name
named_found [] [] name z h = absurd cc
named_found [] (p ∷ ps) name z h = absurd z
named_found (f ∷ files) [] name z h = absurd z
named_found (f ∷ files) (p ∷ ps) name z h =
    ⊎_elim (λ e. here f files p name z.0 e) (λ e. later f files name (named_found files ps name z.1 e))
    (or_cases (is_class_named name p) (has_class_named ps name) h)

is_here : (file : File) (p : Parsed) (name : List ℕ) (c : ClassFile) → IsParsed file p → is_class_file file.0 ≡ true → SpellsClass file.1 c → this_name c ≡ Some name → is_class_named name p ≡ true
is_here file (Class d n) name c q k s own =
    let same : c ≡ d = (class_of file d n q).1.only c s in
    let named : this_name d ≡ Some name = ap this_name (sym same) ∙ own in
    ap (is_some_that (λ found. bytes_eq found name)) named ∙ (bytes_eq-Decides name name).1 refl
is_here file (Aspect a) name c q k s own = absurd (true≢false (sym k ∙ (aspect_in file a q).0))
is_here file Other name c q k s own = absurd (true≢false (sym k ∙ (other_in file q).0))

found_named : (files : Files) (ps : List Parsed) (name : List ℕ) (place : ℕ) (file : File) (c : ClassFile) → AllZip IsParsed files ps → slice_get files place ≡ Some file → is_class_file file.0 ≡ true → SpellsClass file.1 c → this_name c ≡ Some name → has_class_named ps name ≡ true
found_named [] ps name place file c z e k s n = absurd cc
found_named (f ∷ files) [] name place file c z e k s n = absurd z
found_named (f ∷ files) (p ∷ ps) name zero file c z e k s n =
    let q = subst (λ (x : File). IsParsed x p) (some_same f file e) z.0 in
    or_left (is_class_named name p) (has_class_named ps name) (is_here file p name c q k s n)
found_named (f ∷ files) (p ∷ ps) name (suc place) file c z e k s n =
    or_right (is_class_named name p) (has_class_named ps name) (found_named files ps name place file c z.1 e k s n)

unnamed : (files : Files) (ps : List Parsed) (name : List ℕ) → AllZip IsParsed files ps → has_class_named ps name ≡ false → ¬ (HasClassNamed files name)
unnamed files ps name z e h = true≢false (sym (found_named files ps name h.place h.file h.class z h.stands h.kind h.spelled h.named) ∙ e)

-- ---- files of aspects

kind_here : (f : File) (p : Parsed) → IsParsed f p → is_other_file f.0 ≡ is_aspect p
kind_here f (Class c n) q = ap not (class_of f c n q).0
kind_here f (Aspect a) q = ap not (aspect_in f a q).0
kind_here f Other q = ap not (other_in f q).0

kinds : (files : Files) (ps : List Parsed) → AllZip IsParsed files ps → has_aspects files ≡ has_aspect ps
kinds [] [] z = refl
kinds [] (p ∷ ps) z = absurd z
kinds (f ∷ files) [] z = absurd z
kinds (f ∷ files) (p ∷ ps) z = ap₂ (λ (x y : Bool). x || y) (kind_here f p z.0) (kinds files ps z.1)

-- ---- whether a file is built

module _ (files : Files) (all : List Parsed) (z : AllZip IsParsed files all) where
  -- the files before a place
  record Behind (place : ℕ) (before : Files) (parsed : List Parsed) : Type 0 where
    taken : take place files ≡ before
    zipped : AllZip IsParsed before parsed

  -- whether a test tells that the file is built
  record Tells (place : ℕ) (f : File) (b : Bool) : Type 0 where
    built : b ≡ true → IsBuiltAt files place f
    refused : b ≡ false → ¬ (IsBuiltAt files place f)

  form_same : (bytes : List ℕ) (c : ClassFile) (n : ℕ) → n ≡ length bytes → has_built_form (has_aspects files) bytes c ≡ has_form (has_aspect all) c n
  form_same bytes c n e = ap (λ (b : Bool). has_form b c (length bytes)) (kinds files all z) ∙ ap (has_form (has_aspect all) c) (sym e)

  class_tells : (place : ℕ) (parsed : List Parsed) (f : File) (c : ClassFile) (n : ℕ) → IsParsed f (Class c n) → Tells place f (is_built all parsed (Class c n))
  class_tells place parsed f c n q =
      let one = class_of f c n q in
      let form = form_same f.1 c n one.1.counted in
      record {
        built = λ e.
            match_true (IsBuiltClass files f.1) (IsBuiltAspect files place f.1) (is_class_file f.0) one.0
            (record { class = c; spelled = one.1.spelled; form = form ∙ e });
        refused = λ e built.
            let d = of_true (IsBuiltClass files f.1) (IsBuiltAspect files place f.1) (is_class_file f.0) one.0 built in
            let same : d.class ≡ c = one.1.only d.class d.spelled in
            true≢false (sym d.form ∙ ap (has_built_form (has_aspects files) f.1) same ∙ form ∙ e);
      }

  aspect_tells : (place : ℕ) (before : Files) (parsed : List Parsed) (f : File) (a : FirstAspect) → Behind place before parsed → IsParsed f (Aspect a) → Tells place f (is_built all parsed (Aspect a))
  aspect_tells place before parsed f a b q =
      let one = aspect_in f a q in
      let behind : has_aspects (take place files) ≡ has_aspect parsed = ap has_aspects b.taken ∙ kinds before parsed b.zipped in
      record {
        built = λ e.
            let both = or_false (has_aspect parsed) (is_hidden all a) (not_only (has_aspect parsed || is_hidden all a) e) in
            let names = or_false (has_class_named all a.name) (has_class_named all (codes "System")) both.1 in
            match_false (IsBuiltClass files f.1) (IsBuiltAspect files place f.1) (is_class_file f.0) one.0
            (record { aspect = a; spelled = one.1.spelled; first = behind ∙ both.0; own_name = unnamed files all a.name z names.0; system = unnamed files all (codes "System") z names.1 });
        refused = λ e built.
            let d = of_false (IsBuiltClass files f.1) (IsBuiltAspect files place f.1) (is_class_file f.0) one.0 built in
            let same : d.aspect ≡ a = one.1.only d.aspect d.spelled in
            ⊎_elim
            (λ h. true≢false (sym h ∙ sym behind ∙ d.first))
            (λ h. ⊎_elim
            (λ n. d.own_name (subst (λ (x : FirstAspect). HasClassNamed files x.name) (sym same) (named_found files all a.name z n)))
            (λ n. d.system (named_found files all (codes "System") z n))
            (or_cases (has_class_named all a.name) (has_class_named all (codes "System")) h))
            (or_cases (has_aspect parsed) (is_hidden all a) (not_not (has_aspect parsed || is_hidden all a) e));
      }

  other_tells : (place : ℕ) (f : File) → IsParsed f Other → Tells place f false
  other_tells place f q =
      let one = other_in f q in
      record {
        built = λ e. absurd (true≢false (sym e));
        refused = λ e built.
            let d = of_false (IsBuiltClass files f.1) (IsBuiltAspect files place f.1) (is_class_file f.0) one.0 built in
            one.1 d.aspect d.spelled;
      }

  tells : (place : ℕ) (before : Files) (parsed : List Parsed) (f : File) (p : Parsed) → Behind place before parsed → IsParsed f p → Tells place f (is_built all parsed p)
  tells place before parsed f (Class c n) b q = class_tells place parsed f c n q
  tells place before parsed f (Aspect a) b q = aspect_tells place before parsed f a b q
  tells place before parsed f Other b q = other_tells place f q

  -- ---- the first file that isn't built

  abbrev BuiltUpTo : ℕ → Type 0
  BuiltUpTo place = (before : ℕ) (other : File) → before < place → slice_get files before ≡ Some other → IsBuiltAt files before other

  abbrev IsAnswer : Option ℕ → Type 0
  IsAnswer None = AllBuilt files
  IsAnswer (Some place) = (file : File) × IsFirstNotBuilt files place file

  built_more : (place : ℕ) (f : File) → BuiltUpTo place → slice_get files place ≡ Some f → IsBuiltAt files place f → BuiltUpTo (place + 1)
  built_more place f h s b before other lt e = elim (cases_lt before place) [
    | inl l ↦ h before other l e
    | inr l ↦
        let same : before ≡ place = omega arith in
        let g : slice_get files place ≡ Some other = ap (slice_get files) (sym same) ∙ e in
        let eq : f ≡ other = some_same f other (sym s ∙ g) in
        subst (λ (k : ℕ). IsBuiltAt files k other) (sym same) (subst (λ (x : File). IsBuiltAt files place x) eq b)
  ]

  answered : (place : ℕ) (before : Files) (parsed : List Parsed) (fs : Files) (ps : List Parsed) → files ≡ before ++ fs → place ≡ length before → AllZip IsParsed before parsed → AllZip IsParsed fs ps → BuiltUpTo place → IsAnswer (first_refused all parsed place ps)
  answered place before parsed [] [] whole count y x h = λ k other e.
      let within : k < length files = slice_get_within files k other e in
      let long : length files ≡ length (before ++ []) = ap length whole in
      h k other (omega (arith, length-append before [])) e
  answered place before parsed [] (p ∷ ps) whole count y x h = absurd x
  answered place before parsed (f ∷ fs) [] whole count y x h = absurd x
  answered place before parsed (f ∷ fs) (p ∷ ps) whole count y x h =
      by (is_built all parsed p) refl (tells place before parsed f p (record { taken = taken; zipped = y }) x.0)
      (λ b. answered (place + 1) (before ++ f ∷ []) (parsed ++ p ∷ []) fs ps
      (whole ∙ sym (append_assoc before (f ∷ []) fs)) (omega (arith, length-append before (f ∷ []), count)) (zip_more IsParsed before parsed f p y x.0) x.1
      (built_more place f h stands b))
    where
      taken : take place files ≡ before
      taken = ap (take place) whole ∙ ap (λ (k : ℕ). take k (before ++ f ∷ fs)) count ∙ take-append_seam before (f ∷ fs)

      stands : slice_get files place ≡ Some f
      stands = ap (λ (xs : Files). slice_get xs place) whole ∙ ap (slice_get (before ++ f ∷ fs)) count ∙ slice_get_behind before fs f

      by : (b : Bool) → is_built all parsed p ≡ b → Tells place f (is_built all parsed p) → (IsBuiltAt files place f → IsAnswer (first_refused all (parsed ++ p ∷ []) (place + 1) ps)) → IsAnswer (cond b (first_refused all (parsed ++ p ∷ []) (place + 1) ps) (Some place))
      by true e t later = later (t.built e)
      by false e t later = (f, record { stands = stands; refused = t.refused e; earlier = h })

  pub answer : IsAnswer (first_refused all [] 0 all)
  answer = answered 0 [] [] files all refl refl tt z (λ before other lt e. absurd (omega arith))

  pub all_built : first_refused all [] 0 all ≡ None → AllBuilt files
  all_built e = subst IsAnswer e answer

  pub not_built : (place : ℕ) → first_refused all [] 0 all ≡ Some place → (file : File) × IsFirstNotBuilt files place file
  not_built place e = subst IsAnswer e answer

-- ---- what the files say

module _ (all : List Parsed) where
  -- each of these files is built
  abbrev Passes : List Parsed → ℕ → List Parsed → Type 0
  Passes before place ps = first_refused all before place ps ≡ None

  passes_on : (before : List Parsed) (place : ℕ) (p : Parsed) (ps : List Parsed) → Passes before place (p ∷ ps) → (is_built all before p ≡ true) × Passes (before ++ p ∷ []) (place + 1) ps
  passes_on before place p ps e = cond_none (is_built all before p) place (first_refused all (before ++ p ∷ []) (place + 1) ps) e

  reads : (before : List Parsed) (place : ℕ) (fs : Files) (ps : List Parsed) → AllZip IsParsed fs ps → Passes before place ps → Reads fs (classes_in ps) (aspects_in ps)
  reads before place [] [] z e = (refl, refl)
  reads before place [] (p ∷ ps) z e = absurd z
  reads before place (f ∷ fs) [] z e = absurd z
  reads before place (f ∷ fs) (Other ∷ ps) z e = absurd cc
  reads before place (f ∷ fs) (Class c n ∷ ps) z e =
      let one = class_of f c n z.0 in
      match_true _ _ (is_class_file f.0) one.0 (c, classes_in ps, refl, one.1.spelled, reads (before ++ Class c n ∷ []) (place + 1) fs ps z.1 (passes_on before place (Class c n) ps e).1)
  reads before place (f ∷ fs) (Aspect a ∷ ps) z e =
      let one = aspect_in f a z.0 in
      match_false _ _ (is_class_file f.0) one.0 (a, aspects_in ps, refl, one.1.spelled, reads (before ++ Aspect a ∷ []) (place + 1) fs ps z.1 (passes_on before place (Aspect a) ps e).1)

  -- ---- at most one aspect

  unbehind : (before : List Parsed) (place : ℕ) (a : FirstAspect) (ps : List Parsed) → Passes before place (Aspect a ∷ ps) → (has_aspect before ≡ false) × (is_hidden all a ≡ false)
  unbehind before place a ps e = or_false (has_aspect before) (is_hidden all a) (not_only (has_aspect before || is_hidden all a) (passes_on before place (Aspect a) ps e).0)

  behind_more : (before : List Parsed) (p : Parsed) → has_aspect before ≡ true → has_aspect (before ++ p ∷ []) ≡ true
  behind_more before p e = list_any-append is_aspect before (p ∷ []) ∙ ap (λ (x : Bool). x || (is_aspect p || false)) e

  behind_this : (before : List Parsed) (a : FirstAspect) → has_aspect (before ++ Aspect a ∷ []) ≡ true
  behind_this before a = list_any-append is_aspect before (Aspect a ∷ []) ∙ or_true (has_aspect before)
    where
      or_true : (x : Bool) → (x || true) ≡ true
      or_true true = refl
      or_true false = refl

  no_aspects : (before : List Parsed) (place : ℕ) (ps : List Parsed) → has_aspect before ≡ true → Passes before place ps → aspects_in ps ≡ []
  no_aspects before place [] b e = refl
  no_aspects before place (Class c n ∷ ps) b e = no_aspects (before ++ Class c n ∷ []) (place + 1) ps (behind_more before (Class c n) b) (passes_on before place (Class c n) ps e).1
  no_aspects before place (Aspect a ∷ ps) b e = absurd (true≢false (sym b ∙ (unbehind before place a ps e).0))
  no_aspects before place (Other ∷ ps) b e = absurd cc

  one_aspect : (before : List Parsed) (place : ℕ) (ps : List Parsed) → Passes before place ps → aspects_in ps ≡ option_to_list (last_of None (aspects_in ps))
  one_aspect before place [] e = refl
  one_aspect before place (Class c n ∷ ps) e = one_aspect (before ++ Class c n ∷ []) (place + 1) ps (passes_on before place (Class c n) ps e).1
  one_aspect before place (Aspect a ∷ ps) e =
      subst (λ (xs : List FirstAspect). a ∷ xs ≡ option_to_list (last_of (Some a) xs))
      (sym (no_aspects (before ++ Aspect a ∷ []) (place + 1) ps (behind_this before a) (passes_on before place (Aspect a) ps e).1)) refl
  one_aspect before place (Other ∷ ps) e = absurd cc

  unhidden : (before : List Parsed) (place : ℕ) (ps : List Parsed) → Passes before place ps → AllByRecursion (λ (a : FirstAspect). is_hidden all a ≡ false) (aspects_in ps)
  unhidden before place [] e = tt
  unhidden before place (Class c n ∷ ps) e = unhidden (before ++ Class c n ∷ []) (place + 1) ps (passes_on before place (Class c n) ps e).1
  unhidden before place (Aspect a ∷ ps) e = ((unbehind before place a ps e).1, unhidden (before ++ Aspect a ∷ []) (place + 1) ps (passes_on before place (Aspect a) ps e).1)
  unhidden before place (Other ∷ ps) e = absurd cc

  -- there is an aspect's file where there is an aspect
  beside_some : (ps : List Parsed) (a : FirstAspect) (rest : List FirstAspect) → aspects_in ps ≡ a ∷ rest → has_aspect ps ≡ true
  beside_some [] a rest n = absurd cc
  beside_some (Class c k ∷ ps) a rest n = beside_some ps a rest n
  beside_some (Aspect b ∷ ps) a rest n = refl
  beside_some (Other ∷ ps) a rest n = refl

  -- ---- the forms of the classes

  class_forms : (before : List Parsed) (place : ℕ) (fs : Files) (ps : List Parsed) → AllZip IsParsed fs ps → has_aspect all ≡ true → Passes before place ps → AllByRecursion (λ (c : ClassFile). IsTrue (is_first_form c)) (classes_in ps)
  class_forms before place [] [] z b e = tt
  class_forms before place [] (p ∷ ps) z b e = absurd z
  class_forms before place (f ∷ fs) [] z b e = absurd z
  class_forms before place (f ∷ fs) (Class c n ∷ ps) z b e =
      let h = passes_on before place (Class c n) ps e in
      let first : has_form true c n ≡ true = ap (λ (x : Bool). has_form x c n) (sym b) ∙ h.0 in
      ((and_parts (is_first_form c) (nat_le n 65536) first).0, class_forms (before ++ Class c n ∷ []) (place + 1) fs ps z.1 b h.1)
  class_forms before place (f ∷ fs) (Aspect a ∷ ps) z b e = class_forms (before ++ Aspect a ∷ []) (place + 1) fs ps z.1 b (passes_on before place (Aspect a) ps e).1
  class_forms before place (f ∷ fs) (Other ∷ ps) z b e = absurd cc

aspect_forms : (fs : Files) (ps : List Parsed) → AllZip IsParsed fs ps → AllByRecursion (λ (a : FirstAspect). IsTrue (is_first_aspect a)) (aspects_in ps)
aspect_forms [] [] z = tt
aspect_forms [] (p ∷ ps) z = absurd z
aspect_forms (f ∷ fs) [] z = absurd z
aspect_forms (f ∷ fs) (Class c n ∷ ps) z = aspect_forms fs ps z.1
aspect_forms (f ∷ fs) (Aspect a ∷ ps) z = ((aspect_in f a z.0).1.spelled.formed, aspect_forms fs ps z.1)
aspect_forms (f ∷ fs) (Other ∷ ps) z = aspect_forms fs ps z.1

other_name : (name : List ℕ) (c : ClassFile) (n : ℕ) → is_class_named name (Class c n) ≡ false → this_name c ≢ Some name
other_name name c n e own =
    true≢false (sym (ap (is_some_that (λ found. bytes_eq found name)) own ∙ (bytes_eq-Decides name name).1 refl) ∙ e)

other_names : (name : List ℕ) (ps : List Parsed) → has_class_named ps name ≡ false → AllByRecursion (λ y. y ≢ Some name) (map this_name (classes_in ps))
other_names name [] e = tt
other_names name (Class c n ∷ ps) e =
    let both = or_false (is_class_named name (Class c n)) (has_class_named ps name) e in
    (other_name name c n both.0, other_names name ps both.1)
other_names name (Aspect a ∷ ps) e = other_names name ps e
other_names name (Other ∷ ps) e = other_names name ps e

-- ---- what is woven

each_more : {X : Type 0} (P : X → Type 0) (xs : List X) (y : X) → AllByRecursion P xs → P y → AllByRecursion P (xs ++ y ∷ [])
each_more P [] y h p = (p, tt)
each_more P (x ∷ xs) y h p = (h.0, each_more P xs y h.1 p)

apart_more : {X : Type 0} (xs : List X) (y : X) → AreApart xs → AllByRecursion (λ x. x ≢ y) xs → AreApart (xs ++ y ∷ [])
apart_more [] y h n = (tt, tt)
apart_more (x ∷ xs) y h n = (each_more (λ z. x ≢ z) xs y h.0 n.0, apart_more xs y h.1 n.1)

-- files that were read, of sound classes, and are all built
record AreBuilt (files : Files) (all : List Parsed) : Type 0 where
  parsed : AllZip IsParsed files all
  sound : world.AreSound (classes_in all)
  passes : first_refused all [] 0 all ≡ None

fits : (files : Files) (all : List Parsed) (aspect : Option FirstAspect) → AreBuilt files all → aspects_in all ≡ option_to_list aspect → Fit (classes_in all) aspect
fits files all None h e = sound_free (classes_in all) (classes_formed files all h.parsed) h.sound
fits files all (Some a) h e =
    let forms = subst (AllByRecursion (λ (x : FirstAspect). IsTrue (is_first_aspect x))) e (aspect_forms files all h.parsed) in
    let hidden = subst (AllByRecursion (λ (x : FirstAspect). is_hidden all x ≡ false)) e (unhidden all [] 0 all h.passes) in
    let own = (or_false (has_class_named all a.name) (has_class_named all (codes "System")) hidden.0).0 in
    record {
      forms = class_forms all [] 0 files all h.parsed (beside_some all all a [] e) h.passes;
      aspect = forms.0;
      names = apart_more (map this_name (classes_in all)) (Some a.name) (sound-apart (classes_in all) library_heads false h.sound) (other_names a.name all own);
    }

-- the classes and the aspect of files that are all built
pub fit_of : (files : Files) (all : List Parsed) (given classes : List ClassFile) (aspect : Option FirstAspect) → AllZip IsParsed files all → first_refused all [] 0 all ≡ None → given ≡ classes_in all → aspect ≡ last_of None (aspects_in all) → classes ≡ given → world.AreSound given → Fit classes aspect
fit_of files all given classes aspect z e c a same sound =
    subst (λ (cs : List ClassFile). Fit cs aspect) (sym (same ∙ c))
    (fits files all aspect (record { parsed = z; sound = subst world.AreSound c sound; passes = e }) (one_aspect all [] 0 all e ∙ ap option_to_list (sym a)))

-- the outputs are planned where they are the files of a weaving of the classes and the aspect
pub planned_of : (files : Files) (all : List Parsed) (folder : List ℕ) (outputs : Files) (classes : List ClassFile) (aspect : Option FirstAspect) → AllZip IsParsed files all → first_refused all [] 0 all ≡ None → classes ≡ classes_in all → aspect ≡ last_of None (aspects_in all) → IsWoven classes aspect folder outputs → IsPlan files folder outputs
planned_of files all folder outputs classes aspect z e c a w =
    record {
      classes = classes_in all;
      aspects = aspects_in all;
      written = w.written;
      reads = reads all [] 0 files all z e;
      weaving =
          subst (λ (cs : List ClassFile). IsWeaving cs (map aspect_of (aspects_in all)) w.written) c
          (subst (λ (xs : List FirstAspect). IsWeaving classes (map aspect_of xs) w.written) (sym (one_aspect all [] 0 all e ∙ ap option_to_list (sym a))) w.weaving);
      files = w.files;
    }

pub taken_of : (files : Files) (all : List Parsed) → AllZip IsParsed files all → AreSound files → first_refused all [] 0 all ≡ None → AreTaken files
taken_of files all z s e = record { sound = s; built = all_built files all z e }
