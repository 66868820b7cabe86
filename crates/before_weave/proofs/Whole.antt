-- What weaving gives, in the words of the headline.
use Rattle.std.proofs.Common.{◌≡◌, true, List, [], ◌∷◌, ◌++◌, map, IsTrue, Some, refl, sym, ap, subst, ◌∙◌}
use Rattle.std.specs.List.{AllZip, AllByRecursion}
use Rattle.std.proofs.lemmas.List.{map-append}
use Rattle.class_file.specs.declared.types.ClassFile.{ClassFile}
use Rattle.class_file.specs.Pool.{this_name}
use Rattle.class_file.specs.Spelling.{spelling}
use Rattle.class_file.specs.WellFormed.{is_well_formed}
use Rattle.class_file.specs.FirstForm.{is_first_form}
use Rattle.jp_model.specs.declared.first_aspect.FirstAspect.{FirstAspect}
use Rattle.jp_model.specs.AspectText.{is_first_aspect, aspect_of}
use Rattle.jp_model.specs.Headline.{AreApart, KeepsUntouched, KeepsDeclared, IsWritten, IsWeaving}
use Rattle.woven_calls.specs.Woven.{IsWovenOrKept, Woven as IsWoven, Kept as IsKept, aspect_class}
use Rattle.woven_calls.specs.Laws.{woven_behaves}
use Rattle.before_weave.specs.Weaving.{IsClassWeaving, Woven, Kept}
use Rattle.before_weave.proofs.Forms.{first_parts}
use Rattle.before_weave.proofs.Walks.{each_more}
use Rattle.before_weave.proofs.Untouched.{touched}
use Rattle.before_weave.proofs.Declared.{same_name, keeps_woven, keeps_same}
use Rattle.before_weave.proofs.Writable.{aspect_is_class}
use Rattle.before_weave.proofs.Formed.{woven_formed, aspect_formed}

-- ---- a class

module _ (a : FirstAspect) (first : is_first_aspect a ≡ true) (c w : ClassFile) (form : is_first_form c ≡ true) where
  woven_or_kept : IsClassWeaving a c w → IsWovenOrKept a c w
  woven_or_kept (Woven calls made) = IsWoven made
  woven_or_kept (Kept same none) = IsKept same none

  keeps_untouched : IsClassWeaving a c w → KeepsUntouched (aspect_of a ∷ []) c w
  keeps_untouched (Woven calls made) untouched = absurd (touched a c form untouched calls)
  keeps_untouched (Kept same none) untouched = ap spelling same

  keeps_declared : IsClassWeaving a c w → KeepsDeclared c w
  keeps_declared (Woven calls made) = subst (λ (k : ClassFile). KeepsDeclared c k) (sym made.after) (keeps_woven a c made.methods form made.each)
  keeps_declared (Kept same none) = subst (λ (k : ClassFile). KeepsDeclared c k) (sym same) (keeps_same a c form)

  keeps_name : IsClassWeaving a c w → this_name w ≡ this_name c
  keeps_name (Woven calls made) = ap this_name made.after ∙ same_name a c made.methods form
  keeps_name (Kept same none) = ap this_name same

  is_written : IsClassWeaving a c w → IsWritten w
  is_written (Woven calls made) = ap is_well_formed made.after ∙ woven_formed a c made.methods form first made.each
  is_written (Kept same none) = ap is_well_formed same ∙ (first_parts c form).formed

-- ---- all classes

-- What holds of each class that a class is woven into holds of all.
each_woven : (a : FirstAspect) (S : ClassFile → ClassFile → Type 0) → ((c w : ClassFile) → is_first_form c ≡ true → IsClassWeaving a c w → S c w)
    → (classes woven : List ClassFile) → AllByRecursion (λ c. IsTrue (is_first_form c)) classes → AllZip (IsClassWeaving a) classes woven → AllZip S classes woven
each_woven a S one [] [] form all = tt
each_woven a S one [] (w ∷ woven) form all = absurd all
each_woven a S one (c ∷ classes) [] form all = absurd all
each_woven a S one (c ∷ classes) (w ∷ woven) form all = (one c w form.0 all.0, each_woven a S one classes woven form.1 all.1)

second_of_each : (P : ClassFile → Type 0) (classes woven : List ClassFile) → AllZip (λ c w. P w) classes woven → AllByRecursion P woven
second_of_each P [] [] all = tt
second_of_each P [] (w ∷ woven) all = absurd all
second_of_each P (c ∷ classes) [] all = absurd all
second_of_each P (c ∷ classes) (w ∷ woven) all = (all.0, second_of_each P classes woven all.1)

same_names : (classes woven : List ClassFile) → AllZip (λ c w. this_name w ≡ this_name c) classes woven → map this_name woven ≡ map this_name classes
same_names [] [] all = refl
same_names [] (w ∷ woven) all = absurd all
same_names (c ∷ classes) [] all = absurd all
same_names (c ∷ classes) (w ∷ woven) all = ap (λ name. name ∷ map this_name woven) all.0 ∙ ap (λ names. this_name c ∷ names) (same_names classes woven all.1)

-- The woven classes and the aspect's class are a weaving.
pub all_woven : (a : FirstAspect) (classes woven : List ClassFile) (made : ClassFile) → AllByRecursion (λ c. IsTrue (is_first_form c)) classes → is_first_aspect a ≡ true
    → AreApart (map this_name classes ++ Some a.name ∷ []) → AllZip (IsClassWeaving a) classes woven → made ≡ aspect_class a → IsWeaving classes (aspect_of a ∷ []) (woven ++ made ∷ [])
all_woven a classes woven made form first apart all is =
    subst (λ (made : ClassFile). IsWeaving classes (aspect_of a ∷ []) (woven ++ made ∷ [])) (sym is) (record {
      formed = each_more IsWritten woven (aspect_class a)
          (second_of_each IsWritten classes woven (each_woven a (λ c w. IsWritten w) (is_written a first) classes woven form all)) (aspect_formed a first);
      extended = map-append this_name woven (aspect_class a ∷ [])
          ∙ ap (λ names. names ++ Some a.name ∷ []) (same_names classes woven (each_woven a (λ c w. this_name w ≡ this_name c) (keeps_name a first) classes woven form all));
      behaves = woven_behaves classes woven a form first apart (each_woven a (IsWovenOrKept a) (woven_or_kept a first) classes woven form all);
      untouched = record {
        woven = woven;
        made = aspect_class a ∷ [];
        parts = refl;
        kept = each_woven a (KeepsUntouched (aspect_of a ∷ [])) (keeps_untouched a first) classes woven form all;
      };
      declared = record {
        woven = woven;
        made = aspect_class a ∷ [];
        parts = refl;
        members = each_woven a KeepsDeclared (keeps_declared a first) classes woven form all;
        generated = (aspect_is_class a, tt);
      };
    })
