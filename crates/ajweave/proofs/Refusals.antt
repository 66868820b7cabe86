-- There is one refusal of an input, and none of a valid one.
use Rattle.std.proofs.Common.{◌≡◌, ℕ, ◌<◌, ◌≤◌, ◌⊎◌, inl, inr, List, [], ◌∷◌, ◌++◌, Option, Some, None, Result, Err, refl, ap, sym, ◌∙◌, arith, slice_get}
use Rattle.std.proofs.lemmas.Bool.{cases_order}
use Rattle.std.proofs.lemmas.List.{append_cancel_left, append_assoc}
use Rattle.std.proofs.lemmas.Option.{none-some, same_Some}
use Rattle.aj_outside.specs.Files.{Files}
use Rattle.class_file.specs.declared.types.ClassFile.{ClassFile}
use Rattle.class_format.specs.declared.fault.ClassFault.{ClassFault}
use Rattle.class_format.specs.Reading.{reading}
use Rattle.class_heads.specs.declared.fault.WorldFault.{WorldFault}
use Rattle.jp_model.specs.Input.{IsNotBuilt, inputs_in}
use Rattle.weave_plan.specs.Faults.{IsFirstFault}
use Rattle.weave_plan.specs.Worlds.{classes_of}
use Rattle.ajweave.specs.declared.status.Refusal.{Refusal}
use Rattle.ajweave.specs.declared.status.Refusal.TheVariants.{ManyFiles, BigFile, NoScript, Script, Class, World, NotBuilt, NoEntry}
use Rattle.ajweave.specs.Answers.{most_names, in_folder, IsRefused, IsValid}
use Rattle.ajweave.proofs.Worlds.{first_fault-same, sound-never_faulty}

abbrev File : Type 0
File = List ℕ × List ℕ

same_tail : (x : ℕ) (a b : List ℕ) → ◌≡◌ {A = List ℕ} (x ∷ a) (x ∷ b) → a ≡ b
same_tail x a b h = cc

-- a name in a folder has one rest
pub in_folder-same : (folder a b : List ℕ) → in_folder folder a ≡ in_folder folder b → a ≡ b
in_folder-same folder a b h = same_tail 47 a b (append_cancel_left folder (47 ∷ a) (47 ∷ b) h)

-- a name that goes on from the folder's is a name in the folder
pub in_folder-joined : (folder rest name : List ℕ) → name ≡ folder ++ 47 ∷ [] ++ rest → name ≡ in_folder folder rest
in_folder-joined folder rest name h = h ∙ append_assoc folder (47 ∷ []) rest

abbrev some_file : List ℕ → List ℕ → Option File
some_file name bytes = Some (name, bytes)

same_name : (a b : List ℕ) (x y : List ℕ) → some_file a x ≡ some_file b y → a ≡ b
same_name a b x y h = ap (λ (f : File). f.0) (same_Some (a, x) (b, y) h)

same_bytes : (a b : List ℕ) (x y : List ℕ) → some_file a x ≡ some_file b y → x ≡ y
same_bytes a b x y h = ap (λ (f : File). f.1) (same_Some (a, x) (b, y) h)

same_err : (f g : ClassFault) → ◌≡◌ {A = Result ClassFile ClassFault} (Err f) (Err g) → f ≡ g
same_err f g h = cc

no_file : (o : Option File) (f : File) → o ≡ None → o ≡ Some f → ⊥
no_file o f e h = none-some f (sym e ∙ h)

over : (n : ℕ) → n ≤ most_names → most_names < n → ⊥
over n few many = omega arith

not_built-same : (files : Files) (a b : List ℕ) → IsNotBuilt files a → IsNotBuilt files b → a ≡ b
not_built-same files a b g h = by (cases_order g.place h.place)
  where
    by : (g.place ≡ h.place) ⊎ ((g.place < h.place) ⊎ (h.place < g.place)) → a ≡ b
    by (inr (inl less)) = absurd (g.first.refused (h.first.earlier g.place (a, g.bytes) less g.first.stands))
    by (inl same) = same_name a b g.bytes h.bytes (sym g.first.stands ∙ ap (slice_get files) same ∙ h.first.stands)
    by (inr (inr less)) = absurd (h.first.refused (g.first.earlier h.place (b, h.bytes) less h.first.stands))

abbrev a_class : List ℕ → ClassFault → Refusal
a_class name fault = Class name fault

class-same : (folder : List ℕ) (inputs : Files) (a b : List ℕ) (f g : ClassFault) → IsFirstFault inputs (in_folder folder a) f → IsFirstFault inputs (in_folder folder b) g → a_class a f ≡ a_class b g
class-same folder inputs a b f g x y =
    let found = sym x.first ∙ y.first in
    let names = in_folder-same folder a b (same_name (in_folder folder a) (in_folder folder b) x.bytes y.bytes found) in
    let faults = same_err f g (sym x.read ∙ ap reading (same_bytes (in_folder folder a) (in_folder folder b) x.bytes y.bytes found) ∙ y.read) in
    ap (λ (n : List ℕ). a_class n f) names ∙ ap (a_class b) faults

-- the refusal is one
pub IsRefused-same : (folder : List ℕ) (files : Files) (a b : Refusal) → IsRefused folder files a → IsRefused folder files b → a ≡ b
IsRefused-same folder files ManyFiles ManyFiles g h = refl
IsRefused-same folder files ManyFiles (BigFile b) g h = absurd (over _ h.0 g)
IsRefused-same folder files ManyFiles (Class b f) g h = absurd (over _ h.0.few g)
IsRefused-same folder files ManyFiles (World f) g h = absurd (over _ h.0.few g)
IsRefused-same folder files ManyFiles (NotBuilt b) g h = absurd (over _ h.0.few g)
IsRefused-same folder files ManyFiles (NoScript b) g h = absurd h
IsRefused-same folder files ManyFiles (Script b line) g h = absurd h
IsRefused-same folder files ManyFiles (NoEntry b) g h = absurd h
IsRefused-same folder files (BigFile a) ManyFiles g h = absurd (over _ g.0 h)
IsRefused-same folder files (BigFile a) (BigFile b) g h =
    ap (λ (n : List ℕ). BigFile n) (in_folder-same folder a b (same_name (in_folder folder a) (in_folder folder b) g.1.bytes h.1.bytes (sym g.1.found ∙ h.1.found)))
IsRefused-same folder files (BigFile a) (Class b f) g h = absurd (no_file _ _ h.0.small g.1.found)
IsRefused-same folder files (BigFile a) (World f) g h = absurd (no_file _ _ h.0.small g.1.found)
IsRefused-same folder files (BigFile a) (NotBuilt b) g h = absurd (no_file _ _ h.0.small g.1.found)
IsRefused-same folder files (BigFile a) (NoScript b) g h = absurd h
IsRefused-same folder files (BigFile a) (Script b line) g h = absurd h
IsRefused-same folder files (BigFile a) (NoEntry b) g h = absurd h
IsRefused-same folder files (Class a e) ManyFiles g h = absurd (over _ g.0.few h)
IsRefused-same folder files (Class a e) (BigFile b) g h = absurd (no_file _ _ g.0.small h.1.found)
IsRefused-same folder files (Class a e) (Class b f) g h = class-same folder (inputs_in folder files) a b e f g.1 h.1
IsRefused-same folder files (Class a e) (World f) g h = absurd (no_file _ _ h.1.read g.1.first)
IsRefused-same folder files (Class a e) (NotBuilt b) g h = absurd (no_file _ _ h.1.sound.read g.1.first)
IsRefused-same folder files (Class a e) (NoScript b) g h = absurd h
IsRefused-same folder files (Class a e) (Script b line) g h = absurd h
IsRefused-same folder files (Class a e) (NoEntry b) g h = absurd h
IsRefused-same folder files (World e) ManyFiles g h = absurd (over _ g.0.few h)
IsRefused-same folder files (World e) (BigFile b) g h = absurd (no_file _ _ g.0.small h.1.found)
IsRefused-same folder files (World e) (Class b f) g h = absurd (no_file _ _ g.1.read h.1.first)
IsRefused-same folder files (World e) (World f) g h = ap (λ (w : WorldFault). World w) (first_fault-same (classes_of (inputs_in folder files)) e f g.1.first h.1.first)
IsRefused-same folder files (World e) (NotBuilt b) g h = absurd (sound-never_faulty (classes_of (inputs_in folder files)) e h.1.sound.world g.1.first)
IsRefused-same folder files (World e) (NoScript b) g h = absurd h
IsRefused-same folder files (World e) (Script b line) g h = absurd h
IsRefused-same folder files (World e) (NoEntry b) g h = absurd h
IsRefused-same folder files (NotBuilt a) ManyFiles g h = absurd (over _ g.0.few h)
IsRefused-same folder files (NotBuilt a) (BigFile b) g h = absurd (no_file _ _ g.0.small h.1.found)
IsRefused-same folder files (NotBuilt a) (Class b f) g h = absurd (no_file _ _ g.1.sound.read h.1.first)
IsRefused-same folder files (NotBuilt a) (World f) g h = absurd (sound-never_faulty (classes_of (inputs_in folder files)) f g.1.sound.world h.1.first)
IsRefused-same folder files (NotBuilt a) (NotBuilt b) g h =
    ap (λ (n : List ℕ). NotBuilt n) (in_folder-same folder a b (not_built-same (inputs_in folder files) (in_folder folder a) (in_folder folder b) g.1.first h.1.first))
IsRefused-same folder files (NotBuilt a) (NoScript b) g h = absurd h
IsRefused-same folder files (NotBuilt a) (Script b line) g h = absurd h
IsRefused-same folder files (NotBuilt a) (NoEntry b) g h = absurd h
IsRefused-same folder files (NoScript a) b g h = absurd g
IsRefused-same folder files (Script a line) b g h = absurd g
IsRefused-same folder files (NoEntry a) b g h = absurd g

-- a valid input is not refused
pub IsValid-never_refused : (folder : List ℕ) (files : Files) (refusal : Refusal) → IsValid folder files → IsRefused folder files refusal → ⊥
IsValid-never_refused folder files ManyFiles v h = over _ v.readable.few h
IsValid-never_refused folder files (BigFile name) v h = no_file _ _ v.readable.small h.1.found
IsValid-never_refused folder files (Class name fault) v h = no_file _ _ v.taken.sound.read h.1.first
IsValid-never_refused folder files (World fault) v h = sound-never_faulty (classes_of (inputs_in folder files)) fault v.taken.sound.world h.1.first
IsValid-never_refused folder files (NotBuilt name) v h =
    h.1.first.first.refused (v.taken.built h.1.first.place (in_folder folder name, h.1.first.bytes) h.1.first.first.stands)
IsValid-never_refused folder files (NoScript name) v h = h
IsValid-never_refused folder files (Script name line) v h = h
IsValid-never_refused folder files (NoEntry word) v h = h
