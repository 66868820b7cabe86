-- Words of a line are shown as they are.
use Rattle.std.proofs.Common.{◌≡◌, ℕ, Bool, true, List, [], ◌∷◌, Some, refl, ap, ◌∙◌, map}
use Rattle.std.specs.Prelude.{if◌then◌else◌}
use Rattle.std.specs.List.{list_all, AllZip}
use Rattle.std.proofs.lemmas.Bool.{and_parts, not-true, false≢true}
use Rattle.class_file.specs.declared.pool.PoolEntry.{PoolEntry}
use Rattle.class_file.specs.Pool.{text_at, class_at}
use Rattle.class_lines.specs.Fields.{is_blank, is_inside}
use Rattle.class_lines.specs.Words.{Text, is_plain, fits}
use Rattle.class_lines.proofs.WordKinds.{Kind, class_kind}
use Rattle.class_lines.proofs.HeadsRead.{fits_plain}
use Rattle.class_lines.proofs.LinesRead.{inside_of}
use Rattle.class_listing.specs.Names.{visible, shown, text_shown, class_shown}

visible_same : (b : ℕ) → is_inside b ≡ true → visible b ≡ b
visible_same b h = ap (λ (t : Bool). if t then 46 else b) (not-true (is_blank b) h)

all_visible : (w : Text) → list_all is_inside w ≡ true → map visible w ≡ w
all_visible [] h = refl
all_visible (b ∷ w) h =
    let p = and_parts (is_inside b) (list_all is_inside w) h in ap (λ (x : ℕ). x ∷ map visible w) (visible_same b p.0) ∙ ap (λ (l : Text). b ∷ l) (all_visible w p.1)

plain_shown : (w : Text) → is_plain w ≡ true → shown (Some w) ≡ w
plain_shown [] h = absurd (false≢true h)
plain_shown (b ∷ w) h = all_visible (b ∷ w) (inside_of (b ∷ w) h)

pub word_shown : (kind : Kind) (w : Text) → fits kind w ≡ true → shown (Some w) ≡ w
word_shown kind w h = plain_shown w (fits_plain kind w h)

pub text_is : (kind : Kind) (pool : List PoolEntry) (index : ℕ) (w : Text) → fits kind w ≡ true → text_at pool index ≡ Some w → text_shown pool index ≡ w
text_is kind pool index w h is = ap shown is ∙ word_shown kind w h

pub class_is : (kind : Kind) (pool : List PoolEntry) (index : ℕ) (w : Text) → fits kind w ≡ true → class_at pool index ≡ Some w → class_shown pool index ≡ w
class_is kind pool index w h is = ap shown is ∙ word_shown kind w h

pub classes_are : (pool : List PoolEntry) (indices : List ℕ) (names : List Text) → list_all (fits class_kind) names ≡ true → AllZip (λ index class. class_at pool index ≡ Some class) indices names → map (class_shown pool) indices ≡ names
classes_are pool [] [] h each = refl
classes_are pool [] (name ∷ names) h each = absurd each
classes_are pool (i ∷ indices) [] h each = absurd each
classes_are pool (i ∷ indices) (name ∷ names) h each =
    let p = and_parts (fits class_kind name) (list_all (fits class_kind) names) h in
    ap (λ (x : Text). x ∷ map (class_shown pool) indices) (class_is class_kind pool i name p.0 each.0) ∙ ap (λ (l : List Text). name ∷ l) (classes_are pool indices names p.1 each.1)
