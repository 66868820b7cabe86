-- The form of an index is that of the text there.
use Rattle.std.proofs.Common.{◌≡◌, ℕ, zero, suc, ◌+◌, List, length, Option, Some, None, Bor, refl, ap, sym, ◌∙◌, arith}
use Rattle.std.specs.Prelude.{map, slice_get, option_and_then, unwrap_or}
use Rattle.std.specs.Option.{option_map, option_copied}
use Rattle.std.specs.List.{ItemBy}
use Rattle.std.proofs.lemmas.Option.{slice_get-map, slice_get_past, slice_get_read}
use Rattle.class_file.specs.declared.pool.PoolEntry.{PoolEntry}
use Rattle.class_file.specs.Pool.{as_text, text_at}
use Rattle.class_rules.specs.declared.forms.TextForm.{TextForm}
use Rattle.class_rules.specs.Forms.{text_form, form_of, form_at}

in_entry : (entry : Option PoolEntry) → unwrap_or (option_map form_of entry) (text_form None) ≡ text_form (option_and_then as_text entry)
in_entry None = refl
in_entry (Some entry) = refl

pub form_there : (pool : List PoolEntry) (index : ℕ) → unwrap_or (form_at (map form_of pool) index) (text_form None) ≡ text_form (text_at pool index)
form_there pool zero = refl
form_there pool (suc place) = ap (λ (form : Option TextForm). unwrap_or form (text_form None)) (slice_get-map form_of pool place) ∙ in_entry (slice_get pool place)

pub form_judged : (pool : List PoolEntry) (index : ℕ) (forms : List TextForm) (form : Option TextForm) → form ≡ form_at forms index → forms ≡ map form_of pool → unwrap_or form (text_form None) ≡ text_form (text_at pool index)
form_judged pool index forms form is judged =
    ap (λ (found : Option TextForm). unwrap_or found (text_form None)) is
    ∙ ap (λ (all : List TextForm). unwrap_or (form_at all index) (text_form None)) judged ∙ form_there pool index

got : (forms : List TextForm) (place : ℕ) (form : Option (Bor TextForm)) → ItemBy (λ (lent : Bor TextForm). lent.now) forms place place form → option_copied form ≡ slice_get forms place
got forms place None there = sym (slice_get_past forms place there.3)
got forms place (Some lent) there = sym (slice_get_read forms (length forms) place lent.now refl there.3.0 there.1)

pub got_at : (forms : List TextForm) (index place : ℕ) (form : Option (Bor TextForm)) → (index ≡ 0 → ⊥) → place + 1 ≡ index → ItemBy (λ (lent : Bor TextForm). lent.now) forms place place form → option_copied form ≡ form_at forms index
got_at forms zero place form some is there = absurd (some refl)
got_at forms (suc n) place form some is there = let same : place ≡ n = omega arith in got forms place form there ∙ ap (slice_get forms) same
