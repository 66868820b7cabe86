-- What the texts of a constant pool may serve as.
use Rattle.std.specs.Prelude.{◌≡◌, ℕ, zero, suc, List, Option, None, is_some, map, slice_get}
use Rattle.class_file.specs.declared.pool.PoolEntry.{PoolEntry}
use Rattle.class_file.specs.Pool.{as_text}
use Rattle.class_file.specs.Sound.{is_some_that}
use Rattle.class_file.specs.Text as form
use Rattle.class_rules.specs.declared.forms.TextForm.{TextForm}
use Rattle.class_rules.specs.declared.forms.TextForms.{TextForms}

-- what a text may serve as; where there is none, nothing
abbrev pub text_form : Option (List ℕ) → TextForm
text_form text = record {
  text = is_some text;
  class_name = is_some_that form.is_class_name text;
  internal_name = is_some_that form.is_internal_name text;
  member_name = is_some_that form.is_member_name text;
  field_descriptor = is_some_that form.is_field_descriptor text;
  method_descriptor = is_some_that (form.is_method_descriptor_with 0) text;
  instance_descriptor = is_some_that (form.is_method_descriptor_with 1) text;
}

-- what an entry may serve as: nothing, where it is no text
abbrev pub form_of : PoolEntry → TextForm
form_of entry = text_form (as_text entry)

-- the form at an index
abbrev pub form_at : List TextForm → ℕ → Option TextForm
form_at forms zero = None
form_at forms (suc place) = slice_get forms place

-- the forms are those of the pool's entries, in order
abbrev pub Judges : TextForms → List PoolEntry → Type 0
Judges f pool = f.forms.items ≡ map form_of pool
