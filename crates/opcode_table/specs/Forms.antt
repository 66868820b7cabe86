-- Which opcodes have a form, by a walk over the whole table.
use Rattle.std.proofs.Common.{◌≡◌, ℕ, ◌<◌, Bool, true, false, eqb, Option, Some, None, refl, ap, sym, ◌∙◌}
use Rattle.std.proofs.lemmas.Bool.{agree_below, agree_below_at, eqb-true, eq-eqb}
use Rattle.opcode_table.specs.declared.form.Form.{Form}
use Rattle.opcode_table.specs.Table.{opcode, form_of}

abbrev form_number : Form → ℕ
form_number Form.Plain = 0
form_number Form.Byte = 1
form_number Form.Short = 2
form_number Form.Local = 3
form_number Form.Increment = 4
form_number Form.NarrowPool = 5
form_number Form.Pool = 6
form_number Form.Interface = 7
form_number Form.ArrayCode = 8
form_number Form.Dimensions = 9
form_number Form.Branch = 10
form_number Form.WideBranch = 11
form_number Form.TableSwitch = 12
form_number Form.LookupSwitch = 13
form_number Form.Wide = 14

abbrev is_form : Form → Option Form → Bool
is_form form None = false
is_form form (Some found) = eqb (form_number form) (form_number found)

only : (form : Form) (k : ℕ) → agree_below (λ op. is_form form (form_of op)) (λ op. eqb op k) 256 ≡ true → (op : ℕ) → op < 256 → form_of op ≡ Some form → op ≡ k
only form k walk op byte is =
    let same = agree_below_at (λ op. is_form form (form_of op)) (λ op. eqb op k) 256 op walk byte in
    let found : is_form form (form_of op) ≡ true = ap (is_form form) is ∙ eq-eqb (form_number form) (form_number form) refl in
    eqb-true op k (sym same ∙ found)

pub bipush_only : (op : ℕ) → op < 256 → form_of op ≡ Some Form.Byte → op ≡ 16
unfolding opcode
bipush_only = only Form.Byte 16 refl

pub sipush_only : (op : ℕ) → op < 256 → form_of op ≡ Some Form.Short → op ≡ 17
unfolding opcode
sipush_only = only Form.Short 17 refl

pub iinc_only : (op : ℕ) → op < 256 → form_of op ≡ Some Form.Increment → op ≡ 132
unfolding opcode
iinc_only = only Form.Increment 132 refl

pub invokeinterface_only : (op : ℕ) → op < 256 → form_of op ≡ Some Form.Interface → op ≡ 185
unfolding opcode
invokeinterface_only = only Form.Interface 185 refl

pub newarray_only : (op : ℕ) → op < 256 → form_of op ≡ Some Form.ArrayCode → op ≡ 188
unfolding opcode
newarray_only = only Form.ArrayCode 188 refl

pub multianewarray_only : (op : ℕ) → op < 256 → form_of op ≡ Some Form.Dimensions → op ≡ 197
unfolding opcode
multianewarray_only = only Form.Dimensions 197 refl

pub wide_only : (op : ℕ) → op < 256 → form_of op ≡ Some Form.Wide → op ≡ 196
unfolding opcode
wide_only = only Form.Wide 196 refl

pub wide_is : form_of 196 ≡ Some Form.Wide
unfolding opcode
wide_is = refl

pub iinc_is : form_of 132 ≡ Some Form.Increment
unfolding opcode
iinc_is = refl
