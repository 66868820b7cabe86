-- Reading the parameters one after the other, as a loop does.
use Rattle.std.proofs.Common.{◌≡◌, ◌≢◌, ℕ, zero, suc, ◌+◌, ◌<◌, ◌^◌, ◌-◌, min, List, [], ◌∷◌, ◌++◌, length, Ok, Err, refl, sym, ap, ◌∙◌, append_assoc, arith}
use Rattle.std.proofs.lemmas.List.{append-nil}
use Rattle.std.proofs.lemmas.Bool.{ne_eqb}
use Rattle.std.proofs.lemmas.List.Sums.{sum_by_push}
use Rattle.aj_names.specs.declared.types.FieldType.{FieldType}
use Rattle.aj_names.specs.Descriptors.{field_slots, params_slots}
use Rattle.aj_names.specs.Reading.{◌>>=◌, field_at, params_at, counted}
use Rattle.aj_names.proofs.Readers.{Read, read}
use Rattle.aj_names.proofs.Methods.{params_step, behind_param, field_rest}

-- the parameters behind those that were read before
abbrev pub behind_params : List FieldType → Read (List FieldType) → Read (List FieldType)
behind_params front read = read >>= λ x. Ok (front ++ x.0, x.1)

-- so many parameters are read, and the steps that are left are enough for the rest
pub record ParamsRead (params : List FieldType) (rest bytes : List ℕ) : Type 0 where
  pub steps : ℕ
  pub enough : length rest < steps
  pub so_far : behind_params params (params_at steps rest) ≡ params_at (length bytes + 1) bytes

pub no_params : (bytes : List ℕ) → ParamsRead [] bytes bytes
no_params bytes = record { steps = length bytes + 1; enough = omega arith; so_far = same (params_at (length bytes + 1) bytes) }
  where
    same : (r : Read (List FieldType)) → behind_params [] r ≡ r
    same (Ok x) = refl
    same (Err left) = refl

at_param : (b : ℕ) (rs : List ℕ) (params : List FieldType) (bytes : List ℕ) (s : ℕ) → b ≢ 41 → behind_params params (params_at (suc s) (b ∷ rs)) ≡ params_at (length bytes + 1) bytes
    → behind_params params (field_at (b ∷ rs) >>= λ t. behind_param t.0 (params_at s t.1)) ≡ params_at (length bytes + 1) bytes
at_param b rs params bytes s ne e = ap (behind_params params) (sym (params_step s b rs (ne_eqb b 41 ne))) ∙ e

pub one_more : (params : List FieldType) (rest bytes : List ℕ) (b : ℕ) (rs : List ℕ) (t : FieldType) (after : List ℕ) → ParamsRead params rest bytes → rest ≡ b ∷ rs → b ≢ 41 → field_at rest ≡ Ok (t, after) → ParamsRead (params ++ t ∷ []) after bytes
one_more params rest bytes b rs t after p is ne e = by p.steps p.enough p.so_far
  where
    regroup : (r : Read (List FieldType)) → behind_params (params ++ t ∷ []) r ≡ behind_params params (behind_param t r)
    regroup (Ok x) = ap (λ (ts : List FieldType). read ts x.1) (append_assoc params (t ∷ []) x.0)
    regroup (Err left) = refl

    by : (steps : ℕ) → length rest < steps → behind_params params (params_at steps rest) ≡ params_at (length bytes + 1) bytes → ParamsRead (params ++ t ∷ []) after bytes
    by zero lt so_far = absurd (omega arith)
    by (suc s) lt so_far =
        let h = at_param b rs params bytes s ne (ap (λ (x : List ℕ). behind_params params (params_at (suc s) x)) (sym is) ∙ so_far) in
        let f : field_at (b ∷ rs) ≡ Ok (t, after) = ap field_at (sym is) ∙ e in
        record {
          steps = s;
          enough = omega (arith, field_rest rest t after e);
          so_far = regroup (params_at s after) ∙ ap (λ (r : Read FieldType). behind_params params (r >>= λ t. behind_param t.0 (params_at s t.1))) (sym f) ∙ h;
        }

pub param_stops : (params : List FieldType) (rest bytes : List ℕ) (b : ℕ) (rs : List ℕ) (left : ℕ) → ParamsRead params rest bytes → rest ≡ b ∷ rs → b ≢ 41 → field_at rest ≡ Err left → params_at (length bytes + 1) bytes ≡ Err left
param_stops params rest bytes b rs left p is ne e = by p.steps p.enough p.so_far
  where
    by : (steps : ℕ) → length rest < steps → behind_params params (params_at steps rest) ≡ params_at (length bytes + 1) bytes → params_at (length bytes + 1) bytes ≡ Err left
    by zero lt so_far = absurd (omega arith)
    by (suc s) lt so_far =
        let h = at_param b rs params bytes s ne (ap (λ (x : List ℕ). behind_params params (params_at (suc s) x)) (sym is) ∙ so_far) in
        let f : field_at (b ∷ rs) ≡ Err left = ap field_at (sym is) ∙ e in
        sym h ∙ ap (λ (r : Read FieldType). behind_params params (r >>= λ t. behind_param t.0 (params_at s t.1))) f

pub params_end : (params : List FieldType) (rest bytes : List ℕ) (b : ℕ) (after : List ℕ) → ParamsRead params rest bytes → rest ≡ b ∷ after → b ≡ 41 → params_at (length bytes + 1) bytes ≡ Ok (params, after)
params_end params rest bytes b after p is closes = by p.steps p.enough p.so_far
  where
    whole : rest ≡ 41 ∷ after
    whole = is ∙ ap (λ (x : ℕ). x ∷ after) closes

    by : (steps : ℕ) → length rest < steps → behind_params params (params_at steps rest) ≡ params_at (length bytes + 1) bytes → params_at (length bytes + 1) bytes ≡ Ok (params, after)
    by zero lt so_far = absurd (omega arith)
    by (suc s) lt so_far = sym so_far ∙ ap (λ (x : List ℕ). behind_params params (params_at (suc s) x)) whole ∙ ap (λ (ts : List FieldType). read ts after) (append-nil params)

pub params_cut : (params : List FieldType) (rest bytes : List ℕ) → ParamsRead params rest bytes → length rest ≡ 0 → params_at (length bytes + 1) bytes ≡ Err 0
params_cut params [] bytes p e = sym p.so_far
params_cut params (b ∷ rest) bytes p e = absurd (omega arith)

-- the slots of some parameters are counted
pub record SlotsRead (slots : ℕ) (rest bytes : List ℕ) : Type 0 where
  pub params : List FieldType
  pub count : slots ≡ min (params_slots params) (2 ^ 32 - 1)
  pub reads : ParamsRead params rest bytes

pub no_slots : (bytes : List ℕ) → SlotsRead 0 bytes bytes
no_slots bytes = record { params = []; count = refl; reads = no_params bytes }

pub slots_more : (slots : ℕ) (rest bytes : List ℕ) (b : ℕ) (rs : List ℕ) (t : FieldType) (after : List ℕ) → SlotsRead slots rest bytes → rest ≡ b ∷ rs → b ≢ 41 → field_at rest ≡ Ok (t, after) → (now : ℕ) → now ≡ min (slots + field_slots t) (2 ^ 32 - 1) → SlotsRead now after bytes
slots_more slots rest bytes b rs t after p is ne e now sum =
    let c = p.count in
    let s : params_slots (p.params ++ t ∷ []) ≡ params_slots p.params + field_slots t = sum_by_push field_slots p.params t in
    record { params = p.params ++ t ∷ []; count = omega arith; reads = one_more p.params rest bytes b rs t after p.reads is ne e }

pub slots_stop : (slots : ℕ) (rest bytes : List ℕ) (b : ℕ) (rs : List ℕ) (left : ℕ) → SlotsRead slots rest bytes → rest ≡ b ∷ rs → b ≢ 41 → field_at rest ≡ Err left → counted (params_at (length bytes + 1) bytes) ≡ Err left
slots_stop slots rest bytes b rs left p is ne e = ap counted (param_stops p.params rest bytes b rs left p.reads is ne e)

pub slots_end : (slots : ℕ) (rest bytes : List ℕ) (b : ℕ) (after : List ℕ) → SlotsRead slots rest bytes → rest ≡ b ∷ after → b ≡ 41 → counted (params_at (length bytes + 1) bytes) ≡ Ok (slots, after)
slots_end slots rest bytes b after p is closes = ap counted (params_end p.params rest bytes b after p.reads is closes) ∙ ap (λ (n : ℕ). read n after) (sym p.count)

pub slots_cut : (slots : ℕ) (rest bytes : List ℕ) → SlotsRead slots rest bytes → length rest ≡ 0 → counted (params_at (length bytes + 1) bytes) ≡ Err 0
slots_cut slots rest bytes p e = ap counted (params_cut p.params rest bytes p.reads e)
