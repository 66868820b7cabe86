-- The first entry of an exception table that covers a place.
use Rattle.std.specs.Prelude.{◌≡◌, ℕ, suc, ◌+◌, ◌<◌, true, cond, List, ◌∷◌, length, map, drop, Option}
use Rattle.std.proofs.Common.{get_or, sym, ap, ◌∙◌, arith, drop-cons}
use Rattle.std.specs.List.{filter}
use Rattle.class_file.specs.declared.types.ExceptionEntry.{ExceptionEntry}
use Rattle.class_file.specs.Pool.{Reference}
use Rattle.class_machine.specs.Turn.{Handler}
use Rattle.class_machine.specs.ClassFiles.{Place, MethodCode, place_in, covers, catch_of, handler_at}
use Rattle.machine_code.specs.Views.{handlers_from}

-- the entry at a place in the table, and those behind it
kept : (pc : ℕ) (entries : List ExceptionEntry) (number : ℕ) (d : ExceptionEntry) → number < length entries → covers pc (get_or entries number d) ≡ true
    → filter (covers pc) (drop number entries) ≡ get_or entries number d ∷ filter (covers pc) (drop (number + 1) entries)
kept pc entries number d within covered =
    ap (filter (covers pc)) (drop-cons entries number d within)
    ∙ ap (λ b. cond b (get_or entries number d ∷ filter (covers pc) (drop (suc number) entries)) (filter (covers pc) (drop (suc number) entries))) covered
    ∙ ap (λ (n : ℕ). get_or entries number d ∷ filter (covers pc) (drop n entries)) (let e : suc number ≡ number + 1 = omega arith in e)

seen : (method : Reference) (catch other : Option (List ℕ)) (handler place : ℕ) → catch ≡ other → handler ≡ place
    → ◌≡◌ {A = Handler Place} (record { catch = other; place = place_in method place }) (record { catch = catch; place = place_in method handler })
seen method catch other handler place same here =
    sym (ap (λ (c : Option (List ℕ)). let h : Handler Place = record { catch = c; place = place_in method handler } in h) same
    ∙ ap (λ (n : ℕ). let h : Handler Place = record { catch = other; place = place_in method n } in h) here)

pub handled : (method : Reference) (pc : ℕ) (m : MethodCode) (entries : List ExceptionEntry) (from number : ℕ) (d : ExceptionEntry) (catch : Option (List ℕ)) (handler : ℕ)
    → entries ≡ m.code.entries → number < length entries → covers pc (get_or entries number d) ≡ true
    → filter (covers pc) (drop number entries) ≡ filter (covers pc) (drop from entries)
    → catch ≡ catch_of m.pool (get_or entries number d).catch_type → handler ≡ (get_or entries number d).handler
    → handlers_from method pc m from ≡ record { catch = catch; place = place_in method handler } ∷ handlers_from method pc m (number + 1)
handled method pc m entries from number d catch handler own within covered before caught led =
    ap (λ (es : List ExceptionEntry). map (handler_at method m.pool) (filter (covers pc) (drop from es))) (sym own)
    ∙ ap (map (handler_at method m.pool)) (sym before ∙ kept pc entries number d within covered)
    ∙ ap (λ (h : Handler Place). h ∷ map (handler_at method m.pool) (filter (covers pc) (drop (number + 1) entries)))
    (seen method catch (catch_of m.pool (get_or entries number d).catch_type) handler (get_or entries number d).handler caught led)
    ∙ ap (λ (es : List ExceptionEntry). record { catch = catch; place = place_in method handler } ∷ map (handler_at method m.pool) (filter (covers pc) (drop (number + 1) es))) own
