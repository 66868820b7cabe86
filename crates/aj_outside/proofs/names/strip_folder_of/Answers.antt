-- What is left after the folder's name and the slash: a text that lacks either is not under the folder.
use Rattle.std.proofs.Common.{◌≡◌, ◌≢◌, ◌++◌, ◌∷◌, [], ℕ, List, Option, Some, None, false, lit<, ap, sym, ◌∙◌, append_assoc}
use denote.Ref.{Bor}
use Rattle.std.specs.Option.{MatchOption}
use Rattle.std.proofs.lemmas.List.Prefix.{front_rest}
use Rattle.std.proofs.lemmas.Str.Pattern.{strip_prefix_char}
use Rattle.aj_outside.specs.Files.{is_under}
use Rattle.aj_outside.specs.FileLaws.{is_under-never}
use Rattle.aj_outside.proofs.names.strip_folder_of.Goals as goal

lacks-folder : (text folder : List ℕ) → ((rest : List ℕ) → text ≢ (folder ++ rest)) → is_under folder text ≡ false
lacks-folder text folder h = is_under-never folder text (λ rest e. h (47 ∷ [] ++ rest) (e ∙ append_assoc folder (47 ∷ []) rest))

lacks-slash : (text folder left : List ℕ) → text ≡ folder ++ left → ((rest : List ℕ) → left ≢ (47 ∷ rest)) → is_under folder text ≡ false
lacks-slash text folder left e h =
    is_under-never folder text (λ rest f. h rest (sym (front_rest text folder left e) ∙ front_rest text folder (47 ∷ rest) (f ∙ append_assoc folder (47 ∷ []) rest)))

after-slash : (text folder left rest : List ℕ) → text ≡ folder ++ left → left ≡ 47 ∷ rest → text ≡ folder ++ 47 ∷ [] ++ rest
after-slash text folder left rest e f = e ∙ ap (λ l. folder ++ l) f ∙ sym (append_assoc folder (47 ∷ []) rest)

both : (text folder left : List ℕ) (r : Option (Bor (List ℕ))) → text ≡ folder ++ left → MatchOption r ((rest : List ℕ) → left ≢ (47 ∷ rest)) (λ x. left ≡ 47 ∷ x.now) → MatchOption r (is_under folder text ≡ false) (λ rest. text ≡ folder ++ 47 ∷ [] ++ rest.now)
both text folder left None e h = lacks-slash text folder left e h
both text folder left (Some x) e h = after-slash text folder left x.now e h

pub returns-in_err-strip_prefix : goal.returns-in_err-strip_prefix
returns-in_err-strip_prefix c = rw c.from_residual.ensures (record { stripped = lacks-folder _ _ c.in_err-strip_prefix.ensures.cases })

pub returns : goal.returns
returns c =
    let parts = c.in_ok-strip_prefix.ensures.cases in
    let split = parts.1.1 ∙ ap (λ left. c.args.folder.now ++ left) (sym parts.2) in
    record { stripped = both _ _ _ c.strip_prefix-2.result split (strip_prefix_char 47 _ _ c.strip_prefix-2.ensures.cases (lit< tt)) }
