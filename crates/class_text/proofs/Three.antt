-- Three pieces behind others.
use Rattle.std.proofs.Common.{◌≡◌, ℕ, List, ◌++◌, ap, ◌∙◌, append_assoc}

pub three : (before a b c : List ℕ) → (before ++ (a ++ b)) ++ c ≡ before ++ (a ++ (b ++ c))
three before a b c = append_assoc before (a ++ b) c ∙ ap (λ (l : List ℕ). before ++ l) (append_assoc a b c)
