-- The dimensions of the front of a name.
use Rattle.std.proofs.Common.{◌≡◌, ◌+◌, ℕ, zero, suc, min, Bool, true, false, cond, List, [], ◌∷◌, length, take, sym, ap, ◌∙◌, arith}
use Rattle.std.specs.List.{prefix_len}
use Rattle.std.specs.Prelude.{◌==◌}
use Rattle.std.proofs.lemmas.List.{take_min}
use Rattle.std.proofs.lemmas.List.Folds.{length-prefix_len}
use Rattle.class_file.specs.Text.{dimensions}

module _ (test : ℕ → Bool) where
  front_here : (n k m : ℕ) (answer : Bool) → k ≡ min n m → cond answer (1 + k) 0 ≡ min (suc n) (cond answer (1 + m) 0)
  front_here n k m true so_far = omega arith
  front_here n k m false so_far = omega arith

  prefix_len-take : (n : ℕ) (bytes : List ℕ) → prefix_len test (take n bytes) ≡ min n (prefix_len test bytes)
  prefix_len-take zero bytes = omega arith
  prefix_len-take (suc n) [] = omega arith
  prefix_len-take (suc n) (b ∷ bytes) = front_here n (prefix_len test (take n bytes)) (prefix_len test bytes) (test b) (prefix_len-take n bytes)

pub dimensions_of_front : (name : List ℕ) (most end : ℕ) → end ≡ min most (length name) → dimensions (take end name) ≡ min most (dimensions name)
dimensions_of_front name most end is =
    let bracket : ℕ → Bool = λ b. b == 91 in
    ap (λ (n : ℕ). dimensions (take n name)) is ∙ ap dimensions (take_min most name)
    ∙ length-prefix_len bracket (take most name) ∙ prefix_len-take bracket most name ∙ ap (min most) (sym (length-prefix_len bracket name))
