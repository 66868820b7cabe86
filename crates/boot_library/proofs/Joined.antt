-- The heads of two lists of classes, one behind the other.
use Rattle.std.specs.Prelude.{◌≡◌, List, ◌++◌, map}
use Rattle.std.proofs.Common.{ap, sym, ◌∙◌}
use Rattle.class_heads.specs.declared.types.ClassHead.{ClassHead}
use Rattle.boot_library.specs.Library.{LibraryClass}
use Rattle.boot_library.specs.Heads.{class_head}
use mathlib.Core.List.{map-append}

pub heads_of_both : (front back xs ys : List LibraryClass) (first both : List ClassHead) → both ≡ first ++ map class_head back → first ≡ map class_head front → front ≡ xs → back ≡ ys → both ≡ map class_head (xs ++ ys)
heads_of_both front back xs ys first both e f g h =
    e ∙ ap (λ (hs : List ClassHead). hs ++ map class_head back) (f ∙ ap (map class_head) g) ∙ ap (λ (cs : List LibraryClass). map class_head xs ++ map class_head cs) h ∙ sym (map-append class_head xs ys)
