use Rattle.std.proofs.Common.{◌≡◌, ◌∙◌, arith, sym, ap, ℕ, length, refl}
use Rattle.code_layout.proofs.Starts.{start_zero, starts_more, start_next}
use Rattle.code_layout.specs.Blocks.{start_of}
use Rattle.std.specs.Prelude.{[], ◌∷◌, ◌++◌, ◌+◌, ◌≤◌, get_or, List}
use Rattle.code_layout.proofs.row.starts.Goals as goal

pub loop-block-init : goal.loop-block-init
loop-block-init c =
    let is : c.push.new.self.items ≡ 0 ∷ [] = c.in_ok-push.ensures.items ∙ ap (λ (l : List ℕ). l ++ 0 ∷ []) c.new-starts.ensures.items in
    (ap length is, λ k le. (let e : k ≡ 0 = omega arith in rw (is, e) (sym (start_zero c.args.blocks.now))), sym (start_zero c.args.blocks.now))

pub loop-block-preserved : goal.loop-block-preserved
loop-block-preserved c =
    let next = start_next c.args.blocks.now c.loop-block.block-index c.block-item.result (omega arith) (sym c.block-item.is) in
    let start = c.loop-block.invariant.2 in
    let is : c.in-Some.next ≡ start_of c.args.blocks.now (c.loop-block.block-index + 1) = omega arith in
    let more = starts_more c.args.blocks.now c.loop-block.starts.items _ c.loop-block.block-index c.in-Some.next c.loop-block.invariant.0 c.loop-block.invariant.1 is c.in_ok-push-2.ensures.items in
    (more.0, more.1, is)
