use Rattle.std.proofs.Common.{◌+◌, List, [], ◌∷◌, ◌++◌, sym, ap, ◌∙◌, arith}
use Rattle.std.specs.Prelude.{map}
use Rattle.std.proofs.lemmas.List.Elements.{All-push, All-same}
use Rattle.class_file.specs.Code.{instructions}
use Rattle.class_rules.specs.declared.instructions.Placed as kept
use Rattle.class_rules.specs.Instructions.{as_placed, StandsIn}
use Rattle.class_rules.specs.Turns.{instructions_at}
use Rattle.class_rules.proofs.Listing.{prefixed, one_more}
use Rattle.class_rules.proofs.instructions.instructions.Goals as goal

pub loop-pc-preserved : goal.loop-pc-preserved
loop-pc-preserved c =
    let code = c.args.code.now in
    let p : kept.Placed = record { pc = c.loop-pc.pc; insn = c.in-Ok.insn } in
    let items = c.in_ok-push-in-Ok.ensures.items in
    let stands = c.in-Ok.ensures.stands in
    record {
      listed = ap (λ (insns : List kept.Placed). prefixed (map as_placed insns) (instructions_at code (c.loop-pc.pc + c.in-Ok.size))) items
          ∙ one_more code c.loop-pc.pc c.loop-pc.insns.items (instructions code) c.loop-pc.invariant.listed c.in-Ok.insn c.in-Ok.size (λ i. (c.type_inv.code i).fits) c.loop-pc-test.true (sym c.in-Ok.ensures.exact);
      within = stands.within;
      stand = All-same (StandsIn code) c.push.new.self.items (c.loop-pc.insns.items ++ p ∷ []) items
          (All-push (StandsIn code) c.loop-pc.insns.items p c.loop-pc.invariant.stand (record { within = omega (arith, stands.some, stands.within); switch = stands.switch }));
    }
