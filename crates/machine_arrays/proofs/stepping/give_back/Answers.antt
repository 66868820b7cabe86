use Rattle.std.proofs.Common.{◌≡◌, ◌-◌, map, reverse, sym, subst, refl, arith}
use Rattle.std.proofs.lemmas.Option.{slice_get_read}
use Rattle.machine_values.specs.declared.values.Value.TheVariants.{Int}
use Rattle.machine_frames.specs.Undoing.{IsTaken}
use Rattle.machine_arrays.proofs.Taken.{taken_back, taken_last}
use Rattle.machine_arrays.proofs.stepping.give_back.Goals as goal

pub returns : goal.returns
returns c dims old h =
    let now = c.args.state.now in
    let sizes = c.args.sizes.now in
    let top = c.len-top.result - 1 in
    let g = c.index_mut.result.now in
    let there = slice_get_read now.frames.items c.len-top.result top g (omega (arith, now.frames.ok.0)) (omega arith) c.index_mut.ensures.value in
    let last : g ≡ h.after = taken_last dims old sizes now h top g (omega (arith, now.frames.ok.0)) there in
    taken_back dims old sizes now h _ top c.put_sizes_back.new.frame (omega (arith, now.frames.ok.0))
    (c.put_sizes_back.ensures h.before (subst (IsTaken h.before (reverse (map Int sizes))) (sym last) h.taken)) refl
