use Rattle.std.specs.Prelude.{refl, Bool, Some}
use Rattle.std.proofs.Common.{subst}
use Rattle.machine_invokes.specs.Choosing.{HasRoom, HasLocals}
use Rattle.machine_invokes.specs.declared.choosing.Choice.TheVariants.{Breaks, Runs}
use Rattle.machine_invokes.proofs.Rooms.{frameless_lacks, framed_lacks}
use Rattle.machine_invokes.proofs.Searched.{frameless_called, codeless_called, coded_called}
use Rattle.machine_invokes.proofs.choosing.choose_called.Goals as goal

pub returns-then-has_result_room : goal.returns-then-has_result_room
returns-then-has_result_room c =
    let k = c.args.world.now in
    let g = c.args.frame.now in
    let n = c.args.method.0 in
    let room = subst (HasRoom k g n) c.if-has_result_room.true c.has_result_room.ensures in
    frameless_called k g c.args.given.now n c.is_frameless.result c.is_frameless.ensures _ (Runs c.args.method) c.if-is_frameless.true room (λ r onward. refl) (refl, frameless_lacks k g n c.is_frameless.result _ c.if-is_frameless.true c.is_frameless.ensures room)

pub returns-then-is_frameless : goal.returns-then-is_frameless
returns-then-is_frameless c =
    let k = c.args.world.now in
    let g = c.args.frame.now in
    let n = c.args.method.0 in
    frameless_called k g c.args.given.now n c.is_frameless.result c.is_frameless.ensures _ Breaks c.if-is_frameless.true (subst (HasRoom k g n) c.if-has_result_room.false c.has_result_room.ensures) (λ r onward. refl) tt

pub returns-in_default : goal.returns-in_default
returns-in_default c =
    codeless_called c.args.world.now c.args.frame.now c.args.given.now c.args.method.0 c.is_frameless.result c.is_frameless.ensures c.if-is_frameless.false c.in_default.ensures

pub returns-then-fit : goal.returns-then-fit
returns-then-fit c =
    let k = c.args.world.now in
    let g = c.args.frame.now in
    let n = c.args.method.0 in
    coded_called k g c.args.given.now n c.is_frameless.result c.is_frameless.ensures _ (Runs c.args.method) c.if-is_frameless.false (subst (λ (b : Bool). HasLocals k n c.args.given.now (Some b)) c.if-fit.true c.in-Some.ensures) (λ r onward. refl)
    (refl, framed_lacks k g n c.is_frameless.result c.if-is_frameless.false c.is_frameless.ensures)

pub returns : goal.returns
returns c =
    let k = c.args.world.now in
    let n = c.args.method.0 in
    coded_called k c.args.frame.now c.args.given.now n c.is_frameless.result c.is_frameless.ensures _ Breaks c.if-is_frameless.false (subst (λ (b : Bool). HasLocals k n c.args.given.now (Some b)) c.if-fit.false c.in-Some.ensures) (λ r onward. refl) tt
