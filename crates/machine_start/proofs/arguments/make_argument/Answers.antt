use mir.Val.{to_z, of_z}
use Rattle.std.specs.Prelude.{ℤ}
use mir.Syntax.{w32, w64}
use Rattle.std.proofs.lemmas.Int.{to_z-of_z}
use Rattle.std.proofs.Common.{rules, ◌≡◌, refl, sym, subst}
use Rattle.class_machine.specs.Start.{Int, Long, Null}
use Rattle.machine_values.specs.declared.script.EntryArg.{EntryArg}
use Rattle.machine_values.specs.declared.values.Value.TheVariants as value
use Rattle.machine_start.specs.Arguments.{argument_of, MakesValue}
use Rattle.machine_start.proofs.Made.{plain_made}
use Rattle.machine_start.proofs.arguments.make_argument.Goals as goal

pub returns-in-Int : goal.returns-in-Int
returns-in-Int c =
    let k = c.args.world.now in
    let h = c.args.heap.now in
    let same : to_z w32 (of_z w32 c.in-Int.n) ≡ c.in-Int.n = to_z-of_z w32 c.in-Int.n (search rules) in
    subst (λ (x : EntryArg). MakesValue k h (argument_of x) h (value.Int (to_z w32 (of_z w32 c.in-Int.n)))) (sym c.in-Int.is)
    (subst (λ (n : ℤ). MakesValue k h (Int c.in-Int.n) h (value.Int n)) (sym same) (plain_made k h (Int c.in-Int.n) (value.Int c.in-Int.n) refl (λ m w. refl)))

pub returns-in-Long : goal.returns-in-Long
returns-in-Long c =
    let k = c.args.world.now in
    let h = c.args.heap.now in
    let same : to_z w64 (of_z w64 c.in-Long.n) ≡ c.in-Long.n = to_z-of_z w64 c.in-Long.n (search rules) in
    subst (λ (x : EntryArg). MakesValue k h (argument_of x) h (value.Long (to_z w64 (of_z w64 c.in-Long.n)))) (sym c.in-Long.is)
    (subst (λ (n : ℤ). MakesValue k h (Long c.in-Long.n) h (value.Long n)) (sym same) (plain_made k h (Long c.in-Long.n) (value.Long c.in-Long.n) refl (λ m w. refl)))

pub returns-in-Null : goal.returns-in-Null
returns-in-Null c =
    let k = c.args.world.now in
    let h = c.args.heap.now in
    subst (λ (x : EntryArg). MakesValue k h (argument_of x) h value.Null) (sym c.in-Null.is) (plain_made k h Null value.Null refl (λ m w. refl))
