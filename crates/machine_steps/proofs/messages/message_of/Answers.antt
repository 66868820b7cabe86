use Rattle.std.proofs.Common.{ℕ, List, sym, ◌∙◌, ap, arith}
use Rattle.std.specs.Prelude.{Some}
use Rattle.std.specs.Option.{option_copied}
use Rattle.machine_steps.specs.Messages.{text_in}
use Rattle.machine_steps.proofs.Messaging.{no_message, some_message}
use Rattle.machine_steps.proofs.messages.message_of.Goals as goal

pub returns-in_default : goal.returns-in_default
returns-in_default c of m answers t is runs =
    no_message c.args.world.now c.args.state.now c.args.x c.args.class.0 c.requires.known of m answers t is runs c.fields_read.ensures.none (c.in_default.ensures is.distinct)
    (omega (arith, c.len-count.ensures, c.len-count.type_inv))

pub returns-in_ok-text-in-Some-text_in : goal.returns-in_ok-text-in-Some-text_in
returns-in_ok-text-in-Some-text_in c of m answers t is runs =
    some_message c.args.world.now c.args.state.now c.args.x c.args.class.0 c.requires.known of m answers t is runs c.in-Some.index c.fields_read.ensures.there c.texts_read.ensures (c.in-Some.ensures is.distinct)
    ∙ ap (text_in c.args.state.now.heap) (sym c.field_value.ensures) ∙ sym c.text_in.ensures ∙ ap option_copied c.in-Some-text_in.is ∙ ap (λ (units : List ℕ). Some units) (sym c.in_ok-text-in-Some-text_in.ensures)

pub returns-in-None : goal.returns-in-None
returns-in-None c of m answers t is runs =
    some_message c.args.world.now c.args.state.now c.args.x c.args.class.0 c.requires.known of m answers t is runs c.in-Some.index c.fields_read.ensures.there c.texts_read.ensures (c.in-Some.ensures is.distinct)
    ∙ ap (text_in c.args.state.now.heap) (sym c.field_value.ensures) ∙ sym c.text_in.ensures ∙ ap option_copied c.in-None.is
