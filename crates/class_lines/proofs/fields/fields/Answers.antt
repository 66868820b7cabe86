use Rattle.std.proofs.Common.{◌≡◌, ◌∙◌, ap, rules}
use Rattle.class_lines.specs.Fields.{is_blank, is_inside, behind_run}
use Rattle.class_lines.specs.Words.{texts}
use Rattle.class_lines.proofs.WordLists.{texts_push}
use Rattle.class_lines.proofs.FieldLists.{found_begins, found_more, found_shorter}
use Rattle.class_lines.proofs.fields.fields.Goals as goal

pub loop-rest-init : goal.loop-rest-init
loop-rest-init c = found_begins c.args.line.now c.skip_blanks-rest.result.now _ (ap texts c.new-found.ensures.items) c.skip_blanks-rest.ensures

pub loop-rest-smaller : goal.loop-rest-smaller
loop-rest-smaller c =
    let rest : c.skip_blanks-rest-in-loop-rest.result.now ≡ behind_run is_blank (behind_run is_inside c.loop-rest.rest.now) = c.skip_blanks-rest-in-loop-rest.ensures ∙ ap (behind_run is_blank) c.split_field.ensures.behind in
    found_shorter c.args.line.now c.loop-rest.rest.now c.skip_blanks-rest-in-loop-rest.result.now _ c.loop-rest.invariant (search rules) rest

pub loop-rest-preserved : goal.loop-rest-preserved
loop-rest-preserved c =
    let rest : c.skip_blanks-rest-in-loop-rest.result.now ≡ behind_run is_blank (behind_run is_inside c.loop-rest.rest.now) = c.skip_blanks-rest-in-loop-rest.ensures ∙ ap (behind_run is_blank) c.split_field.ensures.behind in
    found_more c.args.line.now c.loop-rest.rest.now c.skip_blanks-rest-in-loop-rest.result.now (texts c.loop-rest.found.items) (texts c.push-in-loop-rest.new.self.items) c.loop-rest.invariant (search rules) c.if-rest-eq34.false rest
    (texts_push c.loop-rest.found.items c.push-in-loop-rest.new.self.items c.split_field.result.0 _ c.in_ok-push-2.ensures.items c.split_field.ensures.run)
