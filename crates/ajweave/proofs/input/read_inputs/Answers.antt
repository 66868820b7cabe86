use Rattle.std.proofs.Common.{◌≡◌, ℕ, List, map, sym, ap, subst, ◌∙◌, ◌++◌, ◌∷◌, [], true, false}
use Rattle.std.specs.Prelude.{IfSome}
use Rattle.std.specs.List.{filter}
use Rattle.weave_plan.specs.declared.planning.NamedFile.{NamedFile}
use Rattle.weave_plan.specs.Plan.{files_of}
use Rattle.ajweave.specs.Steps.{cut_at, keeps}
use Rattle.ajweave.proofs.Reading.{given-more, named-more, passed_over}
use Rattle.ajweave.proofs.input.read_inputs.Goals as goal

pub loop-name-preserved-then-not-keeps : goal.loop-name-preserved-then-not-keeps
loop-name-preserved-then-not-keeps g c =
    let test = keeps c.args.kept in
    let isnt : test c.in-Some.name ≡ false = sym (c.keeps.ensures ∙ ap test c.as_str.ensures.text) ∙ c.if-not-keeps.true in
    let same = passed_over test c.loop-name.yielded c.in-Some.name isnt in
    record {
      given = subst (λ (ns : List (List ℕ)). IfSome (g.S.Shelf.held c.args.shelf.now) (λ all. files_of c.loop-name.files.items ≡ map (cut_at all) ns)) (sym same) c.loop-name.invariant.given;
      named = c.loop-name.invariant.named ∙ sym same;
      held = c.loop-name.invariant.held;
      write_faults = c.loop-name.invariant.write_faults;
      faults = c.loop-name.invariant.faults;
      missing = c.loop-name.invariant.missing;
    }

pub loop-name-preserved : goal.loop-name-preserved
loop-name-preserved g c =
    let test = keeps c.args.kept in
    let is : test c.in-Some.name ≡ true = sym (c.keeps.ensures ∙ ap test c.as_str.ensures.text) ∙ c.if-not-keeps.false in
    let held = g.S.Shelf.held c.args.shelf.now in
    let more = given-more test held (g.S.Shelf.held c.loop-name.shelf) c.loop-name.files.items c.loop-name.yielded c.in_ok-file.file c.in-Some.name c.loop-name.invariant.held is c.in_ok-file.ensures.given c.loop-name.invariant.given in
    record {
      given = subst (λ (xs : List NamedFile). IfSome held (λ all. files_of xs ≡ map (cut_at all) (filter test (c.loop-name.yielded ++ c.in-Some.name ∷ [])))) (sym c.in_ok-push_file.ensures.added) more;
      named = ap (map (λ (f : NamedFile). f.name)) c.in_ok-push_file.ensures.added ∙ named-more test c.loop-name.files.items c.loop-name.yielded c.in_ok-file.file c.in-Some.name is c.in_ok-file.ensures.named c.loop-name.invariant.named;
      held = c.read_input.ensures.kept ∙ c.loop-name.invariant.held;
      write_faults = c.read_input.ensures.writes ∙ c.loop-name.invariant.write_faults;
      faults = c.in_ok-file.ensures.still.0 ∙ c.loop-name.invariant.faults;
      missing = c.in_ok-file.ensures.still.1 ∙ c.loop-name.invariant.missing;
    }
