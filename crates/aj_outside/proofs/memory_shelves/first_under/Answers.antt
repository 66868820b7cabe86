-- Each key that is under the folder goes to the list.
use Rattle.std.proofs.Common.{◌≡◌, ◌++◌, ◌∷◌, [], map, take, ap, sym, ◌∙◌, rules, arith}
use Rattle.std.specs.List.{filter}
use Rattle.std.specs.Map.{keys_of}
use Rattle.std.specs.String.{string_bytes}
use Rattle.aj_outside.specs.Files.{is_under}
use Rattle.aj_outside.proofs.Entries.{listed-none, listed-true, passes}
use Rattle.aj_outside.proofs.memory_shelves.first_under.Goals as goal

pub loop-text-init : goal.loop-text-init
loop-text-init c =
    let all : c.into_iter-text-iterator.result ≡ keys_of c.args.files.now.entries = search rules in
    record { left = listed-none _ _ _ _ _ c.new-listed.ensures.items all; few = omega (arith, c.new-listed.ensures.len) }

pub loop-text-preserved-in_ok-push : goal.loop-text-preserved-in_ok-push
loop-text-preserved-in_ok-push c =
    let p = is_under c.args.folder.now in
    let name = string_bytes c.in-Some.text.now in
    let name-is = c.in_ok-from_str.ensures.text ∙ c.as_str-then-is_some.ensures.value in
    let items = c.in_ok-push.ensures.items ∙ ap (λ n. c.loop-text.listed.items ++ n ∷ []) name-is in
    let before = ap (λ ks. take c.args.most (c.loop-text.listed.items ++ filter p (map string_bytes ks))) (sym c.in-Some.ensures.steps) ∙ c.loop-text.invariant.left in
    let under = passes c.args.folder.now c.as_str.result.now c.strip_folder_of.result (sym c.is_some.ensures ∙ c.if-is_some.true) c.strip_folder_of.ensures.stripped in
    let text-under = ap p (sym c.as_str.ensures.value) ∙ under in
    record {
      left = ap (λ xs. take c.args.most (xs ++ filter p (map string_bytes c.next.new.self))) items ∙ listed-true p c.args.most c.loop-text.listed.items name (map string_bytes c.next.new.self) _ text-under before;
      few = omega (arith, c.in_ok-push.ensures.len, c.len.ensures, c.if-len-most.false);
    }
