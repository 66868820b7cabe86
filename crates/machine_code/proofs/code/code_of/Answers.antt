use Rattle.std.proofs.Common.{◌≡◌, List, Some, sym, ap, ◌∙◌}
use Rattle.std.specs.Prelude.{slice_get}
use Rattle.std.specs.Option.{option_map, option_copied}
use Rattle.class_file.specs.declared.pool.PoolEntry.{PoolEntry}
use Rattle.class_heads.specs.Searches.{in_class}
use Rattle.class_machine.specs.ClassFiles.{MethodCode, code_of}
use Rattle.machine_code.specs.Programs.{placed_code}
use Rattle.machine_code.specs.Views.{code_seen}
use Rattle.machine_code.proofs.Finding.{no_file, no_member, no_code, some_code, by_number, by_names}
use Rattle.machine_code.proofs.Formed.{formed_at, code_is_small}
use Rattle.machine_code.proofs.code.code_of.Goals as goal
use Rattle.machine_code.proofs.code.code_of.Goals.{After-from_residual, After-from_residual-in_err-member, After-from_residual-in_err-code, After-as_slice}

at-file : (c : After-from_residual) → option_map code_seen c.from_residual.result ≡ placed_code c.args.world.now.files (in_class c.method_at-position.result.0.0 c.method_at-position.result.1)
at-file c =
    let files = c.args.world.now.files in
    let class = c.method_at-position.result.0.0 in
    let position = c.method_at-position.result.1 in
    ap (option_map code_seen) c.from_residual.ensures ∙ no_file files class position (sym c.file.ensures ∙ ap option_copied c.in_err-file.was)

pub returns-in_err-file-clause-placed : goal.returns-in_err-file-clause-placed
returns-in_err-file-clause-placed c =
    by_number c.args.world.now.files c.args.world.now.heads c.args.method.0 c.method_at-position.result.0.0 c.method_at-position.result.1 c.method_at-position.ensures.member (option_map code_seen c.from_residual.result) (at-file c)

pub returns-in_err-file-clause-named : goal.returns-in_err-file-clause-named
returns-in_err-file-clause-named c =
    by_names c.args.world.now.files c.args.world.now.heads c.args.method.0 c.method_at-position.result.0.0 c.method_at-position.result.1 c.method_at-position.ensures.member (option_map code_seen c.from_residual.result) (at-file c)

at-member : (c : After-from_residual-in_err-member) → option_map code_seen c.from_residual-in_err-member.result ≡ placed_code c.args.world.now.files (in_class c.method_at-position.result.0.0 c.method_at-position.result.1)
at-member c =
    let files = c.args.world.now.files in
    let class = c.method_at-position.result.0.0 in
    let position = c.method_at-position.result.1 in
    let file = c.in_ok-file.file.now in
    let given : slice_get files class ≡ Some file = sym c.file.ensures ∙ ap option_copied c.in_ok-file.was in
    ap (option_map code_seen) c.from_residual-in_err-member.ensures ∙ no_member files class position file given (sym c.get.ensures.value ∙ ap option_copied c.in_err-member.was)

pub returns-in_err-member-clause-placed : goal.returns-in_err-member-clause-placed
returns-in_err-member-clause-placed c =
    by_number c.args.world.now.files c.args.world.now.heads c.args.method.0 c.method_at-position.result.0.0 c.method_at-position.result.1 c.method_at-position.ensures.member (option_map code_seen c.from_residual-in_err-member.result) (at-member c)

pub returns-in_err-member-clause-named : goal.returns-in_err-member-clause-named
returns-in_err-member-clause-named c =
    by_names c.args.world.now.files c.args.world.now.heads c.args.method.0 c.method_at-position.result.0.0 c.method_at-position.result.1 c.method_at-position.ensures.member (option_map code_seen c.from_residual-in_err-member.result) (at-member c)

at-code : (c : After-from_residual-in_err-code) → option_map code_seen c.from_residual-in_err-code.result ≡ placed_code c.args.world.now.files (in_class c.method_at-position.result.0.0 c.method_at-position.result.1)
at-code c =
    let files = c.args.world.now.files in
    let class = c.method_at-position.result.0.0 in
    let position = c.method_at-position.result.1 in
    let file = c.in_ok-file.file.now in
    let given : slice_get files class ≡ Some file = sym c.file.ensures ∙ ap option_copied c.in_ok-file.was in
    let member = c.in_ok-member.member.now in
    let there : slice_get file.methods position ≡ Some member = sym c.get.ensures.value ∙ ap option_copied c.in_ok-member.was in
    ap (option_map code_seen) c.from_residual-in_err-code.ensures ∙ no_code files class position file given member there (sym c.code_in.ensures ∙ ap option_copied c.in_err-code.was)

pub returns-in_err-code-clause-placed : goal.returns-in_err-code-clause-placed
returns-in_err-code-clause-placed c =
    by_number c.args.world.now.files c.args.world.now.heads c.args.method.0 c.method_at-position.result.0.0 c.method_at-position.result.1 c.method_at-position.ensures.member (option_map code_seen c.from_residual-in_err-code.result) (at-code c)

pub returns-in_err-code-clause-named : goal.returns-in_err-code-clause-named
returns-in_err-code-clause-named c =
    by_names c.args.world.now.files c.args.world.now.heads c.args.method.0 c.method_at-position.result.0.0 c.method_at-position.result.1 c.method_at-position.ensures.member (option_map code_seen c.from_residual-in_err-code.result) (at-code c)

pub invariant_of-result : goal.invariant_of-result
invariant_of-result c =
    let files = c.args.world.now.files in
    let file = c.in_ok-file.file.now in
    let member = c.in_ok-member.member.now in
    let given : slice_get files c.method_at-position.result.0.0 ≡ Some file = sym c.file.ensures ∙ ap option_copied c.in_ok-file.was in
    let there : slice_get file.methods c.method_at-position.result.1 ≡ Some member = sym c.get.ensures.value ∙ ap option_copied c.in_ok-member.was in
    let found : code_of member ≡ Some c.in_ok-code.code.now = sym c.code_in.ensures ∙ ap option_copied c.in_ok-code.was in
    record {
      small = code_is_small file c.method_at-position.result.1 member c.in_ok-code.code.now (formed_at files c.method_at-position.result.0.0 file c.requires.formed given) there found;
    }

at-end : (c : After-as_slice) → Some (record { pool = c.as_slice.result.now; code = c.in_ok-code.code.now }) ≡ placed_code c.args.world.now.files (in_class c.method_at-position.result.0.0 c.method_at-position.result.1)
at-end c =
    let files = c.args.world.now.files in
    let file = c.in_ok-file.file.now in
    let member = c.in_ok-member.member.now in
    let code = c.in_ok-code.code.now in
    let given : slice_get files c.method_at-position.result.0.0 ≡ Some file = sym c.file.ensures ∙ ap option_copied c.in_ok-file.was in
    let there : slice_get file.methods c.method_at-position.result.1 ≡ Some member = sym c.get.ensures.value ∙ ap option_copied c.in_ok-member.was in
    let found : code_of member ≡ Some code = sym c.code_in.ensures ∙ ap option_copied c.in_ok-code.was in
    ap (λ (pool : List PoolEntry). let m : MethodCode = record { pool = pool; code = code } in Some m) c.as_slice.ensures
    ∙ some_code files c.method_at-position.result.0.0 c.method_at-position.result.1 file given member code there found

pub returns-clause-placed : goal.returns-clause-placed
returns-clause-placed c =
    let m : MethodCode = record { pool = c.as_slice.result.now; code = c.in_ok-code.code.now } in
    by_number c.args.world.now.files c.args.world.now.heads c.args.method.0 c.method_at-position.result.0.0 c.method_at-position.result.1 c.method_at-position.ensures.member (Some m)
    (at-end (goal.at.returns-clause-placed c).After-as_slice)

pub returns-clause-named : goal.returns-clause-named
returns-clause-named c =
    let m : MethodCode = record { pool = c.as_slice.result.now; code = c.in_ok-code.code.now } in
    by_names c.args.world.now.files c.args.world.now.heads c.args.method.0 c.method_at-position.result.0.0 c.method_at-position.result.1 c.method_at-position.ensures.member (Some m)
    (at-end (goal.at.returns-clause-named c).After-as_slice)
