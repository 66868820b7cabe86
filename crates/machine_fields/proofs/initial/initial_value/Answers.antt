use Rattle.std.proofs.Common.{◌≡◌, ℕ, List, true, sym, ◌∙◌, ap}
use Rattle.std.specs.Prelude.{Some, None, slice_get}
use Rattle.std.specs.Option.{option_map, option_copied}
use Rattle.std.proofs.lemmas.Option.{same_Some}
use Rattle.std.proofs.lemmas.Result.{IfOk-weaker}
use Rattle.class_heads.specs.declared.types.FieldHead.{FieldHead}
use Rattle.class_heads.specs.declared.types.ClassHead.{ClassHead}
use Rattle.class_machine.specs.Values as machine
use Rattle.class_machine.specs.Classes.{same_member}
use Rattle.class_machine.specs.ClassFiles.{constant_declared}
use Rattle.class_machine.specs.Declarations.{declared_in, output_field}
use Rattle.class_machine.specs.Descriptors.{blank, element_of}
use Rattle.class_machine.specs.Start.{output}
use Rattle.machine_values.specs.declared.values.Value.TheVariants.{Reference as Pointer}
use Rattle.machine_fields.specs.Constants.{constant_seen, named_type}
use Rattle.machine_fields.specs.Settings.{world_setting}
use Rattle.machine_fields.proofs.FirstHeld.{plain_held, another, given_initial, library_initial}
use Rattle.machine_fields.proofs.initial.initial_value.Goals as goal

pub returns-then-is_output-clause-initial : goal.returns-then-is_output-clause-initial
returns-then-is_output-clause-initial c head field others w d out distinct shares =
    let known = c.args.world.now in
    let h : c.head-head.result.now ≡ head = same_Some c.head-head.result.now head (sym c.head-head.ensures ∙ d.class) in
    let f : c.in-Some.field.now ≡ field = same_Some c.in-Some.field.now field (c.in-Some.ensures.value ∙ ap (λ (x : ClassHead). slice_get x.fields c.args.position) h ∙ d.stands) in
    another (world_setting known) (machine.Reference output) _ c.args.heap.now others w (Pointer c.args.output)
    (library_initial known c.args.class.0 c.args.position head field distinct d true (sym c.file.ensures ∙ ap option_copied c.in_default-file.is)
    (ap (λ (x : ClassHead). same_member (declared_in x.name field.name) output_field) (sym h)
    ∙ ap (λ (x : FieldHead). same_member (declared_in c.head-head.result.now.name x.name) output_field) (sym f) ∙ sym c.is_output.ensures ∙ c.if-is_output.true))
    (record { same = ap machine.Reference out.named; settled = out.within; shares = shares })

pub returns-in-Some-constant-clause-initial : goal.returns-in-Some-constant-clause-initial
returns-in-Some-constant-clause-initial c = IfOk-weaker c.constant_value.result _ _ (λ v is head field others w d out distinct shares.
    let known = c.args.world.now in
    let file = c.in-Some-file.file.now in
    let h : c.head-head.result.now ≡ head = same_Some c.head-head.result.now head (sym c.head-head.ensures ∙ d.class) in
    let f : c.in-Some.field.now ≡ field = same_Some c.in-Some.field.now field (c.in-Some.ensures.value ∙ ap (λ (x : ClassHead). slice_get x.fields c.args.position) h ∙ d.stands) in
    another (world_setting known) (constant_seen c.in-Some-constant.constant) _ c.constant_value.new.heap others w v
    (given_initial known c.args.class.0 c.args.position head field distinct d file (Some (constant_seen c.in-Some-constant.constant)) (sym c.file.ensures ∙ ap option_copied c.in-Some-file.is)
    (sym (ap (option_map constant_seen) c.in-Some-constant.is) ∙ c.constant_declared-constant.ensures
    ∙ ap (λ (n : List ℕ). constant_declared (named_type n c.as_slice-3.result.now) file) (c.as_slice-2.ensures ∙ ap (λ (x : FieldHead). x.name.name) f)
    ∙ ap (λ (t : List ℕ). constant_declared (named_type field.name.name t) file) (c.as_slice-3.ensures ∙ ap (λ (x : FieldHead). x.name.descriptor) f)))
    (is (world_setting known) others w distinct shares))
    c.constant_value.ensures.ok

pub returns-in-None-clause-initial : goal.returns-in-None-clause-initial
returns-in-None-clause-initial c head field others w d out distinct shares =
    let known = c.args.world.now in
    let file = c.in-Some-file.file.now in
    let h : c.head-head.result.now ≡ head = same_Some c.head-head.result.now head (sym c.head-head.ensures ∙ d.class) in
    let f : c.in-Some.field.now ≡ field = same_Some c.in-Some.field.now field (c.in-Some.ensures.value ∙ ap (λ (x : ClassHead). slice_get x.fields c.args.position) h ∙ d.stands) in
    another (world_setting known) (blank (element_of c.as_slice-in-None.result.now)) _ c.args.heap.now others w c.first_value-in-None.result
    (ap (λ (t : List ℕ). blank (element_of t)) (c.as_slice-in-None.ensures ∙ ap (λ (x : FieldHead). x.name.descriptor) f)
    ∙ given_initial known c.args.class.0 c.args.position head field distinct d file None (sym c.file.ensures ∙ ap option_copied c.in-Some-file.is)
    (sym (ap (option_map constant_seen) c.in-None.is) ∙ c.constant_declared-constant.ensures
    ∙ ap (λ (n : List ℕ). constant_declared (named_type n c.as_slice-3.result.now) file) (c.as_slice-2.ensures ∙ ap (λ (x : FieldHead). x.name.name) f)
    ∙ ap (λ (t : List ℕ). constant_declared (named_type field.name.name t) file) (c.as_slice-3.ensures ∙ ap (λ (x : FieldHead). x.name.descriptor) f)))
    (plain_held (world_setting known) (blank (element_of c.as_slice-in-None.result.now)) c.args.heap.now others w c.first_value-in-None.result c.first_value-in-None.ensures.held c.first_value-in-None.ensures.settled shares)
