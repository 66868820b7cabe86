use Rattle.std.specs.Prelude.{Option, is_none}
use Rattle.std.specs.Option.{option_copied}
use Rattle.std.proofs.Common.{sym, ap, ◌∙◌}
use Rattle.class_file.specs.declared.types.ClassFile.{ClassFile}
use Rattle.machine_invokes.proofs.Files.{file_there}
use Rattle.machine_invokes.proofs.belonging.is_of_library.Goals as goal

pub returns-in-Some : goal.returns-in-Some
returns-in-Some c m sees =
    ap (λ (o : Option ClassFile). is_none o)
    (ap option_copied (sym c.in-Some.is) ∙ c.file.ensures ∙ sym (file_there c.args.world.now c.declaring_class.result.0 m c.requires.runnable c.declaring_class.ensures.within (c.declaring_class.ensures.class m sees)))

pub returns-in-None : goal.returns-in-None
returns-in-None c m sees =
    ap (λ (o : Option ClassFile). is_none o)
    (ap option_copied (sym c.in-None.is) ∙ c.file.ensures ∙ sym (file_there c.args.world.now c.declaring_class.result.0 m c.requires.runnable c.declaring_class.ensures.within (c.declaring_class.ensures.class m sees)))
