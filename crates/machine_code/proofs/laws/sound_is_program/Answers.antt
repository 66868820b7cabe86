use Rattle.machine_code.specs.SoundLaws.{sound_is_program}
use Rattle.machine_code.proofs.laws.sound_is_program.Goals as goal

pub returns : goal.returns
returns c = sound_is_program
