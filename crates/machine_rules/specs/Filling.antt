-- Objects keep a value for each field of their class where texts are made.
use Rattle.class_world.specs.Tables.{Known}
use Rattle.machine_values.specs.Things.{Things}
use Rattle.machine_requests.specs.Objects.{StaysFilled}
use Rattle.machine_requests.specs.Shares.{Setting}
use Rattle.machine_rules.specs.Works.{IsSettingOf}

-- in each setting of the world
abbrev pub FillsStill : Known → Things → Things → Type 0
FillsStill k before after = (s : Setting) → IsSettingOf k s → StaysFilled before after s
