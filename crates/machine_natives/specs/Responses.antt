-- What comes of an answer, with what there is after it.
use Rattle.std.specs.Prelude.{◌≡◌, ℕ, ◌<◌, ◌++◌, Bool, true, false, is_some, List, map, take, length, Option}
use Rattle.std.specs.Option.{option_map}
use Rattle.class_heads.specs.Hierarchy.{place_of}
use Rattle.class_world.specs.Tables.{Known}
use Rattle.class_machine.specs.Classes.{Method, Classes}
use Rattle.class_machine.specs.Events as events
use Rattle.class_machine.specs.Natives as natives
use Rattle.class_machine.specs.Values.{class_of}
use Rattle.class_machine.specs.World.{World}
use Rattle.machine_values.specs.declared.names.Name.{Name}
use Rattle.machine_values.specs.declared.script.Answer.{Answer}
use Rattle.machine_values.specs.declared.values.Ref.{Ref}
use Rattle.machine_values.specs.declared.values.Value.{Value}
use Rattle.machine_values.specs.Observed.{machine_answer}
use Rattle.machine_values.specs.Standing.{name_of, held}
use Rattle.machine_values.specs.Things.{Things}
use Rattle.machine_requests.specs.Shares.{Others}
use Rattle.machine_steps.specs.Programs.{Machine, IsMachine}
use Rattle.machine_invocations.specs.Methods.{Sees}
use Rattle.machine_invocations.specs.Returning.{IsSettledResult}
use Rattle.machine_natives.specs.declared.response.Response.{Response}
use Rattle.machine_natives.specs.declared.response.Response.TheVariants.{Returns, Throws, Lacks}
use Rattle.machine_natives.specs.Throwables.{Holds}

-- ---- in one world of the machine

pub record IsResult (m : Machine) (things : Things) (others : Others) (left : List events.Answer) (v : Option Value) (other : natives.Response) : Type 0 where
  pub world : World
  pub same : other ≡ natives.Returns (option_map (held m.setting.heads things.names) v) world
  pub holds : Holds m things others world
  pub kept : world.answers ≡ left

pub record IsThrow (m : Machine) (things : Things) (others : Others) (left : List events.Answer) (x : Ref) (other : natives.Response) : Type 0 where
  pub world : World
  pub same : other ≡ natives.Throws (name_of m.setting.heads things.names x) world
  pub holds : Holds m things others world
  pub kept : world.answers ≡ left

-- the machine goes on with the world before
pub record IsLack (m : Machine) (things : Things) (others : Others) (before : World) (left : List events.Answer) (other : natives.Response) : Type 0 where
  pub same : other ≡ natives.Lacks
  pub holds : Holds m things others before
  pub kept : before.answers ≡ left

-- The response stands for the machine's, and the heap for the world that the machine goes on with, in which these answers are
-- left.
abbrev pub IsResponse : Machine → Things → Others → World → List events.Answer → Response → natives.Response → Type 0
IsResponse m things others before left (Returns v) other = IsResult m things others left v other
IsResponse m things others before left (Throws x) other = IsThrow m things others left x other
IsResponse m things others before left Lacks other = IsLack m things others before left other

-- ---- whatever world it is

-- objects were added, and what was there is as it was
pub record Grows (before after : Things) : Type 0 where
  pub more : List Name
  pub names : after.names ≡ before.names ++ more
  pub contents : take (length before.contents) after.contents ≡ before.contents

-- the response names objects there are; the class of an exception is one of the world
abbrev pub IsKnown : Known → List Name → Response → Type 0
IsKnown k names (Returns v) = IsSettledResult (length names) v
IsKnown k names (Throws x) = (x.0 < length names) × (is_some (place_of k.heads (class_of (name_of k.heads names x))) ≡ true)
IsKnown k names Lacks = Unit {0}

abbrev pub Asked : Type 0
Asked = Classes → World → natives.Response

-- an answer that is taken from the script already
pub record Comes (k : Known) (before : Things) (asked : Asked) (after : Things) (response : Response) : Type 0 where
  pub there : (m : Machine) (others : Others) (w : World) → IsMachine k m → Holds m before others w → IsResponse m after others w w.answers response (asked m.setting.classes w)
  pub known : IsKnown k after.names response
  pub grows : Grows before after

-- what the script answers to a call of the method, with the answers that are left before and then
pub record Responds (k : Known) (before : Things) (left : List Answer) (number : ℕ) (after : Things) (rest : List Answer) (response : Response) : Type 0 where
  pub there : (m : Machine) (others : Others) (w : World) (callee : Method) → IsMachine k m → Sees k number callee → Holds m before others w → w.answers ≡ map machine_answer left
      → IsResponse m after others w (map machine_answer rest) response (natives.respond m.setting.classes w callee.name)
  pub known : IsKnown k after.names response
  pub grows : Grows before after

abbrev pub lacks : Response → Bool
lacks Lacks = true
lacks response = false
