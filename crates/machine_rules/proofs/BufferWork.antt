-- Buffers that get a text.
use Rattle.std.specs.Prelude.{◌≡◌, ℕ, ◌<◌, Bool, true, false, if◌then◌else◌, is_some, List, length, Option, None}
use Rattle.std.proofs.Common.{◌∙◌, ap}
use Rattle.boot_library.specs.declared.rule.LibraryRule.TheVariants as rule
use Rattle.class_file.specs.Pool.{Reference}
use Rattle.class_world.specs.Tables.{Known}
use Rattle.class_machine.specs.Values.{Name}
use Rattle.class_machine.specs.LibraryCalls as calls
use Rattle.class_machine.specs.World as worlds
use Rattle.class_machine.specs.World.{World, set_object}
use Rattle.machine_values.specs.declared.values.Ref.{Ref}
use Rattle.machine_values.specs.declared.values.Value.{Value}
use Rattle.machine_values.specs.Standing.{name_of, held, Settled}
use Rattle.machine_values.specs.Things.{Things}
use Rattle.machine_requests.specs.Shares.{Others}
use Rattle.machine_requests.specs.Telling.{AreDistinct}
use Rattle.machine_rules.specs.declared.work.Work.{Work}
use Rattle.machine_rules.specs.declared.work.Work.TheVariants.{Results, Misuses}
use Rattle.machine_rules.specs.Finishing.{Sets}
use Rattle.machine_rules.specs.Texts.{text_at, argument_at}
use Rattle.machine_rules.specs.Works.{setting_of, Holds, Does}
use Rattle.machine_rules.proofs.Giving.{argued, argument_same, done_same}
use Rattle.machine_rules.proofs.Standing.{text_same}

abbrev pub filled_by : World → Name → Option (List ℕ) → calls.Work
filled_by w a text = calls.unless_null_text text (λ units. calls.filled units a w)

pub fill_done : (k : Known) (things : Things) (at : Ref) (v : Value) (text : Option (Option (List ℕ))) (after : Things) (work : Work) → Settled (length things.names) v → argument_at k.heads things v ≡ text
    → Does k things (λ s ns w. argued text (filled_by w (name_of s.heads ns at))) after work
    → Does k things (λ s ns w. calls.with_argument s.classes w rule.FillBuffer (name_of s.heads ns at) (held s.heads ns v)) after work
fill_done k things at v text after work settled is done =
    done_same k things (λ s ns w. argued text (filled_by w (name_of s.heads ns at))) (λ s ns w. calls.with_argument s.classes w rule.FillBuffer (name_of s.heads ns at) (held s.heads ns v)) after work
    (λ names others w distinct holds. argument_same k names things others w v (filled_by w (name_of k.heads things.names at)) distinct holds settled
    ∙ ap (λ t. argued t (filled_by w (name_of k.heads things.names at))) is) done

module _ (k : Known) (things : Things) (at : Ref) (units : List ℕ) (known : at.0 < length things.names) where
  by_text : (names : ℕ → Reference) (others : Others) (w : World) (b : Bool) → AreDistinct k.heads → Holds (setting_of k names) things others w → is_some (text_at things at.0) ≡ b
      → calls.filled units (name_of k.heads things.names at) w ≡ (if b then calls.does (set_object w (name_of k.heads things.names at) (worlds.Text units)) else calls.Misuses)
  by_text names others w b distinct holds text =
      ap (λ (is : Bool). if is then calls.does (set_object w (name_of k.heads things.names at) (worlds.Text units)) else calls.Misuses) (ap is_some (text_same (setting_of k names) things others w at.0 distinct holds.shares known) ∙ text)

  pub units_set : (after : Things) → is_some (text_at things at.0) ≡ true → Sets things at units after → Does k things (λ s ns w. calls.filled units (name_of s.heads ns at) w) after (Results None None)
  units_set after text sets names others w distinct holds = record {
    world = set_object w (name_of k.heads things.names at) (worlds.Text units);
    same = by_text names others w true distinct holds text;
    settled = tt;
    holds = record { shares = sets (setting_of k names) others w distinct holds.shares };
  }

  -- what holds no text is no buffer
  pub fill_misused : is_some (text_at things at.0) ≡ false → Does k things (λ s ns w. calls.filled units (name_of s.heads ns at) w) things Misuses
  fill_misused none names others w distinct holds = record { same = by_text names others w false distinct holds none; holds = holds }
