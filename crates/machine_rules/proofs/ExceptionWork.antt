-- What exceptions do.
use Rattle.std.specs.Prelude.{◌≡◌, ℕ, ◌≤◌, Bool, true, false, if◌then◌else◌, List, [], ◌∷◌, ◌++◌, codes, take, length, Option, Some, None, is_some, refl}
use Rattle.std.proofs.Common.{sym, ◌∙◌, ap, subst, arith}
use Rattle.std.proofs.Math.Seq.{take-append_seam}
use Rattle.std.proofs.lemmas.Bool.{false≢true}
use Rattle.aj_names.specs.declared.ids.ClassId.{ClassId}
use Rattle.class_file.specs.Pool.{Reference}
use Rattle.boot_library.specs.declared.rule.LibraryRule.TheVariants as rule
use Rattle.class_world.specs.Tables.{Known}
use Rattle.class_machine.specs.declared.kinds.Element.{Element}
use Rattle.class_machine.specs.Values as machine
use Rattle.class_machine.specs.Values.{Name, Held}
use Rattle.class_machine.specs.Classes.{Classes}
use Rattle.class_machine.specs.Descriptors.{element_of, narrowed}
use Rattle.class_machine.specs.LibraryCalls as calls
use Rattle.class_machine.specs.World.{World, write_field, make, message_field, cause_field}
use Rattle.machine_values.specs.declared.values.Ref.{Ref}
use Rattle.machine_values.specs.declared.values.Value.{Value}
use Rattle.machine_values.specs.Standing.{name_of, held, Settled}
use Rattle.machine_values.specs.StandingLaws.{length-push}
use Rattle.machine_values.specs.Things.{Things, next_name, with_made}
use Rattle.machine_values.specs.declared.content.Content.{Content}
use Rattle.machine_values.specs.declared.names.Maker.TheVariants.{Class}
use Rattle.machine_requests.specs.Replies.{IsLonger}
use Rattle.machine_requests.specs.Shares.{Setting, Others}
use Rattle.machine_requests.specs.Telling.{AreDistinct}
use Rattle.machine_rules.specs.declared.work.Work.TheVariants.{Results, Throws, Misuses}
use Rattle.machine_rules.specs.Exceptions.{is_cause, TellsCause, IsLast}
use Rattle.machine_rules.specs.Fields.{AreWhole, Writes}
use Rattle.machine_rules.specs.Texts.{argument_at}
use Rattle.machine_rules.specs.Works.{setting_of, Holds, Does, Grows}
use Rattle.machine_rules.proofs.Giving.{argued, argument_same, done_same, misuse_done}
use Rattle.machine_rules.proofs.NewWork.{IsWritten}

-- ---- arguments

pub some_text : (o : Option (Option (List ℕ))) → is_some o ≡ true → (text : Option (List ℕ)) × (o ≡ Some text)
some_text None is = absurd (false≢true is)
some_text (Some text) is = (text, refl)

pub no_text : (o : Option (Option (List ℕ))) → is_some o ≡ false → o ≡ None
no_text None is = refl
no_text (Some text) is = absurd (false≢true (sym is))

-- a field of references keeps each value
unnarrowed : (h : Held) → narrowed Element.Reference h ≡ h
unnarrowed (machine.Int n) = refl
unnarrowed (machine.Long n) = refl
unnarrowed (machine.Float bits) = refl
unnarrowed (machine.Double bits) = refl
unnarrowed machine.Null = refl
unnarrowed (machine.Reference a) = refl

module _ (k : Known) (things : Things) (at : Ref) (text : Value) (settled : Settled (length things.names) text) where
  abbrev asks : (Option (List ℕ) → calls.Work) → World → calls.Work
  asks go w = calls.text_argument w (held k.heads things.names text) go

  -- the argument is another value
  pub text_misused : (ask : Setting → World → Option (List ℕ) → calls.Work) → is_some (argument_at k.heads things text) ≡ false
      → Does k things (λ s ns w. calls.text_argument w (held s.heads ns text) (ask s w)) things Misuses
  text_misused ask is =
      done_same k things (λ s ns w. calls.Misuses) (λ s ns w. calls.text_argument w (held s.heads ns text) (ask s w)) things Misuses
      (λ names others w distinct holds. argument_same k names things others w text (ask (setting_of k names) w) distinct holds settled ∙ ap (λ o. argued o (ask (setting_of k names) w)) (no_text (argument_at k.heads things text) is))
      (misuse_done k things)

  text_taken : (names : ℕ → Reference) (others : Others) (w : World) (work : calls.Work) → AreDistinct k.heads → Holds (setting_of k names) things others w → is_some (argument_at k.heads things text) ≡ true
      → calls.text_argument w (held k.heads things.names text) (λ units. work) ≡ work
  text_taken names others w work distinct holds is =
      argument_same k names things others w text (λ units. work) distinct holds settled
      ∙ ap (λ o. argued o (λ units. work)) (some_text (argument_at k.heads things text) is).1

  pub message_misused : is_some (argument_at k.heads things text) ≡ false → Does k things (λ s ns w. calls.with_argument s.classes w rule.SetMessage (name_of s.heads ns at) (held s.heads ns text)) things Misuses
  message_misused is names others w distinct holds =
      text_misused (λ s v units. calls.does (write_field v (name_of k.heads things.names at) message_field (held k.heads things.names text))) is names others w distinct holds

  pub message_set : (after : Things) → is_some (argument_at k.heads things text) ≡ true → Writes k things at message_field text after
      → Does k things (λ s ns w. calls.with_argument s.classes w rule.SetMessage (name_of s.heads ns at) (held s.heads ns text)) after (Results None None)
  message_set after is writes names others w distinct holds =
      let a = name_of k.heads things.names at in
      let h = held k.heads things.names text in
      record {
        world = write_field w a message_field h;
        same = text_taken names others w (calls.does (write_field w a message_field h)) distinct holds is;
        settled = tt;
        holds = subst (λ (x : Held). Holds (setting_of k names) after others (write_field w a message_field x)) (unnarrowed h) (writes names others w distinct holds);
      }

  -- ---- with a cause

  set_cause_cases : (cs : Classes) (w : World) (a : Name) (h cause : Held)
      → calls.set_cause cs w a h cause ≡ (if is_cause cs cause then calls.does (write_field (write_field w a message_field h) a cause_field cause) else calls.Misuses)
  set_cause_cases cs w a h (machine.Reference b) = refl
  set_cause_cases cs w a h machine.Null = refl
  set_cause_cases cs w a h (machine.Int n) = refl
  set_cause_cases cs w a h (machine.Long n) = refl
  set_cause_cases cs w a h (machine.Float bits) = refl
  set_cause_cases cs w a h (machine.Double bits) = refl

  module _ (cause : Value) where
    pub both_misused : is_some (argument_at k.heads things text) ≡ false
        → Does k things (λ s ns w. calls.with_arguments s.classes w rule.SetMessageAndCause (name_of s.heads ns at) (held s.heads ns text) (held s.heads ns cause)) things Misuses
    both_misused is names others w distinct holds =
        text_misused (λ s v units. calls.set_cause s.classes v (name_of k.heads things.names at) (held k.heads things.names text) (held k.heads things.names cause)) is names others w distinct holds

    pub cause_misused : is_some (argument_at k.heads things text) ≡ true → TellsCause k things cause false
        → Does k things (λ s ns w. calls.with_arguments s.classes w rule.SetMessageAndCause (name_of s.heads ns at) (held s.heads ns text) (held s.heads ns cause)) things Misuses
    cause_misused is tells names others w distinct holds =
        let s = setting_of k names in
        let a = name_of k.heads things.names at in
        let h = held k.heads things.names text in
        let c = held k.heads things.names cause in
        record {
          same = text_taken names others w (calls.set_cause s.classes w a h c) distinct holds is
              ∙ set_cause_cases s.classes w a h c
              ∙ ap (λ (b : Bool). if b then calls.does (write_field (write_field w a message_field h) a cause_field c) else calls.Misuses) (sym (tells distinct holds.shares.fit));
          holds = holds;
        }

    pub both_set : (mid after : Things) → is_some (argument_at k.heads things text) ≡ true → TellsCause k things cause true → Writes k things at message_field text mid → mid.names ≡ things.names
        → Writes k mid at cause_field cause after
        → Does k things (λ s ns w. calls.with_arguments s.classes w rule.SetMessageAndCause (name_of s.heads ns at) (held s.heads ns text) (held s.heads ns cause)) after (Results None None)
    both_set mid after is tells first same second names others w distinct holds =
        let s = setting_of k names in
        let a = name_of k.heads things.names at in
        let h = held k.heads things.names text in
        let c = held k.heads things.names cause in
        let v = write_field w a message_field h in
        let one : Holds s mid others v = subst (λ (x : Held). Holds s mid others (write_field w a message_field x)) (unnarrowed h) (first names others w distinct holds) in
        let two : Holds s after others (write_field v a cause_field (narrowed Element.Reference c)) =
        subst (λ ns. Holds s after others (write_field v (name_of k.heads ns at) cause_field (narrowed Element.Reference (held k.heads ns cause)))) same (second names others v distinct one) in
        record {
          world = write_field v a cause_field c;
          same = text_taken names others w (calls.set_cause s.classes w a h c) distinct holds is
              ∙ set_cause_cases s.classes w a h c
              ∙ ap (λ (b : Bool). if b then calls.does (write_field v a cause_field c) else calls.Misuses) (sym (tells distinct holds.shares.fit));
          settled = tt;
          holds = subst (λ (x : Held). Holds s after others (write_field v a cause_field x)) (unnarrowed c) two;
        }

-- ---- a new exception

pub missing_thrown : (k : Known) (things after : Things) (at : Ref) (name : Value)
    → ((names : ℕ → Reference) (others : Others) (w : World) → AreDistinct k.heads → AreWhole k things → Holds (setting_of k names) things others w
    → IsWritten k (setting_of k names) after others at message_field (narrowed (element_of message_field.member.descriptor) (held k.heads things.names name)) (make (setting_of k names).classes w (codes "java/lang/ClassNotFoundException")))
    → AreWhole k things → Does k things (λ s ns w. calls.not_found s.classes w (held s.heads ns name)) after (Throws at)
missing_thrown k things after at name written whole names others w distinct holds =
    let s = setting_of k names in
    let made = make s.classes w (codes "java/lang/ClassNotFoundException") in
    let h = held k.heads things.names name in
    let one = written names others w distinct whole holds in
    record {
      world = write_field made.1 made.0 message_field h;
      same = ap (λ (a : Name). calls.Throws a (write_field made.1 made.0 message_field h)) (sym one.name);
      within = one.within;
      holds = subst (λ (x : Held). Holds s after others (write_field made.1 made.0 message_field x)) (unnarrowed h) one.holds;
    }

-- ---- the last object

pub last_one : (before after : Things) (class : ClassId) (content : Content) (at : Ref) (count : ℕ) → count ≡ length before.names → count ≡ length before.contents → (at.0, after) ≡ with_made before (Class class) content → IsLast before after at
last_one before after class content at count names contents added =
    let n = next_name before.names (Class class) in
    let place : at.0 ≡ length before.names = ap (λ (p : ℕ × Things). p.0) added in
    let longer = length-push before.names n in
    let all : length after.names ≡ length (before.names ++ n ∷ []) = ap (λ (p : ℕ × Things). length p.1.names) added in
    record {
      known = omega arith;
      behind = omega arith;
      contents = ap (λ (p : ℕ × Things). take (length before.contents) p.1.contents) added ∙ take-append_seam before.contents (content ∷ []);
    }

-- it gets its message
pub last_grows : (before mid after : Things) (at : Ref) → IsLast before mid at → IsLonger before mid → after.names ≡ mid.names → ((count : ℕ) → count ≤ at.0 → take count after.contents ≡ take count mid.contents) → Grows before after
last_grows before mid after at last longer same stay = record {
  names = ap (take (length before.names)) (same ∙ longer.1) ∙ take-append_seam before.names longer.0;
  contents = stay (length before.contents) last.behind ∙ last.contents;
}
