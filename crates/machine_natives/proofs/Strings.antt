-- New Strings.
use Rattle.std.specs.Prelude.{◌≡◌, ℕ, suc, ◌<◌, true, nat_lt, List, [], length, refl}
use Rattle.std.proofs.Common.{sym, ap, ◌∙◌, subst, arith}
use Rattle.std.proofs.lemmas.Bool.{lt-ltb}
use Rattle.aj_names.specs.declared.ids.ClassId.{ClassId}
use Rattle.class_file.specs.Pool.{Reference}
use Rattle.class_heads.specs.declared.types.ClassHead.{ClassHead}
use Rattle.class_heads.specs.Hierarchy.{name_at}
use Rattle.class_world.specs.Tables.{Known}
use Rattle.class_machine.specs.Classes.{Classes}
use Rattle.class_machine.specs.Values as machine
use Rattle.class_machine.specs.Values.{string_class}
use Rattle.class_machine.specs.World as worlds
use Rattle.class_machine.specs.World.{World}
use Rattle.machine_values.specs.declared.content.Content.{Content}
use Rattle.machine_values.specs.declared.content.Content.TheVariants.{Text}
use Rattle.machine_values.specs.declared.names.Maker.TheVariants.{Class}
use Rattle.machine_values.specs.declared.values.Ref.{Ref}
use Rattle.machine_values.specs.NumberLaws.{made_alike}
use Rattle.machine_values.specs.StandingLaws.{length-push}
use Rattle.machine_values.specs.Things.{Things, made, next_name, with_made}
use Rattle.machine_requests.specs.Growing.{make_shares}
use Rattle.machine_requests.specs.Shares.{Others, Shares}
use Rattle.machine_requests.specs.Telling.{AreDistinct}
use Rattle.machine_requests.specs.TellingLaws.{all_told}
use Rattle.machine_requests.proofs.Fills.{grown_filled}
use Rattle.machine_requests.proofs.NewArrays.{last_name, ref}
use Rattle.machine_steps.specs.Programs.{IsRunnable, Machine, IsMachine}
use Rattle.machine_invocations.specs.Methods.{classes_in}
use Rattle.machine_natives.specs.Throwables.{Holds, IsString, MakesString}
use Rattle.machine_natives.proofs.Library.{text_fields}

pub distinct_in : (k : Known) (m : Machine) → IsMachine k m → AreDistinct m.setting.heads
distinct_in k m is = subst AreDistinct (sym is.heads) is.distinct

pub placed_at_end : (before after : Things) (class : ClassId) (content : Content) (at : ℕ) → (at, after) ≡ with_made before (Class class) content → at < length after.names
placed_at_end before after class content at added =
    let first : at ≡ length before.names = ap (λ (p : ℕ × Things). p.0) added in
    let all : length after.names ≡ length (with_made before (Class class) content).1.names = ap (λ (p : ℕ × Things). length p.1.names) added in
    let more = length-push before.names (next_name before.names (Class class)) in
    omega arith

module _ (k : Known) (runnable : IsRunnable k) (before : Things) (units : List ℕ) (class : ClassId) (named : name_at k.heads class.0 ≡ string_class) (within : class.0 < length k.heads) where
  string_there : (m : Machine) (others : Others) (w : World) → IsMachine k m → Holds m before others w → IsString m (with_made before (Class class) (Text units)).1 others w units (ref (length before.names))
  string_there m others w is holds =
      let s = m.setting in
      let name : name_at s.heads class.0 ≡ string_class = ap (λ (heads : List ClassHead). name_at heads class.0) is.heads ∙ named in
      let fit : nat_lt class.0 (length s.heads) ≡ true = ap (λ (heads : List ClassHead). nat_lt class.0 (length heads)) is.heads ∙ lt-ltb class.0 (length k.heads) within in
      let distinct = distinct_in k m is in
      let told = all_told s.heads distinct (Class class) before.names fit holds.shares.fit in
      let numbers : worlds.made w.heap (name_at s.heads class.0) ≡ made before.names (Class class) = made_alike s.heads s.classes.fields before w.heap (Class class) holds.shares.heap.objects told in
      let fields : s.classes.fields (name_at s.heads class.0) ≡ [] = ap (λ (cs : Classes). cs.fields (name_at s.heads class.0)) is.classes ∙ ap (classes_in k).fields name ∙ text_fields k runnable string_class refl in
      record {
        name = last_name s.heads before.names (next_name before.names (Class class)) ∙ ap (λ n. machine.Made (name_at s.heads class.0) (suc n)) (sym numbers) ∙ ap (λ n. machine.Made n (suc (worlds.made w.heap n))) name;
        holds = record {
          shares = subst (λ (n : List ℕ). Shares s (with_made before (Class class) (Text units)).1 others (worlds.add w n (worlds.Text units)).1) name (make_shares s before others w (Class class) (Text units) distinct holds.shares fit tt);
          filled = grown_filled before (next_name before.names (Class class)) (Text units) s holds.shares.heap.objects.whole holds.filled (sym (ap (length {A = Reference}) fields));
        };
      }

  pub string_made : (at : Ref) (after : Things) → (at.0, after) ≡ with_made before (Class class) (Text units) → MakesString k before units after at
  string_made at after added = record {
    class = class;
    added = added;
    new = λ m others w is holds. subst (λ (p : ℕ × Things). IsString m p.1 others w units (record { 0 = p.0 })) (sym added) (string_there m others w is holds);
  }
