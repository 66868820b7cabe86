-- Objects of a heap, and what the class machine finds of them.
use Rattle.std.specs.Prelude.{◌≡◌, ℕ, suc, ◌<◌, List, [], ◌∷◌, length, slice_get, Some}
use Rattle.std.proofs.Common.{sym, ◌∙◌, ap, subst, arith}
use Rattle.std.proofs.lemmas.Bool.{lt-ltb}
use Rattle.aj_names.specs.declared.ids.ClassId.{ClassId}
use Rattle.class_heads.specs.Hierarchy.{name_at}
use Rattle.class_world.specs.Tables.{Known}
use Rattle.class_machine.specs.Values as machine
use Rattle.class_machine.specs.Values.{string_class}
use Rattle.class_machine.specs.World as worlds
use Rattle.class_machine.specs.World.{World, units_at}
use Rattle.machine_values.specs.declared.names.Maker.{Maker}
use Rattle.machine_values.specs.declared.names.Maker.TheVariants.{Class, Array}
use Rattle.machine_values.specs.declared.names.Name.{Name}
use Rattle.machine_values.specs.declared.names.Name.TheVariants.{Made, Literal, ClassObject}
use Rattle.machine_values.specs.declared.content.Content.{Content}
use Rattle.machine_values.specs.declared.content.Content.TheVariants.{Values, Text, Fixed}
use Rattle.machine_values.specs.NumberLaws.{made_alike}
use Rattle.machine_values.specs.Standing.{name_in, object_of}
use Rattle.machine_values.specs.StandingLaws.{length-push}
use Rattle.machine_values.specs.Things.{Things, made, next_name, with_made}
use Rattle.machine_requests.specs.Growing.{make_shares}
use Rattle.machine_requests.specs.Shares.{Setting, Others, Shares}
use Rattle.machine_requests.specs.Telling.{AreDistinct}
use Rattle.machine_requests.specs.TellingLaws.{all_told, named_at}
use Rattle.machine_requests.proofs.Found.{made_found}
use Rattle.machine_requests.proofs.ArrayLaws.{content_at}
use Rattle.machine_requests.proofs.NewArrays.{last_name, ref}
use Rattle.std.proofs.Math.Seq.{take-append_seam}
use Rattle.machine_rules.specs.Texts.{text_in, text_at}
use Rattle.machine_rules.specs.Works.{setting_of, IsAdded, AddsText, Grows}

-- ---- texts

-- the text of an object is the machine's
pub text_same : (s : Setting) (things : Things) (others : Others) (w : World) (at : ℕ) → AreDistinct s.heads → Shares s things others w → at < length things.names
    → units_at w (name_in s.heads (slice_get things.names at)) ≡ text_at things at
text_same s things others w at distinct shares known =
    let name = named_at things.names at known in
    let whole = shares.heap.objects.whole in
    let content = content_at things.contents at (omega arith) in
    by name.0 content.0 name.1 content.1
    ∙ sym (ap (λ o. text_in o (slice_get things.contents at)) name.1 ∙ ap (text_in (Some name.0)) content.1) where
      at_made : (maker : Maker) (k : ℕ) (c : Content) → slice_get things.names at ≡ Some (Made maker k) → slice_get things.contents at ≡ Some c
          → units_at w (name_in s.heads (slice_get things.names at)) ≡ worlds.text_in (Some (object_of s.heads s.classes.fields things.names maker c))
      at_made maker k c there holds = ap (λ o. units_at w (name_in s.heads o)) there ∙ ap worlds.text_in (made_found s things others w at maker k c distinct shares there holds)

      by : (n : Name) (c : Content) → slice_get things.names at ≡ Some n → slice_get things.contents at ≡ Some c → units_at w (name_in s.heads (slice_get things.names at)) ≡ text_in (Some n) (Some c)
      by (Made (Class class) k) (Values vs) there holds = at_made (Class class) k (Values vs) there holds
      by (Made (Class class) k) (Text units) there holds = at_made (Class class) k (Text units) there holds
      by (Made (Class class) k) Fixed there holds = at_made (Class class) k Fixed there holds
      by (Made (Array type) k) (Values vs) there holds = at_made (Array type) k (Values vs) there holds
      by (Made (Array type) k) (Text units) there holds = at_made (Array type) k (Text units) there holds
      by (Made (Array type) k) Fixed there holds = at_made (Array type) k Fixed there holds
      by (Literal units) c there holds = ap (λ o. units_at w (name_in s.heads o)) there
      by (ClassObject type) c there holds = ap (λ o. units_at w (name_in s.heads o)) there

-- ---- new Strings

pub string_made : (k : Known) (things : Things) (units : List ℕ) (class : ClassId) → name_at k.heads class.0 ≡ string_class → class.0 < length k.heads
    → AddsText k things units (with_made things (Class class) (Text units)).1 (ref (length things.names))
string_made k things units class named within names others w distinct holds =
    let s = setting_of k names in
    let fit = lt-ltb class.0 (length k.heads) within in
    let told = all_told k.heads distinct (Class class) things.names fit holds.shares.fit in
    let numbers : worlds.made w.heap (name_at k.heads class.0) ≡ made things.names (Class class) = made_alike k.heads s.classes.fields things w.heap (Class class) holds.shares.heap.objects told in
    let last = last_name k.heads things.names (next_name things.names (Class class)) in
    let more = length-push things.names (next_name things.names (Class class)) in
    subst (λ (name : List ℕ). IsAdded s (with_made things (Class class) (Text units)).1 others (ref (length things.names)) (worlds.add w name (worlds.Text units)).0 (worlds.add w name (worlds.Text units)).1) named
    (record {
      name = last ∙ ap (λ n. machine.Made (name_at k.heads class.0) (suc n)) (sym numbers);
      within = omega arith;
      holds = record { shares = make_shares s things others w (Class class) (Text units) distinct holds.shares fit tt };
    })

pub string_grows : (things : Things) (units : List ℕ) (class : ClassId) → Grows things (with_made things (Class class) (Text units)).1
string_grows things units class = record {
  names = take-append_seam things.names (next_name things.names (Class class) ∷ []);
  contents = take-append_seam things.contents (Text units ∷ []);
}
