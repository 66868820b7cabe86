-- Fields that the library keeps of its own, as the machine reads them.
use Rattle.std.specs.Prelude.{◌≡◌, ℕ, zero, suc, ◌<◌, ◌≤◌, ◌^◌, Bool, true, false, if◌then◌else◌, nat_lt, List, [], ◌∷◌, length, slice_get, Option, Some, None, unwrap_or, refl}
use Rattle.std.specs.List.{AllByRecursion}
use Rattle.std.proofs.Common.{sym, ◌∙◌, ap, subst, arith}
use Rattle.std.proofs.lemmas.Option.{none-some, same_Some, slice_get_past}
use Rattle.class_file.specs.Pool.{Reference}
use Rattle.class_heads.specs.declared.types.ClassHead.{ClassHead}
use Rattle.class_heads.specs.Hierarchy.{name_at}
use Rattle.class_world.specs.Tables.{Known}
use Rattle.class_machine.specs.ClassFiles.{field_constant}
use Rattle.class_machine.specs.Declarations.{classes_of}
use Rattle.class_machine.specs.Values.{class_of}
use Rattle.class_machine.specs.World.{World, read_field}
use Rattle.machine_values.specs.declared.content.Content.{Content}
use Rattle.machine_values.specs.declared.content.Content.TheVariants.{Values, Text, Fixed}
use Rattle.machine_values.specs.declared.names.Maker.TheVariants.{Class, Array}
use Rattle.machine_values.specs.declared.names.Name.{Name}
use Rattle.machine_values.specs.declared.names.Name.TheVariants.{Made, Literal, ClassObject}
use Rattle.machine_values.specs.declared.values.Ref.{Ref}
use Rattle.machine_values.specs.declared.values.Value.{Value}
use Rattle.machine_values.specs.declared.values.Value.TheVariants.{Null}
use Rattle.machine_values.specs.Standing.{name_in, name_of, held, Settled, IsSettledContent}
use Rattle.machine_values.specs.Things.{Things, values_of, values_at}
use Rattle.machine_fields.specs.Positions.{IsPlace, fields_of_class}
use Rattle.machine_requests.proofs.Reading.{read_same, read_none}
use Rattle.machine_requests.specs.Objects.{fields_in, fields_at, field_place}
use Rattle.machine_requests.specs.Shares.{Others}
use Rattle.machine_requests.specs.Telling.{AreDistinct, is_fit}
use Rattle.machine_requests.specs.TellingLaws.{named_at, fit_at}
use Rattle.machine_rules.specs.Reading.{class_made, value_read, Reads}
use Rattle.machine_rules.specs.Works.{setting_of, Holds}

-- ---- an object without such fields

no_fields : (name : Name) (count : ℕ) (content : Option Content) → is_fit count name ≡ true → class_made count (Some name) ≡ None → fields_in (Some name) content ≡ []
no_fields (Made (Class class) k) count content fit none =
    absurd (none-some class.0 (sym none ∙ ap (λ (b : Bool). if b then Some class.0 else None) fit))
no_fields (Made (Array type) k) count content fit none = refl
no_fields (Literal units) count content fit none = refl
no_fields (ClassObject type) count content fit none = refl

-- the class and the values of another one
made_class : (heads : List ClassHead) (o : Option Name) (count class : ℕ) → class_made count o ≡ Some class → class_of (name_in heads o) ≡ name_at heads class
made_class heads None count class made = absurd (none-some class made)
made_class heads (Some (Made (Class c) k)) count class made = by (nat_lt c.0 count) made where
  by : (b : Bool) → (if b then Some c.0 else None) ≡ Some class → name_at heads c.0 ≡ name_at heads class
  by true e = ap (name_at heads) (same_Some c.0 class e)
  by false e = absurd (none-some class e)
made_class heads (Some (Made (Array type) k)) count class made = absurd (none-some class made)
made_class heads (Some (Literal units)) count class made = absurd (none-some class made)
made_class heads (Some (ClassObject type)) count class made = absurd (none-some class made)

same_values : (o : Option Name) (content : Option Content) (count class : ℕ) → class_made count o ≡ Some class → fields_in o content ≡ values_of content
same_values None content count class made = absurd (none-some class made)
same_values (Some (Made (Class c) k)) None count class made = refl
same_values (Some (Made (Class c) k)) (Some (Values vs)) count class made = refl
same_values (Some (Made (Class c) k)) (Some (Text units)) count class made = refl
same_values (Some (Made (Class c) k)) (Some Fixed) count class made = refl
same_values (Some (Made (Array type) k)) content count class made = absurd (none-some class made)
same_values (Some (Literal units)) content count class made = absurd (none-some class made)
same_values (Some (ClassObject type)) content count class made = absurd (none-some class made)

-- ---- values that objects hold

settled_in : (n : ℕ) (vs : List Value) (i : ℕ) → AllByRecursion (Settled n) vs → Settled n (unwrap_or (slice_get vs i) Null)
settled_in n [] i h = refl
settled_in n (v ∷ vs) zero h = h.0
settled_in n (v ∷ vs) (suc i) h = settled_in n vs i h.1

settled_values : (n : ℕ) (cs : List Content) (at i : ℕ) → AllByRecursion (IsSettledContent n) cs → Settled n (unwrap_or (slice_get (values_of (slice_get cs at)) i) Null)
settled_values n [] at i h = refl
settled_values n (Values vs ∷ cs) zero i h = settled_in n vs i h.0
settled_values n (Text units ∷ cs) zero i h = refl
settled_values n (Fixed ∷ cs) zero i h = refl
settled_values n (c ∷ cs) (suc at) i h = settled_values n cs at i h.1

settled_read : (n : ℕ) (things : Things) (at : ℕ) (o : Option ℕ) → AllByRecursion (IsSettledContent n) things.contents → Settled n (value_read things at o)
settled_read n things at None h = refl
settled_read n things at (Some i) h = settled_values n things.contents at i h

-- ---- what the machine reads

abbrev fields_named : Known → Things → Ref → List Reference
fields_named k things at = (classes_of k.heads (length k.files) (field_constant k.files)).fields (class_of (name_of k.heads things.names at))

module _ (k : Known) (things : Things) (at : Ref) (r : Reference) (known : at.0 < length things.names) (names : ℕ → Reference) (others : Others) (w : World) (distinct : AreDistinct k.heads) (holds : Holds (setting_of k names) things others w) where
  -- the value at the field's place, or null where it has none
  read_at : (v : Value) → ((p : ℕ) → field_place (fields_named k things at) r ≡ Some p → unwrap_or (slice_get (fields_at things at.0) p) Null ≡ v) → (field_place (fields_named k things at) r ≡ None → v ≡ Null)
      → read_field w (name_of k.heads things.names at) r ≡ held k.heads things.names v
  read_at v there none = by (field_place (fields_named k things at) r) refl where
    by : (o : Option ℕ) → field_place (fields_named k things at) r ≡ o → read_field w (name_of k.heads things.names at) r ≡ held k.heads things.names v
    by None e = read_none (setting_of k names) things others w at.0 r distinct holds.shares known e ∙ ap (held k.heads things.names) (sym (none e))
    by (Some p) e = read_same (setting_of k names) things others w at.0 p r distinct holds.shares known e ∙ ap (held k.heads things.names) (there p e)

  read_nothing : class_made (length k.heads) (slice_get things.names at.0) ≡ None → read_field w (name_of k.heads things.names at) r ≡ held k.heads things.names Null
  read_nothing other = let name = named_at things.names at.0 known in
      read_at Null
      (λ p e. ap (λ (vs : List Value). unwrap_or (slice_get vs p) Null) (
      ap (λ (o : Option Name). fields_in o (slice_get things.contents at.0)) name.1
      ∙ no_fields name.0 (length k.heads) (slice_get things.contents at.0) (fit_at k.heads distinct things.names at.0 name.0 holds.shares.fit name.1) (sym (ap (class_made (length k.heads)) name.1) ∙ other))
      ∙ ap (λ (o : Option Value). unwrap_or o Null) (slice_get_past [] p (omega arith)))
      (λ e. refl)

  read_place : (class : ℕ) (o : Option ℕ) → class_made (length k.heads) (slice_get things.names at.0) ≡ Some class → IsPlace (fields_of_class k class) r o → length (values_at things at.0) < 2 ^ 32
      → read_field w (name_of k.heads things.names at) r ≡ held k.heads things.names (value_read things at.0 o)
  read_place class o made place few = by o place where
    values : fields_at things at.0 ≡ values_at things at.0
    values = same_values (slice_get things.names at.0) (slice_get things.contents at.0) (length k.heads) class made

    fields : fields_named k things at ≡ fields_of_class k class
    fields = ap (λ (c : List ℕ). (classes_of k.heads (length k.files) (field_constant k.files)).fields c) (made_class k.heads (slice_get things.names at.0) (length k.heads) class made)

    by : (o : Option ℕ) → IsPlace (fields_of_class k class) r o → read_field w (name_of k.heads things.names at) r ≡ held k.heads things.names (value_read things at.0 o)
    by None far =
        read_at Null
        (λ p e.
        let past : 2 ^ 32 ≤ p = far p (sym (ap (λ (fs : List Reference). field_place fs r) fields) ∙ e) in
        ap (λ (vs : List Value). unwrap_or (slice_get vs p) Null) values ∙ ap (λ (o : Option Value). unwrap_or o Null) (slice_get_past (values_at things at.0) p (omega arith)))
        (λ e. refl)
    by (Some i) there =
        let here : field_place (fields_named k things at) r ≡ Some i = ap (λ (fs : List Reference). field_place fs r) fields ∙ there in
        read_at (value_read things at.0 (Some i))
        (λ p e. ap (λ (vs : List Value). unwrap_or (slice_get vs p) Null) values ∙ ap (λ (q : ℕ). unwrap_or (slice_get (values_at things at.0) q) Null) (same_Some p i (sym e ∙ here)))
        (λ e. absurd (none-some i (sym e ∙ here)))

pub nothing_read : (k : Known) (things : Things) (at : Ref) (r : Reference) → at.0 < length things.names → None ≡ class_made (length k.heads) (slice_get things.names at.0) → Reads k things at r Null
nothing_read k things at r known other names others w distinct holds = read_nothing k things at r known names others w distinct holds (sym other)

pub field_read : (k : Known) (things : Things) (at : Ref) (r : Reference) (class : ℕ) (o : Option ℕ) (v result : Value) → at.0 < length things.names → Some class ≡ class_made (length k.heads) (slice_get things.names at.0)
    → (AreDistinct k.heads → IsPlace (fields_of_class k class) r o) → length (values_at things at.0) < 2 ^ 32 → v ≡ value_read things at.0 o → (Settled (length things.names) v → result ≡ v) → Reads k things at r result
field_read k things at r class o v result known made place few is same names others w distinct holds =
    read_place k things at r known names others w distinct holds class o (sym made) (place distinct) few
    ∙ ap (held k.heads things.names) (sym (same (subst (Settled (length things.names)) (sym is) (settled_read (length things.names) things at.0 o holds.shares.heap.objects.settled)) ∙ is))
