-- What answers that fit come to.
use Rattle.std.specs.Prelude.{◌≡◌, ℕ, zero, suc, ◌<◌, Bool, true, false, if◌then◌else◌, List, [], ◌∷◌, map, take, drop, length, slice_get, Option, Some, None, refl}
use Rattle.std.proofs.Common.{sym, ap, ◌∙◌, subst, arith}
use Rattle.std.proofs.Math.Seq.{take-append_seam}
use Rattle.std.proofs.lemmas.Bool.{lt-ltb}
use Rattle.std.proofs.lemmas.List.{append-nil, take_all}
use Rattle.std.proofs.lemmas.Option.{same_Some}
use Rattle.aj_names.specs.declared.ids.ClassId.{ClassId}
use Rattle.class_heads.specs.Hierarchy.{name_at, is_subtype}
use Rattle.class_world.specs.Tables.{Known}
use Rattle.class_machine.specs.Classes.{Method, Classes}
use Rattle.class_machine.specs.Descriptors.{class_in, result_in}
use Rattle.class_machine.specs.Events as events
use Rattle.class_machine.specs.Natives as natives
use Rattle.class_machine.specs.Values as machine
use Rattle.class_machine.specs.Values.{throwable_class}
use Rattle.class_machine.specs.World.{World, make, add_text}
use Rattle.machine_values.specs.declared.content.Content.{Content}
use Rattle.machine_values.specs.declared.content.Content.TheVariants.{Text}
use Rattle.machine_values.specs.declared.names.Maker.TheVariants.{Class}
use Rattle.machine_values.specs.declared.script.Answer.{Answer}
use Rattle.machine_values.specs.declared.values.Ref.{Ref}
use Rattle.machine_values.specs.declared.values.Value.{Value}
use Rattle.machine_values.specs.declared.values.Value.TheVariants.{Reference as Pointer}
use Rattle.machine_values.specs.Observed.{machine_answer}
use Rattle.machine_values.specs.Standing.{held, Settled}
use Rattle.machine_values.specs.Things.{Things, next_name, with_made}
use Rattle.machine_requests.specs.Shares.{Setting, Others, Shares}
use Rattle.machine_steps.specs.Programs.{Machine, IsMachine}
use Rattle.machine_invocations.specs.Methods.{classes_in, Sees}
use Rattle.machine_natives.specs.declared.response.Response.{Response}
use Rattle.machine_natives.specs.declared.response.Response.TheVariants.{Returns, Throws, Lacks}
use Rattle.machine_natives.specs.Responses.{IsResponse, Grows, Asked, Comes, Responds, lacks}
use Rattle.machine_natives.specs.Throwables.{Holds, MakesString}

pub same_grows : (heap : Things) → Grows heap heap
same_grows heap = record { more = []; names = sym (append-nil heap.names); contents = take_all (length heap.contents) heap.contents (omega arith) }

pub one_grows : (before after : Things) (class : ClassId) (content : Content) (at : ℕ) → (at, after) ≡ with_made before (Class class) content → Grows before after
one_grows before after class content at added = record {
  more = next_name before.names (Class class) ∷ [];
  names = ap (λ (p : ℕ × Things). p.1.names) added;
  contents = ap (λ (p : ℕ × Things). take (length before.contents) p.1.contents) added ∙ take-append_seam before.contents (content ∷ []);
}

module _ (k : Known) where
  -- the same is asked
  pub comes_same : (before after : Things) (asked other : Asked) (response : Response) → ((m : Machine) (w : World) → IsMachine k m → asked m.setting.classes w ≡ other m.setting.classes w) → Comes k before asked after response → Comes k before other after response
  comes_same before after asked other response same comes = record {
    there = λ m others w is holds. subst (IsResponse m after others w w.answers response) (same m w is) (comes.there m others w is holds);
    known = comes.known;
    grows = comes.grows;
  }

  pub lacks_comes : (heap : Things) (asked : Asked) → ((m : Machine) (w : World) → IsMachine k m → asked m.setting.classes w ≡ natives.Lacks) → Comes k heap asked heap Lacks
  lacks_comes heap asked none = record {
    there = λ m others w is holds. record { same = none m w is; holds = holds; kept = refl };
    known = tt;
    grows = same_grows heap;
  }

  -- a value without an object
  pub plain_comes : (heap : Things) (fits : Bool) (v : Value) (h : machine.Held) → Settled (length heap.names) v → ((m : Machine) → held m.setting.heads heap.names v ≡ h)
      → Comes k heap (λ cs w. natives.if_fits fits (natives.Returns (Some h) w)) heap (if fits then Returns (Some v) else Lacks)
  plain_comes heap true v h settled same = record {
    there = λ m others w is holds. record { world = w; same = ap (λ x. natives.Returns (Some x) w) (sym (same m)); holds = holds; kept = refl };
    known = settled;
    grows = same_grows heap;
  }
  plain_comes heap false v h settled same = lacks_comes heap (λ cs w. natives.Lacks) (λ m w is. refl)

  pub nothing_comes : (heap : Things) → Comes k heap (λ cs w. natives.Returns None w) heap (Returns None)
  nothing_comes heap = record {
    there = λ m others w is holds. record { world = w; same = refl; holds = holds; kept = refl };
    known = tt;
    grows = same_grows heap;
  }

  -- ---- texts

  abbrev pub text_asked : List ℕ → List ℕ → Asked
  text_asked descriptor units cs w = natives.if_fits (natives.takes_text cs (class_in descriptor)) (natives.a_text (add_text w units))

  takes_there : (descriptor : List ℕ) (takes : Bool) (m : Machine) → takes ≡ natives.takes_text (classes_in k) (class_in descriptor) → IsMachine k m → natives.takes_text m.setting.classes (class_in descriptor) ≡ takes
  takes_there descriptor takes m is machine_is = ap (λ (cs : Classes). natives.takes_text cs (class_in descriptor)) machine_is.classes ∙ sym is

  pub text_lacks : (heap : Things) (descriptor units : List ℕ) → false ≡ natives.takes_text (classes_in k) (class_in descriptor) → Comes k heap (text_asked descriptor units) heap Lacks
  text_lacks heap descriptor units none =
      lacks_comes heap (text_asked descriptor units) (λ m w is. ap (λ b. natives.if_fits b (natives.a_text (add_text w units))) (takes_there descriptor false m none is))

  pub text_comes : (before after : Things) (descriptor units : List ℕ) (at : Ref) → true ≡ natives.takes_text (classes_in k) (class_in descriptor) → at.0 < length after.names → MakesString k before units after at
      → Comes k before (text_asked descriptor units) after (Returns (Some (Pointer at)))
  text_comes before after descriptor units at takes within makes = record {
    there = λ m others w is holds.
        let new = makes.new m others w is holds in
        let w1 = (add_text w units).1 in
        record {
          world = w1;
          same = ap (λ b. natives.if_fits b (natives.a_text (add_text w units))) (takes_there descriptor true m takes is) ∙ ap (λ n. natives.Returns (Some (machine.Reference n)) w1) (sym new.name);
          holds = new.holds;
          kept = refl;
        };
    known = lt-ltb at.0 (length after.names) within;
    grows = one_grows before after makes.class (Text units) at.0 makes.added;
  }

  -- ---- exceptions

  subtype_there : (name : List ℕ) (below : Bool) (m : Machine) → below ≡ is_subtype k.heads name throwable_class → IsMachine k m → m.setting.classes.is_subtype name throwable_class ≡ below
  subtype_there name below m e is = ap (λ (cs : Classes). cs.is_subtype name throwable_class) is.classes ∙ sym e

  pub thrown_lacks : (heap : Things) (name message : List ℕ) → false ≡ is_subtype k.heads name throwable_class → Comes k heap (λ cs w. natives.thrown cs w name message) heap Lacks
  thrown_lacks heap name message none =
      lacks_comes heap (λ cs w. natives.thrown cs w name message) (λ m w is. ap (λ b. natives.if_fits b (natives.with_message message (make m.setting.classes w name))) (subtype_there name false m none is))

  pub thrown_same : (before after : Things) (name message : List ℕ) (class : ℕ) (response : Response) → true ≡ is_subtype k.heads name throwable_class → name ≡ name_at k.heads class
      → Comes k before (λ cs w. natives.with_message message (make cs w (name_at k.heads class))) after response → Comes k before (λ cs w. natives.thrown cs w name message) after response
  thrown_same before after name message class response below named comes =
      comes_same before after (λ cs w. natives.with_message message (make cs w (name_at k.heads class))) (λ cs w. natives.thrown cs w name message) response
      (λ m w is. ap (λ n. natives.with_message message (make m.setting.classes w n)) (sym named)
      ∙ sym (ap (λ b. natives.if_fits b (natives.with_message message (make m.setting.classes w name))) (subtype_there name true m below is))) comes

-- ---- the script

shares_answers : (s : Setting) (things : Things) (others : Others) (w : World) (answers : List events.Answer) → Shares s things others w → Shares s things others (record w { answers = answers })
shares_answers s things others w answers shares = record {
  heap = shares.heap;
  fit = shares.fit;
  statics = shares.statics;
  statics_within = shares.statics_within;
  begun = shares.begun;
  monitors = shares.monitors;
  monitors_within = shares.monitors_within;
  unentered = shares.unentered;
}

pub holds_answers : (m : Machine) (things : Things) (others : Others) (w : World) (answers : List events.Answer) → Holds m things others w → Holds m things others (record w { answers = answers })
holds_answers m things others w answers holds = record { shares = shares_answers m.setting things others w answers holds.shares; filled = holds.filled }

drop_none : (xs : List Answer) (i : ℕ) → slice_get xs i ≡ None → drop i xs ≡ []
drop_none [] zero h = refl
drop_none [] (suc i) h = refl
drop_none (x ∷ xs) zero h = absurd cc
drop_none (x ∷ xs) (suc i) h = drop_none xs i h

drop_some : (xs : List Answer) (i : ℕ) (x : Answer) → slice_get xs i ≡ Some x → drop i xs ≡ x ∷ drop (suc i) xs
drop_some [] i x h = absurd cc
drop_some (y ∷ xs) zero x h = ap (λ z. z ∷ xs) (same_Some y x h)
drop_some (y ∷ xs) (suc i) x h = drop_some xs i x h

module _ (k : Known) (number : ℕ) (type : Option (List ℕ)) (seen : (callee : Method) → Sees k number callee → result_in callee.name.member.descriptor ≡ type) (answers : List Answer) (next : ℕ) where
  -- no answer is left
  pub script_lacks : (heap : Things) → slice_get answers next ≡ None → Responds k heap (drop next answers) number heap (drop next answers) Lacks
  script_lacks heap none = record {
    there = λ m others w callee is sees holds same. record {
      same = ap (λ l. natives.taken m.setting.classes w (result_in callee.name.member.descriptor) l) (same ∙ ap (map machine_answer) (drop_none answers next none));
      holds = holds;
      kept = same;
    };
    known = tt;
    grows = same_grows heap;
  }

  module _ (answer : Answer) (there : slice_get answers next ≡ Some answer) (before after : Things) where
    abbrev rest : List events.Answer
    rest = map machine_answer (drop (suc next) answers)

    abbrev asked : Asked
    asked cs w = natives.fitted cs w type (machine_answer answer)

    taken_is : (m : Machine) (w : World) (callee : Method) → Sees k number callee → w.answers ≡ map machine_answer (drop next answers)
        → asked m.setting.classes (record w { answers = rest }) ≡ natives.respond m.setting.classes w callee.name
    taken_is m w callee sees same =
        ap (λ t. natives.fitted m.setting.classes (record w { answers = rest }) t (machine_answer answer)) (sym (seen callee sees))
        ∙ sym (ap (λ l. natives.taken m.setting.classes w (result_in callee.name.member.descriptor) l) (same ∙ ap (map machine_answer) (drop_some answers next answer there)))

    abbrev Answered : List Answer → Response → Type 0
    Answered left response = Responds k before (drop next answers) number after left response

    -- an answer that fits is taken
    pub answer_taken : (response : Response) → lacks response ≡ false → Comes k before asked after response → Answered (drop (suc next) answers) response
    answer_taken response fits comes = record {
      there = λ m others w callee is sees holds same.
          let w1 = record w { answers = rest } in
          let come = comes.there m others w1 is (holds_answers m before others w rest holds) in
          by m others w w1 response fits (natives.respond m.setting.classes w callee.name) (subst (IsResponse m after others w1 rest response) (taken_is m w callee sees same) come);
      known = comes.known;
      grows = comes.grows;
    } where
      by : (m : Machine) (others : Others) (w w1 : World) (r : Response) → lacks r ≡ false → (other : natives.Response) → IsResponse m after others w1 rest r other → IsResponse m after others w rest r other
      by m others w w1 (Returns v) fits other h = h
      by m others w w1 (Throws x) fits other h = h
      by m others w w1 Lacks fits other h = absurd cc

    -- another one is left
    pub answer_left : (response : Response) → lacks response ≡ true → Comes k before asked after response → Answered (drop next answers) response
    answer_left response unfit comes = record {
      there = λ m others w callee is sees holds same.
          let w1 = record w { answers = rest } in
          let come = comes.there m others w1 is (holds_answers m before others w rest holds) in
          by m others w response unfit (natives.respond m.setting.classes w callee.name) same (subst (IsResponse m after others w1 rest response) (taken_is m w callee sees same) come);
      known = comes.known;
      grows = comes.grows;
    } where
      by : (m : Machine) (others : Others) (w : World) (r : Response) → lacks r ≡ true → (other : natives.Response) → w.answers ≡ map machine_answer (drop next answers)
          → IsResponse m after others (record w { answers = rest }) rest r other → IsResponse m after others w (map machine_answer (drop next answers)) r other
      by m others w (Returns v) unfit other same h = absurd cc
      by m others w (Throws x) unfit other same h = absurd cc
      by m others w Lacks unfit other same h = record { same = h.same; holds = holds_answers m after others (record w { answers = rest }) w.answers h.holds; kept = same }
