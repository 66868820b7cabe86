-- A frame is as it was before an invocation, with what it held.
use Rattle.std.specs.Prelude.{◌≡◌, ℕ, suc, ◌+◌, ◌<◌, ◌≤◌, Bool, List, [], ◌∷◌, ◌++◌, reverse, take, length, slice_get, slice_set, Option, Some, None, refl}
use Rattle.std.proofs.Common.{sym, ◌∙◌, ap, subst, arith, append_assoc, length-append}
use Rattle.std.proofs.lemmas.List.{append-nil, length-map, length-set, take_more, take_more_set, take_all}
use Rattle.std.proofs.lemmas.Option.{get_or_from_slice_get, slice_get_within}
use Rattle.std.specs.Vec.{with_item}
use Rattle.aj_names.specs.declared.ids.ClassId.{ClassId}
use Rattle.class_machine.specs.Classes.{reference}
use Rattle.class_machine.specs.Values as machine
use Rattle.class_machine.specs.Values.{filled_local}
use Rattle.machine_values.specs.declared.frames.Frame.{Frame}
use Rattle.machine_values.specs.declared.state.MachineState.{MachineState}
use Rattle.machine_values.specs.declared.values.Local.{Local}
use Rattle.machine_values.specs.declared.values.Ref.{Ref}
use Rattle.machine_values.specs.declared.values.Value.{Value}
use Rattle.machine_values.specs.declared.values.Value.TheVariants.{Token as token_value}
use Rattle.machine_frames.specs.declared.calls.Receiver.TheVariants.{Object}
use Rattle.machine_frames.specs.Effects.{locals_of}
use Rattle.machine_frames.specs.Naming.{Naming, local, object}
use Rattle.machine_frames.specs.Undoing.{receiver_value, IsTaken}
use Rattle.machine_steps.specs.Giving.{with_values}
use Rattle.machine_invokes.specs.declared.invocation.Before.TheVariants.{Arguments, Receiver, Token}
use Rattle.machine_invokes.specs.declared.invocation.Invocation.{Invocation}
use Rattle.machine_invokes.specs.Building.{IsFilled, FillsFrame}
use Rattle.machine_invokes.specs.Taking.{Takes, PutsBack}
use Rattle.machine_invokes.specs.Undoing.{AreSaved, UndoneBy, IsRefilled, Refills, RestoresFrame}
use Rattle.machine_invokes.proofs.Taken.{at_middle, set_middle}
use Rattle.machine_invokes.proofs.Undone.{place, all_back, two_back, fits_left}

-- ---- one frame

pub refilled_taken : (old f e : Frame) (operands : List Value) (locals : List Local) → IsRefilled operands locals old f → e ≡ record f { operands = e.operands; locals = e.locals } → e.operands.room ≡ f.operands.room → e.operands.values ≡ [] → e.locals ≡ locals
    → IsTaken old (reverse operands) e
refilled_taken old f e operands locals is rest room none held = record {
  rest =
      rest ∙ ap (λ (g : Frame). record g { operands = e.operands; locals = e.locals }) is.rest
      ∙ ap (λ (ls : List Local). record old { operands = e.operands; locals = ls }) (held ∙ sym is.held);
  taken = record {
    room = room ∙ is.room;
    values = is.values ∙ sym (append-nil (reverse operands)) ∙ ap (λ (vs : List Value). reverse operands ++ vs) (sym none);
    fits = λ some. is.fits;
  };
}

-- ---- locals

-- the first so many are those
pub record PutsLocals (start kept locals : List Local) (index : ℕ) : Type 0 where
  pub count : length kept ≡ length start
  pub same : length locals ≡ length start → take index kept ≡ take index locals

pub puts_first : (start locals : List Local) → PutsLocals start start locals 0
puts_first start locals = record { count = refl; same = λ len. refl }

pub puts_next : (start kept locals : List Local) (index : ℕ) (x : Local) → index < length kept → slice_get locals index ≡ Some x → PutsLocals start kept locals index → PutsLocals start (slice_set kept index x) locals (index + 1)
puts_next start kept locals index x less at puts = record {
  count = length-set kept index x ∙ puts.count;
  same = λ len.
      take_more_set kept index x less
      ∙ ap (λ (ys : List Local). ys ++ x ∷ []) (puts.same len)
      ∙ ap (λ (y : Local). take index locals ++ y ∷ []) (sym (get_or_from_slice_get locals index x x at)) ∙ sym (take_more locals index x (slice_get_within locals index x at));
}

pub puts_all : (start kept locals : List Local) (index : ℕ) → length kept ≤ index → PutsLocals start kept locals index → length locals ≡ length start → kept ≡ locals
puts_all start kept locals index past puts len =
    let count = puts.count in
    sym (take_all index kept past) ∙ puts.same len ∙ take_all index locals (omega arith)

-- ---- in the state

pub refills : (old : MachineState) (index : ℕ) (operands : List Value) (locals : List Local) (h p : Frame) → slice_get old.frames.items index ≡ Some h → length (slice_set old.frames.items index p) ≡ length old.frames.items → ((f : Frame) → IsRefilled operands locals f h → p ≡ f)
    → Refills index operands locals old (record old { frames = with_item old.frames index p })
refills old index operands locals h p at count back = record {
  same = refl;
  count = count;
  frames = λ below above f g len items refilled.
      let is : h ≡ g = let e : Some h ≡ Some g = sym at ∙ ap (λ (xs : List Frame). slice_get xs index) items ∙ ap (slice_get (below ++ g ∷ above)) (sym len) ∙ at_middle below above g in cc in
      ap (λ (xs : List Frame). slice_set xs index p) items ∙ ap (λ (n : ℕ). slice_set (below ++ g ∷ above) n p) (sym len) ∙ set_middle below above g p
      ∙ ap (λ (q : Frame). below ++ q ∷ above) (back f (subst (IsRefilled operands locals f) (sym is) refilled));
}

-- ---- where a token became an object

module _ (number : ℕ) (at : Ref) (old new : Frame) (filled : IsFilled number at old new) where
  bare : Naming
  bare = record { heads = []; methods = λ m. reference [] [] []; names = [] }

  same_count : length new.locals ≡ length old.locals
  same_count =
      sym (length-map new.locals (local bare new.method.0)) ∙ ap length (filled.locals bare)
      ∙ length-map (locals_of bare old) (filled_local number (machine.Reference (object bare at))) ∙ length-map old.locals (local bare old.method.0)

module _ (old mid after : MachineState) (vs : List Value) (v : Value) (takes : Takes old mid (vs ++ v ∷ [])) (number : ℕ) (at : Ref) (operands : List Value) (locals : List Local)
    (frame : FillsFrame number at operands locals after takes.rest (with_values takes.before takes.left)) (index : ℕ) (own : List Frame) (len : length after.frames.items ≡ suc index) where
  abbrev now : Frame
  now = with_values takes.before takes.left

  refilled : IsRefilled operands locals now frame.after
  refilled = record {
    rest = frame.filled.rest;
    room = frame.filled.room;
    values = frame.operands_were;
    fits = fits_left takes.before now vs v takes.taken;
    held = frame.locals_were;
    count = same_count number at now frame.after frame.filled;
  }

  mid_len : length mid.frames.items ≡ suc index
  mid_len =
      let a = ap length frame.are ∙ length-append takes.rest (frame.after ∷ []) in
      let b = ap length takes.turned.after ∙ length-append takes.rest (now ∷ []) in
      let one : length (now ∷ []) ≡ length (frame.after ∷ []) = refl in
      omega (arith, a, b, one, len)

  pub token_back : (state first second final : MachineState) → state.frames.items ≡ after.frames.items ++ own → Refills index operands locals state first → PutsBack index (v ∷ []) first second → PutsBack index vs second final → final.frames.items ≡ old.frames.items ++ own
  token_back state first second final items fills one all =
      let there : state.frames.items ≡ takes.rest ++ frame.after ∷ own = items ∙ ap (λ (fs : List Frame). fs ++ own) frame.are ∙ append_assoc takes.rest (frame.after ∷ []) own in
      let at_mid : first.frames.items ≡ mid.frames.items ++ own =
      fills.frames takes.rest own now frame.after (place old mid (vs ++ v ∷ []) takes index mid_len) there refilled
      ∙ sym (ap (λ (fs : List Frame). fs ++ own) takes.turned.after ∙ append_assoc takes.rest (now ∷ []) own) in
      two_back old mid (vs ++ v ∷ []) takes index own first final at_mid mid_len vs v refl second one all

-- ---- every invocation

saved_items : (mid after : MachineState) (o : Option (List Bool)) → AreSaved mid after o → after.frames.items ≡ mid.frames.items
saved_items mid after None same = ap (λ (s : MachineState). s.frames.items) same
saved_items mid after (Some begun) same = same.2

module _ (index : ℕ) (call : Invocation) (old : MachineState) where
  pub arguments_restored : (saved : Option (List Bool)) (new : MachineState) → call.before ≡ Arguments saved → PutsBack index (reverse call.arguments.items) old new → RestoresFrame index call old new
  arguments_restored saved new is puts = record {
    same = puts.same;
    frames = λ before after own can items len.
        let took = subst (UndoneBy before after call) is can.undone in
        let mids = saved_items took.mid after saved took.marked in
        all_back before took.mid (reverse call.arguments.items) took.takes index own old new (items ∙ ap (λ (fs : List Frame). fs ++ own) mids) (sym (ap length mids) ∙ len) puts;
  }

  pub receiver_restored : (first new : MachineState) → call.before ≡ Receiver → PutsBack index (receiver_value (Object call.receiver) ∷ []) old first → PutsBack index (reverse call.arguments.items) first new → RestoresFrame index call old new
  receiver_restored first new is one all = record {
    same = all.same ∙ ap (λ (s : MachineState). record s { frames = new.frames }) one.same;
    frames = λ before after own can items len.
        let takes = subst (UndoneBy before after call) is can.undone in
        two_back before after (reverse call.arguments.items ++ receiver_value (Object call.receiver) ∷ []) takes index own old new items len (reverse call.arguments.items) (receiver_value (Object call.receiver)) refl first one all;
  }

  pub token_restored : (class : ClassId) (number : ℕ) (operands : List Value) (locals : List Local) (first second new : MachineState) → call.before ≡ Token class number operands locals → Refills index operands locals old first
      → PutsBack index (token_value class number ∷ []) first second → PutsBack index (reverse call.arguments.items) second new → RestoresFrame index call old new
  token_restored class number operands locals first second new is fills one all = record {
    same = all.same ∙ ap (λ (s : MachineState). record s { frames = new.frames }) one.same ∙ ap (λ (s : MachineState). record s { frames = new.frames }) fills.same;
    frames = λ before after own can items len.
        let took = subst (UndoneBy before after call) is can.undone in
        token_back before took.mid after (reverse call.arguments.items) (token_value class number) took.takes number took.at operands locals (took.fills.frames took.takes.rest (with_values took.takes.before took.takes.left) took.takes.turned.after)
        index own len old first second new items fills one all;
  }
