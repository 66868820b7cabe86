-- The worked example, woven by hand: what its run shows, and that the laws speak of it.
use Rattle.std.proofs.Common.{◌≡◌, ℕ, List, [], ◌∷◌, ◌++◌, Some, None, refl, sym, ap, arith, true≢false, codes}
use Rattle.event_machine.specs.Observation.{Observation, observed}
use Rattle.opcode_table.specs.declared.insn.Insn.TheVariants as insn
use Rattle.opcode_table.specs.Decoding.{decoded}
use Rattle.opcode_table.specs.Spelling.{spelling}
use Rattle.opcode_table.specs.Table.{opcode}
use Rattle.class_file.specs.declared.types.ClassFile.{ClassFile}
use Rattle.class_file.specs.declared.types.CodeAttr.{CodeAttr}
use Rattle.class_file.specs.Pool.{this_name}
use Rattle.class_machine.specs.Events.{Event, Print, Ending, Returned}
use Rattle.class_machine.specs.ClassFiles.{is_named}
use Rattle.class_machine.specs.Run.{class_step, class_start}
use Rattle.jp_model.specs.AspectText.{aspect_of}
use Rattle.jp_model.specs.JoinPointMachine.{aspect_step, aspect_start}
use Rattle.jp_model.specs.Headline.{AreApart, entry_in, Behaves}
use Rattle.jp_model.specs.Example.{example_pool, example_code, example_method, printing_code, main_code, example_class, main_method, example_aspect}
use Rattle.woven_calls.specs.Woven.{IsWovenCode, call_entries, call_index, IsWovenClass, Woven, aspect_class}
use Rattle.woven_calls.specs.Laws.{woven_behaves}

-- invokestatic T.ajc$before$1, invokestatic C.m, return
abbrev woven_main : CodeAttr
woven_main = example_code 0 (184 ∷ 0 ∷ 29 ∷ 184 ∷ 0 ∷ 23 ∷ 177 ∷ [])

abbrev woven_class : ClassFile
woven_class = record {
  minor = 0;
  major = 46;
  pool = example_pool ++ call_entries example_pool example_aspect;
  flags = record { 0 = 32 };
  this_class = 2;
  super_class = 4;
  interfaces = [];
  fields = [];
  methods = example_method 5 printing_code ∷ example_method 21 woven_main ∷ [];
  attributes = [];
}

abbrev written : List ClassFile
written = woven_class ∷ aspect_class example_aspect ∷ []

woven_found : entry_in written (codes "C") (codes "main") [] ≡ Some main_method
woven_found = refl

-- what the woven classes show within so many steps
abbrev woven : ℕ → Observation Event Ending
woven n = observed (class_step written) n (class_start written [] main_method [])

abbrev both : List Event
both = Print (97 ∷ 10 ∷ []) ∷ Print (109 ∷ 10 ∷ []) ∷ []

woven_ends : woven 11 ≡ record { events = both; ending = Some (Returned None) }
unfolding decoded opcode
woven_ends = refl

woven_goes : woven 10 ≡ record { events = both; ending = None }
unfolding decoded opcode
woven_goes = refl

-- so does the join point machine on the class and the aspect
advised_shows : observed (aspect_step (example_class ∷ []) (aspect_of example_aspect ∷ [])) 10 (aspect_start (example_class ∷ []) [] main_method []) ≡ woven 11
unfolding decoded opcode
advised_shows = refl

-- it is the woven class
printing_woven : IsWovenCode example_pool example_aspect (call_index example_pool) printing_code.code printing_code.code
unfolding spelling opcode
printing_woven = record {
  insns = insn.Pool 178 13 ∷ insn.Pool 18 14 ∷ insn.Pool 182 20 ∷ insn.Plain 177 ∷ [];
  single = ((omega arith, tt), ((omega arith, tt), ((omega arith, tt), ((refl, tt), tt))));
  before = refl;
  after = refl;
}

main_woven : IsWovenCode example_pool example_aspect (call_index example_pool) main_code.code woven_main.code
unfolding spelling opcode
main_woven = record {
  insns = insn.Pool 184 23 ∷ insn.Plain 177 ∷ [];
  single = ((omega arith, tt), ((refl, tt), tt));
  before = refl;
  after = refl;
}

is_woven : IsWovenClass example_aspect example_class woven_class
is_woven = record {
  methods = example_method 5 printing_code ∷ example_method 21 woven_main ∷ [];
  each = (
    record { name = 7; code = printing_code; bytes = printing_code.code; woven = printing_woven; before = refl; after = refl },
    (record { name = 7; code = main_code; bytes = woven_main.code; woven = main_woven; before = refl; after = refl }, tt),
  );
  after = refl;
}

apart : AreApart (this_name example_class ∷ Some example_aspect.name ∷ [])
apart = (((λ same. true≢false (sym (ap (is_named example_aspect.name) same))), tt), (tt, tt))

-- the law speaks of it
example_behaves : Behaves (example_class ∷ []) (aspect_of example_aspect ∷ []) written
unfolding decoded opcode
example_behaves = woven_behaves (example_class ∷ []) (woven_class ∷ []) example_aspect (refl, tt) refl apart (Woven is_woven, tt)
