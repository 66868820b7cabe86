-- What an edit of a constant pool appends (JVMS 4.4): an entry that has no equal there yet. Old entries keep their indices.
use Rattle.std.specs.Prelude.{◌≡◌, ℕ, suc, ◌+◌, Bool, if◌then◌else◌, List, [], ◌∷◌, ◌++◌, length, Option, Some, None, option_map}
use Rattle.class_file.specs.declared.pool.PoolEntry.{PoolEntry}
use Rattle.class_file.specs.declared.pool.PoolEntry.TheVariants as entry
use Rattle.class_file.specs.Sound.{is_wide}
use Rattle.class_file.specs.contracts.pool.PoolEntryPartialEq.TheImpl.{ghosts}
use Rattle.aj_names.specs.ModifiedUtf8.{text_spelling}
use Rattle.aj_names.specs.declared.types.FieldName.{FieldName}
use Rattle.aj_names.specs.declared.types.MethodName.{MethodName}
use Rattle.constant_pool.specs.declared.calls.MemberKind.{MemberKind}
use Rattle.constant_pool.specs.declared.calls.MemberKind.TheVariants as kind

-- the test by which entries are compared: it holds where they are equal (`Laws.same_entry-equal`)
abbrev pub same_entry : PoolEntry → PoolEntry → Bool
same_entry = ghosts.eq

-- the least index of an equal entry
abbrev pub least_index : List PoolEntry → PoolEntry → Option ℕ
least_index [] e = None
least_index (first ∷ others) e = if same_entry e first then Some 1 else option_map suc (least_index others e)

-- a pool with an entry, and the entry's index
abbrev pub Placed : Type 0
Placed = List PoolEntry × ℕ

-- the entry, and for a Long or Double its second index
abbrev pub slots : PoolEntry → List PoolEntry
slots e = if is_wide e then e ∷ entry.Second ∷ [] else e ∷ []

abbrev pub placed_at : List PoolEntry → PoolEntry → Option ℕ → Placed
placed_at pool e None = (pool ++ slots e, length pool + 1)
placed_at pool e (Some index) = (pool, index)

-- the entry is the first equal one, or is appended
unfoldable pub with_entry : List PoolEntry → PoolEntry → Placed
with_entry pool e = placed_at pool e (least_index pool e)

abbrev pub with_text : List PoolEntry → List ℕ → Placed
with_text pool text = with_entry pool (entry.Utf8 text)

-- what an entry names stands before it
unfoldable pub with_class : List PoolEntry → List ℕ → Placed
with_class pool name = let text = with_text pool name in with_entry text.0 (entry.Class text.1)

unfoldable pub with_string : List PoolEntry → List ℕ → Placed
with_string pool units = let text = with_text pool (text_spelling units) in with_entry text.0 (entry.String text.1)

-- the same for a text that is spelled already
unfoldable pub with_string_text : List PoolEntry → List ℕ → Placed
with_string_text pool text = let t = with_text pool text in with_entry t.0 (entry.String t.1)

unfoldable pub with_named_type : List PoolEntry → List ℕ → List ℕ → Placed
with_named_type pool name descriptor =
    let n = with_text pool name in
    let d = with_text n.0 descriptor in
    with_entry d.0 (entry.NameAndType n.1 d.1)

abbrev pub member_entry : MemberKind → ℕ → ℕ → PoolEntry
member_entry kind.Field class member = entry.Fieldref class member
member_entry kind.Method class member = entry.Methodref class member
member_entry kind.InterfaceMethod class member = entry.InterfaceMethodref class member

-- a member's class, its name and descriptor, and the entry for these
unfoldable pub with_member : List PoolEntry → MemberKind → List ℕ → List ℕ → List ℕ → Placed
with_member pool k class name descriptor =
    let c = with_class pool class in
    let m = with_named_type c.0 name descriptor in
    with_entry m.0 (member_entry k c.1 m.1)

abbrev pub with_field : List PoolEntry → FieldName → Placed
with_field pool f = with_member pool kind.Field f.class f.name f.descriptor

-- a method of a class or of an interface
abbrev pub method_kind : Bool → MemberKind
method_kind interface = if interface then kind.InterfaceMethod else kind.Method

abbrev pub with_method : List PoolEntry → MethodName → Placed
with_method pool m = with_member pool (method_kind m.interface) m.class m.name m.descriptor

-- the pool with some entries behind its own
pub record Extends (old new : List PoolEntry) : Type 0 where
  pub added : List PoolEntry
  pub is : new ≡ old ++ added
