-- The readers of rows of tables, of the attributes of a Code and of a Code read the spellings of those that are sound.
use Rattle.std.proofs.Common.{◌≡◌, ℕ, Bool, true, false, ◌&&◌, List, length, Option, Some, None, Ok, refl, sym, ap, ◌∙◌}
use Rattle.std.specs.Prelude.{is_some}
use Rattle.std.specs.List.{list_all}
use Rattle.std.specs.Int.{w16, w32}
use Rattle.std.proofs.lemmas.Bool.{and_parts, and_from}
use Rattle.class_file.specs.declared.pool.PoolEntry.{PoolEntry}
use Rattle.class_file.specs.declared.types.CodeAttr.{CodeAttr}
use Rattle.class_file.specs.declared.types.CodeContent.{CodeContent}
use Rattle.class_file.specs.declared.types.CodeContent.TheVariants as code_content
use Rattle.class_file.specs.declared.types.LineRow.{LineRow}
use Rattle.class_file.specs.declared.types.VariableRow.{VariableRow}
use Rattle.class_file.specs.Spelling.{u2, counted, spelled_exception, spelled_inner, spelled_line, spelled_variable, spelled_code_content, spelled_code_attribute, spelled_code}
use Rattle.class_file.specs.Range.{is_u2, is_u4, are_bytes, counted_fits, exception_fits, inner_fits, line_fits, variable_fits, code_content_fits, code_attribute_fits, code_fits}
use Rattle.class_file.specs.Pool.{text_at}
use Rattle.class_file.specs.Sound.{is_some_that}
use Rattle.class_file.specs.WellFormed.{CodeKind, kind_in_code, is_of_code_kind, is_class_index, is_class_or_none, is_name_index, is_name_or_none, inner_is_sound, variable_is_sound, variable_type_is_sound, code_content_is_sound, code_attribute_is_sound}
use Rattle.class_format.specs.Readers.{number, sized, listed, index_that, others, behind_length}
use Rattle.class_format.specs.Roles.{is_text_index, is_type_index}
use Rattle.class_format.specs.PartReading.{to_exception, exception, to_inner, inner_class, to_line, line, to_variable, variable, in_code, code_kind_at, to_code_attribute, code_attribute, to_code, code}
use Rattle.class_format.specs.LawsCodec.{IsCodec, u2_codec, sized_spelling, bytes_codec}
use Rattle.class_format.specs.LawsParts.{followed, followed_codec, followed_by, both_codec, made_codec, same_codec, index_codec, same_reader, IsWhole, whole_from, others_whole, kind_whole, length_codec}
use Rattle.class_format.specs.LawsLists.{listed_codec, sound_listed}

-- two tests that each pass where the other does are one
pub same_truth : (a b : Bool) → (a ≡ true → b ≡ true) → (b ≡ true → a ≡ true) → a ≡ b
same_truth true b there back = sym (there refl)
same_truth false true there back = back refl
same_truth false false there back = refl

-- a test that fails
pub no_such : {A : Type 0} (b : Bool) → (b && false) ≡ true → A
no_such true h = absurd (let apart : false ≡ true = h in cc)
no_such false h = absurd (let apart : false ≡ true = h in cc)

-- ---- rows of tables

exception_same : (a b c d t : Bool) → (a && (b && (c && (d && t)))) ≡ ((a && (b && (c && d))) && t)
exception_same true true true d t = refl
exception_same true true false d t = refl
exception_same true false c d t = refl
exception_same false b c d t = refl

module _ (pool : List PoolEntry) where
  pub exception_codec : IsCodec (exception pool) spelled_exception (λ e. exception_fits e && is_class_or_none pool e.catch_type)
  unfolding exception
  exception_codec =
      let i = index_codec (is_class_or_none pool) in
      let a = both_codec (number w16) (index_that (is_class_or_none pool)) u2 u2 is_u2 (λ n. is_u2 n && is_class_or_none pool n) u2_codec i in
      let b = both_codec (number w16) _ u2 _ is_u2 _ u2_codec a in
      let c = both_codec (number w16) _ u2 _ is_u2 _ u2_codec b in
      let d = made_codec to_exception (λ e. (e.start, (e.end, (e.handler, e.catch_type)))) _ _ _ (λ x h. refl) (λ e. refl) c in
      let e = same_codec _ spelled_exception _ (λ e. exception_fits e && is_class_or_none pool e.catch_type)
      (λ e. exception_same (is_u2 e.start) (is_u2 e.end) (is_u2 e.handler) (is_u2 e.catch_type) (is_class_or_none pool e.catch_type)) d in
      record { takes = e.takes; again = e.again }

  inner_same : (i o n f t u v : Bool) → ((i && t) && ((o && u) && ((n && v) && f))) ≡ ((i && (o && (n && f))) && (t && (u && v)))
  inner_same i o n f t u v =
      same_truth ((i && t) && ((o && u) && ((n && v) && f))) ((i && (o && (n && f))) && (t && (u && v)))
      (λ h.
      let a = and_parts (i && t) ((o && u) && ((n && v) && f)) h in
      let b = and_parts i t a.0 in
      let c = and_parts (o && u) ((n && v) && f) a.1 in
      let d = and_parts o u c.0 in
      let e = and_parts (n && v) f c.1 in
      let g = and_parts n v e.0 in
      and_from _ _ (and_from _ _ b.0 (and_from _ _ d.0 (and_from _ _ g.0 e.1))) (and_from _ _ b.1 (and_from _ _ d.1 g.1)))
      (λ h.
      let a = and_parts (i && (o && (n && f))) (t && (u && v)) h in
      let b = and_parts i (o && (n && f)) a.0 in
      let c = and_parts o (n && f) b.1 in
      let d = and_parts n f c.1 in
      let e = and_parts t (u && v) a.1 in
      let g = and_parts u v e.1 in
      and_from _ _ (and_from _ _ b.0 e.0) (and_from _ _ (and_from _ _ c.0 g.0) (and_from _ _ (and_from _ _ d.0 g.1) d.1)))

  pub inner_codec : IsCodec (inner_class pool) spelled_inner (λ c. inner_fits c && inner_is_sound pool c)
  unfolding inner_class
  inner_codec =
      let a = both_codec (index_that (is_name_or_none pool)) (number w16) u2 u2 _ is_u2 (index_codec (is_name_or_none pool)) u2_codec in
      let b = both_codec (index_that (is_class_or_none pool)) _ u2 _ _ _ (index_codec (is_class_or_none pool)) a in
      let c = both_codec (index_that (is_class_index pool)) _ u2 _ _ _ (index_codec (is_class_index pool)) b in
      let d = made_codec to_inner (λ c. (c.inner, (c.outer, (c.name, c.flags.0)))) _ _ _ (λ x h. refl) (λ c. refl) c in
      let e = same_codec _ spelled_inner _ (λ c. inner_fits c && inner_is_sound pool c)
      (λ c. inner_same (is_u2 c.inner) (is_u2 c.outer) (is_u2 c.name) (is_u2 c.flags.0) (is_class_index pool c.inner) (is_class_or_none pool c.outer) (is_name_or_none pool c.name)) d in
      record { takes = e.takes; again = e.again }

  line_codec : IsCodec line spelled_line line_fits
  unfolding line
  line_codec =
      let a = both_codec (number w16) (number w16) u2 u2 is_u2 is_u2 u2_codec u2_codec in
      let b = made_codec to_line (λ r. (r.start, r.line)) _ _ _ (λ x h. refl) (λ r. refl) a in
      record { takes = b.takes; again = b.again }

  variable_same : (s l n d i t u : Bool) → (s && (l && ((n && t) && ((d && u) && i)))) ≡ ((s && (l && (n && (d && i)))) && (t && u))
  variable_same s l n d i t u =
      same_truth (s && (l && ((n && t) && ((d && u) && i)))) ((s && (l && (n && (d && i)))) && (t && u))
      (λ h.
      let a = and_parts s (l && ((n && t) && ((d && u) && i))) h in
      let b = and_parts l ((n && t) && ((d && u) && i)) a.1 in
      let c = and_parts (n && t) ((d && u) && i) b.1 in
      let e = and_parts n t c.0 in
      let f = and_parts (d && u) i c.1 in
      let g = and_parts d u f.0 in
      and_from _ _ (and_from _ _ a.0 (and_from _ _ b.0 (and_from _ _ e.0 (and_from _ _ g.0 f.1)))) (and_from _ _ e.1 g.1))
      (λ h.
      let a = and_parts (s && (l && (n && (d && i)))) (t && u) h in
      let b = and_parts s (l && (n && (d && i))) a.0 in
      let c = and_parts l (n && (d && i)) b.1 in
      let e = and_parts n (d && i) c.1 in
      let f = and_parts d i e.1 in
      let g = and_parts t u a.1 in
      and_from _ _ b.0 (and_from _ _ c.0 (and_from _ _ (and_from _ _ e.0 g.0) (and_from _ _ (and_from _ _ f.0 g.1) f.1))))

  variable_codec : (is_type : ℕ → Bool) → IsCodec (variable is_type pool) spelled_variable (λ r. variable_fits r && (is_name_index pool r.name && is_type r.descriptor))
  unfolding variable
  variable_codec is_type =
      let a = both_codec (index_that is_type) (number w16) u2 u2 _ is_u2 (index_codec is_type) u2_codec in
      let b = both_codec (index_that (is_name_index pool)) _ u2 _ _ _ (index_codec (is_name_index pool)) a in
      let c = both_codec (number w16) _ u2 _ is_u2 _ u2_codec b in
      let d = both_codec (number w16) _ u2 _ is_u2 _ u2_codec c in
      let e = made_codec to_variable (λ r. (r.start, (r.length, (r.name, (r.descriptor, r.index))))) _ _ _ (λ x h. refl) (λ r. refl) d in
      let f = same_codec _ spelled_variable _ (λ r. variable_fits r && (is_name_index pool r.name && is_type r.descriptor))
      (λ r. variable_same (is_u2 r.start) (is_u2 r.length) (is_u2 r.name) (is_u2 r.descriptor) (is_u2 r.index) (is_name_index pool r.name) (is_type r.descriptor)) e in
      record { takes = f.takes; again = f.again }

  -- ---- attributes of a Code

  abbrev content_stands : CodeKind → CodeContent → Bool
  content_stands kind c = code_content_fits c && (is_of_code_kind kind c && code_content_is_sound pool c)

  lines_back : (c : CodeContent) → content_stands CodeKind.Lines c ≡ true → (rows : List LineRow) × (counted_fits line_fits rows ≡ true) × (code_content.LineNumberTable rows ≡ c)
  lines_back (code_content.LineNumberTable rows) h = (rows, (and_parts (counted_fits line_fits rows) true h).0, refl)
  lines_back (code_content.LocalVariableTable rows) h = no_such _ h
  lines_back (code_content.LocalVariableTypeTable rows) h = no_such _ h
  lines_back (code_content.Other bytes) h = no_such _ h

  variables_back : (c : CodeContent) → content_stands CodeKind.Variables c ≡ true
      → (rows : List VariableRow) × ((counted_fits variable_fits rows && list_all (variable_is_sound pool) rows) ≡ true) × (code_content.LocalVariableTable rows ≡ c)
  variables_back (code_content.LineNumberTable rows) h = no_such _ h
  variables_back (code_content.LocalVariableTable rows) h = (rows, h, refl)
  variables_back (code_content.LocalVariableTypeTable rows) h = no_such _ h
  variables_back (code_content.Other bytes) h = no_such _ h

  types_back : (c : CodeContent) → content_stands CodeKind.VariableTypes c ≡ true
      → (rows : List VariableRow) × ((counted_fits variable_fits rows && list_all (variable_type_is_sound pool) rows) ≡ true) × (code_content.LocalVariableTypeTable rows ≡ c)
  types_back (code_content.LineNumberTable rows) h = no_such _ h
  types_back (code_content.LocalVariableTable rows) h = no_such _ h
  types_back (code_content.LocalVariableTypeTable rows) h = (rows, h, refl)
  types_back (code_content.Other bytes) h = no_such _ h

  bytes_back : (c : CodeContent) → content_stands CodeKind.Bytes c ≡ true → (bytes : List ℕ) × (are_bytes bytes ≡ true) × (code_content.Other bytes ≡ c)
  bytes_back (code_content.LineNumberTable rows) h = no_such _ h
  bytes_back (code_content.LocalVariableTable rows) h = no_such _ h
  bytes_back (code_content.LocalVariableTypeTable rows) h = no_such _ h
  bytes_back (code_content.Other bytes) h = (bytes, (and_parts (are_bytes bytes) true h).0, refl)

  in_code_whole : (kind : CodeKind) → IsWhole (in_code pool kind) spelled_code_content (content_stands kind)
  unfolding in_code
  in_code_whole CodeKind.Lines =
      let c = kind_whole code_content.LineNumberTable (listed line) (counted spelled_line) (counted_fits line_fits) spelled_code_content (content_stands CodeKind.Lines)
      (λ x h. (refl, and_from _ _ h refl)) lines_back (whole_from _ _ _ (listed_codec line spelled_line line_fits line_codec)) in
      record { takes = c.takes; again = c.again }
  in_code_whole CodeKind.Variables =
      let c = kind_whole code_content.LocalVariableTable (listed (variable (is_type_index pool) pool)) (counted spelled_variable) (λ rows. counted_fits variable_fits rows && list_all (variable_is_sound pool) rows) spelled_code_content (content_stands CodeKind.Variables)
      (λ x h. (refl, h)) variables_back (whole_from _ _ _ (sound_listed (variable (is_type_index pool) pool) spelled_variable variable_fits (variable_is_sound pool) (variable_codec (is_type_index pool)))) in
      record { takes = c.takes; again = c.again }
  in_code_whole CodeKind.VariableTypes =
      let c = kind_whole code_content.LocalVariableTypeTable (listed (variable (is_text_index pool) pool)) (counted spelled_variable) (λ rows. counted_fits variable_fits rows && list_all (variable_type_is_sound pool) rows) spelled_code_content (content_stands CodeKind.VariableTypes)
      (λ x h. (refl, h)) types_back (whole_from _ _ _ (sound_listed (variable (is_text_index pool) pool) spelled_variable variable_fits (variable_type_is_sound pool) (variable_codec (is_text_index pool)))) in
      record { takes = c.takes; again = c.again }
  in_code_whole CodeKind.Bytes =
      let c = kind_whole code_content.Other others (λ b. b) are_bytes spelled_code_content (content_stands CodeKind.Bytes) (λ x h. (refl, and_from _ _ h refl)) bytes_back others_whole in
      record { takes = c.takes; again = c.again }

  kind_same : (c : CodeContent) (o : Option (List ℕ)) → (is_some o && is_of_code_kind (elim o [ Some name ↦ kind_in_code name | None ↦ CodeKind.Bytes ]) c) ≡ is_some_that (λ name. is_of_code_kind (kind_in_code name) c) o
  kind_same c (Some name) = refl
  kind_same c None = refl

  attribute_same : (n i w f k s : Bool) → ((n && i) && (w && (f && (k && s)))) ≡ ((n && (w && f)) && ((i && k) && s))
  attribute_same n i w f k s =
      same_truth ((n && i) && (w && (f && (k && s)))) ((n && (w && f)) && ((i && k) && s))
      (λ h.
      let a = and_parts (n && i) (w && (f && (k && s))) h in
      let b = and_parts n i a.0 in
      let c = and_parts w (f && (k && s)) a.1 in
      let d = and_parts f (k && s) c.1 in
      let e = and_parts k s d.1 in
      and_from _ _ (and_from _ _ b.0 (and_from _ _ c.0 d.0)) (and_from _ _ (and_from _ _ b.1 e.0) e.1))
      (λ h.
      let a = and_parts (n && (w && f)) ((i && k) && s) h in
      let b = and_parts n (w && f) a.0 in
      let c = and_parts w f b.1 in
      let d = and_parts (i && k) s a.1 in
      let e = and_parts i k d.0 in
      and_from _ _ (and_from _ _ b.0 e.0) (and_from _ _ c.0 (and_from _ _ c.1 (and_from _ _ e.1 d.1))))

  pub code_attribute_codec : IsCodec (code_attribute pool) spelled_code_attribute (λ a. code_attribute_fits a && code_attribute_is_sound pool a)
  unfolding code_attribute
  code_attribute_codec =
      let s = λ (name : ℕ). behind_length (in_code pool (code_kind_at pool name)) in
      let a = followed_codec (index_that (is_text_index pool)) s u2 (λ name c. sized_spelling w32 (spelled_code_content c)) (λ n. is_u2 n && is_text_index pool n)
      (λ name c. is_u4 (length (spelled_code_content c)) && content_stands (code_kind_at pool name) c)
      (index_codec (is_text_index pool)) (λ name h. length_codec (in_code pool (code_kind_at pool name)) spelled_code_content (content_stands (code_kind_at pool name)) (in_code_whole (code_kind_at pool name))) in
      let b = made_codec (λ z. to_code_attribute z.0 z.1) (λ a. (a.name, a.content)) (followed (index_that (is_text_index pool)) s) _ _ (λ x h. refl) (λ a. refl) a in
      let c = same_codec _ spelled_code_attribute _ (λ a. code_attribute_fits a && code_attribute_is_sound pool a)
      (λ a.
      attribute_same (is_u2 a.name) (is_text_index pool a.name) (is_u4 (length (spelled_code_content a.content))) (code_content_fits a.content) (is_of_code_kind (code_kind_at pool a.name) a.content) (code_content_is_sound pool a.content)
      ∙ ap (λ (k : Bool). code_attribute_fits a && (k && code_content_is_sound pool a.content)) (kind_same a.content (text_at pool a.name))) b in
      let d = same_reader _ (code_attribute pool) spelled_code_attribute _
      (λ scope bytes. followed_by (index_that (is_text_index pool)) s (λ z. Ok (to_code_attribute z.0.0 z.0.1, z.1)) scope bytes) c in
      record { takes = d.takes; again = d.again }

  -- ---- a Code

  -- but for the places in its code
  abbrev pub code_stands : CodeAttr → Bool
  code_stands c = list_all (λ e. is_class_or_none pool e.catch_type) c.entries && list_all (code_attribute_is_sound pool) c.attributes

  code_same : (s l n b e x a t : Bool) → (s && (l && ((n && b) && ((e && x) && (a && t))))) ≡ ((s && (l && (n && (b && (e && a))))) && (x && t))
  code_same s l n b e x a t =
      same_truth (s && (l && ((n && b) && ((e && x) && (a && t))))) ((s && (l && (n && (b && (e && a))))) && (x && t))
      (λ h.
      let i = and_parts s (l && ((n && b) && ((e && x) && (a && t)))) h in
      let j = and_parts l ((n && b) && ((e && x) && (a && t))) i.1 in
      let k = and_parts (n && b) ((e && x) && (a && t)) j.1 in
      let m = and_parts n b k.0 in
      let o = and_parts (e && x) (a && t) k.1 in
      let p = and_parts e x o.0 in
      let q = and_parts a t o.1 in
      and_from _ _ (and_from _ _ i.0 (and_from _ _ j.0 (and_from _ _ m.0 (and_from _ _ m.1 (and_from _ _ p.0 q.0))))) (and_from _ _ p.1 q.1))
      (λ h.
      let i = and_parts (s && (l && (n && (b && (e && a))))) (x && t) h in
      let j = and_parts s (l && (n && (b && (e && a)))) i.0 in
      let k = and_parts l (n && (b && (e && a))) j.1 in
      let m = and_parts n (b && (e && a)) k.1 in
      let o = and_parts b (e && a) m.1 in
      let p = and_parts e a o.1 in
      let q = and_parts x t i.1 in
      and_from _ _ j.0 (and_from _ _ k.0 (and_from _ _ (and_from _ _ m.0 o.0) (and_from _ _ (and_from _ _ p.0 q.0) (and_from _ _ p.1 q.1)))))

  pub code_codec : IsCodec (code pool) spelled_code (λ c. code_fits c && code_stands c)
  unfolding code
  code_codec =
      let es = sound_listed (exception pool) spelled_exception exception_fits (λ e. is_class_or_none pool e.catch_type) exception_codec in
      let xs = sound_listed (code_attribute pool) spelled_code_attribute code_attribute_fits (code_attribute_is_sound pool) code_attribute_codec in
      let a = both_codec (listed (exception pool)) (listed (code_attribute pool)) (counted spelled_exception) (counted spelled_code_attribute) _ _ es xs in
      let b = both_codec (sized w32) _ (sized_spelling w32) _ (λ text. is_u4 (length text) && are_bytes text) _ bytes_codec a in
      let c = both_codec (number w16) _ u2 _ is_u2 _ u2_codec b in
      let d = both_codec (number w16) _ u2 _ is_u2 _ u2_codec c in
      let e = made_codec to_code (λ c. (c.max_stack, (c.max_locals, (c.code, (c.entries, c.attributes))))) _ _ _ (λ x h. refl) (λ c. refl) d in
      let f = same_codec _ spelled_code _ (λ c. code_fits c && code_stands c)
      (λ c. code_same (is_u2 c.max_stack) (is_u2 c.max_locals) (is_u4 (length c.code)) (are_bytes c.code) (counted_fits exception_fits c.entries) (list_all (λ e. is_class_or_none pool e.catch_type) c.entries) (counted_fits code_attribute_fits c.attributes) (list_all (code_attribute_is_sound pool) c.attributes)) e in
      record { takes = f.takes; again = f.again }
