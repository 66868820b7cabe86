-- The entries that are put behind a pool, and the pool of the aspect's class.
use Rattle.std.proofs.Common.{◌≡◌, ℕ, ◌+◌, List, [], ◌∷◌, ◌++◌, length, refl, append_assoc}
use Rattle.std.specs.Prelude.{codes}
use Rattle.class_file.specs.declared.pool.PoolEntry.{PoolEntry}
use Rattle.class_file.specs.declared.pool.PoolEntry.TheVariants as entry
use Rattle.jp_model.specs.declared.first_aspect.FirstAspect.{FirstAspect}
use Rattle.woven_calls.specs.Woven.{advice_name, call_entries, aspect_pool}

pub pushed : (a : FirstAspect) (pool p1 p2 p3 p4 p5 p6 : List PoolEntry) (n : ℕ) (x1 x3 x4 : PoolEntry) → n ≡ length pool
    → x1 ≡ entry.Utf8 a.name → p1 ≡ pool ++ x1 ∷ [] → p2 ≡ p1 ++ entry.Class (n + 1) ∷ []
    → x3 ≡ entry.Utf8 advice_name → p3 ≡ p2 ++ x3 ∷ [] → x4 ≡ entry.Utf8 (codes "()V") → p4 ≡ p3 ++ x4 ∷ []
    → p5 ≡ p4 ++ entry.NameAndType (n + 1 + 2) (n + 1 + 3) ∷ [] → p6 ≡ p5 ++ entry.Methodref (n + 1 + 1) (n + 1 + 4) ∷ []
    → p6 ≡ pool ++ call_entries pool a
pushed a pool p1 p2 p3 p4 p5 p6 n x1 x3 x4 e i1 e1 e2 i3 e3 i4 e4 e5 e6 = rw (e6, e5, e4, e3, e2, e1, i1, i3, i4, e) (simp append_assoc)

pub aspect_pool_is : (a : FirstAspect) (pool : List PoolEntry) (u1 u2 u3 u4 u5 u6 u7 u8 u9 u10 u11 u12 : PoolEntry)
    → pool ≡ u1 ∷ entry.Class 1 ∷ u2 ∷ entry.Class 3 ∷ u3 ∷ u4 ∷ u5 ∷ u6 ∷ entry.Class 8 ∷ u7 ∷ u8 ∷ entry.NameAndType 10 11 ∷ entry.Fieldref 9 12
    ∷ u9 ∷ entry.String 14 ∷ u10 ∷ entry.Class 16 ∷ u11 ∷ u12 ∷ entry.NameAndType 18 19 ∷ entry.Methodref 17 20 ∷ []
    → u1 ≡ entry.Utf8 a.name → u2 ≡ entry.Utf8 (codes "java/lang/Object") → u3 ≡ entry.Utf8 advice_name → u4 ≡ entry.Utf8 (codes "()V")
    → u5 ≡ entry.Utf8 (codes "Code") → u6 ≡ entry.Utf8 (codes "java/lang/System") → u7 ≡ entry.Utf8 (codes "out") → u8 ≡ entry.Utf8 (codes "Ljava/io/PrintStream;")
    → u9 ≡ entry.Utf8 a.text → u10 ≡ entry.Utf8 (codes "java/io/PrintStream") → u11 ≡ entry.Utf8 (codes "println") → u12 ≡ entry.Utf8 (codes "(Ljava/lang/String;)V")
    → pool ≡ aspect_pool a
aspect_pool_is a pool u1 u2 u3 u4 u5 u6 u7 u8 u9 u10 u11 u12 e e1 e2 e3 e4 e5 e6 e7 e8 e9 e10 e11 e12 = rw (e, e1, e2, e3, e4, e5, e6, e7, e8, e9, e10, e11, e12) refl
