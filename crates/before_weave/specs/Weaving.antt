-- What weaving an aspect into a class makes of the class.
use Rattle.std.specs.Prelude.{◌≡◌, ◌++◌, true, List}
use Rattle.std.specs.List.{Any}
use Rattle.class_file.specs.declared.types.ClassFile.{ClassFile}
use Rattle.class_file.specs.declared.types.Member.{Member}
use Rattle.jp_model.specs.declared.first_aspect.FirstAspect.{FirstAspect}
use Rattle.woven_calls.specs.Woven.{IsWovenClass, IsUnadvised, call_entries}
use Rattle.before_weave.specs.Marks.{marks_of}
use Rattle.before_weave.specs.Walk.{HasCalls}

-- the class with the pool's entries for a call of the advice's method, and with these methods
abbrev pub with_calls : FirstAspect → ClassFile → List Member → ClassFile
with_calls a c methods = record {
  minor = c.minor;
  major = c.major;
  pool = c.pool ++ call_entries c.pool a;
  flags = c.flags;
  this_class = c.this_class;
  super_class = c.super_class;
  interfaces = c.interfaces;
  fields = c.fields;
  methods = methods;
  attributes = c.attributes;
}

-- The class is woven where some method has advised calls; else it is as it was.
pub data IsClassWeaving (a : FirstAspect) (old new : ClassFile) : Type 0 where
  Woven : (calls : Any (HasCalls (marks_of old.pool a) true) old.methods) (woven : IsWovenClass a old new) → IsClassWeaving a old new
  Kept : (same : new ≡ old) (unadvised : IsUnadvised a old) → IsClassWeaving a old new
