-- The opcodes (the Java Virtual Machine Specification, second edition, chapter 9): for each its mnemonic, and the form of what stands behind it (6.4).
use Rattle.std.specs.Prelude.{ℕ, List, [], ◌∷◌, Option, Some, None, slice_get, codes}
use Rattle.opcode_table.specs.declared.form.Form.{Form}

-- a mnemonic, as the bytes of its text, and a form
pub record Opcode : Type 0 where
  pub mnemonic : List ℕ
  pub form : Form

abbrev pub used : List ℕ → Form → Option Opcode
used mnemonic form = Some (record { mnemonic = mnemonic; form = form })

-- what each number from 0 on is
abbrev pub opcodes : List (Option Opcode)
opcodes =
    used (codes "nop") Form.Plain ∷
    used (codes "aconst_null") Form.Plain ∷
    used (codes "iconst_m1") Form.Plain ∷
    used (codes "iconst_0") Form.Plain ∷
    used (codes "iconst_1") Form.Plain ∷
    used (codes "iconst_2") Form.Plain ∷
    used (codes "iconst_3") Form.Plain ∷
    used (codes "iconst_4") Form.Plain ∷
    used (codes "iconst_5") Form.Plain ∷
    used (codes "lconst_0") Form.Plain ∷
    used (codes "lconst_1") Form.Plain ∷
    used (codes "fconst_0") Form.Plain ∷
    used (codes "fconst_1") Form.Plain ∷
    used (codes "fconst_2") Form.Plain ∷
    used (codes "dconst_0") Form.Plain ∷
    used (codes "dconst_1") Form.Plain ∷
    used (codes "bipush") Form.Byte ∷
    used (codes "sipush") Form.Short ∷
    used (codes "ldc") Form.NarrowPool ∷
    used (codes "ldc_w") Form.Pool ∷
    used (codes "ldc2_w") Form.Pool ∷
    used (codes "iload") Form.Local ∷
    used (codes "lload") Form.Local ∷
    used (codes "fload") Form.Local ∷
    used (codes "dload") Form.Local ∷
    used (codes "aload") Form.Local ∷
    used (codes "iload_0") Form.Plain ∷
    used (codes "iload_1") Form.Plain ∷
    used (codes "iload_2") Form.Plain ∷
    used (codes "iload_3") Form.Plain ∷
    used (codes "lload_0") Form.Plain ∷
    used (codes "lload_1") Form.Plain ∷
    used (codes "lload_2") Form.Plain ∷
    used (codes "lload_3") Form.Plain ∷
    used (codes "fload_0") Form.Plain ∷
    used (codes "fload_1") Form.Plain ∷
    used (codes "fload_2") Form.Plain ∷
    used (codes "fload_3") Form.Plain ∷
    used (codes "dload_0") Form.Plain ∷
    used (codes "dload_1") Form.Plain ∷
    used (codes "dload_2") Form.Plain ∷
    used (codes "dload_3") Form.Plain ∷
    used (codes "aload_0") Form.Plain ∷
    used (codes "aload_1") Form.Plain ∷
    used (codes "aload_2") Form.Plain ∷
    used (codes "aload_3") Form.Plain ∷
    used (codes "iaload") Form.Plain ∷
    used (codes "laload") Form.Plain ∷
    used (codes "faload") Form.Plain ∷
    used (codes "daload") Form.Plain ∷
    used (codes "aaload") Form.Plain ∷
    used (codes "baload") Form.Plain ∷
    used (codes "caload") Form.Plain ∷
    used (codes "saload") Form.Plain ∷
    used (codes "istore") Form.Local ∷
    used (codes "lstore") Form.Local ∷
    used (codes "fstore") Form.Local ∷
    used (codes "dstore") Form.Local ∷
    used (codes "astore") Form.Local ∷
    used (codes "istore_0") Form.Plain ∷
    used (codes "istore_1") Form.Plain ∷
    used (codes "istore_2") Form.Plain ∷
    used (codes "istore_3") Form.Plain ∷
    used (codes "lstore_0") Form.Plain ∷
    used (codes "lstore_1") Form.Plain ∷
    used (codes "lstore_2") Form.Plain ∷
    used (codes "lstore_3") Form.Plain ∷
    used (codes "fstore_0") Form.Plain ∷
    used (codes "fstore_1") Form.Plain ∷
    used (codes "fstore_2") Form.Plain ∷
    used (codes "fstore_3") Form.Plain ∷
    used (codes "dstore_0") Form.Plain ∷
    used (codes "dstore_1") Form.Plain ∷
    used (codes "dstore_2") Form.Plain ∷
    used (codes "dstore_3") Form.Plain ∷
    used (codes "astore_0") Form.Plain ∷
    used (codes "astore_1") Form.Plain ∷
    used (codes "astore_2") Form.Plain ∷
    used (codes "astore_3") Form.Plain ∷
    used (codes "iastore") Form.Plain ∷
    used (codes "lastore") Form.Plain ∷
    used (codes "fastore") Form.Plain ∷
    used (codes "dastore") Form.Plain ∷
    used (codes "aastore") Form.Plain ∷
    used (codes "bastore") Form.Plain ∷
    used (codes "castore") Form.Plain ∷
    used (codes "sastore") Form.Plain ∷
    used (codes "pop") Form.Plain ∷
    used (codes "pop2") Form.Plain ∷
    used (codes "dup") Form.Plain ∷
    used (codes "dup_x1") Form.Plain ∷
    used (codes "dup_x2") Form.Plain ∷
    used (codes "dup2") Form.Plain ∷
    used (codes "dup2_x1") Form.Plain ∷
    used (codes "dup2_x2") Form.Plain ∷
    used (codes "swap") Form.Plain ∷
    used (codes "iadd") Form.Plain ∷
    used (codes "ladd") Form.Plain ∷
    used (codes "fadd") Form.Plain ∷
    used (codes "dadd") Form.Plain ∷
    used (codes "isub") Form.Plain ∷
    used (codes "lsub") Form.Plain ∷
    used (codes "fsub") Form.Plain ∷
    used (codes "dsub") Form.Plain ∷
    used (codes "imul") Form.Plain ∷
    used (codes "lmul") Form.Plain ∷
    used (codes "fmul") Form.Plain ∷
    used (codes "dmul") Form.Plain ∷
    used (codes "idiv") Form.Plain ∷
    used (codes "ldiv") Form.Plain ∷
    used (codes "fdiv") Form.Plain ∷
    used (codes "ddiv") Form.Plain ∷
    used (codes "irem") Form.Plain ∷
    used (codes "lrem") Form.Plain ∷
    used (codes "frem") Form.Plain ∷
    used (codes "drem") Form.Plain ∷
    used (codes "ineg") Form.Plain ∷
    used (codes "lneg") Form.Plain ∷
    used (codes "fneg") Form.Plain ∷
    used (codes "dneg") Form.Plain ∷
    used (codes "ishl") Form.Plain ∷
    used (codes "lshl") Form.Plain ∷
    used (codes "ishr") Form.Plain ∷
    used (codes "lshr") Form.Plain ∷
    used (codes "iushr") Form.Plain ∷
    used (codes "lushr") Form.Plain ∷
    used (codes "iand") Form.Plain ∷
    used (codes "land") Form.Plain ∷
    used (codes "ior") Form.Plain ∷
    used (codes "lor") Form.Plain ∷
    used (codes "ixor") Form.Plain ∷
    used (codes "lxor") Form.Plain ∷
    used (codes "iinc") Form.Increment ∷
    used (codes "i2l") Form.Plain ∷
    used (codes "i2f") Form.Plain ∷
    used (codes "i2d") Form.Plain ∷
    used (codes "l2i") Form.Plain ∷
    used (codes "l2f") Form.Plain ∷
    used (codes "l2d") Form.Plain ∷
    used (codes "f2i") Form.Plain ∷
    used (codes "f2l") Form.Plain ∷
    used (codes "f2d") Form.Plain ∷
    used (codes "d2i") Form.Plain ∷
    used (codes "d2l") Form.Plain ∷
    used (codes "d2f") Form.Plain ∷
    used (codes "i2b") Form.Plain ∷
    used (codes "i2c") Form.Plain ∷
    used (codes "i2s") Form.Plain ∷
    used (codes "lcmp") Form.Plain ∷
    used (codes "fcmpl") Form.Plain ∷
    used (codes "fcmpg") Form.Plain ∷
    used (codes "dcmpl") Form.Plain ∷
    used (codes "dcmpg") Form.Plain ∷
    used (codes "ifeq") Form.Branch ∷
    used (codes "ifne") Form.Branch ∷
    used (codes "iflt") Form.Branch ∷
    used (codes "ifge") Form.Branch ∷
    used (codes "ifgt") Form.Branch ∷
    used (codes "ifle") Form.Branch ∷
    used (codes "if_icmpeq") Form.Branch ∷
    used (codes "if_icmpne") Form.Branch ∷
    used (codes "if_icmplt") Form.Branch ∷
    used (codes "if_icmpge") Form.Branch ∷
    used (codes "if_icmpgt") Form.Branch ∷
    used (codes "if_icmple") Form.Branch ∷
    used (codes "if_acmpeq") Form.Branch ∷
    used (codes "if_acmpne") Form.Branch ∷
    used (codes "goto") Form.Branch ∷
    used (codes "jsr") Form.Branch ∷
    used (codes "ret") Form.Local ∷
    used (codes "tableswitch") Form.TableSwitch ∷
    used (codes "lookupswitch") Form.LookupSwitch ∷
    used (codes "ireturn") Form.Plain ∷
    used (codes "lreturn") Form.Plain ∷
    used (codes "freturn") Form.Plain ∷
    used (codes "dreturn") Form.Plain ∷
    used (codes "areturn") Form.Plain ∷
    used (codes "return") Form.Plain ∷
    used (codes "getstatic") Form.Pool ∷
    used (codes "putstatic") Form.Pool ∷
    used (codes "getfield") Form.Pool ∷
    used (codes "putfield") Form.Pool ∷
    used (codes "invokevirtual") Form.Pool ∷
    used (codes "invokespecial") Form.Pool ∷
    used (codes "invokestatic") Form.Pool ∷
    used (codes "invokeinterface") Form.Interface ∷
    None ∷  -- 186 is not used
    used (codes "new") Form.Pool ∷
    used (codes "newarray") Form.ArrayCode ∷
    used (codes "anewarray") Form.Pool ∷
    used (codes "arraylength") Form.Plain ∷
    used (codes "athrow") Form.Plain ∷
    used (codes "checkcast") Form.Pool ∷
    used (codes "instanceof") Form.Pool ∷
    used (codes "monitorenter") Form.Plain ∷
    used (codes "monitorexit") Form.Plain ∷
    used (codes "wide") Form.Wide ∷
    used (codes "multianewarray") Form.Dimensions ∷
    used (codes "ifnull") Form.Branch ∷
    used (codes "ifnonnull") Form.Branch ∷
    used (codes "goto_w") Form.WideBranch ∷
    used (codes "jsr_w") Form.WideBranch ∷
    []

abbrev pub joined : {A : Type 0} → Option (Option A) → Option A
joined None = None
joined (Some o) = o

-- what the number is as an opcode: those that are not in the list are none
unfoldable pub opcode : ℕ → Option Opcode
opcode op = joined (slice_get opcodes op)

abbrev pub form_in : Option Opcode → Option Form
form_in None = None
form_in (Some o) = Some o.form

abbrev pub mnemonic_in : Option Opcode → List ℕ
mnemonic_in None = []
mnemonic_in (Some o) = o.mnemonic

-- the form of the opcode's operands, if it is an opcode
abbrev pub form_of : ℕ → Option Form
form_of op = form_in (opcode op)

-- the opcode's mnemonic; no text, if it is no opcode
abbrev pub mnemonic_of : ℕ → List ℕ
mnemonic_of op = mnemonic_in (opcode op)
