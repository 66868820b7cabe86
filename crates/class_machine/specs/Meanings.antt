-- The table of the opcodes (JVMS 6 and 9): what each of the numbers below 202 means, by some forty
-- semantic forms with parameters. Definitions and laws go by cases on the forms.
use Rattle.std.specs.Prelude.{ℕ, true, false, pos, negsuc, List, [], ◌∷◌, Option, Some, None, slice_get}
use Rattle.std.specs.Option.{option_flatten}
use Rattle.class_machine.specs.declared.kinds.Kind.TheVariants as Kind
use Rattle.class_machine.specs.declared.kinds.Element.TheVariants as Element
use Rattle.class_machine.specs.declared.kinds.Binary.TheVariants.{Add, Subtract, Multiply, And, Or, Xor}
use Rattle.class_machine.specs.declared.kinds.Division.TheVariants.{Quotient, Remainder}
use Rattle.class_machine.specs.declared.kinds.Shift.TheVariants.{Left, Right, Unsigned}
use Rattle.class_machine.specs.declared.kinds.Conversion.TheVariants.{IntToLong, LongToInt, IntToByte, IntToChar, IntToShort}
use Rattle.class_machine.specs.declared.kinds.Test.TheVariants.{Equal, NotEqual, Less, AtLeast, Greater, AtMost}
use Rattle.class_machine.specs.declared.kinds.Slots.TheVariants.{Zero, One, Two}
use Rattle.class_machine.specs.declared.kinds.Constant.TheVariants as Constant
use Rattle.class_machine.specs.declared.kinds.Access.TheVariants as Access
use Rattle.class_machine.specs.declared.kinds.Mode.TheVariants as Mode
use Rattle.class_machine.specs.declared.meaning.Basic.TheVariants as Basic
use Rattle.class_machine.specs.declared.meaning.Meaning.{Meaning}

-- The number 186 isn't used. `wide` (196) is part of the instruction behind it.
abbrev pub meanings : List (Option Meaning)
meanings =
    Some (Meaning.Basic Basic.Nothing) ∷  -- 0 nop
    Some (Meaning.Basic (Basic.Constant Constant.Null)) ∷  -- 1 aconst_null
    Some (Meaning.Basic (Basic.Constant (Constant.Int (negsuc 0)))) ∷  -- 2 iconst_m1
    Some (Meaning.Basic (Basic.Constant (Constant.Int (pos 0)))) ∷  -- 3 iconst_0
    Some (Meaning.Basic (Basic.Constant (Constant.Int (pos 1)))) ∷  -- 4 iconst_1
    Some (Meaning.Basic (Basic.Constant (Constant.Int (pos 2)))) ∷  -- 5 iconst_2
    Some (Meaning.Basic (Basic.Constant (Constant.Int (pos 3)))) ∷  -- 6 iconst_3
    Some (Meaning.Basic (Basic.Constant (Constant.Int (pos 4)))) ∷  -- 7 iconst_4
    Some (Meaning.Basic (Basic.Constant (Constant.Int (pos 5)))) ∷  -- 8 iconst_5
    Some (Meaning.Basic (Basic.Constant (Constant.Long (pos 0)))) ∷  -- 9 lconst_0
    Some (Meaning.Basic (Basic.Constant (Constant.Long (pos 1)))) ∷  -- 10 lconst_1
    Some (Meaning.Basic (Basic.Constant (Constant.Float 0))) ∷  -- 11 fconst_0
    Some (Meaning.Basic (Basic.Constant (Constant.Float 0x3f800000))) ∷  -- 12 fconst_1
    Some (Meaning.Basic (Basic.Constant (Constant.Float 0x40000000))) ∷  -- 13 fconst_2
    Some (Meaning.Basic (Basic.Constant (Constant.Double 0))) ∷  -- 14 dconst_0
    Some (Meaning.Basic (Basic.Constant (Constant.Double 0x3ff0000000000000))) ∷  -- 15 dconst_1
    Some Meaning.Push ∷  -- 16 bipush
    Some Meaning.Push ∷  -- 17 sipush
    Some Meaning.LoadConstant ∷  -- 18 ldc
    Some Meaning.LoadConstant ∷  -- 19 ldc_w
    Some Meaning.LoadConstant ∷  -- 20 ldc2_w
    Some (Meaning.Load Kind.Int) ∷  -- 21 iload
    Some (Meaning.Load Kind.Long) ∷  -- 22 lload
    Some (Meaning.Load Kind.Float) ∷  -- 23 fload
    Some (Meaning.Load Kind.Double) ∷  -- 24 dload
    Some (Meaning.Load Kind.Reference) ∷  -- 25 aload
    Some (Meaning.Basic (Basic.Load Kind.Int 0)) ∷  -- 26 iload_0
    Some (Meaning.Basic (Basic.Load Kind.Int 1)) ∷  -- 27 iload_1
    Some (Meaning.Basic (Basic.Load Kind.Int 2)) ∷  -- 28 iload_2
    Some (Meaning.Basic (Basic.Load Kind.Int 3)) ∷  -- 29 iload_3
    Some (Meaning.Basic (Basic.Load Kind.Long 0)) ∷  -- 30 lload_0
    Some (Meaning.Basic (Basic.Load Kind.Long 1)) ∷  -- 31 lload_1
    Some (Meaning.Basic (Basic.Load Kind.Long 2)) ∷  -- 32 lload_2
    Some (Meaning.Basic (Basic.Load Kind.Long 3)) ∷  -- 33 lload_3
    Some (Meaning.Basic (Basic.Load Kind.Float 0)) ∷  -- 34 fload_0
    Some (Meaning.Basic (Basic.Load Kind.Float 1)) ∷  -- 35 fload_1
    Some (Meaning.Basic (Basic.Load Kind.Float 2)) ∷  -- 36 fload_2
    Some (Meaning.Basic (Basic.Load Kind.Float 3)) ∷  -- 37 fload_3
    Some (Meaning.Basic (Basic.Load Kind.Double 0)) ∷  -- 38 dload_0
    Some (Meaning.Basic (Basic.Load Kind.Double 1)) ∷  -- 39 dload_1
    Some (Meaning.Basic (Basic.Load Kind.Double 2)) ∷  -- 40 dload_2
    Some (Meaning.Basic (Basic.Load Kind.Double 3)) ∷  -- 41 dload_3
    Some (Meaning.Basic (Basic.Load Kind.Reference 0)) ∷  -- 42 aload_0
    Some (Meaning.Basic (Basic.Load Kind.Reference 1)) ∷  -- 43 aload_1
    Some (Meaning.Basic (Basic.Load Kind.Reference 2)) ∷  -- 44 aload_2
    Some (Meaning.Basic (Basic.Load Kind.Reference 3)) ∷  -- 45 aload_3
    Some (Meaning.Basic (Basic.ArrayLoad Element.Int)) ∷  -- 46 iaload
    Some (Meaning.Basic (Basic.ArrayLoad Element.Long)) ∷  -- 47 laload
    Some (Meaning.Basic (Basic.ArrayLoad Element.Float)) ∷  -- 48 faload
    Some (Meaning.Basic (Basic.ArrayLoad Element.Double)) ∷  -- 49 daload
    Some (Meaning.Basic (Basic.ArrayLoad Element.Reference)) ∷  -- 50 aaload
    Some (Meaning.Basic (Basic.ArrayLoad Element.Byte)) ∷  -- 51 baload
    Some (Meaning.Basic (Basic.ArrayLoad Element.Char)) ∷  -- 52 caload
    Some (Meaning.Basic (Basic.ArrayLoad Element.Short)) ∷  -- 53 saload
    Some (Meaning.Store Kind.Int) ∷  -- 54 istore
    Some (Meaning.Store Kind.Long) ∷  -- 55 lstore
    Some (Meaning.Store Kind.Float) ∷  -- 56 fstore
    Some (Meaning.Store Kind.Double) ∷  -- 57 dstore
    Some (Meaning.Store Kind.Reference) ∷  -- 58 astore
    Some (Meaning.Basic (Basic.Store Kind.Int 0)) ∷  -- 59 istore_0
    Some (Meaning.Basic (Basic.Store Kind.Int 1)) ∷  -- 60 istore_1
    Some (Meaning.Basic (Basic.Store Kind.Int 2)) ∷  -- 61 istore_2
    Some (Meaning.Basic (Basic.Store Kind.Int 3)) ∷  -- 62 istore_3
    Some (Meaning.Basic (Basic.Store Kind.Long 0)) ∷  -- 63 lstore_0
    Some (Meaning.Basic (Basic.Store Kind.Long 1)) ∷  -- 64 lstore_1
    Some (Meaning.Basic (Basic.Store Kind.Long 2)) ∷  -- 65 lstore_2
    Some (Meaning.Basic (Basic.Store Kind.Long 3)) ∷  -- 66 lstore_3
    Some (Meaning.Basic (Basic.Store Kind.Float 0)) ∷  -- 67 fstore_0
    Some (Meaning.Basic (Basic.Store Kind.Float 1)) ∷  -- 68 fstore_1
    Some (Meaning.Basic (Basic.Store Kind.Float 2)) ∷  -- 69 fstore_2
    Some (Meaning.Basic (Basic.Store Kind.Float 3)) ∷  -- 70 fstore_3
    Some (Meaning.Basic (Basic.Store Kind.Double 0)) ∷  -- 71 dstore_0
    Some (Meaning.Basic (Basic.Store Kind.Double 1)) ∷  -- 72 dstore_1
    Some (Meaning.Basic (Basic.Store Kind.Double 2)) ∷  -- 73 dstore_2
    Some (Meaning.Basic (Basic.Store Kind.Double 3)) ∷  -- 74 dstore_3
    Some (Meaning.Basic (Basic.Store Kind.Reference 0)) ∷  -- 75 astore_0
    Some (Meaning.Basic (Basic.Store Kind.Reference 1)) ∷  -- 76 astore_1
    Some (Meaning.Basic (Basic.Store Kind.Reference 2)) ∷  -- 77 astore_2
    Some (Meaning.Basic (Basic.Store Kind.Reference 3)) ∷  -- 78 astore_3
    Some (Meaning.Basic (Basic.ArrayStore Element.Int)) ∷  -- 79 iastore
    Some (Meaning.Basic (Basic.ArrayStore Element.Long)) ∷  -- 80 lastore
    Some (Meaning.Basic (Basic.ArrayStore Element.Float)) ∷  -- 81 fastore
    Some (Meaning.Basic (Basic.ArrayStore Element.Double)) ∷  -- 82 dastore
    Some (Meaning.Basic (Basic.ArrayStore Element.Reference)) ∷  -- 83 aastore
    Some (Meaning.Basic (Basic.ArrayStore Element.Byte)) ∷  -- 84 bastore
    Some (Meaning.Basic (Basic.ArrayStore Element.Char)) ∷  -- 85 castore
    Some (Meaning.Basic (Basic.ArrayStore Element.Short)) ∷  -- 86 sastore
    Some (Meaning.Basic (Basic.Pop One)) ∷  -- 87 pop
    Some (Meaning.Basic (Basic.Pop Two)) ∷  -- 88 pop2
    Some (Meaning.Basic (Basic.Duplicate One Zero)) ∷  -- 89 dup
    Some (Meaning.Basic (Basic.Duplicate One One)) ∷  -- 90 dup_x1
    Some (Meaning.Basic (Basic.Duplicate One Two)) ∷  -- 91 dup_x2
    Some (Meaning.Basic (Basic.Duplicate Two Zero)) ∷  -- 92 dup2
    Some (Meaning.Basic (Basic.Duplicate Two One)) ∷  -- 93 dup2_x1
    Some (Meaning.Basic (Basic.Duplicate Two Two)) ∷  -- 94 dup2_x2
    Some (Meaning.Basic Basic.Swap) ∷  -- 95 swap
    Some (Meaning.Basic (Basic.IntBinary Add)) ∷  -- 96 iadd
    Some (Meaning.Basic (Basic.LongBinary Add)) ∷  -- 97 ladd
    Some (Meaning.Basic (Basic.Unmodelled 98 Kind.Float true Kind.Float)) ∷  -- 98 fadd
    Some (Meaning.Basic (Basic.Unmodelled 99 Kind.Double true Kind.Double)) ∷  -- 99 dadd
    Some (Meaning.Basic (Basic.IntBinary Subtract)) ∷  -- 100 isub
    Some (Meaning.Basic (Basic.LongBinary Subtract)) ∷  -- 101 lsub
    Some (Meaning.Basic (Basic.Unmodelled 102 Kind.Float true Kind.Float)) ∷  -- 102 fsub
    Some (Meaning.Basic (Basic.Unmodelled 103 Kind.Double true Kind.Double)) ∷  -- 103 dsub
    Some (Meaning.Basic (Basic.IntBinary Multiply)) ∷  -- 104 imul
    Some (Meaning.Basic (Basic.LongBinary Multiply)) ∷  -- 105 lmul
    Some (Meaning.Basic (Basic.Unmodelled 106 Kind.Float true Kind.Float)) ∷  -- 106 fmul
    Some (Meaning.Basic (Basic.Unmodelled 107 Kind.Double true Kind.Double)) ∷  -- 107 dmul
    Some (Meaning.Basic (Basic.IntDivide Quotient)) ∷  -- 108 idiv
    Some (Meaning.Basic (Basic.LongDivide Quotient)) ∷  -- 109 ldiv
    Some (Meaning.Basic (Basic.Unmodelled 110 Kind.Float true Kind.Float)) ∷  -- 110 fdiv
    Some (Meaning.Basic (Basic.Unmodelled 111 Kind.Double true Kind.Double)) ∷  -- 111 ddiv
    Some (Meaning.Basic (Basic.IntDivide Remainder)) ∷  -- 112 irem
    Some (Meaning.Basic (Basic.LongDivide Remainder)) ∷  -- 113 lrem
    Some (Meaning.Basic (Basic.Unmodelled 114 Kind.Float true Kind.Float)) ∷  -- 114 frem
    Some (Meaning.Basic (Basic.Unmodelled 115 Kind.Double true Kind.Double)) ∷  -- 115 drem
    Some (Meaning.Basic Basic.IntNegate) ∷  -- 116 ineg
    Some (Meaning.Basic Basic.LongNegate) ∷  -- 117 lneg
    Some (Meaning.Basic (Basic.Unmodelled 118 Kind.Float false Kind.Float)) ∷  -- 118 fneg
    Some (Meaning.Basic (Basic.Unmodelled 119 Kind.Double false Kind.Double)) ∷  -- 119 dneg
    Some (Meaning.Basic (Basic.IntShift Left)) ∷  -- 120 ishl
    Some (Meaning.Basic (Basic.LongShift Left)) ∷  -- 121 lshl
    Some (Meaning.Basic (Basic.IntShift Right)) ∷  -- 122 ishr
    Some (Meaning.Basic (Basic.LongShift Right)) ∷  -- 123 lshr
    Some (Meaning.Basic (Basic.IntShift Unsigned)) ∷  -- 124 iushr
    Some (Meaning.Basic (Basic.LongShift Unsigned)) ∷  -- 125 lushr
    Some (Meaning.Basic (Basic.IntBinary And)) ∷  -- 126 iand
    Some (Meaning.Basic (Basic.LongBinary And)) ∷  -- 127 land
    Some (Meaning.Basic (Basic.IntBinary Or)) ∷  -- 128 ior
    Some (Meaning.Basic (Basic.LongBinary Or)) ∷  -- 129 lor
    Some (Meaning.Basic (Basic.IntBinary Xor)) ∷  -- 130 ixor
    Some (Meaning.Basic (Basic.LongBinary Xor)) ∷  -- 131 lxor
    Some Meaning.Increment ∷  -- 132 iinc
    Some (Meaning.Basic (Basic.Convert IntToLong)) ∷  -- 133 i2l
    Some (Meaning.Basic (Basic.Unmodelled 134 Kind.Int false Kind.Float)) ∷  -- 134 i2f
    Some (Meaning.Basic (Basic.Unmodelled 135 Kind.Int false Kind.Double)) ∷  -- 135 i2d
    Some (Meaning.Basic (Basic.Convert LongToInt)) ∷  -- 136 l2i
    Some (Meaning.Basic (Basic.Unmodelled 137 Kind.Long false Kind.Float)) ∷  -- 137 l2f
    Some (Meaning.Basic (Basic.Unmodelled 138 Kind.Long false Kind.Double)) ∷  -- 138 l2d
    Some (Meaning.Basic (Basic.Unmodelled 139 Kind.Float false Kind.Int)) ∷  -- 139 f2i
    Some (Meaning.Basic (Basic.Unmodelled 140 Kind.Float false Kind.Long)) ∷  -- 140 f2l
    Some (Meaning.Basic (Basic.Unmodelled 141 Kind.Float false Kind.Double)) ∷  -- 141 f2d
    Some (Meaning.Basic (Basic.Unmodelled 142 Kind.Double false Kind.Int)) ∷  -- 142 d2i
    Some (Meaning.Basic (Basic.Unmodelled 143 Kind.Double false Kind.Long)) ∷  -- 143 d2l
    Some (Meaning.Basic (Basic.Unmodelled 144 Kind.Double false Kind.Float)) ∷  -- 144 d2f
    Some (Meaning.Basic (Basic.Convert IntToByte)) ∷  -- 145 i2b
    Some (Meaning.Basic (Basic.Convert IntToChar)) ∷  -- 146 i2c
    Some (Meaning.Basic (Basic.Convert IntToShort)) ∷  -- 147 i2s
    Some (Meaning.Basic Basic.CompareLong) ∷  -- 148 lcmp
    Some (Meaning.Basic (Basic.Unmodelled 149 Kind.Float true Kind.Int)) ∷  -- 149 fcmpl
    Some (Meaning.Basic (Basic.Unmodelled 150 Kind.Float true Kind.Int)) ∷  -- 150 fcmpg
    Some (Meaning.Basic (Basic.Unmodelled 151 Kind.Double true Kind.Int)) ∷  -- 151 dcmpl
    Some (Meaning.Basic (Basic.Unmodelled 152 Kind.Double true Kind.Int)) ∷  -- 152 dcmpg
    Some (Meaning.Basic (Basic.IfInt Equal)) ∷  -- 153 ifeq
    Some (Meaning.Basic (Basic.IfInt NotEqual)) ∷  -- 154 ifne
    Some (Meaning.Basic (Basic.IfInt Less)) ∷  -- 155 iflt
    Some (Meaning.Basic (Basic.IfInt AtLeast)) ∷  -- 156 ifge
    Some (Meaning.Basic (Basic.IfInt Greater)) ∷  -- 157 ifgt
    Some (Meaning.Basic (Basic.IfInt AtMost)) ∷  -- 158 ifle
    Some (Meaning.Basic (Basic.IfInts Equal)) ∷  -- 159 if_icmpeq
    Some (Meaning.Basic (Basic.IfInts NotEqual)) ∷  -- 160 if_icmpne
    Some (Meaning.Basic (Basic.IfInts Less)) ∷  -- 161 if_icmplt
    Some (Meaning.Basic (Basic.IfInts AtLeast)) ∷  -- 162 if_icmpge
    Some (Meaning.Basic (Basic.IfInts Greater)) ∷  -- 163 if_icmpgt
    Some (Meaning.Basic (Basic.IfInts AtMost)) ∷  -- 164 if_icmple
    Some (Meaning.Basic (Basic.IfReferences true)) ∷  -- 165 if_acmpeq
    Some (Meaning.Basic (Basic.IfReferences false)) ∷  -- 166 if_acmpne
    Some (Meaning.Basic Basic.Goto) ∷  -- 167 goto
    Some (Meaning.Basic Basic.Jsr) ∷  -- 168 jsr
    Some Meaning.Ret ∷  -- 169 ret
    Some Meaning.Switch ∷  -- 170 tableswitch
    Some Meaning.Switch ∷  -- 171 lookupswitch
    Some (Meaning.Basic (Basic.Return (Some Kind.Int))) ∷  -- 172 ireturn
    Some (Meaning.Basic (Basic.Return (Some Kind.Long))) ∷  -- 173 lreturn
    Some (Meaning.Basic (Basic.Return (Some Kind.Float))) ∷  -- 174 freturn
    Some (Meaning.Basic (Basic.Return (Some Kind.Double))) ∷  -- 175 dreturn
    Some (Meaning.Basic (Basic.Return (Some Kind.Reference))) ∷  -- 176 areturn
    Some (Meaning.Basic (Basic.Return None)) ∷  -- 177 return
    Some (Meaning.Field Access.GetStatic) ∷  -- 178 getstatic
    Some (Meaning.Field Access.PutStatic) ∷  -- 179 putstatic
    Some (Meaning.Field Access.GetField) ∷  -- 180 getfield
    Some (Meaning.Field Access.PutField) ∷  -- 181 putfield
    Some (Meaning.Invoke Mode.Virtual) ∷  -- 182 invokevirtual
    Some (Meaning.Invoke Mode.Special) ∷  -- 183 invokespecial
    Some (Meaning.Invoke Mode.Static) ∷  -- 184 invokestatic
    Some (Meaning.Invoke Mode.Interface) ∷  -- 185 invokeinterface
    None ∷  -- 186 not used
    Some Meaning.New ∷  -- 187 new
    Some Meaning.NewArray ∷  -- 188 newarray
    Some Meaning.NewReferenceArray ∷  -- 189 anewarray
    Some (Meaning.Basic Basic.ArrayLength) ∷  -- 190 arraylength
    Some (Meaning.Basic Basic.Throw) ∷  -- 191 athrow
    Some Meaning.CheckCast ∷  -- 192 checkcast
    Some Meaning.InstanceOf ∷  -- 193 instanceof
    Some (Meaning.Basic Basic.EnterMonitor) ∷  -- 194 monitorenter
    Some (Meaning.Basic Basic.LeaveMonitor) ∷  -- 195 monitorexit
    None ∷  -- 196 wide
    Some Meaning.NewArrays ∷  -- 197 multianewarray
    Some (Meaning.Basic (Basic.IfNull true)) ∷  -- 198 ifnull
    Some (Meaning.Basic (Basic.IfNull false)) ∷  -- 199 ifnonnull
    Some (Meaning.Basic Basic.Goto) ∷  -- 200 goto_w
    Some (Meaning.Basic Basic.Jsr) ∷  -- 201 jsr_w
    []

abbrev pub meaning_of : ℕ → Option Meaning
meaning_of op = option_flatten (slice_get meanings op)
