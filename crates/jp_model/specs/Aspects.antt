-- Aspects of the form that is built: one before advice on the calls of one method, which prints one
-- line (the AspectJ Programming Guide, AspectJ 5, appendix "Language Semantics", in code style).
use Rattle.std.specs.Prelude.{ℕ, List}

-- `call(void CLASS.METHOD())`: the calls of a method without parameters and result, by its class's
-- name and its own
pub record CallPattern : Type 0 where
  pub class : List ℕ
  pub method : List ℕ

-- a statement of an advice's body
pub data Statement : Type 0 where
  -- `System.out.println("TEXT");`, with the text's UTF-16 units
  PrintLine : (text : List ℕ) → Statement

-- `before(): POINTCUT { BODY }`
pub record Advice : Type 0 where
  pub pointcut : CallPattern
  pub body : List Statement

pub record Aspect : Type 0 where
  pub name : List ℕ
  pub advice : List Advice
