-- Where the join points are, and which advice is in their chains (the appendix "Language Semantics"
-- of the AspectJ Programming Guide; Hilsdale and Hugunin, "Advice Weaving in AspectJ", 2004).
use Rattle.std.specs.Prelude.{ℕ, ◌&&◌, if◌then◌else◌, Bool, List, [], Option, Some, None, codes}
use Rattle.std.specs.List.{filter, flat_map}
use Rattle.std.specs.Str.{bytes_eq}
use Rattle.class_file.specs.Pool.{Reference}
use Rattle.class_machine.specs.Classes.{is_constructor}
use Rattle.class_machine.specs.Operations.{Operation, Invoke}
use Rattle.class_machine.specs.Turn.{Code}
use Rattle.jp_model.specs.Aspects.{CallPattern, Advice, Aspect}

-- The method that an instruction calls, where it is a call join point: each invoke instruction is one whose method is no
-- constructor. Code that is built beside an aspect calls static methods of its own class and println alone, so no call of
-- it is one of a superclass's method, of a synthetic method or on an array, which would be none.
abbrev pub call_at : Operation → Option Reference
call_at (Invoke mode method) = if is_constructor method then None else Some method
call_at _ = None

-- the descriptor of a method without parameters and result
abbrev pub no_parameters : List ℕ
no_parameters = codes "()V"

-- The pattern matches the signature of the method that is called: class, name, no parameters, no
-- result. A name of one part is that of a class of the default package.
abbrev pub matches : CallPattern → Reference → Bool
matches pattern method =
    bytes_eq method.class pattern.class && (bytes_eq method.member.name pattern.method && bytes_eq method.member.descriptor no_parameters)

abbrev pub matching : Reference → List Advice → List Advice
matching method advice = filter (λ a. matches a.pointcut method) advice

-- all advice, in the order of the text
abbrev pub advice_of : List Aspect → List Advice
advice_of aspects = flat_map (λ a. a.advice) aspects

abbrev pub chain_for : List Aspect → Option Reference → List Advice
chain_for aspects None = []
chain_for aspects (Some method) = matching method (advice_of aspects)

abbrev pub chain_of : List Aspect → Option Operation → List Advice
chain_of aspects None = []
chain_of aspects (Some operation) = chain_for aspects (call_at operation)

-- the chain at a place: the advice that applies to the join point there, the first to run first
abbrev pub chain_at : {P : Type 0} → Code P → List Aspect → P → List Advice
chain_at code aspects place = chain_of aspects (code.line place)
