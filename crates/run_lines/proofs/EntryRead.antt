-- An entry, part by part.
use Rattle.std.proofs.Common.{◌≡◌, [], ap, subst}
use Rattle.run_lines.specs.declared.entry.EntryWords.{EntryWords}
use Rattle.run_lines.specs.Splits.{Text, IsFirstSplit, IsLastSplit}
use Rattle.run_lines.specs.Lists.{IsListAt}
use Rattle.run_lines.specs.Names.{IsDottedClass, IsMethodText}
use Rattle.run_lines.specs.Arguments.{IsArgument}
use Rattle.run_lines.specs.EntryWord.{IsEntryWord}
use Rattle.run_lines.proofs.Cuts.{first_only, last_only}

-- the parts of an entry at the texts that the word was cut into
pub record AreParts (class method arguments : Text) (entry : EntryWords) : Type 0 where
  pub is_class : IsDottedClass entry.class class
  pub is_method : IsMethodText entry.method method
  pub are_arguments : IsListAt IsArgument 41 arguments entry.args []

-- where a word is cut
pub record IsCut (word class method arguments : Text) : Type 0 where
  pub name : Text
  pub bracket : IsFirstSplit 40 word name arguments
  pub dot : IsLastSplit 46 name class method

pub cut_made : (word name class method arguments : Text) → IsFirstSplit 40 word name arguments → IsLastSplit 46 name class method → IsCut word class method arguments
cut_made word name class method arguments b d = record { name = name; bracket = b; dot = d }

pub entry_made : (word class method arguments : Text) (entry : EntryWords) → IsCut word class method arguments → AreParts class method arguments entry → IsEntryWord entry word
entry_made word class method arguments entry c p = record {
  name = c.name;
  arguments = arguments;
  bracket = c.bracket;
  class = class;
  method = method;
  dot = c.dot;
  is_class = p.is_class;
  is_method = p.is_method;
  are_arguments = p.are_arguments;
}

pub entry_parts : (word class method arguments : Text) (entry : EntryWords) → IsCut word class method arguments → IsEntryWord entry word → AreParts class method arguments entry
entry_parts word class method arguments entry c e =
    let outer = first_only 40 word c.name arguments c.bracket (e.name, e.arguments) e.bracket in
    let name : e.name ≡ c.name = ap (λ (y : Text × Text). y.0) outer in
    let args : e.arguments ≡ arguments = ap (λ (y : Text × Text). y.1) outer in
    let inner = last_only 46 c.name class method c.dot (e.class, e.method) (subst (λ (n : Text). IsLastSplit 46 n e.class e.method) name e.dot) in
    record {
      is_class = subst (λ (t : Text). IsDottedClass entry.class t) (ap (λ (y : Text × Text). y.0) inner) e.is_class;
      is_method = subst (λ (t : Text). IsMethodText entry.method t) (ap (λ (y : Text × Text). y.1) inner) e.is_method;
      are_arguments = subst (λ (t : Text). IsListAt IsArgument 41 t entry.args []) args e.are_arguments;
    }

pub entry_is : (a b : EntryWords) → a.class ≡ b.class → a.method ≡ b.method → a.args ≡ b.args → a ≡ b
entry_is a b p q r = λ i. record { class = p i; method = q i; args = r i }
