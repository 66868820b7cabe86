-- Words at the front of a text, and lists of words with a comma between each two.
use Rattle.std.specs.Prelude.{◌≡◌, ℕ, List, ◌∷◌, ◌++◌}
use Rattle.std.specs.List.{AllZip, join_with_byte}
use Rattle.run_lines.specs.Splits.{Text}

-- a word of the value stands at the front
pub record IsWordAt {X : Type 0} (IsWord : X → Text → Type 0) (text : Text) (x : X) (behind : Text) : Type 0 where
  pub word : Text
  pub is_word : IsWord x word
  pub front : text ≡ word ++ behind

-- words of the values stand at the front, with a comma between each two, and behind them the closing bracket
pub record IsListAt {X : Type 0} (IsWord : X → Text → Type 0) (close : ℕ) (text : Text) (xs : List X) (behind : Text) : Type 0 where
  pub words : List Text
  pub are_words : AllZip IsWord xs words
  pub front : text ≡ join_with_byte 44 words ++ close ∷ behind
