-- Where a line may stand: the class first and alone, then fields and methods, each method up to its end.
use Rattle.std.specs.Prelude.{ℕ, Bool, true, false, if◌then◌else◌, List, [], ◌∷◌, Option, Some, None}
use Rattle.class_lines.specs.declared.line.Line.{Line}
use Rattle.class_text.specs.declared.numbered.Numbered.{Numbered}
use Rattle.class_text.specs.declared.order.Place.{Place}

abbrev pub stands : Place → Option Line → Bool
stands Place.Start (Some (Line.Class name super version flags interfaces)) = true
stands Place.Outside (Some (Line.Field head)) = true
stands Place.Outside (Some (Line.Method head stack locals)) = true
stands Place.Outside (Some (Line.Bare head)) = true
stands Place.Inside (Some (Line.Step label operation)) = true
stands Place.Inside (Some (Line.Catch from to handler class)) = true
stands Place.Inside (Some Line.End) = true
stands _ _ = false

-- behind a line that stands there
abbrev pub place_after : Place → Option Line → Place
place_after place (Some (Line.Class name super version flags interfaces)) = Place.Outside
place_after place (Some (Line.Method head stack locals)) = Place.Inside
place_after place (Some Line.End) = Place.Outside
place_after place _ = place

-- A text may end only outside of a method, behind the class. Else the line after the last is wrong.
abbrev pub ends : Place → ℕ → Option ℕ
ends Place.Outside last = None
ends _ last = Some last

-- the first line, of those left, that stands at a wrong place or isn't of the form; the number of the line after the last is given
abbrev pub misplaced : ℕ → Place → List Numbered → Option ℕ
misplaced last place [] = ends place last
misplaced last place (line ∷ lines) = if stands place line.line then misplaced last (place_after place line.line) lines else Some line.number
