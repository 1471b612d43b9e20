-- Positions in a script's text.
use Rattle.std.specs.Prelude.{ℕ, ◌==◌, ◌++◌, if◌then◌else◌, List, Option, Some, None, codes}
use Rattle.std.specs.Fmt.{decimal}
use Rattle.rhai_tree.specs.declared.position.Position.{Position}

-- the position at a line and a position in it
abbrev pub at : ℕ → ℕ → Position
at line pos = record { line = line; pos = pos }

-- no position
abbrev pub none : Position
none = record { line = 0; pos = 0 }

-- a line or a position, where there is one
abbrev pub number_of : ℕ → Option ℕ
number_of n = if n == 0 then None else Some n

-- a position in words
abbrev pub position_text : Position → List ℕ
position_text p =
    if p.line == 0 then codes "none" else (codes "line " ++ decimal p.line ++ codes ", position " ++ decimal p.pos)
