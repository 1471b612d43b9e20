-- What surrounds a form where the checker stands.
use Rattle.std.specs.Prelude.{◌++◌, length, take}
use Rattle.rhai_check.specs.declared.check.declared.Declared.{Declared}
use Rattle.rhai_check.specs.declared.check.declared.Mark.{Mark}
use Rattle.rhai_check.specs.declared.check.place.Place.{Place}
use Rattle.rhai_tree.specs.Context.{Context}
use Rattle.rhai_tree.specs.Names.{Begins, Frame}

-- what surrounds a form: the names and imports declared so far, and whether it stands in a loop and in the tree's top list
abbrev pub around : Declared → Place → Context
around d place = record { names = d.names; imports = d.imports; in_loop = place.in_loop; in_top = place.in_top }

-- how many names and imports are declared
abbrev pub extent_of : Declared → Mark
extent_of d = record { names = length d.names; imports = length d.imports }

-- the oldest declared names and imports, so many of each
abbrev pub cut : Mark → Declared → Declared
cut mark d = record { names = take mark.names d.names; imports = take mark.imports d.imports }

-- what is declared later begins with what is declared
abbrev pub Continues : Declared → Declared → Type 0
Continues old new = Begins old.names new.names × Begins old.imports new.imports

-- a frame with the declared names and imports as its newest
abbrev pub above : Frame → Declared → Frame
above base d = record { names = base.names ++ d.names; imports = base.imports ++ d.imports }
