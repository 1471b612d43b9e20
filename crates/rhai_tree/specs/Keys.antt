-- The keys of a map, and those of its template.
use Rattle.std.specs.Prelude.{Bool, true, ◌&&◌, List, [], ◌∷◌, length, nat_eq, is_some}
use Rattle.rhai_tree.specs.Lookup.{place_of, with_entry}
use Rattle.rhai_tree.specs.Types.{MapEntry}
use Rattle.rhai_tree.specs.Names.{Name}

-- the key of an entry of a map
abbrev pub key_of : MapEntry → Name
key_of entry = entry.key

-- each of some keys stands among others
abbrev pub all_stand : List Name → List Name → Bool
all_stand [] others = true
all_stand (key ∷ keys) others = is_some (place_of key others) && all_stand keys others

-- what a map has once it was filled with some keys, one after the other
abbrev pub filled : List Name → List Name × List (Unit {0}) → List Name × List (Unit {0})
filled [] t = t
filled (key ∷ keys) t = filled keys (with_entry key tt t)

-- the keys are those of a template, each once: there are as many, each stands there, and a map that is filled with them has as many
abbrev pub are_keys : (keys template : List Name) → Bool
are_keys keys template =
    nat_eq (length keys) (length template) && (all_stand keys template && nat_eq (length (filled keys ([], [])).0) (length keys))
