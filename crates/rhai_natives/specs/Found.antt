-- What a list of natives has.
use Rattle.std.specs.Prelude.{◌==◌, ◌-◌, Bool, true, List, Option, Some, None, find, if◌then◌else◌, slice_get}
use Rattle.std.specs.Borrow.{Bor}
use Rattle.std.specs.Option.{option_map}
use Rattle.std.specs.Str.{bytes_eq}
use Rattle.rhai_errors.specs.Native.{Key, Named, Numbered, Purity, OfName, OfNumber}
use Rattle.rhai_natives.specs.declared.listed.Found.{Found}
use Rattle.rhai_natives.specs.declared.listed.Listed.{Listed}
use Rattle.rhai_natives.specs.Listed.{Entry, entry_of}

-- the name or number of which purity is asked
abbrev pub key_in : Purity → Key
key_in (OfName name first_type count) = Named name
key_in (OfNumber number) = Numbered number

module _ {K : Type 0} where
  -- the native of an entry, and whether it is pure
  abbrev pub found_as : Entry K → Found K
  found_as e = record { native = e.native; is_pure = e.is_pure }

  -- the native of an entry that is borrowed, and whether it is pure
  abbrev pub found_at : Bor (Listed K) → Found K
  found_at place = found_as (entry_of place.now)

  -- the native of a name or a number: the first of that name, or the one of that number, counted from 1
  abbrev pub found : List (Entry K) → Key → Option (Found K)
  found list (Named name) = option_map found_as (find (λ e. bytes_eq e.name name) list)
  found list (Numbered number) = option_map found_as (if number == 0 then None else slice_get list (number - 1))

  -- what is not there is pure
  abbrev pub is_pure : Option (Found K) → Bool
  is_pure None = true
  is_pure (Some call) = call.is_pure
