-- Scopes as plain lists of entries, the newest last.
use Rattle.std.specs.Prelude.{ℕ, ◌-◌, ◌≤◌, Bool, true, false, List, [], ◌∷◌, ◌++◌, if◌then◌else◌, length, Option, Some, None, map}
use Rattle.std.specs.Prelude.{slice_get, slice_set, take, IfSome}
use Rattle.std.specs.List.{list_any}
use Rattle.std.specs.Option.{option_map}
use Rattle.std.specs.Str.{bytes_eq}
use Rattle.std.specs.Int.NonZero.{non_zero_usize_get}
use Rattle.std.specs.declared.num.NonZeroUsize.{NonZeroUsize}
use Rattle.std.specs.Borrow.{Bor}
use Rattle.rhai_values.specs.declared.base.value.AccessMode.{AccessMode}
use Rattle.rhai_values.specs.declared.base.value.Dynamic.{Dynamic}
use Rattle.rhai_state.specs.declared.scope.ScopeEntry.{ScopeEntry}
use Rattle.rhai_state.specs.declared.scope.Scope.{Scope}
use Rattle.rhai_values.specs.Modes.{with_mode}
use Rattle.rhai_state.specs.Newest.{newest}

-- the offset that a variable is found by: its own, and none where variables are searched for
abbrev pub in_use : Bool → Option NonZeroUsize → Option NonZeroUsize
in_use true offset = None
in_use false offset = offset

-- an offset that is given is at most a length
abbrev pub Fits : Option NonZeroUsize → ℕ → Type 0
Fits offset length = IfSome offset (λ k. non_zero_usize_get k ≤ length)

-- an alias among others, where each stands once
abbrev pub with_alias : List ℕ → List (List ℕ) → List (List ℕ)
with_alias alias others = if list_any (λ other. bytes_eq other alias) others then others else others ++ alias ∷ []

module _ {H : Type 0} where
  -- the entries of a scope, the newest last
  abbrev pub entries_of : Scope H → List (ScopeEntry H)
  entries_of scope = scope.entries

  -- the scope of these entries
  abbrev pub scope_of : List (ScopeEntry H) → Scope H
  scope_of entries = record { entries = entries; spare = tt }

  -- the name of an entry
  abbrev pub name_of : ScopeEntry H → List ℕ
  name_of entry = entry.name

  -- the value of an entry
  abbrev pub value_of : ScopeEntry H → Dynamic H
  value_of entry = entry.value

  -- the names of the entries, the newest last
  abbrev pub names_in : Scope H → List (List ℕ)
  names_in scope = map name_of scope.entries

  -- where the newest entry of a name stands, counted from the start
  abbrev pub index_of : List ℕ → List (ScopeEntry H) → Option ℕ
  index_of name entries = newest name_of name entries

  -- where a variable stands: at its offset from the end, whatever the name there, or else at the newest entry of its name
  abbrev pub place_of : Option NonZeroUsize → List ℕ → List (ScopeEntry H) → Option ℕ
  place_of (Some offset) name entries = Some (length entries - non_zero_usize_get offset)
  place_of None name entries = index_of name entries

  -- the value of the entry at an index, None where there is none
  abbrev pub value_in : List (ScopeEntry H) → Option ℕ → Option (Dynamic H)
  value_in entries None = None
  value_in entries (Some at) = option_map value_of (slice_get entries at)

  -- the value of a variable, by its offset or its name
  abbrev pub variable_value : Option NonZeroUsize → List ℕ → List (ScopeEntry H) → Option (Dynamic H)
  variable_value offset name entries = value_in entries (place_of offset name entries)

  -- the value of the newest entry of a name
  abbrev pub found : List ℕ → List (ScopeEntry H) → Option (Dynamic H)
  found name entries = value_in entries (index_of name entries)

  -- a new entry: its value takes the mode asked for, and it has no aliases
  abbrev pub new_entry : List ℕ → AccessMode → Dynamic H → ScopeEntry H
  new_entry name mode value = record { name = name; value = with_mode mode value; aliases = [] }

  -- the entries after the one at an index was given another value
  abbrev pub revalued : List (ScopeEntry H) → (at : ℕ) → (there : Option (ScopeEntry H)) → Dynamic H → List (ScopeEntry H)
  revalued entries at (Some entry) value = slice_set entries at (record entry { value = value })
  revalued entries at None value = entries

  -- the entries after the one at an index was given an alias, where each alias stands once
  abbrev pub aliased : List (ScopeEntry H) → (at : ℕ) → (there : Option (ScopeEntry H)) → (alias : List ℕ) → List (ScopeEntry H)
  aliased entries at (Some entry) alias = slice_set entries at (record entry { aliases = with_alias alias entry.aliases })
  aliased entries at None alias = entries

  -- the entries after the one at an index kept so many of its oldest aliases alone
  abbrev pub first_aliases : List (ScopeEntry H) → (at : ℕ) → (there : Option (ScopeEntry H)) → (count : ℕ) → List (ScopeEntry H)
  first_aliases entries at (Some entry) count = slice_set entries at (record entry { aliases = take count entry.aliases })
  first_aliases entries at None count = entries

  -- the entry that a name, a value and aliases show
  abbrev pub shown_entry : Bor (List ℕ) × Bor (Dynamic H) × Bor (List (List ℕ)) → ScopeEntry H
  shown_entry parts = record { name = parts.0.now; value = parts.1.now; aliases = parts.2.now }
