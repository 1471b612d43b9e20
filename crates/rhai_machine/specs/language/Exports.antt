-- The rule of `export`: the newest variable of a name gets an alias, or its own name as one.
use Rattle.std.specs.Prelude.{ℕ, List, [], ◌∷◌, Option, Some, None, slice_get}
use Rattle.rhai_machine.specs.Types.{Ident}
use Rattle.rhai_errors.specs.declared.error.EvalAltResult.TheVariants as error
use Rattle.rhai_state.specs.Scope.{aliased, index_of}
use Rattle.rhai_machine.specs.language.State.{Local}
use Rattle.rhai_machine.specs.language.Values.{unit_value}
use Rattle.rhai_machine.specs.language.Frames.{Frame, Core, core, Back, Fail}

-- a name, or the variable's own where it is empty
abbrev pub name_or : (own : List ℕ) → (name : List ℕ) → List ℕ
name_or own [] = own
name_or own (letter ∷ letters) = letter ∷ letters

-- the alias that is asked for, or else the variable's own name
abbrev pub alias_or : (own : List ℕ) → Option Ident → List ℕ
alias_or own None = own
alias_or own (Some alias) = name_or own alias.name

module _ {H : Type 0} where
  -- the variable at an index with this alias too, once
  abbrev pub exported : (at : ℕ) → List ℕ → Local H → Local H
  exported at alias l = record l { scope = aliased l.scope at (slice_get l.scope at) alias }

  -- the variable at an index is exported; where there is none, its name is not found, at the name
  abbrev pub export_at : Option ℕ → Ident → (alias : Option Ident) → List (Frame H) → Local H → Core H
  export_at (Some at) ident alias k l = core (Back unit_value) k (exported at (alias_or ident.name alias) l)
  export_at None ident alias k l = core (Fail (error.ErrorVariableNotFound ident.name ident.pos)) k l

  -- the newest variable of a name is exported
  abbrev pub export_core : Ident → (alias : Option Ident) → List (Frame H) → Local H → Core H
  export_core ident alias k l = export_at (index_of ident.name l.scope) ident alias k l
