-- Samples of methods: what a native leaves of the focus, and the words that are no function's.
use Rattle.std.specs.Prelude.{◌≡◌, ℕ, true, List, [], ◌∷◌, Some, None, codes}
use Rattle.rhai_machine.specs.Types.{Dynamic}
use Rattle.rhai_values.specs.declared.base.value.FnPtr.{roll-FnPtr}
use Rattle.rhai_values.specs.declared.base.value.FnPtrKind.TheVariants as leads
use Rattle.rhai_values.specs.declared.base.value.Union.TheVariants as kind
use Rattle.rhai_values.specs.Copy.{plain}
use Rattle.rhai_errors.specs.declared.error.EvalAltResult.TheVariants.{ErrorMismatchDataType, ErrorDataRace}
use Rattle.rhai_errors.specs.declared.error.EvalAltResult.TheVariants.{ErrorNonPureMethodCallOnConstant}
use Rattle.rhai_errors.specs.Native.{Request, Gives, Named, OfName, OfNumber, request}
use Rattle.rhai_machine.specs.machine.Point.{Reaches}
use Rattle.rhai_machine.specs.language.Setting.{cut}
use Rattle.rhai_machine.specs.language.State.{Local}
use Rattle.rhai_machine.specs.language.Frames.{Control, Back, Changed, Fail}
use Rattle.rhai_machine.specs.language.Arguments.{pointer_named}
use Rattle.rhai_machine.specs.language.Methods.{Method, method_core}
use Rattle.rhai_machine.specs.language.Language.{machine}
use Rattle.rhai_machine.specs.language.Runs.{at, with_core}
use Rattle.rhai_machine_samples.specs.Trees.{column}
use Rattle.rhai_machine_samples.specs.Runs.{Table, Answers, IsImpure, under, state, usual, nothing_but, integer, fixed, truth, unit}
use Rattle.rhai_machine_samples.specs.Data.{word}
use Rattle.rhai_machine_samples.specs.Handles.{handle}
use Rattle.rhai_machine_samples.specs.Calls.{number_pointer}

-- a method after a variable of one letter, whose value is a handle or was one
abbrev pub method : List ℕ → Method
method name = record { name = name; at = column 3; first_at = Some (column 8); was_handle = true }

module _ {H : Type 0} where
  -- a local state with this focus, where the only cell is held
  abbrev pub holding : Dynamic H → Local H
  holding focus =
      let l = nothing_but [] in
      record l { focus = Some focus; around = record l.around { cells = None ∷ [] } }

  -- a pointer by the name `g`, with the value 5 already
  abbrev pub g_pointer : Dynamic H
  g_pointer = plain (kind.FnPtr {X1 = H} (roll-FnPtr H (record { name = codes "g"; curry = integer 5 ∷ []; kind = leads.Name })))

  -- a map that has `g_pointer` under `f`
  abbrev pub f_map : Dynamic H
  f_map = plain (kind.Map (codes "f" ∷ [], g_pointer ∷ []))

  -- the call of `inc` with 1
  abbrev pub inc_asked : Request H
  inc_asked = request (None ∷ []) (Named (codes "inc")) (Some (integer 1)) [] (column 3)

  -- the call of `g` with the map, what the pointer has already, and 4
  abbrev pub g_asked : Request H
  g_asked = request (None ∷ []) (Named (codes "g")) (Some f_map) (integer 5 ∷ integer 4 ∷ []) (column 3)

module _ {S H : Type 0} (table : Table S H) (host : H → List ℕ) where
  -- a method on this focus comes to this control with so many charges, and leaves the focus so
  abbrev pub Comes : Dynamic H → List ℕ → List (Dynamic H) → Control H → (count : ℕ) → Dynamic H → Type 0
  Comes before name args control count after =
      Reaches (machine (under (usual host) table)) (cut (under (usual host) table))
      (with_core (method_core (usual host) (method name) args before [] (holding before)) (state table 0 (holding before)))
      (at control [] (state table count (holding after)))

  -- methods on the focus: what a native leaves of it, and the words that are no function's
  pub record Methods : Type 0 where
    -- what a native leaves of the focus is the focus; where the native is not pure, it may have changed it
    pub changed : Answers table inc_asked (Gives unit) (integer 2) → IsImpure table (OfName (codes "inc") (codes "i64") 1) →
        Comes (integer 1) (codes "inc") [] (Changed unit) 1 (integer 2)
    pub unchanged : Answers table inc_asked (Gives unit) (integer 2) →
        (table.natives.pure table.state (OfName (codes "inc") (codes "i64") 1) ≡ true) →
        Comes (integer 1) (codes "inc") [] (Back unit) 1 (integer 2)
    -- a pointer gets more arguments, and is called without a charge where it is a number's
    pub curried : Comes (pointer_named (codes "g")) (codes "curry") (integer 5 ∷ []) (Back g_pointer) 0 (pointer_named (codes "g"))
    pub barred : IsImpure table (OfNumber 3) → Comes (fixed 1) (codes "call") (number_pointer ∷ [])
        (Fail (ErrorNonPureMethodCallOnConstant (codes "call") (column 3))) 0 (fixed 1)
    pub mismatch : Comes (word (codes "a")) (codes "call") []
        (Fail (ErrorMismatchDataType (record { wanted = codes "Fn"; found = codes "string" }) (column 3))) 0 (word (codes "a"))
    -- a map's own pointer is called on the map, with what the pointer has already before the arguments
    pub own : Answers table g_asked (Gives unit) f_map → IsImpure table (OfName (codes "g") (codes "map") 3) →
        Comes f_map (codes "f") (integer 4 ∷ []) (Changed unit) 1 f_map
    -- a handle is shared, also of a held cell, on which no other method is called; so is a focus that was one before it was entered
    pub shared : Comes handle (codes "is_shared") [] (Back (truth true)) 0 handle
    pub entered : Comes (integer 1) (codes "is_shared") [] (Back (truth true)) 0 (integer 1)
    pub races : Comes handle (codes "inc") [] (Fail (ErrorDataRace (codes "inc") (column 3))) 0 handle
    pub called_race : Comes handle (codes "call") [] (Fail (ErrorDataRace [] (column 3))) 0 handle
