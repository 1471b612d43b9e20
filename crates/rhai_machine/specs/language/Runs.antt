-- What each part of an evaluator promises: over any stack, the cut machine goes from where the part begins to how it ended.
use Rattle.std.specs.Prelude.{List, ◌∷◌, Result}
use Rattle.rhai_machine.specs.Types.{Dynamic, EvalAltResult}
use Rattle.rhai_machine.specs.machine.Point.{Point}
use Rattle.rhai_machine.specs.machine.Memory.{Leads}
use Rattle.rhai_machine.specs.language.Setting.{Rules, cut}
use Rattle.rhai_machine.specs.language.State.{Local, State}
use Rattle.rhai_machine.specs.language.Frames.{Control, Frame, Core, core, ended}
use Rattle.rhai_machine.specs.language.Language.{machine}

module _ {S H : Type 0} where
  -- the point of a core, with the table and the count of a state
  abbrev pub with_core : Core H → State S H → Point S (Core H)
  with_core c s = record { core = c; table = s.table; count = s.count }

  -- the point of a control on a stack, in a state
  abbrev pub at : Control H → List (Frame H) → State S H → Point S (Core H)
  at c k s = with_core (core c k s.local) s

  module _ (rules : Rules S H) where
    -- from one core to another, over any stack, by steps of the machine cut at the limit of operations; memory may run out on the way
    unfoldable pub Goes : (start : List (Frame H) → Local H → Core H) → (old : State S H) →
        (end : List (Frame H) → Local H → Core H) → (new : State S H) → Type 0
    Goes start old end new = (k : List (Frame H)) →
        Leads (machine rules) (cut rules) (with_core (start k old.local) old) (with_core (end k new.local) new)

    -- from one control to another
    abbrev pub Steps : Control H → State S H → Control H → State S H → Type 0
    Steps c old d new = Goes (core c) old (core d) new

    -- from a control to the value or the error that comes of it
    abbrev pub Runs : Control H → State S H → Result (Dynamic H) (EvalAltResult H) → State S H → Type 0
    Runs c old result new = Steps c old (ended result) new
