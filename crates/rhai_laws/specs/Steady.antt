-- A relation between cores that every step keeps.
use Rattle.std.specs.Prelude.{⊤, Bool, Option}
use Rattle.rhai_tree.specs.declared.position.Position.{Position}
use Rattle.rhai_values.specs.declared.base.value.Dynamic.{Dynamic}
use Rattle.rhai_errors.specs.Native.{Reply}
use Rattle.rhai_machine.specs.machine.Machine.{Move, Halt, Go, Charge, Native, AskPure, Machine}

module _ {H Core : Type 0} (R : Core → Core → Type 0) where
  -- a relation holds between a core and each to which a move may lead
  abbrev pub Moves : Core → Move H Core → Type 0
  Moves c Halt = ⊤
  Moves c (Go d) = R c d
  Moves c (Charge at d) = R c d
  Moves c (Native q f) = (reply : Reply H) (first : Option (Dynamic H)) → R c (f reply first)
  Moves c (AskPure q f) = (pure : Bool) → R c (f pure)

module _ {S H Core : Type 0} (M : Machine S H Core) (R : Core → Core → Type 0) where
  -- a relation that each move, each refusal and each step that finds no memory keeps
  pub record Steady : Type 0 where
    pub same : (c : Core) → R c c
    pub through : {a b c : Core} → R a b → R b c → R a c
    pub moves : (c : Core) → Moves R c (M.move c)
    pub refuses : (at : Position) (c : Core) → R c (M.refuse at c)
    pub is_out : (at : Position) (c : Core) → R c (M.without_memory at c)
