-- How the parts of a chain are told, and what a run may rely on in one that was checked.
use Rattle.std.specs.Prelude.{◌≡◌, ⊤, ℕ, ◌+◌, Bool, true, false, List, [], length, Result, Ok, Err}
use Rattle.rhai_tree.specs.declared.expr.Expr.TheOpen as layer
use Rattle.rhai_tree.specs.Layers.{ExprLayer}
use Rattle.rhai_tree.specs.Forms.{ends_chain}
use Rattle.rhai_tree.specs.Frame.{dot_resolves, tests_of}
use Rattle.rhai_tree.specs.Reading as walk
use Rattle.rhai_tree.specs.Reading.{sound}
use Rattle.rhai_values.specs.declared.base.value.Dynamic.{Dynamic}
use Rattle.rhai_errors.specs.declared.error.EvalAltResult.{EvalAltResult}
use Rattle.rhai_machine.specs.machine.Memory.{Leads}
use Rattle.rhai_machine.specs.language.Setting.{Rules, cut}
use Rattle.rhai_machine.specs.language.State.{State}
use Rattle.rhai_machine.specs.language.Frames.{Chain, ChainRoot, Control, Fail, OpenChain}
use Rattle.rhai_machine.specs.language.Language.{machine}
use Rattle.rhai_machine.specs.language.Runs.{at}
use Rattle.rhai_links.specs.Chains.{Walks}

-- ---- what is asked

-- what stands behind the operator of a chain may run above some names
abbrev pub behind_resolves : ExprLayer → walk.Finds sound
behind_resolves (layer.Dot lhs rhs options pos) = dot_resolves (ends_chain options) (tests_of rhs).link pos
behind_resolves (layer.Index lhs rhs options pos) =
    walk.found_behind_bracket sound (ends_chain options) (tests_of rhs).link (tests_of rhs).value
behind_resolves _ = λ names. false

-- a chain that is assigned to or not walks, with some number of values
pub record MayWalk (assigned : Bool) (form : ExprLayer) : Type 0 where
  pub count : ℕ
  pub walks : Walks assigned form count

-- a chain that is assigned to starts from a variable or from `this`
abbrev pub StartsFrom : (assigned : Bool) → (root : ExprLayer) → Type 0
StartsFrom true (layer.Variable offset name namespace pos) = ⊤
StartsFrom true (layer.ThisPtr pos) = ⊤
StartsFrom true _ = ⊥
StartsFrom false root = ⊤

module _ {H : Type 0} where
  -- as many values as a chain asks for stand behind those before them
  abbrev pub HasAsked : Result (List (Dynamic H)) (EvalAltResult H) → (before : ℕ) → ExprLayer → Type 0
  HasAsked (Ok values) before form = (assigned : Bool) (count : ℕ) → Walks assigned form count → length values ≡ before + count
  HasAsked (Err e) before form = ⊤

  -- the values of all links are there for a chain's root, or an error comes down
  abbrev pub gathered : Chain H → Result (List (Dynamic H)) (EvalAltResult H) → Control H
  gathered chain (Ok values) = ChainRoot (record chain { args = values })
  gathered chain (Err e) = Fail e

module _ {S H : Type 0} (rules : Rules S H) where
  -- at one point of a chain's run the values of all its links are there, and it goes on with the root
  abbrev pub AsksFirst : Chain H → (old : State S H) → Type 0
  AsksFirst chain old = (values : List (Dynamic H)) × (there : State S H) × Leads (machine rules) (cut rules)
      (at (OpenChain chain) [] old) (at (gathered chain (Ok values)) [] there)
