-- How many variables the scopes in hand have, and at what levels functions run: at every point of a run both keep to the limits.
use Rattle.std.specs.Prelude.{◌≡◌, ◌<◌, ◌≤◌, ⊤, ℕ, List, [], ◌∷◌, length, map, None}
use Rattle.rhai_errors.specs.declared.error.EvalAltResult.TheVariants as error
use Rattle.rhai_state.specs.declared.scope.ScopeEntry.{ScopeEntry}
use Rattle.rhai_machine.specs.machine.Machine.{Charge}
use Rattle.rhai_machine.specs.machine.Point.{Point}
use Rattle.rhai_machine.specs.language.Setting.{Rules, cut}
use Rattle.rhai_machine.specs.language.State.{Local}
use Rattle.rhai_machine.specs.language.Activations.{Entered, Variables, Caller}
use Rattle.rhai_machine.specs.language.Frames.{Frame, Core, core, EnterFunction, Fail, DefineValue, ForItems, CallEnd}
use Rattle.rhai_machine.specs.language.Language.{move, machine}
use Rattle.rhai_machine.specs.machine.Memory.{Leads}

-- the last of some numbers is told of the bottom, and is at most `bottom`; each other one is at most the limit
abbrev pub Within : (limit bottom : ℕ) → List ℕ → Type 0
Within limit bottom [] = ⊤
Within limit bottom (n ∷ []) = n ≤ bottom
Within limit bottom (n ∷ m ∷ numbers) = (n ≤ limit) × Within limit bottom (m ∷ numbers)

module _ {H : Type 0} where
  -- ---- scopes

  -- a function that has variables of its own keeps its caller's scope till its end
  abbrev pub with_callers : Variables H → List (List (ScopeEntry H)) → List (List (ScopeEntry H))
  with_callers (Caller scope) scopes = scope ∷ scopes
  with_callers _ scopes = scopes

  -- the scopes that a stack keeps for callers, the one at the bottom last
  abbrev pub kept_scopes : List (Frame H) → List (List (ScopeEntry H))
  kept_scopes [] = []
  kept_scopes (CallEnd exit ∷ k) = with_callers exit.variables (kept_scopes k)
  kept_scopes (_ ∷ k) = kept_scopes k

  -- how many variables each scope in hand has: the current one, and those that the stack keeps
  abbrev pub scope_lengths : Core H → List ℕ
  scope_lengths c = length c.local.scope ∷ map length (kept_scopes c.stack)

  -- no `let` and no `for` on a stack waits to declare its variables, as where a run starts
  abbrev pub DeclaresNone : List (Frame H) → Type 0
  DeclaresNone [] = ⊤
  DeclaresNone (DefineValue ident None options restoring value_at ∷ k) = ⊥
  DeclaresNone (ForItems loop ∷ k) = ⊥
  DeclaresNone (_ ∷ k) = DeclaresNone k

  -- ---- levels

  -- the levels of the callers on a stack, the one at the bottom last
  abbrev pub kept_levels : List (Frame H) → List ℕ
  kept_levels [] = []
  kept_levels (CallEnd exit ∷ k) = exit.level ∷ kept_levels k
  kept_levels (_ ∷ k) = kept_levels k

  -- the levels in hand: that at which the innermost function runs, and those of its callers
  abbrev pub levels : Core H → List ℕ
  levels c = c.local.around.level ∷ kept_levels c.stack

-- ---- the laws

module _ {S H : Type 0} (rules : Rules S H) where
  -- No scope grows past the limit: where each scope in hand has at most `max_variables`, and no frame waits to declare any, each does at
  -- every later point, also where memory runs out. A scope at the bottom may have more, up to `bottom`, and grows no further either.
  abbrev pub ScopesKeepToTheLimit : Type 0
  ScopesKeepToTheLimit = (bottom : ℕ) (p q : Point S (Core H)) → rules.setting.limits.max_variables ≤ bottom →
      DeclaresNone p.core.stack → Within rules.setting.limits.max_variables bottom (scope_lengths p.core) →
      Leads (machine rules) (cut rules) p q →
      Within rules.setting.limits.max_variables bottom (scope_lengths q.core)

  -- No function runs at a level above `max_call_levels`: where none on the stack does, none does at any later point, also where memory runs
  -- out, whatever the level at the bottom is. So from a start with no function on the stack none ever does.
  abbrev pub LevelsKeepToTheLimit : Type 0
  LevelsKeepToTheLimit = (bottom : ℕ) (p q : Point S (Core H)) → Within rules.setting.limits.max_call_levels bottom (levels p.core) →
      Leads (machine rules) (cut rules) p q → Within rules.setting.limits.max_call_levels bottom (levels q.core)

  -- a function that is called at a level above the limit fails at its call, which is charged: its body is not entered
  abbrev pub TooDeepFails : Type 0
  TooDeepFails = (e : Entered H) (k : List (Frame H)) (l : Local H) → rules.setting.limits.max_call_levels < e.level →
      move rules.setting (core (EnterFunction e) k l) ≡ Charge e.at (core (Fail (error.ErrorStackOverflow e.at)) k l)
