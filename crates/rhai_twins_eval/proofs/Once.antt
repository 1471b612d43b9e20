-- From one start a call comes to one result and one state.
use Rattle.std.proofs.Common.{◌≡◌, Bool, true, false, List, [], ◌∷◌, Result, Ok, Err, refl, sym, ◌∙◌, ap, subst, inl, inr}
use Rattle.std.specs.Prelude.{IfOk}
use Rattle.rhai_tree.specs.Position.{none}
use Rattle.rhai_tree.specs.declared.position.Position.{Position}
use Rattle.rhai_tree.specs.declared.expr.Stmt.{Stmt}
use Rattle.rhai_values.specs.declared.base.value.Dynamic.{Dynamic}
use Rattle.rhai_errors.specs.declared.error.EvalAltResult.{EvalAltResult}
use Rattle.rhai_errors.specs.declared.error.EvalAltResult.TheVariants as error
use Rattle.rhai_machine.specs.machine.Machine.{Halt}
use Rattle.rhai_machine.specs.machine.Point.{Point, Reaches, here, next, after, ◌⨾◌}
use Rattle.rhai_machine.specs.language.Setting.{Rules, cut}
use Rattle.rhai_machine.specs.language.State.{Local, State, HasMemory}
use Rattle.rhai_machine.specs.language.Frames.{Control, Frame, Core, ended, ended_or_changed, Back, Changed, IndexerTried}
use Rattle.rhai_machine.specs.language.Language.{machine}
use Rattle.rhai_machine.specs.language.Runs.{at, with_core}
use Rattle.rhai_machine.specs.language.Script.{EndsAsMachine}
use Rattle.rhai_eval.specs.Assigned.{assigned}
use Rattle.rhai_eval.specs.ArgumentValues.{value_with}
use Rattle.rhai_eval.specs.Ends.{Ends, EndsAlone, EndsAssigned, EndsFrom}
use Rattle.rhai_twins_eval.specs.Same.{Same}
use Rattle.rhai_twins_eval.proofs.Halts.{from_halt, one_halt, either_way, first_step}

module _ {S H : Type 0} (rules : Rules S H) where
  abbrev Leads : Point S (Core H) → Point S (Core H) → Type 0
  Leads p q = Reaches (machine rules) (cut rules) p q

  -- a result over the empty stack is a halt, which tells the result and the state
  result_halts : (r : Result (Dynamic H) (EvalAltResult H)) (s : State S H) → (machine rules).move (at (ended r) [] s).core ≡ Halt
  result_halts (Ok v) s = refl
  result_halts (Err e) s = refl

  state_of_point : Point S (Core H) → State S H
  state_of_point p = record { table = p.table; count = p.count; local = p.core.local }

  same_result : (r s : Result (Dynamic H) (EvalAltResult H)) → ended r ≡ ended s → r ≡ s
  same_result (Ok v) (Ok w) e = cc
  same_result (Ok v) (Err f) e = cc
  same_result (Err e') (Ok w) e = cc
  same_result (Err e') (Err f) e = cc

  same_left : (c d : Control H) (k : List (Frame H)) (s t : State S H) → at c k s ≡ at d k t → s ≡ t
  unfolding state_of_point
  same_left c d k s t e = ap state_of_point e

  both_halt : {p : Point S (Core H)} (r s : Result (Dynamic H) (EvalAltResult H)) (one other : State S H) →
      Leads p (at (ended r) [] one) → Leads p (at (ended s) [] other) → (r ≡ s) × (one ≡ other)
  both_halt r s one other a b =
      let e = one_halt (machine rules) (cut rules) a b (result_halts r one) (result_halts s other) in
      (same_result r s (ap (λ p. p.core.control) e), same_left (ended r) (ended s) [] one other e)

  module _ (statements : List Stmt) (map_exit : Bool) where
    -- two runs of a script
    pub script_once : (old also one other : State S H) (r s : Result (Dynamic H) (EvalAltResult H)) → old ≡ also →
        EndsAsMachine rules statements map_exit old r one → EndsAsMachine rules statements map_exit also s other → Same r s one other
    script_once old also one other r s start a b r_has s_has =
        let P : State S H → Type 0 = λ x. EndsAsMachine rules statements map_exit x s other in
        both_halt r s one other (a r_has) (subst P (sym start) b s_has)

  -- how a call ended, over any stack, from where it begins
  abbrev Run : (begins : List (Frame H) → Local H → Core H) → State S H → (memory : Type 0) → Control H → State S H → Type 0
  Run begins old memory end new = memory → (k : List (Frame H)) → Leads (with_core (begins k old.local) old) (at end k new)

  module _ (begins also_begins : List (Frame H) → Local H → Core H) (old also one other : State S H) where
    moved_run : (memory : Type 0) (end : Control H) → begins ≡ also_begins → old ≡ also → Run also_begins also memory end other →
        Run begins old memory end other
    moved_run memory end same start run =
        let P : State S H → Type 0 = λ x. Run also_begins x memory end other in
        let Q : (List (Frame H) → Local H → Core H) → Type 0 = λ x. Run x old memory end other in
        subst Q (sym same) (subst P (sym start) run)

    -- two calls that give a value
    pub call_once : (r s : Result (Dynamic H) (EvalAltResult H)) → begins ≡ also_begins → old ≡ also →
        Ends rules begins old (HasMemory r) (ended r) one → Ends rules also_begins also (HasMemory s) (ended s) other →
        Same r s one other
    call_once r s same start a b r_has s_has =
        both_halt r s one other (a.runs r_has []) (moved_run (HasMemory s) (ended s) same start b.runs s_has [])

  -- ---- values that come back with whether the call changed its first argument

  -- without that
  value_alone : Result (Dynamic H × Bool) (EvalAltResult H) → Result (Dynamic H) (EvalAltResult H)
  value_alone (Ok (v, mark)) = Ok v
  value_alone (Err e) = Err e

  -- over the empty stack such a value leads to the value alone
  to_value : {p : Point S (Core H)} (r : Result (Dynamic H × Bool) (EvalAltResult H)) (s : State S H) →
      Leads p (at (ended_or_changed r) [] s) →
      Leads p (at (ended (value_alone r)) [] s)
  unfolding after value_alone
  to_value (Ok (v, true)) s run = run ⨾ next here
  to_value (Ok (v, false)) s run = run
  to_value (Err e) s run = run

  -- over a frame that hands this on, `Changed` and `Back` do not lead to one another
  abbrev handing_on : List (Frame H)
  handing_on = IndexerTried (Err (error.ErrorUnboundThis none)) ∷ []

  changed_apart : (v w : Dynamic H) (s t : State S H) → Leads (at (Changed v) handing_on s) (at (Back w) handing_on t) → ⊥
  unfolding after
  changed_apart v w s t run = elim (first_step (machine rules) (cut rules) run) [
    | inl e ↦ (let same = ap (λ p. p.core.control) e in cc)
    | inr rest ↦ elim (first_step (machine rules) (cut rules) rest) [
      | inl e ↦ (let same = ap (λ p. p.core.stack) e in cc)
      | inr last ↦ (let same = ap (λ p. p.core.stack) (from_halt (machine rules) (cut rules) refl last) in cc)
    ]
  ]

  plain_apart : (v w : Dynamic H) (s t : State S H) → Leads (at (Back v) handing_on s) (at (Changed w) handing_on t) → ⊥
  unfolding after
  plain_apart v w s t run = elim (first_step (machine rules) (cut rules) run) [
    | inl e ↦ (let same = ap (λ p. p.core.control) e in cc)
    | inr rest ↦ (let same = ap (λ p. p.core.stack) (from_halt (machine rules) (cut rules) refl rest) in cc)
  ]

  one_change : {p : Point S (Core H)} (v w : Dynamic H) (s t : State S H) → Leads p (at (Changed v) handing_on s) →
      Leads p (at (Back w) handing_on t) → ⊥
  one_change v w s t a b = elim (either_way (machine rules) (cut rules) a b) [
    | inl run ↦ changed_apart v w s t run
    | inr run ↦ plain_apart w v t s run
  ]

  value_of : Result (Dynamic H) (EvalAltResult H) → Dynamic H → Dynamic H
  value_of (Ok v) otherwise = v
  value_of (Err e) otherwise = otherwise

  error_of : Result (Dynamic H) (EvalAltResult H) → EvalAltResult H → EvalAltResult H
  error_of (Ok v) otherwise = otherwise
  error_of (Err e) otherwise = e

  -- two such results from one start are one where their values or errors are
  same_changed : (r s : Result (Dynamic H × Bool) (EvalAltResult H)) {p : Point S (Core H)} (one other : State S H) →
      Leads p (at (ended_or_changed r) handing_on one) → Leads p (at (ended_or_changed s) handing_on other) →
      value_alone r ≡ value_alone s → r ≡ s
  unfolding value_alone value_of error_of
  same_changed (Ok (v, true)) (Ok (w, true)) one other a b e = ap (λ x. Ok (x, true)) (ap (λ r. value_of r v) e)
  same_changed (Ok (v, false)) (Ok (w, false)) one other a b e = ap (λ x. Ok (x, false)) (ap (λ r. value_of r v) e)
  same_changed (Ok (v, true)) (Ok (w, false)) one other a b e = absurd (one_change v w one other a b)
  same_changed (Ok (v, false)) (Ok (w, true)) one other a b e = absurd (one_change w v other one b a)
  same_changed (Ok (v, mark)) (Err f) one other a b e = cc
  same_changed (Err f) (Ok (w, mark)) one other a b e = cc
  same_changed (Err f) (Err g) one other a b e = ap (λ x. Err x) (ap (λ r. error_of r f) e)

  module _ (begins also_begins : List (Frame H) → Local H → Core H) (old also one other : State S H) where
    changes_once : (r s : Result (Dynamic H × Bool) (EvalAltResult H)) → begins ≡ also_begins → old ≡ also →
        Run begins old (HasMemory r) (ended_or_changed r) one → Run also_begins also (HasMemory s) (ended_or_changed s) other →
        Same r s one other
    changes_once r s same start a b r_has s_has =
        let c = moved_run begins also_begins old also one other (HasMemory s) (ended_or_changed s) same start b in
        let ends = both_halt (value_alone r) (value_alone s) one other (to_value r one (a r_has [])) (to_value s other (c s_has [])) in
        (same_changed r s one other (a r_has handing_on) (c s_has handing_on) ends.0, ends.1)

    -- two calls that say whether they changed their first argument
    pub changed_once : (r s : Result (Dynamic H × Bool) (EvalAltResult H)) → begins ≡ also_begins → old ≡ also →
        Ends rules begins old (HasMemory r) (ended_or_changed r) one →
        Ends rules also_begins also (HasMemory s) (ended_or_changed s) other →
        Same r s one other
    changed_once r s same start a b = changes_once r s same start a.runs b.runs

    -- two calls with nothing behind them leave one state
    pub alone_once : begins ≡ also_begins → old ≡ also → EndsAlone rules begins old one → EndsAlone rules also_begins also other →
        one ≡ other
    alone_once same start a b =
        let P : State S H → Type 0 = λ x. EndsAlone rules also_begins x other in
        let Q : (List (Frame H) → Local H → Core H) → Type 0 = λ x. EndsAlone rules x old other in
        let c : EndsAlone rules begins old other = subst Q (sym same) (subst P (sym start) b) in
        (both_halt (value_alone a.0) (value_alone c.0) one other (to_value a.0 one a.1) (to_value c.0 other c.1)).1

    -- two assignments
    pub assignment_once : (r s : Result (Unit {0}) (EvalAltResult H)) → begins ≡ also_begins → old ≡ also →
        EndsAssigned rules begins old r one → EndsAssigned rules also_begins also s other → Same r s one other
    assignment_once (Ok x) (Ok y) same start a b r_has s_has =
        (refl, (changes_once (assigned (Ok x)) (assigned (Ok y)) same start a.runs b.runs r_has s_has).1)
    assignment_once (Ok x) (Err f) same start a b r_has s_has =
        let ends = changes_once (assigned (Ok x)) (Err f) same start a.runs b.runs r_has s_has in
        (let e = ends.0 in cc, ends.1)
    assignment_once (Err f) (Ok x) same start a b r_has s_has =
        let ends = changes_once (Err f) (assigned (Ok x)) same start a.runs b.runs r_has s_has in
        (let e = ends.0 in cc, ends.1)
    assignment_once (Err e) (Err f) same start a b r_has s_has =
        let ends = changes_once (Err e) (Err f) same start a.runs b.runs r_has s_has in
        (let same_error : e ≡ f = let told = ends.0 in cc in ap (λ x. Err x) same_error, ends.1)

  module _ (begins also_begins : List (Frame H) → Local H → Core H) (old also one other : State S H) (start : Position) where
    -- two arguments, with where they start
    pub argument_once : (r s : Result (Dynamic H × Position) (EvalAltResult H)) → begins ≡ also_begins → old ≡ also →
        EndsFrom rules begins old (value_with r) one → EndsFrom rules also_begins also (value_with s) other →
        IfOk r (λ pair. pair.1 ≡ start) → IfOk s (λ pair. pair.1 ≡ start) → Same r s one other
    argument_once (Ok (v, p)) (Ok (w, q)) same from a b p_is q_is r_has s_has =
        let ends = call_once begins also_begins old also one other (Ok v) (Ok w) same from a b r_has s_has in
        let told : v ≡ w = let e = ends.0 in cc in
        (ap (λ x. Ok (x, p)) told ∙ ap (λ x. Ok (w, x)) (p_is ∙ sym q_is), ends.1)
    argument_once (Ok (v, p)) (Err f) same from a b p_is q_is r_has s_has =
        let ends = call_once begins also_begins old also one other (Ok v) (Err f) same from a b r_has s_has in
        (let e = ends.0 in cc, ends.1)
    argument_once (Err f) (Ok (w, q)) same from a b p_is q_is r_has s_has =
        let ends = call_once begins also_begins old also one other (Err f) (Ok w) same from a b r_has s_has in
        (let e = ends.0 in cc, ends.1)
    argument_once (Err e) (Err f) same from a b p_is q_is r_has s_has =
        let ends = call_once begins also_begins old also one other (Err e) (Err f) same from a b r_has s_has in
        (let told : e ≡ f = let alike = ends.0 in cc in ap (λ x. Err x) told, ends.1)
