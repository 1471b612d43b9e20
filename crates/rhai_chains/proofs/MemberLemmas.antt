-- Members of a value: what comes of the natives under the frames that wait for them.
use Rattle.std.proofs.Common.{◌≡◌, Bool, true, false, List, ◌∷◌, Result, Ok, Err, refl, ap}
use Rattle.std.specs.Prelude.{ℕ}
use Rattle.rhai_tree.specs.declared.position.Position.{Position}
use Rattle.rhai_values.specs.declared.base.value.Dynamic.{Dynamic}
use Rattle.rhai_errors.specs.declared.error.EvalAltResult.{EvalAltResult}
use Rattle.rhai_errors.specs.declared.error.EvalAltResult.TheVariants as error
use Rattle.rhai_machine.specs.machine.Machine.{Go}
use Rattle.rhai_machine.specs.machine.Memory.{here, out_before_step, ◌⨾◌, Leads}
use Rattle.rhai_machine.specs.language.Setting.{Rules, cut}
use Rattle.rhai_machine.specs.language.State.{Answers, State}
use Rattle.rhai_machine.specs.language.Frames.{Call, Frame, Property, MemberAccess, core, ended_or_changed, Ask, Fail}
use Rattle.rhai_machine.specs.language.Frames.{GetterTried, SetterTried, IndexerTried}
use Rattle.rhai_machine.specs.language.Members.{after_setter, focus_of, get_item, get_property, getter_missing, got_by, indexer_missing}
use Rattle.rhai_machine.specs.language.Members.{lacks_indexer, lacks_property, named, set_by, set_item, set_property, setter_missing}
use Rattle.rhai_machine.specs.language.Runs.{at, Steps, Goes}
use Rattle.rhai_machine.specs.language.Language.{machine}
use Rattle.rhai_steps.proofs.Pieces.{step_by}
use Rattle.rhai_chains.specs.Members.{tried, tried_by}

-- the value that was answered
pub answered_is : {H : Type 0} (v w : Dynamic H) → ◌≡◌ {A = Result (Dynamic H) (EvalAltResult H)} (Ok v) (Ok w) → v ≡ w
answered_is v w is = cc

module _ {S H : Type 0} (rules : Rules S H) where
  -- memory runs out before a native is asked
  pub member_runs_out_asking : (call : Call H) (s : State S H) (pos : Position) →
      Steps rules (Ask call) s (ended_or_changed (Err (error.ErrorOutOfMemory pos))) s
  unfolding Goes
  member_runs_out_asking call s pos k = out_before_step {at = pos} here

  -- ---- the indexer that is tried

  indexer_gone : (otherwise : Result (Dynamic H) (EvalAltResult H)) (k : List (Frame H)) (s : State S H) (e : EvalAltResult H)
      (lacks : Bool) → lacks_indexer e ≡ lacks →
      Leads (machine rules) (cut rules) (at (Fail e) (IndexerTried otherwise ∷ k) s)
      (at (ended_or_changed (tried_by lacks e otherwise)) k s)
  indexer_gone (Ok v) k s e true is =
      step_by rules _ _ (Go (indexer_missing true e (Ok v) k s.local))
      (ap (λ (b : Bool). Go (indexer_missing b e (Ok v) k s.local)) is) here
  indexer_gone (Err x) k s e true is =
      step_by rules _ _ (Go (indexer_missing true e (Err x) k s.local))
      (ap (λ (b : Bool). Go (indexer_missing b e (Err x) k s.local)) is) here
  indexer_gone otherwise k s e false is =
      step_by rules _ _ (Go (indexer_missing false e otherwise k s.local))
      (ap (λ (b : Bool). Go (indexer_missing b e otherwise k s.local)) is) here

  indexer_answers : (r : Result (Dynamic H × Bool) (EvalAltResult H)) (otherwise : Result (Dynamic H) (EvalAltResult H))
      (k : List (Frame H)) (s : State S H) →
      Leads (machine rules) (cut rules) (at (ended_or_changed r) (IndexerTried otherwise ∷ k) s)
      (at (ended_or_changed (tried r otherwise)) k s)
  indexer_answers (Ok (v, true)) otherwise k s = step_by rules _ _ _ refl here
  indexer_answers (Ok (v, false)) otherwise k s = step_by rules _ _ _ refl here
  indexer_answers (Err e) otherwise k s = indexer_gone otherwise k s e (lacks_indexer e) refl

  module _ (asked : Dynamic H → Call H) (s new : State S H) (r : Result (Dynamic H × Bool) (EvalAltResult H))
      (runs : Steps rules (Ask (asked (focus_of s.local))) s (ended_or_changed r) new) where
    -- a native is asked about the focus
    pub asks_from : Goes rules (λ k l. core (Ask (asked (focus_of l))) k l) s (core (ended_or_changed r)) new
    unfolding Goes
    asks_from k = runs k

    -- an indexer is, and something stands for it where it is missing
    pub tries_from : (otherwise : Result (Dynamic H) (EvalAltResult H)) (q : Result (Dynamic H × Bool) (EvalAltResult H)) →
        q ≡ tried r otherwise →
        Goes rules (λ k l. core (Ask (asked (focus_of l))) (IndexerTried otherwise ∷ k) l) s (core (ended_or_changed q)) new
    unfolding Goes
    tries_from otherwise q is k = rw is (runs (IndexerTried otherwise ∷ k) ⨾ indexer_answers r otherwise k new)

  -- memory runs out before it is
  pub member_runs_out_trying : (asked : Dynamic H → Call H) (otherwise : Result (Dynamic H) (EvalAltResult H)) (s : State S H)
      (e : EvalAltResult H)
      (v : Dynamic H) → Answers (Err e) (Ok v) →
      Goes rules (λ k l. core (Ask (asked (focus_of l))) (IndexerTried otherwise ∷ k) l) s (core (ended_or_changed (Err e))) s
  member_runs_out_trying asked otherwise s (error.ErrorOutOfMemory pos) v is =
      tries_from asked s s (Err (error.ErrorOutOfMemory pos)) (member_runs_out_asking (asked (focus_of s.local)) s pos) otherwise
      (Err (error.ErrorOutOfMemory pos)) refl
  member_runs_out_trying asked otherwise s e v is = let other : ◌≡◌ {A = Result (Dynamic H) (EvalAltResult H)} (Err e) (Ok v) = is refl in
      cc

  -- ---- the getter

  module _ (access : MemberAccess H) (name : List ℕ) where
    getter_gives : (v : Dynamic H) (changed : Bool) (k : List (Frame H)) (s : State S H) →
        Leads (machine rules) (cut rules) (at (ended_or_changed (Ok (v, changed))) (GetterTried access name ∷ k) s)
        (at (ended_or_changed (Ok (v, changed))) k s)
    getter_gives v true k s = step_by rules _ _ _ refl here
    getter_gives v false k s = step_by rules _ _ _ refl here

    getter_goes : (e : EvalAltResult H) (lacks : Bool) → lacks_property e ≡ lacks → (k : List (Frame H)) (s : State S H) →
        Leads (machine rules) (cut rules) (at (Fail e) (GetterTried access name ∷ k) s) (record {
          core = getter_missing lacks e access name k s.local;
          table = s.table;
          count = s.count;
        })
    getter_goes e lacks is k s = step_by rules _ _ (Go (getter_missing lacks e access name k s.local))
        (ap (λ (b : Bool). Go (getter_missing b e access name k s.local)) is) here

    module _ (pos : Position) (s : State S H) where
      abbrev asks_getter : Result (Dynamic H × Bool) (EvalAltResult H) → State S H → Type 0
      asks_getter r new = Steps rules (Ask (get_property name pos access.guarded (focus_of s.local))) s (ended_or_changed r) new

      pub gets : (answer : Dynamic H × Bool) (new : State S H) → asks_getter (Ok answer) new →
          Goes rules (got_by (Property name pos) access) s (core (ended_or_changed (Ok answer))) new
      unfolding Goes
      gets (v, changed) new runs k = runs (GetterTried access name ∷ k) ⨾ getter_gives v changed k new

      -- its error stands, unless there is no such property
      pub gets_none : (e : EvalAltResult H) (new : State S H) → asks_getter (Err e) new → lacks_property e ≡ false →
          Goes rules (got_by (Property name pos) access) s (core (ended_or_changed (Err e))) new
      unfolding Goes
      gets_none e new runs other k = runs (GetterTried access name ∷ k) ⨾ getter_goes e false other k new

      -- then the indexer is asked
      pub gets_named : (e : EvalAltResult H) (mid new : State S H) (r : Result (Dynamic H × Bool) (EvalAltResult H)) →
          asks_getter (Err e) mid → lacks_property e ≡ true →
          Goes rules (λ k l. core (Ask (get_item access.at (focus_of l) (named name))) (IndexerTried (Err e) ∷ k) l) mid
          (core (ended_or_changed r)) new →
          Goes rules (got_by (Property name pos) access) s (core (ended_or_changed r)) new
      unfolding Goes
      gets_named e mid new r runs lacks goes k = runs (GetterTried access name ∷ k) ⨾ getter_goes e true lacks k mid ⨾ goes k

  -- ---- the setter

  module _ (access : MemberAccess H) (name : List ℕ) (value : Dynamic H) (ignores : Bool) where
    setter_gives : (v : Dynamic H) (changed : Bool) (k : List (Frame H)) (s : State S H) →
        Leads (machine rules) (cut rules) (at (ended_or_changed (Ok (v, changed))) (SetterTried access name value ignores ∷ k) s)
        (at (ended_or_changed (Ok (v, changed))) k s)
    setter_gives v true k s = step_by rules _ _ _ refl here
    setter_gives v false k s = step_by rules _ _ _ refl here

    setter_goes : (e : EvalAltResult H) (lacks : Bool) → lacks_property e ≡ lacks → (k : List (Frame H)) (s : State S H) →
        Leads (machine rules) (cut rules) (at (Fail e) (SetterTried access name value ignores ∷ k) s) (record {
          core = setter_missing lacks e access name value ignores k s.local;
          table = s.table;
          count = s.count;
        })
    setter_goes e lacks is k s = step_by rules _ _ (Go (setter_missing lacks e access name value ignores k s.local))
        (ap (λ (b : Bool). Go (setter_missing b e access name value ignores k s.local)) is) here

    module _ (pos : Position) (s : State S H) where
      abbrev asks_setter : Result (Dynamic H × Bool) (EvalAltResult H) → State S H → Type 0
      asks_setter r new = Steps rules (Ask (set_property name pos access.guarded (focus_of s.local) value)) s (ended_or_changed r) new

      pub sets : (answer : Dynamic H × Bool) (new : State S H) → asks_setter (Ok answer) new →
          Goes rules (set_by (Property name pos) ignores access value) s (core (ended_or_changed (Ok answer))) new
      unfolding Goes
      sets (v, changed) new runs k = runs (SetterTried access name value ignores ∷ k) ⨾ setter_gives v changed k new

      pub sets_none : (e : EvalAltResult H) (new : State S H) → asks_setter (Err e) new → lacks_property e ≡ false →
          Goes rules (set_by (Property name pos) ignores access value) s (core (ended_or_changed (Err e))) new
      unfolding Goes
      sets_none e new runs other k = runs (SetterTried access name value ignores ∷ k) ⨾ setter_goes e false other k new

      pub sets_named : (e : EvalAltResult H) (otherwise : Result (Dynamic H) (EvalAltResult H)) (mid new : State S H)
          (r : Result (Dynamic H × Bool) (EvalAltResult H)) → asks_setter (Err e) mid → lacks_property e ≡ true →
          otherwise ≡ after_setter ignores e →
          Goes rules (λ k l. core (Ask (set_item access.at access.guarded (focus_of l) (named name) value))
          (IndexerTried otherwise ∷ k) l) mid (core (ended_or_changed r)) new →
          Goes rules (set_by (Property name pos) ignores access value) s (core (ended_or_changed r)) new
      unfolding Goes
      sets_named e otherwise mid new r runs lacks is goes k =
          runs (SetterTried access name value ignores ∷ k) ⨾ setter_goes e true lacks k mid ⨾ rw is at (goes k)
