-- The root of a chain: where its walk begins, and how its end comes back.
use Rattle.std.proofs.Common.{◌≡◌, ℕ, Bool, true, false, not, List, [], ◌∷◌, Option, Some, None, Result, Ok, Err, slice_get, is_some}
use Rattle.std.proofs.Common.{refl, sym, ap, map, subst, ◌∙◌}
use Rattle.rhai_tree.specs.Positions.{position_of}
use Rattle.rhai_tree.specs.declared.position.Position.{Position}
use Rattle.rhai_values.specs.declared.base.value.Dynamic.{Dynamic}
use Rattle.rhai_values.specs.declared.base.value.Union.{Union}
use Rattle.rhai_values.specs.declared.base.value.Union.TheVariants as value
use Rattle.rhai_values.specs.Cells.{value_of_cell}
use Rattle.rhai_state.specs.declared.scope.Scope.{Scope}
use Rattle.rhai_state.specs.declared.scope.ScopeEntry.{ScopeEntry}
use Rattle.rhai_lookups.specs.declared.run.RunState.{RunState}
use Rattle.rhai_errors.specs.declared.error.EvalAltResult.{EvalAltResult}
use Rattle.rhai_errors.specs.declared.error.EvalAltResult.TheVariants as error
use Rattle.rhai_errors.specs.Errors.{is_out_of_memory}
use Rattle.rhai_state.specs.Scope.{entries_of, name_of, names_in, revalued, value_in}
use Rattle.rhai_machine.specs.machine.Machine.{Go}
use Rattle.rhai_machine.specs.machine.Memory.{here, out_before_step, ◌⨾◌, Leads}
use Rattle.rhai_machine.specs.language.Setting.{Globals, Rules, globals_of, cut}
use Rattle.rhai_machine.specs.language.State.{Held, Local, State}
use Rattle.rhai_machine.specs.language.Values.{Cells, flat, through, through_union, used}
use Rattle.rhai_machine.specs.language.Variables.{Variable}
use Rattle.rhai_machine.specs.language.Names.{Meaning, bound_this, entered, entry_named, looked_up, meant, of_entry, temporary}
use Rattle.rhai_machine.specs.language.Names.{value_beside}
use Rattle.rhai_machine.proofs.MeantLaws.{meant_at, meant_beside}
use Rattle.rhai_machine.specs.language.Calls.{is_held}
use Rattle.rhai_machine.specs.language.Chains.{begun_core, meant_core, read_root_core, this_begun, this_root_core}
use Rattle.rhai_machine.specs.language.Frames.{Lender, FromEntry, FromThis, Chain, Frame, Core, core, ended, ended_or_changed, on_value}
use Rattle.rhai_machine.specs.language.Frames.{Walk}
use Rattle.rhai_machine.specs.language.Frames.{core_over}
use Rattle.rhai_machine.specs.language.Frames.{Back, Fail}
use Rattle.rhai_machine.specs.language.Frames.{ReadRoot, RootValue, ChainEnd}
use Rattle.rhai_machine.specs.language.Members.{focused_on}
use Rattle.rhai_machine.specs.language.Runs.{at, with_core, Runs, Steps, Goes}
use Rattle.rhai_machine.specs.language.Unwinding.{ended_chain, up_core}
use Rattle.rhai_machine.specs.language.Language.{machine}
use Rattle.rhai_steps.specs.States.{local_of, state_of}
use Rattle.rhai_steps.proofs.Pieces.{faulted, step_by}
use Rattle.rhai_assign.proofs.Places.{revalued_twice}
use Rattle.rhai_calls.specs.ToldChanges.{without_changed}
use Rattle.rhai_steps.specs.OnFocus.{lending}
use Rattle.rhai_chains.specs.Roots.{GoesBack, LendsVariable, RefusesThis, RefusesVariable}
use Rattle.rhai_context.specs.Ends.{unit}
use Rattle.rhai_callees.proofs.Lending.{lent_names}

module _ {H : Type 0} where
  used_none : (at : Position) (o : Option (Dynamic H)) → not (is_some o) ≡ true → used [] at o ≡ Err (error.ErrorDataRace [] at)
  used_none at None is = refl
  used_none at (Some v) is = cc

  -- a handle of a held cell is not seen through
  through_held : (cells : Cells H) (u : Union H) (v : Dynamic H) (at : Position) → is_held cells u ≡ true →
      through_union cells u v at ≡ Err (error.ErrorDataRace [] at)
  through_held cells (value.Cell id) v at is = used_none at (value_of_cell cells id.number) is
  through_held cells _ v at is = cc

module _ {H : Type 0} (cells : Cells H) (name : List ℕ) (at : Position) where
  entered_held : (v : Dynamic H) (o : Option (Dynamic H)) → not (is_some o) ≡ true → entered name at v o ≡ Err (error.ErrorDataRace name at)
  entered_held v None is = refl
  entered_held v (Some x) is = cc

  entered_free : (v : Dynamic H) (o : Option (Dynamic H)) → not (is_some o) ≡ false → entered name at v o ≡ Ok v
  entered_free v None is = cc
  entered_free v (Some x) is = refl

  -- a variable that is the handle of a held cell is another's
  looked_held : (u : Union H) (v : Dynamic H) → is_held cells u ≡ true → looked_up cells name at u v ≡ Err (error.ErrorDataRace name at)
  looked_held (value.Cell id) v is = entered_held v (value_of_cell cells id.number) is
  looked_held _ v is = cc

  -- and any other is read
  looked_free : (u : Union H) (v : Dynamic H) → is_held cells u ≡ false → looked_up cells name at u v ≡ Ok v
  looked_free (value.Cell id) v is = entered_free v (value_of_cell cells id.number) is
  looked_free _ v is = refl

module _ {H : Type 0} (globals : Globals H) (global : RunState H) (variable : Variable) (old mid new : Scope H)
    (v w : Dynamic H) where
  -- the variables keep their names
  pub lent_back : (index : Option ℕ) → LendsVariable globals global variable (entries_of old) (Ok (index, v)) (entries_of mid) →
      GoesBack index w (entries_of mid) (entries_of new) → names_in new ≡ names_in old
  lent_back (Some i) lends gives = lent_names old mid new i unit w lends.1.1.1 gives
  lent_back None lends gives = ap (λ (entries : List (ScopeEntry H)). map name_of entries) (gives ∙ lends.1.1)

module _ {S H : Type 0} (rules : Rules S H) where
  -- a state where this is worked on
  abbrev working : Dynamic H → State S H → State S H
  working v s = record s { local = focused_on (Some v) s.local }

  -- the state once the focus of a chain is back with who lent its root
  abbrev restored_state : (lender : Option Lender) → (outer : Option (Dynamic H)) → State S H → State S H
  restored_state lender outer s = record s { local = ended_chain lender outer s.local }

  module _ (lender : Option Lender) (outer : Option (Dynamic H)) (k : List (Frame H)) (s : State S H) where
    value_ends : (v : Dynamic H) →
        Leads (machine rules) (cut rules) (at (Back v) (ChainEnd lender outer ∷ k) s) (at (Back v) k (restored_state lender outer s))
    value_ends v = step_by rules _ _ (Go (core (Back v) k (ended_chain lender outer s.local))) refl here

    -- how a walk ended comes back, without whether it changed the focus
    chain_ends : (answer : Result (Dynamic H × Bool) (EvalAltResult H)) →
        Leads (machine rules) (cut rules) (at (ended_or_changed answer) (ChainEnd lender outer ∷ k) s)
        (at (ended (without_changed answer)) k (restored_state lender outer s))
    chain_ends (Ok (v, true)) = step_by rules _ _ (Go (core (Back v) (ChainEnd lender outer ∷ k) s.local)) refl (value_ends v)
    chain_ends (Ok (v, false)) = value_ends v
    chain_ends (Err e) = step_by rules _ _ (Go (core (Fail e) k (ended_chain lender outer s.local))) refl here

  module _ (chain : Chain H) (answer : Result (Dynamic H × Bool) (EvalAltResult H)) (r : Result (Dynamic H) (EvalAltResult H))
      (same : r ≡ without_changed answer) where
    -- the walk between its beginning and its end
    pub begins : (in_place : Bool) (lender : Option Lender) (v : Dynamic H) (old new : State S H) →
        Steps rules (Walk (record chain { in_place = in_place })) (working v old) (ended_or_changed answer) new →
        Goes rules (begun_core in_place lender v chain) old (core (ended r)) (restored_state lender old.local.focus new)
    unfolding Goes
    begins in_place lender v old new runs k = rw same
        (runs (ChainEnd lender old.local.focus ∷ k) ⨾ chain_ends lender old.local.focus k new answer)

    -- on a value that is lent from its entry and goes back there
    module _ (old mid new : Scope H) (i : ℕ) (u v w : Dynamic H)
        (taken : entries_of mid ≡ revalued (entries_of old) i (slice_get (entries_of old) i) u)
        (given : entries_of new ≡ revalued (entries_of mid) i (slice_get (entries_of mid) i) w) where
      lent_entries : entries_of new ≡ revalued (entries_of old) i (slice_get (entries_of old) i) w
      lent_entries =
          given ∙ ap (λ (entries : List (ScopeEntry H)). revalued entries i (slice_get entries i) w) taken
          ∙ revalued_twice (entries_of old) i (slice_get (entries_of old) i) w u refl

      pub lent_begins : (before left : S) (was is : RunState H) (held : Held H) →
          Steps rules (Walk (record chain { in_place = true })) (state_of before was old (lending held v)) (ended_or_changed answer)
          (state_of left is old (lending held w)) →
          Goes rules (begun_core true (Some (FromEntry i)) v chain) (state_of before was old held) (core (ended r))
          (state_of left is new held)
      lent_begins before left was is held runs =
          subst (λ (entries : List (ScopeEntry H)).
          Goes rules (begun_core true (Some (FromEntry i)) v chain) (state_of before was old held) (core (ended r))
          (record (state_of left is old held) { local = record (local_of is old held) { scope = entries } })) (sym lent_entries)
          (begins true (Some (FromEntry i)) v (state_of before was old held) (state_of left is old (lending held w)) runs)

    -- on `this`, which gets it back
    pub this_begins : (v w : Dynamic H) (before left : S) (was is : RunState H) (scope : Scope H)
        (focus : Option (Dynamic H)) →
        Steps rules (Walk (record chain { in_place = true })) (state_of before was scope (record { this = Some v; focus = Some v }))
        (ended_or_changed answer) (state_of left is scope (record { this = Some v; focus = Some w })) →
        Goes rules (begun_core true (Some FromThis) v chain) (state_of before was scope (record { this = Some v; focus = focus }))
        (core (ended r)) (state_of left is scope (record { this = Some w; focus = focus }))
    this_begins v w before left was is scope focus runs =
        begins true (Some FromThis) v (state_of before was scope (record { this = Some v; focus = focus }))
        (state_of left is scope (record { this = Some v; focus = Some w })) runs

  -- a `this` that is no handle of a held cell is begun on
  used_begins : (o : Option (Dynamic H)) (c : Core H) (pos : Position) (k : List (Frame H)) (l : Local H) → not (is_some o) ≡ false →
      on_value (used [] pos o) (λ inner. c) k l ≡ c
  used_begins (Some v) c pos k l free = refl
  used_begins None c pos k l free = cc

  free_begins : (cells : Cells H) (u : Union H) (v : Dynamic H) (c : Core H) (pos : Position) (k : List (Frame H)) (l : Local H) →
      is_held cells u ≡ false → on_value (through_union cells u v pos) (λ inner. c) k l ≡ c
  free_begins cells (value.Cell id) v c pos k l free = used_begins (value_of_cell cells id.number) c pos k l free
  free_begins cells _ v c pos k l free = refl

  module _ (pos : Position) (chain : Chain H) (s : State S H) (v : Dynamic H) (bound : s.local.this ≡ Some v) where
    this_seen : (k : List (Frame H)) →
        this_root_core pos chain k s.local ≡ this_begun (through_union s.local.around.cells v.value v pos) v chain k s.local
    this_seen k = ap (λ (o : Option (Dynamic H)). on_value (bound_this pos o)
        (λ x. this_begun (through s.local.around.cells x pos) x chain k s.local) k s.local) bound

    pub this_enters : is_held s.local.around.cells v.value ≡ false → (r : Result (Dynamic H) (EvalAltResult H)) (new : State S H) →
        Goes rules (begun_core true (Some FromThis) v chain) s (core (ended r)) new →
        Goes rules (this_root_core pos chain) s (core (ended r)) new
    unfolding Goes
    this_enters free r new starts k = rw (
      this_seen k,
      free_begins s.local.around.cells v.value v
          (begun_core true (Some FromThis) v chain k s.local) pos k s.local free,
    ) (starts k)

    -- and else it is another's
    pub this_held : is_held s.local.around.cells v.value ≡ true → (e : EvalAltResult H) →
        (is_out_of_memory e ≡ false → e ≡ error.ErrorDataRace [] pos) → Goes rules (this_root_core pos chain) s (core (ended (Err e))) s
    unfolding Goes
    this_held held e told k = rw (this_seen k, through_held s.local.around.cells v.value v pos held)
        (faulted rules e (error.ErrorDataRace [] pos) told k s)

  -- there is no `this` to begin on
  pub this_missing : (pos : Position) (chain : Chain H) (s : State S H) → s.local.this ≡ None →
      Goes rules (this_root_core pos chain) s (core (ended (Err (error.ErrorUnboundThis pos)))) s
  unfolding Goes
  this_missing pos chain s is k =
      subst (λ (o : Option (Dynamic H)). Leads (machine rules) (cut rules) (with_core (on_value (bound_this pos o)
      (λ v. this_begun (through s.local.around.cells v pos) v chain k s.local) k s.local) s)
      (at (Fail (error.ErrorUnboundThis pos)) k s)) (sym is) here

  -- no walk begins on `this`
  pub this_refused : (pos : Position) (chain : Chain H) (s : State S H) (o : Option (Dynamic H)) → s.local.this ≡ o →
      (e : EvalAltResult H) →
      RefusesThis s.local.around.cells pos o e → Goes rules (this_root_core pos chain) s (core (ended (Err e))) s
  this_refused pos chain s None is e told = rw told (this_missing pos chain s is)
  this_refused pos chain s (Some v) is e seen = this_held pos chain s v is seen.0 e seen.1

  -- ---- a variable

  module _ (variable : Variable) (chain : Chain H) (s : State S H) where
    abbrev globals : Globals H
    globals = globals_of rules.setting.offer

    -- what comes of a variable by what it means
    abbrev reads : Result (Meaning H) (EvalAltResult H) → List (Frame H) → Core H
    reads r k = on_value r (λ meaning. meant_core meaning chain k s.local) k s.local

    read_as : (x : Result (Meaning H) (EvalAltResult H)) → meant globals s.local.around s.local.scope variable ≡ x → (new : State S H)
        (r : Result (Dynamic H) (EvalAltResult H)) →
        ((k : List (Frame H)) → Leads (machine rules) (cut rules) (with_core (reads x k) s) (at (ended r) k new)) →
        Runs rules (ReadRoot variable chain) s r new
    unfolding Goes
    read_as x is new r goes k = step_by rules _ _ (Go (read_root_core globals variable chain k s.local)) refl
        (subst (λ (y : Result (Meaning H) (EvalAltResult H)).
        Leads (machine rules) (cut rules) (with_core (reads y k) s) (at (ended r) k new)) (sym is) (goes k))

    -- it means no entry
    module _ (missing : entry_named variable.path.names variable.name s.local.scope ≡ None) where
      abbrev beside : Result (Dynamic H) (EvalAltResult H)
      beside = value_beside globals s.local.around variable

      means_temporary : (x : Result (Dynamic H) (EvalAltResult H)) → x ≡ beside →
          meant globals s.local.around s.local.scope variable ≡ temporary x
      means_temporary x is = meant_beside globals s.local.around s.local.scope variable missing ∙ ap temporary (sym is)

      -- the walk begins on a temporary
      pub temporary_begins : (v : Dynamic H) (new : State S H) (r : Result (Dynamic H) (EvalAltResult H)) → Ok v ≡ beside →
          Goes rules (begun_core false None v chain) s (core (ended r)) new → Runs rules (ReadRoot variable chain) s r new
      unfolding Goes
      temporary_begins v new r is runs = read_as (temporary (Ok v)) (means_temporary (Ok v) is) new r runs

      -- or there is none
      pub temporary_missing : (e : EvalAltResult H) → (is_out_of_memory e ≡ false → Err e ≡ beside) →
          Runs rules (ReadRoot variable chain) s (Err e) s
      unfolding Goes
      temporary_missing (error.ErrorOutOfMemory p) told k = out_before_step {at = p} here
      temporary_missing e told k = read_as (temporary (Err e)) (means_temporary (Err e) (told refl)) s (Err e) (λ k. here) k

    module _ (i : ℕ) (v : Dynamic H) (there : entry_named variable.path.names variable.name s.local.scope ≡ Some i)
        (stands : value_in s.local.scope (Some i) ≡ Some v) where
      means_entry : (x : Result (Dynamic H) (EvalAltResult H)) →
          looked_up s.local.around.cells variable.name variable.at v.value v ≡ x →
          meant globals s.local.around s.local.scope variable ≡ of_entry i x
      means_entry x is = meant_at globals s.local.around s.local.scope variable i v there stands ∙ ap (of_entry i) is

      -- its cell is held
      pub root_held : (e : EvalAltResult H) (held : Bool) → held ≡ is_held s.local.around.cells v.value → held ≡ true →
          (is_out_of_memory e ≡ false → e ≡ error.ErrorDataRace variable.name variable.at) →
          Runs rules (ReadRoot variable chain) s (Err e) s
      root_held e held says is told = read_as (of_entry i (Err (error.ErrorDataRace variable.name variable.at)))
          (means_entry (Err (error.ErrorDataRace variable.name variable.at))
          (looked_held s.local.around.cells variable.name variable.at v.value v (sym says ∙ is))) s (Err e)
          (λ k. faulted rules e (error.ErrorDataRace variable.name variable.at) told k s)

      -- the walk begins on its value
      pub root_begins : (new : State S H) (r : Result (Dynamic H) (EvalAltResult H)) (held : Bool) →
          held ≡ is_held s.local.around.cells v.value → held ≡ false →
          Goes rules (begun_core true (Some (FromEntry i)) v chain) s (core (ended r)) new → Runs rules (ReadRoot variable chain) s r new
      unfolding Goes
      root_begins new r held says is runs = read_as (of_entry i (Ok v))
          (means_entry (Ok v) (looked_free s.local.around.cells variable.name variable.at v.value v (sym says ∙ is))) new r runs

  -- no walk begins on a variable
  module _ (variable : Variable) (chain : Chain H) (t : S) (global : RunState H) (scope : Scope H) (held : Held H)
      (e : EvalAltResult H) where
    refused_at : (at : Option ℕ) → entry_named variable.path.names variable.name (entries_of scope) ≡ at →
        RefusesVariable (globals_of rules.setting.offer) global variable (entries_of scope) at e →
        Runs rules (ReadRoot variable chain) (state_of t global scope held) (Err e) (state_of t global scope held)
    refused_at None missing told = temporary_missing variable chain (state_of t global scope held) missing e told
    refused_at (Some i) there seen = root_held variable chain (state_of t global scope held) i seen.0 there seen.1.0 e true
        (sym seen.1.1.0) refl seen.1.1.1

    pub variable_refused : RefusesVariable (globals_of rules.setting.offer) global variable (entries_of scope)
        (entry_named variable.path.names variable.name (entries_of scope)) e →
        Runs rules (ReadRoot variable chain) (state_of t global scope held) (Err e) (state_of t global scope held)
    variable_refused told = refused_at (entry_named variable.path.names variable.name (entries_of scope)) refl told

  -- on what a variable means, which goes back to where it was lent from
  module _ (variable : Variable) (chain : Chain H) (answer : Result (Dynamic H × Bool) (EvalAltResult H))
      (r : Result (Dynamic H) (EvalAltResult H)) (same : r ≡ without_changed answer) (old mid new : Scope H) (v w : Dynamic H)
      (before left : S) (was is : RunState H) (held : Held H) where
    pub variable_runs : (index : Option ℕ) →
        LendsVariable (globals_of rules.setting.offer) was variable (entries_of old) (Ok (index, v)) (entries_of mid) →
        GoesBack index w (entries_of mid) (entries_of new) →
        Steps rules (Walk (record chain { in_place = is_some index })) (state_of before was old (lending held v)) (ended_or_changed answer)
        (state_of left is old (lending held w)) →
        Runs rules (ReadRoot variable chain) (state_of before was old held) r (state_of left is new held)
    variable_runs (Some i) lends gives runs = root_begins variable chain (state_of before was old held) i v lends.0 lends.1.0
        (state_of left is new held) r false (sym lends.1.1.0) refl
        (lent_begins chain answer r same old mid new i unit v w lends.1.1.1 gives before left was is held runs)
    variable_runs None lends gives runs =
        subst (λ (entries : List (ScopeEntry H)). Runs rules (ReadRoot variable chain) (state_of before was old held) r
        (record (state_of left is old held) { local = record (local_of is old held) { scope = entries } })) (sym (gives ∙ lends.1.1))
        (temporary_begins variable chain (state_of before was old held) lends.0 v (state_of left is old held) r lends.1.0
        (begins chain answer r same false None v (state_of before was old held) (state_of left is old (lending held w)) runs))

  -- ---- any other value

  module _ (chain : Chain H) (v : Dynamic H) (s : State S H) (pos : Position) (is : pos ≡ position_of chain.root) where
    -- what comes of it, flattened
    came_up : (x : Result (Dynamic H) (EvalAltResult H)) → x ≡ flat s.local.around.cells v pos → (new : State S H)
        (r : Result (Dynamic H) (EvalAltResult H)) (k : List (Frame H)) →
        Leads (machine rules) (cut rules) (with_core (on_value x (λ y. begun_core false None y chain k s.local) k s.local) s)
        (at (ended r) k new) →
        Leads (machine rules) (cut rules) (at (Back v) (RootValue chain ∷ k) s) (at (ended r) k new)
    came_up x same new r k goes = step_by rules _ _ (Go (up_core rules.setting (RootValue chain) v k s.local)) refl
        (subst (λ (y : Result (Dynamic H) (EvalAltResult H)).
        Leads (machine rules) (cut rules) (with_core (on_value y (λ z. begun_core false None z chain k s.local) k s.local) s)
        (at (ended r) k new))
        (same ∙ ap (flat s.local.around.cells v) is) goes)

    -- the walk begins on it
    pub value_begins : (x : Dynamic H) → Ok x ≡ flat s.local.around.cells v pos → (new : State S H)
        (r : Result (Dynamic H) (EvalAltResult H)) →
        Goes rules (begun_core false None x chain) s (core (ended r)) new →
        Goes rules (core_over (Back v) (RootValue chain)) s (core (ended r)) new
    unfolding Goes
    value_begins x same new r runs k = came_up (Ok x) same new r k (runs k)

    -- or it is not had
    pub value_fails : (e : EvalAltResult H) → (is_out_of_memory e ≡ false → Err e ≡ flat s.local.around.cells v pos) →
        Goes rules (core_over (Back v) (RootValue chain)) s (core (ended (Err e))) s
    unfolding Goes
    value_fails (error.ErrorOutOfMemory p) same k =
        out_before_step {at = p} (step_by rules _ _ (Go (core (Fail (error.ErrorOutOfMemory p)) k s.local)) refl here)
    value_fails e same k = came_up (Err e) (same refl) s (Err e) k here
