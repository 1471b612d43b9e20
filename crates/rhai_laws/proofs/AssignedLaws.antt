-- An assignment at a path, from the reading of its variable to its end.
use Rattle.std.proofs.Common.{◌≡◌, inl, inr, ℕ, zero, suc, Bool, true, false, List, [], ◌∷◌, Option, Some, None, Ok}
use Rattle.std.proofs.Common.{refl, sym, ap, subst, ◌∙◌}
use Rattle.std.specs.List.{slice_get, slice_set}
use Rattle.std.specs.Option.{option_map}
use Rattle.std.specs.Prelude.{Result}
use Rattle.std.specs.Str.{bytes_eq}
use Rattle.rhai_tree.specs.Layers.{ExprLayer}
use Rattle.rhai_values.specs.declared.base.value.AccessMode.TheVariants.{ReadWrite}
use Rattle.rhai_values.specs.declared.base.value.Union.{Union}
use Rattle.rhai_values.specs.declared.base.value.Union.TheVariants as value
use Rattle.rhai_values.specs.Layers.{layer_of}
use Rattle.rhai_values.specs.Modes.{with_mode}
use Rattle.rhai_state.specs.Newest.{newest, or_here}
use Rattle.rhai_state.specs.Scope.{found, index_of, name_of, revalued, value_in, value_of}
use Rattle.rhai_machine.specs.Types.{Dynamic, EvalAltResult, Position, ScopeEntry}
use Rattle.rhai_machine.specs.machine.Machine.{Halt, Go, Machine}
use Rattle.rhai_machine.specs.machine.Point.{Point, Reaches, here, next, ◌⨾◌, moved, after}
use Rattle.rhai_machine.specs.language.Setting.{Globals, Rules, globals_of}
use Rattle.rhai_machine.specs.language.State.{State}
use Rattle.rhai_machine.specs.language.Values.{Cells, is_handle, unit_value}
use Rattle.rhai_machine.specs.language.Variables.{Variable}
use Rattle.rhai_machine.specs.language.Names.{Meaning, entry_named, looked_up, of_entry}
use Rattle.rhai_machine.specs.language.Located.{index_by}
use Rattle.rhai_machine.specs.language.Frames.{FromEntry, NewValue, Chain, Frame, Core, core, on_value, ReadRoot, Walk, Back, Changed, Fail}
use Rattle.rhai_machine.specs.language.Frames.{ChainEnd}
use Rattle.rhai_machine.specs.language.Members.{focused_on}
use Rattle.rhai_machine.specs.language.Chains.{meant_core, read_root_core}
use Rattle.rhai_machine.specs.language.Unwinding.{ended_chain}
use Rattle.rhai_machine.specs.language.Language.{machine}
use Rattle.rhai_machine.specs.language.Runs.{at}
use Rattle.rhai_machine.proofs.MeantLaws.{meant_at}
use Rattle.rhai_laws.specs.Assigned.{AssignedAt, AssignsAtPath, IsAssigning, LeadsDown, last, further}
use Rattle.rhai_laws.specs.Selectors.{Selector, read}
use Rattle.rhai_laws.proofs.SelectorLemmas.{Writes, means_no_handle}
use Rattle.rhai_laws.proofs.KeyLemmas.{set_elsewhere, set_there}
use Rattle.rhai_laws.proofs.Assigning.{Ends, assigning, step_by, walk_ends, working}

-- ---- a run has one end

module _ {S H Core : Type 0} (M : Machine S H Core) (allows : ℕ → Bool) where
  -- from a point without a step there is nothing else to come to
  stays : {p q : Point S Core} → Reaches M allows p q → M.move p.core ≡ Halt → p ≡ q
  unfolding after
  stays here halts = refl
  stays (next {p = p} {q = q} steps) halts =
      let same : moved M allows (M.move p.core) p ≡ p = ap (λ m. moved M allows m p) halts in
      sym same ∙ stays steps (ap (λ (p : Point S Core). M.move p.core) same ∙ halts)

  -- two points without a step, to which steps lead from one, are the same
  pub one_end : {p a b : Point S Core} → Reaches M allows p a → Reaches M allows p b → M.move a.core ≡ Halt → M.move b.core ≡ Halt → a ≡ b
  one_end here other halts ends = stays other halts
  one_end (next steps) here halts ends = sym (stays (next steps) ends)
  one_end (next steps) (next other) halts ends = one_end steps other halts ends

  -- where a run passes a point, it goes on from there to its end
  pub goes_on : {p q end : Point S Core} → Reaches M allows p q → Reaches M allows p end → M.move end.core ≡ Halt → Reaches M allows q end
  goes_on here other halts = other
  goes_on {end = end} (next steps) here halts =
      subst (λ (q : Point S Core). Reaches M allows q end) (stays (next steps) halts) here
  goes_on (next steps) (next other) halts = goes_on steps other halts

module _ {H : Type 0} where
  -- ---- the variable

  -- an entry with another value has its name
  newest_set : (name : List ℕ) (entries : List (ScopeEntry H)) (i : ℕ) (entry : ScopeEntry H) (v : Dynamic H) →
      slice_get entries i ≡ Some entry → newest name_of name (slice_set entries i (record entry { value = v })) ≡ newest
      name_of name entries
  newest_set name [] i entry v is = refl
  newest_set name (first ∷ entries) zero entry v is =
      let same : first ≡ entry = cc in
      ap (λ (e : ScopeEntry H). or_here (newest name_of name entries) (bytes_eq e.name name)) (sym same)
  newest_set name (first ∷ entries) (suc i) entry v is =
      ap (λ o. or_here o (bytes_eq first.name name)) (newest_set name entries i entry v is)

  -- the newest entry of a name, where it has one
  record Newest (name : List ℕ) (entries : List (ScopeEntry H)) : Type 0 where
    pub index : ℕ
    pub entry : ScopeEntry H
    pub is : index_of name entries ≡ Some index
    pub stands : slice_get entries index ≡ Some entry

  entry_there : (name : List ℕ) (entries : List (ScopeEntry H)) (v : Dynamic H) (index : ℕ) (there : Option (ScopeEntry H)) →
      index_of name entries ≡ Some index → slice_get entries index ≡ there → option_map value_of there ≡ Some v → Newest name entries
  entry_there name entries v index None is stands value = cc
  entry_there name entries v index (Some entry) is stands value = record { index = index; entry = entry; is = is; stands = stands }

  newest_by : (name : List ℕ) (entries : List (ScopeEntry H)) (v : Dynamic H) (there : Option ℕ) → index_of name entries ≡ there →
      value_in entries there ≡ Some v → Newest name entries
  newest_by name entries v None is value = cc
  newest_by name entries v (Some index) is value = entry_there name entries v index (slice_get entries index) is refl value

  newest_of : (name : List ℕ) (entries : List (ScopeEntry H)) (v : Dynamic H) → found name entries ≡ Some v → Newest name entries
  newest_of name entries v is = newest_by name entries v (index_of name entries) refl is

  -- a variable that got a value is read as that
  module _ (name : List ℕ) (entries : List (ScopeEntry H)) (there : Newest name entries) (whole : Dynamic H) where
    abbrev after_put : List (ScopeEntry H)
    after_put = revalued entries there.index (slice_get entries there.index) whole

    put_is : after_put ≡ slice_set entries there.index (record there.entry { value = whole })
    put_is = ap (λ (o : Option (ScopeEntry H)). revalued entries there.index o whole) there.stands

    found_after : found name after_put ≡ Some whole
    found_after =
        let new : ScopeEntry H = record there.entry { value = whole } in
        let set : List (ScopeEntry H) = slice_set entries there.index new in
        ap (λ (entries : List (ScopeEntry H)). found name entries) put_is
        ∙ ap (λ o. value_in set o) (newest_set name entries there.index there.entry whole there.stands ∙ there.is)
        ∙ ap (λ (o : Option (ScopeEntry H)). option_map value_of o) (set_there entries there.index there.entry new there.stands)

    others_after : (index : ℕ) → (index_of name entries ≡ Some index → ⊥) → slice_get after_put index ≡ slice_get entries index
    others_after index other = ap (λ (entries : List (ScopeEntry H)). slice_get entries index) put_is
        ∙ set_elsewhere entries there.index index (record there.entry { value = whole }) (λ e. other (there.is ∙ ap Some e))

  looked_up_itself : (cells : Cells H) (name : List ℕ) (pos : Position) (u : Union H) (v : Dynamic H) → is_handle u ≡ false →
      looked_up cells name pos u v ≡ Ok v
  looked_up_itself cells name pos (value.Cell id) v is = cc
  looked_up_itself cells name pos _ v is = refl

  -- what a chain leads down from is no handle
  pub root_no_handle : {rest : ExprLayer} {args : List (Dynamic H)} {v : Dynamic H} {path : List Selector} → LeadsDown rest args v path →
      is_handle v.value ≡ false
  root_no_handle (last {args = args} {v = v} {s = s} link first ends means unshared) =
      means_no_handle v.value (layer_of (index_by link.form args)) s means.step
  root_no_handle (further {args = args} {v = v} {s = s} link behind below first follows means is leads) =
      means_no_handle v.value (layer_of (index_by link.form args)) s means.step

module _ {S H : Type 0} (rules : Rules S H) (allows : ℕ → Bool) (variable : Variable) (chain : Chain H) (new : NewValue H)
    (path : List Selector) (mid : State S H) (given : IsAssigning variable chain new path mid) where
  abbrev Comes : Point S (Core H) → Point S (Core H) → Type 0
  Comes p q = Reaches (machine rules) allows p q

  abbrev name : List ℕ
  name = variable.name

  abbrev scope : List (ScopeEntry H)
  scope = mid.local.scope

  abbrev cells : Cells H
  cells = mid.local.around.cells

  abbrev w : Dynamic H
  w = with_mode ReadWrite new.value

  -- ---- the chain's begin

  there : Newest name scope
  there = newest_of name scope given.root given.there

  abbrev ends : List (Frame H)
  ends = ChainEnd (Some (FromEntry there.index)) mid.local.focus ∷ []

  abbrev walked : Chain H
  walked = assigning rules allows chain.root new given.plain chain.rest chain.args true

  abbrev globals : Globals H
  globals = globals_of rules.setting.offer

  abbrev meant_by : Result (Meaning H) (EvalAltResult H) → Core H
  meant_by r = on_value r (λ meaning. meant_core meaning chain [] mid.local) [] mid.local

  begun_is : read_root_core globals variable chain [] mid.local ≡ core (Walk walked) ends (focused_on (Some given.root) mid.local)
  begun_is = ap meant_by (meant_at globals mid.local.around scope variable there.index given.root
      (ap (λ (names : List (List ℕ)). entry_named names name scope) given.unqualified ∙ there.is)
      (ap (λ o. value_in scope o) (sym there.is) ∙ given.there))
      ∙ ap (λ (r : Result (Dynamic H) (EvalAltResult H)). meant_by (of_entry there.index r))
      (looked_up_itself cells name variable.at given.root.value given.root (root_no_handle given.leads))
      ∙ ap (λ (o : Option (NewValue H)). core (Walk (record chain { new = o; in_place = true })) ends
      (focused_on (Some given.root) mid.local)) given.assigns

  abbrev starts : Point S (Core H)
  starts = at (ReadRoot variable chain) [] mid

  begins : Comes starts (at (Walk walked) ends (working rules allows given.root mid.count mid))
  begins = step_by rules allows _ _ (Go (core (Walk walked) ends (focused_on (Some given.root) mid.local)))
      (ap (λ (c : Core H). Go c) begun_is) here

  -- ---- the chain's end

  abbrev left : State S H → State S H
  left s = record s { local = ended_chain (Some (FromEntry there.index)) mid.local.focus s.local }

  fails_end : (e : EvalAltResult H) (s : State S H) → Comes (at (Fail e) ends s) (at (Fail e) [] (left s))
  fails_end e s = step_by rules allows _ _ (Go (core (Fail e) [] (left s).local)) refl here

  marked_ends : (whole : Dynamic H) (n : ℕ) →
      Comes (at (Changed unit_value) ends (working rules allows whole n mid))
      (at (Back unit_value) [] (left (working rules allows whole n mid)))
  marked_ends whole n =
      let s : State S H = working rules allows whole n mid in
      step_by rules allows _ _ (Go (core (Back unit_value) ends s.local)) refl
      (step_by rules allows (at (Back unit_value) ends s) _ (Go (core (Back unit_value) [] (left s).local)) refl here)

  -- ---- what is known of the end

  assigned : (whole : Dynamic H) (n : ℕ) → Writes path w given.root whole →
      AssignedAt name path w mid (left (working rules allows whole n mid))
  assigned whole n writes =
      let now : found name (after_put name scope there whole) ≡ Some whole = found_after name scope there whole in
      record {
        written = ap (λ o. read o path) now ∙ writes.written;
        stays = λ other parts. ap (λ o. read o other) now ∙ writes.stays other parts ∙ ap (λ o. read o other) (sym given.there);
        entries = others_after name scope there whole;
        rest = refl;
      }

  abbrev state_in : Point S (Core H) → State S H
  state_in p = record { table = p.table; count = p.count; local = p.core.local }

  concluded : (x : Dynamic H) (end : State S H) → Comes starts (at (Back x) [] end) →
      Ends rules allows starts ends mid path w given.root → AssignedAt name path w mid end
  concluded x end steps (inl fails) =
      let same : at (Fail fails.error) [] (left fails.state) ≡ at (Back x) [] end =
      one_end (machine rules) allows (fails.steps ⨾ fails_end fails.error fails.state) steps refl refl in
      let no : Fail fails.error ≡ Back x = ap (λ (p : Point S (Core H)). p.core.control) same in
      cc no
  concluded x end steps (inr done) =
      let same : at (Back unit_value) [] (left (working rules allows done.whole done.count mid)) ≡ at (Back x) [] end =
      one_end (machine rules) allows (done.steps ⨾ marked_ends done.whole done.count) steps refl refl in
      subst (λ (end : State S H). AssignedAt name path w mid end) (ap state_in same) (assigned done.whole done.count done.writes)

  before : (p q : Point S (Core H)) → Comes p q → Ends rules allows q ends mid path w given.root →
      Ends rules allows p ends mid path w given.root
  before p q steps (inl fails) = inl (record { error = fails.error; state = fails.state; steps = steps ⨾ fails.steps })
  before p q steps (inr done) =
      inr (record { whole = done.whole; count = done.count; writes = done.writes; steps = steps ⨾ done.steps })

  whole_way : Ends rules allows starts ends mid path w given.root
  whole_way = before starts (at (Walk walked) ends (working rules allows given.root mid.count mid)) begins
      (walk_ends rules allows chain.root new given.plain given.leads true ends mid mid.count)

  pub assigns_there : (x : Dynamic H) (end : State S H) → Comes starts (at (Back x) [] end) → AssignedAt name path w mid end
  assigns_there x end steps = concluded x end steps whole_way

module _ {S H : Type 0} (rules : Rules S H) where
  pub assigns_at_path : AssignsAtPath rules
  assigns_at_path allows start variable chain new path x mid end ends passes given =
      assigns_there rules allows variable chain new path mid given x end (goes_on (machine rules) allows passes ends refl)
