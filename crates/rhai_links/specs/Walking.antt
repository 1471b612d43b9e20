-- How the walk of a chain goes at a link: what its parts are asked, and where the machine stands as they begin.
use Rattle.std.specs.Prelude.{◌≡◌, ⊤, ℕ, ◌+◌, Bool, true, false, ◌&&◌, ◌||◌, List, [], ◌∷◌, length, Option, Some, None, is_some, is_none}
use Rattle.std.specs.Prelude.{Result, Ok, Err}
use Rattle.rhai_tree.specs.declared.position.Position.{Position}
use Rattle.rhai_tree.specs.Layers.{ExprLayer}
use Rattle.rhai_values.specs.declared.base.value.CellId.{CellId}
use Rattle.rhai_values.specs.declared.base.value.Dynamic.{Dynamic}
use Rattle.rhai_values.specs.declared.base.value.Union.{Union}
use Rattle.rhai_values.specs.declared.base.value.Union.TheVariants as value
use Rattle.rhai_values.specs.Cells.{value_of_cell, with_held, with_value}
use Rattle.rhai_values.specs.Layers.{UnionLayer, layer_of}
use Rattle.rhai_errors.specs.declared.error.EvalAltResult.{EvalAltResult}
use Rattle.rhai_errors.specs.declared.error.EvalAltResult.TheVariants as error
use Rattle.rhai_errors.specs.Errors.{is_out_of_memory}
use Rattle.rhai_spots.specs.declared.spot.Spot.{Spot}
use Rattle.rhai_spots.specs.declared.spot.Spot.TheVariants as spot
use Rattle.rhai_spots.specs.declared.spot.Access.{Access}
use Rattle.rhai_spots.specs.Parts.{IsPart, IsPlace, IsThere}
use Rattle.rhai_machine.specs.language.Setting.{Setting, Rules, cut}
use Rattle.rhai_machine.specs.language.State.{Local, State}
use Rattle.rhai_machine.specs.language.Values.{Cells, is_handle, through}
use Rattle.rhai_machine.specs.language.Links.{Link, LinkForm, AtIndex, AtProperty, AtMethod, asked_by}
use Rattle.rhai_machine.specs.language.Frames.{Chain, Property, Frame, Core, on_value, Walk, Fail, MethodLink}
use Rattle.rhai_machine.specs.language.Frames.{ended_or_changed}
use Rattle.rhai_machine.specs.language.Located.{index_by, is_indexed, is_map, is_unit, taken_at}
use Rattle.rhai_machine.specs.language.Members.{focus_of}
use Rattle.rhai_machine.specs.language.Chains.{after_method, entered, indexed_core, member_core, method_of}
use Rattle.rhai_machine.specs.language.Runs.{at, with_core, Steps}
use Rattle.rhai_machine.specs.machine.Memory.{Leads}
use Rattle.rhai_machine.specs.language.Language.{machine}
use Rattle.rhai_links.specs.Chains.{form_seen, link_seen, BehindWalks}
use Rattle.rhai_links.specs.Spots.{way_through}
use Rattle.rhai_links.specs.declared.links.Link.{Link as CodeLink}
use Rattle.rhai_links.specs.declared.ways.Begun.{Begun}
use Rattle.rhai_links.specs.declared.ways.Begun.TheVariants as begun
use Rattle.rhai_links.specs.declared.ways.Descent.{Descent}
use Rattle.rhai_links.specs.declared.ways.Descent.TheVariants as descent
use Rattle.rhai_links.specs.declared.ways.MethodIn.{MethodIn}
use Rattle.rhai_links.specs.declared.ways.Way.{Way}
use Rattle.rhai_links.specs.declared.ways.Way.TheVariants as way

-- ---- what is asked

-- a link and what stands behind it ask for so many values
pub record LinkWalks (assigned : Bool) (link : Link) (count : ℕ) : Type 0 where
  pub behind : ℕ
  pub counted : count ≡ length (asked_by link.form) + behind
  pub walks : BehindWalks assigned link.form link.behind behind

-- how a link finds its spot, where no key is inserted
abbrev pub way_below : CodeLink → (is_strict : Bool) → Access
way_below link is_strict = way_through (link_seen link) false is_strict

-- the walk goes on so at a spot
abbrev pub IsDescent : Descent → Spot → Type 0
IsDescent (descent.Place at) (spot.Item i) = at ≡ spot.Item i
IsDescent (descent.Place at) (spot.Value i) = at ≡ spot.Value i
IsDescent (descent.Place at) there = ⊥
IsDescent descent.Missing there = there ≡ spot.Missing
IsDescent (descent.Part at) (spot.Item i) = ⊥
IsDescent (descent.Part at) (spot.Value i) = ⊥
IsDescent (descent.Part at) spot.Missing = ⊥
IsDescent (descent.Part at) there = at ≡ there

-- a chain that is assigned to does not end in a method
abbrev pub MayEndAt : LinkForm → (holds : Bool) → Type 0
MayEndAt (AtMethod name args at) holds = holds ≡ true
MayEndAt _ holds = ⊤

-- an index or a property
abbrev pub IsLocated : LinkForm → Type 0
IsLocated (AtMethod name args at) = ⊥
IsLocated _ = ⊤

-- a chain that begins with no method
abbrev pub IsNoMethod : Option Link → Type 0
IsNoMethod (Some link) = IsLocated link.form
IsNoMethod None = ⊤

-- the method that a chain begins with
abbrev pub IsMethodIn : Option MethodIn → Option Link → Type 0
IsMethodIn (Some method) link = (link ≡ Some (link_seen method.link)) ×
    (form_seen method.link.form ≡ AtMethod method.call.now.name method.call.now.args method.at)
IsMethodIn None link = IsNoMethod link

module _ {H : Type 0} where
  -- a value is no handle of a cell that is held
  abbrev pub IsFree : Cells H → Union H → Type 0
  IsFree cells (value.Cell id) = is_some (value_of_cell cells id.number) ≡ true
  IsFree cells _ = ⊤

  -- ---- handles

  -- the focus is worked on as it is, or the value of its cell is taken from there, and the handle is kept
  abbrev pub Enters : Option (CellId × Dynamic H) → (focus inner : Dynamic H) → (cells taken : Cells H) → Type 0
  Enters None focus inner cells taken = (is_handle focus.value ≡ false) × ((inner ≡ focus) × (taken ≡ cells))
  Enters (Some (id, handle)) focus inner cells taken = (focus.value ≡ value.Cell id) × ((handle ≡ focus) ×
      ((value_of_cell cells id.number ≡ Some inner) × (taken ≡ with_held cells id.number)))

  -- and what has become of it goes back there
  abbrev pub Leaves : Option (CellId × Dynamic H) → (inner focus : Dynamic H) → (cells put : Cells H) → Type 0
  Leaves None inner focus cells put = (focus ≡ inner) × (put ≡ cells)
  Leaves (Some (id, handle)) inner focus cells put = (focus ≡ handle) × (put ≡ with_value cells id.number inner)

  -- ---- where the machine stands

  module _ (s : Setting H) where
    -- a property of a value that is no map is a member, a method is called over what waits for its value, and anything else is located
    abbrev pub inside_by : LinkForm → (of_map was_handle : Bool) → Link → (inner : Dynamic H) → Chain H → List (Frame H) → Local H →
        Core H
    inside_by (AtProperty name at) false was_handle link inner chain k l = member_core s link.behind chain.new link
        (record { member = Property name at; at = link.at; guarded = chain.in_place }) chain k l
    inside_by (AtMethod name args at) of_map was_handle link inner chain k l =
        method_of s name args at was_handle chain (after_method link.behind link chain k) l
    inside_by form of_map was_handle link inner chain k l =
        indexed_core s (is_indexed (layer_of inner)) link (index_by form chain.args) chain inner k l

    -- a link, of the value that is the focus or stands in its cell
    abbrev pub inside_core : Link → (was_handle : Bool) → (inner : Dynamic H) → Chain H → List (Frame H) → Local H → Core H
    inside_core link was_handle inner chain k l = inside_by link.form (is_map (layer_of inner)) was_handle link inner chain k l

    -- and of the focus itself, which is entered where it is a handle
    abbrev pub entered_core : Link → Chain H → List (Frame H) → Local H → Core H
    entered_core link chain k l = on_value (through l.around.cells (focus_of l) link.at)
        (λ inner. entered inner (inside_core link (is_handle (focus_of l).value) inner chain) k l) k l

  -- what waits for a method's value: the walk of what is behind it
  abbrev pub behind_value : (behind : Option ExprLayer) → Chain H → List (Frame H) → List (Frame H)
  behind_value None chain k = k
  behind_value (Some rest) chain k = MethodLink (record chain { rest = rest }) ∷ k

  -- ---- what the walk does at a link

  -- the focus was looked at, and the chain does not stop there
  pub record GoesOn (link : Link) (cells : Cells H) (focus : Dynamic H) : Type 0 where
    pub inner : Dynamic H
    pub seen : through cells focus link.at ≡ Ok inner
    pub goes_on : (link.stops_at_unit && is_unit inner.value) ≡ false

  -- the chain stops at `()`
  pub record StopsThere (link : Link) (cells : Cells H) (focus : Dynamic H) : Type 0 where
    pub inner : Dynamic H
    pub seen : through cells focus link.at ≡ Ok inner
    pub stops : (link.stops_at_unit && is_unit inner.value) ≡ true

  -- an index, and a property of a map
  abbrev pub IsCharged : LinkForm → UnionLayer H → Type 0
  IsCharged (AtIndex index) inner = ⊤
  IsCharged (AtProperty name at) inner = is_map inner ≡ true
  IsCharged (AtMethod name args at) inner = ⊥

  -- a property of any other value, and a method
  abbrev pub IsUncharged : LinkForm → UnionLayer H → Type 0
  IsUncharged (AtIndex index) inner = ⊥
  IsUncharged (AtProperty name at) inner = is_map inner ≡ false
  IsUncharged (AtMethod name args at) inner = ⊤

  -- which way the walk goes by the form of a link
  abbrev pub WayBy : Way → LinkForm → UnionLayer H → Type 0
  WayBy way.Charges form inner = IsCharged form inner
  WayBy way.Enters form inner = IsUncharged form inner
  WayBy _ form inner = ⊥

  -- which way it goes
  abbrev pub IsWay : Way → Link → Cells H → (focus : Dynamic H) → Type 0
  IsWay way.Races link cells focus = through cells focus link.at ≡ Err (error.ErrorDataRace [] link.at)
  IsWay way.Stops link cells focus = StopsThere link cells focus
  IsWay way link cells focus = (goes : GoesOn link cells focus) × WayBy way link.form (layer_of goes.inner)

  module _ {S : Type 0} (rules : Rules S H) (link : Link) (chain : Chain H) (old new : State S H) where
    -- the machine comes to where the focus is entered, unless it is assigned to in a method, and memory may run out there
    pub record Comes : Type 0 where
      pub comes : MayEndAt link.form (is_some link.behind || is_none chain.new) → (k : List (Frame H)) →
          Leads (machine rules) (cut rules) (at (Walk chain) k old) (with_core (entered_core rules.setting link chain k new.local) new)
      pub may_run_out : (pos : Position) (k : List (Frame H)) →
          Leads (machine rules) (cut rules) (at (Walk chain) k old) (at (Fail (error.ErrorOutOfMemory pos)) k new)

  -- the walk has ended, or the machine comes to the link
  abbrev pub Begins : {S : Type 0} → Rules S H → Link → Chain H → State S H → Begun H → State S H → Type 0
  Begins rules link chain old (begun.Ended r) new = Steps rules (Walk chain) old (ended_or_changed r) new
  Begins rules link chain old begun.Enters new = Comes rules link chain old new

  -- the focus may be entered
  abbrev pub FitsLink : Begun H → Cells H → (focus : Dynamic H) → Type 0
  FitsLink begun.Enters cells focus = IsFree cells focus.value
  FitsLink (begun.Ended r) cells focus = ⊤

  -- ---- what an index or a key leads to

  -- it is a place, nothing, or a part
  abbrev pub IsDescentOf : Descent → Spot → UnionLayer H → Type 0
  IsDescentOf (descent.Place at) there source = (there ≡ at) × IsPlace source at
  IsDescentOf descent.Missing there source = there ≡ spot.Missing
  IsDescentOf (descent.Part at) there source = (there ≡ at) × IsPart source at

  -- it is found in the value as it was, or the error is the one that is wanted
  abbrev pub IsSpotBelow : Result Spot (EvalAltResult H) → (wanted : Result (Dynamic H × Spot) (EvalAltResult H)) → (source : Dynamic H) →
      Type 0
  IsSpotBelow (Ok there) wanted source = (wanted ≡ Ok (source, there)) × IsThere (layer_of source) there
  IsSpotBelow (Err e) wanted source = is_out_of_memory e ≡ false → wanted ≡ Err e

  -- the walk goes on at a spot that is found in the value as it was, or the error is the one that is wanted
  abbrev pub FindsDown : Result Descent (EvalAltResult H) → (wanted : Result (Dynamic H × Spot) (EvalAltResult H)) →
      (source : Dynamic H) → Type 0
  FindsDown (Ok to) wanted source = (there : Spot) × ((wanted ≡ Ok (source, there)) × IsDescentOf to there (layer_of source))
  FindsDown (Err e) wanted source = is_out_of_memory e ≡ false → wanted ≡ Err e

  -- and it is taken from there
  abbrev pub TakesBelow : Result (Dynamic H) (EvalAltResult H) → (wanted : Result (Dynamic H × Spot) (EvalAltResult H)) →
      (source : Dynamic H) → Type 0
  TakesBelow (Ok v) wanted source = (there : Spot) × ((wanted ≡ Ok (source, there)) × (v ≡ taken_at source there))
  TakesBelow (Err e) wanted source = is_out_of_memory e ≡ false → wanted ≡ Err e
