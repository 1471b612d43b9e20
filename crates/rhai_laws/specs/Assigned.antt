-- An assignment without an operator through indexes and properties, from a variable or `this` down into arrays and maps: what it is given,
-- and what it leaves.
use Rattle.std.specs.Prelude.{◌≡◌, ⊤, ℕ, Bool, List, [], ◌∷◌, length, slice_get, Option, Some, None, option_map}
use Rattle.rhai_tree.specs.declared.expr.Expr.{out-Expr}
use Rattle.rhai_tree.specs.declared.expr.Expr.TheOpen as form
use Rattle.rhai_tree.specs.Layers.{ExprLayer}
use Rattle.rhai_values.specs.declared.base.value.AccessMode.TheVariants.{ReadWrite}
use Rattle.rhai_values.specs.declared.base.value.Dynamic.{Dynamic}
use Rattle.rhai_values.specs.declared.base.value.FnPtrKind.TheOpen as layer
use Rattle.rhai_values.specs.Cells.{IsNoHandle}
use Rattle.rhai_values.specs.Layers.{UnionLayer, layer_of}
use Rattle.rhai_values.specs.Modes.{with_mode}
use Rattle.rhai_state.specs.Scope.{found, index_of, value_in}
use Rattle.rhai_spots.specs.Indexing.{index_in}
use Rattle.rhai_machine.specs.machine.Point.{Point, Reaches}
use Rattle.rhai_machine.specs.language.Variables.{Variable}
use Rattle.rhai_machine.specs.language.Names.{entry_named}
use Rattle.rhai_machine.specs.language.Setting.{Rules}
use Rattle.rhai_machine.specs.language.State.{State}
use Rattle.rhai_machine.specs.language.Links.{Link, LinkForm, AtMethod, link_of}
use Rattle.rhai_machine.specs.language.Located.{args_behind, index_by}
use Rattle.rhai_machine.specs.language.Frames.{NewValue, Chain, ChainRoot, Core, ReadRoot, Back}
use Rattle.rhai_machine.specs.language.Language.{machine}
use Rattle.rhai_machine.specs.language.Runs.{at}
use Rattle.rhai_laws.specs.Selectors.{Selector, ToItem, ToKey, Part, selected, read}

-- a link is an index or a property
abbrev pub IsIndexing : LinkForm → Type 0
IsIndexing (AtMethod name args at) = ⊥
IsIndexing _ = ⊤

module _ {H : Type 0} where
  -- the step that an index means: an integer to an item of an array, from its end where it is negative, and a text to a key of a map
  abbrev pub meant : (source index : UnionLayer H) → Option Selector
  meant (layer.Array items) (layer.Int i) = option_map (λ at. ToItem at) (index_in (length items) i)
  meant (layer.Map entries) (layer.Str key) = Some (ToKey key)
  meant _ _ = None

  -- a link means this step from an array or a map: an index by its argument, and a property by its name
  pub record Means (link : Link) (args : List (Dynamic H)) (v : Dynamic H) (s : Selector) : Type 0 where
    pub form : IsIndexing link.form
    pub step : meant (layer_of v) (layer_of (index_by link.form args)) ≡ Some s

  -- what is written over is no handle of a cell; or nothing stands there yet, in a map
  abbrev pub IsUnshared : (source : UnionLayer H) → Option (Dynamic H) → Type 0
  IsUnshared source (Some old) = IsNoHandle old.value
  IsUnshared (layer.Map entries) None = ⊤
  IsUnshared source None = ⊥

  -- The links of a chain, with their arguments, lead down a path from a value. Each of them means a step from an array or a map, which
  -- none but the last may be missing, so no value on the path is a handle.
  pub data LeadsDown : ExprLayer → (args : List (Dynamic H)) → Dynamic H → List Selector → Type 0 where
    last : {rest : ExprLayer} {args : List (Dynamic H)} {v : Dynamic H} {s : Selector} (link : Link) → link_of rest ≡ Some link →
        link.behind ≡ None → Means link args v s → IsUnshared (layer_of v) (selected v s) → LeadsDown rest args v (s ∷ [])
    further : {rest : ExprLayer} {args : List (Dynamic H)} {v : Dynamic H} {s : Selector} {path : List Selector} (link : Link)
        (behind : ExprLayer) (below : Dynamic H) → link_of rest ≡ Some link → link.behind ≡ Some behind → Means link args v s →
        selected v s ≡ Some below → LeadsDown behind (args_behind link.form args) below path → LeadsDown rest args v (s ∷ path)

module _ {S H : Type 0} where
  -- A variable was assigned to at a path: the value is read there, whatever parts from the path reads as before, and so does each other
  -- entry of the scope. But for the count nothing else has changed.
  pub record AssignedAt (name : List ℕ) (path : List Selector) (w : Dynamic H) (old new : State S H) : Type 0 where
    pub written : read (found name new.local.scope) path ≡ Some w
    pub stays : (other : List Selector) → Part path other →
        read (found name new.local.scope) other ≡ read (found name old.local.scope) other
    pub entries : (index : ℕ) → (index_of name old.local.scope ≡ Some index → ⊥) →
        slice_get new.local.scope index ≡ slice_get old.local.scope index
    pub rest : new ≡ record old { count = new.count; local = record old.local { scope = new.local.scope } }

  -- a chain that assigns without an operator is about to read its variable, which has no modules in front of it, and leads down a path
  -- from there
  pub record IsAssigning (variable : Variable) (chain : Chain H) (new : NewValue H) (path : List Selector) (mid : State S H) : Type 0 where
    pub root : Dynamic H
    pub unqualified : variable.path.names ≡ []
    pub there : found variable.name mid.local.scope ≡ Some root
    pub assigns : chain.new ≡ Some new
    pub plain : new.op.op ≡ None
    pub leads : LeadsDown chain.rest chain.args root path

module _ {S H : Type 0} where
  -- ---- the same from the root of a chain, a variable or `this`

  -- what the root is: of a variable the value of its entry, which it has where no modules are in front of it
  abbrev pub root_in : ExprLayer → State S H → Option (Dynamic H)
  root_in (form.Variable offset name namespace pos) s = value_in s.local.scope (entry_named namespace.path name s.local.scope)
  root_in (form.ThisPtr pos) s = s.local.this
  root_in _ s = None

  -- but for the count nothing else has changed: no other entry of the scope, and nothing that is no variable; or nothing but `this`
  abbrev pub ElsewhereSame : ExprLayer → (old new : State S H) → Type 0
  ElsewhereSame (form.Variable offset name namespace pos) old new =
      ((index : ℕ) → (index_of name old.local.scope ≡ Some index → ⊥) →
      slice_get new.local.scope index ≡ slice_get old.local.scope index)
      × (new ≡ record old { count = new.count; local = record old.local { scope = new.local.scope } })
  ElsewhereSame (form.ThisPtr pos) old new = new ≡ record old { count = new.count; local = record old.local { this = new.local.this } }
  ElsewhereSame _ old new = ⊥

  -- a root was assigned to at a path: the value is read there, whatever parts from the path reads as before, and all else is the same
  pub record AssignedFrom (root : ExprLayer) (path : List Selector) (w : Dynamic H) (old new : State S H) : Type 0 where
    pub written : read (root_in root new) path ≡ Some w
    pub stays : (other : List Selector) → Part path other → read (root_in root new) other ≡ read (root_in root old) other
    pub elsewhere : ElsewhereSame root old new

  -- a chain that assigns without an operator stands before its root, and leads down a path from there
  pub record AssignsFrom (root : ExprLayer) (chain : Chain H) (new : NewValue H) (path : List Selector) (mid : State S H) : Type 0 where
    pub value : Dynamic H
    pub there : root_in root mid ≡ Some value
    pub assigns : chain.new ≡ Some new
    pub plain : new.op.op ≡ None
    pub leads : LeadsDown chain.rest chain.args value path

module _ {S H : Type 0} (rules : Rules S H) where
  -- Where a run, cut at the limit or not, comes to the reading of the variable of such a chain, with nothing waiting below, and then to a
  -- value, the variable was assigned to at the path since that reading. What is read there then is the value, read-write.
  abbrev pub AssignsAtPath : Type 0
  AssignsAtPath = (allows : ℕ → Bool) (start : Point S (Core H)) (variable : Variable) (chain : Chain H) (new : NewValue H)
      (path : List Selector) (x : Dynamic H) (mid end : State S H) → Reaches (machine rules) allows start (at (Back x) [] end) →
      Reaches (machine rules) allows start (at (ReadRoot variable chain) [] mid) → IsAssigning variable chain new path mid →
      AssignedAt variable.name path (with_mode ReadWrite new.value) mid end

  -- Where a run comes to the root of such a chain, with nothing waiting below, and from there to a value, the root was assigned to at the
  -- path.
  abbrev pub AssignsFromRoot : Type 0
  AssignsFromRoot = (allows : ℕ → Bool) (chain : Chain H) (new : NewValue H) (path : List Selector) (x : Dynamic H) (mid end : State S H) →
      Reaches (machine rules) allows (at (ChainRoot chain) [] mid) (at (Back x) [] end) →
      AssignsFrom (out-Expr chain.root) chain new path mid →
      AssignedFrom (out-Expr chain.root) path (with_mode ReadWrite new.value) mid end
