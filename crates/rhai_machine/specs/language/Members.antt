-- The natives by which members of a value are got and set: a property by its getter and its setter, and by the indexer where it has none;
-- an item by the indexer.
use Rattle.std.specs.Prelude.{ℕ, Bool, true, false, List, [], ◌∷◌, ◌++◌, Option, Some, None, Result, Ok, Err, codes}
use Rattle.rhai_machine.specs.Types.{Dynamic, EvalAltResult, Position}
use Rattle.rhai_values.specs.declared.base.value.Union.TheVariants as value
use Rattle.rhai_values.specs.Copy.{plain}
use Rattle.rhai_errors.specs.declared.error.EvalAltResult.TheVariants as error
use Rattle.rhai_machine.specs.language.State.{Local}
use Rattle.rhai_machine.specs.language.Values.{unit_value}
use Rattle.rhai_machine.specs.language.Frames.{Operation, FromFocus, Call, Member, Property, Item, MemberAccess, Frame, Core, core, ended}
use Rattle.rhai_machine.specs.language.Frames.{Ask}
use Rattle.rhai_machine.specs.language.Frames.{Fail, GetterTried, SetterTried, IndexerTried}
use Rattle.rhai_machine.specs.language.Arguments.{operation_named}
pub use Rattle.rhai_machine.specs.language.Handles.{focus_of, focused_on}

module _ {H : Type 0} where
  -- a call by name with the focus before its other arguments, which is lent
  abbrev pub lent_call : Operation → (guarded marks : Bool) → (focus : Dynamic H) → (rest : List (Dynamic H)) → Call H
  lent_call operation guarded marks focus rest = record {
    operation = operation;
    number = None;
    args = focus ∷ rest;
    lender = Some FromFocus;
    guarded = guarded;
    marks = marks;
  }

  -- ---- the four natives

  -- the call of a property's getter
  abbrev pub get_property : (name : List ℕ) → Position → (guarded : Bool) → (focus : Dynamic H) → Call H
  get_property name at guarded focus = lent_call (operation_named (codes "get$" ++ name) at) guarded false focus []

  -- the call of a property's setter, whose answer tells of a change
  abbrev pub set_property : (name : List ℕ) → Position → (guarded : Bool) → (focus value : Dynamic H) → Call H
  set_property name at guarded focus value = lent_call (operation_named (codes "set$" ++ name) at) guarded true focus (value ∷ [])

  -- the call of the indexer that gets an item; a constant is kept from one that is not pure
  abbrev pub get_item : Position → (focus index : Dynamic H) → Call H
  get_item at focus index = lent_call (operation_named (codes "index$get$") at) true false focus (index ∷ [])

  -- the call of the indexer that sets an item, whose answer tells of a change
  abbrev pub set_item : Position → (guarded : Bool) → (focus index value : Dynamic H) → Call H
  set_item at guarded focus index value =
      lent_call (operation_named (codes "index$set$") at) guarded true focus (index ∷ value ∷ [])

  -- the index by which the indexer knows a property: its name as a text
  abbrev pub named : List ℕ → Dynamic H
  named name = plain (value.Str name)

  -- ---- a member is got, and set

  -- a member of the focus is got, by its kind: a property by its getter first, and an item by the indexer
  abbrev pub got_by : Member H → MemberAccess H → List (Frame H) → Local H → Core H
  got_by (Property name at) access k l =
      core (Ask (get_property name at access.guarded (focus_of l))) (GetterTried access name ∷ k) l
  got_by (Item index) access k l = core (Ask (get_item access.at (focus_of l) index)) k l

  -- a member of the focus is got
  abbrev pub get_core : MemberAccess H → List (Frame H) → Local H → Core H
  get_core access k l = got_by access.member access k l

  -- what waits for an indexer that sets: where its absence is ignored, `()` stands for its answer
  abbrev pub unless_ignored : (ignores : Bool) → List (Frame H) → List (Frame H)
  unless_ignored true k = IndexerTried (Ok unit_value) ∷ k
  unless_ignored false k = k

  -- a member of the focus is set, by its kind: a property by its setter first, and an item by the indexer
  abbrev pub set_by : Member H → (ignores : Bool) → MemberAccess H → (value : Dynamic H) → List (Frame H) → Local H → Core H
  set_by (Property name at) ignores access v k l =
      core (Ask (set_property name at access.guarded (focus_of l) v)) (SetterTried access name v ignores ∷ k) l
  set_by (Item index) ignores access v k l =
      core (Ask (set_item access.at access.guarded (focus_of l) index v)) (unless_ignored ignores k) l

  -- a member of the focus is set
  abbrev pub set_core : (ignores : Bool) → MemberAccess H → (value : Dynamic H) → List (Frame H) → Local H → Core H
  set_core ignores access v k l = set_by access.member ignores access v k l

  -- ---- where a native is missing

  -- whether an error says that there is no such property
  abbrev pub lacks_property : EvalAltResult H → Bool
  lacks_property (error.ErrorDotExpr name at) = true
  lacks_property _ = false

  -- whether an error says that there is no indexer for two types
  abbrev pub lacks_indexer : EvalAltResult H → Bool
  lacks_indexer (error.ErrorIndexingType text at) = true
  lacks_indexer _ = false

  -- after a getter's error: where the getter is missing the indexer is asked, and where that is missing too the getter's error stands
  abbrev pub getter_missing : (lacks : Bool) → EvalAltResult H → MemberAccess H → (name : List ℕ) → List (Frame H) → Local H → Core H
  getter_missing true e access name k l = core (Ask (get_item access.at (focus_of l) (named name))) (IndexerTried (Err e) ∷ k) l
  getter_missing false e access name k l = core (Fail e) k l

  -- what stands for a missing indexer after a missing setter: `()` where that is ignored, and else the setter's error
  abbrev pub after_setter : (ignores : Bool) → EvalAltResult H → Result (Dynamic H) (EvalAltResult H)
  after_setter true e = Ok unit_value
  after_setter false e = Err e

  -- after a setter's error: where the setter is missing the indexer sets the property
  abbrev pub setter_missing : (lacks : Bool) → EvalAltResult H → MemberAccess H → (name : List ℕ) → (value : Dynamic H) →
      (ignores : Bool) → List (Frame H) → Local H → Core H
  setter_missing true e access name v ignores k l =
      core (Ask (set_item access.at access.guarded (focus_of l) (named name) v)) (IndexerTried (after_setter ignores e) ∷ k) l
  setter_missing false e access name v ignores k l = core (Fail e) k l

  -- after an indexer's error: where the indexer is missing, what stands for it comes up or down
  abbrev pub indexer_missing : (lacks : Bool) → EvalAltResult H → (otherwise : Result (Dynamic H) (EvalAltResult H)) → List (Frame H) →
      Local H → Core H
  indexer_missing true e otherwise k l = core (ended otherwise) k l
  indexer_missing false e otherwise k l = core (Fail e) k l
