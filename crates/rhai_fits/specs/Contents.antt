-- What a run has in hand: the values and errors in its control, on its stack, and among its variables and cells; the modules and the tables
-- of constants around it, and the modules of its engine; and what those contain.
use Rattle.std.specs.Prelude.{◌⊎◌, ℕ, List, [], ◌∷◌, Option, Some, None, Result, Ok, Err, Contains}
use Rattle.rhai_values.specs.declared.base.value.Dynamic.{Dynamic}
use Rattle.rhai_values.specs.declared.base.value.EncapsulatedEnviron.{EncapsulatedEnviron, out-EncapsulatedEnviron}
use Rattle.rhai_values.specs.declared.base.value.Import.{Import, out-Import}
use Rattle.rhai_values.specs.declared.base.value.Module.{Module}
use Rattle.rhai_values.specs.declared.base.value.Union.TheVariants as value
use Rattle.rhai_values.specs.Copy.{plain}
use Rattle.rhai_errors.specs.declared.error.EvalAltResult.{EvalAltResult}
use Rattle.rhai_state.specs.declared.scope.ScopeEntry.{ScopeEntry}
use Rattle.rhai_values.specs.ValueContents.{Reached, contents_of}
use Rattle.rhai_errors.specs.ErrorContents.{error_contents}
use Rattle.rhai_machine.specs.machine.Point.{Point}
use Rattle.rhai_machine.specs.language.Setting.{Offer, Rules}
use Rattle.rhai_machine.specs.language.State.{Local, Surroundings}
use Rattle.rhai_machine.specs.language.Values.{Cells}
use Rattle.rhai_machine.specs.language.Activations.{Variables, Caller, CallExit}
use Rattle.rhai_machine.specs.language.Turns.{Turns, OfItems, OfIntegers}
use Rattle.rhai_machine.specs.language.Frames.{NewValue, Chain, Member, Property, Item, MemberAccess, Update, Core, Purpose, ToCall}
use Rattle.rhai_machine.specs.language.Frames.{ToCallFunction, ToCallNumber, ToCurry, ToChain, Control, Ask, CallNamed, EnterFunction}
use Rattle.rhai_machine.specs.language.Frames.{Assign, AssignThis, AskUpdate, Question, Fire, QuestionUpdate, FireUpdate, Run}
use Rattle.rhai_machine.specs.language.Frames.{Store, StoreThis, ForTurn, ForItem, OpenChain, ChainArguments, ChainRoot, ReadRoot, Walk}
use Rattle.rhai_machine.specs.language.Frames.{Locate, Back, Changed, Fail, Frame, RightOperand, CallArgument, ArrayItem, EntryValue}
use Rattle.rhai_machine.specs.language.Frames.{ForBody, CatchBranch, RootValue, ChainEnd, StepDown, Temporary, PartMethod, PartAssigned}
use Rattle.rhai_machine.specs.language.Frames.{MethodLink, MemberLink, MemberGot, MemberOperated, GetterTried, SetterTried, IndexerTried}
use Rattle.rhai_machine.specs.language.Frames.{MemberSet, CallEnd}
use Rattle.rhai_fits.specs.Modules.{module_contents}

-- values, errors and modules, one after the other
pub data Contents (H : Type 0) : Type 0 where
  Nothing : Contents H
  OneValue : Dynamic H → Contents H
  OneError : EvalAltResult H → Contents H
  OneModule : Module H → Contents H
  Both : Contents H → Contents H → Contents H

module _ {H : Type 0} where
  -- ---- lists, and what may be there

  -- the values of a list, in order
  abbrev pub of_values : List (Dynamic H) → Contents H
  of_values [] = Nothing
  of_values (v ∷ vs) = Both (OneValue v) (of_values vs)

  -- a value that may be there
  abbrev pub of_maybe : Option (Dynamic H) → Contents H
  of_maybe None = Nothing
  of_maybe (Some v) = OneValue v

  -- the value of a result, or its error
  abbrev pub of_result : Result (Dynamic H) (EvalAltResult H) → Contents H
  of_result (Ok v) = OneValue v
  of_result (Err e) = OneError e

  -- the values of the variables of a scope
  abbrev pub of_scope : List (ScopeEntry H) → Contents H
  of_scope [] = Nothing
  of_scope (entry ∷ entries) = Both (OneValue entry.value) (of_scope entries)

  -- the values of the cells that are not held
  abbrev pub of_cells : Cells H → Contents H
  of_cells [] = Nothing
  of_cells (cell ∷ cells) = Both (of_maybe cell) (of_cells cells)

  -- ---- modules and tables of constants

  -- the modules of a list, in order
  abbrev pub of_modules : List (Module H) → Contents H
  of_modules [] = Nothing
  of_modules (m ∷ ms) = Both (OneModule m) (of_modules ms)

  -- the modules of some imports
  abbrev pub of_imports : List (Import H) → Contents H
  of_imports [] = Nothing
  of_imports (i ∷ imports) = Both (OneModule (out-Import H i).«module») (of_imports imports)

  -- the values of tables of constants
  abbrev pub of_tables : List (List (List ℕ) × List (Dynamic H)) → Contents H
  of_tables [] = Nothing
  of_tables (table ∷ tables) = Both (of_values table.1) (of_tables tables)

  -- the modules of an environment that a function may have
  abbrev pub of_environ : Option (EncapsulatedEnviron H) → Contents H
  of_environ None = Nothing
  of_environ (Some environ) =
      Both (of_modules (out-EncapsulatedEnviron H environ).lib) (of_imports (out-EncapsulatedEnviron H environ).imports)

  -- what surrounds the variables of a run, but for its cells
  abbrev pub of_around : Surroundings H → Contents H
  of_around around = Both (of_modules around.lib) (Both (of_imports around.imports) (of_tables around.constant_tables))

  -- the modules of an engine: those without a name, those that have one, and those that may be imported
  abbrev pub of_offer : Offer H → Contents H
  of_offer offer =
      Both (of_modules offer.global_modules) (Both (of_modules offer.global_sub_modules.1) (of_modules offer.modules.1))

  -- ---- parts of controls and frames

  -- the value that is assigned, if one is
  abbrev pub of_new : Option (NewValue H) → Contents H
  of_new None = Nothing
  of_new (Some new) = OneValue new.value

  -- what a chain assigns, and the arguments of its links that are left
  abbrev pub of_chain : Chain H → Contents H
  of_chain chain = Both (of_new chain.new) (of_values chain.args)

  -- the index of an item; a property has only a name
  abbrev pub of_member : Member H → Contents H
  of_member (Property name at) = Nothing
  of_member (Item index) = OneValue index

  -- the index by which a temporary is set again, if it is set as an item
  abbrev pub of_way_back : Option (MemberAccess H) → Contents H
  of_way_back None = Nothing
  of_way_back (Some access) = of_member access.member

  -- the value at the place of an update, and the one on the right
  abbrev pub of_update : Update H → Contents H
  of_update u = Both (OneValue u.target) (OneValue u.operand)

  -- the items that a `for` has left; integers are counted, and are none
  abbrev pub of_turns : Turns H → Contents H
  of_turns (OfItems items) = of_values items
  of_turns (OfIntegers next count) = Nothing

  -- what waits for arguments: curried values, a function's environment, a pointer, or a chain
  abbrev pub of_purpose : Purpose H → Contents H
  of_purpose (ToCall operation curried how) = of_values curried
  of_purpose (ToCallFunction function at curried) = Both (of_values curried) (of_environ function.environ)
  of_purpose (ToCallNumber number operation curried) = of_values curried
  of_purpose (ToCurry pointer) = OneValue (plain (value.FnPtr pointer))
  of_purpose (ToChain chain behind) = of_chain chain
  of_purpose _ = Nothing

  -- the caller's variables, where a function has its own
  abbrev pub of_variables : Variables H → Contents H
  of_variables (Caller scope) = of_scope scope
  of_variables _ = Nothing

  -- what the end of a function's call gives back: the caller's variables, a `this` and a focus
  abbrev pub of_exit : CallExit H → Contents H
  of_exit exit = Both (of_variables exit.variables) (Both (of_maybe exit.this) (of_maybe exit.focus))

  -- ---- the control

  -- the values, errors and environments in what is done next
  abbrev pub of_control : Control H → Contents H
  of_control (Ask call) = of_values call.args
  of_control (Question call) = of_values call.args
  of_control (Fire call) = of_values call.args
  of_control (CallNamed operation curried args captures natives_alone) = of_values curried
  of_control (EnterFunction e) = Both (of_values e.args) (of_environ e.environ)
  of_control (Assign assignment v) = OneValue v
  of_control (Store assignment v) = OneValue v
  of_control (AssignThis op at v) = OneValue v
  of_control (StoreThis op at v) = OneValue v
  of_control (AskUpdate u) = of_update u
  of_control (QuestionUpdate u) = of_update u
  of_control (FireUpdate u) = of_update u
  of_control (Run stmts restoring last) = OneValue last
  of_control (ForTurn loop left turn base) = of_turns left
  of_control (ForItem loop item rest turn base) = Both (OneValue item) (of_turns rest)
  of_control (OpenChain chain) = of_chain chain
  of_control (ChainArguments chain rest made) = Both (of_chain chain) (of_values made)
  of_control (ChainRoot chain) = of_chain chain
  of_control (ReadRoot variable chain) = of_chain chain
  of_control (Walk chain) = of_chain chain
  of_control (Locate link chain) = of_chain chain
  of_control (Back v) = OneValue v
  of_control (Changed v) = OneValue v
  of_control (Fail e) = OneError e
  of_control _ = Nothing

  -- ---- the stack

  -- the values and errors in a frame, which waits for another value
  abbrev pub of_frame : Frame H → Contents H
  of_frame (RightOperand operation left right_at) = OneValue left
  of_frame (CallArgument purpose made argument_at rest) = Both (of_purpose purpose) (of_values made)
  of_frame (ArrayItem made item_at rest) = of_values made
  of_frame (EntryValue keys made value_at rest) = of_values made
  of_frame (ForBody loop rest turn base) = of_turns rest
  of_frame (CatchBranch caught) = OneError caught
  of_frame (RootValue chain) = of_chain chain
  of_frame (ChainEnd lender outer) = of_maybe outer
  of_frame (StepDown above step) = OneValue above
  of_frame (Temporary above back) = Both (of_maybe above) (of_way_back back)
  of_frame (PartMethod above spot at) = OneValue above
  of_frame (PartAssigned above spot at) = OneValue above
  of_frame (MethodLink chain) = of_chain chain
  of_frame (MemberLink access chain) = Both (of_member access.member) (of_chain chain)
  of_frame (MemberGot access root new) = Both (of_member access.member) (OneValue new.value)
  of_frame (MemberOperated access above at) = Both (of_member access.member) (of_maybe above)
  of_frame (GetterTried access name) = of_member access.member
  of_frame (SetterTried access name v ignores) = Both (of_member access.member) (OneValue v)
  of_frame (IndexerTried otherwise) = of_result otherwise
  of_frame (MemberSet v) = OneValue v
  of_frame (CallEnd exit) = of_exit exit
  of_frame _ = Nothing

  -- those in each frame of a stack
  abbrev pub of_stack : List (Frame H) → Contents H
  of_stack [] = Nothing
  of_stack (frame ∷ k) = Both (of_frame frame) (of_stack k)

  -- ---- the whole

  -- the variables, `this`, the value that a chain works on, the cells, and what is around them
  abbrev pub of_local : Local H → Contents H
  of_local l =
      Both (of_scope l.scope) (Both (of_maybe l.this) (Both (of_maybe l.focus) (Both (of_cells l.around.cells) (of_around l.around))))

  -- those in the control and on the stack, and the variables with all around them
  abbrev pub of_core : Core H → Contents H
  of_core c = Both (of_control c.control) (Both (of_stack c.stack) (of_local c.local))

module _ {H : Type 0} (own : H → List Reached) where
  -- a value, an error or a module among them contains this: a cell, a script function, or a table of constants
  abbrev pub Has : Contents H → Reached → Type 0
  Has Nothing r = ⊥
  Has (OneValue v) r = Contains (contents_of own v) r
  Has (OneError e) r = Contains (error_contents own e) r
  Has (OneModule m) r = Contains (module_contents own m) r
  Has (Both a b) r = Has a r ⊎ Has b r

-- a run has this at a point: in hand, in a module of the engine, or in the table's state
abbrev pub HasAt : {S H : Type 0} → Rules S H → Point S (Core H) → Reached → Type 0
HasAt rules p r = Has rules.natives.holds.of_host (Both (of_core p.core) (of_offer rules.setting.offer)) r
    ⊎ Contains (rules.natives.holds.of_state p.table) r
