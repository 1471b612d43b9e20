-- How a chain of one link comes to its root, where its index is an integer that stands.
use Rattle.std.proofs.Common.{◌≡◌, ◌<◌, ◌≤◌, ◌+◌, ℕ, ℤ, Bool, true, false, List, [], ◌∷◌, Option, Some, None, Result, refl, sym, ap, subst}
use Rattle.std.proofs.Common.{◌∙◌, arith}
use Rattle.std.specs.Option.{option_map}
use Rattle.std.proofs.lemmas.Bool.{lt-ltb}
use Rattle.rhai_tree.specs.declared.expr.Expr.{Expr, out-Expr}
use Rattle.rhai_tree.specs.declared.expr.Expr.TheOpen as layer
use Rattle.rhai_tree.specs.declared.flags.ASTFlags.{ASTFlags}
use Rattle.rhai_tree.specs.declared.position.Position.{Position}
use Rattle.rhai_tree.specs.Layers.{ExprLayer}
use Rattle.rhai_tree.specs.Positions.{position_of}
use Rattle.rhai_values.specs.declared.base.value.Dynamic.{Dynamic}
use Rattle.rhai_values.specs.declared.base.value.Union.{Union}
use Rattle.rhai_values.specs.declared.base.value.Union.TheVariants as value
use Rattle.rhai_values.specs.Copy.{copy_of, copy_union, plain}
use Rattle.rhai_errors.specs.declared.error.EvalAltResult.{EvalAltResult}
use Rattle.rhai_state.specs.declared.scope.Scope.{Scope}
use Rattle.rhai_lookups.specs.declared.run.RunState.{RunState}
use Rattle.rhai_state.specs.Scope.{entries_of}
use Rattle.rhai_operators.specs.Direct.{integer_in}
use Rattle.rhai_machine.specs.machine.Machine.{Charge, Go}
use Rattle.rhai_machine.specs.machine.Memory.{here, ◌⨾◌, Leads}
use Rattle.rhai_machine.specs.language.Setting.{Rules, limit_under, cut}
use Rattle.rhai_machine.specs.language.State.{Held, Local, State}
use Rattle.rhai_machine.specs.language.Links.{AtIndex, Link, breaks, first_in, index_link, link_of, link_with}
use Rattle.rhai_machine.specs.language.Frames.{Argument, CallArgument, Chain, ChainArguments, ChainRoot, Control, Core, Frame, NewValue}
use Rattle.rhai_machine.specs.language.Frames.{OpenChain}
use Rattle.rhai_machine.specs.language.Frames.{ToChain, chain_on, core, on_value}
use Rattle.rhai_machine.specs.language.Arguments.{arguments_core}
use Rattle.rhai_machine.specs.language.Chains.{asked_move, open_move, opened_core}
use Rattle.rhai_machine.specs.language.Expressions.{literal_of}
use Rattle.rhai_machine.specs.language.Language.{move, machine}
use Rattle.rhai_machine.specs.language.Runs.{at, with_core}
use Rattle.rhai_steps.specs.States.{local_of, state_of}
use Rattle.rhai_steps.proofs.Pieces.{step_by}
use Rattle.rhai_operands.specs.Standing.{integer_of, standing}
use Rattle.rhai_operands.proofs.InPlace.{flat_copy}
use Rattle.rhai_operands.proofs.Standing.{argument_goes, standing_plain}
use Rattle.rhai_fast_assign.specs.Items.{charges_of, index_is_simple}

-- a charge that leads to another stack
pub charged_on : {S H : Type 0} (rules : Rules S H) (t : S) (old new : RunState H) (scope : Scope H) (held : Held
    H) (c : Control H)
    (pos : Position) (k : List (Frame H)) (d : Local H → Core H) →
    move rules.setting (core c k (local_of old scope held)) ≡ Charge pos (d (local_of old scope held)) →
    old.num_operations < limit_under rules → new ≡ record old { num_operations = old.num_operations + 1 } →
    Leads (machine rules) (cut rules) (at c k (state_of t old scope held))
    (with_core (d (local_of new scope held)) (state_of t new scope held))
charged_on rules t old new scope held c pos k d charges room is = step_by rules _ _ _ charges (rw (lt-ltb _ _ room, is) here)

module _ {H : Type 0} where
  pub integer_from : (u : Union H) (m : ℤ) → integer_in u ≡ Some m → u ≡ value.Int m
  integer_from (value.Int z) m is = let same : z ≡ m = cc in ap (λ (n : ℤ). value.Int n) same
  integer_from _ m is = cc

  -- an operand that stands as an integer
  pub integer_stands : (o : Option (Dynamic H)) (n : ℤ) → integer_of o ≡ Some n →
      (y : Dynamic H) × (o ≡ Some y) × (y.value ≡ value.Int n)
  integer_stands None n is = cc
  integer_stands (Some y) n is = (y, refl, integer_from y.value n is)

-- what an index is charged, beside the value, the root and the item
abbrev pub extra_of : ExprLayer → ℕ
extra_of (layer.IntegerConstant n pos) = 0
extra_of _ = 2

pub charges_are : (l : ExprLayer) → charges_of l ≡ 3 + extra_of l
charges_are (layer.IntegerConstant n pos) = refl
charges_are _ = refl

-- such an index is no chain
no_chain : (l : ExprLayer) → index_is_simple l ≡ true → first_in l ≡ None
no_chain (layer.IntegerConstant n pos) is = refl
no_chain (layer.Variable offset name namespace pos) is = refl
no_chain _ is = cc

module _ {H : Type 0} (root index : Expr) (options : ASTFlags) (pos : Position) (new : NewValue H) where
  -- the item, its one link, and the chain over its root, before and after its index is there
  abbrev pub item : ExprLayer
  item = layer.Index root index options pos

  abbrev pub link : Link
  link = link_with (AtIndex index) pos (position_of index) options None

  abbrev pub begun : Chain H
  begun = chain_on root item (Some new)

  abbrev pub indexed_by : ℤ → Chain H
  indexed_by z = record begun { args = plain (value.Int z) ∷ [] }

  link_by : (broken : Bool) (first : Option Expr) → first ≡ None → index_link broken first index options pos ≡ link
  link_by false None is = refl
  link_by false (Some e) is = cc
  link_by true first is = refl

  pub link_is : index_is_simple (out-Expr index) ≡ true → link_of item ≡ Some link
  link_is alone = ap (λ (l : Link). Some l) (link_by (breaks options) (first_in (out-Expr index)) (no_chain (out-Expr index) alone))

  module _ {S : Type 0} (rules : Rules S H) (alone : index_is_simple (out-Expr index) ≡ true) where
    opens_by : (k : List (Frame H)) (l : Local H) (form : ExprLayer) → out-Expr index ≡ form →
        move rules.setting (core (OpenChain begun) k l)
        ≡ Go (opened_core None (option_map (λ v. v ∷ []) (literal_of form)) begun k l)
    opens_by k l form is = ap (λ (o : Option Link). open_move o begun k l) (link_is alone)
        ∙ ap (λ (f : ExprLayer). Go (opened_core None (option_map (λ v. v ∷ []) (literal_of f)) begun k l)) is

    -- a literal index is there
    literal_comes : (n : ℤ) (where_it_is : Position) → out-Expr index ≡ layer.IntegerConstant n where_it_is → (k : List (Frame H))
        (s : State S H) → Leads (machine rules) (cut rules) (at (OpenChain begun) k s) (at (ChainRoot (indexed_by n)) k s)
    literal_comes n where_it_is is k s = step_by rules _ _ (Go (core (ChainRoot (indexed_by n)) k s.local))
        (opens_by k s.local (layer.IntegerConstant n where_it_is) is) here

    module _ (t : S) (scope : Scope H) (held : Held H) (x : Dynamic H) (z : ℤ) (holds : x.value ≡ value.Int z)
        (stands : standing (out-Expr index) (entries_of scope) ≡ Some x) (k : List (Frame H)) where
      abbrev on_index : List (Frame H)
      on_index = CallArgument (ToChain begun None) [] (position_of index) [] ∷ k

      indexed : copy_of x ≡ plain (value.Int z)
      indexed = ap (λ (u : Union H). plain (copy_union u)) holds

      -- one that is a variable is charged, after what stands behind the bracket
      variable_comes : (old mid new_state : RunState H) → old.num_operations < limit_under rules →
          mid ≡ record old { num_operations = old.num_operations + 1 } → mid.num_operations < limit_under rules →
          new_state ≡ record mid { num_operations = mid.num_operations + 1 } → literal_of {H = H} (out-Expr index) ≡ None →
          Leads (machine rules) (cut rules) (at (OpenChain begun) k (state_of t old scope held)) (at (ChainRoot (indexed_by z)) k
          (state_of t new_state scope held))
      variable_comes old mid new_state room is more last no_literal =
          step_by rules _ _ (Go (core (ChainArguments begun item []) k (local_of old scope held)))
          (opens_by k (local_of old scope held) (out-Expr index) refl
          ∙ ap (λ (o : Option (Dynamic H)). Go (opened_core None (option_map (λ v. v ∷ []) o) begun k (local_of old scope
          held))) no_literal)
          (charged_on rules t old mid scope held (ChainArguments begun item []) (position_of index) k (λ l. core
          (Argument index) on_index l)
          (ap (λ (o : Option Link). asked_move rules.setting o begun [] k (local_of old scope held)) (link_is alone)) room is)
          ⨾ argument_goes rules index x t mid new_state scope held stands more last on_index
          ⨾ step_by rules _ _ (Go (core (ChainRoot (indexed_by z)) k (local_of new_state scope held)))
          (ap (λ (r : Result (Dynamic H) (EvalAltResult H)). Go (on_value r
          (λ v. arguments_core rules.setting (ToChain begun None) (v ∷ []) [] k (local_of new_state scope held)) k
          (local_of new_state scope held)))
          (flat_copy (local_of new_state scope held).around.cells x.value (copy_of x) (position_of index)
          (standing_plain (out-Expr index) (entries_of scope) x stands))
          ∙ ap (λ (v : Dynamic H). Go (core (ChainRoot (record begun { args = v ∷ [] })) k (local_of new_state scope held))) indexed) here

      abbrev index_goes : (extra : ℕ) → RunState H → RunState H → Type 0
      index_goes extra old new_state = old.num_operations + extra ≤ limit_under rules →
          new_state ≡ record old { num_operations = old.num_operations + extra } →
          Leads (machine rules) (cut rules) (at (OpenChain begun) k (state_of t old scope held)) (at (ChainRoot (indexed_by z)) k
          (state_of t new_state scope held))

      literal_goes : (n : ℤ) (where_it_is : Position) → out-Expr index ≡ layer.IntegerConstant n where_it_is →
          (old new_state : RunState H) → index_goes 0 old new_state
      literal_goes n where_it_is form old new_state room is =
          let same : plain (value.Int n) ≡ x =
          let found : Some (plain {H = H} (value.Int n)) ≡ Some x = rw form at stands in cc in
          let number : Some n ≡ Some z = ap (λ (v : Dynamic H). integer_in v.value) same ∙ ap (λ (u : Union H). integer_in u) holds in
          let equal : n ≡ z = cc in
          let stays : old ≡ new_state = ap (λ (m : ℕ). record old { num_operations = m }) (omega arith) ∙ sym is in
          subst (λ (g : RunState H). Leads (machine rules) (cut rules) (at (OpenChain begun) k (state_of t old scope held))
          (at (ChainRoot (indexed_by z)) k (state_of t g scope held))) stays
          (subst (λ (m : ℤ). Leads (machine rules) (cut rules) (at (OpenChain begun) k (state_of t old scope held))
          (at (ChainRoot (indexed_by m)) k (state_of t old scope held))) equal
          (literal_comes n where_it_is form k (state_of t old scope held)))

      variable_goes : literal_of {H = H} (out-Expr index) ≡ None → (old new_state : RunState H) → index_goes 2 old new_state
      variable_goes no_literal old new_state room is =
          variable_comes old (record old { num_operations = old.num_operations + 1 }) new_state (omega (arith, room)) refl
          (omega (arith, room))
          (is ∙ ap (λ (m : ℕ). record old { num_operations = m }) (omega arith)) no_literal

      index_by : (form : ExprLayer) → out-Expr index ≡ form → index_is_simple form ≡ true → (old new_state : RunState H) →
          index_goes (extra_of form) old new_state
      index_by (layer.IntegerConstant n where_it_is) form is_alone old new_state room is =
          literal_goes n where_it_is form old new_state room is
      index_by (layer.Variable offset name namespace where_it_is) form is_alone old new_state room is =
          variable_goes (ap (λ (f : ExprLayer). literal_of {H = H} f) form) old new_state room is
      index_by _ form is_alone old new_state room is = cc

      -- the index comes, and the chain goes to its root
      pub index_comes : (old new_state : RunState H) → index_goes (extra_of (out-Expr index)) old new_state
      index_comes old new_state room is = index_by (out-Expr index) refl alone old new_state room is
