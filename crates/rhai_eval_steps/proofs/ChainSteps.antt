-- How a chain is entered, its arguments and its root, and how an assignment to it begins.
use Rattle.std.proofs.Common.{◌≡◌, ◌+◌, ℕ, Bool, true, false, IsTrue, List, [], ◌∷◌, length}
use Rattle.std.proofs.Common.{Option, Some, None, Result, Ok, Err, is_none, is_some, refl, sym, ap, subst, ◌∙◌, arith}
use Rattle.std.proofs.Common.{zero-add}
use Rattle.std.specs.Option.{option_map}
use Rattle.std.specs.declared.num.NonZeroUsize.{NonZeroUsize}
use Rattle.rhai_tree.specs.declared.expr.Expr.{Expr, out-Expr}
use Rattle.rhai_tree.specs.declared.expr.Expr.TheOpen as layer
use Rattle.rhai_tree.specs.declared.expr.Namespace.{Namespace}
use Rattle.rhai_tree.specs.declared.expr.OpAssignment.{OpAssignment}
use Rattle.rhai_tree.specs.declared.position.Position.{Position}
use Rattle.rhai_tree.specs.Layers.{ExprLayer}
use Rattle.rhai_tree.specs.Positions.{position_of}
use Rattle.rhai_tree.specs.Frame.{resolves_expr}
use Rattle.rhai_tree.specs.Names.{Frame as NamesFrame, Name}
use Rattle.rhai_tree.specs.Reading as walk
use Rattle.rhai_tree.specs.Reading.{sound}
use Rattle.rhai_tree.proofs.Walk.{expr_tests, resolves-expr}
use Rattle.rhai_values.specs.declared.base.value.Dynamic.{Dynamic}
use Rattle.rhai_errors.specs.declared.error.EvalAltResult.{EvalAltResult}
use Rattle.rhai_errors.specs.Errors.{is_out_of_memory}
use Rattle.rhai_machine.specs.machine.Machine.{Go, Charge}
use Rattle.rhai_machine.specs.machine.Memory.{here, Leads}
use Rattle.rhai_machine.specs.language.Setting.{Rules, cut}
use Rattle.rhai_machine.specs.language.State.{Local, State}
use Rattle.rhai_machine.specs.language.Links.{Link, LinkForm, AtIndex, AtProperty, AtMethod, asked_by, first_in, link_of}
use Rattle.rhai_machine.specs.language.Frames.{Chain, Frame, core, AssignChain, ChainArguments, ChainRoot, Eval, Fail}
use Rattle.rhai_machine.specs.language.Frames.{OpenChain, OpenStmt, ReadRoot, RootValue, ToChain}
use Rattle.rhai_machine.specs.language.Arguments.{arguments_core, arguments_there}
use Rattle.rhai_machine.specs.language.Assignment.{assignment_move}
use Rattle.rhai_machine.specs.language.Chains.{asked_move, open_move, opened_core, ready, root_move}
use Rattle.rhai_machine.specs.language.Chains.{this_root_core}
use Rattle.rhai_machine.specs.language.Variables.{variable_named}
use Rattle.rhai_machine.specs.language.Expressions.{literal_of}
use Rattle.rhai_machine.specs.language.Language.{move, machine}
use Rattle.rhai_machine.specs.language.Runs.{at, with_core}
use Rattle.rhai_steps.proofs.Pieces.{or_runs_out, step_by}
use Rattle.rhai_links.specs.Chains.{BehindWalks, Walks}
use Rattle.rhai_links.specs.Ready.{alone, at_once}
use Rattle.rhai_links.proofs.LinkLemmas.{walks_behind}
use Rattle.rhai_eval_steps.specs.Chains.{HasAsked, MayWalk, StartsFrom}
use Rattle.rhai_eval_steps.proofs.ChainLemmas.{IsNoName}

-- what is none of the things that might stand there is nothing
pub nothing_there : {A : Type 0} (o : Option A) → ((x : A) → o ≡ Some x → ⊥) → o ≡ None
nothing_there None clear = refl
nothing_there (Some x) clear = absurd (clear x refl)

-- ---- how many values a chain asks for

module _ {H : Type 0} where
  -- the last link asks for its own
  pub asks_last : (values : List (Dynamic H)) (before : ℕ) (form : ExprLayer) (link : Link) → link_of form ≡ Some link →
      link.behind ≡ None → length values ≡ before + length (asked_by link.form) → HasAsked (Ok values) before form
  asks_last values before form link is alone same assigned count walks =
      let parts = walks_behind assigned form count link walks is in
      let left = subst (λ (o : Option ExprLayer). BehindWalks assigned link.form o parts.0) alone parts.1 in
      omega (arith, same, left.0, parts.2)

  -- and any other for those behind it too
  pub asks_further : (r : Result (List (Dynamic H)) (EvalAltResult H)) (before mid : ℕ) (form rest : ExprLayer) (link : Link) →
      link_of form ≡ Some link → link.behind ≡ Some rest → mid ≡ before + length (asked_by link.form) → HasAsked r mid rest →
      HasAsked r before form
  asks_further (Err e) before mid form rest link is on same asked = tt
  asks_further (Ok values) before mid form rest link is on same asked = λ assigned count walks.
      let parts = walks_behind assigned form count link walks is in
      let further = subst (λ (o : Option ExprLayer). BehindWalks assigned link.form o parts.0) on parts.1 in
      omega (arith, same, asked assigned parts.0 further, parts.2)

  -- what needs no step is as much as the link asks for
  one_given : (o : Option (Dynamic H)) (args : List (Dynamic H)) → option_map (λ v. v ∷ []) o ≡ Some args → length args ≡ 1
  one_given None args is = cc
  one_given (Some v) args is = let same : v ∷ [] ≡ args = cc in ap length (sym same)

  ready_length : (form : LinkForm) (args : List (Dynamic H)) → ready form ≡ Some args → length args ≡ length (asked_by form)
  ready_length (AtIndex index) args is = one_given (literal_of (out-Expr index)) args is
  ready_length (AtProperty name at) args is = let same : [] ≡ args = cc in ap length (sym same)
  ready_length (AtMethod name [] at) args is = let same : [] ≡ args = cc in ap length (sym same)
  ready_length (AtMethod name (arg ∷ rest) at) args is = cc

-- ---- a chain is entered

module _ {H : Type 0} where
  -- what one link alone is given is as much as it asks for
  given_at_once : (behind : Option ExprLayer) (o : Option (List (Dynamic H))) (args : List (Dynamic H)) → alone behind o ≡ Some args →
      (behind ≡ None) × (o ≡ Some args)
  given_at_once None o args is = (refl, is)
  given_at_once (Some rest) o args is = (cc, cc)

  once_asked : (form : ExprLayer) (o : Option Link) (args : List (Dynamic H)) → link_of form ≡ o → at_once o ≡ Some args →
      HasAsked (Ok args) 0 form
  once_asked form None args is given = cc
  once_asked form (Some link) args is given =
      let parts = given_at_once link.behind (ready link.form) args given in
      asks_last args 0 form link is parts.0 (omega (arith, ready_length link.form args parts.1))

  pub asked_at_once : (form : ExprLayer) (args : List (Dynamic H)) → at_once (link_of form) ≡ Some args → HasAsked (Ok args) 0 form
  asked_at_once form args given = once_asked form (link_of form) args refl given

  -- so many values a chain walks with
  pub walks_given : (assigned : Bool) (form : ExprLayer) (values : List (Dynamic H)) → MayWalk assigned form →
      HasAsked (Ok values) 0 form → Walks assigned form (length values)
  walks_given assigned form values may asked =
      subst (λ (n : ℕ). Walks assigned form n) (sym (asked assigned may.count may.walks ∙ zero-add may.count)) may.walks

  module _ (chain : Chain H) (k : List (Frame H)) (l : Local H) where
    opened_by : (behind : Option ExprLayer) (o : Option (List (Dynamic H))) (args : List (Dynamic H)) → alone behind o ≡ Some args →
        opened_core behind o chain k l ≡ core (ChainRoot (record chain { args = args })) k l
    opened_by None None args is = cc
    opened_by None (Some found) args is = let same : found ≡ args = cc in
        ap (λ (x : List (Dynamic H)). core (ChainRoot (record chain { args = x })) k l) same
    opened_by (Some rest) o args is = cc

    opened_link : (o : Option Link) (args : List (Dynamic H)) → at_once o ≡ Some args →
        open_move o chain k l ≡ Go (core (ChainRoot (record chain { args = args })) k l)
    opened_link None args is = cc
    opened_link (Some link) args is = ap Go (opened_by link.behind (ready link.form) args is)

    asking_by : (behind : Option ExprLayer) (o : Option (List (Dynamic H))) → alone behind o ≡ None →
        opened_core behind o chain k l ≡ core (ChainArguments chain chain.rest []) k l
    asking_by None None is = refl
    asking_by None (Some found) is = cc
    asking_by (Some rest) o is = refl

    asking_link : (o : Option Link) (link : Link) → o ≡ Some link → at_once {H = H} o ≡ None →
        open_move o chain k l ≡ Go (core (ChainArguments chain chain.rest []) k l)
    asking_link None link there is = cc
    asking_link (Some found) link there is = ap Go (asking_by found.behind (ready found.form) is)

module _ {S H : Type 0} (rules : Rules S H) where
  module _ (chain : Chain H) (form : ExprLayer) (whole : chain.rest ≡ form) (k : List (Frame H)) (s : State S H) where
    -- a chain that is given its arguments at once goes to its root
    pub opens_at_once : (args : List (Dynamic H)) → at_once (link_of form) ≡ Some args →
        Leads (machine rules) (cut rules) (at (OpenChain chain) k s) (at (ChainRoot (record chain { args = args })) k s)
    opens_at_once args given = step_by rules _ _ (Go (core (ChainRoot (record chain { args = args })) k s.local))
        (opened_link chain k s.local (link_of chain.rest) args (ap (λ (x : ExprLayer). at_once (link_of x)) whole ∙ given)) here

    -- or memory runs out for them
    pub opens_running_out : (e : EvalAltResult H) → is_out_of_memory e ≡ true →
        Leads (machine rules) (cut rules) (at (OpenChain chain) k s) (at (Fail e) k s)
    opens_running_out e is_out = or_runs_out rules (OpenChain chain) k s e (λ m. let clear : true ≡ false = sym is_out ∙ m in cc)

    -- and any other asks for them
    pub opens_asking : (link : Link) → link_of form ≡ Some link → at_once {H = H} (link_of form) ≡ None →
        Leads (machine rules) (cut rules) (at (OpenChain chain) k s) (at (ChainArguments chain form []) k s)
    opens_asking link there none = step_by rules _ _ (Go (core (ChainArguments chain form []) k s.local))
        (asking_link chain k s.local (link_of chain.rest) link (ap link_of whole ∙ there)
        (ap (λ (x : ExprLayer). at_once {H = H} (link_of x)) whole ∙ none)
        ∙ ap (λ (x : ExprLayer). Go (core (ChainArguments chain x []) k s.local)) whole) here

  -- what stands behind an operator is charged before the arguments there
  pub asks_link : (chain : Chain H) (rest : ExprLayer) (made : List (Dynamic H)) (link : Link) → link_of rest ≡ Some link →
      (k : List (Frame H)) (l : Local H) → move rules.setting (core (ChainArguments chain rest made) k l)
      ≡ Charge link.rest_at (arguments_core rules.setting (ToChain chain link.behind) made (asked_by link.form) k l)
  asks_link chain rest made link is k l = ap (λ (o : Option Link). asked_move rules.setting o chain made k l) is

  -- once those are there the chain goes on, or is at its root
  module _ (chain : Chain H) (values : List (Dynamic H)) (behind : Option ExprLayer) (k : List (Frame H)) (s : State S H) where
    pub arrives_on : (rest : ExprLayer) → behind ≡ Some rest →
        Leads (machine rules) (cut rules) (with_core (arguments_there rules.setting (ToChain chain behind) values k s.local) s)
        (at (ChainArguments chain rest values) k s)
    arrives_on rest on = rw on here

    pub arrives_last : behind ≡ None →
        Leads (machine rules) (cut rules) (with_core (arguments_there rules.setting (ToChain chain behind) values k s.local) s)
        (at (ChainRoot (record chain { args = values })) k s)
    arrives_last alone = rw alone here

  -- a variable is charged, and read then
  pub variable_root : (root : Expr) (offset : Option NonZeroUsize) (name : Name) (namespace : Namespace) (pos : Position) →
      out-Expr root ≡ layer.Variable offset name namespace pos → (chain : Chain H) → chain.root ≡ root →
      (k : List (Frame H)) (l : Local H) →
      move rules.setting (core (ChainRoot chain) k l) ≡ Charge pos (core (ReadRoot (variable_named name namespace pos) chain) k l)
  variable_root root offset name namespace pos is chain same k l =
      ap (λ (x : Expr). root_move (out-Expr x) chain k l) same ∙ ap (λ (x : ExprLayer). root_move x chain k l) is

  -- and so is `this`
  pub this_root : (root : Expr) (pos : Position) → out-Expr root ≡ layer.ThisPtr pos → (chain : Chain H) → chain.root ≡ root →
      (k : List (Frame H)) (l : Local H) →
      move rules.setting (core (ChainRoot chain) k l) ≡ Charge pos (this_root_core pos chain k l)
  this_root root pos is chain same k l =
      ap (λ (x : Expr). root_move (out-Expr x) chain k l) same ∙ ap (λ (x : ExprLayer). root_move x chain k l) is

module _ {H : Type 0} where
  -- ---- a root that is no variable and not `this`

  root_at : (l : ExprLayer) (frame : NamesFrame) → IsNoName l → IsTrue ((walk.expr_step sound (expr_tests l)).value frame) →
      (chain : Chain H) (k : List (Frame H)) (s : Local H) → is_none chain.new ≡ true →
      root_move l chain k s ≡ Go (core (Eval chain.root) (RootValue chain ∷ k) s)
  root_at (layer.Variable offset name namespace pos) frame other h chain k s none = absurd other
  root_at (layer.ThisPtr pos) frame other h chain k s none = absurd other
  root_at _ frame other h chain k s none = rw none refl

module _ {S H : Type 0} (rules : Rules S H) where
  -- it is evaluated
  pub evaluates_root : (root : Expr) (frame : NamesFrame) → IsNoName (out-Expr root) → IsTrue (resolves_expr root frame) →
      (chain : Chain H) → chain.root ≡ root → is_none chain.new ≡ true → (k : List (Frame H)) (s : State S H) →
      Leads (machine rules) (cut rules) (at (ChainRoot chain) k s) (at (Eval root) (RootValue chain ∷ k) s)
  evaluates_root root frame other h chain same none k s = step_by rules _ _ (Go (core (Eval root) (RootValue chain ∷ k) s.local))
      (ap (λ (x : Expr). root_move (out-Expr x) chain k s.local) same
      ∙ root_at (out-Expr root) frame other
      (subst (λ (x : walk.Seen sound). IsTrue (x.value frame)) (resolves-expr root (out-Expr root) refl) h)
      chain k s.local none
      ∙ ap (λ (x : Expr). Go (core (Eval x) (RootValue chain ∷ k) s.local)) same) here

  -- ---- an assignment to a chain

  assigned_at : (l : ExprLayer) (root : Expr) → first_in l ≡ Some root → (op : OpAssignment) (rhs : Expr) (k : List (Frame H))
      (s : Local H) → assignment_move l op rhs k s ≡ Go (core (Eval rhs) (AssignChain root l op (position_of rhs) ∷ k) s)
  assigned_at (layer.Index lhs rest options pos) root is op rhs k s = let same : lhs ≡ root = cc in
      ap (λ (x : Expr). Go (core (Eval rhs) (AssignChain x (layer.Index lhs rest options pos) op (position_of rhs) ∷ k) s)) same
  assigned_at (layer.Dot lhs rest options pos) root is op rhs k s = let same : lhs ≡ root = cc in
      ap (λ (x : Expr). Go (core (Eval rhs) (AssignChain x (layer.Dot lhs rest options pos) op (position_of rhs) ∷ k) s)) same
  assigned_at _ root is op rhs k s = cc

  -- it begins with its value
  pub begins_chain : (op : OpAssignment) (lhs rhs root : Expr) (restoring : Bool) → first_in (out-Expr lhs) ≡ Some root →
      (k : List (Frame H)) (s : State S H) → Leads (machine rules) (cut rules) (at (OpenStmt (layer.Assignment op lhs rhs) restoring) k s)
      (at (Eval rhs) (AssignChain root (out-Expr lhs) op (position_of rhs) ∷ k) s)
  begins_chain op lhs rhs root restoring is k s =
      step_by rules _ _ (Go (core (Eval rhs) (AssignChain root (out-Expr lhs) op (position_of rhs) ∷ k) s.local))
      (assigned_at (out-Expr lhs) root is op rhs k s.local) here

never : (l : ExprLayer) → IsNoName l → StartsFrom true l → ⊥
never (layer.Variable offset name namespace pos) other starts = other
never (layer.ThisPtr pos) other starts = other
never _ other starts = starts

-- what is assigned to starts from a variable or from `this`, so where the root is neither nothing is
pub not_assigned : {A : Type 0} (o : Option A) (l : ExprLayer) → IsNoName l → StartsFrom (is_some o) l → o ≡ None
not_assigned None l other starts = refl
not_assigned (Some v) l other starts = absurd (never l other starts)
