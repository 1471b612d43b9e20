-- What is found behind an operator of a chain.
use Rattle.std.proofs.Common.{◌≡◌, ap, refl, sym, ◌∙◌, subst, Bool, true, false, ◌||◌, ◌&&◌, IsTrue, List, [], ◌∷◌, Result}
use Rattle.std.proofs.lemmas.List.{append-nil}
use Rattle.std.specs.Prelude.{Option, Some, None}
use Rattle.std.specs.Result.{IfErr, OnOk}
use Rattle.rhai_tree.specs.declared.fault.CheckFault.{CheckFault}
use Rattle.rhai_tree.specs.declared.fault.CheckFault.TheVariants.{BadChain}
use Rattle.rhai_tree.specs.declared.expr.ConditionalExpr.{ConditionalExpr}
use Rattle.rhai_tree.specs.declared.expr.Expr.{Expr, out-Expr, roll-Expr, roll-out-Expr}
use Rattle.rhai_tree.specs.declared.expr.Expr.TheVariants.{Dot, Index, rolls-Dot, rolls-Index}
use Rattle.rhai_tree.specs.declared.expr.Expr.TheOpen as layer
use Rattle.rhai_tree.specs.declared.expr.Expr.TheFolds.{map-Expr, fold_out-Expr, fold_out-StmtBlock}
use Rattle.rhai_tree.specs.declared.expr.FnCallExpr.{FnCallExpr}
use Rattle.rhai_tree.specs.declared.expr.MapEntry.{MapEntry}
use Rattle.rhai_tree.specs.declared.expr.Stmt.{Stmt}
use Rattle.rhai_tree.specs.declared.expr.StmtBlock.{StmtBlock}
use Rattle.rhai_tree.specs.declared.flags.ASTFlags.{ASTFlags}
use Rattle.rhai_tree.specs.declared.position.Position.{Position}
use Rattle.rhai_tree.specs.Layers.{ExprLayer}
use Rattle.rhai_tree.specs.Context.{Context}
use Rattle.rhai_check.specs.MemoryNeeds as declares
use Rattle.rhai_check.specs.MemoryNeeds.{expr_needs_memory}
use Rattle.rhai_tree.specs.Frame.{tests_of, resolves_expr, dot_resolves, name_resolves, bracket_resolves}
use Rattle.rhai_tree.specs.Names.{Frame}
use Rattle.rhai_tree.specs.Reading as walk
use Rattle.rhai_tree.specs.Reading.{faulty, sound}
use Rattle.rhai_check.specs.Refusals.{IsFirst, Refuses}
use Rattle.rhai_tree.specs.WellFormed.{seen_expr, dot_faults, name_faults}
use Rattle.rhai_check.proofs.Outcome.{ok_then}
use Rattle.rhai_check.proofs.Refused.{refuses_more, refuses_first, refuses_later}
use Rattle.rhai_check.proofs.Walk.{expr_declares, declares-expr}
use Rattle.rhai_check.specs.Around.{above}
use Rattle.rhai_check.specs.declared.check.declared.Declared.{Declared}

module _ (r : walk.Reading) where
  -- what is seen of the parts of one level
  abbrev pub parts : ExprLayer → layer.Expr-F (walk.Seen r) (walk.SeenStmt r) (walk.SeenConditional r) (walk.SeenCall r) (walk.SeenEntry
      r) (walk.Seen r)
  parts = map-Expr Expr Stmt ConditionalExpr FnCallExpr MapEntry StmtBlock (walk.Seen r) (walk.SeenStmt r) (walk.SeenConditional r)
      (walk.SeenCall r)
      (walk.SeenEntry r) (walk.Seen r) (walk.seen_expr r) (walk.seen_stmt r) (walk.seen_conditional r) (walk.seen_call r)
      (walk.seen_entry r)
      (walk.seen_block r)

  abbrev pub level : ExprLayer → walk.Seen r
  level l = walk.expr_step r (parts l)

  seen_level : (e : Expr) → walk.seen_expr r e ≡ level (out-Expr e)
  seen_level e = fold_out-Expr (walk.Seen r) (walk.SeenStmt r) (walk.SeenConditional r) (walk.SeenCall r) (walk.SeenEntry r) (walk.Seen r)
      (walk.expr_step r) (walk.stmt_step r) (walk.conditional_step r) (walk.call_step r) (walk.entry_step r) (walk.block_step r) e

  -- a block is no chain
  block_apart : (block : StmtBlock) → (walk.seen_block r block).link ≡ walk.IndexAlone
  block_apart block = ap (λ (s : walk.Seen r). s.link) (fold_out-StmtBlock (walk.Seen r) (walk.SeenStmt r) (walk.SeenConditional r)
      (walk.SeenCall r)
      (walk.SeenEntry r) (walk.Seen r) (walk.expr_step r) (walk.stmt_step r) (walk.conditional_step r) (walk.call_step r)
      (walk.entry_step r)
      (walk.block_step r) block)

  -- where a chain ends at a bracket, what is behind it is an expression by itself
  pub bracket_last : (ends : Bool) (e : Expr) (c : r.Around) → ends ≡ true
      → walk.found_behind_bracket r ends (walk.seen_expr r e).link (walk.seen_expr r e).value c ≡ (walk.seen_expr r e).value c
  bracket_last ends e c is = ap (λ (b : Bool). walk.found_behind_bracket r b (walk.seen_expr r e).link (walk.seen_expr r e).value c) is

  -- where one goes on behind a bracket, what is found of the index, and behind that
  pub bracket_on : (e : Expr) (l : ExprLayer) (ends : Bool) (first : walk.Seen r) (behind : walk.Finds r) (method : Bool) (c : r.Around)
      → ends ≡ false → out-Expr e ≡ l → (level l).link ≡ walk.GoesOn first.value (walk.named_in r first.link) behind method
      → walk.found_behind_bracket r ends (walk.seen_expr r e).link (walk.seen_expr r e).value c ≡ r.both (first.value c) (behind c)
  bracket_on e l ends first behind method c goes is linked =
      ap (λ (b : Bool). walk.found_behind_bracket r b (walk.seen_expr r e).link (walk.seen_expr r e).value c) goes
      ∙ ap (λ (s : walk.Seen r). walk.found_behind_bracket r false s.link s.value c) (seen_level e)
      ∙ ap (λ (k : ExprLayer). walk.found_behind_bracket r false (level k).link (level k).value c) is
      ∙ ap (λ (k : walk.Link r). walk.found_behind_bracket r false k (level l).value c) linked

  -- an expression that is no chain is found behind a bracket as by itself
  bracket_level : (l : ExprLayer) (c : r.Around)
      → ((lhs rhs : Expr) (options : ASTFlags) (at : Position) → l ≡ layer.Dot lhs rhs options at → ⊥)
      → ((lhs rhs : Expr) (options : ASTFlags) (at : Position) → l ≡ layer.Index lhs rhs options at → ⊥)
      → walk.found_behind_bracket r false (level l).link (level l).value c ≡ (level l).value c
  bracket_level (layer.Dot lhs rhs options pos) c dot index = absurd (dot lhs rhs options pos refl)
  bracket_level (layer.Index lhs rhs options pos) c dot index = absurd (index lhs rhs options pos refl)
  bracket_level (layer.Stmt block) c dot index =
      ap (λ k. walk.found_behind_bracket r false k (walk.seen_block r block).value c) (block_apart block)
  bracket_level _ c dot index = refl

  pub bracket_apart : (e : Expr) (ends : Bool) (c : r.Around) → ends ≡ false
      → ((lhs rhs : Expr) (options : ASTFlags) (at : Position) → e ≡ Dot lhs rhs options at → ⊥)
      → ((lhs rhs : Expr) (options : ASTFlags) (at : Position) → e ≡ Index lhs rhs options at → ⊥)
      → walk.found_behind_bracket r ends (walk.seen_expr r e).link (walk.seen_expr r e).value c ≡ (walk.seen_expr r e).value c
  bracket_apart e ends c goes dot index =
      ap (λ (b : Bool). walk.found_behind_bracket r b (walk.seen_expr r e).link (walk.seen_expr r e).value c) goes
      ∙ subst (λ (s : walk.Seen r). walk.found_behind_bracket r false s.link s.value c ≡ s.value c) (sym (seen_level e))
      (bracket_level (out-Expr e) c
      (λ lhs rhs options at is. dot lhs rhs options at (sym (roll-out-Expr e) ∙ ap roll-Expr is ∙ rolls-Dot lhs rhs options at))
      (λ lhs rhs options at is. index lhs rhs options at (sym (roll-out-Expr e) ∙ ap roll-Expr is ∙ rolls-Index lhs rhs options at)))

  -- where a chain goes on behind a dot, what is found of its first as a property or a method, and behind that
  pub goes_on : (e : Expr) (l : ExprLayer) (ends : Bool) (first : walk.Seen r) (behind : walk.Finds r) (method : Bool) (pos : Position)
      (c : r.Around) → ends ≡ false → out-Expr e ≡ l
      → (level l).link ≡ walk.GoesOn first.value (walk.named_in r first.link) behind method
      → walk.found_behind_dot r ends (walk.seen_expr r e).link pos c ≡ walk.found_from_name r (walk.named_in r first.link) behind pos c
  goes_on e l ends first behind method pos c goes is linked =
      ap (λ (b : Bool). walk.found_behind_dot r b (walk.seen_expr r e).link pos c) goes
      ∙ ap (λ (s : walk.Seen r). walk.found_behind_dot r false s.link pos c) (seen_level e)
      ∙ ap (λ (k : ExprLayer). walk.found_behind_dot r false (level k).link pos c) is
      ∙ ap (λ (k : walk.Link r). walk.found_behind_dot r false k pos c) linked

  -- an expression that is no chain is the same behind an operator that ends a chain and behind one that does not
  level_apart : (l : ExprLayer) (pos : Position) (c : r.Around)
      → ((lhs rhs : Expr) (options : ASTFlags) (at : Position) → l ≡ layer.Dot lhs rhs options at → ⊥)
      → ((lhs rhs : Expr) (options : ASTFlags) (at : Position) → l ≡ layer.Index lhs rhs options at → ⊥)
      → walk.found_behind_dot r false (level l).link pos c ≡ walk.found_behind_dot r true (level l).link pos c
  level_apart (layer.DynamicConstant value pos) at c dot index = refl
  level_apart (layer.BoolConstant value pos) at c dot index = refl
  level_apart (layer.IntegerConstant value pos) at c dot index = refl
  level_apart (layer.CharConstant value pos) at c dot index = refl
  level_apart (layer.StringConstant value pos) at c dot index = refl
  level_apart (layer.Unit pos) at c dot index = refl
  level_apart (layer.InterpolatedString items pos) at c dot index = refl
  level_apart (layer.Array items pos) at c dot index = refl
  level_apart (layer.Map entries template pos) at c dot index = refl
  level_apart (layer.ThisPtr pos) at c dot index = refl
  level_apart (layer.Variable offset name namespace pos) at c dot index = refl
  level_apart (layer.Property name pos) at c dot index = refl
  level_apart (layer.MethodCall call pos) at c dot index = refl
  level_apart (layer.Expr::FnCall call pos) at c dot index = refl
  level_apart (layer.Stmt block) at c dot index =
      subst (λ (k : walk.Link r). walk.found_behind_dot r false k at c ≡ walk.found_behind_dot r true k at c) (sym (block_apart block)) refl
  level_apart (layer.Dot lhs rhs options pos) at c dot index = absurd (dot lhs rhs options pos refl)
  level_apart (layer.Index lhs rhs options pos) at c dot index = absurd (index lhs rhs options pos refl)
  level_apart (layer.And items pos) at c dot index = refl
  level_apart (layer.Or items pos) at c dot index = refl
  level_apart (layer.Coalesce items pos) at c dot index = refl

  module _ (unit : (x : r.Found) → r.both x r.none ≡ x) where
    named_last : (k : walk.Link r) (pos : Position) (c : r.Around)
        → walk.found_behind_dot r true k pos c ≡ walk.found_from_name r (walk.named_in r k) (walk.nothing r) pos c
    named_last walk.IndexAlone pos c = refl
    named_last (walk.Named is_method value) pos c = sym (unit (value c))
    named_last (walk.GoesOn first named behind ends_in_method) pos c = refl

    -- behind an operator that ends a chain stands a property or a method alone
    pub named_alone : (ends : Bool) (k : walk.Link r) (pos : Position) (c : r.Around) → ends ≡ true
        → walk.found_behind_dot r ends k pos c ≡ walk.found_from_name r (walk.named_in r k) (walk.nothing r) pos c
    named_alone ends k pos c is = ap (λ (b : Bool). walk.found_behind_dot r b k pos c) is ∙ named_last k pos c

    -- what is no chain stands alone
    pub named_apart : (e : Expr) (ends : Bool) (pos : Position) (c : r.Around) → ends ≡ false
        → ((lhs rhs : Expr) (options : ASTFlags) (at : Position) → e ≡ Dot lhs rhs options at → ⊥)
        → ((lhs rhs : Expr) (options : ASTFlags) (at : Position) → e ≡ Index lhs rhs options at → ⊥)
        → walk.found_behind_dot r ends (walk.seen_expr r e).link pos c
        ≡ walk.found_from_name r (walk.named_in r (walk.seen_expr r e).link) (walk.nothing r) pos c
    named_apart e ends pos c goes dot index =
        ap (λ (b : Bool). walk.found_behind_dot r b (walk.seen_expr r e).link pos c) goes
        ∙ subst (λ (s : walk.Seen r). walk.found_behind_dot r false s.link pos c ≡ walk.found_behind_dot r true s.link pos c)
        (sym (seen_level e)) (level_apart (out-Expr e) pos c
        (λ lhs rhs options at is. dot lhs rhs options at (sym (roll-out-Expr e) ∙ ap roll-Expr is ∙ rolls-Dot lhs rhs options at))
        (λ lhs rhs options at is. index lhs rhs options at (sym (roll-out-Expr e) ∙ ap roll-Expr is ∙ rolls-Index lhs rhs options at)))
        ∙ named_last (walk.seen_expr r e).link pos c

-- behind a bracket stand the same faults as in the expression there by itself
faults_level : (l : ExprLayer) (c : Context) →
    walk.found_behind_bracket faulty false (level faulty l).link (level faulty l).value c ≡ (level faulty l).value c
faults_level (layer.Stmt block) c =
    ap (λ k. walk.found_behind_bracket faulty false k (walk.seen_block faulty block).value c) (block_apart faulty block)
faults_level _ c = refl

pub bracket_same : (ends : Bool) (e : Expr) (c : Context) →
    walk.found_behind_bracket faulty ends (seen_expr e).link (seen_expr e).value c ≡ (seen_expr e).value c
bracket_same true e c = refl
bracket_same false e c = subst (λ (s : walk.Seen faulty). walk.found_behind_bracket faulty false s.link s.value c ≡ s.value c)
    (sym (seen_level faulty e)) (faults_level (out-Expr e) c)

pub and_true : (a : Bool) → (a && true) ≡ a
and_true true = refl
and_true false = refl

-- what is found alike passes alike, runs alike and refuses alike
pub passes_as : {A : Type 0} (r : Result A CheckFault) (fs gs : List CheckFault) → gs ≡ fs → OnOk r (fs ≡ []) → OnOk r (gs ≡ [])
passes_as r fs gs is h = ok_then r (λ none. is ∙ none) h

pub runs_as : {A : Type 0} (r : Result A CheckFault) (f g : walk.Finds sound) (d : Declared) → ((frame : Frame) → g frame ≡ f frame)
    → OnOk r ((base : Frame) → IsTrue (f (above base d))) → OnOk r ((base : Frame) → IsTrue (g (above base d)))
runs_as r f g d is h = ok_then r (λ runs base. is (above base d) ∙ runs base) h

pub refused_as : {A : Type 0} (r : Result A CheckFault) (fs gs : List CheckFault) (declares : Bool) → gs ≡ fs
    → IfErr r (λ fault. Refuses fs declares fault) → IfErr r (λ fault. Refuses gs declares fault)
refused_as r fs gs declares is h = subst (λ (hs : List CheckFault). IfErr r (λ fault. Refuses hs declares fault)) (sym is) h

-- a property or a method, and what is behind it
name_passes : (named : Option (walk.Finds faulty)) (behind : walk.Finds faulty) (pos : Position) (c : Context)
    → walk.found_from_name faulty named (walk.nothing faulty) pos c ≡ [] → behind c ≡ []
    → walk.found_from_name faulty named behind pos c ≡ []
name_passes (Some value) behind pos c none rest = rw (sym (append-nil (value c)) ∙ none, rest) refl
name_passes None behind pos c none rest = none

both_true : (a b : Bool) → IsTrue (a && true) → IsTrue b → IsTrue (a && b)
both_true true b one other = other
both_true false b one other = one

name_runs : (named : Option (walk.Finds sound)) (behind : walk.Finds sound) (pos : Position) (frame : Frame)
    → IsTrue (walk.found_from_name sound named (walk.nothing sound) pos frame) → IsTrue (behind frame)
    → IsTrue (walk.found_from_name sound named behind pos frame)
name_runs (Some value) behind pos frame one other = both_true (value frame) (behind frame) one other
name_runs None behind pos frame one other = one

name_refused : (named : Option (walk.Finds faulty)) (behind : walk.Finds faulty) (pos : Position) (c : Context) (a b : Bool)
    → (fault : CheckFault) → Refuses (walk.found_from_name faulty named (walk.nothing faulty) pos c) a fault
    → Refuses (walk.found_from_name faulty named behind pos c) (a || b) fault
name_refused (Some value) behind pos c a b fault h =
    refuses_first (value c) (behind c) a b fault (subst (λ (fs : List CheckFault). Refuses fs a fault) (append-nil (value c)) h)
name_refused None behind pos c a b fault h = refuses_first (BadChain pos ∷ []) [] a b fault h

behind_refused : (named : Option (walk.Finds faulty)) (behind : walk.Finds faulty) (pos : Position) (c : Context) (a b : Bool)
    → (fault : CheckFault) → walk.found_from_name faulty named (walk.nothing faulty) pos c ≡ [] → Refuses (behind c) b fault
    → Refuses (walk.found_from_name faulty named behind pos c) (a || b) fault
behind_refused (Some value) behind pos c a b fault none h =
    refuses_later (value c) (behind c) a b fault (sym (append-nil (value c)) ∙ none) h
behind_refused None behind pos c a b fault none h = absurd (cc none)

-- the faults of a first as a property or a method, and of what is behind it
abbrev first_faults : Expr → walk.Finds faulty → Position → walk.Finds faulty
first_faults first = walk.found_from_name faulty (walk.named_in faulty (seen_expr first).link)

-- a chain that goes on behind a dot, whose first is a property or a method
module _ (e first rest : Expr) (l : ExprLayer) (ends : Bool) (behind : walk.Finds faulty) (method : Bool) (pos : Position) (c : Context)
    (goes : ends ≡ false) (is : out-Expr e ≡ l)
    (linked : (level faulty l).link ≡ walk.GoesOn (seen_expr first).value (walk.named_in faulty (seen_expr first).link) behind method)
  where
    whole : dot_faults ends (seen_expr e).link pos c ≡ first_faults first behind pos c
    whole = goes_on faulty e l ends (seen_expr first) behind method pos c goes is linked

    pub chain_passes : {A : Type 0} (r : Result A CheckFault) → name_faults (seen_expr first).link pos c ≡ []
        → OnOk r (behind c ≡ []) → OnOk r (dot_faults ends (seen_expr e).link pos c ≡ [])
    chain_passes r none h =
        ok_then r (λ other. whole ∙ name_passes (walk.named_in faulty (seen_expr first).link) behind pos c none other) h

    module _ (declared : declares.form_step (expr_declares l) ≡ true) (fault : CheckFault) where
      refuses_whole : Refuses (first_faults first behind pos c) (expr_needs_memory first || expr_needs_memory rest) fault
          → Refuses (dot_faults ends (seen_expr e).link pos c) (expr_needs_memory e) fault
      refuses_whole h = refuses_more _ _ _ _ fault (λ k. subst (λ (fs : List CheckFault). IsFirst fs fault) (sym whole) k)
          (λ k. declares-expr e l is ∙ declared) h

      pub chain_refused : Refuses (name_faults (seen_expr first).link pos c) (expr_needs_memory first) fault
          → Refuses (dot_faults ends (seen_expr e).link pos c) (expr_needs_memory e) fault
      chain_refused h =
          refuses_whole (name_refused (walk.named_in faulty (seen_expr first).link) behind pos c _ (expr_needs_memory rest) fault h)

      pub rest_refused : name_faults (seen_expr first).link pos c ≡ [] → Refuses (behind c) (expr_needs_memory rest) fault
          → Refuses (dot_faults ends (seen_expr e).link pos c) (expr_needs_memory e) fault
      rest_refused none h =
          refuses_whole (behind_refused (walk.named_in faulty (seen_expr first).link) behind pos c (expr_needs_memory first) _ fault none h)

-- such a chain may run
pub chain_runs : {A : Type 0} (r : Result A CheckFault) (e first : Expr) (l : ExprLayer) (ends : Bool) (behind : walk.Finds sound)
    → (method : Bool) (pos : Position) (d : Declared) → ends ≡ false → out-Expr e ≡ l
    → (level sound l).link ≡ walk.GoesOn (tests_of first).value (walk.named_in sound (tests_of first).link) behind method
    → ((base : Frame) → IsTrue (name_resolves (tests_of first).link pos (above base d)))
    → OnOk r ((base : Frame) → IsTrue (behind (above base d)))
    → OnOk r ((base : Frame) → IsTrue (dot_resolves ends (tests_of e).link pos (above base d)))
chain_runs r e first l ends behind method pos d goes is linked one h =
    ok_then r (λ other base. goes_on sound e l ends (tests_of first) behind method pos (above base d) goes is linked
    ∙ name_runs (walk.named_in sound (tests_of first).link) behind pos (above base d) (one base) (other base)) h

-- a chain that goes on behind a bracket may run where its index and what is behind that may
pub bracket_runs : {A : Type 0} (r : Result A CheckFault) (e first : Expr) (l : ExprLayer) (ends : Bool) (behind : walk.Finds sound)
    → (method : Bool) (d : Declared) → ends ≡ false → out-Expr e ≡ l
    → (level sound l).link ≡ walk.GoesOn (tests_of first).value (walk.named_in sound (tests_of first).link) behind method
    → ((base : Frame) → IsTrue (resolves_expr first (above base d)))
    → OnOk r ((base : Frame) → IsTrue (behind (above base d)))
    → OnOk r ((base : Frame) → IsTrue (bracket_resolves ends (tests_of e) (above base d)))
bracket_runs r e first l ends behind method d goes is linked one h =
    ok_then r (λ other base. bracket_on sound e l ends (tests_of first) behind method (above base d) goes is linked
    ∙ both_true (resolves_expr first (above base d)) (behind (above base d)) (and_true _ ∙ one base) (other base)) h
