-- One walk over a tree, which is read in two ways: for the faults that stand in it, and for whether a part may run above a frame.
use Rattle.std.specs.Prelude.{ℕ, ◌+◌, Bool, true, false, not, ◌&&◌, if◌then◌else◌, List, [], ◌∷◌, ◌++◌, length, map, Option, Some, None, option_map}
use Rattle.std.specs.declared.num.NonZeroUsize.{NonZeroUsize}
use Rattle.rhai_tree.specs.Types.{ASTFlags, CheckFault, ConditionalExpr, Expr, FnCallExpr, Ident, MapEntry, Namespace, Position}
use Rattle.rhai_tree.specs.Types.{SharedVariable, Stmt, StmtBlock}
use Rattle.rhai_tree.specs.declared.fault.CheckFault.TheVariants.{BadOffset, BadImportOffset, BadChain, BadAssignment, BadSwitch, BadMapKey}
use Rattle.rhai_tree.specs.declared.fault.CheckFault.TheVariants.{BadCatch, LoopControlOutside, ExportNotGlobal, EvalCall, NotAnExpression}
use Rattle.rhai_tree.specs.declared.fault.CheckFault.TheVariants.{QualifiedMethod}
use Rattle.rhai_tree.specs.declared.expr.Expr.TheOpen as layer
use Rattle.rhai_tree.specs.declared.expr.Expr.TheFolds.{fold-Expr, fold-ConditionalExpr, fold-FnCallExpr, fold-MapEntry, fold-StmtBlock}
use Rattle.rhai_tree.specs.declared.expr.Expr.TheFolds.{fold-Stmt}
use Rattle.rhai_tree.specs.Cases.{is_switch}
use Rattle.rhai_tree.specs.Context.{Context, inside, looping, declaring, importing}
use Rattle.rhai_tree.specs.Forms.{is_unqualified, is_eval_call, is_exported, ends_chain, catch_name, name_asked}
use Rattle.rhai_tree.specs.Keys.{are_keys}
use Rattle.rhai_tree.specs.Links.{is_counted}
use Rattle.rhai_tree.specs.Names.{Frame, Name, is_good, is_good_root, with_import, with_variable}
use Rattle.rhai_tree.specs.Positions.{first_or, start_of_name, start_of_operands, start_of_call}

-- a way of reading a tree: what it keeps of what surrounds a form, and what it finds of faults, of parts and of a chain's links
pub record Reading : Type 1 where
  pub Around : Type 0
  pub names : Around → List Name
  pub in_imports : (index : Option NonZeroUsize) → (path : List Name) → Around → Bool
  pub in_loop : Around → Bool
  pub in_top : Around → Bool
  pub declaring : Name → Around → Around
  pub importing : Name → Around → Around
  pub looping : Around → Around
  pub inside : Around → Around
  pub Found : Type 0
  pub none : Found
  pub both : Found → Found → Found
  pub fault : CheckFault → Found
  pub counted : (links : ℕ) → Found

-- the reading for the faults that stand, in the order of the tree; a chain may have any number of links
abbrev pub faulty : Reading
faulty = record {
  Around = Context;
  names = λ c. c.names;
  in_imports = λ index path c. is_good_root index path c.imports;
  in_loop = λ c. c.in_loop;
  in_top = λ c. c.in_top;
  declaring = declaring;
  importing = importing;
  looping = looping;
  inside = inside;
  Found = List CheckFault;
  none = [];
  both = λ one other. one ++ other;
  fault = λ fault. fault ∷ [];
  counted = λ links. [];
}

-- the reading for whether no fault stands above a frame, wherever the form is, and a list counts the links of each chain
abbrev pub sound : Reading
sound = record {
  Around = Frame;
  names = λ frame. frame.names;
  in_imports = λ index path frame. is_good_root index path frame.imports;
  in_loop = λ frame. true;
  in_top = λ frame. true;
  declaring = with_variable;
  importing = with_import;
  looping = λ frame. frame;
  inside = λ frame. frame;
  Found = Bool;
  none = true;
  both = λ one other. one && other;
  fault = λ fault. false;
  counted = is_counted;
}

module _ (r : Reading) where
  -- what is found of a form in what surrounds it
  abbrev pub Finds : Type 0
  Finds = r.Around → r.Found

  -- what an expression is behind an operator of a chain: nothing but an index; a property or a method, with what is found of it there;
  -- or a chain that goes on, with what is found of its first, also as a property or a method if it is one, and behind that
  pub data Link : Type 0 where
    IndexAlone : Link
    Named : (is_method : Bool) → Finds → Link
    GoesOn : (first : Finds) → (named : Option Finds) → (behind : Finds) → (ends_in_method : Bool) → Link

  -- what is seen of an expression or a block: where it starts and where it stands, whether it may be assigned to, how many links it has,
  -- what is found of it, what it is in a chain, and what it declares as a catch variable
  pub record Seen : Type 0 where
    pub start : Position
    pub pos : Position
    pub is_place : Bool
    pub links : ℕ
    pub value : Finds
    pub link : Link
    pub catch : Option (Option Name)

  -- what is seen of a call: its first operand's start, where it is written between two, and what is found
  -- of it where its name or operator stands, as a call and as a method
  pub record SeenCall : Type 0 where
    pub operand : Option Position
    pub value : Position → Finds
    pub method : Position → Finds

  -- what is seen of a statement: what is found of it, and what surrounds the next one
  abbrev pub SeenStmt : Type 0
  SeenStmt = r.Around → r.Found × r.Around

  -- what is seen of an entry of a map: its key, and what is found of its value
  pub record SeenEntry : Type 0 where
    pub key : Name
    pub value : Finds

  -- what is found of a result of a `switch` and of its condition
  abbrev pub SeenConditional : Type 0
  SeenConditional = Finds

  -- the key that is seen of an entry
  abbrev pub key_in : SeenEntry → Name
  key_in entry = entry.key

  -- where an expression is seen to start
  abbrev pub start_in : Seen → Position
  start_in seen = seen.start

  -- a form of which nothing is found
  abbrev pub nothing : Finds
  nothing c = r.none

  -- a form that starts where it stands, may not be assigned to, and is no chain and no catch variable
  abbrev pub plain : Position → Finds → Seen
  plain pos value = record { start = pos; pos = pos; is_place = false; links = 0; value = value; link = IndexAlone; catch = None }

  -- a variable or `this`, which may be assigned to
  abbrev pub place : Position → Finds → Seen
  place pos value = record (plain pos value) { is_place = true }

  -- a form that starts further to the front
  abbrev pub from : (start : Position) → Seen → Seen
  from start seen = record seen { start = start }

  -- a property or a method, which is no expression by itself
  abbrev pub named : (is_method : Bool) → Position → Finds → Seen
  named is_method pos value = record (plain pos (λ c. r.fault (NotAnExpression pos))) { link = Named is_method value }

  -- ---- chains

  -- what is found of an expression as a property or a method, if it is one
  abbrev pub named_in : Link → Option Finds
  named_in (Named is_method value) = Some value
  named_in _ = None

  -- a chain that starts from this may be assigned to: it is a variable or `this`
  abbrev pub is_root : (is_place : Bool) → Link → Bool
  is_root true IndexAlone = true
  is_root _ _ = false

  -- behind a bracket stands an index; a chain there, unless it is in brackets of its own, has the index first and goes on
  abbrev pub found_behind_bracket : (ends : Bool) → Link → Finds → Finds
  found_behind_bracket false (GoesOn first named behind ends_in_method) value c = r.both (first c) (behind c)
  found_behind_bracket _ _ value c = value c

  -- behind a dot: a property or a method, and what is behind it; anything else is a fault
  abbrev pub found_from_name : Option Finds → (behind : Finds) → Position → Finds
  found_from_name (Some value) behind pos c = r.both (value c) (behind c)
  found_from_name None behind pos c = r.fault (BadChain pos)

  -- behind a dot stands a property or a method, or a chain that goes on from one
  abbrev pub found_behind_dot : (ends : Bool) → Link → Position → Finds
  found_behind_dot ends (Named is_method value) pos c = value c
  found_behind_dot false (GoesOn first named behind ends_in_method) pos c = found_from_name named behind pos c
  found_behind_dot _ _ pos c = r.fault (BadChain pos)

  -- a chain ends in a method: behind its dot stands one, or a chain that goes on and ends in one
  abbrev pub method_ends : (ends : Bool) → Link → Bool
  method_ends ends (Named is_method value) = is_method
  method_ends false (GoesOn first named behind ends_in_method) = ends_in_method
  method_ends _ _ = false

  -- a chain ends in a method: behind its bracket stands a chain that goes on and ends in one
  abbrev pub index_ends : (ends : Bool) → Link → Bool
  index_ends false (GoesOn first named behind ends_in_method) = ends_in_method
  index_ends _ _ = false

  -- a chain: its root, where its operator stands, its links, and what is behind its operator
  abbrev pub chain : (root : Seen) → Position → (links : ℕ) → (behind : Finds) → (ends_in_method : Bool) → Seen
  chain root pos links behind ends_in_method = record {
    start = root.start;
    pos = pos;
    is_place = is_root root.is_place root.link && not ends_in_method;
    links = links;
    value = λ c. r.both (r.counted links) (r.both (root.value c) (behind c));
    link = GoesOn root.value (named_in root.link) behind ends_in_method;
    catch = None;
  }

  -- the left side of an assignment, which may be assigned to
  abbrev pub found_in_target : Seen → Finds
  found_in_target lhs c = if lhs.is_place then lhs.value c else r.both (r.fault (BadAssignment lhs.start)) (lhs.value c)

  -- an expression that may be left out
  abbrev pub found_in_option : Option Seen → Finds
  found_in_option None c = r.none
  found_in_option (Some part) c = part.value c

  -- a list of expressions
  abbrev pub found_in_all : List Seen → Finds
  found_in_all [] c = r.none
  found_in_all (part ∷ parts) c = r.both (part.value c) (found_in_all parts c)

  -- the values of a map's entries
  abbrev pub found_in_entries : List SeenEntry → Finds
  found_in_entries [] c = r.none
  found_in_entries (entry ∷ entries) c = r.both (entry.value c) (found_in_entries entries c)

  -- the keys of a map are those of its template, each once
  abbrev pub found_in_keys : Bool → Position → Finds
  found_in_keys good pos c = if good then r.none else r.fault (BadMapKey pos)

  -- a map: its keys, and the values of its entries
  abbrev pub found_in_map : List SeenEntry → (template : List Name) → Position → Finds
  found_in_map entries template pos c =
      r.both (found_in_keys (are_keys (map key_in entries) template) pos c) (found_in_entries entries c)

  -- a list of statements, each after the ones before it
  abbrev pub found_in_list : List SeenStmt → SeenStmt
  found_in_list [] c = (r.none, c)
  found_in_list (part ∷ parts) c =
      (r.both (part c).0 (found_in_list parts (part c).1).0, (found_in_list parts (part c).1).1)

  -- among some names an offset is that of the newest of its name
  abbrev pub found_at_offset : Option NonZeroUsize → Name → Position → List Name → r.Found
  found_at_offset offset name pos names = if is_good offset name names then r.none else r.fault (BadOffset pos)

  -- the index of a path is among the imports before it
  abbrev pub found_in_namespace : Namespace → Finds
  found_in_namespace namespace c =
      if r.in_imports namespace.index namespace.path c then r.none else r.fault (BadImportOffset namespace.position)

  -- a variable's path, and its offset, which is among the names before it; one behind a path stands in a module, and has no offset
  abbrev pub found_in_variable : Option NonZeroUsize → Name → Namespace → Position → Finds
  found_in_variable offset name namespace pos c = r.both (found_in_namespace namespace c)
      (found_at_offset offset name pos (if is_unqualified namespace.path then r.names c else []))

  -- among some names the offset of each variable that closures share is that of the newest of its name
  abbrev pub found_in_shared : List SharedVariable → List Name → r.Found
  found_in_shared [] names = r.none
  found_in_shared (variable ∷ variables) names =
      r.both (found_at_offset variable.offset variable.ident.name variable.ident.pos names) (found_in_shared variables names)

  -- `break` and `continue` stand in a loop of their function
  abbrev pub found_in_control : Position → Finds
  found_in_control pos c = if r.in_loop c then r.none else r.fault (LoopControlOutside pos)

  -- the cases of a `switch` are good
  abbrev pub found_in_cases : Bool → Position → Finds
  found_in_cases good pos c = if good then r.none else r.fault (BadSwitch pos)

  -- the conditions of a `switch` and their results, each looked at once
  abbrev pub found_in_conditionals : List SeenConditional → Finds
  found_in_conditionals [] c = r.none
  found_in_conditionals (part ∷ parts) c = r.both (part c) (found_in_conditionals parts c)

  -- a `switch`: its cases, its value, and its conditions and results
  abbrev pub found_in_switch : (good : Bool) → Position → (value : Finds) → List SeenConditional → Finds
  found_in_switch good pos value parts c = r.both (found_in_cases good pos c) (r.both (value c) (found_in_conditionals parts c))

  -- what surrounds a form after a name that may be left out
  abbrev pub after : Option Name → r.Around → r.Around
  after None c = c
  after (Some name) c = r.declaring name c

  -- the name of an identifier
  abbrev pub name_in : Ident → Name
  name_in ident = ident.name

  -- a `for` declares its counter and then its variable, for its body alone
  abbrev pub found_in_turns : (variable : Name) → (counter : Option Name) → (body : Finds) → Finds
  found_in_turns variable counter body c = body (r.looping (r.declaring variable (after counter c)))

  -- a catch variable is `()` or a name
  abbrev pub found_in_catch_variable : (catch : Option (Option Name)) → Position → r.Found
  found_in_catch_variable (Some name) pos = r.none
  found_in_catch_variable None pos = r.fault (BadCatch pos)

  -- what surrounds the branch of a catch variable, for which alone it declares its name
  abbrev pub after_catch : (catch : Option (Option Name)) → r.Around → r.Around
  after_catch (Some name) c = after name c
  after_catch None c = c

  -- a catch variable, and its branch behind it
  abbrev pub found_in_catch : (catch : Option (Option Name)) → Position → (branch : Finds) → Finds
  found_in_catch catch pos branch c = r.both (found_in_catch_variable catch pos) (branch (after_catch catch c))

  -- a variable is exported in the tree's top list alone
  abbrev pub found_in_export : (in_top : Bool) → ASTFlags → Position → r.Found
  found_in_export true options pos = r.none
  found_in_export false options pos = if is_exported options then r.fault (ExportNotGlobal pos) else r.none

  -- a variable with its value; one that overwrites another has an offset, which is among the names before it
  abbrev pub found_in_var : Option NonZeroUsize → Ident → Seen → ASTFlags → Position → Finds
  found_in_var index ident expr options pos c = r.both (found_in_export (r.in_top c) options pos)
      (r.both (found_at_offset index ident.name ident.pos (r.names c)) (expr.value c))

  -- what surrounds the statement after a declaration: only a variable that overwrites none declares its name
  abbrev pub after_var : Option NonZeroUsize → Name → r.Around → r.Around
  after_var None name c = r.declaring name c
  after_var (Some offset) name c = c

  -- an expression as its form is written, without what it declares as a catch variable
  abbrev pub form_step : layer.Expr-F Seen SeenStmt SeenConditional SeenCall SeenEntry Seen → Seen
  form_step (layer.DynamicConstant value pos) = plain pos nothing
  form_step (layer.BoolConstant value pos) = plain pos nothing
  form_step (layer.IntegerConstant value pos) = plain pos nothing
  form_step (layer.CharConstant value pos) = plain pos nothing
  form_step (layer.StringConstant value pos) = plain pos nothing
  form_step (layer.Unit pos) = plain pos nothing
  form_step (layer.InterpolatedString parts pos) = plain pos (found_in_all parts)
  form_step (layer.Array items pos) = plain pos (found_in_all items)
  form_step (layer.Map entries template pos) = plain pos (found_in_map entries template.0 pos)
  form_step (layer.ThisPtr pos) = place pos nothing
  form_step (layer.Variable offset name namespace pos) =
      from (start_of_name namespace.path namespace.position pos) (place pos (found_in_variable offset name namespace pos))
  form_step (layer.Property name pos) = named false pos nothing
  form_step (layer.MethodCall call pos) = named true pos (call.method pos)
  form_step (layer.Expr::FnCall call pos) = from (start_of_call call.operand pos) (plain pos (call.value pos))
  form_step (layer.Stmt block) = block
  form_step (layer.Dot lhs rhs options pos) =
      chain lhs pos (1 + rhs.links) (found_behind_dot (ends_chain options) rhs.link pos) (method_ends (ends_chain options) rhs.link)
  form_step (layer.Index lhs rhs options pos) =
      chain lhs pos (1 + rhs.links) (found_behind_bracket (ends_chain options) rhs.link rhs.value) (index_ends (ends_chain options) rhs.link)
  form_step (layer.And parts pos) = from (first_or pos (map start_in parts)) (plain pos (found_in_all parts))
  form_step (layer.Or parts pos) = from (first_or pos (map start_in parts)) (plain pos (found_in_all parts))
  form_step (layer.Coalesce parts pos) = from (first_or pos (map start_in parts)) (plain pos (found_in_all parts))

  -- an expression as its form is written, with what it declares as a catch variable
  abbrev pub expr_step : layer.Expr-F Seen SeenStmt SeenConditional SeenCall SeenEntry Seen → Seen
  expr_step form = record (form_step form) { catch = catch_name form }

  -- a call and its arguments: the index of a path is good, `eval` is not called by its name, and a method has no path
  abbrev pub call_step : layer.FnCallExpr-F Seen SeenStmt SeenConditional SeenCall SeenEntry Seen → SeenCall
  call_step call = record {
    operand = start_of_operands call.op_token (map start_in call.args);
    value = λ pos c.
        if is_eval_call call.namespace call.name (length call.args) then r.fault (EvalCall pos)
        else r.both (found_in_namespace call.namespace c) (found_in_all call.args c);
    method = λ pos c. if is_unqualified call.namespace.path then found_in_all call.args c else r.fault (QualifiedMethod pos);
  }

  -- an entry of a map: its key, and what is found of its value
  abbrev pub entry_step : layer.MapEntry-F Seen SeenStmt SeenConditional SeenCall SeenEntry Seen → SeenEntry
  entry_step entry = record { key = entry.key; value = entry.value.value }

  -- a condition of a `switch`, and then its result
  abbrev pub conditional_step : layer.ConditionalExpr-F Seen SeenStmt SeenConditional SeenCall SeenEntry Seen → SeenConditional
  conditional_step conditional c = r.both (conditional.condition.value c) (conditional.expr.value c)

  -- what a block declares and imports ends with it
  abbrev pub block_step : layer.StmtBlock-F Seen SeenStmt SeenConditional SeenCall SeenEntry Seen → Seen
  block_step block = plain block.position (λ c. (found_in_list block.statements (r.inside c)).0)

  -- a statement as its form is written, and what surrounds the next one
  abbrev pub stmt_step : layer.Stmt-F Seen SeenStmt SeenConditional SeenCall SeenEntry Seen → SeenStmt
  stmt_step (layer.Noop pos) c = (r.none, c)
  stmt_step (layer.Expr expr) c = (expr.value c, c)
  stmt_step (layer.Stmt::FnCall call pos) c = (call.value pos c, c)
  stmt_step (layer.Block block) c = (block.value c, c)
  stmt_step (layer.Assignment op lhs rhs) c = (r.both (found_in_target lhs c) (rhs.value c), c)
  stmt_step (layer.Var ident expr index options pos) c = (found_in_var index ident expr options pos c, after_var index ident.name c)
  stmt_step (layer.If expr body branch pos) c = (r.both (expr.value c) (r.both (body.value c) (branch.value c)), c)
  stmt_step (layer.Switch expr expressions cases ranges def_case pos) c =
      (found_in_switch (is_switch (length expressions) cases ranges def_case) pos expr.value expressions c, c)
  stmt_step (layer.While expr body pos) c = (r.both (expr.value c) (body.value (r.looping c)), c)
  stmt_step (layer.Do expr body options pos) c = (r.both (expr.value c) (body.value (r.looping c)), c)
  stmt_step (layer.For name counter expr body pos) c =
      (r.both (expr.value c) (found_in_turns name.name (option_map name_in counter) body.value c), c)
  stmt_step (layer.BreakLoop expr options pos) c = (r.both (found_in_control pos c) (found_in_option expr c), c)
  stmt_step (layer.TryCatch body variable branch pos) c =
      (r.both (body.value c) (found_in_catch variable.catch variable.pos branch.value c), c)
  stmt_step (layer.Return expr options pos) c = (found_in_option expr c, c)
  stmt_step (layer.Import expr alias pos) c = (expr.value c, r.importing (name_asked alias) c)
  stmt_step (layer.Export name alias pos) c = (r.none, c)
  stmt_step (layer.Share variables) c = (found_in_shared variables (r.names c), c)

  -- what is seen of a whole expression
  abbrev pub seen_expr : Expr → Seen
  seen_expr = fold-Expr Seen SeenStmt SeenConditional SeenCall SeenEntry Seen expr_step stmt_step conditional_step call_step entry_step
      block_step

  -- what is seen of a whole call
  abbrev pub seen_call : FnCallExpr → SeenCall
  seen_call = fold-FnCallExpr Seen SeenStmt SeenConditional SeenCall SeenEntry Seen expr_step stmt_step conditional_step call_step
      entry_step block_step

  -- what is seen of a whole block
  abbrev pub seen_block : StmtBlock → Seen
  seen_block = fold-StmtBlock Seen SeenStmt SeenConditional SeenCall SeenEntry Seen expr_step stmt_step conditional_step call_step
      entry_step block_step

  -- what is seen of a whole statement
  abbrev pub seen_stmt : Stmt → SeenStmt
  seen_stmt = fold-Stmt Seen SeenStmt SeenConditional SeenCall SeenEntry Seen expr_step stmt_step conditional_step call_step entry_step
      block_step

  -- what is found of a whole condition of a `switch` and its result
  abbrev pub seen_conditional : ConditionalExpr → SeenConditional
  seen_conditional = fold-ConditionalExpr Seen SeenStmt SeenConditional SeenCall SeenEntry Seen expr_step stmt_step conditional_step
      call_step entry_step block_step

  -- what is seen of a whole entry of a map
  abbrev pub seen_entry : MapEntry → SeenEntry
  seen_entry = fold-MapEntry Seen SeenStmt SeenConditional SeenCall SeenEntry Seen expr_step stmt_step conditional_step call_step
      entry_step block_step
