-- The rules of expressions, of statements and of their lists lead to cores that fit.
use Rattle.std.proofs.Common.{◌≡◌, ℕ, zero, suc, List, [], ◌∷◌, ◌++◌, length, map, refl, slice_get}
use Rattle.std.specs.Prelude.{Bool, true, false, not, ◌&&◌, nat_le, Option, Some, None, Result, Ok, Err, is_some, is_none}
use Rattle.std.specs.declared.num.NonZeroUsize.{NonZeroUsize}
use Rattle.rhai_tree.specs.declared.expr.Expr.TheOpen as layer
use Rattle.rhai_tree.specs.declared.expr.FnCallExpr.{FnCallExpr}
use Rattle.rhai_tree.specs.declared.expr.MapEntry.{MapEntry}
use Rattle.rhai_tree.specs.Forms.{is_unqualified, is_exported}
use Rattle.rhai_tree.specs.Keys.{key_of}
use Rattle.rhai_tree.specs.Layers.{ExprLayer, StmtLayer}
use Rattle.rhai_tree.specs.Lookup.{value_of, with_entry}
use Rattle.rhai_machine.specs.Types.{ASTFlags, Dynamic, EvalAltResult, Expr, out-Expr, Ident, Limits, Position, Stmt, StmtBlock, Token}
use Rattle.rhai_machine.specs.Types.{Module, Union}
use Rattle.rhai_values.specs.declared.base.value.Union.TheVariants as value
use Rattle.rhai_values.specs.declared.base.value.Import.{out-roll-Import}
use Rattle.rhai_values.specs.Copy.{copy_of}
use Rattle.rhai_values.specs.DataSize.{data_sizes}
use Rattle.rhai_values.specs.Modes.{with_mode}
use Rattle.rhai_errors.specs.declared.error.EvalAltResult.TheVariants as error
use Rattle.rhai_values.specs.ValueContents.{Reached}
use Rattle.rhai_state.specs.declared.scope.ScopeEntry.{ScopeEntry}
use Rattle.rhai_state.specs.Scope.{aliased, index_of, new_entry}
use Rattle.rhai_state.specs.State.{import_as}
use Rattle.rhai_machine.specs.language.Setting.{Setting, globals_of}
use Rattle.rhai_machine.specs.language.State.{Local}
use Rattle.rhai_machine.specs.language.Values.{copied, unit_value}
use Rattle.rhai_machine.specs.language.Variables.{variable_named}
use Rattle.rhai_machine.specs.language.Names.{bound_this, read}
use Rattle.rhai_machine.specs.language.Arguments.{text_wanted}
use Rattle.rhai_machine.specs.language.Frames.{Control, Frame, Core, core, on_value, Back}
use Rattle.rhai_machine.specs.language.Data.{array_of, text_of, filled, map_of, entry_sizes, with_item, with_value, with_part, items_core}
use Rattle.rhai_machine.specs.language.Data.{entries_core, parts_core, part_core, joined_core, unprinted_core}
use Rattle.rhai_machine.specs.language.Expressions.{argument_move, call_move, and_core, and_next, or_core, or_next, coalesce_core}
use Rattle.rhai_machine.specs.language.Expressions.{coalesce_seen, coalesce_next, expr_move}
use Rattle.rhai_machine.specs.language.Loops.{goes_on, while_move, while_core, if_goes_on, do_control, caught}
use Rattle.rhai_machine.specs.language.Statements.{has_option, mode_of, loop_of, enter_core, run_core, chosen_core, enters, constant_core}
use Rattle.rhai_machine.specs.language.Statements.{added, overwritten, written, declared_core, defined_core, break_core, return_move}
use Rattle.rhai_machine.specs.language.Statements.{define_core, stmt_move, with_entry_at}
use Rattle.rhai_machine.specs.language.Exports.{alias_or, export_at, exported}
use Rattle.rhai_machine.specs.language.Imports.{found_under, import_core, importing, module_meant, module_under, name_asked}
use Rattle.rhai_machine.specs.language.Walks.{has_no_room}
use Rattle.rhai_fits.specs.Contents.{of_scope, of_values, of_modules, of_imports, of_tables}
use Rattle.rhai_fits.proofs.Values.{Fit, fit_unit, fit_bool, fit_int, fit_char, fit_text, fit_array, fit_map}
use Rattle.rhai_fits.proofs.Copies.{fit_copy, fit_mode}
use Rattle.rhai_fits.proofs.Literals.{FitsMaybe, fit_literal}
use Rattle.rhai_fits.proofs.Errors.{FitError, fit_error, error_fits}
use Rattle.rhai_fits.proofs.Modules.{FitModule}
use Rattle.rhai_fits.proofs.Fitting.{AllFit, FitBelow, FitCore, FitLocal, FitOffer, FitTable, Gives, Flat, to, back, fail, unit, push, on}
use Rattle.rhai_fits.proofs.Fitting.{ended_fits, fit_all, values_joined, scope_joined, imports_joined, table_at, tables_set}
use Rattle.rhai_fits.proofs.Seeing.{Any, copied_gives, given_fits, bound_gives, within_sizes_gives, put_entry}
use Rattle.rhai_fits.proofs.Lookups.{There, module_of_fits}
use Rattle.rhai_fits.proofs.Names.{read_fits}
use Rattle.rhai_fits.proofs.Spots.{entry_fits}
use Rattle.rhai_fits.proofs.Arguments.{call_good, text_gives}
use Rattle.rhai_fits.proofs.Natives.{Moves}
use Rattle.rhai_fits.proofs.Assignments.{assignment_good}
use Rattle.rhai_fits.proofs.Forms.{for_good}

module _ {H : Type 0} (own : H → List Reached) (P : Reached → Type 0) (least : ℕ) where
  abbrev Good : Core H → Type 0
  Good c = FitCore own P least c

  abbrev Below : List (Frame H) → Local H → Type 0
  Below k l = FitBelow own P least k l

  abbrev All : List (Dynamic H) → Type 0
  All vs = AllFit own P least (of_values vs)

  -- ---- lists of statements

  pub enter_good : (stmts : List Stmt) (restoring : Bool) (k : List (Frame H)) (l : Local H) → Below k l →
      Good (enter_core stmts restoring k l)
  enter_good [] restoring k l b = unit own P least k l b
  enter_good (stmt ∷ stmts) true k l b = to own P least _ _ _ (fit_unit own P) tt (record {
    stack = (tt, b.stack);
    sealed = (tt, b.sealed);
    back = b.back;
    local = record {
      scope = b.local.scope;
      this = b.local.this;
      focus = b.local.focus;
      cells = b.local.cells;
      around = b.local.around;
      sealed = b.local.sealed;
      enough = b.local.enough;
    };
  })
  enter_good (stmt ∷ stmts) false k l b = to own P least _ k l (fit_unit own P) tt b

  pub run_good : (stmts : List Stmt) (restoring : Bool) (last : Dynamic H) (k : List (Frame H)) (l : Local H) → Fit own P last → Below k l →
      Good (run_core stmts restoring last k l)
  run_good [] restoring last k l f b = back own P least last k l f b
  run_good (stmt ∷ stmts) restoring last k l f b = to own P least _ _ l tt tt (push own P least _ k l tt tt b.back b)

  -- ---- arrays, maps and texts

  array_fits : (made : List (Dynamic H)) → All made → Fit own P (array_of made)
  array_fits made h = fit_array own P made (fit_all own P least made h)

  filled_fits : (keys : List (List ℕ)) (values : List (Dynamic H)) (entries : List (List ℕ) × List (Dynamic H)) → All values →
      All entries.1 → All (filled keys values entries).1
  filled_fits [] values entries h g = g
  filled_fits (key ∷ keys) [] entries h g = g
  filled_fits (key ∷ keys) (v ∷ values) entries h g = filled_fits keys values _ h.1 (entry_fits own P least key v entries g h.0)

  map_fits : (keys : List (List ℕ)) (values : List (Dynamic H)) → All values → Fit own P (map_of keys values)
  map_fits keys values h = fit_map own P (filled keys values ([], []))
      (fit_all own P least (filled keys values ([], [])).1 (filled_fits keys values ([], []) h tt))

  pub item_gives : (limits : Limits) (made : List (Dynamic H)) (r : Result (Dynamic H) (EvalAltResult H)) (at : Position) → All made →
      Gives own P least (Flat own P least) r → Gives own P least All (with_item limits made r at)
  item_gives limits made (Ok x) at h f = within_sizes_gives own P least All limits (data_sizes (array_of (made ++ x ∷ []))) (made ++ x ∷
      []) at
      (values_joined own P least made (x ∷ []) h (f.0, tt))
  item_gives limits made (Err e) at h f = f

  pub value_gives : (limits : Limits) (made : List (Dynamic H)) (r : Result (Dynamic H) (EvalAltResult H)) (at : Position) → All made →
      Gives own P least (Flat own P least) r → Gives own P least All (with_value limits made r at)
  value_gives limits made (Ok x) at h f = within_sizes_gives own P least All limits (entry_sizes (made ++ x ∷ [])) (made ++ x ∷ []) at
      (values_joined own P least made (x ∷ []) h (f.0, tt))
  value_gives limits made (Err e) at h f = f

  pub items_good : (made : List (Dynamic H)) (items : List Expr) (k : List (Frame H)) (l : Local H) → All made → Below k l →
      Good (items_core made items k l)
  items_good made [] k l h b = back own P least _ k l (array_fits made h) b
  items_good made (item ∷ items) k l h b = to own P least _ _ l tt tt (push own P least _ k l h tt b.back b)

  pub entries_good : (keys : List (List ℕ)) (made : List (Dynamic H)) (entries : List MapEntry) (k : List (Frame H)) (l : Local H) →
      All made → Below k l → Good (entries_core keys made entries k l)
  entries_good keys made [] k l h b = back own P least _ k l (map_fits keys made h) b
  entries_good keys made (entry ∷ entries) k l h b = to own P least _ _ l tt tt (push own P least _ k l h tt b.back b)

  parts_good : (text : List ℕ) (parts : List Expr) (k : List (Frame H)) (l : Local H) → Below k l → Good (parts_core text parts k l)
  parts_good text [] k l b = back own P least _ k l (fit_text own P text) b
  parts_good text (part ∷ parts) k l b = to own P least _ _ l tt tt (push own P least _ k l tt tt b.back b)

  pub part_good : (s : Setting H) (text part : List ℕ) (at : Position) (rest : List Expr) (k : List (Frame H)) (l : Local H) → Below k l →
      Good (part_core s text part at rest k l)
  part_good s text part at rest k l b = on own P least (Any own P least (List ℕ)) (with_part s.limits text part at) _ k l
      (within_sizes_gives own P least (Any own P least (List ℕ)) s.limits (data_sizes {H = H} (text_of (text ++ part))) (text ++ part) at
      tt) b
      (λ more h. parts_good more rest k l b)

  pub joined_good : (s : Setting H) (u : Union H) (v : Dynamic H) (text : List ℕ) (at : Position) (rest : List Expr) (k : List (Frame H))
      (l : Local H) → Fit own P v → Below k l → Good (joined_core s u v text at rest k l)
  joined_good s (value.Str part) v text at rest k l f b = part_good s text part at rest k l b
  joined_good s _ v text at rest k l f b =
      to own P least _ _ l (fit_copy own P v f, tt) tt (push own P least _ k l tt tt b.back b)

  pub unprinted_good : (s : Setting H) (passes : Bool) (e : EvalAltResult H) (text type : List ℕ) (at : Position) (rest : List Expr)
      (k : List (Frame H)) (l : Local H) → FitError own P e → Below k l → Good (unprinted_core s passes e text type at rest k l)
  unprinted_good s true e text type at rest k l h b = fail own P least e k l h b
  unprinted_good s false e text type at rest k l h b = part_good s text type at rest k l b

  -- ---- expressions

  pub argument_good : (literal : Option (Dynamic H)) (e : Expr) (k : List (Frame H)) (l : Local H) → FitsMaybe own P literal → Below k l →
      Moves own P least (argument_move literal e k l)
  argument_good (Some v) e k l h b = back own P least v k l h b
  argument_good None e k l h b = to own P least _ k l tt tt b

  and_good : (parts : List Expr) (k : List (Frame H)) (l : Local H) → Below k l → Good (and_core parts k l)
  and_good [] k l b = back own P least _ k l (fit_bool own P true) b
  and_good (part ∷ parts) k l b = to own P least _ _ l tt tt (push own P least _ k l tt tt b.back b)

  pub and_next_good : (holds : Bool) (parts : List Expr) (k : List (Frame H)) (l : Local H) → Below k l → Good (and_next holds parts k l)
  and_next_good true parts k l b = and_good parts k l b
  and_next_good false parts k l b = back own P least _ k l (fit_bool own P false) b

  or_good : (parts : List Expr) (k : List (Frame H)) (l : Local H) → Below k l → Good (or_core parts k l)
  or_good [] k l b = back own P least _ k l (fit_bool own P false) b
  or_good (part ∷ parts) k l b = to own P least _ _ l tt tt (push own P least _ k l tt tt b.back b)

  pub or_next_good : (holds : Bool) (parts : List Expr) (k : List (Frame H)) (l : Local H) → Below k l → Good (or_next holds parts k l)
  or_next_good true parts k l b = back own P least _ k l (fit_bool own P true) b
  or_next_good false parts k l b = or_good parts k l b

  coalesce_good : (last : Dynamic H) (parts : List Expr) (k : List (Frame H)) (l : Local H) → Fit own P last → Below k l →
      Good (coalesce_core last parts k l)
  coalesce_good last [] k l f b = back own P least last k l f b
  coalesce_good last (part ∷ parts) k l f b = to own P least _ _ l tt tt (push own P least _ k l tt tt b.back b)

  coalesce_seen_good : (u : Union H) (v : Dynamic H) (parts : List Expr) (k : List (Frame H)) (l : Local H) → Fit own P v → Below k l →
      Good (coalesce_seen u v parts k l)
  coalesce_seen_good value.Unit v parts k l f b = coalesce_good v parts k l f b
  coalesce_seen_good _ v parts k l f b = back own P least v k l f b

  pub coalesce_next_good : (r : Result (Dynamic H) (EvalAltResult H)) (v : Dynamic H) (parts : List Expr) (k : List (Frame H)) (l : Local
      H) →
      Gives own P least (Flat own P least) r → Fit own P v → Below k l → Good (coalesce_next r v parts k l)
  coalesce_next_good r v parts k l h f b = on own P least (Flat own P least) r _ k l h b
      (λ seen g. coalesce_seen_good seen.value v parts k l f b)

  -- where the engine's modules fit
  module _ (s : Setting H) (o : FitOffer own P least s.offer) where
    operand_good : (fast : Bool) (token : Option Token) (call : FnCallExpr) (args : List Expr) (pos : Position) (k : List (Frame H))
        (l : Local H) → Below k l → Moves own P least (call_move s fast token call args pos k l)
    operand_good true (Some token) call (operand ∷ []) pos k l b =
        to own P least _ _ l tt tt (push own P least _ k l tt tt b.back b)
    operand_good true (Some token) call (left ∷ right ∷ []) pos k l b =
        to own P least _ _ l tt tt (push own P least _ k l tt tt b.back b)
    operand_good _ _ call args pos k l b = call_good own P least s o (is_unqualified call.namespace.path) call pos k l b

    pub expr_good : (fast : Bool) (form : ExprLayer) (k : List (Frame H)) (l : Local H) → Below k l →
        Moves own P least (expr_move s fast form k l)
    expr_good fast (layer.DynamicConstant literal pos) k l b = back own P least _ k l (fit_literal own P literal) b
    expr_good fast (layer.BoolConstant truth pos) k l b = back own P least _ k l (fit_bool own P truth) b
    expr_good fast (layer.IntegerConstant n pos) k l b = back own P least _ k l (fit_int own P n) b
    expr_good fast (layer.CharConstant letter pos) k l b = back own P least _ k l (fit_char own P letter) b
    expr_good fast (layer.StringConstant text pos) k l b = back own P least _ k l (fit_text own P text) b
    expr_good fast (layer.Unit pos) k l b = unit own P least k l b
    expr_good fast (layer.InterpolatedString parts pos) k l b = parts_good [] parts k l b
    expr_good fast (layer.Array items pos) k l b = items_good [] items k l tt b
    expr_good fast (layer.Map entries template pos) k l b = entries_good (map key_of entries) [] entries k l tt b
    expr_good fast (layer.Variable offset name namespace pos) k l b = ended_fits own P least
        (read (globals_of s.offer) l.around l.scope (variable_named name namespace pos)) k l
        (read_fits own P least (globals_of s.offer) (o.0, o.1.0) (variable_named name namespace pos) l b.local) b
    expr_good fast (layer.ThisPtr pos) k l b = ended_fits own P least (copied (bound_this pos l.this)) k l
        (given_fits own P least _ (copied_gives own P least (bound_this pos l.this) (bound_gives own P least pos l.this b.local.this))) b
    expr_good fast (layer.Expr::FnCall call pos) k l b = operand_good fast call.op_token call call.args pos k l b
    expr_good fast (layer.Stmt block) k l b = to own P least _ k l tt tt b
    expr_good fast (layer.Index lhs rhs options pos) k l b = to own P least _ k l (tt, tt) tt b
    expr_good fast (layer.Dot lhs rhs options pos) k l b = to own P least _ k l (tt, tt) tt b
    expr_good fast (layer.And parts pos) k l b = and_good parts k l b
    expr_good fast (layer.Or parts pos) k l b = or_good parts k l b
    expr_good fast (layer.Coalesce parts pos) k l b = coalesce_good unit_value parts k l (fit_unit own P) b
    expr_good fast _ k l b = tt

  -- ---- loops

  pub while_good : (endless : Bool) (stmts : List Stmt) (test : Expr) (body : StmtBlock) (k : List (Frame H)) (l : Local H) → Below k l →
      Moves own P least (while_move endless stmts test body k l)
  while_good false stmts test body k l b = to own P least _ _ l tt tt (push own P least _ k l tt tt b.back b)
  while_good true [] test body k l b = to own P least _ k l tt tt b
  while_good true (stmt ∷ stmts) test body k l b = to own P least _ _ l tt tt (push own P least _ k l tt tt b.back b)

  pub while_core_good : (holds : Bool) (test : Expr) (body : StmtBlock) (k : List (Frame H)) (l : Local H) → Below k l →
      Good (while_core holds test body k l)
  while_core_good true test body k l b = to own P least _ _ l tt tt (push own P least _ k l tt tt b.back b)
  while_core_good false test body k l b = unit own P least k l b

  goes_on_good : (on : Bool) (turn : Control H) (k : List (Frame H)) (l : Local H) → Good (core turn k l) → Below k l →
      Good (core (if_goes_on on turn) k l)
  goes_on_good true turn k l t b = t
  goes_on_good false turn k l t b = unit own P least k l b

  pub do_good : (r : Result Bool (EvalAltResult H)) (until : Bool) (turn : Control H) (k : List (Frame H)) (l : Local H) →
      Gives own P least (Any own P least Bool) r → Good (core turn k l) → Below k l → Good (core (do_control r until turn) k l)
  do_good (Ok holds) until turn k l h t b = goes_on_good (goes_on until holds) turn k l t b
  do_good (Err e) until turn k l h t b = fail own P least e k l h b

  pub caught_good : (turn : Control H) (e : EvalAltResult H) (k : List (Frame H)) (l : Local H) → FitError own P e → Good (core turn k l) →
      Below k l → Good (core (caught turn e) k l)
  caught_good turn (error.LoopBreak v false at) k l h t b = t
  caught_good turn (error.LoopBreak v true at) k l h t b = back own P least v k l (error_fits own P (error.LoopBreak v true at) h) b
  caught_good turn e k l h t b = fail own P least e k l h b

  -- ---- exported variables

  aliased_fits : (es : List (ScopeEntry H)) (at : ℕ) (there : Option (ScopeEntry H)) (alias : List ℕ) → slice_get es at ≡ there →
      AllFit own P least (of_scope es) → AllFit own P least (of_scope (aliased es at there alias))
  aliased_fits es at None alias is h = h
  aliased_fits [] at (Some entry) alias is h = cc
  aliased_fits (e ∷ es) zero (Some entry) alias is h = let same : e ≡ entry = cc in (rw (← same) h.0, h.1)
  aliased_fits (e ∷ es) (suc at) (Some entry) alias is h = (h.0, aliased_fits es at (Some entry) alias is h.1)

  aliased_below : (at : ℕ) (alias : List ℕ) (k : List (Frame H)) (l : Local H) → Below k l → Below k (exported at alias l)
  aliased_below at alias k l b = record {
    stack = b.stack;
    sealed = b.sealed;
    back = b.back;
    local = record {
      scope = aliased_fits l.scope at (slice_get l.scope at) alias refl b.local.scope;
      this = b.local.this;
      focus = b.local.focus;
      cells = b.local.cells;
      around = b.local.around;
      sealed = b.local.sealed;
      enough = b.local.enough;
    };
  }

  export_good : (place : Option ℕ) (ident : Ident) (alias : Option Ident) (k : List (Frame H)) (l : Local H) → Below k l →
      Good (export_at place ident alias k l)
  export_good (Some at) ident alias k l b =
      unit own P least k (exported at (alias_or ident.name alias) l) (aliased_below at (alias_or ident.name alias) k l b)
  export_good None ident alias k l b = fail own P least _ k l (fit_error own P _ tt) b

  -- ---- imported modules

  found_under_gives : (path : List ℕ) (at : Position) (there : Option (Module H)) → There own P least (FitModule own P) there →
      Gives own P least (FitModule own P) (found_under path at there)
  found_under_gives path at (Some m) h = h
  found_under_gives path at None h = fit_error own P _ tt

  module_under_gives : (modules : List (List ℕ) × List (Module H)) (starts_at : Position) (path : Result (List ℕ) (EvalAltResult H)) →
      AllFit own P least (of_modules modules.1) → Gives own P least (Any own P least (List ℕ)) path →
      Gives own P least (FitModule own P) (module_under modules starts_at path)
  module_under_gives modules starts_at (Ok path) m h =
      found_under_gives path starts_at (value_of path modules) (module_of_fits own P least path modules m)
  module_under_gives modules starts_at (Err e) m h = h

  -- one of the engine's modules
  module_gives : (host : H → List ℕ) (modules : List (List ℕ) × List (Module H)) (l : Local H) (v : Dynamic H)
      (path_at starts_at : Position) → AllFit own P least (of_modules modules.1) → FitLocal own P least l → Fit own P v →
      Gives own P least (FitModule own P) (module_meant host l.around.cells modules v path_at starts_at)
  module_gives host modules l v path_at starts_at m h f = module_under_gives modules starts_at
      (text_wanted host l.around.cells v path_at) m (text_gives own P least host l v path_at h f)

  -- an import's module fits
  import_as_fits : (name : List ℕ) (m : Module H) → FitModule own P m → AllFit own P least (of_imports (import_as name m ∷ []))
  import_as_fits name m h = (rw out-roll-Import h, tt)

  imported_below : (name : List ℕ) (m : Module H) (k : List (Frame H)) (l : Local H) → FitModule own P m → Below k l →
      Below k (importing name m l)
  imported_below name m k l h b = record {
    stack = b.stack;
    sealed = b.sealed;
    back = b.back;
    local = record {
      scope = b.local.scope;
      this = b.local.this;
      focus = b.local.focus;
      cells = b.local.cells;
      around = (
        b.local.around.0,
        (
          imports_joined own P least l.around.imports (import_as name m ∷ []) b.local.around.1.0 (import_as_fits name m h),
          b.local.around.1.1,
        ),
      );
      sealed = b.local.sealed;
      enough = b.local.enough;
    };
  }

  pub imported_good : (host : H → List ℕ) (modules : List (List ℕ) × List (Module H)) (alias : Option Ident) (v : Dynamic H)
      (path_at starts_at : Position) (k : List (Frame H)) (l : Local H) → AllFit own P least (of_modules modules.1) → Fit own P v →
      Below k l → Good (on_value (module_meant host l.around.cells modules v path_at starts_at)
      (λ m. core (Back unit_value) k (importing (name_asked alias) m l)) k l)
  imported_good host modules alias v path_at starts_at k l m f b = on own P least (FitModule own P)
      (module_meant host l.around.cells modules v path_at starts_at) _ k l
      (module_gives host modules l v path_at starts_at m b.local f) b
      (λ m h. unit own P least k (importing (name_asked alias) m l) (imported_below (name_asked alias) m k l h b))

  import_good : (full : Bool) (path : Expr) (alias : Option Ident) (pos : Position) (k : List (Frame H)) (l : Local H) → Below k l →
      Good (import_core full path alias pos k l)
  import_good true path alias pos k l b = fail own P least _ k l (fit_error own P _ tt) b
  import_good false path alias pos k l b = to own P least _ _ l tt tt (push own P least _ k l tt tt b.back b)

  -- ---- statements

  pub chosen_good : (holds : Bool) (body branch : StmtBlock) (k : List (Frame H)) (l : Local H) → Below k l →
      Good (chosen_core holds body branch k l)
  chosen_good true body branch k l b = to own P least _ k l tt tt b
  chosen_good false body branch k l b = to own P least _ k l tt tt b

  -- a constant is entered into a table
  entry_at_fits : (name : List ℕ) (v : Dynamic H) (tables : List (List (List ℕ) × List (Dynamic H))) (at : ℕ)
      (table : Option (List (List ℕ) × List (Dynamic H))) → AllFit own P least (of_tables tables) → FitTable own P least table →
      Fit own P v → AllFit own P least (of_tables (with_entry_at name v tables at table))
  entry_at_fits name v tables at (Some table) h t f = tables_set own P least tables at (with_entry name v table) h
      (entry_fits own P least name v table t f)
  entry_at_fits name v tables at None h t f = h

  constant_fits : (enters : Bool) (name : List ℕ) (v : Dynamic H) (l : Local H) → Fit own P v → FitLocal own P least l →
      FitLocal own P least (constant_core enters name v l)
  constant_fits true name v l f h = record {
    scope = h.scope;
    this = h.this;
    focus = h.focus;
    cells = h.cells;
    around = (
      h.around.0,
      (
        h.around.1.0,
        entry_at_fits name (copy_of v) l.around.constant_tables l.around.constants
            (slice_get l.around.constant_tables l.around.constants) h.around.1.1
            (table_at own P least l.around.constant_tables l.around.constants h.around.1.1) (fit_copy own P v f),
      ),
    );
    sealed = h.sealed;
    enough = h.enough;
  }
  constant_fits false name v l f h = h

  constant_below : (enters : Bool) (name : List ℕ) (v : Dynamic H) (k : List (Frame H)) (l : Local H) → Fit own P v → Below k l →
      Below k (constant_core enters name v l)
  constant_below true name v k l f b =
      record { stack = b.stack; sealed = b.sealed; back = b.back; local = constant_fits true name v l f b.local }
  constant_below false name v k l f b = b

  -- a new variable's value fits, and so does one that overwrites another
  added_below : (v : Dynamic H) (ident : Ident) (options : ASTFlags) (k : List (Frame H)) (l : Local H) → Fit own P v → Below k l →
      Below k (added v ident options l)
  added_below v ident options k l f b = record {
    stack = b.stack;
    sealed = b.sealed;
    back = b.back;
    local = record {
      scope = scope_joined own P least l.scope (new_entry ident.name (mode_of options) v ∷ []) b.local.scope
          (fit_mode own P (mode_of options) v f, tt);
      this = b.local.this;
      focus = b.local.focus;
      cells = b.local.cells;
      around = b.local.around;
      sealed = b.local.sealed;
      enough = b.local.enough;
    };
  }

  overwritten_below : (place : Option ℕ) (v : Dynamic H) (options : ASTFlags) (k : List (Frame H)) (l : Local H) → Fit own P v →
      Below k l → Below k (overwritten place v options l)
  overwritten_below (Some at) v options k l f b = record {
    stack = b.stack;
    sealed = b.sealed;
    back = b.back;
    local = put_entry own P least at (with_mode (mode_of options) v) l b.local (fit_mode own P (mode_of options) v f);
  }
  overwritten_below None v options k l f b = b

  written_below : (index : Option NonZeroUsize) (v : Dynamic H) (ident : Ident) (options : ASTFlags) (k : List (Frame H)) (l : Local H) →
      Fit own P v → Below k l → Below k (written index v ident options l)
  written_below None v ident options k l f b = added_below v ident options k l f b
  written_below (Some offset) v ident options k l f b = overwritten_below (index_of ident.name l.scope) v options k l f b

  declared_good : (exported : Bool) (ident : Ident) (k : List (Frame H)) (l : Local H) → Below k l → Good (declared_core exported ident k l)
  declared_good true ident k l b = export_good (index_of ident.name l.scope) ident None k l b
  declared_good false ident k l b = unit own P least k l b

  pub defined_good : (v : Dynamic H) (ident : Ident) (index : Option NonZeroUsize) (options : ASTFlags) (restoring : Bool)
      (k : List (Frame H)) (l : Local H) →
      Fit own P v → Below k l → Good (defined_core v ident index options restoring k l)
  defined_good v ident index options restoring k l f b =
      let entered = constant_core (enters options restoring l) ident.name v l in
      declared_good (is_exported options) ident k (written index v ident options entered)
      (written_below index v ident options k entered f (constant_below (enters options restoring l) ident.name v k l f b))

  break_good : (value : Option Expr) (is_break : Bool) (pos : Position) (k : List (Frame H)) (l : Local H) → Below k l →
      Good (break_core value is_break pos k l)
  break_good None is_break pos k l b = fail own P least _ k l (fit_error own P _ (fit_unit own P)) b
  break_good (Some value) is_break pos k l b = to own P least _ _ l tt tt (push own P least _ k l tt tt b.back b)

  return_good : (throws : Bool) (value : Option Expr) (pos : Position) (k : List (Frame H)) (l : Local H) → Below k l →
      Moves own P least (return_move throws value pos k l)
  return_good true None pos k l b = fail own P least _ k l (fit_error own P _ (fit_unit own P)) b
  return_good true (Some value) pos k l b = to own P least _ _ l tt tt (push own P least _ k l tt tt b.back b)
  return_good false None pos k l b = fail own P least _ k l (fit_error own P _ (fit_unit own P)) b
  return_good false (Some value) pos k l b = to own P least _ _ l tt tt (push own P least _ k l tt tt b.back b)

  module _ (s : Setting H) where
    define_good : (shadows full : Bool) (ident : Ident) (value : Expr) (index : Option NonZeroUsize) (options : ASTFlags)
        (restoring : Bool) (pos : Position) (k : List (Frame H)) (l : Local H) → Below k l →
        Good (define_core s shadows full ident value index options restoring pos k l)
    define_good true full ident value index options restoring pos k l b = fail own P least _ k l (fit_error own P _ tt) b
    define_good false true ident value index options restoring pos k l b = fail own P least _ k l (fit_error own P _ tt) b
    define_good false false ident value index options restoring pos k l b =
        to own P least _ _ l tt tt (push own P least _ k l tt tt b.back b)

    pub stmt_good : (form : StmtLayer) (restoring : Bool) (k : List (Frame H)) (l : Local H) → Below k l →
        Moves own P least (stmt_move s form restoring k l)
    stmt_good (layer.Noop pos) restoring k l b = unit own P least k l b
    stmt_good (layer.Expr value) restoring k l b = to own P least _ _ l tt tt (push own P least _ k l tt tt b.back b)
    stmt_good (layer.Stmt::FnCall call pos) restoring k l b = to own P least _ k l tt tt b
    stmt_good (layer.Block block) restoring k l b = to own P least _ k l tt tt b
    stmt_good (layer.Assignment op lhs rhs) restoring k l b = assignment_good own P least (out-Expr lhs) op rhs k l b
    stmt_good (layer.Var ident value index options pos) restoring k l b =
        define_good (not s.offer.allow_shadowing && is_some (index_of ident.name l.scope))
        (is_none index && nat_le s.limits.max_variables (length l.scope)) ident value index options restoring pos k l b
    stmt_good (layer.If test body branch pos) restoring k l b = to own P least _ _ l tt tt (push own P least _ k l tt tt b.back b)
    stmt_good (layer.Switch value results cases ranges default pos) restoring k l b =
        to own P least _ _ l tt tt (push own P least _ k l tt tt b.back b)
    stmt_good (layer.While test body pos) restoring k l b = to own P least _ k l tt tt b
    stmt_good (layer.Do test body options pos) restoring k l b = to own P least _ k l tt tt b
    stmt_good (layer.For variable counter items body pos) restoring k l b =
        for_good own P least (has_no_room s.limits (loop_of variable counter items body) l) (loop_of variable counter items body) k l b
    stmt_good (layer.BreakLoop value options pos) restoring k l b = break_good value (has_option 2 options) pos k l b
    stmt_good (layer.TryCatch body variable branch pos) restoring k l b =
        to own P least _ _ l tt tt (push own P least _ k l tt tt b.back b)
    stmt_good (layer.Export ident alias pos) restoring k l b = export_good (index_of ident.name l.scope) ident alias k l b
    stmt_good (layer.Import path alias pos) restoring k l b =
        import_good (nat_le s.limits.max_modules l.around.num_modules_loaded) path alias pos k l b
    stmt_good (layer.Share variables) restoring k l b = to own P least _ k l tt tt b
    stmt_good (layer.Return value options pos) restoring k l b = return_good (has_option 2 options) value pos k l b
