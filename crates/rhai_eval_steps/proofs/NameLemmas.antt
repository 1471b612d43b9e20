-- The names of a scope that is cut back or grows, and the operands of a checked operator call.
use Rattle.std.proofs.Common.{◌≡◌, ◌<◌, ◌+◌, ℕ, Bool, true, false, ◌&&◌, ◌||◌, IsTrue, if◌then◌else◌, subst, get_or, drop, List, [], ◌∷◌}
use Rattle.std.proofs.Common.{◌++◌, length}
use Rattle.std.proofs.Common.{take, map, refl, sym, ap, ◌∙◌}
use Rattle.std.proofs.lemmas.List.{take-append-drop}
use Rattle.rhai_tree.specs.Names.{Begins, Frame, Name, is_good, naming, with_import}
use Rattle.rhai_tree.specs.declared.expr.Expr.{Expr, out-Expr}
use Rattle.rhai_tree.specs.declared.expr.Expr.TheFolds.{fold_out-MapEntry}
use Rattle.rhai_tree.specs.declared.expr.MapEntry.{MapEntry}
use Rattle.rhai_tree.specs.Frame.{tests_of, resolves_expr}
use Rattle.rhai_tree.specs.Reading as walk
use Rattle.rhai_tree.specs.Reading.{sound}
use Rattle.rhai_tree.specs.Frame.{all_resolve_exprs, all_resolve, entries_resolve, tests_of_entry}
use Rattle.rhai_state.specs.declared.scope.ScopeEntry.{ScopeEntry}
use Rattle.rhai_state.specs.Scope.{name_of}
use Rattle.rhai_tree.specs.Forms.{any_of, name_asked}
use Rattle.rhai_tree.specs.declared.expr.Stmt.{Stmt, out-Stmt}
use Rattle.rhai_tree.specs.declared.expr.Expr.TheOpen as layer
use Rattle.rhai_tree.specs.declared.flags.ASTFlags.{ASTFlags}
use Rattle.rhai_tree.specs.declared.position.Position.{Position}
use Rattle.std.specs.declared.num.NonZeroUsize.{NonZeroUsize}
use Rattle.rhai_tree.specs.Frame.{option_resolves, resolves_stmt, var_names, var_resolves}
use Rattle.rhai_tree.specs.Layers.{ExprLayer, StmtLayer}
use Rattle.rhai_tree.proofs.Walk.{expr_tests, resolves-expr, resolves-stmt, stmt_tests}
use Rattle.rhai_steps.specs.Agreement.{Agrees, Leads, Restores, Sight, Test, changes, framed, passes}
use Rattle.rhai_steps.proofs.Agreeing.{behind, brings, leads_by, same, stays}
use Rattle.std.proofs.Common.{Option, None, Some}
use Rattle.std.specs.Prelude.{IfSome, option_map}
use Rattle.rhai_values.specs.declared.base.value.Dynamic.{Dynamic}
use Rattle.rhai_call_forms.specs.Leading.{all_args, this_lent}
use Rattle.rhai_tree.specs.declared.expr.Ident.{Ident}
use Rattle.rhai_operands.proofs.Names.{both}
use Rattle.rhai_laws.specs.Kept.{declares}
use Rattle.rhai_eval_steps.specs.Agreement.{Declared}
use Rattle.rhai_eval_steps.proofs.Chain.{drop_item}
use Rattle.rhai_eval_steps.proofs.SightLemmas.{names_back}

module _ {H : Type 0} where
  -- a list that is left has the names that it began with
  pub names_restored : (old mid new : List (ScopeEntry H)) (count : ℕ) → new ≡ take count mid → count ≡ length old →
      Begins (map name_of old) (map name_of mid) → map name_of new ≡ map name_of old
  names_restored old mid new count cut is begins = ap (map name_of) cut ∙ names_back name_of old mid count is begins

-- each of the parts that resolve does
later_resolve : (before after : List Expr) (frame : Frame) → IsTrue (all_resolve_exprs (map tests_of (before ++ after)) frame) →
    IsTrue (all_resolve_exprs (map tests_of after) frame)
later_resolve [] after frame h = h
later_resolve (part ∷ before) after frame h = later_resolve before after frame
    (both (resolves_expr part frame) (all_resolve_exprs (map tests_of (before ++ after)) frame) h).1

pub part_resolves : (parts : List Expr) (i : ℕ) (part : Expr) (frame : Frame) → i < length parts → part ≡ get_or parts i part →
    IsTrue (all_resolve_exprs (map tests_of parts) frame) → IsTrue (resolves_expr part frame)
part_resolves parts i part frame lt is h =
    let split : IsTrue (all_resolve_exprs (map tests_of (take i parts ++ drop i parts)) frame) =
    subst (λ (items : List Expr). IsTrue (all_resolve_exprs (map tests_of items) frame)) (sym (take-append-drop i parts)) h in
    let later : IsTrue (all_resolve_exprs (map tests_of (part ∷ drop (i + 1) parts)) frame) =
    subst (λ (items : List Expr). IsTrue (all_resolve_exprs (map tests_of items) frame)) (drop_item parts i part lt is)
    (later_resolve (take i parts) (drop i parts) frame split) in
    (both (resolves_expr part frame) (all_resolve_exprs (map tests_of (drop (i + 1) parts)) frame) later).0

-- so do the first of them, and the others
pub first_resolves : (args : List Expr) (arg : Expr) (rest : List Expr) (frame : Frame) → args ≡ arg ∷ rest →
    IsTrue (all_resolve_exprs (map tests_of args) frame) →
    IsTrue (resolves_expr arg frame) × IsTrue (all_resolve_exprs (map tests_of rest) frame)
first_resolves args arg rest frame is h = both (resolves_expr arg frame) (all_resolve_exprs (map tests_of rest) frame) (rw is at h)

-- where `this` comes first, the arguments behind it do
pub this_resolves : {H : Type 0} (by_value : Bool) (first : Option Expr) (rest : List Expr) (this : Option (Dynamic H)) (at : Position)
    (frame : Frame) → this_lent by_value first this ≡ Some at → IsTrue (all_resolve_exprs (map tests_of (all_args first rest)) frame) →
    IsTrue (all_resolve_exprs (map tests_of rest) frame)
this_resolves true first rest this at frame found h = absurd cc
this_resolves false None rest this at frame found h = absurd cc
this_resolves false (Some arg) rest this at frame found h = (first_resolves (arg ∷ rest) arg rest frame refl h).1

-- so does the value of each entry of a map
entry_resolves : (entry : MapEntry) (frame : Frame) → IsTrue ((tests_of_entry entry).value frame) →
    IsTrue (resolves_expr entry.value frame)
entry_resolves entry frame h = subst (λ (s : walk.SeenEntry sound). IsTrue (s.value frame)) (fold_out-MapEntry (walk.Seen sound)
    (walk.SeenStmt sound) (walk.SeenConditional sound) (walk.SeenCall sound) (walk.SeenEntry sound) (walk.Seen sound) (walk.expr_step sound)
    (walk.stmt_step sound) (walk.conditional_step sound) (walk.call_step sound) (walk.entry_step sound) (walk.block_step sound) entry) h

later_entries : (before after : List MapEntry) (frame : Frame) → IsTrue (entries_resolve (map tests_of_entry (before ++ after)) frame) →
    IsTrue (entries_resolve (map tests_of_entry after) frame)
later_entries [] after frame h = h
later_entries (entry ∷ before) after frame h = later_entries before after frame
    (both ((tests_of_entry entry).value frame) (entries_resolve (map tests_of_entry (before ++ after)) frame) h).1

pub value_resolves : (entries : List MapEntry) (i : ℕ) (entry : MapEntry) (frame : Frame) → i < length entries →
    entry ≡ get_or entries i entry → IsTrue (entries_resolve (map tests_of_entry entries) frame) → IsTrue (resolves_expr entry.value frame)
value_resolves entries i entry frame lt is h =
    let split : IsTrue (entries_resolve (map tests_of_entry (take i entries ++ drop i entries)) frame) =
    subst (λ (items : List MapEntry). IsTrue (entries_resolve (map tests_of_entry items) frame)) (sym (take-append-drop i entries)) h in
    let later : IsTrue (entries_resolve (map tests_of_entry (entry ∷ drop (i + 1) entries)) frame) =
    subst (λ (items : List MapEntry). IsTrue (entries_resolve (map tests_of_entry items) frame)) (drop_item entries i entry lt is)
    (later_entries (take i entries) (drop i entries) frame split) in
    entry_resolves entry frame
    (both ((tests_of_entry entry).value frame) (entries_resolve (map tests_of_entry (drop (i + 1) entries)) frame) later).0

-- what holds, holds of whatever there is
pub holds_of_all : {A P : Type 0} (o : Option A) → P → IfSome o (λ x. P)
holds_of_all None p = tt
holds_of_all (Some x) p = p

-- what is put back after nothing changed
pub back_over : {a b c : Sight} {k l m : List Name} → b ≡ a → l ≡ k → Restores b l c m → Restores a k c m
back_over sight names p = record { sight = p.sight ∙ sight; names = p.names ∙ names }

-- a test that holds of a frame suits it
pub suits_now : {test : Test} (sight : Sight) (names : List Name) → IsTrue (test (framed sight names)) → Agrees sight names test
suits_now sight names holds = record { known = framed sight names; holds = holds; stands = λ off. refl }

-- what else holds of the frame that was known
pub at_known : {a : Sight} {k : List Name} {test other : Test} (h : Agrees a k test) → IsTrue (other h.known) → Agrees a k other
at_known h holds = record { known = h.known; holds = holds; stands = h.stands }

-- the rest of a list suits what its first statement makes of the names
pub rest_suits : {a b : Sight} {k l : List Name} (part : Stmt) (parts : List Stmt) →
    Leads a (changes (resolves_stmt part) (framed a k)) b l →
    Agrees a k (passes (all_resolve (map resolves_stmt (part ∷ parts)))) → Agrees b l (passes (all_resolve (map resolves_stmt parts)))
rest_suits part parts leads h = behind (changes (resolves_stmt part))
    (λ frame all. (both (resolves_stmt part frame).0 (all_resolve (map resolves_stmt parts) (resolves_stmt part frame).1).0 all).1) leads h

-- and its first statement suits
pub first_suits : {a : Sight} {k : List Name} (part : Stmt) (parts : List Stmt) →
    Agrees a k (passes (all_resolve (map resolves_stmt (part ∷ parts)))) → Agrees a k (passes (resolves_stmt part))
first_suits part parts h =
    brings (λ frame all. (both (resolves_stmt part frame).0 (all_resolve (map resolves_stmt parts) (resolves_stmt part frame).1).0 all).0) h

-- what an expression or a statement of a form says of its parts
pub expr_suits : {a b : Sight} {k : List Name} (e : Expr) (l : ExprLayer) → out-Expr e ≡ l → b ≡ a → Agrees a k (resolves_expr e) →
    Agrees b k (walk.expr_step sound (expr_tests l)).value
expr_suits e l is sight h = same sight refl
    (brings (λ frame. subst (λ (s : walk.Seen sound). IsTrue (s.value frame)) (resolves-expr e l is)) h)

pub stmt_suits : {a b : Sight} {k : List Name} (stmt : Stmt) (l : StmtLayer) → out-Stmt stmt ≡ l → b ≡ a →
    Agrees a k (passes (resolves_stmt stmt)) → Agrees b k (passes (walk.stmt_step sound (stmt_tests l)))
stmt_suits stmt l is sight h = same sight refl
    (brings (λ frame. subst (λ (f : walk.SeenStmt sound). IsTrue (f frame).0) (resolves-stmt stmt l is)) h)

-- the value that a `break` has, or a `return`, suits the names
pub broken_suits : {a : Sight} {k : List Name} (value : Option Expr) (options : ASTFlags) (pos : Position) →
    Agrees a k (passes (walk.stmt_step sound (stmt_tests (layer.BreakLoop value options pos)))) →
    Agrees a k (option_resolves (option_map tests_of value))
broken_suits None options pos h = brings (λ frame all. all) h
broken_suits (Some part) options pos h = brings (λ frame all. all) h

pub returned_suits : {a : Sight} {k : List Name} (value : Option Expr) (options : ASTFlags) (pos : Position) →
    Agrees a k (passes (walk.stmt_step sound (stmt_tests (layer.Return value options pos)))) →
    Agrees a k (option_resolves (option_map tests_of value))
returned_suits None options pos h = brings (λ frame all. all) h
returned_suits (Some part) options pos h = brings (λ frame all. all) h

-- a part of a list that may ask for memory
or_right : (a b : Bool) → IsTrue b → IsTrue (a || b)
or_right true b h = refl
or_right false b h = h

or_left : (a b : Bool) → IsTrue a → IsTrue (a || b)
or_left true b h = refl
or_left false b h = cc

any_later : {A : Type 0} (f : A → Bool) (before after : List A) → IsTrue (any_of (map f after)) → IsTrue (any_of (map f (before ++ after)))
any_later f [] after h = h
any_later f (x ∷ before) after h = or_right (f x) (any_of (map f (before ++ after))) (any_later f before after h)

pub any_item : {A : Type 0} (f : A → Bool) (xs : List A) (i : ℕ) (x : A) → i < length xs → x ≡ get_or xs i x → IsTrue (f x) →
    IsTrue (any_of (map f xs))
any_item f xs i x lt is h = subst (λ items. IsTrue (any_of (map f items))) (take-append-drop i xs)
    (any_later f (take i xs) (drop i xs) (rw (drop_item xs i x lt is) (or_left (f x) (any_of (map f (drop (i + 1) xs))) h)))

-- what a statement that declares a variable relies on, and the frame behind it
var_frame : (index : Option NonZeroUsize) (name : Name) (frame : Frame) →
    walk.after_var sound index name frame ≡ naming (var_names index name) frame
var_frame None name frame = refl
var_frame (Some offset) name frame = refl

module _ (stmt : Stmt) (frame : Frame) (ident : Ident) (value : Expr) (index : Option NonZeroUsize) (options : ASTFlags) (pos : Position)
    (is : out-Stmt stmt ≡ layer.Var ident value index options pos) where
  pub declared_resolves : IsTrue (resolves_stmt stmt frame).0 → IsTrue (var_resolves index ident (tests_of value) options pos frame)
  declared_resolves h = rw (resolves-stmt stmt (layer.Var ident value index options pos) is) at h

  pub declared_names : (resolves_stmt stmt frame).1 ≡ naming (var_names index ident.name) frame
  declared_names = ap (λ (f : walk.SeenStmt sound). (f frame).1) (resolves-stmt stmt (layer.Var ident value index options pos) is)
      ∙ var_frame index ident.name frame

-- a variable that is declared has a value that resolves, and an offset that is good
offset_holds : (good value : Bool) → IsTrue ((if good then true else false) && value) → IsTrue good × IsTrue value
offset_holds true value h = (refl, h)
offset_holds false value h = cc

pub var_value : (index : Option NonZeroUsize) (ident : Ident) (value : Expr) (options : ASTFlags) (pos : Position) (frame : Frame) →
    IsTrue (var_resolves index ident (tests_of value) options pos frame) → IsTrue (resolves_expr value frame)
var_value index ident value options pos frame h = (offset_holds (is_good index ident.name frame.names) (resolves_expr value frame) h).1

pub var_good : (index : Option NonZeroUsize) (ident : Ident) (value : Expr) (options : ASTFlags) (pos : Position) (frame : Frame) →
    IsTrue (var_resolves index ident (tests_of value) options pos frame) → IsTrue (is_good index ident.name frame.names)
var_good index ident value options pos frame h = (offset_holds (is_good index ident.name frame.names) (resolves_expr value frame) h).0

-- a statement that adds no name leaves the frame
frame_left : (stmt : Stmt) (l : StmtLayer) (frame made : Frame) → out-Stmt stmt ≡ l →
    (walk.stmt_step sound (stmt_tests l) frame).1 ≡ made → (resolves_stmt stmt frame).1 ≡ made
frame_left stmt l frame made is e = ap (λ (f : walk.SeenStmt sound). (f frame).1) (resolves-stmt stmt l is) ∙ e

-- what a statement makes of the frame, told by its form
stmt_makes : {was on now : Sight} {left : List Name} (stmt : Stmt) (names : List Name) (made : Frame → Frame) →
    ((frame : Frame) → (resolves_stmt stmt frame).1 ≡ made frame) → on ≡ was → Leads on (made (framed on names)) now left →
    Leads was (changes (resolves_stmt stmt) (framed was names)) now left
stmt_makes {was} {on} {now} {left} stmt names made is sight p = subst (λ (known : Frame). Leads was known now left)
    (sym (is (framed was names))) (leads_by made (stays sight refl) p)

pub stmt_keeps : {was on now : Sight} {left : List Name} (stmt : Stmt) (l : StmtLayer) (names : List Name) → out-Stmt stmt ≡ l →
    ((frame : Frame) → (walk.stmt_step sound (stmt_tests l) frame).1 ≡ frame) → on ≡ was → Leads on (framed on names) now left →
    Leads was (changes (resolves_stmt stmt) (framed was names)) now left
stmt_keeps stmt l names is e sight p = stmt_makes stmt names (λ frame. frame) (λ frame. frame_left stmt l frame frame is (e frame)) sight p

-- and one that declares a variable or imports leaves it as that does
pub stmt_declares : {was on now : Sight} {left : List Name} (stmt : Stmt) (names : List Name) (ident : Ident) (value : Expr)
    (index : Option NonZeroUsize) (options : ASTFlags) (pos : Position) → out-Stmt stmt ≡ layer.Var ident value index options pos →
    on ≡ was → Leads on (naming (var_names index ident.name) (framed on names)) now left →
    Leads was (changes (resolves_stmt stmt) (framed was names)) now left
stmt_declares stmt names ident value index options pos is sight p = stmt_makes stmt names (naming (var_names index ident.name))
    (λ frame. declared_names stmt frame ident value index options pos is) sight p

pub stmt_imports : {was on now : Sight} {left : List Name} (stmt : Stmt) (names : List Name) (path : Expr) (alias : Option Ident)
    (pos : Position) → out-Stmt stmt ≡ layer.Import path alias pos → on ≡ was →
    Leads on (with_import (name_asked alias) (framed on names)) now left →
    Leads was (changes (resolves_stmt stmt) (framed was names)) now left
stmt_imports stmt names path alias pos is sight p = stmt_makes stmt names (with_import (name_asked alias))
    (λ frame. frame_left stmt (layer.Import path alias pos) frame (with_import (name_asked alias) frame) is refl) sight p

-- the names behind a statement are those that it makes of them
names_made : (stmt : Stmt) (l : StmtLayer) (old : Frame) → out-Stmt stmt ≡ l →
    (walk.stmt_step sound (stmt_tests l) old).1.names ≡ old.names → old.names ≡ (resolves_stmt stmt old).1.names
names_made stmt l old is e = sym (ap (λ (f : walk.SeenStmt sound). (f old).1.names) (resolves-stmt stmt l is) ∙ e)

pub stmt_names : (stmt : Stmt) (l : StmtLayer) (old : Frame) (new : List Name) → out-Stmt stmt ≡ l → Declared l old.names new →
    (declares l ≡ false → new ≡ old.names) → new ≡ (resolves_stmt stmt old).1.names
stmt_names stmt (layer.Var ident value index options pos) old new is declared stay =
    declared ∙ ap (λ (f : Frame). f.names) (sym (declared_names stmt old ident value index options pos is))
stmt_names stmt (layer.Noop pos) old new is declared stay = stay refl ∙ names_made stmt _ old is refl
stmt_names stmt (layer.Expr expr) old new is declared stay = stay refl ∙ names_made stmt _ old is refl
stmt_names stmt (layer.Stmt::FnCall call pos) old new is declared stay = stay refl ∙ names_made stmt _ old is refl
stmt_names stmt (layer.Block block) old new is declared stay = stay refl ∙ names_made stmt _ old is refl
stmt_names stmt (layer.Assignment op lhs rhs) old new is declared stay = stay refl ∙ names_made stmt _ old is refl
stmt_names stmt (layer.If expr body branch pos) old new is declared stay = stay refl ∙ names_made stmt _ old is refl
stmt_names stmt (layer.Switch expr expressions cases ranges def_case pos) old new is declared stay = stay refl ∙ names_made
    stmt _ old is refl
stmt_names stmt (layer.While expr body pos) old new is declared stay = stay refl ∙ names_made stmt _ old is refl
stmt_names stmt (layer.Do expr body options pos) old new is declared stay = stay refl ∙ names_made stmt _ old is refl
stmt_names stmt (layer.For name counter expr body pos) old new is declared stay = stay refl ∙ names_made stmt _ old is refl
stmt_names stmt (layer.BreakLoop expr options pos) old new is declared stay = stay refl ∙ names_made stmt _ old is refl
stmt_names stmt (layer.TryCatch body variable branch pos) old new is declared stay = stay refl ∙ names_made stmt _ old is refl
stmt_names stmt (layer.Return expr options pos) old new is declared stay = stay refl ∙ names_made stmt _ old is refl
stmt_names stmt (layer.Import expr alias pos) old new is declared stay = stay refl ∙ names_made stmt _ old is refl
stmt_names stmt (layer.Export name alias pos) old new is declared stay = stay refl ∙ names_made stmt _ old is refl
stmt_names stmt (layer.Share variables) old new is declared stay = stay refl ∙ names_made stmt _ old is refl
