-- A chain that the checker passed: its root may run, and so may what its links ask for; and it walks.
use Rattle.std.proofs.Common.{◌≡◌, ◌≤◌, ◌+◌, ℕ, zero, suc, Bool, true, false, not, ◌&&◌, IsTrue, map}
use Rattle.std.proofs.Common.{length, Option, Some, None, is_some, refl, sym, ap, subst, ◌∙◌, arith, if◌then◌else◌}
use Rattle.std.specs.Prelude.{⊤}
use Rattle.std.specs.declared.num.NonZeroUsize.{NonZeroUsize}
use Rattle.rhai_tree.specs.declared.expr.Expr.{Expr, out-Expr, roll-Expr, roll-out-Expr}
use Rattle.rhai_tree.specs.declared.expr.Expr.TheVariants as exprs
use Rattle.rhai_tree.specs.declared.expr.Expr.TheOpen as layer
use Rattle.rhai_tree.specs.declared.expr.Expr.TheFolds.{fold_out-FnCallExpr, fold_out-StmtBlock}
use Rattle.rhai_tree.specs.declared.expr.FnCallExpr.{FnCallExpr}
use Rattle.rhai_tree.specs.declared.expr.Namespace.{Namespace}
use Rattle.rhai_tree.specs.declared.expr.StmtBlock.{StmtBlock}
use Rattle.rhai_tree.specs.declared.flags.ASTFlags.{ASTFlags}
use Rattle.rhai_tree.specs.declared.position.Position.{Position}
use Rattle.rhai_tree.specs.Layers.{ExprLayer}
use Rattle.rhai_tree.specs.Positions.{position_of}
use Rattle.rhai_tree.specs.Links.{is_counted}
use Rattle.rhai_tree.specs.Forms.{ends_chain, is_unqualified}
use Rattle.rhai_tree.specs.Frame.{all_resolve_exprs, resolves_expr, target_resolves, tests_of}
use Rattle.rhai_tree.specs.Names.{Frame, Name}
use Rattle.rhai_tree.specs.Reading as walk
use Rattle.rhai_tree.specs.Reading.{sound}
use Rattle.rhai_tree.proofs.Walk.{expr_tests, resolves-expr}
use Rattle.rhai_operands.proofs.Names.{both, holds_then}
use Rattle.rhai_machine.specs.language.Links.{Link, LinkForm, asked_by, breaks, dot_form, dot_link}
use Rattle.rhai_machine.specs.language.Links.{dot_link_with, first_in, index_link, link_of}
use Rattle.rhai_links.specs.Chains.{at_end, goes_on, MayEnd}
use Rattle.rhai_tree.specs.Links.{left_by, links}
use Rattle.rhai_links.proofs.LinkLemmas.{fewer_behind}
use Rattle.rhai_eval_steps.specs.Chains.{MayWalk, StartsFrom, behind_resolves}

-- what is seen of one level
abbrev level : ExprLayer → walk.Seen sound
level l = walk.expr_step sound (expr_tests l)

-- a block is no chain, and no place
block_apart : (block : StmtBlock) → (walk.seen_block sound block).link ≡ walk.IndexAlone
block_apart block = ap (λ (s : walk.Seen sound). s.link) (fold_out-StmtBlock (walk.Seen sound) (walk.SeenStmt sound)
    (walk.SeenConditional sound)
    (walk.SeenCall sound) (walk.SeenEntry sound) (walk.Seen sound) (walk.expr_step sound) (walk.stmt_step sound)
    (walk.conditional_step sound)
    (walk.call_step sound) (walk.entry_step sound) (walk.block_step sound) block)

block_no_place : (block : StmtBlock) → (walk.seen_block sound block).is_place ≡ false
block_no_place block = ap (λ (s : walk.Seen sound). s.is_place) (fold_out-StmtBlock (walk.Seen sound) (walk.SeenStmt sound)
    (walk.SeenConditional sound)
    (walk.SeenCall sound) (walk.SeenEntry sound) (walk.Seen sound) (walk.expr_step sound) (walk.stmt_step sound)
    (walk.conditional_step sound)
    (walk.call_step sound) (walk.entry_step sound) (walk.block_step sound) block)

-- ---- the root

root_at : (l : ExprLayer) (root : Expr) (frame : Frame) → first_in l ≡ Some root → IsTrue ((level l).value frame) →
    IsTrue (resolves_expr root frame) × IsTrue (behind_resolves l frame)
root_at (layer.Dot lhs rhs options pos) root frame is h =
    let same : lhs ≡ root = cc in
    subst (λ (e : Expr). IsTrue (resolves_expr e frame) × IsTrue (behind_resolves (layer.Dot lhs rhs options pos) frame)) same
    (both (resolves_expr lhs frame) (behind_resolves (layer.Dot lhs rhs options pos) frame)
    (both (is_counted (level (layer.Dot lhs rhs options pos)).links)
    (resolves_expr lhs frame && behind_resolves (layer.Dot lhs rhs options pos) frame) h).1)
root_at (layer.Index lhs rhs options pos) root frame is h =
    let same : lhs ≡ root = cc in
    subst (λ (e : Expr). IsTrue (resolves_expr e frame) × IsTrue (behind_resolves (layer.Index lhs rhs options pos) frame)) same
    (both (resolves_expr lhs frame) (behind_resolves (layer.Index lhs rhs options pos) frame)
    (both (is_counted (level (layer.Index lhs rhs options pos)).links)
    (resolves_expr lhs frame && behind_resolves (layer.Index lhs rhs options pos) frame) h).1)
root_at _ root frame is h = cc

-- the root of a chain that may run may, and so may what stands behind its operator
pub root_resolves : (e root : Expr) (frame : Frame) → first_in (out-Expr e) ≡ Some root → IsTrue (resolves_expr e frame) →
    IsTrue (resolves_expr root frame) × IsTrue (behind_resolves (out-Expr e) frame)
root_resolves e root frame is h = root_at (out-Expr e) root frame is
    (subst (λ (s : walk.Seen sound). IsTrue (s.value frame)) (resolves-expr e (out-Expr e) refl) h)

-- ---- links

-- what a link asks for may run
abbrev pub FormResolves : Option LinkForm → Frame → Type 0
FormResolves None frame = ⊥
FormResolves (Some form) frame = IsTrue (all_resolve_exprs (map tests_of (asked_by form)) frame)

-- and what stands behind it
abbrev pub RestResolves : (behind : Option ExprLayer) → Frame → Type 0
RestResolves None frame = ⊤
RestResolves (Some rest) frame = IsTrue (behind_resolves rest frame)

abbrev pub LinkResolves : Option Link → Frame → Type 0
LinkResolves None frame = ⊥
LinkResolves (Some link) frame = FormResolves (Some link.form) frame × RestResolves link.behind frame

one_resolves : (b : Bool) → IsTrue b → IsTrue (b && true)
one_resolves true h = refl
one_resolves false h = h

-- behind a bracket: a chain that goes on there
bracket_first : (l : ExprLayer) (first : Expr) (value : walk.Finds sound) (frame : Frame) → first_in l ≡ Some first →
    IsTrue (walk.found_behind_bracket sound false (level l).link value frame) →
    IsTrue (resolves_expr first frame) × IsTrue (behind_resolves l frame)
bracket_first (layer.Dot lhs rhs options pos) first value frame is h =
    let same : lhs ≡ first = cc in
    subst (λ (e : Expr). IsTrue (resolves_expr e frame) × IsTrue (behind_resolves (layer.Dot lhs rhs options pos) frame)) same
    (both (resolves_expr lhs frame) (behind_resolves (layer.Dot lhs rhs options pos) frame) h)
bracket_first (layer.Index lhs rhs options pos) first value frame is h =
    let same : lhs ≡ first = cc in
    subst (λ (e : Expr). IsTrue (resolves_expr e frame) × IsTrue (behind_resolves (layer.Index lhs rhs options pos) frame)) same
    (both (resolves_expr lhs frame) (behind_resolves (layer.Index lhs rhs options pos) frame) h)
bracket_first _ first value frame is h = cc

-- and any other value
bracket_plain : (l : ExprLayer) (value : walk.Finds sound) (frame : Frame) → first_in l ≡ None →
    IsTrue (walk.found_behind_bracket sound false (level l).link value frame) → IsTrue (value frame)
bracket_plain (layer.Dot lhs rhs options pos) value frame is h = cc
bracket_plain (layer.Index lhs rhs options pos) value frame is h = cc
bracket_plain (layer.Stmt block) value frame is h =
    subst (λ (k : walk.Link sound). IsTrue (walk.found_behind_bracket sound false k value frame)) (block_apart block) h
bracket_plain _ value frame is h = h

index_resolves : (broken : Bool) (first : Option Expr) (rhs : Expr) (options : ASTFlags) (at : Position) (frame : Frame) →
    first_in (out-Expr rhs) ≡ first →
    IsTrue (walk.found_behind_bracket sound broken (level (out-Expr rhs)).link (tests_of rhs).value frame) →
    LinkResolves (Some (index_link broken first rhs options at)) frame
index_resolves false (Some first) rhs options at frame is h =
    let parts = bracket_first (out-Expr rhs) first (tests_of rhs).value frame is h in
    (one_resolves (resolves_expr first frame) parts.0, parts.1)
index_resolves false None rhs options at frame is h =
    (one_resolves (resolves_expr rhs frame) (bracket_plain (out-Expr rhs) (tests_of rhs).value frame is h), tt)
index_resolves true first rhs options at frame is h = (one_resolves (resolves_expr rhs frame) h, tt)

-- a method without a path, whose arguments may run
method_resolves : (call : FnCallExpr) (pos at : Position) (frame : Frame) → IsTrue ((walk.seen_call sound call).method at frame) →
    FormResolves (dot_form (layer.MethodCall call pos)) frame
method_resolves call pos at frame h =
    let parts = holds_then (is_unqualified call.namespace.path) (all_resolve_exprs (map tests_of call.args) frame)
    (subst (λ (s : walk.SeenCall sound). IsTrue (s.method at frame)) (fold_out-FnCallExpr (walk.Seen sound) (walk.SeenStmt sound)
    (walk.SeenConditional sound) (walk.SeenCall sound) (walk.SeenEntry sound) (walk.Seen sound) (walk.expr_step sound)
    (walk.stmt_step sound)
    (walk.conditional_step sound) (walk.call_step sound) (walk.entry_step sound) (walk.block_step sound) call) h) in
    rw parts.0 parts.1

-- behind a dot stands a property or a method, and a chain goes on from one
name_at : (l : ExprLayer) (behind : walk.Finds sound) (pos : Position) (frame : Frame) →
    IsTrue (walk.found_from_name sound (walk.named_in sound (level l).link) behind pos frame) →
    FormResolves (dot_form l) frame × IsTrue (behind frame)
name_at (layer.Property name at) behind pos frame h = (refl, h)
name_at (layer.MethodCall call at) behind pos frame h =
    let parts = both ((walk.seen_call sound call).method at frame) (behind frame) h in (method_resolves call at at frame parts.0, parts.1)
name_at (layer.Stmt block) behind pos frame h =
    let none : false ≡ true = subst (λ (k : walk.Link sound). IsTrue (walk.found_from_name sound (walk.named_in sound k) behind pos frame))
    (block_apart block) h in cc
name_at _ behind pos frame h = cc

name_resolves : (first : Expr) (behind : walk.Finds sound) (pos : Position) (frame : Frame) →
    IsTrue (walk.found_from_name sound (walk.named_in sound (tests_of first).link) behind pos frame) →
    FormResolves (dot_form (out-Expr first)) frame × IsTrue (behind frame)
name_resolves first behind pos frame h = name_at (out-Expr first) behind pos frame
    (subst (λ (s : walk.Seen sound). IsTrue (walk.found_from_name sound (walk.named_in sound s.link) behind pos frame))
    (resolves-expr first (out-Expr first) refl) h)

-- an index stands behind no dot, and a chain behind none that ends one
no_index : (ends : Bool) (pos : Position) (frame : Frame) → IsTrue (walk.found_behind_dot sound ends walk.IndexAlone pos frame) → ⊥
no_index true pos frame h = cc
no_index false pos frame h = cc

-- a name stands behind any
name_found : (ends is_method : Bool) (value : walk.Finds sound) (pos : Position) (frame : Frame) →
    IsTrue (walk.found_behind_dot sound ends (walk.Named is_method value) pos frame) → IsTrue (value frame)
name_found true is_method value pos frame h = h
name_found false is_method value pos frame h = h

last_at : (ends : Bool) (l : ExprLayer) (pos : Position) (frame : Frame) → first_in l ≡ None →
    IsTrue (walk.found_behind_dot sound ends (level l).link pos frame) → FormResolves (dot_form l) frame
last_at ends (layer.Property name at) pos frame is h = refl
last_at ends (layer.MethodCall call at) pos frame is h =
    method_resolves call at at frame (name_found ends true ((walk.seen_call sound call).method at) pos frame h)
last_at ends (layer.Stmt block) pos frame is h = no_index ends pos frame
    (subst (λ (k : walk.Link sound). IsTrue (walk.found_behind_dot sound ends k pos frame)) (block_apart block) h)
last_at ends (layer.Dot lhs rhs options at) pos frame is h = cc
last_at ends (layer.Index lhs rhs options at) pos frame is h = cc
last_at ends _ pos frame is h = absurd (no_index ends pos frame h)

further_at : (l : ExprLayer) (first : Expr) (pos : Position) (frame : Frame) → first_in l ≡ Some first →
    IsTrue (walk.found_behind_dot sound false (level l).link pos frame) →
    FormResolves (dot_form (out-Expr first)) frame × IsTrue (behind_resolves l frame)
further_at (layer.Dot lhs rhs options at) first pos frame is h =
    let same : lhs ≡ first = cc in
    subst (λ (e : Expr). FormResolves (dot_form (out-Expr e)) frame × IsTrue (behind_resolves (layer.Dot lhs rhs options at) frame)) same
    (name_resolves lhs (behind_resolves (layer.Dot lhs rhs options at)) pos frame h)
further_at (layer.Index lhs rhs options at) first pos frame is h =
    let same : lhs ≡ first = cc in
    subst (λ (e : Expr). FormResolves (dot_form (out-Expr e)) frame × IsTrue (behind_resolves (layer.Index lhs rhs options at) frame)) same
    (name_resolves lhs (behind_resolves (layer.Index lhs rhs options at)) pos frame h)
further_at _ first pos frame is h = cc

broken_at : (l : ExprLayer) (first : Expr) (pos : Position) (frame : Frame) → first_in l ≡ Some first →
    IsTrue (walk.found_behind_dot sound true (level l).link pos frame) → ⊥
broken_at (layer.Dot lhs rhs options at) first pos frame is h = cc
broken_at (layer.Index lhs rhs options at) first pos frame is h = cc
broken_at _ first pos frame is h = cc

with_form : (form : Option LinkForm) (rest_at at : Position) (options : ASTFlags) (behind : Option ExprLayer) (frame : Frame) →
    FormResolves form frame → RestResolves behind frame → LinkResolves (dot_link_with form rest_at at options behind) frame
with_form None rest_at at options behind frame h rest = h
with_form (Some form) rest_at at options behind frame h rest = (h, rest)

dot_at : (broken : Bool) (first : Option Expr) (rhs : Expr) (options : ASTFlags) (at : Position) (frame : Frame) →
    first_in (out-Expr rhs) ≡ first → IsTrue (walk.found_behind_dot sound broken (level (out-Expr rhs)).link at frame) →
    LinkResolves (dot_link broken first rhs options at) frame
dot_at false (Some first) rhs options at frame is h =
    let parts = further_at (out-Expr rhs) first at frame is h in
    with_form (dot_form (out-Expr first)) (position_of rhs) at options (Some (out-Expr rhs)) frame parts.0 parts.1
dot_at true (Some first) rhs options at frame is h = broken_at (out-Expr rhs) first at frame is h
dot_at false None rhs options at frame is h =
    with_form (dot_form (out-Expr rhs)) (position_of rhs) at options None frame (last_at false (out-Expr rhs) at frame is h) tt
dot_at true None rhs options at frame is h =
    with_form (dot_form (out-Expr rhs)) (position_of rhs) at options None frame (last_at true (out-Expr rhs) at frame is h) tt

-- where what stands behind an operator may run there is a link
link_at : (form : ExprLayer) (frame : Frame) → IsTrue (behind_resolves form frame) → LinkResolves (link_of form) frame
link_at (layer.Dot lhs rhs options pos) frame h =
    dot_at (breaks options) (first_in (out-Expr rhs)) rhs options pos frame refl
    (subst (λ (s : walk.Seen sound). IsTrue (walk.found_behind_dot sound (ends_chain options) s.link pos frame))
    (resolves-expr rhs (out-Expr rhs) refl) h)
link_at (layer.Index lhs rhs options pos) frame h =
    index_resolves (breaks options) (first_in (out-Expr rhs)) rhs options pos frame refl
    (subst (λ (s : walk.Seen sound). IsTrue (walk.found_behind_bracket sound (ends_chain options) s.link (tests_of rhs).value frame))
    (resolves-expr rhs (out-Expr rhs) refl) h)
link_at _ frame h = cc

pub link_resolves : (form : ExprLayer) (frame : Frame) (o : Option Link) → link_of form ≡ o → IsTrue (behind_resolves form frame) →
    LinkResolves o frame
link_resolves form frame o is h = subst (λ (x : Option Link). LinkResolves x frame) is (link_at form frame h)

-- there is one
some_link : (form : ExprLayer) (frame : Frame) (o : Option Link) → link_of form ≡ o → LinkResolves o frame →
    (link : Link) × (link_of form ≡ Some link)
some_link form frame None is h = absurd h
some_link form frame (Some link) is h = (link, is)

pub has_link : (form : ExprLayer) (frame : Frame) → IsTrue (behind_resolves form frame) → (link : Link) × (link_of form ≡ Some link)
has_link form frame h = some_link form frame (link_of form) refl (link_at form frame h)

-- ---- the last link

-- whether a chain ends in a method
abbrev pub ends_in_method : ExprLayer → Bool
ends_in_method (layer.Dot lhs rhs options pos) = walk.method_ends sound (ends_chain options) (tests_of rhs).link
ends_in_method (layer.Index lhs rhs options pos) = walk.index_ends sound (ends_chain options) (tests_of rhs).link
ends_in_method _ = false

abbrev MayEndIn : Option LinkForm → Type 0
MayEndIn None = ⊤
MayEndIn (Some form) = MayEnd true form

-- a link that is assigned to is no method
abbrev Ends : LinkForm → (behind : Option ExprLayer) → Type 0
Ends form None = MayEnd true form
Ends form (Some rest) = ends_in_method rest ≡ false

abbrev LinkEnds : Option Link → Type 0
LinkEnds None = ⊤
LinkEnds (Some link) = Ends link.form link.behind

goes_on_index : (l : ExprLayer) (first : Expr) → first_in l ≡ Some first → walk.index_ends sound false (level l).link ≡ ends_in_method l
goes_on_index (layer.Dot lhs rhs options pos) first is = refl
goes_on_index (layer.Index lhs rhs options pos) first is = refl
goes_on_index _ first is = cc

goes_on_dot : (l : ExprLayer) (first : Expr) → first_in l ≡ Some first → walk.method_ends sound false (level l).link ≡ ends_in_method l
goes_on_dot (layer.Dot lhs rhs options pos) first is = refl
goes_on_dot (layer.Index lhs rhs options pos) first is = refl
goes_on_dot _ first is = cc

index_ends : (broken : Bool) (first : Option Expr) (rhs : Expr) (options : ASTFlags) (at : Position) → first_in (out-Expr rhs) ≡ first →
    walk.index_ends sound broken (level (out-Expr rhs)).link ≡ false → LinkEnds (Some (index_link broken first rhs options at))
index_ends false (Some first) rhs options at is clear = sym (goes_on_index (out-Expr rhs) first is) ∙ clear
index_ends false None rhs options at is clear = tt
index_ends true first rhs options at is clear = tt

last_ends : (ends : Bool) (l : ExprLayer) → walk.method_ends sound ends (level l).link ≡ false → MayEndIn (dot_form l)
last_ends true (layer.MethodCall call pos) clear = cc
last_ends false (layer.MethodCall call pos) clear = cc
last_ends ends _ clear = tt

form_ends : (form : Option LinkForm) (rest_at at : Position) (options : ASTFlags) → MayEndIn form →
    LinkEnds (dot_link_with form rest_at at options None)
form_ends None rest_at at options may = tt
form_ends (Some form) rest_at at options may = may

rest_ends : (form : Option LinkForm) (rest_at at : Position) (options : ASTFlags) (rest : ExprLayer) → ends_in_method rest ≡ false →
    LinkEnds (dot_link_with form rest_at at options (Some rest))
rest_ends None rest_at at options rest clear = tt
rest_ends (Some form) rest_at at options rest clear = clear

dot_ends : (broken : Bool) (first : Option Expr) (rhs : Expr) (options : ASTFlags) (at : Position) → first_in (out-Expr rhs) ≡ first →
    walk.method_ends sound broken (level (out-Expr rhs)).link ≡ false → LinkEnds (dot_link broken first rhs options at)
dot_ends false (Some first) rhs options at is clear = rest_ends (dot_form (out-Expr first)) (position_of rhs) at options (out-Expr rhs)
    (sym (goes_on_dot (out-Expr rhs) first is) ∙ clear)
dot_ends true (Some first) rhs options at is clear = tt
dot_ends false None rhs options at is clear =
    form_ends (dot_form (out-Expr rhs)) (position_of rhs) at options (last_ends false (out-Expr rhs) clear)
dot_ends true None rhs options at is clear =
    form_ends (dot_form (out-Expr rhs)) (position_of rhs) at options (last_ends true (out-Expr rhs) clear)

link_ends : (form : ExprLayer) → ends_in_method form ≡ false → LinkEnds (link_of form)
link_ends (layer.Dot lhs rhs options pos) clear =
    dot_ends (breaks options) (first_in (out-Expr rhs)) rhs options pos refl
    (subst (λ (s : walk.Seen sound). walk.method_ends sound (ends_chain options) s.link ≡ false) (resolves-expr rhs
    (out-Expr rhs) refl) clear)
link_ends (layer.Index lhs rhs options pos) clear =
    index_ends (breaks options) (first_in (out-Expr rhs)) rhs options pos refl
    (subst (λ (s : walk.Seen sound). walk.index_ends sound (ends_chain options) s.link ≡ false) (resolves-expr rhs
    (out-Expr rhs) refl) clear)
link_ends _ clear = tt

-- ---- a chain walks

-- one that is assigned to does not end in a method
abbrev pub MayBe : (assigned : Bool) → ExprLayer → Type 0
MayBe true form = ends_in_method form ≡ false
MayBe false form = ⊤

abbrev EndsBy : (assigned : Bool) → LinkForm → (behind : Option ExprLayer) → Type 0
EndsBy true form behind = Ends form behind
EndsBy false form behind = ⊤

ends_by : (assigned : Bool) (form : ExprLayer) (link : Link) → link_of form ≡ Some link → MayBe assigned form →
    EndsBy assigned link.form link.behind
ends_by true form link is may = subst (λ (x : Option Link). LinkEnds x) is (link_ends form may)
ends_by false form link is may = tt

end_of : (assigned : Bool) (form : LinkForm) → EndsBy assigned form None → MayEnd assigned form
end_of true form may = may
end_of false form may = tt

rest_of : (assigned : Bool) (form : LinkForm) (rest : ExprLayer) → EndsBy assigned form (Some rest) → MayBe assigned rest
rest_of true form rest clear = clear
rest_of false form rest clear = tt

module _ (assigned : Bool) (frame : Frame) where
  -- a chain that is shorter walks
  abbrev Shorter : ℕ → Type 0
  Shorter n = (rest : ExprLayer) → 1 + links rest ≤ n → IsTrue (behind_resolves rest frame) → MayBe assigned rest → MayWalk assigned rest

  walks_by : (form : ExprLayer) (link : Link) (behind : Option ExprLayer) → link_of form ≡ Some link → link.behind ≡ behind →
      RestResolves behind frame → EndsBy assigned link.form behind → Shorter (links form) → MayWalk assigned form
  walks_by form link None is alone rest ends shorter =
      record { count = length (asked_by link.form); walks = at_end is alone (end_of assigned link.form ends) }
  walks_by form link (Some rest) is on resolves ends shorter =
      let less : 1 + links rest ≤ links form = subst (λ (o : Option ExprLayer). left_by o ≤ links form) on (fewer_behind form link is) in
      let further = shorter rest less resolves (rest_of assigned link.form rest ends) in
      record { count = length (asked_by link.form) + further.count; walks = goes_on is on further.walks }

  walks_at : (form : ExprLayer) (o : Option Link) → link_of form ≡ o → LinkResolves o frame → MayBe assigned form →
      Shorter (links form) → MayWalk assigned form
  walks_at form None is clear may shorter = absurd clear
  walks_at form (Some link) is resolves may shorter =
      walks_by form link link.behind is refl resolves.1 (ends_by assigned form link is may) shorter

  within : (n : ℕ) (form : ExprLayer) → links form ≤ n → IsTrue (behind_resolves form frame) → MayBe assigned form → MayWalk assigned form
  within zero form le h may = walks_at form (link_of form) refl (link_at form frame h) may
      (λ rest less resolves ends. absurd (omega (arith, less, le)))
  within (suc n) form le h may = walks_at form (link_of form) refl (link_at form frame h) may
      (λ rest less resolves ends. within n rest (omega (arith, less, le)) resolves ends)

  pub may_walk : (form : ExprLayer) → IsTrue (behind_resolves form frame) → MayBe assigned form → MayWalk assigned form
  may_walk form h may = within (links form) form (omega arith) h may

-- ---- the left side of an assignment

placed : (place b : Bool) → IsTrue (if place then b else (false && b)) → (place ≡ true) × IsTrue b
placed true b h = (refl, h)
placed false b h = (cc, cc)

not_true : (b : Bool) → IsTrue (not b) → b ≡ false
not_true true h = cc
not_true false h = refl

no_chain_root : (place : Bool) (first behind : walk.Finds sound) (named : Option (walk.Finds sound)) (ends : Bool) →
    walk.is_root sound place (walk.GoesOn first named behind ends) ≡ true → ⊥
no_chain_root true first behind named ends is = cc
no_chain_root false first behind named ends is = cc

starts_at : (l : ExprLayer) (frame : Frame) → walk.is_root sound (level l).is_place (level l).link ≡ true →
    IsTrue ((level l).value frame) → StartsFrom true l
starts_at (layer.Variable offset name namespace pos) frame is h = tt
starts_at (layer.ThisPtr pos) frame is h = tt
starts_at (layer.Stmt block) frame is h =
    let none : false ≡ true = subst (λ (b : Bool). walk.is_root sound b (walk.seen_block sound block).link ≡ true) (block_no_place block) is
    in cc
starts_at (layer.Dot lhs rhs options pos) frame is h = no_chain_root (level (layer.Dot lhs rhs options pos)).is_place
    (tests_of lhs).value (behind_resolves (layer.Dot lhs rhs options pos)) (walk.named_in sound (tests_of lhs).link)
    (ends_in_method (layer.Dot lhs rhs options pos)) is
starts_at (layer.Index lhs rhs options pos) frame is h = no_chain_root (level (layer.Index lhs rhs options pos)).is_place
    (tests_of lhs).value (behind_resolves (layer.Index lhs rhs options pos)) (walk.named_in sound (tests_of lhs).link)
    (ends_in_method (layer.Index lhs rhs options pos)) is
starts_at _ frame is h = cc

-- a chain that may be assigned to: its root is a variable or `this`, all of it may run, and it ends in no method
pub record TargetParts (root : Expr) (form : ExprLayer) (frame : Frame) : Type 0 where
  pub root_runs : IsTrue (resolves_expr root frame)
  pub behind_runs : IsTrue (behind_resolves form frame)
  pub starts : StartsFrom true (out-Expr root)
  pub ends : ends_in_method form ≡ false

chain_place : (root : Expr) (form : ExprLayer) (frame : Frame) →
    (walk.is_root sound (tests_of root).is_place (tests_of root).link && not (ends_in_method form)) ≡ true →
    IsTrue (resolves_expr root frame) × IsTrue (behind_resolves form frame) → TargetParts root form frame
chain_place root form frame place parts =
    let split = both (walk.is_root sound (tests_of root).is_place (tests_of root).link) (not (ends_in_method form)) place in
    record {
      root_runs = parts.0;
      behind_runs = parts.1;
      starts = starts_at (out-Expr root) frame
          (subst (λ (s : walk.Seen sound). walk.is_root sound s.is_place s.link ≡ true) (resolves-expr root (out-Expr root) refl) split.0)
          (subst (λ (s : walk.Seen sound). IsTrue (s.value frame)) (resolves-expr root (out-Expr root) refl) parts.0);
      ends = not_true (ends_in_method form) split.1;
    }

target_at : (l : ExprLayer) (root : Expr) (frame : Frame) → first_in l ≡ Some root → (level l).is_place ≡ true →
    IsTrue ((level l).value frame) → TargetParts root l frame
target_at (layer.Dot lhs rhs options pos) root frame is place h =
    let same : lhs ≡ root = cc in
    subst (λ (e : Expr). TargetParts e (layer.Dot lhs rhs options pos) frame) same
    (chain_place lhs (layer.Dot lhs rhs options pos) frame place (root_at (layer.Dot lhs rhs options pos) lhs frame refl h))
target_at (layer.Index lhs rhs options pos) root frame is place h =
    let same : lhs ≡ root = cc in
    subst (λ (e : Expr). TargetParts e (layer.Index lhs rhs options pos) frame) same
    (chain_place lhs (layer.Index lhs rhs options pos) frame place (root_at (layer.Index lhs rhs options pos) lhs frame refl h))
target_at _ root frame is place h = cc

pub target_parts : (e root : Expr) (frame : Frame) → first_in (out-Expr e) ≡ Some root →
    IsTrue (target_resolves (tests_of e) frame) → TargetParts root (out-Expr e) frame
target_parts e root frame is h =
    let parts = placed (tests_of e).is_place ((tests_of e).value frame) h in
    target_at (out-Expr e) root frame is
    (subst (λ (s : walk.Seen sound). s.is_place ≡ true) (resolves-expr e (out-Expr e) refl) parts.0)
    (subst (λ (s : walk.Seen sound). IsTrue (s.value frame)) (resolves-expr e (out-Expr e) refl) parts.1)

-- what may be assigned to and is neither a variable nor `this` is a chain
abbrev pub IsNoName : ExprLayer → Type 0
IsNoName (layer.Variable offset name namespace pos) = ⊥
IsNoName (layer.ThisPtr pos) = ⊥
IsNoName _ = ⊤

no_name_at : (l : ExprLayer) → ((offset : Option NonZeroUsize) (name : Name) (namespace : Namespace) (pos : Position) →
    l ≡ layer.Variable offset name namespace pos → ⊥) → ((pos : Position) → l ≡ layer.ThisPtr pos → ⊥) → IsNoName l
no_name_at (layer.Variable offset name namespace pos) clear bare = clear offset name namespace pos refl
no_name_at (layer.ThisPtr pos) clear bare = bare pos refl
no_name_at _ clear bare = tt

pub no_name : (e : Expr) → ((offset : Option NonZeroUsize) (name : Name) (namespace : Namespace) (pos : Position) →
    e ≡ exprs.Variable offset name namespace pos → ⊥) → ((pos : Position) → e ≡ exprs.ThisPtr pos → ⊥) → IsNoName (out-Expr e)
no_name e clear bare = no_name_at (out-Expr e)
    (λ offset name namespace pos is. clear offset name namespace pos
    (sym (roll-out-Expr e) ∙ ap roll-Expr is ∙ exprs.rolls-Variable offset name namespace pos))
    (λ pos is. bare pos (sym (roll-out-Expr e) ∙ ap roll-Expr is ∙ exprs.rolls-ThisPtr pos))

left_at : (l : ExprLayer) (frame : Frame) → IsNoName l → (level l).is_place ≡ true → IsTrue ((level l).value frame) →
    is_some (first_in l) ≡ true
left_at (layer.Variable offset name namespace pos) frame none place h = absurd none
left_at (layer.Dot lhs rhs options pos) frame none place h = refl
left_at (layer.Index lhs rhs options pos) frame none place h = refl
left_at (layer.ThisPtr pos) frame none place h = absurd none
left_at (layer.Stmt block) frame none place h = let clear = block_no_place block in cc
left_at _ frame none place h = cc

pub left_chain : (e : Expr) (frame : Frame) → IsNoName (out-Expr e) → IsTrue (target_resolves (tests_of e) frame) →
    is_some (first_in (out-Expr e)) ≡ true
left_chain e frame none h =
    let parts = placed (tests_of e).is_place ((tests_of e).value frame) h in
    left_at (out-Expr e) frame none
    (subst (λ (s : walk.Seen sound). s.is_place ≡ true) (resolves-expr e (out-Expr e) refl) parts.0)
    (subst (λ (s : walk.Seen sound). IsTrue (s.value frame)) (resolves-expr e (out-Expr e) refl) parts.1)
