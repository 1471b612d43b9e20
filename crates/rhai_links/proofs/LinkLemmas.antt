-- The links of a chain: a chain that walks has one, and what stands behind it walks too, with fewer links.
use Rattle.std.proofs.Common.{arith, refl, subst}
use Rattle.std.specs.Prelude.{◌≡◌, ◌≤◌, ⊤, ℕ, ◌+◌, Bool, true, false, length, Option, Some, None}
use Rattle.rhai_tree.specs.declared.position.Position.{Position}
use Rattle.rhai_tree.specs.declared.flags.ASTFlags.{ASTFlags}
use Rattle.rhai_tree.specs.declared.expr.Expr.{Expr, out-Expr}
use Rattle.rhai_tree.specs.declared.expr.Expr.TheOpen as layer
use Rattle.rhai_tree.specs.Layers.{ExprLayer}
use Rattle.rhai_tree.specs.Positions.{position_of}
use Rattle.rhai_tree.specs.Links.{left_by, links, links_in}
use Rattle.rhai_tree.proofs.Links.{links_same}
use Rattle.rhai_machine.specs.language.Links.{Link, LinkForm, asked_by, breaks, dot_form, dot_link, dot_link_with, first_in, index_link}
use Rattle.rhai_machine.specs.language.Links.{link_of}
use Rattle.rhai_links.specs.Chains.{at_end, goes_on, BehindWalks, MayEnd, Walks}

-- ---- a chain that walks

-- it has a link
pub has_link : (assigned : Bool) (form : ExprLayer) (count : ℕ) → Walks assigned form count → link_of form ≡ None → ⊥
has_link assigned _ _ (at_end is none may) absent = cc
has_link assigned _ _ (goes_on is some rest) absent = cc

ends_behind : (assigned : Bool) (form : LinkForm) (behind : Option ExprLayer) → behind ≡ None → MayEnd assigned form →
    BehindWalks assigned form behind 0
ends_behind assigned form None is may = (refl, may)
ends_behind assigned form (Some rest) is may = cc

goes_behind : (assigned : Bool) (form : LinkForm) (behind : Option ExprLayer) (rest : ExprLayer) (count : ℕ) → behind ≡ Some rest →
    Walks assigned rest count → BehindWalks assigned form behind count
goes_behind assigned form None rest count is walks = cc
goes_behind assigned form (Some next) rest count is walks =
    let same : rest ≡ next = cc in subst (λ (x : ExprLayer). Walks assigned x count) same walks

-- and what stands behind that walks too, with so many values beside those that the link asks for
pub walks_behind : (assigned : Bool) (form : ExprLayer) (count : ℕ) (link : Link) → Walks assigned form count → link_of form ≡ Some link →
    (n : ℕ) × BehindWalks assigned link.form link.behind n × (count ≡ length (asked_by link.form) + n)
walks_behind assigned _ _ link (at_end {link = first} is none may) same =
    let alike : first ≡ link = cc in
    subst (λ (x : Link). (n : ℕ) × BehindWalks assigned x.form x.behind n × (length (asked_by first.form) ≡ length (asked_by x.form) + n))
    alike (0, ends_behind assigned first.form first.behind none may, omega arith)
walks_behind assigned _ _ link (goes_on {rest = rest} {link = first} {count = count} is some walks) same =
    let alike : first ≡ link = cc in
    subst (λ (x : Link). (n : ℕ) × BehindWalks assigned x.form x.behind n
    × (length (asked_by first.form) + count ≡ length (asked_by x.form) + n))
    alike (count, goes_behind assigned first.form first.behind rest count some walks, refl)

-- ---- how many links are left

abbrev Within : Option Link → ℕ → Type 0
Within (Some link) n = left_by link.behind ≤ n
Within None n = ⊤

index_within : (broken : Bool) (first : Option Expr) (rhs : Expr) (options : ASTFlags) (at : Position) →
    left_by (index_link broken first rhs options at).behind ≤ 1 + links_in rhs
index_within false (Some first) rhs options at = omega (arith, links_same rhs)
index_within false None rhs options at = omega arith
index_within true first rhs options at = omega arith

form_within : (form : Option LinkForm) (rest_at at : Position) (options : ASTFlags) (behind : Option ExprLayer) (n : ℕ) →
    left_by behind ≤ n → Within (dot_link_with form rest_at at options behind) n
form_within (Some form) rest_at at options behind n le = le
form_within None rest_at at options behind n le = tt

dot_within : (broken : Bool) (first : Option Expr) (rhs : Expr) (options : ASTFlags) (at : Position) →
    Within (dot_link broken first rhs options at) (1 + links_in rhs)
dot_within false (Some first) rhs options at = form_within (dot_form (out-Expr first)) (position_of rhs) at options
    (Some (out-Expr rhs)) (1 + links_in rhs) (omega (arith, links_same rhs))
dot_within true (Some first) rhs options at = tt
dot_within false None rhs options at = form_within (dot_form (out-Expr rhs)) (position_of rhs) at options None (1 + links_in rhs)
    (omega arith)
dot_within true None rhs options at = form_within (dot_form (out-Expr rhs)) (position_of rhs) at options None (1 + links_in rhs)
    (omega arith)

within : (form : ExprLayer) → Within (link_of form) (links form)
within (layer.Index lhs rhs options pos) = index_within (breaks options) (first_in (out-Expr rhs)) rhs options pos
within (layer.Dot lhs rhs options pos) = dot_within (breaks options) (first_in (out-Expr rhs)) rhs options pos
within _ = tt

-- fewer are left behind a link than there are
pub fewer_behind : (form : ExprLayer) (link : Link) → link_of form ≡ Some link → left_by link.behind ≤ links form
fewer_behind form link is = subst (λ (x : Option Link). Within x (links form)) is (within form)
