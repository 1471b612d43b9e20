-- A chain as the code walks it: its links, and what they are given.
use Rattle.std.specs.Prelude.{◌≡◌, ⊤, ℕ, ◌+◌, Bool, true, List, length, Option, Some, None}
use Rattle.std.specs.Option.{option_copied, option_map}
use Rattle.rhai_tree.specs.declared.expr.Expr.{Expr, out-Expr}
use Rattle.rhai_tree.specs.Layers.{ExprLayer}
use Rattle.rhai_values.specs.declared.base.value.Dynamic.{Dynamic}
use Rattle.rhai_machine.specs.language.Links.{Link, LinkForm, AtIndex, AtProperty, AtMethod, asked_by, link_of}
use Rattle.rhai_machine.specs.language.Frames.{Chain, NewValue}
use Rattle.rhai_links.specs.declared.chain.NewValue.{NewValue as CodeValue}
use Rattle.rhai_links.specs.declared.links.Link.{Link as CodeLink}
use Rattle.rhai_links.specs.declared.links.LinkForm.{LinkForm as CodeForm}
use Rattle.rhai_links.specs.declared.links.LinkForm.TheVariants as form

-- what a link of the code is, as the machine has it
abbrev pub form_seen : CodeForm → LinkForm
form_seen (form.Index index) = AtIndex index.now
form_seen (form.Property name pos) = AtProperty name.now pos
form_seen (form.Method call pos) = AtMethod call.now.name call.now.args pos

-- a link of the code, as the machine has it
abbrev pub link_seen : CodeLink → Link
link_seen link = record {
  form = form_seen link.form;
  at = link.at;
  rest_at = link.rest_at;
  stops_at_unit = link.stops_at_unit;
  behind = option_map out-Expr (option_copied link.behind);
}

-- a link that a chain may end in: one that is assigned to is no method
abbrev pub MayEnd : (assigned : Bool) → LinkForm → Type 0
MayEnd true (AtMethod name args at) = ⊥
MayEnd _ form = ⊤

-- A chain that is assigned to or not has a link at each operator, may end in its last, and its links ask for so many values.
pub data Walks (assigned : Bool) : ExprLayer → (count : ℕ) → Type 0 where
  at_end : {form : ExprLayer} {link : Link} → link_of form ≡ Some link → link.behind ≡ None → MayEnd assigned link.form →
      Walks assigned form (length (asked_by link.form))
  goes_on : {form rest : ExprLayer} {link : Link} {count : ℕ} → link_of form ≡ Some link → link.behind ≡ Some rest →
      Walks assigned rest count → Walks assigned form (length (asked_by link.form) + count)

-- what stands behind a link: a chain that walks, with so many values, or nothing, where the chain may end in it
abbrev pub BehindWalks : (assigned : Bool) → LinkForm → (behind : Option ExprLayer) → (count : ℕ) → Type 0
BehindWalks assigned form None count = (count ≡ 0) × MayEnd assigned form
BehindWalks assigned form (Some rest) count = Walks assigned rest count

module _ {H : Type 0} where
  -- what is assigned, as the machine has it
  abbrev pub new_value : CodeValue H → NewValue H
  new_value new = record { op = new.op; value = new.value }

  -- what is assigned, if anything is, as the machine has it
  abbrev pub new_of : Option (CodeValue H) → Option (NewValue H)
  new_of new = option_map new_value new

  -- the chain of a walk
  abbrev pub chain_at : (root : Expr) → (rest : ExprLayer) → (args : List (Dynamic H)) → Option (CodeValue H) → (in_place : Bool) →
      Chain H
  chain_at root rest args new in_place = record { root = root; new = new_of new; rest = rest; args = args; in_place = in_place }
