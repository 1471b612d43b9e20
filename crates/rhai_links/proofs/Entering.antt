-- The focus behind a handle: its cell is held meanwhile, and gets what has become of its value.
use Rattle.std.proofs.Common.{◌≡◌, ℕ, zero, suc, Bool, true, false, List, [], ◌∷◌, Option, Some, None, Result, Ok, Err, refl, sym, ap, ◌∙◌}
use Rattle.std.specs.Prelude.{is_some}
use Rattle.std.specs.Option.{unwrap_or}
use Rattle.rhai_tree.specs.declared.position.Position.{Position}
use Rattle.rhai_values.specs.declared.base.value.CellId.{CellId}
use Rattle.rhai_values.specs.declared.base.value.Dynamic.{Dynamic}
use Rattle.rhai_values.specs.declared.base.value.Union.{Union}
use Rattle.rhai_values.specs.declared.base.value.Union.TheVariants as value
use Rattle.rhai_values.specs.Cells.{value_of_cell, with_held, with_value}
use Rattle.rhai_errors.specs.declared.error.EvalAltResult.{EvalAltResult}
use Rattle.rhai_spots.specs.Paths.{ToCell}
use Rattle.rhai_machine.specs.machine.Point.{after}
use Rattle.rhai_machine.specs.machine.Memory.{here, next, ◌⨾◌, Leads}
use Rattle.rhai_machine.specs.language.Setting.{Rules, cut}
use Rattle.rhai_machine.specs.language.State.{Local, State}
use Rattle.rhai_machine.specs.language.Values.{Cells, is_handle, through_union, used}
use Rattle.rhai_machine.specs.language.Links.{Link}
use Rattle.rhai_machine.specs.language.Frames.{Chain, Frame, Core, ended_or_changed, on_value, StepDown}
use Rattle.rhai_machine.specs.language.Handles.{entered, entered_by}
use Rattle.rhai_machine.specs.language.Runs.{at, Goes}
use Rattle.rhai_machine.specs.language.Language.{machine}
use Rattle.rhai_steps.specs.Follows.{Follows, Does, FindsNoMemory}
use Rattle.rhai_links.specs.Walking.{entered_core, Enters, inside_core, Leaves}
use Rattle.rhai_links.proofs.Alike.{follows_alike}

module _ {H : Type 0} where
  -- a state with this focus, and these cells
  abbrev pub standing : {S : Type 0} → Dynamic H → Cells H → State S H → State S H
  standing v cells s = record s { local = record s.local { focus = Some v; around = record s.local.around { cells = cells } } }

  -- ---- the cell of a handle

  -- a value that was taken and goes back leaves the cells as they were
  as_they_were : (cells : Cells H) (n : ℕ) (v : Dynamic H) → value_of_cell cells n ≡ Some v → with_value (with_held cells n) n v ≡ cells
  as_they_were [] n v there = refl
  as_they_were (Some w ∷ cells) zero v there = ap (λ o. o ∷ cells) (sym there)
  as_they_were (None ∷ cells) zero v there = cc
  as_they_were (cell ∷ cells) (suc n) v there = ap (λ rest. cell ∷ rest) (as_they_were cells n v there)

  -- what is kept of the focus says whether it was a handle
  pub entered_handle : (above : Option (CellId × Dynamic H)) (focus inner : Dynamic H) (cells taken : Cells H) →
      Enters above focus inner cells taken → is_some above ≡ is_handle focus.value
  entered_handle None focus inner cells taken e = sym e.0
  entered_handle (Some (id, handle)) focus inner cells taken e = sym (ap (λ (u : Union H). is_handle u) e.0)

  -- what is no handle is seen as it is
  pub seen_itself : (cells : Cells H) (u : Union H) (v : Dynamic H) (at : Position) → is_handle u ≡ false →
      through_union cells u v at ≡ Ok v
  seen_itself cells (value.Cell id) v at plain = cc
  seen_itself cells _ v at plain = refl

  -- and is not entered
  pub not_entered : (u : Union H) (inner : Dynamic H) (go : List (Frame H) → Local H → Core H) (k : List (Frame H)) (l : Local H) →
      is_handle u ≡ false → entered_by u inner go k l ≡ go k l
  not_entered (value.Cell id) inner go k l plain = cc
  not_entered _ inner go k l plain = refl

module _ {S H : Type 0} (rules : Rules S H) where
  -- a result comes up out of a cell, whose value goes back
  up_from_cell : (r : Result (Dynamic H × Bool) (EvalAltResult H)) (focus worked : Dynamic H) (n : ℕ) (left : Cells H) (new : State S H)
      (k : List (Frame H)) →
      Leads (machine rules) (cut rules) (at (ended_or_changed r) (StepDown focus (ToCell n) ∷ k) (standing worked left new))
      (at (ended_or_changed r) k (standing focus (with_value left n worked) new))
  unfolding after
  up_from_cell (Ok (v, true)) focus worked n left new k = next here
  up_from_cell (Ok (v, false)) focus worked n left new k = next here
  up_from_cell (Err e) focus worked n left new k = next here

  module _ (link : Link) (chain : Chain H) (old new : State S H) (r : Result (Dynamic H × Bool) (EvalAltResult H)) where
    abbrev inside : (focus inner : Dynamic H) → List (Frame H) → Local H → Core H
    inside focus inner = inside_core rules.setting link (is_handle focus.value) inner chain

    -- where the machine stands once the focus is entered
    starts_inside : (focus inner : Dynamic H) (id : CellId) (cells : Cells H) (k : List (Frame H)) → focus.value ≡ value.Cell id →
        value_of_cell cells id.number ≡ Some inner →
        entered_core rules.setting link chain k (standing focus cells old).local
        ≡ inside focus inner (StepDown focus (ToCell id.number) ∷ k) (standing inner (with_held cells id.number) old).local
    starts_inside focus inner id cells k handle there =
        ap (λ (u : Union H). on_value (through_union cells u focus link.at)
        (λ v. entered_by u v (inside focus v) k (standing focus cells old).local) k (standing focus cells old).local) handle
        ∙ ap (λ (o : Option (Dynamic H)). on_value (used [] link.at o)
        (λ v. entered_by (value.Cell id) v (inside focus v) k (standing focus cells old).local) k (standing focus cells old).local) there

    starts_itself : (focus : Dynamic H) (cells : Cells H) (k : List (Frame H)) → is_handle focus.value ≡ false →
        entered_core rules.setting link chain k (standing focus cells old).local ≡ inside focus focus k (standing focus cells old).local
    starts_itself focus cells k plain =
        ap (λ (seen : Result (Dynamic H) (EvalAltResult H)). on_value seen
        (λ v. entered v (inside focus v) k (standing focus cells old).local) k (standing focus cells old).local)
        (seen_itself cells focus.value focus link.at plain)
        ∙ not_entered focus.value focus (inside focus focus) k (standing focus cells old).local plain

    runs_inside : (focus inner worked : Dynamic H) (id : CellId) (cells left : Cells H) → focus.value ≡ value.Cell id →
        value_of_cell cells id.number ≡ Some inner →
        Follows rules ended_or_changed (inside focus inner) (standing inner (with_held cells id.number) old) r (standing worked left new) →
        Follows rules ended_or_changed (entered_core rules.setting link chain) (standing focus cells old) r
        (standing focus (with_value left id.number worked) new)
    unfolding Goes
    runs_inside focus inner worked id cells left handle there (Does runs) = Does (λ k.
        rw (starts_inside focus inner id cells k handle there)
        (runs (StepDown focus (ToCell id.number) ∷ k) ⨾ up_from_cell r focus worked id.number left new k))
    runs_inside focus inner worked id cells left handle there (FindsNoMemory pos is stays) = FindsNoMemory pos is
        (ap (λ (s : State S H). standing focus (with_value s.local.around.cells id.number (unwrap_or s.local.focus focus)) s) stays
        ∙ ap (λ (all : Cells H). standing focus all old) (as_they_were cells id.number inner there))

    -- the focus is entered and left
    pub enters : (above : Option (CellId × Dynamic H)) (focus inner worked end : Dynamic H) (cells taken left put : Cells H) →
        Enters above focus inner cells taken →
        Follows rules ended_or_changed (inside focus inner) (standing inner taken old) r (standing worked left new) →
        Leaves above worked end left put →
        Follows rules ended_or_changed (entered_core rules.setting link chain) (standing focus cells old) r (standing end put new)
    enters None focus inner worked end cells taken left put e follows l = rw (l.0, l.1)
        (follows_alike rules (inside focus focus) (entered_core rules.setting link chain) (standing focus cells old) (standing
        worked left new) r
        (λ k. starts_itself focus cells k e.0) (rw (e.1.0, e.1.1) at follows))
    enters (Some (id, handle)) focus inner worked end cells taken left put e follows l = rw (l.0, l.1, e.1.0)
        (runs_inside focus inner worked id cells left e.0 e.1.1.0 (rw e.1.1.1 at follows))
