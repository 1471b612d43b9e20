-- How `Table` stores its values, so that a type may contain maps of itself: the shape is the keys and a list, with a hole for each value.
use mathlib.Core.Path.{◌≡◌, refl, sym, ap, ◌∙◌}
use mathlib.Core.HLevel.{×_prop}
use mathlib.Core.Bool.{Bool-set}
use mathlib.Core.List.{List, []}
use mathlib.Core.Former.{Former, this, const, list as former_list, pair, via, children}
use native.Mathlib.Nat.{ℕ_set}
use lib.ListN.{length-map}
use Rattle.std.specs.Prelude.{ℕ}
use base.Stored.{gcons, code_map, coded_list, coded_ℕ}
use denote.RattleType.{RattleType}
use denote.HoleLaws.{Alike}
use denote.HolePlaces.{Recodes, struct_places, laid, stays}
use denote.Hole.Carrier.{listed, list-listed}
use denote.Hole.Fix.{over}
use denote.Param.Weighed.{Weighed, w_list, w_pair, w_const}
use denote.Model.Placed.{view_places}
use Rattle.rhai_tree.specs.formers.items.Items as items
use Rattle.rhai_tree.specs.contracts.items.Items as list
use Rattle.rhai_tree.specs.contracts.shared.Shared as shared
use Rattle.rhai_tree.specs.contracts.text.Text as text
use Rattle.rhai_tree.specs.declared.table.Table.TheInside.{Inside}
use Rattle.rhai_tree.specs.declared.table.Table.TheView.{view, invariant}
use Rattle.rhai_tree.specs.contracts.table.Table as C
use Rattle.rhai_tree.specs.contracts.table.Table.TheInside as I

-- the shape of a `Table` over a shape: the keys, and a list of it
abbrev pub the_former : Former {0} → Former {0}
the_former g = pair (const (List (List ℕ))) (former_list g)

-- the measure of a `Table`: the largest of its values
abbrev pub the_weighed : {g : Former {0}} → Weighed g → Weighed (the_former g)
the_weighed w = w_pair (w_const (List (List ℕ))) (w_list w)

pub the_empty : List (List ℕ) × List ⊥
the_empty = ([], [])

-- the fields, as that shape and its holes
abbrev stored : Former {0}
stored = via (the_former this) Inside (λ X a. (a.keys, a.values)) (λ X v. record { keys = v.0; values = v.1 }) (λ X a. refl) (λ X v. refl)

module _ (R S : RattleType) (h : R.Denot → S.Denot) where
  -- at two types of one layout the two lie alike in memory
  pub the_places : Alike R S h → Alike (C.the_row R) (C.the_row S) ((the_former this).map R.Denot S.Denot h)
  the_places a = view_places stored (the_former this) view (λ X Y k u. refl) (λ X u. refl) R.Denot S.Denot h (C.the_row R).coded
      (C.the_row S).coded
      (invariant R.Denot) (invariant S.Denot) (λ u. ×_prop (Bool-set _ _) (ℕ_set _ _)) (λ u. ×_prop (Bool-set _ _) (ℕ_set _ _))
      (λ u e. (e.0, e.1 ∙ sym (length-map u.values h))) (λ u e. (e.0, e.1 ∙ length-map u.values h))
      (over (I.the_row R)) (over (I.the_row S))
      (struct_places (I.the_type R) (I.the_type S) ((λ k. k), ((items.the_former this).map R.Denot S.Denot h, tt)) _ (λ d. refl) refl
      (stays (list.the_row (shared.the_row text.the_row)), (laid _ _ _ (items.the_places R S h a), tt)))

  -- and so do their codes
  pub the_codes_placed : Recodes R S h → Recodes (C.the_row R) (C.the_row S) ((the_former this).map R.Denot S.Denot h)
  the_codes_placed e d = ap (gcons ((coded_list (coded_list coded_ℕ)).code d.0))
      (sym (code_map R.coded.code S.coded.code h (λ x. sym (e x)) d.1))

-- the values of a `Table`, as a list
abbrev pub the_items : (X : Type 0) → List (List ℕ) × List X → List X
the_items X d = d.1

pub the_items_listed : (X : Type 0) (d : List (List ℕ) × List X) → listed _ (children (the_former this) X d) ≡ the_items X d
the_items_listed X d = list-listed X d.1
