-- The sample runs of the items of arrays and the entries of maps.
use Rattle.std.proofs.Common.{refl}
use Rattle.std.specs.Prelude.{ℕ, true, false, List, [], ◌∷◌, Option, Some, None, codes, negsuc}
use Rattle.rhai_tree.specs.declared.expr.Expr.TheVariants as expr
use Rattle.rhai_tree.specs.declared.token.Token.TheVariants.{Plus}
use Rattle.rhai_values.specs.declared.base.value.Union.TheVariants as kind
use Rattle.rhai_values.specs.Copy.{plain}
use Rattle.rhai_machine.specs.Types.{Dynamic, Expr, out-Expr}
use Rattle.rhai_machine.specs.machine.Machine.{Config}
use Rattle.rhai_spots.specs.Paths.{ToPlace}
use Rattle.rhai_spots.specs.declared.spot.Spot.TheVariants as spot
use Rattle.rhai_machine_samples.specs.Handles.{handle, one_cell}
use Rattle.rhai_machine.specs.language.Frames.{Control, NewValue, Frame, Core, core, StepDown, Argument, Back, CallArgument}
use Rattle.rhai_machine.specs.language.Frames.{FromEntry, ChainArguments, ToChain, Measured, Eval, Walk, ChainEnd, RootValue, chain_on}
use Rattle.rhai_machine_samples.specs.Trees.{column, int, var}
use Rattle.rhai_machine_samples.specs.Runs.{Table, entry, integer, nothing_but, unit}
use Rattle.rhai_machine_samples.specs.Data.{text, word}
use Rattle.rhai_machine_samples.specs.Items.{Items, SharedItems, item_by, item_in_handle, item_of_item, own_item, by_own_item}
use Rattle.rhai_machine_samples.specs.Entries.{Entries}
use Rattle.rhai_machine_samples.specs.Items.{safe_item, three, nested}
use Rattle.rhai_machine_samples.specs.Entries.{entry_named, inner_entry, safe_entry, safe_inner}
use Rattle.rhai_machine_samples.specs.Items.{fixed_array, index, array, first_of_handle}
use Rattle.rhai_machine_samples.specs.Entries.{fixed_map, k_map}
use Rattle.rhai_machine_samples.proofs.SampleRuns.{by_steps, stretch}
use Rattle.rhai_machine_samples.proofs.ChainRuns.{chained, asks, reads, sets, walks_in, standing_at, on_its_way, new_at, below, assigned}
use Rattle.rhai_machine_samples.proofs.ChainRuns.{focused}

module _ {S H : Type 0} (table : Table S H) (host : H → List ℕ) where
  -- the chain `a[0][1]` has its first index
  abbrev first_index : Option (NewValue H) → List (Frame H) → Config S H (Core H)
  first_index new k = asks table (codes "a") nested item_of_item (index 5 (int 3 0) (int 6 1)) new (integer 0 ∷ []) k 4

  -- the chain in the brackets of `a[a[0]]` is asked for, and is on its way
  abbrev own_frames : List (Frame H)
  own_frames = CallArgument (ToChain (chain_on (var 1 (codes "a")) (out-Expr by_own_item) None) None) [] (column 4) [] ∷ below 2

  abbrev own_asked : Config S H (Core H)
  own_asked = standing_at table (core (Argument own_item) own_frames (nothing_but (entry (codes "a")
      (array (integer 1 ∷ integer 7 ∷ [])) ∷ []))) 3

  abbrev own_chain : Control H → ℕ → Config S H (Core H)
  own_chain control count = standing_at table (core control (ChainEnd (Some (FromEntry 0)) None ∷ own_frames)
      (focused (entry (codes "a") (array (integer 1 ∷ integer 7 ∷ [])) ∷ []) (array (integer 1 ∷ integer 7 ∷ [])))) count

  -- the root of `[4, 2][1]` is evaluated, and then it is at its link
  abbrev root_array : Expr
  root_array = expr.Array (int 2 4 ∷ int 5 2 ∷ []) (column 1)

  abbrev literal_chain : Expr
  literal_chain = index 7 root_array (int 8 1)

  abbrev root_evaluated : Config S H (Core H)
  root_evaluated = standing_at table (core (Eval root_array)
      (RootValue (on_its_way false root_array literal_chain None (integer 1 ∷ [])) ∷ below 7) (nothing_but [])) 2

  abbrev literal_walks : Config S H (Core H)
  literal_walks = standing_at table (core (Walk (on_its_way false root_array literal_chain None (integer 1 ∷ [])))
      (ChainEnd None None ∷ below 7) (focused [] (array (integer 4 ∷ integer 2 ∷ [])))) 5

  pub items : Items table host
  items = record {
    read = stretch _ _ 9 _ (reads table (codes "a") three (item_by (int 3 1)) (integer 1 ∷ []) 3) (simp chained)
        (by_steps _ _ 12 (simp chained) refl);
    inner = stretch _ _ 10 _ (first_index None (below 2)) (simp chained)
        (stretch _ _ 5 _ (reads table (codes "a") nested item_of_item (integer 0 ∷ integer 1 ∷ []) 7) (simp chained)
        (by_steps _ _ 15 (simp chained) refl));
    by_chain = stretch _ _ 8 _ own_asked (simp chained) (stretch _ _ 6 _ (own_chain (Walk (on_its_way true (var 3 (codes "a")) own_item
        None (integer 0 ∷ []))) 5) (simp chained) (stretch _ _ 2 _ (own_chain (Back (integer 1)) 6) (simp chained)
        (stretch _ _ 4 _ (reads table (codes "a") (array (integer 1 ∷ integer 7 ∷ [])) by_own_item (integer 1 ∷ []) 7) (simp chained)
        (by_steps _ _ 12 (simp chained) refl))));
    stops = stretch _ _ 9 _ (reads table (codes "a") unit safe_item (integer 0 ∷ []) 3) (simp chained)
        (by_steps _ _ 12 (simp chained) refl);
    last = stretch _ _ 9 _ (reads table (codes "a") three (item_by (expr.IntegerConstant (negsuc 0) (column 3)))
        (plain (kind.Int (negsuc 0)) ∷ []) 3) (simp chained)
        (by_steps _ _ 12 (simp chained) refl);
    outside = stretch _ _ 9 _ (reads table (codes "a") three (item_by (int 3 3)) (integer 3 ∷ []) 3) (simp chained)
        (by_steps _ _ 12 (simp chained) refl);
    mismatch = stretch _ _ 9 _ (reads table (codes "a") three (item_by (text 3 (codes "x"))) (word (codes "x") ∷ []) 3) (simp chained)
        (by_steps _ _ 12 (simp chained) refl);
    set = stretch _ _ 10 _ (sets table (codes "a") three (item_by (int 3 0)) (new_at 6 None (integer 5)) (integer 0 ∷ []) 3)
        (simp chained) (by_steps _ _ 15 (simp chained) refl);
    inner_item = stretch _ _ 11 _ (first_index (new_at 9 None (integer 5)) assigned) (simp chained)
        (stretch _ _ 5 _ (sets table (codes "a") nested item_of_item (new_at 9 None (integer 5)) (integer 0 ∷ integer 1 ∷ []) 7)
        (simp chained) (by_steps _ _ 20 (simp chained) refl));
    raised = stretch _ _ 10 _ (sets table (codes "a") three (item_by (int 3 0)) (new_at 6 (Some Plus) (integer 1)) (integer 0 ∷ []) 3)
        (simp chained) (by_steps _ _ 15 (simp chained) refl);
    constant = stretch _ _ 10 _ (sets table (codes "a") fixed_array (item_by (int 3 0)) (new_at 6 None (integer 5)) (integer 0 ∷ []) 3)
        (simp chained) (by_steps _ _ 15 (simp chained) refl);
    cut = stretch _ _ 11 _ (first_index (new_at 9 None (integer 5)) assigned) (simp chained)
        (stretch _ _ 5 _ (sets table (codes "a") nested item_of_item (new_at 9 None (integer 5)) (integer 0 ∷ integer 1 ∷ []) 7)
        (simp chained) (by_steps _ _ 20 (simp chained) refl));
    of_value = stretch _ _ 8 _ root_evaluated (simp chained) (stretch _ _ 9 _ literal_walks (simp chained)
        (by_steps _ _ 12 (simp chained) refl));
    unknown = by_steps _ _ 16 (simp chained) refl;
    index_first = by_steps _ _ 20 (simp chained) refl;
    too_long = stretch _ _ 10 _ (sets table (codes "a") (array (integer 1 ∷ [])) (item_by (int 3 0)) (new_at 6 None (word (codes "abc")))
        (integer 0 ∷ []) 3) (simp chained) (by_steps _ _ 15 (simp chained) refl);
  }

  -- a new entry is assigned to, and the map is to be measured
  abbrev entry_assigned : Config S H (Core H)
  entry_assigned = standing_at table (core (Back unit) (Measured (column 5) ∷ ChainEnd (Some (FromEntry 0)) None ∷ assigned)
      (focused (entry (codes "m") (k_map (integer 1)) ∷ [])
      (plain (kind.Map (codes "j" ∷ codes "k" ∷ [], integer 5 ∷ integer 1 ∷ []))))) 4

  pub entries : Entries table host
  entries = record {
    read = stretch _ _ 9 _ (reads table (codes "m") (k_map (integer 1)) (entry_named (codes "k")) [] 3) (simp chained)
        (by_steps _ _ 12 (simp chained) refl);
    by_text = stretch _ _ 9 _ (reads table (codes "m") (k_map (integer 1)) (index 2 (var 1 (codes "m")) (text 3 (codes "k")))
        (word (codes "k") ∷ []) 3) (simp chained)
        (by_steps _ _ 12 (simp chained) refl);
    inner = stretch _ _ 11 _ (reads table (codes "m") (k_map (plain (kind.Map (codes "j" ∷ [], integer 2 ∷ [])))) inner_entry [] 5)
        (simp chained)
        (by_steps _ _ 15 (simp chained) refl);
    missing = stretch _ _ 9 _ (reads table (codes "m") (k_map (integer 1)) (entry_named (codes "j")) [] 3) (simp chained)
        (by_steps _ _ 12 (simp chained) refl);
    fails = stretch _ _ 9 _ (reads table (codes "m") (k_map (integer 1)) (entry_named (codes "j")) [] 3) (simp chained)
        (by_steps _ _ 12 (simp chained) refl);
    inserted = stretch _ _ 10 _ (sets table (codes "m") (k_map (integer 1)) (entry_named (codes "j")) (new_at 5 None (integer 5)) [] 3)
        (simp chained) (by_steps _ _ 15 (simp chained) refl);
    raised = stretch _ _ 10 _ (sets table (codes "m") (k_map (integer 1)) (entry_named (codes "k")) (new_at 5 (Some Plus) (integer 1)) [] 3)
        (simp chained) (by_steps _ _ 15 (simp chained) refl);
    constant = stretch _ _ 10 _ (sets table (codes "m") fixed_map (entry_named (codes "j")) (new_at 5 None (integer 5)) [] 3)
        (simp chained) (by_steps _ _ 15 (simp chained) refl);
    safe = stretch _ _ 9 _ (reads table (codes "m") (k_map (integer 1)) safe_entry [] 3) (simp chained)
        (by_steps _ _ 12 (simp chained) refl);
    stops = stretch _ _ 9 _ (reads table (codes "m") unit safe_entry [] 3) (simp chained)
        (by_steps _ _ 12 (simp chained) refl);
    stops_inside = stretch _ _ 11 _ (reads table (codes "m") (k_map (integer 1)) safe_inner [] 5) (simp chained)
        (by_steps _ _ 15 (simp chained) refl);
    full = stretch _ _ 10 _ (sets table (codes "m") (k_map (integer 1)) (entry_named (codes "j")) (new_at 5 None (integer 5)) [] 3)
        (simp chained) (stretch _ _ 3 _ entry_assigned (simp chained) (by_steps _ _ 12 (simp chained) refl));
    drops = stretch _ _ 10 _ (sets table (codes "m") unit safe_entry (new_at 6 None (integer 5)) [] 3)
        (simp chained) (by_steps _ _ 15 (simp chained) refl);
  }

  -- a chain over the variable `a` is at its first link, and one over the handle
  abbrev a_walks : Option (Dynamic H) → Dynamic H → Expr → Option (NewValue H) → List (Dynamic H) → List (Frame H) → Config S H (Core H)
  a_walks cell a chain new args k = walks_in table host cell (entry (codes "a") a ∷ []) (codes "a") 1 a chain new args k 3

  abbrev h_walks : Dynamic H → Option (NewValue H) → List (Frame H) → Config S H (Core H)
  h_walks items new k =
      walks_in table host (Some items) [] (codes "h") 0 handle first_of_handle new (integer 0 ∷ []) k 3

  -- `a[0][1] = 5` has its first index, and is at its first link, where the item is the handle
  abbrev item_asks : Option (Dynamic H) → Config S H (Core H)
  item_asks cell = standing_at table (core (ChainArguments (chain_on (var 1 (codes "a")) (out-Expr item_of_item)
      (new_at 9 None (integer 5)))
      (out-Expr (index 5 (int 3 0) (int 6 1))) (integer 0 ∷ [])) assigned
      (one_cell table host cell (entry (codes "a") (array (handle ∷ [])) ∷ []))) 4

  abbrev item_walks : Option (Dynamic H) → Config S H (Core H)
  item_walks cell = walks_in table host cell (entry (codes "a") (array (handle ∷ [])) ∷ []) (codes "a") 1 (array (handle ∷ [])) item_of_item
      (new_at 9 None (integer 5)) (integer 0 ∷ integer 1 ∷ []) assigned 7

  -- the item is the focus
  abbrev inner_walks : Config S H (Core H)
  inner_walks = standing_at table (core (Walk (on_its_way true (var 1 (codes "a")) (index 5 (int 3 0) (int 6 1))
      (new_at 9 None (integer 5)) (integer 1 ∷ []))) (StepDown (array (handle ∷ [])) (ToPlace (spot.Item 0))
      ∷ ChainEnd (Some (FromEntry 1)) None ∷
      assigned)
      (record (one_cell table host (Some (array (integer 1 ∷ integer 2 ∷ []))) (entry (codes "a") (array (handle ∷ [])) ∷ []))
      { focus = Some handle })) 8

  pub shared_items : SharedItems table host
  shared_items = record {
    item_read = stretch _ _ 9 _ (a_walks (Some (integer 5)) (array (integer 1 ∷ handle ∷ [])) (item_by (int 3 1)) None (integer 1 ∷ [])
        (below 2))
        (simp chained) (by_steps _ _ 15 (simp chained) refl);
    item_set = stretch _ _ 10 _ (a_walks (Some (integer 4)) (array (handle ∷ [])) (item_by (int 3 0)) (new_at 6 None (integer 5))
        (integer 0 ∷ []) assigned)
        (simp chained) (by_steps _ _ 15 (simp chained) refl);
    item_raised = stretch _ _ 10 _ (a_walks (Some (integer 4)) (array (handle ∷ [])) (item_by (int 3 0))
        (new_at 6 (Some Plus) (integer 1)) (integer 0 ∷ []) assigned)
        (simp chained) (by_steps _ _ 15 (simp chained) refl);
    root_read = stretch _ _ 9 _ (h_walks (array (integer 5 ∷ [])) None (below 2)) (simp chained)
        (by_steps _ _ 15 (simp chained) refl);
    root_set = stretch _ _ 10 _ (h_walks (array (integer 5 ∷ [])) (new_at 6 None (integer 7)) assigned) (simp chained)
        (by_steps _ _ 15 (simp chained) refl);
    own_handle = stretch _ _ 10 _ (h_walks (array (handle ∷ [])) (new_at 6 None (integer 7)) assigned) (simp chained)
        (by_steps _ _ 15 (simp chained) refl);
    held = by_steps _ _ 16 (simp chained) refl;
    item_held = stretch _ _ 9 _ (walks_in table host None (entry (codes "a") (array (integer 1 ∷ handle ∷ [])) ∷ []) (codes "a") 1
        (array (integer 1 ∷ handle ∷ [])) (item_by (int 3 1)) None (integer 1 ∷ []) (below 2) 3) (simp chained)
        (by_steps _ _ 15 (simp chained) refl);
    through_item = stretch _ _ 11 _ (item_asks (Some (array (integer 1 ∷ integer 2 ∷ [])))) (simp chained)
        (stretch _ _ 5 _ (item_walks (Some (array (integer 1 ∷ integer 2 ∷ [])))) (simp chained)
        (stretch _ _ 2 _ inner_walks (simp chained) (by_steps _ _ 20 (simp chained) refl)));
    held_inside = stretch _ _ 11 _ (item_asks None) (simp chained)
        (stretch _ _ 5 _ (item_walks None) (simp chained) (by_steps _ _ 20 (simp chained) refl));
    cut = stretch _ _ 10 _ (standing_at table (core (ChainArguments (chain_on (var 1 (codes "h")) (out-Expr item_in_handle) None)
        (out-Expr (index 5 (int 3 0) (int 6 1))) (integer 0 ∷ [])) (below 2) (one_cell table host (Some nested) [])) 4) (simp chained)
        (stretch _ _ 5 _ (walks_in table host (Some nested) [] (codes "h") 0 handle item_in_handle None (integer 0 ∷ integer 1 ∷ [])
        (below 2) 7) (simp chained) (by_steps _ _ 20 (simp chained) refl));
  }
