-- The sample runs of members that natives get and set.
use Rattle.std.proofs.Common.{refl}
use Rattle.std.specs.Prelude.{ℕ, ◌+◌, Bool, true, false, List, [], ◌∷◌, ◌++◌, Some, None, codes}
use Rattle.rhai_tree.specs.declared.token.Token.TheVariants.{Plus}
use Rattle.rhai_errors.specs.declared.error.EvalAltResult.TheVariants.{ErrorDotExpr, ErrorIndexingType}
use Rattle.rhai_errors.specs.Native.{Request}
use Rattle.rhai_machine.specs.Types.{Dynamic}
use Rattle.rhai_machine.specs.machine.Machine.{Config}
use Rattle.rhai_machine.specs.language.Frames.{FromEntry, Core, core, ChainEnd, Frame, Control, MemberAccess, Property, Item, GetterTried}
use Rattle.rhai_machine.specs.language.Frames.{SetterTried, MemberGot, MemberSet}
use Rattle.rhai_machine.specs.language.Frames.{Temporary, Walk, Back, Changed, Fail}
use Rattle.rhai_machine_samples.specs.Trees.{column, int, var}
use Rattle.rhai_machine_samples.specs.Runs.{Table, entry, integer, fixed, truth, unit}
use Rattle.rhai_machine_samples.specs.Data.{text, word}
use Rattle.rhai_machine_samples.specs.Items.{array, dot, item_by, property}
use Rattle.rhai_machine_samples.specs.Entries.{k_map}
use Rattle.rhai_machine_samples.specs.Members.{Members, SetBack, Guards, Indexers, p_of_x, q_of_p, item_of_x, q_of_item, get_p, set_p}
use Rattle.rhai_machine_samples.specs.Members.{set_q}
use Rattle.rhai_machine_samples.specs.Members.{get_first, of_missing, set_k, set_q_of}
use Rattle.rhai_machine_samples.proofs.SampleRuns.{by_steps, stretch}
use Rattle.rhai_machine_samples.proofs.ChainRuns.{chained, asks, reads, sets, new_at, below, assigned, on_x, on_its_way, standing_at}
use Rattle.rhai_machine_samples.proofs.ChainRuns.{focused}

module _ {S H : Type 0} (table : Table S H) (host : H → List ℕ) where
  -- how the properties and the item are got and set
  abbrev p_access : MemberAccess H
  p_access = record { member = Property (codes "p") (column 3); at = column 2; guarded = true }

  abbrev q_access : (at : ℕ) → (guarded : Bool) → MemberAccess H
  q_access c guarded = record { member = Property (codes "q") (column (c + 1)); at = column c; guarded = guarded }

  abbrev item_access : MemberAccess H
  item_access = record { member = Item (integer 1); at = column 2; guarded = true }

  -- the getter has answered, or the setter
  abbrev getter_done : Control H → List (Frame H) → List (Frame H) → Config S H (Core H)
  getter_done control k below = on_x table (integer 1) (integer 1) control (GetterTried p_access (codes "p") ∷ k) below 4 (get_p ∷ [])

  abbrev setter_done : Control H → Config S H (Core H)
  setter_done control = on_x table (integer 1) (integer 1) control (SetterTried p_access (codes "p") (integer 5) false ∷ []) assigned 4
      (set_p (integer 5) ∷ [])

  abbrev p_missing : Control H
  p_missing = Fail (ErrorDotExpr (codes "p") (column 3))

  -- a property of what was got is set in it: before its native and after, and as the value that it has left is set back
  abbrev q_walks : Dynamic H → Config S H (Core H)
  q_walks v = on_x table (integer 1) v
      (Walk (on_its_way true (var 1 (codes "x")) (dot 4 (property 3 (codes "p")) (property 5 (codes "q"))) (new_at 7 None (integer 5)) []))
      (Temporary (Some (integer 1)) (Some p_access) ∷ []) assigned 6 (get_p ∷ [])

  abbrev q_done : Control H → Config S H (Core H)
  q_done control = on_x table (integer 1) (integer 8) control (SetterTried (q_access 4 true) (codes "q") (integer 5) false ∷ Temporary
      (Some (integer 1)) (Some p_access) ∷ []) assigned 7 (set_q 5 ∷ get_p ∷ [])

  abbrev back_done : Control H → Config S H (Core H)
  back_done control = on_x table (integer 1) (integer 1) control (SetterTried p_access (codes "p") (integer 8) true ∷ MemberSet unit ∷ [])
      assigned 8 (set_p (integer 8) ∷ set_q 5 ∷ get_p ∷ [])

  pub members : Members table host
  members = record {
    got = λ gets. stretch _ _ 9 _ (reads table (codes "x") (integer 1) p_of_x [] 3) (simp chained)
        (by_steps _ _ 20 (simp (gets, chained)) refl);
    by_indexer = λ gets indexes. stretch _ _ 9 _ (reads table (codes "x") (integer 1) p_of_x [] 3) (simp chained)
        (stretch _ _ 4 _ (getter_done p_missing [] (below 2)) (simp (gets, chained))
        (by_steps _ _ 20 (simp (indexes, chained)) refl));
    nowhere = λ replies. stretch _ _ 9 _ (reads table (codes "x") (integer 1) p_of_x [] 3) (simp chained)
        (stretch _ _ 4 _ (getter_done p_missing [] (below 2)) (simp (replies, chained))
        (by_steps _ _ 20 (simp (replies, chained)) refl));
    set = λ impure sets_it. stretch _ _ 10 _ (sets table (codes "x") (integer 1) p_of_x (new_at 5 None (integer 5)) [] 3) (simp chained)
        (by_steps _ _ 20 (simp (impure, sets_it, chained)) refl);
    set_by_indexer = λ impure indexer sets_it indexes. stretch _ _ 10 _
        (sets table (codes "x") (integer 1) p_of_x (new_at 5 None (integer 5)) [] 3) (simp chained)
        (stretch _ _ 4 _ (setter_done p_missing) (simp (impure, sets_it, chained))
        (by_steps _ _ 20 (simp (indexer, indexes, chained)) refl));
    set_nowhere = λ impure indexer replies. stretch _ _ 10 _ (sets table (codes "x") (integer 1) p_of_x (new_at 5 None (integer 5)) [] 3)
        (simp chained)
        (stretch _ _ 4 _ (setter_done p_missing) (simp (impure, replies, chained))
        (by_steps _ _ 20 (simp (indexer, replies, chained)) refl));
    raised = λ impure gets sets_it. stretch _ _ 10 _ (sets table (codes "x") (integer 1) p_of_x (new_at 5 (Some Plus) (integer 2)) [] 3)
        (simp chained)
        (stretch _ _ 4 _ (getter_done (Back (integer 7)) (MemberGot p_access (var 1 (codes "x"))
        (record { op = record { op = Some Plus; position = column 5 }; value = integer 2 }) ∷ []) assigned) (simp (gets, chained))
        (by_steps _ _ 20 (simp (impure, sets_it, chained)) refl));
    barred = λ impure. stretch _ _ 9 _ (reads table (codes "x") (fixed 1) p_of_x [] 3) (simp chained)
        (by_steps _ _ 20 (simp (impure, chained)) refl);
    set_barred = λ impure. stretch _ _ 10 _ (sets table (codes "x") (fixed 1) p_of_x (new_at 5 None (integer 5)) [] 3) (simp chained)
        (by_steps _ _ 20 (simp (impure, chained)) refl);
  }

  pub set_back : SetBack table host
  set_back = record {
    back = λ gets q_impure sets_q p_impure sets_p. stretch _ _ 12 _
        (sets table (codes "x") (integer 1) q_of_p (new_at 7 None (integer 5)) [] 5) (simp chained)
        (stretch _ _ 6 _ (q_walks (integer 7)) (simp (gets, chained))
        (stretch _ _ 4 _ (q_done (Changed unit)) (simp (q_impure, sets_q, chained))
        (by_steps _ _ 20 (simp (p_impure, sets_p, chained)) refl)));
    after_pure = λ gets q_pure sets_q. stretch _ _ 12 _ (sets table (codes "x") (integer 1) q_of_p (new_at 7 None (integer 5)) [] 5)
        (simp chained)
        (stretch _ _ 6 _ (q_walks (integer 7)) (simp (gets, chained))
        (by_steps _ _ 20 (simp (q_pure, sets_q, chained)) refl));
    failed = λ gets q_impure sets_q. stretch _ _ 12 _ (sets table (codes "x") (integer 1) q_of_p (new_at 7 None (integer 5)) [] 5)
        (simp chained)
        (stretch _ _ 6 _ (q_walks (integer 7)) (simp (gets, chained))
        (by_steps _ _ 20 (simp (q_impure, sets_q, chained)) refl));
    ignored = λ gets q_impure sets_q p_impure indexer sets_p indexes. stretch _ _ 12 _
        (sets table (codes "x") (integer 1) q_of_p (new_at 7 None (integer 5)) [] 5) (simp chained)
        (stretch _ _ 6 _ (q_walks (integer 7)) (simp (gets, chained))
        (stretch _ _ 4 _ (q_done (Changed unit)) (simp (q_impure, sets_q, chained))
        (stretch _ _ 5 _ (back_done p_missing) (simp (p_impure, sets_p, chained))
        (by_steps _ _ 20 (simp (indexer, indexes, chained)) refl))));
    cut = λ gets q_impure sets_q. stretch _ _ 12 _ (sets table (codes "x") (integer 1) q_of_p (new_at 7 None (integer 5)) [] 5)
        (simp chained)
        (stretch _ _ 6 _ (q_walks (integer 7)) (simp (gets, chained))
        (by_steps _ _ 20 (simp (q_impure, sets_q, chained)) refl));
  }

  -- no indexer gets the item that an operator works on
  abbrev item_missing : Config S H (Core H)
  item_missing = on_x table (truth true) (truth true) (Fail (ErrorIndexingType (codes "bool [i64]") (column 2))) (MemberGot item_access
      (var 1 (codes "x")) (record { op = record { op = Some Plus; position = column 6 }; value = integer 5 }) ∷ []) assigned 5
      (get_first ∷ [])

  -- a property of an item is set in it
  abbrev q_of_item_asks : Config S H (Core H)
  q_of_item_asks = asks table (codes "x") (truth true) q_of_item (dot 5 (int 3 1) (property 6 (codes "q"))) (new_at 8 None (integer 5))
      (integer 1 ∷ []) assigned 4

  abbrev q_of_item_walks : Dynamic H → Config S H (Core H)
  q_of_item_walks v = on_x table (truth true) v
      (Walk (on_its_way false (var 1 (codes "x")) (dot 5 (int 3 1) (property 6 (codes "q"))) (new_at 8 None (integer 5)) []))
      (Temporary (Some (truth true)) (Some item_access) ∷ []) assigned 8 (get_first ∷ [])

  abbrev q_of_item_done : Dynamic H → Config S H (Core H)
  q_of_item_done v = on_x table (truth true) (integer 8) (Changed unit) (SetterTried (q_access 5 false) (codes "q") (integer 5) false ∷
      Temporary (Some (truth true)) (Some item_access) ∷ []) assigned 9 (set_q_of 6 v ∷ get_first ∷ [])

  pub indexers : Indexers table host
  indexers = record {
    got = λ gets. stretch _ _ 9 _ (reads table (codes "x") (truth true) item_of_x (integer 1 ∷ []) 3) (simp chained)
        (by_steps _ _ 20 (simp (gets, chained)) refl);
    nowhere = λ replies. stretch _ _ 9 _ (reads table (codes "x") (truth true) item_of_x (integer 1 ∷ []) 3) (simp chained)
        (by_steps _ _ 20 (simp (replies, chained)) refl);
    set = λ impure sets_it. stretch _ _ 10 _ (sets table (codes "x") (truth true) item_of_x (new_at 6 None (integer 5)) (integer 1 ∷ [])
        3) (simp chained)
        (by_steps _ _ 20 (simp (impure, sets_it, chained)) refl);
    raised = λ impure gets sets_it. stretch _ _ 10 _ (sets table (codes "x") (truth true) item_of_x
        (new_at 6 (Some Plus) (integer 5)) (integer 1 ∷ []) 3) (simp chained) (stretch _ _ 5 _ item_missing (simp (gets, chained))
        (by_steps _ _ 20 (simp (impure, sets_it)) refl));
    back = λ gets q_impure sets_q impure sets_it. stretch _ _ 11 _ q_of_item_asks (simp chained)
        (stretch _ _ 3 _ (sets table (codes "x") (truth true) q_of_item (new_at 8 None (integer 5)) (integer 1 ∷ []) 6) (simp chained)
        (stretch _ _ 6 _ (q_of_item_walks (integer 7)) (simp (gets, chained))
        (stretch _ _ 4 _ (q_of_item_done (integer 7)) (simp (q_impure, sets_q, chained))
        (by_steps _ _ 20 (simp (impure, sets_it, chained)) refl))));
  }

  -- a property of a key that is missing is set
  abbrev of_missing_asks : Config S H (Core H)
  of_missing_asks = asks table (codes "m") (k_map (integer 1)) of_missing (dot 7 (text 3 (codes "j")) (property 8 (codes "k")))
      (new_at 10 None (integer 5)) (word (codes "j") ∷ []) assigned 4

  abbrev of_missing_walks : Config S H (Core H)
  of_missing_walks = sets table (codes "m") (k_map (integer 1)) of_missing (new_at 10 None (integer 5)) (word (codes "j") ∷ []) 6

  -- its setter is to be called on `()`, and then the indexer on the map
  abbrev over_m : Dynamic H → Control H → List (Frame H) → ℕ → List (Request H) → Config S H (Core H)
  over_m focus control k count calls = record (standing_at table (core control (k ++ ChainEnd (Some (FromEntry 0)) None ∷ assigned)
      (focused (entry (codes "m") (k_map (integer 1)) ∷ []) focus)) count) { calls = calls }

  abbrev j_access : MemberAccess H
  j_access = record { member = Item (word (codes "j")); at = column 2; guarded = true }

  abbrev k_walks : Config S H (Core H)
  k_walks = over_m unit (Walk (on_its_way false (var 1 (codes "m")) (dot 7 (text 3 (codes "j")) (property 8 (codes "k")))
      (new_at 10 None (integer 5)) [])) (Temporary (Some (k_map (integer 1))) (Some j_access) ∷ []) 7 []

  abbrev k_set : Config S H (Core H)
  k_set = over_m (integer 3) (Changed unit) (SetterTried (record
      { member = Property (codes "k") (column 8); at = column 7; guarded = false })
      (codes "k") (integer 5) false ∷ Temporary (Some (k_map (integer 1))) (Some j_access) ∷ []) 8 (set_k ∷ [])

  pub guards : Guards table host
  guards = record {
    of_getter = λ gets impure. stretch _ _ 12 _ (sets table (codes "x") (integer 1) q_of_p (new_at 7 None (integer 5)) [] 5) (simp chained)
        (stretch _ _ 6 _ (q_walks (fixed 7)) (simp (gets, chained)) (by_steps _ _ 20 (simp (impure, chained)) refl));
    of_indexer = λ gets q_impure sets_q impure sets_it. stretch _ _ 11 _ q_of_item_asks (simp chained)
        (stretch _ _ 3 _ (sets table (codes "x") (truth true) q_of_item (new_at 8 None (integer 5)) (integer 1 ∷ []) 6) (simp chained)
        (stretch _ _ 6 _ (q_of_item_walks (fixed 7)) (simp (gets, chained))
        (stretch _ _ 4 _ (q_of_item_done (fixed 7)) (simp (q_impure, sets_q, chained))
        (by_steps _ _ 20 (simp (impure, sets_it, chained)) refl))));
    of_operator = λ gets. stretch _ _ 10 _ (sets table (codes "x") (integer 1) p_of_x (new_at 5 (Some Plus) (integer 2)) [] 3)
        (simp chained)
        (stretch _ _ 4 _ (getter_done (Back (fixed 7)) (MemberGot p_access (var 1 (codes "x"))
        (record { op = record { op = Some Plus; position = column 5 }; value = integer 2 }) ∷ []) assigned) (simp (gets, chained))
        (by_steps _ _ 20 (simp chained) refl));
    faults = λ replies. stretch _ _ 10 _ (sets table (codes "a") (array (integer 1 ∷ [])) (item_by (int 3 0)) (new_at 6 (Some Plus)
        (truth true)) (integer 0 ∷ []) 3) (simp chained) (by_steps _ _ 20 (simp (replies, chained)) refl);
    missing_key = λ k_impure sets_k impure replies. stretch _ _ 11 _ of_missing_asks (simp chained) (stretch _ _ 3 _ of_missing_walks
        (simp chained) (stretch _ _ 2 _ k_walks (simp chained) (stretch _ _ 4 _ k_set (simp (k_impure, sets_k, chained))
        (by_steps _ _ 20 (simp (impure, replies, chained)) refl))));
  }
