-- The sample runs of `for`.
use Rattle.std.proofs.Common.{refl}
use Rattle.std.specs.Prelude.{◌≡◌, ℕ, false, List, [], ◌∷◌, ◌++◌, Option, Some, None, codes, pos}
use Rattle.std.specs.Str.{chars}
use Rattle.rhai_tree.specs.declared.expr.Expr.TheVariants as expr
use Rattle.rhai_tree.specs.declared.expr.Ident.{Ident}
use Rattle.rhai_tree.specs.declared.expr.Stmt.{Stmt}
use Rattle.rhai_tree.specs.declared.expr.Stmt.TheVariants as stmt
use Rattle.rhai_values.specs.declared.base.value.Dynamic.{Dynamic}
use Rattle.rhai_values.specs.declared.base.value.Union.{Union}
use Rattle.rhai_values.specs.declared.base.value.Union.TheVariants as kind
use Rattle.rhai_values.specs.Copy.{plain}
use Rattle.rhai_values.proofs.CopyLemmas.{copy-Array}
use Rattle.rhai_machine.specs.machine.Machine.{Config}
use Rattle.rhai_machine.specs.language.Turns.{ForLoop, Turns, OfItems, OfIntegers}
use Rattle.rhai_machine.specs.language.Frames.{Core, core, ForTurn, RestOfList, RestoreScope, Top}
use Rattle.rhai_machine_samples.specs.Runs.{Table, entry, integer, unit}
use Rattle.rhai_machine_samples.specs.Trees.{braces, ident, var}
use Rattle.rhai_machine_samples.specs.Walks.{Walks, WalkEnds, in_cells, two_handles, two_items, keeps_body, counter_body, sharing_body}
use Rattle.rhai_machine_samples.specs.Walks.{breaking_switch, continuing_try}
use Rattle.rhai_machine_samples.specs.Handles.{handle, one_cell}
use Rattle.rhai_machine_samples.specs.Items.{array}
use Rattle.rhai_machine_samples.proofs.SampleRuns.{opened, placed, measured, by_steps, script_at, stretch}

-- a text, letter by letter
ab_letters : chars (codes "ab") ≡ 97 ∷ 98 ∷ []
unfolding chars
ab_letters = refl

-- what is walked
ruleset walking = (
  opened,
  stmt.outs-For,
  stmt.outs-Share,
  expr.outs-Array,
  kind.outs-Int,
  kind.outs-Str,
  kind.outs-ExclusiveRange,
  kind.outs-InclusiveRange,
  kind.outs-Array,
  kind.outs-Blob,
  copy-Array,
  ab_letters,
)

ruleset placing = (walking, placed)

module _ {S H : Type 0} (table : Table S H) (host : H → List ℕ) where
  -- `for x in a { .. }` by itself, and with a counter
  abbrev plain_loop : List Stmt → ForLoop
  plain_loop body = record { variable = ident 5 (codes "x"); counter = None; items = var 10 (codes "a"); body = braces 12 30 body }

  abbrev counting_loop : List Stmt → ForLoop
  counting_loop body =
      record { variable = ident 6 (codes "x"); counter = Some (ident 9 (codes "i")); items = var 15 (codes "a"); body = braces 17 40 body }

  -- a turn begins over `a`, `s` and the variable, with what is left
  abbrev turn_over : Union H → List Stmt → Turns H → (turn : ℕ) → (s x : Dynamic H) → (count : ℕ) → Config S H (Core H)
  turn_over a body left turn s x count = script_at table (ForTurn (plain_loop body) left turn 2) (RestoreScope 2 ∷ RestOfList [] false ∷ [])
      (entry (codes "a") (plain a) ∷ entry (codes "s") s ∷ entry (codes "x") x ∷ []) count

  -- the same with a counter, over two items
  abbrev counted_over : Turns H → (turn : ℕ) → (s i x : Dynamic H) → (count : ℕ) → Config S H (Core H)
  counted_over left turn s i x count =
      script_at table (ForTurn (counting_loop counter_body) left turn 2) (RestoreScope 2 ∷ RestOfList [] false ∷ [])
      (entry (codes "a") (plain (two_items table host)) ∷ entry (codes "s") s ∷ entry (codes "i") i ∷ entry (codes "x") x ∷ []) count

  abbrev left_of_two : Turns H
  left_of_two = OfItems (integer 7 ∷ integer 8 ∷ [])

  abbrev last_item : Turns H
  last_item = OfItems (integer 8 ∷ [])

  -- the loop of `h`'s cell, whose only item is the handle
  abbrev cell_turn : Turns H → (turn : ℕ) → (s x : Dynamic H) → (count : ℕ) → Config S H (Core H)
  cell_turn left turn s x count = record {
    core = core (ForTurn (plain_loop keeps_body) left turn 3) (RestoreScope 3 ∷ RestOfList [] false ∷ Top false ∷ [])
        (one_cell table host (Some (integer 5))
        (entry (codes "a") (array (handle ∷ [])) ∷ entry (codes "s") s ∷ entry (codes "x") x ∷ []));
    table = table.state;
    count = count;
    calls = [];
  }

  -- a loop whose body shares its variables: the first turn begins, and those after it
  abbrev first_shared : Config S H (Core H)
  first_shared = script_at table (ForTurn (counting_loop sharing_body) left_of_two 0 1) (RestoreScope 1 ∷ RestOfList [] false ∷ [])
      (entry (codes "a") (plain (two_items table host)) ∷ entry (codes "i") (integer 0) ∷ entry (codes "x") unit ∷ []) 2

  abbrev next_shared : Turns H → (turn : ℕ) → (x i : Dynamic H) → (count : ℕ) → Config S H (Core H)
  next_shared left turn x i count = record {
    core = core (ForTurn (counting_loop sharing_body) left turn 1) (RestoreScope 1 ∷ RestOfList [] false ∷ Top false ∷ [])
        (in_cells table host (Some x) (Some i) (entry (codes "a") (plain (two_items table host)) ∷ two_handles table host));
    table = table.state;
    count = count;
    calls = [];
  }

  pub walks : Walks table host
  walks = record {
    items = stretch _ _ 7 _ (turn_over (two_items table host) keeps_body left_of_two 0 unit unit 2) (simp walking)
        (stretch _ _ 15 _ (turn_over (two_items table host) keeps_body last_item 1 (integer 7) (integer 7) 5) (simp walking)
        (stretch _ _ 15 _ (turn_over (two_items table host) keeps_body (OfItems []) 2 (integer 8) (integer 8) 8) (simp walking)
        (by_steps _ _ 10 refl refl)));
    bytes = stretch _ _ 7 _ (turn_over (kind.Blob (1 ∷ 255 ∷ [])) keeps_body (OfItems (integer 1 ∷ integer 255 ∷ [])) 0 unit unit 2)
        (simp walking)
        (stretch _ _ 15 _ (turn_over (kind.Blob (1 ∷ 255 ∷ [])) keeps_body (OfItems (integer 255 ∷ [])) 1 (integer 1) (integer 1) 5)
        (simp walking)
        (stretch _ _ 15 _ (turn_over (kind.Blob (1 ∷ 255 ∷ [])) keeps_body (OfItems []) 2 (integer 255) (integer 255) 8) (simp walking)
        (by_steps _ _ 10 refl refl)));
    letters = stretch _ _ 7 _
        (turn_over (kind.Str (codes "ab")) keeps_body (OfItems (plain (kind.Char 97) ∷ plain (kind.Char 98) ∷ [])) 0 unit unit 2)
        (simp walking)
        (stretch _ _ 15 _
        (turn_over (kind.Str (codes "ab")) keeps_body (OfItems (plain (kind.Char 98) ∷ [])) 1 (plain (kind.Char 97)) (plain
        (kind.Char 97)) 5)
        (simp walking)
        (stretch _ _ 15 _ (turn_over (kind.Str (codes "ab")) keeps_body (OfItems []) 2 (plain (kind.Char 98)) (plain (kind.Char 98)) 8)
        (simp walking) (by_steps _ _ 10 refl refl)));
    integers = stretch _ _ 7 _ (turn_over (kind.ExclusiveRange (pos 5) (pos 7)) keeps_body (OfIntegers (pos 5) 2) 0 unit unit 2)
        (simp walking)
        (stretch _ _ 15 _ (turn_over (kind.ExclusiveRange (pos 5) (pos 7)) keeps_body (OfIntegers (pos 6) 1) 1 (integer 5) (integer 5) 5)
        (simp walking)
        (stretch _ _ 15 _ (turn_over (kind.ExclusiveRange (pos 5) (pos 7)) keeps_body (OfIntegers (pos 7) 0) 2 (integer 6) (integer 6) 8)
        (simp walking) (by_steps _ _ 10 refl refl)));
    greatest = stretch _ _ 7 _
        (turn_over (kind.InclusiveRange (pos 9223372036854775807) (pos 9223372036854775807)) keeps_body (OfIntegers
        (pos 9223372036854775807) 1)
        0 unit unit 2)
        (simp walking)
        (stretch _ _ 15 _
        (turn_over (kind.InclusiveRange (pos 9223372036854775807) (pos 9223372036854775807)) keeps_body (OfIntegers
        (pos 9223372036854775808) 0)
        1 (integer 9223372036854775807) (integer 9223372036854775807) 5)
        (simp walking) (by_steps _ _ 10 refl refl));
    no_integers = by_steps _ _ 30 (simp walking) refl;
    counter = stretch _ _ 7 _ (counted_over left_of_two 0 unit (integer 0) unit 2) (simp walking)
        (stretch _ _ 15 _ (counted_over last_item 1 (integer 0) (integer 0) (integer 7) 5) (simp walking)
        (stretch _ _ 15 _ (counted_over (OfItems []) 2 (integer 1) (integer 1) (integer 8) 8) (simp walking) (by_steps _ _ 10 refl refl)));
    empty = by_steps _ _ 40 (simp walking) refl;
    empty_refused = by_steps _ _ 40 (simp placing) refl;
    no_walk = by_steps _ _ 40 (simp placing) refl;
    restored = by_steps _ _ 40 (simp walking) refl;
    flattened = stretch _ _ 7 _ (cell_turn (OfItems (handle ∷ [])) 0 unit unit 2) (simp walking)
        (stretch _ _ 15 _ (cell_turn (OfItems []) 1 (integer 5) (integer 5) 5) (simp walking) (by_steps _ _ 10 refl refl));
    race = by_steps _ _ 30 (simp walking) refl;
  }

  pub walk_ends : WalkEnds table host
  walk_ends = record {
    breaks = by_steps _ _ 40 (simp walking) refl;
    continues = by_steps _ _ 50 (simp walking) refl;
    through_try = stretch _ _ 7 _ (turn_over (two_items table host) continuing_try left_of_two 0 unit unit 2) (simp walking)
        (stretch _ _ 16 _ (turn_over (two_items table host) continuing_try last_item 1 unit (integer 7) 4) (simp
        (walking, stmt.outs-TryCatch))
        (stretch _ _ 16 _ (turn_over (two_items table host) continuing_try (OfItems []) 2 unit (integer 8) 6)
        (simp (walking, stmt.outs-TryCatch)) (by_steps _ _ 10 refl refl)));
    through_switch = stretch _ _ 7 _ (turn_over (two_items table host) breaking_switch left_of_two 0 unit unit 2) (simp walking)
        (by_steps _ _ 50 (simp (walking, measured, stmt.outs-Switch)) refl);
    returns = by_steps _ _ 40 (simp walking) refl;
    full = by_steps _ _ 20 (simp walking) refl;
    room = by_steps _ _ 20 (simp walking) refl;
    full_of_two = by_steps _ _ 20 (simp walking) refl;
    value_refused = by_steps _ _ 20 (simp placing) refl;
    body_refused = stretch _ _ 7 _ (turn_over (two_items table host) keeps_body left_of_two 0 unit unit 2) (simp walking)
        (by_steps _ _ 30 (simp placing) refl);
    through_cells = stretch _ _ 7 _ first_shared (simp walking)
        (stretch _ _ 22 _ (next_shared last_item 1 (integer 17) (integer 0) 6) (simp walking)
        (stretch _ _ 22 _ (next_shared (OfItems []) 2 (integer 18) (integer 1) 10) (simp walking) (by_steps _ _ 10 refl refl)));
    counter_held = by_steps _ _ 20 refl refl;
    item_held = by_steps _ _ 20 refl refl;
    constant_item = by_steps _ _ 40 (simp placing) refl;
    overflow = by_steps _ _ 20 refl refl;
  }
