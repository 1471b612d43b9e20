-- The rules of `switch`, `for`, `try` and of shared variables lead to cores that fit.
use Rattle.std.proofs.Common.{◌≤◌, ◌<◌, ◌+◌, ◌^◌, ℕ, zero, suc, pos, List, [], ◌∷◌, ◌++◌, length, map, arith}
use Rattle.std.proofs.lemmas.List.{length-append}
use Rattle.std.specs.Prelude.{⊤, Bool, true, false, nat_le, Option, Some, None, option_map, codes}
use Rattle.std.specs.Str.{chars}
use Rattle.rhai_tree.specs.declared.expr.ConditionalExpr.{ConditionalExpr}
use Rattle.rhai_tree.specs.declared.expr.Ident.{Ident}
use Rattle.rhai_tree.specs.declared.expr.SharedVariable.{SharedVariable}
use Rattle.rhai_tree.specs.declared.expr.Stmt.{Stmt}
use Rattle.rhai_tree.specs.declared.expr.StmtBlock.{StmtBlock}
use Rattle.rhai_tree.specs.Position.{number_of}
use Rattle.rhai_tree.specs.Positions.{position_of}
use Rattle.rhai_machine.specs.Types.{Dynamic, EvalAltResult, Expr, out-Expr, Position, ScopeEntry, Union}
use Rattle.rhai_values.specs.declared.base.value.AccessMode.{AccessMode}
use Rattle.rhai_values.specs.declared.base.value.AccessMode.TheVariants.{ReadWrite}
use Rattle.rhai_values.specs.declared.base.value.FnPtrKind.TheOpen as union
use Rattle.rhai_values.specs.declared.base.value.Union.TheVariants as value
use Rattle.rhai_values.specs.Layers.{UnionLayer, layer_of}
use Rattle.rhai_errors.specs.Errors.{error_name, position_of as error_position}
use Rattle.rhai_values.specs.ValueContents.{Reached, Cell}
use Rattle.rhai_state.specs.Scope.{found, index_of, new_entry, value_in}
use Rattle.rhai_tree.specs.Lookup.{with_entry}
use Rattle.rhai_machine.specs.language.Setting.{Setting}
use Rattle.rhai_machine.specs.language.State.{Local}
use Rattle.rhai_machine.specs.language.Values.{flat, unit_value}
use Rattle.rhai_machine.specs.language.Places.{Place, InEntry, put}
use Rattle.rhai_machine.specs.language.Turns.{ForLoop, Turns, OfItems, OfIntegers, integer_value, byte_value, letter_value, turns_of}
use Rattle.rhai_machine.specs.language.Turns.{next_turn}
use Rattle.rhai_machine.specs.language.Frames.{Frame, Core}
use Rattle.rhai_machine.specs.language.Choices.{truth_literal, met_core, tested_core, choose_core}
use Rattle.rhai_machine.specs.language.Walks.{counters, for_core, counter_entry, loop_entries, started_core, shared_place, place_by}
use Rattle.rhai_machine.specs.language.Walks.{place_of_entry, counted_core, turn_core, for_move, entered_core, item_core}
use Rattle.rhai_machine.specs.language.Caught.{thrown, text_value, number_value, with_known, message_of, error_entries, caught_value}
use Rattle.rhai_machine.specs.language.Tries.{branch_with, branch_core, tried_core}
use Rattle.rhai_machine.specs.language.Sharing.{handle_of, with_cell, shared, shared_core, share_core}
use Rattle.rhai_fits.specs.Contents.{of_values, of_maybe, of_scope, of_turns}
use Rattle.rhai_fits.proofs.Values.{Fit, FitUnion, FitLayer, fit_out, fit_unit, fit_int, fit_char, fit_text, fit_map, fit_handle}
use Rattle.rhai_fits.proofs.Copies.{fit_copy, fit_mode}
use Rattle.rhai_fits.proofs.Errors.{FitError, fit_error, FitsMaybe, thrown_fits}
use Rattle.rhai_fits.proofs.Fitting.{AllFit, FitBelow, FitCore, FitLocal, Gives, Flat, to, fail, unit, push, on, scope_joined, with_scope}
use Rattle.rhai_fits.proofs.Fitting.{all_fit, fit_all, cells_added, sealed_added}
use Rattle.rhai_fits.proofs.Seeing.{Any, flat_gives, found_gives, put_entry, put_below}
use Rattle.rhai_fits.proofs.Spots.{entry_fits}
use Rattle.rhai_fits.proofs.Natives.{Moves}

module _ {H : Type 0} (own : H → List Reached) (P : Reached → Type 0) (least : ℕ) where
  abbrev Good : Core H → Type 0
  Good c = FitCore own P least c

  abbrev Below : List (Frame H) → Local H → Type 0
  Below k l = FitBelow own P least k l

  abbrev All : List (Dynamic H) → Type 0
  All vs = AllFit own P least (of_values vs)

  -- ---- `switch`

  pub met_good : (holds : Bool) (candidate : ConditionalExpr) (rest : List ConditionalExpr) (default : Option Expr) (k : List (Frame H))
      (l : Local H) → Below k l → Good (met_core holds candidate rest default k l)
  met_good true candidate rest default k l b = to own P least _ k l tt tt b
  met_good false candidate rest default k l b = to own P least _ k l tt tt b

  tested_good : (literal : Option Bool) (candidate : ConditionalExpr) (rest : List ConditionalExpr) (default : Option Expr)
      (k : List (Frame H)) (l : Local H) → Below k l → Good (tested_core literal candidate rest default k l)
  tested_good (Some holds) candidate rest default k l b = met_good holds candidate rest default k l b
  tested_good None candidate rest default k l b = to own P least _ _ l tt tt (push own P least _ k l tt tt b.back b)

  pub choose_good : (candidates : List ConditionalExpr) (default : Option Expr) (k : List (Frame H)) (l : Local H) → Below k l →
      Good (choose_core candidates default k l)
  choose_good [] None k l b = unit own P least k l b
  choose_good [] (Some result) k l b = to own P least _ k l tt tt b
  choose_good (candidate ∷ rest) default k l b = tested_good (truth_literal (out-Expr candidate.condition)) candidate rest default k l b

  -- ---- `for`

  pub for_good : (full : Bool) (loop : ForLoop) (k : List (Frame H)) (l : Local H) → Below k l → Good (for_core full loop k l)
  for_good true loop k l b = fail own P least _ k l (fit_error own P _ tt) b
  for_good false loop k l b = to own P least _ _ l tt tt (push own P least _ k l tt tt b.back b)

  -- other variables
  rescoped : (scope : List (ScopeEntry H)) (k : List (Frame H)) (l : Local H) → AllFit own P least (of_scope scope) → Below k l →
      Below k (record l { scope = scope })
  rescoped scope k l h b =
      record { stack = b.stack; sealed = b.sealed; back = b.back; local = with_scope own P least l scope b.local h }

  counter_fits : (counter : Option Ident) → AllFit own P least (of_scope {H = H} (counter_entry counter))
  counter_fits None = tt
  counter_fits (Some counter) = (fit_mode own P ReadWrite (integer_value (pos 0)) (fit_int own P (pos 0)), tt)

  loop_fits : (loop : ForLoop) → AllFit own P least (of_scope {H = H} (loop_entries loop))
  loop_fits loop = scope_joined own P least (counter_entry loop.counter) (new_entry loop.variable.name ReadWrite unit_value ∷ [])
      (counter_fits loop.counter) (fit_mode own P ReadWrite unit_value (fit_unit own P), tt)

  bytes_fit : (bytes : List ℕ) → All (map byte_value bytes)
  bytes_fit [] = tt
  bytes_fit (byte ∷ bytes) = (fit_int own P (pos byte), bytes_fit bytes)

  letters_fit : (letters : List ℕ) → All (map letter_value letters)
  letters_fit [] = tt
  letters_fit (letter ∷ letters) = (fit_char own P letter, letters_fit letters)

  abbrev Turning : Option (Turns H) → Type 0
  Turning None = ⊤
  Turning (Some turns) = AllFit own P least (of_turns turns)

  turns_fit : (u : UnionLayer H) → FitLayer own P u → Turning (turns_of u)
  turns_fit (union.Array items) h = all_fit own P least items h
  turns_fit (union.Blob bytes) h = bytes_fit bytes
  turns_fit (union.Str text) h = letters_fit (chars text)
  turns_fit (union.ExclusiveRange start last) h = tt
  turns_fit (union.InclusiveRange start last) h = tt
  turns_fit _ h = tt

  started_good : (turns : Option (Turns H)) (loop : ForLoop) (k : List (Frame H)) (l : Local H) → Turning turns → Below k l →
      Good (started_core turns loop k l)
  started_good (Some turns) loop k l h b = to own P least _ _ _ h tt (rescoped (l.scope ++ loop_entries loop) _ l
      (scope_joined own P least l.scope (loop_entries loop) b.local.scope (loop_fits loop)) (push own P least _ k l tt tt b.back b))
  started_good None loop k l h b = fail own P least _ k l (fit_error own P _ tt) b

  pub walked_good : (x : Dynamic H) (loop : ForLoop) (k : List (Frame H)) (l : Local H) → Fit own P x → Below k l →
      Good (started_core (turns_of (layer_of x)) loop k l)
  walked_good x loop k l f b = started_good (turns_of (layer_of x)) loop k l (turns_fit (layer_of x) (fit_out own P x.value f)) b

  -- its variables as they are written
  shared_gives : (name : List ℕ) (at : Position) (number : ℕ) (there : Option (Dynamic H)) →
      Gives own P least (Any own P least Place) (shared_place name at number there)
  shared_gives name at number (Some v) = tt
  shared_gives name at number None = fit_error own P _ tt

  by_gives : (l : Local H) (name : List ℕ) (at : Position) (index : ℕ) (u : Option (Union H)) →
      Gives own P least (Any own P least Place) (place_by l.around.cells name at index u)
  by_gives l name at index (Some (value.Cell id)) = shared_gives name at id.number _
  by_gives l name at index (Some u) = tt
  by_gives l name at index None = tt

  place_gives : (name : List ℕ) (at : Position) (index : ℕ) (l : Local H) →
      Gives own P least (Any own P least Place) (place_of_entry name at index l)
  place_gives name at index l = by_gives l name at index (option_map (λ v. v.value) (value_in l.scope (Some index)))

  counted_good : (counter : Option Ident) (loop : ForLoop) (turn base : ℕ) (go : Local H → Core H) (k : List (Frame H)) (l : Local H) →
      Below k l → ((m : Local H) → Below k m → Good (go m)) → Good (counted_core counter loop turn base go k l)
  counted_good None loop turn base go k l b g = g l b
  counted_good (Some counter) loop turn base go k l b g = on own P least (Any own P least Place)
      (place_of_entry counter.name loop.variable.pos base l) _ k l (place_gives counter.name loop.variable.pos base l) b
      (λ place t. g (put place (integer_value (pos turn)) l) (put_below own P least place (integer_value (pos turn)) k l b
      (fit_int own P (pos turn), tt)))

  turn_good : (overflows : Bool) (loop : ForLoop) (item : Dynamic H) (rest : Turns H) (turn base : ℕ) (k : List (Frame H)) (l : Local H) →
      Fit own P item → AllFit own P least (of_turns rest) → Below k l → Good (turn_core overflows loop item rest turn base k l)
  turn_good true loop item rest turn base k l f t b = fail own P least _ k l (fit_error own P _ tt) b
  turn_good false loop item rest turn base k l f t b =
      counted_good loop.counter loop turn base _ k l b (λ m g. to own P least _ k m (f, t) tt g)

  -- the next item fits, and so do the turns after it
  abbrev Next : Option (Dynamic H × Turns H) → Type 0
  Next None = ⊤
  Next (Some (item, rest)) = Fit own P item × AllFit own P least (of_turns rest)

  next_fits : (turns : Turns H) → AllFit own P least (of_turns turns) → Next (next_turn turns)
  next_fits (OfItems []) h = tt
  next_fits (OfItems (item ∷ items)) h = h
  next_fits (OfIntegers next zero) h = tt
  next_fits (OfIntegers next (suc count)) h = (fit_int own P next, tt)

  by_turn_good : (next : Option (Dynamic H × Turns H)) (stmts : List Stmt) (loop : ForLoop) (turn base : ℕ) (k : List (Frame H))
      (l : Local H) → Next next → Below k l → Moves own P least (for_move next stmts loop turn base k l)
  by_turn_good None stmts loop turn base k l h b = unit own P least k l b
  by_turn_good (Some (item, rest)) [] loop turn base k l h b = to own P least _ k l h.1 tt b
  by_turn_good (Some (item, rest)) (stmt ∷ stmts) loop turn base k l h b =
      turn_good (nat_le (2 ^ 63) turn) loop item rest turn base k l h.0 h.1 b

  pub for_turn_good : (left : Turns H) (stmts : List Stmt) (loop : ForLoop) (turn base : ℕ) (k : List (Frame H)) (l : Local H) →
      AllFit own P least (of_turns left) → Below k l → Moves own P least (for_move (next_turn left) stmts loop turn base k l)
  for_turn_good left stmts loop turn base k l h b = by_turn_good (next_turn left) stmts loop turn base k l (next_fits left h) b

  entered_good : (loop : ForLoop) (v : Dynamic H) (rest : Turns H) (turn base : ℕ) (k : List (Frame H)) (l : Local H) →
      Flat own P least v → AllFit own P least (of_turns rest) → Below k l → Good (entered_core loop v rest turn base k l)
  entered_good loop v rest turn base k l f t b = on own P least (Any own P least Place)
      (place_of_entry loop.variable.name loop.variable.pos (base + counters loop.counter) l) _ k l
      (place_gives loop.variable.name loop.variable.pos (base + counters loop.counter) l) b
      (λ place g. let put_there = put_below own P least place v k l b f in
      to own P least _ _ _ tt tt (push own P least _ k (put place v l) t tt put_there.back put_there))

  pub item_good : (loop : ForLoop) (item : Dynamic H) (rest : Turns H) (turn base : ℕ) (k : List (Frame H)) (l : Local H) →
      Fit own P item → AllFit own P least (of_turns rest) → Below k l → Good (item_core loop item rest turn base k l)
  item_good loop item rest turn base k l f t b = on own P least (Flat own P least) (flat l.around.cells item (position_of loop.items)) _ k l
      (flat_gives own P least l item (position_of loop.items) b.local f) b (λ v g. entered_good loop v rest turn base k l g t b)

  -- ---- `try`

  known_fits : (key : List ℕ) (v : Option (Dynamic H)) (entries : List (List ℕ) × List (Dynamic H)) → AllFit own P least (of_maybe v) →
      All entries.1 → All (with_known key v entries).1
  known_fits key None entries f h = h
  known_fits key (Some v) entries f h = entry_fits own P least key v entries h f

  texts_fit : (text : Option (List ℕ)) → AllFit own P least (of_maybe {H = H} (option_map text_value text))
  texts_fit None = tt
  texts_fit (Some text) = fit_text own P text

  numbers_fit : (n : Option ℕ) → AllFit own P least (of_maybe {H = H} (option_map number_value n))
  numbers_fit None = tt
  numbers_fit (Some n) = fit_int own P (pos n)

  entries_fit : (source : Option (List ℕ)) (e : EvalAltResult H) → All (error_entries source e).1
  entries_fit source e = known_fits (codes "source") (option_map text_value source) _ (texts_fit source)
      (known_fits (codes "position") (option_map number_value (number_of (error_position e).pos)) _ (numbers_fit (number_of
      (error_position e).pos))
      (known_fits (codes "line") (option_map number_value (number_of (error_position e).line)) _ (numbers_fit (number_of (error_position
      e).line))
      (entry_fits own P least (codes "message") (text_value (message_of e)) (with_entry (codes "error") (text_value (error_name e)) (
        [],
        [],
      ))
      (entry_fits own P least (codes "error") (text_value (error_name e)) ([], []) tt (fit_text own P (error_name e)))
      (fit_text own P (message_of e)))))

  caught_fits : (value : Option (Dynamic H)) (source : Option (List ℕ)) (e : EvalAltResult H) → FitsMaybe own P value →
      Fit own P (caught_value value source e)
  caught_fits (Some v) source e h = fit_copy own P v h
  caught_fits None source e h = fit_map own P (error_entries source e) (fit_all own P least (error_entries source e).1 (entries_fit
      source e))

  branch_with_good : (full : Bool) (variable : Ident) (v : Dynamic H) (caught : EvalAltResult H) (branch : StmtBlock) (k : List (Frame H))
      (l : Local H) → Fit own P v → FitError own P caught → Below k l → Good (branch_with full variable v caught branch k l)
  branch_with_good true variable v caught branch k l f e b = fail own P least _ k l (fit_error own P _ tt) b
  branch_with_good false variable v caught branch k l f e b = to own P least _ _ _ tt tt
      (rescoped (l.scope ++ new_entry variable.name ReadWrite v ∷ []) _ l
      (scope_joined own P least l.scope (new_entry variable.name ReadWrite v ∷ []) b.local.scope (fit_mode own P ReadWrite v f, tt))
      (push own P least _ _ l e tt b.back (push own P least _ k l tt tt b.back b)))

  branch_good : (s : Setting H) (variable : Option Ident) (caught : EvalAltResult H) (branch : StmtBlock) (k : List (Frame H)) (l : Local
      H) →
      FitError own P caught → Below k l → Good (branch_core s variable caught branch k l)
  branch_good s None caught branch k l e b = to own P least _ _ l tt tt (push own P least _ k l e tt b.back b)
  branch_good s (Some variable) caught branch k l e b = branch_with_good (nat_le s.limits.max_variables (length l.scope)) variable
      (caught_value (thrown caught) l.around.source caught) caught branch k l
      (caught_fits (thrown caught) l.around.source caught (thrown_fits own P caught e)) e b

  pub tried_good : (s : Setting H) (catches : Bool) (variable : Option Ident) (e : EvalAltResult H) (branch : StmtBlock)
      (k : List (Frame H)) (l : Local H) → FitError own P e → Below k l → Good (tried_core s catches variable e branch k l)
  tried_good s true variable e branch k l h b = branch_good s variable e branch k l h b
  tried_good s false variable e branch k l h b = fail own P least e k l h b

  -- ---- shared variables

  -- each cell from the number `least` on has the property
  abbrev pub Fresh : Local H → Type 0
  Fresh l = (n : ℕ) → least ≤ n → n < length l.around.cells → P (Cell n)

  one_longer : {A : Type 0} (xs : List A) (x : A) → length xs < length (xs ++ x ∷ [])
  one_longer xs x = omega (arith, length-append xs (x ∷ []))

  cell_added : (v : Dynamic H) (l : Local H) → FitLocal own P least l → Flat own P least v → FitLocal own P least (with_cell v l)
  cell_added v l h f = record {
    scope = h.scope;
    this = h.this;
    focus = h.focus;
    cells = cells_added own P least l.around.cells v h.cells f.0;
    around = h.around;
    sealed = sealed_added own P least l.around.cells v h.sealed f.1;
    enough = omega (arith, h.enough, one_longer l.around.cells (Some v));
  }

  new_cell : (index : ℕ) (v : Dynamic H) (k : List (Frame H)) (l : Local H) → Flat own P least v → Below k l →
      P (Cell (length l.around.cells)) → Below k (put (InEntry index) (handle_of (length l.around.cells) v.mode) (with_cell v l))
  new_cell index v k l f b p = record {
    stack = b.stack;
    sealed = b.sealed;
    back = b.back;
    local = put_entry own P least index (handle_of (length l.around.cells) v.mode) (with_cell v l) (cell_added v l b.local f)
        (fit_handle own P (record { number = length l.around.cells }) p);
  }

  shared_below : (index : ℕ) (u : Union H) (mode : AccessMode) (k : List (Frame H)) (l : Local H) → FitUnion own P u → Below k l →
      Fresh (shared index u (record { value = u; mode = mode }) l) → Below k (shared index u (record { value = u; mode = mode }) l)
  shared_below index (value.Cell id) mode k l f b new = b
  shared_below index u mode k l f b new =
      new_cell index (record { value = u; mode = mode }) k l (f, tt) b
      (new (length l.around.cells) b.local.enough (one_longer l.around.cells (Some (record { value = u; mode = mode }))))

  share_by_good : (ident : Ident) (index : Option ℕ) (there : Option (Dynamic H)) (rest : List SharedVariable) (k : List (Frame H))
      (l : Local H) → AllFit own P least (of_maybe there) → Below k l → Fresh (shared_core ident index there rest k l).local →
      Good (shared_core ident index there rest k l)
  share_by_good ident (Some index) (Some v) rest k l f b new = to own P least _ k _ tt tt (shared_below index v.value v.mode k l f b new)
  share_by_good ident (Some index) None rest k l f b new = fail own P least _ k l (fit_error own P _ tt) b
  share_by_good ident None there rest k l f b new = fail own P least _ k l (fit_error own P _ tt) b

  pub share_good : (variables : List SharedVariable) (k : List (Frame H)) (l : Local H) → Below k l →
      Fresh (share_core variables k l).local → Good (share_core variables k l)
  share_good [] k l b new = unit own P least k l b
  share_good (variable ∷ rest) k l b new = share_by_good variable.ident (index_of variable.ident.name l.scope)
      (found variable.ident.name l.scope) rest k l (found_gives own P least variable.ident.name l b.local) b new
