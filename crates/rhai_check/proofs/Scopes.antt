-- What is forgotten at the end of a block. The names that a variable declares for what follows, a `for` for its body, and a catch
-- variable for its branch.
use Rattle.std.proofs.Common.{◌≡◌, ap, refl, sym, ◌∙◌, subst, Bool, true, ◌||◌, IsTrue, List, [], ◌∷◌, ◌++◌, length, take}
use Rattle.std.proofs.Common.{append_assoc}
use Rattle.std.proofs.Math.Seq.{take-append_seam}
use Rattle.std.proofs.lemmas.List.{append-nil}
use Rattle.std.specs.Prelude.{Option, Some, None, option_map, IsSomeAnd}
use Rattle.std.specs.declared.num.NonZeroUsize.{NonZeroUsize}
use Rattle.rhai_tree.specs.declared.fault.CheckFault.{CheckFault}
use Rattle.rhai_check.specs.declared.check.declared.Declared.{Declared}
use Rattle.rhai_check.specs.declared.check.place.Place.{Place}
use Rattle.rhai_tree.specs.declared.expr.Expr.{Expr, out-Expr}
use Rattle.rhai_tree.specs.declared.expr.Expr.TheOpen as layer
use Rattle.rhai_tree.specs.declared.expr.Ident.{Ident}
use Rattle.rhai_tree.specs.declared.expr.StmtBlock.{StmtBlock}
use Rattle.rhai_tree.specs.declared.position.Position.{Position}
use Rattle.rhai_tree.specs.Layers.{ExprLayer}
use Rattle.rhai_tree.specs.Positions.{position_of}
use Rattle.rhai_tree.specs.Context.{Context, looping, declaring}
use Rattle.rhai_check.specs.Around.{above, around, cut, extent_of, Continues}
use Rattle.rhai_check.specs.MemoryNeeds.{block_needs_memory, catch_needs_memory, names_a_catch, needs_of}
use Rattle.rhai_tree.specs.Forms.{catch_name, catch_of}
use Rattle.rhai_tree.specs.Frame.{with_name, turn_names, var_names, resolves_block, turns_resolve, catch_resolves}
use Rattle.rhai_tree.specs.Names.{Frame, Name, Begins, naming, with_import, with_variable}
use Rattle.rhai_tree.specs.Reading as walk
use Rattle.rhai_tree.specs.Reading.{faulty, sound}
use Rattle.rhai_check.specs.Refusals.{IsFirst, Refuses}
use Rattle.rhai_tree.specs.WellFormed.{seen_expr, seen_block, turn_faults, catch_faults}
use Rattle.rhai_tree.proofs.Catch.{catch_seen, pos_seen}
use Rattle.rhai_check.proofs.Walk.{expr_declares, in-catch}
use Rattle.rhai_check.proofs.Refused.{refuses_more, refuses_later}

-- in a loop
abbrev pub in_loop : Place → Place
in_loop place = record place { in_loop = true }

-- ---- what is declared later is forgotten

taken : (old new : List Name) → Begins old new → take (length old) new ≡ old
taken old new (added, is) = ap (take (length old)) is ∙ take-append_seam old added

pub restored : (d new : Declared) → Continues d new → cut (extent_of d) new ≡ d
restored d new (names, imports) = λ i. record { names = taken d.names new.names names i; imports = taken d.imports new.imports imports i }

pub continues_same : (d new : Declared) → new ≡ d → Continues d new
continues_same d new is = (
  ([], ap (λ (e : Declared). e.names) is ∙ sym (append-nil d.names)),
  ([], ap (λ (e : Declared). e.imports) is ∙ sym (append-nil d.imports)),
)

-- where names alone are declared
with_names : (d new : Declared) (names : List Name) → Begins d.names names → new ≡ record d { names = names } → Continues d new
with_names d new names (added, begins) is =
    ((added, ap (λ (e : Declared). e.names) is ∙ begins), ([], ap (λ (e : Declared). e.imports) is ∙ sym (append-nil d.imports)))

-- where there is a new import
pub continues_import : (d new : Declared) (name : Name) → new ≡ record d { imports = d.imports ++ name ∷ [] } → Continues d new
continues_import d new name is =
    (([], ap (λ (e : Declared). e.names) is ∙ sym (append-nil d.names)), (name ∷ [], ap (λ (e : Declared). e.imports) is))

-- ---- what is declared, above a frame

pub above_none : (base : Frame) → above base (record { names = []; imports = [] }) ≡ base
above_none base = λ i. record { names = append-nil base.names i; imports = append-nil base.imports i }

named_above : (base : Frame) (d : Declared) (more : List Name) →
    naming (λ names. names ++ more) (above base d) ≡ above base (record d { names = d.names ++ more })
named_above base d more = ap (λ (names : List Name). record (above base d) { names = names }) (append_assoc base.names d.names more)

pub imported_above : (base : Frame) (d : Declared) (name : Name) →
    with_import name (above base d) ≡ above base (record d { imports = d.imports ++ name ∷ [] })
imported_above base d name =
    ap (λ (imports : List Name). record (above base d) { imports = imports }) (append_assoc base.imports d.imports (name ∷ []))

-- ---- a variable, which declares its name where it overwrites no other

module _ (index : Option NonZeroUsize) (name : Name) where
  pub around_var : (d : Declared) (place : Place) →
      walk.after_var faulty index name (around d place) ≡ around (record d { names = var_names index name d.names }) place
  around_var d place = elim index as
      (λ i. walk.after_var faulty i name (around d place) ≡ around (record d { names = var_names i name d.names }) place) [
        | None ↦ refl
        | Some offset ↦ refl
      ]

  pub above_var : (base : Frame) (d : Declared) →
      walk.after_var sound index name (above base d) ≡ above base (record d { names = var_names index name d.names })
  above_var base d = elim index as
      (λ i. walk.after_var sound i name (above base d) ≡ above base (record d { names = var_names i name d.names })) [
        | None ↦ named_above base d (name ∷ [])
        | Some offset ↦ refl
      ]

  begins_var : (names : List Name) → Begins names (var_names index name names)
  begins_var names = elim index as (λ i. Begins names (var_names i name names)) [
    | None ↦ (name ∷ [], refl)
    | Some offset ↦ ([], sym (append-nil names))
  ]

  pub continues_var : (d new : Declared) → new ≡ record d { names = var_names index name d.names } → Continues d new
  continues_var d new is = with_names d new (var_names index name d.names) (begins_var d.names) is

-- ---- the body of a `for`

module _ (variable : Ident) (counter : Option Ident) (d : Declared) where
  -- what is declared for it
  abbrev pub turned : Declared
  turned = record d { names = turn_names variable counter d.names }

  -- what surrounds it
  around_turn : (place : Place) →
      looping (declaring variable.name (walk.after faulty (option_map (walk.name_in faulty) counter) (around d place)))
      ≡ around turned (in_loop place)
  around_turn place = elim counter as (λ (o : Option Ident).
      looping (declaring variable.name (walk.after faulty (option_map (walk.name_in faulty) o) (around d place)))
      ≡ around (record d { names = turn_names variable o d.names }) (in_loop place)) [ None ↦ refl | Some ident ↦ refl ]

  -- its names stand above the frame before it
  above_turn : (base : Frame) →
      with_variable variable.name (walk.after sound (option_map (walk.name_in sound) counter) (above base d)) ≡ above base turned
  above_turn base = elim counter as (λ (o : Option Ident).
      with_variable variable.name (walk.after sound (option_map (walk.name_in sound) o) (above base d))
      ≡ above base (record d { names = turn_names variable o d.names })) [
        | None ↦ named_above base d (variable.name ∷ [])
        | Some ident ↦ ap (with_variable variable.name) (named_above base d (ident.name ∷ []))
            ∙ named_above base (record d { names = d.names ++ ident.name ∷ [] }) (variable.name ∷ [])
      ]

  begins_turn : Begins d.names (turn_names variable counter d.names)
  begins_turn = elim counter as (λ (o : Option Ident). Begins d.names (turn_names variable o d.names)) [
    | None ↦ (variable.name ∷ [], refl)
    | Some ident ↦ (ident.name ∷ variable.name ∷ [], append_assoc d.names (ident.name ∷ []) (variable.name ∷ []))
  ]

  -- and are taken back
  pub turn_back : cut (extent_of d) turned ≡ d
  turn_back = restored d turned (with_names d turned (turn_names variable counter d.names) begins_turn refl)

  module _ (body : StmtBlock) where
    turn_body : (place : Place) →
        turn_faults variable counter body (around d place) ≡ (seen_block body).value (around turned (in_loop place))
    turn_body place = ap (λ (c : Context). (seen_block body).value c) (around_turn place)

    pub turn_passes : (place : Place) → (seen_block body).value (around turned (in_loop place)) ≡ [] →
        turn_faults variable counter body (around d place) ≡ []
    turn_passes place h = turn_body place ∙ h

    pub turn_runs : ((base : Frame) → IsTrue (resolves_block body (above base turned))) →
        (base : Frame) → IsTrue (turns_resolve variable counter body (above base d))
    turn_runs h base = ap (resolves_block body) (above_turn base) ∙ h base

    pub turn_refused : (place : Place) (declares : Bool) (fault : CheckFault) →
        Refuses ((seen_block body).value (around turned (in_loop place))) declares fault →
        Refuses (turn_faults variable counter body (around d place)) true fault
    turn_refused place declares fault h = refuses_more _ _ declares true fault
        (λ k. subst (λ (fs : List CheckFault). IsFirst fs fault) (sym (turn_body place)) k) (λ k. refl) h

-- ---- a branch behind its catch variable

-- what surrounds what stands after a name that may be left out
around_name : (name : Option Name) (d : Declared) (place : Place) →
    walk.after faulty name (around d place) ≡ around (record d { names = with_name name d.names }) place
around_name None d place = refl
around_name (Some name) d place = refl

above_name : (name : Option Name) (base : Frame) (d : Declared) →
    walk.after sound name (above base d) ≡ above base (record d { names = with_name name d.names })
above_name None base d = refl
above_name (Some name) base d = named_above base d (name ∷ [])

begins_name : (name : Option Name) (names : List Name) → Begins names (with_name name names)
begins_name None names = ([], sym (append-nil names))
begins_name (Some name) names = (name ∷ [], refl)

-- what is declared behind a catch variable
abbrev pub Caught : (catch : Option (Option Name)) → (d new : Declared) → Type 0
Caught catch d new = IsSomeAnd catch (λ name. new ≡ record d { names = with_name name d.names })

-- it is taken back
pub caught_back : (catch : Option (Option Name)) (d new : Declared) → Caught catch d new → cut (extent_of d) new ≡ d
caught_back (Some name) d new is = restored d new (with_names d new (with_name name d.names) (begins_name name d.names) is)
caught_back None d new is = absurd is

-- a good one has no fault, and the branch is found above its name
caught : (catch : Option (Option Name)) (pos : Position) (branch : walk.Finds faulty) (d new : Declared) (place : Place) →
    Caught catch d new → walk.found_in_catch faulty catch pos branch (around d place) ≡ branch (around new place)
caught (Some name) pos branch d new place is =
    ap branch (around_name name d place) ∙ ap (λ (e : Declared). branch (around e place)) (sym is)
caught None pos branch d new place is = absurd is

caught_runs : (catch : Option (Option Name)) (pos : Position) (branch : walk.Finds sound) (d new : Declared) →
    Caught catch d new → ((base : Frame) → IsTrue (branch (above base new))) →
    (base : Frame) → IsTrue (walk.found_in_catch sound catch pos branch (above base d))
caught_runs (Some name) pos branch d new is h base =
    ap branch (above_name name base d ∙ ap (above base) (sym is)) ∙ h base
caught_runs None pos branch d new is h base = absurd is

module _ (variable : Expr) (branch : StmtBlock) (d new : Declared) (is : Caught (catch_of variable) d new) where
  pub branch_passes : (place : Place) → (seen_block branch).value (around new place) ≡ [] →
      catch_faults variable branch (around d place) ≡ []
  branch_passes place h = caught (catch_of variable) (position_of variable) (seen_block branch).value d new place is ∙ h

  pub branch_runs : ((base : Frame) → IsTrue (resolves_block branch (above base new))) →
      (base : Frame) → IsTrue (catch_resolves variable branch (above base d))
  branch_runs h base = caught_runs (catch_of variable) (position_of variable) (resolves_block branch) d new is h base

  pub branch_refused : (place : Place) (fault : CheckFault) →
      Refuses ((seen_block branch).value (around new place)) (block_needs_memory branch) fault →
      Refuses (catch_faults variable branch (around d place)) (catch_needs_memory variable branch) fault
  branch_refused place fault h =
      let found : catch_faults variable branch (around d place) ≡ (seen_block branch).value (around new place) =
      caught (catch_of variable) (position_of variable) (seen_block branch).value d new place is in
      subst (λ (fs : List CheckFault). Refuses fs (catch_needs_memory variable branch) fault) (sym found)
      (refuses_later [] ((seen_block branch).value (around new place)) (names_a_catch (catch_of variable)) (block_needs_memory branch) fault
      refl h)

-- what is seen of a catch variable is what it is
pub catch_same : (r : walk.Reading) (variable : Expr) (branch : walk.Finds r) (c : r.Around) →
    walk.found_in_catch r (walk.seen_expr r variable).catch (walk.seen_expr r variable).pos branch c
    ≡ walk.found_in_catch r (catch_of variable) (position_of variable) branch c
catch_same r variable branch c = λ i. walk.found_in_catch r (catch_seen r variable i) (pos_seen r variable i) branch c

catch_level : (l : ExprLayer) → catch_name (expr_declares l) ≡ catch_name l
catch_level (layer.Variable offset name namespace pos) = refl
catch_level (layer.Unit pos) = refl
catch_level _ = refl

pub needs_same : (variable : Expr) → (needs_of variable).in_catch ≡ names_a_catch (catch_of variable)
needs_same variable = in-catch variable ∙ ap names_a_catch (catch_level (out-Expr variable))

pub catch_refused : (variable : Expr) (branch : StmtBlock) (c : Context) (e : CheckFault) →
    Refuses (catch_faults variable branch c) (catch_needs_memory variable branch) e →
    Refuses (walk.found_in_catch faulty (seen_expr variable).catch (seen_expr variable).pos (seen_block branch).value c)
    ((needs_of variable).in_catch || block_needs_memory branch) e
catch_refused variable branch c e h = refuses_more _ _ _ _ e
    (λ k. subst (λ (fs : List CheckFault). IsFirst fs e) (sym (catch_same faulty variable (seen_block branch).value c)) k)
    (λ k. subst (λ (b : Bool). IsTrue (b || block_needs_memory branch)) (sym (needs_same variable)) k) h
