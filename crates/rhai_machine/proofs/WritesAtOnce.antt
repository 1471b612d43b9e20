-- What a chain writes back step by step, as it leaves the frames of a path, is one write at the path.
use Rattle.std.proofs.Common.{refl, ap, sym, subst, ◌∙◌, zero, suc}
use Rattle.std.proofs.lemmas.Bool.{eq-eqb}
use Rattle.std.specs.Prelude.{◌≡◌, ℕ, Bool, true, false, nat_eq, List, [], ◌∷◌, ◌++◌, Option, Some, None, if◌then◌else◌}
use Rattle.std.specs.List.{slice_get, slice_set}
use Rattle.std.specs.Option.{option_flatten, unwrap_or}
use Rattle.rhai_machine.specs.Types.{Dynamic, EvalAltResult}
use Rattle.rhai_values.specs.declared.base.value.Union.TheVariants as value
use Rattle.rhai_values.specs.declared.base.value.CellId.{CellId}
use Rattle.rhai_values.specs.Cells.{value_of_cell, with_held}
use Rattle.rhai_spots.specs.Parts.{value_at}
use Rattle.rhai_spots.specs.Paths.{Avoids, Cells, IsSimple, Rooted, Step, ToPlace, ToCell, gone_back, leads_to, next as leads, read}
use Rattle.rhai_spots.specs.Paths.{read_from, write}
use Rattle.rhai_machine.specs.machine.Point.{Reaches, after, here, next, ◌⨾◌}
use Rattle.rhai_machine.specs.language.Setting.{Rules, cut}
use Rattle.rhai_machine.specs.language.State.{State}
use Rattle.rhai_machine.specs.language.Frames.{Control, Frame, core, Walk, Back, Changed, Fail, ChainEnd, StepDown}
use Rattle.rhai_machine.specs.language.Handles.{entered_by, focused_on}
use Rattle.rhai_machine.specs.language.Chains.{behind_link}
use Rattle.rhai_machine.specs.language.Unwinding.{gone_up}
use Rattle.rhai_machine.specs.language.Language.{machine}
use Rattle.rhai_machine.specs.language.Runs.{at}
use Rattle.rhai_machine.specs.language.Descents.{DescentLaws, EndsWritten, EntersCell, EntersPlace, WritesAtOnce, end_of, frames_of}
use Rattle.rhai_machine.specs.language.Descents.{gone_down, works_on}

-- ---- two writes to a list

-- of two at one place the second stands
set_twice : {X : Type 0} → (xs : List X) (i : ℕ) (x y : X) → slice_set (slice_set xs i x) i y ≡ slice_set xs i y
set_twice [] i x y = refl
set_twice (z ∷ xs) zero x y = refl
set_twice (z ∷ xs) (suc i) x y = ap (λ ys. z ∷ ys) (set_twice xs i x y)

-- two at different places stand whichever comes first
set_either_way : {X : Type 0} → (xs : List X) (i j : ℕ) (x y : X) → (i ≡ j → ⊥) →
    slice_set (slice_set xs i x) j y ≡ slice_set (slice_set xs j y) i x
set_either_way [] i j x y apart = refl
set_either_way (z ∷ xs) zero zero x y apart = absurd (apart refl)
set_either_way (z ∷ xs) zero (suc j) x y apart = refl
set_either_way (z ∷ xs) (suc i) zero x y apart = refl
set_either_way (z ∷ xs) (suc i) (suc j) x y apart = ap (λ ys. z ∷ ys) (set_either_way xs i j x y (λ e. apart (ap suc e)))

-- what is read at another place stays
read_elsewhere : {X : Type 0} → (xs : List X) (i j : ℕ) (x : X) → (i ≡ j → ⊥) → slice_get (slice_set xs i x) j ≡ slice_get xs j
read_elsewhere [] i j x apart = refl
read_elsewhere (z ∷ xs) zero zero x apart = absurd (apart refl)
read_elsewhere (z ∷ xs) zero (suc j) x apart = refl
read_elsewhere (z ∷ xs) (suc i) zero x apart = refl
read_elsewhere (z ∷ xs) (suc i) (suc j) x apart = read_elsewhere xs i j x (λ e. apart (ap suc e))

is_itself : (n : ℕ) → nat_eq n n ≡ true
is_itself n = eq-eqb n n refl

simple_behind : (step : Step) (path : List Step) → IsSimple (step ∷ path) → IsSimple path
simple_behind (ToPlace spot) path simple = simple
simple_behind (ToCell number) path simple = simple.1

avoids_further : (n : ℕ) (path : List Step) (step : Step) → Avoids n path → Avoids n (step ∷ []) → Avoids n (path ++ step ∷ [])
avoids_further n [] step avoids last = last
avoids_further n (ToPlace spot ∷ path) step avoids last = avoids_further n path step avoids last
avoids_further n (ToCell m ∷ path) step avoids last = (avoids.0, avoids_further n path step avoids.1 last)

module _ {H : Type 0} where
  -- ---- a cell that a path avoids may be held meanwhile

  abbrev rooted : Dynamic H → Cells H → Rooted H
  rooted v cells = record { value = v; cells = cells }

  module _ (n : ℕ) (x : Option (Dynamic H)) where
    leads_alike : (cells : Cells H) (v : Dynamic H) (m : ℕ) → (n ≡ m → ⊥) →
        leads (slice_set cells n x) v (ToCell m) ≡ leads cells v (ToCell m)
    leads_alike cells v m apart =
        ap (λ o. if leads_to v.value m then option_flatten o else None) (read_elsewhere cells n m x apart)

    reads_alike : (cells : Cells H) (v : Option (Dynamic H)) (path : List Step) → Avoids n path →
        read_from (slice_set cells n x) v path ≡ read_from cells v path
    reads_alike cells v [] avoids = refl
    reads_alike cells None (ToPlace spot ∷ path) avoids = reads_alike cells None path avoids
    reads_alike cells None (ToCell m ∷ path) avoids = reads_alike cells None path avoids.1
    reads_alike cells (Some v) (ToPlace spot ∷ path) avoids = reads_alike cells (value_at v spot) path avoids
    reads_alike cells (Some v) (ToCell m ∷ path) avoids =
        ap (λ o. read_from (slice_set cells n x) o path) (leads_alike cells v m avoids.0)
        ∙ reads_alike cells (leads cells v (ToCell m)) path avoids.1

    -- a root with this in that cell
    abbrev with_this : Rooted H → Rooted H
    with_this root = record root { cells = slice_set root.cells n x }

    writes_alike : (root : Rooted H) (path : List Step) (w : Dynamic H) → Avoids n path →
        write (with_this root) path w ≡ with_this (write root path w)
    writes_alike root [] w avoids = refl
    writes_alike root (ToPlace spot ∷ path) w avoids = ap (gone_back root.value (ToPlace spot))
        (writes_alike (record root { value = unwrap_or (value_at root.value spot) root.value }) path w avoids)
    writes_alike root (ToCell m ∷ path) w avoids =
        let below : Rooted H = record root { value = unwrap_or (leads root.cells root.value (ToCell m)) root.value } in
        ap (λ o. gone_back root.value (ToCell m) (write (with_this (record root { value = unwrap_or o root.value })) path w))
        (leads_alike root.cells root.value m avoids.0)
        ∙ ap (gone_back root.value (ToCell m)) (writes_alike below path w avoids.1)
        ∙ ap (λ cells. rooted root.value cells)
        (set_either_way (write below path w).cells n m x (Some (write below path w).value) avoids.0)

  -- ---- one step of a path

  -- what is written behind a step, with its cell held, goes back as it does without
  goes_back : (root : Rooted H) (step : Step) (path : List Step) (w : Dynamic H) → IsSimple (step ∷ path) →
      gone_back root.value step (write (gone_down root step) path w) ≡ write root (step ∷ path) w
  goes_back root (ToPlace spot) path w simple = refl
  goes_back root (ToCell n) path w simple =
      let below : Rooted H = record root { value = unwrap_or (leads root.cells root.value (ToCell n)) root.value } in
      ap (gone_back root.value (ToCell n)) (writes_alike n None below path w simple.0)
      ∙ ap (λ cells. rooted root.value cells)
      (set_twice (write below path w).cells n None (Some (write below path w).value))

  read_none : (cells : Cells H) (path : List Step) → read_from cells None path ≡ None
  read_none cells [] = refl
  read_none cells (step ∷ path) = read_none cells path

  -- what is read behind a step is read with its cell held
  read_below : (root : Rooted H) (step : Step) (path : List Step) (u : Dynamic H) → IsSimple (step ∷ path) → (o : Option (Dynamic H)) →
      leads root.cells root.value step ≡ o → read_from root.cells o path ≡ Some u → read (gone_down root step) path ≡ Some u
  read_below root step path u simple None there is = let no : None ≡ Some u = sym (read_none root.cells path) ∙ is in absurd (cc no)
  read_below root (ToPlace spot) path u simple (Some v) there is =
      ap (λ o. read_from root.cells (Some (unwrap_or o root.value)) path) there ∙ is
  read_below root (ToCell n) path u simple (Some v) there is =
      ap (λ o. read_from (slice_set root.cells n None) (Some (unwrap_or o root.value)) path) there
      ∙ reads_alike n None root.cells (Some v) path simple.0
      ∙ is

  pub end_is_read : (root : Rooted H) (path : List Step) (u : Dynamic H) → IsSimple path → read root path ≡ Some u →
      (end_of root path).value ≡ u
  end_is_read root [] u simple is = cc
  end_is_read root (step ∷ path) u simple is = end_is_read (gone_down root step) path u (simple_behind step path simple)
      (read_below root step path u simple (leads root.cells root.value step) refl is)

  -- ---- what the walk enters it has not entered yet

  held_still : (cells : Cells H) (i n : ℕ) → value_of_cell cells n ≡ None → value_of_cell (slice_set cells i None) n ≡ None
  held_still [] i n held = held
  held_still (c ∷ cells) zero zero held = refl
  held_still (c ∷ cells) zero (suc n) held = held
  held_still (c ∷ cells) (suc i) zero held = held
  held_still (c ∷ cells) (suc i) (suc n) held = held_still cells i n held

  held_now : (cells : Cells H) (n : ℕ) → value_of_cell (slice_set cells n None) n ≡ None
  held_now [] n = refl
  held_now (c ∷ cells) zero = refl
  held_now (c ∷ cells) (suc n) = held_now cells n

  -- a cell that is held stays held on the way down
  held_below : (root : Rooted H) (path : List Step) (n : ℕ) → value_of_cell root.cells n ≡ None →
      value_of_cell (end_of root path).cells n ≡ None
  held_below root [] n held = held
  held_below root (ToPlace spot ∷ path) n held = held_below (gone_down root (ToPlace spot)) path n held
  held_below root (ToCell m ∷ path) n held = held_below (gone_down root (ToCell m)) path n (held_still root.cells m n held)

  nothing_there : (b : Bool) {o : Option (Dynamic H)} {v : Dynamic H} → o ≡ None → (if b then o else None) ≡ Some v → ⊥
  nothing_there true none there = let no : None ≡ Some _ = sym none ∙ there in cc no
  nothing_there false none there = cc there

  -- a step that leads somewhere leads to no cell that is held
  step_avoids : (end : Rooted H) (n : ℕ) (step : Step) (v : Dynamic H) → value_of_cell end.cells n ≡ None →
      leads end.cells end.value step ≡ Some v → Avoids n (step ∷ [])
  step_avoids end n (ToPlace spot) v held there = tt
  step_avoids end n (ToCell m) v held there = (
    λ same. nothing_there (leads_to end.value.value m)
        (ap (λ m. value_of_cell end.cells m) (sym same) ∙ held) there,
    tt,
  )

  pub stays_simple : (root : Rooted H) (path : List Step) (step : Step) (v : Dynamic H) → IsSimple path →
      leads (end_of root path).cells (end_of root path).value step ≡ Some v → IsSimple (path ++ step ∷ [])
  stays_simple root [] (ToPlace spot) v simple there = tt
  stays_simple root [] (ToCell n) v simple there = (tt, tt)
  stays_simple root (ToPlace spot ∷ path) step v simple there = stays_simple (gone_down root (ToPlace spot)) path step v simple there
  stays_simple root (ToCell n ∷ path) step v simple there =
      let below : Rooted H = gone_down root (ToCell n) in (
        avoids_further n path step simple.0
            (step_avoids (end_of below path) n step v (held_below below path n (held_now root.cells n)) there),
        stays_simple below path step v simple.1 there,
      )

  -- ---- the way down

  -- one step more is one frame more
  end_pushed : (root : Rooted H) (path : List Step) (step : Step) → end_of root (path ++ step ∷ []) ≡ gone_down (end_of root path) step
  end_pushed root [] step = refl
  end_pushed root (first ∷ path) step = end_pushed (gone_down root first) path step

  frame_pushed : (root : Rooted H) (path : List Step) (step : Step) (k : List (Frame H)) →
      frames_of root (path ++ step ∷ []) k ≡ StepDown (end_of root path).value step ∷ frames_of root path k
  frame_pushed root [] step k = refl
  frame_pushed root (first ∷ path) step k = frame_pushed (gone_down root first) path step (StepDown root.value first ∷ k)

  -- what is said of the frames and the end of a path, and one step below it, is said of the longer path
  pushed : {A : Type 0} → (go : List (Frame H) → Rooted H → A) (root : Rooted H) (path : List Step) (step : Step) (k : List (Frame H)) →
      go (StepDown (end_of root path).value step ∷ frames_of root path k) (gone_down (end_of root path) step)
      ≡ go (frames_of root (path ++ step ∷ []) k) (end_of root (path ++ step ∷ []))
  pushed go root path step k =
      sym (ap (λ frames. go frames (gone_down (end_of root path) step)) (frame_pushed root path step k)
      ) ∙ sym (ap (go (frames_of root (path ++ step ∷ []) k)) (end_pushed root path step))

  -- a handle leads to its cell
  in_cell : (end : Rooted H) (id : CellId) (v : Dynamic H) → end.value.value ≡ value.Cell id → value_of_cell end.cells id.number ≡ Some v →
      leads end.cells end.value (ToCell id.number) ≡ Some v
  in_cell end id v handle there =
      ap (λ b. if b then value_of_cell end.cells id.number else None) (ap (λ u. leads_to u id.number) handle ∙ is_itself id.number) ∙ there

module _ {S H : Type 0} (rules : Rules S H) where
  enters_place : EntersPlace rules
  enters_place root path spot v there link rest index chain k l =
      let end : Rooted H = end_of root path in
      let frames : List (Frame H) = StepDown end.value (ToPlace spot) ∷ frames_of root path k in
      let walks : Control H = Walk (behind_link link rest true chain) in
      ap (λ o. core walks frames (focused_on o (gone_up end l))) there
      ∙ sym (ap (λ o. core walks frames (gone_up (record end { value = unwrap_or o end.value }) l)) there)
      ∙ pushed (λ k end. core walks k (gone_up end l)) root path (ToPlace spot) k

  enters_cell : EntersCell rules
  enters_cell root path id v handle there go k l =
      let end : Rooted H = end_of root path in
      let frames : List (Frame H) = frames_of root path k in
      let held : Cells H = with_held end.cells id.number in
      ap (λ u. entered_by u v go frames (gone_up end l)) handle
      ∙ sym (ap (λ o. go (StepDown end.value (ToCell id.number) ∷ frames) (gone_up (rooted (unwrap_or o end.value) held) l))
      (in_cell end id v handle there))
      ∙ pushed (λ k end. go k (gone_up end l)) root path (ToCell id.number) k

  -- ---- the way up

  -- a control goes up through a frame of a step, and the focus goes back there
  abbrev GoesUp : Control H → Type 0
  GoesUp control = (above : Dynamic H) (step : Step) (below : Rooted H) (k : List (Frame H)) (s : State S H) →
      Reaches (machine rules) (cut rules) (at control (StepDown above step ∷ k) (works_on below s))
      (at control k (works_on (gone_back above step below) s))

  value_goes_up : (v : Dynamic H) → GoesUp (Back v)
  unfolding after
  value_goes_up v above step below k s = next here

  changed_goes_up : (v : Dynamic H) → GoesUp (Changed v)
  unfolding after
  changed_goes_up v above step below k s = next here

  error_goes_up : (e : EvalAltResult H) → GoesUp (Fail e)
  unfolding after
  error_goes_up e above step below k s = next here

  writes_at_once : (control : Control H) → GoesUp control → WritesAtOnce rules control
  writes_at_once control goes_up root [] w k s simple = here
  writes_at_once control goes_up root (step ∷ path) w k s simple =
      let below : Rooted H = write (gone_down root step) path w in
      let behind : List (Frame H) = StepDown root.value step ∷ k in
      writes_at_once control goes_up (gone_down root step) path w behind s (simple_behind step path simple)
      ⨾ subst (λ up. Reaches (machine rules) (cut rules) (at control behind (works_on below s))
      (at control k (works_on up s))) (goes_back root step path w simple) (goes_up root.value step below k s)

  -- ---- the chain's end

  value_ends : (v : Dynamic H) → EndsWritten rules (Back v) (Back v)
  unfolding after
  value_ends v root path w lender outer k s simple =
      writes_at_once (Back v) (value_goes_up v) root path w (ChainEnd lender outer ∷ k) s simple ⨾ next here

  changed_end_writes : (v : Dynamic H) → EndsWritten rules (Changed v) (Back v)
  unfolding after
  changed_end_writes v root path w lender outer k s simple =
      writes_at_once (Changed v) (changed_goes_up v) root path w (ChainEnd lender outer ∷ k) s simple ⨾ next (next here)

  error_ends : (e : EvalAltResult H) → EndsWritten rules (Fail e) (Fail e)
  unfolding after
  error_ends e root path w lender outer k s simple =
      writes_at_once (Fail e) (error_goes_up e) root path w (ChainEnd lender outer ∷ k) s simple ⨾ next here

  pub descent_laws : DescentLaws rules
  descent_laws = record {
    leads = end_is_read;
    stays_simple = stays_simple;
    enters_place = enters_place;
    enters_cell = enters_cell;
    by_value = λ v. writes_at_once (Back v) (value_goes_up v);
    by_changed = λ v. writes_at_once (Changed v) (changed_goes_up v);
    by_error = λ e. writes_at_once (Fail e) (error_goes_up e);
    ends_by_value = value_ends;
    ends_by_changed = changed_end_writes;
    ends_by_error = error_ends;
  }
