-- Paths that are read after a value was written at their end.
use Rattle.std.proofs.Common.{◌≡◌, ◌⊎◌, inl, inr, ℕ, zero, suc, Bool, true, false, List, [], ◌∷◌, ◌++◌, Option, Some, None, refl, ap, sym}
use Rattle.std.proofs.Common.{◌∙◌, if◌then◌else◌}
use Rattle.std.specs.List.{slice_get, slice_set}
use Rattle.std.specs.Option.{option_flatten, unwrap_or}
use Rattle.std.proofs.lemmas.Option.{slice_get_within}
use Rattle.rhai_values.specs.declared.base.value.Dynamic.{Dynamic}
use Rattle.rhai_values.specs.declared.base.value.FnPtrKind.TheOpen as layer
use Rattle.rhai_values.specs.Cells.{value_of_cell, with_value as with_cell}
use Rattle.rhai_values.specs.Layers.{UnionLayer, layer_of}
use Rattle.rhai_spots.specs.declared.spot.Spot.{Spot}
use Rattle.rhai_spots.specs.declared.spot.Spot.TheVariants as spot
use Rattle.rhai_spots.specs.Parts.{IsPlace, value_at, value_in, with_value}
use Rattle.rhai_places.proofs.PlaceLemmas.{written as place_written, stays as place_stays}
use Rattle.rhai_spots.specs.Paths.{Step, ToPlace, ToCell, Avoids, IsPlain, IsSimple, Parts, Cells, Rooted}
use Rattle.rhai_spots.specs.Paths.{gone_back, leads_to, next, read, read_from, write}

set_stays : {X : Type 0} → (xs : List X) (i j : ℕ) (x : X) → (i ≡ j → ⊥) → slice_get (slice_set xs i x) j ≡ slice_get xs j
set_stays [] i j x ne = refl
set_stays (y ∷ xs) zero zero x ne = absurd (ne refl)
set_stays (y ∷ xs) zero (suc j) x ne = refl
set_stays (y ∷ xs) (suc i) zero x ne = refl
set_stays (y ∷ xs) (suc i) (suc j) x ne = set_stays xs i j x (λ e. ne (ap suc e))

set_read : {X : Type 0} → (xs : List X) (i : ℕ) (x y : X) → slice_get xs i ≡ Some y → slice_get (slice_set xs i x) i ≡ Some x
set_read [] i x y is = let no : None ≡ Some y = is in absurd (cc no)
set_read (z ∷ xs) zero x y is = refl
set_read (z ∷ xs) (suc i) x y is = set_read xs i x y is

-- what is there is in the list, whatever it is
cell_there : {X : Type 0} → (o : Option (Option X)) (v : X) → option_flatten o ≡ Some v → o ≡ Some (Some v)
cell_there None v is = let no : None ≡ Some v = is in absurd (cc no)
cell_there (Some o) v is = ap Some is

avoids_last : (n m : ℕ) (path : List Step) → Avoids n (path ++ ToCell m ∷ []) → n ≡ m → ⊥
avoids_last n m [] h = h.0
avoids_last n m (ToPlace at ∷ path) h = avoids_last n m path h
avoids_last n m (ToCell k ∷ path) h = avoids_last n m path h.1

simple_rest : (first : Step) (path : List Step) → IsSimple (first ∷ path) → IsSimple path
simple_rest (ToPlace at) path simple = simple
simple_rest (ToCell n) path simple = simple.1

module _ {H : Type 0} where
  place_in : (kind : UnionLayer H) (at : Spot) (u : Dynamic H) → value_in kind at ≡ Some u → IsPlace kind at
  place_in (layer.Array items) (spot.Item i) u is = slice_get_within items i u is
  place_in (layer.Map entries) (spot.Value i) u is = slice_get_within entries.1 i u is
  place_in kind at u is = let no : None ≡ Some u = is in absurd (cc no)

  read_none : (cells : Cells H) (path : List Step) → read_from cells None path ≡ None
  read_none cells [] = refl
  read_none cells (step ∷ path) = read_none cells path

  -- nothing is read behind what is not there
  nothing_read : {A : Type 0} (cells : Cells H) (path : List Step) (u : Dynamic H) → read_from cells None path ≡ Some u → A
  nothing_read cells path u is = let no : None ≡ Some u = sym (read_none cells path) ∙ is in absurd (cc no)

  -- ---- another cell

  module _ (cells : Cells H) (n : ℕ) (x : Option (Dynamic H)) where
    next_avoids : (v : Dynamic H) (m : ℕ) → (n ≡ m → ⊥) → next (slice_set cells n x) v (ToCell m) ≡ next cells v (ToCell m)
    next_avoids v m ne = ap (λ o. if leads_to v.value m then option_flatten o else None) (set_stays cells n m x ne)

    read_avoids : (v : Option (Dynamic H)) (path : List Step) → Avoids n path →
        read_from (slice_set cells n x) v path ≡ read_from cells v path
    read_avoids v [] h = refl
    read_avoids None (step ∷ path) h = read_none (slice_set cells n x) path ∙ sym (read_none cells path)
    read_avoids (Some v) (ToPlace at ∷ path) h = read_avoids (value_at v at) path h
    read_avoids (Some v) (ToCell m ∷ path) h = ap (λ o. read_from (slice_set cells n x) o path) (next_avoids v m h.0)
        ∙ read_avoids (next cells v (ToCell m)) path h.1

  -- ---- what is written is read

  -- a cell that a path avoids is not written
  cell_stays : (root : Rooted H) (n : ℕ) (path : List Step) (w : Dynamic H) → Avoids n path →
      slice_get (write root path w).cells n ≡ slice_get root.cells n
  cell_stays root n [] w h = refl
  cell_stays root n (ToPlace at ∷ path) w h =
      cell_stays (record root { value = unwrap_or (next root.cells root.value (ToPlace at)) root.value }) n path w h
  cell_stays root n (ToCell m ∷ path) w h =
      let below : Rooted H = record root { value = unwrap_or (next root.cells root.value (ToCell m)) root.value } in
      set_stays (write below path w).cells m n (Some (write below path w).value) (λ e. h.0 (sym e)) ∙ cell_stays below n path w h.1

  -- what is written below a value is read there
  abbrev Written : Cells H → List Step → (u w : Dynamic H) → Type 0
  Written cells path u w = (v : Dynamic H) → read_from cells (Some v) path ≡ Some u →
      read (write (record { value = v; cells = cells }) path w) path ≡ Some w

  through_place : (root : Rooted H) (at : Spot) (path : List Step) (u w : Dynamic H) → Written root.cells path u w →
      (o : Option (Dynamic H)) → value_at root.value at ≡ o → read_from root.cells o path ≡ Some u →
      read (write root (ToPlace at ∷ path) w) (ToPlace at ∷ path) ≡ Some w
  through_place root at path u w below_written None leads is = nothing_read root.cells path u is
  through_place root at path u w below_written (Some v) leads is =
      let below : Rooted H = record root { value = v } in
      let goes : write root (ToPlace at ∷ path) w ≡ gone_back root.value (ToPlace at) (write below path w)
      = ap (λ o. gone_back root.value (ToPlace at) (write (record root { value = unwrap_or o root.value }) path w)) leads in
      ap (λ r. read r (ToPlace at ∷ path)) goes
      ∙ ap (λ o. read_from (write below path w).cells o path)
      (place_written root.value (write below path w).value at (place_in (layer_of root.value) at v leads))
      ∙ below_written v is

  through_cell : (root : Rooted H) (n : ℕ) (path : List Step) (u w : Dynamic H) → Avoids n path → Written root.cells path u w →
      (b : Bool) → leads_to root.value.value n ≡ b → (o : Option (Dynamic H)) → value_of_cell root.cells n ≡ o →
      read_from root.cells (if b then o else None) path ≡ Some u →
      read (write root (ToCell n ∷ path) w) (ToCell n ∷ path) ≡ Some w
  through_cell root n path u w avoids below_written false leads o there is = nothing_read root.cells path u is
  through_cell root n path u w avoids below_written true leads None there is = nothing_read root.cells path u is
  through_cell root n path u w avoids below_written true leads (Some v) there is =
      let below : Rooted H = record root { value = v } in
      let sub : Rooted H = write below path w in
      let reads : next root.cells root.value (ToCell n) ≡ Some v
      = ap (λ b. if b then value_of_cell root.cells n else None) leads ∙ there in
      let goes : write root (ToCell n ∷ path) w ≡ gone_back root.value (ToCell n) sub
      = ap (λ o. gone_back root.value (ToCell n) (write (record root { value = unwrap_or o root.value }) path w)) reads in
      let stood : slice_get sub.cells n ≡ Some (Some v)
      = cell_stays below n path w avoids ∙ cell_there (slice_get root.cells n) v there in
      let written_there : value_of_cell (with_cell sub.cells n sub.value) n ≡ Some sub.value
      = ap option_flatten (set_read sub.cells n (Some sub.value) (Some v) stood) in
      let reads_after : next (with_cell sub.cells n sub.value) root.value (ToCell n) ≡ Some sub.value
      = ap (λ b. if b then value_of_cell (with_cell sub.cells n sub.value) n else None) leads ∙ written_there in
      ap (λ r. read r (ToCell n ∷ path)) goes
      ∙ ap (λ o. read_from (with_cell sub.cells n sub.value) o path) reads_after
      ∙ read_avoids sub.cells n (Some sub.value) (Some sub.value) path avoids
      ∙ below_written v is

  pub written : (root : Rooted H) (path : List Step) (u w : Dynamic H) → IsSimple path → read root path ≡ Some u →
      read (write root path w) path ≡ Some w
  written root [] u w simple is = refl
  written root (ToPlace at ∷ path) u w simple is = through_place root at path u w
      (λ v below. written (record { value = v; cells = root.cells }) path u w simple below) (value_at root.value at) refl is
  written root (ToCell n ∷ path) u w simple is = through_cell root n path u w simple.0
      (λ v below. written (record { value = v; cells = root.cells }) path u w simple.1 below)
      (leads_to root.value.value n) refl (value_of_cell root.cells n) refl is

  -- ---- what stands off the path stays

  cells_stay : (root : Rooted H) (path : List Step) (w : Dynamic H) → IsPlain path → (write root path w).cells ≡ root.cells
  cells_stay root [] w plain = refl
  cells_stay root (ToPlace at ∷ path) w plain =
      cells_stay (record root { value = unwrap_or (next root.cells root.value (ToPlace at)) root.value }) path w plain
  cells_stay root (ToCell n ∷ path) w plain = absurd plain

  -- what stands off a path below a value stays
  abbrev Stays : Cells H → (path other : List Step) → (u w : Dynamic H) → Type 0
  Stays cells path other u w = (v : Dynamic H) → read_from cells (Some v) path ≡ Some u →
      read (write (record { value = v; cells = cells }) path w) other ≡ read_from cells (Some v) other

  -- at a place, once what is below went back there, a path that parts from it reads what it read
  parted : (root : Rooted H) (at other : Spot) (path others : List Step) (u v w : Dynamic H) → IsPlace (layer_of root.value) at →
      value_at root.value at ≡ Some v → IsPlain path → read_from root.cells (Some v) path ≡ Some u →
      (at ≡ other → ⊥) ⊎ ((at ≡ other) × Stays root.cells path others u w) →
      read (gone_back root.value (ToPlace at) (write (record root { value = v }) path w)) (ToPlace other ∷ others)
      ≡ read root (ToPlace other ∷ others)
  parted root at other path others u v w there leads plain is (inl apart) =
      let sub : Rooted H = write (record root { value = v }) path w in
      ap (λ o. read_from sub.cells o others) (place_stays root.value sub.value at other there apart)
      ∙ ap (λ cells. read_from cells (value_at root.value other) others) (cells_stay (record root { value = v }) path w plain)
  parted root at other path others u v w there leads plain is (inr (same, below)) =
      let sub : Rooted H = write (record root { value = v }) path w in
      ap (λ o. read_from sub.cells o others)
      (ap (λ spot. value_at (with_value root.value at sub.value) spot) (sym same) ∙ place_written root.value sub.value at there)
      ∙ below v is
      ∙ ap (λ o. read_from root.cells o others) (sym leads ∙ ap (λ spot. value_at root.value spot) same)

  stays_below : (root : Rooted H) (at other : Spot) (path others : List Step) (u w : Dynamic H) → IsPlain path →
      (at ≡ other → ⊥) ⊎ ((at ≡ other) × Stays root.cells path others u w) →
      (o : Option (Dynamic H)) → value_at root.value at ≡ o → read_from root.cells o path ≡ Some u →
      read (write root (ToPlace at ∷ path) w) (ToPlace other ∷ others) ≡ read root (ToPlace other ∷ others)
  stays_below root at other path others u w plain apart None leads is = nothing_read root.cells path u is
  stays_below root at other path others u w plain apart (Some v) leads is =
      let goes : write root (ToPlace at ∷ path) w ≡ gone_back root.value (ToPlace at) (write (record root { value = v }) path w)
      = ap (λ o. gone_back root.value (ToPlace at) (write (record root { value = unwrap_or o root.value }) path w)) leads in
      ap (λ r. read r (ToPlace other ∷ others)) goes
      ∙ parted root at other path others u v w (place_in (layer_of root.value) at v leads) leads plain is apart

  pub stays : (root : Rooted H) (path other : List Step) (u w : Dynamic H) → IsPlain path → Parts path other → read root path ≡ Some u →
      read (write root path w) other ≡ read root other
  stays root [] other u w plain parts is = absurd parts
  stays root (ToCell n ∷ path) other u w plain parts is = absurd plain
  stays root (ToPlace at ∷ path) [] u w plain parts is = absurd parts
  stays root (ToPlace at ∷ path) (ToCell n ∷ others) u w plain parts is = absurd parts
  stays root (ToPlace at ∷ path) (ToPlace other ∷ others) u w plain (inl apart) is =
      stays_below root at other path others u w plain (inl apart) (value_at root.value at) refl is
  stays root (ToPlace at ∷ path) (ToPlace other ∷ others) u w plain (inr (same, parts)) is =
      stays_below root at other path others u w plain
      (inr (same, λ v below. stays (record { value = v; cells = root.cells }) path others u w plain parts below))
      (value_at root.value at) refl is

  -- ---- what goes back step by step is written at once

  -- a step before the last leads where it led
  next_stays : (cells : Cells H) (v w u : Dynamic H) (first : Step) (path : List Step) (last : Step) →
      IsSimple (first ∷ path ++ last ∷ []) →
      next (gone_back u last (record { value = w; cells = cells })).cells v first ≡ next cells v first
  next_stays cells v w u (ToPlace at) path last simple = refl
  next_stays cells v w u (ToCell n) path (ToPlace at) simple = refl
  next_stays cells v w u (ToCell n) path (ToCell m) simple =
      next_avoids cells m (Some w) v n (λ e. avoids_last n m path simple.0 (sym e))

  abbrev back_up : Rooted H → Step → Dynamic H → Dynamic H → Rooted H
  back_up root step u w = gone_back u step (record root { value = w })

  -- what goes back below a value is written there
  abbrev GoesBack : Cells H → (path : List Step) (step : Step) (u v w : Dynamic H) → Type 0
  GoesBack cells path step u v w = (x : Dynamic H) → read_from cells (Some x) path ≡ Some u →
      let root : Rooted H = record { value = x; cells = cells } in
      write root (path ++ step ∷ []) w ≡ write (record root { cells = (back_up root step u w).cells }) path (back_up root step u w).value

  through : (root : Rooted H) (first : Step) (path : List Step) (step : Step) (u v w : Dynamic H) →
      IsSimple (first ∷ path ++ step ∷ []) → GoesBack root.cells path step u v w →
      (o : Option (Dynamic H)) → next root.cells root.value first ≡ o → read_from root.cells o path ≡ Some u →
      write root (first ∷ path ++ step ∷ []) w
      ≡ write (record root { cells = (back_up root step u w).cells }) (first ∷ path) (back_up root step u w).value
  through root first path step u v w simple below None there is = nothing_read root.cells path u is
  through root first path step u v w simple below (Some x) there is =
      let up : Rooted H = back_up root step u w in
      ap (λ o. gone_back root.value first (write (record root { value = unwrap_or o root.value }) (path ++ step ∷ []) w)) there
      ∙ ap (λ r. gone_back root.value first r) (below x is)
      ∙ ap (λ o. gone_back root.value first (write (record { value = unwrap_or o root.value; cells = up.cells }) path up.value))
      (sym (next_stays root.cells root.value w u first path step simple ∙ there))

  pub goes_back : (root : Rooted H) (path : List Step) (step : Step) (u v w : Dynamic H) → IsSimple (path ++ step ∷ []) →
      read root path ≡ Some u → next root.cells u step ≡ Some v →
      write root (path ++ step ∷ []) w ≡ write (record root { cells = (back_up root step u w).cells }) path (back_up root step u w).value
  goes_back root [] step u v w simple is leads =
      ap (λ x. gone_back x step (record root { value = w })) (ap (λ o. unwrap_or o root.value) is)
  goes_back root (first ∷ path) step u v w simple is leads = through root first path step u v w simple
      (λ x below. goes_back (record { value = x; cells = root.cells }) path step u v w (simple_rest first (path ++ step ∷ []) simple)
      below leads) (next root.cells root.value first) refl is
