-- What stands at a spot of a value fits, and so does the value with another one there.
use Rattle.std.proofs.Common.{ℕ, List, ◌∷◌, length, take, drop}
use Rattle.std.specs.Prelude.{⊤, Bool, true, false, if◌then◌else◌, Option, Some, None, Result, Ok, Err, slice_set, option_map}
use Rattle.std.specs.Prelude.{insert}
use Rattle.std.specs.Option.{unwrap_or}
use Rattle.rhai_tree.specs.Lookup.{paired, place_of, rank, put_at, with_entry}
use Rattle.rhai_values.specs.Cells.{IsNoHandle}
use Rattle.rhai_values.specs.Copy.{plain}
use Rattle.rhai_values.specs.declared.base.value.FnPtrKind.TheOpen as layer
use Rattle.rhai_values.specs.declared.base.value.Union.TheVariants as value
use Rattle.rhai_values.specs.Layers.{UnionLayer, layer_of}
use Rattle.rhai_errors.specs.Native.{HasNoHandle}
use Rattle.rhai_values.specs.ValueContents.{Reached}
use Rattle.rhai_machine.specs.Types.{Dynamic, EvalAltResult, Union}
use Rattle.rhai_spots.specs.declared.spot.Access.{Access}
use Rattle.rhai_spots.specs.declared.spot.Refusal.{Refusal}
use Rattle.rhai_spots.specs.declared.spot.Spot.{Spot}
use Rattle.rhai_spots.specs.declared.spot.Refusal.TheVariants as refusal
use Rattle.rhai_spots.specs.declared.spot.Spot.TheVariants as spot
use Rattle.rhai_spots.specs.Found.{with_key, without_key, spot_or_error, found_by, found, through}
use Rattle.rhai_spots.specs.Indexing.{located}
use Rattle.rhai_spots.specs.Parts.{is_part, value_in, value_at, with_value_in, with_value, part_in, part_of}
use Rattle.rhai_spots.specs.PutBack.{put_in, put, put_back}
use Rattle.rhai_spots.specs.Refusals.{refused}
use Rattle.rhai_machine.specs.language.Located.{taken_at}
use Rattle.rhai_machine.specs.language.Values.{Cells, unit_value}
use Rattle.rhai_fits.specs.Contents.{of_maybe, of_values}
use Rattle.rhai_fits.proofs.Values.{Fit, FitUnion, FitLayer, fit_out, fit_array, fit_map, fit_unit, fit_bool, fit_int, fit_char, fit_text}
use Rattle.rhai_fits.proofs.Values.{fit_blob}
use Rattle.rhai_fits.proofs.Copies.{fit_copy}
use Rattle.rhai_fits.proofs.Errors.{FitError, fit_error}
use Rattle.rhai_fits.proofs.Fitting.{AllFit, Gives, Flat, all_fit, fit_all, values_joined, values_taken, values_dropped, values_at}
use Rattle.rhai_fits.proofs.Fitting.{values_set}

module _ {H : Type 0} where
  -- a value with another one at a place is a handle only where it was one
  with_value_no_handle : (u : Union H) (l : UnionLayer H) (at : Spot) (v : Dynamic H) → IsNoHandle u → IsNoHandle (with_value_in u l at v)
  with_value_no_handle u (layer.Array items) (spot.Item at) v h = tt
  with_value_no_handle u (layer.Map entries) (spot.Value at) v h = tt
  with_value_no_handle u _ _ v h = h

  pub set_no_handle : (source : Dynamic H) (at : Spot) (v : Dynamic H) → IsNoHandle source.value → IsNoHandle (with_value source at v).value
  set_no_handle source at v h = with_value_no_handle source.value (layer_of source) at v h

  put_in_no_handle : (source : UnionLayer H) (at : Spot) (part : UnionLayer H) (whole : Dynamic H) →
      HasNoHandle (option_map (λ u. record whole { value = u }) (put_in source at part))
  put_in_no_handle (layer.Int n) (spot.Bit at) (layer.Bool on) whole = tt
  put_in_no_handle (layer.Int n) (spot.BitField start end) (layer.Int v) whole = tt
  put_in_no_handle (layer.Str text) (spot.Char at) (layer.Char c) whole = tt
  put_in_no_handle (layer.Str text) (spot.Slice start end) (layer.Str new) whole = tt
  put_in_no_handle (layer.Blob bytes) (spot.Byte at) (layer.Int v) whole = tt
  put_in_no_handle _ _ _ whole = tt

module _ {H : Type 0} (own : H → List Reached) (P : Reached → Type 0) (least : ℕ) where
  -- ---- maps

  abbrev All : List (Dynamic H) → Type 0
  All vs = AllFit own P least (of_values vs)

  inserted : (vs : List (Dynamic H)) (n : ℕ) (v : Dynamic H) → All vs → Fit own P v → All (insert vs n v)
  inserted vs n v h f = values_joined own P least (take n vs) (v ∷ drop n vs) (values_taken own P least n vs h)
      (f, values_dropped own P least n vs h)

  put_at_fits : (at : Option ℕ) (key : List ℕ) (v : Dynamic H) (entries : List (List ℕ) × List (Dynamic H)) → All entries.1 → Fit own P v →
      All (put_at at key v entries).1
  put_at_fits (Some at) key v entries h f = values_set own P least entries.1 at v h f
  put_at_fits None key v entries h f = inserted entries.1 (rank key entries.0) v h f

  pub entry_fits : (key : List ℕ) (v : Dynamic H) (entries : List (List ℕ) × List (Dynamic H)) → All entries.1 → Fit own P v →
      All (with_entry key v entries).1
  entry_fits key v entries h f = put_at_fits (place_of key entries.0) key v entries h f

  -- ---- places

  in_fits : (l : UnionLayer H) (at : Spot) → FitLayer own P l → AllFit own P least (of_maybe (value_in l at))
  in_fits (layer.Array items) (spot.Item at) h = values_at own P least items at (all_fit own P least items h)
  in_fits (layer.Map entries) (spot.Value at) h = values_at own P least entries.1 at (all_fit own P least entries.1 h)
  in_fits _ _ h = tt

  pub value_at_fits : (source : Dynamic H) (at : Spot) → Fit own P source → AllFit own P least (of_maybe (value_at source at))
  value_at_fits source at h = in_fits (layer_of source) at (fit_out own P source.value h)

  set_in_fits : (u : Union H) (l : UnionLayer H) (at : Spot) (v : Dynamic H) → FitUnion own P u → FitLayer own P l → Fit own P v →
      FitUnion own P (with_value_in u l at v)
  set_in_fits u (layer.Array items) (spot.Item at) v h g f = fit_array own P _
      (fit_all own P least (slice_set items at v) (values_set own P least items at v (all_fit own P least items g) f))
  set_in_fits u (layer.Map entries) (spot.Value at) v h g f = fit_map own P _
      (fit_all own P least (slice_set entries.1 at v) (values_set own P least entries.1 at v (all_fit own P least entries.1 g) f))
  set_in_fits u _ _ v h g f = h

  pub set_fits : (source : Dynamic H) (at : Spot) (v : Dynamic H) → Fit own P source → Fit own P v → Fit own P (with_value source at v)
  set_fits source at v h f = set_in_fits source.value (layer_of source) at v h (fit_out own P source.value h) f

  -- ---- parts

  part_in_fits : (l : UnionLayer H) (at : Spot) → FitUnion own P (part_in l at)
  part_in_fits (layer.Int n) (spot.Bit at) = fit_bool own P _
  part_in_fits (layer.Int n) (spot.BitField start end) = fit_int own P _
  part_in_fits (layer.Str text) (spot.Char at) = fit_char own P _
  part_in_fits (layer.Str text) (spot.Slice start end) = fit_text own P _
  part_in_fits (layer.Blob bytes) (spot.Byte at) = fit_int own P _
  part_in_fits _ _ = fit_unit own P

  pub part_fits : (source : Dynamic H) (at : Spot) → Fit own P (part_of source at)
  part_fits source at = part_in_fits (layer_of source) at

  -- a part put back makes a value that fits and is no handle, as the value above is
  abbrev FlatMaybe : Option (Dynamic H) → Type 0
  FlatMaybe None = ⊤
  FlatMaybe (Some v) = Fit own P v

  put_in_fits : (l : UnionLayer H) (at : Spot) (part : UnionLayer H) (source : Dynamic H) →
      FlatMaybe (option_map (λ u. record source { value = u }) (put_in l at part))
  put_in_fits (layer.Int n) (spot.Bit at) (layer.Bool on) source = fit_int own P _
  put_in_fits (layer.Int n) (spot.BitField start end) (layer.Int v) source = fit_int own P _
  put_in_fits (layer.Str text) (spot.Char at) (layer.Char c) source = fit_text own P _
  put_in_fits (layer.Str text) (spot.Slice start end) (layer.Str new) source = fit_text own P _
  put_in_fits (layer.Blob bytes) (spot.Byte at) (layer.Int v) source = fit_blob own P _
  put_in_fits _ _ _ source = tt

  -- what a part put back makes: a value that fits, and is a handle only where the value above is one
  abbrev pub Whole : (source : Dynamic H) → Option (Dynamic H) → Type 0
  Whole source None = ⊤
  Whole source (Some w) = Fit own P w × (IsNoHandle source.value → IsNoHandle w.value)

  made_whole : (source : Dynamic H) (r : Option (Dynamic H)) → FlatMaybe r → HasNoHandle r → Whole source r
  made_whole source None h s = tt
  made_whole source (Some w) h s = (h, λ n. s)

  if_whole : (b : Bool) (source : Dynamic H) (r : Option (Dynamic H)) → Fit own P source → Whole source r →
      Whole source (if b then r else Some source)
  if_whole true source r h w = w
  if_whole false source r h w = (h, λ n. n)

  pub whole_fits : (source : Dynamic H) (at : Spot) (part : Dynamic H) → Fit own P source → Whole source (put_back source at part)
  whole_fits source at part h = if_whole (is_part (layer_of source) at) source (put source at (layer_of part)) h
      (made_whole source (put source at (layer_of part)) (put_in_fits (layer_of source) at (layer_of part) source)
      (put_in_no_handle (layer_of source) at (layer_of part) source))

  -- ---- what an index finds

  abbrev pub FlatSource : Dynamic H × Spot → Type 0
  FlatSource found = Flat own P least found.0

  refused_fits : (host : H → List ℕ) (cells : Cells H) (how : Access) (source index : Dynamic H) (why : Refusal) →
      FitError own P (refused host cells how source index why)
  refused_fits host cells how source index (refusal.ArrayBounds bounds) = fit_error own P _ tt
  refused_fits host cells how source index (refusal.BitFieldBounds bounds) = fit_error own P _ tt
  refused_fits host cells how source index (refusal.StringBounds bounds) = fit_error own P _ tt
  refused_fits host cells how source index refusal.WantsInteger = fit_error own P _ tt
  refused_fits host cells how source index refusal.WantsText = fit_error own P _ tt
  refused_fits host cells how source index refusal.NotIndexed = fit_error own P _ tt

  key_flat : (source : Dynamic H) (l index : UnionLayer H) → Flat own P least source → FitLayer own P l →
      FlatSource (with_key source l index)
  key_flat source (layer.Map entries) (layer.Str key) f h = (
    fit_map own P _ (fit_all own P least (with_entry key (plain value.Unit) (paired entries)).1
        (entry_fits key (plain value.Unit) (paired entries) (values_taken own P least (length entries.0) entries.1
        (all_fit own P least entries.1 h)) (fit_unit own P))),
    tt,
  )
  key_flat source _ _ f h = f

  if_gives : (b : Bool) (r t : Result (Dynamic H × Spot) (EvalAltResult H)) → Gives own P least FlatSource r →
      Gives own P least FlatSource t → Gives own P least FlatSource (if b then r else t)
  if_gives true r t h g = h
  if_gives false r t h g = g

  without_gives : (how : Access) (source index : Dynamic H) → Flat own P least source →
      Gives own P least FlatSource (without_key how source index)
  without_gives how source index f = if_gives how.add_if_not_found _ _
      (key_flat source (layer_of source) (layer_of index) f (fit_out own P source.value f.0))
      (if_gives how.fail_on_invalid_map_property _ _ (fit_error own P _ tt) f)

  settled_gives : (how : Access) (host : H → List ℕ) (cells : Cells H) (source index : Dynamic H) (r : Result Spot Refusal) →
      Flat own P least source → Gives own P least FlatSource (spot_or_error how host cells source index r)
  settled_gives how host cells source index (Ok spot.Missing) f = without_gives how source index f
  settled_gives how host cells source index (Ok at) f = f
  settled_gives how host cells source index (Err why) f = refused_fits host cells how source index why

  found_by_gives : (how : Access) (host : H → List ℕ) (cells : Cells H) (source : Dynamic H) (index : Option (Dynamic H)) →
      Flat own P least source → Gives own P least FlatSource (found_by how host cells source index)
  found_by_gives how host cells source (Some index) f =
      settled_gives how host cells source index (located (layer_of source) (layer_of index)) f
  found_by_gives how host cells source None f = fit_error own P _ tt

  pub found_gives : (how : Access) (host : H → List ℕ) (cells : Cells H) (source index : Dynamic H) → Flat own P least source →
      Gives own P least FlatSource (found how host cells source index)
  found_gives how host cells source index f = found_by_gives how host cells source (through cells index) f

  -- ---- what is taken of a spot

  there_fits : (there : Option (Dynamic H)) → AllFit own P least (of_maybe there) → Fit own P (unwrap_or there unit_value)
  there_fits None h = fit_unit own P
  there_fits (Some v) h = h

  pub value_there_fits : (source : Dynamic H) (at : Spot) → Fit own P source → Fit own P (unwrap_or (value_at source at) unit_value)
  value_there_fits source at h = there_fits (value_at source at) (value_at_fits source at h)

  pub taken_fits : (source : Dynamic H) (at : Spot) → Fit own P source → Fit own P (taken_at source at)
  taken_fits source (spot.Item i) h = fit_copy own P (unwrap_or (value_at source (spot.Item i)) unit_value) (value_there_fits source
      (spot.Item i) h)
  taken_fits source (spot.Value i) h = fit_copy own P (unwrap_or (value_at source (spot.Value i)) unit_value) (value_there_fits source
      (spot.Value i) h)
  taken_fits source spot.Missing h = fit_unit own P
  taken_fits source (spot.Byte i) h = part_fits source (spot.Byte i)
  taken_fits source (spot.Bit i) h = part_fits source (spot.Bit i)
  taken_fits source (spot.BitField start end) h = part_fits source (spot.BitField start end)
  taken_fits source (spot.Char i) h = part_fits source (spot.Char i)
  taken_fits source (spot.Slice start end) h = part_fits source (spot.Slice start end)
