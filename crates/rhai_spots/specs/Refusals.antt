-- The errors of what is refused, and what holds of an error where memory may have run out.
use Rattle.std.specs.Prelude.{◌≡◌, ℕ, false, List, Option, codes}
use Rattle.rhai_spots.specs.Types.{Access, Dynamic, EvalAltResult, Refusal}
use Rattle.rhai_errors.specs.Errors.{indexing_text, is_out_of_memory, mismatch}
use Rattle.rhai_values.specs.TypeNames.{type_name_of}
use Rattle.rhai_errors.specs.declared.error.EvalAltResult.TheVariants as error
use Rattle.rhai_spots.specs.declared.spot.Refusal.TheVariants as refusal

module _ {H : Type 0} where
  -- an error is the one told, or memory ran out
  abbrev pub IsTold : (told e : EvalAltResult H) → Type 0
  IsTold told e = is_out_of_memory e ≡ false → e ≡ told

  -- the error of an index that is refused
  module _ (host_name : H → List ℕ) (cells : List (Option (Dynamic H))) (how : Access) (source index : Dynamic H) where
    -- the error, by why the index is refused
    abbrev pub refused : Refusal → EvalAltResult H
    refused (refusal.ArrayBounds bounds) = error.ErrorArrayBounds bounds how.idx_pos
    refused (refusal.BitFieldBounds bounds) = error.ErrorBitFieldBounds bounds how.idx_pos
    refused (refusal.StringBounds bounds) = error.ErrorStringBounds bounds how.idx_pos
    refused refusal.WantsInteger = mismatch (codes "i64") (type_name_of host_name cells index) how.idx_pos
    refused refusal.WantsText = mismatch (codes "string") (type_name_of host_name cells index) how.idx_pos
    refused refusal.NotIndexed = error.ErrorIndexingType (indexing_text (type_name_of host_name cells source)
        (type_name_of host_name cells index)) how.op_pos
