-- Where no indexer is called the focus stays.
use Rattle.std.proofs.Common.{◌≡◌, ◌≤◌, ◌+◌, ℕ, Bool, true, false, refl}
use Rattle.std.proofs.lemmas.Bool.{le-ltb}
use Rattle.std.specs.Prelude.{◌&&◌, nat_lt, Option, Result, Ok, Err, OnErr}
use Rattle.rhai_index.specs.Lends.{EndsRefused}
use Rattle.rhai_index.specs.Types.{Dynamic, EvalAltResult, Target}

-- at a limit none is called
pub no_room : (asked : Bool) (count limit : ℕ) → limit ≤ count + 1 → (asked && nat_lt (count + 1) limit) ≡ false
no_room false count limit full = refl
no_room true count limit full = le-ltb (count + 1) limit full

pub uncalled : {H : Type 0} (called : Bool) (left : Option (Dynamic H)) (MayEnd : Dynamic H → Type 0)
    (r : Result (Target H) (EvalAltResult H)) (x : Dynamic H) → called ≡ false → OnErr r (EndsRefused called left MayEnd r x x)
uncalled called left MayEnd (Ok target) x is = tt
uncalled called left MayEnd (Err e) x is = rw is refl
