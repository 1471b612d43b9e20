-- Two ends of a call from one start.
use Rattle.std.specs.Prelude.{◌≡◌, Bool, true, false, Option, Some, None, Result, Ok, Err}
use Rattle.rhai_values.specs.declared.base.value.Dynamic.{Dynamic}
use Rattle.rhai_errors.specs.declared.error.EvalAltResult.{EvalAltResult}
use Rattle.rhai_errors.specs.Errors.{is_out_of_memory}
use Rattle.rhai_spots.specs.declared.spot.Spot.{Spot}
use Rattle.rhai_places.specs.declared.target.Target.{Target}
use Rattle.rhai_spots.specs.Found.{EndsBy}

module _ {A H : Type 0} where
  -- whether memory ran out
  abbrev pub memory_ran_out : Result A (EvalAltResult H) → Bool
  memory_ran_out (Ok value) = false
  memory_ran_out (Err e) = is_out_of_memory e

  -- two answers are one, unless memory ran out in either
  abbrev pub SameAnswer : (r s : Result A (EvalAltResult H)) → Type 0
  SameAnswer r s = memory_ran_out r ≡ false → memory_ran_out s ≡ false → r ≡ s

  -- whether memory ran out, where there may be no answer at all
  abbrev pub option_ran_out : Option (Result A (EvalAltResult H)) → Bool
  option_ran_out None = false
  option_ran_out (Some r) = memory_ran_out r

module _ {H : Type 0} where
  -- two errors are one, unless memory ran out in either
  abbrev pub SameError : (e f : EvalAltResult H) → Type 0
  SameError e f = is_out_of_memory e ≡ false → is_out_of_memory f ≡ false → e ≡ f

  -- two targets borrow equal values and show equal parts, and two errors are one, unless memory ran out in either
  abbrev pub SameTarget : (r s : Result (Target H) (EvalAltResult H)) → Type 0
  SameTarget (Ok t) (Ok u) = (t.at.now ≡ u.at.now) × (t.part ≡ u.part)
  SameTarget (Ok t) (Err f) = is_out_of_memory f ≡ true
  SameTarget (Err e) (Ok u) = is_out_of_memory e ≡ true
  SameTarget (Err e) (Err f) = SameError e f

-- what was found, and what stands at its place, settle what the value ends as
abbrev pub EndsOnce : Type 0 → Type 0
EndsOnce H = (found : Result (Dynamic H × Spot) (EvalAltResult H)) (place one other : Dynamic H) → EndsBy found place one →
    EndsBy found place other → one ≡ other
