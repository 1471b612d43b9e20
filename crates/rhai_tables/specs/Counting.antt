-- What the natives over a counter and over pairs do.
use Rattle.std.specs.Prelude.{ℤ, pos, ◌+ℤ◌, ◌*ℤ◌, List, [], ◌∷◌, Option, Some, None, codes, if◌then◌else◌}
use Rattle.std.specs.Option.{option_and_then, option_map}
use Rattle.std.specs.Ordering.{int_eq}
use Rattle.rhai_values.specs.declared.base.value.Dynamic.{Dynamic}
use Rattle.rhai_values.specs.declared.base.value.Union.{Union}
use Rattle.rhai_operators.specs.Integers.{fits}
use Rattle.rhai_natives.specs.declared.response.Datum.TheVariants as datum
use Rattle.rhai_natives.specs.declared.response.Fault.TheVariants.{Arithmetic, Runtime}
use Rattle.rhai_natives.specs.declared.response.Response.{Response}
use Rattle.rhai_natives.specs.declared.response.Response.TheVariants.{Gives, Changes, Faults}
use Rattle.rhai_natives.specs.Arguments.{both, host_and_array_in, host_and_int_in, host_and_ints_in, host_in, int_in, int_of, ints_in}
use Rattle.rhai_natives.specs.Arguments.{none_in}
use Rattle.rhai_natives.specs.Listed.{Entry, impure, pure}
use Rattle.rhai_natives.specs.Responses.{Done, done}
use Rattle.rhai_tables.specs.declared.host.Pair.{Pair}
use Rattle.rhai_tables.specs.declared.tables.counting.CountingNative.{CountingNative}
use Rattle.rhai_tables.specs.declared.tables.counting.CountingNative.TheVariants.{Inc, Double, Next, Pairs}
use Rattle.rhai_tables.specs.declared.tables.counting.pairs.PairNative.{PairNative}
use Rattle.rhai_tables.specs.declared.tables.counting.pairs.PairNative.TheVariants as pairs

-- the natives by their names, and which of them are pure; the list of a pair is also its view, which has no setter
abbrev pub listing : List (Entry CountingNative)
listing = impure (codes "inc") Inc
    ∷ pure (codes "double") Double
    ∷ impure (codes "next") Next
    ∷ pure (codes "pair") (Pairs pairs.New)
    ∷ pure (codes "get$x") (Pairs pairs.X)
    ∷ pure (codes "get$y") (Pairs pairs.Y)
    ∷ pure (codes "get$sum") (Pairs pairs.Sum)
    ∷ pure (codes "get$list") (Pairs pairs.List)
    ∷ pure (codes "get$view") (Pairs pairs.List)
    ∷ impure (codes "set$x") (Pairs pairs.SetX)
    ∷ impure (codes "set$y") (Pairs pairs.SetY)
    ∷ impure (codes "set$list") (Pairs pairs.SetList)
    ∷ pure (codes "index$get$") (Pairs pairs.At)
    ∷ impure (codes "index$set$") (Pairs pairs.SetAt)
    ∷ []

-- the fault of a result that is too large or too small for an integer
abbrev pub overflow : Response Pair
overflow = Faults (Arithmetic (codes "integer overflow"))

-- the first argument becomes one more
abbrev pub increased : ℤ → Response Pair
increased n = if fits (n +ℤ pos 1) then Changes datum.Unit (datum.Int (n +ℤ pos 1)) else overflow

-- twice the argument
abbrev pub doubled : ℤ → Response Pair
doubled n = if fits (n *ℤ pos 2) then Gives (datum.Int (n *ℤ pos 2)) else overflow

-- the counter, which is one more afterwards
abbrev pub counted : ℤ → Done ℤ Pair
counted counter = if fits (counter +ℤ pos 1) then done (Gives (datum.Int counter)) (counter +ℤ pos 1) else done overflow counter

-- ---- pairs

-- two integers as a pair
abbrev pub pair_of : (x y : ℤ) → Pair
pair_of x y = record { 0 = x; 1 = y }

-- the answer of `pair`: the pair of two integers
abbrev pub made : (x y : ℤ) → Response Pair
made x y = Gives (datum.Host (pair_of x y))

-- the answer of `get$x`: the first number of a pair
abbrev pub x_of : Pair → Response Pair
x_of p = Gives (datum.Int p.0)

-- the answer of `get$y`: the second number of a pair
abbrev pub y_of : Pair → Response Pair
y_of p = Gives (datum.Int p.1)

-- the answer of `get$sum`: the sum of a pair's numbers
abbrev pub sum_of : Pair → Response Pair
sum_of p = if fits (p.0 +ℤ p.1) then Gives (datum.Int (p.0 +ℤ p.1)) else overflow

-- the answer of `get$list`: an array of a pair's numbers
abbrev pub list_of : Pair → Response Pair
list_of p = Gives (datum.Integers (p.0 ∷ p.1 ∷ []))

-- the first argument becomes another pair
abbrev pub becomes : Pair → Response Pair
becomes p = Changes datum.Unit (datum.Host p)

-- the pair gets another first number
abbrev pub with_x : Pair → ℤ → Response Pair
with_x p n = becomes (pair_of n p.1)

-- the pair gets another second number
abbrev pub with_y : Pair → ℤ → Response Pair
with_y p n = becomes (pair_of p.0 n)

-- the pair gets the numbers of an array of exactly two integers
abbrev pub with_list : List (Dynamic Pair) → Option (Response Pair)
with_list (a ∷ b ∷ []) = option_map (λ n. becomes (pair_of n.0 n.1)) (both (int_of a.value) (int_of b.value))
with_list _ = None

-- what is at an index: the numbers at 0 and 1, a fault at 3, and no native at any other
abbrev pub number_at : Pair → (index : ℤ) → Option (Response Pair)
number_at p index =
    if int_eq index (pos 0) then Some (x_of p)
    else if int_eq index (pos 1) then Some (y_of p)
    else if int_eq index (pos 3) then Some (Faults (Runtime datum.Unit))
    else None

-- a pair with another number at an index: at 2 both are that number, and there is no native at any but these
abbrev pub with_number_at : Pair → (index n : ℤ) → Option (Response Pair)
with_number_at p index n =
    if int_eq index (pos 0) then Some (with_x p n)
    else if int_eq index (pos 1) then Some (with_y p n)
    else if int_eq index (pos 2) then Some (becomes (pair_of n n))
    else None

-- what each native over pairs does with its arguments
abbrev pub answering_pair : PairNative → List (Union Pair) → Option (Response Pair)
answering_pair pairs.New given = option_map (λ c. made c.0 c.1) (ints_in given)
answering_pair pairs.X given = option_map x_of (host_in given)
answering_pair pairs.Y given = option_map y_of (host_in given)
answering_pair pairs.Sum given = option_map sum_of (host_in given)
answering_pair pairs.List given = option_map list_of (host_in given)
answering_pair pairs.SetX given = option_map (λ c. with_x c.0 c.1) (host_and_int_in given)
answering_pair pairs.SetY given = option_map (λ c. with_y c.0 c.1) (host_and_int_in given)
answering_pair pairs.SetList given = option_and_then (λ c. with_list c.1) (host_and_array_in given)
answering_pair pairs.At given = option_and_then (λ c. number_at c.0 c.1) (host_and_int_in given)
answering_pair pairs.SetAt given = option_and_then (λ c. with_number_at c.0 c.1 c.2) (host_and_ints_in given)

-- ---- all of them

-- what each does with its arguments
abbrev pub answering : ℤ → CountingNative → List (Union Pair) → Option (Done ℤ Pair)
answering counter Inc given = option_map (λ n. done (increased n) counter) (int_in given)
answering counter Double given = option_map (λ n. done (doubled n) counter) (int_in given)
answering counter Next given = option_map (λ none. counted counter) (none_in given)
answering counter (Pairs native) given = option_map (λ r. done r counter) (answering_pair native given)
