-- The bench's table: the natives of `Counting`, or those of `Odd`.
use Rattle.std.specs.Prelude.{ℕ, ℤ, Bool, List, Option, Some, None, codes}
use Rattle.rhai_tree.specs.declared.literal.NativeId.{NativeId}
use Rattle.rhai_values.specs.ValueContents.{Reached, Holdings}
use Rattle.rhai_errors.specs.Native.{Effect, Key, Named, Numbered, Natives, Purity, Request, effect}
use Rattle.rhai_natives.specs.Table.{natives_in}
use Rattle.rhai_tables.specs.declared.host.Pair.{Pair}
use Rattle.rhai_tables.specs.declared.tables.bench.BenchTable.{BenchTable}
use Rattle.rhai_tables.specs.declared.tables.bench.BenchTable.TheVariants.{Counting, Odd}
use Rattle.rhai_tables.specs.Counting.{answering, listing}
use Rattle.rhai_tables.specs.Odd as odd

-- the state of either
pub data State : Type 0 where
  OfCounting : ℤ → State
  OfOdd : odd.Kept → State

-- the state of a table
abbrev pub state_of : BenchTable → State
state_of (Counting natives) = OfCounting natives.natives.counter
state_of (Odd natives) = OfOdd (odd.kept_of natives.kept)

-- the name of a host's value
abbrev pub name_of : Pair → List ℕ
name_of p = codes "Pair"

-- the natives of a number, or else of a name
abbrev pub key_of : (name : List ℕ) → Option NativeId → Key
key_of name None = Named name
key_of name (Some id) = Numbered id.number

-- the natives of `Counting`
abbrev pub counting : Natives ℤ Pair
counting = natives_in listing answering

-- an effect on one of them as one on either
abbrev pub within : {S : Type 0} → (S → State) → Effect S Pair → Effect State Pair
within f e = effect e.reply e.first (f e.state)

-- what a call does
abbrev pub gives_of : State → Request Pair → Effect State Pair
gives_of (OfCounting counter) q = within OfCounting (counting.gives counter q)
gives_of (OfOdd kept) q = within OfOdd (odd.natives.gives kept q)

-- which natives are pure
abbrev pub pure_of : State → Purity → Bool
pure_of (OfCounting counter) p = counting.pure counter p
pure_of (OfOdd kept) p = odd.natives.pure kept p

-- what stands in a state
abbrev pub in_state : State → List Reached
in_state (OfCounting counter) = counting.holds.of_state counter
in_state (OfOdd kept) = odd.holds.of_state kept

abbrev pub holds : Holdings State Pair
holds = record { of_state = in_state; of_host = odd.own }

-- the table
abbrev pub natives : Natives State Pair
natives = record { gives = gives_of; pure = pure_of; holds = holds }
