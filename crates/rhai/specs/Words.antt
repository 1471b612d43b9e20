-- The words in which a host says what its natives do.
use Rattle.std.specs.Prelude.{ℕ, ℤ, List, Option}
pub use Rattle.rhai_values.specs.declared.base.value.Union.{Union}
pub use Rattle.rhai_natives.specs.Arguments.{values_of, none_in, int_in, ints_in, host_in, hosts_in, host_and_int_in, host_and_ints_in}
pub use Rattle.rhai_natives.specs.Arguments.{host_and_array_in}
pub use Rattle.rhai_natives.specs.Listed.{Entry, entry_of, pure, impure}
pub use Rattle.rhai_natives.specs.Responses.{AreAnswered, HadMemory, IsAnswered, response_of, state_after, Done, done}
pub use Rattle.rhai_natives.specs.declared.response.Datum.{Datum}
pub use Rattle.rhai_natives.specs.declared.response.Datum.TheVariants as datum
pub use Rattle.rhai_natives.specs.declared.response.Fault.{Fault}
pub use Rattle.rhai_natives.specs.declared.response.Fault.TheVariants as fault
pub use Rattle.rhai_natives.specs.declared.response.Response.{Response}
pub use Rattle.rhai_natives.specs.declared.response.Response.TheVariants as response

-- natives by their names, in their order
abbrev pub Lists : Type 0 → Type 0
Lists Native = List (Entry Native)

-- what natives do, from a state, the native and its arguments; nothing where there is no such native for them
abbrev pub Does : (State Native H : Type 0) → Type 0
Does State Native H = State → Native → List (Union H) → Option (Done State H)

module _ {H : Type 0} where
  -- a datum that a native answers: `()`
  abbrev pub unit : Datum H
  unit = datum.Unit

  -- an integer
  abbrev pub integer : ℤ → Datum H
  integer number = datum.Int number

  -- a text, by its bytes
  abbrev pub text : List ℕ → Datum H
  text bytes = datum.Text bytes

  -- a value of the host's own type
  abbrev pub host : H → Datum H
  host own = datum.Host own

  -- a native answers a datum, and its first argument stays
  abbrev pub gives : Datum H → Response H
  gives answer = response.Gives answer

  -- it answers `()`, and its first argument is this from then on
  abbrev pub changes : Datum H → Response H
  changes first = response.Changes unit first

  -- it fails
  abbrev pub faults : Fault H → Response H
  faults why = response.Faults why
