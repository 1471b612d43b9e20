-- What listed natives answer.
use Rattle.std.specs.Prelude.{◌≡◌, ⊤, Option, Some, None}
use Rattle.rhai_tree.specs.Position.{none}
use Rattle.rhai_values.specs.declared.base.value.Union.{Union}
use Rattle.rhai_values.specs.declared.base.value.Union.TheVariants as value
use Rattle.rhai_values.specs.Copy.{plain}
use Rattle.rhai_errors.specs.declared.error.EvalAltResult.{EvalAltResult}
use Rattle.rhai_errors.specs.declared.error.EvalAltResult.TheVariants as error
use Rattle.rhai_natives.specs.Numbers.{items_of}
use Rattle.rhai_natives.specs.declared.response.Datum.{Datum}
use Rattle.rhai_natives.specs.declared.response.Datum.TheVariants as datum
use Rattle.rhai_natives.specs.declared.response.Fault.{Fault}
use Rattle.rhai_natives.specs.declared.response.Fault.TheVariants as fault
use Rattle.rhai_natives.specs.declared.response.Response.{Response}
use Rattle.rhai_natives.specs.declared.response.Response.TheVariants as response

-- what a native does: its response, and the state after it
pub record Done (S H : Type 0) : Type 0 where
  pub response : Response H
  pub state : S

-- what a native does, by its response and the state after it
abbrev pub done : {S H : Type 0} → Response H → S → Done S H
done r s = record { response = r; state = s }

-- the response of what a native does
abbrev pub response_of : {S H : Type 0} → Done S H → Response H
response_of d = d.response

-- the state after it, which stays where there is no such native
abbrev pub state_after : {S H : Type 0} → S → Option (Done S H) → S
state_after s None = s
state_after s (Some d) = d.state

module _ {H : Type 0} where
  -- a datum as a value
  abbrev pub union_of : Datum H → Union H
  union_of datum.Unit = value.Unit
  union_of (datum.Bool truth) = value.Bool truth
  union_of (datum.Int number) = value.Int number
  union_of (datum.Char letter) = value.Char letter
  union_of (datum.Text text) = value.Str text
  union_of (datum.Integers numbers) = value.Array (items_of numbers)
  union_of (datum.Host own) = value.Host own

  -- a fault as an error, which stands nowhere
  abbrev pub fault_of : Fault H → EvalAltResult H
  fault_of (fault.Arithmetic text) = error.ErrorArithmetic text none
  fault_of (fault.IndexingType text) = error.ErrorIndexingType text none
  fault_of (fault.PropertyNotFound text) = error.ErrorPropertyNotFound text none
  fault_of (fault.Runtime d) = error.ErrorRuntime (plain (union_of d)) none

  -- there was memory
  abbrev pub HasMemory : Response H → Type 0
  HasMemory response.NoMemory = ⊥
  HasMemory _ = ⊤

  -- a response is the one wanted, unless there was no memory
  abbrev pub IsAnswered : (got wanted : Response H) → Type 0
  IsAnswered response.NoMemory wanted = ⊤
  IsAnswered got wanted = got ≡ wanted

  -- there was memory, or there is no response
  abbrev pub HadMemory : Option (Response H) → Type 0
  HadMemory None = ⊤
  HadMemory (Some got) = HasMemory got

  -- two responses that may be missing: both are, or the first is the one wanted, unless there was no memory
  abbrev pub AreAnswered : (got wanted : Option (Response H)) → Type 0
  AreAnswered None None = ⊤
  AreAnswered (Some got) (Some wanted) = IsAnswered got wanted
  AreAnswered _ _ = ⊥
