-- The table of a list of natives.
use Rattle.std.specs.Prelude.{◌≡◌, ⊤, Bool, true, false, List, [], Option, Some, None}
use Rattle.std.specs.Option.{option_map}
use Rattle.rhai_values.specs.declared.base.value.Dynamic.{Dynamic}
use Rattle.rhai_values.specs.declared.base.value.Union.{Union}
use Rattle.rhai_values.specs.Copy.{plain}
use Rattle.rhai_errors.specs.Native.{Effect, Natives, Reply, Missing, Gives, Faults, effect}
use Rattle.rhai_values.specs.ValueContents.{Holdings}
use Rattle.rhai_natives.specs.declared.listed.Found.{Found}
use Rattle.rhai_natives.specs.declared.response.Datum.{Datum}
use Rattle.rhai_natives.specs.declared.response.Response.{Response}
use Rattle.rhai_natives.specs.declared.response.Response.TheVariants as response
use Rattle.rhai_natives.specs.Arguments.{values_in}
use Rattle.rhai_natives.specs.Found.{found, is_pure, key_in}
use Rattle.rhai_natives.specs.Listed.{Entry}
use Rattle.rhai_natives.specs.Responses.{Done, fault_of, union_of}

-- nothing stands in the natives' state or in a value of the host's own
abbrev pub nothing : {S H : Type 0} → Holdings S H
nothing = record { of_state = λ s. []; of_host = λ h. [] }

module _ {H : Type 0} where
  -- a response as a table's reply
  abbrev pub reply_for : Response H → Reply H
  reply_for (response.Gives d) = Gives (plain (union_of d))
  reply_for (response.Changes d first) = Gives (plain (union_of d))
  reply_for (response.Faults f) = Faults (fault_of f)
  reply_for response.NoMemory = Missing

  -- a reply is that of a response, or there was no memory
  abbrev pub IsReplied : Response H → Option (Reply H) → Type 0
  IsReplied r None = ⊤
  IsReplied response.NoMemory (Some reply) = ⊥
  IsReplied r (Some reply) = reply_for r ≡ reply

  -- what a response makes of the first argument, None where it stays
  abbrev pub change_in : Response H → Option (Datum H)
  change_in (response.Changes d first) = Some first
  change_in _ = None

  -- a first argument after a call: that of a pure native stays
  abbrev pub changed : (is_pure : Bool) → Option (Datum H) → Dynamic H → Dynamic H
  changed true change first = first
  changed false None first = first
  changed false (Some d) first = record first { value = union_of d }

  -- what a call leaves of a first argument, whether or not there was memory
  abbrev pub IsLeft : (is_pure : Bool) → (before after : Dynamic H) → Type 0
  IsLeft p before after = (change : Option (Datum H)) × (after ≡ changed p change before)

module _ {S H : Type 0} where
  -- the effect of what was done, if there is such a native
  abbrev pub effect_for : (is_pure : Bool) → S → Option (Done S H) → Option (Dynamic H) → Effect S H
  effect_for p s None first = effect Missing first s
  effect_for p s (Some d) first = effect (reply_for d.response) (option_map (changed p (change_in d.response)) first) d.state

  module _ {K : Type 0} (does : S → K → List (Union H) → Option (Done S H)) where
    -- what a native that was found does, if one was
    abbrev pub done_by : S → Option (Found K) → List (Union H) → Option (Done S H)
    done_by s None arguments = None
    done_by s (Some call) arguments = does s call.native arguments

    -- the effect of a call of the native that was found, if one was
    abbrev pub effect_of : S → Option (Found K) → Option (Dynamic H) → List (Dynamic H) → Effect S H
    effect_of s call first rest = effect_for (is_pure call) s (done_by s call (values_in first rest)) first

  -- the table of a list of natives
  abbrev pub natives_in : {K : Type 0} → List (Entry K) → (S → K → List (Union H) → Option (Done S H)) → Natives S H
  natives_in list does =
      record {
        gives = λ s q. effect_of does s (found list q.key) q.first q.rest;
        pure = λ s p. is_pure (found list (key_in p));
        holds = nothing;
      }
