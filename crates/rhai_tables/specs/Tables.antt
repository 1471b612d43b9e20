-- What the bench's tables answer.
use Rattle.std.specs.Prelude.{ℕ, List, [], true, refl}
use Rattle.rhai_errors.specs.Native.{Effect, Request, Missing, Natives, Leaves, Lawful, ByState, ByFirst, effect}
use Rattle.rhai_values.specs.ValueContents.{Holdings}

-- the state of a table that has none
abbrev pub Stateless : Type 0
Stateless = Unit {0}

-- the state of a table that has none, as a value
abbrev pub stateless : Stateless
stateless = tt

-- no native is there: the first argument and the state stay
abbrev pub missing : {H : Type 0} → Stateless → Request H → Effect Stateless H
missing s q = effect Missing q.first s

-- nothing stands in the table or in a value of the host's own
abbrev pub nothing : {H : Type 0} → Holdings Stateless H
nothing = record { of_state = λ s. []; of_host = λ h. [] }

-- the table without natives
abbrev pub none : {H : Type 0} → Natives Stateless H
none = record { gives = missing; pure = λ s q. true; holds = nothing }

-- it leaves the first argument and the state
pub none_leaves : {H : Type 0} (host : H → List ℕ) (q : Request H) → Leaves host none stateless q q.first stateless
none_leaves host q = record { pure_keeps = λ p. refl; first_reached = λ r held. ByFirst held; state_reached = λ r held. ByState held }

pub none_lawful : {H : Type 0} (host : H → List ℕ) → Lawful host none
none_lawful host s q h = record {
  allowed = tt;
  first_no_handle = h;
  missing_keeps = refl;
  leaves = none_leaves host q;
  answer_reached = λ r held. ByState held;
  reads_reached = λ cells agrees. refl;
}
