-- What a table of natives is asked, what it answers, and its law.
use Rattle.std.proofs.Common.{inl, inr}
use Rattle.std.specs.Prelude.{◌≡◌, ◌⊎◌, ⊤, ℕ, ◌+◌, Bool, true, List, [], length, flat_map, slice_get, Contains, Option, Some, None}
use Rattle.std.specs.Borrow.{MutBor}
use Rattle.rhai_tree.specs.declared.position.Position.{Position}
use Rattle.rhai_values.specs.declared.base.value.Dynamic.{Dynamic}
use Rattle.rhai_values.specs.Cells.{IsNoHandle, value_of_cell}
use Rattle.rhai_values.specs.TypeNames.{type_name_of}
use Rattle.rhai_errors.specs.declared.error.EvalAltResult.{EvalAltResult}
use Rattle.rhai_errors.specs.declared.error.EvalAltResult.TheVariants as error
use Rattle.rhai_errors.specs.declared.table.Answer.{Answer}
use Rattle.rhai_errors.specs.declared.table.Answer.TheVariants as answer
use Rattle.rhai_values.specs.ValueContents.{Reached, Cell, Holdings, contents_of, first_contents}
use Rattle.rhai_errors.specs.ErrorContents.{error_contents}

-- which native is called: by its name, or by its number
pub data Key : Type 0 where
  Named : List ℕ → Key
  Numbered : ℕ → Key

-- a call of a native: the cells of the moment, None where one is held; the native; the first argument and the others; the position
pub record Request (H : Type 0) : Type 0 where
  pub cells : List (Option (Dynamic H))
  pub key : Key
  pub first : Option (Dynamic H)
  pub rest : List (Dynamic H)
  pub at : Position

-- what a call answers
pub data Reply (H : Type 0) : Type 0 where
  Missing : Reply H
  Gives : Dynamic H → Reply H
  Faults : EvalAltResult H → Reply H

-- what a call leaves: its answer, the first argument, and the state of the table
pub record Effect (S H : Type 0) : Type 0 where
  pub reply : Reply H
  pub first : Option (Dynamic H)
  pub state : S

-- what is asked of a table's purity: of a name with the type of the first argument and the number of arguments, or of a number
pub data Purity : Type 0 where
  OfName : (name first_type : List ℕ) → (count : ℕ) → Purity
  OfNumber : ℕ → Purity

-- a table of natives as the rules read it: what a call leaves in a state, which natives change nothing, and what stands in a state and in
-- a value of the host's own type
pub record Natives (S H : Type 0) : Type 0 where
  pub gives : S → Request H → Effect S H
  pub pure : S → Purity → Bool
  pub holds : Holdings S H

-- the call with these parts
abbrev pub request : {H : Type 0} → List (Option (Dynamic H)) → Key → Option (Dynamic H) → List (Dynamic H) → Position → Request H
request cells key first rest at = record { cells = cells; key = key; first = first; rest = rest; at = at }

-- the effect with these parts
abbrev pub effect : {S H : Type 0} → Reply H → Option (Dynamic H) → S → Effect S H
effect reply first state = record { reply = reply; first = first; state = state }

-- the value in an optional place as it is lent
abbrev pub lent_value : {H : Type 0} → Option (MutBor (Dynamic H)) → Option (Dynamic H)
lent_value None = None
lent_value (Some place) = Some place.now

-- the value in an optional place as its loan ends
abbrev pub left_by : {H : Type 0} → Unit {0} ⊎ ((MutBor (Dynamic H) × Unit {0}) ⊎ ⊥) → Option (Dynamic H)
left_by (inl _) = None
left_by (inr (inl place)) = Some place.0.now
left_by (inr (inr never)) = None

-- an answer as a reply, None where memory ran out
abbrev pub reply_of : {H : Type 0} → Answer H → Option (Reply H)
reply_of answer.Missing = Some Missing
reply_of (answer.Value v) = Some (Gives v)
reply_of (answer.Fault e) = Some (Faults e)
reply_of answer.NoMemory = None

-- reply, first argument and state are those of an effect, unless there was no memory
abbrev pub Obeys : {S H : Type 0} → Effect S H → Option (Reply H) → Option (Dynamic H) → S → Type 0
Obeys e None first state = ⊤
Obeys e (Some reply) first state = e ≡ effect reply first state

-- a first argument, if there is one, that is no bare handle of a cell
abbrev pub HasNoHandle : {H : Type 0} → Option (Dynamic H) → Type 0
HasNoHandle None = ⊤
HasNoHandle (Some v) = IsNoHandle v.value

-- a fault that a native may answer: not that a limit was met or memory ran out, and no error by which a loop or a function is left
abbrev pub IsFault : {H : Type 0} → EvalAltResult H → Type 0
IsFault (error.ErrorTooManyOperations at) = ⊥
IsFault (error.ErrorTooManyVariables at) = ⊥
IsFault (error.ErrorTooManyModules at) = ⊥
IsFault (error.ErrorStackOverflow at) = ⊥
IsFault (error.ErrorDataTooLarge text at) = ⊥
IsFault (error.ErrorOutOfMemory at) = ⊥
IsFault (error.Return v at) = ⊥
IsFault (error.LoopBreak v is_break at) = ⊥
IsFault _ = ⊤

-- a reply that a native may give
abbrev pub IsAllowed : {H : Type 0} → Reply H → Type 0
IsAllowed Missing = ⊤
IsAllowed (Gives v) = IsNoHandle v.value
IsAllowed (Faults e) = IsFault e

-- a missing native leaves the first argument
abbrev pub KeepsFirst : {H : Type 0} → Reply H → Option (Dynamic H) → Option (Dynamic H) → Type 0
KeepsFirst Missing before after = after ≡ before
KeepsFirst _ before after = ⊤

-- what stands in a reply
abbrev pub reply_contents : {H : Type 0} → (H → List Reached) → Reply H → List Reached
reply_contents own Missing = []
reply_contents own (Gives v) = contents_of own v
reply_contents own (Faults e) = error_contents own e

-- what a call `q` reaches in a state `s`; `holds` says what stands in states and in values of the host's own type
module _ {S H : Type 0} (holds : Holdings S H) (s : S) (q : Request H) where
  -- a call reaches what stands in the state, in its arguments, and in a cell that it reaches and that is not held
  pub data IsReached : Reached → Type 0 where
    ByState : {r : Reached} → Contains (holds.of_state s) r → IsReached r
    ByFirst : {r : Reached} → Contains (first_contents holds.of_host q.first) r → IsReached r
    ByOthers : {r : Reached} → Contains (flat_map (contents_of holds.of_host) q.rest) r → IsReached r
    ByCell : {r : Reached} (number : ℕ) (v : Dynamic H) → IsReached (Cell number) → value_of_cell q.cells number ≡ Some v →
        Contains (contents_of holds.of_host v) r → IsReached r

  -- all that a list has is reached
  abbrev pub AreReached : List Reached → Type 0
  AreReached held = (r : Reached) → Contains held r → IsReached r

  -- these cells agree with the call's as far as it reaches them, and are held where those are
  abbrev pub AgreesOn : List (Option (Dynamic H)) → Type 0
  AgreesOn cells = (number : ℕ) → IsReached (Cell number) → slice_get cells number ≡ slice_get q.cells number

-- the type of the first argument, the empty text where there is none
abbrev pub first_type_of : {H : Type 0} → (H → List ℕ) → List (Option (Dynamic H)) → Option (Dynamic H) → List ℕ
first_type_of host cells None = []
first_type_of host cells (Some v) = type_name_of host cells v

-- the number of all arguments
abbrev pub count_of : {H : Type 0} → Option (Dynamic H) → List (Dynamic H) → ℕ
count_of None rest = length rest
count_of (Some v) rest = 1 + length rest

-- what is asked of a native's purity, which for a number is the number alone
abbrev pub purity_of : Key → (first_type : List ℕ) → (count : ℕ) → Purity
purity_of (Named name) first_type count = OfName name first_type count
purity_of (Numbered number) first_type count = OfNumber number

-- what is asked of the purity of a call's native
abbrev pub question_of : {H : Type 0} → (H → List ℕ) → Request H → Purity
question_of host q = purity_of q.key (first_type_of host q.cells q.first) (count_of q.first q.rest)

-- `host` names the types of the host's values
module _ {S H : Type 0} (host : H → List ℕ) (natives : Natives S H) where
  -- after every answer, also where memory ran out: a pure native leaves the first argument; what stands in it and the state was reached
  pub record Leaves (s : S) (q : Request H) (first : Option (Dynamic H)) (state : S) : Type 0 where
    pub pure_keeps : natives.pure s (question_of host q) ≡ true → first ≡ q.first
    pub first_reached : AreReached natives.holds s q (first_contents natives.holds.of_host first)
    pub state_reached : AreReached natives.holds s q (natives.holds.of_state state)

  -- what a call may leave, where it finds no memory too: a first argument that is no bare handle, of a pure native the one that it was
  -- given, and nothing that was not reached
  pub record MayLeave (s : S) (q : Request H) (first : Option (Dynamic H)) (state : S) : Type 0 where
    pub no_handle : HasNoHandle first
    pub leaves : Leaves s q first state

  -- the law of a call, of the table's function alone
  pub record LawfulCall (s : S) (q : Request H) : Type 0 where
    pub allowed : IsAllowed (natives.gives s q).reply
    pub first_no_handle : HasNoHandle (natives.gives s q).first
    pub missing_keeps : KeepsFirst (natives.gives s q).reply q.first (natives.gives s q).first
    pub leaves : Leaves s q (natives.gives s q).first (natives.gives s q).state
    pub answer_reached : AreReached natives.holds s q (reply_contents natives.holds.of_host (natives.gives s q).reply)
    pub reads_reached : (cells : List (Option (Dynamic H))) → AgreesOn natives.holds s q cells →
        natives.gives s (record q { cells = cells }) ≡ natives.gives s q

  -- the law of a table: of every call whose first argument is no bare handle
  abbrev pub Lawful : Type 0
  Lawful = (s : S) (q : Request H) → HasNoHandle q.first → LawfulCall s q
