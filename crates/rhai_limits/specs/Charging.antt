-- What charges at least one operation: each entry into a function of a script, and each turn of a loop.
use Rattle.std.specs.Prelude.{◌≡◌, ◌⊎◌, ◌<◌, ⊤, ℕ, Bool, true, false, List, ◌++◌, IsSome}
use Rattle.rhai_machine.specs.machine.Point.{Point, after}
use Rattle.rhai_machine.specs.machine.Memory.{Leads, here, next, out_before_step, out_in_native}
use Rattle.rhai_machine.specs.language.Setting.{Rules}
use Rattle.rhai_machine.specs.language.State.{State}
use Rattle.rhai_machine.specs.language.Activations.{Entered}
use Rattle.rhai_machine.specs.language.Turns.{next_turn}
use Rattle.rhai_machine.specs.language.Frames.{Control, Frame, Core, core, EnterFunction, WhileTurn, DoTurn, ForTurn, Back}
use Rattle.rhai_machine.specs.language.Frames.{Fail}
use Rattle.rhai_machine.specs.language.Language.{machine}
use Rattle.rhai_machine.specs.language.Limits.{IsRefused}
use Rattle.rhai_machine.specs.language.Memory.{IsOutOfMemory}
use Rattle.rhai_machine.specs.language.Runs.{at}

module _ {H : Type 0} where
  -- the error of a refused charge is on its way down, or the out-of-memory error
  abbrev pub IsStopped : Core H → Type 0
  IsStopped c = IsRefused c ⊎ IsOutOfMemory c

  -- what follows a charge: where it was let through a greater count, and where it was refused its error, or the out-of-memory error
  abbrev pub FollowsCharge : {S : Type 0} → (let_through : Bool) → (count : ℕ) → Point S (Core H) → Type 0
  FollowsCharge true count q = count < q.count
  FollowsCharge false count q = IsStopped q.core

  -- a loop starts a turn: a `while` or a `loop`, a `do`, or a `for` that has an item left
  abbrev pub StartsTurn : Control H → Type 0
  StartsTurn (WhileTurn test body) = ⊤
  StartsTurn (DoTurn test body options) = ⊤
  StartsTurn (ForTurn loop left turn base) = IsSome (next_turn left)
  StartsTurn _ = ⊥

  -- a turn is over: the loop is where its next one would start, its value comes back, or an error comes down, be it a `return`, a `throw`
  -- or another
  abbrev pub EndsTurn : Control H → Type 0
  EndsTurn (WhileTurn test body) = ⊤
  EndsTurn (DoTurn test body options) = ⊤
  EndsTurn (ForTurn loop left turn base) = ⊤
  EndsTurn (Back v) = ⊤
  EndsTurn (Fail e) = ⊤
  EndsTurn _ = ⊥

  -- the lowest frames of a stack are these
  abbrev pub IsBeneath : (k stack : List (Frame H)) → Type 0
  IsBeneath k stack = (above : List (Frame H)) × (stack ≡ above ++ k)

module _ {S H : Type 0} (rules : Rules S H) (allows : ℕ → Bool) where
  -- a run goes on from a point, cut or not, by one step at least; memory may run out on the way
  abbrev pub GoesOn : Point S (Core H) → Point S (Core H) → Type 0
  GoesOn p q = Leads (machine rules) allows (after (machine rules) allows p) q

  -- all along a run the lowest frames are these
  abbrev pub StaysBeneath : (k : List (Frame H)) → {p q : Point S (Core H)} → Leads (machine rules) allows p q → Type 0
  StaysBeneath k (here {p = p}) = IsBeneath k p.core.stack
  StaysBeneath k (next {p = p} run) = IsBeneath k p.core.stack × StaysBeneath k run
  StaysBeneath k (out_before_step {p = p} run) = IsBeneath k p.core.stack × StaysBeneath k run
  StaysBeneath k (out_in_native {p = p} is e first state left run) = IsBeneath k p.core.stack × StaysBeneath k run

  -- A turn of a `for` whose body is not entered: from where it starts, p, it comes to its error by one step, which writes its number to the
  -- counter, or by two, the second of which writes its item to the variable. Neither charges, and the loop is left. Other loops have none.
  abbrev pub IsUnentered : (turn : Control H) → (p q : Point S (Core H)) → Type 0
  IsUnentered (ForTurn loop left turn base) p q =
      (q ≡ after (machine rules) allows p) ⊎ (q ≡ after (machine rules) allows (after (machine rules) allows p))
  IsUnentered _ p q = ⊥

  -- What a turn has charged as it is over: one operation at least. Where it ends by an error, that is so too, unless the error is that of a
  -- refused charge or of memory, or a `for` has not entered its body.
  abbrev pub HasCharged : (turn later : Control H) → List (Frame H) → (old new : State S H) → Type 0
  HasCharged turn (Fail e) k old new = (old.count < new.count)
      ⊎ (IsStopped (core (Fail e) k new.local) ⊎ IsUnentered turn (at turn k old) (at (Fail e) k new))
  HasCharged turn later k old new = old.count < new.count

module _ {S H : Type 0} (rules : Rules S H) where
  -- where a function is entered an operation is charged, and all that follows has counted it, or it was refused
  abbrev pub EntriesCharge : Type 0
  EntriesCharge = (allows : ℕ → Bool) (e : Entered H) (k : List (Frame H)) (old : State S H) (q : Point S (Core H)) →
      GoesOn rules allows (at (EnterFunction e) k old) q → FollowsCharge (allows old.count) old.count q

  -- from the start of a turn to where it is over, however it ends, while the frames beneath the loop stay: an operation is charged
  abbrev pub TurnsCharge : Type 0
  TurnsCharge = (allows : ℕ → Bool) (turn later : Control H) (k : List (Frame H)) (old new : State S H) → StartsTurn turn → EndsTurn later →
      (run : GoesOn rules allows (at turn k old) (at later k new)) → StaysBeneath rules allows k run →
      HasCharged rules allows turn later k old new
