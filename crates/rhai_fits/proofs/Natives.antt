-- What natives are asked, and what they leave, fits under the law of their table.
use Rattle.std.proofs.Common.{◌≡◌, ℕ, zero, suc, List, [], ◌∷◌, subst}
use Rattle.std.specs.Prelude.{⊤, Bool, flat_map, Option, Some, None}
use Rattle.rhai_machine.specs.Types.{Dynamic, EvalAltResult}
use Rattle.rhai_values.specs.Cells.{value_of_cell}
use Rattle.rhai_errors.specs.Native.{Request, Reply, Missing, Gives as Answers, Faults, Natives, IsReached, ByState, ByFirst, ByOthers}
use Rattle.rhai_errors.specs.Native.{ByCell, AreReached, HasNoHandle, IsAllowed, Lawful, LawfulCall, MayLeave, reply_contents}
use Rattle.rhai_values.specs.ValueContents.{Reached, Holdings, contents_of, first_contents}
use Rattle.rhai_machine.specs.machine.Machine.{Move, Halt, Go, Charge, Native, AskPure}
use Rattle.rhai_machine.specs.language.Values.{Cells}
use Rattle.rhai_machine.specs.language.Frames.{Core}
use Rattle.rhai_fits.specs.Contents.{of_values, of_maybe, of_cells}
use Rattle.rhai_fits.proofs.Properties.{AllHave, all_joined, all_at, all_of}
use Rattle.rhai_fits.proofs.Values.{Fit, fit_reached, reached_is_fit}
use Rattle.rhai_fits.proofs.Errors.{FitError, reached_error}
use Rattle.rhai_fits.proofs.Fitting.{AllFit, Flat, FlatMaybe, FitBelow, FitCore}

module _ {H : Type 0} (own : H → List Reached) (P : Reached → Type 0) (least : ℕ) where
  -- what a native is asked fits, and its first argument is no handle
  pub record FitRequest (q : Request H) : Type 0 where
    pub cells : AllFit own P least (of_cells q.cells)
    pub first : FlatMaybe own P least q.first
    pub rest : AllFit own P least (of_values q.rest)

  -- what it answers
  abbrev pub FitReply : Reply H → Type 0
  FitReply Missing = ⊤
  FitReply (Answers v) = Flat own P least v
  FitReply (Faults e) = FitError own P e

  -- a call of a native: what is asked fits, and what is made of what it leaves; where it finds no memory, but for its error
  pub record FitNative (q : Request H) (f : Reply H → Option (Dynamic H) → Core H) : Type 0 where
    pub asks : FitRequest q
    pub answered : (reply : Reply H) (first : Option (Dynamic H)) → FitReply reply → FlatMaybe own P least first →
        FitCore own P least (f reply first)
    pub out_in_native : (e : EvalAltResult H) (first : Option (Dynamic H)) → FlatMaybe own P least first →
        FitBelow own P least (f (Faults e) first).stack (f (Faults e) first).local

  -- a move leads to cores that fit
  abbrev pub Moves : Move H (Core H) → Type 0
  Moves Halt = ⊤
  Moves (Go d) = FitCore own P least d
  Moves (Charge at d) = FitCore own P least d
  Moves (Native q f) = FitNative q f
  Moves (AskPure p f) = (pure : Bool) → FitCore own P least (f pure)

  -- ---- the law of a table

  free_fits : (cells : Cells H) (n : ℕ) → AllFit own P least (of_cells cells) → AllFit own P least (of_maybe (value_of_cell cells n))
  free_fits [] n h = tt
  free_fits (None ∷ cells) zero h = tt
  free_fits (Some v ∷ cells) zero h = h.0
  free_fits (cell ∷ cells) (suc n) h = free_fits cells n h.1

  cell_at : (cells : Cells H) (n : ℕ) (v : Dynamic H) → AllFit own P least (of_cells cells) → value_of_cell cells n ≡ Some v → Fit own P v
  cell_at cells n v h is = subst (λ there. AllFit own P least (of_maybe there)) is (free_fits cells n h)

  rest_reached : (vs : List (Dynamic H)) → AllFit own P least (of_values vs) → AllHave P (flat_map (contents_of own) vs)
  rest_reached [] h = tt
  rest_reached (v ∷ vs) h = all_joined P (contents_of own v) (flat_map (contents_of own) vs) (fit_reached own P v h.0) (rest_reached vs h.1)

  fit_first_reached : (first : Option (Dynamic H)) → FlatMaybe own P least first → AllHave P (first_contents own first)
  fit_first_reached None h = tt
  fit_first_reached (Some v) h = fit_reached own P v h.0

  reached_first : (first : Option (Dynamic H)) → AllHave P (first_contents own first) → HasNoHandle first → FlatMaybe own P least first
  reached_first None h s = tt
  reached_first (Some v) h s = (reached_is_fit own P v h, s)

  no_handle : (first : Option (Dynamic H)) → FlatMaybe own P least first → HasNoHandle first
  no_handle None h = tt
  no_handle (Some v) h = h.1

  reached_reply : (reply : Reply H) → AllHave P (reply_contents own reply) → IsAllowed reply → FitReply reply
  reached_reply Missing h a = tt
  reached_reply (Answers v) h a = (reached_is_fit own P v h, a)
  reached_reply (Faults e) h a = reached_error own P e h

  module _ {S : Type 0} (of_state : S → List Reached) where
    abbrev holds : Holdings S H
    holds = record { of_state = of_state; of_host = own }

    -- what a call reaches has the property
    reached_fits : (s : S) (q : Request H) (r : Reached) → AllHave P (of_state s) → FitRequest q → IsReached holds s q r → P r
    reached_fits s q r h a (ByState held) = all_at P (of_state s) r h held
    reached_fits s q r h a (ByFirst held) = all_at P (first_contents own q.first) r (fit_first_reached q.first a.first) held
    reached_fits s q r h a (ByOthers held) = all_at P (flat_map (contents_of own) q.rest) r (rest_reached q.rest a.rest) held
    reached_fits s q r h a (ByCell number v cell is held) =
        all_at P (contents_of own v) r (fit_reached own P v (cell_at q.cells number v a.cells is)) held

    are_reached : (s : S) (q : Request H) (held : List Reached) → AllHave P (of_state s) → FitRequest q → AreReached holds s q held →
        AllHave P held
    are_reached s q held h a reached = all_of P held (λ r c. reached_fits s q r h a (reached r c))

module _ {S H : Type 0} (names : H → List ℕ) (natives : Natives S H) (P : Reached → Type 0) (least : ℕ) where
  abbrev pub FitState : S → Type 0
  FitState s = AllHave P (natives.holds.of_state s)

  module _ (lawful : Lawful names natives) (s : S) (q : Request H) (h : FitState s) (a : FitRequest natives.holds.of_host P least q) where
    law : LawfulCall names natives s q
    law = lawful s q (no_handle natives.holds.of_host P least q.first a.first)

    pub reply_fits : FitReply natives.holds.of_host P least (natives.gives s q).reply
    reply_fits = reached_reply natives.holds.of_host P least (natives.gives s q).reply
        (are_reached natives.holds.of_host P least natives.holds.of_state s q _ h a law.answer_reached) law.allowed

    pub first_fits : FlatMaybe natives.holds.of_host P least (natives.gives s q).first
    first_fits = reached_first natives.holds.of_host P least (natives.gives s q).first
        (are_reached natives.holds.of_host P least natives.holds.of_state s q _ h a law.leaves.first_reached) law.first_no_handle

    pub state_fits : FitState (natives.gives s q).state
    state_fits = are_reached natives.holds.of_host P least natives.holds.of_state s q _ h a law.leaves.state_reached

  -- what a native leaves that finds no memory
  module _ (host : H → List ℕ) (s : S) (q : Request H) (first : Option (Dynamic H)) (state : S) (h : FitState s)
      (a : FitRequest natives.holds.of_host P least q) (may : MayLeave host natives s q first state) where
    pub run_out_first_fits : FlatMaybe natives.holds.of_host P least first
    run_out_first_fits = reached_first natives.holds.of_host P least first
        (are_reached natives.holds.of_host P least natives.holds.of_state s q _ h a may.leaves.first_reached) may.no_handle

    pub run_out_state_fits : FitState state
    run_out_state_fits = are_reached natives.holds.of_host P least natives.holds.of_state s q _ h a may.leaves.state_reached
