-- What an index keeps: it leads to a part or a copy of the value that is indexed, or to what an indexer made of what it reached.
use Rattle.std.proofs.Common.{◌≡◌, ◌≤◌, ◌<◌, ◌+◌, ◌⊎◌, inl, inr, ℕ, Bool, true, false, List, [], ◌∷◌, refl, sym, subst}
use Rattle.std.proofs.Common.{true≢false, arith}
use Rattle.std.proofs.lemmas.Bool.{cases_lt}
use Rattle.std.proofs.Math.Nat.{eq-or-lt_of_le}
use Rattle.std.specs.Prelude.{Option, Some, None, Result, Ok, Err, MatchResult, IfOk}
use Rattle.rhai_tree.specs.declared.position.Position.{Position}
use Rattle.rhai_values.specs.Cells.{IsNoHandle, cells_of}
use Rattle.rhai_values.specs.Layers.{layer_of}
use Rattle.rhai_state.specs.declared.limits.Limits.{Limits}
use Rattle.rhai_state.specs.declared.scope.Scope.{Scope}
use Rattle.rhai_state.specs.declared.state.GlobalRuntimeState.{GlobalRuntimeState}
use Rattle.rhai_errors.specs.Errors.{is_out_of_memory}
use Rattle.rhai_errors.specs.Native.{Effect, Natives, Request, Reply, Missing, Gives as Answers, Faults, ByFirst, ByState, Lawful}
use Rattle.rhai_values.specs.ValueContents.{Reached, Cell}
use Rattle.rhai_spots.specs.declared.spot.Access.{Access}
use Rattle.rhai_spots.specs.declared.spot.Spot.{Spot}
use Rattle.rhai_spots.specs.declared.spot.Spot.TheVariants as spot
use Rattle.rhai_spots.specs.declared.part.Part.{Part}
use Rattle.rhai_places.specs.declared.target.Target.{Target}
use Rattle.rhai_spots.specs.Found.{found, IsFound, IsMissed}
use Rattle.rhai_spots.specs.Refusals.{IsTold}
use Rattle.rhai_spots.specs.Targets.{part_at, place_at, shown}
use Rattle.rhai_machine.specs.Types.{Dynamic, EvalAltResult}
use Rattle.rhai_machine.specs.language.Setting.{Rules}
use Rattle.rhai_machine.specs.language.State.{Held, State, HasMemory}
use Rattle.rhai_steps.specs.Callers.{state_of}
use Rattle.rhai_fits.specs.Contents.{Contents, Both, OneValue, of_cells, of_maybe, of_result}
use Rattle.rhai_fits.specs.Sealed.{AreSealed}
use Rattle.rhai_laws.proofs.KeptLaws.{around_same}
use Rattle.rhai_fits.proofs.Properties.{all_at, all_of}
use Rattle.rhai_fits.proofs.Values.{Fit, fit_unit}
use Rattle.rhai_fits.proofs.Errors.{FitError, fit_error}
use Rattle.rhai_fits.proofs.Fitting.{AllFit, Flat, FlatMaybe, Gives}
use Rattle.rhai_fits.proofs.Natives.{FitReply, FitRequest, FitState, reply_fits, first_fits, run_out_first_fits, run_out_state_fits}
use Rattle.rhai_fits.proofs.Calls.{sized_gives}
use Rattle.rhai_fits.proofs.Firing.{placed_fits}
use Rattle.rhai_fits.proofs.Spots.{FlatSource, found_gives, part_fits, value_at_fits}
use Rattle.rhai_index.specs.Indexers.{as_temporary, asks_indexer, call_effect, effect_of, indexer_result, is_barred, is_pure_for, read_call}
use Rattle.rhai_index.specs.Indexers.{is_called, request_of}
use Rattle.rhai_index.specs.Indexes.{Indexes}
use Rattle.rhai_index.specs.Lends.{EndsRefused, MayEndAs}
use Rattle.rhai_index.proofs.Following.{index_counts}
use Rattle.rhai_fits_eval.specs.InHand.{FitsAgain, IsInHand, cells_in, of_lent}
use Rattle.rhai_fits_eval.proofs.Ends.{Stays, fit_holds, given_fits, memory_fits, state_fits, still_there}

module _ {H : Type 0} (own : H → List Reached) (P : Reached → Type 0) (least : ℕ) where
  -- ---- without an indexer

  there_fits : (source : Dynamic H) (at : Spot) → Fit own P source → AllFit own P least (of_maybe (place_at source at))
  there_fits source (spot.Item at) h = value_at_fits own P least source (spot.Item at) h
  there_fits source (spot.Value at) h = value_at_fits own P least source (spot.Value at) h
  there_fits source at h = h

  -- what stands at the place where an index leads
  place_fits : (source : Dynamic H) (at : Spot) (place : Dynamic H) → Fit own P source → place_at source at ≡ Some place → Fit own P place
  place_fits source at place h is = subst (λ there. AllFit own P least (of_maybe there)) is (there_fits source at h)

  -- and what is shown of it
  shown_fits : (source : Dynamic H) (at : Spot) (place : Dynamic H) → Fit own P place → Fit own P (shown (part_at source at) place)
  shown_fits source (spot.Item at) place h = h
  shown_fits source (spot.Value at) place h = h
  shown_fits source spot.Missing place h = fit_unit own P
  shown_fits source at place h = part_fits own P least source at

  told_fits : (told e : EvalAltResult H) (lacks : Bool) → is_out_of_memory e ≡ lacks → FitError own P told → IsTold told e →
      FitError own P e
  told_fits told e true lacks h is = memory_fits own P least e lacks
  told_fits told e false lacks h is = subst (FitError own P) (sym (is lacks)) h

  -- a target, or an error, of what an index finds
  found_fits : (there : Result (Dynamic H × Spot) (EvalAltResult H)) (r : Result (Target H) (EvalAltResult H)) →
      Gives own P least (FlatSource own P least) there →
      MatchResult r (λ target. IsFound there target.at.now target.part) (λ e. IsMissed there e) → AllFit own P least (of_lent r)
  found_fits (Ok (source, at)) (Ok target) h is =
      let place = place_fits source at target.at.now h.0 is.0 in (
        place,
        subst (λ (part : Part H). Fit own P (shown part target.at.now)) (sym is.1) (shown_fits source at target.at.now place),
      )
  found_fits (Ok found) (Err e) h lacks = memory_fits own P least e lacks
  found_fits (Err told) (Ok target) h never = absurd never
  found_fits (Err told) (Err e) h is = told_fits told e (is_out_of_memory e) refl h is

  -- ---- with an indexer

  value_fits : (r : Result (Dynamic H) (EvalAltResult H)) → Gives own P least (Flat own P least) r → AllFit own P least (of_result r)
  value_fits (Ok v) h = h.0
  value_fits (Err e) h = h

  -- what its answer comes to
  outcome_fits : (limits : Limits) (host : H → List ℕ) (cells : List (Option (Dynamic H))) (x i : Dynamic H) (at : Position)
      (reply : Reply H) → FitReply own P least reply → AllFit own P least (of_result (indexer_result limits host cells x i at reply))
  outcome_fits limits host cells x i at Missing h = fit_error own P _ tt
  outcome_fits limits host cells x i at (Answers v) h = value_fits _ (sized_gives own P least limits v at h)
  outcome_fits limits host cells x i at (Faults e) h = placed_fits own P least at e h

  -- what it gives shows a value that fits, whatever the place
  abbrev Shows : Result (Part H) (EvalAltResult H) → Type 0
  Shows (Ok part) = (place : Dynamic H) → Fit own P (shown part place)
  Shows (Err e) = FitError own P e

  shows : (outcome : Result (Dynamic H) (EvalAltResult H)) → AllFit own P least (of_result outcome) → Shows (as_temporary outcome)
  shows (Ok v) h = λ place. h
  shows (Err e) h = h

  failed_fits : (given : Result (Part H) (EvalAltResult H)) (e : EvalAltResult H) (lacks : Bool) → is_out_of_memory e ≡ lacks →
      Shows given → (is_out_of_memory e ≡ false → given ≡ Err e) → FitError own P e
  failed_fits given e true lacks h is = memory_fits own P least e lacks
  failed_fits given e false lacks h is = subst Shows (is lacks) h

  -- a target, or an error, of what it gives
  asked_fits : (given : Result (Part H) (EvalAltResult H)) (left : Option (Dynamic H)) (r : Result (Target H) (EvalAltResult H)) →
      Shows given → AllFit own P least (of_maybe left) →
      (HasMemory r → MatchResult r (λ target. given ≡ Ok target.part) (λ e. given ≡ Err e)) →
      IfOk r (λ target. left ≡ Some target.at.now) → AllFit own P least (of_lent r)
  asked_fits given left (Ok target) h f is first = (
    subst (λ there. AllFit own P least (of_maybe there)) first f,
    subst Shows (is tt) h target.at.now,
  )
  asked_fits given left (Err e) h f is first = failed_fits given e (is_out_of_memory e) refl h is

-- ---- every way out

module _ {S H T : Type 0} (limits : Limits) (host : H → List ℕ) (natives : Natives S H) (table_of : T → S) (how : Access)
    (use_indexers : Bool) (g : GlobalRuntimeState H) (t : T) (x i : Dynamic H) (g' : GlobalRuntimeState H) (t' : T) (i' : Dynamic H)
    (r : Result (Target H) (EvalAltResult H)) (does : Indexes limits host natives table_of how use_indexers g t x i g' t' i' r) where
  module _ (P : Reached → Type 0) (least : ℕ) (lawful : Lawful host natives) (flat : IsNoHandle x.value)
      (cells : AllFit natives.holds.of_host P least (of_cells (cells_of g.cells))) (object : Fit natives.holds.of_host P x)
      (index : Fit natives.holds.of_host P i) (table : FitState host natives P least (table_of t)) where
    abbrev asks : Request H
    asks = request_of (cells_of g.cells) (read_call i how.op_pos) x

    asks_fits : FitRequest natives.holds.of_host P least asks
    asks_fits = record { cells = cells; first = (object, flat); rest = (index, tt) }

    -- the table's state
    pub table_fits : FitState host natives P least (table_of t')
    table_fits = run_out_state_fits host natives P least host (table_of t) asks (Some x) (table_of t') table asks_fits (record {
      no_handle = flat;
      leaves = record { pure_keeps = λ pure. refl; first_reached = λ r held. ByFirst held; state_reached = does.reached };
    })

    -- what an indexer leaves
    abbrev effect_at : Bool → Effect S H
    effect_at barred = call_effect natives (cells_of g.cells) how.op_pos barred (table_of t) (read_call i how.op_pos).name x (i ∷ [])

    effect_fits : (barred : Bool) → FitReply natives.holds.of_host P least (effect_at barred).reply
        × FlatMaybe natives.holds.of_host P least (effect_at barred).first
    effect_fits true = (fit_error natives.holds.of_host P _ tt, (object, flat))
    effect_fits false = (
      reply_fits host natives P least lawful (table_of t) asks table asks_fits,
      first_fits host natives P least lawful (table_of t) asks table asks_fits,
    )

    maybe_fits : (v : Option (Dynamic H)) → FlatMaybe natives.holds.of_host P least v → AllFit natives.holds.of_host P least (of_maybe v)
    maybe_fits None h = tt
    maybe_fits (Some v) h = h.0

    abbrev barred : Bool
    barred = is_barred true (is_pure_for natives host (cells_of g.cells) (table_of t) (read_call i how.op_pos) x) x

    abbrev Lent : Result (Target H) (EvalAltResult H) → Type 0
    Lent r = AllFit natives.holds.of_host P least (of_lent r)

    indexer_fits : g.num_operations + 1 < limits.max_operations → asks_indexer use_indexers (layer_of x) ≡ true → Lent r
    indexer_fits more asked =
        asked_fits natives.holds.of_host P least _ _ r
        (shows natives.holds.of_host P least _ (outcome_fits natives.holds.of_host P least limits host (cells_of g.cells) x i how.op_pos _
        (effect_fits barred).0))
        (maybe_fits _ (effect_fits barred).1) (does.indexer more asked) (does.indexer_object asked)

    below_fits : (asked : Bool) → asks_indexer use_indexers (layer_of x) ≡ asked → g.num_operations < limits.max_operations → Lent r
    below_fits false asked below = found_fits natives.holds.of_host P least _ r
        (found_gives natives.holds.of_host P least how host (cells_of g.cells) x i (object, flat)) (does.found below asked)
    below_fits true asked below =
        let next : g.num_operations + 1 ≤ limits.max_operations = omega arith in
        elim (eq-or-lt_of_le next) as (λ _. Lent r) [
          | inl last ↦ subst Lent (sym (does.indexer_refused last asked).0) (fit_error natives.holds.of_host P _ tt)
          | inr more ↦ indexer_fits more asked
        ]

    -- the same natives, of which none is known to be pure
    abbrev unpure : Natives S H
    unpure = record natives { pure = λ state asked. false }

    -- what an indexer may leave of the value that is indexed
    left_fits : (end : Dynamic H) → MayEndAs natives (table_of t) asks end → Fit natives.holds.of_host P end
    left_fits end may = (run_out_first_fits host unpure P least host (table_of t) asks (Some end) (table_of t) table asks_fits (record {
      no_handle = may.0;
      leaves = record {
        pure_keeps = λ pure. absurd (true≢false (sym pure));
        first_reached = may.1;
        state_reached = λ r held. ByState held;
      };
    })).0

    ended_fits : (call_effect : Bool) (left : Option (Dynamic H)) (end : Dynamic H) →
        EndsRefused call_effect left (MayEndAs natives (table_of t) asks) r x end → Fit natives.holds.of_host P end
    ended_fits true left end ends = left_fits end ends.1
    ended_fits false left end ends = rw ends object

    -- what is left of it at an error
    pub refused_fits : (end : Dynamic H) → EndsRefused (is_called limits g use_indexers (layer_of x))
        (effect_of natives host (cells_of g.cells) (table_of t) (read_call i how.op_pos) x).first
        (MayEndAs natives (table_of t) asks) r x end → Fit natives.holds.of_host P end
    refused_fits end ends = ended_fits _ _ end ends

    -- what the target borrows and shows, or the error
    pub lent_fits : Lent r
    lent_fits = elim (cases_lt g.num_operations limits.max_operations) as (λ _. Lent r) [
      | inl below ↦ below_fits (asks_indexer use_indexers (layer_of x)) refl below
      | inr above ↦ subst Lent (sym (does.refused above)) (fit_error natives.holds.of_host P _ tt)
    ]

-- ---- what the state keeps

module _ {S H : Type 0} (rules : Rules S H) (given left : Contents H) (old : State S H) (s : AreSealed old.local.around.cells)
    (table : S) (count : ℕ) where
  -- where the table and the count alone are others
  abbrev after : State S H
  after = record old { table = table; count = count }

  abbrev own : H → List Reached
  own = rules.natives.holds.of_host

  abbrev StaysInHand : Reached → Type 0
  StaysInHand = Stays rules given old after

  module _ (fits : AllFit own StaysInHand (cells_in old) left)
      (state : FitState rules.setting.host_type rules.natives StaysInHand (cells_in old) table) where
    in_hand_after : (r : Reached) → IsInHand rules left after r → StaysInHand r
    in_hand_after r (inl (inl (inl h))) = fit_holds own StaysInHand (cells_in old) left fits r h
    in_hand_after r (inl (inl (inr h))) = inl (inl (inl (inr h)))
    in_hand_after r (inl (inr h)) = inl (inl (inr h))
    in_hand_after r (inr h) = all_at StaysInHand (rules.natives.holds.of_state table) r state h

    pub same_again : FitsAgain rules given old left after
    same_again = record {
      sealed = s;
      grows = omega arith;
      around = around_same old.local.around;
      only_cells = in_hand_after;
      fits = λ within r h. still_there rules given old after (omega arith) (around_same old.local.around) within r (in_hand_after r h);
    }

module _ {S H T : Type 0} (rules : Rules S H) (limits : Limits) (names : H → List ℕ) (table_of : T → S) (how : Access)
    (use_indexers : Bool) (g : GlobalRuntimeState H) (t : T) (x i : Dynamic H) (g' : GlobalRuntimeState H) (t' : T) (i' : Dynamic H)
    (r : Result (Target H) (EvalAltResult H)) (lawful : Lawful names rules.natives) (flat : IsNoHandle x.value)
    (s : AreSealed (cells_of g.cells)) (does : Indexes limits names rules.natives table_of how use_indexers g t x i g' t' i' r)
    (scope : Scope H) (held : Held H) where
  abbrev given : Contents H
  given = Both (OneValue x) (OneValue i)

  abbrev old : State S H
  old = state_of (table_of t) g scope held

  -- what the value that is indexed ends as where the index is refused
  abbrev Ends : Dynamic H → Type 0
  Ends end = EndsRefused (is_called limits g use_indexers (layer_of x))
      (effect_of rules.natives names (cells_of g.cells) (table_of t) (read_call i how.op_pos) x).first
      (MayEndAs rules.natives (table_of t) (request_of (cells_of g.cells) (read_call i how.op_pos) x)) r x end

  module _ (n : ℕ) where
    abbrev new : State S H
    new = state_of (table_of t') (record g { num_operations = n }) scope held

    abbrev P : Reached → Type 0
    P = Stays rules given old new

    abbrev host_reaches : H → List Reached
    host_reaches = rules.natives.holds.of_host

    cells_fit : AllFit host_reaches P (cells_in old) (of_cells (cells_of g.cells))
    cells_fit = (state_fits rules given old new).1.1.0

    object_fits : Fit host_reaches P x
    object_fits = (given_fits rules given old new).0

    index_fits : Fit host_reaches P i
    index_fits = (given_fits rules given old new).1

    table_before : FitState names rules.natives P (cells_in old) (table_of t)
    table_before = all_of P (rules.natives.holds.of_state (table_of t)) (λ r c. inl (inr c))

    lent_at : AllFit host_reaches P (cells_in old) (of_lent r)
    lent_at = lent_fits limits names rules.natives table_of how use_indexers g t x i g' t' i' r does P (cells_in old) lawful flat cells_fit
        object_fits index_fits table_before

    index_at : Fit host_reaches P i'
    index_at = rw does.index index_fits

    table_at : FitState names rules.natives P (cells_in old) (table_of t')
    table_at = table_fits limits names rules.natives table_of how use_indexers g t x i g' t' i' r does P (cells_in old) lawful flat
        cells_fit object_fits index_fits table_before

    found_again : FitsAgain rules given old (Both (of_lent r) (OneValue i')) new
    found_again = same_again rules given (Both (of_lent r) (OneValue i')) old s (table_of t') n (lent_at, index_at) table_at

    missed_again : (end : Dynamic H) → Ends end →
        FitsAgain rules given old (Both (of_lent r) (Both (OneValue end) (OneValue i'))) new
    missed_again end ends =
        let object = refused_fits limits names rules.natives table_of how use_indexers g t x i g' t' i' r does P (cells_in old) lawful flat
        cells_fit object_fits index_fits table_before end ends in
        same_again rules given (Both (of_lent r) (Both (OneValue end) (OneValue i'))) old s (table_of t') n
        (lent_at, (object, index_at)) table_at

  abbrev Again : Contents H → GlobalRuntimeState H → Type 0
  Again left h = FitsAgain rules given old left (state_of (table_of t') h scope held)

  counted : g' ≡ record g { num_operations = g'.num_operations }
  counted = (index_counts limits names rules.natives table_of how use_indexers g t x i g' t' i' r does).rest

  pub index_again : Again (Both (of_lent r) (OneValue i')) g'
  index_again = subst (Again (Both (of_lent r) (OneValue i'))) (sym counted) (found_again g'.num_operations)

  -- where it is refused, with what is left of the value that is indexed
  pub refused_again : (end : Dynamic H) → Ends end → Again (Both (of_lent r) (Both (OneValue end) (OneValue i'))) g'
  refused_again end ends = subst (Again (Both (of_lent r) (Both (OneValue end) (OneValue i')))) (sym counted)
      (missed_again g'.num_operations end ends)
