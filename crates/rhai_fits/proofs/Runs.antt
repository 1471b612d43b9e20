-- Whole runs, also those that run out of memory, lead from points that fit to points that fit.
use Rattle.std.proofs.Common.{◌≡◌, ◌≤◌, ◌<◌, ◌⊎◌, inl, inr, ℕ, List, [], length, arith}
use Rattle.std.specs.Prelude.{⊤, Bool, true, false, Option}
use Rattle.rhai_machine.specs.Types.{Dynamic, EvalAltResult, Position}
use Rattle.rhai_errors.specs.declared.error.EvalAltResult.TheVariants as error
use Rattle.rhai_errors.specs.Native.{Request, Reply, Faults, Lawful, MayLeave}
use Rattle.rhai_values.specs.ValueContents.{Reached, Cell, contents_of}
use Rattle.rhai_errors.specs.ErrorContents.{error_contents}
use Rattle.rhai_machine.specs.machine.Machine.{Move, Halt, Go, Charge, Native, AskPure}
use Rattle.rhai_machine.specs.machine.Point.{Point, paid, moved, after}
use Rattle.rhai_machine.specs.machine.Memory.{Leads, here, next, out_before_step, out_in_native}
use Rattle.rhai_machine.specs.language.Setting.{Rules, cut}
use Rattle.rhai_machine.specs.language.Frames.{Core, core, Fail}
use Rattle.rhai_machine.specs.language.Language.{machine, move}
use Rattle.rhai_machine.specs.language.Runs.{at, Goes}
use Rattle.rhai_fits.specs.Contents.{Contents, Nothing, OneValue, OneError, OneModule, Both, of_core, of_offer, Has, HasAt}
use Rattle.rhai_fits.specs.Modules.{module_contents}
use Rattle.rhai_fits.specs.Sealed.{Sealed}
use Rattle.rhai_fits.specs.Laws.{count_of_cells, IsAdded, Keeps, RunsKeep, StepsKeep, RunsFit}
use Rattle.rhai_fits.proofs.Properties.{all_at, all_of}
use Rattle.rhai_fits.proofs.Values.{fit_reached, reached_is_fit}
use Rattle.rhai_fits.proofs.Errors.{fit_error, error_reached, reached_error}
use Rattle.rhai_fits.proofs.Modules.{reached_module, module_reached}
use Rattle.rhai_fits.proofs.Fitting.{AllFit, FitCore, FitOffer, fail}
use Rattle.rhai_fits.proofs.Natives.{FitNative, FitState, Moves, reply_fits, first_fits, state_fits, run_out_first_fits, run_out_state_fits}
use Rattle.rhai_fits.proofs.Rules.{FreshMove, move_good}

-- ---- contents that fit, and what they contain

module _ {H : Type 0} (own : H → List Reached) (P : Reached → Type 0) (least : ℕ) where
  -- what contains only what has the property fits
  contents_fit : (x : Contents H) → ((r : Reached) → Has own x r → P r) → AllFit own P least x
  contents_fit Nothing h = tt
  contents_fit (OneValue v) h = reached_is_fit own P v (all_of P (contents_of own v) h)
  contents_fit (OneError e) h = reached_error own P e (all_of P (error_contents own e) h)
  contents_fit (OneModule m) h = reached_module own P m (all_of P (module_contents own m) h)
  contents_fit (Both a b) h = (contents_fit a (λ r c. h r (inl c)), contents_fit b (λ r c. h r (inr c)))

  -- and what fits contains nothing else
  fit_contents : (x : Contents H) → AllFit own P least x → (r : Reached) → Has own x r → P r
  fit_contents Nothing h n c = absurd c
  fit_contents (OneValue v) h n c = all_at P (contents_of own v) n (fit_reached own P v h) c
  fit_contents (OneError e) h n c = all_at P (error_contents own e) n (error_reached own P e h) c
  fit_contents (OneModule m) h n c = all_at P (module_contents own m) n (module_reached own P m h) c
  fit_contents (Both a b) h n (inl c) = fit_contents a h.0 n c
  fit_contents (Both a b) h n (inr c) = fit_contents b h.1 n c

  -- a sealed core that has only what has the property fits
  core_fits : (c : Core H) → Sealed c → ((r : Reached) → Has own (of_core c) r → P r) → least ≤ length c.local.around.cells →
      FitCore own P least c
  core_fits c s h enough =
      let all : AllFit own P least (of_core c) = contents_fit (of_core c) h in
      record {
        control = all.0;
        sealed = s.control;
        below = record {
          stack = all.1.0;
          sealed = s.stack;
          back = s.goes_back;
          local = record {
            scope = all.1.1.0;
            this = all.1.1.1.0;
            focus = all.1.1.1.1.0;
            cells = all.1.1.1.1.1.0;
            around = all.1.1.1.1.1.1;
            sealed = s.cells;
            enough = enough;
          };
        };
      }

  sealed_core : (c : Core H) → FitCore own P least c → Sealed c
  sealed_core c h =
      record { control = h.sealed; stack = h.below.sealed; goes_back = h.below.back; cells = h.below.local.sealed }

  all_core : (c : Core H) → FitCore own P least c → AllFit own P least (of_core c)
  all_core c h = (
    h.control,
    (
      h.below.stack,
      (h.below.local.scope, (h.below.local.this, (h.below.local.focus, (h.below.local.cells, h.below.local.around)))),
    ),
  )

module _ {S H : Type 0} (rules : Rules S H) (names : H → List ℕ) (lawful : Lawful names rules.natives) (allows : ℕ → Bool) where
  abbrev own : H → List Reached
  own = rules.natives.holds.of_host

  -- a point fits, and so do the engine's modules
  record FitPoint (P : Reached → Type 0) (least : ℕ) (p : Point S (Core H)) : Type 0 where
    pub core : FitCore own P least p.core
    pub offer : FitOffer own P least rules.setting.offer
    pub state : FitState names rules.natives P least p.table

  module _ (P : Reached → Type 0) (least : ℕ) where
    -- ---- one step

    paid_fits : (allowed : Bool) (at : Position) (d : Core H) (p : Point S (Core H)) → FitCore own P least d → FitPoint P least p →
        FitPoint P least (paid (machine rules) allowed at d p)
    paid_fits true at d p h f = record { core = h; offer = f.offer; state = f.state }
    paid_fits false at d p h f =
        record {
          core = fail own P least _ p.core.stack p.core.local (fit_error own P _ tt) f.core.below;
          offer = f.offer;
          state = f.state;
        }

    moved_fits : (v : Move H (Core H)) (p : Point S (Core H)) → Moves own P least v → FitPoint P least p →
        FitPoint P least (moved (machine rules) allows v p)
    moved_fits Halt p h f = f
    moved_fits (Go d) p h f = record { core = h; offer = f.offer; state = f.state }
    moved_fits (Charge at d) p h f = paid_fits (allows p.count) at d p h f
    moved_fits (Native q g) p h f = record {
      core = h.answered _ _ (reply_fits names rules.natives P least lawful p.table q f.state h.asks)
          (first_fits names rules.natives P least lawful p.table q f.state h.asks);
      offer = f.offer;
      state = state_fits names rules.natives P least lawful p.table q f.state h.asks;
    }
    moved_fits (AskPure q g) p h f = record { core = h (rules.natives.pure p.table q); offer = f.offer; state = f.state }

    abbrev move_of : Point S (Core H) → Move H (Core H)
    move_of p = move rules.setting p.core

    moves : (p : Point S (Core H)) → FitPoint P least p → FreshMove own P least (move_of p) → Moves own P least (move_of p)
    moves p f new = move_good own P least rules.setting f.offer p.core.control p.core.stack p.core.local f.core.control
        f.core.sealed f.core.below new

    step_fits : (p : Point S (Core H)) → FitPoint P least p → FreshMove own P least (move_of p) →
        FitPoint P least (after (machine rules) allows p)
    unfolding after
    step_fits p f new = moved_fits (move_of p) p (moves p f new) f

    run_out_fits : (at : Position) (p : Point S (Core H)) → FitPoint P least p →
        FitPoint P least (record p { core = core (Fail (error.ErrorOutOfMemory at)) p.core.stack p.core.local })
    run_out_fits at p f =
        record {
          core = fail own P least _ p.core.stack p.core.local (fit_error own P _ tt) f.core.below;
          offer = f.offer;
          state = f.state;
        }

    -- a native that finds no memory
    native_run_out_fits : (p : Point S (Core H)) (call : Request H) (g : Reply H → Option (Dynamic H) → Core H) (at : Position)
        (e : EvalAltResult H) (first : Option (Dynamic H)) (state : S) → FitNative own P least call g → FitPoint P least p →
        MayLeave rules.setting.host_type rules.natives p.table call first state →
        FitPoint P least (record p {
          core = core (Fail (error.ErrorOutOfMemory at)) (g (Faults e) first).stack (g (Faults e) first).local;
          table = state;
        })
    native_run_out_fits p call g at e first state h f may = record {
      core = fail own P least _ _ _ (fit_error own P _ tt)
          (h.out_in_native e first (run_out_first_fits names rules.natives P least rules.setting.host_type p.table call first state f.state
          h.asks may));
      offer = f.offer;
      state = run_out_state_fits names rules.natives P least rules.setting.host_type p.table call first state f.state h.asks may;
    }

    native_of : (v : Move H (Core H)) (call : Request H) (g : Reply H → Option (Dynamic H) → Core H) → v ≡ Native call g →
        Moves own P least v → FitNative own P least call g
    native_of v call g is h = rw is at h

    -- no native's move adds a cell
    fresh_native : (v : Move H (Core H)) (call : Request H) (g : Reply H → Option (Dynamic H) → Core H) → v ≡ Native call g →
        FreshMove own P least v
    fresh_native v call g is = rw is tt

    -- ---- a run, where each cell from the number `least` on has the property

    module _ (fresh : (n : ℕ) → least ≤ n → P (Cell n)) where
      fresh_move : (v : Move H (Core H)) → FreshMove own P least v
      fresh_move Halt = tt
      fresh_move (Go d) = λ n le lt. fresh n le
      fresh_move (Charge at d) = tt
      fresh_move (Native q g) = tt
      fresh_move (AskPure q g) = tt

      run_fits : {p q : Point S (Core H)} → Leads (machine rules) allows p q → FitPoint P least p → FitPoint P least q
      run_fits here f = f
      run_fits (next {p = p} r) f = run_fits r (step_fits p f (fresh_move (move_of p)))
      run_fits (out_before_step {p = p} {at = at} r) f = run_fits r (run_out_fits at p f)
      run_fits (out_in_native {p = p} {call = call} {f = g} {at = at} is e first state may r) f = run_fits r
          (native_run_out_fits p call g at e first state (native_of (move_of p) call g is (moves p f (fresh_move (move_of p)))) f may)

  -- ---- a run only adds cells

  any : Reached → Type 0
  any r = ⊤

  -- a sealed point fits, whatever it has
  any_fits : (p : Point S (Core H)) → Sealed p.core → FitPoint any (count_of_cells p) p
  unfolding any
  any_fits p s = record {
    core = core_fits own any (count_of_cells p) p.core s (λ n c. tt) (omega arith);
    offer = contents_fit own any (count_of_cells p) (of_offer rules.setting.offer) (λ n c. tt);
    state = all_of any (rules.natives.holds.of_state p.table) (λ n c. tt);
  }

  run_grows : {p q : Point S (Core H)} → Leads (machine rules) allows p q → Sealed p.core → count_of_cells p ≤ count_of_cells q
  unfolding any
  run_grows {p} {q} r s = (run_fits any (count_of_cells p) (λ n le. tt) r (any_fits p s)).core.below.local.enough

  after_sealed : (p : Point S (Core H)) → Sealed p.core → Sealed (after (machine rules) allows p).core
  unfolding any
  after_sealed p s = sealed_core own any (count_of_cells p) (after (machine rules) allows p).core
      (step_fits any (count_of_cells p) p (any_fits p s)
      (fresh_move any (count_of_cells p) (λ n le. tt) (move_of any (count_of_cells p) p))).core

  -- ---- a run, where each cell that it adds has the property

  module _ (P : Reached → Type 0) (least : ℕ) (q : Point S (Core H)) (fresh : (n : ℕ) → least ≤ n → n < count_of_cells q → P (Cell n)) where
    fresh_below : (v : Move H (Core H)) (p : Point S (Core H)) → count_of_cells (moved (machine rules) allows v p) ≤ count_of_cells q →
        FreshMove own P least v
    fresh_below Halt p few = tt
    fresh_below (Go d) p few = λ n le lt. fresh n le (omega (arith, lt, few))
    fresh_below (Charge at d) p few = tt
    fresh_below (Native call g) p few = tt
    fresh_below (AskPure question g) p few = tt

    fresh_step : (p : Point S (Core H)) → count_of_cells (after (machine rules) allows p) ≤ count_of_cells q →
        FreshMove own P least (move_of P least p)
    unfolding after
    fresh_step p few = fresh_below (move_of P least p) p few

    run_fits_below : {p : Point S (Core H)} → Leads (machine rules) allows p q → FitPoint P least p → FitPoint P least q
    run_fits_below here f = f
    run_fits_below (next {p = p} r) f =
        let sealed = after_sealed p (sealed_core own P least p.core f.core) in
        run_fits_below r (step_fits P least p f (fresh_step p (run_grows r sealed)))
    run_fits_below (out_before_step {p = p} {at = at} r) f = run_fits_below r (run_out_fits P least at p f)
    run_fits_below (out_in_native {p = p} {call = call} {f = g} {at = at} is e first state may r) f =
        let native = native_of P least (move_of P least p) call g is (moves P least p f (fresh_native P least (move_of P least p) call g
        is)) in
        run_fits_below r (native_run_out_fits P least p call g at e first state native f may)

  -- ---- the laws

  -- there before, or a cell added since
  abbrev Known : (p q : Point S (Core H)) → Reached → Type 0
  Known p q r = HasAt rules p r ⊎ IsAdded p q r

  known_fits : (p q : Point S (Core H)) → Sealed p.core → FitPoint (Known p q) (count_of_cells p) p
  known_fits p q s = record {
    core = core_fits own (Known p q) (count_of_cells p) p.core s (λ n c. inl (inl (inl c))) (omega arith);
    offer = contents_fit own (Known p q) (count_of_cells p) (of_offer rules.setting.offer) (λ n c. inl (inl (inr c)));
    state = all_of (Known p q) (rules.natives.holds.of_state p.table) (λ n c. inl (inr c));
  }

  had_known : (p q : Point S (Core H)) → FitPoint (Known p q) (count_of_cells p) q → (r : Reached) → HasAt rules q r → Known p q r
  had_known p q f n (inl (inl c)) = fit_contents own (Known p q) (count_of_cells p) (of_core q.core)
      (all_core own (Known p q) (count_of_cells p) q.core f.core) n c
  had_known p q f n (inl (inr c)) = fit_contents own (Known p q) (count_of_cells p) (of_offer rules.setting.offer) f.offer n c
  had_known p q f n (inr c) = all_at (Known p q) (rules.natives.holds.of_state q.table) n f.state c

  pub leads_keep : (p q : Point S (Core H)) → Sealed p.core → Leads (machine rules) allows p q → Keeps rules p q
  leads_keep p q s r =
      let f = run_fits_below (Known p q) (count_of_cells p) q (λ n le lt. inr (le, lt)) r (known_fits p q s) in
      record {
        sealed = sealed_core own (Known p q) (count_of_cells p) q.core f.core;
        grows = f.core.below.local.enough;
        only_cells = had_known p q f;
      }

module _ {S H : Type 0} (rules : Rules S H) (names : H → List ℕ) (lawful : Lawful names rules.natives) where
  pub runs_keep : RunsKeep rules
  runs_keep p q s r = leads_keep rules names lawful (cut rules) p q s r

  pub steps_keep : StepsKeep rules
  unfolding Goes
  steps_keep c d old new z s steps =
      runs_keep (at c [] old) (at d [] new) (record { control = z; stack = tt; goes_back = tt; cells = s }) (steps [])

  within_more : (m n : ℕ) (p : Point S (Core H)) (k : ℕ) → m ≤ n → ((k : ℕ) → HasAt rules p (Cell k) → k < m) →
      HasAt rules p (Cell k) ⊎ ((m ≤ k) × (k < n)) → k < n
  within_more m n p k few within (inl held) = omega (arith, within k held, few)
  within_more m n p k few within (inr added) = added.1

  pub runs_fit : RunsFit rules
  runs_fit p q f r =
      let kept = runs_keep p q f.sealed r in
      record {
        sealed = kept.sealed;
        within = λ n held. within_more (count_of_cells p) (count_of_cells q) p n kept.grows f.within (kept.only_cells (Cell n) held);
      }
