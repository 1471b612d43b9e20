-- An assignment at the end of a chain: what its frames make of how it ended.
use Rattle.std.proofs.Common.{◌≡◌, ◌⊎◌, inl, inr, Bool, true, false, List, ◌∷◌, Option, Some, None, Result, Ok, Err, IfOk, IfErr}
use Rattle.std.proofs.Common.{refl, sym, ap, subst, ◌∙◌}
use Rattle.rhai_tree.specs.declared.expr.Expr.{Expr, out-Expr}
use Rattle.rhai_tree.specs.Positions.{start_of}
use Rattle.rhai_tree.specs.declared.position.Position.{Position}
use Rattle.rhai_values.specs.declared.base.value.Dynamic.{Dynamic}
use Rattle.rhai_values.specs.declared.base.value.FnPtrKind.TheOpen as layer
use Rattle.rhai_values.specs.Layers.{UnionLayer, layer_of}
use Rattle.rhai_errors.specs.declared.error.EvalAltResult.{EvalAltResult}
use Rattle.rhai_errors.specs.declared.error.EvalAltResult.TheVariants as error
use Rattle.rhai_errors.specs.Errors.{is_out_of_memory, root_name}
use Rattle.rhai_spots.specs.declared.spot.Spot.{Spot}
use Rattle.rhai_spots.specs.declared.spot.Spot.TheVariants as spot
use Rattle.rhai_spots.specs.Parts.{IsPart, part_of, value_at, value_in, with_value}
use Rattle.rhai_spots.specs.PutBack.{put_back, IsNotPut}
use Rattle.rhai_spots.specs.Paths.{ToPlace}
use Rattle.rhai_machine.specs.machine.Machine.{Go}
use Rattle.rhai_machine.specs.machine.Memory.{here, out_before_step, ◌⨾◌, Leads}
use Rattle.rhai_machine.specs.machine.Point.{Point}
use Rattle.rhai_machine.specs.language.Setting.{Rules, cut}
use Rattle.rhai_machine.specs.language.State.{Answers, Local, State}
use Rattle.rhai_machine.specs.language.Values.{unit_value}
use Rattle.rhai_machine.specs.language.Frames.{Chain, NewValue, Frame, Core, core, ended, ended_or_changed, on_value, Back, Changed, Fail}
use Rattle.rhai_machine.specs.language.Frames.{StepDown}
use Rattle.rhai_machine.specs.language.Frames.{Measured, PartAssigned}
use Rattle.rhai_machine.specs.language.Calls.{sized}
use Rattle.rhai_machine.specs.language.Chains.{assign_focus, assign_spot, spot_core, unless_barred_by}
use Rattle.rhai_machine.specs.language.Links.{Link}
use Rattle.rhai_machine.specs.language.Located.{bars_key, is_place_spot, spot_of}
use Rattle.rhai_machine.specs.language.Members.{focus_of, focused_on}
use Rattle.rhai_machine.specs.language.Runs.{at, with_core, Goes}
use Rattle.rhai_machine.specs.language.Unwinding.{as_measured, measured_part, put_back_error, part_assigned}
use Rattle.rhai_machine.specs.language.Language.{machine}
use Rattle.rhai_steps.proofs.Pieces.{or_runs_out, step_by}
use Rattle.rhai_steps.specs.Follows.{Follows, Does, FindsNoMemory}
use Rattle.rhai_assign.specs.Updates.{finished}
use Rattle.rhai_calls.specs.ToldChanges.{with_changed}
use Rattle.rhai_chains.specs.Assigned as unless
use Rattle.rhai_chains.specs.Assigned.{item_assigned, measured_as, property_assigned, FollowsUnless, GoesIn, WentIn, Stays}
use Rattle.rhai_chains.proofs.SpotLemmas.{back_again, Standing}

-- what changed nothing ends as it would by itself
plainly_ends : {H : Type 0} (r : Result (Dynamic H) (EvalAltResult H)) → ended_or_changed (with_changed false r) ≡ ended r
plainly_ends (Ok v) = refl
plainly_ends (Err e) = refl

module _ {H : Type 0} where
  -- a part is no place
  no_place : (u : UnionLayer H) (at : Spot) (v : Dynamic H) → IsPart u at → value_in u at ≡ Some v → ⊥
  no_place (layer.Array items) (spot.Item i) v part is = part
  no_place (layer.Map entries) (spot.Value i) v part is = part
  no_place u at v part is = cc

  -- an assignment that failed
  failed : (outcome : Result (Dynamic H) (EvalAltResult H)) (result : Result (Dynamic H × Bool) (EvalAltResult H)) (e : EvalAltResult H) →
      IfErr outcome (λ x. result ≡ Err x) → with_changed false outcome ≡ Err e → result ≡ Err e
  failed (Ok v) result e fault is = cc
  failed (Err x) result e fault is = fault ∙ is

  one_place : (place : Option (Dynamic H)) (v w : Dynamic H) → place ≡ Some v → place ≡ Some w → v ≡ w
  one_place place v w is stands = cc

  measured_changed : (r : Result (Dynamic H) (EvalAltResult H)) (k : List (Frame H)) (l : Local H) →
      on_value r (λ x. core (Changed unit_value) k l) k l ≡ core (ended_or_changed (with_changed true (finished r))) k l
  measured_changed (Ok v) k l = refl
  measured_changed (Err e) k l = refl

  part_measured : (r : Result (Dynamic H) (EvalAltResult H)) (k : List (Frame H)) (l : Local H) →
      core (measured_part r) k l ≡ core (ended_or_changed (with_changed true (finished r))) k l
  part_measured (Ok v) k l = refl
  part_measured (Err e) k l = refl

module _ {S H : Type 0} (rules : Rules S H) where
  -- a state where this is worked on
  abbrev pub working : Dynamic H → State S H → State S H
  working v s = record s { local = focused_on (Some v) s.local }

  -- an answer that tells of a change, or that memory ran out
  told_of_change : (r x : Result (Dynamic H × Bool) (EvalAltResult H)) → Answers r x → (k : List (Frame H)) (s : State S H) →
      Leads (machine rules) (cut rules) (at (ended_or_changed x) k s) (at (ended_or_changed r) k s)
  told_of_change (Ok v) x a k s = rw (← a tt) here
  told_of_change (Err e) x a k s = or_runs_out rules (ended_or_changed x) k s e (λ m. rw (← a m) here)

  -- ---- the frames of an assignment

  -- what stands at a place goes back there
  goes_up : (above v : Dynamic H) (at_spot : Spot) (k : List (Frame H)) (s : State S H) (r : Result (Dynamic H × Bool) (EvalAltResult H)) →
      Leads (machine rules) (cut rules) (at (ended_or_changed r) (StepDown above (ToPlace at_spot) ∷ k) (working v s))
      (at (ended_or_changed r) k (working (with_value above at_spot v) s))
  goes_up above v at_spot k s (Ok (x, true)) =
      step_by rules _ _ (Go (core (Changed x) k (focused_on (Some (with_value above at_spot v)) s.local))) refl here
  goes_up above v at_spot k s (Ok (x, false)) =
      step_by rules _ _ (Go (core (Back x) k (focused_on (Some (with_value above at_spot v)) s.local))) refl here
  goes_up above v at_spot k s (Err e) =
      step_by rules _ _ (Go (core (Fail e) k (focused_on (Some (with_value above at_spot v)) s.local))) refl here

  -- what was assigned to is measured
  measures : (outcome : Result (Dynamic H) (EvalAltResult H)) (r : Result (Dynamic H × Bool) (EvalAltResult H)) (pos : Position)
      (k : List (Frame H)) (s : State S H) →
      IfOk outcome (λ _. Answers r (measured_as rules.setting.limits (as_measured s.local.around.cells (focus_of s.local)) pos)) →
      IfErr outcome (λ e. r ≡ Err e) →
      Leads (machine rules) (cut rules) (at (ended_or_changed (with_changed false outcome)) (Measured pos ∷ k) s)
      (at (ended_or_changed r) k s)
  measures (Ok v) r pos k s fits fault =
      let seen = as_measured s.local.around.cells (focus_of s.local) in
      step_by rules _ _ (Go (core (ended_or_changed (measured_as rules.setting.limits seen pos)) k s.local))
      (ap (λ (c : Core H). Go c) (measured_changed (sized rules.setting.limits seen pos) k s.local))
      (told_of_change r (measured_as rules.setting.limits seen pos) fits k s)
  measures (Err e) r pos k s fits fault = rw fault (step_by rules _ _ (Go (core (Fail e) k s.local)) refl here)

  -- the same state, as it is worked on below and above a place
  same_above : (source v w : Dynamic H) (at_spot : Spot) (s t : State S H) → value_at source at_spot ≡ Some v →
      working w t ≡ working v s → working (with_value source at_spot w) t ≡ working source s
  same_above source v w at_spot s t there same =
      let same_value : w ≡ v = ap (λ (x : State S H). focus_of x.local) same in
      ap (λ (x : Dynamic H). working (with_value source at_spot x) t) same_value
      ∙ ap (λ (x : Dynamic H). working x t) (back_again source v at_spot there)
      ∙ ap (λ (x : State S H). working source x) same

  module _ (root : Expr) (n : NewValue H) (at_spot : Spot) (source v w : Dynamic H) (s t : State S H)
      (outcome : Result (Dynamic H) (EvalAltResult H)) (result : Result (Dynamic H × Bool) (EvalAltResult H))
      (there : value_at source at_spot ≡ Some v) (fault : IfErr outcome (λ e. result ≡ Err e)) where
    from_place : (k : List (Frame H)) (q : Point S (Core H)) →
        Leads (machine rules) (cut rules) (with_core (assign_focus rules.setting root n k (focused_on (Some v) s.local)) s) q →
        Leads (machine rules) (cut rules) (with_core (assign_focus rules.setting root n k (focused_on (value_at source at_spot) s.local)) s)
        q
    from_place k q go = subst (λ (place : Option (Dynamic H)).
        Leads (machine rules) (cut rules) (with_core (assign_focus rules.setting root n k (focused_on place s.local)) s) q) (sym there) go

    abbrev Assigns : Type 0
    Assigns = FollowsUnless (v ≡ unit_value) rules (assign_focus rules.setting root n) (working v s) (with_changed false outcome)
        (working w t)

    -- an assignment to an item goes on in the value above
    pub item_follows :
        IfOk outcome (λ _. Answers result (measured_as rules.setting.limits (as_measured t.local.around.cells w) n.op.position)) → Assigns →
        FollowsUnless (value_at source at_spot ≡ Some unit_value) rules (item_assigned rules.setting root n at_spot source)
        (working source s) result (working (with_value source at_spot w) t)
    unfolding Goes
    item_follows fits (unless.Does runs) = unless.Does (λ k. from_place _ _
        (runs (Measured n.op.position ∷ StepDown source (ToPlace at_spot) ∷ k)
        ⨾ measures outcome result n.op.position (StepDown source (ToPlace at_spot) ∷ k) (working w t) fits fault
        ⨾ goes_up source w at_spot k t result))
    item_follows fits (unless.FindsNoMemory apart pos is same) = unless.FindsNoMemory
        (λ stands. apart (one_place (value_at source at_spot) v unit_value there stands)) pos
        (failed outcome result (error.ErrorOutOfMemory pos) fault is) (same_above source v w at_spot s t there same)

    -- and so does one to a property
    pub property_follows : IfOk outcome (λ _. Answers result (measured_as rules.setting.limits
        (as_measured t.local.around.cells (with_value source at_spot w)) n.op.position)) → Assigns →
        FollowsUnless (value_at source at_spot ≡ Some unit_value) rules (property_assigned rules.setting root n at_spot source)
        (working source s) result (working (with_value source at_spot w) t)
    unfolding Goes
    property_follows fits (unless.Does runs) = unless.Does (λ k. from_place _ _
        (runs (StepDown source (ToPlace at_spot) ∷ Measured n.op.position ∷ k)
        ⨾ goes_up source w at_spot (Measured n.op.position ∷ k) t (with_changed false outcome)
        ⨾ measures outcome result n.op.position k (working (with_value source at_spot w) t) fits fault))
    property_follows fits (unless.FindsNoMemory apart pos is same) = unless.FindsNoMemory
        (λ stands. apart (one_place (value_at source at_spot) v unit_value there stands)) pos
        (failed outcome result (error.ErrorOutOfMemory pos) fault is) (same_above source v w at_spot s t there same)

  -- ---- a part

  module _ (source w left : Dynamic H) (at_spot : Spot) (pos : Position) (k : List (Frame H)) (t : State S H) where
    -- an error comes down, and the place is as it was
    part_fails : (e : EvalAltResult H) →
        Leads (machine rules) (cut rules) (at (Fail e) (PartAssigned source at_spot pos ∷ k) (working w t))
        (at (Fail e) k (working source t))
    part_fails e = step_by rules _ _ (Go (core (Fail e) k (focused_on (Some source) t.local))) refl here

    went_in : (v : Dynamic H) → put_back source at_spot w ≡ Some left →
        Leads (machine rules) (cut rules) (at (Back v) (PartAssigned source at_spot pos ∷ k) (working w t))
        (at (ended_or_changed (measured_as rules.setting.limits w pos)) k (working left t))
    went_in v is = step_by rules _ _
        (Go (core (ended_or_changed (measured_as rules.setting.limits w pos)) k (focused_on (Some left) t.local)))
        (ap (λ (whole : Option (Dynamic H)). Go (part_assigned rules.setting whole source at_spot pos k (working w t).local)) is
        ∙ ap (λ (c : Core H). Go c) (part_measured (sized rules.setting.limits w pos) k (focused_on (Some left) t.local))) here

    not_in : (v : Dynamic H) → put_back source at_spot w ≡ None →
        Leads (machine rules) (cut rules) (at (Back v) (PartAssigned source at_spot pos ∷ k) (working w t))
        (at (Fail (put_back_error rules.setting at_spot w pos)) k (working source t))
    not_in v is = step_by rules _ _ (Go (core (Fail (put_back_error rules.setting at_spot w pos)) k (focused_on (Some source) t.local)))
        (ap (λ (whole : Option (Dynamic H)). Go (part_assigned rules.setting whole source at_spot pos k (working w t).local)) is) here

    -- where it is not taken back the place is as it was
    is_refused : (v : Dynamic H) (e : EvalAltResult H) → IsNotPut rules.setting.host_type source at_spot w pos e →
        Leads (machine rules) (cut rules) (at (Back v) (PartAssigned source at_spot pos ∷ k) (working w t))
        (at (Fail e) k (working source t))
    is_refused v (error.ErrorOutOfMemory p) is = out_before_step {at = p} (part_fails (error.ErrorOutOfMemory p))
    is_refused v e is = rw (is refl).1 (not_in v (is refl).0)

    goes_in : (v : Dynamic H) (result : Result (Dynamic H × Bool) (EvalAltResult H)) →
        GoesIn rules.setting.limits rules.setting.host_type source at_spot w pos left result →
        Leads (machine rules) (cut rules) (at (Back v) (PartAssigned source at_spot pos ∷ k) (working w t))
        (at (ended_or_changed result) k (working left t))
    goes_in v result (WentIn is told) = went_in v is
        ⨾ told_of_change result (measured_as rules.setting.limits w pos) told k (working left t)
    goes_in v result (Stays e same is not) = rw (same, is) (is_refused v e not)

  module _ (root : Expr) (n : NewValue H) (at_spot : Spot) (source v w left : Dynamic H) (s t : State S H)
      (read : v ≡ part_of source at_spot) where
    abbrev part_follows_in : (link : Link) → Result (Dynamic H × Bool) (EvalAltResult H) → Type 0
    part_follows_in link result =
        Follows rules ended_or_changed (assign_spot rules.setting false at_spot link root n source) (working source s) result
        (working left t)

    from_part : (k : List (Frame H)) (q : Point S (Core H)) →
        Leads (machine rules) (cut rules) (with_core (assign_focus rules.setting root n k (focused_on (Some v) s.local)) s) q →
        Leads (machine rules) (cut rules)
        (with_core (assign_focus rules.setting root n k (focused_on (Some (part_of source at_spot)) s.local)) s) q
    from_part k q go = subst (λ (part : Dynamic H).
        Leads (machine rules) (cut rules) (with_core (assign_focus rules.setting root n k (focused_on (Some part) s.local)) s) q) read go

    same_place : left ≡ source → working w t ≡ working v s → working left t ≡ working source s
    same_place stays same =
        ap (λ (x : Dynamic H). working x t) stays ∙ ap (λ (x : State S H). working source x) same

    -- a part that was assigned to goes back into its place
    pub part_follows : (link : Link) (done : Dynamic H) (result : Result (Dynamic H × Bool) (EvalAltResult H)) →
        Follows rules ended (assign_focus rules.setting root n) (working v s) (Ok done) (working w t) →
        GoesIn rules.setting.limits rules.setting.host_type source at_spot w n.op.position left result → part_follows_in link result
    unfolding Goes
    part_follows link done result (Does go) goes = Does (λ k. from_part _ _
        (go (PartAssigned source at_spot n.op.position ∷ k) ⨾ goes_in source w left at_spot n.op.position k t done result goes))
    part_follows link done result (FindsNoMemory pos is same) goes = cc

    -- or its assignment fails
    pub part_is_not : (link : Link) (e : EvalAltResult H) →
        Follows rules ended (assign_focus rules.setting root n) (working v s) (Err e) (working w t) → left ≡ source →
        part_follows_in link (Err e)
    unfolding Goes
    part_is_not link e (Does go) stays = Does (λ k. from_part _ _
        (go (PartAssigned source at_spot n.op.position ∷ k)
        ⨾ subst (λ (x : Dynamic H).
        Leads (machine rules) (cut rules) (at (Fail e) (PartAssigned source at_spot n.op.position ∷ k) (working w t))
        (at (Fail e) k (working x t))) (sym stays) (part_fails source w left at_spot n.op.position k t e)))
    part_is_not link e (FindsNoMemory pos is same) stays = FindsNoMemory pos
        (ap (λ (r : Result (Dynamic H) (EvalAltResult H)). with_changed false r) is) (same_place stays same)

  -- ---- what is known of a `()`, and forgotten

  -- an assignment to a value, in the form of the crate that does it
  pub assigns : (done : Type 0) (root : Expr) (n : NewValue H) (s t : State S H) (r : Result (Dynamic H) (EvalAltResult H)) → (done → ⊥) →
      Follows rules ended (assign_focus rules.setting root n) s r t →
      FollowsUnless done rules (assign_focus rules.setting root n) s (with_changed false r) t
  unfolding Goes
  assigns done root n s t r not (Does go) = unless.Does (λ k. rw (plainly_ends r) (go k))
  assigns done root n s t r not (FindsNoMemory pos is same) =
      unless.FindsNoMemory not pos (ap (λ (x : Result (Dynamic H) (EvalAltResult H)). with_changed false x) is) same

  pub assigns_at_once : (done : Type 0) (root : Expr) (n : NewValue H) (s t : State S H) (r : Result (Dynamic H) (EvalAltResult H)) →
      Goes rules (assign_focus rules.setting root n) s (core (ended r)) t →
      FollowsUnless done rules (assign_focus rules.setting root n) s (with_changed false r) t
  unfolding Goes
  assigns_at_once done root n s t r go = unless.Does (λ k. rw (plainly_ends r) (go k))

  -- where it was not done nothing is known of it
  not_done : (done : Type 0) (start : List (Frame H) → Local H → Core H) (s t : State S H)
      (r : Result (Dynamic H × Bool) (EvalAltResult H)) → (done → ⊥) → Follows rules ended_or_changed start s r t →
      FollowsUnless done rules start s r t
  not_done done start s t r not (Does runs) = unless.Does runs
  not_done done start s t r not (FindsNoMemory pos is same) = unless.FindsNoMemory not pos is same

  module _ (root : Expr) (n : NewValue H) (at_spot : Spot) (source : Dynamic H) (link : Link) (s t : State S H)
      (result : Result (Dynamic H × Bool) (EvalAltResult H)) where
    abbrev follows_at : (is_place : Bool) → Type 0
    follows_at is_place = FollowsUnless (value_at source at_spot ≡ Some unit_value) rules
        (assign_spot rules.setting is_place at_spot link root n source) s result t

    -- an assignment to a place
    pub at_place : is_place_spot at_spot ≡ true → follows_at true → follows_at (is_place_spot at_spot)
    at_place is follows = subst follows_at (sym is) follows

    -- and one to a part, where no `()` stands
    pub at_part : is_place_spot at_spot ≡ false → IsPart (layer_of source) at_spot →
        Follows rules ended_or_changed (assign_spot rules.setting false at_spot link root n source) s result t →
        follows_at (is_place_spot at_spot)
    at_part is part follows = subst follows_at (sym is)
        (not_done (value_at source at_spot ≡ Some unit_value) (assign_spot rules.setting false at_spot link root n source) s t result
        (no_place (layer_of source) at_spot unit_value part) follows)

  -- it fails, or memory runs out
  fails_or_runs_out : (start : List (Frame H) → Local H → Core H) (s : State S H) (e : EvalAltResult H) →
      (is_out_of_memory e ≡ false → (k : List (Frame H)) → start k s.local ≡ core (Fail e) k s.local) →
      Follows rules ended_or_changed start s (Err e) s
  unfolding Goes
  fails_or_runs_out start s (error.ErrorOutOfMemory pos) same = FindsNoMemory pos refl refl
  fails_or_runs_out start s e same = Does (λ k. rw (same refl k) here)

  -- ---- a spot that was found

  module _ (n : NewValue H) (link : Link) (index source : Dynamic H) (chain : Chain H) (s : State S H) where
    abbrev wanted : Result (Dynamic H × Spot) (EvalAltResult H)
    wanted = spot_of rules.setting true link s.local.around.cells source index

    abbrev start : List (Frame H) → Local H → Core H
    start = spot_core rules.setting None (Some n) link index chain source

    abbrev goes_on : Result (Dynamic H × Spot) (EvalAltResult H) → List (Frame H) → Local H → Core H
    goes_on r k l = on_value r
        (λ found. assign_spot rules.setting (is_place_spot found.1) found.1 link chain.root n found.0 k l) k l

    -- a map that may not be changed gets no key
    pub key_barred : (e : EvalAltResult H) → bars_key source index ≡ true → (is_out_of_memory e ≡ false →
        e ≡ error.ErrorAssignmentToConstant (root_name (out-Expr chain.root)) (start_of chain.root)) →
        Follows rules ended_or_changed start (working source s) (Err e) (working source s)
    key_barred e barred is = fails_or_runs_out start (working source s) e (λ m k.
        ap (λ (b : Bool). goes_on (unless_barred_by b chain.root wanted) k (working source s).local) barred
        ∙ ap (λ (x : EvalAltResult H). core (Fail x) k (working source s).local) (sym (is m)))

    -- an index may lead nowhere
    pub none_found : (e : EvalAltResult H) → bars_key source index ≡ false → (is_out_of_memory e ≡ false → wanted ≡ Err e) →
        Follows rules ended_or_changed start (working source s) (Err e) (working source s)
    none_found e free is = fails_or_runs_out start (working source s) e (λ m k.
        ap (λ (b : Bool). goes_on (unless_barred_by b chain.root wanted) k (working source s).local) free
        ∙ ap (λ (r : Result (Dynamic H × Spot) (EvalAltResult H)). goes_on r k (working source s).local) (is m))

    module _ (after left : Dynamic H) (at_spot : Spot) (t : State S H) (result : Result (Dynamic H × Bool) (EvalAltResult H)) where
      alike : (is_place : Bool) (k : List (Frame H)) →
          assign_spot rules.setting is_place at_spot link chain.root n after k (working source s).local
          ≡ assign_spot rules.setting is_place at_spot link chain.root n after k (working after s).local
      alike true k = refl
      alike false k = refl

      spot_runs_out : (added : (after ≡ source) ⊎ (value_at after at_spot ≡ Some unit_value)) →
          (value_at after at_spot ≡ Some unit_value → ⊥) → (pos : Position) → result ≡ Err (error.ErrorOutOfMemory pos) →
          working left t ≡ working after s → Follows rules ended_or_changed start (working source s) result (working left t)
      spot_runs_out (inl stays) apart pos is same = FindsNoMemory pos is (same ∙ ap (λ (x : Dynamic H). working x s) stays)
      spot_runs_out (inr stands) apart pos is same = absurd (apart stands)

      -- what it leads to is assigned to
      pub spot_follows : bars_key source index ≡ false → wanted ≡ Ok (after, at_spot) → Standing source after at_spot →
          FollowsUnless (value_at after at_spot ≡ Some unit_value) rules
          (assign_spot rules.setting (is_place_spot at_spot) at_spot link chain.root n after) (working after s) result (working left t) →
          Follows rules ended_or_changed start (working source s) result (working left t)
      unfolding Goes
      spot_follows free finds stands (unless.Does runs) = Does (λ k.
          subst (λ (c : Core H).
          Leads (machine rules) (cut rules) (with_core c (working source s)) (at (ended_or_changed result) k (working left t)))
          (sym (ap (λ (b : Bool). goes_on (unless_barred_by b chain.root wanted) k (working source s).local) free
          ∙ ap (λ (r : Result (Dynamic H × Spot) (EvalAltResult H)). goes_on r k (working source s).local) finds
          ∙ alike (is_place_spot at_spot) k)) (runs k))
      spot_follows free finds stands (unless.FindsNoMemory apart pos is same) = spot_runs_out stands.added apart pos is same
