-- The walk of a chain at what an index or a key leads to.
use Rattle.std.proofs.Common.{◌≡◌, ℕ, Bool, true, false, List, ◌∷◌, Option, Some, None, Result, Ok, Err, refl, sym, ap, ◌∙◌, subst}
use Rattle.std.specs.Prelude.{if◌then◌else◌, IfOk}
use Rattle.rhai_tree.specs.declared.position.Position.{Position}
use Rattle.rhai_tree.specs.declared.expr.Expr.{Expr}
use Rattle.rhai_tree.specs.Layers.{ExprLayer}
use Rattle.rhai_values.specs.declared.base.value.Dynamic.{Dynamic}
use Rattle.rhai_values.specs.declared.base.value.FnPtrKind.TheOpen as union
use Rattle.rhai_values.specs.Layers.{UnionLayer, layer_of}
use Rattle.rhai_errors.specs.declared.error.EvalAltResult.{EvalAltResult}
use Rattle.rhai_errors.specs.declared.error.EvalAltResult.TheVariants as error
use Rattle.rhai_errors.specs.Errors.{is_out_of_memory}
use Rattle.rhai_spots.specs.declared.spot.Access.{Access}
use Rattle.rhai_spots.specs.declared.spot.Refusal.{Refusal}
use Rattle.rhai_spots.specs.declared.spot.Spot.{Spot}
use Rattle.rhai_spots.specs.declared.spot.Spot.TheVariants as spot
use Rattle.rhai_spots.specs.Found.{found, found_by, spot_or_error, through}
use Rattle.rhai_spots.specs.Indexing.{located}
use Rattle.rhai_spots.specs.Parts.{IsPart, IsPlace, IsThere, part_of, value_at, with_value}
use Rattle.rhai_spots.specs.Paths.{ToPlace}
use Rattle.rhai_machine.specs.machine.Point.{after}
use Rattle.rhai_machine.specs.machine.Memory.{here, next, ◌⨾◌, Leads}
use Rattle.rhai_machine.specs.language.Setting.{Setting, Rules, cut}
use Rattle.rhai_machine.specs.language.State.{Local, State}
use Rattle.rhai_machine.specs.language.Values.{unit_value}
use Rattle.rhai_machine.specs.language.Links.{Link, LinkForm, AtIndex, AtProperty, AtMethod, link_of}
use Rattle.rhai_machine.specs.language.Frames.{Chain, NewValue, Frame, Core, core, ended_or_changed, on_value, Walk, StepDown}
use Rattle.rhai_machine.specs.language.Frames.{Temporary}
use Rattle.rhai_machine.specs.language.Frames.{PartMethod}
use Rattle.rhai_machine.specs.language.Located.{args_behind, is_indexed, is_map, is_place_spot, spot_of, taken_at}
use Rattle.rhai_machine.specs.language.Members.{focused_on}
use Rattle.rhai_machine.specs.language.Chains.{after_method, behind_link, descend, method_of, part_core, part_form, spot_core}
use Rattle.rhai_machine.specs.language.Chains.{way_back}
use Rattle.rhai_machine.specs.language.Runs.{at, Goes, Steps}
use Rattle.rhai_machine.specs.language.Language.{machine}
use Rattle.rhai_steps.specs.Follows.{Follows, Does, FindsNoMemory}
use Rattle.rhai_links.specs.Walking.{IsLocated, IsNoMethod, IsSpotBelow}
use Rattle.rhai_links.specs.Spots.{FindsSpot}
use Rattle.rhai_links.proofs.Alike.{begins_alike, follows_alike}
use Rattle.rhai_links.proofs.OnTemporaries.{working}

-- ---- spots

module _ {H : Type 0} where
  pub place_is : (source : UnionLayer H) (there : Spot) → IsPlace source there → is_place_spot there ≡ true
  place_is source (spot.Item i) is = refl
  place_is source (spot.Value i) is = refl
  place_is source _ is = absurd is

  -- where no key is inserted the value stays as it was
  without_same : (added : Dynamic H × Spot) (adds fails : Bool) (e : EvalAltResult H) (source after : Dynamic H) (there : Spot) →
      adds ≡ false → (if adds then Ok added else (if fails then Err e else Ok (source, spot.Missing))) ≡ Ok (after, there) → after ≡ source
  without_same added true fails e source after there never is = cc
  without_same added false true e source after there never is = cc
  without_same added false false e source after there never is =
      let both : ◌≡◌ {A = Dynamic H × Spot} (source, spot.Missing) (after, there) = cc in sym (ap (λ (p : Dynamic H × Spot). p.0) both)

  settled_same : (how : Access) (name : H → List ℕ) (cells : List (Option (Dynamic H))) (source index after : Dynamic H)
      (r : Result Spot Refusal) (there : Spot) → how.add_if_not_found ≡ false →
      spot_or_error how name cells source index r ≡ Ok (after, there) →
      after ≡ source
  settled_same how name cells source index after (Ok spot.Missing) there never is =
      without_same _ how.add_if_not_found how.fail_on_invalid_map_property _ source after there never is
  settled_same how name cells source index after (Ok place) there never is =
      let both : ◌≡◌ {A = Dynamic H × Spot} (source, place) (after, there) = cc in sym (ap (λ (p : Dynamic H × Spot). p.0) both)
  settled_same how name cells source index after (Err refusal) there never is = cc

  found_by_same : (how : Access) (name : H → List ℕ) (cells : List (Option (Dynamic H))) (source after : Dynamic H)
      (index : Option (Dynamic H)) (there : Spot) → how.add_if_not_found ≡ false →
      found_by how name cells source index ≡ Ok (after, there) → after ≡ source
  found_by_same how name cells source after (Some index) there never is =
      settled_same how name cells source index after (located (layer_of source) (layer_of index)) there never is
  found_by_same how name cells source after None there never is = cc

  pub found_same : (how : Access) (name : H → List ℕ) (cells : List (Option (Dynamic H))) (source index after : Dynamic H)
      (there : Spot) → how.add_if_not_found ≡ false → found how name cells source index ≡ Ok (after, there) → after ≡ source
  found_same how name cells source index after there never is =
      found_by_same how name cells source after (through cells index) there never is

  -- and what is found is found there
  pub spot_stays : (how : Access) (name : H → List ℕ) (cells : List (Option (Dynamic H))) (source index after : Dynamic H)
      (r : Result Spot (EvalAltResult H)) → how.add_if_not_found ≡ false → FindsSpot r (found how name cells source index) source after →
      after ≡ source
  spot_stays how name cells source index after (Ok there) never finds = found_same how name cells source index after there never finds
  spot_stays how name cells source index after (Err e) never finds = finds.0

  pub spot_below : (how : Access) (name : H → List ℕ) (cells : List (Option (Dynamic H))) (source index after : Dynamic H)
      (r : Result Spot (EvalAltResult H)) → how.add_if_not_found ≡ false → FindsSpot r (found how name cells source index) source after →
      IfOk r (λ there. IsThere (layer_of after) there) → IsSpotBelow r (found how name cells source index) source
  spot_below how name cells source index after (Ok there) never finds is =
      let same = found_same how name cells source index after there never finds in (
        subst (λ (v : Dynamic H). found how name cells source index ≡ Ok (v, there)) same finds,
        subst (λ (v : Dynamic H). IsThere (layer_of v) there) same is,
      )
  spot_below how name cells source index after (Err e) never finds is = finds.1

  pub map_indexed : (source : UnionLayer H) → is_map source ≡ true → is_indexed source ≡ true
  map_indexed (union.Map entries) is = refl
  map_indexed _ is = cc

  module _ (s : Setting H) (link : Link) (chain : Chain H) (args : List (Dynamic H)) (left : args_behind link.form chain.args ≡ args) where
    -- the chain behind a link, by the arguments that are left
    abbrev behind : ExprLayer → Bool → Chain H
    behind rest in_place = record chain { rest = rest; args = args; in_place = in_place }

    goes_behind : (rest : ExprLayer) (in_place : Bool) → behind_link link rest in_place chain ≡ behind rest in_place
    goes_behind rest in_place =
        ap (λ (xs : List (Dynamic H)). record chain { rest = rest; args = xs; in_place = in_place }) left

    -- on a place
    pub down_is : (there : Spot) (rest : ExprLayer) (index source : Dynamic H) (k : List (Frame H)) (l : Local H) →
        IsPlace (layer_of source) there →
        descend s (is_place_spot there) there link rest index chain source k l
        ≡ core (Walk (behind rest true)) (StepDown source (ToPlace there) ∷ k) (focused_on (value_at source there) l)
    down_is there rest index source k l is =
        ap (λ (b : Bool). descend s b there link rest index chain source k l) (place_is (layer_of source) there is)
        ∙ ap (λ (c : Chain H). core (Walk c) (StepDown source (ToPlace there) ∷ k) (focused_on (value_at source there) l))
        (goes_behind rest true)

    -- on a temporary for a missing key
    pub missing_is : (rest : ExprLayer) (index source : Dynamic H) (k : List (Frame H)) (l : Local H) →
        descend s false spot.Missing link rest index chain source k l
        ≡ core (Walk (behind rest false)) (Temporary (Some source) (way_back link.form link index chain) ∷ k) (focused_on
        (Some unit_value) l)
    missing_is rest index source k l =
        ap (λ (c : Chain H). core (Walk c) (Temporary (Some source) (way_back link.form link index chain) ∷ k)
        (focused_on (Some unit_value) l)) (goes_behind rest false)

    -- on a part
    pub part_is : (there : Spot) (rest : ExprLayer) (index source : Dynamic H) (k : List (Frame H)) (l : Local H) →
        IsPart (layer_of source) there →
        descend s (is_place_spot there) there link rest index chain source k l
        ≡ part_core s (link_of rest) there (behind rest false) source k l
    part_is (spot.Item i) rest index source k l is = absurd is
    part_is (spot.Value i) rest index source k l is = absurd is
    part_is spot.Missing rest index source k l is = absurd is
    part_is (spot.Byte i) rest index source k l is =
        ap (λ (c : Chain H). part_core s (link_of rest) (spot.Byte i) c source k l) (goes_behind rest false)
    part_is (spot.Bit i) rest index source k l is =
        ap (λ (c : Chain H). part_core s (link_of rest) (spot.Bit i) c source k l) (goes_behind rest false)
    part_is (spot.BitField i j) rest index source k l is =
        ap (λ (c : Chain H). part_core s (link_of rest) (spot.BitField i j) c source k l) (goes_behind rest false)
    part_is (spot.Char i) rest index source k l is =
        ap (λ (c : Chain H). part_core s (link_of rest) (spot.Char i) c source k l) (goes_behind rest false)
    part_is (spot.Slice i j) rest index source k l is =
        ap (λ (c : Chain H). part_core s (link_of rest) (spot.Slice i j) c source k l) (goes_behind rest false)

  -- a part that no method works on
  temporary_by : (s : Setting H) (form : LinkForm) (link : Link) (there : Spot) (chain : Chain H) (source : Dynamic H)
      (k : List (Frame H)) (l : Local H) → IsLocated form →
      part_form s form link there chain source k l
      ≡ core (Walk chain) (Temporary (Some source) None ∷ k) (focused_on (Some (part_of source there)) l)
  temporary_by s (AtIndex index) link there chain source k l is = refl
  temporary_by s (AtProperty name pos) link there chain source k l is = refl
  temporary_by s (AtMethod name args pos) link there chain source k l is = absurd is

  part_temporary : (s : Setting H) (link : Option Link) (there : Spot) (chain : Chain H) (source : Dynamic H) (k : List (Frame H))
      (l : Local H) → IsNoMethod link →
      part_core s link there chain source k l
      ≡ core (Walk chain) (Temporary (Some source) None ∷ k) (focused_on (Some (part_of source there)) l)
  part_temporary s None there chain source k l none = refl
  part_temporary s (Some link) there chain source k l none = temporary_by s link.form link there chain source k l none

module _ {S H : Type 0} (rules : Rules S H) where
  -- ---- a place

  -- a result comes up from a place, and what has become of it goes back
  up_from_place : (r : Result (Dynamic H × Bool) (EvalAltResult H)) (source w : Dynamic H) (there : Spot) (k : List (Frame H))
      (s : State S H) →
      Leads (machine rules) (cut rules) (at (ended_or_changed r) (StepDown source (ToPlace there) ∷ k) (working (Some w) s))
      (at (ended_or_changed r) k (working (Some (with_value source there w)) s))
  unfolding after
  up_from_place (Ok (v, true)) source w there k s = next here
  up_from_place (Ok (v, false)) source w there k s = next here
  up_from_place (Err e) source w there k s = next here

  -- the walk goes on on a place
  pub goes_down : (chain : Chain H) (source v w : Dynamic H) (there : Spot) (old new : State S H)
      (r : Result (Dynamic H × Bool) (EvalAltResult H)) → value_at source there ≡ Some v →
      Steps rules (Walk chain) (working (Some v) old) (ended_or_changed r) (working (Some w) new) →
      Goes rules (λ k l. core (Walk chain) (StepDown source (ToPlace there) ∷ k) (focused_on (value_at source there) l)) old
      (core (ended_or_changed r)) (working (Some (with_value source there w)) new)
  unfolding Goes
  goes_down chain source v w there old new r is runs k = rw is
      (runs (StepDown source (ToPlace there) ∷ k) ⨾ up_from_place r source w there k new)

  -- ---- what was found

  module _ (link : Link) (chain : Chain H) (rest : ExprLayer) (assigned : Option (NewValue H)) (index source : Dynamic H)
      (old new : State S H) (r : Result (Dynamic H × Bool) (EvalAltResult H)) where
    abbrev wanted : Result (Dynamic H × Spot) (EvalAltResult H)
    wanted = spot_of rules.setting false link old.local.around.cells source index

    abbrev going_on : List (Frame H) → Local H → Core H
    going_on = spot_core rules.setting (Some rest) assigned link index chain source

    -- it is there, and leads on
    found_goes : (there : Spot) (start : List (Frame H) → Local H → Core H) → wanted ≡ Ok (source, there) →
        ((k : List (Frame H)) → descend rules.setting (is_place_spot there) there link rest index chain source k old.local
        ≡ start k old.local) → Follows rules ended_or_changed start old r new → Follows rules ended_or_changed going_on old r new
    found_goes there start is same follows = follows_alike rules start going_on old new r
        (λ k. ap (λ (o : Result (Dynamic H × Spot) (EvalAltResult H)). on_value o
        (λ spot. descend rules.setting (is_place_spot spot.1) spot.1 link rest index chain spot.0 k old.local) k old.local) is ∙ same k)
        follows

    module _ (args : List (Dynamic H)) (left : args_behind link.form chain.args ≡ args) (there : Spot) (is : wanted ≡ Ok
        (source, there)) where
      pub found_place : IsPlace (layer_of source) there →
          Goes rules (λ k l. core (Walk (record chain { rest = rest; args = args; in_place = true }))
          (StepDown source (ToPlace there) ∷ k) (focused_on (value_at source there) l)) old (core (ended_or_changed r)) new →
          Follows rules ended_or_changed going_on old r new
      found_place place runs = found_goes there _ is
          (λ k. down_is rules.setting link chain args left there rest index source k old.local place) (Does runs)

      pub found_missing : there ≡ spot.Missing →
          Goes rules (λ k l. core (Walk (record chain { rest = rest; args = args; in_place = false }))
          (Temporary (Some source) (way_back link.form link index chain) ∷ k) (focused_on (Some unit_value) l)) old
          (core (ended_or_changed r)) new →
          Follows rules ended_or_changed going_on old r new
      found_missing missing runs = found_goes spot.Missing _ (rw missing at is)
          (λ k. missing_is rules.setting link chain args left rest index source k old.local) (Does runs)

      pub found_part : IsPart (layer_of source) there →
          Follows rules ended_or_changed (part_core rules.setting (link_of rest) there (record chain
          { rest = rest; args = args; in_place = false }) source) old r new → Follows rules ended_or_changed going_on old r new
      found_part part follows = found_goes there _ is
          (λ k. part_is rules.setting link chain args left there rest index source k old.local part) follows

    -- nothing is found
    pub found_none : (e : EvalAltResult H) → (is_out_of_memory e ≡ false → wanted ≡ Err e) →
        Follows rules ended_or_changed going_on old (Err e) old
    unfolding Goes
    found_none (error.ErrorOutOfMemory pos) is = FindsNoMemory pos refl refl
    found_none e is = Does (λ k. rw (is refl) here)

  -- the chain ends there

  module _ (link : Link) (chain : Chain H) (index source : Dynamic H) (old : State S H) where
    abbrev taking : List (Frame H) → Local H → Core H
    taking = spot_core rules.setting None None link index chain source

    -- and what is there is taken
    pub taken_there : (there : Spot) (v : Dynamic H) → spot_of rules.setting false link old.local.around.cells source index ≡ Ok
        (source, there) →
        v ≡ taken_at source there → Follows rules ended_or_changed taking old (Ok (v, false)) old
    unfolding Goes
    taken_there there v is taken = Does (λ k. rw (is, taken) here)

    pub taken_none : (e : EvalAltResult H) →
        (is_out_of_memory e ≡ false → spot_of rules.setting false link old.local.around.cells source index ≡ Err e) →
        Follows rules ended_or_changed taking old (Err e) old
    unfolding Goes
    taken_none (error.ErrorOutOfMemory pos) is = FindsNoMemory pos refl refl
    taken_none e is = Does (λ k. rw (is refl) here)

  -- ---- a part

  module _ (link : Option Link) (there : Spot) (chain : Chain H) (source : Dynamic H) (old new : State S H)
      (r : Result (Dynamic H × Bool) (EvalAltResult H)) where
    -- a method works on it
    pub part_method : (first : Link) (name : List ℕ) (args : List Expr) (pos : Position) → link ≡ Some first →
        first.form ≡ AtMethod name args pos →
        Goes rules (λ k l. method_of rules.setting name args pos false chain
        (PartMethod source there pos ∷ after_method first.behind first chain k) (focused_on (Some (part_of source there)) l)) old
        (core (ended_or_changed r)) new →
        Follows rules ended_or_changed (part_core rules.setting link there chain source) old r new
    part_method first name args pos is of runs = Does (begins_alike rules _ (part_core rules.setting link there chain source) old new r
        (λ k. ap (λ (o : Option Link). part_core rules.setting o there chain source k old.local) is
        ∙ ap (λ (form : LinkForm). part_form rules.setting form first there chain source k old.local) of) runs)

    -- and any other link on a temporary
    pub part_goes : IsNoMethod link → old.local.focus ≡ Some source →
        Goes rules (λ k l. core (Walk chain) (Temporary l.focus None ∷ k) (focused_on (Some (part_of source there)) l)) old
        (core (ended_or_changed r)) new →
        Follows rules ended_or_changed (part_core rules.setting link there chain source) old r new
    part_goes none stands runs = Does (begins_alike rules _ (part_core rules.setting link there chain source) old new r
        (λ k. part_temporary rules.setting link there chain source k old.local none
        ∙ ap (λ (o : Option (Dynamic H)). core (Walk chain) (Temporary o None ∷ k) (focused_on (Some (part_of source there)) old.local))
        (sym stands)) runs)
