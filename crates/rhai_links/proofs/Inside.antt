-- The walk of a chain at an index or a property, once its focus is entered: what stands there, or else a member by natives.
use Rattle.std.proofs.Common.{◌≡◌, ℕ, Bool, true, false, List, ◌∷◌, Option, Some, None, Result, Ok, Err, refl, sym, ap, ◌∙◌, subst}
use Rattle.rhai_tree.specs.declared.position.Position.{Position}
use Rattle.rhai_tree.specs.declared.expr.Expr.{Expr}
use Rattle.rhai_tree.specs.Layers.{ExprLayer}
use Rattle.rhai_values.specs.declared.base.value.Dynamic.{Dynamic}
use Rattle.rhai_values.specs.declared.base.value.Union.TheVariants as value
use Rattle.rhai_values.specs.Copy.{plain}
use Rattle.rhai_values.specs.Layers.{layer_of}
use Rattle.rhai_errors.specs.declared.error.EvalAltResult.{EvalAltResult}
use Rattle.rhai_errors.specs.declared.error.EvalAltResult.TheVariants as error
use Rattle.rhai_errors.specs.Errors.{is_out_of_memory}
use Rattle.rhai_machine.specs.language.Setting.{Rules}
use Rattle.rhai_machine.specs.language.State.{Answers, Local, State}
use Rattle.rhai_machine.specs.language.Links.{Link, LinkForm, AtIndex, AtProperty, AtMethod}
use Rattle.rhai_machine.specs.language.Frames.{Chain, NewValue, Property, Item, MemberAccess, MemberLink, Frame, Core}
use Rattle.rhai_machine.specs.language.Frames.{ended_or_changed}
use Rattle.rhai_machine.specs.language.Frames.{core}
use Rattle.rhai_machine.specs.language.Located.{args_behind, is_indexed, is_map}
use Rattle.rhai_machine.specs.language.Members.{get_core}
use Rattle.rhai_machine.specs.language.Chains.{after_method, indexed_core, method_of, is_property, kept_access, member_core, spot_core}
use Rattle.rhai_machine.specs.language.Runs.{Goes}
use Rattle.rhai_steps.specs.Follows.{Follows, Does, FindsNoMemory}
use Rattle.rhai_links.specs.Walking.{inside_by, inside_core}
use Rattle.rhai_links.proofs.Alike.{begins_alike, follows_alike}
use Rattle.rhai_links.proofs.Descending.{map_indexed}
use Rattle.rhai_links.proofs.Walked.{index_first}

-- a value that is given without fail is the one that is wanted
pub given_is : {H : Type 0} (v wanted : Dynamic H) → Answers {H = H} (Ok v) (Ok wanted) → v ≡ wanted
given_is {H = H} v wanted answers =
    let same : ◌≡◌ {A = Result (Dynamic H) (EvalAltResult H)} (Ok v) (Ok wanted) = answers tt in cc

module _ {S H : Type 0} (rules : Rules S H) where
  -- memory runs out for what is given without fail
  pub first_runs_out : (start : List (Frame H) → Local H → Core H) (s : State S H) (e : EvalAltResult H) (v : Dynamic H) →
      Answers (Err e) (Ok v) → Follows rules ended_or_changed start s (Err e) s
  first_runs_out start s (error.ErrorOutOfMemory pos) v answers = FindsNoMemory pos refl refl
  first_runs_out start s e v answers = let never : ◌≡◌ {A = Result (Dynamic H) (EvalAltResult H)} (Err e) (Ok v) = answers refl in cc

  -- or for what fails only where memory runs out
  pub fails_for_memory_alone : (start : List (Frame H) → Local H → Core H) (s : State S H) (e : EvalAltResult H) →
      is_out_of_memory e ≡ true →
      Follows rules ended_or_changed start s (Err e) s
  fails_for_memory_alone start s (error.ErrorOutOfMemory pos) is = FindsNoMemory pos refl refl
  fails_for_memory_alone start s e is = cc

  -- what a link does with a spot, by what stands behind the link
  pub spot_by : (behind rest : Option ExprLayer) (assigned : Option (NewValue H)) (link : Link) (index source : Dynamic H) (chain : Chain H)
      (old new : State S H) (r : Result (Dynamic H × Bool) (EvalAltResult H)) → behind ≡ rest →
      Follows rules ended_or_changed (spot_core rules.setting rest assigned link index chain source) old r new →
      Follows rules ended_or_changed (spot_core rules.setting behind assigned link index chain source) old r new
  spot_by behind rest assigned link index source chain old new r is follows =
      subst (λ (o : Option ExprLayer).
      Follows rules ended_or_changed (spot_core rules.setting o assigned link index chain source) old r new) (sym is)
      follows

  module _ (link : Link) (chain : Chain H) (source : Dynamic H) (old new : State S H) (r : Result (Dynamic H × Bool)
      (EvalAltResult H)) where
    -- an item, or an entry, that stands in the value
    abbrev spot_follows : (index : Dynamic H) → Type 0
    spot_follows index =
        Follows rules ended_or_changed (spot_core rules.setting link.behind chain.new link index chain source) old r new

    -- a member that natives get and set
    abbrev member_follows : MemberAccess H → Type 0
    member_follows access = Follows rules ended_or_changed (member_core rules.setting link.behind chain.new link access chain) old r new

    abbrev indexed_follows : (index : Dynamic H) → (indexed : Bool) → Type 0
    indexed_follows index indexed = Follows rules ended_or_changed (indexed_core rules.setting indexed link index chain source) old r new

    -- an index works on the first of the arguments
    pub item_inside : (was_handle : Bool) (expr : Expr) (index : Dynamic H) (rest : List (Dynamic H)) → link.form ≡ AtIndex expr →
        chain.args ≡ index ∷ rest → indexed_follows index (is_indexed (layer_of source)) →
        Follows rules ended_or_changed (inside_core rules.setting link was_handle source chain) old r new
    item_inside was_handle expr index rest of args follows =
        follows_alike rules (indexed_core rules.setting (is_indexed (layer_of source)) link index chain source)
        (inside_core rules.setting link was_handle source chain) old new r
        (λ k. ap (λ (form : LinkForm). inside_by rules.setting form (is_map (layer_of source)) was_handle link source chain k old.local) of
        ∙ ap (λ (i : Dynamic H). indexed_core rules.setting (is_indexed (layer_of source)) link i chain source k old.local)
        (index_first expr chain.args rest index args)) follows

    -- a value that is indexed has its items itself, and any other by natives
    pub item_there : (index : Dynamic H) → is_indexed (layer_of source) ≡ true → spot_follows index →
        indexed_follows index (is_indexed (layer_of source))
    item_there index is follows = subst (indexed_follows index) (sym is) follows

    pub item_by_natives : (index : Dynamic H) → is_indexed (layer_of source) ≡ false →
        member_follows (record { member = Item index; at = link.at; guarded = chain.in_place }) →
        indexed_follows index (is_indexed (layer_of source))
    item_by_natives index is follows = subst (indexed_follows index) (sym is) follows

    -- a method is called on what stands there
    pub method_inside : (was_handle : Bool) (name : List ℕ) (args : List Expr) (pos : Position) → link.form ≡ AtMethod name args pos →
        Goes rules (λ k. method_of rules.setting name args pos was_handle chain (after_method link.behind link chain k)) old
        (core (ended_or_changed r)) new →
        Follows rules ended_or_changed (inside_core rules.setting link was_handle source chain) old r new
    method_inside was_handle name args pos of runs = Does (begins_alike rules
        (λ k. method_of rules.setting name args pos was_handle chain (after_method link.behind link chain k))
        (inside_core rules.setting link was_handle source chain) old new r
        (λ k. ap (λ (form : LinkForm). inside_by rules.setting form (is_map (layer_of source)) was_handle link source chain k old.local) of)
        runs)

    module _ (was_handle : Bool) (name : List ℕ) (pos : Position) where
      abbrev property_follows : (of_map : Bool) → Type 0
      property_follows of_map =
          Follows rules ended_or_changed (inside_by rules.setting (AtProperty name pos) of_map was_handle link source chain) old r new

      -- a property
      pub named_inside : link.form ≡ AtProperty name pos → property_follows (is_map (layer_of source)) →
          Follows rules ended_or_changed (inside_core rules.setting link was_handle source chain) old r new
      named_inside of follows = follows_alike rules
          (inside_by rules.setting (AtProperty name pos) (is_map (layer_of source)) was_handle link source chain)
          (inside_core rules.setting link was_handle source chain) old new r
          (λ k. ap (λ (form : LinkForm). inside_by rules.setting form (is_map (layer_of source)) was_handle link source chain
          k old.local) of)
          follows

      -- of a map it is an entry, and of any other value a member
      pub entry_there : (key : Dynamic H) → key ≡ plain (value.Str name) → is_map (layer_of source) ≡ true → spot_follows key →
          property_follows (is_map (layer_of source))
      entry_there key named is follows = subst property_follows (sym is)
          (item_there (plain (value.Str name)) (map_indexed (layer_of source) is) (subst spot_follows named follows)
          )

      pub property_by_natives : is_map (layer_of source) ≡ false →
          member_follows (record { member = Property name pos; at = link.at; guarded = chain.in_place }) →
          property_follows (is_map (layer_of source))
      property_by_natives is follows = subst property_follows (sym is) follows

  -- ---- a member

  module _ (behind : Option ExprLayer) (assigned : Option (NewValue H)) (link : Link) (access : MemberAccess H) (chain : Chain H)
      (old new : State S H) (r : Result (Dynamic H × Bool) (EvalAltResult H)) where
    abbrev by_natives : Option ExprLayer → List (Frame H) → Local H → Core H
    by_natives rest = member_core rules.setting rest assigned link access chain

    -- the chain goes on from its value
    abbrev from_value : ExprLayer → (args : List (Dynamic H)) → List (Frame H) → Local H → Core H
    from_value rest args k = get_core access (MemberLink (kept_access access)
        (record chain { rest = rest; args = args; in_place = is_property access.member }) ∷ k)

    pub member_goes : (rest : ExprLayer) (args : List (Dynamic H)) → behind ≡ Some rest → args_behind link.form chain.args ≡ args →
        Follows rules ended_or_changed (from_value rest args) old r new → Follows rules ended_or_changed (by_natives behind) old r new
    member_goes rest args is left follows = follows_alike rules (from_value rest args) (by_natives behind) old new r
        (λ k. ap (λ (o : Option ExprLayer). by_natives o k old.local) is
        ∙ ap (λ (xs : List (Dynamic H)). from_value rest xs k old.local) left) follows

    -- or ends in it
    pub member_ends : behind ≡ None → Goes rules (by_natives None) old (core (ended_or_changed r)) new →
        Follows rules ended_or_changed (by_natives behind) old r new
    member_ends is runs =
        Does (subst (λ (o : Option ExprLayer). Goes rules (by_natives o) old (core (ended_or_changed r)) new) (sym is) runs)
