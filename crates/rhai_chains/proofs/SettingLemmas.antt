-- A member that is assigned to: what the frames of it make of how its parts ended.
use Rattle.std.proofs.Common.{◌≡◌, Bool, true, false, List, ◌∷◌, Option, Some, None, Result, Ok, Err, IfOk, IfErr, refl, sym, ap, subst}
use Rattle.std.proofs.Common.{◌∙◌}
use Rattle.rhai_tree.specs.declared.expr.Expr.{Expr}
use Rattle.rhai_tree.specs.declared.position.Position.{Position}
use Rattle.rhai_tree.specs.declared.token.Token.{Token}
use Rattle.rhai_values.specs.declared.base.value.Dynamic.{Dynamic}
use Rattle.rhai_errors.specs.declared.error.EvalAltResult.{EvalAltResult}
use Rattle.rhai_errors.specs.declared.error.EvalAltResult.TheVariants as error
use Rattle.rhai_machine.specs.machine.Machine.{Go}
use Rattle.rhai_machine.specs.machine.Memory.{here, out_before_step, ◌⨾◌, Leads}
use Rattle.rhai_machine.specs.machine.Point.{Point}
use Rattle.rhai_machine.specs.language.Setting.{Rules, cut}
use Rattle.rhai_machine.specs.language.State.{Answers, Local, State}
use Rattle.rhai_machine.specs.language.Values.{unit_value}
use Rattle.rhai_machine.specs.language.Frames.{NewValue, Member, Property, Item, MemberAccess, Frame, Core, core, ended_or_changed}
use Rattle.rhai_machine.specs.language.Frames.{ended}
use Rattle.rhai_machine.specs.language.Frames.{on_value, Back}
use Rattle.rhai_machine.specs.language.Frames.{Changed, Fail, MemberGot, MemberOperated, MemberSet}
use Rattle.rhai_machine.specs.language.Calls.{sized}
use Rattle.rhai_machine.specs.language.Chains.{after_set, assign_focus, assign_member, is_property}
use Rattle.rhai_machine.specs.language.Members.{get_core, lacks_indexer, set_core}
use Rattle.rhai_machine.specs.language.Runs.{at, with_core, Goes}
use Rattle.rhai_machine.specs.language.Unwinding.{got_none, operated_core}
use Rattle.rhai_machine.specs.language.Language.{machine}
use Rattle.rhai_steps.proofs.Pieces.{step_by}
use Rattle.rhai_steps.specs.Follows.{Follows, Does, FindsNoMemory}
use Rattle.rhai_chains.specs.Assigned.{none_got, set_last, value_got, value_operated}
use Rattle.rhai_chains.proofs.AssignLemmas.{working}

module _ {H : Type 0} where
  behind_property : (m : Member H) (k : List (Frame H)) → is_property m ≡ true → after_set m k ≡ k
  behind_property (Property name pos) k is = refl
  behind_property (Item index) k is = cc

  behind_item : (m : Member H) (k : List (Frame H)) → is_property m ≡ false → after_set m k ≡ MemberSet unit_value ∷ k
  behind_item (Property name pos) k is = cc
  behind_item (Item index) k is = refl

module _ {S H : Type 0} (rules : Rules S H) where
  operated_property : (m : Member H) (access : MemberAccess H) (v : Dynamic H) (pos : Position) (k : List (Frame H)) (l : Local H) →
      is_property m ≡ true → operated_core rules.setting m access v pos k l ≡ set_core false access v k l
  operated_property (Property name at_name) access v pos k l is = refl
  operated_property (Item index) access v pos k l is = cc

  operated_item : (m : Member H) (access : MemberAccess H) (v : Dynamic H) (pos : Position) (k : List (Frame H)) (l : Local H) →
      is_property m ≡ false → operated_core rules.setting m access v pos k l ≡ on_value (sized rules.setting.limits v pos)
      (λ x. set_core false access x (MemberSet unit_value ∷ k) l) k l
  operated_item (Property name at_name) access v pos k l is = cc
  operated_item (Item index) access v pos k l is = refl

  none_of_property : (m : Member H) (lacks : Bool) (e : EvalAltResult H) (access : MemberAccess H) (n : NewValue H) (k : List (Frame H))
      (l : Local H) → is_property m ≡ true → got_none rules.setting lacks m e access n k l ≡ core (Fail e) k l
  none_of_property (Property name pos) true e access n k l is = refl
  none_of_property (Property name pos) false e access n k l is = refl
  none_of_property (Item index) lacks e access n k l is = cc

  none_of_item : (m : Member H) (e : EvalAltResult H) (access : MemberAccess H) (n : NewValue H) (k : List (Frame H)) (l : Local H) →
      is_property m ≡ false →
      got_none rules.setting true m e access n k l ≡ set_core false access n.value (MemberSet unit_value ∷ k) l
  none_of_item (Property name pos) e access n k l is = cc
  none_of_item (Item index) e access n k l is = refl

  -- ---- the member is set

  -- what an item's native answered is forgotten
  item_set : (answer result : Result (Dynamic H × Bool) (EvalAltResult H)) (k : List (Frame H)) (s : State S H) →
      IfOk answer (λ _. result ≡ Ok (unit_value, true)) → IfErr answer (λ e. result ≡ Err e) →
      Leads (machine rules) (cut rules) (at (ended_or_changed answer) (MemberSet unit_value ∷ k) s) (at (ended_or_changed result) k s)
  item_set (Ok (v, true)) result k s set fault = rw set
      (step_by rules _ _ (Go (core (Back v) (MemberSet unit_value ∷ k) s.local)) refl
      (step_by rules _ _ (Go (core (Changed unit_value) k s.local)) refl here))
  item_set (Ok (v, false)) result k s set fault = rw set (step_by rules _ _ (Go (core (Changed unit_value) k s.local)) refl here)
  item_set (Err e) result k s set fault = rw fault (step_by rules _ _ (Go (core (Fail e) k s.local)) refl here)

  module _ (access : MemberAccess H) (v : Dynamic H) (s t : State S H) (answer : Result (Dynamic H × Bool) (EvalAltResult H)) where
    abbrev sets_over : (answered : Result (Dynamic H × Bool) (EvalAltResult H)) → (k over : List (Frame H)) → Type 0
    sets_over answered k over =
        Leads (machine rules) (cut rules) (with_core (set_core false access v over s.local) s) (at (ended_or_changed answered) k t)

    -- what the setter of a property gives is the answer
    pub sets_property : is_property access.member ≡ true →
        Goes rules (set_core false access v) s (core (ended_or_changed answer)) t →
        Goes rules (set_last access v) s (core (ended_or_changed answer)) t
    unfolding Goes
    sets_property is runs k = subst (sets_over answer k) (sym (behind_property access.member k is)) (runs k)

    -- and of an item `()`, which tells of a change
    pub sets_item : (result : Result (Dynamic H × Bool) (EvalAltResult H)) → is_property access.member ≡ false →
        IfOk answer (λ _. result ≡ Ok (unit_value, true)) → IfErr answer (λ e. result ≡ Err e) →
        Goes rules (set_core false access v) s (core (ended_or_changed answer)) t →
        Goes rules (set_last access v) s (core (ended_or_changed result)) t
    unfolding Goes
    sets_item result is set fault runs k = subst (sets_over result k) (sym (behind_item access.member k is))
        (runs (MemberSet unit_value ∷ k) ⨾ item_set answer result k t set fault)

  -- ---- it was operated on

  module _ (access : MemberAccess H) (f v : Dynamic H) (pos : Position) (answer : Dynamic H) (s t : State S H)
      (result : Result (Dynamic H × Bool) (EvalAltResult H)) where
    -- a property is set to what the operator gave
    pub property_operated : is_property access.member ≡ true →
        Goes rules (set_last access v) (working rules f s) (core (ended_or_changed result)) t →
        Goes rules (value_operated access v pos answer) (working rules f s) (core (ended_or_changed result)) t
    unfolding Goes
    property_operated is runs k = step_by rules _ _ (Go (set_last access v k (working rules f s).local))
        (ap (λ (c : Core H). Go c) (operated_property access.member access v pos k (working rules f s).local is)
        ∙ ap (λ (over : List (Frame H)). Go (set_core false access v over (working rules f s).local))
        (sym (behind_property access.member k is))) (runs k)

    -- and an item once it is measured
    pub item_operated : (x : Dynamic H) → is_property access.member ≡ false →
        ◌≡◌ {A = Result (Dynamic H) (EvalAltResult H)} (Ok x) (sized rules.setting.limits v pos) →
        Goes rules (set_last access x) (working rules f s) (core (ended_or_changed result)) t →
        Goes rules (value_operated access v pos answer) (working rules f s) (core (ended_or_changed result)) t
    unfolding Goes
    item_operated x is fits runs k = step_by rules _ _ (Go (set_last access x k (working rules f s).local))
        (ap (λ (c : Core H). Go c) (operated_item access.member access v pos k (working rules f s).local is)
        ∙ ap (λ (r : Result (Dynamic H) (EvalAltResult H)). Go (on_value r
        (λ y. set_core false access y (MemberSet unit_value ∷ k) (working rules f s).local) k (working rules f s).local)) (sym fits)
        ∙ ap (λ (over : List (Frame H)). Go (set_core false access x over (working rules f s).local))
        (sym (behind_item access.member k is))) (runs k)

  -- what is too large is not set
  pub item_refused : (access : MemberAccess H) (f v : Dynamic H) (pos : Position) (answer : Dynamic H) (s : State S H)
      (e : EvalAltResult H) → is_property access.member ≡ false → Answers (Err e) (sized rules.setting.limits v pos) →
      Goes rules (value_operated access v pos answer) (working rules f s) (core (ended_or_changed (Err e))) (working rules f s)
  unfolding Goes
  item_refused access f v pos answer s (error.ErrorOutOfMemory at_memory) is told k = out_before_step {at = at_memory}
      (step_by rules _ _ (Go (core (Fail (error.ErrorOutOfMemory at_memory)) k (working rules f s).local)) refl here)
  item_refused access f v pos answer s e is told k = step_by rules _ _ (Go (core (Fail e) k (working rules f s).local))
      (ap (λ (c : Core H). Go c) (operated_item access.member access v pos k (working rules f s).local is)
      ∙ ap (λ (r : Result (Dynamic H) (EvalAltResult H)). Go (on_value r
      (λ y. set_core false access y (MemberSet unit_value ∷ k) (working rules f s).local) k (working rules f s).local)) (sym (told refl)))
      here

  -- ---- its value was got

  module _ (access : MemberAccess H) (root : Expr) (n : NewValue H) (f v w : Dynamic H) (s t : State S H) where
    abbrev over : List (Frame H) → List (Frame H)
    over k = MemberOperated access (Some f) n.op.position ∷ k

    begins : (k : List (Frame H)) (q : Point S (Core H)) →
        Leads (machine rules) (cut rules) (with_core (assign_focus rules.setting root n (over k) (working rules v s).local) s) q →
        Leads (machine rules) (cut rules) (at (Back v) (MemberGot access root n ∷ k) (working rules f s)) q
    begins k q go = step_by rules _ _ (Go (assign_focus rules.setting root n (over k) (working rules v s).local)) refl go

    -- an operator is applied to it, and the member is set
    pub got_follows : (done : Dynamic H) (u : State S H) (result : Result (Dynamic H × Bool) (EvalAltResult H)) →
        Follows rules ended (assign_focus rules.setting root n) (working rules v s) (Ok done) (working rules w t) →
        Goes rules (value_operated access w n.op.position done) (working rules f t) (core (ended_or_changed result)) u →
        Goes rules (value_got access root n v) (working rules f s) (core (ended_or_changed result)) u
    unfolding Goes
    got_follows done u result (Does go) runs k = begins k _ (go (over k) ⨾ runs k)
    got_follows done u result (FindsNoMemory pos is same) runs k = cc

    -- or fails
    pub got_fails : (e : EvalAltResult H) →
        Follows rules ended (assign_focus rules.setting root n) (working rules v s) (Err e) (working rules w t) →
        Goes rules (value_got access root n v) (working rules f s) (core (ended_or_changed (Err e))) (working rules f t)
    unfolding Goes
    got_fails e (Does go) k =
        begins k _ (go (over k) ⨾ step_by rules _ _ (Go (core (Fail e) k (working rules f t).local)) refl here)
    got_fails e (FindsNoMemory pos is same) k =
        let told : e ≡ error.ErrorOutOfMemory pos = cc in
        let stays : working rules f t ≡ working rules f s = ap (λ (x : State S H). working rules f x) same in
        subst (λ (x : State S H).
        Leads (machine rules) (cut rules) (at (Back v) (MemberGot access root n ∷ k) (working rules f s)) (at (Fail e) k x)) (sym stays)
        (rw told (out_before_step {at = pos}
        (step_by rules _ _ (Go (core (Fail (error.ErrorOutOfMemory pos)) k (working rules f s).local)) refl here)))

  -- ---- it was not got

  module _ (access : MemberAccess H) (root : Expr) (n : NewValue H) (e : EvalAltResult H) (s : State S H) where
    abbrev without : (lacks : Bool) → List (Frame H) → Core H
    without lacks k = got_none rules.setting lacks access.member e access n k s.local

    -- an item without an indexer is set to the right side
    pub sets_ungot : (t : State S H) (result : Result (Dynamic H × Bool) (EvalAltResult H)) → is_property access.member ≡ false →
        lacks_indexer e ≡ true → Goes rules (set_last access n.value) s (core (ended_or_changed result)) t →
        Goes rules (none_got access root n e) s (core (ended_or_changed result)) t
    unfolding Goes
    sets_ungot t result is lacks runs k = step_by rules _ _ (Go (set_last access n.value k s.local))
        (ap (λ (b : Bool). Go (without b k)) lacks
        ∙ ap (λ (c : Core H). Go c) (none_of_item access.member e access n k s.local is)
        ∙ ap (λ (over : List (Frame H)). Go (set_core false access n.value over s.local)) (sym (behind_item access.member k is))) (runs k)

    -- any other error is the answer
    pub ungot_fails : lacks_indexer e ≡ false → Goes rules (none_got access root n e) s (core (ended_or_changed (Err e))) s
    unfolding Goes
    ungot_fails lacks k = step_by rules _ _ (Go (core (Fail e) k s.local)) (ap (λ (b : Bool). Go (without b k)) lacks) here

    -- and so it is of a property
    pub property_fails : is_property access.member ≡ true → Goes rules (none_got access root n e) s (core (ended_or_changed (Err e))) s
    unfolding Goes
    property_fails is k = step_by rules _ _ (Go (core (Fail e) k s.local))
        (ap (λ (c : Core H). Go c) (none_of_property access.member (lacks_indexer e) e access n k s.local is)) here

  -- ---- the whole

  module _ (access : MemberAccess H) (root : Expr) (n : NewValue H) (s u : State S H) where
    comes_up : (v : Dynamic H) (marks : Bool) (t : State S H) (k : List (Frame H)) →
        Leads (machine rules) (cut rules) (at (ended_or_changed (Ok (v, marks))) (MemberGot access root n ∷ k) t)
        (at (Back v) (MemberGot access root n ∷ k) t)
    comes_up v true t k = step_by rules _ _ (Go (core (Back v) (MemberGot access root n ∷ k) t.local)) refl here
    comes_up v false t k = here

    abbrev assigned : Result (Dynamic H × Bool) (EvalAltResult H) → Type 0
    assigned result = Goes rules (assign_member rules.setting n.op.op access root n) s (core (ended_or_changed result)) u

    pub sets_plainly : (result : Result (Dynamic H × Bool) (EvalAltResult H)) → n.op.op ≡ None →
        Goes rules (set_last access n.value) s (core (ended_or_changed result)) u → assigned result
    unfolding Goes
    sets_plainly result is runs k = subst (λ (op : Option Token).
        Leads (machine rules) (cut rules) (with_core (assign_member rules.setting op access root n k s.local) s)
        (at (ended_or_changed result) k u)) (sym is)
        (runs k)

    pub operates : (token : Token) (v : Dynamic H) (marks : Bool) (t : State S H) (result : Result (Dynamic H × Bool) (EvalAltResult H)) →
        n.op.op ≡ Some token → Goes rules (get_core access) s (core (ended_or_changed (Ok (v, marks)))) t →
        Goes rules (value_got access root n v) t (core (ended_or_changed result)) u → assigned result
    unfolding Goes
    operates token v marks t result is gets runs k = subst (λ (op : Option Token).
        Leads (machine rules) (cut rules) (with_core (assign_member rules.setting op access root n k s.local) s)
        (at (ended_or_changed result) k u)) (sym is)
        (gets (MemberGot access root n ∷ k) ⨾ comes_up v marks t k ⨾ runs k)

    pub gets_none : (token : Token) (e : EvalAltResult H) (t : State S H) (result : Result (Dynamic H × Bool) (EvalAltResult H)) →
        n.op.op ≡ Some token → Goes rules (get_core access) s (core (ended_or_changed (Err e))) t →
        Goes rules (none_got access root n e) t (core (ended_or_changed result)) u → assigned result
    unfolding Goes
    gets_none token e t result is gets runs k = subst (λ (op : Option Token).
        Leads (machine rules) (cut rules) (with_core (assign_member rules.setting op access root n k s.local) s)
        (at (ended_or_changed result) k u)) (sym is)
        (gets (MemberGot access root n ∷ k) ⨾ runs k)
