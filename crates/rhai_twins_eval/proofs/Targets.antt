-- One target, of a variable or of an index.
use Rattle.std.proofs.Common.{◌≡◌, ◌<◌, ◌≤◌, ◌+◌, ◌⊎◌, ℕ, zero, suc, List, Bool, true, false, Option, Some, Result, Ok, Err, MatchResult}
use Rattle.std.proofs.Common.{IfErr}
use Rattle.std.proofs.Common.{refl, sym, subst, ap, ◌∙◌, arith, inl, inr}
use Rattle.std.specs.Prelude.{IfOk}
use Rattle.rhai_values.specs.declared.base.value.Dynamic.{Dynamic}
use Rattle.rhai_errors.specs.declared.error.EvalAltResult.{EvalAltResult}
use Rattle.rhai_state.specs.declared.limits.Limits.{Limits}
use Rattle.rhai_state.specs.declared.state.GlobalRuntimeState.{GlobalRuntimeState}
use Rattle.rhai_errors.specs.Errors.{is_out_of_memory}
use Rattle.rhai_errors.specs.Native.{Effect, Natives}
use Rattle.rhai_values.specs.Cells.{cells_of}
use Rattle.rhai_values.specs.Layers.{layer_of}
use Rattle.rhai_spots.specs.declared.spot.Access.{Access}
use Rattle.rhai_spots.specs.declared.part.Part.{Part}
use Rattle.rhai_spots.specs.declared.part.Part.TheVariants as part
use Rattle.rhai_places.specs.declared.target.Target.{Target}
use Rattle.rhai_index.specs.Indexers.{as_temporary, asks_indexer, effect_of, outcome_of, read_call}
use Rattle.rhai_index.specs.Indexes.{Indexes}
use Rattle.rhai_machine.specs.language.State.{HasMemory}
use Rattle.rhai_twins.specs.Ends.{SameTarget}
use Rattle.rhai_twins.proofs.Found.{found_once}

true_unless : (b : Bool) → (b ≡ false → ⊥) → b ≡ true
true_unless true never = refl
true_unless false never = absurd (never refl)

-- what is told of a target that was searched for
abbrev Wanted : Type 0 → Type 0
Wanted H = Option (Result (Dynamic H × Part H) (EvalAltResult H))

module _ {H : Type 0} where
  -- ---- a variable

  abbrev Shows : Wanted H → Result (Target H) (EvalAltResult H) → Type 0
  Shows wanted r = IfOk r (λ t. wanted ≡ Some (Ok (t.at.now, t.part)))
      × IfErr r (λ e. is_out_of_memory e ≡ false → wanted ≡ Some (Err e))

  one_variable : (wanted : Wanted H) (r s : Result (Target H) (EvalAltResult H)) → Shows wanted r → Shows wanted s → SameTarget r s
  one_variable wanted (Ok t) (Ok u) one other =
      let a = one.0 in
      let b = other.0 in
      let both : ◌≡◌ {A = Dynamic H × Part H} (t.at.now, t.part) (u.at.now, u.part) = cc in
      (ap (λ (p : Dynamic H × Part H). p.0) both, ap (λ (p : Dynamic H × Part H). p.1) both)
  one_variable wanted (Ok t) (Err f) one other =
      true_unless (is_out_of_memory f) (λ told. let a = one.0 in let b = other.1 told in cc)
  one_variable wanted (Err e) (Ok u) one other =
      true_unless (is_out_of_memory e) (λ told. let a = other.0 in let b = one.1 told in cc)
  one_variable wanted (Err e) (Err f) one other = λ e_told f_told. let a = one.1 e_told in let b = other.1 f_told in cc

  pub variable_once : (wanted also : Wanted H) (r s : Result (Target H) (EvalAltResult H)) →
      wanted ≡ also → Shows wanted r → Shows also s → SameTarget r s
  variable_once wanted also r s same one other =
      let P : Wanted H → Type 0 = λ w. Shows w s in
      one_variable wanted r s one (subst P (sym same) other)

  -- ---- what an indexer gives

  abbrev Gives : Result (Part H) (EvalAltResult H) → Option (Dynamic H) → Result (Target H) (EvalAltResult H) → Type 0
  Gives given left r = (HasMemory r → MatchResult r (λ t. given ≡ Ok t.part) (λ e. given ≡ Err e)) × IfOk r (λ t. left ≡ Some t.at.now)

  given_once : (given : Result (Part H) (EvalAltResult H)) (left : Option (Dynamic H)) (r s : Result (Target H) (EvalAltResult H)) →
      Gives given left r → Gives given left s → SameTarget r s
  given_once given left (Ok t) (Ok u) one other =
      let a = one.0 tt in let b = other.0 tt in let c = one.1 in let d = other.1 in (cc, cc)
  given_once given left (Ok t) (Err f) one other =
      true_unless (is_out_of_memory f) (λ told. let a = one.0 tt in let b = other.0 told in cc)
  given_once given left (Err e) (Ok u) one other =
      true_unless (is_out_of_memory e) (λ told. let a = other.0 tt in let b = one.0 told in cc)
  given_once given left (Err e) (Err f) one other = λ e_told f_told. let a = one.0 e_told in let b = other.0 f_told in cc

-- ---- an index, charged

same_refusal : {H : Type 0} (e : EvalAltResult H) (r s : Result (Target H) (EvalAltResult H)) → r ≡ Err e → s ≡ Err e → SameTarget r s
same_refusal e r s one other =
    let P : Result (Target _) (EvalAltResult _) → Type 0 = λ x. SameTarget x s in
    let Q : Result (Target _) (EvalAltResult _) → Type 0 = λ x. SameTarget (Err e) x in
    subst P (sym one) (subst Q (sym other) (λ a b. refl))

-- how a count stands to a limit: it has reached it, one is left, or more are
counted : (n limit : ℕ) → (limit ≤ n) ⊎ ((n + 1 ≡ limit) ⊎ (n + 1 < limit))
counted n zero = inl (omega arith)
counted zero (suc zero) = inr (inl refl)
counted zero (suc (suc more)) = inr (inr (omega arith))
counted (suc n) (suc limit) = elim (counted n limit) [
  | inl full ↦ inl (omega (arith, full))
  | inr rest ↦ elim rest [
    | inl one ↦ inr (inl (omega (arith, one)))
    | inr more ↦ inr (inr (omega (arith, more)))
  ]
]

module _ {S H T : Type 0} (limits : Limits) (host : H → List ℕ) (natives : Natives S H) (state_of : T → S) (how : Access)
    (use_indexers : Bool) where
  abbrev IndexesTo : (g : GlobalRuntimeState H) → T → (x i : Dynamic H) → GlobalRuntimeState H → T → Dynamic H →
      Result (Target H) (EvalAltResult H) → Type 0
  IndexesTo = Indexes limits host natives state_of how use_indexers

  module _ (g : GlobalRuntimeState H) (t u : T) (x i : Dynamic H) (g1 g2 : GlobalRuntimeState H) (t' u' : T) (i1 i2 : Dynamic H)
      (r s : Result (Target H) (EvalAltResult H)) (same : state_of t ≡ state_of u) (one : IndexesTo g t x i g1 t' i1 r)
      (other : IndexesTo g u x i g2 u' i2 s) where
    abbrev limit : ℕ
    limit = limits.max_operations

    abbrev effect_at : S → Effect S H
    effect_at state = effect_of natives host (cells_of g.cells) state (read_call i how.op_pos) x

    abbrev GivesAt : S → Result (Target H) (EvalAltResult H) → Type 0
    GivesAt state =
        Gives (as_temporary (outcome_of limits host natives (cells_of g.cells) state (read_call i how.op_pos) x)) (effect_at state).first

    abbrev Kind : Bool → Type 0
    Kind asked = asks_indexer use_indexers (layer_of x) ≡ asked

    given_target : g.num_operations + 1 < limit → Kind true → SameTarget r s
    given_target more asked =
        let P : S → Type 0 = λ state. GivesAt state s in
        given_once _ _ r s (one.indexer more asked, one.indexer_object asked)
        (subst P (sym same) (other.indexer more asked, other.indexer_object asked))

    target_of : (asked : Bool) → Kind asked → (g.num_operations + 1 ≡ limit) ⊎ (g.num_operations + 1 < limit) → SameTarget r s
    target_of false kind (inl last) = found_once _ r s (one.found (omega (arith, last)) kind) (other.found (omega (arith, last)) kind)
    target_of false kind (inr more) = found_once _ r s (one.found (omega (arith, more)) kind) (other.found (omega (arith, more)) kind)
    target_of true kind (inl last) = same_refusal _ r s (one.indexer_refused last kind).0 (other.indexer_refused last kind).0
    target_of true kind (inr more) = given_target more kind

    index_target : SameTarget r s
    index_target = elim (counted g.num_operations limit) [
      | inl full ↦ same_refusal _ r s (one.refused full) (other.refused full)
      | inr room ↦ target_of (asks_indexer use_indexers (layer_of x)) refl room
    ]

    global_of : (asked : Bool) → Kind asked → (g.num_operations + 1 ≡ limit) ⊎ (g.num_operations + 1 < limit) → g1 ≡ g2
    global_of false kind (inl last) = one.charged (omega (arith, last)) kind ∙ sym (other.charged (omega (arith, last)) kind)
    global_of false kind (inr more) = one.charged (omega (arith, more)) kind ∙ sym (other.charged (omega (arith, more)) kind)
    global_of true kind (inl last) = (one.indexer_refused last kind).1.0 ∙ sym (other.indexer_refused last kind).1.0
    global_of true kind (inr more) = one.indexer_charged more kind ∙ sym (other.indexer_charged more kind)

    index_global : g1 ≡ g2
    index_global = elim (counted g.num_operations limit) [
      | inl full ↦ (one.same full).0 ∙ sym (other.same full).0
      | inr room ↦ global_of (asks_indexer use_indexers (layer_of x)) refl room
    ]

    table_of : (asked : Bool) → Kind asked → (g.num_operations + 1 ≡ limit) ⊎ (g.num_operations + 1 < limit) → HasMemory r →
        HasMemory s → state_of t' ≡ state_of u'
    table_of false kind room r_has s_has = ap state_of (one.table kind) ∙ same ∙ sym (ap state_of (other.table kind))
    table_of true kind (inl last) r_has s_has =
        ap state_of (one.indexer_refused last kind).1.1 ∙ same ∙ sym (ap state_of (other.indexer_refused last kind).1.1)
    table_of true kind (inr more) r_has s_has =
        sym (one.indexer_state more kind r_has) ∙ ap (λ state. (effect_at state).state) same ∙ other.indexer_state more kind s_has

    index_table : HasMemory r → HasMemory s → state_of t' ≡ state_of u'
    index_table r_has s_has = elim (counted g.num_operations limit) [
      | inl full ↦ ap state_of (one.same full).1 ∙ same ∙ sym (ap state_of (other.same full).1)
      | inr room ↦ table_of (asks_indexer use_indexers (layer_of x)) refl room r_has s_has
    ]

  -- two indexes from starts that are one
  pub index_once : (g h : GlobalRuntimeState H) (t u : T) (x y i j : Dynamic H) (g1 g2 : GlobalRuntimeState H) (t' u' : T)
      (i1 i2 : Dynamic H) (r s : Result (Target H) (EvalAltResult H)) → g ≡ h → state_of t ≡ state_of u → x ≡ y → i ≡ j →
      IndexesTo g t x i g1 t' i1 r → IndexesTo h u y j g2 u' i2 s →
      SameTarget r s × ((g1 ≡ g2) × (HasMemory r → HasMemory s → state_of t' ≡ state_of u'))
  index_once g h t u x y i j g1 g2 t' u' i1 i2 r s globals tables objects indices one other =
      let P : GlobalRuntimeState H → Type 0 = λ z. IndexesTo z u y j g2 u' i2 s in
      let Q : Dynamic H → Type 0 = λ z. IndexesTo g u z j g2 u' i2 s in
      let R : Dynamic H → Type 0 = λ z. IndexesTo g u x z g2 u' i2 s in
      let also = subst R (sym indices) (subst Q (sym objects) (subst P (sym globals) other)) in (
        index_target g t u x i g1 g2 t' u' i1 i2 r s tables one also,
        (
          index_global g t u x i g1 g2 t' u' i1 i2 r s tables one also,
          index_table g t u x i g1 g2 t' u' i1 i2 r s tables one also,
        ),
      )
