-- Under other limits what is measured is the same, or one of the two fails.
use Rattle.std.proofs.Common.{refl, inl, inr, ap, ◌∙◌, subst}
use Rattle.std.specs.Prelude.{◌≡◌, ◌⊎◌, ℕ, Bool, true, false, List, ◌∷◌, Option, Some, None, Result, Ok, Err, if◌then◌else◌}
use Rattle.rhai_machine.specs.Types.{Dynamic, EvalAltResult, Limits, Position}
use Rattle.rhai_values.specs.declared.base.size.DataSizes.{DataSizes}
use Rattle.rhai_errors.specs.declared.error.EvalAltResult.TheVariants as error
use Rattle.rhai_errors.specs.Errors.{is_limit}
use Rattle.rhai_errors.specs.Native.{Reply, Missing, Gives, Faults}
use Rattle.rhai_machine.specs.machine.Machine.{Move, Halt, Go, Charge, Native, AskPure}
use Rattle.rhai_machine.specs.language.State.{Local}
use Rattle.rhai_machine.specs.language.Values.{Cells}
use Rattle.rhai_machine.specs.language.Frames.{Operation, Control, Frame, Core, core, on_value, where_there, Fail}
use Rattle.rhai_machine.specs.language.Calls.{answered, applied, builtin_of, missing, replied, sized, sized_by, within, within_sizes}
use Rattle.rhai_limits.specs.OtherLimits.{SameMove, SameOrLimited}

module _ {H : Type 0} where
  -- a result is the error of a limit
  abbrev pub IsMet : {A : Type 0} → Result A (EvalAltResult H) → Type 0
  IsMet r = (e : EvalAltResult H) × (r ≡ Err e) × (is_limit e ≡ true)

  -- two results are one, or one of them is the error of a limit
  abbrev pub SameResult : {A : Type 0} → (r q : Result A (EvalAltResult H)) → Type 0
  SameResult r q = (r ≡ q) ⊎ (IsMet r ⊎ IsMet q)

  failing : {A : Type 0} (r : Result A (EvalAltResult H)) (e : EvalAltResult H) → r ≡ Err e → (go : A → Core H) (k : List (Frame H))
      (l : Local H) → (on_value r go k l).control ≡ Fail e
  failing r e is go k l = rw is

  pub on_one : {A : Type 0} (r : Result A (EvalAltResult H)) (go other : A → Core H) → ((x : A) → SameOrLimited (go x) (other x)) →
      (k : List (Frame H)) (l : Local H) → SameOrLimited (on_value r go k l) (on_value r other k l)
  on_one (Ok x) go other each k l = each x
  on_one (Err e) go other each k l = inl refl

  pub on_same : {A : Type 0} (r q : Result A (EvalAltResult H)) → SameResult r q → (go other : A → Core H) →
      ((x : A) → SameOrLimited (go x) (other x)) → (k : List (Frame H)) (l : Local H) →
      SameOrLimited (on_value r go k l) (on_value q other k l)
  on_same r q (inl is) go other each k l =
      subst (λ z. SameOrLimited (on_value r go k l) (on_value z other k l)) is (on_one r go other each k l)
  on_same r q (inr (inl met)) go other each k l = inr (inl (met.0, failing r met.0 met.1 go k l, met.2))
  on_same r q (inr (inr met)) go other each k l = inr (inr (met.0, failing q met.0 met.1 other k l, met.2))

  pub as_same : {A : Type 0} (f : Result A (EvalAltResult H) → Control H) → ((e : EvalAltResult H) → f (Err e) ≡ Fail e) →
      (r q : Result A (EvalAltResult H)) → SameResult r q → (k : List (Frame H)) (l : Local H) →
      SameOrLimited (core (f r) k l) (core (f q) k l)
  as_same f fails r q (inl is) k l = inl (ap (λ z. core (f z) k l) is)
  as_same f fails r q (inr (inl met)) k l = inr (inl (met.0, ap f met.1 ∙ fails met.0, met.2))
  as_same f fails r q (inr (inr met)) k l = inr (inr (met.0, ap f met.1 ∙ fails met.0, met.2))

  pub if_same : (b : Bool) (c d x y : Core H) → SameOrLimited c d → SameOrLimited x y →
      SameOrLimited (if b then c else x) (if b then d else y)
  if_same true c d x y one other = one
  if_same false c d x y one other = other

  pub there_same : (b : Bool) (c d : Core H) → SameOrLimited c d → SameMove (where_there b c) (where_there b d)
  there_same true c d same = same
  there_same false c d same = tt

  pub answered_err : (marks : Bool) (reply : Reply H) (e : EvalAltResult H) → answered marks reply (Err e) ≡ Fail e
  answered_err false reply e = refl
  answered_err true (Gives v) e = refl
  answered_err true Missing e = refl
  answered_err true (Faults f) e = refl

  module _ (one other : Limits) where
    sized_by_same : {A : Type 0} (a b : Option (List ℕ)) (x : A) (at : Position) →
        SameResult (sized_by one a x at) (sized_by other b x at)
    sized_by_same None None x at = inl refl
    sized_by_same (Some text) b x at = inr (inl (error.ErrorDataTooLarge text at, refl, refl))
    sized_by_same None (Some text) x at = inr (inr (error.ErrorDataTooLarge text at, refl, refl))

    pub sizes_same : {A : Type 0} (a : DataSizes) (x : A) (at : Position) →
        SameResult (within_sizes one a x at) (within_sizes other a x at)
    sizes_same a x at = sized_by_same _ _ x at

    pub within_same : {A : Type 0} (v : Dynamic H) (x : A) (at : Position) → SameResult (within one v x at) (within other v x at)
    within_same v x at = sized_by_same _ _ x at

    pub sized_same : (v : Dynamic H) (at : Position) → SameResult (sized one v at) (sized other v at)
    sized_same v at = sized_by_same _ _ v at

    pub applied_same : (r : Result (Dynamic H) (EvalAltResult H)) (at : Position) → SameResult (applied one r at) (applied other r at)
    applied_same (Ok v) at = sized_same v at
    applied_same (Err e) at = inl refl

    module _ (host : H → List ℕ) where
      missing_same : (builtin : Option (Result (Dynamic H) (EvalAltResult H))) (operation : Operation) (numbered : Bool)
          (args : List (Dynamic H)) (cells : Cells H) →
          SameResult (missing one host builtin operation numbered args cells) (missing other host builtin operation numbered args cells)
      missing_same (Some r) operation numbered args cells = applied_same r operation.at
      missing_same None operation numbered args cells = inl refl

      pub replied_same : (reply : Reply H) (first : Option (Dynamic H)) (rest : List (Dynamic H)) (operation : Operation)
          (numbered : Bool)
          (cells : Cells H) →
          SameResult (replied one host reply first rest operation numbered cells)
          (replied other host reply first rest operation numbered cells)
      replied_same Missing (Some x) rest operation numbered cells =
          missing_same (builtin_of operation.token (x ∷ rest)) operation numbered (x ∷ rest) cells
      replied_same Missing None rest operation numbered cells =
          missing_same (builtin_of operation.token rest) operation numbered rest cells
      replied_same (Gives v) first rest operation numbered cells = sized_same v operation.at
      replied_same (Faults e) first rest operation numbered cells = inl refl

module _ {H : Type 0} where
  -- a move is the same as itself
  pub same_move : (v : Move H (Core H)) → SameMove v v
  same_move Halt = tt
  same_move (Go c) = inl refl
  same_move (Charge at c) = (refl, inl refl)
  same_move (Native q f) = (refl, λ reply left. inl refl)
  same_move (AskPure p f) = (refl, λ pure. inl refl)
