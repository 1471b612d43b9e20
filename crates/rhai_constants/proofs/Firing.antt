-- What natives leave: a constant that is lent is asked about first, and a pure native leaves it.
use Rattle.std.proofs.Common.{refl, sym, ap, subst, ◌∙◌}
use Rattle.std.specs.Option.{option_map}
use Rattle.std.specs.Prelude.{◌≡◌, ◌⊎◌, ℕ, ◌+◌, Bool, true, false, not, ◌&&◌, List, [], ◌∷◌, length, Option, Some, None, Result, Ok, Err}
use Rattle.std.specs.Prelude.{is_some}
use Rattle.std.proofs.Common.{inl, inr}
use Rattle.rhai_machine.specs.Types.{Dynamic, EvalAltResult, Union}
use Rattle.rhai_values.specs.declared.base.value.Union.TheVariants as value
use Rattle.rhai_values.specs.Cells.{IsNoHandle, value_of_cell}
use Rattle.rhai_values.specs.TypeNames.{type_name_of}
use Rattle.rhai_errors.specs.Native.{purity_of, question_of, request}
use Rattle.rhai_machine.specs.language.Setting.{Setting}
use Rattle.rhai_machine.specs.language.State.{Local}
use Rattle.rhai_machine.specs.language.Values.{Cells}
use Rattle.rhai_machine.specs.language.Places.{Place, InEntry, InCell, is_barred, is_constant, rebound}
use Rattle.rhai_machine.specs.language.Frames.{Operation, Lender, FromEntry, FromThis, FromFocus, Call, Frame, core, Question, Fire}
use Rattle.rhai_machine.specs.language.Calls.{First, first_of, first_in, in_cell, lendable, place_of, while_from, put_left, call_native}
use Rattle.rhai_machine.specs.language.Calls.{fire_first, fire_move, barred_call, question_first, question_move, key_of, noted, replied}
use Rattle.rhai_constants.proofs.ConstantLemmas.{constant_mode}
use Rattle.rhai_constants.proofs.Keeping.{Told, telling, IsDue, IsConstantDue, FirstIsConstant, IsShielded, Loan, TellsChange, UnlessHandle}
use Rattle.rhai_constants.proofs.Keeping.{due, constant_due, Open, Lent, Settled, Calls, IsPure, Fired, LentNow, Keeps, knowing, Moves}
use Rattle.rhai_constants.proofs.Settling.{same, put_settled}
use Rattle.rhai_constants.proofs.Calls.{answered_keeps}

module _ {H : Type 0} where
  -- ---- a first argument as it is lent

  lent_no_handle : (operation : Operation) (from : Option Place) (u : Union H) (v : Dynamic H) (first : First H) → v.value ≡ u →
      lendable operation from u v ≡ Ok first → IsNoHandle first.value.value
  lent_no_handle operation from (value.Cell id) v first is ok = cc
  lent_no_handle operation from _ v first is ok =
      let same : v ≡ first.value = cc in
      subst (λ (x : Dynamic H). IsNoHandle x.value) same (subst (λ (x : Union H). IsNoHandle x) (sym is) tt)

  cell_no_handle : (operation : Operation) (n : ℕ) (there : Option (Dynamic H)) (first : First H) → in_cell operation n there ≡ Ok first →
      IsNoHandle first.value.value
  cell_no_handle operation n (Some v) first ok = lent_no_handle operation (Some (InCell n)) v.value v first refl ok
  cell_no_handle operation n None first ok = cc

  first_no_handle : (cells : Cells H) (operation : Operation) (lender : Option Lender) (u : Union H) (x : Dynamic H) (first : First H) →
      x.value ≡ u → first_in cells operation lender u x ≡ Ok first → IsNoHandle first.value.value
  first_no_handle cells operation lender (value.Cell id) x first is ok =
      cell_no_handle operation id.number (value_of_cell cells id.number) first ok
  first_no_handle cells operation lender _ x first is ok =
      let same : x ≡ first.value = cc in
      subst (λ (x : Dynamic H). IsNoHandle x.value) same (subst (λ (x : Union H). IsNoHandle x) (sym is) tt)

  -- what is no handle is lent itself
  first_itself : (cells : Cells H) (operation : Operation) (lender : Option Lender) (u : Union H) (x : Dynamic H) (first : First H) →
      IsNoHandle u → first_in cells operation lender u x ≡ Ok first → first ≡ record { from = option_map place_of lender; value = x }
  first_itself cells operation lender (value.Cell id) x first no_handle ok = absurd no_handle
  first_itself cells operation lender _ x first no_handle ok = cc

  -- from a cell nothing but the cell is written
  data From (lender : Option Lender) (x : Dynamic H) (first : First H) : Type 0 where
    itself : IsNoHandle x.value → first ≡ record { from = option_map place_of lender; value = x } → From lender x first
    of_cell : (n : ℕ) → first.from ≡ Some (InCell n) → From lender x first

  lent_from : (operation : Operation) (n : ℕ) (u : Union H) (v : Dynamic H) (first : First H) →
      lendable operation (Some (InCell n)) u v ≡ Ok first → first.from ≡ Some (InCell n)
  lent_from operation n (value.Cell id) v first ok = cc
  lent_from operation n _ v first ok = cc

  cell_from : (operation : Operation) (n : ℕ) (there : Option (Dynamic H)) (first : First H) → in_cell operation n there ≡ Ok first →
      first.from ≡ Some (InCell n)
  cell_from operation n (Some v) first ok = lent_from operation n v.value v first ok
  cell_from operation n None first ok = cc

  from_by : (cells : Cells H) (operation : Operation) (lender : Option Lender) (u : Union H) (x : Dynamic H) (first : First H) →
      x.value ≡ u → first_in cells operation lender u x ≡ Ok first → From lender x first
  from_by cells operation lender (value.Cell id) x first is ok =
      of_cell id.number (cell_from operation id.number (value_of_cell cells id.number) first ok)
  from_by cells operation lender _ x first is ok =
      let same : first ≡ record { from = option_map place_of lender; value = x } = cc in
      itself (subst (λ (x : Union H). IsNoHandle x) (sym is) tt) same

  -- this holds of what is no handle
  unless_handle : (u : Union H) (P : Type 0) → (IsNoHandle u → P) → UnlessHandle u P
  unless_handle (value.Cell id) P h = tt
  unless_handle _ P h = h tt

  is_no_handle : (u : Union H) (P : Type 0) → IsNoHandle u → UnlessHandle u P → P
  is_no_handle (value.Cell id) P no_handle h = absurd no_handle
  is_no_handle _ P no_handle h = h

  -- a native that is not barred from a constant is pure
  not_barred : (guarded pure : Bool) (x : Dynamic H) → guarded ≡ true → is_constant x.mode ≡ true → guarded && is_barred pure x ≡ false →
      pure ≡ true
  not_barred guarded true x g c is = refl
  not_barred guarded false x g c is = let never : true ≡ false = rw (g, c) at is in cc

  -- ---- a value that was lent goes back

  put_same_this : (wanted : Option (Dynamic H)) (v : Dynamic H) (this : Option (Dynamic H)) → IsDue wanted (Some v) → IsDue wanted this →
      IsDue wanted (rebound v this)
  put_same_this None v this d t = tt
  put_same_this (Some w) v this d t = rw t d

module _ {H : Type 0} (a : Told H) where
  -- ---- the question

  first_due : (wanted : Option (Dynamic H)) (call : Call H) (x : Dynamic H) (rest : List (Dynamic H)) (pure : Bool) (cells : Cells H) →
      IsConstantDue wanted → Loan wanted call.guarded (x ∷ rest) →
      (IsNoHandle x.value → (call.guarded && is_barred pure x ≡ false) × (pure ≡ true → IsPure a call x rest cells)) →
      Fired a wanted call (x ∷ rest) cells
  first_due None call x rest pure cells c loan h = tt
  first_due (Some w) call x rest pure cells c loan h = (
    loan.1,
    unless_handle x.value (IsPure a call x rest cells)
        (λ no_handle. (h no_handle).1 (not_barred call.guarded pure x loan.0 (rw loan.1 (constant_mode w c)) (h no_handle).0)),
  )

  lent_due : (lender : Option Lender) (call : Call H) (x : Dynamic H) (rest : List (Dynamic H)) (pure : Bool) (k : List (Frame H))
      (l : Local H) → call.args ≡ x ∷ rest → Lent a.of lender call.guarded call.args k →
      (IsNoHandle x.value → (call.guarded && is_barred pure x ≡ false) × (pure ≡ true → IsPure a call x rest l.around.cells)) →
      LentNow a lender call k l
  lent_due None call x rest pure k l is lent h = tt
  lent_due (Some (FromEntry at)) call x rest pure k l is lent h = lent
  lent_due (Some FromThis) call x rest pure k l is lent h =
      let loan : Loan (due a.of k).this call.guarded (x ∷ rest) =
      subst (λ (xs : List (Dynamic H)). Loan (due a.of k).this call.guarded xs) is lent in
      subst (λ (xs : List (Dynamic H)). Fired a (due a.of k).this call xs l.around.cells) (sym is)
      (first_due (due a.of k).this call x rest pure l.around.cells (constant_due a.of k).1 loan h)
  lent_due (Some FromFocus) call x rest pure k l is lent h =
      let loan : Loan (due a.of k).focus call.guarded (x ∷ rest) =
      subst (λ (xs : List (Dynamic H)). Loan (due a.of k).focus call.guarded xs) is lent in
      subst (λ (xs : List (Dynamic H)). Fired a (due a.of k).focus call xs l.around.cells) (sym is)
      (first_due (due a.of k).focus call x rest pure l.around.cells (constant_due a.of k).0 loan h)

  nothing_fired : (wanted : Option (Dynamic H)) (call : Call H) (cells : Cells H) → Fired a wanted call [] cells
  nothing_fired None call cells = tt
  nothing_fired (Some w) call cells = tt

  -- whether the call says that it changed its first argument is no part of what is lent
  fired_noted : (wanted : Option (Dynamic H)) (call : Call H) (m : Bool) (args : List (Dynamic H)) (cells : Cells H) →
      Fired a wanted call args cells → Fired a wanted (record call { marks = m }) args cells
  fired_noted None call m args cells f = tt
  fired_noted (Some w) call m [] cells f = tt
  fired_noted (Some w) call m (x ∷ rest) cells f = f

  lent_noted : (lender : Option Lender) (call : Call H) (m : Bool) (k : List (Frame H)) (l : Local H) → LentNow a lender call k l →
      LentNow a lender (record call { marks = m }) k l
  lent_noted None call m k l h = tt
  lent_noted (Some (FromEntry at)) call m k l h = h
  lent_noted (Some FromThis) call m k l h = fired_noted (due a.of k).this call m call.args l.around.cells h
  lent_noted (Some FromFocus) call m k l h = fired_noted (due a.of k).focus call m call.args l.around.cells h

  noted_lent : (marks pure : Bool) (call : Call H) (k : List (Frame H)) (l : Local H) → LentNow a call.lender call k l →
      LentNow a (noted marks pure call).lender (noted marks pure call) k l
  noted_lent false pure call k l h = h
  noted_lent true pure call k l h = lent_noted call.lender call (not pure) k l h

  noted_tells : (marks pure : Bool) (call : Call H) (O : Type 0) → call.marks ≡ marks → TellsChange marks (O ⊎ IsShielded call) →
      (IsShielded call → pure ≡ true) → TellsChange (noted marks pure call).marks O
  noted_tells false pure call O is m h = rw is tt
  noted_tells true true call O is m h = tt
  noted_tells true false call O is (inl o) h = o
  noted_tells true false call O is (inr s) h = let no_way : false ≡ true = h s in cc

  module _ (s : Setting H) (named : s.host_type ≡ a.of.host) where
    barred_keeps : (barred pure : Bool) (call : Call H) (k : List (Frame H)) (l : Local H) →
        (barred ≡ false → LentNow a (noted call.marks pure call).lender (noted call.marks pure call) k l
        × TellsChange (noted call.marks pure call).marks (Open a.of k)) →
        Keeps a (core (Question call) k l) (barred_call s barred pure call k l)
    barred_keeps true pure call k l h = same a tt (λ h. h.1)
    barred_keeps false pure call k l h = same a (h refl) (λ h. h.1)

    module _ (call : Call H) (x : Dynamic H) (rest : List (Dynamic H)) (first : First H) (k : List (Frame H)) (l : Local H)
        (args : call.args ≡ x ∷ rest) (ok : first_of l.around.cells call x ≡ Ok first) where
      value_itself : IsNoHandle x.value → first.value ≡ x
      value_itself no_handle = ap (λ (f : First H). f.value)
          (first_itself l.around.cells call.operation call.lender x.value x first no_handle ok)

      pure_of : (pure : Bool) → a.pure (purity_of (key_of call) (type_name_of s.host_type l.around.cells first.value)
          (1 + length rest)) ≡ pure →
          IsNoHandle x.value → pure ≡ true → IsPure a call x rest l.around.cells
      pure_of pure is no_handle holds =
          ap (λ host. a.pure (purity_of (key_of call) (type_name_of host l.around.cells x) (1 + length rest))) (sym named)
          ∙ ap (λ v. a.pure (purity_of (key_of call) (type_name_of s.host_type l.around.cells v) (1 + length rest)))
          (sym (value_itself no_handle)) ∙ is ∙ holds

      barred_itself : (pure : Bool) → call.guarded && is_barred pure first.value ≡ false → IsNoHandle x.value →
          call.guarded && is_barred pure x ≡ false
      barred_itself pure is no_handle = ap (λ v. call.guarded && is_barred pure v) (sym (value_itself no_handle)) ∙ is

      shielded : (pure : Bool) → call.guarded && is_barred pure first.value ≡ false → IsShielded call → pure ≡ true
      shielded pure is sh =
          let first_is : FirstIsConstant (x ∷ rest) = subst (λ (xs : List (Dynamic H)). FirstIsConstant xs) args sh.1 in
          not_barred call.guarded pure x sh.0 first_is.0 (barred_itself pure is first_is.1)

      question_asked : (pure : Bool) →
          a.pure (purity_of (key_of call) (type_name_of s.host_type l.around.cells first.value) (1 + length rest)) ≡ pure →
          Calls a.of call k →
          Keeps a (core (Question call) k l) (barred_call s (call.guarded && is_barred pure first.value) pure call k l)
      question_asked pure is calls = barred_keeps (call.guarded && is_barred pure first.value) pure call k l (λ passes. (
        noted_lent call.marks pure call k l (lent_due call.lender call x rest pure k l args calls.0
            (λ no_handle. (barred_itself pure passes no_handle, pure_of pure is no_handle))),
        noted_tells call.marks pure call (Open a.of k) refl calls.1 (shielded pure passes),
      ))

      -- ---- the answer

      abbrev Left : (first : First H) → (left : Option (Dynamic H)) → Type 0
      Left f left = a.pure (question_of a.of.host (request (while_from f.from l.around.cells) (key_of call) (Some f.value) rest
          call.operation.at)) ≡ true → left ≡ Some f.value

      due_left : (wanted : Option (Dynamic H)) (v : Dynamic H) → IsNoHandle x.value → Fired a wanted call (x ∷ rest) l.around.cells →
          (IsPure a call x rest l.around.cells → Some v ≡ Some x) → IsDue wanted (Some v)
      due_left None v no_handle fired keeps = tt
      due_left (Some w) v no_handle fired keeps =
          keeps (is_no_handle x.value (IsPure a call x rest l.around.cells) no_handle fired.1) ∙ ap Some fired.0

      fired_at : (wanted : Option (Dynamic H)) → Fired a wanted call call.args l.around.cells →
          Fired a wanted call (x ∷ rest) l.around.cells
      fired_at wanted fired = subst (λ (xs : List (Dynamic H)). Fired a wanted call xs l.around.cells) args fired

      lender_left : (lender : Option Lender) (left : Option (Dynamic H)) → IsNoHandle x.value → LentNow a lender call k l →
          Settled a.of k l → Left (record { from = option_map place_of lender; value = x }) left →
          Settled a.of k (put_left (option_map place_of lender) left l)
      lender_left None left no_handle lent settled keeps = settled
      lender_left (Some (FromEntry at)) None no_handle lent settled keeps = settled
      lender_left (Some (FromEntry at)) (Some v) no_handle lent settled keeps = put_settled a (InEntry at) v k l lent settled
      lender_left (Some FromThis) None no_handle lent settled keeps = settled
      lender_left (Some FromThis) (Some v) no_handle lent settled keeps = (
        settled.0,
        (
          settled.1.0,
          put_same_this (due a.of k).this v l.this
              (due_left (due a.of k).this v no_handle (fired_at (due a.of k).this lent) keeps) settled.1.1,
        ),
      )
      lender_left (Some FromFocus) None no_handle lent settled keeps = settled
      lender_left (Some FromFocus) (Some v) no_handle lent settled keeps = (
        settled.0,
        (due_left (due a.of k).focus v no_handle (fired_at (due a.of k).focus lent) keeps, settled.1.1),
      )

      cell_left : (n : ℕ) (left : Option (Dynamic H)) → Settled a.of k l → Settled a.of k (put_left (Some (InCell n)) left l)
      cell_left n None settled = settled
      cell_left n (Some v) settled = settled

      left_by : From call.lender x first → (left : Option (Dynamic H)) → LentNow a call.lender call k l → Settled a.of k l →
          Left first left → Settled a.of k (put_left first.from left l)
      left_by (itself no_handle is) left lent settled keeps =
          let keeps_it : Left (record { from = option_map place_of call.lender; value = x }) left =
          subst (λ (f : First H). Left f left) is keeps in
          subst (λ (f : First H). Settled a.of k (put_left f.from left l)) (sym is)
          (lender_left call.lender left no_handle lent settled keeps_it)
      left_by (of_cell n is) left lent settled keeps =
          subst (λ (p : Option Place). Settled a.of k (put_left p left l)) (sym is) (cell_left n left settled)

      native_answers : Moves a (core (Fire call) k l) (call_native s call first.from (Some first.value) rest k l)
      native_answers h = record {
        asks = first_no_handle l.around.cells call.operation call.lender x.value x first refl ok;
        answered = λ reply left pure keeps. (answered_keeps (telling a pure) call.marks reply
            (replied s.limits s.host_type reply left rest call.operation (is_some call.number) (put_left first.from left l).around.cells) k
            (put_left first.from left l) h.0.1).holds
            (tt, (h.1.0, left_by (from_by l.around.cells call.operation call.lender x.value x first refl ok) left h.0.0 h.1.1 keeps));
      }

    -- ---- the two moves

    question_by : (call : Call H) (x : Dynamic H) (rest : List (Dynamic H)) (r : Result (First H) (EvalAltResult H)) (k : List (Frame H))
        (l : Local H) → call.args ≡ x ∷ rest → first_of l.around.cells call x ≡ r →
        Moves a (core (Question call) k l) (question_first s call rest r k l)
    question_by call x rest (Ok first) k l args ok =
        knowing a (λ h. question_asked call x rest first k l args ok _ refl h.0)
    question_by call x rest (Err e) k l args ok = same a tt (λ h. h.1)

    nothing_lent : (lender : Option Lender) (call : Call H) (k : List (Frame H)) (l : Local H) → call.args ≡ [] →
        Lent a.of lender call.guarded call.args k → LentNow a lender call k l
    nothing_lent None call k l args h = tt
    nothing_lent (Some (FromEntry at)) call k l args h = h
    nothing_lent (Some FromThis) call k l args h =
        subst (λ (xs : List (Dynamic H)). Fired a (due a.of k).this call xs l.around.cells) (sym args)
        (nothing_fired (due a.of k).this call l.around.cells)
    nothing_lent (Some FromFocus) call k l args h =
        subst (λ (xs : List (Dynamic H)). Fired a (due a.of k).focus call xs l.around.cells) (sym args)
        (nothing_fired (due a.of k).focus call l.around.cells)

    unshielded : (call : Call H) → call.args ≡ [] → IsShielded call → ⊥
    unshielded call args sh = subst (λ (xs : List (Dynamic H)). FirstIsConstant xs) args sh.1

    question_args : (call : Call H) (args : List (Dynamic H)) (k : List (Frame H)) (l : Local H) → call.args ≡ args →
        Moves a (core (Question call) k l) (question_move s call args k l)
    question_args call [] k l is = knowing a (λ h. same a (
      noted_lent call.marks (a.pure (purity_of (key_of call) [] 0)) call k l (nothing_lent call.lender call k l is h.0.0),
      noted_tells call.marks (a.pure (purity_of (key_of call) [] 0)) call (Open a.of k) refl h.0.1
          (λ sh. absurd (unshielded call is sh)),
    ) (λ h. h.1))
    question_args call (x ∷ rest) k l is = question_by call x rest (first_of l.around.cells call x) k l is refl

    pub question_keeps : (call : Call H) (k : List (Frame H)) (l : Local H) →
        Moves a (core (Question call) k l) (question_move s call call.args k l)
    question_keeps call k l = question_args call call.args k l refl

    fire_by : (call : Call H) (x : Dynamic H) (rest : List (Dynamic H)) (r : Result (First H) (EvalAltResult H)) (k : List (Frame H))
        (l : Local H) → call.args ≡ x ∷ rest → first_of l.around.cells call x ≡ r →
        Moves a (core (Fire call) k l) (fire_first s call rest r k l)
    fire_by call x rest (Ok first) k l args ok = native_answers call x rest first k l args ok
    fire_by call x rest (Err e) k l args ok = same a tt (λ h. h.1)

    fire_args : (call : Call H) (args : List (Dynamic H)) (k : List (Frame H)) (l : Local H) → call.args ≡ args →
        Moves a (core (Fire call) k l) (fire_move s call args k l)
    fire_args call [] k l is = λ h. record {
      asks = tt;
      answered = λ reply left pure keeps. (answered_keeps (telling a pure) call.marks reply
          (replied s.limits s.host_type reply left [] call.operation (is_some call.number) l.around.cells) k l h.0.1).holds (tt, h.1);
    }
    fire_args call (x ∷ rest) k l is = fire_by call x rest (first_of l.around.cells call x) k l is refl

    pub fire_keeps : (call : Call H) (k : List (Frame H)) (l : Local H) → Moves a (core (Fire call) k l) (fire_move s call call.args k l)
    fire_keeps call k l = fire_args call call.args k l refl
