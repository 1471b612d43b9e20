-- How the part of an interpolated text is printed and joined, in steps of the machine.
use Rattle.std.proofs.Common.{◌≡◌, ℕ, Bool, true, false, List, [], ◌∷◌, Option, Some, None, Result, Ok, Err}
use Rattle.std.proofs.Common.{refl, sym, ap, subst, ◌∙◌}
use Rattle.std.proofs.lemmas.Bool.{false≢true}
use Rattle.std.specs.Prelude.{IfErr, OnOk}
use Rattle.rhai_tree.specs.declared.position.Position.{Position}
use Rattle.rhai_tree.specs.declared.expr.Expr.{Expr}
use Rattle.rhai_values.specs.declared.base.value.Dynamic.{Dynamic}
use Rattle.rhai_values.specs.declared.base.value.Union.{Union}
use Rattle.rhai_values.specs.declared.base.value.Union.TheVariants as value
use Rattle.rhai_values.specs.TypeNames.{type_name_of}
use Rattle.rhai_errors.specs.declared.error.EvalAltResult.{EvalAltResult}
use Rattle.rhai_errors.specs.declared.error.EvalAltResult.TheVariants as error
use Rattle.rhai_errors.specs.Errors.{is_out_of_memory, is_system}
use Rattle.rhai_machine.specs.machine.Machine.{Go}
use Rattle.rhai_machine.specs.machine.Point.{after}
use Rattle.rhai_machine.specs.machine.Memory.{here, next, out_before_step, ◌⨾◌, Leads}
use Rattle.rhai_machine.specs.language.Setting.{Rules, Setting, cut}
use Rattle.rhai_machine.specs.language.State.{State, Local, Answers}
use Rattle.rhai_machine.specs.language.Values.{flat}
use Rattle.rhai_machine.specs.language.Data.{joined_core, part_core, parts_core, printed, printing, unprinted_core, with_part}
use Rattle.rhai_machine.specs.language.Frames.{Frame, Control, core, ended, on_value, Ask, Back, Fail, PrintedPart, TextPart}
use Rattle.rhai_machine.specs.language.Runs.{at, with_core, Runs, Goes}
use Rattle.rhai_machine.specs.language.Language.{machine}
use Rattle.rhai_steps.proofs.Pieces.{step_by, or_runs_out}
use Rattle.rhai_data.specs.Texts.{after_part, text_in, unprinted, print_of, print_core, prints_part}

memory_system : {H : Type 0} (e : EvalAltResult H) → is_out_of_memory e ≡ true → is_system e ≡ true
memory_system (error.ErrorOutOfMemory at) is = refl
memory_system _ is = cc

module _ {S H : Type 0} (rules : Rules S H) (text type : List ℕ) (pos : Position) (rest : List Expr) (k : List (Frame H)) where
  -- the frame that waits for what is printed
  abbrev waits : List (Frame H)
  waits = PrintedPart text type pos rest ∷ k

  -- an error of the system passes it
  pub passes : (e : EvalAltResult H) → is_system e ≡ true →
      (s : State S H) → Leads (machine rules) (cut rules) (at (Fail e) waits s) (at (Fail e) k s)
  passes e is s = step_by rules _ _ _ (ap (λ b. Go (unprinted_core rules.setting b e text type pos rest k s.local)) is) here

  -- any other leaves the type
  pub leaves_type : (e : EvalAltResult H) → is_system e ≡ false → (s : State S H) →
      Leads (machine rules) (cut rules) (at (Fail e) waits s) (with_core (part_core rules.setting text type pos rest k s.local) s)
  leaves_type e is s = step_by rules _ _ _ (ap (λ b. Go (unprinted_core rules.setting b e text type pos rest k s.local)) is) here

  text_leads : (u : Union H) (l : Local H) →
      part_core rules.setting text (printed u type) pos rest k l ≡ print_core rules.setting (Ok (text_in u)) text type pos rest k l
  text_leads (value.Str part) l = refl
  text_leads _ l = refl

  -- a value comes up to it
  gives : (v : Dynamic H) (s : State S H) →
      Leads (machine rules) (cut rules) (at (Back v) waits s)
      (with_core (print_core rules.setting (Ok (text_in v.value)) text type pos rest k s.local) s)
  gives v s = step_by rules _ _ _ (ap Go (text_leads v.value s.local)) here

  fault_leads : (b : Bool) (e : EvalAltResult H) (s : State S H) → is_system e ≡ b →
      Leads (machine rules) (cut rules) (at (Fail e) waits s)
      (with_core (print_core rules.setting (unprinted b e) text type pos rest k s.local) s)
  fault_leads true e s is = passes e is s
  fault_leads false e s is = leaves_type e is s

  -- what comes of the call
  outcome_leads : (outcome : Result (Dynamic H) (EvalAltResult H)) (s : State S H) →
      Leads (machine rules) (cut rules) (at (ended outcome) waits s)
      (with_core (print_core rules.setting (print_of outcome) text type pos rest k s.local) s)
  outcome_leads (Ok v) s = gives v s
  outcome_leads (Err e) s = fault_leads (is_system e) e s refl

  -- what came of it, or memory that ran out
  pub print_told : (c : Control H) (s : State S H) (wanted result : Result (Option (List ℕ)) (EvalAltResult H)) →
      Leads (machine rules) (cut rules) (at c waits s) (with_core (print_core rules.setting wanted text type pos rest k s.local) s) →
      Answers result wanted →
      Leads (machine rules) (cut rules) (at c waits s) (with_core (print_core rules.setting result text type pos rest k s.local) s)
  print_told c s wanted (Ok x) goes answers =
      subst (λ r. Leads (machine rules) (cut rules) (at c waits s) (with_core (print_core rules.setting r text type pos rest k s.local) s))
      (sym (answers tt)) goes
  print_told c s wanted (Err (error.ErrorOutOfMemory place)) goes answers =
      out_before_step {at = place} (passes (error.ErrorOutOfMemory place) refl s)
  print_told c s wanted (Err e) goes answers =
      subst (λ r. Leads (machine rules) (cut rules) (at c waits s) (with_core (print_core rules.setting r text type pos rest k s.local) s))
      (sym (answers refl)) goes

-- an answer that is none as memory ran out
pub failed_out_of_memory : {A H : Type 0} (x : A) (e : EvalAltResult H) → Answers (Err e) (Ok x) → is_out_of_memory e ≡ true
failed_out_of_memory x (error.ErrorOutOfMemory pos) a = refl
failed_out_of_memory x e a = let no = a refl in cc

module _ {S H : Type 0} (rules : Rules S H) (v : Dynamic H) (pos : Position) where
  -- there is no memory for the copy
  pub print_runs_out : (s : State S H) (e : EvalAltResult H) → is_out_of_memory e ≡ true →
      (text type : List ℕ) (rest : List Expr) →
      Goes rules (prints_part v pos text type rest) s (print_core rules.setting (Err e) text type pos rest) s
  unfolding Goes
  print_runs_out s e is text type rest k =
      or_runs_out rules (Ask (printing v pos)) (waits rules text type pos rest k) s e (λ no. absurd (false≢true (sym no ∙ is)))
      ⨾ passes rules text type pos rest k e (memory_system e is) s

  -- the native is called
  pub print_called : (old new : State S H) (outcome : Result (Dynamic H) (EvalAltResult H))
      (result : Result (Option (List ℕ)) (EvalAltResult H)) → Runs rules (Ask (printing v pos)) old outcome new →
      Answers result (print_of outcome) → (text type : List ℕ) (rest : List Expr) →
      Goes rules (prints_part v pos text type rest) old (print_core rules.setting result text type pos rest) new
  unfolding Goes
  print_called old new outcome result runs answers text type rest k =
      runs (waits rules text type pos rest k)
      ⨾ print_told rules text type pos rest k (ended outcome) new (print_of outcome) result
      (outcome_leads rules text type pos rest k outcome new) answers

module _ {S H : Type 0} (rules : Rules S H) where
  text_part_runs_out : (r : Result (List ℕ) (EvalAltResult H)) (rest : List Expr) (k : List (Frame H)) (s : State S H) (pos : Position) →
      Leads (machine rules) (cut rules) (with_core (on_value r (λ more. parts_core more rest k s.local) k s.local) s)
      (at (Fail (error.ErrorOutOfMemory pos)) k s)
  unfolding after
  text_part_runs_out (Ok more) [] k s pos = out_before_step {at = pos} here
  text_part_runs_out (Ok more) (part ∷ parts) k s pos = out_before_step {at = pos} (next here)
  text_part_runs_out (Err e) rest k s pos = out_before_step {at = pos} here

  -- where a part that was joined, or was refused, leads
  pub joined_leads : {A : Type 0} (text part : List ℕ) (pos : Position) (rest : List Expr) (k : List (Frame H)) (s : State S H)
      (result : Result A (EvalAltResult H)) (joined : List ℕ) →
      OnOk result (with_part {H = H} rules.setting.limits text part pos ≡ Ok joined) →
      IfErr result (λ e. is_out_of_memory e ≡ false → with_part rules.setting.limits text part pos ≡ Err e) →
      Leads (machine rules) (cut rules) (with_core (part_core rules.setting text part pos rest k s.local) s)
      (with_core (after_part result joined rest k s.local) s)
  joined_leads text part pos rest k s (Ok x) joined ok err = rw ok here
  joined_leads text part pos rest k s (Err (error.ErrorOutOfMemory place)) joined ok err =
      text_part_runs_out (with_part rules.setting.limits text part pos) rest k s place
  joined_leads text part pos rest k s (Err e) joined ok err = rw (err refl) here

module _ {S H : Type 0} (rules : Rules S H) where
  -- memory runs out before a value is printed
  pub joins_run_out : (A : Type 0) (text : List ℕ) (v : Dynamic H) (pos place : Position) (s : State S H) (joined : List ℕ) →
      (rest : List Expr) → Goes rules
      (prints_part v pos text (type_name_of rules.setting.host_type s.local.around.cells v) rest) s
      (after_part {A = A} (Err (error.ErrorOutOfMemory place)) joined rest) s
  unfolding Goes
  joins_run_out A text v pos place s joined rest k =
      out_before_step {at = place} (passes rules text (type_name_of rules.setting.host_type s.local.around.cells v) pos rest k
      (error.ErrorOutOfMemory place) refl s)

-- a text is joined as it is
pub text_core : {H : Type 0} (s : Setting H) (u : Union H) (v : Dynamic H) (text part : List ℕ) (pos : Position) (rest : List Expr)
    (k : List (Frame H)) (l : Local H) → text_in u ≡ Some part →
    joined_core s u v text pos rest k l ≡ part_core s text part pos rest k l
text_core s (value.Str other) v text part pos rest k l is = let same : other ≡ part = cc in rw same refl
text_core s _ v text part pos rest k l is = cc

-- what is no text is printed
pub other_core : {H : Type 0} (s : Setting H) (u : Union H) (v : Dynamic H) (text : List ℕ) (pos : Position) (rest : List Expr)
    (k : List (Frame H)) (l : Local H) → text_in u ≡ None →
    joined_core s u v text pos rest k l
    ≡ core (Ask (printing v pos)) (PrintedPart text (type_name_of s.host_type l.around.cells v) pos rest ∷ k) l
other_core s (value.Str part) v text pos rest k l is = cc
other_core s _ v text pos rest k l is = refl

-- the value of a part, without its handle
module _ {S H : Type 0} (rules : Rules S H) (text : List ℕ) (v : Dynamic H) (pos : Position) (rest : List Expr) (k : List (Frame H))
    (s : State S H) where
  pub flat_leads : (x : Dynamic H) → Ok x ≡ flat s.local.around.cells v pos →
      Leads (machine rules) (cut rules) (at (Back v) (TextPart text pos rest ∷ k) s)
      (with_core (joined_core rules.setting x.value x text pos rest k s.local) s)
  flat_leads x is =
      step_by rules _ _ _
      (ap (λ r. Go (on_value r (λ y. joined_core rules.setting y.value y text pos rest k s.local) k s.local)) (sym is)) here

  pub flat_refused : (e : EvalAltResult H) → (is_out_of_memory e ≡ false → Err e ≡ flat s.local.around.cells v pos) →
      Leads (machine rules) (cut rules) (at (Back v) (TextPart text pos rest ∷ k) s) (at (Fail e) k s)
  unfolding after
  flat_refused (error.ErrorOutOfMemory place) is = out_before_step {at = place} (next here)
  flat_refused e is =
      step_by rules _ _ _ (ap (λ r. Go (on_value r (λ y. joined_core rules.setting y.value y text pos rest k s.local) k s.local))
      (sym (is refl))) here
