-- What listed natives answer and leave has no cell, script function or table of constants in it.
use Rattle.std.proofs.Common.{◌≡◌, ℕ, ℤ, Bool, true, false, List, [], ◌∷◌, ◌++◌, map, Option, Some, None, Contains, refl, sym, ap, ◌∙◌}
use Rattle.std.proofs.Common.{arith, subst}
use Rattle.std.specs.Option.{option_map}
use Rattle.rhai_values.specs.declared.base.value.Dynamic.{Dynamic}
use Rattle.rhai_values.specs.declared.base.value.FnPtrKind.TheFolds.{fold_out-Dynamic, fold_out-Union}
use Rattle.rhai_values.specs.declared.base.value.Union.TheVariants as value
use Rattle.rhai_values.specs.declared.base.value.Union.TheVariants.{outs-Char}
use Rattle.rhai_values.specs.Copy.{plain}
use Rattle.rhai_errors.specs.declared.error.EvalAltResult.TheFolds.{fold_out-EvalAltResult}
use Rattle.rhai_errors.specs.declared.error.EvalAltResult.TheVariants.{outs-ErrorArithmetic, outs-ErrorIndexingType}
use Rattle.rhai_errors.specs.declared.error.EvalAltResult.TheVariants.{outs-ErrorPropertyNotFound}
use Rattle.rhai_errors.specs.Native.{Request, IsReached, reply_contents}
use Rattle.rhai_values.specs.ValueContents.{Reached, each, contents_of, first_contents}
use Rattle.rhai_errors.specs.ErrorContents.{error_contents}
use Rattle.rhai_errors.proofs.ContentLemmas.{contents-mode, contents-unit, contents-bool, contents-int, contents-text, contents-host}
use Rattle.rhai_errors.proofs.ContentLemmas.{contents-array, contents-runtime}
use Rattle.rhai_natives.specs.declared.response.Datum.{Datum}
use Rattle.rhai_natives.specs.declared.response.Datum.TheVariants as datum
use Rattle.rhai_natives.specs.declared.response.Fault.{Fault}
use Rattle.rhai_natives.specs.declared.response.Fault.TheVariants as fault
use Rattle.rhai_natives.specs.declared.response.Response.{Response}
use Rattle.rhai_natives.specs.declared.response.Response.TheVariants as response
use Rattle.rhai_natives.specs.Numbers.{items_of}
use Rattle.rhai_natives.specs.Responses.{fault_of, union_of}
use Rattle.rhai_natives.specs.Table.{changed, nothing, reply_for}

-- nothing stands in a value of the host's own
abbrev own : {H : Type 0} → H → List Reached
own h = []

contents-char : (H : Type 0) (letter : ℕ) → contents_of {H = H} own (plain (value.Char letter)) ≡ []
contents-char H letter = simp (fold_out-Dynamic, fold_out-Union, outs-Char)

-- nothing stands in integers
each-items : (H : Type 0) (numbers : List ℤ) → each (map (contents_of {H = H} own) (items_of numbers)) ≡ []
each-items H [] = refl
each-items H (n ∷ numbers) =
    ap (λ held. held ++ each (map (contents_of {H = H} own) (items_of numbers))) (contents-int own n) ∙ each-items H numbers

module _ {H : Type 0} where
  contents-datum : (d : Datum H) → contents_of own (plain (union_of d)) ≡ []
  contents-datum datum.Unit = contents-unit own
  contents-datum (datum.Bool truth) = contents-bool own truth
  contents-datum (datum.Int number) = contents-int own number
  contents-datum (datum.Char letter) = contents-char H letter
  contents-datum (datum.Text text) = contents-text own text
  contents-datum (datum.Integers numbers) = contents-array own (items_of numbers) ∙ each-items H numbers
  contents-datum (datum.Host h) = contents-host own h

  contents-fault : (f : Fault H) → error_contents own (fault_of f) ≡ []
  contents-fault (fault.Arithmetic text) = simp (fold_out-EvalAltResult, outs-ErrorArithmetic)
  contents-fault (fault.IndexingType text) = simp (fold_out-EvalAltResult, outs-ErrorIndexingType)
  contents-fault (fault.PropertyNotFound text) = simp (fold_out-EvalAltResult, outs-ErrorPropertyNotFound)
  contents-fault (fault.Runtime d) = contents-runtime own _ _ ∙ contents-datum d

  pub contents-response : (r : Response H) → reply_contents own (reply_for r) ≡ []
  contents-response (response.Gives d) = contents-datum d
  contents-response (response.Changes d first) = contents-datum d
  contents-response (response.Faults f) = contents-fault f
  contents-response response.NoMemory = refl

  -- nothing stands in a changed first argument, and in another what stood there
  pub contents-changed : (p : Bool) (change : Option (Datum H)) (first : Option (Dynamic H)) (P : List Reached → Type 0) →
      P [] → P (first_contents own first) → P (first_contents own (option_map (changed p change) first))
  contents-changed p change None P none stays = stays
  contents-changed true change (Some v) P none stays = stays
  contents-changed false None (Some v) P none stays = stays
  contents-changed false (Some d) (Some v) P none stays = subst P (sym (contents-mode own (union_of d) v.mode ∙ contents-datum d)) none

  -- a list that is empty has nothing
  pub nothing_in : {S : Type 0} {s : S} {q : Request H} (r : Reached) → Contains [] r → IsReached nothing s q r
  nothing_in r (k, below, is) = absurd (omega (arith, below))
