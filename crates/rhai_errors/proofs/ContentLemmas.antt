-- What stands in a value and in an error, by their kinds.
use Rattle.std.proofs.Common.{◌≡◌, ℕ, ℤ, Bool, List, [], ◌∷◌, ◌++◌, map, refl, sym, ap, ◌∙◌}
use Rattle.rhai_tree.specs.declared.position.Position.{Position}
use Rattle.rhai_values.specs.declared.base.value.AccessMode.{AccessMode}
use Rattle.rhai_values.specs.declared.base.value.CellId.{CellId}
use Rattle.rhai_values.specs.declared.base.value.Dynamic.{Dynamic}
use Rattle.rhai_values.specs.declared.base.value.FnPtrKind.TheFolds.{fold-Union, fold-roll-Union, fold_out-Dynamic, fold_out-Union}
use Rattle.rhai_values.specs.declared.base.value.Union.{Union}
use Rattle.rhai_values.specs.declared.base.value.Union.TheVariants as value
use Rattle.rhai_values.specs.declared.base.value.Union.TheVariants.{outs-Bool, outs-Cell, outs-Host, outs-Int}
use Rattle.rhai_values.specs.declared.base.value.Union.TheVariants.{outs-Str, outs-Unit, rolls-Array}
use Rattle.rhai_values.specs.Copy.{plain}
use Rattle.rhai_errors.specs.declared.error.EvalAltResult.TheFolds.{fold_out-EvalAltResult}
use Rattle.rhai_errors.specs.declared.error.EvalAltResult.TheVariants as error
use Rattle.rhai_errors.specs.declared.error.EvalAltResult.TheVariants.{outs-ErrorRuntime}
use Rattle.rhai_values.specs.ValueContents.{Reached, Cell, Constants, Function, each, in_kind, in_union, maybe, contents_of}
use Rattle.rhai_errors.specs.ErrorContents.{error_contents}

module _ {H : Type 0} (own : H → List Reached) where
  abbrev union_contents : Union H → List Reached
  union_contents = fold-Union H (List Reached) (List Reached) (List Reached) (List Reached) (List Reached) (List Reached) (List Reached)
      (List Reached) (in_kind own) (in_union own) (λ d. d.value) (λ e. Constants e.constants ∷ (each e.lib ++ each e.imports))
      (λ p. each p.curry ++ p.kind) (λ i. i.module) (λ m. each m.constants.1 ++ (each m.functions ++ each m.sub_modules.1))
      (λ f. Function f.def ∷ maybe f.environ)

  contents-value : (d : Dynamic H) → contents_of own d ≡ union_contents d.value
  contents-value d = simp fold_out-Dynamic

  pub contents-mode : (u : Union H) (mode : AccessMode) → contents_of own (record { value = u; mode = mode }) ≡ contents_of own (plain u)
  contents-mode u mode = contents-value _ ∙ sym (contents-value _)

  pub contents-unit : contents_of own (plain value.Unit) ≡ []
  contents-unit = simp (fold_out-Dynamic, fold_out-Union, outs-Unit)

  pub contents-bool : (truth : Bool) → contents_of own (plain (value.Bool truth)) ≡ []
  contents-bool truth = simp (fold_out-Dynamic, fold_out-Union, outs-Bool)

  pub contents-int : (n : ℤ) → contents_of own (plain (value.Int n)) ≡ []
  contents-int n = simp (fold_out-Dynamic, fold_out-Union, outs-Int)

  pub contents-text : (text : List ℕ) → contents_of own (plain (value.Str text)) ≡ []
  contents-text text = simp (fold_out-Dynamic, fold_out-Union, outs-Str)

  pub contents-host : (v : H) → contents_of own (plain (value.Host v)) ≡ own v
  contents-host v = simp (fold_out-Dynamic, fold_out-Union, outs-Host)

  pub contents-handle : (id : CellId) → contents_of own (plain (value.Cell id)) ≡ Cell id.number ∷ []
  contents-handle id = simp (fold_out-Dynamic, fold_out-Union, outs-Cell)

  -- in an array stands what stands in its items
  pub contents-array : (items : List (Dynamic H)) → contents_of own (plain (value.Array items)) ≡ each (map (contents_of own) items)
  contents-array items = contents-value _ ∙ ap union_contents (sym (rolls-Array items)) ∙ rw fold-roll-Union refl

  -- in an error with a value stands what stands in the value
  pub contents-runtime : (v : Dynamic H) (at : Position) → error_contents own (error.ErrorRuntime v at) ≡ contents_of own v
  contents-runtime v at = simp (fold_out-EvalAltResult, outs-ErrorRuntime)
