-- The sample runs of `switch`.
use Rattle.std.proofs.Common.{refl, ap}
use Rattle.std.specs.Prelude.{◌≡◌, ℕ, ℤ, Bool, List}
use Rattle.rhai_values.specs.declared.base.value.Dynamic.{Dynamic}
use Rattle.rhai_values.specs.LiteralEquals.{equals, same_kind}
use Rattle.rhai_values.specs.Layers.{layer_of}
use Rattle.rhai_tree.specs.declared.literal.Literal.TheOpen as layer
use Rattle.rhai_tree.specs.declared.expr.Stmt.TheVariants as stmt
use Rattle.rhai_tree.specs.declared.literal.Literal.TheFolds.{fold_out-Literal}
use Rattle.rhai_tree.specs.declared.literal.Literal.TheVariants as literal
use Rattle.rhai_values.specs.declared.base.value.Union.TheVariants as kind
use Rattle.rhai_values.proofs.CopyLemmas.{copy-Array}
use Rattle.rhai_machine_samples.specs.Runs.{Table}
use Rattle.rhai_machine_samples.specs.Switches.{Switches, SwitchErrors}
use Rattle.rhai_machine_samples.proofs.SampleRuns.{opened, placed, measured, by_steps}

module _ {H : Type 0} where
  int_step : (x : ℤ) → equals {H = H} (literal.Int x) ≡ (λ v. same_kind (layer.Int x) (layer_of v))
  int_step x = simp (fold_out-Literal, literal.outs-Int)

  bool_step : (b : Bool) → equals {H = H} (literal.Bool b) ≡ (λ v. same_kind (layer.Bool b) (layer_of v))
  bool_step b = simp (fold_out-Literal, literal.outs-Bool)

  -- what equals an integer, and a truth value
  equals_int : (x : ℤ) (v : Dynamic H) → equals (literal.Int x) v ≡ same_kind (layer.Int x) (layer_of v)
  equals_int x v = ap (λ (test : Dynamic H → Bool). test v) (int_step x)

  equals_bool : (b : Bool) (v : Dynamic H) → equals (literal.Bool b) v ≡ same_kind (layer.Bool b) (layer_of v)
  equals_bool b v = ap (λ (test : Dynamic H → Bool). test v) (bool_step b)

-- what a case is, and how a value compares to it
ruleset choosing = (
  opened,
  measured,
  stmt.outs-Switch,
  equals_int,
  equals_bool,
  kind.outs-Int,
  kind.outs-Bool,
  kind.outs-Array,
  kind.outs-Cell,
  copy-Array,
)

ruleset refused = (choosing, placed)

module _ {S H : Type 0} (table : Table S H) (host : H → List ℕ) where
  pub switches : Switches table host
  switches = record {
    mismatch = by_steps _ _ 30 (simp choosing) refl;
    holds = by_steps _ _ 40 (simp choosing) refl;
    default = by_steps _ _ 30 (simp choosing) refl;
    exclusive = by_steps _ _ 30 (simp choosing) refl;
    inclusive = by_steps _ _ 30 (simp choosing) refl;
    outside = by_steps _ _ 30 (simp choosing) refl;
    in_order = by_steps _ _ 30 (simp choosing) refl;
    typed = by_steps _ _ 30 (simp choosing) refl;
    none = by_steps _ _ 30 (simp choosing) refl;
    as_it_is = by_steps _ _ 30 (simp choosing) refl;
    through = by_steps _ _ 30 (simp choosing) refl;
    unhashable = by_steps _ _ 30 (simp choosing) refl;
  }

  pub switch_errors : SwitchErrors table host
  switch_errors = record {
    value = by_steps _ _ 30 (simp choosing) refl;
    test = by_steps _ _ 30 (simp choosing) refl;
    result = by_steps _ _ 30 (simp choosing) refl;
    race = by_steps _ _ 30 (simp choosing) refl;
    value_refused = by_steps _ _ 30 (simp refused) refl;
    test_refused = by_steps _ _ 30 (simp refused) refl;
    result_refused = by_steps _ _ 40 (simp refused) refl;
    breaks = by_steps _ _ 50 (simp choosing) refl;
  }
