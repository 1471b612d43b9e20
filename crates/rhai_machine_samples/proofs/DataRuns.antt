-- The sample runs of arrays, maps and interpolated texts.
use Rattle.std.proofs.Common.{refl}
use Rattle.std.specs.Prelude.{ℕ, false, List, [], ◌∷◌, codes}
use Rattle.rhai_tree.specs.declared.expr.Expr.TheVariants as expr
use Rattle.rhai_values.specs.declared.base.value.Union.TheVariants as kind
use Rattle.rhai_machine.specs.machine.Machine.{Config}
use Rattle.rhai_machine.specs.language.Frames.{Core, Fire, PrintedPart, RestOfList, StatementValue}
use Rattle.rhai_machine.specs.language.Arguments.{operation_named}
use Rattle.rhai_machine.specs.language.Calls.{call_of}
use Rattle.rhai_machine_samples.specs.Runs.{Table, integer}
use Rattle.rhai_machine_samples.specs.Trees.{column}
use Rattle.rhai_machine_samples.specs.Data.{Arrays, Maps, Texts}
use Rattle.rhai_machine_samples.proofs.SampleRuns.{opened, measured, by_steps, script_at, stretch}

ruleset forms = (
  opened,
  measured,
  kind.outs-Int,
  kind.outs-Array,
  expr.outs-Array,
  expr.outs-Map,
  expr.outs-InterpolatedString,
  expr.outs-StringConstant,
)

module _ {S H : Type 0} (table : Table S H) (host : H → List ℕ) where
  pub arrays : Arrays table host
  arrays = record {
    made = by_steps _ _ 60 (simp forms) refl;
    unknown = by_steps _ _ 40 (simp forms) refl;
  }

  pub maps : Maps table host
  maps = record {
    made = by_steps _ _ 40 (simp forms) refl;
  }

  -- the native that prints `1` is about to be called, behind a text
  abbrev prints_one : Config S H (Core H)
  prints_one = script_at table (Fire (call_of (operation_named (codes "to_string") (column 5)) (integer 1 ∷ [])))
      (PrintedPart (codes "n") (codes "i64") (column 5) [] ∷ StatementValue (column 1) ∷ RestOfList [] false ∷ []) [] 5

  pub texts : Texts table host
  texts = record {
    joins = by_steps _ _ 90 (simp forms) refl;
    too_long = by_steps _ _ 40 (simp forms) refl;
    prints = λ replies. stretch _ _ 14 _ prints_one (simp forms) (by_steps _ _ 20 (simp (replies, forms)) refl);
    names_missing = λ replies. stretch _ _ 14 _ prints_one (simp forms) (by_steps _ _ 20 (simp (replies, forms)) refl);
    names_other = λ replies. stretch _ _ 14 _ prints_one (simp forms) (by_steps _ _ 20 (simp (replies, forms)) refl);
    names_failed = λ replies. stretch _ _ 14 _ prints_one (simp forms) (by_steps _ _ 20 (simp (replies, forms)) refl);
    passes = λ replies. stretch _ _ 14 _ prints_one (simp forms) (by_steps _ _ 20 (simp (replies, forms)) refl);
  }
