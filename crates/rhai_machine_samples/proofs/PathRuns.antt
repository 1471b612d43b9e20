-- The sample runs of names with a path.
use Rattle.std.proofs.Common.{refl, ◌≡◌, ap, ◌∙◌}
use Rattle.std.specs.Prelude.{ℕ, false, List, [], ◌∷◌, ◌++◌, None, Some, codes}
use Rattle.rhai_values.specs.declared.base.value.Import.{out-roll-Import}
use Rattle.rhai_values.specs.declared.base.value.Module.{out-roll-Module}
use Rattle.rhai_values.specs.declared.base.value.ModuleFn.{out-roll-ModuleFn}
use Rattle.rhai_values.specs.declared.base.value.Union.TheVariants as kind
use Rattle.rhai_values.proofs.CopyLemmas.{copy-Array}
use Rattle.rhai_values.proofs.ModeLemmas.{mode-Array}
use Rattle.rhai_values.specs.Modes.{with_mode, union_with_mode}
use Rattle.rhai_values.specs.Copy.{copy_of, plain}
use Rattle.rhai_values.specs.declared.base.value.AccessMode.TheVariants.{ReadOnly}
use Rattle.rhai_values.specs.declared.base.value.Union.TheVariants.{Array}
use Rattle.rhai_machine.specs.Types.{Dynamic, ScriptFuncDef, Union, out-Module, out-ModuleFn}
use Rattle.rhai_machine.specs.machine.Machine.{Config}
use Rattle.rhai_machine.specs.language.Frames.{Core, core, ChainEnd, Walk}
use Rattle.rhai_machine_samples.specs.Trees.{int}
use Rattle.rhai_machine_samples.specs.Runs.{Table, integer}
use Rattle.rhai_machine_samples.specs.Functions.{library, shown}
use Rattle.rhai_machine_samples.specs.Items.{fixed_array, index}
use Rattle.rhai_machine_samples.specs.Paths.{Paths, PathCalls, GlobalConstants, as_z, importing, name_in, with_array}
use Rattle.rhai_machine_samples.proofs.SampleRuns.{opened, placed, measured, by_steps, stretch}
use Rattle.rhai_machine_samples.proofs.ChainRuns.{chained, assigned, new_at, on_its_way, standing_at}

-- what a library of one function has, and of two, and what its functions are
module _ {H : Type 0} where
  functions_of_one : (def : ScriptFuncDef) → (out-Module H (library {H = H} (def ∷ []))).functions ≡ shown {H = H} false def ∷ []
  functions_of_one def = ap (λ m. m.functions) (out-roll-Module H _)

  functions_of_two : (def other : ScriptFuncDef) →
      (out-Module H (library {H = H} (def ∷ other ∷ []))).functions ≡ shown {H = H} false def ∷ shown {H = H} false other ∷ []
  functions_of_two def other = ap (λ m. m.functions) (out-roll-Module H _)

  environ_of_shown : (def : ScriptFuncDef) → (out-ModuleFn H (shown {H = H} false def)).environ ≡ None
  environ_of_shown def = ap (λ f. f.environ) (out-roll-ModuleFn H _)

def_of_shown : (H : Type 0) (def : ScriptFuncDef) → (out-ModuleFn H (shown {H = H} false def)).def ≡ def
def_of_shown H def = ap (λ f. f.def) (out-roll-ModuleFn H _)

-- the array of the module, as a path reads it
module _ {H : Type 0} where
  abbrev read_only : Union H → Dynamic H
  read_only value = record { value = value; mode = ReadOnly }

  fixed_by_path : with_mode ReadOnly (copy_of (plain {H = H} (Array (integer 1 ∷ [])))) ≡ fixed_array {H = H}
  fixed_by_path =
      ap (λ u. read_only (union_with_mode ReadOnly u)) (copy-Array (integer {H = H} 1 ∷ [])) ∙
      ap read_only (mode-Array ReadOnly (integer {H = H} 1 ∷ []))

-- what a path leads to
ruleset led = (opened, out-roll-Import, out-roll-Module, out-roll-ModuleFn)

ruleset refusing = (led, placed)

ruleset entering = (opened, out-roll-Import, functions_of_one, functions_of_two, def_of_shown, environ_of_shown)

ruleset hiding = (entering, placed, measured, kind.outs-Int)

ruleset parted = (refusing, chained, fixed_by_path)

module _ {S H : Type 0} (table : Table S H) (host : H → List ℕ) where
  -- the chain `z::A[0]` is at its link, on a temporary
  abbrev part_walks : Config S H (Core H)
  part_walks =
      let root = name_in 1 (codes "z") 4 (codes "A") in
      standing_at table (core (Walk (on_its_way false root (index 5 root (int 6 0)) (new_at 9 None (integer 5)) (integer 0 ∷ [])))
      (ChainEnd None None ∷ assigned) (record (importing (as_z with_array ∷ []) []) { focus = Some fixed_array })) 3

  pub paths : Paths table host
  paths = record {
    beside = by_steps _ _ 20 (simp led) refl;
    newest = by_steps _ _ 20 (simp led) refl;
    refused = by_steps _ _ 20 (simp refusing) refl;
    part_refused = stretch _ _ 10 _ part_walks (simp parted) (by_steps _ _ 15 (simp parted) refl);
    no_module = by_steps _ _ 20 (simp led) refl;
    own = by_steps _ _ 20 (simp led) refl;
    module_first = by_steps _ _ 20 (simp led) refl;
    no_constant = by_steps _ _ 20 (simp led) refl;
  }

  pub path_calls : PathCalls table host
  path_calls = record {
    entered = by_steps _ _ 30 (simp entering) refl;
    arguments_first = by_steps _ _ 20 (simp led) refl;
    hidden = by_steps _ _ 20 (simp hiding) refl;
    no_module = by_steps _ _ 20 (simp led) refl;
  }

  pub global_constants : GlobalConstants table host
  global_constants = record {
    read = by_steps _ _ 20 (simp led) refl;
    refused = by_steps _ _ 20 (simp refusing) refl;
  }
