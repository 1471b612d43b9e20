-- Which public function a call behind a path means, where the index of the path is good.
use Rattle.std.proofs.Common.{◌≡◌, ℕ, true, false, IsTrue, List, [], ◌∷◌, Option, Err, refl, ap}
use Rattle.std.specs.declared.num.NonZeroUsize.{NonZeroUsize}
use Rattle.rhai_tree.specs.declared.position.Position.{Position}
use Rattle.rhai_tree.specs.Forms.{is_unqualified}
use Rattle.rhai_tree.specs.Names.{is_good_root}
use Rattle.rhai_values.specs.declared.base.value.Module.{Module}
use Rattle.rhai_errors.specs.declared.error.EvalAltResult.TheVariants as error
use Rattle.rhai_functions.specs.Functions.{FunctionKey}
use Rattle.rhai_machine.specs.Qualified.{path_text}
use Rattle.rhai_machine.specs.language.Calls.{public_from}
use Rattle.rhai_machine.specs.language.Setting.{Globals}
use Rattle.rhai_machine.specs.language.State.{Surroundings}
use Rattle.rhai_steps.specs.Agreement.{imports_in}
use Rattle.rhai_names.specs.Roots.{root_searched}
use Rattle.rhai_names.proofs.Rooted.{root_is_newest}
use Rattle.rhai_callees.specs.Behind.{public_at, public_from_root}

module _ {H : Type 0} (globals : Globals H) (around : Surroundings H) (path_at : Position) (key : FunctionKey) (types : List (List ℕ))
    (at : Position) where
  -- an empty path leads to none
  pub public_none : (path : List (List ℕ)) → is_unqualified path ≡ true →
      public_at globals around path path_at key types at ≡ Err (error.ErrorModuleNotFound (path_text path) path_at)
  public_none [] is = refl
  public_none (root ∷ rest) is = cc

  -- any other begins at the root that its first name means
  pub public_named : (index : Option NonZeroUsize) (path : List (List ℕ)) → is_unqualified path ≡ false →
      IsTrue (is_good_root index path (imports_in around.imports)) →
      public_from_root (root_searched index path around.imports globals.named) path path_at key types at
      ≡ public_at globals around path path_at key types at
  public_named index [] behind good = cc
  public_named index (root ∷ rest) behind good =
      ap (λ (r : Option (Module H)). public_from r (root ∷ rest) rest path_at key types at)
      (root_is_newest around.imports index root rest globals.named good)
