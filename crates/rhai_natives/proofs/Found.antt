-- What is found in a list as the code has it.
use Rattle.std.proofs.Common.{◌≡◌, Bool, true, false, List, [], ◌∷◌, Option, Some, None, map, refl, cond}
use Rattle.std.specs.Borrow.{Bor}
use Rattle.std.specs.List.{find}
use Rattle.std.specs.Option.{option_map}
use Rattle.rhai_natives.specs.declared.listed.Listed.{Listed}
use Rattle.rhai_natives.specs.Listed.{entry_of}
use Rattle.rhai_natives.specs.Found.{found_as, found_at}

module _ {A B : Type 0} (f : A → B) (test : B → Bool) where
  found_by : (b : Bool) (x : A) (r : Option A) (s : Option B) → s ≡ option_map f r →
      cond b (Some (f x)) s ≡ option_map f (cond b (Some x) r)
  found_by true x r s same = refl
  found_by false x r s same = same

  pub find-map : (xs : List A) → find test (map f xs) ≡ option_map f (find (λ x. test (f x)) xs)
  find-map [] = refl
  find-map (x ∷ xs) = found_by (test (f x)) x _ _ (find-map xs)

-- what is read of an entry where it stands
pub found_there : {K : Type 0} (place : Option (Bor (Listed K))) →
    option_map found_at place ≡ option_map found_as (option_map entry_of (option_map (λ e. e.now) place))
found_there None = refl
found_there (Some place) = refl
