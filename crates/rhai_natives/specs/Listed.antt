-- Listed natives.
use Rattle.std.specs.Prelude.{ℕ, Bool, true, false, List}
use Rattle.rhai_natives.specs.declared.listed.Listed.{Listed}
use Rattle.rhai_natives.specs.declared.listed.Listed.TheVariants.{Pure, Impure}

-- a native under its name, and whether it leaves its first argument
pub record Entry (K : Type 0) : Type 0 where
  pub name : List ℕ
  pub is_pure : Bool
  pub native : K

-- a native that leaves its first argument
abbrev pub pure : {K : Type 0} → List ℕ → K → Entry K
pure name native = record { name = name; is_pure = true; native = native }

-- a native that may change its first argument
abbrev pub impure : {K : Type 0} → List ℕ → K → Entry K
impure name native = record { name = name; is_pure = false; native = native }

-- what the code lists
abbrev pub entry_of : {K : Type 0} → Listed K → Entry K
entry_of (Pure name native) = pure name.now native
entry_of (Impure name native) = impure name.now native
