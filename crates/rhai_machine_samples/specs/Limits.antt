-- Samples of the limit of operations, and of the count as a script starts.
use Rattle.std.specs.Prelude.{◌^◌, ◌-◌, ℕ, List, [], Ok, Err}
use Rattle.rhai_errors.specs.declared.error.EvalAltResult.TheVariants.{ErrorTooManyOperations}
use Rattle.rhai_machine_samples.specs.Trees.{column}
use Rattle.rhai_machine_samples.specs.Runs.{Table, EndsFrom, usual, limited, integer, unit}
use Rattle.rhai_machine_samples.specs.Operators.{forty_two}

module _ {S H : Type 0} (table : Table S H) (host : H → List ℕ) where
  -- the count and the limit that a script starts with
  pub record Limits : Type 0 where
    -- a script whose count is at the limit is refused its first charge
    pub first : EndsFrom table 3 (limited host 3) forty_two (Err (ErrorTooManyOperations (column 1))) 3 [] []
    -- a count that is past the limit stays
    pub past : EndsFrom table 7 (limited host 3) forty_two (Err (ErrorTooManyOperations (column 1))) 7 [] []
    -- a count goes on from where it stands
    pub further : EndsFrom table 2 (limited host 6) forty_two (Ok (integer 42)) 6 [] []
    -- a limit of zero is the greatest count
    pub greatest : EndsFrom table (2 ^ 64 - 2) (usual host) forty_two (Err (ErrorTooManyOperations (column 4))) (2 ^ 64 - 1) [] []
    -- a script with no statement charges nothing
    pub nothing : EndsFrom table 7 (limited host 3) [] (Ok unit) 7 [] []
