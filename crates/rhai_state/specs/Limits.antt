-- How many operations a run may charge, by the number that an engine is given.
use Rattle.std.specs.Prelude.{ℕ, ◌-◌, ◌^◌, nat_eq, if◌then◌else◌}

-- zero means the greatest count
abbrev pub limit_of : ℕ → ℕ
limit_of max_operations = if nat_eq max_operations 0 then 2 ^ 64 - 1 else max_operations
