-- What a chain is given at once.
use Rattle.std.specs.Prelude.{⊤, IsTrue, is_some}
use Rattle.rhai_tree.specs.declared.expr.Expr.{out-Expr}
use Rattle.rhai_machine.specs.language.Expressions.{literal_of}
use Rattle.rhai_links.specs.declared.arguments.Ready.{Ready}
use Rattle.rhai_links.specs.declared.arguments.Ready.TheVariants as code

-- what a chain is given at once is nothing, or the value of a literal
abbrev pub IsGiven : (H : Type 0) → Ready → Type 0
IsGiven H code.Nothing = ⊤
IsGiven H (code.Literal expr) = IsTrue (is_some (literal_of {H = H} (out-Expr expr.now)))
