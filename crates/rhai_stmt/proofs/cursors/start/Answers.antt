use Rattle.std.proofs.lemmas.Str.{IsCharBoundary-start}
use Rattle.rhai_stmt.proofs.cursors.start.Goals as goal

pub returns-clause-boundary : goal.returns-clause-boundary
returns-clause-boundary c = IsCharBoundary-start c.args.text.now c.utf8.text
