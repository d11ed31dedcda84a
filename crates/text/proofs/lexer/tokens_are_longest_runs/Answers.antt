-- The theorem on the tokens at the front of a text.
use Rattle.text.proofs.Longest.{longest_runs}
use Rattle.text.proofs.lexer.tokens_are_longest_runs.Goals as goal

pub returns : goal.returns
returns c = longest_runs
