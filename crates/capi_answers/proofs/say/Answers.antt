-- `capi_answers::say` meets its contract: a refusal stores nothing. Assumes nothing.
use mathlib.Core.Path.{sym}
use Rattle.capi_values.proofs.Storing.{stored-none}
use Rattle.capi_answers.proofs.say.Goals as goal

pub returns-in-Err-clause-values : goal.returns-in-Err-clause-values
returns-in-Err-clause-values g c = rw c.in-Err.is (sym (stored-none c.args.values.now))
