-- What reading a script promises (document 02, request (i)). Assumes nothing.
use Rattle.std.specs.Prelude.{◌≡◌, ◌↔◌, Bool, Result, List, ℕ}
use Rattle.lists.specs.Lists.{OnValues}
use Rattle.limits.specs.declared.Limits.{Limits}
use Rattle.refusals.specs.declared.Refusal.{Refusal}
use Rattle.refusals.specs.Refusals.{number_in, values_in}
use Rattle.table_spec.specs.Language.{AcceptsWord}
use Rattle.script_spec.specs.Script.{script_of, yes_values}

-- "The answer is yes exactly when 01's runs accept it, nondeterministic tables included", for every script that is not refused: yes is the value 1
abbrev pub ScriptExact : List ℕ → List ℕ → Result Bool Refusal → Type 0
ScriptExact b w r = OnValues (number_in r) (values_in yes_values r) (λ v. (v 0 ≡ 1) ↔ AcceptsWord b w)

-- "Tables and reduced tables must give one answer to every script read", number included
pub record SameScripts (L : Limits) (b c : List ℕ) : Type 0 where
  pub each : (w : List ℕ) → script_of L b w ≡ script_of L c w
