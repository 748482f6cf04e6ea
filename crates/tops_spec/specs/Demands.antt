-- What the answer of tops is worth (demand 2). Assumes nothing.
use Rattle.std.specs.Prelude.{◌↔◌, Result, List, ℕ, get_or}
use Rattle.lists.specs.Bits.{Bit}
use Rattle.vpa.specs.Automata.{Tops}
use Rattle.limits.specs.declared.Limits.{Limits}
use Rattle.refusals.specs.declared.Refusal.{Refusal}
use Rattle.refusals.specs.Refusals.{values_in}
use Rattle.limits.specs.Limits.{state_most}
use Rattle.table_spec.specs.Reading.{Readable}
use Rattle.table_spec.specs.Language.{automaton_of}
use Rattle.tops_spec.specs.declared.TopWords.{TopWords}
use Rattle.tops_spec.specs.Tops.{top_named}

-- bit t of word q is 1 exactly when some reachable configuration has state q and t on top
abbrev pub TopsExact : Limits → List ℕ → Result TopWords Refusal → Type 0
TopsExact L b r = Readable L b → (q t : ℕ) → Bit (get_or (values_in (λ (x : TopWords). x.words) r) q 0) t ↔ Tops (automaton_of b) q (top_named state_most t)
