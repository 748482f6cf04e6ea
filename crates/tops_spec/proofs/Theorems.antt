-- The answer of tops is exact (demand 2). Assumes nothing.
use mathlib.Core.Path.{subst}
use mathlib.Core.Logic.{◌↔◌}
use mathlib.Core.List.{List, [], ◌∷◌, ◌++◌}
use Prim.Native.Nat.{ℕ}
use lib.ListN.{get_or}
use Rattle.std.specs.Prelude.{Result}
use Rattle.lists.specs.Lists.{Says}
use Rattle.lists.specs.Bits.{Bit}
use Rattle.vpa.specs.Automata.{Tops}
use Rattle.limits.specs.declared.Limits.{Limits}
use Rattle.limits.specs.Limits.{state_most}
use Rattle.refusals.specs.declared.Refusal.{Refusal}
use Rattle.refusals.specs.Refusals.{number_in, values_in}
use Rattle.refusals.proofs.Numbers.{ok_by, answered_says}
use Rattle.table_spec.specs.File.{table_of}
use Rattle.table_spec.specs.Reading.{read_number}
use Rattle.table_spec.specs.Language.{automaton_of}
use Rattle.table_spec.proofs.Passed.{read-known}
use Rattle.table_spec.proofs.Bytes.{read_well_formed}
use Rattle.tops_spec.specs.declared.TopWords.{TopWords}
use Rattle.tops_spec.specs.Tops.{top_named, top_words, top_count, tops_of, tops_values}
use Rattle.tops_spec.specs.Demands.{TopsExact}
use Rattle.tops_spec.proofs.Exact.{top_bit}
use Rattle.tops_spec.proofs.Formed.{bounded}

pub tops-exact : (L : Limits) (b : List ℕ) → TopsExact L b (tops_of L b)
unfolding tops_of
tops-exact L b readable q x =
    subst (λ (r : Result TopWords Refusal). Bit (get_or (values_in (λ (y : TopWords). y.words) r) q 0) x ↔ Tops (automaton_of b) q (top_named state_most x))
    (ok_by _ readable) (top_bit (bounded (read_well_formed L b readable)) q x)

-- its number is that of reading, and its values are the words and the number of tops
pub tops-says : (L : Limits) (b : List ℕ) → Says (number_in (tops_of L b)) (values_in tops_values (tops_of L b)) (read_number L b) (top_words (table_of b) ++ (top_count (table_of b) ∷ []))
unfolding tops_of
tops-says L b = answered_says _ tops_values (read-known L b)
