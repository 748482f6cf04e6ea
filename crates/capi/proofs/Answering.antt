-- An answer as a number, buffers and values. Assumes nothing.
use mathlib.Core.Path.{◌≡◌, refl, sym, ap, ◌∙◌}
use mathlib.Core.List.{List, [], ◌++◌}
use Prim.Native.Nat.{ℕ, ◌≤◌, ◌<◌}
use native.Mathlib.Omega.{arith}
use lib.ListN.{length, set, drop}
use Rattle.lists.specs.Lists.{over}
use Rattle.limits.specs.declared.Limits.{Limits}
use Rattle.table_spec.specs.File.{table_of}
use Rattle.table_spec.specs.Reading.{read_of}
use Rattle.table_spec.specs.declared.Starts.{Starts}
use Rattle.std.specs.Prelude.{Ok, Err}
use Rattle.refusals.specs.declared.Refusal.{Refusal}
use Rattle.refusals.specs.Refusals.{number_of}
use Rattle.table_spec.proofs.Bytes.{read_well_formed}
use Rattle.tops_spec.specs.declared.TopWords.{TopWords}
use Rattle.tops_spec.specs.Tops.{top_words, tops_of}
use Rattle.tops_spec.proofs.Exact.{length-words}
use Rattle.tops_spec.proofs.Formed.{bounded}
use Rattle.tops.specs.Steps.{tops_found}
use Rattle.table_view.proofs.Handed.{read_as}
use Rattle.tops.proofs.Read.{tops-read_answer, tops-unread}
use Rattle.capi_values.specs.Storing.{stored}
use Rattle.capi_values.proofs.Storing.{stored-all, stored-none, last-short, last_stored}
use Rattle.capi.specs.Answers.{out, tops_out}

-- an answer whose number is m and whose values are vs, as the code found them

module _ (values : List ℕ) {m n : ℕ} (e : m ≡ n) {vs : List ℕ} {buffers : List (List ℕ)} where
  pub answered :
      {ws new : List ℕ} → vs ≡ ws → new ≡ stored ws values →
      record { number = n; buffers = buffers; values = new } ≡ out values m vs buffers
  unfolding out
  answered f g = let h = g ∙ ap (λ us. stored us values) (sym f) in λ i. record { number = sym e i; buffers = buffers; values = h i }

  pub refused : vs ≡ [] → record { number = n; buffers = buffers; values = values } ≡ out values m vs buffers
  refused f = answered f (sym (stored-none values))

-- the tops of a table that was read, or of one that was not
module _ (values : List ℕ) (L : Limits) (b : List ℕ) where
  module _ {s : Starts} (e : Ok s ≡ read_of L b) where
    words_long : length (top_words (table_of b)) ≡ 40
    words_long = length-words (bounded (read_well_formed L b (read_as L b s (sym e)).readable))

    pub tops-short : length values < 41 → record { number = 0; buffers = []; values = values } ≡ tops_out values (tops_of L b)
    unfolding tops_out tops_found
    tops-short h = answered values refl refl (last-short (top_words (table_of b)) values _ words_long h) ∙ ap (tops_out values) (tops-read_answer L b e refl)

    pub tops-stored :
        {words new : List ℕ} {found : ℕ} → 41 ≤ length values → record { words = words; found = found } ≡ tops_found (table_of b) →
        new ≡ set (words ++ drop 40 values) 40 found →
        record { number = 0; buffers = []; values = new } ≡ tops_out values (tops_of L b)
    unfolding tops_out tops_found over
    tops-stored {words} {new} {found} h f g =
        let l : length words ≡ 40 = ap (λ (t : TopWords). length t.words) f ∙ words_long in
        let front : words ++ drop 40 values ≡ stored words values = sym (stored-all words values (omega (arith, l)) ∙ rw l) in
        answered values refl refl (g ∙ ap (λ (r : List ℕ). set r 40 found) front ∙ last_stored words values found l h)
        ∙ ap (tops_out values) (tops-read_answer L b e f)

  pub tops-none : {r : Refusal} {k : ℕ} → Err r ≡ read_of L b → k ≡ number_of r → record { number = k; buffers = []; values = values } ≡ tops_out values (tops_of L b)
  unfolding tops_out
  tops-none {r} {k} e f = refused values (sym f) refl ∙ ap (tops_out values) (tops-unread L b e)
