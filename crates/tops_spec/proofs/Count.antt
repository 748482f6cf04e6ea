-- The number of tops found counts the tops, each once (document 01, "the number of tops found over all states"). Assumes nothing.
use mathlib.Core.Path.{◌≡◌, ap, ◌∙◌}
use mathlib.Core.Logic.{◌↔◌}
use mathlib.Core.List.{Memᴰ}
use Prim.Native.Nat.{ℕ, suc, ◌-◌, ◌≤◌}
use native.Mathlib.Omega.{arith}
use lib.ListN.{length, take, replicate}
use lib.Seq.{take_at}
use Rattle.lists.specs.Lists.{filter, upto}
use Rattle.lists.specs.Bits.{has, ones_over}
use Rattle.lists.proofs.Members.{filter-mem, filter_of, upto_of}
use Rattle.lists.proofs.Counts.{grid, grid_of}
use Rattle.lists.proofs.Words.{over-append, over_zeros, over-filter, over-more}
use Rattle.vpa.specs.Automata.{Tops}
use Rattle.limits.specs.Limits.{state_most}
use Rattle.table_spec.specs.File.{Table}
use Rattle.table_spec.specs.Language.{count, automaton}
use Rattle.tops_spec.specs.Tops.{top_named, top_words, top_count}
use Rattle.tops_spec.proofs.Bounded.{Bounded}
use Rattle.tops_spec.proofs.Exact.{padded, length-words, top_bit, top-has, bit-within, word-within}

module _ {t : Table} (bounded : Bounded state_most t) where
  -- the cells (q, x), x a state or bottom, that the words have
  pub count-exact : top_count t ≡ length (filter (λ c. has (top_words t) c.0 c.1) (grid (upto state_most) (upto (suc state_most))))
  unfolding top_count
  count-exact = over-filter (suc state_most) (top_words t) ∙ ap (λ n. length (filter (λ c. has (top_words t) c.0 c.1) (grid (upto n) (upto (suc state_most))))) (length-words bounded)

  -- the words of the states have them all
  pub ones_first : (n : ℕ) → ones_over n (take (count t) (top_words t)) ≡ ones_over n (top_words t)
  ones_first n =
      let p = padded bounded in
      let f = p.states in
      let zeros = replicate {A = ℕ} (state_most - count t) 0 in
      let e : take (count t) (top_words t) ≡ f = ap (take (count t)) p.words ∙ take_at f zeros (count t) p.long in
      omega (arith, ap (ones_over n) e, ap (ones_over n) p.words, over-append n f zeros, over_zeros n (state_most - count t))

  -- all the ones of words that hold every bit
  pub count_ones : (n : ℕ) → suc state_most ≤ n → ones_over n (top_words t) ≡ top_count t
  unfolding top_count
  count_ones n h = over-more (suc state_most) n (top_words t) h (word-within bounded)

  -- the cells counted are the tops
  pub counted : (q x : ℕ) → Memᴰ (q, x) (filter (λ c. has (top_words t) c.0 c.1) (grid (upto state_most) (upto (suc state_most)))) ↔ Tops (automaton t) q (top_named state_most x)
  counted q x = (λ m. (top-has bounded q x).0 (filter-mem _ (grid (upto state_most) (upto (suc state_most))) (q, x) m).1, there)
    where
      there : Tops (automaton t) q (top_named state_most x) → Memᴰ (q, x) (filter (λ c. has (top_words t) c.0 c.1) (grid (upto state_most) (upto (suc state_most))))
      there h =
          let k = bit-within bounded q x ((top_bit bounded q x).1 h) in
          filter_of _ _ (q, x) (grid_of _ _ q x (upto_of state_most q (omega (arith, bounded.states))) (upto_of (suc state_most) x k.1)) ((top-has bounded q x).1 h)
