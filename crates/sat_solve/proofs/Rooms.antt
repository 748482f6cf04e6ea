-- Laws for the room of the search: a list at rest has no empty clause, so half as many words as it has serve for its clauses. Assumes nothing.
use mathlib.Core.Path.{◌≡◌, refl, ap, ◌∙◌}
use mathlib.Core.Bool.{true}
use mathlib.Core.List.Memᴰ
use mathlib.Core.List.Memᴰ.{not-nil}
use mathlib.Core.List.{List, [], ◌∷◌, Memᴰ}
use Prim.Native.Nat.{ℕ, ◌*◌, ◌≤◌, ◌<◌}
use native.Mathlib.Omega.{arith}
use lib.ListN.{length, take, length-append}
use lib.Seq.{get_or-take, length-take-le}
use Rattle.lists.specs.Lists.{filter}
use Rattle.cnf.specs.Clauses.{clauses_in, whole, words_of}
use Rattle.cnf.specs.Closing.{Formed, Settled, holds, waits}
use Rattle.cnf.proofs.Words.{words_clauses}
use Rattle.pairs.specs.Triangles.{triangles}
use Rattle.sat_trail.specs.Conclusions.{with_triangles}
use Rattle.sat_counters.specs.Counters.{Indexed, CountersOf}
use Rattle.sat_occurrences.specs.Occurrences.{Listed, IndexRoom}
use Rattle.sat_decide.specs.Turns.{Rested}
use Rattle.sat_segments.specs.Segments.{Marked}
use Rattle.sat_propagate.specs.Preparing.{Prepared}
use Rattle.sat_solve.specs.Room.{WordRoom}

pub formed-most : {cs : List (List ℕ)} {n : ℕ} → Formed cs n → n ≤ 780 → Formed cs 780
formed-most f k = record { below = λ c m l i. omega (arith, f.below c m l i, k) }

pub listed : {ws : List ℕ} {n : ℕ} → whole ws ≡ true → length ws ≤ 32768 → Formed (clauses_in ws) n → n ≤ 780 → Listed ws
listed w h f k = record { all_there = w; formed = formed-most f k; short = h }

-- a clause that is settled has a literal
settled_some : (v c : List ℕ) → Settled v c → 0 < length c
unfolding filter
settled_some v [] (holds l m r) = absurd (not-nil m)
settled_some v [] (waits l m ls e) = absurd (omega (arith, ap length e))
settled_some v (l ∷ c) s = omega arith

-- clauses with literals are at most half as many as their words
half_many : (cs : List (List ℕ)) → ((c : List ℕ) → Memᴰ c cs → 0 < length c) → 2 * length cs ≤ length (words_of cs)
unfolding words_of
half_many [] h = omega arith
half_many (c ∷ cs) h = omega (arith, h c (Memᴰ.head refl), half_many cs (λ d m. h d (Memᴰ.tail m)), length-append (length c ∷ c) (words_of cs))

pub few_clauses : (ws : List ℕ) (m : ℕ) {n : ℕ} {v t : List ℕ} {count : ℕ} → whole ws ≡ true → Rested (with_triangles ws m) n v t count → 2 * length (clauses_in ws) ≤ length ws
few_clauses ws m {v = v} w r =
    let some = half_many (clauses_in ws) (λ c k. settled_some v c (r.closed.at_rest c (Memᴰ.append_left (triangles m) k))) in
    omega (arith, some, ap length (words_clauses ws w))

-- the words of the clauses alone
pub tallied-part : {ws v words : List ℕ} {k : ℕ} → CountersOf ws v words → k ≡ length (clauses_in ws) → CountersOf ws v (take k words)
tallied-part {ws} {v} {words} {k} t e = record {
  room = omega (arith, e, length-take-le k words (omega (arith, e, t.room)));
  each = λ c h. get_or-take k words c 0 (omega (arith, e, h)) ∙ t.each c h;
}

module _ {ws clauses words saved noted : List ℕ} (r : WordRoom ws clauses words saved noted) where
  pub index-room : IndexRoom ws clauses
  index-room = record { few = r.few; clauses_room = r.clauses_room }

  pub short-list : length ws ≤ 32768
  short-list = omega (arith, r.clauses_room, r.few)

  pub prepared :
      {firsts clauses' starts masks words' noted' : List ℕ} → whole ws ≡ true → length clauses' ≡ length clauses → (k : ℕ) → length words' ≡ k
      → k ≤ length words → length noted' ≡ length noted → Indexed ws firsts clauses' → Prepared ws firsts clauses' starts masks words' noted'
  prepared w a k b h c i = record { all_there = w; indexed = λ _. i; marked = λ l. absurd (omega (arith, l, a, r.clauses_room)); room = record { few = omega (arith, b, h, r.small); noted-room = omega (arith, a, c, r.noted-room); short = omega (arith, c, r.short) } }

-- room of 2k places
pub word_room :
    {ws clauses words saved noted : List ℕ} (k : ℕ) → k ≤ 16384 → length ws ≤ 2 * k → length clauses ≡ 2 * k → length words ≡ k → length saved ≡ k
    → length noted ≡ 2 * k → WordRoom ws clauses words saved noted
word_room k h l a b c d = record { clauses_room = omega arith; few = omega arith; words-room = omega arith; small = omega arith; same = omega arith; noted-room = omega arith; short = omega arith }

-- no room, and an index by segments
pub unprepared :
    {ws firsts clauses starts masks words noted : List ℕ} → whole ws ≡ true → length clauses < length ws → Marked ws starts masks
    → length clauses ≤ length noted → length noted ≤ 32768 → length words ≤ 32768 → Prepared ws firsts clauses starts masks words noted
unprepared w h m a b c = record { all_there = w; indexed = λ k. absurd (omega (arith, h, k)); marked = λ _. m; room = record { few = c; noted-room = a; short = b } }
