-- Zero words after the states' words change nothing: the code walks all words that a table may have. Assumes nothing.
use mathlib.Core.Path.{◌≡◌, refl, sym, ap, ◌∙◌}
use mathlib.Core.Bool.{Bool, true, false, ◌&&◌}
use mathlib.Core.List.{List, [], ◌∷◌, ◌++◌, Memᴰ}
use Prim.Native.Nat.{ℕ, zero, suc, ◌-◌, ◌*◌, ◌^◌, ◌<◌}
use native.Mathlib.Omega.{arith}
use lib.ListN.{length, get_or, set, take, replicate, length-map}
use lib.Seq.{set-append_left}
use lib.Dec.{eqb}
use lib.Bits.{bit_or}
use Rattle.lists.specs.Lists.{same}
use Rattle.lists.specs.Bits.{has, has_bit, ones_over}
use Rattle.lists.proofs.Members.{same_refl}
use Rattle.lists.proofs.Words.{get_d_padded}
use Rattle.limits.specs.Limits.{state_most}
use Rattle.table_spec.specs.File.{Table, records}
use Rattle.table_spec.specs.Language.{count}
use Rattle.table_spec.proofs.Bytes.{records-wide}
use Rattle.table_view.specs.Sections.{sectioned}
use Rattle.tops_spec.specs.Tops.{add, live, by_internals, by_calls, by_returns, round, rounds, start_words, top_words, top_words_at}
use Rattle.tops_spec.proofs.Bounded.{Bounded, Moves, Pops}
use Rattle.tops_spec.proofs.Count.{count_ones, ones_first}
use Rattle.tops_spec.proofs.Walks.{internal_step, call_step, return_step, walk, round-walk, Grows, internal-grows, call-grows, return-grows, walk-wide}
use Rattle.tops.specs.Steps.{StateRecords, StateParts, tops_found}

same-append : (f g z : List ℕ) → length f ≡ length g → same (f ++ z) (g ++ z) ≡ same f g
unfolding same
same-append [] [] z e = same_refl z
same-append [] (y ∷ g) z e = absurd (omega arith)
same-append (x ∷ f) [] z e = absurd (omega arith)
same-append (x ∷ f) (y ∷ g) z e = ap (λ b. eqb x y && b) (same-append f g z (omega arith))

module _ (k : ℕ) where
  abbrev pad : List ℕ → List ℕ
  pad f = f ++ replicate k 0

  add_padded : (f : List ℕ) (q w : ℕ) → q < length f → add (pad f) q w ≡ pad (add f q w)
  unfolding add
  add_padded f q w h = ap (λ v. set (pad f) q (bit_or v w)) (get_d_padded f k q) ∙ set-append_left f (replicate k 0) q (bit_or (get_or f q 0) w) h

  -- a step that does not see the zeros
  Unseen : (List ℕ → List ℕ → List ℕ) → ℕ → List ℕ → Type 0
  Unseen step n r = (g : List ℕ) → length g ≡ n → step r (pad g) ≡ pad (step r g)

  internal_unseen : (n : ℕ) (r : List ℕ) → Moves n r → Unseen internal_step n r
  unfolding Unseen internal_step by_internals
  internal_unseen n r m g e = ap (add (pad g) (get_or r 2 0)) (get_d_padded g k (get_or r 0 0)) ∙ add_padded g (get_or r 2 0) (get_or g (get_or r 0 0) 0) (omega (arith, m.to))

  call_unseen : (n : ℕ) (r : List ℕ) → Moves n r → Unseen call_step n r
  unfolding Unseen call_step by_calls
  call_unseen n r m g e = ap {B = List ℕ} (λ v. elim (eqb v 0) [ true ↦ pad g | false ↦ add (pad g) (get_or r 2 0) (2 ^ get_or r 0 0) ]) (get_d_padded g k (get_or r 0 0)) ∙ go (eqb (get_or g (get_or r 0 0) 0) 0)
    where
      go : (b : Bool) → elim b as (λ _. List ℕ) [ true ↦ pad g | false ↦ add (pad g) (get_or r 2 0) (2 ^ get_or r 0 0) ] ≡ pad (elim b [ true ↦ g | false ↦ add g (get_or r 2 0) (2 ^ get_or r 0 0) ])
      go true = refl
      go false = add_padded g (get_or r 2 0) (2 ^ get_or r 0 0) (omega (arith, m.to))

  return_unseen : (n : ℕ) (r : List ℕ) → Pops n r → Unseen return_step n r
  unfolding Unseen return_step by_returns live has
  return_unseen n r m g e =
      (λ i. elim (has_bit (get_d_padded g k (get_or r 0 0) i) (get_or r 2 0)) as (λ _. List ℕ) [ true ↦ add (pad g) (get_or r 3 0) (get_d_padded g k (get_or r 2 0) i) | false ↦ pad g ])
      ∙ go (has_bit (get_or g (get_or r 0 0) 0) (get_or r 2 0))
    where
      go :
          (b : Bool)
          → elim b as (λ _. List ℕ) [ true ↦ add (pad g) (get_or r 3 0) (get_or g (get_or r 2 0) 0) | false ↦ pad g ] ≡ pad (elim b [ true ↦ add g (get_or r 3 0) (get_or g (get_or r 2 0) 0) | false ↦ g ])
      go true = add_padded g (get_or r 3 0) (get_or g (get_or r 2 0) 0) (omega (arith, m.to))
      go false = refl

  walk_padded :
      (step : List ℕ → List ℕ → List ℕ) → Grows step → (n : ℕ) (rs : List (List ℕ)) → ((r : List ℕ) → Memᴰ r rs → Unseen step n r) → (f : List ℕ)
      → length f ≡ n → walk step rs (pad f) ≡ pad (walk step rs f)
  unfolding Unseen walk
  walk_padded step grows n [] h f e = refl
  walk_padded step grows n (r ∷ rs) h f e = ap (walk step rs) (h r (Memᴰ.head refl) f e) ∙ walk_padded step grows n rs (λ s m. h s (Memᴰ.tail m)) (step r f) (grows.wide r f ∙ e)

  module _ {most : ℕ} {t : Table} (bounded : Bounded most t) where
    round-wide : (f : List ℕ) → length (round t f) ≡ length f
    round-wide f = ap length (round-walk t f) ∙ walk-wide return_step return-grows t.returns _ ∙ walk-wide call_step call-grows t.calls _ ∙ walk-wide internal_step internal-grows t.internals f

    round_padded : (f : List ℕ) → length f ≡ count t → round t (pad f) ≡ pad (round t f)
    round_padded f e =
        let i = walk_padded internal_step internal-grows (count t) t.internals (λ r m. internal_unseen (count t) r (bounded.internals r m)) f e in
        let a = walk-wide internal_step internal-grows t.internals f ∙ e in
        let c = walk_padded call_step call-grows (count t) t.calls (λ r m. call_unseen (count t) r (bounded.calls r m)) _ a in
        let b = walk-wide call_step call-grows t.calls _ ∙ a in
        let r = walk_padded return_step return-grows (count t) t.returns (λ r m. return_unseen (count t) r (bounded.returns r m)) _ b in
        round-walk t (pad f)
        ∙ ap (λ g. walk return_step t.returns (walk call_step t.calls g)) i
        ∙ ap (walk return_step t.returns) c
        ∙ r
        ∙ ap pad (sym (round-walk t f))

    rounds_padded : (n : ℕ) (f : List ℕ) → length f ≡ count t → rounds n t (pad f) ≡ pad (rounds n t f)
    unfolding rounds
    rounds_padded zero f e = refl
    rounds_padded (suc n) f e =
        (λ i. elim (same (round_padded f e i) (pad f)) as (λ _. List ℕ) [ true ↦ pad f | false ↦ rounds n t (round_padded f e i) ])
        ∙ ap (λ (b : Bool). elim b as (λ _. List ℕ) [ true ↦ pad f | false ↦ rounds n t (pad (round t f)) ]) (same-append (round t f) f (replicate k 0) (round-wide f))
        ∙ go (same (round t f) f) (rounds_padded n (round t f) (round-wide f ∙ e))
      where
        go :
            (b : Bool) → rounds n t (pad (round t f)) ≡ pad (rounds n t (round t f))
            → elim b as (λ _. List ℕ) [ true ↦ pad f | false ↦ rounds n t (pad (round t f)) ] ≡ pad (elim b [ true ↦ f | false ↦ rounds n t (round t f) ])
        go true h = refl
        go false h = h

-- ---- all rounds

-- the rounds over all words that a table may have give the top words
pub words_padded : {most : ℕ} {t : Table} → Bounded most t → rounds (suc (count t * suc (count t))) t (start_words most t ++ replicate (most - count t) 0) ≡ top_words_at most t
unfolding top_words_at start_words
words_padded {most} {t} bounded = rounds_padded (most - count t) bounded (suc (count t * suc (count t))) (start_words most t) (length-map t.states _)

-- ---- the sections that the code is lent

moves_of : {n : ℕ} {s : List ℕ} → StateRecords 3 n s → (r : List ℕ) → Memᴰ r (records 3 s) → Moves n r
moves_of {n} {s} h r m = record { wide = records-wide 3 s r m; from = h.states r m 0 (λ e. omega arith) (omega arith); to = h.states r m 2 (λ e. omega arith) (omega arith) }

pops_of : {n : ℕ} {s : List ℕ} → StateRecords 4 n s → (r : List ℕ) → Memᴰ r (records 4 s) → Pops n r
pops_of {n} {s} h r m = record { wide = records-wide 4 s r m; from = h.states r m 0 (λ e. omega arith) (omega arith); under = h.states r m 2 (λ e. omega arith) (omega arith); to = h.states r m 3 (λ e. omega arith) (omega arith) }

pub sections_bounded : {s i c r : List ℕ} → StateParts s i c r → Bounded state_most (sectioned 0 [] s i c r)
unfolding sectioned
sections_bounded h = record { states = h.few; internals = moves_of h.internals-whole; calls = moves_of h.calls-whole; returns = pops_of h.returns-whole }

-- the words that the code starts with, and those that its rounds come to
pub words-made :
    {s i c r start end : List ℕ} → StateParts s i c r → start ≡ start_words state_most (sectioned 0 [] s [] [] []) ++ replicate (state_most - length s) 0
    → end ≡ rounds (suc (length s * suc (length s))) (sectioned 0 [] s i c r) start → end ≡ top_words (sectioned 0 [] s i c r)
unfolding start_words sectioned
words-made {s} {i} {c} {r} h e f = f ∙ ap (rounds (suc (length s * suc (length s))) (sectioned 0 [] s i c r)) e ∙ words_padded (sections_bounded h)

-- .. and the answer made of them
pub answer-made :
    {s i c r words : List ℕ} {found : ℕ} → StateParts s i c r → words ≡ top_words (sectioned 0 [] s i c r) → found ≡ ones_over 64 (take (length s) words)
    → record { words = words; found = found } ≡ tops_found (sectioned 0 [] s i c r)
unfolding tops_found sectioned
answer-made {s} h e f =
    let n = f ∙ ap (λ (ws : List ℕ). ones_over 64 (take (length s) ws)) e ∙ ones_first (sections_bounded h) 64 ∙ count_ones (sections_bounded h) 64 (omega arith) in
    λ j. record { words = e j; found = n j }
