-- What the loops of a round do, turn by turn. Assumes nothing.
use mathlib.Core.Path.{◌≡◌, refl, sym, ap, ◌∙◌, subst}
use mathlib.Core.Bool.{Bool, true, false, not, true≢false}
use mathlib.Core.List.{List, [], ◌∷◌, ◌++◌, append-nil, map, map-append, Memᴰ}
use Prim.Native.Nat.{ℕ, suc, ◌+◌, ◌*◌, ◌^◌, ◌<◌, ◌≤◌}
use native.Mathlib.Omega.{arith}
use native.Mathlib.Nat.{mul-le-mul, suc-mul}
use native.Mathlib.Numerals.{add-one}
use lib.ListN.{length, get_or}
use lib.Dec.{eqb}
use Rattle.lists.specs.Lists.{upto, concat_map}
use Rattle.lists.specs.Bits.{has}
use Rattle.lists.proofs.Counts.{concat_map-append}
use Rattle.table_spec.specs.File.{records}
use Rattle.table_spec.proofs.Facts.{three_bytes, four_bytes}
use Rattle.table_spec.proofs.Chunks.{chunk_on, chunk_end}
use Rattle.tops_spec.specs.Tops.{add, by_internals, by_calls, by_returns, live}
use Rattle.tops_spec.proofs.Walks.{length-add}
use Rattle.fit_spec.specs.Fit.{after, pair_move, pair_moves, pair_return, pair_returns}
use Rattle.fit_rounds.specs.Rows.{Holds, step_kind, by_kind, step_return, Turns, Named, Nexts, NextMoves, NextReturns}
use Rattle.fit_rounds.specs.declared.pairs.Kind.{Kind}
use Rattle.fit_rounds.specs.declared.pairs.Kind.TheVariants.{Internal, Call}
use Rattle.fit_spec.proofs.Numbers.{pair-below}

-- ---- turns

module _ {k n : ℕ} where
  pub turns_none : (f : List ℕ) → Turns k n f f (λ F. F)
  turns_none f = record { holds = λ F h e. h; long = λ F. refl }

  pub turns_then : {f g h : List ℕ} {S T : List ℕ → List ℕ} → Turns k n f g S → Turns k n g h T → Turns k n f h (λ F. T (S F))
  turns_then {S = S} s t = record { holds = λ F h e. t.holds (S F) (s.holds F h e) (s.long F ∙ e); long = λ F. t.long (S F) ∙ s.long F }

  pub turns_as : {f g : List ℕ} {S T : List ℕ → List ℕ} → Turns k n f g S → ((F : List ℕ) → S F ≡ T F) → Turns k n f g T
  turns_as {g = g} s e = record { holds = λ F h l. subst (Holds g) (e F) (s.holds F h l); long = λ F. ap length (sym (e F)) ∙ s.long F }

-- ---- one move

kind_long : (kind : Kind) (u v : ℕ) (F : List ℕ) → length (step_kind kind u v F) ≡ length F
unfolding step_kind
kind_long Internal u v F = length-add F v (get_or F u 0)
kind_long Call u v F = go (eqb (get_or F u 0) 0)
  where
    go : (b : Bool) → length {A = ℕ} (elim b [ true ↦ F | false ↦ add F v (2 ^ u) ]) ≡ length F
    go true = refl
    go false = length-add F v (2 ^ u)

pub internal_turns :
    (u v : ℕ) {f g : List ℕ} → ((F : List ℕ) → Holds f F → u < length F → v < length F → Holds g (add F v (get_or F u 0))) → (k n : ℕ) → u < k * suc n
    → v < k * suc n → Turns k n f g (step_kind Internal u v)
unfolding step_kind
internal_turns u v h k n lu lv = record { holds = λ F c e. h F c (subst (λ (m : ℕ). u < m) (sym e) lu) (subst (λ (m : ℕ). v < m) (sym e) lv); long = kind_long Internal u v }

pub call_turns :
    (u v : ℕ) {f g : List ℕ} → ((F : List ℕ) → Holds f F → true ≡ not (eqb (get_or F u 0) 0))
    → ((F : List ℕ) → Holds f F → v < length F → Holds g (add F v (2 ^ u))) → (k n : ℕ) → u < k * suc n → v < k * suc n → Turns k n f g (step_kind Call u v)
unfolding step_kind
call_turns u v {f} {g} a h k n lu lv = record { holds = λ F c e. go F (eqb (get_or F u 0) 0) (a F c) (h F c (subst (λ (m : ℕ). v < m) (sym e) lv)); long = kind_long Call u v }
  where
    go : (F : List ℕ) (b : Bool) → true ≡ not b → Holds g (add F v (2 ^ u)) → Holds g (elim b [ true ↦ F | false ↦ add F v (2 ^ u) ])
    go F true e c = absurd (true≢false e)
    go F false e c = c

pub call_none : (u v : ℕ) {f : List ℕ} → ((F : List ℕ) → Holds f F → false ≡ not (eqb (get_or F u 0) 0)) → (k n : ℕ) → Turns k n f f (step_kind Call u v)
unfolding step_kind
call_none u v {f} a k n = record { holds = λ F c e. go F (eqb (get_or F u 0) 0) (a F c) c; long = kind_long Call u v }
  where
    go : (F : List ℕ) (b : Bool) → false ≡ not b → Holds f F → Holds f (elim b [ true ↦ F | false ↦ add F v (2 ^ u) ])
    go F true e c = c
    go F false e c = absurd (true≢false (sym e))

-- ---- walks over records

kind_nil : (kind : Kind) (F : List ℕ) → by_kind kind [] F ≡ F
unfolding by_kind by_internals by_calls
kind_nil Internal F = refl
kind_nil Call F = refl

kind_cons : (kind : Kind) (r : List ℕ) (rs : List (List ℕ)) (F : List ℕ) → by_kind kind (r ∷ rs) F ≡ by_kind kind rs (step_kind kind (get_or r 0 0) (get_or r 2 0) F)
unfolding by_kind by_internals by_calls step_kind
kind_cons Internal r rs F = refl
kind_cons Call r rs F = refl

pub kind_append : (kind : Kind) (rs ss : List (List ℕ)) (F : List ℕ) → by_kind kind (rs ++ ss) F ≡ by_kind kind ss (by_kind kind rs F)
kind_append kind [] ss F = ap (by_kind kind ss) (sym (kind_nil kind F))
kind_append kind (r ∷ rs) ss F = kind_cons kind r (rs ++ ss) F ∙ kind_append kind rs ss _ ∙ ap (by_kind kind ss) (sym (kind_cons kind r rs F))

kind_one : (kind : Kind) (r : List ℕ) (F : List ℕ) → by_kind kind (r ∷ []) F ≡ step_kind kind (get_or r 0 0) (get_or r 2 0) F
kind_one kind r F = kind_cons kind r [] F ∙ kind_nil kind _

-- a number's list and one more
map-upto : (g : ℕ → List ℕ) (b : ℕ) → map g (upto (b + 1)) ≡ map g (upto b) ++ (g b ∷ [])
unfolding upto
map-upto g b = ap (λ m. map g (upto m)) (add-one b) ∙ map-append g (upto b) (b ∷ [])

-- ---- one move with every state of the second: those below b are done

pub record Seconds (kind : Kind) (p a q n : ℕ) (next f g : List ℕ) (b : ℕ) : Type 0 where
  pub inside : b ≤ n + 1
  pub turned : (ss : List (List ℕ)) → NextMoves n ss next → (k : ℕ) → p < k → q < k → Turns k n f g (by_kind kind (map (pair_move n ss (p ∷ a ∷ q ∷ [])) (upto b)))

pub seconds : (kind : Kind) (p a q n : ℕ) (next f : List ℕ) → Seconds kind p a q n next f f 0
unfolding upto
seconds kind p a q n next f = record { inside = omega arith; turned = λ ss m k lp lq. turns_as (turns_none f) (λ F. sym (kind_nil kind F)) }

-- at most 600 pairs
pub few-pairs : {k n : ℕ} → k ≤ 24 → n ≤ 24 → k * (n + 1) ≤ 600
few-pairs h l = mul-le-mul {n₂ = 24} {m₂ = 25} h (omega arith)

-- the number of a pair fits the rows
pub pair_fits : {n p b : ℕ} → p < 24 → n ≤ 24 → b < n + 1 → p * (n + 1) + b < 600
pair_fits {n} {p} {b} lp ln lb = let m : suc p * (n + 1) ≤ 24 * 25 = mul-le-mul {n₂ = 24} {m₂ = 25} lp (omega arith) in omega (arith, m, suc-mul p (n + 1))

module _ {kind : Kind} {p a q n : ℕ} {next f g : List ℕ} {b : ℕ} (s : Seconds kind p a q n next f g b) (nx : Nexts n next) (la : a < 32) (l : b < n + 1) where
  pub seconds_on : {to : ℕ} {h : List ℕ} → to ≡ get_or next (b * 32 + a) 0
      → ((k m : ℕ) → p * (n + 1) + b < k * suc m → q * (n + 1) + to < k * suc m → Turns k m g h (step_kind kind (p * (n + 1) + b) (q * (n + 1) + to)))
      → Seconds kind p a q n next f h (b + 1)
  unfolding pair_move
  seconds_on {to} {h} e t = record { inside = omega arith; turned = λ ss m k lp lq. go ss m k lp lq }
    where
      go : (ss : List (List ℕ)) → NextMoves n ss next → (k : ℕ) → p < k → q < k → Turns k n f h (by_kind kind (map (pair_move n ss (p ∷ a ∷ q ∷ [])) (upto (b + 1))))
      go ss m k lp lq =
          let w = nx.within (b * 32 + a) in
          let x : p * (n + 1) + b < k * suc n = subst (λ (i : ℕ). p * i + b < k * suc n) (sym (add-one n)) (pair-below n lp (omega (arith, add-one n))) in
          let y : q * (n + 1) + to < k * suc n = subst (λ (i : ℕ). q * i + to < k * suc n) (sym (add-one n)) (pair-below n lq (omega (arith, w, e))) in
          let z : to ≡ after ss n (b ∷ a ∷ []) = e ∙ m.at b a (omega arith) la in
          let r = pair_move n ss (p ∷ a ∷ q ∷ []) in
          turns_as (turns_then (s.turned ss m k lp lq) (t k n x y)) (λ F.
          (λ i. step_kind kind (p * add-one n i + b) (q * add-one n i + z i) (by_kind kind (map r (upto b)) F))
          ∙ sym (kind_one kind (r b) (by_kind kind (map r (upto b)) F))
          ∙ sym (kind_append kind (map r (upto b)) (r b ∷ []) F)
          ∙ ap (λ rs. by_kind kind rs F) (sym (map-upto r b)))

pub seconds-done :
    {kind : Kind} {p a q n : ℕ} {next f g : List ℕ} {b : ℕ} → Seconds kind p a q n next f g b → n + 1 ≤ b → (ss : List (List ℕ)) → NextMoves n ss next → (k : ℕ)
    → p < k → q < k → Turns k n f g (by_kind kind (map (pair_move n ss (p ∷ a ∷ q ∷ [])) (upto (suc n))))
seconds-done {kind} {p} {a} {q} {n} {next} {f} {g} {b} s l ss m k lp lq =
    let e : b ≡ suc n = omega (arith, s.inside, add-one n) in
    subst (λ (i : ℕ). Turns k n f g (by_kind kind (map (pair_move n ss (p ∷ a ∷ q ∷ [])) (upto i)))) e (s.turned ss m k lp lq)

-- ---- the records of a section: what is still to come

pub record Rest (k n : ℕ) (f g : List ℕ) (all rest : List ℕ → List ℕ) : Type 0 where
  pub so_far : List ℕ → List ℕ
  pub turns : Turns k n f g so_far
  pub meets : (F : List ℕ) → all F ≡ rest (so_far F)

rest_on : {k n : ℕ} {f g h : List ℕ} {all rest rest' S : List ℕ → List ℕ} → Rest k n f g all rest → Turns k n g h S → ((F : List ℕ) → rest F ≡ rest' (S F)) → Rest k n f h all rest'
rest_on {S = S} r t e = record { so_far = λ F. S (r.so_far F); turns = turns_then r.turns t; meets = λ F. r.meets F ∙ e (r.so_far F) }

rest-done : {k n : ℕ} {f g : List ℕ} {all rest : List ℕ → List ℕ} → Rest k n f g all rest → ((F : List ℕ) → rest F ≡ F) → Turns k n f g all
rest-done r e = turns_as r.turns (λ F. sym (r.meets F ∙ e (r.so_far F)))

pub record Moving (kind : Kind) (s next : List ℕ) (n : ℕ) (f g rest : List ℕ) : Type 0 where
  pub turned : (ss : List (List ℕ)) → NextMoves n ss next → (k : ℕ) → Named 3 k s → Rest k n f g (by_kind kind (pair_moves n (records 3 s) ss)) (by_kind kind (pair_moves n (records 3 rest) ss))
  pub left : (r : List ℕ) → Memᴰ r (records 3 rest) → Memᴰ r (records 3 s)

pub moving : (kind : Kind) (s next : List ℕ) (n : ℕ) (f : List ℕ) {rest : List ℕ} → rest ≡ s → Moving kind s next n f f rest
moving kind s next n f e = record {
  turned = λ ss m k h. record { so_far = λ F. F; turns = turns_none f; meets = λ F. ap (λ v. by_kind kind (pair_moves n (records 3 v) ss) F) (sym e) };
  left = λ r m. subst (λ (v : List ℕ). Memᴰ r (records 3 v)) e m;
}

module _ {kind : Kind} {s next : List ℕ} {n : ℕ} {f g rest : List ℕ} (w : Moving kind s next n f g rest) (x after : List ℕ) (d : rest ≡ x ++ after) (l : length x ≡ 3) where
  here : records 3 rest ≡ x ∷ records 3 after
  here = chunk_on rest x after (omega arith) d l

  first_of : Memᴰ x (records 3 s)
  first_of = w.left _ (rw here (Memᴰ.head refl))

  module _ {p a q : ℕ} (ep : p ≡ get_or x 0 0) (ea : a ≡ get_or x 1 0) (eq : q ≡ get_or x 2 0) where
    is : x ≡ p ∷ a ∷ q ∷ []
    is = three_bytes x l ∙ (λ i. sym ep i ∷ sym ea i ∷ sym eq i ∷ [])

    pub bytes-named : {k : ℕ} → Named 3 k s → (p < k) × (a < 32) × (q < k)
    bytes-named {k} h = (
      subst (λ (x : ℕ). x < k) (sym ep) (h.states _ first_of 0 (λ z. absurd (omega arith)) (omega arith)),
      subst (λ (x : ℕ). x < 32) (sym ea) (h.symbols _ first_of),
      subst (λ (x : ℕ). x < k) (sym eq) (h.states _ first_of 2 (λ z. absurd (omega arith)) (omega arith)),
    )

    pub moving_on :
        {h : List ℕ}
        → ((ss : List (List ℕ)) → NextMoves n ss next → (k : ℕ) → p < k → q < k → Turns k n g h (by_kind kind (map (pair_move n ss (p ∷ a ∷ q ∷ [])) (upto (suc n)))))
        → Moving kind s next n f h after
    unfolding pair_moves
    moving_on {h} t = record {
      turned = λ ss m k d. let b = bytes-named d in rest_on (w.turned ss m k d) (t ss m k b.0 b.2) (λ F.
          ap (λ (rs : List (List ℕ)). by_kind kind (pair_moves n rs ss) F) (here ∙ ap (λ (r : List ℕ). r ∷ records 3 after) is) ∙ kind_append kind (map (pair_move n ss (p ∷ a ∷ q ∷ [])) (upto (suc n))) (pair_moves n (records 3 after) ss) F);
      left = λ r m. w.left r (rw here (Memᴰ.tail m));
    }

pub moving_done :
    {kind : Kind} {s next : List ℕ} {n : ℕ} {f g rest : List ℕ} → Moving kind s next n f g rest → length rest < 3 → (ss : List (List ℕ))
    → NextMoves n ss next → (k : ℕ) → Named 3 k s → Turns k n f g (by_kind kind (pair_moves n (records 3 s) ss))
unfolding pair_moves
moving_done {kind} {n = n} {rest = rest} w l ss m k h = rest-done (w.turned ss m k h) (λ F. ap (λ (rs : List (List ℕ)). by_kind kind (pair_moves n rs ss) F) (chunk_end rest l) ∙ kind_nil kind F)

-- ---- one return

return-long : (u y v : ℕ) (F : List ℕ) → length (step_return u y v F) ≡ length F
unfolding step_return
return-long u y v F = go (has F u y)
  where
    go : (b : Bool) → length {A = ℕ} (elim b [ true ↦ add F v (get_or F y 0) | false ↦ F ]) ≡ length F
    go true = length-add F v (get_or F y 0)
    go false = refl

pub return_turns :
    (u y v : ℕ) {f g : List ℕ} → ((F : List ℕ) → Holds f F → true ≡ has F u y)
    → ((F : List ℕ) → Holds f F → y < length F → v < length F → Holds g (add F v (get_or F y 0))) → (k n : ℕ) → y < k * suc n → v < k * suc n
    → Turns k n f g (step_return u y v)
unfolding step_return
return_turns u y v {f} {g} a h k n ly lv = record { holds = λ F c e. go F (has F u y) (a F c) (h F c (subst (λ (m : ℕ). y < m) (sym e) ly) (subst (λ (m : ℕ). v < m) (sym e) lv)); long = return-long u y v }
  where
    go : (F : List ℕ) (b : Bool) → true ≡ b → Holds g (add F v (get_or F y 0)) → Holds g (elim b [ true ↦ add F v (get_or F y 0) | false ↦ F ])
    go F true e c = c
    go F false e c = absurd (true≢false e)

pub return-none : (u y v : ℕ) {f : List ℕ} → ((F : List ℕ) → Holds f F → false ≡ has F u y) → (k n : ℕ) → Turns k n f f (step_return u y v)
unfolding step_return
return-none u y v {f} a k n = record { holds = λ F c e. go F (has F u y) (a F c) c; long = return-long u y v }
  where
    go : (F : List ℕ) (b : Bool) → false ≡ b → Holds f F → Holds f (elim b [ true ↦ add F v (get_or F y 0) | false ↦ F ])
    go F true e c = absurd (true≢false (sym e))
    go F false e c = c

return-nil : (F : List ℕ) → by_returns [] F ≡ F
unfolding by_returns
return-nil F = refl

return-cons : (r : List ℕ) (rs : List (List ℕ)) (F : List ℕ) → by_returns (r ∷ rs) F ≡ by_returns rs (step_return (get_or r 0 0) (get_or r 2 0) (get_or r 3 0) F)
unfolding by_returns live step_return
return-cons r rs F = refl

return-append : (rs ss : List (List ℕ)) (F : List ℕ) → by_returns (rs ++ ss) F ≡ by_returns ss (by_returns rs F)
return-append [] ss F = ap (by_returns ss) (sym (return-nil F))
return-append (r ∷ rs) ss F = return-cons r (rs ++ ss) F ∙ return-append rs ss _ ∙ ap (by_returns ss) (sym (return-cons r rs F))

return-one : (r : List ℕ) (F : List ℕ) → by_returns (r ∷ []) F ≡ step_return (get_or r 0 0) (get_or r 2 0) (get_or r 3 0) F
return-one r F = return-cons r [] F ∙ return-nil _

-- ---- one return with one state of the second: the popped states below c are done

pub record Unders (p a b s q n : ℕ) (next f g : List ℕ) (c : ℕ) : Type 0 where
  pub inside : c ≤ n + 1
  pub turned : (ss : List (List ℕ)) → NextReturns n ss next → (k : ℕ) → p < k → s < k → q < k → Turns k n f g (by_returns (map (pair_return n ss (p ∷ a ∷ s ∷ q ∷ []) b) (upto c)))

pub unders : (p a b s q n : ℕ) (next f : List ℕ) → Unders p a b s q n next f f 0
unfolding upto
unders p a b s q n next f = record { inside = omega arith; turned = λ ss m k lp ls lq. turns_as (turns_none f) (λ F. sym (return-nil F)) }

module _ {p a b s q n : ℕ} {next f g : List ℕ} {c : ℕ} (w : Unders p a b s q n next f g c) (nx : Nexts n next) (la : a < 32) (lb : b ≤ n) (l : c < n + 1) where
  pub unders_on : {to : ℕ} {h : List ℕ} → to ≡ get_or next ((b * 32 + a) * 25 + c) 0
      → ((k m : ℕ) → p * (n + 1) + b < k * suc m → s * (n + 1) + c < k * suc m → q * (n + 1) + to < k * suc m → Turns k m g h (step_return (p * (n + 1) + b) (s * (n + 1) + c) (q * (n + 1) + to)))
      → Unders p a b s q n next f h (c + 1)
  unfolding pair_return
  unders_on {to} {h} e t = record { inside = omega arith; turned = λ ss m k lp ls lq. go ss m k lp ls lq }
    where
      go : (ss : List (List ℕ)) → NextReturns n ss next → (k : ℕ) → p < k → s < k → q < k → Turns k n f h (by_returns (map (pair_return n ss (p ∷ a ∷ s ∷ q ∷ []) b) (upto (c + 1))))
      go ss m k lp ls lq =
          let v = nx.within ((b * 32 + a) * 25 + c) in
          let x : p * (n + 1) + b < k * suc n = subst (λ (i : ℕ). p * i + b < k * suc n) (sym (add-one n)) (pair-below n lp (omega (arith, add-one n))) in
          let o : s * (n + 1) + c < k * suc n = subst (λ (i : ℕ). s * i + c < k * suc n) (sym (add-one n)) (pair-below n ls (omega (arith, add-one n))) in
          let y : q * (n + 1) + to < k * suc n = subst (λ (i : ℕ). q * i + to < k * suc n) (sym (add-one n)) (pair-below n lq (omega (arith, v, e))) in
          let z : to ≡ after ss n (b ∷ a ∷ c ∷ []) = e ∙ m.at b a c lb la (omega arith) in
          let r = pair_return n ss (p ∷ a ∷ s ∷ q ∷ []) b in
          turns_as (turns_then (w.turned ss m k lp ls lq) (t k n x o y)) (λ F.
          (λ i. step_return (p * add-one n i + b) (s * add-one n i + c) (q * add-one n i + z i) (by_returns (map r (upto c)) F))
          ∙ sym (return-one (r c) (by_returns (map r (upto c)) F))
          ∙ sym (return-append (map r (upto c)) (r c ∷ []) F)
          ∙ ap (λ rs. by_returns rs F) (sym (map-upto r c)))

pub unders_done :
    {p a b s q n : ℕ} {next f g : List ℕ} {c : ℕ} → Unders p a b s q n next f g c → n + 1 ≤ c → (ss : List (List ℕ)) → NextReturns n ss next → (k : ℕ) → p < k
    → s < k → q < k → Turns k n f g (by_returns (map (pair_return n ss (p ∷ a ∷ s ∷ q ∷ []) b) (upto (suc n))))
unders_done {p} {a} {b} {s} {q} {n} {next} {f} {g} {c} w l ss m k lp ls lq =
    let e : c ≡ suc n = omega (arith, w.inside, add-one n) in
    subst (λ (i : ℕ). Turns k n f g (by_returns (map (pair_return n ss (p ∷ a ∷ s ∷ q ∷ []) b) (upto i)))) e (w.turned ss m k lp ls lq)

-- ---- one return with every state of the second: those below b are done

pub record Overs (p a s q n : ℕ) (next f g : List ℕ) (b : ℕ) : Type 0 where
  pub inside : b ≤ n + 1
  pub turned :
      (ss : List (List ℕ)) → NextReturns n ss next → (k : ℕ) → p < k → s < k → q < k
      → Turns k n f g (by_returns (concat_map (λ b. map (pair_return n ss (p ∷ a ∷ s ∷ q ∷ []) b) (upto (suc n))) (upto b)))

pub overs : (p a s q n : ℕ) (next f : List ℕ) → Overs p a s q n next f f 0
unfolding upto
overs p a s q n next f = record { inside = omega arith; turned = λ ss m k lp ls lq. turns_as (turns_none f) (λ F. sym (return-nil F)) }

concat_map-upto : (g : ℕ → List (List ℕ)) (b : ℕ) → concat_map g (upto (b + 1)) ≡ concat_map g (upto b) ++ g b
unfolding upto
concat_map-upto g b = ap (λ m. concat_map g (upto m)) (add-one b) ∙ concat_map-append g (upto b) (b ∷ []) ∙ ap (λ (x : List (List ℕ)). concat_map g (upto b) ++ x) (append-nil (g b))

module _ {p a s q n : ℕ} {next f g : List ℕ} {b : ℕ} (w : Overs p a s q n next f g b) where
  pub overs_on :
      {h : List ℕ} → b ≤ n
      → ((ss : List (List ℕ)) → NextReturns n ss next → (k : ℕ) → p < k → s < k → q < k → Turns k n g h (by_returns (map (pair_return n ss (p ∷ a ∷ s ∷ q ∷ []) b) (upto (suc n)))))
      → Overs p a s q n next f h (b + 1)
  overs_on {h} l t = record { inside = omega arith; turned = λ ss m k lp ls lq. go ss (w.turned ss m k lp ls lq) (t ss m k lp ls lq) }
    where
      go :
          (ss : List (List ℕ)) {k : ℕ} → Turns k n f g (by_returns (concat_map (λ b. map (pair_return n ss (p ∷ a ∷ s ∷ q ∷ []) b) (upto (suc n))) (upto b)))
          → Turns k n g h (by_returns (map (pair_return n ss (p ∷ a ∷ s ∷ q ∷ []) b) (upto (suc n))))
          → Turns k n f h (by_returns (concat_map (λ b. map (pair_return n ss (p ∷ a ∷ s ∷ q ∷ []) b) (upto (suc n))) (upto (b + 1))))
      go ss x y =
          let r : ℕ → List (List ℕ) = λ b. map (pair_return n ss (p ∷ a ∷ s ∷ q ∷ []) b) (upto (suc n)) in
          turns_as (turns_then x y) (λ F. sym (return-append (concat_map r (upto b)) (r b) F) ∙ ap (λ rs. by_returns rs F) (sym (concat_map-upto r b)))

  pub overs_done :
      n < b → (ss : List (List ℕ)) → NextReturns n ss next → (k : ℕ) → p < k → s < k → q < k
      → Turns k n f g (by_returns (concat_map (λ b. map (pair_return n ss (p ∷ a ∷ s ∷ q ∷ []) b) (upto (suc n))) (upto (suc n))))
  overs_done l ss m k lp ls lq =
      let e : b ≡ suc n = omega (arith, w.inside, add-one n) in
      subst (λ (i : ℕ). Turns k n f g (by_returns (concat_map (λ b. map (pair_return n ss (p ∷ a ∷ s ∷ q ∷ []) b) (upto (suc n))) (upto i)))) e (w.turned ss m k lp ls lq)

-- ---- the returns of a section

pub record Returning (s next : List ℕ) (n : ℕ) (f g rest : List ℕ) : Type 0 where
  pub turned : (ss : List (List ℕ)) → NextReturns n ss next → (k : ℕ) → Named 4 k s → Rest k n f g (by_returns (pair_returns n (records 4 s) ss)) (by_returns (pair_returns n (records 4 rest) ss))
  pub left : (r : List ℕ) → Memᴰ r (records 4 rest) → Memᴰ r (records 4 s)

pub returning : (s next : List ℕ) (n : ℕ) (f : List ℕ) {rest : List ℕ} → rest ≡ s → Returning s next n f f rest
returning s next n f e = record {
  turned = λ ss m k h. record { so_far = λ F. F; turns = turns_none f; meets = λ F. ap (λ v. by_returns (pair_returns n (records 4 v) ss) F) (sym e) };
  left = λ r m. subst (λ (v : List ℕ). Memᴰ r (records 4 v)) e m;
}

module _ {s next : List ℕ} {n : ℕ} {f g rest : List ℕ} (w : Returning s next n f g rest) (x after : List ℕ) (d : rest ≡ x ++ after) (l : length x ≡ 4) where
  here4 : records 4 rest ≡ x ∷ records 4 after
  here4 = chunk_on rest x after (omega arith) d l

  first4 : Memᴰ x (records 4 s)
  first4 = w.left _ (rw here4 (Memᴰ.head refl))

  module _ {p a o q : ℕ} (ep : p ≡ get_or x 0 0) (ea : a ≡ get_or x 1 0) (eo : o ≡ get_or x 2 0) (eq : q ≡ get_or x 3 0) where
    is4 : x ≡ p ∷ a ∷ o ∷ q ∷ []
    is4 = four_bytes x l ∙ (λ i. sym ep i ∷ sym ea i ∷ sym eo i ∷ sym eq i ∷ [])

    pub returns-named : {k : ℕ} → Named 4 k s → (p < k) × (a < 32) × (o < k) × (q < k)
    returns-named {k} h = (
      subst (λ (x : ℕ). x < k) (sym ep) (h.states _ first4 0 (λ z. absurd (omega arith)) (omega arith)),
      subst (λ (x : ℕ). x < 32) (sym ea) (h.symbols _ first4),
      subst (λ (x : ℕ). x < k) (sym eo) (h.states _ first4 2 (λ z. absurd (omega arith)) (omega arith)),
      subst (λ (x : ℕ). x < k) (sym eq) (h.states _ first4 3 (λ z. absurd (omega arith)) (omega arith)),
    )

    pub returning_on :
        {h : List ℕ}
        → ((ss : List (List ℕ)) → NextReturns n ss next → (k : ℕ) → p < k → o < k → q < k → Turns k n g h (by_returns (concat_map (λ b. map (pair_return n ss (p ∷ a ∷ o ∷ q ∷ []) b) (upto (suc n))) (upto (suc n)))))
        → Returning s next n f h after
    unfolding pair_returns
    returning_on {h} t = record {
      turned = λ ss m k d. let b = returns-named d in rest_on (w.turned ss m k d) (t ss m k b.0 b.2 b.3) (λ F.
          ap (λ (rs : List (List ℕ)). by_returns (pair_returns n rs ss) F) (here4 ∙ ap (λ (r : List ℕ). r ∷ records 4 after) is4) ∙ return-append (concat_map (λ b. map (pair_return n ss (p ∷ a ∷ o ∷ q ∷ []) b) (upto (suc n))) (upto (suc n))) (pair_returns n (records 4 after) ss) F);
      left = λ r m. w.left r (rw here4 (Memᴰ.tail m));
    }

pub returning-done :
    {s next : List ℕ} {n : ℕ} {f g rest : List ℕ} → Returning s next n f g rest → length rest < 4 → (ss : List (List ℕ)) → NextReturns n ss next → (k : ℕ)
    → Named 4 k s → Turns k n f g (by_returns (pair_returns n (records 4 s) ss))
unfolding pair_returns
returning-done {n = n} {rest = rest} w l ss m k h = rest-done (w.turned ss m k h) (λ F. ap (λ (rs : List (List ℕ)). by_returns (pair_returns n rs ss) F) (chunk_end rest l) ∙ return-nil F)
