-- The live returns of a section: gathered one after the other, and that matching them is matching all. Assumes nothing.
use mathlib.Core.Path.{◌≡◌, refl, sym, ap, ◌∙◌}
use mathlib.Core.Bool.{Bool, true, false, ◌&&◌}
use mathlib.Core.List.{List, [], ◌∷◌, ◌++◌, Memᴰ, append_assoc, append-nil}
use Prim.Native.Nat.{ℕ, suc, ◌+◌, ◌-◌, ◌*◌, ◌/◌, ◌≤◌, ◌<◌}
use native.Mathlib.Nat.{mul-div_cancel}
use native.Mathlib.Omega.{arith}
use lib.ListN.{length, get_or, take}
use Rattle.lists.specs.Lists.{any, all, upto, filter, parts, concat}
use Rattle.lists.specs.Bits.{has}
use Rattle.lists.proofs.Members.{all_true, all_of, any-true, any_of, filter-mem, filter_of, and-true, gives, gives_of}
use Rattle.lists.proofs.Parts.{length-concat, parts-concat}
use Rattle.table_spec.specs.File.{records}
use Rattle.table_spec.specs.Language.{targets}
use Rattle.table_spec.specs.Maps.{joins}
use Rattle.table_spec.proofs.Bytes.{records-wide}
use Rattle.table_spec.proofs.Facts.{four_bytes, targets-mem, mem-targets}
use Rattle.table_spec.proofs.Chunks.{chunk_on, chunk_end}
use Rattle.table_index.proofs.Blocks.{lent-kept}
use Rattle.check_spec.specs.Check.{return_matched}
use Rattle.check_matching.specs.Matching.{kept, record_matched, record_met, records_matched, Lent}
use Rattle.check_matching.proofs.Matched.{same_test, return_kept, record_dead}

-- ---- the live returns taken, in the first n bytes

pub record Gathering (f s live : List ℕ) (n w : ℕ) (rest : List ℕ) : Type 0 where
  pub can_next : 0 < w
  pub width : w ≡ 4
  pub long : length live ≡ 16384
  pub room : n + 4 * length (records 4 rest) ≤ 16384
  pub meets : concat (filter (kept f) (records 4 s)) ≡ take n live ++ concat (filter (kept f) (records 4 rest))

pub gathering : (f s : List ℕ) {live : List ℕ} {w : ℕ} {rest : List ℕ} → length live ≡ 16384 → length (records 4 s) ≤ 4096 → w ≡ 4 → rest ≡ s → Gathering f s live 0 w rest
gathering f s e l d h = record {
  can_next = omega arith;
  width = d;
  long = e;
  room = omega (arith, ap (λ (y : List ℕ). length (records 4 y)) h);
  meets = ap (λ (y : List ℕ). concat (filter (kept f) (records 4 y))) (sym h);
}

module _ {f s live : List ℕ} {n w : ℕ} {rest : List ℕ} (g : Gathering f s live n w rest) where
  pub filter-live-full : n ≤ length live
  filter-live-full = omega (arith, g.room, g.long)

  module _ (x t : List ℕ) (e : (rest ≡ x ++ t) × (length x ≡ w)) where
    on : records 4 rest ≡ x ∷ records 4 t
    on = chunk_on rest x t (omega arith) e.0 (e.1 ∙ g.width)

    pub filter-live-room : (n + 4 ≤ 16384) × (length x ≡ 4)
    filter-live-room = (omega (arith, g.room, ap length on), e.1 ∙ g.width)

    pub filter-live-past : {v : ℕ} → v ≡ w → kept f x ≡ false → Gathering f s live n v t
    unfolding filter
    filter-live-past d k = record {
      can_next = omega (arith, g);
      width = d ∙ g.width;
      long = g.long;
      room = omega (arith, g.room, ap length on);
      meets = g.meets ∙ ap (λ (rs : List (List ℕ)). take n live ++ concat (filter (kept f) rs)) on ∙ rw (k, filter);
    }

    -- a record that is kept is put down after those before it
    pub filter-live_on : {v : ℕ} (new : List ℕ) → v ≡ w → kept f x ≡ true → length new ≡ length live → take (n + 4) new ≡ take n live ++ x → Gathering f s new (n + 4) v t
    unfolding filter
    filter-live_on new d k l p = record {
      can_next = omega (arith, g);
      width = d ∙ g.width;
      long = l ∙ g.long;
      room = omega (arith, g.room, ap length on);
      meets =
          g.meets ∙ ap (λ (rs : List (List ℕ)). take n live ++ concat (filter (kept f) rs)) on
          ∙ rw (k, filter) (sym (append_assoc (take n live) x (concat (filter (kept f) (records 4 t)))) ∙ ap (λ (ys : List ℕ). ys ++ concat (filter (kept f) (records 4 t))) (sym p));
    }

  pub all_gathered : length rest < w → records 4 (take n live) ≡ filter (kept f) (records 4 s)
  unfolding filter records
  all_gathered h =
      let rs = filter (kept f) (records 4 s) in
      let wide : (y : List ℕ) → Memᴰ y (filter (kept f) (records 4 s)) → length y ≡ 4 = λ y d. records-wide 4 s y (filter-mem (kept f) (records 4 s) y d).0 in
      let e : take n live ≡ concat rs = sym (g.meets ∙ ap (λ (ys : List (List ℕ)). take n live ++ concat (filter (kept f) ys)) (chunk_end rest (omega (arith, g))) ∙ append-nil (take n live)) in
      let k : length (concat rs) / 4 ≡ length rs = ap (λ (x : ℕ). x / 4) (length-concat 4 rs wide) ∙ mul-div_cancel (length rs) (omega arith) in
      ap (records 4) e ∙ ap (λ (x : ℕ). parts x 4 (concat rs)) k ∙ parts-concat 4 rs wide

-- what is gathered is lent
pub gathered_lent : {n : ℕ} {s : List ℕ} (f part : List ℕ) → Lent 4 s n → records 4 part ≡ filter (kept f) (records 4 s) → Lent 4 part n
gathered_lent f part l e = record { moves = l.moves; returns = l.returns; lent = lent-kept part (kept f) l.lent e; few = l.few }

-- ---- dead returns ask nothing, and match nothing that is asked for

module _ (f : List ℕ) (rs : List (List ℕ)) (wide : (r : List ℕ) → Memᴰ r rs → length r ≡ 4) (n : ℕ) (m : List ℕ) where
  live-wide : (r : List ℕ) → Memᴰ r (filter (kept f) rs) → length r ≡ 4
  live-wide r d = wide r (filter-mem (kept f) rs r d).0

  module _ (p a s p' q u : ℕ) where
    onward : any (joins m p') (targets (filter (kept f) rs) (q ∷ a ∷ u ∷ [])) ≡ true → any (joins m p') (targets rs (q ∷ a ∷ u ∷ [])) ≡ true
    onward h =
        let t = any-true _ (targets (filter (kept f) rs) (q ∷ a ∷ u ∷ [])) h in
        any_of (joins m p') (targets rs (q ∷ a ∷ u ∷ [])) t.0 (mem-targets rs (q ∷ a ∷ u ∷ []) t.0 (filter-mem (kept f) rs _ (targets-mem (filter (kept f) rs) (q ∷ a ∷ u ∷ []) live-wide t.0 t.1)).0) t.2

    backward : has f q u ≡ true → any (joins m p') (targets rs (q ∷ a ∷ u ∷ [])) ≡ true → any (joins m p') (targets (filter (kept f) rs) (q ∷ a ∷ u ∷ [])) ≡ true
    backward x h =
        let t = any-true _ (targets rs (q ∷ a ∷ u ∷ [])) h in
        let r = q ∷ a ∷ u ∷ t.0 ∷ [] in
        any_of (joins m p') (targets (filter (kept f) rs) (q ∷ a ∷ u ∷ [])) t.0 (mem-targets (filter (kept f) rs) (q ∷ a ∷ u ∷ []) t.0 (filter_of (kept f) rs r (targets-mem rs (q ∷ a ∷ u ∷ []) wide t.0 t.1) (sym (return_kept f r (omega arith) refl refl) ∙ x))) t.2

    same-return : return_matched f (filter (kept f) rs) m p a s p' q u ≡ return_matched f rs m p a s p' q u
    unfolding return_matched
    same-return =
        let x = joins m p q && joins m s u && has f p s && has f q u in
        same_test _ _ (λ h. gives_of x _ (λ e. onward (gives x _ h e))) (λ h. gives_of x _ (λ e. backward (and-true (joins m p q && joins m s u && has f p s) (has f q u) e).1 (gives x _ h e)))

  live_matched : records_matched 4 f (filter (kept f) rs) n m ≡ records_matched 4 f rs n m
  unfolding record_matched
  live_matched = same_test _ _ (λ h. all_of (record_met 4 f rs n m) rs (λ r d. one r d h (kept f r) refl)) (λ h. all_of _ (filter (kept f) rs) (λ r d. all_of _ (upto n) (λ q k. all_of _ (upto n) (λ u x. same-return _ _ _ _ q u ∙ all_true _ (upto n) (all_true _ (upto n) (all_true (record_met 4 f rs n m) rs h r (filter-mem (kept f) rs r d).0) q k) u x))))
    where
      one : (r : List ℕ) → Memᴰ r rs → records_matched 4 f (filter (kept f) rs) n m ≡ true → (t : Bool) → kept f r ≡ t → record_met 4 f rs n m r ≡ true
      one r d h false e = sym (record_dead f rs n m r (wide r d) e)
      one r d h true e = all_of _ (upto n) (λ q k. all_of _ (upto n) (λ u x. sym (same-return _ _ _ _ q u) ∙ all_true _ (upto n) (all_true _ (upto n) (all_true (record_met 4 f (filter (kept f) rs) n m) (filter (kept f) rs) h r (filter_of (kept f) rs r d e)) q k) u x))

-- the answer for what is gathered is that for the section
pub told_live :
    (f s part : List ℕ) (n : ℕ) (m : List ℕ) {b : Bool} → records 4 part ≡ filter (kept f) (records 4 s) → b ≡ records_matched 4 f (records 4 part) n m
    → b ≡ records_matched 4 f (records 4 s) n m
told_live f s part n m g h = h ∙ ap (λ (rs : List (List ℕ)). records_matched 4 f rs n m) g ∙ live_matched f (records 4 s) (records-wide 4 s) n m
