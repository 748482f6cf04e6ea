-- The marks of pairs, as the code has them. Assumes nothing.
use mathlib.Core.Path.{◌≡◌, refl, sym, ap, ◌∙◌, subst}
use mathlib.Core.Logic.{◌≢◌}
use mathlib.Core.Bool.{Bool, true, false, not, ◌&&◌, ◌||◌}
use mathlib.Core.List.{List, []}
use Prim.Native.Nat.{ℕ, suc, ◌+◌, ◌*◌, ◌/◌, ◌%◌, ◌^◌, ◌<◌, ◌≤◌}
use native.Mathlib.Omega.{arith}
use native.Mathlib.Numerals.{add-one}
use native.Mathlib.Decide.{ℕ_discrete}
use lib.ListN.{length, get_or, set, drop, replicate, length-map, length-replicate, get_or-map, drop_of_length-le}
use lib.Seq.{get_or-set_same, get_or-set_other, ext_get_or}
use lib.Bits.{bit_or, or_zero_l}
use lib.Dec.{eqb}
use borrow.Author.Tests.{eq-eqb, ne_eqb}
use Rattle.lists.specs.Lists.{any, upto}
use Rattle.lists.specs.Bits.{has}
use Rattle.lists.proofs.Members.{length-upto}
use Rattle.lists.proofs.Upto.{upto_on}
use Rattle.lists.proofs.Words.{get_d_padded}
use Rattle.table_spec.specs.File.{Table}
use Rattle.table_spec.specs.Reading.{is_initial, is_accepting}
use Rattle.table_spec.specs.Language.{count, byte_of}
use Rattle.tops_spec.specs.Tops.{add, start_words}
use Rattle.tops_spec.proofs.Walks.{length-add}
use Rattle.fit_spec.specs.Fit.{pair_byte, pair_table, pair_count, ends}
use Rattle.fit_rounds.specs.Rows.{Holds}
use Rattle.fit_compare.specs.Compared.{start_step}
use Rattle.fit_spec.proofs.Tables.{count-pairs, byte_pairs, byte_initial, byte_accepting}

-- the byte of a pair, told
pub accepts_told : (x y : ℕ) → x / 2 % 2 ≡ 1 → y / 2 % 2 ≢ 1 → true ≡ is_accepting (pair_byte x y)
unfolding is_accepting
accepts_told x y h k = sym (eq-eqb _ _ ((byte_accepting x y).1 (h, k)))

pub second_told : (x y : ℕ) → y / 2 % 2 ≡ 1 → false ≡ is_accepting (pair_byte x y)
unfolding is_accepting
second_told x y h = sym (ne_eqb _ _ (λ e. ((byte_accepting x y).0 e).1 h))

pub first_told : (x y : ℕ) → x / 2 % 2 ≢ 1 → false ≡ is_accepting (pair_byte x y)
unfolding is_accepting
first_told x y h = sym (ne_eqb _ _ (λ e. h ((byte_accepting x y).0 e).0))

pub accepts_by : (x y : ℕ) → x / 2 % 2 ≡ 1 → not (eqb (y / 2 % 2) 1) ≡ is_accepting (pair_byte x y)
accepts_by x y h = go (ℕ_discrete (y / 2 % 2) 1)
  where
    go : Dec (y / 2 % 2 ≡ 1) → not (eqb (y / 2 % 2) 1) ≡ is_accepting (pair_byte x y)
    go (yes e) = ap not (eq-eqb _ _ e) ∙ second_told x y e
    go (no n) = ap not (ne_eqb _ _ n) ∙ accepts_told x y h n

-- ---- the pairs from u on

abbrev test_at : ℕ → Table → List ℕ → ℕ → Bool
test_at bottom P F u = is_accepting (byte_of P u) && has F u bottom

pub record Ending (first second rows : List ℕ) (u : ℕ) : Type 0 where
  pub inside : u ≤ length first * (length second + 1)
  pub meets :
      (s t : Table) → s.states ≡ first → t.states ≡ second → (F : List ℕ) → Holds rows F
      → ends (length first * suc (length second)) (pair_table s t) F ≡ any (test_at (length first * (length second + 1)) (pair_table s t) F) (drop u (upto (length first * (length second + 1))))

pub ending : (first second rows : List ℕ) → Ending first second rows 0
unfolding ends
ending first second rows = record { inside = omega arith; meets = λ s t es et F h. ap (λ n. any (test_at (length first * suc (length second)) (pair_table s t) F) (upto n)) (count-pairs s t ∙ (λ i. length (es i) * suc (length (et i)))) ∙ (λ i. any (test_at (length first * sym (add-one (length second)) i) (pair_table s t) F) (upto (length first * sym (add-one (length second)) i))) }

pair_byte_lem :
    {first second : List ℕ} {u : ℕ} → u < length first * (length second + 1) → {x y : ℕ} → x ≡ get_or first (u / (length second + 1)) 0
    → y ≡ get_or second (u % (length second + 1)) 0 → (s t : Table) → s.states ≡ first → t.states ≡ second → byte_of (pair_table s t) u ≡ pair_byte x y
pair_byte_lem {first} {second} {u} l {x} {y} ex ey s t es et =
    byte_pairs s t (subst (λ (n : ℕ). u < n) (λ i. length (sym es i) * suc (length (sym et i))) (subst (λ (m : ℕ). u < length first * m) (add-one (length second)) l))
    ∙ (λ i. pair_byte (get_or (es i) (u / suc (length (et i))) 0) (get_or (et i) (u % suc (length (et i))) 0))
    ∙ (λ i. pair_byte (get_or first (u / sym (add-one (length second)) i) 0) (get_or second (u % sym (add-one (length second)) i) 0))
    ∙ (λ i. pair_byte (sym ex i) (sym ey i))

module _ {first second rows : List ℕ} {u : ℕ} (w : Ending first second rows u) (l : u < length first * (length second + 1)) where
  here :
      (s t : Table) (F : List ℕ)
      → any (test_at (length first * (length second + 1)) (pair_table s t) F) (drop u (upto (length first * (length second + 1)))) ≡ (test_at (length first * (length second + 1)) (pair_table s t) F u || any (test_at (length first * (length second + 1)) (pair_table s t) F) (drop (u + 1) (upto (length first * (length second + 1)))))
  here s t F = ap (any (test_at (length first * (length second + 1)) (pair_table s t) F)) (upto_on (length first * (length second + 1)) u l)

  module _ {x y : ℕ} (ex : x ≡ get_or first (u / (length second + 1)) 0) (ey : y ≡ get_or second (u % (length second + 1)) 0) where
    on :
        ((s t : Table) → s.states ≡ first → t.states ≡ second → (F : List ℕ) → Holds rows F → test_at (length first * (length second + 1)) (pair_table s t) F u ≡ false)
        → Ending first second rows (u + 1)
    on h = record { inside = omega arith; meets = λ s t es et F k. w.meets s t es et F k ∙ here s t F ∙ ap (λ (b : Bool). b || any (test_at (length first * (length second + 1)) (pair_table s t) F) (drop (u + 1) (upto (length first * (length second + 1))))) (h s t es et F k) }

    accepting_is : (s t : Table) → s.states ≡ first → t.states ≡ second → is_accepting (byte_of (pair_table s t) u) ≡ is_accepting (pair_byte x y)
    accepting_is s t es et = ap is_accepting (pair_byte_lem l ex ey s t es et)

    pub ending_on : ((F : List ℕ) → Holds rows F → false ≡ (is_accepting (pair_byte x y) && has F u (length first * (length second + 1)))) → Ending first second rows (u + 1)
    ending_on k = on (λ s t es et F h. ap (λ (b : Bool). b && has F u (length first * (length second + 1))) (accepting_is s t es et) ∙ sym (k F h))

    pub ending_met :
        ((F : List ℕ) → Holds rows F → true ≡ (is_accepting (pair_byte x y) && has F u (length first * (length second + 1)))) → (s t : Table) → s.states ≡ first
        → t.states ≡ second → (F : List ℕ) → Holds rows F → true ≡ ends (length first * suc (length second)) (pair_table s t) F
    ending_met k s t es et F h =
        sym (w.meets s t es et F h ∙ here s t F ∙ ap (λ (b : Bool). b || any (test_at (length first * (length second + 1)) (pair_table s t) F) (drop (u + 1) (upto (length first * (length second + 1))))) (ap (λ (b : Bool). b && has F u (length first * (length second + 1))) (accepting_is s t es et) ∙ sym (k F h)))

pub ending_done :
    {first second rows : List ℕ} {u : ℕ} → Ending first second rows u → length first * (length second + 1) ≤ u → (s t : Table) → s.states ≡ first
    → t.states ≡ second → (F : List ℕ) → Holds rows F → false ≡ ends (length first * suc (length second)) (pair_table s t) F
ending_done {first} {second} {rows} {u} w l s t es et F h = sym (w.meets s t es et F h ∙ ap (any (test_at (length first * (length second + 1)) (pair_table s t) F)) (drop_of_length-le (upto (length first * (length second + 1))) {i = u} (omega (arith, length-upto (length first * (length second + 1))))))

-- ---- the initial pairs

pub starts_told : (x y : ℕ) → x % 2 ≡ 1 → y % 2 ≡ 1 → true ≡ is_initial (pair_byte x y)
unfolding is_initial
starts_told x y h k = sym (eq-eqb _ _ ((byte_initial x y).1 (h, k)))

pub first-not : (x y : ℕ) → x % 2 ≢ 1 → false ≡ is_initial (pair_byte x y)
unfolding is_initial
first-not x y h = sym (ne_eqb _ _ (λ e. h ((byte_initial x y).0 e).0))

pub second-not : (x y : ℕ) → y % 2 ≢ 1 → false ≡ is_initial (pair_byte x y)
unfolding is_initial
second-not x y h = sym (ne_eqb _ _ (λ e. h ((byte_initial x y).0 e).1))

pub starts_by : (x y : ℕ) → x % 2 ≡ 1 → eqb (y % 2) 1 ≡ is_initial (pair_byte x y)
starts_by x y h = go (ℕ_discrete (y % 2) 1)
  where
    go : Dec (y % 2 ≡ 1) → eqb (y % 2) 1 ≡ is_initial (pair_byte x y)
    go (yes e) = eq-eqb _ _ e ∙ starts_told x y h e
    go (no n) = ne_eqb _ _ n ∙ second-not x y n

pub start_put : (byte u bottom : ℕ) {g : List ℕ} (F : List ℕ) → true ≡ is_initial byte → Holds g (add F u (2 ^ bottom)) → Holds g (start_step byte u bottom F)
unfolding start_step
start_put byte u bottom {g} F e h = subst (λ (b : Bool). Holds g (elim b as (λ _. List ℕ) [ true ↦ add F u (2 ^ bottom) | false ↦ F ])) e h

pub start-kept : (byte u bottom : ℕ) {g : List ℕ} (F : List ℕ) → false ≡ is_initial byte → Holds g F → Holds g (start_step byte u bottom F)
unfolding start_step
start-kept byte u bottom {g} F e h = subst (λ (b : Bool). Holds g (elim b as (λ _. List ℕ) [ true ↦ add F u (2 ^ bottom) | false ↦ F ])) e h

-- a pair's first word, by its byte
abbrev first_word : ℕ → ℕ → ℕ
first_word bottom byte = elim (is_initial byte) [ true ↦ 2 ^ bottom | false ↦ 0 ]

step-long : (byte u bottom : ℕ) (F : List ℕ) → length (start_step byte u bottom F) ≡ length F
unfolding start_step
step-long byte u bottom F = go (is_initial byte)
  where
    go : (b : Bool) → length {A = ℕ} (elim b [ true ↦ add F u (2 ^ bottom) | false ↦ F ]) ≡ length F
    go true = length-add F u (2 ^ bottom)
    go false = refl

step-own : (byte u bottom : ℕ) (F : List ℕ) → u < length F → get_or F u 0 ≡ 0 → get_or (start_step byte u bottom F) u 0 ≡ first_word bottom byte
unfolding start_step add
step-own byte u bottom F l z = go (is_initial byte)
  where
    go : (b : Bool) → get_or {A = ℕ} (elim b [ true ↦ set F u (bit_or (get_or F u 0) (2 ^ bottom)) | false ↦ F ]) u 0 ≡ elim b [ true ↦ 2 ^ bottom | false ↦ 0 ]
    go true = get_or-set_same F u (bit_or (get_or F u 0) (2 ^ bottom)) 0 l ∙ ap (λ w. bit_or w (2 ^ bottom)) z ∙ or_zero_l (2 ^ bottom)
    go false = z

step_other : (byte u bottom : ℕ) (F : List ℕ) (v : ℕ) → v ≢ u → get_or (start_step byte u bottom F) v 0 ≡ get_or F v 0
unfolding start_step add
step_other byte u bottom F v n = go (is_initial byte)
  where
    go : (b : Bool) → get_or {A = ℕ} (elim b [ true ↦ set F u (bit_or (get_or F u 0) (2 ^ bottom)) | false ↦ F ]) v 0 ≡ get_or F v 0
    go true = get_or-set_other F u v (bit_or (get_or F u 0) (2 ^ bottom)) 0 n
    go false = refl

-- the words so far
pub record SoFar (bottom : ℕ) (P : Table) (rows : List ℕ) (u : ℕ) : Type 0 where
  pub words : List ℕ
  pub holds : Holds rows words
  pub long : length words ≡ bottom
  pub done : (v : ℕ) → v < u → get_or words v 0 ≡ first_word bottom (byte_of P v)
  pub bare : (v : ℕ) → u ≤ v → get_or words v 0 ≡ 0

pub record Starting (first second f g : List ℕ) (u : ℕ) : Type 0 where
  pub inside : u ≤ length first * (length second + 1)
  pub so_far : (s t : Table) → s.states ≡ first → t.states ≡ second → Holds f (replicate (length first * (length second + 1)) 0) → SoFar (length first * (length second + 1)) (pair_table s t) g u

pub equal_range : (first second f : List ℕ) → Starting first second f f 0
equal_range first second f = record { inside = omega arith; so_far = λ s t es et h. record { words = replicate (length first * (length second + 1)) 0; holds = h; long = length-replicate (length first * (length second + 1)) 0; done = λ v l. absurd (omega arith); bare = λ v l. zeros (length first * (length second + 1)) v } }
  where
    zeros : (n v : ℕ) → ◌≡◌ {A = ℕ} (get_or (replicate n 0) v 0) 0
    zeros n v = get_d_padded [] n v

module _ {first second f g : List ℕ} {u : ℕ} (w : Starting first second f g u) (l : u < length first * (length second + 1)) where
  pub equal_range_on :
      {x y : ℕ} {h : List ℕ} → x ≡ get_or first (u / (length second + 1)) 0 → y ≡ get_or second (u % (length second + 1)) 0
      → ((F : List ℕ) → Holds g F → u < length F → Holds h (start_step (pair_byte x y) u (length first * (length second + 1)) F))
      → Starting first second f h (u + 1)
  equal_range_on {x} {y} {h} ex ey k = record { inside = omega arith; so_far = λ s t es et z. go s t es et (w.so_far s t es et z) }
    where
      go :
          (s t : Table) → s.states ≡ first → t.states ≡ second → SoFar (length first * (length second + 1)) (pair_table s t) g u
          → SoFar (length first * (length second + 1)) (pair_table s t) h (u + 1)
      go s t es et o =
          let N = length first * (length second + 1) in
          let b = pair_byte_lem l ex ey s t es et in
          record {
            words = start_step (pair_byte x y) u N o.words;
            holds = k o.words o.holds (omega (arith, o.long));
            long = step-long (pair_byte x y) u N o.words ∙ o.long;
            done = λ v m. here s t b o v m (ℕ_discrete v u);
            bare = λ v m. step_other (pair_byte x y) u N o.words v (λ q. absurd (omega arith)) ∙ o.bare v (omega arith);
          }
        where
          here :
              (s t : Table) → byte_of (pair_table s t) u ≡ pair_byte x y → (o : SoFar (length first * (length second + 1)) (pair_table s t) g u) → (v : ℕ)
              → v < u + 1 → Dec (v ≡ u)
              → get_or (start_step (pair_byte x y) u (length first * (length second + 1)) o.words) v 0 ≡ first_word (length first * (length second + 1)) (byte_of (pair_table s t) v)
          here s t b o v m (yes q) =
              ap (λ i. get_or (start_step (pair_byte x y) u (length first * (length second + 1)) o.words) i 0) q
              ∙ step-own (pair_byte x y) u (length first * (length second + 1)) o.words (omega (arith, o.long)) (o.bare u (omega arith))
              ∙ ap (first_word (length first * (length second + 1))) (sym b ∙ ap (byte_of (pair_table s t)) (sym q))
          here s t b o v m (no q) = step_other (pair_byte x y) u (length first * (length second + 1)) o.words v q ∙ o.done v (omega arith)

pub started :
    {first second f g : List ℕ} {u : ℕ} → Starting first second f g u → length first * (length second + 1) ≤ u → (s t : Table) → s.states ≡ first
    → t.states ≡ second → Holds f (replicate (length first * (length second + 1)) 0) → Holds g (start_words (pair_count s t) (pair_table s t))
unfolding start_words is_initial
started {first} {second} {f} {g} {u} w l s t es et z =
    let o = w.so_far s t es et z in
    let N = length first * (length second + 1) in
    let c : count (pair_table s t) ≡ N = count-pairs s t ∙ (λ i. length (es i) * sym (add-one (length (et i))) i) in
    let d : count s * suc (count t) ≡ N = (λ i. length (es i) * sym (add-one (length (et i))) i) in
    let q = ext_get_or 0 o.words (start_words (pair_count s t) (pair_table s t)) (o.long ∙ sym (length-map (pair_table s t).states _ ∙ c)) (λ v m. o.done v (omega (arith, o.long, w.inside)) ∙ ap (λ b. first_word b (byte_of (pair_table s t) v)) (sym d) ∙ sym (get_or-map {B = ℕ} (λ byte. elim (is_initial byte) [ true ↦ 2 ^ (count s * suc (count t)) | false ↦ 0 ]) (pair_table s t).states v 0)) in
    subst (Holds g) q o.holds
