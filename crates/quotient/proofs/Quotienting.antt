-- The quotient written over the parts of a table, and over a table that was read: one law for each way to a return of src/. Assumes nothing.
use mathlib.Core.Path.{◌≡◌, refl, sym, ap, ◌∙◌, subst}
use mathlib.Core.Logic.{◌⊎◌, inl, inr}
use mathlib.Core.Bool.{Bool, true, false}
use mathlib.Core.List.Memᴰ.{cases_cons}
use mathlib.Core.List.Memᴰ.{not-nil}
use mathlib.Core.List.{List, [], ◌∷◌, map, Memᴰ}
use Prim.Native.Nat.{ℕ, zero, suc, ◌+◌, ◌*◌, ◌/◌, ◌<◌, ◌≤◌}
use native.Mathlib.Omega.{arith}
use lib.ListN.{length, take, drop, length-map}
use lib.Seq.{get_or-drop, take_at}
use lib.Dec.{leb}
use borrow.Author.Tests.{le-leb, lt-leb}
use Rattle.lists.specs.Lists.{filter, upto, parts, over}
use Rattle.lists.proofs.Members.{filter-mem}
use Rattle.lists.proofs.Counts.{filter-le, filter-every}
use Rattle.lists.proofs.Refusals.{passes, fails, no_test, stage-passes, stage_fails, not_refused}
use Rattle.limits.specs.declared.Limits.{Limits}
use Rattle.refusals.specs.declared.Refusal.{Refusal}
use Rattle.refusals.specs.declared.Refusal.TheVariants.{OutputLength}
use Rattle.refusals.specs.Refusals.{number_of}
use Rattle.refusals.proofs.Numbers.{some_number, refuses_by}
use Rattle.std.specs.Prelude.{Result, Ok, Err}
use Rattle.limits.specs.Limits.{symbol_most}
use Rattle.limits.proofs.Within.{limits-within}
use Rattle.table_spec.specs.File.{Table, trailer, version, records, table_of, bytes_of, of_states}
use Rattle.table_spec.specs.Maps.{classes}
use Rattle.table_spec.specs.declared.Starts.{Starts}
use Rattle.table_spec.proofs.Passed.{read-passed, formed_tested}
use Rattle.table_spec.proofs.Bytes.{Bytes, records-wide, read_well_formed}
use Rattle.table_view.specs.Sections.{part_of}
use Rattle.table_view.specs.declared.Section.{Section}
use Rattle.table_view.specs.declared.Section.TheVariants.{Symbols, States, Internals, Calls, Returns}
use Rattle.table_view.proofs.Parts.{symbols-read, states-read, internals-read, calls-read, returns-read}
use Rattle.tops_spec.specs.Tops.{live, live_returns}
use Rattle.check_spec.specs.Check.{check_number}
use Rattle.check_map.specs.Known.{Known}
use Rattle.check_matching.specs.Matching.{kept}
use Rattle.check_matching.proofs.Matched.{move_kept, return_kept}
use Rattle.quotient_spec.specs.Quotient.{image, images, member_has, class_mark, class_byte, quotient_table, quotient_bytes, quotient_number, quotient_of}
use Rattle.table_find.specs.Keys.{key}
use Rattle.table_find.proofs.Keys.{part_bytes}
use Rattle.quotient_spec.proofs.Image.{images-mem, images-length, image-length}
use Rattle.table_write.specs.Keys.{record_of, Holds}
use Rattle.table_write.specs.Tables.{keyed_table, written_for}
use Rattle.table_write.proofs.Keys.{Same, keys_back}
use Rattle.table_write.proofs.Whole.{bytes-long}
use Rattle.quotient_images.proofs.Collecting.{image-bytes}
use Rattle.quotient.specs.Parts.{Sized, image_keys, parted_quotient}
use Rattle.quotient.specs.Classes.{class_bytes}
use Rattle.quotient.proofs.ClassBytes.{length-bytes}

-- ---- counts

pub classes-small : (m : List ℕ) → Bytes m → classes m ≤ 256
unfolding classes
classes-small [] b = omega arith
classes-small (c ∷ m) b = let h : c < 256 = b 0 in omega (arith, classes-small m (λ i. b (suc i)))

image_keys-few : (w : ℕ) (s f m : List ℕ) → length (image_keys w s f m) ≤ length (records w s)
image_keys-few w s f m =
    omega (arith, length-map (images m (filter (kept f) (records w s))) key, images-length m (filter (kept f) (records w s)), filter-le (kept f) (records w s))

-- the state bytes, put to the front of a buffer
pub states_put : (t : Table) (m : List ℕ) (k : ℕ) (old : List ℕ) {now : List ℕ} → now ≡ over (class_bytes t m k) old → Holds now k (class_bytes t m k)
unfolding over
states_put t m k old e = record { count = sym (length-bytes t m k); same = ap (take k) e ∙ take_at (class_bytes t m k) (drop (length (class_bytes t m k)) old) k (length-bytes t m k) }

-- ---- over the parts of a table

-- how many symbols, classes and images there are
pub record Few (y : List ℕ) (k a b d : ℕ) : Type 0 where
  pub symbols : length y ≤ symbol_most
  pub classes : k ≤ 256
  pub internals : a ≤ 1024
  pub calls : b ≤ 1024
  pub returns : d ≤ 4096

module _ (v : ℕ) (y s i c r f m : List ℕ) {k a b d : ℕ} {ks ls ms : List ℕ} (e : k ≡ classes m) (h : Holds ks a (image_keys 3 i f m)) (l : Holds ls b (image_keys 3 c f m)) (g : Holds ms d (image_keys 4 r f m)) where
  pub counts-few : Sized y i c r → Bytes m → Few y k a b d
  counts-few z q = record {
    symbols = z.symbols-few;
    classes = omega (arith, e, classes-small m q);
    internals = omega (arith, h.count, image_keys-few 3 i f m, z.internals-few);
    calls = omega (arith, l.count, image_keys-few 3 c f m, z.calls-few);
    returns = omega (arith, g.count, image_keys-few 4 r f m, z.returns-few);
  }

  whole : length (bytes_of (parted_quotient v y s i c r f m)) ≡ length y + k + 3 * a + 3 * b + 4 * d + 12
  whole = omega (arith, bytes-long v y (class_bytes (of_states s) m (classes m)) (image_keys 3 i f m) (image_keys 3 c f m) (image_keys 4 r f m), length-bytes (of_states s) m (classes m), e, h.count, l.count, g.count)

  pub short : (out : List ℕ) → length out < length y + k + 3 * a + 3 * b + 4 * d + 12 → record { answer = Err OutputLength; out = out } ≡ written_for (bytes_of (parted_quotient v y s i c r f m)) out
  unfolding written_for
  short out n = sym (rw (lt-leb (length (bytes_of (parted_quotient v y s i c r f m))) (length out) (omega (arith, whole)), written_for))

  module _ {vs : List ℕ} (z : Holds vs k (class_bytes (of_states s) m k)) where
    -- the table that is written
    same_bytes : bytes_of (keyed_table v y (take k vs) (take a ks) (take b ls) (take d ms)) ≡ bytes_of (parted_quotient v y s i c r f m)
    same_bytes = λ j. bytes_of (keyed_table v y ((z.same ∙ ap (class_bytes (of_states s) m) e) j) (h.same j) (l.same j) (g.same j))

    module _ (out : List ℕ) (n : length y + k + 3 * a + 3 * b + 4 * d + 12 ≤ length out) where
      pub fits : length (bytes_of (keyed_table v y (take k vs) (take a ks) (take b ls) (take d ms))) ≤ length out
      fits = omega (arith, ap length same_bytes, whole)

      pub put : {out' : List ℕ} → out' ≡ over (bytes_of (keyed_table v y (take k vs) (take a ks) (take b ls) (take d ms))) out
          → record { answer = Ok (length y + k + 3 * a + 3 * b + 4 * d + 12); out = out' } ≡ written_for (bytes_of (parted_quotient v y s i c r f m)) out
      unfolding written_for
      put {out'} p = sym (rw (le-leb (length (bytes_of (parted_quotient v y s i c r f m))) (length out) (omega (arith, whole)), written_for) (λ j. record { answer = Ok (whole j); out = sym (p ∙ ap (λ x. over x out) same_bytes) j }))

-- ---- the keys of images give the images back

rest-bytes : (n : ℕ) (xs : List ℕ) → Bytes xs → Bytes (drop n xs)
rest-bytes n xs b i = rw (get_or-drop n xs i 0) (b (n + i))

parts-bytes : (k w : ℕ) (xs : List ℕ) → Bytes xs → (r : List ℕ) → Memᴰ r (parts k w xs) → Bytes r
unfolding parts
parts-bytes zero w xs b r d = absurd (not-nil d)
parts-bytes (suc k) w xs b r d = go (cases_cons d) (parts-bytes k w (drop w xs) (rest-bytes w xs b) r)
  where
    go : (r ≡ take w xs) ⊎ Memᴰ r (parts k w (drop w xs)) → (Memᴰ r (parts k w (drop w xs)) → Bytes r) → Bytes r
    go (inl e) ih = subst Bytes (sym e) (part_bytes xs b 0 w)
    go (inr q) ih = ih q

module _ (w : ℕ) (l : w ≤ 4) (s f m : List ℕ) (bs : Bytes s) (bm : Bytes m) where
  images-same : (r : List ℕ) → Memᴰ r (images m (filter (kept f) (records w s))) → Same w r
  unfolding records
  images-same r d = go ((images-mem m (filter (kept f) (records w s)) r).0 d)
    where
      go : (x : List ℕ) × Memᴰ x (filter (kept f) (records w s)) × (image m x ≡ r) → Same w r
      go (x, q, e) =
          let k = (filter-mem (kept f) (records w s) x q).0 in
          subst (Same w) e (image-length m x ∙ records-wide w s x k, image-bytes m x bm (parts-bytes (length s / w) w s bs x k))

  pub images-back : map (record_of w) (image_keys w s f m) ≡ images m (filter (kept f) (records w s))
  images-back = keys_back w l (images m (filter (kept f) (records w s))) images-same

-- moves are kept, and returns where they are live
filter_yes : (g : List ℕ → Bool) (r : List ℕ) (rs : List (List ℕ)) → g r ≡ true → filter g (r ∷ rs) ≡ r ∷ filter g rs
unfolding filter
filter_yes g r rs e = rw (e, filter)

filter_no : (g : List ℕ → Bool) (r : List ℕ) (rs : List (List ℕ)) → g r ≡ false → filter g (r ∷ rs) ≡ filter g rs
unfolding filter
filter_no g r rs e = rw (e, filter)

filter_same : (g h : List ℕ → Bool) (rs : List (List ℕ)) → ((r : List ℕ) → Memᴰ r rs → g r ≡ h r) → filter g rs ≡ filter h rs
unfolding filter
filter_same g h [] e = refl
filter_same g h (r ∷ rs) e = go (h r) (e r (Memᴰ.head refl)) refl (filter_same g h rs (λ s q. e s (Memᴰ.tail q)))
  where
    go : (t : Bool) → g r ≡ h r → h r ≡ t → filter g rs ≡ filter h rs → filter g (r ∷ rs) ≡ filter h (r ∷ rs)
    go true p q ih = filter_yes g r rs (p ∙ q) ∙ ap (λ xs. r ∷ xs) ih ∙ sym (filter_yes h r rs q)
    go false p q ih = filter_no g r rs (p ∙ q) ∙ ih ∙ sym (filter_no h r rs q)

moves-kept : (s f : List ℕ) → filter (kept f) (records 3 s) ≡ records 3 s
moves-kept s f = filter_same (kept f) (λ r. true) (records 3 s) (λ r d. sym (move_kept f r (omega (arith, records-wide 3 s r d)))) ∙ filter-every (records 3 s)

returns-kept : (s f : List ℕ) → filter (kept f) (records 4 s) ≡ filter (live f) (records 4 s)
unfolding live
returns-kept s f = filter_same (kept f) (live f) (records 4 s) (λ r d. sym (return_kept f r (omega (arith, records-wide 4 s r d)) refl refl))

-- ---- over a table that was read

section_bytes : (b : List ℕ) (s : Starts) (w : Section) → Bytes b → Bytes (part_of b s w)
unfolding part_of
section_bytes b s Symbols h = rest-bytes s.symbols (take s.states b) (part_bytes b h 0 s.states)
section_bytes b s States h = rest-bytes s.states (take s.internals b) (part_bytes b h 0 s.internals)
section_bytes b s Internals h = rest-bytes s.internals (take s.calls b) (part_bytes b h 0 s.calls)
section_bytes b s Calls h = rest-bytes s.calls (take s.returns b) (part_bytes b h 0 s.returns)
section_bytes b s Returns h = rest-bytes s.returns (take (trailer b) b) (part_bytes b h 0 (trailer b))

pub known-long : {b f : List ℕ} {s : Starts} → Known b s f → 12 ≤ length b
known-long {b} k = (read-passed k.limits b k.read.readable).long

module _ {b f : List ℕ} {s : Starts} (k : Known b s f) {symbols states internals calls returns : List ℕ}
    (e0 : symbols ≡ part_of b s Symbols) (e1 : states ≡ part_of b s States) (e2 : internals ≡ part_of b s Internals) (e3 : calls ≡ part_of b s Calls) (e4 : returns ≡ part_of b s Returns) where
  pub known_sized : Sized symbols internals calls returns
  known_sized =
      let w = limits-within (read_well_formed k.limits b k.read.readable).limits in
      let t = formed_tested (read_well_formed k.limits b k.read.readable) in
      record {
        symbols-few = omega (arith, ap length (symbols-read k.read e0), t.symbols-few, w.symbols);
        internals-few = omega (arith, ap length (internals-read k.read e2), t.internals-few);
        calls-few = omega (arith, ap length (calls-read k.read e3), t.calls-few);
        returns-few = omega (arith, ap length (returns-read k.read e4), t.returns-few);
      }

  module _ (m : List ℕ) (bb : Bytes b) (bm : Bytes m) where
    bytes : {x : List ℕ} (w : Section) → x ≡ part_of b s w → Bytes x
    bytes w e = subst Bytes (sym e) (section_bytes b s w bb)

    moves-again : (x : List ℕ) → Bytes x → map (record_of 3) (image_keys 3 x f m) ≡ images m (records 3 x)
    moves-again x h = images-back 3 (omega arith) x f m h bm ∙ ap (images m) (moves-kept x f)

    returns-again : map (record_of 4) (image_keys 4 returns f m) ≡ images m (live_returns (table_of b))
    unfolding live_returns
    returns-again =
        images-back 4 (omega arith) returns f m (bytes Returns e4) bm
        ∙ ap (images m) (returns-kept returns f ∙ λ j. filter (live (k.words j)) (returns-read k.read e4 j))

    states-again : class_bytes (of_states states) m (classes m) ≡ map (class_byte (table_of b) m) (upto (classes m))
    unfolding class_byte member_has class_mark
    states-again = ap (λ x. class_bytes (of_states x) m (classes m)) (states-read k.read e1)

    pub parted-quotient : parted_quotient (version b) symbols states internals calls returns f m ≡ quotient_table (table_of b) m
    unfolding quotient_table table_of
    parted-quotient = λ j. record {
      version = version b;
      symbols = symbols-read k.read e0 j;
      states = states-again j;
      internals = (moves-again internals (bytes Internals e2) ∙ ap (images m) (internals-read k.read e2)) j;
      calls = (moves-again calls (bytes Calls e3) ∙ ap (images m) (calls-read k.read e3)) j;
      returns = returns-again j;
    }

    pub written_read : {v : ℕ} → v ≡ version b → (out : List ℕ) → written_for (bytes_of (parted_quotient v symbols states internals calls returns f m)) out ≡ written_for (quotient_bytes b m) out
    unfolding quotient_bytes
    written_read {v} e out = ap (λ x. written_for (bytes_of (parted_quotient x symbols states internals calls returns f m)) out) e ∙ ap (λ (t : Table). written_for (bytes_of t) out) parted-quotient

-- ---- the answer

module _ (L : Limits) (b m out : List ℕ) where
  pub quotient_refused : {r : Refusal} {x : Result ℕ Refusal} → x ≡ Err r → check_number L b m ≡ number_of r → record { answer = x; out = out } ≡ quotient_of L b m out
  unfolding quotient_of quotient_number
  quotient_refused {r} p e = (λ i. record { answer = p i; out = out }) ∙ refuses_by (λ s. record { answer = Err s; out = out }) _ (stage_fails _ _ e (some_number r))

  pub quotient-written : check_number L b m ≡ 0 → written_for (quotient_bytes b m) out ≡ quotient_of L b m out
  unfolding quotient_of quotient_number written_for
  quotient-written e = go (leb (length (quotient_bytes b m)) (length out)) refl
    where
      go : (t : Bool) → leb (length (quotient_bytes b m)) (length out) ≡ t → written_for (quotient_bytes b m) out ≡ quotient_of L b m out
      go true p = rw (p, written_for) (not_refused (quotient_number L b m out) _ _ (stage-passes _ _ e ∙ passes 21 _ p ∙ no_test))
      go false p = rw (p, written_for) (refuses_by (λ s. record { answer = Err s; out = out }) _ (stage-passes _ _ e ∙ fails 21 _ p))
