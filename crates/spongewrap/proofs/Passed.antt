-- What holds where no row of a table does, and how the rows of an unwrap stand to those of a wrap.
use Prim.Native.Nat.{ℕ, ◌+◌, ◌≤◌}
use native.Mathlib.Omega.{arith}
use mathlib.Core.Path.{◌≡◌, refl, sym, ◌∙◌}
use mathlib.Core.List.{List, [], ◌∷◌, ◌++◌}
use mathlib.Core.Bool.{Bool, true, false, not, ◌&&◌, and-true}
use lib.Dec.{eqb, ltb, leb}
use borrow.Author.Tests.{ltb-false, leb-false, eqb-true, le-ltb}
use Rattle.refusal.specs.Rows.{pick, first, by, short}
use Rattle.refusal.proofs.Tests.{neither, inside}
use Rattle.refusal.proofs.Rows.{kept, made, by_zero, Clear, all_clear, clear_first, clear_append, clear_parts, first-append}
use Rattle.duplex.specs.Duplex.{Rate}
use Rattle.refusal.specs.Limits.{least_size, most_size, bad_size}
use Rattle.spongewrap.specs.Refusals.{most_header, most_body, most_pairs, bad_rate, open_rows, rows_of, part_rows, open_refusal, common_rows, wrap_refusal, ready_rows, unwrap_refusal, Fits}
use Rattle.spongewrap.specs.Kinds.{Rates, Kind}
use Rattle.spongewrap.specs.declared.Session.{Session}

good_rate : (w : ℕ) (Rs : List ℕ) (R : ℕ) → Rates w Rs → bad_rate Rs R ≡ false → Rate w R
good_rate w [] R f e = let z : ◌≡◌ {A = ℕ} 0 1 = cc in absurd (omega arith)
good_rate w (r ∷ Rs) R f e = go (good_rate w Rs R f.1) (eqb R r) refl e
  where
    go : (bad_rate Rs R ≡ false → Rate w R) → (b : Bool) → eqb R r ≡ b → (bad_rate Rs R && not b) ≡ false → Rate w R
    go on true p e = rw (eqb-true R r p) f.0
    go on false p e = on (rw and-true at e)

module _ (K : Kind) where
  -- ---- the rows that a wrap and an unwrap have in common

  fits : (s : Session) (h b : ℕ) → Clear (common_rows K s h b) → Fits K s h b
  fits s h b k =
      let f = neither (leb most_pairs s.pairs) (ltb K.ceiling s.calls) k.1.1.0 in
      record {
        rate = good_rate K.w K.rates s.rate K.fit k.0;
        tag = inside least_size most_size s.tag k.1.0;
        pairs = leb-false most_pairs s.pairs f.0;
        calls = ltb-false K.ceiling s.calls f.1;
        header_fits = ltb-false most_header h k.1.1.1.0;
        body_fits = ltb-false most_body b k.1.1.1.1.0;
      }

  -- those, and then the output's
  room : (s : Session) (h b o n : ℕ) → first (common_rows K s h b ++ (short o n, 6) ∷ []) ≡ 0 → Clear (common_rows K s h b) × (n ≤ o)
  room s h b o n e =
      let k = clear_parts (common_rows K s h b) ((short o n, 6) ∷ []) (all_clear (common_rows K s h b ++ (short o n, 6) ∷ []) refl e) in
      (k.0, ltb-false o n k.1.0)

  -- the number that the session's own rows, and then the others, come to
  pub pair_is : (s : Session) (h b own r : ℕ) (x y z short : Bool) → x ≡ bad_rate K.rates s.rate → y ≡ bad_size s.tag
      → own ≡ first (rows_of K.ceiling s x y) → z ≡ short → r ≡ by own own (first (part_rows h b ++ (z, 6) ∷ []))
      → r ≡ first (common_rows K s h b ++ (short, 6) ∷ [])
  pair_is s h b own r x y z short p q e i f =
      f ∙ rw (e, p, q, i) (sym (first-append (rows_of K.ceiling s (bad_rate K.rates s.rate) (bad_size s.tag)) (part_rows h b ++ (short, 6) ∷ []) refl))

  -- a wrap that is not refused
  pub wrap_fits : (s : Session) (h b o : ℕ) → wrap_refusal K s h b o ≡ 0 → Fits K s h b × (b + s.tag ≤ o)
  unfolding wrap_refusal
  wrap_fits s h b o e = let k = room s h b o (b + s.tag) e in (fits s h b k.0, k.1)

  -- an unwrap that passes all but its tag's row
  pub unwrap_fits : (s : Session) (h c o : ℕ) → first (ready_rows K s h c o) ≡ 0 → Fits K s h c × (c ≤ o)
  unwrap_fits s h c o e = let k = room s h c o c e in (fits s h c k.0, k.1)

  -- what may be wrapped may be unwrapped, into any output that has room
  pub may_unwrap : (s : Session) (h b o o' : ℕ) → wrap_refusal K s h b o ≡ 0 → b ≤ o' → first (ready_rows K s h b o') ≡ 0
  unfolding wrap_refusal
  may_unwrap s h b o o' e l =
      clear_first (ready_rows K s h b o') (clear_append (common_rows K s h b) ((short o' b, 6) ∷ []) (room s h b o (b + s.tag) e).0 (le-ltb o' b l, tt))

  -- ---- an open that is not refused

  pub record Opens (key rate tag : ℕ) : Type 0 where
    pub rates : Rate K.w rate
    pub keys : (least_size ≤ key) × (key ≤ most_size)
    pub tags : (least_size ≤ tag) × (tag ≤ most_size)

  pub open_fits : (key rate tag : ℕ) → open_refusal K key rate tag ≡ 0 → Opens key rate tag
  unfolding open_refusal
  open_fits key rate tag e =
      let k = all_clear (open_rows (bad_rate K.rates rate) key tag) refl e in
      record { rates = good_rate K.w K.rates rate K.fit k.0; keys = inside least_size most_size key k.1.0; tags = inside least_size most_size tag k.1.1.0 }

  -- ---- the last row of an unwrap, its tag's

  module _ (s : Session) (h c o : ℕ) (other : Bool) where
    last_row : unwrap_refusal K s h c o other ≡ by (first (ready_rows K s h c o)) (first (ready_rows K s h c o)) (pick other 8 0)
    unfolding unwrap_refusal
    last_row = first-append (ready_rows K s h c o) ((other, 8) ∷ []) refl

    pub before_tag : (n : ℕ) → n ≡ first (ready_rows K s h c o) → (n ≡ 0 → ⊥) → n ≡ unwrap_refusal K s h c o other
    before_tag n e d = rw (last_row, ← e) (sym (kept n n (pick other 8 0) d))

    pub at_tag : first (ready_rows K s h c o) ≡ 0 → unwrap_refusal K s h c o other ≡ pick other 8 0
    at_tag e = last_row ∙ made _ _ _ e

    pub all_but_tag : unwrap_refusal K s h c o other ≡ 0 → first (ready_rows K s h c o) ≡ 0
    all_but_tag e = (by_zero (first (ready_rows K s h c o)) (pick other 8 0) (sym last_row ∙ e)).0
