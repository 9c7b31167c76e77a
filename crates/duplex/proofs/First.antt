-- A string's first piece and what is left after it. A loop that goes down the string takes the one and goes on with the other: what is
-- absorbed, written and drawn of the whole is that of the first piece, and then that of the rest from the state that it leaves.
use mathlib.Core.Path.{◌≡◌, refl, sym, ap, ◌∙◌}
use mathlib.Core.List.{List, ◌++◌, append_assoc, append-nil}
use Prim.Native.Nat.{ℕ, zero, suc, ◌+◌, ◌-◌, ◌*◌, ◌≤◌, ◌<◌}
use native.Mathlib.Nat.{suc-mul, zero-mul}
use native.Mathlib.Omega.{arith}
use lib.ListN.{length, take, drop, length-drop, length-take}
use lib.Seq.{drop-drop, take-append-add, length-take-le, take-take, take_all, take_at, drop_at}
use Rattle.sponge.specs.Bytes.{bytes}
use Rattle.sponge.specs.Pieces.{piece, before}
use Rattle.sponge.proofs.Pieces.{before_is, before_low, before_high}
use Rattle.sponge.proofs.Turns.{reached, wrote, written}
use Rattle.sponge.specs.Sponge.{iterate, stream, squeeze}
use Rattle.sponge.proofs.Squeeze.{length-bytes}
use Rattle.duplex.specs.Duplex.{Rate, duplexing, blank, drawn, state_after}
use Rattle.duplex.specs.Strings.{xored, absorbed, sealed, opened}
use Rattle.duplex.proofs.Strings.{length-xored, taken, absorbed_turns}
use Rattle.duplex.proofs.Seal.{mask, sealed_written}
use Rattle.duplex.proofs.Open.{taken_unmasked, opened_written, length-opened}

before_more : (m n : ℕ) → 0 < m → m < n → before m n ≡ suc (before m (n - m))
before_more m n p h =
    let k : ℕ = before m (n - m) in
    before_is m n (suc k) (suc k * m) p refl (omega (arith, suc-mul k m, before_low m (n - m))) (omega (arith, suc-mul k m, before_high m (n - m) p))

before_none : (m n : ℕ) → 0 < m → n ≤ m → before m n ≡ 0
before_none m n p h = before_is m n 0 0 p (sym (zero-mul m)) (omega arith) (omega arith)

-- ---- over any turn from state to state (Turns)

module _ (m : ℕ) (s : List ℕ) where
  piece_first : piece m s 0 ≡ take m s
  unfolding piece
  piece_first = rw zero-mul

  piece_after : (k : ℕ) → piece m s (suc k) ≡ piece m (drop m s) k
  unfolding piece
  piece_after k = let e : suc k * m ≡ m + k * m = omega (arith, suc-mul k m) in rw (e, drop-drop)

  module _ (N : List ℕ → List ℕ → List ℕ) (a : List ℕ) where
    reached_after : (k : ℕ) → reached m N s a (suc k) ≡ reached m N (drop m s) (N a (take m s)) k
    unfolding reached
    reached_after zero = rw piece_first
    reached_after (suc k) = rw (reached_after k, piece_after k)

    module _ (O : List ℕ → List ℕ → List ℕ) where
      wrote_after : (k : ℕ) → wrote m N O s a (suc k) ≡ O a (take m s) ++ wrote m N O (drop m s) (N a (take m s)) k
      unfolding wrote reached
      wrote_after zero = rw piece_first (sym (append-nil (O a (take m s))))
      wrote_after (suc k) = rw (wrote_after k, reached_after k, piece_after k, append_assoc)

      written_after : 0 < m → m < length s → written m N O s a ≡ O a (take m s) ++ written m N O (drop m s) (N a (take m s))
      unfolding written
      written_after p h = rw (before_more m (length s) p h, length-drop) (wrote_after _)

      written_only : 0 < m → length s ≤ m → written m N O s a ≡ O a s
      unfolding written wrote reached
      written_only p h = rw (before_none m (length s) p h, piece_first, take_all m s h)

-- ---- over any step from state to state

module _ (w : ℕ) (next : List ℕ → List ℕ) (m : ℕ) (a : List ℕ) where
  iterate_after : (k : ℕ) → iterate next a (suc k) ≡ iterate next (next a) k
  unfolding iterate
  iterate_after zero = refl
  iterate_after (suc k) = ap next (iterate_after k)

  stream_after : (k : ℕ) → stream w next m a (suc k) ≡ take m (bytes w a) ++ stream w next m (next a) k
  unfolding stream iterate
  stream_after zero = sym (append-nil (take m (bytes w a)))
  stream_after (suc k) = rw (stream_after k, iterate_after k, append_assoc)

-- ---- strings

module _ (w : ℕ) (f : List ℕ → List ℕ) (R : ℕ) (a : List ℕ) (r : 1 < R) where
  pub absorbed_after : (mid last : ℕ) (s : List ℕ) → R - 1 < length s
      → absorbed w f R a mid last s ≡ absorbed w f R (duplexing w f R a (take (R - 1) s) mid) mid last (drop (R - 1) s)
  absorbed_after mid last s h =
      rw (← absorbed_turns w f R a mid last s, ← absorbed_turns, before_more (R - 1) (length s) (omega arith) h, length-drop, reached_after, piece_after)

  pub absorbed_only : (mid last : ℕ) (s : List ℕ) → length s ≤ R - 1 → absorbed w f R a mid last s ≡ duplexing w f R a s last
  unfolding reached
  absorbed_only mid last s h = rw (← absorbed_turns, before_none (R - 1) (length s) (omega arith) h, piece_first, take_all (R - 1) s h)

  pub sealed_after : (b : List ℕ) → R - 1 < length b
      → sealed w f R a b ≡ xored (take (R - 1) b) (bytes w a) ++ sealed w f R (duplexing w f R a (take (R - 1) b) 1) (drop (R - 1) b)
  sealed_after b h = rw (sealed_written w f R a b, sealed_written) (written_after (R - 1) b (taken w f R 1) a (mask w) (omega arith) h)

  pub sealed_only : (b : List ℕ) → length b ≤ R - 1 → sealed w f R a b ≡ xored b (bytes w a)
  sealed_only b h = rw sealed_written (written_only (R - 1) b (taken w f R 1) a (mask w) (omega arith) h)

  pub opened_after : (c : List ℕ) → R - 1 < length c
      → let p = xored (take (R - 1) c) (bytes w a) in opened w f R a c ≡ p ++ opened w f R (duplexing w f R a p 1) (drop (R - 1) c)
  opened_after c h = rw (opened_written w f R a c, opened_written) (written_after (R - 1) c (taken_unmasked w f R 1) a (mask w) (omega arith) h)

  pub opened_only : (c : List ℕ) → length c ≤ R - 1 → opened w f R a c ≡ xored c (bytes w a)
  opened_only c h = rw opened_written (written_only (R - 1) c (taken_unmasked w f R 1) a (mask w) (omega arith) h)

  -- the plaintext absorbed
  pub plain_after : (c : List ℕ) → R - 1 < length c
      → let st = duplexing w f R a (xored (take (R - 1) c) (bytes w a)) 1 in absorbed w f R a 1 0 (opened w f R a c) ≡ absorbed w f R st 1 0 (opened w f R st (drop (R - 1) c))
  plain_after c h =
      let p : List ℕ = xored (take (R - 1) c) (bytes w a) in
      let q : List ℕ = opened w f R (duplexing w f R a p 1) (drop (R - 1) c) in
      let l : length p ≡ R - 1 = omega (arith, length-xored (take (R - 1) c) (bytes w a), length-take (R - 1) c) in
      let n : R - 1 < length (opened w f R a c) = omega (arith, length-opened w f R a c r) in
      rw (absorbed_after 1 0 (opened w f R a c) n, opened_after c h, take_at p q (R - 1) l, drop_at p q (R - 1) l)

  pub plain_only : (c : List ℕ) → length c ≤ R - 1 → absorbed w f R a 1 0 (opened w f R a c) ≡ duplexing w f R a (xored c (bytes w a)) 0
  plain_only c h =
      rw (opened_only c h) (absorbed_only 1 0 (xored c (bytes w a)) (omega (arith, length-xored c (bytes w a))))

-- ---- output, n bytes of it

module _ (w : ℕ) (f : List ℕ → List ℕ) (R : ℕ) (a : List ℕ) (r : Rate w R) where
  pub state_after_more : (n : ℕ) → R - 1 < n → state_after w f R a n ≡ state_after w f R (blank w f R a) (n - (R - 1))
  unfolding state_after
  state_after_more n h =
      let p = r.room in rw (before_more (R - 1) n (omega arith) h) (iterate_after w (blank w f R) (R - 1) a _)

  pub state_after_none : (n : ℕ) → n ≤ R - 1 → state_after w f R a n ≡ a
  unfolding state_after iterate
  state_after_none n h = let p = r.room in rw (before_none (R - 1) n (omega arith) h)

  pub drawn_more : (n : ℕ) → R - 1 < n → drawn w f R a n ≡ take (R - 1) (bytes w a) ++ drawn w f R (blank w f R a) (n - (R - 1))
  unfolding drawn squeeze
  drawn_more n h =
      let p = r.room in
      let t : List ℕ = take (R - 1) (bytes w a) in
      let l : length t ≡ R - 1 = length-take-le (R - 1) (bytes w a) (omega (arith, r.most, length-bytes w a)) in
      let e : n ≡ length t + (n - (R - 1)) = omega arith in
      let s : List ℕ = stream w (blank w f R) (R - 1) (blank w f R a) (suc (before (R - 1) (n - (R - 1)))) in
      rw (before_more (R - 1) n (omega arith) h, stream_after w (blank w f R) (R - 1) a (suc (before (R - 1) (n - (R - 1)))))
      (ap (λ (k : ℕ). take k (t ++ s)) e ∙ take-append-add t s (n - (R - 1)))

  pub drawn_only : (n : ℕ) → n ≤ R - 1 → drawn w f R a n ≡ take n (bytes w a)
  unfolding drawn squeeze stream iterate
  drawn_only n h = let p = r.room in rw (before_none (R - 1) n (omega arith) h) (take-take _ _ _ h)
