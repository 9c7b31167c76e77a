-- The session of an accepted open and every later one are held: their lanes have 64 bits and their numbers fit their fields.
use mathlib.Core.Path.{◌≡◌, refl, sym, ap, ◌∙◌}
use mathlib.Core.List.{List}
use Prim.Native.Nat.{ℕ, zero, suc, ◌+◌, ◌-◌, ◌≤◌}
use native.Mathlib.Nat.{div-le_self}
use native.Mathlib.Omega.{arith}
use lib.ListN.{length}
use Rattle.keccak.specs.Rounds.{f1600}
use Rattle.keccak.proofs.States.{rounds_state}
use Rattle.sponge.specs.Pieces.{before}
use Rattle.duplex.specs.Strings.{blocks}
use Rattle.refusal.proofs.Rows.{made}
use Rattle.spongewrap.specs.SpongeWrap.{keyed, headed, bodied, left, plaintext}
use Rattle.spongewrap.specs.Refusals.{open_refusal, Fits}
use Rattle.spongewrap.specs.Desk.{desk}
use Rattle.spongewrap.specs.Sessions.{Seen, none, fresh, opens, cost, advanced, next, recovered}
use Rattle.spongewrap.specs.History.{Call, answered}
use Rattle.spongewrap.specs.History.Call.{wrapping, unwrapping}
use Rattle.spongewrap.specs.declared.Session.{Session}
use Rattle.spongewrap.proofs.Passed.{open_fits, wrap_fits, unwrap_fits}
use Rattle.spongewrap.proofs.Settle.{length-recovered}
use Rattle.spongewrap.proofs.Theorems.{wrap_number, wrap_kept, unwrap_kept, wrapped_is, unwrapped_is, accepted_ready}
use Rattle.image.proofs.Bounds.{Below, Keeps, absorbed_state, after_state, zeros_state, opened_bytes}
use Rattle.image.proofs.Image.{Within, Held}

f1600_keeps : Keeps 64 f1600
f1600_keeps = record { whole = refl; state = rounds_state 64 24 24 }

blocks_most : (R n : ℕ) → blocks R n ≤ n + 1
unfolding blocks before
blocks_most R n = omega (arith, div-le_self (n - 1) (R - 1))

-- ---- an accepted open

pub open_held : (key : List ℕ) (R t : ℕ) → Below 256 key → (opens desk key R t).number ≡ 0 → Held (opens desk key R t).session
unfolding opens keyed Within
open_held key R t h e =
    let o = open_fits desk (length key) R t e in
    rw (made (open_refusal desk (length key) R t) none (fresh desk R t key) e)
    (record {
      lanes = absorbed_state f1600_keeps R 1 0 (omega arith) (omega arith) key h _ (zeros_state 64);
      fields = omega (arith, blocks_most R (length key));
    })

-- ---- a call, accepted or refused

-- it is handed bytes, and not just any numbers
unfoldable pub Handed : Call → Type 0
Handed (wrapping h b o) = Below 256 h × Below 256 b
Handed (unwrapping h c t o) = Below 256 h × Below 256 c

module _ (s : Session) (e : Held s) where
  next_held : (h b : List ℕ) → Below 256 h → Below 256 b → Fits desk s (length h) (length b) → Held (next desk s h b)
  unfolding next advanced cost left bodied headed Within
  next_held h b u v f =
      let n = blocks_most s.rate in
      record {
        lanes =
            after_state f1600_keeps s.rate _ s.tag
            (absorbed_state f1600_keeps s.rate 1 0 (omega arith) (omega arith) b v _ (absorbed_state f1600_keeps s.rate 0 1 (omega arith) (omega arith) h u s.lanes e.lanes));
        fields = omega (arith, n (length h), n (length b), n s.tag);
      }

  recovered_bytes : (h c : List ℕ) → Below 256 c → Below 256 (recovered desk s h c)
  unfolding recovered plaintext
  recovered_bytes h c u = opened_bytes 64 f1600 s.rate (headed 64 f1600 s.rate s.lanes h) c u

  by_number : (c : Call) → Handed c → (n : ℕ) → (answered desk s c).answer.number ≡ n → Held (answered desk s c).answer.session
  unfolding answered Handed
  by_number (wrapping h b o) u zero z =
      rw (ap (λ (v : Seen). v.answer.session) (wrapped_is desk s h b o z))
      (next_held h b u.0 u.1 (wrap_fits desk s (length h) (length b) (length o) (sym (wrap_number desk s h b o) ∙ z)).0)
  by_number (wrapping h b o) u (suc n) z = rw (wrap_kept desk s h b o (λ y. omega arith)).session e
  by_number (unwrapping h c t o) u zero z =
      let f = (unwrap_fits desk s (length h) (length c) (length o) (accepted_ready desk s h c t o z)).0 in
      rw (ap (λ (v : Seen). v.answer.session) (unwrapped_is desk s h c t o z))
      (next_held h (recovered desk s h c) u.0 (recovered_bytes h c u.1) (rw (length-recovered desk s h c f.rate) f))
  by_number (unwrapping h c t o) u (suc n) z = rw (unwrap_kept desk s h c t o (λ y. omega arith)).session e

  pub call_held : (c : Call) → Handed c → Held (answered desk s c).answer.session
  call_held c u = by_number c u (answered desk s c).answer.number refl
