-- Demand 2 over whole histories: two ends that were opened by one key and settings and accepted the same pairs are the same session, whichever
-- end wrapped each pair, and whatever was refused between; so what one wraps comes back at the other.
use Prim.Native.Nat.{ℕ, suc, ◌≤◌}
use native.Mathlib.Omega.{arith}
use mathlib.Core.Path.{◌≡◌, refl, sym, ap}
use mathlib.Core.List.{List, [], ◌∷◌, ◌++◌, map}
use lib.ListN.{length, get_or, drop}
use Rattle.spongewrap.specs.Sessions.{opens, seen, wraps, unwraps}
use Rattle.spongewrap.specs.History.{Call, SealedPair, content, after_calls, accepted_pairs, pair_blocks, pairs_blocks, history, Tells}
use Rattle.spongewrap.specs.Kinds.{Kind}
use Rattle.spongewrap.specs.declared.Session.{Session}
use Rattle.spongewrap.proofs.Theorems.{text, mark, wrap_unwrap}
use Rattle.spongewrap.proofs.Histories.{history_tells}

-- the blocks of some pairs go by their headers and bodies
same_blocks : (R t : ℕ) (ps qs : List SealedPair) → map content ps ≡ map content qs → (pairs_blocks R t ps ≡ pairs_blocks R t qs) × (length ps ≡ length qs)
unfolding pairs_blocks pair_blocks
same_blocks R t [] [] e = (refl, refl)
same_blocks R t [] (q ∷ qs) e = absurd (omega (arith, ap length e))
same_blocks R t (p ∷ ps) [] e = absurd (omega (arith, ap length e))
same_blocks R t (p ∷ ps) (q ∷ qs) e =
    let c : content p ≡ content q = ap (λ (l : List (List ℕ × List ℕ)). get_or l 0 (content p)) e in
    let i = same_blocks R t ps qs (ap (drop 1) e) in
    (rw (ap (λ (x : List ℕ × List ℕ). x.0) c, ap (λ (x : List ℕ × List ℕ). x.1) c, i.0), ap suc i.1)

-- a session by its parts: `cc` finds two of them alike where their parts are
abbrev pub copied : Session → Session
copied s = record { lanes = s.lanes; rate = s.rate; tag = s.tag; pairs = s.pairs; calls = s.calls }

module _ (K : Kind) where
  -- what is told of two sessions makes them one, where the headers and bodies are the same
  told_same : (R t : ℕ) (key : List ℕ) (ps qs : List SealedPair) (s r : Session) → map content ps ≡ map content qs → Tells K R t key ps s → Tells K R t key qs r → s ≡ r
  unfolding history
  told_same R t key ps qs s r e x y =
      let z = same_blocks R t ps qs e in
      let g : copied s ≡ copied r = cc in
      g

  module _ (key : List ℕ) (R t : ℕ) (e : (opens K key R t).number ≡ 0) where
    abbrev begun : Session
    begun = (opens K key R t).session

    -- Two runs of calls from one open in which the same headers and bodies were accepted in the same order end in the same session.
    pub same_history : (cs ds : List Call) → map content (accepted_pairs K begun cs) ≡ map content (accepted_pairs K begun ds) → after_calls K begun cs ≡ after_calls K begun ds
    same_history cs ds m = told_same R t key _ _ _ _ m (history_tells K key R t cs e) (history_tells K key R t ds e)

    -- Under the same key, settings and earlier pairs, what one end wrapped comes back exactly at the other, and both stand at one session again.
    pub comes_back : (cs ds : List Call) → map content (accepted_pairs K begun cs) ≡ map content (accepted_pairs K begun ds)
        → (h b o o' : List ℕ) → (wraps K (after_calls K begun cs) h b o).answer.number ≡ 0 → length b ≤ length o'
        → unwraps K (after_calls K begun ds) h (text K (after_calls K begun cs) h b o) (mark K (after_calls K begun cs) h b o) o'
        ≡ seen (record { number = 0; session = (wraps K (after_calls K begun cs) h b o).answer.session }) (b ++ drop (length b) o')
    comes_back cs ds m h b o o' a l = rw (sym (same_history cs ds m)) (wrap_unwrap K (after_calls K begun cs) h b o a o' l)
