-- Strings through the duplex: their pieces and blocks, and that each call absorbs the plain sponge's blocks.
use mathlib.Core.Path.{◌≡◌, sym, ap, ◌∙◌}
use mathlib.Core.List.{List, [], ◌∷◌, ◌++◌}
use Prim.Native.Nat.{ℕ, ◌+◌, ◌-◌, ◌<◌}
use native.Mathlib.Numerals.{add-one}
use lib.ListN.{length, get_or, length-append}
use lib.Seq.{take_all}
use lib.Bits.{bit_xor}
use native.Mathlib.Omega.{arith}
use Rattle.sponge.specs.Pieces.{piece, blocks_of, before}
use Rattle.sponge.specs.Sponge.{absorb}
use Rattle.sponge.proofs.Table.{length-table, table_ext, table-get_or}
use Rattle.sponge.proofs.Pieces.{length-blocks_of, absorb_more}
use Rattle.sponge.proofs.Turns.{reached, reached_block}
use Rattle.duplex.specs.Duplex.{framed, duplexing}
use Rattle.duplex.specs.Strings.{blocks, front, cut, xored, absorbed}

-- ---- lengths

pub length_cut : (R mid last : ℕ) (s : List ℕ) → length (cut R mid last s) ≡ blocks R (length s)
unfolding cut front blocks
length_cut R mid last s =
    length-append (blocks_of (R - 1) (framed R mid) s (before (R - 1) (length s))) _
    ∙ ap (λ (n : ℕ). n + 1) (length-blocks_of (R - 1) (framed R mid) s (before (R - 1) (length s))) ∙ add-one (before (R - 1) (length s))

pub length-xored : (p z : List ℕ) → length (xored p z) ≡ length p
unfolding xored
length-xored p z = length-table (length p) _

-- a list as long as p, whose bytes are p's xored with z's
pub xored_is : (p z o : List ℕ) → length o ≡ length p → ((k : ℕ) → k < length p → get_or o k 0 ≡ bit_xor (get_or p k 0) (get_or z k 0)) → o ≡ xored p z
unfolding xored
xored_is p z o l h =
    rw (← table_ext (length p) (λ k. get_or o k 0) (λ k. bit_xor (get_or p k 0) (get_or z k 0)) h, table-get_or o (length p) (omega arith), take_all (length p) o (omega arith))

-- ---- what is absorbed

-- the state after a turn that takes the piece p with the frame bit b
abbrev pub taken : ℕ → (List ℕ → List ℕ) → ℕ → ℕ → List ℕ → List ℕ → List ℕ
taken w f R b st p = duplexing w f R st p b

module _ (w : ℕ) (f : List ℕ → List ℕ) (R : ℕ) (a : List ℕ) where
  -- after the blocks B, a call absorbs its own
  pub duplexing_blocks : (B : List (List ℕ)) (p : List ℕ) (b : ℕ) → duplexing w f R (absorb w f a B) p b ≡ absorb w f a (B ++ (framed R b p ∷ []))
  unfolding duplexing
  duplexing_blocks B p b = sym (absorb_more w f a B (framed R b p))

  -- the last piece after a loop that duplexes those before it
  pub absorbed_turns : (mid last : ℕ) (s : List ℕ)
      → let k = before (R - 1) (length s) in duplexing w f R (reached (R - 1) (taken w f R mid) s a k) (piece (R - 1) s k) last ≡ absorbed w f R a mid last s
  unfolding absorbed cut front duplexing
  absorbed_turns mid last s = let k = before (R - 1) (length s) in reached_block w f (R - 1) (framed R mid) s a k (framed R last (piece (R - 1) s k))
