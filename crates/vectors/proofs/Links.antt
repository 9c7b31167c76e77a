-- The steps of a Monte Carlo chain.
use mathlib.Core.Path.{◌≡◌, ap, ◌∙◌}
use mathlib.Core.List.{List, ◌++◌}
use Prim.Native.Nat.{ℕ, ◌+◌}
use native.Mathlib.Numerals.{add-one}
use lib.ListN.{take, drop, replicate}
use Rattle.vectors.specs.declared.hashes.Hash.{Hash}
use Rattle.vectors.specs.declared.chains.Link.{Link}
use Rattle.vectors.specs.Chains.{widened, hashed, carried, chosen, linked, links}

-- an output of n bytes in the front of the zeros
pub front : (H : ℕ → List ℕ) (x : List ℕ) (n k : ℕ) → x ≡ H k → k ≡ n → x ++ drop n (replicate 256 0) ≡ widened n (H n)
front H x n k p q = ap (λ (l : List ℕ). l ++ drop n (replicate 256 0)) (p ∙ ap H q)

module _ (h : Hash) (least most : ℕ) where
  pub link_is : (k : Link) (o : List ℕ) (n : ℕ) → o ≡ hashed h (take (carried h) k.output) k.next → n ≡ chosen o k.next least most
      → ◌≡◌ {A = Link} (record { output = o; length = k.next; next = n }) (linked h least most k)
  unfolding linked
  link_is k o n p q = rw (q, p)

  pub links_more : (i : ℕ) (k last next : Link) → last ≡ links h least most i k → next ≡ linked h least most last → next ≡ links h least most (i + 1) k
  unfolding links
  links_more i k last next p q = rw add-one (q ∙ ap (linked h least most) p)
