-- Any two outcomes that the public contract (`Post`) allows of one call are equal, by how many bytes were read: where the input's bytes are known,
-- the same bytes stand at the start of the buffer, and the same are left. How many those are is the input's to say, since a read may fail.
use Rattle.std.proofs.Common.{◌≡◌, ℕ, List, ◌++◌, Option, None, Some, IsSome, length, take, drop, refl, sym, ap, ◌∙◌, take_at, drop_at, length-take-le}
use Rattle.std.specs.Io.KnownBytes.{Consumes}
use Rattle.reading.proofs.read_full.Reads as read_full

-- what is taken of known bytes is settled by its length, and so is what is left
consumed : (a b c : Option (List ℕ)) (l m : List ℕ) → IsSome a → length l ≡ length m → Consumes a b l → Consumes a c m → (l ≡ m) × (b ≡ c)
consumed None b c l m i e p q = cc
consumed (Some x) None c l m i e p q = absurd p
consumed (Some x) (Some y) None l m i e p q = absurd q
consumed (Some x) (Some y) (Some z) l m i e p q =
    let h : l ++ y ≡ m ++ z = sym p ∙ q in (
      sym (take_at l y (length m) e) ∙ ap (take (length m)) h ∙ take_at m z (length m) refl,
      ap Some (sym (drop_at l y (length m) e) ∙ ap (drop (length m)) h ∙ drop_at m z (length m) refl),
    )

pub read_full_outcome : (T L G D κs a x y s t : _) → read_full.Post T L G D κs a x s → read_full.Post T L G D κs a y t
    → IsSome (G.remaining a.0.now) → x ≡ y
    → (take x s.1.0.now ≡ take y t.1.0.now) × (G.remaining s.0.now ≡ G.remaining t.0.now)
read_full_outcome T L G D κs a x y s t p q known e =
    consumed _ _ _ _ _ known (length-take-le x s.1.0.now p.0 ∙ e ∙ sym (length-take-le y t.1.0.now q.0)) p.1 q.1
