-- A message that is absorbed in parts: a part behind another, a block filled from any offset, and the sponge of the whole message at its end.
use mathlib.Core.Path.{◌≡◌, refl, sym, ap, ap₂, subst, ◌∙◌}
use mathlib.Core.List.{List, [], ◌∷◌, ◌++◌, append-nil, append_assoc, foldl-append}
use Prim.Native.Nat.{ℕ, zero, suc, ◌+◌, ◌-◌, ◌*◌, ◌/◌, ◌%◌, ◌^◌, ◌≤◌, ◌<◌}
use native.Mathlib.Nat.{zero-add, add-zero, zero-mul, suc-mul, mod-lt, mod_self, mod-eq_of_lt, mod-add-mod, add-mod-mod, div_self, div-eq_of_lt, div-add-mod'}
use native.Mathlib.Numerals.{add-one}
use native.Mathlib.Omega.{arith}
use lib.Pow.{shl_exact}
use lib.Bits.{bit_xor}
use lib.ListN.{length, get_or, set, take, drop, replicate, length-append, length-drop, length-replicate, replicate-append-replicate, take-append-drop}
use lib.Seq.{take-suc, take-add, take_all, length-take-le, drop-append-le}
use Rattle.sponge.specs.Bytes.{mixed}
use Rattle.sponge.specs.Pieces.{piece, blocks_of}
use Rattle.sponge.specs.Padding.{tail, padded}
use Rattle.sponge.specs.Sponge.{zeros, absorb_block, absorb, sponge, iterate, squeeze}
use Rattle.sponge.specs.Hashes.{message_blocks, hash}
use Rattle.sponge.proofs.Padding.{length-tail}
use Rattle.sponge.proofs.Pieces.{blocks_of_front, absorb_more}
use Rattle.absorber.proofs.Bytewise.{bytes-append, bytes_one, bytes_zeros, bytes_take, bytes_drop, mixed_zeros, mixed_at, mixed_snoc}
use Rattle.absorber.specs.declared.Absorbing.{Absorbing}
use Rattle.absorber.specs.Absorbing.{AreBytes, edge, fresh, turned, absorb_byte, absorb_string, ended, Absorbed}

bytes_tail : (s m : ℕ) → s < 128 → AreBytes (tail s m)
unfolding tail
bytes_tail s zero h = bytes_one (s + 128) (omega arith)
bytes_tail s (suc m) h =
    bytes-append (s ∷ []) (replicate m 0 ++ (128 ∷ [])) (bytes_one s (omega arith)) (bytes-append (replicate m 0) (128 ∷ []) (bytes_zeros m) (bytes_one 128 (omega arith)))

abbrev pub at : List ℕ → ℕ → Absorbing
at a n = record { lanes = a; offset = n }

module _ (w : ℕ) (f : List ℕ → List ℕ) (R : ℕ) where
  -- ---- parts behind each other

  -- absorbing s and then t is absorbing s ++ t
  pub absorb-append : (c : Absorbing) (s t : List ℕ) → absorb_string w f R c (s ++ t) ≡ absorb_string w f R (absorb_string w f R c s) t
  unfolding absorb_string
  absorb-append c s t = foldl-append (absorb_byte w f R) c s t

  pub parts : {c r u : Absorbing} {s t : List ℕ} → Absorbed w f R c s r → Absorbed w f R r t u → Absorbed w f R c (s ++ t) u
  parts {c} {r} {u} {s} {t} p q =
      record {
        is = q.is ∙ ap (λ (x : Absorbing). absorb_string w f R x t) p.is ∙ sym (absorb-append c s t);
        inside = q.inside;
        are_bytes = bytes-append s t p.are_bytes q.are_bytes;
      }

  -- ---- a block that is not full, and one that is

  turned_inside : (a : List ℕ) (n : ℕ) → n < R → turned f R a n ≡ at a n
  unfolding turned iterate
  turned_inside a n h = rw (div-eq_of_lt h, mod-eq_of_lt h)

  turned_full : (a : List ℕ) → 0 < R → turned f R a R ≡ edge (f a)
  unfolding turned iterate
  turned_full a h = rw (div_self h, mod_self R)

  -- where it stands
  pub offset_is : (c : Absorbing) (s : List ℕ) → c.offset < R → (absorb_string w f R c s).offset ≡ (c.offset + length s) % R
  unfolding absorb_string absorb_byte turned
  offset_is c [] h = rw add-zero (sym (mod-eq_of_lt h))
  offset_is c (b ∷ s) h =
      let e : c.offset + 1 + length s ≡ c.offset + suc (length s) = omega arith in
      offset_is (absorb_byte w f R c b) s (mod-lt (c.offset + 1) (omega arith)) ∙ mod-add-mod (c.offset + 1) R (length s) ∙ ap (λ (n : ℕ). n % R) e

  -- s over a block's edge: as many bytes x as the block lacks bring it there, and the rest y follows
  pub over_edge : (c : Absorbing) (s x y : List ℕ) (n : ℕ) (r u : Absorbing) → c.offset < R → n ≡ (R - c.offset) % R → length x ≡ n → x ≡ take n s → y ≡ drop n s
      → Absorbed w f R c x r → Absorbed w f R (edge r.lanes) y u → Absorbed w f R c s u
  over_edge c s x y n r u h e l g k p q =
      let z : c.offset + (R - c.offset) ≡ R = omega arith in
      let o : r.offset ≡ 0 =
      ap (λ (v : Absorbing). v.offset) p.is ∙ offset_is c x h ∙ rw (l, e, add-mod-mod c.offset (R - c.offset) R, z) (mod_self R) in
      let v : x ++ y ≡ s = rw (g, k) (take-append-drop n s) in
      rw v at (parts p (subst (λ (t : Absorbing). Absorbed w f R t y u) (ap (at r.lanes) (sym o)) q))

  -- one byte more of s: in a block that has room for another, and at a block's end
  module _ (c : Absorbing) (s : List ℕ) (i : ℕ) (a : List ℕ) (n : ℕ) (e : at a n ≡ absorb_string w f R c (take i s)) (h : i < length s)
      (b : List ℕ) (g : b ≡ mixed w a (replicate n 0 ++ (get_or s i 0 ∷ []))) where
    byte_more : turned f R b (n + 1) ≡ absorb_string w f R c (take (i + 1) s)
    unfolding absorb_byte absorb_string
    byte_more =
        ap (λ (y : List ℕ). turned f R y (n + 1)) g ∙ ap (λ (x : Absorbing). absorb_byte w f R x (get_or s i 0)) e
        ∙ sym (rw (add-one i, take-suc s i 0 h) (absorb-append c (take i s) (get_or s i 0 ∷ [])))

    pub byte_inside : n + 1 < R → at b (n + 1) ≡ absorb_string w f R c (take (i + 1) s)
    byte_inside l = sym (turned_inside b (n + 1) l) ∙ byte_more

    pub byte_last : n + 1 ≡ R → edge (f b) ≡ absorb_string w f R c (take (i + 1) s)
    byte_last l = sym (turned_full b (omega arith)) ∙ ap (turned f R b) (sym l) ∙ byte_more

  module _ (room : 0 < w / 8) (most : R ≤ 25 * (w / 8)) where
    -- ---- in one block

    -- s behind p, where both lie in one block
    filling : (a p s : List ℕ) → length p + length s ≤ R → AreBytes p → AreBytes s
        → absorb_string w f R (turned f R (mixed w a p) (length p)) s ≡ turned f R (mixed w a (p ++ s)) (length p + length s)
    unfolding absorb_string absorb_byte
    filling a p [] h b k = rw (append-nil, add-zero)
    filling a p (x ∷ s) h b k =
        let n : length (p ++ (x ∷ [])) ≡ length p + 1 = length-append p (x ∷ []) in
        let m : length p + 1 + length s ≡ length p + suc (length s) = omega arith in
        let e : absorb_byte w f R (turned f R (mixed w a p) (length p)) x ≡ turned f R (mixed w a (p ++ (x ∷ []))) (length (p ++ (x ∷ []))) =
        rw (turned_inside (mixed w a p) (length p) (omega arith), n) (ap (λ (y : List ℕ). turned f R y (length p + 1)) (mixed_snoc w room a p x (omega arith) b)) in
        ap (λ (y : Absorbing). absorb_string w f R y s) e
        ∙ filling a (p ++ (x ∷ [])) s (omega arith) (bytes-append p (x ∷ []) b (bytes_one x (k 0))) (λ i. k (suc i))
        ∙ ap₂ (λ (y : List ℕ) (z : ℕ). turned f R (mixed w a y) z) (append_assoc p (x ∷ []) s) (rw n m)

    -- from any offset
    within : (c : Absorbing) (s : List ℕ) → 0 < length s → c.offset + length s ≤ R → AreBytes s
        → absorb_string w f R c s ≡ turned f R (mixed w c.lanes (replicate c.offset 0 ++ s)) (c.offset + length s)
    unfolding absorb_string absorb_byte
    within c [] p h k = absurd (omega arith)
    within c (x ∷ s) p h k =
        let Z : List ℕ = replicate c.offset 0 in
        let n : length (Z ++ (x ∷ [])) ≡ c.offset + 1 = length-append Z (x ∷ []) ∙ ap (λ (i : ℕ). i + 1) (length-replicate c.offset 0) in
        let m : c.offset + 1 + length s ≡ c.offset + suc (length s) = omega arith in
        rw n at (filling c.lanes (Z ++ (x ∷ [])) s (omega arith) (bytes-append Z (x ∷ []) (bytes_zeros c.offset) (bytes_one x (k 0))) (λ i. k (suc i)))
        ∙ ap₂ (λ (y : List ℕ) (z : ℕ). turned f R (mixed w c.lanes y) z) (append_assoc Z (x ∷ []) s) m

    -- s fills the block
    fills : (c : Absorbing) (s : List ℕ) → c.offset < R → c.offset + length s ≡ R → AreBytes s
        → absorb_string w f R c s ≡ edge (f (mixed w c.lanes (replicate c.offset 0 ++ s)))
    fills c s h e k =
        within c s (omega arith) (omega arith) k ∙ rw e (turned_full (mixed w c.lanes (replicate c.offset 0 ++ s)) (omega arith))

    -- a whole block
    block : (a s : List ℕ) → 0 < R → length s ≡ R → AreBytes s → absorb_string w f R (edge a) s ≡ edge (absorb_block w f a s)
    unfolding absorb_block
    block a s p e k = fills (edge a) s p (omega arith) k

    -- one block more of s
    pub block_more : (a s st : List ℕ) (i e : ℕ) (st' : List ℕ) → edge st ≡ absorb_string w f R (edge a) (take i s) → 0 < R → e ≡ i + R → e ≤ length s → AreBytes s
        → st' ≡ absorb_block w f st (take (e - i) (drop i s)) → edge st' ≡ absorb_string w f R (edge a) (take e s)
    block_more a s st i e st' t p h l b g =
        let d : e - i ≡ R = omega arith in
        let P : List ℕ = take R (drop i s) in
        ap edge (rw d at g)
        ∙ sym (block st P p (length-take-le R (drop i s) (omega (arith, length-drop i s))) (bytes_take R (drop i s) (bytes_drop i s b)))
        ∙ ap (λ (c : Absorbing). absorb_string w f R c P) t
        ∙ sym (absorb-append (edge a) (take i s) P)
        ∙ ap (absorb_string w f R (edge a)) (sym (take-add i R s) ∙ ap (λ (n : ℕ). take n s) (sym h))

    -- the first block b of s, and what is behind it
    pub block_first : (a b s t st : List ℕ) → 0 < R → b ≡ take R s → t ≡ drop R s → length t + R ≡ length s → AreBytes s → st ≡ absorb_block w f a b
        → absorb_string w f R (edge st) t ≡ absorb_string w f R (edge a) s
    block_first a b s t st p e g l k h =
        let B : List ℕ = take R s in
        ap₂ (λ (x y : List ℕ). absorb_string w f R (edge x) y) (rw e at h) g
        ∙ ap (λ (c : Absorbing). absorb_string w f R c (drop R s)) (sym (block a B p (length-take-le R s (omega arith)) (bytes_take R s k)))
        ∙ sym (absorb-append (edge a) B (drop R s))
        ∙ ap (absorb_string w f R (edge a)) (take-append-drop R s)

    -- zeros to the block's edge, from it and from within the block
    pub filled_none : (c : Absorbing) → c.offset ≡ 0 → 0 < R → Absorbed w f R c (replicate ((R - c.offset) % R) 0) c
    unfolding absorb_string
    filled_none c e p =
        let z : R - c.offset ≡ R = omega arith in
        rw (z, mod_self R) (record { is = refl; inside = omega arith; are_bytes = bytes_zeros 0 })

    pub filled_more : (c : Absorbing) (a : List ℕ) → length c.lanes ≡ 25 → (c.offset ≡ 0 → ⊥) → c.offset < R → a ≡ f c.lanes
        → Absorbed w f R c (replicate ((R - c.offset) % R) 0) (edge a)
    filled_more c a l n h e =
        let m : ℕ = R - c.offset in
        let z : c.offset + m ≡ R = omega arith in
        let g : mixed w c.lanes (replicate c.offset 0 ++ replicate m 0) ≡ c.lanes =
        ap (mixed w c.lanes) (replicate-append-replicate {A = ℕ} c.offset m 0) ∙ mixed_zeros w c.lanes (c.offset + m) l in
        rw (mod-eq_of_lt {n = m} {m = R} (omega arith))
        (record {
          is = ap edge (e ∙ ap f (sym g)) ∙ sym (fills c (replicate m 0) h (rw (length-replicate {A = ℕ} m 0) z) (bytes_zeros m));
          inside = omega arith;
          are_bytes = bytes_zeros m;
        })

    -- ---- a whole message, and its end

    -- the padding from any offset
    pub ended_by : (c : Absorbing) (s : ℕ) (r : List ℕ) → c.offset < R → s < 128 → r ≡ absorb_block w f c.lanes (padded R s (replicate c.offset 0)) → r ≡ ended w f R c s
    unfolding ended absorb_block padded
    ended_by c s r h u e =
        let m : ℕ = R - 1 - c.offset in
        e
        ∙ ap (λ (n : ℕ). f (mixed w c.lanes (replicate c.offset 0 ++ tail s (R - 1 - n)))) (length-replicate {A = ℕ} c.offset 0)
        ∙ ap (λ (x : Absorbing). x.lanes) (sym (fills c (tail s m) h (omega (arith, length-tail s m)) (bytes_tail s m u)))

    blocks : (a M : List ℕ) (k : ℕ) → 0 < R → k * R ≤ length M → AreBytes M
        → absorb_string w f R (edge a) (take (k * R) M) ≡ edge (absorb w f a (blocks_of R (λ p. p) M k))
    unfolding absorb blocks_of piece absorb_string
    blocks a M zero p h b = rw zero-mul
    blocks a M (suc k) p h b =
        let d : suc k * R - k * R ≡ R = omega (arith, suc-mul k R) in
        sym (block_more a M _ (k * R) (suc k * R) _ (sym (blocks a M k p (omega (arith, suc-mul k R)) b)) p (suc-mul k R) h b (rw d (absorb_more w f a (blocks_of R (λ p. p) M k) (piece R M k))))

    -- the lanes that a message and its padding leave are those of the sponge
    pub ended_is : (M : List ℕ) (s : ℕ) → 0 < R → s < 128 → AreBytes M → ended w f R (absorb_string w f R fresh M) s ≡ sponge w f (message_blocks R s M)
    unfolding ended sponge message_blocks padded blocks_of piece
    ended_is M s p u b =
        let k : ℕ = length M / R in
        let D : List ℕ = drop (k * R) M in
        let d : length M / R * R + length M % R ≡ length M = div-add-mod' (length M) R in
        let l : length M % R < R = mod-lt (length M) p in
        let o : (absorb_string w f R fresh M).offset ≡ length D = offset_is fresh M p ∙ ap (λ (i : ℕ). i % R) (zero-add (length M)) ∙ omega (arith, length-drop (k * R) M) in
        let T : List ℕ = tail s (R - 1 - length D) in
        let n : length (M ++ T) ≡ suc k * R = length-append M T ∙ omega (arith, length-tail s (R - 1 - length D), length-drop (k * R) M, suc-mul k R) in
        let t : take R D ≡ D = take_all R D (omega (arith, length-drop (k * R) M)) in
        let q : piece R (M ++ T) k ≡ D ++ T =
        ap (take R) (drop-append-le (k * R) M T (omega arith)) ∙ take_all R (D ++ T) (omega (arith, length-append D T, length-tail s (R - 1 - length D), length-drop (k * R) M)) in
        ap (λ (i : ℕ). (absorb_string w f R (absorb_string w f R fresh M) (tail s (R - 1 - i))).lanes) o
        ∙ ap (λ (c : Absorbing). c.lanes) (sym (absorb-append fresh M T) ∙ ap (absorb_string w f R fresh) (sym (take_all (suc k * R) (M ++ T) (omega arith))) ∙ blocks zeros (M ++ T) (suc k) p (omega arith) (bytes-append M T b (bytes_tail s _ u)))
        ∙ ap₂ (λ (B : List (List ℕ)) (y : List ℕ). absorb w f zeros (B ++ (y ∷ []))) (blocks_of_front R (λ p. p) M T k (omega arith)) q
        ∙ ap (λ (y : List ℕ). absorb w f zeros (blocks_of R (λ p. p) M k ++ ((y ++ tail s (R - 1 - length y)) ∷ []))) (sym t)

    -- the hash of a message that came in parts
    pub hash_is : {M : List ℕ} {c : Absorbing} (s n : ℕ) → 0 < R → s < 128 → Absorbed w f R fresh M c → squeeze w f R (ended w f R c s) n ≡ hash w f R s M n
    unfolding hash
    hash_is {M} s n p u t = rw (t.is, ended_is M s p u t.are_bytes)

-- a byte as the code xors it in, with lanes of 64 bits
pub stored : (a : List ℕ) (n x : ℕ) → length a ≡ 25 → n < 200 → x < 256
    → set a (n / 8) (bit_xor (get_or a (n / 8) 0) (x * 2 ^ (8 * (n % 8)) % 2 ^ 64)) ≡ mixed 64 a (replicate n 0 ++ (x ∷ []))
stored a n x l h b =
    ap (λ (y : ℕ). set a (n / 8) (bit_xor (get_or a (n / 8) 0) y)) (shl_exact 8 (8 * (n % 8)) 64 b (omega arith)) ∙ mixed_at 64 (omega arith) a n x l h
