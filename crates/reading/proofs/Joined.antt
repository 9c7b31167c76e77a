-- What stands in a buffer after a read into the rest of it.
use Rattle.std.proofs.Common.{◌≡◌, ℕ, ◌+◌, ◌≤◌, List, ◌++◌, length, take, sym, ap, ◌∙◌, le_refl, drop_at, length-take-le}
use Rattle.std.proofs.lemmas.Slice.{take-put_mid_below}
use borrow.Rule.Slice.PartMut.{put_mid, post_of}
use lib.Seq.{take-add, take-append-le}

-- the first n bytes of ys, put into xs from a place on, follow what stands before that place
pub joined : (at k n : ℕ) (xs ys : List ℕ) → at ≤ length xs → n ≤ length ys → take at xs ++ take n ys ≡ take (at + n) (put_mid at k xs ys)
joined at k n xs ys within fits =
    let after = post_of at k xs in
    let front : take at (put_mid at k xs ys) ≡ take at xs = take-put_mid_below _ _ _ _ _ (le_refl _) within in
    let part = ap (take n) (drop_at (take at xs) (ys ++ after) at (length-take-le at xs within)) ∙ take-append-le n ys after fits in
    ap (λ l. l ++ take n ys) (sym front) ∙ ap (λ l. take at (put_mid at k xs ys) ++ l) (sym part) ∙ sym (take-add at n (put_mid at k xs ys))
