-- Lines of a buffer, and a buffer that is refilled.
use Rattle.std.proofs.Common.{◌≡◌, ℕ, ◌+◌, ◌-◌, ◌≤◌, ◌<◌, Bool, true, false, List, [], ◌∷◌, ◌++◌, None, Some, length, take, drop, get_or, refl, sym, ap, ◌∙◌, arith}
use Rattle.std.specs.List.{copy_within, position_or_len}
use Rattle.std.proofs.lemmas.List.{take-take, drop-drop, drop-take, take_all, length-take, length-take-le, length-drop}
use Rattle.std.proofs.lemmas.List.Edits.{take-paste}
use borrow.Rule.Slice.PartMut.{put_mid}
use Rattle.reading.proofs.Joined.{joined}
use Rattle.std.proofs.lemmas.Option.{cond_some}
use Rattle.std.specs.Prelude.{slice_range, eqb}
use borrow.Author.Tests.{ltb-true}
use Rattle.refusal.specs.Rows.{pick}
use Rattle.vectors.proofs.Spelled.{equal}
use Rattle.vectors.specs.FirstLine.{newline, unreturned, first_line}

-- a line without its return is the front of it
front : (t : Bool) (l m : List ℕ) → m ≡ pick t (take (length l - 1) l) l → (length m ≤ length l) × (m ≡ take (length m) l)
unfolding pick
front true l m e =
    let p : length m ≡ length l - 1 = ap length e ∙ length-take-le (length l - 1) l (omega arith) in
    (omega (arith, p), e ∙ ap (λ (n : ℕ). take n l) (sym p))
front false l m e =
    let p : length m ≡ length l = ap length e in
    (omega (arith, p), e ∙ sym (take_all (length m) l (omega (arith, p))))

front_is : (l m : List ℕ) → m ≡ unreturned l → (length m ≤ length l) × (m ≡ take (length m) l)
unfolding unreturned
front_is l m e = front (eqb (get_or l (length l - 1) 0) 13) l m e

-- an empty line, one that ends in a return, and one that does not
pub unreturned_empty : (l : List ℕ) → length l < 1 → l ≡ unreturned l
unfolding unreturned pick
unreturned_empty [] p = refl
unreturned_empty (b ∷ l) p = absurd (omega arith)

pub unreturned_return : (l : List ℕ) → get_or l (length l - 1) 0 ≡ 13 → 1 ≤ length l → take (length l - 1) l ≡ unreturned l
unfolding unreturned
unreturned_return l e p = equal (get_or l (length l - 1) 0) 13 _ _ (take (length l - 1) l) (λ q. refl) (λ d. absurd (d e))

pub unreturned_other : (l : List ℕ) → (get_or l (length l - 1) 0 ≡ 13 → ⊥) → l ≡ unreturned l
unfolding unreturned
unreturned_other l d = equal (get_or l (length l - 1) 0) 13 _ _ l (λ e. absurd (d e)) (λ q. refl)

pub first_none : (b : List ℕ) → None ≡ newline b → first_line b ≡ None
unfolding first_line
first_none b e = rw (← e) refl

pub first_some : (b m : List ℕ) (at : ℕ) → Some at ≡ newline b → m ≡ unreturned (take at b)
    → (length m ≤ at + 1) × (at + 1 ≤ length b) × (first_line b ≡ Some (take (length m) b, drop (at + 1) b))
unfolding first_line
first_some b m at e p =
    let n : ℕ = position_or_len (λ x. eqb x 10) b in
    let t = cond_some _ n at (sym e) in
    let below : n < length b = ltb-true n (length b) t.0 in
    let f = front_is (take at b) m p in
    let q = length-take-le at b (omega arith) in
    let same : m ≡ take (length m) b = f.1 ∙ take-take (length m) at b (omega arith) in
    (omega arith, omega arith, rw (← e) (ap (λ (l : List ℕ). Some (l, drop (at + 1) b)) (sym p ∙ same)))

-- ---- the part of a buffer from s up to e

-- the first line taken out of it
pub part_taken : (b : List ℕ) (s e line whole : ℕ) → line ≤ whole → whole ≤ length (slice_range b s e)
    → first_line (slice_range b s e) ≡ Some (take line (slice_range b s e), drop whole (slice_range b s e))
    → first_line (slice_range b s e) ≡ Some (slice_range b s (s + line), slice_range b (s + whole) e)
part_taken b s e line whole p q h =
    let r : whole ≤ e - s = omega (arith, length-take (e - s) (drop s b)) in
    let front : take line (slice_range b s e) ≡ slice_range b s (s + line) =
    take-take line (e - s) (drop s b) (omega arith) ∙ ap (λ (n : ℕ). take n (drop s b)) (omega arith) in
    let rest : drop whole (slice_range b s e) ≡ slice_range b (s + whole) e =
    ap (λ (n : ℕ). drop whole (take n (drop s b))) (omega arith) ∙ drop-take whole (e - (s + whole)) (drop s b) ∙ ap (take (e - (s + whole))) (drop-drop whole s b) in
    h ∙ ap (λ (l : List ℕ). Some (l, drop whole (slice_range b s e))) front ∙ ap (λ (l : List ℕ). Some (slice_range b s (s + line), l)) rest

-- moved to the front, with more bytes read behind it
pub part_refilled : (b c more : List ℕ) (s e n : ℕ) → s ≤ e → e ≤ length b → c ≡ copy_within b s e 0 → length c ≡ length b → n ≤ length more
    → slice_range (put_mid (e - s) (length c - (e - s)) c more) 0 (e - s + n) ≡ slice_range b s e ++ take n more
part_refilled b c more s e n p q h l r =
    let k : ℕ = e - s in
    let kept : take k c ≡ slice_range b s e =
    ap (take k) h ∙ ap (λ (i : ℕ). take i (copy_within b s e 0)) (omega arith) ∙ take-paste b 0 (drop s b) k (omega arith) (omega (arith, length-drop s b)) in
    ap (λ (i : ℕ). take i (put_mid k (length c - k) c more)) (omega arith)
    ∙ sym (joined k (length c - k) n c more (omega arith) r)
    ∙ ap (λ (i : List ℕ). i ++ take n more) kept
