-- A session and its image are one-to-one, both ways: the state, and field by field the numbers behind it.
use mathlib.Core.Path.{◌≡◌, refl, sym, ap, ◌∙◌}
use mathlib.Core.List.{List, [], ◌∷◌, ◌++◌, map, append_assoc, append-nil}
use Prim.Native.Nat.{ℕ, ◌+◌, ◌/◌, ◌^◌, ◌<◌}
use native.Mathlib.Nat.{zero-lt-suc, add_assoc}
use native.Mathlib.Omega.{arith}
use lib.ListN.{length, take, drop, length-append, length-drop, take-append-drop, drop_of_length-le}
use lib.Seq.{sets, sets-eq, take_at, drop-drop, take_all, length-take-le}
use Rattle.keccak.proofs.States.{State}
use Rattle.sponge.specs.Table.{table}
use Rattle.sponge.specs.Bytes.{bytes, lane_of}
use Rattle.sponge.proofs.Table.{table_ext}
use Rattle.sponge.proofs.Lanes.{bytes_of_lanes, lanes_of_bytes, lane_front}
use Rattle.sponge.proofs.Squeeze.{length-bytes}
use Rattle.fields.specs.Numbers.{number_at, bytes_of}
use Rattle.fields.proofs.Numbers.{length-bytes_of, bytes_number, number_bytes}
use Rattle.fields.proofs.Stores.{sets-append}
use Rattle.spongewrap.specs.declared.Session.{Session}
use Rattle.spongewrap.proofs.ComesBack.{copied}
use Rattle.image.specs.Image.{image_length, fields_of, field_bytes, image_of, session_of}
use Rattle.image.proofs.Bounds.{Below, below_take}

-- ---- fields, a width and a value each, one behind the other

-- how many bytes they have
abbrev pub total : List (ℕ × ℕ) → ℕ
total [] = 0
total (f ∷ fs) = f.0 + total fs

-- fields of these widths read from a place on; and these stored there
abbrev read_at : List ℕ → ℕ → List (ℕ × ℕ) → List (ℕ × ℕ)
read_at b at [] = []
read_at b at (f ∷ fs) = (f.0, number_at f.0 b at) ∷ read_at b (at + f.0) fs

abbrev pub stored_at : List ℕ → ℕ → List (ℕ × ℕ) → List ℕ
stored_at d at [] = d
stored_at d at (f ∷ fs) = stored_at (sets d at (bytes_of f.0 f.1)) (at + f.0) fs

-- each value fits its bytes
unfoldable pub Within : List (ℕ × ℕ) → Type 0
Within [] = Unit {0}
Within (f ∷ fs) = (f.1 < 256 ^ f.0) × Within fs

length_fields : (fs : List (ℕ × ℕ)) → length (field_bytes fs) ≡ total fs
unfolding field_bytes
length_fields [] = refl
length_fields (f ∷ fs) = rw (length-append, length-bytes_of, length_fields fs)

stored_fields : (d : List ℕ) (at : ℕ) (fs : List (ℕ × ℕ)) → stored_at d at fs ≡ sets d at (field_bytes fs)
unfolding field_bytes
stored_fields d at [] = refl
stored_fields d at (f ∷ fs) =
    let B : List ℕ = bytes_of f.0 f.1 in
    stored_fields (sets d at B) (at + f.0) fs
    ∙ sets-append d at B (field_bytes fs) (at + f.0) (ap (λ (n : ℕ). at + n) (sym (length-bytes_of f.0 f.1)))

-- fields stored behind a front, up to the buffer's end
pub stored : (x d r : List ℕ) (at : ℕ) (fs : List (ℕ × ℕ)) → length x ≡ at → length d ≡ total fs → r ≡ stored_at (x ++ d) at fs → r ≡ x ++ field_bytes fs
stored x d r at fs e l f =
    let n : length (x ++ d) ≡ at + length (field_bytes fs) = length-append x d ∙ rw (e, l, length_fields) in
    f ∙ stored_fields (x ++ d) at fs
    ∙ sets-eq (field_bytes fs) (x ++ d) at (omega arith)
    ∙ rw (drop_of_length-le (x ++ d) {i = at + length (field_bytes fs)} (omega arith), append-nil, take_at x d at e)

-- a state and then fields, which fill a buffer
pub laid : (a d x r : List ℕ) (fs : List (ℕ × ℕ)) → length d ≡ 200 + total fs → x ≡ take (length (take 200 d)) (bytes 64 a)
    → r ≡ stored_at (x ++ drop 200 d) 200 fs → r ≡ bytes 64 a ++ field_bytes fs
laid a d x r fs l e f =
    let k : length (take 200 d) ≡ 200 = length-take-le 200 d (omega arith) in
    let t : x ≡ bytes 64 a = e ∙ take_all (length (take 200 d)) (bytes 64 a) (omega (arith, length-bytes 64 a)) in
    stored x (drop 200 d) r 200 fs (ap length t ∙ length-bytes 64 a) (omega (arith, length-drop 200 d)) f ∙ ap (λ (y : List ℕ). y ++ field_bytes fs) t

-- reading what was written, and writing what was read
read_fields : (p : List ℕ) (at : ℕ) (fs : List (ℕ × ℕ)) → length p ≡ at → Within fs → read_at (p ++ field_bytes fs) at fs ≡ fs
unfolding field_bytes Within
read_fields p at [] e h = refl
read_fields p at (f ∷ fs) e h =
    let B : List ℕ = bytes_of f.0 f.1 in
    let n : length (p ++ B) ≡ at + f.0 = length-append p B ∙ rw (e, length-bytes_of) in
    let i = read_fields (p ++ B) (at + f.0) fs n h.1 in
    rw (number_bytes f.0 f.1 p (field_bytes fs) at h.0 e, rw append_assoc at i)

written_fields : (b : List ℕ) (at : ℕ) (fs : List (ℕ × ℕ)) → at + total fs ≡ length b → Below 256 b → field_bytes (read_at b at fs) ≡ drop at b
unfolding field_bytes
written_fields b at [] e h = sym (drop_of_length-le b {i = at} (omega arith))
written_fields b at (f ∷ fs) e h =
    rw (bytes_number f.0 b at (omega arith) h, written_fields b (at + f.0) fs (add_assoc at f.0 (total fs) ∙ e) h, ← drop-drop f.0 at b)
    (take-append-drop f.0 (drop at b))

-- ---- a session

-- what a session of the code is: 25 lanes of 64 bits, and numbers that their fields hold
pub record Held (s : Session) : Type 0 where
  pub lanes : State 64 s.lanes
  pub fields : Within (fields_of s)

-- sessions are equal by their lanes and their fields
alike : (s r : Session) → s.lanes ≡ r.lanes → fields_of s ≡ fields_of r → copied s ≡ copied r
alike s r e f = let v = ap (map (λ (x : ℕ × ℕ). x.1)) f in cc

room : 0 < 64 / 8
room = zero-lt-suc 7

-- it has the 200 bytes of the state and the total of the fields
pub length_image : (s : Session) → length (image_of s) ≡ image_length
unfolding image_of
length_image s = length-append (bytes 64 s.lanes) (field_bytes (fields_of s)) ∙ rw (length-bytes, length_fields)

-- the lanes are read from the first 200 bytes
front_lanes : (b : List ℕ) → table 25 (lane_of 64 b) ≡ table 25 (lane_of 64 (take 200 b))
front_lanes b = table_ext 25 _ _ (λ j k. sym (lane_front 64 room b 200 j (omega arith)))

-- a session is read again from its image
pub session_image : (s : Session) → Held s → session_of (image_of s) ≡ s
unfolding image_of session_of
session_image s h =
    let X : List ℕ = bytes 64 s.lanes in
    let x : length X ≡ 200 = length-bytes 64 s.lanes in
    let l : table 25 (lane_of 64 (X ++ field_bytes (fields_of s))) ≡ s.lanes =
    front_lanes (X ++ field_bytes (fields_of s)) ∙ ap (λ (y : List ℕ). table 25 (lane_of 64 y)) (take_at X (field_bytes (fields_of s)) 200 x)
    ∙ lanes_of_bytes 64 room s.lanes h.lanes.count h.lanes.below in
    alike (session_of (image_of s)) s l (read_fields X 200 (fields_of s) x h.fields)

-- and an image from its session
pub image_session : (b : List ℕ) → length b ≡ image_length → Below 256 b → image_of (session_of b) ≡ b
unfolding image_of session_of
image_session b l h =
    rw (front_lanes b, bytes_of_lanes 64 room (take 200 b) (length-take-le 200 b (omega arith)) (below_take 256 (zero-lt-suc 255) 200 b h), written_fields b 200 (fields_of (session_of b)) (sym l) h)
    (take-append-drop 200 b)
