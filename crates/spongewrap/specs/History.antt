-- Histories: any mixture of calls from an opened session, the pairs that were accepted, the padded blocks that these come to,
-- and one plain sponge over those blocks (demand 3; document 01, "SpongeWrap").
use Rattle.std.specs.Prelude.{ℕ, ◌+◌, ◌-◌, ◌<◌, ◌≡◌, List, [], ◌∷◌, ◌++◌, length, take, drop, replicate}
use Rattle.refusal.specs.Rows.{by}
use Rattle.sponge.specs.Bytes.{bytes}
use Rattle.sponge.specs.Pieces.{piece}
use Rattle.sponge.specs.Sponge.{sponge}
use Rattle.duplex.specs.Duplex.{framed}
use Rattle.duplex.specs.Strings.{blocks, front, cut, xored}
use Rattle.spongewrap.specs.Sessions.{cost, Seen, wraps, unwraps}
use Rattle.spongewrap.specs.Kinds.{Kind}
use Rattle.spongewrap.specs.declared.Session.{Session}

-- ---- the calls

pub data Call : Type 0 where
  wrapping : (header body out : List ℕ) → Call
  unwrapping : (header cipher tag out : List ℕ) → Call

unfoldable pub answered : Kind → Session → Call → Seen
answered K s (wrapping h b o) = wraps K s h b o
answered K s (unwrapping h c t o) = unwraps K s h c t o

-- a pair as it went over: the body is the plaintext
pub record SealedPair : Type 0 where
  pub header : List ℕ
  pub body : List ℕ
  pub cipher : List ℕ
  pub tag : List ℕ

-- of a call that left x in its output, with a tag of t bytes
unfoldable pub pair_with : ℕ → Call → List ℕ → SealedPair
pair_with t (wrapping h b o) x = record { header = h; body = b; cipher = take (length b) x; tag = take t (drop (length b) x) }
pair_with t (unwrapping h c u o) x = record { header = h; body = take (length c) x; cipher = c; tag = u }

-- what a call on the session s was handed and, at the front of its output, what it gave
abbrev pub pair_of : Kind → Session → Call → SealedPair
pair_of K s c = pair_with s.tag c (answered K s c).out

-- what the two ends of a pair have in common
abbrev pub content : SealedPair → List ℕ × List ℕ
content p = (p.header, p.body)

-- ---- a run of calls, each given the session that the last one handed back

unfoldable pub after_calls : Kind → Session → List Call → Session
after_calls K s [] = s
after_calls K s (c ∷ cs) = after_calls K (answered K s c).answer.session cs

-- the pairs that were accepted
unfoldable pub accepted_pairs : Kind → Session → List Call → List SealedPair
accepted_pairs K s [] = []
accepted_pairs K s (c ∷ cs) = by (answered K s c).answer.number [] (pair_of K s c ∷ []) ++ accepted_pairs K (answered K s c).answer.session cs

-- ---- the padded blocks of a key and of pairs with tags of t bytes

unfoldable pub blanks : ℕ → ℕ → List (List ℕ)
blanks R k = replicate k (framed R 0 [])

-- a header's, a body's, and those that a tag takes past its first
unfoldable pub pair_blocks : ℕ → ℕ → SealedPair → List (List ℕ)
pair_blocks R t p = cut R 0 1 p.header ++ cut R 1 0 p.body ++ blanks R (blocks R t - 1)

unfoldable pub pairs_blocks : ℕ → ℕ → List SealedPair → List (List ℕ)
pairs_blocks R t [] = []
pairs_blocks R t (p ∷ ps) = pair_blocks R t p ++ pairs_blocks R t ps

unfoldable pub history : ℕ → ℕ → List ℕ → List SealedPair → List (List ℕ)
history R t key ps = cut R 1 0 key ++ pairs_blocks R t ps

-- how many they are, by the lengths of the strings
unfoldable pub pairs_cost : ℕ → ℕ → List SealedPair → ℕ
pairs_cost R t [] = 0
pairs_cost R t (p ∷ ps) = cost R t (length p.header) (length p.body) + pairs_cost R t ps

-- every block has R bytes
unfoldable pub WholeBlocks : ℕ → List (List ℕ) → Type 0
WholeBlocks R [] = Unit {0}
WholeBlocks R (b ∷ B) = (length b ≡ R) × WholeBlocks R B

-- ---- what went over in a pair, where the plain sponge had absorbed the blocks B

-- the sponge's output at a point
abbrev pub output : ℕ → (List ℕ → List ℕ) → List (List ℕ) → List ℕ
output w f B = bytes w (sponge w f B)

pub record Output (w : ℕ) (f : List ℕ → List ℕ) (R t : ℕ) (B : List (List ℕ)) (p : SealedPair) : Type 0 where
  -- no byte of either is without its piece
  pub cipher_length : length p.cipher ≡ length p.body
  pub tag_length : length p.tag ≡ t
  -- each keystream piece, which turns a piece of the body into one of the ciphertext, is the output at its point
  pub keystream : (k : ℕ) → k < blocks R (length p.body)
      → piece (R - 1) p.cipher k ≡ xored (piece (R - 1) p.body k) (output w f (B ++ cut R 0 1 p.header ++ front R 1 p.body k))
  -- each tag piece is the first bytes of the output at its point
  pub tag : (k : ℕ) → k < blocks R (length p.tag)
      → piece (R - 1) p.tag k ≡ take (length (piece (R - 1) p.tag k)) (output w f (B ++ cut R 0 1 p.header ++ cut R 1 0 p.body ++ blanks R k))

-- ---- demand 3, of a session that stands where a key was absorbed and the pairs ps were accepted

pub record Tells (K : Kind) (R t : ℕ) (key : List ℕ) (ps : List SealedPair) (s : Session) : Type 0 where
  -- the settings stay as they were opened
  pub rate : s.rate ≡ R
  pub tag : s.tag ≡ t
  pub pairs : s.pairs ≡ length ps
  -- the count is the blocks of the key and of each accepted pair
  pub count : s.calls ≡ blocks R (length key) + pairs_cost R t ps
  -- exactly that many padded blocks of R bytes are read off the history
  pub blocks_number : length (history R t key ps) ≡ s.calls
  pub blocks_whole : WholeBlocks R (history R t key ps)
  -- absorbed by the plain sponge they leave the session's lanes
  pub state : s.lanes ≡ sponge K.w K.f (history R t key ps)
  -- whatever went over in any of the pairs is that sponge's output, after the blocks of the pairs before it
  pub outputs : (before rest : List SealedPair) (p : SealedPair) → ps ≡ before ++ p ∷ rest → Output K.w K.f R t (history R t key before) p
