-- The permutation's own values that tell the duds from the contract, computed from the definitions. Every first block below leads to one of
-- the same two states, so that four permutations are enough.
use Prim.Native.Nat.{ℕ, ◌^◌}
use native.Mathlib.Omega.{arith}
use mathlib.Core.Path.{◌≡◌, refl, ap, ◌∙◌}
use mathlib.Core.List.{List, [], ◌∷◌, ◌++◌}
use lib.ListN.{get_or, take, replicate}
use Rattle.keccak.specs.Rounds.{round, rounds, f1600}
use Rattle.sponge.specs.Table.{table}
use Rattle.sponge.specs.Bytes.{lane_of, mixed, byte_of, bytes}
use Rattle.sponge.specs.Pieces.{piece, blocks_of, before}
use Rattle.sponge.specs.Padding.{tail, padded}
use Rattle.sponge.specs.Sponge.{absorb_block, absorb, iterate, stream, squeeze}
use Rattle.duplex.specs.Duplex.{framed, drawn, state_after}
use Rattle.duplex.specs.Strings.{blocks, front, cut, xored, absorbed, masked, sealed, unmasked, opened}
use Rattle.spongewrap.specs.Desk.{desk}
use Rattle.spongewrap.specs.SpongeWrap.{headed, bodied, ciphertext, tagged, left, plaintext}
use Rattle.spongewrap.specs.Sessions.{advanced, next, sealing, tag_of, recovered}
use Rattle.examples.proofs.Inputs.{Bytes, plain}

-- ---- the permutations

-- what a first block makes of the state before it is permuted: the first lane is x, and the padding's last bit is set
loaded : ℕ → List ℕ
loaded x = x ∷ replicate 15 0 ++ (2 ^ 63 ∷ replicate 8 0)

-- the state of zeros after the block of an empty header
unfoldable pub after_header : List ℕ
after_header =
    0x4aff58b51d129e1f ∷ 0xa97ab4486ed01161 ∷ 0x86c597232268c9e8 ∷ 0xe4cc5b2ac827d67e ∷ 0x22910cb07798221c
    ∷ 0xb8bd5d7b5ce33cdc ∷ 0x964355839b1bfe99 ∷ 0x19ae555155ef06c5 ∷ 0x66c0cdabaa260b48 ∷ 0x2249e0829f5f284c
    ∷ 0x3ecfb6ea62b13a8e ∷ 0x14ce28fe710c23e2 ∷ 0x20fc6819a7166ccf ∷ 0xa2b91c80eea08d7a ∷ 0x78b9b01e336bd328
    ∷ 0x500a0ea5d191c0c ∷ 0x2c8e1e36d1fe7189 ∷ 0x14038b9b4c82e84 ∷ 0x2dd70da92496379 ∷ 0xf5fd9b3bdaf700f6
    ∷ 0xb8676c43a0a5f3d4 ∷ 0x57eb2c5e3e28c9ca ∷ 0x65946b420b1ab1ec ∷ 0xf61914edf0483f0a ∷ 0x6874f8331879c99a ∷ []

permuted_three : f1600 (loaded 3) ≡ after_header
unfolding loaded after_header rounds round
permuted_three = refl

-- and after the block of an empty body
unfoldable pub after_body : List ℕ
after_body =
    0xf4ef9e9955cbe5c3 ∷ 0x2d5877ecff7e7be0 ∷ 0xa868c24fa9115a0a ∷ 0xe192392799304972 ∷ 0x6afd2ea91a7d3ed7
    ∷ 0x51fb52f003b7b3fc ∷ 0xcb2b42eb58a0756c ∷ 0xe29c3c8c1fe1018e ∷ 0xfa5aba7700e20842 ∷ 0x3cbf7a2ee795eb82
    ∷ 0x7c7b86832cb58a2c ∷ 0xa0f175a95dff7b4e ∷ 0x34142f10296cfa3 ∷ 0x15b8fe0ae3dcd035 ∷ 0xeb80d31f0db47034
    ∷ 0xc92c1688e73885dc ∷ 0x338ec334ea6590fb ∷ 0x5d07f8b9f4ea7af7 ∷ 0x107148205aec8ff2 ∷ 0xced088189a76fa43
    ∷ 0xbb56ef1103d2ad7d ∷ 0x8f5e5a5a2746c45d ∷ 0x349a4d59e81316ff ∷ 0x8c1e3412e701fdc5 ∷ 0xdd4c08f91571df54 ∷ []

permuted_two : f1600 (loaded 2) ≡ after_body
unfolding loaded after_body rounds round
permuted_two = refl

-- and after both, an empty pair
unfoldable pub after_pair : List ℕ
after_pair =
    0xc026b87a93e8a9ee ∷ 0xc640f3a0d18563ce ∷ 0x63693cc384dc8738 ∷ 0x180e9a3265a7bad8 ∷ 0x47968183ca41bc1b
    ∷ 0x753c991419d231f ∷ 0x4a86cef347df5ff ∷ 0x719d7508b0699040 ∷ 0x6c04772a33efb1cb ∷ 0x5a8f9c406c0631fd
    ∷ 0xfc9f1360cafae11d ∷ 0xef852cdb969744ef ∷ 0x8ecf9081594b4708 ∷ 0xb055d22867102fa ∷ 0x9bd75302eef3d4b3
    ∷ 0x7292a5f90d1b3333 ∷ 0xcbe06d6012234508 ∷ 0x65f0e7fa3febc601 ∷ 0x64ee47fa3fdb16c9 ∷ 0x9d1a2e1b9bfd5e54
    ∷ 0xb8d06797dee5259c ∷ 0x2b6f4498a26dbab2 ∷ 0x758e555debb376e ∷ 0x2ab645fec6058910 ∷ 0x59975f2a6fca47c4 ∷ []

pair_state : absorbed 64 f1600 136 after_header 1 0 [] ≡ after_pair
unfolding absorbed cut front framed blocks_of piece before padded tail absorb absorb_block mixed lane_of table after_header after_pair rounds round
pair_state = refl

-- the first lane after one more empty body
more_lane : get_or (absorbed 64 f1600 136 after_body 1 0 []) 0 0 ≡ 0xb7473e99ead50edf
unfolding absorbed cut front framed blocks_of piece before padded tail absorb absorb_block mixed lane_of table after_body rounds round
more_lane = refl

-- ---- the states of two sessions

-- A header of one byte has its frame, 3, in its block's second byte. So in `plain 0x303` the header 0 leaves 3 of the first lane, as an empty header
-- does in `plain 0`, and the header 1 leaves 2, as an empty body does there.
pub no_header : headed 64 f1600 136 (plain 0 136).lanes [] ≡ after_header
unfolding plain loaded headed absorbed cut front framed blocks_of piece before padded tail absorb absorb_block mixed lane_of table
no_header = permuted_three

pub header_zero : headed 64 f1600 136 (plain 0x303 136).lanes (0 ∷ []) ≡ after_header
unfolding plain loaded headed absorbed cut front framed blocks_of piece before padded tail absorb absorb_block mixed lane_of table
header_zero = permuted_three

pub header_one : headed 64 f1600 136 (plain 0x303 136).lanes (1 ∷ []) ≡ after_body
unfolding plain loaded headed absorbed cut front framed blocks_of piece before padded tail absorb absorb_block mixed lane_of table
header_one = permuted_two

pub no_body : absorbed 64 f1600 136 (plain 0 136).lanes 1 0 [] ≡ after_body
unfolding plain loaded absorbed cut front framed blocks_of piece before padded tail absorb absorb_block mixed lane_of table
no_body = permuted_two

pub next_state : (next desk (plain 0 136) [] []).lanes ≡ after_pair
unfolding plain next advanced left state_after iterate before bodied
next_state = rw no_header pair_state

-- ---- first bytes: of the ciphertext of 0, and of what the ciphertext 0 opens to

pub first_byte : get_or (sealing desk (plain 0 136) [] (0 ∷ [])) 0 0 ≡ 0x1f
unfolding plain sealing ciphertext sealed masked front blocks_of blocks piece before absorb xored table bytes byte_of after_header
first_byte = rw no_header refl

pub first_opened : get_or (recovered desk (plain 0x303 136) (0 ∷ []) (0 ∷ [])) 0 0 ≡ 0x1f
unfolding plain recovered plaintext opened unmasked front blocks_of blocks piece before absorb xored table bytes byte_of after_header
first_opened = rw header_zero refl

-- ---- tags of pairs with an empty body

pub no_cipher : (x : ℕ) (h : List ℕ) → recovered desk (plain x 136) h [] ≡ []
unfolding plain recovered plaintext opened unmasked blocks piece before xored table
no_cipher x h = refl

tag_from : (x : ℕ) (h a : List ℕ) → headed 64 f1600 136 (plain x 136).lanes h ≡ a
    → tag_of desk (plain x 136) h [] ≡ take 16 (bytes 64 (absorbed 64 f1600 136 a 1 0 []))
unfolding plain tag_of tagged bodied drawn squeeze stream iterate before bytes table
tag_from x h a e = rw e

-- under the header 0
unfoldable pub due : List ℕ
due = 0xee ∷ 0xa9 ∷ 0xe8 ∷ 0x93 ∷ 0x7a ∷ 0xb8 ∷ 0x26 ∷ 0xc0 ∷ 0xce ∷ 0x63 ∷ 0x85 ∷ 0xd1 ∷ 0xa0 ∷ 0xf3 ∷ 0x40 ∷ 0xc6 ∷ []

pub due_bytes : Bytes due
unfolding due
due_bytes = omega arith

pub tag_zero : tag_of desk (plain 0x303 136) (0 ∷ []) [] ≡ due
unfolding due after_pair bytes byte_of table
tag_zero = tag_from 0x303 (0 ∷ []) after_header header_zero ∙ rw pair_state refl

-- and under the header 1: the first byte is another
pub tag_one : get_or (tag_of desk (plain 0x303 136) (1 ∷ []) []) 0 0 ≡ 0xdf
unfolding bytes byte_of table
tag_one = ap (λ (l : List ℕ). get_or l 0 0) (tag_from 0x303 (1 ∷ []) after_body header_one) ∙ rw more_lane refl
