-- Functions that no contract lets through (document 01, "How much each contract must say"): one input, or two, shut each dud out.
-- A dud is a function of what the code can be handed (Inputs), and what it does wrong is said of those inputs only.
use Prim.Native.Nat.{ℕ, ◌<◌}
use native.Mathlib.Omega.{arith}
use mathlib.Core.Path.{◌≡◌, refl, sym, ap, ◌∙◌}
use mathlib.Core.List.{List, [], ◌∷◌}
use lib.Dec.{lit<}
use lib.ListN.{length, get_or, take, drop}
use Rattle.keccak.specs.Rounds.{f1600}
use Rattle.sponge.specs.Pieces.{before}
use Rattle.sponge.specs.Sponge.{iterate}
use Rattle.duplex.specs.Duplex.{state_after}
use Rattle.duplex.specs.Strings.{blocks, absorbed}
use Rattle.spongewrap.specs.Desk.{desk}
use Rattle.spongewrap.specs.SpongeWrap.{headed}
use Rattle.refusal.specs.Rows.{pick}
use Rattle.spongewrap.specs.Refusals.{open_refusal, wrap_refusal, unwrap_refusal}
use Rattle.spongewrap.specs.Sessions.{Answer, opens, cost, advanced, next, sealing, tag_of, recovered, Seen, wraps, unwraps}
use Rattle.spongewrap.specs.declared.Session.{Session}
use Rattle.spongewrap.proofs.Theorems.{wrap_number, unwrap_number, wrapped_is, unwrapped_is, unwrap_accepts_exactly, wrong_tag_releases_nothing, text_is, mark_is}
use Rattle.spongewrap.proofs.Passed.{unwrap_fits}
use Rattle.spongewrap.proofs.Settle.{length-tag_of}
use Rattle.examples.proofs.Inputs.{Bytes, Opening, Wrapping, Unwrapping, wrapping_under, unwrapping_under, blanks, single, plain, good, bad, room, wrapping_zeros, empty, wrapping_byte, unwrapping_byte}
use Rattle.examples.proofs.Values.{after_header, after_body, after_pair, no_header, no_body, next_state, first_byte, first_opened, no_cipher, due, due_bytes, tag_zero, tag_one}

-- ---- open

module _ (g : Opening → Answer) (meets : (i : Opening) → g i ≡ opens desk i.key i.rate i.tag) where
  opens_well : (g good).number ≡ 0
  unfolding good opens open_refusal pick
  opens_well = rw meets

  -- An open that refuses everything.
  pub open_refuses_all : ((i : Opening) → (g i).number ≡ 0 → ⊥) → ⊥
  open_refuses_all d = d good opens_well

  -- An open with a fixed number.
  pub open_fixed : (v : ℕ) → ((i : Opening) → (g i).number ≡ v) → ⊥
  unfolding bad opens open_refusal pick
  open_fixed v d =
      let z : ◌≡◌ {A = ℕ} 0 1 = sym opens_well ∙ d good ∙ sym (d bad) ∙ rw meets in
      omega arith

-- ---- wrap

-- no row of the table refuses it
abbrev Taken : Wrapping → Type 0
Taken i = wrap_refusal desk i.session (length i.header) (length i.body) (length i.out) ≡ 0

empty_taken : Taken empty
unfolding empty wrapping_zeros plain room wrap_refusal pick
empty_taken = refl

-- the ciphertext and the tag that a wrap left in its output o
abbrev pub text : Wrapping → List ℕ → List ℕ
text i o = take (length i.body) o

abbrev pub mark : Wrapping → List ℕ → List ℕ
mark i o = take i.session.tag (drop (length i.body) o)

module _ (g : Wrapping → Seen) (meets : (i : Wrapping) → g i ≡ wraps desk i.session i.header i.body i.out) where
  module _ (i : Wrapping) (e : Taken i) where
    wraps_well : (wraps desk i.session i.header i.body i.out).answer.number ≡ 0
    wraps_well = wrap_number desk i.session i.header i.body i.out ∙ e

    well : (g i).answer.number ≡ 0
    well = rw meets wraps_well

    session : (g i).answer.session ≡ next desk i.session i.header i.body
    session = rw meets (ap (λ (v : Seen). v.answer.session) (wrapped_is desk i.session i.header i.body i.out wraps_well))

    text_sealed : text i (g i).out ≡ sealing desk i.session i.header i.body
    text_sealed = rw meets (text_is desk i.session i.header i.body i.out wraps_well)

    mark_due : mark i (g i).out ≡ tag_of desk i.session i.header i.body
    mark_due = rw meets (mark_is desk i.session i.header i.body i.out wraps_well)

  empty_well : (g empty).answer.number ≡ 0
  empty_well = well empty empty_taken

  -- A wrap that refuses everything.
  pub wrap_refuses_all : ((i : Wrapping) → (g i).answer.number ≡ 0 → ⊥) → ⊥
  wrap_refuses_all d = d empty empty_well

  -- A wrap with a fixed number.
  pub wrap_fixed : (v : ℕ) → ((i : Wrapping) → (g i).answer.number ≡ v) → ⊥
  unfolding empty wrapping_zeros plain wrap_refusal pick
  wrap_fixed v d =
      let i = wrapping_zeros 0 0 (lit< tt) (lit< tt) in
      let z : ◌≡◌ {A = ℕ} 0 1 = sym empty_well ∙ d empty ∙ sym (d i) ∙ rw meets (wrap_number desk (plain 0 0) [] [] room) in
      omega arith

  -- A wrap that does nothing: it gives back the session that it took.
  pub wrap_does_nothing : ((i : Wrapping) → (g i).answer.number ≡ 0 → (g i).answer.session ≡ i.session) → ⊥
  unfolding empty wrapping_zeros plain next advanced
  wrap_does_nothing d =
      let z : ◌≡◌ {A = ℕ} 2 1 = ap (λ (s : Session). s.pairs) (sym (session empty empty_taken) ∙ d empty empty_well) in
      omega arith

  -- A wrap that copies the body to the ciphertext.
  pub wrap_copies_body : ((i : Wrapping) → (g i).answer.number ≡ 0 → text i (g i).out ≡ i.body) → ⊥
  unfolding wrapping_zeros plain room wrap_refusal pick
  wrap_copies_body d =
      let i = wrapping_zeros 136 1 (lit< tt) (lit< tt) in
      let z : ◌≡◌ {A = ℕ} 0x1f 0 = sym first_byte ∙ ap (λ (l : List ℕ). get_or l 0 0) (sym (text_sealed i refl) ∙ d i (well i refl)) in
      omega arith

  -- the lanes that it leaves
  lanes_are : (l : List ℕ) → (g empty).answer.session.lanes ≡ l → after_pair ≡ l
  unfolding empty wrapping_zeros
  lanes_are l e = sym (ap (λ (s : Session). s.lanes) (session empty empty_taken) ∙ next_state) ∙ e

  -- A wrap that mixes only the first pair into the state, whatever tags it gives to later ones.
  pub wrap_mixes_first_only : ((i : Wrapping) → 0 < i.session.pairs → (g i).answer.number ≡ 0 → (g i).answer.session.lanes ≡ i.session.lanes) → ⊥
  unfolding empty wrapping_zeros plain after_pair
  wrap_mixes_first_only d =
      let z : ◌≡◌ {A = ℕ} 0xc026b87a93e8a9ee 0 = ap (λ (l : List ℕ). get_or l 0 0) (lanes_are _ (d empty (lit< tt) empty_well)) in
      omega arith

  -- A wrap that skips the duplexing of an empty header: the body goes on from the session's own lanes.
  pub wrap_skips_empty_header : ((i : Wrapping) → i.header ≡ [] → (g i).answer.number ≡ 0
      → (g i).answer.session.lanes ≡ state_after 64 f1600 i.session.rate (absorbed 64 f1600 i.session.rate i.session.lanes 1 0 i.body) i.session.tag) → ⊥
  unfolding empty wrapping_zeros plain state_after iterate before after_pair after_body
  wrap_skips_empty_header d =
      let z : ◌≡◌ {A = ℕ} 0xc026b87a93e8a9ee 0xf4ef9e9955cbe5c3 = ap (λ (l : List ℕ). get_or l 0 0) (lanes_are _ (d empty refl empty_well) ∙ no_body) in
      omega arith

  -- A wrap that skips the duplexing of an empty body: the tag comes from the lanes that the header left.
  pub wrap_skips_empty_body : ((i : Wrapping) → i.body ≡ [] → (g i).answer.number ≡ 0
      → (g i).answer.session.lanes ≡ state_after 64 f1600 i.session.rate (headed 64 f1600 i.session.rate i.session.lanes i.header) i.session.tag) → ⊥
  unfolding empty wrapping_zeros plain state_after iterate before after_pair after_header
  wrap_skips_empty_body d =
      let z : ◌≡◌ {A = ℕ} 0xc026b87a93e8a9ee 0x4aff58b51d129e1f = ap (λ (l : List ℕ). get_or l 0 0) (lanes_are _ (d empty refl empty_well) ∙ no_header) in
      omega arith

  -- A wrap with an invented count: one that does not go by what is wrapped.
  pub wrap_invents_count : (count : Session → ℕ) → ((i : Wrapping) → (g i).answer.number ≡ 0 → (g i).answer.session.calls ≡ count i.session) → ⊥
  unfolding empty wrapping_zeros plain room wrap_refusal pick next advanced cost blocks before
  wrap_invents_count count d =
      let i = wrapping_zeros 136 136 (lit< tt) (lit< tt) in
      let n : (i : Wrapping) → Taken i → (next desk i.session i.header i.body).calls ≡ count i.session =
      λ i e. sym (ap (λ (s : Session). s.calls) (session i e)) ∙ d i (well i e) in
      let z : ◌≡◌ {A = ℕ} 3 4 = n empty empty_taken ∙ sym (n i refl) in
      omega arith

  -- A wrap whose tag leaves the header out: it is the same under any header of that length that leaves the ciphertext as it is.
  pub wrap_leaves_header_out : ((i : Wrapping) (h : List ℕ) (p : Bytes h) → length h ≡ length i.header
      → (g i).answer.number ≡ 0 → (g (wrapping_under h p i)).answer.number ≡ 0 → text i (g i).out ≡ text i (g (wrapping_under h p i)).out
      → mark i (g i).out ≡ mark i (g (wrapping_under h p i)).out) → ⊥
  unfolding wrapping_byte plain room wrap_refusal pick due
  wrap_leaves_header_out d =
      let i = wrapping_byte in
      let p = single 1 (lit< tt) in
      let j = wrapping_under (1 ∷ []) p i in
      let e = d i (1 ∷ []) p refl (well i refl) (well j refl) refl in
      let z : ◌≡◌ {A = ℕ} 0xee 0xdf = ap (λ (l : List ℕ). get_or l 0 0) (sym (mark_due i refl ∙ tag_zero) ∙ e ∙ mark_due j refl) ∙ tag_one in
      omega arith

-- ---- unwrap

-- the tag of an empty body
unwrapping_due : Unwrapping
unwrapping_due = unwrapping_byte 136 [] due (lit< tt) (blanks 0 (lit< tt)) due_bytes

module _ (g : Unwrapping → Seen) (meets : (i : Unwrapping) → g i ≡ unwraps desk i.session i.header i.cipher i.tag i.out) where
  unwraps_well : (unwraps desk (plain 0x303 136) (0 ∷ []) [] due []).answer.number ≡ 0
  unfolding plain pick
  unwraps_well = (unwrap_accepts_exactly desk (plain 0x303 136) (0 ∷ []) [] due [] refl).1 (rw no_cipher (sym tag_zero))

  due_well : (g unwrapping_due).answer.number ≡ 0
  unfolding unwrapping_due unwrapping_byte
  due_well = rw meets unwraps_well

  -- An unwrap that refuses everything.
  pub unwrap_refuses_all : ((i : Unwrapping) → (g i).answer.number ≡ 0 → ⊥) → ⊥
  unwrap_refuses_all d = d unwrapping_due due_well

  -- An unwrap with a fixed number.
  pub unwrap_fixed : (v : ℕ) → ((i : Unwrapping) → (g i).answer.number ≡ v) → ⊥
  unfolding unwrapping_byte plain unwrap_refusal pick
  unwrap_fixed v d =
      let i = unwrapping_byte 0 [] [] (lit< tt) (blanks 0 (lit< tt)) (blanks 0 (lit< tt)) in
      let z : ◌≡◌ {A = ℕ} 0 1 = sym due_well ∙ d unwrapping_due ∙ sym (d i) ∙ rw meets (unwrap_number desk (plain 0x303 0) (0 ∷ []) [] [] []) in
      omega arith

  -- An unwrap that does nothing: it gives back the session that it took.
  pub unwrap_does_nothing : ((i : Unwrapping) → (g i).answer.number ≡ 0 → (g i).answer.session ≡ i.session) → ⊥
  unfolding unwrapping_due unwrapping_byte plain next advanced
  unwrap_does_nothing d =
      let e : (unwraps desk (plain 0x303 136) (0 ∷ []) [] due []).answer.session ≡ plain 0x303 136 = rw meets at (d unwrapping_due due_well) in
      let z : ◌≡◌ {A = ℕ} 2 1 = ap (λ (s : Session). s.pairs) (sym (ap (λ (v : Seen). v.answer.session) (unwrapped_is desk (plain 0x303 136) (0 ∷ []) [] due [] unwraps_well)) ∙ e) in
      omega arith

  -- An unwrap that writes the plaintext and then checks the tag.
  pub unwrap_writes_early : ((i : Unwrapping) → (g i).answer.number ≡ 8
      → take (length i.cipher) (g i).out ≡ recovered desk i.session i.header i.cipher) → ⊥
  unfolding unwrapping_byte plain pick
  unwrap_writes_early d =
      let s = plain 0x303 136 in
      let x : List ℕ = 0 ∷ [] in
      let i = unwrapping_byte 136 x [] (lit< tt) (single 0 (lit< tt)) (blanks 0 (lit< tt)) in
      let r = (unwrap_fits desk s 1 1 1 refl).0.rate in
      let other : [] ≡ tag_of desk s x (recovered desk s x x) → ⊥ = λ e. omega (arith, ap length e, length-tag_of desk s x (recovered desk s x x) r) in
      let n = meets i ∙ wrong_tag_releases_nothing desk s x x [] x refl other in
      let z : ◌≡◌ {A = ℕ} 0 0x1f =
      ap (λ (l : List ℕ). get_or l 0 0) (sym (ap (λ (v : Seen). take 1 v.out) n) ∙ d i (ap (λ (v : Seen). v.answer.number) n)) ∙ first_opened in
      omega arith

  -- An unwrap that opens under another member's header: what is accepted under one is accepted under any of that length.
  pub unwrap_opens_under_other : ((i : Unwrapping) (h : List ℕ) (p : Bytes h) → length h ≡ length i.header
      → (g i).answer.number ≡ 0 → (g (unwrapping_under h p i)).answer.number ≡ 0) → ⊥
  unfolding unwrapping_due unwrapping_byte plain pick due
  unwrap_opens_under_other d =
      let e : (unwraps desk (plain 0x303 136) (1 ∷ []) [] due []).answer.number ≡ 0 = rw meets at (d unwrapping_due (1 ∷ []) (single 1 (lit< tt)) refl due_well) in
      let t : due ≡ tag_of desk (plain 0x303 136) (1 ∷ []) [] = rw no_cipher at ((unwrap_accepts_exactly desk (plain 0x303 136) (1 ∷ []) [] due [] refl).0 e) in
      let z : ◌≡◌ {A = ℕ} 0xee 0xdf = ap (λ (l : List ℕ). get_or l 0 0) t ∙ tag_one in
      omega arith
