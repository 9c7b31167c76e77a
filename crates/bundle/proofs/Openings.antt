-- Opening an entry that is whole: what an unwrap of its parts gives, with the place.
use Prim.Native.Nat.{ℕ, ◌+◌, ◌-◌, ◌≤◌}
use native.Mathlib.Omega.{arith}
use mathlib.Core.Path.{◌≡◌, refl, sym, ap, ◌∙◌}
use mathlib.Core.List.{List, ◌++◌}
use lib.ListN.{length, get_or, take, drop, length-drop}
use lib.Seq.{length-take-le}
use mir.Syntax.{w8}
use mir.Val.{Fits}
use Rattle.std.specs.Prelude.{Ok, Err}
use Rattle.fields.proofs.Numbers.{number_two}
use Rattle.spongewrap.specs.Desk.{desk}
use Rattle.refusal.specs.Rows.{by, first}
use Rattle.refusal.specs.Numbers.{number_of}
use Rattle.refusal.specs.declared.Refusal.{Refusal}
use Rattle.refusal.proofs.Rows.{kept}
use Rattle.refusal.proofs.Numbers.{numbered_refusal}
use Rattle.spongewrap.specs.Sessions.{Answer as Unwrap, next, settled, unwraps, Seen as Unwrapped, seen as unwrap_seen}
use Rattle.spongewrap.specs.declared.Session.{Session}
use Rattle.bundle.specs.declared.Entry.{Entry}
use Rattle.bundle.specs.declared.NoEntry.{NoEntry}
use Rattle.bundle.specs.Format.{Version, header_length, body_length, header_at, cipher_at, next_at, WholeAt, entry_at}
use Rattle.bundle.specs.declared.Fault.{Fault}
use Rattle.bundle.specs.Answers.{own, fault_told, entry_told, refused_reply, seen}
use Rattle.bundle.specs.Opening.{last_rows, open_table, body_at, unwraps_at, opens_entry}
use Rattle.bundle.proofs.Tables.{stops_by, goes_on, fit, unwrap_rows, settle_stops, settle_by}
use Rattle.bundle.proofs.Entries.{whole_at, entry_bad}

-- the session is refused, or no entry is whole there
module _ (v : Version) (s : Session) (b : List ℕ) (place : ℕ) (o : List ℕ) where
  pub open_own : (r : Refusal) → number_of r ≡ first (own v s) → seen (refused_reply (record { fault = record { refusal = r; place = place }; session = s })) o ≡ opens_entry v s b place o
  unfolding opens_entry open_table
  open_own r e = settle_stops _ s _ o _ r place (stops_by r place _ e)

  pub open_bad : (x : NoEntry) (f : Fault) → 0 ≡ first (own v s) → Err x ≡ entry_at v b place → fault_told f ≡ entry_told (Err x) place
      → seen (refused_reply (record { fault = f; session = s })) o ≡ opens_entry v s b place o
  unfolding opens_entry open_table
  open_bad x f z e t = settle_stops _ s _ o _ f.refusal f.place (goes_on place z (entry_bad x _ place _ _ e t))

pub ruleset open_rules = (open_own, open_bad)

-- the parts that the code lends are those of the entry
pub parts_lent : (v : Version) (s : Session) (b : List ℕ) (place : ℕ) (e : Entry) (a : Unwrap) (o o' : List ℕ) → WholeAt v b place e
    → unwrap_seen a o'
    ≡ unwraps desk s (take (place + 6 + e.header - (place + 6)) (drop (place + 6) b)) (take (place + 6 + e.header + e.body - (place + 6 + e.header)) (drop (place + 6 + e.header) b))
    (take (e.next - (place + 6 + e.header + e.body)) (drop (place + 6 + e.header + e.body) b)) o → unwrap_seen a o' ≡ unwraps_at v s b place o
parts_lent v s b place e a o o' w p =
    let ei : place + 6 + e.header - (place + 6) ≡ e.header = omega arith in
    let ej : place + 6 + e.header + e.body - (place + 6 + e.header) ≡ e.body = omega arith in
    let ek : e.next - (place + 6 + e.header + e.body) ≡ v.tag = omega arith in
    p ∙ rw (ei, ej, ek, w.is_header, w.is_body) refl

-- the session fits, and the entry is whole
module _ (v : Version) (s : Session) (b : List ℕ) (place : ℕ) (o : List ℕ) (x : Entry) (z : first (own v s) ≡ 0) (e : entry_at v b place ≡ Ok x) where
  -- the last rows of the table
  abbrev pub last_number : ℕ
  last_number = first (last_rows v s b place (length o))

  -- what the opening comes to
  pub open_told : opens_entry v s b place o
      ≡ seen (record { number = last_number; place = by last_number place 0; next = by last_number 0 (next_at v b place); session = by last_number s (next desk s (header_at b place) (body_at s b place)) })
      (by last_number o (body_at s b place ++ drop (length (body_at s b place)) o))
  unfolding opens_entry open_table by
  open_told = rw (z, e) (settle_by last_number place (next_at v b place) s _ o _)

  w : WholeAt v b place x
  w = whole_at v b place x e

  long : (k i : ℕ) → i + k ≤ length b → length (take k (drop i b)) ≡ k
  long k i l = length-take-le k (drop i b) (omega (arith, length-drop i b))

  module _ (bytes : (i : ℕ) → Fits w8 (get_or b i 0)) where
    -- and so an unwrap of the entry's parts
    unwrap_told : unwraps_at v s b place o
        ≡ unwrap_seen (record { number = last_number; session = by last_number s (next desk s (header_at b place) (body_at s b place)) })
        (by last_number o (body_at s b place ++ drop (length (body_at s b place)) o))
    unfolding unwraps settled body_at
    unwrap_told =
        let whole = w in
        let lh : length (header_at b place) ≡ header_length b place = long (header_length b place) (place + 6) (omega arith) in
        let lc : length (cipher_at b place) ≡ body_length b place = long (body_length b place) (place + 6 + header_length b place) (omega arith) in
        rw (lh, lc, unwrap_rows v s (header_length b place) (body_length b place) (length o) (fit v s z) (omega (arith, number_two b place, bytes place, bytes (place + 1))) (omega arith) _)

    pub open_is : (a : Unwrap) (o' : List ℕ) → unwrap_seen a o' ≡ unwraps_at v s b place o
        → seen (record { number = a.number; place = by a.number place 0; next = by a.number 0 x.next; session = a.session }) o' ≡ opens_entry v s b place o
    open_is a o' call =
        let g = call ∙ unwrap_told in
        rw (ap (λ (u : Unwrapped). u.answer.number) g, ap (λ (u : Unwrapped). u.answer.session) g, ap (λ (u : Unwrapped). u.out) g, w.is_next) (sym open_told)

    -- so of a session, and of a refusal
    module _ (t : Session) (o' : List ℕ) where
      pub open_taken : unwrap_seen (record { number = 0; session = t }) o' ≡ unwraps_at v s b place o
          → seen (record { number = 0; place = 0; next = x.next; session = t }) o' ≡ opens_entry v s b place o
      unfolding by
      open_taken call = open_is (record { number = 0; session = t }) o' call

      pub open_stopped : (r : Refusal) → unwrap_seen (record { number = number_of r; session = t }) o' ≡ unwraps_at v s b place o
          → seen (record { number = number_of r; place = place; next = 0; session = t }) o' ≡ opens_entry v s b place o
      open_stopped r call =
          rw (kept (number_of r) place 0 (numbered_refusal r), kept (number_of r) 0 x.next (numbered_refusal r)) at (open_is (record { number = number_of r; session = t }) o' call)
