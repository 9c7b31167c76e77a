-- Sessions: what each call answers and leaves, for every input (document 01, "SpongeWrap" and "Refusal numbers").
use Rattle.std.specs.Prelude.{ℕ, ◌+◌, ◌-◌, List, ◌++◌, Bool, not, length, drop, Result, Ok, Err}
use Rattle.refusal.specs.Rows.{by}
use Rattle.refusal.specs.Numbers.{number_of}
use Rattle.compare.specs.Same.{same}
use Rattle.sponge.specs.Sponge.{zeros}
use Rattle.duplex.specs.Strings.{blocks}
use Rattle.spongewrap.specs.SpongeWrap.{keyed, ciphertext, tagged, left, plaintext}
use Rattle.spongewrap.specs.Refusals.{open_refusal, wrap_refusal, unwrap_refusal}
use Rattle.spongewrap.specs.Kinds.{Kind}
use Rattle.spongewrap.specs.declared.Session.{Session}
use Rattle.spongewrap.specs.declared.Refused.{Refused}

-- the session of zeros, which a refused open gives
abbrev pub none : Session
none = record { lanes = zeros; rate = 0; tag = 0; pairs = 0; calls = 0 }

-- ---- what an accepted pair adds, and what a call leaves

-- the blocks of a header, of a body, and those that a tag takes past its first
unfoldable pub cost : ℕ → ℕ → ℕ → ℕ → ℕ
cost R t header body = blocks R header + blocks R body + (blocks R t - 1)

-- the session after a pair that leaves the lanes l, by the lengths of its header and body
unfoldable pub advanced : Session → List ℕ → ℕ → ℕ → Session
advanced s l header body =
    record {
      lanes = l;
      rate = s.rate;
      tag = s.tag;
      pairs = s.pairs + 1;
      calls = s.calls + cost s.rate s.tag header body;
    }

-- what a call answers: a number, 0 or the refusal's, and a session
pub record Answer : Type 0 where
  pub number : ℕ
  pub session : Session

-- the answer that a result is
abbrev pub answer_of : Result Session Refused → Answer
answer_of (Ok s) = record { number = 0; session = s }
answer_of (Err r) = record { number = number_of r.refusal; session = r.session }

-- what is seen of a call: its answer, and the lent output as it is left
pub record Seen : Type 0 where
  pub answer : Answer
  pub out : List ℕ

abbrev pub seen : Answer → List ℕ → Seen
seen a o = record { answer = a; out = o }

-- by the number n: a refusal keeps the session s and the output o; else the session is s' and x lies over the first bytes of o
unfoldable pub settled : ℕ → Session → List ℕ → Session → List ℕ → Seen
settled n s o s' x = seen (record { number = n; session = by n s s' }) (by n o (x ++ drop (length x) o))

module _ (K : Kind) where
  -- ---- open

  abbrev pub fresh : ℕ → ℕ → List ℕ → Session
  fresh R t key = record { lanes = keyed K.w K.f R key; rate = R; tag = t; pairs = 0; calls = blocks R (length key) }

  unfoldable pub opens : List ℕ → ℕ → ℕ → Answer
  opens key R t =
      record {
        number = open_refusal K (length key) R t;
        session = by (open_refusal K (length key) R t) none (fresh R t key);
      }

  -- ---- an accepted pair

  unfoldable pub next : Session → List ℕ → List ℕ → Session
  next s h b = advanced s (left K.w K.f s.rate s.lanes h b s.tag) (length h) (length b)

  -- what a pair is sealed to: its ciphertext, and its tag
  unfoldable pub sealing : Session → List ℕ → List ℕ → List ℕ
  sealing s h b = ciphertext K.w K.f s.rate s.lanes h b

  unfoldable pub tag_of : Session → List ℕ → List ℕ → List ℕ
  tag_of s h b = tagged K.w K.f s.rate s.lanes h b s.tag

  -- the body of a ciphertext
  unfoldable pub recovered : Session → List ℕ → List ℕ → List ℕ
  recovered s h c = plaintext K.w K.f s.rate s.lanes h c

  -- ---- wrap and unwrap

  unfoldable pub wraps : Session → List ℕ → List ℕ → List ℕ → Seen
  wraps s h b o =
      settled (wrap_refusal K s (length h) (length b) (length o)) s o (next s h b) (sealing s h b ++ tag_of s h b)

  -- the tag t is another than the recomputed one
  unfoldable pub foreign : Session → List ℕ → List ℕ → List ℕ → Bool
  foreign s h c t = not (same t (tag_of s h (recovered s h c)))

  unfoldable pub unwraps : Session → List ℕ → List ℕ → List ℕ → List ℕ → Seen
  unwraps s h c t o =
      settled (unwrap_refusal K s (length h) (length c) (length o) (foreign s h c t)) s o
      (next s h (recovered s h c)) (recovered s h c)
