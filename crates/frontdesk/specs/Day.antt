-- What the calls of desk and office answer (document 01, "Bundle, version 1" and "SpongeWrap").
use Rattle.std.specs.Prelude.{ℕ, zero, suc, ◌-◌, List, [], take, drop, replicate, get_or, Result, Option, Some, None}
use Rattle.std.specs.Option.{unwrap_or}
use Rattle.refusal.specs.Rows.{by, pick}
use Rattle.compare.specs.Same.{same}
use Rattle.spongewrap.specs.Desk.{desk}
use Rattle.spongewrap.specs.Sessions.{opens, wraps, unwraps}
use Rattle.spongewrap.specs.declared.Session.{Session}
use Rattle.bundle.specs.declared.Opened.{Opened}
use Rattle.bundle.specs.declared.Refused.{Refused}
use Rattle.bundle.specs.Format.{version1, bundle_rate, header_at, entry_at}
use Rattle.bundle.specs.Answers.{Told, Reply, entry_told, session_reply}
use Rattle.bundle.specs.Writing.{end_in}
use Rattle.bundle.specs.Opening.{opens_entry}

-- the output that each call is lent
abbrev pub dots : List ℕ
dots = replicate 256 46

-- a new session from a key, with a bundle's settings
abbrev pub bundle_session : List ℕ → Session
bundle_session key = (opens desk key bundle_rate version1.tag).session

-- ---- the office seals entries

-- the session that a call left
abbrev pub left : Result Session Refused → Session
left answer = (session_reply answer).session

-- where the bundle in a buffer ends; 0 where none stands there
abbrev pub bundle_end : List ℕ → ℕ
bundle_end d = unwrap_or (end_in d) 0

-- ---- the desk surveys a bundle and opens entries

-- how many entries a survey found; none where it refused
abbrev pub surveyed : Told → Option ℕ
surveyed t = by t.number None (Some (get_or t.values 0 0))

-- the header of the entry at a place; empty where no entry is whole
unfoldable pub whole_header : List ℕ → ℕ → List ℕ
whole_header b place = by (entry_told (entry_at version1 b place) place).number [] (header_at b place)

unfoldable pub opens_at : Session → List ℕ → ℕ → Reply
opens_at s b place = (opens_entry version1 s b place dots).answer

-- the session after n entries from a place on, each opened by the session that the last one left; one that is refused is the last
unfoldable pub opens_from : ℕ → Session → List ℕ → ℕ → Session
opens_from zero s b place = s
opens_from (suc n) s b place =
    by (opens_at s b place).number (opens_at s b place).session
    (opens_from n (opens_at s b place).session b (opens_at s b place).next)

-- the session after a bundle of n entries whose entry zero has opened: the others follow under the label that is expected
abbrev pub opens_labelled : Opened → List ℕ → List ℕ → ℕ → Session
opens_labelled o label b n = pick (same (whole_header b 5) label) (opens_from (n - 1) o.session b o.next) o.session

-- the same by the reply r to the opening of entry zero
abbrev opens_rest : Reply → List ℕ → List ℕ → ℕ → Session
opens_rest r label b n = by r.number r.session (opens_labelled (record { next = r.next; session = r.session }) label b n)

unfoldable pub opens_bundle : List ℕ → List ℕ → List ℕ → ℕ → Session
opens_bundle key label b n = opens_rest (opens_at (bundle_session key) b 5) label b n

-- ---- a pair outside a bundle: what one side seals, and the session of the other side after it opened that

unfoldable pub sealed_pair : Session → List ℕ → List ℕ → List ℕ
sealed_pair s h b = (wraps desk s h b dots).out

unfoldable pub opens_pair : Session → List ℕ → ℕ → List ℕ → Session
opens_pair s h n o = (unwraps desk s h (take n o) (take 16 (drop n o)) dots).answer.session
