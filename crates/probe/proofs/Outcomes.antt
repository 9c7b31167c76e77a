-- Any two outcomes that an export's contract (`Post`) allows of one call are equal: answer, and what each lent buffer holds.
use mathlib.Core.Path.{◌≡◌, sym, ◌∙◌}
use contract.Lifetimes.{Lfts}
use Rattle.image.proofs.Outcomes.{parts}
use Rattle.probe.proofs.hashing.probe_permute.Reads as permute
use Rattle.probe.proofs.hashing.probe_permute_times.Reads as permute_times
use Rattle.probe.proofs.hashing.probe_shake128.Reads as shake128
use Rattle.probe.proofs.hashing.probe_shake256.Reads as shake256
use Rattle.probe.proofs.object.probe_new_duplex.Reads as new_duplex
use Rattle.probe.proofs.object.probe_duplexing.Reads as duplexing
use Rattle.probe.proofs.sessions.probe_open.Reads as opening
use Rattle.probe.proofs.sessions.probe_default_open.Reads as default_open
use Rattle.probe.proofs.sessions.probe_running_wrap.Reads as running_wrap
use Rattle.probe.proofs.sessions.probe_running_unwrap.Reads as running_unwrap
use Rattle.probe.proofs.bundles.probe_survey.Reads as survey
use Rattle.probe.proofs.bundles.probe_entry_at.Reads as entry_at
use Rattle.probe.proofs.bundles.probe_calls_of.Reads as calls_of
use Rattle.probe.proofs.bundles.probe_open_entry.Reads as open_entry
use Rattle.probe.proofs.bundles.probe_start.Reads as start
use Rattle.probe.proofs.bundles.probe_add.Reads as add

one_outcome : {A : Type 0} {x y z : A} → x ≡ z → y ≡ z → x ≡ y
one_outcome e f = e ∙ sym f

-- ---- the permutation and the hashes

pub permute_outcome : (κs : Lfts 1) (a x y s t : _) → permute.Post κs a x s → permute.Post κs a y t
    → (x ≡ y) × (s.0.now ≡ t.0.now)
permute_outcome κs a x y s t e f = let p = parts x y _ _ _ _ (one_outcome e f) in (p.0, p.1)

pub permute_times_outcome : (κs : Lfts 1) (a x y s t : _) → permute_times.Post κs a x s → permute_times.Post κs a y t
    → (x ≡ y) × (s.0.now ≡ t.0.now)
permute_times_outcome κs a x y s t e f = let p = parts x y _ _ _ _ (one_outcome e f) in (p.0, p.1)

pub shake128_outcome : (κs : Lfts 2) (a x y s t : _) → shake128.Post κs a x s → shake128.Post κs a y t → s.1.0.now ≡ t.1.0.now
shake128_outcome κs a x y s t e f = one_outcome e f

pub shake256_outcome : (κs : Lfts 2) (a x y s t : _) → shake256.Post κs a x s → shake256.Post κs a y t → s.1.0.now ≡ t.1.0.now
shake256_outcome κs a x y s t e f = one_outcome e f

-- ---- the duplex object

pub new_duplex_outcome : (κs : Lfts 1) (a x y s t : _) → new_duplex.Post κs a x s → new_duplex.Post κs a y t
    → (x ≡ y) × (s.1.0.now ≡ t.1.0.now)
new_duplex_outcome κs a x y s t e f = let p = parts x y _ _ _ _ (one_outcome e f) in (p.0, p.1)

pub duplexing_outcome : (κs : Lfts 3) (a x y s t : _) → duplexing.Post κs a x s → duplexing.Post κs a y t
    → (x ≡ y) × (s.0.now ≡ t.0.now) × (s.1.1.1.0.now ≡ t.1.1.1.0.now)
duplexing_outcome κs a x y s t e f = parts x y _ _ _ _ (one_outcome e f)

-- ---- sessions

pub open_outcome : (κs : Lfts 2) (a x y s t : _) → opening.Post κs a x s → opening.Post κs a y t
    → (x ≡ y) × (s.1.1.1.0.now ≡ t.1.1.1.0.now)
open_outcome κs a x y s t e f = let p = parts x y _ _ _ _ (one_outcome e f) in (p.0, p.1)

pub default_open_outcome : (κs : Lfts 2) (a x y s t : _) → default_open.Post κs a x s → default_open.Post κs a y t
    → (x ≡ y) × (s.1.0.now ≡ t.1.0.now)
default_open_outcome κs a x y s t e f = let p = parts x y _ _ _ _ (one_outcome e f) in (p.0, p.1)

pub running_wrap_outcome : (κs : Lfts 4) (a x y s t : _) → running_wrap.Post κs a x s → running_wrap.Post κs a y t
    → (x ≡ y) × (s.0.now ≡ t.0.now) × (s.1.1.1.0.now ≡ t.1.1.1.0.now)
running_wrap_outcome κs a x y s t e f = parts x y _ _ _ _ (one_outcome e f)

pub running_unwrap_outcome : (κs : Lfts 5) (a x y s t : _) → running_unwrap.Post κs a x s → running_unwrap.Post κs a y t
    → (x ≡ y) × (s.0.now ≡ t.0.now) × (s.1.1.1.1.0.now ≡ t.1.1.1.1.0.now)
running_unwrap_outcome κs a x y s t e f = parts x y _ _ _ _ (one_outcome e f)

-- ---- bundles

pub survey_outcome : (κs : Lfts 1) (a x y s t : _) → survey.Post κs a x s → survey.Post κs a y t → x ≡ y
survey_outcome κs a x y s t e f = one_outcome e f

pub entry_at_outcome : (κs : Lfts 2) (a x y s t : _) → entry_at.Post κs a x s → entry_at.Post κs a y t
    → (x ≡ y) × (s.1.1.0.now ≡ t.1.1.0.now)
entry_at_outcome κs a x y s t e f = let p = parts x y _ _ _ _ (one_outcome e f) in (p.0, p.1)

pub calls_of_outcome : (κs : Lfts 0) (a x y s t : _) → calls_of.Post κs a x s → calls_of.Post κs a y t → x ≡ y
calls_of_outcome κs a x y s t e f = one_outcome e f

pub open_entry_outcome : (κs : Lfts 3) (a x y s t : _) → open_entry.Post κs a x s → open_entry.Post κs a y t
    → (x ≡ y) × (s.0.now ≡ t.0.now) × (s.1.1.1.0.now ≡ t.1.1.1.0.now)
open_entry_outcome κs a x y s t e f = parts x y _ _ _ _ (one_outcome e f)

pub start_outcome : (κs : Lfts 3) (a x y s t : _) → start.Post κs a x s → start.Post κs a y t
    → (x ≡ y) × (s.0.now ≡ t.0.now) × (s.1.1.0.now ≡ t.1.1.0.now)
start_outcome κs a x y s t e f = parts x y _ _ _ _ (one_outcome e f)

pub add_outcome : (κs : Lfts 4) (a x y s t : _) → add.Post κs a x s → add.Post κs a y t
    → (x ≡ y) × (s.0.now ≡ t.0.now) × (s.1.1.1.0.now ≡ t.1.1.1.0.now)
add_outcome κs a x y s t e f = parts x y _ _ _ _ (one_outcome e f)
