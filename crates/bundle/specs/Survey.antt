-- The survey of a bundle (document 01, "Bundle, version 1": "Survey, in order").
use Rattle.std.specs.Prelude.{ℕ, zero, suc, ◌+◌, ◌-◌, List, [], ◌∷◌, Bool, true, not, ◌||◌, length, get_or, eqb, ltb, Result, Ok, Err}
use Rattle.fields.specs.Numbers.{number_at}
use Rattle.refusal.specs.Rows.{pick}
use Rattle.spongewrap.specs.Refusals.{most_pairs}
use Rattle.bundle.specs.declared.Entry.{Entry}
use Rattle.bundle.specs.declared.NoEntry.{NoEntry}
use Rattle.bundle.specs.Format.{Version, most, next_at, entry_at, bad_label}
use Rattle.bundle.specs.Answers.{Told, refused, accepted, placed, ◌or_else◌, entry_told}

-- entry zero is missing, has a body, or its header isn't 16 to 64 bytes
unfoldable pub unlabelled : Result Entry NoEntry → Bool
unlabelled (Ok e) = not (eqb e.body 0) || bad_label e.header
unlabelled (Err cause) = true

-- last, 11 at 5; else the number of entries
unfoldable pub last : Version → List ℕ → ℕ → Told
last v b k = placed 5 ((unlabelled (entry_at v b 5), 11) ∷ []) or_else accepted (k ∷ [])

-- entry by entry: number k is at `place`, and n more may come before entry 65,535, which is 7 at its first byte
unfoldable pub walk_entries : Version → ℕ → List ℕ → ℕ → ℕ → Told
walk_entries v zero b place k = pick (ltb place (length b)) (refused 7 place) (last v b k)
walk_entries v (suc n) b place k =
    pick (ltb place (length b)) (entry_told (entry_at v b place) place or_else walk_entries v n b (next_at v b place) (k + 1)) (last v b k)

unfoldable pub entries_from : Version → List ℕ → ℕ → ℕ → Told
entries_from v b place k = walk_entries v (most_pairs - k) b place k

unfoldable pub surveys : Version → List ℕ → Told
surveys v b =
    placed 0 ((eqb (length b) 0, 9) ∷ (ltb most (length b), 9) ∷ (not (eqb (get_or b 0 0) v.number), 10) ∷ [])
    or_else placed 1 ((ltb (length b) 5, 9) ∷ (not (eqb (number_at 4 b 1) (length b - 5)), 9) ∷ [])
    or_else entries_from v b 5 0
