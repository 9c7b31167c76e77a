-- Calls on bundles: their answers, each in one number.
use Rattle.std.specs.Prelude.{ℕ, ◌+◌, ◌*◌, ◌%◌, ◌^◌, List, [], ◌∷◌, get_or, Result, Ok, Err}
use Rattle.refusal.specs.Rows.{by}
use Rattle.bundle.specs.Answers as bundles
use Rattle.bundle.specs.Answers.{Told, Reply}
use Rattle.bundle.specs.declared.Entry.{Entry}
use Rattle.bundle.specs.declared.NoEntry.{NoEntry}
use Rattle.bundle.specs.declared.NoEntry.TheVariants.{Short, Large, Past}
use Rattle.image.specs.Image.{field_bytes, image_of}
use Rattle.image.specs.Calls.{Seen, seen}

-- a number in the low byte, and a place above it, less what does not fit there
abbrev pub packed : ℕ → ℕ → ℕ
packed number place = number + place % 2 ^ 56 * 256

-- a survey's number of entries, or else a refusal's place
abbrev pub packed_told : Told → ℕ
packed_told t = packed t.number (get_or t.values 0 t.place)

-- ---- the entry at a place

-- its header's length, its body's and the next place, eight bytes each; or what its cause is, and the buffer e as it was
abbrev pub of_entry : List ℕ → Result Entry NoEntry → Seen
of_entry e (Ok w) = seen 0 (field_bytes ((8, w.header) ∷ (8, w.body) ∷ (8, w.next) ∷ [])) []
of_entry e (Err Short) = seen 1 e []
of_entry e (Err Large) = seen 2 e []
of_entry e (Err Past) = seen 3 e []

-- ---- calls on the session that an image holds

-- a refusal's place, or else the next entry's
abbrev pub packed_answer : Reply → ℕ
packed_answer a = packed a.number (by a.number a.place a.next)

abbrev pub of_bundle : bundles.Seen → Seen
of_bundle w = seen (packed_answer w.answer) (image_of w.answer.session) w.buffer
