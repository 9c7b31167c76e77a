-- The format of a bundle, byte by byte, and the entry rules (document 01, "Bundle, version 1").
-- Byte 0 is the version. Bytes 1 to 4: how many bytes follow, big-endian. Then entries: header length (2 bytes), body length (4),
-- header, ciphertext, tag of the version's length. Lengths are big-endian.
use Rattle.std.specs.Prelude.{ℕ, ◌+◌, ◌-◌, ◌≤◌, ◌≡◌, refl, List, ◌++◌, Bool, false, length, take, drop, ltb, Result, Ok, Err}
use Rattle.fields.specs.Numbers.{number_at, bytes_of}
use Rattle.refusal.specs.Rows.{pick, outside}
use Rattle.refusal.specs.Limits.{bad_size}
use Rattle.spongewrap.specs.Desk.{desk}
use Rattle.spongewrap.specs.Refusals.{most_body, long_body}
use Rattle.spongewrap.specs.Sessions.{sealing, tag_of}
use Rattle.spongewrap.specs.declared.Session.{Session}
use Rattle.bundle.specs.declared.Entry.{Entry}
use Rattle.bundle.specs.declared.NoEntry.{NoEntry}
use Rattle.bundle.specs.declared.NoEntry.TheVariants.{Short, Large, Past}

-- ---- versions

-- a version's number, and the tag length of its sessions, which is one that a session may have
pub record Version : Type 0 where
  pub number : ℕ
  pub tag : ℕ
  pub fit : bad_size tag ≡ false

abbrev pub version1 : Version
version1 = record { number = 1; tag = 16; fit = refl }

abbrev pub bundle_rate : ℕ
bundle_rate = 136

-- the most bytes of a bundle
abbrev pub most : ℕ
most = 16777216

-- ---- an entry, by its parts

-- its bytes, first those before the ciphertext, for a body of n bytes
abbrev pub front_of : List ℕ → ℕ → List ℕ
front_of h n = bytes_of 2 (length h) ++ (bytes_of 4 n ++ h)

unfoldable pub entry_of : Session → List ℕ → List ℕ → List ℕ
entry_of s h b = front_of h (length b) ++ (sealing desk s h b ++ tag_of desk s h b)

-- how many they are for a header and a body of these lengths

abbrev pub size : Version → ℕ → ℕ → ℕ
size v header body = 6 + header + body + v.tag

-- ---- an entry that is read at a place of b

abbrev pub header_length : List ℕ → ℕ → ℕ
header_length b place = number_at 2 b place

abbrev pub body_length : List ℕ → ℕ → ℕ
body_length b place = number_at 4 b (place + 2)

abbrev pub header_at : List ℕ → ℕ → List ℕ
header_at b place = take (header_length b place) (drop (place + 6) b)

abbrev pub cipher_at : List ℕ → ℕ → List ℕ
cipher_at b place = take (body_length b place) (drop (place + 6 + header_length b place) b)

abbrev pub tag_at : Version → List ℕ → ℕ → List ℕ
tag_at v b place = take v.tag (drop (place + 6 + header_length b place + body_length b place) b)

abbrev pub next_at : Version → List ℕ → ℕ → ℕ
next_at v b place = place + size v (header_length b place) (body_length b place)

-- an entry with these lengths, and this place after it, is whole
pub record WholeAt (v : Version) (b : List ℕ) (place : ℕ) (e : Entry) : Type 0 where
  pub is_header : e.header ≡ header_length b place
  pub is_body : e.body ≡ body_length b place
  pub is_next : e.next ≡ next_at v b place
  pub small : e.body ≤ most_body
  pub ends : e.next ≤ length b

-- ---- the entry rules

-- malformed: under 6 bytes left; a body length over 1,048,576; not enough bytes for the entry
unfoldable pub entry_at : Version → List ℕ → ℕ → Result Entry NoEntry
entry_at v b place =
    pick (ltb (length b - place) 6) (Err Short)
    (pick (long_body (body_length b place)) (Err Large)
    (pick (ltb (length b) (next_at v b place)) (Err Past)
    (Ok (record { header = header_length b place; body = body_length b place; next = next_at v b place }))))

-- entry zero has a label of 16 to 64 bytes and an empty body
abbrev pub bad_label : ℕ → Bool
bad_label n = outside 16 64 n
