-- The front is stored, and the wrap, which is not refused, fills the part behind it.
use borrow.Author.Rules.{rules}
use Rattle.bundle.proofs.Stores.{part_room, is_wrapped, session_next, entry_written}
use Rattle.bundle.proofs.writing.write_entry.Goals as goal

pub unwrap-requires : goal.unwrap-requires
unwrap-requires c = is_wrapped _ _ _ _ _ _ c.requires.0 (search rules) (search (rules, part_room)) _ _ c.wrap.ensures

pub returns : goal.returns
returns c = (search session_next, search entry_written)
