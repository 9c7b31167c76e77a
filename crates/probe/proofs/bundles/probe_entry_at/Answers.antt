-- A whole entry's three lengths, stored one after the other, fill the buffer.
use Prim.Native.Nat.{ℕ}
use mathlib.Core.Path.{refl, ap}
use mathlib.Core.List.{List, [], ◌∷◌}
use Rattle.image.specs.Calls.{seen}
use Rattle.image.proofs.Image.{stored}
use Rattle.image.proofs.Calls.{right_length}
use Rattle.probe.proofs.bundles.probe_entry_at.Goals as goal

pub returns-in-Ok : goal.returns-in-Ok
returns-in-Ok c =
    let whole = c.in-Some.ensures.cases in
    let w = c.in-Ok.whole in
    right_length 24 c.args.entry.now [] _ _ whole.long
    (rw (← c.in-Ok.ensures)
    (ap (λ (r : List ℕ). seen 0 r [])
    (stored [] c.in-Some.entry.now _ 0 ((8, w.header) ∷ (8, w.body) ∷ (8, w.next) ∷ []) refl (rw whole.same whole.long)
    (rw (c.put-in-Ok-2.ensures, c.put-in-Ok.ensures, c.put.ensures)))))
