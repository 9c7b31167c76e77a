-- The loop's invariant: lanes and offset are those after the bytes so far. A byte that fills the block has it permuted.
use borrow.Author.Rules.{rules}
use mathlib.Core.Path.{refl, ap, ap₂, ◌∙◌}
use native.Mathlib.Omega.{arith}
use lib.ListN.{length, get_or}
use Rattle.keccak.specs.Rounds.{f1600}
use Rattle.absorber.specs.Absorbing.{absorb_string}
use Rattle.absorber.proofs.Parts.{at, byte_inside, byte_last, stored}
use Rattle.absorber.proofs.Absorbing.absorbed_bytes.Goals as goal
use Rattle.absorber.proofs.Absorbing.absorbed_bytes.Goals.{then-offset-rate, else-offset-rate}

pub loop-byte-init : goal.loop-byte-init
unfolding absorb_string
loop-byte-init c = (search rules, search rules, search rules, refl)

pub loop-byte-preserved : goal.loop-byte-preserved
loop-byte-preserved c =
    let l = c.loop-byte in
    let s = c.args.s.now in
    let x = stored l.lanes l.offset (get_or s l.byte-index 0) (search rules) (omega arith) (c.type_inv.s l.byte-index).fits in
    let m = byte_inside 64 f1600 _ _ s l.byte-index l.lanes l.offset l.invariant.3 (search rules) _ x in
    let n = byte_last 64 f1600 _ _ s l.byte-index l.lanes l.offset l.invariant.3 (search rules) _ x in
    elim c.if-offset-rate.branch [
      | then-offset-rate w ↦ (search rules, omega arith, ap length w.lanes-is ∙ search rules, ap₂ at (w.lanes-is ∙ w.permuted-lanes.ensures) w.offset-is ∙ n w.if-offset-rate.true)
      | else-offset-rate w ↦ (search rules, omega arith, ap length w.lanes-is ∙ search rules, ap₂ at w.lanes-is w.offset-is ∙ m (omega arith))
    ]
