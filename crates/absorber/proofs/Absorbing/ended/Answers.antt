-- The bytes that are in already are zeros of the last piece.
use mathlib.Core.Path.{◌≡◌, ap, ◌∙◌}
use mathlib.Core.List.{List}
use Prim.Native.Nat.{ℕ}
use native.Mathlib.Omega.{arith}
use lib.ListN.{take, replicate}
use Rattle.std.proofs.lemmas.List.{take-replicate}
use Rattle.keccak.specs.Rounds.{f1600}
use Rattle.sponge.specs.Padding.{padded}
use Rattle.sponge.specs.Sponge.{absorb_block}
use Rattle.absorber.proofs.Parts.{ended_by}
use Rattle.absorber.proofs.Absorbing.ended.Goals as goal

pub returns : goal.returns
returns c =
    let a = c.args in
    let n = a.self.offset in
    let r = c.requires.0 in
    let z : take {A = ℕ} n (replicate 200 0) ≡ replicate n 0 = take-replicate n 200 0 (omega arith) in
    ended_by 64 f1600 _ (omega arith) r.most a.self _ _ r.inside c.requires.1
    (c.absorbed_piece.ensures ∙ ap (λ (p : List ℕ). absorb_block 64 f1600 a.self.lanes (padded a.rate a.suffix p)) z)
