-- The chain folds the pairs of `zip`, and `difference_is` says what that gives.
use Rattle.std.proofs.Common.{rules}
use Rattle.std.proofs.lemmas.Iterator.{YieldsList-from_slice, YieldsList-from_zip}
use Rattle.std.proofs.lemmas.Iterator.Consumers.{YieldsList-at, fold_from_yields_List}
use lib.Bits.{bit_or, bit_xor}
use Rattle.compare.proofs.Same.{difference_is}
use Rattle.compare.proofs.difference.Goals as goal

pub returns : goal.returns
returns c =
    difference_is _ _ _
    (fold_from_yields_List _ (λ d p. bit_or d (bit_xor p.0 p.1)) _ _ c.fold.ensures.ran (YieldsList-from_zip (YieldsList-at c.zip.ensures.first (YieldsList-from_slice c.args.x.now cc)) (YieldsList-from_slice c.args.y.now cc)) (λ a x b q k. search rules))
    c.requires
