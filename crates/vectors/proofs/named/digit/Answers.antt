-- The tests of the match place the byte.
use mathlib.Core.Path.{sym}
use native.Mathlib.Omega.{arith}
use Rattle.vectors.proofs.Spelled.{digit_is}
use Rattle.vectors.proofs.named.digit.Goals as goal

pub returns-in-48-to-57 : goal.returns-in-48-to-57
returns-in-48-to-57 c = (digit_is _ _ (λ p. omega arith) (λ p q. omega arith) (λ p q. omega arith) (λ p q. omega arith) (λ p. omega arith), omega arith)

pub returns-in-97-to-102 : goal.returns-in-97-to-102
returns-in-97-to-102 c = (digit_is _ _ (λ p. omega arith) (λ p q. omega arith) (λ p q. omega arith) (λ p q. omega arith) (λ p. omega arith), omega arith)

pub returns-in_default : goal.returns-in_default
returns-in_default c = sym (digit_is _ _ (λ p. omega arith) (λ p q. omega arith) (λ p q. omega arith) (λ p q. omega arith) (λ p. omega arith))

pub returns-in_default-2 : goal.returns-in_default-2
returns-in_default-2 c = sym (digit_is _ _ (λ p. omega arith) (λ p q. omega arith) (λ p q. omega arith) (λ p q. omega arith) (λ p. omega arith))

pub returns-in_default-3 : goal.returns-in_default-3
returns-in_default-3 c = sym (digit_is _ _ (λ p. omega arith) (λ p q. omega arith) (λ p q. omega arith) (λ p q. omega arith) (λ p. omega arith))
