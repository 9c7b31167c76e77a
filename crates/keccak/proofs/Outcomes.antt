-- Any two outcomes that a contract (`Post`) allows of one call are equal, since it gives the result by an equation.
use mathlib.Core.Path.{◌≡◌, sym, ◌∙◌}
use mathlib.Core.List.{List}
use Prim.Native.Nat.{ℕ}
use contract.Lifetimes.{Lfts}
use Rattle.keccak.proofs.tables.offset_table.Reads as offset_table
use Rattle.keccak.proofs.tables.constant_table.Reads as constant_table
use Rattle.keccak.proofs.theta.Reads as theta
use Rattle.keccak.proofs.rho.Reads as rho
use Rattle.keccak.proofs.pi.Reads as pi
use Rattle.keccak.proofs.chi.Reads as chi
use Rattle.keccak.proofs.iota.Reads as iota
use Rattle.keccak.proofs.permuted.Reads as permuted

one_outcome : {x y d : List ℕ} → x ≡ d → y ≡ d → x ≡ y
one_outcome e f = e ∙ sym f

pub offset_table_outcome : (κs : Lfts 0) (a : _) (x y : List ℕ) (s t : _) → offset_table.Post κs a x s → offset_table.Post κs a y t → x ≡ y
offset_table_outcome κs a x y s t = one_outcome

pub constant_table_outcome : (κs : Lfts 0) (a : _) (x y : List ℕ) (s t : _) → constant_table.Post κs a x s → constant_table.Post κs a y t → x ≡ y
constant_table_outcome κs a x y s t = one_outcome

pub theta_outcome : (κs : Lfts 0) (a : _) (x y : List ℕ) (s t : _) → theta.Post κs a x s → theta.Post κs a y t → x ≡ y
theta_outcome κs a x y s t = one_outcome

pub rho_outcome : (κs : Lfts 0) (a : _) (x y : List ℕ) (s t : _) → rho.Post κs a x s → rho.Post κs a y t → x ≡ y
rho_outcome κs a x y s t = one_outcome

pub pi_outcome : (κs : Lfts 0) (a : _) (x y : List ℕ) (s t : _) → pi.Post κs a x s → pi.Post κs a y t → x ≡ y
pi_outcome κs a x y s t = one_outcome

pub chi_outcome : (κs : Lfts 0) (a : _) (x y : List ℕ) (s t : _) → chi.Post κs a x s → chi.Post κs a y t → x ≡ y
chi_outcome κs a x y s t = one_outcome

pub iota_outcome : (κs : Lfts 0) (a : _) (x y : List ℕ) (s t : _) → iota.Post κs a x s → iota.Post κs a y t → x ≡ y
iota_outcome κs a x y s t = one_outcome

pub permuted_outcome : (κs : Lfts 0) (a : _) (x y : List ℕ) (s t : _) → permuted.Post κs a x s → permuted.Post κs a y t → x ≡ y
permuted_outcome κs a x y s t = one_outcome
