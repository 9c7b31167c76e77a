-- cSHAKE and KMAC (NIST SP 800-185, sections 3.3 and 4.3) over any permutation f of lanes of w bits, at a rate of R bytes; n bytes of output.
use Rattle.std.specs.Prelude.{ℕ, ◌+◌, ◌*◌, List, [], ◌∷◌, ◌++◌, eqb, length}
use Rattle.refusal.specs.Rows.{pick}
use Rattle.sponge.specs.Hashes.{hash}
use Rattle.kmac.specs.Encodings.{right_encode, encode_string, bytepad}

-- "KMAC"
abbrev pub kmac_name : List ℕ
kmac_name = 0x4B ∷ 0x4D ∷ 0x41 ∷ 0x43 ∷ []

-- what KMAC gives cSHAKE: the key, the message X, and the length l of the output in bits
unfoldable pub new_x : ℕ → List ℕ → List ℕ → ℕ → List ℕ
new_x R K X l = bytepad (encode_string K) R ++ (X ++ right_encode l)

module _ (w : ℕ) (f : List ℕ → List ℕ) (R : ℕ) where
  -- of the message X, by the function name N and the customisation S: where both are empty, it is SHAKE
  unfoldable pub cshake : List ℕ → ℕ → List ℕ → List ℕ → List ℕ
  cshake X n N S =
      pick (eqb (length N + length S) 0) (hash w f R 0x1F X n)
      (hash w f R 0x04 (bytepad (encode_string N ++ encode_string S) R ++ X) n)

  unfoldable pub kmac : List ℕ → List ℕ → ℕ → List ℕ → List ℕ
  kmac K X n S = cshake (new_x R K X (8 * n)) n kmac_name S

  -- with an output of any length (section 4.3.1): 0 stands for it
  unfoldable pub kmacxof : List ℕ → List ℕ → ℕ → List ℕ → List ℕ
  kmacxof K X n S = cshake (new_x R K X 0) n kmac_name S
