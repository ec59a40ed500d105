-- What the commitment by SHA-256 hashes.
use Rattle.std.specs.Prelude.{ℕ, List, ◌++◌, flat_map}
use Rattle.sha2.specs.Sha256.{sha256}
use Rattle.sc_definitions.specs.Seeds.{eight_bytes}
use Rattle.sc_commitments.specs.Matrices.{Matrix, rows_in}

-- the bytes of a matrix: its height, its width, and each value row by row, each number as 8 bytes
unfoldable pub matrix_bytes : Matrix → List ℕ
matrix_bytes m = eight_bytes (rows_in m.values m.width) ++ eight_bytes m.width ++ flat_map eight_bytes m.values

-- the digest of a matrix
abbrev pub digest_of : Matrix → List ℕ
digest_of m = sha256 (matrix_bytes m)
