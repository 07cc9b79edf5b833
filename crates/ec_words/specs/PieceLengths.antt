-- The lengths of pieces of bytes.
use Rattle.std.specs.Prelude.{◌==◌, ℕ, suc, if◌then◌else◌, List, [], ◌∷◌}

-- the length of the first piece, without the byte at its end
abbrev pub piece_len : ℕ → List ℕ → ℕ
piece_len mark [] = 0
piece_len mark (byte ∷ bytes) = if byte == mark then 0 else suc (piece_len mark bytes)
