-- What holds of the definitions of specs/Places.
use Rattle.std.specs.Prelude.{ℕ, ◌+◌, ◌*◌, ◌≤◌, ◌<◌}
use Rattle.std.proofs.Common.{arith}
use Rattle.memory.specs.Places.{bool_map, cells, declared_domains, folded, folded_end, ifs_word, int_map, maps_end, table}

-- with 512 declared Booleans and 256 declared integers at most; a place that has cells is a folded word's, and the cells of the last end three behind it
pub maps_apart : (folded_end ≤ bool_map) × (bool_map + 512 ≤ int_map) × (int_map + 256 ≤ maps_end)
maps_apart = (omega arith, omega arith, omega arith)

pub cells_apart : (p : ℕ) → folded < p → p ≤ folded_end + 3 → (maps_end < cells + p) × (cells + p < ifs_word)
cells_apart p l h = (omega arith, omega arith)

pub tables_apart : (ifs_word < declared_domains) × (declared_domains + 3 * 256 ≤ table)
tables_apart = (omega arith, omega arith)
