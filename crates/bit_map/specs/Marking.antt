-- Numbers marked one after another, and their bytes made zero again. Only the functions that mark cite these: what all of it comes to is said by
-- `all_below`, `all_different` and `cleared`.
use Rattle.std.specs.Prelude.{ℕ, ◌/◌, Bool, true, false, ◌&&◌, not, cond, List, [], ◌∷◌, ltb, set}
use Rattle.bit_map.specs.BitMap.{is_marked, with_marked}

-- whether all were marked, and the map then
pub record Marking : Type 0 where
  pub all : Bool
  pub map : List ℕ

-- numbers are marked up to the first that is marked already, or is not below the limit
unfoldable pub mark_all : ℕ → List ℕ → List ℕ → Marking
mark_all limit map [] = record { all = true; map = map }
mark_all limit map (n ∷ ns) =
    cond (ltb n limit && not (is_marked map n)) (mark_all limit (with_marked map n) ns) (record { all = false; map = map })

-- the bytes of those that are below the limit are zero
unfoldable pub bytes_zero : ℕ → List ℕ → List ℕ → List ℕ
bytes_zero limit map [] = map
bytes_zero limit map (n ∷ ns) = bytes_zero limit (cond (ltb n limit) (set map (n / 8) 0) map) ns
