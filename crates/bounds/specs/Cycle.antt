-- The code's ranges, and what its cycle over them leaves in the two buffers. Assumes nothing.
use Rattle.std.specs.Prelude.{◌≡◌, ℕ, List, ◌++◌, map, drop}
use Rattle.fsmd.specs.Table.{machine_register_count}
use Rattle.bounds.specs.declared.Range.{Range}
use Rattle.bounds.specs.Bounds.{Bounds}
use Rattle.bounds.specs.Operation.{bounds_after}

-- the lowest and the highest words of ranges
abbrev pub bounds_of : List Range → Bounds
bounds_of rs = record { lowest = map (λ r. r.low) rs; highest = map (λ r. r.high) rs }

-- from ls and hs a cycle of state k makes ls' and hs': new words below R, the others as they were
pub record Cycled (t : List ℕ) (k : ℕ) (ls hs ls' hs' : List ℕ) : Type 0 where
  pub lowest : ls' ≡ (bounds_after t ls hs k).lowest ++ drop (machine_register_count t) ls
  pub highest : hs' ≡ (bounds_after t ls hs k).highest ++ drop (machine_register_count t) hs
