-- The registers before i are chosen, and those from i on stand as they did. Assumes nothing.
use Rattle.std.proofs.Common.{◌≡◌, ℕ, ◌<◌, ◌≤◌, eqb, length, get_or}
use Rattle.word.specs.Word.{choose}
use Rattle.word.proofs.Registers.put.Given as goal

abbrev pub invariant-loop-i : goal.invariant-loop-i
invariant-loop-i l =
    ((k : ℕ) → k < l.i → get_or l.register-items k 0 ≡ choose (eqb k l.index) l.word (get_or l.fn.self.words k 0))
    × ((k : ℕ) → l.i ≤ k → get_or l.register-items k 0 ≡ get_or l.fn.self.words k 0)
    × (length l.register-items ≡ length l.fn.self.words)
