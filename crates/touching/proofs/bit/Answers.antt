-- `touching::bit` meets its contract: no word has a bit from 32 up. Assumes nothing.
use Prim.Native.Nat.{ℕ, ◌/◌, ◌%◌, ◌^◌, ◌<◌, ◌≤◌}
use native.Mathlib.Nat.{pow-le-pow_right, div-eq_of_lt}
use native.Mathlib.Omega.{arith}
use mathlib.Core.Path.{◌≡◌, sym, ap}
use lib.Dec.{eqb}
use Rattle.touching.proofs.bit.Goals as goal

none_above : (w i : ℕ) → w < 2 ^ 32 → 32 ≤ i → w / 2 ^ i ≡ 0
none_above w i low h =
    let p : 2 ^ 32 ≤ 2 ^ i = pow-le-pow_right {n = 2} (omega arith) {i = 32} {j = i} h in
    div-eq_of_lt {n = w} {m = 2 ^ i} (omega arith)

pub returns-then-i-ge32 : goal.returns-then-i-ge32
returns-then-i-ge32 c =
    let a = c.args in
    sym (ap (λ (x : ℕ). eqb (x % 2) 1) (none_above a.word a.i (omega (arith, c.ranges.word)) c.if-i-ge32.true))
