-- A mark at each starter, and what a search does at a block that it meets. Assumes nothing.
use Rattle.std.specs.Prelude.{ℕ, ◌+◌, ◌≤◌, ◌<◌, ◌≡◌, Bool, true, false, not, List, length, get_or}
use Rattle.runs.specs.Lists.{mem, only}
use Rattle.cfg.specs.Layout.{max_blocks}
use Rattle.grouping.specs.Visit.{Visitor}

-- how many of the entries are blank
unfoldable pub blanks : {A : Type 0} → (A → Bool) → List A → ℕ
blanks blank l = length (only blank l)

-- the starters are blocks, none twice, and are those that `marks` has a mark at
pub record Marking (starters : List ℕ) (marks : List Bool) : Type 0 where
  pub marks_64 : length marks ≡ max_blocks
  pub counted : length starters + blanks not marks ≡ max_blocks
  pub marked : (x : ℕ) → x < max_blocks → mem x starters ≡ get_or marks x false
  pub blocks : (x : ℕ) → mem x starters ≡ true → x < max_blocks

-- block x, where the path leads to it: it is gone into and there are fewer left, or it is skipped
abbrev pub Meets : {S : Type 0} → Visitor S → (S → Type 0) → (S → ℕ) → List ℕ → ℕ → S → S → Bool → Type 0
Meets v ready unseen path x s t true = (v.stop path x s ≡ false) × (t ≡ v.enter x s) × ready t × (unseen t < unseen s)
Meets v ready unseen path x s t false = (v.stop path x s ≡ true) × (t ≡ v.skip path x s) × ready t × (unseen t ≤ unseen s)
